-- A voucher that was added stays under its code with its terms, whatever commands come, so adding
-- it again is a repeat.
use Rattle.std.proofs.Common.{◌≡◌, ℕ, List, [], ◌∷◌, Option, Some, None, Bool, true, false}
use Rattle.std.proofs.Common.{true≢false, refl, sym, ap, ◌∙◌}
use Rattle.std.proofs.lemmas.Option.{none-some}
use Rattle.std.specs.Prelude.{if◌then◌else◌}
use Rattle.std.specs.Cmp.Lexicographic.{bytes_decides}
use Rattle.commands.specs.declared.answer.Answer.TheVariants as answer
use Rattle.commands.specs.declared.command.Command.{Command}
use Rattle.commands.specs.declared.command.Command.TheVariants as command
use Rattle.commands.specs.declared.command.VoucherAddition.{VoucherAddition}
use Rattle.voucher_rules.specs.declared.terms.VoucherTerms.{VoucherTerms}
use Rattle.voucher_rules.specs.declared.voucher.Voucher.{Voucher}
use Rattle.voucher_rules.specs.declared.adding.Addition.TheVariants.{Present, Conflicting}
use Rattle.voucher_rules.specs.declared.redeeming.RedeemRefusal.TheVariants.{VoucherSpent}
use Rattle.std.specs.Prelude.{Err}
use Rattle.voucher_rules.specs.Standing.{is_spent, terms_under}
use Rattle.voucher_rules.specs.Adding.{same_terms, addition, after_addition}
use Rattle.voucher_rules.specs.Redeeming.{DayEnds, bucket_end, redemption_until, after_redemption}
use Rattle.voucher_rules.proofs.Exact.{terms_exact}
use Rattle.shelves.specs.Shelves.{Shelf}
use Rattle.reserving.proofs.Lists.{some_of}
use Rattle.charging.specs.Histories.{History, no_history}
use Rattle.charging.specs.Accepted.{Accepted}
use Rattle.charging.specs.Outcomes.{book_days, addition_outcome}
use Rattle.charging.specs.Served.{voucher, moment_of, accepts, answer_to}
use Rattle.charging.specs.ServedParts.{names_code, voucher_after}
use Rattle.charging.specs.declared.running.DatedCommand.{DatedCommand}
use Rattle.charging.specs.Runs.{after_command, after_commands}

-- ---- a voucher keeps its terms

added_keeps : (found : Voucher) (terms others : VoucherTerms) (same : Bool) →
    Some found.terms ≡ Some terms →
    terms_under (after_addition (if same then Present else Conflicting) (Some found)) ≡ Some terms
added_keeps found terms others true e = e
added_keeps found terms others false e = e

redeemed_keeps : (found : Voucher) (terms : VoucherTerms) (account : List ℕ) (t : ℕ) (spent : Bool)
    (until : Option ℕ) → Some found.terms ≡ Some terms →
    terms_under (after_redemption (if spent then Err VoucherSpent
    else redemption_until until found.terms account t) (Some found)) ≡ Some terms
redeemed_keeps found terms account t true until e = e
redeemed_keeps found terms account t false None e = e
redeemed_keeps found terms account t false (Some x) e = e

keeps_terms : (ends : DayEnds) (c : Command) (t : ℕ) (found : Option Voucher)
    (terms : VoucherTerms) → terms_under found ≡ Some terms →
    terms_under (voucher_after ends c t found) ≡ Some terms
keeps_terms ends (command.Ccr r) t found terms e = e
keeps_terms ends (command.OpenAccount n) t found terms e = e
keeps_terms ends (command.Credit c) t found terms e = e
keeps_terms ends (command.Allow a) t found terms e = e
keeps_terms ends (command.Bar n) t found terms e = e
keeps_terms ends (command.Unbar n) t found terms e = e
keeps_terms ends (command.AddVoucher v) t None terms e = absurd (none-some terms e)
keeps_terms ends (command.AddVoucher v) t (Some w) terms e =
    added_keeps w terms v.terms (same_terms w.terms v.terms) e
keeps_terms ends (command.Redeem r) t None terms e = absurd (none-some terms e)
keeps_terms ends (command.Redeem r) t (Some w) terms e =
    redeemed_keeps w terms r.account t (is_spent (Some w)) (bucket_end ends w.terms t) e
keeps_terms ends command.Sweep t found terms e = e
keeps_terms ends (command.Balance n) t found terms e = e

-- after an accepted command, of this code or of others
keeps_accepted : (b : Shelf) (code : List ℕ) (terms : VoucherTerms) (list : List Accepted)
    (d : Accepted) (taken : Bool) → terms_under (voucher b code list) ≡ Some terms →
    terms_under (voucher b code (if taken then d ∷ list else list)) ≡ Some terms
keeps_accepted b code terms list d false e = e
keeps_accepted b code terms list d true e = at (names_code code d.command)
  where
    at : (named : Bool) → terms_under (if named
        then voucher_after (book_days b) d.command d.moment (voucher b code list)
        else voucher b code list) ≡ Some terms
    at true = keeps_terms (book_days b) d.command d.moment (voucher b code list) terms e
    at false = e

keeps_through : (b : Shelf) (code : List ℕ) (terms : VoucherTerms) (list : List Accepted)
    (ds : List DatedCommand) → terms_under (voucher b code list) ≡ Some terms →
    terms_under (voucher b code (after_commands b list ds)) ≡ Some terms
keeps_through b code terms list [] e = e
keeps_through b code terms list (d ∷ ds) e =
    let t : ℕ = moment_of list d.moment in
    keeps_through b code terms (after_command b list d) ds
    (keeps_accepted b code terms list (record { moment = t; command = d.command })
    (accepts b list d.command t) e)

-- ---- added once

no : {X : Type 0} → false ≡ true → X
no e = absurd (true≢false (sym e))

-- an addition is accepted only where nothing is under its code
free_if_taken : (o : Option Voucher) (terms : VoucherTerms) (h : History) →
    (addition_outcome (addition o terms) h).accepted ≡ true → o ≡ None
free_if_taken None terms h taken = refl
free_if_taken (Some w) terms h taken = at (same_terms w.terms terms) taken
  where
    at : (same : Bool) →
        (addition_outcome (if same then Present else Conflicting) h).accepted ≡ true →
        Some w ≡ None
    at true k = no k
    at false k = no k

-- it is there afterwards
stands_then : (b : Shelf) (list : List Accepted) (v : VoucherAddition) (t : ℕ) →
    voucher b v.code list ≡ None →
    terms_under (voucher b v.code (record { moment = t; command = command.AddVoucher v } ∷ list)) ≡
    Some v.terms
stands_then b list v t free =
    ap (λ named. terms_under (if named
    then after_addition (addition (voucher b v.code list) v.terms) (voucher b v.code list)
    else voucher b v.code list)) ((bytes_decides v.code v.code).1 refl)
    ∙ ap (λ o. terms_under (after_addition (addition o v.terms) o)) free

-- over a voucher of its terms it is present
present_again : (o : Option Voucher) (terms : VoucherTerms) → terms_under o ≡ Some terms →
    addition o terms ≡ Present
present_again None terms e = absurd (none-some terms e)
present_again (Some w) terms e =
    ap (λ same. if same then Present else Conflicting)
    ((terms_exact w.terms terms).1 (some_of w.terms terms e))

pub record IsAddedOnce (b : Shelf) (list after : List Accepted) (v : VoucherAddition) (t u : ℕ) :
    Type 0 where
  pub answer : answer_to b after (command.AddVoucher v) u ≡
      answer_to b list (command.AddVoucher v) t
  pub accepted : accepts b after (command.AddVoucher v) u ≡ false

-- rule: voucher-add.addition-outcome
pub added-once : (b : Shelf) (list : List Accepted) (v : VoucherAddition) (t : ℕ)
    (between : List DatedCommand) (u : ℕ) → accepts b list (command.AddVoucher v) t ≡ true →
    IsAddedOnce b list
    (after_commands b (record { moment = t; command = command.AddVoucher v } ∷ list) between) v t u
added-once b list v t between u taken =
    let first : Accepted = record { moment = t; command = command.AddVoucher v } in
    let free : voucher b v.code list ≡ None =
    free_if_taken (voucher b v.code list) v.terms no_history taken in
    let stands = keeps_through b v.code v.terms (first ∷ list) between
    (stands_then b list v t free) in
    let present : addition (voucher b v.code (after_commands b (first ∷ list) between)) v.terms ≡
    Present =
    present_again (voucher b v.code (after_commands b (first ∷ list) between)) v.terms stands in
    let given : answer_to b list (command.AddVoucher v) t ≡ answer.Done =
    ap (λ o. (addition_outcome (addition o v.terms) no_history).answer) free in
    record {
      answer = (λ i. (addition_outcome (present i) no_history).answer) ∙ sym given;
      accepted = λ i. (addition_outcome (present i) no_history).accepted;
    }
