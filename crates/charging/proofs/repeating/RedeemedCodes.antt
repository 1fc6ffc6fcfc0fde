-- A code is redeemed at most once in a run.
use Rattle.std.proofs.Common.{◌≡◌, ℕ, ◌+◌, ◌≤◌, List, [], ◌∷◌, ◌++◌, Option, Some, None, Bool}
use Rattle.std.proofs.Common.{true, false, true≢false, refl, sym, ap, subst, ◌∙◌, arith}
use Rattle.std.specs.Prelude.{if◌then◌else◌, Result, Ok, Err, is_ok}
use Rattle.std.specs.Cmp.Lexicographic.{bytes_decides}
use Rattle.identifiers.specs.Texts.{same_name}
use Rattle.commands.specs.declared.command.Command.{Command}
use Rattle.commands.specs.declared.command.Command.TheVariants as command
use Rattle.commands.specs.declared.command.Content.{Content}
use Rattle.commands.specs.declared.command.Content.TheVariants as content
use Rattle.commands.specs.declared.command.VoucherRedemption.{VoucherRedemption}
use Rattle.commands.specs.declared.answer.Answer.{Answer}
use Rattle.commands.specs.Keys.{key_of}
use Rattle.voucher_rules.specs.declared.redeeming.RedeemRefusal.TheVariants.{VoucherSpent}
use Rattle.voucher_rules.specs.declared.redeeming.Redemption.{Redemption}
use Rattle.voucher_rules.specs.declared.redeeming.RedeemRefusal.{RedeemRefusal}
use Rattle.voucher_rules.specs.declared.voucher.Voucher.{Voucher}
use Rattle.voucher_rules.specs.Standing.{is_spent}
use Rattle.voucher_rules.specs.Redeeming.{DayEnds, bucket_end, redemption, redemption_until}
use Rattle.voucher_rules.specs.Redeeming.{after_redemption}
use Rattle.voucher_rules.specs.Histories.{VoucherCommand, Vouchers, with_command, with_commands}
use Rattle.voucher_rules.proofs.StandingLemmas.{spent_for_good}
use Rattle.shelves.specs.Shelves.{Shelf}
use Rattle.keepers.specs.declared.kept_answer.KeptAnswer.{KeptAnswer}
use Rattle.charging.specs.Histories.{History, kept_under}
use Rattle.charging.specs.Accepted.{Accepted, CommandOutcome}
use Rattle.charging.specs.Outcomes.{book_days, redeem_outcome, outcome}
use Rattle.charging.specs.OutcomeParts.{unless_kept, redemption_outcome, new_redemption}
use Rattle.charging.specs.OutcomeParts.{unopened_outcome}
use Rattle.charging.specs.Served.{voucher, history, moment_of, accepts}
use Rattle.charging.specs.ServedParts.{names_code, voucher_after}
use Rattle.charging.specs.declared.running.DatedCommand.{DatedCommand}
use Rattle.charging.specs.Runs.{after_command, after_commands}
use Rattle.charging.specs.RedeemedCodes.{voucher_command, voucher_commands, IsLeftByThese}
use Rattle.charging.specs.RedeemedCodes.{redemption_count, AreRedeemedOnce, IsRedeemedAtMostOnce}

no : {X : Type 0} → false ≡ true → X
no e = absurd (true≢false (sym e))

-- ---- what is under a code

-- a command leaves under a code what its command of vouchers leaves
one_left : (ends : DayEnds) (c : Command) (t : ℕ) (vouchers : Vouchers) (code : List ℕ) →
    (if names_code code c then voucher_after ends c t (vouchers code) else vouchers code)
    ≡ with_commands ends (voucher_command c t) vouchers code
one_left ends (command.Ccr r) t vouchers code = refl
one_left ends (command.OpenAccount n) t vouchers code = refl
one_left ends (command.Credit c) t vouchers code = refl
one_left ends (command.Allow a) t vouchers code = refl
one_left ends (command.Bar n) t vouchers code = refl
one_left ends (command.Unbar n) t vouchers code = refl
one_left ends (command.AddVoucher v) t vouchers code = refl
one_left ends (command.Redeem r) t vouchers code = refl
one_left ends command.Sweep t vouchers code = refl
one_left ends (command.Balance n) t vouchers code = refl

commands_both : (ends : DayEnds) (xs ys : List VoucherCommand) (vouchers : Vouchers) →
    with_commands ends (xs ++ ys) vouchers
    ≡ with_commands ends ys (with_commands ends xs vouchers)
commands_both ends [] ys vouchers = refl
commands_both ends (x ∷ xs) ys vouchers =
    commands_both ends xs ys (with_command ends x vouchers)

-- rule: redeemed-once.voucher-commands
pub left_by_these : IsLeftByThese
left_by_these b [] code = refl
left_by_these b (d ∷ before) code =
    let ends : DayEnds = book_days b in
    let older : Vouchers = with_commands ends (voucher_commands before) (λ k. None) in
    ap (λ found. if names_code code d.command then voucher_after ends d.command d.moment found
    else found) (left_by_these b before code)
    ∙ one_left ends d.command d.moment older code
    ∙ (λ i. sym (commands_both ends (voucher_commands before)
    (voucher_command d.command d.moment) (λ k. None)) i code)

-- ---- a spent voucher stays

spent_stays : (b : Shelf) (code : List ℕ) (list : List Accepted) (d : Accepted) →
    is_spent (voucher b code list) ≡ true → voucher b code (d ∷ list) ≡ voucher b code list
spent_stays b code list d e =
    let ends : DayEnds = book_days b in
    let vouchers : Vouchers = λ k. voucher b k list in
    one_left ends d.command d.moment vouchers code
    ∙ (spent_for_good ends vouchers code).kept (voucher_command d.command d.moment) e

-- ---- a voucher is redeemed only where it isn't spent, and is spent then

pub record IsSpentNow (ends : DayEnds) (found : Option Voucher) (account : List ℕ)
    (t : ℕ) : Type 0 where
  before : is_spent found ≡ false
  after : is_spent (after_redemption (redemption ends found account t) found) ≡ true

spent_now : (ends : DayEnds) (found : Option Voucher) (account : List ℕ) (t : ℕ) →
    is_ok (redemption ends found account t) ≡ true → IsSpentNow ends found account t
spent_now ends None account t e = no e
spent_now ends (Some w) account t e = record {
  before = unspent (is_spent (Some w)) _ e;
  after = spent (is_spent (Some w)) (bucket_end ends w.terms t) e;
}
  where
    unspent : (x : Bool) (r : Result Redemption RedeemRefusal) →
        is_ok (if x then Err VoucherSpent else r) ≡ true → x ≡ false
    unspent true r k = no k
    unspent false r k = refl

    spent : (x : Bool) (until : Option ℕ) →
        is_ok (if x then Err VoucherSpent
        else redemption_until until w.terms account t) ≡ true →
        is_spent (after_redemption (if x then Err VoucherSpent
        else redemption_until until w.terms account t) (Some w)) ≡ true
    spent true until k = no k
    spent false None k = no k
    spent false (Some until) k = refl

-- ---- an accepted redemption redeems

ok_if_done : (r : VoucherRedemption) (t : ℕ) (h : History) (o : Result Redemption RedeemRefusal) →
    (redemption_outcome o r t h).accepted ≡ true → is_ok o ≡ true
ok_if_done r t h (Ok x) e = refl
ok_if_done r t h (Err refusal) e = no e

fresh_if_done : (found : Option KeptAnswer) (new : Content) (conflict : Answer) (h : History)
    (fresh : CommandOutcome) → (unless_kept found new conflict h fresh).accepted ≡ true →
    fresh.accepted ≡ true
fresh_if_done None new conflict h fresh e = e
fresh_if_done (Some kept) new conflict h fresh e = no e

redeemed_if_done : (b : Shelf) (s : Option Voucher) (h : History) (r : VoucherRedemption) (t : ℕ) →
    (outcome b s h (command.Redeem r) t).accepted ≡ true →
    is_ok (redemption (book_days b) s r.account t) ≡ true
redeemed_if_done b s h r t e = opened h.opened e
  where
    opened : (there : Bool) →
        (if there then redeem_outcome b s r t h
        else unopened_outcome s h (command.Redeem r)).accepted ≡ true →
        is_ok (redemption (book_days b) s r.account t) ≡ true
    opened false k = no k
    opened true k =
        ok_if_done r t h (redemption (book_days b) s r.account t)
        (fresh_if_done (kept_under (key_of (content.Redeem r)) h) (content.Redeem r) _ h
        (new_redemption b s r t h) k)

-- ---- redemptions so far, and the one that is left

abbrev left_if : Bool → ℕ
left_if spent = if spent then 0 else 1

abbrev one_left_of : Option Voucher → ℕ
one_left_of found = left_if (is_spent found)

abbrev so_far : Shelf → List ℕ → List Accepted → ℕ
so_far b code list = redemption_count code list + one_left_of (voucher b code list)

-- where what is spent stays, no more is left
no_more_left : (found after : Option Voucher) → (is_spent found ≡ true → after ≡ found) →
    one_left_of after ≤ one_left_of found
no_more_left found after stays = at (is_spent found) refl
  where
    most : (x : Bool) → left_if x ≤ 1
    most true = omega arith
    most false = omega arith

    at : (x : Bool) → is_spent found ≡ x → one_left_of after ≤ one_left_of found
    at true e = omega (arith, ap one_left_of (stays e))
    at false e =
        omega (arith, most (is_spent after), ap left_if e)

-- an accepted command leaves what is so far as it is, or less
accepted_so_far : (b : Shelf) (code : List ℕ) (list : List Accepted) (c : Command) (t : ℕ) →
    accepts b list c t ≡ true →
    so_far b code (record { moment = t; command = c } ∷ list) ≤ so_far b code list
accepted_so_far b code list (command.Ccr r) t e = omega arith
accepted_so_far b code list (command.OpenAccount n) t e = omega arith
accepted_so_far b code list (command.Credit c) t e = omega arith
accepted_so_far b code list (command.Allow a) t e = omega arith
accepted_so_far b code list (command.Bar n) t e = omega arith
accepted_so_far b code list (command.Unbar n) t e = omega arith
accepted_so_far b code list (command.AddVoucher v) t e =
    let d : Accepted = record { moment = t; command = command.AddVoucher v } in
    omega (
      arith,
      no_more_left (voucher b code list) (voucher b code (d ∷ list)) (spent_stays b code list d),
    )
accepted_so_far b code list (command.Redeem r) t e = at (same_name r.code code) refl
  where
    found : Option Voucher
    found = voucher b code list

    after : Option Voucher
    after = after_redemption (redemption (book_days b) found r.account t) found

    at : (same : Bool) → same_name r.code code ≡ same →
        (if same then 1 else 0) + redemption_count code list
        + one_left_of (if same then after else found)
        ≤ redemption_count code list + one_left_of found
    at false k = omega arith
    at true k =
        let ok : is_ok (redemption (book_days b) found r.account t) ≡ true =
        subst (λ (x : List ℕ). is_ok (redemption (book_days b) (voucher b x list) r.account t)
        ≡ true) ((bytes_decides r.code code).0 k)
        (redeemed_if_done b (voucher b r.code list) (history b r.account list) r t e) in
        let now : IsSpentNow (book_days b) found r.account t =
        spent_now (book_days b) found r.account t ok in
        omega (
          arith,
          ap left_if now.before,
          ap left_if now.after,
        )
accepted_so_far b code list command.Sweep t e = omega arith
accepted_so_far b code list (command.Balance n) t e = omega arith

run_so_far : (b : Shelf) (code : List ℕ) (list : List Accepted) (ds : List DatedCommand) →
    so_far b code (after_commands b list ds) ≤ so_far b code list
run_so_far b code list [] = omega arith
run_so_far b code list (d ∷ ds) =
    omega (
      arith,
      run_so_far b code (after_command b list d) ds,
      at (accepts b list d.command (moment_of list d.moment)) refl,
    )
  where
    at : (v : Bool) → accepts b list d.command (moment_of list d.moment) ≡ v →
        so_far b code
        (if v then record { moment = moment_of list d.moment; command = d.command } ∷ list
        else list) ≤ so_far b code list
    at true e = accepted_so_far b code list d.command (moment_of list d.moment) e
    at false e = omega arith

-- redemptions that were made stay
count_grows : (b : Shelf) (code : List ℕ) (list : List Accepted) (ds : List DatedCommand) →
    redemption_count code list ≤ redemption_count code (after_commands b list ds)
count_grows b code list [] = omega arith
count_grows b code list (d ∷ ds) =
    omega (
      arith,
      count_grows b code (after_command b list d) ds,
      at (accepts b list d.command (moment_of list d.moment)),
    )
  where
    at : (v : Bool) → redemption_count code list ≤ redemption_count code
        (if v then record { moment = moment_of list d.moment; command = d.command } ∷ list
        else list)
    at true = omega arith
    at false = omega arith

-- rule: redeemed-once.redemption-count
pub redeemed_once : (b : Shelf) (code : List ℕ) (list : List Accepted) (ds : List DatedCommand) →
    AreRedeemedOnce b code list ds
redeemed_once b code list ds = record {
  once = omega (arith, run_so_far b code list ds, most (is_spent (voucher b code list)));
  never = λ spent. omega (
    arith,
    run_so_far b code list ds,
    count_grows b code list ds,
    ap left_if spent,
  );
}
  where
    most : (x : Bool) → left_if x ≤ 1
    most true = omega arith
    most false = omega arith

-- rule: redeemed-once.redemption-count
pub redeemed_at_most_once : IsRedeemedAtMostOnce
redeemed_at_most_once b code ds = omega (arith, (redeemed_once b code [] ds).once)
