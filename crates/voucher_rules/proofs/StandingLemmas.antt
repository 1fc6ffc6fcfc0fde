-- What commands about vouchers leave under a code, command by command.
use Rattle.std.proofs.Common.{◌≡◌, ℕ, ◌+◌, ◌≤◌, List, [], ◌∷◌, Bool, true, false, Option, Some}
use Rattle.std.proofs.Common.{None, refl, sym, ap, ◌∙◌, arith, true≢false}
use Rattle.std.specs.Prelude.{◌&&◌, if◌then◌else◌, Result, Err, is_ok, is_some, filter}
use Rattle.std.specs.Option.{option_map}
use Rattle.std.specs.Cmp.Lexicographic.{bytes_decides}
use Rattle.identifiers.specs.Texts.{same_name}
use Rattle.identifiers.proofs.Equality.{names_equal}
use Rattle.voucher_rules.specs.declared.terms.VoucherTerms.{VoucherTerms}
use Rattle.voucher_rules.specs.declared.voucher.Voucher.{Voucher}
use Rattle.voucher_rules.specs.declared.adding.Addition.TheVariants.{Present, Conflicting}
use Rattle.voucher_rules.specs.declared.redeeming.Redemption.{Redemption}
use Rattle.voucher_rules.specs.declared.redeeming.RedeemRefusal.{RedeemRefusal}
use Rattle.voucher_rules.specs.declared.redeeming.RedeemRefusal.TheVariants.{VoucherSpent}
use Rattle.voucher_rules.specs.Standing.{is_spent, spent_by, terms_under}
use Rattle.voucher_rules.specs.Adding.{same_terms, addition, after_addition}
use Rattle.voucher_rules.specs.Redeeming.{DayEnds, bucket_end, redemption, redemption_until}
use Rattle.voucher_rules.specs.Redeeming.{after_redemption}
use Rattle.voucher_rules.specs.Histories.{VoucherCommand, Adds, Redeems, Vouchers, is_about}
use Rattle.voucher_rules.specs.Histories.{after_command, is_redeeming, with_command, with_commands}
use Rattle.voucher_rules.specs.Histories.{redemption_count}
use Rattle.voucher_rules.specs.Laws.{IsSpent, IsStanding}

-- ---- choices

no : {X : Type 0} → false ≡ true → X
no e = absurd (true≢false (sym e))

chosen : {A : Type 0} (b : Bool) (x y : A) → b ≡ true → (if b then x else y) ≡ x
chosen true x y e = refl
chosen false x y e = no e

rejected : {A : Type 0} (b : Bool) (x y : A) → b ≡ false → (if b then x else y) ≡ y
rejected true x y e = absurd (true≢false e)
rejected false x y e = refl

-- either way what was there
unchanged : {A : Type 0} (b : Bool) (x y : A) → x ≡ y → (if b then x else y) ≡ y
unchanged true x y e = e
unchanged false x y e = refl

-- ---- over a voucher an addition changes nothing

present_kept : (b : Bool) (found : Option Voucher) →
    after_addition (if b then Present else Conflicting) found ≡ found
present_kept true found = refl
present_kept false found = refl

-- ---- a spent voucher stands as it is

refused_kept : (b : Bool) (x : Result Redemption RedeemRefusal) (found : Option Voucher) →
    b ≡ true → after_redemption (if b then Err VoucherSpent else x) found ≡ found
refused_kept true x found e = refl
refused_kept false x found e = no e

spent_kept : (day_end : DayEnds) (c : VoucherCommand) (found : Option Voucher) →
    is_spent found ≡ true → after_command day_end c found ≡ found
spent_kept day_end c None e = no e
spent_kept day_end (Adds code terms) (Some voucher) e =
    present_kept (same_terms voucher.terms terms) (Some voucher)
spent_kept day_end (Redeems code account t) (Some voucher) e =
    refused_kept (is_spent (Some voucher)) _ (Some voucher) e

spent_with : (day_end : DayEnds) (c : VoucherCommand) (vouchers : Vouchers) (code : List ℕ) →
    is_spent (vouchers code) ≡ true → with_command day_end c vouchers code ≡ vouchers code
spent_with day_end c vouchers code e =
    unchanged (is_about code c) _ _ (spent_kept day_end c (vouchers code) e)

-- rule: redeemed-once
pub spent_stays : (day_end : DayEnds) (cs : List VoucherCommand) (vouchers : Vouchers)
    (code : List ℕ) → is_spent (vouchers code) ≡ true →
    with_commands day_end cs vouchers code ≡ vouchers code
spent_stays day_end [] vouchers code e = refl
spent_stays day_end (c ∷ cs) vouchers code e =
    let same = spent_with day_end c vouchers code e in
    spent_stays day_end cs (with_command day_end c vouchers) code (ap is_spent same ∙ e) ∙ same

-- ---- a redemption spends the voucher, with its terms

until_spends : (until : Option ℕ) (terms : VoucherTerms) (account : List ℕ) (t : ℕ)
    (found : Option Voucher) → is_ok (redemption_until until terms account t) ≡ true →
    after_redemption (redemption_until until terms account t) found
    ≡ Some (spent_by account terms)
until_spends None terms account t found e = no e
until_spends (Some until) terms account t found e = refl

choice_spends : (b : Bool) (x : Result Redemption RedeemRefusal) (found after : Option Voucher) →
    (is_ok x ≡ true → after_redemption x found ≡ after) →
    is_ok (if b then Err VoucherSpent else x) ≡ true →
    after_redemption (if b then Err VoucherSpent else x) found ≡ after
choice_spends true x found after is e = no e
choice_spends false x found after is e = is e

pub redemption_spends : (day_end : DayEnds) (found : Option Voucher) (terms : VoucherTerms)
    (account : List ℕ) (t : ℕ) → terms_under found ≡ Some terms →
    is_ok (redemption day_end found account t) ≡ true →
    after_redemption (redemption day_end found account t) found ≡ Some (spent_by account terms)
redemption_spends day_end None terms account t under e = no e
redemption_spends day_end (Some voucher) terms account t under e =
    choice_spends (is_spent (Some voucher))
    (redemption_until (bucket_end day_end voucher.terms t) voucher.terms account t) (Some voucher)
    (Some (spent_by account voucher.terms))
    (until_spends (bucket_end day_end voucher.terms t) voucher.terms account t (Some voucher)) e
    ∙ ap (option_map (spent_by account)) under

-- ---- so a code is redeemed at most once

refused_not_ok : (b : Bool) (x : Result Redemption RedeemRefusal) → b ≡ true →
    is_ok (if b then Err VoucherSpent else x) ≡ false
refused_not_ok true x e = refl
refused_not_ok false x e = no e

spent_refused : (day_end : DayEnds) (c : VoucherCommand) (found : Option Voucher) →
    is_spent found ≡ true → is_redeeming day_end c found ≡ false
spent_refused day_end (Adds code terms) found e = refl
spent_refused day_end (Redeems code account t) None e = no e
spent_refused day_end (Redeems code account t) (Some voucher) e =
    refused_not_ok (is_spent (Some voucher)) _ e

redeeming_spends : (day_end : DayEnds) (c : VoucherCommand) (found : Option Voucher) →
    is_redeeming day_end c found ≡ true → is_spent (after_command day_end c found) ≡ true
redeeming_spends day_end (Adds code terms) found e = no e
redeeming_spends day_end (Redeems code account t) None e = no e
redeeming_spends day_end (Redeems code account t) (Some voucher) e =
    ap is_spent (redemption_spends day_end (Some voucher) voucher.terms account t refl e)

-- what one command counts, and those after it
sum_of_none : (a b : Bool) (n : ℕ) → b ≡ false → n ≡ 0 → (if a && b then 1 else 0) + n ≡ 0
sum_of_none true true n e z = absurd (true≢false e)
sum_of_none true false n e z = omega (arith, z)
sum_of_none false b n e z = omega (arith, z)

spent_count : (day_end : DayEnds) (code : List ℕ) (cs : List VoucherCommand)
    (vouchers : Vouchers) → is_spent (vouchers code) ≡ true →
    redemption_count day_end code cs vouchers ≡ 0
spent_count day_end code [] vouchers e = refl
spent_count day_end code (c ∷ cs) vouchers e =
    let same = spent_with day_end c vouchers code e in
    sum_of_none (is_about code c) (is_redeeming day_end c (vouchers code)) _
    (spent_refused day_end c (vouchers code) e)
    (spent_count day_end code cs (with_command day_end c vouchers) (ap is_spent same ∙ e))

at_most_one : (a b : Bool) (n : ℕ) → n ≤ 1 → (a ≡ true → b ≡ true → n ≡ 0) →
    (if a && b then 1 else 0) + n ≤ 1
at_most_one true true n few none = let z = none refl refl in omega (arith, z)
at_most_one true false n few none = omega (arith, few)
at_most_one false b n few none = omega (arith, few)

spent_by_it : (day_end : DayEnds) (c : VoucherCommand) (vouchers : Vouchers) (code : List ℕ) →
    is_about code c ≡ true → is_redeeming day_end c (vouchers code) ≡ true →
    is_spent (with_command day_end c vouchers code) ≡ true
spent_by_it day_end c vouchers code about e =
    ap is_spent
    (chosen (is_about code c) (after_command day_end c (vouchers code)) (vouchers code) about)
    ∙ redeeming_spends day_end c (vouchers code) e

-- rule: redeemed-once
pub redeemed_once : (day_end : DayEnds) (code : List ℕ) (cs : List VoucherCommand)
    (vouchers : Vouchers) → redemption_count day_end code cs vouchers ≤ 1
redeemed_once day_end code [] vouchers = omega arith
redeemed_once day_end code (c ∷ cs) vouchers =
    at_most_one (is_about code c) (is_redeeming day_end c (vouchers code)) _
    (redeemed_once day_end code cs (with_command day_end c vouchers))
    (λ about e. spent_count day_end code cs (with_command day_end c vouchers)
    (spent_by_it day_end c vouchers code about e))

pub spent_for_good : (day_end : DayEnds) (vouchers : Vouchers) (code : List ℕ) →
    IsSpent day_end vouchers code
spent_for_good day_end vouchers code = record {
  redeemed = λ account t r terms under e.
      chosen (is_about code (Redeems code account t)) _ _ (names_equal code code refl)
      ∙ redemption_spends day_end (vouchers code) terms account t under (ap is_ok e);
  kept = λ cs e. spent_stays day_end cs vouchers code e;
}

-- ---- a voucher stands for good

no_some : {A X : Type 0} (x : A) → None ≡ Some x → X
no_some x e = no (ap is_some e)

added_kept : (found : Option Voucher) (terms others : VoucherTerms) →
    terms_under found ≡ Some terms → after_addition (addition found others) found ≡ found
added_kept None terms others under = no_some terms under
added_kept (Some voucher) terms others under =
    present_kept (same_terms voucher.terms others) (Some voucher)

-- what stands under another code is as before, and under its own too
added_with : (day_end : DayEnds) (vouchers : Vouchers) (code : List ℕ)
    (terms others : VoucherTerms) → terms_under (vouchers code) ≡ Some terms → (k : List ℕ) →
    with_command day_end (Adds code others) vouchers k ≡ vouchers k
added_with day_end vouchers code terms others under k = at (same_name code k) refl
  where
    at : (t : Bool) → same_name code k ≡ t →
        (if t then after_addition (addition (vouchers k) others) (vouchers k) else vouchers k)
        ≡ vouchers k
    at true e =
        added_kept (vouchers k) terms others
        (ap (λ c. terms_under (vouchers c)) (sym ((bytes_decides code k).0 e)) ∙ under)
    at false e = refl

until_keeps : (until : Option ℕ) (terms : VoucherTerms) (account : List ℕ) (t : ℕ)
    (found : Option Voucher) → terms_under found ≡ Some terms →
    terms_under (after_redemption (redemption_until until terms account t) found) ≡ Some terms
until_keeps None terms account t found under = under
until_keeps (Some until) terms account t found under = refl

choice_keeps : (b : Bool) (x : Result Redemption RedeemRefusal) (found : Option Voucher)
    (terms : VoucherTerms) → terms_under found ≡ Some terms →
    terms_under (after_redemption x found) ≡ Some terms →
    terms_under (after_redemption (if b then Err VoucherSpent else x) found) ≡ Some terms
choice_keeps true x found terms under is = under
choice_keeps false x found terms under is = is

command_keeps : (day_end : DayEnds) (c : VoucherCommand) (found : Option Voucher)
    (terms : VoucherTerms) → terms_under found ≡ Some terms →
    terms_under (after_command day_end c found) ≡ Some terms
command_keeps day_end c None terms under = no_some terms under
command_keeps day_end (Adds code others) (Some voucher) terms under =
    ap terms_under (present_kept (same_terms voucher.terms others) (Some voucher)) ∙ under
command_keeps day_end (Redeems code account t) (Some voucher) terms under =
    choice_keeps (is_spent (Some voucher))
    (redemption_until (bucket_end day_end voucher.terms t) voucher.terms account t) (Some voucher)
    terms under
    (until_keeps (bucket_end day_end voucher.terms t) voucher.terms account t (Some voucher) refl
    ∙ under)

with_keeps : (b : Bool) (after found : Option Voucher) (terms : VoucherTerms) →
    terms_under after ≡ Some terms → terms_under found ≡ Some terms →
    terms_under (if b then after else found) ≡ Some terms
with_keeps true after found terms e under = e
with_keeps false after found terms e under = under

commands_keep : (day_end : DayEnds) (cs : List VoucherCommand) (vouchers : Vouchers)
    (code : List ℕ) (terms : VoucherTerms) → terms_under (vouchers code) ≡ Some terms →
    terms_under (with_commands day_end cs vouchers code) ≡ Some terms
commands_keep day_end [] vouchers code terms under = under
commands_keep day_end (c ∷ cs) vouchers code terms under =
    commands_keep day_end cs (with_command day_end c vouchers) code terms
    (with_keeps (is_about code c) (after_command day_end c (vouchers code)) (vouchers code) terms
    (command_keeps day_end c (vouchers code) terms under) under)

-- rule: redeemed-once.stands-for-good
pub standing_for_good : (day_end : DayEnds) (vouchers : Vouchers) (code : List ℕ)
    (terms : VoucherTerms) → terms_under (vouchers code) ≡ Some terms →
    IsStanding day_end vouchers code terms
standing_for_good day_end vouchers code terms under = record {
  added = λ others k. added_with day_end vouchers code terms others under k;
  terms_kept = λ cs. commands_keep day_end cs vouchers code terms under;
}

-- ---- each code by its own commands

alike_with : (day_end : DayEnds) (c : VoucherCommand) (v w : Vouchers) (code : List ℕ) →
    v code ≡ w code → with_command day_end c v code ≡ with_command day_end c w code
alike_with day_end c v w code e =
    ap (λ found. if is_about code c then after_command day_end c found else found) e

-- from what is alike under the code
apart_from : (day_end : DayEnds) (code : List ℕ) (cs : List VoucherCommand) (v w : Vouchers) →
    v code ≡ w code →
    with_commands day_end cs v code ≡ with_commands day_end (filter (is_about code) cs) w code
apart_from day_end code [] v w e = e
apart_from day_end code (c ∷ cs) v w e =
    at (is_about code c) refl (apart_from day_end code cs (with_command day_end c v))
  where
    at : (t : Bool) → is_about code c ≡ t →
        ((u : Vouchers) → with_command day_end c v code ≡ u code →
        with_commands day_end cs (with_command day_end c v) code
        ≡ with_commands day_end (filter (is_about code) cs) u code) →
        with_commands day_end cs (with_command day_end c v) code
        ≡ with_commands day_end
        (if t then c ∷ filter (is_about code) cs else filter (is_about code) cs) w code
    at true about rest = rest (with_command day_end c w) (alike_with day_end c v w code e)
    at false about rest =
        rest w (rejected (is_about code c) (after_command day_end c (v code)) (v code) about ∙ e)

-- rule: redeemed-once.stands-for-good
pub codes_apart : (day_end : DayEnds) (code : List ℕ) (cs : List VoucherCommand)
    (vouchers : Vouchers) → with_commands day_end cs vouchers code
    ≡ with_commands day_end (filter (is_about code) cs) vouchers code
codes_apart day_end code cs vouchers = apart_from day_end code cs vouchers vouchers refl
