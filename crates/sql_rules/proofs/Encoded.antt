-- A row whose content is in its rules is in its rules, where it is as the statements write it.
use Rattle.std.proofs.Common.{◌≡◌, ℕ, zero, suc, [], ◌∷◌, drop, Bool, true, false, ◌&&◌, ◌||◌}
use Rattle.std.proofs.Common.{Some, None, refl, sym, ◌∙◌, nat_eq, nat_le, arith}
use Rattle.std.specs.Prelude.{if◌then◌else◌, is_some, ◌==◌}
use Rattle.std.proofs.lemmas.Bool.{and_from, and_parts}
use Rattle.std.proofs.lemmas.Bool.Decides.{nat_tests}
use Rattle.identifiers.specs.Texts.{is_account_number, is_session_id, is_voucher_code}
use Rattle.shelves.specs.Shelves.{Shelf, count}
use Rattle.sqlite_sql.specs.Ops.{is_null}
use Rattle.sqlite_value.specs.declared.value.Value.{Value}
use Rattle.sqlite_value.specs.declared.value.Value.TheVariants.{Null, Int, Real, Text, Blob}
use Rattle.sqlite_value.specs.Order.{Row, column}
use Rattle.sqlite.specs.Values.{or_null}
use Rattle.sqlite_schema.specs.declared.schema.Kind.TheVariants as kind
use Rattle.sqlite_schema.specs.Rules.{is_of}
use Rattle.sql_rows.specs.Plain.{is_plain_group, is_plain_head, is_plain_session}
use Rattle.sql_rows.specs.Values.{nat, nat_in, optional_in, text_in, head_in, bucket_in_row}
use Rattle.sql_rows.specs.Values.{flag_in, flag_number, state_in, state_number, PeriodNames}
use Rattle.sql_rows.specs.Values.{counter_in_row}
use Rattle.sql_rows.specs.Values.{session_in_row, group_in_row, hold_in, answer_in_row}
use Rattle.sql_rows.specs.Values.{voucher_in_row, charge_in_row}
use Rattle.sql_rows.specs.Values.{book_in_row, grant_book_in, covered_in_row}
use Rattle.sql_rules.specs.Columns.{is_in_bounds, is_optional_within, is_moment, is_some_money}
use Rattle.sql_rules.specs.Columns.{is_money, is_next, is_numbering, is_small, is_end}
use Rattle.sql_rules.specs.Columns.{are_some_blocks}
use Rattle.sql_rules.specs.Rules.{are_periods, is_ruled_answer, is_ruled_book}
use Rattle.sql_rules.specs.Rules.{is_ruled_account, is_ruled_bucket, is_ruled_counter}
use Rattle.sql_rules.specs.Rules.{is_ruled_session, is_ruled_group, is_ruled_hold}
use Rattle.sql_rules.specs.Rules.{is_ruled_charge, is_ruled_covered, is_ruled_grant_book}
use Rattle.sql_rules.specs.Rules.{is_ruled_voucher}
use Rattle.sql_rules.specs.Ruled.{is_account, is_answer, is_book, is_bucket, is_charge, is_counter}
use Rattle.sql_rules.specs.Ruled.{is_group, is_session, is_voucher}
use Rattle.sql_rules.proofs.Decoded.{are_named, fourth, periods_are, second, third_fourth}

-- ---- tests of tests

left_or : (b c : Bool) → (b || false) ≡ true → (b || c) ≡ true
left_or true c h = refl
left_or false c h = absurd (cc h)

neither : {A : Type 0} (p q b c : Bool) → p ≡ false → q ≡ false
    → ((p && b && c) || q) ≡ true → A
neither false false b c e f h = absurd (cc h)
neither false true b c e f h = absurd (cc f)
neither true q b c e f h = absurd (cc e)

optional_back : (v : Value)
    → is_optional_within 0 4_294_967_295 (or_null nat (optional_in v)) ≡ true
    → is_optional_within 0 4_294_967_295 v ≡ true
optional_back Null h = refl
optional_back (Int n) h = h
optional_back (Real x) h = refl
optional_back (Text t) h = refl
optional_back (Blob b) h = refl

optional_typed : (low high : ℕ) (v : Value) → is_of kind.Integer v ≡ true
    → is_optional_within low high (or_null nat (optional_in v)) ≡ true
    → is_optional_within low high v ≡ true
optional_typed low high Null is h = refl
optional_typed low high (Int n) is h = h
optional_typed low high (Real x) is h = absurd (cc is)
optional_typed low high (Text t) is h = absurd (cc is)
optional_typed low high (Blob b) is h = absurd (cc is)

-- ---- the tables

pub account_back : (row : Row)
    → is_account (text_in (column row 1)) (head_in (drop 1 row)) ≡ true
    → is_plain_head (drop 1 row) ≡ true → is_ruled_account row ≡ true
account_back [] head plain = absurd (cc head)
account_back (v ∷ cells) head plain =
    second (is_account_number (text_in (column cells 0)))
    (nat_le (flag_number (flag_in (column cells 1))) 1)
    (is_moment (nat_in (column cells 2))) (is_next (nat_in (column cells 3)))
    (is_next (nat_in (column cells 4))) (nat_le (nat_in (column cells 1)) 1) (λ low. plain) head

pub bucket_back : (row : Row) → is_bucket (bucket_in_row (drop 1 row)) ≡ true →
    is_ruled_bucket row ≡ true
bucket_back [] h = absurd (cc h)
bucket_back (v ∷ cells) h =
    fourth (is_numbering (nat_in (column cells 1))) (is_moment (nat_in (column cells 2)))
    (is_end (nat_in (column cells 2)) (nat_in (column cells 3)))
    (is_optional_within 0 4_294_967_295 (or_null nat (optional_in (column cells 4))))
    (is_money (nat_in (column cells 5)))
    (is_optional_within 0 4_294_967_295 (column cells 4)) (optional_back (column cells 4)) h

pub counter_back : (row : Row) → is_counter (counter_in_row (drop 1 row)) ≡ true →
    is_ruled_counter row ≡ true
counter_back [] h = refl
counter_back (v ∷ cells) h = h

pub session_back : (row : Row) → is_session (session_in_row (drop 1 row)) ≡ true
    → is_plain_session (drop 1 row) ≡ true → is_ruled_session row ≡ true
session_back [] h plain = absurd (cc plain)
session_back (v ∷ cells) h plain =
    let parts = and_parts (is_session_id (text_in (column cells 1))
    && is_small (nat_in (column cells 2)) && is_moment (nat_in (column cells 3)))
    (is_in_bounds 1 3 (state_number (state_in (column cells 4)))) h in
    and_from _ _ parts.0 plain

periods_back : (shelf : Shelf) (n : ℕ) (before after : Value)
    → ((nat_eq 0 n && is_null before && is_null after) || nat_eq 1 n) ≡ true
    → are_named shelf (if n == 1
    then Some (record { before = text_in before; after = text_in after })
    else None) ≡ true
    → are_periods shelf n before after ≡ true
periods_back shelf zero before after plain named =
    left_or (is_null before && is_null after) _ plain
periods_back shelf (suc zero) before after plain named = named
periods_back shelf (suc (suc n)) before after plain named =
    neither (nat_eq 0 (suc (suc n))) (nat_eq 1 (suc (suc n))) (is_null before) (is_null after)
    (grind (arith, nat_tests)) (grind (arith, nat_tests)) plain

pub group_back : (shelf : Shelf) (row : Row)
    → is_group shelf (nat_in (column row 3)) (group_in_row (drop 1 row)) ≡ true
    → is_plain_group (drop 1 row) ≡ true → is_ruled_group shelf row ≡ true
group_back shelf [] h plain = refl
group_back shelf (v ∷ cells) h plain =
    let parts = and_parts (is_small (nat_in (column cells 2))
    && nat_le (nat_in (column cells 3)) 1_000_000_000_000_000_000)
    (are_periods shelf (flag_number (is_some (group_in_row cells).periods))
    (or_null (λ (p : PeriodNames). Text p.before) (group_in_row cells).periods)
    (or_null (λ (p : PeriodNames). Text p.after) (group_in_row cells).periods)) h in
    and_from _ _ parts.0
    (periods_back shelf (nat_in (column cells 4)) (column cells 5) (column cells 6) plain
    (sym (periods_are shelf (group_in_row cells).periods) ∙ parts.1))

pub hold_back : (row : Row) → is_some_money (hold_in (drop 1 row)) ≡ true →
    is_ruled_hold row ≡ true
hold_back [] h = absurd (cc h)
hold_back (v ∷ cells) h = h

pub answer_back : (row : Row)
    → is_answer (text_in (column row 1)) (nat_in (column row 2)) (text_in (column row 3))
    (nat_in (column row 4)) (answer_in_row (drop 1 row)) ≡ true
    → is_ruled_answer row ≡ true
answer_back [] h = absurd (cc h)
answer_back (v ∷ cells) h = h

pub voucher_back : (row : Row) → is_of kind.Integer (column row 3) ≡ true
    → is_voucher (text_in (column row 1)) (voucher_in_row (drop 1 row)) ≡ true
    → is_ruled_voucher row ≡ true
voucher_back [] is h = absurd (cc h)
voucher_back (v ∷ cells) is h =
    third_fourth (is_voucher_code (text_in (column cells 0)))
    (is_some_money (nat_in (column cells 1)))
    (is_optional_within 1 3650 (or_null nat (optional_in (column cells 2))))
    (is_optional_within 0 4_294_967_295 (or_null nat (optional_in (column cells 3))))
    (is_optional_within 1 3650 (column cells 2))
    (is_optional_within 0 4_294_967_295 (column cells 3))
    (optional_typed 1 3650 (column cells 2) is) (optional_back (column cells 3)) h

pub charge_back : (row : Row) → is_charge (charge_in_row (drop 1 row)) ≡ true →
    is_ruled_charge row ≡ true
charge_back [] h = absurd (cc h)
charge_back (v ∷ cells) h = h

pub book_back : (row : Row) → is_book (nat_in (column row 1)) (book_in_row (drop 1 row)) ≡ true →
    is_ruled_book row ≡ true
book_back [] h = absurd (cc h)
book_back (v ∷ cells) h = h

pub grant_book_back : (shelf : Shelf) (row : Row)
    → is_in_bounds 1 (count shelf) (grant_book_in (drop 1 row)) ≡ true
    → is_ruled_grant_book shelf row ≡ true
grant_book_back shelf [] h = absurd (cc h)
grant_book_back shelf (v ∷ cells) h = h

pub covered_back : (row : Row) → are_some_blocks (covered_in_row (drop 1 row)) ≡ true →
    is_ruled_covered row ≡ true
covered_back [] h = absurd (cc h)
covered_back (v ∷ cells) h = h
