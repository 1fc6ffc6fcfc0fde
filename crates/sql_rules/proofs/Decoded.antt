-- A row that is in its rules is decoded as a row that is.
use Rattle.std.proofs.Common.{◌≡◌, ℕ, pos, negsuc, List, [], ◌∷◌, drop, Bool, true, false, ◌&&◌}
use Rattle.std.proofs.Common.{Some, None, refl, sym, ◌∙◌, nat_le, nat_eq, is_eq}
use Rattle.std.proofs.Common.{arith, subst}
use Rattle.std.specs.Prelude.{Option, if◌then◌else◌, is_some, ◌==◌}
use Rattle.std.specs.Cmp.{unsigned_Decides}
use Rattle.std.specs.Cmp.Lexicographic.{bytes_decides}
use Rattle.std.proofs.lemmas.Bool.{and_from, and_parts}
use Rattle.std.proofs.lemmas.Bool.Decides.{nat_tests}
use Rattle.identifiers.specs.Texts.{is_account_number, is_session_id, is_voucher_code}
use Rattle.shelves.specs.Shelves.{Shelf, count}
use Rattle.sqlite_value.specs.declared.value.Value.{Value}
use Rattle.sqlite_value.specs.declared.value.Value.TheVariants.{Null, Int, Real, Text, Blob}
use Rattle.sqlite_value.specs.Order.{Row, column, value_cmp}
use Rattle.sqlite.specs.Values.{or_null}
use Rattle.reserving.specs.declared.session.SessionState.{SessionState}
use Rattle.reserving.specs.declared.session.SessionState.TheVariants.{Open, Ended, NeverOpened}
use Rattle.sql_tables.proofs.Keys.{int_tie, text_tie}
use Rattle.sql_rows.specs.Values.{nat, nat_in, optional_in, text_in, meta_in, head_in, flag_in}
use Rattle.sql_rows.specs.Values.{flag_number, state_in, state_number}
use Rattle.sql_rows.specs.Values.{bucket_in_row}
use Rattle.sql_rows.specs.Values.{counter_in_row, session_in_row, group_in_row, hold_in}
use Rattle.sql_rows.specs.Values.{answer_in_row, voucher_in_row}
use Rattle.sql_rows.specs.Values.{charge_in_row, book_in_row, grant_book_in, covered_in_row}
use Rattle.sql_rows.specs.Values.{PeriodNames}
use Rattle.sql_rules.specs.Columns.{is_in_bounds, is_optional_within, is_moment, is_some_money}
use Rattle.sql_rules.specs.Columns.{is_money, is_next, is_numbering, is_small, is_end}
use Rattle.sql_rules.specs.Columns.{are_some_blocks}
use Rattle.sql_rules.specs.Rules.{are_periods, is_period_name, is_ruled_answer, is_ruled_book}
use Rattle.sql_rules.specs.Rules.{is_ruled_grant_book, is_ruled_meta}
use Rattle.sql_rules.specs.Rules.{is_ruled_account, is_ruled_bucket, is_ruled_counter}
use Rattle.sql_rules.specs.Rules.{is_ruled_session, is_ruled_group, is_ruled_hold}
use Rattle.sql_rules.specs.Rules.{is_ruled_charge, is_ruled_covered, is_ruled_voucher}
use Rattle.sql_rules.specs.Ruled.{is_account, is_answer, is_book, is_bucket, is_charge, is_counter}
use Rattle.sql_rules.specs.Ruled.{is_group, is_session, is_voucher}

-- ---- tests of tests

pub second : (a b c d e f : Bool) → (b ≡ true → f ≡ true) → (a && b && c && d && e) ≡ true
    → (a && f && c && d && e) ≡ true
second true true c d e f to h = subst (λ x. (x && c && d && e) ≡ true) (sym (to refl)) h
second true false c d e f to h = absurd (cc h)
second false b c d e f to h = absurd (cc h)

pub optional : (low high : ℕ) (v : Value) → is_optional_within low high v ≡ true →
    is_optional_within low high (or_null nat (optional_in v)) ≡ true
optional low high Null h = refl
optional low high (Int n) h = h
optional low high (Real x) h = refl
optional low high (Text t) h = refl
optional low high (Blob b) h = refl

pub fourth : (a b c d e f : Bool) → (d ≡ true → f ≡ true) → (a && b && c && d && e) ≡ true
    → (a && b && c && f && e) ≡ true
fourth true true true true e true to h = h
fourth true true true true e false to h = absurd (let no : false ≡ true = to refl in cc)
fourth true true true false e f to h = absurd (cc h)
fourth true true false d e f to h = absurd (cc h)
fourth true false c d e f to h = absurd (cc h)
fourth false b c d e f to h = absurd (cc h)

-- ---- what a record always has

flag_small : (b : Bool) → nat_le (flag_number b) 1 ≡ true
flag_small true = refl
flag_small false = refl

stated : (s : SessionState) → is_in_bounds 1 3 (state_number s) ≡ true
stated Open = refl
stated Ended = refl
stated NeverOpened = refl

-- the periods of a reservation have names in a book on the shelf
abbrev pub are_named : Shelf → Option PeriodNames → Bool
are_named shelf None = true
are_named shelf (Some p) = is_period_name shelf p.before && is_period_name shelf p.after

pub periods_are : (shelf : Shelf) (o : Option PeriodNames)
    → are_periods shelf (flag_number (is_some o)) (or_null (λ p. Text p.before) o)
    (or_null (λ p. Text p.after) o) ≡ are_named shelf o
periods_are shelf None = refl
periods_are shelf (Some p) = refl

-- ---- the tables

pub meta_told : (row : Row) → is_ruled_meta row ≡ true
    → is_moment (meta_in (drop 1 row)).last ≡ true
meta_told [] h = absurd (cc h)
meta_told (v ∷ cells) h =
    (and_parts (nat_eq 1 (nat_in (column cells 0))) (is_moment (nat_in (column cells 3))) h).1

pub bucket_told : (row : Row) → is_ruled_bucket row ≡ true
    → is_bucket (bucket_in_row (drop 1 row)) ≡ true
bucket_told [] h = absurd (cc h)
bucket_told (v ∷ cells) h =
    fourth (is_numbering (nat_in (column cells 1))) (is_moment (nat_in (column cells 2)))
    (is_end (nat_in (column cells 2)) (nat_in (column cells 3)))
    (is_optional_within 0 4_294_967_295 (column cells 4)) (is_money (nat_in (column cells 5)))
    (is_optional_within 0 4_294_967_295 (or_null nat (optional_in (column cells 4))))
    (optional 0 4_294_967_295 (column cells 4)) h

pub counter_told : (row : Row) → is_ruled_counter row ≡ true →
    is_counter (counter_in_row (drop 1 row)) ≡ true
counter_told [] h = refl
counter_told (v ∷ cells) h = h

pub session_told : (row : Row) → is_ruled_session row ≡ true →
    is_session (session_in_row (drop 1 row)) ≡ true
session_told [] h = absurd (cc h)
session_told (v ∷ cells) h =
    let parts = and_parts (is_session_id (text_in (column cells 1))
    && is_small (nat_in (column cells 2)) && is_moment (nat_in (column cells 3)))
    (is_in_bounds 1 3 (nat_in (column cells 4))) h in
    and_from _ _ parts.0 (stated (state_in (column cells 4)))

pub hold_told : (row : Row) → is_ruled_hold row ≡ true → is_some_money (hold_in (drop 1 row)) ≡ true
hold_told [] h = absurd (cc h)
hold_told (v ∷ cells) h = h

pub charge_told : (row : Row) → is_ruled_charge row ≡ true
    → is_charge (charge_in_row (drop 1 row)) ≡ true
charge_told [] h = absurd (cc h)
charge_told (v ∷ cells) h = h

pub covered_told : (row : Row) → is_ruled_covered row ≡ true →
    are_some_blocks (covered_in_row (drop 1 row)) ≡ true
covered_told [] h = absurd (cc h)
covered_told (v ∷ cells) h = h

-- ---- reservations

named_if : (shelf : Shelf) (b : Bool) (p : PeriodNames)
    → (b ≡ true → are_named shelf (Some p) ≡ true)
    → are_named shelf (if b then Some p else None) ≡ true
named_if shelf true p to = to refl
named_if shelf false p to = refl

named : (shelf : Shelf) (n : ℕ) (before after : Value) → are_periods shelf n before after ≡ true
    → are_named shelf (if n == 1
    then Some (record { before = text_in before; after = text_in after })
    else None) ≡ true
named shelf n before after h =
    named_if shelf (n == 1) (record { before = text_in before; after = text_in after }) (λ e.
    let one : n ≡ 1 = grind (arith, nat_tests, e) in
    subst (λ m. are_periods shelf m before after ≡ true) one h)

pub group_told : (shelf : Shelf) (row : Row) → is_ruled_group shelf row ≡ true →
    is_group shelf (nat_in (column row 3)) (group_in_row (drop 1 row)) ≡ true
group_told shelf [] h = refl
group_told shelf (v ∷ cells) h =
    let rest = and_parts _ (are_periods shelf (nat_in (column cells 4)) (column cells 5)
    (column cells 6)) h in
    and_from _ _ rest.0 (periods_are shelf (group_in_row cells).periods
    ∙ named shelf (nat_in (column cells 4)) (column cells 5) (column cells 6) rest.1)

pub grant_book_told : (shelf : Shelf) (row : Row) → is_ruled_grant_book shelf row ≡ true →
    is_in_bounds 1 (count shelf) (grant_book_in (drop 1 row)) ≡ true
grant_book_told shelf [] h = absurd (cc h)
grant_book_told shelf (v ∷ cells) h = h

-- ---- with a part of the key

pub account_told : (row : Row) → is_ruled_account row ≡ true →
    is_account (text_in (column row 1)) (head_in (drop 1 row)) ≡ true
account_told [] h = absurd (cc h)
account_told (v ∷ cells) h =
    second (is_account_number (text_in (column cells 0))) (nat_le (nat_in (column cells 1)) 1)
    (is_moment (nat_in (column cells 2))) (is_next (nat_in (column cells 3)))
    (is_next (nat_in (column cells 4))) (nat_le (flag_number (flag_in (column cells 1))) 1)
    (λ low. flag_small (flag_in (column cells 1))) h

pub answer_told : (row : Row) → is_ruled_answer row ≡ true
    → is_answer (text_in (column row 1)) (nat_in (column row 2)) (text_in (column row 3))
    (nat_in (column row 4)) (answer_in_row (drop 1 row)) ≡ true
answer_told [] h = absurd (cc h)
answer_told (v ∷ cells) h = h

pub third_fourth : (a b c d e f : Bool) → (c ≡ true → e ≡ true) → (d ≡ true → f ≡ true)
    → (a && b && c && d) ≡ true → (a && b && e && f) ≡ true
third_fourth true true true true e f to too h = and_from e f (to refl) (too refl)
third_fourth true true true false e f to too h = absurd (cc h)
third_fourth true true false d e f to too h = absurd (cc h)
third_fourth true false c d e f to too h = absurd (cc h)
third_fourth false b c d e f to too h = absurd (cc h)

pub voucher_told : (row : Row) → is_ruled_voucher row ≡ true →
    is_voucher (text_in (column row 1)) (voucher_in_row (drop 1 row)) ≡ true
voucher_told [] h = absurd (cc h)
voucher_told (v ∷ cells) h =
    third_fourth (is_voucher_code (text_in (column cells 0)))
    (is_some_money (nat_in (column cells 1)))
    (is_optional_within 1 3650 (column cells 2))
    (is_optional_within 0 4_294_967_295 (column cells 3))
    (is_optional_within 1 3650 (or_null nat (optional_in (column cells 2))))
    (is_optional_within 0 4_294_967_295 (or_null nat (optional_in (column cells 3))))
    (optional 1 3650 (column cells 2)) (optional 0 4_294_967_295 (column cells 3)) h

pub book_told : (row : Row) → is_ruled_book row ≡ true →
    is_book (nat_in (column row 1)) (book_in_row (drop 1 row)) ≡ true
book_told [] h = absurd (cc h)
book_told (v ∷ cells) h = h

-- ---- what a value that is a part of a key is

pub text_key : (a : List ℕ) (v : Value) → is_eq (value_cmp (Text a) v) ≡ true → text_in v ≡ a
unfolding value_cmp
text_key a Null e = absurd (cc e)
text_key a (Int n) e = absurd (cc e)
text_key a (Real x) e = absurd (cc e)
text_key a (Blob b) e = absurd (cc e)
text_key a (Text t) e = (bytes_decides t a).0 (sym (text_tie t a) ∙ e)

pub number_key : (n : ℕ) (v : Value) → nat_le 1 (nat_in v) ≡ true
    → is_eq (value_cmp (nat n) v) ≡ true
    → nat_in v ≡ n
number_key n Null some e = absurd (cc some)
number_key n (Int (pos m)) some e = (unsigned_Decides m n).0 (sym (int_tie m n) ∙ e)
number_key n (Int (negsuc m)) some e = absurd (cc some)
number_key n (Real x) some e = absurd (cc some)
number_key n (Text t) some e = absurd (cc some)
number_key n (Blob b) some e = absurd (cc some)
