-- The content of tables whose rows are in their rules.
use Rattle.std.proofs.Common.{◌≡◌, ◌≤◌, ◌<◌, ℕ, pos, negsuc, List, [], ◌∷◌, length, true}
use Rattle.std.proofs.Common.{eqb-true, false}
use Rattle.std.proofs.Common.{Some, None, Option, refl, sym, ap, subst, ◌∙◌, arith, nat_eq}
use Rattle.std.proofs.Common.{inl, inr, drop, IsTrue, nat_le, is_eq}
use Rattle.std.specs.Prelude.{is_some, option_map}
use Rattle.std.specs.Cmp.{unsigned_Decides}
use Rattle.std.specs.Ordering.{eq_by_cmp}
use Rattle.std.proofs.lemmas.Bool.{and_parts}
use Rattle.std.proofs.lemmas.Bool.Decides.{nat_tests}
use Rattle.std.proofs.lemmas.Cmp.{tied_itself}
use Rattle.shelves.specs.Shelves.{Shelf, count}
use Rattle.sqlite_value.specs.declared.value.Value.{Value}
use Rattle.sqlite_value.specs.declared.value.Value.TheVariants.{Null, Int, Real, Text, Blob}
use Rattle.sqlite_value.specs.Order.{Row, column, row_cmp, value_cmp}
use Rattle.sqlite_value.proofs.OrderLemmas.{value_cmp_total}
use Rattle.sqlite_trees.specs.Tree.{Trees, rowid, IsAscending}
use Rattle.sqlite_schema.specs.Rules.{Fits}
use Rattle.sqlite_rules.specs.Lists.{Has}
use Rattle.sqlite_rules.proofs.ListLemmas.{all_has}
use Rattle.sql_tables.specs.Keyed.{look}
use Rattle.sql_tables.specs.Schema.{accounts, allowance_buckets, answers, our_schema, books}
use Rattle.sql_tables.specs.Schema.{buckets}
use Rattle.sql_tables.specs.Schema.{charges, counters, covered, grant_books, holds, key_index}
use Rattle.sql_tables.specs.Schema.{latest, meta, session_groups, sessions, vouchers}
use Rattle.sql_tables.proofs.Keys.{int_tie, keys_split, number_last}
use Rattle.sql_tables.proofs.Selections.{full_key, meets, one_row}
use Rattle.sql_rows.specs.Content.{tables_content, rows_in}
use Rattle.sql_rows.specs.Values.{nat, nat_in, text_in, meta_key, head_key, bucket_key, counter_key}
use Rattle.sql_rows.specs.Values.{session_key, group_key, hold_key, answer_key, voucher_key}
use Rattle.sql_rows.specs.Values.{charge_key, book_key, meta_in, head_in, bucket_in_row}
use Rattle.sql_rows.specs.Values.{counter_in_row}
use Rattle.sql_rows.specs.Values.{session_in_row, group_in_row, hold_in, answer_in_row}
use Rattle.sql_rows.specs.Values.{voucher_in_row, charge_in_row}
use Rattle.sql_rows.specs.Values.{book_in_row, grant_book_in, allowance_in, covered_in_row}
use Rattle.sql_rules.specs.Columns.{is_moment, is_numbering, is_some_money, is_in_bounds}
use Rattle.sql_rules.specs.Columns.{are_some_blocks}
use Rattle.std.specs.List.{AllByRecursion}
use Rattle.sqlite_trees.proofs.ListLemmas.{all_weaker}
use Rattle.sql_tables.specs.Keyed.{IsStored}
use Rattle.sql_rows.specs.declared.head.HeadColumns.{HeadColumns}
use Rattle.reserving.specs.declared.session.Session.{Session}
use Rattle.ledger.specs.declared.charge.ChargeRow.{ChargeRow}
use Rattle.sql_rules.specs.Rules.{is_by, is_ruled_account, is_ruled_allowance, is_timely_at}
use Rattle.sql_rules.specs.Rules.{passes_at, rule_at}
use Rattle.sql_rules.specs.Rules.{is_ruled_answer, is_ruled_book, is_ruled_bucket, is_ruled_charge}
use Rattle.sql_rules.specs.Rules.{is_ruled_counter, is_ruled_covered, is_ruled_grant_book}
use Rattle.sql_rules.specs.Rules.{is_ruled_group, is_ruled_hold, is_ruled_meta, is_ruled_session}
use Rattle.sql_rules.specs.Rules.{is_ruled_voucher}
use Rattle.sql_rules.specs.Ruled.{AreInRules, AreTimely, IsInRulesBy, is_account}
use Rattle.sql_rules.specs.Ruled.{is_answer, is_book, is_bucket}
use Rattle.sql_rules.specs.Ruled.{is_charge, is_counter, is_group, is_session, is_voucher}
use Rattle.sql_rules.specs.Tables.{AreRightBy, last_kept, table_at}
use Rattle.sql_rules.proofs.Decoded.{account_told, answer_told, book_told, bucket_told, charge_told}
use Rattle.sql_rules.proofs.Decoded.{counter_told, covered_told, grant_book_told, group_told}
use Rattle.sql_rules.proofs.Decoded.{hold_told, meta_told, number_key, session_told}
use Rattle.sql_rules.proofs.Decoded.{text_key, voucher_told}
use Rattle.sql_rules.proofs.Lookups.{found_in}
use Rattle.sql_rules.proofs.Written.{answer_of, group_of}

-- ---- parts of keys

first_key : (v w : Value) (vs ws : Row) → eq_by_cmp row_cmp (v ∷ vs) (w ∷ ws) ≡ true →
    is_eq (value_cmp v w) ≡ true
first_key v w vs ws e =
    (and_parts (is_eq (value_cmp v w)) (eq_by_cmp row_cmp vs ws) (sym (keys_split v w vs ws) ∙ e)).0

later_key : (v w : Value) (vs ws : Row) → eq_by_cmp row_cmp (v ∷ vs) (w ∷ ws) ≡ true →
    eq_by_cmp row_cmp vs ws ≡ true
later_key v w vs ws e =
    (and_parts (is_eq (value_cmp v w)) (eq_by_cmp row_cmp vs ws) (sym (keys_split v w vs ws) ∙ e)).1

some_of : {A : Type 0} (o : Option A) → is_some o ≡ true → (x : A) × (o ≡ Some x)
some_of None e = absurd (cc e)
some_of (Some x) e = (x, refl)

from_two : (n : ℕ) → nat_le 2 n ≡ true → nat_le 1 n ≡ true
from_two n e = grind (arith, nat_tests, e)

-- ---- one row of what is kept once

meta_meets : (v : Value) → nat_eq 1 (nat_in v) ≡ true →
    eq_by_cmp row_cmp (nat 1 ∷ []) (v ∷ []) ≡ true
meta_meets Null e = absurd (cc e)
meta_meets (Int (pos m)) e =
    number_last m 1 ∙ (unsigned_Decides m 1).1 (sym ((unsigned_Decides 1 m).0 e))
meta_meets (Int (negsuc m)) e = absurd (cc e)
meta_meets (Real x) e = absurd (cc e)
meta_meets (Text t) e = absurd (cc e)
meta_meets (Blob b) e = absurd (cc e)

alone : (rows : List Row) → ((r s : Row) → Has rows r → Has rows s → r ≡ s)
    → IsAscending (λ a b. is_eq (value_cmp (rowid a) (rowid b)) ≡ false) rows → length rows ≤ 1
alone [] same up = omega arith
alone (r ∷ []) same up = omega arith
alone (r ∷ s ∷ more) same up =
    let is : r ≡ s = same r s (inl refl) (inr (inl refl)) in
    let tie : is_eq (value_cmp (rowid r) (rowid s)) ≡ true =
    ap (λ x. is_eq (value_cmp (rowid r) (rowid x))) (sym is)
    ∙ ap is_eq (tied_itself value_cmp_total (rowid r)) in
    absurd (let clash : true ≡ false = sym tie ∙ up.0.0 in cc)

-- the moments of a row, as it is decoded
second_told : (r : Row) → nat_in (column (drop 1 r) 2) ≡ nat_in (column r 3)
second_told [] = refl
second_told (v ∷ cells) = refl

third_told : (r : Row) → nat_in (column (drop 1 r) 3) ≡ nat_in (column r 4)
third_told [] = refl
third_told (v ∷ cells) = refl

by_from : (n last : ℕ) → nat_le n last ≡ true → n ≤ last
by_from n last e = grind (arith, nat_tests, e)

-- each row is in its rules
pub rows_in_rules : (shelf : Shelf) (trees : Trees)
    → AreRightBy shelf (last_kept trees) latest trees → (at : ℕ) → at < 14 → AllByRecursion (λ r. IsTrue (rule_at shelf at r)) (trees (table_at at).tree)
rows_in_rules shelf trees all at low =
    all_weaker (λ r. IsTrue (passes_at shelf (last_kept trees) at r))
    (λ r. IsTrue (rule_at shelf at r))
    (λ r e. (and_parts (rule_at shelf at r) (is_timely_at (last_kept trees) at r) e).0)
    (trees (table_at at).tree) (all.each at low).rows

record HasRows (shelf : Shelf) (trees : Trees) (at : ℕ) : Type 0 where
  pub stored : IsStored (trees (table_at at).tree)
  pub rows : AllByRecursion (λ r. IsTrue (rule_at shelf at r)) (trees (table_at at).tree)

module _ (shelf : Shelf) (trees : Trees) (fits : Fits our_schema trees)
    (all : AreRightBy shelf (last_kept trees) latest trees) where
  abbrev last : ℕ
  last = last_kept trees

  -- in its rules
  ruled : (at : ℕ) → at < 14 → HasRows shelf trees at
  ruled at low = record {
    stored = (all.each at low).stored;
    rows = rows_in_rules shelf trees all at low;
  }

  -- and not of a moment after the last
  timely : (at : ℕ) → at < 14
      → AllByRecursion (λ r. IsTrue (is_timely_at last at r)) (trees (table_at at).tree)
  timely at low =
      all_weaker (λ r. IsTrue (passes_at shelf last at r)) (λ r. IsTrue (is_timely_at last at r))
      (λ r e. (and_parts (rule_at shelf at r) (is_timely_at last at r) e).1)
      (trees (table_at at).tree) (all.each at low).rows

  one_meta : length (trees meta.tree) ≤ 1
  one_meta =
      let so : HasRows shelf trees 0 = ruled 0 (omega arith) in
      alone (trees meta.tree) (λ r s h k.
      one_row meta.primary our_schema meta (inl refl) (key_index meta) (inl refl) refl refl refl
      trees fits so.stored meta_key
      (λ x e. full_key meta.primary meta_key x (refl, tt) e) r s h k
      (meta_meets (column r 1) (and_parts (nat_eq 1 (nat_in (column r 1)))
      (is_moment (nat_in (column r 4)))
      (all_has (λ x. IsTrue (is_ruled_meta x)) (trees meta.tree) r so.rows h)).0)
      (meta_meets (column s 1) (and_parts (nat_eq 1 (nat_in (column s 1)))
      (is_moment (nat_in (column s 4)))
      (all_has (λ x. IsTrue (is_ruled_meta x)) (trees meta.tree) s so.rows k)).0))
      so.stored.0

  -- what a key says of the columns of the row under it
  group_is : (a s : List ℕ) (g : ℕ) (r : Row) → Has (trees session_groups.tree) r
      → meets (1 ∷ 2 ∷ 3 ∷ []) (group_key a s g) r ≡ true → nat_in (column r 3) ≡ g
  group_is a s g r has met =
      let e = subst (λ key. eq_by_cmp row_cmp (group_key a s g) key ≡ true)
      (group_of shelf trees fits r has) met in
      eqb-true (nat_in (column r 3)) g
      (sym (number_last (nat_in (column r 3)) g)
      ∙ later_key (Text s) (Text (text_in (column r 2))) (nat g ∷ [])
      (nat (nat_in (column r 3)) ∷ [])
      (later_key (Text a) (Text (text_in (column r 1))) (Text s ∷ nat g ∷ [])
      (Text (text_in (column r 2)) ∷ nat (nat_in (column r 3)) ∷ []) e))

  answer_is : (a : List ℕ) (kind : ℕ) (name : List ℕ) (number : ℕ) (r : Row)
      → Has (trees answers.tree) r
      → meets (1 ∷ 2 ∷ 3 ∷ 4 ∷ []) (answer_key a kind name number) r ≡ true
      → is_answer (text_in (column r 1)) (nat_in (column r 2)) (text_in (column r 3))
      (nat_in (column r 4)) (answer_in_row (drop 1 r)) ≡ true
      → is_answer a kind name number (answer_in_row (drop 1 r)) ≡ true
  answer_is a kind name number r has met in' =
      let b = text_in (column r 1) in
      let k = nat_in (column r 2) in
      let t = text_in (column r 3) in
      let n = nat_in (column r 4) in
      let e = subst (λ key. eq_by_cmp row_cmp (answer_key a kind name number) key ≡ true)
      (answer_of shelf trees fits r has) met in
      let first = first_key (Text a) (Text b) (nat kind ∷ Text name ∷ nat number ∷ [])
      (nat k ∷ Text t ∷ nat n ∷ []) e in
      let after = later_key (Text a) (Text b) (nat kind ∷ Text name ∷ nat number ∷ [])
      (nat k ∷ Text t ∷ nat n ∷ []) e in
      let second = first_key (nat kind) (nat k) (Text name ∷ nat number ∷ [])
      (Text t ∷ nat n ∷ []) after in
      let later = later_key (nat kind) (nat k) (Text name ∷ nat number ∷ [])
      (Text t ∷ nat n ∷ []) after in
      let third = first_key (Text name) (Text t) (nat number ∷ []) (nat n ∷ []) later in
      let last = later_key (Text name) (Text t) (nat number ∷ []) (nat n ∷ []) later in
      subst (λ x. is_answer x kind name number (answer_in_row (drop 1 r)) ≡ true)
      (text_key a (Text b) first)
      (subst (λ x. is_answer b x name number (answer_in_row (drop 1 r)) ≡ true)
      (eqb-true k kind (sym (int_tie k kind) ∙ second))
      (subst (λ x. is_answer b k x number (answer_in_row (drop 1 r)) ≡ true)
      (text_key name (Text t) third)
      (subst (λ x. is_answer b k t x (answer_in_row (drop 1 r)) ≡ true)
      (eqb-true n number (sym (number_last n number) ∙ last)) in')))

  account_times : (a : List ℕ) → AreTimely last (rows_in trees a)
  account_times a = record {
    head = λ h e.
        let it = found_in accounts trees (is_by 3 last) (timely 1 (omega arith)) head_in
        (head_key a) h e in
        subst (λ (x : HeadColumns). x.as_of ≤ last) it.3
        (subst (λ n. n ≤ last) (sym (second_told it.0)) (by_from _ last it.2));
    sessions = λ s x e.
        let it = found_in sessions trees (is_by 4 last) (timely 4 (omega arith)) session_in_row
        (session_key a s) x e in
        subst (λ (y : Session). y.touched ≤ last) it.3
        (subst (λ n. n ≤ last) (sym (third_told it.0)) (by_from _ last it.2));
    charges = λ n x e.
        let it = found_in charges trees (is_by 3 last) (timely 9 (omega arith)) charge_in_row
        (charge_key a n) x e in
        subst (λ (y : ChargeRow). y.moment ≤ last) it.3
        (subst (λ m. m ≤ last) (sym (second_told it.0)) (by_from _ last it.2));
  }

  account_rows : (a : List ℕ) → AreInRules shelf last a (rows_in trees a)
  account_rows a = record {
    timely = account_times a;
    head = λ h e.
        let it = found_in accounts trees is_ruled_account (ruled 1 (omega arith)).rows head_in
        (head_key a) h e in
        subst (λ x. is_account a x ≡ true) it.3
        (subst (λ t. is_account t (head_in (drop 1 it.0)) ≡ true)
        (text_key a (column it.0 1) (first_key (Text a) (column it.0 1) [] [] it.1))
        (account_told it.0 it.2));
    buckets = λ n b e.
        let it = found_in buckets trees is_ruled_bucket (ruled 2 (omega arith)).rows bucket_in_row
        (bucket_key a n) b e in
        subst (λ x. is_bucket x ≡ true) it.3 (bucket_told it.0 it.2);
    counters = λ g k x e.
        let it = found_in counters trees is_ruled_counter (ruled 3 (omega arith)).rows
        counter_in_row
        (counter_key a g k) x e in
        subst (λ y. is_counter y ≡ true) it.3 (counter_told it.0 it.2);
    sessions = λ s x e.
        let it = found_in sessions trees is_ruled_session (ruled 4 (omega arith)).rows
        session_in_row
        (session_key a s) x e in
        subst (λ y. is_session y ≡ true) it.3 (session_told it.0 it.2);
    groups = λ s g x e.
        let it = found_in session_groups trees (is_ruled_group shelf) (ruled 5 (omega arith)).rows
        group_in_row (group_key a s g) x e in
        subst (λ y. is_group shelf g y ≡ true) it.3
        (subst (λ n. is_group shelf n (group_in_row (drop 1 it.0)) ≡ true)
        (group_is a s g it.0 it.4 it.1) (group_told shelf it.0 it.2));
    holds = λ s g n amount e.
        let it = found_in holds trees is_ruled_hold (ruled 6 (omega arith)).rows hold_in
        (hold_key a s g n) amount e in
        subst (λ y. is_some_money y ≡ true) it.3 (hold_told it.0 it.2);
    answers = λ kind name number k e.
        let it = found_in answers trees is_ruled_answer (ruled 7 (omega arith)).rows answer_in_row
        (answer_key a kind name number) k e in
        subst (λ y. is_answer a kind name number y ≡ true) it.3
        (answer_is a kind name number it.0 it.4 it.1 (answer_told it.0 it.2));
    charges = λ n x e.
        let it = found_in charges trees is_ruled_charge (ruled 9 (omega arith)).rows charge_in_row
        (charge_key a n) x e in
        subst (λ y. is_charge y ≡ true) it.3 (charge_told it.0 it.2);
    grant_books = λ s g n e.
        let it = found_in grant_books trees (is_ruled_grant_book shelf)
        (ruled 11 (omega arith)).rows grant_book_in (group_key a s g) n e in
        subst (λ y. is_in_bounds 1 (count shelf) y ≡ true) it.3 (grant_book_told shelf it.0 it.2);
    allowances = λ n e.
        let some =
        some_of (option_map allowance_in (look allowance_buckets trees (bucket_key a n))) e in
        let it = found_in allowance_buckets trees is_ruled_allowance (ruled 12 (omega arith)).rows
        allowance_in (bucket_key a n) some.0 some.1 in
        let low = and_parts (nat_le 1 (nat_in (column it.0 2)))
        (nat_le (nat_in (column it.0 2)) 4_294_967_295) it.2 in
        subst (λ m. is_numbering m ≡ true)
        (number_key n (column it.0 2) low.0
        (first_key (nat n) (column it.0 2) [] []
        (later_key (Text a) (column it.0 1) (nat n ∷ []) (column it.0 2 ∷ []) it.1))) it.2;
    covered = λ n blocks e.
        let it = found_in covered trees is_ruled_covered (ruled 13 (omega arith)).rows
        covered_in_row
        (charge_key a n) blocks e in
        subst (λ y. are_some_blocks y ≡ true) it.3 (covered_told it.0 it.2);
  }

  -- rule: rows-ruled.in-rules
  pub content_ruled : IsInRulesBy shelf last (tables_content trees)
  content_ruled = record {
    once = one_meta;
    meta = λ m e.
        let it =
        found_in meta trees is_ruled_meta (ruled 0 (omega arith)).rows meta_in meta_key m e in
        subst (λ x. is_moment x.last ≡ true) it.3 (meta_told it.0 it.2);
    rows = account_rows;
    vouchers = λ code x e.
        let it = found_in vouchers trees is_ruled_voucher (ruled 8 (omega arith)).rows
        voucher_in_row
        (voucher_key code) x e in
        subst (λ y. is_voucher code y ≡ true) it.3
        (subst (λ t. is_voucher t (voucher_in_row (drop 1 it.0)) ≡ true)
        (text_key code (column it.0 1) (first_key (Text code) (column it.0 1) [] [] it.1))
        (voucher_told it.0 it.2));
    books = λ n x e.
        let it = found_in books trees is_ruled_book (ruled 10 (omega arith)).rows book_in_row
        (book_key n) x e in
        let low = and_parts (nat_le 2 (nat_in (column it.0 1))) (nat_le (nat_in (column it.0 1)) 16)
        (and_parts (is_in_bounds 2 16 (nat_in (column it.0 1)))
        (is_in_bounds 1 4_102_444_799 (nat_in (column it.0 2))) it.2).0 in
        subst (λ y. is_book n y ≡ true) it.3
        (subst (λ m. is_book m (book_in_row (drop 1 it.0)) ≡ true)
        (number_key n (column it.0 1) (from_two (nat_in (column it.0 1)) low.0)
        (first_key (nat n) (column it.0 1) [] [] it.1))
        (book_told it.0 it.2));
  }
