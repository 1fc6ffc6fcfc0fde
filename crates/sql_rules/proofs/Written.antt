-- Rows of tables whose content is in its rules, as the statements write them, are in their rules.
use Rattle.std.proofs.Common.{◌≡◌, ◌≤◌, ◌<◌, ℕ, zero, suc, List, [], ◌∷◌, drop, length, Bool, true}
use Rattle.std.proofs.Common.{false, not, Some, None, Option, refl, sym, ap, subst, ◌∙◌, arith}
use Rattle.std.proofs.Common.{nat_lt, ◌&&◌}
use Rattle.std.proofs.Common.{inl, inr, get_or, nat_eq, nat_le, IsTrue}
use Rattle.std.specs.Prelude.{option_map, is_some, ◌==◌, if◌then◌else◌}
use Rattle.std.specs.FinMap.{get-from_entries}
use Rattle.std.specs.Ordering.{eq_by_cmp}
use Rattle.std.specs.List.{AllByRecursion}
use Rattle.std.proofs.lemmas.Bool.{and_from, and_parts}
use Rattle.std.proofs.lemmas.Bool.Decides.{nat_tests}
use Rattle.shelves.specs.Shelves.{Shelf}
use Rattle.reserving.specs.Left.{is_open_row}
use Rattle.reserving.specs.Sessions.{is_open}
use Rattle.sqlite_sql.specs.Term.{Term, eval}
use Rattle.sqlite_sql.specs.declared.ops.CompareOp.TheVariants.{Eq, Ge, Gt, Ne}
use Rattle.sqlite_sql.specs.Ops.{is_false, is_null}
use Rattle.sqlite_value.specs.declared.value.Value.{Value}
use Rattle.sqlite_value.specs.declared.value.Value.TheVariants.{Text}
use Rattle.sqlite_value.specs.Order.{Row, column, row_cmp}
use Rattle.sqlite_value.proofs.OrderLemmas.{row_cmp_total}
use Rattle.sqlite_trees.specs.Tree.{Trees}
use Rattle.sqlite_schema.specs.declared.schema.Column.{Column}
use Rattle.sqlite_schema.specs.declared.schema.Kind.TheVariants as kind
use Rattle.sqlite_schema.specs.declared.schema.Table.{Table}
use Rattle.sqlite_schema.specs.Rules.{Fits, is_of, passes_checks, suits}
use Rattle.sqlite_rules.specs.Lists.{Has}
use Rattle.sqlite_rules.proofs.ListLemmas.{all_has}
use Rattle.sql_tables.specs.Keyed.{IsStored, entries_of, key_of, look}
use Rattle.sql_tables.specs.Schema.{at_least_zero, our_schema}
use Rattle.sql_tables.specs.Schema.{latest, meta, number, vouchers}
use Rattle.sql_tables.specs.Statements.{AreStored}
use Rattle.sql_tables.proofs.Keys.{number_last}
use Rattle.sql_tables.proofs.Selections.{met_some}
use Rattle.sql_rows.specs.Content.{rows_in, tables_content}
use Rattle.sql_rows.specs.Plain.{ArePlain}
use Rattle.sql_rows.specs.Values.{Meta, nat, nat_in, text_in, meta_key, head_key, bucket_key}
use Rattle.sql_rows.specs.Values.{counter_key, session_key, group_key, hold_key, answer_key}
use Rattle.sql_rows.specs.Values.{voucher_key, charge_key, book_key, meta_in, head_in}
use Rattle.sql_rows.specs.Values.{bucket_in_row}
use Rattle.sql_rows.specs.Values.{counter_in_row, session_in_row, group_in_row, hold_in}
use Rattle.sql_rows.specs.Values.{answer_in_row, voucher_in_row}
use Rattle.sql_rows.specs.Values.{charge_in_row, book_in_row, grant_book_in, allowance_in}
use Rattle.sql_rows.specs.Values.{PeriodNames, covered_in_row, state_in}
use Rattle.sql_rows.proofs.queries.Tests.{open_tested}
use Rattle.sql_rows.proofs.rules.MetaRules.{right_at}
use Rattle.sql_rules.specs.Columns.{is_moment}
use Rattle.sql_rules.specs.Rules.{is_ruled_meta, is_timely_at, passes_at, rule_at}
use Rattle.sql_rules.specs.Beside.{differs, is_ahead, is_bucket_ahead, is_equal, is_from}
use Rattle.sql_rules.specs.Beside.{is_above, is_touched_after, lacks_open_session}
use Rattle.sql_rules.specs.GrantRows.{HaveBooks}
use Rattle.sql_rules.specs.Ruled.{IsInRules, is_bucket_numbered, is_numbered, is_reached}
use Rattle.sql_rules.specs.Ruled.{is_reserved}
use Rattle.sql_rules.specs.Tables.{AreEachRuled, AreRuled, last_kept, table_at}
use Rattle.sql_rules.proofs.BesideRows.{above_told, behind, compared, differs_told, equals_text}
use Rattle.sql_rules.proofs.BesideRows.{from_told}
use Rattle.sql_rules.proofs.BesideRows.{number_same}
use Rattle.sql_rules.proofs.Encoded.{account_back, answer_back, book_back, bucket_back}
use Rattle.sql_rules.proofs.Encoded.{charge_back, counter_back, covered_back, grant_book_back}
use Rattle.sql_rules.proofs.Encoded.{group_back, hold_back, session_back, voucher_back}
use Rattle.sql_rules.proofs.Lookups.{mapped, untimed}
use Rattle.sql_rules.proofs.MappedRows.{full_rows, keyed, under_key}
use Rattle.sql_rules.proofs.Typed.{check_at, number_column, text_column, typed_column}

-- ---- a row alone

abbrev right : Row → Term → Bool
right row t = not (is_false (eval t ([] ∷ row ∷ [])))

pub checked : (table : Table) (row : Row) (i : ℕ) → i < length table.checks
    → passes_checks table row ≡ true → right row (get_or table.checks i (at_least_zero 1)) ≡ true
checked table row i low h = check_at (right row) table.checks i (at_least_zero 1) low h

abbrev pub none_named : Column
none_named = number []

all_from : (P : Row → Type 0) (rows : List Row) → ((r : Row) → Has rows r → P r) →
    AllByRecursion P rows
all_from P [] each = tt
all_from P (r ∷ rows) each = (each r (inl refl), all_from P rows (λ s h. each s (inr h)))

only_one : (rows : List Row) → length rows ≤ 1 → (r s : Row) → Has rows r → Has rows s → r ≡ s
only_one [] low r s h k = absurd h
only_one (x ∷ []) low r s h k = first h ∙ sym (first k)
  where
    first : {t : Row} → Has (x ∷ []) t → t ≡ x
    first (inl e) = e
    first (inr none) = absurd none
only_one (x ∷ y ∷ more) low r s h k = absurd (omega (arith, low))

typed_or : (v : Value) → (is_null v ≡ false → is_of kind.Integer v ≡ true) →
    is_of kind.Integer v ≡ true
typed_or v to = at (is_null v) refl
  where
    at : (b : Bool) → is_null v ≡ b → is_of kind.Integer v ≡ true
    at true e = rw e refl
    at false e = to e

some_of : {A : Type 0} (o : Option A) → is_some o ≡ true → (x : A) × (o ≡ Some x)
some_of None e = absurd (cc e)
some_of (Some x) e = (x, refl)

third_of : (r : Row) → nat_in (column (drop 1 r) 2) ≡ nat_in (column r 3)
third_of [] = refl
third_of (v ∷ cells) = refl

from_by : (n last : ℕ) → n ≤ last → nat_le n last ≡ true
from_by n last by = grind (arith, nat_tests, by)

fourth_at : (r : Row) → nat_in (column (drop 1 r) 3) ≡ nat_in (column r 4)
fourth_at [] = refl
fourth_at (v ∷ cells) = refl

number_one : (k : ℕ) → nat_eq k 1 ≡ true → nat_eq 1 k ≡ true
number_one k e = grind (arith, nat_tests, e)

-- ---- values that are compared

no_number : {A : Type 0} (n k : ℕ) → nat_le k n ≡ true → nat_lt n k ≡ true → A
no_number n k e f = absurd (grind (arith, nat_tests, e, f))

never_differs : (n : ℕ) → n ≡ 1 → differs (nat n) (nat 1) ≡ true → ⊥
never_differs n e h =
    let t : not (nat_eq 1 n) ≡ true = sym (differs_told n 1) ∙ h in
    let u : not (nat_eq 1 1) ≡ true = subst (λ m. not (nat_eq 1 m) ≡ true) e t in
    cc u

is_held : (cells : Row) → nat_in (column cells 4) ≡ 1 → is_reserved (Some (group_in_row cells)) ≡ true
is_held cells e = at (record { before = text_in (column cells 5); after = text_in (column cells 6) })
    (nat_in (column cells 4) == 1) (ap (λ n. n == 1) e)
  where
    at : (p : PeriodNames) (b : Bool) → b ≡ true → is_some (if b then Some p else None) ≡ true
    at p true e = refl
    at p false e = absurd (cc e)

-- ---- the rows of the tables

module _ (shelf : Shelf) (trees : Trees) (fits : Fits our_schema trees) where
  abbrev pub Stands : ℕ → Row → Type 0
  Stands at r = Has (trees (table_at at).tree) r

  pub full : (at : ℕ) (low : at < 14) (r : Row) → Stands at r
      → AllByRecursion (λ p. is_null (column r p) ≡ false) (table_at at).primary
  full at low r has = full_rows shelf trees fits (table_at at) (keyed at low) r has

  -- the text, and the number, in a column of the key
  text_there : (at : ℕ) (low : at < 14) (r : Row) → Stands at r → (k : ℕ)
      → k < length (table_at at).columns → is_null (column r (suc k)) ≡ false
      → ((v : Value) → suits (get_or (table_at at).columns k none_named) v ≡ true
      → is_of kind.Text v ≡ true)
      → column r (suc k) ≡ Text (text_in (column r (suc k)))
  text_there at low r has k inside there kinds =
      text_column trees fits (table_at at) (keyed at low) r has (keyed at low).alone k none_named
      inside there kinds

  pub number_there : (at : ℕ) (low : at < 14) (r : Row) → Stands at r → (k : ℕ)
      → k < length (table_at at).columns → is_null (column r (suc k)) ≡ false
      → ((v : Value) → suits (get_or (table_at at).columns k none_named) v ≡ true
      → is_of kind.Integer v ≡ true)
      → (passes_checks (table_at at) r ≡ true → right_at r (suc k) ≡ true)
      → column r (suc k) ≡ nat (nat_in (column r (suc k)))
  number_there at low r has k inside there kinds checks =
      number_column trees fits (table_at at) (keyed at low) r has (keyed at low).alone k
      none_named inside there kinds checks

  -- ---- the keys of the tables

  pub id_of : (r : Row) → Stands 0 r
      → key_of (table_at 0).primary r ≡ book_key (nat_in (column r 1))
  id_of r has =
      let low : 0 < 14 = omega arith in
      let there = full 0 low r has in
      let v1 = number_there 0 low r has 0 (omega arith) there.0 (λ v h. h)
      (checked (table_at 0) r 0 (omega arith)) in
      λ i. v1 i ∷ []

  pub account_of : (r : Row) → Stands 1 r
      → key_of (table_at 1).primary r ≡ head_key (text_in (column r 1))
  account_of r has =
      let low : 1 < 14 = omega arith in
      let there = full 1 low r has in
      let v1 = text_there 1 low r has 0 (omega arith) there.0 (λ v h. h) in
      λ i. v1 i ∷ []

  pub bucket_of : (r : Row) → Stands 2 r
      → key_of (table_at 2).primary r ≡ bucket_key (text_in (column r 1)) (nat_in (column r 2))
  bucket_of r has =
      let low : 2 < 14 = omega arith in
      let there = full 2 low r has in
      let v1 = text_there 2 low r has 0 (omega arith) there.0 (λ v h. h) in
      let v2 = number_there 2 low r has 1 (omega arith) there.1.0 (λ v h. h)
      (checked (table_at 2) r 0 (omega arith)) in
      λ i. v1 i ∷ v2 i ∷ []

  pub counter_of : (r : Row) → Stands 3 r
      → key_of (table_at 3).primary r
      ≡ counter_key (text_in (column r 1)) (nat_in (column r 2)) (nat_in (column r 3))
  counter_of r has =
      let low : 3 < 14 = omega arith in
      let there = full 3 low r has in
      let v1 = text_there 3 low r has 0 (omega arith) there.0 (λ v h. h) in
      let v2 = number_there 3 low r has 1 (omega arith) there.1.0 (λ v h. h)
      (checked (table_at 3) r 0 (omega arith)) in
      let v3 = number_there 3 low r has 2 (omega arith) there.1.1.0 (λ v h. h)
      (checked (table_at 3) r 1 (omega arith)) in
      λ i. v1 i ∷ v2 i ∷ v3 i ∷ []

  pub session_of : (r : Row) → Stands 4 r
      → key_of (table_at 4).primary r ≡ session_key (text_in (column r 1)) (text_in (column r 2))
  session_of r has =
      let low : 4 < 14 = omega arith in
      let there = full 4 low r has in
      let v1 = text_there 4 low r has 0 (omega arith) there.0 (λ v h. h) in
      let v2 = text_there 4 low r has 1 (omega arith) there.1.0 (λ v h. h) in
      λ i. v1 i ∷ v2 i ∷ []

  pub group_of : (r : Row) → Stands 5 r
      → key_of (table_at 5).primary r
      ≡ group_key (text_in (column r 1)) (text_in (column r 2)) (nat_in (column r 3))
  group_of r has =
      let low : 5 < 14 = omega arith in
      let there = full 5 low r has in
      let v1 = text_there 5 low r has 0 (omega arith) there.0 (λ v h. h) in
      let v2 = text_there 5 low r has 1 (omega arith) there.1.0 (λ v h. h) in
      let v3 = number_there 5 low r has 2 (omega arith) there.1.1.0 (λ v h. h)
      (checked (table_at 5) r 0 (omega arith)) in
      λ i. v1 i ∷ v2 i ∷ v3 i ∷ []

  pub hold_of : (r : Row) → Stands 6 r
      → key_of (table_at 6).primary r
      ≡ hold_key (text_in (column r 1)) (text_in (column r 2)) (nat_in (column r 3))
      (nat_in (column r 4))
  hold_of r has =
      let low : 6 < 14 = omega arith in
      let there = full 6 low r has in
      let v1 = text_there 6 low r has 0 (omega arith) there.0 (λ v h. h) in
      let v2 = text_there 6 low r has 1 (omega arith) there.1.0 (λ v h. h) in
      let v3 = number_there 6 low r has 2 (omega arith) there.1.1.0 (λ v h. h)
      (checked (table_at 6) r 0 (omega arith)) in
      let v4 = number_there 6 low r has 3 (omega arith) there.1.1.1.0 (λ v h. h)
      (checked (table_at 6) r 1 (omega arith)) in
      λ i. v1 i ∷ v2 i ∷ v3 i ∷ v4 i ∷ []

  pub answer_of : (r : Row) → Stands 7 r
      → key_of (table_at 7).primary r
      ≡ answer_key (text_in (column r 1)) (nat_in (column r 2)) (text_in (column r 3))
      (nat_in (column r 4))
  answer_of r has =
      let low : 7 < 14 = omega arith in
      let there = full 7 low r has in
      let v1 = text_there 7 low r has 0 (omega arith) there.0 (λ v h. h) in
      let v2 = number_there 7 low r has 1 (omega arith) there.1.0 (λ v h. h)
      (checked (table_at 7) r 0 (omega arith)) in
      let v3 = text_there 7 low r has 2 (omega arith) there.1.1.0 (λ v h. h) in
      let v4 = number_there 7 low r has 3 (omega arith) there.1.1.1.0 (λ v h. h)
      (checked (table_at 7) r 1 (omega arith)) in
      λ i. v1 i ∷ v2 i ∷ v3 i ∷ v4 i ∷ []

  pub voucher_of : (r : Row) → Stands 8 r
      → key_of (table_at 8).primary r ≡ voucher_key (text_in (column r 1))
  voucher_of r has =
      let low : 8 < 14 = omega arith in
      let there = full 8 low r has in
      let v1 = text_there 8 low r has 0 (omega arith) there.0 (λ v h. h) in
      λ i. v1 i ∷ []

  pub charge_of : (r : Row) → Stands 9 r
      → key_of (table_at 9).primary r ≡ charge_key (text_in (column r 1)) (nat_in (column r 2))
  charge_of r has =
      let low : 9 < 14 = omega arith in
      let there = full 9 low r has in
      let v1 = text_there 9 low r has 0 (omega arith) there.0 (λ v h. h) in
      let v2 = number_there 9 low r has 1 (omega arith) there.1.0 (λ v h. h)
      (checked (table_at 9) r 0 (omega arith)) in
      λ i. v1 i ∷ v2 i ∷ []

  pub book_of : (r : Row) → Stands 10 r
      → key_of (table_at 10).primary r ≡ book_key (nat_in (column r 1))
  book_of r has =
      let low : 10 < 14 = omega arith in
      let there = full 10 low r has in
      let v1 = number_there 10 low r has 0 (omega arith) there.0 (λ v h. h)
      (checked (table_at 10) r 0 (omega arith)) in
      λ i. v1 i ∷ []

  pub grant_of : (r : Row) → Stands 11 r
      → key_of (table_at 11).primary r
      ≡ group_key (text_in (column r 1)) (text_in (column r 2)) (nat_in (column r 3))
  grant_of r has =
      let low : 11 < 14 = omega arith in
      let there = full 11 low r has in
      let v1 = text_there 11 low r has 0 (omega arith) there.0 (λ v h. h) in
      let v2 = text_there 11 low r has 1 (omega arith) there.1.0 (λ v h. h) in
      let v3 = number_there 11 low r has 2 (omega arith) there.1.1.0 (λ v h. h)
      (checked (table_at 11) r 0 (omega arith)) in
      λ i. v1 i ∷ v2 i ∷ v3 i ∷ []

  pub allowance_of : (r : Row) → Stands 12 r
      → key_of (table_at 12).primary r ≡ bucket_key (text_in (column r 1)) (nat_in (column r 2))
  allowance_of r has =
      let low : 12 < 14 = omega arith in
      let there = full 12 low r has in
      let v1 = text_there 12 low r has 0 (omega arith) there.0 (λ v h. h) in
      let v2 = number_there 12 low r has 1 (omega arith) there.1.0 (λ v h. h)
      (checked (table_at 12) r 0 (omega arith)) in
      λ i. v1 i ∷ v2 i ∷ []

  pub covered_of : (r : Row) → Stands 13 r
      → key_of (table_at 13).primary r ≡ charge_key (text_in (column r 1)) (nat_in (column r 2))
  covered_of r has =
      let low : 13 < 14 = omega arith in
      let there = full 13 low r has in
      let v1 = text_there 13 low r has 0 (omega arith) there.0 (λ v h. h) in
      let v2 = number_there 13 low r has 1 (omega arith) there.1.0 (λ v h. h)
      (checked (table_at 13) r 0 (omega arith)) in
      λ i. v1 i ∷ v2 i ∷ []

  module _ (stored : AreStored trees) where
    stands : (at : ℕ) → at < 14 → (r : Row) → Stands at r
        → look (table_at at) trees (key_of (table_at at).primary r) ≡ Some (drop 1 r)
    stands at low r has =
        let is = keyed at low in
        under_key (table_at at) is.tabled is.listed is.guarding trees fits
        (all_has (λ (t : Table). IsStored (trees t.tree)) our_schema.tables (table_at at) stored
        is.tabled) (λ x. true) (λ x. refl) r has (full at low r has)

    -- what the content has of a row
    told : {X : Type 0} (at : ℕ) (low : at < 14) (of : Row → X) (r : Row) (key : Row)
        → Stands at r → key_of (table_at at).primary r ≡ key
        → option_map of (look (table_at at) trees key) ≡ Some (of (drop 1 r))
    told at low of r key has is =
        ap (option_map of) (ap (look (table_at at) trees) (sym is) ∙ stands at low r has)

    module _ (in' : IsInRules shelf (tables_content trees)) (plain : ArePlain trees)
        (there : is_some (tables_content trees).meta ≡ true) where
      meta_row : (r : Row) → Stands 0 r → is_ruled_meta r ≡ true
      meta_row r has =
          let some = some_of (tables_content trees).meta there in
          let it = mapped meta_in (look meta trees meta_key) some.0 some.1 in
          let back = met_some (1 ∷ []) meta_key it.0 (trees 0)
          (sym (get-from_entries row_cmp_total (entries_of (1 ∷ []) (trees 0)) meta_key) ∙ it.1) in
          let same = only_one (trees 0) in'.each.once r back.0 has back.1 in
          let id : nat_eq (nat_in (column back.0 1)) 1 ≡ true =
          sym (number_last (nat_in (column back.0 1)) 1)
          ∙ subst (λ k. eq_by_cmp row_cmp meta_key k ≡ true) (id_of back.0 back.1) back.2 in
          let moment : is_moment (nat_in (column back.0 4)) ≡ true =
          subst (λ n. is_moment n ≡ true) (fourth_at back.0)
          (subst (λ v. is_moment (meta_in v).last ≡ true) back.3
          (subst (λ (m : Meta). is_moment m.last ≡ true) (sym it.2) (in'.each.meta some.0 some.1))) in
          subst (λ x. is_ruled_meta x ≡ true) (sym same) (and_from _ _ (number_one _ id) moment)

      row_ruled : (at : ℕ) → at < 14 → (r : Row) → Stands at r → rule_at shelf at r ≡ true
      row_ruled zero low r has = meta_row r has
      row_ruled (suc zero) low r has =
          account_back r
          ((in'.each.rows (text_in (column r 1))).head (head_in (drop 1 r))
          (told 1 low head_in r _ has (account_of r has)))
          (plain.heads (key_of (1 ∷ []) r) (drop 1 r) (stands 1 low r has))
      row_ruled (suc (suc zero)) low r has =
          bucket_back r ((in'.each.rows (text_in (column r 1))).buckets (nat_in (column r 2))
          (bucket_in_row (drop 1 r)) (told 2 low bucket_in_row r _ has (bucket_of r has)))
      row_ruled (suc (suc (suc zero))) low r has =
          counter_back r ((in'.each.rows (text_in (column r 1))).counters (nat_in (column r 2))
          (nat_in (column r 3)) (counter_in_row (drop 1 r))
          (told 3 low counter_in_row r _ has (counter_of r has)))
      row_ruled (suc (suc (suc (suc zero)))) low r has =
          session_back r
          ((in'.each.rows (text_in (column r 1))).sessions (text_in (column r 2))
          (session_in_row (drop 1 r)) (told 4 low session_in_row r _ has (session_of r has)))
          (plain.of_sessions (key_of (1 ∷ 2 ∷ []) r) (drop 1 r) (stands 4 low r has))
      row_ruled (suc (suc (suc (suc (suc zero))))) low r has =
          group_back shelf r
          ((in'.each.rows (text_in (column r 1))).groups (text_in (column r 2)) (nat_in (column r 3))
          (group_in_row (drop 1 r)) (told 5 low group_in_row r _ has (group_of r has)))
          (plain.of_groups (key_of (1 ∷ 2 ∷ 3 ∷ []) r) (drop 1 r) (stands 5 low r has))
      row_ruled (suc (suc (suc (suc (suc (suc zero)))))) low r has =
          hold_back r ((in'.each.rows (text_in (column r 1))).holds (text_in (column r 2))
          (nat_in (column r 3)) (nat_in (column r 4)) (hold_in (drop 1 r))
          (told 6 low hold_in r _ has (hold_of r has)))
      row_ruled (suc (suc (suc (suc (suc (suc (suc zero))))))) low r has =
          answer_back r ((in'.each.rows (text_in (column r 1))).answers (nat_in (column r 2))
          (text_in (column r 3)) (nat_in (column r 4)) (answer_in_row (drop 1 r))
          (told 7 low answer_in_row r _ has (answer_of r has)))
      row_ruled (suc (suc (suc (suc (suc (suc (suc (suc zero)))))))) low r has =
          voucher_back r
          (typed_or (column r 3) (λ some. typed_column trees fits vouchers (keyed 8 low) r has refl
          2 none_named (omega arith) some))
          (in'.each.vouchers (text_in (column r 1)) (voucher_in_row (drop 1 r))
          (told 8 low voucher_in_row r _ has (voucher_of r has)))
      row_ruled (suc (suc (suc (suc (suc (suc (suc (suc (suc zero))))))))) low r has =
          charge_back r ((in'.each.rows (text_in (column r 1))).charges (nat_in (column r 2))
          (charge_in_row (drop 1 r)) (told 9 low charge_in_row r _ has (charge_of r has)))
      row_ruled (suc (suc (suc (suc (suc (suc (suc (suc (suc (suc zero)))))))))) low r has =
          book_back r (in'.each.books (nat_in (column r 1)) (book_in_row (drop 1 r))
          (told 10 low book_in_row r _ has (book_of r has)))
      row_ruled (suc (suc (suc (suc (suc (suc (suc (suc (suc (suc (suc zero))))))))))) low r has =
          grant_book_back shelf r ((in'.each.rows (text_in (column r 1))).grant_books
          (text_in (column r 2)) (nat_in (column r 3)) (grant_book_in (drop 1 r))
          (told 11 low grant_book_in r _ has (grant_of r has)))
      row_ruled (suc (suc (suc (suc (suc (suc (suc (suc (suc (suc (suc (suc zero)))))))))))) low r
          has =
          (in'.each.rows (text_in (column r 1))).allowances (nat_in (column r 2))
          (ap is_some (told 12 low allowance_in r _ has (allowance_of r has)))
      row_ruled
          (suc (suc (suc (suc (suc (suc (suc (suc (suc (suc (suc (suc (suc zero))))))))))))) low r
          has =
          covered_back r ((in'.each.rows (text_in (column r 1))).covered (nat_in (column r 2))
          (covered_in_row (drop 1 r)) (told 13 low covered_in_row r _ has (covered_of r has)))
      row_ruled
          (suc (suc (suc (suc (suc (suc (suc (suc (suc (suc (suc (suc (suc (suc n)))))))))))))) low
          r has =
          absurd (omega (arith, low))

      -- its moment isn't after the last
      row_timely : (at : ℕ) → at < 14 → (r : Row) → Stands at r
          → is_timely_at (last_kept trees) at r ≡ true
      row_timely zero low r has = refl
      row_timely (suc zero) low r has =
          from_by _ (last_kept trees) (subst (λ n. n ≤ last_kept trees) (third_of r)
          ((in'.each.rows (text_in (column r 1))).timely.head (head_in (drop 1 r))
          (told 1 low head_in r _ has (account_of r has))))
      row_timely (suc (suc zero)) low r has = refl
      row_timely (suc (suc (suc zero))) low r has = refl
      row_timely (suc (suc (suc (suc zero)))) low r has =
          from_by _ (last_kept trees) (subst (λ n. n ≤ last_kept trees) (fourth_at r)
          ((in'.each.rows (text_in (column r 1))).timely.sessions (text_in (column r 2))
          (session_in_row (drop 1 r)) (told 4 low session_in_row r _ has (session_of r has))))
      row_timely (suc (suc (suc (suc (suc zero))))) low r has = refl
      row_timely (suc (suc (suc (suc (suc (suc zero)))))) low r has = refl
      row_timely (suc (suc (suc (suc (suc (suc (suc zero))))))) low r has = refl
      row_timely (suc (suc (suc (suc (suc (suc (suc (suc zero)))))))) low r has = refl
      row_timely (suc (suc (suc (suc (suc (suc (suc (suc (suc zero))))))))) low r has =
          from_by _ (last_kept trees) (subst (λ n. n ≤ last_kept trees) (third_of r)
          ((in'.each.rows (text_in (column r 1))).timely.charges (nat_in (column r 2))
          (charge_in_row (drop 1 r)) (told 9 low charge_in_row r _ has (charge_of r has))))
      row_timely (suc (suc (suc (suc (suc (suc (suc (suc (suc (suc n)))))))))) low r has =
          let high : 9 < (suc (suc (suc (suc (suc (suc (suc (suc (suc (suc n)))))))))) =
          omega arith in
          untimed (last_kept trees) (suc (suc (suc (suc (suc (suc (suc (suc (suc (suc n)))))))))) r
          high

      -- rule: rows-ruled.in-rules
      each_ruled : AreEachRuled shelf (last_kept trees) latest trees
      each_ruled at low = record {
        stored = all_has (λ (t : Table). IsStored (trees t.tree)) our_schema.tables (table_at at)
            stored (keyed at low).tabled;
        rows = all_from (λ r. IsTrue (passes_at shelf (last_kept trees) at r))
            (trees (table_at at).tree)
            (λ r has. and_from (rule_at shelf at r) (is_timely_at (last_kept trees) at r)
            (row_ruled at low r has) (row_timely at low r has));
      }

      -- ---- beside each other

      -- the next number of an account is above those of its charges
      none_ahead : (r s : Row) → Stands 1 r → Stands 9 s → is_ahead r s ≡ false
      none_ahead r s has there = at (is_ahead r s) refl
        where
          at : (t : Bool) → is_ahead r s ≡ t → t ≡ false
          at false e = refl
          at true e =
              let parts = and_parts (is_equal (column s 1) (column r 1))
              (is_from (column s 2) (column r 5)) e in
              let low : 9 < 14 = omega arith in
              let own = full 9 low s there in
              let v1 = text_there 9 low s there 0 (omega arith) own.0 (λ v h. h) in
              let v2 = number_there 9 low s there 1 (omega arith) own.1.0 (λ v h. h)
              (checked (table_at 9) s 0 (omega arith)) in
              let first : 1 < 14 = omega arith in
              let up = text_there 1 first r has 0 (omega arith) (full 1 first r has).0 (λ v h. h) in
              let next = number_there 1 first r has 4 (omega arith)
              (compared Ge (column s 2) (column r 5) parts.1).1 (λ v h. h)
              (checked (table_at 1) r 3 (omega arith)) in
              let same : text_in (column r 1) ≡ text_in (column s 1) =
              equals_text (text_in (column s 1)) (text_in (column r 1))
              (subst (λ w. is_equal w (Text (text_in (column r 1))) ≡ true) v1
              (subst (λ w. is_equal (column s 1) w ≡ true) up parts.0)) in
              let from : nat_le (nat_in (column r 5)) (nat_in (column s 2)) ≡ true =
              sym (from_told (nat_in (column s 2)) (nat_in (column r 5)))
              ∙ subst (λ w. is_from w (nat (nat_in (column r 5))) ≡ true) v2
              (subst (λ w. is_from (column s 2) w ≡ true) next parts.1) in
              let charge = told 9 low charge_in_row s _ there (charge_of s there) in
              let head = told 1 first head_in r _ has (account_of r has) in
              let number = (in'.beside (text_in (column s 1))).numbers (nat_in (column s 2))
              (ap is_some charge) in
              let below : nat_lt (nat_in (column s 2)) (nat_in (column r 5)) ≡ true =
              subst (λ n. nat_lt (nat_in (column s 2)) n ≡ true) (ap nat_in (behind r 4))
              (and_parts (nat_lt 0 (nat_in (column s 2))) _
              (subst (λ o. is_numbered (nat_in (column s 2)) o ≡ true)
              (subst (λ x. (rows_in trees x).head ≡ Some (head_in (drop 1 r))) same head)
              number)).1 in
              absurd (no_number _ _ from below)

      -- and above those of its buckets
      none_bucket_ahead : (r s : Row) → Stands 1 r → Stands 2 s → is_bucket_ahead r s ≡ false
      none_bucket_ahead r s has there = at (is_bucket_ahead r s) refl
        where
          at : (t : Bool) → is_bucket_ahead r s ≡ t → t ≡ false
          at false e = refl
          at true e =
              let parts = and_parts (is_equal (column s 1) (column r 1))
              (is_from (column s 2) (column r 4)) e in
              let low : 2 < 14 = omega arith in
              let own = full 2 low s there in
              let v1 = text_there 2 low s there 0 (omega arith) own.0 (λ v h. h) in
              let v2 = number_there 2 low s there 1 (omega arith) own.1.0 (λ v h. h)
              (checked (table_at 2) s 0 (omega arith)) in
              let first : 1 < 14 = omega arith in
              let up = text_there 1 first r has 0 (omega arith) (full 1 first r has).0 (λ v h. h) in
              let next = number_there 1 first r has 3 (omega arith)
              (compared Ge (column s 2) (column r 4) parts.1).1 (λ v h. h)
              (checked (table_at 1) r 2 (omega arith)) in
              let same : text_in (column r 1) ≡ text_in (column s 1) =
              equals_text (text_in (column s 1)) (text_in (column r 1))
              (subst (λ w. is_equal w (Text (text_in (column r 1))) ≡ true) v1
              (subst (λ w. is_equal (column s 1) w ≡ true) up parts.0)) in
              let from : nat_le (nat_in (column r 4)) (nat_in (column s 2)) ≡ true =
              sym (from_told (nat_in (column s 2)) (nat_in (column r 4)))
              ∙ subst (λ w. is_from w (nat (nat_in (column r 4))) ≡ true) v2
              (subst (λ w. is_from (column s 2) w ≡ true) next parts.1) in
              let bucket = told 2 low bucket_in_row s _ there (bucket_of s there) in
              let head = told 1 first head_in r _ has (account_of r has) in
              let number = (in'.beside (text_in (column s 1))).buckets (nat_in (column s 2))
              (ap is_some bucket) in
              let below : nat_lt (nat_in (column s 2)) (nat_in (column r 4)) ≡ true =
              subst (λ n. nat_lt (nat_in (column s 2)) n ≡ true) (ap nat_in (behind r 3))
              (subst (λ o. is_bucket_numbered (nat_in (column s 2)) o ≡ true)
              (subst (λ x. (rows_in trees x).head ≡ Some (head_in (drop 1 r))) same head)
              number) in
              absurd (no_number _ _ from below)

      -- and the account's moment isn't before those of its sessions
      none_touched_after : (r s : Row) → Stands 1 r → Stands 4 s → is_touched_after r s ≡ false
      none_touched_after r s has there = at (is_touched_after r s) refl
        where
          at : (t : Bool) → is_touched_after r s ≡ t → t ≡ false
          at false e = refl
          at true e =
              let parts = and_parts (is_equal (column s 1) (column r 1)
              && is_equal (column s 5) (nat 1)) (is_above (column s 4) (column r 3)) e in
              let names = and_parts (is_equal (column s 1) (column r 1))
              (is_equal (column s 5) (nat 1)) parts.0 in
              let present = compared Gt (column s 4) (column r 3) parts.1 in
              let low : 4 < 14 = omega arith in
              let own = full 4 low s there in
              let v1 = text_there 4 low s there 0 (omega arith) own.0 (λ v h. h) in
              let v4 = number_there 4 low s there 3 (omega arith) present.0 (λ v h. h)
              (checked (table_at 4) s 1 (omega arith)) in
              let first : 1 < 14 = omega arith in
              let up = text_there 1 first r has 0 (omega arith) (full 1 first r has).0 (λ v h. h) in
              let as_of = number_there 1 first r has 2 (omega arith) present.1 (λ v h. h)
              (checked (table_at 1) r 1 (omega arith)) in
              let same : text_in (column r 1) ≡ text_in (column s 1) =
              equals_text (text_in (column s 1)) (text_in (column r 1))
              (subst (λ w. is_equal w (Text (text_in (column r 1))) ≡ true) v1
              (subst (λ w. is_equal (column s 1) w ≡ true) up names.0)) in
              let v5 = number_there 4 low s there 4 (omega arith)
              (compared Eq (column s 5) (nat 1) names.1).0 (λ v h. h)
              (checked (table_at 4) s 2 (omega arith)) in
              let one : nat_in (column s 5) ≡ 1 = number_same (nat_in (column s 5)) 1
              (subst (λ w. is_equal w (nat 1) ≡ true) v5 names.1) in
              let open' : is_open (state_in (column (drop 1 s) 4)) ≡ true =
              ap (λ w. is_open (state_in w)) (behind s 4 ∙ v5 ∙ ap nat one) in
              let later : nat_lt (nat_in (column r 3)) (nat_in (column s 4)) ≡ true =
              sym (above_told (nat_in (column s 4)) (nat_in (column r 3)))
              ∙ subst (λ w. is_above w (nat (nat_in (column r 3))) ≡ true) v4
              (subst (λ w. is_above (column s 4) w ≡ true) as_of parts.1) in
              let session = told 4 low session_in_row s _ there (session_of s there) in
              let head = told 1 first head_in r _ has (account_of r has) in
              let by : nat_le (nat_in (column s 4)) (nat_in (column r 3)) ≡ true =
              subst (λ n. nat_le n (nat_in (column r 3)) ≡ true) (ap nat_in (behind s 3))
              (subst (λ n. nat_le (nat_in (column (drop 1 s) 3)) n ≡ true) (ap nat_in (behind r 2))
              (subst (λ o. is_reached (nat_in (column (drop 1 s) 3)) o ≡ true)
              (subst (λ x. (rows_in trees x).head ≡ Some (head_in (drop 1 r))) same head)
              ((in'.beside (text_in (column s 1))).touched (text_in (column s 2))
              (session_in_row (drop 1 s)) session open'))) in
              absurd (no_number _ _ by later)

      -- the session of a reservation is open
      none_over : (r s : Row) → Stands 5 r → Stands 4 s → lacks_open_session r s ≡ false
      none_over r s has there = at (lacks_open_session r s) refl
        where
          at : (t : Bool) → lacks_open_session r s ≡ t → t ≡ false
          at false e = refl
          at true e =
              let parts = and_parts _ (differs (column s 5) (nat 1)) e in
              let names = and_parts _ (is_equal (column s 2) (column r 2)) parts.0 in
              let one = and_parts (is_equal (column r 5) (nat 1))
              (is_equal (column s 1) (column r 1)) names.0 in
              let low : 5 < 14 = omega arith in
              let own = full 5 low r has in
              let v1 = text_there 5 low r has 0 (omega arith) own.0 (λ v h. h) in
              let v2 = text_there 5 low r has 1 (omega arith) own.1.0 (λ v h. h) in
              let v5 = number_there 5 low r has 4 (omega arith)
              (compared Eq (column r 5) (nat 1) one.0).0 (λ v h. h)
              (checked (table_at 5) r 2 (omega arith)) in
              let under : 4 < 14 = omega arith in
              let up = full 4 under s there in
              let w1 = text_there 4 under s there 0 (omega arith) up.0 (λ v h. h) in
              let w2 = text_there 4 under s there 1 (omega arith) up.1.0 (λ v h. h) in
              let w5 = number_there 4 under s there 4 (omega arith)
              (compared Ne (column s 5) (nat 1) parts.1).0 (λ v h. h)
              (checked (table_at 4) s 2 (omega arith)) in
              let account : text_in (column s 1) ≡ text_in (column r 1) =
              sym (equals_text (text_in (column s 1)) (text_in (column r 1))
              (subst (λ w. is_equal w (Text (text_in (column r 1))) ≡ true) w1
              (subst (λ w. is_equal (column s 1) w ≡ true) v1 one.1))) in
              let session : text_in (column s 2) ≡ text_in (column r 2) =
              sym (equals_text (text_in (column s 2)) (text_in (column r 2))
              (subst (λ w. is_equal w (Text (text_in (column r 2))) ≡ true) w2
              (subst (λ w. is_equal (column s 2) w ≡ true) v2 names.1))) in
              let reserved : nat_in (column r 5) ≡ 1 = number_same (nat_in (column r 5)) 1
              (subst (λ w. is_equal w (nat 1) ≡ true) v5 one.0) in
              let group = told 5 low group_in_row r _ has (group_of r has) in
              let own = told 4 under session_in_row s _ there (session_of s there) in
              let named : (rows_in trees (text_in (column r 1))).sessions (text_in (column r 2))
              ≡ Some (session_in_row (drop 1 s)) =
              subst (λ x. (rows_in trees x).sessions (text_in (column r 2))
              ≡ Some (session_in_row (drop 1 s))) account
              (subst (λ x. (rows_in trees (text_in (column s 1))).sessions x
              ≡ Some (session_in_row (drop 1 s))) session own) in
              let live = (in'.beside (text_in (column r 1))).live (text_in (column r 2))
              (nat_in (column r 3)) (ap is_reserved group
              ∙ is_held (drop 1 r) (ap nat_in (behind r 4) ∙ reserved)) in
              let open' : is_open (state_in (column s 5)) ≡ true =
              subst (λ v. is_open (state_in v) ≡ true) (behind s 4)
              (subst (λ o. is_open_row o ≡ true) named live) in
              let one' : nat_in (column s 5) ≡ 1 = number_same (nat_in (column s 5)) 1
              (subst (λ v. is_equal v (nat 1) ≡ true) w5 (open_tested (column s 5) open')) in
              absurd (never_differs (nat_in (column s 5)) one'
              (subst (λ v. differs v (nat 1) ≡ true) w5 parts.1))

      -- rule: rows-ruled.in-rules, rows-ruled.beside
      pub rows_ruled : HaveBooks shelf trees → AreRuled shelf latest trees
      rows_ruled have = record {
        right = record {
          each = each_ruled;
          beside = record {
            numbers = none_ahead;
            buckets = none_bucket_ahead;
            moments = none_touched_after;
            reservations = none_over;
          };
        };
        granted = λ late. have;
      }
