-- The columns of a key are texts, or numbers from 0 on.
use Rattle.std.proofs.Common.{◌≡◌, ◌<◌, ℕ, zero, suc, ◌+◌, List, [], ◌∷◌, drop, length, Bool, true}
use Rattle.std.proofs.Common.{None, false, not, refl, sym, subst, ◌∙◌, arith, get_or}
use Rattle.std.specs.List.{AllByRecursion, list_all}
use Rattle.std.proofs.lemmas.Bool.{and_parts}
use Rattle.sqlite_sql.specs.Ops.{is_null}
use Rattle.sqlite_sql.specs.Term.{Term}
use Rattle.sqlite_value.specs.declared.value.Value.{Value}
use Rattle.sqlite_value.specs.declared.value.Value.TheVariants.{Text}
use Rattle.sqlite_value.specs.Order.{Row, column}
use Rattle.sqlite_trees.specs.Tree.{Trees}
use Rattle.sqlite_schema.specs.declared.schema.Kind.TheVariants as kind
use Rattle.sqlite_schema.specs.declared.schema.Column.{Column}
use Rattle.sqlite_schema.specs.declared.schema.Constraint.TheVariants.{Check, Datatype}
use Rattle.sqlite_schema.specs.declared.schema.Table.{Table}
use Rattle.sqlite_schema.specs.Rules.{Fits, are_typed, is_of, passes, passes_checks, suits}
use Rattle.sqlite_rules.specs.Lists.{Has}
use Rattle.sqlite_rules.proofs.ListLemmas.{all_has}
use Rattle.sql_tables.specs.Schema.{our_schema}
use Rattle.sql_rows.specs.Values.{nat, nat_in, text_in}
use Rattle.sql_rows.proofs.rules.MetaRules.{right_at, text_of, whole_in}
use Rattle.sql_rules.proofs.MappedRows.{IsKeyed}

-- ---- one column

none_there : (k : ℕ) → is_null (column [] k) ≡ true
none_there zero = refl
none_there (suc k) = refl

pub typed_at : (cs : List Column) (place : ℕ) (vs : Row) (k : ℕ) (d : Column) → k < length cs
    → are_typed None place cs vs ≡ true → is_null (column vs k) ≡ false
    → suits (get_or cs k d) (column vs k) ≡ true
typed_at [] place vs k d low h full = absurd (omega (arith, low))
typed_at (c ∷ cs) place [] k d low h full =
    absurd (let no' : true ≡ false = sym (none_there k) ∙ full in cc)
typed_at (c ∷ cs) place (v ∷ vs) zero d low h full =
    (and_parts (suits c v) (are_typed None (place + 1) cs vs) h).0
typed_at (c ∷ cs) place (v ∷ vs) (suc k) d low h full =
    typed_at cs (place + 1) vs k d (omega (arith, low))
    (and_parts (suits c v) (are_typed None (place + 1) cs vs) h).1 full

pub check_at : (f : Term → Bool) (ts : List Term) (i : ℕ) (d : Term) → i < length ts
    → list_all f ts ≡ true → f (get_or ts i d) ≡ true
check_at f [] i d low h = absurd (omega (arith, low))
check_at f (t ∷ ts) zero d low h = (and_parts (f t) (list_all f ts) h).0
check_at f (t ∷ ts) (suc i) d low h =
    check_at f ts i d (omega (arith, low)) (and_parts (f t) (list_all f ts) h).1

present_not : (b : Bool) → b ≡ false → not b ≡ true
present_not false e = refl
present_not true e = absurd (cc e)

column_after : (r : Row) (k : ℕ) → is_null (column r (suc k)) ≡ false →
    column (drop 1 r) k ≡ column r (suc k)
column_after [] k full = absurd (let no' : true ≡ false = sym (none_there (suc k)) ∙ full in cc)
column_after (v ∷ vs) k full = refl

-- ---- a row of a table

module _ (trees : Trees) (fits : Fits our_schema trees) (table : Table) (is : IsKeyed table)
    (r : Row) (has : Has (trees table.tree) r) (alone : table.key ≡ None) where
  kinds : are_typed None 0 table.columns (drop 1 r) ≡ true
  kinds =
      let rows = all_has (λ (t : Table).
      AllByRecursion (λ row. passes Datatype our_schema trees t row ≡ true) (trees t.tree))
      our_schema.tables table (fits.rules Datatype (λ e. cc)) is.tabled in
      subst (λ k. are_typed k 0 table.columns (drop 1 r) ≡ true) alone
      (and_parts (are_typed table.key 0 table.columns (drop 1 r)) _
      (all_has (λ row. passes Datatype our_schema trees table row ≡ true) (trees table.tree) r rows
      has)).0

  checks : passes_checks table r ≡ true
  checks =
      let rows = all_has (λ (t : Table).
      AllByRecursion (λ row. passes Check our_schema trees t row ≡ true) (trees t.tree))
      our_schema.tables table (fits.rules Check (λ e. cc)) is.tabled in
      all_has (λ row. passes_checks table row ≡ true) (trees table.tree) r rows has

  -- a column that isn't NULL
  pub typed_column : (k : ℕ) (d : Column) → k < length table.columns
      → is_null (column r (suc k)) ≡ false
      → suits (get_or table.columns k d) (column r (suc k)) ≡ true
  typed_column k d low full =
      let same = column_after r k full in
      subst (λ v. suits (get_or table.columns k d) v ≡ true) same
      (typed_at table.columns 0 (drop 1 r) k d low kinds
      (subst (λ v. is_null v ≡ false) (sym same) full))

  -- the column of a text
  pub text_column : (k : ℕ) (d : Column) → k < length table.columns
      → is_null (column r (suc k)) ≡ false
      → ((v : Value) → suits (get_or table.columns k d) v ≡ true → is_of kind.Text v ≡ true)
      → column r (suc k) ≡ Text (text_in (column r (suc k)))
  text_column k d low full is_text =
      text_of (column r (suc k)) (is_text (column r (suc k)) (typed_column k d low full))
      (present_not _ full)

  -- the column of a number from 0 on, where its check says so
  pub number_column : (k : ℕ) (d : Column) → k < length table.columns
      → is_null (column r (suc k)) ≡ false
      → ((v : Value) → suits (get_or table.columns k d) v ≡ true → is_of kind.Integer v ≡ true)
      → (passes_checks table r ≡ true → right_at r (suc k) ≡ true)
      → column r (suc k) ≡ nat (nat_in (column r (suc k)))
  number_column k d low full is_number right =
      whole_in (column r (suc k)) (is_number (column r (suc k)) (typed_column k d low full))
      (present_not _ full) (right checks)
