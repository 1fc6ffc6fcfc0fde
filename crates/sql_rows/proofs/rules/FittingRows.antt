-- A stored row has in each column a value of the column's kind: a number from 0 on, or a text, or
-- NULL where the column may be. The rules of a table are read off its columns.
use Rattle.std.proofs.Common.{◌≡◌, ℕ, zero, suc, ◌+◌, List, [], ◌∷◌, drop, Bool, true, false, not}
use Rattle.std.proofs.Common.{◌||◌, None, refl, sym, ap, subst, ◌∙◌, arith}
use Rattle.std.proofs.Common.{if◌then◌else◌}
use Rattle.std.specs.List.{AllByRecursion, list_all}
use Rattle.std.proofs.lemmas.Bool.{and_parts}
use Rattle.sqlite_value.specs.declared.value.Value.{Value}
use Rattle.sqlite_value.specs.declared.value.Value.TheVariants.{Null, Int, Real, Text, Blob}
use Rattle.sqlite_value.specs.Order.{Row, column}
use Rattle.sqlite.specs.Values.{or_null}
use Rattle.sqlite_sql.specs.Ops.{is_false, is_null}
use Rattle.sqlite_sql.specs.Term.{Term, eval}
use Rattle.sqlite_schema.specs.declared.schema.Column.{Column}
use Rattle.sqlite_schema.specs.declared.schema.Constraint.TheVariants.{Check, Datatype, NotNull}
use Rattle.sqlite_schema.specs.declared.schema.Kind.{Kind}
use Rattle.sqlite_schema.specs.declared.schema.Kind.TheVariants as kind
use Rattle.sqlite_schema.specs.declared.schema.Table.{Table}
use Rattle.sqlite_schema.specs.Rules.{Fits, are_present, are_typed, has_affinity, is_of, passes}
use Rattle.sqlite_schema.specs.Rules.{passes_checks, suits}
use Rattle.sqlite_trees.specs.Tree.{Trees}
use Rattle.sqlite_rules.specs.Lists.{Has}
use Rattle.sqlite_rules.proofs.ListLemmas.{all_has}
use Rattle.sql_tables.specs.Schema.{at_least_zero, our_schema}
use Rattle.sql_rows.specs.Values.{nat, nat_in, optional_in, optional_text_in, text_in}
use Rattle.sql_rows.proofs.rules.MetaRules.{right_at, text_of, whole_in}

-- ---- one column

-- a value of a column of this kind, which may be NULL or not
abbrev pub IsValueOf : Kind → Bool → Value → Type 0
IsValueOf kind.Integer true v = v ≡ nat (nat_in v)
IsValueOf kind.Integer false v = v ≡ or_null nat (optional_in v)
IsValueOf kind.Text true v = v ≡ Text (text_in v)
IsValueOf kind.Text false v = v ≡ or_null Text (optional_text_in v)
IsValueOf kind.Real full v = Unit {0}
IsValueOf kind.Blob full v = Unit {0}
IsValueOf kind.Any full v = Unit {0}

-- a number is tested for being 0 at least
abbrev IsChecked : Kind → Row → ℕ → Type 0
IsChecked kind.Integer row at = right_at row at ≡ true
IsChecked kind.Text row at = Unit {0}
IsChecked kind.Real row at = Unit {0}
IsChecked kind.Blob row at = Unit {0}
IsChecked kind.Any row at = Unit {0}

optional_number : (row : Row) (at : ℕ) (v : Value) → column row at ≡ v
    → is_of kind.Integer v ≡ true → right_at row at ≡ true
    → v ≡ or_null nat (optional_in v)
optional_number row at Null is kinds rule = refl
optional_number row at (Int n) is kinds rule =
    whole_in (Int n) kinds refl (subst (λ v. rule_of v ≡ true) is rule)
  where
    rule_of : Value → Bool
    rule_of v = right_at (v ∷ []) 0
optional_number row at (Real x) is kinds rule = absurd (cc)
optional_number row at (Text t) is kinds rule = absurd (cc)
optional_number row at (Blob b) is kinds rule = absurd (cc)

optional_text : (v : Value) → is_of kind.Text v ≡ true → v ≡ or_null Text (optional_text_in v)
optional_text Null kinds = refl
optional_text (Int n) kinds = absurd (cc)
optional_text (Real x) kinds = absurd (cc)
optional_text (Text t) kinds = refl
optional_text (Blob b) kinds = absurd (cc)

one_value : (k : Kind) (full : Bool) (row : Row) (at : ℕ) → is_of k (column row at) ≡ true
    → (false || not full || not (is_null (column row at))) ≡ true → IsChecked k row at
    → IsValueOf k full (column row at)
one_value kind.Integer true row at kinds there rule = whole_in (column row at) kinds there rule
one_value kind.Integer false row at kinds there rule =
    optional_number row at (column row at) refl kinds rule
one_value kind.Text true row at kinds there rule = text_of (column row at) kinds there
one_value kind.Text false row at kinds there rule = optional_text (column row at) kinds
one_value kind.Real full row at kinds there rule = tt
one_value kind.Blob full row at kinds there rule = tt
one_value kind.Any full row at kinds there rule = tt

strict_of : (strict : Bool) (k : Kind) (v : Value) → strict ≡ true
    → (if strict then is_of k v else has_affinity k v) ≡ true → is_of k v ≡ true
strict_of true k v is h = h
strict_of false k v is h = absurd (cc is)

-- ---- all columns

abbrev pub AreValuesOf : List Column → ℕ → Row → Type 0
AreValuesOf [] at row = Unit {0}
AreValuesOf (c ∷ cs) at row =
    IsValueOf c.kind c.not_null (column row (at + 1)) × AreValuesOf cs (at + 1) row

abbrev check_of : Kind → ℕ → List Term → List Term
check_of kind.Integer at more = at_least_zero at ∷ more
check_of kind.Text at more = more
check_of kind.Real at more = more
check_of kind.Blob at more = more
check_of kind.Any at more = more

-- the checks of the columns of numbers, in their order, before others
abbrev pub checks_of : List Column → ℕ → List Term → List Term
checks_of [] at more = more
checks_of (c ∷ cs) at more = check_of c.kind (at + 1) (checks_of cs (at + 1) more)

abbrev pass : Row → List Term → Bool
pass row terms = list_all (λ t. not (is_false (eval t ([] ∷ row ∷ [])))) terms

first_check : (k : Kind) (at : ℕ) (row : Row) (more : List Term)
    → pass row (check_of k at more) ≡ true → IsChecked k row at × (pass row more ≡ true)
first_check kind.Integer at row more h = and_parts (right_at row at) (pass row more) h
first_check kind.Text at row more h = (tt, h)
first_check kind.Real at row more h = (tt, h)
first_check kind.Blob at row more h = (tt, h)
first_check kind.Any at row more h = (tt, h)

-- the values of the columns from a place on are in the row
abbrev AreIn : Row → ℕ → Row → Type 0
AreIn row at vs = (k : ℕ) → column row (k + (at + 1)) ≡ column vs k

first_in : (row : Row) (at : ℕ) (vs : Row) → AreIn row at vs → column row (at + 1) ≡ column vs 0
first_in row at vs same =
    let here : at + 1 ≡ 0 + (at + 1) = omega arith in ap (column row) here ∙ same 0

rest_in : (row : Row) (at : ℕ) (v : Value) (vs : Row) → AreIn row at (v ∷ vs)
    → AreIn row (at + 1) vs
rest_in row at v vs same k =
    let next : k + (at + 1 + 1) ≡ suc k + (at + 1) = omega arith in
    ap (column row) next ∙ same (suc k)

none_in : (row : Row) (at : ℕ) → AreIn row at [] → AreIn row (at + 1) []
none_in row at same k =
    let next : k + (at + 1 + 1) ≡ suc k + (at + 1) = omega arith in
    ap (column row) next ∙ same (suc k) ∙ none_there k
  where
    none_there : (n : ℕ) → column [] (suc n) ≡ column [] n
    none_there zero = refl
    none_there (suc n) = refl

values : (row : Row) (cs : List Column) (at : ℕ) (vs : Row) (more : List Term) → AreIn row at vs
    → list_all (λ (c : Column). c.is_strict) cs ≡ true → are_typed None at cs vs ≡ true
    → are_present None at cs row ≡ true → pass row (checks_of cs at more) ≡ true
    → AreValuesOf cs at row
values row [] at vs more same strict kinds there checks = tt
values row (c ∷ cs) at [] more same strict kinds there checks =
    let stricts = and_parts c.is_strict (list_all (λ (d : Column). d.is_strict) cs) strict in
    let typed = and_parts (is_null c.default) (are_typed None (at + 1) cs []) kinds in
    let present = and_parts (false || not c.not_null || not (is_null (column row (at + 1))))
    (are_present None (at + 1) cs row) there in
    let checked = first_check c.kind (at + 1) row (checks_of cs (at + 1) more) checks in
    let is : is_of c.kind (column row (at + 1)) ≡ true =
    ap (is_of c.kind) (first_in row at [] same) in (
      one_value c.kind c.not_null row (at + 1) is present.0 checked.0,
      values row cs (at + 1) [] more (none_in row at same) stricts.1 typed.1 present.1 checked.1,
    )
values row (c ∷ cs) at (v ∷ vs) more same strict kinds there checks =
    let stricts = and_parts c.is_strict (list_all (λ (d : Column). d.is_strict) cs) strict in
    let typed = and_parts (suits c v) (are_typed None (at + 1) cs vs) kinds in
    let present = and_parts (false || not c.not_null || not (is_null (column row (at + 1))))
    (are_present None (at + 1) cs row) there in
    let checked = first_check c.kind (at + 1) row (checks_of cs (at + 1) more) checks in
    let is : is_of c.kind (column row (at + 1)) ≡ true =
    ap (is_of c.kind) (first_in row at (v ∷ vs) same)
    ∙ strict_of c.is_strict c.kind v stricts.0 typed.0 in (
      one_value c.kind c.not_null row (at + 1) is present.0 checked.0,
      values row cs (at + 1) vs more (rest_in row at v vs same) stricts.1 typed.1 present.1 checked.1,
    )

-- ---- a row of a table

pub behind : (row : Row) → AreIn row 0 (drop 1 row)
behind [] k = none_there k
  where
    none_there : (n : ℕ) → column [] (n + 1) ≡ column [] n
    none_there n = none_at (n + 1) ∙ sym (none_at n)
      where
        none_at : (m : ℕ) → column [] m ≡ Null
        none_at zero = refl
        none_at (suc m) = refl
behind (v ∷ vs) k = let next : k + 1 ≡ suc k = omega arith in ap (column (v ∷ vs)) next

pub fitting_values : (table : Table) → Has our_schema.tables table → table.key ≡ None
    → list_all (λ (c : Column). c.is_strict) table.columns ≡ true → (more : List Term)
    → table.checks ≡ checks_of table.columns 0 more
    → (trees : Trees) → Fits our_schema trees → (row : Row) → Has (trees table.tree) row
    → AreValuesOf table.columns 0 row
fitting_values table tabled alone strict more checks trees fits row has =
    let kinds = all_has (λ (t : Table).
    AllByRecursion (λ r. passes Datatype our_schema trees t r ≡ true) (trees t.tree))
    our_schema.tables table (fits.rules Datatype (λ e. cc)) tabled in
    let fulls = all_has (λ (t : Table).
    AllByRecursion (λ r. passes NotNull our_schema trees t r ≡ true) (trees t.tree))
    our_schema.tables table (fits.rules NotNull (λ e. cc)) tabled in
    let rights = all_has (λ (t : Table).
    AllByRecursion (λ r. passes Check our_schema trees t r ≡ true) (trees t.tree))
    our_schema.tables table (fits.rules Check (λ e. cc)) tabled in
    values row table.columns 0 (drop 1 row) more (behind row) strict
    (subst (λ k. are_typed k 0 table.columns (drop 1 row) ≡ true) alone
    (and_parts (are_typed table.key 0 table.columns (drop 1 row)) _
    (all_has (λ r. passes Datatype our_schema trees table r ≡ true) (trees table.tree) row kinds
    has)).0)
    (subst (λ k. are_present k 0 table.columns row ≡ true) alone
    (all_has (λ r. are_present table.key 0 table.columns r ≡ true) (trees table.tree) row fulls
    has))
    (subst (λ terms. pass row terms ≡ true) checks
    (all_has (λ r. passes_checks table r ≡ true) (trees table.tree) row rights has))
