-- A stored bucket has numbers in the columns that say what is left of it.
use Rattle.std.proofs.Common.{◌≡◌, ℕ, [], ◌∷◌, drop, Bool, true, false, not, ◌&&◌, None, codes}
use Rattle.std.proofs.lemmas.Bool.{and_parts}
use Rattle.sqlite_value.specs.declared.value.Value.{Value}
use Rattle.sqlite_value.specs.Order.{Row, column}
use Rattle.sqlite_sql.specs.Ops.{is_false}
use Rattle.sqlite_sql.specs.Term.{col, eval}
use Rattle.sqlite_schema.specs.declared.schema.Kind.TheVariants as kind
use Rattle.sqlite_schema.specs.declared.schema.Constraint.TheVariants.{Datatype, NotNull, Check}
use Rattle.sqlite_schema.specs.Rules.{Fits, are_present, are_typed, is_of, passes_checks}
use Rattle.sqlite_trees.specs.Tree.{Trees}
use Rattle.sqlite_rules.specs.Lists.{Has}
use Rattle.sqlite_rules.proofs.ListLemmas.{all_has}
use Rattle.sql_tables.specs.Schema.{buckets, our_schema, is_same, number, plus}
use Rattle.sql_rows.specs.Values.{nat, nat_in}
use Rattle.sql_rows.proofs.rules.MetaRules.{full_at, right_at, whole_in}

-- ---- the rules of the columns from one on

abbrev full_from_eight : Row → Bool
full_from_eight row = full_at row 8 && (full_at row 9 && (full_at row 10 && true))

abbrev full_from_six : Row → Bool
full_from_six row = full_at row 6 && (full_at row 7 && full_from_eight row)

abbrev full_from_three : Row → Bool
full_from_three row = full_at row 3 && (full_at row 4 && full_from_six row)

abbrev sums : Row → Bool
sums row = not (is_false (eval (is_same (col 1 6)
    (plus (plus (plus (col 1 7) (col 1 8)) (col 1 9)) (col 1 10))) ([] ∷ row ∷ [])))

abbrev right_from_eight : Row → Bool
right_from_eight row =
    right_at row 8 && (right_at row 9 && (right_at row 10 && (sums row && true)))

abbrev right_from_six : Row → Bool
right_from_six row = right_at row 6 && (right_at row 7 && right_from_eight row)

abbrev right_from_four : Row → Bool
right_from_four row = right_at row 4 && (right_at row 5 && right_from_six row)

-- what is available, and what is reserved
abbrev HaveBoth : (Row → ℕ → Bool) → Row → Type 0
HaveBoth test row = (test row 7 ≡ true) × (test row 8 ≡ true)

full : (row : Row) → are_present None 0 buckets.columns row ≡ true → HaveBoth full_at row
full row p =
    let two = (and_parts (full_at row 1) (full_at row 2 && full_from_three row) p).1 in
    let three = (and_parts (full_at row 2) (full_from_three row) two).1 in
    let four = (and_parts (full_at row 3) (full_at row 4 && full_from_six row) three).1 in
    let six = (and_parts (full_at row 4) (full_from_six row) four).1 in
    let seven = (and_parts (full_at row 6) (full_at row 7 && full_from_eight row) six).1 in
    let both = and_parts (full_at row 7) (full_from_eight row) seven in
    (both.0, (and_parts (full_at row 8) (full_at row 9 && (full_at row 10 && true)) both.1).0)

right : (row : Row) → passes_checks buckets row ≡ true → HaveBoth right_at row
right row p =
    let three = (and_parts (right_at row 2) (right_at row 3 && right_from_four row) p).1 in
    let four = (and_parts (right_at row 3) (right_from_four row) three).1 in
    let five = (and_parts (right_at row 4) (right_at row 5 && right_from_six row) four).1 in
    let six = (and_parts (right_at row 5) (right_from_six row) five).1 in
    let seven = (and_parts (right_at row 6) (right_at row 7 && right_from_eight row) six).1 in
    let both = and_parts (right_at row 7) (right_from_eight row) seven in
    let eight = and_parts (right_at row 8)
    (right_at row 9 && (right_at row 10 && (sums row && true))) both.1 in
    (both.0, eight.0)

pub record HasNumbers (row : Row) : Type 0 where
  pub available : column row 7 ≡ nat (nat_in (column row 7))
  pub reserved : column row 8 ≡ nat (nat_in (column row 8))

typed : (x : Value) (vs : Row) → are_typed None 0 buckets.columns vs ≡ true
    → HaveBoth full_at (x ∷ vs) → HaveBoth right_at (x ∷ vs) → HasNumbers (x ∷ vs)
typed x [] kinds fulls rules = absurd (let no : false ≡ true = fulls.0 in cc)
typed x (a ∷ []) kinds fulls rules = absurd (let no : false ≡ true = fulls.0 in cc)
typed x (a ∷ b ∷ []) kinds fulls rules = absurd (let no : false ≡ true = fulls.0 in cc)
typed x (a ∷ b ∷ c ∷ []) kinds fulls rules = absurd (let no : false ≡ true = fulls.0 in cc)
typed x (a ∷ b ∷ c ∷ d ∷ []) kinds fulls rules = absurd (let no : false ≡ true = fulls.0 in cc)
typed x (a ∷ b ∷ c ∷ d ∷ e ∷ []) kinds fulls rules =
    absurd (let no : false ≡ true = fulls.0 in cc)
typed x (a ∷ b ∷ c ∷ d ∷ e ∷ f ∷ []) kinds fulls rules =
    absurd (let no : false ≡ true = fulls.0 in cc)
typed x (a ∷ b ∷ c ∷ d ∷ e ∷ f ∷ g ∷ []) kinds fulls rules =
    absurd (let no : false ≡ true = fulls.1 in cc)
typed x (a ∷ b ∷ c ∷ d ∷ e ∷ f ∷ g ∷ h ∷ more) kinds fulls rules =
    let rest = are_typed None 8
    (number (codes "charged") ∷ number (codes "expired") ∷ []) more in
    let from_seven = is_of kind.Integer g && (is_of kind.Integer h && rest) in
    let from_five = is_of kind.Integer e && (is_of kind.Integer f && from_seven) in
    let from_three = is_of kind.Integer c && (is_of kind.Integer d && from_five) in
    let two = (and_parts (is_of kind.Text a) (is_of kind.Integer b && from_three) kinds).1 in
    let three = (and_parts (is_of kind.Integer b) from_three two).1 in
    let four = (and_parts (is_of kind.Integer c) (is_of kind.Integer d && from_five) three).1 in
    let five = (and_parts (is_of kind.Integer d) from_five four).1 in
    let six = (and_parts (is_of kind.Integer e) (is_of kind.Integer f && from_seven) five).1 in
    let seven = (and_parts (is_of kind.Integer f) from_seven six).1 in
    let both = and_parts (is_of kind.Integer g) (is_of kind.Integer h && rest) seven in
    record {
      available = whole_in g both.0 fulls.0 rules.0;
      reserved = whole_in h (and_parts (is_of kind.Integer h) rest both.1).0 fulls.1 rules.1;
    }

row_in : (row : Row) → are_typed None 0 buckets.columns (drop 1 row) ≡ true
    → are_present None 0 buckets.columns row ≡ true → passes_checks buckets row ≡ true
    → HasNumbers row
row_in [] kinds there rules = absurd (let no : false ≡ true = (full [] there).0 in cc)
row_in (x ∷ vs) kinds there rules = typed x vs kinds (full (x ∷ vs) there) (right (x ∷ vs) rules)

pub has_numbers : (trees : Trees) → Fits our_schema trees → (row : Row) → Has (trees 4) row
    → HasNumbers row
has_numbers trees fits row has =
    row_in row
    (and_parts (are_typed None 0 buckets.columns (drop 1 row)) true
    (all_has _ (trees 4) row (fits.rules Datatype (λ e. cc)).1.1.0 has)).0
    (all_has _ (trees 4) row (fits.rules NotNull (λ e. cc)).1.1.0 has)
    (all_has _ (trees 4) row (fits.rules Check (λ e. cc)).1.1.0 has)
