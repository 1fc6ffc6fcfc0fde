-- One more row that rises and is in its rules, or isn't.
use Rattle.std.proofs.Common.{◌≡◌, ℤ, List, [], ◌∷◌, ◌++◌, Option, Some, None, is_some, IfSome}
use Rattle.std.proofs.Common.{Bool, true, false, not, IsTrue, refl, sym, ◌∙◌}
use Rattle.sqlite_value.specs.Order.{Row}
use Rattle.sqlite_trees.proofs.ListLemmas.{all-append}
use Rattle.sql_tables.specs.Rises.{IsAbove}
use Rattle.sql_tables.proofs.Ascents.{all_end, all_front, climbs_on, still_falls, up_to}
use Rattle.sql_rules.specs.Walks.{Pass, Walks}

module _ (rule : Row → Bool) where
  abbrev In : Row → Type 0
  In row = IsTrue (rule row)

  -- rows that fail fail with one more
  pub still_fails : (last next : Option ℤ) (given : List Row) (row : Row)
      → Walks rule false last given → Walks rule false next (given ++ row ∷ [])
  still_fails last next given row fails up =
      still_falls given row
      (λ rise. fails (rise, all_front In given (row ∷ []) up.1)) up.0

  pub fails_still : (passes : Bool) (last : Option ℤ) (given : List Row) (row : Row)
      → not passes ≡ true → Walks rule passes last given
      → Walks rule passes last (given ++ row ∷ [])
  fails_still true last given row off walks = absurd (cc off)
  fails_still false last given row off fails = still_fails last last given row fails

  -- a row that isn't in its rules
  pub row_fails : (last next : Option ℤ) (given : List Row) (row : Row) → rule row ≡ false →
      Walks rule false next (given ++ row ∷ [])
  row_fails last next given row out up =
      let in' : rule row ≡ true = (all_end In given (row ∷ []) up.1).0 in
      absurd (let clash : true ≡ false = sym in' ∙ out in cc)

  -- a row that is, and is above the last or isn't
  pub walks_on : (last next : Option ℤ) (given : List Row) (row : Row) → rule row ≡ true
      → Walks rule true last given → IfSome next (IsAbove last row)
      → (next ≡ None → (id : ℤ) → ¬ IsAbove last row id)
      → Walks rule (is_some next) next (given ++ row ∷ [])
  walks_on last None given row in' so some none = λ up.
      climbs_on last None given row so.0 some none up.0
  walks_on last (Some id) given row in' so some none = (
    climbs_on last (Some id) given row so.0 some none,
    all-append In given (row ∷ []) so.1 (in', tt),
  )

  -- all rows
  pub walked : (passes : Bool) (last : Option ℤ) (rows : List Row) → Walks rule passes last rows
      → (IsTrue passes → Pass rule rows) × (Pass rule rows → IsTrue passes)
  walked false last rows fails = (λ e. absurd (cc e), λ up. absurd (fails up))
  walked true last rows so = (λ e. ((up_to true last rows so.0).0 refl, so.1), λ up. refl)
