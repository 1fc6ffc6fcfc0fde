-- Tables of accepted commands: that no bucket of them is out of range, and that their rows are lists,
-- come to the same.
use Rattle.std.proofs.Common.{◌≡◌, ℕ, ◌≤◌, Bool, true, false, cond, List, [], ◌∷◌, refl, sym, subst}
use Rattle.std.proofs.Common.{Option, Some, inl, inr}
use Rattle.std.specs.Prelude.{if◌then◌else◌, ◌==◌, IfSome, take}
use Rattle.buckets.specs.Kinds.{most_of}
use Rattle.buckets.specs.Row.{BucketRow, IsBalanced}
use Rattle.buckets.specs.Spend.{Each}
use Rattle.shelves.specs.Shelves.{Shelf, IsShelf}
use Rattle.reserving.specs.Left.{bucket_in}
use Rattle.reserving.proofs.LeftMerged.{each_map}
use Rattle.keepers.specs.Tables.{Head, Rows, Tables, no_rows}
use Rattle.charging.specs.Accepted.{Accepted, IsInTime, as_of}
use Rattle.charging.specs.Equations.{EquationsAreEnough}
use Rattle.charging.specs.FiniteRows.{AreLists, IsList, LeftAreLists, ListsAreInRange}
use Rattle.charging.specs.Promise.{AreBucketsInRange, tables_after}
use Rattle.charging.specs.Runs.{after_commands}
use Rattle.charging.specs.Served.{AreTables, history}
use Rattle.charging.specs.TablesAfter.{rows_at}
use Rattle.charging.proofs.lists.FiniteRows.{rows_are_lists}
use Rattle.charging.proofs.runs.AcceptedTables.{row_some}
use Rattle.charging.proofs.runs.FromEquations.{lists_are_enough}
use Rattle.charging.proofs.runs.RunLemmas.{time_after}
use Rattle.charging.proofs.runs.TablesAfter.{tables_are_a_function}

-- ---- of lists

-- what holds of each bucket holds of the one that is found
found : (P : BucketRow → Type 0) (n : ℕ) (xs : List BucketRow) → Each P xs →
    IfSome (bucket_in n xs) P
found P n [] h = tt
found P n (x ∷ xs) h = at (x.number == n) (found P n xs h.1)
  where
    at : (t : Bool) → IfSome (bucket_in n xs) P → IfSome (cond t (Some x) (bucket_in n xs)) P
    at true rest = h.0
    at false rest = rest

list_in_range : (r : Rows) → IsList r → (n : ℕ) →
    IfSome (r.buckets n) (λ b. b.credited ≤ most_of b.kind)
list_in_range r l n =
    subst (λ (o : Option BucketRow). IfSome o (λ b. b.credited ≤ most_of b.kind))
    (sym (l.are.buckets n))
    (found (λ b. b.credited ≤ most_of b.kind) n l.rows.buckets
    (each_map IsBalanced (λ b. b.credited ≤ most_of b.kind) l.rows.buckets (λ b h. h.most)
    l.kept.sound.balanced))

-- an account that isn't there has no bucket
pub lists_in_range : ListsAreInRange
lists_in_range shelf list lists a n = at (history shelf a list).opened (lists a)
  where
    rows_if : Bool → Rows
    rows_if opened =
        if opened then rows_at shelf (as_of a list) (history shelf a list).ledger else no_rows

    at : (opened : Bool) →
        ((head : Head) → (rows_if opened).head ≡ Some head → IsList (rows_if opened)) →
        IfSome ((rows_if opened).buckets n) (λ b. b.credited ≤ most_of b.kind)
    at true is = list_in_range (rows_if true) (is _ refl) n
    at false is = tt

-- ---- of the tables of accepted commands

lists_of : (shelf : Shelf) (list : List Accepted) (tables : Tables) →
    AreTables shelf list tables → AreLists tables
lists_of shelf list tables h a head e =
    let rows = (row_some shelf _ _ (tables.rows a) head e (h.accounts a)).1 in
    record { rows = rows.listed; are = rows.are; kept = rows.kept }

pub ranges_of : (shelf : Shelf) (list : List Accepted) (tables : Tables) →
    AreTables shelf list tables → AreBucketsInRange tables
ranges_of shelf list tables h =
    let e : tables ≡ tables_after shelf list = tables_are_a_function shelf list tables h in
    subst AreBucketsInRange (sym e)
    (lists_in_range shelf list (subst AreLists e (lists_of shelf list tables h)))

-- ---- and back

lists_by : (shelf : Shelf) → IsShelf shelf → (list : List Accepted) → IsInTime list →
    (tables : Tables) → AreBucketsInRange tables → tables ≡ tables_after shelf list →
    AreLists tables
lists_by shelf is list time tables ranges e = subst AreLists (sym e)
    (rows_are_lists shelf is list time (subst AreBucketsInRange e ranges))

pub equations_are_enough : EquationsAreEnough
equations_are_enough shelf is list time tables ranges e =
    lists_are_enough shelf list tables (lists_by shelf is list time tables ranges e) e

-- rule: runs.finite-rows
pub left_are_lists : LeftAreLists
left_are_lists shelf is commands run list tables time (inl after) =
    lists_by shelf is list time tables after.ranges after.are
left_are_lists shelf is commands run list tables time (inr found) =
    lists_by shelf is (after_commands shelf list (take found.count commands))
    (time_after shelf list (take found.count commands) time) tables found.ranges found.tables
