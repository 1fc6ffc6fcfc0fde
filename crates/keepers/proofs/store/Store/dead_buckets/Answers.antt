use Rattle.std.proofs.Common.{List, subst, Ok, Err}
use Rattle.std.specs.Prelude.{Result, IfOk, filter, ◌++◌, Vec}
use Rattle.std.specs.Global.{Global}
use Rattle.std.specs.List.Sorted.{IsNonDecreasingBy, IsPermutation}
use Rattle.buckets.specs.Row.{BucketRow}
use Rattle.reserving.specs.Left.{is_dead}
use Rattle.keepers.specs.Change.{AreDeadOf}
use Rattle.keepers.specs.Parts.{Parts, AreParts, rows_of_parts}
use Rattle.keepers.proofs.Dead.{parts_dead}
use Rattle.keepers.specs.Inside.{parts_of}
use Rattle.keepers.proofs.store.Store.dead_buckets.Goals as goal

both : {V E : Type 0} (items : V → List BucketRow) (r : Result V E) (p : Parts) → AreParts p →
    IfOk r (λ v. IsPermutation (filter is_dead (p.left.buckets ++ p.live.buckets)) (items v)) →
    IfOk r (λ v. IsNonDecreasingBy (λ b. b.number) (items v)) →
    IfOk r (λ v. AreDeadOf (rows_of_parts p) (items v))
both items (Ok v) p h same order = parts_dead p h (items v) same order
both items (Err e) p h same order = tt

pub returns : goal.returns
returns c =
    let p : Parts = parts_of c.self.inside in
    subst (λ (q : Parts). IfOk c.dead_rows.result (λ found. AreDeadOf (rows_of_parts q)
    found.items))
    c.self.view_is
    (both (λ (v : Vec BucketRow Global). v.items) c.dead_rows.result p c.self.invariant.parts
    c.dead_rows.ensures.same c.dead_rows.ensures.order)
