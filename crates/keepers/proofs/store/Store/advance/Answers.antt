use Rattle.std.proofs.Common.{sym, subst}
use Rattle.reserving.specs.Stored.{StoredRows}
use Rattle.keepers.specs.Change.{AreBroughtTo}
use Rattle.keepers.specs.Parts.{Parts, AreParts, rows_of_parts}
use Rattle.keepers.proofs.PartsKept.{parts_advanced}
use Rattle.keepers.proofs.PartsSwept.{parts_brought}
use Rattle.keepers.proofs.SweptRows.{rows_brought}
use Rattle.keepers.specs.Inside.{parts_of}
use Rattle.keepers.proofs.store.Store.advance.Goals as goal

pub invariant_of-self : goal.invariant_of-self
invariant_of-self c =
    let p : Parts = parts_of c.self.inside in
    record {
      parts = subst (λ (w : StoredRows). AreParts (record { live = w; left = p.left }))
          (sym c.advance.ensures)
          (parts_advanced c.args.shelf.now c.args.moment p c.self.invariant.parts);
      buckets = c.self.invariant.buckets;
      counters = c.self.invariant.counters;
      sessions = c.self.invariant.sessions;
      groups = c.self.invariant.groups;
    }

pub returns-clause-listed : goal.returns-clause-listed
returns-clause-listed c =
    let p : Parts = parts_of c.self.inside in
    subst (λ (q : Parts). AreBroughtTo c.args.shelf.now c.args.moment (rows_of_parts q)
    (rows_of_parts (record { live = c.advance.new.self; left = p.left }))) c.self.view_is
    (subst (λ (w : StoredRows). AreBroughtTo c.args.shelf.now c.args.moment (rows_of_parts p)
    (rows_of_parts (record { live = w; left = p.left }))) (sym c.advance.ensures)
    (parts_brought c.args.shelf.now c.args.moment p c.self.invariant.parts
    c.as_of-kept.ensures.kept))

pub returns-clause-rows : goal.returns-clause-rows
returns-clause-rows c =
    rows_brought c.args.shelf.now c.args.moment (rows_of_parts c.args.self.now) _
    c.first-ranges.ensures.shelf (returns-clause-listed c)
