use Rattle.std.proofs.Common.{◌∙◌}
use Rattle.keepers.proofs.SweptEach.{swept_place}
use Rattle.keepers.proofs.accounts.Accounts.advance.Goals as goal

pub invariant_of-self : goal.invariant_of-self
invariant_of-self c = record {
  placed = λ a. c.args.self.now.placed a
      ∙ swept_place c.args.shelf.now c.args.moment a c.args.self.now.entries.items
      c.advance_entries.new.entries.items c.advance_entries.ensures.rows;
}
