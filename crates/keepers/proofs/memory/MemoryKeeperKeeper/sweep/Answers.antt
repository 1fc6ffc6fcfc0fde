use Rattle.std.proofs.Common.{◌∙◌}
use Rattle.keepers.proofs.SweptEach.{swept_tables, swept_length}
use Rattle.keepers.proofs.memory.MemoryKeeperKeeper.sweep.Goals as goal

pub returns-clause-count : goal.returns-clause-count
returns-clause-count c = λ _.
    c.count.ensures ∙ swept_length c.args.shelf.now c.args.moment
    c.args.self.now.accounts.entries.items c.advance.new.self.entries.items c.advance.ensures

pub returns-clause-done : goal.returns-clause-done
returns-clause-done c = λ _.
    swept_tables c.args.shelf.now c.args.moment c.args.self.now.last c.args.self.now.vouchers
    c.args.self.now.accounts.entries.items c.advance.new.self.entries.items c.advance.ensures
