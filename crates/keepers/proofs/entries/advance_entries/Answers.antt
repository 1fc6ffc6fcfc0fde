use Rattle.std.proofs.Common.{subst, List, length, ◌<◌}
use Rattle.keepers.specs.declared.entries.AccountEntry.{AccountEntry}
use Rattle.keepers.proofs.SweptEach.{swept_next}
use Rattle.keepers.proofs.entries.advance_entries.Goals as goal

pub loop-entry-preserved : goal.loop-entry-preserved
loop-entry-preserved c =
    swept_next c.args.shelf.now c.args.moment c.loop-entry.entry-index c.args.entries.now.items
    c.loop-entry.entry-items c.entry-item.result c.advance_entry.new.entry
    c.loop-entry.invariant.0 c.loop-entry.invariant.1
    (subst (λ (zs : List AccountEntry). c.loop-entry.entry-index < length zs)
    c.deref_mut-entry-items.ensures.value c.loop-entry-test.true) c.advance_entry.ensures
