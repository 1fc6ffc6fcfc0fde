use Rattle.std.proofs.Common.{refl}
use Rattle.sqlite.specs.Held.{state}
use Rattle.sql_keeper.specs.Content.{shelf_names}
use Rattle.sql_keeper.proofs.reads.Asked.{keeper_after}
use Rattle.sql_keeper.proofs.kept.KeptRows.{still_kept}
use Rattle.sql_keeper.proofs.kept.SeenRows.{seen_after}
use Rattle.sql_keeper.proofs.stops.Standing.{asked, asked_whole}
use Rattle.sql_keeper.proofs.keeper.SqlKeeper.find_voucher.Goals as goal

pub invariant_of-self : goal.invariant_of-self
invariant_of-self g c = record {
  keeper = keeper_after g.S.Store _ _ c.self.invariant.keeper c.ask_for_voucher-read.ensures.only
      c.ask_for_voucher-read.ensures.survives refl refl refl c.counted.ensures.bounded;
  seen = seen_after c.self.inside.seen (state g.S.Store c.self.inside.connection)
      (state g.S.Store c.ask_for_voucher-read.new.conn) c.self.invariant.seen
      c.ask_for_voucher-read.ensures.only;
  kept = still_kept (shelf_names c.self.inside.shelf) c.self.inside.kept
      (state g.S.Store c.self.inside.connection) (state g.S.Store c.ask_for_voucher-read.new.conn)
      c.self.invariant.kept c.ask_for_voucher-read.ensures.only;
}

pub returns : goal.returns
returns g c = rw (← c.self.view_is) (record {
  reads = asked g.S.Store _ _ c.self.invariant.keeper
      refl _ _ c.ask_for_voucher-read.result c.counted.result c.ask_for_voucher-read.ensures
      c.counted.ensures.handed c.counted.ensures.cause
      (λ clean on x t. t);
  whole = asked_whole g.S.Store _ _
      c.self.invariant.keeper refl _ c.ask_for_voucher-read.result c.ask_for_voucher-read.ensures;
})
