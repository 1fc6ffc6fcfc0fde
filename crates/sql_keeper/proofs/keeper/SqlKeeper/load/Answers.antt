use Rattle.std.proofs.Common.{refl, subst, sym}
use Rattle.sqlite.specs.Held.{state}
use Rattle.sql_rows.specs.Content.{rows_in}
use Rattle.sql_keeper.specs.Content.{shelf_names}
use Rattle.sql_keeper.specs.KeptRows.{Keeps}
use Rattle.sql_keeper.specs.LiveRows.{IsLoadStored}
use Rattle.sql_keeper.specs.Seen.{Sees}
use Rattle.sql_keeper.proofs.reads.Asked.{keeper_after}
use Rattle.sql_keeper.proofs.kept.KeptRows.{kept_asked}
use Rattle.sql_keeper.proofs.kept.SeenRows.{seen_newer}
use Rattle.sql_keeper.proofs.stops.Standing.{asked, asked_whole}
use Rattle.sql_keeper.proofs.keeper.SqlKeeper.load.Goals as goal

pub ask_to_load-read-requires-clause-kept : goal.ask_to_load-read-requires-clause-kept
ask_to_load-read-requires-clause-kept g c = c.self.invariant.kept

pub ask_to_load-read-requires-clause-seen : goal.ask_to_load-read-requires-clause-seen
ask_to_load-read-requires-clause-seen g c = c.self.invariant.seen

pub invariant_of-self : goal.invariant_of-self
invariant_of-self g c = record {
  keeper = keeper_after g.S.Store _ _ c.self.invariant.keeper c.ask_to_load-read.ensures.asks.only
      c.ask_to_load-read.ensures.asks.survives refl refl refl c.counted.ensures.bounded;
  seen = seen_newer (λ trees found. IsLoadStored (shelf_names c.self.inside.shelf)
      c.args.shelf.now c.args.moment c.args.account.now (rows_in trees c.args.account.now) found)
      c.ask_to_load-read.new.seen c.seen_later.result
      (state g.S.Store c.self.inside.connection) (state g.S.Store c.ask_to_load-read.new.conn)
      c.ask_to_load-read.result c.ask_to_load-read.ensures.seen c.ask_to_load-read.ensures.asks
      (λ trees before told. c.seen_later.ensures trees
      (subst (λ o. Sees o trees) (sym c.take-older.ensures.value) before)
      (c.seen_in-newer.ensures (shelf_names c.self.inside.shelf)
      c.args.shelf.now c.args.moment c.args.account.now trees told));
  kept = kept_asked (shelf_names c.self.inside.shelf)
      (λ trees found. IsLoadStored (shelf_names c.self.inside.shelf) c.args.shelf.now
      c.args.moment c.args.account.now (rows_in trees c.args.account.now) found)
      c.self.inside.kept c.kept_after.result
      (state g.S.Store c.self.inside.connection) (state g.S.Store c.ask_to_load-read.new.conn)
      c.ask_to_load-read.result c.self.invariant.kept c.ask_to_load-read.ensures.asks
      (λ trees before told. c.kept_after.ensures (shelf_names c.self.inside.shelf)
      c.args.shelf.now c.args.moment c.args.account.now trees
      (subst (λ o. Keeps (shelf_names c.self.inside.shelf) o trees)
      (sym c.take-kept.ensures.value) (c.ask_to_load-read.ensures.kept trees before)) told);
}

pub returns : goal.returns
returns g c = rw (← c.self.view_is) (record {
  reads = asked g.S.Store _ _ c.self.invariant.keeper
      refl _ _ c.ask_to_load-read.result c.counted.result c.ask_to_load-read.ensures.asks
      c.counted.ensures.handed c.counted.ensures.cause
      (λ clean on x t. t.load);
  whole = asked_whole g.S.Store _ _
      c.self.invariant.keeper refl _ c.ask_to_load-read.result c.ask_to_load-read.ensures.asks;
})
