use Rattle.sql_keeper.proofs.openings.Made.{keeper_made}
use Rattle.sql_keeper.proofs.opening.keeper_of.Goals as goal

pub invariant_of-keeper : goal.invariant_of-keeper
invariant_of-keeper g c = record {
  keeper = keeper_made g.S.Store (λ s db. g.met.S.Store.settled s db) c.args.connection
      c.args.read c.requires.plain c.requires.idle c.requires.open c.requires.read
      c.schema-listed.ensures.live;
  seen = λ clean on. tt;
  kept = λ clean on. tt;
}

pub returns-clause-kept : goal.returns-clause-kept
returns-clause-kept g c =
    keeper_made g.S.Store (λ s db. g.met.S.Store.settled s db) c.args.connection c.args.read
    c.requires.plain c.requires.idle c.requires.open c.requires.read c.schema-listed.ensures.live
