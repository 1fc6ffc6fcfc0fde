use Rattle.std.proofs.Common.{rules, arith}
use Rattle.sqlite.specs.Held.{state}
use Rattle.sqlite.specs.Values.{bound}
use Rattle.sql_tables.proofs.Keeps.{answers_from, keys_from, reads_only, reads_survive}
use Rattle.sql_tables.proofs.reading.read.Goals as goal

pub returns : goal.returns
returns g c = record {
  answers = λ clean. answers_from c.args.sql.now (bound c.args.params.now)
      (state g.S.Store c.args.conn.now) (state g.S.Store c.query_all.new.self) _ c.requires.plain
      (c.requires.idle (omega (arith, c.query_all.ensures.survives.clean)))
      c.schema-ours.ensures.live (c.in_ok-query_all.ensures.ok clean);
  reads = reads_only (λ v. v.items) c.args.sql.now _ _ _ c.query_all.result c.requires.plain
      c.requires.idle c.query_all.ensures.survives c.query_all.ensures.mode c.query_all.ensures.ok
      c.query_all.ensures.err;
  stops = reads_survive c.args.sql.now _ _ _ c.requires.plain c.requires.idle
      c.query_all.ensures.survives;
  fault = search rules;
  keys = λ clean. keys_from c.args.sql.now (bound c.args.params.now)
      (state g.S.Store c.args.conn.now) (state g.S.Store c.query_all.new.self) _
      (c.requires.idle (omega (arith, c.query_all.ensures.survives.clean)))
      c.schema-ours.ensures.live (c.in_ok-query_all.ensures.ok clean);
}

pub returns-in_err-query_all : goal.returns-in_err-query_all
returns-in_err-query_all g c = record {
  answers = search rules;
  reads = reads_only (λ v. v.items) c.args.sql.now _ _ _ c.query_all.result c.requires.plain
      c.requires.idle c.query_all.ensures.survives c.query_all.ensures.mode c.query_all.ensures.ok
      c.query_all.ensures.err;
  stops = reads_survive c.args.sql.now _ _ _ c.requires.plain c.requires.idle
      c.query_all.ensures.survives;
  fault = search rules;
  keys = search rules;
}
