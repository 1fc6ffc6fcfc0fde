use Rattle.std.proofs.Common.{map}
use Rattle.sqlite.specs.Held.{state}
use Rattle.sql_tables.proofs.Keeps.{on_ok}
use Rattle.sql_rows.specs.Content.{rows_in}
use Rattle.sql_rows.specs.Texts.{bucket_row}
use Rattle.sql_rows.proofs.lists.Dead.{dead_told, dead_rise}
use Rattle.sql_rows.proofs.bucket_rows.read_buckets_dead.Goals as goal

pub returns-clause-reads : goal.returns-clause-reads
returns-clause-reads g c = record {
  found = λ clean.
      dead_told (λ bs. map bucket_row bs.items) (map bucket_row c.in_ok-buckets.buckets.items)
      (rows_in (state g.S.Store c.args.conn.now).now.trees c.args.account.now) c.dead_among.result
      c.dead_among.ensures.dead c.dead_among.ensures.order
      (c.in_ok-buckets.ensures.reads.found clean);
  only = c.in_ok-buckets.ensures.reads.only;
  stays = λ clean. on_ok c.dead_among.result (c.in_ok-buckets.ensures.reads.stays clean);
  survives = c.in_ok-buckets.ensures.reads.survives;
}

pub returns-clause-order : goal.returns-clause-order
returns-clause-order g c =
    dead_rise (λ bs. map bucket_row bs.items) (map bucket_row c.in_ok-buckets.buckets.items)
    c.dead_among.result c.dead_among.ensures.dead c.dead_among.ensures.order
