use Rattle.std.proofs.Common.{rules, sym}
use Rattle.sql_keeper.proofs.replaced_rows.rows_over.Goals as goal

pub returns : goal.returns
returns c = record {
  named = search rules;
  known = sym c.if-not-opens_unknown.ensures;
  buckets = c.in_ok-purse.ensures;
  sessions = c.in_ok-sessions.ensures;
  groups = c.in_ok-groups.ensures;
}
