use Rattle.std.proofs.Common.{ap, ◌∙◌}
use Rattle.reserving.specs.Restored.{given}
use Rattle.reserving.specs.Written.{sessions_written, groups_written, counters_written}
use Rattle.reserving.proofs.kept_rows.KeptRows.write.Goals as goal

pub returns-clause-ok : goal.returns-clause-ok
returns-clause-ok c =
    λ i. record (given c.args.rows) {
      counters = (c.write_counters.ensures
          ∙ ap (counters_written c.args.rows.counters.items) c.in_ok-reserve.ensures.items) i;
      sessions = (c.write_sessions.ensures
          ∙ ap (sessions_written c.args.rows.sessions.items) c.in_ok-reserve-2.ensures.items) i;
      groups = (c.write_groups.ensures
          ∙ ap (groups_written c.args.rows.groups.items) c.in_ok-reserve-3.ensures.items) i;
    }
