use Rattle.std.proofs.Common.{List, map, subst, sym}
use Rattle.std.proofs.lemmas.Result.{IfOk-weaker}
use Rattle.sqlite.specs.Held.{state}
use Rattle.buckets.specs.Row.{BucketRow}
use Rattle.buckets.specs.Spend.{AreDistinct}
use Rattle.sql_rows.specs.Content.{rows_in}
use Rattle.sql_rows.specs.Texts.{open_group_at}
use Rattle.sql_rows.proofs.queries.Within.{within_made}
use Rattle.sql_keeper.proofs.loads.GroupRows.{live_groups}
use Rattle.sql_keeper.proofs.live_within.read_groups_within.Goals as goal
use Rattle.sql_keeper.specs.Content.{shelf_names}

pub returns-clause-reads : goal.returns-clause-reads
returns-clause-reads g c =
    within_made _ _ (state g.S.Store c.args.tx.now.conn.now)
    (state g.S.Store c.read_open_rows_within.new.tx.conn.now) c.in_ok-rows.rows
    c.groups_of.result c.in_ok-rows.ensures.reads
    (λ trees told.
    IfOk-weaker c.groups_of.result _ _ (λ v all.
    live_groups (shelf_names c.args.books.now) (rows_in trees c.args.account.now)
    c.buckets.result.now c.in_ok-rows.rows.holds.items c.in_ok-rows.rows.books.items
    (map open_group_at c.in_ok-rows.rows.groups.items) v.items
    (subst (λ (bs : List BucketRow). AreDistinct bs)
    (sym c.buckets.ensures.value) c.buckets.ensures.sound.distinct)
    told.groups told.holds told.books all) c.groups_of.ensures)
