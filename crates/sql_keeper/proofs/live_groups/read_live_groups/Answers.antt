use Rattle.std.proofs.Common.{List, map, subst, sym}
use Rattle.std.proofs.lemmas.Result.{IfOk-weaker}
use Rattle.sqlite.specs.Held.{state}
use Rattle.buckets.specs.Row.{BucketRow}
use Rattle.buckets.specs.Spend.{AreDistinct}
use Rattle.sql_rows.specs.Content.{rows_in}
use Rattle.sql_rows.specs.Texts.{open_group_at}
use Rattle.sql_keeper.proofs.loads.GroupRows.{live_groups}
use Rattle.sql_keeper.proofs.reads.Told.{made_of, one_tells}
use Rattle.sql_keeper.proofs.live_groups.read_live_groups.Goals as goal
use Rattle.sql_keeper.specs.Content.{shelf_names}

pub returns : goal.returns
returns g c =
    made_of _ _ (state g.S.Store c.args.conn.now) (state g.S.Store c.read_open_rows.new.conn)
    c.groups_of.result (one_tells _ _ _ c.in_ok-rows.rows c.in_ok-rows.ensures.reads)
    (λ trees told.
    IfOk-weaker c.groups_of.result _ _ (λ v all.
    live_groups (shelf_names c.args.books.now) (rows_in trees c.args.account.now)
    c.buckets.result.now c.in_ok-rows.rows.holds.items c.in_ok-rows.rows.books.items
    (map open_group_at c.in_ok-rows.rows.groups.items) v.items
    (subst (λ (bs : List BucketRow). AreDistinct bs)
    (sym c.buckets.ensures.value) c.buckets.ensures.sound.distinct)
    told.groups told.holds told.books all) c.groups_of.ensures)
