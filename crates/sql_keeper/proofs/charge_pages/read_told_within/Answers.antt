use Rattle.std.proofs.Common.{◌∙◌, Ok, ap, map}
use Rattle.sqlite.specs.Held.{state}
use Rattle.sql_rows.specs.Content.{rows_in}
use Rattle.sql_keeper.specs.Covered.{covered_charge}
use Rattle.sql_keeper.proofs.reads.ChargePages.{rise_with, told_with}
use Rattle.sql_keeper.proofs.reads.Told.{made_of, one_tells, tell_both}
use Rattle.sql_keeper.proofs.charge_pages.read_told_within.Goals as goal

pub returns-clause-reads : goal.returns-clause-reads
returns-clause-reads g c =
    made_of _ _ (state g.S.Store c.args.conn.now) (state g.S.Store c.read_covered_within.new.conn)
    (Ok c.cover_all.new.charges)
    (tell_both _ _ (state g.S.Store c.args.conn.now)
    (state g.S.Store c.read_charges_within.new.conn)
    (state g.S.Store c.read_covered_within.new.conn)
    (one_tells _ _ _ c.in_ok-rows.rows c.in_ok-rows.ensures.reads)
    (one_tells _ _ _ c.in_ok-covered.covered c.in_ok-covered.ensures.reads))
    (λ trees told. told_with (rows_in trees c.args.account.now) c.args.after c.args.last
    c.in_ok-rows.rows.items c.in_ok-covered.covered.items told.0 told.1
    c.cover_all.new.charges.items
    (c.cover_all.ensures ∙ ap (λ cs. map (covered_charge cs) c.in_ok-rows.rows.items)
    c.deref.ensures.value))

pub returns-clause-order : goal.returns-clause-order
returns-clause-order g c =
    rise_with c.deref.result.now c.in_ok-rows.rows.items c.cover_all.new.charges.items
    c.cover_all.ensures c.in_ok-rows.ensures.order
