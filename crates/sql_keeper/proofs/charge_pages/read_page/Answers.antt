use Rattle.std.proofs.Common.{Ok, arith, refl}
use Rattle.std.specs.Prelude.{nat_le}
use Rattle.sqlite.specs.Held.{state}
use Rattle.keepers.specs.declared.pages.ChargePage.{ChargePage}
use Rattle.sql_rows.specs.Content.{rows_in}
use Rattle.sql_keeper.proofs.reads.ChargePages.{page_told}
use Rattle.sql_keeper.proofs.reads.Told.{made_of, one_tells, several_tell, tell_both}
use Rattle.sql_keeper.proofs.charge_pages.read_page.Goals as goal

pub returns : goal.returns
returns g c =
    let page : ChargePage = record {
      rows = c.in_ok-rows.rows;
      last = c.end_of_page-last.result;
      is_last = nat_le c.in_ok-number.number c.end_of_page-last.result;
    } in
    made_of _ _ (state g.S.Store c.args.conn.now) (state g.S.Store c.read_told_within.new.conn)
    (Ok page)
    (tell_both _ _ (state g.S.Store c.args.conn.now)
    (state g.S.Store c.read_last_number.new.conn)
    (state g.S.Store c.read_told_within.new.conn)
    (one_tells _ _ _ c.in_ok-number.number c.in_ok-number.ensures)
    (several_tell _ _ _ c.in_ok-rows.rows c.in_ok-rows.ensures.reads))
    (λ trees told. page_told (rows_in trees c.args.account.now) c.args.after
    c.in_ok-number.number c.lesser-up_to.result page (omega arith) (omega arith)
    c.end_of_page-last.ensures refl c.lesser-up_to.ensures c.in_ok-rows.ensures.order told.0 told.1)
