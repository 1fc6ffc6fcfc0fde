use Rattle.std.proofs.Common.{refl, sym, rules}
use Rattle.sqlite.specs.Held.{state}
use Rattle.sql_rows.proofs.queries.Within.{book_still, ended_within, gave_up, have_within}
use Rattle.sql_rows.proofs.queries.Within.{inside_still, stopped_within}
use Rattle.sql_keeper.specs.Content.{shelf_names}
use Rattle.sql_keeper.proofs.sweeps.SweptReads.{one_swept}
use Rattle.sql_keeper.proofs.sweeping.sweep_account.Goals as goal

pub put_swept-requires-clause-open : goal.put_swept-requires-clause-open
put_swept-requires-clause-open g c =
    inside_still _ _ (have_within _ _ _ _ c.in_ok-rows.ensures.reads) c.requires.open

pub put_swept-requires-clause-tables : goal.put_swept-requires-clause-tables
put_swept-requires-clause-tables g c =
    book_still _ _ (have_within _ _ _ _ c.in_ok-rows.ensures.reads) c.requires.tables

pub returns-in_err-rows-clause-sweeps : goal.returns-in_err-rows-clause-sweeps
returns-in_err-rows-clause-sweeps g c = record {
  same_reference = search rules;
  makes = gave_up _ _ _ _ c.from_residual.result _ c.from_residual.ensures.0
      c.in_err-rows.ensures.reads.still;
}

pub returns-in_err-swept-clause-sweeps : goal.returns-in_err-swept-clause-sweeps
returns-in_err-swept-clause-sweeps g c = record {
  same_reference = search rules;
  makes = stopped_within _ _ _ c.from_residual-in_err-swept.result
      c.from_residual-in_err-swept.ensures.0 (have_within _ _ _ _ c.in_ok-rows.ensures.reads);
}

pub returns-then-not-is_ruled_swept-clause-sweeps :
    goal.returns-then-not-is_ruled_swept-clause-sweeps
returns-then-not-is_ruled_swept-clause-sweeps g c = record {
  same_reference = search rules;
  makes = stopped_within _ _ _ _ refl (have_within _ _ _ _ c.in_ok-rows.ensures.reads);
}

pub returns-in_err-put_swept-clause-sweeps : goal.returns-in_err-put_swept-clause-sweeps
returns-in_err-put_swept-clause-sweeps g c = record {
  same_reference = search rules;
  makes = ended_within _ _ _ _ _ c.from_residual-in_err-put_swept.result _
      c.from_residual-in_err-put_swept.ensures.0
      (have_within _ _ _ _ c.in_ok-rows.ensures.reads) c.in_err-put_swept.ensures.over.makes;
}

pub returns-clause-sweeps : goal.returns-clause-sweeps
returns-clause-sweeps g c = record {
  same_reference = search rules;
  makes = one_swept (shelf_names c.args.names.now) c.args.shelf.now c.args.moment c.args.account.now
      (state g.S.Store c.args.tx.now.conn.now)
      (state g.S.Store c.read_uncounted_within.new.tx.conn.now)
      (state g.S.Store c.put_swept.new.tx.conn.now) c.in_ok-rows.rows c.in_ok-swept.swept
      c.in_ok-put_swept.field-0 _
      (have_within _ _ _ _ c.in_ok-rows.ensures.reads) c.in_ok-rows.ensures.reads.found
      c.in_ok-swept.ensures (sym c.if-not-is_ruled_swept.ensures) c.in_ok-put_swept.ensures.over.makes;
}
