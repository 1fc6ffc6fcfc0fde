use Rattle.std.proofs.Common.{◌∙◌, rules}
use Rattle.sqlite.specs.Held.{state}
use Rattle.sqlite.specs.State.{IsUnchanged}
use Rattle.sql_rows.proofs.queries.Within.{have_within}
use Rattle.sql_keeper.specs.Content.{shelf_names}
use Rattle.sql_keeper.proofs.sweeps.SweptInTurn.{next_of, not_brought, so_many, swept_all}
use Rattle.sql_keeper.proofs.sweeps.SweptInTurn.{up_to_next, up_to_none}
use Rattle.sql_keeper.proofs.sweeps.SweptReads.{none_swept, not_swept}
use Rattle.sql_keeper.proofs.sweeping.sweep_each.Goals as goal

pub accounts-init : goal.accounts-init
accounts-init g c = record {
  same = c.in_ok-put_meta.ensures.same_reference;
  swept = up_to_none (shelf_names c.args.names.now) c.args.text.now c.args.shelf.now
      c.args.moment (state g.S.Store c.args.tx.now.conn.now)
      (state g.S.Store c.put_meta.new.tx.conn.now)
      (none_swept (shelf_names c.args.names.now) c.args.text.now c.args.shelf.now c.args.moment
      c.in_ok-put_meta.field-0 (state g.S.Store c.args.tx.now.conn.now)
      (state g.S.Store c.put_meta.new.tx.conn.now) c.in_ok-put_meta.ensures.makes
      c.in_ok-put_meta.ensures.rules);
}

pub returns-in_err-account-clause-over : goal.returns-in_err-account-clause-over
returns-in_err-account-clause-over g c = record {
  same_reference = search rules;
  makes = let h = c.accounts.invariant.swept in
      not_swept (shelf_names c.args.names.now) c.args.text.now c.args.shelf.now c.args.moment
      IsUnchanged h.numbers (state g.S.Store c.args.tx.now.conn.now)
      (state g.S.Store c.accounts.tx.conn.now) (state g.S.Store c.read_next_account.new.tx.conn.now)
      c.from_residual-in_err-account.result _ c.from_residual-in_err-account.ensures.0 h.swept
      c.in_err-account.ensures.reads.still;
}

pub returns-in_default-clause-over : goal.returns-in_default-clause-over
returns-in_default-clause-over g c = record {
  same_reference = search rules;
  makes = swept_all (shelf_names c.args.names.now) c.args.text.now c.args.shelf.now c.args.moment
      c.accounts.last c.accounts.count (state g.S.Store c.args.tx.now.conn.now)
      (state g.S.Store c.accounts.tx.conn.now) (state g.S.Store c.read_next_account.new.tx.conn.now)
      c.accounts.invariant.swept (have_within _ _ _ _ c.in_ok-account.ensures.reads)
      (λ clean. next_of _ _ _ _ _ c.as_ref.ensures.value c.in_default.is
      (c.in_ok-account.ensures.reads.found clean)) c.accounts.count;
}

pub returns-in_default-clause-count : goal.returns-in_default-clause-count
returns-in_default-clause-count g c =
    so_many (shelf_names c.args.names.now) c.args.text.now c.args.shelf.now c.args.moment
    c.accounts.last c.accounts.count (state g.S.Store c.args.tx.now.conn.now)
    (state g.S.Store c.accounts.tx.conn.now) (state g.S.Store c.read_next_account.new.tx.conn.now)
    c.accounts.invariant.swept (have_within _ _ _ _ c.in_ok-account.ensures.reads)
    (λ clean. next_of _ _ _ _ _ c.as_ref.ensures.value c.in_default.is
    (c.in_ok-account.ensures.reads.found clean))

pub returns-in_err-sweep_account-clause-over : goal.returns-in_err-sweep_account-clause-over
returns-in_err-sweep_account-clause-over g c = record {
  same_reference = search rules;
  makes = not_brought (shelf_names c.args.names.now) c.args.text.now c.args.shelf.now c.args.moment
      c.accounts.last c.accounts.count (state g.S.Store c.args.tx.now.conn.now)
      (state g.S.Store c.accounts.tx.conn.now) (state g.S.Store c.read_next_account.new.tx.conn.now)
      c.accounts.invariant.swept (have_within _ _ _ _ c.in_ok-account.ensures.reads)
      c.in-Some.account (state g.S.Store c.sweep_account.new.tx.conn.now)
      c.from_residual-in_err-sweep_account.result _
      c.from_residual-in_err-sweep_account.ensures.0 c.in_err-sweep_account.ensures.sweeps.makes;
}

pub accounts-preserved : goal.accounts-preserved
accounts-preserved g c = record {
  same = c.in_ok-sweep_account.ensures.sweeps.same_reference ∙ c.in_ok-account.ensures.same_reference
      ∙ c.accounts.invariant.same;
  swept = up_to_next (shelf_names c.args.names.now) c.args.text.now c.args.shelf.now
      c.args.moment c.accounts.last c.accounts.count (state g.S.Store c.args.tx.now.conn.now)
      (state g.S.Store c.accounts.tx.conn.now)
      (state g.S.Store c.read_next_account.new.tx.conn.now) c.accounts.invariant.swept
      (have_within _ _ _ _ c.in_ok-account.ensures.reads) c.in-Some.account
      (state g.S.Store c.sweep_account.new.tx.conn.now) c.in_ok-sweep_account.field-0
      (λ clean. next_of _ _ _ _ _ c.as_ref.ensures.value c.in-Some.is
      (c.in_ok-account.ensures.reads.found clean)) c.in_ok-sweep_account.ensures.sweeps.makes
      c.in_ok-sweep_account.ensures.rules;
}
