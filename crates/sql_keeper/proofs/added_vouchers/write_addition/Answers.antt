use Rattle.std.proofs.Common.{◌≡◌, ◌∙◌, subst, sym}
use Rattle.sqlite.specs.Held.{state}
use Rattle.sql_keeper.specs.Additions.{with_addition_put}
use Rattle.sql_keeper.specs.Commits.{Transacts}
use Rattle.sql_keeper.proofs.commits.Transacted.{transacted}
use Rattle.sql_keeper.proofs.commits.Whole.{begun_rules}
use Rattle.sql_keeper.proofs.added_vouchers.write_addition.Goals as goal

pub put_addition-requires-clause-rules : goal.put_addition-requires-clause-rules
put_addition-requires-clause-rules g c =
    begun_rules g.S.Store c.args.conn.now c.transaction-tx.result.conn.now
    c.transaction-tx.ensures.begun c.requires.idle c.schema-ours.ensures.live

pub returns-clause-transacts : goal.returns-clause-transacts
returns-clause-transacts g c =
    let change = (with_addition_put c.args.is_there c.args.code.now
    c.args.terms c.args.moment) in
    let same : c.commit.new.self.0 ≡ c.conn-2-1.given.0 =
    sym (c.conn-2-1.given.1 (sym (c.in_ok-put_addition.ensures.same_reference
    ∙ c.transaction-tx.ensures.same_reference))) in
    subst (λ h. Transacts change (state g.S.Store c.args.conn.now) (state g.S.Store h)
    c.commit.result) same
    (transacted g.S.Store change c.args.conn.now c.transaction-tx.result.conn.now _ _
    c.transaction-tx.ensures.begun c.requires.idle c.in_ok-put_addition.field-0
    c.in_ok-put_addition.ensures.makes c.commit.ensures.survives c.commit.result
    c.commit.ensures.ok c.commit.ensures.err)
