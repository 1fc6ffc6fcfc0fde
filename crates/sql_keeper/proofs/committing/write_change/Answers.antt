use Rattle.std.proofs.Common.{◌≡◌, ◌∙◌, option_map, subst, sym}
use Rattle.sqlite.specs.Held.{state}
use Rattle.sqlite_trees.specs.Tree.{Trees}
use Rattle.sql_rows.specs.Content.{tables_content}
use Rattle.sql_rows.specs.Texts.{kept_of}
use Rattle.sql_keeper.specs.Commits.{Transacts}
use Rattle.sql_keeper.specs.Content.{shelf_names}
use Rattle.sql_keeper.specs.Numbers.{LacksThen, WasSo}
use Rattle.sql_keeper.specs.Writes.{with_change_put}
use Rattle.sql_keeper.proofs.commits.Transacted.{transacted, was_so}
use Rattle.sql_keeper.proofs.commits.Whole.{begun_rules}
use Rattle.sql_keeper.proofs.committing.write_change.Goals as goal

pub put_change-requires-clause-rules : goal.put_change-requires-clause-rules
put_change-requires-clause-rules g c =
    begun_rules g.S.Store c.args.conn.now c.transaction-tx.result.conn.now
    c.transaction-tx.ensures.begun c.requires.idle c.schema-ours.ensures.live

pub returns-clause-transacts : goal.returns-clause-transacts
returns-clause-transacts g c =
    let change = with_change_put (shelf_names c.args.books.now) c.args.known.now c.args.change.now
    (option_map kept_of c.args.texts.now) in
    let same : c.commit.new.self.0 ≡ c.conn-2-1.given.0 =
    sym (c.conn-2-1.given.1 (sym (c.in_ok-put_change.ensures.over.same_reference
    ∙ c.transaction-tx.ensures.same_reference))) in
    subst (λ h. Transacts change (state g.S.Store c.args.conn.now) (state g.S.Store h)
    c.commit.result) same
    (transacted g.S.Store change c.args.conn.now c.transaction-tx.result.conn.now _ _
    c.transaction-tx.ensures.begun c.requires.idle c.in_ok-put_change.field-0
    c.in_ok-put_change.ensures.over.makes c.commit.ensures.survives c.commit.result
    c.commit.ensures.ok c.commit.ensures.err)

pub returns-clause-free : goal.returns-clause-free
returns-clause-free g c =
    let so : Trees → Type 0 =
    λ trees. LacksThen (shelf_names c.args.books.now) c.args.known.now c.args.change.now
    (tables_content trees) in
    let change = with_change_put (shelf_names c.args.books.now) c.args.known.now c.args.change.now
    (option_map kept_of c.args.texts.now) in
    let same : c.commit.new.self.0 ≡ c.conn-2-1.given.0 =
    sym (c.conn-2-1.given.1 (sym (c.in_ok-put_change.ensures.over.same_reference
    ∙ c.transaction-tx.ensures.same_reference))) in
    subst (λ h. WasSo so (state g.S.Store c.args.conn.now) (state g.S.Store h) c.commit.result)
    same
    (was_so g.S.Store change c.args.conn.now c.transaction-tx.result.conn.now _ _
    c.transaction-tx.ensures.begun c.requires.idle c.in_ok-put_change.field-0
    c.in_ok-put_change.ensures.over.makes c.commit.ensures.survives so c.commit.result
    c.in_ok-put_change.ensures.free)
