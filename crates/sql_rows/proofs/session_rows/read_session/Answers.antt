use Rattle.std.proofs.Common.{[], ◌∷◌, map, ap, ◌∙◌}
use Rattle.sqlite.specs.Held.{state}
use Rattle.sqlite.specs.Values.{bound_value}
use Rattle.sqlite_value.specs.declared.value.Value.TheVariants.{Text}
use Rattle.sql_tables.proofs.Telling.{reads_as}
use Rattle.sql_rows.proofs.selections.ReadSession.{read_session_text, read_session_plain}
use Rattle.sql_rows.proofs.selections.ReadSession.{session_read, none_told}
use Rattle.sql_rows.proofs.rules.KeyRules.{refused_as}
use Rattle.sql_rows.proofs.rules.MetaRules.{at_ok}
use Rattle.sql_rows.proofs.rules.SessionRules.{session_refused}
use Rattle.sql_rows.proofs.session_rows.read_session.Goals as goal

pub read-requires-clause-plain : goal.read-requires-clause-plain
read-requires-clause-plain g c = read_session_plain

pub returns-clause-reads : goal.returns-clause-reads
returns-clause-reads g c =
    reads_as _ read_session_text _ _ _ _ _ _ c.session_among.result c.read.ensures.reads
    c.read.ensures.stops c.in_ok-rows.ensures.answers
    (λ i. map bound_value ((c.text.ensures ∙ ap Text c.as_str.ensures.value) i ∷
    (c.text-2.ensures ∙ ap Text c.as_str-2.ensures.value) i ∷ []))
    c.deref.ensures.value (at_ok _ _ c.session_among.result c.session_among.ensures)
    (session_read c.args.account.now c.args.session.now _ _ _)

pub returns-clause-none : goal.returns-clause-none
returns-clause-none g c clean =
    none_told c.args.account.now c.args.session.now (state g.S.Store c.args.conn.now).now.trees
    c.session_among.result ((returns-clause-reads g c).found clean)
    (c.in_ok-rows.ensures.keys clean)

pub returns-clause-refused : goal.returns-clause-refused
returns-clause-refused g c =
    refused_as _ _ _ read_session_text _ _ _ _ _ _ c.session_among.result c.in_ok-rows.ensures.answers
    (λ i. map bound_value ((c.text.ensures ∙ ap Text c.as_str.ensures.value) i ∷
    (c.text-2.ensures ∙ ap Text c.as_str-2.ensures.value) i ∷ []))
    c.deref.ensures.value c.session_among.ensures
    (λ e got refused is.
    session_refused c.args.account.now c.args.session.now _ _ _ got (refused is))
