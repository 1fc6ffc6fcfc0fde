use Rattle.std.proofs.Common.{[], ◌∷◌, map, ap, ◌∙◌}
use Rattle.sqlite.specs.Values.{bound_value}
use Rattle.sqlite_value.specs.declared.value.Value.TheVariants.{Text}
use Rattle.std.specs.Prelude.{option_map}
use Rattle.sql_rows.specs.Texts.{kept_of}
use Rattle.sql_rows.specs.Values.{answer_key}
use Rattle.sql_tables.proofs.Telling.{reads_as}
use Rattle.sql_rows.proofs.selections.ReadAnswer.{read_answer_text, read_answer_plain, answer_read}
use Rattle.sql_rows.proofs.rules.KeyRules.{refused_as}
use Rattle.sql_rows.proofs.rules.MetaRules.{at_ok}
use Rattle.sql_rows.proofs.rules.AnswerRules.{answer_refused}
use Rattle.sql_rows.proofs.answer_rows.read_answer.Goals as goal

pub read-requires-clause-plain : goal.read-requires-clause-plain
read-requires-clause-plain g c = read_answer_plain

pub returns : goal.returns
returns g c = record {
  reads = reads_as _ read_answer_text _
      (answer_key c.args.account.now c.args.kind c.args.name.now c.args.number) _ _ _ _
      c.kept_among.result c.read.ensures.reads c.read.ensures.stops c.in_ok-rows.ensures.answers
      (λ i. map bound_value ((c.text-of_account.ensures ∙ ap Text c.as_str.ensures.value) i ∷
      c.whole-of_kind.ensures i ∷ c.text-of_name.ensures i ∷ c.whole-of_number.ensures i ∷ []))
      c.deref.ensures.value (at_ok _ _ c.kept_among.result c.kept_among.ensures)
      (λ o. answer_read c.args.account.now c.args.kind c.args.name.now c.args.number _ _ _
      (option_map kept_of o));
  refused = refused_as _ _ _ read_answer_text _
      (answer_key c.args.account.now c.args.kind c.args.name.now c.args.number) _ _ _ _
      c.kept_among.result c.in_ok-rows.ensures.answers
      (λ i. map bound_value ((c.text-of_account.ensures ∙ ap Text c.as_str.ensures.value) i ∷
      c.whole-of_kind.ensures i ∷ c.text-of_name.ensures i ∷ c.whole-of_number.ensures i ∷ []))
      c.deref.ensures.value c.kept_among.ensures
      (λ e got refused is. answer_refused c.args.account.now c.args.kind c.args.name.now
      c.args.number _ _ _ got (refused is));
}
