use Rattle.std.proofs.Common.{rules, ◌∙◌, ap}
use Rattle.sqlite_value.specs.declared.value.Value.TheVariants.{Text}
use Rattle.sql_rows.specs.Texts.{kept_of}
use Rattle.sql_rows.proofs.puts.PutAnswer.{makes_answer, bound_answer}
use Rattle.sql_rows.proofs.answer_rows.put_answer.Goals as goal

pub returns : goal.returns
returns g c = record {
  same_reference = search rules;
  makes = makes_answer c.args.account.now c.args.kind c.args.name.now c.args.number
      (kept_of c.args.texts.now) _
      (bound_answer c.args.account.now c.args.kind c.args.name.now c.args.number
      (kept_of c.args.texts.now) _ _ _ _ _ _
      (c.text-of_account.ensures ∙ ap Text c.as_str.ensures.value)
      c.whole-of_kind.ensures
      c.text-of_name.ensures
      c.whole-of_number.ensures
      (c.text-of_content.ensures ∙ ap Text c.as_str-2.ensures.value)
      (c.text-of_answer.ensures ∙ ap Text c.as_str-3.ensures.value))
      _ _ c.run.result c.requires.tables c.run.ensures.makes;
}
