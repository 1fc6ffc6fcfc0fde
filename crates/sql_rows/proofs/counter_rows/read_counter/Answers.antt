use Rattle.std.proofs.Common.{[], ◌∷◌, map, ap, ◌∙◌}
use Rattle.sqlite.specs.Values.{bound_value}
use Rattle.sqlite_value.specs.declared.value.Value.TheVariants.{Text}
use Rattle.sql_tables.proofs.Telling.{reads_as}
use Rattle.sql_rows.proofs.selections.ReadCounter.{read_counter_text, read_counter_plain}
use Rattle.sql_rows.proofs.selections.ReadCounter.{counter_read}
use Rattle.sql_rows.proofs.rules.KeyRules.{refused_as}
use Rattle.sql_rows.proofs.rules.MetaRules.{at_ok}
use Rattle.sql_rows.proofs.rules.CounterRules.{counter_refused}
use Rattle.sql_rows.proofs.counter_rows.read_counter.Goals as goal

pub read-requires-clause-plain : goal.read-requires-clause-plain
read-requires-clause-plain g c = read_counter_plain

pub returns : goal.returns
returns g c = record {
  reads = reads_as _ read_counter_text _ _ _ _ _ _ c.counter_among.result c.read.ensures.reads
      c.read.ensures.stops c.in_ok-rows.ensures.answers
      (λ i. map bound_value ((c.text-of_account.ensures ∙ ap Text c.as_str.ensures.value) i ∷
      c.whole-of_group.ensures i ∷ c.whole-of_cycle.ensures i ∷ []))
      c.deref.ensures.value (at_ok _ _ c.counter_among.result c.counter_among.ensures)
      (counter_read c.args.account.now c.args.group c.args.cycle _ _ _);
  refused = refused_as _ _ _ read_counter_text _ _ _ _ _ _ c.counter_among.result
      c.in_ok-rows.ensures.answers
      (λ i. map bound_value ((c.text-of_account.ensures ∙ ap Text c.as_str.ensures.value) i ∷
      c.whole-of_group.ensures i ∷ c.whole-of_cycle.ensures i ∷ []))
      c.deref.ensures.value c.counter_among.ensures
      (λ e got refused is.
      counter_refused c.args.account.now c.args.group c.args.cycle _ _ _ got (refused is));
}
