use Rattle.std.proofs.Common.{[], ◌∷◌, map, ap, ◌∙◌}
use Rattle.sqlite.specs.Values.{bound_value}
use Rattle.sqlite_value.specs.declared.value.Value.TheVariants.{Text}
use Rattle.sql_tables.proofs.Telling.{reads_as}
use Rattle.sql_rows.proofs.selections.ReadHeadCycles.{head_cycles_read, read_head_cycles_plain}
use Rattle.sql_rows.proofs.selections.ReadHeadCycles.{read_head_cycles_text}
use Rattle.sql_rows.proofs.head_counter_rows.read_head_cycles.Goals as goal

pub read-requires-clause-plain : goal.read-requires-clause-plain
read-requires-clause-plain g c = read_head_cycles_plain

pub returns-clause-reads : goal.returns-clause-reads
returns-clause-reads g c =
    reads_as _ read_head_cycles_text _ _ _ _ _ _ c.head_cycles_from.result
    c.read.ensures.reads c.read.ensures.stops c.in_ok-rows.ensures.answers
    (λ i. map bound_value ((c.text-of_account.ensures ∙ ap Text c.as_str.ensures.value) i
    ∷ c.whole-never.ensures i ∷ c.whole-day.ensures i ∷ c.whole-month.ensures i ∷ []))
    c.deref.ensures.value c.head_cycles_from.ensures.cells
    (λ x. head_cycles_read c.args.account.now c.args.cycles _ _ _ x)
