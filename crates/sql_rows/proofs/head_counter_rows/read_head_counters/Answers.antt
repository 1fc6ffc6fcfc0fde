use Rattle.std.proofs.Common.{[], ◌∷◌, map, ap, ◌∙◌}
use Rattle.sqlite.specs.Values.{bound_value}
use Rattle.sqlite_value.specs.declared.value.Value.TheVariants.{Text}
use Rattle.sql_tables.proofs.Telling.{reads_as}
use Rattle.sql_rows.proofs.selections.ReadHeadCounters.{head_counters_read}
use Rattle.sql_rows.proofs.selections.ReadHeadCounters.{read_head_counters_plain}
use Rattle.sql_rows.proofs.selections.ReadHeadCounters.{read_head_counters_text}
use Rattle.sql_rows.proofs.head_counter_rows.read_head_counters.Goals as goal

pub read-requires-clause-plain : goal.read-requires-clause-plain
read-requires-clause-plain g c = read_head_counters_plain

pub returns-clause-reads : goal.returns-clause-reads
returns-clause-reads g c =
    reads_as _ read_head_counters_text _ _ _ _ _ _ c.head_counters_from.result
    c.read.ensures.reads c.read.ensures.stops c.in_ok-rows.ensures.answers
    (λ i. map bound_value ((c.text-of_account.ensures ∙ ap Text c.as_str.ensures.value) i
    ∷ c.whole-of_cycle.ensures i ∷ [])) c.deref.ensures.value c.head_counters_from.ensures.cells
    (λ x. head_counters_read c.args.account.now c.args.cycle _ _ _ x.head x.counters.items)
