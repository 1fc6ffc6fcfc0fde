use Rattle.std.proofs.Common.{[], ◌∷◌, map, ap, ◌∙◌}
use Rattle.sqlite.specs.Values.{bound_value}
use Rattle.sqlite_value.specs.declared.value.Value.TheVariants.{Text}
use Rattle.sql_rows.specs.Texts.{group_at}
use Rattle.sql_tables.proofs.Telling.{reads_as}
use Rattle.sql_rows.proofs.selections.ReadGroups.{read_groups_text, read_groups_plain, groups_read}
use Rattle.sql_rows.proofs.group_rows.read_groups.Goals as goal

pub read-requires-clause-plain : goal.read-requires-clause-plain
read-requires-clause-plain g c = read_groups_plain

pub returns-clause-reads : goal.returns-clause-reads
returns-clause-reads g c =
    reads_as _ read_groups_text _ _ _ _ _ _ c.groups_from.result c.read.ensures.reads
    c.read.ensures.stops c.in_ok-rows.ensures.answers
    (λ i. map bound_value ((c.text.ensures ∙ ap Text c.as_str.ensures.value) i ∷
    (c.text-2.ensures ∙ ap Text c.as_str-2.ensures.value) i ∷ []))
    c.deref.ensures.value c.groups_from.ensures.cells
    (λ xs. groups_read c.args.account.now c.args.session.now _ _ _ (map group_at xs.items))
