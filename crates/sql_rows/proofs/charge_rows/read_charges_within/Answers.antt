use Rattle.std.proofs.Common.{[], ◌∷◌, map, ap, ◌∙◌}
use Rattle.sqlite.specs.Values.{bound_value}
use Rattle.sqlite_value.specs.declared.value.Value.TheVariants.{Text}
use Rattle.sql_tables.proofs.Telling.{reads_as}
use Rattle.sql_rows.proofs.selections.ReadCharges.{read_charges_within_text}
use Rattle.sql_rows.proofs.selections.ReadCharges.{read_charges_within_plain, charges_read}
use Rattle.sql_rows.proofs.charge_rows.read_charges_within.Goals as goal

pub read-requires-clause-plain : goal.read-requires-clause-plain
read-requires-clause-plain g c = read_charges_within_plain

pub returns-clause-reads : goal.returns-clause-reads
returns-clause-reads g c = reads_as _ read_charges_within_text _ _ _ _ _ _ c.charges_from.result
    c.read.ensures.reads c.read.ensures.stops c.in_ok-rows.ensures.answers
    (λ i. map bound_value ((c.text-of_account.ensures ∙ ap Text c.as_str.ensures.value) i
    ∷ c.whole-beyond.ensures i ∷ c.whole-up_to.ensures i ∷ []))
    c.deref.ensures.value c.charges_from.ensures.cells
    (λ xs. charges_read c.args.account.now c.args.after c.args.last _ _ _ xs.items)
