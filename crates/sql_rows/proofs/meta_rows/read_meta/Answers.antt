use Rattle.std.proofs.Common.{refl, ◌∙◌}
use Rattle.sql_tables.proofs.Telling.{reads_as}
use Rattle.sql_rows.specs.Ruled.{IsMetaRead, IsRefusedMeta}
use Rattle.sql_rows.proofs.rules.MetaRules.{at_err, at_ok, meta_told}
use Rattle.sql_rows.proofs.selections.ReadMeta.{read_meta_text, read_meta_plain}
use Rattle.sql_rows.proofs.meta_rows.read_meta.Goals as goal

pub read-requires-clause-plain : goal.read-requires-clause-plain
read-requires-clause-plain g c = read_meta_plain

pub returns-clause-reads : goal.returns-clause-reads
returns-clause-reads g c =
    reads_as _ read_meta_text _ _ _ _ _ _ c.meta_among.result c.read.ensures.reads
    c.read.ensures.stops c.in_ok-rows.ensures.answers
    refl
    c.deref.ensures.value (at_ok _ _ c.meta_among.result c.meta_among.ensures.read)
    (λ o. meta_told (IsMetaRead c.args.version o) _ _ _)

pub returns-clause-refused : goal.returns-clause-refused
returns-clause-refused g c clean =
    at_err _ _ _ c.meta_among.result (λ e refused is. meta_told (IsRefusedMeta c.args.version) _ _ _
    (c.in_ok-rows.ensures.answers clean) (λ o rows. refused is o (c.deref.ensures.value ∙ rows)))
    c.meta_among.ensures.read
