use Rattle.std.proofs.Common.{ap, ◌∙◌}
use Rattle.reserving.specs.Others.{own_groups}
use Rattle.reserving.specs.Stored.{StoredRows}
use Rattle.reserving.proofs.earlier.EarlierRows.groups_of.Goals as goal

pub returns : goal.returns
returns c =
    c.own_groups.ensures
    ∙ ap (own_groups c.args.session.now)
    (c.deref.ensures.value ∙ ap (λ (w : StoredRows). w.groups) c.self.view_is)
