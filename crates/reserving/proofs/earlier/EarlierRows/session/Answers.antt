use Rattle.std.proofs.Common.{ap, ◌∙◌}
use Rattle.reserving.specs.Sessions.{session_in}
use Rattle.reserving.specs.Stored.{StoredRows}
use Rattle.reserving.proofs.earlier.EarlierRows.session.Goals as goal

pub returns : goal.returns
returns c =
    c.session_row.ensures
    ∙ ap (session_in c.args.id.now)
    (c.deref.ensures.value ∙ ap (λ (w : StoredRows). w.sessions) c.self.view_is)
