use Rattle.sqlite_wal.specs.Files.{image_at}
use Rattle.service.proofs.AddingLemmas.{added_in, ends_with}
use Rattle.service.proofs.adding.add_over.Goals as goal

pub returns-clause-behind : goal.returns-clause-behind
returns-clause-behind g c = ends_with _ _ _ _ _ _ _ c.in_ok-text.ensures.same
    c.in_ok-add_text.ensures.added

pub returns-clause-added : goal.returns-clause-added
returns-clause-added g c = λ clean.
    added_in (image_at g.S.Start) _ _ _ _ _ _ _ c.in_ok-text.ensures.same
    c.in_ok-keeper.ensures.opened c.in_ok-add_text.ensures.added clean
