use Rattle.service.proofs.OverLemmas.{import_done}
use Rattle.service.proofs.importing.add_over.Goals as goal

pub returns-clause-done : goal.returns-clause-done
returns-clause-done g c = λ clean honest.
    import_done c.args.words.now c.args.moment _ _ _ _ _ _ c.requires
    (c.in_ok-import_file.ensures.done (c.in_ok-import_file.ensures.keeper.stands honest clean))

pub returns-clause-honesty : goal.returns-clause-honesty
returns-clause-honesty g c = λ honest. c.in_ok-import_file.ensures.keeper.honest honest
