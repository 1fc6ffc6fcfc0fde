use Rattle.std.proofs.Common.{◌∙◌, ap, subst}
use Rattle.std.proofs.lemmas.Result.{IfOk-weaker}
use Rattle.clap.specs.Words.{App, FailsBy, fault_of, is_simple, subcommand_of}
use Rattle.clap.specs.Faults.{is_simple_and_free}
use Rattle.operator.specs.Read.{texts_of}
use Rattle.operator.proofs.ProgramLemmas.{free_program, simple_program}
use Rattle.operator.proofs.reading.matches_in.Goals as goal

pub returns-clause-rows : goal.returns-clause-rows
returns-clause-rows c =
    let app = c.in_ok-program.ensures.app in
    IfOk-weaker c.try_get_matches_from.result _ _
    (λ m h. (h (ap is_simple app ∙ simple_program)).1
    ∙ ap (λ (a : App). subcommand_of a (texts_of c.args.words.now)) app)
    c.try_get_matches_from.ensures.matches

pub returns-clause-kinds : goal.returns-clause-kinds
returns-clause-kinds c =
    let app = c.in_ok-program.ensures.app in
    subst (λ (a : App).
    FailsBy (fault_of a (texts_of c.args.words.now)) c.try_get_matches_from.result) app
    (c.try_get_matches_from.ensures.kinds (ap is_simple_and_free app ∙ free_program))
