use Rattle.sql_keeper.proofs.reads.HandedOn.{value_handed}
use Rattle.sql_keeper.proofs.finding.answer_said.Goals as goal

pub returns : goal.returns
returns c =
    value_handed _ _ c.read.result c.map_err.result c.map_err.ensures.cases c.read.ensures.said
