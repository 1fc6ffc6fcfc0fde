use Rattle.http_api.proofs.OneText.{are_turns, text_is_one, turns_are_one}
use Rattle.http_api.proofs.laws.text_is_one.Goals as goal

pub returns-clause-turns : goal.returns-clause-turns
returns-clause-turns c = are_turns

pub returns-clause-text : goal.returns-clause-text
returns-clause-text c = text_is_one

pub returns-clause-count : goal.returns-clause-count
returns-clause-count c = turns_are_one
