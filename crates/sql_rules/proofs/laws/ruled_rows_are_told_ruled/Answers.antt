use Rattle.sql_rules.proofs.Contents.{content_ruled}
use Rattle.sql_rules.proofs.GrantContents.{content_in_rules}
use Rattle.sql_rules.proofs.laws.ruled_rows_are_told_ruled.Goals as goal

pub returns-clause-told : goal.returns-clause-told
returns-clause-told c shelf trees fits all = content_ruled shelf trees fits all.right

pub returns-clause-beside : goal.returns-clause-beside
returns-clause-beside c shelf trees fits keeps all = content_in_rules shelf trees all keeps fits
