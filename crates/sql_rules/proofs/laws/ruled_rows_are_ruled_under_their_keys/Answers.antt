use Rattle.sql_rules.proofs.MappedRows.{mapped_ruled, ruled_mapped}
use Rattle.sql_rules.proofs.laws.ruled_rows_are_ruled_under_their_keys.Goals as goal

pub returns-clause-mapped : goal.returns-clause-mapped
returns-clause-mapped c = ruled_mapped

pub returns-clause-back : goal.returns-clause-back
returns-clause-back c = mapped_ruled
