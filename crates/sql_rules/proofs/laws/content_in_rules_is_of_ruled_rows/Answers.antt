use Rattle.sqlite_rules.proofs.ListLemmas.{all_has}
use Rattle.sqlite_schema.specs.declared.schema.Table.{Table}
use Rattle.sql_tables.specs.Keyed.{IsStored}
use Rattle.sql_tables.specs.Schema.{our_schema}
use Rattle.sql_rules.specs.Tables.{table_at}
use Rattle.sql_rules.proofs.GrantContents.{books_of_rows}
use Rattle.sql_rules.proofs.MappedRows.{keyed}
use Rattle.sql_rules.proofs.Written.{rows_ruled}
use Rattle.sql_rules.proofs.laws.content_in_rules_is_of_ruled_rows.Goals as goal

pub returns : goal.returns
returns c shelf trees fits stored plain there in' =
    rows_ruled shelf trees fits stored in' plain there (books_of_rows shelf trees fits
    (λ at low. all_has (λ (t : Table). IsStored (trees t.tree)) our_schema.tables (table_at at)
    stored (keyed at low).tabled) in'.granted)
