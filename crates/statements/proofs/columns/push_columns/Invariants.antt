use Rattle.std.proofs.Common.{◌≡◌, ◌++◌, drop, string_bytes}
use Rattle.statements.specs.Columns.{columns_text}
use Rattle.statements.proofs.columns.push_columns.Given as goal

abbrev pub invariant-loop-column : goal.invariant-loop-column
invariant-loop-column l =
    string_bytes l.text ++ columns_text (drop l.column-index l.columns)
    ≡ string_bytes l.fn.text ++ columns_text l.fn.columns
