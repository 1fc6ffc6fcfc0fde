-- Columns past the end of a row.
use Rattle.std.proofs.Common.{◌≡◌, ◌≤◌, ℕ, length}
use Rattle.std.proofs.lemmas.List.{get_or_past}
use Rattle.sqlite_value.specs.declared.value.Value.TheVariants.{Null}
use Rattle.sqlite_value.specs.Order.{Row, column}

pub past_end : (row : Row) (at : ℕ) → length row ≤ at → column row at ≡ Null
past_end row at past = get_or_past row at Null past
