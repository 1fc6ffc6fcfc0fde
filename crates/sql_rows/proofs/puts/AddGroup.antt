-- What the text of `add_group` does.
use Rattle.std.specs.Prelude.{codes, ⊤}
use Rattle.std.proofs.Common.{◌≡◌, inl, inr, ℕ, List, Result, OnOk, IsTrue, refl, arith}
use Rattle.sqlite_value.specs.Order.{Row}
use Rattle.sqlite_schema.specs.declared.command.Source.TheVariants.{Values}
use Rattle.sqlite_schema.specs.declared.command.Command.TheVariants.{Insert}
use Rattle.sqlite_tied.specs.Compute.{everything}
use Rattle.sqlite.specs.declared.error.Error.{Error}
use Rattle.sqlite.specs.Listing.{understood}
use Rattle.sqlite.specs.State.{State, ExecutesInside}
use Rattle.sqlite.proofs.Callers.{IsPlain, command_of}
use Rattle.sql_rows.specs.Values.{Group, group_in_row}
use Rattle.sql_rows.specs.Content.{has_group, with_rows, with_group_row}
use Rattle.sql_rows.proofs.writes.Plains.{plain_group}
use Rattle.sql_tables.specs.Schema.{session_groups, our_schema}
use Rattle.sql_tables.specs.Statements.{Attempts, HasTables, IsTabled}
use Rattle.sql_tables.proofs.Found.{is_some_map}
use Rattle.sql_rows.specs.Makes.{Adds, HasRun}
use Rattle.sql_rows.proofs.writes.Inserts.{InsertsRow, inserts, inserts_row}
use Rattle.sql_rows.proofs.puts.PutGroup.{terms, values, keyed, turns}
use Rattle.sql_rows.proofs.writes.Writes.{puts_make}

abbrev pub add_group_text : List ℕ
add_group_text = codes "INSERT INTO session_groups VALUES (?1, ?2, ?3, ?4, ?5, ?6, ?7)"

add_is : command_of (understood our_schema add_group_text) ≡ Insert 5 (Values terms 8)
unfolding understood everything
add_is = refl

add_plain : IsPlain (understood our_schema add_group_text)
unfolding understood everything
add_plain = (refl, refl)

module _ (a s : List ℕ) (g : ℕ) (row : Group) where
  runs : (old new : State) (r : Result ℕ Error) → (IsTrue old.is_open → IsTabled old)
      → OnOk r (ExecutesInside 0 add_group_text (values a s g row) old new r)
      → OnOk r (InsertsRow session_groups (values a s g row) old new)
  runs = inserts_row 5 session_groups refl (inr (inr (inr (inr (inr (inl refl))))))
      (inr (inr (inr (inr (inr (inl refl)))))) refl (λ e. omega arith) refl
      add_group_text terms 8 add_is add_plain (values a s g row) refl (keyed a s g row)

  pub adds_group : (params : Row) → params ≡ values a s g row
      → (old new : State) (r : Result ⊤ Error) → HasTables old
      → Attempts (HasRun add_group_text params) old new r
      → Attempts (Adds (has_group a s g) (with_rows a (with_group_row s g row))) old new r
  adds_group = inserts session_groups (values a s g row) (has_group a s g)
      (with_rows a (with_group_row s g row)) add_group_text (λ trees. is_some_map group_in_row _)
      (puts_make session_groups (values a s g row) (with_rows a (with_group_row s g row))
      (turns a s g row) (plain_group a s g row)) runs
