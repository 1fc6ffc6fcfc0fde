-- What the text of `replace_counter` does.
use Rattle.std.specs.Prelude.{codes, IfOk}
use Rattle.std.proofs.Common.{◌≡◌, inl, inr, ℕ, List, [], ◌∷◌, ◌++◌, ◌==◌, Ok, Result, OnOk, IsTrue}
use Rattle.std.proofs.Common.{refl, arith}
use Rattle.std.specs.List.{list_all}
use Rattle.std.specs.Ordering.{eq_by_cmp}
use Rattle.sqlite_value.specs.declared.keys.Collation.TheVariants.{Binary}
use Rattle.sqlite_value.specs.Keys.{first_key}
use Rattle.sqlite_value.specs.Order.{Row, row_cmp}
use Rattle.sqlite_sql.specs.declared.ops.BinaryOp.TheVariants.{Compare}
use Rattle.sqlite_sql.specs.declared.ops.CompareOp.TheVariants.{Eq}
use Rattle.sqlite_sql.specs.Term.{Term, col, op2, holds as holds_in}
use Rattle.sqlite_schema.specs.declared.command.Command.TheVariants.{Update}
use Rattle.sqlite_tied.specs.Compute.{everything}
use Rattle.sqlite.specs.declared.error.Error.{Error}
use Rattle.sqlite.specs.Listing.{understood}
use Rattle.sqlite.specs.State.{State, ExecutesInside}
use Rattle.sqlite.proofs.Callers.{IsPlain, command_of}
use Rattle.sql_tables.specs.Keyed.{key_of}
use Rattle.sql_tables.specs.Schema.{counters, our_schema}
use Rattle.sql_tables.specs.Statements.{Attempts, HasTables, IsTabled}
use Rattle.sql_tables.proofs.Found.{is_some_map}
use Rattle.sql_tables.proofs.Selected.{select_from}
use Rattle.sql_tables.proofs.Ties.{agree_ties_at}
use Rattle.reserving.specs.declared.session.Counter.{Counter}
use Rattle.sql_rows.specs.Values.{counter_in_row, counter_key, counter_values}
use Rattle.sql_rows.specs.Content.{has_counter, with_counter_row, with_rows}
use Rattle.sql_rows.specs.Makes.{ReplacesIfSome}
use Rattle.sql_rows.proofs.writes.Plains.{plain_beside}
use Rattle.sql_rows.proofs.puts.PutCounter.{keyed, turns}
use Rattle.sql_rows.proofs.writes.Replaces.{ReplacesRow, replaces_row, replaces}

abbrev pub replace_counter_text : List ℕ
replace_counter_text =
    codes "UPDATE counters SET account = ?1, rating_group = ?2, cycle = ?3, blocks = ?4 "
    ++ codes "WHERE account = ?1 AND rating_group = ?2 AND cycle = ?3"

abbrev terms : List Term
terms =
    op2 (Compare Eq Binary) (col 1 1) (col 0 0)
    ∷ op2 (Compare Eq Binary) (col 1 2) (col 0 1)
    ∷ op2 (Compare Eq Binary) (col 1 3) (col 0 2) ∷ []

abbrev project : List Term
project =
    col 1 0 ∷ col 1 0 ∷ col 0 0 ∷ col 0 1 ∷ col 0 2 ∷ col 0 3 ∷ []

abbrev places : List ℕ
places = 1 ∷ 2 ∷ 3 ∷ []

set_is : command_of (understood our_schema replace_counter_text)
    ≡ Update 3 (record { lets = []; body = select_from 6 terms project [] })
unfolding understood everything
set_is = refl

set_plain : IsPlain (understood our_schema replace_counter_text)
unfolding understood everything
set_plain = (refl, refl)

module _ (a : List ℕ) (k : Counter) where
  means : (r : Row) → list_all (holds_in (counter_values a k ∷ r ∷ [])) terms
      ≡ eq_by_cmp row_cmp (key_of places r) (counter_key a k.group k.cycle)
  unfolding first_key
  means r = agree_ties_at places r (0 ∷ 1 ∷ 2 ∷ []) (counter_values a k) (refl, (refl, (refl, tt)))

  runs : (old new : State) (r : Result ℕ Error) → (IsTrue old.is_open → IsTabled old)
      → OnOk r (ExecutesInside 0 replace_counter_text (counter_values a k) old new r)
      → IfOk r (ReplacesRow counters (counter_values a k) old new)
  runs = replaces_row counters (inr (inr (inr (inl refl)))) (inr (inr (inr (inl refl)))) refl
      terms project (counter_values a k) means (λ r. refl) (keyed a k) 3 refl (λ e. omega arith)
      replace_counter_text set_is set_plain

  pub replaces_counter : (old new : State) (count : ℕ) → HasTables old
      → Attempts {A = ℕ} {E = Error}
      (λ old new. ExecutesInside 0 replace_counter_text (counter_values a k) old new (Ok count))
      old new (Ok count)
      → ReplacesIfSome {E = Error} (has_counter a k.group k.cycle)
      (with_rows a (with_counter_row k)) old new (Ok (count == 1))
  replaces_counter = replaces counters (counter_values a k) (has_counter a k.group k.cycle)
      (with_rows a (with_counter_row k)) (λ trees. is_some_map counter_in_row _)
      (λ old new c more. turns a k old new c)
      (plain_beside counters (counter_values a k) (omega arith) (omega arith) (omega arith))
      replace_counter_text runs
