-- An upsert of a table of the book, given what its text means and what is computed at its table.
use Rattle.std.proofs.Common.{◌≡◌, ◌≢◌, ℕ, ℤ, List, [], ◌∷◌, ◌++◌, true}
use Rattle.std.proofs.Common.{false, Some, Ok, Err, Result, OnOk, IsTrue, length, ◌/◌}
use Rattle.std.specs.List.{AllByRecursion}
use Rattle.std.specs.Prelude.{slice_get}
use Rattle.std.specs.Ordering.{eq_by_cmp}
use Rattle.sqlite_value.specs.declared.value.Value.{Value}
use Rattle.sqlite_value.specs.declared.value.Value.TheVariants.{Null, Int}
use Rattle.sqlite_value.specs.Order.{Row, column, row_cmp}
use Rattle.sqlite_value.specs.Keys.{plain}
use Rattle.sqlite_trees.specs.Objects.{catalog_tree}
use Rattle.sqlite_trees.specs.Tree.{rowid}
use Rattle.sqlite_sql.specs.Ops.{is_null}
use Rattle.sqlite_sql.specs.Term.{Term, eval_all}
use Rattle.sqlite_schema.specs.declared.schema.Table.{Table}
use Rattle.sqlite_schema.specs.declared.schema.Index.{Index}
use Rattle.sqlite_schema.specs.declared.schema.Keys.TheVariants.{Enforced}
use Rattle.sqlite_schema.specs.declared.command.Source.TheVariants.{Values}
use Rattle.sqlite_schema.specs.declared.command.Conflict.TheVariants.{Abort}
use Rattle.sqlite_schema.specs.declared.command.Command.TheVariants.{InsertOr}
use Rattle.sqlite_schema.specs.Rules.{guards}
use Rattle.sqlite_rules.specs.Cast.{cast_row}
use Rattle.sqlite_rules.specs.Keys.{conflicts}
use Rattle.sqlite_rules.specs.Action.{works}
use Rattle.sqlite_rules.specs.Lists.{Has}
use Rattle.sqlite.specs.Effect.{value_rows}
use Rattle.sqlite_rules.proofs.ListLemmas.{all_has}
use Rattle.sqlite.specs.Rows.{shown, stamped}
use Rattle.sqlite.specs.declared.error.Error.{Error}
use Rattle.sqlite.specs.Listing.{understood}
use Rattle.sqlite.specs.State.{State, ExecutesInside}
use Rattle.sqlite.proofs.Callers.{IsPlain, command_of, statement_of, runs_as}
use Rattle.sql_tables.specs.Schema.{our_schema}
use Rattle.sql_tables.specs.Keyed.{key_of, IsStored}
use Rattle.sql_tables.specs.Statements.{IsTabled, Puts}
use Rattle.sql_tables.proofs.Counted.{counted}
use Rattle.sql_tables.proofs.Upserts.{pick, puts_row}
use Rattle.sql_tables.proofs.Swaps.{PutsRow, puts_key}
use Rattle.sql_tables.proofs.Books.{others, stays_stored, catalog_stays}

module _ (at : ℕ) (table : Table) (there : slice_get our_schema.tables at ≡ Some table)
    (tabled : Has our_schema.tables table) (index : Index) (listed : Has our_schema.indexes index)
    (guarding : guards index table ≡ true) (order : index.order ≡ plain)
    (columns : index.columns ≡ table.primary)
    (apart : catalog_tree ≢ table.tree) (uncounted : table.is_counted ≡ false)
    (text : List ℕ) (terms project : List Term) (width base : ℕ)
    (is : command_of (understood our_schema text)
    ≡ InsertOr at Abort (Values terms width) (record {
      target = Some table.primary;
      update = Some
          (record { lets = []; body = pick table.tree base project });
    } ∷ []))
    (plain_text : IsPlain (understood our_schema text)) (values : Row)
    (kept : (olds : List Row) (new : Row) →
    works our_schema Enforced 0 table.tree olds (new ∷ []) ≡ [])
    (again : (id : ℤ) → cast_row table (Int id ∷ values) ≡ Int id ∷ values)
    (unset : cast_row table (Null ∷ values) ≡ Null ∷ values)
    (shows : (id : ℤ) (met : Value) (r : Row) → eval_all project
    ((values ++ met ∷ shown table (Int id ∷ values)) ∷ r ∷ []) ≡ rowid r ∷ rowid r ∷ values)
    (finds : (id : ℤ) (met : Value) →
    column (values ++ met ∷ shown table (Int id ∷ values)) base ≡ met)
    (supplied : value_rows (stamped table values) width (length terms / width) terms
    ≡ (Null ∷ values) ∷ [])
    (keys : (v : Value) → key_of table.primary (v ∷ values) ≡ key_of table.primary (Null ∷ values))
    (full : (id : ℤ) →
    AllByRecursion (λ p. is_null (column (Int id ∷ values) p) ≡ false) table.primary)
    (meets : (id : ℤ) (other : Row) →
    conflicts (Some table.primary) our_schema.indexes table (Int id ∷ values)
    other
    ≡ eq_by_cmp row_cmp (key_of table.primary other) (key_of table.primary (Int id ∷ values))) where
  pub puts_table : (old new : State) (r : Result ℕ Error) →
      (IsTrue old.is_open → IsTabled old) → OnOk r
      (ExecutesInside 0 text values old new r) → OnOk r (Puts table values old new)
  puts_table old new (Err e) book x = tt
  puts_table old new (Ok count) has x =
      let book = has x.1.was_open in
      let stored : IsStored (old.now.trees table.tree) =
      all_has (λ (t : Table). IsStored (old.now.trees t.tree))
      our_schema.tables table book.stored tabled in
      let command = InsertOr at Abort (Values terms width) (record {
        target = Some table.primary;
        update = Some (record { lets = []; body = pick table.tree base project });
      }
      ∷ []) in
      let w = runs_as text values old new our_schema book.schema command is plain_text count x.0 in
      let done = puts_row our_schema
      at table there values values base table.primary project
      (record { kept = kept; again = again; plain = unset; shows = shows; finds = finds })
      terms width uncounted supplied old new
      (statement_of text (understood our_schema text)) count book.schema stored.1 w in
      let p : PutsRow table.primary our_schema table values old.now.trees new.now.trees =
      puts_key table.primary our_schema table tabled index listed guarding order columns
      values old.now.trees new.now.trees stored keys full meets done.1 in
      record {
        changes = record {
          rows = p.rows;
          others = others table old.now.trees new.now.trees p.stored p.others;
          catalog = catalog_stays table old.now.trees new.now.trees p.stored p.others apart;
        };
        book = record {
          schema = done.0;
          stored = stays_stored table old.now.trees new.now.trees p.stored p.others
              book.stored;
        };
        shows = x.1;
        counts = counted table.primary our_schema table values old.now.trees new.now.trees stored
            keys meets done.1;
      }
