-- What INSERT .. ON CONFLICT (key) DO NOTHING of one row makes of its table.
use Rattle.std.proofs.Common.{◌≡◌, ◌≢◌, ◌⊎◌, inl, inr, ℕ, List, [], ◌∷◌, length, slice_get}
use Rattle.std.proofs.Common.{true, false, ◌/◌, Some, None, Option, Ok, Err}
use Rattle.std.proofs.Common.{Result, OnOk, IsTrue, refl, sym, ap, subst, ◌∙◌, is_eq}
use Rattle.std.specs.Prelude.{IfOk, is_some}
use Rattle.std.proofs.lemmas.Bool.{and_parts, not-true}
use Rattle.std.proofs.lemmas.Cmp.{tied_back}
use Rattle.std.specs.FinMap.{get, get-from_entries}
use Rattle.std.specs.FinMap.Entries.{find as look_in}
use Rattle.std.specs.Ordering.{eq_by_cmp}
use Rattle.sqlite_value.specs.declared.value.Value.TheVariants.{Null, Int}
use Rattle.sqlite_value.specs.Keys.{plain}
use Rattle.sqlite_value.specs.Order.{Row, row_cmp}
use Rattle.sqlite_value.proofs.OrderLemmas.{row_cmp_total}
use Rattle.sqlite_trees.specs.Objects.{catalog_tree}
use Rattle.sqlite_trees.specs.Tree.{Trees, put_row}
use Rattle.sqlite_sql.specs.Term.{Term}
use Rattle.sqlite_schema.specs.Rules.{Fits, guards}
use Rattle.sqlite_schema.specs.declared.schema.Index.{Index}
use Rattle.sqlite_schema.specs.declared.schema.Table.{Table}
use Rattle.sqlite_schema.specs.declared.schema.Schema.{Schema}
use Rattle.sqlite_schema.specs.declared.schema.Keys.TheVariants.{Enforced}
use Rattle.sqlite_schema.specs.declared.command.Source.TheVariants.{Values}
use Rattle.sqlite_schema.specs.declared.command.Conflict.TheVariants.{Abort}
use Rattle.sqlite_schema.specs.declared.command.Upsert.{Upsert}
use Rattle.sqlite_schema.specs.declared.command.Command.TheVariants.{InsertOr}
use Rattle.sqlite_rules.specs.declared.error.Rowids.TheVariants.{Given}
use Rattle.sqlite_rules.specs.Keys.{AreConflicts, conflicts}
use Rattle.sqlite_rules.specs.Lists.{Has}
use Rattle.sqlite_rules.specs.Edit.{edit_of, next_rowid, are_fresh}
use Rattle.sqlite_rules.proofs.ActionLemmas.{no_works}
use Rattle.sqlite_rules.proofs.ListLemmas.{all_has}
use Rattle.sqlite.specs.Rows.{Written, Task, Clears, Puts, Upserts, Meets}
use Rattle.sqlite.specs.Rows.{stamped}
use Rattle.sqlite.specs.Effect.{value_rows}
use Rattle.sqlite.specs.declared.error.Error.{Error}
use Rattle.sqlite.specs.Listing.{understood}
use Rattle.sqlite.specs.State.{State, ExecutesInside, Shows, Writes}
use Rattle.sqlite.proofs.Callers.{IsPlain, command_of, one_step, runs_as, statement_of}
use Rattle.sql_tables.specs.Keyed.{key_of, entries_of, look, table_of, IsStored}
use Rattle.sql_tables.specs.Schema.{our_schema}
use Rattle.sql_tables.specs.Statements.{AreStored, Changes, IsTabled}
use Rattle.sql_tables.proofs.Books.{others, stays_stored, catalog_stays}
use Rattle.sql_tables.proofs.Selections.{meets, met_some, met_has}
use Rattle.sql_tables.proofs.Steps.{went, same_value}
use Rattle.sql_tables.proofs.Swaps.{PutsRow, puts_key}
use Rattle.sql_tables.proofs.Ties.{equal_is}
use Rattle.sql_tables.proofs.Upserts.{Put, Added}
use Rattle.sql_tables.proofs.OneRow.{says_of_statement}
use Rattle.sql_rows.proofs.writes.Keyed.{IsKeyed}

-- a row meets it, and nothing is written
pub record Stood (schema : Schema) (table : Table) (target : List ℕ) (values : Row)
    (db next : Trees) : Type 0 where
  pub there : Row
  pub has : Has (db table.tree) there
  pub meets : conflicts (Some target) schema.indexes table
      (Int (next_rowid (db table.tree)) ∷ values) there ≡ true
  pub same : next ≡ db

-- one row is added, or none
abbrev pub Adding : Schema → Table → List ℕ → Row → Trees → Trees → ℕ → Type 0
Adding schema table target values db next count =
    (Added schema table target values db next × (count ≡ 1))
    ⊎ (Stood schema table target values db next × (count ≡ 0))

module _ (limit : Option ℕ) (schema : Schema) (table : Table) (params values : Row)
    (target : List ℕ) (db : Trees) (keyed : IsKeyed table values) where
  abbrev task : Task
  task = record { limit = limit; keys = Enforced; schema = schema; table = table; params = params }

  abbrev new : Row
  new = Int (next_rowid (db table.tree)) ∷ values

  abbrev IsPut : Written → Type 0
  IsPut one = Put schema table new (db table.tree) db one.trees × (length one.rows ≡ 1)

  puts : (one : Written) → Puts task new db (Ok one) → IsPut one
  puts one h =
      let edit = edit_of db table [] Given 0 (new ∷ []) in
      let it = went h in
      let done = one_step schema Enforced db it.0 edit
      (no_works schema Enforced 0 table.tree edit.news) it.1 in
      let trees : one.trees ≡ it.0 = ap (λ (w : Written). w.trees) (same_value it.2) in
      let news : edit.news ≡ new ∷ [] = ap (λ r. r ∷ []) (keyed.again _) in
      let fresh : are_fresh (db table.tree) (new ∷ []) ≡ true =
      subst (λ n. are_fresh (db table.tree) n ≡ true) news done.fresh in (
        record {
          fresh = not-true _ (and_parts _ _ fresh).0;
          rows = ap (λ (t : Trees). t table.tree) trees
              ∙ done.rows
              ∙ ap (λ r. put_row r (db table.tree)) (keyed.again _);
          others = λ t other free. ap (λ (d : Trees). d t) trees ∙ done.others t other free;
          fits = subst (Fits schema) (sym trees) done.fits;
        },
        ap (λ (w : Written). length w.rows) (same_value it.2),
      )

  abbrev clause : Upsert
  clause = record { target = Some target; update = None }

  abbrev Adds : Written → Type 0
  Adds one = Adding schema table target values db one.trees (length one.rows)

  upserts : (one : Written) → Upserts task Abort new db (clause ∷ []) (Ok one) → Adds one
  upserts one h = met h.0 h.1 h.2
    where
      added : (found : List Row) → Clears task Abort new db found (Ok one) → IsPut one
      added [] c = puts one c
      added (x ∷ more) c = puts one c

      met : (found : List Row) →
          AreConflicts (Some target) schema.indexes table (db table.tree) new found → Meets
          task (Upserts task Abort new db []) new db clause found (Ok one) → Adds one
      met [] c m =
          let put = added m.0 m.2 in
          inl (record { none = λ r has meets. c.complete r has meets; put = put.0 }, put.1)
      met (x ∷ more) c m =
          let why = c.sound x (inl refl) in
          inr (
            record {
              there = why.0;
              has = why.1;
              meets = why.2;
              same = ap (λ (w : Written). w.trees) (same_value m);
            },
            ap (λ (w : Written). length w.rows) (same_value m),
          )

-- the same of the whole statement
module _ (schema : Schema) (at : ℕ) (table : Table)
    (there : slice_get schema.tables at ≡ Some table)
    (params values : Row) (target : List ℕ) (keyed : IsKeyed table values)
    (terms : List Term) (width : ℕ) (uncounted : table.is_counted ≡ false)
    (supplied : value_rows (stamped table params) width (length terms / width) terms
    ≡ (Null ∷ values) ∷ []) where
  adds_row : (old new : State) (text : List ℕ) (count : ℕ) → old.now.schema ≡ schema →
      Writes old new None (InsertOr at Abort (Values terms width)
      (record { target = Some target; update = None } ∷ [])) text params count
      → (new.now.schema ≡ schema)
      × Adding schema table target values old.now.trees new.now.trees count
  adds_row old new text count =
      says_of_statement schema at table there params values
      (record { target = Some target; update = None }) keyed.unset terms width uncounted supplied
      old new text count (Adding schema table target values old.now.trees)
      (upserts old.step_limit schema table params values target old.now.trees keyed)

-- ---- of a table of the book

-- nothing was under the key, and the row is there
pub record IsAdded (table : Table) (values : Row) (old new : Trees) (count : ℕ) : Type 0 where
  pub none : look table old (key_of table.primary (Null ∷ values)) ≡ None
  pub changes : Changes table values old new
  pub one : count ≡ 1

-- something was, and nothing is changed
pub record IsThere (table : Table) (values : Row) (old new : Trees) (count : ℕ) : Type 0 where
  pub there : is_some (look table old (key_of table.primary (Null ∷ values))) ≡ true
  pub same : new ≡ old
  pub none : count ≡ 0

-- what the statement does, and how many rows it reports
pub record AddsRow (table : Table) (values : Row) (old new : State) (count : ℕ) : Type 0 where
  pub adds : IsAdded table values old.now.trees new.now.trees count
      ⊎ IsThere table values old.now.trees new.now.trees count
  pub book : IsTabled new
  pub shows : Shows old new new.now old.committed true

module _ (at : ℕ) (table : Table) (there : slice_get our_schema.tables at ≡ Some table)
    (tabled : Has our_schema.tables table) (index : Index) (listed : Has our_schema.indexes index)
    (guarding : guards index table ≡ true) (order : index.order ≡ plain)
    (columns : index.columns ≡ table.primary)
    (apart : catalog_tree ≢ table.tree) (uncounted : table.is_counted ≡ false)
    (text : List ℕ) (terms : List Term) (width : ℕ)
    (is : command_of (understood our_schema text)
    ≡ InsertOr at Abort (Values terms width)
    (record { target = Some table.primary; update = None } ∷ []))
    (plain_text : IsPlain (understood our_schema text)) (values : Row)
    (supplied : value_rows (stamped table values) width (length terms / width) terms
    ≡ (Null ∷ values) ∷ [])
    (keyed : IsKeyed table values) where
  abbrev key : Row
  key = key_of table.primary (Null ∷ values)

  -- a row that meets the new one has its key, and the other way round
  meeting : (rows : List Row) (r : Row) → conflicts (Some table.primary) our_schema.indexes table
      (Int (next_rowid rows) ∷ values) r ≡ true → meets table.primary key r ≡ true
  meeting rows r e = ap is_eq (tied_back row_cmp_total (key_of table.primary r) key
      (equal_is _ (ap (eq_by_cmp row_cmp (key_of table.primary r))
      (sym (keyed.keys (Int (next_rowid rows)))) ∙ sym (keyed.ties (next_rowid rows) r) ∙ e)))

  conflicting : (rows : List Row) (r : Row) → meets table.primary key r ≡ true →
      conflicts (Some table.primary) our_schema.indexes table (Int (next_rowid rows) ∷ values) r
      ≡ true
  conflicting rows r e = keyed.ties (next_rowid rows) r
      ∙ ap (eq_by_cmp row_cmp (key_of table.primary r)) (keyed.keys (Int (next_rowid rows)))
      ∙ ap is_eq (tied_back row_cmp_total key (key_of table.primary r) (equal_is _ e))

  looked : (rows : List Row) → get (table_of table.primary rows) key
      ≡ look_in row_cmp key (entries_of table.primary rows)
  looked rows = get-from_entries row_cmp_total (entries_of table.primary rows) key

  nothing_under : (db next : Trees) → Added our_schema table table.primary values db next →
      look table db key ≡ None
  nothing_under db next a = looked (db table.tree) ∙ none _ refl
    where
      none : (o : Option Row) → look_in row_cmp key (entries_of table.primary (db table.tree)) ≡ o
          → look_in row_cmp key (entries_of table.primary (db table.tree)) ≡ None
      none None e = e
      none (Some v) e =
          absurd (let it = met_some table.primary key v (db table.tree) e in
          a.none it.0 it.1 (conflicting (db table.tree) it.0 it.2))

  something_under : (db next : Trees) → Stood our_schema table table.primary values db next →
      is_some (look table db key) ≡ true
  something_under db next s =
      let it = met_has table.primary key (db table.tree) s.there s.has
      (meeting (db table.tree) s.there s.meets) in
      ap is_some (looked (db table.tree) ∙ it.1)

  -- rule: statements-of-tables.tables-content
  pub adds_table : (old new : State) (r : Result ℕ Error) →
      (IsTrue old.is_open → IsTabled old) → OnOk r (ExecutesInside 0 text values old new r)
      → IfOk r (AddsRow table values old new)
  adds_table old new (Err e) book x = tt
  adds_table old new (Ok count) has x =
      let book = has x.1.was_open in
      let stored : IsStored (old.now.trees table.tree) =
      all_has (λ (t : Table). IsStored (old.now.trees t.tree))
      our_schema.tables table book.stored tabled in
      let command = InsertOr at Abort (Values terms width)
      (record { target = Some table.primary; update = None } ∷ []) in
      let w = runs_as text values old new our_schema book.schema command is plain_text count x.0 in
      let done = adds_row our_schema at table there values values table.primary keyed terms width
      uncounted supplied old new
      (statement_of text (understood our_schema text)) count book.schema w in
      elim done.1 [
        | inl a ↦
            let p : PutsRow table.primary our_schema table values old.now.trees new.now.trees =
            puts_key table.primary our_schema table tabled index listed guarding order columns
            values old.now.trees new.now.trees stored keyed.keys keyed.full keyed.ties (inl a.0) in
            record {
              adds = inl (record {
                none = nothing_under old.now.trees new.now.trees a.0;
                changes = record {
                  rows = p.rows;
                  others = others table old.now.trees new.now.trees p.stored p.others;
                  catalog = catalog_stays table old.now.trees new.now.trees p.stored p.others apart;
                };
                one = a.1;
              });
              book = record {
                schema = done.0;
                stored = stays_stored table old.now.trees new.now.trees p.stored p.others
                    book.stored;
              };
              shows = x.1;
            }
        | inr s ↦ record {
          adds = inr (record {
            there = something_under old.now.trees new.now.trees s.0;
            same = s.0.same;
            none = s.1;
          });
          book = record {
            schema = done.0;
            stored = subst AreStored (sym s.0.same) book.stored;
          };
          shows = x.1;
        }
      ]
