-- What INSERT of one row makes of its table: nothing was under the key, and the row is there.
use Rattle.std.proofs.Common.{◌≡◌, ◌≢◌, inl, ℕ, ℤ, List, [], ◌∷◌, length, slice_get}
use Rattle.std.proofs.Common.{Bool, true, false, ◌/◌, Some, None, Option, Ok, Err, Result, OnOk}
use Rattle.std.proofs.Common.{IsTrue, refl, sym, ap, subst, ◌∙◌, is_eq}
use Rattle.std.specs.Prelude.{if◌then◌else◌, is_some, ⊤}
use Rattle.std.proofs.lemmas.Bool.{and_parts, false_from_ne_true, not-true}
use Rattle.std.specs.FinMap.{get-from_entries}
use Rattle.std.specs.FinMap.Entries.{find as look_in}
use Rattle.std.specs.Ordering.{eq_by_cmp}
use Rattle.sqlite_value.specs.declared.value.Value.TheVariants.{Null, Int}
use Rattle.sqlite_value.specs.Order.{Row, row_cmp, value_cmp}
use Rattle.sqlite_value.proofs.OrderLemmas.{row_cmp_total}
use Rattle.sqlite_trees.specs.Objects.{catalog_tree}
use Rattle.sqlite_trees.specs.Tree.{Trees, rowid}
use Rattle.sqlite_sql.specs.Term.{Term}
use Rattle.sqlite_schema.specs.Rules.{Fits, guards}
use Rattle.sqlite_schema.specs.declared.command.Command.TheVariants.{Insert}
use Rattle.sqlite_schema.specs.declared.command.Source.TheVariants.{Values}
use Rattle.sqlite_schema.specs.declared.schema.Keys.TheVariants.{Enforced}
use Rattle.sqlite_schema.specs.declared.schema.Table.{Table}
use Rattle.sqlite_rules.specs.Edit.{Edit, edit_of, are_fresh, is_taken, next_rowid, put_all}
use Rattle.sqlite_rules.specs.Edit.{with_rowid}
use Rattle.sqlite_rules.specs.Keys.{conflicts}
use Rattle.sqlite_rules.specs.Lists.{Has}
use Rattle.sqlite_rules.specs.declared.error.Rowids.TheVariants.{Chosen, Above}
use Rattle.sqlite_rules.proofs.ActionLemmas.{no_works}
use Rattle.sqlite_rules.proofs.ListLemmas.{all_has, some_from}
use Rattle.sqlite_rules.proofs.TableLemmas.{has_put, put_all_keeps}
use Rattle.sqlite.specs.Does.{Tally}
use Rattle.sqlite.specs.Effect.{Database, value_rows}
use Rattle.sqlite.specs.Listing.{understood}
use Rattle.sqlite.specs.Rows.{Inserts, Task, Written, Counts, count_of, rowids_for, stamped}
use Rattle.sqlite.specs.State.{State, ExecutesInside, Writes}
use Rattle.sqlite.specs.declared.error.Error.{Error}
use Rattle.sqlite.proofs.Callers.{IsPlain, command_of, one_step, runs_as, statement_of}
use Rattle.sql_tables.specs.Keyed.{key_of, entries_of, look, IsStored}
use Rattle.sql_tables.specs.Schema.{our_schema, key_index}
use Rattle.sql_tables.specs.Statements.{Attempts, HasTables, IsTabled, Puts}
use Rattle.sql_tables.proofs.Books.{others, stays_stored, catalog_stays}
use Rattle.sql_tables.proofs.Counted.{counted}
use Rattle.sql_tables.proofs.Keeps.{done_as}
use Rattle.sql_tables.proofs.Keys.{keys_back}
use Rattle.sql_tables.proofs.OneRow.{task_of}
use Rattle.sql_tables.proofs.Selections.{met_some}
use Rattle.sql_tables.proofs.Steps.{does_over, same_value, went}
use Rattle.sql_tables.proofs.Swaps.{PutsRow, no_clash, differ_ints, puts_key}
use Rattle.sql_tables.proofs.Ties.{agree_ties}
use Rattle.sql_tables.proofs.Upserts.{Added, Put, Upserted}
use Rattle.sql_rows.specs.Content.{TablesContent, tables_content}
use Rattle.sql_rows.specs.Makes.{Adds, HasRun, Makes}
use Rattle.sql_rows.proofs.writes.Keyed.{IsKeyed}

-- nothing was under the key, and the row is there
pub record InsertsRow (table : Table) (values : Row) (old new : State) : Type 0 where
  pub none : look table old.now.trees (key_of table.primary (Null ∷ values)) ≡ None
  pub puts : Puts table values old new

module _ (at : ℕ) (table : Table) (there : slice_get our_schema.tables at ≡ Some table)
    (tabled : Has our_schema.tables table)
    (listed : Has our_schema.indexes (key_index table))
    (guarding : guards (key_index table) table ≡ true)
    (apart : catalog_tree ≢ table.tree) (uncounted : table.is_counted ≡ false)
    (text : List ℕ) (terms : List Term) (width : ℕ)
    (is : command_of (understood our_schema text) ≡ Insert at (Values terms width))
    (plain_text : IsPlain (understood our_schema text)) (values : Row)
    (supplied : value_rows (stamped table values) width (length terms / width) terms
    ≡ (Null ∷ values) ∷ [])
    (keyed : IsKeyed table values) where
  abbrev key : Row
  key = key_of table.primary (Null ∷ values)

  module _ (db : Trees) where
    abbrev rows_in : List Row
    rows_in = db table.tree

    abbrev fresh_row : Row
    fresh_row = Int (next_rowid rows_in) ∷ values

    abbrev edit_by : ℤ → List Row → Edit
    edit_by top rows = edit_of db table [] (rowids_for table top) 0 rows

    numbered_new : (top : ℤ) (rows : List Row) → rows ≡ (Null ∷ values) ∷ []
        → (edit_by top rows).news ≡ fresh_row ∷ []
    numbered_new top rows one =
        ap (λ rs. (edit_by top rs).news) one
        ∙ ap (λ r. with_rowid (rowids_for table top) rows_in r ∷ []) keyed.unset
        ∙ ap (λ b. with_rowid (if b then Above top else Chosen) rows_in (Null ∷ values) ∷ [])
        uncounted

    uncounts : (mid next : Trees) (task : Task) (counter : Option Row) (top : ℤ)
        → task.table.is_counted ≡ false → Counts task mid counter top (Ok next) → next ≡ mid
    uncounts mid next task counter top none h = same_value (rw none at h)

    inserted : (limit : Option ℕ) (one : Written)
        → Inserts (task_of limit our_schema table values) (Values terms width) db (Ok one)
        → Put our_schema table fresh_row rows_in db one.trees
    inserted limit one h =
        let sourced = went h in
        let counter = went sourced.2 in
        let made = went counter.2 in
        let ended = went made.2 in
        let top = count_of counter.0 in
        let edit = edit_by top sourced.0 in
        let news : edit.news ≡ fresh_row ∷ [] =
        numbered_new top sourced.0 (sourced.1.1 ∙ supplied) in
        let done = one_step our_schema Enforced db made.0 edit
        (no_works our_schema Enforced 0 table.tree edit.news) made.1 in
        let uncounting : ended.0 ≡ made.0 =
        uncounts made.0 ended.0 (task_of limit our_schema table values) counter.0 _ uncounted
        ended.1 in
        let trees : one.trees ≡ made.0 =
        ap (λ (w : Written). w.trees) (same_value ended.2) ∙ uncounting in
        let fresh : are_fresh rows_in (fresh_row ∷ []) ≡ true =
        subst (λ n. are_fresh rows_in n ≡ true) news done.fresh in
        record {
          fresh = not-true _ (and_parts _ _ fresh).0;
          rows = ap (λ (t : Trees). t table.tree) trees
              ∙ done.rows
              ∙ ap (λ n. put_all rows_in n) news;
          others = λ t other free. ap (λ (d : Trees). d t) trees ∙ done.others t other free;
          fits = subst (Fits our_schema) (sym trees) done.fits;
        }

    -- a row with the key would be there beside the new one
    never_beside : IsStored rows_in → (next : Trees)
        → Put our_schema table fresh_row rows_in db next → (r : Row) → Has rows_in r
        → conflicts (Some table.primary) our_schema.indexes table fresh_row r ≡ true → ⊥
    never_beside stored next p r has meets =
        let kept : Has (next table.tree) r = subst (λ rs. Has rs r) (sym p.rows)
        (put_all_keeps (fresh_row ∷ []) rows_in r (rw p.fresh refl) has) in
        let fits = p.fits in
        no_clash table.primary our_schema table tabled (key_index table) listed guarding refl refl
        next fits fresh_row r
        (subst (λ rs. Has rs fresh_row) (sym p.rows) (has_put fresh_row rows_in)) kept
        (agree_ties table.primary r fresh_row (keyed.full (next_rowid rows_in))
        ∙ sym (keyed.ties (next_rowid rows_in) r) ∙ meets)
        (differ_ints (rowid r) (Int (next_rowid rows_in)) (all_has _ rows_in r stored.1 has) refl
        (free_of rows_in r has p.fresh))
      where
        free_of : (rows : List Row) (r : Row) → Has rows r → is_taken rows fresh_row ≡ false
            → is_eq (value_cmp (rowid r) (rowid fresh_row)) ≡ false
        free_of rows r has free = false_from_ne_true _ (λ e.
            let taken : is_taken rows fresh_row ≡ true =
            some_from (λ x. is_eq (value_cmp (rowid x) (rowid fresh_row))) rows r has e in
            let f : true ≡ false = sym taken ∙ free in cc)

    added : IsStored rows_in → (next : Trees) → Put our_schema table fresh_row rows_in db next
        → Added our_schema table table.primary values db next
    added stored next p = record { none = never_beside stored next p; put = p }

    conflicting : (r : Row) → eq_by_cmp row_cmp key (key_of table.primary r) ≡ true
        → conflicts (Some table.primary) our_schema.indexes table fresh_row r ≡ true
    conflicting r e = keyed.ties (next_rowid rows_in) r
        ∙ ap (eq_by_cmp row_cmp (key_of table.primary r)) (keyed.keys (Int (next_rowid rows_in)))
        ∙ keys_back key (key_of table.primary r) e

    nothing_under : IsStored rows_in → (next : Trees)
        → Put our_schema table fresh_row rows_in db next
        → look table db key ≡ None
    nothing_under stored next p =
        get-from_entries row_cmp_total (entries_of table.primary rows_in) key ∙ none _ refl
      where
        none : (o : Option Row) → look_in row_cmp key (entries_of table.primary rows_in) ≡ o
            → look_in row_cmp key (entries_of table.primary rows_in) ≡ None
        none None e = e
        none (Some v) e =
            absurd (let it = met_some table.primary key v rows_in e in
            never_beside stored next p it.0 it.1 (conflicting it.0 it.2))

  says_row : (old new : State) (count : ℕ) → old.now.schema ≡ our_schema
      → Writes old new None (Insert at (Values terms width))
      (statement_of text (understood our_schema text)) values count
      → (new.now.schema ≡ our_schema)
      × Put our_schema table (Int (next_rowid (old.now.trees table.tree)) ∷ values)
      (old.now.trees table.tree) old.now.trees new.now.trees
  says_row old new count has w =
      let does = does_over has w in
      let done = went (rw there at does) in
      let concluded = went (went done.2).2 in
      let now = ap (λ (p : Tally × Database). p.1) (same_value concluded.2) in (
        ap (λ (d : Database). d.schema) now,
        subst (Put our_schema table (Int (next_rowid (old.now.trees table.tree)) ∷ values)
            (old.now.trees table.tree) old.now.trees) (sym (ap (λ (d : Database). d.trees) now))
            (inserted old.now.trees old.step_limit done.0 done.1),
      )

  -- rule: statements-of-tables.with-session-row
  pub inserts_row : (old new : State) (r : Result ℕ Error) → (IsTrue old.is_open → IsTabled old)
      → OnOk r (ExecutesInside 0 text values old new r) → OnOk r (InsertsRow table values old new)
  inserts_row old new (Err e) has x = tt
  inserts_row old new (Ok count) has x =
      let book = has x.1.was_open in
      let db = old.now.trees in
      let next = new.now.trees in
      let stored : IsStored (db table.tree) =
      all_has (λ (t : Table). IsStored (old.now.trees t.tree))
      our_schema.tables table book.stored tabled in
      let w = runs_as text values old new our_schema book.schema (Insert at (Values terms width))
      is plain_text count x.0 in
      let done = says_row old new count book.schema w in
      let upserted : Upserted our_schema table table.primary values db next =
      inl (added db stored next done.1) in
      let p : PutsRow table.primary our_schema table values db next =
      puts_key table.primary our_schema table tabled (key_index table) listed guarding refl refl
      values db next stored keyed.keys keyed.full keyed.ties upserted in
      record {
        none = nothing_under db stored next done.1;
        puts = record {
          changes = record {
            rows = p.rows;
            others = others table db next p.stored p.others;
            catalog = catalog_stays table db next p.stored p.others apart;
          };
          book = record {
            schema = done.0;
            stored = stays_stored table db next p.stored p.others book.stored;
          };
          shows = x.1;
          counts = counted table.primary our_schema table values db next stored keyed.keys
              keyed.ties upserted;
        };
      }

-- ---- by the content

pub inserts : (table : Table) (values : Row) (stands : TablesContent → Bool)
    (change : TablesContent → TablesContent) (text : List ℕ)
    → ((trees : Trees) → stands (tables_content trees)
    ≡ is_some (look table trees (key_of table.primary (Null ∷ values))))
    → ((old new : State) → Puts table values old new → Makes change old new)
    → ((old new : State) (r : Result ℕ Error) → (IsTrue old.is_open → IsTabled old)
    → OnOk r (ExecutesInside 0 text values old new r) → OnOk r (InsertsRow table values old new))
    → (params : Row) → params ≡ values → (old new : State) (r : Result ⊤ Error) → HasTables old
    → Attempts (HasRun text params) old new r
    → Attempts (Adds stands change) old new r
inserts table values stands change text under makes runs params same old new r has =
    done_as _ (Adds stands change) old new r (λ clean. made r (has clean))
  where
    added : InsertsRow table values old new → Adds stands change old new
    added h = record {
      makes = makes old new h.puts;
      none = under old.now.trees ∙ ap is_some h.none;
    }

    made : (r : Result ⊤ Error) → (IsTrue old.is_open → IsTabled old)
        → OnOk r (HasRun text params old new) → OnOk r (Adds stands change old new)
    made (Ok x) book h = added (runs old new (Ok h.count) book
        (subst (λ p. ExecutesInside 0 text p old new (Ok h.count)) same h.ran))
    made (Err e) book h = tt

-- what is added is made
pub done_makes : {A E : Type 0} (stands : TablesContent → Bool)
    (change : TablesContent → TablesContent) (old new : State) (r : Result A E)
    → Attempts (Adds stands change) old new r → Attempts (Makes change) old new r
done_makes {A} {E} stands change old new r =
    done_as (Adds stands change) (Makes change) old new r (λ clean. makes_of r)
  where
    makes_of : (r : Result A E) → OnOk r (Adds stands change old new)
        → OnOk r (Makes change old new)
    makes_of (Ok x) h = h.makes
    makes_of (Err e) h = tt
