-- What UPDATE .. WHERE of a whole key makes of its table: the row under the key has its new values,
-- or there is none.
use Rattle.std.proofs.Common.{◌≡◌, ◌≢◌, ◌⊎◌, inl, inr, ℕ, List, [], ◌∷◌}
use Rattle.std.proofs.Common.{slice_get, Bool, true, false, None, Option, Some, Ok}
use Rattle.std.proofs.Common.{sym, ap, subst, ◌∙◌}
use Rattle.std.proofs.lemmas.Bool.{and_parts, not-true}
use Rattle.std.specs.List.{AllByRecursion, list_all}
use Rattle.std.specs.Ordering.{eq_by_cmp}
use Rattle.sqlite_value.specs.declared.value.Value.TheVariants.{Null, Int}
use Rattle.sqlite_value.specs.Order.{Row, row_cmp}
use Rattle.sqlite_trees.specs.Tree.{Trees, rowid, without_rowid}
use Rattle.sqlite_sql.specs.Ops.{is_null}
use Rattle.sqlite_sql.specs.Term.{Term, eval_all, holds}
use Rattle.sqlite_schema.specs.Rules.{Fits, guards}
use Rattle.sqlite_schema.specs.declared.command.Command.TheVariants.{Update}
use Rattle.sqlite_schema.specs.declared.schema.Keys.TheVariants.{Enforced}
use Rattle.sqlite_schema.specs.declared.schema.Table.{Table}
use Rattle.sqlite_rules.specs.Action.{works, Writes as Settling}
use Rattle.sqlite_rules.specs.Calls.{ids_of}
use Rattle.sqlite_rules.specs.Cast.{cast_row}
use Rattle.sqlite_rules.specs.Edit.{Edit, edit_of, id_in, taken_by, are_fresh}
use Rattle.sqlite_rules.specs.Edit.{put_all, IsNoIndex}
use Rattle.sqlite_rules.specs.Lists.{Has}
use Rattle.sqlite_rules.specs.declared.error.Rowids.TheVariants.{Given}
use Rattle.sqlite_rules.proofs.PlaceLemmas.{given as given_news}
use Rattle.sqlite.specs.Does.{Tally}
use Rattle.sqlite.specs.Effect.{Answers, Database}
use Rattle.sqlite.specs.Rows.{Updates, Written}
use Rattle.sqlite.specs.State.{State, Writes}
use Rattle.sqlite.proofs.Callers.{one_step}
use Rattle.sql_tables.specs.Keyed.{key_of, IsStored}
use Rattle.sql_tables.specs.Schema.{our_schema, key_index}
use Rattle.sql_tables.specs.Selects.{Selects}
use Rattle.sql_tables.proofs.Selected.{answered, select_from, selected_to}
use Rattle.sql_tables.proofs.Single.{one_selected}
use Rattle.sql_tables.proofs.Steps.{does_over, same_value, went}
use Rattle.sql_tables.proofs.Upserts.{Put}

-- no row passes, and the trees of tables are as they were
pub record NoneUpdated (table : Table) (test : Row → Bool) (db next : Trees) : Type 0 where
  pub none : (r : Row) → Has (db table.tree) r → test r ≡ true → ⊥
  pub rows : next table.tree ≡ db table.tree
  pub others : (t : ℕ) → t ≢ table.tree → IsNoIndex our_schema t → next t ≡ db t
  pub fits : Fits our_schema next

-- a row passes, and it has its new values in its place
pub record OneUpdated (table : Table) (test : Row → Bool) (values : Row → Row)
    (db next : Trees) : Type 0 where
  pub there : Row
  pub has : Has (db table.tree) there
  pub passes : test there ≡ true
  pub put : Put our_schema table (Int (id_in (rowid there)) ∷ values there)
      (without_rowid (id_in (rowid there)) (db table.tree)) db next

abbrev pub Updated : Table → (Row → Bool) → (Row → Row) → Trees → Trees → Type 0
Updated table test values db next = NoneUpdated table test db next
    ⊎ OneUpdated table test values db next

-- a key of the table, and the row that an update makes of each row that has it
module _ (table : Table) (tabled : Has our_schema.tables table)
    (listed : Has our_schema.indexes (key_index table)) (guarding : guards (key_index table) table
    ≡ true) (terms project : List Term) (params : Row) (test : Row → Bool) (made values : Row → Row)
    (tests : (r : Row) → list_all (holds (params ∷ r ∷ [])) terms ≡ test r)
    (shows : (r : Row) → eval_all project (params ∷ r ∷ []) ≡ rowid r ∷ made r) (key : Row)
    (full : AllByRecursion (λ v. is_null v ≡ false) key)
    (means : (r : Row) → test r ≡ eq_by_cmp row_cmp (key_of table.primary r) key)
    (idle : works our_schema Enforced 0 table.tree [] [] ≡ [])
    (kept : (olds : List Row) (new : Row) →
    works our_schema Enforced 0 table.tree olds (new ∷ []) ≡ []) where
  abbrev columns : Row → Row
  columns r = rowid r ∷ made r

  module _ (db : Trees) (fits : Fits our_schema db) (stored : IsStored (db table.tree))
      (again : (r : Row) → Has (db table.tree) r → test r ≡ true →
      cast_row table (made r) ≡ Int (id_in (rowid r)) ∷ values r) where
    abbrev edit_by : List Row → Edit
    edit_by rows = edit_of db table (ids_of rows) Given 1 rows

    stays : (rows : List Row) (next : Trees) → Selects test columns (db table.tree) rows
        → rows ≡ [] → Settling our_schema Enforced db (edit_by rows) (Ok next)
        → NoneUpdated table test db next
    stays rows next selects none h =
        let done = one_step our_schema Enforced db next (edit_by []) idle
        (subst (λ rs. Settling our_schema Enforced db (edit_by rs) (Ok next)) none h) in
        record {
          none = λ r has passes. subst (λ rs. Has rs (columns r)) none
              (selected_to test columns (db table.tree) rows selects r has passes);
          rows = done.rows;
          others = done.others;
          fits = done.fits;
        }

    turned : (rows : List Row) (next : Trees) (there : Row) → Has (db table.tree) there
        → test there ≡ true → rows ≡ columns there ∷ []
        → Settling our_schema Enforced db (edit_by rows) (Ok next)
        → OneUpdated table test values db next
    turned rows next there has passes one h =
        let edit = edit_by (columns there ∷ []) in
        let new : Row = Int (id_in (rowid there)) ∷ values there in
        let left = without_rowid (id_in (rowid there)) (db table.tree) in
        let news : edit.news ≡ new ∷ [] = given_news left (cast_row table (made there) ∷ [])
        ∙ ap (λ r. r ∷ []) (again there has passes) in
        let done = one_step our_schema Enforced db next edit
        (subst (λ n. works our_schema Enforced 0 table.tree (taken_by db edit) n ≡ []) (sym news)
        (kept (taken_by db edit) new))
        (subst (λ rs. Settling our_schema Enforced db (edit_by rs) (Ok next)) one h) in
        let fresh : are_fresh left (new ∷ []) ≡ true =
        subst (λ n. are_fresh left n ≡ true) news done.fresh in
        record {
          there = there;
          has = has;
          passes = passes;
          put = record {
            fresh = not-true _ (and_parts _ _ fresh).0;
            rows = done.rows ∙ ap (put_all left) news;
            others = done.others;
            fits = done.fits;
          };
        }

    updates : (limit : Option ℕ) (one : Written)
        → Updates (record {
          limit = limit;
          keys = Enforced;
          schema = our_schema;
          table = table;
          params = params;
        }) (record { lets = []; body = select_from table.tree terms project [] }) params db (Ok one)
        → Updated table test values db one.trees
    updates limit one h =
        let q = went h in
        let a : Answers (record { schema = our_schema; trees = db }) (record {
          lets = [];
          body = select_from table.tree terms project [];
        }) params q.0 = q.1 in
        let it = went q.2 in
        let selects : Selects test columns (db table.tree) q.0 =
        answered table.tree terms project [] params test columns tests shows db q.0
        (a.answer Null) in
        let trees : one.trees ≡ it.0 = ap (λ (w : Written). w.trees) (same_value it.2) in
        subst (Updated table test values db) (sym trees)
        (elim (one_selected table tabled listed guarding db fits stored columns test key full means
        q.0 selects) [
          | inl none ↦ inl (stays q.0 it.0 selects none it.1)
          | inr some ↦ inr (turned q.0 it.0 some.0 some.1 some.2 some.3 it.1)
        ])

  -- the same of the whole statement
  -- rule: statements-of-tables.tables-content
  pub updates_row : (at : ℕ) → slice_get our_schema.tables at ≡ Some table
      → (old new : State) (text : List ℕ) (count : ℕ) → old.now.schema ≡ our_schema
      → Fits our_schema old.now.trees → IsStored (old.now.trees table.tree)
      → ((r : Row) → Has (old.now.trees table.tree) r → test r ≡ true →
      cast_row table (made r) ≡ Int (id_in (rowid r)) ∷ values r)
      → Writes old new None (Update at (record {
        lets = [];
        body = select_from table.tree terms project [];
      })) text params count
      → (new.now.schema ≡ our_schema) × Updated table test values old.now.trees new.now.trees
  updates_row at there old new text count has fits stored again w =
      let does = does_over has w in
      let done = went (rw there at does) in
      let concluded = went (went done.2).2 in
      let now = ap (λ (p : Tally × Database). p.1) (same_value concluded.2) in (
        ap (λ (d : Database). d.schema) now,
        subst (Updated table test values old.now.trees)
            (sym (ap (λ (d : Database). d.trees) now))
            (updates old.now.trees fits stored again old.step_limit done.0 done.1),
      )
