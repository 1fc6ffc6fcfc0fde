-- INSERT .. ON CONFLICT of one row: what is said of each way that the row is written holds of the
-- whole statement.
use Rattle.std.proofs.Common.{◌≡◌, ℕ, ℤ, List, [], ◌∷◌, length, slice_get, false, ◌/◌}
use Rattle.std.proofs.Common.{if◌then◌else◌, Some, None, Option, Ok, sym, ap, subst, ◌∙◌, inl, inr}
use Rattle.std.specs.Prelude.{unwrap_or}
use Rattle.sqlite_value.specs.declared.value.Value.TheVariants.{Null, Int}
use Rattle.sqlite_value.specs.Order.{Row}
use Rattle.sqlite_trees.specs.Tree.{Trees}
use Rattle.sqlite_sql.specs.Term.{Term}
use Rattle.sqlite_schema.specs.declared.schema.Table.{Table}
use Rattle.sqlite_schema.specs.declared.schema.Schema.{Schema}
use Rattle.sqlite_schema.specs.declared.schema.Keys.TheVariants.{Enforced}
use Rattle.sqlite_schema.specs.declared.command.Source.TheVariants.{Values}
use Rattle.sqlite_schema.specs.declared.command.Conflict.TheVariants.{Abort}
use Rattle.sqlite_schema.specs.declared.command.Upsert.{Upsert}
use Rattle.sqlite_schema.specs.declared.command.Command.TheVariants.{InsertOr}
use Rattle.sqlite_rules.specs.declared.error.Rowids.TheVariants.{Chosen, Above}
use Rattle.sqlite_rules.specs.declared.error.Refusal.{Refusal}
use Rattle.sqlite_rules.specs.Cast.{cast_row}
use Rattle.sqlite_rules.specs.Edit.{next_rowid, with_rowid}
use Rattle.sqlite.specs.Does.{Tally}
use Rattle.sqlite.specs.Rows.{Written, Task, Upserts, Judged, Tries, TriesEach, InsertsOr, mended}
use Rattle.sqlite.specs.Rows.{nothing, stamped, count_of, rowids_for, Counts}
use Rattle.sqlite.specs.Effect.{Database, value_rows}
use Rattle.sqlite.specs.State.{State, Writes}
use Rattle.sql_tables.proofs.Steps.{went, same_value, does_over}

abbrev pub task_of : Option ℕ → Schema → Table → Row → Task
task_of limit schema table params =
    record { limit = limit; keys = Enforced; schema = schema; table = table; params = params }

-- the row under the next rowid
abbrev pub next_row : Table → Row → Trees → Row
next_row table values db = Int (next_rowid (db table.tree)) ∷ values

-- what each way says in which the row is written, or isn't
abbrev pub SaysOfRow : Task → Row → Trees → Upsert → (Trees → ℕ → Type 0) → Type 0
SaysOfRow task new db clause Says = (one : Written) →
    Upserts task Abort new db (clause ∷ []) (Ok one) → Says one.trees (length one.rows)

module _ (limit : Option ℕ) (schema : Schema) (table : Table) (params values : Row)
    (clause : Upsert) (db : Trees) (plain : cast_row table (Null ∷ values) ≡ Null ∷ values)
    (Says : Trees → ℕ → Type 0)
    (says : SaysOfRow (task_of limit schema table params) (next_row table values db) db clause
    Says) where
  abbrev task : Task
  task = task_of limit schema table params

  abbrev new : Row
  new = next_row table values db

  abbrev Said : Written → Type 0
  Said one = Says one.trees (length one.rows)

  judged : (one : Written) (verdict : Option Refusal) →
      Judged task Abort (clause ∷ []) new db verdict (Ok one) → Said one
  judged one None h = says one h
  judged one (Some why) h = absurd (let e = h in cc)

  tries : (one : Written) → Tries task Abort (clause ∷ []) new db (Ok one) → Said one
  tries one (inl h) = absurd (let e = h.1 in cc)
  tries one (inr h) = judged one h.0 h.2

  made : (top : ℤ) → table.is_counted ≡ false → with_rowid (rowids_for table top) (db table.tree)
      (cast_row table (mended Abort table (Null ∷ values))) ≡ new
  made top uncounted = ap (λ r. with_rowid (rowids_for table top) (db table.tree) r) plain ∙ ap
      (λ b. with_rowid (if b then Above top else Chosen) (db table.tree) (Null ∷ values)) uncounted

  uncounts : (mid next : Trees) (counter : Option Row) (top : ℤ) → table.is_counted ≡ false →
      Counts task mid counter top (Ok next) → next ≡ mid
  uncounts mid next counter top uncounted h = same_value (rw uncounted at h)

  inserts : (terms : List Term) (width : ℕ) (done : Written) → table.is_counted ≡ false
      → value_rows (stamped table params) width (length terms / width) terms ≡ (Null ∷ values) ∷ []
      → InsertsOr task Abort (clause ∷ []) (Values terms width) db (Ok done) → Said done
  inserts terms width done uncounted supplied h =
      let sourced = went h in
      let counted = went sourced.2 in
      let tried = went counted.2 in
      let ended = went tried.2 in
      let each =
      subst (λ rows. TriesEach task Abort (clause ∷ []) rows (count_of counted.0) (nothing db)
      (Ok tried.0)) (sourced.1.1 ∙ supplied) tried.1 in
      let one = went each in
      let put = tries one.0 (subst (λ r. Tries task Abort (clause ∷ []) r db (Ok one.0))
      (made (count_of counted.0) uncounted) one.1) in
      let first : tried.0.0.trees ≡ one.0.trees =
      ap (λ (p : Written × ℤ). p.0.trees) (same_value one.2) in
      let uncounting : ended.0 ≡ tried.0.0.trees =
      uncounts tried.0.0.trees ended.0 counted.0 tried.0.1 uncounted
      ended.1 in
      let last : done.trees ≡ ended.0 = ap (λ (w : Written). w.trees) (same_value ended.2) in
      let same : one.0.trees ≡ done.trees = sym (last ∙ uncounting ∙ first) in
      let rows : length one.0.rows ≡ length done.rows =
      sym (ap (λ (w : Written). length w.rows) (same_value ended.2)
      ∙ ap (λ (p : Written × ℤ). length p.0.rows) (same_value one.2)) in
      subst (λ n. Says done.trees n) rows (subst (λ t. Says t (length one.0.rows)) same put)

-- the same of the whole statement
module _ (schema : Schema) (at : ℕ) (table : Table)
    (there : slice_get schema.tables at ≡ Some table)
    (params values : Row) (clause : Upsert) (plain : cast_row table (Null ∷ values) ≡ Null ∷ values)
    (terms : List Term) (width : ℕ) (uncounted : table.is_counted ≡ false)
    (supplied : value_rows (stamped table params) width (length terms / width) terms
    ≡ (Null ∷ values) ∷ []) where
  pub says_of_statement : (old new : State) (text : List ℕ) (count : ℕ) (Says : Trees → ℕ → Type 0)
      → SaysOfRow (task_of old.step_limit schema table params)
      (next_row table values old.now.trees) old.now.trees clause Says
      → old.now.schema ≡ schema
      → Writes old new None (InsertOr at Abort (Values terms width) (clause ∷ [])) text params count
      → (new.now.schema ≡ schema) × Says new.now.trees count
  says_of_statement old new text count Says says has w =
      let does = does_over has w in
      let done = went (rw there at does) in
      let concluded = went (went done.2).2 in
      let now = ap (λ (p : Tally × Database). p.1) (same_value concluded.2) in
      let tally = ap (λ (p : Tally × Database). p.0.rows) (same_value concluded.2) in
      let counted : length done.0.rows ≡ count =
      sym (w.counted ∙ ap (λ (o : Option ℕ). unwrap_or o 0) tally) in (
        ap (λ (d : Database). d.schema) now,
        subst (λ n. Says new.now.trees n) counted
            (subst (λ t. Says t (length done.0.rows)) (sym (ap (λ (d : Database). d.trees) now))
            (inserts old.step_limit schema table params values clause old.now.trees plain Says says
            terms width done.0 uncounted supplied done.1)),
      )
