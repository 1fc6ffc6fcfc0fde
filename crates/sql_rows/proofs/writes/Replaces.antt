-- What UPDATE .. WHERE (key) makes of its table where it sets each column: the row under the key
-- has the new values, or there is none.
use Rattle.std.proofs.Common.{◌≡◌, ◌≢◌, ◌⊎◌, inl, inr, ℕ, ℤ, List, [], ◌∷◌, map, filter, length}
use Rattle.std.proofs.Common.{slice_get, Bool, true, false, Some, None, Option, Ok, Err, Result}
use Rattle.std.proofs.Common.{IsTrue, OnOk, OnErr, is_eq, refl, sym, ap, subst, ◌∙◌, ◌+◌, ◌==◌}
use Rattle.std.proofs.Common.{suc, drop, eq-eqb, true-eqb, arith}
use Rattle.std.specs.Prelude.{IfOk, is_some, if◌then◌else◌, unwrap_or, ⊤}
use Rattle.std.proofs.lemmas.Bool.{and_parts, not-true}
use Rattle.std.proofs.lemmas.Cmp.{tied_itself}
use Rattle.std.proofs.lemmas.List.{nil_from_length}
use Rattle.std.proofs.lemmas.List.Sorted.{length_permutation}
use Rattle.std.specs.FinMap.{get-from_entries}
use Rattle.std.specs.FinMap.Entries.{find as look_in}
use Rattle.std.specs.List.{AllByRecursion, filter_map, flat_map, list_all}
use Rattle.std.specs.List.Sorted.{IsPermutation}
use Rattle.std.specs.Ordering.{eq_by_cmp}
use Rattle.sqlite_value.specs.declared.value.Value.TheVariants.{Null, Int}
use Rattle.sqlite_value.specs.Order.{Row, row_cmp, value_cmp}
use Rattle.sqlite_value.specs.Keys.{plain}
use Rattle.sqlite_value.proofs.OrderLemmas.{row_cmp_total}
use Rattle.sqlite_trees.specs.Objects.{catalog_tree}
use Rattle.sqlite_trees.specs.Tree.{Trees, rowid, without_rowid}
use Rattle.sqlite_sql.specs.Term.{Term, eval_all, holds}
use Rattle.sqlite_schema.specs.Rules.{Fits, guards, parent_key}
use Rattle.sqlite_schema.specs.declared.command.Command.TheVariants.{Update}
use Rattle.sqlite_schema.specs.declared.schema.Keys.TheVariants.{Enforced}
use Rattle.sqlite_schema.specs.declared.schema.Reference.{Reference}
use Rattle.sqlite_schema.specs.declared.schema.Table.{Table}
use Rattle.sqlite_rules.specs.Action.{Work, deed_for, pairs, work_by, works}
use Rattle.sqlite_rules.specs.Action.{Writes as Settling}
use Rattle.sqlite_rules.specs.Calls.{ids_of}
use Rattle.sqlite_rules.specs.Cast.{cast_row}
use Rattle.sqlite_rules.specs.Edit.{Edit, edit_of, id_in, taken_by, left_by, are_fresh}
use Rattle.sqlite_rules.specs.Edit.{next_rowid, put_all, IsNoIndex}
use Rattle.sqlite_rules.specs.Lists.{Has}
use Rattle.sqlite_rules.specs.declared.error.Rowids.TheVariants.{Given}
use Rattle.sqlite_rules.proofs.ListLemmas.{all_has, has_filtered}
use Rattle.sqlite_rules.proofs.PlaceLemmas.{given as given_news}
use Rattle.sqlite_rules.proofs.TableLemmas.{int_is, put_all_adds}
use Rattle.sqlite.specs.Does.{Tally}
use Rattle.sqlite.specs.Effect.{Answers, Database}
use Rattle.sqlite.specs.Listing.{understood}
use Rattle.sqlite.specs.Rows.{Updates, Written}
use Rattle.sqlite.specs.State.{State, ExecutesInside, HasCleanDisk, KeepsCommit, Shows, Writes}
use Rattle.sqlite.specs.declared.error.Error.{Error}
use Rattle.sqlite.proofs.Callers.{IsPlain, command_of, one_step, runs_as, statement_of}
use Rattle.sqlite.proofs.StateLemmas.{survives_then}
use Rattle.sql_tables.specs.Keyed.{key_of, entries_of, look, IsStored}
use Rattle.sql_tables.specs.Schema.{our_schema, key_index}
use Rattle.sql_tables.specs.Selects.{Selects}
use Rattle.sql_tables.specs.Statements.{AreStored, Attempts, Changes, HasTables, HasRules, IsTabled}
use Rattle.sql_tables.proofs.Books.{others, stays_stored, catalog_stays}
use Rattle.sql_tables.proofs.Counted.{counted}
use Rattle.sql_tables.proofs.Keys.{keys_back}
use Rattle.sql_tables.proofs.Selected.{answered, select_from, selected_to}
use Rattle.sql_tables.proofs.Selections.{met_some, met_has}
use Rattle.sql_tables.proofs.Single.{only_one}
use Rattle.sql_tables.proofs.Steps.{does_over, mapped_to, same_value, went}
use Rattle.sql_tables.proofs.Stored.{stored_filter}
use Rattle.sql_tables.proofs.Swaps.{PutsRow, no_clash, differ_ints, puts_key}
use Rattle.sql_tables.proofs.Ties.{agree_ties}
use Rattle.sql_tables.proofs.Upserts.{Moved, Upserted}
use Rattle.sql_rows.specs.Content.{TablesContent, tables_content}
use Rattle.sql_rows.specs.Makes.{Makes, ReplacesIfSome}
use Rattle.sql_rows.specs.Plain.{ArePlain}
use Rattle.sql_rows.proofs.writes.Keyed.{IsKeyed}
use Rattle.sql_rows.proofs.writes.Plains.{plain_stays}
use Rattle.sql_rows.proofs.writes.Stays.{same_content}
use Rattle.sql_rows.proofs.writes.Writes.{makes_turned}

-- a row was under the key, and has the new values
pub record IsReplaced (table : Table) (values : Row) (old new : Trees) (count : ℕ) : Type 0 where
  pub there : is_some (look table old (key_of table.primary (Null ∷ values))) ≡ true
  pub changes : Changes table values old new
  pub counts : length (new table.tree)
      ≡ (if is_some (look table old (key_of table.primary (Null ∷ values)))
      then length (old table.tree) else length (old table.tree) + 1)
  pub one : count ≡ 1

-- none was, and the tables have the same rows
pub record IsMissing (table : Table) (values : Row) (old new : Trees) (count : ℕ) : Type 0 where
  pub none : look table old (key_of table.primary (Null ∷ values)) ≡ None
  pub same : AllByRecursion (λ (t : Table). new t.tree ≡ old t.tree) our_schema.tables
  pub catalog : new catalog_tree ≡ old catalog_tree
  pub nothing : count ≡ 0

-- what the statement does, and how many rows it reports
pub record ReplacesRow (table : Table) (values : Row) (old new : State) (count : ℕ) : Type 0 where
  pub replaces : IsReplaced table values old.now.trees new.now.trees count
      ⊎ IsMissing table values old.now.trees new.now.trees count
  pub book : IsTabled new
  pub shows : Shows old new new.now old.committed true
  pub fits : Fits our_schema new.now.trees

-- no foreign key of the tables acts, whether rows are taken out or replaced
abbrev works_as : Bool → ℕ → List Row → List Row → List Work
works_as deletes tree olds news = flat_map (λ (child : Table). filter_map
    (λ (ref : Reference). work_by 0 tree (pairs olds news) child ref
    (deed_for Enforced deletes ref) (parent_key our_schema.tables ref)) child.references)
    our_schema.tables

no_actions : (tree : ℕ) (olds news : List Row) → works our_schema Enforced 0 tree olds news ≡ []
no_actions tree olds news = go (length news == 0)
  where
    go : (deletes : Bool) → works_as deletes tree olds news ≡ []
    go true = refl
    go false = refl

-- no row passes, and the trees of tables are as they were
record Stood (table : Table) (test : Row → Bool) (db next : Trees) : Type 0 where
  none : (r : Row) → Has (db table.tree) r → test r ≡ true → ⊥
  rows : next table.tree ≡ db table.tree
  others : (t : ℕ) → t ≢ table.tree → IsNoIndex our_schema t → next t ≡ db t
  fits : Fits our_schema next

module _ (table : Table) (tabled : Has our_schema.tables table)
    (listed : Has our_schema.indexes (key_index table))
    (guarding : guards (key_index table) table ≡ true) (terms project : List Term) (values : Row)
    (tests : (r : Row) → list_all (holds (values ∷ r ∷ [])) terms
    ≡ eq_by_cmp row_cmp (key_of table.primary r) (key_of table.primary (Null ∷ values)))
    (shows : (r : Row) → eval_all project (values ∷ r ∷ []) ≡ rowid r ∷ rowid r ∷ values)
    (keyed : IsKeyed table values) where
  abbrev key : Row
  key = key_of table.primary (Null ∷ values)

  abbrev test : Row → Bool
  test r = eq_by_cmp row_cmp (key_of table.primary r) key

  abbrev columns : Row → Row
  columns r = rowid r ∷ rowid r ∷ values

  -- the new row of a rowid
  abbrev made : ℤ → Row
  made id = Int id ∷ values

  module _ (db : Trees) (stored : IsStored (db table.tree)) where
    abbrev rows_in : List Row
    rows_in = db table.tree

    abbrev edit_by : List Row → Edit
    edit_by rows = edit_of db table (ids_of rows) Given 1 rows

    number : (r : Row) → Has rows_in r → rowid r ≡ Int (id_in (rowid r))
    number r has = int_is (rowid r) (all_has _ rows_in r stored.1 has)

    cast_made : (r : Row) → Has rows_in r
        → cast_row table (rowid r ∷ values) ≡ made (id_in (rowid r))
    cast_made r has = ap (λ v. cast_row table (v ∷ values)) (number r has)
        ∙ keyed.again (id_in (rowid r))

    -- a row that is selected is there anew
    is_put : (x : Row) (more : List Row) (next : Trees) (r : Row) → Has rows_in r
        → Has (x ∷ more) (columns r)
        → Settling our_schema Enforced db (edit_by (x ∷ more)) (Ok next)
        → Has (next table.tree) (made (id_in (rowid r))) × Fits our_schema next
    is_put x more next r has picked h =
        let edit = edit_by (x ∷ more) in
        let cast = λ (s : Row). cast_row table (drop 1 s) in
        let left = left_by db edit in
        let news : edit.news ≡ map cast (x ∷ more) = given_news left (map cast (x ∷ more)) in
        let done = one_step our_schema Enforced db next edit
        (no_actions table.tree (taken_by db edit) edit.news) h in
        let among : Has edit.news (made (id_in (rowid r))) =
        subst (λ n. Has n (made (id_in (rowid r)))) (sym news)
        (subst (Has (map cast (x ∷ more))) (cast_made r has)
        (mapped_to cast (x ∷ more) (columns r) picked)) in (
          subst (λ rs. Has rs (made (id_in (rowid r)))) (sym done.rows)
              (put_all_adds edit.news left (made (id_in (rowid r))) done.fresh among),
          done.fits,
        )

    -- two rows with the key aren't both there anew
    never_two : (rows : List Row) (next : Trees) (r s : Row) → Has rows_in r → Has rows_in s
        → is_eq (value_cmp (rowid r) (rowid s)) ≡ false
        → Has rows (columns r) → Has rows (columns s)
        → Settling our_schema Enforced db (edit_by rows) (Ok next) → ⊥
    never_two [] next r s has too apart one two h = absurd one
    never_two (x ∷ more) next r s has too apart one two h =
        let first = is_put x more next r has one h in
        let second = is_put x more next s too two h in
        let id = id_in (rowid r) in
        let other = id_in (rowid s) in
        no_clash table.primary our_schema table tabled (key_index table) listed guarding refl refl
        next first.1 (made other) (made id) second.0 first.0
        (agree_ties table.primary (made id) (made other) (keyed.full other)
        ∙ ap (eq_by_cmp row_cmp (key_of table.primary (made id)))
        (keyed.keys (Int other) ∙ sym (keyed.keys (Int id)))
        ∙ ap is_eq (tied_itself row_cmp_total (key_of table.primary (made id))))
        (differ_ints (Int id) (Int other) refl refl
        (ap (λ v. is_eq (value_cmp v (Int other))) (sym (number r has))
        ∙ ap (λ v. is_eq (value_cmp (rowid r) v)) (sym (number s too)) ∙ apart))

    stays : (rows : List Row) (next : Trees) → Selects test columns rows_in rows
        → rows ≡ [] → Settling our_schema Enforced db (edit_by rows) (Ok next)
        → Stood table test db next
    stays rows next selects none h =
        let done = one_step our_schema Enforced db next (edit_by [])
        (no_actions table.tree [] [])
        (subst (λ rs. Settling our_schema Enforced db (edit_by rs) (Ok next)) none h) in
        record {
          none = λ r has passes. subst (λ rs. Has rs (columns r)) none
              (selected_to test columns rows_in rows selects r has passes);
          rows = done.rows;
          others = done.others;
          fits = done.fits;
        }

    turned : (rows : List Row) (next : Trees) (there : Row) → Has rows_in there
        → test there ≡ true → rows ≡ columns there ∷ []
        → Settling our_schema Enforced db (edit_by rows) (Ok next)
        → Moved our_schema table table.primary values db next
    turned rows next there has passes one h =
        let edit = edit_by (columns there ∷ []) in
        let new : Row = made (id_in (rowid there)) in
        let left = without_rowid (id_in (rowid there)) rows_in in
        let news : edit.news ≡ new ∷ [] =
        given_news left (cast_row table (rowid there ∷ values) ∷ [])
        ∙ ap (λ r. r ∷ []) (cast_made there has) in
        let done = one_step our_schema Enforced db next edit
        (no_actions table.tree (taken_by db edit) edit.news)
        (subst (λ rs. Settling our_schema Enforced db (edit_by rs) (Ok next)) one h) in
        let fresh : are_fresh left (new ∷ []) ≡ true =
        subst (λ n. are_fresh left n ≡ true) news done.fresh in
        record {
          there = there;
          has = has;
          meets = keyed.ties (next_rowid rows_in) there
              ∙ ap (eq_by_cmp row_cmp (key_of table.primary there))
              (keyed.keys (Int (next_rowid rows_in)))
              ∙ passes;
          put = record {
            fresh = not-true _ (and_parts _ _ fresh).0;
            rows = done.rows ∙ ap (put_all left) news;
            others = done.others;
            fits = done.fits;
          };
        }

    -- what it says of the trees, and of the rows that it put
    abbrev Says : Trees → ℕ → Type 0
    Says next count = (Stood table test db next × (count ≡ 0))
        ⊎ (Moved our_schema table table.primary values db next × (count ≡ 1))

    many : (rows : List Row) → length (edit_by rows).news ≡ length rows
    many rows = ap length (given_news (left_by db (edit_by rows)) _) ∙ length-map rows _
      where
        length-map : (xs : List Row) (f : Row → Row) → length (map f xs) ≡ length xs
        length-map [] f = refl
        length-map (x ∷ xs) f = ap (λ n. suc n) (length-map xs f)

    said : (rows : List Row) (next : Trees) → Selects test columns rows_in rows
        → Settling our_schema Enforced db (edit_by rows) (Ok next)
        → Says next (length (edit_by rows).news)
    said rows next selects h = go (filter test rows_in) refl
      where
        go : (found : List Row) → filter test rows_in ≡ found
            → Says next (length (edit_by rows).news)
        go [] is =
            let none : rows ≡ [] = nil_from_length rows (length_permutation (map columns []) rows
            (subst (λ rs. IsPermutation (map columns rs) rows) is selects.same)) in
            inl (stays rows next selects none h, many rows ∙ ap length none)
        go (r ∷ []) is =
            let it =
            has_filtered test rows_in r (subst (λ rs. Has rs r) (sym is) (inl refl)) in
            let one = only_one (columns r) rows
            (subst (λ rs. IsPermutation (map columns rs) rows) is selects.same) in
            inr (turned rows next r it.0 it.1 one h, many rows ∙ ap length one)
        go (r ∷ s ∷ rest) is =
            let first =
            has_filtered test rows_in r (subst (λ rs. Has rs r) (sym is) (inl refl)) in
            let second =
            has_filtered test rows_in s (subst (λ rs. Has rs s) (sym is) (inr (inl refl))) in
            let apart = (subst IsStored is (stored_filter test rows_in stored)).0.0.0 in
            absurd (never_two rows next r s first.0 second.0 apart
            (selected_to test columns rows_in rows selects r first.0 first.1)
            (selected_to test columns rows_in rows selects s second.0 second.1) h)

    updates : (limit : Option ℕ) (one : Written)
        → Updates (record {
          limit = limit;
          keys = Enforced;
          schema = our_schema;
          table = table;
          params = values;
        }) (record { lets = []; body = select_from table.tree terms project [] }) values db (Ok one)
        → Says one.trees (length one.rows)
    updates limit one h =
        let q = went h in
        let a : Answers (record { schema = our_schema; trees = db }) (record {
          lets = [];
          body = select_from table.tree terms project [];
        }) values q.0 = q.1 in
        let it = went q.2 in
        let selects : Selects test columns rows_in q.0 =
        answered table.tree terms project [] values test columns tests shows db q.0
        (a.answer Null) in
        let trees : one.trees ≡ it.0 = ap (λ (w : Written). w.trees) (same_value it.2) in
        let rows : length one.rows ≡ length (edit_by q.0).news =
        ap (λ (w : Written). length w.rows) (same_value it.2) in
        subst (λ n. Says one.trees n) (sym rows)
        (subst (λ t. Says t (length (edit_by q.0).news)) (sym trees) (said q.0 it.0 selects it.1))

    looked : look table db key ≡ look_in row_cmp key (entries_of table.primary rows_in)
    looked = get-from_entries row_cmp_total (entries_of table.primary rows_in) key

    nothing_under : (next : Trees) → Stood table test db next → look table db key ≡ None
    nothing_under next s = looked ∙ none _ refl
      where
        none : (o : Option Row) → look_in row_cmp key (entries_of table.primary rows_in) ≡ o
            → look_in row_cmp key (entries_of table.primary rows_in) ≡ None
        none None e = e
        none (Some v) e =
            absurd (let it = met_some table.primary key v rows_in e in
            s.none it.0 it.1 (keys_back key (key_of table.primary it.0) it.2))

    something_under : (r : Row) → Has rows_in r → test r ≡ true
        → is_some (look table db key) ≡ true
    something_under r has passes =
        let it = met_has table.primary key rows_in r has
        (keys_back (key_of table.primary r) key passes) in
        ap is_some (looked ∙ it.1)

    passed : (next : Trees) (m : Moved our_schema table table.primary values db next)
        → test m.there ≡ true
    passed next m = ap (eq_by_cmp row_cmp (key_of table.primary m.there))
        (sym (keyed.keys (Int (next_rowid rows_in))))
        ∙ sym (keyed.ties (next_rowid rows_in) m.there)
        ∙ m.meets

    -- what it says, of the tables
    abbrev Leaves : Trees → ℕ → Type 0
    Leaves next count =
        (IsReplaced table values db next count ⊎ IsMissing table values db next count)
        × (AreStored db → AreStored next) × Fits our_schema next

    leaves_same : catalog_tree ≢ table.tree → (next : Trees) (count : ℕ)
        → Stood table test db next → count ≡ 0 → Leaves next count
    leaves_same apart next count s none =
        let still = subst IsStored (sym s.rows) stored in (
          inr (record {
            none = nothing_under next s;
            same = all_same next s.rows our_schema.tables (others table db next still s.others);
            catalog = catalog_stays table db next still s.others apart;
            nothing = none;
          }),
          stays_stored table db next still s.others,
          s.fits,
        )
      where
        all_same : (next : Trees) → next table.tree ≡ db table.tree → (ts : List Table)
            → AllByRecursion (λ (t : Table). t.tree ≢ table.tree → next t.tree ≡ db t.tree) ts
            → AllByRecursion (λ (t : Table). next t.tree ≡ db t.tree) ts
        all_same next own [] h = tt
        all_same next own (t ∷ ts) h = (go (t.tree == table.tree) refl, all_same next own ts h.1)
          where
            go : (b : Bool) → (t.tree == table.tree) ≡ b → next t.tree ≡ db t.tree
            go true e = subst (λ n. next n ≡ db n) (sym (true-eqb t.tree table.tree (sym e))) own
            go false e = h.0 (λ is. let yes' : (t.tree == table.tree) ≡ true =
                eq-eqb t.tree table.tree is in let f : true ≡ false = sym yes' ∙ e in cc)

    leaves_new : catalog_tree ≢ table.tree → (next : Trees) (count : ℕ)
        → Moved our_schema table table.primary values db next → count ≡ 1 → Leaves next count
    leaves_new apart next count m one =
        let upserted : Upserted our_schema table table.primary values db next = inr m in
        let p : PutsRow table.primary our_schema table values db next =
        puts_key table.primary our_schema table tabled (key_index table) listed guarding refl refl
        values db next stored keyed.keys keyed.full keyed.ties upserted in (
          inl (record {
            there = something_under m.there m.has (passed next m);
            changes = record {
              rows = p.rows;
              others = others table db next p.stored p.others;
              catalog = catalog_stays table db next p.stored p.others apart;
            };
            counts = counted table.primary our_schema table values db next stored keyed.keys
                keyed.ties upserted;
            one = one;
          }),
          stays_stored table db next p.stored p.others,
          m.put.fits,
        )

    leaves : catalog_tree ≢ table.tree → (next : Trees) (count : ℕ) → Says next count
        → Leaves next count
    leaves apart next count (inl s) = leaves_same apart next count s.0 s.1
    leaves apart next count (inr m) = leaves_new apart next count m.0 m.1

  -- the same of the whole statement
  module _ (at : ℕ) (there : slice_get our_schema.tables at ≡ Some table)
      (apart : catalog_tree ≢ table.tree) (text : List ℕ)
      (is : command_of (understood our_schema text)
      ≡ Update at (record { lets = []; body = select_from table.tree terms project [] }))
      (plain_text : IsPlain (understood our_schema text)) where
    says_row : (old new : State) (count : ℕ) → old.now.schema ≡ our_schema
        → (stored : IsStored (old.now.trees table.tree))
        → Writes old new None (Update at (record {
          lets = [];
          body = select_from table.tree terms project [];
        })) (statement_of text (understood our_schema text)) values count
        → (new.now.schema ≡ our_schema) × Says old.now.trees stored new.now.trees count
    says_row old new count has stored w =
        let does = does_over has w in
        let done = went (rw there at does) in
        let concluded = went (went done.2).2 in
        let now = ap (λ (p : Tally × Database). p.1) (same_value concluded.2) in
        let tally = ap (λ (p : Tally × Database). p.0.rows) (same_value concluded.2) in
        let counts : length done.0.rows ≡ count =
        sym (w.counted ∙ ap (λ (o : Option ℕ). unwrap_or o 0) tally) in (
          ap (λ (d : Database). d.schema) now,
          subst (λ n. Says old.now.trees stored new.now.trees n) counts
              (subst (λ t. Says old.now.trees stored t (length done.0.rows))
              (sym (ap (λ (d : Database). d.trees) now))
              (updates old.now.trees stored old.step_limit done.0 done.1)),
        )

    -- rule: statements-of-tables.tables-content
    pub replaces_row : (old new : State) (r : Result ℕ Error) → (IsTrue old.is_open → IsTabled old)
        → OnOk r (ExecutesInside 0 text values old new r)
        → IfOk r (ReplacesRow table values old new)
    replaces_row old new (Err e) has x = tt
    replaces_row old new (Ok count) has x =
        let book = has x.1.was_open in
        let stored : IsStored (old.now.trees table.tree) =
        all_has (λ (t : Table). IsStored (old.now.trees t.tree))
        our_schema.tables table book.stored tabled in
        let w = runs_as text values old new our_schema book.schema
        (Update at (record { lets = []; body = select_from table.tree terms project [] })) is
        plain_text count x.0 in
        let done = says_row old new count book.schema stored w in
        let left = leaves old.now.trees stored apart new.now.trees count done.1 in
        record {
          replaces = left.0;
          book = record { schema = done.0; stored = left.1 book.stored };
          shows = x.1;
          fits = left.2;
        }

-- ---- by the content

module _ (table : Table) (values : Row) (stands : TablesContent → Bool)
    (change : TablesContent → TablesContent)
    (under : (trees : Trees) → stands (tables_content trees)
    ≡ is_some (look table trees (key_of table.primary (Null ∷ values))))
    (turns : (old new : Trees) → Changes table values old new
    → length (new table.tree) ≡ (if is_some (look table old (key_of table.primary (Null ∷ values)))
    then length (old table.tree) else length (old table.tree) + 1)
    → tables_content new ≡ change (tables_content old))
    (plain : (old new : Trees) → Changes table values old new → ArePlain old → ArePlain new) where
  abbrev chosen : TablesContent → TablesContent
  chosen c = if stands c then change c else c

  -- it is replaced where there was one
  record IsTold (old new : State) (count : ℕ) : Type 0 where
    made : Makes chosen old new
    told : (count == 1) ≡ stands (tables_content old.now.trees)

  choice : (t : Bool) (c : TablesContent) → stands c ≡ t → chosen c ≡ (if t then change c else c)
  choice t c e = ap (λ b. if b then change c else c) e

  told_by : (old new : State) (count : ℕ) → ReplacesRow table values old new count
      → IsTold old new count
  told_by old new count h = at h.replaces
    where
      at : IsReplaced table values old.now.trees new.now.trees count
          ⊎ IsMissing table values old.now.trees new.now.trees count → IsTold old new count
      at (inl x) =
          let standing : stands (tables_content old.now.trees) ≡ true =
          under old.now.trees ∙ x.there in
          record {
            made = makes_turned chosen old new
                (turns old.now.trees new.now.trees x.changes x.counts
                ∙ sym (choice true (tables_content old.now.trees) standing))
                x.changes.catalog
                (plain old.now.trees new.now.trees x.changes) h.book h.shows;
            told = ap (λ n. n == 1) x.one ∙ sym standing;
          }
      at (inr x) =
          let missing : stands (tables_content old.now.trees) ≡ false =
          under old.now.trees ∙ ap is_some x.none in
          record {
            made = makes_turned chosen old new
                (same_content old.now.trees new.now.trees x.same
                ∙ sym (choice false (tables_content old.now.trees) missing))
                x.catalog
                (plain_stays old.now.trees new.now.trees x.same.1.0 x.same.1.1.1.1.0
                x.same.1.1.1.1.1.0) h.book h.shows;
            told = ap (λ n. n == 1) x.nothing ∙ sym missing;
          }

  module _ (text : List ℕ)
      (runs : (old new : State) (r : Result ℕ Error) → (IsTrue old.is_open → IsTabled old)
      → OnOk r (ExecutesInside 0 text values old new r)
      → IfOk r (ReplacesRow table values old new)) where
    ran : (old new : State) (count : ℕ) → HasTables old
        → Attempts {A = ℕ} {E = Error}
        (λ old new. ExecutesInside 0 text values old new (Ok count)) old new (Ok count)
        → HasCleanDisk new → ReplacesRow table values old new count
    ran old new count has a clean =
        runs old new (Ok count) (has (omega (arith, a.survives.clean, clean))) (a.done clean)

    pub replaces : (old new : State) (count : ℕ) → HasTables old
        → Attempts {A = ℕ} {E = Error}
        (λ old new. ExecutesInside 0 text values old new (Ok count)) old new (Ok count)
        → ReplacesIfSome {E = Error} stands change old new (Ok (count == 1))
    replaces old new count has a = record {
      makes = record {
        done = λ clean. (told_by old new count (ran old new count has a clean)).made;
        kept = a.kept;
        survives = a.survives;
      };
      told = λ clean. (told_by old new count (ran old new count has a clean)).told;
    }

    -- the tables obey their rules then
    pub rules_replaced : (old new : State) (count : ℕ) → HasTables old
        → Attempts {A = ℕ} {E = Error}
        (λ old new. ExecutesInside 0 text values old new (Ok count)) old new (Ok count)
        → HasRules new
    rules_replaced old new count has a = λ clean on.
        (ran old new count has a clean).fits

-- ---- what is put where none was replaced

module _ (stands : TablesContent → Bool) (change : TablesContent → TablesContent) where
  abbrev chosen_of : TablesContent → TablesContent
  chosen_of c = if stands c then change c else c

  chosen_false : (c : TablesContent) → false ≡ stands c → chosen_of c ≡ c
  chosen_false c e = ap (λ b. if b then change c else c) (sym e)

  -- rule: statements-of-tables.tables-content
  pub was_put : (b : Bool) → b ≡ false → (old mid new : State) (r : Result ⊤ Error)
      → ReplacesIfSome {E = Error} stands change old mid (Ok b)
      → Attempts (Makes change) mid new r → Attempts (Makes change) old new r
  was_put b is old mid new r h a = record {
    done = λ clean. made r clean (a.done clean);
    kept = λ clean. kept r clean (a.kept clean);
    survives = survives_then old mid new (λ _. ⊥) (λ _. ⊥) (λ _. ⊥) (λ clean db never. never)
        (λ clean db never. never) h.makes.survives a.survives;
  }
    where
      first : HasCleanDisk new → Makes chosen_of old mid
      first clean = h.makes.done (omega (arith, a.survives.clean, clean))

      made : (r : Result ⊤ Error) → HasCleanDisk new → OnOk r (Makes change mid new)
          → OnOk r (Makes change old new)
      made (Err e) clean m = tt
      made (Ok x) clean m =
          let f = first clean in
          makes_turned change old new
          (m.turns.content ∙ ap change (f.turns.content ∙ chosen_false
          (tables_content old.now.trees)
          (sym is ∙ h.told (omega (arith, a.survives.clean, clean)))))
          (m.turns.catalog ∙ f.turns.catalog) (λ p. m.turns.plain (f.turns.plain p)) m.book
          (record {
            was_open = f.shows.was_open;
            is_open = m.shows.is_open;
            now_is = refl;
            committed_is = m.shows.committed_is ∙ f.shows.committed_is;
            mode = m.shows.mode;
          })

      kept : (r : Result ⊤ Error) → HasCleanDisk new → OnErr r (KeepsCommit mid new)
          → OnErr r (KeepsCommit old new)
      kept (Ok x) clean k = tt
      kept (Err e) clean k =
          let f = first clean in
          record {
            was_open = λ on. f.shows.was_open;
            committed = λ on. k.committed on ∙ f.shows.committed_is;
          }
