-- What the text of `put_last_moment` does.
use Rattle.std.specs.Prelude.{codes, if◌then◌else◌, is_some, length, option_map, ◌+◌, ⊤}
use Rattle.std.proofs.Common.{◌≡◌, inl, inr, ℕ, List, [], ◌∷◌, map, drop, Bool, true, Some, None}
use Rattle.std.proofs.Common.{Option, Equal, Ok, Err, Result, OnOk, IsTrue, refl, sym, ap, ap₂}
use Rattle.std.proofs.Common.{subst, ◌∙◌, arith, pos}
use Rattle.std.specs.Cmp.{unsigned_Decides}
use Rattle.std.specs.List.{list_all}
use Rattle.std.specs.Ordering.{eq_by_cmp}
use Rattle.sqlite_value.specs.declared.value.Value.{Value}
use Rattle.sqlite_value.specs.declared.value.Value.TheVariants.{Int}
use Rattle.sqlite_value.specs.declared.keys.Collation.TheVariants.{Binary}
use Rattle.sqlite_value.specs.Keys.{first_key}
use Rattle.sqlite_value.specs.Order.{Row, column, row_cmp, value_cmp}
use Rattle.sqlite_trees.specs.Tree.{Trees, rowid}
use Rattle.sqlite_trees.specs.Objects.{catalog_tree}
use Rattle.sqlite_sql.specs.declared.ops.BinaryOp.TheVariants.{Compare}
use Rattle.sqlite_sql.specs.declared.ops.CompareOp.TheVariants.{Eq}
use Rattle.sqlite_sql.specs.Term.{Term, lit, col, op2, holds as holds_in}
use Rattle.sqlite_schema.specs.Rules.{Fits, equal}
use Rattle.sqlite_schema.specs.declared.command.Command.TheVariants.{Update}
use Rattle.sqlite_rules.specs.Cast.{cast_row}
use Rattle.sqlite_rules.specs.Edit.{id_in, next_rowid}
use Rattle.sqlite_rules.specs.Lists.{Has}
use Rattle.sqlite_rules.proofs.ListLemmas.{all_has}
use Rattle.sqlite_rules.proofs.TableLemmas.{int_is}
use Rattle.sqlite_tied.specs.Compute.{everything}
use Rattle.sqlite.specs.Values.{bound_value}
use Rattle.sqlite.specs.declared.error.Error.{Error}
use Rattle.sqlite.specs.Listing.{understood}
use Rattle.sqlite.specs.State.{State, ExecutesInside, HasCleanDisk}
use Rattle.sqlite.proofs.Callers.{IsPlain, command_of, statement_of, runs_as}
use Rattle.sql_tables.specs.Keyed.{key_of, look, IsStored}
use Rattle.sql_tables.specs.Schema.{meta, our_schema, key_index}
use Rattle.sql_tables.specs.Statements.{Attempts, Changes, HasTables, HasRules, IsTabled, AreStored}
use Rattle.sql_tables.proofs.Books.{others, stays_stored, catalog_stays}
use Rattle.sql_tables.proofs.Counted.{counted}
use Rattle.sql_tables.proofs.Keeps.{done_as}
use Rattle.sql_tables.proofs.Keys.{keys_back, number_last}
use Rattle.sql_tables.proofs.Selected.{select_from}
use Rattle.sql_tables.proofs.Selections.{full_key, stands_under, under_stands}
use Rattle.sql_tables.proofs.Steps.{and_true}
use Rattle.sql_tables.proofs.Swaps.{PutsRow, puts_key}
use Rattle.sql_tables.proofs.Ties.{equal_present, tie_parts}
use Rattle.sql_tables.proofs.Upserts.{Moved, Upserted}
use Rattle.sql_rows.specs.Values.{nat, nat_in, Meta, meta_values, meta_cells, meta_key, meta_in}
use Rattle.sql_rows.specs.Content.{TablesContent, tables_content, with_last_moment, with_meta}
use Rattle.sql_rows.specs.Makes.{HasRun, Makes}
use Rattle.sql_rows.specs.Plain.{ArePlain}
use Rattle.sql_rows.proofs.rules.MetaRules.{fitting, number_there}
use Rattle.sql_rows.proofs.writes.Plains.{plain_beside, plain_stays}
use Rattle.sql_rows.proofs.puts.PutMeta.{again, meets, turns}
use Rattle.sql_rows.proofs.selections.ReadMeta.{columns}
use Rattle.sql_rows.proofs.writes.Stays.{meta_kept, only_changed}
use Rattle.sql_rows.proofs.writes.Updates.{NoneUpdated, OneUpdated, Updated, updates_row}
use Rattle.sql_rows.proofs.writes.Writes.{makes_turned}

abbrev pub put_last_moment_text : List ℕ
put_last_moment_text = codes "UPDATE meta SET last_moment = ?1 WHERE id = 1"

abbrev terms : List Term
terms = op2 (Compare Eq Binary) (col 1 1) (lit (Int (pos 1))) ∷ []

abbrev project : List Term
project = col 1 0 ∷ col 1 0 ∷ col 1 1 ∷ col 1 2 ∷ col 1 3 ∷ col 0 0 ∷ []

abbrev places : List ℕ
places = 1 ∷ []

set_is : command_of (understood our_schema put_last_moment_text)
    ≡ Update 0 (record { lets = []; body = select_from 0 terms project [] })
unfolding understood everything
set_is = refl

set_plain : IsPlain (understood our_schema put_last_moment_text)
unfolding understood everything
set_plain = (refl, refl)

-- the row has the key
abbrev test : Row → Bool
test r = eq_by_cmp row_cmp (key_of places r) meta_key

-- a stored row that has the key, column by column
pub record IsMetaRow (r : Row) : Type 0 where
  pub id : rowid r ≡ Int (id_in (rowid r))
  pub key : column r 1 ≡ nat 1
  pub cells : columns r ≡ meta_cells (meta_in (drop 1 r))

of_key : (n : ℕ) (v : Value) → v ≡ nat n → eq_by_cmp row_cmp (v ∷ []) meta_key ≡ true → v ≡ nat 1
of_key n v is same =
    is ∙ ap nat (sym ((unsigned_Decides 1 n).0
    (sym (number_last 1 n) ∙ ap (λ w. eq_by_cmp row_cmp (w ∷ []) meta_key) (sym is) ∙ same)))

meta_row : (db : Trees) → Fits our_schema db → IsStored (db 0) → (r : Row) → Has (db 0) r
    → test r ≡ true → IsMetaRow r
meta_row db fits stored r has same = record {
  id = int_is (rowid r) (all_has _ (db 0) r stored.1 has);
  key = of_key (nat_in (column r 1)) (column r 1) (number_there db fits r has) same;
  cells = fitting db fits r has;
}

module _ (t : ℕ) where
  abbrev params : Row
  params = nat t ∷ []

  -- what is kept once, with the moment
  abbrev later : Row → Meta
  later r = record (meta_in (drop 1 r)) { last = t }

  abbrev made : Row → Row
  made r = rowid r ∷ column r 1 ∷ column r 2 ∷ column r 3 ∷ nat t ∷ []

  abbrev values : Row → Row
  values r = meta_values (later r)

  means : (r : Row) → list_all (holds_in (params ∷ r ∷ [])) terms ≡ test r
  unfolding first_key
  means r = and_true (equal Binary (column r 1) (nat 1))
      ∙ equal_present (column r 1) (nat 1) refl
      ∙ sym (and_true _)
      ∙ tie_parts (value_cmp (column r 1) (nat 1)) Equal

  cast_made : (r : Row) → IsMetaRow r → cast_row meta (made r) ≡ Int (id_in (rowid r)) ∷ values r
  cast_made r it =
      ap (cast_row meta) (ap₂ ◌∷◌ it.id (ap₂ ◌∷◌ it.key
      (ap₂ ◌∷◌ (cell 0) (ap (λ v. v ∷ nat t ∷ []) (cell 1)))))
      ∙ again (later r) (id_in (rowid r))
    where
      cell : (at : ℕ) → column (columns r) at ≡ column (meta_cells (meta_in (drop 1 r))) at
      cell at = ap (λ (x : Row). column x at) it.cells

  -- ---- the content

  as_later : (c : TablesContent) (m : Meta) → c.meta ≡ Some m
      → with_meta (record m { last = t }) c ≡ with_last_moment t c
  as_later c m is = λ i. record c {
    meta = option_map (λ (x : Meta). record x { last = t }) (sym is i);
    kept = if is_some (is i) then c.kept else c.kept + 1;
  }

  pub record Sets (old new : Trees) : Type 0 where
    pub content : tables_content new ≡ with_last_moment t (tables_content old)
    pub catalog : new catalog_tree ≡ old catalog_tree
    pub stored : AreStored old → AreStored new
    pub plain : ArePlain old → ArePlain new
    pub fits : Fits our_schema new

  module _ (old new : Trees) (fits : Fits our_schema old) (stored : IsStored (old 0)) where
    -- a row is under the key
    found : (r : Row) → Has (old 0) r → test r ≡ true
        → (tables_content old).meta ≡ Some (meta_in (drop 1 r))
    found r has same =
        ap (option_map meta_in)
        (stands_under our_schema meta (inl refl) (key_index meta) (inl refl) refl refl refl old
        fits stored meta_key (λ x e. full_key places meta_key x (refl, tt) e) r has
        (keys_back (key_of places r) meta_key same))

    missing : ((r : Row) → Has (old 0) r → test r ≡ true → ⊥) → (tables_content old).meta ≡ None
    missing none = go (look meta old meta_key) refl
      where
        go : (o : Option Row) → look meta old meta_key ≡ o → (tables_content old).meta ≡ None
        go None e = ap (option_map meta_in) e
        go (Some v) e =
            let it = under_stands our_schema meta (inl refl) (key_index meta) (inl refl) refl refl
            refl old fits stored meta_key v e in
            absurd (none it.0 it.1 (keys_back meta_key (key_of places it.0) it.2))

    none_set : NoneUpdated meta test old new → Sets old new
    none_set n =
        let stands = subst IsStored (sym n.rows) stored in
        let same = others meta old new stands n.others in
        let none = missing n.none in
        record {
          content = only_changed 0 old new same ∙ (λ i. record (tables_content old) {
            meta = (meta_kept old new n.rows ∙ none
                ∙ ap (option_map (λ (x : Meta). record x { last = t })) (sym none)) i;
            kept = length (n.rows i);
          });
          catalog = catalog_stays meta old new stands n.others (omega arith);
          stored = stays_stored meta old new stands n.others;
          plain = plain_stays old new (same.1.0 (omega arith)) (same.1.1.1.1.0 (omega arith))
              (same.1.1.1.1.1.0 (omega arith));
          fits = n.fits;
        }

    moved : (one : OneUpdated meta test values old new)
        → Moved our_schema meta places (values one.there) old new
    moved one = record {
      there = one.there;
      has = one.has;
      meets = meets (later one.there) (next_rowid (old 0)) one.there ∙ one.passes;
      put = one.put;
    }

    one_set : OneUpdated meta test values old new → Sets old new
    one_set one =
        let m = later one.there in
        let upserted : Upserted our_schema meta places (values one.there) old new =
        inr (moved one) in
        let p : PutsRow places our_schema meta (values one.there) old new =
        puts_key places our_schema meta (inl refl) (key_index meta) (inl refl) refl refl refl
        (values one.there) old new stored (λ v. refl) (λ id. (refl, tt)) (meets m) upserted in
        let changes : Changes meta (values one.there) old new = record {
          rows = p.rows;
          others = others meta old new p.stored p.others;
          catalog = catalog_stays meta old new p.stored p.others (omega arith);
        } in
        let counts = counted places our_schema meta (values one.there) old new stored (λ v. refl)
        (meets m) upserted in
        record {
          content = turns m old new changes counts
              ∙ as_later (tables_content old) (meta_in (drop 1 one.there))
              (found one.there one.has one.passes);
          catalog = changes.catalog;
          stored = stays_stored meta old new p.stored p.others;
          plain = plain_beside meta (values one.there) (omega arith) (omega arith) (omega arith) old
              new changes;
          fits = one.put.fits;
        }

    sets : Updated meta test values old new → Sets old new
    sets (inl none) = none_set none
    sets (inr one) = one_set one

  -- ---- the statement

  pub record Runs (old new : State) : Type 0 where
    pub makes : Makes (with_last_moment t) old new
    pub fits : Fits our_schema new.now.trees

  runs : (old new : State) (r : Result ℕ Error) → (IsTrue old.is_open → IsTabled old)
      → (IsTrue old.is_open → Fits our_schema old.now.trees)
      → OnOk r (ExecutesInside 0 put_last_moment_text params old new r) → OnOk r (Runs old new)
  runs old new (Err e) has rules h = tt
  runs old new (Ok count) has rules h =
      let book = has h.1.was_open in
      let fits = rules h.1.was_open in
      let stored = book.stored.0 in
      let w = runs_as put_last_moment_text params old new our_schema book.schema
      (Update 0 (record { lets = []; body = select_from 0 terms project [] })) set_is set_plain
      count h.0 in
      let done = updates_row meta (inl refl) (inl refl) refl terms project params test made values
      means (λ x. refl) meta_key (refl, tt) (λ x. refl) refl (λ olds x. refl) 0 refl old new
      (statement_of put_last_moment_text (understood our_schema put_last_moment_text)) count
      book.schema fits stored
      (λ x in' same. cast_made x (meta_row old.now.trees fits stored x in' same)) w in
      let s = sets old.now.trees new.now.trees fits stored done.1 in
      record {
        makes = makes_turned (with_last_moment t) old new s.content s.catalog s.plain
            (record { schema = done.0; stored = s.stored book.stored }) h.1;
        fits = s.fits;
      }

  pub makes_last_moment : (ps : Row) → ps ≡ params
      → (old new : State) (r : Result ⊤ Error) → HasTables old → HasRules old
      → Attempts (HasRun put_last_moment_text ps) old new r
      → Attempts (Makes (with_last_moment t)) old new r
  makes_last_moment ps same old new r has rules =
      done_as _ (Makes (with_last_moment t)) old new r
      (λ clean. made_of r (has clean) (rules clean))
    where
      made_of : (r : Result ⊤ Error) → (IsTrue old.is_open → IsTabled old)
          → (IsTrue old.is_open → Fits our_schema old.now.trees)
          → OnOk r (HasRun put_last_moment_text ps old new)
          → OnOk r (Makes (with_last_moment t) old new)
      made_of (Ok x) book fits h = (runs old new (Ok h.count) book fits
          (subst (λ p. ExecutesInside 0 put_last_moment_text p old new (Ok h.count)) same
          h.ran)).makes
      made_of (Err e) book fits h = tt

  pub rules_last_moment : (ps : Row) → ps ≡ params
      → (old new : State) (r : Result ⊤ Error) → HasTables old → HasRules old
      → Attempts (HasRun put_last_moment_text ps) old new r
      → OnOk r (HasRules new)
  rules_last_moment ps same old new (Ok x) has rules a = λ clean on.
      let before : HasCleanDisk old = omega (arith, a.survives.clean, clean) in
      let done : HasRun put_last_moment_text ps old new = a.done clean in
      (runs old new (Ok done.count) (has before) (rules before)
      (subst (λ p. ExecutesInside 0 put_last_moment_text p old new (Ok done.count)) same
      done.ran)).fits
  rules_last_moment ps same old new (Err e) has rules a = tt

  -- the parameter, as it is bound
  pub bound_last_moment : (v : Value) → v ≡ nat t
      → ◌≡◌ {A = Row} (map bound_value (v ∷ [])) params
  bound_last_moment v e = rw e refl
