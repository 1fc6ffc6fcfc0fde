-- What the text of `put_meta` does.
use Rattle.std.specs.Prelude.{codes, is_some, length, if◌then◌else◌, ⊤}
use Rattle.std.proofs.Common.{◌≡◌, inl, ℕ, ℤ, ◌+◌, List, [], ◌∷◌, ◌++◌, map}
use Rattle.std.proofs.Common.{true, Some, Result, OnOk, IsTrue, refl, sym, ap, ◌∙◌, arith}
use Rattle.std.specs.Ordering.{eq_by_cmp}
use Rattle.sqlite_value.specs.declared.value.Value.{Value}
use Rattle.sqlite_value.specs.declared.value.Value.TheVariants.{Null, Int, Text}
use Rattle.sqlite_value.specs.Order.{Row, row_cmp}
use Rattle.sqlite_value.specs.Keys.{plain}
use Rattle.sqlite_trees.specs.Tree.{Trees}
use Rattle.sqlite_sql.specs.Term.{Term, lit, col}
use Rattle.sqlite_schema.specs.declared.command.Source.TheVariants.{Values}
use Rattle.sqlite_schema.specs.declared.command.Conflict.TheVariants.{Abort}
use Rattle.sqlite_schema.specs.declared.command.Command.TheVariants.{InsertOr}
use Rattle.sqlite_schema.specs.Rules.{agree}
use Rattle.sqlite_rules.specs.Cast.{cast_row}
use Rattle.sqlite_rules.specs.Keys.{conflicts}
use Rattle.sqlite_tied.specs.Compute.{everything}
use Rattle.sqlite.specs.Values.{bound_value}
use Rattle.sqlite.specs.declared.error.Error.{Error}
use Rattle.sqlite.specs.Listing.{understood}
use Rattle.sqlite.specs.State.{State, ExecutesInside}
use Rattle.sqlite.proofs.Callers.{IsPlain, command_of}
use Rattle.sql_tables.specs.Keyed.{key_of, look}
use Rattle.sql_tables.specs.Schema.{meta, our_schema, key_index}
use Rattle.sql_tables.specs.Statements.{Attempts, Changes, HasTables, HasRules, IsTabled, Puts}
use Rattle.sql_tables.proofs.Casts.{cast_int, cast_null}
use Rattle.sql_tables.proofs.Found.{put_tells, is_some_map}
use Rattle.sql_tables.proofs.Keys.{number_last}
use Rattle.sql_tables.proofs.Steps.{or_false}
use Rattle.sql_tables.proofs.Tabled.{puts_table}
use Rattle.sql_tables.proofs.Ties.{agree_ties}
use Rattle.sql_tables.proofs.Upserts.{pick}
use Rattle.sql_rows.specs.Values.{nat, Meta, meta_values, meta_key, meta_in}
use Rattle.sql_rows.specs.Content.{with_meta, tables_content}
use Rattle.sql_rows.specs.Makes.{HasRun, Makes}
use Rattle.sql_rows.proofs.writes.Plains.{plain_beside}
use Rattle.sql_rows.proofs.writes.Stays.{only_changed}
use Rattle.sql_rows.proofs.writes.Writes.{writes, makes_turned, rules_after}

abbrev pub put_meta_text : List ℕ
put_meta_text =
    codes "INSERT INTO meta VALUES (?1, ?2, ?3, ?4) "
    ++ codes "ON CONFLICT (id) DO UPDATE SET "
    ++ codes "id = excluded.id, version = excluded.version, book = excluded.book, "
    ++ codes "last_moment = excluded.last_moment"

abbrev terms : List Term
terms = lit Null ∷ col 0 0 ∷ col 0 1 ∷ col 0 2 ∷ col 0 3 ∷ []

abbrev project : List Term
project = col 1 0 ∷ col 1 0 ∷ col 0 6 ∷ col 0 7 ∷ col 0 8 ∷ col 0 9 ∷ []

abbrev places : List ℕ
places = 1 ∷ []

put_is : command_of (understood our_schema put_meta_text)
    ≡ InsertOr 0 Abort (Values terms 5)
    (record {
      target = Some places;
      update = Some (record { lets = []; body = pick 0 4 project });
    } ∷ [])
unfolding understood everything
put_is = refl

put_plain : IsPlain (understood our_schema put_meta_text)
unfolding understood everything
put_plain = (refl, refl)

module _ (m : Meta) where
  abbrev values : Row
  values = meta_values m

  pub again : (id : ℤ) → cast_row meta (Int id ∷ values) ≡ Int id ∷ values
  again id = simp (cast_int)

  unset : cast_row meta (Null ∷ values) ≡ Null ∷ values
  unset = simp (cast_int, cast_null)

  pub meets : (id : ℤ) (other : Row) →
      conflicts (Some places) our_schema.indexes meta (Int id ∷ values) other
      ≡ eq_by_cmp row_cmp (key_of places other) (key_of places (Int id ∷ values))
  meets id other = or_false (agree plain places other places (Int id ∷ values))
      ∙ agree_ties places other (Int id ∷ values) (refl, tt)

  puts : (old new : State) (r : Result ℕ Error) → (IsTrue old.is_open → IsTabled old)
      → OnOk r (ExecutesInside 0 put_meta_text values old new r) → OnOk r (Puts meta values old new)
  puts =
      puts_table 0 meta refl (inl refl) (key_index meta) (inl refl)
      refl refl refl (λ e. omega arith) refl
      put_meta_text terms project 5 4 put_is put_plain values (λ olds new. refl) again unset
      (λ id met r. refl) (λ id met. refl) refl (λ v. refl) (λ id. (refl, tt)) meets

  abbrev grown : Trees → ℕ
  grown old = if is_some (look meta old meta_key) then length (old 0) else length (old 0) + 1

  pub turns : (old new : Trees) → Changes meta values old new → length (new 0) ≡ grown old
      → tables_content new ≡ with_meta m (tables_content old)
  turns old new c more = only_changed 0 old new c.others ∙ (λ i. record (tables_content old) {
    meta = put_tells meta_in meta values old new c m refl meta_key true (number_last 1 1) i;
    kept = (more ∙ ap (λ b. if b then length (old 0) else length (old 0) + 1)
        (sym (is_some_map meta_in (look meta old meta_key)))) i;
  })

  pub makes_meta : (params : Row) → params ≡ values
      → (old new : State) (r : Result ⊤ Error) → HasTables old
      → Attempts (HasRun put_meta_text params) old new r
      → Attempts (Makes (with_meta m)) old new r
  makes_meta = writes put_meta_text values (Puts meta values) (with_meta m) puts
      (λ old new p. makes_turned (with_meta m) old new
      (turns old.now.trees new.now.trees p.changes p.counts) p.changes.catalog
      (plain_beside meta values (omega arith) (omega arith) (omega arith) old.now.trees
      new.now.trees p.changes)
      p.book p.shows)

  pub rules_meta : (params : Row) → params ≡ values
      → (old new : State) (r : Result ⊤ Error) → HasTables old
      → Attempts (HasRun put_meta_text params) old new r
      → OnOk r (HasRules new)
  rules_meta =
      rules_after put_meta_text values (Puts meta values) put_is put_plain puts
      (λ old new p. p.book)

  -- the parameters, as they are bound
  pub bound_meta : (v1 v2 v3 v4 : Value)
      → v1 ≡ nat 1
      → v2 ≡ nat m.version
      → v3 ≡ Text m.book
      → v4 ≡ nat m.last
      → ◌≡◌ {A = Row} (map bound_value (v1 ∷ v2 ∷ v3 ∷ v4 ∷ [])) values
  bound_meta v1 v2 v3 v4 e1 e2 e3 e4 = rw (e1, e2, e3, e4) refl
