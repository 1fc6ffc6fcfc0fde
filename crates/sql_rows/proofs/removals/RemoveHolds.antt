-- What the text of `remove_holds` does.
use Rattle.std.specs.Prelude.{codes, ⊤}
use Rattle.std.proofs.Common.{◌≡◌, ℕ, List, [], ◌∷◌, map, take, Bool}
use Rattle.std.proofs.Common.{◌&&◌, Ok, Err, Result, OnOk, IsTrue, refl, ◌∙◌, arith, nat_eq}
use Rattle.std.specs.List.{list_all}
use Rattle.std.specs.Ordering.{eq_by_cmp}
use Rattle.sqlite_value.specs.declared.value.Value.{Value}
use Rattle.sqlite_value.specs.declared.value.Value.TheVariants.{Text}
use Rattle.sqlite_value.specs.declared.keys.Collation.TheVariants.{Binary}
use Rattle.sqlite_value.specs.Keys.{first_key}
use Rattle.sqlite_value.specs.Order.{Row, row_cmp}
use Rattle.sqlite_trees.specs.Tree.{Trees}
use Rattle.sqlite_sql.specs.declared.ops.BinaryOp.TheVariants.{Compare}
use Rattle.sqlite_sql.specs.declared.ops.CompareOp.TheVariants.{Eq}
use Rattle.sqlite_sql.specs.Term.{Term, col, op2, holds as holds_in}
use Rattle.sqlite_schema.specs.declared.schema.Keys.TheVariants.{Enforced}
use Rattle.sqlite_schema.specs.declared.command.Command.TheVariants.{Delete}
use Rattle.sqlite_rules.specs.Action.{works}
use Rattle.sqlite_tied.specs.Compute.{everything}
use Rattle.sqlite.specs.Values.{bound_value}
use Rattle.sqlite.specs.declared.error.Error.{Error}
use Rattle.sqlite.specs.Listing.{understood}
use Rattle.sqlite.specs.State.{State, ExecutesInside}
use Rattle.sqlite.proofs.Callers.{IsPlain, command_of, statement_of, runs_as}
use Rattle.sql_tables.specs.Keyed.{key_of, same_name}
use Rattle.sql_tables.specs.Schema.{holds, our_schema}
use Rattle.sql_tables.specs.Statements.{Attempts, Ends, HasTables, IsTabled, Removes}
use Rattle.sql_tables.proofs.Books.{others, stays_stored, catalog_stays}
use Rattle.sql_tables.proofs.Found.{end_tells, apart_if}
use Rattle.sql_tables.proofs.Keys.{text_text_number}
use Rattle.sql_tables.proofs.Removes.{RemovesRows, rowids_where, removes_rows, removes_key}
use Rattle.sql_tables.proofs.Ties.{agree_ties_at}
use Rattle.sql_rows.specs.Values.{nat, group_key, hold_key, hold_in}
use Rattle.sql_rows.specs.Content.{with_rows, without_holds, rows_in, tables_content}
use Rattle.sql_rows.specs.Makes.{HasRun, Makes}
use Rattle.sql_rows.proofs.writes.Plains.{plain_without}
use Rattle.sql_rows.proofs.writes.Stays.{only_changed, rows_turn, at_each}
use Rattle.sql_rows.proofs.writes.Writes.{writes, makes_turned}

abbrev pub remove_holds_text : List ℕ
remove_holds_text =
    codes "DELETE FROM holds WHERE account = ?1 AND session = ?2 AND rating_group = ?3"

abbrev of_group : List Term
of_group =
    op2 (Compare Eq Binary) (col 1 1) (col 0 0) ∷ op2 (Compare Eq Binary) (col 1 2) (col 0 1)
    ∷ op2 (Compare Eq Binary) (col 1 3) (col 0 2) ∷ []

abbrev places : List ℕ
places = 1 ∷ 2 ∷ 3 ∷ 4 ∷ []

remove_is : command_of (understood our_schema remove_holds_text) ≡ Delete 6
    (record { lets = []; body = rowids_where 12 of_group })
unfolding understood everything
remove_is = refl

remove_plain : IsPlain (understood our_schema remove_holds_text)
unfolding understood everything
remove_plain = (refl, refl)

gone : (olds : List Row) → works our_schema Enforced 0 12 olds [] ≡ []
gone olds = refl

module _ (a s : List ℕ) (g : ℕ) where
  abbrev wanted : Row
  wanted = group_key a s g

  abbrev test : Row → Bool
  test r = list_all (holds_in (wanted ∷ r ∷ [])) of_group

  means : (r : Row) → test r ≡ eq_by_cmp row_cmp (take 3 (key_of places r)) wanted
  unfolding first_key
  means r = agree_ties_at (1 ∷ 2 ∷ 3 ∷ []) r (0 ∷ 1 ∷ 2 ∷ []) wanted (refl, (refl, (refl, tt)))

  removes : (old new : State) (r : Result ℕ Error) → (IsTrue old.is_open → IsTabled old)
      → OnOk r (ExecutesInside 0 remove_holds_text wanted old new r)
      → OnOk r (Removes holds wanted old new)
  removes old new (Err e) book h = tt
  removes old new (Ok count) has h =
      let book = has h.1.was_open in
      let stored = book.stored.1.1.1.1.1.1.0 in
      let command = Delete 6 (record { lets = []; body = rowids_where 12 of_group }) in
      let w = runs_as remove_holds_text wanted old new our_schema book.schema command remove_is
      remove_plain count h.0 in
      let done = removes_rows our_schema 6 holds refl wanted of_group test gone (λ x. refl) old new
      (statement_of remove_holds_text (understood our_schema remove_holds_text)) count
      book.schema stored w in
      let p : RemovesRows places our_schema holds wanted old.now.trees new.now.trees =
      removes_key places our_schema holds wanted test old.now.trees new.now.trees means
      stored done.1 in
      record {
        changes = record {
          rows = p.rows;
          others = others holds old.now.trees new.now.trees p.stored p.others;
          catalog = catalog_stays holds old.now.trees new.now.trees p.stored p.others (omega arith);
        };
        book = record {
          schema = done.0;
          stored = stays_stored holds old.now.trees new.now.trees p.stored p.others book.stored;
        };
        shows = h.1;
      }

  turns : (old new : Trees) → Ends holds wanted old new
      → tables_content new ≡ with_rows a (without_holds s g) (tables_content old)
  turns old new c =
      only_changed 12 old new c.others
      ∙ rows_turn a (tables_content old) (without_holds s g) (λ r. r.holds)
      (λ r f. record r { holds = f }) (λ r. refl) (λ r. refl) (rows_in new)
      (λ x. at_each (same_name a x) _ _ _ (λ t. at_each (same_name a x) _ _ _ (λ h. at_each
      (same_name a x) _ _ _ (λ m.
      end_tells hold_in holds wanted old new c (hold_key x t h m)
      (same_name a x && (same_name s t && nat_eq g h)) (text_text_number a x s t g h)
      ∙ apart_if (same_name a x) (same_name s t && nat_eq g h) _ _))))

  pub makes_none : (params : Row) → params ≡ wanted
      → (old new : State) (r : Result ⊤ Error) → HasTables old
      → Attempts (HasRun remove_holds_text params) old new r
      → Attempts (Makes (with_rows a (without_holds s g))) old new r
  makes_none = writes remove_holds_text wanted (Removes holds wanted)
      (with_rows a (without_holds s g)) removes
      (λ old new p. makes_turned (with_rows a (without_holds s g)) old new
      (turns old.now.trees new.now.trees p.changes) p.changes.catalog
      (plain_without holds wanted (omega arith) (omega arith) (omega arith) old.now.trees
      new.now.trees p.changes)
      p.book p.shows)

  -- the parameters, as they are bound
  pub bound_group : (v1 v2 v3 : Value) → v1 ≡ Text a → v2 ≡ Text s → v3 ≡ nat g
      → ◌≡◌ {A = Row} (map bound_value (v1 ∷ v2 ∷ v3 ∷ [])) wanted
  bound_group v1 v2 v3 e1 e2 e3 = rw (e1, e2, e3) refl
