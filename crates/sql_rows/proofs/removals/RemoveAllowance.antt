-- What the text of `remove_allowance` does.
use Rattle.std.specs.Prelude.{codes, if◌then◌else◌, is_some, ⊤}
use Rattle.std.proofs.Common.{◌≡◌, ℕ, List, [], ◌∷◌, map, take, Bool, true, false, Option, None}
use Rattle.std.proofs.Common.{◌&&◌, Ok, Err, Result, OnOk, IsTrue, refl, ap, ◌∙◌, arith, nat_eq}
use Rattle.std.specs.List.{list_all}
use Rattle.std.specs.Ordering.{eq_by_cmp}
use Rattle.sqlite_value.specs.declared.value.Value.{Value}
use Rattle.sqlite_value.specs.declared.value.Value.TheVariants.{Text}
use Rattle.sqlite_value.specs.declared.keys.Collation.TheVariants.{Binary}
use Rattle.sqlite_value.specs.Keys.{first_key}
use Rattle.sqlite_value.specs.Order.{Row, row_cmp}
use Rattle.sqlite_trees.specs.Tree.{Trees}
use Rattle.sqlite_sql.specs.declared.ops.BinaryOp.TheVariants.{Compare}
use Rattle.sqlite_sql.specs.declared.ops.CompareOp.TheVariants.{Eq}
use Rattle.sqlite_sql.specs.Term.{Term, col, op2, holds as holds_in}
use Rattle.sqlite_schema.specs.declared.schema.Keys.TheVariants.{Enforced}
use Rattle.sqlite_schema.specs.declared.command.Command.TheVariants.{Delete}
use Rattle.sqlite_rules.specs.Action.{works}
use Rattle.sqlite_tied.specs.Compute.{everything}
use Rattle.sqlite.specs.Values.{bound_value}
use Rattle.sqlite.specs.declared.error.Error.{Error}
use Rattle.sqlite.specs.Listing.{understood}
use Rattle.sqlite.specs.State.{State, ExecutesInside}
use Rattle.sqlite.proofs.Callers.{IsPlain, command_of, statement_of, runs_as}
use Rattle.sql_tables.specs.Keyed.{key_of, same_name}
use Rattle.sql_tables.specs.Schema.{allowance_buckets, our_schema}
use Rattle.sql_tables.specs.Statements.{Attempts, Ends, HasTables, IsTabled, Removes}
use Rattle.sql_tables.proofs.Books.{others, stays_stored, catalog_stays}
use Rattle.sql_tables.proofs.Found.{end_tells, apart_if}
use Rattle.sql_tables.proofs.Keys.{text_number}
use Rattle.sql_tables.proofs.Removes.{RemovesRows, rowids_where, removes_rows, removes_key}
use Rattle.sql_tables.proofs.Ties.{agree_ties_at}
use Rattle.sql_rows.specs.Values.{nat, bucket_key, allowance_in}
use Rattle.sql_rows.specs.Content.{with_rows, without_allowance, rows_in, tables_content}
use Rattle.sql_rows.specs.Makes.{HasRun, Makes}
use Rattle.sql_rows.proofs.writes.Plains.{plain_without}
use Rattle.sql_rows.proofs.writes.Stays.{only_changed, rows_turn, at_each}
use Rattle.sql_rows.proofs.writes.Writes.{writes, makes_turned}

abbrev pub remove_allowance_text : List ℕ
remove_allowance_text =
    codes "DELETE FROM allowance_buckets WHERE account = ?1 AND number = ?2"

abbrev of_key : List Term
of_key =
    op2 (Compare Eq Binary) (col 1 1) (col 0 0)
    ∷ op2 (Compare Eq Binary) (col 1 2) (col 0 1) ∷ []

abbrev places : List ℕ
places = 1 ∷ 2 ∷ []

remove_is : command_of (understood our_schema remove_allowance_text) ≡ Delete 12
    (record { lets = []; body = rowids_where 27 of_key })
unfolding understood everything
remove_is = refl

remove_plain : IsPlain (understood our_schema remove_allowance_text)
unfolding understood everything
remove_plain = (refl, refl)

gone : (olds : List Row) → works our_schema Enforced 0 27 olds [] ≡ []
gone olds = refl

none_if : {A : Type 0} (p : Bool) (o : Option A)
    → is_some (if p then None else o) ≡ (if p then false else is_some o)
none_if true o = refl
none_if false o = refl

module _ (a : List ℕ) (n : ℕ) where
  abbrev wanted : Row
  wanted = bucket_key a n

  abbrev test : Row → Bool
  test r = list_all (holds_in (wanted ∷ r ∷ [])) of_key

  means : (r : Row) → test r ≡ eq_by_cmp row_cmp (take 2 (key_of places r)) wanted
  unfolding first_key
  means r = agree_ties_at places r (0 ∷ 1 ∷ []) wanted (refl, (refl, tt))

  removes : (old new : State) (r : Result ℕ Error) → (IsTrue old.is_open → IsTabled old)
      → OnOk r (ExecutesInside 0 remove_allowance_text wanted old new r)
      → OnOk r (Removes allowance_buckets wanted old new)
  removes old new (Err e) book h = tt
  removes old new (Ok count) has h =
      let book = has h.1.was_open in
      let stored = book.stored.1.1.1.1.1.1.1.1.1.1.1.1.0 in
      let command = Delete 12 (record { lets = []; body = rowids_where 27 of_key }) in
      let w = runs_as remove_allowance_text wanted old new our_schema book.schema command remove_is
      remove_plain count h.0 in
      let done = removes_rows our_schema 12 allowance_buckets refl wanted of_key test gone
      (λ x. refl) old new
      (statement_of remove_allowance_text (understood our_schema remove_allowance_text)) count
      book.schema stored w in
      let p : RemovesRows places our_schema allowance_buckets wanted old.now.trees new.now.trees =
      removes_key places our_schema allowance_buckets wanted test old.now.trees new.now.trees means
      stored done.1 in
      record {
        changes = record {
          rows = p.rows;
          others = others allowance_buckets old.now.trees new.now.trees p.stored p.others;
          catalog =
              catalog_stays allowance_buckets old.now.trees new.now.trees p.stored p.others
              (omega arith);
        };
        book = record {
          schema = done.0;
          stored =
              stays_stored allowance_buckets old.now.trees new.now.trees p.stored p.others
              book.stored;
        };
        shows = h.1;
      }

  turns : (old new : Trees) → Ends allowance_buckets wanted old new
      → tables_content new ≡ with_rows a (without_allowance n) (tables_content old)
  turns old new c =
      only_changed 27 old new c.others
      ∙ rows_turn a (tables_content old) (without_allowance n) (λ r. r.allowances)
      (λ r f. record r { allowances = f }) (λ r. refl) (λ r. refl) (rows_in new)
      (λ x. at_each (same_name a x) _ _ _ (λ m.
      ap is_some (end_tells allowance_in allowance_buckets wanted old new c (bucket_key x m)
      (same_name a x && nat_eq n m) (text_number a x n m))
      ∙ none_if (same_name a x && nat_eq n m) _
      ∙ apart_if (same_name a x) (nat_eq n m) _ _))

  -- rule: block-rows
  pub makes_none : (params : Row) → params ≡ wanted
      → (old new : State) (r : Result ⊤ Error) → HasTables old
      → Attempts (HasRun remove_allowance_text params) old new r
      → Attempts (Makes (with_rows a (without_allowance n))) old new r
  makes_none = writes remove_allowance_text wanted (Removes allowance_buckets wanted)
      (with_rows a (without_allowance n)) removes
      (λ old new p. makes_turned (with_rows a (without_allowance n)) old new
      (turns old.now.trees new.now.trees p.changes) p.changes.catalog
      (plain_without allowance_buckets wanted (omega arith) (omega arith) (omega arith)
      old.now.trees new.now.trees p.changes)
      p.book p.shows)

  -- the parameters, as they are bound
  pub bound_key : (v1 v2 : Value) → v1 ≡ Text a → v2 ≡ nat n
      → ◌≡◌ {A = Row} (map bound_value (v1 ∷ v2 ∷ [])) wanted
  bound_key v1 v2 e1 e2 = rw (e1, e2) refl
