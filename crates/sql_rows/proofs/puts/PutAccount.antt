-- What the text of `put_account` does.
use Rattle.std.specs.Prelude.{codes, is_some, length, if◌then◌else◌, ⊤}
use Rattle.std.proofs.Common.{◌≡◌, inl, inr, ℕ, ℤ, ◌+◌, List, [], ◌∷◌, ◌++◌, map, Bool, true, false}
use Rattle.std.proofs.Common.{Some, Result, OnOk, IsTrue, refl, sym, ap, ◌∙◌, arith}
use Rattle.std.specs.Ordering.{eq_by_cmp}
use Rattle.sqlite_value.specs.declared.value.Value.{Value}
use Rattle.sqlite_value.specs.declared.value.Value.TheVariants.{Null, Int, Text}
use Rattle.sqlite_value.specs.Order.{Row, row_cmp}
use Rattle.sqlite_value.specs.Keys.{plain}
use Rattle.sqlite_trees.specs.Tree.{Trees}
use Rattle.sqlite_sql.specs.Term.{Term, lit, col}
use Rattle.sqlite_schema.specs.declared.command.Source.TheVariants.{Values}
use Rattle.sqlite_schema.specs.declared.command.Conflict.TheVariants.{Abort}
use Rattle.sqlite_schema.specs.declared.command.Command.TheVariants.{InsertOr}
use Rattle.sqlite_schema.specs.Rules.{agree}
use Rattle.sqlite_rules.specs.Cast.{cast_row}
use Rattle.sqlite_rules.specs.Keys.{conflicts}
use Rattle.sqlite_tied.specs.Compute.{everything}
use Rattle.sqlite.specs.Values.{bound_value}
use Rattle.sqlite.specs.declared.error.Error.{Error}
use Rattle.sqlite.specs.Listing.{understood}
use Rattle.sqlite.specs.State.{State, ExecutesInside}
use Rattle.sqlite.proofs.Callers.{IsPlain, command_of}
use Rattle.sql_tables.specs.Keyed.{key_of, look, same_name}
use Rattle.sql_tables.specs.Schema.{accounts, our_schema, key_index}
use Rattle.sql_tables.specs.Statements.{Attempts, Changes, HasTables, HasRules, IsTabled, Puts}
use Rattle.sql_tables.proofs.Casts.{cast_int, cast_null}
use Rattle.sql_tables.proofs.Found.{put_tells, is_some_map}
use Rattle.sql_tables.proofs.Keys.{text_last}
use Rattle.sql_tables.proofs.Steps.{or_false}
use Rattle.sql_tables.proofs.Tabled.{puts_table}
use Rattle.sql_tables.proofs.Ties.{agree_ties}
use Rattle.sql_tables.proofs.Upserts.{pick}
use Rattle.sql_rows.specs.declared.head.HeadColumns.{HeadColumns}
use Rattle.sql_rows.specs.Values.{nat, head_cells, head_values, head_key, head_in, flag_number}
use Rattle.sql_rows.specs.Content.{with_account, with_head, rows_in, tables_content}
use Rattle.sql_rows.specs.Makes.{HasRun, Makes}
use Rattle.sql_rows.proofs.writes.Keyed.{IsKeyed}
use Rattle.sql_rows.proofs.writes.Plains.{plain_account}
use Rattle.sql_rows.proofs.writes.Stays.{only_changed, rows_turn}
use Rattle.sql_rows.proofs.writes.Writes.{writes, makes_turned, rules_after}

abbrev pub put_account_text : List ℕ
put_account_text =
    codes "INSERT INTO accounts VALUES (?1, ?2, ?3, ?4, ?5) "
    ++ codes "ON CONFLICT (account) DO UPDATE SET "
    ++ codes "account = excluded.account, barred = excluded.barred, as_of = excluded.as_of, "
    ++ codes "next_bucket = excluded.next_bucket, next_charge = excluded.next_charge"

-- a row of five columns behind its number, put by the first of them
abbrev pub terms : List Term
terms = lit Null ∷ col 0 0 ∷ col 0 1 ∷ col 0 2 ∷ col 0 3 ∷ col 0 4 ∷ []

abbrev pub project : List Term
project = col 1 0 ∷ col 1 0 ∷ col 0 7 ∷ col 0 8 ∷ col 0 9 ∷ col 0 10 ∷ col 0 11 ∷ []

abbrev pub places : List ℕ
places = 1 ∷ []

put_is : command_of (understood our_schema put_account_text)
    ≡ InsertOr 1 Abort (Values terms 6)
    (record {
      target = Some places;
      update = Some (record { lets = []; body = pick 2 5 project });
    } ∷ [])
unfolding understood everything
put_is = refl

put_plain : IsPlain (understood our_schema put_account_text)
unfolding understood everything
put_plain = (refl, refl)

pub head_told : (v : Value) (h : HeadColumns) → head_in (v ∷ head_cells h) ≡ h
head_told v h = go h.barred refl
  where
    go : (b : Bool) → h.barred ≡ b → head_in (v ∷ head_cells h) ≡ h
    go true e = rw e refl
    go false e = rw e refl

module _ (a : List ℕ) (h : HeadColumns) where
  abbrev pub values : Row
  values = head_values a h

  again : (id : ℤ) → cast_row accounts (Int id ∷ values) ≡ Int id ∷ values
  again id = simp (cast_int)

  unset : cast_row accounts (Null ∷ values) ≡ Null ∷ values
  unset = simp (cast_int, cast_null)

  meets : (id : ℤ) (other : Row) →
      conflicts (Some places) our_schema.indexes accounts (Int id ∷ values) other
      ≡ eq_by_cmp row_cmp (key_of places other) (key_of places (Int id ∷ values))
  meets id other = or_false (agree plain places other places (Int id ∷ values))
      ∙ agree_ties places other (Int id ∷ values) (refl, tt)

  pub keyed : IsKeyed accounts values
  keyed = record {
    again = again;
    unset = unset;
    keys = λ v. refl;
    full = λ id. (refl, tt);
    ties = meets;
  }

  puts : (old new : State) (r : Result ℕ Error) → (IsTrue old.is_open → IsTabled old)
      → OnOk r (ExecutesInside 0 put_account_text values old new r)
      → OnOk r (Puts accounts values old new)
  puts =
      puts_table 1 accounts refl (inr (inl refl)) (key_index accounts) (inr (inl refl))
      refl refl refl (λ e. omega arith) refl
      put_account_text terms project 6 5 put_is put_plain values (λ olds new. refl)
      keyed.again keyed.unset
      (λ id met r. refl) (λ id met. refl) refl keyed.keys keyed.full keyed.ties

  abbrev pub grown : Trees → ℕ
  grown old = if is_some (look accounts old (head_key a)) then length (old 2)
      else length (old 2) + 1

  pub turns : (old new : Trees) → Changes accounts values old new → length (new 2) ≡ grown old
      → tables_content new ≡ with_account a h (tables_content old)
  turns old new c more =
      only_changed 2 old new c.others
      ∙ (λ i. record (rows_turn a (tables_content old) (with_head h) (λ r. r.head)
      (λ r f. record r {
        head = f;
      }) (λ r. refl) (λ r. refl) (rows_in new)
      (λ x. put_tells head_in accounts values old new c h (head_told (Text a) h) (head_key x)
      (same_name a x) (text_last a x)) i) {
        count = (more ∙ ap (λ b. if b then length (old 2) else length (old 2) + 1)
            (sym (is_some_map head_in (look accounts old (head_key a))))) i;
      })

  pub makes_account : (old new : State) (r : Result ⊤ Error) → HasTables old
      → Attempts (HasRun put_account_text values) old new r
      → Attempts (Makes (with_account a h)) old new r
  makes_account = writes put_account_text values (Puts accounts values) (with_account a h) puts
      (λ old new p. makes_turned (with_account a h) old new
      (turns old.now.trees new.now.trees p.changes p.counts) p.changes.catalog
      (plain_account a h old.now.trees new.now.trees p.changes)
      p.book p.shows) values refl

  pub rules_account : (old new : State) (r : Result ⊤ Error) → HasTables old
      → Attempts (HasRun put_account_text values) old new r
      → OnOk r (HasRules new)
  rules_account =
      rules_after put_account_text values (Puts accounts values) put_is put_plain puts
      (λ old new p. p.book) values refl

  -- the parameters, as they are bound
  pub bound_account : (v1 v2 v3 v4 v5 : Value)
      → v1 ≡ Text a
      → v2 ≡ nat (flag_number h.barred)
      → v3 ≡ nat h.as_of
      → v4 ≡ nat h.next_bucket
      → v5 ≡ nat h.next_charge
      → ◌≡◌ {A = Row} (map bound_value (v1 ∷ v2 ∷ v3 ∷ v4 ∷ v5 ∷ [])) values
  bound_account v1 v2 v3 v4 v5 e1 e2 e3 e4 e5 = rw (e1, e2, e3, e4, e5) refl
