-- What the text of `add_charge` does.
use Rattle.std.specs.Prelude.{codes, is_some, if◌then◌else◌, ◌==◌, not, IfOk}
use Rattle.std.proofs.Common.{◌≡◌, ◌⊎◌, inl, inr, ℕ, List, [], ◌∷◌, ◌++◌, Bool, true, false}
use Rattle.std.proofs.Common.{Some, None, Ok, Result, OnOk, IsTrue, refl, sym, ap, subst}
use Rattle.std.proofs.Common.{◌∙◌, arith}
use Rattle.sqlite_value.specs.declared.value.Value.TheVariants.{Null}
use Rattle.sqlite_value.specs.Order.{Row}
use Rattle.sqlite_trees.specs.Objects.{catalog_tree}
use Rattle.sqlite_trees.specs.Tree.{Trees}
use Rattle.sqlite_schema.specs.declared.command.Source.TheVariants.{Values}
use Rattle.sqlite_schema.specs.declared.command.Conflict.TheVariants.{Abort}
use Rattle.sqlite_schema.specs.declared.command.Command.TheVariants.{InsertOr}
use Rattle.sqlite_tied.specs.Compute.{everything}
use Rattle.sqlite.specs.declared.error.Error.{Error}
use Rattle.sqlite.specs.Listing.{understood}
use Rattle.sqlite.specs.State.{State, ExecutesInside, HasCleanDisk}
use Rattle.sqlite.proofs.Callers.{IsPlain, command_of}
use Rattle.ledger.specs.declared.charge.ChargeRow.{ChargeRow}
use Rattle.sql_tables.specs.Keyed.{key_of, look}
use Rattle.sql_tables.specs.Schema.{charges, our_schema, key_index}
use Rattle.sql_tables.specs.Statements.{Attempts, HasTables, IsTabled}
use Rattle.sql_tables.proofs.Found.{is_some_map}
use Rattle.sql_rows.specs.Values.{charge_values, charge_in_row}
use Rattle.sql_rows.specs.Content.{TablesContent, tables_content, has_charge, with_charge_row}
use Rattle.sql_rows.specs.Content.{with_rows}
use Rattle.sql_rows.specs.Makes.{AddsIfNone, Makes}
use Rattle.sql_rows.specs.Plain.{ArePlain}
use Rattle.sql_rows.proofs.writes.Adds.{AddsRow, IsAdded, IsThere, adds_table}
use Rattle.sql_rows.proofs.writes.Plains.{plain_beside}
use Rattle.sql_rows.proofs.puts.PutCharge.{terms, keyed, charge_turns}
use Rattle.sql_rows.proofs.writes.Writes.{makes_turned}

abbrev pub add_charge_text : List ℕ
add_charge_text =
    codes "INSERT INTO charges VALUES (?1, ?2, ?3, ?4, ?5, ?6, ?7, ?8, ?9) "
    ++ codes "ON CONFLICT (account, number) DO NOTHING"

abbrev places : List ℕ
places = 1 ∷ 2 ∷ []

add_is : command_of (understood our_schema add_charge_text)
    ≡ InsertOr 9 Abort (Values terms 10) (record { target = Some places; update = None } ∷ [])
unfolding understood everything
add_is = refl

add_plain : IsPlain (understood our_schema add_charge_text)
unfolding understood everything
add_plain = (refl, refl)

module _ (a : List ℕ) (row : ChargeRow) (none : row.covered.0 ≡ 0) where
  abbrev values : Row
  values = charge_values a row

  adds : (old new : State) (r : Result ℕ Error) → (IsTrue old.is_open → IsTabled old)
      → OnOk r (ExecutesInside 0 add_charge_text values old new r)
      → IfOk r (AddsRow charges values old new)
  adds =
      adds_table 9 charges refl (inr (inr (inr (inr (inr (inr (inr (inr (inr (inl refl))))))))))
      (key_index charges) (inr (inr (inr (inr (inr (inr (inr (inr (inr (inl refl))))))))))
      refl refl refl (λ e. omega arith) refl
      add_charge_text terms 10 add_is add_plain values refl (keyed a row none)

  abbrev stands : TablesContent → Bool
  stands c = has_charge a row.number c

  abbrev change : TablesContent → TablesContent
  change c = if stands c then c else with_rows a (with_charge_row row) c

  -- whether there is a charge of its number
  there : (trees : Trees) → stands (tables_content trees)
      ≡ is_some (look charges trees (key_of places (Null ∷ values)))
  there trees = is_some_map charge_in_row (look charges trees (key_of places (Null ∷ values)))

  -- it is added where there was none
  record IsCharged (old new : State) (count : ℕ) : Type 0 where
    made : Makes change old new
    told : (count == 1) ≡ not (stands (tables_content old.now.trees))

  chosen : (t : Bool) (c : TablesContent) → stands c ≡ t
      → change c ≡ (if t then c else with_rows a (with_charge_row row) c)
  chosen t c e = ap (λ b. if b then c else with_rows a (with_charge_row row) c) e

  charged : (old new : State) (count : ℕ) → AddsRow charges values old new count
      → IsCharged old new count
  charged old new count h = at h.adds
    where
      at : IsAdded charges values old.now.trees new.now.trees count
          ⊎ IsThere charges values old.now.trees new.now.trees count → IsCharged old new count
      at (inl x) =
          let missing : stands (tables_content old.now.trees) ≡ false =
          there old.now.trees ∙ ap is_some x.none in
          record {
            made = makes_turned change old new
                (charge_turns a row none old.now.trees new.now.trees x.changes
                ∙ sym (chosen false (tables_content old.now.trees) missing))
                x.changes.catalog
                (plain_beside charges values (omega arith) (omega arith) (omega arith)
                old.now.trees new.now.trees x.changes) h.book h.shows;
            told = ap (λ n. n == 1) x.one ∙ ap not (sym missing);
          }
      at (inr x) =
          let standing : stands (tables_content old.now.trees) ≡ true =
          there old.now.trees ∙ x.there in
          record {
            made = makes_turned change old new
                (ap tables_content x.same ∙ sym (chosen true (tables_content old.now.trees)
                standing))
                (ap (λ (t : Trees). t catalog_tree) x.same)
                (subst ArePlain (sym x.same)) h.book h.shows;
            told = ap (λ n. n == 1) x.none ∙ ap not (sym standing);
          }

  pub adds_charge : (old new : State) (count : ℕ) → HasTables old
      → Attempts {A = ℕ} {E = Error}
      (λ old new. ExecutesInside 0 add_charge_text values old new (Ok count)) old new (Ok count)
      → AddsIfNone {E = Error} stands (with_rows a (with_charge_row row)) old new (Ok (count == 1))
  adds_charge old new count has ran = record {
    makes = record {
      done = λ clean. (is clean).made;
      kept = ran.kept;
      survives = ran.survives;
    };
    told = λ clean. (is clean).told;
  }
    where
      is : HasCleanDisk new → IsCharged old new count
      is clean =
          charged old new count (adds old new (Ok count)
          (has (omega (arith, ran.survives.clean, clean))) (ran.done clean))
