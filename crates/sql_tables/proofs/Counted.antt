-- How many rows a table has after an upsert.
use Rattle.std.proofs.Common.{◌≡◌, inl, inr, ℕ, ℤ, suc, ◌+◌, List, [], ◌∷◌}
use Rattle.std.proofs.Common.{length, Bool, true, false, not, Ordering, Less, Equal, Greater}
use Rattle.std.proofs.Common.{Some, None, Option, is_eq, is_some, refl, sym, ap, ◌∙◌, add-one}
use Rattle.std.specs.Prelude.{if◌then◌else◌}
use Rattle.std.proofs.lemmas.Bool.{cases_Bool, or_parts}
use Rattle.std.proofs.lemmas.Cmp.{tied_back}
use Rattle.std.specs.FinMap.{get, get-from_entries}
use Rattle.std.specs.FinMap.Entries.{find as look_in}
use Rattle.std.specs.List.{AllByRecursion}
use Rattle.std.specs.Ordering.{eq_by_cmp}
use Rattle.sqlite_value.specs.declared.value.Value.{Value}
use Rattle.sqlite_value.specs.declared.value.Value.TheVariants.{Null, Int}
use Rattle.sqlite_value.specs.Order.{Row, row_cmp, value_cmp}
use Rattle.sqlite_value.proofs.OrderLemmas.{value_cmp_total, row_cmp_total}
use Rattle.sqlite_trees.specs.Tree.{Trees, rowid, put_row, has_rowid, without_rowid, IsAscending}
use Rattle.sqlite_trees.proofs.ListLemmas.{filter_all}
use Rattle.sqlite_schema.specs.declared.schema.Table.{Table}
use Rattle.sqlite_schema.specs.declared.schema.Schema.{Schema}
use Rattle.sqlite_rules.specs.Lists.{Has}
use Rattle.sqlite_rules.specs.Keys.{conflicts}
use Rattle.sqlite_rules.specs.Edit.{id_in, next_rowid, is_taken}
use Rattle.sqlite_rules.proofs.ListLemmas.{all_has, all_from}
use Rattle.sqlite_rules.proofs.TableLemmas.{int_is}
use Rattle.sql_tables.specs.Keyed.{key_of, entries_of, table_of, IsStored}
use Rattle.sql_tables.proofs.Upserts.{Upserted}
use Rattle.sql_tables.proofs.Ties.{equal_is}
use Rattle.sql_tables.proofs.Selections.{meets, met_some, met_has}

length_put : (new : Row) (rows : List Row) → is_taken rows new ≡ false →
    length (put_row new rows) ≡ suc (length rows)
length_put new [] free = refl
length_put new (r ∷ rows) free =
    go (value_cmp (rowid r) (rowid new)) refl (length_put new rows (or_parts _ _ free).1)
  where
    go : (o : Ordering) → value_cmp (rowid r) (rowid new) ≡ o →
        length (put_row new rows) ≡ suc (length rows) →
        length (put_row new (r ∷ rows)) ≡ suc (suc (length rows))
    go Less e later = rw e (ap suc later)
    go Equal e later =
        absurd (let taken : true ≡ false = sym (ap is_eq e) ∙ (or_parts _ _ free).0 in cc)
    go Greater e later = rw e refl

abbrev apart : Row → Row → Bool
apart a b = is_eq (value_cmp (rowid a) (rowid b))

length_without : (rows : List Row) (there : Row) (id : ℤ) →
    IsAscending (λ a b. apart a b ≡ false) rows → Has rows
    there → rowid there ≡ Int id → suc (length (without_rowid id rows)) ≡ length rows
length_without [] there id up h is = absurd h
length_without (r ∷ rows) there id up (inl same) is =
    let goes : has_rowid id r ≡ true = ap (λ x. has_rowid id x) (sym same)
    ∙ ap (λ v. is_eq (value_cmp v (Int id)))
    is ∙ ap is_eq (Rattle.std.proofs.lemmas.Cmp.tied_itself value_cmp_total (Int id)) in
    let stay : AllByRecursion (λ x. not (has_rowid id x) ≡ true) rows =
    all_from _ rows
    (λ x h. ap not (ap (λ v. is_eq (value_cmp (rowid x) v)) (sym is ∙ ap rowid same) ∙ turned x
    r (all_has _ rows x up.0 h))) in
    rw goes (ap (λ rs. suc (length rs)) (filter_all (λ x. not (has_rowid id x)) rows stay))
  where
    turned : (x r : Row) → apart r x ≡ false → apart x r ≡ false
    turned x r h = elim (cases_Bool (apart x r)) [
      | inl e ↦ absurd (let f : true ≡ false =
          sym (ap is_eq (tied_back value_cmp_total (rowid x) (rowid r) (equal_is _ e))) ∙ h in cc)
      | inr e ↦ e
    ]
length_without (r ∷ rows) there id up (inr later) is =
    let stays : has_rowid id r ≡ false = ap (λ v. is_eq (value_cmp (rowid r) v)) (sym is)
    ∙ all_has _ rows there up.0 later in
    rw stays (ap suc (length_without rows there id up.1 later is))

module _ (places : List ℕ) (schema : Schema) (table : Table) (values : Row) (db next : Trees)
    (stored : IsStored (db table.tree))
    (keys : (v : Value) → key_of places (v ∷ values) ≡ key_of places (Null ∷ values))
    (tells : (id : ℤ) (row : Row) →
    conflicts (Some places) schema.indexes table (Int id ∷ values) row ≡ eq_by_cmp
    row_cmp (key_of places row) (key_of places (Int id ∷ values))) where
  abbrev rows : List Row
  rows = db table.tree

  abbrev key : Row
  key = key_of places (Null ∷ values)

  looked : get (table_of places rows) key ≡ look_in row_cmp key (entries_of places rows)
  looked = get-from_entries row_cmp_total (entries_of places rows) key

  conflicting : (r : Row) → meets places key r ≡ true → conflicts (Some places) schema.indexes table
      (Int (next_rowid rows) ∷ values) r ≡ true
  conflicting r e = tells (next_rowid rows) r ∙ ap (eq_by_cmp row_cmp (key_of places r))
      (keys (Int (next_rowid rows)))
      ∙ ap is_eq (tied_back row_cmp_total key (key_of places r) (equal_is _ e))

  meeting : (r : Row) →
      conflicts (Some places) schema.indexes table (Int (next_rowid rows) ∷ values) r ≡ true →
      meets places key r ≡ true
  meeting r e = ap is_eq (tied_back row_cmp_total (key_of places r) key
      (equal_is _ (ap (eq_by_cmp row_cmp (key_of places r)) (sym (keys (Int (next_rowid rows))))
      ∙ sym (tells (next_rowid rows) r) ∙ e)))

  -- one more, where nothing was under the key
  pub counted : Upserted schema table places values db next → length (next table.tree) ≡
      (if is_some (get (table_of places rows) key) then length rows else length rows + 1)
  counted (inl a) = none (look_in row_cmp key (entries_of places rows)) refl
    where
      none : (o : Option Row) → look_in row_cmp key (entries_of places rows) ≡ o →
          length (next table.tree) ≡
          (if is_some (get (table_of places rows) key) then length rows else length rows + 1)
      none None e =
          rw (looked, e) (ap length a.put.rows ∙ length_put (Int (next_rowid rows) ∷ values) rows
          a.put.fresh ∙ sym (add-one (length rows)))
      none (Some v) e =
          absurd (let it = met_some places key v rows e in a.none it.0 it.1 (conflicting it.0 it.2))
  counted (inr m) =
      let it = met_has places key rows m.there m.has (meeting m.there m.meets) in
      let id : rowid m.there ≡ Int (id_in (rowid m.there)) = int_is (rowid m.there)
      (all_has _ rows m.there stored.1 m.has) in
      rw (looked, it.1) (ap length m.put.rows ∙ length_put (Int (id_in (rowid m.there)) ∷ values)
      (without_rowid (id_in (rowid m.there)) rows) m.put.fresh ∙ length_without rows m.there
      (id_in (rowid m.there)) stored.0 m.has id)
