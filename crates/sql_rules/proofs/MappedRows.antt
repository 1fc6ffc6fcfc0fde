-- Rows in their rules, and the same under their keys.
use Rattle.std.proofs.Common.{◌≡◌, ◌<◌, ◌≤◌, ℕ, zero, suc, ◌+◌, List, [], ◌∷◌, drop, take}
use Rattle.std.proofs.Common.{length, Bool, true, false, not, ◌||◌, ◌&&◌, Some, None, is_eq, IsTrue}
use Rattle.std.proofs.Common.{refl, sym, ap, subst, ◌∙◌, arith, inl, inr}
use Rattle.std.specs.FinMap.{get-from_entries}
use Rattle.std.specs.FinMap.Entries.{find as look_in}
use Rattle.std.specs.List.{AllByRecursion}
use Rattle.std.proofs.lemmas.Bool.{and_parts}
use Rattle.std.proofs.lemmas.Cmp.{tied_itself}
use Rattle.shelves.specs.Shelves.{Shelf}
use Rattle.sqlite_value.specs.declared.value.Value.TheVariants.{Null}
use Rattle.sqlite_value.specs.Order.{Row, column, row_cmp}
use Rattle.sqlite_value.proofs.OrderLemmas.{row_cmp_total}
use Rattle.sqlite_trees.specs.Tree.{Trees}
use Rattle.sqlite_trees.proofs.ListLemmas.{all-map}
use Rattle.sqlite_sql.specs.Ops.{is_null}
use Rattle.sqlite_schema.specs.declared.schema.Column.{Column}
use Rattle.sqlite_schema.specs.declared.schema.Table.{Table}
use Rattle.sqlite_schema.specs.declared.schema.Constraint.TheVariants.{NotNull}
use Rattle.sqlite_schema.specs.Rules.{Fits, are_present, guards, passes}
use Rattle.sqlite_rules.specs.Lists.{Has}
use Rattle.sqlite_rules.proofs.ListLemmas.{all_has}
use Rattle.sql_tables.specs.Keyed.{entries_of, key_of, look, IsStored}
use Rattle.sql_tables.specs.Schema.{our_schema, key_index, latest}
use Rattle.sql_tables.specs.Statements.{AreStored}
use Rattle.sql_tables.proofs.Selections.{full_key, meets, met_has, met_some, one_row}
use Rattle.sql_rules.proofs.Lookups.{untimed}
use Rattle.sql_rules.specs.Mapped.{AreMapped, IsMapped}
use Rattle.sql_rules.specs.Rules.{passes_at}
use Rattle.sql_rules.specs.Tables.{AreRuled, last_kept, places_from, table_at}

-- ---- a key has no NULL

present : (n b : Bool) → n ≡ true → (false || not n || not b) ≡ true → b ≡ false
present true true e h = absurd (cc h)
present true false e h = refl
present false b e h = absurd (cc e)

front_full : (cs : List Column) (place m : ℕ) (row : Row)
    → AllByRecursion (λ (c : Column). c.not_null ≡ true) (take m cs) → m ≤ length cs
    → are_present None place cs row ≡ true
    → AllByRecursion (λ p. is_null (column row p) ≡ false) (places_from (place + 1) m)
front_full cs place zero row full low h = tt
front_full [] place (suc m) row full low h = absurd (omega (arith, low))
front_full (c ∷ cs) place (suc m) row full low h =
    let both = and_parts (false || not c.not_null || not (is_null (column row (place + 1))))
    (are_present None (place + 1) cs row) h in
    let next : place + 1 + 1 ≡ suc (place + 1) = omega arith in (
      present c.not_null (is_null (column row (place + 1))) full.0 both.0,
      subst (λ p. AllByRecursion (λ q. is_null (column row q) ≡ false) (places_from p m))
          next (front_full cs (place + 1) m row full.1 (omega (arith, low)) both.1),
    )

-- ---- one table

module _ (table : Table) (tabled : Has our_schema.tables table)
    (listed : Has our_schema.indexes (key_index table))
    (guarding : guards (key_index table) table ≡ true) (trees : Trees)
    (fits : Fits our_schema trees) (stored : IsStored (trees table.tree)) (rule : Row → Bool)
    (free : (r : Row) → rule (Null ∷ drop 1 r) ≡ rule r) where
  looked : (key : Row) → look table trees key
      ≡ look_in row_cmp key (entries_of table.primary (trees table.tree))
  looked key = get-from_entries row_cmp_total (entries_of table.primary (trees table.tree)) key

  -- rule: rows-ruled.mapped
  pub rows_mapped : AllByRecursion (λ r. IsTrue (rule r)) (trees table.tree) →
      IsMapped rule table trees
  rows_mapped all key cells e =
      let it = met_some table.primary key cells (trees table.tree) (sym (looked key) ∙ e) in
      subst (λ v. rule (Null ∷ v) ≡ true) (sym it.3)
      (free it.0 ∙ all_has (λ r. IsTrue (rule r)) (trees table.tree) it.0 all it.1)

  -- each row is under its key
  pub under_key : (r : Row) → Has (trees table.tree) r
      → AllByRecursion (λ p. is_null (column r p) ≡ false) table.primary
      → look table trees (key_of table.primary r) ≡ Some (drop 1 r)
  under_key r has full =
      let key = key_of table.primary r in
      let tie : meets table.primary key r ≡ true = ap is_eq (tied_itself row_cmp_total key) in
      let it = met_has table.primary key (trees table.tree) r has tie in
      let back = met_some table.primary key it.0 (trees table.tree) it.1 in
      let full' : AllByRecursion (λ v. is_null v ≡ false) key =
      all-map (λ v. is_null v ≡ false) (column r) table.primary full in
      let same : back.0 ≡ r = one_row table.primary our_schema table tabled (key_index table)
      listed guarding refl refl trees fits stored key
      (λ x e. full_key table.primary key x full' e) back.0 r back.1 has back.2 tie in
      looked key ∙ it.1 ∙ ap Some (back.3 ∙ ap (drop 1) same)

  row_mapped : IsMapped rule table trees → (r : Row) → Has (trees table.tree) r
      → AllByRecursion (λ p. is_null (column r p) ≡ false) table.primary → rule r ≡ true
  row_mapped so r has full =
      let key = key_of table.primary r in
      let tie : meets table.primary key r ≡ true = ap is_eq (tied_itself row_cmp_total key) in
      let it = met_has table.primary key (trees table.tree) r has tie in
      let back = met_some table.primary key it.0 (trees table.tree) it.1 in
      let full' : AllByRecursion (λ v. is_null v ≡ false) key =
      all-map (λ v. is_null v ≡ false) (column r) table.primary full in
      let same : back.0 ≡ r = one_row table.primary our_schema table tabled (key_index table)
      listed guarding refl refl trees fits stored key
      (λ x e. full_key table.primary key x full' e) back.0 r back.1 has back.2 tie in
      sym (free r)
      ∙ subst (λ v. rule (Null ∷ v) ≡ true) (back.3 ∙ ap (drop 1) same)
      (so key it.0 (looked key ∙ it.1))

  -- rule: rows-ruled.mapped
  pub mapped_rows : IsMapped rule table trees
      → ((r : Row) → Has (trees table.tree) r →
      AllByRecursion (λ p. is_null (column r p) ≡ false) table.primary)
      → AllByRecursion (λ r. IsTrue (rule r)) (trees table.tree)
  mapped_rows so full = each (trees table.tree) (λ r h. h)
    where
      each : (rows : List Row) → ((r : Row) → Has rows r → Has (trees table.tree) r)
          → AllByRecursion (λ r. IsTrue (rule r)) rows
      each [] in' = tt
      each (r ∷ rows) in' = (
        row_mapped so r (in' r (inl refl)) (full r (in' r (inl refl))),
        each rows (λ x h. in' x (inr h)),
      )

-- ---- all tables

-- what is read off a table
pub record IsKeyed (table : Table) : Type 0 where
  pub tabled : Has our_schema.tables table
  pub listed : Has our_schema.indexes (key_index table)
  pub guarding : guards (key_index table) table ≡ true
  pub front : ℕ
  pub primary : table.primary ≡ places_from 1 front
  pub full : AllByRecursion (λ (c : Column). c.not_null ≡ true) (take front table.columns)
  pub low : front ≤ length table.columns
  pub alone : table.key ≡ None

pub keyed : (at : ℕ) → at < 14 → IsKeyed (table_at at)
keyed zero low = record {
  tabled = inl refl;
  listed = inl refl;
  guarding = refl;
  front = 1;
  primary = refl;
  full = (refl, tt);
  low = omega arith;
  alone = refl;
}
keyed (suc zero) low = record {
  tabled = inr (inl refl);
  listed = inr (inl refl);
  guarding = refl;
  front = 1;
  primary = refl;
  full = (refl, tt);
  low = omega arith;
  alone = refl;
}
keyed (suc (suc zero)) low = record {
  tabled = inr (inr (inl refl));
  listed = inr (inr (inl refl));
  guarding = refl;
  front = 2;
  primary = refl;
  full = (refl, (refl, tt));
  low = omega arith;
  alone = refl;
}
keyed (suc (suc (suc zero))) low = record {
  tabled = inr (inr (inr (inl refl)));
  listed = inr (inr (inr (inl refl)));
  guarding = refl;
  front = 3;
  primary = refl;
  full = (refl, (refl, (refl, tt)));
  low = omega arith;
  alone = refl;
}
keyed (suc (suc (suc (suc zero)))) low = record {
  tabled = inr (inr (inr (inr (inl refl))));
  listed = inr (inr (inr (inr (inl refl))));
  guarding = refl;
  front = 2;
  primary = refl;
  full = (refl, (refl, tt));
  low = omega arith;
  alone = refl;
}
keyed (suc (suc (suc (suc (suc zero))))) low = record {
  tabled = inr (inr (inr (inr (inr (inl refl)))));
  listed = inr (inr (inr (inr (inr (inl refl)))));
  guarding = refl;
  front = 3;
  primary = refl;
  full = (refl, (refl, (refl, tt)));
  low = omega arith;
  alone = refl;
}
keyed (suc (suc (suc (suc (suc (suc zero)))))) low = record {
  tabled = inr (inr (inr (inr (inr (inr (inl refl))))));
  listed = inr (inr (inr (inr (inr (inr (inl refl))))));
  guarding = refl;
  front = 4;
  primary = refl;
  full = (refl, (refl, (refl, (refl, tt))));
  low = omega arith;
  alone = refl;
}
keyed (suc (suc (suc (suc (suc (suc (suc zero))))))) low = record {
  tabled = inr (inr (inr (inr (inr (inr (inr (inl refl)))))));
  listed = inr (inr (inr (inr (inr (inr (inr (inl refl)))))));
  guarding = refl;
  front = 4;
  primary = refl;
  full = (refl, (refl, (refl, (refl, tt))));
  low = omega arith;
  alone = refl;
}
keyed (suc (suc (suc (suc (suc (suc (suc (suc zero)))))))) low = record {
  tabled = inr (inr (inr (inr (inr (inr (inr (inr (inl refl))))))));
  listed = inr (inr (inr (inr (inr (inr (inr (inr (inl refl))))))));
  guarding = refl;
  front = 1;
  primary = refl;
  full = (refl, tt);
  low = omega arith;
  alone = refl;
}
keyed (suc (suc (suc (suc (suc (suc (suc (suc (suc zero))))))))) low = record {
  tabled = inr (inr (inr (inr (inr (inr (inr (inr (inr (inl refl)))))))));
  listed = inr (inr (inr (inr (inr (inr (inr (inr (inr (inl refl)))))))));
  guarding = refl;
  front = 2;
  primary = refl;
  full = (refl, (refl, tt));
  low = omega arith;
  alone = refl;
}
keyed (suc (suc (suc (suc (suc (suc (suc (suc (suc (suc zero)))))))))) low = record {
  tabled = inr (inr (inr (inr (inr (inr (inr (inr (inr (inr (inl refl))))))))));
  listed = inr (inr (inr (inr (inr (inr (inr (inr (inr (inr (inr (inr (inl refl))))))))))));
  guarding = refl;
  front = 1;
  primary = refl;
  full = (refl, tt);
  low = omega arith;
  alone = refl;
}
keyed (suc (suc (suc (suc (suc (suc (suc (suc (suc (suc (suc zero))))))))))) low = record {
  tabled = inr (inr (inr (inr (inr (inr (inr (inr (inr (inr (inr (inl refl)))))))))));
  listed = inr (inr (inr (inr (inr (inr (inr (inr (inr (inr (inr (inr (inr (inl refl)))))))))))));
  guarding = refl;
  front = 3;
  primary = refl;
  full = (refl, (refl, (refl, tt)));
  low = omega arith;
  alone = refl;
}
keyed (suc (suc (suc (suc (suc (suc (suc (suc (suc (suc (suc (suc zero)))))))))))) low = record {
  tabled = inr (inr (inr (inr (inr (inr (inr (inr (inr (inr (inr (inr (inl refl))))))))))));
  listed = inr (inr (inr (inr (inr (inr (inr (inr (
      inr (inr (inr (inr (inr (inr (inr (inl refl)))))))))))))));
  guarding = refl;
  front = 2;
  primary = refl;
  full = (refl, (refl, tt));
  low = omega arith;
  alone = refl;
}
keyed (suc (suc (suc (suc (suc (suc (suc (suc (suc (suc (suc (suc (suc zero))))))))))))) low =
    record {
      tabled = inr (inr (inr (inr (inr (inr (inr (inr (
          inr (inr (inr (inr (inr (inl refl)))))))))))));
      listed = inr (inr (inr (inr (inr (inr (inr (inr (
          inr (inr (inr (inr (inr (inr (inr (inr (inl refl))))))))))))))));
      guarding = refl;
      front = 2;
      primary = refl;
      full = (refl, (refl, tt));
      low = omega arith;
      alone = refl;
    }
keyed (suc (suc (suc (suc (suc (suc (suc (suc (suc (suc (suc (suc (suc (suc n)))))))))))))) low =
    absurd (omega (arith, low))

free_rule : (shelf : Shelf) (last at : ℕ) (r : Row) →
    passes_at shelf last at (Null ∷ drop 1 r) ≡ passes_at shelf last at r
free_rule shelf last zero [] = refl
free_rule shelf last zero (v ∷ cells) = refl
free_rule shelf last (suc zero) [] = refl
free_rule shelf last (suc zero) (v ∷ cells) = refl
free_rule shelf last (suc (suc zero)) [] = refl
free_rule shelf last (suc (suc zero)) (v ∷ cells) = refl
free_rule shelf last (suc (suc (suc zero))) [] = refl
free_rule shelf last (suc (suc (suc zero))) (v ∷ cells) = refl
free_rule shelf last (suc (suc (suc (suc zero)))) [] = refl
free_rule shelf last (suc (suc (suc (suc zero)))) (v ∷ cells) = refl
free_rule shelf last (suc (suc (suc (suc (suc zero))))) [] = refl
free_rule shelf last (suc (suc (suc (suc (suc zero))))) (v ∷ cells) = refl
free_rule shelf last (suc (suc (suc (suc (suc (suc zero)))))) [] = refl
free_rule shelf last (suc (suc (suc (suc (suc (suc zero)))))) (v ∷ cells) = refl
free_rule shelf last (suc (suc (suc (suc (suc (suc (suc zero))))))) [] = refl
free_rule shelf last (suc (suc (suc (suc (suc (suc (suc zero))))))) (v ∷ cells) = refl
free_rule shelf last (suc (suc (suc (suc (suc (suc (suc (suc zero)))))))) [] = refl
free_rule shelf last (suc (suc (suc (suc (suc (suc (suc (suc zero)))))))) (v ∷ cells) = refl
free_rule shelf last (suc (suc (suc (suc (suc (suc (suc (suc (suc zero))))))))) [] = refl
free_rule shelf last (suc (suc (suc (suc (suc (suc (suc (suc (suc zero))))))))) (v ∷ cells) = refl
free_rule shelf last (suc (suc (suc (suc (suc (suc (suc (suc (suc (suc zero)))))))))) [] = refl
free_rule shelf last (suc (suc (suc (suc (suc (suc (suc (suc (suc (suc zero)))))))))) (v ∷ cells) = refl
free_rule shelf last (suc (suc (suc (suc (suc (suc (suc (suc (suc (suc (suc zero))))))))))) [] = refl
free_rule shelf last (suc (suc (suc (suc (suc (suc (suc (suc (suc (suc (suc zero))))))))))) (v ∷ cells) =
    refl
free_rule shelf last (suc (suc (suc (suc (suc (suc (suc (suc (suc (suc (suc (suc zero)))))))))))) [] =
    refl
free_rule shelf last (suc (suc (suc (suc (suc (suc (suc (suc (suc (suc (suc (suc zero))))))))))))
    (v ∷ cells) = refl
free_rule shelf last (suc (suc (suc (suc (suc (suc (suc (suc (suc (suc (suc (suc (suc zero)))))))))))))
    [] = refl
free_rule shelf last (suc (suc (suc (suc (suc (suc (suc (suc (suc (suc (suc (suc (suc zero)))))))))))))
    (v ∷ cells) = refl
free_rule shelf last
    (suc (suc (suc (suc (suc (suc (suc (suc (suc (suc (suc (suc (suc (suc n))))))))))))))
    r =
    let high : 9 < (suc (suc (suc (suc (suc (suc (suc (suc (suc (suc (suc (suc (suc (suc n)))))))))))))) =
    omega arith in
    ap (λ b. true && b) (untimed last _ (Null ∷ drop 1 r) high ∙ sym (untimed last _ r high))

module _ (shelf : Shelf) (trees : Trees) (fits : Fits our_schema trees) where
  -- the first columns are there, where none of them may be NULL
  pub full_front : (table : Table) → IsKeyed table → (front : ℕ)
      → AllByRecursion (λ (c : Column). c.not_null ≡ true) (take front table.columns)
      → front ≤ length table.columns → (r : Row) → Has (trees table.tree) r
      → AllByRecursion (λ p. is_null (column r p) ≡ false) (places_from 1 front)
  full_front table is front full low r has =
      let rows = all_has (λ (t : Table).
      AllByRecursion (λ row. passes NotNull our_schema trees t row ≡ true) (trees t.tree))
      our_schema.tables table (fits.rules NotNull (λ e. cc)) is.tabled in
      let there = all_has (λ row. are_present table.key 0 table.columns row ≡ true)
      (trees table.tree) r rows has in
      front_full table.columns 0 front r full low
      (subst (λ k. are_present k 0 table.columns r ≡ true) is.alone there)

  pub full_rows : (table : Table) → IsKeyed table → (r : Row) → Has (trees table.tree) r
      → AllByRecursion (λ p. is_null (column r p) ≡ false) table.primary
  full_rows table is r has =
      subst (AllByRecursion (λ p. is_null (column r p) ≡ false)) (sym is.primary)
      (full_front table is is.front is.full is.low r has)

  -- rows in their rules are so under their keys
  pub ruled_mapped : AreRuled shelf latest trees → AreMapped shelf trees
  ruled_mapped all = record {
    each = λ at low.
        let is = keyed at low in
        rows_mapped (table_at at) is.tabled is.listed is.guarding trees fits
        (all.right.each at low).stored (passes_at shelf (last_kept trees) at)
        (free_rule shelf (last_kept trees) at) (all.right.each at low).rows;
    beside = all.right.beside;
    granted = all.granted (omega arith);
  }

  -- and what is so under its key is a row in its rules
  pub mapped_ruled : AreStored trees → AreMapped shelf trees → AreRuled shelf latest trees
  mapped_ruled stored so = record {
    right = record {
      each = λ at low.
          let is = keyed at low in
          let here : IsStored (trees (table_at at).tree) =
          all_has (λ (t : Table). IsStored (trees t.tree)) our_schema.tables (table_at at) stored
          is.tabled in
          record {
            stored = here;
            rows = mapped_rows (table_at at) is.tabled is.listed is.guarding trees fits here
                (passes_at shelf (last_kept trees) at) (free_rule shelf (last_kept trees) at)
                (so.each at low) (full_rows (table_at at) is);
          };
      beside = so.beside;
    };
    granted = λ late. so.granted;
  }
