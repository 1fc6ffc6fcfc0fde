-- Rows of reservations that have their books, and the content of such tables.
use Rattle.std.proofs.Common.{◌≡◌, ◌<◌, ◌&&◌, ℕ, pos, List, [], ◌∷◌, Bool, true, false, drop, arith}
use Rattle.std.proofs.Common.{Some, None, Option, is_eq, nat_eq, refl, sym, ap, subst, ◌∙◌}
use Rattle.std.specs.Prelude.{◌==◌, if◌then◌else◌, option_map}
use Rattle.std.specs.FinMap.{get-from_entries}
use Rattle.std.specs.Ordering.{eq_by_cmp}
use Rattle.std.proofs.lemmas.Bool.{and_from, and_parts}
use Rattle.std.proofs.lemmas.Bool.Decides.{nat_tests}
use Rattle.shelves.specs.Shelves.{Shelf}
use Rattle.sqlite_value.specs.declared.value.Value.{Value}
use Rattle.sqlite_value.specs.declared.value.Value.TheVariants.{Int, Text}
use Rattle.sqlite_value.specs.Order.{Row, column, row_cmp, value_cmp}
use Rattle.sqlite_value.proofs.OrderLemmas.{row_cmp_total}
use Rattle.sqlite_trees.specs.Tree.{Trees}
use Rattle.sqlite_sql.specs.declared.ops.CompareOp.TheVariants.{Eq}
use Rattle.sqlite_schema.specs.Rules.{Fits, Keeps}
use Rattle.sqlite_schema.specs.declared.schema.Constraint.TheVariants.{ForeignKey}
use Rattle.sqlite_schema.specs.declared.schema.Table.{Table}
use Rattle.sqlite_rules.specs.Lists.{Has}
use Rattle.sql_tables.specs.Keyed.{IsStored, entries_of, key_of, look}
use Rattle.sql_tables.specs.Schema.{grant_books, latest, our_schema, session_groups}
use Rattle.sql_tables.proofs.Keys.{int_tie, keys_split}
use Rattle.sql_tables.proofs.Selections.{meets, met_some}
use Rattle.sql_rows.specs.Content.{rows_in, tables_content}
use Rattle.sql_rows.specs.Values.{PeriodNames, flag_in, grant_book_in, group_in_row, group_key, nat}
use Rattle.sql_rows.specs.Values.{nat_in, text_in}
use Rattle.sql_rules.specs.Beside.{is_equal}
use Rattle.sql_rules.specs.GrantContent.{AreOfBooks, are_all_of_book, are_of_book, is_of_book}
use Rattle.sql_rules.specs.GrantRows.{HaveBooks, has_both_periods, is_grant_row_of, is_held_row}
use Rattle.sql_rules.specs.Ruled.{IsInRules}
use Rattle.sql_rules.specs.Tables.{AreRuled, table_at}
use Rattle.sql_rules.proofs.BesideContents.{flagged, rows_beside}
use Rattle.sql_rules.proofs.BesideRows.{behind, compared, equals_text, number_equals, number_same}
use Rattle.sql_rules.proofs.BesideRows.{text_equals, text_only}
use Rattle.sql_rules.proofs.Contents.{content_ruled}
use Rattle.sql_rules.proofs.MappedRows.{keyed, under_key}
use Rattle.sql_rules.proofs.Written.{checked, full, grant_of, group_of, number_there}

-- ---- keys

-- the key of a session and a rating group; both tables have the same columns for it
abbrev key_in : Row → Row
key_in r = key_of (1 ∷ 2 ∷ 3 ∷ []) r

tied_number : (g h : ℕ) → is_eq (value_cmp (Int (pos g)) (Int (pos h))) ≡ true → g ≡ h
tied_number g h e =
    let t : nat_eq h g ≡ true = sym (int_tie h g) ∙ e in grind (arith, nat_tests, t)

-- two such keys that tie are one
one_key : (a s b t : List ℕ) (g h : ℕ)
    → eq_by_cmp row_cmp (group_key a s g) (group_key b t h) ≡ true
    → group_key a s g ≡ group_key b t h
one_key a s b t g h e =
    let first = and_parts (is_eq (value_cmp (Text a) (Text b)))
    (eq_by_cmp row_cmp (Text s ∷ nat g ∷ []) (Text t ∷ nat h ∷ []))
    (sym (keys_split (Text a) (Text b) (Text s ∷ nat g ∷ []) (Text t ∷ nat h ∷ [])) ∙ e) in
    let second = and_parts (is_eq (value_cmp (Text s) (Text t)))
    (eq_by_cmp row_cmp (nat g ∷ []) (nat h ∷ []))
    (sym (keys_split (Text s) (Text t) (nat g ∷ []) (nat h ∷ [])) ∙ first.1) in
    let third = and_parts (is_eq (value_cmp (nat g) (nat h))) true
    (sym (keys_split (nat g) (nat h) [] []) ∙ second.1) in
    let account : Text b ≡ Text a = text_only a (Text b) first.0 in
    let session : Text t ≡ Text s = text_only s (Text t) second.0 in
    let group : g ≡ h = tied_number g h third.0 in
    λ i. sym account i ∷ sym session i ∷ nat (group i) ∷ []

-- rows whose columns compare as equal have one key
equal_key : (v w x y z u : Value) (a s b t : List ℕ) (g h : ℕ)
    → (v ∷ w ∷ x ∷ []) ≡ group_key a s g → (y ∷ z ∷ u ∷ []) ≡ group_key b t h
    → (is_equal y v && is_equal z w && is_equal u x) ≡ true
    → (y ∷ z ∷ u ∷ []) ≡ (v ∷ w ∷ x ∷ [])
equal_key v w x y z u a s b t g h p q e =
    let parts = and_parts (is_equal y v && is_equal z w) (is_equal u x) e in
    let names = and_parts (is_equal y v) (is_equal z w) parts.0 in
    let first : v ≡ Text a = ap (λ k. column k 0) p in
    let second : w ≡ Text s = ap (λ k. column k 1) p in
    let third : x ≡ nat g = ap (λ k. column k 2) p in
    let fourth : y ≡ Text b = ap (λ k. column k 0) q in
    let fifth : z ≡ Text t = ap (λ k. column k 1) q in
    let sixth : u ≡ nat h = ap (λ k. column k 2) q in
    let account : a ≡ b = equals_text b a
    (subst (λ m. is_equal m (Text a) ≡ true) fourth
    (subst (λ m. is_equal y m ≡ true) first names.0)) in
    let session : s ≡ t = equals_text t s
    (subst (λ m. is_equal m (Text s) ≡ true) fifth
    (subst (λ m. is_equal z m ≡ true) second names.1)) in
    let group : h ≡ g = number_same h g
    (subst (λ m. is_equal m (nat g) ≡ true) sixth
    (subst (λ m. is_equal u m ≡ true) third parts.1)) in
    q ∙ (λ i. Text (sym account i) ∷ Text (sym session i) ∷ nat (group i) ∷ []) ∙ sym p

-- and rows of one key compare so
key_equal : (v w x y z u : Value) (a s : List ℕ) (g : ℕ) → (v ∷ w ∷ x ∷ []) ≡ group_key a s g
    → (y ∷ z ∷ u ∷ []) ≡ (v ∷ w ∷ x ∷ []) → (is_equal y v && is_equal z w && is_equal u x) ≡ true
key_equal v w x y z u a s g p q =
    and_from _ _ (and_from _ _ (same y v (Text a) (ap (λ k. column k 0) q)
    (ap (λ k. column k 0) p) (text_equals a)) (same z w (Text s) (ap (λ k. column k 1) q)
    (ap (λ k. column k 1) p) (text_equals s))) (same u x (nat g) (ap (λ k. column k 2) q)
    (ap (λ k. column k 2) p) (number_equals g))
  where
    same : (m n k : Value) → m ≡ n → n ≡ k → is_equal k k ≡ true → is_equal m n ≡ true
    same m n k e f h = subst (λ o. is_equal o n ≡ true) (sym e)
        (subst (λ o. is_equal o o ≡ true) (sym f) h)

-- ---- the periods of a reservation

-- those in these columns
abbrev names_in : Row → PeriodNames
names_in cells = record { before = text_in (column cells 5); after = text_in (column cells 6) }

held_of : (shelf : Shelf) (o : Option ℕ) (p : PeriodNames) (b : Bool)
    → (b ≡ true → are_of_book shelf o p ≡ true)
    → are_all_of_book shelf o (if b then Some p else None) ≡ true
held_of shelf o p true so = so refl
held_of shelf o p false so = refl

of_held : (shelf : Shelf) (o : Option ℕ) (p : PeriodNames) (b : Bool) → b ≡ true
    → are_all_of_book shelf o (if b then Some p else None) ≡ true → are_of_book shelf o p ≡ true
of_held shelf o p true e so = so
of_held shelf o p false e so = absurd (cc e)

some_book : (shelf : Shelf) (o : Option Row) (p : PeriodNames)
    → are_of_book shelf (option_map grant_book_in o) p ≡ true → (v : Row) × (o ≡ Some v)
some_book shelf None p e = absurd (cc e)
some_book shelf (Some v) p e = (v, refl)

-- ---- the rows of the tables

module _ (shelf : Shelf) (trees : Trees) (fits : Fits our_schema trees)
    (stored : (at : ℕ) → at < 14 → IsStored (trees (table_at at).tree)) where
  abbrev Stands : ℕ → Row → Type 0
  Stands at r = Has (trees (table_at at).tree) r

  found : (table : Table) (key v : Row) → look table trees key ≡ Some v
      → (r : Row) × Has (trees table.tree) r × (meets table.primary key r ≡ true) × (v ≡ drop 1 r)
  found table key v e =
      met_some table.primary key v (trees table.tree)
      (sym (get-from_entries row_cmp_total (entries_of table.primary (trees table.tree)) key) ∙ e)

  stands : (at : ℕ) (low : at < 14) (r : Row) → Stands at r
      → look (table_at at) trees (key_of (table_at at).primary r) ≡ Some (drop 1 r)
  stands at low r has =
      let is = keyed at low in
      under_key (table_at at) is.tabled is.listed is.guarding trees fits (stored at low) (λ x. true)
      (λ x. refl) r has (full shelf trees fits at low r has)

  group_is : (r : Row) → Stands 5 r
      → key_in r ≡ group_key (text_in (column r 1)) (text_in (column r 2)) (nat_in (column r 3))
  group_is r has = group_of shelf trees fits r has

  grant_is : (r : Row) → Stands 11 r
      → key_in r ≡ group_key (text_in (column r 1)) (text_in (column r 2)) (nat_in (column r 3))
  grant_is r has = grant_of shelf trees fits r has

  same_key : (r s : Row) → Stands 5 r → Stands 11 s → is_grant_row_of r s ≡ true → key_in s ≡ key_in r
  same_key r s has there e =
      equal_key (column r 1) (column r 2) (column r 3) (column s 1) (column s 2) (column s 3)
      _ _ _ _ _ _ (group_is r has) (grant_is s there) e

  key_same : (r s : Row) → Stands 5 r → key_in s ≡ key_in r → is_grant_row_of r s ≡ true
  key_same r s has e =
      key_equal (column r 1) (column r 2) (column r 3) (column s 1) (column s 2) (column s 3)
      _ _ _ (group_is r has) e

  -- ---- rows that have their books, and so their content

  module _ (have : HaveBooks shelf trees) where
    own_book : (a s : List ℕ) (g : ℕ) (v : Row)
        → look session_groups trees (group_key a s g) ≡ Some v → flag_in (column v 4) ≡ true
        → are_of_book shelf (option_map grant_book_in (look grant_books trees (group_key a s g)))
        (names_in v) ≡ true
    own_book a s g v e held =
        let it = found session_groups (group_key a s g) v e in
        let r : Row = it.0 in
        let key : group_key a s g ≡ key_in r =
        one_key a s _ _ g _ (subst (λ k. eq_by_cmp row_cmp (group_key a s g) k ≡ true)
        (group_is r it.1) it.2) ∙ sym (group_is r it.1) in
        let flag : column r 5 ≡ Int (pos 1) =
        sym (behind r 4) ∙ ap (λ w. column w 4) (sym it.3) ∙ flagged (column v 4) held in
        let reserved : is_held_row r ≡ true =
        subst (λ w. is_equal w (Int (pos 1)) ≡ true) (sym flag) (number_equals 1) in
        let grant = have.there r it.1 reserved in
        let t : Row = grant.0 in
        let same : key_in t ≡ group_key a s g =
        same_key r t it.1 grant.1 grant.2 ∙ sym key in
        let there : look grant_books trees (group_key a s g) ≡ Some (drop 1 t) =
        subst (λ k. look grant_books trees k ≡ Some (drop 1 t)) same
        (stands 11 (omega arith) t grant.1) in
        subst (λ o. are_of_book shelf (option_map grant_book_in o) (names_in v) ≡ true) (sym there)
        (subst (λ w. are_of_book shelf (Some (grant_book_in (drop 1 t))) (names_in w) ≡ true)
        (sym it.3) (decoded r t (have.periods r t it.1 reserved grant.1 grant.2)))
      where
        decoded : (r t : Row) → has_both_periods shelf r t ≡ true
            → are_of_book shelf (Some (grant_book_in (drop 1 t))) (names_in (drop 1 r)) ≡ true
        decoded r t e =
            subst (λ n. are_of_book shelf (Some (nat_in n)) (names_in (drop 1 r)) ≡ true)
            (sym (behind t 3))
            (subst (λ m. are_of_book shelf (Some (nat_in (column t 4)))
            (record { before = text_in m; after = text_in (column (drop 1 r) 6) }) ≡ true)
            (sym (behind r 5))
            (subst (λ m. are_of_book shelf (Some (nat_in (column t 4)))
            (record { before = text_in (column r 6); after = text_in m }) ≡ true)
            (sym (behind r 6)) e))

    -- rule: rows-ruled.granted
    pub rows_of_books : (a : List ℕ) → AreOfBooks shelf (rows_in trees a)
    rows_of_books a s g = at (look session_groups trees (group_key a s g)) refl
      where
        at : (o : Option Row) → look session_groups trees (group_key a s g) ≡ o
            → is_of_book shelf (option_map grant_book_in (look grant_books trees (group_key a s g)))
            (option_map group_in_row o) ≡ true
        at None e = refl
        at (Some v) e = held_of shelf _ (names_in v) (flag_in (column v 4)) (own_book a s g v e)

  -- ---- content that has its books, and so its rows

  module _ (of' : (a : List ℕ) → AreOfBooks shelf (rows_in trees a)) where
    row_flag : (r : Row) → Stands 5 r → is_held_row r ≡ true → flag_in (column (drop 1 r) 4) ≡ true
    row_flag r has held =
        let number = number_there shelf trees fits 5 (omega arith) r has 4 (omega arith)
        (compared Eq (column r 5) (nat 1) held).0 (λ v h. h)
        (checked (table_at 5) r 2 (omega arith)) in
        let one : nat_in (column r 5) ≡ 1 = number_same (nat_in (column r 5)) 1
        (subst (λ w. is_equal w (nat 1) ≡ true) number held) in
        ap (λ w. nat_in w == 1) (behind r 4) ∙ ap (λ n. n == 1) one

    row_book : (r : Row) → Stands 5 r → is_held_row r ≡ true
        → are_of_book shelf (option_map grant_book_in (look grant_books trees (key_in r)))
        (names_in (drop 1 r)) ≡ true
    row_book r has held =
        of_held shelf _ (names_in (drop 1 r)) (flag_in (column (drop 1 r) 4)) (row_flag r has held)
        (subst (λ o. is_of_book shelf (option_map grant_book_in (look grant_books trees (key_in r)))
        (option_map group_in_row o) ≡ true) (stands 5 (omega arith) r has)
        (subst (λ k. is_of_book shelf (option_map grant_book_in (look grant_books trees k))
        (option_map group_in_row (look session_groups trees k)) ≡ true) (sym (group_is r has))
        (of' (text_in (column r 1)) (text_in (column r 2)) (nat_in (column r 3)))))

    -- rule: rows-ruled.granted
    pub books_of_rows : HaveBooks shelf trees
    books_of_rows = record {
      there = λ r has held.
          let v = some_book shelf (look grant_books trees (key_in r)) _ (row_book r has held) in
          let it = found grant_books (key_in r) v.0 v.1 in
          let s : Row = it.0 in
          let tie : eq_by_cmp row_cmp (key_in r) (key_in s) ≡ true = it.2 in
          let theirs : Row =
          group_key (text_in (column s 1)) (text_in (column s 2)) (nat_in (column s 3)) in
          let key : key_in s ≡ key_in r =
          grant_is s it.1
          ∙ sym (one_key (text_in (column r 1)) (text_in (column r 2)) (text_in (column s 1))
          (text_in (column s 2)) (nat_in (column r 3)) (nat_in (column s 3))
          (subst (λ k. eq_by_cmp row_cmp k theirs ≡ true) (group_is r has)
          (subst (λ k. eq_by_cmp row_cmp (key_in r) k ≡ true) (grant_is s it.1) tie)))
          ∙ sym (group_is r has) in
          (s, it.1, key_same r s has key);
      periods = λ r s has held there e.
          let at : look grant_books trees (key_in r) ≡ Some (drop 1 s) =
          subst (λ k. look grant_books trees k ≡ Some (drop 1 s)) (same_key r s has there e)
          (stands 11 (omega arith) s there) in
          encoded r s
          (subst (λ o. are_of_book shelf (option_map grant_book_in o) (names_in (drop 1 r)) ≡ true)
          at (row_book r has held));
    }
      where
        encoded : (r t : Row)
            → are_of_book shelf (Some (grant_book_in (drop 1 t))) (names_in (drop 1 r)) ≡ true
            → has_both_periods shelf r t ≡ true
        encoded r t e =
            subst (λ m. are_of_book shelf (Some (nat_in (column t 4)))
            (record { before = text_in (column r 6); after = text_in m }) ≡ true)
            (behind r 6)
            (subst (λ m. are_of_book shelf (Some (nat_in (column t 4)))
            (record { before = text_in m; after = text_in (column (drop 1 r) 6) }) ≡ true)
            (behind r 5)
            (subst (λ n. are_of_book shelf (Some (nat_in n)) (names_in (drop 1 r)) ≡ true)
            (behind t 3) e))

-- ---- all of a database

-- rule: rows-ruled.in-rules, rows-ruled.beside, rows-ruled.granted
pub content_in_rules : (shelf : Shelf) (trees : Trees) → AreRuled shelf latest trees
    → Keeps ForeignKey our_schema trees → Fits our_schema trees
    → IsInRules shelf (tables_content trees)
content_in_rules shelf trees all keeps fits = record {
  each = content_ruled shelf trees fits all.right;
  beside = rows_beside shelf trees all.right keeps fits;
  granted = rows_of_books shelf trees fits (λ at low. (all.right.each at low).stored)
      (all.granted (omega arith));
}
