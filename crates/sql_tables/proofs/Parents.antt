-- A row whose columns are a key of another table has a row there.
use Rattle.std.proofs.Common.{◌≡◌, inl, inr, ℕ, List, [], ◌∷◌, true, false, Equal}
use Rattle.std.proofs.Common.{Some, is_eq, refl, sym, ap, ◌∙◌}
use Rattle.std.specs.Prelude.{◌||◌, codes, is_some, pos}
use Rattle.std.proofs.lemmas.Cmp.{tied_back}
use Rattle.std.specs.FinMap.{get-from_entries}
use Rattle.std.specs.List.{AllByRecursion, list_any}
use Rattle.std.specs.Ordering.{eq_by_cmp}
use Rattle.sqlite_value.specs.declared.value.Value.{Value}
use Rattle.sqlite_value.specs.declared.value.Value.TheVariants.{Int, Text}
use Rattle.sqlite_value.specs.Keys.{plain, joined}
use Rattle.sqlite_value.specs.Order.{Row, column, row_cmp, value_cmp}
use Rattle.sqlite_value.proofs.OrderLemmas.{row_cmp_total}
use Rattle.sqlite_trees.specs.Tree.{Trees}
use Rattle.sqlite_sql.specs.Ops.{is_null}
use Rattle.sqlite_schema.specs.declared.schema.Constraint.TheVariants.{ForeignKey}
use Rattle.sqlite_schema.specs.declared.schema.Reference.{Reference}
use Rattle.sqlite_schema.specs.declared.schema.Table.{Table}
use Rattle.sqlite_schema.specs.declared.schema.Schema.{Schema}
use Rattle.sqlite_schema.specs.Names.{same_name}
use Rattle.sqlite_schema.specs.Rules.{Keeps, agree, has_null, has_parent, is_held}
use Rattle.sqlite_schema.specs.Rules.{parent_key, passes}
use Rattle.sqlite_rules.specs.Lists.{Has}
use Rattle.sqlite_rules.proofs.ListLemmas.{all_has, some_has, test_has}
use Rattle.sql_tables.specs.Keyed.{key_of, entries_of, look}
use Rattle.sql_tables.specs.Schema.{belongs, our_schema, grant_books, holds, session_groups}
use Rattle.sql_tables.specs.Schema.{sessions}
use Rattle.sql_tables.proofs.Selections.{full_key, meets, met_has, met_some, tied_parts}
use Rattle.sql_tables.proofs.Ties.{agree_ties_at, equal_is}

-- ---- of any tables

-- columns without NULL
abbrev AreFull : List ℕ → Row → Type 0
AreFull places r = AllByRecursion (λ p. is_null (column r p) ≡ false) places

not_null : (places : List ℕ) (r : Row) → AreFull places r → has_null places r ≡ false
not_null [] r full = refl
not_null (p ∷ ps) r full = ap (λ b. b || has_null ps r) full.0 ∙ not_null ps r full.1

module _ (schema : Schema) (child : Table) (tabled : Has schema.tables child) (ref : Reference)
    (refers : Has child.references ref) (parent : Table)
    (points : parent_key schema.tables ref ≡ Some (parent.tree, parent.primary, plain))
    (db : Trees) (keeps : Keeps ForeignKey schema db) where
  held : (r : Row) → Has (db child.tree) r → AreFull ref.columns r →
      list_any (λ q. agree plain parent.primary q ref.columns r) (db parent.tree) ≡ true
  held r there full =
      let rows = all_has (λ (t : Table). AllByRecursion
      (λ row. passes ForeignKey schema db t row ≡ true) (db t.tree)) schema.tables child keeps
      tabled in
      let passed = all_has (λ row. passes ForeignKey schema db child row ≡ true) (db child.tree) r
      rows there in
      let one = test_has (has_parent schema.tables db r) child.references ref passed refers in
      ap (is_held db ref.columns r) (sym points)
      ∙ ap (λ b. b || is_held db ref.columns r (parent_key schema.tables ref))
      (sym (not_null ref.columns r full)) ∙ one

  -- the parent of a row that is found is found
  pub parent_there : (key v wanted : Row) → look child db key ≡ Some v →
      ((r : Row) → meets child.primary key r ≡ true → AreFull ref.columns r ×
      (eq_by_cmp row_cmp wanted (key_of ref.columns r) ≡ true)) →
      is_some (look parent db wanted) ≡ true
  parent_there key v wanted found fits =
      let looked = get-from_entries row_cmp_total (entries_of child.primary (db child.tree)) key in
      let row = met_some child.primary key v (db child.tree) (sym looked ∙ found) in
      let own = fits row.0 row.2 in
      let up = some_has (λ q. agree plain parent.primary q ref.columns row.0) (db parent.tree)
      (held row.0 row.1 own.0) in
      let tied : row_cmp (key_of parent.primary up.0) (key_of ref.columns row.0) ≡ Equal =
      equal_is _ (sym (agree_ties_at parent.primary up.0 ref.columns row.0 own.0) ∙ up.2) in
      let back = tied_back row_cmp_total (key_of parent.primary up.0) (key_of ref.columns row.0)
      tied in
      let meet : meets parent.primary wanted up.0 ≡ true =
      ap is_eq (row_cmp_total.congr wanted (key_of ref.columns row.0) (key_of parent.primary up.0)
      (equal_is _ own.1) ∙ back) in
      let it = met_has parent.primary wanted (db parent.tree) up.0 up.1 meet in
      ap is_some (get-from_entries row_cmp_total (entries_of parent.primary (db parent.tree)) wanted
      ∙ it.1)

-- ---- of sessions and their groups

-- the first values of a key
first_two : (v w x a b c : Value) → eq_by_cmp row_cmp (v ∷ w ∷ x ∷ []) (a ∷ b ∷ c ∷ []) ≡ true →
    eq_by_cmp row_cmp (v ∷ w ∷ []) (a ∷ b ∷ []) ≡ true
first_two v w x a b c e =
    let one = tied_parts (value_cmp v a) (row_cmp (w ∷ x ∷ []) (b ∷ c ∷ [])) (equal_is _ e) in
    let two = tied_parts (value_cmp w b) (row_cmp (x ∷ []) (c ∷ [])) one.1 in
    rw (one.0, two.0) refl

first_three : (v w x y a b c d : Value) →
    eq_by_cmp row_cmp (v ∷ w ∷ x ∷ y ∷ []) (a ∷ b ∷ c ∷ d ∷ []) ≡ true →
    eq_by_cmp row_cmp (v ∷ w ∷ x ∷ []) (a ∷ b ∷ c ∷ []) ≡ true
first_three v w x y a b c d e =
    let one = tied_parts (value_cmp v a) (row_cmp (w ∷ x ∷ y ∷ []) (b ∷ c ∷ d ∷ []))
    (equal_is _ e) in
    let two = tied_parts (value_cmp w b) (row_cmp (x ∷ y ∷ []) (c ∷ d ∷ [])) one.1 in
    let three = tied_parts (value_cmp x c) (row_cmp (y ∷ []) (d ∷ [])) two.1 in
    rw (one.0, two.0, three.0) refl

abbrev to_session : Reference
to_session = belongs (1 ∷ 2 ∷ []) (codes "sessions") (codes "account" ∷ codes "session" ∷ [])

abbrev to_group : Reference
to_group = belongs (1 ∷ 2 ∷ 3 ∷ []) (codes "session_groups")
    (codes "account" ∷ codes "session" ∷ codes "rating_group" ∷ [])

points_to_session : parent_key our_schema.tables to_session ≡
    Some (sessions.tree, sessions.primary, plain)
unfolding joined same_name
points_to_session = refl

points_to_group : parent_key our_schema.tables to_group ≡
    Some (session_groups.tree, session_groups.primary, plain)
unfolding joined same_name
points_to_group = refl

module _ (db : Trees) (keeps : Keeps ForeignKey our_schema db) (a s : List ℕ) (g : ℕ) where
  -- a group that is found is of a session that is found
  pub session_of_group : (v : Row) →
      look session_groups db (Text a ∷ Text s ∷ Int (pos g) ∷ []) ≡ Some v →
      is_some (look sessions db (Text a ∷ Text s ∷ [])) ≡ true
  session_of_group v found =
      parent_there our_schema session_groups (inr (inr (inr (inr (inr (inl refl)))))) to_session
      (inl refl) sessions points_to_session db keeps (Text a ∷ Text s ∷ Int (pos g) ∷ []) v
      (Text a ∷ Text s ∷ []) found (λ r m.
      let all = full_key (1 ∷ 2 ∷ 3 ∷ []) (Text a ∷ Text s ∷ Int (pos g) ∷ []) r
      (refl, (refl, (refl, tt))) m in (
        (all.0, (all.1.0, tt)),
        first_two (Text a) (Text s) (Int (pos g)) (column r 1) (column r 2) (column r 3) m,
      ))

  -- and so is what is held there
  pub group_of_hold : (n : ℕ) (v : Row) →
      look holds db (Text a ∷ Text s ∷ Int (pos g) ∷ Int (pos n) ∷ []) ≡ Some v →
      is_some (look session_groups db (Text a ∷ Text s ∷ Int (pos g) ∷ [])) ≡ true
  group_of_hold n v found =
      parent_there our_schema holds (inr (inr (inr (inr (inr (inr (inl refl))))))) to_group
      (inl refl) session_groups points_to_group db keeps
      (Text a ∷ Text s ∷ Int (pos g) ∷ Int (pos n) ∷ []) v
      (Text a ∷ Text s ∷ Int (pos g) ∷ []) found (λ r m.
      let all = full_key (1 ∷ 2 ∷ 3 ∷ 4 ∷ []) (Text a ∷ Text s ∷ Int (pos g) ∷ Int (pos n) ∷ []) r
      (refl, (refl, (refl, (refl, tt)))) m in (
        (all.0, (all.1.0, (all.1.1.0, tt))),
        first_three (Text a) (Text s) (Int (pos g)) (Int (pos n)) (column r 1) (column r 2)
            (column r 3) (column r 4) m,
      ))

  -- and the number of its reservation's book
  pub group_of_book : (v : Row) →
      look grant_books db (Text a ∷ Text s ∷ Int (pos g) ∷ []) ≡ Some v →
      is_some (look session_groups db (Text a ∷ Text s ∷ Int (pos g) ∷ [])) ≡ true
  group_of_book v found =
      parent_there our_schema grant_books
      (inr (inr (inr (inr (inr (inr (inr (inr (inr (inr (inr (inl refl)))))))))))) to_group
      (inl refl) session_groups points_to_group db keeps (Text a ∷ Text s ∷ Int (pos g) ∷ []) v
      (Text a ∷ Text s ∷ Int (pos g) ∷ []) found (λ r m. (
        full_key (1 ∷ 2 ∷ 3 ∷ []) (Text a ∷ Text s ∷ Int (pos g) ∷ []) r
            (refl, (refl, (refl, tt))) m,
        m,
      ))
