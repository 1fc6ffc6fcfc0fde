-- A list that a selection answers shows what is under a key.
use Rattle.std.proofs.Common.{◌≡◌, inl, inr, ℕ, List, [], ◌∷◌, map, drop, Bool, true, false}
use Rattle.std.proofs.Common.{Ordering, Less, Equal, Greater, Some, None, Option, is_eq}
use Rattle.std.proofs.Common.{refl, sym, ap, ◌∙◌}
use Rattle.std.specs.Prelude.{option_and_then, if◌then◌else◌}
use Rattle.std.proofs.lemmas.Bool.{cases_Bool}
use Rattle.std.specs.FinMap.{get-from_entries}
use Rattle.std.specs.FinMap.Entries.{find as look_in}
use Rattle.std.specs.List.{AllByRecursion, find}
use Rattle.std.specs.Ordering.{eq_by_cmp, ordering_then}
use Rattle.sqlite_value.specs.declared.value.Value.{Value}
use Rattle.sqlite_value.specs.declared.value.Value.TheVariants.{Null, Int, Real, Text, Blob}
use Rattle.sqlite_value.specs.Keys.{plain}
use Rattle.sqlite_value.specs.Order.{Row as Values, column, row_cmp, value_cmp}
use Rattle.sqlite_value.proofs.OrderLemmas.{row_cmp_total}
use Rattle.sqlite_trees.specs.Tree.{Trees, rowid}
use Rattle.sqlite_sql.specs.Ops.{is_null}
use Rattle.sqlite_schema.specs.declared.schema.Table.{Table}
use Rattle.sqlite_schema.specs.declared.schema.Index.{Index}
use Rattle.sqlite_schema.specs.declared.schema.Schema.{Schema}
use Rattle.sqlite_schema.specs.Rules.{Fits, guards}
use Rattle.sqlite_rules.specs.Lists.{Has}
use Rattle.sqlite_rules.proofs.ListLemmas.{all_has, has_found}
use Rattle.sql_tables.specs.Keyed.{key_of, entries_of, IsStored}
use Rattle.sql_tables.proofs.Swaps.{no_clash, differ_ints}
use Rattle.sql_tables.proofs.Stored.{same_row}
use Rattle.sql_tables.proofs.Ties.{equal_is, agree_ties}
use Rattle.sql_tables.specs.Keyed.{look}
use Rattle.sql_tables.specs.Selects.{passing}
use Rattle.sql_tables.proofs.Selected.{AreAnswered}
use Rattle.sql_tables.proofs.Steps.{mapped_to, mapped_from}

-- ---- one row a key

pub not_null : (v w : Value) → is_null v ≡ false → value_cmp v w ≡ Equal → is_null w ≡ false
unfolding value_cmp
not_null v (Int n) p e = refl
not_null v (Real x) p e = refl
not_null v (Text t) p e = refl
not_null v (Blob b) p e = refl
not_null Null Null p e = absurd (cc)
not_null (Int n) Null p e = absurd (cc)
not_null (Real x) Null p e = absurd (cc)
not_null (Text t) Null p e = absurd (cc)
not_null (Blob b) Null p e = absurd (cc)

pub tied_parts : (o p : Ordering) → ordering_then o p ≡ Equal → (o ≡ Equal) × (p ≡ Equal)
tied_parts Less p h = absurd (cc)
tied_parts Equal p h = (refl, h)
tied_parts Greater p h = absurd (cc)

-- a row that meets a key without NULL has no NULL there
pub full_key : (places : List ℕ) (key r : Values) → AllByRecursion (λ v. is_null v ≡ false) key →
    eq_by_cmp row_cmp key (key_of places r) ≡ true →
    AllByRecursion (λ p. is_null (column r p) ≡ false) places
full_key [] key r none e = tt
full_key (p ∷ places) [] r none e = absurd (cc)
full_key (p ∷ places) (v ∷ key) r none e =
    let both =
    tied_parts (value_cmp v (column r p)) (row_cmp key (key_of places r)) (equal_is _ e) in
    (not_null v (column r p) none.0 both.0, full_key places key r none.1 (ap is_eq both.1))

module _ (places : List ℕ) where
  abbrev pub meets : Values → Values → Bool
  meets key r = eq_by_cmp row_cmp key (key_of places r)

  pub met_some : (key v : Values) (rows : List Values) →
      look_in row_cmp key (entries_of places rows) ≡ Some v →
      (r : Values) × Has rows r × (meets key r ≡ true) × (v ≡ drop 1 r)
  met_some key v [] e = absurd (cc)
  met_some key v (r ∷ rows) e = go (meets key r) refl (met_some key v rows)
    where
      first : Some (drop 1 r) ≡ Some v → v ≡ drop 1 r
      first same = sym (cc)

      go : (b : Bool) → meets key r ≡ b →
          (look_in row_cmp key (entries_of places rows) ≡ Some v → (x : Values) ×
          Has rows x × (meets key x ≡ true) × (v ≡ drop 1 x))
          → (x : Values) × Has (r ∷ rows) x × (meets key x ≡ true) × (v ≡ drop 1 x)
      go true h rest = (r, inl refl, h, first (rw h at e))
      go false h rest = let it = rest (rw h at e) in (it.0, inr it.1, it.2, it.3)

  pub met_has : (key : Values) (rows : List Values) (r : Values) → Has rows r → meets key r ≡ true →
      (v : Values) ×
      (look_in row_cmp key (entries_of places rows) ≡ Some v)
  met_has key [] r h e = absurd h
  met_has key (x ∷ rows) r h e = go (meets key x) refl (met_has key rows r)
    where
      go : (b : Bool) → meets key x ≡ b → (Has rows r → meets key r ≡ true → (v : Values) ×
          (look_in row_cmp key (entries_of places rows) ≡ Some v))
          → (v : Values) × (look_in row_cmp key (entries_of places (x ∷ rows)) ≡ Some v)
      go true p rest = (drop 1 x, rw p refl)
      go false p rest = not_first h
        where
          not_first : Has (x ∷ rows) r →
              (v : Values) × (look_in row_cmp key (entries_of places (x ∷ rows)) ≡ Some v)
          not_first (inl same) =
              absurd (let f : false ≡ true = sym p ∙ ap (meets key) (sym same) ∙ e in cc)
          not_first (inr later) = let it = rest later e in (it.0, rw p it.1)

  module _ (schema : Schema) (table : Table) (tabled : Has schema.tables table) (index : Index)
      (listed : Has schema.indexes index)
      (guarding : guards index table ≡ true) (order : index.order ≡ plain)
      (columns : index.columns ≡ places) where
    -- no two rows meet one key that has no NULL
    pub one_row : (db : Trees) → Fits schema db → IsStored (db table.tree) → (key : Values) →
        ((r : Values) → meets key r ≡ true →
        AllByRecursion (λ p. is_null (column r p) ≡ false) places)
        → (r s : Values) → Has (db table.tree) r → Has (db table.tree) s → meets key r ≡ true
        → meets key s ≡ true →
        r ≡ s
    one_row db fits stored key full r s h k p q =
        elim (cases_Bool (is_eq (value_cmp (rowid r) (rowid s)))) [
          | inl same ↦ same_row (db table.tree) r s stored.0 h k same
          | inr apart ↦ absurd
              (no_clash places schema table tabled index listed guarding order columns
              db fits s r k h (agree_ties places r s (full s q)
              ∙ ap is_eq (sym (row_cmp_total.congr key (key_of places r)
              (key_of places s) (equal_is _ p)) ∙ equal_is _ q))
              (differ_ints (rowid r) (rowid s) (all_has _ (db table.tree) r stored.1 h)
              (all_has _ (db table.tree) s stored.1 k) apart))
        ]

bind_some : {A B : Type 0} (f : A → Option B) (o : Option A) (y : B) →
    option_and_then f o ≡ Some y → (x : A) ×
    (o ≡ Some x) × (f x ≡ Some y)
bind_some f None y e = absurd (cc)
bind_some f (Some x) y e = (x, refl, e)

none_has : {X : Type 0} (p : X → Bool) (xs : List X) (x : X) → find p xs ≡ None → Has xs x →
    p x ≡ true → ⊥
none_has p [] x e h same = h
none_has p (y ∷ xs) x e (inl is) same = let hit : p y ≡ true = ap p (sym is) ∙ same in
    let f : Some y ≡ None = rw hit at e in cc
none_has p (y ∷ xs) x e (inr later) same = elim (cases_Bool (p y)) [
  | inl hit ↦ let f : Some y ≡ None = rw hit at e in cc
  | inr miss ↦ none_has p xs x (rw miss at e) later same
]

module _ (schema : Schema) (table : Table) (tabled : Has schema.tables table) (index : Index)
    (listed : Has schema.indexes index)
    (guarding : guards index table ≡ true) (order : index.order ≡ plain)
    (columns_are : index.columns ≡ table.primary)
    (trees : Trees) (fits : Fits schema trees) (stored : IsStored (trees table.tree)) where
  looked : (key : Values) → look table trees key
      ≡ look_in row_cmp key (entries_of table.primary (trees table.tree))
  looked key = get-from_entries row_cmp_total (entries_of table.primary (trees table.tree)) key

  -- a stored row that meets a key without NULL is the row under it
  pub stands_under : (key : Values)
      → ((r : Values) → meets table.primary key r ≡ true →
      AllByRecursion (λ p. is_null (column r p) ≡ false) table.primary)
      → (r : Values) → Has (trees table.tree) r → meets table.primary key r ≡ true
      → look table trees key ≡ Some (drop 1 r)
  stands_under key full r h e =
      let it = met_has table.primary key (trees table.tree) r h e in
      let back = met_some table.primary key it.0 (trees table.tree) it.1 in
      looked key
      ∙ it.1
      ∙ ap Some (back.3 ∙ ap (drop 1) (one_row table.primary schema table tabled index listed
      guarding order columns_are trees fits stored key full back.0 r back.1 h back.2 e))

  -- and the row under a key is one that meets it
  pub under_stands : (key v : Values) → look table trees key ≡ Some v
      → (r : Values) × Has (trees table.tree) r × (meets table.primary key r ≡ true)
      × (v ≡ drop 1 r)
  under_stands key v e =
      met_some table.primary key v (trees table.tree) (sym (looked key) ∙ e)

module _ (schema : Schema) (table : Table) (tabled : Has schema.tables table) (index : Index)
    (listed : Has schema.indexes index)
    (guarding : guards index table ≡ true) (order : index.order ≡ plain)
    (columns_are : index.columns ≡ table.primary)
    (trees : Trees) (fits : Fits schema trees) (stored : IsStored (trees table.tree))
    {X : Type 0} (of : Values → Option X) (cells : X → Values) (columns : Values → Values)
    (test : Values → Bool) (xs : List X)
    (answered : AreAnswered test columns (trees table.tree) (map cells xs)) where
  -- where a row of the list that is wanted meets the key, and each live row under the key is
  -- selected and wanted, the first that is wanted is the row under the key, if it is live
  pub selection_tells : (key : Values) (is live : X → Bool)
      → ((r : Values) → meets table.primary key r ≡ true →
      AllByRecursion (λ p. is_null (column r p) ≡ false) table.primary)
      → ((x : X) (r : Values) → is x ≡ true → test r ≡ true → cells x ≡ columns r →
      (meets table.primary key r ≡ true) × (of (drop 1 r) ≡ Some x) × (live x ≡ true))
      → ((x : X) (r : Values) → meets table.primary key r ≡ true → of (drop 1 r) ≡ Some x →
      live x ≡ true →
      (test r ≡ true) × ((y : X) → columns r ≡ cells y → is y ≡ true))
      → find is xs ≡ passing live (option_and_then of (look table trees key))
  selection_tells key is live full from to = go (find is xs) refl
    where
      there : (r : Values) → Has (trees table.tree) r → meets table.primary key r ≡ true →
          look table trees key ≡
          Some (drop 1 r)
      there = stands_under schema table tabled index listed guarding order columns_are trees fits
          stored key full

      found : (x : X) → find is xs ≡ Some x →
          Some x ≡ passing live (option_and_then of (look table trees key))
      found x e =
          let h = has_found is xs x e in
          let it = answered.from (cells x) (mapped_to cells xs x h.0) in
          let f = from x it.0 h.1 it.2 it.3 in
          sym (ap (passing live) (ap (option_and_then of) (there it.0 it.1 f.0) ∙ f.1) ∙ ap
          (λ t. if t then Some x else None) f.2)

      missing : (o : Option X) → find is xs ≡ None → option_and_then of (look table trees key) ≡ o →
          None ≡ passing live o
      missing None none e = refl
      missing (Some x) none e = elim (cases_Bool (live x)) [
        | inl lives ↦
            let cell = bind_some of (look table trees key) x e in
            let back = under_stands schema table tabled index listed guarding order columns_are
            trees fits stored key cell.0 cell.1 in
            let t = to x back.0 back.2 (ap of (sym back.3) ∙ cell.2) lives in
            let it = mapped_from cells xs (columns back.0) (answered.to back.0 back.1 t.0) in
            absurd (none_has is xs it.0 none it.1 (t.1 it.0 it.2))
        | inr dead ↦ rw dead refl
      ]

      go : (o : Option X) → find is xs ≡ o →
          o ≡ passing live (option_and_then of (look table trees key))
      go None e = missing (option_and_then of (look table trees key)) e refl
      go (Some x) e = found x e
