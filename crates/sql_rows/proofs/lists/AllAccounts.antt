-- The accounts of tables that obey their rules can be listed, each once.
use Rattle.std.proofs.Common.{◌≡◌, inl, inr, ℕ, List, [], ◌∷◌, map, drop, filter, length, Bool}
use Rattle.std.proofs.Common.{true, false, ◌||◌, cond, is_eq, Some, None, Option, refl, sym, ap}
use Rattle.std.proofs.Common.{subst, ◌∙◌}
use Rattle.std.specs.Prelude.{is_some}
use Rattle.std.specs.Cmp.Lexicographic.{nat_list_eq_equiv}
use Rattle.std.specs.List.{AllByRecursion, IsDistinct, find, list_any}
use Rattle.std.specs.List.Sorted.{IsPermutation}
use Rattle.std.proofs.lemmas.Bool.{and_parts}
use Rattle.std.proofs.lemmas.List.{length-map}
use Rattle.std.proofs.lemmas.List.Sorted.{IsPermutation-refl, length_permutation}
use Rattle.std.proofs.lemmas.Map.Made.{length-from_same_keys}
use Rattle.sqlite_value.specs.declared.value.Value.TheVariants.{Text}
use Rattle.sqlite_value.specs.Order.{Row, column, value_cmp}
use Rattle.sqlite_schema.specs.declared.schema.Kind.TheVariants as kind
use Rattle.sqlite_schema.specs.declared.schema.Constraint.TheVariants.{Datatype, NotNull}
use Rattle.sqlite_schema.specs.Rules.{Fits, are_present, are_typed, is_of}
use Rattle.sqlite_trees.specs.Tree.{Trees}
use Rattle.sqlite_rules.specs.Lists.{Has}
use Rattle.sqlite_rules.proofs.ListLemmas.{all_has}
use Rattle.sql_tables.specs.Keyed.{IsStored, same_name}
use Rattle.sql_tables.specs.Schema.{accounts, our_schema}
use Rattle.sql_tables.specs.Selects.{Selects}
use Rattle.sql_tables.proofs.ByKey.{listed_told, only_all}
use Rattle.sql_tables.proofs.Found.{is_some_map}
use Rattle.sql_tables.proofs.Keys.{keys_split, text_tie}
use Rattle.sql_tables.proofs.Selections.{meets}
use Rattle.sql_tables.proofs.Steps.{and_true, mapped_from}
use Rattle.ledger.specs.Lists.{EachIn}
use Rattle.reserving.specs.Rows.{AreApart}
use Rattle.sql_rows.specs.Values.{head_key, head_in, text_in}
use Rattle.sql_rows.specs.Content.{TablesContent, tables_content}
use Rattle.sql_rows.specs.Lists.{AreAccounts}
use Rattle.sql_rows.proofs.lists.AccountsApart.{columns, all_kept, accounts_apart}
use Rattle.sql_rows.proofs.rules.MetaRules.{full_at, text_of}
use Rattle.sql_rows.proofs.rules.RowRules.{IsRowOf, listed}

-- ---- a stored row has a name

typed : (row : Row) → are_typed None 0 accounts.columns (drop 1 row) ≡ true
    → full_at row 1 ≡ true → column row 1 ≡ Text (text_in (column row 1))
typed [] kinds there = absurd (let no : false ≡ true = there in cc)
typed (x ∷ []) kinds there = absurd (let no : false ≡ true = there in cc)
typed (x ∷ v ∷ vs) kinds there =
    text_of v
    (and_parts (is_of kind.Text v) (are_typed None 1 (drop 1 accounts.columns) vs) kinds).0 there

named : (trees : Trees) → Fits our_schema trees → (row : Row) → Has (trees 2) row
    → columns row ≡ head_key (text_in (column row 1))
named trees fits row has =
    ap (λ v. v ∷ []) (typed row
    (and_parts (are_typed None 0 accounts.columns (drop 1 row)) true
    (all_has _ (trees 2) row (fits.rules Datatype (λ e. cc)).1.0 has)).0
    (and_parts (full_at row 1) (are_present None 1 (drop 1 accounts.columns) row)
    (all_has _ (trees 2) row (fits.rules NotNull (λ e. cc)).1.0 has)).0)

-- ---- what is under a name

abbrev name_in : Row → List ℕ
name_in v = text_in (column v 0)

same_name_in : (r : Row) → name_in (drop 1 r) ≡ name_in (columns r)
same_name_in [] = refl
same_name_in (v ∷ vs) = refl

back : (x : List ℕ) (r : Row) → head_key x ≡ columns r → name_in (drop 1 r) ≡ x
back x r is = same_name_in r ∙ ap name_in (sym is)

abbrev is_named : List ℕ → Row → Bool
is_named a r = is_eq (value_cmp (Text a) (column r 1))

splits : (a : List ℕ) (r : Row) → meets (1 ∷ []) (head_key a) r ≡ is_named a r
splits a r = keys_split (Text a) (column r 1) [] [] ∙ and_true _

wanted : (a x : List ℕ) (r : Row) → head_key x ≡ columns r → is_named a r ≡ same_name x a
wanted a x r is = ap (λ (w : Row). is_eq (value_cmp (Text a) (column w 0))) (sym is) ∙ text_tie x a

-- ---- all of them

are_accounts : (trees : Trees) → Fits our_schema trees → IsStored (trees 2)
    → (xs : List (List ℕ)) → Selects (λ r. true) columns (trees 2) (map head_key xs)
    → AreAccounts (tables_content trees) xs
are_accounts trees fits stored xs selects = record {
  found = λ a.
      ap is_some (listed_told accounts (inr (inl refl)) (inr (inl refl)) refl trees fits stored
      name_in head_key columns (λ r. true) (head_key a) (refl, tt) (λ x r m. back x r)
      (λ x. same_name x a) (λ x. true) (λ r. true) (is_named a) (λ r. true) (λ r. refl) (splits a)
      (wanted a) (λ r m h. refl) (λ x r e same. refl) xs selects ∙ only_all _)
      ∙ is_some_map name_in _ ∙ sym (is_some_map head_in _);
  count =
      sym (length-map xs head_key) ∙ length_permutation _ (map head_key xs) selects.same
      ∙ length-map _ columns ∙ ap length (all_kept (trees 2));
  apart = accounts_apart trees fits stored xs selects;
}

-- the names of all rows of the table
-- rule: statements-of-tables.tables-content
pub all_accounts : (trees : Trees) → Fits our_schema trees → IsStored (trees 2)
    → (xs : List (List ℕ)) × AreAccounts (tables_content trees) xs
all_accounts trees fits stored =
    let it = listed head_key (λ a. Unit {0}) (map columns (trees 2)) row_in in (
      it.xs,
      are_accounts trees fits stored it.xs (record {
        same = subst (IsPermutation (map columns (filter (λ r. true) (trees 2))))
            (ap (map columns) (all_kept (trees 2)) ∙ it.are) (IsPermutation-refl _);
      }),
    )
  where
    row_in : (w : Row) → Has (map columns (trees 2)) w → IsRowOf head_key (λ a. Unit {0}) w
    row_in w h =
        let from = mapped_from columns (trees 2) w h in
        record {
          at = text_in (column from.0 1);
          is = from.2 ∙ named trees fits from.0 from.1;
          stands = tt;
        }

-- ---- names that tell the same

distinct_each : (x : List ℕ) (xs : List (List ℕ)) → EachIn (λ y. same_name y x ≡ false) xs
    → AllByRecursion (λ y. same_name x y ≡ false) xs
distinct_each x [] h = tt
distinct_each x (y ∷ ys) h = (nat_list_eq_equiv.symm x y ∙ h.0, distinct_each x ys h.1)

distinct : (xs : List (List ℕ)) → AreApart (λ x y. same_name y x) xs → IsDistinct same_name xs
unfolding IsDistinct
distinct [] h = tt
distinct (x ∷ xs) h = (distinct_each x xs h.0, distinct xs h.1)

either : (x : List ℕ) (o : Option (List ℕ)) (p q rest : Bool) → p ≡ q → is_some o ≡ rest
    → is_some (cond p (Some x) o) ≡ (q || rest)
either x o true true rest same later = refl
either x o false false rest same later = later
either x o true false rest same later = absurd (cc)
either x o false true rest same later = absurd (cc)

member : (a : List ℕ) (xs : List (List ℕ))
    → is_some (find (λ x. same_name x a) xs) ≡ list_any (same_name a) xs
member a [] = refl
member a (x ∷ xs) =
    either x (find (λ y. same_name y a) xs) (same_name x a) (same_name a x)
    (list_any (same_name a) xs) (nat_list_eq_equiv.symm x a) (member a xs)

-- names with the same finds, of which no two are the same, are as many: they are all accounts too
pub as_many : (content : TablesContent) (xs ys : List (List ℕ)) → AreAccounts content ys
    → ((a : List ℕ) → is_some (find (λ x. same_name x a) xs) ≡ is_some (content.rows a).head)
    → AreApart (λ x y. same_name y x) xs
    → AreAccounts content xs
as_many content xs ys all found apart = record {
  found = found;
  count =
      length-from_same_keys nat_list_eq_equiv xs ys (distinct xs apart) (distinct ys all.apart)
      (λ a. sym (member a xs) ∙ found a ∙ sym (all.found a) ∙ member a ys) ∙ all.count;
  apart = apart;
}
