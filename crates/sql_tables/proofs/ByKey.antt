-- What a selection that was decoded says of the rows under a key.
use Rattle.std.proofs.Common.{◌≡◌, List, map, drop, Bool, true, false, ◌&&◌, Some, None}
use Rattle.std.proofs.Common.{Option, refl, sym, ap, ◌∙◌}
use Rattle.std.specs.Prelude.{option_and_then, option_map}
use Rattle.std.proofs.lemmas.Bool.{and_parts, and_from}
use Rattle.std.specs.List.{AllByRecursion, find}
use Rattle.std.specs.Ordering.{eq_by_cmp}
use Rattle.std.proofs.lemmas.Option.{same_Some}
use Rattle.sqlite_value.specs.Order.{Row, row_cmp}
use Rattle.sqlite_trees.specs.Tree.{Trees}
use Rattle.sqlite_sql.specs.Ops.{is_null}
use Rattle.sqlite_schema.specs.declared.schema.Table.{Table}
use Rattle.sqlite_schema.specs.Rules.{Fits, guards}
use Rattle.sqlite_rules.specs.Lists.{Has}
use Rattle.sql_tables.specs.Keyed.{key_of, look, IsStored}
use Rattle.sql_tables.specs.Schema.{our_schema, key_index}
use Rattle.sql_tables.specs.Selects.{Selects, passing, one_or_none}
use Rattle.sql_tables.proofs.Keys.{keys_back}
use Rattle.sql_tables.proofs.Selected.{AreAnswered, selected}
use Rattle.sql_tables.proofs.Selections.{meets, full_key, selection_tells}

mapped_some : {X : Type 0} (of : Row → X) (o : Option Row) →
    option_and_then (λ v. Some (of v)) o ≡ option_map of o
mapped_some of None = refl
mapped_some of (Some v) = refl

pub only_all : {X : Type 0} (o : Option X) → passing (λ x. true) o ≡ o
only_all None = refl
only_all (Some x) = refl

first_in : {X : Type 0} (o : Option X) → find (λ x. true) (one_or_none o) ≡ o
first_in None = refl
first_in (Some x) = refl

module _ (table : Table) (tabled : Has our_schema.tables table)
    (listed : Has our_schema.indexes (key_index table)) (guarding : guards (key_index table) table
    ≡ true) (trees : Trees) (fits : Fits our_schema trees) (stored : IsStored (trees table.tree))
    {X : Type 0} (of : Row → X) (cells : X → Row) (columns : Row → Row)
    (test : Row → Bool) (key : Row) (full : AllByRecursion (λ v. is_null v ≡ false) key)
    (back : (x : X) (r : Row) → meets table.primary key r ≡ true → cells x ≡ columns r →
    of (drop 1 r) ≡ x) where
  -- the row under the whole key
  pub one_told : ((r : Row) → test r ≡ eq_by_cmp row_cmp (key_of table.primary r) key)
      → (o : Option X) → Selects test columns (trees table.tree) (map cells (one_or_none o))
      → o ≡ option_map of (look table trees key)
  one_told means o selects =
      sym (first_in o)
      ∙ selection_tells our_schema table tabled
      (key_index table) listed guarding refl refl trees fits stored
      (λ v. Some (of v)) cells columns test (one_or_none o)
      (selected test columns (trees table.tree) (map cells (one_or_none o)) selects)
      key (λ x. true) (λ x. true)
      (λ r e. full_key table.primary key r full e)
      (λ x r wanted t is. let m = keys_back (key_of table.primary r) key (sym (means r) ∙ t) in
      (m, ap Some (back x r m is), refl))
      (λ x r m d l. (means r ∙ keys_back key (key_of table.primary r) m, λ y e. refl))
      ∙ only_all _ ∙ mapped_some of (look table trees key)

  -- the row under the key among those that a front of it selects, if it is live
  pub answered_told : (is live : X → Bool) (front rest extra : Row → Bool)
      → ((r : Row) → test r ≡ (front r && extra r))
      → ((r : Row) → meets table.primary key r ≡ (front r && rest r))
      → ((x : X) (r : Row) → cells x ≡ columns r → rest r ≡ is x)
      → ((r : Row) → meets table.primary key r ≡ true → live (of (drop 1 r)) ≡ true →
      extra r ≡ true)
      → ((x : X) (r : Row) → extra r ≡ true → cells x ≡ columns r → live x ≡ true)
      → (xs : List X) → AreAnswered test columns (trees table.tree) (map cells xs)
      → find is xs ≡ passing live (option_map of (look table trees key))
  answered_told is live front rest extra tests splits wanted lives told xs answered =
      selection_tells our_schema table tabled
      (key_index table) listed guarding refl refl trees fits stored
      (λ v. Some (of v)) cells columns test xs answered key is live
      (λ r e. full_key table.primary key r full e) (λ x r w t same.
      let both = and_parts (front r) (extra r) (sym (tests r) ∙ t) in
      let m = splits r ∙ and_from _ _ both.0 (wanted x r same ∙ w) in
      (m, ap Some (back x r m same), told x r both.1 same))
      (λ x r m d l.
      let both = and_parts (front r) (rest r) (sym (splits r) ∙ m) in (
        tests r ∙ and_from _ _ both.0 (lives r m (ap live (same_Some _ _ d) ∙ l)),
        λ y e. sym (wanted y r (sym e)) ∙ both.1,
      ))
      ∙ ap (passing live) (mapped_some of (look table trees key))

  pub listed_told : (is live : X → Bool) (front rest extra : Row → Bool)
      → ((r : Row) → test r ≡ (front r && extra r))
      → ((r : Row) → meets table.primary key r ≡ (front r && rest r))
      → ((x : X) (r : Row) → cells x ≡ columns r → rest r ≡ is x)
      → ((r : Row) → meets table.primary key r ≡ true → live (of (drop 1 r)) ≡ true →
      extra r ≡ true)
      → ((x : X) (r : Row) → extra r ≡ true → cells x ≡ columns r → live x ≡ true)
      → (xs : List X) → Selects test columns (trees table.tree) (map cells xs)
      → find is xs ≡ passing live (option_map of (look table trees key))
  listed_told is live front rest extra tests splits wanted lives told xs selects =
      answered_told is live front rest extra tests splits wanted lives told xs
      (selected test columns (trees table.tree) (map cells xs) selects)
