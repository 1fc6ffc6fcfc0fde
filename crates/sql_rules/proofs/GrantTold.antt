-- What a walk over reservations, each with the row of its book, says of the rows of the tables.
use Rattle.std.proofs.Common.{◌≡◌, ◌≤◌, ◌<◌, ◌&&◌, ℕ, zero, suc, List, [], ◌∷◌, ◌++◌, Bool, true}
use Rattle.std.proofs.Common.{false, None, refl, sym, ap, subst, ◌∙◌, arith, IsTrue, length, nat_lt}
use Rattle.std.specs.Prelude.{option_map, slice_get}
use Rattle.std.specs.List.{AllByRecursion, list_all}
use Rattle.std.proofs.lemmas.Bool.{and_from, and_parts}
use Rattle.std.proofs.lemmas.Bool.Decides.{nat_tests}
use Rattle.shelves.specs.Shelves.{Shelf, book_numbered, count, dated_books}
use Rattle.shelves.specs.declared.dated.DatedBook.{DatedBook}
use Rattle.sqlite_value.specs.declared.value.Value.TheVariants.{Null}
use Rattle.sqlite_value.specs.Order.{Row, column}
use Rattle.sqlite_trees.specs.Tree.{Trees}
use Rattle.sqlite_trees.specs.declared.store.Store.{Ghosts}
use Rattle.sqlite_sql.specs.Program.{overlay}
use Rattle.sqlite_sql.specs.Query.{IsAnswer}
use Rattle.sqlite_schema.specs.declared.command.Command.TheVariants.{Select}
use Rattle.sqlite.specs.Effect.{Database}
use Rattle.sqlite.specs.Held.{Held, state}
use Rattle.sqlite.specs.State.{IsUnchanged, Shown, State}
use Rattle.sqlite.proofs.Callers.{reads_as}
use Rattle.sql_tables.specs.Opens.{IsVersion}
use Rattle.sql_tables.specs.Schema.{grant_books, schema_at, session_groups}
use Rattle.sql_tables.proofs.Steps.{and_true}
use Rattle.sql_rows.specs.Values.{nat}
use Rattle.sql_rules.specs.Beside.{is_equal}
use Rattle.sql_rules.specs.GrantRows.{HaveBooks, is_grant_row_of, is_granted_row, is_held_row}
use Rattle.sql_rules.proofs.GrantQuery.{HaveRows, have_rows, is_held, is_of, rows_have}
use Rattle.sql_rules.proofs.GrantTexts.{IsGrants, grant_query, grants_at, grants_text}

-- ---- books by their numbers

none_from : (ds : List DatedBook) (i : ℕ) → length ds ≤ i → slice_get ds i ≡ None
none_from [] zero high = refl
none_from [] (suc i) high = refl
none_from (d ∷ ds) zero high = absurd (omega (arith, high))
none_from (d ∷ ds) (suc i) high = none_from ds i (omega (arith, high))

-- there is none of a number after the last
pub none_numbered : (shelf : Shelf) (n : ℕ) → count shelf < n → None ≡ book_numbered shelf n
none_numbered shelf zero high = absurd (omega (arith, high))
none_numbered shelf (suc i) high =
    sym (ap (option_map (λ (d : DatedBook). d.book)) (none_from (dated_books shelf) i
    (omega (arith, high))))

-- ---- versions

pub never_both : (v : ℕ) → 2 ≤ v → nat_lt v 2 ≡ true → ⊥
never_both v late e = grind (arith, nat_tests, late, e)

pub from_two : (v : ℕ) → nat_lt v 2 ≡ false → 2 ≤ v
from_two v e = grind (arith, nat_tests, e)

-- ---- a list whose rows pass

pub one_more : (p : Row → Bool) (xs : List Row) (x : Row)
    → list_all p (xs ++ x ∷ []) ≡ (list_all p xs && p x)
one_more p [] x = and_true (p x)
one_more p (y ∷ xs) x = at (p y) (one_more p xs x)
  where
    at : (b : Bool) → list_all p (xs ++ x ∷ []) ≡ (list_all p xs && p x)
        → (b && list_all p (xs ++ x ∷ [])) ≡ ((b && list_all p xs) && p x)
    at true e = e
    at false e = refl

each_of : (p : Row → Bool) (xs : List Row) → list_all p xs ≡ true
    → AllByRecursion (λ x. IsTrue (p x)) xs
each_of p [] e = tt
each_of p (x ∷ xs) e =
    let parts = and_parts (p x) (list_all p xs) e in (parts.0, each_of p xs parts.1)

of_each : (p : Row → Bool) (xs : List Row) → AllByRecursion (λ x. IsTrue (p x)) xs
    → list_all p xs ≡ true
of_each p [] all = refl
of_each p (x ∷ xs) all = and_from (p x) (list_all p xs) all.0 (of_each p xs all.1)

-- ---- tests of SQL

last_three : (b c d : Bool) → (b && (c && (d && true))) ≡ (b && c && d)
last_three true true d = and_true d
last_three true false d = refl
last_three false c d = refl

held_is : (r s : Row) → is_held r s ≡ is_held_row r
held_is r s = and_true (is_equal (column r 5) (nat 1))

of_is : (r s : Row) → is_of r s ≡ is_grant_row_of r s
of_is r s = last_three (is_equal (column s 1) (column r 1)) (is_equal (column s 2) (column r 2))
    (is_equal (column s 3) (column r 3))

rows_of_books : (shelf : Shelf) (trees : Trees) → HaveBooks shelf trees
    → HaveRows (is_granted_row shelf) (trees session_groups.tree) (trees grant_books.tree)
rows_of_books shelf trees have = record {
  there = λ r h e.
      let it = have.there r h (sym (held_is r []) ∙ e) in
      (it.0, it.1, of_is r it.0 ∙ it.2);
  pass = λ r s h e k o. have.periods r s h (sym (held_is r []) ∙ e) k (sym (of_is r s) ∙ o);
}

books_of_rows : (shelf : Shelf) (trees : Trees)
    → HaveRows (is_granted_row shelf) (trees session_groups.tree) (trees grant_books.tree)
    → HaveBooks shelf trees
books_of_rows shelf trees have = record {
  there = λ r h e.
      let it = have.there r h (held_is r [] ∙ e) in
      (it.0, it.1, sym (of_is r it.0) ∙ it.2);
  periods = λ r s h e k o. have.pass r s h (held_is r [] ∙ e) k (of_is r s ∙ o);
}

-- ---- the walk

module _ {S : Type 0} (g : Ghosts S) (shelf : Shelf) (v : ℕ) (known : IsVersion v) (late : 2 ≤ v)
    (old was : Held S) (new : State) (rows : List Row)
    (then' : IsUnchanged (state g old) (state g was))
    (shown : Shown grants_text [] (state g was) new rows)
    (so : (state g old).now.schema ≡ schema_at v) where
  is : IsGrants v grants_text
  is = grants_at v known late

  stays : (state g was).now ≡ (state g old).now
  stays = then'.0.now_is

  has : (state g was).now.schema ≡ schema_at v
  has = ap (λ (d : Database). d.schema) stays ∙ so

  answer : IsAnswer grant_query (overlay (state g was).now.trees []) [] rows
  answer = (reads_as grants_text [] (state g was) new (schema_at v) has
      (Select (record { lets = []; body = grant_query }) is.names) is.command is.plain is.listing
      rows shown).answer Null

  -- rule: rows-ruled.granted
  pub grants_stand : list_all (is_granted_row shelf) rows ≡ true →
      HaveBooks shelf (state g old).now.trees
  grants_stand all =
      subst (λ (d : Database). HaveBooks shelf d.trees) stays
      (books_of_rows shelf (state g was).now.trees
      (rows_have (is_granted_row shelf) (λ r. refl) (state g was).now.trees rows answer
      (each_of (is_granted_row shelf) rows all)))

  -- rule: rows-ruled.granted
  pub grants_pass : HaveBooks shelf (state g old).now.trees →
      list_all (is_granted_row shelf) rows ≡ true
  grants_pass have =
      of_each (is_granted_row shelf) rows
      (have_rows (is_granted_row shelf) (λ r. refl) (state g was).now.trees rows answer
      (rows_of_books shelf (state g was).now.trees
      (subst (λ (d : Database). HaveBooks shelf d.trees) (sym stays) have)))
