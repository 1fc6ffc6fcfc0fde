-- What is written over tables in which each reservation has its book leaves such tables.
use Rattle.std.proofs.Common.{◌≡◌, ◌≤◌, ◌<◌, ◌∙◌, ◌++◌, ◌∷◌, ℕ, zero, suc, Bool, true, false, List}
use Rattle.std.proofs.Common.{[], Option, Some, None, refl, sym, ap, subst, arith, nat_le}
use Rattle.std.specs.Prelude.{◌&&◌, ◌||◌, if◌then◌else◌, is_some, map, option_map, slice_get, unwrap_or}
use Rattle.std.specs.List.{list_any}
use Rattle.std.proofs.lemmas.Bool.{and_from, and_parts}
use Rattle.std.proofs.lemmas.Bool.Decides.{nat_tests}
use Rattle.tariffs.specs.Books.{Book}
use Rattle.tariffs.specs.Names.{period_named}
use Rattle.shelves.specs.Shelves.{IsShelf, Shelf, dated_books, with_book}
use Rattle.shelves.specs.declared.dated.DatedBook.{DatedBook}
use Rattle.reserving.specs.Sessions.{group_in}
use Rattle.reserving.specs.Left.{first_of}
use Rattle.reserving.specs.Stored.{StoredRows}
use Rattle.reserving.specs.declared.session.Reservation.{Reservation}
use Rattle.reserving.specs.declared.session.SessionGroup.{SessionGroup}
use Rattle.commands.specs.declared.key.Key.{Key}
use Rattle.commands.specs.declared.key.Key.TheVariants.{Request, Reference}
use Rattle.commands.specs.Keys.{key_of}
use Rattle.keepers.specs.declared.kept_answer.KeptAnswer.{KeptAnswer}
use Rattle.keepers.specs.declared.loaded.Change.{Change}
use Rattle.keepers.specs.declared.loaded.Redeemed.{Redeemed}
use Rattle.keepers.specs.Naming.{IsNamed}
use Rattle.sql_rows.specs.Content.{TableRows, TablesContent, with_answer, with_meta, with_rows}
use Rattle.sql_rows.specs.Values.{Group, Kept, Meta, PeriodNames, reference_kind, request_kind}
use Rattle.sql_rules.specs.GrantContent.{AreOfBooks, are_all_of_book, is_of_book}
use Rattle.sql_rules.specs.GrantRows.{has_period_of, is_period_of}
use Rattle.sql_rules.specs.Ruled.{AreInRules, is_group}
use Rattle.sql_rules.specs.Columns.{is_small}
use Rattle.sql_rules.specs.Rules.{has_period, is_period_name}
use Rattle.sql_rules.proofs.Decoded.{are_named, periods_are}
use Rattle.sql_keeper.specs.Content.{is_reserved, names_numbered, shelf_names}
use Rattle.sql_keeper.specs.Migrates.{granted_in, with_granted}
use Rattle.sql_keeper.specs.RuledRows.{is_ruled_sweep}
use Rattle.sql_keeper.specs.Sweeps.{AreAllSwept, IsSweptOf, with_sweep}
use Rattle.sql_keeper.specs.Tests.{MayBeMade}
use Rattle.sql_keeper.specs.Writes.{AreTexts, columns_of, names_held, with_change}
use Rattle.sql_keeper.specs.Writes.{with_kept, with_redeemed, with_texts}
use Rattle.sql_keeper.specs.declared.swept_rows.SweptAccount.{SweptAccount}
use Rattle.sql_keeper.specs.Sweeps.{AreSweptRows}
use Rattle.sql_keeper.proofs.commits.Changed.{keyed_named, open_named, over_stored}
use Rattle.sql_keeper.proofs.puts.CountedPuts.{over_paid}
use Rattle.sql_keeper.proofs.puts.Groups.{book_over, book_put}
use Rattle.sql_keeper.proofs.puts.Overlays.{opened}
use Rattle.sql_keeper.proofs.rules.Tidy.{MayBeOver, each_at, may_be_over, written_is}
use Rattle.sql_keeper.proofs.rules.TidyChanges.{timely_named}
use Rattle.sql_keeper.proofs.rules.TidySweeps.{over, timely_found}
use Rattle.sql_keeper.proofs.sweeps.Swept.{found_one, row_after, rows_are, swept_at}

-- each reservation of each account has its book
abbrev pub AreAllOfBooks : Shelf → TablesContent → Type 0
AreAllOfBooks shelf c = (a : List ℕ) → AreOfBooks shelf (c.rows a)

-- ---- periods by their names

name_is : (ds : List DatedBook) (i : ℕ) (name : List ℕ)
    → has_period_of (option_map (λ (d : DatedBook). d.book) (slice_get ds i)) name
    ≡ is_some (period_named
    (unwrap_or (slice_get (map (λ (d : DatedBook). d.book.periods) ds) i) []) name)
name_is [] zero name = refl
name_is [] (suc i) name = refl
name_is (d ∷ ds) zero name = refl
name_is (d ∷ ds) (suc i) name = name_is ds i name

period_is : (shelf : Shelf) (n : ℕ) (name : List ℕ) → is_period_of shelf n name
    ≡ is_some (period_named (names_numbered (shelf_names shelf) n) name)
period_is shelf zero name = refl
period_is shelf (suc i) name = name_is (dated_books shelf) i name

-- ---- the rows of an account

module _ (shelf : Shelf) (w : StoredRows) (r : TableRows)
    (may : MayBeOver (shelf_names shelf) w r) (of' : AreOfBooks shelf r) where
  -- rule: rows-ruled.granted
  pub books_stored : AreOfBooks shelf (over_stored (shelf_names shelf) w r)
  books_stored s g = at (group_in s g w.groups) refl
    where
      put : (x : SessionGroup) (o : Option Reservation) → group_in s g w.groups ≡ Some x
          → x.reservation ≡ o
          → are_all_of_book shelf (book_put o) (option_map (names_held (shelf_names shelf)) o)
          ≡ true
      put x None e f = refl
      put x (Some y) e f =
          let names = names_held (shelf_names shelf) y in
          and_from (is_period_of shelf y.terms.book names.before)
          (is_period_of shelf y.terms.book names.after)
          (period_is shelf y.terms.book names.before ∙ ap is_some (may.before s g x y e f))
          (period_is shelf y.terms.book names.after ∙ ap is_some (may.after s g x y e f))

      at : (o : Option SessionGroup) → group_in s g w.groups ≡ o
          → is_of_book shelf (book_over o (r.grant_books s g))
          (first_of (option_map (columns_of (shelf_names shelf)) o) (r.groups s g)) ≡ true
      at None e = of' s g
      at (Some x) e = put x x.reservation e refl

-- ---- all that is written of an account

books_texts : (shelf : Shelf) (a : List ℕ) (key : Key) (k : Kept) (c : TablesContent)
    → AreAllOfBooks shelf c → AreAllOfBooks shelf (with_texts a key k c)
books_texts shelf a (Request s n) k c t =
    each_at (λ x. AreOfBooks shelf) a (with_answer request_kind s n k) c (λ own s g. own s g) t
books_texts shelf a (Reference x) k c t =
    each_at (λ x. AreOfBooks shelf) a (with_answer reference_kind x 0 k) c (λ own s g. own s g) t

books_kept : (shelf : Shelf) (a : List ℕ) (kept : Option KeptAnswer) (texts : Option Kept)
    (c : TablesContent) → AreAllOfBooks shelf c → AreAllOfBooks shelf (with_kept a kept texts c)
books_kept shelf a None texts c t = t
books_kept shelf a (Some k) None c t = t
books_kept shelf a (Some k) (Some x) c t = books_texts shelf a (key_of k.content) x c t

books_redeemed : (shelf : Shelf) (redeemed : Option Redeemed) (c : TablesContent)
    → AreAllOfBooks shelf c → AreAllOfBooks shelf (with_redeemed redeemed c)
books_redeemed shelf None c t = t
books_redeemed shelf (Some x) c t = t

-- ---- a change

-- rule: rows-ruled.granted
pub books_change : (shelf : Shelf) (m : Meta) (change : Change) (texts : Option Kept)
    (c : TablesContent)
    → IsNamed change.rows → MayBeMade (shelf_names shelf) change (c.rows change.number)
    → AreTexts change.number change.kept texts → AreAllOfBooks shelf c
    → AreAllOfBooks shelf (with_change (shelf_names shelf) m change texts c)
books_change shelf m change texts c named may told t =
    let a = change.number in
    let names = shelf_names shelf in
    let w = change.rows in
    let cs = change.charges.items in
    let keyed = keyed_named w named in
    let over' = may_be_over names a w cs change.kept texts change.redeemed m c w.sessions keyed
    may.reservations may.numbers told may.buckets may.moment
    (timely_named names change may.ruled) (open_named w.sessions (c.rows a)) in
    let rows : TablesContent = opened a (over_stored names w) (with_meta m c) in
    let stored : AreAllOfBooks shelf rows =
    each_at (λ x. AreOfBooks shelf) a (over_stored names w) (with_meta m c)
    (λ own. books_stored shelf w (c.rows a) over' own) t in
    let paid : AreAllOfBooks shelf (with_rows a (over_paid cs) rows) =
    each_at (λ x. AreOfBooks shelf) a (over_paid cs) rows (λ own s g. own s g) stored in
    books_redeemed shelf change.redeemed _ (books_kept shelf a change.kept texts _
    (subst (AreAllOfBooks shelf) (sym (written_is names a w cs change.kept texts change.redeemed m
    c w.sessions keyed may.reservations may.numbers told)) paid))

-- ---- a sweep

-- rule: rows-ruled.granted
pub books_sweep : (own : Shelf) (text : List ℕ) (shelf : Shelf) (t : ℕ) (c : TablesContent)
    (xs : List SweptAccount) → IsShelf shelf → AreAllSwept (shelf_names own) shelf t c xs
    → is_ruled_sweep (shelf_names own) t xs ≡ true → AreAllOfBooks own c → AreAllOfBooks own (with_sweep (shelf_names own) text t xs c)
books_sweep own text shelf t c xs ranges all ruled books a =
    let names = shelf_names own in
    subst (AreOfBooks own) (sym (rows_are names text shelf t c xs ranges all a))
    (at (swept_at a xs) refl)
  where
    at : (o : Option SweptAccount) → swept_at a xs ≡ o →
        AreOfBooks own (row_after (shelf_names own) o (c.rows a))
    at None e = books a
    at (Some x) e =
        let one = found_one (IsSweptOf (shelf_names own) shelf t c) a xs x all.each e in
        books_stored own x.rows (c.rows a) (over (shelf_names own) shelf t (c.rows a) x.rows
        (subst (λ n. AreSweptRows (shelf_names own) shelf t (c.rows n) x.rows) one.1 one.0)
        (timely_found (shelf_names own) t xs a x ruled e)) (books a)

-- ---- a book more

more_named : (ds more : List DatedBook) (i : ℕ) (name : List ℕ)
    → has_period_of (option_map (λ (d : DatedBook). d.book) (slice_get ds i)) name ≡ true
    → has_period_of (option_map (λ (d : DatedBook). d.book) (slice_get (ds ++ more) i)) name ≡ true
more_named [] more zero name e = absurd (cc e)
more_named [] more (suc i) name e = absurd (cc e)
more_named (d ∷ ds) more zero name e = e
more_named (d ∷ ds) more (suc i) name e = more_named ds more i name e

module _ (shelf : Shelf) (from : ℕ) (b : Book) where
  more_period : (n : ℕ) (name : List ℕ) → is_period_of shelf n name ≡ true
      → is_period_of (with_book shelf from b) n name ≡ true
  more_period zero name e = absurd (cc e)
  more_period (suc i) name e =
      more_named (dated_books shelf) (record { from = from; book = b } ∷ []) i name e

  -- rule: rows-ruled.granted
  pub books_more : (r : TableRows) → AreOfBooks shelf r → AreOfBooks (with_book shelf from b) r
  books_more r of' s g = at (r.groups s g) (of' s g)
    where
      held : (o : Option ℕ) (p : Option PeriodNames) → are_all_of_book shelf o p ≡ true
          → are_all_of_book (with_book shelf from b) o p ≡ true
      held o None e = refl
      held None (Some p) e = absurd (cc e)
      held (Some n) (Some p) e =
          let parts = and_parts (is_period_of shelf n p.before) (is_period_of shelf n p.after) e in
          and_from (is_period_of (with_book shelf from b) n p.before)
          (is_period_of (with_book shelf from b) n p.after) (more_period n p.before parts.0)
          (more_period n p.after parts.1)

      at : (x : Option Group) → is_of_book shelf (r.grant_books s g) x ≡ true
          → is_of_book (with_book shelf from b) (r.grant_books s g) x ≡ true
      at None e = refl
      at (Some x) e = held (r.grant_books s g) x.periods e

-- ---- a migration

-- the first book, where there is no other
first_period : (shelf : Shelf) (name : List ℕ) → shelf.later ≡ []
    → is_period_name shelf name ≡ true → is_period_of shelf 1 name ≡ true
first_period shelf name alone e =
    or_false (is_some (period_named shelf.first.periods name))
    (subst (λ (ds : List DatedBook). (is_some (period_named shelf.first.periods name)
    || list_any (has_period name) ds) ≡ true) alone e)
  where
    or_false : (b : Bool) → (b || false) ≡ true → b ≡ true
    or_false true h = refl
    or_false false h = absurd (cc h)

module _ (shelf : Shelf) (alone : shelf.later ≡ []) where
  first_of_book : (g : ℕ) (n : Option ℕ) (o : Option Group)
      → ((x : Group) → o ≡ Some x → is_group shelf g x ≡ true)
      → is_of_book shelf (if is_reserved o then Some 1 else n) o ≡ true
  first_of_book g n None ruled = refl
  first_of_book g n (Some x) ruled =
      held x.periods (sym (periods_are shelf x.periods) ∙ (and_parts
      (is_small g && nat_le x.used 1_000_000_000_000_000_000) _ (ruled x refl)).1)
    where
      held : (p : Option PeriodNames) → are_named shelf p ≡ true
          → are_all_of_book shelf (if is_some p then Some 1 else n) p ≡ true
      held None e = refl
      held (Some p) e =
          let parts = and_parts (is_period_name shelf p.before) (is_period_name shelf p.after) e in
          and_from (is_period_of shelf 1 p.before) (is_period_of shelf 1 p.after)
          (first_period shelf p.before alone parts.0) (first_period shelf p.after alone parts.1)

-- before version 2 there was no other book than the first
-- rule: rows-ruled.granted
pub books_granted : {last : ℕ} (shelf : Shelf) (v : ℕ) (c : TablesContent)
    → ((a : List ℕ) → AreInRules shelf last a (c.rows a)) → (v < 2 → shelf.later ≡ [])
    → (2 ≤ v → AreAllOfBooks shelf c) → AreAllOfBooks shelf (with_granted v c)
books_granted shelf v c in' alone have = at (nat_le 2 v) refl
  where
    at : (b : Bool) → nat_le 2 v ≡ b
        → AreAllOfBooks shelf (if b then c else record c { rows = λ a. granted_in (c.rows a) })
    at true e a s g = have (grind (arith, nat_tests, e)) a s g
    at false e a s g =
        first_of_book shelf (alone (grind (arith, nat_tests, e))) g ((c.rows a).grant_books s g)
        ((c.rows a).groups s g) (λ x is. (in' a).groups s g x is)
