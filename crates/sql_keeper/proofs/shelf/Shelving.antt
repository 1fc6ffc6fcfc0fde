-- The shelf of a text and of rows, as its books are read one after another.
use Rattle.std.proofs.Common.{◌≡◌, ◌≤◌, ◌<◌, ◌⊎◌, inl, inr, ◌+◌, ◌∙◌, ◌++◌, ◌&&◌, ◌||◌, ℕ, suc}
use Rattle.std.proofs.Common.{Bool, true, false, not, List, [], ◌∷◌, Option, Some, None, cond}
use Rattle.std.proofs.Common.{refl, sym, ap, ap₂, subst, arith, length, length-append, nat_eq}
use Rattle.std.proofs.Common.{eq-eqb, eqb-true, map}
use Rattle.std.specs.Prelude.{option_map, nat_le, if◌then◌else◌, ◌==◌}
use Rattle.std.specs.List.{find, list_all}
use Rattle.std.proofs.lemmas.Bool.{and_parts, and_from}
use Rattle.std.proofs.lemmas.Bool.Decides.{nat_tests}
use Rattle.tariffs.specs.Books.{Book}
use Rattle.shelves.specs.Shelves.{AreInSequence, Follows, IsShelf, Shelf, count, last_book}
use Rattle.shelves.specs.Shelves.{last_book_of, last_from, last_from_of, with_book}
use Rattle.shelves.specs.Succession.{shelf_fault}
use Rattle.shelves.specs.declared.dated.DatedBook.{DatedBook}
use Rattle.shelves.specs.declared.fault.ShelfFault.TheVariants.{Full, TooEarly, OtherZone}
use Rattle.shelves.specs.declared.fault.ShelfFault.TheVariants.{GroupMissing, GroupDiffers}
use Rattle.shelves.proofs.Begun.{unbegun_test}
use Rattle.sql_rows.specs.Lists.{BookAt}
use Rattle.sql_rows.specs.Texts.{book_at}
use Rattle.sql_rows.specs.Values.{BookRow}
use Rattle.sql_rows.specs.declared.book_rows.BookColumns.{BookColumns}
use Rattle.sql_keeper.specs.Books.{IsBookOf}
use Rattle.sql_keeper.specs.Shelves.{AreLater, AreOnly, AreShelved, HasShelf, IsDatedAt, IsDatedOf}
use Rattle.sql_keeper.specs.Shelves.{IsNoneBehind, IsOnlyAt, IsRefusedRow, IsShelfOf}
use Rattle.sql_keeper.specs.Shelves.{IsShelfRead, IsShelved, are_up_to, row_numbered}

-- ---- one row

-- ---- which book may follow

follows_at : (first : Book) (from : ℕ) (last : Book) (ds : List DatedBook) (e : DatedBook)
    (es : List DatedBook) → AreInSequence first from last (ds ++ e ∷ es)
    → (last_from from ds < e.from) × Follows first (last_book last ds) e.book
follows_at first from last [] e es h = (h.1, h.2)
follows_at first from last (d ∷ ds) e es h = follows_at first d.from d.book ds e es h.3

no_fault : (s : Shelf) (from : ℕ) (b : Book) → length s.later < 15 → last_from_of s < from
    → Follows s.first (last_book_of s) b → shelf_fault s from b 0 ≡ None
no_fault s from b few late follows =
    let full = unbegun_test 15 (length s.later) few in
    let early = unbegun_test from (last_from_of s) late in
    let before = unbegun_test from 0 (omega (arith, late)) in
    λ i. if full i then Some Full
    else (if early i || before i then Some TooEarly
    else (if not (follows.one_zone i) then Some OtherZone
    else (if not (follows.groups i) then Some GroupMissing
    else (if not (follows.alike i) then Some GroupDiffers else None))))

-- ---- the books of rows

only_dated : (o : Option BookRow) (d : DatedBook) → IsOnlyAt o d → IsDatedAt o d
only_dated None d only = only
only_dated (Some x) d only = only.dated

same_book : (o : Option BookRow) (d e : DatedBook) → IsOnlyAt o d → IsDatedAt o e → e ≡ d
same_book None d e only dated = absurd only
same_book (Some x) d e only dated =
    let from : e.from ≡ d.from = sym dated.starts ∙ only.dated.starts in
    let book : e.book ≡ d.book = only.only e.book dated.book in
    λ i. record { from = from i; book = book i }

no_row : (o : Option BookRow) (d : DatedBook) → IsDatedAt o d → o ≡ None → ⊥
no_row None d dated none = dated
no_row (Some x) d dated none = cc

one_after : (n k : ℕ) → n + suc k ≡ n + 1 + k
one_after n k = omega arith

none_after : (n : ℕ) → n ≡ n + 0
none_after n = omega arith

two_after : (k : ℕ) → 2 + k ≡ suc (suc k)
two_after k = omega arith

module _ (rows : ℕ → Option BookRow) where
  only_more : (n : ℕ) (ds : List DatedBook) (d : DatedBook) → AreOnly rows n ds
      → IsOnlyAt (rows (n + length ds)) d → AreOnly rows n (ds ++ d ∷ [])
  only_more n [] d h last =
      (subst (λ m. IsOnlyAt (rows m) d) (sym (none_after n)) last, tt)
  only_more n (x ∷ xs) d h last = (
    h.0,
    only_more (n + 1) xs d h.1
        (subst (λ m. IsOnlyAt (rows m) d) (one_after n (length xs)) last),
  )

  only_later : (n : ℕ) (ds : List DatedBook) → AreOnly rows n ds → AreLater rows n ds
  only_later n [] h = tt
  only_later n (d ∷ ds) h = (only_dated (rows n) d h.0, only_later (n + 1) ds h.1)

  -- other books of the rows go on behind these
  record GoOn (n : ℕ) (ds later : List DatedBook) : Type 0 where
    pub rest : List DatedBook
    pub is : later ≡ ds ++ rest
    pub follow : AreLater rows (n + length ds) rest

  go_on : (n : ℕ) (ds later : List DatedBook) → AreOnly rows n ds → AreLater rows n later
      → ((m : ℕ) → n + length later ≤ m → rows m ≡ None) → GoOn n ds later
  go_on n [] later only dated none = record {
    rest = later;
    is = refl;
    follow = subst (λ m. AreLater rows m later) (none_after n) dated;
  }
  go_on n (d ∷ ds) [] only dated none =
      absurd (no_row (rows n) d (only_dated (rows n) d only.0) (none n (omega arith)))
  go_on n (d ∷ ds) (e ∷ es) only dated none =
      let more = go_on (n + 1) ds es only.1 dated.1 (λ m low. none m (omega (arith, low))) in
      record {
        rest = more.rest;
        is = ap₂ ◌∷◌ (same_book (rows n) d e only.0 dated.0) more.is;
        follow = subst (λ m. AreLater rows m more.rest) (sym (one_after n (length ds)))
            more.follow;
      }

  -- ---- another shelf of the rows

  module _ (s : Shelf) (only : AreOnly rows 2 s.later) (text : List ℕ) (t : Shelf)
      (first : s.first ≡ t.first) (h : IsShelfOf text rows t) where
    goes_on : GoOn 2 s.later t.later
    goes_on = go_on 2 s.later t.later only h.later (λ m low. h.none m (inr (omega (arith, low))))

    long : (rest : List DatedBook) → t.later ≡ s.later ++ rest
        → length t.later ≡ length s.later + length rest
    long rest is = ap length is ∙ length-append s.later rest

    -- the row behind those of the first is refused
    pub none_more : (x : BookRow) → rows (suc (count s)) ≡ Some x → IsRefusedRow x s → ⊥
    none_more x there refused = at goes_on.rest goes_on.is goes_on.follow
      where
        at : (rest : List DatedBook) → t.later ≡ s.later ++ rest
            → AreLater rows (2 + length s.later) rest → ⊥
        at [] is follow =
            let same : length t.later ≡ length s.later + 0 = long [] is in
            let none = h.none (suc (count s)) (inr (omega (arith, same))) in
            let no : Some x ≡ None = sym there ∙ none in cc
        at (e ∷ es) is follow =
            let more : length t.later ≡ length s.later + suc (length es) = long (e ∷ es) is in
            let many : length t.later ≤ 15 = h.is.few in
            let dated : IsDatedOf x e =
            subst (λ o. IsDatedAt o e) (ap rows (two_after (length s.later)) ∙ there) follow.0 in
            let sequence : AreInSequence s.first 0 s.first (s.later ++ e ∷ es) =
            subst (λ (l : List DatedBook). AreInSequence s.first 0 s.first l) is
            (subst (λ (b : Book). AreInSequence b 0 b t.later) (sym first) h.is.later) in
            let behind = follows_at s.first 0 s.first s.later e es sequence in
            let free : shelf_fault s e.from e.book 0 ≡ None =
            no_fault s e.from e.book (omega (arith, more, many)) behind.0 behind.1 in
            refused e.book dated.book
            (ap (λ n. shelf_fault s n e.book 0) dated.starts ∙ free)

    -- it has no book more
    pub same_count : (rows (suc (count s)) ≡ None) ⊎ (16 ≤ count s) → count t ≡ count s
    same_count last = at goes_on.rest goes_on.is goes_on.follow last
      where
        at : (rest : List DatedBook) → t.later ≡ s.later ++ rest
            → AreLater rows (2 + length s.later) rest
            → (rows (suc (count s)) ≡ None) ⊎ (16 ≤ count s) → count t ≡ count s
        at [] is follow last =
            let same : length t.later ≡ length s.later + 0 = long [] is in omega (arith, same)
        at (e ∷ es) is follow (inl none) =
            absurd (no_row (rows (2 + length s.later)) e follow.0
            (ap rows (two_after (length s.later)) ∙ none))
        at (e ∷ es) is follow (inr many) =
            let more : length t.later ≡ length s.later + suc (length es) = long (e ∷ es) is in
            let few : length t.later ≤ 15 = h.is.few in absurd (omega (arith, more, few, many))

-- ---- the numbers of rows

here : (x : BookAt) (o : Option BookAt)
    → option_map (λ (y : BookAt). y.row) (cond (nat_eq x.number x.number) (Some x) o) ≡ None → ⊥
here x o h =
    let yes' : nat_eq x.number x.number ≡ true = eq-eqb x.number x.number refl in
    let some : Some x.row ≡ None =
    sym (ap (λ b. option_map (λ (y : BookAt). y.row) (cond b (Some x) o)) yes') ∙ h in cc

numbers_in : (k : ℕ) (xs : List BookAt)
    → ((n : ℕ) → (n < 2) ⊎ (k < n) → row_numbered n xs ≡ None) → are_up_to k xs ≡ true
numbers_in k [] none = refl
numbers_in k (x ∷ xs) none =
    and_from _ _ (this (nat_le 2 x.number) (nat_le x.number k) refl refl)
    (numbers_in k xs (λ n out. later n (nat_eq x.number n) (none n out)))
  where
    later : (n : ℕ) (b : Bool)
        → option_map (λ (y : BookAt). y.row) (cond b (Some x) (find (λ y. nat_eq y.number n) xs))
        ≡ None → row_numbered n xs ≡ None
    later n true h = absurd (cc)
    later n false h = h

    this : (p q : Bool) → nat_le 2 x.number ≡ p → nat_le x.number k ≡ q → (p && q) ≡ true
    this true true e f = refl
    this false q e f =
        absurd (here x (find (λ y. nat_eq y.number x.number) xs)
        (none x.number (inl (grind (arith, nat_tests, e)))))
    this true false e f =
        absurd (here x (find (λ y. nat_eq y.number x.number) xs)
        (none x.number (inr (grind (arith, nat_tests, f)))))

none_out : (k : ℕ) (xs : List BookAt) → are_up_to k xs ≡ true → (n : ℕ) → (n < 2) ⊎ (k < n)
    → row_numbered n xs ≡ None
none_out k [] all n out = refl
none_out k (x ∷ xs) all n out =
    let both = and_parts (nat_le 2 x.number && nat_le x.number k) (are_up_to k xs) all in
    let ends = and_parts (nat_le 2 x.number) (nat_le x.number k) both.0 in
    at (nat_eq x.number n) refl ends.0 ends.1 out (none_out k xs both.1 n out)
  where
    at : (b : Bool) → nat_eq x.number n ≡ b → nat_le 2 x.number ≡ true
        → nat_le x.number k ≡ true → (n < 2) ⊎ (k < n) → row_numbered n xs ≡ None
        → option_map (λ (y : BookAt). y.row) (cond b (Some x) (find (λ y. nat_eq y.number n) xs))
        ≡ None
    at false e low high out rest = rest
    at true e low high (inl out) rest =
        absurd (let same : x.number ≡ n = eqb-true x.number n e in
        grind (arith, nat_tests, same, low, out))
    at true e low high (inr out) rest =
        absurd (let same : x.number ≡ n = eqb-true x.number n e in
        grind (arith, nat_tests, same, high, out))

-- ---- as they are read

pub row_told : (n : ℕ) (rows : List BookColumns)
    → option_map (λ (x : BookColumns). (book_at x).row) (find (λ x. x.number == n) rows)
    ≡ row_numbered n (map book_at rows)
row_told n [] = refl
row_told n (x ∷ xs) = at (nat_eq x.number n) (row_told n xs)
  where
    at : (b : Bool)
        → option_map (λ (y : BookColumns). (book_at y).row) (find (λ y. y.number == n) xs)
        ≡ row_numbered n (map book_at xs)
        → option_map (λ (y : BookColumns). (book_at y).row)
        (cond b (Some x) (find (λ y. y.number == n) xs))
        ≡ option_map (λ (y : BookAt). y.row)
        (cond b (Some (book_at x)) (find (λ y. nat_eq y.number n) (map book_at xs)))
    at true same = refl
    at false same = same

pub up_told : (n : ℕ) (rows : List BookColumns)
    → list_all (λ (x : BookColumns). nat_le 2 x.number && nat_le x.number n) rows
    ≡ are_up_to n (map book_at rows)
up_told n [] = refl
up_told n (x ∷ xs) = ap (λ b. (nat_le 2 x.number && nat_le x.number n) && b) (up_told n xs)

-- what is found of a row that was looked for
pub none_numbered : {R : Type 0} (f : R → BookRow) (o : Option R) (n : ℕ)
    (rows : List BookColumns) → option_map f o
    ≡ option_map (λ (x : BookColumns). (book_at x).row) (find (λ x. x.number == n) rows)
    → o ≡ None → None ≡ row_numbered n (map book_at rows)
none_numbered f o n rows told is = sym (ap (option_map f) is) ∙ told ∙ row_told n rows

pub some_numbered : {R : Type 0} (f : R → BookRow) (o : Option R) (n : ℕ)
    (rows : List BookColumns) (x : R) → option_map f o
    ≡ option_map (λ (x : BookColumns). (book_at x).row) (find (λ x. x.number == n) rows)
    → o ≡ Some x → Some (f x) ≡ row_numbered n (map book_at rows)
some_numbered f o n rows x told is = sym (ap (option_map f) is) ∙ told ∙ row_told n rows

pub up_is : (n last : ℕ) (rows : List BookColumns) (r b : Bool)
    → r ≡ list_all (λ (x : BookColumns). nat_le 2 x.number && nat_le x.number last) rows
    → last ≡ n → r ≡ b → are_up_to n (map book_at rows) ≡ b
up_is n last rows r b told same is =
    sym (up_told n rows)
    ∙ ap (λ k. list_all (λ (x : BookColumns). nat_le 2 x.number && nat_le x.number k) rows)
    (sym same)
    ∙ sym told ∙ is

-- the books of the rows below a number are on both shelves
pub record AreShelvedTo (b : Book) (xs : List BookAt) (n : ℕ) (own other : Shelf) : Type 0 where
  pub first : own.first ≡ b
  pub later : AreOnly (λ m. row_numbered m xs) 2 own.later
  pub number : n ≡ suc (count own)
  pub same : other ≡ own

module _ (b : Book) (xs : List BookAt) (n : ℕ) (own other : Shelf)
    (so : AreShelvedTo b xs n own other) where
  -- the row of the number, if there is one
  at_number : (o : Option BookRow) → o ≡ row_numbered n xs → row_numbered (suc (count own)) xs ≡ o
  at_number o is = ap (λ m. row_numbered m xs) (sym so.number) ∙ sym is

  pub one_shelved : (x : BookRow) (own' other' : Shelf) → Some x ≡ row_numbered n xs
      → IsShelved x own own' → IsShelved x other other'
      → AreShelvedTo b xs (n + 1) own' other'
  one_shelved x own' other' there one two =
      let d : DatedBook = record { from = x.starts; book = one.book } in
      let later : own'.later ≡ own.later ++ d ∷ [] = ap (λ (s : Shelf). s.later) one.new_is in
      let only : IsOnlyAt (row_numbered (2 + length own.later) xs) d =
      subst (λ o. IsOnlyAt o d)
      (sym (ap (λ m. row_numbered m xs) (two_after (length own.later))
      ∙ at_number (Some x) there)) one.row in
      let book : two.book ≡ one.book = one.row.only two.book two.row.dated.book in
      record {
        first = ap (λ (s : Shelf). s.first) one.new_is ∙ so.first;
        later = subst (λ (l : List DatedBook). AreOnly (λ m. row_numbered m xs) 2 l) (sym later)
            (only_more (λ m. row_numbered m xs) 2 own.later d so.later only);
        number =
            let more : length own'.later ≡ length own.later + 1 =
            ap length later ∙ length-append own.later (d ∷ []) in
            omega (arith, more, so.number);
        same = two.new_is ∙ (λ i. with_book (so.same i) x.starts (book i)) ∙ sym one.new_is;
      }

  -- there is no row of the number
  pub all_shelved : None ≡ row_numbered n xs → AreShelved b xs own
  all_shelved none =
      record { first = so.first; later = so.later; last = inl (at_number None none) }

  -- there is no number more
  pub last_shelved : 17 ≤ n → AreShelved b xs own
  last_shelved high = record {
    first = so.first;
    later = so.later;
    last = inr (omega (arith, high, so.number));
  }

  pub own_refused : (x : BookRow) → Some x ≡ row_numbered n xs → IsRefusedRow x own
      → IsNoneBehind b xs
  own_refused x there refused text only shelf =
      none_more (λ m. row_numbered m xs) own so.later text shelf.0
      (so.first ∙ only shelf.0.first shelf.1.first) shelf.1 x (at_number (Some x) there) refused

  pub other_refused : (x : BookRow) → Some x ≡ row_numbered n xs → IsRefusedRow x other
      → IsNoneBehind b xs
  other_refused x there refused = own_refused x there (subst (IsRefusedRow x) so.same refused)

-- ---- the shelf of all rows

pub shelf_read : (text : List ℕ) (b : Book) (xs : List BookAt) (s : Shelf) → IsShelf s
    → IsBookOf text b → AreShelved b xs s → are_up_to (count s) xs ≡ true → IsShelfRead text xs s
shelf_read text b xs s is read all up = record {
  is = is;
  first = subst (IsBookOf text) (sym all.first) read;
  later = only_later (λ m. row_numbered m xs) 2 s.later all.later;
  none = none_out (count s) xs up;
}

-- a number stands out
pub no_shelf_read : (text : List ℕ) (b : Book) (xs : List BookAt) (s : Shelf)
    → ((x : Book) → IsBookOf text x → b ≡ x) → AreShelved b xs s
    → are_up_to (count s) xs ≡ false → HasShelf text (λ n. row_numbered n xs) → ⊥
no_shelf_read text b xs s only all out shelf =
    let same : count shelf.0 ≡ count s =
    same_count (λ m. row_numbered m xs) s all.later text shelf.0
    (all.first ∙ only shelf.0.first shelf.1.first) shelf.1 all.last in
    let up : are_up_to (count s) xs ≡ true =
    numbers_in (count s) xs (subst (λ k. (n : ℕ) → (n < 2) ⊎ (k < n) → row_numbered n xs ≡ None)
    same shelf.1.none) in
    let no : true ≡ false = sym up ∙ out in cc

-- ---- a row more

other_number : (n m : ℕ) → ¬ (n ≡ m) → nat_eq n m ≡ false
other_number n m other = at (nat_eq n m) refl
  where
    at : (b : Bool) → nat_eq n m ≡ b → nat_eq n m ≡ false
    at true e = absurd (other (eqb-true n m e))
    at false e = e

module _ (rows : ℕ → Option BookRow) (n : ℕ) (x : BookRow) where
  abbrev more_rows : ℕ → Option BookRow
  more_rows m = if nat_eq n m then Some x else rows m

  row_still : (m : ℕ) → ¬ (n ≡ m) → more_rows m ≡ rows m
  row_still m other = ap (λ t. if t then Some x else rows m) (other_number n m other)

  row_there : more_rows n ≡ Some x
  row_there = ap (λ t. if t then Some x else rows n) (eq-eqb n n refl)

  later_more : (m : ℕ) (ds : List DatedBook) (d : DatedBook) → AreLater rows m ds
      → n ≡ m + length ds → IsDatedAt (Some x) d → AreLater more_rows m (ds ++ d ∷ [])
  later_more m [] d h is dated =
      let same : n ≡ m = omega (arith, is) in (
        subst (λ o. IsDatedAt o d) (sym (ap more_rows (sym same) ∙ row_there)) dated,
        tt,
      )
  later_more m (e ∷ es) d h is dated = (
    subst (λ o. IsDatedAt o e) (sym (row_still m (λ same. omega (arith, is, same)))) h.0,
    later_more (m + 1) es d h.1 (omega (arith, is)) dated,
  )

pub dated_shelf : (text more : List ℕ) (rows : ℕ → Option BookRow) (n from : ℕ) (s : Shelf)
    (b : Book) → IsShelfOf text rows s → IsBookOf more b → n ≡ suc (count s)
    → from ≤ 4_102_488_000 → IsShelf (with_book s from b)
    → IsShelfOf text (more_rows rows n (record { starts = from; content = more }))
    (with_book s from b)
dated_shelf text more rows n from s b h read number range behind = record {
  is = behind;
  first = h.first;
  later = later_more rows n (record { starts = from; content = more }) 2 s.later
      (record { from = from; book = b }) h.later (omega (arith, number)) (record {
        starts = refl;
        range = range;
        utf8 = read.1.text;
        book = read;
      });
  none = λ m out.
      row_still rows n (record { starts = from; content = more }) m (apart m out)
      ∙ h.none m (low m out);
}
  where
    long : length (s.later ++ record { from = from; book = b } ∷ []) ≡ length s.later + 1
    long = length-append s.later (record { from = from; book = b } ∷ [])

    apart : (m : ℕ) → (m < 2) ⊎ (count (with_book s from b) < m) → ¬ (n ≡ m)
    apart m (inl less) same = omega (arith, number, less, same)
    apart m (inr above) same = omega (arith, number, above, same, long)

    low : (m : ℕ) → (m < 2) ⊎ (count (with_book s from b) < m) → (m < 2) ⊎ (count s < m)
    low m (inl less) = inl less
    low m (inr above) = inr (omega (arith, above, long))
