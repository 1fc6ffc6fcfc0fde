-- A period that has a name is among those of its book.
use Rattle.std.proofs.Common.{◌≡◌, ◌+◌, ℕ, zero, suc, Bool, true, false, List, [], ◌∷◌}
use Rattle.std.proofs.Common.{Bor, Option, Some, None, refl, sym, ap, subst, arith}
use Rattle.std.specs.Prelude.{if◌then◌else◌, is_some, map, option_copied, option_map}
use Rattle.std.specs.Prelude.{slice_get, unwrap_or}
use Rattle.std.proofs.lemmas.Option.{same_Some}
use Rattle.calendar.specs.declared.week.Period.{Period}
use Rattle.tariffs.specs.Books.{Book}
use Rattle.tariffs.specs.Names.{period_from, period_named, same_text}
use Rattle.shelves.specs.Shelves.{Shelf, book_numbered, dated_books}
use Rattle.shelves.specs.declared.dated.DatedBook.{DatedBook}
use Rattle.sql_keeper.specs.Content.{names_numbered, shelf_names}
use Rattle.sql_keeper.specs.Tests.{IsPeriodNamed}
use Rattle.sql_keeper.specs.Writes.{name_at}

-- the period of a name has its place
record IsPlaced (k : ℕ) (names : List (List ℕ)) (p : Period) : Type 0 where
  place : ℕ
  is : p.0 ≡ k + place
  there : is_some (slice_get names place) ≡ true

placed : (k : ℕ) (names : List (List ℕ)) (text : List ℕ) (p : Period)
    → period_from k names text ≡ Some p → IsPlaced k names p
placed k [] text p e = absurd (cc e)
placed k (n ∷ ns) text p e = at (same_text n text) (placed (k + 1) ns text p) e
  where
    at : (b : Bool) → (period_from (k + 1) ns text ≡ Some p → IsPlaced (k + 1) ns p)
        → (if b then Some (record { 0 = k }) else period_from (k + 1) ns text) ≡ Some p
        → IsPlaced k (n ∷ ns) p
    at true later f =
        let first : Period = record { 0 = k } in
        let is : p.0 ≡ k = ap (λ (x : Period). x.0) (sym (same_Some first p f)) in
        record { place = 0; is = omega (arith, is); there = refl }
    at false later f =
        let it = later f in
        record { place = suc it.place; is = omega (arith, it.is); there = it.there }

named_place : (names : List (List ℕ)) (p : Period) → IsPeriodNamed names p →
    is_some (slice_get names p.0) ≡ true
named_place names p e =
    let it = placed 0 names (name_at names p) p e in
    let is : it.place ≡ p.0 = omega (arith, it.is) in
    subst (λ n. is_some (slice_get names n) ≡ true) is it.there

-- the names of a book by its number
none_at : (ds : List DatedBook) (i : ℕ) (text : List ℕ) (p : Period)
    → None ≡ option_map (λ (d : DatedBook). d.book) (slice_get ds i)
    → period_named (unwrap_or (slice_get (map (λ (d : DatedBook). d.book.periods) ds) i) []) text
    ≡ Some p → ⊥
none_at [] zero text p none e = absurd (cc e)
none_at [] (suc i) text p none e = absurd (cc e)
none_at (d ∷ ds) zero text p none e = absurd (cc none)
none_at (d ∷ ds) (suc i) text p none e = none_at ds i text p none e

names_at_place : (ds : List DatedBook) (i : ℕ) (b : Book)
    → Some b ≡ option_map (λ (d : DatedBook). d.book) (slice_get ds i)
    → unwrap_or (slice_get (map (λ (d : DatedBook). d.book.periods) ds) i) [] ≡ b.periods
names_at_place [] zero b e = absurd (cc e)
names_at_place [] (suc i) b e = absurd (cc e)
names_at_place (d ∷ ds) zero b e = ap (λ (x : Book). x.periods) (sym (same_Some b d.book e))
names_at_place (d ∷ ds) (suc i) b e = names_at_place ds i b e

-- where there is no book of the number, no period has a name
pub no_book : (s : Shelf) (n : ℕ) (p : Period) → None ≡ book_numbered s n
    → IsPeriodNamed (names_numbered (shelf_names s) n) p → ⊥
no_book s zero p none e = absurd (cc e)
no_book s (suc i) p none e =
    none_at (dated_books s) i (name_at (names_numbered (shelf_names s) (suc i)) p) p none e

names_of : (s : Shelf) (n : ℕ) (b : Book) → Some b ≡ book_numbered s n
    → names_numbered (shelf_names s) n ≡ b.periods
names_of s zero b e = absurd (cc e)
names_of s (suc i) b e = names_at_place (dated_books s) i b e

-- and where there is one, it has the name of a period that has one
pub name_there : (s : Shelf) (n : ℕ) (b : Book) (p : Period) → Some b ≡ book_numbered s n
    → IsPeriodNamed (names_numbered (shelf_names s) n) p
    → is_some (slice_get b.periods p.0) ≡ true
name_there s n b p has e =
    named_place b.periods p (subst (λ names. IsPeriodNamed names p) (names_of s n b has) e)

pub copied_some : {A : Type 0} (o : Option (Bor A)) → is_some o ≡ is_some (option_copied o)
copied_some None = refl
copied_some (Some x) = refl
