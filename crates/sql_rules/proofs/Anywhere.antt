-- Whether something of a list passes a test, seen one after another.
use Rattle.std.proofs.Common.{◌≡◌, ◌≤◌, ℕ, zero, suc, ◌+◌, List, [], ◌∷◌, drop, length, Bool, true}
use Rattle.std.proofs.Common.{false, ◌||◌, Option, Some, None, refl, sym, ap, ◌∙◌, arith}
use Rattle.std.specs.Prelude.{is_some, option_map, slice_get, if◌then◌else◌}
use Rattle.std.specs.List.{list_any}
use Rattle.shelves.specs.Shelves.{Shelf, book_numbered, dated_books}
use Rattle.shelves.specs.declared.dated.DatedBook.{DatedBook}
use Rattle.tariffs.specs.Books.{Book}
use Rattle.tariffs.specs.Names.{period_from, same_text}

module _ {A : Type 0} (p : A → Bool) where
  or_first : (b rest : Bool) → b ≡ true → (b || rest) ≡ true
  or_first b rest e = ap (λ x. x || rest) e

  or_rest : (b rest : Bool) → b ≡ false → (b || rest) ≡ rest
  or_rest b rest e = ap (λ x. x || rest) e

  pub none_left : (xs : List A) (at : ℕ) → slice_get xs at ≡ None →
      list_any p (drop at xs) ≡ false
  none_left [] zero e = refl
  none_left [] (suc at) e = refl
  none_left (x ∷ xs) zero e = absurd (cc e)
  none_left (x ∷ xs) (suc at) e = none_left xs at e

  pub all_seen : (xs : List A) (at : ℕ) → length xs ≤ at → list_any p (drop at xs) ≡ false
  all_seen [] zero e = refl
  all_seen [] (suc at) e = refl
  all_seen (x ∷ xs) zero e = absurd (omega (arith, e))
  all_seen (x ∷ xs) (suc at) e = all_seen xs at (omega (arith, e))

  pub one_passes : (xs : List A) (at : ℕ) (x : A) → slice_get xs at ≡ Some x → p x ≡ true →
      list_any p (drop at xs) ≡ true
  one_passes [] zero x e t = absurd (cc e)
  one_passes [] (suc at) x e t = absurd (cc e)
  one_passes (y ∷ xs) zero x e t =
      let same : y ≡ x = cc e in or_first (p y) (list_any p xs) (ap p same ∙ t)
  one_passes (y ∷ xs) (suc at) x e t = one_passes xs at x e t

  pub one_fails : (xs : List A) (at : ℕ) (x : A) → slice_get xs at ≡ Some x → p x ≡ false →
      list_any p (drop (suc at) xs) ≡ list_any p (drop at xs)
  one_fails [] zero x e t = absurd (cc e)
  one_fails [] (suc at) x e t = absurd (cc e)
  one_fails (y ∷ xs) zero x e t =
      let same : y ≡ x = cc e in sym (or_rest (p y) (list_any p xs) (ap p same ∙ t))
  one_fails (y ∷ xs) (suc at) x e t = one_fails xs at x e t

-- ---- names of periods

some_if : {A : Type 0} (b rest : Bool) (x : A) (o : Option A) → is_some o ≡ rest →
    is_some (if b then Some x else o) ≡ (b || rest)
some_if true rest x o e = refl
some_if false rest x o e = e

pub any_named : (place : ℕ) (names : List (List ℕ)) (name : List ℕ) →
    is_some (period_from place names name) ≡ list_any (λ n. same_text n name) names
any_named place [] name = refl
any_named place (n ∷ names) name =
    some_if (same_text n name) (list_any (λ m. same_text m name) names) (record { 0 = place })
    (period_from (place + 1) names name) (any_named (place + 1) names name)

-- ---- books by their numbers

booked_at : (s : Shelf) (before : ℕ) (b : Book) (o : Option DatedBook)
    → slice_get (dated_books s) before ≡ o → Some b ≡ option_map (λ d. d.book) o
    → (d : DatedBook) × (slice_get (dated_books s) before ≡ Some d) × (d.book ≡ b)
booked_at s before b None e f = absurd (cc f)
booked_at s before b (Some d) e f = (d, e, sym (cc f))

pub booked : (s : Shelf) (before number : ℕ) (b : Book) → number ≡ suc before
    → Some b ≡ book_numbered s number
    → (d : DatedBook) × (slice_get (dated_books s) before ≡ Some d) × (d.book ≡ b)
booked s before number b is e =
    booked_at s before b (slice_get (dated_books s) before) refl (e ∙ ap (book_numbered s) is)
