-- The rows of the later books of a shelf are in their rules.
use Rattle.std.proofs.Common.{◌≡◌, ◌≤◌, ◌<◌, ◌+◌, ◌∙◌, ℕ, Bool, true, false, List, [], ◌∷◌, Option}
use Rattle.std.proofs.Common.{Some, None, refl, sym, ap, subst, arith, length, nat_eq, nat_lt}
use Rattle.std.proofs.Common.{inl, inr, ltb-true, ltb-false}
use Rattle.std.proofs.lemmas.Bool.{eqb-false}
use Rattle.shelves.specs.Shelves.{Shelf, count}
use Rattle.shelves.specs.declared.dated.DatedBook.{DatedBook}
use Rattle.sql_rows.specs.Ruled.{AreRuledBooks, IsRuledBook}
use Rattle.sql_rows.specs.Values.{BookRow}
use Rattle.sql_keeper.specs.Shelves.{AreLater, IsDatedAt, IsDatedOf, IsShelfOf}
use Rattle.sql_keeper.proofs.puts.Overlays.{number_from}

-- the book of the row under a number
pub record IsLaterBook (x : BookRow) : Type 0 where
  pub book : DatedBook
  pub is : IsDatedOf x book

later_at : (rows : ℕ → Option BookRow) (m : ℕ) (ds : List DatedBook) → AreLater rows m ds
    → (n : ℕ) (x : BookRow) → rows n ≡ Some x → m ≤ n → n < m + length ds → IsLaterBook x
later_at rows m [] h n x there low high = absurd (omega (arith, low, high))
later_at rows m (d ∷ ds) h n x there low high =
    go (later_at rows (m + 1) ds h.1 n x there) (nat_eq m n) refl
  where
    above : (t : Bool) → nat_lt m n ≡ t → nat_eq m n ≡ false → m + 1 ≤ n
    above true e k = let less = ltb-true m n e in omega (arith, less)
    above false e k =
        let least = ltb-false m n e in absurd (eqb-false m n k (omega (arith, least, low)))

    go : (m + 1 ≤ n → n < m + 1 + length ds → IsLaterBook x) → (t : Bool) → nat_eq m n ≡ t
        → IsLaterBook x
    go rest true k = record {
      book = d;
      is = subst (λ o. IsDatedAt o d) (ap rows (number_from m n k) ∙ there) h.0;
    }
    go rest false k = rest (above (nat_lt m n) refl k) (omega (arith, high))

some_is_not : {A : Type 0} (o : Option A) (x : A) → o ≡ Some x → o ≡ None → ⊥
some_is_not o x some none = let no : Some x ≡ None = sym some ∙ none in cc

pub shelf_ruled : (text : List ℕ) (rows : ℕ → Option BookRow) (s : Shelf)
    → IsShelfOf text rows s → AreRuledBooks rows
shelf_ruled text rows s h n x there = at (nat_lt n 2) (nat_lt (count s) n) refl refl
  where
    few : length s.later ≤ 15
    few = h.is.few

    at : (t u : Bool) → nat_lt n 2 ≡ t → nat_lt (count s) n ≡ u
        → IsRuledBook (record { number = n; row = x })
    at true u e f = absurd (some_is_not (rows n) x there (h.none n (inl (ltb-true n 2 e))))
    at false true e f =
        absurd (some_is_not (rows n) x there (h.none n (inr (ltb-true (count s) n f))))
    at false false e f =
        let low = ltb-false n 2 e in
        let high = ltb-false (count s) n f in
        let it = later_at rows 2 s.later h.later n x there (omega (arith, low))
        (omega (arith, high)) in
        record {
          number = omega (arith, high, few);
          starts = it.is.range;
          content = it.is.utf8;
        }
