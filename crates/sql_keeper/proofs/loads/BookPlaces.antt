-- The book of a reservation, found by halves, where rows rise.
use Rattle.std.proofs.Common.{◌≡◌, ℕ, Bool, true, List, [], ◌∷◌, Some, None, get_or, ap}
use Rattle.std.specs.Prelude.{◌==◌, position, option_map}
use Rattle.std.specs.Ordering.{nat_cmp, is_lt, is_eq}
use Rattle.std.specs.Cmp.{IsTotalOrder, then_total, on_total, nat_cmp_total, both_tied}
use Rattle.std.specs.Cmp.{unsigned_ties}
use Rattle.std.specs.Cmp.Lexicographic.{slice_cmp, on_texts, texts_ties}
use Rattle.reserving.specs.Rows.{AreAscending}
use Rattle.reserving.proofs.KeysFound.{placed, unplaced}
use Rattle.reserving.proofs.Lists.{EachIn-weaker}
use Rattle.reserving.proofs.order.Ascending.{less_is}
use Rattle.sql_tables.specs.Keyed.{same_name}
use Rattle.sql_rows.specs.declared.session_book_rows.SessionBook.{SessionBook}
use Rattle.sql_keeper.specs.GroupRows.{DoBooksRise, book_of, compare_books, is_book}

pub books_total : IsTotalOrder compare_books
books_total =
    then_total (on_texts (λ (r : SessionBook). r.session))
    (on_total (λ (r : SessionBook). r.columns.group) nat_cmp_total)

pub book_ties : (x y : SessionBook) → is_book x.session x.columns.group y
    ≡ is_eq (compare_books y x)
book_ties x y =
    both_tied (same_name y.session x.session) (y.columns.group == x.columns.group)
    (slice_cmp nat_cmp y.session x.session) (nat_cmp y.columns.group x.columns.group)
    (texts_ties y.session x.session) (unsigned_ties y.columns.group x.columns.group)

abbrev pub book_before : SessionBook → SessionBook → Bool
book_before x y = is_lt (compare_books x y)

chain : (x y z : SessionBook) → book_before x y ≡ true → book_before y z ≡ true
    → book_before x z ≡ true
chain x y z h k =
    ap is_lt (books_total.trans x y z (less_is (compare_books x y) h)
    (less_is (compare_books y z) k))

pub books_ascend : (xs : List SessionBook) → DoBooksRise xs → AreAscending book_before xs
books_ascend [] h = tt
books_ascend (x ∷ []) h = (tt, tt)
books_ascend (x ∷ y ∷ ys) h =
    let rest = books_ascend (y ∷ ys) h.1 in (
      (
        h.0,
        EachIn-weaker (λ z. book_before y z ≡ true) (λ z. book_before x z ≡ true) ys
            (λ z k. chain x y z h.0 k) rest.0,
      ),
      rest,
    )

-- rule: database-loads.group-of
pub book_at : (s : List ℕ) (g place : ℕ) (rows : List SessionBook) (d : SessionBook)
    → position (is_book s g) rows ≡ Some place
    → book_of s g rows ≡ Some ((get_or rows place d).columns.book)
book_at s g place rows d h =
    ap (option_map (λ (x : SessionBook). x.columns.book))
    ((placed book_before (is_book s g) d place rows h).found d)

pub no_book : (s : List ℕ) (g : ℕ) (rows : List SessionBook) → position (is_book s g) rows ≡ None
    → book_of s g rows ≡ None
no_book s g rows h =
    ap (option_map (λ (x : SessionBook). x.columns.book)) (unplaced (is_book s g) rows h)
