-- The shelf of a database: its first book is that of the text that is kept once, and each later one
-- that of a row of its own.
-- Source: profile.
use Rattle.std.specs.Prelude.{◌≡◌, ◌<◌, ◌≤◌, ◌⊎◌, ◌&&◌, suc, ◌+◌, nat_eq, nat_le, Bool, List}
use Rattle.std.specs.Prelude.{[], ◌∷◌, Option, Some, None, option_map}
use Rattle.std.specs.List.{find, list_all}
use Rattle.std.specs.Str.{IsUtf8}
use Rattle.units.specs.Words.{BookNumber, latest_moment}
use Rattle.shelves.specs.Words.{BookText}
use Rattle.tariffs.specs.Books.{Book}
use Rattle.shelves.specs.Shelves.{Shelf, IsShelf, count, one_book, with_book}
use Rattle.shelves.specs.Succession.{shelf_fault}
use Rattle.shelves.specs.declared.dated.DatedBook.{DatedBook}
use Rattle.sql_rows.specs.Lists.{BookAt}
use Rattle.sql_rows.specs.Values.{BookRow}
use Rattle.sql_keeper.specs.Books.{IsBookOf}

-- the row has the text of the book, one of characters, and its first moment, in the range of
-- moments
pub record IsDatedOf (x : BookRow) (d : DatedBook) : Type 0 where
  pub starts : x.starts ≡ d.from
  pub range : x.starts ≤ latest_moment
  pub utf8 : IsUtf8 x.content
  pub book : IsBookOf x.content d.book

abbrev pub IsDatedAt : Option BookRow → DatedBook → Type 0
IsDatedAt None d = ⊥
IsDatedAt (Some x) d = IsDatedOf x d

-- the books are those of the rows of one number after another
abbrev pub AreLater : (BookNumber → Option BookRow) → BookNumber → List DatedBook → Type 0
AreLater rows n [] = Unit {0}
AreLater rows n (d ∷ ds) = IsDatedAt (rows n) d × AreLater rows (n + 1) ds

-- the shelf of a text and of these rows, which begin with number 2; there are no other rows
pub record IsShelfOf (text : BookText) (rows : BookNumber → Option BookRow) (s : Shelf)
    : Type 0 where
  pub is : IsShelf s
  pub first : IsBookOf text s.first
  pub later : AreLater rows 2 s.later
  pub none : (n : BookNumber) → (n < 2) ⊎ (count s < n) → rows n ≡ None

-- there is a shelf of them
abbrev pub HasShelf : BookText → (BookNumber → Option BookRow) → Type 0
HasShelf text rows = (s : Shelf) × IsShelfOf text rows s

-- the shelf on which the book of a text is alone
pub record IsAlone (text : BookText) (s : Shelf) : Type 0 where
  pub is : IsShelf s
  pub alone : s ≡ one_book s.first
  pub first : IsBookOf text s.first

abbrev pub HasOneBook : BookText → Type 0
HasOneBook text = (s : Shelf) × IsAlone text s

-- ---- as it is read

-- the row of a number
abbrev pub row_numbered : BookNumber → List BookAt → Option BookRow
row_numbered n xs = option_map (λ (x : BookAt). x.row) (find (λ x. nat_eq x.number n) xs)

-- the row has the text of the book, and it is the only one of this text
pub record IsOnlyOf (x : BookRow) (d : DatedBook) : Type 0 where
  pub dated : IsDatedOf x d
  pub only : (b : Book) → IsBookOf x.content b → b ≡ d.book

abbrev pub IsOnlyAt : Option BookRow → DatedBook → Type 0
IsOnlyAt None d = ⊥
IsOnlyAt (Some x) d = IsOnlyOf x d

-- the books are the only ones of the rows of one number after another
abbrev pub AreOnly : (BookNumber → Option BookRow) → BookNumber → List DatedBook → Type 0
AreOnly rows n [] = Unit {0}
AreOnly rows n (d ∷ ds) = IsOnlyAt (rows n) d × AreOnly rows (n + 1) ds

-- the only book of a row was added behind those of a shelf
pub record IsShelved (x : BookRow) (old new : Shelf) : Type 0 where
  pub book : Book
  pub row : IsOnlyOf x (record { from = x.starts; book = book })
  pub new_is : new ≡ with_book old x.starts book

-- no book of the row's text may follow those of the shelf
abbrev pub IsRefusedRow : BookRow → Shelf → Type 0
IsRefusedRow x s = (b : Book) → IsBookOf x.content b → ¬ (shelf_fault s x.starts b 0 ≡ None)

-- whether each row has a number from 2 on, up to this one
abbrev pub are_up_to : BookNumber → List BookAt → Bool
are_up_to n xs = list_all (λ (x : BookAt). nat_le 2 x.number && nat_le x.number n) xs

-- what is read of a text and of rows is the shelf of both
abbrev pub IsShelfRead : BookText → List BookAt → Shelf → Type 0
IsShelfRead text xs s = IsShelfOf text (λ n. row_numbered n xs) s

-- there is no shelf of them
abbrev pub IsNoShelf : BookText → List BookAt → Type 0
IsNoShelf text xs = ¬ HasShelf text (λ n. row_numbered n xs)

-- behind a first book are those of the rows from number 2 on, up to the first that has no row, or
-- up to 16 books
pub record AreShelved (b : Book) (xs : List BookAt) (s : Shelf) : Type 0 where
  pub first : s.first ≡ b
  pub later : AreOnly (λ n. row_numbered n xs) 2 s.later
  pub last : (row_numbered (suc (count s)) xs ≡ None) ⊎ (16 ≤ count s)

-- there is no shelf of the rows with this first book, the only one of its text
abbrev pub IsNoneBehind : Book → List BookAt → Type 0
IsNoneBehind b xs = (text : BookText) → ((x : Book) → IsBookOf text x → b ≡ x) → IsNoShelf text xs
