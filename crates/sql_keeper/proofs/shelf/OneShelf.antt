-- The texts and rows of a database are those of one shelf at most.
use Rattle.std.proofs.Common.{◌≡◌, ◌+◌, ◌<◌, ◌∙◌, ℕ, suc, List, [], ◌∷◌, length, Option, Some, None}
use Rattle.std.proofs.Common.{inr, refl, sym, ap, ap₂, subst, arith}
use Rattle.std.proofs.lemmas.Option.{same_Some}
use Rattle.std.specs.Prelude.{Ok}
use Rattle.tariffs.specs.Books.{Book, book_of}
use Rattle.shelves.specs.Shelves.{Shelf}
use Rattle.shelves.specs.declared.dated.DatedBook.{DatedBook}
use Rattle.sql_rows.specs.Content.{tables_content}
use Rattle.sql_rows.specs.Values.{BookRow, Meta}
use Rattle.sql_keeper.specs.Again.{AreShelvesOne}
use Rattle.sql_keeper.specs.Books.{IsBookOf}
use Rattle.sql_keeper.specs.Shelves.{AreLater, IsDatedAt, IsShelfOf}

-- a text is that of one book at most
pub one_text : (text : List ℕ) (b c : Book) → IsBookOf text b → IsBookOf text c → b ≡ c
one_text text b c (t, d, is) (u, e, so) =
    let same : t ≡ u = same_Some t u (sym d.parsed ∙ e.parsed) in
    let both : Ok b ≡ Ok c = sym is ∙ ap book_of same ∙ so in
    cc both

one_dated : (o : Option BookRow) (d e : DatedBook) → IsDatedAt o d → IsDatedAt o e → d ≡ e
one_dated None d e h k = absurd h
one_dated (Some x) d e h k =
    let from : d.from ≡ e.from = sym h.starts ∙ k.starts in
    let book : d.book ≡ e.book = one_text x.content d.book e.book h.book k.book in
    λ i. record { from = from i; book = book i }

none_here : (rows : ℕ → Option BookRow) (n k : ℕ) (d : DatedBook) → k ≡ n → rows k ≡ None
    → IsDatedAt (rows n) d → ⊥
none_here rows n k d is none h = subst (λ o. IsDatedAt o d) (ap rows (sym is) ∙ none) h

one_later : (rows : ℕ → Option BookRow) (n : ℕ) (ds es : List DatedBook) → AreLater rows n ds
    → AreLater rows n es → rows (n + length ds) ≡ None → rows (n + length es) ≡ None → ds ≡ es
one_later rows n [] [] h k last end = refl
one_later rows n [] (e ∷ es) h k last end =
    absurd (none_here rows n (n + 0) e (omega arith) last k.0)
one_later rows n (d ∷ ds) [] h k last end =
    absurd (none_here rows n (n + 0) d (omega arith) end h.0)
one_later rows n (d ∷ ds) (e ∷ es) h k last end =
    let after : n + suc (length ds) ≡ n + 1 + length ds = omega arith in
    let beyond : n + suc (length es) ≡ n + 1 + length es = omega arith in
    ap₂ ◌∷◌ (one_dated (rows n) d e h.0 k.0)
    (one_later rows (n + 1) ds es h.1 k.1 (ap rows (sym after) ∙ last)
    (ap rows (sym beyond) ∙ end))

ends : (text : List ℕ) (rows : ℕ → Option BookRow) (s : Shelf) → IsShelfOf text rows s
    → rows (2 + length s.later) ≡ None
ends text rows s h =
    let high : suc (length s.later) < 2 + length s.later = omega arith in
    h.none (2 + length s.later) (inr high)

pub same_shelf : (text : List ℕ) (rows : ℕ → Option BookRow) (s t : Shelf)
    → IsShelfOf text rows s → IsShelfOf text rows t → s ≡ t
same_shelf text rows s t h k =
    let first : s.first ≡ t.first = one_text text s.first t.first h.first k.first in
    let later : s.later ≡ t.later =
    one_later rows 2 s.later t.later h.later k.later (ends text rows s h) (ends text rows t k) in
    λ i. record { first = first i; later = later i }

-- rule: database-opened.shelves-one
pub one_shelf : AreShelvesOne
one_shelf trees text more s t kept again h k =
    let row : kept.row ≡ again.row =
    same_Some kept.row again.row (sym kept.is ∙ again.is) in
    let same : more ≡ text = sym again.book ∙ sym (ap (λ (m : Meta). m.book) row) ∙ kept.book in
    same_shelf text (tables_content trees).books s t h
    (subst (λ x. IsShelfOf x (tables_content trees).books t) same k)
