-- One more row that rises, or doesn't.
use Rattle.std.proofs.Common.{◌≡◌, inl, inr, ◌<ℤ◌, ℤ, List, [], ◌∷◌, ◌++◌, Option, Some, None}
use Rattle.std.proofs.Common.{is_some, IfSome, Bool, true, false, Less, is_eq, IsTrue, refl, sym}
use Rattle.std.proofs.Common.{ap, subst, ◌∙◌}
use Rattle.std.specs.Cmp.{int_cmp_is, int_ranked}
use Rattle.std.specs.List.{AllByRecursion}
use Rattle.sqlite_value.specs.declared.value.Value.{Value}
use Rattle.sqlite_value.specs.declared.value.Value.TheVariants.{Null, Int, Real, Text, Blob}
use Rattle.sqlite_value.specs.Order.{Row, column, value_cmp}
use Rattle.sqlite_value.proofs.OrderLemmas.{value_cmp-Int, value_cmp_total}
use Rattle.sqlite_trees.specs.Tree.{rowid, IsAscending}
use Rattle.sqlite_trees.specs.View.{is_int}
use Rattle.sqlite_trees.proofs.ListLemmas.{all_weaker, all-append, ascending-append}
use Rattle.sqlite_trees.proofs.ListLemmas.{ascending_weaker}
use Rattle.sql_tables.specs.Keyed.{IsStored}
use Rattle.sql_tables.specs.Rises.{AreRising, Climbs, IsAbove, IsAtMost}

abbrev below : Row → Row → Type 0
below a b = value_cmp (rowid a) (rowid b) ≡ Less

-- ---- the first rows, and the last

pub all_front : {A : Type 0} (P : A → Type 0) (xs ys : List A) → AllByRecursion P (xs ++ ys) →
    AllByRecursion P xs
all_front P [] ys h = tt
all_front P (x ∷ xs) ys h = (h.0, all_front P xs ys h.1)

pub all_end : {A : Type 0} (P : A → Type 0) (xs ys : List A) → AllByRecursion P (xs ++ ys) →
    AllByRecursion P ys
all_end P [] ys h = h
all_end P (x ∷ xs) ys h = all_end P xs ys h.1

up_front : {A : Type 0} (R : A → A → Type 0) (xs ys : List A) → IsAscending R (xs ++ ys) →
    IsAscending R xs
up_front R [] ys h = tt
up_front R (x ∷ xs) ys h = (all_front (R x) xs ys h.0, up_front R xs ys h.1)

across : {A : Type 0} (R : A → A → Type 0) (xs ys : List A) → IsAscending R (xs ++ ys)
    → AllByRecursion (λ x. AllByRecursion (R x) ys) xs
across R [] ys h = tt
across R (x ∷ xs) ys h = (all_end (R x) xs ys h.0, across R xs ys h.1)

pub still_falls : (given : List Row) (row : Row) → ¬ AreRising given →
    ¬ AreRising (given ++ row ∷ [])
still_falls given row falls up =
    falls (up_front below given (row ∷ []) up.0, all_front _ given (row ∷ []) up.1)

-- ---- a row above the last

lower : (last id : ℤ) (x : Row) → IsAtMost last x → last <ℤ id →
    value_cmp (column x 0) (Int id) ≡ Less
lower last id x m h = go m
  where
    less : value_cmp (Int last) (Int id) ≡ Less
    less = value_cmp-Int last id ∙ sym (int_cmp_is last id Less h)

    go : IsAtMost last x → value_cmp (column x 0) (Int id) ≡ Less
    go (inl e) = ap (λ v. value_cmp v (Int id)) e ∙ less
    go (inr l) = value_cmp_total.trans (column x 0) (Int last) (Int id) l less

rises_on : (last : Option ℤ) (given : List Row) (row : Row) (id : ℤ) → Climbs true last given
    → IsAbove last row id → Climbs true (Some id) (given ++ row ∷ [])
rises_on None given row id none h = subst (λ g. Climbs true (Some id) (g ++ row ∷ [])) (sym none) (
  ((tt, tt), (ap is_int h.is, tt)),
  record { most = (inl h.is, tt); front = []; top = row; split = refl; is = h.is },
)
rises_on (Some last) given row id so h =
    let more : last <ℤ id = h.above last refl in
    let under : (x : Row) → IsAtMost last x → AllByRecursion (below x) (row ∷ []) =
    λ x m. (ap (value_cmp (column x 0)) h.is ∙ lower last id x m more, tt) in
    let later : (x : Row) → IsAtMost last x →
    IsAtMost id x = λ x m. inr (lower last id x m more) in (
      (
        ascending-append below given (row ∷ []) so.0.0 (tt, tt) (all_weaker (IsAtMost last)
            (λ x. AllByRecursion (below x) (row ∷ [])) under given so.1.most),
        all-append (λ r. IsTrue (is_int (column r 0))) given (row ∷ []) so.0.1 (ap is_int h.is, tt),
      ),
      record {
        most = all-append (IsAtMost id) given (row ∷ [])
            (all_weaker (IsAtMost last) (IsAtMost id) later given so.1.most) (inl h.is, tt);
        front = given;
        top = row;
        split = refl;
        is = h.is;
      },
    )

-- ---- a row that isn't

int_of : (v : Value) → IsTrue (is_int v) → (id : ℤ) × (v ≡ Int id)
int_of Null h = absurd (cc h)
int_of (Int id) h = (id, refl)
int_of (Real x) h = absurd (cc h)
int_of (Text t) h = absurd (cc h)
int_of (Blob b) h = absurd (cc h)

falls_on : (last : Option ℤ) (given : List Row) (row : Row) → Climbs true last given
    → ((id : ℤ) → ¬ IsAbove last row id) → ¬ AreRising (given ++ row ∷ [])
falls_on None given row none no' up =
    let it = int_of (rowid row) (all_end _ given (row ∷ []) up.1).0 in
    no' it.0 (record { is = it.1; above = λ before e. absurd (cc e) })
falls_on (Some last) given row so no' up =
    let it = int_of (rowid row) (all_end _ given (row ∷ []) up.1).0 in
    let all = across below given (row ∷ []) up.0 in
    let one = all_end (λ x. AllByRecursion (below x) (row ∷ [])) so.1.front (so.1.top ∷ [])
    (subst (AllByRecursion (λ x. AllByRecursion (below x) (row ∷ []))) so.1.split all) in
    let less : value_cmp (rowid so.1.top) (rowid row) ≡ Less = one.0.0 in
    let ints : value_cmp (Int last) (Int it.0) ≡ Less =
    ap (λ v. value_cmp v (Int it.0)) (sym so.1.is)
    ∙ ap (value_cmp (rowid so.1.top)) (sym it.1)
    ∙ less in
    let more : last <ℤ it.0 = int_ranked last it.0 Less (sym ints ∙ value_cmp-Int last it.0) in
    no' it.0 (record {
      is = it.1;
      above = λ before e. let same : last ≡ before = cc e in subst (λ b. b <ℤ it.0) same more;
    })

pub climbs_on : (last next : Option ℤ) (given : List Row) (row : Row) → Climbs true last given
    → IfSome next (IsAbove last row) → (next ≡ None → (id : ℤ) → ¬ IsAbove last row id)
    → Climbs (is_some next) next (given ++ row ∷ [])
climbs_on last None given row so some none = falls_on last given row so (none refl)
climbs_on last (Some id) given row so some none = rises_on last given row id so some

-- ---- all rows

pub up_to : (rises : Bool) (last : Option ℤ) (rows : List Row) → Climbs rises last rows
    → (IsTrue rises → AreRising rows) × (AreRising rows → IsTrue rises)
up_to false last rows falls = (λ e. absurd (cc e), λ up. absurd (falls up))
up_to true None rows none = (λ e. subst AreRising (sym none) (tt, tt), λ up. refl)
up_to true (Some last) rows so = (λ e. so.0, λ up. refl)

pub rising_stored : (rows : List Row) → AreRising rows → IsStored rows
rising_stored rows up = (
  ascending_weaker below (λ a b. is_eq (value_cmp (rowid a) (rowid b)) ≡ false)
      (λ a b less. ap is_eq less) rows up.0,
  up.1,
)
