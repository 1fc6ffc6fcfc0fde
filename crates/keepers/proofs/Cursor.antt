-- Whether a row is among others, by the one that is at a place.
use Rattle.std.proofs.Common.{◌≡◌, ℕ, zero, suc, ◌<◌, Bool, true, false, List, [], ◌∷◌, length}
use Rattle.std.proofs.Common.{get_or, refl, sym, ap, ◌∙◌, arith, cond, Some}
use Rattle.std.specs.Prelude.{◌==◌, is_some}
use Rattle.std.specs.List.{find, list_any}
use Rattle.std.proofs.lemmas.Bool.{or_from}
use Rattle.buckets.specs.Row.{BucketRow}
use Rattle.reserving.specs.declared.session.Session.{Session}
use Rattle.reserving.specs.declared.session.SessionGroup.{SessionGroup}
use Rattle.reserving.specs.declared.session.Counter.{Counter}
use Rattle.ledger.specs.Lists.{EachIn}
use Rattle.reserving.specs.Rows.{AreApart}
use Rattle.reserving.proofs.Lists.{not_both}
use Rattle.ledger.proofs.Names.{is_same-sym}
use Rattle.reserving.proofs.Keys.{same_tests, both_true, is_key-sym}
use Rattle.ledger.proofs.Holds.{number_from, number_itself, both}
use Rattle.reserving.proofs.order.Searched.{no_less, at_place}
use Rattle.keepers.specs.Keyed.{same_bucket, same_session, same_group, same_counter}

-- no row with another key is equal
none_equal : {A : Type 0} (same : A → A → Bool) (q : A → Bool) (x : A) →
    ((y : A) → same x y ≡ false → q y ≡ false) → (xs : List A) → EachIn (λ y. same x y ≡ false) xs →
    list_any q xs ≡ false
none_equal same q x k [] h = refl
none_equal same q x k (y ∷ ys) h =
    or_from (q y) (list_any q ys) (k y h.0) (none_equal same q x k ys h.1)

-- a row with another key isn't equal
other : {A : Type 0} (same eq : A → A → Bool) → ((x y : A) → eq x y ≡ true → x ≡ y) →
    (row old : A) → same old row ≡ true → (y : A) → same old y ≡ false → eq row y ≡ false
other {A} same eq sound row old key y h = at (eq row y) refl
  where
    at : (t : Bool) → eq row y ≡ t → t ≡ false
    at false k = refl
    at true k = absurd (not_both (sym h ∙ ap (same old) (sym (sound row y k)) ∙ key))

turned : (a b : ℕ) → (a == b) ≡ true → (b == a) ≡ true
turned a b e = ap (λ n. b == n) (number_from a b e) ∙ number_itself b

-- the row with the key is at the place and differs: so do all
pub new_at : {A : Type 0} (same eq : A → A → Bool) → ((x y : A) → same x y ≡ same y x) →
    ((x y : A) → eq x y ≡ true → x ≡ y) → (row : A) (xs : List A) (i : ℕ) (d : A) → i < length xs →
    AreApart same xs →
    same (get_or xs i d) row ≡ true → eq row (get_or xs i d) ≡ false → list_any (eq row) xs ≡ false
new_at {A} same eq turn sound row [] i d h a key e = absurd (no_less i h)
new_at {A} same eq turn sound row (x ∷ xs) zero d h a key e =
    or_from (eq row x) (list_any (eq row) xs) e
    (none_equal same (eq row) x (other same eq sound row x key) xs a.0)
new_at {A} same eq turn sound row (x ∷ xs) (suc i) d h a key e =
    or_from (eq row x) (list_any (eq row) xs)
    (other same eq sound row (get_or xs i d) key x
    (turn (get_or xs i d) x ∙ at_place (λ y. same x y ≡ false) xs i d (omega (arith, h)) a.0))
    (new_at same eq turn sound row xs i d (omega (arith, h)) a.1 key e)

-- a row that passes at a place is found
pub stands : {A : Type 0} (p : A → Bool) (xs : List A) (i : ℕ) (d : A) → i < length xs →
    p (get_or xs i d) ≡ true → is_some (find p xs) ≡ true
stands p [] i d h e = absurd (no_less i h)
stands p (x ∷ xs) zero d h e = ap (λ t. is_some (cond t (Some x) (find p xs))) e
stands {A} p (x ∷ xs) (suc i) d h e = at (p x) (stands p xs i d (omega (arith, h)) e)
  where
    at : (t : Bool) → is_some (find p xs) ≡ true → is_some (cond t (Some x) (find p xs)) ≡ true
    at true r = refl
    at false r = r

-- ---- keys, read either way

pub turn_bucket : (x y : BucketRow) → same_bucket x y ≡ same_bucket y x
turn_bucket x y = same_tests (y.number == x.number) (x.number == y.number)
    (λ e. turned y.number x.number e) (λ e. turned x.number y.number e)

pub turn_session : (x y : Session) → same_session x y ≡ same_session y x
turn_session x y = is_same-sym y.id x.id

pub turn_group : (x y : SessionGroup) → same_group x y ≡ same_group y x
turn_group x y = is_key-sym y.session y.group x.session x.group

pub turn_counter : (x y : Counter) → same_counter x y ≡ same_counter y x
turn_counter x y =
    same_tests (same_counter x y) (same_counter y x)
    (λ e. let p = both (y.group == x.group) (y.cycle == x.cycle) e in both_true (x.group == y.group)
    (x.cycle == y.cycle) (turned y.group x.group p.0) (turned y.cycle x.cycle p.1))
    (λ e. let p = both (x.group == y.group) (x.cycle == y.cycle) e in both_true (y.group == x.group)
    (y.cycle == x.cycle) (turned x.group y.group p.0) (turned x.cycle y.cycle p.1))
