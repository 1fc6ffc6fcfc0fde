-- The uses of a request's services, counted one after another, and what a settlement leaves of them.
use Rattle.std.proofs.Common.{◌≡◌, ℕ, ◌+◌, ◌<◌, Bool, true, false, List, [], ◌∷◌, drop, length, get_or}
use Rattle.std.proofs.Common.{refl, sym, ap, ◌∙◌, subst, arith, Option, Some, None}
use Rattle.std.specs.Prelude.{◌==◌, not, if◌then◌else◌, is_some}
use Rattle.std.specs.List.{list_all}
use Rattle.std.proofs.lemmas.Bool.{and_parts}
use Rattle.std.proofs.lemmas.List.{length-drop, at_drop_more}
use Prim.Native.Nat.{zero, suc}
use Rattle.commands.specs.declared.service.Service.{Service}
use Rattle.units.specs.declared.blocks.UsedPart.{UsedPart}
use Rattle.tariffs.specs.Books.{Book}
use Rattle.shelves.specs.Shelves.{book_at}
use Rattle.ledger.specs.Settlement.{charge_count}
use Rattle.reserving.specs.declared.settle.CountedUse.{CountedUse}
use Rattle.reserving.specs.Rows.{AccountRows}
use Rattle.reserving.specs.Uses.{IsUseOf, LeavesUses}
use Rattle.decisions.specs.Services.{is_known, parts_of}
use Rattle.decisions.specs.Parts.{service_charges}
use Rattle.decisions.specs.Counted.{IsServiceUse, AreCounted}
use Rattle.decisions.proofs.Passing.{apart}

-- ---- the charges of a use

charges_known : (b : Book) (x : Service) → is_known b x.group ≡ true →
    service_charges b x ≡ charge_count (parts_of x.used)
charges_known b x k = ap (λ t. if t then charge_count (parts_of x.used) else 0) k

charges_other : (b : Book) (x : Service) → is_known b x.group ≡ false → service_charges b x ≡ 0
charges_other b x k = ap (λ t. if t then charge_count (parts_of x.used) else 0) k

charges_some : (parts : List UsedPart) → (parts ≡ [] → ⊥) → 1 ≡ charge_count parts
charges_some [] some = absurd (some refl)
charges_some (p ∷ ps) some = refl

-- a use that is counted makes one charge
pub use_charges : (s : List ℕ) (charges t : ℕ) (a : AccountRows) (x : Service)
    (u : Option CountedUse) → IsServiceUse s charges t a x u →
    (if is_some u then 1 else 0) ≡ service_charges (book_at a.shelf t) x
use_charges s charges t a x u h = at (is_known (book_at a.shelf t) x.group) refl u h.known h.other
  where
    at : (k : Bool) → is_known (book_at a.shelf t) x.group ≡ k → (o : Option CountedUse) →
        (is_known (book_at a.shelf t) x.group ≡ true →
        IsUseOf s x.group (parts_of x.used) charges t a o) →
        (is_known (book_at a.shelf t) x.group ≡ false → o ≡ None) →
        (if is_some o then 1 else 0) ≡ service_charges (book_at a.shelf t) x
    at true e None known other =
        sym (charges_known (book_at a.shelf t) x e ∙ ap charge_count (known e))
    at true e (Some y) known other =
        charges_some (parts_of x.used) (known e).some
        ∙ sym (charges_known (book_at a.shelf t) x e)
    at false e o known other =
        ap (λ y. if is_some y then 1 else 0) (other e)
        ∙ sym (charges_other (book_at a.shelf t) x e)

-- ---- one more is counted

counted_more : (s : List ℕ) (t : ℕ) (a : AccountRows) (n m : ℕ) (xs : List Service)
    (us : List (Option CountedUse)) → n ≡ m → AreCounted s n t a xs us → AreCounted s m t a xs us
counted_more s t a n m xs us e h = subst (λ k. AreCounted s k t a xs us) e h

pub counts_one : (s : List ℕ) (charges own t : ℕ) (a : AccountRows) (x : Service)
    (xs : List Service) (u : Option CountedUse) (us : List (Option CountedUse)) →
    IsServiceUse s charges t a x u → own ≡ (if is_some u then 1 else 0) →
    AreCounted s (charges + own) t a xs us → AreCounted s charges t a (x ∷ xs) (u ∷ us)
counts_one s charges own t a x xs u us h e rest = (
  h,
  counted_more s t a (charges + own) (charges + service_charges (book_at a.shelf t) x) xs us
      (ap (λ n. charges + n) (e ∙ use_charges s charges t a x u h)) rest,
)

-- ---- the first of them is settled

pub there_is : (s : List ℕ) (n t : ℕ) (a : AccountRows) (x : Service) (xs : List Service)
    (us : List (Option CountedUse)) → AreCounted s n t a (x ∷ xs) us → 0 < length us
there_is s n t a x xs [] h = absurd h
there_is s n t a x xs (u ∷ us) h = omega arith

-- a settlement leaves the others' uses, with its own charges behind them
others_left : (s : List ℕ) (g charges more t : ℕ) (a after : AccountRows) (ys : List Service)
    (us : List (Option CountedUse)) → after.shelf ≡ a.shelf →
    list_all (λ (y : Service). not (g == y.group)) ys ≡ true →
    LeavesUses s g charges t a after → AreCounted s (charges + more) t a ys us →
    AreCounted s more t after ys us
others_left s g charges more t a after [] [] e differ leaves h = tt
others_left s g charges more t a after [] (u ∷ us) e differ leaves h = absurd h
others_left s g charges more t a after (y ∷ ys) [] e differ leaves h = absurd h
others_left s g charges more t a after (y ∷ ys) (u ∷ us) e differ leaves h =
    let both : (not (g == y.group) ≡ true)
    × (list_all (λ (z : Service). not (g == z.group)) ys ≡ true) =
    and_parts (not (g == y.group)) (list_all (λ (z : Service). not (g == z.group)) ys) differ in
    let book : book_at after.shelf t ≡ book_at a.shelf t = ap (λ b. book_at b t) e in
    let own : service_charges (book_at after.shelf t) y ≡ service_charges (book_at a.shelf t) y =
    ap (λ b. service_charges b y) book in
    let number : charges + more + service_charges (book_at a.shelf t) y
    ≡ charges + (more + service_charges (book_at after.shelf t) y) = omega (arith, own) in (
      record {
        known =
            λ k. leaves y.group (parts_of y.used) more u (apart g y.group both.0)
            (h.0.known (sym (ap (λ b. is_known b y.group) book) ∙ k));
        other = λ k. h.0.other (sym (ap (λ b. is_known b y.group) book) ∙ k);
      },
      others_left s g charges (more + service_charges (book_at after.shelf t) y) t a after ys us e
          both.1 leaves
          (counted_more s t a (charges + more + service_charges (book_at a.shelf t) y)
          (charges + (more + service_charges (book_at after.shelf t) y)) ys us number h.1),
    )

pub first_settled : (s : List ℕ) (t : ℕ) (a after : AccountRows) (x : Service) (xs : List Service)
    (us : List (Option CountedUse)) → after.shelf ≡ a.shelf →
    list_all (λ (y : Service). not (x.group == y.group)) xs ≡ true →
    LeavesUses s x.group (service_charges (book_at a.shelf t) x) t a after →
    AreCounted s 0 t a (x ∷ xs) us → AreCounted s 0 t after xs (drop 1 us)
first_settled s t a after x xs [] e differ leaves h = absurd h
first_settled s t a after x xs (u ∷ us) e differ leaves h =
    let own : ℕ = service_charges (book_at a.shelf t) x in
    let number : 0 + own ≡ own + 0 = omega arith in
    others_left s x.group own 0 t a after xs us e differ leaves
    (counted_more s t a (0 + own) (own + 0) xs us number h.1)

after_first : (n : ℕ) (us : List (Option CountedUse)) → drop 1 (drop n us) ≡ drop (suc n) us
after_first zero us = refl
after_first (suc n) [] = refl
after_first (suc n) (u ∷ us) = after_first n us

pub next_uses : (n : ℕ) (us : List (Option CountedUse)) → drop 1 (drop n us) ≡ drop (n + 1) us
next_uses n us = let next : suc n ≡ n + 1 = omega arith in
    after_first n us ∙ ap (λ k. drop k us) next

-- its use is the first of those that are left
pub first_use : (s : List ℕ) (n t : ℕ) (a : AccountRows) (x : Service) (xs : List Service)
    (us : List (Option CountedUse)) (i : ℕ) (d : Option CountedUse) →
    AreCounted s n t a (x ∷ xs) (drop i us) → IsServiceUse s n t a x (get_or us i d)
first_use s n t a x xs us i d h =
    let room : i < length us =
    omega (arith, length-drop i us, there_is s n t a x xs (drop i us) h) in
    (subst (AreCounted s n t a (x ∷ xs)) (at_drop_more (λ ys. ys) us i d room) h).0

-- nothing is settled of a group without a tariff
pub leaves_same : (s : List ℕ) (g charges t : ℕ) (a after : AccountRows) → charges ≡ 0 →
    after ≡ a → LeavesUses s g charges t a after
leaves_same s g charges t a after none same h parts more u apart is =
    let number : charges + more ≡ more = omega (arith, none) in
    subst (λ x. IsUseOf s h parts more t x u) (sym same)
    (subst (λ n. IsUseOf s h parts n t a u) number is)

pub leaves_known : (s : List ℕ) (t : ℕ) (a after : AccountRows) (b : Book) (x : Service)
    (parts : List UsedPart) → is_known b x.group ≡ true → parts ≡ parts_of x.used →
    LeavesUses s x.group (charge_count parts) t a after →
    LeavesUses s x.group (service_charges b x) t a after
leaves_known s t a after b x parts k same h =
    subst (λ n. LeavesUses s x.group n t a after)
    (ap charge_count same ∙ sym (charges_known b x k)) h

pub leaves_other : (s : List ℕ) (t : ℕ) (a after : AccountRows) (b : Book) (x : Service) →
    is_known b x.group ≡ false → after ≡ a → LeavesUses s x.group (service_charges b x) t a after
leaves_other s t a after b x k same =
    leaves_same s x.group (service_charges b x) t a after (charges_other b x k) same

-- ---- what is counted of a service

-- a use is of a known group
pub known_of : (s : List ℕ) (t : ℕ) (a : AccountRows) (x : Service) (u : Option CountedUse) →
    is_some u ≡ true → IsServiceUse s 0 t a x u → is_known (book_at a.shelf t) x.group ≡ true
known_of s t a x u some h = at (is_known (book_at a.shelf t) x.group) refl
  where
    at : (k : Bool) → is_known (book_at a.shelf t) x.group ≡ k →
        is_known (book_at a.shelf t) x.group ≡ true
    at true e = e
    at false e = (let no : false ≡ true = sym (ap is_some (h.other e)) ∙ some in absurd (cc))

parts_there : (s : List ℕ) (g t : ℕ) (a : AccountRows) (parts : List UsedPart)
    (u : Option CountedUse) → is_some u ≡ true → IsUseOf s g parts 0 t a u →
    (length parts ≡ 0 → ⊥)
parts_there s g t a parts None some h none = (let no : false ≡ true = some in absurd (cc))
parts_there s g t a [] (Some y) some h none = h.some refl
parts_there s g t a (p ∷ ps) (Some y) some h none = absurd (omega (arith, none))

pub some_of : (s : List ℕ) (t : ℕ) (a : AccountRows) (x : Service) (u : Option CountedUse)
    (parts : List UsedPart) → parts ≡ parts_of x.used → is_some u ≡ true →
    IsServiceUse s 0 t a x u → (length parts ≡ 0 → ⊥)
some_of s t a x u parts same some h =
    parts_there s x.group t a parts u some
    (subst (λ ps. IsUseOf s x.group ps 0 t a u) (sym same) (h.known (known_of s t a x u some h)))

bare_use : (s : List ℕ) (g t : ℕ) (a : AccountRows) (parts : List UsedPart)
    (u : Option CountedUse) → is_some u ≡ false → IsUseOf s g parts 0 t a u → parts ≡ []
bare_use s g t a parts None bare h = h
bare_use s g t a parts (Some y) bare h = (let no : true ≡ false = bare in absurd (cc))

pub unreported : (s : List ℕ) (t : ℕ) (a : AccountRows) (x : Service) (u : Option CountedUse)
    (parts : List UsedPart) → parts ≡ parts_of x.used →
    is_known (book_at a.shelf t) x.group ≡ true → is_some u ≡ false →
    IsServiceUse s 0 t a x u → parts ≡ []
unreported s t a x u parts same k bare h =
    same ∙ bare_use s x.group t a (parts_of x.used) u bare (h.known k)
