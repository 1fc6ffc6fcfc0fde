-- Accounts in a list, found by their numbers and written where they were found, and the places that
-- are kept.
use Rattle.std.proofs.Common.{◌≡◌, ℕ, suc, ◌+◌, ◌<◌, Bool, true, false, cond, List, [], ◌∷◌, ◌++◌}
use Rattle.std.proofs.Common.{length, get_or, set, refl, sym, ap, ◌∙◌, arith, Option}
use Rattle.std.proofs.Common.{Some, None, Bor, subst}
use Rattle.std.specs.Prelude.{if◌then◌else◌, ◌==◌, is_some, position, Result, Ok, Err}
use Rattle.std.specs.Prelude.{OnErr, OnOk}
use Rattle.std.specs.List.{find, position_from}
use Rattle.std.specs.Option.{option_copied, IsSome, IfSome}
use Rattle.std.proofs.lemmas.Iterator.Adapters.{position_from-zero}
use Rattle.std.specs.Cmp.Lexicographic.{bytes_decides}
use Rattle.identifiers.specs.Texts.{same_name}
use Rattle.reserving.specs.Keyed.{put}
use Rattle.reserving.proofs.Lists.{find-passes, find-put, find-put_other, put_first, no_some}
use Rattle.reserving.proofs.Lists.{not_both}
use Rattle.reserving.proofs.KeysFound.{placed, unplaced}
use Rattle.keepers.specs.declared.entries.AccountEntry.{AccountEntry}
use Rattle.ledger.specs.declared.charge.ChargeRow.{ChargeRow}
use Rattle.reserving.specs.Left.{first_of}
use Rattle.reserving.proofs.LeftParted.{find_both}
use Rattle.keepers.specs.Tables.{charge_in}
use Rattle.keepers.specs.Memory.{is_entry, entry_in, rows_of_entry, charges_of_entry}

-- a new account is behind the others
abbrev never : {A : Type 0} → A → A → Bool
never x y = false

put_last : {A : Type 0} (p : A → Bool) (x : A) (xs : List A) → find p xs ≡ None →
    put never p x xs ≡ xs ++ x ∷ []
put_last p x [] h = refl
put_last p x (y ∷ ys) h = at (p y) refl h (put_last p x ys)
  where
    at : (t : Bool) → p y ≡ t → cond t (Some y) (find p ys) ≡ None →
        (find p ys ≡ None → put never p x ys ≡ ys ++ x ∷ []) →
        put never p x (y ∷ ys) ≡ y ∷ (ys ++ x ∷ [])
    at true e g rest = absurd (no_some y (sym g))
    at false e g rest = put_first never p x y ys false false e refl ∙ (λ i. y ∷ rest g i)

length-put : {A : Type 0} (p : A → Bool) (x : A) (xs : List A) →
    length (put never p x xs) ≡ (if is_some (find p xs) then length xs else length xs + 1)
length-put p x [] = refl
length-put p x (y ∷ ys) = at (p y) (length-put p x ys)
  where
    more : (t : Bool) (n : ℕ) → suc (if t then n else n + 1) ≡ (if t then suc n else suc n + 1)
    more true n = refl
    more false n = omega arith

    at : (t : Bool) → length (put never p x ys) ≡
        (if is_some (find p ys) then length ys else length ys + 1) →
        length (if t then x ∷ ys else y ∷ put never p x ys) ≡
        (if is_some (cond t (Some y) (find p ys)) then length (y ∷ ys) else length (y ∷ ys) + 1)
    at true r = refl
    at false r = ap suc r ∙ more (is_some (find p ys)) (length ys)

pub on_err : {T E P : Type 0} (r : Result T E) → P → OnErr r P
on_err (Ok x) p = tt
on_err (Err e) p = p

pub on_ok : {T E P : Type 0} (r : Result T E) → P → OnOk r P
on_ok (Ok x) p = p
on_ok (Err e) p = tt

pub not_ok : {T E : Type 0} (P : Type 0) (r : Result T E) (e : E) → r ≡ Err e → OnOk r P
not_ok P r e is = subst (λ x. OnOk x P) (sym is) tt

pub head_there : (o : Option AccountEntry) → is_some o ≡ is_some (rows_of_entry o).head
head_there None = refl
head_there (Some e) = refl

-- a charge by its number, once further ones are after those of an account
pub charge_over : (m a : List ℕ) (n : ℕ) (xs ys : List AccountEntry) (more : List ChargeRow) →
    charges_of_entry (entry_in a ys) ≡
    (if same_name m a then charges_of_entry (entry_in a xs) ++ more
    else charges_of_entry (entry_in a xs)) →
    charge_in n (charges_of_entry (entry_in a ys)) ≡
    (if same_name m a then first_of (charge_in n (charges_of_entry (entry_in a xs)))
    (charge_in n more) else charge_in n (charges_of_entry (entry_in a xs)))
charge_over m a n xs ys more is = ap (charge_in n) is ∙ at (same_name m a)
  where
    at : (t : Bool) → charge_in n
        (if t then charges_of_entry (entry_in a xs) ++ more else charges_of_entry (entry_in a xs)) ≡
        (if t then first_of (charge_in n (charges_of_entry (entry_in a xs))) (charge_in n more)
        else charge_in n (charges_of_entry (entry_in a xs)))
    at true = find_both (λ c. c.number == n) (charges_of_entry (entry_in a xs)) more
    at false = refl

-- the account that is where the number was found
pub record IsFound (n : List ℕ) (e : AccountEntry) (xs : List AccountEntry) : Type 0 where
  pub number : e.number ≡ n
  pub found : entry_in n xs ≡ Some e

pub found_at : (n : List ℕ) (place : ℕ) (xs : List AccountEntry) (e : AccountEntry) →
    position (is_entry n) xs ≡ Some place → e ≡ get_or xs place e → IsFound n e xs
found_at n place xs e h is =
    let found : entry_in n xs ≡ Some e = (placed never (is_entry n) e place xs h).found e
    ∙ ap Some (sym is) in
    record {
      number = (bytes_decides e.number n).0 (find-passes (is_entry n) xs e found);
      found = found;
    }

entry_put : (n a : List ℕ) (e : AccountEntry) (xs : List AccountEntry) → e.number ≡ n →
    entry_in a (put never (is_entry n) e xs) ≡ (if same_name n a then Some e else entry_in a xs)
entry_put n a e xs number = at (same_name n a) refl
  where
    other : same_name n a ≡ false → (y : AccountEntry) → is_entry n y ≡ true → is_entry a y ≡ false
    other h y e = ap (λ m. same_name m a) ((bytes_decides y.number n).0 e) ∙ h

    at : (t : Bool) → same_name n a ≡ t → entry_in a (put never (is_entry n) e xs) ≡
        (if t then Some e else entry_in a xs)
    at true h =
        ap (λ m. entry_in m (put never (is_entry n) e xs)) (sym ((bytes_decides n a).0 h))
        ∙ find-put never (is_entry n) e xs ((bytes_decides e.number n).1 number)
    at false h =
        find-put_other never (is_entry n) (is_entry a) e xs (ap (λ m. same_name m a) number ∙ h)
        (other h)

-- what is seen of the accounts, once one is put that is seen as a change of the one that was there
pub seen_put : {V : Type 0} (see : Option AccountEntry → V) (change : V → V) (n a : List ℕ)
    (e : AccountEntry)
    (xs : List AccountEntry) → e.number ≡ n → see (Some e) ≡ change (see (entry_in n xs)) →
    see (entry_in a (put never (is_entry n) e xs)) ≡
    (if same_name n a then change (see (entry_in a xs)) else see (entry_in a xs))
seen_put see change n a e xs number is = ap see (entry_put n a e xs number)
    ∙ at (same_name n a) refl
  where
    at : (t : Bool) → same_name n a ≡ t → see (if t then Some e else entry_in a xs) ≡
        (if t then change (see (entry_in a xs)) else see (entry_in a xs))
    at true h = is ∙ ap (λ m. change (see (entry_in m xs))) ((bytes_decides n a).0 h)
    at false h = refl

pub same_put : {V : Type 0} (see : Option AccountEntry → V) (n a : List ℕ) (e : AccountEntry)
    (xs : List AccountEntry) →
    e.number ≡ n → see (Some e) ≡ see (entry_in n xs) →
    see (entry_in a (put never (is_entry n) e xs)) ≡ see (entry_in a xs)
same_put see n a e xs number is = seen_put see (λ v. v) n a e xs number is ∙ at (same_name n a)
  where
    at : (t : Bool) → (if t then see (entry_in a xs) else see (entry_in a xs)) ≡ see (entry_in a xs)
    at true = refl
    at false = refl

-- ---- at the place where it was found

module _ {V : Type 0} (see : Option AccountEntry → V) (n : List ℕ) (place : ℕ)
    (xs : List AccountEntry)
    (old e : AccountEntry) (at : position (is_entry n) xs ≡ Some place)
    (is : old ≡ get_or xs place old)
    (number : e.number ≡ old.number) where
  there : IsFound n old xs
  there = found_at n place xs old at is

  set_put : set xs place e ≡ put never (is_entry n) e xs
  set_put = sym (placed never (is_entry n) e place xs at).put

  pub seen_written : (change : V → V) (a : List ℕ) → see (Some e) ≡ change (see (Some old)) →
      see (entry_in a (set xs place e)) ≡
      (if same_name n a then change (see (entry_in a xs)) else see (entry_in a xs))
  seen_written change a same = ap (λ ys. see (entry_in a ys)) set_put
      ∙ seen_put see change n a e xs (number ∙ there.number)
      (same ∙ ap (λ o. change (see o)) (sym there.found))

  pub seen_left : (a : List ℕ) → see (Some e) ≡ see (Some old) →
      see (entry_in a (set xs place e)) ≡ see (entry_in a xs)
  seen_left a same = ap (λ ys. see (entry_in a ys)) set_put
      ∙ same_put see n a e xs (number ∙ there.number) (same ∙ ap see (sym there.found))

pub count_written : (n : List ℕ) (place : ℕ) (xs : List AccountEntry) (e : AccountEntry) →
    position (is_entry n) xs ≡ Some place →
    length (set xs place e) ≡ (if is_some (entry_in n xs) then length xs else length xs + 1)
count_written n place xs e at = ap length (sym (placed never (is_entry n) e place xs at).put)
    ∙ length-put (is_entry n) e xs

-- ---- a new account

module _ (n : List ℕ) (xs : List AccountEntry) (e : AccountEntry)
    (none : position (is_entry n) xs ≡ None)
    (number : e.number ≡ n) where
  push_put : xs ++ e ∷ [] ≡ put never (is_entry n) e xs
  push_put = sym (put_last (is_entry n) e xs (unplaced (is_entry n) xs none))

  pub seen_added : {V : Type 0} (see : Option AccountEntry → V) (change : V → V) (a : List ℕ) →
      see (Some e) ≡ change (see None) → see (entry_in a (xs ++ e ∷ [])) ≡
      (if same_name n a then change (see (entry_in a xs)) else see (entry_in a xs))
  seen_added see change a same = ap (λ ys. see (entry_in a ys)) push_put
      ∙ seen_put see change n a e xs number
      (same ∙ ap (λ o. change (see o)) (sym (unplaced (is_entry n) xs none)))

  pub count_added : length (xs ++ e ∷ []) ≡
      (if is_some (entry_in n xs) then length xs else length xs + 1)
  count_added = ap length push_put ∙ length-put (is_entry n) e xs

-- ---- where each is

pub copied_there : {A : Type 0} (r : Option (Bor A)) → is_some r ≡ is_some (option_copied r)
copied_there None = refl
copied_there (Some x) = refl

-- what is read at the place that was found
pub read_at : {A : Type 0} (p : A → Bool) (i : ℕ) (xs : List A) (r : Option (Bor A)) →
    position p xs ≡ Some i → (i < length xs → IsSome r) →
    IfSome r (λ x. x.now ≡ get_or xs i x.now) → option_copied r ≡ find p xs
read_at p i [] None h some same = absurd (no_some i h)
read_at p i (y ∷ ys) None h some same =
    absurd (not_both (some (placed never p y i (y ∷ ys) h).within))
read_at p i xs (Some x) h some same = ap Some same ∙ sym ((placed never p x.now i xs h).found x.now)

from_added : {A : Type 0} (p : A → Bool) (k : ℕ) (xs : List A) (x : A) →
    position_from p k (xs ++ x ∷ []) ≡
    first_of (position_from p k xs) (cond (p x) (Some (k + length xs)) None)
from_added p k [] x = let same : k ≡ k + 0 = omega arith in ap (λ n. cond (p x) (Some n) None) same
from_added p k (y ∷ ys) x = at (p y) (from_added p (k + 1) ys x)
  where
    more : k + 1 + length ys ≡ k + suc (length ys)
    more = omega arith

    at : (t : Bool) → position_from p (k + 1) (ys ++ x ∷ []) ≡
        first_of (position_from p (k + 1) ys) (cond (p x) (Some (k + 1 + length ys)) None) →
        cond t (Some k) (position_from p (k + 1) (ys ++ x ∷ [])) ≡
        first_of (cond t (Some k) (position_from p (k + 1) ys))
        (cond (p x) (Some (k + suc (length ys))) None)
    at true rest = refl
    at false rest = rest ∙ ap
        (λ n. first_of (position_from p (k + 1) ys) (cond (p x) (Some n) None)) more

added_place : {A : Type 0} (p : A → Bool) (xs : List A) (x : A) →
    position p (xs ++ x ∷ []) ≡ first_of (position p xs) (cond (p x) (Some (length xs)) None)
added_place p xs x =
    let none : 0 + length xs ≡ length xs = omega arith in
    position_from-zero p (xs ++ x ∷ [])
    ∙ from_added p 0 xs x
    ∙ ap (λ n. first_of (position_from p 0 xs) (cond (p x) (Some n) None)) none
    ∙ ap (λ o. first_of o (cond (p x) (Some (length xs)) None)) (sym (position_from-zero p xs))

-- the place of each number, once an account is behind those that there were
pub place_added : (n a : List ℕ) (xs : List AccountEntry) (e : AccountEntry) →
    position (is_entry n) xs ≡ None →
    e.number ≡ n →
    (if same_name n a then Some (length xs) else position (is_entry a) xs) ≡
    position (is_entry a) (xs ++ e ∷ [])
place_added n a xs e none number =
    at (same_name n a) refl
    ∙ ap (λ m. first_of (position (is_entry a) xs) (cond (same_name m a) (Some (length xs)) None))
    (sym number)
    ∙ sym (added_place (is_entry a) xs e)
  where
    alone : (o : Option ℕ) → o ≡ first_of o None
    alone None = refl
    alone (Some x) = refl

    at : (t : Bool) → same_name n a ≡ t →
        (if t then Some (length xs) else position (is_entry a) xs) ≡
        first_of (position (is_entry a) xs) (cond (same_name n a) (Some (length xs)) None)
    at true h =
        ap (λ o. first_of o (Some (length xs)))
        (sym (ap (λ m. position (is_entry m) xs) (sym ((bytes_decides n a).0 h)) ∙ none))
        ∙ ap (λ t. first_of (position (is_entry a) xs) (cond t (Some (length xs)) None)) (sym h)
    at false h = alone (position (is_entry a) xs)
        ∙ ap (λ t. first_of (position (is_entry a) xs) (cond t (Some (length xs)) None)) (sym h)
