-- Each account in its turn, and the tables once all are brought to a moment.
use Rattle.std.proofs.Common.{◌≡◌, ℕ, zero, suc, ◌+◌, ◌<◌, Bool, true, false, cond, List, [], ◌∷◌}
use Rattle.std.proofs.Common.{length, take, drop, get_or, set, refl, sym, ap, subst, ◌∙◌}
use Rattle.std.proofs.Common.{arith, Option, Some, None}
use Rattle.std.specs.Prelude.{◌≤◌, position}
use Rattle.reserving.proofs.Lists.{no_some}
use Rattle.reserving.proofs.order.Searched.{no_less}
use Rattle.std.specs.List.{position_from}
use Rattle.std.proofs.lemmas.Iterator.Adapters.{position_from-zero}
use Rattle.identifiers.specs.Texts.{same_name}
use Rattle.shelves.specs.Shelves.{Shelf}
use Rattle.ledger.specs.Ledger.{Ledger}
use Rattle.commands.specs.declared.key.Key.{Key}
use Rattle.keepers.specs.declared.entries.AccountEntry.{AccountEntry}
use Rattle.keepers.specs.Change.{AreRowsAt, AreBroughtTo, IsSwept}
use Rattle.keepers.specs.Memory.{is_entry, entry_in, rows_of_entry, answer_of_entry}
use Rattle.keepers.specs.Memory.{charges_of_entry, IsSweptEntry, AreSwept, VoucherMap}
use Rattle.keepers.specs.Memory.{memory_tables, answer_in}
use Rattle.keepers.specs.Tables.{charge_in}

first_same : {A : Type 0} (x y : A) (xs ys : List A) → x ∷ xs ≡ y ∷ ys → x ≡ y
first_same x y xs ys e = cc

rest_same : {A : Type 0} (x y : A) (xs ys : List A) → x ∷ xs ≡ y ∷ ys → xs ≡ ys
rest_same x y xs ys e = cc

no_first : {A : Type 0} (x : A) (xs : List A) → x ∷ xs ≡ [] → ⊥
no_first x xs e = cc

swept_on : (shelf : Shelf) (t i : ℕ) (xs ys : List AccountEntry) (d e : AccountEntry) →
    AreSwept shelf t (take i xs) (take i ys) → drop i ys ≡ drop i xs → i < length xs →
    IsSweptEntry shelf t (get_or ys i d) e →
    AreSwept shelf t (take (suc i) xs) (take (suc i) (set ys i e)) × drop (suc i) (set ys i e) ≡
    drop (suc i) xs
swept_on shelf t zero [] ys d e h rest less swept = absurd (no_less zero less)
swept_on shelf t zero (x ∷ xs) [] d e h rest less swept = absurd (no_first x xs (sym rest))
swept_on shelf t zero (x ∷ xs) (y ∷ ys) d e h rest less swept = (
  (subst (λ (z : AccountEntry). IsSweptEntry shelf t z e) (first_same y x ys xs rest) swept, tt),
  rest_same y x ys xs rest,
)
swept_on shelf t (suc i) [] ys d e h rest less swept = absurd (no_less (suc i) less)
swept_on shelf t (suc i) (x ∷ xs) [] d e h rest less swept = absurd h
swept_on shelf t (suc i) (x ∷ xs) (y ∷ ys) d e h rest less swept =
    let r = swept_on shelf t i xs ys d e h.1 rest (omega (arith, less)) swept in
    ((h.0, r.0), r.1)

pub swept_next : (shelf : Shelf) (t i : ℕ) (xs ys : List AccountEntry) (d e : AccountEntry) →
    AreSwept shelf t (take i xs) (take i ys) → drop i ys ≡ drop i xs → i < length xs →
    IsSweptEntry shelf t (get_or ys i d) e →
    AreSwept shelf t (take (i + 1) xs) (take (i + 1) (set ys i e)) × drop (i + 1) (set ys i e) ≡
    drop (i + 1) xs
swept_next shelf t i xs ys d e h rest less swept =
    let one : suc i ≡ i + 1 = omega arith in
    subst (λ (k : ℕ). AreSwept shelf t (take k xs) (take k (set ys i e))
    × drop k (set ys i e) ≡ drop k xs) one (swept_on shelf t i xs ys d e h rest less swept)

-- ---- tables

record AreSeen (shelf : Shelf) (t : ℕ) (x y : Option AccountEntry) : Type 0 where
  none : (rows_of_entry x).head ≡ None → rows_of_entry y ≡ rows_of_entry x
  rows : (ledger : Ledger) (u : ℕ) → u ≤ t → AreRowsAt shelf ledger u (rows_of_entry x) →
      AreRowsAt shelf ledger t (rows_of_entry y)
  listed : AreBroughtTo shelf t (rows_of_entry x) (rows_of_entry y)
  answers : (k : Key) → answer_of_entry k y ≡ answer_of_entry k x
  charges : charges_of_entry y ≡ charges_of_entry x

seen_one : (shelf : Shelf) (t : ℕ) (x y : AccountEntry) → IsSweptEntry shelf t x y →
    AreSeen shelf t (Some x) (Some y)
seen_one shelf t x y h = record {
  none = λ e. absurd (no_some _ (sym e));
  rows = h.rows;
  listed = h.listed;
  answers = λ k. ap (answer_in k) h.answers;
  charges = ap (λ c. c.items) h.charges;
}

all_seen : (shelf : Shelf) (t : ℕ) (xs ys : List AccountEntry) (a : List ℕ) →
    AreSwept shelf t xs ys →
    AreSeen shelf t (entry_in a xs) (entry_in a ys)
all_seen shelf t [] [] a h =
    record {
      none = λ e. refl;
      rows = λ ledger u le r. absurd (no_some _ r.are.head);
      listed = λ w are is le. absurd (no_some _ are.head);
      answers = λ k. refl;
      charges = refl;
    }
all_seen shelf t [] (y ∷ ys) a h = absurd h
all_seen shelf t (x ∷ xs) [] a h = absurd h
all_seen shelf t (x ∷ xs) (y ∷ ys) a h =
    subst (λ (e : Bool). AreSeen shelf t (cond (is_entry a x) (Some x) (entry_in a xs))
    (cond e (Some y) (entry_in a ys))) (ap (λ n. same_name n a) (sym h.0.number))
    (at (is_entry a x) (all_seen shelf t xs ys a h.1))
  where
    at : (e : Bool) → AreSeen shelf t (entry_in a xs) (entry_in a ys) →
        AreSeen shelf t (cond e (Some x) (entry_in a xs)) (cond e (Some y) (entry_in a ys))
    at true rest = seen_one shelf t x y h.0
    at false rest = rest

pub swept_length : (shelf : Shelf) (t : ℕ) (xs ys : List AccountEntry) → AreSwept shelf t xs ys →
    length ys ≡ length xs
swept_length shelf t [] [] h = refl
swept_length shelf t [] (y ∷ ys) h = absurd h
swept_length shelf t (x ∷ xs) [] h = absurd h
swept_length shelf t (x ∷ xs) (y ∷ ys) h = ap suc (swept_length shelf t xs ys h.1)

pub swept_tables : (shelf : Shelf) (t last : ℕ) (vouchers : VoucherMap)
    (xs ys : List AccountEntry) →
    AreSwept shelf t xs ys →
    IsSwept shelf t (memory_tables last xs vouchers) (memory_tables t ys vouchers)
swept_tables shelf t last vouchers xs ys h = record {
  last = refl;
  none = λ a. (all_seen shelf t xs ys a h).none;
  rows = λ a. (all_seen shelf t xs ys a h).rows;
  listed = λ a. (all_seen shelf t xs ys a h).listed;
  beside = record {
    answers = λ a. (all_seen shelf t xs ys a h).answers;
    charges = λ a n. ap (charge_in n) (all_seen shelf t xs ys a h).charges;
    vouchers = λ code. refl;
    count = swept_length shelf t xs ys h;
  };
}

-- ---- places

swept_from : (shelf : Shelf) (t : ℕ) (a : List ℕ) (k : ℕ) (xs ys : List AccountEntry) →
    AreSwept shelf t xs ys → position_from (is_entry a) k ys ≡ position_from (is_entry a) k xs
swept_from shelf t a k [] [] h = refl
swept_from shelf t a k [] (y ∷ ys) h = absurd h
swept_from shelf t a k (x ∷ xs) [] h = absurd h
swept_from shelf t a k (x ∷ xs) (y ∷ ys) h = λ i.
    cond (same_name (h.0.number i) a) (Some k) (swept_from shelf t a (k + 1) xs ys h.1 i)

-- each account is where it was
pub swept_place : (shelf : Shelf) (t : ℕ) (a : List ℕ) (xs ys : List AccountEntry) →
    AreSwept shelf t xs ys →
    position (is_entry a) xs ≡ position (is_entry a) ys
swept_place shelf t a xs ys h = position_from-zero (is_entry a) xs
    ∙ sym (swept_from shelf t a 0 xs ys h) ∙ sym (position_from-zero (is_entry a) ys)
