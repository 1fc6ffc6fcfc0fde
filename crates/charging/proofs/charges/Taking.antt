-- What the charges of parts of buckets take of the buckets of a kind.
use Rattle.std.proofs.Common.{◌≡◌, ◌≢◌, ℕ, ◌+◌, ◌==◌, Bool, true, false, List, [], ◌∷◌, ◌++◌, map}
use Rattle.std.proofs.Common.{refl, sym, ap, ◌∙◌, arith, Some}
use Rattle.std.specs.Prelude.{if◌then◌else◌, nat_lt}
use Rattle.std.proofs.lemmas.Bool.Decides.{nat_tests}
use Rattle.buckets.specs.declared.kind.BucketKind.{BucketKind}
use Rattle.buckets.specs.declared.holds.HeldAmount.{HeldAmount}
use Rattle.buckets.specs.Kinds.{is_alike}
use Rattle.buckets.specs.Row.{BucketRow}
use Rattle.buckets.specs.Share.{sum_in, parts}
use Rattle.buckets.specs.Spend.{AreDistinct, DiffersFromAll, Each}
use Rattle.buckets.proofs.Dues.{sum_in-cons}
use Rattle.ledger.specs.Ledger.{Ledger, next_bucket}
use Rattle.ledger.specs.Balance.{credits, bucket_at, buckets_at}
use Rattle.ledger.specs.Settlement.{charge_facts}
use Rattle.ledger.proofs.Names.{number_same}
use Rattle.reserving.proofs.Keys.{same_number}
use Rattle.charging.specs.Paid.{taken}
use Rattle.charging.specs.PaidParts.{kind_in, is_of}
use Rattle.charging.proofs.steps.Credited.{AreCredited, charge_credits, distinct}

-- ---- each bucket's kind is found by its number

next_kind : (n : ℕ) (b : BucketRow) (bs : List BucketRow) → n ≢ b.number →
    kind_in n (b ∷ bs) ≡ kind_in n bs
next_kind n b bs apart = by_test (b.number == n) refl
  where
    by_test : (t : Bool) → (b.number == n) ≡ t →
        (if t then Some b.kind else kind_in n bs) ≡ kind_in n bs
    by_test true e = absurd (apart (sym (same_number b.number n e)))
    by_test false e = refl

kinds_more : (b : BucketRow) (bs xs : List BucketRow) → DiffersFromAll b.number xs →
    Each (λ x. kind_in x.number bs ≡ Some x.kind) xs →
    Each (λ x. kind_in x.number (b ∷ bs) ≡ Some x.kind) xs
kinds_more b bs [] d h = tt
kinds_more b bs (x ∷ xs) d h =
    (next_kind x.number b bs d.0 ∙ h.0, kinds_more b bs xs d.1 h.1)

kinds_found : (rows : List BucketRow) → AreDistinct rows →
    Each (λ x. kind_in x.number rows ≡ Some x.kind) rows
kinds_found [] h = tt
kinds_found (b ∷ bs) h = (
  (λ i. if number_same b.number i then Some b.kind else kind_in b.number bs),
  kinds_more b bs bs h.0 (kinds_found bs h.1),
)

-- wherever the buckets are
kinds_moved : (n : ℕ) (v : ℕ → ℕ) (t : ℕ) (ledger : Ledger) (cs : List BucketRow) →
    kind_in n (map (bucket_at v t ledger) cs) ≡ kind_in n cs
kinds_moved n v t ledger [] = refl
kinds_moved n v t ledger (c ∷ cs) =
    ap (λ o. if c.number == n then Some c.kind else o) (kinds_moved n v t ledger cs)

kinds_of : (cs rows : List BucketRow) → ((n : ℕ) → kind_in n rows ≡ kind_in n cs) →
    (xs : List BucketRow) →
    Each (λ x. kind_in x.number rows ≡ Some x.kind) xs →
    Each (λ x. kind_in x.number cs ≡ Some x.kind) xs
kinds_of cs rows same [] h = tt
kinds_of cs rows same (x ∷ xs) h =
    (sym (same x.number) ∙ h.0, kinds_of cs rows same xs h.1)

-- ---- what is taken

-- what holds take of the buckets of a kind, where these are known by their numbers
abbrev amounts_of : BucketKind → List BucketRow → List HeldAmount → ℕ
amounts_of k cs [] = 0
amounts_of k cs (h ∷ hs) =
    (if is_of k (kind_in h.bucket cs) then h.amount else 0) + amounts_of k cs hs

one_part : (k : BucketKind) (cs : List BucketRow) (t p : Bool) (h : HeldAmount)
    (hs : List HeldAmount) →
    nat_lt 0 h.amount ≡ t → is_of k (kind_in h.bucket cs) ≡ p →
    amounts_of k cs (if t then h ∷ hs else hs)
    ≡ (if p then h.amount else 0) + amounts_of k cs hs
one_part k cs true p h hs e q = λ i. (if q i then h.amount else 0) + amounts_of k cs hs
one_part k cs false true h hs e q =
    (let none : h.amount ≡ 0 = grind (arith, nat_tests) in omega (arith, none))
one_part k cs false false h hs e q = omega arith

amounts_of-parts : (k : BucketKind) (cs : List BucketRow) (f : BucketRow → ℕ)
    (rows : List BucketRow) →
    Each (λ x. kind_in x.number cs ≡ Some x.kind) rows →
    amounts_of k cs (parts f rows) ≡ sum_in k f rows
amounts_of-parts k cs f [] h = refl
amounts_of-parts k cs f (b ∷ bs) h =
    one_part k cs (nat_lt 0 (f b)) (is_alike b.kind k)
    (record { bucket = b.number; amount = f b }) (parts f bs) refl (ap (is_of k) h.0)
    ∙ ap (λ n. (if is_alike b.kind k then f b else 0) + n) (amounts_of-parts k cs f bs h.1)
    ∙ sym (sum_in-cons k f b bs)

taken-charges : (k : BucketKind) (t : ℕ) (hs : List HeldAmount) (ledger : Ledger) →
    taken k (charge_facts t hs ++ ledger) ≡ amounts_of k (credits ledger) hs + taken k ledger
taken-charges k t [] ledger = omega arith
taken-charges k t (h ∷ hs) ledger =
    let same : (if is_of k (kind_in h.bucket (credits (charge_facts t hs ++ ledger)))
    then h.amount else 0)
    ≡ (if is_of k (kind_in h.bucket (credits ledger)) then h.amount else 0) =
    ap (λ rows. if is_of k (kind_in h.bucket rows) then h.amount else 0)
    (charge_credits t hs ledger).rows in
    omega (arith, same, taken-charges k t hs ledger)

-- charges of parts of an account's buckets take of a kind what the parts are of it
-- rule: paid.taken
pub taken_parts : (k : BucketKind) (f : BucketRow → ℕ) (v : ℕ → ℕ) (t : ℕ) (ledger : Ledger) →
    AreCredited (credits ledger) (next_bucket ledger) →
    taken k (charge_facts t (parts f (buckets_at v t ledger)) ++ ledger)
    ≡ sum_in k f (buckets_at v t ledger) + taken k ledger
taken_parts k f v t ledger made =
    let rows : List BucketRow = buckets_at v t ledger in
    let found : Each (λ x. kind_in x.number (credits ledger) ≡ Some x.kind) rows =
    kinds_of (credits ledger) rows (λ n. kinds_moved n v t ledger (credits ledger)) rows
    (kinds_found rows (distinct v t ledger made)) in
    omega (
      arith,
      taken-charges k t (parts f rows) ledger,
      amounts_of-parts k (credits ledger) f rows found,
    )
