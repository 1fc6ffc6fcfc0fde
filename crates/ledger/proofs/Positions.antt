-- A bucket's position at a later moment: what ended sessions held is given up, and what ended is
-- expired.
use Rattle.std.proofs.Common.{◌≡◌, ℕ, ◌+◌, ◌≤◌, Bool, true, false, List, [], ◌∷◌, map, refl, sym}
use Rattle.std.proofs.Common.{ap, ◌∙◌, subst, arith}
use Rattle.std.specs.Prelude.{if◌then◌else◌, nat_lt}
use Rattle.std.proofs.lemmas.Bool.Decides.{nat_tests}
use Rattle.buckets.specs.declared.holds.HeldAmount.{HeldAmount}
use Rattle.buckets.specs.Row.{BucketRow, IsBalanced, with_release, with_end}
use Rattle.buckets.specs.Share.{parts}
use Rattle.buckets.proofs.Kept.{balanced_release, balanced_end}
use Rattle.ledger.specs.Ledger.{Ledger, charged, is_live, held, only}
use Rattle.ledger.specs.Balance.{credits, bucket_at, holds_at}
use Rattle.ledger.specs.Laws.{ended_between, brought}
use Rattle.std.proofs.lemmas.Bool.{false≢true as not_both}
use Rattle.ledger.proofs.Columns.{balance_by, release_by, with_columns, balanced_le}
use Rattle.ledger.proofs.Holds.{held_split, split_less}
use Rattle.ledger.proofs.Later.{is_live-before}

abbrev pub end_by : Bool → BucketRow → BucketRow
end_by b row =
    if b then row else record row { available = 0; expired = row.expired + row.available }

-- before is whether the first moment is before the bucket's end, later whether the second is
pub balance_later : (before later : Bool) (c : BucketRow) (ch h rel : ℕ) →
    (later ≡ true → before ≡ true) → ch + (h + rel) ≤ c.credited →
    balance_by later c ch h ≡ end_by later (release_by later (balance_by before c ch (h + rel)) rel)
balance_later true true c ch h rel m w =
    with_columns c _ _ _ _ _ _ _ _ (omega arith) (omega arith) refl refl
balance_later false true c ch h rel m w = absurd (not_both (m refl))
balance_later true false c ch h rel m w =
    with_columns c _ _ _ _ _ _ _ _ (omega arith) (omega arith) refl (omega arith)
balance_later false false c ch h rel m w =
    with_columns c _ _ _ _ _ _ _ _ (omega arith) (omega arith) refl (omega arith)

pub until_before : (t1 t2 x : ℕ) → t1 ≤ t2 → nat_lt t2 x ≡ true → nat_lt t1 x ≡ true
until_before t1 t2 x le h = grind (arith, nat_tests)

-- a release leaves the bucket's end
pub ended_release : (b : Bool) (t : ℕ) (row : BucketRow) (rel : ℕ) → b ≡ nat_lt t row.until →
    with_end t (with_release t row rel) ≡ end_by b (release_by b row rel)
ended_release true t row rel e = rw (sym e) (rw (sym e) refl)
ended_release false t row rel e = rw (sym e) (rw (sym e) refl)

pub release_is : (before : Bool) (t2 : ℕ) (c : BucketRow) (ch h2 rel h1 : ℕ) → h1 ≡ h2 + rel →
    balance_by (nat_lt t2 c.until) c ch h2
    ≡ end_by (nat_lt t2 c.until)
    (release_by (nat_lt t2 c.until) (balance_by before c ch (h2 + rel)) rel) →
    balance_by (nat_lt t2 c.until) c ch h2
    ≡ with_end t2 (with_release t2 (balance_by before c ch h1) rel)
release_is before t2 c ch h2 rel h1 e is =
    is
    ∙ ap (λ x. end_by (nat_lt t2 c.until)
    (release_by (nat_lt t2 c.until) (balance_by before c ch x) rel)) (sym e)
    ∙ sym (ended_release (nat_lt t2 c.until) t2 (balance_by before c ch h1) rel refl)

-- a bucket at a later moment
-- rule: bucket-end.bucket-at
pub bucket_at-later : (v : ℕ → ℕ) (t1 t2 : ℕ) (ledger : Ledger) (c : BucketRow) → t1 ≤ t2 →
    IsBalanced (bucket_at v t1 ledger c) →
    bucket_at v t2 ledger c
    ≡ with_end t2
    (with_release t2 (bucket_at v t1 ledger c)
    (held (ended_between v t1 t2 ledger) c.number ledger))
bucket_at-later v t1 t2 ledger c le balanced =
    let n : ℕ = c.number in
    let ch : ℕ = charged n ledger in
    let h1 : ℕ = held (λ s g. is_live v t1 ledger s) n ledger in
    let h2 : ℕ = held (λ s g. is_live v t2 ledger s) n ledger in
    let rel : ℕ = held (ended_between v t1 t2 ledger) n ledger in
    let split : h1 ≡ h2 + rel =
    held_split (λ s g. is_live v t1 ledger s) (λ s g. is_live v t2 ledger s)
    (ended_between v t1 t2 ledger) n ledger
    (λ s g. split_less (is_live v t1 ledger s) (is_live v t2 ledger s)
    (is_live-before v t1 t2 ledger s le)) in
    let within : ch + (h2 + rel) ≤ c.credited =
    omega (arith, balanced_le (nat_lt t1 c.until) c ch h1 balanced.sum) in
    release_is (nat_lt t1 c.until) t2 c ch h2 rel h1 split
    (balance_later (nat_lt t1 c.until) (nat_lt t2 c.until) c ch h2 rel
    (until_before t1 t2 c.until le) within)

-- what is brought on is balanced
balanced_later : (v : ℕ → ℕ) (t1 t2 : ℕ) (ledger : Ledger) (c : BucketRow) → t1 ≤ t2 →
    IsBalanced (bucket_at v t1 ledger c) → IsBalanced (bucket_at v t2 ledger c)
balanced_later v t1 t2 ledger c le balanced =
    let split : held (λ s g. is_live v t1 ledger s) c.number ledger
    ≡ held (λ s g. is_live v t2 ledger s) c.number ledger
    + held (ended_between v t1 t2 ledger) c.number ledger =
    held_split (λ s g. is_live v t1 ledger s) (λ s g. is_live v t2 ledger s)
    (ended_between v t1 t2 ledger) c.number ledger
    (λ s g. split_less (is_live v t1 ledger s) (is_live v t2 ledger s)
    (is_live-before v t1 t2 ledger s le)) in
    subst IsBalanced (sym (bucket_at-later v t1 t2 ledger c le balanced))
    (balanced_end t2
    (with_release t2 (bucket_at v t1 ledger c)
    (held (ended_between v t1 t2 ledger) c.number ledger))
    (balanced_release t2 (bucket_at v t1 ledger c)
    (held (ended_between v t1 t2 ledger) c.number ledger) (omega arith) balanced))

-- rule: going-on
pub brought_on : (v : ℕ → ℕ) (t1 t2 : ℕ) (ledger : Ledger) (c : BucketRow) → t1 ≤ t2 →
    IsBalanced (bucket_at v t1 ledger c) →
    brought v t1 t2 ledger (bucket_at v t1 ledger c) ≡ bucket_at v t2 ledger c
brought_on v t1 t2 ledger c le balanced = sym (bucket_at-later v t1 t2 ledger c le balanced)

-- rule: going-on
pub brought_alike : (v : ℕ → ℕ) (t1 t2 t3 : ℕ) (ledger : Ledger) (c : BucketRow) → t1 ≤ t2 →
    t2 ≤ t3 →
    IsBalanced (bucket_at v t1 ledger c) →
    brought v t2 t3 ledger (brought v t1 t2 ledger (bucket_at v t1 ledger c))
    ≡ brought v t1 t3 ledger (bucket_at v t1 ledger c)
brought_alike v t1 t2 t3 ledger c le later balanced =
    ap (brought v t2 t3 ledger) (brought_on v t1 t2 ledger c le balanced)
    ∙ brought_on v t2 t3 ledger c later (balanced_later v t1 t2 ledger c le balanced)
    ∙ sym (brought_on v t1 t3 ledger c (omega arith) balanced)

-- the parts by number are those of the buckets as they were credited
pub parts-at : (f : ℕ → ℕ) (v : ℕ → ℕ) (t : ℕ) (ledger : Ledger) (cs : List BucketRow) →
    parts (λ b. f b.number) (map (bucket_at v t ledger) cs) ≡ parts (λ b. f b.number) cs
parts-at f v t ledger [] = refl
parts-at f v t ledger (c ∷ cs) =
    let one : HeldAmount = record { bucket = c.number; amount = f c.number } in
    λ i. (if nat_lt 0 (f c.number) then one ∷ parts-at f v t ledger cs i
    else parts-at f v t ledger cs i)

-- what a reservation holds, bucket by bucket, doesn't depend on the moment
pub holds_at-later : (v : ℕ → ℕ) (t1 t2 : ℕ) (s : List ℕ) (g : ℕ) (ledger : Ledger) →
    holds_at v t2 s g ledger ≡ holds_at v t1 s g ledger
holds_at-later v t1 t2 s g ledger =
    parts-at (λ n. held (only s g) n ledger) v t2 ledger (credits ledger)
    ∙ sym (parts-at (λ n. held (only s g) n ledger) v t1 ledger (credits ledger))
