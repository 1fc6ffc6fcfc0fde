-- What a walk along holds and buckets meets is what the holds have of each bucket.
use Rattle.std.proofs.Common.{◌≡◌, ◌≢◌, ℕ, ◌+◌, ◌<◌, Bool, true, false, List, [], ◌∷◌, length}
use Rattle.std.proofs.Common.{◌≤◌, get_or, set, drop, refl, sym, ap, ◌∙◌, subst, arith}
use Rattle.std.specs.Prelude.{if◌then◌else◌, ◌==◌}
use Rattle.std.proofs.lemmas.Bool.{eqb-true}
use Rattle.std.proofs.lemmas.List.{drop_more, drop-set-lt}
use Rattle.std.proofs.lemmas.List.Sums.{sum_by-cons}
use Rattle.buckets.specs.declared.kind.Due.{Due}
use Rattle.buckets.specs.declared.holds.HeldAmount.{HeldAmount}
use Rattle.buckets.specs.Row.{BucketRow}
use Rattle.buckets.specs.Spend.{Each, DiffersFromAll}
use Rattle.buckets.specs.Kinds.{less}
use Rattle.buckets.specs.Holding.{held_in, IsWithin, IsLeftWithin}
use Rattle.buckets.specs.Merged.{first_held, next_of, unmet, AreMet}

-- where a walk stands: at a place of the holds and at one of the rows, from which on they are met
-- where the holds stand in order
pub record IsWalk (holds : List HeldAmount) (place : ℕ) (in_order : Bool) (rows : List BucketRow)
    (i : ℕ) :
    Type 0 where
  pub within : place ≤ length holds
  pub met : in_order ≡ true → AreMet holds (drop place holds) (drop i rows)

held_more : (h : HeldAmount) (hs : List HeldAmount) (b : BucketRow) →
    held_in (h ∷ hs) b ≡ (if h.bucket == b.number then h.amount else 0) + held_in hs b
held_more h hs b = sum_by-cons (λ x. if x.bucket == b.number then x.amount else 0) h hs

-- a hold of one bucket isn't of another
other_bucket : (h : HeldAmount) (x b : BucketRow) → (h.bucket == x.number) ≡ true →
    x.number ≢ b.number →
    (h.bucket == b.number) ≡ false
other_bucket h x b is other = at (h.bucket == b.number) refl
  where
    at : (t : Bool) → (h.bucket == b.number) ≡ t → t ≡ false
    at false e = refl
    at true e =
        let same : x.number ≡ b.number =
        sym (eqb-true h.bucket x.number is) ∙ eqb-true h.bucket b.number e in
        absurd (other same)

held_behind : (h : HeldAmount) (hs : List HeldAmount) (b : BucketRow) →
    (h.bucket == b.number) ≡ false →
    held_in (h ∷ hs) b ≡ held_in hs b
held_behind h hs b e =
    held_more h hs b ∙ ap (λ t. (if t then h.amount else 0) + held_in hs b) e ∙ omega arith

-- all that is met is met elsewhere
held_nowhere : (hs : List HeldAmount) (rows : List BucketRow) (b : BucketRow) → unmet hs rows ≡ [] →
    DiffersFromAll b.number rows → held_in hs b ≡ 0
held_nowhere hs [] b met away = ap (λ ys. held_in ys b) met
held_nowhere [] (x ∷ xs) b met away = refl
held_nowhere (h ∷ hs) (x ∷ xs) b met away =
    at (h.bucket == x.number) refl met (λ ys m. held_nowhere ys xs b m away.1)
  where
    at : (t : Bool) → (h.bucket == x.number) ≡ t → unmet (if t then hs else h ∷ hs) xs ≡ [] →
        ((ys : List HeldAmount) → unmet ys xs ≡ [] → held_in ys b ≡ 0) → held_in (h ∷ hs) b ≡ 0
    at true e m rest = held_behind h hs b (other_bucket h x b e away.0) ∙ rest hs m
    at false e m rest = rest (h ∷ hs) m

-- the first hold has all that is held of the first bucket
first_is : (rest : List HeldAmount) (b : BucketRow) (bs : List BucketRow) →
    unmet rest (b ∷ bs) ≡ [] →
    DiffersFromAll b.number bs → held_in rest b ≡ first_held b rest
first_is [] b bs met away = refl
first_is (h ∷ hs) b bs met away =
    at (h.bucket == b.number) refl met (λ ys m. held_nowhere ys bs b m away)
  where
    at : (t : Bool) → (h.bucket == b.number) ≡ t → unmet (if t then hs else h ∷ hs) bs ≡ [] →
        ((ys : List HeldAmount) → unmet ys bs ≡ [] → held_in ys b ≡ 0) →
        held_in (h ∷ hs) b ≡ (if t then h.amount else 0)
    at true e m none =
        held_more h hs b
        ∙ (λ i. (if e i then h.amount else 0) + none hs m i)
        ∙ omega arith
    at false e m none = none (h ∷ hs) m

-- those behind it have all that is held of the others
next_is : (rest : List HeldAmount) (b x : BucketRow) → x.number ≢ b.number →
    held_in rest x ≡ held_in (next_of b rest) x
next_is [] b x other = refl
next_is (h ∷ hs) b x other = at (h.bucket == b.number) refl
  where
    at : (t : Bool) → (h.bucket == b.number) ≡ t →
        held_in (h ∷ hs) x ≡ held_in (if t then hs else h ∷ hs) x
    at true e = held_behind h hs x (other_bucket h b x e (λ n. other (sym n)))
    at false e = refl

next_same : (holds rest : List HeldAmount) (b : BucketRow) (bs : List BucketRow) →
    DiffersFromAll b.number bs →
    Each (λ x. held_in holds x ≡ held_in rest x) bs →
    Each (λ x. held_in holds x ≡ held_in (next_of b rest) x) bs
next_same holds rest b [] away h = tt
next_same holds rest b (x ∷ xs) away h =
    (h.0 ∙ next_is rest b x away.0, next_same holds rest b xs away.1 h.1)

one_met : (holds rest : List HeldAmount) (b : BucketRow) (bs : List BucketRow) →
    AreMet holds rest (b ∷ bs) →
    held_in holds b ≡ first_held b rest
one_met holds rest b bs h = h.same.0 ∙ first_is rest b bs h.met h.distinct.0

others_met : (holds rest : List HeldAmount) (b : BucketRow) (bs : List BucketRow) →
    AreMet holds rest (b ∷ bs) →
    AreMet holds (next_of b rest) bs
others_met holds rest b bs h = record {
  met = h.met;
  same = next_same holds rest b bs h.distinct.0 h.same.1;
  distinct = h.distinct.1;
}

pub met_at : {holds : List HeldAmount} {place : ℕ} {in_order : Bool} {rows : List BucketRow} {i : ℕ}
    (d : BucketRow) → IsWalk holds place in_order rows i → i < length rows → in_order ≡ true →
    held_in holds (get_or rows i d) ≡ first_held (get_or rows i d) (drop place holds)
met_at {holds} {place} {in_order} {rows} {i} d walk lt order =
    one_met holds (drop place holds) (get_or rows i d) (drop (i + 1) rows)
    (subst (AreMet holds (drop place holds)) (drop_more rows i d lt) (walk.met order))

-- ---- behind a bucket, whatever is written there

pub walk_after : {holds : List HeldAmount} {place after : ℕ} {in_order : Bool}
    {rows : List BucketRow} {i : ℕ}
    (d new : BucketRow) → IsWalk holds place in_order rows i → after ≤ length holds →
    drop after holds ≡ next_of (get_or rows i d) (drop place holds) → i < length rows →
    IsWalk holds after in_order (set rows i new) (i + 1)
walk_after {holds} {place} {after} {in_order} {rows} {i} d new walk within is lt = record {
  within = within;
  met = λ order. rw (drop-set-lt (i + 1) rows i new (omega arith), is)
      (others_met holds (drop place holds) (get_or rows i d) (drop (i + 1) rows)
      (subst (AreMet holds (drop place holds)) (drop_more rows i d lt) (walk.met order)));
}

pub within_after : (holds : List HeldAmount) (rows : List BucketRow) (i : ℕ) (d new : BucketRow) →
    i < length rows →
    IsWithin holds (drop i rows) → IsWithin holds (drop (i + 1) (set rows i new))
within_after holds rows i d new lt h =
    rw (drop-set-lt (i + 1) rows i new (omega arith)) ((rw (drop_more rows i d lt) at h).1)

pub left_within_after : (holds : List HeldAmount) (left after : Due) (rows : List BucketRow) (i : ℕ)
    (d new : BucketRow) → i < length rows →
    after ≡ less (get_or rows i d).kind (held_in holds (get_or rows i d)) left →
    IsLeftWithin holds left (drop i rows) →
    IsLeftWithin holds after (drop (i + 1) (set rows i new))
left_within_after holds left after rows i d new lt is h =
    rw (drop-set-lt (i + 1) rows i new (omega arith), is) ((rw (drop_more rows i d lt) at h).1)
