-- The funds at a later moment: what is available, and what ended sessions held.
use Rattle.std.proofs.Common.{◌≡◌, ℕ, ◌+◌, ◌*◌, ◌<◌, ◌≤◌, ◌^◌, Bool, true, false, List, [], ◌∷◌}
use Rattle.std.proofs.Common.{length, map, refl, sym, ap, ◌∙◌, arith, None}
use Rattle.std.specs.Prelude.{if◌then◌else◌, not, ◌&&◌}
use Rattle.std.specs.List.{list_any}
use Rattle.std.proofs.lemmas.Bool.{or_parts}
use Rattle.buckets.specs.declared.holds.HeldAmount.{HeldAmount}
use Rattle.buckets.specs.Row.{BucketRow, IsBalanced, is_eligible, eligible_amount, with_end}
use Rattle.buckets.specs.Row.{with_release}
use Rattle.buckets.specs.declared.kind.BucketKind.{BucketKind}
use Rattle.buckets.specs.declared.kind.BucketKind.TheVariants.{Money, Blocks}
use Rattle.buckets.specs.Kinds.{is_alike, most_of}
use Rattle.buckets.specs.Share.{sum_in}
use Rattle.buckets.proofs.Dues.{sum_in-cons}
use Rattle.buckets.specs.Spend.{Each, IsSound}
use Rattle.buckets.specs.Holding.{held_in, held_sum}
use Rattle.reserving.specs.declared.session.Session.{Session}
use Rattle.reserving.specs.declared.session.SessionGroup.{SessionGroup}
use Rattle.reserving.specs.Sessions.{holds_in, held_by, is_live_in}
use Rattle.reserving.specs.Changes.{lapsed_in, amount_later}
use Rattle.reserving.specs.Lapsed.{held_for, is_eligible_in, lapsed_for, lapsed_funds}
use Rattle.reserving.proofs.Advancing.{held_by-split}
use Rattle.reserving.proofs.rows.LaterFunds.{funds_later-is}

-- ---- sums

part_none : (t : Bool) (n : ℕ) → n ≡ 0 → (if t then n else 0) ≡ 0
part_none true n e = e
part_none false n e = refl

parts_add : (t : Bool) (m n k : ℕ) → m + n ≡ k →
    (if t then m else 0) + (if t then n else 0) ≡ (if t then k else 0)
parts_add true m n k e = e
parts_add false m n k e = refl

part_le : (t : Bool) (n m : ℕ) → n ≤ m → (if t then n else 0) ≤ m
part_le true n m h = h
part_le false n m h = omega arith

sums_none : (kind : BucketKind) (f : BucketRow → ℕ) (rows : List BucketRow) →
    ((b : BucketRow) → f b ≡ 0) →
    sum_in kind f rows ≡ 0
sums_none kind f [] h = refl
sums_none kind f (b ∷ bs) h =
    omega (
      arith,
      sum_in-cons kind f b bs,
      part_none (is_alike b.kind kind) (f b) (h b),
      sums_none kind f bs h,
    )

sums_add : (kind : BucketKind) (f g h : BucketRow → ℕ) (rows : List BucketRow) →
    ((b : BucketRow) → f b + g b ≡ h b) → sum_in kind f rows + sum_in kind g rows ≡ sum_in kind h
    rows
sums_add kind f g h [] e = refl
sums_add kind f g h (b ∷ bs) e =
    omega (
      arith,
      sum_in-cons kind f b bs,
      sum_in-cons kind g b bs,
      sum_in-cons kind h b bs,
      parts_add (is_alike b.kind kind) (f b) (g b) (h b) (e b),
      sums_add kind f g h bs e,
    )

-- no holds have nothing
pub nothing_held : (kind : BucketKind) (rows : List BucketRow) → held_sum kind [] rows ≡ 0
nothing_held kind rows = sums_none kind (held_in []) rows (λ b. refl)

either_way : (e : Bool) (n : ℕ) → (if e then n else n) ≡ n
either_way true n = refl
either_way false n = refl

-- ---- nothing is given up where nothing is reserved

held_nothing : (kind : BucketKind) (group t : ℕ) (rows : List BucketRow) →
    held_for kind group t [] rows ≡ 0
held_nothing kind group t rows =
    sums_none kind (λ b. if is_eligible group t b then held_in [] b else 0) rows
    (λ b. either_way (is_eligible group t b) 0)

unheld : (kind : BucketKind) (k : Bool) (group t : ℕ) (rows : List BucketRow) →
    (if k then 0 else held_for kind group t [] rows) ≡ 0
unheld kind true group t rows = refl
unheld kind false group t rows = held_nothing kind group t rows

pub lapsed_for-none : (keeps : List ℕ → Bool) (kind : BucketKind) (group t : ℕ) (r : SessionGroup)
    (rows : List BucketRow) →
    r.reservation ≡ None → 0 ≡ lapsed_for keeps kind group t r rows
lapsed_for-none keeps kind group t r rows e =
    sym (ap (λ o. if keeps r.session then 0 else held_for kind group t (holds_in o) rows) e
    ∙ unheld kind (keeps r.session) group t rows)

-- ---- nothing is given up where no bucket is eligible

none_of : (a e : Bool) (n : ℕ) → (a && e) ≡ false → (if a then (if e then n else 0) else 0) ≡ 0
none_of true true n h = cc
none_of true false n h = refl
none_of false e n h = refl

held_of_none : (kind : BucketKind) (group t : ℕ) (holds : List HeldAmount) (rows : List BucketRow) →
    list_any (is_eligible_in kind group t) rows ≡ false →
    held_for kind group t holds rows ≡ 0
held_of_none kind group t holds [] h = refl
held_of_none kind group t holds (b ∷ bs) h =
    let parts = or_parts (is_eligible_in kind group t b)
    (list_any (is_eligible_in kind group t) bs) h in
    omega (
      arith,
      sum_in-cons kind (λ x. if is_eligible group t x then held_in holds x else 0) b bs,
      none_of (is_alike b.kind kind) (is_eligible group t b) (held_in holds b) parts.0,
      held_of_none kind group t holds bs parts.1,
    )

kept_or_none : (k : Bool) (n : ℕ) → n ≡ 0 → (if k then 0 else n) ≡ 0
kept_or_none true n h = refl
kept_or_none false n h = h

pub lapsed_funds-none : (keeps : List ℕ → Bool) (kind : BucketKind) (group t : ℕ)
    (groups : List SessionGroup)
    (rows : List BucketRow) → list_any (is_eligible_in kind group t) rows ≡ false →
    lapsed_funds keeps kind group t groups rows ≡ 0
lapsed_funds-none keeps kind group t [] rows h = refl
lapsed_funds-none keeps kind group t (r ∷ rs) rows h =
    omega (
      arith,
      kept_or_none (keeps r.session) (held_for kind group t (holds_in r.reservation) rows)
          (held_of_none kind group t (holds_in r.reservation) rows h),
      lapsed_funds-none keeps kind group t rs rows h,
    )

-- ---- one reservation after another is one bucket after another

abbrev lapsed_amount : (List ℕ → Bool) → ℕ → ℕ → List SessionGroup → BucketRow → ℕ
lapsed_amount keeps group t groups b =
    if is_eligible group t b then lapsed_in keeps groups b else 0

first_amount : (k e : Bool) (m n : ℕ) →
    (if k then 0 else (if e then m else 0)) + (if e then n else 0)
    ≡ (if e then (if not k then m else 0) + n else 0)
first_amount true true m n = refl
first_amount true false m n = refl
first_amount false true m n = refl
first_amount false false m n = refl

first_held : (kind : BucketKind) (k : Bool) (group t : ℕ) (holds : List HeldAmount)
    (rows : List BucketRow) →
    (if k then 0 else held_for kind group t holds rows)
    ≡ sum_in kind (λ b. if k then 0 else (if is_eligible group t b then held_in holds b else 0))
    rows
first_held kind true group t holds rows = sym (sums_none kind (λ b. 0) rows (λ b. refl))
first_held kind false group t holds rows = refl

lapsed_sum : (keeps : List ℕ → Bool) (kind : BucketKind) (group t : ℕ) (groups : List SessionGroup)
    (rows : List BucketRow) →
    lapsed_funds keeps kind group t groups rows ≡ sum_in kind
    (lapsed_amount keeps group t groups) rows
lapsed_sum keeps kind group t [] rows =
    sym (sums_none kind (lapsed_amount keeps group t []) rows
    (λ b. either_way (is_eligible group t b) 0))
lapsed_sum keeps kind group t (r ∷ rs) rows =
    (λ i. first_held kind (keeps r.session) group t (holds_in r.reservation) rows i
    + lapsed_sum keeps kind group t rs rows i)
    ∙ sums_add kind
    (λ b. if keeps r.session then 0
    else (if is_eligible group t b then held_in (holds_in r.reservation) b else 0))
    (lapsed_amount keeps group t rs) (lapsed_amount keeps group t (r ∷ rs)) rows
    (λ b.
    first_amount (keeps r.session) (is_eligible group t b) (held_in (holds_in r.reservation) b)
    (lapsed_in keeps rs b))

-- what is available and what ended sessions held are what is available later
later_amount : (e : Bool) (m n : ℕ) →
    (if e then m else 0) + (if e then n else 0) ≡ (if e then m + n else 0)
later_amount true m n = refl
later_amount false m n = refl

pub lapsed_funds-is : (kind : BucketKind) (group : ℕ) (v : ℕ → ℕ) (t : ℕ) (sessions : List Session)
    (groups : List SessionGroup)
    (rows : List BucketRow) →
    sum_in kind (eligible_amount group t) rows
    + lapsed_funds (is_live_in v t sessions) kind group t groups rows
    ≡ sum_in kind (eligible_amount group t)
    (map (λ b. with_end t (with_release t b (lapsed_in (is_live_in v t sessions) groups b))) rows)
lapsed_funds-is kind group v t sessions groups rows =
    ap (λ n. sum_in kind (eligible_amount group t) rows + n)
    (lapsed_sum (is_live_in v t sessions) kind group t groups rows)
    ∙ sums_add kind (eligible_amount group t)
    (lapsed_amount (is_live_in v t sessions) group t groups)
    (amount_later group v t sessions groups) rows
    (λ b. later_amount (is_eligible group t b) b.available
    (lapsed_in (is_live_in v t sessions) groups b))
    ∙ funds_later-is kind group v t sessions groups rows

-- ---- it is a number of the type

-- no kind has more than 10^15
pub most_of-le : (kind : BucketKind) → most_of kind ≤ 1000000000000000
most_of-le Money = omega arith
most_of-le Blocks = omega arith

lapsed_most : (keeps : List ℕ → Bool) (group t : ℕ) (groups : List SessionGroup) (b : BucketRow) →
    IsBalanced b → held_by (λ s. true) groups b ≡ b.reserved →
    lapsed_amount keeps group t groups b ≤ 1000000000000000
lapsed_most keeps group t groups b balanced held = at (is_eligible group t b)
  where
    most : lapsed_in keeps groups b ≤ 1000000000000000
    most = omega (
      arith,
      held,
      held_by-split keeps b groups,
      balanced.sum,
      balanced.most,
      most_of-le b.kind,
    )

    at : (e : Bool) → (if e then lapsed_in keeps groups b else 0) ≤ 1000000000000000
    at true = most
    at false = omega arith

sum_most : (keeps : List ℕ → Bool) (kind : BucketKind) (group t : ℕ) (groups : List SessionGroup)
    (rows : List BucketRow) →
    Each IsBalanced rows → Each (λ b. held_by (λ s. true) groups b ≡ b.reserved) rows →
    sum_in kind (lapsed_amount keeps group t groups) rows ≤ length rows * 1000000000000000
sum_most keeps kind group t groups [] balanced held = omega arith
sum_most keeps kind group t groups (b ∷ bs) balanced held =
    omega (
      arith,
      sum_in-cons kind (lapsed_amount keeps group t groups) b bs,
      part_le (is_alike b.kind kind) (lapsed_amount keeps group t groups b) 1000000000000000
          (lapsed_most keeps group t groups b balanced.0 held.0),
      sum_most keeps kind group t groups bs balanced.1 held.1,
    )

pub lapsed_funds-most : (keeps : List ℕ → Bool) (kind : BucketKind) (group t : ℕ)
    (groups : List SessionGroup)
    (rows : List BucketRow) → length rows < 2 ^ 64 → IsSound rows →
    Each (λ b. held_by (λ s. true) groups b ≡ b.reserved) rows →
    lapsed_funds keeps kind group t groups rows < 2 ^ 126
lapsed_funds-most keeps kind group t groups rows short sound held =
    omega (
      arith,
      short,
      lapsed_sum keeps kind group t groups rows,
      sum_most keeps kind group t groups rows sound.balanced held,
    )
