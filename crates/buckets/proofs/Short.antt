-- What is short: all holds are used up, and what is eligible is empty.
use Rattle.std.proofs.Common.{◌≡◌, ℕ, ◌+◌, ◌-◌, ◌≤◌, ◌<◌, Bool, true, false, List, [], ◌∷◌, refl}
use Rattle.std.proofs.Common.{◌∙◌, arith, inl, inr}
use Rattle.std.specs.Prelude.{if◌then◌else◌, nat_lt, nat_le, ◌==◌, ◌&&◌, ◌||◌}
use Rattle.std.proofs.lemmas.Bool.Decides.{nat_tests}
use Rattle.std.proofs.lemmas.List.Sums.{sum_by-cons}
use Rattle.buckets.specs.declared.kind.BucketKind.{BucketKind}
use Rattle.buckets.specs.declared.kind.BucketKind.TheVariants.{Money, Blocks}
use Rattle.buckets.specs.declared.kind.Due.{Due}
use Rattle.buckets.specs.declared.holds.HeldAmount.{HeldAmount}
use Rattle.buckets.specs.Kinds.{is_alike, due_in}
use Rattle.buckets.specs.Row.{BucketRow, precedes, is_paid_before, covers, is_eligible}
use Rattle.buckets.specs.Row.{eligible_amount}
use Rattle.buckets.specs.Row.{with_charge}
use Rattle.buckets.specs.Row.{with_charge_of_hold, with_release}
use Rattle.buckets.specs.Share.{sum_in, sum_before, share}
use Rattle.buckets.specs.Holding.{held_in, held_sum, unheld, paid_of_hold, paid_of_rest}
use Rattle.buckets.specs.Holding.{settled_row}
use Rattle.buckets.specs.Laws.{IsAmong, IsSpentWhereShort}
use Rattle.buckets.specs.Laws.{HoldsPayFirst, EarlierHoldsPayFirst, EarlierPayFirst}
use Rattle.buckets.proofs.Dues.{sum_in-cons, due_left}

before_itself : (t : Bool) (u n : ℕ) → (t && (nat_lt u u || (u == u && nat_lt n n))) ≡ false
before_itself true u n = grind (arith, nat_tests)
before_itself false u n = refl

-- what comes before counts the same unit
part_le : (t p : Bool) (n : ℕ) → (if t && p then n else 0) ≤ (if t then n else 0)
part_le true true n = omega arith
part_le true false n = omega arith
part_le false p n = omega arith

before_most : (f : BucketRow → ℕ) (b : BucketRow) (rows : List BucketRow) →
    sum_before f b rows ≤ sum_in b.kind f rows
before_most f b [] = omega arith
before_most f b (x ∷ xs) =
    omega (
      arith,
      part_le (is_alike x.kind b.kind) (precedes x b) (f x),
      before_most f b xs,
      sum_by-cons (λ y. if is_paid_before y b then f y else 0) x xs,
      sum_in-cons b.kind f x xs,
    )

alike_itself : (k : BucketKind) → is_alike k k ≡ true
alike_itself Money = refl
alike_itself Blocks = refl

-- what stands before a bucket, and its own, are within the sum
before_le : (f : BucketRow → ℕ) (b : BucketRow) (rows : List BucketRow) → IsAmong b rows →
    sum_before f b rows + f b ≤ sum_in b.kind f rows
before_le f b [] h = absurd h
before_le f b (x ∷ xs) (inl e) =
    let none : (if is_paid_before x b then f x else 0) ≡ 0 =
    rw (e, before_itself (is_alike b.kind b.kind) b.until b.number) refl in
    let same : (if is_alike x.kind b.kind then f x else 0) ≡ f b =
    rw (e, alike_itself b.kind) refl in
    omega (
      arith,
      none,
      same,
      before_most f b xs,
      sum_by-cons (λ y. if is_paid_before y b then f y else 0) x xs,
      sum_in-cons b.kind f x xs,
    )
before_le f b (x ∷ xs) (inr h) =
    omega (
      arith,
      part_le (is_alike x.kind b.kind) (precedes x b) (f x),
      before_le f b xs h,
      sum_by-cons (λ y. if is_paid_before y b then f y else 0) x xs,
      sum_in-cons b.kind f x xs,
    )

-- what passes the sum takes all of each
share_all : (f : BucketRow → ℕ) (b : BucketRow) (rows : List BucketRow) (due : Due) →
    IsAmong b rows →
    sum_in b.kind f rows ≤ due_in b.kind due → share f rows due b ≡ f b
share_all f b rows due h le =
    let within : sum_before f b rows + f b ≤ sum_in b.kind f rows = before_le f b rows h in
    omega (arith, within, le)

-- a bucket whose available amount is charged whole, and of which nothing is given up, has nothing
-- left
module _ (group at rest : ℕ) (b c : BucketRow) (from : c.from ≡ b.from) (until : c.until ≡ b.until)
    (scope : c.scope ≡ b.scope) where
  abbrev given : BucketRow
  given = record c { reserved = c.reserved - rest; available = c.available + rest }

  abbrev gone : BucketRow
  gone = record c { reserved = c.reserved - rest; expired = c.expired + rest }

  left_of : (l : Bool) → is_eligible group at b ≡ l → (n : ℕ) → (l ≡ true → n ≡ 0) →
      (if is_eligible group at c then n else 0) ≡ 0
  left_of l e n h =
      (λ i. if nat_le (from i) at && nat_lt at (until i) && covers (scope i) group then n else 0)
      ∙ (λ i. if e i then n else 0) ∙ last l h
    where
      last : (t : Bool) → (t ≡ true → n ≡ 0) → (if t then n else 0) ≡ 0
      last true k = k refl
      last false k = refl

  emptied : (l : Bool) → is_eligible group at b ≡ l → (l ≡ true → c.available ≡ 0) → rest ≡ 0 →
      eligible_amount group at (with_release at c rest) ≡ 0
  emptied l e h none = by_end (nat_lt at c.until) refl
    where
      more : l ≡ true → c.available + rest ≡ 0
      more k = (let left : c.available ≡ 0 = h k in omega (arith, left, none))

      by_end : (n : Bool) → nat_lt at c.until ≡ n →
          eligible_amount group at (with_release at c rest) ≡ 0
      by_end true e1 =
          (λ i. eligible_amount group at (if e1 i then given else gone))
          ∙ left_of l e (c.available + rest) more
      by_end false e1 =
          (λ i. eligible_amount group at (if e1 i then given else gone)) ∙ left_of l e c.available h

all_taken : (l : Bool) (n part : ℕ) → part ≡ (if l then n else 0) → l ≡ true → n - part ≡ 0
all_taken true n part e k = omega (arith, e)
all_taken false n part e k = absurd (let no_bucket : false ≡ true = k in cc)

-- what is due reaches all that is held in a bucket's unit, and all that is eligible
-- rule: uncollected
pub spent_all : (holds : List HeldAmount) (group at : ℕ) (due : Due) (rows : List BucketRow)
    (b : BucketRow) →
    IsAmong b rows →
    held_sum b.kind holds rows + sum_in b.kind (eligible_amount group at) rows
    ≤ due_in b.kind due →
    (paid_of_hold holds due rows b ≡ held_in holds b) ×
    (eligible_amount group at (settled_row holds group at due rows b) ≡ 0)
spent_all holds group at due rows b h reaches =
    let left = due_left (held_in holds) rows due b.kind in
    let held : paid_of_hold holds due rows b ≡ held_in holds b =
    share_all (held_in holds) b rows due h (omega (arith, reaches)) in
    let rest : paid_of_rest holds group at due rows b ≡ eligible_amount group at b =
    share_all (eligible_amount group at) b rows (unheld holds due rows) h
    (omega (arith, reaches, left)) in
    let part : ℕ = paid_of_rest holds group at due rows b in (
      held,
      emptied group at (held_in holds b - paid_of_hold holds due rows b) b
          (with_charge (with_charge_of_hold b (paid_of_hold holds due rows b)) part) refl refl
          refl
          (is_eligible group at b) refl (all_taken (is_eligible group at b) b.available part rest)
          (omega (arith, held)),
    )

-- rule: uncollected
pub spent : IsSpentWhereShort
spent holds group at due rows b h short =
    let left = due_left (held_in holds) rows due b.kind in
    let last = due_left (eligible_amount group at) rows (unheld holds due rows) b.kind in
    spent_all holds group at due rows b h (omega (arith, short, left, last))

-- ---- the first pay first

alike_trans : (j k l : BucketKind) → is_alike j k ≡ true → is_alike k l ≡ true →
    is_alike j l ≡ true
alike_trans Money Money l h m = m
alike_trans Blocks Blocks l h m = m
alike_trans Money Blocks l h m = absurd (let differ : false ≡ true = h in cc)
alike_trans Blocks Money l h m = absurd (let differ : false ≡ true = h in cc)

alike_due : (j k : BucketKind) (d : Due) → is_alike j k ≡ true → due_in j d ≡ due_in k d
alike_due Money Money d h = refl
alike_due Blocks Blocks d h = refl
alike_due Money Blocks d h = absurd (let differ : false ≡ true = h in cc)
alike_due Blocks Money d h = absurd (let differ : false ≡ true = h in cc)

alike_sum : (j k : BucketKind) (f : BucketRow → ℕ) (rows : List BucketRow) → is_alike j k ≡ true →
    sum_in j f rows ≡ sum_in k f rows
alike_sum Money Money f rows h = refl
alike_sum Blocks Blocks f rows h = refl
alike_sum Money Blocks f rows h = absurd (let differ : false ≡ true = h in cc)
alike_sum Blocks Money f rows h = absurd (let differ : false ≡ true = h in cc)

precedes_trans : (u v w m n o : ℕ) → (nat_lt u v || (u == v && nat_lt m n)) ≡ true →
    (nat_lt v w || (v == w && nat_lt n o)) ≡ true → (nat_lt u w || (u == w && nat_lt m o)) ≡ true
precedes_trans u v w m n o h k = grind (arith, nat_tests, h, k)

both : (s t : Bool) → s ≡ true → t ≡ true → (s && t) ≡ true
both true true h k = refl
both true false h k = k
both false t h k = h

first_of : (s t : Bool) → (s && t) ≡ true → s ≡ true
first_of true t h = refl
first_of false t h = h

second_of : (s t : Bool) → (s && t) ≡ true → t ≡ true
second_of true t h = h
second_of false t h = absurd (let differ : false ≡ true = h in cc)

before_trans : (x a b : BucketRow) → is_paid_before x a ≡ true → is_paid_before a b ≡ true →
    is_paid_before x b ≡ true
before_trans x a b h k =
    both (is_alike x.kind b.kind) (precedes x b)
    (alike_trans x.kind a.kind b.kind (first_of (is_alike x.kind a.kind) (precedes x a) h)
    (first_of (is_alike a.kind b.kind) (precedes a b) k))
    (precedes_trans x.until a.until b.until x.number a.number b.number
    (second_of (is_alike x.kind a.kind) (precedes x a) h)
    (second_of (is_alike a.kind b.kind) (precedes a b) k))

part_most : (s t : Bool) (n : ℕ) → (s ≡ true → t ≡ true) →
    (if s then n else 0) ≤ (if t then n else 0)
part_most true true n h = omega arith
part_most true false n h = absurd (let differ : false ≡ true = h refl in cc)
part_most false true n h = omega arith
part_most false false n h = omega arith

before_more : (f : BucketRow → ℕ) (a b : BucketRow) (rows : List BucketRow) →
    is_paid_before a b ≡ true →
    sum_before f a rows ≤ sum_before f b rows
before_more f a b [] k = omega arith
before_more f a b (x ∷ xs) k =
    omega (
      arith,
      part_most (is_paid_before x a) (is_paid_before x b) (f x) (λ h. before_trans x a b h k),
      before_more f a b xs k,
      sum_by-cons (λ y. if is_paid_before y a then f y else 0) x xs,
      sum_by-cons (λ y. if is_paid_before y b then f y else 0) x xs,
    )

-- what stands before a bucket, and its own, stand before each bucket after it
before_both : (f : BucketRow → ℕ) (a b : BucketRow) (rows : List BucketRow) → IsAmong a rows →
    is_paid_before a b ≡ true → sum_before f a rows + f a ≤ sum_before f b rows
before_both f a b [] h k = absurd h
before_both f a b (x ∷ xs) (inl e) k =
    let none : (if is_paid_before x a then f x else 0) ≡ 0 =
    rw (e, before_itself (is_alike a.kind a.kind) a.until a.number) refl in
    let whole : (if is_paid_before x b then f x else 0) ≡ f a = rw (e, k) refl in
    omega (
      arith,
      none,
      whole,
      before_more f a b xs k,
      sum_by-cons (λ y. if is_paid_before y a then f y else 0) x xs,
      sum_by-cons (λ y. if is_paid_before y b then f y else 0) x xs,
    )
before_both f a b (x ∷ xs) (inr h) k =
    omega (
      arith,
      part_most (is_paid_before x a) (is_paid_before x b) (f x) (λ h1. before_trans x a b h1 k),
      before_both f a b xs h k,
      sum_by-cons (λ y. if is_paid_before y a then f y else 0) x xs,
      sum_by-cons (λ y. if is_paid_before y b then f y else 0) x xs,
    )

-- a bucket of which something is taken follows none of its unit that has something left
share_first : (f : BucketRow → ℕ) (a b : BucketRow) (rows : List BucketRow) (due : Due) →
    IsAmong a rows →
    is_paid_before a b ≡ true → 0 < share f rows due b → share f rows due a ≡ f a
share_first f a b rows due h k some =
    let within : sum_before f a rows + f a ≤ sum_before f b rows = before_both f a b rows h k in
    let same = alike_due a.kind b.kind due
    (first_of (is_alike a.kind b.kind) (precedes a b) k) in
    omega (arith, within, some, same)

-- rule: settle-order.holds-pay-first
pub holds_first : HoldsPayFirst
holds_first holds group at due rows a b h alike some =
    let left = due_left (held_in holds) rows due b.kind in
    let same = alike_due a.kind b.kind due alike in
    let sums = alike_sum a.kind b.kind (held_in holds) rows alike in
    share_all (held_in holds) a rows due h (omega (arith, some, left, same, sums))

-- rule: settle-order.holds-pay-first
pub earlier_holds_first : EarlierHoldsPayFirst
earlier_holds_first holds due rows a b h k some =
    share_first (held_in holds) a b rows due h k some

-- rule: settle-order.holds-pay-first
pub earlier_first : EarlierPayFirst
earlier_first holds group at due rows a b h k some =
    let alike = first_of (is_alike a.kind b.kind) (precedes a b) k in
    let held : paid_of_hold holds due rows a ≡ held_in holds a =
    holds_first holds group at due rows a b h alike some in
    let rest : paid_of_rest holds group at due rows a ≡ eligible_amount group at a =
    share_first (eligible_amount group at) a b rows (unheld holds due rows) h k some in
    let part : ℕ = paid_of_rest holds group at due rows a in
    emptied group at (held_in holds a - paid_of_hold holds due rows a) a
    (with_charge (with_charge_of_hold a (paid_of_hold holds due rows a)) part) refl refl refl
    (is_eligible group at a) refl (all_taken (is_eligible group at a) a.available part rest)
    (omega (arith, held))
