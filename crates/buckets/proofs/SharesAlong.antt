-- The shares of an amount, by one walk along the buckets in order.
use Rattle.std.proofs.Common.{length, get_or, drop, ◌≡◌, ℕ, ◌+◌, ◌-◌, ◌<◌, ◌≤◌, Bool, true, false}
use Rattle.std.proofs.Common.{List, [], ◌∷◌, map, refl, sym, ap, ◌∙◌, add-one, arith}
use Rattle.std.specs.Prelude.{insert, if◌then◌else◌, nat_lt, min, ◌&&◌}
use Rattle.std.proofs.lemmas.Bool.Decides.{nat_tests}
use Rattle.std.proofs.lemmas.List.{drop_more}
use Rattle.std.proofs.lemmas.List.Sums.{sum_by-cons}
use Rattle.buckets.specs.declared.kind.Due.{Due}
use Rattle.buckets.specs.Kinds.{is_alike, due_in, less}
use Rattle.buckets.specs.Row.{BucketRow, precedes, is_paid_before, with_hold, with_charge}
use Rattle.buckets.specs.Row.{with_charge_of_hold, with_end}
use Rattle.buckets.specs.Row.{with_release, eligible_amount}
use Rattle.buckets.specs.Share.{sum_before, share, left_over, by_shares, along, parts, parts_along}
use Rattle.buckets.specs.Spend.{PrecedesAll, IsInOrder, IsBelow, inserted, place}
use Rattle.buckets.specs.declared.holds.HeldAmount.{HeldAmount}
use Rattle.buckets.specs.Holding.{held_in, unheld, IsLeftWithin, charged_rows}
use Rattle.buckets.proofs.Dues.{due_less, left_over_more}

-- what precedes is not preceded
pub precedes_asym : (a b : BucketRow) → precedes a b ≡ true → precedes b a ≡ false
precedes_asym a b h = grind (arith, nat_tests)

precedes_irrefl : (a : BucketRow) → precedes a a ≡ false
precedes_irrefl a = grind (arith, nat_tests)

not_before : (t : Bool) (a b : BucketRow) → precedes a b ≡ false → (t && precedes a b) ≡ false
not_before true a b h = h
not_before false a b h = refl

-- nothing that comes later counts
sum_before_none : (f : BucketRow → ℕ) (b : BucketRow) (bs : List BucketRow) → PrecedesAll b bs →
    sum_before f b bs ≡ 0
sum_before_none f b [] h = refl
sum_before_none f b (x ∷ xs) h =
    sum_by-cons (λ y. if is_paid_before y b then f y else 0) x xs
    ∙ rw (
      not_before (is_alike x.kind b.kind) x b (precedes_asym b x h.0),
      sum_before_none f b xs h.1,
    ) refl

sum_before_first : (f : BucketRow → ℕ) (b : BucketRow) (bs : List BucketRow) → PrecedesAll b bs →
    sum_before f b (b ∷ bs) ≡ 0
sum_before_first f b bs h =
    sum_by-cons (λ y. if is_paid_before y b then f y else 0) b bs
    ∙ rw (
      not_before (is_alike b.kind b.kind) b b (precedes_irrefl b),
      sum_before_none f b bs h,
    ) refl

and_before : (t : Bool) (a b : BucketRow) → precedes a b ≡ true → (t && precedes a b) ≡ t
and_before true a b h = h
and_before false a b h = refl

sum_before_next : (f : BucketRow → ℕ) (b x : BucketRow) (bs : List BucketRow) →
    precedes b x ≡ true →
    sum_before f x (b ∷ bs)
    ≡ (if is_alike b.kind x.kind then f b else 0) + sum_before f x bs
sum_before_next f b x bs h =
    sum_by-cons (λ y. if is_paid_before y x then f y else 0) b bs
    ∙ ap (λ t. (if t then f b else 0) + sum_before f x bs)
    (and_before (is_alike b.kind x.kind) b x h)

pub share_next : (f : BucketRow → ℕ) (b x : BucketRow) (bs : List BucketRow) (c : Due) →
    precedes b x ≡ true →
    share f (b ∷ bs) c x ≡ share f bs (less b.kind (f b) c) x
share_next f b x bs c h =
    rw (sum_before_next f b x bs h, due_less b.kind x.kind (f b) c)
    (ap (min (f x)) (omega arith))

-- the first takes what it reaches
pub share_first : (f : BucketRow → ℕ) (b : BucketRow) (bs : List BucketRow) (c : Due) →
    PrecedesAll b bs →
    share f (b ∷ bs) c b ≡ min (f b) (due_in b.kind c)
share_first f b bs c h =
    rw (sum_before_first f b bs h) (ap (min (f b)) (omega arith))

-- the shares of those behind the first
map_next : (does : BucketRow → ℕ → BucketRow) (f : BucketRow → ℕ) (b : BucketRow)
    (bs ys : List BucketRow) (c : Due) →
    PrecedesAll b ys →
    map (λ x. does x (share f (b ∷ bs) c x)) ys
    ≡ map (λ x. does x (share f bs (less b.kind (f b) c) x)) ys
map_next does f b bs [] c h = refl
map_next does f b bs (y ∷ ys) c h =
    rw (share_next f b y bs c h.0, map_next does f b bs ys c h.1) refl

-- rule: shares
pub by_shares-along : (does : BucketRow → ℕ → BucketRow) (f : BucketRow → ℕ) (rows : List BucketRow)
    (c : Due) →
    IsInOrder rows → by_shares does f rows c ≡ along does f c rows
by_shares-along does f [] c h = refl
by_shares-along does f (b ∷ bs) c h =
    let none : due_in b.kind c - 0 ≡ due_in b.kind c = omega arith in
    rw (
      sum_before_first f b bs h.0,
      map_next does f b bs bs c h.0,
      by_shares-along does f bs (less b.kind (f b) c) h.1,
      none,
    ) refl

-- what is done to a bucket leaves its place in the order
pub record KeepsPlace (does : BucketRow → BucketRow) : Type 0 where
  pub number : (b : BucketRow) → (does b).number ≡ b.number
  pub until : (b : BucketRow) → (does b).until ≡ b.until

precedes_kept : (a b c d : BucketRow) → c.number ≡ a.number → c.until ≡ a.until →
    d.number ≡ b.number →
    d.until ≡ b.until → precedes a b ≡ true → precedes c d ≡ true
precedes_kept a b c d an au bn bu h = rw (an, au, bn, bu) h

pub record KeepsPlaces (does : BucketRow → ℕ → BucketRow) : Type 0 where
  pub number : (b : BucketRow) (n : ℕ) → (does b n).number ≡ b.number
  pub until : (b : BucketRow) (n : ℕ) → (does b n).until ≡ b.until

PrecedesAll-along : (does : BucketRow → ℕ → BucketRow) (f : BucketRow → ℕ) (a c : BucketRow)
    (rows : List BucketRow)
    (left : Due) →
    KeepsPlaces does → c.number ≡ a.number → c.until ≡ a.until → PrecedesAll a rows →
    PrecedesAll c (along does f left rows)
PrecedesAll-along does f a c [] left k n u h = tt
PrecedesAll-along does f a c (b ∷ bs) left k n u h = (
  precedes_kept a b c (does b part) n u (k.number b part) (k.until b part) h.0,
  PrecedesAll-along does f a c bs (less b.kind (f b) left) k n u h.1,
)
  where
    part : ℕ
    part = min (f b) (due_in b.kind left)

pub IsInOrder-along : (does : BucketRow → ℕ → BucketRow) (f : BucketRow → ℕ) (rows : List BucketRow)
    (left : Due) →
    KeepsPlaces does → IsInOrder rows → IsInOrder (along does f left rows)
IsInOrder-along does f [] left k h = tt
IsInOrder-along does f (b ∷ bs) left k h = (
  PrecedesAll-along does f b (does b part) bs left' k (k.number b part) (k.until b part) h.0,
  IsInOrder-along does f bs left' k h.1,
)
  where
    part : ℕ
    part = min (f b) (due_in b.kind left)

    left' : Due
    left' = less b.kind (f b) left

PrecedesAll-map : (does : BucketRow → BucketRow) (a c : BucketRow) (rows : List BucketRow) →
    KeepsPlace does →
    c.number ≡ a.number → c.until ≡ a.until → PrecedesAll a rows → PrecedesAll c (map does rows)
PrecedesAll-map does a c [] k n u h = tt
PrecedesAll-map does a c (b ∷ bs) k n u h = (
  precedes_kept a b c (does b) n u (k.number b) (k.until b) h.0,
  PrecedesAll-map does a c bs k n u h.1,
)

pub IsInOrder-map : (does : BucketRow → BucketRow) (rows : List BucketRow) → KeepsPlace does →
    IsInOrder rows →
    IsInOrder (map does rows)
IsInOrder-map does [] k h = tt
IsInOrder-map does (b ∷ bs) k h =
    (PrecedesAll-map does b (does b) bs k (k.number b) (k.until b) h.0, IsInOrder-map does bs k h.1)

pub with_hold_keeps : KeepsPlaces with_hold
with_hold_keeps = record { number = λ b n. refl; until = λ b n. refl }

pub with_charge_keeps : KeepsPlaces with_charge
with_charge_keeps = record { number = λ b n. refl; until = λ b n. refl }

pub with_charge_of_hold_keeps : KeepsPlaces with_charge_of_hold
with_charge_of_hold_keeps = record { number = λ b n. refl; until = λ b n. refl }

with_end_number : (at : ℕ) (b : BucketRow) → (with_end at b).number ≡ b.number
with_end_number at b =
    elim (nat_lt at b.until) as
    (λ t. (if t then b else record b { available = 0; expired = b.expired + b.available }).number
    ≡ b.number) [ true ↦ refl | false ↦ refl ]

with_end_until : (at : ℕ) (b : BucketRow) → (with_end at b).until ≡ b.until
with_end_until at b =
    elim (nat_lt at b.until) as
    (λ t. (if t then b else record b { available = 0; expired = b.expired + b.available }).until
    ≡ b.until) [ true ↦ refl | false ↦ refl ]

pub with_end_keeps : (at : ℕ) → KeepsPlace (with_end at)
with_end_keeps at = record { number = with_end_number at; until = with_end_until at }

-- the parts are the shares above 0
parts_next : (of : BucketRow → ℕ → ℕ) (f : BucketRow → ℕ) (b : BucketRow) (bs ys : List BucketRow)
    (c : Due) →
    PrecedesAll b ys →
    parts (λ x. of x (share f (b ∷ bs) c x)) ys
    ≡ parts (λ x. of x (share f bs (less b.kind (f b) c) x)) ys
parts_next of f b bs [] c h = refl
parts_next of f b bs (y ∷ ys) c h =
    rw (share_next f b y bs c h.0, parts_next of f b bs ys c h.1) refl

-- rule: holds
pub parts-along : (of : BucketRow → ℕ → ℕ) (f : BucketRow → ℕ) (rows : List BucketRow) (c : Due) →
    IsInOrder rows →
    parts (λ b. of b (share f rows c b)) rows ≡ parts_along of f c rows
parts-along of f [] c h = refl
parts-along of f (b ∷ bs) c h =
    let none : due_in b.kind c - 0 ≡ due_in b.kind c = omega arith in
    rw (
      sum_before_first f b bs h.0,
      parts_next of f b bs bs c h.0,
      parts-along of f bs (less b.kind (f b) c) h.1,
      none,
    ) refl

-- a new bucket at its place
pub insert-place : (b : BucketRow) (rows : List BucketRow) →
    insert rows (place b.until rows) b ≡ inserted b rows
insert-place b [] = refl
insert-place b (x ∷ xs) =
    elim (nat_lt b.until x.until) as
    (λ t. insert (x ∷ xs) (if t then 0 else place b.until xs + 1) b
    ≡ (if t then b ∷ x ∷ xs else x ∷ inserted b xs))
    [ true ↦ refl | false ↦ rw add-one (ap (λ ys. x ∷ ys) (insert-place b xs)) ]

PrecedesAll-first : (b x : BucketRow) (xs : List BucketRow) → nat_lt b.until x.until ≡ true →
    PrecedesAll x xs →
    PrecedesAll b xs
PrecedesAll-first b x [] lt h = tt
PrecedesAll-first b x (y ∷ ys) lt h =
    (grind (arith, nat_tests, h.0), PrecedesAll-first b x ys lt h.1)

PrecedesAll-inserted : (a b : BucketRow) (rows : List BucketRow) → precedes a b ≡ true →
    PrecedesAll a rows →
    PrecedesAll a (inserted b rows)
PrecedesAll-inserted a b [] p h = (p, tt)
PrecedesAll-inserted a b (x ∷ xs) p h =
    elim (nat_lt b.until x.until) as
    (λ t. PrecedesAll a (if t then b ∷ x ∷ xs else x ∷ inserted b xs))
    [ true ↦ (p, h) | false ↦ (h.0, PrecedesAll-inserted a b xs p h.1) ]

inserted_at : (t : Bool) (b x : BucketRow) (xs : List BucketRow) → nat_lt b.until x.until ≡ t →
    x.number < b.number → IsInOrder (x ∷ xs) → IsInOrder (inserted b xs) →
    IsInOrder (if t then b ∷ x ∷ xs else x ∷ inserted b xs)
inserted_at true b x xs e new h rest =
    let first : precedes b x ≡ true = grind (arith, nat_tests) in
    ((first, PrecedesAll-first b x xs e h.0), h)
inserted_at false b x xs e new h rest =
    let behind : precedes x b ≡ true = grind (arith, nat_tests) in
    (PrecedesAll-inserted x b xs behind h.0, rest)

-- rule: bucket-order
pub IsInOrder-inserted : (b : BucketRow) (rows : List BucketRow) → IsBelow b.number rows →
    IsInOrder rows →
    IsInOrder (inserted b rows)
IsInOrder-inserted b [] new h = (tt, tt)
IsInOrder-inserted b (x ∷ xs) new h =
    inserted_at (nat_lt b.until x.until) b x xs refl new.0 h (IsInOrder-inserted b xs new.1 h.1)

-- a release leaves each bucket's place too
pub with_release_number : (at : ℕ) (b : BucketRow) (n : ℕ) → (with_release at b n).number ≡ b.number
with_release_number at b n =
    elim (nat_lt at b.until) as
    (λ t. (if t then record b { reserved = b.reserved - n; available = b.available + n }
    else record b { reserved = b.reserved - n; expired = b.expired + n }).number ≡ b.number)
    [ true ↦ refl | false ↦ refl ]

pub with_release_until : (at : ℕ) (b : BucketRow) (n : ℕ) → (with_release at b n).until ≡ b.until
with_release_until at b n =
    elim (nat_lt at b.until) as
    (λ t. (if t then record b { reserved = b.reserved - n; available = b.available + n }
    else record b { reserved = b.reserved - n; expired = b.expired + n }).until ≡ b.until)
    [ true ↦ refl | false ↦ refl ]

pub released_keeps : (holds : List HeldAmount) (at : ℕ) →
    KeepsPlace (λ b. with_release at b (held_in holds b))
released_keeps holds at =
    record {
      number = λ b. with_release_number at b (held_in holds b);
      until = λ b. with_release_until at b (held_in holds b);
    }

pub eligible-charged : (holds : List HeldAmount) (group at : ℕ) (left d : Due)
    (rows : List BucketRow) →
    left_over (eligible_amount group at) (along with_charge_of_hold (held_in holds) left rows) d
    ≡ left_over (eligible_amount group at) rows d
eligible-charged holds group at left d [] = refl
eligible-charged holds group at left d (b ∷ bs) =
    left_over_more (eligible_amount group at)
    (with_charge_of_hold b (min (held_in holds b) (due_in b.kind left)))
    (along with_charge_of_hold (held_in holds) (less b.kind (held_in holds b) left) bs) d
    ∙ eligible-charged holds group at (less b.kind (held_in holds b) left)
    (less b.kind (eligible_amount group at b) d) bs
    ∙ sym (left_over_more (eligible_amount group at) b bs d)

-- charged to the holds and then to what is eligible
pub charged_rows-along : (holds : List HeldAmount) (group at : ℕ) (due : Due)
    (rows : List BucketRow) →
    IsInOrder rows →
    charged_rows holds group at due rows
    ≡ along with_charge (eligible_amount group at) (unheld holds due rows)
    (along with_charge_of_hold (held_in holds) due rows)
charged_rows-along holds group at due rows h =
    rw (by_shares-along with_charge_of_hold (held_in holds) rows due h)
    (by_shares-along with_charge (eligible_amount group at)
    (along with_charge_of_hold (held_in holds) due rows) (unheld holds due rows)
    (IsInOrder-along with_charge_of_hold (held_in holds) rows due with_charge_of_hold_keeps h))

-- what a later walk finds of the holds is what the first walk found
pub left_within_at : (holds : List HeldAmount) (left : Due) (rows : List BucketRow) (i : ℕ)
    (d : BucketRow) →
    i < length rows → IsLeftWithin holds left (drop i rows) →
    held_in holds (get_or rows i d)
    - min (held_in holds (get_or rows i d)) (due_in (get_or rows i d).kind left)
    ≤ (get_or rows i d).reserved
left_within_at holds left rows i d lt h = (rw (drop_more rows i d lt) at h).0
