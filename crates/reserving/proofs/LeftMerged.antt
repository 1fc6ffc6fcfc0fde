-- Buckets that are left, in their places among those that are loaded.
use Rattle.std.proofs.Common.{◌≡◌, ℕ, ◌+◌, ◌-◌, Bool, true, false, List, [], ◌∷◌, map, refl, sym}
use Rattle.std.proofs.Common.{ap, ◌∙◌, arith}
use Rattle.std.specs.Prelude.{if◌then◌else◌, sum_by, min}
use Rattle.std.proofs.lemmas.List.Sums.{sum_by-cons}
use Rattle.buckets.specs.declared.holds.HeldAmount.{HeldAmount}
use Rattle.buckets.specs.Row.{BucketRow, precedes, eligible_amount, is_eligible, with_charge}
use Rattle.buckets.specs.Row.{with_charge_of_hold, with_release, is_paid_before}
use Rattle.buckets.specs.Share.{share, sum_before, sum_in, left_over}
use Rattle.buckets.specs.Spend.{Each, funds, allowance}
use Rattle.buckets.specs.Holding.{held_in, paid_of_hold, paid_of_rest, settled_row}
use Rattle.buckets.specs.Holding.{settled_rows, released_rows, unheld}
use Rattle.buckets.proofs.SharesAlong.{KeepsPlace, released_keeps, with_release_number}
use Rattle.buckets.proofs.SharesAlong.{with_release_until}
use Rattle.buckets.specs.declared.kind.BucketKind.{BucketKind}
use Rattle.buckets.specs.declared.kind.BucketKind.TheVariants.{Money, Blocks}
use Rattle.buckets.specs.Kinds.{is_alike, due_in}
use Rattle.buckets.specs.declared.kind.Due.{Due}
use Rattle.ledger.specs.Laws.{IsDead}
use Rattle.reserving.specs.Left.{placed, merged}
use Rattle.ledger.proofs.DeadRows.{if_zero, release_none, settled_dead}

-- ---- a change that keeps places

precedes_same : (f : BucketRow → BucketRow) → KeepsPlace f → (a b : BucketRow) →
    precedes (f a) (f b) ≡ precedes a b
precedes_same f k a b = rw (k.number a, k.until a, k.number b, k.until b) refl

map_placed : (f : BucketRow → BucketRow) → KeepsPlace f → (b : BucketRow) (xs : List BucketRow) →
    map f (placed b xs) ≡ placed (f b) (map f xs)
map_placed f k b [] = refl
map_placed f k b (x ∷ xs) =
    elim (precedes b x) as
    (λ t. map f (if t then b ∷ x ∷ xs else x ∷ placed b xs)
    ≡ (if t then f b ∷ f x ∷ map f xs else f x ∷ placed (f b) (map f xs)))
    [ true ↦ refl | false ↦ ap (λ ys. f x ∷ ys) (map_placed f k b xs) ]
    ∙ ap (λ t. if t then f b ∷ f x ∷ map f xs else f x ∷ placed (f b) (map f xs))
    (sym (precedes_same f k b x))

-- what keeps places and leaves dead buckets as they are is done to the loaded ones alone
pub map_merged : (f : BucketRow → BucketRow) → KeepsPlace f → (left rows : List BucketRow) →
    Each (λ b. f b ≡ b) left → map f (merged left rows) ≡ merged left (map f rows)
map_merged f k [] rows h = refl
map_merged f k (b ∷ bs) rows h =
    map_placed f k b (merged bs rows) ∙ (λ i. placed (h.0 i) (map_merged f k bs rows h.1 i))

-- ---- sums

sum_placed : (f : BucketRow → ℕ) (b : BucketRow) (xs : List BucketRow) →
    sum_by f (placed b xs) ≡ f b + sum_by f xs
sum_placed f b [] = sum_by-cons f b []
sum_placed f b (x ∷ xs) =
    elim (precedes b x) as
    (λ t. sum_by f (if t then b ∷ x ∷ xs else x ∷ placed b xs) ≡ f b + sum_by f (x ∷ xs)) [
      | true ↦ sum_by-cons f b (x ∷ xs)
      | false ↦ omega (arith, sum_by-cons f x (placed b xs), sum_placed f b xs, sum_by-cons f x xs)
    ]

pub sum_merged : (f : BucketRow → ℕ) (left rows : List BucketRow) → Each (λ b. f b ≡ 0) left →
    sum_by f (merged left rows) ≡ sum_by f rows
sum_merged f [] rows h = refl
sum_merged f (b ∷ bs) rows h =
    omega (arith, sum_placed f b (merged bs rows), sum_merged f bs rows h.1, h.0)

pub each_map : (P Q : BucketRow → Type 0) (xs : List BucketRow) → ((b : BucketRow) → P b → Q b) →
    Each P xs →
    Each Q xs
each_map P Q [] k h = tt
each_map P Q (x ∷ xs) k h = (k x h.0, each_map P Q xs k h.1)

pub each_both : (P Q R : BucketRow → Type 0) (xs : List BucketRow) →
    ((b : BucketRow) → P b → Q b → R b) → Each P xs →
    Each Q xs → Each R xs
each_both P Q R [] k h g = tt
each_both P Q R (x ∷ xs) k h g = (k x h.0 g.0, each_both P Q R xs k h.1 g.1)

-- dead buckets are before none, as far as money goes
pub before_merged : (f : BucketRow → ℕ) (left rows : List BucketRow) (b : BucketRow) →
    Each (λ x. f x ≡ 0) left →
    sum_before f b (merged left rows) ≡ sum_before f b rows
before_merged f left rows b h =
    sum_merged (λ x. if is_paid_before x b then f x else 0) left rows
    (each_map (λ x. f x ≡ 0) (λ x. (if is_paid_before x b then f x else 0) ≡ 0) left
    (λ x e. if_zero (is_paid_before x b) (f x) e) h)

pub share_merged : (f : BucketRow → ℕ) (left rows : List BucketRow) (due : Due) (b : BucketRow) →
    Each (λ x. f x ≡ 0) left → share f (merged left rows) due b ≡ share f rows due b
share_merged f left rows due b h =
    ap (λ n. min (f b) (due_in b.kind due - n)) (before_merged f left rows b h)

-- ---- dead buckets

pub dead_amount : (group at : ℕ) (left : List BucketRow) → Each IsDead left →
    Each (λ b. eligible_amount group at b ≡ 0) left
dead_amount group at left h =
    each_map IsDead (λ b. eligible_amount group at b ≡ 0) left
    (λ b d. if_zero (is_eligible group at b) b.available d.available) h

-- the sum of a kind doesn't know of buckets that have nothing
pub sum_in-merged : (kind : BucketKind) (f : BucketRow → ℕ) (left rows : List BucketRow) →
    Each (λ b. f b ≡ 0) left → sum_in kind f (merged left rows) ≡ sum_in kind f rows
sum_in-merged kind f left rows h =
    sum_merged (λ b. if is_alike b.kind kind then f b else 0) left rows
    (each_map (λ b. f b ≡ 0) (λ b. (if is_alike b.kind kind then f b else 0) ≡ 0) left
    (λ b e. if_zero (is_alike b.kind kind) (f b) e) h)

-- nor does what is left of what is due
pub left_over-merged : (f : BucketRow → ℕ) (left rows : List BucketRow) (due : Due) →
    Each (λ b. f b ≡ 0) left → left_over f (merged left rows) due ≡ left_over f rows due
left_over-merged f left rows due h = λ i. record {
  money = due.money - sum_in-merged Money f left rows h i;
  blocks = due.blocks - sum_in-merged Blocks f left rows h i;
}

pub funds_merged : (group at : ℕ) (left rows : List BucketRow) → Each IsDead left →
    funds group at (merged left rows) ≡ funds group at rows
funds_merged group at left rows h =
    sum_in-merged Money (eligible_amount group at) left rows (dead_amount group at left h)

pub allowance_merged : (group at : ℕ) (left rows : List BucketRow) → Each IsDead left →
    allowance group at (merged left rows) ≡ allowance group at rows
allowance_merged group at left rows h =
    sum_in-merged Blocks (eligible_amount group at) left rows (dead_amount group at left h)

settled_keeps : (holds : List HeldAmount) (group at : ℕ) (due : Due) (rows : List BucketRow) →
    KeepsPlace (settled_row holds group at due rows)
settled_keeps holds group at due rows = record {
  number = λ b. with_release_number at
      (with_charge (with_charge_of_hold b (paid_of_hold holds due rows b))
      (paid_of_rest holds group at due rows b))
      (held_in holds b - paid_of_hold holds due rows b);
  until = λ b. with_release_until at
      (with_charge (with_charge_of_hold b (paid_of_hold holds due rows b))
      (paid_of_rest holds group at due rows b))
      (held_in holds b - paid_of_hold holds due rows b);
}

-- ---- what calls do to buckets

settled_row_merged : (holds : List HeldAmount) (group at : ℕ) (due : Due)
    (left rows : List BucketRow) →
    Each IsDead left → Each (λ b. held_in holds b ≡ 0) left → (b : BucketRow) →
    settled_row holds group at due (merged left rows) b
    ≡ settled_row holds group at due rows b
settled_row_merged holds group at due left rows dead none b =
    let p : paid_of_hold holds due (merged left rows) b ≡ paid_of_hold holds due rows b =
    share_merged (held_in holds) left rows due b none in
    let rest : unheld holds due (merged left rows) ≡ unheld holds due rows =
    left_over-merged (held_in holds) left rows due none in
    let q : paid_of_rest holds group at due (merged left rows) b
    ≡ paid_of_rest holds group at due rows b =
    share_merged (eligible_amount group at) left rows (unheld holds due (merged left rows)) b
    (dead_amount group at left dead)
    ∙ ap (λ d. share (eligible_amount group at) rows d b) rest in
    λ i. with_release at (with_charge (with_charge_of_hold b (p i)) (q i)) (held_in holds b - p i)

pub settled_merged : (holds : List HeldAmount) (group at : ℕ) (due : Due)
    (left rows : List BucketRow) →
    Each IsDead left → Each (λ b. held_in holds b ≡ 0) left →
    settled_rows holds group at due (merged left rows)
    ≡ merged left (settled_rows holds group at due rows)
settled_merged holds group at due left rows dead none =
    (λ i. map (λ b. settled_row_merged holds group at due left rows dead none b i)
    (merged left rows))
    ∙ map_merged (settled_row holds group at due rows) (settled_keeps holds group at due rows)
    left rows
    (each_both IsDead (λ b. held_in holds b ≡ 0) (λ b. settled_row holds group at due rows b ≡ b)
    left (λ b d n. settled_dead holds group at due rows b d n) dead none)

pub released_merged : (holds : List HeldAmount) (at : ℕ) (left rows : List BucketRow) →
    Each (λ b. held_in holds b ≡ 0) left →
    released_rows holds at (merged left rows) ≡ merged left (released_rows holds at rows)
released_merged holds at left rows none =
    map_merged (λ b. with_release at b (held_in holds b)) (released_keeps holds at) left rows
    (each_map (λ b. held_in holds b ≡ 0) (λ b. with_release at b (held_in holds b) ≡ b) left
    (λ b e. release_none at b (held_in holds b) e) none)

-- ---- what each bucket is

each_placed : (P : BucketRow → Type 0) (b : BucketRow) (xs : List BucketRow) →
    Each P (placed b xs) → P b × Each P xs
each_placed P b [] h = h
each_placed P b (x ∷ xs) h = at (precedes b x) h (each_placed P b xs)
  where
    at : (t : Bool) → Each P (if t then b ∷ x ∷ xs else x ∷ placed b xs) →
        (Each P (placed b xs) → P b × Each P xs) → P b × Each P (x ∷ xs)
    at true k rest = k
    at false k rest = let r : P b × Each P xs = rest k.1 in (r.0, (k.0, r.1))

pub each_left : (P : BucketRow → Type 0) (left rows : List BucketRow) → Each P (merged left rows) →
    Each P left
each_left P [] rows h = tt
each_left P (b ∷ bs) rows h = let r : P b × Each P (merged bs rows) =
    each_placed P b (merged bs rows) h in (r.0, each_left P bs rows r.1)
