-- What buckets pay together.
use Rattle.std.proofs.Common.{◌≡◌, ◌≢◌, ℕ, ◌+◌, ◌-◌, Bool, true, false, List, [], ◌∷◌, refl, sym}
use Rattle.std.proofs.Common.{ap, ◌∙◌, arith}
use Rattle.std.specs.Prelude.{if◌then◌else◌, nat_lt, min}
use Rattle.std.specs.List.{AllByRecursion}
use Rattle.std.proofs.lemmas.Bool.Decides.{nat_tests}
use Rattle.buckets.specs.declared.kind.BucketKind.{BucketKind}
use Rattle.buckets.specs.declared.kind.BucketKind.TheVariants.{Money, Blocks}
use Rattle.buckets.specs.declared.kind.Due.{Due}
use Rattle.buckets.specs.declared.holds.HeldAmount.{HeldAmount}
use Rattle.buckets.specs.Kinds.{is_alike, due_in, less}
use Rattle.buckets.specs.Row.{BucketRow, eligible_amount}
use Rattle.buckets.specs.Share.{sum_in, share, parts}
use Rattle.buckets.specs.Spend.{IsInOrder, PrecedesAll, AreDistinct, DiffersFromAll}
use Rattle.buckets.specs.Holding.{held_in, unheld, paid, paid_of_hold, paid_of_rest, AreHolds}
use Rattle.buckets.specs.Laws.{PaysAll}
use Rattle.buckets.proofs.SharesAlong.{share_next, share_first}
use Rattle.buckets.proofs.Dues.{due_less, due_left, sum_in-cons}

if_both : (t : Bool) (n m : ℕ) →
    (if t then n + m else 0) ≡ (if t then n else 0) + (if t then m else 0)
if_both true n m = refl
if_both false n m = refl

pub sum_in-both : (k : BucketKind) (f g : BucketRow → ℕ) (rows : List BucketRow) →
    sum_in k (λ b. f b + g b) rows ≡ sum_in k f rows + sum_in k g rows
sum_in-both k f g [] = refl
sum_in-both k f g (b ∷ bs) =
    omega (
      arith,
      sum_in-cons k (λ x. f x + g x) b bs,
      sum_in-cons k f b bs,
      sum_in-cons k g b bs,
      if_both (is_alike b.kind k) (f b) (g b),
      sum_in-both k f g bs,
    )

-- the shares of those behind the first
sum_in-next : (k : BucketKind) (f : BucketRow → ℕ) (b : BucketRow) (bs ys : List BucketRow)
    (c : Due) →
    PrecedesAll b ys →
    sum_in k (share f (b ∷ bs) c) ys ≡ sum_in k (share f bs (less b.kind (f b) c)) ys
sum_in-next k f b bs [] c h = refl
sum_in-next k f b bs (y ∷ ys) c h =
    sum_in-cons k (share f (b ∷ bs) c) y ys
    ∙ rw (share_next f b y bs c h.0, sum_in-next k f b bs ys c h.1)
    (sym (sum_in-cons k (share f bs (less b.kind (f b) c)) y ys))

one_share : (j k : BucketKind) (n s : ℕ) (c : Due) →
    (if is_alike j k then min n (due_in j c) else 0)
    + min s (due_in k c - (if is_alike j k then n else 0))
    ≡ min ((if is_alike j k then n else 0) + s) (due_in k c)
one_share Money Money n s c = omega arith
one_share Money Blocks n s c = omega arith
one_share Blocks Money n s c = omega arith
one_share Blocks Blocks n s c = omega arith

-- the shares of what is due are all of it, as far as the sum reaches
pub sum_in-share : (k : BucketKind) (f : BucketRow → ℕ) (rows : List BucketRow) (due : Due) →
    IsInOrder rows →
    sum_in k (share f rows due) rows ≡ min (sum_in k f rows) (due_in k due)
sum_in-share k f [] due order = omega arith
sum_in-share k f (b ∷ bs) due order =
    omega (
      arith,
      sum_in-cons k (share f (b ∷ bs) due) b bs,
      ap (λ n. if is_alike b.kind k then n else 0) (share_first f b bs due order.0),
      sum_in-next k f b bs bs due order.0,
      sum_in-share k f bs (less b.kind (f b) due) order.1,
      due_less b.kind k (f b) due,
      one_share b.kind k (f b) (sum_in k f bs) due,
      sum_in-cons k f b bs,
    )

-- what the buckets pay of what is due and what is unpaid are what is due
-- rule: shares.pays-all
pub sum_in-paid : PaysAll
sum_in-paid k holds group t due rows order =
    let both : sum_in k (paid holds group t due rows) rows
    ≡ sum_in k (paid_of_hold holds due rows) rows
    + sum_in k (paid_of_rest holds group t due rows) rows =
    sum_in-both k (paid_of_hold holds due rows) (paid_of_rest holds group t due rows) rows in
    let first = sum_in-share k (held_in holds) rows due order in
    let rest = sum_in-share k (eligible_amount group t) rows (unheld holds due rows) order in
    omega (
      arith,
      both,
      first,
      rest,
      due_left (held_in holds) rows due k,
      due_left (eligible_amount group t) rows (unheld holds due rows) k,
    )

-- ---- parts of distinct buckets are holds

part_apart : (t : Bool) (n : ℕ) (h : HeldAmount) (hs : List HeldAmount) → h.bucket ≢ n →
    AllByRecursion (λ other. other.bucket ≢ n) hs →
    AllByRecursion (λ other. other.bucket ≢ n) (if t then h ∷ hs else hs)
part_apart true n h hs here more = (here, more)
part_apart false n h hs here more = more

parts_apart : (f : BucketRow → ℕ) (n : ℕ) (rows : List BucketRow) → DiffersFromAll n rows →
    AllByRecursion (λ other. other.bucket ≢ n) (parts f rows)
parts_apart f n [] differ = tt
parts_apart f n (b ∷ bs) differ =
    part_apart (nat_lt 0 (f b)) n (record { bucket = b.number; amount = f b }) (parts f bs) differ.0
    (parts_apart f n bs differ.1)

part_holds : (t : Bool) (h : HeldAmount) (hs : List HeldAmount) → nat_lt 0 h.amount ≡ t →
    AllByRecursion (λ other. other.bucket ≢ h.bucket) hs → AreHolds hs →
    AreHolds (if t then h ∷ hs else hs)
part_holds true h hs test apart more = (grind (arith, nat_tests), apart, more)
part_holds false h hs test apart more = more

pub AreHolds-parts : (f : BucketRow → ℕ) (rows : List BucketRow) → AreDistinct rows →
    AreHolds (parts f rows)
AreHolds-parts f [] distinct = tt
AreHolds-parts f (b ∷ bs) distinct =
    part_holds (nat_lt 0 (f b)) (record { bucket = b.number; amount = f b }) (parts f bs) refl
    (parts_apart f b.number bs distinct.0) (AreHolds-parts f bs distinct.1)
