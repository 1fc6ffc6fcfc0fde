-- What is due in each unit, and sums of the buckets of a kind.
use Rattle.std.proofs.Common.{◌≡◌, ℕ, ◌+◌, ◌-◌, ◌<◌, List, ◌∷◌, refl, ap, ◌∙◌}
use Rattle.std.proofs.Common.{sym, length, get_or, drop, arith, set}
use Rattle.std.specs.Prelude.{if◌then◌else◌}
use Rattle.std.proofs.lemmas.List.{drop_more, drop-set-lt}
use Rattle.std.proofs.lemmas.List.Sums.{sum_by-cons}
use Rattle.buckets.specs.declared.kind.BucketKind.{BucketKind}
use Rattle.buckets.specs.declared.kind.BucketKind.TheVariants.{Money, Blocks}
use Rattle.buckets.specs.declared.kind.Due.{Due}
use Rattle.buckets.specs.Kinds.{is_alike, due_in, less}
use Rattle.buckets.specs.Row.{BucketRow}
use Rattle.buckets.specs.Share.{sum_in, left_over}

-- what is left in one unit once something is taken of another or of the same
pub due_less : (k j : BucketKind) (n : ℕ) (d : Due) →
    due_in j (less k n d) ≡ due_in j d - (if is_alike k j then n else 0)
due_less Money Money n d = refl
due_less Money Blocks n d = omega arith
due_less Blocks Money n d = omega arith
due_less Blocks Blocks n d = refl

due_is : (d e : Due) → d.money ≡ e.money → d.blocks ≡ e.blocks → d ≡ e
due_is d e m b = λ i. record { money = m i; blocks = b i }

-- the sum of one kind, bucket by bucket
pub sum_in-cons : (k : BucketKind) (f : BucketRow → ℕ) (b : BucketRow) (bs : List BucketRow) →
    sum_in k f (b ∷ bs) ≡ (if is_alike b.kind k then f b else 0) + sum_in k f bs
sum_in-cons k f b bs = sum_by-cons (λ x. if is_alike x.kind k then f x else 0) b bs

-- what is left over in one unit
pub due_left : (f : BucketRow → ℕ) (rows : List BucketRow) (d : Due) (k : BucketKind) →
    due_in k (left_over f rows d) ≡ due_in k d - sum_in k f rows
due_left f rows d Money = refl
due_left f rows d Blocks = refl

pub left_over_more : (f : BucketRow → ℕ) (b : BucketRow) (bs : List BucketRow) (d : Due) →
    left_over f (b ∷ bs) d ≡ left_over f bs (less b.kind (f b) d)
left_over_more f b bs d =
    due_is (left_over f (b ∷ bs) d) (left_over f bs (less b.kind (f b) d))
    (omega (arith, sum_in-cons Money f b bs, due_less b.kind Money (f b) d))
    (omega (arith, sum_in-cons Blocks f b bs, due_less b.kind Blocks (f b) d))

-- what a walk has taken from what is due when it stands behind a bucket
pub left_after : (f : BucketRow → ℕ) (left after whole : Due) (rows : List BucketRow) (i : ℕ)
    (d new : BucketRow) →
    i < length rows → after ≡ less (get_or rows i d).kind (f (get_or rows i d)) left →
    left_over f (drop i rows) left ≡ whole →
    left_over f (drop (i + 1) (set rows i new)) after ≡ whole
left_after f left after whole rows i d new lt is h =
    rw (drop-set-lt (i + 1) rows i new (omega arith), is)
    (sym (left_over_more f (get_or rows i d) (drop (i + 1) rows) left)
    ∙ ap (λ ys. left_over f ys left) (sym (drop_more rows i d lt)) ∙ h)
