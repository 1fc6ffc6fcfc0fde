-- What is held for a rating group, taken along the buckets.
use Rattle.std.proofs.Common.{◌≡◌, ℕ, Bool, true, false, cond, List, [], ◌∷◌, Some, None, refl}
use Rattle.std.proofs.Common.{sym, ap, subst, ◌∙◌, arith, true≢false}
use Rattle.std.specs.Prelude.{if◌then◌else◌, ◌==◌, ◌&&◌, ◌||◌, nat_lt, not, option_map}
use Rattle.std.specs.Prelude.{unwrap_or}
use Rattle.std.specs.List.{find, list_any}
use Rattle.std.proofs.lemmas.Bool.{and_parts}
use Rattle.buckets.specs.declared.holds.HeldAmount.{HeldAmount}
use Rattle.buckets.specs.declared.kind.BucketKind.TheVariants.{Money}
use Rattle.buckets.specs.Row.{BucketRow, new_row}
use Rattle.buckets.specs.Share.{parts}
use Rattle.buckets.specs.Spend.{Each, AreDistinct}
use Rattle.buckets.proofs.Parts.{sum_at, sum_at-parts, held_in-sum_at}
use Rattle.keepers.specs.Tables.{held_at}
use Rattle.sql_rows.specs.declared.hold_rows.HeldColumns.{HeldColumns}
use Rattle.sql_keeper.specs.GroupRows.{amount_of, is_held_of, are_held_of, holds_along}
use Rattle.sql_keeper.proofs.puts.Overlays.{number_from}

held_as_sum : (n : ℕ) (hs : List HeldAmount) → held_at n hs ≡ sum_at n hs
held_as_sum n hs = held_in-sum_at hs (new_row Money n 0 0 None 0)

-- ---- a number that is there, and one that isn't

present : (amount : ℕ → ℕ) (n : ℕ) (hs : List HeldAmount) (bs : List BucketRow)
    → Each (λ b. sum_at b.number hs ≡ amount b.number) bs → list_any (λ b. b.number == n) bs ≡ true
    → sum_at n hs ≡ amount n
present amount n hs [] each e = absurd (true≢false (sym e))
present amount n hs (b ∷ bs) each e = go (present amount n hs bs each.1) (b.number == n) refl
  where
    go : (list_any (λ (x : BucketRow). x.number == n) bs ≡ true → sum_at n hs ≡ amount n) →
        (t : Bool)
        → (b.number == n) ≡ t → sum_at n hs ≡ amount n
    go later true k = subst (λ m. sum_at m hs ≡ amount m) (number_from b.number n k) each.0
    go later false k =
        later (subst (λ t. (t || list_any (λ (x : BucketRow). x.number == n) bs) ≡ true) k e)

of_another : (n : ℕ) (p : Bool) (h : HeldAmount) (hs : List HeldAmount) → (h.bucket == n) ≡ false
    → sum_at n hs ≡ 0 → sum_at n (cond p (h ∷ hs) hs) ≡ 0
of_another n true h hs k rest =
    let here : (if h.bucket == n then h.amount else 0) ≡ 0 =
    ap (λ t. if t then h.amount else 0) k in
    omega (arith, here, rest)
of_another n false h hs k rest = rest

absent : (f : BucketRow → ℕ) (n : ℕ) (bs : List BucketRow) → list_any (λ b. b.number == n) bs ≡
    false
    → sum_at n (parts f bs) ≡ 0
absent f n [] e = refl
absent f n (b ∷ bs) e = go (absent f n bs) (b.number == n) refl
  where
    go : (list_any (λ (x : BucketRow). x.number == n) bs ≡ false → sum_at n (parts f bs) ≡ 0) →
        (t : Bool)
        → (b.number == n) ≡ t → sum_at n (parts f (b ∷ bs)) ≡ 0
    go later true k =
        absurd
        (true≢false (subst (λ t. (t || list_any (λ (x : BucketRow). x.number == n) bs) ≡ false) k
        e))
    go later false k =
        of_another n (nat_lt 0 (f b)) (record { bucket = b.number; amount = f b }) (parts f bs) k
        (later (subst (λ t. (t || list_any (λ (x : BucketRow). x.number == n) bs) ≡ false) k e))

-- ---- what is held

is_there : (a p q : Bool) → a ≡ true → (not a || (p && q)) ≡ true → q ≡ true
is_there true p q e k = (and_parts p q k).1
is_there false p q e k = absurd (true≢false (sym e))

none_held : (buckets : List BucketRow) (g n : ℕ) (held : List HeldColumns)
    → list_any (λ b. b.number == n) buckets ≡ false → are_held_of buckets g held ≡ true
    → amount_of g held n ≡ 0
none_held buckets g n [] missing all = refl
none_held buckets g n (x ∷ xs) missing all =
    go (none_held buckets g n xs missing) (x.group == g && x.bucket == n) refl
  where
    split : ((not (x.group == g) || is_held_of buckets x) ≡ true)
        × (are_held_of buckets g xs ≡ true)
    split = and_parts (not (x.group == g) || is_held_of buckets x) (are_held_of buckets g xs) all

    go : (are_held_of buckets g xs ≡ true → amount_of g xs n ≡ 0) → (t : Bool)
        → (x.group == g && x.bucket == n) ≡ t
        → unwrap_or (option_map (λ (y : HeldColumns). y.amount)
        (cond t (Some x) (find (λ y. y.group == g && y.bucket == n) xs))) 0 ≡ 0
    go later true e =
        let key = and_parts (x.group == g) (x.bucket == n) e in
        let there : list_any (λ (b : BucketRow). b.number == x.bucket) buckets ≡ true =
        is_there (x.group == g) (nat_lt 0 x.amount)
        (list_any (λ (b : BucketRow). b.number == x.bucket) buckets) key.0 split.0 in
        absurd (true≢false (sym (subst (λ m. list_any (λ (b : BucketRow). b.number == m) buckets ≡
        true)
        (number_from x.bucket n key.1) there) ∙ missing))
    go later false e = later split.1

-- of each bucket what is held of it
pub held_along : (buckets : List BucketRow) (g n : ℕ) (held : List HeldColumns) →
    AreDistinct buckets
    → are_held_of buckets g held ≡ true
    → held_at n (holds_along buckets g held) ≡ amount_of g held n
held_along buckets g n held distinct all =
    held_as_sum n (holds_along buckets g held)
    ∙ go (list_any (λ (b : BucketRow). b.number == n) buckets) refl
  where
    go : (t : Bool) → list_any (λ (b : BucketRow). b.number == n) buckets ≡ t
        → sum_at n (holds_along buckets g held) ≡ amount_of g held n
    go true e =
        present (amount_of g held) n (holds_along buckets g held) buckets
        (sum_at-parts (λ b. amount_of g held b.number) buckets distinct) e
    go false e =
        absent (λ b. amount_of g held b.number) n buckets e ∙ sym (none_held buckets g n held e all)
