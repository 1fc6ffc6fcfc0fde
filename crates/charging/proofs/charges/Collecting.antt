-- What is collected of an account, and covered of it, is what is charged to its buckets.
use Rattle.std.proofs.Common.{◌≡◌, ℕ, ◌+◌, ◌≤◌, List, [], ◌∷◌, ◌++◌, Bool, true, false}
use Rattle.std.proofs.Common.{map, refl, sym, ap, ◌∙◌, arith, Option, append-nil}
use Rattle.std.specs.Prelude.{if◌then◌else◌, sum_by}
use Rattle.std.proofs.lemmas.List.Sums.{sum_by_push}
use Rattle.std.proofs.lemmas.Bool.{leb-true}
use Rattle.units.specs.declared.blocks.UsedPart.{UsedPart}
use Rattle.shelves.specs.Shelves.{Shelf}
use Rattle.buckets.specs.declared.holds.HeldAmount.{HeldAmount}
use Rattle.buckets.specs.declared.kind.BucketKind.{BucketKind}
use Rattle.buckets.specs.declared.kind.BucketKind.TheVariants.{Money, Blocks}
use Rattle.buckets.specs.declared.kind.Due.{Due}
use Rattle.buckets.specs.Kinds.{is_alike}
use Rattle.buckets.specs.Row.{BucketRow, new_row}
use Rattle.buckets.specs.Share.{sum_in, parts}
use Rattle.buckets.specs.Spend.{inserted, funds, allowance}
use Rattle.buckets.specs.Holding.{paid, holds_of, held_sum, uncollected}
use Rattle.buckets.proofs.Dues.{sum_in-cons}
use Rattle.buckets.proofs.Paid.{sum_in-both}
use Rattle.buckets.proofs.Parts.{sum_at, sum_at-parts}
use Rattle.ledger.specs.Ledger.{Fact, Ledger, charged, next_bucket, next_charge, counts}
use Rattle.ledger.specs.Ledger.Fact.{Recorded}
use Rattle.ledger.specs.SoundLedger.{IsSoundLedger}
use Rattle.ledger.specs.Balance.{credits, bucket_at, buckets_at, holds_at}
use Rattle.ledger.specs.Charges.{charge_rows, charge_by}
use Rattle.ledger.specs.Requests.{recorded, touched, credited}
use Rattle.ledger.specs.Settlement.{charge_facts, reported, report_price, settled, settled_by}
use Rattle.ledger.specs.Settlement.{due_of}
use Rattle.ledger.specs.Reservation.{reserved}
use Rattle.ledger.specs.Debiting.{rest_price, is_covered, debited}
use Rattle.reserving.proofs.ChargeRows.{charge_rows-touched, charge_rows-credited}
use Rattle.reserving.proofs.ChargeRows.{charge_rows-reserved, charge_rows-settled}
use Rattle.reserving.proofs.ChargeRows.{charge_row, charge_rows-charged_use}
use Rattle.ledger.proofs.Fronts.{charged-charge_facts, charged-hold_facts}
use Rattle.ledger.specs.Pricing.{validity_of}
use Rattle.charging.specs.Collected.{taken_of, taken_to_date, charged_to_date}
use Rattle.charging.specs.Paid.{Report}
use Rattle.charging.proofs.charges.BucketSums.{sum_in-each, sum_in-alike, sum_in-inserted}
use Rattle.charging.proofs.charges.BucketSums.{sum_in-moved}
use Rattle.charging.proofs.steps.Credited.{AreCredited, distinct, in_order, charge_credits}
use Rattle.charging.proofs.steps.Credited.{hold_credits}
use Rattle.charging.proofs.steps.Sound.{IsSoundHistory, sound_none, keeps_sound}
use Rattle.charging.proofs.charges.Coverable.{money_paid, blocks_paid, report_covers, event_covers}
use Rattle.charging.proofs.steps.Steps.{is_quiet, with_grant, granted, Keeps}
use Rattle.reserving.proofs.Counted.{IsQuiet, quiet, quiet_money}
use Rattle.reserving.proofs.rows.Touching.{SameMoney}

-- ---- sums

-- what is charged to the buckets of a kind that were made
abbrev charged_in : BucketKind → Ledger → ℕ
charged_in k ledger = sum_in k (λ c. charged c.number ledger) (credits ledger)

-- it is what they show as charged, at any moment
shown : (k : BucketKind) (v : ℕ → ℕ) (t : ℕ) (ledger : Ledger) (cs : List BucketRow) →
    sum_in k (λ x. x.charged) (map (bucket_at v t ledger) cs)
    ≡ sum_in k (λ c. charged c.number ledger) cs
shown k v t ledger [] = refl
shown k v t ledger (c ∷ cs) =
    sum_in-cons k (λ x. x.charged) (bucket_at v t ledger c) (map (bucket_at v t ledger) cs)
    ∙ ap (λ n. (if is_alike c.kind k then charged c.number ledger else 0) + n)
    (shown k v t ledger cs)
    ∙ sym (sum_in-cons k (λ c. charged c.number ledger) c cs)

-- ---- what each ledger of an account keeps

-- what was collected, and the blocks that were covered, were charged
abbrev IsCharged : Ledger → Type 0
IsCharged ledger = (k : BucketKind) → taken_to_date k ledger ≡ charged_in k ledger

pub record IsCollecting (b : Shelf) (reports : List Report) (ledger : Ledger) : Type 0 where
  pub kept : IsSoundHistory b reports ledger
  pub sums : IsCharged ledger

-- facts that collect nothing and make no bucket
record SameSums (new old : Ledger) : Type 0 where
  pub rows : charge_rows new ≡ charge_rows old
  pub credits_are : credits new ≡ credits old
  pub charged_is : (n : ℕ) → charged n new ≡ charged n old

same_charged : (k : BucketKind) (new old : Ledger) → SameSums new old →
    charged_in k new ≡ charged_in k old
same_charged k new old same =
    sum_in-alike k (λ c. charged c.number new) (λ c. charged c.number old) (credits new)
    (λ c. same.charged_is c.number)
    ∙ ap (sum_in k (λ c. charged c.number old)) same.credits_are

sums_same : (new old : Ledger) → SameSums new old → IsCharged old → IsCharged new
sums_same new old same sums k =
    ap (sum_by (taken_of k)) same.rows ∙ sums k ∙ sym (same_charged k new old same)

same_quiet : (t : ℕ) (f : Fact) (ledger : Ledger) → is_quiet f ≡ true →
    SameSums (record { at = t; fact = f } ∷ ledger) ledger
same_quiet t f ledger q =
    let none : IsQuiet (counts f) = quiet f q in
    let money : SameMoney (record { at = t; fact = f } ∷ ledger) ledger =
    quiet_money t f ledger none in
    record {
      rows = (λ i. charge_rows ledger ++ charge_by (next_charge ledger) t (none.usage i))
          ∙ append-nil (charge_rows ledger);
      credits_are = money.credits;
      charged_is = money.charged;
    }

same_touched : (t : ℕ) (s : List ℕ) (n : ℕ) (ledger : Ledger) →
    SameSums (touched t s n ledger) ledger
same_touched t s n ledger = record {
  rows = charge_rows-touched t s n ledger;
  credits_are = refl;
  charged_is = λ k. omega arith;
}

same_reserved : (b : Shelf) (t : ℕ) (s : List ℕ) (g units : ℕ) (due : Due) (ledger : Ledger) →
    SameSums (reserved b t s g units due ledger) ledger
same_reserved b t s g units due ledger =
    let hs : List HeldAmount = holds_of g t due (buckets_at (validity_of b) t ledger) in
    let before : Ledger = with_grant b t s g units ledger in
    let same = hold_credits t s g hs before in
    record {
      rows = charge_rows-reserved b t s g units due ledger;
      credits_are = same.rows;
      charged_is = λ n. let e = charged-hold_facts n t s g hs before in omega (arith, e);
    }

-- ---- a bucket more

fresh_part : (p : Bool) (n m : ℕ) → n ≡ 0 → (if p then n else 0) + m ≡ m
fresh_part true n m e = omega (arith, e)
fresh_part false n m e = omega arith

sums_credit : (t : ℕ) (kind : BucketKind) (from until : ℕ) (scope : Option ℕ) (amount : ℕ)
    (ledger : Ledger) → IsSoundLedger ledger → IsCharged ledger →
    IsCharged (credited t kind from until scope amount ledger)
sums_credit t kind from until scope amount ledger sound sums k =
    let new : Ledger = credited t kind from until scope amount ledger in
    let made : BucketRow = new_row kind (next_bucket ledger) from until scope amount in
    let same : (n : ℕ) → charged n new ≡ charged n ledger = λ n. omega arith in
    ap (sum_by (taken_of k)) (charge_rows-credited t kind from until scope amount ledger)
    ∙ sums k
    ∙ sym (sum_in-alike k (λ c. charged c.number new) (λ c. charged c.number ledger)
    (inserted made (credits ledger)) (λ c. same c.number)
    ∙ sum_in-inserted k (λ c. charged c.number ledger) made (credits ledger)
    ∙ fresh_part (is_alike kind k) (charged (next_bucket ledger) ledger) (charged_in k ledger)
    (sound.fresh (next_bucket ledger) (omega arith)))

-- ---- charges

-- what parts of buckets charge
charged_more : (k : BucketKind) (f : BucketRow → ℕ) (v : ℕ → ℕ) (t : ℕ) (ledger : Ledger) →
    AreCredited (credits ledger) (next_bucket ledger) →
    sum_in k (λ c. charged c.number (charge_facts t (parts f (buckets_at v t ledger)) ++ ledger))
    (credits ledger)
    ≡ sum_in k f (buckets_at v t ledger) + charged_in k ledger
charged_more k f v t ledger h =
    let rows : List BucketRow = buckets_at v t ledger in
    let hs : List HeldAmount = parts f rows in
    sum_in-alike k (λ c. charged c.number (charge_facts t hs ++ ledger))
    (λ c. sum_at c.number hs + charged c.number ledger) (credits ledger)
    (λ c. charged-charge_facts c.number t hs ledger)
    ∙ sum_in-both k (λ c. sum_at c.number hs) (λ c. charged c.number ledger) (credits ledger)
    ∙ ap (λ n. n + charged_in k ledger)
    (sym (sum_in-moved k (λ n. sum_at n hs) v t ledger (credits ledger))
    ∙ sum_in-each k (λ x. sum_at x.number hs) f rows (sum_at-parts f rows (distinct v t ledger h)))

-- what a new charge row says of each unit is what its parts are of it
taken_settled : (k : BucketKind) (v : ℕ → ℕ) (t : ℕ) (s : List ℕ) (g blocks n : ℕ) (due : Due)
    (ledger : Ledger) → AreCredited (credits ledger) (next_bucket ledger) →
    due.blocks ≤ held_sum Blocks (holds_at v t s g ledger) (buckets_at v t ledger)
    + allowance g t (buckets_at v t ledger) →
    taken_of k (charge_row n t s g blocks due
    (uncollected (holds_at v t s g ledger) g t due.money (buckets_at v t ledger)))
    ≡ sum_in k (paid (holds_at v t s g ledger) g t due (buckets_at v t ledger))
    (buckets_at v t ledger)
taken_settled Money v t s g blocks n due ledger made within =
    let all = money_paid (holds_at v t s g ledger) g t due (buckets_at v t ledger)
    (in_order v t ledger made) in
    omega (arith, all)
taken_settled Blocks v t s g blocks n due ledger made within =
    sym (blocks_paid (holds_at v t s g ledger) g t due (buckets_at v t ledger)
    (in_order v t ledger made) within)

sums_settled : (v : ℕ → ℕ) (t : ℕ) (s : List ℕ) (g units blocks : ℕ) (due : Due)
    (ledger : Ledger) → AreCredited (credits ledger) (next_bucket ledger) →
    due.blocks ≤ held_sum Blocks (holds_at v t s g ledger) (buckets_at v t ledger)
    + allowance g t (buckets_at v t ledger) → IsCharged ledger →
    IsCharged (settled v t s g units blocks due ledger)
sums_settled v t s g units blocks due ledger made within sums k =
    let rows : List BucketRow = buckets_at v t ledger in
    let holds : List HeldAmount = holds_at v t s g ledger in
    let hs : List HeldAmount = parts (paid holds g t due rows) rows in
    let same = charge_credits t hs ledger in
    ap (sum_by (taken_of k)) (charge_rows-settled v t s g units blocks due ledger)
    ∙ sum_by_push (taken_of k) (charge_rows ledger) _
    ∙ (let one = taken_settled k v t s g blocks (next_charge ledger) due ledger made within in
    omega (arith, one, sums k))
    ∙ sym (sum_in-alike k
    (λ c. charged c.number (settled v t s g units blocks due ledger))
    (λ c. charged c.number (charge_facts t hs ++ ledger))
    (credits (charge_facts t hs ++ ledger)) (λ c. omega arith)
    ∙ ap (sum_in k (λ c. charged c.number (charge_facts t hs ++ ledger))) same.rows
    ∙ charged_more k (paid holds g t due rows) v t ledger made)

taken_debited : (k : BucketKind) (v : ℕ → ℕ) (t : ℕ) (s : List ℕ) (g blocks n : ℕ) (due : Due)
    (ledger : Ledger) → AreCredited (credits ledger) (next_bucket ledger) →
    due.money ≤ funds g t (buckets_at v t ledger) →
    due.blocks ≤ allowance g t (buckets_at v t ledger) →
    taken_of k (charge_row n t s g blocks due 0)
    ≡ sum_in k (paid [] g t due (buckets_at v t ledger)) (buckets_at v t ledger)
taken_debited Money v t s g blocks n due ledger made funded allowed =
    let all = money_paid [] g t due (buckets_at v t ledger) (in_order v t ledger made) in
    omega (arith, all, funded)
taken_debited Blocks v t s g blocks n due ledger made funded allowed =
    sym (blocks_paid [] g t due (buckets_at v t ledger) (in_order v t ledger made)
    (omega (arith, allowed)))

sums_debited : (b : Shelf) (t : ℕ) (s : List ℕ) (g units : ℕ) (ledger : Ledger) →
    is_covered b t g units ledger ≡ true → AreCredited (credits ledger) (next_bucket ledger) →
    IsCharged ledger → IsCharged (debited b t s g units ledger)
sums_debited b t s g units ledger covered made sums k =
    let v : ℕ → ℕ = (validity_of b) in
    let rows : List BucketRow = buckets_at v t ledger in
    let due : Due = due_of (rest_price b t g units ledger) in
    let blocks : ℕ = (rest_price b t g units ledger).blocks in
    let hs : List HeldAmount = parts (paid [] g t due rows) rows in
    let same = charge_credits t hs ledger in
    let within : due.money ≤ funds g t rows = leb-true due.money (funds g t rows) covered in
    ap (sum_by (taken_of k)) (charge_rows-charged_use v t s g units blocks due ledger)
    ∙ sum_by_push (taken_of k) (charge_rows ledger) _
    ∙ (let one = taken_debited k v t s g blocks (next_charge ledger) due ledger made within
    (event_covers b t g units ledger) in
    omega (arith, one, sums k))
    ∙ sym (sum_in-alike k
    (λ c. charged c.number (debited b t s g units ledger))
    (λ c. charged c.number (charge_facts t hs ++ ledger))
    (credits (charge_facts t hs ++ ledger)) (λ c. omega arith)
    ∙ ap (sum_in k (λ c. charged c.number (charge_facts t hs ++ ledger))) same.rows
    ∙ charged_more k (paid [] g t due rows) v t ledger made)

sums_settle : (b : Shelf) (t : ℕ) (s : List ℕ) (g : ℕ) (used_parts : List UsedPart)
    (ledger : Ledger) → AreCredited (credits ledger) (next_bucket ledger) → IsCharged ledger →
    IsCharged (settled_by b t s g used_parts ledger)
sums_settle b t s g [] ledger made sums =
    sums_same (settled_by b t s g [] ledger) ledger
    (record {
      rows = append-nil (charge_rows ledger);
      credits_are = refl;
      charged_is = λ n. omega arith;
    }) sums
sums_settle b t s g (p ∷ ps) ledger made sums =
    sums_settled (validity_of b) t s g (reported (p ∷ ps))
    (report_price b t s g (p ∷ ps) ledger).blocks
    (due_of (report_price b t s g (p ∷ ps) ledger)) ledger made
    (report_covers b t s g (p ∷ ps) ledger) sums

pub collecting_none : (b : Shelf) → IsCollecting b [] []
collecting_none b = record { kept = sound_none b; sums = λ k. refl }

pub keeps_collecting : (b : Shelf) → Keeps b (IsCollecting b)
keeps_collecting b = record {
  quiet = λ t f reports ledger q n fits h. record {
    kept = kept.quiet t f reports ledger q n fits h.kept;
    sums = sums_same (record { at = t; fact = f } ∷ ledger) ledger (same_quiet t f ledger q) h.sums;
  };
  touch = λ t s n reports ledger h. record {
    kept = kept.touch t s n reports ledger h.kept;
    sums = sums_same (touched t s n ledger) ledger (same_touched t s n ledger) h.sums;
  };
  credit = λ t kind from until scope amount reports ledger h. record {
    kept = kept.credit t kind from until scope amount reports ledger h.kept;
    sums = sums_credit t kind from until scope amount ledger h.kept.sound h.sums;
  };
  settle = λ t s g used_parts reports ledger touches h. record {
    kept = kept.settle t s g used_parts reports ledger touches h.kept;
    sums = sums_settle b t s g used_parts ledger h.kept.paying.credits h.sums;
  };
  grant = λ t s g asked reports ledger known some h. record {
    kept = kept.grant t s g asked reports ledger known some h.kept;
    sums = sums_same (granted b t s g asked ledger) ledger (same_reserved b t s g _ _ ledger)
        h.sums;
  };
  event = λ t s g units n reports ledger new covered h. record {
    kept = kept.event t s g units n reports ledger new covered h.kept;
    sums = sums_same (recorded t s n (debited b t s g units ledger))
        (debited b t s g units ledger)
        (same_quiet t (Recorded s n) (debited b t s g units ledger) refl)
        (sums_debited b t s g units ledger covered h.kept.paying.credits h.sums);
  };
}
  where
    kept : Keeps b (IsSoundHistory b)
    kept = keeps_sound b

-- at any moment
-- rule: collected
pub collected_is_charged : (b : Shelf) (reports : List Report) (ledger : Ledger) →
    IsCollecting b reports ledger → (k : BucketKind) (t : ℕ) →
    taken_to_date k ledger ≡ charged_to_date k (validity_of b) t ledger
collected_is_charged b reports ledger h k t = h.sums k
    ∙ sym (shown k (validity_of b) t ledger (credits ledger))
