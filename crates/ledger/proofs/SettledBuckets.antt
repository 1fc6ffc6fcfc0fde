-- What the end of a reservation, and a settlement, make of each bucket of a ledger.
use Rattle.std.proofs.Common.{◌≡◌, ℕ, ◌+◌, ◌-◌, ◌≤◌, Bool, true, false, List, [], ◌∷◌, ◌++◌, map}
use Rattle.std.proofs.Common.{refl, sym, ap, ◌∙◌, arith}
use Rattle.std.specs.Prelude.{if◌then◌else◌, ◌==◌, ◌&&◌, not, nat_lt, min}
use Rattle.buckets.specs.declared.holds.HeldAmount.{HeldAmount}
use Rattle.buckets.specs.Row.{BucketRow, IsBalanced, with_charge, with_charge_of_hold, with_release}
use Rattle.buckets.specs.Share.{parts}
use Rattle.buckets.specs.Spend.{Each, AreDistinct}
use Rattle.buckets.specs.Holding.{held_in, paid_of_hold, paid_of_rest, paid, settled_row}
use Rattle.buckets.specs.Holding.{settled_rows, released_rows}
use Rattle.buckets.proofs.Parts.{sum_at, sum_at-parts, held_in-sum_at}
use Rattle.buckets.specs.declared.kind.Due.{Due}
use Rattle.ledger.specs.Ledger.{Ledger, charged, held, only, is_live, is_same}
use Rattle.ledger.specs.Ledger.Fact.{End}
use Rattle.ledger.specs.Balance.{credits, balance_of, bucket_at, buckets_at, holds_at}
use Rattle.ledger.specs.Settlement.{charge_facts, settled}
use Rattle.ledger.proofs.Columns.{balance_by, release_by, with_columns, balanced_le}
use Rattle.ledger.proofs.Holds.{held_split, one_split}
use Rattle.ledger.proofs.Fronts.{SameSessions, same_live, newest-front, any-front, each_charge}
use Rattle.ledger.proofs.Fronts.{held-charge_facts, credits-charge_facts, charged-charge_facts}

-- ---- one bucket's columns

-- what is paid, s1 of h and s2 of the rest, and what is given up
pub balance_by-settled : (b : Bool) (c : BucketRow) (ch h r s1 s2 : ℕ) → ch + (r + h) ≤ c.credited →
    s1 ≤ h → s2 ≤ (if b then c.credited - ch - (r + h) else 0) →
    balance_by b c (s1 + s2 + ch) r
    ≡ release_by b (with_charge (with_charge_of_hold (balance_by b c ch (r + h)) s1) s2) (h - s1)
balance_by-settled true c ch h r s1 s2 w p q =
    with_columns c _ _ _ _ _ _ _ _ (omega arith) (omega arith) (omega arith) refl
balance_by-settled false c ch h r s1 s2 w p q =
    with_columns c _ _ _ _ _ _ _ _ (omega arith) (omega arith) (omega arith) (omega arith)

balance_by-ended : (b : Bool) (c : BucketRow) (ch h r : ℕ) → ch + (r + h) ≤ c.credited →
    balance_by b c ch r ≡ release_by b (balance_by b c ch (r + h)) h
balance_by-ended true c ch h r w =
    with_columns c _ _ _ _ _ _ _ _ (omega arith) (omega arith) refl refl
balance_by-ended false c ch h r w =
    with_columns c _ _ _ _ _ _ _ _ refl (omega arith) refl (omega arith)

pub eligible_le : (e : Bool) (a x m : ℕ) → a ≡ x → min (if e then a else 0) m ≤ x
eligible_le true a x m h = omega arith
eligible_le false a x m h = omega arith

-- ---- the ledger with the settlement

-- neither the end of a reservation, a use nor a charge tells of sessions
pub same_sessions-settled : (v : ℕ → ℕ) (t : ℕ) (session : List ℕ)
    (group units blocks : ℕ) (due : Due)
    (ledger : Ledger) → SameSessions ledger (settled v t session group units blocks due ledger)
same_sessions-settled v t session group units blocks due ledger =
    let hs : List HeldAmount =
    parts (paid (holds_at v t session group ledger) group t due (buckets_at v t ledger))
    (buckets_at v t ledger) in
    record {
      touch = λ s. newest-front _ (charge_facts t hs) ledger (each_charge _ t hs (λ b n. refl));
      closed = λ s. any-front _ (charge_facts t hs) ledger (each_charge _ t hs (λ b n. refl));
      recording = λ s. newest-front _ (charge_facts t hs) ledger (each_charge _ t hs (λ b n. refl));
    }

abbrev pub with_end : ℕ → List ℕ → ℕ → Ledger → Ledger
with_end t session group ledger = record { at = t; fact = End session group } ∷ ledger

pub same_sessions-ended : (t : ℕ) (session : List ℕ) (group : ℕ) (ledger : Ledger) →
    SameSessions ledger (with_end t session group ledger)
same_sessions-ended t session group ledger =
    record { touch = λ s. refl; closed = λ s. refl; recording = λ s. refl }

-- all reservations of live sessions, but for one
abbrev others : (ℕ → ℕ) → ℕ → List ℕ → ℕ → Ledger → List ℕ → ℕ → Bool
others v t session group ledger s g = is_live v t ledger s && not (is_same s session && g == group)

split_is : (v : ℕ → ℕ) (t : ℕ) (session : List ℕ) (group n : ℕ) (ledger : Ledger) →
    is_live v t ledger session ≡ true →
    held (λ s g. is_live v t ledger s) n ledger ≡ held (others v t session group ledger) n ledger
    + held (only session group) n ledger
split_is v t session group n ledger live =
    held_split (λ s g. is_live v t ledger s) (others v t session group ledger) (only session group)
    n ledger (one_split (λ s. is_live v t ledger s) session group live)

-- what all live sessions hold of a bucket: the others' and the one reservation's
split_at : (v : ℕ → ℕ) (t : ℕ) (session : List ℕ) (group : ℕ) (ledger : Ledger) (c : BucketRow) →
    (let holds : List HeldAmount = holds_at v t session group ledger in
    is_live v t ledger session ≡ true →
    sum_at c.number holds ≡ held (only session group) c.number ledger →
    held (λ s g. is_live v t ledger s) c.number ledger
    ≡ held (others v t session group ledger) c.number ledger
    + held_in holds (bucket_at v t ledger c))
split_at v t session group ledger c live holding =
    omega (
      arith,
      split_is v t session group c.number ledger live,
      held_in-sum_at (holds_at v t session group ledger) (bucket_at v t ledger c),
      holding,
    )

bucket_at-settled : (v : ℕ → ℕ) (t : ℕ) (session : List ℕ) (group units blocks : ℕ)
    (due : Due) (ledger : Ledger)
    (c : BucketRow) →
    (let holds : List HeldAmount = holds_at v t session group ledger in
    let rows : List BucketRow = buckets_at v t ledger in
    is_live v t ledger session ≡ true →
    IsBalanced (bucket_at v t ledger c) →
    sum_at c.number holds ≡ held (only session group) c.number ledger →
    sum_at c.number (parts (paid holds group t due rows) rows)
    ≡ paid holds group t due rows (bucket_at v t ledger c) →
    bucket_at v t (settled v t session group units blocks due ledger) c
    ≡ settled_row holds group t due rows (bucket_at v t ledger c))
bucket_at-settled v t session group units blocks due ledger c live balanced holding sum =
    let holds : List HeldAmount = holds_at v t session group ledger in
    let rows : List BucketRow = buckets_at v t ledger in
    let after : Ledger = settled v t session group units blocks due ledger in
    let n : ℕ = c.number in
    let hs : List HeldAmount = parts (paid holds group t due rows) rows in
    let ch : ℕ = charged n ledger in
    let all : List ℕ → ℕ → Bool = λ s g. is_live v t ledger s in
    let others' : List ℕ → ℕ → Bool =
    λ s g. is_live v t after s && not (is_same s session && g == group) in
    let h : ℕ = held_in holds (bucket_at v t ledger c) in
    let r : ℕ = held (others v t session group ledger) n ledger in
    let s1 : ℕ = paid_of_hold holds due rows (bucket_at v t ledger c) in
    let s2 : ℕ = paid_of_rest holds group t due rows (bucket_at v t ledger c) in
    let split : held all n ledger ≡ r + h = split_at v t session group ledger c live holding in
    let same : others' ≡ others v t session group ledger =
    λ i s g. same_live v t ledger after
    (same_sessions-settled v t session group units blocks due ledger) s i
    && not (is_same s session && g == group) in
    let held' : 0 + (0 + held others' n (charge_facts t hs ++ ledger)) ≡ r =
    omega (arith, held-charge_facts others' n t hs ledger ∙ ap (λ p. held p n ledger) same) in
    let charged' : 0 + (0 + charged n (charge_facts t hs ++ ledger)) ≡ s1 + s2 + ch =
    omega (arith, charged-charge_facts n t hs ledger, sum) in
    let within : ch + (r + h) ≤ c.credited =
    omega (arith, balanced_le (nat_lt t c.until) c ch (held all n ledger) balanced.sum) in
    let of_hold : s1 ≤ h = omega arith in
    let of_rest : s2 ≤ (if nat_lt t c.until then c.credited - ch - (r + h) else 0) =
    eligible_le _ _ _ _ (ap (λ x. if nat_lt t c.until then c.credited - ch - x else 0) split) in
    ap (λ x. balance_of t c (0 + (0 + charged n (charge_facts t hs ++ ledger))) x) held'
    ∙ ap (λ x. balance_of t c x r) charged'
    ∙ balance_by-settled (nat_lt t c.until) c ch h r s1 s2 within of_hold of_rest
    ∙ ap (λ x. with_release t (with_charge (with_charge_of_hold (balance_of t c ch x) s1) s2)
    (h - s1)) (sym split)

each_settled : (v : ℕ → ℕ) (t : ℕ) (session : List ℕ) (group units blocks : ℕ)
    (due : Due) (ledger : Ledger)
    (cs : List BucketRow) →
    (let holds : List HeldAmount = holds_at v t session group ledger in
    let rows : List BucketRow = buckets_at v t ledger in
    is_live v t ledger session ≡ true →
    Each IsBalanced (map (bucket_at v t ledger) cs) →
    Each (λ b. sum_at b.number holds ≡ held (only session group) b.number ledger)
    (map (bucket_at v t ledger) cs) →
    Each (λ b. sum_at b.number (parts (paid holds group t due rows) rows)
    ≡ paid holds group t due rows b) (map (bucket_at v t ledger) cs) →
    map (bucket_at v t (settled v t session group units blocks due ledger)) cs
    ≡ map (settled_row holds group t due rows) (map (bucket_at v t ledger) cs))
each_settled v t session group units blocks due ledger [] live balanced holding sums = refl
each_settled v t session group units blocks due ledger (c ∷ cs) live balanced holding sums =
    let one : bucket_at v t (settled v t session group units blocks due ledger) c
    ≡ settled_row (holds_at v t session group ledger) group t due (buckets_at v t ledger)
    (bucket_at v t ledger c)
    = bucket_at-settled v t session group units blocks due ledger c live balanced.0 holding.0
    sums.0 in
    let rest : map (bucket_at v t (settled v t session group units blocks due ledger)) cs
    ≡ map (settled_row (holds_at v t session group ledger) group t due
    (buckets_at v t ledger)) (map (bucket_at v t ledger) cs)
    = each_settled v t session group units blocks due ledger cs live balanced.1 holding.1 sums.1
    in
    λ i. one i ∷ rest i

-- the buckets of a ledger with a settlement
pub buckets_at-settled : (v : ℕ → ℕ) (t : ℕ) (session : List ℕ) (group units blocks : ℕ) (due : Due)
    (ledger : Ledger) →
    is_live v t ledger session ≡ true →
    Each IsBalanced (buckets_at v t ledger) →
    AreDistinct (buckets_at v t ledger) →
    buckets_at v t (settled v t session group units blocks due ledger)
    ≡ settled_rows (holds_at v t session group ledger) group t due (buckets_at v t ledger)
buckets_at-settled v t session group units blocks due ledger live balanced distinct =
    let holds : List HeldAmount = holds_at v t session group ledger in
    let rows : List BucketRow = buckets_at v t ledger in
    let hs : List HeldAmount = parts (paid holds group t due rows) rows in
    ap (map (bucket_at v t (settled v t session group units blocks due ledger)))
    (credits-charge_facts t hs ledger)
    ∙ each_settled v t session group units blocks due ledger (credits ledger) live balanced
    (sum_at-parts (λ b. held (only session group) b.number ledger) rows distinct)
    (sum_at-parts (paid holds group t due rows) rows distinct)

-- ---- the ledger with the reservation's end alone

bucket_at-ended : (v : ℕ → ℕ) (t : ℕ) (session : List ℕ) (group : ℕ) (ledger : Ledger)
    (c : BucketRow) →
    (let holds : List HeldAmount = holds_at v t session group ledger in
    is_live v t ledger session ≡ true →
    IsBalanced (bucket_at v t ledger c) →
    sum_at c.number holds ≡ held (only session group) c.number ledger →
    bucket_at v t (with_end t session group ledger) c
    ≡ with_release t (bucket_at v t ledger c) (held_in holds (bucket_at v t ledger c)))
bucket_at-ended v t session group ledger c live balanced holding =
    let holds : List HeldAmount = holds_at v t session group ledger in
    let n : ℕ = c.number in
    let ch : ℕ = charged n ledger in
    let all : List ℕ → ℕ → Bool = λ s g. is_live v t ledger s in
    let h : ℕ = held_in holds (bucket_at v t ledger c) in
    let r : ℕ = held (others v t session group ledger) n ledger in
    let split : held all n ledger ≡ r + h = split_at v t session group ledger c live holding in
    let held' : 0 + held (others v t session group ledger) n ledger ≡ r = omega arith in
    let charged' : 0 + charged n ledger ≡ ch = omega arith in
    let within : ch + (r + h) ≤ c.credited =
    omega (arith, balanced_le (nat_lt t c.until) c ch (held all n ledger) balanced.sum) in
    (λ i. balance_of t c (charged' i) (held' i))
    ∙ balance_by-ended (nat_lt t c.until) c ch h r within
    ∙ ap (λ x. with_release t (balance_of t c ch x) h) (sym split)

each_ended : (v : ℕ → ℕ) (t : ℕ) (session : List ℕ) (group : ℕ) (ledger : Ledger)
    (cs : List BucketRow) →
    is_live v t ledger session ≡ true →
    Each IsBalanced (map (bucket_at v t ledger) cs) →
    Each (λ b. sum_at b.number (holds_at v t session group ledger)
    ≡ held (only session group) b.number ledger) (map (bucket_at v t ledger) cs) →
    map (bucket_at v t (with_end t session group ledger)) cs
    ≡ released_rows (holds_at v t session group ledger) t (map (bucket_at v t ledger) cs)
each_ended v t session group ledger [] live balanced holding = refl
each_ended v t session group ledger (c ∷ cs) live balanced holding =
    λ i. bucket_at-ended v t session group ledger c live balanced.0 holding.0 i
    ∷ each_ended v t session group ledger cs live balanced.1 holding.1 i

-- the buckets of a ledger with a reservation's end
pub buckets_at-ended : (v : ℕ → ℕ) (t : ℕ) (session : List ℕ) (group : ℕ) (ledger : Ledger) →
    is_live v t ledger session ≡ true →
    Each IsBalanced (buckets_at v t ledger) →
    AreDistinct (buckets_at v t ledger) →
    buckets_at v t (with_end t session group ledger)
    ≡ released_rows (holds_at v t session group ledger) t (buckets_at v t ledger)
buckets_at-ended v t session group ledger live balanced distinct =
    each_ended v t session group ledger (credits ledger) live balanced
    (sum_at-parts (λ b. held (only session group) b.number ledger) (buckets_at v t ledger)
    distinct)
