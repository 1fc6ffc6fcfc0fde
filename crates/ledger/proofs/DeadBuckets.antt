-- A dead bucket never changes again.
use Rattle.std.proofs.Common.{◌≡◌, ℕ, ◌≤◌, true, List, [], ◌∷◌, map, sym, ap, subst, ◌∙◌, arith}
use Rattle.std.specs.Prelude.{not, ◌&&◌, ◌==◌}
use Rattle.buckets.specs.declared.holds.HeldAmount.{HeldAmount}
use Rattle.buckets.specs.Row.{BucketRow, IsBalanced, with_end}
use Rattle.buckets.specs.Spend.{Each, AreDistinct}
use Rattle.buckets.specs.Holding.{held_in, settled_row}
use Rattle.buckets.proofs.Parts.{sum_at, sum_at-parts, held_in-sum_at}
use Rattle.buckets.specs.declared.kind.Due.{Due}
use Rattle.ledger.specs.Ledger.{Ledger, is_same, is_live, held, only}
use Rattle.ledger.specs.Balance.{credits, bucket_at, buckets_at, holds_at}
use Rattle.ledger.specs.Settlement.{settled}
use Rattle.ledger.specs.Laws.{ended_between, AreDeadKept, IsDead}
use Rattle.ledger.proofs.Holds.{held_split, split_by, one_split}
use Rattle.ledger.proofs.Positions.{bucket_at-later}
use Rattle.ledger.proofs.SettledBuckets.{buckets_at-settled}
use Rattle.ledger.proofs.DeadRows.{release_none, end_dead, settled_dead}

-- ---- as time goes on

ended_none : (v : ℕ → ℕ) (t u n : ℕ) (ledger : Ledger) →
    held (λ s g. is_live v t ledger s) n ledger ≡ 0 →
    held (ended_between v t u ledger) n ledger ≡ 0
ended_none v t u n ledger e =
    omega (
      arith,
      e,
      held_split (λ s g. is_live v t ledger s)
          (λ s g. is_live v t ledger s && is_live v u ledger s) (ended_between v t u ledger) n
          ledger
          (split_by (λ s g. is_live v t ledger s) (λ s g. is_live v u ledger s)),
    )

each_later : (v : ℕ → ℕ) (t u : ℕ) (ledger : Ledger) (cs : List BucketRow) → t ≤ u →
    Each IsBalanced (map (bucket_at v t ledger) cs) →
    AreDeadKept (map (bucket_at v t ledger) cs) (map (bucket_at v u ledger) cs)
each_later v t u ledger [] le h = tt
each_later v t u ledger (c ∷ cs) le h = (one, each_later v t u ledger cs le h.1)
  where
    one : IsDead (bucket_at v t ledger c) → bucket_at v u ledger c ≡ bucket_at v t ledger c
    one d =
        let b : BucketRow = bucket_at v t ledger c in
        let none : held (ended_between v t u ledger) c.number ledger ≡ 0 =
        ended_none v t u c.number ledger d.reserved in
        bucket_at-later v t u ledger c le h.0
        ∙ ap (with_end u)
        (release_none u b (held (ended_between v t u ledger) c.number ledger) none)
        ∙ end_dead u b d

-- rule: dead-rows
pub dead_later : (v : ℕ → ℕ) (t u : ℕ) (ledger : Ledger) → t ≤ u →
    Each IsBalanced (buckets_at v t ledger) →
    AreDeadKept (buckets_at v t ledger) (buckets_at v u ledger)
dead_later v t u ledger le h = each_later v t u ledger (credits ledger) le h

-- ---- by a settlement

kept_by : (f : BucketRow → BucketRow) (xs : List BucketRow) → Each (λ b. IsDead b → f b ≡ b) xs →
    AreDeadKept xs (map f xs)
kept_by f [] h = tt
kept_by f (x ∷ xs) h = (h.0, kept_by f xs h.1)

-- a live session's reservation holds nothing of a dead bucket
one_none : (v : ℕ → ℕ) (t : ℕ) (session : List ℕ) (group n : ℕ) (ledger : Ledger) →
    is_live v t ledger session ≡ true → held (λ s g. is_live v t ledger s) n ledger ≡ 0 →
    held (only session group) n ledger ≡ 0
one_none v t session group n ledger live e =
    omega (
      arith,
      e,
      held_split (λ s g. is_live v t ledger s)
          (λ s g. is_live v t ledger s && not (is_same s session && g == group))
          (only session group)
          n ledger (one_split (λ s. is_live v t ledger s) session group live),
    )

each_dead : (v : ℕ → ℕ) (t : ℕ) (session : List ℕ) (group : ℕ) (due : Due) (ledger : Ledger)
    (holds : List HeldAmount)
    (rows cs : List BucketRow) → is_live v t ledger session ≡ true →
    Each (λ b. sum_at b.number holds ≡ held (only session group) b.number ledger)
    (map (bucket_at v t ledger) cs) →
    Each (λ b. IsDead b → settled_row holds group t due rows b ≡ b)
    (map (bucket_at v t ledger) cs)
each_dead v t session group due ledger holds rows [] live h = tt
each_dead v t session group due ledger holds rows (c ∷ cs) live h =
    (one, each_dead v t session group due ledger holds rows cs live h.1)
  where
    one : IsDead (bucket_at v t ledger c) →
        settled_row holds group t due rows (bucket_at v t ledger c) ≡ bucket_at v t ledger c
    one d =
        let none : held_in holds (bucket_at v t ledger c) ≡ 0 =
        held_in-sum_at holds (bucket_at v t ledger c) ∙ h.0
        ∙ one_none v t session group c.number ledger live d.reserved in
        settled_dead holds group t due rows (bucket_at v t ledger c) d none

-- rule: dead-rows
pub dead_settled : (v : ℕ → ℕ) (t : ℕ) (session : List ℕ) (group units blocks : ℕ)
    (due : Due) (ledger : Ledger) →
    is_live v t ledger session ≡ true → Each IsBalanced (buckets_at v t ledger) →
    AreDistinct (buckets_at v t ledger) →
    AreDeadKept (buckets_at v t ledger)
    (buckets_at v t (settled v t session group units blocks due ledger))
dead_settled v t session group units blocks due ledger live balanced distinct =
    let rows : List BucketRow = buckets_at v t ledger in
    let holds : List HeldAmount = holds_at v t session group ledger in
    subst (AreDeadKept rows)
    (sym (buckets_at-settled v t session group units blocks due ledger live balanced
    distinct))
    (kept_by (settled_row holds group t due rows) rows
    (each_dead v t session group due ledger holds rows (credits ledger) live
    (sum_at-parts (λ b. held (only session group) b.number ledger) rows distinct)))
