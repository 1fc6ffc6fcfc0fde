-- What facts in front of a ledger leave of a session's grant of a group, and of what is held for
-- it.
use Rattle.std.proofs.Common.{◌≡◌, ℕ, ◌+◌, ◌≤◌, Bool, true, false, List, [], ◌∷◌, ◌++◌}
use Rattle.std.proofs.Common.{refl, ap, ◌∙◌, arith, Option, Some, None}
use Rattle.std.specs.Prelude.{if◌then◌else◌, ◌&&◌, not}
use Rattle.buckets.specs.declared.holds.HeldAmount.{HeldAmount}
use Rattle.buckets.specs.declared.kind.BucketKind.{BucketKind}
use Rattle.buckets.specs.Kinds.{is_alike}
use Rattle.buckets.specs.Row.{BucketRow, new_row}
use Rattle.buckets.specs.Share.{sum_in}
use Rattle.ledger.specs.Ledger.{Fact, Ledger, or_else, last_recording, used, held, only}
use Rattle.ledger.specs.Parts.{grant_in}
use Rattle.ledger.specs.Ledger.{open_grant, Counts, CreditOf, EndOf, inner, newest}
use Rattle.ledger.specs.Parts.{but_ended}
use Rattle.ledger.specs.Ledger.{test_of, counts}
use Rattle.ledger.specs.Parts.{recorded_at}
use Rattle.ledger.specs.Ledger.Fact.{Hold, Charge}
use Rattle.ledger.specs.Balance.{credits, with_credit}
use Rattle.ledger.specs.Settlement.{charge_facts}
use Rattle.ledger.specs.Reservation.{hold_facts, hold_for}
use Rattle.reserving.proofs.Keys.{is_key, is_key-sym, key_session, key_group}
use Rattle.ledger.proofs.Holds.{held_same}
use Rattle.charging.specs.Paid.{grant_open}
use Rattle.charging.specs.PaidParts.{quota_by, grant_told}
use Rattle.charging.proofs.charges.BucketSums.{sum_in-most, sum_in-inserted}
use Rattle.reserving.proofs.Counted.{is_end, is_named, rest_none, unnamed_use, untold}

-- what is held for a session's group of all buckets of a kind together
abbrev pub held_together : BucketKind → List ℕ → ℕ → Ledger → ℕ
held_together k s g ledger = sum_in k (λ c. held (only s g) c.number ledger) (credits ledger)

-- a grant is said alike, and no less is held for it
pub record LeavesGrant (s : List ℕ) (g : ℕ) (new old : Ledger) : Type 0 where
  pub grant : grant_open s g new ≡ grant_open s g old
  pub terms : open_grant s g new ≡ open_grant s g old
  pub used : used s g new ≡ used s g old
  pub recorded : last_recording s new ≡ None → last_recording s old ≡ None
  pub held : (k : BucketKind) → held_together k s g old ≤ held_together k s g new

pub leaves_both : (s : List ℕ) (g : ℕ) (new mid old : Ledger) → LeavesGrant s g new mid →
    LeavesGrant s g mid old → LeavesGrant s g new old
leaves_both s g new mid old x y = record {
  grant = x.grant ∙ y.grant;
  terms = x.terms ∙ y.terms;
  used = x.used ∙ y.used;
  recorded = λ e. y.recorded (x.recorded e);
  held = λ k. omega (arith, x.held k, y.held k);
}

pub leaves_same : (s : List ℕ) (g : ℕ) (ledger : Ledger) → LeavesGrant s g ledger ledger
leaves_same s g ledger = record {
  grant = refl;
  terms = refl;
  used = refl;
  recorded = λ e. e;
  held = λ k. omega arith;
}

-- ---- one fact

-- a fact neither begins nor ends a grant of the session's group, nor is it a use of it
pub record IsUntold (s : List ℕ) (g : ℕ) (c : Counts) : Type 0 where
  pub named : is_named s g c.usage c.grant ≡ false
  pub ended : test_of (is_end s g) c.end ≡ false

abbrev in_front : ℕ → Fact → Ledger → Ledger
in_front t f ledger = record { at = t; fact = f } ∷ ledger

-- the end of another reservation leaves what counts
other_counts : (s : List ℕ) (g : ℕ) (o : Option EndOf) → test_of (is_end s g) o ≡ false →
    (s' : List ℕ) (g' : ℕ) → but_ended o (only s g) s' g' ≡ only s g s' g'
other_counts s g None other s' g' = refl
other_counts s g (Some x) other s' g' = by_test (only s g s' g') refl
  where
    by_test : (t : Bool) → only s g s' g' ≡ t → (t && not (is_key s' g' x.session x.group)) ≡ t
    by_test false e = refl
    by_test true e =
        let same : is_key s' g' x.session x.group ≡ false =
        (λ i. is_key (key_session s' g' s g e i) (key_group s' g' s g e i) x.session x.group)
        ∙ is_key-sym s g x.session x.group ∙ other in
        rw same refl

each_most : (s : List ℕ) (g : ℕ) (new old : Ledger) (rows : List BucketRow) →
    ((n : ℕ) → held (only s g) n old ≤ held (only s g) n new) → (k : BucketKind) →
    sum_in k (λ c. held (only s g) c.number old) rows ≤
    sum_in k (λ c. held (only s g) c.number new) rows
each_most s g new old rows le k =
    sum_in-most k (λ c. held (only s g) c.number old) (λ c. held (only s g) c.number new) rows
    (λ c. le c.number)

-- where no bucket's holds become less, and maybe a bucket more is made
credit_held : (s : List ℕ) (g : ℕ) (new old : Ledger) (o : Option CreditOf) →
    ((n : ℕ) → held (only s g) n old ≤ held (only s g) n new) → (k : BucketKind) →
    held_together k s g old
    ≤ sum_in k (λ c. held (only s g) c.number new) (with_credit o (credits old))
credit_held s g new old None le k = each_most s g new old (credits old) le k
credit_held s g new old (Some c) le k =
    let all : sum_in k (λ x. held (only s g) x.number new) (with_credit (Some c) (credits old))
    ≡ (if is_alike c.kind k then held (only s g) c.number new else 0)
    + sum_in k (λ x. held (only s g) x.number new) (credits old) =
    sum_in-inserted k (λ x. held (only s g) x.number new)
    (new_row c.kind c.number c.from c.until c.scope c.amount) (credits old) in
    omega (arith, all, each_most s g new old (credits old) le k)

pub leaves_one : (s : List ℕ) (g t : ℕ) (f : Fact) (ledger : Ledger) → IsUntold s g (counts f) →
    LeavesGrant s g (in_front t f ledger) ledger
leaves_one s g t f ledger h = record {
  grant = ap (λ o. inner (or_else o (newest (grant_told s g) ledger)))
      (untold quota_by s g (counts f).usage (counts f).grant (counts f).end h.named h.ended);
  terms = ap (λ o. inner (or_else o (newest (grant_in s g) ledger)))
      (untold (λ x. x.terms) s g (counts f).usage (counts f).grant (counts f).end h.named h.ended);
  used = omega (arith, unnamed_use s g (counts f).usage (counts f).grant h.named);
  recorded = λ e. rest_none (recorded_at s t (counts f).request) (last_recording s ledger) e;
  held = credit_held s g (in_front t f ledger) ledger (counts f).credit (λ n. omega (
    arith,
    held_same (but_ended (counts f).end (only s g)) (only s g) n ledger
        (other_counts s g (counts f).end h.ended),
  ));
}

-- ---- charges and holds

pub leaves_charges : (s : List ℕ) (g t : ℕ) (hs : List HeldAmount) (ledger : Ledger) →
    LeavesGrant s g (charge_facts t hs ++ ledger) ledger
leaves_charges s g t [] ledger = leaves_same s g ledger
leaves_charges s g t (x ∷ xs) ledger =
    leaves_both s g (charge_facts t (x ∷ xs) ++ ledger) (charge_facts t xs ++ ledger) ledger
    (leaves_one s g t (Charge x.bucket x.amount) (charge_facts t xs ++ ledger)
    (record { named = refl; ended = refl }))
    (leaves_charges s g t xs ledger)

pub leaves_holds : (s : List ℕ) (g t : ℕ) (session : List ℕ) (group : ℕ) (hs : List HeldAmount)
    (ledger : Ledger) → LeavesGrant s g (hold_facts t session group hs ++ ledger) ledger
leaves_holds s g t session group [] ledger = leaves_same s g ledger
leaves_holds s g t session group (x ∷ xs) ledger =
    leaves_both s g (hold_facts t session group (x ∷ xs) ++ ledger)
    (hold_facts t session group xs ++ ledger) ledger
    (leaves_one s g t (Hold (hold_for session group x))
    (hold_facts t session group xs ++ ledger) (record { named = refl; ended = refl }))
    (leaves_holds s g t session group xs ledger)
