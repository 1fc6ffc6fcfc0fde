-- A report within its grant is collected whole.
use Rattle.std.proofs.Common.{◌≡◌, ℕ, ◌≤◌, true, List, [], ◌∷◌, ◌++◌, refl, sym, ap, subst, ◌∙◌}
use Rattle.std.proofs.Common.{arith, Option, Some}
use Rattle.std.specs.Prelude.{unwrap_or}
use Rattle.tariffs.specs.Tariffs.{GroupTariff}
use Rattle.shelves.specs.Shelves.{Shelf, IsShelf, tariff_in}
use Rattle.rating.specs.declared.grant.Grant.{Grant as RatedGrant}
use Rattle.units.specs.declared.blocks.UsedPart.{UsedPart}
use Rattle.buckets.specs.declared.holds.HeldAmount.{HeldAmount}
use Rattle.buckets.specs.declared.kind.BucketKind.{BucketKind}
use Rattle.buckets.specs.declared.kind.BucketKind.TheVariants.{Money, Blocks}
use Rattle.buckets.specs.Holding.{held_sum, holds_of, uncollected}
use Rattle.ledger.specs.Ledger.{Fact, Ledger, used, counter, held, only, next_bucket, counts}
use Rattle.ledger.specs.Ledger.Fact.{Touch, Recorded}
use Rattle.ledger.specs.Pricing.{cycle_at, terms_now, rated_with, validity_of}
use Rattle.ledger.specs.Balance.{credits, buckets_at, holds_at}
use Rattle.ledger.specs.Settlement.{price_by, coverable, reported, report_price, charge_facts}
use Rattle.ledger.specs.Settlement.{settled_by, missing, due_of, use_of}
use Rattle.ledger.specs.Reservation.{hold_facts, grant_for, held_due}
use Rattle.ledger.specs.Debiting.{debited}
use Rattle.charging.specs.Paid.{Report, OpenGrant, grant_open, IsWithinGrant, AreQuotasPaid}
use Rattle.charging.proofs.charges.BucketSums.{sum_in-moved, held_sum-parts}
use Rattle.charging.proofs.steps.Steps.{is_quiet, with_grant, granted, Keeps}
use Rattle.charging.proofs.steps.Credited.{AreCredited, distinct}
use Rattle.charging.proofs.charges.Paying.{IsPaying, paying_none, keeps_paying}
use Rattle.charging.proofs.charges.Paying.{before_charges-charges, paid_parts}
use Rattle.charging.proofs.grants.GrantPrices.{PaysFor, report_within}
use Rattle.charging.proofs.grants.GrantsLeft.{held_together}
use Rattle.charging.proofs.grants.GrantsHeld.{has_blocks, IsCovered, AreCovered, covered_none}
use Rattle.charging.proofs.grants.GrantsHeld.{covered_quiet, covered_credit, covered_settle}
use Rattle.charging.proofs.grants.GrantsHeld.{covered_debit, covered_grant}
use Rattle.rating.specs.declared.report.Rated.{Rated}
use Rattle.reserving.proofs.Counted.{has_none, quiet}

-- what each ledger of an account keeps: it is paid, its open grants are covered, and its uses
-- within them are collected
pub record IsGuaranteed (b : Shelf) (reports : List Report) (ledger : Ledger) : Type 0 where
  pub paying : IsPaying b reports ledger
  pub covered : AreCovered b ledger
  pub quotas : AreQuotasPaid b ledger

-- ---- facts that are no uses

AreQuotasPaid-charges : (b : Shelf) (t : ℕ) (hs : List HeldAmount) (ledger : Ledger) →
    AreQuotasPaid b ledger → AreQuotasPaid b (charge_facts t hs ++ ledger)
AreQuotasPaid-charges b t [] ledger h = h
AreQuotasPaid-charges b t (x ∷ xs) ledger h = (tt, AreQuotasPaid-charges b t xs ledger h)

AreQuotasPaid-holds : (b : Shelf) (t : ℕ) (s : List ℕ) (g : ℕ) (hs : List HeldAmount)
    (ledger : Ledger) →
    AreQuotasPaid b ledger → AreQuotasPaid b (hold_facts t s g hs ++ ledger)
AreQuotasPaid-holds b t s g [] ledger h = h
AreQuotasPaid-holds b t s g (x ∷ xs) ledger h = (tt, AreQuotasPaid-holds b t s g xs ledger h)

quiet_quotas : (b : Shelf) (t : ℕ) (f : Fact) (ledger : Ledger) → is_quiet f ≡ true →
    AreQuotasPaid b ledger → AreQuotasPaid b (record { at = t; fact = f } ∷ ledger)
quiet_quotas b t f ledger q h = (has_none _ (counts f).usage (quiet f q).usage, h)

-- ---- a report

-- what a session's reservation has together is what is held for it
held_at : (k : BucketKind) (v : ℕ → ℕ) (t : ℕ) (s : List ℕ) (g : ℕ) (ledger : Ledger) →
    AreCredited (credits ledger) (next_bucket ledger) →
    held_sum k (holds_at v t s g ledger) (buckets_at v t ledger) ≡ held_together k s g ledger
held_at k v t s g ledger made =
    held_sum-parts k (λ c. held (only s g) c.number ledger) (buckets_at v t ledger)
    (distinct v t ledger made)
    ∙ sum_in-moved k (λ n. held (only s g) n ledger) v t ledger (credits ledger)

within_grant : (b : Shelf) → IsShelf b →
    (t : ℕ) (s : List ℕ) (g : ℕ) (used_parts : List UsedPart) (reports : List Report)
    (ledger : Ledger) → IsGuaranteed b reports ledger →
    (x : OpenGrant) → grant_open s g ledger ≡ Some x → reported used_parts ≤ x.units →
    counter (cycle_at b g) g (cycle_at b g t) ledger ≡ x.counter →
    uncollected (holds_at (validity_of b) t s g ledger) g t
    (report_price b t s g used_parts ledger).amount.0 (buckets_at (validity_of b) t ledger) ≡ 0
within_grant b is t s g used_parts reports ledger h x e le place_is =
    let covered : IsCovered b s g ledger x = h.covered s g x e in
    let place : ℕ = counter (cycle_at b g) g (cycle_at b g t) ledger in
    let before : ℕ = used s g ledger in
    let free : ℕ = coverable (validity_of b) t s g ledger in
    let blocks : ℕ = held_together Blocks s g ledger in
    let money : ℕ = held_together Money s g ledger in
    let price : (report_price b t s g used_parts ledger).amount.0 ≡
    (rated_with (tariff_in b covered.terms.book g) covered.terms.periods before place free
    used_parts).amount.0 =
    ap (λ o. (price_by b g (unwrap_or o (terms_now b t)) before place free used_parts).amount.0)
    covered.granted in
    let o : Option GroupTariff = tariff_in b covered.terms.book g in
    let pays : PaysFor o covered.terms.periods before place x.units blocks money =
    subst (λ n. PaysFor o covered.terms.periods before n x.units blocks money) (sym place_is)
    covered.held in
    let has : blocks ≤ free =
    omega (arith, held_at Blocks (validity_of b) t s g ledger h.paying.credits) in
    let most : (rated_with o covered.terms.periods before place free used_parts).amount.0 ≤ money =
    report_within o covered.terms.periods before place x.units blocks money free used_parts
    (has_blocks b is covered.terms.book g) le pays has in
    omega (arith, price, most, held_at Money (validity_of b) t s g ledger h.paying.credits)

settled_quotas : (b : Shelf) → IsShelf b →
    (t : ℕ) (s : List ℕ) (g : ℕ) (used_parts : List UsedPart) (reports : List Report)
    (ledger : Ledger) → IsGuaranteed b reports ledger →
    AreQuotasPaid b (settled_by b t s g used_parts ledger)
settled_quotas b is t s g [] reports ledger h = (tt, h.quotas)
settled_quotas b is t s g (p ∷ ps) reports ledger h =
    let price : Rated = report_price b t s g (p ∷ ps) ledger in
    let hs : List HeldAmount = paid_parts b t s g (p ∷ ps) ledger in (
      tt,
      (
        subst (IsWithinGrant b t (use_of s g (reported (p ∷ ps)) price.blocks (due_of price)
            (missing b t s g (p ∷ ps) ledger)))
            (sym (before_charges-charges t hs ledger h.paying.begins))
            (within_grant b is t s g (p ∷ ps) reports ledger h),
        AreQuotasPaid-charges b t hs ledger h.quotas,
      ),
    )

granted_quotas : (b : Shelf) (t : ℕ) (s : List ℕ) (g : ℕ) (asked : Option ℕ) (ledger : Ledger) →
    AreQuotasPaid b ledger → AreQuotasPaid b (granted b t s g asked ledger)
granted_quotas b t s g asked ledger h =
    let grant : RatedGrant = grant_for b t g (used s g ledger) asked ledger in
    AreQuotasPaid-holds b t s g (holds_of g t (held_due grant)
    (buckets_at (validity_of b) t ledger))
    (with_grant b t s g grant.units.0 ledger) (tt, h)

-- ---- each step

pub guaranteed_none : (b : Shelf) → IsGuaranteed b [] []
guaranteed_none b = record { paying = paying_none b; covered = covered_none b; quotas = tt }

-- rule: quota.quotas-paid
pub keeps_guaranteed : (b : Shelf) → IsShelf b → Keeps b (IsGuaranteed b)
keeps_guaranteed b is = record {
  quiet = λ t f reports ledger q n fits h. record {
    paying = paying.quiet t f reports ledger q n fits h.paying;
    covered = covered_quiet b t f ledger q h.covered;
    quotas = quiet_quotas b t f ledger q h.quotas;
  };
  touch = λ t s n reports ledger h. record {
    paying = paying.touch t s n reports ledger h.paying;
    covered = covered_quiet b t (Recorded s n) (record { at = t; fact = Touch s } ∷ ledger) refl
        (covered_quiet b t (Touch s) ledger refl h.covered);
    quotas = (tt, (tt, h.quotas));
  };
  credit = λ t kind from until scope amount reports ledger h. record {
    paying = paying.credit t kind from until scope amount reports ledger h.paying;
    covered = covered_credit b t kind from until scope amount ledger h.covered;
    quotas = (tt, h.quotas);
  };
  settle = λ t s g used_parts reports ledger touches h. record {
    paying = paying.settle t s g used_parts reports ledger touches h.paying;
    covered = covered_settle b t s g used_parts ledger h.covered;
    quotas = settled_quotas b is t s g used_parts reports ledger h;
  };
  grant = λ t s g asked reports ledger recorded some h. record {
    paying = paying.grant t s g asked reports ledger recorded some h.paying;
    covered = covered_grant b is t s g asked ledger h.paying.credits recorded h.covered;
    quotas = granted_quotas b t s g asked ledger h.quotas;
  };
  event = λ t s g units n reports ledger new covered h. record {
    paying = paying.event t s g units n reports ledger new covered h.paying;
    covered = covered_quiet b t (Recorded s n) (debited b t s g units ledger) refl
        (covered_debit b t s g units ledger new h.covered);
    quotas = (tt, (λ x e le place. refl, AreQuotasPaid-charges b t _ ledger h.quotas));
  };
}
  where
    paying : Keeps b (IsPaying b)
    paying = keeps_paying b
