-- What a report within a grant's units costs is covered by the blocks and the money of the grant.
use Rattle.std.proofs.Common.{◌≡◌, ℕ, zero, suc, ◌+◌, ◌-◌, ◌*◌, ◌≤◌, ◌<◌, ◌==◌, nat_le, Bool}
use Rattle.std.proofs.Common.{true, false, List, [], ◌∷◌, refl, sym, ap, ◌∙◌, arith, Option, Some}
use Rattle.std.proofs.Common.{None, inl, inr}
use Rattle.std.specs.Prelude.{if◌then◌else◌, min}
use Rattle.std.proofs.lemmas.Bool.{cases_Bool, leb-true}
use Rattle.std.proofs.lemmas.Bool.Decides.{nat_tests}
use Rattle.std.proofs.lemmas.List.Sums.{sum_by-cons}
use Rattle.units.specs.Blocks.{started}
use Rattle.units.specs.declared.blocks.UsedPart.{UsedPart}
use Rattle.units.proofs.Started.{started-add}
use Rattle.tariffs.specs.declared.tiers.Tier.{Tier}
use Rattle.tariffs.specs.Tariffs.{GroupTariff, tiers_at}
use Rattle.rating.specs.declared.grant.Grant.{Grant as RatedGrant}
use Rattle.rating.specs.declared.grant.Periods.{Periods}
use Rattle.rating.specs.declared.report.Part.{Part}
use Rattle.rating.specs.Rated.{report_blocks, units_of}
use Rattle.rating.specs.Granted.{dearer, greatest_covered, granted_units, block_start}
use Rattle.rating.proofs.Sums.{dearer_none}
use Rattle.rating.proofs.Grants.{starts_to_end}
use Rattle.rating.proofs.Quotas.{pays_within}
use Rattle.ledger.specs.Pricing.{prices_by, rated_parts, rated_with, grant_with, wanted_units}
use Rattle.ledger.specs.Settlement.{reported}
use Rattle.reserving.proofs.Reported.{reported_is}

-- ---- the blocks that units start

-- the parts of a report start no more blocks than its units together
blocks_most : (block used : ℕ) (parts : List Part) → 0 < block →
    report_blocks block used parts ≤ started used (units_of parts) block
unfolding report_blocks
blocks_most block used [] some = omega arith
blocks_most block used (q ∷ qs) some =
    let all : started used (units_of (q ∷ qs)) block ≡
    started used q.units.0 block + started (used + q.units.0) (units_of qs) block =
    ap (λ u. started used u block) (sum_by-cons (λ (y : Part). y.units.0) q qs)
    ∙ started-add used q.units.0 (units_of qs) block some in
    omega (arith, all, blocks_most block (used + q.units.0) qs some)

-- more units start no fewer
more_started : (block used few many : ℕ) → 0 < block → few ≤ many →
    started used few block ≤ started used many block
more_started block used few many some le =
    let more : ℕ = many - few in
    let e : few + more ≡ many = omega arith in
    let cut : started used many block ≡
    started used few block + started (used + few) more block =
    ap (λ u. started used u block) (sym e) ∙ started-add used few more block some in
    omega (arith, cut)

-- ---- by the group's tariff, if it has one

abbrev pub dearer_at : GroupTariff → Periods → ℕ → ℕ → ℕ
dearer_at x p place n = dearer (tiers_at x p.before.0) (tiers_at x p.after.0) place n

abbrev pub HasBlocks : Option GroupTariff → Type 0
HasBlocks None = Unit {0}
HasBlocks (Some x) = 0 < x.block

-- the blocks that units start
abbrev pub started_by : Option GroupTariff → ℕ → ℕ → ℕ
started_by None used units = 0
started_by (Some x) used units = started used units x.block

-- what n blocks cost at the dearer prices
abbrev pub dearer_by : Option GroupTariff → Periods → ℕ → ℕ → ℕ
dearer_by None p place n = 0
dearer_by (Some x) p place n = dearer_at x p place n

-- so many blocks and so much money pay for units: the blocks for the first that these start, and
-- the money for the others at the dearer prices
-- rule: quota.quotas-paid
pub record PaysFor (o : Option GroupTariff) (p : Periods) (used place units blocks money : ℕ) :
    Type 0 where
  pub first : ℕ
  pub others : ℕ
  pub starts : started_by o used units ≤ first + others
  pub blocks_held : first ≤ blocks
  pub money_held : dearer_by o p (place + first) others ≤ money

-- more of both pay too
pub pays_more : (o : Option GroupTariff) (p : Periods)
    (used place units blocks money more_blocks more_money : ℕ) → blocks ≤ more_blocks →
    money ≤ more_money → PaysFor o p used place units blocks money →
    PaysFor o p used place units more_blocks more_money
pays_more o p used place units blocks money more_blocks more_money le1 le2 h =
    record {
      first = h.first;
      others = h.others;
      starts = h.starts;
      blocks_held = omega (arith, h.blocks_held, le1);
      money_held = omega (arith, h.money_held, le2);
    }

-- a report of no more units than are paid for costs no more than the money, where at least the
-- blocks may cover it
-- rule: quota.quotas-paid
pub report_within : (o : Option GroupTariff) (p : Periods)
    (used place units blocks money covered : ℕ) (parts : List UsedPart) → HasBlocks o →
    reported parts ≤ units → PaysFor o p used place units blocks money → blocks ≤ covered →
    (rated_with o p used place covered parts).amount.0 ≤ money
report_within None p used place units blocks money covered parts some le pays has = omega arith
report_within (Some x) p used place units blocks money covered parts some le pays has =
    let all : units_of (rated_parts parts) ≡ reported parts = omega (arith, reported_is parts) in
    let starts : report_blocks x.block used (rated_parts parts) ≤ pays.first + pays.others =
    omega (
      arith,
      blocks_most x.block used (rated_parts parts) some,
      ap (λ u. started used u x.block) all,
      more_started x.block used (reported parts) units some le,
      pays.starts,
    ) in
    let first : pays.first ≤ covered = omega (arith, pays.blocks_held, has) in
    omega (
      arith,
      pays_within (prices_by x p) used place covered (rated_parts parts) pays.first pays.others
          first starts,
      pays.money_held,
    )

-- ---- a grant

greatest_within : (bs as' : List Tier) (place funds most : ℕ) →
    dearer bs as' place (greatest_covered bs as' place funds most) ≤ funds
unfolding greatest_covered
greatest_within bs as' place funds zero = omega (arith, dearer_none bs as' place)
greatest_within bs as' place funds (suc most) =
    elim (cases_Bool (nat_le (dearer bs as' place (suc most)) funds)) [
      | inl yes' ↦ rw yes' (leb-true (dearer bs as' place (suc most)) funds yes')
      | inr no' ↦ rw no' (greatest_within bs as' place funds most)
    ]

-- what is granted starts no more blocks than the grant has
granted_blocks : (block used wanted n : ℕ) → 0 < block →
    started used (granted_units block used wanted n) block ≡ n
granted_blocks block used wanted n some = by_test (n == started used wanted block) refl
  where
    by_test : (t : Bool) → (n == started used wanted block) ≡ t →
        started used (if t then wanted else block_start used block + n * block - used) block ≡ n
    by_test true e = grind (arith, nat_tests)
    by_test false e = starts_to_end used n block some

-- what is held for it pays for its units
pub grant_pays : (o : Option GroupTariff) (p : Periods) (used place : ℕ) (requested : Option ℕ)
    (funds allowance : ℕ) → HasBlocks o →
    (let grant : RatedGrant = grant_with o p used place requested funds allowance in
    PaysFor o p used place grant.units.0 grant.allowed.0 grant.amount.0)
grant_pays None p used place requested funds allowance some = record {
  first = 0;
  others = 0;
  starts = omega arith;
  blocks_held = omega arith;
  money_held = omega arith;
}
grant_pays (Some x) p used place requested funds allowance some =
    let wanted : ℕ = wanted_units x requested in
    let m : ℕ = min (started used wanted x.block) allowance in
    let n : ℕ = greatest_covered (tiers_at x p.before.0) (tiers_at x p.after.0) (place + m) funds
    (started used wanted x.block - m) in
    record {
      first = m;
      others = n;
      starts = omega (arith, granted_blocks x.block used wanted (m + n) some);
      blocks_held = omega arith;
      money_held = omega arith;
    }

-- which the funds have
pub grant_within : (o : Option GroupTariff) (p : Periods) (used place : ℕ) (requested : Option ℕ)
    (funds allowance : ℕ) →
    (grant_with o p used place requested funds allowance).amount.0 ≤ funds
grant_within None p used place requested funds allowance = omega arith
grant_within (Some x) p used place requested funds allowance =
    let wanted : ℕ = started used (wanted_units x requested) x.block in
    let m : ℕ = min wanted allowance in
    greatest_within (tiers_at x p.before.0) (tiers_at x p.after.0) (place + m) funds (wanted - m)

-- and the allowance
pub grant_allowed : (o : Option GroupTariff) (p : Periods) (used place : ℕ) (requested : Option ℕ)
    (funds allowance : ℕ) →
    (grant_with o p used place requested funds allowance).allowed.0 ≤ allowance
grant_allowed None p used place requested funds allowance = omega arith
grant_allowed (Some x) p used place requested funds allowance = omega arith
