-- Reports, part by part.
use Rattle.std.proofs.Common.{◌≡◌, ℕ, zero, suc, ◌+◌, ◌-◌, ◌*◌, ◌/◌, ◌%◌, ◌<◌, List, [], ◌∷◌}
use Rattle.std.proofs.Common.{◌++◌, refl, inl, inr}
use Rattle.std.specs.Prelude.{min}
use Rattle.std.proofs.lemmas.Bool.{cases_lt}
use Rattle.tariffs.specs.declared.tiers.Tier.{Tier}
use Rattle.std.proofs.Common.{ap, sym, ◌∙◌, arith, add-zero, zero-add, length, drop, get_or}
use Rattle.std.proofs.Math.Nat.{add-mul-mod_self_left, mod-add-div}
use Rattle.std.proofs.lemmas.List.{at_drop_more}
use Rattle.std.proofs.lemmas.List.Sums.{sum_by-cons}
use Rattle.units.specs.Blocks.{started}
use Rattle.units.proofs.Started.{started-add}
use Rattle.tariffs.specs.declared.group_prices.Side.{Side}
use Rattle.tariffs.specs.declared.group_prices.Side.TheVariants.{Before}
use Rattle.tariffs.specs.GroupPrices.{GroupPrices, tiers_on}
use Rattle.rating.specs.declared.report.Part.{Part}
use Rattle.rating.specs.declared.report.Rated.{Rated}
use Rattle.rating.specs.Rated.{rated_amount, uncovered_amount, report_blocks, report_amount}
use Rattle.rating.specs.Rated.{rated_report, units_of, FollowsAt, part_of, CutsAlike, CoversNoMore}
use Rattle.rating.proofs.Sums.{rated_none, rated_cut}

-- only the place within its block tells where a number stands
pub mod_mod : (a u block : ℕ) → (a % block + u) % block ≡ (a + u) % block
mod_mod a u block =
    let e : a + u ≡ a % block + u + block * (a / block) = omega (arith, mod-add-div a block) in
    rw e (sym (add-mul-mod_self_left (a % block + u) block (a / block)))

pub started_mod : (a units block : ℕ) → started (a % block) units block ≡ started a units block
started_mod a zero block = refl
started_mod a (suc units) block = rw (started_mod a units block, mod_mod a units block) refl

pub blocks_mod : (block a : ℕ) (parts : List Part) →
    report_blocks block (a % block) parts ≡ report_blocks block a parts
unfolding report_blocks
blocks_mod block a [] = refl
blocks_mod block a (part ∷ parts) =
    let rest : report_blocks block (a % block + part.units.0) parts
    ≡ report_blocks block (a + part.units.0) parts =
    sym (blocks_mod block (a % block + part.units.0) parts)
    ∙ ap (λ u. report_blocks block u parts) (mod_mod a part.units.0 block)
    ∙ blocks_mod block (a + part.units.0) parts in
    rw (started_mod a part.units.0 block, rest) refl

pub amount_mod : (t : GroupPrices) (a place covered : ℕ) (parts : List Part) →
    report_amount t (a % t.tariff.block) place covered parts ≡ report_amount t a place covered parts
unfolding report_amount
amount_mod t a place covered [] = refl
amount_mod t a place covered (part ∷ parts) =
    let next = place + started a part.units.0 t.tariff.block in
    let left = covered - started a part.units.0 t.tariff.block in
    let rest : report_amount t (a % t.tariff.block + part.units.0) next left parts
    ≡ report_amount t (a + part.units.0) next left parts =
    sym (amount_mod t (a % t.tariff.block + part.units.0) next left parts)
    ∙ ap (λ u. report_amount t u next left parts) (mod_mod a part.units.0 t.tariff.block)
    ∙ amount_mod t (a + part.units.0) next left parts in
    rw (started_mod a part.units.0 t.tariff.block, rest) refl

-- one more part of a report
pub blocks_step : (block a i : ℕ) (parts : List Part) (d : Part) → i < length parts
    → report_blocks block a (drop i parts) ≡ started a (get_or parts i d).units.0 block
    + report_blocks block ((a + (get_or parts i d).units.0) % block) (drop (i + 1) parts)
unfolding report_blocks
blocks_step block a i parts d within =
    let e : report_blocks block a (drop i parts)
    ≡ report_blocks block a (get_or parts i d ∷ drop (i + 1) parts) =
    at_drop_more (report_blocks block a) parts i d within in
    e ∙ ap (λ n. started a (get_or parts i d).units.0 block + n)
    (sym (blocks_mod block (a + (get_or parts i d).units.0) (drop (i + 1) parts)))

pub amount_step : (t : GroupPrices) (a place covered i : ℕ) (parts : List Part) (d : Part) →
    i < length parts
    → report_amount t a place covered (drop i parts)
    ≡ uncovered_amount (tiers_on t (get_or parts i d).side) place covered
    (started a (get_or parts i d).units.0 t.tariff.block)
    + report_amount t ((a + (get_or parts i d).units.0) % t.tariff.block)
    (place + started a (get_or parts i d).units.0 t.tariff.block)
    (covered - started a (get_or parts i d).units.0 t.tariff.block) (drop (i + 1) parts)
unfolding report_amount
amount_step t a place covered i parts d within =
    let e : report_amount t a place covered (drop i parts)
    ≡ report_amount t a place covered (get_or parts i d ∷ drop (i + 1) parts) =
    at_drop_more (report_amount t a place covered) parts i d within in
    let n = started a (get_or parts i d).units.0 t.tariff.block in
    e ∙ ap (λ m. uncovered_amount (tiers_on t (get_or parts i d).side) place covered n + m)
    (sym
    (amount_mod t (a + (get_or parts i d).units.0) (place + n) (covered - n) (drop (i + 1) parts)))

abbrev pub no_part : Part
no_part = record { side = Before; units = record { 0 = 0 } }

-- what a turn of the loop over the parts keeps
pub blocks_after : (block a i done n into total : ℕ) (parts : List Part) → i < length parts
    → n ≡ started a (get_or parts i no_part).units.0 block →
    into ≡ (a + (get_or parts i no_part).units.0) % block
    → done + report_blocks block a (drop i parts) ≡ total →
    done + n + report_blocks block into (drop (i + 1) parts) ≡ total
blocks_after block a i done n into total parts within n_is into_is h =
    let rest : report_blocks block into (drop (i + 1) parts)
    ≡ report_blocks block ((a + (get_or parts i no_part).units.0) % block) (drop (i + 1) parts)
    =
    ap (λ u. report_blocks block u (drop (i + 1) parts)) into_is in
    omega (arith, blocks_step block a i parts no_part within, rest, n_is, h)

pub amount_after : (t : GroupPrices) (a place i done left sum n price into next_left total : ℕ)
    (parts : List Part) → i < length parts
    → n ≡ started a (get_or parts i no_part).units.0 t.tariff.block →
    into ≡ (a + (get_or parts i no_part).units.0) % t.tariff.block
    → price ≡ uncovered_amount (tiers_on t (get_or parts i no_part).side) (place + done) left n →
    next_left ≡ left - n
    → sum + report_amount t a (place + done) left (drop i parts) ≡ total →
    sum + price + report_amount t into (place + (done + n)) next_left (drop (i + 1) parts) ≡ total
amount_after t a place i done left sum n price into next_left total parts within n_is into_is
    price_is left_is h =
    let next : place + (done + n)
    ≡ place + done + started a (get_or parts i no_part).units.0 t.tariff.block =
    omega (arith, n_is) in
    let over : next_left ≡ left - started a (get_or parts i no_part).units.0 t.tariff.block =
    left_is ∙ ap (λ m. left - m) n_is in
    let rest : report_amount t into (place + (done + n)) next_left (drop (i + 1) parts)
    ≡ report_amount t ((a + (get_or parts i no_part).units.0) % t.tariff.block)
    (place + done + started a (get_or parts i no_part).units.0 t.tariff.block)
    (left - started a (get_or parts i no_part).units.0 t.tariff.block)
    (drop (i + 1) parts) =
    λ j. report_amount t (into_is j) (next j) (over j) (drop (i + 1) parts) in
    let here =
    price_is
    ∙ ap (uncovered_amount (tiers_on t (get_or parts i no_part).side) (place + done) left) n_is in
    omega (arith, amount_step t a (place + done) left i parts no_part within, rest, here, h)

-- two reports after each other
-- rule: cutting.cuts-alike
pub follows : (t : GroupPrices) (used place covered : ℕ) (parts more : List Part) →
    FollowsAt t used place covered parts more
unfolding report_blocks report_amount
follows t used place covered [] more =
    let none : used + 0 ≡ used = add-zero used in
    let here : place + 0 ≡ place = add-zero place in
    let all : covered - 0 ≡ covered = omega arith in
    record {
      blocks = rw none (sym (zero-add (report_blocks t.tariff.block used more)));
      amount = rw (none, here, all) (sym (zero-add (report_amount t used place covered more)));
    }
follows t used place covered (part ∷ parts) more =
    let n = started used part.units.0 t.tariff.block in
    let rest : FollowsAt t (used + part.units.0) (place + n) (covered - n) parts more =
    follows t (used + part.units.0) (place + n) (covered - n) parts more in
    let units : used + units_of (part ∷ parts) ≡ used + part.units.0 + units_of parts =
    omega (arith, sum_by-cons (λ (p : Part). p.units.0) part parts) in
    let places : place + (n + report_blocks t.tariff.block (used + part.units.0) parts)
    ≡ place + n + report_blocks t.tariff.block (used + part.units.0) parts = omega arith in
    let lefts : covered - (n + report_blocks t.tariff.block (used + part.units.0) parts)
    ≡ covered - n - report_blocks t.tariff.block (used + part.units.0) parts = omega arith in
    record {
      blocks = rw units (omega (arith, rest.blocks));
      amount = rw (units, places, lefts) (omega (arith, rest.amount));
    }

-- a part in two
cut_blocks : (t : GroupPrices) (used : ℕ) (side : Side) (one two : ℕ) (after : List Part) →
    0 < t.tariff.block
    → report_blocks t.tariff.block used (part_of side one ∷ part_of side two ∷ after)
    ≡ report_blocks t.tariff.block used (part_of side (one + two) ∷ after)
unfolding report_blocks
cut_blocks t used side one two after some =
    let units : used + (one + two) ≡ used + one + two = omega arith in
    let cut = started-add used one two t.tariff.block some in
    rw units (omega (arith, cut))

-- covered blocks are split in order: the second has what the first leaves of them
uncovered_cut : (ts : List Tier) (place covered n m : ℕ) →
    uncovered_amount ts place covered (n + m)
    ≡ uncovered_amount ts place covered n + uncovered_amount ts (place + n) (covered - n) m
uncovered_cut ts place covered n m =
    elim (cases_lt covered n) [
      | inl less ↦ (
          let all : n + m - covered ≡ (n - covered) + m = omega arith in
          let here : place + covered + (n - covered) ≡ place + n + (covered - n) = omega arith in
          let rest : m - (covered - n) ≡ m = omega arith in
          rw (all, rest, ← here) (rated_cut ts (place + covered) (n - covered) m))
      | inr more ↦ (
          let none : n - covered ≡ 0 = omega arith in
          let here : place + n + (covered - n) ≡ place + covered = omega arith in
          let rest : m - (covered - n) ≡ n + m - covered = omega arith in
          rw (none, here, rest, rated_none ts (place + covered))
          (sym (zero-add (rated_amount ts (place + covered) (n + m - covered)))))
    ]

cut_amount : (t : GroupPrices) (used place covered : ℕ) (side : Side) (one two : ℕ)
    (after : List Part) → 0 < t.tariff.block
    → report_amount t used place covered (part_of side one ∷ part_of side two ∷ after)
    ≡ report_amount t used place covered (part_of side (one + two) ∷ after)
unfolding report_amount
cut_amount t used place covered side one two after some =
    let units : used + (one + two) ≡ used + one + two = omega arith in
    let cut : started used (one + two) t.tariff.block
    ≡ started used one t.tariff.block + started (used + one) two t.tariff.block =
    started-add used one two t.tariff.block some in
    let places : place + (started used one t.tariff.block + started (used + one) two t.tariff.block)
    ≡ place + started used one t.tariff.block + started (used + one) two t.tariff.block =
    omega arith in
    let lefts : covered
    - (started used one t.tariff.block + started (used + one) two t.tariff.block)
    ≡ covered - started used one t.tariff.block - started (used + one) two t.tariff.block =
    omega arith in
    rw (units, cut, places, lefts)
    (omega (
      arith,
      uncovered_cut (tiers_on t side) place covered (started used one t.tariff.block)
          (started (used + one) two t.tariff.block),
    ))

-- rule: rated-amount
report_is : (t : GroupPrices) (used place covered : ℕ) (xs ys : List Part) →
    report_blocks t.tariff.block used xs ≡ report_blocks t.tariff.block used ys
    → report_amount t used place covered xs ≡ report_amount t used place covered ys →
    rated_report t used place covered xs ≡ rated_report t used place covered ys
report_is t used place covered xs ys blocks amount =
    λ i. record {
      amount = record { 0 = amount i };
      blocks = blocks i;
      covered = record { 0 = min (blocks i) covered };
    }

-- anywhere in a report
-- rule: cutting.cuts-alike
pub cuts_alike : CutsAlike
cuts_alike t used place covered before after side one two some =
    let xs = part_of side one ∷ part_of side two ∷ after in
    let ys = part_of side (one + two) ∷ after in
    let x : FollowsAt t used place covered before xs = follows t used place covered before xs in
    let y : FollowsAt t used place covered before ys = follows t used place covered before ys in
    report_is t used place covered (before ++ xs) (before ++ ys)
    (omega (
      arith,
      x.blocks,
      y.blocks,
      cut_blocks t (used + units_of before) side one two after some,
    ))
    (omega (
      arith,
      x.amount,
      y.amount,
      cut_amount t (used + units_of before)
          (place + report_blocks t.tariff.block used before)
          (covered - report_blocks t.tariff.block used before) side one two after some,
    ))

-- no more blocks are covered than are started
uncovered_most : (ts : List Tier) (place covered n more : ℕ) →
    uncovered_amount ts place covered n ≡ uncovered_amount ts place (min (n + more) covered) n
uncovered_most ts place covered n more =
    elim (cases_lt covered (n + more)) [
      | inl less ↦ (let same : min (n + more) covered ≡ covered = omega arith in rw same refl)
      | inr all ↦ (let same : min (n + more) covered ≡ n + more = omega arith in
          let none : n - covered ≡ 0 = omega arith in
          let none' : n - (n + more) ≡ 0 = omega arith in
          rw (same, none, none', rated_none ts (place + covered))
          (sym (rated_none ts (place + (n + more)))))
    ]

pub covers_no_more : CoversNoMore
unfolding report_blocks report_amount
covers_no_more t used place covered [] = refl
covers_no_more t used place covered (part ∷ parts) =
    let n = started used part.units.0 t.tariff.block in
    let more = report_blocks t.tariff.block (used + part.units.0) parts in
    let left : min (n + more) covered - n ≡ min more (covered - n) = omega arith in
    rw left
    (omega (
      arith,
      uncovered_most (tiers_on t part.side) place covered n more,
      covers_no_more t (used + part.units.0) (place + n) (covered - n) parts,
    ))

-- after the last part
pub report_by : (t : GroupPrices) (used place covered : ℕ) (parts : List Part)
    (a p left amount blocks cut : ℕ) → cut ≡ min blocks covered →
    blocks + report_blocks t.tariff.block a [] ≡ report_blocks t.tariff.block used parts
    → amount + report_amount t a p left [] ≡ report_amount t used place covered parts
    → ◌≡◌ {A = Rated}
    (record { amount = record { 0 = amount }; blocks = blocks; covered = record { 0 = cut } })
    (rated_report t used place covered parts)
unfolding report_blocks report_amount
report_by t used place covered parts a p left amount blocks cut hc hb ha =
    let b : blocks ≡ report_blocks t.tariff.block used parts = omega (arith, hb) in
    let m : amount ≡ report_amount t used place covered parts = omega (arith, ha) in
    let k : cut ≡ min (report_blocks t.tariff.block used parts) covered =
    hc ∙ ap (λ n. min n covered) b in
    λ i. record { amount = record { 0 = m i }; blocks = b i; covered = record { 0 = k i } }
