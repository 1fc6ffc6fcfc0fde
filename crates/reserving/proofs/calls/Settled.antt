-- A settlement's call, from any ledger whose rows the account is before it.
use Rattle.std.specs.Prelude.{unwrap_or}
use Rattle.shelves.specs.Shelves.{tariff_in}
use Rattle.ledger.specs.declared.terms.Terms.{Terms}
use Rattle.ledger.specs.Ledger.{Ledger, used, is_live}
use Rattle.ledger.specs.Pricing.{terms_now, validity_of, cycle_at, rated_with}
use Rattle.std.specs.Prelude.{if◌then◌else◌}
use Rattle.std.proofs.Common.{◌-◌}
use Rattle.buckets.specs.declared.kind.BucketKind.{BucketKind}
use Rattle.buckets.specs.declared.kind.BucketKind.TheVariants.{Blocks}
use Rattle.buckets.specs.declared.holds.HeldAmount.{HeldAmount}
use Rattle.buckets.specs.Kinds.{is_alike}
use Rattle.buckets.specs.Spend.{allowance}
use Rattle.buckets.specs.Holding.{held_sum, held_in}
use Rattle.buckets.proofs.Dues.{sum_in-cons}
use Rattle.buckets.proofs.Parts.{sum_at, held_in-sum_at}
use Rattle.ledger.specs.Settlement.{due_of, reported, price_of, report_price, missing, passes}
use Rattle.ledger.specs.Settlement.{passes_limit, passes_after}
use Rattle.reserving.specs.Changes.{coverable_in}
use Rattle.reserving.proofs.rows.TwoAdvances.{advanced_twice}
use Rattle.reserving.proofs.rows.LaterFunds.{later_kind}
use Rattle.reserving.proofs.rows.Lapsing.{ends_keep}
use Rattle.buckets.specs.declared.kind.Due.{Due}
use Rattle.std.proofs.Common.{◌≡◌, ℕ, ◌+◌, ◌≤◌, Bool, true, false, List, [], ◌∷◌, map, refl, sym}
use Rattle.std.proofs.Common.{ap, subst, ◌∙◌, arith, Option, Some, None}
use Rattle.std.specs.Prelude.{is_some}
use Rattle.std.proofs.lemmas.Bool.Decides.{nat_tests}
use Rattle.units.specs.declared.blocks.UsedPart.{UsedPart}
use Rattle.buckets.specs.Row.{BucketRow, with_release, with_end}
use Rattle.buckets.specs.Holding.{uncollected}
use Rattle.reserving.specs.declared.session.SessionGroup.{SessionGroup}
use Rattle.reserving.specs.declared.settle.Settled.{Settled}
use Rattle.ledger.specs.Balance.{holds_at}
use Rattle.reserving.specs.Sessions.{group_in, counter_in, holds_in, is_live_in}
use Rattle.reserving.specs.Sessions.{is_counter, counter_before}
use Rattle.tariffs.specs.Tariffs.{GroupTariff}
use Rattle.rating.specs.declared.grant.Periods.{Periods}
use Rattle.rating.specs.declared.report.Rated.{Rated}
use Rattle.rating.specs.Rated.{uncovered_amount, report_blocks, report_amount}
use Rattle.rating.proofs.Sums.{rated_none}
use Rattle.tariffs.specs.Tariffs.{tiers_at}
use Rattle.tariffs.specs.declared.tiers.Tier.{Tier}
use Rattle.reserving.specs.Changes.{lapsed_in, advanced, used_in, reserved_in, count_in, price_in}
use Rattle.reserving.specs.Changes.{ended_rows, settled_account, settled_by_rows, terms_in}
use Rattle.reserving.specs.Changes.{missing_in}
use Rattle.reserving.specs.Prepared.{with_rows, counter_or_new}
use Rattle.reserving.specs.Rows.{AccountRows, IsAccount, IsRowsOf}
use Rattle.reserving.specs.Results.{IsAnswered, IsSettlementOf}
use Rattle.reserving.proofs.Lists.{find-put}
use Rattle.reserving.proofs.Advancing.{is_live_in-is, IsRowsOf-advanced}
use Rattle.reserving.proofs.Advanced.{IsAccount-advanced}
use Rattle.reserving.proofs.rows.Complete.{reserved_in_is}
use Rattle.reserving.proofs.PassedLimits.{passes_after-none}
use Rattle.reserving.proofs.kept.Settled.{or_new_cycle}
use Rattle.reserving.proofs.SettledRows.{used_in_is, count_in_is, price_in_is}
use Rattle.reserving.proofs.calls.Debited.{buckets_later}
use Rattle.reserving.proofs.calls.RowParts.{reserved_later, or_new_later, group_later, used_later}
use Rattle.reserving.proofs.calls.RowParts.{periods_later}
use Rattle.reserving.proofs.calls.RowParts.{count_later, settled_later}

-- ---- a report without parts

-- a report without parts costs nothing
no_blocks : (o : Option GroupTariff) (p : Periods) (before place c : ℕ) →
    (rated_with o p before place c []).blocks ≡ 0
unfolding report_blocks
no_blocks None p before place c = refl
no_blocks (Some x) p before place c = refl

no_covered : (o : Option GroupTariff) (p : Periods) (before place c : ℕ) →
    (rated_with o p before place c []).covered.0 ≡ 0
unfolding report_blocks
no_covered None p before place c = refl
no_covered (Some x) p before place c = omega arith

zero_amount : (ts : List Tier) (place c : ℕ) → uncovered_amount ts place c 0 ≡ 0
zero_amount ts place c = let none : 0 - c ≡ 0 = omega arith in
    rw none (rated_none ts (place + c))

no_amount : (o : Option GroupTariff) (p : Periods) (before place c : ℕ) →
    (rated_with o p before place c []).amount.0 ≡ 0
unfolding report_amount
no_amount None p before place c = refl
no_amount (Some x) p before place c =
    omega (
      arith,
      zero_amount (tiers_at x p.before.0) place c,
      zero_amount (tiers_at x p.before.0) (place + 0) (c - 0),
      zero_amount (tiers_at x p.before.0) (place + 0 + 0) (c - 0 - 0),
      zero_amount (tiers_at x p.after.0) (place + 0 + 0 + 0) (c - 0 - 0 - 0),
    )

-- the terms that price a report
abbrev terms_of : AccountRows → ℕ → List ℕ → ℕ → Terms
terms_of a t s g = unwrap_or (terms_in s g a.groups) (terms_now a.shelf t)

pub nothing_settled : (a : AccountRows) (s : List ℕ) (g t : ℕ) (used_parts : List UsedPart)
    (x : Settled) → used_parts ≡ [] → x.blocks.0 ≡ 0 → x.covered.0 ≡ 0 → x.rated.0 ≡ 0 →
    x.uncollected.0 ≡ 0 → IsAnswered (price_in s g t used_parts a) (missing_in s g t used_parts a) x
nothing_settled a s g t used_parts x empty none bare free whole =
    let blocks : (price_in s g t [] a).blocks ≡ 0 =
    no_blocks (tariff_in a.shelf (terms_of a t s g).book g) _ (used_in s g a.groups) _ _ in
    let covered : (price_in s g t [] a).covered.0 ≡ 0 =
    no_covered (tariff_in a.shelf (terms_of a t s g).book g) _ (used_in s g a.groups) _ _ in
    let amount : (price_in s g t [] a).amount.0 ≡ 0 =
    no_amount (tariff_in a.shelf (terms_of a t s g).book g) _ (used_in s g a.groups) _ _ in
    subst (λ ps. IsAnswered (price_in s g t ps a) (missing_in s g t ps a) x) (sym empty) (record {
      blocks = none ∙ sym blocks;
      covered = bare ∙ sym covered;
      rated = free ∙ sym amount;
      uncollected = omega (arith, amount, whole);
    })

-- ---- the limits

pub within_used : (before units count blocks charge : ℕ) →
    passes before units count blocks charge ≡ false → before + units ≤ 1000000000000000000
within_used before units count blocks charge h = grind (arith, nat_tests)

pub within_counted : (before units count blocks charge : ℕ) →
    passes before units count blocks charge ≡ false → count + blocks ≤ 4000000000000000000
within_counted before units count blocks charge h = grind (arith, nat_tests)

-- time leaves what holds have of the buckets of a kind
held_sum-later : (kind : BucketKind) (holds : List HeldAmount) (t : ℕ) (f : BucketRow → ℕ)
    (rows : List BucketRow) →
    held_sum kind holds (map (λ b. with_end t (with_release t b (f b))) rows)
    ≡ held_sum kind holds rows
held_sum-later kind holds t f [] = refl
held_sum-later kind holds t f (b ∷ bs) =
    sum_in-cons kind (held_in holds) (with_end t (with_release t b (f b)))
    (map (λ x. with_end t (with_release t x (f x))) bs)
    ∙ (λ i. (if is_alike (later_kind t (f b) b i) kind then same i else 0)
    + held_sum-later kind holds t f bs i)
    ∙ sym (sum_in-cons kind (held_in holds) b bs)
  where
    same : held_in holds (with_end t (with_release t b (f b))) ≡ held_in holds b
    same =
        held_in-sum_at holds (with_end t (with_release t b (f b)))
        ∙ ap (λ n. sum_at n holds) ((ends_keep t f).number b)
        ∙ sym (held_in-sum_at holds b)

-- the blocks that may cover a report stay too
coverable_later : (a : AccountRows) (s : List ℕ) (g t : ℕ) →
    is_live_in (validity_of a.shelf) t a.sessions s ≡ true →
    coverable_in s g t a ≡ coverable_in s g t (advanced t a)
coverable_later a s g t live_in = λ i. held i + allowed i
  where
    keeps : List ℕ → Bool
    keeps = is_live_in (validity_of a.shelf) t a.sessions

    now : t ≤ t
    now = omega arith

    held : held_sum Blocks (reserved_in s g a.groups) a.buckets
        ≡ held_sum Blocks (reserved_in s g (advanced t a).groups) (advanced t a).buckets
    held =
        sym (held_sum-later Blocks (reserved_in s g a.groups) t
        (lapsed_in keeps a.groups) a.buckets)
        ∙ (λ i. held_sum Blocks (sym (reserved_later keeps s g a.groups live_in) i)
        (advanced t a).buckets)

    allowed : allowance g t (advanced t a).buckets
        ≡ allowance g t (advanced t (advanced t a)).buckets
    allowed = ap (λ (x : AccountRows). allowance g t x.buckets) (sym (advanced_twice a t t now))

-- the price by the rows stays as time goes on to a moment at which the session is live
pub price_later : (a : AccountRows) (s : List ℕ) (g t : ℕ) (used_parts : List UsedPart) →
    is_live_in (validity_of a.shelf) t a.sessions s ≡ true →
    price_in s g t used_parts a ≡ price_in s g t used_parts (advanced t a)
price_later a s g t used_parts live_in =
    let keeps : List ℕ → Bool = is_live_in (validity_of a.shelf) t a.sessions in
    λ i. price_of a.shelf t g (sym (periods_later keeps s g a.groups live_in) i)
    (sym (used_later keeps s g a.groups) i) (count_in g (cycle_at a.shelf g t) a.counters)
    (coverable_later a s g t live_in i) used_parts

-- it is the price by the ledger
-- rule: report-book, report-period, covered
pub price_is : (ledger : Ledger) (a : AccountRows) (s : List ℕ) (g t : ℕ)
    (used_parts : List UsedPart) → IsAccount a → IsRowsOf ledger a → a.as_of ≤ t →
    is_live_in (validity_of a.shelf) t a.sessions s ≡ true →
    price_in s g t used_parts a ≡ report_price a.shelf t s g used_parts ledger
price_is ledger a s g t used_parts account rows le live_in =
    let live : is_live (validity_of a.shelf) t ledger s ≡ true =
    sym (is_live_in-is ledger a t s rows le) ∙ live_in in
    price_later a s g t used_parts live_in
    ∙ price_in_is ledger (advanced t a) s g used_parts (IsAccount-advanced a t account)
    (IsRowsOf-advanced ledger a t account rows le) live

pub passes_after_is : (charges : ℕ) (ledger : Ledger) (a : AccountRows) (s : List ℕ) (g t : ℕ)
    (used_parts : List UsedPart) → IsAccount a → IsRowsOf ledger a → a.as_of ≤ t →
    is_live_in (validity_of a.shelf) t a.sessions s ≡ true → (used_parts ≡ [] → ⊥) →
    passes_after charges a.shelf t s g used_parts ledger
    ≡ passes (used_in s g a.groups) (reported used_parts)
    (count_in g (cycle_at a.shelf g t) a.counters) (price_in s g t used_parts a).blocks
    (a.next_charge + charges)
passes_after_is charges ledger a s g t [] account rows le live some = absurd (some refl)
passes_after_is charges ledger a s g t (p ∷ ps) account rows le live some =
    λ i. passes (sym (used_in_is ledger a s g rows) i) (reported (p ∷ ps))
    (sym (count_in_is ledger a g (cycle_at a.shelf g t) rows) i)
    (sym (price_is ledger a s g t (p ∷ ps) account rows le live) i).blocks
    (sym rows.next_charge i + charges)

-- rule: stored-limits
pub passes_is : (ledger : Ledger) (a : AccountRows) (s : List ℕ) (g t : ℕ)
    (used_parts : List UsedPart) → IsAccount a → IsRowsOf ledger a → a.as_of ≤ t →
    is_live_in (validity_of a.shelf) t a.sessions s ≡ true → (used_parts ≡ [] → ⊥) →
    passes_limit a.shelf t s g used_parts ledger
    ≡ passes (used_in s g a.groups) (reported used_parts)
    (count_in g (cycle_at a.shelf g t) a.counters) (price_in s g t used_parts a).blocks
    a.next_charge
passes_is ledger a s g t used_parts account rows le live some =
    let next : a.next_charge + 0 ≡ a.next_charge = omega arith in
    sym (passes_after-none a.shelf t s g used_parts ledger)
    ∙ passes_after_is 0 ledger a s g t used_parts account rows le live some
    ∙ ap (passes (used_in s g a.groups) (reported used_parts)
    (count_in g (cycle_at a.shelf g t) a.counters) (price_in s g t used_parts a).blocks) next

-- ---- a report with parts

pub there_later : (a middle : AccountRows) (s : List ℕ) (g c t : ℕ) →
    middle ≡ advanced t (with_rows s g c a) → is_some (group_in s g middle.groups) ≡ true
there_later a middle s g c t m =
    ap (λ x. is_some (group_in s g x.groups)) m
    ∙ ap is_some (group_later (is_live_in (validity_of a.shelf) t a.sessions) s g a.groups)

pub counter_there : (a middle : AccountRows) (s : List ℕ) (g c t : ℕ) →
    middle ≡ advanced t (with_rows s g c a) → is_some (counter_in g c middle.counters) ≡ true
counter_there a middle s g c t m =
    ap (λ x. is_some (counter_in g c x.counters)) m
    ∙ ap is_some
    (find-put counter_before (is_counter g c) (counter_or_new g c a.counters) a.counters
    (or_new_cycle g c a.counters))

pub used_middle : (a middle : AccountRows) (s : List ℕ) (g c t : ℕ) →
    middle ≡ advanced t (with_rows s g c a) → used_in s g middle.groups ≡ used_in s g a.groups
used_middle a middle s g c t m =
    let keeps : List ℕ → Bool = is_live_in (validity_of a.shelf) t a.sessions in
    ap (λ x. used_in s g x.groups) m
    ∙ ap (λ (r : SessionGroup). r.used) (or_new_later keeps s g a.groups)
    ∙ used_later keeps s g a.groups

pub count_middle : (a middle : AccountRows) (s : List ℕ) (g c t : ℕ) →
    middle ≡ advanced t (with_rows s g c a) → count_in g c middle.counters ≡ count_in g c a.counters
count_middle a middle s g c t m = ap (λ x. count_in g c x.counters) m ∙ count_later g c a.counters

pub with_parts : (a : AccountRows) (s : List ℕ) (g : ℕ) (used_parts : List UsedPart) →
    (used_parts ≡ [] → ⊥) →
    settled_account s g (reported used_parts) (price_in s g a.as_of used_parts a).blocks
    (due_of (price_in s g a.as_of used_parts a)) a ≡ settled_by_rows s g used_parts a
with_parts a s g [] some = absurd (some refl)
with_parts a s g (p ∷ ps) some = refl

-- the rows as the call leaves them
pub settled_is : (a middle after : AccountRows) (s : List ℕ) (g c t units blocks : ℕ) (due : Due)
    (used_parts : List UsedPart) →
    is_live_in (validity_of a.shelf) t a.sessions s ≡ true → (used_parts ≡ [] → ⊥) →
    c ≡ cycle_at a.shelf g t →
    units ≡ reported used_parts → blocks ≡ (price_in s g t used_parts a).blocks →
    due ≡ due_of (price_in s g t used_parts a) →
    middle ≡ advanced t (with_rows s g c a) →
    after ≡ settled_account s g units blocks due middle →
    after ≡ settled_by_rows s g used_parts (advanced t a)
settled_is a middle after s g c t units blocks due used_parts live_in some k u b r m e =
    let cost : price_in s g t used_parts a ≡ price_in s g t used_parts (advanced t a) =
    price_later a s g t used_parts live_in in
    e ∙ ap (settled_account s g units blocks due) (m ∙ (λ i. advanced t (with_rows s g (k i) a)))
    ∙ settled_later a s g t units blocks due
    ∙ (λ i. settled_account s g (u i) ((b ∙ ap (λ (x : Rated). x.blocks) cost) i)
    ((r ∙ ap due_of cost) i) (advanced t a))
    ∙ with_parts (advanced t a) s g used_parts some

pub ended_is : (a middle after : AccountRows) (s : List ℕ) (g t : ℕ) (used_parts : List UsedPart) →
    used_parts ≡ [] → middle ≡ advanced t a → after ≡ ended_rows s g middle →
    after ≡ settled_by_rows s g used_parts (advanced t a)
ended_is a middle after s g t used_parts empty m e =
    e ∙ ap (ended_rows s g) m ∙ ap (λ ps. settled_by_rows s g ps (advanced t a)) (sym empty)

-- what the call answers, by the account's rows before it and as it finds them at the moment
pub record IsTold (a middle : AccountRows) (s : List ℕ) (g c t : ℕ) (used_parts : List UsedPart)
    (x : Settled) : Type 0 where
  pub blocks_are : x.blocks.0 ≡ (price_in s g t used_parts a).blocks
  pub covered_is : x.covered.0 ≡ (price_in s g t used_parts a).covered.0
  pub rated_is : x.rated.0 ≡ (price_in s g t used_parts a).amount.0
  pub brought : middle ≡ advanced t (with_rows s g c a)
  pub missing : x.uncollected.0
      ≡ uncollected (reserved_in s g middle.groups) g middle.as_of x.rated.0 middle.buckets

-- rows without facts hold nothing
held_later : (a : AccountRows) (s : List ℕ) (g c t : ℕ) →
    reserved_in s g (advanced t (with_rows s g c a)).groups ≡ reserved_in s g (advanced t a).groups
held_later a s g c t =
    ap (λ (y : SessionGroup). holds_in y.reservation)
    (or_new_later (is_live_in (validity_of a.shelf) t a.sessions) s g a.groups)

pub answer_is : (a middle : AccountRows) (s : List ℕ) (g c t : ℕ) (used_parts : List UsedPart)
    (x : Settled) → IsTold a middle s g c t used_parts x →
    IsAnswered (price_in s g t used_parts a) (missing_in s g t used_parts a) x
answer_is a middle s g c t used_parts x told = record {
  blocks = told.blocks_are;
  covered = told.covered_is;
  rated = told.rated_is;
  uncollected =
      told.missing
      ∙ (λ i. uncollected (reserved_in s g (told.brought i).groups) g (told.brought i).as_of
      (told.rated_is i) (told.brought i).buckets)
      ∙ (λ i. uncollected (held_later a s g c t i) g t (price_in s g t used_parts a).amount.0
      (buckets_later a s g c t i));
}

-- ---- the answer by the ledger

missing_is : (ledger : Ledger) (a : AccountRows) (s : List ℕ) (g t : ℕ)
    (used_parts : List UsedPart) → IsAccount a → IsRowsOf ledger a → a.as_of ≤ t →
    is_live_in (validity_of a.shelf) t a.sessions s ≡ true →
    missing_in s g t used_parts a ≡ missing a.shelf t s g used_parts ledger
missing_is ledger a s g t used_parts account rows le live_in =
    let live : is_live (validity_of a.shelf) t ledger s ≡ true =
    sym (is_live_in-is ledger a t s rows le) ∙ live_in in
    let later : AccountRows = advanced t a in
    let account' : IsAccount later = IsAccount-advanced a t account in
    let rows' : IsRowsOf ledger later = IsRowsOf-advanced ledger a t account rows le in
    let held : reserved_in s g later.groups ≡ holds_at (validity_of a.shelf) t s g ledger =
    reserved_in_is ledger later s g account' rows' live in
    let cost : price_in s g t used_parts a ≡ report_price a.shelf t s g used_parts ledger =
    price_is ledger a s g t used_parts account rows le live_in in
    λ i. uncollected (held i) g t (cost i).amount.0 (rows'.buckets i)

pub settlement_is : (ledger : Ledger) (a : AccountRows) (s : List ℕ) (g t : ℕ)
    (used_parts : List UsedPart) (x : Settled) →
    IsAccount a → IsRowsOf ledger a → a.as_of ≤ t →
    is_live_in (validity_of a.shelf) t a.sessions s ≡ true →
    IsAnswered (price_in s g t used_parts a) (missing_in s g t used_parts a) x →
    IsSettlementOf a.shelf t s g used_parts ledger x
settlement_is ledger a s g t used_parts x account rows le live_in told =
    subst (λ n. IsAnswered (report_price a.shelf t s g used_parts ledger) n x)
    (missing_is ledger a s g t used_parts account rows le live_in)
    (subst (λ y. IsAnswered y (missing_in s g t used_parts a) x)
    (price_is ledger a s g t used_parts account rows le live_in) told)
