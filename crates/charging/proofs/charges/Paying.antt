-- Each use in a ledger is paid, or nothing is left that could pay it.
use Rattle.std.proofs.Common.{◌≡◌, ℕ, ◌+◌, ◌≤◌, ◌<◌, List, [], ◌∷◌, ◌++◌, Bool}
use Rattle.std.proofs.Common.{true, false, true≢false, refl, sym, ap, subst, ◌∙◌}
use Rattle.std.proofs.Common.{arith, Option, Some, None}
use Rattle.std.specs.Prelude.{if◌then◌else◌, is_some}
use Rattle.std.proofs.lemmas.Bool.{leb-true}
use Rattle.rating.specs.declared.report.Rated.{Rated}
use Rattle.units.specs.declared.blocks.UsedPart.{UsedPart}
use Rattle.shelves.specs.Shelves.{Shelf}
use Rattle.buckets.specs.declared.holds.HeldAmount.{HeldAmount}
use Rattle.buckets.specs.declared.kind.BucketKind.{BucketKind}
use Rattle.buckets.specs.declared.kind.BucketKind.TheVariants.{Money, Blocks}
use Rattle.buckets.specs.declared.kind.Due.{Due}
use Rattle.buckets.specs.Kinds.{due_in}
use Rattle.buckets.specs.Row.{BucketRow, eligible_amount}
use Rattle.buckets.specs.Share.{parts, sum_in}
use Rattle.buckets.specs.Spend.{IsInOrder, funds}
use Rattle.buckets.specs.Holding.{paid, uncollected, holds_of, held_sum}
use Rattle.buckets.proofs.Short.{spent_all}
use Rattle.ledger.specs.Ledger.{Fact, Ledger, Recording, or_else, is_same, last_touch}
use Rattle.ledger.specs.Ledger.{last_recording, next_bucket, UseOf, counts}
use Rattle.ledger.specs.Parts.{recorded_at, touched_at}
use Rattle.ledger.specs.Ledger.Fact.{Touch, Recorded}
use Rattle.ledger.specs.Balance.{credits, buckets_at, holds_at}
use Rattle.ledger.specs.Requests.{touched, credited}
use Rattle.ledger.specs.Settlement.{charge_facts, reported, report_price, settled, settled_by}
use Rattle.ledger.specs.Settlement.{due_of, use_of}
use Rattle.ledger.specs.Reservation.{hold_facts, reserved}
use Rattle.ledger.specs.Debiting.{rest_price, is_covered, debited}
use Rattle.reserving.proofs.Lists.{no_some}
use Rattle.charging.specs.Paid.{Report, before_charges, taken, is_touched, IsReport, IsEvent}
use Rattle.charging.specs.Paid.{ArePaid, IsPaidUse, is_charge}
use Rattle.charging.specs.PaidParts.{without_last, with_report, reports_without, taken_by}
use Rattle.ledger.specs.Pricing.{validity_of}
use Rattle.charging.proofs.steps.Steps.{is_quiet, is_touch, untouched, with_grant, Keeps}
use Rattle.charging.proofs.steps.Credited.{AreCredited, no_credits, more_credits, SameCredits}
use Rattle.charging.proofs.steps.Credited.{same_credits, quiet_credits, charge_credits}
use Rattle.charging.proofs.steps.Credited.{hold_credits, in_order}
use Rattle.charging.proofs.charges.Taking.{taken_parts}
use Rattle.charging.proofs.charges.Coverable.{money_paid, blocks_paid, report_covers}
use Rattle.charging.proofs.charges.Coverable.{report_covers_all, event_covers}
use Rattle.reserving.proofs.Counted.{IsQuiet, quiet, rest_none, has_none}

-- ---- charges in front

pub before_charges-charges : (t : ℕ) (hs : List HeldAmount) (ledger : Ledger) →
    before_charges ledger ≡ ledger → before_charges (charge_facts t hs ++ ledger) ≡ ledger
before_charges-charges t [] ledger begins = begins
before_charges-charges t (h ∷ hs) ledger begins = before_charges-charges t hs ledger begins

ArePaid-charges : (b : Shelf) (t : ℕ) (hs : List HeldAmount) (reports : List Report)
    (ledger : Ledger) →
    ArePaid b reports ledger → ArePaid b reports (charge_facts t hs ++ ledger)
ArePaid-charges b t [] reports ledger h = h
ArePaid-charges b t (x ∷ xs) reports ledger h = (tt, ArePaid-charges b t xs reports ledger h)

ArePaid-holds : (b : Shelf) (t : ℕ) (s : List ℕ) (g : ℕ) (hs : List HeldAmount)
    (reports : List Report)
    (ledger : Ledger) → ArePaid b reports ledger → ArePaid b reports (hold_facts t s g hs ++ ledger)
ArePaid-holds b t s g [] reports ledger h = h
ArePaid-holds b t s g (x ∷ xs) reports ledger h = (tt, ArePaid-holds b t s g xs reports ledger h)

-- ---- what isn't recorded wasn't touched

abbrev pub TouchesAreRecorded : Ledger → Type 0
TouchesAreRecorded ledger =
    (s : List ℕ) → last_recording s ledger ≡ None → last_touch s ledger ≡ None

pub touches-touched : (t : ℕ) (s : List ℕ) (n : ℕ) (ledger : Ledger) → TouchesAreRecorded ledger →
    TouchesAreRecorded (touched t s n ledger)
touches-touched t s n ledger h other = at (is_same s other)
  where
    own : Recording
    own = record { number = n; at = t }

    at : (v : Bool) → or_else (if v then Some own else None) (last_recording other ledger) ≡ None →
        or_else (if v then Some t else None) (last_touch other ledger) ≡ None
    at true e = absurd (no_some own (sym e))
    at false e = h other e

touches-charges : (t : ℕ) (hs : List HeldAmount) (ledger : Ledger) → TouchesAreRecorded ledger →
    TouchesAreRecorded (charge_facts t hs ++ ledger)
touches-charges t [] ledger h = h
touches-charges t (x ∷ xs) ledger h = touches-charges t xs ledger h

touches-holds : (t : ℕ) (s : List ℕ) (g : ℕ) (hs : List HeldAmount) (ledger : Ledger) →
    TouchesAreRecorded ledger → TouchesAreRecorded (hold_facts t s g hs ++ ledger)
touches-holds t s g [] ledger h = h
touches-holds t s g (x ∷ xs) ledger h = touches-holds t s g xs ledger h

-- ---- what each ledger of an account keeps

-- its buckets are in order, its newest fact is no charge, what isn't recorded wasn't touched, and
-- its uses are paid
pub record IsPaying (b : Shelf) (reports : List Report) (ledger : Ledger) : Type 0 where
  pub credits : AreCredited (credits ledger) (next_bucket ledger)
  pub begins : before_charges ledger ≡ ledger
  pub nothing : (k : BucketKind) → taken k ledger ≡ 0
  pub recorded : TouchesAreRecorded ledger
  pub paid : ArePaid b reports ledger

paying_quiet : (b : Shelf) (t : ℕ) (f : Fact) (reports : List Report) (ledger : Ledger) →
    is_quiet f ≡ true → is_touch f ≡ false → IsPaying b reports ledger →
    IsPaying b reports (record { at = t; fact = f } ∷ ledger)
paying_quiet b t f reports ledger q n h =
    let none : IsQuiet (counts f) = quiet f q in
    let no_charge : is_charge f ≡ false = ap is_some none.charge in
    record {
      credits = same_credits _ ledger (quiet_credits t f ledger q) h.credits;
      begins = ap (λ (c : Bool). if c then before_charges ledger
          else record { at = t; fact = f } ∷ ledger) no_charge;
      nothing = λ k. ap (λ (c : Bool). if c then taken_by k f ledger + taken k ledger else 0)
          no_charge;
      recorded = λ other e.
          (λ i. or_else (touched_at other t (untouched f n i)) (last_touch other ledger))
          ∙ h.recorded other
          (rest_none (recorded_at other t (counts f).request) (last_recording other ledger) e);
      paid = (
        has_none (λ u. IsPaidUse b reports t u ledger) (counts f).usage none.usage,
        subst (λ (o : Option UseOf). ArePaid b (reports_without o ledger reports) ledger)
            (sym none.usage) h.paid,
      );
    }

paying_touch : (b : Shelf) (t : ℕ) (s : List ℕ) (n : ℕ) (reports : List Report) (ledger : Ledger) →
    IsPaying b reports ledger → IsPaying b reports (touched t s n ledger)
paying_touch b t s n reports ledger h = record {
  credits = same_credits _ (record { at = t; fact = Touch s } ∷ ledger)
      (quiet_credits t (Recorded s n) (record { at = t; fact = Touch s } ∷ ledger) refl)
      (same_credits _ ledger (quiet_credits t (Touch s) ledger refl) h.credits);
  begins = refl;
  nothing = λ k. refl;
  recorded = touches-touched t s n ledger h.recorded;
  paid = (tt, (tt, h.paid));
}

paying_credit : (b : Shelf) (t : ℕ) (kind : BucketKind) (from until : ℕ) (scope : Option ℕ)
    (amount : ℕ) (reports : List Report) (ledger : Ledger) → IsPaying b reports ledger →
    IsPaying b reports (credited t kind from until scope amount ledger)
paying_credit b t kind from until scope amount reports ledger h =
    record {
      credits = more_credits t kind from until scope amount ledger h.credits;
      begins = refl;
      nothing = λ k. refl;
      recorded = h.recorded;
      paid = (tt, h.paid);
    }

-- what buckets pay of a report
abbrev pub paid_parts : Shelf → ℕ → List ℕ → ℕ → List UsedPart → Ledger → List HeldAmount
paid_parts b t s g used_parts ledger =
    parts (paid (holds_at (validity_of b) t s g ledger) g t
    (due_of (report_price b t s g used_parts ledger)) (buckets_at (validity_of b) t ledger))
    (buckets_at (validity_of b) t ledger)

-- what a report's charges collect and what isn't collected are its price, and what they take of
-- allowances are its covered blocks
settled_is_paid : (b : Shelf) (t : ℕ) (s : List ℕ) (g : ℕ) (p : UsedPart) (ps : List UsedPart)
    (reports : List Report) (ledger : Ledger) → is_touched s ledger ≡ true →
    IsPaying b reports ledger →
    ArePaid b (with_report t s g (p ∷ ps) reports) (settled_by b t s g (p ∷ ps) ledger)
settled_is_paid b t s g p ps reports ledger touches h = (
  tt,
  (
    record {
      sum = omega (arith, takes Money, h.nothing Money, money_paid holds g t all rows order);
      allowed = omega (
        arith,
        takes Blocks,
        h.nothing Blocks,
        blocks_paid holds g t all rows order (report_covers b t s g (p ∷ ps) ledger),
      );
      report = λ e. subst (IsReport b own t use_made) (sym before) report;
      event = λ e. absurd (true≢false (sym is_touched_before ∙ e));
    },
    subst (λ v. ArePaid b (if v then reports else own ∷ reports) (charge_facts t hs ++ ledger))
        (sym is_touched_before) (ArePaid-charges b t hs reports ledger h.paid),
  ),
)
  where
    rows : List BucketRow
    rows = buckets_at (validity_of b) t ledger

    holds : List HeldAmount
    holds = holds_at (validity_of b) t s g ledger

    price : Rated
    price = report_price b t s g (p ∷ ps) ledger

    all : Due
    all = due_of price

    hs : List HeldAmount
    hs = paid_parts b t s g (p ∷ ps) ledger

    takes : (k : BucketKind) → taken k (charge_facts t hs ++ ledger)
        ≡ sum_in k (paid holds g t all rows) rows + taken k ledger
    takes k = taken_parts k (paid holds g t all rows) (validity_of b) t ledger h.credits

    order : IsInOrder rows
    order = in_order (validity_of b) t ledger h.credits

    reaches : 0 < uncollected holds g t all.money rows → (k : BucketKind) →
        held_sum k holds rows + sum_in k (eligible_amount g t) rows ≤ due_in k all
    reaches less Money = omega (arith, less)
    reaches less Blocks = report_covers_all b t s g (p ∷ ps) ledger (omega (arith, less))

    own : Report
    own = record { at = t; session = s; group = g; parts = p ∷ ps }

    before : before_charges (charge_facts t hs ++ ledger) ≡ ledger
    before = before_charges-charges t hs ledger h.begins

    is_touched_before : is_touched s (before_charges (charge_facts t hs ++ ledger)) ≡ true
    is_touched_before = ap (is_touched s) before ∙ touches

    use_made : UseOf
    use_made = use_of s g (reported (p ∷ ps)) price.blocks all
        (uncollected holds g t all.money rows)

    report : IsReport b own t use_made ledger
    report = record {
      moment = refl;
      is = refl;
      short = λ less x among. spent_all holds g t all rows x among (reaches less x.kind);
    }

-- a settlement makes no bucket
settled_credits : (v : ℕ → ℕ) (t : ℕ) (s : List ℕ) (g units blocks : ℕ) (due : Due)
    (ledger : Ledger) → SameCredits (settled v t s g units blocks due ledger) ledger
settled_credits v t s g units blocks due ledger =
    let same : SameCredits (charge_facts t
    (parts (paid (holds_at v t s g ledger) g t due (buckets_at v t ledger))
    (buckets_at v t ledger)) ++ ledger) ledger =
    charge_credits t (parts (paid (holds_at v t s g ledger) g t due (buckets_at v t ledger))
    (buckets_at v t ledger)) ledger in
    record { rows = same.rows; next = omega (arith, same.next) }

paying_settle : (b : Shelf) (t : ℕ) (s : List ℕ) (g : ℕ) (used_parts : List UsedPart)
    (reports : List Report) (ledger : Ledger) → is_touched s ledger ≡ true →
    IsPaying b reports ledger →
    IsPaying b (with_report t s g used_parts reports) (settled_by b t s g used_parts ledger)
paying_settle b t s g [] reports ledger touches h = record {
  credits = same_credits (settled_by b t s g [] ledger) ledger
      (record { rows = refl; next = omega arith }) h.credits;
  begins = refl;
  nothing = λ k. refl;
  recorded = h.recorded;
  paid = (tt, h.paid);
}
paying_settle b t s g (p ∷ ps) reports ledger touches h = record {
  credits = same_credits (settled_by b t s g (p ∷ ps) ledger) ledger
      (settled_credits (validity_of b) t s g (reported (p ∷ ps))
      (report_price b t s g (p ∷ ps) ledger).blocks
      (due_of (report_price b t s g (p ∷ ps) ledger)) ledger) h.credits;
  begins = refl;
  nothing = λ k. refl;
  recorded = touches-charges t
      (paid_parts b t s g (p ∷ ps) ledger) ledger h.recorded;
  paid = settled_is_paid b t s g p ps reports ledger touches h;
}

-- ---- grants and debits

paying_holds : (b : Shelf) (t : ℕ) (s : List ℕ) (g : ℕ) (hs : List HeldAmount)
    (reports : List Report)
    (ledger : Ledger) → IsPaying b reports ledger →
    IsPaying b reports (hold_facts t s g hs ++ ledger)
paying_holds b t s g [] reports ledger h = h
paying_holds b t s g (x ∷ xs) reports ledger h = record {
  credits = same_credits (hold_facts t s g (x ∷ xs) ++ ledger) ledger
      (hold_credits t s g (x ∷ xs) ledger) h.credits;
  begins = refl;
  nothing = λ k. refl;
  recorded = touches-holds t s g (x ∷ xs) ledger h.recorded;
  paid = (tt, ArePaid-holds b t s g xs reports ledger h.paid);
}

paying_reserved : (b : Shelf) (t : ℕ) (s : List ℕ) (g units : ℕ) (due : Due)
    (reports : List Report) (ledger : Ledger) → IsPaying b reports ledger →
    IsPaying b reports (reserved b t s g units due ledger)
paying_reserved b t s g units due reports ledger h =
    paying_holds b t s g (holds_of g t due (buckets_at (validity_of b) t ledger)) reports
    (with_grant b t s g units ledger) (record {
      credits = same_credits (with_grant b t s g units ledger) ledger
          (record { rows = refl; next = omega arith }) h.credits;
      begins = refl;
      nothing = λ k. refl;
      recorded = h.recorded;
      paid = (tt, h.paid);
    })

pub paying_debit : (b : Shelf) (t : ℕ) (s : List ℕ) (g units : ℕ) (reports : List Report)
    (ledger : Ledger) → last_recording s ledger ≡ None → is_covered b t g units ledger ≡ true →
    IsPaying b reports ledger →
    IsPaying b reports (debited b t s g units ledger)
paying_debit b t s g units reports ledger new covered h = record {
  credits = same_credits (debited b t s g units ledger) ledger
      (record { rows = same.rows; next = omega (arith, same.next) }) h.credits;
  begins = refl;
  nothing = λ k. refl;
  recorded = touches-charges t hs ledger h.recorded;
  paid = (
    record {
      sum = omega (
        arith,
        takes Money,
        h.nothing Money,
        money_paid [] g t all rows order,
        within,
      );
      allowed = omega (
        arith,
        takes Blocks,
        h.nothing Blocks,
        blocks_paid [] g t all rows order (omega (arith, event_covers b t g units ledger)),
      );
      report = λ e. absurd (true≢false (sym e ∙ untouched));
      event = λ e. subst (IsEvent b t (use_of s g units price.blocks all 0)) (sym before) event;
    },
    subst (λ v. ArePaid b (if v then without_last reports else reports)
        (charge_facts t hs ++ ledger)) (sym untouched)
        (ArePaid-charges b t hs reports ledger h.paid),
  );
}
  where
    rows : List BucketRow
    rows = buckets_at (validity_of b) t ledger

    price : Rated
    price = rest_price b t g units ledger

    all : Due
    all = due_of price

    hs : List HeldAmount
    hs = parts (paid [] g t all rows) rows

    takes : (k : BucketKind) → taken k (charge_facts t hs ++ ledger)
        ≡ sum_in k (paid [] g t all rows) rows + taken k ledger
    takes k = taken_parts k (paid [] g t all rows) (validity_of b) t ledger h.credits

    order : IsInOrder rows
    order = in_order (validity_of b) t ledger h.credits

    same : SameCredits (charge_facts t hs ++ ledger) ledger
    same = charge_credits t hs ledger

    within : all.money ≤ funds g t rows
    within = leb-true all.money (funds g t rows) covered

    before : before_charges (charge_facts t hs ++ ledger) ≡ ledger
    before = before_charges-charges t hs ledger h.begins

    untouched : is_touched s (before_charges (charge_facts t hs ++ ledger)) ≡ false
    untouched = ap (is_touched s) before ∙ ap is_some (h.recorded s new)

    event : IsEvent b t (use_of s g units price.blocks all 0) ledger
    event = record {
      is = refl;
      funded = covered;
    }

pub paying_none : (b : Shelf) → IsPaying b [] []
paying_none b = record {
  credits = no_credits;
  begins = refl;
  nothing = λ k. refl;
  recorded = λ s e. refl;
  paid = refl;
}

-- rule: paid
pub keeps_paying : (b : Shelf) → Keeps b (IsPaying b)
keeps_paying b = record {
  quiet = λ t f reports ledger q n fits h. paying_quiet b t f reports ledger q n h;
  touch = paying_touch b;
  credit = paying_credit b;
  settle = paying_settle b;
  grant =
      λ t s g asked reports ledger recorded some h. paying_reserved b t s g _ _ reports ledger h;
  event = λ t s g units n reports ledger new covered h.
      paying_quiet b t (Recorded s n) reports _ refl refl
      (paying_debit b t s g units reports ledger new covered h);
}
