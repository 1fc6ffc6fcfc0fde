-- What the sessions of an account report, what each use in its ledger came from, and what paid for it
-- (RFC 8506 sections 5.3, 8.16 and 8.19; TS 32.296, account balance management function; TS 32.299,
-- session charging with unit reservation).
use Rattle.std.specs.Prelude.{◌≡◌, ◌+◌, ◌<◌, ◌==◌, Bool, true, false, List, [], ◌∷◌, is_some}
use Rattle.std.specs.Prelude.{if◌then◌else◌, Option, Some, None, IfSome, ◌≤◌}
use Rattle.units.specs.Words.{Moment, GroupId, UnitCount, Place}
use Rattle.identifiers.specs.Words.{SessionName, AccountName}
use Rattle.buckets.specs.Words.{BucketNumber, BucketAmount}
use Rattle.shelves.specs.Shelves.{Shelf, book_at}
use Rattle.buckets.specs.declared.kind.BucketKind.{BucketKind}
use Rattle.buckets.specs.declared.kind.BucketKind.TheVariants.{Money, Blocks}
use Rattle.buckets.specs.declared.kind.Due.{Due}
use Rattle.buckets.specs.Kinds.{is_alike, due}
use Rattle.buckets.specs.Row.{BucketRow, eligible_amount}
use Rattle.buckets.specs.Holding.{held_in, paid_of_hold, settled_row}
use Rattle.buckets.specs.Laws.{IsAmong}
use Rattle.ledger.specs.Ledger.{Fact, Ledger, UseOf, counts, number_of, test_of, last_touch, GrantOf}
use Rattle.ledger.specs.Ledger.{counter, tells, newest, inner}
use Rattle.ledger.specs.Balance.{credits, buckets_at, holds_at}
use Rattle.ledger.specs.Settlement.{use_of, reported, due_of, report_price, missing}
use Rattle.ledger.specs.Debiting.{rest_price, is_covered}
use Rattle.ledger.specs.Pricing.{validity_of, cycle_at}
use Rattle.buckets.specs.declared.kind.BucketKind.TheVariants as kind
use Rattle.charging.specs.Accepted.{about, Accepted, concerned_by, names}
use Rattle.charging.specs.Outcomes.{outcome}
use Rattle.charging.specs.Served.{history, standing}
use Rattle.commands.specs.declared.command.Command.{Command}
use Rattle.commands.specs.declared.request.Ask.{Ask}
use Rattle.commands.specs.declared.request.Ask.TheVariants as ask
use Rattle.commands.specs.declared.request.Request.{Request}
use Rattle.commands.specs.declared.service.Service.{Service}
use Rattle.decisions.specs.Services.{is_known, parts_of}
use Rattle.units.specs.declared.blocks.UsedPart.{UsedPart}

-- ---- what sessions report

-- a session's report of a rating group: its parts say which units were used before, on both sides
-- of and after a tariff switch
pub record Report : Type 0 where
  pub at : Moment
  pub session : SessionName
  pub group : GroupId
  pub parts : List UsedPart

-- of a request's services those report whose groups have a tariff, in the request's order; a group
-- that is named without a part is not reported
abbrev pub with_services : Shelf → Moment → SessionName → List Service → List Report → List Report
with_services b t s [] reports = reports
with_services b t s (x ∷ xs) reports =
    with_services b t s xs
    (if is_known (book_at b t) x.group then with_report (parts_of x.used) else reports)
  where
    with_report : List UsedPart → List Report
    with_report [] = reports
    with_report (p ∷ ps) =
        record { at = t; session = s; group = x.group; parts = p ∷ ps } ∷ reports

-- updates and terminations report
abbrev pub with_reports : Shelf → Moment → Command → List Report → List Report
with_reports b t c reports = with_request (about c).request
  where
    with_ask : SessionName → Ask → List Report
    with_ask s (ask.Update services) = with_services b t s services reports
    with_ask s (ask.Termination services) = with_services b t s services reports
    with_ask s _ = reports

    with_request : Option Request → List Report
    with_request (Some r) = with_ask r.session r.ask
    with_request None = reports

-- the reports of an account's sessions, the newest first
-- rule: paid
abbrev pub reports_of : Shelf → AccountName → List Accepted → List Report
reports_of b a [] = []
reports_of b a (d ∷ before) =
    if names a (concerned_by d.command)
    then (if (outcome b (standing b d.command before) (history b a before) d.command
    d.moment).accepted
    then with_reports b d.moment d.command (reports_of b a before)
    else reports_of b a before)
    else reports_of b a before

-- ---- the charges of a use are right before it

abbrev pub is_charge : Fact → Bool
is_charge f = is_some (counts f).charge

-- the ledger before them
abbrev pub before_charges : Ledger → Ledger
before_charges [] = []
before_charges (d ∷ older) = if is_charge d.fact then before_charges older else d ∷ older

-- what they take of the buckets of a kind, in its unit
-- rule: paid.taken
abbrev pub taken : BucketKind → Ledger → BucketAmount
taken kind [] = 0
taken kind (d ∷ older) =
    if is_charge d.fact then number_of
    (λ c. if test_of (λ k. is_alike k kind) (kind_in c.bucket (credits older))
    then c.amount else 0) (counts d.fact).charge + taken kind older else 0
  where
    kind_in : BucketNumber → List BucketRow → Option BucketKind
    kind_in n [] = None
    kind_in n (c ∷ cs) = if c.number == n then Some c.kind else kind_in n cs

-- ---- a report

-- something is uncollected only where all that the report's reservation held is paid, and no
-- eligible bucket has anything left: neither money nor blocks
-- rule: uncollected
abbrev pub IsSpent : Shelf → Moment → SessionName → GroupId → Due → Ledger → Type 0
IsSpent b t s g due before =
    (x : BucketRow) → IsAmong x (buckets_at (validity_of b) t before) →
    (paid_of_hold (holds_at (validity_of b) t s g before) due
    (buckets_at (validity_of b) t before) x ≡
    held_in (holds_at (validity_of b) t s g before) x)
    × (eligible_amount g t (settled_row (holds_at (validity_of b) t s g before) g t due
    (buckets_at (validity_of b) t before) x) ≡ 0)

-- the use that a report made: it has the price of the blocks that the report's parts started and no
-- allowance covered, each part in its period
-- rule: paid
pub record IsReport (b : Shelf) (r : Report) (t : Moment) (u : UseOf) (before : Ledger) : Type 0
  where
    pub moment : t ≡ r.at
    pub is : u ≡ use_of r.session r.group (reported r.parts)
        (report_price b t r.session r.group r.parts before).blocks
        (due_of (report_price b t r.session r.group r.parts before))
        (missing b t r.session r.group r.parts before)
    pub short : 0 < u.uncollected →
        IsSpent b t u.session u.group (due u.rated u.covered) before

-- the same of the last of some reports
abbrev pub IsLastReport : Shelf → List Report → Moment → UseOf → Ledger → Type 0
IsLastReport b [] t u before = ⊥
IsLastReport b (r ∷ older) t u before = IsReport b r t u before

-- a debit: the eligible buckets had the price of the blocks that it started and no allowance
-- covered, and all of it is collected
pub record IsEvent (b : Shelf) (t : Moment) (u : UseOf) (before : Ledger) : Type 0 where
  pub is : u ≡ use_of u.session u.group u.units (rest_price b t u.group u.units before).blocks
      (due_of (rest_price b t u.group u.units before)) 0
  pub funded : is_covered b t u.group u.units before ≡ true

-- ---- each use

-- only sessions are touched, and no event
abbrev pub is_touched : SessionName → Ledger → Bool
is_touched s ledger = is_some (last_touch s ledger)

-- what is collected and what isn't are the price, and allowances give just the blocks that are
-- covered: of the session's report where its session was touched, else of a debit
pub record IsPaidUse (b : Shelf) (reports : List Report) (t : Moment) (u : UseOf)
    (older : Ledger) : Type 0 where
  pub sum : taken Money older + u.uncollected ≡ u.rated
  pub allowed : taken Blocks older ≡ u.covered
  pub report : is_touched u.session (before_charges older) ≡ true →
      IsLastReport b reports t u (before_charges older)
  pub event : is_touched u.session (before_charges older) ≡ false →
      IsEvent b t u (before_charges older)

-- each use of a ledger is paid, and each of the reports made one of them, in their order
-- rule: paid: each use is that of a report or a debit, and was paid at its price
-- rule: paid.taken: allowances gave the covered blocks of a use, and money what was collected of
--   it
abbrev pub ArePaid : Shelf → List Report → Ledger → Type 0
ArePaid b reports [] = reports ≡ []
ArePaid b reports (d ∷ older) =
    IfSome (counts d.fact).usage (λ u. IsPaidUse b reports d.at u older)
    × ArePaid b (reports_without (counts d.fact).usage older reports) older
  where
    without_last : List Report → List Report
    without_last [] = []
    without_last (r ∷ older) = older

    -- the reports before a fact: without the last one where the fact is its use
    reports_without : Option UseOf → Ledger → List Report → List Report
    reports_without None older reports = reports
    reports_without (Some u) older reports =
        if is_touched u.session (before_charges older) then without_last reports else reports

-- ---- the quota guarantee

-- what a session was granted of a group, and from which place of the group's counter on
pub record OpenGrant : Type 0 where
  pub units : UnitCount
  pub counter : Place

-- the grant of a session's group that no later fact ended
-- rule: grant-terms.granted
abbrev pub grant_open : SessionName → GroupId → Ledger → Option OpenGrant
grant_open s g ledger = inner (newest (tells quota_by s g) ledger)
  where
    quota_by : GrantOf → OpenGrant
    quota_by x = record { units = x.units; counter = x.counter }

-- a use that ends a grant, has at most its units and starts at its counter is collected whole: what
-- the grant held of allowances and of money pays for it
abbrev pub IsWithinGrant : Shelf → Moment → UseOf → Ledger → Type 0
IsWithinGrant b t u before =
    (x : OpenGrant) → grant_open u.session u.group before ≡ Some x → u.units ≤ x.units →
    counter (cycle_at b u.group) u.group (cycle_at b u.group t) before ≡ x.counter →
    u.uncollected ≡ 0

-- so each use of a ledger, whatever came between
-- rule: quota.quotas-paid: a report within its grant is collected whole
abbrev pub AreQuotasPaid : Shelf → Ledger → Type 0
AreQuotasPaid b [] = Unit {0}
AreQuotasPaid b (d ∷ older) =
    IfSome (counts d.fact).usage (λ u. IsWithinGrant b d.at u (before_charges older))
    × AreQuotasPaid b older
