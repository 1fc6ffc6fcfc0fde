-- The ledger of an account: a list of dated facts, the newest first. It only grows, at its front,
-- and every balance is a sum over it (TS 32.296, account balance management function).
use Rattle.std.specs.Prelude.{ℕ, ◌+◌, ◌*◌, Bool, false, not, ◌==◌, ◌&&◌, ◌||◌, nat_lt, nat_eq}
use Rattle.std.specs.Prelude.{if◌then◌else◌, List, [], ◌∷◌, Option, Some, None, unwrap_or}
use Rattle.std.specs.Prelude.{option_map, option_and_then}
use Rattle.std.specs.Cmp.Lexicographic.{pointwise}
use Rattle.units.specs.Words.{Moment, Seconds, Micros, UnitCount, BlockCount, Place, GroupId}
use Rattle.units.specs.Words.{CycleNumber, CcRequestNumber}
use Rattle.identifiers.specs.Words.{SessionName}
use Rattle.buckets.specs.Words.{BucketNumber, BucketAmount}
use Rattle.ledger.specs.Words.{ChargeNumber}
use Rattle.ledger.specs.declared.terms.Terms.{Terms}
use Rattle.buckets.specs.declared.kind.BucketKind.{BucketKind}

-- ---- what facts carry

-- a bucket of a kind, valid from a moment to another, for all groups or for one
pub record CreditOf : Type 0 where
  pub kind : BucketKind
  pub number : BucketNumber
  pub from : Moment
  pub until : Moment
  pub scope : Option GroupId
  pub amount : BucketAmount

-- units of a session's group, priced by the book at the grant in the tariff periods at the grant
-- and at the switch within its validity, from this place of the group's counter on
pub record GrantOf : Type 0 where
  pub session : SessionName
  pub group : GroupId
  pub terms : Terms
  pub units : UnitCount
  -- rule: counters: the counter of a group
  -- rule: use-counts
  pub counter : Place

-- what is held of a bucket for a session's group, in the bucket's unit
pub record HoldOf : Type 0 where
  pub session : SessionName
  pub group : GroupId
  pub bucket : BucketNumber
  pub amount : BucketAmount

-- a session's group that is over
pub record EndOf : Type 0 where
  pub session : SessionName
  pub group : GroupId

-- units that are reported: they start blocks, of which allowances cover some, and the others are
-- rated
pub record UseOf : Type 0 where
  pub session : SessionName
  pub group : GroupId
  pub units : UnitCount
  pub blocks : BlockCount
  pub covered : BlockCount
  pub rated : Micros
  pub uncollected : Micros

-- what a bucket pays, in its unit
pub record ChargeOf : Type 0 where
  pub bucket : BucketNumber
  pub amount : BucketAmount

-- a request of a session, under its number
pub record RequestOf : Type 0 where
  pub session : SessionName
  pub number : CcRequestNumber

-- Credit: a bucket is made. Grant, Hold and End: a session gets units of a rating group; what is
-- held for it of each bucket; it is over. Use and Charge: units are reported; what each bucket
-- pays. Touch and Close: a request of the session is accepted; the session ends. Recorded: a
-- request of the session is kept under its number. Barred: the account is barred, or no longer.
pub data Fact : Type 0 where
  Credit : (credit : CreditOf) → Fact
  Grant : (grant : GrantOf) → Fact
  Hold : (hold : HoldOf) → Fact
  End : (session : SessionName) (group : GroupId) → Fact
  Use : (usage : UseOf) → Fact
  Charge : (bucket : BucketNumber) (amount : BucketAmount) → Fact
  Touch : (session : SessionName) → Fact
  Close : (session : SessionName) → Fact
  Recorded : (session : SessionName) (number : CcRequestNumber) → Fact
  Barred : (barred : Bool) → Fact

-- What a fact counts, each kind apart. All else that is known of a fact is read from here, so a
-- fact more is a constructor and a line of `counts`.
pub record Counts : Type 0 where
  pub credit : Option CreditOf
  pub grant : Option GrantOf
  pub hold : Option HoldOf
  pub end : Option EndOf
  pub usage : Option UseOf
  pub charge : Option ChargeOf
  pub touch : Option SessionName
  pub close : Option SessionName
  pub request : Option RequestOf
  pub bar : Option Bool

abbrev pub nothing : Counts
nothing = record {
  credit = None;
  grant = None;
  hold = None;
  end = None;
  usage = None;
  charge = None;
  touch = None;
  close = None;
  request = None;
  bar = None;
}

abbrev pub counts : Fact → Counts
counts (Credit credit) = record nothing { credit = Some credit }
counts (Grant grant) = record nothing { grant = Some grant }
counts (Hold hold) = record nothing { hold = Some hold }
counts (End session group) =
    record nothing { end = Some (record { session = session; group = group }) }
counts (Use usage) = record nothing { usage = Some usage }
counts (Charge bucket amount) =
    record nothing { charge = Some (record { bucket = bucket; amount = amount }) }
counts (Touch session) = record nothing { touch = Some session }
counts (Close session) = record nothing { close = Some session }
counts (Recorded session number) =
    record nothing { request = Some (record { session = session; number = number }) }
counts (Barred barred) = record nothing { bar = Some barred }

pub record Dated : Type 0 where
  pub at : Moment
  pub fact : Fact

abbrev pub Ledger : Type 0
Ledger = List Dated

-- names of sessions are compared byte by byte
abbrev pub is_same : SessionName → SessionName → Bool
is_same a b = pointwise nat_eq a b

-- ---- reading a ledger: sums, and the newest fact of a kind

abbrev pub total : (Dated → ℕ) → Ledger → ℕ
total f [] = 0
total f (d ∷ older) = f d + total f older

abbrev pub or_else : {A : Type 0} → Option A → Option A → Option A
or_else (Some x) other = Some x
or_else None other = other

abbrev pub newest : {A : Type 0} → (Dated → Option A) → Ledger → Option A
newest f [] = None
newest f (d ∷ older) = or_else (f d) (newest f older)

abbrev pub any : (Dated → Bool) → Ledger → Bool
any p [] = false
any p (d ∷ older) = p d || any p older

-- ---- reading what a fact counts

-- a number of it, which is 0 where there is none
abbrev pub number_of : {A : Type 0} → (A → ℕ) → Option A → ℕ
number_of f None = 0
number_of f (Some x) = f x

-- a test of it, which none passes
abbrev pub test_of : {A : Type 0} → (A → Bool) → Option A → Bool
test_of p None = false
test_of p (Some x) = p x

-- one of two tests, where there are both
abbrev pub either : Option Bool → Option Bool → Bool
either None None = false
either (Some a) None = a
either None (Some b) = b
either (Some a) (Some b) = a || b

-- the sum of a number of all that facts count of a kind
abbrev pub sum_of : {A : Type 0} → (Counts → Option A) → (A → ℕ) → Ledger → ℕ
sum_of what f ledger = total (λ d. number_of f (what (counts d.fact))) ledger

-- ---- the account itself

-- whether the account is barred: its last bar decides
-- rule: barred
abbrev pub is_barred : Ledger → Bool
is_barred ledger = unwrap_or (newest (λ d. (counts d.fact).bar) ledger) false

-- ---- buckets

-- all charges to a bucket
abbrev pub charged : BucketNumber → Ledger → BucketAmount
charged n ledger = sum_of (λ c. c.charge) (λ x. if x.bucket == n then x.amount else 0) ledger

-- the number of the next bucket
abbrev pub next_bucket : Ledger → BucketNumber
next_bucket ledger = sum_of (λ c. c.credit) (λ x. 1) ledger + 1

-- ---- use

-- the number of the next charge row: each use is one
abbrev pub next_charge : Ledger → ChargeNumber
next_charge ledger = sum_of (λ c. c.usage) (λ u. 1) ledger + 1

-- of a group in a cycle, whose number at a moment this is
module _ (cycle_at : Moment → CycleNumber) (group : GroupId) (cycle : CycleNumber) where
  -- the account's counter: the blocks of the uses whose moments lie in the cycle
  abbrev pub counter : Ledger → Place
  counter ledger = total (λ d. if cycle_at d.at == cycle
      then number_of (λ u. if u.group == group then u.blocks else 0) (counts d.fact).usage else 0)
      ledger

  -- the account has a use of the group in the cycle
  abbrev pub has_counter : Ledger → Bool
  has_counter ledger = any (λ d. test_of (λ u. u.group == group && cycle_at d.at == cycle)
      (counts d.fact).usage) ledger

-- ---- sessions

pub record Recording : Type 0 where
  pub number : CcRequestNumber
  pub at : Moment

module _ (session : SessionName) where
  -- the moment of a session's last touch
  abbrev pub last_touch : Ledger → Option Moment
  last_touch ledger = newest (λ d. option_and_then
      (λ x. if is_same x session then Some d.at else None) (counts d.fact).touch) ledger

  abbrev pub is_closed : Ledger → Bool
  is_closed ledger = any (λ d. test_of (λ x. is_same x session) (counts d.fact).close) ledger

  -- a session's last accepted request
  abbrev pub last_recording : Ledger → Option Recording
  last_recording ledger = newest (λ d. option_and_then (λ r. if is_same r.session session
      then Some (record { number = r.number; at = d.at }) else None) (counts d.fact).request) ledger

-- a live session: it has a touch, wasn't closed, and its supervision time, two validity times after
-- its last touch, is not over (profile, in the place of the session supervision timer Tcc of RFC
-- 8506 section 13)
-- rule: session-live: when a session is live
abbrev pub is_live : (Moment → Seconds) → Moment → Ledger → SessionName → Bool
is_live v t ledger s = is_within (last_touch s ledger) && not (is_closed s ledger)
  where
    is_within : Option Moment → Bool
    is_within None = false
    is_within (Some at) = nat_lt t (at + 2 * v at)

-- ---- reservations

-- what reservations hold of a bucket: those that count, and that no later fact ended
-- rule: holds.held: held money is its own reservation's
abbrev pub held : (SessionName → GroupId → Bool) → BucketNumber → Ledger → BucketAmount
held p n [] = 0
held p n (d ∷ older) =
    number_of (λ h. if p h.session h.group && h.bucket == n then h.amount else 0)
    (counts d.fact).hold
    + held (but_ended (counts d.fact).end p) n older
  where
    but_ended : Option EndOf → (SessionName → GroupId → Bool) → SessionName → GroupId → Bool
    but_ended None q = q
    but_ended (Some e) q = λ s g. q s g && not (is_same s e.session && g == e.group)

-- what is noted of the grant of a session's group: that it was made, or that it is over
pub record Telling : Type 0 where
  pub session : SessionName
  pub group : GroupId
  pub grant : Option GrantOf

abbrev pub telling : Option GrantOf → Option EndOf → Option Telling
telling (Some x) e = Some (record { session = x.session; group = x.group; grant = Some x })
telling None (Some e) = Some (record { session = e.session; group = e.group; grant = None })
telling None None = None

-- of the grant of a session's group this; nothing of it where it is over
abbrev pub tells : {A : Type 0} → (GrantOf → A) → SessionName → GroupId → Dated → Option (Option A)
tells read s g d = option_and_then
    (λ x. if is_same x.session s && x.group == g then Some (option_map read x.grant) else None)
    (telling (counts d.fact).grant (counts d.fact).end)

abbrev pub inner : {A : Type 0} → Option (Option A) → Option A
inner None = None
inner (Some x) = x

module _ (session : SessionName) (group : GroupId) where
  -- this reservation alone
  abbrev pub only : SessionName → GroupId → Bool
  only s g = is_same s session && g == group

  abbrev pub is_use_of : UseOf → Bool
  is_use_of u = is_same u.session session && u.group == group

  -- a session's use of a group so far
  abbrev pub used : Ledger → UnitCount
  used ledger = sum_of (λ c. c.usage) (λ u. if is_use_of u then u.units else 0) ledger

  -- the terms of a session's grant of a group that no later fact ended
  -- rule: grant-terms.granted
  abbrev pub open_grant : Ledger → Option Terms
  open_grant ledger = inner (newest (tells (λ x. x.terms) session group) ledger)

  -- the session has a grant or a use of the group
  abbrev pub has_group : Ledger → Bool
  has_group ledger = any (λ d. either (option_map is_use_of (counts d.fact).usage)
      (option_map (λ x. is_same x.session session && x.group == group) (counts d.fact).grant))
      ledger
