-- The parts of what is read of a ledger, each by itself, as lemmas speak of them: what a fact adds
-- to a sum or answers to a question. A definition of `Ledger` is the sum, the test or the newest of
-- these by computation.
-- Source: profile.
use Rattle.std.specs.Prelude.{ℕ, ◌+◌, ◌*◌, Bool, false, not, ◌==◌, ◌&&◌, ◌||◌, nat_lt}
use Rattle.std.specs.Prelude.{if◌then◌else◌, [], ◌∷◌, Option, Some, None}
use Rattle.std.specs.Prelude.{option_map, option_and_then}
use Rattle.units.specs.Words.{Moment, Seconds, UnitCount, BlockCount, GroupId, CycleNumber}
use Rattle.identifiers.specs.Words.{SessionName}
use Rattle.buckets.specs.Words.{BucketNumber, BucketAmount}
use Rattle.ledger.specs.declared.terms.Terms.{Terms}
use Rattle.ledger.specs.Ledger.{Dated, Ledger, Fact, counts, number_of, test_of, either, is_same}
use Rattle.ledger.specs.Ledger.{ChargeOf, UseOf, RequestOf, EndOf, HoldOf, GrantOf, Recording}
use Rattle.ledger.specs.Ledger.{Telling, telling, tells, is_use_of}

abbrev pub any : (Fact → Bool) → Ledger → Bool
any p [] = false
any p (d ∷ older) = p d.fact || any p older

abbrev pub bar_in : Dated → Option Bool
bar_in d = (counts d.fact).bar

-- ---- buckets

abbrev pub paid_by : BucketNumber → ChargeOf → BucketAmount
paid_by n c = if c.bucket == n then c.amount else 0

abbrev pub charge_to : BucketNumber → Fact → BucketAmount
charge_to n f = number_of (paid_by n) (counts f).charge

abbrev pub credits_in : Fact → ℕ
credits_in f = number_of (λ c. 1) (counts f).credit

-- ---- use

abbrev pub units_by : SessionName → GroupId → UseOf → UnitCount
units_by s g u = if is_use_of s g u then u.units else 0

abbrev pub units_in : SessionName → GroupId → Fact → UnitCount
units_in s g f = number_of (units_by s g) (counts f).usage

abbrev pub blocks_by : GroupId → UseOf → BlockCount
blocks_by g u = if u.group == g then u.blocks else 0

abbrev pub blocks_in : GroupId → Fact → BlockCount
blocks_in g f = number_of (blocks_by g) (counts f).usage

abbrev pub uses_in : Fact → ℕ
uses_in f = number_of (λ u. 1) (counts f).usage

-- ---- sessions

abbrev pub touched_at : SessionName → Moment → Option SessionName → Option Moment
touched_at s t touch = option_and_then (λ x. if is_same x s then Some t else None) touch

abbrev pub touch_in : SessionName → Dated → Option Moment
touch_in s d = touched_at s d.at (counts d.fact).touch

abbrev pub closes : SessionName → Fact → Bool
closes s f = test_of (λ x. is_same x s) (counts f).close

-- a session that was touched lives until two validity times after its last touch
abbrev pub is_within : (Moment → Seconds) → Moment → Option Moment → Bool
is_within v t None = false
is_within v t (Some at) = nat_lt t (at + 2 * v at)

abbrev pub recorded_at : SessionName → Moment → Option RequestOf → Option Recording
recorded_at s t request = option_and_then
    (λ r. if is_same r.session s then Some (record { number = r.number; at = t }) else None)
    request

abbrev pub recording_in : SessionName → Dated → Option Recording
recording_in s d = recorded_at s d.at (counts d.fact).request

-- ---- reservations

abbrev pub ends_of : SessionName → GroupId → EndOf → Bool
ends_of s g e = is_same s e.session && g == e.group

abbrev pub but_ended : Option EndOf → (SessionName → GroupId → Bool) → SessionName → GroupId → Bool
but_ended None p = p
but_ended (Some e) p = λ s g. p s g && not (ends_of s g e)

-- which reservations' holds count, seen from before a fact: none that it ends
abbrev pub counts_before : Fact → (SessionName → GroupId → Bool) → SessionName → GroupId → Bool
counts_before f p = but_ended (counts f).end p

abbrev pub holds_by : (SessionName → GroupId → Bool) → BucketNumber → HoldOf → BucketAmount
holds_by p n h = if p h.session h.group && h.bucket == n then h.amount else 0

abbrev pub hold_of : (SessionName → GroupId → Bool) → BucketNumber → Fact → BucketAmount
hold_of p n f = number_of (holds_by p n) (counts f).hold

abbrev pub told_of : {A : Type 0} → (GrantOf → A) → SessionName → GroupId → Option Telling →
    Option (Option A)
told_of read s g o = option_and_then
    (λ x. if is_same x.session s && x.group == g then Some (option_map read x.grant) else None) o

abbrev pub grant_in : SessionName → GroupId → Dated → Option (Option Terms)
grant_in s g d = tells (λ x. x.terms) s g d

abbrev pub is_grant_of : SessionName → GroupId → GrantOf → Bool
is_grant_of s g x = is_same x.session s && x.group == g

abbrev pub names_group : SessionName → GroupId → Fact → Bool
names_group s g f = either (option_map (is_use_of s g) (counts f).usage)
    (option_map (is_grant_of s g) (counts f).grant)

-- a use at a moment is of the group in the cycle
abbrev pub is_use_in : (Moment → CycleNumber) → GroupId → CycleNumber → Moment → UseOf → Bool
is_use_in cycle_at g c t u = u.group == g && cycle_at t == c

abbrev pub counts_group : (Moment → CycleNumber) → GroupId → CycleNumber → Dated → Bool
counts_group cycle_at g c d = test_of (is_use_in cycle_at g c d.at) (counts d.fact).usage

abbrev pub any_dated : (Dated → Bool) → Ledger → Bool
any_dated p [] = false
any_dated p (d ∷ older) = p d || any_dated p older
