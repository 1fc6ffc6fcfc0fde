-- What settlements and grants answer, by the ledger.
-- Source: RFC 8506 sections 5.2 to 5.4; TS 32.299, session charging with unit reservation.
use Rattle.std.specs.Prelude.{◌≡◌, ◌+◌, ◌-◌, ◌<◌, Bool, true, false, nat_lt, List, Option}
use Rattle.std.specs.Prelude.{None}
use Rattle.std.specs.Prelude.{Some}
use Rattle.units.specs.Words.{Moment, Seconds, UnitCount, GroupId, Micros}
use Rattle.identifiers.specs.Words.{SessionName}
use Rattle.units.specs.declared.blocks.UsedPart.{UsedPart}
use Rattle.units.specs.Blocks.{started}
use Rattle.shelves.specs.Shelves.{Shelf}
use Rattle.tariffs.specs.Tariffs.{GroupTariff, tiers_at}
use Rattle.rating.specs.Granted.{IsGreatest}
use Rattle.rating.specs.declared.report.Rated.{Rated}
use Rattle.buckets.specs.Spend.{funds, allowance}
use Rattle.reserving.specs.declared.reserve.Granted.{Granted}
use Rattle.reserving.specs.declared.reserve.Granted.TheVariants.{Nothing, Units}
use Rattle.reserving.specs.declared.settle.Settled.{Settled}
use Rattle.ledger.specs.Ledger.{Ledger, used, counter}
use Rattle.ledger.specs.Pricing.{tariff_at, cycle_at, switch_at, validity_at, periods_at}
use Rattle.ledger.specs.Pricing.{wanted_units, wanted_with, validity_of}
use Rattle.ledger.specs.Balance.{buckets_at}
use Rattle.ledger.specs.Settlement.{report_price, missing, due_of}
use Rattle.ledger.specs.Reservation.{reserved, grant_for, held_due}
use Rattle.ledger.specs.Debiting.{rest_price, is_covered, debit_passes, debited}
use Rattle.reserving.specs.Rows.{AccountRows, IsRowsOf}
use Rattle.reserving.specs.Quotas.{IsGreatestFor}
use Rattle.reserving.specs.Changes.{advanced, used_in, count_in, granted_in, reserved_account}
use Rattle.reserving.specs.Changes.{rest_price_in, is_covered_in, debit_passes_in, debited_account}

-- what is answered of a use: its blocks, those of them that are covered, the price of the others,
-- and what of it isn't collected
pub record IsAnswered (price : Rated) (missing : Micros) (s : Settled) : Type 0 where
  pub blocks : s.blocks.0 ≡ price.blocks
  pub covered : s.covered.0 ≡ price.covered.0
  pub rated : s.rated.0 ≡ price.amount.0
  pub uncollected : s.uncollected.0 ≡ missing

-- what is answered of a report
abbrev pub IsSettlementOf : Shelf → Moment → SessionName → GroupId → List UsedPart → Ledger →
    Settled → Type 0
IsSettlementOf b t session group used_parts ledger s =
    IsAnswered (report_price b t session group used_parts ledger)
    (missing b t session group used_parts ledger) s

-- ---- grants

-- units that are granted: their price is held
-- rule: final-units
pub record IsGrantOf (b : Shelf) (t : Moment) (session : SessionName) (group : GroupId)
    (requested : Option UnitCount) (ledger : Ledger) (after : AccountRows) (given : UnitCount)
    (at : Option Moment) (seconds : Seconds) (final : Bool) : Type 0 where
  pub some : 0 < given
  pub units : given ≡ (grant_for b t group (used session group ledger) requested ledger).units.0
  pub switch : at ≡ switch_at b t
  pub validity : seconds ≡ validity_at b t
  pub fewer : final ≡ nat_lt given (wanted_with (tariff_at b t group) requested)
  -- beside the blocks of the allowance as many as the funds cover, and no more
  pub greatest : (x : GroupTariff) → tariff_at b t group ≡ Some x →
      IsGreatest (tiers_at x (periods_at b t).before.0) (tiers_at x (periods_at b t).after.0)
      (counter (cycle_at b group) group (cycle_at b group t) ledger
      + (grant_for b t group (used session group ledger) requested ledger).allowed.0)
      (started (used session group ledger) (wanted_units x requested) x.block
      - (grant_for b t group (used session group ledger) requested ledger).allowed.0)
      (funds group t (buckets_at (validity_of b) t ledger))
      (grant_for b t group (used session group ledger) requested ledger).blocks.0
  pub rows : IsRowsOf
      (reserved b t session group given
      (held_due (grant_for b t group (used session group ledger) requested ledger)) ledger) after

-- what a reservation answers, and what it makes of the account: nothing is granted exactly where no
-- unit is covered
abbrev pub GivesGrant : Shelf → Moment → SessionName → GroupId → Option UnitCount → Ledger →
    AccountRows → Granted → Type 0
GivesGrant b t session group requested ledger after Nothing =
    ((grant_for b t group (used session group ledger) requested ledger).units.0 ≡ 0) ×
    IsRowsOf ledger after
GivesGrant b t session group requested ledger after (Units units switch validity fewer) =
    IsGrantOf b t session group requested ledger after units.0 switch validity fewer

-- the same by the account's rows, whatever they are
pub record IsGrantIn (session : SessionName) (group : GroupId) (t : Moment)
    (requested : Option UnitCount) (before after : AccountRows) (given : UnitCount)
    (at : Option Moment) (seconds : Seconds) (final : Bool) : Type 0 where
  pub some : 0 < given
  pub units : given ≡ (granted_in session group t requested before).units.0
  pub switch : at ≡ switch_at before.shelf t
  pub validity : seconds ≡ validity_at before.shelf t
  pub fewer : final ≡ nat_lt given (wanted_with (tariff_at before.shelf t group) requested)
  pub greatest : (x : GroupTariff) → tariff_at before.shelf t group ≡ Some x →
      IsGreatestFor x (periods_at before.shelf t) (used_in session group before.groups)
      (count_in group (cycle_at before.shelf group t) before.counters) requested
      (funds group t (advanced t before).buckets) (allowance group t (advanced t before).buckets)
      (granted_in session group t requested before)
  pub rows : after
      ≡ reserved_account session group (held_due (granted_in session group t requested before))
      (advanced t before)

-- rule: grant-units.passes-in
abbrev pub GivesGrantIn : SessionName → GroupId → Moment → Option UnitCount → AccountRows →
    AccountRows → Granted → Type 0
GivesGrantIn session group t requested before after Nothing =
    ((granted_in session group t requested before).units.0 ≡ 0) × (after ≡ advanced t before)
GivesGrantIn session group t requested before after (Units units switch validity fewer) =
    IsGrantIn session group t requested before after units.0 switch validity fewer

-- ---- debits

-- an event's units are charged whole: their price is covered
pub record IsDebitOf (b : Shelf) (t : Moment) (session : SessionName) (group : GroupId)
    (units : UnitCount) (ledger : Ledger) (after : AccountRows) (s : Settled) : Type 0 where
  pub covered : is_covered b t group units ledger ≡ true
  pub within : debit_passes b t session group units ledger ≡ false
  pub answer : IsAnswered (rest_price b t group units ledger) 0 s
  pub rows : IsRowsOf (debited b t session group units ledger) after

-- what a debit answers, and what it makes of the account; nothing where the funds don't cover it
abbrev pub IsDebit : Shelf → Moment → SessionName → GroupId → UnitCount → Ledger → AccountRows →
    Option Settled → Type 0
IsDebit b t session group units ledger after None = is_covered b t group units ledger ≡ false
IsDebit b t session group units ledger after (Some s) =
    IsDebitOf b t session group units ledger after s

-- the same by the account's rows, whatever they are
-- rule: grant-units.passes-in
pub record IsDebitIn (session : SessionName) (group : GroupId) (units : UnitCount) (t : Moment)
    (before after : AccountRows) (s : Settled) : Type 0 where
  pub covered : is_covered_in group units t before ≡ true
  pub within : debit_passes_in session group units t before ≡ false
  pub answer : IsAnswered (rest_price_in group units t before) 0 s
  pub rows : after
      ≡ debited_account session group units (rest_price_in group units t before).blocks
      (due_of (rest_price_in group units t before)) (advanced t before)

abbrev pub GivesDebitIn : SessionName → GroupId → UnitCount → Moment → AccountRows → AccountRows →
    Option Settled → Type 0
GivesDebitIn session group units t before after None =
    (is_covered_in group units t before ≡ false) × (after ≡ before)
GivesDebitIn session group units t before after (Some s) =
    IsDebitIn session group units t before after s
