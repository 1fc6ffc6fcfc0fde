-- The charge rows of a ledger: one for each use, in order, numbered from 1.
-- Source: profile.
use Rattle.std.specs.Prelude.{◌-◌, List, [], ◌∷◌, ◌++◌, Option, Some, None}
use Rattle.units.specs.Words.{Moment}
use Rattle.ledger.specs.Words.{ChargeNumber}
use Rattle.ledger.specs.declared.charge.ChargeRow.{ChargeRow}
use Rattle.ledger.specs.Ledger.{Dated, Ledger, UseOf, counts, next_charge}

abbrev pub charge_by : ChargeNumber → Moment → Option UseOf → List ChargeRow
charge_by n t None = []
charge_by n t (Some u) = record {
  number = n;
  moment = t;
  session = u.session;
  group = u.group;
  blocks = record { 0 = u.blocks };
  covered = record { 0 = u.covered };
  rated = record { 0 = u.rated };
  collected = record { 0 = u.rated - u.uncollected };
  uncollected = record { 0 = u.uncollected };
} ∷ []

abbrev pub charge_of : ChargeNumber → Dated → List ChargeRow
charge_of n d = charge_by n d.at (counts d.fact).usage

abbrev pub charge_rows : Ledger → List ChargeRow
charge_rows [] = []
charge_rows (d ∷ older) = charge_rows older ++ charge_of (next_charge older) d
