-- What a session was granted of a group and hasn't ended yet, in one reader.
-- Source: TS 32.299, session charging with unit reservation; the ledger: profile.
use Rattle.std.specs.Prelude.{◌≡◌, Option, option_map}
use Rattle.units.specs.Words.{UnitCount, Place, GroupId}
use Rattle.identifiers.specs.Words.{SessionName}
use Rattle.ledger.specs.declared.terms.Terms.{Terms}
use Rattle.ledger.specs.Ledger.{Dated, Ledger, GrantOf, tells, newest, inner, open_grant}
use Rattle.charging.specs.Paid.{grant_open}

-- a grant: its terms, its units, and its place of the group's counter
pub record PlacedGrant : Type 0 where
  pub terms : Terms
  pub units : UnitCount
  pub counter : Place

abbrev pub granted_by : GrantOf → PlacedGrant
granted_by x = record { terms = x.terms; units = x.units; counter = x.counter }

abbrev pub granting : SessionName → GroupId → Dated → Option (Option PlacedGrant)
granting s g d = tells granted_by s g d

-- the grant of a session's group that no later fact ended
-- rule: grant-terms.granted: the terms and the quota of a reservation are those of one grant
abbrev pub granted : SessionName → GroupId → Ledger → Option PlacedGrant
granted s g ledger = inner (newest (granting s g) ledger)

-- by its terms a report is priced, and by its units and its counter a quota is known: both are of
-- this one grant
-- rule: grant-terms.granted
pub record IsOneGrant (s : SessionName) (g : GroupId) (ledger : Ledger) : Type 0 where
  pub priced : open_grant s g ledger ≡ option_map (λ x. x.terms) (granted s g ledger)
  pub paid : grant_open s g ledger
      ≡ option_map (λ x. record { units = x.units; counter = x.counter }) (granted s g ledger)

abbrev pub GrantsAreOne : Type 0
GrantsAreOne = (s : SessionName) (g : GroupId) (ledger : Ledger) → IsOneGrant s g ledger
