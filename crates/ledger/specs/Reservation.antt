-- Reservation: units are granted as far as the funds cover their blocks, and their price is held in
-- what is eligible (RFC 8506 sections 5.2 and 5.3; TS 32.299, session charging with unit
-- reservation).
use Rattle.std.specs.Prelude.{List, [], ◌∷◌, ◌++◌, Option}
use Rattle.units.specs.Words.{Moment, UnitCount, GroupId}
use Rattle.identifiers.specs.Words.{SessionName}
use Rattle.buckets.specs.declared.holds.HeldAmount.{HeldAmount}
use Rattle.buckets.specs.declared.kind.Due.{Due}
use Rattle.buckets.specs.Kinds.{due}
use Rattle.buckets.specs.Spend.{funds, allowance}
use Rattle.buckets.specs.Holding.{holds_of}
use Rattle.ledger.specs.Ledger.{Ledger, HoldOf, GrantOf}
use Rattle.ledger.specs.Ledger.Fact.{Grant, Hold}
use Rattle.shelves.specs.Shelves.{Shelf}
use Rattle.rating.specs.declared.grant.Grant.{Grant as RatedGrant}
use Rattle.ledger.specs.Pricing.{tariff_at, place_at, periods_at, terms_at, grant_with}
use Rattle.ledger.specs.Pricing.{validity_of}
use Rattle.ledger.specs.Balance.{buckets_at}

-- what a bucket holds for a session's group
abbrev pub hold_for : SessionName → GroupId → HeldAmount → HoldOf
hold_for session group h =
    record { session = session; group = group; bucket = h.bucket; amount = h.amount }

-- rule: shares.taken-of
abbrev pub hold_facts : Moment → SessionName → GroupId → List HeldAmount → Ledger
hold_facts t session group [] = []
hold_facts t session group (h ∷ hs) =
    record { at = t; fact = Hold (hold_for session group h) } ∷ hold_facts t session group hs

-- a grant at a moment: by its terms, from where the group's counter in the cycle is
abbrev pub grant_at : Shelf → Moment → SessionName → GroupId → UnitCount → Ledger → GrantOf
grant_at b t session group units ledger = record {
  session = session;
  group = group;
  terms = terms_at b t;
  units = units;
  counter = place_at b t group ledger;
}

-- the ledger with a grant
-- rule: grant-held
abbrev pub reserved : Shelf → Moment → SessionName → GroupId → UnitCount → Due → Ledger → Ledger
reserved b t session group units due ledger =
    hold_facts t session group (holds_of group t due (buckets_at (validity_of b) t ledger))
    ++ (record { at = t; fact = Grant (grant_at b t session group units ledger) } ∷ ledger)

-- what a grant holds: its price, and its blocks of the allowance
abbrev pub held_due : RatedGrant → Due
held_due g = due g.amount.0 g.allowed.0

-- what a session with this use would be granted: the blocks of the allowance, and after them the
-- greatest number of new blocks, each at the dearer of its two prices, that the funds cover
-- rule: grant-held: an account's grant, and what it holds
-- rule: grant-covers
abbrev pub grant_for : Shelf → Moment → GroupId → UnitCount → Option UnitCount → Ledger → RatedGrant
grant_for b t group before requested ledger =
    grant_with (tariff_at b t group) (periods_at b t) before
    (place_at b t group ledger) requested
    (funds group t (buckets_at (validity_of b) t ledger))
    (allowance group t (buckets_at (validity_of b) t ledger))
