-- What the use of a report is, and that of a debit, field by field: the same as the equations of
-- whole uses in `Paid`.
-- Source: profile.
use Rattle.std.specs.Prelude.{◌≡◌, ◌<◌, true}
use Rattle.units.specs.Words.{Moment}
use Rattle.buckets.specs.Kinds.{due}
use Rattle.ledger.specs.Ledger.{Ledger, UseOf}
use Rattle.ledger.specs.Debiting.{rest_price, is_covered}
use Rattle.ledger.specs.Settlement.{reported, report_price, missing}
use Rattle.shelves.specs.Shelves.{Shelf}
use Rattle.charging.specs.Paid.{Report, IsReport, IsEvent, IsSpent}

-- the use that a report made, by the use's own session and group
pub record IsReportByFields (b : Shelf) (r : Report) (t : Moment) (u : UseOf) (before : Ledger)
    : Type 0 where
  pub moment : t ≡ r.at
  pub session : u.session ≡ r.session
  pub group : u.group ≡ r.group
  pub units_are : u.units ≡ reported r.parts
  pub blocks_are : u.blocks ≡ (report_price b t u.session u.group r.parts before).blocks
  pub covered_is : u.covered ≡ (report_price b t u.session u.group r.parts before).covered.0
  pub rated_is : u.rated ≡ (report_price b t u.session u.group r.parts before).amount.0
  pub uncollected_is : u.uncollected ≡ missing b t u.session u.group r.parts before
  pub short : 0 < u.uncollected →
      IsSpent b t u.session u.group (due u.rated u.covered) before

-- the use of a debit
pub record IsEventByFields (b : Shelf) (t : Moment) (u : UseOf) (before : Ledger) : Type 0 where
  pub blocks_are : u.blocks ≡ (rest_price b t u.group u.units before).blocks
  pub covered_is : u.covered ≡ (rest_price b t u.group u.units before).covered.0
  pub rated_is : u.rated ≡ (rest_price b t u.group u.units before).amount.0
  pub funded : is_covered b t u.group u.units before ≡ true
  pub whole : u.uncollected ≡ 0

-- both forms say the same of each use
-- rule: paid.uses-by-fields: each field of a use is that of its report's or debit's price, and no
--   more is said of it by an equation of the whole use
pub record UsesAreByFields : Type 0 where
  pub report : (b : Shelf) (r : Report) (t : Moment) (u : UseOf) (before : Ledger) →
      IsReport b r t u before → IsReportByFields b r t u before
  pub report_back : (b : Shelf) (r : Report) (t : Moment) (u : UseOf) (before : Ledger) →
      IsReportByFields b r t u before → IsReport b r t u before
  pub event : (b : Shelf) (t : Moment) (u : UseOf) (before : Ledger) →
      IsEvent b t u before → IsEventByFields b t u before
  pub event_back : (b : Shelf) (t : Moment) (u : UseOf) (before : Ledger) →
      IsEventByFields b t u before → IsEvent b t u before
