-- The columns of a charge: what a report or a debit came to.
-- Source: profile.
use Rattle.units.specs.Words.{Moment, GroupId}
use Rattle.identifiers.specs.Words.{SessionName}
use Rattle.ledger.specs.Words.{ChargeNumber}
use Rattle.units.specs.declared.blocks.Blocks.{Blocks}
use Rattle.units.specs.declared.money.Amount.{Amount}

pub record ChargeColumns : Type 0 where
  pub number : ChargeNumber
  pub moment : Moment
  pub session : SessionName
  pub group : GroupId
  pub blocks : Blocks
  pub covered : Blocks
  pub rated : Amount
  pub collected : Amount
  pub uncollected : Amount
