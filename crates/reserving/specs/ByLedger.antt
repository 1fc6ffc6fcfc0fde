-- What settlements, debits and reservations by an account's rows are of the ledger whose rows these
-- are together with those that were left.
-- Source: profile; it follows the ledger's definitions.
use Rattle.std.specs.Prelude.{◌≡◌, ◌≤◌, true, false, List, Option, None, Result, Err, OnOk, IfOk}
use Rattle.units.specs.Words.{Moment, UnitCount, GroupId}
use Rattle.identifiers.specs.Words.{SessionName}
use Rattle.units.specs.declared.blocks.UsedPart.{UsedPart}
use Rattle.reserving.specs.declared.fault.AccountFault.{AccountFault}
use Rattle.reserving.specs.declared.fault.AccountFault.TheVariants.{Limit}
use Rattle.reserving.specs.declared.reserve.Granted.{Granted}
use Rattle.reserving.specs.declared.settle.Settled.{Settled}
use Rattle.ledger.specs.Ledger.{Ledger}
use Rattle.ledger.specs.Settlement.{passes_limit, settled_by}
use Rattle.ledger.specs.Debiting.{is_covered, debit_passes}
use Rattle.reserving.specs.Sessions.{group_in}
use Rattle.reserving.specs.Rows.{AccountRows, IsAccount, IsRowsOf}
use Rattle.reserving.specs.Prepared.{reservation_in}
use Rattle.reserving.specs.Left.{LeftRows, none_left, joined, IsBeside, IsWith}
use Rattle.reserving.specs.Results.{IsSettlementOf, IsDebit, GivesGrant}
use Rattle.reserving.specs.Calls.{IsLive, Settles, Debits, Reserves}

-- an account that is loaded whole is one beside which nothing was left
abbrev pub IsWholeAccount : Type 0
IsWholeAccount = (ledger : Ledger) (t : Moment) (a : AccountRows) → IsAccount a →
    IsRowsOf ledger a → IsWith ledger none_left t a

-- ---- settlements

-- the same limits, the same answer, and the rows of the ledger with the settlement
-- rule: database-loads
pub record SettlesLedger (session : SessionName) (group : GroupId) (used_parts : List UsedPart)
    (t : Moment) (before after : AccountRows) (ledger : Ledger) (left : LeftRows)
    (result : Result Settled AccountFault) : Type 0 where
  pub rows : OnOk result
      (IsWith (settled_by before.shelf t session group used_parts ledger) left t after)
  pub settled : IfOk result (IsSettlementOf before.shelf t session group used_parts ledger)
  pub within : OnOk result (passes_limit before.shelf t session group used_parts ledger ≡ false)
  pub limit : result ≡ Err Limit →
      passes_limit before.shelf t session group used_parts ledger ≡ true

abbrev pub SettlesByLedger : Type 0
SettlesByLedger = (session : SessionName) (group : GroupId) (used_parts : List UsedPart)
    (t : Moment) (before after : AccountRows) (result : Result Settled AccountFault) →
    before.as_of ≤ t → IsLive before t session →
    Settles session group used_parts t before after result →
    (ledger : Ledger) (left : LeftRows) → IsWith ledger left t before →
    SettlesLedger session group used_parts t before after ledger left result

-- ---- debits

-- the same limits and the same answer, where no row of the session's group was left
-- rule: database-loads.with
pub record DebitsLedger (session : SessionName) (group : GroupId) (units : UnitCount) (t : Moment)
    (before after : AccountRows) (ledger : Ledger) (left : LeftRows)
    (result : Result (Option Settled) AccountFault) : Type 0 where
  pub debit : IfOk result (λ s. IsBeside left t after ×
      IsDebit before.shelf t session group units ledger (joined left after) s)
  pub limit : result ≡ Err Limit →
      (is_covered before.shelf t group units ledger ≡ true) ×
      (debit_passes before.shelf t session group units ledger ≡ true)

abbrev pub DebitsByLedger : Type 0
DebitsByLedger = (session : SessionName) (group : GroupId) (units : UnitCount) (t : Moment)
    (before after : AccountRows) (result : Result (Option Settled) AccountFault) →
    before.as_of ≤ t → Debits session group units t before after result →
    (ledger : Ledger) (left : LeftRows) → group_in session group left.groups ≡ None →
    IsWith ledger left t before →
    DebitsLedger session group units t before after ledger left result

-- ---- reservations

-- the same answer, and the rows of the ledger with the reservation
-- rule: database-loads.with
abbrev pub ReservesByLedger : Type 0
ReservesByLedger = (session : SessionName) (group : GroupId) (requested : Option UnitCount)
    (t : Moment) (before after : AccountRows) (result : Result Granted AccountFault) →
    before.as_of ≤ t → IsLive before t session →
    reservation_in session group before.groups ≡ None →
    Reserves session group requested t before after result →
    (ledger : Ledger) (left : LeftRows) → IsWith ledger left t before →
    IfOk result (λ granted. IsBeside left t after ×
    GivesGrant before.shelf t session group requested ledger (joined left after) granted)
