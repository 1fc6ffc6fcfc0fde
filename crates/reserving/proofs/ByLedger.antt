-- Settlements, debits and reservations by the rows are those of the ledger.
use Rattle.std.proofs.Common.{◌≡◌, ℕ, Some, None, Ok, Err, sym, ap, subst}
use Rattle.std.proofs.Common.{◌∙◌}
use Rattle.rating.specs.declared.grant.Grant.{Grant}
use Rattle.reserving.specs.declared.reserve.Granted.TheVariants.{Nothing, Units}
use Rattle.ledger.specs.Ledger.{Ledger}
use Rattle.ledger.specs.Settlement.{settled_by}
use Rattle.reserving.specs.Sessions.{is_of}
use Rattle.reserving.specs.Changes.{advanced}
use Rattle.reserving.specs.Rows.{AccountRows, IsRowsOf}
use Rattle.reserving.specs.Left.{LeftRows, joined, IsBeside, IsWith}
use Rattle.reserving.specs.ByLedger.{IsWholeAccount, SettlesByLedger}
use Rattle.reserving.specs.ByLedger.{DebitsByLedger, ReservesByLedger}
use Rattle.reserving.proofs.Lists.{no_fault}
use Rattle.reserving.proofs.LeftTests.{none_each}
use Rattle.reserving.proofs.LeftMore.{with_advanced}
use Rattle.reserving.proofs.LeftReadings.{passes_in_told, covered_told, debit_passes_told}
use Rattle.reserving.proofs.LeftReadings.{granted_told}
use Rattle.reserving.proofs.left.Settled.{left_settled}
use Rattle.reserving.proofs.left.Settlement.{settlement_beside}
use Rattle.reserving.proofs.left.Debited.{debit_beside}
use Rattle.reserving.proofs.left.Granted.{granted_beside}

pub whole_account : IsWholeAccount
whole_account ledger t a account rows = record {
  apart = record {
    dead = tt;
    over = tt;
    apart = tt;
    free = tt;
    others = tt;
    whole = account;
  };
  cycles = tt;
  rows = rows;
}

-- rule: database-loads
pub settles_by_ledger : SettlesByLedger
settles_by_ledger s g parts t a after (Ok x) le live says ledger left h = record {
  rows =
      subst (IsWith (settled_by a.shelf t s g parts ledger) left t) (sym says.rows)
      (left_settled ledger left a s g t parts h le live says.within);
  settled = settlement_beside ledger left a s g t parts x h le live says.settled;
  within = passes_in_told ledger left t a s g parts le h live ∙ says.within;
  limit = λ e. absurd (no_fault e);
}
settles_by_ledger s g parts t a after (Err fault) le live says ledger left h = record {
  rows = tt;
  settled = tt;
  within = tt;
  limit = λ e. passes_in_told ledger left t a s g parts le h live ∙ says.limit e;
}

beside_same : (left : LeftRows) (ledger : Ledger) (t : ℕ) (a after : AccountRows) →
    IsWith ledger left t a → after ≡ a → IsBeside left t after
beside_same left ledger t a after h e =
    subst (IsBeside left t) (sym e) (record { apart = h.apart; cycles = h.cycles })

-- rule: database-loads.with
pub debits_by_ledger : DebitsByLedger
debits_by_ledger s g units t a after (Ok None) le says ledger left gone h = record {
  debit = (
    beside_same left ledger t a after h says.debit.1,
    covered_told ledger left t a g units le h ∙ says.debit.0,
  );
  limit = λ e. absurd (no_fault e);
}
debits_by_ledger s g units t a after (Ok (Some x)) le says ledger left gone h = record {
  debit = debit_beside ledger left a after s g t units x le h gone says.debit;
  limit = λ e. absurd (no_fault e);
}
debits_by_ledger s g units t a after (Err fault) le says ledger left gone h = record {
  debit = tt;
  limit =
      λ e. (
        covered_told ledger left t a g units le h ∙ (says.limit e).0,
        debit_passes_told ledger left t a s g units (none_each (is_of s g) left.groups gone) le h
            ∙ (says.limit e).1,
      );
}

-- rule: database-loads.with
pub reserves_by_ledger : ReservesByLedger
reserves_by_ledger s g requested t a after (Ok Nothing) le live none says ledger left h =
    let later : IsWith ledger left t (advanced t a) = with_advanced ledger left t a le h in (
      beside_same left ledger t (advanced t a) after later says.granted.1,
      (
        sym (ap (λ (x : Grant). x.units.0)
            (granted_told ledger left t a s g requested le h live)) ∙ says.granted.0,
        subst (λ (x : AccountRows). IsRowsOf ledger (joined left x)) (sym says.granted.1)
            later.rows,
      ),
    )
reserves_by_ledger s g requested t a after (Ok (Units units switch validity fewer)) le live none
    says ledger left h =
    granted_beside ledger left a after s g t requested units.0 switch validity fewer h le live none
    says.granted
reserves_by_ledger s g requested t a after (Err fault) le live none says ledger left h = tt
