use Rattle.std.proofs.Common.{◌≡◌, ℕ, List, take, true}
use Rattle.reserving.specs.declared.session.SessionGroup.{SessionGroup}
use Rattle.ledger.specs.Lists.{EachIn}
use Rattle.keepers.specs.Named.{is_named}
use Rattle.keepers.proofs.known.note_groups.Given as goal

abbrev pub invariant-loop-row : goal.invariant-loop-row
invariant-loop-row l = record {
  stay : (k : List ℕ) → is_named l.fn.names k ≡ true → is_named l.names k ≡ true;
  noted : EachIn (λ (r : SessionGroup). is_named l.names r.session ≡ true)
      (take l.row-index l.rows);
}
