use Rattle.std.proofs.Common.{◌≡◌, ℕ, List, take, true}
use Rattle.reserving.specs.declared.session.Session.{Session}
use Rattle.ledger.specs.Lists.{EachIn}
use Rattle.keepers.specs.Named.{is_named}
use Rattle.keepers.proofs.known.note_sessions.Given as goal

abbrev pub invariant-loop-row : goal.invariant-loop-row
invariant-loop-row l = record {
  stay : (k : List ℕ) → is_named l.fn.names k ≡ true → is_named l.names k ≡ true;
  noted : EachIn (λ (r : Session). is_named l.names r.id ≡ true) (take l.row-index l.rows);
}
