use Rattle.std.proofs.Common.{◌≡◌, ℕ, take, true}
use Rattle.reserving.specs.declared.session.Counter.{Counter}
use Rattle.ledger.specs.Lists.{EachIn}
use Rattle.keepers.specs.Named.{is_numbered}
use Rattle.keepers.proofs.known.note_counters.Given as goal

abbrev pub invariant-loop-row : goal.invariant-loop-row
invariant-loop-row l = record {
  stay : (k : ℕ) → is_numbered l.fn.cycles k ≡ true → is_numbered l.cycles k ≡ true;
  noted : EachIn (λ (c : Counter). is_numbered l.cycles c.cycle ≡ true) (take l.row-index l.rows);
}
