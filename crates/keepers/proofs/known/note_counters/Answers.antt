use Rattle.std.proofs.Common.{◌≡◌, true}
use Rattle.reserving.specs.declared.session.Counter.{Counter}
use Rattle.keepers.specs.Named.{is_numbered}
use Rattle.keepers.proofs.Replaced.{each_next, each_stays}
use Rattle.keepers.proofs.known.note_counters.Goals as goal

pub loop-row-preserved : goal.loop-row-preserved
loop-row-preserved c = record {
  stay = λ k e. c.note_number.ensures.stay k (c.loop-row.invariant.stay k e);
  noted = each_next (λ (x : Counter). is_numbered c.note_number.new.numbers x.cycle ≡ true)
      c.args.rows.now c.loop-row.row-index _
      (each_stays (λ (x : Counter). is_numbered c.loop-row.cycles x.cycle ≡ true)
      (λ (x : Counter). is_numbered c.note_number.new.numbers x.cycle ≡ true) c.args.rows.now
      c.loop-row.row-index (λ x e. c.note_number.ensures.stay x.cycle e)
      c.loop-row.invariant.noted)
      c.loop-row-test.true
      c.in_ok-note_number.ensures.noted;
}
