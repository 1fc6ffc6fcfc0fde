use Rattle.std.proofs.Common.{◌≡◌, ◌≤◌, drop, [], map}
use Rattle.std.specs.Prelude.{All}
use Rattle.units.specs.Words.{latest_command}
use Rattle.texts.specs.Steps.{collected}
use Rattle.operator.specs.Values.{moment_in_text}
use Rattle.operator.proofs.values.moments_in.Given as goal

abbrev pub invariant-loop-word : goal.invariant-loop-word
invariant-loop-word l = record {
  reading : collected (λ before. moment_in_text) l.moments.items
      (map (λ w. w.now) (drop l.word-index l.words))
      ≡ collected (λ before. moment_in_text) [] (map (λ w. w.now) l.words);
  in_range : All (λ t. t ≤ latest_command) l.moments.items;
}
