use Rattle.std.proofs.lemmas.List.Sorted.{IsPermutation-refl, IsPermutation-trans}
use Rattle.keepers.proofs.overlaying.place_sessions.Goals as goal

pub returns-then-count-gt-FEW : goal.returns-then-count-gt-FEW
returns-then-count-gt-FEW c = IsPermutation-refl c.args.rows.now.items

pub loop-turn-init : goal.loop-turn-init
loop-turn-init c = IsPermutation-refl c.args.rows.now.items

pub loop-turn-preserved : goal.loop-turn-preserved
loop-turn-preserved c =
    IsPermutation-trans c.args.rows.now.items c.loop-turn.rows.items c.move_last.new.rows.items
    c.loop-turn.invariant c.in_ok-move_last.ensures
