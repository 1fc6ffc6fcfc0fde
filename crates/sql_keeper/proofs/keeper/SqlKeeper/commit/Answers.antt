use Rattle.std.proofs.Common.{refl, subst, sym, ◌∙◌}
use Rattle.sqlite.specs.Held.{state}
use Rattle.sql_keeper.specs.Content.{shelf_names}
use Rattle.sql_keeper.specs.Commits.{Becomes}
use Rattle.sql_keeper.specs.KeptRows.{BecomesOver, Keeps}
use Rattle.sql_keeper.specs.Seen.{Sees}
use Rattle.sql_keeper.proofs.openings.Held.{held_committed, held_stands}
use Rattle.sql_keeper.proofs.commits.Committed.{committed}
use Rattle.sql_keeper.proofs.kept.KeptRows.{becomes_standing, kept_made, seen_made}
use Rattle.sql_keeper.proofs.stops.Standing.{keeps, ok_handed, standing_keeper, standing_whole}
use Rattle.sql_keeper.proofs.commits.Whole.{handed_on}
use Rattle.sql_keeper.proofs.keeper.SqlKeeper.commit.Goals as goal

pub ask_to_change-made-requires-clause-is_there : goal.ask_to_change-made-requires-clause-is_there
ask_to_change-made-requires-clause-is_there g c = λ later clean on.
    held_stands _ c.self.inside.shelf _ _ c.args.change.moment _ _ c.as_str-text.ensures.value
    c.is_last-is_there.ensures (sym c.is_not_before-is_later.ensures ∙ later)
    (c.self.invariant.keeper.held clean on)

pub invariant_of-self : goal.invariant_of-self
invariant_of-self g c = record {
  keeper = standing_keeper g.S.Store _ _ c.self.invariant.keeper refl
      (λ text. Becomes (shelf_names c.self.inside.shelf) text c.args.change) _
      c.ask_to_change-made.result c.counted.result c.counted.ensures.handed
      (becomes_standing _ _ _ _ _ _ c.ask_to_change-made.ensures.commits) _
      c.as_str-text.ensures.value
      (λ db. held_committed _ c.self.inside.shelf _ c.args.change _ db)
      c.last_after-self-inside.ensures.made c.last_after-self-inside.ensures.kept refl
      c.ask_to_change-made.ensures.plain
      c.counted.ensures.bounded;
  seen = seen_made
      (BecomesOver (shelf_names c.self.inside.shelf) c.as_str-text.result.now c.args.change)
      c.self.inside.seen c.seen_over.result
      (state g.S.Store c.self.inside.connection) (state g.S.Store c.ask_to_change-made.new.conn)
      c.ask_to_change-made.result c.self.invariant.seen c.ask_to_change-made.ensures.commits
      (λ trees db made sees. c.seen_over.ensures (shelf_names c.self.inside.shelf)
      c.as_str-text.result.now trees db made
      (subst (λ o. Sees o trees) (sym c.take-seen.ensures.value) sees));
  kept = kept_made (shelf_names c.self.inside.shelf)
      (BecomesOver (shelf_names c.self.inside.shelf) c.as_str-text.result.now c.args.change)
      c.self.inside.seen c.self.inside.kept c.kept_over.result
      (state g.S.Store c.self.inside.connection) (state g.S.Store c.ask_to_change-made.new.conn)
      c.ask_to_change-made.result c.self.invariant.seen c.self.invariant.kept
      c.ask_to_change-made.ensures.commits
      (λ trees db made sees before. c.kept_over.ensures (shelf_names c.self.inside.shelf)
      c.as_str-text.result.now trees db made
      (subst (λ o. Sees o trees) (sym c.take-seen.ensures.value) sees)
      (subst (λ o. Keeps (shelf_names c.self.inside.shelf) o trees)
      (sym c.take-kept.ensures.value) before));
}

pub returns : goal.returns
returns g c = rw (← c.self.view_is) (record {
  done = committed g.S.Store _ c.ask_to_change-made.new.conn _ _
      c.self.invariant.keeper _
      (handed_on _ _ _ _ _ c.counted.ensures.handed
      (becomes_standing _ _ _ _ _ _ c.ask_to_change-made.ensures.commits).commits);
  kept = keeps g.S.Store _ _ c.self.invariant.keeper refl
      (λ text. Becomes (shelf_names c.self.inside.shelf) text c.args.change) _
      c.ask_to_change-made.result c.counted.result c.counted.ensures.handed
      (becomes_standing _ _ _ _ _ _ c.ask_to_change-made.ensures.commits) _
      c.counted.ensures.cause (λ db b. b.tables);
  whole = standing_whole g.S.Store _ _
      c.self.invariant.keeper refl
      (λ text. Becomes (shelf_names c.self.inside.shelf) text c.args.change) _
      c.ask_to_change-made.result c.counted.result c.counted.ensures.handed
      (becomes_standing _ _ _ _ _ _ c.ask_to_change-made.ensures.commits)
      c.as_str-text.ensures.value;
  free = λ clean. ok_handed _ c.ask_to_change-made.result c.counted.result
      c.counted.ensures.handed (c.ask_to_change-made.ensures.free clean.disk);
})
