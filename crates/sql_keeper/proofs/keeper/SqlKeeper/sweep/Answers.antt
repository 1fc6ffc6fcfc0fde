use Rattle.std.proofs.Common.{refl, sym, ◌∙◌}
use Rattle.sql_keeper.specs.Content.{shelf_names}
use Rattle.sql_keeper.specs.Sweeps.{BecomesSwept}
use Rattle.sql_keeper.proofs.openings.Held.{held_swept, held_up_to}
use Rattle.sql_keeper.proofs.reads.Asked.{handed}
use Rattle.sql_keeper.proofs.commits.Committed.{swept_law}
use Rattle.sql_keeper.proofs.stops.Standing.{keeps, standing_keeper, standing_whole}
use Rattle.sql_keeper.proofs.commits.Whole.{handed_on}
use Rattle.sql_keeper.proofs.keeper.SqlKeeper.sweep.Goals as goal

pub ask_to_sweep-made-requires-clause-later : goal.ask_to_sweep-made-requires-clause-later
ask_to_sweep-made-requires-clause-later g c = λ later clean on.
    held_up_to _ c.self.inside.shelf _ c.args.moment _
    (sym c.is_not_before-is_later.ensures ∙ later) (c.self.invariant.keeper.held clean on)

pub invariant_of-self : goal.invariant_of-self
invariant_of-self g c = record {
  keeper = standing_keeper g.S.Store _ _ c.self.invariant.keeper refl
      (λ text. BecomesSwept (shelf_names c.self.inside.shelf) text c.args.shelf.now c.args.moment) _
      c.ask_to_sweep-made.result c.counted.result c.counted.ensures.handed
      c.ask_to_sweep-made.ensures.commits _ c.as_str-text.ensures.value
      (λ db. held_swept _ c.args.shelf.now c.self.inside.shelf _ c.args.moment _ db)
      c.last_after-self-inside.ensures.made c.last_after-self-inside.ensures.kept refl
      c.ask_to_sweep-made.ensures.plain
      c.counted.ensures.bounded;
  seen = λ clean on. tt;
  kept = λ clean on. tt;
}

pub returns : goal.returns
returns g c = rw (← c.self.view_is) (record {
  count = λ clean.
      handed _ _ c.ask_to_sweep-made.result c.counted.result c.counted.ensures.handed (λ x h. h)
      (c.ask_to_sweep-made.ensures.count clean.disk);
  done = swept_law g.S.Store _ c.ask_to_sweep-made.new.conn _ _ _
      c.self.invariant.keeper _
      (handed_on _ _ _ _ _ c.counted.ensures.handed c.ask_to_sweep-made.ensures.commits.commits);
  kept = keeps g.S.Store _ _ c.self.invariant.keeper refl
      (λ text. BecomesSwept (shelf_names c.self.inside.shelf) text c.args.shelf.now c.args.moment) _
      c.ask_to_sweep-made.result c.counted.result c.counted.ensures.handed
      c.ask_to_sweep-made.ensures.commits _ c.counted.ensures.cause (λ db b. b.tables);
  whole = standing_whole g.S.Store _ _
      c.self.invariant.keeper refl
      (λ text. BecomesSwept (shelf_names c.self.inside.shelf) text c.args.shelf.now c.args.moment) _
      c.ask_to_sweep-made.result c.counted.result c.counted.ensures.handed
      c.ask_to_sweep-made.ensures.commits c.as_str-text.ensures.value;
})
