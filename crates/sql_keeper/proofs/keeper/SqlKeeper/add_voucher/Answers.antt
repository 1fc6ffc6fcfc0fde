use Rattle.std.proofs.Common.{refl, sym, ◌∙◌}
use Rattle.sql_keeper.specs.Additions.{BecomesAdded}
use Rattle.sql_keeper.specs.Content.{shelf_names}
use Rattle.sql_keeper.proofs.openings.Held.{held_added, held_stands}
use Rattle.sql_keeper.proofs.commits.Committed.{added_law}
use Rattle.sql_keeper.proofs.stops.Standing.{keeps, standing_keeper, standing_whole}
use Rattle.sql_keeper.proofs.commits.Whole.{handed_on}
use Rattle.sql_keeper.proofs.keeper.SqlKeeper.add_voucher.Goals as goal

pub ask_to_add-made-requires-clause-is_there : goal.ask_to_add-made-requires-clause-is_there
ask_to_add-made-requires-clause-is_there g c = λ later clean on.
    held_stands _ c.self.inside.shelf _ _ c.args.moment _ _ c.as_str-text.ensures.value
    c.is_last-is_there.ensures (sym c.is_not_before-is_later.ensures ∙ later)
    (c.self.invariant.keeper.held clean on)

pub invariant_of-self : goal.invariant_of-self
invariant_of-self g c = record {
  keeper = standing_keeper g.S.Store _ _ c.self.invariant.keeper refl
      (λ text. BecomesAdded text c.args.code c.args.terms c.args.moment) _
      c.ask_to_add-made.result c.counted.result c.counted.ensures.handed
      c.ask_to_add-made.ensures.commits _ c.as_str-text.ensures.value
      (λ db. held_added _ _ _ c.args.code c.args.terms c.args.moment _ db)
      c.last_after-self-inside.ensures.made c.last_after-self-inside.ensures.kept refl
      c.ask_to_add-made.ensures.plain
      c.counted.ensures.bounded;
  seen = λ clean on. tt;
  kept = λ clean on. tt;
}

pub returns : goal.returns
returns g c = rw (← c.self.view_is) (record {
  done = added_law g.S.Store _ c.ask_to_add-made.new.conn _ _ _ _
      c.self.invariant.keeper _
      (handed_on _ _ _ _ _ c.counted.ensures.handed c.ask_to_add-made.ensures.commits.commits);
  kept = keeps g.S.Store _ _ c.self.invariant.keeper refl
      (λ text. BecomesAdded text c.args.code c.args.terms c.args.moment) _
      c.ask_to_add-made.result c.counted.result c.counted.ensures.handed
      c.ask_to_add-made.ensures.commits _ c.counted.ensures.cause
      (λ db b. b.tables (shelf_names c.self.inside.shelf));
  whole = standing_whole g.S.Store _ _
      c.self.invariant.keeper refl
      (λ text. BecomesAdded text c.args.code c.args.terms c.args.moment) _
      c.ask_to_add-made.result c.counted.result c.counted.ensures.handed
      c.ask_to_add-made.ensures.commits c.as_str-text.ensures.value;
})
