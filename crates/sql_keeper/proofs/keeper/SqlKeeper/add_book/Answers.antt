use Rattle.std.proofs.Common.{refl}
use Rattle.sql_keeper.proofs.shelf.AddedBooks.{added_keeper, adds_book}
use Rattle.sql_keeper.proofs.keeper.SqlKeeper.add_book.Goals as goal

pub add_to_all-added-requires-clause-last : goal.add_to_all-added-requires-clause-last
add_to_all-added-requires-clause-last g c = λ clean on.
    (c.self.invariant.keeper.held clean on).moment

pub invariant_of-self : goal.invariant_of-self
invariant_of-self g c = record {
  keeper = added_keeper g.S.Store _ _ c.args.text.now c.args.from
      c.in_ok-books.books.own c.in_ok-books.ensures.read c.args.shelf.now
      c.add_to_all-added.new.shelf c.self.inside.shelf c.add_to_all-added.new.own refl refl
      c.self.invariant.keeper c.add_to_all-added.result c.add_to_all-added.ensures.adds
      refl refl c.add_to_all-added.ensures.plain
      c.counted.ensures.bounded;
  seen = λ clean on. tt;
  kept = λ clean on. tt;
}

pub returns : goal.returns
returns g c =
    rw (← c.self.view_is) (rw c.told.ensures (adds_book g.S.Store _ _ c.args.text.now c.args.from
    c.in_ok-books.books.own c.in_ok-books.ensures.read c.args.shelf.now
    c.add_to_all-added.new.shelf c.self.inside.shelf c.add_to_all-added.new.own refl refl
    c.self.invariant.keeper c.add_to_all-added.result c.counted.result c.counted.ensures.handed
    c.add_to_all-added.ensures.adds c.counted.ensures.cause))
