use Rattle.sql_keeper.proofs.shelf.OneShelf.{one_shelf}
use Rattle.sql_keeper.proofs.laws.shelves_are_one.Goals as goal

pub returns : goal.returns
returns c = one_shelf
