use Rattle.std.proofs.Common.{subst, sym}
use Rattle.sql_keeper.proofs.rebuilding_groups.reservation_of.Goals as goal
use Rattle.sql_keeper.specs.GroupRows.{DoBooksRise, DoHoldsRise}

pub number_of-number-requires : goal.number_of-number-requires
number_of-number-requires c = subst DoBooksRise (sym c.deref.ensures.value) c.requires.books

pub held_for-requires : goal.held_for-requires
held_for-requires c = subst DoHoldsRise (sym c.deref-2.ensures.value) c.requires.holds
