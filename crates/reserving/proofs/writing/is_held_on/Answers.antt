use Rattle.std.proofs.Common.{rules, ◌≡◌}
use Rattle.reserving.proofs.WrittenOver.{held_now}
use Rattle.reserving.proofs.writing.is_held_on.Goals as goal

pub goes_on-requires-clause-held : goal.goes_on-requires-clause-held
goes_on-requires-clause-held c =
    let number : c.args.old.now.number ≡ c.args.new.now.number = search rules in
    held_now c.args.rows.now c.args.old.now c.args.new.now c.reserved.result number
    c.reserved.ensures.amount c.requires.held
