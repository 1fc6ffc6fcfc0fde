use Rattle.std.proofs.Common.{sym, ap, ◌∙◌}
use Rattle.std.specs.Prelude.{position}
use Rattle.reserving.proofs.KeysFound.{unplaced}
use Rattle.keepers.specs.Memory.{is_entry, entry_in}
use Rattle.keepers.proofs.Placed.{read_at}
use Rattle.keepers.proofs.accounts.Accounts.find.Goals as goal

pub returns-in-Some : goal.returns-in-Some
returns-in-Some c =
    let n = c.args.number.now in
    read_at (is_entry n) c.in-Some.place c.deref.result.now c.get.result
    (ap (position (is_entry n)) c.deref.ensures.value ∙ sym (c.args.self.now.placed n)
    ∙ sym c.place_of.ensures ∙ c.in-Some.is) c.get.ensures.lookup.2 c.get.ensures.lookup.1
    ∙ ap (entry_in n) c.deref.ensures.value

pub returns-in-None : goal.returns-in-None
returns-in-None c = sym (unplaced (is_entry c.args.number.now) c.args.self.now.entries.items
    (sym (c.args.self.now.placed c.args.number.now) ∙ sym c.place_of.ensures ∙ c.in-None.is))
