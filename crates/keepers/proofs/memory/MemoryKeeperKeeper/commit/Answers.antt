use Rattle.std.proofs.Common.{rules, ◌+◌, length, ◌∙◌, ap}
use Rattle.std.specs.Prelude.{if◌then◌else◌}
use Rattle.keepers.specs.Change.{redeemed_over}
use Rattle.keepers.specs.Memory.{entry_in}
use Rattle.keepers.proofs.Placed.{head_there, charge_over, on_err, on_ok}
use Rattle.keepers.proofs.MemoryTables.{same_vouchers, same_tables}
use Rattle.keepers.proofs.memory.MemoryKeeperKeeper.commit.Goals as goal

pub returns-clause-done : goal.returns-clause-done
returns-clause-done c = λ _.
    let items = c.args.self.now.accounts.entries.items in
    let change = c.args.change in
    (λ i. record {
      last = change.moment;
      rows = λ a. c.in_ok-put.ensures.done.rows a i;
      answers = λ a k. c.in_ok-put.ensures.done.answers a k i;
      charges = λ a n. charge_over change.number a n items _ change.charges.items
          (c.in_ok-put.ensures.done.charges a) i;
      vouchers = λ code. (c.put_redeemed.ensures.put code
          ∙ ap (redeemed_over change.redeemed code) (c.make_voucher_room.ensures.same code)) i;
      count = (c.in_ok-put.ensures.done.count
          ∙ (λ j. if head_there (entry_in change.number items) j then length items
          else length items + 1)) i;
    })

pub returns-in_err-make_voucher_room-clause-kept :
    goal.returns-in_err-make_voucher_room-clause-kept
returns-in_err-make_voucher_room-clause-kept c = record {
  err = λ _. on_err c.from_residual.result
      (same_vouchers c.args.self.now.last c.args.self.now.accounts.entries.items
      c.args.self.now.vouchers c.make_voucher_room.new.vouchers c.make_voucher_room.ensures.same);
  cleanness = λ _. tt;
  honesty = λ _. tt;
  stands = λ _. on_ok c.from_residual.result tt;
  left = λ _ _ none. absurd none;
  cause = search rules;
}

pub returns-in_err-put-clause-kept : goal.returns-in_err-put-clause-kept
returns-in_err-put-clause-kept c = record {
  err = λ _. on_err c.from_residual-in_err-put.result
      (same_tables c.args.self.now.last c.args.self.now.accounts.entries.items
      c.put.new.self.entries.items c.args.self.now.vouchers c.make_voucher_room.new.vouchers
      c.in_err-put.ensures.err c.make_voucher_room.ensures.same);
  cleanness = λ _. tt;
  honesty = λ _. tt;
  stands = λ _. on_ok c.from_residual-in_err-put.result tt;
  left = λ _ _ none. absurd none;
  cause = search rules;
}
