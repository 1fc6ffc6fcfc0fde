use Rattle.std.proofs.Common.{rules, ◌≡◌, ◌∙◌, ap, sym, subst}
use Rattle.commands.specs.declared.answer.Answer.TheVariants as answer
use Rattle.commands.specs.declared.command.Command.TheVariants as command
use Rattle.commands.specs.declared.command.Content.TheVariants as content
use Rattle.commands.specs.Keys.{key_of}
use Rattle.voucher_rules.specs.Redeeming.{redemption}
use Rattle.charging.specs.Outcomes.{book_days}
use Rattle.charging.specs.Stepping.{IsRedeemable}
use Rattle.charging.proofs.outcomes.PartsServed.{AreReads, read_of, reads_then, served_after}
use Rattle.charging.proofs.outcomes.PartsServed.{told_after}
use Rattle.charging.proofs.outcomes.Serving.{none_loaded, some_loaded, served-as}
use Rattle.charging.proofs.outcomes.Vouchered.{redeem-unknown, redeem-again, redeem-refused}
use Rattle.charging.proofs.voucher_commands.serve_redemption.Goals as goal
use Rattle.charging.proofs.voucher_commands.serve_redemption.Goals.{After-credit_redeemed}

pub returns-in-Some : goal.returns-in-Some
returns-in-Some g c = told_after (read_of c.in_ok-kept.ensures) (λ clean list time is le.
    redeem-again c.args.shelf.now list c.args.asked c.args.moment
    (g.K.Keeper.seen c.args.keeper.now).tables (g.K.Keeper.seen c.find_referenced.new.keeper).tables
    c.in-Some.kept c.in_ok-first_or_conflict.field-0 time le is
    (sym (c.in_ok-kept.ensures.found clean) ∙ c.in-Some.is)
    (c.in_ok-first_or_conflict.ensures (content.Redeem c.args.asked)
    c.is_kept_redemption-is_same.ensures)
    (c.in_ok-kept.ensures.same clean))

-- what was loaded and what was looked for, of the tables that all reads leave
may : (g : _) (c : After-credit_redeemed g) → (g.K.Keeper.seen c.load.new.self).clean →
    IsRedeemable c.args.moment c.args.asked c.in_ok-code.code c.in-Ok.redeemed c.in-Some-2.loaded
    (g.K.Keeper.seen c.load.new.self).tables c.args.shelf.now
may g c clean_load =
    let clean_voucher = c.in_ok-loaded.ensures.cleanness clean_load in
    let clean_find = c.in_ok-found.ensures.cleanness clean_voucher in
    let same_load = c.in_ok-loaded.ensures.same clean_load in
    let same_voucher = c.in_ok-found.ensures.same clean_voucher in
    let same = same_load ∙ same_voucher ∙ c.in_ok-kept.ensures.same clean_find in
    record {
      first = record {
        load = some_loaded c.args.shelf.now c.args.moment c.args.asked.account
            (g.K.Keeper.seen c.find_voucher.new.self).tables
            (g.K.Keeper.seen c.load.new.self).tables c.in_ok-loaded.field-0 c.in-Some-2.loaded
            (sym same_load) (c.in_ok-loaded.ensures.found clean_load) c.in-Some-2.is;
        fresh = (λ i. (same i).answers c.args.asked.account
            (key_of (content.Redeem c.args.asked))) ∙ sym (c.in_ok-kept.ensures.found clean_find)
            ∙ c.in_default.is;
      };
      coded = search rules;
      redeems = ap
          (λ o. redemption (book_days c.args.shelf.now) o c.args.asked.account c.args.moment)
          ((λ i. ((same_load ∙ same_voucher) i).vouchers c.args.asked.code)
          ∙ sym (c.in_ok-found.ensures.found clean_voucher))
          ∙ sym c.in_ok-redeemed.ensures ∙ c.in-Ok.is;
    }

pub returns-in-Ok : goal.returns-in-Ok
returns-in-Ok g c = served_after
    (reads_then (reads_then (read_of c.in_ok-kept.ensures) (read_of c.in_ok-found.ensures))
    (read_of c.in_ok-loaded.ensures)) c.in_ok-loaded.ensures.stands
    (may g (goal.at.returns-in-Ok g c).After-credit_redeemed) c.credit_redeemed.ensures

pub returns-in_ok-refuse-in-Err : goal.returns-in_ok-refuse-in-Err
returns-in_ok-refuse-in-Err g c =
    let before = reads_then (read_of c.in_ok-kept.ensures) (read_of c.in_ok-found.ensures) in
    let reads = reads_then before (read_of c.in_ok-loaded.ensures) in
    let given = ap (λ k. (g.K.Keeper.seen k).tables) c.abandon.ensures in
    record {
      served = λ clean list time is le.
          let clean_load = subst (λ k. (g.K.Keeper.seen k).clean) c.abandon.ensures clean in
          let clean_voucher = c.in_ok-loaded.ensures.cleanness clean_load in
          let clean_find = c.in_ok-found.ensures.cleanness clean_voucher in
          let loads = some_loaded c.args.shelf.now c.args.moment c.args.asked.account
          (g.K.Keeper.seen c.find_voucher.new.self).tables
          (g.K.Keeper.seen c.args.keeper.now).tables c.in_ok-loaded.field-0 c.in-Some-2.loaded
          (before.same clean_voucher) (c.in_ok-loaded.ensures.found clean_load) c.in-Some-2.is in
          let fresh = sym (c.in_ok-kept.ensures.found clean_find) ∙ c.in_default.is in
          let redeems = ap
          (λ o. redemption (book_days c.args.shelf.now) o c.args.asked.account c.args.moment)
          ((λ i. (sym (c.in_ok-kept.ensures.same clean_find) i).vouchers c.args.asked.code)
          ∙ sym (c.in_ok-found.ensures.found clean_voucher))
          ∙ sym c.in_ok-redeemed.ensures ∙ c.in-Err.is in
          served-as c.args.shelf.now list (command.Redeem c.args.asked) c.args.moment
          (g.K.Keeper.seen c.args.keeper.now).tables (g.K.Keeper.seen c.abandon.new.self).tables
          c.in_ok-refuse-in-Err.field-0 _
          (c.in_ok-refuse-in-Err.ensures ∙ ap answer.Refused c.told_refusal.ensures)
          (redeem-refused c.args.shelf.now list c.args.asked c.args.moment
          (g.K.Keeper.seen c.args.keeper.now).tables (g.K.Keeper.seen c.abandon.new.self).tables
          c.in-Some-2.loaded c.in-Err.refusal time le is loads fresh redeems
          (given ∙ reads.same clean_load));
      refused = λ clean e.
          given ∙ reads.same (subst (λ k. (g.K.Keeper.seen k).clean) c.abandon.ensures clean);
      kept = search rules;
      left = search rules;
    }

pub returns-in_default-2 : goal.returns-in_default-2
returns-in_default-2 g c =
    let before = reads_then (read_of c.in_ok-kept.ensures) (read_of c.in_ok-found.ensures) in
    let reads = reads_then before (read_of c.in_ok-loaded.ensures) in
    told_after reads (λ clean list time is le.
    served-as c.args.shelf.now list (command.Redeem c.args.asked) c.args.moment
    (g.K.Keeper.seen c.args.keeper.now).tables (g.K.Keeper.seen c.load.new.self).tables
    c.in_ok-refuse.field-0 _ c.in_ok-refuse.ensures
    (redeem-unknown c.args.shelf.now list c.args.asked c.args.moment
    (g.K.Keeper.seen c.args.keeper.now).tables (g.K.Keeper.seen c.load.new.self).tables time le is
    (none_loaded c.args.shelf.now c.args.moment c.args.asked.account
    (g.K.Keeper.seen c.find_voucher.new.self).tables
    (g.K.Keeper.seen c.args.keeper.now).tables c.in_ok-loaded.field-0
    (before.same (c.in_ok-loaded.ensures.cleanness clean))
    (c.in_ok-loaded.ensures.found clean) c.in_default-2.is) (reads.same clean)))
