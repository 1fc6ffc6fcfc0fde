use Rattle.std.proofs.Common.{◌≡◌, ◌∙◌, sym}
use Rattle.commands.specs.declared.command.Command.TheVariants as command
use Rattle.commands.specs.declared.command.Content.TheVariants as content
use Rattle.commands.specs.Keys.{key_of}
use Rattle.charging.specs.Stepping.{IsFirstAsked}
use Rattle.charging.proofs.outcomes.PartsServed.{AreReads, read_of, reads_then, served_after}
use Rattle.charging.proofs.outcomes.PartsServed.{told_after}
use Rattle.charging.proofs.outcomes.Serving.{none_loaded, some_loaded, served-as}
use Rattle.charging.proofs.outcomes.Operated.{credit-unknown, credit-again}
use Rattle.charging.proofs.operators.serve_credit.Goals as goal
use Rattle.charging.proofs.operators.serve_credit.Goals.{After-credit_account}

pub returns-in-Some : goal.returns-in-Some
returns-in-Some g c = told_after (read_of c.in_ok-kept.ensures) (λ clean list time is le.
    credit-again c.args.shelf.now list c.args.credit c.args.moment
    (g.K.Keeper.seen c.args.keeper.now).tables (g.K.Keeper.seen c.find_referenced.new.keeper).tables
    c.in-Some.kept c.in_ok-first_or_conflict.field-0 time le is
    (sym (c.in_ok-kept.ensures.found clean) ∙ c.in-Some.is)
    (c.in_ok-first_or_conflict.ensures (content.Credit c.args.credit)
    c.is_kept_credit-is_same.ensures)
    (c.in_ok-kept.ensures.same clean))

pub returns-in_default-2 : goal.returns-in_default-2
returns-in_default-2 g c =
    let reads = reads_then (read_of c.in_ok-kept.ensures) (read_of c.in_ok-loaded.ensures) in
    told_after reads (λ clean list time is le.
    served-as c.args.shelf.now list (command.Credit c.args.credit) c.args.moment
    (g.K.Keeper.seen c.args.keeper.now).tables (g.K.Keeper.seen c.load.new.self).tables
    c.in_ok-refuse.field-0 _ c.in_ok-refuse.ensures
    (credit-unknown c.args.shelf.now list c.args.credit c.args.moment
    (g.K.Keeper.seen c.args.keeper.now).tables (g.K.Keeper.seen c.load.new.self).tables time le is
    (none_loaded c.args.shelf.now c.args.moment c.args.credit.account
    (g.K.Keeper.seen c.find_referenced.new.keeper).tables
    (g.K.Keeper.seen c.args.keeper.now).tables c.in_ok-loaded.field-0
    (c.in_ok-kept.ensures.same (c.in_ok-loaded.ensures.cleanness clean))
    (c.in_ok-loaded.ensures.found clean) c.in_default-2.is) (reads.same clean)))

-- what was loaded and what was looked for, of the tables that both reads leave
first : (g : _) (c : After-credit_account g) → (g.K.Keeper.seen c.load.new.self).clean →
    IsFirstAsked c.args.moment c.args.credit.account (key_of (content.Credit c.args.credit))
    c.in-Some-2.loaded (g.K.Keeper.seen c.load.new.self).tables c.args.shelf.now
first g c clean =
    let clean_find = c.in_ok-loaded.ensures.cleanness clean in
    let same = c.in_ok-loaded.ensures.same clean in
    record {
      load = some_loaded c.args.shelf.now c.args.moment c.args.credit.account
          (g.K.Keeper.seen c.find_referenced.new.keeper).tables
          (g.K.Keeper.seen c.load.new.self).tables c.in_ok-loaded.field-0 c.in-Some-2.loaded
          (sym same) (c.in_ok-loaded.ensures.found clean) c.in-Some-2.is;
      fresh = (λ i. ((same ∙ c.in_ok-kept.ensures.same clean_find) i).answers
          c.args.credit.account (key_of (content.Credit c.args.credit)))
          ∙ sym (c.in_ok-kept.ensures.found clean_find) ∙ c.in_default.is;
    }

pub returns : goal.returns
returns g c = served_after
    (reads_then (read_of c.in_ok-kept.ensures) (read_of c.in_ok-loaded.ensures))
    c.in_ok-loaded.ensures.stands (first g (goal.at.returns g c).After-credit_account)
    c.credit_account.ensures
