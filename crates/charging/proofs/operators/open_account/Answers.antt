use Rattle.std.proofs.Common.{◌∙◌, ap, refl, sym, [], None}
use Rattle.commands.specs.declared.answer.Answer.TheVariants as answer
use Rattle.commands.specs.declared.command.Command.TheVariants as command
use Rattle.reserving.specs.Stored.{StoredRows, stored}
use Rattle.keepers.specs.declared.loaded.Change.{Change}
use Rattle.keepers.specs.Differing.{named_rows}
use Rattle.keepers.specs.Tables.{Tables}
use Rattle.charging.specs.Stepping.{Answers, Commits}
use Rattle.charging.proofs.outcomes.PartsServed.{committed_after, read_of, told_after}
use Rattle.charging.proofs.outcomes.Serving.{commits-from, served-as}
use Rattle.charging.proofs.outcomes.Operated.{not-there, open-again, open-done}
use Rattle.charging.proofs.operators.open_account.Goals as goal
use Rattle.charging.proofs.operators.open_account.Goals.{After-commit}

pub returns-then-branch : goal.returns-then-branch
returns-then-branch g c = told_after (read_of c.in_ok-has_account.ensures)
    (λ clean list time is le.
    served-as c.args.shelf.now list (command.OpenAccount c.args.number) c.args.moment
    (g.K.Keeper.seen c.args.keeper.now).tables (g.K.Keeper.seen c.has_account.new.self).tables
    c.in_ok-refuse.field-0 _ c.in_ok-refuse.ensures
    (open-again c.args.shelf.now list c.args.number c.args.moment
    (g.K.Keeper.seen c.args.keeper.now).tables (g.K.Keeper.seen c.has_account.new.self).tables time
    le is (sym (c.in_ok-has_account.ensures.found clean) ∙ c.if-branch.true)
    (c.in_ok-has_account.ensures.same clean)))

-- the change of a new account
abbrev change : (g : _) → After-commit g → Change
change g c = record {
  moment = c.advance.new.self.as_of;
  number = c.args.number;
  rows = named_rows c.into_earlier-before.result (stored c.advance.new.self);
  charges = c.new-2.result;
  kept = None;
  redeemed = None;
}

-- what its commit makes is what the command comes to
done : (g : _) (c : After-commit g) (t : Tables) → (g.K.Keeper.seen c.has_account.new.self).clean →
    Commits (change g c) (g.K.Keeper.seen c.has_account.new.self).tables t →
    Answers c.args.shelf.now (command.OpenAccount c.args.number) c.args.moment
    (g.K.Keeper.seen c.args.keeper.now).tables t answer.Done
done g c t clean made = λ list time is le.
    open-done c.args.shelf.now list c.args.number c.args.moment c.advance.new.self c.new.result
    (change g c) (g.K.Keeper.seen c.args.keeper.now).tables t time le is
    (not-there (g.K.Keeper.seen c.args.keeper.now).tables c.args.number
    (sym (c.in_ok-has_account.ensures.found clean) ∙ c.if-branch.false))
    (record {
      account = c.commit.ensures.account;
      priced_by = (λ i. (c.advance.ensures.rows i).shelf)
          ∙ (λ i. (c.new-account.ensures.rows i).shelf);
      at_moment = λ i. (c.advance.ensures.rows i).as_of;
      rows = c.advance.ensures.ledger [] c.new-account.ensures.ledger;
      named = refl;
      moment = refl;
      after = ap (λ (w : StoredRows). named_rows w (stored c.advance.new.self))
          (c.into_earlier-before.ensures ∙ c.into_stored.ensures);
      kept = refl;
      redeemed = refl;
      charges = c.new-2.ensures.items;
      buckets = λ i. (c.new.ensures.rows i).buckets;
      counters = λ i. (c.new.ensures.rows i).counters;
      sessions = λ i. (c.new.ensures.rows i).sessions;
      groups = λ i. (c.new.ensures.rows i).groups;
    })
    (commits-from (change g c) (g.K.Keeper.seen c.args.keeper.now).tables
    (g.K.Keeper.seen c.has_account.new.self).tables t (c.in_ok-has_account.ensures.same clean) made)

pub returns : goal.returns
returns g c = committed_after (read_of c.in_ok-has_account.ensures)
    c.in_ok-has_account.ensures.stands answer.Done refl c.commit.ensures.commits
    (done g (goal.at.returns g c).After-commit)
