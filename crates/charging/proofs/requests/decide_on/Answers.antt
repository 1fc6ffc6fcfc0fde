use Rattle.std.proofs.Common.{◌≡◌, ◌∙◌, ap, refl, sym, false, Some, None, rules}
use Rattle.std.specs.Prelude.{if◌then◌else◌, not}
use Rattle.commands.specs.declared.answer.Answer.TheVariants as answer
use Rattle.commands.specs.declared.command.Command.TheVariants.{Ccr}
use Rattle.commands.specs.declared.command.Content.TheVariants as content
use Rattle.shelves.specs.Shelves.{Shelf}
use Rattle.reserving.specs.Earlier.{earlier_of}
use Rattle.reserving.specs.Stored.{StoredRows, stored}
use Rattle.keepers.specs.declared.loaded.Change.{Change}
use Rattle.keepers.specs.declared.loaded.Loaded.{Loaded}
use Rattle.keepers.specs.Differing.{named_rows, named_for}
use Rattle.keepers.specs.Tables.{Tables}
use Rattle.keepers.proofs.NamedOwn.{named_earlier}
use Rattle.charging.specs.Stepping.{Answers, Commits, IsUndecided}
use Rattle.charging.proofs.outcomes.Operated.{made_for, named_so}
use Rattle.charging.proofs.outcomes.Requested.{request-told, request-done}
use Rattle.charging.proofs.outcomes.PartsServed.{committed_given}
use Rattle.charging.proofs.outcomes.Serving.{served-as}
use Rattle.charging.proofs.requests.decide_on.Goals as goal
use Rattle.charging.proofs.requests.decide_on.Goals.{After-keep}

-- the account as it was viewed, with a copy of all its rows
abbrev found : (g : _) → After-keep g → Loaded
found g c = record {
  number = c.args.request.account;
  account = c.args.account;
  before = stored c.args.account;
}

-- the change of an accepted request: its rows are those that differ from the ones that were kept
abbrev change : (g : _) → After-keep g → Change
change g c = made_for c.in-Ok.decided.own (record {
  number = c.in_ok-number.number;
  account = c.decide.new.account;
  before = c.in_ok-before.before;
}) c.decide.new.account c.in-Ok.decided.charges
    (Some (record {
      content = content.Request c.args.request;
      answer = answer.Request c.in-Ok.decided.answer;
    })) None

-- and these are those that differ from all that was viewed
named : (g : _) (c : After-keep g) → (change g c).rows
    ≡ named_rows (stored c.args.account) (stored c.decide.new.account)
named g c =
    ap (λ (w : StoredRows). named_for c.in-Ok.decided.own w (stored c.decide.new.account))
    (c.in_ok-before.ensures ∙ ap (λ own. earlier_of own (stored c.args.account))
    (c.own_of.ensures ∙ sym c.in-Ok.ensures.own.0))
    ∙ named_earlier c.in-Ok.decided.own (stored c.args.account) (stored c.decide.new.account)
    ∙ named_so c.in-Ok.decided.own c.args.request.session (found g c) c.decide.new.account refl
    c.in-Ok.ensures.own.1

-- what its commit makes is what the request comes to
done : (g : _) (c : After-keep g) (t : Tables) →
    Commits (change g c) (g.K.Keeper.seen c.args.keeper.now).tables t → (b : Shelf) →
    IsUndecided c.args.moment c.args.request c.args.account
    (g.K.Keeper.seen c.args.keeper.now).tables b →
    Answers b (Ccr c.args.request) c.args.moment (g.K.Keeper.seen c.args.keeper.now).tables t
    (answer.Request c.in-Ok.decided.answer)
done g c t made = λ b asked list time is le.
    let number : c.in_ok-number.number ≡ c.args.request.account = search rules in
    request-done b list c.args.request c.args.moment (g.K.Keeper.seen c.args.keeper.now).tables t
    (found g c) time le is
    (record { load = (refl, asked.loads, refl); account = c.moment_on-moment.ensures.kept })
    asked.fresh asked.new c.moment_on-moment.result c.moment_on-moment.ensures.value
    c.in-Ok.decided.answer c.in-Ok.decided.accepted
    (λ ledger left rows fit. (c.in-Ok.ensures.decided ledger left rows fit).answer)
    (λ ledger left rows fit. (c.in-Ok.ensures.decided ledger left rows fit).accepted)
    c.decide.new.account (change g c) (answer.Request c.in-Ok.decided.answer) c.if-decide.true
    c.decide.ensures.tariff
    (c.in-Ok.ensures.moment ∙ ap
    (λ v. if v then c.moment_on-moment.result else c.args.account.as_of)
    c.if-decide.true)
    (λ ledger left rows fit. (c.in-Ok.ensures.decided ledger left rows fit).rows)
    (λ ledger left rows fit. (c.in-Ok.ensures.decided ledger left rows fit).charges)
    number refl (named g c) refl refl refl made

pub returns-in-Ok : goal.returns-in-Ok
returns-in-Ok g c = committed_given (answer.Request c.in-Ok.decided.answer)
    (ap not (c.in-Ok.decided.told c.if-decide.true)) c.keep.ensures
    (done g (goal.at.returns-in-Ok g c).After-keep)

pub returns-in_ok-new-in-Ok-2 : goal.returns-in_ok-new-in-Ok-2
returns-in_ok-new-in-Ok-2 g c = record {
  served = λ clean b asked list time is le.
      served-as b list (Ccr c.args.request) c.args.moment
      (g.K.Keeper.seen c.args.keeper.now).tables (g.K.Keeper.seen c.args.keeper.now).tables
      c.in_ok-new-in-Ok-2.field-0 _ c.in_ok-new-in-Ok-2.ensures
      (request-told b list c.args.request c.args.moment (g.K.Keeper.seen c.args.keeper.now).tables
      (g.K.Keeper.seen c.args.keeper.now).tables (record {
        number = c.args.request.account;
        account = c.args.account;
        before = stored c.args.account;
      }) time le is
      (record { load = (refl, asked.loads, refl); account = c.moment_on-moment.ensures.kept })
      asked.fresh asked.new c.moment_on-moment.result c.moment_on-moment.ensures.value
      c.in-Ok.decided.answer c.in-Ok.decided.accepted
      (λ ledger left rows fit. (c.in-Ok.ensures.decided ledger left rows fit).answer)
      (λ ledger left rows fit. (c.in-Ok.ensures.decided ledger left rows fit).accepted)
      c.if-decide.false refl);
  refused = λ clean e. refl;
  kept = search rules;
  left = search rules;
}
