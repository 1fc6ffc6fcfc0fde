-- What the calls on a request say, for each ledger whose rows the account's are together with those
-- left.
-- Source: RFC 8506 sections 5.1, 6 and 9.
use Rattle.std.specs.Prelude.{◌≡◌, Bool, false, if◌then◌else◌, [], ◌++◌, Option, Some, None}
use Rattle.std.specs.Prelude.{is_some, Result, IfOk, IfSome}
use Rattle.units.specs.Words.{Moment}
use Rattle.identifiers.specs.Words.{SessionName}
use Rattle.commands.specs.declared.request.Request.{Request}
use Rattle.commands.specs.declared.answer.RequestAnswer.{RequestAnswer}
use Rattle.ledger.specs.Ledger.{Ledger}
use Rattle.reserving.specs.Rows.{AccountRows}
use Rattle.reserving.specs.Left.{LeftRows, IsWith}
use Rattle.ledger.specs.Charges.{charge_rows}
use Rattle.reserving.specs.Calm.{is_quiet_at}
use Rattle.reserving.specs.Others.{other_rows}
use Rattle.decisions.specs.declared.decided.Decided.{Decided}
use Rattle.decisions.specs.Asked.{IsAsked}
use Rattle.decisions.specs.Decisions.{Decision, decision, answer_of, is_read}

-- the session whose rows alone may change: the request's, where nothing ends at the moment
-- rule: database-writes.quiet-at
abbrev pub own_of : Request → Moment → AccountRows → Option SessionName
own_of r t a = if is_quiet_at t a then Some r.session else None

-- the answer, whether the request is accepted, and its charges are the decision's, and the account
-- has the rows of the ledger after it
pub record IsDecided (request : Request) (ruling : Decision) (ledger : Ledger) (left : LeftRows)
    (t : Moment) (after : AccountRows) (d : Decided) : Type 0 where
  pub answer : d.answer ≡ answer_of request ruling.outcome
  pub accepted : d.accepted ≡ ruling.accepted
  pub rows : IsWith ruling.after left t after
  pub charges : charge_rows ruling.after ≡ charge_rows ledger ++ d.charges.items

-- a request is decided; what isn't accepted changes nothing; where its session is named, no row of
-- another session has changed
pub record Decides {E : Type 0} (request : Request) (known : Bool) (t : Moment)
    (before after : AccountRows) (result : Result Decided E) : Type 0 where
  pub decided : IfOk result (λ d. (ledger : Ledger) (left : LeftRows) →
      IsWith ledger left t before → IsAsked ledger left request known →
      IsDecided request (decision before.shelf t request ledger) ledger left t after d)
  pub moment : IfOk result (λ d. after.as_of ≡ (if d.accepted then t else before.as_of))
  pub tariff : after.shelf ≡ before.shelf
  pub refused : IfOk result (λ d. d.accepted ≡ false →
      (after ≡ before) × (d.charges.items ≡ []))
  pub own : IfOk result (λ d. (d.own ≡ own_of request t before) ×
      IfSome d.own (λ s. (s ≡ request.session) × (other_rows s after ≡ other_rows s before)))

-- a check of the balance or a price enquiry is answered as it would be decided; nothing else is
pub record ReadsAlone {E : Type 0} (request : Request) (t : Moment) (a : AccountRows)
    (result : Result (Option RequestAnswer) E) : Type 0 where
  pub answer : IfOk result (λ r. IfSome r (λ answer. (ledger : Ledger) (left : LeftRows) →
      IsWith ledger left t a →
      answer ≡ answer_of request (decision a.shelf t request ledger).outcome))
  pub read : IfOk result (λ r. is_some r ≡ is_read request.ask)
