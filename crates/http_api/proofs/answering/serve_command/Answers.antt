use Rattle.std.proofs.Common.{refl, subst, Ok, inl}
use Rattle.http_messages.specs.Asking.{reads}
use Rattle.http_messages.specs.Texts.{response, unable}
use Rattle.http_messages.specs.Statuses.{ok, service_unavailable}
use Rattle.wire.specs.Spelled.{answer_text}
use Rattle.http_api.specs.Replies.{Replies}
use Rattle.http_api.proofs.Continuing.{continued_step, leaves_step, held_step}
use Rattle.http_api.proofs.RequestReplies.{unclocked_reply, failed_reply}
use Rattle.http_api.proofs.RequestReplies.{served_reply}
use Rattle.http_api.proofs.ShownReplies.{shows_new, shows_same, shows_failed}
use Rattle.http_api.proofs.answering.serve_command.Goals as goal

pub returns-in-Ok-clause-goes_on : goal.returns-in-Ok-clause-goes_on
returns-in-Ok-clause-goes_on g c = record {
  fault = c.tell_answer.ensures.fault;
  continued = λ clean. continued_step c.args.shelf.now c.args.command c.in-Some.moment
      (g.K.Keeper.seen c.args.keeper.now).tables (g.K.Keeper.seen c.step.new.keeper).tables
      c.step.result (c.step.ensures.served clean);
  cleanness = c.step.ensures.kept.cleanness;
  honesty = c.step.ensures.kept.honesty;
  left = leaves_step c.args.shelf.now c.args.command c.in-Some.moment
      (g.K.Keeper.seen c.args.keeper.now) (g.K.Keeper.seen c.step.new.keeper) c.step.ensures.left;
  failures = c.step.ensures.kept.cause.kept;
}

pub returns-in-Err-clause-goes_on : goal.returns-in-Err-clause-goes_on
returns-in-Err-clause-goes_on g c = record {
  fault = c.tell_unable-in-Err.ensures.fault;
  continued = λ clean. continued_step c.args.shelf.now c.args.command c.in-Some.moment
      (g.K.Keeper.seen c.args.keeper.now).tables (g.K.Keeper.seen c.step.new.keeper).tables
      c.step.result (c.step.ensures.served clean);
  cleanness = c.step.ensures.kept.cleanness;
  honesty = c.step.ensures.kept.honesty;
  left = leaves_step c.args.shelf.now c.args.command c.in-Some.moment
      (g.K.Keeper.seen c.args.keeper.now) (g.K.Keeper.seen c.step.new.keeper) c.step.ensures.left;
  failures = c.step.ensures.kept.cause.kept;
}

pub returns-in_default-clause-shown : goal.returns-in_default-clause-shown
returns-in_default-clause-shown g c = shows_same
    (Replies g.C.Clock.gives c.args.shelf.now (reads (Ok c.args.command)) c.args.following.closes
    c.args.clock.now c.now.new.self) c.args.shelf.now (g.W.Write.contents c.args.writer.now)
    (g.W.Write.contents c.tell_unable.new.writer) (g.K.Keeper.seen c.args.keeper.now)
    (g.K.Keeper.seen c.args.keeper.now) c.tell_unable.result
    (λ Writes. Writes (response service_unavailable c.args.following.closes unable))
    (λ clean. clean)
    (λ clean. refl)
    (λ honest t l. l)
    (λ Writes t w. unclocked_reply g.C.Clock.gives c.args.shelf.now c.args.following.closes Writes
    c.args.command c.args.clock.now c.now.new.self t
    (subst (λ o. g.C.Clock.gives c.args.clock.now o c.now.new.self) c.in_default.is c.now.ensures)
    w) c.tell_unable.ensures.ok c.tell_unable.ensures.err

pub returns-in-Ok-clause-shown : goal.returns-in-Ok-clause-shown
returns-in-Ok-clause-shown g c = shows_new
    (Replies g.C.Clock.gives c.args.shelf.now (reads (Ok c.args.command)) c.args.following.closes
    c.args.clock.now c.now.new.self) c.args.shelf.now (g.W.Write.contents c.args.writer.now)
    (g.W.Write.contents c.tell_answer.new.writer) (g.K.Keeper.seen c.args.keeper.now)
    (g.K.Keeper.seen c.step.new.keeper) c.tell_answer.result
    (λ Writes. Writes (response ok c.args.following.closes (answer_text c.in-Ok.answer)))
    c.in-Ok.ensures.stands c.in-Ok.ensures.kept.cleanness
    (λ clean. continued_step c.args.shelf.now c.args.command c.in-Some.moment
    (g.K.Keeper.seen c.args.keeper.now).tables (g.K.Keeper.seen c.step.new.keeper).tables
    c.step.result (c.step.ensures.served clean))
    (λ t clean l. g.met.K.Keeper.settled c.step.new.keeper t clean l)
    (λ Writes clean tells. served_reply g.C.Clock.gives c.args.shelf.now c.args.following.closes
    Writes
    c.args.command c.in-Some.moment c.args.clock.now c.now.new.self
    (g.K.Keeper.seen c.args.keeper.now).tables (g.K.Keeper.seen c.step.new.keeper).tables
    c.in-Ok.answer
    (subst (λ o. g.C.Clock.gives c.args.clock.now o c.now.new.self) c.in-Some.is c.now.ensures)
    (c.in-Ok.ensures.served clean) tells) c.tell_answer.ensures.ok c.tell_answer.ensures.err

pub returns-in-Err-clause-shown : goal.returns-in-Err-clause-shown
returns-in-Err-clause-shown g c = shows_failed
    (Replies g.C.Clock.gives c.args.shelf.now (reads (Ok c.args.command)) c.args.following.closes
    c.args.clock.now c.now.new.self) c.args.shelf.now (g.W.Write.contents c.args.writer.now)
    (g.W.Write.contents c.tell_unable-in-Err.new.writer) (g.K.Keeper.seen c.args.keeper.now)
    (g.K.Keeper.seen c.step.new.keeper) c.tell_unable-in-Err.result
    (record { moment = c.in-Some.moment; command = c.args.command })
    (λ Writes. Writes (response service_unavailable c.args.following.closes unable))
    c.in-Err.ensures.kept.cleanness c.in-Err.ensures.kept.err c.in-Err.ensures.left
    (λ Writes t w. failed_reply g.C.Clock.gives c.args.shelf.now c.args.following.closes Writes
    c.args.command c.in-Some.moment c.args.clock.now c.now.new.self t t c.in-Err.field-0
    (subst (λ o. g.C.Clock.gives c.args.clock.now o c.now.new.self) c.in-Some.is c.now.ensures)
    (λ list time are. refl) w) c.tell_unable-in-Err.ensures.ok c.tell_unable-in-Err.ensures.err

pub returns-in_default-clause-held : goal.returns-in_default-clause-held
returns-in_default-clause-held g c = λ h t l. inl l

pub returns-in-Ok-clause-held : goal.returns-in-Ok-clause-held
returns-in-Ok-clause-held g c = held_step c.args.shelf.now c.args.command c.in-Some.moment
    (g.K.Keeper.seen c.args.keeper.now) (g.K.Keeper.seen c.step.new.keeper) c.step.ensures.left

pub returns-in-Err-clause-held : goal.returns-in-Err-clause-held
returns-in-Err-clause-held g c = held_step c.args.shelf.now c.args.command c.in-Some.moment
    (g.K.Keeper.seen c.args.keeper.now) (g.K.Keeper.seen c.step.new.keeper) c.step.ensures.left
