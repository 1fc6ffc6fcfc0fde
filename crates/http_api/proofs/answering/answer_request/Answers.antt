use Rattle.std.proofs.Common.{refl, subst, Ok, inl}
use Rattle.http_messages.specs.Asking.{Asking, IsAskingGiven, reads, states}
use Rattle.http_messages.specs.Refusals.{refusal_status}
use Rattle.http_messages.specs.Texts.{AnswersFault, no_members, response}
use Rattle.http_api.specs.Replies.{Replies}
use Rattle.http_api.proofs.RequestReplies.{refused_reply, unread_reply}
use Rattle.http_api.proofs.RequestReplies.{command_reply, statement_reply}
use Rattle.http_api.proofs.Continuing.{held_asked}
use Rattle.http_api.proofs.ShownReplies.{shows_as, shows_same}
use Rattle.http_api.proofs.answering.answer_request.Goals as goal

pub returns-in-Refused-clause-shown : goal.returns-in-Refused-clause-shown
returns-in-Refused-clause-shown g c = shows_same
    (λ Writes x y. (asking : Asking) → IsAskingGiven asking c.args.asked →
    Replies g.C.Clock.gives c.args.shelf.now asking c.args.following.closes c.args.clock.now
    c.args.clock.now Writes x y) c.args.shelf.now (g.W.Write.contents c.args.writer.now)
    (g.W.Write.contents c.tell_refusal.new.writer) (g.K.Keeper.seen c.args.keeper.now)
    (g.K.Keeper.seen c.args.keeper.now) c.tell_refusal.result
    (λ Writes. Writes (response (refusal_status c.in-Refused.refusal) c.args.following.closes
    no_members))
    (λ clean. clean) (λ clean. refl) (λ honest t l. l)
    (λ Writes t tells asking asked. refused_reply g.C.Clock.gives c.args.shelf.now
    c.args.following.closes
    Writes c.in-Refused.refusal c.args.clock.now t tells asking
    (subst (IsAskingGiven asking) c.in-Refused.is asked)) c.tell_refusal.ensures.ok
    c.tell_refusal.ensures.err

pub returns-in-Unread-clause-shown : goal.returns-in-Unread-clause-shown
returns-in-Unread-clause-shown g c = shows_same
    (λ Writes x y. (asking : Asking) → IsAskingGiven asking c.args.asked →
    Replies g.C.Clock.gives c.args.shelf.now asking c.args.following.closes c.args.clock.now
    c.args.clock.now Writes x y) c.args.shelf.now (g.W.Write.contents c.args.writer.now)
    (g.W.Write.contents c.tell_fault.new.writer) (g.K.Keeper.seen c.args.keeper.now)
    (g.K.Keeper.seen c.args.keeper.now) c.tell_fault.result
    (AnswersFault c.args.following.closes c.in-Unread.fault) (λ clean. clean) (λ clean. refl)
    (λ honest t l. l)
    (λ Writes t tells asking asked. unread_reply g.C.Clock.gives c.args.shelf.now
    c.args.following.closes
    Writes c.in-Unread.fault c.args.clock.now t tells asking
    (subst (IsAskingGiven asking) c.in-Unread.is asked)) c.tell_fault.ensures.ok
    c.tell_fault.ensures.err

pub returns-in-Does-clause-shown : goal.returns-in-Does-clause-shown
returns-in-Does-clause-shown g c = shows_as
    (Replies g.C.Clock.gives c.args.shelf.now (reads (Ok c.in-Does.command)) c.args.following.closes
    c.args.clock.now c.serve_command.new.clock) c.args.shelf.now
    (g.W.Write.contents c.args.writer.now)
    (g.W.Write.contents c.serve_command.new.writer) (g.K.Keeper.seen c.args.keeper.now)
    (g.K.Keeper.seen c.serve_command.new.keeper) c.serve_command.result
    (λ Writes x y. (asking : Asking) → IsAskingGiven asking c.args.asked →
    Replies g.C.Clock.gives c.args.shelf.now asking c.args.following.closes c.args.clock.now
    c.serve_command.new.clock Writes x y)
    (λ Writes x y replies asking asked. command_reply g.C.Clock.gives c.args.shelf.now
    c.args.following.closes
    Writes c.in-Does.command c.args.clock.now c.serve_command.new.clock x y replies asking
    (subst (IsAskingGiven asking) c.in-Does.is asked)) c.serve_command.ensures.shown

pub returns-in-States-clause-shown : goal.returns-in-States-clause-shown
returns-in-States-clause-shown g c = shows_as
    (Replies g.C.Clock.gives c.args.shelf.now (states c.in-States.statement) c.args.following.closes
    c.args.clock.now c.serve_statement.new.clock) c.args.shelf.now
    (g.W.Write.contents c.args.writer.now)
    (g.W.Write.contents c.serve_statement.new.writer) (g.K.Keeper.seen c.args.keeper.now)
    (g.K.Keeper.seen c.serve_statement.new.keeper) c.serve_statement.result
    (λ Writes x y. (asking : Asking) → IsAskingGiven asking c.args.asked →
    Replies g.C.Clock.gives c.args.shelf.now asking c.args.following.closes c.args.clock.now
    c.serve_statement.new.clock Writes x y)
    (λ Writes x y replies asking asked. statement_reply g.C.Clock.gives c.args.shelf.now
    c.args.following.closes
    Writes c.in-States.statement c.args.clock.now c.serve_statement.new.clock x y replies asking
    (subst (IsAskingGiven asking) c.in-States.is asked)) c.serve_statement.ensures.shown

pub returns-in-Refused-clause-held : goal.returns-in-Refused-clause-held
returns-in-Refused-clause-held g c = λ asking asked h t l. inl l

pub returns-in-Unread-clause-held : goal.returns-in-Unread-clause-held
returns-in-Unread-clause-held g c = λ asking asked h t l. inl l

pub returns-in-Does-clause-held : goal.returns-in-Does-clause-held
returns-in-Does-clause-held g c = λ asking asked.
    held_asked c.args.shelf.now c.in-Does.command (g.K.Keeper.seen c.args.keeper.now)
    (g.K.Keeper.seen c.serve_command.new.keeper)
    c.serve_command.ensures.held asking (subst (IsAskingGiven asking) c.in-Does.is asked)

pub returns-in-States-clause-held : goal.returns-in-States-clause-held
returns-in-States-clause-held g c = λ asking asked h t l. inl (c.serve_statement.ensures.reads.left h t l)
