use Rattle.std.proofs.Common.{List, subst, sym, refl}
use Rattle.std.specs.Prelude.{ℕ, None, Some, OnOk, OnErr}
use Rattle.std.specs.Io.KnownBytes.{Appends}
use Rattle.commands.specs.declared.answer.Answer.TheVariants.{Refused}
use Rattle.commands.specs.declared.answer.Refusal.TheVariants.{AccountUnknown}
use Rattle.keepers.specs.Tables.{Tables}
use Rattle.http_messages.specs.Statuses.{service_unavailable}
use Rattle.http_messages.specs.Asking.{states}
use Rattle.http_messages.specs.Texts.{AppendsBeginning, response, unable}
use Rattle.http_api.specs.Replies.{Replies}
use Rattle.http_api.specs.Told.{TellsAnswer, TellsCharges}
use Rattle.http_api.proofs.RequestReplies.{ok_gives, err_gives}
use Rattle.http_api.proofs.StatementReplies.{continued_same, unstated_reply, unknown_reply}
use Rattle.http_api.proofs.StatementReplies.{stated_reply}
use Rattle.http_api.proofs.ShownReplies.{holds_more, holds_new, holds_same, shows_new, shows_same}
use Rattle.http_api.proofs.stating.serve_statement.Goals as goal

pub returns-in_default-clause-shown : goal.returns-in_default-clause-shown
returns-in_default-clause-shown g c = shows_same
    (Replies g.C.Clock.gives c.args.shelf.now (states c.args.asked.now) c.args.following.closes
    c.args.clock.now c.now.new.self) c.args.shelf.now (g.W.Write.contents c.args.writer.now)
    (g.W.Write.contents c.tell_unable.new.writer) (g.K.Keeper.seen c.args.keeper.now)
    (g.K.Keeper.seen c.args.keeper.now) c.tell_unable.result
    (λ Writes. Writes (response service_unavailable c.args.following.closes unable))
    (λ clean. clean)
    (λ clean. refl)
    (λ honest t l. l)
    (λ Writes t w. unstated_reply g.C.Clock.gives c.args.shelf.now c.args.following.closes Writes
    c.args.asked.now None c.args.clock.now c.now.new.self t t
    (subst (λ o. g.C.Clock.gives c.args.clock.now o c.now.new.self) c.in_default.is c.now.ensures)
    refl w) c.tell_unable.ensures.ok c.tell_unable.ensures.err

pub returns-in-Err-clause-shown : goal.returns-in-Err-clause-shown
returns-in-Err-clause-shown g c = shows_same
    (Replies g.C.Clock.gives c.args.shelf.now (states c.args.asked.now) c.args.following.closes
    c.args.clock.now c.now.new.self) c.args.shelf.now (g.W.Write.contents c.args.writer.now)
    (g.W.Write.contents c.tell_unable-in-Err.new.writer) (g.K.Keeper.seen c.args.keeper.now)
    (g.K.Keeper.seen c.account_state.new.keeper) c.tell_unable-in-Err.result
    (λ Writes. Writes (response service_unavailable c.args.following.closes unable))
    c.in-Err.ensures.cleanness c.in-Err.ensures.same c.in-Err.ensures.left
    (λ Writes t w. unstated_reply g.C.Clock.gives c.args.shelf.now c.args.following.closes Writes
    c.args.asked.now (Some c.in-Some.moment) c.args.clock.now c.now.new.self t t
    (subst (λ o. g.C.Clock.gives c.args.clock.now o c.now.new.self) c.in-Some.is c.now.ensures)
    refl w) c.tell_unable-in-Err.ensures.ok c.tell_unable-in-Err.ensures.err

pub returns-in-None-clause-shown : goal.returns-in-None-clause-shown
returns-in-None-clause-shown g c = shows_new
    (Replies g.C.Clock.gives c.args.shelf.now (states c.args.asked.now) c.args.following.closes
    c.args.clock.now c.now.new.self) c.args.shelf.now (g.W.Write.contents c.args.writer.now)
    (g.W.Write.contents c.tell_unknown.new.writer) (g.K.Keeper.seen c.args.keeper.now)
    (g.K.Keeper.seen c.account_state.new.keeper) c.tell_unknown.result
    (TellsAnswer (Refused AccountUnknown) c.args.following.closes) c.in-Ok.ensures.stands
    c.in-Ok.ensures.cleanness
    (λ clean. continued_same c.args.shelf.now (g.K.Keeper.seen c.args.keeper.now).tables
    (g.K.Keeper.seen c.account_state.new.keeper).tables (c.in-Ok.ensures.same clean))
    (λ t clean l. g.met.K.Keeper.settled c.account_state.new.keeper t clean l)
    (λ Writes clean tells. unknown_reply g.C.Clock.gives c.args.shelf.now c.args.following.closes
    Writes
    c.args.asked.now c.in-Some.moment c.args.clock.now c.now.new.self
    (g.K.Keeper.seen c.args.keeper.now).tables (g.K.Keeper.seen c.account_state.new.keeper).tables
    c.in-Ok.state
    (subst (λ o. g.C.Clock.gives c.args.clock.now o c.now.new.self) c.in-Some.is c.now.ensures)
    (c.in-Ok.ensures.found clean) c.in-None.is (c.in-Ok.ensures.same clean) tells)
    c.tell_unknown.ensures.ok c.tell_unknown.ensures.err

pub returns-in-Some-state-clause-shown : goal.returns-in-Some-state-clause-shown
returns-in-Some-state-clause-shown g c = λ h held before.
    let viewed = c.in-Ok.ensures.stands (c.tell_statement.ensures.reads.honesty h) in
    let is = sym (before (c.in-Ok.ensures.cleanness viewed)) in
    let told : (Writes : List ℕ → Type 0) → TellsCharges _ _ c.args.following.closes Writes →
    Replies g.C.Clock.gives c.args.shelf.now (states c.args.asked.now) c.args.following.closes
    c.args.clock.now c.now.new.self Writes (g.K.Keeper.seen c.args.keeper.now).tables
    (g.K.Keeper.seen c.account_state.new.keeper).tables = λ Writes tells.
    stated_reply g.C.Clock.gives c.args.shelf.now c.args.following.closes Writes c.args.asked.now
    c.in-Some.moment c.args.clock.now c.now.new.self (g.K.Keeper.seen c.args.keeper.now).tables
    (g.K.Keeper.seen c.account_state.new.keeper).tables
    (g.K.Keeper.seen c.account_state.new.keeper).tables c.in-Ok.state c.in-Some-state.state
    (subst (λ o. g.C.Clock.gives c.args.clock.now o c.now.new.self) c.in-Some.is c.now.ensures)
    (c.in-Ok.ensures.found viewed) c.in-Some-state.is (c.in-Ok.ensures.same viewed) refl tells in
    record {
      next = (g.K.Keeper.seen c.account_state.new.keeper).tables;
      holds = holds_more c.args.shelf.now (g.K.Keeper.seen c.args.keeper.now)
          (g.K.Keeper.seen c.account_state.new.keeper)
          (g.K.Keeper.seen c.tell_statement.new.keeper) held
          (g.K.Keeper.seen c.account_state.new.keeper).tables
          (g.K.Keeper.seen c.account_state.new.keeper).tables
          (holds_new c.args.shelf.now (g.K.Keeper.seen c.args.keeper.now)
          (g.K.Keeper.seen c.account_state.new.keeper) held before c.in-Ok.ensures.cleanness viewed
          (continued_same c.args.shelf.now (g.K.Keeper.seen c.args.keeper.now).tables
          (g.K.Keeper.seen c.account_state.new.keeper).tables (c.in-Ok.ensures.same viewed))
          (λ t l. g.met.K.Keeper.settled c.account_state.new.keeper t viewed l))
          (holds_same c.args.shelf.now (g.K.Keeper.seen c.account_state.new.keeper)
          (g.K.Keeper.seen c.tell_statement.new.keeper)
          (g.K.Keeper.seen c.account_state.new.keeper).tables (λ clean. refl)
          c.tell_statement.ensures.reads.cleanness c.tell_statement.ensures.reads.same
          (c.tell_statement.ensures.reads.left h));
      ok = subst (λ (x : Tables). OnOk c.tell_statement.result (Replies g.C.Clock.gives
          c.args.shelf.now (states c.args.asked.now) c.args.following.closes c.args.clock.now
          c.now.new.self
          (Appends (g.W.Write.contents c.args.writer.now)
          (g.W.Write.contents c.tell_statement.new.writer)) x
          (g.K.Keeper.seen c.account_state.new.keeper).tables)) is
          (ok_gives c.tell_statement.result (told _) (c.tell_statement.ensures.ok h));
      err = subst (λ (x : Tables). OnErr c.tell_statement.result (Replies g.C.Clock.gives
          c.args.shelf.now (states c.args.asked.now) c.args.following.closes c.args.clock.now
          c.now.new.self
          (AppendsBeginning (g.W.Write.contents c.args.writer.now)
          (g.W.Write.contents c.tell_statement.new.writer)) x
          (g.K.Keeper.seen c.account_state.new.keeper).tables)) is
          (err_gives c.tell_statement.result (told _) (c.tell_statement.ensures.err h));
    }
