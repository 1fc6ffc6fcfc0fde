use Rattle.std.proofs.Common.{◌∙◌}
use Rattle.std.specs.Io.KnownBytes.{Appends}
use Rattle.http_messages.specs.Texts.{AppendsBeginning}
use Rattle.http_api.proofs.RequestReplies.{ok_gives, err_gives}
use Rattle.http_api.proofs.StatementReplies.{tells_body, tells_nothing}
use Rattle.http_api.proofs.stating.tell_statement.Goals as goal

pub returns-in-Ok-clause-ok : goal.returns-in-Ok-clause-ok
returns-in-Ok-clause-ok g c = λ honest. ok_gives c.tell_text.result
    (tells_body _ _ c.args.following.closes (Appends (g.W.Write.contents c.args.writer.now)
    (g.W.Write.contents c.tell_text.new.writer)) c.as_slice.result.now
    (λ rows are. c.as_slice.ensures.value ∙ c.in-Ok.ensures.text
    (c.in-Ok.ensures.asks.stands honest) rows are)) c.tell_text.ensures.ok

pub returns-in-Ok-clause-err : goal.returns-in-Ok-clause-err
returns-in-Ok-clause-err g c = λ honest. err_gives c.tell_text.result
    (tells_body _ _ c.args.following.closes (AppendsBeginning (g.W.Write.contents c.args.writer.now)
    (g.W.Write.contents c.tell_text.new.writer)) c.as_slice.result.now
    (λ rows are. c.as_slice.ensures.value ∙ c.in-Ok.ensures.text
    (c.in-Ok.ensures.asks.stands honest) rows are)) c.tell_text.ensures.err

pub returns-in-Err-clause-ok : goal.returns-in-Err-clause-ok
returns-in-Err-clause-ok g c = λ clean. ok_gives c.tell_unable.result
    (tells_nothing _ _ c.args.following.closes
    (Appends (g.W.Write.contents c.args.writer.now) (g.W.Write.contents c.tell_unable.new.writer)))
    c.tell_unable.ensures.ok

pub returns-in-Err-clause-err : goal.returns-in-Err-clause-err
returns-in-Err-clause-err g c = λ clean. err_gives c.tell_unable.result
    (tells_nothing _ _ c.args.following.closes
    (AppendsBeginning (g.W.Write.contents c.args.writer.now)
    (g.W.Write.contents c.tell_unable.new.writer)))
    c.tell_unable.ensures.err
