use Rattle.std.proofs.Common.{◌∙◌, ℕ, List, subst}
use Rattle.http_messages.specs.Statuses.{ok}
use Rattle.http_messages.specs.Texts.{WritesText, response}
use Rattle.http_api.proofs.Leaving.{text_left}
use Rattle.http_api.proofs.telling.tell_answer.Goals as goal

pub returns : goal.returns
returns g c = subst (λ (body : List ℕ). WritesText (response ok c.args.following.closes body)
    (g.W.Write.contents c.args.writer.now) (g.W.Write.contents c.leave.new.writer)
    c.leave.result) (c.as_bytes.ensures.value ∙ c.text.ensures.value)
    (text_left (g.W.Write.contents c.args.writer.now) (g.W.Write.contents c.tell_json.new.writer)
    (g.W.Write.contents c.leave.new.writer) c.leave.result _ c.in_ok-tell_json.ensures.ok
    c.leave.ensures.kept c.leave.ensures.fault)
