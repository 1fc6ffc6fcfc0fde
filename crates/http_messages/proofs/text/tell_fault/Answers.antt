use Rattle.std.proofs.Common.{◌≡◌, ◌∙◌, sym, subst, inl, Bool, List, ℕ}
use Rattle.std.proofs.lemmas.Result.{on_ok_weaker}
use Rattle.std.specs.Io.KnownBytes.{Appends}
use Rattle.json_fields.specs.declared.fault.WireFault.{WireFault}
use Rattle.json_fields.specs.declared.fault.WireFault.TheVariants.{Memory, NotRequest}
use Rattle.wire.specs.Spelled.{fault_text}
use Rattle.http_messages.specs.Statuses.{bad_request}
use Rattle.http_messages.specs.Texts.{response, AppendsBeginning, AnswersFault}
use Rattle.http_messages.proofs.Begun.{err_gives}
use Rattle.http_messages.proofs.text.tell_fault.Goals as goal

-- what is no JSON object is answered its fault
not_request : (closes : Bool) (fault : WireFault) (Writes : List ℕ → Type 0) → fault ≡ NotRequest →
    Writes (response bad_request closes (fault_text NotRequest)) → AnswersFault closes fault Writes
not_request closes fault Writes is written = inl (
  (λ (e : fault ≡ Memory). let both = sym is ∙ e in absurd (cc)),
  subst (λ (f : WireFault). Writes (response bad_request closes (fault_text f))) (sym is) written,
)

pub returns-in-NotRequest : goal.returns-in-NotRequest
returns-in-NotRequest g c = record {
  ok = on_ok_weaker c.tell_not_request.result
      (not_request c.args.closes c.args.fault
      (Appends (g.W.Write.contents c.args.writer.now)
      (g.W.Write.contents c.tell_not_request.new.writer)) c.in-NotRequest.is)
      c.tell_not_request.ensures.ok;
  err = err_gives c.tell_not_request.result
      (not_request c.args.closes c.args.fault
      (AppendsBeginning (g.W.Write.contents c.args.writer.now)
      (g.W.Write.contents c.tell_not_request.new.writer)) c.in-NotRequest.is)
      c.tell_not_request.ensures.err;
  fault = c.tell_not_request.ensures.fault;
}
