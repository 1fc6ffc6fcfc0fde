use Rattle.std.proofs.Common.{◌≡◌, rules, true, false, Ok, Err, sym, ◌∙◌}
use Rattle.std.proofs.lemmas.Result.{err_from_is_err_and}
use Rattle.json_fields.specs.declared.fault.WireFault.TheVariants.{NotRequest}
use Rattle.wire.proofs.ContentsAgain.{reads_written, never_written, of_account}
use Rattle.wire.proofs.ContentsAgain.{text_of_other, text_read, text_refused}
use Rattle.wire.proofs.contents.read_content_with.Goals as goal

pub returns-in_err-content : goal.returns-in_err-content
returns-in_err-content c =
    let p = err_from_is_err_and c.from_residual.result c.from_residual.ensures.1 in
    rw (p.1, p.2) (record {
      text = tt;
      account = tt;
      said = tt;
      written =
          reads_written c.args.account c.args.bytes.now (Err c.in_err-content.field-0.0)
          c.in_err-content.ensures;
      texts =
          text_refused c.args.account c.args.bytes.now c.in_err-content.field-0.0
          c.in_err-content.ensures;
    })

pub returns-then-is_text : goal.returns-then-is_text
returns-then-is_text c = record {
  text = sym (c.deref.ensures ∙ c.in_ok-text.ensures.text) ∙ c.is_text.ensures.0 c.if-is_text.true;
  account =
      of_account c.args.account c.args.bytes.now c.in_ok-content.content c.in_ok-content.ensures;
  said = search rules;
  written =
      reads_written c.args.account c.args.bytes.now
      (Ok c.in_ok-content.content) c.in_ok-content.ensures;
  texts =
      text_read c.args.account c.args.bytes.now c.in_ok-content.content c.in_ok-content.ensures
      (sym (c.deref.ensures ∙ c.in_ok-text.ensures.text) ∙ c.is_text.ensures.0 c.if-is_text.true);
}

pub returns-else-is_text : goal.returns-else-is_text
returns-else-is_text c = record {
  text = tt;
  account = tt;
  said = tt;
  written =
      never_written c.args.account c.args.bytes.now c.in_ok-content.content
      (Err NotRequest) c.in_ok-content.ensures (λ e.
      let same : c.deref.result.now ≡ c.args.bytes.now = c.deref.ensures
      ∙ c.in_ok-text.ensures.text
      ∙ e in
      let clash : false ≡ true = sym c.if-is_text.false ∙ c.is_text.ensures.1 same in
      absurd (cc));
  texts =
      λ more. text_of_other c.args.account c.args.bytes.now c.in_ok-content.content
      c.in_ok-content.ensures (λ e.
      let same : c.deref.result.now ≡ c.args.bytes.now = c.deref.ensures
      ∙ c.in_ok-text.ensures.text
      ∙ e in
      let clash : false ≡ true = sym c.if-is_text.false ∙ c.is_text.ensures.1 same in
      absurd (cc));
}
