use Rattle.std.proofs.Common.{rules, ◌≡◌, ◌∙◌, ℕ, List, subst, ap, map, inl, inr, Err}
use Rattle.std.proofs.lemmas.Result.{err_from_is_err_and}
use Rattle.std.specs.Io.KnownBytes.{Appends}
use Rattle.std.specs.Prelude.{◌≢◌, OnErr, OnOk}
use Rattle.texts.specs.declared.streams.StreamFault.{StreamFault}
use Rattle.texts.specs.declared.streams.StreamFault.TheVariants.{Read as ReadFailed}
use Rattle.charging.specs.declared.running.DatedCommand.{DatedCommand}
use Rattle.operations.specs.Written.{WritesBeginning}
use Rattle.operations.specs.LineInput.{kept_fault}
use Rattle.operations.specs.LinesServed.{opening_for, answer_texts}
use Rattle.operations.proofs.Beginnings.{on_err, whole_or_begun}
use Rattle.operations.proofs.request_lines.Answered.{continued-run}
use Rattle.operations.proofs.request_lines.Carried.{carried-ended}
use Rattle.operations.proofs.request_lines.Ended.{IsWritten, ended-answered, ended-begun}
use Rattle.operations.proofs.request_lines.Ended.{begun_in, ended-cut, ended-read, ended-stopped}
use Rattle.operations.proofs.request_lines.Ended.{ended-told, ended-untold, ended-write}
use Rattle.operations.proofs.request_lines.Ended.{none_answered, none_begun, not_written}
use Rattle.operations.proofs.request_lines.HeldLines.{held-stream}
use Rattle.operations.proofs.line_answers.lines.Goals as goal

pub returns-in_err-input : goal.returns-in_err-input
returns-in_err-input g c =
    let p = err_from_is_err_and c.from_residual.result c.from_residual.ensures.1 in
    let is = p.1 ∙ ap Err p.2 in
    record {
      answers = none_answered c.args.shelf.now c.args.opening
          (g.R.Read.remaining c.args.reader.now) (g.W.Write.contents c.args.writer.now)
          (g.K.Keeper.seen c.args.keeper.now) c.from_residual.result _ is;
      told = search rules;
      begun = on_err c.from_residual.result (none_begun (g.W.Write.contents c.args.writer.now)
          (g.R.Read.remaining c.args.reader.now));
      unread = search rules;
      unwritten = search rules;
      fault = λ fault told. absurd (not_written c.from_residual.result _ fault is told);
      left = λ clean honest t left. inl left;
    }

pub returns-in_err-opening : goal.returns-in_err-opening
returns-in_err-opening g c =
    let result = c.from_residual-in_err-opening.result in
    let p = err_from_is_err_and result c.from_residual-in_err-opening.ensures.1 in
    let is = p.1 ∙ ap Err p.2 in
    record {
      answers = none_answered c.args.shelf.now c.args.opening
          (g.R.Read.remaining c.args.reader.now) (g.W.Write.contents c.args.writer.now)
          (g.K.Keeper.seen c.args.keeper.now) result _ is;
      told = search rules;
      begun = on_err result (none_begun (g.W.Write.contents c.args.writer.now)
          (g.R.Read.remaining c.args.reader.now));
      unread = search rules;
      unwritten = search rules;
      fault = λ fault told. absurd (not_written result _ fault is told);
      left = λ clean honest t left. inl left;
    }

pub returns : goal.returns
returns g c =
    let b = c.args.shelf.now in
    let opening = c.args.opening in
    let w0 = g.W.Write.contents c.args.writer.now in
    let w1 = g.W.Write.contents c.write_output-written.new.writer in
    let r = g.R.Read.remaining c.args.reader.now in
    let old = (g.K.Keeper.seen c.args.keeper.now).tables in
    let new = (g.K.Keeper.seen c.run_opened-answers.new.keeper).tables in
    let fault = c.run_opened-answers.result.fault in
    let written = c.write_output-written.result in
    let result = c.ended_as.result in
    let is = c.ended_as.ensures in
    let given = c.run_opened-answers.result.answers.items in
    let whole : OnOk written
    (Appends w0 w1 (answer_texts (map kept_fault c.in_ok-input.input.lines.items) given)) =
    subst (λ (t : List ℕ). OnOk written (Appends w0 w1 t))
    (λ i. answer_texts (map kept_fault (c.deref-2.ensures.value i)) (c.deref-3.ensures.value i))
    c.write_output-written.ensures.written in
    let part : OnErr written
    (WritesBeginning w0 w1 (answer_texts (map kept_fault c.in_ok-input.input.lines.items) given)) =
    subst (λ (t : List ℕ). OnErr written (WritesBeginning w0 w1 t))
    (λ i. answer_texts (map kept_fault (c.deref-2.ensures.value i)) (c.deref-3.ensures.value i))
    c.write_output-written.ensures.err in
    let opened : c.in_ok-opening.opening.items
    ≡ opening_for opening c.in_ok-input.input.requests.items =
    subst (λ (rs : List DatedCommand). c.in_ok-opening.opening.items ≡ opening_for opening rs)
    c.deref.ensures.value c.in_ok-opening.ensures in
    let h : (g.K.Keeper.seen c.run_opened-answers.new.keeper).clean →
    IsWritten b opening w0 w1 r old new fault written =
    λ clean. record {
      input = c.in_ok-input.input;
      opening = c.in_ok-opening.opening.items;
      given = given;
      read = c.in_ok-input.ensures;
      opened = opened;
      runs = c.run_opened-answers.ensures.runs clean;
      whole = whole;
      part = part;
    } in
    record {
      answers = record {
        answered = λ clean.
            ended-answered b opening w0 w1 r old new fault written result is (h clean);
        begun = λ clean.
            on_err result (ended-begun b opening w0 w1 r old new fault written (h clean));
        stopped = λ f k clean.
            ended-stopped b opening w0 w1 r old new fault written result f is k (h clean);
        both = λ f k clean.
            ended-cut b opening w0 w1 r old new fault written result f is k (h clean);
        untold = λ f k clean.
            ended-untold b opening w0 w1 r old new fault written result f is k (h clean);
        continued = λ clean. continued-run b c.in_ok-opening.opening.items
            c.in_ok-input.input.requests.items old new c.run_opened-answers.result.answers.items fault
            (c.run_opened-answers.ensures.runs clean);
        keeper = carried-ended (g.K.Keeper.seen c.args.keeper.now)
            (g.K.Keeper.seen c.run_opened-answers.new.keeper) fault written result is
            (record {
              clean = c.run_opened-answers.ensures.cleanness;
              honest = c.run_opened-answers.ensures.honesty;
              stands = c.run_opened-answers.ensures.stands;
              failures = c.run_opened-answers.ensures.failures;
              cause = c.run_opened-answers.ensures.cause;
            });
      };
      told = ended-told w0 w1 c.in_ok-input.input given fault written result r is
          c.in_ok-input.ensures c.run_opened-answers.ensures.whole whole;
      begun = on_err result (begun_in w0 w1 c.in_ok-input.input given r c.in_ok-input.ensures
          (whole_or_begun written w0 w1
          (answer_texts (map kept_fault c.in_ok-input.input.lines.items) given) whole part));
      unread = λ f k. absurd (ended-read fault written result f is k);
      unwritten = λ f k. absurd (ended-read fault written result f is k);
      fault = λ f k. ended-write (λ (e : StreamFault). e ≢ ReadFailed) fault written result f is k
          c.write_output-written.ensures.fault;
      left = λ clean honest t left. inr (held-stream b old t opening c.in_ok-input.input
          c.in_ok-opening.opening.items r c.in_ok-input.ensures opened
          (c.run_opened-answers.ensures.held honest clean t left));
    }
