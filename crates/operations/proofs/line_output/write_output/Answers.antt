use Rattle.std.proofs.Common.{◌≡◌, ◌+◌, ◌++◌, ◌∷◌, [], map, sym, ap, ◌∙◌, drop, string_bytes}
use Rattle.std.specs.Prelude.{if◌then◌else◌, option_map}
use Rattle.operations.specs.LineInput.{kept_fault}
use Rattle.operations.specs.LinesServed.{answer_texts}
use Rattle.operations.proofs.Beginnings.{on_err}
use Rattle.operations.proofs.request_lines.SoFar.{so_far-more, so_far-failed}
use Rattle.operations.proofs.request_lines.Texts.{texts_first, texts_next}
use Rattle.operations.proofs.line_output.write_output.Goals as goal

pub returns-in_err-write_line-clause-err : goal.returns-in_err-write_line-clause-err
returns-in_err-write_line-clause-err g c =
    on_err c.from_residual-in_err-write_line.result
    (so_far-failed (answer_texts (map kept_fault c.args.lines.now) c.args.answers.now)
    (answer_texts (map kept_fault (drop c.loop-line.line-index c.args.lines.now))
    (drop c.loop-line.next c.args.answers.now)) (string_bytes c.in-Some.text ++ 10 ∷ []) _
    (g.W.Write.contents c.args.writer.now) (g.W.Write.contents c.loop-line.writer)
    (g.W.Write.contents c.write_line.new.writer) c.loop-line.invariant
    (texts_first c.args.lines.now c.args.answers.now _ c.loop-line.line-index c.loop-line.next
    c.get.result (string_bytes c.in-Some.text) c.loop-line-test.true c.get.ensures.lookup
    (ap (option_map string_bytes) (sym c.in-Some.is) ∙ c.in_ok-text.ensures))
    c.in_err-write_line.ensures.err)

pub loop-line-preserved : goal.loop-line-preserved
loop-line-preserved g c =
    let n = c.loop-line.next in
    let next : c.if-is_request.next ≡ (if c.is_request.result then n + 1 else n) =
    elim c.if-is_request.branch [
      | goal.then-is_request w ↦ w.next-is
          ∙ sym (ap (λ b. if b then n + 1 else n) w.if-is_request.true)
      | goal.else-is_request w ↦ w.next-is
          ∙ sym (ap (λ b. if b then n + 1 else n) w.if-is_request.false)
    ] in
    so_far-more (answer_texts (map kept_fault c.args.lines.now) c.args.answers.now)
    (answer_texts (map kept_fault (drop c.loop-line.line-index c.args.lines.now))
    (drop n c.args.answers.now)) (string_bytes c.in-Some.text ++ 10 ∷ []) _
    (g.W.Write.contents c.args.writer.now) (g.W.Write.contents c.loop-line.writer)
    (g.W.Write.contents c.write_line.new.writer) c.loop-line.invariant
    (texts_next c.args.lines.now c.args.answers.now
    _ c.loop-line.line-index n c.if-is_request.next c.get.result c.is_request.result
    (string_bytes c.in-Some.text) c.loop-line-test.true c.get.ensures.lookup
    (ap (option_map string_bytes) (sym c.in-Some.is)
    ∙ c.in_ok-text.ensures) c.is_request.ensures next) c.in_ok-write_line.ensures.written
