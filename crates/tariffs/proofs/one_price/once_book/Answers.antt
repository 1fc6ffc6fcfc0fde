use Rattle.std.proofs.Common.{◌≡◌, Result, IfOk, IfErr, subst, sym, ◌∙◌}
use Rattle.std.proofs.lemmas.Bool.{false≢true}
use Rattle.tariffs.specs.declared.fault.BookFault.{BookFault}
use Rattle.tariffs.specs.declared.fault.BookFault.TheVariants.{Memory}
use Rattle.tariffs.specs.Books.{Book}
use Rattle.tariffs.specs.OnceBook.{once_book}
use Rattle.tariffs.proofs.Given.{is_answered, is_memory}
use Rattle.tariffs.proofs.OnceText.{document_read}
use Rattle.tariffs.proofs.one_price.once_book.Goals as goal
use Rattle.tariffs.proofs.one_price.once_book.Goals.{in-Memory, in_default}

pub returns-in-Ok : goal.returns-in-Ok
returns-in-Ok c =
    let given = document_read c.args.price c.args.block c.in_ok-text.text c.as_bytes.result.now
    c.read.result c.requires.price c.requires.some_block c.requires.block c.as_bytes.ensures.value
    c.in_ok-text.ensures c.read.ensures.fault in
    subst (λ (r : Result Book BookFault). IfOk r (λ b. b ≡ once_book c.args.price c.args.block))
    c.in-Ok.is (is_answered c.read.result _ given)

pub prove-unreachable-requires : goal.prove-unreachable-requires
prove-unreachable-requires c =
    let given = document_read c.args.price c.args.block c.in_ok-text.text c.as_bytes.result.now
    c.read.result c.requires.price c.requires.some_block c.requires.block c.as_bytes.ensures.value
    c.in_ok-text.ensures c.read.ensures.fault in
    let memory : c.in-Err.fault ≡ Memory = subst (λ (r : Result Book BookFault).
    IfErr r (λ fault. fault ≡ Memory)) c.in-Err.is (is_memory c.read.result _ given) in
    elim c.match-matches.branch [
      | in-Memory w ↦ false≢true (sym c.if-prove.true ∙ w.matches-is)
      | in_default w ↦ w.in_default.not-Memory memory
    ]
