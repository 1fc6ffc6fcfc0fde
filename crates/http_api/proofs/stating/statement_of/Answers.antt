use Rattle.std.proofs.Common.{◌++◌, ◌∙◌, ap, ℕ, List}
use Rattle.buckets.specs.Row.{BucketRow}
use Rattle.tariffs.specs.Books.{Book}
use Rattle.statements.specs.Texts.{statement_text}
use Rattle.http_api.proofs.stating.statement_of.Goals as goal

pub returns-clause-text : goal.returns-clause-text
returns-clause-text g c = λ clean rows are.
    let text : Book → List BucketRow → List ℕ = λ book. statement_text book c.args.asked.now.account
    c.args.asked.now.month c.args.state.now.moment rows in
    (c.in_ok-statement.ensures.writes clean).whole rows are
    ∙ ap (λ l. l ++ text c.first-book.result.now c.as_slice-buckets.result.now)
    c.new-text.ensures.items
    ∙ (λ i. text (c.first-book.ensures.value i) (c.as_slice-buckets.ensures.value i))
