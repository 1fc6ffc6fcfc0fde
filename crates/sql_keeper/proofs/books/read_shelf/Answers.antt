use Rattle.std.proofs.Common.{◌≡◌, ◌∙◌, ap, subst, sym}
use Rattle.std.proofs.lemmas.Result.{IfOk-weaker}
use Rattle.shelves.specs.Shelves.{Shelf, one_book}
use Rattle.tariffs.specs.Books.{Book}
use Rattle.sql_keeper.specs.Books.{IsBookOf}
use Rattle.sql_keeper.proofs.reads.HandedOn.{value_handed}
use Rattle.sql_keeper.proofs.books.read_shelf.Goals as goal

pub returns-clause-read : goal.returns-clause-read
returns-clause-read c =
    value_handed _ _ c.new.result c.map_err.result c.map_err.ensures.cases
    (IfOk-weaker c.new.result _ (λ s. IsBookOf c.args.text.now s.first)
    (λ s is. subst (λ (s : Shelf). IsBookOf c.args.text.now s.first) (sym is)
    c.in_ok-book.ensures.read) c.new.ensures.value)

pub returns-clause-alone : goal.returns-clause-alone
returns-clause-alone c =
    value_handed _ _ c.new.result c.map_err.result c.map_err.ensures.cases
    (IfOk-weaker c.new.result _ (λ s. s ≡ one_book s.first)
    (λ s is. is ∙ ap (λ (b : Book). one_book b) (sym (ap (λ (s : Shelf). s.first) is)))
    c.new.ensures.value)

pub returns-clause-same : goal.returns-clause-same
returns-clause-same c = λ b of.
    value_handed _ _ c.new.result c.map_err.result c.map_err.ensures.cases
    (IfOk-weaker c.new.result _ (λ s. s ≡ one_book b)
    (λ s is. is ∙ ap (λ (x : Book). one_book x) (c.in_ok-book.ensures.same b of))
    c.new.ensures.value)
