use Rattle.std.proofs.Common.{◌≡◌, ◌∙◌, ap, subst, sym, Result, Ok, Err}
use Rattle.std.specs.Prelude.{IfOk, IsErrAnd, MatchResult}
use Rattle.std.proofs.lemmas.Result.{IfOk-weaker}
use Rattle.tariffs.specs.Books.{Book}
use Rattle.tariffs.specs.OnceBook.{once_book}
use Rattle.shelves.specs.Shelves.{one_book}
use Rattle.operations.proofs.once.once_shelf.Goals as goal

-- where a failure is only named anew, the value is handed on
value_handed : {A E F : Type 0} (P : A → Type 0) (Turns : E → F → Type 0) (given : Result A E)
    (got : Result A F) → MatchResult given (λ x. got ≡ Ok x) (λ e. IsErrAnd got (Turns e)) →
    IfOk given P → IfOk got P
value_handed P Turns (Ok x) got is holds = subst (λ r. IfOk r P) (sym is) holds
value_handed P Turns (Err e) (Ok y) is holds = absurd is
value_handed P Turns (Err e) (Err f) is holds = tt

pub returns : goal.returns
returns c =
    value_handed _ _ c.new.result c.map_err.result c.map_err.ensures.cases
    (IfOk-weaker c.new.result _ (λ s. s ≡ one_book (once_book c.args.price c.args.block))
    (λ s is. is ∙ ap (λ (b : Book). one_book b) c.in_ok-book.ensures) c.new.ensures.value)
