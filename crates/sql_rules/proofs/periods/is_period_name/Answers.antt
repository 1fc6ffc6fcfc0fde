use Rattle.std.proofs.Common.{◌≡◌, ◌+◌, suc, drop, arith, sym, subst, ap, ◌∙◌, true, false}
use Rattle.std.specs.Prelude.{is_some}
use Rattle.std.specs.List.{list_any}
use Rattle.shelves.specs.Shelves.{dated_books}
use Rattle.tariffs.specs.Books.{Book}
use Rattle.tariffs.specs.Names.{period_named}
use Rattle.sql_rules.specs.Rules.{has_period}
use Rattle.sql_rules.proofs.Anywhere.{booked, one_fails, one_passes}
use Rattle.sql_rules.proofs.periods.is_period_name.Goals as goal

pub returns-then-is_named : goal.returns-then-is_named
returns-then-is_named c =
    let books = dated_books c.args.shelf.now in
    let name = c.args.name.now in
    let it = booked c.args.shelf.now c.books.before (c.books.before + 1) c.in-Some.book.now
    (omega arith) c.in-Some.ensures.value in
    let passes : has_period name it.0 ≡ true =
    ap (λ (b : Book). is_some (period_named b.periods name)) it.2
    ∙ sym c.is_named.ensures
    ∙ c.if-is_named.true in
    sym (sym c.books.invariant ∙ one_passes (has_period name) books c.books.before it.0 it.1 passes)

pub books-preserved : goal.books-preserved
books-preserved c =
    let books = dated_books c.args.shelf.now in
    let name = c.args.name.now in
    let it = booked c.args.shelf.now c.books.before (c.books.before + 1) c.in-Some.book.now
    (omega arith) c.in-Some.ensures.value in
    let fails : has_period name it.0 ≡ false =
    ap (λ (b : Book). is_some (period_named b.periods name)) it.2
    ∙ sym c.is_named.ensures
    ∙ c.if-is_named.false in
    let next : suc c.books.before ≡ c.books.before + 1 = omega arith in
    subst (λ n. list_any (has_period name) (drop n books) ≡ list_any (has_period name) books) next
    (one_fails (has_period name) books c.books.before it.0 it.1 fails ∙ c.books.invariant)
