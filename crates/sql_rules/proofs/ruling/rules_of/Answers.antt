use Rattle.std.proofs.Common.{◌≤◌, ◌∙◌, rules, sym}
use Rattle.sqlite.specs.Held.{state}
use Rattle.sql_rules.specs.GrantRows.{HaveBooks}
use Rattle.sql_rules.specs.Tables.{AreRightBy, AreRuledBy}
use Rattle.sql_rules.proofs.GrantTold.{from_two, never_both}
use Rattle.sql_rules.proofs.Steps.{ours_then, tells_more, tells_not, tells_then}
use Rattle.sql_rules.proofs.ruling.rules_of.Goals as goal

pub returns-in_err-rows_pass : goal.returns-in_err-rows_pass
returns-in_err-rows_pass g c =
    tells_not (AreRightBy c.args.shelf.now c.args.last c.args.version)
    (AreRuledBy c.args.shelf.now c.args.last c.args.version) (λ t w. w.right)
    (state g.S.Store c.args.conn.now) (state g.S.Store c.rows_pass.new.conn)
    c.in_err-rows_pass.field-0.0 c.from_residual.result (search rules)
    c.in_err-rows_pass.ensures

pub returns-then-has_no_grant_books : goal.returns-then-has_no_grant_books
returns-then-has_no_grant_books g c =
    tells_more (AreRightBy c.args.shelf.now c.args.last c.args.version)
    (AreRuledBy c.args.shelf.now c.args.last c.args.version)
    (λ t p. record {
      right = p;
      granted = λ late. absurd (never_both c.args.version late
          (sym c.has_no_grant_books.ensures ∙ c.if-has_no_grant_books.true));
    })
    (state g.S.Store c.args.conn.now) (state g.S.Store c.rows_pass.new.conn)
    c.in_ok-rows_pass.field-0 c.in_ok-rows_pass.ensures

pub grants_pass-requires-clause-late : goal.grants_pass-requires-clause-late
grants_pass-requires-clause-late g c =
    from_two c.args.version (sym c.has_no_grant_books.ensures ∙ c.if-has_no_grant_books.false)

pub grants_pass-requires-clause-ours : goal.grants_pass-requires-clause-ours
grants_pass-requires-clause-ours g c =
    ours_then (AreRightBy c.args.shelf.now c.args.last c.args.version) c.args.version
    (state g.S.Store c.args.conn.now) (state g.S.Store c.rows_pass.new.conn)
    c.in_ok-rows_pass.field-0 c.in_ok-rows_pass.ensures c.requires.ours

pub returns : goal.returns
returns g c =
    let late : 2 ≤ c.args.version = from_two c.args.version
    (sym c.has_no_grant_books.ensures ∙ c.if-has_no_grant_books.false) in
    tells_then (AreRightBy c.args.shelf.now c.args.last c.args.version)
    (HaveBooks c.args.shelf.now) (AreRuledBy c.args.shelf.now c.args.last c.args.version)
    (λ t p q. record { right = p; granted = λ since. q }) (λ t w. w.granted late)
    (state g.S.Store c.args.conn.now) (state g.S.Store c.rows_pass.new.conn)
    (state g.S.Store c.grants_pass.new.conn) c.in_ok-rows_pass.field-0 c.grants_pass.result
    c.in_ok-rows_pass.ensures c.grants_pass.ensures
