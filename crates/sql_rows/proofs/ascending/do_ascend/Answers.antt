use Rattle.std.proofs.Common.{rules, sym, subst, arith}
use Rattle.std.specs.Option.{option_map}
use Rattle.std.proofs.lemmas.List.{drop_all}
use Rattle.sql_rows.proofs.lists.Rising.{AscendAfter, falls_at, none_after}
use Rattle.sql_rows.proofs.ascending.do_ascend.Goals as goal

pub returns-clause-ascend : goal.returns-clause-ascend
returns-clause-ascend g c told =
    c.rows.invariant.0 (subst (AscendAfter g.T.InOrder.before (option_map (λ b. b.now) c.rows.last))
    (sym (drop_all c.rows.row-index c.args.rows.now (omega arith)))
    (none_after g.T.InOrder.before (option_map (λ b. b.now) c.rows.last)))

pub returns-then-not-is_before-clause-fall : goal.returns-then-not-is_before-clause-fall
returns-then-not-is_before-clause-fall g c up =
    absurd (falls_at g.T.InOrder.before (option_map (λ b. b.now) c.rows.last)
    c.in-Some.before.now
    c.row-item.result c.args.rows.now c.rows.row-index (search rules) (omega arith)
    c.row-item.is (search rules) (c.rows.invariant.1 up))
