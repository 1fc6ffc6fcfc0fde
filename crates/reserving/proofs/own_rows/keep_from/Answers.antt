use Rattle.std.proofs.Common.{◌≡◌, ◌+◌, length, ap, subst, arith, ◌∙◌}
use Rattle.std.proofs.lemmas.List.Edits.{length-swap}
use Rattle.reserving.proofs.OwnKept.{AreMoved, moved_none, moved_more, moved_all}
use Rattle.reserving.proofs.own_rows.keep_from.Goals as goal

pub loop-place-init : goal.loop-place-init
loop-place-init g c = moved_none c.args.first c.args.rows.now.items

pub loop-place-preserved : goal.loop-place-preserved
loop-place-preserved g c =
    moved_more c.args.first c.loop-place.place c.args.rows.now.items c.loop-place.rows.items
    c.swap.new.self.items c.loop-place.invariant
    (ap length c.swap.ensures.items
    ∙ length-swap c.loop-place.rows.items c.loop-place.place (c.args.first + c.loop-place.place))
    c.swap.ensures.by_index

pub returns : goal.returns
returns g c =
    let all : c.loop-place.place ≡ c.args.count =
    omega (arith, c.loop-place-test.false, c.loop-place.auto.place-end) in
    c.truncate.ensures.items
    ∙ moved_all c.args.first c.args.count c.args.rows.now.items c.loop-place.rows.items c.requires
    (subst (λ n. AreMoved c.args.first n c.args.rows.now.items c.loop-place.rows.items) all
    c.loop-place.invariant)
