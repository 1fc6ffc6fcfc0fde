use Rattle.std.proofs.Common.{◌≡◌, ◌≤◌, ◌++◌, ◌∙◌, [], sym, ap, subst}
use Rattle.std.specs.Prelude.{if◌then◌else◌}
use Rattle.ledger.specs.Lists.{EachIn}
use Rattle.reserving.specs.Rows.{AreApart}
use Rattle.reserving.specs.Live.{live_part}
use Rattle.keepers.specs.Change.{IsLoadedFrom}
use Rattle.keepers.specs.Parts.{Parts, rows_of_parts}
use Rattle.keepers.proofs.PartsKept.{if_ok}
use Rattle.keepers.specs.Keyed.{same_counter}
use Rattle.keepers.specs.Named.{may_go_on}
use Rattle.keepers.proofs.PastCounters.{loaded_without, apart_without, each_without}
use Rattle.keepers.proofs.PartsLoaded.{parts_loaded}
use Rattle.keepers.specs.Inside.{parts_of}
use Rattle.keepers.proofs.store.Store.load.Goals as goal

-- what is handed over of the counters that were left
others_are : (c : goal.After-going_on-others) →
    c.going_on-others.result.now
    ≡ (if may_go_on c.args.shelf.now c.args.moment c.self.inside.known.cycles
    then c.self.inside.left.counters.items else [])
others_are c =
    c.going_on-others.ensures
    ∙ ap (λ rows. if may_go_on c.args.shelf.now c.args.moment c.self.inside.known.cycles then rows
    else []) c.deref.ensures.value

pub load_at-requires-clause-apart : goal.load_at-requires-clause-apart
load_at-requires-clause-apart c =
    subst (λ xs. AreApart same_counter (xs ++ c.self.inside.live.counters)) (sym (others_are c))
    (apart_without (may_go_on c.args.shelf.now c.args.moment c.self.inside.known.cycles)
    c.self.inside.left.counters.items c.self.inside.live.counters
    c.self.invariant.parts.counters)

pub load_at-requires-clause-counted : goal.load_at-requires-clause-counted
load_at-requires-clause-counted c =
    subst (EachIn (λ x. x.blocks ≤ 4000000000000000000)) (sym (others_are c))
    (each_without (λ x. x.blocks ≤ 4000000000000000000)
    (may_go_on c.args.shelf.now c.args.moment c.self.inside.known.cycles)
    c.self.inside.left.counters.items c.self.invariant.parts.counted)

pub returns : goal.returns
returns c =
    let p : Parts = parts_of c.self.inside in
    let others : c.going_on-others.result.now
    ≡ (if may_go_on c.args.shelf.now c.args.moment c.self.inside.known.cycles
    then p.left.counters else []) =
    c.going_on-others.ensures
    ∙ ap (λ rows. if may_go_on c.args.shelf.now c.args.moment c.self.inside.known.cycles then rows
    else []) c.deref.ensures.value in
    if_ok c.load_at.result c.load_at.ensures.rows (λ account is.
    subst (λ (q : Parts). IsLoadedFrom c.args.shelf.now c.args.moment (rows_of_parts q) account)
    c.self.view_is
    (subst (IsLoadedFrom c.args.shelf.now c.args.moment (rows_of_parts p))
    (sym (is ∙ (λ i. live_part c.args.shelf.now c.args.moment (others i) p.live)
    ∙ loaded_without c.args.shelf.now c.args.moment c.self.inside.known.cycles
    p.left.counters p.live
    c.self.invariant.counters))
    (parts_loaded c.args.shelf.now c.args.moment p c.self.invariant.parts
    c.as_of-kept.ensures.kept)))
