use Rattle.std.proofs.Common.{rules, sym, ap, ◌∙◌}
use Rattle.std.proofs.lemmas.Fn.{filter_same}
use Rattle.reserving.specs.declared.session.Counter.{Counter}
use Rattle.keepers.specs.Named.{is_numbered}
use Rattle.keepers.specs.Parts.{leaves_counter}
use Rattle.std.specs.List.{list_any}
use Rattle.keepers.proofs.Unchanged.{counters_stay}
use Rattle.keepers.proofs.left_rows.keep_counters.Goals as goal

pub returns-then-not-any_of_cycles : goal.returns-then-not-any_of_cycles
returns-then-not-any_of_cycles c =
    counters_stay c.args.after.now c.args.cycles.now c.args.rows.now.items c.requires
    (sym (c.any_of_cycles.ensures
    ∙ ap (list_any (λ (x : Counter). is_numbered c.args.cycles.now x.cycle))
    c.counters.ensures) ∙ c.if-not-any_of_cycles.true)

pub returns : goal.returns
returns c = filter_same _ (leaves_counter c.args.after.now) _
    (λ x b f' k. search rules) _ _ c.retain.ensures.filtered
