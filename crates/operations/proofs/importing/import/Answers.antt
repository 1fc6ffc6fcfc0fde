use Rattle.std.proofs.Common.{rules, ◌≡◌, length, subst, Ok, ◌+◌, ◌++◌, ◌∷◌, [], List, sym, ap}
use Rattle.std.proofs.Common.{◌∙◌, arith}
use Rattle.std.proofs.lemmas.List.{append_assoc, length-append}
use Rattle.commands.specs.declared.command.VoucherAddition.{VoucherAddition}
use Rattle.charging.specs.Runs.{after_commands}
use Rattle.operations.specs.Counts.{total_count}
use Rattle.operations.specs.Imports.{Imports, additions}
use Rattle.operations.proofs.HeldImports.{left-all, left-more}
use Rattle.operations.proofs.ImportLemmas.{all-imported, begun_at, one-counted, one-more, whole_of}
use Rattle.operations.proofs.importing.import.Goals as goal

pub returns-in_err-addition : goal.returns-in_err-addition
returns-in_err-addition g c = record {
  imported = λ clean.
      let all = ap (λ (more : List VoucherAddition). c.loop-row.yielded ++ more)
      (sym c.in-Some.ensures.steps.0) ∙ c.loop-row.invariant.all in
      begun_at c.args.shelf.now c.args.moment c.loop-row.yielded c.next.new.self.rest.items
      c.args.rows.items c.in-Some.row (g.K.Keeper.seen c.args.keeper.now).tables
      (g.K.Keeper.seen c.loop-row.keeper).tables (g.K.Keeper.seen c.add_voucher.new.keeper).tables
      c.loop-row.counts c.from_residual.result c.from_residual.ensures.0 all
      (c.loop-row.invariant.runs (c.in_err-addition.ensures.kept.cleanness clean))
      (c.in_err-addition.ensures.added clean);
  all = search rules;
  cleanness = search rules;
  honesty = search rules;
  stands = search rules;
  left = let all = append_assoc c.loop-row.yielded (c.in-Some.row ∷ []) c.next.new.self.rest.items
      ∙ ap (λ (more : List VoucherAddition). c.loop-row.yielded ++ more)
      (sym c.in-Some.ensures.steps.0) ∙ c.loop-row.invariant.all in
      left-all c.args.shelf.now c.args.moment
      (c.loop-row.yielded ++ c.in-Some.row ∷ []) c.next.new.self.rest.items c.args.rows.items
      (g.K.Keeper.seen c.args.keeper.now).tables (g.K.Keeper.seen c.args.keeper.now)
      (g.K.Keeper.seen c.add_voucher.new.keeper) all (left-more
      c.args.shelf.now c.args.moment c.loop-row.yielded (g.K.Keeper.seen c.args.keeper.now)
      (g.K.Keeper.seen c.loop-row.keeper)
      (g.K.Keeper.seen c.add_voucher.new.keeper) c.loop-row.counts c.loop-row.invariant.runs
      c.loop-row.invariant.left c.in_err-addition.ensures.kept.honesty c.in-Some.row
      c.in_err-addition.ensures.left);
  cause = search rules;
}

pub loop-row-preserved : goal.loop-row-preserved
loop-row-preserved g c = record {
  runs = λ clean list time is.
      let so = c.loop-row.invariant.runs (c.in_ok-addition.ensures.kept.cleanness clean) list time
      is in
      one-more c.args.shelf.now c.args.moment list c.loop-row.yielded c.in-Some.row
      (g.K.Keeper.seen c.args.keeper.now).tables (g.K.Keeper.seen c.loop-row.keeper).tables
      (g.K.Keeper.seen c.add_voucher.new.keeper).tables c.loop-row.counts c.count_one-counts.result
      c.in_ok-addition.addition so
      (c.in_ok-addition.ensures.added clean
      (after_commands c.args.shelf.now list (additions c.args.moment c.loop-row.yielded))
      so.time so.tables) c.count_one-counts.ensures;
  all = append_assoc c.loop-row.yielded (c.in-Some.row ∷ []) c.next.new.self.rest.items
      ∙ ap (λ (more : List VoucherAddition). c.loop-row.yielded ++ more)
      (sym c.in-Some.ensures.steps.0) ∙ c.loop-row.invariant.all;
  count = ap total_count c.count_one-counts.ensures
      ∙ one-counted c.in_ok-addition.addition c.loop-row.counts
      ∙ ap (λ n. n + 1) c.loop-row.invariant.count
      ∙ sym (length-append c.loop-row.yielded (c.in-Some.row ∷ []));
  cleanness = λ clean.
      c.loop-row.invariant.cleanness (c.in_ok-addition.ensures.kept.cleanness clean);
  honesty = λ honest.
      c.loop-row.invariant.honesty (c.in_ok-addition.ensures.kept.honesty honest);
  stands = λ honest clean. c.in_ok-addition.ensures.kept.stands honest
      (c.loop-row.invariant.stands (c.in_ok-addition.ensures.kept.honesty honest) clean);
  left = left-more c.args.shelf.now c.args.moment c.loop-row.yielded
      (g.K.Keeper.seen c.args.keeper.now) (g.K.Keeper.seen c.loop-row.keeper)
      (g.K.Keeper.seen c.add_voucher.new.keeper) c.loop-row.counts c.loop-row.invariant.runs
      c.loop-row.invariant.left c.in_ok-addition.ensures.kept.honesty c.in-Some.row
      c.in_ok-addition.ensures.left;
  failures = omega (arith, c.loop-row.invariant.failures, c.in_ok-addition.ensures.kept.cause.kept);
}

pub returns : goal.returns
returns g c =
    let whole : c.loop-row.yielded ≡ c.args.rows.items =
    whole_of c.loop-row.yielded c.loop-row.row-iterator.rest.items c.args.rows.items
    c.loop-row.invariant.all (search rules) in
    record {
      imported = λ clean. subst (λ (rows : List VoucherAddition). Imports c.args.shelf.now
          (additions c.args.moment rows) (g.K.Keeper.seen c.args.keeper.now).tables
          (g.K.Keeper.seen c.loop-row.keeper).tables (Ok c.loop-row.counts)) whole
          (all-imported c.args.shelf.now c.args.moment c.loop-row.yielded
          (g.K.Keeper.seen c.args.keeper.now).tables (g.K.Keeper.seen c.loop-row.keeper).tables
          c.loop-row.counts (c.loop-row.invariant.runs clean));
      all = c.loop-row.invariant.count ∙ ap length whole;
      cleanness = search rules;
      honesty = search rules;
      stands = search rules;
      left = left-all c.args.shelf.now c.args.moment c.loop-row.yielded
          c.loop-row.row-iterator.rest.items c.args.rows.items
          (g.K.Keeper.seen c.args.keeper.now).tables
          (g.K.Keeper.seen c.args.keeper.now) (g.K.Keeper.seen c.loop-row.keeper)
          c.loop-row.invariant.all c.loop-row.invariant.left;
      cause = search rules;
    }
