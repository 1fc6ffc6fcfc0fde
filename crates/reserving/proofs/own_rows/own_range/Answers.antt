use Rattle.std.proofs.Common.{List, length, take, refl, sym, ap, ◌∙◌}
use Rattle.std.specs.Prelude.{slice_range}
use Rattle.reserving.specs.declared.session.SessionGroup.{SessionGroup}
use Rattle.reserving.proofs.OwnKept.{range_within}
use Rattle.reserving.proofs.OwnRows.{all_from, rest_ascends, own_found}
use Rattle.reserving.proofs.own_rows.own_range.Goals as goal

pub count_unlater-count-requires : goal.count_unlater-count-requires
count_unlater-count-requires c =
    rest_ascends c.count_earlier-first.result c.args.groups.now
    (slice_range c.args.groups.now c.count_earlier-first.result (length c.args.groups.now))
    c.count_earlier-first.ensures.within refl c.requires

pub returns-clause-within : goal.returns-clause-within
returns-clause-within c =
    range_within c.count_earlier-first.result c.count_unlater-count.result c.args.groups.now
    c.count_earlier-first.ensures.within c.count_unlater-count.ensures.within

pub returns-clause-own : goal.returns-clause-own
returns-clause-own c =
    let rest : List SessionGroup =
    slice_range c.args.groups.now c.count_earlier-first.result (length c.args.groups.now) in
    ap (λ (xs : List SessionGroup). take c.count_unlater-count.result xs)
    (sym (all_from c.count_earlier-first.result c.args.groups.now
    c.count_earlier-first.ensures.within))
    ∙ own_found c.args.session.now c.args.groups.now rest
    (take c.count_unlater-count.result rest) c.count_earlier-first.result
    c.count_unlater-count.result c.count_earlier-first.ensures.within refl
    c.count_earlier-first.ensures.parted c.count_unlater-count.ensures.within
    c.count_unlater-count.ensures.parted refl
