use Rattle.std.proofs.Common.{◌∙◌, ap, sym, subst}
use Rattle.keepers.specs.Change.{IsLoadedFrom}
use Rattle.keepers.specs.Tables.{Tables}
use Rattle.charging.specs.Stepping.{IsUndecided, is_known, kept_of_request}
use Rattle.charging.proofs.outcomes.PartsServed.{AreReads, part_read, read_of, reads_then}
use Rattle.charging.proofs.outcomes.PartsServed.{served_after, told_after}
use Rattle.charging.proofs.outcomes.Requested.{request-unknown, request-again, request-known}
use Rattle.charging.proofs.outcomes.Requested.{none_viewed, some_viewed}
use Rattle.charging.proofs.requests.serve_request.Goals as goal
use Rattle.charging.proofs.requests.serve_request.Goals.{After-decide_on}

pub returns-in-Some : goal.returns-in-Some
returns-in-Some g c = told_after (part_read c.in_ok-kept.ensures) (λ clean list time is le.
    request-again c.args.shelf.now list c.args.request c.args.moment
    (g.K.Keeper.seen c.args.keeper.now).tables (g.K.Keeper.seen c.find_kept.new.keeper).tables
    c.in-Some.kept c.in_ok-repeat.field-0 time le is
    (sym (c.in_ok-kept.ensures.found clean) ∙ c.in-Some.is) c.in_ok-repeat.ensures
    (c.in_ok-kept.ensures.same clean))

pub returns-then-branch : goal.returns-then-branch
returns-then-branch g c =
    let before = reads_then (part_read c.in_ok-kept.ensures) (part_read c.in_ok-read.ensures) in
    let reads = reads_then before (part_read c.in_ok-is_known.ensures) in
    told_after reads (λ clean list time is le.
    let clean_read = c.in_ok-is_known.ensures.cleanness clean in
    let clean_find = c.in_ok-read.ensures.cleanness clean_read in
    request-known c.args.shelf.now list c.args.request c.args.moment
    (g.K.Keeper.seen c.args.keeper.now).tables (g.K.Keeper.seen c.is_known.new.keeper).tables
    c.in_ok-tell_failed.field-0 time le is
    (sym (c.in_ok-kept.ensures.found clean_find) ∙ c.in_default.is)
    (ap (is_known c.args.request) (sym (before.same clean_read))
    ∙ sym (c.in_ok-is_known.ensures.found clean) ∙ c.if-branch.true)
    c.in_ok-tell_failed.ensures (reads.same clean))

pub returns-in_default-2 : goal.returns-in_default-2
returns-in_default-2 g c =
    let before = reads_then (reads_then (part_read c.in_ok-kept.ensures)
    (part_read c.in_ok-read.ensures)) (part_read c.in_ok-is_known.ensures) in
    let reads = reads_then before (read_of c.in_ok-account.ensures) in
    told_after reads (λ clean list time is le.
    request-unknown c.args.shelf.now list c.args.request c.args.moment
    (g.K.Keeper.seen c.args.keeper.now).tables
    (g.K.Keeper.seen c.view.new.self).tables c.in_ok-tell_failed-2.field-0 time le is
    (ap (λ (x : Tables). (x.rows c.args.request.account).head)
    (sym (before.same (c.in_ok-account.ensures.cleanness clean)))
    ∙ none_viewed c.args.shelf.now c.args.moment
    ((g.K.Keeper.seen c.is_known.new.keeper).tables.rows c.args.request.account)
    c.in_ok-account.field-0 (c.in_ok-account.ensures.found clean) c.in_default-2.is)
    c.in_ok-tell_failed-2.ensures (reads.same clean))

-- what was viewed and what was looked for, of the tables that all reads leave
undecided : (g : _) (c : After-decide_on g) → (g.K.Keeper.seen c.view.new.self).clean →
    IsUndecided c.args.moment c.args.request c.in-Some-2.account
    (g.K.Keeper.seen c.view.new.self).tables c.args.shelf.now
undecided g c clean =
    let clean_known = c.in_ok-account.ensures.cleanness clean in
    let clean_read = c.in_ok-is_known.ensures.cleanness clean_known in
    let clean_find = c.in_ok-read.ensures.cleanness clean_read in
    let same_load = c.in_ok-account.ensures.same clean in
    let same_known = c.in_ok-is_known.ensures.same clean_known in
    record {
      loads = subst (λ (x : Tables). IsLoadedFrom c.args.shelf.now c.args.moment
          (x.rows c.args.request.account) c.in-Some-2.account) (sym same_load)
          (some_viewed c.args.shelf.now c.args.moment
          ((g.K.Keeper.seen c.is_known.new.keeper).tables.rows c.args.request.account)
          c.in_ok-account.field-0 c.in-Some-2.account (c.in_ok-account.ensures.found clean)
          c.in-Some-2.is);
      fresh = ap (kept_of_request c.args.request) (same_load ∙ same_known
          ∙ c.in_ok-read.ensures.same clean_read ∙ c.in_ok-kept.ensures.same clean_find)
          ∙ sym (c.in_ok-kept.ensures.found clean_find) ∙ c.in_default.is;
      new = ap (is_known c.args.request) (same_load ∙ same_known)
          ∙ sym (c.in_ok-is_known.ensures.found clean_known) ∙ c.if-branch.false;
    }

pub returns : goal.returns
returns g c = served_after
    (reads_then (reads_then (reads_then (part_read c.in_ok-kept.ensures)
    (part_read c.in_ok-read.ensures)) (part_read c.in_ok-is_known.ensures))
    (read_of c.in_ok-account.ensures)) c.in_ok-account.ensures.stands
    (undecided g (goal.at.returns g c).After-decide_on) c.decide_on.ensures
