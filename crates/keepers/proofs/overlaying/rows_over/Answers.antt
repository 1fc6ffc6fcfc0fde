use Rattle.std.proofs.Common.{◌∙◌, ◌++◌, ap, refl}
use Rattle.std.specs.Prelude.{filter}
use Rattle.reserving.specs.Restored.{given}
use Rattle.reserving.specs.Stored.{StoredRows}
use Rattle.keepers.specs.Overlaying.{stays_bucket, stays_counter, sessions_over, groups_over}
use Rattle.keepers.proofs.Overlaid.{account_over}
use Rattle.keepers.proofs.PartsKept.{if_ok}
use Rattle.keepers.proofs.overlaying.rows_over.Goals as goal

pub returns : goal.returns
returns c = if_ok c.account_of.result c.account_of.ensures.reordered (λ v of buckets all.
    let named : StoredRows = record (given c.args.rows) { buckets = buckets } in
    account_over named c.args.live.now c.args.back.now
    (filter (stays_bucket buckets) c.args.live.now.buckets ++ buckets) c.args.rows.purse
    c.in_ok-counters_over.field-0.items c.in_ok-sessions.sessions.items
    c.in_ok-groups.groups.items v refl all
    (c.in_ok-counters_over.ensures
    ∙ ap (λ xs. filter (stays_counter named.counters) xs ++ named.counters) c.counters.ensures)
    (c.in_ok-sessions.ensures ∙ ap (sessions_over named.sessions) c.sessions.ensures)
    (c.in_ok-groups.ensures
    ∙ (λ i. groups_over named.groups (c.deref.ensures.value i) c.args.back.now
    (c.groups.ensures i)))
    (of c.in_ok-sessions.sessions.items c.in_ok-groups.groups.items c.in_ok-place_sessions.ensures
    c.in_ok-place_groups.ensures))
