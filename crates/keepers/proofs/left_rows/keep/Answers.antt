use Rattle.std.proofs.Common.{◌≡◌, sym, ap, ◌∙◌, false}
use Rattle.std.specs.List.{list_any}
use Rattle.reserving.specs.declared.session.Session.{Session}
use Rattle.keepers.specs.Named.{is_named}
use Rattle.keepers.proofs.Unchanged.{sessions_stay}
use Rattle.keepers.proofs.left_rows.keep.Goals as goal

pub returns-then-any_named : goal.returns-then-any_named
returns-then-any_named c = record {
  buckets = c.keep_buckets.ensures;
  counters = c.keep_counters.ensures;
  sessions = c.filter_sessions.ensures;
  groups = c.filter_groups.ensures;
}

pub keep_groups-requires-clause-unnamed : goal.keep_groups-requires-clause-unnamed
keep_groups-requires-clause-unnamed c =
    sym (c.any_named.ensures
    ∙ ap (list_any (λ (x : Session). is_named c.args.known.now.names x.id)) c.sessions.ensures)
    ∙ c.if-any_named.false

pub returns : goal.returns
returns c =
    let none : list_any (λ (x : Session). is_named c.args.known.now.names x.id)
    c.args.after.now.sessions ≡ false =
    sym (c.any_named.ensures
    ∙ ap (list_any (λ (x : Session). is_named c.args.known.now.names x.id)) c.sessions.ensures)
    ∙ c.if-any_named.false in
    record {
      buckets = c.keep_buckets.ensures;
      counters = c.keep_counters.ensures;
      sessions =
          sessions_stay c.args.after.now c.args.known.now.names c.args.left.now.sessions.items
          c.requires.sessions none;
      groups = c.keep_groups.ensures;
    }
