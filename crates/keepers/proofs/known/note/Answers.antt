use Rattle.std.proofs.Common.{◌≡◌, ◌∙◌, true, subst, rules}
use Rattle.ledger.specs.Lists.{EachIn}
use Rattle.reserving.proofs.Lists.{EachIn-weaker}
use Rattle.keepers.specs.Named.{is_numbered, is_named, AreLeftCounters}
use Rattle.keepers.proofs.known.note.Goals as goal

pub note_groups-requires : goal.note_groups-requires
note_groups-requires c =
    let noted : c.deref-3.result.now ≡ c.args.rows.now.sessions.items = search rules in
    let asked : c.args.rows.now.sessions.items ≡ c.deref-4.result.now = search rules in
    subst (EachIn (λ r. is_named c.note_sessions.new.names r.id ≡ true)) (noted ∙ asked)
    c.in_ok-note_sessions.ensures.noted

pub returns-clause-more : goal.returns-clause-more
returns-clause-more c = record {
  numbers = c.note_buckets.ensures.stay;
  cycles = c.note_counters.ensures.stay;
  names = λ s h. c.note_groups.ensures.stay s (c.note_sessions.ensures.stay s h);
}

pub returns-clause-noted : goal.returns-clause-noted
returns-clause-noted c =
    let buckets : c.deref.result.now ≡ c.args.rows.now.buckets.items = search rules in
    let counters : c.deref-2.result.now ≡ c.args.rows.now.counters.items = search rules in
    let sessions : c.deref-3.result.now ≡ c.args.rows.now.sessions.items = search rules in
    let groups : c.deref-5.result.now ≡ c.args.rows.now.groups.items = search rules in
    record {
      buckets = subst (EachIn (λ b. is_numbered c.note_buckets.new.numbers b.number ≡ true)) buckets
          c.in_ok-note_buckets.ensures.noted;
      counters = subst (AreLeftCounters c.note_counters.new.cycles) counters
          c.in_ok-note_counters.ensures.noted;
      sessions = EachIn-weaker (λ r. is_named c.note_sessions.new.names r.id ≡ true)
          (λ r. is_named c.note_groups.new.names r.id ≡ true) c.args.rows.now.sessions.items
          (λ r h. c.note_groups.ensures.stay r.id h)
          (subst (EachIn (λ r. is_named c.note_sessions.new.names r.id ≡ true)) sessions
          c.in_ok-note_sessions.ensures.noted);
      groups = subst (EachIn (λ r. is_named c.note_groups.new.names r.session ≡ true)) groups
          c.in_ok-note_groups.ensures.noted;
    }
