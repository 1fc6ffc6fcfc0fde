use Rattle.std.proofs.Common.{◌≡◌, ap, subst, true}
use Rattle.reserving.specs.declared.session.Session.{Session}
use Rattle.reserving.specs.declared.session.SessionGroup.{SessionGroup}
use Rattle.reserving.proofs.Lists.{EachIn-weaker}
use Rattle.keepers.specs.Named.{is_named}
use Rattle.keepers.proofs.Replaced.{each_next, each_stays}
use Rattle.keepers.proofs.known.note_groups.Goals as goal

-- the names of the sessions are kept as they were
pub note_other_name-requires : goal.note_other_name-requires
note_other_name-requires c =
    EachIn-weaker (λ (x : Session). is_named c.args.names.now x.id ≡ true)
    (λ (x : Session). is_named c.loop-row.names x.id ≡ true) c.args.sessions.now
    (λ x e. c.loop-row.invariant.stay x.id e) c.requires

pub loop-row-preserved : goal.loop-row-preserved
loop-row-preserved c = record {
  stay = λ k e. c.note_other_name.ensures.stay k (c.loop-row.invariant.stay k e);
  noted = each_next (λ (x : SessionGroup). is_named c.note_other_name.new.names x.session ≡ true)
      c.args.rows.now c.loop-row.row-index c.row-item.result
      (each_stays (λ (x : SessionGroup). is_named c.loop-row.names x.session ≡ true)
      (λ (x : SessionGroup). is_named c.note_other_name.new.names x.session ≡ true)
      c.args.rows.now c.loop-row.row-index (λ x e. c.note_other_name.ensures.stay x.session e)
      c.loop-row.invariant.noted)
      c.loop-row-test.true
      (subst (λ k. is_named c.note_other_name.new.names k ≡ true)
      (ap (λ (x : SessionGroup). x.session) c.row-item.is)
      c.in_ok-note_other_name.ensures.noted);
}
