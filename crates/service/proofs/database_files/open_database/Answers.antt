use Rattle.std.proofs.Common.{rules, ℕ, Bool, cond, List, ◌∙◌, ap₂, subst}
use Rattle.sqlite_disk.specs.Events.{Event, replay}
use Rattle.sqlite_wal.specs.Recovery.{Image}
use Rattle.sqlite.specs.Files.{file_state}
use Rattle.sqlite.specs.Start.{FindsIn}
use Rattle.wal_check.specs.Sound.{IsSoundImage}
use Rattle.service.proofs.database_files.open_database.Goals as goal

abbrev image : List ℕ → List ℕ → Image
image log db = record { log = log; db = db }

abbrev seen : List ℕ → List ℕ → Bool → List Event → List ℕ
seen log db is_log history = (replay (cond is_log log db) history).seen

pub returns-in-Ok : goal.returns-in-Ok
returns-in-Ok g c = record {
  memory = search rules;
  named = search rules;
  opened = search rules;
  found = λ clean.
      let (log, db) = c.in_ok-files.ensures.fresh in
      let found = c.in-Ok.ensures.found clean in
      let same = ap₂ image c.check_log.ensures.log.seen c.check_log.ensures.db.seen ∙ ap₂ image (ap₂ (seen g.S.Start.log g.S.Start.db) log.0 log.1)
      (ap₂ (seen g.S.Start.log g.S.Start.db) db.0 db.1) in
      subst (λ i. FindsIn i (file_state c.in-Ok.connection)) same
      (record { holds = found.holds; reads = found.reads });
  sound = λ clean.
      let (log, db) = c.in_ok-files.ensures.fresh in
      let found = c.in-Ok.ensures.found clean in
      let same = ap₂ image (ap₂ (seen g.S.Start.log g.S.Start.db) log.0 log.1)
      (ap₂ (seen g.S.Start.log g.S.Start.db) db.0 db.1) in
      subst IsSoundImage same (c.in_ok-check_log.ensures.sound found.honest);
  fresh = search rules;
  guarded = search rules;
}
