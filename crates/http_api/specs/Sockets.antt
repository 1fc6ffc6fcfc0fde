-- What the requests of a socket leave of a keeper.
-- Source: profile.
use Rattle.std.specs.Prelude.{◌≤◌, IfOk, Result}
use Rattle.shelves.specs.Shelves.{Shelf}
use Rattle.keepers.specs.Seen.{Seen}
use Rattle.charging.specs.Continued.{Continues, LeavesOn}
use Rattle.http_api.specs.Words.{most_requests}
use Rattle.http_api.specs.declared.fault.ServeFault.{ServeFault}
use Rattle.http_api.specs.declared.serving.Served.{Served}

-- at most a thousand requests are served, and what was accepted is what the tables go on by
pub record ServesSocket (b : Shelf) (old new : Seen)
    (result : Result Served ServeFault) : Type 0 where
  pub bounded : IfOk result (λ done. done.requests ≤ most_requests)
  pub continued : new.clean → Continues b old.tables new.tables
  pub cleanness : new.clean → old.clean
  pub honesty : new.honest → old.honest
  pub left : LeavesOn b old new
  pub failures : old.failed ≤ new.failed
