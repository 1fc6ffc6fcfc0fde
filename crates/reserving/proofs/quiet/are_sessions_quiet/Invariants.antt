use Rattle.std.proofs.Common.{◌≡◌, drop}
use Rattle.std.specs.List.{list_all}
use Rattle.ledger.specs.Pricing.{validity_of}
use Rattle.reserving.specs.Calm.{is_session_quiet}
use Rattle.reserving.proofs.quiet.are_sessions_quiet.Given as goal

abbrev pub invariant-loop-row : goal.invariant-loop-row
invariant-loop-row l =
    list_all (is_session_quiet (validity_of l.shelf) l.at) (drop l.row-index l.rows)
    ≡ list_all (is_session_quiet (validity_of l.shelf) l.at) l.rows
