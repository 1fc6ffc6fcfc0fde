use Rattle.std.proofs.Common.{◌≡◌, drop}
use Rattle.reserving.specs.Sessions.{session_in}
use Rattle.rules_tests.proofs.tests.account.calls.is_new.Given as goal

abbrev pub invariant-loop-session : goal.invariant-loop-session
invariant-loop-session l =
    session_in l.id l.sessions ≡ session_in l.id (drop l.session-index l.sessions)
