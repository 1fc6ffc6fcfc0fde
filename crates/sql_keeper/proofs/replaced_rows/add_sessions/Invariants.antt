use Rattle.std.proofs.Common.{◌≡◌, ℕ, List, drop}
use Rattle.std.specs.Prelude.{filter}
use Rattle.reserving.specs.declared.session.Session.{Session}
use Rattle.reserving.specs.Left.{first_of}
use Rattle.reserving.specs.Sessions.{is_open, session_in}
use Rattle.sql_keeper.proofs.replaced_rows.add_sessions.Given as goal

abbrev pub invariant-loop-row : goal.invariant-loop-row
invariant-loop-row l =
    (s : List ℕ) → first_of (session_in s l.rows.items)
    (session_in s (filter (λ (x : Session). is_open x.state) (drop l.row-index l.named)))
    ≡ first_of (session_in s l.fn.rows.items)
    (session_in s (filter (λ (x : Session). is_open x.state) l.named))
