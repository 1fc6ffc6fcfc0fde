use Rattle.std.proofs.Common.{◌≡◌, ℕ, List, drop}
use Rattle.std.specs.Prelude.{filter, is_some}
use Rattle.reserving.specs.declared.session.SessionGroup.{SessionGroup}
use Rattle.reserving.specs.Left.{first_of}
use Rattle.reserving.specs.Sessions.{group_in, session_in}
use Rattle.sql_keeper.proofs.replaced_rows.add_groups.Given as goal

abbrev pub invariant-loop-row : goal.invariant-loop-row
invariant-loop-row l =
    (s : List ℕ) (g : ℕ) → first_of (group_in s g l.rows.items)
    (group_in s g (filter (λ (x : SessionGroup). is_some (session_in x.session l.sessions.items))
    (drop l.row-index l.named)))
    ≡ first_of (group_in s g l.fn.rows.items)
    (group_in s g (filter (λ (x : SessionGroup). is_some (session_in x.session l.sessions.items))
    l.named))
