-- Whether a session has a record, and that nothing of a new one was left.
use Rattle.std.proofs.Common.{◌≡◌, ℕ, List, ap, ◌∙◌}
use Rattle.std.proofs.Common.{None}
use Rattle.std.specs.Prelude.{is_some, not}
use Rattle.std.proofs.lemmas.Bool.{cond-false}
use Rattle.shelves.specs.Shelves.{Shelf, IsShelf}
use Rattle.reserving.specs.declared.session.SessionGroup.{SessionGroup}
use Rattle.ledger.specs.Ledger.{Ledger, last_recording, has_group}
use Rattle.reserving.specs.Sessions.{is_of, session_in, group_in}
use Rattle.reserving.specs.Sessions.{state_at}
use Rattle.reserving.specs.Rows.{IsAccount}
use Rattle.reserving.specs.Stored.{priced}
use Rattle.reserving.specs.Left.{is_open_row, only, left_of}
use Rattle.reserving.proofs.StoredRows.{IsAccount-priced}
use Rattle.reserving.proofs.LeftTests.{find_filter}
use Rattle.reserving.proofs.LeftParted.{one_group}
use Rattle.reserving.proofs.rows.Touching.{recorded_row}
use Rattle.ledger.specs.Pricing.{validity_of}
use Rattle.keepers.specs.Tables.{Rows}
use Rattle.keepers.specs.Change.{AreRowsAt}
use Rattle.keepers.specs.Steps.{HasNoGroups}

-- what a keeper answers of a session is what the ledger says
-- rule: session-names.known, database-reads
pub known_is : (shelf : Shelf) (ledger : Ledger) (u : ℕ) (r : Rows) (s : List ℕ) →
    AreRowsAt shelf ledger u r → is_some (r.sessions s) ≡ is_some (last_recording s ledger)
known_is shelf ledger u r s h =
    ap is_some (h.are.sessions s ∙ h.rows.sessions s)
    ∙ recorded_row s (state_at (validity_of shelf) h.listed.as_of ledger s)
    (last_recording s ledger)

-- a session without a record has no group among those left
-- rule: session-names.known
pub new_unleft : (shelf : Shelf) (ledger : Ledger) (u t : ℕ) (r : Rows) (s : List ℕ) (g : ℕ)
    (h : AreRowsAt shelf ledger u r) → IsShelf shelf → HasNoGroups s ledger →
    group_in s g (left_of t (priced shelf h.listed)).groups ≡ None
new_unleft shelf ledger u t r s g h ranges none =
    let whole : IsAccount (priced shelf h.listed) = IsAccount-priced shelf h.listed ranges h.kept in
    find_filter (λ y z. is_of y.session y.group z) (is_of s g) (one_group s g)
    (λ y. not (is_open_row (session_in y.session h.listed.sessions))) h.listed.groups
    whole.groups
    ∙ ap (only (λ (y : SessionGroup). not (is_open_row (session_in y.session h.listed.sessions))))
    (h.rows.groups s g ∙ cond-false (has_group s g ledger) _ None (none g))
