-- Sessions that are live at a later moment.
use Rattle.std.proofs.Common.{◌≡◌, ℕ, ◌≤◌, Bool, true, List, arith, Option, Some, None}
use Rattle.std.specs.Prelude.{◌&&◌, not}
use Rattle.std.proofs.lemmas.Bool.Decides.{nat_tests}
use Rattle.ledger.specs.Ledger.{Ledger, is_live, is_closed, last_touch}
use Rattle.ledger.specs.Parts.{is_within}

-- a session that is live later was live before
pub is_live-before : (v : ℕ → ℕ) (t1 t2 : ℕ) (ledger : Ledger) (s : List ℕ) → t1 ≤ t2 →
    is_live v t2 ledger s ≡ true → is_live v t1 ledger s ≡ true
is_live-before v t1 t2 ledger s le h =
    live_before v t1 t2 (last_touch s ledger) (is_closed s ledger) le h
  where
    live_before : (v : ℕ → ℕ) (t1 t2 : ℕ) (touch : Option ℕ) (closed : Bool) → t1 ≤ t2 →
        (is_within v t2 touch && not closed) ≡ true → (is_within v t1 touch && not closed) ≡ true
    live_before v t1 t2 None closed le h = h
    live_before v t1 t2 (Some x) closed le h = grind (arith, nat_tests)
