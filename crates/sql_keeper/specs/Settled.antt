-- What a stop leaves between two calls.
-- Source: profile.
use Rattle.std.specs.Prelude.{◌≡◌, ◌⊎◌, IsTrue}
use Rattle.std.proofs.Common.{◌∙◌, ap, inl, inr, sym}
use Rattle.sqlite_trees.specs.declared.store.Store.{Ghosts}
use Rattle.sqlite_trees.specs.Tree.{Trees}
use Rattle.sqlite.specs.Effect.{Database}
use Rattle.sqlite.specs.Held.{state}
use Rattle.sqlite.specs.State.{State}
use Rattle.keepers.specs.Tables.{Tables}
use Rattle.sql_rows.specs.Content.{tables_content}
use Rattle.sql_keeper.specs.Content.{tables_of}
use Rattle.sql_keeper.specs.Inside.{IsClean, KeeperState, StaysOpen, clean_in, names_in, tables_in}
use Rattle.sql_keeper.specs.Stops.{IsAtRest, LeavesIn}

-- while a store is open, a stop leaves what it committed last
abbrev pub AreSettled : {S : Type 0} → Ghosts S → Type 0
AreSettled {S} g =
    (s : S) (db : Trees) → IsTrue (g.view s).is_open → g.recovers s db → db ≡ (g.view s).committed

open_still : (s : State) → StaysOpen s → IsClean s → IsTrue s.is_open
open_still s stays clean = go clean.open_still
  where
    go : (s.faults ≡ 0) ⊎ IsTrue s.is_open → IsTrue s.is_open
    go (inl none) = stays clean.disk none
    go (inr on) = on

-- rule: stop-between
pub at_rest : {S : Type 0} (g : Ghosts S) → AreSettled g → (k : KeeperState S) → IsAtRest g k
at_rest g law k keeper clean db may =
    let on = open_still (state g k.connection) keeper.stays clean in
    law k.connection.store db on may
    ∙ ap (λ (d : Database). d.trees) (sym (keeper.idle clean.disk on).settled)

-- so it leaves the tables as they are
pub settled_in : {S : Type 0} (g : Ghosts S) → AreSettled g → (k : KeeperState S) (t : Tables)
    → clean_in g k → LeavesIn g k t → t ≡ tables_in g k
settled_in g law k t clean left = left.is
    ∙ ap (λ d. tables_of (names_in k) (tables_content d))
    (at_rest g law k left.keeper clean left.db left.may)
