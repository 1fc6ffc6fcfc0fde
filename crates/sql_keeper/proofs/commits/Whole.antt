-- What is committed whole.
use Rattle.std.proofs.Common.{◌≡◌, ◌⊎◌, inl, inr, ◌∙◌, ap, sym, subst, IsTrue, Bool, true, false}
use Rattle.std.proofs.Common.{true≢false, Ok, Err, Result, refl, arith}
use Rattle.sqlite.specs.Effect.{Database}
use Rattle.sqlite.specs.Held.{Held, state}
use Rattle.sqlite.specs.State.{State, HasCleanDisk, IsLive, Survives}
use Rattle.sqlite.proofs.StateLemmas.{survives_then, survives_weaker}
use Rattle.sqlite_trees.specs.Tree.{Trees}
use Rattle.sqlite_trees.specs.declared.store.Store.{Ghosts}
use Rattle.sql_tables.specs.Statements.{HasIdleTables, HasRules, IsStill, OnlyReads}
use Rattle.sql_tables.proofs.Keeps.{fits_of}
use Rattle.sql_rows.specs.Content.{TablesContent}
use Rattle.sql_rows.specs.Makes.{Turns}
use Rattle.sql_keeper.specs.Asks.{IsHanded}
use Rattle.sql_keeper.specs.Commits.{CommitsWhole, Transacts}

pub not_shut : (b : Bool) → IsTrue b → b ≡ false → ⊥
not_shut true on e = true≢false e
not_shut false on e = absurd (let no : false ≡ true = on in cc)

-- the rows obey their rules where a transaction begins
pub begun_rules : {S : Type 0} (g : Ghosts S) (old begun : Held S)
    → begun ≡ record old { in_transaction = true } → HasIdleTables (state g old)
    → IsLive (state g old) → HasRules (state g begun)
begun_rules g old begun is idle live =
    subst (λ h. HasRules (state g h)) (sym is)
    (λ clean on. fits_of (state g old) on (idle clean on).book live)

-- nothing is done, so a stop leaves what it would have left
pub survives_self : (s : State) (P : Trees → Type 0) → Survives s s P
survives_self s P = record {
  clean = omega arith;
  shield = λ h. h;
  counts = omega arith;
  limit = refl;
  closes = λ clean on. inl on;
  crash = λ clean db may. inl may;
}

-- nothing is done where it is refused at once
pub untouched : {A E : Type 0} (Become : Trees → Trees → Type 0) (s : State) (e : E)
    → HasIdleTables s → CommitsWhole {A = A} {E = E} Become s s (Err e)
untouched Become s e idle = record {
  done = λ clean. tt;
  err = λ clean on. record { was_open = on; now_is = refl; committed_is = refl };
  idle = idle;
  survives = survives_self s (λ db. IsTrue s.is_open → Become s.now.trees db);
}

-- ---- after what was only read, what is written

module _ (change : TablesContent → TablesContent) (Become : Trees → Trees → Type 0)
    (old mid new : State)
    (only : OnlyReads old mid) (stops : Survives old mid (λ _. old.is_open ≡ false))
    (become : HasCleanDisk mid → IsTrue mid.is_open → (db : Trees) → Turns change mid.now.trees db
    → Become old.now.trees db) where
  survives_both : Survives mid new (λ db. IsTrue mid.is_open × Turns change mid.now.trees db)
      → Survives old new (λ db. IsTrue old.is_open → Become old.now.trees db)
  survives_both s =
      survives_then old mid new (λ _. old.is_open ≡ false)
      (λ db. IsTrue mid.is_open × Turns change mid.now.trees db)
      (λ db. IsTrue old.is_open → Become old.now.trees db)
      (λ clean db shut on. absurd (not_shut old.is_open on shut))
      (λ clean db t on. become (omega (arith, s.clean, clean)) t.0 db t.1) stops s

  -- rule: stop-commit
  pub written : {A B E F : Type 0} (u : A) (v : B) → Transacts {A = A} {E = E} change mid new (Ok u)
      → CommitsWhole {A = B} {E = F} Become old new (Ok v)
  written u v t = record {
    done = λ clean.
        let d = t.done clean in
        let mid_clean : HasCleanDisk mid = omega (arith, t.survives.clean, clean) in
        ((only.still mid_clean d.0).was_open, d.1, become mid_clean d.0 new.now.trees d.2.turns);
    err = λ clean on. tt;
    idle = t.idle;
    survives = survives_both t.survives;
  }

  pub not_written : {A B E F : Type 0} (e : E) (f : F)
      → Transacts {A = A} {E = E} change mid new (Err e)
      → CommitsWhole {A = B} {E = F} Become old new (Err f)
  not_written e f t = record {
    done = λ clean. tt;
    err = λ clean on.
        let k = t.kept clean on in
        let s = only.still (omega (arith, t.survives.clean, clean)) k.was_open in
        record {
          was_open = s.was_open;
          now_is = k.now_is ∙ s.now_is;
          committed_is = k.committed_is ∙ s.committed_is;
        };
    idle = t.idle;
    survives = survives_both t.survives;
  }

-- what is committed after what was only read
module _ (Become : Trees → Trees → Type 0) (old mid new : State)
    (only : OnlyReads old mid) (stops : Survives old mid (λ _. old.is_open ≡ false))
    (on : HasCleanDisk mid → IsTrue mid.is_open) where
  still_between : Survives mid new (λ db. IsTrue mid.is_open → Become mid.now.trees db)
      → HasCleanDisk new → IsStill old mid
  still_between s clean =
      let mid_clean : HasCleanDisk mid = omega (arith, s.clean, clean) in
      only.still mid_clean (on mid_clean)

  survives_all : Survives mid new (λ db. IsTrue mid.is_open → Become mid.now.trees db)
      → Survives old new (λ db. IsTrue old.is_open → Become old.now.trees db)
  survives_all s =
      survives_then old mid new (λ _. old.is_open ≡ false)
      (λ db. IsTrue mid.is_open → Become mid.now.trees db)
      (λ db. IsTrue old.is_open → Become old.now.trees db)
      (λ clean db shut was. absurd (not_shut old.is_open was shut))
      (λ clean db become was. subst (λ (d : Database). Become d.trees db)
      (still_between s clean).now_is (become (on (omega (arith, s.clean, clean))))) stops s

  pub commits_after : {A E : Type 0} (r : Result A E) → CommitsWhole Become mid new r
      → CommitsWhole Become old new r
  commits_after (Ok x) c = record {
    done = λ clean.
        let d = c.done clean in
        let s = still_between c.survives clean in (
          s.was_open,
          d.1,
          subst (λ (d : Database). Become d.trees new.now.trees) s.now_is d.2,
        );
    err = λ clean still. tt;
    idle = c.idle;
    survives = survives_all c.survives;
  }
  commits_after (Err e) c = record {
    done = λ clean. tt;
    err = λ clean still'.
        let k = c.err clean still' in
        let s = still_between c.survives clean in
        record {
          was_open = s.was_open;
          now_is = k.now_is ∙ s.now_is;
          committed_is = k.committed_is ∙ s.committed_is;
        };
    idle = c.idle;
    survives = survives_all c.survives;
  }

-- what a stop leaves of what is committed after what was only read
module _ (Become : Trees → Trees → Type 0) (old mid new : State) (only : OnlyReads old mid)
    (stops : Survives old mid (λ _. ⊥)) (on : HasCleanDisk mid → IsTrue mid.is_open) where
  pub leaves_after : {A E : Type 0} (r : Result A E) → CommitsWhole Become mid new r
      → HasCleanDisk new → (db : Trees) → new.may_leave db
      → old.may_leave db ⊎ (IsTrue old.is_open × Become old.now.trees db)
  leaves_after r c clean db may =
      let mid_clean : HasCleanDisk mid = omega (arith, c.survives.clean, clean) in
      elim (c.survives.crash clean db may) [
        | inl before ↦ leaves_read mid_clean db before
        | inr become ↦
            let still = only.still mid_clean (on mid_clean) in
            inr (
              still.was_open,
              subst (λ (d : Database). Become d.trees db) still.now_is
                  (become (on mid_clean)),
            )
      ]
    where
      leaves_read : HasCleanDisk mid → (d : Trees) → mid.may_leave d
          → old.may_leave d ⊎ (IsTrue old.is_open × Become old.now.trees d)
      leaves_read clean' d may' = elim (stops.crash clean' d may') [
        | inl before ↦ inl before
        | inr none ↦ absurd none
      ]

-- what isn't written
-- rule: stop-commit
pub refused : {A E : Type 0} (Become : Trees → Trees → Type 0) (old new : State) (e : E)
    → OnlyReads old new → Survives old new (λ _. old.is_open ≡ false)
    → CommitsWhole {A = A} {E = E} Become old new (Err e)
refused Become old new e only stops = record {
  done = λ clean. tt;
  err = only.still;
  idle = only.idle;
  survives = survives_weaker old new (λ _. old.is_open ≡ false)
      (λ db. IsTrue old.is_open → Become old.now.trees db)
      (λ clean db shut on. absurd (not_shut old.is_open on shut)) stops;
}

-- ---- what a stop leaves

-- while the connection is open, a stop leaves what was last committed
abbrev pub IsSettled : State → Type 0
IsSettled s = (db : Trees) → IsTrue s.is_open → s.may_leave db → db ≡ s.committed.trees

pub settled_now : (s : State) → IsSettled s → HasIdleTables s → HasCleanDisk s → IsTrue s.is_open
    → (db : Trees) → s.may_leave db → db ≡ s.now.trees
settled_now s law idle clean on db may = law db on may
    ∙ ap (λ (d : Database). d.trees) (sym (idle clean on).settled)

-- ---- what is handed on

pub handed_on : {A E F : Type 0} (Become : Trees → Trees → Type 0) (old new : State)
    (r : Result A E) (q : Result A F) → IsHanded r q → CommitsWhole Become old new r →
    CommitsWhole Become old new q
handed_on Become old new (Ok x) (Ok y) h c =
    record { done = c.done; err = c.err; idle = c.idle; survives = c.survives }
handed_on Become old new (Ok x) (Err f) h c = absurd h
handed_on Become old new (Err e) (Ok y) h c = absurd h
handed_on Become old new (Err e) (Err f) h c =
    record { done = c.done; err = c.err; idle = c.idle; survives = c.survives }
