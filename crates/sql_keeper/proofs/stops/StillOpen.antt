-- What a connection is after it was tested whether it can still be asked.
use Rattle.std.proofs.Common.{◌≡◌, inl, inr, ℕ, List, Ok, Err, Result, IsTrue, OnOk, false, []}
use Rattle.std.proofs.Common.{sym, subst, arith, true≢false, IfOk}
use Rattle.std.specs.Result.{IfErr, IsErr}
use Rattle.std.proofs.lemmas.Result.{on_ok_weaker}
use Rattle.sqlite_value.specs.Order.{Row}
use Rattle.sqlite_trees.specs.Tree.{Trees}
use Rattle.sqlite.specs.declared.error.Error.{Error}
use Rattle.sqlite.specs.Effect.{Database}
use Rattle.sqlite.specs.State.{State, HasCleanDisk, IsNotRun, IsUnchanged, Survives}
use Rattle.sqlite.proofs.StateLemmas.{survives_then, survives_weaker}
use Rattle.sql_tables.specs.Statements.{HasIdleTables, IsStill, OnlyReads, Reads, Spares}
use Rattle.sql_tables.proofs.Keeps.{idle_still, only_reads_then, spares_still}
use Rattle.sql_keeper.specs.Asks.{Asks, IsStillOpen}
use Rattle.sql_keeper.specs.Commits.{CommitsStanding, CommitsWhole}
use Rattle.sql_keeper.specs.LiveGroups.{Gathers}
use Rattle.sql_keeper.specs.Numbers.{WasSo}
use Rattle.sql_keeper.proofs.commits.Whole.{commits_after, not_shut, refused}

-- nothing is run, so nothing is changed
not_run : (sql : List ℕ) (params : Row) (old new : State) (e : Error)
    → IsNotRun old new sql params e → Spares old new
unfolding IsNotRun
not_run sql params old new e (inl h) = inl h.1
not_run sql params old new e (inr h) = inr h.3

pub asked_spares : {A : Type 0} (P : A → Type 0) (sql : List ℕ) (old new : State)
    (r : Result A Error) → IfOk r (λ x. P x × IsUnchanged old new)
    → IfErr r (λ e. (params : Row) → IsNotRun old new sql params e) → Spares old new
asked_spares P sql old new (Ok x) ok err = inl ok.1
asked_spares P sql old new (Err e) ok err = not_run sql [] old new e (err [])

module _ (sql : List ℕ) (old new : State) (idle : HasIdleTables old)
    (survives : Survives old new (λ _. ⊥))
    (mode : old.in_transaction ≡ false → new.in_transaction ≡ false) where
  was_clean : HasCleanDisk new → HasCleanDisk old
  was_clean clean = omega (arith, survives.clean, clean)

  stays : Spares old new → HasCleanDisk new → IsTrue new.is_open → IsStill old new
  stays left clean on =
      spares_still old new (λ was. (idle (was_clean clean) was).settled) left on

  only_tested : (HasCleanDisk new → IsTrue new.is_open → IsStill old new) → OnlyReads old new
  only_tested still = record {
    still = still;
    idle = λ clean on. let s = still clean on in
        idle_still old new (idle (was_clean clean) s.was_open) s;
    cleanness = was_clean;
    mode = mode;
    counts = survives.counts;
    closes = survives.closes;
  }

  pub tested_open : {A E : Type 0} (u : A) → (HasCleanDisk new → IsUnchanged old new)
      → IsStillOpen {A = A} {E = E} old new (Ok u)
  tested_open u same = record {
    answered = λ clean. let s = same clean in (s.0.was_open, s.0.is_open);
    only = only_tested (λ clean. stays (inl (same clean)) clean);
    survives = survives;
  }

  pub tested_shut : {A E : Type 0} (e : Error) (r : Result A E) → IsErr r
      → (HasCleanDisk new → (params : Row) → IsNotRun old new sql params e) → IsStillOpen old new r
  tested_shut e (Ok x) failed not = absurd (true≢false (sym failed))
  tested_shut e (Err f) failed not = record {
    answered = λ clean. tt;
    only = only_tested (λ clean. stays (not_run sql [] old new e (not clean [])) clean);
    survives = survives;
  }

-- ---- what is asked over one that can still be asked

-- it is still what it was
still_tested : {A E : Type 0} (old mid : State) (u : A) → IsStillOpen {A = A} {E = E} old mid (Ok u)
    → HasCleanDisk mid → IsStill old mid
still_tested old mid u tested clean = tested.only.still clean (tested.answered clean).1

-- a stop in what is only read leaves what it left before
none_left : (old mid new : State) → (HasCleanDisk mid → IsTrue mid.is_open)
    → Survives old mid (λ _. ⊥) → Survives mid new (λ _. mid.is_open ≡ false)
    → Survives old new (λ _. ⊥)
none_left old mid new on one two =
    survives_then old mid new (λ _. ⊥) (λ _. mid.is_open ≡ false) (λ _. ⊥) (λ clean db no. no)
    (λ clean db shut. not_shut mid.is_open (on (omega (arith, two.clean, clean))) shut) one two

pub asked_several : {A B E F : Type 0} (told : Trees → A → Type 0) (old mid new : State) (u : B)
    (r : Result A E) → IsStillOpen {A = B} {E = F} old mid (Ok u) → Gathers told mid new r
    → Asks told old new r
asked_several {A = A} {B = B} {E = E} {F = F} told old mid new u r tested reads = record {
  found = found r reads;
  answered = answered r reads;
  only = only_reads_then old mid new tested.only reads.only;
  survives = none_left old mid new (λ clean. (tested.answered clean).1) tested.survives
      reads.survives;
}
  where
    found : (r : Result A E) → Gathers told mid new r → HasCleanDisk new
        → IfOk r (told old.now.trees)
    found (Ok x) reads clean =
        let was = reads.only.cleanness clean in
        subst (λ (d : Database). told d.trees x)
        (still_tested {A = B} {E = F} old mid u tested was).now_is
        (reads.found clean (reads.stays clean (tested.answered was).1))
    found (Err e) reads clean = tt

    answered : (r : Result A E) → Gathers told mid new r → HasCleanDisk new
        → OnOk r (IsTrue old.is_open × IsTrue new.is_open)
    answered (Ok x) reads clean =
        let t = tested.answered (reads.only.cleanness clean) in (t.0, reads.stays clean t.1)
    answered (Err e) reads clean = tt

-- the same of one read
pub asked_once : {A B E F : Type 0} (told : Trees → A → Type 0) (old mid new : State) (u : B)
    (r : Result A E) → IsStillOpen {A = B} {E = F} old mid (Ok u) → Reads told mid new r
    → Asks told old new r
asked_once {A} {B} {E} {F} told old mid new u r tested reads =
    asked_several {A = A} {B = B} {E = E} {F = F} told old mid new u r tested (record {
      found = λ clean on. reads.found clean;
      only = reads.only;
      stays = λ clean on. reads.stays clean;
      survives = reads.survives;
    })

-- what is said without a read
pub asked_none : {A B E F : Type 0} (told : Trees → A → Type 0) (old new : State) (u : B) (x : A)
    → IsStillOpen {A = B} {E = F} old new (Ok u) → ((trees : Trees) → told trees x)
    → Asks {A = A} {E = E} told old new (Ok x)
asked_none told old new u x tested tells = record {
  found = λ clean. tells old.now.trees;
  answered = tested.answered;
  only = tested.only;
  survives = tested.survives;
}

-- nothing is asked of one that is shut
pub asked_shut : {A B E F : Type 0} (told : Trees → A → Type 0) (old new : State) (f : F)
    (r : Result A E) → IsErr r → IsStillOpen {A = B} {E = F} old new (Err f) → Asks told old new r
asked_shut told old new f (Ok x) failed tested = absurd (true≢false (sym failed))
asked_shut told old new f (Err e) failed tested = record {
  found = λ clean. tt;
  answered = λ clean. tt;
  only = tested.only;
  survives = tested.survives;
}

-- ---- what is committed over one that can still be asked

-- a stop leaves what was left, or what is committed
weaker_shut : (old new : State) → Survives old new (λ _. ⊥)
    → Survives old new (λ _. old.is_open ≡ false)
weaker_shut old new s = survives_weaker old new (λ _. ⊥) (λ _. old.is_open ≡ false)
    (λ clean db no. absurd no) s

-- rule: stop-commit
pub committed_standing : {A B E F : Type 0} (Become : Trees → Trees → Type 0) (old mid new : State)
    (u : B) (r : Result A E) → IsStillOpen {A = B} {E = F} old mid (Ok u)
    → CommitsWhole Become mid new r → CommitsStanding Become old new r
committed_standing {A} {B} {E} {F} Become old mid new u r tested commits = record {
  commits = commits_after Become old mid new tested.only (weaker_shut old mid tested.survives)
      (λ clean. (tested.answered clean).1) r commits;
  survives = survives_then old mid new (λ _. ⊥)
      (λ db. IsTrue mid.is_open → Become mid.now.trees db)
      (λ db. IsTrue old.is_open × Become old.now.trees db) (λ clean db no. absurd no)
      (λ clean db become.
      let was : HasCleanDisk mid = omega (arith, commits.survives.clean, clean) in
      let on = tested.answered was in (
        on.0,
        subst (λ (d : Database). Become d.trees db)
            (still_tested {A = B} {E = F} old mid u tested was).now_is (become on.1),
      )) tested.survives commits.survives;
}

-- nothing is committed over one that is shut
pub standing_shut : {A B E F : Type 0} (Become : Trees → Trees → Type 0) (old new : State) (f : F)
    (r : Result A E) → IsErr r → IsStillOpen {A = B} {E = F} old new (Err f)
    → CommitsStanding Become old new r
standing_shut Become old new f (Ok x) failed tested = absurd (true≢false (sym failed))
standing_shut {A} {B} {E} {F} Become old new f (Err e) failed tested = record {
  commits = refused {A = A} {E = E} Become old new e tested.only
      (weaker_shut old new tested.survives);
  survives = survives_weaker old new (λ _. ⊥)
      (λ db. IsTrue old.is_open × Become old.now.trees db) (λ clean db no. absurd no)
      tested.survives;
}

-- what is said of an answer by the tables before it
pub told_standing : {A B E F : Type 0} (P : A → Trees → Type 0) (old mid new : State) (u : B)
    (r : Result A E) → IsStillOpen {A = B} {E = F} old mid (Ok u)
    → (HasCleanDisk new → HasCleanDisk mid) → (HasCleanDisk new → IfOk r (λ x. P x mid.now.trees))
    → HasCleanDisk new → IfOk r (λ x. P x old.now.trees)
told_standing {A} {B} {E} {F} P old mid new u (Ok x) tested back tells clean =
    subst (λ (d : Database). P x d.trees)
    (still_tested {A = B} {E = F} old mid u tested (back clean)).now_is (tells clean)
told_standing P old mid new u (Err e) tested back tells clean = tt

-- what was so of the tables where it is committed, was so before
pub was_standing : {A B E F : Type 0} (so : Trees → Type 0) (Become : Trees → Trees → Type 0)
    (old mid new : State) (u : B) (r : Result A E) → IsStillOpen {A = B} {E = F} old mid (Ok u)
    → CommitsWhole Become mid new r → WasSo so mid new r → WasSo so old new r
was_standing {A} {B} {E} {F} so Become old mid new u r tested commits was = λ clean.
    on_ok_weaker r (subst (λ (d : Database). so d.trees)
    (still_tested {A = B} {E = F} old mid u tested
    (omega (arith, commits.survives.clean, clean))).now_is) (was clean)
