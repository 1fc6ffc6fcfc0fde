-- What a refusal keeps.
use Rattle.std.proofs.Common.{◌≡◌, ◌⊎◌, inl, inr, ℕ, List, Option, Some, None, Ok, Err, Result}
use Rattle.std.proofs.Common.{IfOk, OnOk, OnErr, IsTrue, refl, true, false, Bool, sym, subst, ap}
use Rattle.std.proofs.Common.{◌∙◌, arith}
use Rattle.std.specs.Result.{IfErr}
use Rattle.sqlite_value.specs.Order.{Row}
use Rattle.sqlite_schema.specs.declared.command.Returning.{Returning}
use Rattle.sqlite_resolve.specs.declared.compiled.Compiled.{Compiled}
use Rattle.sqlite.specs.declared.error.Error.{Error}
use Rattle.sqlite.specs.Clock.{timed}
use Rattle.sqlite.specs.Listing.{understood}
use Rattle.sqlite_catalog.specs.Listing.{IsSound}
use Rattle.sqlite_schema.specs.declared.schema.Constraint.TheVariants.{ForeignKey}
use Rattle.sqlite_schema.specs.Rules.{Fits, Keeps}
use Rattle.sqlite.specs.State.{State, IsLive, ExecutesInside, KeepsCommit, IsUnchanged}
use Rattle.sqlite.specs.State.{Shown, ShowsRows, FailsToQuery, FailsToShow, IsNotRun, HasCleanDisk}
use Rattle.sqlite.specs.State.{Survives, CommitsShowing, IsTooLate}
use Rattle.sqlite.proofs.Callers.{IsPlain, never_commits, unchanged_then}
use Rattle.sqlite.proofs.StateLemmas.{survives_weaker}
use Rattle.sqlite_trees.specs.Tree.{Trees}
use Rattle.sql_tables.specs.Schema.{our_schema}
use Rattle.sql_tables.specs.Statements.{Answers, IsTabled, Spares, IsIdle, AreStored}
use Rattle.sql_tables.specs.Statements.{IsStill, HasTables, HasIdleTables, OnlyReads, Attempts}

keeps : (old new : State) → Spares old new → KeepsCommit old new
keeps old new (inl u) = record { was_open = λ on. u.0.was_open; committed = λ on. u.0.committed_is }
keeps old new (inr r) = record { was_open = r.was_open; committed = λ on. (r.undone on).1 }

pub keeps_err : {A : Type 0} (old new : State) (r : Result A Error) →
    OnErr r (Spares old new) → OnErr r (KeepsCommit old new)
keeps_err old new (Ok x) h = tt
keeps_err old new (Err e) h = keeps old new h

pub keeps_itself : {A : Type 0} (s : State) (r : Result A Error) → OnErr r (KeepsCommit s s)
keeps_itself s (Ok x) = tt
keeps_itself s (Err e) = record { was_open = λ on. on; committed = λ on. refl }

-- rule: statements-of-tables
pub spares : (sql : List ℕ) (params : Row) (old new : State) (r : Result ℕ Error) →
    ExecutesInside 0 sql params old new r → OnErr r (Spares old new)
spares sql params old new (Ok count) h = tt
spares sql params old new (Err e) (inl h) = h.1
spares sql params old new (Err e) (inr h) = inl h.2

pub on_ok : {A B E : Type 0} (r : Result A E) → B → OnOk r B
on_ok (Ok x) h = h
on_ok (Err e) h = tt

-- what is done, said another way
pub done_as : {A E : Type 0} (does tells : State → State → Type 0) (old new : State)
    (r : Result A E)
    → (HasCleanDisk old → OnOk r (does old new) → OnOk r (tells old new)) → Attempts does old new r
    → Attempts tells old new r
done_as does tells old new r how a = record {
  done = λ clean. how (omega (arith, a.survives.clean, clean)) (a.done clean);
  kept = a.kept;
  survives = a.survives;
}

-- ---- what reading keeps

fails_shown : (old new : State) (sql : List ℕ) (c : Compiled) (params : Row) (e : Error)
    (r : Option Returning) →
    FailsToShow old new sql c params e r → Spares old new
fails_shown old new sql c params e None h = inl h.3
fails_shown old new sql c params e (Some what) (inl h) = inl h.1
fails_shown old new sql c params e (Some what) (inr h) = inr h.3

pub fails_spares : (sql : List ℕ) (params : Row) (old new : State) (e : Error) →
    FailsToQuery sql params old new e →
    Spares old new
unfolding FailsToQuery IsNotRun
fails_spares sql params old new e (inl (inl h)) = inl h.1
fails_spares sql params old new e (inl (inr h)) = inr h.3
fails_spares sql params old new e (inr h) =
    fails_shown old new sql h.0 (timed params h.0.formats h.1.now) e
    h.0.returning h.2

shown_open : (old new : State) (sql : List ℕ) (c : Compiled) (params : Row) (rows : List Row)
    (r : Option Returning)
    → ShowsRows old new sql c params rows r → IsTrue old.is_open
shown_open old new sql c params rows None h = h.3.0.was_open
shown_open old new sql c params rows (Some what) h = h.1.shown.was_open

was_shown : (sql : List ℕ) (params : Row) (old new : State) (rows : List Row) →
    Shown sql params old new rows →
    IsTrue old.is_open
unfolding Shown
was_shown sql params old new rows h =
    shown_open old new sql h.0 (timed params h.0.formats h.1.now) rows
    h.0.returning h.2

shown_unchanged : (sql : List ℕ) (params : Row) (old new : State) (rows : List Row) → IsPlain
    (understood old.now.schema sql) → Shown sql params old new rows → IsUnchanged old new
unfolding Shown
shown_unchanged sql params old new rows plain h = let bare = subst IsPlain h.1.is plain in
    (rw bare.0 at h.2).3

-- what a refusal leaves after nothing was changed
pub spares_then : (a b c : State) → IsUnchanged a b → Spares b c → Spares a c
spares_then a b c same (inl u) = inl (unchanged_then a b c same u)
spares_then a b c same (inr r) = inr (record {
  was_open = λ on. same.0.was_open;
  undone = λ on. (
    (r.undone on).0 ∙ same.0.committed_is,
    (r.undone on).1 ∙ same.0.committed_is,
  );
  autocommit = r.autocommit;
  unmarked = r.unmarked;
  counts = record {
    changes = r.counts.changes ∙ same.1.changes;
    last_rowid = r.counts.last_rowid ∙ same.1.last_rowid;
  };
})

-- outside a transaction it leaves what was there
pub spares_still : (old new : State) → (IsTrue old.is_open → old.now ≡ old.committed)
    → Spares old new → IsTrue new.is_open → IsStill old new
spares_still old new settled (inl u) on =
    record { was_open = u.0.was_open; now_is = u.0.now_is; committed_is = u.0.committed_is }
spares_still old new settled (inr b) on = record {
  was_open = b.was_open on;
  now_is = (b.undone on).0 ∙ sym (settled (b.was_open on));
  committed_is = (b.undone on).1;
}

pub still_itself : (s : State) → IsTrue s.is_open → IsStill s s
still_itself s on = record { was_open = on; now_is = refl; committed_is = refl }

-- a selection changes nothing, whether it answers or fails outside a transaction
pub reads_still : {V : Type 0} (items : V → List Row) (sql : List ℕ) (params : Row)
    (old new : State) (r : Result V Error) → IsPlain (understood our_schema sql)
    → (IsTrue old.is_open → IsIdle old) → IfOk r (λ v. Shown sql params old new (items v))
    → IfErr r (FailsToQuery sql params old new) → IsTrue new.is_open → IsStill old new
reads_still items sql params old new (Ok v) plain idle ok err on =
    let was = was_shown sql params old new (items v) ok in
    let same = shown_unchanged sql params old new (items v) (subst (λ s. IsPlain (understood s sql))
    (sym (idle was).book.schema) plain) ok in
    record { was_open = was; now_is = same.0.now_is; committed_is = same.0.committed_is }
reads_still items sql params old new (Err e) plain idle ok err on =
    spares_still old new (λ was. (idle was).settled) (fails_spares sql params old new e err) on

-- a selection within a transaction changes nothing, or it keeps what was committed
pub reads_within : {V : Type 0} (items : V → List Row) (sql : List ℕ) (params : Row)
    (old new : State) (r : Result V Error) → IsPlain (understood our_schema sql) → HasTables old
    → Survives old new (λ _. ⊥)
    → (HasCleanDisk new → IfOk r (λ v. Shown sql params old new (items v)))
    → (HasCleanDisk new → IfErr r (λ e. FailsToQuery sql params old new e
    ⊎ IsTooLate sql params old new e))
    → Attempts IsUnchanged old new r
reads_within {V} items sql params old new r plain book survives ok err = record {
  done = λ clean. done r (ok clean) (omega (arith, survives.clean, clean));
  kept = λ clean. kept r (err clean);
  survives = survives;
}
  where
    done : (r : Result V Error) → IfOk r (λ v. Shown sql params old new (items v))
        → HasCleanDisk old → OnOk r (IsUnchanged old new)
    done (Ok v) shown clean =
        let on = was_shown sql params old new (items v) shown in
        shown_unchanged sql params old new (items v)
        (subst (λ s. IsPlain (understood s sql)) (sym (book clean on).schema) plain) shown
    done (Err e) shown clean = tt

    kept : (r : Result V Error)
        → IfErr r (λ e. FailsToQuery sql params old new e ⊎ IsTooLate sql params old new e)
        → OnErr r (KeepsCommit old new)
    kept (Ok v) failed = tt
    kept (Err e) (inl failed) = keeps old new (fails_spares sql params old new e failed)
    kept (Err e) (inr late) = keeps old new (inl late.5)

-- what a selection answers within a transaction
pub answers_within : (sql : List ℕ) (params : Row) (old new : State) (rows : List Row)
    → IsPlain (understood our_schema sql) → (IsTrue old.is_open → IsTabled old)
    → (IsTrue old.is_open → Fits our_schema old.now.trees)
    → Shown sql params old new rows → Answers sql params old new rows
answers_within sql params old new rows plain book rules shown =
    let on = was_shown sql params old new rows shown in
    let same = shown_unchanged sql params old new rows
    (subst (λ s. IsPlain (understood s sql)) (sym (book on).schema) plain) shown in
    record {
      was_open = on;
      is_open = same.0.is_open;
      book = book on;
      fits = rules on;
      shown = shown;
    }

-- an attempt's answer or error, given as another's
pub attempt_ok : {A E F : Type 0} (does : State → State → Type 0) (old new : State)
    (r : Result A E) (v : A) → r ≡ Ok v → Attempts does old new r
    → Attempts {A = A} {E = F} does old new (Ok v)
attempt_ok {A} {E} does old new r v is a =
    let it : Attempts {A = A} {E = E} does old new (Ok v) =
    subst (λ x. Attempts {A = A} {E = E} does old new x) is a in
    record { done = it.done; kept = λ clean. tt; survives = it.survives }

pub attempt_err : {A B E F : Type 0} (does : State → State → Type 0) (old new : State)
    (r : Result A E) (e : E) (f : F) → r ≡ Err e → Attempts does old new r
    → Attempts {A = B} {E = F} does old new (Err f)
attempt_err {A} {B} {E} does old new r e f is a =
    let it : Attempts {A = A} {E = E} does old new (Err e) =
    subst (λ x. Attempts {A = A} {E = E} does old new x) is a in
    record { done = λ clean. tt; kept = it.kept; survives = it.survives }

-- one that is idle and stays as it was is idle still
pub idle_still : (old new : State) → IsIdle old → IsStill old new → IsIdle new
idle_still old new idle still = record {
  book = record {
    schema = ap (λ d. d.schema) still.now_is ∙ idle.book.schema;
    stored = subst
        (λ d. AreStored d.trees) (sym still.now_is) idle.book.stored;
  };
  settled = still.now_is ∙ idle.settled ∙ sym still.committed_is;
}

-- a selection commits nothing: what it may show as committed is that of an open connection
pub reads_survive : (sql : List ℕ) (params : Row) (old new : State)
    → IsPlain (understood our_schema sql) → HasIdleTables old
    → Survives old new (CommitsShowing sql params old) → Survives old new (λ _. old.is_open ≡ false)
reads_survive sql params old new plain idle s =
    survives_weaker old new _ _
    (λ clean db may. go (omega (arith, s.clean, clean)) db may old.is_open refl) s
  where
    go : HasCleanDisk old → (db : Trees) → CommitsShowing sql params old db → (b : Bool)
        → old.is_open ≡ b → old.is_open ≡ false
    go clean db may false e = e
    go clean db may true e =
        absurd (never_commits sql params old db (subst (λ s. IsPlain (understood s sql))
        (sym (idle clean e).book.schema) plain) may)

-- rule: statements-of-tables
pub reads_only : {V : Type 0} (items : V → List Row) (sql : List ℕ) (params : Row) (old new : State)
    (r : Result V Error) → IsPlain (understood our_schema sql) → HasIdleTables old
    → Survives old new (CommitsShowing sql params old)
    → (old.in_transaction ≡ false → new.in_transaction ≡ false)
    → (HasCleanDisk new → IfOk r (λ v. Shown sql params old new (items v)))
    → (HasCleanDisk new → IfErr r (FailsToQuery sql params old new)) → OnlyReads old new
reads_only items sql params old new r plain idle survives mode ok err = record {
  still = still;
  idle = λ clean on. let s = still clean on in
      idle_still old new (idle (cleanness clean) s.was_open) s;
  cleanness = cleanness;
  mode = mode;
  counts = survives.counts;
  closes = survives.closes;
}
  where
    cleanness : HasCleanDisk new → HasCleanDisk old
    cleanness clean = omega (arith, survives.clean, clean)

    still : HasCleanDisk new → IsTrue new.is_open → IsStill old new
    still clean on = reads_still items sql params old new r plain (idle (cleanness clean))
        (ok clean) (err clean) on

-- one selection after another
pub only_reads_then : (a b c : State) → OnlyReads a b → OnlyReads b c → OnlyReads a c
only_reads_then a b c one two = record {
  still = λ clean on.
      let t = two.still clean on in
      let s = one.still (two.cleanness clean) t.was_open in
      record {
        was_open = s.was_open;
        now_is = t.now_is ∙ s.now_is;
        committed_is = t.committed_is ∙ s.committed_is;
      };
  idle = two.idle;
  cleanness = λ clean. one.cleanness (two.cleanness clean);
  mode = λ plain. two.mode (one.mode plain);
  counts = omega (arith, one.counts, two.counts);
  closes = λ clean on. elim (one.closes (two.cleanness clean) on) [
    | inl still ↦ elim (two.closes clean still) [
      | inl last ↦ inl last
      | inr fault ↦ inr (omega (arith, one.counts, fault))
    ]
    | inr fault ↦ inr (omega (arith, two.counts, fault))
  ];
}

-- ---- the rules of the tables

-- of a database that is made whole
pub sound_fits : (trees : Trees) → IsSound our_schema trees → Fits our_schema trees
sound_fits trees sound =
    record { rules = λ rule other. sound.obeys.rules rule; indexed = sound.obeys.indexed }

pub fits_of : (old : State) → IsTrue old.is_open → IsTabled old → IsLive old →
    Fits our_schema old.now.trees
fits_of old on book live =
    sound_fits old.now.trees (subst (λ s. IsSound s old.now.trees) book.schema (live on).0)

pub keys_from : (sql : List ℕ) (params : Row) (old new : State) (rows : List Row)
    → (IsTrue old.is_open → IsIdle old) → IsLive old → Shown sql params old new rows
    → Keeps ForeignKey our_schema old.now.trees
keys_from sql params old new rows idle live shown =
    let on = was_shown sql params old new rows shown in
    (subst (λ s. IsSound s old.now.trees) (idle on).book.schema (live on).0).obeys.rules ForeignKey

-- rule: statements-of-tables
pub answers_from : (sql : List ℕ) (params : Row) (old new : State) (rows : List Row)
    → IsPlain (understood our_schema sql) → (IsTrue old.is_open → IsIdle old) → IsLive old
    → Shown sql params old new rows → Answers sql params old new rows
answers_from sql params old new rows plain idle live shown =
    let on = was_shown sql params old new rows shown in
    let same = shown_unchanged sql params old new rows
    (subst (λ s. IsPlain (understood s sql)) (sym (idle on).book.schema) plain) shown in
    record {
      was_open = on;
      is_open = same.0.is_open;
      book = (idle on).book;
      fits = fits_of old on (idle on).book live;
      shown = shown;
    }
