-- Selections within a transaction, one after another, and what is made of what they answer.
use Rattle.std.proofs.Common.{◌∙◌, Result, Ok, Err, IfOk, OnErr, ap, refl, subst, sym}
use Rattle.std.proofs.Common.{arith, true≢false}
use Rattle.std.specs.Result.{IsErr}
use Rattle.sqlite_trees.specs.Tree.{Trees}
use Rattle.sqlite.specs.Effect.{Database}
use Rattle.sqlite.specs.State.{State, HasCleanDisk, IsUnchanged, KeepsCommit, Survives}
use Rattle.sqlite.proofs.StateLemmas.{survives_then}
use Rattle.sqlite_schema.specs.Rules.{Fits}
use Rattle.sql_tables.specs.Schema.{our_schema}
use Rattle.sql_tables.specs.Statements.{AreStored, Attempts, HasTables, HasRules, IsInside}
use Rattle.sql_tables.specs.Statements.{ReadsWithin}
use Rattle.sql_tables.proofs.Keeps.{on_ok}

-- what selections that answered leave
pub record HaveWithin (old new : State) : Type 0 where
  pub same : HasCleanDisk new → IsUnchanged old new
  pub survives : Survives old new (λ _. ⊥)

pub have_within : {A E : Type 0} (told : Trees → A → Type 0) (old new : State) (x : A)
    → ReadsWithin {A = A} {E = E} told old new (Ok x) → HaveWithin old new
have_within told old new x h = record { same = h.still.done; survives = h.still.survives }

unchanged_then : (a b c : State) → IsUnchanged a b → IsUnchanged b c → IsUnchanged a c
unchanged_then a b c one two = (
  record {
    was_open = one.0.was_open;
    is_open = two.0.is_open;
    now_is = two.0.now_is ∙ one.0.now_is;
    committed_is = two.0.committed_is ∙ one.0.committed_is;
    mode = two.0.mode ∙ one.0.mode;
  },
  record {
    changes = two.1.changes ∙ one.1.changes;
    last_rowid = two.1.last_rowid ∙ one.1.last_rowid;
  },
  two.2 ∙ one.2,
)

pub have_within_then : (old mid new : State) → HaveWithin old mid → HaveWithin mid new →
    HaveWithin old new
have_within_then old mid new one two = record {
  same = λ clean. unchanged_then old mid new
      (one.same (omega (arith, two.survives.clean, clean))) (two.same clean);
  survives = survives_then old mid new (λ _. ⊥) (λ _. ⊥) (λ _. ⊥) (λ clean db no. no)
      (λ clean db no. no) one.survives two.survives;
}

-- what is said after them is said of the tables before
pub told_since : (told : Trees → Type 0) (old mid : State) → IsUnchanged old mid →
    told mid.now.trees → told old.now.trees
told_since told old mid same = subst (λ (d : Database). told d.trees) same.0.now_is

-- what is made of them
pub within_from : {A E : Type 0} (told : Trees → A → Type 0) (old new : State) (r : Result A E)
    → HaveWithin old new → (HasCleanDisk new → IfOk r (told old.now.trees))
    → ReadsWithin told old new r
within_from {A} {E} told old new r have found = record {
  found = found;
  still = record {
    done = λ clean. on_ok r (have.same clean);
    kept = λ clean. kept r (have.same clean);
    survives = have.survives;
  };
}
  where
    kept : (r : Result A E) → IsUnchanged old new → OnErr r (KeepsCommit old new)
    kept (Ok x) same = tt
    kept (Err e) same =
        record { was_open = λ on. same.0.was_open; committed = λ on. same.0.committed_is }

-- an error after them keeps what was committed
pub failed_within : {A B E F : Type 0} (does : State → State → Type 0) (told : Trees → A → Type 0)
    (old mid new : State) (r : Result A E) (e : F) → IsErr r → HaveWithin old mid
    → Attempts {A = B} {E = F} does mid new (Err e) → ReadsWithin told old new r
failed_within does told old mid new (Ok x) e failed have err = absurd (true≢false (sym failed))
failed_within does told old mid new (Err f) e failed have err = record {
  found = λ clean. tt;
  still = record {
    done = λ clean. tt;
    kept = λ clean.
        let same = have.same (omega (arith, err.survives.clean, clean)) in
        let kept = err.kept clean in
        record {
          was_open = λ on. same.0.was_open;
          committed = λ on. kept.committed on ∙ same.0.committed_is;
        };
    survives = survives_then old mid new (λ _. ⊥) (λ _. ⊥) (λ _. ⊥) (λ clean db no. no)
        (λ clean db no. no) have.survives err.survives;
  };
}

-- of two selections
-- rule: statements-of-tables.reads-within
pub within_both : {A B C E F G : Type 0} (P : Trees → A → Type 0) (Q : Trees → B → Type 0)
    (told : Trees → C → Type 0) (old mid new : State) (x : A) (y : B) (r : Result C G)
    → ReadsWithin {A = A} {E = E} P old mid (Ok x) → ReadsWithin {A = B} {E = F} Q mid new (Ok y)
    → ((trees : Trees) → P trees x → Q trees y → IfOk r (told trees)) → ReadsWithin told old new r
within_both {A} {B} {C} {E} {F} P Q told old mid new x y r one two to =
    within_from told old new r
    (have_within_then old mid new (have_within {A = A} {E = E} P old mid x one)
    (have_within {A = B} {E = F} Q mid new y two))
    (λ clean.
    let before : HasCleanDisk mid = omega (arith, two.still.survives.clean, clean) in
    to old.now.trees (one.found before)
    (told_since (λ trees. Q trees y) old mid (one.still.done before) (two.found clean)))

-- of one, and what is made of it
pub within_made : {A B E F : Type 0} (P : Trees → A → Type 0) (told : Trees → B → Type 0)
    (old new : State) (x : A) (r : Result B F) → ReadsWithin {A = A} {E = E} P old new (Ok x)
    → ((trees : Trees) → P trees x → IfOk r (told trees)) → ReadsWithin told old new r
within_made {A} {B} {E} P told old new x r h to =
    within_from told old new r (have_within {A = A} {E = E} P old new x h)
    (λ clean. to old.now.trees (h.found clean))

-- ---- what several say

pub record TellWithin (P : Trees → Type 0) (old new : State) : Type 0 where
  pub found : HasCleanDisk new → P old.now.trees
  pub have : HaveWithin old new

-- ---- what stays

pub book_still : (old new : State) → HaveWithin old new → HasTables old → HasTables new
book_still old new have book clean on =
    let same = have.same clean in
    let before = book (omega (arith, have.survives.clean, clean)) same.0.was_open in
    record {
      schema = ap (λ (d : Database). d.schema) same.0.now_is ∙ before.schema;
      stored = subst (λ (d : Database). AreStored d.trees) (sym same.0.now_is) before.stored;
    }

pub rules_still : (old new : State) → HaveWithin old new → HasRules old → HasRules new
rules_still old new have rules clean on =
    let same = have.same clean in
    subst (λ (d : Database). Fits our_schema d.trees) (sym same.0.now_is)
    (rules (omega (arith, have.survives.clean, clean)) same.0.was_open)

pub inside_still : (old new : State) → HaveWithin old new → IsInside old → IsInside new
inside_still old new have inside clean on =
    let same = have.same clean in
    same.0.mode ∙ inside (omega (arith, have.survives.clean, clean)) same.0.was_open

-- ---- errors, of whatever would have been done

pub gave_up : {A B E F : Type 0} (does tells : State → State → Type 0) (old new : State)
    (r : Result A E) (e : F) → IsErr r → Attempts {A = B} {E = F} does old new (Err e)
    → Attempts tells old new r
gave_up does tells old new (Ok x) e failed err = absurd (true≢false (sym failed))
gave_up does tells old new (Err f) e failed err =
    record { done = λ clean. tt; kept = err.kept; survives = err.survives }

pub stopped_within : {A E : Type 0} (tells : State → State → Type 0) (old new : State)
    (r : Result A E) → IsErr r → HaveWithin old new → Attempts tells old new r
stopped_within tells old new (Ok x) failed have = absurd (true≢false (sym failed))
stopped_within tells old new (Err e) failed have = record {
  done = λ clean. tt;
  kept = λ clean.
      let same = have.same clean in
      record { was_open = λ on. same.0.was_open; committed = λ on. same.0.committed_is };
  survives = have.survives;
}

pub ended_within : {A B E F : Type 0} (does tells : State → State → Type 0) (old mid new : State)
    (r : Result A E) (e : F) → IsErr r → HaveWithin old mid
    → Attempts {A = B} {E = F} does mid new (Err e) → Attempts tells old new r
ended_within {A} {B} {E} {F} does tells old mid new r e failed have err =
    gave_up {A = A} {B = A} {E = E} {F = F} IsUnchanged tells old new r e failed
    (failed_within {A = A} {B = B} {E = F} {F = F} does (λ _ _. Unit {0}) old mid new (Err e) e refl
    have err).still
