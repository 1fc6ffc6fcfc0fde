-- Reads of the tables, one after another, and what is made of what they answer.
use Rattle.std.proofs.Common.{◌≡◌, inl, false, IsTrue, Result, Ok, Err, IfOk, refl, sym, arith}
use Rattle.std.proofs.Common.{true≢false}
use Rattle.std.specs.Result.{IsErr}
use Rattle.sqlite_trees.specs.Tree.{Trees}
use Rattle.sqlite.specs.State.{State, HasCleanDisk, Survives}
use Rattle.sql_tables.specs.Statements.{HasIdleTables, OnlyReads, Reads}
use Rattle.sql_tables.proofs.Keeps.{on_ok, only_reads_then}
use Rattle.sql_tables.proofs.Telling.{survive_then}
use Rattle.sql_keeper.specs.LiveGroups.{Gathers}
use Rattle.sql_keeper.proofs.commits.Whole.{survives_self}

-- what reads that answered leave
pub record HaveRead (old new : State) : Type 0 where
  pub only : OnlyReads old new
  pub stays : HasCleanDisk new → IsTrue old.is_open → IsTrue new.is_open
  pub survives : Survives old new (λ _. old.is_open ≡ false)

pub none_read : (s : State) → HasIdleTables s → HaveRead s s
none_read s idle = record {
  only = record {
    still = λ clean on. record { was_open = on; now_is = refl; committed_is = refl };
    idle = idle;
    cleanness = λ clean. clean;
    mode = λ plain. plain;
    counts = omega arith;
    closes = λ clean on. inl on;
  };
  stays = λ clean on. on;
  survives = survives_self s (λ _. s.is_open ≡ false);
}

pub have_read : {A E : Type 0} (told : Trees → A → Type 0) (old new : State) (x : A)
    → Reads {A = A} {E = E} told old new (Ok x) → HaveRead old new
have_read told old new x h =
    record { only = h.only; stays = λ clean on. h.stays clean; survives = h.survives }

pub have_gathered : {A E : Type 0} (told : Trees → A → Type 0) (old new : State) (x : A)
    → Gathers {A = A} {E = E} told old new (Ok x) → HaveRead old new
have_gathered told old new x h = record { only = h.only; stays = h.stays; survives = h.survives }

pub have_read_then : (old mid new : State) → HaveRead old mid → HaveRead mid new → HaveRead old new
have_read_then old mid new one two = record {
  only = only_reads_then old mid new one.only two.only;
  stays = λ clean on. two.stays clean (one.stays (two.only.cleanness clean) on);
  survives = survive_then old mid new one.stays one.survives two.survives;
}

-- a failure after reads
pub gives_up : {A E : Type 0} (told : Trees → A → Type 0) (old mid new : State) (e : E)
    → HaveRead old mid → OnlyReads mid new → Survives mid new (λ _. mid.is_open ≡ false)
    → Gathers {A = A} {E = E} told old new (Err e)
gives_up told old mid new e first only survives = record {
  found = λ clean on. tt;
  only = only_reads_then old mid new first.only only;
  stays = λ clean on. tt;
  survives = survive_then old mid new first.stays first.survives survives;
}

pub failed_then : {A E : Type 0} (told : Trees → A → Type 0) (old mid new : State) (r : Result A E)
    → IsErr r → HaveRead old mid → OnlyReads mid new → Survives mid new (λ _. mid.is_open ≡ false)
    → Gathers told old new r
failed_then told old mid new (Ok x) failed first only survives = absurd (true≢false (sym failed))
failed_then told old mid new (Err e) failed first only survives =
    gives_up told old mid new e first only survives

-- what is made after reads
pub gathers_from : {A E : Type 0} (told : Trees → A → Type 0) (old new : State) (r : Result A E)
    → HaveRead old new → (HasCleanDisk new → IsTrue new.is_open → IfOk r (told old.now.trees))
    → Gathers told old new r
gathers_from told old new r read found = record {
  found = found;
  only = read.only;
  stays = λ clean on. on_ok r (read.stays clean on);
  survives = read.survives;
}

-- of the tables as they were before, with the faults of what is made of it
pub gathers_made : {A B E : Type 0} (P : Trees → A → Type 0) (told : Trees → B → Type 0)
    (old new : State) (x : A) (r : Result B E) → Gathers {A = A} {E = E} P old new (Ok x)
    → ((trees : Trees) → P trees x → IfOk r (told trees)) → Gathers told old new r
gathers_made {A} {B} {E} P told old new x r h to =
    gathers_from told old new r (have_gathered {A = A} {E = E} P old new x h)
    (λ clean on. to old.now.trees (h.found clean on))
