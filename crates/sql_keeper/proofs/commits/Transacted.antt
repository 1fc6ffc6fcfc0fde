-- What is put in a transaction is committed, or nothing is.
use Rattle.std.proofs.Common.{◌≡◌, inl, inr, IsTrue, true, false, ◌∙◌, sym, ap, subst, arith, []}
use Rattle.std.specs.Prelude.{Result, Ok, Err, IfErr, OnOk}
use Rattle.sqlite_trees.specs.Tree.{Trees}
use Rattle.sqlite_trees.specs.declared.store.Store.{Ghosts}
use Rattle.sqlite.specs.Effect.{Database}
use Rattle.sqlite.specs.Held.{Held, state}
use Rattle.sqlite.specs.State.{State, HasCleanDisk, IsRolledBack, KeepsCounts, Shows, Survives}
use Rattle.sqlite.specs.Steps.{FailsToCommit}
use Rattle.sqlite.specs.declared.error.Error.{Error}
use Rattle.sqlite.proofs.StateLemmas.{survives_then}
use Rattle.sql_tables.specs.Statements.{AreStored, Attempts, HasIdleTables, IsIdle, IsStill}
use Rattle.sql_rows.specs.Content.{TablesContent}
use Rattle.sql_rows.specs.Makes.{Commits, Makes, Turns}
use Rattle.sql_tables.proofs.Keeps.{on_ok}
use Rattle.sql_keeper.specs.Commits.{Transacts}
use Rattle.sql_keeper.specs.Numbers.{WasSo}

module _ {S : Type 0} (g : Ghosts S) (change : TablesContent → TablesContent) (old begun : Held S)
    (mid new : State) (begins : begun ≡ record old { in_transaction = true })
    (before : HasIdleTables (state g old)) {A : Type 0} (u : A)
    (put : Attempts {A = A} {E = Error} (Makes change) (state g begun) mid (Ok u))
    (ends : Survives mid new (λ db. db ≡ mid.now.trees)) where
  abbrev first : State
  first = state g old

  abbrev inside : State
  inside = state g (record old { in_transaction = true })

  puts : Attempts {A = A} {E = Error} (Makes change) inside mid (Ok u)
  puts = subst (λ h. Attempts {A = A} {E = Error} (Makes change) (state g h) mid (Ok u)) begins put

  mid_clean : HasCleanDisk new → HasCleanDisk mid
  mid_clean clean = omega (arith, ends.clean, clean)

  made : HasCleanDisk new → Makes change inside mid
  made clean = puts.done (mid_clean clean)

  begins_survived : Survives first mid (λ _. ⊥)
  begins_survived = record {
    clean = puts.survives.clean;
    shield = puts.survives.shield;
    counts = puts.survives.counts;
    limit = puts.survives.limit;
    closes = puts.survives.closes;
    crash = puts.survives.crash;
  }

  -- a stop leaves what it left before, or all of the change
  survives_whole : Survives first new
      (λ db. IsTrue first.is_open × Turns change first.now.trees db)
  survives_whole =
      survives_then first mid new (λ _. ⊥) (λ db. db ≡ mid.now.trees)
      (λ db. IsTrue first.is_open × Turns change first.now.trees db) (λ clean db no. absurd no)
      (λ clean db is. (
        (made clean).shows.was_open,
        subst (Turns change first.now.trees) (sym is) (made clean).turns,
      )) begins_survived ends

  idle : HasCleanDisk new → IsIdle first
  idle clean = before (omega (arith, begins_survived.clean, ends.clean, clean))
      (made clean).shows.was_open

  commits : HasCleanDisk new → Shows mid new mid.now mid.now false → Commits change first new
  commits clean shows = record {
    turns = subst (λ (d : Database). Turns change first.now.trees d.trees) (sym shows.now_is)
        (made clean).turns;
    idle = record {
      book = record {
        schema = ap (λ (d : Database). d.schema) shows.now_is ∙ (made clean).book.schema;
        stored = subst (λ (d : Database). AreStored d.trees) (sym shows.now_is)
            (made clean).book.stored;
      };
      settled = shows.now_is ∙ sym shows.committed_is;
    };
  }

  still : (e : Error) → HasCleanDisk new → FailsToCommit mid new e → IsTrue new.is_open
      → IsStill first new
  still e clean (inl fails) on = back fails.3
    where
      back : IsRolledBack mid new → IsStill first new
      back b = record {
        was_open = (made clean).shows.was_open;
        now_is = (b.undone on).0 ∙ (made clean).shows.committed_is ∙ sym (idle clean).settled;
        committed_is = (b.undone on).1 ∙ (made clean).shows.committed_is;
      }
  still e clean (inr late) on =
      absurd (let no : true ≡ false = sym (made clean).shows.mode ∙ late.1 in cc)

  stays_idle : HasCleanDisk new → IsStill first new → IsIdle new
  stays_idle clean s = record {
    book = record {
      schema = ap (λ (d : Database). d.schema) s.now_is ∙ (idle clean).book.schema;
      stored = subst (λ (d : Database). AreStored d.trees) (sym s.now_is)
          (idle clean).book.stored;
    };
    settled = s.now_is ∙ (idle clean).settled ∙ sym s.committed_is;
  }

  -- what was so of the tables where it was put, was so before the transaction
  pub was_so : {B : Type 0} (so : Trees → Type 0) (r : Result B Error)
      → WasSo {A = A} {E = Error} so (state g begun) mid (Ok u) → WasSo so first new r
  was_so so r was = λ clean.
      on_ok r (subst (λ h. WasSo {A = A} {E = Error} so (state g h) mid (Ok u)) begins was
      (mid_clean clean))

  pub transacted : {B : Type 0} (r : Result B Error)
      → (HasCleanDisk new → OnOk r (IsTrue mid.in_transaction
      × Shows mid new mid.now mid.now false × KeepsCounts mid new × (new.marks ≡ [])))
      → (HasCleanDisk new → IfErr r (FailsToCommit mid new))
      → Transacts change first new r
  transacted (Ok x) ok err = record {
    done = λ clean.
        let shows = (ok clean).1 in
        ((made clean).shows.was_open, shows.is_open, commits clean shows);
    kept = λ clean on. tt;
    idle = λ clean on. (commits clean (ok clean).1).idle;
    survives = survives_whole;
  }
  transacted (Err e) ok err = record {
    done = λ clean. tt;
    kept = λ clean on. still e clean (err clean) on;
    idle = λ clean on. stays_idle clean (still e clean (err clean) on);
    survives = survives_whole;
  }
