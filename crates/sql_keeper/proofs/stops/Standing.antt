-- The laws of keepers, of a call over a connection that may be shut.
use Rattle.std.proofs.Common.{◌≡◌, ◌≤◌, inl, inr, ℕ, List, Result, Ok, Err, OnOk, OnErr}
use Rattle.std.proofs.Common.{IsTrue, ap, sym, ◌∙◌, subst, arith, false}
use Rattle.sqlite_trees.specs.Tree.{Trees}
use Rattle.sqlite_trees.specs.declared.store.Store.{Ghosts}
use Rattle.sqlite.specs.Held.{state}
use Rattle.sqlite.specs.State.{State, HasCleanDisk}
use Rattle.sql_tables.specs.declared.reading.ReadFault.{ReadFault}
use Rattle.sql_tables.specs.Statements.{IsStill}
use Rattle.sql_rows.specs.Content.{tables_content}
use Rattle.keepers.specs.declared.fault.StoreFault.{StoreFault}
use Rattle.keepers.specs.Faults.{HasCause, max_failures}
use Rattle.keepers.specs.Keeping.{Keeps, KeeperReads}
use Rattle.keepers.specs.Tables.{Tables}
use Rattle.sql_keeper.specs.Asks.{Asks, IsHanded}
use Rattle.sql_keeper.specs.Commits.{CommitsStanding, CommitsWhole}
use Rattle.sql_keeper.specs.Content.{shelf_names, tables_of}
use Rattle.sql_keeper.specs.Inside.{KeeperState, IsKeeper, StaysOpen, names_in}
use Rattle.sql_keeper.specs.Inside.{clean_in}
use Rattle.sql_keeper.specs.Left.{IsHeld}
use Rattle.sql_keeper.specs.Stops.{as_seen, IsCommitWhole, LeavesIn, MayLeave, trees_in}
use Rattle.sql_keeper.proofs.reads.Asked.{cause_at_most, handed, open_of, stays_open, was_clean}
use Rattle.sql_keeper.proofs.commits.Committed.{committed_keeper, same_tables, stays_in, whole}
use Rattle.sql_keeper.proofs.commits.Committed.{was_clean as was_clean_before}
use Rattle.sql_keeper.proofs.commits.Whole.{handed_on}

-- ---- what is handed on

pub on_ok_as : {A E : Type 0} (P Q : Type 0) (r : Result A E) → (P → Q) → OnOk r P → OnOk r Q
on_ok_as P Q (Ok x) to p = to p
on_ok_as P Q (Err e) to p = tt

pub ok_handed : {A E F : Type 0} (P : Type 0) (r : Result A E) (q : Result A F) → IsHanded r q
    → OnOk r P → OnOk q P
ok_handed P (Ok x) (Ok y) h p = p
ok_handed P (Ok x) (Err f) h p = tt
ok_handed P (Err e) (Ok y) h p = absurd h
ok_handed P (Err e) (Err f) h p = tt

pub err_handed : {A E F : Type 0} (P : Type 0) (r : Result A E) (q : Result A F) → IsHanded r q
    → OnErr r P → OnErr q P
err_handed P (Ok x) (Ok y) h p = tt
err_handed P (Ok x) (Err f) h p = absurd h
err_handed P (Err e) (Ok y) h p = tt
err_handed P (Err e) (Err f) h p = p

module _ {S : Type 0} (g : Ghosts S) (old new : KeeperState S) (keeper : IsKeeper g old)
    (shelf : new.shelf ≡ old.shelf) where
  abbrev before : State
  before = state g old.connection

  abbrev after : State
  after = state g new.connection

  is_clean : HasCleanDisk after → IsTrue after.is_open → clean_in g new
  is_clean disk on = record { disk = disk; open_still = inr on }

  named_before : (t : Tables) (db : Trees) → t ≡ tables_of (names_in new) (tables_content db)
      → t ≡ tables_of (names_in old) (tables_content db)
  named_before t db is = is ∙ ap (λ s. tables_of (shelf_names s) (tables_content db)) shelf

  left_before : (t : Tables) (db : Trees) → MayLeave g old db
      → t ≡ tables_of (names_in new) (tables_content db) → LeavesIn g old t
  left_before t db may is =
      record { keeper = keeper; db = db; may = may; is = named_before t db is }

  -- a call that reads
  -- rule: database-reads.tables-of, database-reads.find-answer
  pub asked : {T : Type 0} (told : Trees → T → Type 0) (Found : T → Type 0)
      (read : Result T ReadFault) (result : Result T StoreFault) → Asks told before after read
      → IsHanded read result → HasCause old.failures new.failures result
      → (HasCleanDisk before → IsTrue before.is_open → (x : T) → told before.now.trees x → Found x)
      → KeeperReads (as_seen g old) (as_seen g new) Found result
  asked told Found read result asks e cause to = record {
    found = λ clean. handed (told before.now.trees) Found read result e
        (to (asks.only.cleanness clean.disk) (still clean).was_open) (asks.found clean.disk);
    same = λ clean i. tables_of (shelf_names (shelf i))
        (tables_content (((still clean).now_is i).trees));
    cleanness = was_clean before after stays asks.only;
    honesty = asks.only.cleanness;
    stands = λ honest. ok_handed (clean_in g new) read result e
        (on_ok_as _ (clean_in g new) read (λ on. is_clean honest on.1) (asks.answered honest));
    left = λ honest t l. elim (asks.survives.crash honest l.db l.may) [
      | inl may ↦ left_before t l.db may l.is
      | inr none ↦ absurd none
    ];
    cause = cause_at_most old.failures new.failures result cause;
  }
    where
      stays : StaysOpen after
      stays = stays_open before after keeper.stays asks.only

      still : (clean : clean_in g new) → IsStill before after
      still clean = asks.only.still clean.disk (open_of after stays clean)

  -- a stop leaves what it left before
  pub asked_whole : {T : Type 0} (told : Trees → T → Type 0) (read : Result T ReadFault)
      → Asks told before after read → IsCommitWhole g old new (λ _. ⊥)
  asked_whole told read asks = record { left = asks.survives.crash }

  module _ {A : Type 0} (Become : List ℕ → Trees → Trees → Type 0) (text : List ℕ)
      (made : Result A ReadFault) (r : Result A StoreFault) (e : IsHanded made r)
      (standing : CommitsStanding (Become text) before after made) where
    commits : CommitsWhole (Become text) before after r
    commits = handed_on (Become text) before after made r e standing.commits

    -- a call that writes
    pub keeps : (Written : Tables → Type 0) → HasCause old.failures new.failures r
        → ((db : Trees) → Become text (trees_in g old) db
        → Written (tables_of (names_in old) (tables_content db)))
        → Keeps (as_seen g old) (as_seen g new) Written r
    keeps Written cause to = record {
      err = λ clean. same_tables g old new Become text keeper r commits shelf clean
          (open_of after (stays_in g old new Become text keeper r commits) clean);
      cleanness = was_clean_before g old new Become text keeper r commits;
      honesty = λ honest. omega (arith, standing.survives.clean, honest);
      stands = λ honest. on_ok_as _ (clean_in g new) r (λ on. is_clean honest on.1)
          (commits.done honest);
      left = λ honest t l. elim (standing.survives.crash honest l.db l.may) [
        | inl may ↦ inl (left_before t l.db may l.is)
        | inr it ↦ inr (subst Written (sym (named_before t l.db l.is)) (to l.db it.1))
      ];
      cause = cause_at_most old.failures new.failures r cause;
    }

    -- a keeper is one still
    pub standing_keeper : (t : ℕ) → text ≡ old.text
        → ((db : Trees) → IsHeld old.text old.shelf old.last (trees_in g old)
        → Become old.text (trees_in g old) db → IsHeld old.text old.shelf t db)
        → OnOk made (new.last ≡ t) → OnErr made (new.last ≡ old.last)
        → new.text ≡ old.text → new.connection.in_transaction ≡ false
        → new.failures ≤ max_failures → IsKeeper g new
    standing_keeper t of_text again moment last same plain bounded =
        committed_keeper g old new Become text keeper t r commits standing.survives.crash of_text
        again (ok_handed (new.last ≡ t) made r e moment)
        (err_handed (new.last ≡ old.last) made r e last) shelf same plain bounded

    -- a stop leaves what it left before, or all that is written
    -- rule: stop-commit
    pub standing_whole : text ≡ old.text → IsCommitWhole g old new
        (Become old.text (trees_in g old))
    standing_whole of_text =
        whole g old new Become text keeper standing.survives.crash of_text
