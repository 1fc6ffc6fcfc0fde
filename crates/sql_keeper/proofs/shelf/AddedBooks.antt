-- A book that is added to two shelves and to the tables, or to none of them.
use Rattle.std.proofs.Common.{◌≡◌, ◌≤◌, ◌<◌, ◌+◌, ◌∙◌, ℕ, suc, List, [], ◌∷◌, Option, Some, None}
use Rattle.std.proofs.Common.{refl, sym, ap, subst, arith, length, length-append, IsTrue, false}
use Rattle.std.proofs.Common.{◌⊎◌, inl, inr}
use Rattle.std.specs.Prelude.{Result, Ok, Err, IfErr, IfSome, OnErr, OnOk}
use Rattle.sqlite_trees.specs.Tree.{Trees}
use Rattle.sqlite_trees.specs.declared.store.Store.{Ghosts}
use Rattle.sqlite.specs.Held.{state}
use Rattle.sqlite.specs.State.{State, HasCleanDisk, Survives}
use Rattle.sqlite.proofs.StateLemmas.{survives_weaker}
use Rattle.units.specs.Words.{no_end}
use Rattle.tariffs.specs.Books.{Book}
use Rattle.shelves.specs.Shelves.{IsShelf, Shelf, count, with_book}
use Rattle.shelves.specs.Succession.{shelf_fault}
use Rattle.shelves.specs.declared.fault.ShelfFault.{ShelfFault}
use Rattle.shelves.specs.declared.fault.ShelfFault.TheVariants.{Memory}
use Rattle.keepers.specs.Faults.{HasCause, max_failures}
use Rattle.keepers.specs.declared.fault.StoreFault.{StoreFault}
use Rattle.keepers.specs.declared.fault.StoreFault.TheVariants.{Memory as NoMemory}
use Rattle.keepers.specs.declared.fault.StoreFault.TheVariants.{Store as Failed}
use Rattle.sql_tables.specs.Statements.{OnlyReads}
use Rattle.sql_keeper.specs.AddsBook.{AddsBook, AddsToAll, BecomesDated, IsAddedBehind}
use Rattle.sql_keeper.specs.AddsBook.{IsBehind, IsBehindOwn, IsNotAdded, IsOnBoth, of_store}
use Rattle.sql_keeper.specs.AddsBook.{AreTakenBack, LeavesDated, add_told, last_at, was_added}
use Rattle.sql_keeper.specs.Asks.{IsHanded}
use Rattle.sql_keeper.specs.Books.{IsBookOf}
use Rattle.sql_keeper.specs.Commits.{CommitsWhole}
use Rattle.sql_keeper.specs.Inside.{IsClean, IsKeeper, KeeperState, failed_in}
use Rattle.sql_keeper.specs.Left.{IsHeld, IsLeftRuled}
use Rattle.sql_keeper.specs.Stops.{trees_in}
use Rattle.sql_keeper.proofs.openings.Held.{held_dated}
use Rattle.sql_keeper.proofs.reads.Asked.{cause_at_most, held_as, open_of}
use Rattle.sql_keeper.proofs.commits.Committed.{becomes_keeper, same_tables, stays_in, was_clean}
use Rattle.sql_keeper.proofs.commits.Whole.{commits_after, handed_on, leaves_after, refused}

-- ---- one shelf

-- rule: book-added
pub behind : {A E : Type 0} (from : ℕ) (b : Book) (last : ℕ) (old new : Shelf) (r : Result A E)
    → OnOk r (new ≡ with_book old from b) → OnOk r (shelf_fault old from b last ≡ None)
    → IsShelf new → OnOk r (IsBehind from b last old new)
behind from b last old new (Ok x) more free is = record { free = free; shelf = more; is = is }
behind from b last old new (Err e) more free is = tt

-- rule: book-added
pub fault_told : {A : Type 0} (o : Option ShelfFault) (r : Result A ShelfFault)
    → IfSome o (λ e. r ≡ Err e) → (o ≡ None → OnErr r (r ≡ Err Memory))
    → IfErr r (λ f. ¬ (f ≡ Memory) → o ≡ Some f)
fault_told o (Ok x) told memory = tt
fault_told None (Err f) told memory = λ other.
    absurd (other (let is = memory refl in let same : f ≡ Memory = cc in same))
fault_told (Some e) (Err f) told memory = λ other. let same : f ≡ e = cc told in ap Some (sym same)

one_more : (s after : Shelf) (from : ℕ) (b : Book) → after ≡ with_book s from b →
    count after ≡ suc (count s)
one_more s after from b is =
    let long : length after.later ≡ length s.later + 1 =
    ap (λ (x : Shelf). length x.later) is
    ∙ length-append s.later (record { from = from; book = b } ∷ []) in
    omega (arith, long)

-- ---- both shelves and the tables

module _ (from : ℕ) (text : List ℕ) (b : Book) (old mid : State) (before own : Shelf)
    (only : OnlyReads old mid) (stops : Survives old mid (λ _. ⊥)) where
  reads_stop : Survives old mid (λ _. old.is_open ≡ false)
  reads_stop = survives_weaker old mid (λ _. ⊥) (λ _. old.is_open ≡ false)
      (λ clean db no. absurd no) stops

  -- nothing more is left
  leaves_none : LeavesDated from text b before own old mid
  leaves_none clean db may = elim (stops.crash clean db may) [
    | inl was ↦ inl was
    | inr none ↦ absurd none
  ]

  -- nothing was done
  pub none_added : {A E : Type 0} (after own' : Shelf) (e : E) → after ≡ before → own' ≡ own
      → AddsToAll {A = A} from text b old mid before after own own' (Err e)
  none_added after own' e shelf own_is = record {
    commits = refused (BecomesDated (suc (count before)) from text) old mid NoMemory only
        reads_stop;
    leaves = leaves_none;
    free = λ clean. tt;
    both = tt;
    kept = (shelf, own_is);
    told = λ clean. tt;
  }

  -- the shelf refused the book
  pub refused_by : {A E : Type 0} (after own' : Shelf) (f : ShelfFault) (last : ℕ)
      → (after ≡ before) × (own' ≡ own)
      → (¬ (f ≡ Memory) → shelf_fault before from b last ≡ Some f)
      → (HasCleanDisk mid → last ≡ last_at old)
      → AddsToAll {A = A} {E = E} from text b old mid before after own own' (Ok (Err f))
  refused_by after own' f last kept told is = record {
    commits = refused (BecomesDated (suc (count before)) from text) old mid NoMemory only
        reads_stop;
    leaves = leaves_none;
    free = λ clean. tt;
    both = tt;
    kept = kept;
    told = λ clean other. ap (λ t. shelf_fault before from b t) (sym (is clean)) ∙ told other;
  }

  module _ (new : State) (on : HasCleanDisk mid → IsTrue mid.is_open) (last : ℕ)
      (is : HasCleanDisk mid → last ≡ last_at old) (after own' : Shelf)
      (free : shelf_fault before from b last ≡ None)
      (both : IsOnBoth from b before after own own') where
    committed_all : {A E : Type 0} (r : Result A E)
        → CommitsWhole (BecomesDated (count after) from text) mid new r
        → CommitsWhole (BecomesDated (suc (count before)) from text) old new r
    committed_all r commits =
        subst (λ n. CommitsWhole (BecomesDated n from text) old new r)
        (one_more before after from b both.shelf)
        (commits_after (BecomesDated (count after) from text) old mid new only reads_stop on r
        commits)

    leaves_all : {A E : Type 0} (r : Result A E)
        → CommitsWhole (BecomesDated (count after) from text) mid new r
        → LeavesDated from text b before own old new
    leaves_all r commits clean db may =
        elim (leaves_after (BecomesDated (count after) from text) old mid new only stops on r
        commits clean db may) [
          | inl was ↦ inl was
          | inr it ↦ inr (record {
            was_open = it.0;
            becomes = subst (λ n. BecomesDated n from text old.now.trees db)
                (one_more before after from b both.shelf) it.1;
            behind = subst IsShelf both.own_is both.is;
            counts = both.counts;
            soon = both.soon;
          })
        ]

    -- the row was written
    pub all_added : {A E F : Type 0} (u : A) (after' own'' : Shelf) → after' ≡ after → own'' ≡ own'
        → CommitsWhole {A = A} {E = F} (BecomesDated (count after) from text) mid new (Ok u)
        → AddsToAll {A = A} {E = E} from text b old new before after' own own'' (Ok (Ok u))
    all_added u after' own'' shelf own_is commits =
        let whole = committed_all (Ok u) commits in
        record {
          commits = handed_on (BecomesDated (suc (count before)) from text) old new (Ok u) (Ok u)
              refl whole;
          leaves = leaves_all (Ok u) commits;
          free = λ clean.
              ap (λ t. shelf_fault before from b t)
              (sym (is (omega (arith, commits.survives.clean, clean)))) ∙ free;
          both = record {
            shelf = shelf ∙ both.shelf;
            own_is = own_is ∙ both.own_is;
            is = subst IsShelf (sym own_is) both.is;
            counts = both.counts;
            soon = both.soon;
          };
          kept = tt;
          told = λ clean. tt;
        }

    -- it wasn't
    pub none_written : {A E F : Type 0} (e : E) (f : F) (after' own'' : Shelf)
        → AreTakenBack after after' own' own''
        → CommitsWhole {A = A} {E = E} (BecomesDated (count after) from text) mid new (Err e)
        → AddsToAll {A = A} {E = F} from text b old new before after' own own'' (Err f)
    none_written e f after' own'' taken commits = record {
      commits = handed_on (BecomesDated (suc (count before)) from text) old new (Err e)
          (Err NoMemory) tt (committed_all (Err e) commits);
      leaves = leaves_all (Err e) commits;
      free = λ clean. tt;
      both = tt;
      kept = (taken.shelf before from b both.shelf, taken.own_is own from b both.own_is);
      told = λ clean. tt;
    }

-- ---- the keeper

same_added : {A E F : Type 0} (from : ℕ) (text : List ℕ) (b : Book) (old new : State)
    (before after own own' : Shelf) (q : Result A ShelfFault)
    → AddsToAll {A = A} {E = E} from text b old new before after own own' (Ok q)
    → AddsToAll {A = A} {E = F} from text b old new before after own own' (Ok q)
same_added from text b old new before after own own' (Ok x) a = record {
  commits = a.commits;
  leaves = a.leaves;
  free = a.free;
  both = a.both;
  kept = a.kept;
  told = a.told;
}
same_added from text b old new before after own own' (Err f) a = record {
  commits = a.commits;
  leaves = a.leaves;
  free = a.free;
  both = a.both;
  kept = a.kept;
  told = a.told;
}

handed_all : {A E : Type 0} (from : ℕ) (text : List ℕ) (b : Book) (old new : State)
    (before after own own' : Shelf) (added : Result (Result A ShelfFault) E)
    (r : Result (Result A ShelfFault) StoreFault) → IsHanded added r
    → AddsToAll from text b old new before after own own' added
    → AddsToAll from text b old new before after own own' r
handed_all {A} {E} from text b old new before after own own' (Ok p) (Ok q) h a =
    same_added from text b old new before after own own' q
    (subst (λ z. AddsToAll {A = A} {E = E} from text b old new before after own own' (Ok z))
    (sym h) a)
handed_all {A} {E} from text b old new before after own own' (Ok p) (Err e) h a = absurd h
handed_all {A} {E} from text b old new before after own own' (Err e) (Ok q) h a = absurd h
handed_all {A} {E} from text b old new before after own own' (Err e) (Err f) h a = record {
  commits = a.commits;
  leaves = a.leaves;
  free = a.free;
  both = a.both;
  kept = a.kept;
  told = a.told;
}

module _ {S : Type 0} (g : Ghosts S) (old new : KeeperState S) (text : List ℕ) (from : ℕ)
    (b : Book) (read : IsBookOf text b) (before after own own' : Shelf)
    (owned : old.shelf ≡ own) (later : new.shelf ≡ own') (keeper : IsKeeper g old) where
  abbrev Adds : {A : Type 0} → Result (Result A ShelfFault) StoreFault → Type 0
  Adds r = AddsToAll from text b (state g old.connection) (state g new.connection) before after own
      own' r

  abbrev Become : List ℕ → Trees → Trees → Type 0
  Become t = BecomesDated (suc (count before)) from text

  same_shelf : own' ≡ own → new.shelf ≡ old.shelf
  same_shelf is = later ∙ is ∙ sym owned

  more_shelf : own' ≡ with_book own from b → new.shelf ≡ with_book old.shelf from b
  more_shelf is = later ∙ is ∙ ap (λ s. with_book s from b) (sym owned)

  done_told : {A : Type 0} (r : Result (Result A ShelfFault) StoreFault) → Adds r
      → HasCleanDisk (state g new.connection)
      → OnOk (add_told r) (IsAddedBehind text from before after (trees_in g old) (trees_in g new))
  done_told (Ok (Ok x)) a clean = record {
    added = record { book = b; read = read; free = a.free clean; shelf = a.both.shelf };
    becomes = (a.commits.done clean).2;
  }
  done_told (Ok (Err f)) a clean = tt
  done_told (Err e) a clean = tt

  own_told : {A : Type 0} (r : Result (Result A ShelfFault) StoreFault) → Adds r
      → OnOk (add_told r) (IsBehindOwn text from before old.shelf new.shelf)
  own_told (Ok (Ok x)) a = record {
    counts = ap count owned ∙ a.both.counts;
    book = b;
    read = read;
    is = more_shelf a.both.own_is;
  }
  own_told (Ok (Err f)) a = tt
  own_told (Err e) a = tt

  kept_told : {A : Type 0} (r : Result (Result A ShelfFault) StoreFault) → Adds r
      → OnErr (add_told r) ((after ≡ before) × (new.shelf ≡ old.shelf))
  kept_told (Ok (Ok x)) a = tt
  kept_told (Ok (Err f)) a = (a.kept.0, same_shelf a.kept.1)
  kept_told (Err e) a = (a.kept.0, same_shelf a.kept.1)

  open_now : {A : Type 0} (r : Result (Result A ShelfFault) StoreFault) → Adds r
      → IsClean (state g new.connection) → IsTrue (state g new.connection).is_open
  open_now r a clean =
      open_of (state g new.connection)
      (stays_in g old new Become [] keeper (was_added r) a.commits) clean

  faults_told : {A : Type 0} (r : Result (Result A ShelfFault) StoreFault) → Adds r
      → IsClean (state g new.connection)
      → IfErr (add_told r) (IsNotAdded g text from before old new)
  faults_told (Ok (Ok x)) a clean = tt
  faults_told {A} (Ok (Err f)) a clean = record {
    told = (b, read, a.told clean.disk);
    tables = same_tables {A = A} g old new Become [] keeper (Err NoMemory) a.commits
        (same_shelf a.kept.1) clean (open_now (Ok (Err f)) a clean);
  }
  faults_told {A} (Err e) a clean = record {
    told = (b, read);
    tables = same_tables {A = A} g old new Become [] keeper (Err NoMemory) a.commits
        (same_shelf a.kept.1) clean (open_now (Err e) a clean);
  }

  -- a fault of the shelf is none of the store
  caused : {A : Type 0} (r : Result (Result A ShelfFault) StoreFault)
      → HasCause (failed_in old) (failed_in new) r
      → HasCause (failed_in old) (failed_in new) (of_store (add_told r))
  caused (Ok (Ok x)) cause = record { kept = cause.kept; cause = λ e. absurd (cc) }
  caused (Ok (Err f)) cause = record { kept = cause.kept; cause = λ e. absurd (cc) }
  caused (Err f) cause = record {
    kept = cause.kept;
    cause = λ e. cause.cause (let same : f ≡ Failed = cc e in ap Err same);
  }

  pub adds_book : {A E : Type 0} (added : Result (Result A ShelfFault) E)
      (r : Result (Result A ShelfFault) StoreFault) → IsHanded added r
      → AddsToAll from text b (state g old.connection) (state g new.connection) before after own
      own' added
      → HasCause old.failures new.failures r
      → AddsBook g text from old new before after (add_told r)
  adds_book {A} added r handed all cause =
      let a : Adds r = handed_all from text b (state g old.connection) (state g new.connection)
      before after own own' added r handed all in
      record {
        done = λ clean. done_told r a clean.disk;
        own = own_told r a;
        told = faults_told r a;
        kept = kept_told r a;
        cleanness = was_clean g old new Become [] keeper (was_added r) a.commits;
        cause = caused r (cause_at_most old.failures new.failures r cause);
        left = record {
          left = λ clean db may. elim (a.leaves clean db may) [
            | inl was ↦ inl was
            | inr it ↦ inr (record {
              becomes = it.becomes;
              book = b;
              read = read;
              behind = subst IsShelf (ap (λ s. with_book s from b) (sym owned)) it.behind;
              counts = ap count owned ∙ it.counts;
              soon = it.soon;
            })
          ];
        };
      }

  -- the book that is added is found again behind those of the keeper's shelf
  held_more : from < no_end → IsShelf (with_book own from b)
      → count own ≡ count before → (db : Trees)
      → IsHeld old.text old.shelf old.last (trees_in g old)
      → Become [] (trees_in g old) db
      → IsHeld old.text (with_book old.shelf from b) old.last db
  held_more soon behind' counts db held become =
      held_dated old.text text from old.shelf old.last b (trees_in g old) db held read soon
      (subst IsShelf (ap (λ s. with_book s from b) (sym owned)) behind')
      (subst (λ n. BecomesDated n from text (trees_in g old) db)
      (ap suc (sym (ap count owned ∙ counts))) become)

  made_more : {A : Type 0} (q : Result A StoreFault)
      → OnOk q (IsOnBoth from b before after own own')
      → new.text ≡ old.text → new.last ≡ old.last
      → OnOk q (IsHeld old.text old.shelf old.last (trees_in g old)
      → Become [] (trees_in g old) (trees_in g new)
      → IsHeld new.text new.shelf new.last (trees_in g new))
  made_more (Ok x) both text' last = λ held become.
      held_as old.text new.text (with_book old.shelf from b) new.shelf old.last new.last
      (trees_in g new) (trees_in g new) text' (more_shelf both.own_is) last refl
      (held_more both.soon (subst IsShelf both.own_is both.is) both.counts (trees_in g new) held
      become)
  made_more (Err e) both text' last = tt

  kept_more : {A : Type 0} (q : Result A StoreFault) → new.last ≡ old.last
      → OnErr q ((after ≡ before) × (own' ≡ own))
      → OnErr q ((new.shelf ≡ old.shelf) × (new.last ≡ old.last))
  kept_more (Ok x) last kept = tt
  kept_more (Err e) last kept = (same_shelf kept.1, last)

  -- what a stop leaves is found again
  left_more : LeavesDated from text b before own (state g old.connection) (state g new.connection)
      → HasCleanDisk (state g old.connection) → HasCleanDisk (state g new.connection)
      → (db : Trees) → (state g new.connection).may_leave db
      → (state g old.connection).may_leave db ⊎ IsLeftRuled old.text db
  left_more leaves was clean db may = elim (leaves clean db may) [
    | inl before' ↦ inl before'
    | inr it ↦ inr (held_more it.soon it.behind it.counts db (keeper.held was it.was_open)
        it.becomes).left
  ]

  pub added_keeper : {A E : Type 0} (added : Result (Result A ShelfFault) E)
      → AddsToAll from text b (state g old.connection) (state g new.connection) before after own
      own' added
      → new.text ≡ old.text → new.last ≡ old.last
      → new.connection.in_transaction ≡ false → new.failures ≤ max_failures → IsKeeper g new
  added_keeper added all text' last plain bounded =
      becomes_keeper g old new Become [] keeper (was_added added) all.commits
      (λ was clean. left_more all.leaves was clean)
      (made_more (was_added added) all.both text' last)
      (kept_more (was_added added) last all.kept) text' plain bounded
