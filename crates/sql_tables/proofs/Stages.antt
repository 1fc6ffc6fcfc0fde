-- What each text that makes a table or an index leaves of the stages, and several in turn.
use Rattle.std.proofs.Common.{◌≡◌, ◌≤◌, ℕ, zero, suc, List, [], ◌∷◌, ◌++◌, Ok, Err, Result}
use Rattle.std.proofs.Common.{drop, take}
use Rattle.std.proofs.Common.{OnOk, IsTrue, refl, sym, ap, subst, ◌∙◌, arith}
use Rattle.std.specs.List.{AllByRecursion}
use Rattle.sqlite_trees.specs.Tree.{Trees}
use Rattle.sqlite_trees.proofs.ListLemmas.{all-append}
use Rattle.sqlite_schema.specs.declared.schema.Table.{Table}
use Rattle.sqlite_catalog.specs.Change.{created, next_tree, KeepsRows}
use Rattle.sqlite_catalog.specs.Listing.{IsSound}
use Rattle.sqlite.specs.declared.error.Error.{Error}
use Rattle.sqlite.specs.State.{State, ExecutesInside}
use Rattle.sqlite.specs.Steps.{IsEmpty}
use Rattle.sqlite.proofs.StateLemmas.{survives_then}
use Rattle.sql_tables.specs.Keyed.{IsStored}
use Rattle.sql_tables.specs.Schema.{Piece, ATable, AnIndex, our_schema, latest, pieces_to}
use Rattle.sql_tables.specs.Schema.{tables_of}
use Rattle.sql_tables.specs.Statements.{Attempts}
use Rattle.sql_tables.specs.Stages.{AreEmpty, HasStage, IsBlank, Adds, BuildsAll}
use Rattle.sql_tables.specs.Stages.{tables_between}
use Rattle.sql_tables.specs.Texts.{stage, buckets_live_text, counters_cycle_text}
use Rattle.sql_tables.specs.Texts.{sessions_state_text}
use Rattle.sql_tables.proofs.Creates.{IsText, makes}
use Rattle.sql_tables.proofs.Indexed.{Indexes, makes_cycle, makes_live, makes_state}
use Rattle.sql_tables.proofs.Keeps.{done_as}

-- ---- one text

adds_table : (k : ℕ) (t : Table) (text : List ℕ) → IsText (stage k) (record t { tree = 0 }) text
    → created (stage k) (record t { tree = 0 }) ≡ stage (suc k)
    → next_tree (stage k) ≡ t.tree → tables_between k (suc k) ≡ t ∷ []
    → (old new : State) (r : Result ℕ Error) → (IsTrue old.is_open → old.now.schema ≡ stage k)
    → OnOk r (ExecutesInside 0 text [] old new r) → OnOk r (Adds k (suc k) old new)
adds_table k t text is next tree one old new (Err e) has x = tt
adds_table k t text is next tree one old new (Ok count) has x =
    let m = makes (stage k) (record t { tree = 0 }) text is old new count (has x.1.was_open) x.0 in
    record {
      schema = m.schema ∙ next;
      sound = subst (λ s. IsSound s new.now.trees) next m.sound;
      rows = m.others;
      empty = subst (λ ts. AreEmpty ts new.now.trees) (sym one)
          (ap new.now.trees (sym tree) ∙ m.empty, tt);
      shows = x.1;
    }

pub makes_stage : (k : ℕ) (t : Table) (text : List ℕ)
    → IsText (stage k) (record t { tree = 0 }) text → created (stage k) (record t { tree = 0 })
    ≡ stage (suc k) → next_tree (stage k) ≡ t.tree → tables_between k (suc k) ≡ t ∷ []
    → (old new : State) (r : Result ℕ Error) → HasStage k old
    → Attempts (λ old new. ExecutesInside 0 text [] old new r) old new r
    → Attempts (Adds k (suc k)) old new r
makes_stage k t text is next tree one old new r has = done_as _ (Adds k (suc k)) old new r
    (λ clean. adds_table k t text is next tree one old new r (has clean))

adds_index : (k : ℕ) (text : List ℕ) → tables_between k (suc k) ≡ []
    → ((old new : State) (count : ℕ) → old.now.schema ≡ stage k
    → ExecutesInside 0 text [] old new (Ok count)
    → Indexes (stage k) (stage (suc k)) old.now.trees new.now)
    → (old new : State) (r : Result ℕ Error) → (IsTrue old.is_open → old.now.schema ≡ stage k)
    → OnOk r (ExecutesInside 0 text [] old new r) → OnOk r (Adds k (suc k) old new)
adds_index k text none indexes old new (Err e) has x = tt
adds_index k text none indexes old new (Ok count) has x =
    let m = indexes old new count (has x.1.was_open) x in
    record {
      schema = m.schema;
      sound = m.sound;
      rows = m.rows;
      empty = subst (λ ts. AreEmpty ts new.now.trees) (sym none) tt;
      shows = x.1;
    }

pub makes_first : (old new : State) (r : Result ℕ Error) → HasStage 10 old
    → Attempts (λ old new. ExecutesInside 0 sessions_state_text [] old new r) old new r
    → Attempts (Adds 10 11) old new r
makes_first old new r has = done_as _ (Adds 10 11) old new r (λ clean.
    adds_index 10 sessions_state_text refl (λ a b n is x. makes_state a b n is x.0) old new r
    (has clean))

pub makes_second : (old new : State) (r : Result ℕ Error) → HasStage 11 old
    → Attempts (λ old new. ExecutesInside 0 counters_cycle_text [] old new r) old new r
    → Attempts (Adds 11 12) old new r
makes_second old new r has = done_as _ (Adds 11 12) old new r (λ clean.
    adds_index 11 counters_cycle_text refl (λ a b n is x. makes_cycle a b n is x.0) old new r
    (has clean))

pub makes_third : (old new : State) (r : Result ℕ Error) → HasStage 14 old
    → Attempts (λ old new. ExecutesInside 0 buckets_live_text [] old new r) old new r
    → Attempts (Adds 14 15) old new r
makes_third old new r has = done_as _ (Adds 14 15) old new r (λ clean.
    adds_index 14 buckets_live_text refl (λ a b n is x. makes_live a b n is x.0) old new r
    (has clean))

-- ---- several texts in turn

keeps_first : (xs ys : List Table) (a b : Trees) → KeepsRows (xs ++ ys) a b → KeepsRows xs a b
keeps_first [] ys a b h = tt
keeps_first (x ∷ xs) ys a b h = (h.0, keeps_first xs ys a b h.1)

keeps_last : (xs ys : List Table) (a b : Trees) → KeepsRows (xs ++ ys) a b → KeepsRows ys a b
keeps_last [] ys a b h = h
keeps_last (x ∷ xs) ys a b h = keeps_last xs ys a b h.1

keeps_then : (xs : List Table) (a b c : Trees) → KeepsRows xs a b → KeepsRows xs b c →
    KeepsRows xs a c
keeps_then [] a b c one two = tt
keeps_then (x ∷ xs) a b c one two = (two.0 ∙ one.0, keeps_then xs a b c one.1 two.1)

still_empty : (ts : List Table) (old new : Trees) → KeepsRows ts old new → AreEmpty ts old →
    AreEmpty ts new
still_empty [] old new kept h = tt
still_empty (t ∷ ts) old new kept h = (kept.0 ∙ h.0, still_empty ts old new kept.1 h.1)

adds_on : (k l m : ℕ) → (stage l).tables ≡ (stage k).tables ++ tables_between k l
    → tables_between k m ≡ tables_between k l ++ tables_between l m
    → (a b c : State) → Adds k l a b → Adds l m b c → Adds k m a c
adds_on k l m first all a b c one two =
    let kept = subst (λ ts. KeepsRows ts b.now.trees c.now.trees) first two.rows in
    record {
      schema = two.schema;
      sound = two.sound;
      rows = keeps_then (stage k).tables a.now.trees b.now.trees c.now.trees one.rows
          (keeps_first (stage k).tables (tables_between k l) b.now.trees c.now.trees kept);
      empty = subst (λ ts. AreEmpty ts c.now.trees) (sym all)
          (all-append (λ (t : Table). c.now.trees t.tree ≡ []) (tables_between k l)
          (tables_between l m)
          (still_empty (tables_between k l) b.now.trees c.now.trees
          (keeps_last (stage k).tables (tables_between k l) b.now.trees c.now.trees kept) one.empty)
          two.empty);
      shows = record {
        was_open = one.shows.was_open;
        is_open = two.shows.is_open;
        now_is = refl;
        committed_is = two.shows.committed_is ∙ one.shows.committed_is;
        mode = two.shows.mode;
      };
    }

-- ---- places among the pieces

tables_of-append : (xs ys : List Piece) → tables_of (xs ++ ys) ≡ tables_of xs ++ tables_of ys
tables_of-append [] ys = refl
tables_of-append (ATable t ∷ xs) ys = ap (λ ts. t ∷ ts) (tables_of-append xs ys)
tables_of-append (AnIndex i ∷ xs) ys = tables_of-append xs ys

split_at : (l m : ℕ) (xs : List Piece) → l ≤ m → take m xs ≡ take l xs ++ drop l (take m xs)
split_at zero m xs le = refl
split_at (suc l) zero xs le = absurd (omega (arith, le))
split_at (suc l) (suc m) [] le = refl
split_at (suc l) (suc m) (x ∷ xs) le =
    ap (λ ys. x ∷ ys) (split_at l m xs (omega (arith, le)))

split_between : (k l m : ℕ) (xs : List Piece) → k ≤ l → l ≤ m →
    drop k (take m xs) ≡ drop k (take l xs) ++ drop l (take m xs)
split_between zero l m xs low high = split_at l m xs high
split_between (suc k) zero m xs low high = absurd (omega (arith, low))
split_between (suc k) (suc l) zero xs low high = absurd (omega (arith, high))
split_between (suc k) (suc l) (suc m) [] low high = refl
split_between (suc k) (suc l) (suc m) (x ∷ xs) low high =
    split_between k l m xs (omega (arith, low)) (omega (arith, high))

pub tables_to : (k l : ℕ) → k ≤ l → (stage l).tables ≡ (stage k).tables ++ tables_between k l
tables_to k l low = ap tables_of (split_at k l (pieces_to latest) low)
    ∙ tables_of-append (take k (pieces_to latest)) (drop k (take l (pieces_to latest)))

tables_on : (k l m : ℕ) → k ≤ l → l ≤ m →
    tables_between k m ≡ tables_between k l ++ tables_between l m
tables_on k l m low high = ap tables_of (split_between k l m (pieces_to latest) low high)
    ∙ tables_of-append (drop k (take l (pieces_to latest))) (drop l (take m (pieces_to latest)))

-- the pieces from one place up to another, and the next
pub adds_then : (k l m : ℕ) → k ≤ l → l ≤ m → (a b c : State) (u v : ℕ)
    → Attempts {A = ℕ} {E = Error} (Adds k l) a b (Ok u)
    → Attempts {A = ℕ} {E = Error} (Adds l m) b c (Ok v)
    → Attempts {A = ℕ} {E = Error} (Adds k m) a c (Ok u)
adds_then k l m low high a b c u v one two = record {
  done = λ clean. adds_on k l m (tables_to k l low) (tables_on k l m low high) a b c
      (one.done (omega (arith, two.survives.clean, clean))) (two.done clean);
  kept = λ clean. tt;
  survives = survives_then a b c (λ _. ⊥) (λ _. ⊥) (λ _. ⊥) (λ clean db no. no)
      (λ clean db no. no) one.survives two.survives;
}

-- whatever it answers
pub answered : {A B : Type 0} (k l : ℕ) (a b : State) (u : A) (v : B)
    → Attempts {A = A} {E = Error} (Adds k l) a b (Ok u)
    → Attempts {A = B} {E = Error} (Adds k l) a b (Ok v)
answered k l a b u v all = record {
  done = λ clean. all.done clean;
  kept = λ clean. tt;
  survives = all.survives;
}

-- ---- all of them

pub none_stored : (ts : List Table) (trees : Trees) → AreEmpty ts trees → AllByRecursion
    (λ (t : Table). IsStored (trees t.tree)) ts
none_stored [] trees h = tt
none_stored (t ∷ ts) trees h = (subst IsStored (sym h.0) (tt, tt), none_stored ts trees h.1)

adds_all : (old new : State) → Adds 0 17 old new → BuildsAll old new
adds_all old new all = record {
  book = record {
    schema = all.schema;
    stored = none_stored our_schema.tables new.now.trees all.empty;
  };
  lists = all.sound.lists;
  empty = all.empty;
  shows = all.shows;
}

pub builds_all : {A E : Type 0} (old new : State) (r : Result A E) → Attempts (Adds 0 17) old new r
    → Attempts BuildsAll old new r
builds_all old new r = done_as _ BuildsAll old new r (λ clean. go r)
  where
    go : {A E : Type 0} (r : Result A E) → OnOk r (Adds 0 17 old new) → OnOk r (BuildsAll old new)
    go (Ok x) all = adds_all old new all
    go (Err e) all = tt

pub blank_from : (s : State) → IsEmpty s → IsBlank s
blank_from s h = record { none = h.2; settled = h.0.clean }
