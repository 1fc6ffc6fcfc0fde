-- The accounts of a sweep, read, brought to a moment and written one after another, and what is
-- written of them.
use Rattle.std.proofs.Common.{◌≡◌, ◌≤◌, ◌∙◌, ap, refl, sym, subst, ℕ, List, [], ◌∷◌}
use Rattle.std.proofs.Common.{◌++◌, map, cond, Option, Some, None, Result, Ok}
use Rattle.std.proofs.Common.{Err, IfOk, IsTrue, OnOk, arith, Bool, true, false, true≢false}
use Rattle.std.specs.List.{list_all}
use Rattle.std.specs.Result.{IsErr}
use Rattle.std.proofs.lemmas.Bool.{and_from, and_parts}
use Rattle.sqlite_trees.specs.Tree.{Trees}
use Rattle.sqlite.specs.State.{State, HasCleanDisk, Shows, Survives}
use Rattle.sqlite.proofs.StateLemmas.{survives_then, survives_weaker}
use Rattle.identifiers.specs.Texts.{same_name}
use Rattle.shelves.specs.Shelves.{Shelf, IsShelf}
use Rattle.reserving.specs.Stored.{StoredRows}
use Rattle.ledger.specs.Lists.{EachIn}
use Rattle.reserving.specs.Rows.{AreApart}
use Rattle.ledger.proofs.Holds.{same_itself as name_itself}
use Rattle.reserving.proofs.LeftTests.{each_append}
use Rattle.keepers.specs.Change.{IsSwept}
use Rattle.sql_tables.specs.Statements.{Attempts, HasTables, HasRules, IsTabled, IsInside}
use Rattle.sql_rows.specs.Content.{TablesContent, TableRows, tables_content, rows_in, with_meta}
use Rattle.sql_rows.specs.Each.{with_each}
use Rattle.sql_rows.specs.Lists.{AreAccounts}
use Rattle.sql_rows.specs.Makes.{Makes, Turns}
use Rattle.sql_rows.proofs.queries.Within.{HaveWithin}
use Rattle.sql_rules.specs.Columns.{is_moment}
use Rattle.sql_rules.specs.Ruled.{IsInRulesBy}
use Rattle.sql_keeper.specs.RuledRows.{is_ruled_sweep, is_ruled_swept}
use Rattle.sql_keeper.proofs.rules.RuledRows.{sweep_ruled}
use Rattle.sql_keeper.specs.Commits.{CommitsWhole}
use Rattle.sql_keeper.specs.Content.{last_in, tables_of, Names}
use Rattle.sql_keeper.specs.Seen.{IsUpTo}
use Rattle.sql_keeper.specs.LiveRows.{IsLiveUncounted}
use Rattle.sql_keeper.specs.Sweeps.{AreSweptRows, IsSweptOf, IsSweptAs, IsSweptFrom, AreSweptOf}
use Rattle.sql_keeper.specs.Sweeps.{AreAllSwept, BecomesSwept, CommitsSweep, MakesSweep}
use Rattle.sql_keeper.specs.Sweeps.{SweepsAccounts, SweepsEach, SweepsOne, TransactsSweep, with_sweep}
use Rattle.sql_keeper.specs.Sweeps.{with_swept}
use Rattle.sql_keeper.specs.Writes.{meta_at}
use Rattle.sql_keeper.specs.declared.swept_rows.SweptAccount.{SweptAccount}
use Rattle.sql_keeper.specs.Tidy.{IsTidy}
use Rattle.sql_keeper.proofs.puts.Overlays.{name_from, not_both}
use Rattle.sql_keeper.proofs.puts.Puts.{made_since, made_then}
use Rattle.sql_keeper.proofs.sweeps.Swept.{MayBePut, apart_of, may, may_each, row_after, rows_after}
use Rattle.sql_keeper.proofs.sweeps.Swept.{sweeps_read, swept_at, swept_books, swept_meta}
use Rattle.sql_keeper.proofs.rules.OwnBooks.{AreAllOfBooks, books_sweep}
use Rattle.sql_keeper.proofs.rules.Tidy.{AreAllBeside}
use Rattle.sql_keeper.proofs.rules.TidySweeps.{beside_sweep, tidy_sweep}

-- ---- one account

pub swept_made : {E : Type 0} (names : Names) (shelf : Shelf) (t : ℕ)
    (c : TablesContent) (a : List ℕ) (o : Option StoredRows) (r : Result SweptAccount E)
    → IfOk r (IsSweptFrom names shelf t a o)
    → IsLiveUncounted names (c.rows a) o → IfOk r (IsSweptAs names shelf t c a)
swept_made names shelf t c a None (Ok x) made live = absurd made
swept_made names shelf t c a (Some w) (Ok x) made live = record {
  number_is = made.number_is;
  swept = subst (λ n. AreSweptRows names shelf t (c.rows n) x.rows) (sym made.number_is) (record {
    before = w;
    live = λ s u. (live s u).0;
    kept = made.kept;
    is = made.is;
  });
}
swept_made names shelf t c a o (Err e) made live = tt

-- ---- one after another

numbers_more : (xs : List SweptAccount) (x : SweptAccount)
    → map (λ (y : SweptAccount). y.number) (xs ++ x ∷ [])
    ≡ map (λ (y : SweptAccount). y.number) xs ++ x.number ∷ []
numbers_more [] x = refl
numbers_more (y ∷ ys) x = ap (λ l. y.number ∷ l) (numbers_more ys x)

module _ (names : Names) (shelf : Shelf) (t : ℕ) where
  pub more_swept : (c : TablesContent) (numbers : List (List ℕ)) (a : List ℕ)
      (xs : List SweptAccount)
      (x : SweptAccount)
      → AreSweptOf names shelf t c numbers xs → IsSweptAs names shelf t c a x
      → AreSweptOf names shelf t c (numbers ++ a ∷ []) (xs ++ x ∷ [])
  more_swept c numbers a xs x h one = record {
    numbers_are = numbers_more xs x ∙ (λ i. h.numbers_are i ++ one.number_is i ∷ []);
    each = each_append (IsSweptOf names shelf t c) xs (x ∷ []) h.each (one.swept, tt);
  }

-- ---- an account, within a transaction

-- what is read of it and put
-- rule: database-sweep
pub one_swept : {B C E F : Type 0} (names : Names) (shelf : Shelf) (t : ℕ) (a : List ℕ)
    (old mid new : State) (o : Option StoredRows) (x : SweptAccount) (u : B) (v : C)
    → HaveWithin old mid
    → (HasCleanDisk mid → IsLiveUncounted names (rows_in old.now.trees a) o)
    → IsSweptFrom names shelf t a o x → IsTrue (is_ruled_swept names t x)
    → Attempts {A = B} {E = F} (Makes (with_swept names x)) mid new (Ok u)
    → Attempts {A = C} {E = E} (SweepsOne names shelf t a) old new (Ok v)
one_swept {B} {C} {E} names shelf t a old mid new o x u v have live made ruled put = record {
  done = λ clean.
      let before : HasCleanDisk mid = omega (arith, put.survives.clean, clean) in
      record {
        account = x;
        swept = swept_made {E = E} names shelf t (tables_content old.now.trees) a o (Ok x) made
            (live before);
        ruled = ruled;
        makes = made_since (with_swept names x) old mid new (have.same before) (put.done clean);
      };
  kept = λ clean. tt;
  survives = survives_then old mid new (λ _. ⊥) (λ _. ⊥) (λ _. ⊥) (λ clean db no. no)
      (λ clean db no. no) have.survives put.survives;
}

-- ---- one account after another

each_last : {A : Type 0} (P : A → Type 0) (xs : List A) (a : A) → EachIn P (xs ++ a ∷ []) → P a
each_last P [] a h = h.0
each_last P (x ∷ xs) a h = each_last P xs a h.1

each_first : {A : Type 0} (P : A → Type 0) (xs ys : List A) → EachIn P (xs ++ ys) → EachIn P xs
each_first P [] ys h = tt
each_first P (x ∷ xs) ys h = (h.0, each_first P xs ys h.1)

apart_first : {A : Type 0} (same : A → A → Bool) (xs ys : List A) → AreApart same (xs ++ ys) →
    AreApart same xs
apart_first same [] ys h = tt
apart_first same (x ∷ xs) ys h =
    (each_first (λ y. same x y ≡ false) xs ys h.0, apart_first same xs ys h.1)

pub other_way : (a b : List ℕ) → same_name a b ≡ false → same_name b a ≡ false
other_way a b e = at (same_name b a) refl
  where
    at : (t : Bool) → same_name b a ≡ t → same_name b a ≡ false
    at true k = not_both (sym (name_itself a)
        ∙ ap (same_name a) (sym (name_from b a k)) ∙ e)
    at false k = k

-- an account whose number is none of theirs isn't among them
not_among : (a : List ℕ) (xs : List SweptAccount)
    → AreApart (λ x y. same_name y x) (map (λ (x : SweptAccount). x.number) xs ++ a ∷ [])
    → swept_at a xs ≡ None
not_among a [] h = refl
not_among a (x ∷ xs) h =
    ap (λ b. cond b (Some x) (swept_at a xs)) (other_way a x.number (each_last
    (λ y. same_name y x.number ≡ false) (map (λ (y : SweptAccount). y.number) xs) a h.0))
    ∙ not_among a xs h.1

all_ruled : (f : SweptAccount → Bool) (xs : List SweptAccount) (x : SweptAccount)
    → list_all f xs ≡ true → f x ≡ true → list_all f (xs ++ x ∷ []) ≡ true
all_ruled f [] x all one = and_from (f x) true one refl
all_ruled f (y ∷ ys) x all one =
    let parts = and_parts (f y) (list_all f ys) all in
    and_from (f y) (list_all f (ys ++ x ∷ [])) parts.0 (all_ruled f ys x parts.1 one)

each_more : {X : Type 0} (change : X → TablesContent → TablesContent) (xs : List X) (x : X)
    (c : TablesContent)
    → with_each change (xs ++ x ∷ []) c ≡ change x (with_each change xs c)
each_more change [] x c = refl
each_more change (y ∷ ys) x c = each_more change ys x (change y c)

module _ (names : Names) (text : List ℕ) (shelf : Shelf) (t : ℕ) where
  -- the accounts of these numbers, within a transaction
  pub record MakesSweepOf (numbers : List (List ℕ)) (old new : State) : Type 0 where
    pub turns : SweepsEach names text shelf t numbers old.now.trees new.now.trees
    pub book : IsTabled new
    pub shows : Shows old new new.now old.committed true

  -- the accounts so far
  pub record HasSweptEach (numbers : List (List ℕ)) (old now : State) : Type 0 where
    pub survives : Survives old now (λ _. ⊥)
    pub made : HasCleanDisk now → MakesSweepOf numbers old now
    pub rules : HasRules now

  -- none yet
  pub none_swept : {A E : Type 0} (u : A) (old now : State)
      → Attempts {A = A} {E = E} (Makes (with_meta (meta_at text t))) old now (Ok u)
      → HasRules now → HasSweptEach [] old now
  none_swept u old now put rules = record {
    survives = put.survives;
    made = λ clean.
        let m = put.done clean in
        record {
          turns = record {
            accounts = [];
            swept = λ apart. record { numbers_are = refl; each = tt };
            ruled = refl;
            turns = m.turns;
          };
          book = m.book;
          shows = m.shows;
        };
    rules = rules;
  }

  -- an account that is brought on after others was read as it was before them
  as_before : (numbers : List (List ℕ)) (a : List ℕ) (xs : List SweptAccount) (x : SweptAccount)
      (c d : TablesContent) → d ≡ with_sweep names text t xs c
      → AreApart (λ x y. same_name y x) (numbers ++ a ∷ []) → AreSweptOf names shelf t c numbers xs
      → IsSweptAs names shelf t d a x → IsSweptAs names shelf t c a x
  as_before numbers a xs x c d is apart swept one = record {
    number_is = one.number_is;
    swept = subst (λ (r : TableRows). AreSweptRows names shelf t r x.rows) rows one.swept;
  }
    where
      among : AreApart (λ x y. same_name y x)
          (map (λ (y : SweptAccount). y.number) xs ++ a ∷ [])
      among = subst (λ ns. AreApart (λ x y. same_name y x) (ns ++ a ∷ [])) (sym swept.numbers_are)
          apart

      at_a : d.rows a ≡ c.rows a
      at_a = ap (λ (e : TablesContent). e.rows a) is
          ∙ rows_after names a xs (with_meta (meta_at text t) c)
          (may_each names shelf t c xs swept.each)
          (apart_of xs (apart_first (λ x y. same_name y x) (map (λ (y : SweptAccount). y.number) xs)
          (a ∷ []) among))
          ∙ ap (λ o. row_after names o (c.rows a)) (not_among a xs among)

      rows : d.rows x.number ≡ c.rows x.number
      rows = ap d.rows one.number_is ∙ at_a ∙ ap c.rows (sym one.number_is)

  -- rule: database-sweep
  pub more_each : {A E : Type 0} (numbers : List (List ℕ)) (a : List ℕ) (u : A) (old mid new : State)
      → HasSweptEach numbers old mid
      → Attempts {A = A} {E = E} (SweepsOne names shelf t a) mid new (Ok u) → HasRules new
      → HasSweptEach (numbers ++ a ∷ []) old new
  more_each numbers a u old mid new h one rules = record {
    survives = survives_then old mid new (λ _. ⊥) (λ _. ⊥) (λ _. ⊥) (λ clean db no. no)
        (λ clean db no. no) h.survives one.survives;
    made = λ clean.
        let m = h.made (omega (arith, one.survives.clean, clean)) in
        let next = one.done clean in
        let xs = m.turns.accounts in
        let both = made_then (with_sweep names text t xs) (with_swept names next.account) old mid
        new (record { turns = m.turns.turns; book = m.book; shows = m.shows }) next.makes in
        record {
          turns = record {
            accounts = xs ++ next.account ∷ [];
            swept = λ apart.
                let before = m.turns.swept
                (apart_first (λ x y. same_name y x) numbers (a ∷ []) apart) in
                more_swept names shelf t (tables_content old.now.trees) numbers a xs next.account
                before
                (as_before numbers a xs next.account (tables_content old.now.trees)
                (tables_content mid.now.trees) m.turns.turns.content apart before next.swept);
            ruled = all_ruled (is_ruled_swept names t) xs next.account m.turns.ruled next.ruled;
            turns = record {
              content = both.turns.content ∙ sym (each_more (with_swept names) xs next.account
                  (with_meta (meta_at text t) (tables_content old.now.trees)));
              catalog = both.turns.catalog;
              stored = both.turns.stored;
              plain = both.turns.plain;
            };
          };
          book = both.book;
          shows = both.shows;
        };
    rules = rules;
  }

  -- an account that isn't found, or isn't brought on
  pub not_swept : {A B E F : Type 0} (does : State → State → Type 0) (numbers : List (List ℕ))
      (old mid new : State) (r : Result A E) (e : F) → IsErr r → HasSweptEach numbers old mid
      → Attempts {A = B} {E = F} does mid new (Err e)
      → Attempts {A = A} {E = E} (MakesSweep names text shelf t) old new r
  not_swept does numbers old mid new (Ok u) e failed h one = absurd (true≢false (sym failed))
  not_swept does numbers old mid new (Err f) e failed h one = record {
    done = λ clean. tt;
    kept = λ clean.
        let m = h.made (omega (arith, one.survives.clean, clean)) in
        let k = one.kept clean in
        record {
          was_open = λ on. m.shows.was_open;
          committed = λ on. k.committed on ∙ m.shows.committed_is;
        };
    survives = survives_then old mid new (λ _. ⊥) (λ _. ⊥) (λ _. ⊥) (λ clean db no. no)
        (λ clean db no. no) h.survives one.survives;
  }

  -- no more of them
  pub left_off : {A E : Type 0} (numbers : List (List ℕ)) (old now : State) (e : E)
      → HasSweptEach numbers old now
      → Attempts {A = A} {E = E} (MakesSweep names text shelf t) old now (Err e)
  left_off numbers old now e h = record {
    done = λ clean. tt;
    kept = λ clean.
        let m = h.made clean in
        record { was_open = λ on. m.shows.was_open; committed = λ on. m.shows.committed_is };
    survives = h.survives;
  }

  -- what stays of the connection
  pub book_swept : (numbers : List (List ℕ)) (old now : State) → HasSweptEach numbers old now →
      HasTables now
  book_swept numbers old now h clean on = (h.made clean).book

  pub inside_swept : (numbers : List (List ℕ)) (old now : State) → HasSweptEach numbers old now →
      IsInside now
  inside_swept numbers old now h clean on = (h.made clean).shows.mode

-- ---- what is written

become : (names : Names) (text : List ℕ) (shelf : Shelf) (t : ℕ) (xs : List SweptAccount)
    → IsShelf shelf → t ≤ 4_102_488_000 → (old new : Trees)
    → last_in (tables_content old).meta ≤ t → AreAllSwept names shelf t (tables_content old) xs → is_ruled_sweep names t xs ≡ true
    → Turns (with_sweep names text t xs) old new → BecomesSwept names text shelf t old new
become names text shelf t xs ranges last old new later all ruled turns =
    let kept : (tables_content new).meta ≡ Some (meta_at text t) =
    ap (λ (c : TablesContent). c.meta) turns.content
    ∙ swept_meta names text shelf t (tables_content old) xs ranges all in
    record {
      tables =
          subst (λ (c : TablesContent). IsSwept shelf t (tables_of names (tables_content old))
          (tables_of names c))
          (sym turns.content) (sweeps_read names text shelf t (tables_content old) xs ranges all);
      tidy = λ tidy. subst (IsTidy names) (sym turns.content)
          (tidy_sweep names text shelf t (tables_content old) xs ranges all ruled tidy);
      rules = λ own is there in'. record {
        each = subst (λ n. IsInRulesBy own n (tables_content new)) (sym (ap last_in kept))
            (subst (IsInRulesBy own t) (sym turns.content)
            (subst (λ n. IsInRulesBy own t (with_sweep n text t xs (tables_content old))) (sym is)
            (sweep_ruled own (tables_content old) there in' text t xs later
            (subst (λ n. is_ruled_sweep n t xs ≡ true) is ruled)
            (subst (λ n. EachIn (MayBePut n) xs) is
            (may names text shelf t (tables_content old) xs ranges all)))));
        beside = subst AreAllBeside (sym turns.content)
            (beside_sweep names text shelf t (tables_content old) xs ranges all ruled in'.beside);
        granted = subst (AreAllOfBooks own) (sym turns.content)
            (subst (λ n. AreAllOfBooks own (with_sweep n text t xs (tables_content old))) (sym is)
            (books_sweep own text shelf t (tables_content old) xs ranges
            (subst (λ n. AreAllSwept n shelf t (tables_content old) xs) is all)
            (subst (λ n. is_ruled_sweep n t xs ≡ true) is ruled) in'.granted));
      };
      stands = record {
        tabled = record { catalog = turns.catalog; stored = turns.stored; plain = turns.plain };
        meta = kept;
        last = last;
        later = later;
        books = ap (λ (c : TablesContent). c.books) turns.content
            ∙ swept_books names text shelf t (tables_content old) xs ranges all;
      };
    }

-- the accounts of all numbers, one after another
swept_whole : (names : Names) (text : List ℕ) (shelf : Shelf) (t : ℕ) → IsShelf shelf
    → t ≤ 4_102_488_000 → is_moment t ≡ true → (old db : Trees)
    → last_in (tables_content old).meta ≤ t → SweepsAccounts names text shelf t old db → BecomesSwept names text shelf t old db
swept_whole names text shelf t ranges last ruled old db later all =
    let s = all.each.swept all.all.apart in
    let xs = all.each.accounts in
    become names text shelf t xs ranges last old db later (record {
      all = subst (AreAccounts (tables_content old)) (sym s.numbers_are) all.all;
      each = s.each;
    }) (and_from (is_moment t) (list_all (is_ruled_swept names t) xs) ruled all.each.ruled)
    all.each.turns

-- rule: database-sweep.sweeps-accounts
pub sweep_written : {A E : Type 0} (names : Names) (text : List ℕ) (shelf : Shelf) (t : ℕ)
    → IsShelf shelf → t ≤ 4_102_488_000 → is_moment t ≡ true → (old new : State) → IsUpTo t old
    → (r : Result A E) → TransactsSweep names text shelf t old new r
    → CommitsWhole (BecomesSwept names text shelf t) old new r
sweep_written {A} {E} names text shelf t ranges last ruled old new up r w = record {
  done = λ clean. done (was clean) r (w.done clean);
  err = w.kept;
  idle = w.idle;
  survives = survives_weaker old new
      (λ db. IsTrue old.is_open × SweepsAccounts names text shelf t old.now.trees db)
      (λ db. IsTrue old.is_open → BecomesSwept names text shelf t old.now.trees db)
      (λ clean db e on. swept_whole names text shelf t ranges last ruled old.now.trees db
      (up (was clean) on) e.1)
      w.survives;
}
  where
    was : HasCleanDisk new → HasCleanDisk old
    was clean = omega (arith, w.survives.clean, clean)

    done : HasCleanDisk old → (r : Result A E)
        → OnOk r
        (IsTrue old.is_open × IsTrue new.is_open × CommitsSweep names text shelf t old new)
        → OnOk r (IsTrue old.is_open × IsTrue new.is_open
        × BecomesSwept names text shelf t old.now.trees new.now.trees)
    done clean (Ok v) d = (
      d.0,
      d.1,
      swept_whole names text shelf t ranges last ruled old.now.trees new.now.trees (up clean d.0)
          d.2.sweeps,
    )
    done clean (Err e) d = tt
