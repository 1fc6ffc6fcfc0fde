-- The accounts that a sweep meets one after another, in the order of their numbers, are all of
-- them.
use Rattle.std.proofs.Common.{◌≡◌, ◌∙◌, ap, ap₂, refl, sym, subst, ℕ, ◌+◌, List, [], ◌∷◌, ◌++◌}
use Rattle.std.proofs.Common.{length, cond, Option, Some, None, Result, Ok, Err, arith}
use Rattle.std.proofs.Common.{Bool, true, false, not, ◌&&◌, true≢false, is_eq, is_some}
use Rattle.std.proofs.Common.{Ordering, Less, Equal, Greater}
use Rattle.std.specs.Prelude.{◌||◌}
use Rattle.std.specs.Cmp.Lexicographic.{slice_cmp, texts_ties}
use Rattle.std.specs.List.{find}
use Rattle.std.specs.Result.{IsErr}
use Rattle.std.specs.Ordering.{nat_cmp, is_lt, ordering_reverse}
use Rattle.std.proofs.lemmas.Cmp.{nat_list_cmp_total}
use Rattle.std.proofs.lemmas.List.{length-append}
use Rattle.sqlite.specs.Effect.{Database}
use Rattle.sqlite.specs.State.{State, HasCleanDisk}
use Rattle.sqlite.proofs.StateLemmas.{survives_then}
use Rattle.identifiers.specs.Texts.{same_name}
use Rattle.shelves.specs.Shelves.{Shelf}
use Rattle.ledger.specs.Lists.{EachIn}
use Rattle.reserving.specs.Rows.{AreApart}
use Rattle.reserving.proofs.LeftTests.{each_append}
use Rattle.reserving.proofs.Lists.{EachIn-weaker}
use Rattle.sql_tables.specs.Statements.{Attempts, HasRules}
use Rattle.sql_rows.specs.Content.{TableRows, TablesContent, tables_content, with_meta}
use Rattle.sql_rows.specs.Lists.{AreAccounts, IsFollowing, IsNextAccount, comes_after, name_before}
use Rattle.sql_rows.proofs.lists.AllAccounts.{all_accounts, as_many}
use Rattle.sql_rows.proofs.queries.Within.{HaveWithin, book_still, ended_within}
use Rattle.sql_keeper.specs.Content.{Names}
use Rattle.sql_keeper.specs.Sweeps.{AreSweptOf, IsSweptAs, IsSweptOf, MakesSweep, SweepsEach}
use Rattle.sql_keeper.specs.Sweeps.{SweepsOne, with_sweep, with_swept}
use Rattle.sql_keeper.specs.Writes.{meta_at}
use Rattle.sql_keeper.specs.declared.swept_rows.SweptAccount.{SweptAccount}
use Rattle.sql_keeper.proofs.puts.Overlays.{name_from}
use Rattle.sql_keeper.proofs.puts.Puts.{made_since}
use Rattle.sql_keeper.proofs.sweeps.Swept.{IsThere, MayBePut, apart_of, count_after, found_one}
use Rattle.sql_keeper.proofs.sweeps.Swept.{may_each, row_after, rows_after, swept_at}
use Rattle.sql_keeper.proofs.sweeps.SweptReads.{HasSweptEach, book_swept, more_each, not_swept}
use Rattle.sql_keeper.proofs.sweeps.SweptReads.{other_way}

-- ---- names in their order

less_is : (r : Ordering) → is_lt r ≡ true → r ≡ Less
less_is Less e = refl
less_is Equal e = absurd (true≢false (sym e))
less_is Greater e = absurd (true≢false (sym e))

-- what comes after a name comes after those before it
passes : (last : Option (List ℕ)) (x a : List ℕ) → comes_after last x ≡ true
    → name_before x a ≡ true → comes_after last a ≡ true
passes None x a follows before = refl
passes (Some l) x a follows before =
    ap is_lt (nat_list_cmp_total.trans l x a (less_is (slice_cmp nat_cmp l x) follows)
    (less_is (slice_cmp nat_cmp x a) before))

-- ---- the accounts up to one

-- these are the accounts up to the last of them, each once
pub record IsFront (c : TablesContent) (last : Option (List ℕ)) (numbers : List (List ℕ)) : Type 0
  where
    pub found : (a : List ℕ) → is_some (find (λ x. same_name x a) numbers)
        ≡ (not (comes_after last a) && is_some (c.rows a).head)
    pub apart : AreApart (λ x y. same_name y x) numbers

or_none : (b : Bool) → (b || false) ≡ b
or_none true = refl
or_none false = refl

or_more : (b : Bool) → (b || true) ≡ true
or_more true = refl
or_more false = refl

found_more : (p : List ℕ → Bool) (ns : List (List ℕ)) (x : List ℕ)
    → is_some (find p (ns ++ x ∷ [])) ≡ (is_some (find p ns) || p x)
found_more p [] x = at (p x)
  where
    at : (b : Bool) → is_some (cond b (Some x) None) ≡ b
    at true = refl
    at false = refl
found_more p (n ∷ ns) x = at (p n) (found_more p ns x)
  where
    at : (b : Bool) → is_some (find p (ns ++ x ∷ [])) ≡ (is_some (find p ns) || p x)
        → is_some (cond b (Some n) (find p (ns ++ x ∷ [])))
        ≡ (is_some (cond b (Some n) (find p ns)) || p x)
    at true e = refl
    at false e = e

none_of : (x : List ℕ) (ns : List (List ℕ)) → is_some (find (λ n. same_name n x) ns) ≡ false
    → EachIn (λ n. same_name x n ≡ false) ns
none_of x [] e = tt
none_of x (n ∷ ns) e = at (same_name n x) refl e (none_of x ns)
  where
    at : (b : Bool) → same_name n x ≡ b
        → is_some (cond b (Some n) (find (λ m. same_name m x) ns)) ≡ false
        → (is_some (find (λ m. same_name m x) ns) ≡ false → EachIn (λ m. same_name x m ≡ false) ns)
        → EachIn (λ m. same_name x m ≡ false) (n ∷ ns)
    at true k e rest = absurd (true≢false e)
    at false k e rest = (other_way n x k, rest e)

apart_more : (x : List ℕ) (ns : List (List ℕ)) → AreApart (λ x y. same_name y x) ns
    → EachIn (λ n. same_name x n ≡ false) ns → AreApart (λ x y. same_name y x) (ns ++ x ∷ [])
apart_more x [] h e = (tt, tt)
apart_more x (n ∷ ns) h e =
    (each_append (λ y. same_name y n ≡ false) ns (x ∷ []) h.0 (e.0, tt), apart_more x ns h.1 e.1)

pub none_yet : (c : TablesContent) → IsFront c None []
none_yet c = record { found = λ a. refl; apart = tt }

module _ (c : TablesContent) (last : Option (List ℕ)) (numbers : List (List ℕ))
    (front : IsFront c last numbers) where
  -- with the one that follows
  -- rule: database-sweep
  pub front_more : (x : List ℕ) → IsFollowing c last x → IsFront c (Some x) (numbers ++ x ∷ [])
  front_more x next = record {
    found = λ a. found_more (λ n. same_name n a) numbers x
        ∙ ap (λ b. b || same_name x a) (front.found a) ∙ at a (slice_cmp nat_cmp x a) refl;
    apart = apart_more x numbers front.apart (none_of x numbers (front.found x
        ∙ ap (λ b. not b && is_some (c.rows x).head) next.follows));
  }
    where
      greater : (a : List ℕ) → slice_cmp nat_cmp x a ≡ Greater → name_before a x ≡ true
      greater a e = ap is_lt (nat_list_cmp_total.antisymm a x ∙ ap ordering_reverse e)

      -- whether it stands before one, is it, or comes after it
      beyond : (a : List ℕ) (b : Bool) → comes_after last a ≡ b → name_before a x ≡ true
          → (not b && is_some (c.rows a).head) ≡ is_some (c.rows a).head
      beyond a true e before = sym (next.none_between a e before)
      beyond a false e before = refl

      at : (a : List ℕ) (r : Ordering) → slice_cmp nat_cmp x a ≡ r
          → ((not (comes_after last a) && is_some (c.rows a).head) || same_name x a)
          ≡ (not (name_before x a) && is_some (c.rows a).head)
      at a Less e =
          let before : name_before x a ≡ true = ap is_lt e in
          let other : same_name x a ≡ false = texts_ties x a ∙ ap is_eq e in
          rw (before, other, passes last x a next.follows before) refl
      at a Equal e =
          let same : same_name x a ≡ true = texts_ties x a ∙ ap is_eq e in
          let here : is_some (c.rows a).head ≡ true =
          ap (λ y. is_some (c.rows y).head) (sym (name_from x a same)) ∙ next.there in
          ap (λ b. (not (comes_after last a) && is_some (c.rows a).head) || b) same ∙ or_more _
          ∙ sym (ap₂ (λ b h. not b && h) (ap is_lt e) here)
      at a Greater e =
          ap (λ b. (not (comes_after last a) && is_some (c.rows a).head) || b)
          (texts_ties x a ∙ ap is_eq e)
          ∙ or_none _ ∙ beyond a (comes_after last a) refl (greater a e)
          ∙ ap (λ b. not b && is_some (c.rows a).head) (sym (ap is_lt e))

  -- where none follows these are all
  pub front_all : IsNextAccount c last None
      → (a : List ℕ) → is_some (find (λ x. same_name x a) numbers) ≡ is_some (c.rows a).head
  front_all none a = front.found a ∙ at (comes_after last a) refl
    where
      at : (b : Bool) → comes_after last a ≡ b
          → (not b && is_some (c.rows a).head) ≡ is_some (c.rows a).head
      at true e = sym (none a e)
      at false e = refl

-- ---- which accounts there are stays

abbrev HaveSame : TablesContent → TablesContent → Type 0
HaveSame c d = (a : List ℕ) → is_some (d.rows a).head ≡ is_some (c.rows a).head

next_as_before : (c d : TablesContent) (last o : Option (List ℕ)) → HaveSame c d
    → IsNextAccount d last o → IsNextAccount c last o
next_as_before c d last None same next = λ a after. sym (same a) ∙ next a after
next_as_before c d last (Some x) same next = record {
  there = sym (same x) ∙ next.there;
  follows = next.follows;
  none_between = λ a after before. sym (same a) ∙ next.none_between a after before;
}

pub next_of : (c : TablesContent) (l last o next : Option (List ℕ)) → l ≡ last → o ≡ next
    → IsNextAccount c l o → IsNextAccount c last next
next_of c l last o next is same h =
    subst (λ n. IsNextAccount c last n) same (subst (λ m. IsNextAccount c m o) is h)

module _ (names : Names) (text : List ℕ) (shelf : Shelf) (t : ℕ) (c : TablesContent)
    (numbers : List (List ℕ)) (xs : List SweptAccount)
    (apart : AreApart (λ x y. same_name y x) numbers)
    (swept : AreSweptOf names shelf t c numbers xs) where
  abbrev before : TablesContent
  before = with_meta (meta_at text t) c

  may : EachIn (MayBePut names) xs
  may = may_each names shelf t c xs swept.each

  have_same : HaveSame c (with_sweep names text t xs c)
  have_same a =
      ap (λ (r : TableRows). is_some r.head) (rows_after names a xs before may (apart_of xs
      (subst (AreApart (λ x y. same_name y x)) (sym swept.numbers_are) apart)))
      ∙ at (swept_at a xs) refl
    where
      at : (o : Option SweptAccount) → swept_at a xs ≡ o
          → is_some (row_after names o (c.rows a)).head ≡ is_some (c.rows a).head
      at None e = refl
      at (Some x) e =
          let one = found_one (IsSweptOf names shelf t c) a xs x swept.each e in
          sym (ap (λ n. is_some (c.rows n).head) (sym one.1) ∙ ap is_some (one.0.live shelf t).0)

  as_many_still : (with_sweep names text t xs c).count ≡ c.count
  as_many_still = count_after names xs before may
      (EachIn-weaker (IsSweptOf names shelf t c) (IsThere c) xs
      (λ x h. ap is_some (h.live shelf t).0) swept.each)

-- ---- the loop

-- an account that is brought on after it was found
one_since : {A E : Type 0} (names : Names) (shelf : Shelf) (t : ℕ) (a : List ℕ)
    (now mid new : State) (u : A) → HaveWithin now mid
    → Attempts {A = A} {E = E} (SweepsOne names shelf t a) mid new (Ok u)
    → Attempts {A = A} {E = E} (SweepsOne names shelf t a) now new (Ok u)
one_since names shelf t a now mid new u have one = record {
  done = λ clean.
      let d = one.done clean in
      let same = have.same (omega (arith, one.survives.clean, clean)) in
      record {
        account = d.account;
        swept = subst
            (λ (b : Database). IsSweptAs names shelf t (tables_content b.trees) a d.account)
            same.0.now_is d.swept;
        ruled = d.ruled;
        makes = made_since (with_swept names d.account) now mid new same d.makes;
      };
  kept = λ clean. tt;
  survives = survives_then now mid new (λ _. ⊥) (λ _. ⊥) (λ _. ⊥) (λ clean db no. no)
      (λ clean db no. no) have.survives one.survives;
}

module _ (names : Names) (text : List ℕ) (shelf : Shelf) (t : ℕ) where
  -- the accounts up to the last are brought on, and so many they are
  pub record HasSweptUpTo (last : Option (List ℕ)) (count : ℕ) (old now : State) : Type 0 where
    pub numbers : List (List ℕ)
    pub swept : HasSweptEach names text shelf t numbers old now
    pub front : HasCleanDisk now → IsFront (tables_content old.now.trees) last numbers
    pub many : length numbers ≡ count

  pub up_to_none : (old now : State) → HasSweptEach names text shelf t [] old now
      → HasSweptUpTo None 0 old now
  up_to_none old now swept = record {
    numbers = [];
    swept = swept;
    front = λ clean. none_yet (tables_content old.now.trees);
    many = refl;
  }

  module _ (last : Option (List ℕ)) (count : ℕ) (old now mid : State)
      (h : HasSweptUpTo last count old now) (have : HaveWithin now mid) where
    now_clean : HasCleanDisk mid → HasCleanDisk now
    now_clean clean = omega (arith, have.survives.clean, clean)

    -- the accounts that there are now were there
    same_now : HasCleanDisk mid
        → HaveSame (tables_content old.now.trees) (tables_content now.now.trees)
    same_now clean =
        let made = h.swept.made (now_clean clean) in
        let apart = (h.front (now_clean clean)).apart in
        subst (HaveSame (tables_content old.now.trees)) (sym made.turns.turns.content)
        (have_same names text shelf t (tables_content old.now.trees) h.numbers
        made.turns.accounts apart (made.turns.swept apart))

    -- one that isn't brought on after it was found
    pub not_brought : {A B E F : Type 0} (a : List ℕ) (new : State) (r : Result A E) (e : F)
        → IsErr r → Attempts {A = B} {E = F} (SweepsOne names shelf t a) mid new (Err e)
        → Attempts {A = A} {E = E} (MakesSweep names text shelf t) old new r
    not_brought {A} {B} {E} {F} a new r e failed one =
        not_swept names text shelf t {A = A} {B = B} {E = E} {F = F} (SweepsOne names shelf t a)
        h.numbers old now new r e failed h.swept
        (ended_within {A = B} {B = B} {E = F} {F = F} (SweepsOne names shelf t a)
        (SweepsOne names shelf t a) now mid new (Err e) e refl have one)

    pub up_to_next : {A E : Type 0} (a : List ℕ) (new : State) (u : A)
        → (HasCleanDisk mid → IsNextAccount (tables_content now.now.trees) last (Some a))
        → Attempts {A = A} {E = E} (SweepsOne names shelf t a) mid new (Ok u) → HasRules new
        → HasSweptUpTo (Some a) (count + 1) old new
    up_to_next {A} {E} a new u next one rules = record {
      numbers = h.numbers ++ a ∷ [];
      swept = more_each names text shelf t {A = A} {E = E} h.numbers a u old now new h.swept
          (one_since {A = A} {E = E} names shelf t a now mid new u have one) rules;
      front = λ clean.
          let before : HasCleanDisk mid = omega (arith, one.survives.clean, clean) in
          front_more (tables_content old.now.trees) last h.numbers (h.front (now_clean before)) a
          (next_as_before (tables_content old.now.trees) (tables_content now.now.trees) last (Some a)
          (same_now before) (next before));
      many = omega (arith, length-append h.numbers (a ∷ []), h.many);
    }

    module _ (none : HasCleanDisk mid → IsNextAccount (tables_content now.now.trees) last None)
      where
        -- these are all
        -- rule: database-sweep
        all_met : HasCleanDisk mid → AreAccounts (tables_content old.now.trees) h.numbers
        all_met clean =
            let made = h.swept.made (now_clean clean) in
            let front = h.front (now_clean clean) in
            let swept = made.turns.swept front.apart in
            let c = tables_content old.now.trees in
            let every = all_accounts now.now.trees
            (h.swept.rules (now_clean clean) made.shows.is_open) made.book.stored.1.0 in
            as_many c h.numbers every.0 (record {
              found = λ a. every.1.found a ∙ same_now clean a;
              count = every.1.count ∙ ap (λ (x : TablesContent). x.count) made.turns.turns.content
                  ∙ as_many_still names text shelf t c h.numbers made.turns.accounts front.apart
                  swept;
              apart = every.1.apart;
            }) (front_all c last h.numbers front (next_as_before c (tables_content now.now.trees)
            last None (same_now clean) (none clean))) front.apart

        pub so_many : HasCleanDisk mid → count ≡ (tables_content old.now.trees).count
        so_many clean = sym h.many ∙ (all_met clean).count

        pub swept_all : {A E : Type 0} (u : A)
            → Attempts {A = A} {E = E} (MakesSweep names text shelf t) old mid (Ok u)
        swept_all u = record {
          done = λ clean.
              let made = h.swept.made (now_clean clean) in
              let same = have.same clean in
              record {
                sweeps = record {
                  numbers = h.numbers;
                  all = all_met clean;
                  each = subst
                      (λ (b : Database). SweepsEach names text shelf t h.numbers old.now.trees b.trees)
                      (sym same.0.now_is) made.turns;
                };
                book = book_still now mid have (book_swept names text shelf t h.numbers old now
                    h.swept) clean same.0.is_open;
                shows = record {
                  was_open = made.shows.was_open;
                  is_open = same.0.is_open;
                  now_is = refl;
                  committed_is = same.0.committed_is ∙ made.shows.committed_is;
                  mode = same.0.mode ∙ made.shows.mode;
                };
              };
          kept = λ clean. tt;
          survives = survives_then old now mid (λ _. ⊥) (λ _. ⊥) (λ _. ⊥) (λ clean db no. no)
              (λ clean db no. no) h.swept.survives have.survives;
        }
