-- What a sweep writes reads as the sweep.
use Rattle.std.proofs.Common.{◌≡◌, ℕ, Bool, true, false, cond, List, [], ◌∷◌, map, refl, sym, ap}
use Rattle.std.proofs.Common.{◌∙◌, subst, Option, Some, None, true≢false, arith}
use Rattle.std.specs.Prelude.{if◌then◌else◌, ◌≤◌, ◌+◌, ◌&&◌, nat_le, nat_lt, option_map, is_some}
use Rattle.std.specs.List.{find}
use Rattle.std.proofs.lemmas.Bool.Decides.{nat_tests}
use Rattle.identifiers.specs.Texts.{same_name}
use Rattle.shelves.specs.Shelves.{Shelf, IsShelf}
use Rattle.ledger.specs.Ledger.{Ledger}
use Rattle.reserving.specs.declared.session.Session.{Session}
use Rattle.ledger.specs.Lists.{EachIn}
use Rattle.reserving.specs.Rows.{AreApart}
use Rattle.reserving.specs.Stored.{StoredRows, advanced_stored}
use Rattle.reserving.proofs.Lists.{no_some, some_of, EachIn-weaker}
use Rattle.reserving.proofs.LeftTests.{none_more}
use Rattle.commands.specs.declared.key.Key.{Key}
use Rattle.keepers.specs.Tables.{Head, head_of, AreListed}
use Rattle.keepers.specs.Change.{AreRowsAt, AreBroughtTo, IsSwept, over}
use Rattle.keepers.proofs.SweptRows.{brought_over, rows_brought}
use Rattle.sql_rows.specs.declared.head.HeadColumns.{HeadColumns}
use Rattle.sql_rows.specs.Content.{TableRows, TablesContent, with_account, with_head, with_meta}
use Rattle.sql_rows.specs.Content.{with_rows}
use Rattle.sql_rows.specs.Each.{with_counters, with_sessions}
use Rattle.sql_keeper.specs.Content.{head_in, told_rows, is_numbered, charge_of, answer_in, last_in}
use Rattle.sql_keeper.specs.Content.{voucher_in, tables_of, Names}
use Rattle.sql_keeper.specs.Laws.{AreSweepsRead}
use Rattle.sql_keeper.specs.Sweeps.{rows_at, AreSweptRows, IsSweptOf, AreAllSwept, with_accounts}
use Rattle.sql_keeper.specs.Sweeps.{with_swept, with_sweep}
use Rattle.sql_keeper.specs.Tests.{AreWritable}
use Rattle.sql_keeper.specs.Writes.{head_columns_of, meta_at, with_all_counted, with_groups}
use Rattle.sql_keeper.specs.declared.swept_rows.SweptAccount.{SweptAccount}
use Rattle.sql_keeper.proofs.commits.Changed.{AreKeyed, over_stored, same_texts}
use Rattle.sql_keeper.proofs.puts.CountedPuts.{counted_over, over_counted}
use Rattle.sql_keeper.proofs.puts.Groups.{groups_over, over_groups}
use Rattle.sql_keeper.specs.Content.{told_charge}
use Rattle.sql_keeper.proofs.puts.Overlays.{chosen_twice, counters_over, name_from, opened}
use Rattle.sql_keeper.proofs.puts.Overlays.{over_counters, over_sessions, sessions_over, with_twice}
use Rattle.sql_keeper.proofs.sweeps.SweptNamed.{after, keyed_swept, loads, made, may_swept}
use Rattle.sql_keeper.proofs.sweeps.SweptNamed.{read_swept}

-- ---- one account

module _ (names : Names) (shelf : Shelf) (t : ℕ) (rows : TableRows) where
  -- rows that aren't of a later moment are brought on
  swept_is : (before : StoredRows) → before.as_of ≤ t →
      rows_at shelf t before ≡ advanced_stored shelf t before
  swept_is before early = at (nat_le before.as_of t) (no_test before.as_of t early)
    where
      no_test : (n m : ℕ) → n ≤ m → nat_le n m ≡ true
      no_test n m le = grind (arith, nat_tests)

      at : (b : Bool) → b ≡ true
          → (if b then advanced_stored shelf t before else before) ≡ advanced_stored
          shelf t before
      at true e = refl
      at false e = absurd (true≢false (sym e))

  -- what was loaded and brought on, where it differs, written over what was there
  -- rule: sweep.brought-to
  listed_one : (w : StoredRows) → AreSweptRows names shelf t rows w
      → AreBroughtTo shelf t (told_rows names rows) (told_rows names (over_stored names w rows))
  listed_one w s v are kept early =
      let head = (loads names shelf t rows w s).head in
      let same : head_of s.before ≡ head_of v =
      some_of (head_of s.before) (head_of v) (sym head ∙ are.head) in
      let no_later : s.before.as_of ≤ t =
      subst (λ n. n ≤ t) (sym (ap (λ (x : Head). x.as_of) same)) early in
      subst (AreListed (advanced_stored shelf t v))
      (sym (read_swept names shelf t rows w s))
      (subst (λ x. AreListed (advanced_stored shelf t v) (over x (told_rows names rows)))
      (sym (swept_is s.before no_later))
      (brought_over shelf t s.before v (told_rows names rows) (made names shelf t rows w s)
      head s.kept.kept are kept))

pub next_is : (shelf : Shelf) (t : ℕ) (w : StoredRows) →
    (rows_at shelf t w).next_charge ≡ w.next_charge
next_is shelf t w = at (nat_le w.as_of t)
  where
    at : (b : Bool) → (if b then advanced_stored shelf t w else w).next_charge ≡ w.next_charge
    at true = refl
    at false = refl

-- the same charges are numbered
numbered_still : (n : ℕ) (h k : HeadColumns) (rows : TableRows) → k.next_charge ≡ h.next_charge
    → rows.head ≡ Some h → charge_of n (record rows { head = Some k }) ≡ charge_of n rows
numbered_still n h k rows same there =
    let tests : is_numbered n (Some k) ≡ is_numbered n rows.head =
    ap (λ m. nat_lt 0 n && nat_lt n m) same ∙ sym (ap (is_numbered n) there) in
    ap (λ b. if b then told_charge rows n else None) tests

-- ---- what is written of one account

-- the head is put last, which an account that is there has
headed : (a : List ℕ) (h : HeadColumns) (f : TableRows → TableRows) (c : TablesContent)
    → ((r : TableRows) → (f r).head ≡ r.head)
    → with_account a h (with_rows a f c) ≡ opened a (λ r. with_head h (f r)) c
headed a h f c keeps = λ i. record c {
  rows = λ x. chosen_twice (same_name a x) (c.rows x) (with_head h) f i;
  count = if is_some (own (same_name a a) i) then c.count else c.count + 1;
}
  where
    own : (b : Bool) → (if b then f (c.rows a) else c.rows a).head ≡ (c.rows a).head
    own true = keeps (c.rows a)
    own false = refl

swept_over : (a : List ℕ) (names : Names) (among : List Session) (w : StoredRows)
    (c : TablesContent)
    → AreKeyed w → AreWritable names among w.groups
    → with_account a (head_columns_of w) (with_groups a names w.groups (with_sessions a w.sessions
    (with_counters a w.counters (with_all_counted a w.buckets c))))
    ≡ opened a (over_stored names w) c
swept_over a names among w c h may =
    let first = λ (r : TableRows). over_counted w.buckets r in
    let second = λ (r : TableRows). over_counters w.counters (first r) in
    let third = λ (r : TableRows). over_sessions w.sessions (second r) in
    let buckets = with_all_counted a w.buckets c in
    let counters = with_counters a w.counters buckets in
    let sessions = with_sessions a w.sessions counters in
    ap (with_account a (head_columns_of w))
    (groups_over a names among w.groups sessions h.groups may
    ∙ ap (with_rows a (over_groups names w.groups)) (sessions_over a w.sessions counters h.sessions
    ∙ ap (with_rows a (over_sessions w.sessions)) (counters_over a w.counters buckets h.counters
    ∙ ap (with_rows a (over_counters w.counters)) (counted_over a w.buckets c h.buckets)
    ∙ with_twice a (over_counters w.counters) first c)
    ∙ with_twice a (over_sessions w.sessions) second c)
    ∙ with_twice a (over_groups names w.groups) third c)
    ∙ headed a (head_columns_of w) (λ r. over_groups names w.groups (third r)) c (λ r. refl)

-- ---- an account after all of a list are written

abbrev pub swept_at : List ℕ → List SweptAccount → Option SweptAccount
swept_at a xs = find (λ x. same_name x.number a) xs

abbrev same_account : SweptAccount → SweptAccount → Bool
same_account x y = same_name y.number x.number

abbrev pub row_after : Names → Option SweptAccount → TableRows → TableRows
row_after names None r = r
row_after names (Some x) r = over_stored names x.rows r

-- the rows may be written
pub record MayBePut (names : Names) (x : SweptAccount) : Type 0 where
  pub keyed : AreKeyed x.rows
  pub among : List Session
  pub may : AreWritable names among x.rows.groups

-- the account is there
abbrev pub IsThere : TablesContent → SweptAccount → Type 0
IsThere c x = is_some (c.rows x.number).head ≡ true

module _ (names : Names) where
  abbrev one_after : SweptAccount → TablesContent → TablesContent
  one_after x c = opened x.number (over_stored names x.rows) c

  pub step : (x : SweptAccount) (c : TablesContent) → MayBePut names x →
      with_swept names x c ≡ one_after x c
  step x c may = swept_over x.number names may.among x.rows c may.keyed may.may

  meta_after : (xs : List SweptAccount) (c : TablesContent) → EachIn (MayBePut names) xs →
      (with_accounts names xs c).meta ≡ c.meta
  meta_after [] c may = refl
  meta_after (x ∷ xs) c may =
      ap (λ d. (with_accounts names xs d).meta) (step x c may.0)
      ∙ meta_after xs (one_after x c) may.1

  books_after : (xs : List SweptAccount) (c : TablesContent) → EachIn (MayBePut names) xs →
      (with_accounts names xs c).books ≡ c.books
  books_after [] c may = refl
  books_after (x ∷ xs) c may =
      ap (λ d. (with_accounts names xs d).books) (step x c may.0)
      ∙ books_after xs (one_after x c) may.1

  kept_after : (xs : List SweptAccount) (c : TablesContent) → EachIn (MayBePut names) xs →
      (with_accounts names xs c).kept ≡ c.kept
  kept_after [] c may = refl
  kept_after (x ∷ xs) c may =
      ap (λ d. (with_accounts names xs d).kept) (step x c may.0)
      ∙ kept_after xs (one_after x c) may.1

  vouchers_after : (xs : List SweptAccount) (c : TablesContent) → EachIn (MayBePut names) xs
      → (with_accounts names xs c).vouchers ≡ c.vouchers
  vouchers_after [] c may = refl
  vouchers_after (x ∷ xs) c may =
      ap (λ d. (with_accounts names xs d).vouchers) (step x c may.0)
      ∙ vouchers_after xs (one_after x c) may.1

  there_still : (x : SweptAccount) (c : TablesContent) (ys : List SweptAccount) →
      EachIn (IsThere c) ys
      → EachIn (IsThere (one_after x c)) ys
  there_still x c [] h = tt
  there_still x c (y ∷ ys) h = (at (same_name x.number y.number) h.0, there_still x c ys h.1)
    where
      at : (b : Bool) → is_some (c.rows y.number).head ≡ true
          → is_some (if b then over_stored names x.rows (c.rows y.number) else c.rows y.number).head
          ≡ true
      at true e = refl
      at false e = e

  pub count_after : (xs : List SweptAccount) (c : TablesContent) → EachIn (MayBePut names) xs
      → EachIn (IsThere c) xs → (with_accounts names xs c).count ≡ c.count
  count_after [] c may there = refl
  count_after (x ∷ xs) c may there =
      ap (λ d. (with_accounts names xs d).count) (step x c may.0)
      ∙ count_after xs (one_after x c) may.1 (there_still x c xs there.1)
      ∙ ap (λ b. if b then c.count else c.count + 1) there.0

  pub rows_after : (a : List ℕ) (xs : List SweptAccount) (c : TablesContent) →
      EachIn (MayBePut names) xs
      → AreApart same_account xs
      → (with_accounts names xs c).rows a ≡ row_after names (swept_at a xs) (c.rows a)
  rows_after a [] c may apart = refl
  rows_after a (x ∷ xs) c may apart =
      ap (λ d. (with_accounts names xs d).rows a) (step x c may.0)
      ∙ rows_after a xs (one_after x c) may.1 apart.1
      ∙ at (same_name x.number a) refl
    where
      one : (x y : SweptAccount) → same_name x.number a ≡ true → same_name y.number a ≡ true →
          same_account x y ≡ true
      one x y p q = ap (same_name y.number) (name_from x.number a p) ∙ q

      at : (b : Bool) → same_name x.number a ≡ b
          → row_after names (swept_at a xs)
          (if b then over_stored names x.rows (c.rows a) else c.rows a)
          ≡ row_after names (cond b (Some x) (swept_at a xs)) (c.rows a)
      at true e = ap (λ o. row_after names o (over_stored names x.rows (c.rows a)))
          (none_more same_account (λ y. same_name y.number a) one x xs e apart.0)
      at false e = refl

-- ---- all of it

pub apart_of : (xs : List SweptAccount)
    → AreApart (λ x y. same_name y x) (map (λ (x : SweptAccount). x.number) xs)
    → AreApart same_account xs
apart_of [] h = tt
apart_of (x ∷ xs) h = (each xs h.0, apart_of xs h.1)
  where
    each : (ys : List SweptAccount)
        → EachIn (λ y. same_name y x.number ≡ false) (map (λ (z : SweptAccount). z.number) ys)
        → EachIn (λ y. same_name y.number x.number ≡ false) ys
    each [] h = tt
    each (y ∷ ys) h = (h.0, each ys h.1)

found_number : (a : List ℕ) (xs : List SweptAccount)
    → is_some (find (λ n. same_name n a) (map (λ (x : SweptAccount). x.number) xs))
    ≡ is_some (swept_at a xs)
found_number a [] = refl
found_number a (x ∷ xs) = at (same_name x.number a) (found_number a xs)
  where
    at : (b : Bool) → is_some (find (λ n. same_name n a) (map (λ (x : SweptAccount). x.number) xs))
        ≡ is_some (swept_at a xs)
        → is_some (cond b (Some x.number)
        (find (λ n. same_name n a) (map (λ (x : SweptAccount). x.number) xs)))
        ≡ is_some (cond b (Some x) (swept_at a xs))
    at true e = refl
    at false e = e

-- the one that is found
pub found_one : (P : SweptAccount → Type 0) (a : List ℕ) (xs : List SweptAccount) (x : SweptAccount)
    → EachIn P xs → swept_at a xs ≡ Some x → P x × (x.number ≡ a)
found_one P a [] x h e = absurd (no_some x e)
found_one P a (y ∷ ys) x h e = at (same_name y.number a) refl e (found_one P a ys x h.1)
  where
    at : (b : Bool) → same_name y.number a ≡ b → cond b (Some y) (swept_at a ys) ≡ Some x
        → (swept_at a ys ≡ Some x → P x × (x.number ≡ a)) → P x × (x.number ≡ a)
    at true k f rest =
        let is : y ≡ x = some_of y x f in
        subst (λ z. P z × (z.number ≡ a)) is (h.0, name_from y.number a k)
    at false k f rest = rest f

pub may_each : (names : Names) (shelf : Shelf) (t : ℕ) (c : TablesContent) (xs : List SweptAccount)
    → EachIn (IsSweptOf names shelf t c) xs → EachIn (MayBePut names) xs
may_each names shelf t c xs each =
    EachIn-weaker (IsSweptOf names shelf t c) (MayBePut names) xs (λ x h. record {
      keyed = keyed_swept names shelf t (c.rows x.number) x.rows h;
      among = (after names shelf t (c.rows x.number) x.rows h).sessions;
      may = may_swept names shelf t (c.rows x.number) x.rows h;
    }) each

module _ (names : Names) (text : List ℕ) (shelf : Shelf) (t : ℕ) (c : TablesContent)
    (xs : List SweptAccount) (ranges : IsShelf shelf) (all : AreAllSwept names shelf t c xs) where
  pub may : EachIn (MayBePut names) xs
  may = may_each names shelf t c xs all.each

  there : EachIn (IsThere c) xs
  there = EachIn-weaker (IsSweptOf names shelf t c) (IsThere c) xs
      (λ x h. ap is_some (h.live shelf t).0) all.each

  pub rows_are : (a : List ℕ) →
      (with_sweep names text t xs c).rows a ≡ row_after names (swept_at a xs) (c.rows a)
  rows_are a = rows_after names a xs (with_meta (meta_at text t) c) may (apart_of xs all.all.apart)

  -- what is seen of an account's rows, before and after
  record AreSeen (a : List ℕ) (r : TableRows) : Type 0 where
    none : (told_rows names (c.rows a)).head ≡ None → told_rows names r ≡ told_rows names (c.rows a)
    rows : (ledger : Ledger) (u : ℕ) → u ≤ t → AreRowsAt shelf ledger u (told_rows names (c.rows a))
        → AreRowsAt shelf ledger t (told_rows names r)
    listed : AreBroughtTo shelf t (told_rows names (c.rows a)) (told_rows names r)
    answers : (k : Key) → answer_in a k r ≡ answer_in a k (c.rows a)
    charges : (n : ℕ) → charge_of n r ≡ charge_of n (c.rows a)

  seen_of : (a : List ℕ) (x : SweptAccount) → IsSweptOf names shelf t c x → x.number ≡ a
      → AreSeen a (over_stored names x.rows (c.rows a))
  seen_of a x one is = record {
    none = λ e. absurd (no_some _ (sym e ∙ ap (option_map head_in) (here.live shelf t).0));
    rows = rows_brought shelf t (told_rows names (c.rows a)) _ ranges
        (listed_one names shelf t (c.rows a) x.rows here);
    listed = listed_one names shelf t (c.rows a) x.rows here;
    answers = λ k. same_texts a k names x.rows [] (c.rows a);
    charges = λ n. numbered_still n (head_columns_of here.before) (head_columns_of x.rows)
        (c.rows a)
        (ap (λ (w : StoredRows). w.next_charge) here.is ∙ next_is shelf t here.before)
        (here.live shelf t).0;
  }
    where
      here : AreSweptRows names shelf t (c.rows a) x.rows
      here = subst (λ n. AreSweptRows names shelf t (c.rows n) x.rows) is one

  seen_none : (a : List ℕ) → swept_at a xs ≡ None → AreSeen a (c.rows a)
  seen_none a none = record {
    none = λ e. refl;
    rows = λ ledger u early h. absurd (headless (c.rows a).head
        (sym (all.all.found a) ∙ found_number a xs ∙ ap is_some none)
        (λ e. no_some _ (sym e ∙ h.are.head)));
    listed = λ w are kept early. absurd (headless (c.rows a).head
        (sym (all.all.found a) ∙ found_number a xs ∙ ap is_some none)
        (λ e. no_some _ (sym e ∙ are.head)));
    answers = λ k. refl;
    charges = λ n. refl;
  }
    where
      headless : (o : Option HeadColumns) → is_some o ≡ false →
          (option_map head_in o ≡ None → ⊥) → ⊥
      headless None e without = without refl
      headless (Some h) e without = true≢false e

  seen : (a : List ℕ) → AreSeen a ((with_sweep names text t xs c).rows a)
  seen a = subst (AreSeen a) (sym (rows_are a)) (at (swept_at a xs) refl)
    where
      at : (o : Option SweptAccount) → swept_at a xs ≡ o → AreSeen a (row_after names o (c.rows a))
      at None e = seen_none a e
      at (Some x) e =
          let one = found_one (IsSweptOf names shelf t c) a xs x all.each e in
          seen_of a x one.0 one.1

  pub swept : IsSwept shelf t (tables_of names c) (tables_of names (with_sweep names text t xs c))
  swept = record {
    last = ap last_in (meta_after names xs (with_meta (meta_at text t) c) may);
    none = λ a. (seen a).none;
    rows = λ a. (seen a).rows;
    listed = λ a. (seen a).listed;
    beside = record {
      answers = λ a. (seen a).answers;
      charges = λ a. (seen a).charges;
      vouchers = λ code. ap (λ f. option_map voucher_in (f code))
          (vouchers_after names xs (with_meta (meta_at text t) c) may);
      count = count_after names xs (with_meta (meta_at text t) c) may there;
    };
  }

  pub swept_meta : (with_sweep names text t xs c).meta ≡ Some (meta_at text t)
  swept_meta = meta_after names xs (with_meta (meta_at text t) c) may

  pub swept_kept :
      (with_sweep names text t xs c).kept ≡ (with_meta (meta_at text t) c).kept
  swept_kept = kept_after names xs (with_meta (meta_at text t) c) may

  pub swept_books : (with_sweep names text t xs c).books ≡ c.books
  swept_books = books_after names xs (with_meta (meta_at text t) c) may

-- rule: database-sweep
pub sweeps_read : AreSweepsRead
sweeps_read names text shelf t c xs ranges all = swept names text shelf t c xs ranges all
