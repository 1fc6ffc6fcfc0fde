-- What is written over tidy rows leaves tidy rows.
use Rattle.std.proofs.Common.{◌≡◌, ◌∙◌, ℕ, Bool, true, false, List, refl, sym, ap, subst}
use Rattle.std.proofs.Common.{Option, Some, None, [], ◌∷◌, cond, arith, nat_le, nat_lt}
use Rattle.std.specs.Prelude.{if◌then◌else◌, ◌&&◌, ◌+◌, nat_eq, is_some, option_map}
use Rattle.std.specs.List.{find, list_all}
use Rattle.std.proofs.lemmas.Bool.{and_parts}
use Rattle.std.proofs.lemmas.Bool.Decides.{nat_tests}
use Rattle.identifiers.specs.Texts.{same_name}
use Rattle.buckets.specs.Row.{BucketRow}
use Rattle.ledger.specs.declared.charge.ChargeRow.{ChargeRow}
use Rattle.reserving.specs.declared.session.Reservation.{Reservation}
use Rattle.reserving.specs.declared.session.Session.{Session}
use Rattle.reserving.specs.declared.session.SessionGroup.{SessionGroup}
use Rattle.reserving.specs.Left.{bucket_in, first_of, is_open_row}
use Rattle.reserving.specs.Sessions.{group_in, holds_in, is_open, is_session, session_in}
use Rattle.reserving.specs.Stored.{StoredRows}
use Rattle.ledger.proofs.Holds.{same_itself as name_itself}
use Rattle.commands.specs.declared.key.Key.{Key}
use Rattle.commands.specs.declared.key.Key.TheVariants.{Request, Reference}
use Rattle.commands.specs.Keys.{key_of}
use Rattle.keepers.specs.declared.kept_answer.KeptAnswer.{KeptAnswer}
use Rattle.keepers.specs.declared.loaded.Redeemed.{Redeemed}
use Rattle.keepers.specs.Tables.{charge_in}
use Rattle.sql_rows.specs.Values.{Kept, Meta, reference_kind, request_kind}
use Rattle.sql_rows.specs.Content.{TablesContent, TableRows, with_answer, with_meta, with_rows}
use Rattle.sql_rows.specs.declared.head.HeadColumns.{HeadColumns}
use Rattle.sql_rules.specs.Ruled.{AreBeside, is_bucket_numbered, is_reached}
use Rattle.sql_keeper.specs.Content.{Names, is_numbered, is_reserved, kept_in, names_numbered}
use Rattle.sql_keeper.specs.Numbers.{first_bucket}
use Rattle.sql_keeper.specs.Tests.{AreNumbered, AreWritable, IsPeriodNamed, IsWritable, MayStand}
use Rattle.sql_keeper.specs.Tests.{are_buckets_numbered, first_moment, first_number}
use Rattle.sql_keeper.specs.RuledRows.{are_timely_sessions}
use Rattle.sql_keeper.specs.Tidy.{AreTidyRows, EndsTidy, IsTidy, are_terms, has_terms, is_key}
use Rattle.sql_keeper.specs.Writes.{AreTexts, columns_of, head_columns_of, names_held, with_kept}
use Rattle.sql_keeper.specs.Writes.{with_all_paid, with_redeemed, with_stored, with_texts}
use Rattle.sql_keeper.proofs.commits.Changed.{AreKeyed, may_at, over_stored, stored_over}
use Rattle.sql_keeper.proofs.puts.CountedPuts.{blocks_in, counted_in, counts_in, over_paid, paid_in}
use Rattle.sql_keeper.proofs.puts.CountedPuts.{paid_over}
use Rattle.sql_keeper.proofs.puts.Groups.{amount_at, amount_in, book_over, book_put}
use Rattle.sql_keeper.proofs.puts.Numbers.{begins, numbered_among, numbered_apart, numbered_on}
use Rattle.sql_keeper.proofs.puts.Numbers.{rises}
use Rattle.sql_keeper.proofs.puts.Overlays.{name_from, not_both, number_from, opened}

-- ---- the rows of an account

-- the rows may be put over those: a reservation is in an open session with the names of its
-- book's periods, and a charge that is numbered stays so
pub record MayBeOver (names : Names) (w : StoredRows) (r : TableRows) : Type 0 where
  pub live : (s : List ℕ) (g : ℕ) (x : SessionGroup) (y : Reservation)
      → group_in s g w.groups ≡ Some x → x.reservation ≡ Some y
      → is_open_row (first_of (session_in s w.sessions) (r.sessions s)) ≡ true
  pub before : (s : List ℕ) (g : ℕ) (x : SessionGroup) (y : Reservation)
      → group_in s g w.groups ≡ Some x → x.reservation ≡ Some y
      → IsPeriodNamed (names_numbered names y.terms.book) y.terms.periods.before
  pub after : (s : List ℕ) (g : ℕ) (x : SessionGroup) (y : Reservation)
      → group_in s g w.groups ≡ Some x → x.reservation ≡ Some y
      → IsPeriodNamed (names_numbered names y.terms.book) y.terms.periods.after
  pub numbers : (n : ℕ) → is_numbered n r.head ≡ true → is_numbered n (Some (head_columns_of w)) ≡
      true
  -- a bucket that is below the account's next number stays so, and one that is named is
  pub lower : (n : ℕ) → is_bucket_numbered n r.head ≡ true → nat_lt n w.next_bucket ≡ true
  pub named : (n : ℕ) (x : BucketRow) → bucket_in n w.buckets ≡ Some x →
      nat_lt n w.next_bucket ≡ true
  -- a moment that isn't after the account's stays so, and that of a session that is named isn't
  pub later : (t : ℕ) → is_reached t r.head ≡ true → nat_le t w.as_of ≡ true
  pub touched : (s : List ℕ) (x : Session) → session_in s w.sessions ≡ Some x →
      nat_le x.touched w.as_of ≡ true

-- a reservation stays in an open session, and a charge stays numbered
module _ (names : Names) (w : StoredRows) (r : TableRows) (b : AreBeside r)
    (ends : EndsTidy w r) (may : MayBeOver names w r) where
  live_after : (s : List ℕ) (g : ℕ)
      → is_reserved
      (first_of (option_map (columns_of names) (group_in s g w.groups)) (r.groups s g)) ≡ true
      → is_open_row (first_of (session_in s w.sessions) (r.sessions s)) ≡ true
  live_after s g = at (group_in s g w.groups) refl
    where
      put : (x : SessionGroup) (o : Option Reservation) → group_in s g w.groups ≡ Some x
          → x.reservation ≡ o → is_some (option_map (names_held names) o) ≡ true
          → is_open_row (first_of (session_in s w.sessions) (r.sessions s)) ≡ true
      put x None e f k = not_both (sym k)
      put x (Some y) e f k = may.live s g x y e f

      at : (o : Option SessionGroup) → group_in s g w.groups ≡ o
          → is_reserved (first_of (option_map (columns_of names) o) (r.groups s g)) ≡ true
          → is_open_row (first_of (session_in s w.sessions) (r.sessions s)) ≡ true
      at None e k = ends s g e k (b.live s g k)
      at (Some x) e k = put x x.reservation e refl k

  buckets_after : (n : ℕ) → is_some (counted_in (bucket_in n w.buckets) (r.buckets n)) ≡ true →
      nat_lt n w.next_bucket ≡ true
  buckets_after n = at (bucket_in n w.buckets) refl
    where
      at : (o : Option BucketRow) → bucket_in n w.buckets ≡ o →
          is_some (counted_in o (r.buckets n)) ≡ true → nat_lt n w.next_bucket ≡ true
      at None e k = may.lower n (b.buckets n k)
      at (Some x) e k = may.named n x e

  touched_after : (s : List ℕ) (x : Session)
      → first_of (session_in s w.sessions) (r.sessions s) ≡ Some x → is_open x.state ≡ true
      → nat_le x.touched w.as_of ≡ true
  touched_after s x = at (session_in s w.sessions) refl
    where
      at : (o : Option Session) → session_in s w.sessions ≡ o →
          first_of o (r.sessions s) ≡ Some x → is_open x.state ≡ true →
          nat_le x.touched w.as_of ≡ true
      at None e k on = may.later x.touched (b.touched s x k on)
      at (Some y) e k on = may.touched s x (e ∙ k)

  -- rule: rows-ruled.beside
  pub beside_stored : AreBeside (over_stored names w r)
  beside_stored = record {
    numbers = λ n k. may.numbers n (b.numbers n k);
    buckets = buckets_after;
    touched = touched_after;
    live = live_after;
  }

module _ (names : Names) (a : List ℕ) (w : StoredRows) (r : TableRows) (t : AreTidyRows names a r)
    (ends : EndsTidy w r) (may : MayBeOver names w r) where
  terms_after : (s : List ℕ) (g : ℕ)
      → has_terms names (book_over (group_in s g w.groups) (r.grant_books s g))
      (first_of (option_map (columns_of names) (group_in s g w.groups)) (r.groups s g)) ≡ true
  terms_after s g = at (group_in s g w.groups) refl
    where
      put : (x : SessionGroup) (o : Option Reservation) → group_in s g w.groups ≡ Some x
          → x.reservation ≡ o
          → are_terms names (book_put o) (option_map (names_held names) o) ≡ true
      put x None e f = refl
      put x (Some y) e f = rw (may.before s g x y e f, may.after s g x y e f) refl

      at : (o : Option SessionGroup) → group_in s g w.groups ≡ o
          → has_terms names (book_over o (r.grant_books s g))
          (first_of (option_map (columns_of names) o) (r.groups s g)) ≡ true
      at None e = t.terms s g
      at (Some x) e = put x x.reservation e refl

  books_after : (s : List ℕ) (g : ℕ)
      → is_some (book_over (group_in s g w.groups) (r.grant_books s g)) ≡ true
      → is_reserved
      (first_of (option_map (columns_of names) (group_in s g w.groups)) (r.groups s g)) ≡ true
  books_after s g = at (group_in s g w.groups)
    where
      put : (o : Option Reservation) → is_some (book_put o) ≡ true →
          is_some (option_map (names_held names) o) ≡ true
      put None k = k
      put (Some y) k = refl

      at : (o : Option SessionGroup) → is_some (book_over o (r.grant_books s g)) ≡ true →
          is_reserved (first_of (option_map (columns_of names) o) (r.groups s g)) ≡ true
      at None k = t.books s g k
      at (Some x) k = put x.reservation k

  holds_after : (s : List ℕ) (g n : ℕ)
      → is_some (amount_in n (group_in s g w.groups) (r.holds s g n)) ≡ true
      → is_reserved
      (first_of (option_map (columns_of names) (group_in s g w.groups)) (r.groups s g)) ≡ true
  holds_after s g n = at (group_in s g w.groups)
    where
      put : (o : Option Reservation) → is_some (amount_at n (holds_in o)) ≡ true →
          is_some (option_map (names_held names) o) ≡ true
      put None k = k
      put (Some y) k = refl

      at : (o : Option SessionGroup) → is_some (amount_in n o (r.holds s g n)) ≡ true →
          is_reserved (first_of (option_map (columns_of names) o) (r.groups s g)) ≡ true
      at None k = t.holds s g n k
      at (Some x) k = put x.reservation k

  kinds_after : (n : ℕ) → counts_in (bucket_in n w.buckets) (r.allowances n) ≡ true →
      is_some (counted_in (bucket_in n w.buckets) (r.buckets n)) ≡ true
  kinds_after n = at (bucket_in n w.buckets)
    where
      at : (o : Option BucketRow) → counts_in o (r.allowances n) ≡ true →
          is_some (counted_in o (r.buckets n)) ≡ true
      at None k = t.kinds n k
      at (Some b) k = refl

  pub tidy_stored : AreTidyRows names a (over_stored names w r)
  tidy_stored = record {
    beside = beside_stored names w r t.beside ends may;
    terms = terms_after;
    books = books_after;
    holds = holds_after;
    kinds = kinds_after;
    covered = t.covered;
    texts = t.texts;
  }

module _ (cs : List ChargeRow) (r : TableRows)
    (numbered : (n : ℕ) (x : ChargeRow) → charge_in n cs ≡ Some x → is_numbered n r.head ≡ true)
  where
    module _ (b : AreBeside r) where
      charges_after : (n : ℕ) → is_some (paid_in (charge_in n cs) (r.charges n)) ≡ true →
          is_numbered n r.head ≡ true
      charges_after n = at (charge_in n cs) refl
        where
          at : (o : Option ChargeRow) → charge_in n cs ≡ o
              → is_some (paid_in o (r.charges n)) ≡ true → is_numbered n r.head ≡ true
          at None e k = b.numbers n k
          at (Some x) e k = numbered n x e

      -- rule: rows-ruled.beside
      pub beside_paid : AreBeside (over_paid cs r)
      beside_paid = record {
        numbers = charges_after;
        buckets = b.buckets;
        touched = b.touched;
        live = b.live;
      }

    module _ (names : Names) (a : List ℕ) (t : AreTidyRows names a r) where
      covered_after : (n : ℕ) → is_some (blocks_in (charge_in n cs) (r.covered n)) ≡ true →
          is_some (paid_in (charge_in n cs) (r.charges n)) ≡ true
      covered_after n = at (charge_in n cs)
        where
          at : (o : Option ChargeRow) → is_some (blocks_in o (r.covered n)) ≡ true →
              is_some (paid_in o (r.charges n)) ≡ true
          at None k = t.covered n k
          at (Some x) k = refl

      pub tidy_paid : AreTidyRows names a (over_paid cs r)
      tidy_paid = record {
        beside = beside_paid t.beside;
        terms = t.terms;
        books = t.books;
        holds = t.holds;
        kinds = t.kinds;
        covered = covered_after;
        texts = t.texts;
      }

-- ---- texts that are kept

tidy_answer : (names : Names) (a : List ℕ) (kind : ℕ) (name : List ℕ) (number : ℕ) (k : Kept)
    (r : TableRows) → is_key kind number ≡ true → is_some (kept_in a k) ≡ true
    → AreTidyRows names a r → AreTidyRows names a (with_answer kind name number k r)
tidy_answer names a kind name number k r key told t = record {
  beside = record {
    numbers = t.beside.numbers;
    buckets = t.beside.buckets;
    touched = t.beside.touched;
    live = t.beside.live;
  };
  terms = t.terms;
  books = t.books;
  holds = t.holds;
  kinds = t.kinds;
  covered = t.covered;
  texts = λ l s m x e.
      at l s m x (nat_eq kind l) (same_name name s) (nat_eq number m) refl refl e;
}
  where
    at : (l : ℕ) (s : List ℕ) (m : ℕ) (x : Kept) (p q u : Bool) → nat_eq kind l ≡ p
        → nat_eq number m ≡ u
        → (if p && (q && u) then Some k else r.answers l s m) ≡ Some x
        → (is_key l m ≡ true) × (is_some (kept_in a x) ≡ true)
    at l s m x true true true f h e =
        let is : k ≡ x = cc e in (
          subst (λ i. is_key i m ≡ true) (number_from kind l f)
              (subst (λ i. is_key kind i ≡ true) (number_from number m h) key),
          subst (λ y. is_some (kept_in a y) ≡ true) is told,
        )
    at l s m x true true false f h e = t.texts l s m x e
    at l s m x true false u f h e = t.texts l s m x e
    at l s m x false q u f h e = t.texts l s m x e

-- ---- all accounts

module _ (P : List ℕ → TableRows → Type 0) (a : List ℕ) (f : TableRows → TableRows)
    (c : TablesContent) (own : P a (c.rows a) → P a (f (c.rows a)))
    (t : (x : List ℕ) → P x (c.rows x)) where
  pub each_at : (x : List ℕ) → P x (if same_name a x then f (c.rows x) else c.rows x)
  each_at x = at (same_name a x) refl
    where
      at : (b : Bool) → same_name a x ≡ b → P x (if b then f (c.rows x) else c.rows x)
      at true e = subst (λ y. P y (f (c.rows y))) (name_from a x e) (own (t a))
      at false e = t x

-- each row of each account is right beside the others
abbrev pub AreAllBeside : TablesContent → Type 0
AreAllBeside c = (x : List ℕ) → AreBeside (c.rows x)

beside_texts : (a : List ℕ) (key : Key) (k : Kept) (c : TablesContent) → AreAllBeside c
    → AreAllBeside (with_texts a key k c)
beside_texts a (Request s n) k c t =
    each_at (λ x. AreBeside) a (with_answer request_kind s n k) c
    (λ own. record {
      numbers = own.numbers;
      buckets = own.buckets;
      touched = own.touched;
      live = own.live;
    }) t
beside_texts a (Reference x) k c t =
    each_at (λ x. AreBeside) a (with_answer reference_kind x 0 k) c
    (λ own. record {
      numbers = own.numbers;
      buckets = own.buckets;
      touched = own.touched;
      live = own.live;
    }) t

beside_kept : (a : List ℕ) (kept : Option KeptAnswer) (texts : Option Kept) (c : TablesContent)
    → AreAllBeside c → AreAllBeside (with_kept a kept texts c)
beside_kept a None texts c t = t
beside_kept a (Some k) None c t = t
beside_kept a (Some k) (Some x) c t = beside_texts a (key_of k.content) x c t

beside_redeemed : (redeemed : Option Redeemed) (c : TablesContent) → AreAllBeside c
    → AreAllBeside (with_redeemed redeemed c)
beside_redeemed None c t = t
beside_redeemed (Some x) c t = t

pub tidy_texts : (names : Names) (a : List ℕ) (key : Key) (k : Kept) (c : TablesContent)
    → is_some (kept_in a k) ≡ true → IsTidy names c → IsTidy names (with_texts a key k c)
tidy_texts names a (Request s n) k c told t = record {
  there = t.there;
  once = t.once;
  rows = each_at (AreTidyRows names) a (with_answer request_kind s n k) c
      (tidy_answer names a request_kind s n k (c.rows a) refl told) t.rows;
}
tidy_texts names a (Reference x) k c told t = record {
  there = t.there;
  once = t.once;
  rows = each_at (AreTidyRows names) a (with_answer reference_kind x 0 k) c
      (tidy_answer names a reference_kind x 0 k (c.rows a) refl told) t.rows;
}

pub tidy_kept : (names : Names) (a : List ℕ) (kept : Option KeptAnswer) (texts : Option Kept)
    (c : TablesContent) → AreTexts a kept texts → IsTidy names c →
    IsTidy names (with_kept a kept texts c)
tidy_kept names a None texts c told t = t
tidy_kept names a (Some k) None c told t = t
tidy_kept names a (Some k) (Some x) c told t =
    tidy_texts names a (key_of k.content) x c (ap is_some told) t

pub tidy_redeemed : (names : Names) (redeemed : Option Redeemed) (c : TablesContent) →
    IsTidy names c →
    IsTidy names (with_redeemed redeemed c)
tidy_redeemed names None c t = t
tidy_redeemed names (Some x) c t = record { there = t.there; once = t.once; rows = t.rows }

pub tidy_meta : (names : Names) (m : Meta) (c : TablesContent) → IsTidy names c →
    IsTidy names (with_meta m c)
tidy_meta names m c t = record {
  there = refl;
  once = ap (λ b. if b then c.kept else c.kept + 1) t.there ∙ t.once;
  rows = t.rows;
}

pub tidy_opened : (names : Names) (a : List ℕ) (w : StoredRows) (c : TablesContent)
    → EndsTidy w (c.rows a) → MayBeOver names w (c.rows a) → IsTidy names c
    → IsTidy names (opened a (over_stored names w) c)
tidy_opened names a w c ends may t = record {
  there = t.there;
  once = t.once;
  rows = each_at (AreTidyRows names) a (over_stored names w) c
      (λ own. tidy_stored names a w (c.rows a) own ends may) t.rows;
}

pub tidy_charges : (names : Names) (a : List ℕ) (cs : List ChargeRow) (c : TablesContent)
    → ((n : ℕ) (x : ChargeRow) → charge_in n cs ≡ Some x → is_numbered n (c.rows a).head ≡ true)
    → IsTidy names c → IsTidy names (with_rows a (over_paid cs) c)
tidy_charges names a cs c numbered t = record {
  there = t.there;
  once = t.once;
  rows = each_at (AreTidyRows names) a (over_paid cs) c
      (λ own. tidy_paid cs (c.rows a) numbered names a own) t.rows;
}

-- ---- the numbers of buckets

lower_on : (n : ℕ) (o : Option HeadColumns) (next : ℕ) → nat_le (first_bucket o) next ≡ true
    → is_bucket_numbered n o ≡ true → nat_lt n next ≡ true
lower_on n None next e k = not_both (sym k)
lower_on n (Some h) next e k = grind (arith, nat_tests, e, k)

pub all_found : {A : Type 0} (test is : A → Bool) (xs : List A) (x : A) → list_all test xs ≡ true
    → find is xs ≡ Some x → (test x ≡ true) × (is x ≡ true)
all_found test is [] x all e = absurd (cc e)
all_found test is (y ∷ ys) x all e =
    let parts = and_parts (test y) (list_all test ys) all in
    at (is y) refl parts.0 (all_found test is ys x parts.1) e
  where
    at : (t : Bool) → is y ≡ t → test y ≡ true
        → (find is ys ≡ Some x → (test x ≡ true) × (is x ≡ true))
        → cond t (Some y) (find is ys) ≡ Some x → (test x ≡ true) × (is x ≡ true)
    at true f passed rest e =
        let same : y ≡ x = cc e in (
          subst (λ z. test z ≡ true) same passed,
          subst (λ z. is z ≡ true) same f,
        )
    at false f passed rest e = rest e

below_named : (n next : ℕ) (xs : List BucketRow) (x : BucketRow)
    → list_all (λ (b : BucketRow). nat_lt b.number next) xs ≡ true → bucket_in n xs ≡ Some x
    → nat_lt n next ≡ true
below_named n next xs x all e =
    let found = all_found (λ (b : BucketRow). nat_lt b.number next)
    (λ (b : BucketRow). nat_eq b.number n) xs x all e in
    subst (λ m. nat_lt m next ≡ true) (number_from x.number n found.1) found.0

-- ---- moments

later_on : (t : ℕ) (o : Option HeadColumns) (as_of : ℕ) → nat_le (first_moment o) as_of ≡ true
    → is_reached t o ≡ true → nat_le t as_of ≡ true
later_on t None as_of e k = not_both (sym k)
later_on t (Some h) as_of e k = grind (arith, nat_tests, e, k)

-- ---- all that is written of an account

module _ (names : Names) (a : List ℕ) (w : StoredRows) (cs : List ChargeRow)
    (kept : Option KeptAnswer) (texts : Option Kept) (redeemed : Option Redeemed) (m : Meta)
    (c : TablesContent) (sessions : List Session) (keyed : AreKeyed w)
    (may : AreWritable names sessions w.groups)
    (numbers : AreNumbered (first_number (c.rows a).head) w.next_charge cs)
    (told : AreTexts a kept texts) where
  -- where sessions that are open stay so, the buckets are numbered below the next number, and no
  -- session was touched after the account's moment, which doesn't fall
  pub may_be_over : are_buckets_numbered (first_bucket (c.rows a).head) w ≡ true
      → nat_le (first_moment (c.rows a).head) w.as_of ≡ true
      → are_timely_sessions w.as_of w.sessions ≡ true
      → ((s : List ℕ) → is_open_row (session_in s sessions) ≡ true
      → is_open_row (first_of (session_in s w.sessions) ((c.rows a).sessions s)) ≡ true)
      → MayBeOver names w (c.rows a)
  may_be_over below by timely stays = record {
    live = λ s g x y is has. stays s (stands s g x y is has).live;
    before = λ s g x y is has. (stands s g x y is has).before;
    after = λ s g x y is has. (stands s g x y is has).after;
    numbers = λ n is. numbered_on n (first_number (c.rows a).head) w.next_charge
        (is_numbered n (c.rows a).head) (begins n (c.rows a).head)
        (rises (first_number (c.rows a).head) w.next_charge cs numbers) is;
    lower = λ n is. lower_on n (c.rows a).head w.next_bucket parts.0 is;
    named = λ n x is. below_named n w.next_bucket w.buckets x parts.1 is;
    later = λ t is. later_on t (c.rows a).head w.as_of by is;
    touched = λ s x is. (all_found (λ (y : Session). nat_le y.touched w.as_of) (is_session s)
        w.sessions x timely is).0;
  }
    where
      parts : (nat_le (first_bucket (c.rows a).head) w.next_bucket ≡ true)
          × (list_all (λ (b : BucketRow). nat_lt b.number w.next_bucket) w.buckets ≡ true)
      parts = and_parts (nat_le (first_bucket (c.rows a).head) w.next_bucket)
          (list_all (λ (b : BucketRow). nat_lt b.number w.next_bucket) w.buckets) below

      stands : (s : List ℕ) (g : ℕ) (x : SessionGroup) (y : Reservation)
          → group_in s g w.groups ≡ Some x → x.reservation ≡ Some y
          → IsWritable names sessions s y
      stands s g x y is has = subst (MayStand names sessions s) has
          (may_at names sessions w.groups may s g x is)

  abbrev pub after_rows : TablesContent
  after_rows = opened a (over_stored names w) (with_meta m c)

  -- the head of the account is the one that was put
  head_is : after_rows.rows a ≡ over_stored names w (c.rows a)
  head_is = ap (λ b. if b then over_stored names w (c.rows a) else c.rows a) (name_itself a)

  pub written_is : with_all_paid a cs (with_stored a names w (with_meta m c))
      ≡ with_rows a (over_paid cs) after_rows
  written_is =
      paid_over a cs (with_stored a names w (with_meta m c))
      (numbered_apart (first_number (c.rows a).head) w.next_charge cs numbers)
      ∙ ap (with_rows a (over_paid cs))
      (stored_over a names sessions w (with_meta m c) keyed may)

  -- the charges are numbered on from the account's next number
  numbered : (n : ℕ) (x : ChargeRow) → charge_in n cs ≡ Some x
      → is_numbered n (after_rows.rows a).head ≡ true
  numbered n x is =
      subst (λ (r : TableRows). is_numbered n r.head ≡ true) (sym head_is)
      (numbered_among n (first_number (c.rows a).head) w.next_charge cs x numbers
      (begins n (c.rows a).head).first is)

  -- rule: rows-ruled.beside
  pub beside_written : EndsTidy w (c.rows a) → MayBeOver names w (c.rows a) → AreAllBeside c
      → AreAllBeside (with_redeemed redeemed (with_kept a kept texts
      (with_all_paid a cs (with_stored a names w (with_meta m c)))))
  beside_written ends put t =
      let rows : AreAllBeside after_rows =
      each_at (λ x. AreBeside) a (over_stored names w) (with_meta m c)
      (λ own. beside_stored names w (c.rows a) own ends put) t in
      let paid : AreAllBeside (with_rows a (over_paid cs) after_rows) =
      each_at (λ x. AreBeside) a (over_paid cs) after_rows
      (beside_paid cs (after_rows.rows a) numbered) rows in
      beside_redeemed redeemed _ (beside_kept a kept texts _
      (subst AreAllBeside (sym written_is) paid))

  pub tidy_written : EndsTidy w (c.rows a) → MayBeOver names w (c.rows a) → IsTidy names c
      → IsTidy names (with_redeemed redeemed (with_kept a kept texts
      (with_all_paid a cs (with_stored a names w (with_meta m c)))))
  tidy_written ends put t =
      let rows = tidy_opened names a w (with_meta m c) ends put (tidy_meta names m c t) in
      let paid = tidy_charges names a cs after_rows numbered rows in
      tidy_redeemed names redeemed _ (tidy_kept names a kept texts _ told
      (subst (IsTidy names) (sym written_is) paid))
