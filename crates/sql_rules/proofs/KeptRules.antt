-- What is put into content that is in its rules, or removed, leaves it so.
use Rattle.std.proofs.Common.{◌≡◌, ◌≤◌, ◌+◌, ℕ, List, Bool, true, false, ◌&&◌, Some, None}
use Rattle.std.proofs.Common.{Option, refl, subst, arith, eqb-true, nat_eq}
use Rattle.std.specs.Prelude.{if◌then◌else◌, is_some}
use Rattle.std.proofs.lemmas.Bool.{and_parts}
use Rattle.identifiers.specs.Texts.{same_name}
use Rattle.shelves.specs.Shelves.{Shelf, count}
use Rattle.buckets.specs.Row.{BucketRow}
use Rattle.reserving.specs.declared.session.Session.{Session}
use Rattle.reserving.specs.declared.session.Counter.{Counter}
use Rattle.ledger.specs.declared.charge.ChargeRow.{ChargeRow}
use Rattle.ledger.proofs.Holds.{same_from}
use Rattle.sql_rows.specs.declared.covered_rows.CoveredColumns.{CoveredColumns}
use Rattle.sql_rows.specs.declared.head.HeadColumns.{HeadColumns}
use Rattle.sql_rows.specs.declared.voucher_rows.VoucherColumns.{VoucherColumns}
use Rattle.sql_rows.specs.Content.{TablesContent, TableRows, with_account, with_allowance}
use Rattle.sql_rows.specs.Content.{with_answer}
use Rattle.sql_rows.specs.Content.{with_book_row}
use Rattle.sql_rows.specs.Content.{with_bucket, with_charge_row, with_counter_row, with_covered}
use Rattle.sql_rows.specs.Content.{with_grant_book, with_group_row, with_head, with_hold_row}
use Rattle.sql_rows.specs.Content.{with_meta}
use Rattle.sql_rows.specs.Content.{with_rows, with_session_row, with_voucher_row, without_allowance}
use Rattle.sql_rows.specs.Content.{without_covered, without_grant_book, without_holds}
use Rattle.sql_rows.specs.Values.{BookRow, Group, Kept, Meta}
use Rattle.sql_rules.specs.Columns.{is_moment, is_numbering, is_some_money, is_in_bounds}
use Rattle.sql_rules.specs.Columns.{are_some_blocks}
use Rattle.sql_rules.specs.Ruled.{AreInRules, IsInRulesBy, is_account, is_answer, is_book, is_bucket}
use Rattle.sql_rules.specs.Ruled.{is_charge, is_counter, is_group, is_session, is_voucher}

-- ---- one row among those that are there

module _ {X : Type 0} (P : X → Type 0) where
  chosen : (t : Bool) (x : X) (o : Option X) → (t ≡ true → P x) → ((y : X) → o ≡ Some y → P y)
      → (y : X) → (if t then Some x else o) ≡ Some y → P y
  chosen true x o new old y e = let is : x ≡ y = cc e in subst P is (new refl)
  chosen false x o new old y e = old y e

  left_out : (t : Bool) (o : Option X) → ((y : X) → o ≡ Some y → P y)
      → (y : X) → (if t then None else o) ≡ Some y → P y
  left_out true o old y e = absurd (cc e)
  left_out false o old y e = old y e

marked : (P : ℕ → Type 0) (n m : ℕ) (old : Bool) → P n → (old ≡ true → P m)
    → (if nat_eq n m then true else old) ≡ true → P m
marked P n m old new before = at (nat_eq n m) refl
  where
    at : (t : Bool) → nat_eq n m ≡ t → (if t then true else old) ≡ true → P m
    at true e h = subst P (eqb-true n m e) new
    at false e h = before h

unmarked : (P : ℕ → Type 0) (m : ℕ) (t old : Bool) → (old ≡ true → P m)
    → (if t then false else old) ≡ true → P m
unmarked P m true old before h = absurd (cc h)
unmarked P m false old before h = before h

-- ---- the rows of an account

module _ {last : ℕ} (shelf : Shelf) (a : List ℕ) (r : TableRows)
    (in' : AreInRules shelf last a r) where
  pub head_kept : (h : HeadColumns) → is_account a h ≡ true → h.as_of ≤ last
      → AreInRules shelf last a (with_head h r)
  head_kept h rule by = record {
    timely = record {
      head = λ g e. let is : h ≡ g = cc e in
          subst (λ (x : HeadColumns). x.as_of ≤ last) is by;
      sessions = in'.timely.sessions;
      charges = in'.timely.charges;
    };
    head = λ g e. let is : h ≡ g = cc e in subst (λ x. is_account a x ≡ true) is rule;
    buckets = in'.buckets;
    counters = in'.counters;
    sessions = in'.sessions;
    groups = in'.groups;
    holds = in'.holds;
    answers = in'.answers;
    charges = in'.charges;
    grant_books = in'.grant_books;
    allowances = in'.allowances;
    covered = in'.covered;
  }

  pub bucket_kept : (b : BucketRow) → is_bucket b ≡ true → AreInRules shelf last a (with_bucket b r)
  bucket_kept b rule = record {
    timely = record {
      head = in'.timely.head;
      sessions = in'.timely.sessions;
      charges = in'.timely.charges;
    };
    head = in'.head;
    buckets = λ n. chosen (λ x. is_bucket x ≡ true) (nat_eq b.number n) b (r.buckets n) (λ e. rule)
        (in'.buckets n);
    counters = in'.counters;
    sessions = in'.sessions;
    groups = in'.groups;
    holds = in'.holds;
    answers = in'.answers;
    charges = in'.charges;
    grant_books = in'.grant_books;
    allowances = in'.allowances;
    covered = in'.covered;
  }

  pub counter_kept : (k : Counter) → is_counter k ≡ true → AreInRules shelf last a (with_counter_row k r)
  counter_kept k rule = record {
    timely = record {
      head = in'.timely.head;
      sessions = in'.timely.sessions;
      charges = in'.timely.charges;
    };
    head = in'.head;
    buckets = in'.buckets;
    counters = λ g c. chosen (λ x. is_counter x ≡ true) (nat_eq k.group g && nat_eq k.cycle c) k
        (r.counters g c) (λ e. rule) (in'.counters g c);
    sessions = in'.sessions;
    groups = in'.groups;
    holds = in'.holds;
    answers = in'.answers;
    charges = in'.charges;
    grant_books = in'.grant_books;
    allowances = in'.allowances;
    covered = in'.covered;
  }

  pub session_kept : (x : Session) → is_session x ≡ true → x.touched ≤ last
      → AreInRules shelf last a (with_session_row x r)
  session_kept x rule by = record {
    timely = record {
      head = in'.timely.head;
      sessions = λ s. chosen (λ (y : Session). y.touched ≤ last) (same_name x.id s) x
          (r.sessions s) (λ e. by) (in'.timely.sessions s);
      charges = in'.timely.charges;
    };
    head = in'.head;
    buckets = in'.buckets;
    counters = in'.counters;
    sessions = λ s. chosen (λ y. is_session y ≡ true) (same_name x.id s) x (r.sessions s)
        (λ e. rule) (in'.sessions s);
    groups = in'.groups;
    holds = in'.holds;
    answers = in'.answers;
    charges = in'.charges;
    grant_books = in'.grant_books;
    allowances = in'.allowances;
    covered = in'.covered;
  }

  pub group_kept : (s : List ℕ) (g : ℕ) (x : Group) → is_group shelf g x ≡ true
      → AreInRules shelf last a (with_group_row s g x r)
  group_kept s g x rule = record {
    timely = record {
      head = in'.timely.head;
      sessions = in'.timely.sessions;
      charges = in'.timely.charges;
    };
    head = in'.head;
    buckets = in'.buckets;
    counters = in'.counters;
    sessions = in'.sessions;
    groups = λ t h. chosen (λ y. is_group shelf h y ≡ true) (same_name s t && nat_eq g h) x
        (r.groups t h)
        (λ e. subst (λ n. is_group shelf n x ≡ true)
        (eqb-true g h (and_parts (same_name s t) (nat_eq g h) e).1) rule)
        (in'.groups t h);
    holds = in'.holds;
    answers = in'.answers;
    charges = in'.charges;
    grant_books = in'.grant_books;
    allowances = in'.allowances;
    covered = in'.covered;
  }

  holds_put : (f : List ℕ → ℕ → ℕ → Option ℕ) →
      ((s : List ℕ) (g n y : ℕ) → f s g n ≡ Some y → is_some_money y ≡ true)
      → AreInRules shelf last a (record r { holds = f })
  holds_put f is = record {
    timely = record {
      head = in'.timely.head;
      sessions = in'.timely.sessions;
      charges = in'.timely.charges;
    };
    head = in'.head;
    buckets = in'.buckets;
    counters = in'.counters;
    sessions = in'.sessions;
    groups = in'.groups;
    holds = is;
    answers = in'.answers;
    charges = in'.charges;
    grant_books = in'.grant_books;
    allowances = in'.allowances;
    covered = in'.covered;
  }

  pub hold_kept : (s : List ℕ) (g n amount : ℕ) → is_some_money amount ≡ true
      → AreInRules shelf last a (with_hold_row s g n amount r)
  hold_kept s g n amount rule =
      holds_put _ (λ t h m. chosen (λ y. is_some_money y ≡ true)
      (same_name s t && (nat_eq g h && nat_eq n m)) amount (r.holds t h m) (λ e. rule)
      (in'.holds t h m))

  pub holds_gone : (s : List ℕ) (g : ℕ) → AreInRules shelf last a (without_holds s g r)
  holds_gone s g =
      holds_put _ (λ t h m. left_out (λ y. is_some_money y ≡ true) (same_name s t && nat_eq g h)
      (r.holds t h m) (in'.holds t h m))

  pub answer_kept : (kind : ℕ) (name : List ℕ) (number : ℕ) (k : Kept)
      → is_answer a kind name number k ≡ true
      → AreInRules shelf last a (with_answer kind name number k r)
  answer_kept kind name number k rule = record {
    timely = record {
      head = in'.timely.head;
      sessions = in'.timely.sessions;
      charges = in'.timely.charges;
    };
    head = in'.head;
    buckets = in'.buckets;
    counters = in'.counters;
    sessions = in'.sessions;
    groups = in'.groups;
    holds = in'.holds;
    answers = λ l t m. chosen (λ y. is_answer a l t m y ≡ true)
        (nat_eq kind l && (same_name name t && nat_eq number m)) k (r.answers l t m)
        (λ e.
        let first = and_parts (nat_eq kind l) (same_name name t && nat_eq number m) e in
        let rest = and_parts (same_name name t) (nat_eq number m) first.1 in
        subst (λ x. is_answer a x t m k ≡ true) (eqb-true kind l first.0)
        (subst (λ x. is_answer a kind x m k ≡ true) (same_from name t rest.0)
        (subst (λ x. is_answer a kind name x k ≡ true) (eqb-true number m rest.1) rule)))
        (in'.answers l t m);
    charges = in'.charges;
    grant_books = in'.grant_books;
    allowances = in'.allowances;
    covered = in'.covered;
  }

  pub charge_kept : (x : ChargeRow) → is_charge x ≡ true → x.moment ≤ last
      → AreInRules shelf last a (with_charge_row x r)
  charge_kept x rule by = record {
    timely = record {
      head = in'.timely.head;
      sessions = in'.timely.sessions;
      charges = λ n. chosen (λ (y : ChargeRow). y.moment ≤ last) (nat_eq x.number n) x
          (r.charges n) (λ e. by) (in'.timely.charges n);
    };
    head = in'.head;
    buckets = in'.buckets;
    counters = in'.counters;
    sessions = in'.sessions;
    groups = in'.groups;
    holds = in'.holds;
    answers = in'.answers;
    charges = λ n. chosen (λ y. is_charge y ≡ true) (nat_eq x.number n) x (r.charges n) (λ e. rule)
        (in'.charges n);
    grant_books = in'.grant_books;
    allowances = in'.allowances;
    covered = in'.covered;
  }

  grant_books_put : (f : List ℕ → ℕ → Option ℕ) →
      ((s : List ℕ) (g y : ℕ) → f s g ≡ Some y → is_in_bounds 1 (count shelf) y ≡ true)
      → AreInRules shelf last a (record r { grant_books = f })
  grant_books_put f is = record {
    timely = record {
      head = in'.timely.head;
      sessions = in'.timely.sessions;
      charges = in'.timely.charges;
    };
    head = in'.head;
    buckets = in'.buckets;
    counters = in'.counters;
    sessions = in'.sessions;
    groups = in'.groups;
    holds = in'.holds;
    answers = in'.answers;
    charges = in'.charges;
    grant_books = is;
    allowances = in'.allowances;
    covered = in'.covered;
  }

  pub grant_book_kept : (s : List ℕ) (g n : ℕ) → is_in_bounds 1 (count shelf) n ≡ true
      → AreInRules shelf last a (with_grant_book s g n r)
  grant_book_kept s g n rule =
      grant_books_put _ (λ t h. chosen (λ y. is_in_bounds 1 (count shelf) y ≡ true)
      (same_name s t && nat_eq g h) n (r.grant_books t h) (λ e. rule) (in'.grant_books t h))

  pub grant_book_gone : (s : List ℕ) (g : ℕ) → AreInRules shelf last a (without_grant_book s g r)
  grant_book_gone s g =
      grant_books_put _ (λ t h. left_out (λ y. is_in_bounds 1 (count shelf) y ≡ true)
      (same_name s t && nat_eq g h) (r.grant_books t h) (in'.grant_books t h))

  allowances_put : (f : ℕ → Bool) →
      ((n : ℕ) → f n ≡ true → is_numbering n ≡ true)
      → AreInRules shelf last a (record r { allowances = f })
  allowances_put f is = record {
    timely = record {
      head = in'.timely.head;
      sessions = in'.timely.sessions;
      charges = in'.timely.charges;
    };
    head = in'.head;
    buckets = in'.buckets;
    counters = in'.counters;
    sessions = in'.sessions;
    groups = in'.groups;
    holds = in'.holds;
    answers = in'.answers;
    charges = in'.charges;
    grant_books = in'.grant_books;
    allowances = is;
    covered = in'.covered;
  }

  pub allowance_kept : (n : ℕ) → is_numbering n ≡ true → AreInRules shelf last a (with_allowance n r)
  allowance_kept n rule =
      allowances_put _ (λ m. marked (λ x. is_numbering x ≡ true) n m (r.allowances m) rule
      (in'.allowances m))

  pub allowance_gone : (n : ℕ) → AreInRules shelf last a (without_allowance n r)
  allowance_gone n =
      allowances_put _ (λ m. unmarked (λ x. is_numbering x ≡ true) m (nat_eq n m) (r.allowances m)
      (in'.allowances m))

  covered_put : (f : ℕ → Option ℕ) →
      ((n y : ℕ) → f n ≡ Some y → are_some_blocks y ≡ true)
      → AreInRules shelf last a (record r { covered = f })
  covered_put f is = record {
    timely = record {
      head = in'.timely.head;
      sessions = in'.timely.sessions;
      charges = in'.timely.charges;
    };
    head = in'.head;
    buckets = in'.buckets;
    counters = in'.counters;
    sessions = in'.sessions;
    groups = in'.groups;
    holds = in'.holds;
    answers = in'.answers;
    charges = in'.charges;
    grant_books = in'.grant_books;
    allowances = in'.allowances;
    covered = is;
  }

  pub covered_kept : (x : CoveredColumns) → are_some_blocks x.blocks ≡ true
      → AreInRules shelf last a (with_covered x r)
  covered_kept x some =
      covered_put _ (λ n. chosen (λ y. are_some_blocks y ≡ true) (nat_eq x.number n) x.blocks
      (r.covered n) (λ e. some) (in'.covered n))

  pub covered_gone : (n : ℕ) → AreInRules shelf last a (without_covered n r)
  covered_gone n =
      covered_put _ (λ m. left_out (λ y. are_some_blocks y ≡ true) (nat_eq n m) (r.covered m)
      (in'.covered m))

-- ---- the content

module _ {last : ℕ} (shelf : Shelf) (c : TablesContent) (in' : IsInRulesBy shelf last c) where
  -- of one account
  rows_at : (a : List ℕ) (f : TableRows → TableRows) → AreInRules shelf last a (f (c.rows a)) →
      (x : List ℕ)
      → AreInRules shelf last x (if same_name a x then f (c.rows x) else c.rows x)
  rows_at a f own x = at (same_name a x) refl
    where
      at : (t : Bool) → same_name a x ≡ t →
          AreInRules shelf last x (if t then f (c.rows x) else c.rows x)
      at true e = subst (λ y. AreInRules shelf last y (f (c.rows y))) (same_from a x e) own
      at false e = in'.rows x

  pub rows_kept : (a : List ℕ) (f : TableRows → TableRows) → AreInRules shelf last a (f (c.rows a))
      → IsInRulesBy shelf last (with_rows a f c)
  rows_kept a f own = record {
    once = in'.once;
    meta = in'.meta;
    rows = rows_at a f own;
    vouchers = in'.vouchers;
    books = in'.books;
  }

  pub account_kept : (a : List ℕ) (h : HeadColumns) → is_account a h ≡ true → h.as_of ≤ last
      → IsInRulesBy shelf last (with_account a h c)
  account_kept a h rule by = record {
    once = in'.once;
    meta = in'.meta;
    rows = rows_at a (with_head h) (head_kept shelf a (c.rows a) (in'.rows a) h rule by);
    vouchers = in'.vouchers;
    books = in'.books;
  }

  once_still : (t : Bool) → (t ≡ false → c.kept ≡ 0) → (if t then c.kept else c.kept + 1) ≤ 1
  once_still true none = in'.once
  once_still false none = let is : c.kept ≡ 0 = none refl in omega (arith, is)

  -- where there is none under the id, there is none
  pub meta_kept : (m : Meta) → is_moment m.last ≡ true → (is_some c.meta ≡ false → c.kept ≡ 0)
      → IsInRulesBy shelf last (with_meta m c)
  meta_kept m rule none = record {
    once = once_still (is_some c.meta) none;
    meta = λ x e. let is : m ≡ x = cc e in
        subst (λ (y : Meta). is_moment y.last ≡ true) is rule;
    rows = in'.rows;
    vouchers = in'.vouchers;
    books = in'.books;
  }

  pub voucher_kept : (code : List ℕ) (x : VoucherColumns) → is_voucher code x ≡ true
      → IsInRulesBy shelf last (with_voucher_row code x c)
  voucher_kept code x rule = record {
    once = in'.once;
    meta = in'.meta;
    rows = in'.rows;
    vouchers = λ k. chosen (λ y. is_voucher k y ≡ true) (same_name code k) x (c.vouchers k)
        (λ e. subst (λ t. is_voucher t x ≡ true) (same_from code k e) rule) (in'.vouchers k);
    books = in'.books;
  }

  pub book_kept : (n : ℕ) (x : BookRow) → is_book n x ≡ true → IsInRulesBy shelf last (with_book_row n x c)
  book_kept n x rule = record {
    once = in'.once;
    meta = in'.meta;
    rows = in'.rows;
    vouchers = in'.vouchers;
    books = λ m. chosen (λ y. is_book m y ≡ true) (nat_eq n m) x (c.books m)
        (λ e. subst (λ t. is_book t x ≡ true) (eqb-true n m e) rule) (in'.books m);
  }

-- ---- a later moment

later_rows : (shelf : Shelf) (last t : ℕ) (a : List ℕ) (r : TableRows) → last ≤ t
    → AreInRules shelf last a r → AreInRules shelf t a r
later_rows shelf last t a r on in' = record {
  timely = record {
    head = λ h e. let by : h.as_of ≤ last = in'.timely.head h e in omega (arith, on, by);
    sessions = λ s x e. let by : x.touched ≤ last = in'.timely.sessions s x e in
        omega (arith, on, by);
    charges = λ n x e. let by : x.moment ≤ last = in'.timely.charges n x e in
        omega (arith, on, by);
  };
  head = in'.head;
  buckets = in'.buckets;
  counters = in'.counters;
  sessions = in'.sessions;
  groups = in'.groups;
  holds = in'.holds;
  answers = in'.answers;
  charges = in'.charges;
  grant_books = in'.grant_books;
  allowances = in'.allowances;
  covered = in'.covered;
}

-- what isn't after a moment isn't after a later one
-- rule: rows-ruled.timely
pub later_kept : (shelf : Shelf) (last t : ℕ) (c : TablesContent) → last ≤ t
    → IsInRulesBy shelf last c → IsInRulesBy shelf t c
later_kept shelf last t c on in' = record {
  once = in'.once;
  meta = in'.meta;
  rows = λ a. later_rows shelf last t a (c.rows a) on (in'.rows a);
  vouchers = in'.vouchers;
  books = in'.books;
}
