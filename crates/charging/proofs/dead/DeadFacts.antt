-- What is dead at a moment stays as it is, fact by fact.
use Rattle.std.proofs.Common.{◌≡◌, ◌≢◌, ℕ, ◌+◌, ◌-◌, ◌≤◌, ◌<◌, Bool, true, false, true≢false, List}
use Rattle.std.proofs.Common.{[], ◌∷◌, ◌++◌, map, refl, sym, ap, subst, ◌∙◌, arith, Option, Some}
use Rattle.std.proofs.Common.{None}
use Rattle.std.specs.Prelude.{if◌then◌else◌, ◌==◌, ◌&&◌, ◌||◌, not, nat_lt, IfSome}
use Rattle.std.proofs.lemmas.Bool.{and_parts, and_from}
use Rattle.std.proofs.lemmas.Bool.Decides.{nat_tests}
use Rattle.std.proofs.lemmas.List.Sums.{sum_by-cons}
use Rattle.buckets.specs.declared.holds.HeldAmount.{HeldAmount}
use Rattle.buckets.specs.declared.kind.BucketKind.{BucketKind}
use Rattle.buckets.specs.declared.kind.Due.{Due}
use Rattle.buckets.specs.Row.{BucketRow, new_row, is_eligible, eligible_amount}
use Rattle.buckets.specs.Share.{share, parts}
use Rattle.buckets.specs.Spend.{Each, inserted}
use Rattle.buckets.specs.Holding.{held_in, unheld, paid, holds_of}
use Rattle.buckets.proofs.Kept.{Each-inserted}
use Rattle.units.specs.declared.blocks.UsedPart.{UsedPart}
use Rattle.shelves.specs.Shelves.{Shelf}
use Rattle.ledger.specs.Ledger.{Fact, Ledger, is_same, or_else}
use Rattle.ledger.specs.Parts.{touch_in, recording_in, closes}
use Rattle.ledger.specs.Parts.{units_in, names_group, charge_to, credits_in, hold_of}
use Rattle.ledger.specs.Ledger.{charged, next_bucket, used, last_touch}
use Rattle.ledger.specs.Parts.{counts_before, is_within}
use Rattle.ledger.specs.Ledger.{is_closed, is_live, last_recording, held, only, has_group, Counts}
use Rattle.ledger.specs.Ledger.{GrantOf, HoldOf, EndOf, UseOf, ChargeOf, RequestOf}
use Rattle.ledger.specs.Ledger.{counts as counts_of, number_of, test_of}
use Rattle.ledger.specs.Parts.{paid_by, units_by}
use Rattle.ledger.specs.Parts.{holds_by, but_ended, ends_of, touched_at, recorded_at}
use Rattle.ledger.specs.Ledger.Fact.{Credit, Grant, Hold, End, Use, Charge, Touch, Close, Recorded}
use Rattle.ledger.specs.Ledger.Fact.{Barred}
use Rattle.ledger.specs.Balance.{with_credit, credited_by, credits, bucket_at, buckets_at, holds_at}
use Rattle.ledger.specs.Pricing.{validity_of}
use Rattle.reserving.specs.Left.{bucket_in}
use Rattle.ledger.specs.Lists.{EachIn}
use Rattle.ledger.specs.Requests.{credited}
use Rattle.ledger.specs.Settlement.{charge_facts, use_of, settled_by, report_price, due_of}
use Rattle.ledger.specs.Reservation.{grant_at, hold_for, hold_facts}
use Rattle.ledger.specs.Debiting.{debited, rest_price}
use Rattle.reserving.proofs.Keys.{same_number}
use Rattle.ledger.proofs.Holds.{same_from}
use Rattle.reserving.proofs.Counted.{is_named}
use Rattle.charging.proofs.steps.StepsAt.{KeepsAt}

-- ---- rows

each_weaker : (P Q : BucketRow → Type 0) (rows : List BucketRow) → ((b : BucketRow) → P b → Q b) →
    Each P rows →
    Each Q rows
each_weaker P Q [] f h = tt
each_weaker P Q (b ∷ bs) f h = (f b h.0, each_weaker P Q bs f h.1)

-- a bucket of another number hides none
found_inserted : (n : ℕ) (b : BucketRow) (rows : List BucketRow) → (b.number == n) ≡ false →
    bucket_in n (inserted b rows) ≡ bucket_in n rows
found_inserted n b [] e = ap (λ y. if y then Some b else None) e
found_inserted n b (x ∷ xs) e = at (nat_lt b.until x.until) (found_inserted n b xs e)
  where
    at : (v : Bool) → bucket_in n (inserted b xs) ≡ bucket_in n xs →
        bucket_in n (if v then b ∷ x ∷ xs else x ∷ inserted b xs) ≡ bucket_in n (x ∷ xs)
    at true rest = ap (λ y. if y then Some b else bucket_in n (x ∷ xs)) e
    at false rest = ap (λ o. if x.number == n then Some x else o) rest

share_none : (f : BucketRow → ℕ) (rows : List BucketRow) (due : Due) (b : BucketRow) → f b ≡ 0 →
    share f rows due b ≡ 0
share_none f rows due b e = omega (arith, e)

if_none : (x : Bool) (n : ℕ) → n ≡ 0 → (if x then n else 0) ≡ 0
if_none true n e = e
if_none false n e = refl

held_in_none : (holds : List HeldAmount) (n : ℕ) (b : BucketRow) → b.number ≡ n →
    EachIn (λ h. (h.bucket == n) ≡ false) holds → held_in holds b ≡ 0
held_in_none [] n b e h = refl
held_in_none (x ∷ xs) n b e h =
    let one : (if x.bucket == b.number then x.amount else 0) ≡ 0 =
    (λ i. if x.bucket == e i then x.amount else 0) ∙ ap (λ y. if y then x.amount else 0) h.0 in
    omega (
      arith,
      sum_by-cons (λ (y : HeldAmount). if y.bucket == b.number then y.amount else 0) x xs,
      one,
      held_in_none xs n b e h.1,
    )

sooner : (a t u : ℕ) → a ≤ t → nat_lt t u ≡ true → nat_lt a u ≡ true
sooner a t u le e = grind (arith, nat_tests, le, e)

another : (m n : ℕ) → n < m → (m == n) ≡ false
another m n lt = grind (arith, nat_tests, lt)

-- what has an amount where none has this number's isn't of it
not_of : (m n a : ℕ) → nat_lt 0 a ≡ true → (m ≡ n → a ≡ 0) → (m == n) ≡ false
not_of m n a some none = at (m == n) refl
  where
    at : (x : Bool) → (m == n) ≡ x → (m == n) ≡ false
    at true e =
        absurd (true≢false (sym some ∙ ap (λ y. nat_lt 0 y) (none (same_number m n e))))
    at false e = e

held_not : (c : Bool) (a : ℕ) → (if c && false then a else 0) ≡ 0
held_not true a = refl
held_not false a = refl

module _ (v : ℕ → ℕ) (from : ℕ) (old : Ledger) where
  -- ---- what is dead

  -- a session that is over at the moment, or was never opened
  pub record IsOver (s : List ℕ) : Type 0 where
    pub known : last_recording s old ≡ None → ⊥
    pub over : is_live v from old s ≡ false

  -- sessions that are over don't count
  abbrev pub Excludes : (List ℕ → ℕ → Bool) → Type 0
  Excludes counts = (s : List ℕ) (g : ℕ) → IsOver s → counts s g ≡ false

  -- a bucket of the number has nothing left
  abbrev pub IsUsedUp : ℕ → BucketRow → Type 0
  IsUsedUp n c = c.number ≡ n → nat_lt from c.until ≡ true → c.credited - charged n old ≡ 0

  pub record IsDeadNumber (n : ℕ) : Type 0 where
    pub spent : Each (IsUsedUp n) (credits old)
    pub free : (counts : List ℕ → ℕ → Bool) → Excludes counts → held counts n old ≡ 0
    pub made : n < next_bucket old

  -- ---- what stays

  pub record SameSession (s : List ℕ) (ledger : Ledger) : Type 0 where
    pub recorded : last_recording s ledger ≡ last_recording s old
    pub touched : last_touch s ledger ≡ last_touch s old
    pub closed : is_closed s ledger ≡ is_closed s old
    pub uses : (g : ℕ) → used s g ledger ≡ used s g old
    pub groups : (g : ℕ) → has_group s g ledger ≡ has_group s g old

  pub record SameBucket (n : ℕ) (ledger : Ledger) : Type 0 where
    pub row : bucket_in n (credits ledger) ≡ bucket_in n (credits old)
    pub charge : charged n ledger ≡ charged n old
    pub spent : Each (IsUsedUp n) (credits ledger)
    pub free : (counts : List ℕ → ℕ → Bool) → Excludes counts → held counts n ledger ≡ 0
    pub made : n < next_bucket ledger

  pub record Stays (ledger : Ledger) : Type 0 where
    pub sessions : (s : List ℕ) → IsOver s → SameSession s ledger
    pub buckets : (n : ℕ) → IsDeadNumber n → SameBucket n ledger

  pub stays_itself : Stays old
  stays_itself = record {
    sessions = λ s o. record {
      recorded = refl;
      touched = refl;
      closed = refl;
      uses = λ g. refl;
      groups = λ g. refl;
    };
    buckets = λ n d. record {
      row = refl;
      charge = refl;
      spent = d.spent;
      free = d.free;
      made = d.made;
    };
  }

  -- ---- a fact of another session

  abbrev IsApart : List ℕ → Counts → Type 0
  IsApart s c =
      IfSome c.usage (λ u. is_same u.session s ≡ false)
      × IfSome c.grant (λ x. is_same x.session s ≡ false)
      × IfSome c.touch (λ x. is_same x s ≡ false)
      × IfSome c.close (λ x. is_same x s ≡ false)
      × IfSome c.request (λ r. is_same r.session s ≡ false)

  record IsElsewhere (s : List ℕ) (t : ℕ) (f : Fact) : Type 0 where
    touching : touch_in s (record { at = t; fact = f }) ≡ None
    recording : recording_in s (record { at = t; fact = f }) ≡ None
    closing : closes s f ≡ false
    using : (g : ℕ) → units_in s g f ≡ 0
    naming : (g : ℕ) → names_group s g f ≡ false

  elsewhere : (s : List ℕ) (t : ℕ) (f : Fact) → IsApart s (counts_of f) → IsElsewhere s t f
  elsewhere s t f e = record {
    touching = touching (counts_of f).touch e.2;
    recording = recording (counts_of f).request e.4;
    closing = closing (counts_of f).close e.3;
    using = λ g. using g (counts_of f).usage e.0;
    naming = λ g. naming g (counts_of f).usage (counts_of f).grant e.0 e.1;
  }
    where
      touching : (o : Option (List ℕ)) → IfSome o (λ x. is_same x s ≡ false) →
          touched_at s t o ≡ None
      touching None k = refl
      touching (Some x) k = ap (λ y. if y then Some t else None) k

      recording : (o : Option RequestOf) → IfSome o (λ r. is_same r.session s ≡ false) →
          recorded_at s t o ≡ None
      recording None k = refl
      recording (Some r) k =
          ap (λ y. if y then Some (record { number = r.number; at = t }) else None) k

      closing : (o : Option (List ℕ)) → IfSome o (λ x. is_same x s ≡ false) →
          test_of (λ x. is_same x s) o ≡ false
      closing None k = refl
      closing (Some x) k = k

      using : (g : ℕ) (o : Option UseOf) → IfSome o (λ u. is_same u.session s ≡ false) →
          number_of (units_by s g) o ≡ 0
      using g None k = refl
      using g (Some u) k = ap (λ y. if y && u.group == g then u.units else 0) k

      naming : (g : ℕ) (o : Option UseOf) (x : Option GrantOf) →
          IfSome o (λ u. is_same u.session s ≡ false) →
          IfSome x (λ y. is_same y.session s ≡ false) → is_named s g o x ≡ false
      naming g None None k l = refl
      naming g (Some u) None k l = ap (λ y. y && u.group == g) k
      naming g None (Some x) k l = ap (λ y. y && x.group == g) l
      naming g (Some u) (Some x) k l =
          λ i. (k i && u.group == g) || (l i && x.group == g)

  session_front : (s : List ℕ) (t : ℕ) (f : Fact) (ledger : Ledger) → IsElsewhere s t f →
      SameSession s ledger → SameSession s (record { at = t; fact = f } ∷ ledger)
  session_front s t f ledger e h = record {
    recorded = ap (λ o. or_else o (last_recording s ledger)) e.recording ∙ h.recorded;
    touched = ap (λ o. or_else o (last_touch s ledger)) e.touching ∙ h.touched;
    closed = ap (λ x. x || is_closed s ledger) e.closing ∙ h.closed;
    uses = λ g. omega (arith, e.using g, h.uses g);
    groups = λ g. ap (λ x. x || has_group s g ledger) (e.naming g) ∙ h.groups g;
  }

  -- ---- a fact of another bucket

  abbrev IsFree : ℕ → Counts → Type 0
  IsFree n c =
      (c.credit ≡ None)
      × IfSome c.charge (λ x. (x.bucket == n) ≡ false)
      × IfSome c.hold (λ x. (x.bucket == n) ≡ false)

  record IsNoMoney (n : ℕ) (f : Fact) : Type 0 where
    rows : (rows : List BucketRow) → credited_by f rows ≡ rows
    none : credits_in f ≡ 0
    charging : charge_to n f ≡ 0
    holding : (counts : List ℕ → ℕ → Bool) → hold_of counts n f ≡ 0
    before : (counts : List ℕ → ℕ → Bool) → Excludes counts → Excludes (counts_before f counts)

  no_money : (n : ℕ) (f : Fact) → IsFree n (counts_of f) → IsNoMoney n f
  no_money n f e = record {
    rows = λ r i. with_credit (e.0 i) r;
    none = ap (number_of (λ c. 1)) e.0;
    charging = charging (counts_of f).charge e.1;
    holding = λ p. holding p (counts_of f).hold e.2;
    before = λ p. before p (counts_of f).end;
  }
    where
      charging : (o : Option ChargeOf) → IfSome o (λ x. (x.bucket == n) ≡ false) →
          number_of (paid_by n) o ≡ 0
      charging None k = refl
      charging (Some x) k = ap (λ y. if y then x.amount else 0) k

      holding : (p : List ℕ → ℕ → Bool) (o : Option HoldOf) →
          IfSome o (λ x. (x.bucket == n) ≡ false) → number_of (holds_by p n) o ≡ 0
      holding p None k = refl
      holding p (Some x) k =
          ap (λ y. if p x.session x.group && y then x.amount else 0) k
          ∙ held_not (p x.session x.group) x.amount

      before : (p : List ℕ → ℕ → Bool) (o : Option EndOf) → Excludes p →
          Excludes (but_ended o p)
      before p None h = h
      before p (Some x) h = λ z g o. ap (λ y. y && not (ends_of z g x)) (h z g o)

  bucket_front : (n t : ℕ) (f : Fact) (ledger : Ledger) → IsNoMoney n f → SameBucket n ledger →
      SameBucket n (record { at = t; fact = f } ∷ ledger)
  bucket_front n t f ledger e h = record {
    row = ap (bucket_in n) (e.rows (credits ledger)) ∙ h.row;
    charge = omega (arith, e.charging, h.charge);
    spent = subst (Each (IsUsedUp n)) (sym (e.rows (credits ledger))) h.spent;
    free = λ counts x. omega (
      arith,
      e.holding counts,
      h.free (counts_before f counts) (e.before counts x),
    );
    made = omega (arith, e.none, h.made);
  }

  -- ---- a fact of neither

  stays_front : (t : ℕ) (f : Fact) (ledger : Ledger) →
      ((s : List ℕ) → IsOver s → IsApart s (counts_of f)) →
      ((n : ℕ) → IsDeadNumber n → IsFree n (counts_of f)) → Stays ledger →
      Stays (record { at = t; fact = f } ∷ ledger)
  stays_front t f ledger apart free h = record {
    sessions = λ s o. session_front s t f ledger (elsewhere s t f (apart s o)) (h.sessions s o);
    buckets = λ n d. bucket_front n t f ledger (no_money n f (free n d)) (h.buckets n d);
  }

  -- ---- sessions that may act

  abbrev pub May : List ℕ → Type 0
  May s = IsOver s → ⊥

  apart : (x s : List ℕ) → May x → IsOver s → is_same x s ≡ false
  apart x s may o = at (is_same x s) refl
    where
      at : (y : Bool) → is_same x s ≡ y → is_same x s ≡ false
      at true e = absurd (may (subst IsOver (sym (same_from x s e)) o))
      at false e = e

  apart_from : (s x : List ℕ) → May x → IsOver s → is_same s x ≡ false
  apart_from s x may o = at (is_same s x) refl
    where
      at : (y : Bool) → is_same s x ≡ y → is_same s x ≡ false
      at true e = absurd (may (subst IsOver (same_from s x e) o))
      at false e = e

  -- what is over stays over
  pub ended_then : (u : ℕ) (s : List ℕ) (ledger : Ledger) → from ≤ u → SameSession s ledger →
      is_live v from old s ≡ false → is_live v u ledger s ≡ false
  ended_then u s ledger le same o = at (is_live v u ledger s) refl
    where
      within : (x : Option ℕ) → is_within v u x ≡ true → is_within v from x ≡ true
      within None e = e
      within (Some x) e = sooner from u _ le e

      at : (y : Bool) → is_live v u ledger s ≡ y → is_live v u ledger s ≡ false
      at true e =
          let both = and_parts (is_within v u (last_touch s old)) (not (is_closed s old))
          ((λ i. is_within v u (sym same.touched i) && not (sym same.closed i)) ∙ e) in
          absurd (true≢false (sym (and_from (is_within v from (last_touch s old))
          (not (is_closed s old)) (within (last_touch s old) both.0) both.1) ∙ o))
      at false e = e

  -- ---- buckets that have nothing

  abbrev HasNone : (BucketRow → ℕ) → ℕ → List BucketRow → Type 0
  HasNone f n rows = Each (λ b. b.number ≡ n → f b ≡ 0) rows

  available_none : (t n : ℕ) (ledger : Ledger) (cs : List BucketRow) → from ≤ t →
      charged n ledger ≡ charged n old → Each (IsUsedUp n) cs →
      HasNone (λ b. b.available) n (map (bucket_at v t ledger) cs)
  available_none t n ledger [] le same h = tt
  available_none t n ledger (c ∷ cs) le same h =
      (λ e. one e (nat_lt t c.until) refl, available_none t n ledger cs le same h.1)
    where
      reserved_of : ℕ
      reserved_of = held (λ s g. is_live v t ledger s) c.number ledger

      one : c.number ≡ n → (x : Bool) → nat_lt t c.until ≡ x →
          (if x then c.credited - charged c.number ledger - reserved_of else 0) ≡ 0
      one e true k =
          let left : c.credited - charged n old ≡ 0 = h.0 e (sooner from t c.until le k) in
          let number : charged c.number ledger ≡ charged n ledger =
          ap (λ m. charged m ledger) e in
          omega (arith, left, number, same)
      one e false k = refl

  rows_none : (t n : ℕ) (ledger : Ledger) → from ≤ t → SameBucket n ledger →
      HasNone (λ b. b.available) n (buckets_at v t ledger)
  rows_none t n ledger le h =
      available_none t n ledger (credits ledger) le h.charge h.spent

  -- so nothing of them is eligible
  share_of_none : (t n g : ℕ) (rows all : List BucketRow) (due : Due) →
      HasNone (λ b. b.available) n rows →
      HasNone (share (eligible_amount g t) all due) n rows
  share_of_none t n g rows all due h =
      each_weaker (λ b. b.number ≡ n → b.available ≡ 0)
      (λ b. b.number ≡ n → share (eligible_amount g t) all due b ≡ 0) rows
      (λ b none e. share_none (eligible_amount g t) all due b
      (if_none (is_eligible g t b) b.available (none e))) h

  -- ---- parts of what isn't dead

  abbrev AreFree : List HeldAmount → Type 0
  AreFree holds = EachIn (λ h. (n : ℕ) → IsDeadNumber n → (h.bucket == n) ≡ false) holds

  free_parts : (f : BucketRow → ℕ) (rows : List BucketRow) →
      ((n : ℕ) → IsDeadNumber n → HasNone f n rows) → AreFree (parts f rows)
  free_parts f [] h = tt
  free_parts f (b ∷ bs) h =
      at (nat_lt 0 (f b)) refl (free_parts f bs (λ n d. (h n d).1))
    where
      at : (x : Bool) → nat_lt 0 (f b) ≡ x → AreFree (parts f bs) →
          AreFree (if x then record { bucket = b.number; amount = f b } ∷ parts f bs
          else parts f bs)
      at true e rest = (λ n d. not_of b.number n (f b) e ((h n d).0), rest)
      at false e rest = rest

  free_of : (holds : List HeldAmount) (n : ℕ) → IsDeadNumber n → AreFree holds →
      EachIn (λ h. (h.bucket == n) ≡ false) holds
  free_of [] n d h = tt
  free_of (x ∷ xs) n d h = (h.0 n d, free_of xs n d h.1)

  -- ---- charges and holds of what isn't dead

  stays_charges : (t : ℕ) (hs : List HeldAmount) (ledger : Ledger) → AreFree hs → Stays ledger →
      Stays (charge_facts t hs ++ ledger)
  stays_charges t [] ledger f h = h
  stays_charges t (x ∷ xs) ledger f h =
      stays_front t (Charge x.bucket x.amount) (charge_facts t xs ++ ledger)
      (λ s o. (tt, tt, tt, tt, tt))
      (λ n d. (refl, f.0 n d, tt))
      (stays_charges t xs ledger f.1 h)

  stays_holds : (t : ℕ) (s : List ℕ) (g : ℕ) (hs : List HeldAmount) (ledger : Ledger) → AreFree hs →
      Stays ledger → Stays (hold_facts t s g hs ++ ledger)
  stays_holds t s g [] ledger f h = h
  stays_holds t s g (x ∷ xs) ledger f h =
      stays_front t (Hold (hold_for s g x)) (hold_facts t s g xs ++ ledger)
      (λ y o. (tt, tt, tt, tt, tt))
      (λ n d. (refl, tt, f.0 n d))
      (stays_holds t s g xs ledger f.1 h)

  -- what is paid by a session that may act
  free_payments : (t : ℕ) (g : ℕ) (due : Due) (holds : List HeldAmount) (ledger : Ledger) →
      from ≤ t →
      AreFree holds → Stays ledger →
      AreFree (parts (paid holds g t due (buckets_at v t ledger)) (buckets_at v t ledger))
  free_payments t g due holds ledger le free h =
      free_parts (paid holds g t due rows) rows (λ n d. none n d)
    where
      rows : List BucketRow
      rows = buckets_at v t ledger

      none : (n : ℕ) → IsDeadNumber n → HasNone (paid holds g t due rows) n rows
      none n d =
          each_weaker (λ b. b.number ≡ n → b.available ≡ 0)
          (λ b. b.number ≡ n → paid holds g t due rows b ≡ 0) rows
          (λ b left e. omega (
            arith,
            share_none (held_in holds) rows due b (held_in_none holds n b e
                (free_of holds n d free)),
            share_none (eligible_amount g t) rows (unheld holds due rows) b
                (if_none (is_eligible g t b) b.available (left e)),
          ))
          (rows_none t n ledger le (h.buckets n d))

  free_reservation : (t : ℕ) (s : List ℕ) (g : ℕ) (ledger : Ledger) → May s → Stays ledger →
      AreFree (holds_at v t s g ledger)
  free_reservation t s g ledger may h =
      free_parts (λ b. held (only s g) b.number ledger) (buckets_at v t ledger)
      (λ n d. each n d (buckets_at v t ledger))
    where
      each : (n : ℕ) → IsDeadNumber n → (rows : List BucketRow) →
          HasNone (λ b. held (only s g) b.number ledger) n rows
      each n d [] = tt
      each n d (b ∷ bs) = (
        λ e. ap (λ m. held (only s g) m ledger) e
            ∙ (h.buckets n d).free (only s g)
            (λ x y o. ap (λ z. z && y == g) (apart_from x s may o)),
        each n d bs,
      )

  -- ---- a credit

  stays_credited : (t : ℕ) (kind : BucketKind) (begin until : ℕ) (scope : Option ℕ)
      (amount : ℕ) (ledger : Ledger) → Stays ledger →
      Stays (credited t kind begin until scope amount ledger)
  stays_credited t kind begin until scope amount ledger h = record {
    sessions = λ s o. session_front s t fact ledger (elsewhere s t fact (no_session s))
        (h.sessions s o);
    buckets = λ n d. one n (h.buckets n d);
  }
    where
      fact : Fact
      fact = Credit (record {
        kind = kind;
        number = next_bucket ledger;
        from = begin;
        until = until;
        scope = scope;
        amount = amount;
      })

      no_session : (s : List ℕ) → IsApart s (counts_of fact)
      no_session s = (tt, tt, tt, tt, tt)

      b : BucketRow
      b = new_row kind (next_bucket ledger) begin until scope amount

      one : (n : ℕ) → SameBucket n ledger →
          SameBucket n (credited t kind begin until scope amount ledger)
      one n k = record {
        row = found_inserted n b (credits ledger) (another (next_bucket ledger) n k.made) ∙ k.row;
        charge = omega (arith, k.charge);
        spent = Each-inserted (IsUsedUp n) b (credits ledger)
            (λ e lt. absurd (omega (arith, e, k.made))) k.spent;
        free = λ counts x. omega (arith, k.free counts x);
        made = omega (arith, k.made);
      }

-- ---- each step

-- rule: dead-rows.dead-for-good
pub keeps_stays : (b : Shelf) (from : ℕ) (old : Ledger) (t : ℕ) → from ≤ t →
    KeepsAt b t (May (validity_of b) from old) (Stays (validity_of b) from old)
keeps_stays b from old t le = record {
  live = λ s ledger h e o. true≢false (sym e
      ∙ ended_then v from old t s ledger le (h.sessions s o) o.over);
  fresh = λ s ledger h e o. o.known (sym ((h.sessions s o).recorded) ∙ e);
  bar = λ barred ledger h.
      stays_front v from old t (Barred barred) ledger (λ s o. (tt, tt, tt, tt, tt))
      (λ n d. (refl, tt, tt)) h;
  credit = λ kind begin until scope amount ledger h.
      stays_credited v from old t kind begin until scope amount ledger h;
  note = λ s n ledger may h. noted s n ledger may h;
  touch = λ s n ledger may h.
      noted s n (record { at = t; fact = Touch s } ∷ ledger) may
      (stays_front v from old t (Touch s) ledger
      (λ x o. (tt, tt, apart v from old s x may o, tt, tt)) (λ m d. (refl, tt, tt)) h);
  close = λ s ledger may h.
      stays_front v from old t (Close s) ledger
      (λ x o. (tt, tt, tt, apart v from old s x may o, tt)) (λ m d. (refl, tt, tt)) h;
  settle = λ s g used_parts ledger may h. settled_stays s g used_parts ledger may h;
  grant = λ s g units due ledger may h.
      stays_holds v from old t s g (holds_of g t due (buckets_at v t ledger))
      (record { at = t; fact = Grant (grant_at b t s g units ledger) } ∷ ledger)
      (free_parts v from old (share (eligible_amount g t) (buckets_at v t ledger) due)
      (buckets_at v t ledger)
      (λ n d. share_of_none v from old t n g (buckets_at v t ledger) (buckets_at v t ledger) due
      (rows_none v from old t n ledger le (h.buckets n d))))
      (stays_front v from old t (Grant (grant_at b t s g units ledger)) ledger
      (λ x o. (tt, apart v from old s x may o, tt, tt, tt)) (λ m d. (refl, tt, tt)) h);
  event = λ s g units ledger may h. debited_stays s g units ledger may h;
}
  where
    v : ℕ → ℕ
    v = validity_of b

    noted : (s : List ℕ) (n : ℕ) (ledger : Ledger) → May v from old s → Stays v from old ledger →
        Stays v from old (record { at = t; fact = Recorded s n } ∷ ledger)
    noted s n ledger may h =
        stays_front v from old t (Recorded s n) ledger
        (λ x o. (tt, tt, tt, tt, apart v from old s x may o)) (λ m d. (refl, tt, tt)) h

    settled_stays : (s : List ℕ) (g : ℕ) (used_parts : List UsedPart) (ledger : Ledger) →
        May v from old s → Stays v from old ledger →
        Stays v from old (settled_by b t s g used_parts ledger)
    settled_stays s g [] ledger may h =
        stays_front v from old t (End s g) ledger (λ x o. (tt, tt, tt, tt, tt))
        (λ m d. (refl, tt, tt)) h
    settled_stays s g (p ∷ ps) ledger may h =
        let due : Due = due_of (report_price b t s g (p ∷ ps) ledger) in
        stays_front v from old t (End s g) _ (λ x o. (tt, tt, tt, tt, tt)) (λ m d. (refl, tt, tt))
        (stays_front v from old t (Use (use_of s g _ _ due _)) _
        (λ x o. (apart v from old s x may o, tt, tt, tt, tt)) (λ m d. (refl, tt, tt))
        (stays_charges v from old t _ ledger
        (free_payments v from old t g due (holds_at v t s g ledger) ledger le
        (free_reservation v from old t s g ledger may h) h) h))

    debited_stays : (s : List ℕ) (g units : ℕ) (ledger : Ledger) → May v from old s →
        Stays v from old ledger → Stays v from old (debited b t s g units ledger)
    debited_stays s g units ledger may h =
        let due : Due = due_of (rest_price b t g units ledger) in
        stays_front v from old t (Use (use_of s g _ _ due _)) _
        (λ x o. (apart v from old s x may o, tt, tt, tt, tt)) (λ m d. (refl, tt, tt))
        (stays_charges v from old t _ ledger
        (free_payments v from old t g due [] ledger le tt h) h)
