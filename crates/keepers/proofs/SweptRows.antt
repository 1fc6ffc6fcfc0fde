-- Rows that are brought to a moment: those that may still change alone, over all that are there,
-- are the rows of the whole list at the moment. No ledger is needed.
use Rattle.std.proofs.Common.{◌≡◌, ℕ, ◌+◌, ◌-◌, ◌≤◌, Bool, true, false, cond, List, [], ◌∷◌, map}
use Rattle.std.proofs.Common.{refl, sym, ap, subst, ◌∙◌, arith, Option, Some, None}
use Rattle.std.specs.Prelude.{if◌then◌else◌, ◌==◌, ◌&&◌, ◌*◌, not, nat_lt, option_map}
use Rattle.shelves.specs.Shelves.{Shelf, IsShelf}
use Rattle.buckets.specs.Row.{BucketRow, with_end, with_release}
use Rattle.buckets.specs.Spend.{Each}
use Rattle.buckets.specs.Holding.{held_in}
use Rattle.reserving.specs.declared.session.Session.{Session}
use Rattle.reserving.specs.declared.session.SessionState.TheVariants.{Ended}
use Rattle.reserving.specs.declared.session.SessionGroup.{SessionGroup}
use Rattle.ledger.specs.Ledger.{Ledger, is_same}
use Rattle.ledger.specs.Pricing.{validity_of}
use Rattle.reserving.specs.Sessions.{is_session, is_of, is_open, session_in, group_in, counter_in}
use Rattle.reserving.specs.Sessions.{is_live_in, is_live_row, holds_in, held_by}
use Rattle.reserving.specs.Changes.{advanced, lapse, lapse_group, lapsed_in}
use Rattle.ledger.specs.Lists.{EachIn}
use Rattle.reserving.specs.Rows.{IsAccount}
use Rattle.reserving.specs.Stored.{StoredRows, IsStored, priced, advanced_stored}
use Rattle.ledger.specs.Laws.{IsDead}
use Rattle.reserving.specs.Left.{bucket_in, first_of}
use Rattle.reserving.proofs.Lists.{find-map, find-passes, no_some, some_of}
use Rattle.ledger.proofs.Holds.{same_from}
use Rattle.reserving.proofs.Keys.{first_true, found_own}
use Rattle.reserving.proofs.Advancing.{held_by-split, lapse-id, IsRowsOf-advanced}
use Rattle.reserving.proofs.Advanced.{IsAccount-advanced}
use Rattle.ledger.proofs.DeadRows.{release_none, end_dead}
use Rattle.reserving.proofs.StoredRows.{IsAccount-priced, IsStored-stored}
use Rattle.reserving.proofs.calls.RowParts.{key_kept}
use Rattle.keepers.specs.Tables.{Rows, GroupRow, head_of, group_row, held_at, held_of}
use Rattle.keepers.specs.Tables.{AreListed}
use Rattle.keepers.specs.Change.{held_over, AreRowsAt, AreBroughtTo, over}
use Rattle.keepers.specs.Overlaying.{IsMadeFrom}
use Rattle.keepers.proofs.GroupRows.{no_terms}
use Rattle.keepers.proofs.HeldWithin.{held_found, AreWithin, held_within}

-- ---- a bucket, brought to a moment

abbrev end_at : ℕ → (List ℕ → Bool) → List SessionGroup → BucketRow → BucketRow
end_at t keeps groups b = with_end t (with_release t b (lapsed_in keeps groups b))

end_number : (t : ℕ) (b : BucketRow) (n : ℕ) → (with_end t (with_release t b n)).number ≡ b.number
end_number t b n = at (nat_lt t b.until)
  where
    ended : (u : Bool) (x : BucketRow) →
        (if u then x else record x { available = 0; expired = x.expired + x.available }).number
        ≡ x.number
    ended true x = refl
    ended false x = refl

    at : (u : Bool) → (with_end t (if u
        then record b { reserved = b.reserved - n; available = b.available + n }
        else record b { reserved = b.reserved - n; expired = b.expired + n })).number ≡ b.number
    at true = ended (nat_lt t b.until)
        (record b { reserved = b.reserved - n; available = b.available + n })
    at false = ended (nat_lt t b.until)
        (record b { reserved = b.reserved - n; expired = b.expired + n })

found_end : (t n : ℕ) (keeps : List ℕ → Bool) (groups : List SessionGroup) (rows : List BucketRow) →
    bucket_in n (map (end_at t keeps groups) rows)
    ≡ option_map (end_at t keeps groups) (bucket_in n rows)
found_end t n keeps groups rows =
    find-map (λ b. b.number == n) (end_at t keeps groups) rows
    (λ b. ap (λ m. m == n) (end_number t b (lapsed_in keeps groups b)))

each_found : (P : BucketRow → Type 0) (n : ℕ) (rows : List BucketRow) (x : BucketRow) →
    Each P rows →
    bucket_in n rows ≡ Some x → P x
each_found P n [] x h e = absurd (no_some x e)
each_found P n (y ∷ ys) x h e = at (y.number == n) e (λ k. each_found P n ys x h.1 k)
  where
    at : (t : Bool) → cond t (Some y) (bucket_in n ys) ≡ Some x →
        (bucket_in n ys ≡ Some x → P x) → P x
    at true k rest = subst P (some_of y x k) h.0
    at false k rest = rest k

-- ---- a group, brought to a moment

-- what is known of a group that doesn't keep its reservation
abbrev row_lapsed : Bool → GroupRow → GroupRow
row_lapsed keeps r = if keeps then r else record r { terms = None }

row_of_lapsed : (keeps : Bool) (r : SessionGroup) →
    group_row (if keeps then r else record r { reservation = None })
    ≡ row_lapsed keeps (group_row r)
row_of_lapsed true r = refl
row_of_lapsed false r = refl

held_of_lapsed : (n : ℕ) (keeps : Bool) (r : SessionGroup) →
    held_of n (Some (if keeps then r else record r { reservation = None }))
    ≡ (if keeps then held_of n (Some r) else 0)
held_of_lapsed n true r = refl
held_of_lapsed n false r = refl

row_free : (keeps : Bool) (r : SessionGroup) → r.reservation ≡ None →
    (if keeps then r else record r { reservation = None }) ≡ r
row_free true r e = refl
row_free false r e = λ i. record r { reservation = sym e i }

key_of : (s : List ℕ) (g : ℕ) (rows : List SessionGroup) (r : SessionGroup) →
    group_in s g rows ≡ Some r → r.session ≡ s
key_of s g rows r e = same_from r.session s
    (first_true (is_same r.session s) (r.group == g) (find-passes (is_of s g) rows r e))

found_lapsed : (keeps : List ℕ → Bool) (s : List ℕ) (g : ℕ) (rows : List SessionGroup) →
    group_in s g (map (lapse_group keeps) rows) ≡ option_map (lapse_group keeps) (group_in s g rows)
found_lapsed keeps s g rows = find-map (is_of s g) (lapse_group keeps) rows (key_kept keeps s g)

-- ---- sessions

ended_stays : (v : ℕ → ℕ) (t : ℕ) (r : Session) → is_open r.state ≡ false → lapse v t r ≡ r
ended_stays v t r e =
    ap (λ o. if o && not (nat_lt t (r.touched + 2 * v r.touched))
    then record r { state = Ended } else r) e

-- what isn't there isn't there later either
none_mapped : {A B : Type 0} (f : A → B) (o : Option A) → option_map f o ≡ None → o ≡ None
none_mapped f None e = refl
none_mapped f (Some x) e = absurd (no_some (f x) (sym e))

pub none_ended : (shelf : Shelf) (t : ℕ) (w : StoredRows) (n : ℕ) →
    bucket_in n (advanced_stored shelf t w).buckets ≡ None → bucket_in n w.buckets ≡ None
none_ended shelf t w n e =
    none_mapped (end_at t (is_live_in (validity_of shelf) t w.sessions) w.groups)
    (bucket_in n w.buckets)
    (sym (found_end t n (is_live_in (validity_of shelf) t w.sessions) w.groups w.buckets) ∙ e)

pub none_lapsed : (shelf : Shelf) (t : ℕ) (w : StoredRows) (s : List ℕ) (g : ℕ) →
    group_in s g (advanced_stored shelf t w).groups ≡ None → group_in s g w.groups ≡ None
none_lapsed shelf t w s g e =
    none_mapped (lapse_group (is_live_in (validity_of shelf) t w.sessions)) (group_in s g w.groups)
    (sym (found_lapsed (is_live_in (validity_of shelf) t w.sessions) s g w.groups) ∙ e)

pub none_kept : (shelf : Shelf) (t : ℕ) (w : StoredRows) (s : List ℕ) →
    session_in s (advanced_stored shelf t w).sessions ≡ None → session_in s w.sessions ≡ None
none_kept shelf t w s e =
    none_mapped (lapse (validity_of shelf) t) (session_in s w.sessions)
    (sym (find-map (is_session s) (lapse (validity_of shelf) t) w.sessions
    (lapse-id (validity_of shelf) t s)) ∙ e)

-- ---- all of it

module _ (shelf : Shelf) (t : ℕ) (before w : StoredRows) (r : Rows)
    (made : IsMadeFrom before before r) (head : r.head ≡ Some (head_of before))
    (own : IsStored before) (are : AreListed w r) (kept : IsStored w) where
  abbrev v : ℕ → ℕ
  v = validity_of shelf

  abbrev live : List ℕ → Bool
  live = is_live_in v t before.sessions

  abbrev live_all : List ℕ → Bool
  live_all = is_live_in v t w.sessions

  head_is : head_of before ≡ head_of w
  head_is = some_of (head_of before) (head_of w) (sym head ∙ are.head)

  -- a session that isn't among what may change isn't live
  live_same : (s : List ℕ) → live s ≡ live_all s
  live_same s = at (session_in s before.sessions) (session_in s w.sessions) refl refl
    where
      not_live : (y : Session) → is_open y.state ≡ false → false ≡ is_live_row v t (Some y)
      not_live y e = sym (ap (λ o. o && nat_lt t (y.touched + 2 * v y.touched)) e)

      at : (o p : Option Session) → session_in s before.sessions ≡ o →
          session_in s w.sessions ≡ p → is_live_row v t o ≡ is_live_row v t p
      at (Some x) p e k =
          ap (is_live_row v t) (sym (made.there.sessions s x e) ∙ are.sessions s ∙ k)
      at None None e k = refl
      at None (Some y) e k = not_live y (made.rest.ended s y (are.sessions s ∙ k) e)

  keeps_same : live ≡ live_all
  keeps_same = λ i s. live_same s i

  -- a group's row among what may change holds what is held there
  held_here : (q : List ℕ → Bool) (b : BucketRow) (x : SessionGroup) →
      group_in x.session x.group before.groups ≡ Some x →
      held_found q b (Some x) ≤ held_found q b (group_in x.session x.group w.groups)
  held_here q b x e =
      at (group_in x.session x.group w.groups) refl
      (sym (made.there.holds x.session x.group b.number x e) ∙ are.holds x.session x.group b.number)
    where
      same_if : (u : Bool) (m n : ℕ) → m ≡ n → (if u then m else 0) ≤ (if u then n else 0)
      same_if true m n e = omega (arith, e)
      same_if false m n e = omega arith

      none_if : (u : Bool) (m : ℕ) → m ≡ 0 → (if u then m else 0) ≤ 0
      none_if true m e = omega (arith, e)
      none_if false m e = omega arith

      at : (o : Option SessionGroup) → group_in x.session x.group w.groups ≡ o →
          held_of b.number (Some x) ≡ held_of b.number o →
          held_found q b (Some x) ≤ held_found q b o
      at None k h = none_if (q x.session) (held_at b.number (holds_in x.reservation)) h
      at (Some y) k h =
          subst (λ (z : List ℕ). (if q x.session
          then held_in (holds_in x.reservation) b else 0) ≤
          (if q z then held_in (holds_in y.reservation) b else 0))
          (sym (key_of x.session x.group w.groups y k))
          (same_if (q x.session) (held_in (holds_in x.reservation) b)
          (held_in (holds_in y.reservation) b) h)

  each_here : (q : List ℕ → Bool) (b : BucketRow) (rows : List SessionGroup) →
      EachIn (λ x. group_in x.session x.group before.groups ≡ Some x) rows →
      AreWithin q b rows w.groups
  each_here q b [] h = tt
  each_here q b (x ∷ xs) h = (held_here q b x h.0, each_here q b xs h.1)

  held_less : (q : List ℕ → Bool) (b : BucketRow) → held_by q before.groups b ≤ held_by q w.groups b
  held_less q b = held_within q b before.groups w.groups own.groups
      (each_here q b before.groups (found_own before.groups own.groups))

  -- of a bucket that may change all that is held is held among what may change
  held_same : (q : List ℕ → Bool) (b : BucketRow) → held_by (λ s. true) before.groups b ≡
      b.reserved →
      held_by (λ s. true) w.groups b ≡ b.reserved →
      held_by q before.groups b ≡ held_by q w.groups b
  held_same q b e k =
      omega (
        arith,
        e,
        k,
        held_less q b,
        held_less (λ s. not (q s)) b,
        held_by-split q b before.groups,
        held_by-split q b w.groups,
      )

  -- a bucket that isn't among what may change stays
  dead_stays : (y : BucketRow) → held_by (λ s. true) w.groups y ≡ y.reserved → IsDead y →
      end_at t live_all w.groups y ≡ y
  dead_stays y e d =
      let none : lapsed_in live_all w.groups y ≡ 0 =
      omega (arith, e, d.reserved, held_by-split live_all y w.groups) in
      ap (with_end t) (release_none t y (lapsed_in live_all w.groups y) none) ∙ end_dead t y d

  bucket_found : (n : ℕ) →
      first_of (option_map (end_at t live before.groups) (bucket_in n before.buckets))
      (bucket_in n w.buckets)
      ≡ option_map (end_at t live_all w.groups) (bucket_in n w.buckets)
  bucket_found n = at (bucket_in n before.buckets) (bucket_in n w.buckets) refl refl
    where
      at : (o p : Option BucketRow) → bucket_in n before.buckets ≡ o → bucket_in n w.buckets ≡ p →
          first_of (option_map (end_at t live before.groups) o) p
          ≡ option_map (end_at t live_all w.groups) p
      at None None e k = refl
      at None (Some y) e k =
          ap Some (sym (dead_stays y
          (each_found (λ b. held_by (λ s. true) w.groups b ≡ b.reserved) n w.buckets y kept.held k)
          (made.rest.dead n y (are.buckets n ∙ k) e)))
      at (Some x) p e k =
          let there : bucket_in n w.buckets ≡ Some x =
          sym (are.buckets n) ∙ made.there.buckets n x e in
          let same : lapsed_in live before.groups x ≡ lapsed_in live_all w.groups x =
          held_same (λ s. not (live s)) x
          (each_found (λ b. held_by (λ s. true) before.groups b ≡ b.reserved) n before.buckets x
          own.held e)
          (each_found (λ b. held_by (λ s. true) w.groups b ≡ b.reserved) n w.buckets x kept.held
          there)
          ∙ ap (λ (f : List ℕ → Bool). lapsed_in f w.groups x) keeps_same in
          ap (λ m. Some (with_end t (with_release t x m))) same
          ∙ ap (option_map (end_at t live_all w.groups)) (sym there ∙ k)

  session_found : (s : List ℕ) →
      first_of (option_map (lapse v t) (session_in s before.sessions)) (session_in s w.sessions)
      ≡ option_map (lapse v t) (session_in s w.sessions)
  session_found s = at (session_in s before.sessions) (session_in s w.sessions) refl refl
    where
      at : (o p : Option Session) → session_in s before.sessions ≡ o →
          session_in s w.sessions ≡ p →
          first_of (option_map (lapse v t) o) p ≡ option_map (lapse v t) p
      at None None e k = refl
      at None (Some y) e k =
          ap Some (sym (ended_stays v t y (made.rest.ended s y (are.sessions s ∙ k) e)))
      at (Some x) p e k =
          ap (option_map (lapse v t)) (sym (made.there.sessions s x e) ∙ are.sessions s ∙ k)

  -- what is among what may change is said alike by both, and what isn't holds nothing
  record IsAlike (s : List ℕ) (g : ℕ) (o p : Option SessionGroup) : Type 0 where
    row : first_of (option_map group_row (option_map (lapse_group live) o)) (option_map group_row p)
        ≡ option_map group_row (option_map (lapse_group live_all) p)
    holds : (n : ℕ) → held_over n (option_map (lapse_group live) o) (held_of n p)
        ≡ held_of n (option_map (lapse_group live_all) p)

  alike_rows : (s : List ℕ) (g : ℕ) (x y : SessionGroup) → x.session ≡ s → y.session ≡ s →
      group_row x ≡ group_row y → ((n : ℕ) → held_of n (Some x) ≡ held_of n (Some y)) →
      IsAlike s g (Some x) (Some y)
  alike_rows s g x y of_x of_y row holds =
      let keeps : live x.session ≡ live_all y.session =
      ap live of_x ∙ live_same s ∙ ap live_all (sym of_y) in
      record {
        row = ap Some (row_of_lapsed (live x.session) x
            ∙ (λ i. row_lapsed (keeps i) (row i))
            ∙ sym (row_of_lapsed (live_all y.session) y));
        holds = λ n. held_of_lapsed n (live x.session) x
            ∙ (λ i. if keeps i then holds n i else 0)
            ∙ sym (held_of_lapsed n (live_all y.session) y);
      }

  alike_free : (s : List ℕ) (g : ℕ) (y : SessionGroup) → y.reservation ≡ None →
      IsAlike s g None (Some y)
  alike_free s g y e =
      let same : lapse_group live_all y ≡ y = row_free (live_all y.session) y e in
      record {
        row = ap (λ z. Some (group_row z)) (sym same);
        holds = λ n. ap (λ z. held_of n (Some z)) (sym same);
      }

  alike : (s : List ℕ) (g : ℕ) (o p : Option SessionGroup) → group_in s g before.groups ≡ o →
      group_in s g w.groups ≡ p → IsAlike s g o p
  alike s g None None e k = record { row = refl; holds = λ n. refl }
  alike s g (Some x) None e k =
      absurd (no_some (group_row x)
      (ap (option_map group_row) (sym k) ∙ sym (are.groups s g) ∙ made.there.groups s g x e))
  alike s g None (Some y) e k =
      alike_free s g y (no_terms y.reservation
      (made.rest.free s g (group_row y) (are.groups s g ∙ ap (option_map group_row) k) e).0)
  alike s g (Some x) (Some y) e k =
      alike_rows s g x y (key_of s g before.groups x e) (key_of s g w.groups y k)
      (some_of (group_row x) (group_row y)
      (sym (made.there.groups s g x e) ∙ are.groups s g ∙ ap (option_map group_row) k))
      (λ n. sym (made.there.holds s g n x e) ∙ are.holds s g n ∙ ap (held_of n) k)

  group_found : (s : List ℕ) (g : ℕ) →
      IsAlike s g (group_in s g before.groups) (group_in s g w.groups)
  group_found s g = alike s g (group_in s g before.groups) (group_in s g w.groups) refl refl

  counter_found : (g c : ℕ) →
      first_of (counter_in g c before.counters) (r.counters g c) ≡ counter_in g c w.counters
  counter_found g c = at (counter_in g c before.counters) refl
    where
      at : (o : Option Rattle.reserving.specs.declared.session.Counter.Counter) →
          counter_in g c before.counters ≡ o →
          first_of o (r.counters g c) ≡ counter_in g c w.counters
      at None e = are.counters g c
      at (Some x) e = sym (made.there.counters g c x e) ∙ are.counters g c

  -- rule: sweep.brought-to
  pub brought_over : AreListed (advanced_stored shelf t w) (over (advanced_stored shelf t before) r)
  brought_over = record {
    head = λ i. Some (record {
      as_of = t;
      barred = (head_is i).barred;
      next_bucket = (head_is i).next_bucket;
      next_charge = (head_is i).next_charge;
    });
    buckets = λ n.
        (λ i. first_of (found_end t n live before.groups before.buckets i) (are.buckets n i))
        ∙ bucket_found n ∙ sym (found_end t n live_all w.groups w.buckets);
    counters = counter_found;
    sessions = λ s.
        (λ i. first_of (find-map (is_session s) (lapse v t) before.sessions (lapse-id v t s) i)
        (are.sessions s i))
        ∙ session_found s ∙ sym (find-map (is_session s) (lapse v t) w.sessions (lapse-id v t s));
    groups = λ s g.
        (λ i. first_of (option_map group_row (found_lapsed live s g before.groups i))
        (are.groups s g i))
        ∙ (group_found s g).row
        ∙ ap (option_map group_row) (sym (found_lapsed live_all s g w.groups));
    holds = λ s g n.
        (λ i. held_over n (found_lapsed live s g before.groups i) (are.holds s g n i))
        ∙ (group_found s g).holds n
        ∙ ap (held_of n) (sym (found_lapsed live_all s g w.groups));
  }

-- the rows of a ledger, brought on, are the ledger's rows of the later moment
-- rule: sweep.brought-to
pub rows_brought : (shelf : Shelf) (t : ℕ) (old new : Rows) → IsShelf shelf →
    AreBroughtTo shelf t old new → (ledger : Ledger) (u : ℕ) → u ≤ t →
    AreRowsAt shelf ledger u old → AreRowsAt shelf ledger t new
rows_brought shelf t old new ranges brought ledger u le are =
    let early : are.listed.as_of ≤ t = subst (λ m. m ≤ t) (sym are.moment) le in
    let account : IsAccount (priced shelf are.listed) =
    IsAccount-priced shelf are.listed ranges are.kept in
    record {
      listed = advanced_stored shelf t are.listed;
      are = brought are.listed are.are are.kept early;
      kept = IsStored-stored (advanced t (priced shelf are.listed))
          (IsAccount-advanced (priced shelf are.listed) t account);
      moment = refl;
      rows = IsRowsOf-advanced ledger (priced shelf are.listed) t account are.rows early;
    }
