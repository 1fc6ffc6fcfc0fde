-- As time goes on, what the keeper in memory has of an account stays a list of its rows, brought to
-- the moment.
use Rattle.std.proofs.Common.{◌≡◌, ℕ, false, List, ◌++◌, refl, sym, ap, ◌∙◌, Option, Some, None}
use Rattle.std.specs.Prelude.{◌==◌, is_some, option_map}
use Rattle.shelves.specs.Shelves.{Shelf}
use Rattle.reserving.specs.declared.session.SessionGroup.{SessionGroup}
use Rattle.reserving.specs.declared.session.Reservation.{Reservation}
use Rattle.ledger.specs.Ledger.{is_same}
use Rattle.reserving.specs.Sessions.{is_session, is_of, is_counter, is_open, session_in, group_in}
use Rattle.reserving.specs.Sessions.{counter_in}
use Rattle.reserving.specs.Stored.{StoredRows, IsStored, advanced_stored}
use Rattle.reserving.specs.Left.{is_dead, first_of, bucket_in}
use Rattle.reserving.proofs.Lists.{find-passes, no_some, some_of, EachIn-found}
use Rattle.ledger.proofs.Holds.{same_from}
use Rattle.reserving.proofs.Keys.{first_true}
use Rattle.reserving.proofs.KeysFound.{is_none_is}
use Rattle.reserving.proofs.LeftParted.{one_session, one_group, one_counter, find_both, dead_parts}
use Rattle.reserving.proofs.LeftMore.{apart_none}
use Rattle.keepers.specs.Keyed.{same_bucket, same_session, same_group, same_counter}
use Rattle.keepers.specs.Tables.{GroupRow, group_row, held_of, AreListed}
use Rattle.keepers.specs.Change.{AreBroughtTo, over}
use Rattle.keepers.specs.Overlaying.{IsMadeFrom}
use Rattle.keepers.specs.Parts.{Parts, AreParts, rows_of_parts, advanced_parts}
use Rattle.keepers.proofs.Found.{told_by_one, one_bucket}
use Rattle.keepers.proofs.GroupRows.{row_over, held_over_is}
use Rattle.keepers.proofs.PartsKept.{parts_advanced}
use Rattle.keepers.proofs.SweptRows.{brought_over, none_ended, none_lapsed, none_kept}

-- ---- found among two

-- what is found among the second isn't among the first
live_found : {A : Type 0} (l x : Option A) (y : A) → ((z : A) → l ≡ Some z → x ≡ None) →
    x ≡ Some y → first_of l x ≡ Some y
live_found None x y k e = e
live_found (Some z) x y k e = absurd (no_some y (sym (k z refl) ∙ e))

left_found : {A : Type 0} (l x : Option A) (y : A) → first_of l x ≡ Some y → x ≡ None →
    l ≡ Some y
left_found None x y e k = absurd (no_some y (sym k ∙ e))
left_found (Some z) x y e k = e

first_none : {A : Type 0} (l x : Option A) → x ≡ None → first_of l x ≡ l
first_none None x e = e
first_none (Some z) x e = refl

row_found : (l x : Option SessionGroup) (y : GroupRow) → option_map group_row (first_of l x)
    ≡ Some y → x ≡ None → option_map group_row l ≡ Some y
row_found l x y e k = ap (option_map group_row) (sym (first_none l x k)) ∙ e

module _ (p : Parts) (h : AreParts p) where
  bucket_apart : (n : ℕ) (z : _) → bucket_in n p.left.buckets ≡ Some z →
      bucket_in n p.live.buckets ≡ None
  bucket_apart n z k =
      apart_none same_bucket (λ b. b.number == n) (one_bucket n) p.left.buckets p.live.buckets z
      h.buckets k

  session_apart : (s : List ℕ) (z : _) → session_in s p.left.sessions ≡ Some z →
      session_in s p.live.sessions ≡ None
  session_apart s z k =
      apart_none same_session (is_session s) (one_session s) p.left.sessions p.live.sessions z
      h.sessions k

  group_apart : (s : List ℕ) (g : ℕ) (z : _) → group_in s g p.left.groups ≡ Some z →
      group_in s g p.live.groups ≡ None
  group_apart s g z k =
      apart_none same_group (is_of s g) (one_group s g) p.left.groups p.live.groups z h.groups k

  counter_apart : (g c : ℕ) (z : _) → counter_in g c p.left.counters ≡ Some z →
      counter_in g c p.live.counters ≡ None
  counter_apart g c z k =
      apart_none same_counter (is_counter g c) (one_counter g c) p.left.counters p.live.counters z
      h.counters k

-- ---- what was left can't change, so that what is live may be brought on alone

module _ (p : Parts) (h : AreParts p) where
  group_live : (s : List ℕ) (g : ℕ) (y : SessionGroup) → group_in s g p.live.groups ≡ Some y →
      group_in s g (p.left.groups ++ p.live.groups) ≡ Some y
  group_live s g y e =
      find_both (is_of s g) p.left.groups p.live.groups
      ∙ live_found (group_in s g p.left.groups) (group_in s g p.live.groups) y
      (group_apart p h s g) e

  free_row : (s : List ℕ) (g : ℕ) (row : GroupRow) (o : Option SessionGroup) →
      group_in s g p.left.groups ≡ o → option_map group_row o ≡ Some row →
      (row.terms ≡ None) × (session_in s p.live.sessions ≡ None)
  free_row s g row None k e = absurd (no_some row e)
  free_row s g row (Some y) k e =
      let of : y.session ≡ s = same_from y.session s
      (first_true (is_same y.session s) (y.group == g)
      (find-passes (is_of s g) p.left.groups y k)) in
      let free : y.reservation ≡ None = is_none_is y.reservation
      (EachIn-found (λ r. is_some r.reservation ≡ false) (is_of s g) p.left.groups y h.free k) in (
        ap (λ (z : GroupRow). z.terms) (sym (some_of (group_row y) row e))
            ∙ ap (λ (o : Option Reservation). option_map (λ (z : Reservation). z.terms) o) free,
        ap (λ n. session_in n p.live.sessions) (sym of)
            ∙ is_none_is (session_in y.session p.live.sessions)
            (EachIn-found (λ r. is_some (session_in r.session p.live.sessions) ≡ false)
            (is_of s g) p.left.groups y h.others k),
      )

  live_may_change : IsMadeFrom p.live p.live (rows_of_parts p)
  live_may_change = record {
    there = record {
      buckets = λ n y e.
          find_both (λ b. b.number == n) p.left.buckets p.live.buckets
          ∙ live_found (bucket_in n p.left.buckets) (bucket_in n p.live.buckets) y
          (bucket_apart p h n) e;
      counters = λ g c y e.
          find_both (is_counter g c) p.left.counters p.live.counters
          ∙ live_found (counter_in g c p.left.counters) (counter_in g c p.live.counters) y
          (counter_apart p h g c) e;
      sessions = λ s y e.
          find_both (is_session s) p.left.sessions p.live.sessions
          ∙ live_found (session_in s p.left.sessions) (session_in s p.live.sessions) y
          (session_apart p h s) e;
      groups = λ s g y e. ap (option_map group_row) (group_live s g y e);
      holds = λ s g n y e. ap (held_of n) (group_live s g y e);
    };
    rest = record {
      dead = λ n y e k.
          dead_parts y (EachIn-found (λ b. is_dead b ≡ _) (λ b. b.number == n) p.left.buckets y
          h.dead
          (left_found (bucket_in n p.left.buckets) (bucket_in n p.live.buckets) y
          (sym (find_both (λ b. b.number == n) p.left.buckets p.live.buckets) ∙ e) k));
      ended = λ s y e k.
          EachIn-found (λ r. is_open r.state ≡ false) (is_session s) p.left.sessions y h.over
          (left_found (session_in s p.left.sessions) (session_in s p.live.sessions) y
          (sym (find_both (is_session s) p.left.sessions p.live.sessions) ∙ e) k);
      free = λ s g y e k.
          free_row s g y (group_in s g p.left.groups) refl
          (row_found (group_in s g p.left.groups) (group_in s g p.live.groups) y
          (ap (option_map group_row) (sym (find_both (is_of s g) p.left.groups p.live.groups)) ∙ e)
          k);
    };
  }

-- ---- what is live, brought on, is over all that is there as it is beside what was left

module _ (shelf : Shelf) (t : ℕ) (p : Parts) (h : AreParts p) where
  abbrev q : Parts
  q = advanced_parts shelf t p

  later : AreParts q
  later = parts_advanced shelf t p h

  -- what isn't live later wasn't live, and so was left
  either : {A : Type 0} (o l x y : Option A) → o ≡ first_of l y → (x ≡ None → y ≡ None) →
      ((z : A) → l ≡ Some z → x ≡ None) → first_of x o ≡ first_of l x
  either o l x y is none apart =
      told_by_one o l x (λ e. is ∙ first_none l y (none e)) apart

  group_told : (s : List ℕ) (g : ℕ) →
      first_of (group_in s g q.live.groups) (group_in s g (p.left.groups ++ p.live.groups))
      ≡ group_in s g (q.left.groups ++ q.live.groups)
  group_told s g =
      either (group_in s g (p.left.groups ++ p.live.groups)) (group_in s g p.left.groups)
      (group_in s g q.live.groups) (group_in s g p.live.groups)
      (find_both (is_of s g) p.left.groups p.live.groups)
      (none_lapsed shelf t p.live s g) (group_apart q later s g)
      ∙ sym (find_both (is_of s g) q.left.groups q.live.groups)

  same_parts : (w : StoredRows) → AreListed w (over q.live (rows_of_parts p)) →
      AreListed w (rows_of_parts q)
  same_parts w are = record {
    head = are.head;
    buckets = λ n.
        sym (either (bucket_in n (p.left.buckets ++ p.live.buckets)) (bucket_in n p.left.buckets)
        (bucket_in n q.live.buckets) (bucket_in n p.live.buckets)
        (find_both (λ b. b.number == n) p.left.buckets p.live.buckets)
        (none_ended shelf t p.live n) (bucket_apart q later n)
        ∙ sym (find_both (λ b. b.number == n) q.left.buckets q.live.buckets))
        ∙ are.buckets n;
    counters = λ g c.
        sym (either (counter_in g c (p.left.counters ++ p.live.counters))
        (counter_in g c p.left.counters) (counter_in g c q.live.counters)
        (counter_in g c p.live.counters)
        (find_both (is_counter g c) p.left.counters p.live.counters)
        (λ e. e) (counter_apart q later g c)
        ∙ sym (find_both (is_counter g c) q.left.counters q.live.counters))
        ∙ are.counters g c;
    sessions = λ s.
        sym (either (session_in s (p.left.sessions ++ p.live.sessions))
        (session_in s p.left.sessions) (session_in s q.live.sessions)
        (session_in s p.live.sessions)
        (find_both (is_session s) p.left.sessions p.live.sessions)
        (none_kept shelf t p.live s) (session_apart q later s)
        ∙ sym (find_both (is_session s) q.left.sessions q.live.sessions))
        ∙ are.sessions s;
    groups = λ s g.
        sym (row_over (group_in s g q.live.groups) (group_in s g (p.left.groups ++ p.live.groups))
        ∙ ap (option_map group_row) (group_told s g)) ∙ are.groups s g;
    holds = λ s g n.
        sym (held_over_is n (group_in s g q.live.groups)
        (group_in s g (p.left.groups ++ p.live.groups))
        ∙ ap (held_of n) (group_told s g)) ∙ are.holds s g n;
  }

-- rule: sweep.brought-to
pub parts_brought : (shelf : Shelf) (t : ℕ) (p : Parts) → AreParts p → IsStored p.live →
    AreBroughtTo shelf t (rows_of_parts p) (rows_of_parts (advanced_parts shelf t p))
parts_brought shelf t p h live w are kept early =
    same_parts shelf t p h (advanced_stored shelf t w)
    (brought_over shelf t p.live w (rows_of_parts p) (live_may_change p h) refl live are kept)
