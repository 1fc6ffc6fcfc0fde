-- What the keeper in memory loads is what may still change of the account's rows.
use Rattle.std.proofs.Common.{◌≡◌, ℕ, Bool, true, false, List, ◌++◌, refl, sym, ap, ◌∙◌, Option}
use Rattle.std.proofs.Common.{Some, None}
use Rattle.std.specs.Prelude.{if◌then◌else◌, ◌==◌, ◌||◌, not, is_some, option_map, filter}
use Rattle.shelves.specs.Shelves.{Shelf}
use Rattle.reserving.specs.declared.session.Session.{Session}
use Rattle.reserving.specs.declared.session.SessionGroup.{SessionGroup}
use Rattle.reserving.specs.declared.session.Counter.{Counter}
use Rattle.ledger.specs.Ledger.{is_same}
use Rattle.ledger.specs.Pricing.{cycle_at}
use Rattle.reserving.specs.Sessions.{is_session, is_of, is_counter, is_open, session_in, group_in}
use Rattle.reserving.specs.Sessions.{counter_in, counter_before}
use Rattle.reserving.specs.Rows.{AccountRows}
use Rattle.reserving.specs.Stored.{IsStored}
use Rattle.reserving.specs.Left.{is_dead, is_open_row, only, first_of, bucket_in}
use Rattle.reserving.specs.Live.{is_live_group, live_part}
use Rattle.reserving.proofs.Lists.{find-passes, EachIn-found}
use Rattle.ledger.proofs.Holds.{same_from}
use Rattle.reserving.proofs.Keys.{first_true, second_true, same_number}
use Rattle.reserving.proofs.LeftTests.{find_filter, apart_filter}
use Rattle.reserving.proofs.Reordered.{find_reordered, arranged_reordered}
use Rattle.reserving.proofs.LeftParted.{one_session, one_group, one_counter, find_both}
use Rattle.reserving.proofs.LeftMore.{apart_none}
use Rattle.reserving.proofs.left.Loaded.{nothing}
use Rattle.reserving.proofs.KeysFound.{is_none_is}
use Rattle.keepers.specs.Tables.{group_row, held_of}
use Rattle.keepers.specs.Change.{has_reservation, is_loaded, IsLoadedFrom}
use Rattle.keepers.specs.Parts.{Parts, AreParts, rows_of_parts}
use Rattle.keepers.specs.Keyed.{same_bucket, same_session, same_group, same_counter}
use Rattle.keepers.proofs.Found.{one_bucket, bucket_filter}
use Rattle.keepers.proofs.GroupRows.{reserved_row, row_if, held_if}

-- what was left doesn't pass
hidden : {A : Type 0} (p : A → Bool) (l x : Option A) →
    ((y : A) → l ≡ Some y → (x ≡ None) × (p y ≡ false)) → only p x ≡ only p (first_of l x)
hidden p None x h = refl
hidden p (Some y) x h = ap (only p) (h y refl).0
    ∙ sym (ap (λ t. if t then Some y else None) (h y refl).1)

module _ (shelf : Shelf) (t : ℕ) (p : Parts) (h : AreParts p) (live : IsStored p.live) where
  abbrev a : AccountRows
  a = live_part shelf t p.left.counters p.live

  bucket_found : (n : ℕ) → bucket_in n a.buckets ≡
      only (λ b. not (is_dead b)) (bucket_in n (p.left.buckets ++ p.live.buckets))
  bucket_found n =
      bucket_filter n (λ b. not (is_dead b)) p.live.buckets live.sound.distinct
      ∙ hidden (λ b. not (is_dead b)) (bucket_in n p.left.buckets) (bucket_in n p.live.buckets)
      (λ y e. (
        apart_none same_bucket (λ b. b.number == n) (one_bucket n) p.left.buckets p.live.buckets y
            h.buckets e,
        ap not
            (EachIn-found (λ b. is_dead b ≡ true) (λ b. b.number == n) p.left.buckets y h.dead e),
      ))
      ∙ ap (only (λ b. not (is_dead b)))
      (sym (find_both (λ b. b.number == n) p.left.buckets p.live.buckets))

  session_found : (s : List ℕ) →
      session_in s a.sessions ≡
      only (λ r. is_open r.state) (session_in s (p.left.sessions ++ p.live.sessions))
  session_found s =
      find_filter same_session (is_session s) (one_session s)
      (λ r. is_open r.state) p.live.sessions live.sessions
      ∙ hidden (λ r. is_open r.state) (session_in s p.left.sessions) (session_in s p.live.sessions)
      (λ y e. (
        apart_none same_session (is_session s) (one_session s) p.left.sessions p.live.sessions y
            h.sessions e,
        EachIn-found (λ r. is_open r.state ≡ false) (is_session s) p.left.sessions y h.over e,
      ))
      ∙ ap (only (λ (r : Session). is_open r.state))
      (sym (find_both (is_session s) p.left.sessions p.live.sessions))

  by_cycle : (g c : ℕ) (o : Option Counter) →
      counter_in g c (p.left.counters ++ p.live.counters) ≡ o →
      only (λ (r : Counter). r.cycle == cycle_at shelf r.group t) o ≡
      (if c == cycle_at shelf g t then o else None)
  by_cycle g c None e = sym (nothing (c == cycle_at shelf g t) None refl)
  by_cycle g c (Some r) e =
      let k : is_counter g c r ≡ true =
      find-passes (is_counter g c) (p.left.counters ++ p.live.counters) r e in
      λ i. if same_number r.cycle c (second_true (r.group == g) (r.cycle == c) k) i ==
      cycle_at shelf
      (same_number r.group g (first_true (r.group == g) (r.cycle == c) k) i) t then Some r
      else None

  counter_found : (g c : ℕ) → counter_in g c a.counters ≡
      (if c == cycle_at shelf g t then counter_in g c (p.left.counters ++ p.live.counters)
      else None)
  counter_found g c =
      sym (find_reordered same_counter (is_counter g c) (one_counter g c)
      (filter (λ r. r.cycle == cycle_at shelf r.group t) (p.left.counters ++ p.live.counters)) _
      (arranged_reordered counter_before
      (filter (λ r. r.cycle == cycle_at shelf r.group t) (p.left.counters ++ p.live.counters)))
      (apart_filter same_counter (λ r. r.cycle == cycle_at shelf r.group t)
      (p.left.counters ++ p.live.counters) h.counters))
      ∙ find_filter same_counter (is_counter g c) (one_counter g c)
      (λ r. r.cycle == cycle_at shelf r.group t) (p.left.counters ++ p.live.counters) h.counters
      ∙ by_cycle g c (counter_in g c (p.left.counters ++ p.live.counters)) refl

  -- a session is open by both where it is by what is live
  open_same : (s : List ℕ) → is_open_row (session_in s (p.left.sessions ++ p.live.sessions)) ≡
      is_open_row (session_in s p.live.sessions)
  open_same s = ap is_open_row (find_both (is_session s) p.left.sessions p.live.sessions)
      ∙ at (session_in s p.left.sessions) refl
    where
      at : (o : Option Session) → session_in s p.left.sessions ≡ o →
          is_open_row (first_of o (session_in s p.live.sessions)) ≡
          is_open_row (session_in s p.live.sessions)
      at None e = refl
      at (Some y) e =
          EachIn-found (λ r. is_open r.state ≡ false) (is_session s) p.left.sessions y h.over e
          ∙ sym
          (ap is_open_row (apart_none same_session (is_session s)
          (one_session s) p.left.sessions p.live.sessions y h.sessions e))

  group_found : (s : List ℕ) (g : ℕ) → group_in s g a.groups ≡
      (if is_open_row (session_in s (p.left.sessions ++ p.live.sessions)) || has_reservation
      (option_map group_row (group_in s g (p.left.groups ++ p.live.groups)))
      then group_in s g (p.left.groups ++ p.live.groups) else None)
  group_found s g =
      find_filter same_group (is_of s g) (one_group s g)
      (is_live_group p.live.sessions) p.live.groups live.groups
      ∙ at (group_in s g p.left.groups) (group_in s g p.live.groups) refl refl
      ∙ (λ i. if sym (open_same s) i || has_reservation
      (option_map group_row (sym (find_both (is_of s g) p.left.groups p.live.groups) i))
      then sym (find_both (is_of s g) p.left.groups p.live.groups) i else None)
    where
      at : (l x : Option SessionGroup) → group_in s g p.left.groups ≡ l →
          group_in s g p.live.groups ≡ x →
          only (is_live_group p.live.sessions) x ≡
          (if is_open_row (session_in s p.live.sessions) || has_reservation
          (option_map group_row (first_of l x)) then first_of l x else None)
      at None None e k = sym (nothing (is_open_row (session_in s p.live.sessions) || false) None
          refl)
      at None (Some r) e k =
          ap (λ n. if is_open_row (session_in n p.live.sessions) || is_some r.reservation
          then Some r else None)
          (same_from r.session s (first_true (is_same r.session s) (r.group == g)
          (find-passes (is_of s g) p.live.groups r k)))
          ∙ (λ i. if is_open_row (session_in s p.live.sessions) || sym
          (reserved_row r.reservation) i then Some r else None)
      at (Some y) x e k =
          let none : x ≡ None = sym k
          ∙ apart_none same_group (is_of s g) (one_group s g) p.left.groups p.live.groups y
          h.groups e in
          let of : y.session ≡ s = same_from y.session s
          (first_true (is_same y.session s) (y.group == g)
          (find-passes (is_of s g) p.left.groups y e)) in
          let away : session_in s p.live.sessions ≡ None =
          ap (λ n. session_in n p.live.sessions) (sym of)
          ∙ is_none_is (session_in y.session p.live.sessions)
          (EachIn-found (λ r. is_some (session_in r.session p.live.sessions) ≡ false)
          (is_of s g) p.left.groups y h.others e) in
          let free : is_some y.reservation ≡ false =
          EachIn-found (λ r. is_some r.reservation ≡ false) (is_of s g) p.left.groups y h.free e in
          ap (only (is_live_group p.live.sessions)) none
          ∙ sym (λ i. if is_open_row (away i) || (reserved_row y.reservation ∙ free) i
          then Some y else None)

  -- rule: database-loads.loaded-from
  pub parts_loaded : IsLoadedFrom shelf t (rows_of_parts p) a
  parts_loaded = record {
    priced_by = refl;
    head = refl;
    buckets = bucket_found;
    sessions = session_found;
    groups = λ s g. ap (option_map group_row) (group_found s g)
        ∙ row_if (is_loaded (rows_of_parts p) s g) (group_in s g (p.left.groups ++ p.live.groups));
    holds = λ s g n. ap (held_of n) (group_found s g)
        ∙ held_if n (is_loaded (rows_of_parts p) s g) (group_in s g
        (p.left.groups ++ p.live.groups));
    counters = counter_found;
  }
