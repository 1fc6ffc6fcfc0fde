-- What a call left beside the rows that weren't loaded: the change may be committed, and the tables
-- after it.
use Rattle.std.proofs.Common.{◌≡◌, ℕ, Bool, true, false, List, ◌++◌, refl, sym, ap, subst, ◌∙◌}
use Rattle.std.proofs.Common.{Option, Some, None}
use Rattle.std.specs.Prelude.{if◌then◌else◌, ◌==◌, not, option_map}
use Rattle.buckets.specs.Row.{BucketRow}
use Rattle.shelves.specs.Shelves.{Shelf}
use Rattle.reserving.specs.declared.session.Session.{Session}
use Rattle.reserving.specs.declared.session.SessionGroup.{SessionGroup}
use Rattle.reserving.specs.declared.session.Counter.{Counter}
use Rattle.ledger.specs.Ledger.{Ledger, is_same}
use Rattle.ledger.specs.Pricing.{cycle_at, validity_of}
use Rattle.ledger.specs.Balance.{buckets_at}
use Rattle.reserving.specs.Sessions.{is_session, is_of, is_counter, is_open, session_in, group_in}
use Rattle.reserving.specs.Sessions.{counter_in}
use Rattle.reserving.specs.Rows.{AccountRows, IsAccount, IsRowsOf}
use Rattle.reserving.specs.Stored.{stored, priced}
use Rattle.reserving.specs.Left.{LeftRows, is_dead, is_open_row, only, first_of, bucket_in}
use Rattle.reserving.specs.Left.{merged, joined, left_of, IsWith}
use Rattle.reserving.proofs.Lists.{no_some, find-passes}
use Rattle.ledger.proofs.Holds.{same_from}
use Rattle.reserving.proofs.Keys.{first_true}
use Rattle.reserving.proofs.StoredRows.{IsStored-stored}
use Rattle.reserving.proofs.LeftTests.{find_filter}
use Rattle.reserving.proofs.LeftParted.{one_session, one_group, one_counter, find_both}
use Rattle.reserving.proofs.LeftMore.{apart_none}
use Rattle.keepers.specs.Tables.{Rows, GroupRow, group_row, held_of}
use Rattle.keepers.specs.Change.{is_loaded, held_over, IsLoadedFrom, AreRowsAt, over}
use Rattle.keepers.specs.Differing.{AreThere, named_rows}
use Rattle.keepers.specs.Keyed.{same_session, same_group, same_counter}
use Rattle.keepers.specs.Naming.{AreRowsApart}
use Rattle.keepers.specs.Steps.{Extends}
use Rattle.keepers.proofs.Found.{told_by_one, bucket_filter, bucket_merged, distinct_apart}
use Rattle.keepers.proofs.Found.{distinct_merged, apart_rest}
use Rattle.keepers.proofs.NamedOver.{named_over}
use Rattle.keepers.proofs.Grows.{session_stays, group_stays, counter_stays, bucket_stays}
use Rattle.keepers.proofs.GroupRows.{row_over, held_over_is}
use Rattle.keepers.proofs.Taking as taking

-- ---- found among two

only_some : {A : Type 0} (p : A → Bool) (o : Option A) (x : A) → only p o ≡ Some x → o ≡ Some x
only_some p None x e = absurd (no_some x e)
only_some p (Some y) x e = at (p y) e
  where
    at : (t : Bool) → (if t then Some y else None) ≡ Some x → Some y ≡ Some x
    at true k = k
    at false k = absurd (no_some x k)

if_some : {A : Type 0} (t : Bool) (o : Option A) (x : A) → (if t then o else None) ≡ Some x →
    o ≡ Some x
if_some true o x e = e
if_some false o x e = absurd (no_some x e)

held_if : (t : Bool) (o : Option GroupRow) (x : GroupRow) (m n : ℕ) →
    (if t then o else None) ≡ Some x → m ≡ (if t then n else 0) → n ≡ m
held_if true o x m n e k = sym k
held_if false o x m n e k = absurd (no_some x e)

none_both : {A : Type 0} (l x : Option A) → l ≡ None → x ≡ None → first_of l x ≡ None
none_both l x e k = ap (λ o. first_of o x) e ∙ k

module _ (shelf : Shelf) (before after : Ledger) (u t : ℕ) (r : Rows) (a x : AccountRows)
    (h : AreRowsAt shelf before u r) (own : IsAccount a) (loads : IsLoadedFrom shelf t r a)
    (same : x.shelf ≡ shelf) (more : Extends before after)
    (left_with : IsWith after (left_of t (priced shelf h.listed)) t x) where
  abbrev w : AccountRows
  w = priced shelf h.listed

  abbrev left : LeftRows
  left = left_of t w

  whole : IsAccount w
  whole = taking.whole shelf before u t r a h own loads

  -- ---- what isn't among the rows after it was left

  bucket_left : (n : ℕ) → bucket_in n left.buckets ≡ only is_dead (bucket_in n w.buckets)
  bucket_left n = bucket_filter n is_dead w.buckets whole.sound.distinct

  bucket_after : (n : ℕ) → bucket_in n (merged left.buckets x.buckets) ≡
      first_of (bucket_in n x.buckets) (bucket_in n left.buckets)
  bucket_after n = bucket_merged n left.buckets x.buckets left_with.apart.whole.sound.distinct

  bucket_gone : (n : ℕ) (y : BucketRow) → bucket_in n w.buckets ≡ Some y →
      bucket_in n x.buckets ≡ None →
      is_dead y ≡ true
  bucket_gone n y e k = at (is_dead y) refl
    where
      at : (d : Bool) → is_dead y ≡ d → d ≡ true
      at true f = refl
      at false f =
          let none : bucket_in n left.buckets ≡ None = bucket_left n ∙ ap (only is_dead) e
          ∙ ap (λ v. if v then Some y else None) f in
          let gone : bucket_in n (buckets_at (validity_of x.shelf) x.as_of after) ≡ None =
          ap (bucket_in n) (sym left_with.rows.buckets) ∙ bucket_after n
          ∙ none_both (bucket_in n x.buckets) (bucket_in n left.buckets) k none in
          absurd
          (no_some y
          (sym (bucket_stays before after more (validity_of w.shelf) w.as_of
          (validity_of x.shelf) x.as_of n
          gone) ∙ ap (bucket_in n) (sym h.rows.buckets) ∙ e))

  session_left : (s : List ℕ) →
      session_in s left.sessions ≡ only (λ y. not (is_open y.state)) (session_in s w.sessions)
  session_left s = find_filter (λ y z. is_session y.id z) (is_session s) (one_session s)
      (λ y. not (is_open y.state)) w.sessions whole.sessions

  session_gone : (s : List ℕ) (y : Session) → session_in s w.sessions ≡ Some y →
      session_in s x.sessions ≡ None → is_open y.state ≡ false
  session_gone s y e k = at (is_open y.state) refl
    where
      at : (d : Bool) → is_open y.state ≡ d → d ≡ false
      at false f = refl
      at true f =
          let none : session_in s left.sessions ≡ None = session_left s
          ∙ ap (only (λ (z : Session). not (is_open z.state))) e
          ∙ ap (λ v. if not v then Some y else None) f in
          let gone = sym (left_with.rows.sessions s)
          ∙ find_both (is_session s) left.sessions x.sessions
          ∙ none_both (session_in s left.sessions) (session_in s x.sessions) none k in
          absurd
          (no_some y
          (sym (session_stays before after more (validity_of w.shelf) w.as_of
          (validity_of x.shelf) x.as_of
          s gone) ∙ sym (h.rows.sessions s) ∙ e))

  abbrev of_open : SessionGroup → Bool
  of_open y = is_open_row (session_in y.session w.sessions)

  own_session : (s : List ℕ) (g : ℕ) (y : SessionGroup) → group_in s g w.groups ≡ Some y →
      y.session ≡ s
  own_session s g y e = same_from y.session s
      (first_true (is_same y.session s) (y.group == g) (find-passes (is_of s g) w.groups y e))

  group_left : (s : List ℕ) (g : ℕ) →
      group_in s g left.groups ≡ only (λ y. not (of_open y)) (group_in s g w.groups)
  group_left s g = find_filter (λ y z. is_of y.session y.group z) (is_of s g) (one_group s g)
      (λ y. not (of_open y)) w.groups whole.groups

  group_gone : (s : List ℕ) (g : ℕ) (y : SessionGroup) → group_in s g w.groups ≡ Some y →
      group_in s g x.groups ≡ None → of_open y ≡ false
  group_gone s g y e k = at (of_open y) refl
    where
      at : (d : Bool) → of_open y ≡ d → d ≡ false
      at false f = refl
      at true f =
          let none : group_in s g left.groups ≡ None = group_left s g
          ∙ ap (only (λ (z : SessionGroup). not (of_open z))) e
          ∙ ap (λ v. if not v then Some y else None) f in
          let gone = sym (left_with.rows.groups s g) ∙ find_both (is_of s g) left.groups x.groups
          ∙ none_both (group_in s g left.groups) (group_in s g x.groups) none k in
          absurd
          (no_some y
          (sym (group_stays before after more (validity_of w.shelf) w.as_of
          (validity_of x.shelf) x.as_of s
          g gone) ∙ sym (h.rows.groups s g) ∙ e))

  group_is_left : (s : List ℕ) (g : ℕ) (y : SessionGroup) → group_in s g w.groups ≡ Some y →
      of_open y ≡ false → group_in s g left.groups ≡ Some y
  group_is_left s g y e f = group_left s g ∙ ap (only (λ (z : SessionGroup). not (of_open z))) e
      ∙ ap (λ v. if not v then Some y else None) f

  abbrev of_cycle : Counter → Bool
  of_cycle y = y.cycle == cycle_at shelf y.group t

  counter_left : (g c : ℕ) →
      counter_in g c left.counters ≡ only (λ y. not (of_cycle y)) (counter_in g c w.counters)
  counter_left g c = find_filter (λ y z. is_counter y.group y.cycle z) (is_counter g c)
      (one_counter g c) (λ y. not (of_cycle y)) w.counters whole.counters

  counter_gone : (g c : ℕ) (y : Counter) → counter_in g c w.counters ≡ Some y →
      counter_in g c x.counters ≡ None → of_cycle y ≡ false
  counter_gone g c y e k = at (of_cycle y) refl
    where
      at : (d : Bool) → of_cycle y ≡ d → d ≡ false
      at false f = refl
      at true f =
          let none : counter_in g c left.counters ≡ None = counter_left g c
          ∙ ap (only (λ (z : Counter). not (of_cycle z))) e
          ∙ ap (λ v. if not v then Some y else None) f in
          let gone = sym (left_with.rows.counters g c)
          ∙ find_both (is_counter g c) left.counters x.counters
          ∙ none_both (counter_in g c left.counters) (counter_in g c x.counters) none k in
          absurd
          (no_some y
          (sym (counter_stays before after more (cycle_at w.shelf g) g c
          (subst (λ (b : Shelf). Rattle.reserving.specs.Sessions.counter_at
          (cycle_at b g) after g c ≡ None) same gone)) ∙ sym (h.rows.counters g c) ∙ e))

  -- ---- what was loaded is there

  there : AreThere (stored a) r
  there = record {
    buckets = λ n y e. only_some (λ b. not (is_dead b)) (r.buckets n) y (sym (loads.buckets n) ∙ e);
    counters = λ g c y e. if_some (c == cycle_at shelf g t) (r.counters g c) y
        (sym (loads.counters g c) ∙ e);
    sessions = λ s y e. only_some (λ z. is_open z.state) (r.sessions s) y
        (sym (loads.sessions s) ∙ e);
    groups = λ s g y e. if_some (is_loaded r s g) (r.groups s g) (group_row y)
        (sym (loads.groups s g) ∙ ap (option_map group_row) e);
    holds = λ s g n y e. held_if (is_loaded r s g) (r.groups s g) (group_row y) (held_of n (Some y))
        (r.holds s g n) (sym (loads.groups s g) ∙ ap (option_map group_row) e)
        (ap (held_of n) (sym e) ∙ loads.holds s g n);
  }

  -- ---- the tables after it

  -- what was there and isn't among the rows after it is left as it was
  same_left : {A : Type 0} (p : A → Bool) (o l : Option A) → l ≡ only p o →
      ((y : A) → o ≡ Some y → p y ≡ true) → o ≡ l
  same_left p None l e k = sym e
  same_left p (Some y) l e k = sym (e ∙ ap (λ v. if v then Some y else None) (k y refl))

  leaves : AreRowsAt shelf after x.as_of (over (stored x) r)
  leaves = record {
    listed = stored (joined left x);
    are = record {
      head = refl;
      buckets = λ n.
          by_bucket n (bucket_in n x.buckets) refl ∙ sym (bucket_after n);
      counters = λ g c.
          told_by_one (r.counters g c) (counter_in g c left.counters) (counter_in g c x.counters)
          (λ k. h.are.counters g c ∙ same_left (λ y. not (of_cycle y)) (counter_in g c w.counters)
          (counter_in g c left.counters) (counter_left g c)
          (λ y e. ap not (counter_gone g c y e k)))
          (λ y e. apart_none (λ y z. is_counter y.group y.cycle z) (is_counter g c)
          (one_counter g c) left.counters x.counters y left_with.apart.whole.counters e)
          ∙ sym (find_both (is_counter g c) left.counters x.counters);
      sessions = λ s.
          told_by_one (r.sessions s) (session_in s left.sessions) (session_in s x.sessions)
          (λ k. h.are.sessions s ∙ same_left (λ y. not (is_open y.state)) (session_in s w.sessions)
          (session_in s left.sessions) (session_left s) (λ y e. ap not (session_gone s y e k)))
          (λ y e. apart_none (λ y z. is_session y.id z) (is_session s)
          (one_session s) left.sessions x.sessions y left_with.apart.whole.sessions e)
          ∙ sym (find_both (is_session s) left.sessions x.sessions);
      groups = λ s g. ap (first_of (option_map group_row (group_in s g x.groups)))
          (h.are.groups s g) ∙ row_over (group_in s g x.groups) (group_in s g w.groups)
          ∙ ap (option_map group_row) (group_after s g);
      holds = λ s g n. ap (held_over n (group_in s g x.groups)) (h.are.holds s g n)
          ∙ held_over_is n (group_in s g x.groups) (group_in s g w.groups)
          ∙ ap (held_of n) (group_after s g);
    };
    kept = IsStored-stored (joined left x) left_with.apart.whole;
    moment = refl;
    rows = subst (λ (b : Shelf). IsRowsOf after (priced b (stored (joined left x)))) same
        left_with.rows;
  }
    where
      group_after : (s : List ℕ) (g : ℕ) →
          first_of (group_in s g x.groups) (group_in s g w.groups) ≡
          group_in s g (left.groups ++ x.groups)
      group_after s g =
          told_by_one (group_in s g w.groups) (group_in s g left.groups) (group_in s g x.groups)
          (λ k. same_left (λ y. not (of_open y)) (group_in s g w.groups) (group_in s g left.groups)
          (group_left s g) (λ y e. ap not (group_gone s g y e k)))
          (λ y e. apart_none (λ y z. is_of y.session y.group z) (is_of s g)
          (one_group s g) left.groups x.groups y left_with.apart.whole.groups e)
          ∙ sym (find_both (is_of s g) left.groups x.groups)

      by_bucket : (n : ℕ) (o : Option BucketRow) → bucket_in n x.buckets ≡ o →
          first_of o (r.buckets n) ≡ first_of o (bucket_in n left.buckets)
      by_bucket n None k = h.are.buckets n
          ∙ same_left is_dead (bucket_in n w.buckets) (bucket_in n left.buckets) (bucket_left n)
          (λ y e. bucket_gone n y e k)
      by_bucket n (Some y) k = refl

  loaded_apart : AreRowsApart (stored a)
  loaded_apart = record {
    buckets = distinct_apart a.buckets own.sound.distinct;
    counters = own.counters;
    sessions = own.sessions;
    groups = own.groups;
  }

  left_apart : AreRowsApart (stored x)
  left_apart = record {
    buckets = distinct_apart x.buckets
        (distinct_merged left.buckets x.buckets left_with.apart.whole.sound.distinct);
    counters = apart_rest same_counter left.counters x.counters left_with.apart.whole.counters;
    sessions = apart_rest same_session left.sessions x.sessions left_with.apart.whole.sessions;
    groups = apart_rest same_group left.groups x.groups left_with.apart.whole.groups;
  }

  -- the rows that differ alone are committed
  -- rule: database-loads.load-step, database-writes.changed
  pub left_behind : AreRowsAt shelf after x.as_of (over (named_rows (stored a) (stored x)) r)
  left_behind = subst (AreRowsAt shelf after x.as_of)
      (sym (named_over (stored a) (stored x) r loaded_apart left_apart there)) leaves
