-- What the keeper in memory has after a commit: the change's rows over those that were there.
use Rattle.std.proofs.Common.{◌≡◌, ℕ, Bool, true, List, ◌++◌, refl, sym, ap, ◌∙◌, Option}
use Rattle.std.proofs.Common.{Some, None}
use Rattle.std.specs.Prelude.{if◌then◌else◌, ◌==◌, ◌&&◌, not, filter, is_some, option_map}
use Rattle.std.specs.List.{find}
use Rattle.std.proofs.lemmas.Bool.{not_from_false}
use Rattle.buckets.specs.Row.{BucketRow}
use Rattle.reserving.specs.declared.session.Session.{Session}
use Rattle.reserving.specs.declared.session.SessionGroup.{SessionGroup}
use Rattle.reserving.specs.declared.session.Counter.{Counter}
use Rattle.ledger.specs.Ledger.{is_same}
use Rattle.reserving.specs.Sessions.{is_session, is_of, is_counter, is_open, session_in, group_in}
use Rattle.reserving.specs.Sessions.{counter_in}
use Rattle.reserving.specs.Rows.{AreApart}
use Rattle.reserving.specs.Stored.{StoredRows, IsStored}
use Rattle.ledger.specs.Laws.{IsDead}
use Rattle.reserving.specs.Left.{is_dead, only, first_of, bucket_in, none_left}
use Rattle.reserving.proofs.Lists.{find-passes}
use Rattle.ledger.proofs.Holds.{same_from}
use Rattle.reserving.proofs.Keys.{first_true, second_true, same_number, both_true}
use Rattle.reserving.proofs.LeftTests.{find_filter}
use Rattle.reserving.proofs.LeftParted.{one_session, one_group, one_counter, find_both}
use Rattle.reserving.proofs.LeftMore.{apart_none}
use Rattle.keepers.specs.Tables.{head_of, group_row, held_of, no_rows}
use Rattle.keepers.specs.Change.{held_over, over}
use Rattle.keepers.specs.Overlaying.{IsRestDead}
use Rattle.keepers.specs.Parts.{Parts, AreParts, rows_of_parts, leaves_bucket, leaves_counter}
use Rattle.keepers.specs.Parts.{leaves_session, leaves_group, with_live}
use Rattle.keepers.specs.Keyed.{same_bucket, same_session, same_group, same_counter}
use Rattle.keepers.proofs.Found.{told_by_one, one_bucket}
use Rattle.keepers.proofs.GroupRows.{no_terms, row_over, held_over_is}
use Rattle.keepers.proofs.PartsKept.{parts_replaced}

same_left : {A : Type 0} (p : A → Bool) (o l : Option A) → l ≡ only p o →
    ((y : A) → o ≡ Some y → p y ≡ true) → o ≡ l
same_left p None l e k = sym e
same_left p (Some y) l e k = sym (e ∙ ap (λ v. if v then Some y else None) (k y refl))

-- rows of one kind: what stays among those left is what isn't among those after
replaced : {A : Type 0} (same : A → A → Bool) (q : A → Bool) →
    ((x y : A) → q x ≡ true → q y ≡ true → same x y ≡ true) →
    (p : A → Bool) (before after : List A) → AreApart same before →
    AreApart same (filter p before ++ after) →
    ((y : A) → find q before ≡ Some y → find q after ≡ None → p y ≡ true) →
    first_of (find q after) (find q before) ≡ find q (filter p before ++ after)
replaced same q one p before after hb ha gone =
    told_by_one (find q before) (find q (filter p before)) (find q after)
    (λ none. same_left p (find q before) (find q (filter p before))
    (find_filter same q one p before hb) (λ y e. gone y e none))
    (λ y e. apart_none same q one (filter p before) after y ha e)
    ∙ sym (find_both q (filter p before) after)

none_not : {A : Type 0} (o : Option A) → o ≡ None → not (is_some o) ≡ true
none_not o e = ap (λ x. not (is_some x)) e

zero_is : (n : ℕ) → n ≡ 0 → (n == 0) ≡ true
zero_is n e = ap (λ m. m == 0) e

dead_test : (b : BucketRow) → IsDead b → is_dead b ≡ true
dead_test b d = both_true (b.available == 0) (b.reserved == 0) (zero_is b.available d.available)
    (zero_is b.reserved d.reserved)

module _ (w : StoredRows) (p : Parts) (h : AreParts p) (live : IsStored p.live)
    (is : IsStored w) (rest : IsRestDead w (rows_of_parts p)) where
  after : AreParts (with_live w p)
  after = parts_replaced w p is live h

  gone_bucket : (n : ℕ) (y : BucketRow) → bucket_in n (p.left.buckets ++ p.live.buckets) ≡ Some y →
      bucket_in n w.buckets ≡ None → leaves_bucket w y ≡ true
  gone_bucket n y e k =
      let number : y.number ≡ n =
      same_number y.number n (find-passes (λ b. b.number == n)
      (p.left.buckets ++ p.live.buckets) y e) in
      both_true (is_dead y) (not (is_some (bucket_in y.number w.buckets)))
      (dead_test y (rest.dead n y e k))
      (none_not (bucket_in y.number w.buckets) (ap (λ m. bucket_in m w.buckets) number ∙ k))

  gone_counter : (g c : ℕ) (y : Counter) →
      counter_in g c (p.left.counters ++ p.live.counters) ≡ Some y →
      counter_in g c w.counters ≡ None → leaves_counter w y ≡ true
  gone_counter g c y e k =
      let key : is_counter g c y ≡ true =
      find-passes (is_counter g c) (p.left.counters ++ p.live.counters) y e in
      none_not (counter_in y.group y.cycle w.counters)
      ((λ i. counter_in (same_number y.group g (first_true (y.group == g) (y.cycle == c) key) i)
      (same_number y.cycle c (second_true (y.group == g) (y.cycle == c) key) i) w.counters) ∙ k)

  gone_session : (s : List ℕ) (y : Session) →
      session_in s (p.left.sessions ++ p.live.sessions) ≡ Some y → session_in s w.sessions ≡ None →
      leaves_session w y ≡ true
  gone_session s y e k =
      let name : y.id ≡ s = same_from y.id s
      (find-passes (is_session s) (p.left.sessions ++ p.live.sessions) y e) in
      both_true (not (is_open y.state)) (not (is_some (session_in y.id w.sessions)))
      (not_from_false (is_open y.state) (rest.ended s y e k))
      (none_not (session_in y.id w.sessions) (ap (λ m. session_in m w.sessions) name ∙ k))

  gone_group : (s : List ℕ) (g : ℕ) (y : SessionGroup) →
      group_in s g (p.left.groups ++ p.live.groups) ≡ Some y → group_in s g w.groups ≡ None →
      leaves_group w y ≡ true
  gone_group s g y e k =
      let key : is_of s g y ≡ true = find-passes (is_of s g) (p.left.groups ++ p.live.groups) y e in
      let name : y.session ≡ s =
      same_from y.session s (first_true (is_same y.session s) (y.group == g) key) in
      let number : y.group ≡ g =
      same_number y.group g (second_true (is_same y.session s) (y.group == g) key) in
      let free = rest.free s g (group_row y) (ap (option_map group_row) e) k in
      both_true (not (is_some y.reservation))
      (not (is_some (session_in y.session w.sessions)) && not
      (is_some (group_in y.session y.group w.groups)))
      (none_not y.reservation (no_terms y.reservation free.0))
      (both_true (not (is_some (session_in y.session w.sessions)))
      (not (is_some (group_in y.session y.group w.groups)))
      (none_not (session_in y.session w.sessions) (ap (λ m. session_in m w.sessions) name ∙ free.1))
      (none_not (group_in y.session y.group w.groups) ((λ i. group_in (name i) (number i) w.groups)
      ∙ k)))

  group_after : (s : List ℕ) (g : ℕ) →
      first_of (group_in s g w.groups) (group_in s g (p.left.groups ++ p.live.groups)) ≡
      group_in s g (filter (leaves_group w) (p.left.groups ++ p.live.groups) ++ w.groups)
  group_after s g = replaced same_group (is_of s g) (one_group s g) (leaves_group w)
      (p.left.groups ++ p.live.groups) w.groups h.groups after.groups (gone_group s g)

  pub parts_written : rows_of_parts (with_live w p) ≡ over w (rows_of_parts p)
  parts_written = λ i. record {
    head = Some (head_of w);
    buckets = λ n. sym (replaced same_bucket (λ b. b.number == n) (one_bucket n) (leaves_bucket w)
        (p.left.buckets ++ p.live.buckets) w.buckets h.buckets after.buckets (gone_bucket n)) i;
    counters = λ g c. sym (replaced same_counter (is_counter g c) (one_counter g c)
        (leaves_counter w) (p.left.counters ++ p.live.counters) w.counters h.counters after.counters
        (gone_counter g c)) i;
    sessions = λ s. sym (replaced same_session (is_session s) (one_session s) (leaves_session w)
        (p.left.sessions ++ p.live.sessions) w.sessions h.sessions after.sessions (gone_session s))
        i;
    groups = λ s g. sym (row_over (group_in s g w.groups)
        (group_in s g (p.left.groups ++ p.live.groups))
        ∙ ap (option_map group_row) (group_after s g)) i;
    holds = λ s g n. sym (held_over_is n (group_in s g w.groups)
        (group_in s g (p.left.groups ++ p.live.groups)) ∙ ap (held_of n) (group_after s g)) i;
  }

-- a new account
over_none : {A : Type 0} (o : Option A) → o ≡ first_of o None
over_none None = refl
over_none (Some x) = refl

over_nothing : (n : ℕ) (o : Option SessionGroup) → held_of n o ≡ held_over n o 0
over_nothing n None = refl
over_nothing n (Some x) = refl

pub parts_first : (w : StoredRows) →
    rows_of_parts (record { live = w; left = none_left }) ≡ over w no_rows
parts_first w = λ i. record {
  head = Some (head_of w);
  buckets = λ n. over_none (bucket_in n w.buckets) i;
  counters = λ g c. over_none (counter_in g c w.counters) i;
  sessions = λ s. over_none (session_in s w.sessions) i;
  groups = λ s g. over_none (option_map group_row (group_in s g w.groups)) i;
  holds = λ s g n. over_nothing n (group_in s g w.groups) i;
}
