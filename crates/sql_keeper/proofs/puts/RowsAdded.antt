-- Rows that are put in among others, each unless one of its key is there.
use Rattle.std.proofs.Common.{◌≡◌, ℕ, ◌+◌, ◌<◌, ◌≤◌, Bool, true, false, cond, List, [], ◌∷◌}
use Rattle.std.proofs.Common.{Option, Some, None, map, length, take, drop, get_or, refl, sym, ap}
use Rattle.std.proofs.Common.{subst, ◌∙◌}
use Rattle.std.specs.Prelude.{◌&&◌, ◌==◌, filter, is_some, not}
use Rattle.std.specs.List.{find, insert}
use Rattle.std.proofs.lemmas.List.{drop_all, drop_more, take-append-drop}
use Rattle.buckets.specs.Row.{BucketRow}
use Rattle.ledger.proofs.Holds.{same_from}
use Rattle.ledger.specs.Ledger.{is_same}
use Rattle.reserving.specs.declared.session.Session.{Session}
use Rattle.reserving.specs.declared.session.SessionGroup.{SessionGroup}
use Rattle.reserving.specs.Left.{bucket_in, first_of, is_dead}
use Rattle.reserving.specs.Sessions.{group_in, is_of, is_open, is_session, session_in}
use Rattle.reserving.proofs.Keys.{first_true, same_number, second_true}
use Rattle.reserving.proofs.LeftParted.{find_both}
use Rattle.reserving.proofs.LeftTests.{first_alone}
use Rattle.reserving.proofs.Lists.{no_some, not_both}
use Rattle.sql_keeper.specs.KeptRows.{AreWithBuckets, AreWithGroups, AreWithSessions, IsPutIn}
use Rattle.sql_keeper.specs.KeptRows.{bucket_over, buckets_over, group_over, groups_over}
use Rattle.sql_keeper.specs.KeptRows.{is_new_bucket, is_new_group, is_new_session, session_over}
use Rattle.sql_keeper.specs.KeptRows.{sessions_over, stays_bucket, stays_session}

-- ---- what is first

first_thrice : {A : Type 0} (a b c : Option A)
    → first_of (first_of a b) c ≡ first_of a (first_of b c)
first_thrice None b c = refl
first_thrice (Some x) b c = refl

none_first : {A : Type 0} (a b : Option A) (x : A) → first_of a b ≡ None
    → first_of a (Some x) ≡ Some x
none_first None b x e = refl
none_first (Some y) b x e = absurd (no_some y (sym e))

not_some : {A : Type 0} (o : Option A) → not (is_some o) ≡ true → o ≡ None
not_some None e = refl
not_some (Some x) e = absurd (not_both e)

-- ---- one row, by the test of a key; `own` is the test of the row's key

module _ {A : Type 0} (q live : A → Bool) where
  -- a row that is put in at a place is found, unless one before it is
  found_inserted : (x : A) (old : List A) (i : ℕ) → (q x ≡ true → find q old ≡ None)
      → find q (insert old i x) ≡ first_of (find q old) (find q (x ∷ []))
  found_inserted x old i none =
      find_both q (take i old) (x ∷ drop i old)
      ∙ at (q x) (find q (take i old)) (find q (drop i old)) none
      (ap (find q) (sym (take-append-drop i old)) ∙ find_both q (take i old) (drop i old))
    where
      at : (t : Bool) (a b : Option A) → (t ≡ true → find q old ≡ None)
          → find q old ≡ first_of a b
          → first_of a (cond t (Some x) b) ≡ first_of (find q old) (cond t (Some x) None)
      at true a b away e =
          none_first a b x (sym e ∙ away refl) ∙ ap (λ o. first_of o (Some x)) (sym (away refl))
      at false a b away e = sym e ∙ sym (first_alone (find q old))

  pub added : (own : A → Bool) (x : A) (old new : List A)
      → (live x && not (is_some (find own old))) ≡ true
      → (q x ≡ true → find own old ≡ find q old) → IsPutIn x old new
      → find q new ≡ first_of (find q old) (find q (filter live (x ∷ [])))
  added own x old new test same put =
      ap (find q) put.is
      ∙ found_inserted x old put.place
      (λ e. sym (same e)
      ∙ not_some (find own old) (second_true (live x) (not (is_some (find own old))) test))
      ∙ sym (ap (λ t. first_of (find q old) (find q (cond t (x ∷ []) [])))
      (first_true (live x) (not (is_some (find own old))) test))

  pub unadded : (own : A → Bool) (x : A) (old : List A)
      → (live x && not (is_some (find own old))) ≡ false
      → (q x ≡ true → find own old ≡ find q old)
      → find q old ≡ first_of (find q old) (find q (filter live (x ∷ [])))
  unadded own x old test same =
      at (live x) (q x) (find own old) test same ∙ ap (first_of (find q old)) (alone (live x))
    where
      alone : (l : Bool) → cond l (cond (q x) (Some x) None) None ≡ find q (cond l (x ∷ []) [])
      alone true = refl
      alone false = refl

      there : (z : A) (f : Option A) (k : Option A) → Some z ≡ f → f ≡ first_of f k
      there z None k e = absurd (no_some z (sym e))
      there z (Some y) k e = refl

      at : (l t : Bool) (o : Option A) → (l && not (is_some o)) ≡ false
          → (t ≡ true → o ≡ find q old)
          → find q old ≡ first_of (find q old) (cond l (cond t (Some x) None) None)
      at false t o e s = sym (first_alone (find q old))
      at true t None e s = absurd (not_both (sym e))
      at true true (Some z) e s = there z (find q old) (Some x) (s refl)
      at true false (Some z) e s = sym (first_alone (find q old))

  -- ---- one row after another

  filter_next : (x : A) (rest : List A) → find q (filter live (x ∷ rest))
      ≡ first_of (find q (filter live (x ∷ []))) (find q (filter live rest))
  filter_next x rest = at (live x)
    where
      at : (l : Bool) → find q (cond l (x ∷ filter live rest) (filter live rest))
          ≡ first_of (find q (cond l (x ∷ []) [])) (find q (filter live rest))
      at true = find_both q (x ∷ []) (filter live rest)
      at false = refl

  pub next_with : (all : List A) (i : ℕ) (x : A) (mid now : List A) (whole : Option A)
      → i < length all → x ≡ get_or all i x
      → first_of (find q mid) (find q (filter live (drop i all))) ≡ whole
      → find q now ≡ first_of (find q mid) (find q (filter live (x ∷ [])))
      → first_of (find q now) (find q (filter live (drop (i + 1) all))) ≡ whole
  next_with all i x mid now whole less is before step =
      ap (λ o. first_of o (find q (filter live (drop (i + 1) all)))) step
      ∙ first_thrice (find q mid) (find q (filter live (x ∷ [])))
      (find q (filter live (drop (i + 1) all)))
      ∙ ap (first_of (find q mid)) (sym (filter_next x (drop (i + 1) all)))
      ∙ sym (ap (λ xs. first_of (find q mid) (find q (filter live xs)))
      (drop_more all i x less ∙ ap (λ y. y ∷ drop (i + 1) all) (sym is)))
      ∙ before

  pub all_with : (all : List A) (i : ℕ) (now : List A) (whole : Option A) → length all ≤ i
      → first_of (find q now) (find q (filter live (drop i all))) ≡ whole → find q now ≡ whole
  all_with all i now whole end before =
      sym (first_alone (find q now))
      ∙ sym (ap (λ xs. first_of (find q now) (find q (filter live xs))) (drop_all i all end))
      ∙ before

-- ---- buckets

own_number : (n : ℕ) (x : BucketRow) (old : List BucketRow) → (x.number == n) ≡ true
    → bucket_in x.number old ≡ bucket_in n old
own_number n x old e = ap (λ m. bucket_in m old) (same_number x.number n e)

pub bucket_added : (x : BucketRow) (old new : List BucketRow) → is_new_bucket old x ≡ true
    → IsPutIn x old new
    → AreWithBuckets old (filter (λ (b : BucketRow). not (is_dead b)) (x ∷ [])) new
bucket_added x old new test put n =
    added (λ (b : BucketRow). b.number == n) (λ (b : BucketRow). not (is_dead b))
    (λ (b : BucketRow). b.number == x.number) x old new test (own_number n x old) put

pub bucket_unadded : (x : BucketRow) (old : List BucketRow) → is_new_bucket old x ≡ false
    → AreWithBuckets old (filter (λ (b : BucketRow). not (is_dead b)) (x ∷ [])) old
bucket_unadded x old test n =
    unadded (λ (b : BucketRow). b.number == n) (λ (b : BucketRow). not (is_dead b))
    (λ (b : BucketRow). b.number == x.number) x old test (own_number n x old)

-- ---- sessions

own_name : (s : List ℕ) (x : Session) (old : List Session) → is_session s x ≡ true
    → session_in x.id old ≡ session_in s old
own_name s x old e = ap (λ m. session_in m old) (same_from x.id s e)

pub session_added : (x : Session) (old new : List Session) → is_new_session old x ≡ true
    → IsPutIn x old new
    → AreWithSessions old (filter (λ (y : Session). is_open y.state) (x ∷ [])) new
session_added x old new test put s =
    added (is_session s) (λ (y : Session). is_open y.state) (is_session x.id) x old new test
    (own_name s x old) put

pub session_unadded : (x : Session) (old : List Session) → is_new_session old x ≡ false
    → AreWithSessions old (filter (λ (y : Session). is_open y.state) (x ∷ [])) old
session_unadded x old test s =
    unadded (is_session s) (λ (y : Session). is_open y.state) (is_session x.id) x old test
    (own_name s x old)

-- ---- groups

own_group : (s : List ℕ) (g : ℕ) (x : SessionGroup) (old : List SessionGroup)
    → is_of s g x ≡ true → group_in x.session x.group old ≡ group_in s g old
own_group s g x old e =
    λ i. group_in (same_from x.session s (first_true (is_same x.session s) (x.group == g) e) i)
    (same_number x.group g (second_true (is_same x.session s) (x.group == g) e) i) old

pub group_added : (ss : List Session) (x : SessionGroup) (old new : List SessionGroup)
    → is_new_group ss old x ≡ true → IsPutIn x old new
    → AreWithGroups old
    (filter (λ (y : SessionGroup). is_some (session_in y.session ss)) (x ∷ [])) new
group_added ss x old new test put s g =
    added (is_of s g) (λ (y : SessionGroup). is_some (session_in y.session ss))
    (is_of x.session x.group) x old new test (own_group s g x old) put

pub group_unadded : (ss : List Session) (x : SessionGroup) (old : List SessionGroup)
    → is_new_group ss old x ≡ false
    → AreWithGroups old
    (filter (λ (y : SessionGroup). is_some (session_in y.session ss)) (x ∷ [])) old
group_unadded ss x old test s g =
    unadded (is_of s g) (λ (y : SessionGroup). is_some (session_in y.session ss))
    (is_of x.session x.group) x old test (own_group s g x old)

-- ---- all that a change makes of them

pub purse_made : (us ws bs read kept put now made : List BucketRow) → us ≡ ws → read ≡ bs
    → kept ≡ filter (stays_bucket us) read → put ≡ map (bucket_over us) kept
    → AreWithBuckets put (filter (λ (b : BucketRow). not (is_dead b)) us) now → made ≡ now
    → AreWithBuckets (buckets_over ws bs) (filter (λ (b : BucketRow). not (is_dead b)) ws) made
purse_made us ws bs read kept put now made u r k p h m =
    subst (λ l. AreWithBuckets (buckets_over l bs) (filter (λ (b : BucketRow). not (is_dead b)) l)
    made) u
    (subst (AreWithBuckets (buckets_over us bs) (filter (λ (b : BucketRow). not (is_dead b)) us))
    (sym m)
    (subst (λ l. AreWithBuckets l (filter (λ (b : BucketRow). not (is_dead b)) us) now)
    (p ∙ ap (map (bucket_over us)) (k ∙ ap (filter (stays_bucket us)) r)) h))

pub sessions_made : (us ws old kept put now : List Session) → us ≡ ws
    → kept ≡ filter (λ x. stays_session us x.id) old → put ≡ map (session_over us) kept
    → AreWithSessions put (filter (λ (x : Session). is_open x.state) us) now
    → AreWithSessions (sessions_over ws old) (filter (λ (x : Session). is_open x.state) ws) now
sessions_made us ws old kept put now u k p h =
    subst (λ l. AreWithSessions (sessions_over l old)
    (filter (λ (x : Session). is_open x.state) l) now) u
    (subst (λ l. AreWithSessions l (filter (λ (x : Session). is_open x.state) us) now)
    (p ∙ ap (map (session_over us)) k) h)

pub groups_made : (es ts ss : List Session) (us ws old kept put now : List SessionGroup)
    → es ≡ ts → us ≡ ws → kept ≡ filter (λ x. stays_session es x.session) old
    → put ≡ map (group_over us) kept
    → AreWithGroups put
    (filter (λ (x : SessionGroup). is_some (session_in x.session ss)) us) now
    → AreWithGroups (groups_over ts ws old)
    (filter (λ (x : SessionGroup). is_some (session_in x.session ss)) ws) now
groups_made es ts ss us ws old kept put now e u k p h =
    subst (λ l. AreWithGroups (groups_over l ws old)
    (filter (λ (x : SessionGroup). is_some (session_in x.session ss)) ws) now) e
    (subst (λ l. AreWithGroups (groups_over es l old)
    (filter (λ (x : SessionGroup). is_some (session_in x.session ss)) l) now) u
    (subst (λ l. AreWithGroups l
    (filter (λ (x : SessionGroup). is_some (session_in x.session ss)) us) now)
    (p ∙ ap (map (group_over us)) k) h))
