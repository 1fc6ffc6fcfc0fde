-- Rows that are loaded and rows that were left: each is found in one of both.
use Rattle.std.proofs.Common.{◌≡◌, ◌≢◌, ℕ, Bool, true, false, cond, List, [], ◌∷◌, ◌++◌, refl, sym}
use Rattle.std.proofs.Common.{ap, ◌∙◌, arith, Option, Some, None}
use Rattle.std.specs.Prelude.{if◌then◌else◌, ◌==◌, ◌&&◌, is_some}
use Rattle.std.specs.List.{find}
use Rattle.std.proofs.lemmas.Bool.Decides.{nat_tests}
use Rattle.buckets.specs.Row.{BucketRow, precedes}
use Rattle.buckets.specs.Spend.{Each, AreDistinct, DiffersFromAll}
use Rattle.ledger.specs.Ledger.{Ledger, has_group}
use Rattle.ledger.specs.Pricing.{validity_of}
use Rattle.reserving.specs.Sessions.{session_in, group_in, is_session, is_of, is_counter}
use Rattle.reserving.specs.Sessions.{session_row, state_at, group_at}
use Rattle.reserving.specs.Rows.{AreApart}
use Rattle.reserving.specs.Left.{placed, merged}
use Rattle.reserving.specs.Left.{bucket_in, first_of}
use Rattle.reserving.proofs.LeftParted.{one_session, one_group, one_counter, find_both}
use Rattle.reserving.proofs.LeftMore.{apart_none}
use Rattle.charging.specs.Served.{history}
use Rattle.charging.specs.PartedRows.{IsInOne, RowsAreParted, NewSessionsAreNotLeft}
use Rattle.charging.proofs.steps.Recorded.{new_has_no_groups}

-- ---- rows one list after the other

not_both : {A : Type 0} (left loaded : Option A) → ((r : A) → left ≡ Some r → loaded ≡ None) →
    (is_some left && is_some loaded) ≡ false
not_both None loaded none = refl
not_both (Some r) loaded none = ap is_some (none r refl)

in_one : {A : Type 0} (same : A → A → Bool) (q : A → Bool) →
    ((x y : A) → q x ≡ true → q y ≡ true → same x y ≡ true) → (xs ys : List A) →
    AreApart same (xs ++ ys) → IsInOne (find q (xs ++ ys)) (find q xs) (find q ys)
in_one same q one xs ys apart = record {
  one = find_both q xs ys;
  apart = not_both (find q xs) (find q ys) (λ r e. apart_none same q one xs ys r apart e);
}

-- ---- buckets in their places

placed_parts : (P : BucketRow → Type 0) (b : BucketRow) (xs : List BucketRow) →
    Each P (placed b xs) →
    P b × Each P xs
placed_parts P b [] h = (h.0, tt)
placed_parts P b (x ∷ xs) h = at (precedes b x) h (placed_parts P b xs)
  where
    at : (t : Bool) → Each P (if t then b ∷ x ∷ xs else x ∷ placed b xs) →
        (Each P (placed b xs) → P b × Each P xs) → P b × Each P (x ∷ xs)
    at true k later = k
    at false k later = let rest = later k.1 in (rest.0, (k.0, rest.1))

merged_parts : (P : BucketRow → Type 0) (left rows : List BucketRow) → Each P (merged left rows) →
    Each P rows
merged_parts P [] rows h = h
merged_parts P (b ∷ bs) rows h = merged_parts P bs rows (placed_parts P b (merged bs rows) h).1

placed_distinct : (b : BucketRow) (xs : List BucketRow) → AreDistinct (placed b xs) →
    DiffersFromAll b.number xs × AreDistinct xs
placed_distinct b [] h = (tt, tt)
placed_distinct b (x ∷ xs) h = at (precedes b x) h (placed_distinct b xs)
  where
    at : (t : Bool) → AreDistinct (if t then b ∷ x ∷ xs else x ∷ placed b xs) →
        (AreDistinct (placed b xs) → DiffersFromAll b.number xs × AreDistinct xs) →
        DiffersFromAll b.number (x ∷ xs) × AreDistinct (x ∷ xs)
    at true k later = k
    at false k later =
        let first = placed_parts (λ r. r.number ≢ x.number) b xs k.0 in
        let rest = later k.1 in
        (((λ e. first.0 (sym e)), rest.0), (first.1, rest.1))

find_placed : (n : ℕ) (b : BucketRow) (xs : List BucketRow) → DiffersFromAll b.number xs →
    bucket_in n (placed b xs) ≡ cond (b.number == n) (Some b) (bucket_in n xs)
find_placed n b [] other = refl
find_placed n b (x ∷ xs) other = at (precedes b x) (find_placed n b xs other.1)
  where
    turned : (t u : Bool) → (x.number == n) ≡ t → (b.number == n) ≡ u →
        cond t (Some x) (cond u (Some b) (bucket_in n xs))
        ≡ cond u (Some b) (cond t (Some x) (bucket_in n xs))
    turned true true e f =
        absurd (other.0 (let p : x.number ≡ b.number = grind (arith, nat_tests, e, f) in p))
    turned true false e f = refl
    turned false true e f = refl
    turned false false e f = refl

    at : (t : Bool) → bucket_in n (placed b xs) ≡ cond (b.number == n) (Some b) (bucket_in n xs) →
        bucket_in n (if t then b ∷ x ∷ xs else x ∷ placed b xs)
        ≡ cond (b.number == n) (Some b) (bucket_in n (x ∷ xs))
    at true rest = refl
    at false rest =
        ap (λ o. cond (x.number == n) (Some x) o) rest
        ∙ turned (x.number == n) (b.number == n) refl refl

find_merged : (n : ℕ) (left rows : List BucketRow) → AreDistinct (merged left rows) →
    bucket_in n (merged left rows) ≡ first_of (bucket_in n left) (bucket_in n rows)
find_merged n [] rows h = refl
find_merged n (b ∷ bs) rows h =
    let parts = placed_distinct b (merged bs rows) h in
    find_placed n b (merged bs rows) parts.0
    ∙ at (b.number == n) (find_merged n bs rows parts.1)
  where
    at : (t : Bool) →
        bucket_in n (merged bs rows) ≡ first_of (bucket_in n bs) (bucket_in n rows) →
        cond t (Some b) (bucket_in n (merged bs rows))
        ≡ first_of (cond t (Some b) (bucket_in n bs)) (bucket_in n rows)
    at true rest = refl
    at false rest = rest

none_numbered : (n : ℕ) (rows : List BucketRow) → DiffersFromAll n rows → bucket_in n rows ≡ None
none_numbered n [] h = refl
none_numbered n (b ∷ bs) h = at (b.number == n) refl (none_numbered n bs h.1)
  where
    at : (t : Bool) → (b.number == n) ≡ t → bucket_in n bs ≡ None →
        cond t (Some b) (bucket_in n bs) ≡ None
    at true e rest = absurd (h.0 (let p : b.number ≡ n = grind (arith, nat_tests, e) in p))
    at false e rest = rest

none_merged : (n : ℕ) (left rows : List BucketRow) → AreDistinct (merged left rows) →
    (b : BucketRow) →
    bucket_in n left ≡ Some b → bucket_in n rows ≡ None
none_merged n [] rows h b e = absurd (cc)
none_merged n (x ∷ xs) rows h b e =
    at (x.number == n) refl e (none_merged n xs rows (placed_distinct x (merged xs rows) h).1 b)
  where
    others : DiffersFromAll x.number rows
    others =
        merged_parts (λ r. r.number ≢ x.number) xs rows (placed_distinct x (merged xs rows) h).0

    at : (t : Bool) → (x.number == n) ≡ t → cond t (Some x) (bucket_in n xs) ≡ Some b →
        (bucket_in n xs ≡ Some b → bucket_in n rows ≡ None) → bucket_in n rows ≡ None
    at true f k rest =
        let p : x.number ≡ n = grind (arith, nat_tests, f) in
        ap (λ m. bucket_in m rows) (sym p) ∙ none_numbered x.number rows others
    at false f k rest = rest k

-- ---- an account's rows

-- rule: database-loads.in-one
pub rows_are_parted : RowsAreParted
rows_are_parted left a h = record {
  buckets = λ n. record {
    one = find_merged n left.buckets a.buckets h.whole.sound.distinct;
    apart = not_both (bucket_in n left.buckets) (bucket_in n a.buckets)
        (none_merged n left.buckets a.buckets h.whole.sound.distinct);
  };
  counters = λ g c.
      in_one (λ x y. is_counter x.group x.cycle y) (is_counter g c) (one_counter g c)
      left.counters a.counters h.whole.counters;
  sessions = λ s.
      in_one (λ x y. is_session x.id y) (is_session s) (one_session s) left.sessions a.sessions
      h.whole.sessions;
  groups = λ s g.
      in_one (λ x y. is_of x.session x.group y) (is_of s g) (one_group s g) left.groups a.groups
      h.whole.groups;
}

none_first : {A : Type 0} (x y : Option A) → first_of x y ≡ None → x ≡ None
none_first None y e = refl
none_first (Some r) y e = absurd (cc)

-- rule: database-loads.in-one
pub new_sessions_are_not_left : NewSessionsAreNotLeft
new_sessions_are_not_left b account list left a s h new =
    let v = validity_of a.shelf in
    let parted = rows_are_parted left a h.apart in
    let ledger : Ledger = (history b account list).ledger in
    record {
      session = none_first (session_in s left.sessions) (session_in s a.sessions)
          (sym (parted.sessions s).one ∙ h.rows.sessions s
          ∙ ap (session_row s (state_at v a.as_of ledger s)) new);
      groups = λ g. none_first (group_in s g left.groups) (group_in s g a.groups)
          (sym (parted.groups s g).one ∙ h.rows.groups s g
          ∙ no_group v a.as_of ledger g (new_has_no_groups b account list s new g));
    }
  where
    no_group : (v : ℕ → ℕ) (t : ℕ) (ledger : Ledger) (g : ℕ) → has_group s g ledger ≡ false →
        group_at v t ledger s g ≡ None
    no_group v t ledger g e = rw e refl
