-- Rows of which nothing ends at a moment, as a load finds.
use Rattle.std.proofs.Common.{◌≡◌, ℕ, ◌==◌, ◌&&◌, Bool, true, false, List, refl, sym, ap}
use Rattle.std.proofs.Common.{◌∙◌, subst, Option, Some, None, eqb-true, nat_lt}
use Rattle.std.specs.Prelude.{◌||◌, ◌+◌, ◌*◌, not, is_some, if◌then◌else◌, IfSome}
use Rattle.std.proofs.lemmas.Bool.{and_parts, and_from}
use Rattle.buckets.specs.Row.{BucketRow}
use Rattle.reserving.specs.declared.session.Session.{Session}
use Rattle.reserving.specs.declared.session.SessionGroup.{SessionGroup}
use Rattle.reserving.specs.declared.session.Reservation.{Reservation}
use Rattle.reserving.specs.declared.session.SessionState.TheVariants.{Ended}
use Rattle.reserving.specs.Sessions.{is_open, is_session, session_in, is_live_in, is_live_row}
use Rattle.reserving.specs.Left.{is_open_row}
use Rattle.ledger.specs.Lists.{EachIn}
use Rattle.reserving.specs.Rows.{AccountRows}
use Rattle.reserving.specs.Changes.{lapse, advanced}
use Rattle.ledger.specs.Pricing.{validity_of}
use Rattle.reserving.specs.Calm.{IsCalm, is_session_quiet, are_sessions_quiet, is_group_quiet}
use Rattle.reserving.specs.Calm.{are_groups_quiet, is_bucket_quiet, are_buckets_quiet, is_quiet_at}
use Rattle.reserving.proofs.Lists.{not_both, EachIn-found}
use Rattle.reserving.proofs.KeysFound.{is_none_is}
use Rattle.reserving.proofs.Restored.{all_told, all_pass, rows_told, rows_pass}
use Rattle.reserving.proofs.rows.Calm.{calm_same}

session_told : (v : ℕ → ℕ) (t : ℕ) (r : Session) → is_session_quiet v t r ≡ true → lapse v t r ≡ r
session_told v t r = at (is_open r.state) (nat_lt t (r.touched + 2 * v r.touched))
  where
    at : (o l : Bool) → (not o || l) ≡ true →
        (if o && not l then record r { state = Ended } else r) ≡ r
    at true true e = refl
    at true false e = absurd (not_both e)
    at false l e = refl

row_live : (v : ℕ → ℕ) (t : ℕ) (r : Session) → is_session_quiet v t r ≡ true →
    is_open r.state ≡ true → is_live_row v t (Some r) ≡ true
row_live v t r = at (is_open r.state) (nat_lt t (r.touched + 2 * v r.touched))
  where
    at : (o l : Bool) → (not o || l) ≡ true → o ≡ true → (o && l) ≡ true
    at true true e k = refl
    at true false e k = absurd (not_both e)
    at false l e k = absurd (not_both k)

group_told : (v : ℕ → ℕ) (t : ℕ) (sessions : List Session) (r : SessionGroup) →
    EachIn (λ x. is_session_quiet v t x ≡ true) sessions → is_group_quiet sessions r ≡ true →
    is_live_in v t sessions r.session ≡ false → r.reservation ≡ None
group_told v t sessions r quiet e k =
    is_none_is r.reservation
    (by (is_some r.reservation) (session_in r.session sessions) refl e k)
  where
    by : (s : Bool) (o : Option Session) → session_in r.session sessions ≡ o →
        (not s || is_open_row o) ≡ true → is_live_row v t o ≡ false → s ≡ false
    by false o there f l = refl
    by true None there f l = absurd (not_both f)
    by true (Some x) there f l = absurd (not_both (sym l
        ∙ row_live v t x (EachIn-found (λ y. is_session_quiet v t y ≡ true) (is_session r.session)
        sessions x quiet there) f))

bucket_told : (t : ℕ) (b : BucketRow) → is_bucket_quiet t b ≡ true →
    nat_lt t b.until ≡ false → b.available ≡ 0
bucket_told t b = at (nat_lt t b.until)
  where
    at : (l : Bool) → (l || b.available == 0) ≡ true → l ≡ false → b.available ≡ 0
    at true e k = absurd (not_both (sym k))
    at false e k = eqb-true b.available 0 e

pub calm_told : (a : AccountRows) (t : ℕ) → is_quiet_at t a ≡ true →
    IsCalm (record a { as_of = t })
calm_told a t e =
    let outer = and_parts (are_sessions_quiet (validity_of a.shelf) t a.sessions
    && are_groups_quiet a.sessions a.groups) (are_buckets_quiet t a.buckets) e in
    let inner = and_parts (are_sessions_quiet (validity_of a.shelf) t a.sessions)
    (are_groups_quiet a.sessions a.groups) outer.0 in
    let quiet : EachIn (λ x. is_session_quiet (validity_of a.shelf) t x ≡ true) a.sessions =
    all_told (is_session_quiet (validity_of a.shelf) t)
    (λ x. is_session_quiet (validity_of a.shelf) t x ≡ true) (λ x h. h) a.sessions inner.0 in
    record {
      sessions = all_told (is_session_quiet (validity_of a.shelf) t)
          (λ r. lapse (validity_of a.shelf) t r ≡ r)
          (λ r h. session_told (validity_of a.shelf) t r h) a.sessions inner.0;
      groups = all_told (is_group_quiet a.sessions)
          (λ r. is_live_in (validity_of a.shelf) t a.sessions r.session ≡ false →
          r.reservation ≡ None)
          (λ r h. group_told (validity_of a.shelf) t a.sessions r quiet h) a.groups inner.1;
      buckets = rows_told (is_bucket_quiet t)
          (λ b. nat_lt t b.until ≡ false → b.available ≡ 0) (λ b h. bucket_told t b h) a.buckets
          outer.1;
    }

-- ---- and back: where it is calm at a moment, nothing is found that ends then

session_quiet : (v : ℕ → ℕ) (t : ℕ) (r : Session) → lapse v t r ≡ r → is_session_quiet v t r ≡ true
session_quiet v t r = at (is_open r.state) (nat_lt t (r.touched + 2 * v r.touched)) refl
  where
    at : (o l : Bool) → is_open r.state ≡ o →
        (if o && not l then record r { state = Ended } else r) ≡ r → (not o || l) ≡ true
    at true true k e = refl
    at true false k e = absurd (not_both (ap (λ (x : Session). is_open x.state) e ∙ k))
    at false l k e = refl

group_quiet : (v : ℕ → ℕ) (t : ℕ) (sessions : List Session) (r : SessionGroup) →
    (is_live_in v t sessions r.session ≡ false → r.reservation ≡ None) →
    is_group_quiet sessions r ≡ true
group_quiet v t sessions r = by r.reservation (session_in r.session sessions)
  where
    open_in : (y : Reservation) (o l : Bool) → ((o && l) ≡ false → Some y ≡ None) → o ≡ true
    open_in y true l h = refl
    open_in y false l h = absurd (not_both (sym (ap is_some (h refl))))

    by : (o : Option Reservation) (x : Option Session) →
        (is_live_row v t x ≡ false → o ≡ None) → (not (is_some o) || is_open_row x) ≡ true
    by None x h = refl
    by (Some y) None h = absurd (not_both (sym (ap is_some (h refl))))
    by (Some y) (Some x) h =
        open_in y (is_open x.state) (nat_lt t (x.touched + 2 * v x.touched)) h

bucket_quiet : (t : ℕ) (b : BucketRow) → (nat_lt t b.until ≡ false → b.available ≡ 0) →
    is_bucket_quiet t b ≡ true
bucket_quiet t b = at (nat_lt t b.until)
  where
    at : (l : Bool) → (l ≡ false → b.available ≡ 0) → (l || b.available == 0) ≡ true
    at true h = refl
    at false h = ap (λ n. n == 0) (h refl)

pub quiet_found : (a : AccountRows) (t : ℕ) → IsCalm (record a { as_of = t }) →
    is_quiet_at t a ≡ true
quiet_found a t h =
    and_from (are_sessions_quiet (validity_of a.shelf) t a.sessions
    && are_groups_quiet a.sessions a.groups) (are_buckets_quiet t a.buckets)
    (and_from (are_sessions_quiet (validity_of a.shelf) t a.sessions)
    (are_groups_quiet a.sessions a.groups)
    (all_pass (is_session_quiet (validity_of a.shelf) t)
    (λ r. lapse (validity_of a.shelf) t r ≡ r) (λ r e. session_quiet (validity_of a.shelf) t r e)
    a.sessions h.sessions)
    (all_pass (is_group_quiet a.sessions)
    (λ r. is_live_in (validity_of a.shelf) t a.sessions r.session ≡ false →
    r.reservation ≡ None) (λ r k. group_quiet (validity_of a.shelf) t a.sessions r k) a.groups
    h.groups))
    (rows_pass (is_bucket_quiet t) (λ b. nat_lt t b.until ≡ false → b.available ≡ 0)
    (λ b k. bucket_quiet t b k) a.buckets h.buckets)

-- time that goes on to such a moment changes nothing else
pub quiet_advanced : (a : AccountRows) (t : ℕ) → IsCalm (record a { as_of = t }) →
    advanced t a ≡ record a { as_of = t }
quiet_advanced a t h = calm_same (record a { as_of = t }) h

-- what holds at the moment that is given, where one is
pub at_told : (o : Option ℕ) (m : ℕ) (q : Bool) (P : ℕ → Type 0) →
    IfSome o (λ t. (t ≡ m) × (q ≡ true)) → (q ≡ true → P m) → IfSome o P
at_told None m q P h k = tt
at_told (Some t) m q P h k = subst P (sym h.0) (k h.1)

pub at_found : (o : Option ℕ) (P Q : ℕ → Type 0) → ((t : ℕ) → P t → Q t) → IfSome o P →
    IfSome o Q
at_found None P Q k h = tt
at_found (Some t) P Q k h = k t h

-- two tests, of which the second is asked first
pub or_true : (p q : Bool) → q ≡ true → true ≡ (p || q)
or_true true q e = refl
or_true false q e = sym e

pub or_false : (p q : Bool) → q ≡ false → p ≡ (p || q)
or_false true q e = refl
or_false false q e = sym e
