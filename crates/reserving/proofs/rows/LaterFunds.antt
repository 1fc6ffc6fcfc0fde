-- The funds of a group at a later moment, summed before time goes on.
use Rattle.std.proofs.Common.{◌≡◌, ℕ, ◌+◌, ◌-◌, Bool, true, false, List, [], ◌∷◌, map, refl, sym}
use Rattle.std.proofs.Common.{◌∙◌}
use Rattle.std.specs.Prelude.{if◌then◌else◌, ◌&&◌, nat_lt, nat_le}
use Rattle.buckets.specs.Row.{BucketRow, is_eligible, eligible_amount, covers, with_end}
use Rattle.buckets.specs.Row.{with_release}
use Rattle.buckets.specs.declared.kind.BucketKind.{BucketKind}
use Rattle.buckets.specs.Share.{sum_in}
use Rattle.buckets.proofs.Dues.{sum_in-cons}
use Rattle.buckets.specs.Kinds.{is_alike}
use Rattle.reserving.specs.declared.session.Session.{Session}
use Rattle.reserving.specs.declared.session.SessionGroup.{SessionGroup}
use Rattle.reserving.specs.Sessions.{is_live_in}
use Rattle.reserving.specs.Changes.{lapsed_in, amount_later, funds_later}

-- an eligible bucket hasn't ended, so that what is given up is available
amount_is : (group t n : ℕ) (b : BucketRow) →
    eligible_amount group t (with_end t (with_release t b n))
    ≡ (if is_eligible group t b then b.available + n else 0)
amount_is group t n b = at (nat_lt t b.until) refl
  where
    no_end : (f c : Bool) (x y : ℕ) →
        (if f && false && c then x else 0) ≡ (if f && false && c then y else 0)
    no_end true c x y = refl
    no_end false c x y = refl

    at : (e : Bool) → nat_lt t b.until ≡ e →
        eligible_amount group t
        (with_end t (if e then record b { reserved = b.reserved - n; available = b.available + n }
        else record b { reserved = b.reserved - n; expired = b.expired + n }))
        ≡ (if nat_le b.from t && e && covers b.scope group then b.available + n else 0)
    at true e = rw (e, e) refl
    at false e = rw (e, e) (no_end (nat_le b.from t) (covers b.scope group) 0 (b.available + n))

-- time leaves the kind of a bucket
pub later_kind : (t n : ℕ) (b : BucketRow) → (with_end t (with_release t b n)).kind ≡ b.kind
later_kind t n b = at (nat_lt t b.until) refl
  where
    at : (e : Bool) → nat_lt t b.until ≡ e →
        (with_end t (if e then record b { reserved = b.reserved - n; available = b.available + n }
        else record b { reserved = b.reserved - n; expired = b.expired + n })).kind ≡ b.kind
    at true e = rw e refl
    at false e = rw e refl

pub funds_later-is : (kind : BucketKind) (group : ℕ) (v : ℕ → ℕ) (t : ℕ) (sessions : List Session)
    (groups : List SessionGroup) (rows : List BucketRow) →
    funds_later kind group v t sessions groups rows
    ≡ sum_in kind (eligible_amount group t)
    (map (λ b. with_end t (with_release t b (lapsed_in (is_live_in v t sessions) groups b))) rows)
funds_later-is kind group v t sessions groups [] = refl
funds_later-is kind group v t sessions groups (b ∷ bs) =
    sum_in-cons kind (amount_later group v t sessions groups) b bs
    ∙ (λ i. (if is_alike (sym (later_kind t (lapsed_in (is_live_in v t sessions) groups b) b) i)
    kind
    then sym (amount_is group t (lapsed_in (is_live_in v t sessions) groups b) b) i else 0)
    + funds_later-is kind group v t sessions groups bs i)
    ∙ sym (sum_in-cons kind (eligible_amount group t)
    (with_end t (with_release t b (lapsed_in (is_live_in v t sessions) groups b)))
    (map (λ x. with_end t (with_release t x (lapsed_in (is_live_in v t sessions) groups x)))
    bs))
