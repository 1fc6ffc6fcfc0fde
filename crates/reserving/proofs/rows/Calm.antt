-- Calls that leave an account calm, and that such an account is as if it were brought to its
-- moment.
use Rattle.std.proofs.Common.{◌≡◌, ℕ, ◌+◌, ◌*◌, ◌-◌, ◌≤◌, Bool, true, false, List, [], ◌∷◌}
use Rattle.std.proofs.Common.{map, refl, sym, ap, ◌∙◌, subst, arith, Option, Some, None}
use Rattle.std.specs.Prelude.{if◌then◌else◌, not, nat_lt, unwrap_or, option_map}
use Rattle.std.proofs.lemmas.Bool.Decides.{nat_tests}
use Rattle.buckets.specs.Row.{BucketRow, eligible_amount, with_hold, with_charge}
use Rattle.buckets.specs.Row.{with_charge_of_hold}
use Rattle.buckets.specs.Row.{with_release, with_end}
use Rattle.buckets.specs.Share.{share}
use Rattle.buckets.specs.Spend.{Each}
use Rattle.buckets.specs.Holding.{held_in, settled_row, paid_of_hold, paid_of_rest}
use Rattle.buckets.proofs.SharesAlong.{with_release_until}
use Rattle.buckets.specs.declared.kind.Due.{Due}
use Rattle.reserving.specs.declared.session.Session.{Session}
use Rattle.reserving.specs.declared.session.SessionGroup.{SessionGroup}
use Rattle.reserving.specs.declared.session.SessionState.TheVariants.{Open, Ended}
use Rattle.reserving.specs.Sessions.{is_session, session_in, is_of, group_in, holds_in, is_live_in}
use Rattle.reserving.specs.Sessions.{is_live_row}
use Rattle.reserving.specs.Changes.{lapse, lapse_group, lapsed_in, advanced, new_group}
use Rattle.reserving.specs.Changes.{group_or_new, ended_group, ended_rows, settled_account}
use Rattle.reserving.specs.Changes.{reserved_account, touched_session, touched_account}
use Rattle.reserving.specs.Prepared.{with_group, with_rows, with_group_row}
use Rattle.ledger.specs.Lists.{EachIn}
use Rattle.reserving.specs.Rows.{AccountRows}
use Rattle.reserving.specs.Calm.{IsCalm}
use Rattle.reserving.specs.Sessions.{group_before}
use Rattle.reserving.proofs.Lists.{find-map, EachIn-map, EachIn-put, not_both}
use Rattle.reserving.proofs.Lists.{EachIn-found, EachIn-weaker}
use Rattle.ledger.proofs.Columns.{with_columns}
use Rattle.reserving.proofs.rows.Lapsing.{released_none}
use Rattle.reserving.proofs.rows.TwoAdvances.{lapse_twice, live_alike}
use Rattle.ledger.specs.Pricing.{validity_of}

-- ---- lists

map_same : {A : Type 0} (f : A → A) (xs : List A) → EachIn (λ x. f x ≡ x) xs → map f xs ≡ xs
map_same f [] h = refl
map_same f (x ∷ xs) h = λ i. h.0 i ∷ map_same f xs h.1 i

each_made : {A : Type 0} (Q : A → Type 0) (f : A → A) (xs : List A) → ((x : A) → Q (f x)) →
    EachIn Q (map f xs)
each_made Q f [] h = tt
each_made Q f (x ∷ xs) h = (h x, each_made Q f xs h)

pub rows_map : (P Q : BucketRow → Type 0) (f : BucketRow → BucketRow) (rows : List BucketRow) →
    ((b : BucketRow) → P b → Q (f b)) →
    Each P rows → Each Q (map f rows)
rows_map P Q f [] h e = tt
rows_map P Q f (b ∷ bs) h e = (h b e.0, rows_map P Q f bs h e.1)

rows_made : (Q : BucketRow → Type 0) (f : BucketRow → BucketRow) (rows : List BucketRow) →
    ((b : BucketRow) → Q (f b)) →
    Each Q (map f rows)
rows_made Q f [] h = tt
rows_made Q f (b ∷ bs) h = (h b, rows_made Q f bs h)

-- ---- nothing ends

kept_group : (keeps : List ℕ → Bool) (r : SessionGroup) →
    (keeps r.session ≡ false → r.reservation ≡ None) → lapse_group keeps r ≡ r
kept_group keeps r h = at (keeps r.session) refl
  where
    at : (t : Bool) → keeps r.session ≡ t → (if t then r else record r { reservation = None }) ≡ r
    at true e = refl
    at false e = λ i. record r { reservation = sym (h e) i }

groups_same : (keeps : List ℕ → Bool) (rs : List SessionGroup) →
    EachIn (λ r. keeps r.session ≡ false → r.reservation ≡ None) rs →
    map (lapse_group keeps) rs ≡ rs
groups_same keeps [] h = refl
groups_same keeps (r ∷ rs) h = λ i. kept_group keeps r h.0 i ∷ groups_same keeps rs h.1 i

one_lapsed : (keeps : List ℕ → Bool) (r : SessionGroup) (b : BucketRow) →
    (keeps r.session ≡ false → r.reservation ≡ None) →
    (if not (keeps r.session) then held_in (holds_in r.reservation) b else 0) ≡ 0
one_lapsed keeps r b h = at (keeps r.session) refl
  where
    at : (t : Bool) → keeps r.session ≡ t →
        (if not t then held_in (holds_in r.reservation) b else 0) ≡ 0
    at true e = refl
    at false e = ap (λ o. held_in (holds_in o) b) (h e)

none_lapsed : (keeps : List ℕ → Bool) (rs : List SessionGroup) (b : BucketRow) →
    EachIn (λ r. keeps r.session ≡ false → r.reservation ≡ None) rs → lapsed_in keeps rs b ≡ 0
none_lapsed keeps [] b h = refl
none_lapsed keeps (r ∷ rs) b h =
    omega (arith, one_lapsed keeps r b h.0, none_lapsed keeps rs b h.1)

same_bucket : (t n : ℕ) (b : BucketRow) → n ≡ 0 → (nat_lt t b.until ≡ false → b.available ≡ 0) →
    with_end t (with_release t b n) ≡ b
same_bucket t n b e h =
    ap (λ m. with_end t (with_release t b m)) e ∙ ap (with_end t) (released_none t b)
    ∙ at (nat_lt t b.until) refl
  where
    at : (p : Bool) → nat_lt t b.until ≡ p →
        (if p then b else record b { available = 0; expired = b.expired + b.available }) ≡ b
    at true k = refl
    at false k =
        let none : b.available ≡ 0 = h k in
        with_columns b 0 b.available b.reserved b.reserved b.charged b.charged
        (b.expired + b.available) b.expired (sym none) refl refl (omega arith)

rows_same : (t : ℕ) (keeps : List ℕ → Bool) (groups : List SessionGroup) (rows : List BucketRow) →
    EachIn (λ r. keeps r.session ≡ false → r.reservation ≡ None) groups →
    Each (λ b. nat_lt t b.until ≡ false → b.available ≡ 0) rows →
    map (λ b. with_end t (with_release t b (lapsed_in keeps groups b))) rows ≡ rows
rows_same t keeps groups [] h e = refl
rows_same t keeps groups (b ∷ bs) h e =
    λ i. same_bucket t (lapsed_in keeps groups b) b (none_lapsed keeps groups b h) e.0 i
    ∷ rows_same t keeps groups bs h e.1 i

pub calm_same : (a : AccountRows) → IsCalm a → advanced a.as_of a ≡ a
calm_same a h = λ i. record a {
  buckets =
      rows_same a.as_of (is_live_in (validity_of a.shelf) a.as_of a.sessions) a.groups
      a.buckets h.groups
      h.buckets i;
  sessions = map_same (lapse (validity_of a.shelf) a.as_of) a.sessions h.sessions i;
  groups = groups_same (is_live_in (validity_of a.shelf) a.as_of a.sessions) a.groups h.groups i;
}

-- ---- an account that was brought to its moment

lapsed_group : (keeps now : List ℕ → Bool) (r : SessionGroup) →
    ((s : List ℕ) → now s ≡ keeps s) → now (lapse_group keeps r).session ≡ false →
    (lapse_group keeps r).reservation ≡ None
lapsed_group keeps now r alike = at (keeps r.session) refl
  where
    at : (t : Bool) → keeps r.session ≡ t →
        now (if t then r else record r { reservation = None }).session ≡ false →
        (if t then r else record r { reservation = None }).reservation ≡ None
    at true e k = absurd (not_both (sym k ∙ alike r.session ∙ e))
    at false e k = refl

ended_bucket : (t : ℕ) (b : BucketRow) → nat_lt t (with_end t b).until ≡ false →
    (with_end t b).available ≡ 0
ended_bucket t b = at (nat_lt t b.until) refl
  where
    at : (p : Bool) → nat_lt t b.until ≡ p →
        nat_lt t (if p then b
        else record b { available = 0; expired = b.expired + b.available }).until
        ≡ false →
        (if p then b else record b { available = 0; expired = b.expired + b.available }).available
        ≡ 0
    at true e k = absurd (not_both (sym k ∙ e))
    at false e k = refl

pub calm_advanced : (t : ℕ) (a : AccountRows) → IsCalm (advanced t a)
calm_advanced t a = record {
  sessions = each_made (λ r. lapse (validity_of a.shelf) t r ≡ r)
      (lapse (validity_of a.shelf) t) a.sessions
      (λ r. lapse_twice (validity_of a.shelf) t t (omega arith) r);
  groups = each_made
      (λ r. is_live_in (validity_of a.shelf) t (map (lapse (validity_of a.shelf) t) a.sessions)
      r.session
      ≡ false → r.reservation ≡ None)
      (lapse_group (is_live_in (validity_of a.shelf) t a.sessions)) a.groups
      (λ r. lapsed_group (is_live_in (validity_of a.shelf) t a.sessions)
      (is_live_in (validity_of a.shelf) t (map (lapse (validity_of a.shelf) t) a.sessions)) r
      (λ s. live_alike (validity_of a.shelf) t t a.sessions (omega arith) s));
  buckets = rows_made (λ b. nat_lt t b.until ≡ false → b.available ≡ 0)
      (λ b. with_end t (with_release t b
      (lapsed_in (is_live_in (validity_of a.shelf) t a.sessions) a.groups b))) a.buckets
      (λ b. ended_bucket t (with_release t b
      (lapsed_in (is_live_in (validity_of a.shelf) t a.sessions) a.groups b)));
}

-- ---- a row that is made where there is none

or_new : (P : SessionGroup → Type 0) (s : List ℕ) (g : ℕ) (rows : List SessionGroup) →
    P (new_group s g) → EachIn P rows → P (group_or_new s g rows)
or_new P s g rows new h = at (group_in s g rows) refl
  where
    at : (o : Option SessionGroup) → group_in s g rows ≡ o → P (unwrap_or o (new_group s g))
    at None e = new
    at (Some x) e = EachIn-found P (is_of s g) rows x h e

group_made : (keeps : List ℕ → Bool) (s : List ℕ) (g : ℕ) (rows : List SessionGroup) →
    EachIn (λ r. keeps r.session ≡ false → r.reservation ≡ None) rows →
    EachIn (λ r. keeps r.session ≡ false → r.reservation ≡ None) (with_group s g rows)
group_made keeps s g rows h =
    EachIn-put (λ r. keeps r.session ≡ false → r.reservation ≡ None) group_before (is_of s g)
    (group_or_new s g rows) rows
    (or_new (λ r. keeps r.session ≡ false → r.reservation ≡ None) s g rows (λ k. refl) h) h

pub calm_with_rows : (a : AccountRows) (s : List ℕ) (g c : ℕ) → IsCalm a →
    IsCalm (with_rows s g c a)
calm_with_rows a s g c h = record {
  sessions = h.sessions;
  groups = group_made (is_live_in (validity_of a.shelf) a.as_of a.sessions) s g a.groups h.groups;
  buckets = h.buckets;
}

pub calm_with_group_row : (a : AccountRows) (s : List ℕ) (g : ℕ) → IsCalm a →
    IsCalm (with_group_row s g a)
calm_with_group_row a s g h = record {
  sessions = h.sessions;
  groups = group_made (is_live_in (validity_of a.shelf) a.as_of a.sessions) s g a.groups h.groups;
  buckets = h.buckets;
}

-- ---- settlements and grants

released_available : (t : ℕ) (b : BucketRow) (n : ℕ) → nat_lt t b.until ≡ false →
    (with_release t b n).available ≡ b.available
released_available t b n e =
    ap (λ p. (if p then record b { reserved = b.reserved - n; available = b.available + n }
    else record b { reserved = b.reserved - n; expired = b.expired + n }).available) e

pub settled_calm : (t : ℕ) (b : BucketRow) (p q n : ℕ) → (nat_lt t b.until ≡ false →
    b.available ≡ 0) →
    nat_lt t (with_release t (with_charge (with_charge_of_hold b p) q) n).until ≡ false →
    (with_release t (with_charge (with_charge_of_hold b p) q) n).available ≡ 0
settled_calm t b p q n h k =
    let ended : nat_lt t b.until ≡ false =
    ap (nat_lt t) (sym (with_release_until t (with_charge (with_charge_of_hold b p) q) n)) ∙ k in
    let none : b.available ≡ 0 = h ended in
    released_available t (with_charge (with_charge_of_hold b p) q) n ended ∙ omega (arith, none)

pub calm_settled : (a : AccountRows) (s : List ℕ) (g units blocks : ℕ) (due : Due) → IsCalm a →
    IsCalm (settled_account s g units blocks due a)
calm_settled a s g units blocks due h = record {
  sessions = h.sessions;
  groups = EachIn-put
      (λ r. is_live_in (validity_of a.shelf) a.as_of a.sessions r.session ≡ false →
      r.reservation ≡ None)
      group_before (is_of s g) _ a.groups (λ k. refl) h.groups;
  buckets = rows_map (λ b. nat_lt a.as_of b.until ≡ false → b.available ≡ 0)
      (λ b. nat_lt a.as_of b.until ≡ false → b.available ≡ 0)
      (settled_row (holds_in (group_or_new s g a.groups).reservation) g a.as_of due a.buckets)
      a.buckets
      (λ b e. settled_calm a.as_of b
      (paid_of_hold (holds_in (group_or_new s g a.groups).reservation) due a.buckets b)
      (paid_of_rest (holds_in (group_or_new s g a.groups).reservation) g a.as_of due a.buckets b)
      (held_in (holds_in (group_or_new s g a.groups).reservation) b
      - paid_of_hold (holds_in (group_or_new s g a.groups).reservation) due a.buckets b) e)
      h.buckets;
}

released_calm : (t : ℕ) (b : BucketRow) (n : ℕ) → (nat_lt t b.until ≡ false → b.available ≡ 0) →
    nat_lt t (with_release t b n).until ≡ false → (with_release t b n).available ≡ 0
released_calm t b n h k =
    let ended : nat_lt t b.until ≡ false = ap (nat_lt t) (sym (with_release_until t b n)) ∙ k in
    released_available t b n ended ∙ h ended

ended_calm : (keeps : List ℕ → Bool) (s : List ℕ) (g : ℕ) (r : SessionGroup) →
    (keeps r.session ≡ false → r.reservation ≡ None) →
    keeps (ended_group s g r).session ≡ false → (ended_group s g r).reservation ≡ None
ended_calm keeps s g r h = at (is_of s g r)
  where
    at : (t : Bool) → keeps (if t then record r { reservation = None } else r).session ≡ false →
        (if t then record r { reservation = None } else r).reservation ≡ None
    at true k = refl
    at false k = h k

pub calm_ended : (a : AccountRows) (s : List ℕ) (g : ℕ) → IsCalm a → IsCalm (ended_rows s g a)
calm_ended a s g h = record {
  sessions = h.sessions;
  groups = EachIn-map
      (λ r. is_live_in (validity_of a.shelf) a.as_of a.sessions r.session ≡ false →
      r.reservation ≡ None)
      (λ r. is_live_in (validity_of a.shelf) a.as_of a.sessions r.session ≡ false →
      r.reservation ≡ None)
      (ended_group s g) a.groups
      (λ r e. ended_calm (is_live_in (validity_of a.shelf) a.as_of a.sessions) s g r e) h.groups;
  buckets = rows_map (λ b. nat_lt a.as_of b.until ≡ false → b.available ≡ 0)
      (λ b. nat_lt a.as_of b.until ≡ false → b.available ≡ 0)
      (λ b. with_release a.as_of b (held_in (holds_in (group_or_new s g a.groups).reservation) b))
      a.buckets
      (λ b e. released_calm a.as_of b
      (held_in (holds_in (group_or_new s g a.groups).reservation) b) e) h.buckets;
}

pub calm_reserved : (a : AccountRows) (s : List ℕ) (g : ℕ) (due : Due) →
    is_live_in (validity_of a.shelf) a.as_of a.sessions s ≡ true → IsCalm a →
    IsCalm (reserved_account s g due a)
calm_reserved a s g due live h = record {
  sessions = h.sessions;
  groups = EachIn-put
      (λ r. is_live_in (validity_of a.shelf) a.as_of a.sessions r.session ≡ false →
      r.reservation ≡ None)
      group_before (is_of s g) _ a.groups (λ k. absurd (not_both (sym k ∙ live))) h.groups;
  buckets = rows_map (λ b. nat_lt a.as_of b.until ≡ false → b.available ≡ 0)
      (λ b. nat_lt a.as_of b.until ≡ false → b.available ≡ 0)
      (λ b. with_hold b (share (eligible_amount g a.as_of) a.buckets due b)) a.buckets
      (λ b e k. let none : b.available ≡ 0 = e k in omega arith) h.buckets;
}

-- ---- touches

touched_same : (v : ℕ → ℕ) (t : ℕ) (s : List ℕ) (n : ℕ) (r : Session) → 60 ≤ v t → lapse v t r ≡ r →
    lapse v t (touched_session s n t r) ≡ touched_session s n t r
touched_same v t s n r some same = at (is_session s r)
  where
    open_still : nat_lt t (t + 2 * v t) ≡ true
    open_still = grind (arith, nat_tests)

    at : (e : Bool) →
        lapse v t (if e then record r { last_number = n; touched = t; state = Open } else r)
        ≡ (if e then record r { last_number = n; touched = t; state = Open } else r)
    at true =
        ap (λ p. if not p then record r { last_number = n; touched = t; state = Ended }
        else record r { last_number = n; touched = t; state = Open }) open_still
    at false = same

touched_name : (s x : List ℕ) (n t : ℕ) (r : Session) →
    is_session x (touched_session s n t r) ≡ is_session x r
touched_name s x n t r =
    elim (is_session s r) as
    (λ e. is_session x (if e then record r { last_number = n; touched = t; state = Open } else r)
    ≡ is_session x r) [ true ↦ refl | false ↦ refl ]

row_before : (v : ℕ → ℕ) (t : ℕ) (s : List ℕ) (n : ℕ) → 60 ≤ v t → (o : Option Session) →
    is_live_row v t (option_map (touched_session s n t) o) ≡ false → is_live_row v t o ≡ false
row_before v t s n some None k = k
row_before v t s n some (Some r) k = at (is_session s r) k
  where
    open_still : nat_lt t (t + 2 * v t) ≡ true
    open_still = grind (arith, nat_tests)

    at : (e : Bool) →
        is_live_row v t
        (Some (if e then record r { last_number = n; touched = t; state = Open } else r)) ≡ false →
        is_live_row v t (Some r) ≡ false
    at true k = absurd (not_both (sym k ∙ open_still))
    at false k = k

live_before : (v : ℕ → ℕ) (t : ℕ) (s : List ℕ) (n : ℕ) (rows : List Session) → 60 ≤ v t →
    (x : List ℕ) →
    is_live_in v t (map (touched_session s n t) rows) x ≡ false → is_live_in v t rows x ≡ false
live_before v t s n rows some x k =
    row_before v t s n some (session_in x rows)
    (ap (is_live_row v t)
    (sym (find-map (is_session x) (touched_session s n t) rows (touched_name s x n t))) ∙ k)

pub calm_touched : (a : AccountRows) (s : List ℕ) (n : ℕ) →
    60 ≤ validity_of a.shelf a.as_of → IsCalm a →
    IsCalm (touched_account s n a)
calm_touched a s n some h = record {
  sessions = EachIn-map (λ r. lapse (validity_of a.shelf) a.as_of r ≡ r)
      (λ r. lapse (validity_of a.shelf) a.as_of r ≡ r) (touched_session s n a.as_of) a.sessions
      (λ r e. touched_same (validity_of a.shelf) a.as_of s n r some e) h.sessions;
  groups = EachIn-weaker
      (λ r. is_live_in (validity_of a.shelf) a.as_of a.sessions r.session ≡ false →
      r.reservation ≡ None)
      (λ r. is_live_in (validity_of a.shelf) a.as_of (map (touched_session s n a.as_of) a.sessions)
      r.session ≡ false → r.reservation ≡ None) a.groups
      (λ r e k. e (live_before (validity_of a.shelf) a.as_of s n a.sessions some r.session k))
      h.groups;
  buckets = h.buckets;
}

-- ---- a live session is live once time went on

pub live_middle : (a x : AccountRows) (s : List ℕ) (g t : ℕ) →
    is_live_in (validity_of a.shelf) t a.sessions s ≡ true → x ≡ advanced t (with_group_row s g a) →
    is_live_in (validity_of x.shelf) x.as_of x.sessions s ≡ true
live_middle a x s g t live is =
    subst (λ (y : AccountRows). is_live_in (validity_of y.shelf) y.as_of y.sessions s ≡ true)
    (sym is)
    (live_alike (validity_of a.shelf) t t a.sessions (omega arith) s ∙ live)
