-- What a debit makes of an account's rows: those of the ledger with its use and its charges.
use Rattle.std.proofs.Common.{◌≡◌, ℕ, ◌+◌, ◌-◌, ◌≤◌, Bool, true, false, List, [], ◌∷◌, ◌++◌, map}
use Rattle.std.proofs.Common.{refl, sym, ap, subst, ◌∙◌, arith, Option, Some, None}
use Rattle.std.specs.Prelude.{if◌then◌else◌, ◌==◌, ◌&&◌, ◌||◌, nat_lt, unwrap_or}
use Rattle.buckets.specs.declared.holds.HeldAmount.{HeldAmount}
use Rattle.buckets.specs.Row.{BucketRow, IsBalanced, with_charge, with_charge_of_hold, with_release}
use Rattle.buckets.specs.Share.{parts}
use Rattle.buckets.specs.Spend.{Each, AreDistinct, IsSound, IsBelow}
use Rattle.buckets.specs.Holding.{held_in, paid, paid_of_hold, paid_of_rest, settled_row}
use Rattle.buckets.specs.Holding.{settled_rows}
use Rattle.buckets.proofs.Parts.{sum_at, sum_at-parts, sum_at_none}
use Rattle.buckets.specs.declared.kind.Due.{Due}
use Rattle.reserving.specs.declared.session.SessionGroup.{SessionGroup}
use Rattle.ledger.specs.declared.terms.Terms.{Terms}
use Rattle.ledger.specs.Ledger.{Ledger, charged, open_grant, held, only, used, counter, has_group}
use Rattle.ledger.specs.Ledger.{has_counter, inner, is_live, is_same}
use Rattle.ledger.specs.Parts.{grant_in, counts_group}
use Rattle.ledger.specs.Ledger.{next_bucket}
use Rattle.ledger.specs.Parts.{blocks_in}
use Rattle.ledger.specs.Pricing.{cycle_at, validity_of}
use Rattle.reserving.specs.Keyed.{put}
use Rattle.ledger.specs.Balance.{credits, balance_of, bucket_at, buckets_at, holds_at}
use Rattle.reserving.specs.Sessions.{is_of, group_in, group_at, reservation_of}
use Rattle.reserving.specs.Sessions.{reservation_at}
use Rattle.ledger.specs.Settlement.{charge_facts}
use Rattle.ledger.specs.Debiting.{charged_use}
use Rattle.reserving.specs.Changes.{new_group, group_or_new, used_in, with_event, debited_account}
use Rattle.ledger.specs.SoundLedger.{IsUnknown, IsSoundLedger}
use Rattle.reserving.specs.Rows.{AccountRows, IsAccount, IsRowsOf}
use Rattle.reserving.specs.Sessions.{group_before}
use Rattle.reserving.proofs.Lists.{find-put, find-put_other}
use Rattle.reserving.proofs.Keys.{is_key, own_key, key_session, key_group, other_row}
use Rattle.ledger.proofs.Fronts.{is_barred-front, total-front, newest-front, any-front}
use Rattle.ledger.proofs.Fronts.{any_dated-front, each_charge, held-charge_facts}
use Rattle.ledger.proofs.Fronts.{credits-charge_facts, charged-charge_facts, SameSessions}
use Rattle.ledger.proofs.Fronts.{same_live, same_touched}
use Rattle.reserving.proofs.SettledFacts.{IsMoved}
use Rattle.reserving.proofs.SettledFacts.{SameGroup, same_session}
use Rattle.reserving.proofs.SettledFacts.{same_reservation, same_group}
use Rattle.ledger.proofs.Columns.{balanced_le}
use Rattle.ledger.proofs.SettledBuckets.{balance_by-settled, eligible_le}
use Rattle.reserving.proofs.kept.Settled.{settled_number}
use Rattle.reserving.proofs.rows.Complete.{row_with}
use Rattle.reserving.proofs.SettledRows.{own_row, own_named, own_used, other_named, other_used}
use Rattle.reserving.proofs.SettledRows.{next_bucket-charges, next_charge-charges, used_in_is}
use Rattle.reserving.proofs.SettledRows.{count_in_is, open_none, if_none, counters_used}
use Rattle.reserving.proofs.SettledRows.{differs_above, made_in}

-- what each bucket pays of an event's price
abbrev shares : (ℕ → ℕ) → ℕ → ℕ → Due → Ledger → List HeldAmount
shares v t group due ledger =
    parts (paid [] group t due (buckets_at v t ledger)) (buckets_at v t ledger)

-- neither a use nor a charge says anything of sessions
same_sessions-debited : (v : ℕ → ℕ) (t : ℕ) (session : List ℕ) (group units blocks : ℕ) (due : Due)
    (ledger : Ledger) →
    SameSessions ledger (charged_use v t session group units blocks due ledger)
same_sessions-debited v t session group units blocks due ledger =
    let hs : List HeldAmount = shares v t group due ledger in
    record {
      touch = λ s. newest-front _ (charge_facts t hs) ledger (each_charge _ t hs (λ b n. refl));
      closed = λ s. any-front _ (charge_facts t hs) ledger (each_charge _ t hs (λ b n. refl));
      recording = λ s. newest-front _ (charge_facts t hs) ledger (each_charge _ t hs (λ b n. refl));
    }

-- ---- its buckets

bucket_at-debited : (v : ℕ → ℕ) (t : ℕ) (session : List ℕ) (group units blocks : ℕ)
    (due : Due) (ledger : Ledger)
    (c : BucketRow) →
    (let rows : List BucketRow = buckets_at v t ledger in
    IsBalanced (bucket_at v t ledger c) →
    sum_at c.number (parts (paid [] group t due rows) rows)
    ≡ paid [] group t due rows (bucket_at v t ledger c) →
    bucket_at v t (charged_use v t session group units blocks due ledger) c
    ≡ settled_row [] group t due rows (bucket_at v t ledger c))
bucket_at-debited v t session group units blocks due ledger c balanced sum =
    let rows : List BucketRow = buckets_at v t ledger in
    let after : Ledger = charged_use v t session group units blocks due ledger in
    let n : ℕ = c.number in
    let hs : List HeldAmount = shares v t group due ledger in
    let ch : ℕ = charged n ledger in
    let all : List ℕ → ℕ → Bool = λ s g. is_live v t ledger s in
    let all' : List ℕ → ℕ → Bool = λ s g. is_live v t after s in
    let h : ℕ = held_in [] (bucket_at v t ledger c) in
    let r : ℕ = held all n ledger in
    let s1 : ℕ = paid_of_hold [] due rows (bucket_at v t ledger c) in
    let s2 : ℕ = paid_of_rest [] group t due rows (bucket_at v t ledger c) in
    let none : r ≡ r + h = omega arith in
    let same : all' ≡ all =
    λ i s g. same_live v t ledger after
    (same_sessions-debited v t session group units blocks due ledger) s i in
    let held' : 0 + held all' n (charge_facts t hs ++ ledger) ≡ r =
    omega (arith, held-charge_facts all' n t hs ledger ∙ ap (λ p. held p n ledger) same) in
    let charged' : 0 + charged n (charge_facts t hs ++ ledger) ≡ s1 + s2 + ch =
    omega (arith, charged-charge_facts n t hs ledger, sum) in
    let within : ch + (r + h) ≤ c.credited =
    omega (arith, balanced_le (nat_lt t c.until) c ch r balanced.sum) in
    let of_hold : s1 ≤ h = omega arith in
    let of_rest : s2 ≤ (if nat_lt t c.until then c.credited - ch - (r + h) else 0) =
    eligible_le _ _ _ _ (ap (λ x. if nat_lt t c.until then c.credited - ch - x else 0) none) in
    ap (λ x. balance_of t c (0 + charged n (charge_facts t hs ++ ledger)) x) held'
    ∙ ap (λ x. balance_of t c x r) charged'
    ∙ balance_by-settled (nat_lt t c.until) c ch h r s1 s2 within of_hold of_rest
    ∙ ap (λ x. with_release t (with_charge (with_charge_of_hold (balance_of t c ch x) s1) s2)
    (h - s1)) (sym none)

each_debited : (v : ℕ → ℕ) (t : ℕ) (session : List ℕ) (group units blocks : ℕ)
    (due : Due) (ledger : Ledger)
    (cs : List BucketRow) →
    (let rows : List BucketRow = buckets_at v t ledger in
    Each IsBalanced (map (bucket_at v t ledger) cs) →
    Each (λ b. sum_at b.number (parts (paid [] group t due rows) rows)
    ≡ paid [] group t due rows b) (map (bucket_at v t ledger) cs) →
    map (bucket_at v t (charged_use v t session group units blocks due ledger)) cs
    ≡ map (settled_row [] group t due rows) (map (bucket_at v t ledger) cs))
each_debited v t session group units blocks due ledger [] balanced sums = refl
each_debited v t session group units blocks due ledger (c ∷ cs) balanced sums =
    let one : bucket_at v t (charged_use v t session group units blocks due ledger) c
    ≡ settled_row [] group t due (buckets_at v t ledger) (bucket_at v t ledger c)
    = bucket_at-debited v t session group units blocks due ledger c balanced.0 sums.0 in
    let rest : map (bucket_at v t (charged_use v t session group units blocks due ledger)) cs
    ≡ map (settled_row [] group t due (buckets_at v t ledger)) (map (bucket_at v t ledger) cs)
    = each_debited v t session group units blocks due ledger cs balanced.1 sums.1 in
    λ i. one i ∷ rest i

buckets_at-debited : (v : ℕ → ℕ) (t : ℕ) (session : List ℕ) (group units blocks : ℕ)
    (due : Due) (ledger : Ledger) →
    Each IsBalanced (buckets_at v t ledger) →
    AreDistinct (buckets_at v t ledger) →
    buckets_at v t (charged_use v t session group units blocks due ledger)
    ≡ settled_rows [] group t due (buckets_at v t ledger)
buckets_at-debited v t session group units blocks due ledger balanced distinct =
    let rows : List BucketRow = buckets_at v t ledger in
    ap (map (bucket_at v t (charged_use v t session group units blocks due ledger)))
    (credits-charge_facts t (shares v t group due ledger) ledger)
    ∙ each_debited v t session group units blocks due ledger (credits ledger) balanced
    (sum_at-parts (paid [] group t due rows) rows distinct)

-- ---- its groups

same_grant : (v : ℕ → ℕ) (t : ℕ) (session : List ℕ) (group units blocks : ℕ) (due : Due)
    (ledger : Ledger)
    (s : List ℕ) (g : ℕ) →
    open_grant s g (charged_use v t session group units blocks due ledger) ≡ open_grant s g ledger
same_grant v t session group units blocks due ledger s g =
    ap inner (newest-front (grant_in s g) (charge_facts t (shares v t group due ledger)) ledger
    (each_charge _ t (shares v t group due ledger) (λ b n. refl)))

same_held : (v : ℕ → ℕ) (t : ℕ) (session : List ℕ) (group units blocks : ℕ) (due : Due)
    (ledger : Ledger)
    (p : List ℕ → ℕ → Bool) (n : ℕ) →
    held p n (charged_use v t session group units blocks due ledger) ≡ held p n ledger
same_held v t session group units blocks due ledger p n =
    omega (arith, held-charge_facts p n t (shares v t group due ledger) ledger)

other_debited : (v : ℕ → ℕ) (t : ℕ) (session : List ℕ) (group units blocks : ℕ)
    (due : Due) (ledger : Ledger)
    (s : List ℕ) (g : ℕ) → is_key session group s g ≡ false →
    SameGroup s g ledger (charged_use v t session group units blocks due ledger)
other_debited v t session group units blocks due ledger s g h =
    let hs : List HeldAmount = shares v t group due ledger in
    record {
      named = other_named session group s g t hs ledger h;
      used = other_used session group units s g t hs ledger h;
      grant = same_grant v t session group units blocks due ledger s g;
      held = same_held v t session group units blocks due ledger (only s g);
    }

either_reservation : (h l : Bool) (hs : List HeldAmount) (p : Option Terms) (used : ℕ) (s : List ℕ)
    (g : ℕ) → (h ≡ false → p ≡ None) →
    (let x : SessionGroup = row_with s g used (if l then reservation_of hs p else None) in
    (unwrap_or (if h then Some x else None) (new_group s g)).reservation
    ≡ (if l then reservation_of hs p else None))
either_reservation true l hs p used s g k = refl
either_reservation false true hs p used s g k = sym (ap (reservation_of hs) (k refl))
either_reservation false false hs p used s g k = refl

-- a group's reservation, if it has a row or not
reservation_is : (ledger : Ledger) (a : AccountRows) (s : List ℕ) (g : ℕ) → IsRowsOf ledger a →
    (group_or_new s g a.groups).reservation ≡ reservation_at (validity_of a.shelf)
    a.as_of ledger s g
reservation_is ledger a s g rows =
    ap (λ o. (unwrap_or o (new_group s g)).reservation) (rows.groups s g)
    ∙ either_reservation (has_group s g ledger) (is_live (validity_of a.shelf) a.as_of ledger s)
    (holds_at (validity_of a.shelf) a.as_of s g ledger) (open_grant s g ledger)
    (used s g ledger) s g
    (open_none s g ledger)

own_debited : (v : ℕ → ℕ) (t : ℕ) (session : List ℕ) (group units blocks : ℕ)
    (due : Due) (ledger : Ledger)
    (does : BucketRow → BucketRow) →
    IsMoved does v t ledger (charged_use v t session group units blocks due ledger) →
    group_at v t (charged_use v t session group units blocks due ledger) session group
    ≡ Some (record {
      session = session;
      group = group;
      used = used session group ledger + units;
      reservation = reservation_at v t ledger session group;
    })
own_debited v t session group units blocks due ledger does moved =
    let after : Ledger = charged_use v t session group units blocks due ledger in
    let hs : List HeldAmount = shares v t group due ledger in
    let named : has_group session group after ≡ true =
    own_named session group (charge_facts t hs ++ ledger) in
    let so_far : used session group after ≡ used session group ledger + units =
    own_used session group units t hs ledger in
    let kept : reservation_at v t after session group ≡ reservation_at v t ledger session group =
    same_reservation does v t ledger after session group moved
    (same_sessions-debited v t session group units blocks due ledger)
    (same_grant v t session group units blocks due ledger session group)
    (same_held v t session group units blocks due ledger (only session group)) in
    own_row session group _ _ _ _ _ named so_far kept

groups-debited : (v : ℕ → ℕ) (t : ℕ) (session : List ℕ) (group units blocks : ℕ)
    (due : Due) (ledger : Ledger)
    (does : BucketRow → BucketRow) (rows : List SessionGroup) →
    IsMoved does v t ledger (charged_use v t session group units blocks due ledger) →
    used_in session group rows ≡ used session group ledger →
    (group_or_new session group rows).reservation ≡ reservation_at v t ledger session group →
    ((s : List ℕ) (g : ℕ) → group_in s g rows ≡ group_at v t ledger s g) →
    (s : List ℕ) (g : ℕ) →
    group_in s g (with_event session group units rows)
    ≡ group_at v t (charged_use v t session group units blocks due ledger) s g
groups-debited v t session group units blocks due ledger does rows moved so_far kept h s g =
    by_test (is_key session group s g) refl
  where
    after : Ledger
    after = charged_use v t session group units blocks due ledger

    row : SessionGroup
    row = record {
      session = session;
      group = group;
      used = used_in session group rows + units;
      reservation = (group_or_new session group rows).reservation;
    }

    by_test : (e : Bool) → is_key session group s g ≡ e →
        group_in s g (put group_before (is_of session group) row rows) ≡ group_at v t after s g
    by_test true q =
        let es : session ≡ s = key_session session group s g q in
        let eg : group ≡ g = key_group session group s g q in
        let row_is : row
        ≡ (let r : SessionGroup =
        record {
          session = session;
          group = group;
          used = used session group ledger + units;
          reservation = reservation_at v t ledger session group;
        } in r) =
        λ i. record {
          session = session;
          group = group;
          used = so_far i + units;
          reservation = kept i;
        } in
        (λ i. group_in (sym es i) (sym eg i) (put group_before (is_of session group) row rows))
        ∙ find-put group_before (is_of session group) row rows (own_key session group)
        ∙ (λ i. Some (row_is i))
        ∙ sym (own_debited v t session group units blocks due ledger does moved)
        ∙ (λ i. group_at v t after (es i) (eg i))
    by_test false q =
        find-put_other group_before (is_of session group) (is_of s g) row rows q
        (other_row session group s g q)
        ∙ h s g
        ∙ sym (same_group does v t ledger after s g moved
        (same_sessions-debited v t session group units blocks due ledger)
        (other_debited v t session group units blocks due ledger s g q))

-- ---- its counters

counter-debited : (v : ℕ → ℕ) (t : ℕ) (session : List ℕ) (group units blocks : ℕ)
    (due : Due) (ledger : Ledger)
    (f : ℕ → ℕ) (g c : ℕ) →
    counter f g c (charged_use v t session group units blocks due ledger)
    ≡ counter f g c ledger + (if f t == c then (if group == g then blocks else 0) else 0)
counter-debited v t session group units blocks due ledger f g c =
    let hs : List HeldAmount = shares v t group due ledger in
    omega (
      arith,
      total-front (λ d. if f d.at == c then blocks_in g d.fact else 0) (charge_facts t hs) ledger
          (each_charge _ t hs (λ b n. if_none (f t == c))),
    )

has_counter-debited : (v : ℕ → ℕ) (t : ℕ) (session : List ℕ) (group units blocks : ℕ)
    (due : Due) (ledger : Ledger)
    (f : ℕ → ℕ) (g c : ℕ) →
    has_counter f g c (charged_use v t session group units blocks due ledger)
    ≡ ((group == g && f t == c) || has_counter f g c ledger)
has_counter-debited v t session group units blocks due ledger f g c =
    let hs : List HeldAmount = shares v t group due ledger in
    ap (λ x. (group == g && f t == c) || x)
    (any_dated-front (counts_group f g c) (charge_facts t hs) ledger
    (each_charge _ t hs (λ b n. refl)))

-- ---- the rows of the ledger with the debit

unknown-debited : (v : ℕ → ℕ) (t : ℕ) (session : List ℕ) (group units blocks : ℕ)
    (due : Due) (ledger : Ledger)
    (s : List ℕ) → IsUnknown s ledger →
    IsUnknown s (charged_use v t session group units blocks due ledger)
unknown-debited v t session group units blocks due ledger s h = record {
  closed = (same_sessions-debited v t session group units blocks due ledger).closed s ∙ h.closed;
  held = λ n. same_held v t session group units blocks due ledger (λ x g. is_same x s) n
      ∙ h.held n;
  granted = λ g. same_grant v t session group units blocks due ledger s g ∙ h.granted g;
}

-- the ledger stays sound
pub IsSoundLedger-debited : (v : ℕ → ℕ) (t : ℕ) (session : List ℕ)
    (group units blocks : ℕ) (due : Due)
    (ledger : Ledger) → IsBelow (next_bucket ledger) (buckets_at v t ledger) →
    IsSoundLedger ledger → IsSoundLedger (charged_use v t session group units blocks due ledger)
IsSoundLedger-debited v t session group units blocks due ledger below sound =
    let now : List BucketRow = buckets_at v t ledger in
    let hs : List HeldAmount = shares v t group due ledger in
    let after : Ledger = charged_use v t session group units blocks due ledger in
    let same : SameSessions ledger after =
    same_sessions-debited v t session group units blocks due ledger in
    let next : next_bucket after ≡ next_bucket ledger =
    omega (arith, next_bucket-charges t hs ledger) in
    record {
      touched = same_touched ledger after same sound.touched;
      unknown =
          λ s e. unknown-debited v t session group units blocks due ledger s
          (sound.unknown s (sym (same.recording s) ∙ e));
      fresh = λ n le.
          let made : next_bucket ledger ≤ n = subst (λ (m : ℕ). m ≤ n) next le in
          omega (
            arith,
            charged-charge_facts n t hs ledger,
            sum_at_none (paid [] group t due now) n now
                (differs_above (next_bucket ledger) n now below made),
            sound.fresh n made,
          );
      free = λ n counts le. same_held v t session group units blocks due ledger counts n
          ∙ sound.free n counts (subst (λ (m : ℕ). m ≤ n) next le);
    }

-- rule: debit
pub IsRowsOf-debited : (ledger : Ledger) (a : AccountRows) (session : List ℕ)
    (group units blocks : ℕ) (due : Due) →
    IsAccount a → IsRowsOf ledger a →
    IsRowsOf (charged_use (validity_of a.shelf) a.as_of session group units blocks due ledger)
    (debited_account session group units blocks due a)
IsRowsOf-debited ledger a session group units blocks due account rows =
    let v : ℕ → ℕ = (validity_of a.shelf) in
    let t : ℕ = a.as_of in
    let after : Ledger = charged_use v t session group units blocks due ledger in
    let now : List BucketRow = buckets_at v t ledger in
    let hs : List HeldAmount = shares v t group due ledger in
    let sound : IsSound now = subst IsSound rows.buckets account.sound in
    let same : SameSessions ledger after =
    same_sessions-debited v t session group units blocks due ledger in
    let moved : buckets_at v t after ≡ settled_rows [] group t due now =
    buckets_at-debited v t session group units blocks due ledger sound.balanced sound.distinct
    in
    let is_moved : IsMoved (settled_row [] group t due now) v t ledger after =
    record { rows = moved; number = settled_number [] group t due now } in
    record {
      barred = rows.barred
          ∙ sym (is_barred-front (charge_facts t hs) ledger (each_charge _ t hs (λ b n. refl)));
      buckets = ap (settled_rows [] group t due) rows.buckets ∙ sym moved;
      sessions = λ s. rows.sessions s ∙ sym (same_session v t ledger after same s);
      groups = groups-debited v t session group units blocks due ledger
          (settled_row [] group t due now) a.groups is_moved
          (used_in_is ledger a session group rows) (reservation_is ledger a session group rows)
          rows.groups;
      counters =
          counters_used (cycle_at a.shelf) t group blocks ledger after a.counters
          (counter-debited v t session group units blocks due ledger)
          (has_counter-debited v t session group units blocks due ledger)
          (count_in_is ledger a group (cycle_at a.shelf group t) rows) rows.counters;
      next_bucket = rows.next_bucket ∙ omega (arith, next_bucket-charges t hs ledger);
      next_charge =
          ap (λ n. n + 1) rows.next_charge ∙ omega (arith, next_charge-charges t hs ledger);
      sound = IsSoundLedger-debited v t session group units blocks due ledger
          (made_in ledger a account rows) rows.sound;
    }
