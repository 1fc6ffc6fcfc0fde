-- Events and recorded requests leave an account calm.
use Rattle.std.proofs.Common.{◌≡◌, ℕ, ◌+◌, ◌*◌, ◌-◌, ◌≤◌, Bool, true, false, List, refl, sym, ap}
use Rattle.std.proofs.Common.{◌∙◌, arith, Option, Some, None, []}
use Rattle.std.specs.Prelude.{not, nat_lt, unwrap_or, if◌then◌else◌}
use Rattle.std.proofs.lemmas.Bool.Decides.{nat_tests}
use Rattle.identifiers.proofs.Equality.{equal_names}
use Rattle.buckets.specs.Holding.{held_in, settled_row, paid_of_hold, paid_of_rest}
use Rattle.buckets.specs.declared.kind.Due.{Due}
use Rattle.reserving.specs.declared.session.Session.{Session}
use Rattle.reserving.specs.declared.session.SessionGroup.{SessionGroup}
use Rattle.reserving.specs.declared.session.SessionState.{SessionState}
use Rattle.reserving.specs.declared.session.SessionState.TheVariants.{Open, Ended, NeverOpened}
use Rattle.ledger.specs.Ledger.{is_same}
use Rattle.reserving.specs.Keyed.{put}
use Rattle.reserving.specs.Sessions.{is_session, session_in, is_of, group_in, is_live_in}
use Rattle.reserving.specs.Sessions.{is_live_row}
use Rattle.reserving.specs.Changes.{lapse, new_group, group_or_new, debited_account, session_put}
use Rattle.reserving.specs.Changes.{with_session}
use Rattle.ledger.specs.Lists.{EachIn}
use Rattle.reserving.specs.Rows.{AccountRows}
use Rattle.reserving.specs.Calm.{IsCalm}
use Rattle.reserving.specs.Sessions.{group_before, session_before}
use Rattle.reserving.proofs.Lists.{EachIn-put, find-put_other, EachIn-found, EachIn-weaker}
use Rattle.reserving.proofs.KeysFound.{found_session}
use Rattle.reserving.proofs.rows.Calm.{rows_map, settled_calm}
use Rattle.ledger.specs.Pricing.{validity_of}

-- ---- an event keeps the group's reservation

kept_reservation : (keeps : List ℕ → Bool) (s : List ℕ) (g : ℕ) (rows : List SessionGroup) →
    EachIn (λ r. keeps r.session ≡ false → r.reservation ≡ None) rows → keeps s ≡ false →
    (group_or_new s g rows).reservation ≡ None
kept_reservation keeps s g rows h k = at (group_in s g rows) refl
  where
    at : (o : Option SessionGroup) → group_in s g rows ≡ o →
        (unwrap_or o (new_group s g)).reservation ≡ None
    at None e = refl
    at (Some x) e =
        EachIn-found (λ r. keeps r.session ≡ false → r.reservation ≡ None) (is_of s g) rows x h e
        (ap keeps (found_session s g rows x e) ∙ k)

pub calm_debited : (a : AccountRows) (s : List ℕ) (g units blocks : ℕ) (due : Due) → IsCalm a →
    IsCalm (debited_account s g units blocks due a)
calm_debited a s g units blocks due h = record {
  sessions = h.sessions;
  groups = EachIn-put
      (λ r. is_live_in (validity_of a.shelf) a.as_of a.sessions r.session ≡ false →
      r.reservation ≡ None)
      group_before (is_of s g) _ a.groups
      (kept_reservation (is_live_in (validity_of a.shelf) a.as_of a.sessions) s g a.groups h.groups)
      h.groups;
  buckets = rows_map (λ b. nat_lt a.as_of b.until ≡ false → b.available ≡ 0)
      (λ b. nat_lt a.as_of b.until ≡ false → b.available ≡ 0)
      (settled_row [] g a.as_of due a.buckets) a.buckets
      (λ b e. settled_calm a.as_of b (paid_of_hold [] due a.buckets b)
      (paid_of_rest [] g a.as_of due a.buckets b)
      (held_in [] b - paid_of_hold [] due a.buckets b) e) h.buckets;
}

-- ---- a recorded request

new_same : (v : ℕ → ℕ) (t : ℕ) (s : List ℕ) (n u : ℕ) (state : SessionState) → 60 ≤ v u → t ≤ u →
    lapse v t (record { id = s; last_number = n; touched = u; state = state })
    ≡ record { id = s; last_number = n; touched = u; state = state }
new_same v t s n u Open some le =
    let still : nat_lt t (u + 2 * v u) ≡ true = grind (arith, nat_tests) in
    let ended : Session = record { id = s; last_number = n; touched = u; state = Ended } in
    let now : Session = record { id = s; last_number = n; touched = u; state = Open } in
    ap (λ p. if not p then ended else now) still
new_same v t s n u Ended some le = refl
new_same v t s n u NeverOpened some le = refl

live_unput : (v : ℕ → ℕ) (t : ℕ) (s x : List ℕ) (new : Session) (rows : List Session) → new.id ≡ s →
    session_in s rows ≡ None → is_live_in v t (put session_before (is_session s) new rows) x
    ≡ false →
    is_live_in v t rows x ≡ false
live_unput v t s x new rows named none k = at (is_same s x) refl
  where
    at : (e : Bool) → is_same s x ≡ e → is_live_in v t rows x ≡ false
    at true e =
        ap (is_live_row v t)
        (ap (λ y. session_in y rows) (sym (equal_names s x e)) ∙ none)
    at false e =
        ap (is_live_row v t)
        (sym (find-put_other session_before (is_session s) (is_session x) new rows
        (ap (λ y. is_same y x) named ∙ e)
        (λ y is. ap (λ z. is_same z x) (equal_names y.id s is) ∙ e)))
        ∙ k

pub calm_recorded : (a : AccountRows) (s : List ℕ) (n u : ℕ) (state : SessionState) →
    60 ≤ validity_of a.shelf u → a.as_of ≤ u → session_in s a.sessions ≡ None → IsCalm a →
    IsCalm (with_session s n u state a)
calm_recorded a s n u state some le none h = record {
  sessions = EachIn-put (λ r. lapse (validity_of a.shelf) a.as_of r ≡ r) session_before
      (is_session s) _
      a.sessions
      (new_same (validity_of a.shelf) a.as_of s n u state some le) h.sessions;
  groups = EachIn-weaker
      (λ r. is_live_in (validity_of a.shelf) a.as_of a.sessions r.session ≡ false →
      r.reservation ≡ None)
      (λ r. is_live_in (validity_of a.shelf) a.as_of (session_put s n u state a.sessions) r.session
      ≡ false → r.reservation ≡ None) a.groups
      (λ r e k. e (live_unput (validity_of a.shelf) a.as_of s r.session _ a.sessions refl none k))
      h.groups;
  buckets = h.buckets;
}
