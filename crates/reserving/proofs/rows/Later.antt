-- The rows of a ledger at a later moment.
use Rattle.std.proofs.Common.{◌≡◌, ℕ, ◌+◌, ◌*◌, ◌≤◌, Bool, true, false, List, refl, ap, arith}
use Rattle.std.proofs.Common.{Option, Some, None}
use Rattle.std.specs.Prelude.{if◌then◌else◌, ◌&&◌, not, nat_lt, option_map, is_some}
use Rattle.std.proofs.lemmas.Bool.Decides.{nat_tests}
use Rattle.reserving.specs.declared.session.Session.{Session}
use Rattle.reserving.specs.declared.session.SessionState.TheVariants.{Open, Ended, NeverOpened}
use Rattle.ledger.specs.Ledger.{Ledger, Recording, is_live, is_closed, last_touch}
use Rattle.ledger.specs.Parts.{is_within}
use Rattle.ledger.specs.Ledger.{last_recording}
use Rattle.reserving.specs.Sessions.{session_at, session_row, is_open, is_live_row}
use Rattle.reserving.specs.Changes.{lapse}
use Rattle.reserving.proofs.Lists.{no_some, some_of}

-- ---- whether a session is live, by its row and by the ledger

within_later : (v : ℕ → ℕ) (t1 t2 x : ℕ) → t1 ≤ t2 →
    (nat_lt t1 (x + 2 * v x) && nat_lt t2 (x + 2 * v x)) ≡ nat_lt t2 (x + 2 * v x)
within_later v t1 t2 x le = grind (arith, nat_tests)

-- the row is open at the first moment, and the second is within its time
row_live : (t : Bool) (p : Bool) (o closed : Bool) → (o && p) ≡ p →
    (is_open (if (o && not closed) then Open else (if t then Ended else NeverOpened)) && p)
    ≡ (p && not closed)
row_live t true true true h =
    elim t as (λ b. (is_open (if b then Ended else NeverOpened) && true) ≡ false)
    [ true ↦ refl | false ↦ refl ]
row_live t true true false h = refl
row_live t true false c h = absurd (let no : false ≡ true = h in cc)
row_live t false true true h =
    elim t as (λ b. (is_open (if b then Ended else NeverOpened) && false) ≡ false)
    [ true ↦ refl | false ↦ refl ]
row_live t false true false h = refl
row_live t false false c h =
    elim t as (λ b. (is_open (if b then Ended else NeverOpened) && false) ≡ false)
    [ true ↦ refl | false ↦ refl ]

live_row : (v : ℕ → ℕ) (t1 t2 : ℕ) (s : List ℕ) (touch : Option ℕ) (closed : Bool)
    (r : Option Recording) →
    t1 ≤ t2 → ((x : ℕ) → touch ≡ Some x → option_map (λ (y : Recording). y.at) r ≡ Some x) →
    is_live_row v t2
    (session_row s
    (if is_within v t1 touch && not closed then Open
    else (if is_some touch then Ended else NeverOpened)) r)
    ≡ (is_within v t2 touch && not closed)
live_row v t1 t2 s None closed None le h = refl
live_row v t1 t2 s None closed (Some r) le h = refl
live_row v t1 t2 s (Some x) closed None le h = absurd (no_some x (h x refl))
live_row v t1 t2 s (Some x) closed (Some r) le h =
    let same : r.at ≡ x = some_of r.at x (h x refl) in
    rw same (row_live true (nat_lt t2 (x + 2 * v x)) (nat_lt t1 (x + 2 * v x)) closed
    (within_later v t1 t2 x le))

-- rule: session-live
pub is_live-later : (v : ℕ → ℕ) (t1 t2 : ℕ) (ledger : Ledger) (s : List ℕ) → t1 ≤ t2 →
    ((x : ℕ) → last_touch s ledger ≡ Some x →
    option_map (λ (y : Recording). y.at) (last_recording s ledger) ≡ Some x) →
    is_live_row v t2 (session_at v t1 ledger s) ≡ is_live v t2 ledger s
is_live-later v t1 t2 ledger s le h =
    live_row v t1 t2 s (last_touch s ledger) (is_closed s ledger) (last_recording s ledger) le h

-- ---- the rows of sessions

later_state : (p1 p2 closed : Bool) (s : List ℕ) (n x : ℕ) (v : ℕ → ℕ) (t : ℕ) → (p1 && p2) ≡ p2 →
    nat_lt t (x + 2 * v x) ≡ p2 →
    (let r : Session =
    record {
      id = s;
      last_number = n;
      touched = x;
      state = if p2 && not closed then Open
          else Ended;
    } in r)
    ≡ lapse v t
    (record {
      id = s;
      last_number = n;
      touched = x;
      state = if p1 && not closed then Open
          else Ended;
    })
later_state true true true s n x v t h e = refl
later_state true true false s n x v t h e = rw e refl
later_state true false true s n x v t h e = refl
later_state true false false s n x v t h e = rw e refl
later_state false true c s n x v t h e = absurd (let no : false ≡ true = h in cc)
later_state false false c s n x v t h e = refl

session_later : (v : ℕ → ℕ) (t1 t2 : ℕ) (s : List ℕ) (touch : Option ℕ) (closed : Bool)
    (r : Option Recording)
    → t1 ≤ t2 → ((x : ℕ) → touch ≡ Some x → option_map (λ (y : Recording). y.at) r ≡ Some x) →
    session_row s
    (if is_within v t2 touch && not closed then Open
    else (if is_some touch then Ended else NeverOpened)) r
    ≡ option_map (lapse v t2)
    (session_row s
    (if is_within v t1 touch && not closed then Open
    else (if is_some touch then Ended else NeverOpened)) r)
session_later v t1 t2 s None closed None le h = refl
session_later v t1 t2 s None closed (Some r) le h = refl
session_later v t1 t2 s (Some x) closed None le h = refl
session_later v t1 t2 s (Some x) closed (Some r) le h =
    let same : r.at ≡ x = some_of r.at x (h x refl) in
    rw same (ap Some
    (later_state (nat_lt t1 (x + 2 * v x)) (nat_lt t2 (x + 2 * v x)) closed s r.number x v t2
    (within_later v t1 t2 x le) refl))

pub session_at-later : (v : ℕ → ℕ) (t1 t2 : ℕ) (ledger : Ledger) (s : List ℕ) → t1 ≤ t2 →
    ((x : ℕ) → last_touch s ledger ≡ Some x →
    option_map (λ (y : Recording). y.at) (last_recording s ledger) ≡ Some x) →
    session_at v t2 ledger s ≡ option_map (lapse v t2) (session_at v t1 ledger s)
session_at-later v t1 t2 ledger s le h =
    session_later v t1 t2 s (last_touch s ledger) (is_closed s ledger) (last_recording s ledger) le
    h
