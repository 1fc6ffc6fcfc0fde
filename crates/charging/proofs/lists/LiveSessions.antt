-- What settlements, reservations and debits leave of live and of new sessions.
use Rattle.std.proofs.Common.{◌≡◌, ℕ, Bool, true, false, List, [], ◌∷◌, ◌++◌, refl, ◌∙◌}
use Rattle.std.proofs.Common.{arith, ◌+◌, ◌*◌, ◌<◌, None}
use Rattle.std.specs.Prelude.{not, nat_lt}
use Rattle.std.proofs.lemmas.Bool.{and_parts}
use Rattle.std.proofs.lemmas.Bool.Decides.{nat_tests}
use Rattle.units.specs.declared.blocks.UsedPart.{UsedPart}
use Rattle.shelves.specs.Shelves.{Shelf, IsShelf}
use Rattle.shelves.proofs.Begun.{validity_some}
use Rattle.buckets.specs.declared.holds.HeldAmount.{HeldAmount}
use Rattle.buckets.specs.declared.kind.Due.{Due}
use Rattle.buckets.specs.Holding.{holds_of, paid}
use Rattle.buckets.specs.Row.{BucketRow}
use Rattle.buckets.specs.Share.{parts}
use Rattle.rating.specs.declared.report.Rated.{Rated}
use Rattle.ledger.specs.Balance.{buckets_at}
use Rattle.ledger.specs.Debiting.{debited, rest_price}
use Rattle.ledger.specs.Ledger.{Ledger, is_closed, is_live, last_recording}
use Rattle.ledger.specs.Ledger.{last_touch}
use Rattle.ledger.specs.Ledger.Fact.{Grant}
use Rattle.ledger.specs.Parts.{is_within}
use Rattle.ledger.specs.Pricing.{validity_of}
use Rattle.ledger.specs.Requests.{touched}
use Rattle.ledger.specs.Reservation.{grant_at, hold_facts, reserved}
use Rattle.ledger.specs.Settlement.{due_of, report_price, reported, settled_by}
use Rattle.ledger.proofs.Fronts.{same_live}
use Rattle.ledger.proofs.Names.{is_same-refl}
use Rattle.ledger.proofs.SettledBuckets.{same_sessions-ended, same_sessions-settled}
use Rattle.charging.proofs.steps.Recorded.{charges_record}

-- ---- live sessions

pub live_settled : (b : Shelf) (t : ℕ) (s : List ℕ) (g : ℕ) (used_parts : List UsedPart)
    (ledger : Ledger) → is_live (validity_of b) t ledger s ≡ true →
    is_live (validity_of b) t (settled_by b t s g used_parts ledger) s ≡ true
live_settled b t s g [] ledger live =
    same_live (validity_of b) t ledger (settled_by b t s g [] ledger)
    (same_sessions-ended t s g ledger) s ∙ live
live_settled b t s g (p ∷ ps) ledger live =
    let price : Rated = report_price b t s g (p ∷ ps) ledger in
    same_live (validity_of b) t ledger (settled_by b t s g (p ∷ ps) ledger)
    (same_sessions-settled (validity_of b) t s g (reported (p ∷ ps)) price.blocks (due_of price)
    ledger) s ∙ live

live_holds : (v : ℕ → ℕ) (t at : ℕ) (s x : List ℕ) (g : ℕ) (hs : List HeldAmount)
    (ledger : Ledger) → is_live v t (hold_facts at s g hs ++ ledger) x ≡ is_live v t ledger x
live_holds v t at s x g [] ledger = refl
live_holds v t at s x g (h ∷ hs) ledger = live_holds v t at s x g hs ledger

pub live_reserved : (b : Shelf) (t : ℕ) (s : List ℕ) (g units : ℕ) (due : Due) (ledger : Ledger) →
    is_live (validity_of b) t ledger s ≡ true →
    is_live (validity_of b) t (reserved b t s g units due ledger) s ≡ true
live_reserved b t s g units due ledger live =
    live_holds (validity_of b) t t s s g
    (holds_of g t due (buckets_at (validity_of b) t ledger))
    (record { at = t; fact = Grant (grant_at b t s g units ledger) } ∷ ledger) ∙ live

begun : (v : ℕ → ℕ) (t : ℕ) (s : List ℕ) (n : ℕ) (ledger : Ledger) → 0 < v t →
    is_closed s ledger ≡ false → is_live v t (touched t s n ledger) s ≡ true
begun v t s n ledger some unclosed =
    let early : nat_lt t (t + 2 * v t) ≡ true = grind (arith, nat_tests) in
    rw (is_same-refl s, early, unclosed) refl

-- a session is live once it is touched, unless it is closed
pub live_touched : (b : Shelf) → IsShelf b → (t : ℕ) (s : List ℕ) (n : ℕ) (ledger : Ledger) →
    is_closed s ledger ≡ false → is_live (validity_of b) t (touched t s n ledger) s ≡ true
live_touched b shelf t s n ledger unclosed =
    let some = validity_some b t shelf in
    begun (validity_of b) t s n ledger (omega (arith, some)) unclosed

pub not_false : (c : Bool) → not c ≡ true → c ≡ false
not_false false e = refl
not_false true e = cc

-- a live session isn't closed
pub live_unclosed : (b : Shelf) (t : ℕ) (s : List ℕ) (ledger : Ledger) →
    is_live (validity_of b) t ledger s ≡ true → is_closed s ledger ≡ false
live_unclosed b t s ledger live =
    not_false (is_closed s ledger)
    (and_parts (is_within (validity_of b) t (last_touch s ledger)) (not (is_closed s ledger)) live).1

-- ---- records

-- a debit records nothing
pub unrecorded_debited : (b : Shelf) (t : ℕ) (s x : List ℕ) (g units : ℕ) (ledger : Ledger) →
    last_recording x ledger ≡ None → last_recording x (debited b t s g units ledger) ≡ None
unrecorded_debited b t s x g units ledger new =
    let rows : List BucketRow = buckets_at (validity_of b) t ledger in
    charges_record x t (parts (paid [] g t (due_of (rest_price b t g units ledger)) rows) rows)
    ledger ∙ new
