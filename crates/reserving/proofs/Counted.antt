-- What a fact leaves, by what it counts: where it counts nothing of a kind, each sum over that kind
-- stays.
use Rattle.std.proofs.Common.{◌≡◌, ℕ, ◌+◌, Bool, true, false, true≢false, List, ◌∷◌, refl, sym}
use Rattle.std.proofs.Common.{ap, subst, ◌∙◌, Option, Some, None}
use Rattle.std.specs.Prelude.{◌==◌, ◌&&◌, ◌||◌, if◌then◌else◌, option_map, is_none, IfSome}
use Rattle.std.proofs.lemmas.Bool.{or_parts}
use Rattle.ledger.specs.Ledger.{Fact, Ledger, Recording, Counts, CreditOf, GrantOf, HoldOf, EndOf}
use Rattle.ledger.specs.Ledger.{UseOf, ChargeOf, RequestOf, counts, number_of, test_of, either}
use Rattle.ledger.specs.Ledger.{total, newest, or_else, inner, is_same, is_use_of}
use Rattle.ledger.specs.Parts.{paid_by}
use Rattle.ledger.specs.Parts.{units_by, blocks_by, is_use_in, is_grant_of, holds_by, but_ended}
use Rattle.ledger.specs.Ledger.{telling}
use Rattle.ledger.specs.Parts.{told_of, touched_at, recorded_at, names_group, units_in}
use Rattle.ledger.specs.Ledger.{charged, held, used, has_group}
use Rattle.ledger.specs.Parts.{credits_in, uses_in, grant_in}
use Rattle.ledger.specs.Ledger.{counter, has_counter, last_touch, last_recording, is_closed}
use Rattle.ledger.specs.Balance.{with_credit, credits}
use Rattle.ledger.specs.SoundLedger.{IsSoundLedger}
use Rattle.reserving.proofs.Lists.{no_some}
use Rattle.ledger.proofs.Holds.{same_from}
use Rattle.reserving.proofs.rows.Touching.{SameMoney, same_more, unknown-same, IsSoundLedger-same}

-- ---- nothing of a kind

-- a condition of it holds
pub has_none : {A : Type 0} (P : A → Type 0) (o : Option A) → o ≡ None → IfSome o P
has_none P o e = subst (λ x. IfSome x P) (sym e) tt

-- where the newest of a kind is none, there was none before
pub rest_none : {A : Type 0} (x y : Option A) → or_else x y ≡ None → y ≡ None
rest_none None y e = e
rest_none (Some x) y e = absurd (no_some x (sym e))

-- ---- groups that aren't named

abbrev pub is_named : List ℕ → ℕ → Option UseOf → Option GrantOf → Bool
is_named s g usage grant =
    either (option_map (is_use_of s g) usage) (option_map (is_grant_of s g) grant)

pub unnamed_use : (s : List ℕ) (g : ℕ) (u : Option UseOf) (x : Option GrantOf) →
    is_named s g u x ≡ false → number_of (units_by s g) u ≡ 0
unnamed_use s g None x h = refl
unnamed_use s g (Some u) None h = ap (λ y. if y then u.units else 0) h
unnamed_use s g (Some u) (Some x) h =
    ap (λ y. if y then u.units else 0) (or_parts (is_use_of s g u) (is_grant_of s g x) h).0

pub unnamed_grant : (s : List ℕ) (g : ℕ) (u : Option UseOf) (x : GrantOf) →
    is_named s g u (Some x) ≡ false → is_grant_of s g x ≡ false
unnamed_grant s g None x h = h
unnamed_grant s g (Some u) x h = (or_parts (is_use_of s g u) (is_grant_of s g x) h).1

-- a fact that doesn't name a session's group has no use of it
pub none_units : (s : List ℕ) (g : ℕ) (f : Fact) → names_group s g f ≡ false → units_in s g f ≡ 0
none_units s g f h = unnamed_use s g (counts f).usage (counts f).grant h

-- an end of a session's group
abbrev pub is_end : List ℕ → ℕ → EndOf → Bool
is_end s g e = is_same e.session s && e.group == g

-- nor tells of its grant, unless it ends it
pub untold : {A : Type 0} (read : GrantOf → A) (s : List ℕ) (g : ℕ) (u : Option UseOf)
    (x : Option GrantOf) (e : Option EndOf) → is_named s g u x ≡ false →
    test_of (is_end s g) e ≡ false → told_of read s g (telling x e) ≡ None
untold read s g u (Some x) e h k =
    ap (λ y. if y then Some (Some (read x)) else None) (unnamed_grant s g u x h)
untold read s g u None (Some e) h k = ap (λ y. if y then Some None else None) k
untold read s g u None None h k = refl

-- ---- a fact that speaks neither of buckets nor of groups

abbrev pub is_quiet : Fact → Bool
is_quiet f = is_none (counts f).credit && (is_none (counts f).grant && (is_none (counts f).hold
    && (is_none (counts f).end && (is_none (counts f).usage && is_none (counts f).charge))))

pub record IsQuiet (c : Counts) : Type 0 where
  pub credit : c.credit ≡ None
  pub grant : c.grant ≡ None
  pub hold : c.hold ≡ None
  pub end : c.end ≡ None
  pub usage : c.usage ≡ None
  pub charge : c.charge ≡ None

pub quiet : (f : Fact) → is_quiet f ≡ true → IsQuiet (counts f)
quiet f q = at (counts f).credit (counts f).grant (counts f).hold (counts f).end (counts f).usage
    (counts f).charge q
  where
    at : (a : Option CreditOf) (b : Option GrantOf) (c : Option HoldOf) (d : Option EndOf)
        (e : Option UseOf) (x : Option ChargeOf) →
        (is_none a && (is_none b && (is_none c && (is_none d && (is_none e && is_none x)))))
        ≡ true → IsQuiet (record (counts f) {
          credit = a;
          grant = b;
          hold = c;
          end = d;
          usage = e;
          charge = x;
        })
    at None None None None None None h = record {
      credit = refl;
      grant = refl;
      hold = refl;
      end = refl;
      usage = refl;
      charge = refl;
    }
    at (Some a) b c d e x h = absurd (true≢false (sym h))
    at None (Some b) c d e x h = absurd (true≢false (sym h))
    at None None (Some c) d e x h = absurd (true≢false (sym h))
    at None None None (Some d) e x h = absurd (true≢false (sym h))
    at None None None None (Some e) x h = absurd (true≢false (sym h))
    at None None None None None (Some x) h = absurd (true≢false (sym h))

-- it leaves each sum of money
pub quiet_money : (t : ℕ) (f : Fact) (ledger : Ledger) → IsQuiet (counts f) →
    SameMoney (record { at = t; fact = f } ∷ ledger) ledger
quiet_money t f ledger q =
    same_more t (record { at = t; fact = f } ∷ ledger) ledger
    (λ m i. number_of (paid_by m) (q.charge i) + charged m ledger)
    (λ p m i. number_of (holds_by p m) (q.hold i) + held (but_ended (q.end i) p) m ledger)
    (λ i. with_credit (q.credit i) (credits ledger))
    (λ s g i. number_of (units_by s g) (q.usage i) + used s g ledger)
    (λ s g i. is_named s g (q.usage i) (q.grant i) || has_group s g ledger)
    (λ s g i. inner (or_else (told_of (λ x. x.terms) s g (telling (q.grant i) (q.end i)))
    (newest (grant_in s g) ledger)))
    (λ h g c i. (if h t == c then number_of (blocks_by g) (q.usage i) else 0)
    + counter h g c ledger)
    (λ h g c i. test_of (is_use_in h g c t) (q.usage i) || has_counter h g c ledger)
    (λ i. number_of (λ x. 1) (q.credit i) + total (λ d. credits_in d.fact) ledger)
    (λ i. number_of (λ x. 1) (q.usage i) + total (λ d. uses_in d.fact) ledger)

-- ---- and leaves a ledger sound

-- a session that ends was recorded, and one that is recorded without a touch is new
pub record IsInPlace (c : Counts) (ledger : Ledger) : Type 0 where
  pub close : IfSome c.close (λ s. last_recording s ledger ≡ None → ⊥)
  pub request : IfSome c.request (λ r. last_recording r.session ledger ≡ None)

module _ (t : ℕ) (ledger : Ledger) (sound : IsSoundLedger ledger) where
  -- what was touched stays recorded
  still_recorded : (s : List ℕ) (x : ℕ) (o : Option RequestOf) →
      IfSome o (λ r. last_recording r.session ledger ≡ None) → last_touch s ledger ≡ Some x →
      option_map (λ (r : Recording). r.at)
      (or_else (recorded_at s t o) (last_recording s ledger)) ≡ Some x
  still_recorded s x None new h = sound.touched s x h
  still_recorded s x (Some r) new h = at (is_same r.session s) refl
    where
      at : (b : Bool) → is_same r.session s ≡ b →
          option_map (λ (y : Recording). y.at)
          (or_else (if b then Some (record { number = r.number; at = t }) else None)
          (last_recording s ledger)) ≡ Some x
      at false e = sound.touched s x h
      at true e = absurd (no_some x (
          sym (ap (option_map (λ (y : Recording). y.at))
          (ap (λ y. last_recording y ledger) (sym (same_from r.session s e)) ∙ new))
          ∙ sound.touched s x h))

  -- what wasn't recorded isn't closed
  still_open : (s : List ℕ) (o : Option (List ℕ)) →
      IfSome o (λ x. last_recording x ledger ≡ None → ⊥) → last_recording s ledger ≡ None →
      (test_of (λ x. is_same x s) o || is_closed s ledger) ≡ is_closed s ledger
  still_open s None known none = refl
  still_open s (Some x) known none = at (is_same x s) refl
    where
      at : (b : Bool) → is_same x s ≡ b → (b || is_closed s ledger) ≡ is_closed s ledger
      at false e = refl
      at true e =
          absurd (known (ap (λ y. last_recording y ledger) (same_from x s e) ∙ none))

  pub IsSoundLedger-quiet : (f : Fact) → IsQuiet (counts f) → (counts f).touch ≡ None →
      IsInPlace (counts f) ledger → IsSoundLedger (record { at = t; fact = f } ∷ ledger)
  IsSoundLedger-quiet f q untouched fits =
      let more : Ledger = record { at = t; fact = f } ∷ ledger in
      let money : SameMoney more ledger = quiet_money t f ledger q in
      IsSoundLedger-same more ledger money
      (λ s x e. still_recorded s x (counts f).request fits.request
      (sym (λ i. or_else (touched_at s t (untouched i)) (last_touch s ledger)) ∙ e))
      (λ s e.
      let none : last_recording s ledger ≡ None =
      rest_none (recorded_at s t (counts f).request) (last_recording s ledger) e in
      unknown-same s more ledger money (still_open s (counts f).close fits.close none)
      (sound.unknown s none)) sound
