-- What is loaded of an account's rows is what may still change of them, so that it may be changed
-- alone.
use Rattle.std.proofs.Common.{◌≡◌, ℕ, Bool, true, false, List, refl, sym, ap, ◌∙◌, Option, Some}
use Rattle.std.proofs.Common.{None}
use Rattle.std.specs.Prelude.{if◌then◌else◌, ◌==◌, ◌||◌, not, option_map}
use Rattle.shelves.specs.Shelves.{Shelf}
use Rattle.buckets.specs.Row.{BucketRow}
use Rattle.reserving.specs.declared.session.Session.{Session}
use Rattle.ledger.specs.Pricing.{cycle_at}
use Rattle.reserving.specs.Sessions.{is_open, session_in, group_in}
use Rattle.reserving.specs.Rows.{AccountRows}
use Rattle.reserving.specs.Stored.{StoredRows, stored, priced, advanced_stored}
use Rattle.reserving.specs.Left.{is_dead, is_open_row, only}
use Rattle.reserving.proofs.Lists.{no_some}
use Rattle.reserving.proofs.KeysFound.{is_none_is}
use Rattle.reserving.proofs.LeftParted.{dead_parts}
use Rattle.reserving.proofs.Advancing.{session_in-advanced}
use Rattle.keepers.specs.Tables.{Rows, GroupRow, group_row, held_of}
use Rattle.keepers.specs.Change.{has_reservation, is_loaded, IsLoadedFrom}
use Rattle.keepers.specs.Overlaying.{IsMadeFrom}
use Rattle.keepers.proofs.SweptRows.{none_lapsed}

-- of what doesn't pass nothing is loaded
only_none : {A : Type 0} (p : A → Bool) (x : A) → only p (Some x) ≡ None → p x ≡ false
only_none p x e = at (p x) e
  where
    at : (u : Bool) → (if u then Some x else None) ≡ None → u ≡ false
    at true k = absurd (no_some x (sym k))
    at false k = refl

only_found : {A : Type 0} (p : A → Bool) (o : Option A) (x : A) → only p o ≡ Some x → o ≡ Some x
only_found p None x e = absurd (no_some x e)
only_found p (Some y) x e = at (p y) e
  where
    at : (u : Bool) → (if u then Some y else None) ≡ Some x → Some y ≡ Some x
    at true k = k
    at false k = absurd (no_some x k)

if_found : {A : Type 0} (u : Bool) (o : Option A) (x : A) → (if u then o else None) ≡ Some x →
    o ≡ Some x
if_found true o x e = e
if_found false o x e = absurd (no_some x e)

-- what isn't loaded of a group that is there
if_none : {A : Type 0} (u : Bool) (o : Option A) (x : A) → (if u then o else None) ≡ None →
    o ≡ Some x → u ≡ false
if_none true o x e k = absurd (no_some x (sym e ∙ k))
if_none false o x e k = refl

neither : (u p : Bool) → (u || p) ≡ false → (u ≡ false) × (p ≡ false)
neither true p e = absurd (not_so e)
  where
    not_so : true ≡ false → ⊥
    not_so e = cc
neither false p e = (refl, e)

alive : (b : BucketRow) → not (is_dead b) ≡ false → is_dead b ≡ true
alive b e = at (is_dead b) e
  where
    at : (u : Bool) → not u ≡ false → u ≡ true
    at true k = refl
    at false k = sym k

pub no_open : (o : Option Session) → is_open_row o ≡ false → only (λ r. is_open r.state) o ≡ None
no_open None e = refl
no_open (Some x) e = ap (λ u. if u then Some x else None) e

unreserved : (o : Option GroupRow) (x : GroupRow) → o ≡ Some x → has_reservation o ≡ false →
    x.terms ≡ None
unreserved o x e k = is_none_is x.terms (sym (ap has_reservation e) ∙ k)

held_loaded : (u : Bool) (o : Option GroupRow) (x : GroupRow) (m n : ℕ) →
    (if u then o else None) ≡ Some x → m ≡ (if u then n else 0) → n ≡ m
held_loaded true o x m n e k = sym k
held_loaded false o x m n e k = absurd (no_some x e)

pub loaded_may_change : (shelf : Shelf) (t : ℕ) (r : Rows) (a : AccountRows) →
    IsLoadedFrom shelf t r a → IsMadeFrom (stored a) (stored a) r
loaded_may_change shelf t r a h = record {
  there = record {
    buckets = λ n x e. only_found (λ b. not (is_dead b)) (r.buckets n) x (sym (h.buckets n) ∙ e);
    counters = λ g c x e. if_found (c == cycle_at shelf g t) (r.counters g c) x
        (sym (h.counters g c) ∙ e);
    sessions = λ s x e. only_found (λ y. is_open y.state) (r.sessions s) x (sym (h.sessions s) ∙ e);
    groups = λ s g x e. if_found (is_loaded r s g) (r.groups s g) (group_row x)
        (sym (h.groups s g) ∙ ap (option_map group_row) e);
    holds = λ s g n x e. held_loaded (is_loaded r s g) (r.groups s g) (group_row x)
        (held_of n (Some x)) (r.holds s g n) (sym (h.groups s g) ∙ ap (option_map group_row) e)
        (ap (held_of n) (sym e) ∙ h.holds s g n);
  };
  rest = record {
    dead = λ n x e k. dead_parts x (alive x (only_none (λ b. not (is_dead b)) x
        (ap (only (λ b. not (is_dead b))) (sym e) ∙ sym (h.buckets n) ∙ k)));
    ended = λ s x e k. only_none (λ y. is_open y.state) x
        (ap (only (λ (y : Session). is_open y.state)) (sym e) ∙ sym (h.sessions s) ∙ k);
    free = λ s g x e k.
        let closed = neither (is_open_row (r.sessions s)) (has_reservation (r.groups s g))
        (if_none (is_loaded r s g) (r.groups s g) x
        (sym (h.groups s g) ∙ ap (option_map group_row) k) e) in (
          unreserved (r.groups s g) x e closed.1,
          h.sessions s ∙ no_open (r.sessions s) closed.0,
        );
  };
}

-- and what isn't among the rows brought on was free and of no session that is among them
pub free_later : (shelf : Shelf) (t : ℕ) (w : StoredRows) (r : Rows) → IsMadeFrom w w r →
    (s : List ℕ) (g : ℕ) (x : GroupRow) → r.groups s g ≡ Some x →
    group_in s g (advanced_stored shelf t w).groups ≡ None →
    (x.terms ≡ None) × (session_in s (advanced_stored shelf t w).sessions ≡ None)
free_later shelf t w r made s g x e k =
    let free = made.rest.free s g x e (none_lapsed shelf t w s g k) in
    (free.0, session_in-advanced s t (priced shelf w) free.1)
