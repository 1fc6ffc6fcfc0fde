-- A settlement's call, from a ledger whose rows the account's are together with those left.
use Rattle.std.proofs.Common.{◌≡◌, ℕ, ◌+◌, ◌<◌, ◌≤◌, true, false, List, [], ◌∷◌, refl, sym, ap}
use Rattle.std.proofs.Common.{subst, ◌∙◌, arith}
use Rattle.std.proofs.lemmas.Bool.Decides.{nat_tests}
use Rattle.units.specs.declared.blocks.UsedPart.{UsedPart}
use Rattle.rating.specs.declared.report.Rated.{Rated}
use Rattle.reserving.specs.declared.session.SessionGroup.{SessionGroup}
use Rattle.ledger.specs.Ledger.{Ledger, is_live}
use Rattle.ledger.specs.Pricing.{cycle_at, validity_of}
use Rattle.reserving.specs.Sessions.{is_of, is_live_in}
use Rattle.ledger.specs.Settlement.{reported, passes, settled_by, due_of}
use Rattle.reserving.specs.Changes.{advanced, used_in, count_in, price_in}
use Rattle.reserving.specs.Changes.{settled_account, settled_by_rows, passes_in}
use Rattle.ledger.specs.Lists.{EachIn}
use Rattle.reserving.specs.Rows.{AccountRows, IsRowsOf}
use Rattle.reserving.specs.Left.{LeftRows, joined, IsWith}
use Rattle.reserving.proofs.Advancing.{is_live_in-is}
use Rattle.reserving.proofs.kept.Settled.{IsAccount-settled}
use Rattle.reserving.proofs.order.SameRows.{IsAccount-reordered}
use Rattle.reserving.proofs.calls.RowParts.{used_later}
use Rattle.reserving.proofs.calls.Settled.{price_later, within_used, within_counted}
use Rattle.reserving.proofs.LeftFrames.{live, not_of_live, row_same, count_same, settled_joined}
use Rattle.reserving.proofs.LeftFrames.{settled_with_left}
use Rattle.reserving.proofs.LeftMore.{with_advanced, with_ended, with_facts}

-- the limits hold
pub record Fits (a : AccountRows) (s : List ℕ) (g t units blocks : ℕ) : Type 0 where
  pub used : used_in s g a.groups + units ≤ 1000000000000000000
  pub counted : count_in g (cycle_at a.shelf g t) a.counters + blocks ≤ 4000000000000000000
  pub charges : a.next_charge < 4294967296

-- rule: database-loads
pub with_settled : (ledger : Ledger) (left : LeftRows) (a : AccountRows) (s : List ℕ) (g : ℕ)
    (used_parts : List UsedPart) → IsWith ledger left a.as_of a →
    is_live_in (validity_of a.shelf) a.as_of a.sessions s ≡ true →
    Fits a s g a.as_of (reported used_parts) (price_in s g a.as_of used_parts a).blocks →
    IsWith (settled_by a.shelf a.as_of s g used_parts ledger) left a.as_of
    (settled_by_rows s g used_parts a)
with_settled ledger left a s g [] h alive fits = with_ended ledger left a s g h alive
with_settled ledger left a s g (p ∷ ps) h alive fits =
    let x : Rated = price_in s g a.as_of (p ∷ ps) a in
    let not_of : EachIn (λ r. is_of s g r ≡ false) left.groups =
    not_of_live left a a.as_of s g h.apart alive in
    let used : used_in s g (joined left a).groups ≡ used_in s g a.groups =
    ap (λ (r : SessionGroup). r.used) (row_same left a h.apart s g not_of) in
    let count : count_in g (cycle_at a.shelf g a.as_of) (joined left a).counters
    ≡ count_in g (cycle_at a.shelf g a.as_of) a.counters =
    count_same left a h.apart s g not_of h.cycles in
    with_facts (settled_by a.shelf a.as_of s g (p ∷ ps) ledger) ledger left a.as_of a
    (settled_by_rows s g (p ∷ ps) a) refl refl h
    (IsAccount-reordered
    (settled_account s g (reported (p ∷ ps)) x.blocks (due_of x) (joined left a))
    (joined left (settled_account s g (reported (p ∷ ps)) x.blocks (due_of x) a))
    (settled_joined left a h.apart s g not_of h.cycles (reported (p ∷ ps)) x.blocks (due_of x))
    (IsAccount-settled (joined left a) s g (reported (p ∷ ps)) x.blocks (due_of x)
    (omega (arith, used, fits.used)) (omega (arith, count, fits.counted)) fits.charges
    h.apart.whole))
    (settled_with_left ledger left a s g (p ∷ ps) h.apart h.cycles alive h.rows)

-- the session lives on at the moment
pub live_later : (ledger : Ledger) (left : LeftRows) (a : AccountRows) (s : List ℕ) (t : ℕ) →
    a.as_of ≤ t → IsWith ledger left t a → IsWith ledger left t (advanced t a) →
    is_live_in (validity_of a.shelf) t a.sessions s ≡ true →
    is_live_in (validity_of a.shelf) t (advanced t a).sessions s ≡ true
live_later ledger left a s t le h k alive =
    let now : t ≤ t = omega arith in
    sym (live left (advanced t a) k.apart t s)
    ∙ is_live_in-is ledger (joined left (advanced t a)) t s k.rows now
    ∙ sym (is_live_in-is ledger (joined left a) t s h.rows le)
    ∙ live left a h.apart t s ∙ alive

-- a session that lives at a moment, in the rows as the call finds them then
pub record IsLiveThen (ledger : Ledger) (a : AccountRows) (s : List ℕ) (t : ℕ) : Type 0 where
  pub rows : IsRowsOf ledger (advanced t a)
  pub live : is_live (validity_of a.shelf) t ledger s ≡ true

pub live_then : (ledger : Ledger) (a middle : AccountRows) (s : List ℕ) (t : ℕ) →
    middle ≡ advanced t a → IsRowsOf ledger a → IsRowsOf ledger middle → a.as_of ≤ t →
    is_live_in (validity_of a.shelf) t a.sessions s ≡ true → IsLiveThen ledger a s t
live_then ledger a middle s t m rows later le alive = record {
  rows = subst (IsRowsOf ledger) m later;
  live = sym (is_live_in-is ledger a t s rows le) ∙ alive;
}

-- the same beside rows that were left
pub record IsLiveBeside (ledger : Ledger) (left : LeftRows) (a : AccountRows) (s : List ℕ) (t : ℕ) :
    Type 0 where
  pub rows : IsWith ledger left t (advanced t a)
  pub live : is_live_in (validity_of a.shelf) t (advanced t a).sessions s ≡ true

pub live_beside : (ledger : Ledger) (left : LeftRows) (a middle : AccountRows)
    (s : List ℕ) (t : ℕ) →
    middle ≡ advanced t a → IsWith ledger left t a → IsWith ledger left t middle → a.as_of ≤ t →
    is_live_in (validity_of a.shelf) t a.sessions s ≡ true → IsLiveBeside ledger left a s t
live_beside ledger left a middle s t m h k le alive =
    let later : IsWith ledger left t (advanced t a) = subst (IsWith ledger left t) m k in
    record { rows = later; live = live_later ledger left a s t le h later alive }

pub most_charge : (before units count blocks charge : ℕ) →
    passes before units count blocks charge ≡ false → charge < 4294967296
most_charge before units count blocks charge h = grind (arith, nat_tests)

-- the rows of the ledger with the settlement
pub left_settled : (ledger : Ledger) (left : LeftRows) (a : AccountRows) (s : List ℕ) (g t : ℕ)
    (used_parts : List UsedPart) →
    IsWith ledger left t a → a.as_of ≤ t → is_live_in (validity_of a.shelf) t a.sessions s ≡ true →
    passes_in s g t used_parts a ≡ false →
    IsWith (settled_by a.shelf t s g used_parts ledger) left t
    (settled_by_rows s g used_parts (advanced t a))
left_settled ledger left a s g t [] h le alive fits =
    let with_later : IsWith ledger left t (advanced t a) = with_advanced ledger left t a le h in
    with_ended ledger left (advanced t a) s g with_later
    (live_later ledger left a s t le h with_later alive)
left_settled ledger left a s g t (p ∷ ps) h le alive fits =
    let later : AccountRows = advanced t a in
    let with_later : IsWith ledger left t later = with_advanced ledger left t a le h in
    let x : Rated = price_in s g t (p ∷ ps) a in
    let cost : x ≡ price_in s g t (p ∷ ps) later = price_later a s g t (p ∷ ps) alive in
    let blocks : x.blocks ≡ (price_in s g t (p ∷ ps) later).blocks =
    ap (λ (y : Rated). y.blocks) cost in
    let used : used_in s g later.groups ≡ used_in s g a.groups =
    used_later (is_live_in (validity_of a.shelf) t a.sessions) s g a.groups in
    let within : used_in s g a.groups + reported (p ∷ ps) ≤ 1000000000000000000 =
    within_used (used_in s g a.groups) (reported (p ∷ ps))
    (count_in g (cycle_at a.shelf g t) a.counters) x.blocks a.next_charge fits in
    let counted : count_in g (cycle_at a.shelf g t) a.counters + x.blocks ≤ 4000000000000000000 =
    within_counted (used_in s g a.groups) (reported (p ∷ ps))
    (count_in g (cycle_at a.shelf g t) a.counters) x.blocks a.next_charge fits in
    with_settled ledger left later s g (p ∷ ps) with_later
    (live_later ledger left a s t le h with_later alive)
    (record {
      used = omega (arith, used, within);
      counted = omega (arith, counted, blocks);
      charges =
          most_charge (used_in s g a.groups) (reported (p ∷ ps))
          (count_in g (cycle_at a.shelf g t) a.counters) x.blocks a.next_charge fits;
    })
