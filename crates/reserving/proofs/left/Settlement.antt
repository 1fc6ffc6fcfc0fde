-- What a settlement answers, from a ledger whose rows the account's are together with those left.
use Rattle.std.proofs.Common.{◌≡◌, ℕ, ◌≤◌, true, false, List, sym, ap, subst, ◌∙◌}
use Rattle.units.specs.declared.blocks.UsedPart.{UsedPart}
use Rattle.buckets.specs.declared.holds.HeldAmount.{HeldAmount}
use Rattle.buckets.specs.Holding.{uncollected}
use Rattle.buckets.specs.Kinds.{due}
use Rattle.reserving.specs.declared.settle.Settled.{Settled}
use Rattle.ledger.specs.Ledger.{Ledger}
use Rattle.reserving.specs.Sessions.{is_of, is_live_in}
use Rattle.reserving.specs.Changes.{advanced, reserved_in, price_in, missing_in}
use Rattle.ledger.specs.Lists.{EachIn}
use Rattle.reserving.specs.Rows.{AccountRows}
use Rattle.reserving.specs.Results.{IsAnswered, IsSettlementOf}
use Rattle.reserving.specs.Left.{LeftRows, merged, joined, IsWith}
use Rattle.reserving.proofs.calls.Settled.{settlement_is}
use Rattle.reserving.proofs.LeftFrames.{live, not_of_live, holds_same, holds_none, advanced_joined}
use Rattle.reserving.proofs.LeftMore.{with_advanced}
use Rattle.reserving.proofs.LeftReadings.{price_joined, uncollected_merged}
use Rattle.ledger.specs.Pricing.{validity_of}

pub settlement_beside : (ledger : Ledger) (left : LeftRows) (a : AccountRows) (s : List ℕ)
    (g t : ℕ) (used_parts : List UsedPart) (x : Settled) →
    IsWith ledger left t a → a.as_of ≤ t → is_live_in (validity_of a.shelf) t a.sessions s ≡ true →
    IsAnswered (price_in s g t used_parts a) (missing_in s g t used_parts a) x →
    IsSettlementOf a.shelf t s g used_parts ledger x
settlement_beside ledger left a s g t used_parts x h le alive told =
    let whole : AccountRows = joined left a in
    let later : AccountRows = advanced t a in
    let not_of : EachIn (λ y. is_of s g y ≡ false) left.groups =
    not_of_live left a t s g h.apart alive in
    let with_later : IsWith ledger left t later = with_advanced ledger left t a le h in
    let cost : price_in s g t used_parts whole ≡ price_in s g t used_parts a =
    price_joined left a s g t used_parts h.apart h.cycles not_of in
    let holds : List HeldAmount = reserved_in s g later.groups in
    let amount : ℕ = (price_in s g t used_parts a).amount.0 in
    let whole_later : advanced t whole ≡ joined left later = advanced_joined t left a h.apart in
    let held : reserved_in s g (advanced t whole).groups ≡ holds =
    ap (λ (y : AccountRows). reserved_in s g y.groups) whole_later
    ∙ holds_same left later with_later.apart s g not_of in
    let buckets : (advanced t whole).buckets ≡ merged left.buckets later.buckets =
    ap (λ (y : AccountRows). y.buckets) whole_later in
    let missing : missing_in s g t used_parts whole ≡ missing_in s g t used_parts a =
    (λ i. uncollected (held i) g t (cost i).amount.0 (buckets i))
    ∙ uncollected_merged holds g t (due amount 0) left.buckets later.buckets h.apart.dead
    (holds_none left later with_later.apart s g not_of) in
    settlement_is ledger whole s g t used_parts x h.apart.whole h.rows le
    (live left a h.apart t s ∙ alive)
    (subst (λ n. IsAnswered (price_in s g t used_parts whole) n x) (sym missing)
    (subst (λ y. IsAnswered y (missing_in s g t used_parts a) x) (sym cost) told))
