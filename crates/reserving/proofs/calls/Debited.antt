-- A debit's call, from any ledger whose rows the account is before it.
use Rattle.std.proofs.Common.{◌≡◌, ℕ, ◌+◌, ◌-◌, ◌<◌, ◌≤◌, Bool, true, false, List, [], map, refl}
use Rattle.std.proofs.Common.{sym, ap, subst, ◌∙◌, arith, None}
use Rattle.std.specs.Prelude.{nat_le, not}
use Rattle.std.specs.Ordering.{is_lt, nat_cmp}
use Rattle.std.proofs.lemmas.Cmp.{ranked, by_ranked}
use Rattle.std.proofs.lemmas.Bool.Decides.{nat_tests}
use Rattle.buckets.specs.declared.holds.HeldAmount.{HeldAmount}
use Rattle.buckets.specs.Row.{BucketRow, with_release, with_end}
use Rattle.buckets.specs.Spend.{funds, allowance}
use Rattle.buckets.specs.Holding.{settled_rows, uncollected}
use Rattle.rating.specs.declared.report.Rated.{Rated}
use Rattle.buckets.specs.Kinds.{due}
use Rattle.buckets.specs.declared.kind.Due.{Due}
use Rattle.reserving.specs.declared.session.SessionGroup.{SessionGroup}
use Rattle.reserving.specs.declared.session.Counter.{Counter}
use Rattle.reserving.specs.declared.settle.Settled.{Settled}
use Rattle.ledger.specs.Ledger.{Ledger}
use Rattle.ledger.specs.Pricing.{cycle_at, validity_of}
use Rattle.reserving.specs.Keyed.{put}
use Rattle.reserving.specs.Sessions.{is_of, is_live_in}
use Rattle.ledger.specs.Settlement.{price_of, passes, due_of}
use Rattle.ledger.specs.Debiting.{untagged, event_price, debit_passes, charged_use}
use Rattle.ledger.specs.Debiting.{debited, rest_price}
use Rattle.reserving.specs.Changes.{lapse_group, lapsed_in, advanced, group_or_new, used_in}
use Rattle.reserving.specs.Changes.{count_in, with_event, with_count, event_price_in}
use Rattle.reserving.specs.Changes.{debited_account, rest_price_in, is_covered_in, debit_passes_in}
use Rattle.reserving.specs.Prepared.{with_group, with_rows}
use Rattle.reserving.specs.Rows.{AccountRows, IsAccount, IsRowsOf}
use Rattle.reserving.specs.Results.{IsAnswered, IsDebitIn, IsDebitOf}
use Rattle.reserving.specs.Sessions.{group_before}
use Rattle.reserving.proofs.Advancing.{IsRowsOf-advanced}
use Rattle.reserving.proofs.Advanced.{IsAccount-advanced}
use Rattle.reserving.proofs.SettledRows.{used_in_is, count_in_is}
use Rattle.reserving.proofs.calls.RowParts.{charged_parts, put_later, or_new_later}
use Rattle.reserving.proofs.calls.RowParts.{held_by-with_group, counted_later}
use Rattle.reserving.proofs.rows.Debited.{IsRowsOf-debited}

-- ---- an event's price

pub at_least : (x y : ℕ) → nat_le y x ≡ not (is_lt (nat_cmp x y))
at_least x y = by_ranked (x < y) (x ≡ y) (y < x) (nat_cmp x y) (ranked x y _ refl)
    (λ e l. (let t : nat_le y x ≡ false = grind (arith, nat_tests) in
    t ∙ sym (ap (λ o. not (is_lt o)) e)))
    (λ e l. (let t : nat_le y x ≡ true = grind (arith, nat_tests) in
    t ∙ sym (ap (λ o. not (is_lt o)) e)))
    (λ e l. (let t : nat_le y x ≡ true = grind (arith, nat_tests) in
    t ∙ sym (ap (λ o. not (is_lt o)) e)))

-- by the rows it is what it is by the ledger
pub event_price_is : (ledger : Ledger) (a : AccountRows) (group covered units t : ℕ) →
    IsRowsOf ledger a →
    event_price_in group covered units t a ≡ event_price a.shelf t group covered units ledger
event_price_is ledger a group covered units t rows =
    λ i. price_of a.shelf t group None 0
    (count_in_is ledger a group (cycle_at a.shelf group t) rows i) covered (untagged units)

pub rest_price_is : (ledger : Ledger) (a : AccountRows) (group units t : ℕ) → IsAccount a →
    IsRowsOf ledger a → a.as_of ≤ t →
    rest_price_in group units t a ≡ rest_price a.shelf t group units ledger
rest_price_is ledger a group units t account rows le =
    event_price_is ledger a group (allowance group t (advanced t a).buckets) units t rows
    ∙ (λ i. event_price a.shelf t group
    (allowance group t ((IsRowsOf-advanced ledger a t account rows le).buckets i)) units ledger)

pub debit_passes_is : (ledger : Ledger) (a : AccountRows) (s : List ℕ) (group units t : ℕ) →
    IsAccount a → IsRowsOf ledger a → a.as_of ≤ t →
    debit_passes a.shelf t s group units ledger
    ≡ passes (used_in s group a.groups) units
    (count_in group (cycle_at a.shelf group t) a.counters)
    (rest_price_in group units t a).blocks a.next_charge
debit_passes_is ledger a s group units t account rows le =
    λ i. passes (sym (used_in_is ledger a s group rows) i) units
    (sym (count_in_is ledger a group (cycle_at a.shelf group t) rows) i)
    (sym (rest_price_is ledger a group units t account rows le) i).blocks (sym rows.next_charge i)

-- the price is covered where the funds aren't less
-- rule: grant-units.passes-in
pub covered_in_is : (b : Bool) (a : AccountRows) (g units t paid price : ℕ) →
    paid ≡ funds g t (advanced t a).buckets → price ≡ (rest_price_in g units t a).amount.0 →
    is_lt (nat_cmp paid price) ≡ b → is_covered_in g units t a ≡ not b
covered_in_is b a g units t paid price p q h =
    (λ i. nat_le (sym q i) (sym p i)) ∙ at_least paid price ∙ ap not h

-- ---- the rows

-- the rows as the call leaves them, part by part
pub debited_parts : (a : AccountRows) (s : List ℕ) (g cycle units blocks : ℕ) (due : Due)
    (holds : List HeldAmount) (buckets : List BucketRow) (counters : List Counter)
    (groups : List SessionGroup)
    →
    cycle ≡ cycle_at a.shelf g a.as_of →
    holds ≡ [] → buckets ≡ settled_rows holds g a.as_of due a.buckets →
    counters ≡ with_count g cycle blocks a.counters → groups ≡ with_event s g units a.groups →
    (let x : AccountRows = record a {
      buckets = buckets;
      counters = counters;
      groups = groups;
      next_charge = a.next_charge + 1;
    } in x) ≡ debited_account s g units blocks due a
debited_parts a s g cycle units blocks due holds buckets counters groups e h b c k =
    charged_parts a g cycle blocks due holds [] buckets counters groups
    (with_event s g units a.groups) e h b c k

-- the buckets don't know of empty rows
pub buckets_later : (a : AccountRows) (s : List ℕ) (g c t : ℕ) →
    (advanced t (with_rows s g c a)).buckets ≡ (advanced t a).buckets
buckets_later a s g c t =
    let keeps : List ℕ → Bool = is_live_in (validity_of a.shelf) t a.sessions in
    let given : (b : BucketRow) →
    lapsed_in keeps (with_group s g a.groups) b ≡ lapsed_in keeps a.groups b =
    λ b. held_by-with_group (λ x. not (keeps x)) s g a.groups b in
    λ i. map (λ b. with_end t (with_release t b (given b i))) a.buckets

-- a debit finds the empty rows as none
pub debited_later : (a : AccountRows) (s : List ℕ) (g t units blocks : ℕ) (due : Due) →
    debited_account s g units blocks due (advanced t (with_rows s g (cycle_at a.shelf g t) a))
    ≡ debited_account s g units blocks due (advanced t a)
debited_later a s g t units blocks due =
    let keeps : List ℕ → Bool = is_live_in (validity_of a.shelf) t a.sessions in
    let c : ℕ = cycle_at a.shelf g t in
    let row : group_or_new s g (map (lapse_group keeps) (with_group s g a.groups))
    ≡ group_or_new s g (map (lapse_group keeps) a.groups) = or_new_later keeps s g a.groups in
    let new : SessionGroup = group_or_new s g (map (lapse_group keeps) a.groups) in
    let groups : with_event s g units (map (lapse_group keeps) (with_group s g a.groups))
    ≡ with_event s g units (map (lapse_group keeps) a.groups) =
    (λ i. put group_before (is_of s g)
    (record {
      session = s;
      group = g;
      used = (row i).used + units;
      reservation = (row i).reservation;
    }) (map (lapse_group keeps) (with_group s g a.groups)))
    ∙ put_later keeps s g
    (record { session = s; group = g; used = new.used + units; reservation = new.reservation })
    a.groups refl refl in
    let x : AccountRows = debited_account s g units blocks due (advanced t a) in
    λ i. record x {
      buckets = settled_rows [] g t due (buckets_later a s g c t i);
      counters = counted_later g c blocks a.counters i;
      groups = groups i;
    }

-- the rows as the call leaves them
pub debited_is : (a middle after : AccountRows) (s : List ℕ) (g c t units blocks : ℕ) (due : Due) →
    c ≡ cycle_at a.shelf g t → middle ≡ advanced t (with_rows s g c a) →
    after ≡ debited_account s g units blocks due middle →
    after ≡ debited_account s g units blocks due (advanced t a)
debited_is a middle after s g c t units blocks due k m e =
    e ∙ ap (debited_account s g units blocks due) (m ∙ (λ i. advanced t (with_rows s g (k i) a)))
    ∙ debited_later a s g t units blocks due

-- what is covered is collected whole
all_collected : (rated missing held paid : ℕ) → nat_le rated paid ≡ true →
    missing ≡ rated - held - paid → missing ≡ 0
all_collected rated missing held paid h m =
    let le : rated ≤ paid = grind (arith, nat_tests) in
    omega arith

-- what the call found, and what it did
pub record IsDebitMade (a middle after : AccountRows) (s : List ℕ) (g c t units paid : ℕ)
    (x : Settled) : Type 0 where
  pub cycle : c ≡ cycle_at a.shelf g t
  pub funded : paid ≡ funds g t (advanced t a).buckets
  pub covers : is_lt (nat_cmp paid x.rated.0) ≡ false
  pub fits : debit_passes_in s g units t a ≡ false
  pub started : x.blocks.0 ≡ (rest_price_in g units t a).blocks
  pub cover : x.covered.0 ≡ (rest_price_in g units t a).covered.0
  pub price : x.rated.0 ≡ (rest_price_in g units t a).amount.0
  pub brought : middle ≡ advanced t (with_rows s g c a)
  pub debited : after ≡ debited_account s g units x.blocks.0 (due x.rated.0 x.covered.0) middle
  pub missing : x.uncollected.0 ≡ uncollected [] g middle.as_of x.rated.0 middle.buckets

-- what the call answers
-- rule: debit, event-price
pub debit_made : (a middle after : AccountRows) (s : List ℕ) (g c t units paid : ℕ)
    (x : Settled) → IsDebitMade a middle after s g c t units paid x →
    IsDebitIn s g units t a after x
debit_made a middle after s g c t units paid x made =
    let enough : nat_le x.rated.0 (funds g t (advanced t a).buckets) ≡ true =
    ap (nat_le x.rated.0) (sym made.funded) ∙ at_least paid x.rated.0 ∙ ap not made.covers in
    let missing : x.uncollected.0 ≡ uncollected [] g t x.rated.0 (advanced t a).buckets =
    made.missing
    ∙ (λ i. uncollected [] g (made.brought i).as_of x.rated.0 (made.brought i).buckets)
    ∙ ap (uncollected [] g t x.rated.0) (buckets_later a s g c t) in
    record {
      covered = covered_in_is false a g units t paid x.rated.0 made.funded made.price made.covers;
      within = made.fits;
      answer = record {
        blocks = made.started;
        covered = made.cover;
        rated = made.price;
        uncollected = all_collected x.rated.0 x.uncollected.0 _ _ enough missing;
      };
      rows =
          debited_is a middle after s g c t units x.blocks.0 (due x.rated.0 x.covered.0) made.cycle
          made.brought made.debited
          ∙ (λ i. debited_account s g units (made.started i) (due (made.price i) (made.cover i))
          (advanced t a));
    }

-- ---- the debit of the ledger

pub debit_is : (ledger : Ledger) (a after : AccountRows) (s : List ℕ) (g t units : ℕ)
    (x : Settled) → IsAccount a → IsRowsOf ledger a → a.as_of ≤ t →
    IsDebitIn s g units t a after x → IsDebitOf a.shelf t s g units ledger after x
debit_is ledger a after s g t units x account rows le made =
    let price : Rated = rest_price_in g units t a in
    let now : IsRowsOf ledger (advanced t a) = IsRowsOf-advanced ledger a t account rows le in
    let cost : price ≡ rest_price a.shelf t g units ledger =
    rest_price_is ledger a g units t account rows le in
    record {
      covered =
          (λ i. nat_le (sym cost i).amount.0 (funds g t (sym now.buckets i))) ∙ made.covered;
      within = debit_passes_is ledger a s g units t account rows le ∙ made.within;
      answer = subst (λ (y : Rated). IsAnswered y 0 x) cost made.answer;
      rows =
          subst (λ (y : Rated). IsRowsOf (charged_use (validity_of a.shelf) t s g units y.blocks
          (due_of y) ledger) after) cost
          (subst (IsRowsOf (charged_use (validity_of a.shelf) t s g units price.blocks
          (due_of price) ledger)) (sym made.rows)
          (IsRowsOf-debited ledger (advanced t a) s g units price.blocks (due_of price)
          (IsAccount-advanced a t account) now));
    }
