-- For each open grant of a ledger as much is held as its units can cost.
use Rattle.std.proofs.Common.{◌≡◌, ℕ, ◌+◌, ◌≤◌, Bool, true, false, List, [], ◌∷◌, ◌++◌, refl, sym}
use Rattle.std.proofs.Common.{ap, subst, ◌∙◌, arith, Option, Some, None}
use Rattle.std.proofs.Common.{zero, suc}
use Rattle.std.specs.Prelude.{if◌then◌else◌, ◌==◌, find, slice_get, option_map}
use Rattle.std.specs.Prelude.{option_and_then}
use Rattle.std.specs.List.{All}
use Rattle.std.proofs.lemmas.List.Elements.{All-head, All-tail}
use Rattle.shelves.specs.Shelves.{Shelf, IsShelf, number_at, tariff_in}
use Rattle.shelves.specs.declared.dated.DatedBook.{DatedBook}
use Rattle.shelves.proofs.Begun.{book_within, last_begun_holds}
use Rattle.tariffs.specs.Books.{Book, IsBook}
use Rattle.ledger.specs.declared.terms.Terms.{Terms}
use Rattle.tariffs.specs.Tariffs.{GroupTariff, IsTariff}
use Rattle.rating.specs.declared.grant.Grant.{Grant as RatedGrant}
use Rattle.units.specs.declared.blocks.UsedPart.{UsedPart}
use Rattle.buckets.specs.declared.holds.HeldAmount.{HeldAmount}
use Rattle.buckets.specs.declared.kind.BucketKind.{BucketKind}
use Rattle.buckets.specs.declared.kind.BucketKind.TheVariants.{Money, Blocks}
use Rattle.buckets.specs.declared.kind.Due.{Due}
use Rattle.buckets.specs.Kinds.{due_in}
use Rattle.buckets.specs.Row.{BucketRow, eligible_amount}
use Rattle.buckets.specs.Share.{sum_in, share, parts}
use Rattle.buckets.specs.Spend.{funds, allowance}
use Rattle.buckets.specs.Holding.{held_in, held_sum, holds_of, paid}
use Rattle.buckets.proofs.Parts.{sum_at, held_in-sum_at}
use Rattle.ledger.specs.Ledger.{Fact, Ledger, or_else, inner, newest, last_recording, used, counter}
use Rattle.ledger.specs.Ledger.{held, only, open_grant, next_bucket, UseOf, test_of}
use Rattle.ledger.specs.Parts.{grant_in}
use Rattle.ledger.specs.Ledger.{counts}
use Rattle.ledger.specs.Ledger.Fact.{Grant, End, Use}
use Rattle.ledger.specs.Pricing.{tariff_of, tariff_at, cycle_at, periods_at, terms_at, validity_of}
use Rattle.ledger.specs.Balance.{credits, buckets_at}
use Rattle.ledger.specs.Requests.{credited}
use Rattle.ledger.specs.Settlement.{charge_facts, due_of, report_price, settled_by, use_of}
use Rattle.ledger.specs.Reservation.{reserved, grant_for, held_due, grant_at}
use Rattle.ledger.specs.Debiting.{rest_price, debited}
use Rattle.reserving.proofs.Lists.{some_of}
use Rattle.reserving.proofs.Keys.{is_key, own_key, key_session, key_group}
use Rattle.ledger.proofs.Fronts.{held-hold_facts, credits-hold_facts}
use Rattle.charging.specs.Paid.{OpenGrant, grant_open}
use Rattle.charging.specs.PaidParts.{grant_told}
use Rattle.buckets.proofs.Paid.{sum_in-share}
use Rattle.charging.proofs.charges.BucketSums.{sum_in-most, sum_in-alike, sum_in-moved}
use Rattle.charging.proofs.charges.BucketSums.{held_sum-parts}
use Rattle.charging.proofs.steps.Steps.{is_quiet, with_grant, granted}
use Rattle.charging.proofs.steps.Credited.{AreCredited, in_order, distinct}
use Rattle.charging.proofs.grants.GrantPrices.{HasBlocks, PaysFor, pays_more, grant_pays}
use Rattle.charging.proofs.grants.GrantPrices.{grant_within, grant_allowed}
use Rattle.charging.proofs.grants.GrantsLeft.{held_together, LeavesGrant, leaves_both, leaves_same}
use Rattle.charging.proofs.grants.GrantsLeft.{IsUntold, leaves_one, leaves_charges, leaves_holds}
use Rattle.reserving.proofs.Counted.{IsQuiet, is_end, is_named, quiet}

-- ---- groups with a tariff have blocks

found_blocks : (g : ℕ) (tariffs : List GroupTariff) → All IsTariff tariffs →
    HasBlocks (find (λ t. t.group == g) tariffs)
found_blocks g [] h = tt
found_blocks g (x ∷ xs) h = by_test (x.group == g) (found_blocks g xs (All-tail IsTariff x xs h))
  where
    is : IsTariff x
    is = All-head IsTariff x xs h

    by_test : (b : Bool) → HasBlocks (find (λ t. t.group == g) xs) →
        HasBlocks (if b then Some x else find (λ t. t.group == g) xs)
    by_test true rest = is.some_block
    by_test false rest = rest

-- the tariff of a group in a book; and of a number on a shelf
book_blocks : (b : Book) → IsBook b → (g : ℕ) → HasBlocks (tariff_of b g)
book_blocks b is g = found_blocks g b.tariffs is.tariffs

pub has_blocks : (b : Shelf) → IsShelf b → (n g : ℕ) → HasBlocks (tariff_in b n g)
has_blocks b is zero g = tt
has_blocks b is (suc zero) g = book_blocks b.first is.first g
has_blocks b is (suc (suc i)) g = by_book (slice_get b.later i) refl
  where
    by_book : (o : Option DatedBook) → slice_get b.later i ≡ o →
        HasBlocks (option_and_then (λ y. tariff_of y g) (option_map (λ d. d.book) o))
    by_book None e = tt
    by_book (Some d) e =
        book_blocks d.book (book_within b.first 0 b.first b.later i d is.later e) g

-- a number at a moment is that of the book at it
pub numbered : (b : Shelf) (t g : ℕ) → IsShelf b → tariff_in b (number_at b t) g ≡ tariff_at b t g
numbered b t g is =
    ap (λ (o : Option Book). option_and_then (λ y. tariff_of y g) o) (last_begun_holds b t is).book

-- ---- open grants

-- what is held for a grant, blocks and money, pays for its units; its session is recorded
pub record IsCovered (b : Shelf) (s : List ℕ) (g : ℕ) (ledger : Ledger) (x : OpenGrant) :
    Type 0 where
  pub terms : Terms
  pub granted : open_grant s g ledger ≡ Some terms
  pub recorded : last_recording s ledger ≡ None → ⊥
  pub held : PaysFor (tariff_in b terms.book g) terms.periods (used s g ledger) x.counter x.units
      (held_together Blocks s g ledger) (held_together Money s g ledger)

abbrev pub IsCoveredAt : Shelf → Ledger → List ℕ → ℕ → Type 0
IsCoveredAt b ledger s g = (x : OpenGrant) → grant_open s g ledger ≡ Some x →
    IsCovered b s g ledger x

abbrev pub AreCovered : Shelf → Ledger → Type 0
AreCovered b ledger = (s : List ℕ) (g : ℕ) → IsCoveredAt b ledger s g

-- where a grant is left as it was, it stays covered
covered_left : (b : Shelf) (s : List ℕ) (g : ℕ) (new old : Ledger) → LeavesGrant s g new old →
    IsCoveredAt b old s g → IsCoveredAt b new s g
covered_left b s g new old left h x e =
    let before : IsCovered b s g old x = h x (sym left.grant ∙ e) in
    record {
      terms = before.terms;
      granted = left.terms ∙ before.granted;
      recorded = λ none. before.recorded (left.recorded none);
      held = subst (λ n. PaysFor (tariff_in b before.terms.book g) before.terms.periods n
          x.counter x.units (held_together Blocks s g new) (held_together Money s g new))
          (sym left.used)
          (pays_more (tariff_in b before.terms.book g) before.terms.periods (used s g old)
          x.counter x.units (held_together Blocks s g old) (held_together Money s g old)
          (held_together Blocks s g new) (held_together Money s g new) (left.held Blocks)
          (left.held Money) before.held);
    }

pub covered_none : (b : Shelf) → AreCovered b []
covered_none b s g x e = cc

pub covered_quiet : (b : Shelf) (t : ℕ) (f : Fact) (ledger : Ledger) → is_quiet f ≡ true →
    AreCovered b ledger → AreCovered b (record { at = t; fact = f } ∷ ledger)
covered_quiet b t f ledger q h s g =
    covered_left b s g (record { at = t; fact = f } ∷ ledger) ledger
    (leaves_one s g t f ledger (untold (quiet f q))) (h s g)
  where
    untold : IsQuiet (counts f) → IsUntold s g (counts f)
    untold none = record {
      named = λ i. is_named s g (none.usage i) (none.grant i);
      ended = ap (test_of (is_end s g)) none.end;
    }

pub covered_credit : (b : Shelf) (t : ℕ) (kind : BucketKind) (from until : ℕ) (scope : Option ℕ)
    (amount : ℕ) (ledger : Ledger) → AreCovered b ledger →
    AreCovered b (credited t kind from until scope amount ledger)
covered_credit b t kind from until scope amount ledger h s g =
    covered_left b s g (credited t kind from until scope amount ledger) ledger
    (leaves_one s g t _ ledger (record { named = refl; ended = refl })) (h s g)

-- ---- settlements

ended : (t : ℕ) (session : List ℕ) (group : ℕ) (ledger : Ledger) (s : List ℕ) (g : ℕ)
    (x : OpenGrant) → is_key session group s g ≡ true →
    grant_open s g (record { at = t; fact = End session group } ∷ ledger) ≡ Some x → ⊥
ended t session group ledger s g x own e =
    let none : None ≡ Some x =
    sym
    (λ i. inner (or_else (if own i then Some None else None)
    (newest (grant_told s g) ledger))) ∙ e in
    cc

-- the end of a grant leaves the others
covered_end : (b : Shelf) (t : ℕ) (session : List ℕ) (group : ℕ) (new old : Ledger) →
    ((s : List ℕ) (g : ℕ) → is_key session group s g ≡ false → LeavesGrant s g new old) →
    AreCovered b old → AreCovered b (record { at = t; fact = End session group } ∷ new)
covered_end b t session group new old left h s g x = by_test (is_key session group s g) refl
  where
    more : Ledger
    more = record { at = t; fact = End session group } ∷ new

    by_test : (k : Bool) → is_key session group s g ≡ k → grant_open s g more ≡ Some x →
        IsCovered b s g more x
    by_test true own e = absurd (ended t session group new s g x own e)
    by_test false other e = covered_left b s g more old
        (leaves_both s g more new old (leaves_one s g t (End session group) new
        (record { named = refl; ended = other }))
        (left s g other)) (h s g) x e

-- a use of a group leaves the grants of others
leaves_use : (t : ℕ) (u : UseOf) (hs : List HeldAmount) (ledger : Ledger) (s : List ℕ) (g : ℕ) →
    is_key u.session u.group s g ≡ false →
    LeavesGrant s g (record { at = t; fact = Use u } ∷ charge_facts t hs ++ ledger) ledger
leaves_use t u hs ledger s g other =
    leaves_both s g (record { at = t; fact = Use u } ∷ charge_facts t hs ++ ledger)
    (charge_facts t hs ++ ledger) ledger
    (leaves_one s g t (Use u) (charge_facts t hs ++ ledger)
    (record { named = other; ended = refl })) (leaves_charges s g t hs ledger)

pub covered_settle : (b : Shelf) (t : ℕ) (session : List ℕ) (group : ℕ) (used_parts : List UsedPart)
    (ledger : Ledger) → AreCovered b ledger →
    AreCovered b (settled_by b t session group used_parts ledger)
covered_settle b t session group [] ledger h =
    covered_end b t session group ledger ledger (λ s g other. leaves_same s g ledger) h
covered_settle b t session group (p ∷ ps) ledger h =
    covered_end b t session group _ ledger (leaves_use t
    (use_of session group _ _ (due_of (report_price b t session group (p ∷ ps) ledger)) _) _ ledger)
    h

-- ---- debits: of a session that has no grant

pub covered_debit : (b : Shelf) (t : ℕ) (session : List ℕ) (group units : ℕ) (ledger : Ledger) →
    last_recording session ledger ≡ None → AreCovered b ledger →
    AreCovered b (debited b t session group units ledger)
covered_debit b t session group units ledger new h s g x = by_test (is_key session group s g) refl
  where
    more : Ledger
    more = debited b t session group units ledger

    hs : List HeldAmount
    hs = parts (paid [] group t (due_of (rest_price b t group units ledger))
        (buckets_at (validity_of b) t ledger)) (buckets_at (validity_of b) t ledger)

    by_test : (k : Bool) → is_key session group s g ≡ k → grant_open s g more ≡ Some x →
        IsCovered b s g more x
    by_test true own e =
        let before : IsCovered b s g ledger x =
        h s g x (sym (leaves_charges s g t hs ledger).grant ∙ e) in
        absurd
        (before.recorded (ap (λ n. last_recording n ledger)
        (sym (key_session session group s g own)) ∙ new))
    by_test false other e = covered_left b s g more ledger
        (leaves_use t (use_of session group units (rest_price b t group units ledger).blocks
        (due_of (rest_price b t group units ledger)) 0) hs ledger s g other) (h s g) x e

-- ---- grants

-- what a grant's holds have together is what it is due in each unit, as the buckets have it
granted_together : (k : BucketKind) (b : Shelf) (t : ℕ) (s : List ℕ) (g units : ℕ) (due : Due)
    (ledger : Ledger) → AreCredited (credits ledger) (next_bucket ledger) →
    due_in k due ≤ sum_in k (eligible_amount g t) (buckets_at (validity_of b) t ledger) →
    due_in k due ≤ held_together k s g (reserved b t s g units due ledger)
granted_together k b t s g units due ledger made le =
    let all : sum_in k (λ c. sum_at c.number hs) (credits ledger) ≡ due_in k due =
    sym (sum_in-moved k (λ n. sum_at n hs) (validity_of b) t ledger (credits ledger))
    ∙ sym (summed rows)
    ∙ held_sum-parts k (share (eligible_amount g t) rows due) rows
    (distinct (validity_of b) t ledger made)
    ∙ sum_in-share k (eligible_amount g t) rows due (in_order (validity_of b) t ledger made)
    ∙ omega (arith, le) in
    omega (
      arith,
      all,
      sum_in-most k (λ c. sum_at c.number hs) (λ c. held (only s g) c.number more)
          (credits ledger) (λ c. omega (arith, own c.number)),
      same,
    )
  where
    rows : List BucketRow
    rows = buckets_at (validity_of b) t ledger

    hs : List HeldAmount
    hs = holds_of g t due rows

    more : Ledger
    more = reserved b t s g units due ledger

    own : (n : ℕ) → held (only s g) n more ≡
        sum_at n hs + held (only s g) n (with_grant b t s g units ledger)
    own n = held-hold_facts (only s g) n t s g hs (with_grant b t s g units ledger) (own_key s g)

    summed : (xs : List BucketRow) → held_sum k hs xs ≡ sum_in k (λ x. sum_at x.number hs) xs
    summed xs = sum_in-alike k (held_in hs) (λ x. sum_at x.number hs) xs (λ x. held_in-sum_at hs x)

    same : held_together k s g more
        ≡ sum_in k (λ c. held (only s g) c.number more) (credits ledger)
    same = ap (sum_in k (λ c. held (only s g) c.number more))
        (credits-hold_facts t s g hs (with_grant b t s g units ledger))

-- the grant itself
covered_own : (b : Shelf) (t : ℕ) (s : List ℕ) (g units : ℕ) (due : Due) (ledger : Ledger) →
    AreCredited (credits ledger) (next_bucket ledger) → (last_recording s ledger ≡ None → ⊥) →
    due.money ≤ funds g t (buckets_at (validity_of b) t ledger) →
    due.blocks ≤ allowance g t (buckets_at (validity_of b) t ledger) →
    PaysFor (tariff_in b (number_at b t) g) (periods_at b t) (used s g ledger)
    (counter (cycle_at b g) g (cycle_at b g t) ledger) units due.blocks due.money →
    IsCoveredAt b (reserved b t s g units due ledger) s g
covered_own b t s g units due ledger made recorded funded allowed pays x e =
    subst (IsCovered b s g more)
    (some_of here x (sym (left.grant ∙ opened) ∙ e)) (record {
      terms = terms_at b t;
      granted = left.terms ∙ given;
      recorded = λ none. recorded (left.recorded none);
      held = subst (λ n. PaysFor (tariff_in b (number_at b t) g) (periods_at b t) n place units
          (held_together Blocks s g more) (held_together Money s g more)) (sym usage)
          (pays_more (tariff_in b (number_at b t) g) (periods_at b t) (used s g ledger) place
          units due.blocks due.money (held_together Blocks s g more)
          (held_together Money s g more)
          (granted_together Blocks b t s g units due ledger made allowed)
          (granted_together Money b t s g units due ledger made funded) pays);
    })
  where
    place : ℕ
    place = counter (cycle_at b g) g (cycle_at b g t) ledger

    here : OpenGrant
    here = record { units = units; counter = place }

    first : Ledger
    first = with_grant b t s g units ledger

    more : Ledger
    more = reserved b t s g units due ledger

    left : LeavesGrant s g more first
    left = leaves_holds s g t s g (holds_of g t due (buckets_at (validity_of b) t ledger)) first

    opened : grant_open s g first ≡ Some here
    opened = λ i. inner (or_else (if own_key s g i then Some (Some here) else None)
        (newest (grant_told s g) ledger))

    given : open_grant s g first ≡ Some (terms_at b t)
    given = λ i. inner (or_else (if own_key s g i then Some (Some (terms_at b t)) else None)
        (newest (grant_in s g) ledger))

    usage : used s g more ≡ used s g ledger
    usage = omega (arith, left.used)

pub covered_grant : (b : Shelf) → IsShelf b →
    (t : ℕ) (session : List ℕ) (group : ℕ) (asked : Option ℕ) (ledger : Ledger) →
    AreCredited (credits ledger) (next_bucket ledger) → (last_recording session ledger ≡ None → ⊥) →
    AreCovered b ledger → AreCovered b (granted b t session group asked ledger)
covered_grant b is t session group asked ledger made recorded h s g =
    by_test (is_key session group s g) refl
  where
    before : ℕ
    before = used session group ledger

    place : ℕ
    place = counter (cycle_at b group) group (cycle_at b group t) ledger

    money : ℕ
    money = funds group t (buckets_at (validity_of b) t ledger)

    free : ℕ
    free = allowance group t (buckets_at (validity_of b) t ledger)

    grant : RatedGrant
    grant = grant_for b t group before asked ledger

    more : Ledger
    more = reserved b t session group grant.units.0 (held_due grant) ledger

    own : IsCoveredAt b more session group
    own = covered_own b t session group grant.units.0 (held_due grant) ledger made recorded
        (grant_within (tariff_at b t group) (periods_at b t) before place asked money free)
        (grant_allowed (tariff_at b t group) (periods_at b t) before place asked money free)
        (subst (λ (o : Option GroupTariff). PaysFor o (periods_at b t) before place
        grant.units.0 grant.allowed.0 grant.amount.0) (sym (numbered b t group is))
        (grant_pays (tariff_at b t group) (periods_at b t) before place asked money free
        (subst HasBlocks (numbered b t group is) (has_blocks b is (number_at b t) group))))

    others : is_key session group s g ≡ false → LeavesGrant s g more ledger
    others other = leaves_both s g more (with_grant b t session group grant.units.0 ledger) ledger
        (leaves_holds s g t session group
        (holds_of group t (held_due grant) (buckets_at (validity_of b) t ledger))
        (with_grant b t session group grant.units.0 ledger))
        (leaves_one s g t (Grant (grant_at b t session group grant.units.0 ledger)) ledger
        (record { named = other; ended = refl }))

    by_test : (k : Bool) → is_key session group s g ≡ k → IsCoveredAt b more s g
    by_test true same = subst (λ n. IsCoveredAt b more s n) (key_group session group s g same)
        (subst (λ n. IsCoveredAt b more n group) (key_session session group s g same) own)
    by_test false other = covered_left b s g more ledger (others other) (h s g)
