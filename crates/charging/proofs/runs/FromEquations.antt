-- From the equations back to the tables of accepted commands.
use Rattle.std.proofs.Common.{◌≡◌, ℕ, Bool, true, false, cond, List, [], ◌∷◌, refl, sym, ap, subst}
use Rattle.std.proofs.Common.{◌∙◌, arith, Option, Some, None}
use Rattle.std.specs.Prelude.{if◌then◌else◌, ◌==◌, option_map}
use Rattle.std.proofs.lemmas.Bool.Decides.{nat_tests}
use Rattle.buckets.specs.declared.holds.HeldAmount.{HeldAmount}
use Rattle.buckets.specs.Row.{BucketRow, precedes}
use Rattle.buckets.specs.Share.{parts}
use Rattle.buckets.specs.Spend.{IsInOrder, PrecedesAll, AreDistinct, DiffersFromAll}
use Rattle.shelves.specs.Shelves.{Shelf}
use Rattle.ledger.specs.declared.terms.Terms.{Terms}
use Rattle.ledger.specs.Ledger.{Ledger, is_barred, is_live, next_bucket, next_charge, held, only}
use Rattle.ledger.specs.Ledger.{has_group, open_grant, used}
use Rattle.ledger.specs.Pricing.{validity_of}
use Rattle.ledger.specs.Balance.{credits, buckets_at, holds_at}
use Rattle.ledger.specs.SoundLedger.{IsSoundLedger}
use Rattle.reserving.specs.declared.session.SessionGroup.{SessionGroup}
use Rattle.reserving.specs.declared.session.Reservation.{Reservation}
use Rattle.reserving.specs.Sessions.{session_at, group_at, group_in, holds_in, reservation_of}
use Rattle.reserving.specs.Sessions.{reservation_at}
use Rattle.reserving.specs.Rows.{IsInOrderOf, IsRowsOf}
use Rattle.reserving.specs.Stored.{StoredRows, priced}
use Rattle.reserving.specs.Left.{bucket_in}
use Rattle.reserving.proofs.Lists.{no_some, some_of}
use Rattle.reserving.proofs.Keys.{same_number}
use Rattle.reserving.proofs.InOrder.{in_order_of, order_none}
use Rattle.reserving.proofs.LeftMore.{one_by_number}
use Rattle.keepers.specs.Tables.{Head, Rows, no_rows, head_of, group_row, held_at, held_of}
use Rattle.keepers.specs.Change.{AreRowsAt}
use Rattle.keepers.proofs.GroupRows.{group_of, group_back}
use Rattle.charging.specs.Accepted.{IsRow, as_of}
use Rattle.charging.specs.Served.{history}
use Rattle.charging.specs.Paid.{reports_of}
use Rattle.charging.specs.TablesAfter.{rows_at}
use Rattle.charging.proofs.runs.AcceptedTables.{row_of}
use Rattle.charging.proofs.steps.Credited.{AreCredited, in_order, distinct}
use Rattle.charging.proofs.steps.Sound.{IsSoundHistory, sound_none, keeps_sound}
use Rattle.charging.proofs.steps.KeptHistories.{kept_history}
use Rattle.charging.proofs.runs.TablesAfter.{tables_are_a_function}
use Rattle.charging.specs.Equations.{ListsAreEnough, RunsByEquations}
use Rattle.charging.specs.FiniteRows.{IsList}

-- ---- buckets that are found alike are one list

pub not_there : (n : ℕ) (xs : List BucketRow) → DiffersFromAll n xs → bucket_in n xs ≡ None
not_there n [] h = refl
not_there n (x ∷ xs) h = at (x.number == n) refl (not_there n xs h.1)
  where
    at : (t : Bool) → (x.number == n) ≡ t → bucket_in n xs ≡ None →
        cond t (Some x) (bucket_in n xs) ≡ None
    at true e rest = absurd (h.0 (same_number x.number n e))
    at false e rest = rest

before_found : (y x : BucketRow) (ys : List BucketRow) → PrecedesAll y ys →
    bucket_in x.number ys ≡ Some x → precedes y x ≡ true
before_found y x [] h e = absurd (no_some x e)
before_found y x (z ∷ zs) h e = at (z.number == x.number) e (before_found y x zs h.1)
  where
    at : (t : Bool) → cond t (Some z) (bucket_in x.number zs) ≡ Some x →
        (bucket_in x.number zs ≡ Some x → precedes y x ≡ true) → precedes y x ≡ true
    at true k rest = ap (precedes y) (sym (some_of z x k)) ∙ h.0
    at false k rest = rest k

no_circle : (x y : BucketRow) → precedes x y ≡ true → precedes y x ≡ true → ⊥
no_circle x y h k = grind (arith, nat_tests)

one_list : (xs ys : List BucketRow) → IsInOrder xs × AreDistinct xs → IsInOrder ys × AreDistinct ys →
    ((n : ℕ) → bucket_in n xs ≡ bucket_in n ys) → xs ≡ ys
one_list xs ys hx hy h =
    one_by_number (λ zs. IsInOrder zs × AreDistinct zs) (λ x zs is. (is.0.1, is.1.1))
    (λ x zs is. not_there x.number zs is.1.0)
    (λ x y us vs hx hy e k. no_circle x y (before_found x y us hx.0.0 e)
    (before_found y x vs hy.0.0 k)) xs ys hx hy h

-- ---- holds in the order of the buckets

reserved_in_order : (rows : List BucketRow) (live : Bool) (holds : List HeldAmount)
    (o : Option Terms) → IsInOrderOf rows holds →
    IsInOrderOf rows (holds_in (if live then reservation_of holds o else None))
reserved_in_order rows true holds None h = order_none rows
reserved_in_order rows true holds (Some p) h = h
reserved_in_order rows false holds o h = order_none rows

-- ---- a group, by its row and what is held there

reservation_whole : (buckets : List BucketRow) (o : Option Reservation) →
    IsInOrderOf buckets (holds_in o) →
    reservation_of (parts (λ b. held_at b.number (holds_in o)) buckets)
    (option_map (λ (x : Reservation). x.terms) o) ≡ o
reservation_whole buckets None h = refl
reservation_whole buckets (Some x) h = λ i. Some (record { terms = x.terms; holds = sym h i })

group_whole : (s : List ℕ) (g u : ℕ) (buckets : List BucketRow) (there : Bool)
    (r : Option Reservation) → IsInOrderOf buckets (holds_in r) →
    let row : Option SessionGroup = if there then Some (record {
      session = s;
      group = g;
      used = u;
      reservation = r;
    }) else None in
    group_of s g buckets (option_map group_row row) (λ n. held_of n row) ≡ row
group_whole s g u buckets true r h =
    λ i. Some (record {
      session = s;
      group = g;
      used = u;
      reservation = reservation_whole buckets r h i;
    })
group_whole s g u buckets false r h = refl

-- ---- an account's rows

behind : (shelf : Shelf) (t : ℕ) (ledger : Ledger) (r : Rows) → IsList r →
    AreCredited (credits ledger) (next_bucket ledger) → IsSoundLedger ledger →
    r ≡ rows_at shelf t ledger → AreRowsAt shelf ledger t r
behind shelf t ledger r l made sound e =
    record { listed = w; are = l.are; kept = l.kept; moment = moment; rows = rows }
  where
    w : StoredRows
    w = l.rows

    v : ℕ → ℕ
    v = validity_of shelf

    head : Head
    head = record {
      as_of = t;
      barred = is_barred ledger;
      next_bucket = next_bucket ledger;
      next_charge = next_charge ledger;
    }

    head_is : head_of w ≡ head
    head_is = some_of (head_of w) head (sym l.are.head ∙ (λ i. (e i).head))

    moment : w.as_of ≡ t
    moment = λ i. (head_is i).as_of

    buckets_are : w.buckets ≡ buckets_at v t ledger
    buckets_are = one_list w.buckets (buckets_at v t ledger)
        (l.kept.sound.order, l.kept.sound.distinct)
        (in_order v t ledger made, distinct v t ledger made)
        (λ n. sym (l.are.buckets n) ∙ (λ i. (e i).buckets n))

    group_is : (s : List ℕ) (g : ℕ) → group_in s g w.groups ≡ group_at v t ledger s g
    group_is s g = group_back s g w.buckets w.groups l.kept.order
        ∙ (λ i. group_of s g (buckets_are i)
        ((sym (l.are.groups s g) ∙ (λ j. (e j).groups s g)) i)
        (λ n. (sym (l.are.holds s g n) ∙ (λ j. (e j).holds s g n)) i))
        ∙ group_whole s g (used s g ledger) (buckets_at v t ledger) (has_group s g ledger)
        (reservation_at v t ledger s g)
        (reserved_in_order (buckets_at v t ledger) (is_live v t ledger s) (holds_at v t s g ledger)
        (open_grant s g ledger)
        (in_order_of (λ b. held (only s g) b.number ledger) (buckets_at v t ledger)
        (distinct v t ledger made)))

    rows : IsRowsOf ledger (priced shelf w)
    rows = record {
      barred = λ i. (head_is i).barred;
      buckets = buckets_are ∙ (λ i. buckets_at v (sym moment i) ledger);
      sessions = λ s. sym (l.are.sessions s) ∙ (λ i. (e i).sessions s)
          ∙ (λ i. session_at v (sym moment i) ledger s);
      groups = λ s g. group_is s g ∙ (λ i. group_at v (sym moment i) ledger s g);
      counters = λ g c. sym (l.are.counters g c) ∙ (λ i. (e i).counters g c);
      next_bucket = λ i. (head_is i).next_bucket;
      next_charge = λ i. (head_is i).next_charge;
      sound = sound;
    }

-- ---- tables

pub lists_are_enough : ListsAreEnough
lists_are_enough shelf list tables lists e = record {
  last = λ i. (e i).last;
  accounts = λ a. account a (history shelf a list).opened refl (λ i. (e i).rows a);
  answers = λ a k. λ i. (e i).answers a k;
  charges = λ a n. λ i. (e i).charges a n;
  vouchers = λ code. λ i. (e i).vouchers code;
  count = λ i. (e i).count;
}
  where
    account : (a : List ℕ) (c : Bool) → (history shelf a list).opened ≡ c → tables.rows a ≡
        (if c then rows_at shelf (as_of a list) (history shelf a list).ledger else no_rows) →
        IsRow shelf (as_of a list) (history shelf a list) (tables.rows a)
    account a true o k =
        let kept : IsSoundHistory shelf (reports_of shelf a list) (history shelf a list).ledger =
        kept_history shelf (IsSoundHistory shelf) (keeps_sound shelf) (sound_none shelf) a list in
        row_of shelf (as_of a list) (history shelf a list) (tables.rows a) o
        (behind shelf (as_of a list) (history shelf a list).ledger (tables.rows a)
        (lists a _ (λ i. (k i).head)) kept.paying.credits kept.sound k)
    account a false o k =
        subst (λ (r : Rows). IsRow shelf (as_of a list) (history shelf a list) r) (sym k) (o, refl)

pub runs_by_equations : RunsByEquations
runs_by_equations shelf commands old new given lists runs list time e =
    let run = runs list time (lists_are_enough shelf list old lists e) in
    record { answers = run.answers; tables = tables_are_a_function shelf _ new run.tables }
