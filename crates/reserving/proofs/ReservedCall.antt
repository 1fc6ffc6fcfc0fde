-- A grant's call, from any ledger whose rows the account is before it.
use Rattle.std.proofs.Common.{◌+◌, ◌-◌}
use Rattle.std.specs.Prelude.{min}
use Rattle.buckets.specs.Spend.{allowance}
use Rattle.ledger.specs.Reservation.{held_due, reserved, grant_for}
use Rattle.buckets.specs.declared.kind.Due.{Due}
use Rattle.std.proofs.Common.{◌≡◌, ℕ, ◌<◌, ◌≤◌, Bool, true, false, List, map, refl, sym, ap, subst}
use Rattle.std.proofs.Common.{◌∙◌, arith, Option, Some, None}
use Rattle.std.specs.Prelude.{if◌then◌else◌, is_some, unwrap_or, option_map, not, nat_lt}
use Rattle.units.specs.Blocks.{started}
use Rattle.buckets.specs.declared.holds.HeldAmount.{HeldAmount}
use Rattle.buckets.specs.Row.{BucketRow, with_release, with_end}
use Rattle.buckets.specs.Spend.{funds, held_rows}
use Rattle.buckets.specs.Holding.{holds_of}
use Rattle.reserving.specs.declared.session.SessionGroup.{SessionGroup}
use Rattle.ledger.specs.Ledger.{Ledger, used, counter, is_live}
use Rattle.tariffs.specs.Books.{Book}
use Rattle.shelves.specs.Shelves.{Shelf, book_at}
use Rattle.tariffs.specs.Tariffs.{GroupTariff, tiers_at}
use Rattle.tariffs.specs.GroupPrices.{GroupPrices}
use Rattle.tariffs.specs.BookPrices.{ArePricesOf}
use Rattle.rating.specs.declared.grant.Grant.{Grant}
use Rattle.rating.specs.declared.grant.Periods.{Periods}
use Rattle.rating.specs.Granted.{IsGreatest, dearer, grant_of}
use Rattle.ledger.specs.Pricing.{tariff_of, tariff_at, cycle_at, switch_at, validity_at, periods_at}
use Rattle.ledger.specs.Pricing.{terms_at, prices_by, wanted_units, wanted_with, grant_with}
use Rattle.ledger.specs.Pricing.{validity_of}
use Rattle.ledger.specs.declared.terms.Terms.{Terms}
use Rattle.reserving.specs.Quotas.{IsQuota, IsGreatestFor}
use Rattle.reserving.specs.Keyed.{put}
use Rattle.ledger.specs.Balance.{buckets_at}
use Rattle.reserving.specs.Sessions.{is_of, group_in, is_live_in}
use Rattle.reserving.specs.Changes.{lapse_group, lapsed_in, advanced, new_group, group_or_new}
use Rattle.reserving.specs.Changes.{used_in, count_in, with_reservation, reserved_account}
use Rattle.reserving.specs.Prepared.{with_group, with_group_row, reservation_in}
use Rattle.reserving.specs.Rows.{AccountRows, IsAccount, IsRowsOf}
use Rattle.reserving.specs.Results.{IsGrantOf}
use Rattle.reserving.specs.Placed.{AreOfBook}
use Rattle.reserving.specs.Sessions.{group_before}
use Rattle.reserving.proofs.Lists.{find-map, some_of, no_some}
use Rattle.reserving.proofs.Advancing.{is_live_in-is, IsRowsOf-advanced}
use Rattle.reserving.proofs.Advanced.{IsAccount-advanced}
use Rattle.reserving.proofs.SettledRows.{used_in_is, count_in_is}
use Rattle.reserving.proofs.calls.RowParts.{or_new_later, group_later, put_later, key_kept}
use Rattle.reserving.proofs.calls.RowParts.{held_by-with_group}
use Rattle.reserving.proofs.rows.Reserved.{IsRowsOf-reserved}

pub reserved_parts : (a : AccountRows) (s : List ℕ) (g : ℕ) (due : Due) (terms : Terms)
    (holds : List HeldAmount) (buckets : List BucketRow) (groups : List SessionGroup) →
    terms ≡ terms_at a.shelf a.as_of → buckets ≡ held_rows g a.as_of due a.buckets →
    holds ≡ holds_of g a.as_of due a.buckets →
    groups ≡ with_reservation s g terms holds a.groups →
    (let x : AccountRows = record a { buckets = buckets; groups = groups } in x)
    ≡ reserved_account s g due a
reserved_parts a s g due terms holds buckets groups p b h k =
    let all : groups
    ≡ with_reservation s g (terms_at a.shelf a.as_of) (holds_of g a.as_of due a.buckets)
    a.groups = k ∙ (λ i. with_reservation s g (p i) (h i) a.groups) in
    λ i. record a { buckets = b i; groups = all i }

-- ---- rows without facts

buckets_later : (a : AccountRows) (s : List ℕ) (g t : ℕ) →
    (advanced t (with_group_row s g a)).buckets ≡ (advanced t a).buckets
buckets_later a s g t =
    let keeps : List ℕ → Bool = is_live_in (validity_of a.shelf) t a.sessions in
    let given : (y : BucketRow) →
    lapsed_in keeps (with_group s g a.groups) y ≡ lapsed_in keeps a.groups y =
    λ y. held_by-with_group (λ z. not (keeps z)) s g a.groups y in
    λ i. map (λ y. with_end t (with_release t y (given y i))) a.buckets

pub reserved_later : (a : AccountRows) (s : List ℕ) (g t : ℕ) (due : Due) →
    reserved_account s g due (advanced t (with_group_row s g a))
    ≡ reserved_account s g due (advanced t a)
reserved_later a s g t due =
    let keeps : List ℕ → Bool = is_live_in (validity_of a.shelf) t a.sessions in
    let x : AccountRows = reserved_account s g due (advanced t a) in
    let same : (advanced t (with_group_row s g a)).buckets ≡ (advanced t a).buckets =
    buckets_later a s g t in
    let row : group_or_new s g (map (lapse_group keeps) (with_group s g a.groups))
    ≡ group_or_new s g (map (lapse_group keeps) a.groups) = or_new_later keeps s g a.groups in
    let p : Terms = terms_at a.shelf t in
    let groups : with_reservation s g p
    (holds_of g t due (advanced t (with_group_row s g a)).buckets)
    (map (lapse_group keeps) (with_group s g a.groups))
    ≡ with_reservation s g p (holds_of g t due (advanced t a).buckets)
    (map (lapse_group keeps) a.groups) =
    (λ i. put group_before (is_of s g)
    (record {
      session = s;
      group = g;
      used = (row i).used;
      reservation = Some (record { terms = p; holds = holds_of g t due (same i) });
    })
    (map (lapse_group keeps) (with_group s g a.groups)))
    ∙ put_later keeps s g
    (record {
      session = s;
      group = g;
      used = used_in s g (map (lapse_group keeps) a.groups);
      reservation =
          Some (record { terms = p; holds = holds_of g t due (advanced t a).buckets });
    })
    a.groups refl refl in
    λ i. record x { buckets = held_rows g t due (same i); groups = groups i }

lapsed_free : (t : Bool) (r : SessionGroup) → r.reservation ≡ None →
    (if t then r else record r { reservation = None }).reservation ≡ None
lapsed_free true r h = h
lapsed_free false r h = refl

pub free_later : (keeps : List ℕ → Bool) (s : List ℕ) (g : ℕ) (rows : List SessionGroup) →
    reservation_in s g rows ≡ None → reservation_in s g (map (lapse_group keeps) rows) ≡ None
free_later keeps s g rows h =
    ap (λ o. (unwrap_or o (new_group s g)).reservation)
    (find-map (is_of s g) (lapse_group keeps) rows (key_kept keeps s g))
    ∙ by_row (group_in s g rows) h
  where
    by_row : (o : Option SessionGroup) → (unwrap_or o (new_group s g)).reservation ≡ None →
        (unwrap_or (option_map (lapse_group keeps) o) (new_group s g)).reservation ≡ None
    by_row (Some x) e = lapsed_free (keeps x.session) x e
    by_row None e = refl

pub group_there : (a middle : AccountRows) (s : List ℕ) (g t : ℕ) →
    middle ≡ advanced t (with_group_row s g a) → is_some (group_in s g middle.groups) ≡ true
group_there a middle s g t m =
    ap (λ x. is_some (group_in s g x.groups)) m
    ∙ ap is_some (group_later (is_live_in (validity_of a.shelf) t a.sessions) s g a.groups)

pub free_middle : (a middle : AccountRows) (s : List ℕ) (g t : ℕ) →
    reservation_in s g a.groups ≡ None → middle ≡ advanced t (with_group_row s g a) →
    reservation_in s g middle.groups ≡ None
free_middle a middle s g t none m =
    let keeps : List ℕ → Bool = is_live_in (validity_of a.shelf) t a.sessions in
    ap (λ x. reservation_in s g x.groups) m
    ∙ ap (λ (r : SessionGroup). r.reservation) (or_new_later keeps s g a.groups)
    ∙ free_later keeps s g a.groups none

pub covered_middle : (a middle : AccountRows) (s : List ℕ) (g t amount : ℕ) →
    amount ≤ funds g t (advanced t a).buckets → middle ≡ advanced t (with_group_row s g a) →
    amount ≤ funds g middle.as_of middle.buckets
covered_middle a middle s g t amount le m =
    subst (λ (x : AccountRows). amount ≤ funds g x.as_of x.buckets) (sym m)
    (subst (λ xs. amount ≤ funds g t xs) (sym (buckets_later a s g t)) le)

pub allowed_middle : (a middle : AccountRows) (s : List ℕ) (g t blocks : ℕ) →
    blocks ≤ allowance g t (advanced t a).buckets → middle ≡ advanced t (with_group_row s g a) →
    blocks ≤ allowance g middle.as_of middle.buckets
allowed_middle a middle s g t blocks le m =
    subst (λ (x : AccountRows). blocks ≤ allowance g x.as_of x.buckets) (sym m)
    (subst (λ xs. blocks ≤ allowance g t xs) (sym (buckets_later a s g t)) le)

-- ---- the ledger with the grant

pub rows_granted : (ledger : Ledger) (a middle after : AccountRows) (s : List ℕ)
    (g t units : ℕ) (due : Due) →
    IsAccount a → IsRowsOf ledger a → a.as_of ≤ t →
    is_live_in (validity_of a.shelf) t a.sessions s ≡ true → reservation_in s g a.groups ≡ None →
    middle ≡ advanced t (with_group_row s g a) → after ≡ reserved_account s g due middle →
    IsRowsOf (reserved a.shelf t s g units due ledger) after
rows_granted ledger a middle after s g t units due account rows le live_in none m e =
    let live : is_live (validity_of a.shelf) t ledger s ≡ true =
    sym (is_live_in-is ledger a t s rows le) ∙ live_in in
    let later : AccountRows = advanced t a in
    subst (IsRowsOf (reserved a.shelf t s g units due ledger))
    (sym (e ∙ ap (reserved_account s g due) m ∙ reserved_later a s g t due))
    (IsRowsOf-reserved ledger later s g units due (IsAccount-advanced a t account)
    (IsRowsOf-advanced ledger a t account rows le) live
    (free_later (is_live_in (validity_of a.shelf) t a.sessions) s g a.groups none))

-- ---- the greatest grant, by the book's look-up

pub quota_none : (b : Book) (before g : ℕ) (requested : Option ℕ) (periods : Periods)
    (place money free units : ℕ) (grant : Grant) → None ≡ tariff_of b g → units ≡ 0 →
    grant ≡ record {
      allowed = record { 0 = 0 };
      blocks = record { 0 = 0 };
      units = record { 0 = 0 };
      amount = record { 0 = 0 };
    } → IsQuota b before g requested periods place money free units grant
quota_none b before g requested periods place money free units grant none zero is =
    record {
      wanted = zero ∙ ap (λ o. wanted_with o requested) none;
      grant = is ∙ ap (λ o. grant_with o periods before place requested money free) none;
      greatest = λ x e. absurd (no_some x (none ∙ e));
    }

pub quota_some : (b : Book) (before g : ℕ) (requested : Option ℕ) (periods : Periods)
    (place money free units : ℕ) (grant : Grant) (x : GroupTariff) → Some x ≡ tariff_of b g →
    units ≡ wanted_units x requested → units ≤ x.max_grant →
    grant ≡ grant_of (prices_by x periods) before place units money free →
    IsGreatest (tiers_at x periods.before.0) (tiers_at x periods.after.0)
    (place + grant.allowed.0) (started before units x.block - grant.allowed.0) money
    grant.blocks.0 → grant.units.0 ≤ units →
    IsQuota b before g requested periods place money free units grant
quota_some b before g requested periods place money free units grant x some wanted most is greatest
    within =
    let reckoned : grant
    ≡ grant_of (prices_by x periods) before place (wanted_units x requested) money free =
    is ∙ ap (λ n. grant_of (prices_by x periods) before place n money free) wanted in
    let price : grant.amount.0
    ≡ dearer (tiers_at x periods.before.0) (tiers_at x periods.after.0)
    (place + grant.allowed.0) grant.blocks.0 =
    ap (λ (y : Grant). y.amount.0) is
    ∙ ap (λ (y : Grant). dearer (tiers_at x periods.before.0) (tiers_at x periods.after.0)
    (place + y.allowed.0) y.blocks.0) (sym is) in
    let least : grant.allowed.0 ≡ min (started before units x.block) free =
    ap (λ (y : Grant). y.allowed.0) is in
    let found : IsGreatestFor x periods before place requested money free grant = record {
      greatest =
          subst (λ n. IsGreatest (tiers_at x periods.before.0) (tiers_at x periods.after.0)
          (place + grant.allowed.0) (started before n x.block - grant.allowed.0) money
          grant.blocks.0) wanted greatest;
      within = omega (arith, within, most);
      covered = omega (arith, price, greatest.covered);
      allowed = omega (arith, least);
    } in
    record {
      wanted = wanted ∙ ap (λ o. wanted_with o requested) some;
      grant = reckoned ∙ ap (λ o. grant_with o periods before place requested money free) some;
      greatest =
          λ y e. subst
          (λ (z : GroupTariff). IsGreatestFor z periods before place requested money free grant)
          (some_of x y (some ∙ e)) found;
    }

-- a group of which a book has no prices in periods of its own isn't the book's
pub no_tariff : (b : Book) (g : ℕ) (p : Periods) → AreOfBook b p →
    ((q : GroupPrices) → ArePricesOf b g p.before.0 p.after.0 q → ⊥) → None ≡ tariff_of b g
no_tariff b g p of none = by_tariff (tariff_of b g) refl
  where
    by_tariff : (o : Option GroupTariff) → tariff_of b g ≡ o → None ≡ tariff_of b g
    by_tariff None e = sym e
    by_tariff (Some x) e = absurd (none (prices_by x p) (record {
      tariff = x;
      known = e;
      before = of.before;
      after = of.after;
      are = refl;
    }))

-- the same by the prices that the book gives
pub quota_by : (b : Book) (before g : ℕ) (requested : Option ℕ) (periods : Periods)
    (place money free units : ℕ) (grant : Grant) (q : GroupPrices) →
    ArePricesOf b g periods.before.0 periods.after.0 q → units ≡ wanted_units q.tariff requested →
    units ≤ q.tariff.max_grant → grant ≡ grant_of q before place units money free →
    IsGreatest q.before q.after (place + grant.allowed.0)
    (started before units q.tariff.block - grant.allowed.0) money grant.blocks.0 →
    grant.units.0 ≤ units → IsQuota b before g requested periods place money free units grant
quota_by b before g requested periods place money free units grant q f =
    subst (λ (z : GroupPrices). units ≡ wanted_units z.tariff requested →
    units ≤ z.tariff.max_grant → grant ≡ grant_of z before place units money free →
    IsGreatest z.before z.after (place + grant.allowed.0)
    (started before units z.tariff.block - grant.allowed.0) money grant.blocks.0 →
    grant.units.0 ≤ units → IsQuota b before g requested periods place money free units grant)
    (sym f.are)
    (λ wanted most is greatest within.
    quota_some b before g requested periods place money free units grant f.tariff
    (sym f.known) wanted
    most is greatest within)

-- ---- the greatest grant, by the rows and by the ledger

abbrev pub QuotaOf : AccountRows → List ℕ → ℕ → ℕ → Option ℕ → ℕ → Grant → Type 0
QuotaOf a s g t requested units grant =
    IsQuota (book_at a.shelf t) (used_in s g a.groups) g requested (periods_at a.shelf t)
    (count_in g (cycle_at a.shelf g t) a.counters) (funds g t (advanced t a).buckets)
    (allowance g t (advanced t a).buckets) units grant

-- a quota that was reckoned with periods that are those of the moment
pub quota_with : (a : AccountRows) (used g t : ℕ) (requested : Option ℕ) (units : ℕ) (grant : Grant)
    (periods : Periods) → periods ≡ periods_at a.shelf t →
    IsQuota (book_at a.shelf t) used g requested periods
    (count_in g (cycle_at a.shelf g t) a.counters)
    (funds g t (advanced t a).buckets) (allowance g t (advanced t a).buckets) units grant →
    IsQuota (book_at a.shelf t) used g requested (periods_at a.shelf t)
    (count_in g (cycle_at a.shelf g t) a.counters) (funds g t (advanced t a).buckets)
    (allowance g t (advanced t a).buckets) units grant
quota_with a used g t requested units grant periods is q =
    subst (λ p. IsQuota (book_at a.shelf t) used g requested p
    (count_in g (cycle_at a.shelf g t) a.counters)
    (funds g t (advanced t a).buckets) (allowance g t (advanced t a).buckets) units grant) is q

pub quota_of : (a : AccountRows) (s : List ℕ) (g t : ℕ) (requested : Option ℕ) (units : ℕ)
    (grant : Grant) (periods : Periods) → periods ≡ periods_at a.shelf t →
    IsQuota (book_at a.shelf t) (used_in s g a.groups) g requested periods
    (count_in g (cycle_at a.shelf g t) a.counters) (funds g t (advanced t a).buckets)
    (allowance g t (advanced t a).buckets) units grant →
    QuotaOf a s g t requested units grant
quota_of a s g t = quota_with a (used_in s g a.groups) g t

pub grant_told : (ledger : Ledger) (a : AccountRows) (s : List ℕ) (g t : ℕ) (requested : Option ℕ)
    (units : ℕ) (grant : Grant) → IsAccount a → IsRowsOf ledger a → a.as_of ≤ t →
    QuotaOf a s g t requested units grant →
    grant ≡ grant_for a.shelf t g (used s g ledger) requested ledger
grant_told ledger a s g t requested units grant account rows le q =
    q.grant ∙
    (λ i. grant_with (tariff_at a.shelf t g) (periods_at a.shelf t) (used_in_is ledger a s g rows i)
    (count_in_is ledger a g (cycle_at a.shelf g t) rows i) requested
    (funds g t ((IsRowsOf-advanced ledger a t account rows le).buckets i))
    (allowance g t ((IsRowsOf-advanced ledger a t account rows le).buckets i)))

-- a session that used nothing yet
pub new_told : (ledger : Ledger) (a : AccountRows) (g t : ℕ) (requested : Option ℕ) (units : ℕ)
    (grant : Grant) → IsAccount a → IsRowsOf ledger a → a.as_of ≤ t →
    IsQuota (book_at a.shelf t) 0 g requested (periods_at a.shelf t)
    (count_in g (cycle_at a.shelf g t) a.counters)
    (funds g t (advanced t a).buckets) (allowance g t (advanced t a).buckets) units grant →
    grant ≡ grant_for a.shelf t g 0 requested ledger
new_told ledger a g t requested units grant account rows le q =
    q.grant ∙
    (λ i. grant_with (tariff_at a.shelf t g) (periods_at a.shelf t) 0
    (count_in_is ledger a g (cycle_at a.shelf g t) rows i) requested
    (funds g t ((IsRowsOf-advanced ledger a t account rows le).buckets i))
    (allowance g t ((IsRowsOf-advanced ledger a t account rows le).buckets i)))

-- a grant that is covered stays within the funds, also of a group without a tariff
pub quota_covered : (a : AccountRows) (s : List ℕ) (g t : ℕ) (requested : Option ℕ) (units : ℕ)
    (grant : Grant) → QuotaOf a s g t requested units grant →
    grant.amount.0 ≤ funds g t (advanced t a).buckets
quota_covered a s g t requested units grant q = by_tariff (tariff_at a.shelf t g) refl
  where
    by_tariff : (o : Option GroupTariff) → tariff_at a.shelf t g ≡ o →
        grant.amount.0 ≤ funds g t (advanced t a).buckets
    by_tariff None e =
        let same : grant
        ≡ grant_with None (periods_at a.shelf t) (used_in s g a.groups)
        (count_in g (cycle_at a.shelf g t) a.counters) requested
        (funds g t (advanced t a).buckets) (allowance g t (advanced t a).buckets) =
        q.grant ∙ ap
        (λ o. grant_with o (periods_at a.shelf t) (used_in s g a.groups)
        (count_in g (cycle_at a.shelf g t) a.counters) requested
        (funds g t (advanced t a).buckets) (allowance g t (advanced t a).buckets)) e in
        let none : grant.amount.0 ≡ 0 = ap (λ (x : Grant). x.amount.0) same in
        omega (arith, none)
    by_tariff (Some x) e = (q.greatest x e).covered

-- units that are granted are some, of a group with a tariff, and no more than its greatest grant
pub record IsWithin (t : Option GroupTariff) (units : ℕ) : Type 0 where
  pub some : 0 < units
  pub tariff : GroupTariff
  pub known : t ≡ Some tariff
  pub most : units ≤ tariff.max_grant

-- the group of a grant has a tariff, also once the account is brought to its moment
pub tariff_middle : (a middle : AccountRows) (s : List ℕ) (g t units : ℕ) →
    IsWithin (tariff_at a.shelf t g) units → middle ≡ advanced t (with_group_row s g a) →
    is_some (tariff_at middle.shelf middle.as_of g) ≡ true
tariff_middle a middle s g t units within m =
    ap (λ (x : AccountRows). is_some (tariff_at x.shelf x.as_of g)) m ∙ ap is_some within.known

-- so do its blocks within the allowance
pub quota_allowed : (a : AccountRows) (s : List ℕ) (g t : ℕ) (requested : Option ℕ) (units : ℕ)
    (grant : Grant) → QuotaOf a s g t requested units grant →
    grant.allowed.0 ≤ allowance g t (advanced t a).buckets
quota_allowed a s g t requested units grant q = by_tariff (tariff_at a.shelf t g) refl
  where
    by_tariff : (o : Option GroupTariff) → tariff_at a.shelf t g ≡ o →
        grant.allowed.0 ≤ allowance g t (advanced t a).buckets
    by_tariff None e =
        let same : grant
        ≡ grant_with None (periods_at a.shelf t) (used_in s g a.groups)
        (count_in g (cycle_at a.shelf g t) a.counters) requested
        (funds g t (advanced t a).buckets) (allowance g t (advanced t a).buckets) =
        q.grant ∙ ap
        (λ o. grant_with o (periods_at a.shelf t) (used_in s g a.groups)
        (count_in g (cycle_at a.shelf g t) a.counters) requested
        (funds g t (advanced t a).buckets) (allowance g t (advanced t a).buckets)) e in
        let none : grant.allowed.0 ≡ 0 = ap (λ (x : Grant). x.allowed.0) same in
        omega (arith, none)
    by_tariff (Some x) e = (q.greatest x e).allowed

-- rule: grant-held, grant-covers
pub grant_is : (ledger : Ledger) (a middle after : AccountRows) (s : List ℕ) (g t : ℕ)
    (requested : Option ℕ) (wanted : ℕ) (grant : Grant) (at : Option ℕ) (validity : ℕ)
    (fewer : Bool) →
    IsAccount a → IsRowsOf ledger a → a.as_of ≤ t →
    is_live_in (validity_of a.shelf) t a.sessions s ≡ true → reservation_in s g a.groups ≡ None →
    QuotaOf a s g t requested wanted grant →
    0 < grant.units.0 → at ≡ switch_at a.shelf t → validity ≡ validity_at a.shelf t →
    fewer ≡ nat_lt grant.units.0 wanted →
    middle ≡ advanced t (with_group_row s g a) →
    after ≡ reserved_account s g (held_due grant) middle →
    IsGrantOf a.shelf t s g requested ledger after grant.units.0 at validity fewer
grant_is ledger a middle after s g t requested wanted grant at validity fewer account rows le live
    none q some switch valid few m e =
    let shelf : Shelf = a.shelf in
    let now : (advanced t a).buckets ≡ buckets_at (validity_of shelf) t ledger =
    (IsRowsOf-advanced ledger a t account rows le).buckets in
    let told : grant ≡ grant_for shelf t g (used s g ledger) requested ledger =
    grant_told ledger a s g t requested wanted grant account rows le q in
    record {
      some = some;
      units = ap (λ (x : Grant). x.units.0) told;
      switch = switch;
      validity = valid;
      fewer = few ∙ ap (nat_lt grant.units.0) q.wanted;
      greatest = λ x k.
          subst (λ (y : Grant). IsGreatest (tiers_at x (periods_at shelf t).before.0)
          (tiers_at x (periods_at shelf t).after.0)
          (counter (cycle_at shelf g) g (cycle_at shelf g t) ledger + y.allowed.0)
          (started (used s g ledger) (wanted_units x requested) x.block - y.allowed.0)
          (funds g t (buckets_at (validity_of shelf) t ledger)) y.blocks.0) told
          (subst (λ xs. IsGreatest (tiers_at x (periods_at shelf t).before.0)
          (tiers_at x (periods_at shelf t).after.0)
          (counter (cycle_at shelf g) g (cycle_at shelf g t) ledger + grant.allowed.0)
          (started (used s g ledger) (wanted_units x requested) x.block - grant.allowed.0)
          (funds g t xs) grant.blocks.0) now
          (subst (λ n. IsGreatest (tiers_at x (periods_at shelf t).before.0)
          (tiers_at x (periods_at shelf t).after.0) (n + grant.allowed.0)
          (started (used s g ledger) (wanted_units x requested) x.block - grant.allowed.0)
          (funds g t (advanced t a).buckets) grant.blocks.0)
          (count_in_is ledger a g (cycle_at shelf g t) rows)
          (subst (λ n. IsGreatest (tiers_at x (periods_at shelf t).before.0)
          (tiers_at x (periods_at shelf t).after.0)
          (count_in g (cycle_at shelf g t) a.counters + grant.allowed.0)
          (started n (wanted_units x requested) x.block - grant.allowed.0)
          (funds g t (advanced t a).buckets) grant.blocks.0) (used_in_is ledger a s g rows)
          (q.greatest x k).greatest)));
      rows = subst (λ (y : Grant). IsRowsOf (reserved shelf t s g grant.units.0 (held_due y) ledger)
          after) told
          (rows_granted ledger a middle after s g t grant.units.0 (held_due grant) account rows le
          live none m e);
    }

-- a grant of some units is of a group with a tariff, within its greatest grant
pub within_grant : (b : Book) (before g : ℕ) (requested : Option ℕ) (periods : Periods)
    (place money free units : ℕ) (grant : Grant) →
    IsQuota b before g requested periods place money free units grant → 0 < grant.units.0 →
    IsWithin (tariff_of b g) grant.units.0
within_grant b before g requested periods place money free units grant q some =
    by_tariff (tariff_of b g) refl
  where
    by_tariff : (o : Option GroupTariff) → tariff_of b g ≡ o →
        IsWithin (tariff_of b g) grant.units.0
    by_tariff None e =
        let same : grant ≡ grant_with None periods before place requested money free =
        q.grant ∙ ap (λ o. grant_with o periods before place requested money free) e in
        let none : grant.units.0 ≡ 0 = ap (λ (x : Grant). x.units.0) same in
        absurd (omega (arith, none))
    by_tariff (Some x) e =
        record { some = some; tariff = x; known = e; most = (q.greatest x e).within }
