-- What a book that is added later leaves of each step that a command takes on a ledger: the price
-- of a report, a settlement, a grant, a debit.
use Rattle.std.proofs.Common.{◌≡◌, ℕ, ◌+◌, ◌<◌, ◌≤◌, Bool, true, false, List, [], ◌∷◌, ◌++◌, refl}
use Rattle.std.proofs.Common.{sym, ap, subst, ◌∙◌, arith, Option, Some, None}
use Rattle.std.specs.Prelude.{◌==◌, ◌&&◌, if◌then◌else◌, unwrap_or, option_and_then, nat_le}
use Rattle.std.specs.Prelude.{IfSome}
use Rattle.units.specs.declared.blocks.UsedPart.{UsedPart}
use Rattle.calendar.specs.Timetable.{period_at}
use Rattle.tariffs.specs.Books.{Book}
use Rattle.tariffs.specs.Tariffs.{GroupTariff}
use Rattle.rating.specs.declared.report.Rated.{Rated}
use Rattle.buckets.specs.Row.{BucketRow}
use Rattle.buckets.specs.Share.{parts}
use Rattle.buckets.specs.declared.kind.Due.{Due}
use Rattle.buckets.specs.declared.kind.BucketKind.TheVariants.{Blocks}
use Rattle.buckets.specs.Spend.{funds, allowance}
use Rattle.buckets.specs.Holding.{paid, uncollected, holds_of, held_sum}
use Rattle.shelves.specs.Shelves.{Shelf, book_at, number_at, tariff_in, count}
use Rattle.shelves.specs.Laws.{GoesOnFrom}
use Rattle.shelves.proofs.Begun.{begun_few}
use Rattle.ledger.specs.declared.terms.Terms.{Terms}
use Rattle.ledger.specs.Ledger.{Fact, Ledger, GrantOf, EndOf, counts, is_same}
use Rattle.ledger.specs.Parts.{grant_in, told_of}
use Rattle.ledger.specs.Ledger.{telling, newest, or_else, inner, open_grant, used, counter, held}
use Rattle.ledger.specs.Ledger.{only, next_charge}
use Rattle.ledger.specs.Ledger.Fact.{Grant, End, Use}
use Rattle.ledger.specs.Pricing.{validity_of, cycle_at, cycle_with, tariff_of, one_period}
use Rattle.ledger.specs.Pricing.{terms_now, periods_by, rated_with, grant_with}
use Rattle.ledger.specs.Balance.{buckets_at}
use Rattle.ledger.specs.Settlement.{reported, report_price, charge_facts, use_of, settled_by}
use Rattle.ledger.specs.Settlement.{passes, passes_limit, coverable, due_of}
use Rattle.ledger.specs.Reservation.{reserved, grant_for, hold_facts}
use Rattle.ledger.specs.Debiting.{event_price, rest_price, is_covered, untagged}
use Rattle.reserving.proofs.Lists.{no_some, some_of}
use Rattle.reserving.proofs.LaterBooks.{IsBefore, AgreeBefore, buckets_same, count_same}

-- ---- the books of a ledger's grants

abbrev pub IsNumbered : ℕ → Fact → Type 0
IsNumbered n f = IfSome (counts f).grant (λ x. x.terms.book ≤ n)

-- each grant's book has a number up to this one
abbrev pub AreNumbered : ℕ → Ledger → Type 0
AreNumbered n [] = Unit {0}
AreNumbered n (d ∷ older) = IsNumbered n d.fact × AreNumbered n older

told_numbered : (n : ℕ) (s : List ℕ) (g : ℕ) (ledger : Ledger) (x : Terms) → AreNumbered n ledger →
    newest (grant_in s g) ledger ≡ Some (Some x) → x.book ≤ n
told_numbered n s g [] x h e = absurd (no_some (Some x) e)
told_numbered n s g (d ∷ older) x h e =
    by_grant (counts d.fact).grant (counts d.fact).end h.0 (told_numbered n s g older x h.1) e
  where
    told : (b : Bool) (o : Option Terms) → ((y : Terms) → o ≡ Some y → y.book ≤ n) →
        (newest (grant_in s g) older ≡ Some (Some x) → x.book ≤ n) →
        or_else (if b then Some o else None) (newest (grant_in s g) older) ≡ Some (Some x) →
        x.book ≤ n
    told true o own rest e = own x (some_of o (Some x) e)
    told false o own rest e = rest e

    by_grant : (a : Option GrantOf) (z : Option EndOf) → IfSome a (λ y. y.terms.book ≤ n) →
        (newest (grant_in s g) older ≡ Some (Some x) → x.book ≤ n) →
        or_else (told_of (λ y. y.terms) s g (telling a z)) (newest (grant_in s g) older)
        ≡ Some (Some x) → x.book ≤ n
    by_grant (Some a) z own rest e =
        told (is_same a.session s && a.group == g) (Some a.terms)
        (λ y k. subst (λ (w : Terms). w.book ≤ n) (some_of a.terms y k) own) rest e
    by_grant None (Some z) own rest e =
        told (is_same z.session s && z.group == g) None (λ y k. absurd (no_some y k)) rest e
    by_grant None None own rest e = rest e

inner_told : (o : Option (Option Terms)) (x : Terms) → inner o ≡ Some x → o ≡ Some (Some x)
inner_told None x e = absurd (no_some x e)
inner_told (Some y) x e = ap Some e

granted_numbered : (n : ℕ) (o : Option Terms) (now : Terms) →
    ((x : Terms) → o ≡ Some x → x.book ≤ n) → now.book ≤ n → (unwrap_or o now).book ≤ n
granted_numbered n None now each le = le
granted_numbered n (Some x) now each le = each x refl

-- ---- a ledger before a moment, at a moment before it

module _ (from : ℕ) (b u : Shelf) (on : GoesOnFrom from b u) (t : ℕ) (early : t < from)
    (ledger : Ledger) (before : IsBefore from ledger) (numbered : AreNumbered (count b) ledger)
  where
    book_same : book_at b t ≡ book_at u t
    book_same = sym (on.before t early).book

    number_same : number_at b t ≡ number_at u t
    number_same = sym (on.before t early).number

    valid : AgreeBefore from (validity_of b) (validity_of u)
    valid x lt = ap (λ (y : Book). y.validity) (sym (on.before x lt).book)

    cycles : (g : ℕ) → AgreeBefore from (cycle_at b g) (cycle_at u g)
    cycles g x lt =
        ap (λ (y : Book). cycle_with y.calendar.zone (tariff_of y g) x) (sym (on.before x lt).book)

    -- the buckets are alike
    pub rows_same : buckets_at (validity_of b) t ledger ≡ buckets_at (validity_of u) t ledger
    rows_same = buckets_same from (validity_of b) (validity_of u) t ledger valid before

    -- and the counter of a group
    pub place_same : (g : ℕ) → counter (cycle_at b g) g (cycle_at b g t) ledger
        ≡ counter (cycle_at u g) g (cycle_at u g t) ledger
    place_same g = ap (λ c. counter (cycle_at b g) g c ledger) (cycles g t early)
        ∙ count_same from (cycle_at b g) (cycle_at u g) g (cycle_at u g t) ledger (cycles g) before

    terms_same : terms_now b t ≡ terms_now u t
    terms_same = λ i. record {
      book = number_same i;
      periods = one_period (period_at (book_same i).calendar t);
    }

    -- the tariff of a number that the first shelf has
    tariff_same : (n g : ℕ) → n ≤ count b → tariff_in b n g ≡ tariff_in u n g
    tariff_same n g le =
        ap (λ (o : Option Book). option_and_then (λ y. tariff_of y g) o) (sym (on.numbered n le))

    abbrev priced_by : Shelf → List ℕ → ℕ → Terms
    priced_by s session g = unwrap_or (open_grant session g ledger) (terms_now s t)

    in_count : (session : List ℕ) (g : ℕ) → (priced_by b session g).book ≤ count b
    in_count session g =
        granted_numbered (count b) (open_grant session g ledger) (terms_now b t)
        (λ x e. told_numbered (count b) session g ledger x numbered
        (inner_told (newest (grant_in session g) ledger) x e))
        (let few = begun_few b.later t in omega (arith, few))

    -- the blocks that may cover a report
    pub coverable_same : (session : List ℕ) (g : ℕ) →
        coverable (validity_of b) t session g ledger ≡ coverable (validity_of u) t session g ledger
    coverable_same session g =
        λ i. held_sum Blocks
        (parts (λ (x : BucketRow). held (only session g) x.number ledger) (rows_same i))
        (rows_same i)
        + allowance g t (rows_same i)

    -- a report has one price
    -- rule: later-books.leave-the-same
    pub price_same : (session : List ℕ) (g : ℕ) (used_parts : List UsedPart) →
        report_price b t session g used_parts ledger ≡ report_price u t session g used_parts ledger
    price_same session g used_parts =
        ap (λ (o : Option GroupTariff).
        rated_with o (priced_by b session g).periods (used session g ledger)
        (counter (cycle_at b g) g (cycle_at b g t) ledger)
        (coverable (validity_of b) t session g ledger) used_parts)
        (tariff_same (priced_by b session g).book g (in_count session g))
        ∙ (λ i. rated_with
        (tariff_in u (unwrap_or (open_grant session g ledger) (terms_same i)).book g)
        (unwrap_or (open_grant session g ledger) (terms_same i)).periods (used session g ledger)
        (place_same g i) (coverable_same session g i) used_parts)

    abbrev settled_with : List ℕ → ℕ → ℕ → List BucketRow → Rated → Ledger
    settled_with session g units rows r =
        record { at = t; fact = End session g }
        ∷ record {
          at = t;
          fact = Use (use_of session g units r.blocks (due_of r)
              (uncollected (parts (λ (x : BucketRow). held (only session g) x.number ledger) rows) g
              t
              r.amount.0 rows));
        }
        ∷ charge_facts t
        (parts (paid (parts (λ (x : BucketRow). held (only session g) x.number ledger) rows) g t
        (due_of r) rows) rows) ++ ledger

    -- and one settlement
    -- rule: later-books.leave-the-same
    pub settled_same : (session : List ℕ) (g : ℕ) (used_parts : List UsedPart) →
        settled_by b t session g used_parts ledger ≡ settled_by u t session g used_parts ledger
    settled_same session g [] = refl
    settled_same session g (p ∷ ps) =
        λ i. settled_with session g (reported (p ∷ ps)) (rows_same i)
        (price_same session g (p ∷ ps) i)

    pub limit_same : (session : List ℕ) (g : ℕ) (used_parts : List UsedPart) →
        passes_limit b t session g used_parts ledger ≡ passes_limit u t session g used_parts ledger
    limit_same session g [] = refl
    limit_same session g (p ∷ ps) =
        λ i. passes (used session g ledger) (reported (p ∷ ps)) (place_same g i)
        (price_same session g (p ∷ ps) i).blocks (next_charge ledger)

    -- what is granted, and the ledger with the grant
    -- rule: later-books.leave-the-same
    pub grant_same : (g used_before : ℕ) (requested : Option ℕ) →
        grant_for b t g used_before requested ledger ≡ grant_for u t g used_before requested ledger
    grant_same g used_before requested =
        λ i. grant_with (tariff_of (book_same i) g) (periods_by (book_same i) t) used_before
        (place_same g i) requested (funds g t (rows_same i)) (allowance g t (rows_same i))

    pub reserved_same : (session : List ℕ) (g units : ℕ) (due : Due) →
        reserved b t session g units due ledger ≡ reserved u t session g units due ledger
    reserved_same session g units due =
        λ i. hold_facts t session g (holds_of g t due (rows_same i))
        ++ (record {
          at = t;
          fact = Grant (record {
            session = session;
            group = g;
            terms = record { book = number_same i; periods = periods_by (book_same i) t };
            units = units;
            counter = place_same g i;
          });
        } ∷ ledger)

    -- an event has one price, and is covered alike
    pub event_same : (g covered units : ℕ) →
        event_price b t g covered units ledger ≡ event_price u t g covered units ledger
    event_same g covered units =
        ap (λ (o : Option GroupTariff).
        rated_with o (terms_now b t).periods 0
        (counter (cycle_at b g) g (cycle_at b g t) ledger) covered (untagged units))
        (tariff_same (number_at b t) g (let few = begun_few b.later t in omega (arith, few)))
        ∙ (λ i. rated_with (tariff_in u (terms_same i).book g) (terms_same i).periods 0
        (place_same g i) covered (untagged units))

    pub rest_same : (g units : ℕ) → rest_price b t g units ledger ≡ rest_price u t g units ledger
    rest_same g units =
        event_same g (allowance g t (buckets_at (validity_of b) t ledger)) units
        ∙ ap (λ (rows : List BucketRow). event_price u t g (allowance g t rows) units ledger)
        rows_same

    pub covered_same : (g units : ℕ) → is_covered b t g units ledger ≡ is_covered u t g units ledger
    covered_same g units =
        λ i. nat_le (rest_same g units i).amount.0 (funds g t (rows_same i))
