-- Visitors that are shown rows in parts.
use Rattle.std.proofs.Common.{◌≡◌, ℕ, Bool, true, false, List, [], ◌∷◌, ◌++◌, refl, sym}
use Rattle.std.proofs.Common.{subst, true≢false}
use Rattle.std.specs.List.{filter}
use Rattle.std.proofs.lemmas.List.Elements.{filter-append}
use Rattle.ledger.specs.ChargeColumns.{ChargeColumns}
use Rattle.keepers.specs.Rows.{is_between}
use Rattle.keepers.specs.Visits.{GoesOn, Visits, Shows, IsShown}

module _ {V : Type 0} (Sees : V → ChargeColumns → Bool → V → Type 0) where
  -- one row, and what follows
  abbrev After : List ChargeColumns → Bool → V → V → Bool → Type 0
  After rest all next new goes =
      GoesOn goes (Shows Sees rest all next new) ((all ≡ false) × (new ≡ next))

  -- rule: charge-source.visits
  pub shown_visits : (rows : List ChargeColumns) (all : Bool) (old new : V) →
      Shows Sees rows all old new → Visits Sees rows old new
  shown_visits [] all old new h = h.1
  shown_visits (c ∷ rest) all old new h =
      at h.1 h.0 h.2 h.3 (λ next r. shown_visits rest all next new r)
    where
      at : (goes : Bool) (next : V) → Sees old c goes next → After rest all next new goes →
          ((next : V) → Shows Sees rest all next new → Visits Sees rest next new) →
          Visits Sees (c ∷ rest) old new
      at true next s r later = (next, true, s, later next r)
      at false next s r later = (next, false, s, r.1)

  -- rows after rows that were all shown
  pub shows_then : (xs ys : List ChargeColumns) (all : Bool) (old mid new : V) →
      Shows Sees xs true old mid → Shows Sees ys all mid new → Shows Sees (xs ++ ys) all old new
  shows_then [] ys all old mid new h k = subst (λ v. Shows Sees ys all v new) h.1 k
  shows_then (c ∷ xs) ys all old mid new h k =
      at h.1 h.0 h.2 h.3 (λ next r. shows_then xs ys all next mid new r k)
    where
      at : (goes : Bool) (next : V) → Sees old c goes next → After xs true next mid goes →
          ((next : V) → Shows Sees xs true next mid → Shows Sees (xs ++ ys) all next new) →
          Shows Sees (c ∷ (xs ++ ys)) all old new
      at true next s r later = (next, true, s, later next r)
      at false next s r later = absurd (true≢false r.0)

  -- rows after one at which it stopped aren't shown
  pub shows_stopped : (xs ys : List ChargeColumns) (old new : V) →
      Shows Sees xs false old new → Shows Sees (xs ++ ys) false old new
  shows_stopped [] ys old new h = absurd (true≢false (sym h.0))
  shows_stopped (c ∷ xs) ys old new h =
      at h.1 h.0 h.2 h.3 (λ next r. shows_stopped xs ys next new r)
    where
      at : (goes : Bool) (next : V) → Sees old c goes next → After xs false next new goes →
          ((next : V) → Shows Sees xs false next new → Shows Sees (xs ++ ys) false next new) →
          Shows Sees (c ∷ (xs ++ ys)) false old new
      at true next s r later = (next, true, s, later next r)
      at false next s r later = (next, false, s, r)

-- ---- rows of a range, whichever those are

-- it was shown some of them, and goes on
pub record Goes {V : Type 0} (Sees : V → ChargeColumns → Bool → V → Type 0) (from until : ℕ)
    (old now : V) : Type 0 where
  pub rows : List ChargeColumns
  pub shows : Shows Sees (filter (is_between from until) rows) true old now

module _ {V : Type 0} (Sees : V → ChargeColumns → Bool → V → Type 0) (from until : ℕ) where
  pub nothing_shown : (v : V) → IsShown Sees from until v v
  nothing_shown v = record { rows = []; visits = refl }

  pub rows_shown : (rows : List ChargeColumns) (all : Bool) (old new : V) →
      Shows Sees (filter (is_between from until) rows) all old new →
      IsShown Sees from until old new
  rows_shown rows all old new h = record {
    rows = rows;
    visits = shown_visits Sees (filter (is_between from until) rows) all old new h;
  }

  pub goes_not_yet : (v : V) → Goes Sees from until v v
  goes_not_yet v = record { rows = []; shows = (refl, refl) }

  -- the rows after those
  joined : (xs ys : List ChargeColumns) (all : Bool) (old mid new : V) →
      Shows Sees (filter (is_between from until) xs) true old mid →
      Shows Sees (filter (is_between from until) ys) all mid new →
      Shows Sees (filter (is_between from until) (xs ++ ys)) all old new
  joined xs ys all old mid new h k =
      let p = is_between from until in
      subst (λ l. Shows Sees l all old new) (sym (filter-append p xs ys))
      (shows_then Sees (filter p xs) (filter p ys) all old mid new h k)

  pub goes_further : (rows : List ChargeColumns) (old mid new : V) → Goes Sees from until old mid →
      Shows Sees (filter (is_between from until) rows) true mid new →
      Goes Sees from until old new
  goes_further rows old mid new h k = record {
    rows = h.rows ++ rows;
    shows = joined h.rows rows true old mid new h.shows k;
  }

  pub goes_last : (rows : List ChargeColumns) (all : Bool) (old mid new : V) →
      Goes Sees from until old mid →
      Shows Sees (filter (is_between from until) rows) all mid new →
      IsShown Sees from until old new
  goes_last rows all old mid new h k =
      rows_shown (h.rows ++ rows) all old new (joined h.rows rows all old mid new h.shows k)

  pub goes_ended : (old new : V) → Goes Sees from until old new → IsShown Sees from until old new
  goes_ended old new h = rows_shown h.rows true old new h.shows
