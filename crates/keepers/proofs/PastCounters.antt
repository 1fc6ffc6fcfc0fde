-- Counters of past cycles: none of them is loaded.
use Rattle.std.proofs.Common.{◌≡◌, ℕ, Bool, true, false, cond, List, [], ◌∷◌, ◌++◌, refl, sym, ap}
use Rattle.std.proofs.Common.{◌∙◌, Option, Some, None}
use Rattle.std.specs.Prelude.{if◌then◌else◌, ◌==◌, filter}
use Rattle.std.proofs.lemmas.Bool.{or_parts}
use Rattle.calendar.specs.declared.cycle.Cycle.{Cycle}
use Rattle.calendar.specs.declared.cycle.Cycle.TheVariants as Each
use Rattle.shelves.specs.Shelves.{Shelf, book_at}
use Rattle.tariffs.specs.Tariffs.{GroupTariff}
use Rattle.reserving.specs.declared.session.Counter.{Counter}
use Rattle.ledger.specs.Pricing.{tariff_at, cycle_with, cycle_at}
use Rattle.reserving.specs.Keyed.{arranged}
use Rattle.reserving.specs.Sessions.{counter_before}
use Rattle.ledger.specs.Lists.{EachIn}
use Rattle.reserving.specs.Rows.{AreApart}
use Rattle.reserving.specs.Stored.{StoredRows}
use Rattle.reserving.specs.Live.{live_part}
use Rattle.reserving.proofs.Lists.{not_both, EachIn-weaker}
use Rattle.reserving.proofs.Keys.{same_number}
use Rattle.keepers.specs.Keyed.{same_counter}
use Rattle.keepers.specs.Named.{Numbers, is_numbered, is_left_now, may_go_on, AreLeftCounters}

-- no counter that was left is of a cycle at the moment
past_cycle : (shelf : Shelf) (t : ℕ) (cycles : Numbers) (cycle : Cycle) →
    may_go_on shelf t cycles ≡ false → is_left_now shelf t cycles cycle ≡ false
past_cycle shelf t cycles Each.None h = (or_parts _ _ (or_parts _ _ h).0).0
past_cycle shelf t cycles Each.Day h = (or_parts _ _ (or_parts _ _ h).0).1
past_cycle shelf t cycles Each.Month h = (or_parts _ _ h).1

past_tariff : (shelf : Shelf) (t : ℕ) (cycles : Numbers) (o : Option GroupTariff) →
    may_go_on shelf t cycles ≡ false →
    is_numbered cycles (cycle_with (book_at shelf t).calendar.zone o t) ≡ false
past_tariff shelf t cycles None h = past_cycle shelf t cycles Each.None h
past_tariff shelf t cycles (Some x) h = past_cycle shelf t cycles x.cycle h

past_counter : (shelf : Shelf) (t : ℕ) (cycles : Numbers) (c : Counter) →
    may_go_on shelf t cycles ≡ false → is_numbered cycles c.cycle ≡ true →
    (c.cycle == cycle_at shelf c.group t) ≡ false
past_counter shelf t cycles c none h = at (c.cycle == cycle_at shelf c.group t) refl
  where
    at : (e : Bool) → (c.cycle == cycle_at shelf c.group t) ≡ e → e ≡ false
    at true e =
        absurd (not_both (sym (past_tariff shelf t cycles (tariff_at shelf t c.group) none)
        ∙ ap (is_numbered cycles) (sym (same_number c.cycle (cycle_at shelf c.group t) e)) ∙ h))
    at false e = refl

none_ahead : {A : Type 0} (p : A → Bool) (xs ys : List A) → EachIn (λ x. p x ≡ false) xs →
    filter p ys ≡ filter p (xs ++ ys)
none_ahead p [] ys h = refl
none_ahead p (x ∷ xs) ys h =
    none_ahead p xs ys h.1
    ∙ sym (ap (λ t. cond t (x ∷ filter p (xs ++ ys)) (filter p (xs ++ ys))) h.0)

-- so the same is loaded without them
pub loaded_without : (shelf : Shelf) (t : ℕ) (cycles : Numbers) (rows : List Counter)
    (live : StoredRows) → AreLeftCounters cycles rows →
    live_part shelf t (if may_go_on shelf t cycles then rows else []) live
    ≡ live_part shelf t rows live
loaded_without shelf t cycles rows live h = at (may_go_on shelf t cycles) refl
  where
    now : Counter → Bool
    now r = r.cycle == cycle_at shelf r.group t

    at : (b : Bool) → may_go_on shelf t cycles ≡ b →
        live_part shelf t (if b then rows else []) live ≡ live_part shelf t rows live
    at true e = refl
    at false e = λ i. record (live_part shelf t rows live) {
      counters = arranged counter_before (none_ahead now rows live.counters
          (EachIn-weaker (λ c. is_numbered cycles c.cycle ≡ true) (λ c. now c ≡ false) rows
          (λ c k. past_counter shelf t cycles c e k) h) i);
    }

apart_behind : (xs ys : List Counter) → AreApart same_counter (xs ++ ys) →
    AreApart same_counter ys
apart_behind [] ys h = h
apart_behind (x ∷ xs) ys h = apart_behind xs ys h.1

pub apart_without : (b : Bool) (xs ys : List Counter) → AreApart same_counter (xs ++ ys) →
    AreApart same_counter ((if b then xs else []) ++ ys)
apart_without true xs ys h = h
apart_without false xs ys h = apart_behind xs ys h

pub each_without : {A : Type 0} (P : A → Type 0) (b : Bool) (xs : List A) → EachIn P xs →
    EachIn P (if b then xs else [])
each_without P true xs h = h
each_without P false xs h = tt
