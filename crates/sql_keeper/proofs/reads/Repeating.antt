-- The counters of a moment, read by how often they begin again.
use Rattle.std.proofs.Common.{◌≡◌, ℕ, ◌==◌, Bool, true, false, cond, List, [], ◌∷◌, ◌++◌, Option}
use Rattle.std.proofs.Common.{Some, None, refl, ap, sym, subst, ◌∙◌}
use Rattle.std.specs.Prelude.{if◌then◌else◌, ◌||◌, not}
use Rattle.std.specs.List.{find, list_any}
use Rattle.std.specs.Option.{option_or}
use Rattle.std.proofs.lemmas.List.Folds.{find-append}
use Rattle.calendar.specs.Clock.{ZoneRule}
use Rattle.calendar.specs.Timetable.{cycle_of}
use Rattle.calendar.specs.contracts.cycle.CyclePartialEq.TheImpl.{ghosts as cycles}
use Rattle.calendar.specs.declared.cycle.Cycle.{Cycle}
use Rattle.calendar.specs.declared.cycle.Cycle.TheVariants as often
use Rattle.tariffs.specs.Books.{Book}
use Rattle.tariffs.specs.Tariffs.{GroupTariff}
use Rattle.shelves.specs.Shelves.{Shelf, book_at}
use Rattle.reserving.specs.declared.session.Counter.{Counter}
use Rattle.ledger.specs.Pricing.{cycle_with, tariff_of}
use Rattle.reserving.specs.Sessions.{is_counter, counter_in}
use Rattle.reserving.proofs.Keys.{first_true, same_number}
use Rattle.reserving.proofs.Lists.{no_some, not_both, some_of}
use Rattle.sql_rows.specs.declared.head_counter_rows.HeadCycles.{HeadCycles}
use Rattle.sql_rows.specs.Content.{TableRows}
use Rattle.sql_rows.specs.Lists.{AreCountersIn}
use Rattle.sql_keeper.specs.declared.live_rows.FirstRows.{FirstRows}
use Rattle.sql_keeper.specs.LiveRows.{AreCountersAt}
use Rattle.sql_keeper.specs.Repeating.{IsFirst, IsFirstOf, begins_again, has_cycles, repeating}
use Rattle.sql_keeper.specs.Repeating.{repeats_in, repeats_with}
use Rattle.sql_keeper.specs.SeenFirst.{AreCyclesAt, IsFirstRead}
use Rattle.sql_keeper.specs.declared.seen_first.AskedCycles.{AskedCycles}
use Rattle.sql_keeper.proofs.loads.LiveRows.{find_kept}

-- the counters of the groups whose counters begin again so often, each of the cycle at the moment
abbrev AreRepeating : Book → Cycle → ℕ → TableRows → List Counter → Type 0
AreRepeating b repeats t rows cs = (g c : ℕ) → counter_in g c cs
    ≡ (if cycles.eq (repeats_in b g) repeats
    then (if c == cycle_of b.calendar.zone repeats t then rows.counters g c else None) else None)

-- those of the groups whose counters begin again so often, among all of the cycle
repeating_among : (b : Book) (repeats : Cycle) (t cycle : ℕ) (rows : TableRows)
    (all cs : List Counter)
    → cycle ≡ cycle_of b.calendar.zone repeats t → AreCountersIn cycle rows all
    → cs ≡ repeating b repeats all → AreRepeating b repeats t rows cs
repeating_among b repeats t cycle rows all cs cycle_is found is g c =
    ap (counter_in g c) is
    ∙ find_kept (is_counter g c) (λ r. cycles.eq (repeats_in b r.group) repeats)
    (cycles.eq (repeats_in b g) repeats) (λ x e. ap (λ n. cycles.eq (repeats_in b n) repeats)
    (same_number x.group g (first_true (x.group == g) (x.cycle == c) e))) all
    ∙ ap (λ o. if cycles.eq (repeats_in b g) repeats then o else None)
    (found g c ∙ ap (λ n. if c == n then rows.counters g c else None) cycle_is)

-- where none passes, one that is found doesn't
not_any : {A : Type 0} (p q : A → Bool) (xs : List A) (x : A) → list_any p xs ≡ false →
    find q xs ≡ Some x → p x ≡ false
not_any p q [] x none e = absurd (no_some x e)
not_any p q (y ∷ ys) x none e =
    at (p y) (q y) refl none e (λ rest f. not_any p q ys x rest f)
  where
    at : (t u : Bool) → p y ≡ t → (t || list_any p ys) ≡ false →
        cond u (Some y) (find q ys) ≡ Some x →
        (list_any p ys ≡ false → find q ys ≡ Some x → p x ≡ false) → p x ≡ false
    at true u here none e rest = absurd (not_both (sym none))
    at false true here none e rest = subst (λ z. p z ≡ false) (some_of y x e) here
    at false false here none e rest = rest none e

-- no counter begins again where no group of the book does
never_again : (b : Book) → has_cycles b ≡ false → (g : ℕ) → repeats_in b g ≡ often.None
never_again b none g = at (tariff_of b g) refl
  where
    is_none : (k : Cycle) → not (cycles.eq k often.None) ≡ false → k ≡ often.None
    is_none often.None e = refl
    is_none often.Day e = absurd (not_both (sym e))
    is_none often.Month e = absurd (not_both (sym e))

    at : (o : Option GroupTariff) → tariff_of b g ≡ o → repeats_with o ≡ often.None
    at None e = refl
    at (Some x) e =
        is_none x.cycle (not_any begins_again (λ t. t.group == g) b.tariffs x none e)

-- so none of any list is one of them
none_repeating : (b : Book) (repeats : Cycle) → cycles.eq often.None repeats ≡ false → (t : ℕ)
    (rows : TableRows) (all : List Counter) → has_cycles b ≡ false
    → AreRepeating b repeats t rows (repeating b repeats all)
none_repeating b repeats other t rows all none g c =
    find_kept (is_counter g c) (λ r. cycles.eq (repeats_in b r.group) repeats)
    (cycles.eq (repeats_in b g) repeats) (λ x e. ap (λ n. cycles.eq (repeats_in b n) repeats)
    (same_number x.group g (first_true (x.group == g) (x.cycle == c) e))) all
    ∙ neither (cycles.eq (repeats_in b g) repeats)
    (ap (λ k. cycles.eq k repeats) (never_again b none g) ∙ other)
  where
    neither : (u : Bool) → u ≡ false → (if u then counter_in g c all else None)
        ≡ (if u then (if c == cycle_of b.calendar.zone repeats t then rows.counters g c else None)
        else None)
    neither true e = absurd (not_both (sym e))
    neither false e = refl

-- the cycle of a group's counter is that of how often it begins again
cycle_repeats : (zone : ZoneRule) (o : Option GroupTariff) (t : ℕ)
    → cycle_of zone (repeats_with o) t ≡ cycle_with zone o t
cycle_repeats zone None t = refl
cycle_repeats zone (Some x) t = refl

or_none : {A : Type 0} (o : Option A) → option_or o None ≡ o
or_none None = refl
or_none (Some x) = refl

-- one of the three has it
module _ (zone : ZoneRule) (t c : ℕ) (o never daily monthly : Option Counter) where
  abbrev part : Cycle → Cycle → Option Counter
  part repeats k =
      if cycles.eq k repeats then (if c == cycle_of zone repeats t then o else None) else None

  one_of_three : (k : Cycle) → never ≡ part often.None k → daily ≡ part often.Day k
      → monthly ≡ part often.Month k
      → option_or (option_or never daily) monthly ≡ (if c == cycle_of zone k t then o else None)
  one_of_three often.None e f h = (λ i. option_or (option_or (e i) (f i)) (h i))
      ∙ or_none _
      ∙ or_none _
  one_of_three often.Day e f h = (λ i. option_or (option_or (e i) (f i)) (h i)) ∙ or_none _
  one_of_three often.Month e f h = λ i. option_or (option_or (e i) (f i)) (h i)

-- all of them, by the book at the moment
counters_joined : (s : Shelf) (b : Book) (t : ℕ) (rows : TableRows)
    (never daily monthly all : List Counter) → b ≡ book_at s t
    → AreRepeating b often.None t rows never → AreRepeating b often.Day t rows daily
    → AreRepeating b often.Month t rows monthly
    → all ≡ (never ++ daily) ++ monthly → AreCountersAt s t rows all
counters_joined s b t rows never daily monthly all of_shelf first second third is g c =
    ap (counter_in g c) is
    ∙ find-append (is_counter g c) (never ++ daily) monthly
    ∙ ap (λ o. option_or o (counter_in g c monthly)) (find-append (is_counter g c) never daily)
    ∙ one_of_three b.calendar.zone t c (rows.counters g c) (counter_in g c never)
    (counter_in g c daily) (counter_in g c monthly) (repeats_in b g) (first g c)
    (second g c) (third g c)
    ∙ ap (λ n. if c == n then rows.counters g c else None)
    (cycle_repeats b.calendar.zone (tariff_of b g) t
    ∙ ap (λ (x : Book). cycle_with x.calendar.zone (tariff_of x g) t) of_shelf)

-- what is made of the counters of the three cycles: where no group of the book counts by the day
-- or by the month, none of the lists for these is of one
pub first_told : (b : Book) (t : ℕ) (k : AskedCycles) (rows : TableRows) (read : HeadCycles)
    (made : FirstRows) → AreCyclesAt b t k → IsFirstRead k rows read → IsFirstOf b read made
    → IsFirst b t rows made.head made.counters.items
first_told b t k rows read made at found is = record {
  head_is = is.head_is ∙ found.head;
  counters_are = λ s of_shelf.
      counters_joined s b t rows (repeating b often.None read.never.items)
      (repeating b often.Day read.daily.items) (repeating b often.Month read.monthly.items)
      made.counters.items of_shelf
      (repeating_among b often.None t k.never rows read.never.items _ at.never found.never refl)
      (dated often.Day refl k.day read.daily.items at.day found.daily)
      (dated often.Month refl k.month read.monthly.items at.month found.monthly)
      is.counters_are;
}
  where
    dated : (repeats : Cycle) → cycles.eq often.None repeats ≡ false → (cycle : ℕ)
        (all : List Counter) → (k.has_dates ≡ true → cycle ≡ cycle_of b.calendar.zone repeats t)
        → (k.has_dates ≡ true → AreCountersIn cycle rows all)
        → AreRepeating b repeats t rows (repeating b repeats all)
    dated repeats other cycle all same told = go (has_cycles b) refl
      where
        go : (u : Bool) → has_cycles b ≡ u → AreRepeating b repeats t rows (repeating b repeats all)
        go true e = repeating_among b repeats t cycle rows all (repeating b repeats all)
            (same (at.dates ∙ e)) (told (at.dates ∙ e)) refl
        go false e = none_repeating b repeats other t rows all e
