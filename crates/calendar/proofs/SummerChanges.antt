-- The changes of a rule make a zone: they are in order, a week apart and more.
use Rattle.std.proofs.Common.{◌≡◌, ℕ, zero, suc, ◌+◌, ◌-◌, ◌*◌, ◌%◌, ◌<◌, ◌≤◌, ◌⊎◌, Bool, true}
use Rattle.std.proofs.Common.{false, List, [], ◌∷◌, ◌++◌, refl, ap, sym, ◌∙◌, arith, pos, inl, inr}
use Rattle.std.proofs.Common.{subst}
use Rattle.std.specs.Prelude.{if◌then◌else◌}
use Rattle.std.proofs.lemmas.Bool.{cases_lt}
use Rattle.std.proofs.lemmas.Bool.Decides.{nat_tests}
use Rattle.std.proofs.lemmas.List.{append_assoc, append-nil}
use Rattle.jiff_core.specs.Calendar.{day_count}
use Rattle.jiff_core.proofs.CalendarLemmas.{days_in_month_bounds, day_count-next_month}
use Rattle.calendar.specs.declared.zone.ZoneChange.{ZoneChange}
use Rattle.calendar.specs.declared.summer.YearlyChange.{YearlyChange}
use Rattle.calendar.specs.declared.summer.SummerTime.{SummerTime}
use Rattle.calendar.specs.Clock.{IsLead, AreChanges, AreApart, IsZone}
use Rattle.calendar.specs.Summer.{day_in, moment_in, beginning_in, end_in, is_northern, changes_in}
use Rattle.calendar.specs.Summer.{changes_from, zone_of_rule, IsYearly, AreMonthsApart}
use Rattle.calendar.specs.Summer.{IsSummerTime}
use Rattle.calendar.proofs.SummerDays.{inside, day_least, months_later, december}

-- ---- one change and the next

within_year : (c d : YearlyChange) (l k year : ℕ) → IsYearly c → IsYearly d → IsLead l → IsLead k →
    1969 ≤ year → c.month + 2 ≤ d.month → moment_in c l year + 604_800 ≤ moment_in d k year
within_year c d l k year is_c is_d is_l is_k late apart =
    let high = (inside c year is_c late).high in
    let low = (inside d year is_d late).low in
    let next = day_count-next_month (pos year) c.month is_c.some_month in
    let on = months_later year (c.month + 1) (d.month - c.month - 1) (omega arith) in
    let same : c.month + 1 + (d.month - c.month - 1) ≡ d.month = omega (arith, apart) in
    let at : day_count (pos year) (c.month + 1) 1 + 28 * (d.month - c.month - 1)
    ≤ day_count (pos year) d.month 1 = rw same at on in
    let days : day_in c year + 29 ≤ day_in d year = omega (arith, high, low, next, at, apart) in
    let seconds = is_c.seconds in
    let least = is_l.least in
    let most = is_k.most in
    let most' = is_l.most in
    let one = day_least c year is_c late in
    omega (arith, days, seconds, least, most, most', one)

across_years : (c d : YearlyChange) (l k year : ℕ) → IsYearly c → IsYearly d → IsLead l → IsLead k →
    1969 ≤ year → c.month ≤ d.month + 10 →
    moment_in c l year + 604_800 ≤ moment_in d k (year + 1)
across_years c d l k year is_c is_d is_l is_k late apart =
    let high = (inside c year is_c late).high in
    let low = (inside d (year + 1) is_d (omega (arith, late))).low in
    let some = is_d.some_month in
    let start = months_later (year + 1) 1 (d.month - 1) (omega arith) in
    let same : 1 + (d.month - 1) ≡ d.month = omega (arith, some) in
    let begins : day_count (pos (year + 1)) 1 1 + 28 * (d.month - 1)
    ≤ day_count (pos (year + 1)) d.month 1 = rw same at start in
    let year' = december year in
    let most_month = is_c.month in
    let days : day_in c year + 29 ≤ day_in d (year + 1) = elim (cases_lt c.month 12) [
      | inl below ↦ (
          let next = day_count-next_month (pos year) c.month is_c.some_month in
          let on = months_later year (c.month + 1) (11 - c.month) (omega arith) in
          let same' : c.month + 1 + (11 - c.month) ≡ 12 = omega (arith, below) in
          let at : day_count (pos year) (c.month + 1) 1 + 28 * (11 - c.month)
          ≤ day_count (pos year) 12 1 = rw same' at on in
          omega (arith, high, low, next, at, begins, year', apart, below, some))
      | inr last ↦ (
          let is : c.month ≡ 12 = omega (arith, last, most_month) in
          let bounds = days_in_month_bounds (pos year) c.month in
          let at : day_count (pos year) c.month 1 ≡ day_count (pos year) 12 1 =
          ap (λ m. day_count (pos year) m 1) is in
          omega (arith, high, low, at, bounds, begins, year', apart, is, some))
    ] in
    let seconds = is_c.seconds in
    let least = is_l.least in
    let most = is_k.most in
    let most' = is_l.most in
    let one = day_least c year is_c late in
    omega (arith, days, seconds, least, most, most', one)

moment_whole : (c : YearlyChange) (l year : ℕ) → IsYearly c → IsLead l → 1969 ≤ year →
    moment_in c l year % 60 ≡ 0
moment_whole c l year is_c is_l late =
    let one = day_least c year is_c late in
    let whole = is_c.whole in
    let whole' = is_l.whole in
    let most = is_l.most in
    omega (arith, one, whole, whole', most)

-- ---- two changes a year

abbrev pairs_from : (ℕ → ZoneChange) → (ℕ → ZoneChange) → ℕ → ℕ → List ZoneChange
pairs_from f g year zero = []
pairs_from f g year (suc n) = f year ∷ g year ∷ pairs_from f g (year + 1) n

pub record Pairs (f g : ℕ → ZoneChange) : Type 0 where
  pub whole : (year : ℕ) → 1969 ≤ year → ((f year).at % 60 ≡ 0) × ((g year).at % 60 ≡ 0)
  pub leads : (year : ℕ) → IsLead (f year).lead × IsLead (g year).lead
  pub within : (year : ℕ) → 1969 ≤ year → (f year).at + 604_800 ≤ (g year).at
  pub across : (year : ℕ) → 1969 ≤ year → (g year).at + 604_800 ≤ (f (year + 1)).at

pairs_changes : (f g : ℕ → ZoneChange) (year n : ℕ) → Pairs f g → 1969 ≤ year →
    AreChanges (pairs_from f g year n)
pairs_changes f g year zero p late = tt
pairs_changes f g year (suc n) p late = (
  (p.whole year late).0,
  (p.leads year).0,
  (
    (p.whole year late).1,
    (p.leads year).1,
    pairs_changes f g (year + 1) n p (omega (arith, late)),
  ),
)

pairs_apart : (f g : ℕ → ZoneChange) (year n : ℕ) → Pairs f g → 1969 ≤ year →
    AreApart (pairs_from f g year n)
pairs_apart f g year zero p late = tt
pairs_apart f g year (suc zero) p late = (p.within year late, tt)
pairs_apart f g year (suc (suc n)) p late = (
  p.within year late,
  (
    p.across year late,
    pairs_apart f g (year + 1) (suc n) p (omega (arith, late)),
  ),
)

-- ---- of a rule

northern_are : (rule : SummerTime) (year n : ℕ) → is_northern rule ≡ true →
    changes_from rule year n ≡ pairs_from (beginning_in rule) (end_in rule) year n
unfolding changes_from
northern_are rule year zero test = refl
northern_are rule year (suc n) test =
    rw test (ap (λ cs. beginning_in rule year ∷ end_in rule year ∷ cs)
    (northern_are rule (year + 1) n test))

southern_are : (rule : SummerTime) (year n : ℕ) → is_northern rule ≡ false →
    changes_from rule year n ≡ pairs_from (end_in rule) (beginning_in rule) year n
unfolding changes_from
southern_are rule year zero test = refl
southern_are rule year (suc n) test =
    rw test (ap (λ cs. end_in rule year ∷ beginning_in rule year ∷ cs)
    (southern_are rule (year + 1) n test))

-- two months apart, the one before the other
in_order : (m n : ℕ) → AreMonthsApart m n ⊎ AreMonthsApart n m → m < n →
    (m + 2 ≤ n) × (n ≤ m + 10)
in_order m n (inl one) before = one
in_order m n (inr other) before = absurd (omega (arith, other.0, before))

northern_pairs : (rule : SummerTime) → IsSummerTime rule → rule.begins.month < rule.ends.month →
    Pairs (beginning_in rule) (end_in rule)
northern_pairs rule is before =
    let apart = in_order rule.begins.month rule.ends.month is.apart before in
    record {
      whole = λ year late. (
        moment_whole rule.begins rule.standard year is.begins is.standard late,
        moment_whole rule.ends rule.summer year is.ends is.summer late,
      );
      leads = λ year. (is.summer, is.standard);
      within = λ year late. within_year rule.begins rule.ends rule.standard rule.summer year
          is.begins is.ends is.standard is.summer late apart.0;
      across = λ year late. across_years rule.ends rule.begins rule.summer rule.standard year
          is.ends is.begins is.summer is.standard late apart.1;
    }

turned_apart : (rule : SummerTime) → IsSummerTime rule → (rule.begins.month < rule.ends.month → ⊥) →
    AreMonthsApart rule.ends.month rule.begins.month
turned_apart rule is before = elim is.apart [
  | inl one ↦ absurd (before (omega (arith, one.0)))
  | inr other ↦ other
]

southern_pairs : (rule : SummerTime) → IsSummerTime rule →
    (rule.begins.month < rule.ends.month → ⊥) → Pairs (end_in rule) (beginning_in rule)
southern_pairs rule is before =
    let apart = turned_apart rule is before in
    record {
      whole = λ year late. (
        moment_whole rule.ends rule.summer year is.ends is.summer late,
        moment_whole rule.begins rule.standard year is.begins is.standard late,
      );
      leads = λ year. (is.standard, is.summer);
      within = λ year late. within_year rule.ends rule.begins rule.summer rule.standard year
          is.ends is.begins is.summer is.standard late apart.0;
      across = λ year late. across_years rule.begins rule.ends rule.standard rule.summer year
          is.begins is.ends is.standard is.summer late apart.1;
    }

first_lead : (test : Bool) (rule : SummerTime) → IsSummerTime rule →
    IsLead (if test then rule.standard else rule.summer)
first_lead true rule is = is.standard
first_lead false rule is = is.summer

-- rule: zone-changes.zone-of-rule
pub is_zone : (rule : SummerTime) → IsSummerTime rule → IsZone (zone_of_rule rule)
is_zone rule is =
    elim (cases_lt rule.begins.month rule.ends.month) [
      | inl before ↦ (
          let test : is_northern rule ≡ true = grind (arith, nat_tests) in
          let same = northern_are rule 1969 132 test in
          let pairs = northern_pairs rule is before in
          record {
            before = first_lead (is_northern rule) rule is;
            changes = subst AreChanges (sym same)
                (pairs_changes (beginning_in rule) (end_in rule) 1969 132 pairs (omega arith));
            apart = subst AreApart (sym same)
                (pairs_apart (beginning_in rule) (end_in rule) 1969 132 pairs (omega arith));
          })
      | inr after ↦ (
          let test : is_northern rule ≡ false = grind (arith, nat_tests) in
          let same = southern_are rule 1969 132 test in
          let pairs = southern_pairs rule is (λ before. omega (arith, before, after)) in
          record {
            before = first_lead (is_northern rule) rule is;
            changes = subst AreChanges (sym same)
                (pairs_changes (end_in rule) (beginning_in rule) 1969 132 pairs (omega arith));
            apart = subst AreApart (sym same)
                (pairs_apart (end_in rule) (beginning_in rule) 1969 132 pairs (omega arith));
          })
    ]

-- ---- as the code puts them in

-- rule: zone-changes
pub one_year : (rule : SummerTime) (year : ℕ) (items new all : List ZoneChange) → year < 2101 →
    items ++ changes_from rule year (2101 - year) ≡ all → new ≡ items ++ changes_in rule year →
    new ++ changes_from rule (year + 1) (2101 - (year + 1)) ≡ all
unfolding changes_from
one_year rule year items new all below made is =
    let step : 2101 - year ≡ suc (2101 - (year + 1)) = omega (arith, below) in
    ap (λ xs. xs ++ changes_from rule (year + 1) (2101 - (year + 1))) is
    ∙ append_assoc items (changes_in rule year)
    (changes_from rule (year + 1) (2101 - (year + 1)))
    ∙ ap (λ n. items ++ changes_from rule year n) (sym step) ∙ made

-- rule: zone-changes
pub all_years : (rule : SummerTime) (year : ℕ) (items all : List ZoneChange) → 2101 ≤ year →
    items ++ changes_from rule year (2101 - year) ≡ all → items ≡ all
unfolding changes_from
all_years rule year items all past made =
    let none : 2101 - year ≡ 0 = omega (arith, past) in
    sym (append-nil items) ∙ ap (λ n. items ++ changes_from rule year n) (sym none) ∙ made

-- the zone that the code makes
pub made_zone : (rule : SummerTime) (before : ℕ) (items : List ZoneChange) → IsSummerTime rule →
    before ≡ (zone_of_rule rule).before → items ≡ changes_from rule 1969 132 →
    IsZone (record { before = before; changes = items })
made_zone rule before items is before_is items_are =
    subst IsZone
    (sym (ap (λ b. record { before = b; changes = items }) before_is
    ∙ ap (λ cs. record { before = (zone_of_rule rule).before; changes = cs }) items_are))
    (is_zone rule is)
