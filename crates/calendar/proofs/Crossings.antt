-- The walk over the changes of a zone's lead, as far as it has come.
use Rattle.std.proofs.Common.{◌≡◌, ◌≢◌, ℕ, ◌+◌, ◌-◌, ◌*◌, ◌/◌, ◌%◌, ◌<◌, ◌≤◌, ◌⊎◌, ◌^◌, List, arith}
use Rattle.std.proofs.Common.{refl, ap, sym, subst, ◌∙◌, inl, inr}
use Rattle.std.specs.Prelude.{min}
use Rattle.std.proofs.lemmas.Bool.{cases_lt}
use Rattle.calendar.specs.declared.week.Entry.{Entry}
use Rattle.calendar.specs.declared.week.Period.{Period}
use Rattle.calendar.specs.Clock.{ZoneRule, IsZone, lead, next_change, shown_weekday}
use Rattle.calendar.specs.Clock.{shown_minute, weekday, minute}
use Rattle.calendar.specs.Week.{period_in}
use Rattle.calendar.specs.Timetable.{Timetable, IsTimetable, period_at, minute_start, steady}
use Rattle.calendar.specs.Timetable.{IsChange, IsOther}
use Rattle.calendar.proofs.Stretches.{lead_stays, next_whole, next_later, next_apart}

-- the timetable of the lead at a moment
abbrev pub steady_at : Timetable → ℕ → Timetable
steady_at c at = steady (lead c.zone at) c.entries

-- up to the next change of the lead it has the timetable's periods
same_period : (c : Timetable) (at r : ℕ) → at < 50_000_000_000 → at ≤ r →
    r < next_change c.zone at → r % 60 ≡ 0 → period_at c r ≡ period_at (steady_at c at) r
same_period c at r small order below whole =
    let start : minute_start r ≡ r = omega (arith, whole) in
    let same : lead c.zone r ≡ lead c.zone at = lead_stays c.zone at r small order below in
    ap (λ x. period_in c.entries (shown_weekday (x + lead c.zone x))
    (shown_minute (x + lead c.zone x))) start
    ∙ ap (λ o. period_in c.entries (shown_weekday (r + o)) (shown_minute (r + o)))
    same
    ∙ ap (λ x. period_in c.entries (shown_weekday (x + lead c.zone at))
    (shown_minute (x + lead c.zone at))) (sym start)

-- the changes of the lead that were crossed, and the steps for them: none, one, or as many as
-- need not be counted, since the end is past
abbrev Crossed : ZoneRule → ℕ → ℕ → ℕ → ℕ → ℕ → Type 0
Crossed zone first end base at steps =
    ((at ≡ first) × (steps ≤ base))
    ⊎ ((at ≡ next_change zone first) × (steps ≤ base + 129))
    ⊎ ((end ≤ at) × (steps ≤ base + 258))

pub record Crossing (c : Timetable) (start seconds base : ℕ) (here : Period) (at steps : ℕ) :
    Type 0 where
  pub book : IsTimetable c
  pub now : here ≡ period_at c start
  pub small : start < 2 ^ 33
  pub whole : at % 60 ≡ 0
  pub from : 60 * (start / 60) ≤ at
  pub first : at ≤ start → at ≡ 60 * (start / 60)
  pub none : (r : ℕ) → IsChange c start (start + seconds) r → at ≤ r
  pub most : steps + 1441 * (60 * (start / 60)) ≤ base + 1441 * at
  pub few : seconds ≤ 43_200 →
      Crossed c.zone (60 * (start / 60)) (start + seconds) base at steps

pub crossing_begins : (c : Timetable) (start seconds base : ℕ) (here : Period) → IsTimetable c →
    here ≡ period_at c start → start < 2 ^ 33 →
    Crossing c start seconds base here (60 * (start / 60)) base
crossing_begins c start seconds base here book now small =
    record {
      book = book;
      now = now;
      small = small;
      whole = omega arith;
      from = omega arith;
      first = λ _. refl;
      none = λ r h. let late = h.later in omega (arith, late);
      most = omega arith;
      few = λ _. inl (refl, omega arith);
    }

-- what the walk under one lead says
pub record Within (c : Timetable) (here : Period) (at stop : ℕ) : Type 0 where
  pub small : at < 50_000_000_000
  pub in_stretch : stop ≤ next_change c.zone at

-- a minute of another period there is one of the timetable's, and the other way round
differs_here : (c : Timetable) (here : Period) (at stop r : ℕ) → Within c here at stop →
    IsOther (steady_at c at) here at stop r → period_at c r ≢ here
differs_here c here at stop r w other same =
    let before = other.before in
    let inside = w.in_stretch in
    other.differs (sym (same_period c at r w.small other.later (omega (arith, before, inside))
    other.whole) ∙ same)

other_here : (c : Timetable) (here : Period) (at stop r : ℕ) → Within c here at stop →
    r % 60 ≡ 0 → at ≤ r → r < stop → period_at c r ≢ here →
    IsOther (steady_at c at) here at stop r
other_here c here at stop r w whole later before differs =
    let inside = w.in_stretch in
    record {
      whole = whole;
      later = later;
      before = before;
      differs = λ same. differs
          (same_period c at r w.small later (omega (arith, before, inside)) whole ∙ same);
    }

-- what is found there is a change
-- rule: switch
pub found_change : (c : Timetable) (start seconds base : ℕ) (here : Period) (at steps stop s : ℕ) →
    Crossing c start seconds base here at steps → Within c here at stop →
    stop ≤ start + seconds → IsOther (steady_at c at) here at stop s →
    IsChange c start (start + seconds) s
found_change c start seconds base here at steps stop s w within inside other =
    let later = other.later in
    let before = other.before in
    let whole : s % 60 ≡ 0 = other.whole in
    let from = w.from in
    let differs : period_at c s ≢ here = differs_here c here at stop s within other in
    record {
      whole = whole;
      later = elim (cases_lt start s) [
        | inl after ↦ after
        | inr early ↦ (
            let is : minute_start s ≡ minute_start start = omega (arith, early, later, from, whole)
            in absurd (differs
            (ap (λ x. period_in c.entries (weekday c.zone x) (minute c.zone x)) is ∙ sym w.now)))
      ];
      before = omega (arith, before, inside);
      differs = λ same. differs (same ∙ sym w.now);
    }

-- and the least
pub found_least : (c : Timetable) (start seconds base : ℕ) (here : Period) (at steps stop s : ℕ) →
    Crossing c start seconds base here at steps → Within c here at stop → s < stop →
    ((r : ℕ) → IsOther (steady_at c at) here at stop r → s ≤ r) →
    (r : ℕ) → IsChange c start (start + seconds) r → s ≤ r
found_least c start seconds base here at steps stop s w within below least r change =
    elim (cases_lt r stop) [
      | inl inside ↦ least r
          (other_here c here at stop r within change.whole (w.none r change) inside
          (λ same. change.differs (same ∙ w.now)))
      | inr past ↦ omega (arith, past, below)
    ]

crossed : (zone : ZoneRule) (start seconds base at steps more stop : ℕ) → IsZone zone →
    Crossed zone (60 * (start / 60)) (start + seconds) base at steps → start < 2 ^ 33 →
    seconds ≤ 43_200 → at < start + seconds → 60 * (start / 60) ≤ at → stop ≤ start + seconds →
    (stop ≤ at + 43_260 → more ≤ steps + 129) →
    Crossed zone (60 * (start / 60)) (start + seconds) base (next_change zone at) more
crossed zone start seconds base at steps more stop is (inl (here, few)) small short before from
    inside adds =
    let sum : more ≤ steps + 129 = adds (omega (arith, here, short, inside)) in
    inr (inl (ap (next_change zone) here, omega (arith, sum, few)))
crossed zone start seconds base at steps more stop is (inr (inl (here, few))) small short before
    from inside adds =
    let sum : more ≤ steps + 129 = adds (omega (arith, from, short, inside)) in
    let apart =
    next_apart zone (60 * (start / 60)) is (omega (arith, small))
    (omega (arith, here, before, small, short)) in
    let same : next_change zone (next_change zone (60 * (start / 60))) ≡ next_change zone at =
    ap (next_change zone) (sym here) in
    inr (inr (omega (arith, apart, same, here, short, from), omega (arith, sum, few)))
crossed zone start seconds base at steps more stop is (inr (inr (past, few))) small short before
    from inside adds = absurd (omega (arith, past, before))

pub crossing_goes_on : (c : Timetable) (start seconds base : ℕ) (here : Period)
    (at steps stop more : ℕ) → Crossing c start seconds base here at steps →
    Within c here at stop → stop ≤ start + seconds → seconds < 2 ^ 32 → at < start + seconds →
    (stop ≡ next_change c.zone at) ⊎ (stop ≡ start + seconds) →
    ((r : ℕ) → IsOther (steady_at c at) here at stop r → ⊥) →
    (stop ≤ at + 43_260 → more ≤ steps + 129) → more ≤ steps + (stop - at) + 1440 →
    (Crossing c start seconds base here (next_change c.zone at) more)
    × (at < next_change c.zone at)
crossing_goes_on c start seconds base here at steps stop more w within inside narrow before ends
    none adds bound =
    let past : at < next_change c.zone at = next_later c.zone at within.small in
    let stretch = within.in_stretch in
    let from = w.from in (
      record {
        book = w.book;
        now = w.now;
        small = w.small;
        whole = next_whole c.zone at w.book.zone within.small;
        from = omega (arith, from, past);
        first = λ early. absurd (elim (cases_lt start at) [
          | inl after ↦ omega (arith, after, past, early)
          | inr here' ↦ (
              let is = w.first here' in
              let whole = next_whole c.zone at w.book.zone within.small in
              omega (arith, is, past, whole, early))
        ]);
        none = λ r change. elim (cases_lt r (next_change c.zone at)) [
          | inl short ↦ (
              let limit = change.before in
              let within' : r < stop = elim ends [
                | inl at_change ↦ omega (arith, at_change, short)
                | inr at_end ↦ omega (arith, at_end, limit)
              ] in
              absurd (none r
              (other_here c here at stop r within change.whole (w.none r change) within'
              (λ same. change.differs (same ∙ w.now)))))
          | inr late ↦ late
        ];
        most = omega (arith, w.most, past, bound, stretch, before);
        few = λ short. crossed c.zone start seconds base at steps more stop w.book.zone
            (w.few short) w.small short before from inside adds;
      },
      past,
    )

-- past the end there was no change
-- rule: switch
pub crossing_ends : (c : Timetable) (start seconds base : ℕ) (here : Period) (at steps : ℕ) →
    Crossing c start seconds base here at steps → start + seconds ≤ at → (r : ℕ) →
    IsChange c start (start + seconds) r → ⊥
crossing_ends c start seconds base here at steps w past r h = let before = h.before in
    absurd (omega (arith, w.none r h, past, before))

-- the steps up to the end
few_are : (zone : ZoneRule) (first end base at steps : ℕ) →
    Crossed zone first end base at steps → steps ≤ base + 258
few_are zone first end base at steps (inl (here, few)) = omega (arith, few)
few_are zone first end base at steps (inr (inl (here, few))) = omega (arith, few)
few_are zone first end base at steps (inr (inr (past, few))) = few

-- rule: switch-steps
pub steps_few : (c : Timetable) (start seconds base : ℕ) (here : Period) (at steps : ℕ) →
    Crossing c start seconds base here at steps → seconds ≤ 43_200 → steps ≤ base + 258
steps_few c start seconds base here at steps w short =
    few_are c.zone (60 * (start / 60)) (start + seconds) base at steps (w.few short)

-- and those of a walk under one lead that finds a change
found_few : (zone : ZoneRule) (start seconds base at steps more stop : ℕ) →
    Crossed zone (60 * (start / 60)) (start + seconds) base at steps → seconds ≤ 43_200 →
    at < start + seconds → 60 * (start / 60) ≤ at → stop ≤ start + seconds →
    (stop ≤ at + 43_260 → more ≤ steps + 129) → more ≤ base + 258
found_few zone start seconds base at steps more stop (inl (here, few)) short before from inside
    adds =
    let sum : more ≤ steps + 129 = adds (omega (arith, here, short, inside)) in
    omega (arith, sum, few)
found_few zone start seconds base at steps more stop (inr (inl (here, few))) short before from
    inside adds =
    let sum : more ≤ steps + 129 = adds (omega (arith, from, short, inside)) in
    omega (arith, sum, few)
found_few zone start seconds base at steps more stop (inr (inr (past, few))) short before from
    inside adds = absurd (omega (arith, past, before))

-- rule: switch-steps
pub steps_found : (c : Timetable) (start seconds base : ℕ) (here : Period)
    (at steps stop more : ℕ) → Crossing c start seconds base here at steps → seconds ≤ 43_200 →
    at < start + seconds → stop ≤ start + seconds →
    (stop ≤ at + 43_260 → more ≤ steps + 129) → more ≤ base + 258
steps_found c start seconds base here at steps stop more w short before inside adds =
    found_few c.zone start seconds base at steps more stop (w.few short) short before w.from inside
    adds

-- ---- a turn of the walk

min_parts : (a b s : ℕ) → s ≡ min a b → (s ≤ a) × (s ≤ b) × ((s ≡ a) ⊎ (s ≡ b))
min_parts a b s is =
    elim (cases_lt a b) [
      | inl less ↦ (omega (arith, is), omega (arith, is), inl (omega (arith, is, less)))
      | inr more ↦ (omega (arith, is), omega (arith, is), inr (omega (arith, is, more)))
    ]

-- what a turn knows: where it stands and ends, and the timetable that it asks
pub record Turned (c : Timetable) (start seconds base : ℕ) (here : Period) (at steps stop : ℕ)
    (table : Timetable) : Type 0 where
  pub crossing : Crossing c start seconds base here at steps
  pub narrow : seconds < 2 ^ 32
  pub before : at < start + seconds
  pub within : Within c here at stop
  pub inside : stop ≤ start + seconds
  pub ends : (stop ≡ next_change c.zone at) ⊎ (stop ≡ start + seconds)
  pub table_is : table ≡ steady_at c at

pub turned : (c : Timetable) (zone : ZoneRule) (entries es : List Entry)
    (start seconds base : ℕ) (here : Period) (at steps stop until lead_at : ℕ) →
    Crossing c start seconds base here at steps → seconds < 2 ^ 32 → at < start + seconds →
    (record { zone = zone; entries = entries }) ≡ c → lead_at ≡ lead zone at →
    until ≡ next_change zone at → es ≡ entries → stop ≡ min until (start + seconds) →
    Turned c start seconds base here at steps stop (steady lead_at es)
turned c zone entries es start seconds base here at steps stop until lead_at w narrow before view
    lead_is until_is es_is stop_is =
    let parts = min_parts until (start + seconds) stop stop_is in
    let next : until ≡ next_change c.zone at =
    until_is ∙ ap (λ (x : Timetable). next_change x.zone at) view in
    let small = w.small in
    record {
      crossing = w;
      narrow = narrow;
      before = before;
      within = record {
        small = omega (arith, before, small, narrow);
        in_stretch = omega (arith, parts.0, next);
      };
      inside = parts.1;
      ends = elim parts.2 [
        | inl at_change ↦ inl (at_change ∙ next)
        | inr at_end ↦ inr at_end
      ];
      table_is = ap (λ l. steady l es) lead_is ∙ ap (steady (lead zone at)) es_is
          ∙ ap (λ (x : Timetable). steady (lead x.zone at) x.entries) view;
    }

pub turn_found : (c : Timetable) (start seconds base : ℕ) (here : Period) (at steps stop : ℕ)
    (table : Timetable) (s : ℕ) → Turned c start seconds base here at steps stop table →
    IsOther table here at stop s → IsChange c start (start + seconds) s
turn_found c start seconds base here at steps stop table s t other =
    found_change c start seconds base here at steps stop s t.crossing t.within t.inside
    (subst (λ x. IsOther x here at stop s) t.table_is other)

pub turn_least : (c : Timetable) (start seconds base : ℕ) (here : Period) (at steps stop : ℕ)
    (table : Timetable) (s : ℕ) → Turned c start seconds base here at steps stop table →
    IsOther table here at stop s → ((r : ℕ) → IsOther table here at stop r → s ≤ r) → (r : ℕ) →
    IsChange c start (start + seconds) r → s ≤ r
turn_least c start seconds base here at steps stop table s t other least =
    found_least c start seconds base here at steps stop s t.crossing t.within other.before
    (subst (λ x. (r : ℕ) → IsOther x here at stop r → s ≤ r) t.table_is least)

pub turn_steps : (c : Timetable) (start seconds base : ℕ) (here : Period) (at steps stop : ℕ)
    (table : Timetable) (more : ℕ) → Turned c start seconds base here at steps stop table →
    (stop ≤ at + 43_260 → more ≤ steps + 129) → seconds ≤ 43_200 → more ≤ base + 258
turn_steps c start seconds base here at steps stop table more t adds short =
    steps_found c start seconds base here at steps stop more t.crossing short t.before t.inside adds

pub turn_goes_on : (c : Timetable) (start seconds base : ℕ) (here : Period)
    (at steps stop : ℕ) (table : Timetable) (more until : ℕ) →
    Turned c start seconds base here at steps stop table → until ≡ next_change c.zone at →
    ((r : ℕ) → IsOther table here at stop r → ⊥) →
    (stop ≤ at + 43_260 → more ≤ steps + 129) → more ≤ steps + (stop - at) + 1440 →
    (Crossing c start seconds base here until more) × (at < until)
turn_goes_on c start seconds base here at steps stop table more until t is none adds bound =
    subst (λ u. (Crossing c start seconds base here u more) × (at < u)) (sym is)
    (crossing_goes_on c start seconds base here at steps stop more t.crossing t.within t.inside
    t.narrow t.before t.ends (subst (λ x. (r : ℕ) → IsOther x here at stop r → ⊥) t.table_is none)
    adds bound)
