-- What a run leaves of a keeper whose store may fail, command by command.
use Rattle.std.proofs.Common.{◌≡◌, ◌+◌, ◌≤◌, List, [], ◌∷◌, ◌++◌, length, take}
use Rattle.std.proofs.Common.{refl, sym, ap, subst, ◌∙◌, arith, le_refl, ◌⊎◌, inl, inr, Some}
use Rattle.std.proofs.Common.{None, Ok, Err}
use Rattle.std.proofs.lemmas.List.{length-append, append_assoc}
use Rattle.std.proofs.lemmas.Option.{same_Some}
use Rattle.std.proofs.Math.Seq.{take-append_seam}
use Rattle.std.specs.Prelude.{Vec}
use Rattle.std.specs.Global.{Global}
use Rattle.commands.specs.declared.answer.Answer.{Answer}
use Rattle.shelves.specs.Shelves.{Shelf}
use Rattle.keepers.specs.Faults.{HasCause}
use Rattle.keepers.specs.Seen.{Seen}
use Rattle.keepers.specs.Tables.{Tables}
use Rattle.keepers.specs.declared.fault.StoreFault.{StoreFault}
use Rattle.keepers.specs.declared.fault.StoreFault.TheVariants.{Memory, Store}
use Rattle.charging.specs.Accepted.{Accepted, IsInTime}
use Rattle.charging.specs.declared.running.DatedCommand.{DatedCommand}
use Rattle.charging.specs.Parts.{Leaves}
use Rattle.charging.specs.Served.{AreTables, Serves, Writes}
use Rattle.charging.specs.Runs.{after_commands, AreAnswered, AreHeld, Runs, RunsOver}
use Rattle.charging.proofs.runs.RunLemmas.{IsSoFar, RunsSoFar, begun-length, commands-more, run-of}
use Rattle.charging.proofs.runs.RunLemmas.{so-far-more}

-- tables are those of the list after these commands
abbrev pub AreAfter : Shelf → List DatedCommand → Tables → Tables → Type 0
AreAfter b ds old t = (list : List Accepted) → IsInTime list → AreTables b list old →
    AreTables b (after_commands b list ds) t

no-answers : (given : List Answer) (x : Answer) → given ++ x ∷ [] ≡ [] → ⊥
no-answers given x e = omega (arith, ap length e, length-append given (x ∷ []))

-- a beginning of the commands that is as long as this, or one longer, is held
held-at : (b : Shelf) (commands xs rest : List DatedCommand) (old t : Tables)
    (given : List Answer) →
    xs ++ rest ≡ commands → length given ≤ length xs → length xs ≤ length given + 1 →
    AreAfter b xs old t → AreHeld b commands old given t
held-at b commands xs rest old t given all low high after = λ list time is. record {
  count = length xs;
  all = low;
  one_more = high;
  tables = subst (λ (ds : List DatedCommand). AreTables b (after_commands b list ds) t)
      (sym ((λ i. take (length xs) (sym all i)) ∙ take-append_seam xs rest)) (after list time is);
}

-- so many commands were answered
pub record HasRun (b : Shelf) (old now : Seen) (ds : List DatedCommand) (given : List Answer)
    : Type 0 where
  pub runs : now.honest → RunsSoFar b ds old.tables now.tables given
  pub unchanged : now.clean → given ≡ [] → now.tables ≡ old.tables
  pub cleanness : now.clean → old.clean
  pub honesty : now.honest → old.honest
  pub stands : now.honest → old.clean → now.clean
  pub left : now.honest → (t : Tables) → now.left t →
      ((ds ≡ []) × old.left t) ⊎ AreAfter b ds old.tables t
  pub failures : old.failed ≤ now.failed

module _ {K : Type 0} (seen : K → Seen) (is_honest : (k : K) → (seen k).clean → (seen k).honest)
    (settled : (k : K) (t : Tables) → (seen k).clean → (seen k).left t → t ≡ (seen k).tables)
    (b : Shelf) where
  abbrev Has : K → K → List DatedCommand → List Answer → Type 0
  Has old now ds given = HasRun b (seen old) (seen now) ds given

  pub has-run_none : (k : K) → Has k k [] []
  has-run_none k = record {
    runs = λ h list time is. record { answers = refl; tables = is; time = time };
    unchanged = λ c none. refl;
    cleanness = λ c. c;
    honesty = λ h. h;
    stands = λ h c. c;
    left = λ h t l. inl (refl, l);
    failures = le_refl (seen k).failed;
  }

  -- one more was answered
  module _ (old mid new : K) (ds : List DatedCommand) (d : DatedCommand) (given : List Answer)
      (had : Has old mid ds given) (cleanness : (seen new).clean → (seen mid).clean)
      (honesty : (seen new).honest → (seen mid).honest) where
    -- rule: stop-run
    pub has-run_more : (all : List Answer) (x : Answer) →
        ((seen new).clean →
        Serves b d.command d.moment (seen mid).tables (seen new).tables (Ok x)) →
        ((seen new).honest → (seen new).clean) → (seen mid).failed ≤ (seen new).failed →
        all ≡ given ++ x ∷ [] → Has old new (ds ++ d ∷ []) all
    has-run_more all x served stands failures grows =
        let runs : (seen new).honest →
        RunsSoFar b (ds ++ d ∷ []) (seen old).tables (seen new).tables all =
        λ h list time is.
        let so : IsSoFar b list ds (seen mid).tables given = had.runs (honesty h) list time is in
        so-far-more b list ds d (seen mid).tables (seen new).tables given all x so
        (served (stands h) (after_commands b list ds) so.time so.tables) grows in
        record {
          runs = runs;
          unchanged = λ c none. absurd (no-answers given x (sym grows ∙ none));
          cleanness = λ c. had.cleanness (cleanness c);
          honesty = λ h. had.honesty (honesty h);
          stands = λ h c. stands h;
          left = λ h t l. inr (λ list time is.
              subst (λ (y : Tables). AreTables b (after_commands b list (ds ++ d ∷ [])) y)
              (sym (settled new t (stands h) l)) (runs h list time is).tables);
          failures = omega (arith, failures, had.failures);
        }

  -- what a stop leaves of so many is held
  held-now : (commands ds rest : List DatedCommand) (old now : K) (given : List Answer)
      (t : Tables) →
      Has old now ds given → ds ++ rest ≡ commands → length given ≡ length ds → (seen now).honest →
      (seen now).left t → ((ds ≡ []) × (seen old).left t) ⊎ AreHeld b commands (seen old).tables
      given t
  held-now commands ds rest old now given t had all count h l = at (had.left h t l)
    where
      at : ((ds ≡ []) × (seen old).left t) ⊎ AreAfter b ds (seen old).tables t →
          ((ds ≡ []) × (seen old).left t) ⊎ AreHeld b commands (seen old).tables given t
      at (inl p) = inl p
      at (inr after) = inr (held-at b commands ds rest (seen old).tables t given all
          (omega (arith, count)) (omega (arith, count)) after)

  -- where none was answered the tables before are held
  held-first : (commands ds rest : List DatedCommand) (old : K) (given : List Answer) (t : Tables) →
      ds ++ rest ≡ commands → length given ≡ length ds → ds ≡ [] → t ≡ (seen old).tables →
      AreHeld b commands (seen old).tables given t
  held-first commands ds rest old given t all count none same =
      held-at b commands ds rest (seen old).tables t given all (omega (arith, count))
      (omega (arith, count)) (λ list time is.
      subst (λ (xs : List DatedCommand). AreTables b (after_commands b list xs) t) (sym none)
      (subst (AreTables b list) (sym same) is))

  held-clean : (commands ds rest : List DatedCommand) (old : K) (given : List Answer) (t : Tables) →
      ds ++ rest ≡ commands → length given ≡ length ds → (seen old).clean →
      ((ds ≡ []) × (seen old).left t) ⊎ AreHeld b commands (seen old).tables given t →
      AreHeld b commands (seen old).tables given t
  held-clean commands ds rest old given t all count c (inr held) = held
  held-clean commands ds rest old given t all count c (inl p) =
      held-first commands ds rest old given t all count p.0 (settled old t c p.1)

  left-or-held : {A B C : Type 0} → (A × B) ⊎ C → B ⊎ C
  left-or-held (inl p) = inl p.1
  left-or-held (inr c) = inr c

  -- the answers are those of a beginning
  answered-now : (commands ds rest : List DatedCommand) (old now : K) (given : List Answer) →
      Has old now ds given → ds ++ rest ≡ commands → length given ≡ length ds → (seen now).honest →
      AreAnswered b commands (seen old).tables given
  answered-now commands ds rest old now given had all count h = λ list time is.
      (run-of b list commands ds rest (seen now).tables given all count
      (had.runs h list time is)).answers

  -- ---- a run ends

  module _ (commands ds rest : List DatedCommand) (old now : K) (answers : Vec Answer Global)
      (had : Has old now ds answers.items) (all : ds ++ rest ≡ commands)
      (count : length answers.items ≡ length ds) where
    runs-now : (seen now).clean → Runs b commands (seen old).tables (seen now).tables answers.items
    runs-now c = λ list time is. run-of b list commands ds rest (seen now).tables answers.items all
        count (had.runs (is_honest now c) list time is)

    -- each command was answered
    pub run-whole : length rest ≡ 0 → RunsOver b commands (seen old) (seen now)
        (record { answers = answers; fault = None })
    run-whole none =
        let long : length ds + length rest ≡ length commands = sym (length-append ds rest)
        ∙ ap length all in
        record {
          runs = runs-now;
          beginning = begun-length commands ds rest answers.items all count;
          whole = omega (arith, long, count, none);
          stopped = tt;
          unchanged = had.unchanged;
          cleanness = had.cleanness;
          honesty = had.honesty;
          answered = answered-now commands ds rest old now answers.items had all count;
          stands = had.stands;
          held = λ h c t l. held-clean commands ds rest old answers.items t all count c
              (held-now commands ds rest old now answers.items t had all count h l);
          left = λ h t l.
              left-or-held (held-now commands ds rest old now answers.items t had all count h l);
          failures = had.failures;
          cause = λ e. absurd (cc);
        }

    -- memory was refused before the next one
    pub run-refused : (d : DatedCommand) (more : List DatedCommand) → rest ≡ d ∷ more →
        RunsOver b commands (seen old) (seen now)
        (record { answers = answers; fault = Some Memory })
    run-refused d more next =
        let long : length ds + length rest ≡ length commands = sym (length-append ds rest)
        ∙ ap length all in
        record {
          runs = runs-now;
          beginning = begun-length commands ds rest answers.items all count;
          whole = tt;
          stopped = omega (arith, long, count, ap length next);
          unchanged = had.unchanged;
          cleanness = had.cleanness;
          honesty = had.honesty;
          answered = answered-now commands ds rest old now answers.items had all count;
          stands = λ h c. tt;
          held = λ h c t l. held-clean commands ds rest old answers.items t all count c
              (held-now commands ds rest old now answers.items t had all count h l);
          left = λ h t l.
              left-or-held (held-now commands ds rest old now answers.items t had all count h l);
          failures = had.failures;
          cause = λ e. absurd (cc);
        }

  -- the store failed at the next one
  module _ (commands ds more : List DatedCommand) (d : DatedCommand) (old mid new : K)
      (answers : Vec Answer Global) (had : Has old mid ds answers.items)
      (all : ds ++ d ∷ more ≡ commands) (count : length answers.items ≡ length ds)
      (same : (seen new).clean → (seen new).tables ≡ (seen mid).tables)
      (cleanness : (seen new).clean → (seen mid).clean)
      (honesty : (seen new).honest → (seen mid).honest)
      (left : Leaves (seen mid) (seen new)
      (λ t. (seen mid).clean × Writes b d.command d.moment (seen mid).tables t)) where
    -- the next one may be held too
    held-next : (t : Tables) → (seen new).honest → Writes b d.command d.moment (seen mid).tables t →
        AreHeld b commands (seen old).tables answers.items t
    held-next t h writes =
        let long : length (ds ++ d ∷ []) ≡ length ds + 1 = length-append ds (d ∷ []) in
        held-at b commands (ds ++ d ∷ []) more (seen old).tables t answers.items
        (append_assoc ds (d ∷ []) more ∙ all) (omega (arith, long, count))
        (omega (arith, long, count))
        (λ list time is.
        let so : IsSoFar b list ds (seen mid).tables answers.items =
        had.runs (honesty h) list time is in
        subst (λ (l : List Accepted). AreTables b l t) (sym (commands-more b list ds d))
        (writes (after_commands b list ds) so.time so.tables))

    held-failed : (t : Tables) → (seen new).honest →
        (seen mid).left t ⊎ ((seen mid).clean × Writes b d.command d.moment (seen mid).tables t) →
        ((ds ≡ []) × (seen old).left t) ⊎ AreHeld b commands (seen old).tables answers.items t
    held-failed t h (inl l) =
        held-now commands ds (d ∷ more) old mid answers.items t had all count (honesty h) l
    held-failed t h (inr writes) = inr (held-next t h writes.1)

    -- rule: stop-run
    pub run-failed : (fault : StoreFault) →
        HasCause {T = Answer} (seen mid).failed (seen new).failed (Err fault) →
        RunsOver b commands (seen old) (seen new) (record { answers = answers; fault = Some fault })
    run-failed fault cause =
        let long : length ds + length (d ∷ more) ≡ length commands =
        sym (length-append ds (d ∷ more)) ∙ ap length all in
        record {
          runs = λ c list time is.
              let so : IsSoFar b list ds (seen mid).tables answers.items =
              had.runs (is_honest mid (cleanness c)) list time is in
              run-of b list commands ds (d ∷ more) (seen new).tables answers.items all count
              (record {
                answers = so.answers;
                tables = subst (λ (y : Tables). AreTables b (after_commands b list ds) y)
                    (sym (same c)) so.tables;
                time = so.time;
              });
          beginning = begun-length commands ds (d ∷ more) answers.items all count;
          whole = tt;
          stopped = omega (arith, long, count);
          unchanged = λ c none. same c ∙ had.unchanged (cleanness c) none;
          cleanness = λ c. had.cleanness (cleanness c);
          honesty = λ h. had.honesty (honesty h);
          answered = λ h.
              answered-now commands ds (d ∷ more) old mid answers.items had all count (honesty h);
          stands = λ h c. tt;
          held = λ h c t l. held-clean commands ds (d ∷ more) old answers.items t all count c
              (held-failed t h (left h t l));
          left = λ h t l. left-or-held (held-failed t h (left h t l));
          failures = omega (arith, cause.kept, had.failures);
          cause =
              λ e. omega (arith, cause.cause (λ i. Err (same_Some fault Store e i)), had.failures);
        }
