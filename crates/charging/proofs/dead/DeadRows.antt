-- Dead rows are dead for good, whatever commands come.
use Rattle.std.proofs.Common.{◌≡◌, ◌≢◌, ℕ, ◌-◌, ◌≤◌, ◌<◌, Bool, true, false, true≢false, List}
use Rattle.std.proofs.Common.{[], ◌∷◌, refl, sym, ap, subst, ◌∙◌, arith, Option, Some, None}
use Rattle.std.specs.Prelude.{if◌then◌else◌, ◌==◌, ◌&&◌, not, nat_lt, is_some, option_map}
use Rattle.std.proofs.lemmas.Bool.{and_parts}
use Rattle.std.proofs.lemmas.Bool.Decides.{nat_tests}
use Rattle.buckets.specs.Row.{BucketRow}
use Rattle.buckets.specs.Spend.{Each, AreDistinct, IsBelow}
use Rattle.shelves.specs.Shelves.{Shelf}
use Rattle.reserving.specs.declared.session.Session.{Session}
use Rattle.reserving.specs.declared.session.SessionState.TheVariants.{Open, Ended, NeverOpened}
use Rattle.ledger.specs.Ledger.{Fact, Ledger, Recording, is_same, held}
use Rattle.ledger.specs.Parts.{counts_before, hold_of}
use Rattle.ledger.specs.Ledger.{charged, only, is_live, last_touch, last_recording, open_grant}
use Rattle.ledger.specs.Ledger.{next_bucket, HoldOf, EndOf, counts as counts_of, number_of}
use Rattle.ledger.specs.Parts.{holds_by, but_ended, ends_of}
use Rattle.ledger.specs.Balance.{credits, balance_of, bucket_at, buckets_at, holds_at}
use Rattle.reserving.specs.Sessions.{is_open, state_at, session_row, session_at}
use Rattle.reserving.specs.Sessions.{reservation_of, reservation_at, group_at}
use Rattle.ledger.specs.Laws.{IsDead}
use Rattle.reserving.specs.Left.{bucket_in}
use Rattle.ledger.specs.SoundLedger.{IsSoundLedger}
use Rattle.ledger.specs.Pricing.{validity_of}
use Rattle.ledger.proofs.Names.{number_same, is_same-refl}
use Rattle.reserving.proofs.Keys.{same_number}
use Rattle.reserving.proofs.Lists.{no_some, some_of, find-map, find-passes}
use Rattle.ledger.proofs.Holds.{held_split, held_same, split_less, one_split}
use Rattle.charging.specs.Accepted.{Accepted, concerned_by, names, last_moment}
use Rattle.charging.specs.declared.running.DatedCommand.{DatedCommand}
use Rattle.charging.specs.Served.{history, standing, moment_of, accepts}
use Rattle.charging.specs.Outcomes.{outcome}
use Rattle.charging.specs.Runs.{after_command, after_commands}
use Rattle.charging.specs.DeadRows.{AreDeadForGood, DeadRowsStay}
use Rattle.charging.proofs.steps.Credited.{AreCredited}
use Rattle.charging.proofs.steps.KeptHistories.{kept_history}
use Rattle.charging.proofs.steps.Sound.{IsSoundHistory, sound_none, keeps_sound}
use Rattle.charging.proofs.steps.StepsAt.{kept_outcome}
use Rattle.charging.proofs.dead.DeadFacts.{IsOver, Excludes, IsDeadNumber, SameSession, SameBucket}
use Rattle.charging.proofs.dead.DeadFacts.{Stays, stays_itself, May, ended_then, keeps_stays}

-- ---- where each reservation holds nothing, all of them hold nothing

no : {X : Type 0} → false ≡ true → X
no e = absurd (true≢false (sym e))

before_implies : (f : Fact) (p q : List ℕ → ℕ → Bool) →
    ((s : List ℕ) (g : ℕ) → p s g ≡ true → q s g ≡ true) → (s : List ℕ) (g : ℕ) →
    counts_before f p s g ≡ true → counts_before f q s g ≡ true
before_implies f p q h s g e = at (counts_of f).end e
  where
    at : (o : Option EndOf) → but_ended o p s g ≡ true → but_ended o q s g ≡ true
    at None k = h s g k
    at (Some x) k = let both = and_parts (p s g) (not (ends_of s g x)) k in
        λ i. h s g both.0 i && both.1 i

before_counts : (f : Fact) (p : List ℕ → ℕ → Bool) (s : List ℕ) (g : ℕ) →
    counts_before f p s g ≡ true → p s g ≡ true
before_counts f p s g e = at (counts_of f).end e
  where
    at : (o : Option EndOf) → but_ended o p s g ≡ true → p s g ≡ true
    at None k = k
    at (Some x) k = (and_parts (p s g) (not (ends_of s g x)) k).0

swapped : (a b c : Bool) → ((a && b) && c) ≡ ((a && c) && b)
swapped true true true = refl
swapped true true false = refl
swapped true false true = refl
swapped true false false = refl
swapped false b c = refl

before_and : (f : Fact) (p q : List ℕ → ℕ → Bool) (s : List ℕ) (g : ℕ) →
    counts_before f (λ x y. p x y && q x y) s g ≡ (counts_before f p s g && q s g)
before_and f p q s g = at (counts_of f).end
  where
    at : (o : Option EndOf) →
        but_ended o (λ x y. p x y && q x y) s g ≡ (but_ended o p s g && q s g)
    at None = refl
    at (Some x) = swapped (p s g) (q s g) (not (ends_of s g x))

only_itself : (s : List ℕ) (g : ℕ) → only s g s g ≡ true
only_itself s g = λ i. is_same-refl s i && number_same g i

hold_none : (keep counts : List ℕ → ℕ → Bool) (n : ℕ) (f : Fact) →
    ((s : List ℕ) (g : ℕ) → counts s g ≡ true → keep s g ≡ true) →
    ((s : List ℕ) (g : ℕ) → counts s g ≡ true →
    hold_of (λ x y. keep x y && only s g x y) n f ≡ 0) → hold_of counts n f ≡ 0
hold_none keep counts n f k h = by_hold (counts_of f).hold h
  where
    by_hold : (o : Option HoldOf) → ((s : List ℕ) (g : ℕ) → counts s g ≡ true →
        number_of (holds_by (λ x y. keep x y && only s g x y) n) o ≡ 0) →
        number_of (holds_by counts n) o ≡ 0
    by_hold None each = refl
    by_hold (Some x) each = at (counts x.session x.group) refl
      where
        at : (c : Bool) → counts x.session x.group ≡ c →
            (if c && x.bucket == n then x.amount else 0) ≡ 0
        at false e = refl
        at true e =
            sym (λ i. if (k x.session x.group e i && only_itself x.session x.group i)
            && x.bucket == n then x.amount else 0)
            ∙ each x.session x.group e

none_held : (keep counts : List ℕ → ℕ → Bool) (n : ℕ) (ledger : Ledger) →
    ((s : List ℕ) (g : ℕ) → counts s g ≡ true → keep s g ≡ true) →
    ((s : List ℕ) (g : ℕ) → counts s g ≡ true →
    held (λ x y. keep x y && only s g x y) n ledger ≡ 0) → held counts n ledger ≡ 0
none_held keep counts n [] k h = refl
none_held keep counts n (d ∷ older) k h =
    omega (
      arith,
      hold_none keep counts n d.fact k (λ s g e. omega (arith, h s g e)),
      none_held (counts_before d.fact keep) (counts_before d.fact counts) n older
          (before_implies d.fact counts keep k)
          (λ s g e.
          let zero : held (counts_before d.fact (λ x y. keep x y && only s g x y)) n older ≡ 0 =
          omega (arith, h s g (before_counts d.fact counts s g e)) in
          sym (held_same (counts_before d.fact (λ x y. keep x y && only s g x y))
          (λ x y. counts_before d.fact keep x y && only s g x y) n older
          (before_and d.fact keep (only s g))) ∙ zero),
    )

-- ---- rows found by their numbers

each_only : (P : BucketRow → Type 0) (n : ℕ) (rows : List BucketRow) (c : BucketRow) →
    AreDistinct rows →
    bucket_in n rows ≡ Some c → P c → Each (λ x. x.number ≡ n → P x) rows
each_only P n [] c apart found p = tt
each_only P n (x ∷ xs) c apart found p =
    at (x.number == n) refl found (each_only P n xs c apart.1)
  where
    others : (ys : List BucketRow) → x.number ≡ n → Each (λ y. y.number ≢ x.number) ys →
        Each (λ y. y.number ≡ n → P y) ys
    others [] e h = tt
    others (y ∷ ys) e h = (λ k. absurd (h.0 (k ∙ sym e)), others ys e h.1)

    at : (t : Bool) → (x.number == n) ≡ t → (if t then Some x else bucket_in n xs) ≡ Some c →
        (bucket_in n xs ≡ Some c → P c → Each (λ y. y.number ≡ n → P y) xs) →
        (x.number ≡ n → P x) × Each (λ y. y.number ≡ n → P y) xs
    at true e k rest =
        (λ m. subst P (sym (some_of x c k)) p, others xs (same_number x.number n e) apart.0)
    at false e k rest = (
      λ m. absurd (true≢false (sym (ap (λ y. y == n) m ∙ number_same n) ∙ e)),
      rest k p,
    )

below_found : (n next : ℕ) (rows : List BucketRow) (c : BucketRow) → IsBelow next rows →
    bucket_in n rows ≡ Some c → c.number < next
below_found n next [] c h e = absurd (no_some c e)
below_found n next (x ∷ xs) c h e = at (x.number == n) e (below_found n next xs c h.1)
  where
    at : (t : Bool) → (if t then Some x else bucket_in n xs) ≡ Some c →
        (bucket_in n xs ≡ Some c → c.number < next) → c.number < next
    at true k rest = subst (λ (y : BucketRow). y.number < next) (some_of x c k) h.0
    at false k rest = rest k

-- ---- a bucket with nothing left is the same later

later_available : (x y : Bool) (n : ℕ) → (x ≡ true → y ≡ true) → (if y then n else 0) ≡ 0 →
    (if x then n else 0) ≡ (if y then n else 0)
later_available true true n h z = refl
later_available true false n h z = no (h refl)
later_available false true n h z = sym z
later_available false false n h z = refl

later_expired : (x y : Bool) (n : ℕ) → (x ≡ true → y ≡ true) → (if y then n else 0) ≡ 0 →
    (if x then 0 else n) ≡ (if y then 0 else n)
later_expired true true n h z = refl
later_expired true false n h z = no (h refl)
later_expired false true n h z = z
later_expired false false n h z = refl

balance_later : (t u : ℕ) (c : BucketRow) (n : ℕ) →
    (nat_lt u c.until ≡ true → nat_lt t c.until ≡ true) →
    (if nat_lt t c.until then c.credited - n - 0 else 0) ≡ 0 →
    balance_of u c n 0 ≡ balance_of t c n 0
balance_later t u c n h z =
    let x : ℕ = c.credited - n - 0 in
    let available = later_available (nat_lt u c.until) (nat_lt t c.until) x h z in
    let expired = later_expired (nat_lt u c.until) (nat_lt t c.until) x h z in
    λ i. record c { available = available i; reserved = 0; charged = n; expired = expired i }

module _ (v : ℕ → ℕ) (from : ℕ) (old : Ledger) where
  -- ---- what is over

  over_of : (s : List ℕ) (x : Session) → session_at v from old s ≡ Some x →
      is_open x.state ≡ false → IsOver v from old s
  over_of s x e shut = at (last_recording s old) refl e
    where
      not_open : (l : Bool) (y : Bool) →
          is_open (if l then Open else (if y then Ended else NeverOpened)) ≡ false → l ≡ false
      not_open true y k = absurd (true≢false k)
      not_open false y k = refl

      at : (o : Option Recording) → last_recording s old ≡ o →
          session_row s (state_at v from old s) o ≡ Some x → IsOver v from old s
      at None k f = absurd (no_some x f)
      at (Some r) k f = record {
        known = λ none. no_some r (sym none ∙ k);
        over = not_open (is_live v from old s) (is_some (last_touch s old))
            (ap (λ (y : Session). is_open y.state) (some_of _ x f) ∙ shut);
      }

  -- ---- what is dead of the buckets

  module _ (sound : IsSoundLedger old) (n : ℕ)
      (none : held (λ s g. is_live v from old s) n old ≡ 0) where
    -- one of a live session, or of one that isn't known
    one_live : (s : List ℕ) (g : ℕ) → is_live v from old s ≡ true → held (only s g) n old ≡ 0
    one_live s g live =
        omega (
          arith,
          none,
          held_split (λ x y. is_live v from old x)
              (λ x y. is_live v from old x && not (is_same x s && y == g)) (only s g) n old
              (one_split (λ x. is_live v from old x) s g live),
        )

    one_new : (s : List ℕ) (g : ℕ) → last_recording s old ≡ None → held (only s g) n old ≡ 0
    one_new s g new =
        omega (
          arith,
          (sound.unknown s new).held n,
          held_split (λ x y. is_same x s) (only s g) (λ x y. is_same x s && not (only s g x y)) n
              old
              (λ x y. split_less (is_same x s) (only s g x y)
              (λ e. (and_parts (is_same x s) (y == g) e).0)),
        )

    free_of : (counts : List ℕ → ℕ → Bool) → Excludes v from old counts → held counts n old ≡ 0
    free_of counts excludes = none_held (λ s g. true) counts n old (λ s g e. refl) one
      where
        one : (s : List ℕ) (g : ℕ) → counts s g ≡ true → held (only s g) n old ≡ 0
        one s g e = known (last_recording s old) refl
          where
            live : (x : Bool) (r : Recording) → is_live v from old s ≡ x →
                last_recording s old ≡ Some r → held (only s g) n old ≡ 0
            live true r l k = one_live s g l
            live false r l k =
                no (sym (excludes s g (record {
                  known = λ new. no_some r (sym new ∙ k);
                  over = l;
                })) ∙ e)

            known : (o : Option Recording) → last_recording s old ≡ o →
                held (only s g) n old ≡ 0
            known None k = one_new s g k
            known (Some r) k = live (is_live v from old s) r refl k

  -- a dead bucket's number
  dead_number : AreCredited (credits old) (next_bucket old) → IsSoundLedger old → (n : ℕ)
      (c : BucketRow) → bucket_in n (credits old) ≡ Some c → IsDead (bucket_at v from old c) →
      IsDeadNumber v from old n
  dead_number made sound n c found dead =
      let number : c.number ≡ n = same_number c.number n
      (find-passes (λ b. b.number == n) (credits old) c found) in
      let none : held (λ s g. is_live v from old s) n old ≡ 0 =
      ap (λ m. held (λ s g. is_live v from old s) m old) (sym number) ∙ dead.reserved in
      record {
        spent = each_only
            (λ x. nat_lt from x.until ≡ true → x.credited - charged n old ≡ 0) n
            (credits old) c made.distinct found
            (λ lt.
            let left = sym (ap (λ (y : Bool). if y then
            c.credited - charged c.number old
            - held (λ s g. is_live v from old s) c.number old else 0) lt) ∙ dead.available in
            omega (arith, left, dead.reserved, ap (λ m. charged m old) number));
        free = free_of sound n none;
        made = subst (λ m. m < next_bucket old) number
            (below_found n (next_bucket old) (credits old) c made.below found);
      }

  -- ---- the rows of a ledger on which all that stays

  module _ (ledger : Ledger) (u : ℕ) (le : from ≤ u) (h : Stays v from old ledger) where
    same_state : (s : List ℕ) → IsOver v from old s → state_at v u ledger s ≡ state_at v from old s
    same_state s o =
        let same : SameSession v from old s ledger = h.sessions s o in
        let live : is_live v u ledger s ≡ is_live v from old s =
        ended_then v from old u s ledger le same o.over ∙ sym o.over in
        λ i. if live i then Open
        else (if is_some (same.touched i) then Ended else NeverOpened)

    same_session : (s : List ℕ) → IsOver v from old s →
        session_at v u ledger s ≡ session_at v from old s
    same_session s o =
        λ i. session_row s (same_state s o i) ((h.sessions s o).recorded i)

    same_group : (s : List ℕ) (g : ℕ) → IsOver v from old s →
        group_at v u ledger s g ≡ group_at v from old s g
    same_group s g o =
        let same : SameSession v from old s ledger = h.sessions s o in
        let held_then : reservation_at v u ledger s g ≡ None =
        ap (λ (x : Bool). if x then
        reservation_of (holds_at v u s g ledger) (open_grant s g ledger) else None)
        (ended_then v from old u s ledger le same o.over) in
        let held_before : reservation_at v from old s g ≡ None =
        ap (λ (x : Bool). if x then
        reservation_of (holds_at v from s g old) (open_grant s g old) else None) o.over in
        let reservation : reservation_at v u ledger s g ≡ reservation_at v from old s g =
        held_then ∙ sym held_before in
        λ i. if same.groups g i
        then Some (record {
          session = s;
          group = g;
          used = same.uses g i;
          reservation = reservation i;
        })
        else None

    same_bucket : (n : ℕ) (c : BucketRow) → c.number ≡ n → IsDeadNumber v from old n →
        IsDead (bucket_at v from old c) → bucket_at v u ledger c ≡ bucket_at v from old c
    same_bucket n c number d dead =
        let same : SameBucket v from old n ledger = h.buckets n d in
        let charges : charged c.number ledger ≡ charged c.number old =
        subst (λ m. charged m ledger ≡ charged m old) (sym number) same.charge in
        let now : held (λ s g. is_live v u ledger s) c.number ledger ≡ 0 =
        ap (λ m. held (λ s g. is_live v u ledger s) m ledger) number
        ∙ same.free (λ s g. is_live v u ledger s)
        (λ s g o. ended_then v from old u s ledger le (h.sessions s o) o.over) in
        let left = sym (ap (λ m. if nat_lt from c.until
        then c.credited - charged c.number old - m else 0) dead.reserved) ∙ dead.available in
        (λ i. balance_of u c (charges i) (now i))
        ∙ balance_later from u c (charged c.number old) (earlier u le c.until) left
        ∙ (λ i. balance_of from c (charged c.number old) (sym dead.reserved i))
      where
        earlier : (t : ℕ) → from ≤ t → (until : ℕ) → nat_lt t until ≡ true →
            nat_lt from until ≡ true
        earlier t k until e = grind (arith, nat_tests, k, e)

    same_row : AreCredited (credits old) (next_bucket old) → IsSoundLedger old → (n : ℕ)
        (x : BucketRow) → bucket_in n (buckets_at v from old) ≡ Some x → IsDead x →
        bucket_in n (buckets_at v u ledger) ≡ Some x
    same_row made sound n x found dead =
        at (bucket_in n (credits old)) refl
        (sym (find-map (λ b. b.number == n) (bucket_at v from old) (credits old) (λ b. refl))
        ∙ found)
      where
        at : (o : Option BucketRow) → bucket_in n (credits old) ≡ o →
            option_map (bucket_at v from old) o ≡ Some x →
            bucket_in n (buckets_at v u ledger) ≡ Some x
        at None k e = absurd (no_some x e)
        at (Some c) k e =
            let row : bucket_at v from old c ≡ x = some_of (bucket_at v from old c) x e in
            let is_dead : IsDead (bucket_at v from old c) = subst IsDead (sym row) dead in
            let number : c.number ≡ n = same_number c.number n
            (find-passes (λ b. b.number == n) (credits old) c k) in
            let d : IsDeadNumber v from old n = dead_number made sound n c k is_dead in
            find-map (λ b. b.number == n) (bucket_at v u ledger) (credits ledger) (λ b. refl)
            ∙ ap (option_map (bucket_at v u ledger)) ((h.buckets n d).row ∙ k)
            ∙ ap (λ (y : BucketRow). Some y) (same_bucket n c number d is_dead ∙ row)

    pub dead_for_good : AreCredited (credits old) (next_bucket old) → IsSoundLedger old →
        AreDeadForGood v from u old ledger
    dead_for_good made sound = record {
      buckets = same_row made sound;
      sessions = λ s x e shut. same_session s (over_of s x e shut) ∙ e;
      groups = λ s g x e shut. same_group s g (over_of s x e shut);
    }

-- ---- commands that come

stays_through : (b : Shelf) (a : List ℕ) (from : ℕ) (old : Ledger) (list : List Accepted)
    (ds : List DatedCommand) → from ≤ last_moment list →
    Stays (validity_of b) from old (history b a list).ledger →
    Stays (validity_of b) from old (history b a (after_commands b list ds)).ledger
stays_through b a from old list [] le h = h
stays_through b a from old list (d ∷ ds) le h =
    at (accepts b list d.command (moment_of list d.moment))
    (λ next. stays_through b a from old next ds)
  where
    t : ℕ
    t = moment_of list d.moment

    accepted : Accepted
    accepted = record { moment = t; command = d.command }

    later : from ≤ t
    later = omega (arith, le)

    taken : (named : Bool) → Stays (validity_of b) from old
        (if named
        then (outcome b (standing b d.command list) (history b a list) d.command t).after
        else history b a list).ledger
    taken true = kept_outcome b t (May (validity_of b) from old)
        (Stays (validity_of b) from old) (keeps_stays b from old t later)
        (standing b d.command list) (history b a list) d.command h
    taken false = h

    at : (v : Bool) → ((next : List Accepted) → from ≤ last_moment next →
        Stays (validity_of b) from old (history b a next).ledger →
        Stays (validity_of b) from old (history b a (after_commands b next ds)).ledger) →
        Stays (validity_of b) from old
        (history b a (after_commands b (if v then accepted ∷ list else list) ds)).ledger
    at true rest = rest (accepted ∷ list) later (taken (names a (concerned_by d.command)))
    at false rest = rest list le h

grows : (b : Shelf) (list : List Accepted) (ds : List DatedCommand) →
    last_moment list ≤ last_moment (after_commands b list ds)
grows b list [] = omega arith
grows b list (d ∷ ds) =
    omega (
      arith,
      grows b (after_command b list d) ds,
      at (accepts b list d.command (moment_of list d.moment)),
    )
  where
    at : (v : Bool) → last_moment list ≤ last_moment
        (if v then record { moment = moment_of list d.moment; command = d.command } ∷ list
        else list)
    at true = omega arith
    at false = omega arith

-- rule: dead-rows.dead-for-good
pub dead_rows_stay : DeadRowsStay
dead_rows_stay b a list between u le =
    let old : Ledger = (history b a list).ledger in
    let from : ℕ = last_moment list in
    let sound : IsSoundHistory b _ old =
    kept_history b (IsSoundHistory b) (keeps_sound b) (sound_none b) a list in
    dead_for_good (validity_of b) from old (history b a (after_commands b list between)).ledger u
    (omega (arith, le, grows b list between))
    (stays_through b a from old list between (omega arith)
    (stays_itself (validity_of b) from old))
    sound.paying.credits sound.sound
