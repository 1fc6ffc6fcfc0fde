-- The rows that accepted commands leave of each account are lists within their rules.
use Rattle.std.proofs.Common.{◌≡◌, ℕ, ◌≤◌, Bool, true, false, List, [], ◌∷◌, refl, sym, ap}
use Rattle.std.proofs.Common.{◌∙◌, arith, map, subst, Option, Some}
use Rattle.std.specs.Prelude.{if◌then◌else◌, ◌==◌, IfSome, option_map}
use Rattle.keepers.specs.Tables.{Rows, group_row, held_of, no_rows}
use Rattle.buckets.specs.Kinds.{most_of}
use Rattle.buckets.specs.Row.{BucketRow}
use Rattle.buckets.specs.Spend.{AreDistinct, DiffersFromAll, Each}
use Rattle.ledger.specs.Balance.{bucket_at, buckets_at, credits}
use Rattle.ledger.proofs.Names.{number_same}
use Rattle.reserving.proofs.Keys.{same_number}
use Rattle.charging.specs.Paid.{reports_of}
use Rattle.charging.proofs.runs.FromEquations.{not_there}
use Rattle.charging.proofs.steps.Credited.{AreCredited, distinct}
use Rattle.charging.proofs.steps.KeptHistories.{kept_history}
use Rattle.charging.proofs.steps.Sound.{IsSoundHistory, keeps_sound, sound_none}
use Rattle.ledger.specs.Ledger.{Ledger, next_bucket}
use Rattle.ledger.specs.Pricing.{cycle_at, validity_of}
use Rattle.reserving.proofs.Lists.{no_some}
use Rattle.reserving.proofs.StoredRows.{IsStored-stored}
use Rattle.reserving.specs.Left.{bucket_in}
use Rattle.reserving.specs.Rows.{AccountRows}
use Rattle.reserving.specs.Sessions.{counter_at, group_at, group_in, session_at}
use Rattle.reserving.specs.Stored.{stored}
use Rattle.shelves.specs.Shelves.{Shelf, IsShelf}
use Rattle.charging.specs.Accepted.{Accepted, Concerned, IsInTime, as_of, concerned_by, each}
use Rattle.charging.specs.Accepted.{last_moment, names, none, one, reaches}
use Rattle.charging.specs.FiniteRows.{IsList, RowsAreLists}
use Rattle.charging.specs.Histories.{History}
use Rattle.charging.specs.Outcomes.{outcome}
use Rattle.charging.specs.Served.{history, standing}
use Rattle.charging.specs.TablesAfter.{rows_at}
use Rattle.charging.proofs.lists.CommandRows.{outcome_rows}
use Rattle.charging.proofs.lists.RowsKept.{AreRows, HasRows, rows_later, rows_none}
use Rattle.charging.proofs.runs.AcceptedTables.{as_of-last}

-- ---- a history's rows

-- an account is as of a command's moment where it names the account or concerns each
moved_on : (b : Shelf) (a : List ℕ) (who : Concerned) (t u : ℕ) (old new : History) → t ≤ u →
    (AreRows b u old.ledger → AreRows b u new.ledger) → AreRows b t old.ledger →
    AreRows b (if reaches a who then u else t) (if names a who then new else old).ledger
moved_on b a (one c) t u old new le step h = at (names a (one c))
  where
    at : (named : Bool) →
        AreRows b (if named then u else t) (if named then new else old).ledger
    at true = step (rows_later b t u old.ledger le h)
    at false = h
moved_on b a each t u old new le step h = rows_later b t u old.ledger le h
moved_on b a none t u old new le step h = h

history_rows : (b : Shelf) → IsShelf b → (a : List ℕ) (list : List Accepted) → IsInTime list →
    AreRows b (as_of a list) (history b a list).ledger
history_rows b shelf a [] time = rows_none b shelf
history_rows b shelf a (d ∷ before) time =
    let early : as_of a before ≤ d.moment =
    (let last : as_of a before ≤ last_moment before = as_of-last a before time.1 in
    let later : last_moment before ≤ d.moment = time.0 in omega (arith, last, later)) in
    let is : IsSoundHistory b (reports_of b a before) (history b a before).ledger =
    kept_history b (IsSoundHistory b) (keeps_sound b) (sound_none b) a before in
    moved_on b a (concerned_by d.command) (as_of a before) d.moment (history b a before)
    (outcome b (standing b d.command before) (history b a before) d.command d.moment).after early
    (outcome_rows b shelf d.moment (standing b d.command before) (history b a before) d.command
    is.sound)
    (history_rows b shelf a before time.1)

-- ---- its buckets

-- what holds of each bucket that is found holds of each
each_found : (P : BucketRow → Type 0) (xs : List BucketRow) → AreDistinct xs →
    ((n : ℕ) → IfSome (bucket_in n xs) P) → Each P xs
each_found P [] apart h = tt
each_found P (x ∷ xs) apart h = (
  first (x.number == x.number) (number_same x.number) (h x.number),
  each_found P xs apart.1 (λ n. rest n (x.number == n) refl (h n)),
)
  where
    first : (c : Bool) → c ≡ true → IfSome (if c then Some x else bucket_in x.number xs) P → P x
    first true e k = k
    first false e k = cc

    rest : (n : ℕ) (c : Bool) → (x.number == n) ≡ c →
        IfSome (if c then Some x else bucket_in n xs) P → IfSome (bucket_in n xs) P
    rest n true e k =
        subst (λ (o : Option BucketRow). IfSome o P) (sym (not_there n xs
        (subst (λ (m : ℕ). DiffersFromAll m xs) (same_number x.number n e) apart.0))) tt
    rest n false e k = k

-- a bucket is opened as it was credited
as_credited : (v : ℕ → ℕ) (t : ℕ) (ledger : Ledger) (cs : List BucketRow) →
    Each (λ b. b.credited ≤ most_of b.kind) (map (bucket_at v t ledger) cs) →
    Each (λ c. c.credited ≤ most_of c.kind) cs
as_credited v t ledger [] h = tt
as_credited v t ledger (c ∷ cs) h = (h.0, as_credited v t ledger cs h.1)

-- ---- they are a list

listed : (b : Shelf) (t : ℕ) (ledger : Ledger) → HasRows b t ledger → IsList (rows_at b t ledger)
listed b t ledger h = record {
  rows = stored a;
  are = record {
    head = λ i. Some (record {
      as_of = sym h.moment i;
      barred = sym h.rows.barred i;
      next_bucket = sym h.rows.next_bucket i;
      next_charge = sym h.rows.next_charge i;
    });
    buckets = λ n.
        (λ i. bucket_in n (buckets_at (validity_of (sym h.shelf i)) (sym h.moment i) ledger))
        ∙ ap (bucket_in n) (sym h.rows.buckets);
    counters = λ g c. (λ i. counter_at (cycle_at (sym h.shelf i) g) ledger g c)
        ∙ sym (h.rows.counters g c);
    sessions = λ s.
        (λ i. session_at (validity_of (sym h.shelf i)) (sym h.moment i) ledger s)
        ∙ sym (h.rows.sessions s);
    groups = λ s g. ap (option_map group_row) (found s g);
    holds = λ s g n. ap (held_of n) (found s g);
  };
  kept = IsStored-stored a h.kept;
}
  where
    a : AccountRows
    a = h.account

    found : (s : List ℕ) (g : ℕ) → group_at (validity_of b) t ledger s g ≡ group_in s g a.groups
    found s g = (λ i. group_at (validity_of (sym h.shelf i)) (sym h.moment i) ledger s g)
        ∙ sym (h.rows.groups s g)

-- rule: runs.finite-rows
pub rows_are_lists : RowsAreLists
rows_are_lists shelf is list time range a head there =
    at (history shelf a list).opened (range a) there
  where
    t : ℕ
    t = as_of a list

    ledger : Ledger
    ledger = (history shelf a list).ledger

    rows_if : Bool → Rows
    rows_if opened = if opened then rows_at shelf t ledger else no_rows

    made : AreCredited (credits ledger) (next_bucket ledger)
    made = (kept_history shelf (IsSoundHistory shelf) (keeps_sound shelf) (sound_none shelf) a
        list).paying.credits

    at : (opened : Bool) →
        ((n : ℕ) → IfSome ((rows_if opened).buckets n) (λ b. b.credited ≤ most_of b.kind)) →
        (rows_if opened).head ≡ Some head → IsList (rows_if opened)
    at true within e = listed shelf t ledger (history_rows shelf is a list time
        (as_credited (validity_of shelf) t ledger (credits ledger)
        (each_found (λ b. b.credited ≤ most_of b.kind) (buckets_at (validity_of shelf) t ledger)
        (distinct (validity_of shelf) t ledger made) within)))
    at false within e = absurd (no_some head e)
