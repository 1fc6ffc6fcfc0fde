-- What may still change of an account is what a load asks.
use Rattle.std.proofs.Common.{◌≡◌, ℕ, Bool, true, false, List, [], ◌∷◌, Option, Some, None}
use Rattle.std.proofs.Common.{Result, Ok, Err, IfOk, OnOk, IsErrOf, cond, refl, sym, ap, ◌∙◌, subst}
use Rattle.std.proofs.Common.{true≢false}
use Rattle.std.specs.Prelude.{if◌then◌else◌, ◌==◌, filter, option_map}
use Rattle.std.specs.List.{find}
use Rattle.shelves.specs.Shelves.{Shelf}
use Rattle.reserving.specs.declared.session.Session.{Session}
use Rattle.ledger.specs.Pricing.{cycle_at}
use Rattle.reserving.specs.Sessions.{counter_in, is_open}
use Rattle.reserving.specs.Rows.{AccountRows}
use Rattle.reserving.specs.Stored.{StoredRows, stored}
use Rattle.reserving.specs.Restored.{in_key_order, FindsSame}
use Rattle.keepers.specs.Seen.{Seen}
use Rattle.keepers.specs.Tables.{group_row, held_of}
use Rattle.reserving.proofs.LeftParted.{either_none}
use Rattle.sql_rows.specs.Content.{TableRows}
use Rattle.keepers.specs.declared.loaded.Loaded.{Loaded}
use Rattle.keepers.specs.declared.fault.StoreFault.{StoreFault}
use Rattle.keepers.specs.declared.fault.StoreFault.TheVariants.{Store}
use Rattle.keepers.specs.Tables.{Rows}
use Rattle.keepers.specs.Change.{IsLoadedFrom, IsLoad, IsView}
use Rattle.keepers.specs.Keeping.{KeeperReads}
use Rattle.sql_keeper.specs.Content.{head_in, told_rows, Names}
use Rattle.sql_keeper.specs.LiveRows.{AreLiveBuckets, AreLiveRows, AreLiveRowsLoaded, IsAccountOf}
use Rattle.sql_keeper.specs.LiveRows.{IsLiveAccount, IsLoadOf, IsReadAccount, IsReadUncounted}
use Rattle.sql_keeper.specs.LiveRows.{IsLoadStored, IsToldAccount, account_with}
use Rattle.sql_keeper.specs.LiveGroups.{AreToldGroups}
use Rattle.sql_keeper.specs.Writes.{head_columns_of}
use Rattle.sql_keeper.specs.declared.live_rows.ReadRows.{ReadRows}
use Rattle.sql_keeper.proofs.loads.DeadRows.{those_are}
use Rattle.sql_keeper.proofs.loads.LiveGroups.{open_loaded}

-- ---- counters

-- a test that answers alike for all rows of a key keeps what is found, or none of it
pub find_kept : {A : Type 0} (q p : A → Bool) (b : Bool) → ((x : A) → q x ≡ true → p x ≡ b)
    → (xs : List A) → find q (filter p xs) ≡ (if b then find q xs else None)
find_kept q p b same [] = either_none b (find q []) refl
find_kept q p b same (x ∷ xs) = at b (p x) (q x) refl refl (same x) (find_kept q p b same xs)
  where
    at : (b u t : Bool) → p x ≡ u → q x ≡ t → (q x ≡ true → p x ≡ b)
        → find q (filter p xs) ≡ (if b then find q xs else None)
        → find q (cond u (x ∷ filter p xs) (filter p xs))
        ≡ (if b then cond t (Some x) (find q xs) else None)
    at true true true e k is rest = rw k refl
    at true false true e k is rest = absurd (true≢false (sym (is k) ∙ e))
    at false true true e k is rest = absurd (true≢false (sym e ∙ is k))
    at false false true e k is rest = rest
    at b true false e k is rest = rw k rest
    at b false false e k is rest = rest

-- ---- all of it

-- an account that finds under each key what was read
pub live_read : (names : Names) (shelf : Shelf) (t : ℕ) (told : TableRows) (x : ReadRows)
    (w : StoredRows) → IsReadAccount names shelf t told (Some x)
    → w ≡ in_key_order (account_with x.head x.rows x.counters.items)
    → FindsSame (account_with x.head x.rows x.counters.items) w
    → IsLiveAccount names shelf t told (Some w)
live_read names shelf t told x w (head, live, counters) is found =
    let groups : AreToldGroups names told w.groups = record {
      groups = λ s g.
          ap (option_map group_row) (found.groups s g) ∙ live.told.groups.groups s g;
      holds = λ s g n.
          ap (held_of n) (found.groups s g) ∙ live.told.groups.holds s g n;
    } in
    let account : IsToldAccount names shelf t told w = (
      head ∙ ap Some (sym (ap head_columns_of is)),
      record {
        buckets = subst (AreLiveBuckets told)
            (sym (ap (λ (v : StoredRows). v.buckets) is)) live.told.buckets;
        sessions = λ s. found.sessions s ∙ live.told.sessions s;
        groups = groups;
      },
      (λ g c. found.counters g c ∙ counters g c),
    ) in
    (account, (λ s g y v e f. live.grants s g y v (sym (found.groups s g) ∙ e) f))

-- what is said whatever the shelf and the moment
pub for_each : {A E : Type 0} (P : Shelf → ℕ → A → Type 0) (r : Result A E)
    → ((shelf : Shelf) (t : ℕ) → IfOk r (P shelf t))
    → IfOk r (λ x. (shelf : Shelf) (t : ℕ) → P shelf t x)
for_each P (Ok x) each = each
for_each P (Err e) each = tt

-- a head and what may still change whatever the moment, without a counter
pub uncounted : (names : Names) (rows : TableRows) (x : ReadRows) → Some x.head ≡ rows.head
    → AreLiveRows names rows x.rows.purse x.rows.sessions.items x.rows.groups.items
    → x.counters.items ≡ [] → IsReadUncounted names rows (Some x)
uncounted names rows x head live none shelf t = (
  sym head,
  record {
    told = record {
      buckets = live.told.buckets;
      sessions = live.told.sessions;
      groups = record { groups = live.told.groups.groups; holds = live.told.groups.holds };
    };
    grants = λ s g y v e f. record {
      book = (live.grants s g y v e f).book;
      held = (live.grants s g y v e f).held;
    };
  },
  (λ g c. ap (counter_in g c) none ∙ either_none (c == cycle_at shelf g t) None refl),
)

-- rule: database-loads.live-account
pub live_loaded : AreLiveRowsLoaded
live_loaded names shelf t rows w (head, told, counters) =
    let groups = open_loaded names rows w.groups told.groups in
    record {
      priced_by = refl;
      head = ap (option_map head_in) head;
      buckets = told.buckets;
      sessions = λ s. told.sessions s
          ∙ those_are (λ (x : Session). is_open x.state) (λ x. is_open x.state) (λ x. refl)
          (rows.sessions s);
      groups = groups.groups;
      holds = groups.holds;
      counters = counters;
    }

-- rule: database-loads.load
pub load_made : {E : Type 0} (names : Names) (shelf : Shelf) (t : ℕ) (a : List ℕ)
    (rows : TableRows) (o : Option StoredRows) (r : Result (Option Loaded) E)
    → IfOk r (IsLoadOf shelf a o) → IsLiveAccount names shelf t rows o
    → IfOk r (IsLoadStored names shelf t a rows)
load_made names shelf t a rows None (Ok None) made live =
    record { load = ap (option_map head_in) live; rows = tt }
load_made names shelf t a rows None (Ok (Some l)) made live = absurd made
load_made names shelf t a rows (Some w) (Ok None) made live = absurd made
load_made names shelf t a rows (Some w) (Ok (Some l)) (number, account, before) live = record {
  load = (
    number,
    subst (IsLoadedFrom shelf t (told_rows names rows)) (sym account)
        (live_loaded names shelf t rows w live.0),
    before ∙ ap stored (sym account),
  );
  rows = subst (λ (v : StoredRows). AreLiveRows names rows v.buckets v.sessions v.groups)
      (sym before) (record { told = live.0.1; grants = live.1 });
}
load_made names shelf t a rows o (Err e) made live = tt

abbrev answers : {A E : Type 0} → Result A E → Bool
answers (Ok x) = true
answers (Err e) = false

abbrev fault_or : {A E : Type 0} → E → Result A E → E
fault_or d (Ok x) = d
fault_or d (Err e) = e

-- a load without the rows once more is a view
-- rule: database-loads.load
pub viewed : (old new : Seen)
    (shelf : Shelf) (t : ℕ) (a : List ℕ) (rows : Rows) (r : Result (Option Loaded) StoreFault)
    (q : Result (Option AccountRows) StoreFault) → IsAccountOf r q
    → KeeperReads old new (IsLoad shelf t a rows) r
    → KeeperReads old new (IsView shelf t rows) q
viewed old new shelf t a rows r q is h = record {
  found = λ now. found r q is (h.found now);
  same = h.same;
  cleanness = h.cleanness;
  honesty = h.honesty;
  stands = λ x. answers_so new.clean r q is (h.stands x);
  left = h.left;
  cause = record { kept = h.cause.kept; cause = λ e. h.cause.cause (fault r q is e) };
}
  where
    found : (r : Result (Option Loaded) StoreFault) (q : Result (Option AccountRows) StoreFault)
        → IsAccountOf r q → IfOk r (IsLoad shelf t a rows) → IfOk q (IsView shelf t rows)
    found (Ok None) (Ok None) is load = load
    found (Ok None) (Ok (Some x)) is load = absurd is
    found (Ok (Some l)) (Ok None) is load = absurd is
    found (Ok (Some l)) (Ok (Some x)) is (number, load, before) =
        subst (IsLoadedFrom shelf t rows) (sym is) load
    found r (Err f) is load = tt
    found (Err e) (Ok o) is load = absurd is

    answers_so : (P : Type 0) (r : Result (Option Loaded) StoreFault)
        (q : Result (Option AccountRows) StoreFault) → IsAccountOf r q → OnOk r P → OnOk q P
    answers_so P (Ok o) (Ok p) is on = on
    answers_so P (Err e) (Ok o) is on = absurd is
    answers_so P r (Err f) is on = tt

    fault : (r : Result (Option Loaded) StoreFault) (q : Result (Option AccountRows) StoreFault)
        → IsAccountOf r q → IsErrOf q Store → IsErrOf r Store
    fault (Ok o) (Err f) is e = absurd is
    fault (Err d) (Err f) is e = ap (λ x. Err x) (sym is ∙ ap (fault_or f) e)
    fault r (Ok o) is e = absurd (true≢false (ap answers e))
