-- Of an account's rows at a moment those that differ, written over what was there: it reads as if
-- all were written.
use Rattle.std.proofs.Common.{◌≡◌, ◌⊎◌, inl, inr, ◌∙◌, ℕ, Bool, true, false, List, refl, sym, ap}
use Rattle.std.proofs.Common.{subst, Option, Some, None}
use Rattle.std.specs.Prelude.{if◌then◌else◌, nat_le, not, option_map}
use Rattle.std.specs.List.{list_any}
use Rattle.shelves.specs.Shelves.{Shelf}
use Rattle.reserving.specs.declared.session.Reservation.{Reservation}
use Rattle.reserving.specs.declared.session.SessionGroup.{SessionGroup}
use Rattle.reserving.specs.Left.{first_of, is_open_row}
use Rattle.reserving.specs.Sessions.{group_in, is_session, session_in}
use Rattle.reserving.specs.Stored.{StoredRows, priced, advanced_stored}
use Rattle.reserving.proofs.Advancing.{session_in-advanced}
use Rattle.reserving.proofs.LeftParted.{one_session}
use Rattle.reserving.proofs.LeftTests.{differing_over, each_filter}
use Rattle.reserving.proofs.Lists.{no_some, some_of}
use Rattle.keepers.specs.Tables.{GroupRow, group_row}
use Rattle.keepers.specs.Change.{IsLoadedFrom, over}
use Rattle.keepers.specs.Differing.{AreThere, equal_group, equal_session, named_rows}
use Rattle.keepers.specs.Keyed.{same_session}
use Rattle.keepers.specs.Naming.{AreRowsApart}
use Rattle.keepers.specs.Overlaying.{IsMadeFrom}
use Rattle.keepers.proofs.Equal.{session_from}
use Rattle.keepers.proofs.GroupsOverlaid.{rows_overlaid}
use Rattle.keepers.proofs.NamedOver.{apart_stored, named_kept, named_over}
use Rattle.sql_rows.specs.Values.{Group, PeriodNames}
use Rattle.sql_rows.specs.Content.{TableRows}
use Rattle.sql_keeper.specs.Content.{Names, stored_group_in, reserved_in, told_rows}
use Rattle.sql_keeper.specs.LiveRows.{without_counters}
use Rattle.sql_keeper.specs.Sweeps.{AreSweptRows, differing_at, rows_at}
use Rattle.sql_keeper.specs.Tests.{AreSettled, AreWritable, MayStand, is_open_over}
use Rattle.sql_keeper.proofs.commits.Changed.{AreKeyed, keyed_named, may_at, open_named}
use Rattle.sql_keeper.proofs.commits.Changed.{over_stored, rows_read}
use Rattle.sql_keeper.proofs.loads.LiveRows.{live_loaded}
use Rattle.sql_keeper.proofs.loads.LoadedAlone.{free_later, loaded_may_change, no_open}
use Rattle.sql_keeper.proofs.puts.Overlays.{not_both}

-- what isn't among the rows has no reservation, and its session isn't among them
abbrev pub IsFreeBeside : Names → TableRows → StoredRows → Type 0
IsFreeBeside names r x = (s : List ℕ) (g : ℕ) (y : GroupRow) →
    (told_rows names r).groups s g ≡ Some y
    → group_in s g x.groups ≡ None → (y.terms ≡ None) × (session_in s x.sessions ≡ None)

-- a session that isn't open isn't among them
abbrev pub AreOpenAlone : TableRows → StoredRows → Type 0
AreOpenAlone r x =
    (s : List ℕ) → is_open_row (r.sessions s) ≡ false → session_in s x.sessions ≡ None

-- a group that is named in an open session, and without terms, has no reservation
no_periods : (names : Names) (on : Bool) (book : Option ℕ) (p : Option PeriodNames) → on ≡ true
    → reserved_in names on book p ≡ None → p ≡ None
no_periods names true book None opened none = refl
no_periods names true book (Some p) opened none = absurd (no_some _ (sym none))
no_periods names false book p opened none = not_both (sym opened)

-- ---- rows that differ, and all of them

module _ (names : Names) (before after : StoredRows) (r : TableRows)
    (there : AreThere before (told_rows names r)) (own : AreRowsApart before)
    (apart : AreRowsApart after) (may : AreWritable names after.sessions after.groups)
    (free : IsFreeBeside names r after) (alone : AreOpenAlone r after) where
  abbrev named : StoredRows
  named = named_rows before after

  -- a session is open over those that are stored, whether or not it is named
  open_same : (s : List ℕ) →
      is_open_over named.sessions r s ≡ is_open_over after.sessions r s
  open_same s = ap is_open_row (differing_over same_session (is_session s) (one_session s)
      equal_session session_from before.sessions after.sessions (r.sessions s) own.sessions
      apart.sessions (there.sessions s))

  pub opens_named : (s : List ℕ) → is_open_row (session_in s after.sessions) ≡ true →
      is_open_over named.sessions r s ≡ true
  opens_named s on = open_same s ∙ open_named after.sessions r s on

  pub may_named : AreWritable names after.sessions named.groups
  may_named = each_filter
      (λ (x : SessionGroup). MayStand names after.sessions x.session x.reservation)
      (λ x. not (list_any (equal_group x) before.groups)) after.groups may

  -- of a session that isn't open nothing changes
  shut_still : (s : List ℕ) → is_open_row (r.sessions s) ≡ false →
      is_open_over named.sessions r s ≡ false
  shut_still s shut = open_same s
      ∙ ap (λ o. is_open_row (first_of o (r.sessions s))) (alone s shut) ∙ shut

  -- a group that is among the rows and isn't named stays as it is there
  group_there : (s : List ℕ) (g : ℕ) (x : SessionGroup) → group_in s g named.groups ≡ None
      → group_in s g after.groups ≡ Some x → (told_rows names r).groups s g ≡ Some (group_row x)
  group_there s g x none e =
      let stands : Option GroupRow = (told_rows names r).groups s g in
      sym (ap (λ o. first_of (option_map group_row o) stands) none)
      ∙ rows_overlaid before.groups after.groups stands s g own.groups apart.groups
      (there.groups s g)
      ∙ ap (λ o. first_of (option_map group_row o) stands) e

  -- one that isn't named
  module _ (s : List ℕ) (g : ℕ) (y : Group) (is : r.groups s g ≡ Some y)
      (none : group_in s g named.groups ≡ None) where
    abbrev on : Bool
    on = is_open_row (r.sessions s)

    abbrev IsSettled : Type 0
    IsSettled = (is_open_over named.sessions r s ≡ on) ⊎ (y.periods ≡ None)

    told : (told_rows names r).groups s g ≡ Some (stored_group_in names on (r.grant_books s g) y)
    told = ap (option_map (stored_group_in names on (r.grant_books s g))) is

    -- of a session that is open there
    at_open : (x : SessionGroup) (o : Option Reservation) → x.reservation ≡ o
        → group_in s g after.groups ≡ Some x → on ≡ true → IsSettled
    at_open x (Some z) has e opened =
        let stands : MayStand names after.sessions s (Some z) =
        subst (MayStand names after.sessions s) has
        (may_at names after.sessions after.groups may s g x e) in
        inl (opens_named s stands.live ∙ sym opened)
    at_open x None has e opened =
        let row : stored_group_in names on (r.grant_books s g) y ≡ group_row x =
        some_of _ _ (sym told ∙ group_there s g x none e) in
        inr (no_periods names on (r.grant_books s g) y.periods opened
        (ap (λ (z : GroupRow). z.terms) row
        ∙ ap (option_map (λ (z : Reservation). z.terms)) has))

    by_open : (b : Bool) (x : SessionGroup) → on ≡ b → group_in s g after.groups ≡ Some x →
        IsSettled
    by_open true x opened e = at_open x x.reservation refl e opened
    by_open false x shut e = inl (shut_still s shut ∙ sym shut)

    settled_at : (o : Option SessionGroup) → group_in s g after.groups ≡ o → IsSettled
    settled_at None e = inl (open_same s ∙ ap (λ o. is_open_row (first_of o (r.sessions s)))
        (free s g (stored_group_in names on (r.grant_books s g) y) told e).1)
    settled_at (Some x) e = by_open on x refl e

  pub settled_named : AreSettled named.sessions named.groups r
  settled_named s g y is none = settled_at s g y is none (group_in s g after.groups) refl

-- ---- what a sweep writes of an account

module _ (names : Names) (shelf : Shelf) (t : ℕ) (r : TableRows) (w : StoredRows)
    (swept : AreSweptRows names shelf t r w) where
  abbrev before : StoredRows
  before = swept.before

  abbrev pub after : StoredRows
  after = rows_at shelf t before

  pub loads : IsLoadedFrom shelf t (told_rows names (without_counters r)) (priced shelf before)
  loads = live_loaded names shelf t (without_counters r) before (swept.live shelf t)

  pub made : IsMadeFrom before before (told_rows names r)
  made =
      let m = loaded_may_change shelf t (told_rows names (without_counters r)) (priced shelf before)
      loads in
      record {
        there = record {
          buckets = m.there.buckets;
          counters = λ g c x e. absurd (no_some x (m.there.counters g c x e));
          sessions = m.there.sessions;
          groups = m.there.groups;
          holds = m.there.holds;
        };
        rest = record { dead = m.rest.dead; ended = m.rest.ended; free = m.rest.free };
      }

  there : AreThere before (told_rows names r)
  there = made.there

  free : IsFreeBeside names r after
  free = at (nat_le before.as_of t)
    where
      at : (b : Bool) →
          IsFreeBeside names r (if b then advanced_stored shelf t before else before)
      at true = free_later shelf t before (told_rows names r) made
      at false = made.rest.free

  alone : AreOpenAlone r after
  alone = at (nat_le before.as_of t)
    where
      none : (s : List ℕ) → is_open_row (r.sessions s) ≡ false → session_in s before.sessions ≡ None
      none s shut = loads.sessions s ∙ no_open (r.sessions s) shut

      at : (b : Bool) → AreOpenAlone r (if b then advanced_stored shelf t before else before)
      at true = λ s shut. session_in-advanced s t (priced shelf before) (none s shut)
      at false = none

  own : AreRowsApart before
  own = apart_stored before swept.kept.kept

  apart : AreRowsApart after
  apart = apart_stored after swept.kept.stored

  -- no two of the rows have one key
  pub keyed_swept : AreKeyed w
  keyed_swept = subst AreKeyed (sym swept.is)
      (keyed_named (differing_at shelf t before) (named_kept before after swept.kept.stored))

  -- a reservation among them is in a session that is open among all of them
  pub may_swept : AreWritable names after.sessions w.groups
  may_swept = subst (λ (x : StoredRows). AreWritable names after.sessions x.groups) (sym swept.is)
      (may_named names before after r there own apart swept.kept.may free alone)

  pub opens_swept : (s : List ℕ) → is_open_row (session_in s after.sessions) ≡ true →
      is_open_row (first_of (session_in s w.sessions) (r.sessions s)) ≡ true
  opens_swept s on =
      subst (λ (x : StoredRows).
      is_open_row (first_of (session_in s x.sessions) (r.sessions s)) ≡ true) (sym swept.is)
      (opens_named names before after r there own apart swept.kept.may free alone s on)

  pub settled_swept : AreSettled w.sessions w.groups r
  settled_swept = subst (λ (x : StoredRows). AreSettled x.sessions x.groups r) (sym swept.is)
      (settled_named names before after r there own apart swept.kept.may free alone)

  -- it reads as if all were written
  -- rule: database-sweep
  pub read_swept : told_rows names (over_stored names w r) ≡ over after (told_rows names r)
  read_swept =
      rows_read names after.sessions w r settled_swept opens_swept
      (may_at names after.sessions w.groups may_swept) keyed_swept.scoped
      ∙ ap (λ x. over x (told_rows names r)) swept.is
      ∙ named_over before after (told_rows names r) own apart there
