-- Rows of an account that are written over those of their keys: each is put in the place of the one
-- with its key, and one that has none among them. What isn't named stays as it is.
-- Source: profile.
use Rattle.std.specs.Prelude.{◌+◌, ◌==◌, ◌&&◌, Bool, true, false, List, [], ◌∷◌}
use Rattle.std.specs.List.{list_all}
use Rattle.buckets.specs.Words.{BucketAmount}
use Rattle.buckets.specs.Row.{BucketRow}
use Rattle.buckets.specs.Holding.{held_in}
use Rattle.reserving.specs.declared.session.Session.{Session}
use Rattle.reserving.specs.declared.session.SessionGroup.{SessionGroup}
use Rattle.reserving.specs.declared.session.Counter.{Counter}
use Rattle.reserving.specs.Keyed.{put}
use Rattle.reserving.specs.Sessions.{is_session, is_of, is_counter, held_by}
use Rattle.reserving.specs.Sessions.{session_before, group_before, counter_before}
use Rattle.reserving.specs.Changes.{reserved_in}
use Rattle.reserving.specs.Restored.{are_keys_ascending, are_in_range, are_along}
use Rattle.reserving.specs.Stored.{StoredRows}

-- the rows, one after another, by an order and the test of one key
abbrev pub written : {A : Type 0} → (A → A → Bool) → (A → A → Bool) → List A → List A → List A
written before same [] rows = rows
written before same (x ∷ xs) rows = written before same xs (put before (same x) x rows)

abbrev pub sessions_written : List Session → List Session → List Session
sessions_written = written session_before (λ x y. is_session x.id y)

abbrev pub groups_written : List SessionGroup → List SessionGroup → List SessionGroup
groups_written = written group_before (λ x y. is_of x.session x.group y)

abbrev pub counters_written : List Counter → List Counter → List Counter
counters_written = written counter_before (λ x y. is_counter x.group x.cycle y)

-- an account's rows once these are written over them; the buckets are all given
-- rule: database-writes.rows-written: rows are written over those of their keys, and what is
--   reserved is held as before
abbrev pub rows_written : StoredRows → StoredRows → StoredRows
rows_written w v = record w {
  counters = counters_written w.counters v.counters;
  sessions = sessions_written w.sessions v.sessions;
  groups = groups_written w.groups v.groups;
}

-- ---- what is tested of them, so that they are an account's again

-- what the rows that are written over hold of a bucket
abbrev pub held_before : List SessionGroup → List SessionGroup → BucketRow → BucketAmount
held_before [] rows b = 0
held_before (r ∷ rs) rows b =
    held_in (reserved_in r.session r.group rows) b + held_before rs rows b

-- of a bucket no more and no less is reserved than what is held of it from now on
abbrev pub is_held_on : List SessionGroup → List SessionGroup → BucketRow → BucketRow → Bool
is_held_on named rows old new =
    old.number == new.number &&
    (held_by (λ s. true) named new + old.reserved) == (new.reserved + held_before named rows new)

-- so it is of each, and none is new or gone
abbrev pub are_held_on : List SessionGroup → List SessionGroup → List BucketRow → List BucketRow →
    Bool
are_held_on named rows [] [] = true
are_held_on named rows [] (y ∷ ys) = false
are_held_on named rows (x ∷ xs) [] = false
are_held_on named rows (x ∷ xs) (y ∷ ys) =
    is_held_on named rows x y && are_held_on named rows xs ys

-- the rows that are written are in the order of their keys, and keep what is held
-- rule: database-writes.rows-written
abbrev pub is_writable : StoredRows → StoredRows → Bool
is_writable w v =
    are_keys_ascending w && are_in_range w
    && list_all (are_along w.buckets) w.groups
    && are_held_on w.groups v.groups v.buckets w.buckets
