-- What was seen of a reservation, and a row that leaves its book and its one hold where they are.
-- Source: profile.
use Rattle.std.specs.Prelude.{◌≡◌, ◌==◌, ◌&&◌, Bool, false, List, [], ◌∷◌, Option, Some, None}
use Rattle.std.specs.Prelude.{option_map}
use Rattle.units.specs.Words.{GroupId}
use Rattle.identifiers.specs.Words.{AccountName, SessionName}
use Rattle.buckets.specs.Words.{BucketNumber}
use Rattle.buckets.specs.declared.holds.HeldAmount.{HeldAmount}
use Rattle.reserving.specs.declared.session.SessionGroup.{SessionGroup}
use Rattle.reserving.specs.declared.session.Reservation.{Reservation}
use Rattle.reserving.specs.Sessions.{group_in}
use Rattle.sql_tables.specs.Keyed.{same_name}
use Rattle.sql_rows.specs.Content.{TableRows}
use Rattle.sql_keeper.specs.declared.seen.SeenAccount.{SeenAccount}
use Rattle.sql_keeper.specs.declared.seen.SeenGrant.{SeenGrant}

-- ---- a reservation that holds of one bucket alone

-- the bucket
abbrev pub only_bucket : List HeldAmount → Option BucketNumber
only_bucket [] = None
only_bucket (h ∷ []) = Some h.bucket
only_bucket (h ∷ k ∷ hs) = None

-- the reservation
abbrev pub grant_with : GroupId → Option Reservation → Option SeenGrant
grant_with g None = None
grant_with g (Some v) =
    option_map (λ n. record { group = g; book = v.terms.book; bucket = n }) (only_bucket v.holds)

-- it is that of the row under its key
pub record IsGrantIn (groups : List SessionGroup) (s : SessionName) (y : SeenGrant) : Type 0 where
  pub row : SessionGroup
  pub found : group_in s y.group groups ≡ Some row
  pub grant : grant_with y.group row.reservation ≡ Some y

-- how it is stored: the number of its book has a row, and nothing is held of another bucket
pub record IsGrantSeen (r : TableRows) (s : SessionName) (y : SeenGrant) : Type 0 where
  pub book : r.grant_books s y.group ≡ Some y.book
  pub held : (n : BucketNumber) → ¬ (n ≡ y.bucket) → r.holds s y.group n ≡ None

-- ---- a row that leaves it so

abbrev pub same_grant : SeenGrant → Option SeenGrant → Bool
same_grant y None = false
same_grant y (Some z) = z.group == y.group && (z.book == y.book && z.bucket == y.bucket)

abbrev pub is_grant : Option SeenGrant → SessionGroup → Bool
is_grant None x = false
is_grant (Some y) x = same_grant y (grant_with x.group x.reservation)

-- whether a name is this one
abbrev pub is_name : SessionName → Option SessionName → Bool
is_name s None = false
is_name s (Some z) = same_name z s

-- whether a row of an account has the reservation that was seen
abbrev pub is_kept : Option SeenAccount → AccountName → SessionGroup → Bool
is_kept None a x = false
is_kept (Some seen) a x =
    same_name seen.account a && (is_name x.session seen.live && is_grant seen.grant x)
