-- Whether a row has the key of another.
use Rattle.std.specs.Prelude.{◌==◌, Bool}
use Rattle.buckets.specs.Row.{BucketRow}
use Rattle.reserving.specs.declared.session.Session.{Session}
use Rattle.reserving.specs.declared.session.SessionGroup.{SessionGroup}
use Rattle.reserving.specs.declared.session.Counter.{Counter}
use Rattle.reserving.specs.Sessions.{is_session, is_of, is_counter}

abbrev pub same_bucket : BucketRow → BucketRow → Bool
same_bucket x y = y.number == x.number

abbrev pub same_session : Session → Session → Bool
same_session x y = is_session x.id y

abbrev pub same_group : SessionGroup → SessionGroup → Bool
same_group x y = is_of x.session x.group y

abbrev pub same_counter : Counter → Counter → Bool
same_counter x y = is_counter x.group x.cycle y
