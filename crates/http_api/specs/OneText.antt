-- A connection without a failure of memory or of the store: what is written, and what is accepted,
-- is one function of the bytes that are read and of the clock's moments.
use Rattle.std.specs.Prelude.{◌≡◌, ◌<◌, ℕ, zero, suc, Bool, true, List, [], Option}
use Rattle.units.specs.Words.{Moment}
use Rattle.texts.specs.StreamWords.{Bytes}
use Rattle.shelves.specs.Shelves.{Shelf}
use Rattle.charging.specs.Accepted.{Accepted}
use Rattle.http_messages.specs.Requests.{Next, asks, refused, ended, IsNextRequest}
use Rattle.http_messages.specs.Asking.{Asking, refuses}
use Rattle.http_messages.specs.Table.{asked_of}
use Rattle.http_api.specs.Replies.{Reply, IsDue}
use Rattle.http_api.specs.Connections.{Connection, new_connection, after_reply, IsOver, AreTurns}

-- a request gets what is due
pub record GetsDue (b : Shelf) (asking : Asking) (closes : Bool) (rest : Bytes)
    (old new : Connection) : Type 0 where
  pub moments : List (Option Moment)
  pub reply : Reply
  pub due : IsDue b old.list asking moments reply
  pub after : new ≡ after_reply old closes rest moments reply

-- what comes next gets what is due
abbrev pub NextGetsDue : Shelf → Next → Connection → Connection → Type 0
NextGetsDue b (asks ask rest) old new = GetsDue b (asked_of ask) ask.closes rest old new
NextGetsDue b (refused status) old new = GetsDue b (refuses status) true [] old new
NextGetsDue b ended old new = ⊥

-- one turn
pub record IsDueTurn (b : Shelf) (old new : Connection) : Type 0 where
  pub taken : 0 < old.left
  pub next : Next
  pub is_next : IsNextRequest old.rest next
  pub gets : NextGetsDue b next old new

-- so many turns
-- rule: http-text: what a connection writes and accepts is one function of its bytes, of what was
--   accepted before and of the moments, but for 503
abbrev pub DueTurns : Shelf → ℕ → Connection → Connection → Type 0
DueTurns b zero first last = last ≡ first
DueTurns b (suc n) first last = (between : Connection) × DueTurns b n first between
    × IsDueTurn b between last

-- such turns are turns of a connection
-- rule: http-text
abbrev pub DueTurnsAreTurns : Type 0
DueTurnsAreTurns = (b : Shelf) (n : ℕ) (first last : Connection) → DueTurns b n first last →
    AreTurns b n first last

-- the same stream, list of accepted commands and moments give the same text and list
-- rule: http-text
abbrev pub TextIsOne : Type 0
TextIsOne = (b : Shelf) (n : ℕ) (stream : Bytes) (list : List Accepted) (x y : Connection) →
    DueTurns b n (new_connection stream list) x → DueTurns b n (new_connection stream list) y →
    x.moments ≡ y.moments → (x.written ≡ y.written) × (x.list ≡ y.list)

-- to its end a connection has one number of turns
-- rule: http-text
abbrev pub TurnsAreOne : Type 0
TurnsAreOne = (b : Shelf) (n m : ℕ) (stream : Bytes) (list : List Accepted) (x y : Connection) →
    DueTurns b n (new_connection stream list) x → DueTurns b m (new_connection stream list) y →
    IsOver x → IsOver y → n ≡ m
