-- A connection, one request after another: what is written is a function of the bytes that are read
-- and of the clock's moments, but that 503 may come where memory or the store fails, and not in
-- the place of a refusal.
-- Source: RFC 9112 sections 2.1, 6 and 9.3; the bounds: profile.
use Rattle.std.specs.Prelude.{◌≡◌, ◌<◌, ◌≤◌, ◌-◌, ◌==◌, ℕ, zero, suc, Bool, true, if◌then◌else◌}
use Rattle.std.specs.Prelude.{List, [], ◌++◌, take, Option, ◌⊎◌, Result, Ok, Err, IfOk, IfSome}
use Rattle.std.specs.Io.KnownBytes.{Appends}
use Rattle.units.specs.Words.{Moment}
use Rattle.texts.specs.StreamWords.{Bytes}
use Rattle.shelves.specs.Shelves.{Shelf}
use Rattle.keepers.specs.Seen.{Seen}
use Rattle.keepers.specs.Tables.{Tables}
use Rattle.charging.specs.Accepted.{Accepted, IsInTime}
use Rattle.charging.specs.Continued.{ForEachList, GoesOn}
use Rattle.charging.specs.Parts.{Leaves}
use Rattle.charging.specs.Served.{AreTables}
use Rattle.http_messages.specs.Statuses.{IsAnswerStatus}
use Rattle.http_messages.specs.Requests.{Next, asks, refused, ended, IsNextRequest}
use Rattle.http_messages.specs.Asking.{Asking, refuses}
use Rattle.http_messages.specs.Table.{asked_of}
use Rattle.http_api.specs.Words.{most_requests}
use Rattle.http_api.specs.Clocks.{GivesInTurn}
use Rattle.http_api.specs.Replies.{Reply, reply_text, IsReply, AreLeftAfter}
use Rattle.http_api.specs.declared.fault.ServeFault.{ServeFault}
use Rattle.http_api.specs.declared.fault.ServeFault.TheVariants.{Memory, Read, Write}
use Rattle.http_api.specs.declared.serving.Served.{Served}

-- how many requests a connection still takes, what it has still to read, the accepted commands, the
-- moments that the clock gave, and what was written
pub record Connection : Type 0 where
  pub left : ℕ
  pub rest : Bytes
  pub list : List Accepted
  pub moments : List (Option Moment)
  pub written : Bytes

-- a new one takes 1,000 requests
abbrev pub new_connection : Bytes → List Accepted → Connection
new_connection stream list =
    record { left = most_requests; rest = stream; list = list; moments = []; written = [] }

-- it after an answer, which says so where no request is taken after it
abbrev pub after_reply : Connection → Bool → Bytes → List (Option Moment) → Reply → Connection
after_reply old closes rest moments reply = record {
  left = left;
  rest = rest;
  list = reply.after;
  moments = old.moments ++ moments;
  written = old.written ++ reply_text (left == 0) reply;
}
  where
    left : ℕ
    left = if closes then 0 else old.left - 1

-- a request is answered, with one of the statuses of answers
pub record IsRequestAnswered (b : Shelf) (asking : Asking) (closes : Bool) (rest : Bytes)
    (old new : Connection) : Type 0 where
  pub moments : List (Option Moment)
  pub reply : Reply
  pub is_reply : IsReply b old.list asking moments reply
  pub status : IsAnswerStatus reply.status
  pub after : new ≡ after_reply old closes rest moments reply

-- what comes next is answered; after a refusal of the head or of the length nothing more is read
abbrev pub Takes : Shelf → Next → Connection → Connection → Type 0
Takes b (asks ask rest) old new = IsRequestAnswered b (asked_of ask) ask.closes rest old new
Takes b (refused status) old new = IsRequestAnswered b (refuses status) true [] old new
Takes b ended old new = ⊥

-- one turn
-- rule: http-end
pub record IsTurn (b : Shelf) (old new : Connection) : Type 0 where
  pub taken : 0 < old.left
  pub next : Next
  pub is_next : IsNextRequest old.rest next
  pub takes : Takes b next old new

-- so many turns
-- rule: http-end: a connection: what is written and accepted
abbrev pub AreTurns : Shelf → ℕ → Connection → Connection → Type 0
AreTurns b zero first last = last ≡ first
AreTurns b (suc n) first last = (between : Connection) × AreTurns b n first between
    × IsTurn b between last

-- no more requests are taken, or the stream ends before a request does
-- rule: http-end
abbrev pub IsOver : Connection → Type 0
IsOver last = (last.left ≡ 0) ⊎ IsNextRequest last.rest ended

-- ---- over a reader, a writer, a keeper and a clock

-- so many requests of a stream come to these moments, to this text, and to accepted commands of
-- which this is so
pub record AreRequestsTaken (b : Shelf) (stream : Bytes) (count : ℕ)
    (moments : List (Option Moment))
    (text : Bytes) (Is : List Accepted → Type 0) (list : List Accepted) : Type 0 where
  pub last : Connection
  pub turns : AreTurns b count (new_connection stream list) last
  pub given : last.moments ≡ moments
  pub written : last.written ≡ text
  pub is : Is last.list
  pub time : IsInTime last.list

-- a part of a connection: the moments that the clock gave in turn, the text of the answers, what is
-- written of it, and what both are of the stream, over each list of commands that the tables before
-- come from
pub record IsConnectionPart {C : Type 0} (gives : C → Option Moment → C → Type 0) (b : Shelf)
    (before after : C) (old : Tables) (Writes : Bytes → Type 0)
    (Is : List (Option Moment) → Bytes → List Accepted → Type 0) : Type 0 where
  pub moments : List (Option Moment)
  pub given : GivesInTurn gives before moments after
  pub text : Bytes
  pub written : Writes text
  pub is : ForEachList b old (Is moments text)

-- so many requests of a stream were answered whole, it takes more, and nothing is done for the next
-- rule: http-unanswered: an answer's text is made before its command is accepted, and what a
--   connection that runs out of memory leaves
pub record IsNextUnread {C : Type 0} (gives : C → Option Moment → C → Type 0) (b : Shelf)
    (stream : Bytes) (before after : C) (empty full : Option Bytes) (old : Tables)
    (Is : List Accepted → Type 0) : Type 0 where
  pub count : ℕ
  -- rule: http-end
  pub bounded : count < most_requests
  pub taken : IsConnectionPart gives b before after old (Appends empty full) (λ moments text list.
      (taken : AreRequestsTaken b stream count moments text Is list) × (0 < taken.last.left))

-- so many were answered whole, and of the answer to the next one a beginning is written
pub record IsCutOff {C : Type 0} (gives : C → Option Moment → C → Type 0) (b : Shelf)
    (stream : Bytes) (before after : C) (empty full : Option Bytes) (old : Tables)
    (Is : List Accepted → Type 0) : Type 0 where
  pub count : ℕ
  pub bounded : count < most_requests
  pub more : Bytes
  pub begun : ℕ
  pub taken : IsConnectionPart gives b before after old
      (λ text. Appends empty full (text ++ take begun more))
      (λ moments text list.
      (taken : AreRequestsTaken b stream (suc count) moments (text ++ more) Is list)
      × (taken.turns.0.written ≡ text))

-- what comes of a connection, by its end: it is served to its end; or the reader fails, or memory
-- is refused, before the next request; or the writer fails, in an answer. The accepted commands
-- after it are so.
-- rule: http-end, http-unanswered
abbrev pub ComesTo : {C : Type 0} → (C → Option Moment → C → Type 0) → Shelf → Bytes → C → C →
    Option Bytes → Option Bytes → Tables → (List Accepted → Type 0) → Result Served ServeFault →
    Type 0
ComesTo gives b stream before after empty full old Is (Ok done) =
    IsConnectionPart gives b before after old (Appends empty full) (λ moments text list.
    (taken : AreRequestsTaken b stream done.requests moments text Is list) × IsOver taken.last)
ComesTo gives b stream before after empty full old Is (Err Memory) =
    IsNextUnread gives b stream before after empty full old Is
ComesTo gives b stream before after empty full old Is (Err Read) =
    IsNextUnread gives b stream before after empty full old Is
ComesTo gives b stream before after empty full old Is (Err Write) =
    IsCutOff gives b stream before after empty full old Is

-- ---- what a stop leaves

-- at most so many requests of a stream come to these tables
-- rule: http-end
pub record IsLeftByRequests (b : Shelf) (stream : Bytes) (most : ℕ) (held : Tables)
    (list : List Accepted) : Type 0 where
  pub count : ℕ
  pub bounded : count ≤ most
  pub last : Connection
  pub turns : AreTurns b count (new_connection stream list) last
  pub tables : AreTables b last.list held
  pub time : IsInTime last.list

-- ---- a connection

-- What comes of a connection where the reader shows its bytes: its answers, and by them the tables
-- of a keeper that stays clean (`comes`). Of an honest keeper that may not be asked any more these
-- are the tables at the last moment at which it could be asked (`shown`), and a stop leaves each
-- command that was answered, and at most one more (`found`): one of its requests (`held`). At most
-- 1,000 requests are answered, and the accepted commands go on.
-- rule: http-end
pub record ServesConnection {C : Type 0} (gives : C → Option Moment → C → Type 0) (b : Shelf)
    (bytes : Option Bytes) (before after : C) (empty full : Option Bytes) (old new : Seen)
    (result : Result Served ServeFault) : Type 0 where
  -- rule: http-end
  pub comes : new.clean → IfSome bytes (λ stream. ComesTo gives b stream before after empty full
      old.tables (λ list. AreTables b list new.tables) result)
  -- rule: http-end
  pub shown : new.honest → (held : Tables) × IfSome bytes (λ stream.
      ComesTo gives b stream before after empty full
      old.tables (λ list. AreTables b list held) result)
  -- rule: http-end
  pub found : new.honest → old.clean → (left : Tables) → new.left left → IfSome bytes (λ stream.
      ComesTo gives b stream before after empty full old.tables (AreLeftAfter b left) result)
  pub bounded : IfOk result (λ done. done.requests ≤ most_requests)
  pub goes_on : GoesOn b old new
  -- rule: http-end
  pub held : IfSome bytes (λ stream. Leaves old new (λ left.
      old.clean × ForEachList b old.tables (IsLeftByRequests b stream most_requests left)))
