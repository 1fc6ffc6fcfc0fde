-- What a request is answered after a list of accepted commands, and the list after it.
-- Source: profile; the statuses: RFC 9110 section 15.
use Rattle.std.specs.Prelude.{◌≡◌, ◌≤◌, ℕ, Bool, true, false, if◌then◌else◌, List, [], ◌∷◌, length}
use Rattle.std.specs.Prelude.{Option, Some, None, Result, Ok, Err, OnOk, OnErr, ◌⊎◌}
use Rattle.std.specs.Io.KnownBytes.{Appends}
use Rattle.units.specs.Words.{Moment}
use Rattle.texts.specs.StreamWords.{Bytes}
use Rattle.http_messages.specs.Words.{StatusCode}
use Rattle.texts.specs.declared.streams.StreamFault.{StreamFault}
use Rattle.texts.specs.declared.streams.StreamFault.TheVariants.{Write}
use Rattle.commands.specs.declared.answer.Answer.TheVariants.{Refused}
use Rattle.commands.specs.declared.answer.Refusal.TheVariants.{AccountUnknown}
use Rattle.commands.specs.declared.command.Command.{Command}
use Rattle.json_fields.specs.declared.fault.WireFault.{WireFault}
use Rattle.wire.specs.Spelled.{answer_text, fault_text}
use Rattle.shelves.specs.Shelves.{Shelf}
use Rattle.ledger.specs.Balance.{buckets_at}
use Rattle.ledger.specs.Charges.{charge_rows}
use Rattle.ledger.specs.Pricing.{validity_of}
use Rattle.keepers.specs.Seen.{Seen}
use Rattle.keepers.specs.Tables.{Tables}
use Rattle.statements.specs.Texts.{statement_text}
use Rattle.charging.specs.Accepted.{Accepted, IsInTime}
use Rattle.charging.specs.Balances.{by_number}
use Rattle.charging.specs.Continued.{ForEachList, Continues, LeavesOn}
use Rattle.charging.specs.Histories.{History}
use Rattle.charging.specs.Parts.{Leaves}
use Rattle.charging.specs.Runs.{after_command}
use Rattle.charging.specs.Served.{AreTables, history, moment_of, answer_to, with_command}
use Rattle.charging.specs.declared.running.DatedCommand.{DatedCommand}
use Rattle.http_messages.specs.Statuses as status
use Rattle.http_messages.specs.Asking.{Asking, refuses, reads, states}
use Rattle.http_messages.specs.declared.text.Media.{Media}
use Rattle.http_messages.specs.declared.text.Media.TheVariants.{Json, Text}
use Rattle.http_messages.specs.Texts.{response_of, no_members, unable, AppendsBeginning}
use Rattle.http_api.specs.Clocks.{GivesInTurn}

-- an answer's status and body, what the body is, and the accepted commands after it
pub record Reply : Type 0 where
  pub status : StatusCode
  pub media : Media
  pub body : Bytes
  pub after : List Accepted

-- a request that isn't accepted leaves the list
abbrev pub refusal_reply : List Accepted → StatusCode → Bytes → Reply
refusal_reply list code text = record { status = code; media = Json; body = text; after = list }

-- no memory, no store or no clock
abbrev pub unserved : List Accepted → Reply
unserved list = refusal_reply list status.service_unavailable unable

-- the bytes of a reply
abbrev pub reply_text : Bool → Reply → Bytes
reply_text closes reply = response_of reply.media reply.status closes reply.body

-- What is due, by what a request asks. The clock is asked once for a command or a statement, and
-- for nothing else; without its moment neither is served. A statement is a text: all of the
-- account's charges of the month and its buckets by number, by its history, as of the moment; that
-- there is no account is written as an answer is.
-- rule: http-read, http-503
abbrev pub IsDue : Shelf → List Accepted → Asking → List (Option Moment) → Reply → Type 0
IsDue b list (refuses code) moments reply = (moments ≡ [])
    × (reply ≡ refusal_reply list code no_members)
IsDue b list (reads (Err fault)) moments reply = (moments ≡ [])
    × (reply ≡ refusal_reply list status.bad_request (fault_text fault))
IsDue b list (reads (Ok c)) moments reply = (m : Option ℕ) × (moments ≡ m ∷ [])
    × (reply ≡ answered m)
  where
    answered : Option Moment → Reply
    answered None = unserved list
    answered (Some t) = record {
      status = status.ok;
      media = Json;
      body = answer_text (answer_to b list c (moment_of list t));
      after = with_command b list c (moment_of list t);
    }
IsDue b list (states q) moments reply = (m : Option ℕ) × (moments ≡ m ∷ []) × (reply ≡ stated m)
  where
    media : Bool → Media
    media true = Text
    media false = Json

    statement : Moment → History → Reply
    statement t h = record {
      status = status.ok;
      media = media h.opened;
      body = if h.opened
          then statement_text b.first q.account q.month t (charge_rows h.ledger)
          (by_number (buckets_at (validity_of b) t h.ledger))
          else answer_text (Refused AccountUnknown);
      after = list;
    }

    stated : Option Moment → Reply
    stated None = unserved list
    stated (Some t) = statement (moment_of list t) (history b q.account list)

-- What is due; or 503 where memory or the store fails: then the request isn't accepted, and the
-- clock was asked at most once. A refusal takes neither memory nor the store, and is always
-- written.
-- rule: http-read: the answer to one request of a connection
-- rule: http-503: what may be answered 503
abbrev pub IsReply : Shelf → List Accepted → Asking → List (Option Moment) → Reply → Type 0
IsReply b list (refuses code) moments reply = IsDue b list (refuses code) moments reply
IsReply b list (reads read) moments reply = IsDue b list (reads read) moments reply
    ⊎ (may_ask read moments × (reply ≡ unserved list))
  where
    may_ask : Result Command WireFault → List (Option Moment) → Type 0
    may_ask (Err fault) asked = asked ≡ []
    may_ask (Ok c) asked = length asked ≤ 1
IsReply b list (states q) moments reply = IsDue b list (states q) moments reply
    ⊎ ((length moments ≤ 1) × (reply ≡ unserved list))

-- ---- over a keeper

-- the text is that of a reply, and the tables are those of the list after it
pub record IsReplied (b : Shelf) (asking : Asking) (closes : Bool) (moments : List (Option Moment))
    (text : Bytes) (content : Tables) (list : List Accepted) : Type 0 where
  pub reply : Reply
  pub is_reply : IsReply b list asking moments reply
  pub written : text ≡ reply_text closes reply
  pub tables : AreTables b reply.after content
  pub time : IsInTime reply.after

-- what a request leaves: moments that the clock gave, a text that is written, and tables
pub record Replies {C : Type 0} (gives : C → Option Moment → C → Type 0) (b : Shelf)
    (asking : Asking) (closes : Bool) (before after : C) (Writes : Bytes → Type 0)
    (old new : Tables) : Type 0 where
  pub moments : List (Option Moment)
  pub given : GivesInTurn gives before moments after
  pub text : Bytes
  pub written : Writes text
  pub replied : ForEachList b old (IsReplied b asking closes moments text new)

-- tables that a stop may leave after accepted commands: their own, or those with one command more
-- rule: http-end
abbrev pub AreLeftAfter : Shelf → Tables → List Accepted → Type 0
AreLeftAfter b left list = AreTables b list left
    ⊎ ((dated : DatedCommand) × AreTables b (after_command b list dated) left)

-- what becomes of tables that a keeper had at the last moment at which it could be asked: commands
-- come to them, they are its own where it is clean after it, and a stop leaves them, or one command
-- more, where one before left no other
-- rule: http-end
pub record HoldsNext (b : Shelf) (old new : Seen) (held next : Tables) : Type 0 where
  pub now : new.clean → next ≡ new.tables
  pub continued : Continues b held next
  pub left : ((t : Tables) → old.left t → ForEachList b held (AreLeftAfter b t)) →
      (t : Tables) → new.left t → ForEachList b next (AreLeftAfter b t)

-- what is said of tables and of those after them, over a store that may not be asked any more: of
-- the tables at the last moment at which it could be asked
pub record ShowsReply {A : Type 0} (Told : (Bytes → Type 0) → Tables → Tables → Type 0)
    (b : Shelf) (empty full : Option Bytes) (old new : Seen) (held : Tables)
    (result : Result A StreamFault) : Type 0 where
  pub next : Tables
  pub holds : HoldsNext b old new held next
  pub ok : OnOk result (Told (Appends empty full) held next)
  pub err : OnErr result (Told (AppendsBeginning empty full) held next)

-- so it is over an honest keeper, from any tables on that are the keeper's where it is clean
abbrev pub ShowsHonestReply : {A : Type 0} → ((Bytes → Type 0) → Tables → Tables → Type 0) → Shelf →
    Option Bytes → Option Bytes → Seen → Seen → Result A StreamFault → Type 0
ShowsHonestReply Told b empty full old new result =
    new.honest → (held : Tables) → (old.clean → held ≡ old.tables) →
    ShowsReply Told b empty full old new held result

-- tables are those after a reply to the request
pub record IsReplyHeld (b : Shelf) (asking : Asking) (held : Tables) (list : List Accepted) : Type 0
  where
    pub moments : List (Option Moment)
    pub reply : Reply
    pub is_reply : IsReply b list asking moments reply
    pub tables : AreTables b reply.after held
    pub time : IsInTime reply.after

-- a stop leaves what it left before, or, of a keeper that was clean before, tables after a reply
abbrev pub LeavesReply : Shelf → Asking → Seen → Seen → Type 0
LeavesReply b asking old new =
    Leaves old new (λ t. old.clean × ForEachList b old.tables (IsReplyHeld b asking t))

-- what answering a request leaves, whatever it asks: the writer alone fails, and the accepted
-- commands go on
-- rule: http-unanswered
pub record GoesOnAfterReply {A : Type 0} (b : Shelf) (old new : Seen)
    (result : Result A StreamFault) : Type 0 where
  pub fault : OnErr result (result ≡ Err Write)
  pub continued : new.clean → Continues b old.tables new.tables
  pub cleanness : new.clean → old.clean
  pub honesty : new.honest → old.honest
  pub left : LeavesOn b old new
  pub failures : old.failed ≤ new.failed
