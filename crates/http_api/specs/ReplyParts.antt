-- The parts of what a request is answered, each by itself, as code and lemmas speak of them. The
-- definitions of `Replies` and `Connections` compute to these.
-- Source: profile.
use Rattle.std.specs.Prelude.{◌≡◌, ◌≤◌, ◌-◌, ℕ, Bool, true, false, if◌then◌else◌, List, [], length}
use Rattle.std.specs.Prelude.{Option, Some, None, Ok, Err}
use Rattle.units.specs.Words.{Moment}
use Rattle.texts.specs.StreamWords.{Bytes}
use Rattle.commands.specs.declared.answer.Answer.TheVariants.{Refused}
use Rattle.commands.specs.declared.answer.Refusal.TheVariants.{AccountUnknown}
use Rattle.commands.specs.declared.command.Command.{Command}
use Rattle.wire.specs.Spelled.{answer_text}
use Rattle.shelves.specs.Shelves.{Shelf}
use Rattle.ledger.specs.Balance.{buckets_at}
use Rattle.ledger.specs.Charges.{charge_rows}
use Rattle.ledger.specs.Pricing.{validity_of}
use Rattle.statements.specs.Texts.{statement_text}
use Rattle.charging.specs.Accepted.{Accepted}
use Rattle.charging.specs.Balances.{by_number}
use Rattle.charging.specs.Histories.{History}
use Rattle.charging.specs.Served.{history, moment_of, answer_to, with_command}
use Rattle.http_messages.specs.Statuses as status
use Rattle.http_messages.specs.Asking.{Asking, refuses, reads, states}
use Rattle.http_messages.specs.declared.asking.StatementAsked.{StatementAsked}
use Rattle.http_messages.specs.declared.text.Media.{Media}
use Rattle.http_messages.specs.declared.text.Media.TheVariants.{Json, Text}
use Rattle.http_api.specs.Replies.{Reply, unserved}

-- ---- what is due (`Replies`)

-- a command at the clock's moment; without one it isn't served
abbrev pub reply_at : Shelf → List Accepted → Command → Option Moment → Reply
reply_at b list c None = unserved list
reply_at b list c (Some t) = record {
  status = status.ok;
  media = Json;
  body = answer_text (answer_to b list c (moment_of list t));
  after = with_command b list c (moment_of list t);
}

-- a statement is a text; that there is no account is written as an answer is
abbrev pub statement_media : Bool → Media
statement_media true = Text
statement_media false = Json

-- an account's statement by its history, as of a moment: all of its charges of the month, and its
-- buckets by number
abbrev pub statement_body : Shelf → StatementAsked → Moment → History → Bytes
statement_body b q t h = if h.opened
    then statement_text b.first q.account q.month t (charge_rows h.ledger)
    (by_number (buckets_at (validity_of b) t h.ledger))
    else answer_text (Refused AccountUnknown)

abbrev pub statement_reply : Shelf → List Accepted → StatementAsked → Moment → History → Reply
statement_reply b list q t h = record {
  status = status.ok;
  media = statement_media h.opened;
  body = statement_body b q t h;
  after = list;
}

-- a statement at the clock's moment
abbrev pub statement_at : Shelf → List Accepted → StatementAsked → Option Moment → Reply
statement_at b list q None = unserved list
statement_at b list q (Some t) =
    statement_reply b list q (moment_of list t) (history b q.account list)

-- how often the clock may be asked before memory or the store fails; a refusal takes neither
abbrev pub MayAsk : Asking → List (Option Moment) → Type 0
MayAsk (refuses code) moments = ⊥
MayAsk (reads (Err fault)) moments = moments ≡ []
MayAsk (reads (Ok c)) moments = length moments ≤ 1
MayAsk (states q) moments = length moments ≤ 1

-- ---- after a request (`Connections`)

-- how many a connection takes after a request: none where that ends it
abbrev pub requests_left_after : Bool → ℕ → ℕ
requests_left_after closes left = if closes then 0 else left - 1
