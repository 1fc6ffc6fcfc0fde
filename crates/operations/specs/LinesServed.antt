-- What the lines of a stream come to: the commands that they hand in, and the text that each line
-- is answered.
-- Source: profile.
use Rattle.std.specs.Prelude.{ℕ, List, [], ◌∷◌, ◌++◌, codes, length, map, take, drop, Option, Some}
use Rattle.std.specs.Prelude.{None, IfNone, IfSome, Result, Ok, Err, ◌≡◌, ◌<◌, ◌+◌}
use Rattle.std.specs.Prelude.{OnOk, OnErr}
use Rattle.std.specs.Io.KnownBytes.{Appends}
use Rattle.units.specs.Words.{Micros}
use Rattle.identifiers.specs.Words.{AccountName}
use Rattle.texts.specs.StreamWords.{Bytes}
use Rattle.texts.specs.Lines.{lines_of}
use Rattle.texts.specs.declared.streams.StreamFault.{StreamFault}
use Rattle.commands.specs.declared.answer.Answer.{Answer}
use Rattle.commands.specs.declared.command.Command.{Command}
use Rattle.commands.specs.declared.command.Command.TheVariants.{Ccr, OpenAccount, Credit}
use Rattle.json_fields.specs.declared.fault.WireFault.{WireFault}
use Rattle.wire.specs.Spelled.{answer_text, fault_text}
use Rattle.shelves.specs.Shelves.{Shelf}
use Rattle.keepers.specs.Seen.{Seen}
use Rattle.keepers.specs.Tables.{Tables}
use Rattle.keepers.specs.declared.fault.StoreFault.{StoreFault}
use Rattle.charging.specs.Accepted.{Accepted, IsInTime}
use Rattle.charging.specs.Continued.{ForEachList, Continues}
use Rattle.charging.specs.Promise.{Carries}
use Rattle.charging.specs.declared.running.DatedCommand.{DatedCommand}
use Rattle.charging.specs.Served.{AreTables}
use Rattle.charging.specs.Runs.{answers_to, after_commands}
use Rattle.operations.specs.Lines.{line_request}
use Rattle.operations.specs.declared.lines_fault.LinesFault.{LinesFault}
use Rattle.operations.specs.declared.lines_fault.LinesFault.TheVariants.{Both, Read, Store, Write}
use Rattle.operations.specs.Written.{WritesBeginning}

-- ---- commands

-- the lines that are read as requests
abbrev pub requests_of : List (Result DatedCommand WireFault) → List DatedCommand
requests_of [] = []
requests_of (Ok d ∷ lines) = d ∷ requests_of lines
requests_of (Err fault ∷ lines) = requests_of lines

-- the requests of a stream
abbrev pub requests_in : Bytes → List DatedCommand
requests_in stream = requests_of (map line_request (lines_of stream))

-- an account is opened with one bucket, from the beginning and without end
abbrev pub opened_with : Micros → AccountName → List DatedCommand
opened_with amount account =
    record { moment = 0; command = OpenAccount account }
    ∷ record {
      moment = 0;
      command = Credit (record {
        account = account;
        amount = amount;
        from = None;
        until = None;
        scope = None;
        reference = codes "once";
      });
    }
    ∷ []

-- the account that a request names
abbrev pub opened_before : Micros → Command → List DatedCommand
opened_before amount (Ccr r) = opened_with amount r.account
opened_before amount command = []

-- what opens the account of the first request, where an amount for it is handed in
abbrev pub opening_for : Option Micros → List DatedCommand → List DatedCommand
opening_for None requests = []
opening_for (Some amount) [] = []
opening_for (Some amount) (d ∷ ds) = opened_before amount d.command

abbrev pub opening_in : Option Micros → Bytes → List DatedCommand
opening_in amount stream = opening_for amount (requests_in stream)

-- the commands of a stream: its requests, behind what opens the first one's account
abbrev pub commands_of : Option Micros → Bytes → List DatedCommand
commands_of amount stream = opening_in amount stream ++ requests_in stream

-- ---- texts

abbrev pub fault_of : Result DatedCommand WireFault → Option WireFault
fault_of (Ok d) = None
fault_of (Err fault) = Some fault

-- the fault of each line of a stream
abbrev pub faults_in : Bytes → List (Option WireFault)
faults_in stream = map fault_of (map line_request (lines_of stream))

-- each line is answered its fault, or the next answer, with a line feed after it, up to a request
-- that has no answer
abbrev pub answer_texts : List (Option WireFault) → List Answer → Bytes
answer_texts [] answers = []
answer_texts (Some fault ∷ lines) answers = fault_text fault ++ 10 ∷ answer_texts lines answers
answer_texts (None ∷ lines) [] = []
answer_texts (None ∷ lines) (a ∷ answers) = answer_text a ++ 10 ∷ answer_texts lines answers

-- the text of a stream with these answers to its commands: those of the opening aren't written
abbrev pub told_text : Option Micros → Bytes → List Answer → Bytes
told_text amount stream answers =
    answer_texts (faults_in stream) (drop (length (opening_in amount stream)) answers)

-- the text of a stream, after a list of accepted commands
-- rule: request-lines: what the program writes of lines
abbrev pub lines_text : Shelf → List Accepted → Option Micros → Bytes → Bytes
lines_text b list amount stream =
    told_text amount stream (answers_to b list (commands_of amount stream))

-- as far as so many commands are answered
abbrev pub lines_text_to : ℕ → Shelf → List Accepted → Option Micros → Bytes → Bytes
lines_text_to count b list amount stream =
    told_text amount stream (answers_to b list (take count (commands_of amount stream)))

-- ---- a run

-- all is written, and the tables are those of all commands
-- rule: request-lines
pub record AreLinesAnswered (b : Shelf) (opening : Option Micros) (stream : Bytes)
    (old new : Option Bytes) (content : Tables) (list : List Accepted) : Type 0 where
  pub written : Appends old new (lines_text b list opening stream)
  pub tables : AreTables b (after_commands b list (commands_of opening stream)) content

-- the tables are those of all commands, and a beginning of the text is written
pub record AreLinesUntold (b : Shelf) (opening : Option Micros) (stream : Bytes)
    (old new : Option Bytes) (content : Tables) (list : List Accepted) : Type 0 where
  pub tables : AreTables b (after_commands b list (commands_of opening stream)) content
  pub written : WritesBeginning old new (lines_text b list opening stream)

-- the tables are those of fewer commands than there are, and what is written is of the text as far
-- as these are answered
pub record AreLinesStopped (b : Shelf) (opening : Option Micros) (stream : Bytes)
    (Writes : Bytes → Type 0) (content : Tables) (list : List Accepted) : Type 0 where
  pub count : ℕ
  pub few : count < length (commands_of opening stream)
  pub tables : AreTables b (after_commands b list (take count (commands_of opening stream))) content
  pub written : Writes (lines_text_to count b list opening stream)

-- the same, where all commands may have been run
-- rule: request-lines
pub record AreLinesBegun (b : Shelf) (opening : Option Micros) (stream : Bytes)
    (old new : Option Bytes)
    (content : Tables) (list : List Accepted) : Type 0 where
  pub count : ℕ
  pub tables : AreTables b (after_commands b list (take count (commands_of opening stream))) content
  pub written : WritesBeginning old new (lines_text_to count b list opening stream)

-- ---- what opens an account, and then requests

-- so many of the commands are run, all where there is no fault, and fewer where there is one; the
-- answers are those to the requests among them
pub record IsRunOpened {F : Type 0} (b : Shelf) (opening requests : List DatedCommand)
    (content : Tables) (given : List Answer) (fault : Option F)
    (list : List Accepted) : Type 0 where
  pub count : ℕ
  pub tables : AreTables b (after_commands b list (take count (opening ++ requests))) content
  pub time : IsInTime (after_commands b list (take count (opening ++ requests)))
  pub answers : given ≡ drop (length opening) (answers_to b list (take count (opening ++ requests)))
  pub whole : IfNone fault (take count (opening ++ requests) ≡ opening ++ requests)
  pub few : IfSome fault (λ _. count < length (opening ++ requests))

-- ---- over a keeper, a reader and a writer

-- the keeper's fault that answering lines ended with, where it is one
abbrev pub lines_store_fault : {A : Type 0} → Result A LinesFault → Option StoreFault
lines_store_fault (Ok answered) = None
lines_store_fault (Err (Read fault)) = None
lines_store_fault (Err (Store fault)) = Some fault
lines_store_fault (Err (Both fault)) = Some fault
lines_store_fault (Err (Write fault)) = None

-- what answering lines leaves of a keeper that stays clean, where the reader shows its bytes: all
-- are answered, or a beginning of them, and the faults of the keeper and of the writer say which
-- rule: request-lines
pub record AnswersLines {A : Type 0} (b : Shelf) (opening : Option Micros)
    (bytes empty full : Option Bytes) (old new : Seen) (result : Result A LinesFault) : Type 0 where
  -- rule: request-lines
  pub answered : new.clean → OnOk result (IfSome bytes (λ stream. ForEachList b old.tables
      (AreLinesAnswered b opening stream empty full new.tables)))
  -- rule: request-lines
  pub begun : new.clean → OnErr result (IfSome bytes (λ stream. ForEachList b old.tables
      (AreLinesBegun b opening stream empty full new.tables)))
  -- rule: request-lines
  pub stopped : (fault : StoreFault) → result ≡ Err (Store fault) → new.clean →
      IfSome bytes (λ stream. ForEachList b old.tables
      (AreLinesStopped b opening stream (Appends empty full) new.tables))
  pub both : (fault : StoreFault) → result ≡ Err (Both fault) → new.clean →
      IfSome bytes (λ stream. ForEachList b old.tables
      (AreLinesStopped b opening stream (WritesBeginning empty full) new.tables))
  pub untold : (fault : StreamFault) → result ≡ Err (Write fault) → new.clean →
      IfSome bytes (λ stream. ForEachList b old.tables
      (AreLinesUntold b opening stream empty full new.tables))
  -- rule: request-lines
  pub continued : new.clean → Continues b old.tables new.tables
  -- rule: request-lines
  pub keeper : Carries old new (lines_store_fault result)

-- ---- whatever a keeper holds

-- each line of a stream is answered its fault or an answer, and none is left out
-- rule: request-lines
pub record TellsLines (old new : Option Bytes) (stream : Bytes) : Type 0 where
  pub answers : List Answer
  pub all : length answers ≡ length (requests_in stream)
  pub written : Appends old new (answer_texts (faults_in stream) answers)

-- or a beginning of that is written
pub record BeginsLines (old new : Option Bytes) (stream : Bytes) : Type 0 where
  pub answers : List Answer
  pub written : WritesBeginning old new (answer_texts (faults_in stream) answers)
