-- A tariff book that is added to the shelf later changes nothing of any history before it: a run
-- before it and one after it are one run over the shelf after it.
-- Source: profile; prices are those of the rating function (TS 32.296).
use Rattle.std.specs.Prelude.{◌≡◌, ◌↔◌, ◌<◌, List, [], ◌∷◌, ◌++◌, Some, None, take, length}
use Rattle.units.specs.Words.{Moment}
use Rattle.identifiers.specs.Words.{AccountName, VoucherCode}
use Rattle.commands.specs.declared.answer.Answer.{Answer}
use Rattle.commands.specs.declared.command.Command.{Command}
use Rattle.tariffs.specs.Books.{Book}
use Rattle.shelves.specs.Shelves.{Shelf, IsShelf, with_book}
use Rattle.shelves.specs.Succession.{shelf_fault}
use Rattle.shelves.specs.Laws.{GoesOnFrom}
use Rattle.keepers.specs.Tables.{Head, Tables}
use Rattle.charging.specs.Accepted.{Accepted, last_moment, IsInTime}
use Rattle.charging.specs.Served.{AreTables, history, voucher, answer_to, accepts}
use Rattle.charging.specs.declared.running.DatedCommand.{DatedCommand}
use Rattle.charging.specs.Runs.{IsRun, Runs, after_commands}
use Rattle.charging.specs.Paid.{reports_of}
use Rattle.charging.specs.Headline.{IsAccounted}

-- ---- the books of a shelf go on

-- one shelf finds what the other one finds of moments before some moment after this one, and by the
-- other's numbers
-- rule: later-books.goes-on-after: a book that is added later changes no history before it
pub record GoesOnAfter (last : Moment) (s u : Shelf) : Type 0 where
  pub from : Moment
  pub later : last < from
  pub goes_on : GoesOnFrom from s u

-- a book was added to a shelf, where the last accepted command had this moment: there was no fault
-- of `TariffShelf::add`
-- rule: later-books.goes-on-after
pub record IsAddition (last : Moment) (s u : Shelf) : Type 0 where
  pub from : Moment
  pub book : Book
  pub allowed : shelf_fault s from book last ≡ None
  pub added : u ≡ with_book s from book

-- ---- what was before

-- accepted commands have left the same over both shelves: each account's history and reports, what
-- is under each code, and the tables; and a command of a moment before the new books begin is
-- answered alike
-- rule: later-books.leave-the-same: a later book changes no price, settlement or grant before it
-- rule: later-books.goes-on-after
pub record LeaveTheSame (from : Moment) (s u : Shelf) (list : List Accepted) : Type 0 where
  pub histories : (a : AccountName) → history s a list ≡ history u a list
  pub reports : (a : AccountName) → reports_of s a list ≡ reports_of u a list
  pub vouchers : (code : VoucherCode) → voucher s code list ≡ voucher u code list
  pub tables : (tables : Tables) → AreTables s list tables ↔ AreTables u list tables
  pub answers : (c : Command) (t : Moment) → t < from → answer_to s list c t ≡ answer_to u list c t
  pub acceptance : (c : Command) (t : Moment) → t < from → accepts s list c t ≡ accepts u list c t

-- so where the books of the second shelf that the first doesn't have begin after these commands
abbrev pub ChangeNothingBefore : Shelf → Shelf → List Accepted → Type 0
ChangeNothingBefore s u list = IsInTime list → (on : GoesOnAfter (last_moment list) s u) →
    LeaveTheSame on.from s u list

-- ---- two runs

-- commands that were answered over a shelf, up to a store fault or all, and what a keeper held
-- before and after
pub record AnsweredRun : Type 0 where
  pub shelf : Shelf
  pub commands : List DatedCommand
  pub old : Tables
  pub new : Tables
  pub given : List Answer

-- those of the commands that were answered
abbrev pub answered_of : AnsweredRun → List DatedCommand
answered_of x = take (length x.given) x.commands

-- commands are handed in before a moment
abbrev pub AreBefore : Moment → List DatedCommand → Type 0
AreBefore from [] = Unit {0}
AreBefore from (d ∷ ds) = (d.moment < from) × AreBefore from ds

-- from a list of accepted commands on there was one run; then the shelf got books that all begin
-- after the commands of this run, and there was another run over what the first one left
-- rule: joined-runs: a run before an addition and one after it are one
pub record AreInTurn (list : List Accepted) (x y : AnsweredRun) : Type 0 where
  pub time : IsInTime list
  pub tables : AreTables x.shelf list x.old
  pub first : IsRun x.shelf list x.commands x.new x.given
  pub shelf : IsShelf y.shelf
  pub books : GoesOnAfter x.new.last x.shelf y.shelf
  pub before : AreBefore books.from (answered_of x)
  pub second : Runs y.shelf y.commands x.new y.new y.given

-- both as one over the second one's shelf
-- rule: joined-runs
abbrev pub joined_run : AnsweredRun → AnsweredRun → AnsweredRun
joined_run x y = record {
  shelf = y.shelf;
  commands = answered_of x ++ y.commands;
  old = x.old;
  new = y.new;
  given = x.given ++ y.given;
}

-- a run from a list of accepted commands on, and each account is accounted for after it
-- rule: joined-runs
pub record IsAccountedRun (list : List Accepted) (x : AnsweredRun) : Type 0 where
  pub tables : AreTables x.shelf list x.old
  pub run : IsRun x.shelf list x.commands x.new x.given
  pub accounted : (a : AccountName) (head : Head) → (x.new.rows a).head ≡ Some head →
      IsAccounted x.shelf (reports_of x.shelf a (after_commands x.shelf list (answered_of x)))
      (history x.shelf a (after_commands x.shelf list (answered_of x))).ledger head.as_of
      (x.new.rows a) (x.new.charges a)

-- so the two runs are one
abbrev pub AreOneRun : List Accepted → AnsweredRun → AnsweredRun → Type 0
AreOneRun list x y = AreInTurn list x y → IsAccountedRun list (joined_run x y)

-- ---- the law

-- an addition lets the shelf go on
abbrev pub AdditionsGoOn : Type 0
AdditionsGoOn = (last : Moment) (s u : Shelf) → IsAddition last s u → GoesOnAfter last s u

-- it changes nothing before it
abbrev pub AdditionsChangeNothing : Type 0
AdditionsChangeNothing = (s u : Shelf) (list : List Accepted) → ChangeNothingBefore s u list

-- a run before it and one after it are one
abbrev pub RunsAreOne : Type 0
RunsAreOne = (list : List Accepted) (x y : AnsweredRun) → AreOneRun list x y
