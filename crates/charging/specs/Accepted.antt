-- What each command is about: a new command has its line here, and its outcomes on an account that
-- is there and on one that isn't (`outcome` of `Outcomes`). And accepted commands, the newest first:
-- the history that they leave of each account, what they leave under the codes of vouchers, and the
-- tables that hold it.
-- Source: profile.
use Rattle.std.specs.Prelude.{◌≡◌, ℕ, ◌+◌, ◌≤◌, Bool, true, false, if◌then◌else◌, List, [], ◌∷◌}
use Rattle.std.specs.Prelude.{Option, Some, None, not}
use Rattle.units.specs.Words.{Moment}
use Rattle.identifiers.specs.Words.{AccountName, VoucherCode}
use Rattle.ledger.specs.Words.{ChargeNumber}
use Rattle.identifiers.specs.Texts.{same_name}
use Rattle.commands.specs.declared.command.Command.{Command}
use Rattle.commands.specs.declared.command.Command.TheVariants as command
use Rattle.commands.specs.declared.answer.Answer.{Answer}
use Rattle.commands.specs.declared.key.Key.{Key}
use Rattle.voucher_rules.specs.declared.voucher.Voucher.{Voucher}
use Rattle.voucher_rules.specs.Adding.{addition, after_addition}
use Rattle.voucher_rules.specs.Redeeming.{DayEnds, redemption, after_redemption}
use Rattle.shelves.specs.Shelves.{Shelf}
use Rattle.ledger.specs.Charges.{charge_rows}
use Rattle.keepers.specs.Tables.{Head, Rows, Tables, no_rows, charge_in}
use Rattle.keepers.specs.Change.{AreRowsAt}
use Rattle.charging.specs.Histories.{History, no_history, kept_under}
use Rattle.commands.specs.declared.request.Request.{Request}
use Rattle.decisions.specs.Decisions.{is_read}
use Rattle.voucher_rules.specs.declared.terms.VoucherTerms.{VoucherTerms}

-- which accounts a command concerns: one of this number, each, or none
pub data Concerned : Type 0 where
  one : AccountName → Concerned
  each : Concerned
  none : Concerned

-- what a command does under a code: it adds a voucher of these terms, or redeems the one that is
-- there for this account; or it names no code
pub data CodeUse : Type 0 where
  adds_code : VoucherCode → VoucherTerms → CodeUse
  redeems_code : VoucherCode → AccountName → CodeUse
  no_code : CodeUse

pub record About : Type 0 where
  pub account : Concerned
  pub code : CodeUse
  -- it makes an account
  pub opens : Bool
  -- it has a key, its number, its reference or its code, under which it may be repeated; a check or
  -- an enquiry has none: it is answered anew each time
  pub keyed : Bool
  -- the request of a session
  pub request : Option Request

-- a command that concerns these accounts, with nothing else to say of it
abbrev pub concerning : Concerned → About
concerning who = record {
  account = who;
  code = no_code;
  opens = false;
  keyed = false;
  request = None;
}

abbrev pub about : Command → About
about (command.Ccr r) = record (concerning (one r.account)) {
  -- its number is its key, unless it reads
  keyed = not (is_read r.ask);
  request = Some r;
}
about (command.OpenAccount n) = record (concerning (one n)) { opens = true }
about (command.Credit c) = record (concerning (one c.account)) { keyed = true }
about (command.Allow a) = record (concerning (one a.account)) { keyed = true }
about (command.Bar n) = concerning (one n)
about (command.Unbar n) = concerning (one n)
about (command.AddVoucher v) = record (concerning none) {
  code = adds_code v.code v.terms;
  keyed = true;
}
about (command.Redeem r) = record (concerning (one r.account)) {
  code = redeems_code r.code r.account;
  keyed = true;
}
about command.Sweep = concerning each
about (command.Balance n) = concerning (one n)

-- ---- accepted commands

-- a command with its moment
pub record Accepted : Type 0 where
  pub moment : Moment
  pub command : Command

-- what a command is answered on an account's history, whether it is accepted, and the history after
-- it
pub record CommandOutcome : Type 0 where
  pub answer : Answer
  pub accepted : Bool
  pub after : History

abbrev pub concerned_by : Command → Concerned
concerned_by c = (about c).account

-- a command names an account where it concerns that one alone
abbrev pub names : AccountName → Concerned → Bool
names a (one b) = same_name b a
names a each = false
names a none = false

-- a command brings an account to its moment where it concerns that one or each
abbrev pub reaches : AccountName → Concerned → Bool
reaches a (one b) = same_name b a
reaches a each = true
reaches a none = false

-- the moment of the last accepted command
abbrev pub last_moment : List Accepted → Moment
last_moment [] = 0
last_moment (d ∷ before) = d.moment

-- the moment of the last accepted command that names the account or is a sweep
abbrev pub as_of : AccountName → List Accepted → Moment
as_of a [] = 0
as_of a (d ∷ before) = if reaches a (concerned_by d.command) then d.moment else as_of a before

-- how many accounts there are
abbrev pub account_count : List Accepted → ℕ
account_count [] = 0
account_count (d ∷ before) = if (about d.command).opens then account_count before + 1
    else account_count before

-- moments don't fall
-- rule: runs
abbrev pub IsInTime : List Accepted → Type 0
IsInTime [] = Unit {0}
IsInTime (d ∷ before) = (last_moment before ≤ d.moment) × IsInTime before

-- ---- vouchers

-- what is under a code after accepted commands: each that names it adds or redeems its voucher
-- rule: voucher-add.addition-outcome
abbrev pub voucher_under : DayEnds → VoucherCode → List Accepted → Option Voucher
voucher_under ends code [] = None
voucher_under ends code (d ∷ before) =
    if is_under (about d.command).code
    then used (voucher_under ends code before) (about d.command).code
    else voucher_under ends code before
  where
    is_under : CodeUse → Bool
    is_under (adds_code added terms) = same_name added code
    is_under (redeems_code redeemed account) = same_name redeemed code
    is_under no_code = false

    used : Option Voucher → CodeUse → Option Voucher
    used found (adds_code added terms) = after_addition (addition found terms) found
    used found (redeems_code redeemed account) =
        after_redemption (redemption ends found account d.moment) found
    used found no_code = found

-- what is under the code that a command names; nothing where it names none
abbrev pub standing_for : DayEnds → Command → List Accepted → Option Voucher
standing_for ends c list = standing ends (about c).code list
  where
    standing : DayEnds → CodeUse → List Accepted → Option Voucher
    standing ends (adds_code code terms) list = voucher_under ends code list
    standing ends (redeems_code code account) list = voucher_under ends code list
    standing ends no_code list = None

-- ---- one account alone

-- the rows of an account that is there, or none
abbrev pub IsRowOf : Option Head → Shelf → Moment → History → Rows → Type 0
IsRowOf None shelf t history r = (history.opened ≡ false) × (r ≡ no_rows)
IsRowOf (Some head) shelf t history r = (history.opened ≡ true) × AreRowsAt shelf history.ledger t r

-- an account's rows are those of its history at a moment
abbrev pub IsRow : Shelf → Moment → History → Rows → Type 0
IsRow shelf t history r = IsRowOf r.head shelf t history r

-- by where days end, and what commands come to over what is under their codes and on an
-- account's history
module _ (ends : DayEnds) (outcome : Option Voucher → History → Command → Moment →
    CommandOutcome) where
  -- the account's history
  abbrev pub history_of : AccountName → List Accepted → History
  history_of a [] = no_history
  history_of a (d ∷ before) =
      if names a (concerned_by d.command)
      then (outcome (standing_for ends d.command before) (history_of a before) d.command
      d.moment).after
      else history_of a before

  -- ---- tables

  -- the tables of the accepted commands
  -- rule: runs: a keeper holds the tables of a list of commands
  pub record AreTablesOf (shelf : Shelf) (list : List Accepted) (tables : Tables) : Type 0 where
    pub last : tables.last ≡ last_moment list
    pub accounts : (a : AccountName) →
        IsRow shelf (as_of a list) (history_of a list) (tables.rows a)
    pub answers : (a : AccountName) (k : Key) →
        tables.answers a k ≡ kept_under k (history_of a list)
    pub charges : (a : AccountName) (n : ChargeNumber) →
        tables.charges a n ≡ charge_in n (charge_rows (history_of a list).ledger)
    pub vouchers : (code : VoucherCode) → tables.vouchers code ≡ voucher_under ends code list
    pub count : tables.count ≡ account_count list
