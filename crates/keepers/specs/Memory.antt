-- What the keeper in memory holds.
-- Source: profile.
use Rattle.std.specs.Prelude.{◌≡◌, ◌≤◌, ◌+◌, ◌++◌, ℕ, Bool, List, [], ◌∷◌, length, Option, Some}
use Rattle.std.specs.Prelude.{None, is_some, option_map, box_value, position, if◌then◌else◌}
use Rattle.std.specs.Global.{Box}
use Rattle.std.specs.List.{find}
use Rattle.std.specs.HashMap.{HashMap, get}
use Rattle.std.specs.declared.hash.FoldHasher.{FoldHasher}
use Rattle.std.specs.declared.hash.BuildHasherDefault.{BuildHasherDefault}
use Rattle.units.specs.Words.{Moment}
use Rattle.identifiers.specs.Words.{SessionName, AccountName}
use Rattle.identifiers.specs.Texts.{same_name}
use Rattle.shelves.specs.Shelves.{Shelf}
use Rattle.ledger.specs.declared.charge.ChargeRow.{ChargeRow}
use Rattle.reserving.specs.declared.session.Session.{Session}
use Rattle.voucher_rules.specs.declared.voucher.Voucher.{Voucher}
use Rattle.commands.specs.declared.key.Key.{Key}
use Rattle.commands.specs.Keys.{same_key}
use Rattle.keepers.specs.declared.kept_answer.KeptAnswer.{KeptAnswer}
use Rattle.keepers.specs.declared.entries.AccountEntry.{AccountEntry}
use Rattle.keepers.specs.Tables.{Rows, Tables, no_rows, charge_in}
use Rattle.keepers.specs.Parts.{rows_of_parts}
use Rattle.keepers.specs.Change.{AreRowsAt, AreBroughtTo, kept_after, over}
use Rattle.ledger.specs.Ledger.{Ledger}
use Rattle.reserving.specs.Stored.{StoredRows}

-- whether it is the account of this number
abbrev pub is_entry : AccountName → AccountEntry → Bool
is_entry a e = same_name e.number a

abbrev pub entry_in : AccountName → List AccountEntry → Option AccountEntry
entry_in a entries = find (is_entry a) entries

abbrev pub rows_of_entry : Option AccountEntry → Rows
rows_of_entry None = no_rows
rows_of_entry (Some e) = rows_of_parts e.rows

abbrev pub session_of_entry : SessionName → Option AccountEntry → Option Session
session_of_entry s o = (rows_of_entry o).sessions s

-- answers under their keys
abbrev pub Answers : Type 0
Answers = HashMap Key (Box KeptAnswer) (BuildHasherDefault FoldHasher)

abbrev pub answer_in : Key → Answers → Option KeptAnswer
answer_in k answers = option_map box_value (get same_key answers k)

abbrev pub answer_of_entry : Key → Option AccountEntry → Option KeptAnswer
answer_of_entry k None = None
answer_of_entry k (Some e) = answer_in k e.answers

abbrev pub charges_of_entry : Option AccountEntry → List ChargeRow
charges_of_entry None = []
charges_of_entry (Some e) = e.charges.items

-- ---- where each account is

abbrev pub Places : Type 0
Places = HashMap (List ℕ) ℕ (BuildHasherDefault FoldHasher)

-- each number is found at the place of its account
abbrev pub ArePlaced : Places → List AccountEntry → Type 0
ArePlaced places entries = (a : AccountName) →
    get same_name places a ≡ position (is_entry a) entries

-- ---- an account that is written

-- each account, once rows are put over those of one, with its further charges and an answer
pub record ArePut (number : AccountName) (named : StoredRows) (more : List ChargeRow)
    (kept : Option KeptAnswer) (old new : List AccountEntry) : Type 0 where
  pub rows : (a : AccountName) → rows_of_entry (entry_in a new) ≡
      (if same_name number a then over named (rows_of_entry (entry_in a old))
      else rows_of_entry (entry_in a old))
  pub answers : (a : AccountName) (k : Key) → answer_of_entry k (entry_in a new) ≡
      (if same_name number a then kept_after kept k (answer_of_entry k (entry_in a old))
      else answer_of_entry k (entry_in a old))
  pub charges : (a : AccountName) → charges_of_entry (entry_in a new) ≡
      (if same_name number a then charges_of_entry (entry_in a old) ++ more
      else charges_of_entry (entry_in a old))
  pub count : length new ≡ (if is_some (entry_in number old) then length old else length old + 1)

-- nothing is written
pub record AreUnchanged (old new : List AccountEntry) : Type 0 where
  pub rows : (a : AccountName) → rows_of_entry (entry_in a new) ≡ rows_of_entry (entry_in a old)
  pub answers : (a : AccountName) (k : Key) →
      answer_of_entry k (entry_in a new) ≡ answer_of_entry k (entry_in a old)
  pub charges : (a : AccountName) →
      charges_of_entry (entry_in a new) ≡ charges_of_entry (entry_in a old)
  pub count : length new ≡ length old

-- ---- a sweep

-- an account as a sweep leaves it
pub record IsSweptEntry (shelf : Shelf) (t : Moment) (old new : AccountEntry) : Type 0 where
  pub number : new.number ≡ old.number
  pub rows : (ledger : Ledger) (u : Moment) → u ≤ t → AreRowsAt shelf ledger u
      (rows_of_parts old.rows) →
      AreRowsAt shelf ledger t (rows_of_parts new.rows)
  pub listed : AreBroughtTo shelf t (rows_of_parts old.rows) (rows_of_parts new.rows)
  pub charges : new.charges ≡ old.charges
  pub answers : new.answers ≡ old.answers

abbrev pub AreSwept : Shelf → Moment → List AccountEntry → List AccountEntry → Type 0
AreSwept shelf t [] [] = Unit {0}
AreSwept shelf t (x ∷ xs) (y ∷ ys) = IsSweptEntry shelf t x y × AreSwept shelf t xs ys
AreSwept shelf t xs ys = ⊥

-- vouchers under their codes
abbrev pub VoucherMap : Type 0
VoucherMap = HashMap (List ℕ) Voucher (BuildHasherDefault FoldHasher)

-- rule: database-reads: a keeper in memory finds what it holds
abbrev pub memory_tables : Moment → List AccountEntry → VoucherMap → Tables
memory_tables last entries vouchers = record {
  last = last;
  rows = λ a. rows_of_entry (entry_in a entries);
  answers = λ a k. answer_of_entry k (entry_in a entries);
  charges = λ a n. charge_in n (charges_of_entry (entry_in a entries));
  vouchers = λ code. get same_name vouchers code;
  count = length entries;
}
