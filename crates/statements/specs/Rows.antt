-- What writes the charges of a month, by each row that it is shown.
-- Source: profile.
use Rattle.std.specs.Prelude.{◌≡◌, Bool, true, false, [], Option, is_some}
use Rattle.std.specs.Io.KnownBytes.{Appends}
use Rattle.texts.specs.StreamWords.{Bytes}
use Rattle.ledger.specs.ChargeColumns.{ChargeColumns}
use Rattle.statements.specs.Months.{is_of_cycle}
use Rattle.statements.specs.Texts.{charge_text, plus_charge, WritesBeginning}
use Rattle.statements.specs.declared.rows.Form.{Form}
use Rattle.statements.specs.declared.rows.Sums.{Sums}
use Rattle.statements.specs.declared.rows.MonthRows.{MonthRows}

-- a row of the month is written and added; another is passed over
abbrev pub text_if : Bool → Form → ChargeColumns → Bytes
text_if true form c = charge_text form c
text_if false form c = []

abbrev pub plus_if : Bool → Sums → ChargeColumns → Sums
plus_if true sums c = plus_charge sums c
plus_if false sums c = sums

-- it goes on where the row is written, and stops at a fault
pub record TakesRow {W : Type 0} (contents : W → Option Bytes) (old : MonthRows W)
    (c : ChargeColumns) (goes : Bool) (new : MonthRows W) : Type 0 where
  pub writer : new.writer.ghost_name ≡ old.writer.ghost_name
  pub book : new.book.now ≡ old.book.now
  pub cycle : new.cycle ≡ old.cycle
  pub form : new.form ≡ old.form
  pub fault : goes ≡ true → new.fault ≡ old.fault
  pub text : goes ≡ true → Appends (contents old.writer.now) (contents new.writer.now)
      (text_if (is_of_cycle old.book.now old.cycle c) old.form c)
  pub sums : goes ≡ true →
      new.sums ≡ plus_if (is_of_cycle old.book.now old.cycle c) old.sums c
  pub told : goes ≡ false → is_some new.fault ≡ true
  pub begun : goes ≡ false → WritesBeginning (contents old.writer.now) (contents new.writer.now)
      (text_if (is_of_cycle old.book.now old.cycle c) old.form c)
