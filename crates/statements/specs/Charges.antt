-- What the charges of a month that are asked of a source come to.
-- Source: profile.
use Rattle.std.specs.Prelude.{◌≡◌, ◌+◌, ◌≤◌, min, List, Option, Result, IfOk, OnErr, OnOk}
use Rattle.std.specs.Prelude.{IsErrOf}
use Rattle.std.specs.Io.KnownBytes.{Appends}
use Rattle.texts.specs.StreamWords.{Bytes}
use Rattle.ledger.specs.Words.{ChargeNumber}
use Rattle.keepers.specs.Faults.{max_failures}
use Rattle.keepers.specs.Seen.{Seen}
use Rattle.keepers.specs.Tables.{Tables}
use Rattle.ledger.specs.ChargeColumns.{ChargeColumns}
use Rattle.keepers.specs.Rows.{AreCharges}
use Rattle.statements.specs.Texts.{charge_texts, sums_of, WritesBeginning}
use Rattle.statements.specs.declared.fault.StatementFault.{StatementFault}
use Rattle.statements.specs.declared.fault.StatementFault.TheVariants.{Store}
use Rattle.statements.specs.declared.rows.Form.{Form}
use Rattle.statements.specs.declared.rows.Sums.{Sums}
use Rattle.identifiers.specs.Words.{AccountName}

-- asking a source changes nothing of it, nor what a stop leaves; it answers only where the source
-- can still be asked, and it fails only with a cause
pub record AsksSource {T : Type 0} (old new : Seen)
    (result : Result T StatementFault) : Type 0 where
  pub same : new.clean → new.tables ≡ old.tables
  pub cleanness : new.clean → old.clean
  pub honesty : new.honest → old.honest
  pub stands : new.honest → OnOk result new.clean
  pub left : new.honest → (t : Tables) → new.left t → old.left t
  pub kept : old.failed ≤ new.failed
  pub cause : IsErrOf result Store → min (old.failed + 1) max_failures ≤ new.failed

-- the text of an account's charges is written, or a beginning of it at a fault
-- rule: statement
pub record WritesAll {T : Type 0} (charges : ChargeNumber → Option ChargeColumns)
    (old new : Option Bytes) (text : List ChargeColumns → Bytes) (result : Result T StatementFault)
    : Type 0 where
  pub whole : (rows : List ChargeColumns) → AreCharges charges rows →
      OnOk result (Appends old new (text rows))
  pub beginning : (rows : List ChargeColumns) → AreCharges charges rows →
      OnErr result (WritesBeginning old new (text rows))

-- ---- whatever the source shows

-- the text of some charges is written, or a beginning of it at a fault
-- rule: statement
pub record WritesSome {T : Type 0} (old new : Option Bytes) (text : List ChargeColumns → Bytes)
    (result : Result T StatementFault) : Type 0 where
  pub rows : List ChargeColumns
  pub whole : OnOk result (Appends old new (text rows))
  pub beginning : OnErr result (WritesBeginning old new (text rows))

-- those of the month are written in a form, and the sums are theirs
pub record SumsSome (old new : Option Bytes) (form : Form)
    (month : List ChargeColumns → List ChargeColumns) (result : Result Sums StatementFault)
    : Type 0 where
  pub rows : List ChargeColumns
  pub whole : IfOk result (λ sums. (sums ≡ sums_of (month rows))
      × Appends old new (charge_texts form (month rows)))
  pub beginning : OnErr result (WritesBeginning old new (charge_texts form (month rows)))

-- ---- over a source and a writer

-- the text of an account's charges is written; of a source that stays clean, of all that it has
pub record WritesCharges {T W : Type 0} (contents : W → Option Bytes)
    (account : AccountName) (text : List ChargeColumns → Bytes) (old new : Seen) (before after : W)
    (result : Result T StatementFault) : Type 0 where
  pub writes : new.clean →
      WritesAll (old.tables.charges account) (contents before) (contents after) text result
  pub some : WritesSome (contents before) (contents after) text result
  pub asks : AsksSource old new result
