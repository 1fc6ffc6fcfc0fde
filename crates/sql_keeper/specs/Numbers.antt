-- Numbers that are taken: no charge and no bucket is written over.
-- Source: profile.
use Rattle.std.specs.Prelude.{◌≡◌, ◌≤◌, List, Option, Some, None, OnOk, Result}
use Rattle.identifiers.specs.Words.{AccountName}
use Rattle.buckets.specs.Row.{BucketRow}
use Rattle.buckets.specs.Words.{BucketNumber}
use Rattle.ledger.specs.Lists.{EachIn}
use Rattle.ledger.specs.declared.charge.ChargeRow.{ChargeRow}
use Rattle.sqlite_trees.specs.Tree.{Trees}
use Rattle.sqlite.specs.State.{State, HasCleanDisk}
use Rattle.keepers.specs.declared.loaded.Change.{Change}
use Rattle.sql_rows.specs.declared.head.HeadColumns.{HeadColumns}
use Rattle.sql_rows.specs.Content.{TableRows, TablesContent}
use Rattle.sql_keeper.specs.Content.{Names}
use Rattle.sql_keeper.specs.Writes.{with_moment_put, with_named}
use Rattle.sql_keeper.specs.declared.putting.Known.{Known}

-- where a call answers, this was so of the tables before it
abbrev pub WasSo : {A E : Type 0} → (Trees → Type 0) → State → State → Result A E → Type 0
WasSo so old new result = HasCleanDisk new → OnOk result (so old.now.trees)

-- ---- charges

-- an account has no charge of this one's number
-- rule: database-writes.numbers-free
abbrev pub LacksCharge : AccountName → TablesContent → ChargeRow → Type 0
LacksCharge a c x = (c.rows a).charges x.number ≡ None

abbrev pub LacksCharges : AccountName → TablesContent → List ChargeRow → Type 0
LacksCharges a c xs = EachIn (LacksCharge a c) xs

-- nor has it once the rows are put that a change names
abbrev pub LacksThen : Names → Known → Change → TablesContent → Type 0
LacksThen names known change c = LacksCharges change.number
    (with_named change.number names known change.rows
    (with_moment_put known.is_there change.moment c)) change.charges.items

-- ---- buckets

-- the number of the next bucket of an account; of one that isn't there yet each is new
abbrev pub first_bucket : Option HeadColumns → BucketNumber
first_bucket None = 0
first_bucket (Some h) = h.next_bucket

-- a bucket that is new has a number under which there is none
-- rule: database-writes.numbers-free
abbrev pub IsFree : BucketNumber → TableRows → BucketRow → Type 0
IsFree first r b = first ≤ b.number → r.buckets b.number ≡ None

abbrev pub AreFree : BucketNumber → TableRows → List BucketRow → Type 0
AreFree first r bs = EachIn (IsFree first r) bs

-- ---- a change

-- of an account's charges and of its buckets from its next number on none is there that a change
-- names
-- rule: database-writes.numbers-free: a commit writes no charge over another, and no bucket that
--   is new over one that is there
pub record AreNumbersFree (change : Change) (r : TableRows) : Type 0 where
  pub charges : EachIn (λ (x : ChargeRow). r.charges x.number ≡ None) change.charges.items
  pub buckets : AreFree (first_bucket r.head) r change.rows.buckets
