-- The promise of a run, account by account: its buckets and its charges are sums of its ledger, and
-- each use was paid as the rules say (TS 32.296, account balance management function; RFC 8506
-- section 5.3).
use Rattle.std.specs.Prelude.{◌≡◌, List, Option, Some, take, length}
use Rattle.units.specs.Words.{Moment}
use Rattle.identifiers.specs.Words.{AccountName}
use Rattle.buckets.specs.Words.{BucketNumber}
use Rattle.ledger.specs.Words.{ChargeNumber}
use Rattle.commands.specs.declared.answer.Answer.{Answer}
use Rattle.buckets.specs.Row.{IsBalanced}
use Rattle.buckets.specs.Spend.{Each}
use Rattle.shelves.specs.Shelves.{Shelf}
use Rattle.ledger.specs.declared.charge.ChargeRow.{ChargeRow}
use Rattle.ledger.specs.Ledger.{Ledger}
use Rattle.ledger.specs.Balance.{buckets_at}
use Rattle.ledger.specs.Charges.{charge_rows}
use Rattle.reserving.specs.Left.{bucket_in}
use Rattle.ledger.specs.Pricing.{validity_of}
use Rattle.keepers.specs.Tables.{Head, Rows, Tables, charge_in}
use Rattle.charging.specs.Accepted.{Accepted, IsInTime}
use Rattle.charging.specs.declared.running.DatedCommand.{DatedCommand}
use Rattle.charging.specs.Served.{AreTables, history}
use Rattle.charging.specs.Runs.{after_commands}
use Rattle.charging.specs.Paid.{Report, reports_of, ArePaid, AreQuotasPaid}

-- rule: ledger.runs-over
pub record IsAccounted (b : Shelf) (reports : List Report) (ledger : Ledger) (t : Moment)
    (rows : Rows) (told : ChargeNumber → Option ChargeRow) : Type 0 where
  -- each bucket is what the ledger sums to, as of the account's last command
  pub buckets : (n : BucketNumber) →
      rows.buckets n ≡ bucket_in n (buckets_at (validity_of b) t ledger)
  -- what was credited of a bucket is available, reserved, charged or expired, in the bucket's unit
  pub balanced : Each IsBalanced (buckets_at (validity_of b) t ledger)
  -- the charges are the ledger's uses, by their numbers
  pub charges : (n : ChargeNumber) → told n ≡ charge_in n (charge_rows ledger)
  -- of each use what is collected and what isn't are the price of the blocks that its report or
  -- debit started and no allowance covered, allowances give just the blocks that are covered, and
  -- something isn't collected only where its reservation and every eligible bucket are empty
  pub paid : ArePaid b reports ledger
  -- a use within its grant is collected whole
  pub quotas : AreQuotasPaid b ledger

-- so each account after a run, for every list of accepted commands whose tables the keeper held
-- before it
-- rule: ledger.runs-over
abbrev pub AreAccounted : Shelf → List DatedCommand → Tables → Tables → List Answer → Type 0
AreAccounted b commands old new given =
    (list : List Accepted) → IsInTime list → AreTables b list old →
    (a : AccountName) (head : Head) →
    (new.rows a).head ≡ Some head →
    IsAccounted b (reports_of b a (after_commands b list (take (length given) commands)))
    (history b a (after_commands b list (take (length given) commands))).ledger head.as_of
    (new.rows a) (new.charges a)
