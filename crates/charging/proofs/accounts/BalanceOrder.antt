-- A balance lists each bucket of an account once, in the order of their numbers.
use Rattle.std.proofs.Common.{List}
use Rattle.buckets.specs.Row.{BucketRow}
use Rattle.ledger.specs.Ledger.{Ledger}
use Rattle.ledger.specs.Balance.{buckets_at}
use Rattle.ledger.specs.Pricing.{validity_of}
use Rattle.reserving.specs.Rows.{AreApart}
use Rattle.keepers.specs.Keyed.{same_bucket}
use Rattle.keepers.proofs.Found.{distinct_apart}
use Rattle.charging.specs.Served.{history}
use Rattle.charging.specs.BalanceOrder.{BalancesAreByNumber}
use Rattle.charging.proofs.accounts.ByNumber.{find_by_number, by_number_ascends}
use Rattle.charging.proofs.steps.Credited.{distinct}
use Rattle.charging.proofs.steps.KeptHistories.{kept_history}
use Rattle.charging.proofs.steps.Sound.{IsSoundHistory, sound_none, keeps_sound}

-- rule: balance.told-by-number
pub balances_are_by_number : BalancesAreByNumber
balances_are_by_number b a list t =
    let ledger : Ledger = (history b a list).ledger in
    let sound : IsSoundHistory b _ ledger =
    kept_history b (IsSoundHistory b) (keeps_sound b) (sound_none b) a list in
    let rows : List BucketRow = buckets_at (validity_of b) t ledger in
    let apart : AreApart same_bucket rows =
    distinct_apart rows (distinct (validity_of b) t ledger sound.paying.credits) in
    record {
      each = λ n. find_by_number n rows apart;
      order = by_number_ascends rows apart;
    }
