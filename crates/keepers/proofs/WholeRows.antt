-- Every row of an account that isn't there: none.
use Rattle.std.proofs.Common.{◌≡◌, [], sym, ap}
use Rattle.std.specs.Prelude.{option_map}
use Rattle.reserving.specs.Sessions.{session_in, group_in, counter_in}
use Rattle.reserving.specs.Left.{bucket_in}
use Rattle.keepers.specs.declared.whole.WholeAccount.{WholeAccount}
use Rattle.keepers.specs.Tables.{no_rows, group_row, held_of}
use Rattle.keepers.specs.Whole.{AreWhole}

pub none_whole : (w : WholeAccount) → w.buckets.items ≡ [] → w.counters.items ≡ [] →
    w.sessions.items ≡ [] → w.groups.items ≡ [] → AreWhole no_rows w
none_whole w buckets counters sessions groups = record {
  buckets = λ n. sym (ap (bucket_in n) buckets);
  counters = λ g c. sym (ap (counter_in g c) counters);
  sessions = λ s. sym (ap (session_in s) sessions);
  groups = λ s g. sym (ap (λ xs. option_map group_row (group_in s g xs)) groups);
  holds = λ s g n. sym (ap (λ xs. held_of n (group_in s g xs)) groups);
}
