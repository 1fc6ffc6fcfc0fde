use Rattle.reserving.proofs.left.Joined.{stays_advanced, stays_opened, stays_denied, stays_touched}
use Rattle.reserving.proofs.left.Joined.{stays_closed, stays_barred, stays_credited, is_read}
use Rattle.reserving.proofs.laws.counters_may_be_left.Goals as goal

pub returns-clause-calls : goal.returns-clause-calls
returns-clause-calls c = record {
  advanced = stays_advanced;
  opened = stays_opened;
  denied = stays_denied;
  touched = stays_touched;
  closed = stays_closed;
  barred = stays_barred;
  credited = stays_credited;
}

pub returns-clause-read : goal.returns-clause-read
returns-clause-read c = is_read
