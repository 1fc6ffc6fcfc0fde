use Rattle.std.proofs.Common.{◌≡◌, ◌+◌, ◌<◌, ◌^◌, drop}
use Rattle.reserving.specs.Sessions.{is_live_in}
use Rattle.reserving.specs.Lapsed.{lapsed_funds}
use Rattle.ledger.specs.Pricing.{validity_of}
use Rattle.reserving.proofs.funds.lapsed_funds.Given as goal

abbrev pub invariant-loop-row : goal.invariant-loop-row
invariant-loop-row l = record {
  total : l.total
      + lapsed_funds (is_live_in (validity_of l.shelf) l.at l.sessions) l.kind l.group l.at
      (drop l.row-index l.groups) l.buckets
      ≡ lapsed_funds (is_live_in (validity_of l.shelf) l.at l.sessions) l.kind l.group l.at
      l.groups l.buckets;
  most : lapsed_funds (is_live_in (validity_of l.shelf) l.at l.sessions) l.kind l.group l.at
      l.groups l.buckets
      < 2 ^ 126;
}
