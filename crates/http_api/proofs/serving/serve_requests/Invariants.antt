use Rattle.std.proofs.Common.{◌≡◌, ◌+◌}
use Rattle.std.specs.Io.Buffered.{reader_remaining}
use Rattle.charging.specs.Continued.{GoesOn}
use Rattle.http_api.proofs.Taking.{IsHeldSoFar, LeavesTurns}
use Rattle.http_api.proofs.serving.serve_requests.Given as goal

abbrev pub invariant-loop-served : goal.invariant-loop-served
invariant-loop-served g l = record {
  turns : l.left + l.served ≡ 1000;
  shown : (g.K.Keeper.seen l.keeper).honest → IsHeldSoFar g.C.Clock.gives l.shelf l.served l.left
      (reader_remaining g.R.Read.remaining l.fn.reader)
      (reader_remaining g.R.Read.remaining l.reader) l.fn.clock l.clock
      (g.W.Write.contents l.fn.writer) (g.W.Write.contents l.writer)
      (g.K.Keeper.seen l.fn.keeper) (g.K.Keeper.seen l.keeper);
  goes_on : GoesOn l.shelf (g.K.Keeper.seen l.fn.keeper) (g.K.Keeper.seen l.keeper);
  held : LeavesTurns l.shelf (reader_remaining g.R.Read.remaining l.fn.reader) l.served
      (g.K.Keeper.seen l.fn.keeper) (g.K.Keeper.seen l.keeper);
}
