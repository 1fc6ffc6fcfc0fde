use Rattle.std.proofs.Common.{arith}
use Rattle.texts.proofs.PieceLemmas.{piece_more, piece_length}
use Rattle.texts.proofs.streams.next_bytes.Goals as goal

pub loop-turn-preserved : goal.loop-turn-preserved
loop-turn-preserved g c =
    let takes = c.in_ok-take_piece.ensures.taken in
    let long = piece_length _ _ _ _ _ _ _ takes in (
      omega (arith, c.loop-turn.invariant.0, c.if-branch-eq0.false, long),
      omega (arith, c.loop-turn.invariant.1, takes.within, long),
      piece_more (g.R.Read.remaining c.args.reader.now) (g.R.Read.remaining c.loop-turn.reader)
          (g.R.Read.remaining c.take_piece.new.reader) _ takes.piece _ takes.part takes.taken
          c.loop-turn.invariant.2,
    )
