use Rattle.std.proofs.Common.{◌≡◌, ◌≤◌, ℕ, List, ◌∷◌, [], length, true, false, IfSome, Some, None}
use Rattle.std.proofs.Common.{Option, arith, rules, subst, sym, ◌∙◌}
use Rattle.http_messages.specs.declared.head_part.HeadPart.TheVariants as head_part
use Rattle.http_messages.specs.Parts.{first_part, part_after, IsHeadPart, too_long}
use Rattle.http_messages.specs.Shortest.{ends_head}
use Rattle.texts.proofs.PieceLemmas.{piece_length}
use Rattle.http_messages.proofs.Pieces.{IsKnown, goes_on, ends_whole}
use Rattle.http_messages.proofs.Shown.{ended, whole_taken, short_taken}
use Rattle.http_messages.proofs.head_part.next_head_part.Goals.{else-loop-turn-test}
use Rattle.http_messages.proofs.head_part.next_head_part.Goals.{then-loop-turn-test+then-left-eq0}
use Rattle.http_messages.proofs.head_part.next_head_part.Goals as goal

full_is_too_long : (taken rest : List ℕ) → 8192 ≤ length taken → part_after taken rest ≡ too_long
full_is_too_long taken [] h = grind arith
full_is_too_long taken (b ∷ rest) h = grind arith

told_too_long : (old left : Option (List ℕ)) (taken : List ℕ) → 8192 ≤ length taken
    → IsKnown taken old left
    → IfSome old (λ stream. IsHeadPart (first_part stream) head_part.TooLong left)
told_too_long None left taken h known = tt
told_too_long (Some stream) left taken h known =
    subst (λ p. IsHeadPart p head_part.TooLong left)
    (sym (known.2 ∙ full_is_too_long taken known.0 h)) tt

pub returns-in-Whole-clause-part : goal.returns-in-Whole-clause-part
returns-in-Whole-clause-part g c =
    whole_taken (g.R.Read.remaining c.args.reader.now) (g.R.Read.remaining c.take_whole.new.reader)
    _ c.take_whole.new.part c.clear.ensures.items (c.in_ok-take_whole.ensures.taken c.in-Whole.is)

pub returns-in-Whole-clause-short : goal.returns-in-Whole-clause-short
returns-in-Whole-clause-short g c =
    short_taken (g.R.Read.remaining c.args.reader.now) (g.R.Read.remaining c.take_whole.new.reader)
    _ c.take_whole.new.part.items c.clear.ensures.items
    (c.in_ok-take_whole.ensures.taken c.in-Whole.is)

pub returns-in-End-clause-part : goal.returns-in-End-clause-part
returns-in-End-clause-part g c =
    ended (g.R.Read.remaining c.args.reader.now) (g.R.Read.remaining c.take_whole.new.reader)
    (c.in_ok-take_whole.ensures.end c.in-End.is)

pub returns-then-ends_with-clause-part : goal.returns-then-ends_with-clause-part
returns-then-ends_with-clause-part g c =
    let ends : ends_head c.take_piece.new.part.items ≡ true = search rules in
    ends_whole (g.R.Read.remaining c.args.reader.now) (g.R.Read.remaining c.loop-turn.reader)
    (g.R.Read.remaining c.take_piece.new.reader) c.loop-turn.part.items c.take_piece.new.part
    _ _ c.in_ok-take_piece.ensures.taken c.if-branch-eq0.false
    (omega (arith, c.loop-turn.invariant.1)) ends c.loop-turn.invariant.2

pub loop-turn-preserved : goal.loop-turn-preserved
loop-turn-preserved g c =
    let ends : ends_head c.take_piece.new.part.items ≡ false = search rules in
    let takes = c.in_ok-take_piece.ensures.taken in
    let long = piece_length _ _ _ _ _ _ _ takes in (
      omega (arith, c.loop-turn.invariant.0, c.if-branch-eq0.false, long),
      omega (arith, c.loop-turn.invariant.1, takes.within, long),
      goes_on (g.R.Read.remaining c.args.reader.now) (g.R.Read.remaining c.loop-turn.reader)
          (g.R.Read.remaining c.take_piece.new.reader) c.loop-turn.part.items
          c.take_piece.new.part.items _ _ takes c.if-branch-eq0.false
          (omega (arith, c.loop-turn.invariant.1)) ends c.loop-turn.invariant.2,
    )

pub returns-clause-part : goal.returns-clause-part
returns-clause-part g c =
    let full : 8192 ≤ length c.loop-turn.part.items = elim c.loop-turn-test.branch [
      | else-loop-turn-test w ↦ omega (arith, c.loop-turn.invariant.0, w.loop-turn-test.false)
      | then-loop-turn-test+then-left-eq0 w ↦ omega (arith, w.if-left-eq0.true)
    ] in
    told_too_long (g.R.Read.remaining c.args.reader.now)
    (g.R.Read.remaining c.loop-turn.reader) c.loop-turn.part.items full c.loop-turn.invariant.2
