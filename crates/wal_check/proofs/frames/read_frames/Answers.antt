use Rattle.std.proofs.Common.{rules, arith, ℕ, ◌+◌, length, refl, sym, ◌∙◌, ap}
use Rattle.std.proofs.lemmas.List.{length_push}
use Rattle.sqlite_wal.proofs.PartLemmas.{frames_len-zero}
use Rattle.wal_check.proofs.Reading.{none_so_far, one_more, place_behind}
use Rattle.wal_check.proofs.frames.read_frames.Goals as goal

pub loop-numbers-init : goal.loop-numbers-init
loop-numbers-init g c = (
  λ clean. none_so_far _ _ _ _ c.new-numbers.ensures.items (rw (← (c.requires.shape clean).head) c.get_sum.ensures),
  search rules,
  search rules,
  omega arith,
  rw c.new-numbers.ensures.items refl,
  omega (arith, frames_len-zero c.args.shape.now.page_size),
)

pub loop-numbers-preserved : goal.loop-numbers-preserved
loop-numbers-preserved g c = (
  λ clean.
      let inv = c.loop-numbers.invariant in
      let before = c.read_frame.ensures.same.clean clean in
      let passes = rw (c.in-Some.is, inv.1.seen) at (c.in_ok-frame.ensures.passes clean) in
      one_more _ _ _ _ _ _ _ c.in-Some.frame (inv.0 before) passes.0 passes.1 _ c.in_ok-push.ensures.items c.has_size-commits.ensures c.behind-place.ensures.frame c.behind-place.ensures.at c.behind-place.ensures.sum,
  search rules,
  search rules,
  omega (arith, c.behind-place.ensures.frame, c.behind-place.ensures.at, c.loop-numbers.invariant.3),
  c.behind-place.ensures.frame ∙ ap (λ (n : ℕ). n + 1) c.loop-numbers.invariant.4 ∙ sym (ap length c.in_ok-push.ensures.items ∙ length_push _ _),
  place_behind _ _ _ _ _ c.behind-place.ensures.frame c.behind-place.ensures.at c.loop-numbers.invariant.5,
)
