use Rattle.std.proofs.Common.{◌≡◌, ℕ, List, ◌++◌, ◌+◌, ◌-◌, length, take, drop, arith, subst, sym}
use Rattle.std.proofs.Common.{ap, ◌∙◌, rules}
use Rattle.std.specs.declared.option.Option.{Option}
use Rattle.std.specs.Io.KnownBytes.{Appends}
use Rattle.std.proofs.KnownBytes.{Appends-trans}
use Rattle.std.proofs.Math.Seq.{take-add}
use Rattle.std.proofs.lemmas.Grind.{common_steps}
use Rattle.texts.proofs.streams.write_whole.Goals as goal

rest_is : (xs : List ℕ) (at : ℕ) → take (length xs - at) (drop at xs) ≡ drop at xs
rest_is xs at = grind (arith, common_steps)

written_on : (old mid new : Option (List ℕ)) (xs : List ℕ) (at n : ℕ) → Appends old mid (take at xs)
    → Appends mid new (take n (take (length xs - at) (drop at xs)))
    → Appends old new (take (at + n) xs)
written_on old mid new xs at n p q =
    let e : take at xs ++ take n (take (length xs - at) (drop at xs)) ≡ take (at + n) xs =
    ap (λ r. take at xs ++ take n r) (rest_is xs at) ∙ sym (take-add at n xs) in
    subst (Appends old new) e (Appends-trans old mid new _ _ p q)

pub loop-turn-preserved : goal.loop-turn-preserved
loop-turn-preserved g c = (
  omega (arith, c.loop-turn.invariant.0, c.in_ok-written.ensures.some),
  search (rules, common_steps, c.in_ok-written.ensures.within),
  written_on _ _ _ c.args.text.now c.loop-turn.at c.in_ok-written.written c.loop-turn.invariant.2
      c.in_ok-written.ensures.ok,
)
