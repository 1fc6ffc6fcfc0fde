use Rattle.std.proofs.Common.{◌≡◌, Bool, true, false, List, [], ◌∷◌, cond, refl, rules, sym, ap}
use Rattle.std.proofs.Common.{◌∙◌, ◌++◌}
use Rattle.std.specs.Prelude.{◌||◌, filter}
use Rattle.std.specs.List.{list_any}
use Rattle.std.proofs.lemmas.Fn.{filter_same}
use Rattle.reserving.proofs.Lists.{not_both}
use Rattle.keepers.specs.Overlaying.{stays_bucket}
use Rattle.keepers.proofs.overlaying.buckets_over.Goals as goal

-- where none passes, none are those that pass
none_passes : {A : Type 0} (p : A → Bool) (xs : List A) → list_any p xs ≡ false → filter p xs ≡ []
none_passes p [] e = refl
none_passes p (x ∷ xs) e = at (p x) e (none_passes p xs)
  where
    at : (t : Bool) → (t || list_any p xs) ≡ false → (list_any p xs ≡ false → filter p xs ≡ []) →
        cond t (x ∷ filter p xs) (filter p xs) ≡ []
    at true k rest = absurd (not_both (sym k))
    at false k rest = rest k

pub returns-then-not-any_stays : goal.returns-then-not-any_stays
returns-then-not-any_stays c =
    let none : list_any (stays_bucket c.args.named.items) c.args.live.now ≡ false =
    sym (c.any_stays.ensures
    ∙ (λ i. list_any (stays_bucket (c.deref.ensures.value i)) (c.buckets.ensures.value i)))
    ∙ c.if-not-any_stays.true in
    sym (ap (λ rows. rows ++ c.args.named.items)
    (none_passes (stays_bucket c.args.named.items) c.args.live.now none))

pub returns : goal.returns
returns c = c.in_ok-append.ensures.items
    ∙ ap (λ rows. rows ++ c.args.named.items)
    (filter_same _ (stays_bucket c.args.named.items) _
    (λ x b f' k. search rules) _ _ c.retain.ensures.filtered
    ∙ ap (filter (stays_bucket c.args.named.items)) c.in_ok-rows.ensures)
