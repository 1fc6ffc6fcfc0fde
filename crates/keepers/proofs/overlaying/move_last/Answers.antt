use Rattle.std.proofs.Common.{◌++◌, ◌∷◌, sym, ap, subst, ◌∙◌, append-nil}
use Rattle.std.specs.Prelude.{option_to_list}
use Rattle.std.specs.List.Sorted.{IsPermutation}
use Rattle.std.proofs.lemmas.List.Sorted.{IsPermutation-refl, IsPermutation-insert}
use Rattle.std.proofs.lemmas.List.Sorted.{IsPermutation-push_more}
use Rattle.keepers.proofs.overlaying.move_last.Goals as goal

pub returns-in_default : goal.returns-in_default
returns-in_default g c =
    subst (IsPermutation c.args.rows.now.items)
    (c.pop.ensures.items ∙ ap (λ o. c.pop.new.self.items ++ option_to_list o) c.in_default.is
    ∙ append-nil c.pop.new.self.items)
    (IsPermutation-refl c.args.rows.now.items)

pub returns : goal.returns
returns g c =
    subst (λ xs. IsPermutation xs c.insert.new.self.items)
    (sym (c.pop.ensures.items
    ∙ ap (λ o. c.pop.new.self.items ++ option_to_list o) c.in-Some.is))
    (IsPermutation-push_more c.pop.new.self.items c.pop.new.self.items c.insert.new.self.items
    c.in-Some.row (IsPermutation-refl c.pop.new.self.items)
    (subst (IsPermutation (c.in-Some.row ∷ c.pop.new.self.items))
    (sym c.in_ok-insert.ensures.items)
    (IsPermutation-insert c.pop.new.self.items c.min-place.result c.in-Some.row)))
