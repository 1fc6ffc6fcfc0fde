use Rattle.std.proofs.Common.{arith, ◌≡◌, get_or, map, []}
use Rattle.std.proofs.lemmas.Grind.{common_steps}
use Rattle.tariffs.proofs.TierFacts.{priced_at}
use Rattle.tariffs.proofs.tariff.Tariff.tiers.Goals as goal

pub returns-in-Some-clause-priced : goal.returns-in-Some-clause-priced
returns-in-Some-clause-priced c =
    let e : c.as_slice.result.now
    ≡ get_or (map (λ v. v.items) c.self.inside.prices.items) c.args.period.0 [] =
    grind (arith, common_steps) in
    rw e (priced_at _ _ c.self.invariant.tiers)
