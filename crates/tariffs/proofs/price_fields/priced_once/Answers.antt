use Rattle.tariffs.proofs.PricedOnce.{prices_are_once}
use Rattle.tariffs.proofs.price_fields.priced_once.Goals as goal

pub returns : goal.returns
returns c = prices_are_once
