-- The prices that the fields of prices are.
-- Source: profile.
use Rattle.tariffs.specs.GroupPrices.{GroupPrices, prices_in}
use Rattle.tariffs.specs.declared.group_prices.Prices.TheInside.{Inside as Fields}

abbrev pub prices_of : Fields → GroupPrices
prices_of p = prices_in p.tariff.now p.before.0 p.after.0
