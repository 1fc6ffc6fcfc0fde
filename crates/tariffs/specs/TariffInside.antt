-- The tariff that the fields of a tariff are.
-- Source: profile.
use Rattle.std.specs.Prelude.{map}
use Rattle.tariffs.specs.Tariffs.{GroupTariff}
use Rattle.tariffs.specs.declared.tariff.Tariff.TheInside.{Inside as Fields}

abbrev pub tariff_of : Fields → GroupTariff
tariff_of t = record {
  group = t.group;
  unit = t.unit;
  block = t.block;
  slice = t.slice;
  max_grant = t.max_grant;
  cycle = t.cycle;
  final_action = t.final_action;
  prices = map (λ v. v.items) t.prices.items;
}
