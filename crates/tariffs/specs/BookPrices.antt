-- The prices that a book gives of a group in two periods.
-- Source: TS 32.296, rating function.
use Rattle.std.specs.Prelude.{◌≡◌, ◌<◌, ◌==◌, ◌&&◌, nat_lt, length, find, Option, Some, None}
use Rattle.std.specs.Prelude.{option_map, if◌then◌else◌}
use Rattle.units.specs.Words.{GroupId, PeriodNumber}
use Rattle.tariffs.specs.Books.{Book}
use Rattle.tariffs.specs.Tariffs.{GroupTariff}
use Rattle.tariffs.specs.GroupPrices.{GroupPrices, prices_in}

-- the prices of a group in two periods of the book; none of a group that the book doesn't have, and
-- none where a period isn't the book's
-- rule: tiers.prices-at: the prices of both sides of a switch are one book's, of one group
abbrev pub prices_at : Book → GroupId → PeriodNumber → PeriodNumber → Option GroupPrices
prices_at b group before after =
    if nat_lt before (length b.periods) && nat_lt after (length b.periods)
    then option_map (λ t. prices_in t before after) (find (λ t. t.group == group) b.tariffs)
    else None

-- these are the prices of the group in the book, in two periods of the book
-- rule: tiers.prices-at
pub record ArePricesOf (b : Book) (group : GroupId) (one two : PeriodNumber) (p : GroupPrices)
    : Type 0 where
  pub tariff : GroupTariff
  pub known : find (λ t. t.group == group) b.tariffs ≡ Some tariff
  pub before : one < length b.periods
  pub after : two < length b.periods
  pub are : p ≡ prices_in tariff one two
