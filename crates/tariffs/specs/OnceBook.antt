-- The tariff book of one price: rating group 10 in seconds, at one price a block in every minute of
-- the week.
-- Source: profile.
use Rattle.std.specs.Prelude.{ℕ, true, List, [], ◌∷◌, ◌++◌, replicate, codes, None, pos}
use Rattle.std.specs.Fmt.{decimal}
use Rattle.units.specs.declared.blocks.UnitKind.TheVariants.{Time}
use Rattle.calendar.specs.declared.cycle.Cycle.TheVariants as cycles
use Rattle.calendar.specs.declared.week.Entry.{Entry}
use Rattle.calendar.specs.Clock.{minutes_ahead}
use Rattle.tariffs.specs.declared.final_action.FinalAction.TheVariants.{Terminate}
use Rattle.tariffs.specs.declared.tiers.Tier.{Tier}
use Rattle.tariffs.specs.Tariffs.{GroupTariff}
use Rattle.tariffs.specs.Books.{Book}

-- the book's period 0 in every minute of the week
abbrev pub whole_week : Entry
whole_week = record { period = record { 0 = 0 }; days = replicate 7 true; from = 0; to = 1440 }

-- a block of so many seconds has this price wherever it stands on the counter
abbrev pub single_tier : ℕ → Tier
single_tier price = record { upto = None; price = price }

-- rating group 10: 600 seconds where no number is named, at most 3,600 at once, and the end of
-- service after the last
abbrev pub once_tariff : ℕ → ℕ → GroupTariff
once_tariff price block = record {
  group = 10;
  unit = Time;
  block = block;
  slice = 600;
  max_grant = 3_600;
  cycle = cycles.None;
  final_action = Terminate;
  prices = (single_tier price ∷ []) ∷ [];
}

-- the book: in euros (ISO 4217 number 978), UTC, with grants that are valid for an hour
-- rule: once-book: the book of one price
abbrev pub once_book : ℕ → ℕ → Book
once_book price block = record {
  zone_text = codes "+00:00";
  calendar = record { zone = minutes_ahead (pos 0); entries = whole_week ∷ [] };
  currency = 978;
  validity = 3_600;
  periods = codes "always" ∷ [];
  tariffs = once_tariff price block ∷ [];
}

-- its document, from its beginning to the number of seconds in a block
abbrev pub to_the_block : List ℕ
to_the_block =
    codes "zone = \"+00:00\"\ncurrency = 978\nvalidity = 3600\nperiods = [\"always\"]\n"
    ++ codes
    "\n[[week]]\nperiod = \"always\"\ndays = [1, 2, 3, 4, 5, 6, 7]\nfrom = \"00:00\"\nto = \"24:00\"\n"
    ++ codes "\n[[group]]\nid = 10\nunit = \"time\"\nblock = "

-- and on to the price of a block
abbrev pub to_the_price : List ℕ
to_the_price =
    codes "\nslice = 600\nmax_grant = 3600\ncycle = \"none\"\nfinal = \"terminate\"\n"
    ++ codes "\n[[group.price]]\nperiod = \"always\"\n"
    ++ codes "\n[[group.price.tiers]]\nprice = "

-- the bytes of its document (TOML 1.0)
-- rule: once-book
abbrev pub once_document : ℕ → ℕ → List ℕ
once_document price block =
    to_the_block ++ (decimal block ++ (to_the_price ++ (decimal price ++ codes "\n")))
