-- The book that the fields of a book are.
-- Source: profile.
use Rattle.std.specs.Prelude.{string_bytes}
use Rattle.tariffs.specs.Books.{Book}
use Rattle.tariffs.specs.declared.book.TariffBook.TheInside.{Inside as Fields}

abbrev pub book_in : Fields → Book
book_in b = record {
  zone_text = string_bytes b.zone_text;
  calendar = b.calendar;
  currency = b.currency;
  validity = b.validity;
  periods = b.periods;
  tariffs = b.tariffs.items;
}
