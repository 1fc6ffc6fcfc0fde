-- A tariff book, and the book of a document.
use Rattle.std.specs.Prelude.{◌≡◌, ℕ, ◌<◌, ◌≤◌, List, length, Some, Result, Ok, All, IsUtf8, codes}
use Rattle.std.specs.Prelude.{Err, IfOk}
use Rattle.units.specs.Words.{Seconds, CurrencyNumber, longest_validity, greatest_currency}
use Rattle.toml.specs.Data.{Members}
use Rattle.toml.specs.Parse.{parse_document}
use Rattle.calendar.specs.Timetable.{Timetable, IsTimetable, timetable_of}
use Rattle.tariffs.specs.declared.fault.BookFault.{BookFault}
use Rattle.tariffs.specs.declared.fault.BookFault.TheVariants.{NotToml, WeekNotCovered}
use Rattle.tariffs.specs.Faults.{Gives, ◌>>=◌, or_fault}
use Rattle.tariffs.specs.Fields.{text_of, number_in}
use Rattle.tariffs.specs.Names.{ArePeriods, names_of}
use Rattle.tariffs.specs.WeekFields.{zone_in, zone_of, entries_of}
use Rattle.tariffs.specs.Tariffs.{GroupTariff, IsTariff, AreOfOtherGroups}
use Rattle.tariffs.specs.GroupFields.{groups_of}

-- a book: the text of its zone as it is written, its week in that zone, the ISO 4217 number of its
-- currency, the validity of a grant in seconds, the names of its periods and the tariffs of its
-- groups
pub record Book : Type 0 where
  pub zone_text : List ℕ
  pub calendar : Timetable
  pub currency : CurrencyNumber
  pub validity : Seconds
  pub periods : List (List ℕ)
  pub tariffs : List GroupTariff

-- the ranges of a book (profile), and its zone is that of its text
pub record IsBook (b : Book) : Type 0 where
  pub zone : zone_in b.zone_text ≡ Some b.calendar.zone
  pub week : IsTimetable b.calendar
  pub some_currency : 1 ≤ b.currency
  pub currency : b.currency ≤ greatest_currency
  pub some_validity : 60 ≤ b.validity
  pub validity : b.validity ≤ longest_validity
  pub periods : ArePeriods b.periods
  pub entries : All (λ e. e.period.0 < length b.periods) b.calendar.entries
  pub some_tariffs : 1 ≤ length b.tariffs
  pub few_tariffs : length b.tariffs ≤ 64
  pub distinct_groups : AreOfOtherGroups b.tariffs
  pub tariffs : All IsTariff b.tariffs
  pub prices : All (λ t. length t.prices ≡ length b.periods) b.tariffs

-- the book of the members of a document, read in this order
-- rule: book-text: a book from its text, or its first fault
-- rule: book-text.book-of: a book's lists, entry by entry
unfoldable pub book_of : Members → Result Book BookFault
book_of t = do
  zone ← zone_of t
  zone_text ← text_of (codes "zone") t
  currency ← number_in (codes "currency") 1 greatest_currency t
  validity ← number_in (codes "validity") 60 longest_validity t
  periods ← names_of t
  entries ← entries_of periods t
  calendar ← or_fault WeekNotCovered (timetable_of zone entries)
  tariffs ← groups_of periods t
  Ok (record {
    zone_text = zone_text;
    calendar = calendar;
    currency = currency;
    validity = validity;
    periods = periods;
    tariffs = tariffs;
  })

-- the bytes are a TOML document with these members
-- rule: book-text
pub record IsDocument (bytes : List ℕ) (t : Members) : Type 0 where
  pub text : IsUtf8 bytes
  pub parsed : parse_document bytes ≡ Some t

-- bytes are read as the book of a document, or its first fault is told
pub record ReadsBook (bytes : List ℕ) (result : Result Book BookFault) : Type 0 where
  pub book : IfOk result (λ b. (t : Members) × IsDocument bytes t × (book_of t ≡ Ok b))
  pub fault : (t : Members) → IsDocument bytes t → Gives (λ b. b) result (book_of t)
  pub no_document : ((t : Members) → IsDocument bytes t → ⊥) →
      Gives (λ b. b) result (Err NotToml)
