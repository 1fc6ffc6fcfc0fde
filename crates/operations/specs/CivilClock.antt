-- What the clock of the books shows at moments, as `clock` prints it.
-- Source: profile.
use Rattle.std.specs.Prelude.{◌+◌, ◌*◌, ◌/◌, ◌%◌, ◌++◌, ◌∷◌, List, [], codes, slice_get, unwrap_or}
use Rattle.std.specs.Fmt.{decimal}
use Rattle.units.specs.Words.{CycleNumber, Moment}
use Rattle.texts.specs.NumberWords.{MonthNumber}
use Rattle.texts.specs.StreamWords.{Bytes}
use Rattle.calendar.specs.Clock.{day}
use Rattle.calendar.specs.Months.{month}
use Rattle.calendar.specs.Timetable.{period_at}
use Rattle.tariffs.specs.Books.{Book}
use Rattle.shelves.specs.Shelves.{Shelf, book_at}

-- the number YYYYMM of a month that is counted from January 1969
-- rule: civil-clock
abbrev pub month_shown : CycleNumber → MonthNumber
month_shown months = 100 * (1969 + months / 12) + months % 12 + 1

-- the name of the tariff period at a moment
abbrev pub period_shown : Book → Moment → Bytes
period_shown b t = unwrap_or (slice_get b.periods (period_at b.calendar t).0) []

-- the civil day, month and period of a book at a moment
-- rule: civil-clock
abbrev pub book_line : Book → Moment → Bytes
book_line b t = decimal t ++ (codes " day " ++ (decimal (day b.calendar.zone t)
    ++ (codes " month " ++ (decimal (month_shown (month b.calendar.zone t))
    ++ (codes " period " ++ (period_shown b t ++ codes "\n"))))))

-- those of the book that holds then
-- rule: civil-clock: the civil day, month and period at a moment
abbrev pub clock_line : Shelf → Moment → Bytes
clock_line s t = book_line (book_at s t) t

-- the lines of moments, in their order
-- rule: civil-clock
abbrev pub clock_text : Shelf → List Moment → Bytes
clock_text s [] = []
clock_text s (t ∷ rest) = clock_line s t ++ clock_text s rest
