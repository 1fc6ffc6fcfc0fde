-- What `once` writes.
-- Source: profile.
use Rattle.std.specs.Prelude.{[], Option, Some, IfSome}
use Rattle.std.specs.Io.KnownBytes.{Appends}
use Rattle.units.specs.Words.{Micros}
use Rattle.texts.specs.StreamWords.{Bytes}
use Rattle.tariffs.specs.Books.{Book}
use Rattle.shelves.specs.Shelves.{one_book}
use Rattle.operations.specs.Written.{WritesBeginning}
use Rattle.operations.specs.LinesServed.{lines_text}

-- the text of a stream, before any command, by a book alone on its shelf: the first request's
-- account is opened with this amount
-- rule: once: what `once` writes
abbrev pub once_text : Book → Micros → Bytes → Bytes
once_text b credit stream = lines_text (one_book b) [] (Some credit) stream

-- where the reader shows its bytes, that text of them is written
abbrev pub WritesOnce : Book → Micros → Option Bytes → Option Bytes → Option Bytes → Type 0
WritesOnce b credit bytes old new =
    IfSome bytes (λ stream. Appends old new (once_text b credit stream))

-- or a beginning of it
abbrev pub BeginsOnce : Book → Micros → Option Bytes → Option Bytes → Option Bytes → Type 0
BeginsOnce b credit bytes old new =
    IfSome bytes (λ stream. WritesBeginning old new (once_text b credit stream))
