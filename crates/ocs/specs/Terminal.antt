-- What a terminal gets before words that take long.
-- Source: profile.
use Rattle.std.specs.Prelude.{◌++◌, ◌∷◌, ◌/◌, ℕ, Option, Some, None, [], codes, nat_le}
use Rattle.std.specs.Prelude.{if◌then◌else◌}
use Rattle.std.specs.Fmt.{decimal}
use Rattle.texts.specs.StreamWords.{Bytes}
use Rattle.operator.specs.declared.parsed.ProgramWords.{ProgramWords}
use Rattle.operator.specs.declared.parsed.ProgramWords.TheVariants as words
use Rattle.ocs.specs.declared.terminal.LongFile.{LongFile}

-- ---- files that may take long

-- what is done with a file, its path, and from how many bytes on it takes long
pub record FileWork : Type 0 where
  pub doing : Bytes
  pub path : Bytes
  pub least : ℕ

abbrev pub work_of : LongFile → FileWork
work_of f = record { doing = f.doing.now; path = f.path.now; least = f.least }

-- each row of a database is read
abbrev pub over_rows : Bytes → Bytes → FileWork
over_rows doing path = record { doing = doing; path = path; least = 25000000 }

-- each line of a file is a command
abbrev pub over_lines : Bytes → Bytes → FileWork
over_lines doing path = record { doing = doing; path = path; least = 1000000 }

-- the database that words open, or bring to the latest version
-- rule: terminal.long-files: the files of which a terminal gets a line
abbrev pub database_work : ProgramWords → Option FileWork
database_work (words.Once once) = None
database_work (words.Init init) = None
database_work (words.Migrate migrate) = Some (over_rows (codes "migrating") migrate.database)
database_work (words.Book book) = Some (over_rows (codes "opening") book.database)
database_work (words.Serve serve) = Some (over_rows (codes "opening") serve.database)
database_work (words.Import import) = Some (over_rows (codes "opening") import.database)
database_work (words.Office office) = Some (over_rows (codes "opening") office.database)
database_work (words.Statement statement) = Some (over_rows (codes "opening") statement.database)
database_work (words.Clock clock) = Some (over_rows (codes "opening") clock.database)
database_work (words.Replay replay) = Some (over_rows (codes "opening") replay.database)

-- the file whose lines words carry out
-- rule: terminal.long-files
abbrev pub input_work : ProgramWords → Option FileWork
input_work (words.Import import) = Some (over_lines (codes "importing") import.file)
input_work (words.Replay replay) = Some (over_lines (codes "replaying") replay.file)
input_work _ = None

-- ---- what is said of one

-- its line, without the line feed: `ocs: opening office.db, 41 MB`; none of a file that is shorter
-- rule: terminal: the line of a large file on a terminal, before work on it begins
abbrev pub work_line : FileWork → ℕ → Option Bytes
work_line w size = if nat_le w.least size then Some (codes "ocs: " ++ (w.doing ++ (codes " "
    ++ (w.path ++ (codes ", " ++ (decimal (size / 1000000) ++ codes " MB")))))) else None

-- what is written of it: the line with its line feed, or nothing
abbrev pub line_text : Option Bytes → Bytes
line_text None = []
line_text (Some line) = line ++ 10 ∷ []
