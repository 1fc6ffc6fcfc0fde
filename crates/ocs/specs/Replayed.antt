-- What a replay leaves of the tables that it found.
-- Source: profile.
use Rattle.std.specs.Prelude.{Option, None}
use Rattle.texts.specs.StreamWords.{Bytes}
use Rattle.shelves.specs.Shelves.{Shelf}
use Rattle.keepers.specs.Tables.{Tables}
use Rattle.charging.specs.Continued.{ForEachList}
use Rattle.operations.specs.LinesServed.{AreLinesAnswered}

-- the lines of a stream are answered, for every list of accepted commands whose tables were found:
-- their text is written, and the tables are those of their commands too
-- rule: database-words.opened-in
abbrev pub IsReplayDone : Bytes → Option Bytes → Option Bytes → Shelf → Tables → Tables → Type 0
IsReplayDone stream before after shelf old new =
    ForEachList shelf old (AreLinesAnswered shelf None stream before after new)
