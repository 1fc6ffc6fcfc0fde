-- What a connection to the files at a path is.
-- Source: profile.
use Rattle.std.specs.Prelude.{◌≡◌, codes, Result, Err, IsTrue, IfErr, IfOk}
use Rattle.texts.specs.StreamWords.{Bytes}
use Rattle.sqlite_disk.specs.declared.Disk as disk
use Rattle.sqlite_wal.specs.Recovery.{Image}
use Rattle.sqlite_store.specs.declared.store.FileStore.{FileStore}
use Rattle.sqlite.specs.Held.{Held, IsNew}
use Rattle.sqlite.specs.Files.{file_state, IsOpened}
use Rattle.sqlite.specs.Opening.{is_open_error}
use Rattle.sqlite.specs.Start.{FindsIn}
use Rattle.sqlite.specs.State.{HasCleanDisk}
use Rattle.wal_check.specs.Sound.{IsSoundImage}
use Rattle.sqlite.specs.declared.error.Error.TheVariants.{SqliteFailure}
use Rattle.sqlite.specs.declared.error.ErrorCode.TheVariants.{CannotOpen}
use Rattle.service.specs.declared.database_files.ConnectFault.{ConnectFault}
use Rattle.service.specs.declared.database_files.ConnectFault.TheVariants.{Refused, Unruled}

-- an error that an opening reports, or a row that doesn't obey its schema
abbrev pub IsConnectFault : ConnectFault → Type 0
IsConnectFault (Refused error) = IsTrue (is_open_error error)
IsConnectFault Unruled = Unit {0}

-- What the files held is found, and is what a stop of the machine can have left. A path that SQLite
-- takes for a database in memory isn't opened.
pub record ConnectsTo {D : Type 0} {g : disk.Ghosts D} (image : Image) (path : Bytes)
    (result : Result (Held (FileStore D g)) ConnectFault) : Type 0 where
  pub memory : path ≡ codes ":memory:" → result ≡ Err (Refused (SqliteFailure CannotOpen))
  pub named : IfErr result IsConnectFault
  pub opened : IfOk result (λ c. HasCleanDisk (file_state c) → IsOpened c)
  pub found : IfOk result (λ c. HasCleanDisk (file_state c) → FindsIn image (file_state c))
  pub sound : IfOk result (λ c. HasCleanDisk (file_state c) → IsSoundImage image)
  pub fresh : IfOk result IsNew
  pub guarded : IfOk result (λ c. HasCleanDisk (file_state c) → (file_state c).IsShielded)
