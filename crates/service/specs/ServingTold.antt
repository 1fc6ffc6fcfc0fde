-- What is reported of a port and of its connections, and which faults come before the first
-- connection.
-- Source: profile.
use Rattle.std.specs.Prelude.{◌≡◌, ◌≤◌, ℕ, List, [], ◌∷◌, ◌++◌, codes, length, Option, Result}
use Rattle.std.specs.Prelude.{IfErr, IfOk, OnErr, OnOk}
use Rattle.std.specs.Fmt.{decimal}
use Rattle.std.specs.Io.KnownBytes.{Appends}
use Rattle.texts.specs.StreamWords.{Bytes}
use Rattle.sqlite_disk.specs.declared.Disk as disk
use Rattle.sqlite_wal.specs.Recovery.{Image}
use Rattle.sqlite_store.specs.declared.store.FileStore.{FileStore}
use Rattle.sqlite.specs.Files.{file_state}
use Rattle.shelves.specs.Shelves.{Shelf}
use Rattle.keepers.specs.Seen.{Seen}
use Rattle.charging.specs.Continued.{Continues, LeavesOn}
use Rattle.sql_keeper.specs.Inside.{KeeperState, IsClean}
use Rattle.operations.specs.Written.{WritesBeginning}
use Rattle.operator.specs.declared.parsed.ServeWords.{ServeWords}
use Rattle.http_api.specs.declared.fault.ServeFault.{ServeFault}
use Rattle.http_api.specs.declared.fault.ServeFault.TheVariants.{Memory, Read, Write}
use Rattle.service.specs.Over.{Comes}
use Rattle.service.specs.declared.fault.DatabaseFault.{DatabaseFault}
use Rattle.service.specs.declared.fault.DatabaseFault.TheVariants as database

-- ---- lines, with their line feeds

-- a port is listened to
-- rule: port.listening-line: a port that is listened to is reported, or why it isn't
abbrev pub listening_line : ℕ → Bytes
listening_line port = codes "listening 127.0.0.1:" ++ (decimal port ++ codes "\n")

-- a connection's fault: a socket's is the network's
-- rule: port
abbrev pub connection_line : ServeFault → Bytes
connection_line Memory = codes "ocs: memory fault\n"
connection_line Read = codes "ocs: net fault\n"
connection_line Write = codes "ocs: net fault\n"

-- ---- connections

-- the faults are written one after another, each as its line or a beginning of it
abbrev pub WritesFaults : List ServeFault → Option Bytes → Option Bytes → Type 0
WritesFaults [] old new = new ≡ old
WritesFaults (fault ∷ faults) old new =
    (between : Option (List ℕ)) × WritesBeginning old between (connection_line fault)
    × WritesFaults faults between new

-- so many faults are
-- rule: port: connections of a port are served, and their faults reported
pub record TellsFaults (count : ℕ) (old new : Option Bytes) : Type 0 where
  pub faults : List ServeFault
  pub count_is : length faults ≡ count
  pub written : WritesFaults faults old new

-- ---- before the first connection

-- a fault of the database, of the port, or of the line that reports it
-- rule: port.listening-line
abbrev pub IsServeFault : DatabaseFault → Type 0
IsServeFault database.File = Unit {0}
IsServeFault (database.Open fault) = Unit {0}
IsServeFault database.Net = Unit {0}
IsServeFault database.Memory = Unit {0}
IsServeFault _ = ⊥

-- one after which nothing is printed of the port
abbrev pub IsUnlistened : DatabaseFault → Type 0
IsUnlistened database.File = ⊥
IsUnlistened database.Memory = ⊥
IsUnlistened _ = Unit {0}

-- one of printing that it is listened to
abbrev pub IsTellFault : DatabaseFault → Type 0
IsTellFault database.File = Unit {0}
IsTellFault database.Memory = Unit {0}
IsTellFault _ = ⊥

-- ---- a port

-- that it is listened to is printed, and so many of its connections' faults; or a fault comes
-- before the first connection
pub record Listens {A O E : Type 0} (contents : O → Option Bytes) (faults : E → Option Bytes)
    (words : ServeWords) (failed : A → ℕ) (old new : O) (before after : E)
    (result : Result A DatabaseFault) : Type 0 where
  pub listening : OnOk result (Appends (contents old) (contents new) (listening_line words.port))
  pub begun : OnErr result
      (WritesBeginning (contents old) (contents new) (listening_line words.port))
  pub unwritten : IfErr result (λ fault. IsUnlistened fault → new ≡ old)
  -- rule: port
  pub told : IfOk result (λ r. TellsFaults (failed r) (faults before) (faults after))
  pub bounded : IfOk result (λ r. failed r ≤ words.connections)
  pub untold : OnErr result (after ≡ before)
  pub fault : IfErr result IsServeFault

-- so it is, and what the files held goes on by the requests that were accepted
pub record ListensOver {D O E : Type 0} {g : disk.Ghosts D} (image : Image)
    (contents : O → Option Bytes) (faults : E → Option Bytes) (words : ServeWords) (old new : O)
    (before after : E) (result : Result (ℕ × KeeperState (FileStore D g)) DatabaseFault)
    : Type 0 where
  -- rule: port
  pub continued : IfOk result (λ r. IsClean (file_state r.1.connection) →
      Comes image r.1 Continues)
  pub listens : Listens contents faults words (λ r. r.0) old new before after result

-- so many connections at most end in a fault, each of which is reported; what was accepted is what
-- the tables go on by
-- rule: port
pub record ServesConnections {E : Type 0} (faults : E → Option Bytes)
    (b : Shelf) (connections : ℕ) (old new : Seen) (before after : E) (result : ℕ) : Type 0 where
  pub told : TellsFaults result (faults before) (faults after)
  pub bounded : result ≤ connections
  pub continued : new.clean → Continues b old.tables new.tables
  pub cleanness : new.clean → old.clean
  pub honesty : new.honest → old.honest
  pub left : LeavesOn b old new
  pub failures : old.failed ≤ new.failed
