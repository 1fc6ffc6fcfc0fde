-- What a fault of a command over a database is reported by.
-- Source: profile.
use Rattle.std.specs.Prelude.{codes}
use Rattle.tariffs.specs.Faults.{book_fault_number}
use Rattle.shelves.specs.Succession.{shelf_fault_number}
use Rattle.sql_tables.specs.Faults.{open_fault_number}
use Rattle.sql_tables.specs.declared.fault.OpenFault.TheVariants as opening
use Rattle.sqlite.specs.declared.error.Error.TheVariants.{SqliteFailure}
use Rattle.sqlite.specs.declared.error.ErrorCode.TheVariants.{OutOfMemory}
use Rattle.sql_keeper.specs.declared.create_fault.CreateFault.{CreateFault}
use Rattle.sql_keeper.specs.declared.create_fault.CreateFault.TheVariants as create
use Rattle.sql_keeper.specs.declared.add_fault.AddFault.{AddFault}
use Rattle.sql_keeper.specs.declared.add_fault.AddFault.TheVariants as add
use Rattle.operations.specs.Told.{FaultWords, about_office, plain_words, numbered_words}
use Rattle.operations.specs.declared.fault.OfficeFault.TheVariants.{Store}
use Rattle.service.specs.declared.database_files.ConnectFault.{ConnectFault}
use Rattle.service.specs.declared.database_files.ConnectFault.TheVariants.{Refused, Unruled}
use Rattle.service.specs.declared.fault.DatabaseFault.{DatabaseFault}
use Rattle.service.specs.declared.fault.DatabaseFault.TheVariants.{File, Clock, Book, Open}
use Rattle.service.specs.declared.fault.DatabaseFault.TheVariants.{Shelf, Net, Memory}
use Rattle.service.specs.declared.fault.DatabaseFault.TheVariants.{Office}

-- what a fault is reported by: what failed, and its number where it has one
abbrev pub about_database : DatabaseFault → FaultWords
about_database File = plain_words (codes "ocs: file fault")
about_database Clock = plain_words (codes "ocs: clock fault")
about_database (Book fault) = numbered_words (codes "ocs: book fault") (book_fault_number fault)
about_database (Open fault) = numbered_words (codes "ocs: open fault") (open_fault_number fault)
about_database (Shelf fault) = numbered_words (codes "ocs: shelf fault") (shelf_fault_number fault)
about_database Net = plain_words (codes "ocs: net fault")
about_database Memory = plain_words (codes "ocs: memory fault")
about_database (Office fault) = about_office fault

-- files that aren't opened are reported as a file, but for want of memory and for their rows
abbrev pub connect_fault : ConnectFault → DatabaseFault
connect_fault (Refused (SqliteFailure OutOfMemory)) = Memory
connect_fault (Refused error) = File
connect_fault Unruled = Open opening.Rules

-- a database that isn't made is reported as one that isn't opened
abbrev pub making_fault : CreateFault → DatabaseFault
making_fault (create.Book fault) = Book fault
making_fault create.Present = Open opening.Foreign
making_fault create.Store = Open opening.Store
making_fault create.Memory = Open opening.Memory

-- a book that isn't added is reported by its cause, one of the store as of a command
abbrev pub adding_fault : AddFault → DatabaseFault
adding_fault (add.Book fault) = Book fault
adding_fault (add.Shelf fault) = Shelf fault
adding_fault (add.Store fault) = Office (Store fault)
