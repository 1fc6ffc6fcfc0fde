-- What becomes of a file of vouchers, by what its reading and its import gave.
use Rattle.std.proofs.Common.{◌≡◌, ℕ, List, Option, Some, None, IfSome, Result, Ok, Err, IsTrue}
use Rattle.std.proofs.Common.{◌∙◌, ap, false, le_refl, subst, sym}
use Rattle.std.specs.Prelude.{IfNone, OnOk}
use Rattle.std.specs.Io.KnownBytes.{Appends}
use Rattle.texts.specs.declared.streams.StreamFault.{StreamFault}
use Rattle.commands.specs.declared.command.VoucherAddition.{VoucherAddition}
use Rattle.shelves.specs.Shelves.{Shelf}
use Rattle.keepers.specs.Seen.{Seen}
use Rattle.keepers.specs.Tables.{Tables}
use Rattle.keepers.specs.declared.fault.StoreFault.{StoreFault}
use Rattle.charging.specs.Promise.{Carries}
use Rattle.operations.specs.Counts.{counts_line}
use Rattle.operations.specs.Faults.{store_fault}
use Rattle.operations.specs.Imports.{BeginsImport, TellsImport, additions}
use Rattle.operations.specs.Written.{WritesBeginning}
use Rattle.operations.specs.declared.fault.OfficeFault.{OfficeFault}
use Rattle.operations.specs.declared.fault.OfficeFault.TheVariants.{Store, Write}
use Rattle.operations.proofs.KeeperFaults.{carried}
use Rattle.vouchers.specs.Faults.{is_in_file}
use Rattle.vouchers.specs.Files.{MayStopAt, vouchers_in}
use Rattle.vouchers.specs.declared.fault.VoucherFault.{VoucherFault}
use Rattle.service.specs.Importing.{IsFileImported, IsFileImportFault, import_store_fault}
use Rattle.service.specs.declared.fault.DatabaseFault.TheVariants.{Office}
use Rattle.service.specs.declared.importing.ImportFault.{ImportFault}
use Rattle.service.specs.declared.importing.ImportFault.TheVariants.{Vouchers, Database}

module _ (b : Shelf) (t : ℕ) (old new : Tables) (before after : Option (List ℕ)) where
  -- all were added
  pub imported : (rows : List VoucherAddition) (r : Option (List ℕ)) →
      IfSome r (λ text. vouchers_in text ≡ Ok rows) →
      TellsImport b (additions t rows) old new
      (λ counts. Appends before after (counts_line counts)) →
      IfSome r (λ text. IsFileImported b text t old new
      (λ counts. Appends before after (counts_line counts)))
  imported rows None says told = tt
  imported rows (Some text) says told = record { rows = rows; says = says; imported = told }

  -- the store or the writer failed
  -- rule: import
  pub not_told : {A : Type 0} (rows : List VoucherAddition) (r : Option (List ℕ))
      (given : Result A OfficeFault) (f : OfficeFault) → given ≡ Err f →
      IfSome r (λ text. vouchers_in text ≡ Ok rows) →
      ((fault : StreamFault) → given ≡ Err (Write fault) →
      TellsImport b (additions t rows) old new
      (λ counts. WritesBeginning before after (counts_line counts))) →
      ((fault : StoreFault) → given ≡ Err (Store fault) →
      BeginsImport b (additions t rows) old new) →
      IfSome r (λ text. IsFileImportFault b text t old new before after (Database (Office f)))
  not_told rows None given f is says untold unserved = tt
  not_told rows (Some text) given (Store fault) is says untold unserved =
      record { rows = rows; says = says; begun = unserved fault is }
  not_told rows (Some text) given (Write fault) is says untold unserved =
      record { rows = rows; says = says; imported = untold fault is }

  -- the file has a fault, or wasn't read
  pub not_read : (r : Option (List ℕ)) (f : VoucherFault) →
      (IsTrue (is_in_file f.kind) → IfSome r (λ text. vouchers_in text ≡ Err f)) →
      (is_in_file f.kind ≡ false → IfSome r (MayStopAt f.record_number)) → new ≡ old →
      IfSome r (λ text. IsFileImportFault b text t old new before after (Vouchers f))
  not_read None f told stopped same = tt
  not_read (Some text) f told stopped same = (told, stopped, same)

-- ---- what is left of a keeper

-- it was asked nothing
pub carried_unread : {A : Type 0} (keeper : Seen) (result : Result A ImportFault)
    (given : ImportFault) (fault : VoucherFault) → result ≡ Err given → given ≡ Vouchers fault →
    Carries keeper keeper (import_store_fault result)
carried_unread {A = A} keeper result given fault is told =
    subst (λ (r : Result A ImportFault). Carries keeper keeper (import_store_fault r))
    (sym (is ∙ ap (λ (f : ImportFault). Err f) told))
    (carried keeper keeper (λ clean. clean) (λ honest. honest) (λ honest clean. clean)
    (le_refl keeper.failed))

-- the office's fault is handed on
pub carried_on : {A : Type 0} (old new : Seen) (result : Result A ImportFault)
    (given : ImportFault) (fault : OfficeFault) → result ≡ Err given →
    given ≡ Database (Office fault) → Carries old new (store_fault fault) →
    Carries old new (import_store_fault result)
carried_on {A = A} old new result given fault is told h =
    subst (λ (r : Result A ImportFault). Carries old new (import_store_fault r))
    (sym (is ∙ ap (λ (f : ImportFault). Err f) told)) h

-- what ends well leaves a keeper that can be asked
pub carried_stands : {A : Type 0} (new : Seen) (result : Result A ImportFault) →
    IfNone (import_store_fault result) new.clean → OnOk result new.clean
carried_stands new (Ok x) there = there
carried_stands new (Err fault) there = tt
