-- Files as the definitions read them.
use Rattle.std.proofs.Common.{◌≡◌, [], ◌∷◌, Some, None, Ok, Err, codes, refl}
use Rattle.csv.proofs.OnLiterals.{csv_on_literals}
use Rattle.vouchers.specs.declared.fault.FaultKind.TheVariants.{Header, Code}
use Rattle.vouchers.specs.Files.{fault_at, vouchers_from, vouchers_in}
use Rattle.vouchers.specs.Rows.{number_in_field, optional_in_field, terms_of, voucher_of}

-- three vouchers: with days, with more days, with a scope
pub three_vouchers : vouchers_in
    (codes
    "code,amount,days,scope\n000000000001,5000000,30,\n000000000002,10000000,90,\n000000000003,1000000,7,20\n")
    ≡ Ok (record {
      code = codes "000000000001";
      terms = record { amount = 5000000; days = Some 30; scope = None };
    }
    ∷ record {
      code = codes "000000000002";
      terms = record { amount = 10000000; days = Some 90; scope = None };
    }
    ∷ record {
      code = codes "000000000003";
      terms = record { amount = 1000000; days = Some 7; scope = Some 20 };
    } ∷ [])
unfolding csv_on_literals vouchers_from voucher_of terms_of number_in_field optional_in_field
three_vouchers = refl

-- a code of 11 digits in the second voucher
pub short_code : vouchers_in (codes "code,amount,days,scope\n000000000001,5,1,\n00000000002,5,1,\n")
    ≡ Err (fault_at 3 Code)
unfolding csv_on_literals vouchers_from voucher_of terms_of number_in_field optional_in_field
short_code = refl

-- no record, and the header alone
pub nothing : vouchers_in [] ≡ Err (fault_at 1 Header)
unfolding csv_on_literals
nothing = refl

pub header_alone : vouchers_in (codes "code,amount,days,scope") ≡ Ok []
unfolding csv_on_literals vouchers_from
header_alone = refl

-- a byte order mark, an empty line, CR LF, quoted fields, no days
pub as_csv_reads : vouchers_in
    (0xEF ∷ 0xBB ∷ 0xBF ∷ codes "code,\"amount\",days,scope\r\n\r\n\"000000000001\",1,,0\r\n")
    ≡ Ok (record {
      code = codes "000000000001";
      terms = record { amount = 1; days = None; scope = Some 0 };
    } ∷ [])
unfolding csv_on_literals vouchers_from voucher_of terms_of number_in_field optional_in_field
as_csv_reads = refl
