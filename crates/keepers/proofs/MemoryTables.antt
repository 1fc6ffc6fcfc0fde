-- The tables of the keeper in memory where nothing is written.
use Rattle.std.proofs.Common.{◌≡◌, ℕ, List, ap}
use Rattle.std.specs.HashMap.{get}
use Rattle.identifiers.specs.Texts.{same_name}
use Rattle.keepers.specs.declared.entries.AccountEntry.{AccountEntry}
use Rattle.keepers.specs.Tables.{charge_in}
use Rattle.keepers.specs.Memory.{AreUnchanged, VoucherMap, memory_tables}

-- there is room for one voucher more
pub same_vouchers : (last : ℕ) (entries : List AccountEntry) (old new : VoucherMap) →
    ((code : List ℕ) → get same_name new code ≡ get same_name old code) →
    memory_tables last entries new ≡ memory_tables last entries old
same_vouchers last entries old new same i =
    record (memory_tables last entries old) { vouchers = λ code. same code i }

-- and no account is another one
pub same_tables : (last : ℕ) (xs ys : List AccountEntry) (old new : VoucherMap) →
    AreUnchanged xs ys →
    ((code : List ℕ) → get same_name new code ≡ get same_name old code) →
    memory_tables last ys new ≡ memory_tables last xs old
same_tables last xs ys old new h same i = record {
  last = last;
  rows = λ a. h.rows a i;
  answers = λ a k. h.answers a k i;
  charges = λ a n. ap (charge_in n) (h.charges a) i;
  vouchers = λ code. same code i;
  count = h.count i;
}
