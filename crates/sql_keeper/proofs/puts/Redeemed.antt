-- A voucher that is put under its code reads as the voucher.
use Rattle.std.proofs.Common.{◌≡◌, Bool, true, false, Option, Some, None, refl}
use Rattle.std.specs.Prelude.{if◌then◌else◌, option_map}
use Rattle.identifiers.specs.Texts.{same_name}
use Rattle.keepers.specs.declared.loaded.Redeemed.{Redeemed}
use Rattle.keepers.specs.Change.{redeemed_over}
use Rattle.sql_rows.specs.Content.{TablesContent}
use Rattle.sql_keeper.specs.Content.{tables_of, voucher_in, Names}
use Rattle.sql_keeper.specs.Writes.{voucher_row, with_redeemed}

-- what is under a code once a row more is
pub told_over : {A B : Type 0} (f : A → B) (b : Bool) (x : A) (o : Option A)
    → option_map f (if b then Some x else o) ≡ (if b then Some (f x) else option_map f o)
told_over f true x o = refl
told_over f false x o = refl

pub redeemed_read : (names : Names) (redeemed : Option Redeemed) (c : TablesContent)
    → tables_of names (with_redeemed redeemed c)
    ≡ record (tables_of names c) {
      vouchers = λ code. redeemed_over redeemed code (option_map voucher_in (c.vouchers code));
    }
redeemed_read names None c = refl
redeemed_read names (Some r) c = λ i. record (tables_of names c) {
  vouchers = λ code.
      told_over voucher_in (same_name r.code code) (voucher_row r.voucher) (c.vouchers code) i;
}
