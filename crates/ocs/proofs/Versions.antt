-- The version that is printed names that of the tables.
use Rattle.std.proofs.Common.{◌≡◌, ◌++◌, List, ℕ, ap, arith, sym}
use Rattle.std.proofs.lemmas.Fmt.{decimal_digit}
use Rattle.std.specs.Fmt.{decimal}
use Rattle.std.specs.Prelude.{codes}
use Rattle.operator.specs.Program.{version_text}
use Rattle.sql_tables.specs.Schema.{latest}

-- rule: version
pub names_tables : version_text ≡ codes "0.2.0, tables " ++ (decimal latest
    ++ codes ", rattle-kit-13f logic dac8208d650f15bf")
names_tables = sym (ap (λ (digits : List ℕ). codes "0.2.0, tables " ++ (digits
    ++ codes ", rattle-kit-13f logic dac8208d650f15bf")) (decimal_digit 3 (omega arith)))
