-- The charges of an account that a page has, by what the tables hold.
-- Source: profile.
use Rattle.std.specs.Prelude.{◌≡◌, refl, if◌then◌else◌, ◌+◌, ◌-◌, ◌≤◌, min, Option, Some, None}
use Rattle.std.specs.Prelude.{nat_eq, nat_le, Bool, List}
use Rattle.std.specs.List.{find}
use Rattle.units.specs.Words.{greatest_number}
use Rattle.ledger.specs.Words.{ChargeNumber}
use Rattle.sql_rows.specs.declared.head.HeadColumns.{HeadColumns}
use Rattle.sql_rows.specs.Content.{TableRows}
use Rattle.sql_rows.specs.Lists.{NumbersRise, is_row_within}
use Rattle.sql_tables.specs.Selects.{passing}
use Rattle.sql_keeper.specs.Content.{is_numbered, told_charge}
use Rattle.ledger.specs.declared.charge.ChargeRow.{ChargeRow}
use Rattle.keepers.specs.declared.pages.ChargePage.{ChargePage}

-- the number of an account's last charge; 0 where it has none
abbrev pub last_number : Option HeadColumns → ChargeNumber
last_number None = 0
last_number (Some h) = h.next_charge - 1

-- the number up to which a page goes that begins beyond this one: 256 numbers further
abbrev pub end_of_page : ChargeNumber → ChargeNumber
end_of_page after = min (after + 256) greatest_number

-- the charges that pass the test, with the blocks that were covered
abbrev pub AreTold : (ChargeRow → Bool) → TableRows → List ChargeRow → Type 0
AreTold test r xs = (n : ChargeNumber) →
    find (λ x. nat_eq x.number n) xs ≡ passing test (told_charge r n)

-- what is read for a page
pub record IsPageRead (r : TableRows) (after : ChargeNumber) (page : ChargePage) : Type 0 where
  pub last : page.last ≡ end_of_page after
  pub small : last_number r.head ≤ greatest_number
  pub is_last : page.is_last ≡ nat_le (last_number r.head) page.last
  pub rows : AreTold (is_row_within after (min page.last (last_number r.head))) r page.rows.items
  pub order : NumbersRise page.rows.items

-- no charge has the number 0
pub none_first : (head : Option HeadColumns) (row : Option ChargeRow) →
    (if is_numbered 0 head then row else None) ≡ None
none_first None row = refl
none_first (Some h) row = refl
