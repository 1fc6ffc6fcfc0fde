-- Rows as the statements write them, in the tables whose columns can hold more than is read of
-- them.
-- Source: profile.
use Rattle.std.specs.Prelude.{◌≡◌, ◌&&◌, ◌||◌, Bool, Some, IsTrue, nat_eq, nat_le}
use Rattle.sqlite_sql.specs.Ops.{is_null}
use Rattle.sqlite_value.specs.Order.{Row as Values, column}
use Rattle.sqlite_trees.specs.Tree.{Trees}
use Rattle.sqlite_schema.specs.declared.schema.Table.{Table}
use Rattle.sql_tables.specs.Keyed.{look}
use Rattle.sql_tables.specs.Schema.{accounts, session_groups, sessions}
use Rattle.sql_rows.specs.Values.{nat_in}

-- an account is barred (1) or not (0)
abbrev pub is_plain_head : Values → Bool
is_plain_head v = nat_le (nat_in (column v 1)) 1

-- a session is open, ended or never opened
abbrev pub is_plain_session : Values → Bool
is_plain_session v = nat_le 1 (nat_in (column v 4)) && nat_le (nat_in (column v 4)) 3

-- a group has a reservation, or none and no period
abbrev pub is_plain_group : Values → Bool
is_plain_group v =
    (nat_eq 0 (nat_in (column v 4)) && is_null (column v 5) && is_null (column v 6))
    || nat_eq 1 (nat_in (column v 4))

-- the row under each key passes the test
abbrev pub AreAll : (Values → Bool) → Table → Trees → Type 0
AreAll test table trees =
    (key cells : Values) → look table trees key ≡ Some cells → IsTrue (test cells)

-- rule: rows-ruled.in-rules
pub record ArePlain (trees : Trees) : Type 0 where
  pub heads : AreAll is_plain_head accounts trees
  pub of_sessions : AreAll is_plain_session sessions trees
  pub of_groups : AreAll is_plain_group session_groups trees
