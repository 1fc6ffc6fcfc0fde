-- Rows that are in the rules of their tables, and wrong beside a row of another table.
-- Source: profile.
use Rattle.std.specs.Prelude.{◌≡◌, ◌&&◌, Bool, false}
use Rattle.sqlite_value.specs.declared.value.Value.{Value}
use Rattle.sqlite_value.specs.declared.keys.Collation.TheVariants.{Binary}
use Rattle.sqlite_value.specs.Order.{Row, column}
use Rattle.sqlite_trees.specs.Tree.{Trees}
use Rattle.sqlite_rules.specs.Lists.{Has}
use Rattle.sqlite_sql.specs.declared.ops.BinaryOp.TheVariants.{Compare}
use Rattle.sqlite_sql.specs.declared.ops.CompareOp.TheVariants.{Eq, Ge, Gt, Ne}
use Rattle.sqlite_sql.specs.Ops.{binary, is_true}
use Rattle.sqlite_schema.specs.declared.schema.Table.{Table}
use Rattle.sql_tables.specs.Schema.{accounts, buckets, charges, session_groups, sessions}
use Rattle.sql_rows.specs.Values.{nat}

-- ---- as SQL compares: a NULL is equal to nothing, above nothing, and differs from nothing

abbrev pub is_equal : Value → Value → Bool
is_equal v w = is_true (binary (Compare Eq Binary) v w)

-- the one, or a greater one
abbrev pub is_from : Value → Value → Bool
is_from v w = is_true (binary (Compare Ge Binary) v w)

abbrev pub is_above : Value → Value → Bool
is_above v w = is_true (binary (Compare Gt Binary) v w)

abbrev pub differs : Value → Value → Bool
differs v w = is_true (binary (Compare Ne Binary) v w)

-- ---- what is wrong

-- a charge of this account has its next number or a greater one
-- rule: rows-ruled.beside
abbrev pub is_ahead : Row → Row → Bool
is_ahead account charge =
    is_equal (column charge 1) (column account 1) && is_from (column charge 2) (column account 5)

-- a bucket of this account has its next number or a greater one
-- rule: rows-ruled.beside
abbrev pub is_bucket_ahead : Row → Row → Bool
is_bucket_ahead account bucket =
    is_equal (column bucket 1) (column account 1) && is_from (column bucket 2) (column account 4)

-- an open session of this account was touched after the moment that the account's rows stand for
-- rule: rows-ruled.beside
abbrev pub is_touched_after : Row → Row → Bool
is_touched_after account session =
    is_equal (column session 1) (column account 1) && is_equal (column session 5) (nat 1)
    && is_above (column session 4) (column account 3)

-- the session of a reservation isn't open
-- rule: rows-ruled.beside
abbrev pub lacks_open_session : Row → Row → Bool
lacks_open_session group session =
    is_equal (column group 5) (nat 1) && is_equal (column session 1) (column group 1)
    && is_equal (column session 2) (column group 2) && differs (column session 5) (nat 1)

-- no row of the one table is wrong beside a row of the other
abbrev pub NoneWrong : (Row → Row → Bool) → Table → Table → Trees → Type 0
NoneWrong wrong first second trees =
    (r s : Row) → Has (trees first.tree) r → Has (trees second.tree) s → wrong r s ≡ false

-- rule: rows-ruled.beside: no charge and no bucket has a number from its account's next one on, no
--   open session was touched after its account's moment, and each reservation is in an open session
pub record AreRightBeside (trees : Trees) : Type 0 where
  pub numbers : NoneWrong is_ahead accounts charges trees
  pub buckets : NoneWrong is_bucket_ahead accounts buckets trees
  pub moments : NoneWrong is_touched_after accounts sessions trees
  pub reservations : NoneWrong lacks_open_session session_groups sessions trees
