-- Schemas in which there is no number with a fraction: those are told apart without fail.
-- Source: profile.
use Rattle.std.specs.Prelude.{Bool, true, false, ◌&&◌}
use Rattle.std.specs.List.{list_all}
use Rattle.sqlite_value.specs.declared.value.Value.{Value}
use Rattle.sqlite_value.specs.declared.value.Value.TheVariants.{Real}
use Rattle.sqlite_sql.specs.Term.{Term, lit, col, op1, op2, case}
use Rattle.sqlite_schema.specs.declared.schema.Column.{Column}
use Rattle.sqlite_schema.specs.declared.schema.Stamps.{Stamps}
use Rattle.sqlite_schema.specs.declared.schema.Table.{Table}
use Rattle.sqlite_schema.specs.declared.schema.Schema.{Schema}

abbrev pub is_plain_value : Value → Bool
is_plain_value (Real x) = false
is_plain_value _ = true

abbrev pub is_plain_term : Term → Bool
is_plain_term (lit v) = is_plain_value v
is_plain_term (col slot at) = true
is_plain_term (op1 op a) = is_plain_term a
is_plain_term (op2 op a b) = is_plain_term a && is_plain_term b
is_plain_term (case t a b) = is_plain_term t && is_plain_term a && is_plain_term b

abbrev pub is_plain_column : Column → Bool
is_plain_column c = is_plain_value c.default

abbrev pub is_plain_stamps : Stamps → Bool
is_plain_stamps s = list_all is_plain_term s.terms

abbrev pub is_plain_table : Table → Bool
is_plain_table t =
    list_all is_plain_column t.columns && list_all is_plain_term t.checks
    && is_plain_stamps t.stamps

abbrev pub is_plain : Schema → Bool
is_plain s = list_all is_plain_table s.tables
