-- The rows of a session's groups in a table, selected by account and session in their order.
use Rattle.std.proofs.Common.{◌≡◌, ℕ, List, [], ◌∷◌, Bool, false, ◌&&◌, is_eq, refl, sym, ap₂, ◌∙◌}
use Rattle.sqlite_value.specs.declared.value.Value.TheVariants.{Text}
use Rattle.sqlite_value.specs.declared.keys.Collation.TheVariants.{Binary}
use Rattle.sqlite_value.specs.declared.keys.Key.{Key}
use Rattle.sqlite_value.specs.Order.{Row, column, value_cmp}
use Rattle.sqlite_sql.specs.declared.ops.BinaryOp.TheVariants.{Compare}
use Rattle.sqlite_sql.specs.declared.ops.CompareOp.TheVariants.{Eq}
use Rattle.sqlite_sql.specs.Term.{Term, col, op2}
use Rattle.sqlite_schema.specs.Rules.{equal}
use Rattle.sql_tables.proofs.Columns.{equal_turned}
use Rattle.sql_tables.proofs.Keys.{keys_split}
use Rattle.sql_tables.proofs.Selections.{meets}
use Rattle.sql_tables.proofs.Steps.{and_apart, and_true}
use Rattle.sql_rows.specs.Values.{nat, group_key}

abbrev pub of_session : List Term
of_session =
    op2 (Compare Eq Binary) (col 1 1) (col 0 0)
    ∷ op2 (Compare Eq Binary) (col 1 2) (col 0 1) ∷ []

abbrev pub by_group : List (Term × Key)
by_group = (col 1 3, record { collation = Binary; descending = false }) ∷ []

abbrev pub is_of_session : List ℕ → List ℕ → Row → Bool
is_of_session a s r = equal Binary (column r 1) (Text a) && equal Binary (column r 2) (Text s)

abbrev pub is_of_group : ℕ → Row → Bool
is_of_group g r = is_eq (value_cmp (nat g) (column r 3))

-- so the key is met by the session's rows of the group
pub splits : (a s : List ℕ) (g : ℕ) (r : Row) →
    meets (1 ∷ 2 ∷ 3 ∷ []) (group_key a s g) r ≡ (is_of_session a s r && is_of_group g r)
splits a s g r =
    keys_split (Text a) (column r 1) (Text s ∷ nat g ∷ []) (column r 2 ∷ column r 3 ∷ [])
    ∙ ap₂ ◌&&◌ (sym (equal_turned (column r 1) (Text a) refl))
    (keys_split (Text s) (column r 2) (nat g ∷ []) (column r 3 ∷ [])
    ∙ ap₂ ◌&&◌ (sym (equal_turned (column r 2) (Text s) refl))
    (keys_split (nat g) (column r 3) [] [] ∙ and_true _))
    ∙ and_apart (equal Binary (column r 1) (Text a))
    (equal Binary (column r 2) (Text s)) (is_of_group g r)
