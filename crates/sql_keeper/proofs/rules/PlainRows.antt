-- Rows in their rules are as the statements write them.
use Rattle.std.proofs.Common.{◌≡◌, ◌&&◌, ◌||◌, Bool, true, false, [], ◌∷◌, refl, sym}
use Rattle.std.proofs.Common.{subst, ap, arith, drop, nat_eq, nat_le}
use Rattle.std.specs.Prelude.{option_map}
use Rattle.std.proofs.lemmas.Bool.{and_parts}
use Rattle.shelves.specs.Shelves.{Shelf}
use Rattle.sqlite_sql.specs.Ops.{is_null}
use Rattle.sqlite_value.specs.declared.value.Value.{Value}
use Rattle.sqlite_value.specs.Order.{Row, column}
use Rattle.sqlite_trees.specs.Tree.{Trees}
use Rattle.sql_tables.specs.Schema.{accounts, latest, session_groups, sessions}
use Rattle.sql_rows.specs.Plain.{ArePlain, is_plain_group, is_plain_head, is_plain_session}
use Rattle.sql_rows.specs.Values.{nat_in}
use Rattle.sql_rules.specs.Columns.{is_in_bounds, number_at}
use Rattle.sql_rules.specs.Rules.{are_periods, is_period, is_ruled_account, is_ruled_group}
use Rattle.sql_rules.specs.Rules.{is_ruled_session}
use Rattle.sql_rules.specs.Tables.{AreRightBy, last_kept}
use Rattle.sql_rules.proofs.Contents.{rows_in_rules}
use Rattle.sql_rules.proofs.Lookups.{found_in}

-- ---- a column of what is under a key, behind the rowid

second_of : (r : Row) → column (drop 1 r) 1 ≡ column r 2
second_of [] = refl
second_of (v ∷ cells) = refl

fifth_of : (r : Row) → column (drop 1 r) 4 ≡ column r 5
fifth_of [] = refl
fifth_of (v ∷ cells) = refl

sixth_of : (r : Row) → column (drop 1 r) 5 ≡ column r 6
sixth_of [] = refl
sixth_of (v ∷ cells) = refl

seventh_of : (r : Row) → column (drop 1 r) 6 ≡ column r 7
seventh_of [] = refl
seventh_of (v ∷ cells) = refl

-- ---- one row

second_of_five : (p q r s t : Bool) → (p && q && r && s && t) ≡ true → q ≡ true
second_of_five true true r s t h = refl
second_of_five true false r s t h = absurd (cc h)
second_of_five false q r s t h = absurd (cc h)

none_or_some : (p a b c : Bool) → (p || (a && b && c)) ≡ true → (p || a) ≡ true
none_or_some true a b c h = refl
none_or_some false true b c h = refl
none_or_some false false b c h = absurd (cc h)

plain_head : (r : Row) → is_ruled_account r ≡ true → is_plain_head (drop 1 r) ≡ true
plain_head r h = subst (λ v. nat_le (nat_in v) 1 ≡ true) (sym (second_of r))
    (second_of_five _ (nat_le (number_at r 2) 1) _ _ _ h)

plain_session : (r : Row) → is_ruled_session r ≡ true → is_plain_session (drop 1 r) ≡ true
plain_session r h = subst (λ v. is_in_bounds 1 3 (nat_in v) ≡ true) (sym (fifth_of r))
    (and_parts _ (is_in_bounds 1 3 (number_at r 5)) h).1

abbrev plain_by : Value → Value → Value → Bool
plain_by reserved before after =
    (nat_eq 0 (nat_in reserved) && is_null before && is_null after)
    || nat_eq 1 (nat_in reserved)

plain_group : (shelf : Shelf) (r : Row) → is_ruled_group shelf r ≡ true →
    is_plain_group (drop 1 r) ≡ true
plain_group shelf r h =
    let n = number_at r 5 in
    let before = column r 6 in
    let after = column r 7 in
    let periods = (and_parts _ (are_periods shelf n before after) h).1 in
    let some : plain_by (column r 5) before after ≡ true =
    none_or_some (nat_eq 0 n && is_null before && is_null after) (nat_eq 1 n)
    (is_period shelf before) (is_period shelf after) periods in
    subst (λ v. plain_by v (column (drop 1 r) 5) (column (drop 1 r) 6) ≡ true) (sym (fifth_of r))
    (subst (λ v. plain_by (column r 5) v (column (drop 1 r) 6) ≡ true) (sym (sixth_of r))
    (subst (λ v. plain_by (column r 5) before v ≡ true) (sym (seventh_of r)) some))

-- ---- the tables

-- rule: stop-ruled
pub rows_plain : (shelf : Shelf) (trees : Trees)
    → AreRightBy shelf (last_kept trees) latest trees → ArePlain trees
rows_plain shelf trees all = record {
  heads = λ key cells e.
      let it = found_in accounts trees is_ruled_account (rows_in_rules shelf trees all 1 (omega arith)) (λ (v : Row). v)
      key cells (ap (option_map (λ (v : Row). v)) e) in
      subst (λ v. is_plain_head v ≡ true) it.3 (plain_head it.0 it.2);
  of_sessions = λ key cells e.
      let it = found_in sessions trees is_ruled_session (rows_in_rules shelf trees all 4 (omega arith)) (λ (v : Row). v)
      key cells (ap (option_map (λ (v : Row). v)) e) in
      subst (λ v. is_plain_session v ≡ true) it.3 (plain_session it.0 it.2);
  of_groups = λ key cells e.
      let it = found_in session_groups trees (is_ruled_group shelf) (rows_in_rules shelf trees all 5 (omega arith))
      (λ (v : Row). v) key cells (ap (option_map (λ (v : Row). v)) e) in
      subst (λ v. is_plain_group v ≡ true) it.3 (plain_group shelf it.0 it.2);
}
