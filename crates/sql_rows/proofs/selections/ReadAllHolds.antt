-- Rows of what is held, as `read_open_rows` selects them.
use Rattle.std.specs.Prelude.{option_map}
use Rattle.std.proofs.Common.{◌≡◌, inl, inr, ℕ, List, [], ◌∷◌, map, drop, Bool, true}
use Rattle.std.proofs.Common.{◌&&◌, Some, None, Option, is_eq, refl, sym, ap, ap₂}
use Rattle.std.proofs.Common.{◌∙◌}
use Rattle.sqlite_value.specs.declared.value.Value.TheVariants.{Null, Text}
use Rattle.sqlite_value.specs.declared.keys.Collation.TheVariants.{Binary}
use Rattle.sqlite_value.specs.Order.{Row, column, value_cmp}
use Rattle.sqlite_trees.specs.Tree.{Trees}
use Rattle.sqlite_schema.specs.Rules.{Fits, equal}
use Rattle.sql_tables.specs.Keyed.{IsStored}
use Rattle.sql_tables.specs.Schema.{holds, our_schema}
use Rattle.sql_tables.proofs.ByKey.{answered_told, only_all}
use Rattle.sql_tables.proofs.Columns.{equal_turned}
use Rattle.sql_tables.proofs.Keys.{keys_split, int_tie, text_tie}
use Rattle.sql_tables.proofs.Selected.{AreAnswered}
use Rattle.sql_tables.proofs.Selections.{meets}
use Rattle.sql_tables.proofs.Steps.{and_true}
use Rattle.sql_rows.specs.Values.{hold_in, hold_key, nat, nat_in, text_in}
use Rattle.sql_rows.specs.Content.{rows_in}
use Rattle.sql_rows.specs.Lists.{AreAllHolds, SessionHoldAt, is_hold_of, session_hold_cells}

-- a stored row as one of the list
abbrev at_in : Row → SessionHoldAt
at_in v = record {
  session = text_in (column v 1);
  group = nat_in (column v 2);
  bucket = nat_in (column v 3);
  amount = hold_in v;
}

-- the columns that are read as one of the list
abbrev from_cells : Row → SessionHoldAt
from_cells w = record {
  session = text_in (column w 1);
  group = nat_in (column w 2);
  bucket = nat_in (column w 3);
  amount = hold_in w;
}

abbrev pub columns : Row → Row
columns r =
    nat 1 ∷ column r 2 ∷ column r 3 ∷ column r 4 ∷ column r 5 ∷ Null ∷ Null ∷ []

same_columns : (r : Row) → at_in (drop 1 r) ≡ from_cells (columns r)
same_columns [] = refl
same_columns (v ∷ vs) = refl

back : (x : SessionHoldAt) (r : Row) → session_hold_cells x ≡ columns r → at_in (drop 1 r) ≡ x
back x r is = same_columns r ∙ ap from_cells (sym is) ∙ refl

amounts_only : (o : Option Row) →
    option_map (λ (x : SessionHoldAt). x.amount) (option_map at_in o) ≡ option_map hold_in o
amounts_only None = refl
amounts_only (Some v) = refl

module _ (a : List ℕ) where
  abbrev pub front : Row → Bool
  front r = equal Binary (column r 1) (Text a)

  abbrev rest : List ℕ → ℕ → ℕ → Row → Bool
  rest s g n r = is_eq (value_cmp (Text s) (column r 2))
      && (is_eq (value_cmp (nat g) (column r 3)) && is_eq (value_cmp (nat n) (column r 4)))

  splits : (s : List ℕ) (g n : ℕ) (r : Row) →
      meets (1 ∷ 2 ∷ 3 ∷ 4 ∷ []) (hold_key a s g n) r ≡ (front r && rest s g n r)
  splits s g n r =
      keys_split (Text a) (column r 1) (Text s ∷ nat g ∷ nat n ∷ [])
      (column r 2 ∷ column r 3 ∷ column r 4 ∷ [])
      ∙ ap₂ ◌&&◌ (sym (equal_turned (column r 1) (Text a) refl))
      (keys_split (Text s) (column r 2) (nat g ∷ nat n ∷ []) (column r 3 ∷ column r 4 ∷ [])
      ∙ ap (λ t. is_eq (value_cmp (Text s) (column r 2)) && t)
      (keys_split (nat g) (column r 3) (nat n ∷ []) (column r 4 ∷ [])
      ∙ ap (λ t. is_eq (value_cmp (nat g) (column r 3)) && t)
      (keys_split (nat n) (column r 4) [] [] ∙ and_true _)))

  wanted : (s : List ℕ) (g n : ℕ) (x : SessionHoldAt) (r : Row)
      → session_hold_cells x ≡ columns r → rest s g n r ≡ is_hold_of s g n x
  wanted s g n x r is =
      ap (λ (w : Row). is_eq (value_cmp (Text s) (column w 1))
      && (is_eq (value_cmp (nat g) (column w 2)) && is_eq (value_cmp (nat n) (column w 3))))
      (sym is)
      ∙ ap₂ ◌&&◌ (text_tie x.session s) (ap₂ ◌&&◌ (int_tie x.group g) (int_tie x.bucket n))

  -- a list of those rows
  pub holds_answered : (trees : Trees) → Fits our_schema trees → IsStored (trees 12)
      → (xs : List SessionHoldAt)
      → AreAnswered front columns (trees 12) (map session_hold_cells xs)
      → AreAllHolds (rows_in trees a) xs
  holds_answered trees fits stored xs answered s g n =
      ap (option_map (λ (x : SessionHoldAt). x.amount))
      (answered_told holds (inr (inr (inr (inr (inr (inr (inl refl)))))))
      (inr (inr (inr (inr (inr (inr (inl refl))))))) refl trees fits stored at_in
      session_hold_cells columns front (hold_key a s g n) (refl, (refl, (refl, (refl, tt))))
      (λ x r m. back x r) (is_hold_of s g n) (λ x. true) front (rest s g n) (λ r. true)
      (λ r. sym (and_true (front r))) (splits s g n) (wanted s g n) (λ r m h. refl)
      (λ x r e same. refl) xs answered ∙ only_all _)
      ∙ amounts_only _
