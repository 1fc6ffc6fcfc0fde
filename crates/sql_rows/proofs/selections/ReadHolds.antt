-- What the text of `read_holds` answers.
use Rattle.std.specs.Prelude.{codes, option_map}
use Rattle.std.proofs.Common.{◌≡◌, inl, inr, ℕ, List, [], ◌∷◌, ◌++◌, map, drop, Bool, true}
use Rattle.std.proofs.Common.{false, ◌&&◌, Some, None, Option, is_eq, refl, sym, ap, ap₂}
use Rattle.std.proofs.Common.{subst, ◌∙◌, nat_eq}
use Rattle.sqlite_value.specs.declared.value.Value.TheVariants.{Null, Text}
use Rattle.sqlite_value.specs.declared.keys.Collation.TheVariants.{Binary}
use Rattle.sqlite_value.specs.declared.keys.Key.{Key}
use Rattle.sqlite_value.specs.Order.{Row, column, value_cmp}
use Rattle.sqlite_sql.specs.declared.ops.BinaryOp.TheVariants.{Compare}
use Rattle.sqlite_sql.specs.declared.ops.CompareOp.TheVariants.{Eq}
use Rattle.sqlite_sql.specs.Term.{Term, col, op2}
use Rattle.sqlite_schema.specs.declared.command.Command.TheVariants.{Select}
use Rattle.sqlite_schema.specs.Rules.{equal}
use Rattle.sqlite_tied.specs.Compute.{everything}
use Rattle.sqlite.specs.Given.{IsPlain}
use Rattle.sqlite.specs.Listing.{understood, reads_listing}
use Rattle.sqlite.specs.State.{State}
use Rattle.sqlite.proofs.Callers.{command_of}
use Rattle.sql_tables.specs.Schema.{holds, our_schema}
use Rattle.sql_tables.specs.Selects.{Selects}
use Rattle.sql_tables.specs.Statements.{Answers}
use Rattle.sql_tables.proofs.ByKey.{listed_told, only_all}
use Rattle.sql_tables.proofs.Columns.{equal_turned}
use Rattle.sql_tables.proofs.Keys.{keys_split, int_tie}
use Rattle.sql_tables.proofs.Selected.{select_from, told}
use Rattle.sql_tables.proofs.Selections.{meets}
use Rattle.sql_tables.proofs.Steps.{and_apart, and_true}
use Rattle.sql_rows.specs.Values.{nat, nat_in, hold_key, hold_in}
use Rattle.sql_rows.specs.Content.{rows_in}
use Rattle.sql_rows.specs.declared.hold_rows.HeldColumns.{HeldColumns}
use Rattle.sql_rows.specs.Lists.{hold_cells, AreHolds}

-- a stored row as one of the list
abbrev pub at_in : Row → HeldColumns
at_in v = record { group = nat_in (column v 2); bucket = nat_in (column v 3); amount = hold_in v }

abbrev pub project : List Term
project = col 1 3 ∷ col 1 4 ∷ col 1 5 ∷ []

abbrev pub names : List (List ℕ)
names = codes "rating_group" ∷ codes "bucket" ∷ codes "amount" ∷ []

abbrev pub columns : Row → Row
columns r = column r 3 ∷ column r 4 ∷ column r 5 ∷ []

pub same_columns : (r : Row) → at_in (drop 1 r) ≡ at_in (Null ∷ Null ∷ columns r)
same_columns [] = refl
same_columns (v ∷ vs) = refl

back : (x : HeldColumns) (r : Row) → hold_cells x ≡ columns r → at_in (drop 1 r) ≡ x
back x r is = same_columns r ∙ ap (λ w. at_in (Null ∷ Null ∷ w)) (sym is) ∙ refl

abbrev pub read_holds_text : List ℕ
read_holds_text = codes "SELECT rating_group, bucket, amount "
    ++ codes "FROM holds WHERE account = ?1 AND session = ?2 ORDER BY rating_group, bucket"

abbrev pub holds_terms : List Term
holds_terms =
    op2 (Compare Eq Binary) (col 1 1) (col 0 0)
    ∷ op2 (Compare Eq Binary) (col 1 2) (col 0 1) ∷ []

abbrev pub holds_order : List (Term × Key)
holds_order = (col 1 3, record { collation = Binary; descending = false }) ∷
    (col 1 4, record { collation = Binary; descending = false }) ∷ []

pub holds_is : (command_of (understood our_schema read_holds_text)
    ≡ Select (record { lets = []; body = select_from 12 holds_terms project holds_order }) names) ×
    (reads_listing our_schema read_holds_text ≡ false)
unfolding understood everything
holds_is = (refl, refl)

pub read_holds_plain : IsPlain (understood our_schema read_holds_text)
unfolding understood everything
read_holds_plain = (refl, refl)

amounts_only : (o : Option Row) →
    option_map (λ (x : HeldColumns). x.amount) (option_map at_in o) ≡ option_map hold_in o
amounts_only None = refl
amounts_only (Some v) = refl

module _ (a s : List ℕ) where
  abbrev pub front : Row → Bool
  front r = equal Binary (column r 1) (Text a) && equal Binary (column r 2) (Text s)

  abbrev pub rest : ℕ → ℕ → Row → Bool
  rest g n r = is_eq (value_cmp (nat g) (column r 3)) && is_eq (value_cmp (nat n) (column r 4))

  pub splits : (g n : ℕ) (r : Row) →
      meets (1 ∷ 2 ∷ 3 ∷ 4 ∷ []) (hold_key a s g n) r ≡ (front r && rest g n r)
  splits g n r =
      keys_split (Text a) (column r 1) (Text s ∷ nat g ∷ nat n ∷ [])
      (column r 2 ∷ column r 3 ∷ column r 4 ∷ [])
      ∙ ap₂ ◌&&◌ (sym (equal_turned (column r 1) (Text a) refl))
      (keys_split (Text s) (column r 2) (nat g ∷ nat n ∷ []) (column r 3 ∷ column r 4 ∷ [])
      ∙ ap₂ ◌&&◌ (sym (equal_turned (column r 2) (Text s) refl))
      (keys_split (nat g) (column r 3) (nat n ∷ []) (column r 4 ∷ []) ∙ ap₂ ◌&&◌ refl
      (keys_split (nat n) (column r 4) [] [] ∙ and_true _)))
      ∙ and_apart (equal Binary (column r 1) (Text a))
      (equal Binary (column r 2) (Text s)) (rest g n r)

  wanted : (g n : ℕ) (x : HeldColumns) (r : Row) → hold_cells x ≡ columns r → rest g n r ≡
      (nat_eq x.group g && nat_eq x.bucket n)
  wanted g n x r is =
      ap₂ ◌&&◌ (ap (λ (w : Row). is_eq (value_cmp (nat g) (column w 0))) (sym is)
      ∙ int_tie x.group g)
      (ap (λ (w : Row). is_eq (value_cmp (nat n) (column w 1))) (sym is) ∙ int_tie x.bucket n)

  pub holds_selected : (old new : State) (rows : List Row)
      → Answers read_holds_text (Text a ∷ Text s ∷ []) old new rows
      → Selects (λ r. front r && true) columns (old.now.trees 12) rows
  holds_selected old new rows got =
      told read_holds_text names 12 holds_terms project holds_order holds_is read_holds_plain
      (Text a ∷ Text s ∷ [])
      (λ r. front r && true) columns (λ r. and_apart (equal Binary (column r 1) (Text a))
      (equal Binary (column r 2) (Text s)) true) (λ r. refl) old new rows got

  -- rule: statements-of-tables.with-session-row
  pub holds_read : (old new : State) (rows : List Row) (xs : List HeldColumns) → Answers read_holds_text
      (Text a ∷ Text s ∷ []) old new rows
      → map hold_cells xs ≡ rows → AreHolds (rows_in old.now.trees a) s xs
  holds_read old new rows xs got is g n =
      ap (option_map (λ (x : HeldColumns). x.amount))
      (listed_told holds (inr (inr (inr (inr (inr (inr (inl refl)))))))
      (inr (inr (inr (inr (inr (inr (inl refl))))))) refl old.now.trees got.fits
      (got.book.stored.1.1.1.1.1.1.0) at_in hold_cells columns
      (λ r. front r && true) (hold_key a s g n) (refl, (refl, (refl, (refl, tt))))
      (λ x r m. back x r) (λ x. nat_eq x.group g && nat_eq x.bucket n) (λ x. true) front (rest g n)
      (λ r. true) (λ r. refl) (splits g n) (wanted g n) (λ r m h. refl) (λ x r e same. refl) xs
      (subst (Selects (λ r. front r && true) columns (old.now.trees 12)) (sym is)
      (holds_selected old new rows got))
      ∙ only_all _)
      ∙ amounts_only _
