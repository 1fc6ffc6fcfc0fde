-- What the text of `read_covered_within` answers.
use Rattle.std.specs.Prelude.{codes, nat_le, option_map}
use Rattle.std.proofs.Common.{◌≡◌, inl, inr, ℕ, List, [], ◌∷◌, ◌++◌, map, drop, Bool, true, false}
use Rattle.std.proofs.Common.{◌&&◌, Some, None, Option, is_eq, nat_eq, nat_lt, ap₂, refl, sym, ap}
use Rattle.std.proofs.Common.{subst, ◌∙◌}
use Rattle.std.proofs.lemmas.Bool.{and_parts, cases_Bool}
use Rattle.std.specs.Cmp.{unsigned_Decides}
use Rattle.std.specs.List.{find}
use Rattle.sqlite_value.specs.declared.value.Value.TheVariants.{Null, Text}
use Rattle.sqlite_value.specs.declared.keys.Collation.TheVariants.{Binary}
use Rattle.sqlite_value.specs.declared.keys.Key.{Key}
use Rattle.sqlite_value.specs.Order.{Row, column, value_cmp}
use Rattle.sqlite_sql.specs.declared.ops.BinaryOp.TheVariants.{Compare}
use Rattle.sqlite_sql.specs.declared.ops.CompareOp.TheVariants.{Eq, Gt, Le}
use Rattle.sqlite_sql.specs.Term.{Term, col, op2}
use Rattle.sqlite_schema.specs.declared.command.Command.TheVariants.{Select}
use Rattle.sqlite_schema.specs.Rules.{equal}
use Rattle.sqlite_tied.specs.Compute.{everything}
use Rattle.sqlite_rules.proofs.ListLemmas.{has_found}
use Rattle.sqlite.specs.Given.{IsPlain}
use Rattle.sqlite.specs.Listing.{understood, reads_listing}
use Rattle.sqlite.specs.State.{State}
use Rattle.sqlite.proofs.Callers.{command_of}
use Rattle.sql_tables.specs.Keyed.{look}
use Rattle.sql_tables.specs.Schema.{covered, our_schema}
use Rattle.sql_tables.specs.Selects.{Selects}
use Rattle.sql_tables.specs.Statements.{Answers}
use Rattle.sql_tables.proofs.ByKey.{listed_told, only_all}
use Rattle.sql_tables.proofs.Columns.{equal_turned}
use Rattle.sql_tables.proofs.Keys.{keys_split, int_tie}
use Rattle.sql_tables.proofs.Selected.{select_from, selected_from, told}
use Rattle.sql_tables.proofs.Selections.{meets}
use Rattle.sql_tables.proofs.Steps.{and_last, and_true, mapped_to}
use Rattle.sql_rows.specs.declared.covered_rows.CoveredColumns.{CoveredColumns}
use Rattle.sql_rows.specs.Values.{nat, nat_in, charge_key, covered_cells, covered_in_row}
use Rattle.sql_rows.specs.Content.{rows_in}
use Rattle.sql_rows.specs.Lists.{AreCovered}
use Rattle.sql_rows.proofs.queries.Ranges.{is_beyond, is_up_to, lies_within, within_told}
use Rattle.sql_rows.proofs.queries.Ranges.{tied_within}

abbrev pub project : List Term
project = col 1 2 ∷ col 1 3 ∷ []

abbrev pub names : List (List ℕ)
names = codes "number" ∷ codes "blocks" ∷ []

abbrev pub columns : Row → Row
columns r = column r 2 ∷ column r 3 ∷ []

-- a stored row as one of the list
abbrev pub at_in : Row → CoveredColumns
at_in v = record { number = nat_in (column v 1); blocks = covered_in_row v }

pub same_columns : (r : Row) → at_in (drop 1 r) ≡ at_in (Null ∷ columns r)
same_columns [] = refl
same_columns (v ∷ vs) = refl

back : (x : CoveredColumns) (r : Row) → covered_cells x ≡ columns r → at_in (drop 1 r) ≡ x
back x r is = same_columns r ∙ ap (λ w. at_in (Null ∷ w)) (sym is) ∙ refl

blocks_only : (o : Option Row) →
    option_map (λ (x : CoveredColumns). x.blocks) (option_map at_in o)
    ≡ option_map covered_in_row o
blocks_only None = refl
blocks_only (Some v) = refl

abbrev pub read_covered_text : List ℕ
read_covered_text =
    codes "SELECT number, blocks "
    ++ codes "FROM covered WHERE account = ?1 AND number > ?2 AND number <= ?3 ORDER BY number"

abbrev pub covered_terms : List Term
covered_terms =
    op2 (Compare Eq Binary) (col 1 1) (col 0 0)
    ∷ op2 (Compare Gt Binary) (col 1 2) (col 0 1)
    ∷ op2 (Compare Le Binary) (col 1 2) (col 0 2) ∷ []

abbrev pub order : List (Term × Key)
order = (col 1 2, record { collation = Binary; descending = false }) ∷ []

pub text_is : (command_of (understood our_schema read_covered_text)
    ≡ Select (record { lets = []; body = select_from 29 covered_terms project order }) names) ×
    (reads_listing our_schema read_covered_text ≡ false)
unfolding understood everything
text_is = (refl, refl)

pub read_covered_plain : IsPlain (understood our_schema read_covered_text)
unfolding understood everything
read_covered_plain = (refl, refl)

module _ (a : List ℕ) (after last : ℕ) where
  abbrev pub front : Row → Bool
  front r = equal Binary (column r 1) (Text a)

  abbrev pub rest : ℕ → Row → Bool
  rest n r = is_eq (value_cmp (nat n) (column r 2))

  abbrev pub extra : Row → Bool
  extra r = lies_within after last (column r 2)

  pub splits : (n : ℕ) (r : Row) → meets (1 ∷ 2 ∷ []) (charge_key a n) r ≡ (front r && rest n r)
  splits n r =
      keys_split (Text a) (column r 1) (nat n ∷ []) (column r 2 ∷ [])
      ∙ ap₂ ◌&&◌ (sym (equal_turned (column r 1) (Text a) refl))
      (keys_split (nat n) (column r 2) [] [] ∙ and_true _)

  wanted : (n : ℕ) (x : CoveredColumns) (r : Row) → covered_cells x ≡ columns r →
      rest n r ≡ nat_eq x.number n
  wanted n x r is =
      ap (λ (w : Row). is_eq (value_cmp (nat n) (column w 0))) (sym is) ∙ int_tie x.number n

  abbrev is_in : ℕ → Bool
  is_in n = nat_lt after n && nat_le n last

  -- a row under the key of a charge between the numbers passes the test
  lives : (n : ℕ) (r : Row) → is_in n ≡ true → meets (1 ∷ 2 ∷ []) (charge_key a n) r ≡ true →
      extra r ≡ true
  lives n r here m =
      let parts = and_parts (front r) (rest n r) (sym (splits n r) ∙ m) in
      tied_within after last n (column r 2) parts.1 here

  -- each that was read lies between the numbers
  lies_told : (x : CoveredColumns) (r : Row) → extra r ≡ true → covered_cells x ≡ columns r →
      is_in x.number ≡ true
  lies_told x r e is =
      sym (within_told after last x.number)
      ∙ ap (λ (w : Row). lies_within after last (column w 0)) is ∙ e

  abbrev AreSelected : List Row → List CoveredColumns → Type 0
  AreSelected stored xs = Selects (λ r. front r && extra r) columns stored (map covered_cells xs)

  none_other : (stored : List Row) (xs : List CoveredColumns) → AreSelected stored xs → (n : ℕ)
      → is_in n ≡ false → find (λ x. nat_eq x.number n) xs ≡ None
  none_other stored xs selects n other = go (find (λ x. nat_eq x.number n) xs) refl
    where
      go : (o : Option CoveredColumns) → find (λ x. nat_eq x.number n) xs ≡ o
          → find (λ x. nat_eq x.number n) xs ≡ None
      go None e = e
      go (Some x) e =
          let h = has_found (λ x. nat_eq x.number n) xs x e in
          let it = selected_from (λ r. front r && extra r) columns stored (map covered_cells xs)
          selects (covered_cells x) (mapped_to covered_cells xs x h.0) in
          let both = and_parts (front it.0) (extra it.0) it.2 in
          let same : x.number ≡ n = (unsigned_Decides x.number n).0 h.1 in
          let inside : is_in n ≡ true =
          subst (λ m. is_in m ≡ true) same (lies_told x it.0 both.1 it.3) in
          absurd (let no : true ≡ false = sym inside ∙ other in cc)

  pub covered_selected : (old new : State) (rows : List Row)
      → Answers read_covered_text (Text a ∷ nat after ∷ nat last ∷ []) old new rows
      → Selects (λ r. front r && extra r) columns (old.now.trees 29) rows
  covered_selected old new rows got =
      told read_covered_text names 29 covered_terms project order text_is
      read_covered_plain (Text a ∷ nat after ∷ nat last ∷ [])
      (λ r. front r && extra r) columns
      (λ r. ap (λ t. front r && t)
      (and_last (is_beyond (column r 2) (nat after)) (is_up_to (column r 2) (nat last))))
      (λ r. refl) old new rows got

  -- rule: block-rows
  pub covered_read : (old new : State) (rows : List Row) (xs : List CoveredColumns) →
      Answers read_covered_text (Text a ∷ nat after ∷ nat last ∷ []) old new rows
      → map covered_cells xs ≡ rows → AreCovered after last (rows_in old.now.trees a) xs
  covered_read old new rows xs got is n = elim (cases_Bool (is_in n)) [
    | inl here ↦ rw here (ap (option_map (λ (x : CoveredColumns). x.blocks)) (at here) ∙ blocks_only _)
    | inr other ↦ rw other (ap (option_map (λ (x : CoveredColumns). x.blocks))
        (none_other (old.now.trees 29) xs selects n other))
  ]
    where
      selects : AreSelected (old.now.trees 29) xs
      selects = subst (Selects (λ r. front r && extra r) columns (old.now.trees 29)) (sym is)
          (covered_selected old new rows got)

      at : is_in n ≡ true → find (λ x. nat_eq x.number n) xs
          ≡ option_map at_in (look covered old.now.trees (charge_key a n))
      at here =
          listed_told covered
          (inr (inr (inr (inr (inr (inr (inr (inr (inr (inr (inr (inr (inr (inl refl))))))))))))))
          (inr (inr (inr (inr (inr (inr (inr (inr
          (inr (inr (inr (inr (inr (inr (inr (inr (inl refl)))))))))))))))))
          refl old.now.trees got.fits (got.book.stored.1.1.1.1.1.1.1.1.1.1.1.1.1.0) at_in
          covered_cells columns (λ r. front r && extra r) (charge_key a n) (refl, (refl, tt))
          (λ x r m. back x r) (λ x. nat_eq x.number n) (λ x. true) front (rest n) extra
          (λ r. refl) (splits n) (wanted n) (λ r m h. lives n r here m) (λ x r e same. refl) xs
          selects
          ∙ only_all _
