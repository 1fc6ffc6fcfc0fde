-- What the text of `read_groups` answers.
use Rattle.std.specs.Prelude.{codes, option_map}
use Rattle.std.proofs.Common.{◌≡◌, inl, inr, ℕ, List, [], ◌∷◌, ◌++◌, map, drop, true}
use Rattle.std.proofs.Common.{false, ◌&&◌, Some, None, Option, is_eq, refl, sym, ap}
use Rattle.std.proofs.Common.{subst, ◌∙◌, nat_eq}
use Rattle.sqlite_value.specs.declared.value.Value.TheVariants.{Null, Text}
use Rattle.sqlite_value.specs.declared.keys.Collation.TheVariants.{Binary}
use Rattle.sqlite_value.specs.Order.{Row, column, value_cmp}
use Rattle.sqlite_sql.specs.Term.{Term, col}
use Rattle.sqlite_schema.specs.declared.command.Command.TheVariants.{Select}
use Rattle.sqlite_schema.specs.Rules.{equal}
use Rattle.sqlite_tied.specs.Compute.{everything}
use Rattle.sqlite.specs.Given.{IsPlain}
use Rattle.sqlite.specs.Listing.{understood, reads_listing}
use Rattle.sqlite.specs.State.{State}
use Rattle.sqlite.proofs.Callers.{command_of}
use Rattle.sql_tables.specs.Schema.{session_groups, our_schema}
use Rattle.sql_tables.specs.Selects.{Selects}
use Rattle.sql_tables.specs.Statements.{Answers}
use Rattle.sql_tables.proofs.ByKey.{listed_told, only_all}
use Rattle.sql_tables.proofs.Keys.{int_tie}
use Rattle.sql_tables.proofs.Selected.{select_from, told}
use Rattle.sql_tables.proofs.Steps.{and_apart}
use Rattle.sql_rows.specs.Values.{nat, nat_in, group_key, group_in_row}
use Rattle.sql_rows.specs.Content.{rows_in}
use Rattle.sql_rows.specs.Lists.{GroupAt, AreGroups, group_at_cells}
use Rattle.sql_rows.proofs.puts.PutGroup.{group_told}
use Rattle.sql_rows.proofs.queries.OfSession.{of_session, by_group, is_of_session, is_of_group}
use Rattle.sql_rows.proofs.queries.OfSession.{splits}

-- a stored row as one of the list
abbrev at_in : Row → GroupAt
at_in v = record { group = nat_in (column v 2); row = group_in_row v }

at_told : (x : GroupAt) → at_in (Null ∷ Null ∷ group_at_cells x) ≡ x
at_told x = λ i. record { group = x.group; row = group_told Null Null x.group x.row i }

abbrev project : List Term
project = col 1 3 ∷ col 1 4 ∷ col 1 5 ∷ col 1 6 ∷ col 1 7 ∷ []

abbrev names : List (List ℕ)
names = codes "rating_group" ∷ codes "used" ∷ codes "reserved" ∷ codes "period_before"
    ∷ codes "period_after" ∷ []

abbrev columns : Row → Row
columns r = column r 3 ∷ column r 4 ∷ column r 5 ∷ column r 6 ∷ column r 7 ∷ []

same_columns : (r : Row) → at_in (drop 1 r) ≡ at_in (Null ∷ Null ∷ columns r)
same_columns [] = refl
same_columns (v ∷ vs) = refl

back : (x : GroupAt) (r : Row) → group_at_cells x ≡ columns r → at_in (drop 1 r) ≡ x
back x r is = same_columns r ∙ ap (λ w. at_in (Null ∷ Null ∷ w)) (sym is) ∙ at_told x

abbrev pub read_groups_text : List ℕ
read_groups_text = codes "SELECT rating_group, used, reserved, period_before, period_after "
    ++ codes "FROM session_groups WHERE account = ?1 AND session = ?2 ORDER BY rating_group"

groups_is : (command_of (understood our_schema read_groups_text)
    ≡ Select (record { lets = []; body = select_from 10 of_session project by_group }) names) ×
    (reads_listing our_schema read_groups_text ≡ false)
unfolding understood everything
groups_is = (refl, refl)

pub read_groups_plain : IsPlain (understood our_schema read_groups_text)
unfolding understood everything
read_groups_plain = (refl, refl)

rows_only : (o : Option Row) →
    option_map (λ (x : GroupAt). x.row) (option_map at_in o) ≡ option_map group_in_row o
rows_only None = refl
rows_only (Some v) = refl

module _ (a s : List ℕ) where
  wanted : (g : ℕ) (x : GroupAt) (r : Row) → group_at_cells x ≡ columns r →
      is_of_group g r ≡ nat_eq x.group g
  wanted g x r is = ap (λ (w : Row). is_eq (value_cmp (nat g) (column w 0))) (sym is)
      ∙ int_tie x.group g

  pub groups_read : (old new : State) (rows : List Row) (xs : List GroupAt) →
      Answers read_groups_text (Text a ∷ Text s ∷ []) old new rows
      → map group_at_cells xs ≡ rows → AreGroups (rows_in old.now.trees a) s xs
  groups_read old new rows xs got is g =
      ap (option_map (λ (x : GroupAt). x.row))
      (listed_told session_groups (inr (inr (inr (inr (inr (inl refl))))))
      (inr (inr (inr (inr (inr (inl refl)))))) refl old.now.trees got.fits
      (got.book.stored.1.1.1.1.1.0) at_in group_at_cells columns
      (λ r. is_of_session a s r && true) (group_key a s g) (refl, (refl, (refl, tt)))
      (λ x r m. back x r) (λ x. nat_eq x.group g) (λ x. true) (is_of_session a s) (is_of_group g)
      (λ r. true) (λ r. refl)
      (splits a s g) (wanted g) (λ r m h. refl) (λ x r e same. refl) xs
      (subst (Selects (λ r. is_of_session a s r && true) columns (old.now.trees 10)) (sym is)
      (told read_groups_text names 10 of_session project by_group groups_is read_groups_plain
      (Text a ∷ Text s ∷ [])
      (λ r. is_of_session a s r && true) columns
      (λ r. and_apart (equal Binary (column r 1) (Text a)) (equal Binary (column r 2) (Text s))
      true) (λ r. refl) old new rows got))
      ∙ only_all _)
      ∙ rows_only _
