-- What the text of `read_open_rows` answers.
use Rattle.std.specs.Prelude.{codes}
use Rattle.std.proofs.Common.{◌≡◌, ◌⊎◌, ℕ, pos, List, [], ◌∷◌, ◌++◌, map, false, refl, sym, ap}
use Rattle.std.proofs.Common.{subst, ◌∙◌, inl, inr}
use Rattle.std.proofs.lemmas.List.{append_assoc}
use Rattle.sqlite_value.specs.declared.value.Value.TheVariants.{Int, Null, Text}
use Rattle.sqlite_value.specs.declared.keys.Collation.{Collation}
use Rattle.sqlite_value.specs.declared.keys.Collation.TheVariants.{Binary}
use Rattle.sqlite_value.specs.declared.keys.Key.{Key}
use Rattle.sqlite_value.specs.Order.{Row, column}
use Rattle.sqlite_trees.specs.Tree.{Trees}
use Rattle.sqlite_sql.specs.declared.ops.BinaryOp.TheVariants.{Compare}
use Rattle.sqlite_sql.specs.declared.ops.CompareOp.TheVariants.{Eq}
use Rattle.sqlite_sql.specs.Term.{Term, lit, col, op2}
use Rattle.sqlite_sql.specs.Program.{IsProgramAnswer}
use Rattle.sqlite_schema.specs.Program.{lets_of}
use Rattle.sqlite_schema.specs.declared.command.Command.TheVariants.{Select}
use Rattle.sqlite_schema.specs.declared.program.Program.{Program}
use Rattle.sqlite_schema.specs.Rules.{Fits}
use Rattle.sqlite_rules.specs.Lists.{Has}
use Rattle.sqlite_rules.proofs.ListLemmas.{has_either}
use Rattle.sqlite_tied.specs.Compute.{everything}
use Rattle.sqlite.specs.Given.{IsPlain}
use Rattle.sqlite.specs.Listing.{understood, reads_listing}
use Rattle.sqlite.specs.State.{State}
use Rattle.sqlite.proofs.Callers.{command_of, reads_as}
use Rattle.sql_tables.specs.Keyed.{IsStored}
use Rattle.sql_tables.specs.Schema.{our_schema}
use Rattle.sql_tables.specs.Statements.{Answers}
use Rattle.sql_tables.proofs.Steps.{and_true, mapped_from}
use Rattle.sql_rows.specs.declared.open_rows.OpenRows.{OpenRows}
use Rattle.sql_rows.specs.Content.{rows_in}
use Rattle.sql_rows.specs.Lists.{OpenGroupAt, SessionBookAt, SessionHoldAt, open_group_cells}
use Rattle.sql_rows.specs.Lists.{session_book_cells, session_hold_cells}
use Rattle.sql_rows.specs.Texts.{AreOpenRows, open_cells, open_group_at, session_book_at}
use Rattle.sql_rows.specs.Texts.{session_hold_at}
use Rattle.sql_rows.specs.Values.{nat}
use Rattle.sql_rows.proofs.queries.Coupled.{part_both}
use Rattle.sql_rows.proofs.selections.ReadAllGrantBooks as book
use Rattle.sql_rows.proofs.selections.ReadAllHolds as hold
use Rattle.sql_rows.proofs.selections.ReadOpenGroups as group
use Rattle.sql_rows.proofs.queries.Unioned.{part_from}
use Rattle.sql_rows.proofs.queries.Unions.{AreThose, IsOf, apart, both_part, one_part}
use Rattle.sql_rows.proofs.queries.Unions.{those_answered, three_parts, three_said}

abbrev pub read_open_rows_text : List ℕ
read_open_rows_text =
    codes "SELECT 0, session_groups.session, rating_group, period_before, period_after, used, "
    ++ codes "reserved FROM sessions, session_groups WHERE sessions.account = ?1 AND state = 1 "
    ++ codes "AND session_groups.account = sessions.account "
    ++ codes "AND session_groups.session = sessions.session "
    ++ codes "UNION ALL SELECT 1, session, rating_group, bucket, amount, NULL, NULL "
    ++ codes "FROM holds WHERE account = ?1 "
    ++ codes "UNION ALL SELECT 2, session, rating_group, book, NULL, NULL, NULL "
    ++ codes "FROM grant_books WHERE account = ?1 ORDER BY 1, 2, 3, 4"

abbrev group_terms : List Term
group_terms =
    op2 (Compare Eq Binary) (col 1 1) (col 0 0)
    ∷ op2 (Compare Eq Binary) (col 1 5) (lit (Int (pos 1)))
    ∷ op2 (Compare Eq Binary) (col 2 1) (col 1 1)
    ∷ op2 (Compare Eq Binary) (col 2 2) (col 1 2) ∷ []

abbrev group_project : List Term
group_project =
    lit (Int (pos 0)) ∷ col 2 2 ∷ col 2 3 ∷ col 2 6 ∷ col 2 7 ∷ col 2 4 ∷ col 2 5 ∷ []

abbrev account_terms : List Term
account_terms = op2 (Compare Eq Binary) (col 1 1) (col 0 0) ∷ []

abbrev hold_project : List Term
hold_project =
    lit (Int (pos 1)) ∷ col 1 2 ∷ col 1 3 ∷ col 1 4 ∷ col 1 5 ∷ lit Null ∷ lit Null ∷ []

abbrev book_project : List Term
book_project =
    lit (Int (pos 2)) ∷ col 1 2 ∷ col 1 3 ∷ col 1 4 ∷ lit Null ∷ lit Null ∷ lit Null ∷ []

abbrev names : List (List ℕ)
names =
    codes "0" ∷ codes "session" ∷ codes "rating_group" ∷ codes "period_before"
    ∷ codes "period_after" ∷ codes "used" ∷ codes "reserved" ∷ []

-- of the parts joined
abbrev shown : List Term
shown = col 1 1 ∷ col 1 2 ∷ col 1 3 ∷ col 1 4 ∷ col 1 5 ∷ col 1 6 ∷ col 1 7 ∷ []

abbrev by : List Collation
by = Binary ∷ Binary ∷ Binary ∷ Binary ∷ Binary ∷ Binary ∷ Binary ∷ Binary ∷ []

abbrev rising : Key
rising = record { collation = Binary; descending = false }

abbrev order : List (Term × Key)
order = (col 1 1, rising) ∷ (col 1 2, rising) ∷ (col 1 3, rising) ∷ (col 1 4, rising) ∷ []

abbrev program : Program
program = three_parts 8 by shown order (part_both 8 10 group_terms group_project)
    (part_from 12 account_terms hold_project) (part_from 24 account_terms book_project)

text_is : (command_of (understood our_schema read_open_rows_text)
    ≡ Select program names) ×
    (reads_listing our_schema read_open_rows_text ≡ false)
unfolding understood everything
text_is = (refl, refl)

pub read_open_rows_plain : IsPlain (understood our_schema read_open_rows_text)
unfolding understood everything
read_open_rows_plain = (refl, refl)

-- ---- the parts apart

zero_one : nat 0 ≡ nat 1 → ⊥
zero_one e = cc

zero_two : nat 0 ≡ nat 2 → ⊥
zero_two e = cc

one_two : nat 1 ≡ nat 2 → ⊥
one_two e = cc

-- each row of a list begins with the number of its part
listed : {X : Type 0} (cells : X → Row) (n : ℕ) → ((x : X) → column (cells x) 0 ≡ nat n)
    → (xs : List X) (v : Row) → Has (map cells xs) v → column v 0 ≡ nat n
listed cells n begins xs v h =
    let it = mapped_from cells xs v h in
    ap (λ w. column w 0) it.2 ∙ begins it.0

module _ (a : List ℕ) (trees : Trees) (fits : Fits our_schema trees)
    (stored : IsStored (trees 8)) where
  abbrev OfGroups : Row → Type 0
  OfGroups = IsOf (group.extra a trees fits stored) group.columns (trees 10)

  abbrev OfHolds : Row → Type 0
  OfHolds = IsOf (hold.front a) hold.columns (trees 12)

  abbrev OfBooks : Row → Type 0
  OfBooks = IsOf (book.front a) book.columns (trees 24)

  parted : (gs : List OpenGroupAt) (hs : List SessionHoldAt) (bs : List SessionBookAt)
      → AreThose (λ v. OfGroups v ⊎ (OfHolds v ⊎ OfBooks v)) (map open_group_cells gs
      ++ (map session_hold_cells hs ++ map session_book_cells bs))
      → AreThose OfGroups (map open_group_cells gs)
      × (AreThose OfHolds (map session_hold_cells hs)
      × AreThose OfBooks (map session_book_cells bs))
  parted gs hs bs those =
      let one = apart OfGroups (λ v. OfHolds v ⊎ OfBooks v) (map open_group_cells gs)
      (map session_hold_cells hs ++ map session_book_cells bs) no_later no_group those in (
        one.0,
        apart OfHolds OfBooks (map session_hold_cells hs) (map session_book_cells bs)
            no_book no_hold one.1,
      )
    where
      group_listed : (v : Row) → Has (map open_group_cells gs) v → column v 0 ≡ nat 0
      group_listed = listed open_group_cells 0 (λ x. refl) gs

      hold_listed : (v : Row) → Has (map session_hold_cells hs) v → column v 0 ≡ nat 1
      hold_listed = listed session_hold_cells 1 (λ x. refl) hs

      book_listed : (v : Row) → Has (map session_book_cells bs) v → column v 0 ≡ nat 2
      book_listed = listed session_book_cells 2 (λ x. refl) bs

      no_later : (v : Row) → OfGroups v
          → Has (map session_hold_cells hs ++ map session_book_cells bs) v → ⊥
      no_later v (r, has, test, is) h =
          elim (has_either (map session_hold_cells hs) (map session_book_cells bs) v h) [
            | inl k ↦ zero_one (sym (ap (λ w. column w 0) is) ∙ hold_listed v k)
            | inr k ↦ zero_two (sym (ap (λ w. column w 0) is) ∙ book_listed v k)
          ]

      no_group : (v : Row) → OfHolds v ⊎ OfBooks v → Has (map open_group_cells gs) v → ⊥
      no_group v (inl (r, has, test, is)) h =
          zero_one (sym (group_listed v h) ∙ ap (λ w. column w 0) is)
      no_group v (inr (r, has, test, is)) h =
          zero_two (sym (group_listed v h) ∙ ap (λ w. column w 0) is)

      no_book : (v : Row) → OfHolds v → Has (map session_book_cells bs) v → ⊥
      no_book v (r, has, test, is) h =
          one_two (sym (ap (λ w. column w 0) is) ∙ book_listed v h)

      no_hold : (v : Row) → OfBooks v → Has (map session_hold_cells hs) v → ⊥
      no_hold v (r, has, test, is) h =
          one_two (sym (hold_listed v h) ∙ ap (λ w. column w 0) is)

  selected : (rows : List Row) (old new : State) → old.now.trees ≡ trees
      → Answers read_open_rows_text (Text a ∷ []) old new rows
      → AreThose (λ v. OfGroups v ⊎ (OfHolds v ⊎ OfBooks v)) rows
  selected rows old new is got =
      three_said trees (Text a ∷ []) 8 by shown order (part_both 8 10 group_terms group_project)
      (part_from 12 account_terms hold_project) (part_from 24 account_terms book_project)
      OfGroups OfHolds OfBooks
      (both_part 8 10 refl refl group_terms group_project trees (Text a ∷ []) shown
      (group.both a trees fits stored) group.columns (λ t r. refl) (λ t r. refl) (λ r. refl))
      (one_part 12 refl account_terms hold_project trees (Text a ∷ []) shown (hold.front a)
      hold.columns (λ r. and_true (hold.front a r)) (λ r. refl) (λ r. refl))
      (one_part 24 refl account_terms book_project trees (Text a ∷ []) shown (book.front a)
      book.columns (λ r. and_true (book.front a r)) (λ r. refl) (λ r. refl)) rows
      (subst (λ db. IsProgramAnswer (lets_of program) program.body db (Text a ∷ []) rows) is
      (reads_as read_open_rows_text (Text a ∷ []) old new our_schema got.book.schema
      (Select program names) text_is.0 read_open_rows_plain text_is.1 rows got.shown).answer)

pub open_rows_read : (a : List ℕ) (old new : State) (rows : List Row) (x : OpenRows)
    → Answers read_open_rows_text (Text a ∷ []) old new rows → open_cells x ≡ rows
    → AreOpenRows (rows_in old.now.trees a) x
open_rows_read a old new rows x got is =
    let trees : Trees = old.now.trees in
    let fits : Fits our_schema trees = got.fits in
    let stored : IsStored (trees 8) = got.book.stored.1.1.1.1.0 in
    let gs : List OpenGroupAt = map open_group_at x.groups.items in
    let hs : List SessionHoldAt = map session_hold_at x.holds.items in
    let bs : List SessionBookAt = map session_book_at x.books.items in
    let those = parted a trees fits stored gs hs bs
    (subst (AreThose (λ v. OfGroups a trees fits stored v
    ⊎ (OfHolds a trees fits stored v ⊎ OfBooks a trees fits stored v)))
    (sym is ∙ append_assoc (map open_group_cells gs) (map session_hold_cells hs)
    (map session_book_cells bs))
    (selected a trees fits stored rows old new refl got)) in
    record {
      groups = group.open_groups_answered a trees fits stored (got.book.stored.1.1.1.1.1.0) gs
          (those_answered (group.extra a trees fits stored) group.columns (trees 10)
          (map open_group_cells gs) those.0);
      holds = hold.holds_answered a trees fits (got.book.stored.1.1.1.1.1.1.0) hs
          (those_answered (hold.front a) hold.columns (trees 12) (map session_hold_cells hs)
          those.1.0);
      books = book.books_answered a trees fits (got.book.stored.1.1.1.1.1.1.1.1.1.1.1.0) bs
          (those_answered (book.front a) book.columns (trees 24) (map session_book_cells bs)
          those.1.1);
    }
