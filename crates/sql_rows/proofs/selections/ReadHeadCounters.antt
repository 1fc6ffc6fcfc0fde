-- What the text of `read_head_counters` answers.
use Rattle.std.specs.Prelude.{codes}
use Rattle.std.proofs.Common.{◌≡◌, inl, inr, ℕ, pos, List, [], ◌∷◌, ◌++◌, map, drop, take, Bool}
use Rattle.std.proofs.Common.{true, false, ◌&&◌, Some, None, Option, refl, sym, ap, ◌∙◌, nat_eq}
use Rattle.std.specs.List.{find}
use Rattle.sqlite_value.specs.declared.value.Value.TheVariants.{Int, Text}
use Rattle.sqlite_value.specs.declared.keys.Collation.{Collation}
use Rattle.sqlite_value.specs.declared.keys.Collation.TheVariants.{Binary}
use Rattle.sqlite_value.specs.declared.keys.Key.{Key}
use Rattle.sqlite_value.specs.Order.{Row, column}
use Rattle.sqlite_trees.specs.Tree.{Trees}
use Rattle.sqlite_sql.specs.declared.ops.BinaryOp.TheVariants.{Compare}
use Rattle.sqlite_sql.specs.declared.ops.CompareOp.TheVariants.{Eq}
use Rattle.sqlite_sql.specs.Term.{Term, lit, col, op2}
use Rattle.sqlite_schema.specs.declared.command.Command.TheVariants.{Select}
use Rattle.sqlite_schema.specs.Rules.{Fits}
use Rattle.sqlite_tied.specs.Compute.{everything}
use Rattle.sqlite.specs.Given.{IsPlain}
use Rattle.sqlite.specs.Listing.{understood, reads_listing}
use Rattle.sqlite.specs.State.{State}
use Rattle.sqlite.proofs.Callers.{command_of}
use Rattle.reserving.specs.declared.session.Counter.{Counter}
use Rattle.sql_tables.specs.Keyed.{IsStored}
use Rattle.sql_tables.specs.Schema.{accounts, our_schema}
use Rattle.sql_tables.specs.Selects.{one_or_none}
use Rattle.sql_tables.specs.Statements.{Answers}
use Rattle.sql_tables.proofs.ByKey.{answered_told, only_all}
use Rattle.sql_tables.proofs.Columns.{equal_turned}
use Rattle.sql_tables.proofs.Keys.{keys_split}
use Rattle.sql_tables.proofs.Selected.{AreAnswered}
use Rattle.sql_tables.proofs.Selections.{meets}
use Rattle.sql_tables.proofs.Steps.{and_last, and_true}
use Rattle.sql_rows.specs.declared.head.HeadColumns.{HeadColumns}
use Rattle.sql_rows.specs.Values.{counter_cells, head_cells, head_in, head_key, nat}
use Rattle.sql_rows.specs.Content.{rows_in}
use Rattle.sql_rows.specs.Lists.{AreCountersAmong, AreCountersIn, IsHeadAmong, counter_part}
use Rattle.sql_rows.specs.Lists.{head_part, of_part}
use Rattle.sql_rows.proofs.queries.OfParts.{AreNumbered, part_answered}
use Rattle.sql_rows.proofs.selections.ReadAccount as account
use Rattle.sql_rows.proofs.selections.ReadCounter as counter
use Rattle.sql_rows.proofs.selections.ReadCounters.{counters_answered, extra, front}
use Rattle.sql_rows.proofs.queries.Unioned.{AreUnited, part_from, union_of, union_told}

abbrev pub read_head_counters_text : List ℕ
read_head_counters_text =
    codes "SELECT 0, barred, as_of, next_bucket, next_charge FROM accounts WHERE account = ?1 "
    ++ codes "UNION ALL SELECT 1, rating_group, cycle, blocks, 0 FROM counters "
    ++ codes "WHERE account = ?1 AND cycle = ?2 ORDER BY 1, 2"

abbrev pub head_terms : List Term
head_terms = op2 (Compare Eq Binary) (col 1 1) (col 0 0) ∷ []

abbrev pub head_project : List Term
head_project = lit (Int (pos 0)) ∷ col 1 2 ∷ col 1 3 ∷ col 1 4 ∷ col 1 5 ∷ []

-- the cycle is the parameter of this place
abbrev pub counter_terms : ℕ → List Term
counter_terms at =
    op2 (Compare Eq Binary) (col 1 1) (col 0 0) ∷ op2 (Compare Eq Binary) (col 1 3) (col 0 at) ∷ []

abbrev pub counter_project : ℕ → List Term
counter_project part =
    lit (Int (pos part)) ∷ col 1 2 ∷ col 1 3 ∷ col 1 4 ∷ lit (Int (pos 0)) ∷ []

abbrev pub names : List (List ℕ)
names = codes "0" ∷ codes "barred" ∷ codes "as_of" ∷ codes "next_bucket" ∷ codes "next_charge" ∷ []

-- of the two parts joined
abbrev pub shown : List Term
shown = col 1 1 ∷ col 1 2 ∷ col 1 3 ∷ col 1 4 ∷ col 1 5 ∷ []

abbrev pub by : List Collation
by = Binary ∷ Binary ∷ Binary ∷ Binary ∷ Binary ∷ Binary ∷ []

abbrev pub order : List (Term × Key)
order = (col 1 1, record { collation = Binary; descending = false }) ∷
    (col 1 2, record { collation = Binary; descending = false }) ∷ []

text_is : (command_of (understood our_schema read_head_counters_text)
    ≡ Select (union_of 6 (part_from 2 head_terms head_project)
    (part_from 6 (counter_terms 1) (counter_project 1)) by shown order) names) ×
    (reads_listing our_schema read_head_counters_text ≡ false)
unfolding understood everything
text_is = (refl, refl)

pub read_head_counters_plain : IsPlain (understood our_schema read_head_counters_text)
unfolding understood everything
read_head_counters_plain = (refl, refl)

-- ---- the parts apart

abbrev pub head_columns : Row → Row
head_columns r = nat 0 ∷ account.columns r

abbrev pub counter_columns : ℕ → Row → Row
counter_columns part r = nat part ∷ (counter.columns r ++ nat 0 ∷ [])

module _ (test_one test_two : Row → Bool) (ones twos out : List Row) (united
    : AreUnited test_one test_two head_columns (counter_columns 1) ones twos out) where
  first_part : AreNumbered 0 test_one head_columns ones out
  first_part = record {
    from = λ v h e. elim (united.from v h) [
      | inl x ↦ x
      | inr x ↦ absurd (let no : false ≡ true = sym (ap (of_part 0) x.3) ∙ e in cc)
    ];
    to = united.to_one;
  }

  second_part : AreNumbered 1 test_two (counter_columns 1) twos out
  second_part = record {
    from = λ v h e. elim (united.from v h) [
      | inl x ↦ absurd (let no : false ≡ true = sym (ap (of_part 1) x.3) ∙ e in cc)
      | inr x ↦ x
    ];
    to = united.to_two;
  }

-- the counters of a part are those of its rows
pub counters_of : (part : ℕ) → nat_eq part part ≡ true → (test : Row → Bool)
    (stored out : List Row)
    → AreNumbered part test (counter_columns part) stored out → (ks : List Counter)
    → AreCountersAmong part out ks → AreAnswered test counter.columns stored (map counter_cells ks)
counters_of part same test stored out p ks is =
    part_answered part test counter.columns (counter_columns part) counter_cells
    (counter_part part) (λ w. take 3 (drop 1 w)) (λ x. refl) (λ r. refl) (λ r. same) stored out p ks
    is

-- ---- what is kept once

first_in : {X : Type 0} (o : Option X) → find (λ x. true) (one_or_none o) ≡ o
first_in None = refl
first_in (Some x) = refl

module _ (a : List ℕ) where
  splits : (r : Row) → meets (1 ∷ []) (head_key a) r ≡ (front a r && true)
  splits r = keys_split (Text a) (column r 1) [] []
      ∙ ap (λ t. t && true) (sym (equal_turned (column r 1) (Text a) refl))

  head_answered : (trees : Trees) → Fits our_schema trees → IsStored (trees 2) →
      (o : Option HeadColumns)
      → AreAnswered (front a) account.columns (trees 2) (map head_cells (one_or_none o))
      → o ≡ (rows_in trees a).head
  head_answered trees fits stored o answered =
      sym (first_in o)
      ∙ answered_told accounts (inr (inl refl)) (inr (inl refl)) refl trees fits stored head_in
      head_cells account.columns (front a) (head_key a) (refl, tt) (λ x r m. account.back x r)
      (λ x. true) (λ x. true) (front a) (λ r. true) (λ r. true) (λ r. sym (and_true (front a r)))
      splits (λ x r e. refl) (λ r m l. refl) (λ x r e same. refl) (one_or_none o) answered
      ∙ only_all _

  -- the head of the part of heads
  pub head_of : (trees : Trees) → Fits our_schema trees → IsStored (trees 2) → (out : List Row)
      (o : Option HeadColumns) → AreNumbered 0 (front a) head_columns (trees 2) out
      → IsHeadAmong out o → o ≡ (rows_in trees a).head
  head_of trees fits stored out o p is =
      head_answered trees fits stored o (part_answered 0 (front a) account.columns head_columns
      head_cells head_part (drop 1) (λ x. refl) (λ r. refl) (λ r. refl) (trees 2) out p
      (one_or_none o) is)

  -- the counters of a part
  pub counters_in_part : (part cycle : ℕ) → nat_eq part part ≡ true → (trees : Trees)
      → Fits our_schema trees → IsStored (trees 6) → (out : List Row) (ks : List Counter)
      → AreNumbered part (λ r. front a r && extra a cycle r) (counter_columns part) (trees 6) out
      → AreCountersAmong part out ks → AreCountersIn cycle (rows_in trees a) ks
  counters_in_part part cycle same trees fits stored out ks p is =
      counters_answered a cycle trees fits stored ks
      (counters_of part same (λ r. front a r && extra a cycle r) (trees 6) out p ks is)

  pub head_counters_read : (cycle : ℕ) (old new : State) (rows : List Row) (o : Option HeadColumns)
      (ks : List Counter)
      → Answers read_head_counters_text (Text a ∷ nat cycle ∷ []) old new rows
      → IsHeadAmong rows o × AreCountersAmong 1 rows ks
      → (o ≡ (rows_in old.now.trees a).head) × AreCountersIn cycle (rows_in old.now.trees a) ks
  head_counters_read cycle old new rows o ks got is =
      let counted : Row → Bool = λ r. front a r && extra a cycle r in
      let united : AreUnited (front a) counted head_columns (counter_columns 1) (old.now.trees 2)
      (old.now.trees 6) rows =
      union_told 2 6 refl refl head_terms (counter_terms 1) head_project (counter_project 1) 6 by shown
      order (Text a ∷ nat cycle ∷ []) (front a) counted head_columns (counter_columns 1)
      (λ r. and_true (front a r)) (λ r. and_last (front a r) (extra a cycle r)) (λ r. refl)
      (λ r. refl) (λ r. refl) (λ r. refl) read_head_counters_text names text_is
      read_head_counters_plain old new rows got in (
        head_of old.now.trees got.fits got.book.stored.1.0 rows o
            (first_part (front a) counted (old.now.trees 2) (old.now.trees 6) rows united) is.0,
        counters_in_part 1 cycle refl old.now.trees got.fits got.book.stored.1.1.1.0 rows ks
            (second_part (front a) counted (old.now.trees 2) (old.now.trees 6) rows united) is.1,
      )
