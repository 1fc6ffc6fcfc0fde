-- What the texts of `read_first_account` and `read_account_after` answer.
use Rattle.std.specs.Prelude.{codes, is_some}
use Rattle.std.proofs.Common.{◌≡◌, inl, inr, ℕ, List, [], ◌∷◌, map, Bool, true}
use Rattle.std.proofs.Common.{false, true≢false, Option, None, Some, Ordering, Less, Equal}
use Rattle.std.proofs.Common.{Greater, is_eq, is_lt, refl, sym, ap, subst, ◌∙◌}
use Rattle.std.specs.Cmp.Lexicographic.{bytes_decides, slice_cmp}
use Rattle.std.specs.Ordering.{is_gt, nat_cmp, ordering_reverse}
use Rattle.std.proofs.lemmas.Cmp.{nat_list_cmp_total, tied_itself}
use Rattle.sqlite_value.specs.declared.value.Value.{Value}
use Rattle.sqlite_value.specs.declared.value.Value.TheVariants.{Null, Int, Real, Text, Blob}
use Rattle.sqlite_value.specs.declared.keys.Collation.TheVariants.{Binary}
use Rattle.sqlite_value.specs.declared.keys.Key.{Key}
use Rattle.sqlite_value.specs.Order.{Row, column, value_cmp}
use Rattle.sqlite_value.proofs.OrderLemmas.{then-Equal, value_cmp_total, value_cmp-Text}
use Rattle.sqlite_sql.specs.declared.ops.BinaryOp.TheVariants.{Compare}
use Rattle.sqlite_sql.specs.declared.ops.CompareOp.TheVariants.{Gt}
use Rattle.sqlite_sql.specs.Ops.{binary, from_truth, is_true}
use Rattle.sqlite_sql.specs.Term.{Term, col, op2}
use Rattle.sqlite_schema.specs.declared.command.Command.TheVariants.{Select}
use Rattle.sqlite_tied.specs.Compute.{everything}
use Rattle.sqlite.specs.Given.{IsPlain}
use Rattle.sqlite.specs.Listing.{understood, reads_listing}
use Rattle.sqlite.specs.State.{State}
use Rattle.sqlite.proofs.Callers.{command_of}
use Rattle.sqlite_rules.specs.Lists.{Has}
use Rattle.sqlite_trees.specs.Tree.{Trees}
use Rattle.sqlite_schema.specs.Rules.{Fits}
use Rattle.sql_tables.specs.Keyed.{IsStored, look}
use Rattle.sql_tables.specs.Schema.{accounts, our_schema, key_index}
use Rattle.sql_tables.specs.Selects.{one_or_none}
use Rattle.sql_tables.specs.Statements.{Answers}
use Rattle.sql_tables.proofs.Found.{is_some_map}
use Rattle.sql_tables.proofs.Keys.{keys_split, text_tie}
use Rattle.sql_tables.proofs.Selections.{full_key, stands_under, under_stands}
use Rattle.sql_tables.proofs.Steps.{and_true, truth_told}
use Rattle.sql_rows.specs.Values.{head_in, head_key}
use Rattle.sql_rows.specs.Content.{tables_content}
use Rattle.sql_rows.specs.Lists.{IsNextAccount, comes_after, name_before}
use Rattle.sql_rows.proofs.lists.AccountsApart.{columns}
use Rattle.sql_rows.proofs.queries.FirstRow.{IsFirst, IsFirstOf, first_from, first_told}
use Rattle.sql_rows.proofs.queries.FirstRow.{sorts_before}
use Rattle.sql_rows.proofs.queries.Ranges.{is_beyond}

-- ---- texts and their order

-- what ties with a text is that text
tied_text : (a : List ℕ) (v : Value) → is_eq (value_cmp (Text a) v) ≡ true → v ≡ Text a
unfolding value_cmp
tied_text a Null tie = absurd (cc)
tied_text a (Int n) tie = absurd (cc)
tied_text a (Real x) tie = absurd (cc)
tied_text a (Text b) tie = ap Text ((bytes_decides b a).0 (sym (text_tie b a) ∙ tie))
tied_text a (Blob b) tie = absurd (cc)

turned : (o : Ordering) → is_gt (ordering_reverse o) ≡ is_lt o
turned Less = refl
turned Equal = refl
turned Greater = refl

text_beyond : (a b : List ℕ) → is_beyond (Text b) (Text a) ≡ name_before a b
unfolding binary
text_beyond a b =
    ap (λ o. is_true (from_truth (Some (is_gt o)))) (value_cmp-Text b a)
    ∙ truth_told (is_gt (slice_cmp nat_cmp b a))
    ∙ ap is_gt (nat_list_cmp_total.antisymm b a)
    ∙ turned (slice_cmp nat_cmp a b)

-- ---- the two texts

abbrev project : List Term
project = col 1 1 ∷ []

abbrev names : List (List ℕ)
names = codes "account" ∷ []

abbrev pub order : List (Term × Key)
order = (col 1 1, record { collation = Binary; descending = false }) ∷ []

abbrev pub read_first_text : List ℕ
read_first_text = codes "SELECT account FROM accounts ORDER BY account LIMIT 1"

first_is : (command_of (understood our_schema read_first_text)
    ≡ Select (record { lets = []; body = first_from 2 [] project order }) names) ×
    (reads_listing our_schema read_first_text ≡ false)
unfolding understood everything
first_is = (refl, refl)

pub read_first_plain : IsPlain (understood our_schema read_first_text)
unfolding understood everything
read_first_plain = (refl, refl)

abbrev pub read_after_text : List ℕ
read_after_text =
    codes "SELECT account FROM accounts WHERE account > ?1 ORDER BY account LIMIT 1"

abbrev after_terms : List Term
after_terms = op2 (Compare Gt Binary) (col 1 1) (col 0 0) ∷ []

after_is : (command_of (understood our_schema read_after_text)
    ≡ Select (record { lets = []; body = first_from 2 after_terms project order }) names) ×
    (reads_listing our_schema read_after_text ≡ false)
unfolding understood everything
after_is = (refl, refl)

pub read_after_plain : IsPlain (understood our_schema read_after_text)
unfolding understood everything
read_after_plain = (refl, refl)

-- ---- the account that is read follows

-- the test of a stored row
abbrev pub is_after : Option (List ℕ) → Row → Bool
is_after None r = true
is_after (Some a) r = is_beyond (column r 1) (Text a)

named : (after : Option (List ℕ)) (a : List ℕ) (r : Row) → column r 1 ≡ Text a →
    is_after after r ≡ comes_after after a
named None a r is = refl
named (Some x) a r is = ap (λ v. is_beyond v (Text x)) is ∙ text_beyond x a

before_told : (a x : List ℕ) (r s : Row) → column r 1 ≡ Text a → column s 1 ≡ Text x →
    sorts_before order columns r s ≡ name_before a x
before_told a x r s one two =
    ap is_lt (then-Equal (value_cmp (column r 1) (column s 1)))
    ∙ ap (λ v. is_lt (value_cmp v (column s 1))) one
    ∙ ap (λ v. is_lt (value_cmp (Text a) v)) two
    ∙ ap is_lt (value_cmp-Text a x)

-- a test that isn't true is false
is_false : (b : Bool) → (b ≡ true → ⊥) → b ≡ false
is_false true no' = absurd (no' refl)
is_false false no' = refl

module _ (trees : Trees) (fits : Fits our_schema trees) (stored : IsStored (trees 2)) where
  -- a stored row of an account
  row_of : (a : List ℕ) → is_some (look accounts trees (head_key a)) ≡ true
      → (r : Row) × Has (trees 2) r × (column r 1 ≡ Text a)
  row_of a h = go (look accounts trees (head_key a)) refl h
    where
      go : (o : Option Row) → look accounts trees (head_key a) ≡ o → is_some o ≡ true
          → (r : Row) × Has (trees 2) r × (column r 1 ≡ Text a)
      go None e there = absurd (true≢false (sym there))
      go (Some v) e there =
          let it = under_stands our_schema accounts (inr (inl refl)) (key_index accounts)
          (inr (inl refl)) refl refl refl trees fits stored (head_key a) v e in (
            it.0,
            it.1,
            tied_text a (column it.0 1)
                (sym (keys_split (Text a) (column it.0 1) [] [] ∙ and_true _) ∙ it.2),
          )

  -- and the account of a stored row
  pub has_row : (a : List ℕ) (r : Row) → Has (trees 2) r → column r 1 ≡ Text a
      → is_some (look accounts trees (head_key a)) ≡ true
  has_row a r h is =
      ap is_some (stands_under our_schema accounts (inr (inl refl)) (key_index accounts)
      (inr (inl refl)) refl refl refl trees fits stored (head_key a)
      (λ x m. full_key (1 ∷ []) (head_key a) x (refl, tt) m) r h
      (keys_split (Text a) (column r 1) [] [] ∙ and_true _
      ∙ ap (λ v. is_eq (value_cmp (Text a) v)) is
      ∙ ap is_eq (tied_itself value_cmp_total (Text a))))

  follows : (after : Option (List ℕ)) (rows : List Row) (o : Option (List ℕ))
      → rows ≡ map head_key (one_or_none o)
      → IsFirstOf (is_after after) (sorts_before order columns) columns (trees 2) rows
      → IsNextAccount (tables_content trees) after o
  follows after rows None is first = λ a comes.
      is_some_map head_in _ ∙ is_false _ (λ there.
      let it = row_of a there in
      subst (IsFirstOf (is_after after) (sorts_before order columns) columns (trees 2)) is first
      it.0 it.1 (named after a it.0 it.2 ∙ comes))
  follows after rows (Some x) is first = record {
    there = is_some_map head_in _ ∙ has_row x it.row it.has name;
    follows = sym (named after x it.row name) ∙ it.passes;
    none_between = λ a comes lower.
        is_some_map head_in _ ∙ is_false _ (λ there.
        let other = row_of a there in
        true≢false (sym lower ∙ sym (before_told a x other.0 it.row other.2 name)
        ∙ it.least other.0 other.1 (named after a other.0 other.2 ∙ comes)));
  }
    where
      it : IsFirst (is_after after) (sorts_before order columns) columns (trees 2) (head_key x)
      it = subst (IsFirstOf (is_after after) (sorts_before order columns) columns (trees 2))
          is first

      name : column it.row 1 ≡ Text x
      name = ap (λ (w : Row). column w 0) (sym it.is)

pub first_selected : (old new : State) (rows : List Row) → Answers read_first_text [] old new rows
    → IsFirstOf (is_after None) (sorts_before order columns) columns (old.now.trees 2) rows
first_selected old new rows got =
    first_told read_first_text names 2 [] project order first_is read_first_plain []
    (is_after None) columns columns (λ r. refl) (λ r. refl) (λ r. refl) old new rows got

pub first_read : (old new : State) (rows : List Row) (o : Option (List ℕ))
    → Answers read_first_text [] old new rows → rows ≡ map head_key (one_or_none o)
    → IsNextAccount (tables_content old.now.trees) None o
first_read old new rows o got is =
    follows old.now.trees got.fits got.book.stored.1.0 None rows o is
    (first_selected old new rows got)

pub after_selected : (x : List ℕ) (old new : State) (rows : List Row)
    → Answers read_after_text (Text x ∷ []) old new rows
    → IsFirstOf (is_after (Some x)) (sorts_before order columns) columns (old.now.trees 2) rows
after_selected x old new rows got =
    first_told read_after_text names 2 after_terms project order after_is read_after_plain
    (Text x ∷ []) (is_after (Some x)) columns columns
    (λ r. and_true (is_beyond (column r 1) (Text x))) (λ r. refl) (λ r. refl) old new rows got

pub after_read : (x : List ℕ) (old new : State) (rows : List Row) (o : Option (List ℕ))
    → Answers read_after_text (Text x ∷ []) old new rows → rows ≡ map head_key (one_or_none o)
    → IsNextAccount (tables_content old.now.trees) (Some x) o
after_read x old new rows o got is =
    follows old.now.trees got.fits got.book.stored.1.0 (Some x) rows o is
    (after_selected x old new rows got)
