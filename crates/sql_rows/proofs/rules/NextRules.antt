-- The account that follows, as it is read: where each is in its rules, no fault of the rules is
-- reported.
use Rattle.std.proofs.Common.{◌≡◌, ℕ, List, [], ◌∷◌, map, Option, Some, None, refl, ap, ◌∙◌}
use Rattle.std.specs.Prelude.{IfSome}
use Rattle.sqlite_value.specs.declared.value.Value.TheVariants.{Text}
use Rattle.sqlite_value.specs.Order.{Row, column}
use Rattle.sqlite_schema.specs.Rules.{Fits}
use Rattle.sqlite_trees.specs.Tree.{Trees}
use Rattle.sqlite.specs.State.{State}
use Rattle.sql_tables.specs.Keyed.{IsStored}
use Rattle.sql_tables.specs.Schema.{our_schema}
use Rattle.sql_tables.specs.Selects.{one_or_none}
use Rattle.sql_tables.specs.Statements.{Answers}
use Rattle.sql_tables.proofs.Found.{is_some_map}
use Rattle.sql_rows.specs.Values.{head_in, head_key, text_in}
use Rattle.sql_rows.specs.Content.{tables_content}
use Rattle.sql_rows.specs.Ruled.{AreRuledAccounts, IsRuledAccount}
use Rattle.sql_rows.proofs.lists.AccountsApart.{columns}
use Rattle.sql_rows.proofs.queries.FirstRow.{IsFirstOf, sorts_before}
use Rattle.sql_rows.proofs.rules.AccountRules.{account_values}
use Rattle.sql_rows.proofs.selections.ReadNextAccount.{after_selected, first_selected, has_row}
use Rattle.sql_rows.proofs.selections.ReadNextAccount.{is_after, order, read_after_text}
use Rattle.sql_rows.proofs.selections.ReadNextAccount.{read_first_text}

next_refused : (trees : Trees) → Fits our_schema trees → IsStored (trees 2)
    → (after : Option (List ℕ)) (rows : List Row)
    → IsFirstOf (is_after after) (sorts_before order columns) columns (trees 2) rows
    → ((o : Option (List ℕ)) → rows ≡ map head_key (one_or_none o) → ¬ IfSome o IsRuledAccount)
    → ¬ AreRuledAccounts (tables_content trees)
next_refused trees fits stored after [] first refused ruled = refused None refl tt
next_refused trees fits stored after (v ∷ []) first refused ruled =
    let a : List ℕ = text_in (column first.row 1) in
    let name : column first.row 1 ≡ Text a = (account_values trees fits first.row first.has).0 in
    refused (Some a) (ap (λ w. w ∷ []) (first.is ∙ ap (λ x. x ∷ []) name))
    (ruled a (is_some_map head_in _ ∙ has_row trees fits stored a first.row first.has name))
next_refused trees fits stored after (v ∷ w ∷ vs) first refused ruled = absurd first

-- what was refused of the rows that were read is refused of the tables
pub first_refused : (old new : State) (rows : List Row) → Answers read_first_text [] old new rows
    → ((o : Option (List ℕ)) → rows ≡ map head_key (one_or_none o) → ¬ IfSome o IsRuledAccount)
    → ¬ AreRuledAccounts (tables_content old.now.trees)
first_refused old new rows got =
    next_refused old.now.trees got.fits got.book.stored.1.0 None rows
    (first_selected old new rows got)

pub after_refused : (x : List ℕ) (old new : State) (rows : List Row)
    → Answers read_after_text (Text x ∷ []) old new rows
    → ((o : Option (List ℕ)) → rows ≡ map head_key (one_or_none o) → ¬ IfSome o IsRuledAccount)
    → ¬ AreRuledAccounts (tables_content old.now.trees)
after_refused x old new rows got =
    next_refused old.now.trees got.fits got.book.stored.1.0 (Some x) rows
    (after_selected x old new rows got)
