-- From what a text does to a table to what it makes of the content.
use Rattle.std.proofs.Common.{◌≡◌, ℕ, true, List, Ok, Err, Result, OnOk, IsTrue, subst, arith}
use Rattle.std.specs.Prelude.{⊤}
use Rattle.sqlite_value.specs.Order.{Row}
use Rattle.sqlite_trees.specs.Objects.{catalog_tree}
use Rattle.sqlite_trees.specs.Tree.{Trees}
use Rattle.sqlite_catalog.specs.Listing.{IsSound}
use Rattle.sqlite_schema.specs.declared.command.Command.TheVariants.{InsertOr}
use Rattle.sqlite_schema.specs.declared.command.Conflict.{Conflict}
use Rattle.sqlite_schema.specs.declared.command.Source.{Source}
use Rattle.sqlite_schema.specs.declared.command.Upsert.{Upsert}
use Rattle.sqlite_schema.specs.declared.schema.Table.{Table}
use Rattle.sqlite.specs.declared.error.Error.{Error}
use Rattle.sqlite.specs.Listing.{understood}
use Rattle.sqlite.specs.State.{State, ExecutesInside, HasCleanDisk, Shows}
use Rattle.sqlite.proofs.Callers.{IsPlain, command_of, runs_as}
use Rattle.sql_tables.specs.Schema.{our_schema}
use Rattle.sql_tables.specs.Statements.{Attempts, Changes, HasTables, HasRules, IsTabled, Puts}
use Rattle.sql_tables.proofs.Keeps.{done_as, sound_fits}
use Rattle.sql_rows.specs.Content.{TablesContent, tables_content}
use Rattle.sql_rows.specs.Makes.{HasRun, Makes}
use Rattle.sql_rows.specs.Plain.{ArePlain}

-- the parameters are the values that the text was read with
pub writes : (text : List ℕ) (values : Row) (does : State → State → Type 0)
    (change : TablesContent → TablesContent)
    → ((old new : State) (r : Result ℕ Error) → (IsTrue old.is_open → IsTabled old)
    → OnOk r (ExecutesInside 0 text values old new r) → OnOk r (does old new))
    → ((old new : State) → does old new → Makes change old new)
    → (params : Row) → params ≡ values → (old new : State) (r : Result ⊤ Error) → HasTables old
    → Attempts (HasRun text params) old new r
    → Attempts (Makes change) old new r
writes text values does change runs makes params same old new r has =
    done_as _ (Makes change) old new r (λ clean. made r (has clean))
  where
    made : (r : Result ⊤ Error) → (IsTrue old.is_open → IsTabled old)
        → OnOk r (HasRun text params old new) → OnOk r (Makes change old new)
    made (Ok x) book h = makes old new (runs old new (Ok h.count) book
        (subst (λ p. ExecutesInside 0 text p old new (Ok h.count)) same h.ran))
    made (Err e) book h = tt

-- the parameters are these values
pub runs_with : (text : List ℕ) (params values : Row) → params ≡ values
    → (old new : State) (r : Result ℕ Error)
    → Attempts (λ old new. ExecutesInside 0 text params old new r) old new r
    → Attempts (λ old new. ExecutesInside 0 text values old new r) old new r
runs_with text params values same old new r =
    subst (λ p. Attempts (λ old new. ExecutesInside 0 text p old new r) old new r) same

-- the number of rows is left out
pub ran_with : (text : List ℕ) (values : Row) (old new : State) (count : ℕ)
    → Attempts {A = ℕ} {E = Error}
    (λ old new. ExecutesInside 0 text values old new (Ok count)) old new (Ok count)
    → (x : ⊤) → Attempts {A = ⊤} {E = Error} (HasRun text values) old new (Ok x)
ran_with text values old new count a x = record {
  done = λ clean. record { count = count; ran = a.done clean };
  kept = a.kept;
  survives = a.survives;
}

-- an upsert leaves tables that obey their rules
-- rule: statements-of-tables.reads-within
pub rules_after : {at : ℕ} {how : Conflict} {from : Source} {clauses : List Upsert}
    (text : List ℕ) (values : Row) (does : State → State → Type 0)
    → command_of (understood our_schema text) ≡ InsertOr at how from clauses
    → IsPlain (understood our_schema text)
    → ((old new : State) (r : Result ℕ Error) → (IsTrue old.is_open → IsTabled old)
    → OnOk r (ExecutesInside 0 text values old new r) → OnOk r (does old new))
    → ((old new : State) → does old new → IsTabled new)
    → (params : Row) → params ≡ values → (old new : State) (r : Result ⊤ Error) → HasTables old
    → Attempts (HasRun text params) old new r → OnOk r (HasRules new)
rules_after {at} {how} {from} {clauses} text values does is plain runs books params same old new
    (Ok x) has a = λ clean on.
    let before : HasCleanDisk old = omega (arith, a.survives.clean, clean) in
    let done : HasRun text params old new = a.done clean in
    let count : ℕ = done.count in
    let ran : ExecutesInside 0 text values old new (Ok count) =
    subst (λ p. ExecutesInside 0 text p old new (Ok count)) same done.ran in
    let book : IsTabled old = has before ran.1.was_open in
    let after : IsTabled new = books old new (runs old new (Ok count) (has before) ran) in
    let w = runs_as text values old new our_schema book.schema (InsertOr at how from clauses) is
    plain count ran.0 in
    sound_fits new.now.trees (subst (λ s. IsSound s new.now.trees) after.schema w.sound)
rules_after text values does is plain runs books params same old new (Err e) has a = tt

-- the content is turned, the rest is left
pub makes_turned : (change : TablesContent → TablesContent) (old new : State)
    → tables_content new.now.trees ≡ change (tables_content old.now.trees)
    → new.now.trees catalog_tree ≡ old.now.trees catalog_tree
    → (ArePlain old.now.trees → ArePlain new.now.trees) → IsTabled new
    → Shows old new new.now old.committed true → Makes change old new
makes_turned change old new content catalog plain book shows = record {
  turns = record { content = content; catalog = catalog; stored = book.stored; plain = plain };
  book = book;
  shows = shows;
}

pub puts_make : (table : Table) (values : Row) (change : TablesContent → TablesContent)
    → ((old new : Trees) → Changes table values old new → tables_content new ≡ change
    (tables_content old))
    → ((old new : Trees) → Changes table values old new → ArePlain old → ArePlain new)
    → (old new : State) → Puts table values old new → Makes change old new
puts_make table values change turns plain old new p =
    makes_turned change old new
    (turns old.now.trees new.now.trees p.changes) p.changes.catalog
    (plain old.now.trees new.now.trees p.changes) p.book p.shows
