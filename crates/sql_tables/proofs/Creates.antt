-- What a CREATE TABLE makes of the schema, and each of the tables in turn.
use Rattle.std.proofs.Common.{◌≡◌, ℕ, List, [], false, None, Ok, refl, sym, ap, subst, ◌∙◌}
use Rattle.sqlite_trees.specs.Tree.{Trees}
use Rattle.sqlite_schema.specs.declared.schema.Table.{Table}
use Rattle.sqlite_schema.specs.declared.schema.Schema.{Schema}
use Rattle.sqlite_schema.specs.declared.command.Command.TheVariants.{CreateTable}
use Rattle.sqlite_resolve.specs.Compile.{table_defined_by}
use Rattle.sqlite_catalog.specs.Change.{created, next_tree, KeepsRows}
use Rattle.sqlite_catalog.specs.Listing.{IsSound}
use Rattle.sqlite_tied.specs.Compute.{everything}
use Rattle.sqlite.specs.Does.{Tally, lacks_sequence}
use Rattle.sqlite.specs.Effect.{Database}
use Rattle.sqlite.specs.Listing.{understood}
use Rattle.sqlite.specs.State.{State, Writes, Executes}
use Rattle.sqlite.proofs.Callers.{IsPlain, command_of, statement_of, runs_as}
use Rattle.sql_tables.proofs.Steps.{went, same_value}
use Rattle.sql_tables.specs.Schema.{meta, accounts, buckets, counters, sessions, session_groups}
use Rattle.sql_tables.specs.Schema.{holds, answers, vouchers, charges, books, grant_books}
use Rattle.sql_tables.specs.Schema.{allowance_buckets, covered}
use Rattle.sql_tables.specs.Texts.{meta_text, accounts_text, buckets_text, counters_text}
use Rattle.sql_tables.specs.Texts.{sessions_text, session_groups_text, holds_text, answers_text}
use Rattle.sql_tables.specs.Texts.{vouchers_text, charges_text, books_text, grant_books_text}
use Rattle.sql_tables.specs.Texts.{allowance_buckets_text, covered_text, stage}

-- the table is the last of the schema, and empty, and the others have their rows; the database
-- lists the schema, and obeys it
pub record Makes (stage : Schema) (table : Table) (old : Trees) (new : Database) : Type 0 where
  pub schema : new.schema ≡ created stage table
  pub empty : new.trees (next_tree stage) ≡ []
  pub others : KeepsRows stage.tables old new.trees
  pub sound : IsSound (created stage table) new.trees

-- the text makes this table
pub record IsText (stage : Schema) (table : Table) (text : List ℕ) : Type 0 where
  pub command : command_of (understood stage text) ≡ CreateTable
  pub whole : statement_of text (understood stage text) ≡ text
  pub plain : IsPlain (understood stage text)
  pub defined : table_defined_by text ≡ Ok table
  pub uncounted : lacks_sequence (created stage table) ≡ false

pub makes : (stage : Schema) (table : Table) (text : List ℕ) → IsText stage table text →
    (old new : State) (count : ℕ) → old.now.schema ≡ stage → Executes text [] old new (Ok count) →
    Makes stage table old.now.trees new.now
makes stage table text means old new count has h =
    let w = subst (λ t. Writes old new None CreateTable t [] count) means.whole
    (runs_as text [] old new stage has CreateTable means.command means.plain count h) in
    let all = went w.changed in
    let first = went all.1 in
    let made = first.1 in
    let same : made.table ≡ table = same_value (sym made.defined ∙ means.defined) in
    let schema : first.0.schema ≡ created stage table = made.is
    ∙ ap (λ s. created s made.table) has
    ∙ ap (created stage) same in
    let plain : lacks_sequence first.0.schema ≡ false =
    ap lacks_sequence schema ∙ means.uncounted in
    let now : new.now ≡ first.0 = ap (λ (p : Tally × Database). p.1) (same_value all.2) ∙ same_value
    (rw plain at first.2) in
    let is : new.now.schema ≡ created stage table = ap (λ (d : Database). d.schema) now ∙ schema in
    record {
      schema = is;
      sound = subst (λ s. IsSound s new.now.trees) is w.sound;
      empty = ap (λ (d : Database). d.trees (next_tree stage)) now
          ∙ subst (λ s. first.0.trees (next_tree s) ≡ []) has made.empty;
      others = subst (λ (d : Database). KeepsRows stage.tables old.now.trees d.trees) (sym now)
          (subst (λ (s : Schema). KeepsRows s.tables old.now.trees first.0.trees) has made.others);
    }

-- ---- version 1

pub meta_is : IsText (stage 0) (record meta { tree = 0 }) meta_text
unfolding understood everything
meta_is =
    record { command = refl; whole = refl; plain = (refl, refl); defined = refl; uncounted = refl }

pub meta_next : created (stage 0) (record meta { tree = 0 }) ≡ stage 1
unfolding understood everything
meta_next = refl

pub accounts_is : IsText (stage 1) (record accounts { tree = 0 }) accounts_text
unfolding understood everything
accounts_is =
    record { command = refl; whole = refl; plain = (refl, refl); defined = refl; uncounted = refl }

pub accounts_next : created (stage 1) (record accounts { tree = 0 }) ≡ stage 2
unfolding understood everything
accounts_next = refl

pub buckets_is : IsText (stage 2) (record buckets { tree = 0 }) buckets_text
unfolding understood everything
buckets_is =
    record { command = refl; whole = refl; plain = (refl, refl); defined = refl; uncounted = refl }

pub buckets_next : created (stage 2) (record buckets { tree = 0 }) ≡ stage 3
unfolding understood everything
buckets_next = refl

pub counters_is : IsText (stage 3) (record counters { tree = 0 }) counters_text
unfolding understood everything
counters_is =
    record { command = refl; whole = refl; plain = (refl, refl); defined = refl; uncounted = refl }

pub counters_next : created (stage 3) (record counters { tree = 0 }) ≡ stage 4
unfolding understood everything
counters_next = refl

pub sessions_is : IsText (stage 4) (record sessions { tree = 0 }) sessions_text
unfolding understood everything
sessions_is =
    record { command = refl; whole = refl; plain = (refl, refl); defined = refl; uncounted = refl }

pub sessions_next : created (stage 4) (record sessions { tree = 0 }) ≡ stage 5
unfolding understood everything
sessions_next = refl

pub session_groups_is : IsText (stage 5) (record session_groups { tree = 0 }) session_groups_text
unfolding understood everything
session_groups_is =
    record { command = refl; whole = refl; plain = (refl, refl); defined = refl; uncounted = refl }

pub session_groups_next : created (stage 5) (record session_groups { tree = 0 }) ≡ stage 6
unfolding understood everything
session_groups_next = refl

pub holds_is : IsText (stage 6) (record holds { tree = 0 }) holds_text
unfolding understood everything
holds_is =
    record { command = refl; whole = refl; plain = (refl, refl); defined = refl; uncounted = refl }

pub holds_next : created (stage 6) (record holds { tree = 0 }) ≡ stage 7
unfolding understood everything
holds_next = refl

pub answers_is : IsText (stage 7) (record answers { tree = 0 }) answers_text
unfolding understood everything
answers_is =
    record { command = refl; whole = refl; plain = (refl, refl); defined = refl; uncounted = refl }

pub answers_next : created (stage 7) (record answers { tree = 0 }) ≡ stage 8
unfolding understood everything
answers_next = refl

pub vouchers_is : IsText (stage 8) (record vouchers { tree = 0 }) vouchers_text
unfolding understood everything
vouchers_is =
    record { command = refl; whole = refl; plain = (refl, refl); defined = refl; uncounted = refl }

pub vouchers_next : created (stage 8) (record vouchers { tree = 0 }) ≡ stage 9
unfolding understood everything
vouchers_next = refl

pub charges_is : IsText (stage 9) (record charges { tree = 0 }) charges_text
unfolding understood everything
charges_is =
    record { command = refl; whole = refl; plain = (refl, refl); defined = refl; uncounted = refl }

pub charges_next : created (stage 9) (record charges { tree = 0 }) ≡ stage 10
unfolding understood everything
charges_next = refl

-- ---- version 2

pub books_is : IsText (stage 12) (record books { tree = 0 }) books_text
unfolding understood everything
books_is =
    record { command = refl; whole = refl; plain = (refl, refl); defined = refl; uncounted = refl }

pub books_next : created (stage 12) (record books { tree = 0 }) ≡ stage 13
unfolding understood everything
books_next = refl

pub grant_books_is : IsText (stage 13) (record grant_books { tree = 0 }) grant_books_text
unfolding understood everything
grant_books_is =
    record { command = refl; whole = refl; plain = (refl, refl); defined = refl; uncounted = refl }

pub grant_books_next : created (stage 13) (record grant_books { tree = 0 }) ≡ stage 14
unfolding understood everything
grant_books_next = refl

-- ---- version 3

pub allowance_buckets_is : IsText (stage 15) (record allowance_buckets { tree = 0 })
    allowance_buckets_text
unfolding understood everything
allowance_buckets_is =
    record { command = refl; whole = refl; plain = (refl, refl); defined = refl; uncounted = refl }

pub allowance_buckets_next : created (stage 15) (record allowance_buckets { tree = 0 }) ≡ stage 16
unfolding understood everything
allowance_buckets_next = refl

pub covered_is : IsText (stage 16) (record covered { tree = 0 }) covered_text
unfolding understood everything
covered_is =
    record { command = refl; whole = refl; plain = (refl, refl); defined = refl; uncounted = refl }

pub covered_next : created (stage 16) (record covered { tree = 0 }) ≡ stage 17
unfolding understood everything
covered_next = refl
