-- What the text of an index makes of the schema.
use Rattle.std.proofs.Common.{◌≡◌, ℕ, List, [], Some, None, Ok}
use Rattle.std.proofs.Common.{refl, sym, ap, ap₂, subst, ◌∙◌}
use Rattle.std.specs.Prelude.{slice_get}
use Rattle.sqlite_trees.specs.Tree.{Trees}
use Rattle.sqlite_schema.specs.declared.schema.Table.{Table}
use Rattle.sqlite_schema.specs.declared.schema.Index.{Index}
use Rattle.sqlite_schema.specs.declared.schema.Schema.{Schema}
use Rattle.sqlite_schema.specs.declared.command.Command.TheVariants.{CreateIndex}
use Rattle.sqlite_resolve.specs.Compile.{index_defined_by}
use Rattle.sqlite_catalog.specs.Change.{indexed, KeepsRows}
use Rattle.sqlite_catalog.specs.Listing.{IsSound}
use Rattle.sqlite_tied.specs.Compute.{everything}
use Rattle.sqlite.specs.Does.{Tally, AtPlace, Defines, MakesIndex}
use Rattle.sqlite.specs.Effect.{Database}
use Rattle.sqlite.specs.Listing.{understood}
use Rattle.sqlite.specs.State.{State, Executes, Writes, mode_of}
use Rattle.sqlite.proofs.Callers.{IsPlain, command_of, statement_of, runs_as}
use Rattle.sql_tables.specs.Schema.{buckets, buckets_live, counters, counters_cycle, sessions}
use Rattle.sql_tables.specs.Schema.{sessions_state}
use Rattle.sql_tables.specs.Texts.{buckets_live_text, counters_cycle_text, sessions_state_text}
use Rattle.sql_tables.specs.Texts.{stage}
use Rattle.sql_tables.proofs.Steps.{went, same_value}

-- the schema has the index, and the tables have their rows
pub record Indexes (before after : Schema) (old : Trees) (new : Database) : Type 0 where
  pub schema : new.schema ≡ after
  pub sound : IsSound after new.trees
  pub rows : KeepsRows before.tables old new.trees

module _ (before after : Schema) (table : Table) (index : Index) (place : ℕ) (text : List ℕ)
    (is : (command_of (understood before text) ≡ CreateIndex place)
    × (statement_of text (understood before text) ≡ text))
    (plain : IsPlain (understood before text)) (at : slice_get before.tables place ≡ Some table)
    (defined : index_defined_by table text ≡ Ok (record index { tree = 0 }))
    -- it is the last, and has the next tree
    (next : indexed before table (record index { tree = 0 }) ≡ after) where
  makes_index : (old new : State) (count : ℕ) → old.now.schema ≡ before
      → Executes text [] old new (Ok count) → Indexes before after old.now.trees new.now
  makes_index old new count has h =
      let w = subst (λ t. Writes old new None (CreateIndex place) t [] count) is.1
      (runs_as text [] old new before has (CreateIndex place) is.0 plain count h) in
      let picked = subst (λ o. AtPlace (λ (t : Table). Defines (mode_of old)
      (MakesIndex text old.now t)) o (Ok (w.tally, new.now)))
      (ap (λ (s : Schema). slice_get s.tables place) has ∙ at) w.changed in
      let all = went picked in
      let made = all.1 in
      let same : made.index ≡ record index { tree = 0 } = same_value (sym made.defined ∙ defined) in
      let now : new.now ≡ all.0 = ap (λ (p : Tally × Database). p.1) (same_value all.2) in
      let schema = ap (λ (d : Database). d.schema) now
      ∙ made.is
      ∙ ap₂ (λ s i. indexed s table i) has same
      ∙ next in
      record {
        schema = schema;
        sound = subst (λ s. IsSound s new.now.trees) schema w.sound;
        rows = subst (λ (d : Database). KeepsRows before.tables old.now.trees d.trees) (sym now)
            (subst (λ (s : Schema). KeepsRows s.tables old.now.trees all.0.trees) has made.rows);
      }

-- ---- the sessions of an account by their state

state_is : (command_of (understood (stage 10) sessions_state_text) ≡ CreateIndex 4) ×
    (statement_of sessions_state_text (understood (stage 10) sessions_state_text)
    ≡ sessions_state_text)
unfolding understood everything
state_is = (refl, refl)

state_plain : IsPlain (understood (stage 10) sessions_state_text)
unfolding understood everything
state_plain = (refl, refl)

state_defined : index_defined_by sessions sessions_state_text
    ≡ Ok (record sessions_state { tree = 0 })
unfolding understood everything
state_defined = refl

pub makes_state : (old new : State) (count : ℕ) → old.now.schema ≡ stage 10
    → Executes sessions_state_text [] old new (Ok count)
    → Indexes (stage 10) (stage 11) old.now.trees new.now
makes_state = makes_index (stage 10)
    (stage 11) sessions sessions_state 4 sessions_state_text state_is state_plain
    refl state_defined refl

-- ---- the counters of an account by their cycle

cycle_is : (command_of (understood (stage 11) counters_cycle_text) ≡ CreateIndex 3) ×
    (statement_of counters_cycle_text (understood (stage 11) counters_cycle_text)
    ≡ counters_cycle_text)
unfolding understood everything
cycle_is = (refl, refl)

cycle_plain : IsPlain (understood (stage 11) counters_cycle_text)
unfolding understood everything
cycle_plain = (refl, refl)

cycle_defined : index_defined_by counters counters_cycle_text
    ≡ Ok (record counters_cycle { tree = 0 })
unfolding understood everything
cycle_defined = refl

pub makes_cycle : (old new : State) (count : ℕ) → old.now.schema ≡ stage 11
    → Executes counters_cycle_text [] old new (Ok count)
    → Indexes (stage 11) (stage 12) old.now.trees new.now
makes_cycle = makes_index (stage 11)
    (stage 12) counters counters_cycle 3 counters_cycle_text cycle_is cycle_plain
    refl cycle_defined refl

-- ---- the buckets of an account by what is left of them

live_is : (command_of (understood (stage 14) buckets_live_text) ≡ CreateIndex 2) ×
    (statement_of buckets_live_text (understood (stage 14) buckets_live_text)
    ≡ buckets_live_text)
unfolding understood everything
live_is = (refl, refl)

live_plain : IsPlain (understood (stage 14) buckets_live_text)
unfolding understood everything
live_plain = (refl, refl)

live_defined : index_defined_by buckets buckets_live_text
    ≡ Ok (record buckets_live { tree = 0 })
unfolding understood everything
live_defined = refl

pub makes_live : (old new : State) (count : ℕ) → old.now.schema ≡ stage 14
    → Executes buckets_live_text [] old new (Ok count)
    → Indexes (stage 14) (stage 15) old.now.trees new.now
makes_live = makes_index (stage 14)
    (stage 15) buckets buckets_live 2 buckets_live_text live_is live_plain
    refl live_defined refl
