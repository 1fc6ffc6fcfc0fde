-- What a selection that answers no row, or some, says of the rows of two tables.
use Rattle.std.proofs.Common.{◌≡◌, ℕ, List, [], ◌∷◌, Bool, true, false, Ok, Err, Result, refl, sym}
use Rattle.std.proofs.Common.{subst, ◌∙◌, arith, eqb-true, inl, length}
use Rattle.std.specs.Prelude.{◌==◌}
use Rattle.std.specs.List.{list_all}
use Rattle.sqlite_value.specs.declared.value.Value.TheVariants.{Null}
use Rattle.sqlite_value.specs.Order.{Row}
use Rattle.sqlite_trees.specs.Tree.{Trees}
use Rattle.sqlite_sql.specs.Term.{Term, holds}
use Rattle.sqlite_sql.specs.Program.{overlay}
use Rattle.sqlite_sql.specs.Query.{IsAnswer}
use Rattle.sqlite_schema.specs.declared.command.Command.TheVariants.{Select}
use Rattle.sqlite_schema.specs.declared.schema.Table.{Table}
use Rattle.sqlite.specs.Effect.{Database}
use Rattle.sqlite.specs.Given.{IsPlain}
use Rattle.sqlite.specs.Listing.{understood}
use Rattle.sqlite.specs.State.{CommitsShowing, FailsToQuery, HasCleanDisk, IsUnchanged, Shown}
use Rattle.sqlite.specs.State.{State, Survives}
use Rattle.sqlite.specs.declared.error.Error.{Error}
use Rattle.sqlite.proofs.Callers.{reads_as}
use Rattle.sql_tables.specs.Schema.{schema_at}
use Rattle.sql_tables.proofs.Keeps.{fails_spares}
use Rattle.sql_tables.proofs.Steps.{commits_nothing}
use Rattle.sql_tables.specs.declared.fault.OpenFault.{OpenFault}
use Rattle.sql_tables.specs.declared.fault.OpenFault.TheVariants.{Rules}
use Rattle.sql_rules.specs.Beside.{NoneWrong}
use Rattle.sql_rules.specs.Tables.{IsOfRows, Tells}
use Rattle.sql_rules.specs.Walks.{FindsNoRow}
use Rattle.sql_rules.proofs.Beside.{none_wrong, wrong_none}
use Rattle.sql_rules.proofs.BesideTexts.{IsPair, pair_query}

-- ---- whether a selection answers a row

unchanged : (sql : List ℕ) (old new : State) (rows : List Row)
    → IsPlain (understood old.now.schema sql) → Shown sql [] old new rows → IsUnchanged old new
unfolding Shown
unchanged sql old new rows plain h =
    let bare = subst IsPlain h.1.is plain in (rw bare.0 at h.2).3

empty : (rows : List Row) (b : Bool) → b ≡ (length rows == 0) → (b ≡ true → rows ≡ [])
    × (rows ≡ [] → b ≡ true)
empty [] b e = (λ t. refl, λ n. e)
empty (r ∷ rows) b e = (
  λ t. let none : length (r ∷ rows) ≡ 0 = eqb-true (length (r ∷ rows)) 0 (sym e ∙ t) in
      absurd (omega (arith, none)),
  λ n. absurd (cc n),
)

module _ (sql : List ℕ) (old new : State)
    (plain : HasCleanDisk old → IsPlain (understood old.now.schema sql))
    (survives : Survives old new (CommitsShowing sql [] old)) where
  pub finds : {E : Type 0} (rows : List Row) (b : Bool) → b ≡ (length rows == 0)
      → (HasCleanDisk new → Shown sql [] old new rows) → FindsNoRow {E = E} sql old new (Ok b)
  finds rows b is shown = record {
    found = λ clean.
        let both = empty rows b is in
        (same clean, rows, shown clean, both.0, both.1);
    spares = λ clean. inl (same clean);
    survives = commits_nothing sql [] old new plain survives;
  }
    where
      same : HasCleanDisk new → IsUnchanged old new
      same clean = unchanged sql old new rows (plain (omega (arith, survives.clean, clean)))
          (shown clean)

  pub finds_not : (e : Error) (r : Result Bool Error) → r ≡ Err e
      → (HasCleanDisk new → FailsToQuery sql [] old new e) → FindsNoRow sql old new r
  finds_not e r is fails = subst (FindsNoRow sql old new) (sym is) (record {
    found = λ clean. tt;
    spares = λ clean. fails_spares sql [] old new e (fails clean);
    survives = commits_nothing sql [] old new plain survives;
  })

-- ---- what that says of two tables

module _ (v : ℕ) (text : List ℕ) (first second : Table) (terms : List Term)
    (wrong : Row → Row → Bool)
    (tests : (r s : Row) → list_all (holds ([] ∷ r ∷ s ∷ [])) terms ≡ wrong r s)
    (is : IsPair v text first second terms) (old new : State)
    (ours : HasCleanDisk old → old.now.schema ≡ schema_at v) where
  answer : HasCleanDisk old → (rows : List Row) → Shown text [] old new rows
      → IsAnswer (pair_query first.tree second.tree terms) (overlay old.now.trees []) [] rows
  answer was rows shown = (reads_as text [] old new (schema_at v) (ours was)
      (Select (record { lets = []; body = pair_query first.tree second.tree terms }) is.names)
      is.command is.plain is.listing rows shown).answer Null

  -- rule: rows-ruled.beside
  pub none_told : {A E : Type 0} (u : A) (b : Bool) → b ≡ true
      → FindsNoRow {E = E} text old new (Ok b)
      → Tells (NoneWrong wrong first second) old new (Ok u)
  none_told u b e f = record {
    found = λ clean.
        let was : HasCleanDisk old = omega (arith, f.survives.clean, clean) in
        let it = f.found clean in (
          it.0,
          subst (λ (d : Database). NoneWrong wrong first second d.trees) (sym it.0.0.now_is)
              (none_wrong first second terms wrong tests old.now.trees it.1
              (answer was it.1 it.2) (it.3 e)),
        );
    means = λ clean. tt;
    told = tt;
    spares = f.spares;
    survives = f.survives;
  }

  -- rule: rows-ruled.beside
  pub some_told : {A E : Type 0} (b : Bool) → b ≡ false → FindsNoRow {E = E} text old new (Ok b)
      → Tells {A = A} (NoneWrong wrong first second) old new (Err Rules)
  some_told b e f = record {
    found = λ clean. tt;
    means = λ clean rules none.
        let was : HasCleanDisk old = omega (arith, f.survives.clean, clean) in
        let it = f.found clean in
        let yes' : b ≡ true = it.4 (wrong_none first second terms wrong tests old.now.trees it.1
        (answer was it.1 it.2) none) in
        let clash : false ≡ true = sym e ∙ yes' in
        cc clash;
    told = record {
      ours = λ is. absurd (cc is);
      version = λ is. absurd (cc is);
      latest = λ is. absurd (cc is);
    };
    spares = f.spares;
    survives = f.survives;
  }

-- a selection that failed
pub not_told : {A E : Type 0} (are : Trees → Type 0) (text : List ℕ) (old new : State) (e : E)
    (fault : OpenFault) → IsOfRows fault → ¬ (fault ≡ Rules) → FindsNoRow text old new (Err e)
    → Tells {A = A} are old new (Err fault)
not_told are text old new e fault told none f = record {
  found = λ clean. tt;
  means = λ clean rules. absurd (none rules);
  told = told;
  spares = f.spares;
  survives = f.survives;
}
