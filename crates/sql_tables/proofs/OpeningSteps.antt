-- One more table whose rowids differ.
use Rattle.std.proofs.Common.{◌≡◌, ℕ, zero, suc, ◌+◌, List, [], ◌∷◌, take, length, sym, ap, subst}
use Rattle.std.proofs.Common.{◌∙◌, refl, arith, Ok, Err, Result, inl}
use Rattle.std.specs.List.{AllByRecursion}
use Rattle.sqlite_value.specs.Order.{Row}
use Rattle.sqlite_trees.specs.declared.store.Store.{Ghosts}
use Rattle.sqlite_schema.specs.declared.schema.Table.{Table}
use Rattle.sqlite_trees.proofs.ListLemmas.{all-append}
use Rattle.sqlite.specs.Effect.{Database}
use Rattle.sqlite.specs.Held.{Held, state}
use Rattle.sqlite.specs.State.{State, HasCleanDisk, IsUnchanged, Shown, Survives}
use Rattle.sqlite.proofs.Callers.{unchanged_then}
use Rattle.sqlite.proofs.StateLemmas.{survives_then}
use Rattle.sql_tables.specs.Keyed.{IsStored}
use Rattle.sql_tables.specs.Schema.{schema_at}
use Rattle.sql_tables.specs.Stages.{AreStoredAt}
use Rattle.sql_tables.specs.Opens.{Finds, FindsAll, HasStoredTo, IsNext, IsStoredTo}
use Rattle.sql_tables.specs.Opens.{IsOpenFaultTold}
use Rattle.sql_tables.specs.declared.fault.OpenFault.{OpenFault}
use Rattle.sql_tables.specs.Rises.{AreRising}
use Rattle.sql_tables.proofs.Ascents.{all_end}
use Rattle.sql_tables.proofs.Keeps.{spares_then}
use Rattle.sql_tables.proofs.Standing.{rows_rise, rows_stand}

-- one more table
pub stored_next : {S : Type 0} (g : Ghosts S) (v : ℕ) (text : List ℕ) (k : ℕ) → IsNext v text k →
    (old was : Held S) (new : State) (rows : List Row) → IsUnchanged (state g old) (state g was)
    → Shown text [] (state g was) new rows → IsStored rows
    → IsUnchanged (state g old) new → IsStoredTo v k (state g old) → IsStoredTo v (k + 1) new
stored_next g v text k is old was new rows then' shown stored same so =
    let at : (state g was).now ≡ (state g old).now = then'.0.now_is in
    let has : (state g was).now.schema ≡ schema_at v =
    ap (λ (d : Database). d.schema) at ∙ so.schema in
    let here : IsStored ((state g was).now.trees is.table.tree) =
    rows_stand v text is.table is.rowids (state g was) new rows has shown stored in
    let one : IsStored ((state g old).now.trees is.table.tree) =
    subst (λ (d : Database). IsStored (d.trees is.table.tree)) at here in
    let all =
    subst (AllByRecursion (λ (t : Table). IsStored ((state g old).now.trees t.tree))) (sym is.next)
    (all-append (λ (t : Table). IsStored ((state g old).now.trees t.tree))
    (take k (schema_at v).tables) (is.table ∷ []) so.stored (one, tt)) in
    let moved : (state g old).now ≡ new.now = sym same.0.now_is in
    record {
      schema = subst (λ (d : Database). d.schema ≡ schema_at v) moved so.schema;
      stored = subst (λ (d : Database). AllByRecursion (λ (t : Table). IsStored (d.trees t.tree))
          (take (k + 1) (schema_at v).tables)) moved all;
    }

-- a table in which no rowid comes twice isn't reported
pub told_twice : {S : Type 0} (g : Ghosts S) (v : ℕ) (text : List ℕ) (k : ℕ) → IsNext v text k →
    (old was : Held S) (new : State) (rows : List Row) → IsUnchanged (state g old) (state g was)
    → Shown text [] (state g was) new rows
    → ¬ AreRising rows → IsStoredTo v k (state g old) → ¬ AreStoredAt v (state g old).now.trees
told_twice g v text k is old was new rows then' shown falls so all =
    let at : (state g was).now ≡ (state g old).now = then'.0.now_is in
    let has : (state g was).now.schema ≡ schema_at v =
    ap (λ (d : Database). d.schema) at ∙ so.schema in
    let split =
    subst (AllByRecursion (λ (t : Table). IsStored ((state g old).now.trees t.tree))) is.all all in
    let one : IsStored ((state g old).now.trees is.table.tree) =
    (all_end (λ (t : Table). IsStored ((state g old).now.trees t.tree))
    (take k (schema_at v).tables) (is.table ∷ is.rest) split).0 in
    let here : IsStored ((state g was).now.trees is.table.tree) =
    subst (λ (d : Database). IsStored (d.trees is.table.tree)) (sym at) one in
    falls (rows_rise v text is.table is.rowids (state g was) new rows has shown here)

-- ---- several tables in turn

-- so far
abbrev pub FoundTo : ℕ → ℕ → State → State → Type 0
FoundTo v k old now =
    Survives old now (λ _. ⊥) × (HasCleanDisk now → IsUnchanged old now × IsStoredTo v k now)

pub found_first : {A : Type 0} (v : ℕ) (a b : State) (u : A) → Finds v 1 a b (Ok u)
    → FoundTo v 1 a b
found_first v a b u f = (f.survives, f.found)

pub found_next : {A : Type 0} (v k : ℕ) (a b c : State) (u : A) → FoundTo v k a b
    → Finds v (k + 1) b c (Ok u) → FoundTo v (k + 1) a c
found_next v k a b c u so f = (
  survives_then a b c (λ _. ⊥) (λ _. ⊥) (λ _. ⊥) (λ clean db none. none) (λ clean db none. none)
      so.0 f.survives,
  λ clean.
      let here = so.1 (omega (arith, f.survives.clean, clean)) in
      let more = f.found clean in
      (unchanged_then a b c here.0 more.0, more.1),
)

-- no table yet
pub none_found : (v : ℕ) (s : State) → s.now.schema ≡ schema_at v → HasStoredTo v 0 s
none_found v s has clean = record { schema = has; stored = tt }

pub found_not : {A B : Type 0} (v k : ℕ) (a b c : State) (e : OpenFault) (r : Result B OpenFault)
    → r ≡ Err e → FoundTo v k a b → Finds {A = A} v (k + 1) b c (Err e)
    → FindsAll v a c r
found_not v k a b c e r is so f = subst (FindsAll v a c) (sym is) (record {
  found = λ clean. tt;
  told = f.told;
  means = λ clean.
      let here = so.1 (omega (arith, f.survives.clean, clean)) in
      subst (λ db. IsOpenFaultTold db e) here.0.0.now_is (f.means clean);
  spares = λ clean. spares_then a b c (so.1 (omega (arith, f.survives.clean, clean))).0
      (f.spares clean);
  survives = survives_then a b c (λ _. ⊥) (λ _. ⊥) (λ _. ⊥) (λ clean db none. none)
      (λ clean db none. none) so.0 f.survives;
})

pub none_found_not : {A B : Type 0} (v k : ℕ) (a c : State) (e : OpenFault)
    (r : Result B OpenFault) → r ≡ Err e → Finds {A = A} v k a c (Err e) → FindsAll v a c r
none_found_not v k a c e r is f = subst (FindsAll v a c) (sym is)
    (record {
      found = λ clean. tt;
      told = f.told;
      means = f.means;
      spares = f.spares;
      survives = f.survives;
    })

whole : {A : Type 0} (xs : List A) (k : ℕ) → k ≡ length xs → take k xs ≡ xs
whole [] zero e = refl
whole [] (suc k) e = refl
whole (x ∷ xs) zero e = absurd (cc e)
whole (x ∷ xs) (suc k) e = ap (λ l. x ∷ l) (whole xs k (cc e))

pub found_all : {A : Type 0} (v k : ℕ) (a b : State) (u : A) → k ≡ length (schema_at v).tables
    → FoundTo v k a b → FindsAll {A = A} v a b (Ok u)
found_all v k a b u end so = record {
  found = λ clean. let here = so.1 clean in (
    here.0,
    here.1.schema,
    subst (AllByRecursion (λ (t : Table). IsStored (b.now.trees t.tree)))
        (whole (schema_at v).tables k end) here.1.stored,
  );
  told = tt;
  means = λ clean. tt;
  spares = λ clean. inl (so.1 clean).0;
  survives = so.0;
}
