-- What the pieces of a version make of a database, and a schema that is of none.
use Rattle.std.proofs.Common.{◌≡◌, ◌≤◌, ◌<◌, ◌+◌, ℕ, zero, suc, List, [], ◌∷◌, Ok, Err, Result}
use Rattle.std.proofs.Common.{OnOk, IsTrue, Bool, true, false, length, take, refl, sym, ap, subst}
use Rattle.std.proofs.Common.{◌∙◌, arith, nat_lt}
use Rattle.std.proofs.lemmas.Bool.{both_ways}
use Rattle.std.proofs.lemmas.Bool.Decides.{nat_tests}
use Rattle.std.specs.List.{AllByRecursion}
use Rattle.sqlite_trees.specs.Tree.{Trees}
use Rattle.sqlite_trees.proofs.ListLemmas.{all-append}
use Rattle.sqlite_schema.specs.declared.schema.Schema.{Schema}
use Rattle.sqlite_schema.specs.declared.schema.Table.{Table}
use Rattle.sqlite_catalog.specs.Change.{KeepsRows}
use Rattle.sqlite.specs.State.{State}
use Rattle.sql_tables.specs.Keyed.{IsStored}
use Rattle.sql_tables.specs.Opens.{IsVersion}
use Rattle.sql_tables.specs.Schema.{our_schema, latest, pieces_to, schema_at, schema_of}
use Rattle.sql_tables.specs.Schema.{tables_of}
use Rattle.sql_tables.specs.Stages.{Adds, AreEmpty, BuildsAll, BuildsTo, HasStage, HasVersion}
use Rattle.sql_tables.specs.Stages.{Migrates}
use Rattle.sql_tables.specs.Stages.{tables_between}
use Rattle.sql_tables.specs.Statements.{Attempts}
use Rattle.sql_tables.specs.Texts.{stage}
use Rattle.sql_tables.proofs.Keeps.{done_as}
use Rattle.sql_tables.proofs.Stages.{builds_all, none_stored, tables_to}

-- ---- pieces of a version

-- the first pieces of all are those of a version, no more than all
pub taken : (v : ℕ) → IsVersion v → take (length (pieces_to v)) (pieces_to latest) ≡ pieces_to v
taken zero known = absurd (omega (arith, known.0))
taken (suc zero) known = refl
taken (suc (suc zero)) known = refl
taken (suc (suc (suc zero))) known = refl
taken (suc (suc (suc (suc n)))) known =
    let high : suc (suc (suc (suc n))) ≤ 3 = known.1 in absurd (omega (arith, high))

pub some_pieces : (v : ℕ) → IsVersion v → 0 < length (pieces_to v)
some_pieces zero known = absurd (omega (arith, known.0))
some_pieces (suc zero) known = omega arith
some_pieces (suc (suc zero)) known = omega arith
some_pieces (suc (suc (suc zero))) known = omega arith
some_pieces (suc (suc (suc (suc n)))) known =
    let high : suc (suc (suc (suc n))) ≤ 3 = known.1 in absurd (omega (arith, high))

pub few_pieces : (v : ℕ) → IsVersion v → length (pieces_to v) ≤ 17
few_pieces zero known = absurd (omega (arith, known.0))
few_pieces (suc zero) known = omega arith
few_pieces (suc (suc zero)) known = omega arith
few_pieces (suc (suc (suc zero))) known = omega arith
few_pieces (suc (suc (suc (suc n)))) known =
    let high : suc (suc (suc (suc n))) ≤ 3 = known.1 in absurd (omega (arith, high))

pub older_pieces : (v : ℕ) → 1 ≤ v → v < latest → length (pieces_to v) < 17
older_pieces zero low high = absurd (omega (arith, low))
older_pieces (suc zero) low high = omega arith
older_pieces (suc (suc zero)) low high = omega arith
older_pieces (suc (suc (suc n))) low high =
    let most : suc (suc (suc n)) < 3 = high in absurd (omega (arith, most))

-- ---- made up to a version

builds : (v m : ℕ) → take m (pieces_to latest) ≡ pieces_to v → (old new : State) →
    Adds 0 m old new → BuildsTo v old new
builds v m same old new all = record {
  schema = all.schema ∙ ap schema_of same;
  empty = subst (λ ps. AreEmpty (tables_of ps) new.now.trees) same all.empty;
  shows = all.shows;
}

pub builds_to : {A E : Type 0} (v m : ℕ) → IsVersion v → m ≡ length (pieces_to v) →
    (old new : State) (r : Result A E) → Attempts (Adds 0 m) old new r →
    Attempts (BuildsTo v) old new r
builds_to {A} {E} v m known is old new r = done_as _ (BuildsTo v) old new r (λ clean. go r)
  where
    go : (r : Result A E) → OnOk r (Adds 0 m old new) → OnOk r (BuildsTo v old new)
    go (Ok x) all = builds v m (ap (λ k. take k (pieces_to latest)) is ∙ taken v known) old new all
    go (Err e) all = tt

-- made to the last
pub builds_each : {A E : Type 0} (k : ℕ) → k ≡ length (pieces_to latest) → (old new : State)
    (r : Result A E) → Attempts (Adds 0 k) old new r → Attempts BuildsAll old new r
builds_each k is old new r made =
    builds_all old new r (subst (λ n. Attempts (Adds 0 n) old new r) is made)

-- ---- made after a version

kept_stored : (ts : List Table) (before after : Trees) → KeepsRows ts before after →
    AllByRecursion (λ (t : Table). IsStored (before t.tree)) ts →
    AllByRecursion (λ (t : Table). IsStored (after t.tree)) ts
kept_stored [] before after kept all = tt
kept_stored (t ∷ ts) before after kept all =
    (subst IsStored (sym kept.0) all.0, kept_stored ts before after kept.1 all.1)

migrates : (v m : ℕ) → m ≤ 17 → take m (pieces_to latest) ≡ pieces_to v →
    m ≡ length (pieces_to v) → (old new : State) → Adds m 17 old new → Migrates v old new
migrates v m most same is old new all =
    let kept : KeepsRows (schema_at v).tables old.now.trees new.now.trees =
    subst (λ ps. KeepsRows (tables_of ps) old.now.trees new.now.trees) same all.rows in
    record {
      schema = all.schema;
      sound = all.sound;
      rows = kept;
      empty = subst (λ k. AreEmpty (tables_between k 17) new.now.trees) is all.empty;
      book = λ stored.
          subst (AllByRecursion (λ (t : Table). IsStored (new.now.trees t.tree)))
          (sym (tables_to m 17 most))
          (all-append (λ (t : Table). IsStored (new.now.trees t.tree)) (stage m).tables
          (tables_between m 17)
          (subst (λ ps. AllByRecursion (λ (t : Table). IsStored (new.now.trees t.tree))
          (tables_of ps)) (sym same)
          (kept_stored (schema_at v).tables old.now.trees new.now.trees kept stored))
          (none_stored (tables_between m 17) new.now.trees all.empty));
      shows = all.shows;
    }

pub migrates_from : {A E : Type 0} (v m k : ℕ) → IsVersion v → m ≡ length (pieces_to v) →
    k ≡ length (pieces_to latest) → (old new : State) (r : Result A E) →
    Attempts (Adds m k) old new r → Attempts (Migrates v) old new r
migrates_from {A} {E} v m k known is all old new r =
    done_as _ (Migrates v) old new r (λ clean so.
    go r (subst (λ n. OnOk r (Adds m n old new)) all so))
  where
    most : m ≤ 17
    most = let few = few_pieces v known in omega (arith, is, few)

    go : (r : Result A E) → OnOk r (Adds m 17 old new) → OnOk r (Migrates v old new)
    go (Ok x) all =
        migrates v m most (ap (λ k. take k (pieces_to latest)) is ∙ taken v known) is old new all
    go (Err e) all = tt

-- a database of a version has the pieces that the next ones follow
pub has_stage : (v m : ℕ) → IsVersion v → m ≡ length (pieces_to v) → (s : State) →
    HasVersion v s → HasStage m s
has_stage v m known is s has clean stands =
    has clean stands ∙ sym (ap (λ k. stage k) is ∙ ap schema_of (taken v known))

pub older : (v : ℕ) → (1 ≤ v) × (v < latest) → IsVersion v
older v known = (known.0, omega (arith, known.1))

-- ---- of no version

-- the schema is that of no version, but for the first ones
abbrev pub IsOfNone : Schema → ℕ → Type 0
IsOfNone s later = (v : ℕ) → IsVersion v → 3 < v + later → ¬ (s ≡ schema_at v)

-- nor is it that of the version before those
-- rule: database-opened.open-fault-told
pub of_none_more : (s : Schema) (later version : ℕ) (same : Bool) →
    (s ≡ schema_at version → IsTrue same) → version + later ≡ 3 → same ≡ false →
    IsOfNone s later → IsOfNone s (later + 1)
of_none_more s later version same told sum other before v known high =
    at (nat_lt 3 (v + later)) refl
  where
    at : (b : Bool) → nat_lt 3 (v + later) ≡ b → ¬ (s ≡ schema_at v)
    at true e = before v known (grind (arith, nat_tests, e))
    at false e =
        let here : v ≡ version = grind (arith, nat_tests, e, sum, high) in
        λ is. both_ways same other (told (subst (λ n. s ≡ schema_at n) here is))
