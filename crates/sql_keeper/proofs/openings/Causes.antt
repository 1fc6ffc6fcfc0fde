-- A database has one cause at most not to be opened.
use Rattle.std.proofs.Common.{◌≡◌, ◌≤◌, ◌<◌, ◌⊎◌, ◌+◌, inl, inr, ◌∙◌, ap, refl, sym, subst, ℕ, Some}
use Rattle.std.proofs.Common.{None, Option, arith}
use Rattle.std.proofs.lemmas.Str.{IsUtf8-string_bytes}
use Rattle.std.specs.Prelude.{◌^◌, length, zero, suc}
use Rattle.sqlite.specs.Effect.{Database}
use Rattle.sqlite_schema.specs.declared.schema.Schema.{Schema}
use Rattle.sql_tables.specs.Schema.{latest, schema_at}
use Rattle.sql_tables.specs.Stages.{AreStoredAt}
use Rattle.sql_rows.specs.Content.{tables_content}
use Rattle.sql_rows.specs.Ruled.{IsMetaOther, IsRuledMeta}
use Rattle.sql_rows.specs.Texts.{meta_of}
use Rattle.sql_rows.specs.Values.{Meta}
use Rattle.sql_rows.specs.declared.meta_rows.MetaColumns.{MetaColumns}
use Rattle.sql_tables.specs.Opens.{IsVersion}
use Rattle.sql_tables.specs.declared.fault.OpenFault.{OpenFault}
use Rattle.sql_tables.specs.declared.fault.OpenFault.TheVariants.{Foreign, Version, Rules, Store}
use Rattle.sql_tables.specs.declared.fault.OpenFault.TheVariants.{Memory, Older}
use Rattle.sql_keeper.specs.Causes.{AreCausesApart, HasFault, IsForeign, IsOlder, IsOtherVersion}
use Rattle.sql_keeper.specs.Causes.{IsStores, IsUnruled}

-- ---- versions

-- the latest is a version
pub latest_known : IsVersion latest
latest_known = let low : 1 ≤ 3 = omega arith in let high : 3 ≤ 3 = omega arith in (low, high)

-- each version has two tables more than the one before it
tables_count : (v : ℕ) → IsVersion v → length (schema_at v).tables ≡ v + v + 8
tables_count zero known = absurd (omega (arith, known.0))
tables_count (suc zero) known = refl
tables_count (suc (suc zero)) known = refl
tables_count (suc (suc (suc zero))) known = refl
tables_count (suc (suc (suc (suc n)))) known =
    let high : suc (suc (suc (suc n))) ≤ 3 = known.1 in absurd (omega (arith, high))

-- so the tables of a version are those of no other
pub same_version : (v w : ℕ) → IsVersion v → IsVersion w → schema_at v ≡ schema_at w → v ≡ w
same_version v w first second is =
    let one = tables_count v first in
    let two = tables_count w second in
    let count : length (schema_at v).tables ≡ length (schema_at w).tables =
    ap (λ (s : Schema). length s.tables) is in
    omega (arith, one, two, count)

-- ---- the row that is kept once

-- another version is kept by a row
other_row : (v : ℕ) (o : Option Meta) → IsMetaOther v o
    → (row : Meta) × (o ≡ Some row) × (¬ (row.version ≡ v))
other_row v None other = absurd other
other_row v (Some row) other = (row, refl, other)

-- one that was read is in its rules
pub ruled_row : (m : MetaColumns) → m.version < 2 ^ 32 → m.last ≤ 4_102_488_000 →
    IsRuledMeta (meta_of m)
ruled_row m number last =
    record { version = number; book = IsUtf8-string_bytes m.book; last = last }

-- ---- a fault and its cause

pub caused : (e : OpenFault) (db : Database) → (e ≡ Foreign → IsForeign db)
    → (e ≡ Version → IsOtherVersion db) → (e ≡ Rules → IsUnruled db)
    → (e ≡ Older → IsOlder db) → IsStores e ⊎ HasFault e db
caused Foreign db foreign version rules older = inr (foreign refl)
caused Version db foreign version rules older = inr (version refl)
caused Rules db foreign version rules older = inr (rules refl)
caused Store db foreign version rules older = inl (inl refl)
caused Memory db foreign version rules older = inl (inr refl)
caused Older db foreign version rules older = inr (older refl)

-- ---- two of them

version_rules : (db : Database) → IsOtherVersion db → ¬ IsUnruled db
version_rules db h k =
    let same = same_version h.version k.version h.known k.known (sym h.schema ∙ k.schema) in
    let stored = subst (λ v. AreStoredAt v db.trees) same h.stored in
    let it = other_row h.version (tables_content db.trees).meta h.other in
    let told = k.unruled stored it.0 it.1 in
    it.2 (told.0 ∙ sym same)

version_older : (db : Database) → IsOtherVersion db → ¬ IsOlder db
version_older db h k =
    let same = same_version h.version k.version h.known k.known (sym h.schema ∙ k.schema) in
    let other : ¬ (k.kept.row.version ≡ h.version) =
    subst (IsMetaOther h.version) k.kept.is h.other in
    other (k.kept.version ∙ sym same)

rules_older : (db : Database) → IsUnruled db → ¬ IsOlder db
rules_older db h k =
    let same = same_version h.version k.version h.known k.known (sym h.schema ∙ k.schema) in
    let stored = subst (λ v. AreStoredAt v db.trees) (sym same) k.stored in
    let told = (h.unruled stored k.kept.row k.kept.is).1 k.kept.ruled in
    let top : h.version ≡ 3 = told.0 in
    let low : k.version < 3 = k.older in
    omega (arith, same, top, low)

-- rule: database-opened.fault
pub causes_apart : AreCausesApart
causes_apart db Foreign Foreign h k = refl
causes_apart db Foreign Version h k = absurd (h k.version k.known k.schema)
causes_apart db Foreign Rules h k = absurd (h k.version k.known k.schema)
causes_apart db Foreign Store h k = absurd k
causes_apart db Foreign Memory h k = absurd k
causes_apart db Foreign Older h k = absurd (h k.version k.known k.schema)
causes_apart db Version Foreign h k = absurd (k h.version h.known h.schema)
causes_apart db Version Version h k = refl
causes_apart db Version Rules h k = absurd (version_rules db h k)
causes_apart db Version Store h k = absurd k
causes_apart db Version Memory h k = absurd k
causes_apart db Version Older h k = absurd (version_older db h k)
causes_apart db Rules Foreign h k = absurd (k h.version h.known h.schema)
causes_apart db Rules Version h k = absurd (version_rules db k h)
causes_apart db Rules Rules h k = refl
causes_apart db Rules Store h k = absurd k
causes_apart db Rules Memory h k = absurd k
causes_apart db Rules Older h k = absurd (rules_older db h k)
causes_apart db Store two h k = absurd h
causes_apart db Memory two h k = absurd h
causes_apart db Older Foreign h k = absurd (k h.version h.known h.schema)
causes_apart db Older Version h k = absurd (version_older db k h)
causes_apart db Older Rules h k = absurd (rules_older db k h)
causes_apart db Older Store h k = absurd k
causes_apart db Older Memory h k = absurd k
causes_apart db Older Older h k = refl
