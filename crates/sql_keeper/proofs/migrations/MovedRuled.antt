-- A migration whose rows are tested before: what is known of them at each step.
use Rattle.std.proofs.Common.{◌≡◌, inl, inr, ◌∙◌, ap, sym, subst, ℕ, Some, arith, IsTrue}
use Rattle.std.proofs.lemmas.Option.{same_Some}
use Rattle.std.specs.Prelude.{Ok, Err, Result}
use Rattle.sqlite_trees.specs.Tree.{Trees}
use Rattle.sqlite.specs.Effect.{Database}
use Rattle.sqlite.specs.State.{State, HasCleanDisk, IsUnchanged, Survives}
use Rattle.sqlite.proofs.StateLemmas.{survives_then, survives_weaker}
use Rattle.sql_tables.specs.Schema.{schema_at}
use Rattle.sql_tables.specs.Stages.{AreStoredAt}
use Rattle.sql_tables.specs.Statements.{IsStill, Spares}
use Rattle.sql_tables.proofs.Keeps.{spares_still}
use Rattle.sql_tables.specs.declared.fault.OpenFault.{OpenFault}
use Rattle.sql_tables.specs.declared.fault.OpenFault.TheVariants.{Foreign, Version, Rules, Older}
use Rattle.sql_tables.specs.declared.fault.OpenFault.TheVariants.{Memory, Store}
use Rattle.sql_rows.specs.Content.{tables_content}
use Rattle.sql_rows.specs.Values.{Meta}
use Rattle.sql_rules.specs.Ruled.{last_in}
use Rattle.sql_rules.specs.Tables.{AreRuled, Tells, last_kept}
use Rattle.sql_keeper.specs.Causes.{IsOtherThan, IsStores}
use Rattle.sql_keeper.specs.Migrates.{AreRowsRuled, BecomesLatest, FindsShelf, HasIdleAt}
use Rattle.sql_keeper.specs.Migrates.{HasRuledRows, IsLeftLatest, IsRuledVersion, IsShelfAt}
use Rattle.sql_keeper.specs.Migrates.{MigratesRuled, MigratesTables, content_at}
use Rattle.sql_keeper.specs.Shelves.{IsShelfOf}
use Rattle.sql_keeper.specs.declared.books.ReadBooks.{ReadBooks}
use Rattle.sql_keeper.proofs.shelf.OneShelf.{same_shelf}

nothing_then : {P : Trees → Type 0} (old mid new : State) → Survives old mid (λ _. ⊥)
    → Survives mid new P → Survives old new P
nothing_then {P} old mid new one two =
    survives_then old mid new (λ _. ⊥) P P (λ clean db no. absurd no) (λ clean db p. p) one two

-- nothing is changed since, and the connection is open
still_since : (old mid new : State) → IsStill old mid → IsUnchanged mid new → IsStill old new
still_since old mid new s same = record {
  was_open = s.was_open;
  now_is = same.0.now_is ∙ s.now_is;
  committed_is = same.0.committed_is ∙ s.committed_is;
}

-- ---- the shelf was read, and the connection can be asked

pub record HasAsked (v : ℕ) (old mid : State) (r : ReadBooks) : Type 0 where
  pub still : HasCleanDisk mid → IsStill old mid
  pub shelf : HasCleanDisk mid → IsShelfAt v old.now.trees r
  pub survives : Survives old mid (λ _. ⊥)

pub asked : (v : ℕ) (old mid new : State) (r : ReadBooks) → FindsShelf v old mid (Ok r)
    → (HasCleanDisk new → IsUnchanged mid new) → Survives mid new (λ _. ⊥) → HasAsked v old new r
asked v old mid new r finds same stops = record {
  still = λ clean.
      let before : HasCleanDisk mid = omega (arith, stops.clean, clean) in
      still_since old mid new (finds.still before (same clean).0.was_open) (same clean);
  shelf = λ clean. finds.shelf (omega (arith, stops.clean, clean));
  survives = nothing_then old mid new finds.survives stops;
}

-- the schema is that of the version
pub asked_schema : (v : ℕ) (old mid : State) (r : ReadBooks) → HasIdleAt v old
    → HasAsked v old mid r → HasCleanDisk mid → mid.now.schema ≡ schema_at v
asked_schema v old mid r idle has clean =
    let s = has.still clean in
    ap (λ (d : Database). d.schema) s.now_is
    ∙ (idle (omega (arith, has.survives.clean, clean)) s.was_open).0.schema

-- the last moment is that of the shelf that was read
pub asked_last : (v : ℕ) (old mid : State) (r : ReadBooks) → HasAsked v old mid r
    → HasCleanDisk mid → r.last ≡ last_kept mid.now.trees
asked_last v old mid r has clean =
    let at = has.shelf clean in
    at.last ∙ sym (ap last_in at.is)
    ∙ ap (λ (d : Database). last_kept d.trees) (sym (has.still clean).now_is)

-- ---- each row was tested

pub record HasTested (v : ℕ) (old mid : State) : Type 0 where
  pub still : HasCleanDisk mid → IsStill old mid
  pub ruled : HasCleanDisk mid → AreRowsRuled v mid.now.trees
  pub survives : Survives old mid (λ _. ⊥)

-- rule: database-migrated.ruled-version
pub tested : {A : Type 0} (v : ℕ) (old mid new : State) (r : ReadBooks) (u : A)
    → HasAsked v old mid r → Tells (AreRuled r.own v) mid new (Ok u) → HasTested v old new
tested v old mid new r u has tells = record {
  still = still_now;
  ruled = λ clean row s is shelf.
      let before : HasCleanDisk mid = omega (arith, tells.survives.clean, clean) in
      let at = has.shelf before in
      let now : new.now ≡ old.now = (still_now clean).now_is in
      let was : (tables_content old.now.trees).meta ≡ Some row =
      subst (λ (d : Database). (tables_content d.trees).meta ≡ Some row) now is in
      let so : IsShelfOf row.book (content_at v old.now.trees).books s =
      subst (λ (d : Database). IsShelfOf row.book (content_at v d.trees).books s) now shelf in
      let one : Some at.row ≡ Some row = sym at.is ∙ was in
      let own : IsShelfOf row.book (content_at v old.now.trees).books r.own =
      subst (λ (m : Meta). IsShelfOf m.book (content_at v old.now.trees).books r.own)
      (same_Some at.row row one) at.shelf in
      subst (λ x. AreRuled x v new.now.trees)
      (same_shelf row.book (content_at v old.now.trees).books r.own s own so)
      (tells.found clean).1;
  survives = nothing_then old mid new has.survives tells.survives;
}
  where
    still_now : HasCleanDisk new → IsStill old new
    still_now clean = still_since old mid new
        (has.still (omega (arith, tells.survives.clean, clean))) (tells.found clean).0

module _ (v : ℕ) (old mid : State) (has : HasTested v old mid) where
  pub tested_at : HasIdleAt v old → HasIdleAt v mid
  tested_at idle clean on =
      let s = has.still clean in
      let it = idle (omega (arith, has.survives.clean, clean)) s.was_open in (
        record {
          schema = ap (λ (d : Database). d.schema) s.now_is ∙ it.0.schema;
          stored = subst (λ (d : Database). AreStoredAt v d.trees) (sym s.now_is) it.0.stored;
        },
        s.now_is ∙ it.1 ∙ sym s.committed_is,
      )

  pub tested_rows : HasRuledRows v mid
  tested_rows clean on = has.ruled clean

-- ---- a fault

-- the error that is handed on
pub ruled_err : (v : ℕ) (old new : State) (r : Result ReadBooks OpenFault) (f e : OpenFault)
    → r ≡ Err f → f ≡ e → MigratesRuled v old new (Err e) → MigratesRuled v old new r
ruled_err v old new r f e is same m =
    subst (λ x. MigratesRuled v old new x) (sym (is ∙ ap Err same)) m

nothing_left : (v : ℕ) (old new : State) → Survives old new (λ _. ⊥)
    → Survives old new (IsLeftLatest v old.now.trees)
nothing_left v old new s = survives_weaker old new (λ _. ⊥) (IsLeftLatest v old.now.trees)
    (λ clean db no. absurd no) s

-- outside a transaction a failure leaves what was there as it was
spared_since : (v : ℕ) (old mid new : State) → HasIdleAt v old
    → (HasCleanDisk mid → HasCleanDisk old)
    → (HasCleanDisk mid → IsTrue mid.is_open → IsStill old mid) → HasCleanDisk mid
    → Spares mid new → IsTrue new.is_open → IsStill old new
spared_since v old mid new idle was still clean spares on =
    let s : IsStill mid new = spares_still mid new (λ on'.
    let t = still clean on' in
    t.now_is ∙ (idle (was clean) t.was_open).1 ∙ sym t.committed_is) spares on in
    let t = still clean s.was_open in
    record {
      was_open = t.was_open;
      now_is = s.now_is ∙ t.now_is;
      committed_is = s.committed_is ∙ t.committed_is;
    }

pub unshelved : (v : ℕ) (old new : State) (e : OpenFault) → FindsShelf v old new (Err e)
    → MigratesRuled v old new (Err e)
unshelved v old new e finds = record {
  moved = tt;
  version = finds.version;
  rules = finds.rules;
  other = finds.other;
  still = finds.still;
  survives = nothing_left v old new finds.survives;
}

not_stores : (e f : OpenFault) → IsStores e → ¬ (f ≡ Store) → ¬ (f ≡ Memory) → ¬ (e ≡ f)
not_stores e f (inl is) store memory same = store (sym same ∙ is)
not_stores e f (inr is) store memory same = memory (sym same ∙ is)

pub unasked : (v : ℕ) (old mid new : State) (r : ReadBooks) (e : OpenFault)
    → HasIdleAt v old → FindsShelf v old mid (Ok r) → IsStores e
    → (HasCleanDisk new → Spares mid new) → Survives mid new (λ _. ⊥)
    → MigratesRuled v old new (Err e)
unasked v old mid new r e idle finds store spares stops = record {
  moved = tt;
  version = λ clean is. absurd (not_stores e Version store (λ n. let no : Version ≡ Store = n in cc)
      (λ n. let no : Version ≡ Memory = n in cc) is);
  rules = λ clean is. absurd (not_stores e Rules store (λ n. let no : Rules ≡ Store = n in cc)
      (λ n. let no : Rules ≡ Memory = n in cc) is);
  other = (
    not_stores e Foreign store (λ n. let no : Foreign ≡ Store = n in cc)
        (λ n. let no : Foreign ≡ Memory = n in cc),
    not_stores e Older store (λ n. let no : Older ≡ Store = n in cc)
        (λ n. let no : Older ≡ Memory = n in cc),
  );
  still = λ clean. spared_since v old mid new idle
      (λ before. omega (arith, finds.survives.clean, before)) finds.still
      (omega (arith, stops.clean, clean)) (spares clean);
  survives = nothing_left v old new (nothing_then old mid new finds.survives stops);
}

-- rule: database-migrated.ruled-version
pub untested_rows : {A : Type 0} (v : ℕ) (old mid new : State) (r : ReadBooks) (e : OpenFault)
    → HasIdleAt v old → HasAsked v old mid r → Tells {A = A} (AreRuled r.own v) mid new (Err e)
    → MigratesRuled v old new (Err e)
untested_rows v old mid new r e idle has tells = record {
  moved = tt;
  version = λ clean is. absurd (tells.told.version is);
  rules = λ clean is ruled.
      let before : HasCleanDisk mid = omega (arith, tells.survives.clean, clean) in
      let at = has.shelf before in
      let one : Some at.row ≡ Some ruled.row = sym at.is ∙ ruled.is in
      let own : IsShelfOf ruled.row.book (content_at v old.now.trees).books r.own =
      subst (λ (m : Meta). IsShelfOf m.book (content_at v old.now.trees).books r.own)
      (same_Some at.row ruled.row one) at.shelf in
      let version : ruled.row.version ≡ v =
      ap (λ (m : Meta). m.version) (sym (same_Some at.row ruled.row one)) ∙ at.version in
      tells.means clean is
      (subst (λ (d : Database). AreRuled r.own v d.trees) (sym (has.still before).now_is)
      ((ruled.of_version version).rows r.own own));
  other = (tells.told.ours, tells.told.latest);
  still = λ clean. spared_since v old mid new idle
      (λ before. omega (arith, has.survives.clean, before)) (λ before on. has.still before)
      (omega (arith, tells.survives.clean, clean)) (tells.spares clean);
  survives = nothing_left v old new (nothing_then old mid new has.survives tells.survives);
}

-- ---- it is brought to the latest, or not

module _ (v : ℕ) (old mid new : State) (has : HasTested v old mid) where
  now_since : HasCleanDisk mid → mid.now ≡ old.now
  now_since clean = (has.still clean).now_is

  left_since : Survives mid new (IsLeftLatest v mid.now.trees)
      → Survives old new (IsLeftLatest v old.now.trees)
  left_since two = survives_then old mid new (λ _. ⊥) (IsLeftLatest v mid.now.trees)
      (IsLeftLatest v old.now.trees) (λ clean db no. absurd no)
      (λ clean db left. subst (λ (d : Database). IsLeftLatest v d.trees db)
      (now_since (omega (arith, two.clean, clean))) left) has.survives two

  pub moved_ruled : (r : Result ReadBooks OpenFault) → MigratesTables v mid new r
      → MigratesRuled v old new r
  moved_ruled (Ok r) m = record {
    moved = record {
      done = λ clean.
          let it = m.done clean in
          let was : HasCleanDisk mid = omega (arith, m.survives.clean, clean) in (
            it.0,
            subst (λ (d : Database). BecomesLatest v d.trees new.now.trees) (now_since was) it.1,
            it.2,
          );
      given = m.given;
      first = m.first;
      kept = λ clean on. tt;
      idle = m.idle;
      faults = record {
        version = λ clean. tt;
        rules = λ clean. tt;
        other = tt;
      };
      survives = left_since m.survives;
    };
    version = λ clean. tt;
    rules = λ clean. tt;
    other = tt;
    still = λ clean on. tt;
    survives = left_since m.survives;
  }
  moved_ruled (Err e) m = record {
    moved = tt;
    version = λ clean is. subst (λ (d : Database). IsOtherThan v d.trees)
        (now_since (omega (arith, m.survives.clean, clean))) (m.faults.version clean is);
    rules = λ clean is ruled. m.faults.rules clean is (subst (λ (d : Database). IsRuledVersion v d.trees)
        (sym (now_since (omega (arith, m.survives.clean, clean)))) ruled);
    other = m.faults.other;
    still = λ clean on.
        let t = has.still (omega (arith, m.survives.clean, clean)) in
        let s = m.kept clean on in
        record {
          was_open = t.was_open;
          now_is = s.now_is ∙ t.now_is;
          committed_is = s.committed_is ∙ t.committed_is;
        };
    survives = left_since m.survives;
  }
