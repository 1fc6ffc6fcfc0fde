-- A migration over its transaction: committed whole, or nothing is changed, and what a stop leaves.
use Rattle.std.proofs.Common.{◌≡◌, ◌<◌, ◌≤◌, ◌⊎◌, inl, inr, ◌∙◌, ap, refl, sym, subst, ℕ}
use Rattle.std.proofs.lemmas.Option.{same_Some}
use Rattle.std.proofs.Common.{Some, arith, IsTrue, Bool, true, false, nat_lt, ltb-true, ltb-false}
use Rattle.std.specs.Prelude.{Ok, Err, Result}
use Rattle.std.specs.String.{string_bytes}
use Rattle.shelves.specs.Shelves.{Shelf}
use Rattle.sqlite_trees.specs.declared.store.Store.{Ghosts}
use Rattle.sqlite_trees.specs.Tree.{Trees}
use Rattle.sqlite.specs.declared.error.Error.{Error}
use Rattle.sqlite.specs.Effect.{Database}
use Rattle.sqlite.specs.Held.{Held, state}
use Rattle.sqlite.specs.State.{IsRolledBack, KeepsCommit, Shows, State, HasCleanDisk}
use Rattle.sqlite.specs.State.{Survives}
use Rattle.sqlite.specs.Steps.{FailsToCommit}
use Rattle.sqlite.proofs.StateLemmas.{survives_then, survives_weaker}
use Rattle.sql_tables.specs.Schema.{latest, schema_at}
use Rattle.sql_tables.specs.Statements.{AreStored, HasIdleTables, IsStill}
use Rattle.sql_rows.specs.Content.{tables_content}
use Rattle.sql_rows.specs.Values.{Meta}
use Rattle.sql_rules.specs.Tables.{AreRuled, Tells, last_kept}
use Rattle.sql_tables.specs.Opens.{IsFound, IsNoVersion, IsOpenFaultTold, IsVersion}
use Rattle.sql_tables.specs.declared.fault.OpenFault.{OpenFault}
use Rattle.sql_tables.specs.declared.fault.OpenFault.TheVariants.{Foreign, Version, Rules, Older}
use Rattle.sql_tables.specs.declared.fault.OpenFault.TheVariants.{Store, Memory}
use Rattle.sql_keeper.specs.Finds.{FindsBooks, IsReadRuled, ReadsBooks}
use Rattle.sql_keeper.specs.Inside.{IsKeeper, KeeperState}
use Rattle.sql_keeper.specs.Migrates.{BecomesLatest, BringsToLatest, ComesToLatest, FindsAny}
use Rattle.sql_keeper.specs.Migrates.{FindsNone, HasAt}
use Rattle.sql_keeper.specs.Migrates.{HasIdleAt, IsLeftLatest, IsMigrated, IsRuledVersion}
use Rattle.sql_keeper.specs.Migrates.{HasRuledRows, IsHeldBy, MigratesRuled}
use Rattle.sql_keeper.specs.Migrates.{MigratesTables}
use Rattle.sql_keeper.specs.Causes.{IsOtherThan}
use Rattle.sql_keeper.specs.RuledOpening.{FindsRuled}
use Rattle.sql_keeper.specs.Shelves.{IsShelfOf}
use Rattle.sql_keeper.specs.declared.books.ReadBooks.{ReadBooks}
use Rattle.sql_keeper.proofs.openings.Opens.{begins, finds_books}
use Rattle.sql_keeper.proofs.openings.Made.{ruled_read}
use Rattle.sql_keeper.proofs.openings.Opens.{reads_survived}
use Rattle.sql_keeper.proofs.openings.RuledOpening.{rows_told, ruled_schema, spared_after}

-- ---- a transaction is begun

module _ {S : Type 0} (g : Ghosts S) (old begun : Held S)
    (is : begun ≡ record old { in_transaction = true }) where
  begun_survives : Survives (state g old) (state g begun) (λ _. ⊥)
  begun_survives = subst (λ h. Survives (state g old) (state g h) (λ _. ⊥)) (sym is) (record {
    clean = omega arith;
    shield = λ h. h;
    counts = omega arith;
    limit = refl;
    closes = λ clean on. inl on;
    crash = λ clean db may. inl may;
  })

  same_now : (state g begun).now ≡ (state g old).now
  same_now = ap (λ h. (state g h).now) is

  same_committed : (state g begun).committed ≡ (state g old).committed
  same_committed = ap (λ h. (state g h).committed) is

  same_open : (state g begun).is_open ≡ (state g old).is_open
  same_open = ap (λ h. (state g h).is_open) is

  pub begun_at : (v : ℕ) → HasIdleAt v (state g old) → HasAt v (state g begun)
  begun_at v idle = subst (λ h. HasAt v (state g h)) (sym is) (λ clean on.
      let it = (idle clean on).0 in record { schema = it.schema; stored = it.stored })

  pub begun_ruled : (v : ℕ) → HasRuledRows v (state g old) → HasRuledRows v (state g begun)
  begun_ruled v ruled =
      subst (λ h. HasRuledRows v (state g h)) (sym is) (λ clean on. ruled clean on)

  module _ (v : ℕ) (idle : HasIdleAt v (state g old)) (mid new : State) where
    -- what was written within it is undone
    undone : HasCleanDisk (state g old) → KeepsCommit (state g begun) mid → IsRolledBack mid new
        → IsTrue new.is_open → IsStill (state g old) new
    undone clean kept rolled on =
        let inside = rolled.was_open on in
        let first : IsTrue (state g old).is_open = subst IsTrue same_open (kept.was_open inside) in
        let back = rolled.undone on in
        let commit : mid.committed ≡ (state g old).committed =
        kept.committed inside ∙ same_committed in
        record {
          was_open = first;
          now_is = back.0 ∙ commit ∙ sym (idle clean first).1;
          committed_is = back.1 ∙ commit;
        }

    survives_to : {R : Trees → Type 0} → Survives (state g begun) mid (λ _. ⊥)
        → Survives mid new R → Survives (state g old) new R
    survives_to {R} one two =
        survives_then (state g old) mid new (λ _. ⊥) R R (λ clean db no. absurd no)
        (λ clean db made. made)
        (survives_then (state g old) (state g begun) mid (λ _. ⊥) (λ _. ⊥) (λ _. ⊥)
        (λ clean db no. no) (λ clean db no. no) begun_survives one) two

    was_clean : {R : Trees → Type 0} → Survives (state g begun) mid (λ _. ⊥)
        → Survives mid new R → HasCleanDisk new → HasCleanDisk (state g old)
    was_clean {R} one two clean =
        let both = survives_to {R = R} one two in omega (arith, both.clean, clean)

    mid_clean : {R : Trees → Type 0} → Survives mid new R → HasCleanDisk new → HasCleanDisk mid
    mid_clean two clean = omega (arith, two.clean, clean)

    -- a fault within it
    pub not_migrated : (e f : OpenFault) → e ≡ f
        → BringsToLatest v (state g begun) mid (Err e)
        → (HasCleanDisk new → IsRolledBack mid new) → Survives mid new (λ _. ⊥)
        → MigratesTables v (state g old) new (Err f)
    not_migrated e f same b rolled ends = record {
      done = λ clean. tt;
      given = tt;
      first = tt;
      kept = λ clean. undone (was_clean b.brings.survives ends clean)
          (b.brings.kept (mid_clean ends clean)) (rolled clean);
      idle = tt;
      faults = record {
        version = λ clean k. subst (λ (d : Database). IsOtherThan v d.trees) same_now
            (b.version (mid_clean ends clean) (same ∙ k));
        rules = λ clean k ruled. b.rules (mid_clean ends clean) (same ∙ k)
            (subst (λ (d : Database). IsRuledVersion v d.trees) (sym same_now) ruled);
        other = ((λ k. b.other.0 (same ∙ k)), (λ k. b.other.1 (same ∙ k)));
      };
      survives = survives_weaker (state g old) new (λ _. ⊥)
          (IsLeftLatest v (state g old).now.trees) (λ clean db no. absurd no)
          (survives_to b.brings.survives ends);
    }

    module _ (r : ReadBooks) (b : BringsToLatest v (state g begun) mid (Ok r))
        (ends : Survives mid new (λ db. db ≡ mid.now.trees)) where
      become : HasCleanDisk mid → BecomesLatest v (state g old).now.trees mid.now.trees
      become clean = subst (λ (d : Database). BecomesLatest v d.trees mid.now.trees) same_now
          (b.brings.done clean).0

      -- a stop leaves what it left before, or all of it
      survives_whole : Survives (state g old) new (IsLeftLatest v (state g old).now.trees)
      survives_whole = survives_to b.brings.survives (survives_weaker mid new
          (λ db. db ≡ mid.now.trees) (IsLeftLatest v (state g old).now.trees)
          (λ clean db is. subst (IsLeftLatest v (state g old).now.trees) (sym is) (record {
            becomes = become (mid_clean ends clean);
            text = string_bytes r.text;
            left = (b.read (mid_clean ends clean)).left;
          })) ends)

      -- it is committed
      -- rule: database-migrated
      pub migrated : (HasCleanDisk new → IsTrue mid.in_transaction
          × Shows mid new mid.now mid.now false) → MigratesTables v (state g old) new (Ok r)
      migrated committed = record {
        done = λ clean.
            let was = mid_clean ends clean in
            let shows = (committed clean).1 in
            let now : mid.now ≡ new.now = sym shows.now_is in (
              shows.is_open,
              subst (λ (d : Database). BecomesLatest v (state g old).now.trees d.trees) now
                  (become was),
              subst (λ (d : Database). IsHeldBy r d.trees) now (b.read was),
            );
        given = b.given;
        first = b.first;
        kept = λ clean on. tt;
        idle = λ clean on.
            let book = (b.brings.done (mid_clean ends clean)).1 in
            let shows = (committed clean).1 in
            record {
              book = record {
                schema = ap (λ (d : Database). d.schema) shows.now_is ∙ book.schema;
                stored = subst (λ (d : Database). AreStored d.trees) (sym shows.now_is)
                    book.stored;
              };
              settled = shows.now_is ∙ sym shows.committed_is;
            };
        faults = record {
          version = λ clean. tt;
          rules = λ clean. tt;
          other = tt;
        };
        survives = survives_whole;
      }

      kept_inside : HasCleanDisk mid → KeepsCommit (state g begun) mid
      kept_inside clean =
          let shows = (b.brings.done clean).2 in
          record { was_open = λ on. shows.was_open; committed = λ on. shows.committed_is }

      -- it isn't committed
      pub not_committed : (error : Error) (f : OpenFault) → (f ≡ Store) ⊎ (f ≡ Memory)
          → (HasCleanDisk new → FailsToCommit mid new error)
          → MigratesTables v (state g old) new (Err f)
      not_committed error f store failed = record {
        done = λ clean. tt;
        given = tt;
        first = tt;
        kept = λ clean on. elim (failed clean) [
          | inl fails ↦ undone (was_clean b.brings.survives ends clean)
              (kept_inside (mid_clean ends clean)) fails.3 on
          | inr ended ↦
              let shows = (b.brings.done (mid_clean ends clean)).2 in
              absurd (let no : true ≡ false = sym shows.mode ∙ ended.1 in cc)
        ];
        idle = tt;
        faults = record {
          version = λ clean k. absurd (elim store [
            | inl is ↦ (let no : Store ≡ Version = sym is ∙ k in cc)
            | inr is ↦ (let no : Memory ≡ Version = sym is ∙ k in cc)
          ]);
          rules = λ clean k. absurd (elim store [
            | inl is ↦ (let no : Store ≡ Rules = sym is ∙ k in cc)
            | inr is ↦ (let no : Memory ≡ Rules = sym is ∙ k in cc)
          ]);
          other = (
            (λ k. elim store [
              | inl is ↦ (let no : Store ≡ Foreign = sym is ∙ k in cc)
              | inr is ↦ (let no : Memory ≡ Foreign = sym is ∙ k in cc)
            ]),
            (λ k. elim store [
              | inl is ↦ (let no : Store ≡ Older = sym is ∙ k in cc)
              | inr is ↦ (let no : Memory ≡ Older = sym is ∙ k in cc)
            ]),
          );
        };
        survives = survives_whole;
      }

-- ---- after the tables were found

-- the tables of a version, with no transaction open
pub found_at : (v : ℕ) (old mid : State) → (HasCleanDisk mid → IsFound v old mid)
    → HasIdleAt v mid
found_at v old mid found clean on =
    let it = found clean in (record { schema = it.schema; stored = it.stored }, it.settled)

-- an older version than the latest
pub below_latest : (v : ℕ) → IsVersion v → ¬ (v ≡ latest) → v < latest
below_latest v known other = go (nat_lt v 3) refl known.1
  where
    go : (t : Bool) → nat_lt v 3 ≡ t → v ≤ 3 → v < 3
    go true e high = ltb-true v 3 e
    go false e high =
        let least = ltb-false v 3 e in absurd (other (omega (arith, least, high)))

module _ (v : ℕ) (old mid new : State) (found : HasCleanDisk mid → IsFound v old mid)
    (one : Survives old mid (λ _. ⊥)) (known : IsVersion v) where
  same_at : HasCleanDisk mid → mid.now ≡ old.now
  same_at clean = (found clean).unchanged.0.now_is

  schema_was : HasCleanDisk mid → old.now.schema ≡ schema_at v
  schema_was clean =
      ap (λ (d : Database). d.schema) (sym (same_at clean)) ∙ (found clean).schema

  -- what is there since then is as it was
  still_since : HasCleanDisk mid → IsStill mid new → IsStill old new
  still_since clean s =
      let first = (found clean).unchanged.0 in
      record {
        was_open = first.was_open;
        now_is = s.now_is ∙ first.now_is;
        committed_is = s.committed_is ∙ first.committed_is;
      }

  none_from : (e : OpenFault) → (HasCleanDisk new → HasCleanDisk mid)
      → (HasCleanDisk new → e ≡ Version → IsOtherThan v mid.now.trees)
      → (HasCleanDisk new → e ≡ Rules → ¬ IsRuledVersion v mid.now.trees)
      → (¬ (e ≡ Foreign)) × (¬ (e ≡ Older))
      → (HasCleanDisk new → IsTrue new.is_open → IsStill mid new)
      → Survives old new (λ db. (n : ℕ) × IsVersion n × IsLeftLatest n old.now.trees db)
      → FindsNone old new e
  none_from e was version rules other still survives = record {
    survives = survives;
    foreign = λ clean is. absurd (other.0 is);
    version = λ clean is. (
      v,
      known,
      schema_was (was clean),
      subst (λ (d : Database). IsOtherThan v d.trees) (same_at (was clean)) (version clean is),
    );
    rules = λ clean is. (
      v,
      known,
      schema_was (was clean),
      λ ruled. rules clean is (subst (λ (d : Database). IsRuledVersion v d.trees)
          (sym (same_at (was clean))) ruled),
    );
    newer = other.1;
    still = λ clean on. still_since (was clean) (still clean on);
  }

  -- it was migrated, or not
  module _ (less : v < latest) where
    migrates_since : (r : ReadBooks) → MigratesTables v mid new (Ok r)
        → MigratesTables v old new (Ok r)
    migrates_since r m = record {
      done = λ clean.
          let it = m.done clean in
          let was : HasCleanDisk mid = omega (arith, m.survives.clean, clean) in (
            it.0,
            subst (λ (d : Database). BecomesLatest v d.trees new.now.trees) (same_at was) it.1,
            it.2,
          );
      given = m.given;
      first = m.first;
      kept = λ clean on. tt;
      idle = m.idle;
      faults = record {
        version = λ clean. tt;
        rules = λ clean. tt;
        other = tt;
      };
      survives = whole_since m.survives;
    }
      where
        whole_since : Survives mid new (IsLeftLatest v mid.now.trees)
            → Survives old new (IsLeftLatest v old.now.trees)
        whole_since two = survives_then old mid new (λ _. ⊥) (IsLeftLatest v mid.now.trees)
            (IsLeftLatest v old.now.trees) (λ clean db no. absurd no)
            (λ clean db left.
            let was : HasCleanDisk mid = omega (arith, two.clean, clean) in
            subst (λ (d : Database). IsLeftLatest v d.trees db) (same_at was) left) one two

    pub any_migrated : (r : Result ReadBooks OpenFault) → MigratesRuled v mid new r
        → FindsAny old new r
    any_migrated (Ok r) m = (
      v,
      known,
      (λ clean. schema_was (omega (arith, m.survives.clean, clean))),
      (λ is. absurd (let low : v < 3 = less in let top : v ≡ 3 = is in omega (arith, low, top))),
      (λ low. migrates_since r m.moved),
    )
    any_migrated (Err e) m =
        none_from e (λ clean. omega (arith, m.survives.clean, clean)) m.version m.rules m.other
        m.still
        (survives_then old mid new (λ _. ⊥) (IsLeftLatest v mid.now.trees)
        (λ db. (n : ℕ) × IsVersion n × IsLeftLatest n old.now.trees db)
        (λ clean db no. absurd no)
        (λ clean db left.
        let was : HasCleanDisk mid = omega (arith, m.survives.clean, clean) in
        (v, known, subst (λ (d : Database). IsLeftLatest v d.trees db) (same_at was) left))
        one m.survives)

-- one of the latest version is read
module _ (v : ℕ) (old mid new : State) (same : v ≡ latest)
    (found : HasCleanDisk mid → IsFound v old mid) (one : Survives old mid (λ _. ⊥))
    (known : IsVersion v) where
  -- its shelf isn't
  pub any_unread : (e : OpenFault) → ReadsBooks mid new (Err e) → FindsAny old new (Err e)
  any_unread e reads =
      none_from v old mid new found one known e reads.only.cleanness
      (λ clean is. subst (λ n. IsOtherThan n mid.now.trees) (sym same) (reads.faults.version clean is))
      (λ clean is ruled.
      let r = subst (λ n. IsRuledVersion n mid.now.trees) same ruled in
      let told = reads.faults.rules clean is r.row r.is in
      let own = r.of_version told.0 in
      (told.1 own.ruled).1 own.shelf)
      reads.faults.other reads.only.still
      (survives_weaker old new (λ _. ⊥)
      (λ db. (n : ℕ) × IsVersion n × IsLeftLatest n old.now.trees db) (λ clean db no. absurd no)
      (reads_survived v old mid new found one reads.only reads.survives))

  module _ (last : State) (r : ReadBooks) (reads : ReadsBooks mid new (Ok r)) where
    pub latest_found : FindsBooks old new (Ok r)
    latest_found = finds_books v old mid new found one reads.only reads.survives same (Ok r) reads

    -- its last moment is the one that is kept
    pub latest_last : HasCleanDisk new → r.last ≡ last_kept new.now.trees
    latest_last clean = (latest_found.found clean).0.last

    -- its rows are
    pub any_latest : {A : Type 0} (u : A) → Tells (AreRuled r.own latest) new last (Ok u)
        → FindsAny old last (Ok r)
    any_latest u tells = (
      v,
      known,
      (λ clean. schema_was v old mid new found one known (reads.only.cleanness
          (omega (arith, tells.survives.clean, clean)))),
      (λ is. rows_told old new last r u latest_found tells),
      (λ low. absurd (let less : v < 3 = low in let top : v ≡ 3 = same in
          omega (arith, less, top))),
    )

    -- one is out of its rules, or they aren't read
    pub any_unruled : {A : Type 0} (e : OpenFault)
        → Tells {A = A} (AreRuled r.own latest) new last (Err e) → FindsAny old last (Err e)
    any_unruled e tells = record {
      survives = survives_weaker old last (λ _. ⊥)
          (λ db. (n : ℕ) × IsVersion n × IsLeftLatest n old.now.trees db)
          (λ clean db no. absurd no)
          (survives_then old new last (λ _. ⊥) (λ _. ⊥) (λ _. ⊥) (λ clean db no. no)
          (λ clean db no. no) latest_found.survives tells.survives);
      foreign = λ clean is. absurd (tells.told.ours is);
      version = λ clean is. absurd (tells.told.version is);
      rules = λ clean is.
          let before : HasCleanDisk new = omega (arith, tells.survives.clean, clean) in
          let it = latest_found.found before in
          let now : new.now ≡ old.now = it.1.now_is in (
            v,
            known,
            schema_was v old mid new found one known (reads.only.cleanness before),
            λ ruled.
                let so = subst (λ n. IsRuledVersion n old.now.trees) same ruled in
                let at = subst (λ (d : Database). IsRuledVersion latest d.trees) (sym now) so in
                let kept : Some at.row ≡ Some it.0.kept.row = sym at.is ∙ it.0.kept.is in
                let row : at.row ≡ it.0.kept.row = same_Some at.row it.0.kept.row kept in
                let text : at.row.book ≡ string_bytes r.text =
                ap (λ (m : Meta). m.book) row ∙ it.0.kept.book in
                let version : at.row.version ≡ latest =
                ap (λ (m : Meta). m.version) row ∙ it.0.kept.version in
                tells.means clean is ((at.of_version version).rows r.own
                (subst (λ t. IsShelfOf t (tables_content new.now.trees).books r.own) (sym text)
                it.0.books)),
          );
      newer = tells.told.latest;
      still = λ clean. spared_after old new last r latest_found
          (omega (arith, tells.survives.clean, clean)) (tells.spares clean);
    }

    -- the schema that the rows are read over
    pub latest_schema : HasCleanDisk new → new.now.schema ≡ schema_at latest
    latest_schema = ruled_schema old new r latest_found

-- the error that is handed on
pub any_err : (old new : State) (r : Result ReadBooks OpenFault) (f e : OpenFault) → r ≡ Err f
    → f ≡ e → FindsAny old new (Err e) → FindsAny old new r
any_err old new r f e is same b = subst (λ x. FindsAny old new x) (sym (is ∙ ap Err same)) b

-- no tables were found
pub any_none : (old new : State) (e : OpenFault) → IsNoVersion e
    → (HasCleanDisk new → IsOpenFaultTold old.now e)
    → (HasCleanDisk new → IsTrue new.is_open → IsStill old new) → Survives old new (λ _. ⊥)
    → FindsAny old new (Err e)
any_none old new e told means still survives = record {
  survives = survives_weaker old new (λ _. ⊥)
      (λ db. (n : ℕ) × IsVersion n × IsLeftLatest n old.now.trees db) (λ clean db no. absurd no)
      survives;
  foreign = λ clean is. subst (IsOpenFaultTold old.now) is (means clean);
  version = λ clean is. absurd (told.0 is);
  rules = λ clean is.
      let it = subst (IsOpenFaultTold old.now) is (means clean) in
      (it.0, it.1, it.2, λ ruled. it.3 ruled.stored);
  newer = told.1;
  still = still;
}

-- ---- the keeper

either_version : (v : ℕ) → IsVersion v → (v ≡ latest) ⊎ (v < latest)
either_version v known = go (nat_lt v 3) refl known.1
  where
    go : (t : Bool) → nat_lt v 3 ≡ t → v ≤ 3 → (v ≡ 3) ⊎ (v < 3)
    go true e high = inr (ltb-true v 3 e)
    go false e high = let least = ltb-false v 3 e in inl (omega (arith, least, high))

pub any_idle : (old new : State) (r : ReadBooks) → FindsAny old new (Ok r) → HasIdleTables new
any_idle old new r f = elim (either_version f.0 f.1) [
  | inl is ↦ (f.3 is).idle
  | inr less ↦ (f.4 less).idle
]

pub any_open : (old new : State) (r : ReadBooks) → FindsAny old new (Ok r) → HasCleanDisk new
    → IsTrue new.is_open
any_open old new r f clean = elim (either_version f.0 f.1) [
  | inl is ↦ ((f.3 is).found clean).2
  | inr less ↦ ((f.4 less).done clean).0
]

pub any_read : (old new : State) (r : ReadBooks) → FindsAny old new (Ok r) → HasCleanDisk new
    → IsReadRuled r new.now.trees
any_read old new r f clean = elim (either_version f.0 f.1) [
  | inl is ↦
      let it = (f.3 is).found clean in ruled_read r new.now.trees it.0 it.3
  | inr less ↦
      let held = ((f.4 less).done clean).2 in
      record {
        read = record { kept = held.left.left.kept; books = held.books; last = held.moment };
        rules = λ obeys. held.left.rules r.own held.books;
        plain = held.left.plain;
      }
]

module _ {S : Type 0} (g : Ghosts S) (k : KeeperState S) (conn old : Held S) (shelf : Shelf)
    (r : ReadBooks) (connection : k.connection ≡ conn) (is : shelf ≡ r.given)
    (owned : k.shelf ≡ r.own) (told : k.text ≡ string_bytes r.text)
    (none : k.failures ≡ 0) (kept : IsKeeper g k)
    (v : ℕ) (known : IsVersion v)
    (had : HasCleanDisk (state g conn) → (state g old).now.schema ≡ schema_at v) where
  -- one of the latest version is left as it is
  keeps_latest : v ≡ latest → FindsRuled (state g old) (state g conn) (Ok r)
      → IsMigrated g old k shelf
  keeps_latest same f = record {
    begins = begins g k conn shelf r.given r.own (string_bytes r.text) (string_bytes r.text)
        connection is f.given owned told none f.read refl kept (λ clean. (f.found clean).2);
    version = v;
    known = known;
    comes = subst (λ h. HasCleanDisk (state g h) → ComesToLatest v (state g old) (state g h))
        (sym connection) (λ clean. record {
          had = had clean;
          becomes = λ low. absurd
              (let less : v < 3 = low in let top : v ≡ 3 = same in omega (arith, less, top));
          still = λ last. (f.found clean).1;
        });
    survives = subst (λ h. Survives (state g old) (state g h)
        (λ db. IsLeftLatest v (state g old).now.trees db)) (sym connection)
        (survives_weaker (state g old) (state g conn) (λ _. ⊥)
        (λ db. IsLeftLatest v (state g old).now.trees db) (λ clean db no. absurd no) f.survives);
  }

  -- an older one is brought to it
  comes_latest : v < latest → MigratesTables v (state g old) (state g conn) (Ok r)
      → IsMigrated g old k shelf
  comes_latest less m = record {
    begins = begins g k conn shelf r.given r.own (string_bytes r.text) (string_bytes r.text)
        connection is m.given owned told none m.first refl kept (λ clean. (m.done clean).0);
    version = v;
    known = known;
    comes = subst (λ h. HasCleanDisk (state g h) → ComesToLatest v (state g old) (state g h))
        (sym connection) (λ clean. record {
          had = had clean;
          becomes = λ low. (m.done clean).1;
          still = λ last. absurd
              (let low : v < 3 = less in let top : v ≡ 3 = last in omega (arith, low, top));
        });
    survives = subst (λ h. Survives (state g old) (state g h)
        (λ db. IsLeftLatest v (state g old).now.trees db)) (sym connection) m.survives;
  }

pub is_migrated : {S : Type 0} (g : Ghosts S) (k : KeeperState S) (conn old : Held S)
    (shelf : Shelf) (r : ReadBooks) → k.connection ≡ conn → shelf ≡ r.given
    → k.shelf ≡ r.own → k.text ≡ string_bytes r.text → k.failures ≡ 0
    → IsKeeper g k
    → FindsAny (state g old) (state g conn) (Ok r) → IsMigrated g old k shelf
is_migrated g k conn old shelf r connection is owned told none kept f =
    elim (either_version f.0 f.1) [
      | inl same ↦ keeps_latest g k conn old shelf r connection is owned told none kept
          f.0 f.1 f.2 same (f.3 same)
      | inr less ↦ comes_latest g k conn old shelf r connection is owned told none kept
          f.0 f.1 f.2 less (f.4 less)
    ]
