-- A database whose rows were read when it was opened, each once.
use Rattle.std.proofs.Common.{◌≡◌, ◌<◌, inl, inr, ◌∙◌, ap, refl, sym, subst, ℕ, arith, List}
use Rattle.std.proofs.Common.{IsTrue}
use Rattle.std.proofs.lemmas.Str.{IsUtf8-string_bytes}
use Rattle.std.specs.Prelude.{Ok, Err}
use Rattle.std.specs.Str.{IsUtf8}
use Rattle.std.specs.String.{string_bytes}
use Rattle.sqlite_trees.specs.Tree.{Trees}
use Rattle.sqlite.specs.Effect.{Database}
use Rattle.sqlite.specs.State.{State, HasCleanDisk, IsUnchanged, Survives}
use Rattle.sqlite.proofs.StateLemmas.{survives_then}
use Rattle.sql_tables.specs.Schema.{latest, schema_at}
use Rattle.sql_tables.specs.Stages.{AreStoredAt}
use Rattle.sql_tables.specs.Statements.{AreStored, IsStill, Spares}
use Rattle.sql_tables.proofs.Keeps.{spares_still}
use Rattle.sql_rows.specs.Content.{tables_content}
use Rattle.sql_rows.specs.Ruled.{IsMetaOther}
use Rattle.sql_tables.specs.declared.fault.OpenFault.{OpenFault}
use Rattle.sql_tables.specs.declared.fault.OpenFault.TheVariants.{Foreign, Version, Rules, Store}
use Rattle.sql_tables.specs.declared.fault.OpenFault.TheVariants.{Memory, Older}
use Rattle.sql_rules.specs.Tables.{AreRuled, IsOfRows, Tells}
use Rattle.sql_keeper.specs.Causes.{KeepsVersion}
use Rattle.sql_keeper.specs.Finds.{FindsBooks, IsReadOf}
use Rattle.sql_keeper.specs.Left.{IsKept}
use Rattle.sql_keeper.specs.RuledOpening.{AreRowsApart, FindsRuled, HasUnruledRow, IsRowFault}
use Rattle.sql_keeper.specs.Shelves.{IsShelfOf}
use Rattle.sql_keeper.specs.declared.books.ReadBooks.{ReadBooks}
use Rattle.sql_keeper.proofs.openings.Causes.{latest_known, same_version}

-- ---- a fault and its cause

row_caused : (e : OpenFault) (db : Database) → IsOfRows e → (e ≡ Rules → HasUnruledRow db)
    → IsRowFault e db
row_caused Foreign db told rules = absurd (told.ours refl)
row_caused Version db told rules = absurd (told.version refl)
row_caused Rules db told rules = inr (inr (refl, rules refl))
row_caused Store db told rules = inl (inl refl)
row_caused Memory db told rules = inl (inr refl)
row_caused Older db told rules = absurd (told.latest refl)

-- what is kept is in its rules, and keeps the latest version
kept_latest : (trees : Trees) (text : List ℕ) → IsUtf8 text → IsKept trees text →
    KeepsVersion latest trees
kept_latest trees text utf8 kept = record {
  row = kept.row;
  is = kept.is;
  ruled = record {
    version = let is : kept.row.version ≡ 3 = kept.version in omega (arith, is);
    book = subst IsUtf8 (sym kept.book) utf8;
    last = kept.last;
  };
  version = kept.version;
}

-- ---- what is found

unchanged_still : {old new : State} → IsUnchanged old new → IsStill old new
unchanged_still same = record {
  was_open = same.0.was_open;
  now_is = same.0.now_is;
  committed_is = same.0.committed_is;
}

module _ (old mid new : State) (r : ReadBooks) (finds : FindsBooks old mid (Ok r)) where
  -- a row is out of its rules
  unruled : HasCleanDisk mid → ¬ AreRuled r.own latest mid.now.trees → HasUnruledRow old.now
  unfolding kept_latest
  unruled clean not_ruled =
      let it = finds.found clean in
      let book = (finds.idle clean it.2).book in
      subst HasUnruledRow it.1.now_is (record {
        schema = book.schema;
        stored = book.stored;
        kept = kept_latest mid.now.trees (string_bytes r.text) (IsUtf8-string_bytes r.text)
            it.0.kept;
        shelf = r.own;
        books = subst (λ t. IsShelfOf t (tables_content mid.now.trees).books r.own)
            (sym it.0.kept.book) it.0.books;
        unruled = not_ruled;
      })

  -- what the rows' test leaves as it was is as it was before
  still_after : HasCleanDisk mid → IsStill mid new → IsStill old new
  still_after clean last =
      let first = (finds.found clean).1 in
      record {
        was_open = first.was_open;
        now_is = last.now_is ∙ first.now_is;
        committed_is = last.committed_is ∙ first.committed_is;
      }

  pub spared_after : HasCleanDisk mid → Spares mid new → IsTrue new.is_open → IsStill old new
  spared_after clean spares on =
      let open' = (finds.found clean).2 in
      still_after clean
      (spares_still mid new (λ was. (finds.idle clean open').settled) spares on)

  module _ (before : HasCleanDisk new → HasCleanDisk mid) (two : Survives mid new (λ _. ⊥)) where
    both_survive : Survives old new (λ _. ⊥)
    both_survive = survives_then old mid new (λ _. ⊥) (λ _. ⊥) (λ _. ⊥) (λ clean db no'. no')
        (λ clean db no'. no') finds.survives two

    -- why it isn't said whether each row is in its rules
    -- rule: database-opened
    pub rows_refused : (e : OpenFault) → (HasCleanDisk new → IsRowFault e old.now)
        → (HasCleanDisk new → Spares mid new) → FindsRuled old new (Err e)
    rows_refused e cause spares = record {
      found = λ clean. tt;
      given = tt;
      read = tt;
      idle = tt;
      cause = cause;
      still = λ clean. spared_after (before clean) (spares clean);
      survives = both_survive;
    }

    -- each row is in its rules
    pub rows_found : (HasCleanDisk new → IsUnchanged mid new × AreRuled r.own latest new.now.trees)
        → FindsRuled old new (Ok r)
    rows_found found = record {
      found = λ clean.
          let it = finds.found (before clean) in
          let then' = found clean in (
            subst (λ (d : Database). IsReadOf r d.trees) (sym then'.0.0.now_is) it.0,
            still_after (before clean) (unchanged_still then'.0),
            then'.0.0.is_open,
            then'.1,
          );
      given = finds.given;
      read = finds.read;
      idle = λ clean on.
          let it = finds.found (before clean) in
          let then' = (found clean).0.0 in
          let idle = finds.idle (before clean) it.2 in
          record {
            book = record {
              schema = ap (λ (d : Database). d.schema) then'.now_is ∙ idle.book.schema;
              stored = subst (λ (d : Database). AreStored d.trees) (sym then'.now_is)
                  idle.book.stored;
            };
            settled = then'.now_is ∙ idle.settled ∙ sym then'.committed_is;
          };
      cause = λ clean. tt;
      still = λ clean on. still_after (before clean) (unchanged_still (found clean).0);
      survives = both_survive;
    }

-- the tables weren't found, or aren't those of the latest version
pub rows_unasked : (old mid : State) (e : OpenFault) → FindsBooks old mid (Err e)
    → FindsRuled old mid (Err e)
rows_unasked old mid e finds = record {
  found = λ clean. tt;
  given = tt;
  read = tt;
  idle = tt;
  cause = λ clean. elim (finds.cause clean) [
    | inl stores ↦ inl stores
    | inr has ↦ inr (inl has)
  ];
  still = finds.still;
  survives = finds.survives;
}

-- each row was read
-- rule: rows-ruled.opened
pub rows_told : {A : Type 0} (old mid new : State) (r : ReadBooks) (u : A)
    → FindsBooks old mid (Ok r) → Tells (AreRuled r.own latest) mid new (Ok u)
    → FindsRuled old new (Ok r)
rows_told old mid new r u finds tells =
    rows_found old mid new r finds (λ clean. omega (arith, tells.survives.clean, clean))
    tells.survives tells.found

-- they weren't, or one is out of its rules
-- rule: rows-ruled.opened
pub rows_untold : {A : Type 0} (old mid new : State) (r : ReadBooks) (e : OpenFault)
    → FindsBooks old mid (Ok r) → Tells {A = A} (AreRuled r.own latest) mid new (Err e)
    → FindsRuled old new (Err e)
rows_untold old mid new r e finds tells =
    let before : HasCleanDisk new → HasCleanDisk mid =
    λ clean. omega (arith, tells.survives.clean, clean) in
    rows_refused old mid new r finds before tells.survives e (λ clean.
    row_caused e old.now tells.told
    (λ is. unruled old mid new r finds (before clean) (tells.means clean is))) tells.spares

-- the schema that the rows are read over
pub ruled_schema : (old mid : State) (r : ReadBooks) → FindsBooks old mid (Ok r)
    → HasCleanDisk mid → mid.now.schema ≡ schema_at latest
ruled_schema old mid r finds clean = (finds.idle clean (finds.found clean).2).book.schema

-- ---- of a database that has a fault no row is reported

-- rule: rows-ruled.opened
pub rows_apart : AreRowsApart
rows_apart db Foreign h k = h latest latest_known k.schema
rows_apart db Version h k =
    let same = same_version h.version latest h.known latest_known (sym h.schema ∙ k.schema) in
    let other : ¬ (k.kept.row.version ≡ h.version) =
    subst (IsMetaOther h.version) k.kept.is h.other in
    other (k.kept.version ∙ sym same)
rows_apart db Rules h k =
    let same = same_version h.version latest h.known latest_known (sym h.schema ∙ k.schema) in
    let stored = subst (λ v. AreStoredAt v db.trees) (sym same) k.stored in
    ((h.unruled stored k.kept.row k.kept.is).1 k.kept.ruled).1 (k.shelf, k.books)
rows_apart db Store h k = h
rows_apart db Memory h k = h
rows_apart db Older h k =
    let same = same_version h.version latest h.known latest_known (sym h.schema ∙ k.schema) in
    let low : h.version < 3 = h.older in
    let is : h.version ≡ 3 = same in
    omega (arith, low, is)

-- ---- a test that leaves no transaction

pub untested : {A B : Type 0} (are : Trees → Type 0) (old new : State) (u : A)
    → Tells are old new (Ok u) → Tells {A = B} are old new (Err Store)
untested are old new u tells = record {
  found = λ clean. tt;
  means = λ clean is. absurd (let no : Store ≡ Rules = is in cc);
  told = record {
    ours = λ is. let no : Store ≡ Foreign = is in cc;
    version = λ is. let no : Store ≡ Version = is in cc;
    latest = λ is. let no : Store ≡ Older = is in cc;
  };
  spares = tells.spares;
  survives = tells.survives;
}

pub retold : {A B : Type 0} (are : Trees → Type 0) (old new : State) (u : A) (w : B)
    → Tells are old new (Ok u) → Tells are old new (Ok w)
retold are old new u w tells = record {
  found = tells.found;
  means = λ clean. tt;
  told = tt;
  spares = tells.spares;
  survives = tells.survives;
}

pub retold_err : {A B : Type 0} (are : Trees → Type 0) (old new : State) (e : OpenFault)
    → Tells {A = A} are old new (Err e) → Tells {A = B} are old new (Err e)
retold_err are old new e tells = record {
  found = λ clean. tt;
  means = tells.means;
  told = tells.told;
  spares = tells.spares;
  survives = tells.survives;
}
