-- A keeper that is made or opened, and what was read of its database.
use Rattle.std.proofs.Common.{◌≡◌, ◌≤◌, ◌⊎◌, inr, ◌∙◌, ap, refl, sym, subst, ℕ, List, Some}
use Rattle.std.proofs.Common.{IsTrue, true, false, arith, ◌<◌, Bool, nat_lt, ltb-true}
use Rattle.std.proofs.Common.{ltb-false}
use Rattle.std.specs.Prelude.{Ok, Err, Result, IfErr, IfOk, map, Vec}
use Rattle.std.specs.Global.{Global}
use Rattle.std.specs.String.{string_bytes}
use Rattle.shelves.specs.Shelves.{Shelf}
use Rattle.sqlite_trees.specs.declared.store.Store.{Ghosts}
use Rattle.sqlite_trees.specs.Tree.{Trees}
use Rattle.sqlite.specs.Effect.{Database}
use Rattle.sqlite.specs.Held.{Held, state}
use Rattle.sqlite.specs.State.{State, HasCleanDisk, Survives}
use Rattle.sqlite.proofs.StateLemmas.{survives_then}
use Rattle.sql_tables.specs.Schema.{latest, schema_at}
use Rattle.sql_tables.specs.Stages.{AreStoredAt}
use Rattle.sql_tables.specs.Statements.{HasIdleTables, IsStill, OnlyReads, Reads}
use Rattle.sql_tables.proofs.Keeps.{only_reads_then}
use Rattle.sql_tables.proofs.Telling.{survive_then}
use Rattle.sql_tables.specs.Texts.{stage}
use Rattle.sql_rows.specs.Content.{tables_content}
use Rattle.sql_rules.specs.Tables.{AreRuled}
use Rattle.sql_rows.specs.Ruled.{AreRuledBooks, IsRefusedMeta}
use Rattle.sql_rows.specs.Lists.{AreBooks}
use Rattle.sql_rows.specs.Texts.{book_at, meta_of}
use Rattle.sql_rows.specs.declared.book_rows.BookColumns.{BookColumns}
use Rattle.sql_rows.specs.Values.{Meta}
use Rattle.sql_rows.specs.declared.meta_rows.MetaColumns.{MetaColumns}
use Rattle.sql_tables.specs.Opens.{IsFound, IsNoVersion, IsOpenFaultTold}
use Rattle.sql_tables.specs.declared.fault.OpenFault.{OpenFault}
use Rattle.sql_tables.specs.declared.fault.OpenFault.TheVariants.{Foreign, Version, Rules, Older}
use Rattle.sql_tables.specs.declared.fault.OpenFault.TheVariants.{Memory as Memory'}
use Rattle.sql_keeper.specs.Books.{IsBookOf}
use Rattle.sql_keeper.specs.Causes.{AreUnruled, HasFault, IsOtherThan, IsStores}
use Rattle.sql_keeper.specs.Content.{last_in}
use Rattle.sql_keeper.specs.Creates.{CreatesBook, IsNewBook}
use Rattle.sql_keeper.specs.Faults.{IsCreateFault}
use Rattle.sql_keeper.specs.Finds.{FindsBooks, IsMetaFound, IsReadOf, ReadsBooks}
use Rattle.sql_keeper.specs.Inside.{KeeperState, IsKeeper}
use Rattle.sql_keeper.specs.Stops.{trees_in}
use Rattle.sql_keeper.specs.Left.{IsHeld}
use Rattle.sql_keeper.specs.Opened.{Begins, IsCreated, IsFresh, IsNotCreated, IsOpened}
use Rattle.sql_keeper.specs.OlderVersions.{IsNotLatest}
use Rattle.sql_keeper.specs.Shelves.{HasShelf, IsAlone, IsNoShelf, IsShelfOf, IsShelfRead}
use Rattle.sql_keeper.specs.declared.books.ReadBooks.{ReadBooks}
use Rattle.sql_keeper.specs.declared.create_fault.CreateFault.{CreateFault}
use Rattle.sql_keeper.proofs.openings.Causes.{caused}
use Rattle.sql_keeper.proofs.shelf.Shelved.{shelf_ruled}
use Rattle.sql_keeper.proofs.reads.InTurn.{have_read, have_read_then}
use Rattle.sql_keeper.proofs.commits.Whole.{not_shut}

-- ---- the tables of a book

-- ---- a keeper before its first call

module _ {S : Type 0} (g : Ghosts S) (k : KeeperState S) (conn : Held S) (shelf given own : Shelf)
    (text bytes : List ℕ) (connection : k.connection ≡ conn) (is : shelf ≡ given)
    (same : given ≡ own) (owned : k.shelf ≡ own) (told : k.text ≡ bytes)
    (none : k.failures ≡ 0) (read : IsBookOf text own.first) (kept : bytes ≡ text) where
  own_is : own ≡ shelf
  own_is = sym (is ∙ same)

  pub fresh : IsFresh k shelf
  fresh = record {
    read = subst (λ t. IsBookOf t shelf.first) (sym (told ∙ kept))
        (subst (λ (s : Shelf). IsBookOf text s.first) own_is read);
    own = owned ∙ own_is;
    uncounted = none;
  }

  pub begins : IsKeeper g k → (HasCleanDisk (state g conn) → IsTrue (state g conn).is_open)
      → Begins g k shelf
  begins keeper on = record {
    fresh = fresh;
    clean = λ clean. record { disk = clean; open_still = inr (is_open clean) };
    held = λ clean. subst (λ (s : Shelf). IsHeld k.text s k.last (trees_in g k))
        (owned ∙ own_is) (keeper.held clean (is_open clean));
  }
    where
      is_open : HasCleanDisk (state g k.connection) → IsTrue (state g k.connection).is_open
      is_open = subst (λ h. HasCleanDisk (state g h) → IsTrue (state g h).is_open)
          (sym connection) on

  -- rule: database-made.created
  pub created : {A E : Type 0} (old : Held S) (u : A) → IsAlone text own
      → old.schema ≡ stage 0 → old.in_transaction ≡ false
      → CreatesBook {A = A} {E = E} text (state g old) (state g conn) (Ok u)
      → IsKeeper g k → IsCreated g text old k shelf
  created old u alone blank plain c keeper = record {
    begins = begins keeper (λ clean. (c.done clean).0);
    alone = ap (λ (x : Shelf). x.later) (sym own_is ∙ alone.alone);
    of_text = told ∙ kept;
    blank = blank;
    plain = plain;
    made = subst (λ h. HasCleanDisk (state g h) → IsNewBook text (state g h).now.trees)
        (sym connection) (λ clean. (c.done clean).2);
    survives = subst (λ h. Survives (state g old) (state g h) (IsNewBook text))
        (sym connection) c.survives;
  }

  -- rule: database-opened
  pub opened : (old : Held S) → (HasCleanDisk (state g conn) → IsStill (state g old) (state g conn)
      × IsTrue (state g conn).is_open × AreRuled own latest (state g conn).now.trees)
      → Survives (state g old) (state g conn) (λ _. ⊥)
      → IsKeeper g k → IsOpened g old k shelf
  opened old found survives keeper = record {
    begins = begins keeper (λ clean. (found clean).1);
    keeper = keeper;
    ruled = subst (λ h. HasCleanDisk (state g h) → AreRuled shelf latest (state g h).now.trees)
        (sym connection)
        (λ clean. subst (λ s. AreRuled s latest (state g conn).now.trees) own_is (found clean).2);
    still =
        subst (λ h. HasCleanDisk (state g h) → IsStill (state g old) (state g h)) (sym connection)
        (λ clean. (found clean).0);
    survives = subst (λ h. Survives (state g old) (state g h) (λ _. ⊥)) (sym connection) survives;
  }

-- rule: database-made.created
pub not_created : {S A E : Type 0} (g : Ghosts S) (text : List ℕ) (old new : Held S)
    (fault : CreateFault) (e : E)
    → IsCreateFault text old.schema fault → new.in_transaction ≡ old.in_transaction
    → CreatesBook {A = A} {E = E} text (state g old) (state g new) (Err e)
    → IsNotCreated g text old new fault
not_created g text old new fault e told mode c =
    record { told = told; mode = mode; still = c.kept; survives = c.survives }

-- ---- what is read before

module _ (v : ℕ) (old mid new : State) (found : HasCleanDisk mid → IsFound v old mid)
    (one : Survives old mid (λ _. ⊥))
    (only : OnlyReads mid new) (two : Survives mid new (λ _. mid.is_open ≡ false)) where
  open_between : HasCleanDisk new → IsTrue mid.is_open
  open_between clean = (found (only.cleanness clean)).unchanged.0.is_open

  pub reads_survived : Survives old new (λ _. ⊥)
  reads_survived = survives_then old mid new (λ _. ⊥) (λ _. mid.is_open ≡ false) (λ _. ⊥)
      (λ clean db no'. no')
      (λ clean db shut. not_shut mid.is_open (open_between clean) shut) one two

  still_read : HasCleanDisk new → IsTrue new.is_open → IsStill old new
  still_read clean on =
      let first = (found (only.cleanness clean)).unchanged.0 in
      let then' = only.still clean on in
      record {
        was_open = first.was_open;
        now_is = then'.now_is ∙ first.now_is;
        committed_is = then'.committed_is ∙ first.committed_is;
      }

  -- what the keeper goes by
  -- rule: database-opened
  pub finds_books : v ≡ latest → (r : Result ReadBooks OpenFault) → ReadsBooks mid new r
      → FindsBooks old new r
  finds_books same (Ok b) reads = record {
    found = λ clean.
        let it = reads.found clean in
        let now = sym (only.still clean it.1).now_is in (
          subst (λ (d : Database). IsReadOf b d.trees) now it.0,
          still_read clean it.1,
          it.1,
        );
    given = reads.given;
    read = reads.read;
    idle = only.idle;
    cause = λ clean. tt;
    still = still_read;
    survives = reads_survived;
  }
  finds_books same (Err e) reads = record {
    found = λ clean. tt;
    given = tt;
    read = tt;
    idle = tt;
    cause = λ clean.
        let was = found (only.cleanness clean) in
        subst (λ db. IsStores e ⊎ HasFault e db) was.unchanged.0.now_is
        (caused e mid.now (λ is. absurd (reads.faults.other.0 is)) (λ is. record {
          version = v;
          known = was.version;
          schema = was.schema;
          stored = was.stored;
          other = subst (λ n. IsOtherThan n mid.now.trees) (sym same) (reads.faults.version clean is);
        }) (λ is. record {
          version = v;
          known = was.version;
          schema = was.schema;
          unruled = λ stored. subst (λ n. AreUnruled n mid.now.trees) (sym same)
              (reads.faults.rules clean is);
        }) (λ is. absurd (reads.faults.other.1 is)));
    still = still_read;
    survives = reads_survived;
  }

-- the tables that an opening asks for
pub idle_book : (v : ℕ) (old mid : State) → v ≡ latest → (HasCleanDisk mid → IsFound v old mid)
    → HasIdleTables mid
idle_book v old mid same found clean on =
    let it = found clean in
    record {
      book = record {
        schema = it.schema ∙ ap schema_at same;
        stored = subst (λ n. AreStoredAt n mid.now.trees) same it.stored;
      };
      settled = it.settled;
    }

-- no table was found
pub finds_none : (old new : State) (e : OpenFault) → IsNoVersion e
    → (HasCleanDisk new → IsOpenFaultTold old.now e)
    → (HasCleanDisk new → IsTrue new.is_open → IsStill old new) → Survives old new (λ _. ⊥)
    → FindsBooks old new (Err e)
finds_none old new e told means still survives = record {
  found = λ clean. tt;
  given = tt;
  read = tt;
  idle = tt;
  cause = λ clean. caused e old.now (λ is. subst (IsOpenFaultTold old.now) is (means clean))
      (λ is. absurd (told.0 is)) (λ is.
      let it = subst (IsOpenFaultTold old.now) is (means clean) in
      record {
        version = it.0;
        known = it.1;
        schema = it.2;
        unruled = λ stored. absurd (it.3 stored);
      }) (λ is. absurd (told.1 is));
  still = still;
  survives = survives;
}

-- an older version was found
-- rule: database-opened
pub finds_older : (v : ℕ) (old mid new : State) (e : OpenFault) → ¬ (v ≡ latest)
    → (HasCleanDisk mid → IsFound v old mid) → Survives old mid (λ _. ⊥)
    → IsNotLatest v mid new e → FindsBooks old new (Err e)
finds_older v old mid new e other found one asked = record {
  found = λ clean. tt;
  given = tt;
  read = tt;
  idle = tt;
  cause = λ clean.
      let was = found (before clean) in
      subst (λ db. IsStores e ⊎ HasFault e db) was.unchanged.0.now_is
      (caused e mid.now (λ is. absurd (asked.ours is)) (λ is. record {
        version = v;
        known = was.version;
        schema = was.schema;
        stored = was.stored;
        other = asked.version clean is;
      }) (λ is. record {
        version = v;
        known = was.version;
        schema = was.schema;
        unruled = λ stored row at.
            let it = subst (IsRefusedMeta v) at (asked.rules clean is) in
            (it.0, λ ruled. absurd (it.1 ruled));
      }) (λ is. record {
        version = v;
        known = was.version;
        older = below (nat_lt v 3) refl was.version.1;
        schema = was.schema;
        stored = was.stored;
        kept = asked.older clean is;
      }));
  still = λ clean on.
      let first = (found (before clean)).unchanged.0 in
      let then' = asked.still clean on in
      record {
        was_open = first.was_open;
        now_is = then'.now_is ∙ first.now_is;
        committed_is = then'.committed_is ∙ first.committed_is;
      };
  survives = survives_then old mid new (λ _. ⊥) (λ _. ⊥) (λ _. ⊥) (λ clean db no. no)
      (λ clean db no. no) one asked.survives;
}
  where
    before : HasCleanDisk new → HasCleanDisk mid
    before clean = omega (arith, asked.survives.clean, clean)

    below : (t : Bool) → nat_lt v 3 ≡ t → v ≤ 3 → v < 3
    below true e high = ltb-true v 3 e
    below false e high =
        let least = ltb-false v 3 e in absurd (other (omega (arith, least, high)))

-- ---- several reads

-- what is kept once wasn't read
pub reads_no_meta : {A : Type 0} (told : Trees → A → Type 0) (old new : State) (e : OpenFault)
    → Reads {A = A} {E = OpenFault} told old new (Err e) → IsMetaFound latest old new (Err e)
    → ReadsBooks old new (Err e)
reads_no_meta told old new e reads finds = record {
  found = λ clean. tt;
  given = tt;
  read = tt;
  only = reads.only;
  faults = record {
    version = finds.version;
    rules = λ clean is row at.
        let it = subst (IsRefusedMeta latest) at (finds.rules clean is) in
        (it.0, λ ruled. absurd (it.1 ruled));
    other = finds.other;
  };
  survives = reads.survives;
}

module _ {E : Type 0} (old mid : State) (m : MetaColumns)
    (meta : Reads {A = MetaColumns} {E = E}
    (λ trees m. (tables_content trees).meta ≡ Some (meta_of m)) old mid (Ok m)) where
  -- what was read first is said of the state before
  told_first : (P : Trees → Type 0) → HasCleanDisk mid → P mid.now.trees → P old.now.trees
  told_first P clean = subst (λ (d : Database). P d.trees)
      (meta.only.still clean (meta.stays clean)).now_is

  told_last : (P : Trees → Type 0) → HasCleanDisk mid → P old.now.trees → P mid.now.trees
  told_last P clean = subst (λ (d : Database). P d.trees)
      (sym (meta.only.still clean (meta.stays clean)).now_is)

  -- the later books weren't read
  pub reads_no_books : {A : Type 0} (told : Trees → A → Type 0) (new : State) (e : OpenFault)
      → Reads {A = A} {E = OpenFault} told mid new (Err e) → IsNoVersion e
      → ¬ (e ≡ Foreign) → m.version ≡ latest
      → (HasCleanDisk new → e ≡ Rules → ¬ AreRuledBooks (tables_content mid.now.trees).books)
      → ReadsBooks old new (Err e)
  reads_no_books told new e reads no_version ours version rules =
      let read = have_read (λ trees m. (tables_content trees).meta ≡ Some (meta_of m)) old mid m
      meta in
      record {
        found = λ clean. tt;
        given = tt;
        read = tt;
        only = only_reads_then old mid new read.only reads.only;
        faults = record {
          version = λ clean is. absurd (no_version.0 is);
          rules = λ clean is row at.
              let before = reads.only.cleanness clean in
              let same : row ≡ meta_of m = cc (sym at ∙ meta.found before) in (
                ap (λ (x : Meta). x.version) same ∙ version,
                λ ruled. (
                  refl,
                  λ has. rules clean is
                      (told_last (λ trees. AreRuledBooks (tables_content trees).books) before
                      (shelf_ruled row.book (tables_content old.now.trees).books has.0 has.1)),
                ),
              );
          other = (ours, no_version.1);
        };
        survives = survive_then old mid new read.stays read.survives reads.survives;
      }

  -- both were
  pub reads_books : (new : State) (rows : Vec BookColumns Global) (items : List BookColumns)
      → items ≡ rows.items → (text : List ℕ) → text ≡ string_bytes m.book
      → m.version ≡ latest → m.last ≤ 4_102_488_000
      → Reads {A = Vec BookColumns Global} {E = OpenFault}
      (λ trees xs. AreBooks (tables_content trees) (map book_at xs.items)) mid new (Ok rows)
      → (r : Result ReadBooks OpenFault)
      → IfOk r (λ b. IsShelfRead text (map book_at items) b.own)
      → IfOk r (λ b. b.given ≡ b.own) → IfOk r (λ b. string_bytes b.text ≡ text)
      → IfOk r (λ b. b.last ≡ m.last)
      → IfErr r (λ fault. fault ≡ Rules → IsNoShelf text (map book_at items))
      → IfErr r (λ fault. ¬ (fault ≡ Rules) → fault ≡ Memory') → ReadsBooks old new r
  reads_books new rows items same text is version last reads (Ok b) shelf given told at rules
      either =
      let read = have_read (λ trees m. (tables_content trees).meta ≡ Some (meta_of m)) old mid m
      meta in
      let both = have_read_then old mid new read
      (have_read {E = OpenFault} _ mid new rows reads) in
      record {
        found = λ clean.
            let before = reads.only.cleanness clean in (
              record {
                kept = record {
                  row = meta_of m;
                  is = meta.found before;
                  version = version;
                  book = sym is ∙ sym told;
                  last = last;
                };
                books = subst (λ t. IsShelfOf t (tables_content old.now.trees).books b.own)
                    (sym told)
                    (told_first (λ trees. IsShelfOf text (tables_content trees).books b.own) before
                    (subst (λ f. IsShelfOf text f b.own)
                    (λ i n. reads.found clean n i)
                    (subst (λ l. IsShelfRead text (map book_at l) b.own) same shelf)));
                last = at ∙ sym (ap last_in (meta.found before));
              },
              reads.stays clean,
            );
        given = given;
        read = subst (λ t. IsBookOf t b.own.first) (sym told) shelf.first;
        only = both.only;
        faults = record {
          version = λ clean. tt;
          rules = λ clean. tt;
          other = tt;
        };
        survives = both.survives;
      }
  reads_books new rows items same text is version last reads (Err e) shelf given told at rules
      either =
      let read = have_read (λ trees m. (tables_content trees).meta ≡ Some (meta_of m)) old mid m
      meta in
      let both = have_read_then old mid new read
      (have_read {E = OpenFault} _ mid new rows reads) in
      record {
        found = λ clean. tt;
        given = tt;
        read = tt;
        only = both.only;
        faults = record {
          version = λ clean is. absurd (let no : Version ≡ Memory' =
              sym is ∙ either (λ rule. let no : Version ≡ Rules = sym is ∙ rule in cc) in cc);
          rules = λ clean rule row at.
              let before = reads.only.cleanness clean in
              let kept : row ≡ meta_of m = cc (sym at ∙ meta.found before) in (
                ap (λ (x : Meta). x.version) kept ∙ version,
                λ ruled. (
                  refl,
                  λ has.
                      let of_text : HasShelf text (tables_content old.now.trees).books =
                      subst (λ t. HasShelf t (tables_content old.now.trees).books)
                      (ap (λ (x : Meta). x.book) kept ∙ sym is) has in
                      let at_mid =
                      told_last (λ trees. HasShelf text (tables_content trees).books) before of_text in
                      subst (λ l. IsNoShelf text (map book_at l)) same (rules rule)
                      (subst (λ f. HasShelf text f) (λ i n. sym (reads.found clean n) i) at_mid),
                ),
              );
          other = (
            (λ is. absurd (let no : Foreign ≡ Memory' =
                sym is ∙ either (λ rule. let no : Foreign ≡ Rules = sym is ∙ rule in cc) in cc)),
            (λ is. absurd (let no : Older ≡ Memory' =
                sym is ∙ either (λ rule. let no : Older ≡ Rules = sym is ∙ rule in cc) in cc)),
          );
        };
        survives = both.survives;
      }
