-- Within the transaction that brings a database of an older version to the latest.
use Rattle.std.proofs.Common.{◌≡◌, ◌<◌, ◌≤◌, ◌⊎◌, inl, inr, ◌∙◌, ap, refl, sym, subst, ℕ, List}
use Rattle.std.proofs.Common.{Option, Some}
use Rattle.std.proofs.Common.{arith, length}
use Rattle.std.proofs.lemmas.Option.{same_Some}
use Rattle.std.specs.Prelude.{◌^◌, Ok, Err, Result, IfErr, IfOk, Vec, map}
use Rattle.std.specs.Global.{Global}
use Rattle.std.specs.Str.{IsUtf8}
use Rattle.std.specs.String.{string_bytes}
use Rattle.shelves.specs.Shelves.{Shelf}
use Rattle.sqlite_catalog.specs.Change.{KeepsRows}
use Rattle.sqlite_catalog.specs.Listing.{IsSound}
use Rattle.sqlite_trees.specs.Tree.{Trees}
use Rattle.sqlite.specs.Effect.{Database}
use Rattle.sqlite.specs.State.{State, HasCleanDisk, IsUnchanged, KeepsCommit, Survives}
use Rattle.sqlite.proofs.StateLemmas.{survives_then}
use Rattle.sql_tables.specs.Schema.{our_schema, latest, pieces_to, schema_at}
use Rattle.sql_tables.specs.Stages.{AreEmpty, AreStoredAt, Migrates, tables_between}
use Rattle.sql_tables.specs.Statements.{AreStored, Attempts, HasTables, HasRules, IsInside}
use Rattle.sql_tables.specs.Statements.{IsTabled}
use Rattle.sql_tables.specs.Statements.{ReadsWithin}
use Rattle.sql_tables.specs.declared.reading.ReadFault.{ReadFault}
use Rattle.sql_tables.specs.declared.reading.ReadFault.TheVariants as reading
use Rattle.sql_tables.proofs.Keeps.{sound_fits}
use Rattle.sql_rows.specs.Content.{TablesContent, tables_content}
use Rattle.sql_rows.specs.Lists.{AreBooks}
use Rattle.sql_rows.specs.Makes.{Makes}
use Rattle.sql_rows.specs.Ruled.{AreRuledBooks, AreRuledReserved, IsMetaOther, IsRefusedMeta}
use Rattle.sql_rows.specs.Texts.{book_at, meta_of}
use Rattle.sql_rows.specs.Values.{Meta}
use Rattle.sql_rules.specs.Ruled.{IsInRules}
use Rattle.sql_rules.specs.GrantRows.{HaveBooks}
use Rattle.sql_rules.specs.Tables.{AreRightBy, AreRuled, last_kept}
use Rattle.sql_rows.specs.declared.book_rows.BookColumns.{BookColumns}
use Rattle.sql_rows.specs.declared.meta_rows.MetaColumns.{MetaColumns}
use Rattle.sql_tables.specs.Opens.{IsNoVersion, IsVersion}
use Rattle.sql_tables.specs.declared.fault.OpenFault.{OpenFault}
use Rattle.sql_tables.specs.declared.fault.OpenFault.TheVariants.{Foreign, Version, Rules, Older}
use Rattle.sql_tables.specs.declared.fault.OpenFault.TheVariants.{Store, Memory}
use Rattle.sql_keeper.specs.Books.{IsBookOf}
use Rattle.sql_keeper.specs.Migrates.{AreUnruledReserved, BringsToLatest, HasAt, IsRuledVersion}
use Rattle.sql_keeper.specs.Migrates.{HasRuledRows, ReadsShelf, content_at}
use Rattle.sql_keeper.specs.OlderVersions.{AsksVersion}
use Rattle.sql_keeper.specs.Causes.{IsOtherThan, IsUnruledMeta}
use Rattle.sql_keeper.specs.Finds.{IsMetaFound}
use Rattle.sql_keeper.specs.Left.{IsLeftRuled}
use Rattle.sql_keeper.proofs.openings.Causes.{ruled_row}
use Rattle.sql_keeper.specs.Shelves.{HasShelf, IsNoShelf, IsShelfOf, IsShelfRead, row_numbered}
use Rattle.sql_keeper.specs.declared.books.ReadBooks.{ReadBooks}
use Rattle.sql_keeper.proofs.migrations.Migrated.{becomes_latest, kept_content, left_latest}
use Rattle.sql_keeper.proofs.migrations.Migrated.{meta_at, moment_latest, shelf_latest, with_latest}
use Rattle.sql_keeper.proofs.migrations.MigratedRules.{alone_before, books_since, latest_plain}
use Rattle.sql_keeper.proofs.migrations.MigratedRules.{latest_ruled, ruled_since}
use Rattle.sql_keeper.proofs.shelf.OneShelf.{same_shelf}
use Rattle.sql_keeper.proofs.shelf.Shelved.{shelf_ruled}

-- ---- the tables are made, and nothing else is written

pub record HasMade (v : ℕ) (old mid : State) : Type 0 where
  pub survives : Survives old mid (λ _. ⊥)
  pub made : HasCleanDisk mid → Migrates v old mid
  pub book : HasCleanDisk mid → IsTabled mid
  pub at : HasCleanDisk mid → AreStoredAt v old.now.trees

pub made_first : {A E : Type 0} (v : ℕ) (old mid : State) (u : A) → HasAt v old
    → Attempts {A = A} {E = E} (Migrates v) old mid (Ok u) → HasMade v old mid
made_first v old mid u at m = record {
  survives = m.survives;
  made = m.done;
  book = λ clean.
      let it = m.done clean in
      record {
        schema = it.schema;
        stored = it.book (at (omega (arith, m.survives.clean, clean)) it.shows.was_open).stored;
      };
  at = λ clean. (at (omega (arith, m.survives.clean, clean)) (m.done clean).shows.was_open).stored;
}

migrates_still : (v : ℕ) (old mid new : State) → Migrates v old mid → IsUnchanged mid new →
    Migrates v old new
migrates_still v old mid new m same =
    let now : new.now ≡ mid.now = same.0.now_is in
    record {
      schema = ap (λ (d : Database). d.schema) now ∙ m.schema;
      sound = subst (λ (d : Database). IsSound our_schema d.trees) (sym now) m.sound;
      rows = subst (λ (d : Database). KeepsRows (schema_at v).tables old.now.trees d.trees)
          (sym now) m.rows;
      empty = subst (λ (d : Database). AreEmpty (tables_between (length (pieces_to v))
          (length (pieces_to latest))) d.trees) (sym now) m.empty;
      book = λ at. subst (λ (d : Database). AreStored d.trees) (sym now) (m.book at);
      shows = record {
        was_open = m.shows.was_open;
        is_open = same.0.is_open;
        now_is = refl;
        committed_is = same.0.committed_is ∙ m.shows.committed_is;
        mode = same.0.mode ∙ m.shows.mode;
      };
    }

-- what is read leaves that
pub made_still : {A E : Type 0} (v : ℕ) (old mid new : State) (u : A) → HasMade v old mid
    → Attempts {A = A} {E = E} IsUnchanged mid new (Ok u) → HasMade v old new
made_still v old mid new u has still = record {
  survives = survives_then old mid new (λ _. ⊥) (λ _. ⊥) (λ _. ⊥) (λ clean db no. no)
      (λ clean db no. no) has.survives still.survives;
  made = λ clean. migrates_still v old mid new
      (has.made (omega (arith, still.survives.clean, clean))) (still.done clean);
  book = λ clean.
      let before = has.book (omega (arith, still.survives.clean, clean)) in
      let now : new.now ≡ mid.now = (still.done clean).0.now_is in
      record {
        schema = ap (λ (d : Database). d.schema) now ∙ before.schema;
        stored = subst (λ (d : Database). AreStored d.trees) (sym now) before.stored;
      };
  at = λ clean. has.at (omega (arith, still.survives.clean, clean));
}

module _ (v : ℕ) (old mid : State) (has : HasMade v old mid) where
  pub made_book : HasTables mid
  made_book clean on = has.book clean

  pub made_rules : HasRules mid
  made_rules clean on = sound_fits mid.now.trees (has.made clean).sound

  pub made_inside : IsInside mid
  made_inside clean on = (has.made clean).shows.mode

  -- what the tables hold
  pub made_content : IsVersion v → v < latest → HasCleanDisk mid →
      tables_content mid.now.trees ≡ content_at v old.now.trees
  made_content known less clean =
      let m = has.made clean in
      kept_content v old.now.trees mid.now.trees known less (m.rows, m.empty)

-- ---- a fault ends it

-- the error that is handed on
pub brought_err : (v : ℕ) (old new : State) (r : Result ReadBooks OpenFault) (f e : OpenFault)
    → r ≡ Err f → f ≡ e → BringsToLatest v old new (Err e) → BringsToLatest v old new r
brought_err v old new r f e is same b =
    subst (λ x. BringsToLatest v old new x) (sym (is ∙ ap Err same)) b

-- no fault of the tables or of a version
abbrev IsNeither : OpenFault → Type 0
IsNeither e = (¬ (e ≡ Foreign)) × (¬ (e ≡ Older))

ends_brought : (v : ℕ) (old new : State) (e : OpenFault) → (HasCleanDisk new → KeepsCommit old new)
    → Survives old new (λ _. ⊥)
    → (HasCleanDisk new → e ≡ Version → IsOtherThan v old.now.trees)
    → (HasCleanDisk new → e ≡ Rules → ¬ IsRuledVersion v old.now.trees) → IsNeither e
    → BringsToLatest v old new (Err e)
ends_brought v old new e kept survives version rules other = record {
  brings = record { done = λ clean. tt; kept = kept; survives = survives };
  read = λ clean. tt;
  given = tt;
  first = tt;
  version = version;
  rules = rules;
  other = other;
}

module _ (v : ℕ) (old mid new : State) (e : OpenFault) (has : HasMade v old mid)
    (version : HasCleanDisk new → e ≡ Version → IsOtherThan v old.now.trees)
    (rules : HasCleanDisk new → e ≡ Rules → ¬ IsRuledVersion v old.now.trees)
    (other : IsNeither e) where
  -- what was made before keeps what was committed
  kept_since : HasCleanDisk mid → KeepsCommit mid new → KeepsCommit old new
  kept_since clean kept =
      let m = has.made clean in
      record {
        was_open = λ on. m.shows.was_open;
        committed = λ on. kept.committed on ∙ m.shows.committed_is;
      }

  ends_after : {A F : Type 0} (does : State → State → Type 0) (f : F)
      → Attempts {A = A} {E = F} does mid new (Err f) → BringsToLatest v old new (Err e)
  ends_after does f failed =
      ends_brought v old new e
      (λ clean. kept_since (omega (arith, failed.survives.clean, clean)) (failed.kept clean))
      (survives_then old mid new (λ _. ⊥) (λ _. ⊥) (λ _. ⊥) (λ clean db no. no)
      (λ clean db no. no) has.survives failed.survives) version rules other

-- a fault without a call
ends_here : (v : ℕ) (old mid : State) (e : OpenFault) → HasMade v old mid
    → (HasCleanDisk mid → e ≡ Version → IsOtherThan v old.now.trees)
    → (HasCleanDisk mid → e ≡ Rules → ¬ IsRuledVersion v old.now.trees) → IsNeither e
    → BringsToLatest v old mid (Err e)
ends_here v old mid e has version rules other =
    ends_brought v old mid e
    (λ clean.
    let m = has.made clean in
    record { was_open = λ on. m.shows.was_open; committed = λ on. m.shows.committed_is })
    has.survives version rules other

-- the store failed as the tables were made
pub not_made : {A F : Type 0} (v : ℕ) (old new : State) (e : OpenFault) (f : F)
    → (e ≡ Store) ⊎ (e ≡ Memory) → Attempts {A = A} {E = F} (Migrates v) old new (Err f)
    → BringsToLatest v old new (Err e)
not_made v old new e f (inl is) failed =
    ends_brought v old new e failed.kept failed.survives
    (λ clean k. absurd (let no : Store ≡ Version = sym is ∙ k in cc))
    (λ clean k. absurd (let no : Store ≡ Rules = sym is ∙ k in cc)) (
      (λ k. let no : Store ≡ Foreign = sym is ∙ k in cc),
      (λ k. let no : Store ≡ Older = sym is ∙ k in cc),
    )
not_made v old new e f (inr is) failed =
    ends_brought v old new e failed.kept failed.survives
    (λ clean k. absurd (let no : Memory ≡ Version = sym is ∙ k in cc))
    (λ clean k. absurd (let no : Memory ≡ Rules = sym is ∙ k in cc)) (
      (λ k. let no : Memory ≡ Foreign = sym is ∙ k in cc),
      (λ k. let no : Memory ≡ Older = sym is ∙ k in cc),
    )

module _ (v : ℕ) (known : IsVersion v) (less : v < latest) (old mid : State)
    (has : HasMade v old mid) where
  -- what is kept once, as it was before
  meta_before : HasCleanDisk mid → (row : Meta) → (tables_content old.now.trees).meta ≡ Some row
      → (tables_content mid.now.trees).meta ≡ Some row
  meta_before clean row is =
      ap (λ (c : TablesContent). c.meta) (made_content v old mid has known less clean)
      ∙ meta_at v known less old.now.trees ∙ is

  meta_since : HasCleanDisk mid → (row : Meta) → (tables_content mid.now.trees).meta ≡ Some row
      → (tables_content old.now.trees).meta ≡ Some row
  meta_since clean row is =
      sym (meta_at v known less old.now.trees)
      ∙ sym (ap (λ (c : TablesContent). c.meta) (made_content v old mid has known less clean)) ∙ is

  -- what is said of it since is said of it before
  kept_before : (P : Option Meta → Type 0) → HasCleanDisk mid
      → P (tables_content mid.now.trees).meta → P (tables_content old.now.trees).meta
  kept_before P clean = subst P
      (ap (λ (c : TablesContent). c.meta) (made_content v old mid has known less clean)
      ∙ meta_at v known less old.now.trees)

  -- what is kept once wasn't read
  -- rule: database-migrated.ruled-version
  pub no_meta : (new : State) (e : OpenFault)
      → ReadsWithin {A = MetaColumns} {E = OpenFault}
      (λ trees m. (tables_content trees).meta ≡ Some (meta_of m)) mid new (Err e)
      → IsMetaFound v mid new (Err e) → BringsToLatest v old new (Err e)
  no_meta new e reads finds =
      ends_after v old mid new e has
      (λ clean is. kept_before (IsMetaOther v) (was clean) (finds.version clean is))
      (λ clean is ruled.
      let it = subst (IsRefusedMeta v) (meta_before (was clean) ruled.row ruled.is)
      (finds.rules clean is) in
      it.1 (ruled.of_version it.0).ruled)
      finds.other IsUnchanged e reads.still
    where
      was : HasCleanDisk new → HasCleanDisk mid
      was clean = omega (arith, reads.still.survives.clean, clean)

-- what is kept once is read
pub record HasMeta (v : ℕ) (old mid : State) (m : MetaColumns) : Type 0 where
  pub has : HasMade v old mid
  pub is : HasCleanDisk mid → (tables_content old.now.trees).meta ≡ Some (meta_of m)

pub meta_read : {E : Type 0} (v : ℕ) → IsVersion v → v < latest → (old mid new : State)
    (m : MetaColumns) → HasMade v old mid
    → ReadsWithin {A = MetaColumns} {E = E} (λ trees m. (tables_content trees).meta ≡ Some
    (meta_of m))
    mid new (Ok m) → HasMeta v old new m
meta_read v known less old mid new m has reads = record {
  has = made_still v old mid new m has reads.still;
  is = λ clean. meta_since v known less old mid has
      (omega (arith, reads.still.survives.clean, clean)) (meta_of m) (reads.found clean);
}

module _ (v : ℕ) (known : IsVersion v) (less : v < latest) (old mid : State) (m : MetaColumns)
    (read : HasMeta v old mid m) where
  -- the row in the rules is the one that was read
  same_row : HasCleanDisk mid → (ruled : IsRuledVersion v old.now.trees) → ruled.row ≡ meta_of m
  same_row clean ruled =
      let one : Some ruled.row ≡ Some (meta_of m) = sym ruled.is ∙ read.is clean in
      same_Some ruled.row (meta_of m) one

  shelf_before : HasCleanDisk mid → m.version ≡ v → (ruled : IsRuledVersion v old.now.trees)
      → HasShelf (string_bytes m.book) (content_at v old.now.trees).books
  shelf_before clean version ruled =
      let row = same_row clean ruled in
      subst (λ t. HasShelf t (content_at v old.now.trees).books)
      (ap (λ (x : Meta). x.book) row)
      (ruled.of_version (ap (λ (x : Meta). x.version) row ∙ version)).shelf

  books_at : HasCleanDisk mid →
      (tables_content mid.now.trees).books ≡ (content_at v old.now.trees).books
  books_at clean =
      ap (λ (c : TablesContent). c.books) (made_content v old mid read.has known less clean)

  -- the later books weren't read
  pub no_rows : {A : Type 0} (told : Trees → A → Type 0) (new : State) (e : OpenFault)
      → ReadsWithin {A = A} {E = OpenFault} told mid new (Err e) → IsNoVersion e → ¬ (e ≡ Foreign)
      → m.version ≡ v
      → (HasCleanDisk new → e ≡ Rules → ¬ AreRuledBooks (tables_content mid.now.trees).books)
      → BringsToLatest v old new (Err e)
  no_rows told new e reads of_rows ours version rules =
      ends_after v old mid new e read.has (λ clean is. absurd (of_rows.0 is))
      (λ clean is ruled.
      let before : HasCleanDisk mid = omega (arith, reads.still.survives.clean, clean) in
      let it = shelf_before before version ruled in
      rules clean is (subst AreRuledBooks (sym (books_at before))
      (shelf_ruled (string_bytes m.book) (content_at v old.now.trees).books it.0 it.1)))
      (ours, of_rows.1) IsUnchanged e reads.still

-- the rows of the later books are read
pub record HasRows (v : ℕ) (old mid : State) (m : MetaColumns) (items : List BookColumns) : Type 0
  where
    pub meta : HasMeta v old mid m
    pub books : HasCleanDisk mid → (n : ℕ) →
        row_numbered n (map book_at items) ≡ (content_at v old.now.trees).books n

pub rows_read : {E : Type 0} (v : ℕ) → IsVersion v → v < latest → (old mid new : State)
    (m : MetaColumns) (rows : Vec BookColumns Global) → HasMeta v old mid m
    → ReadsWithin {A = Vec BookColumns Global} {E = E}
    (λ trees xs. AreBooks (tables_content trees) (map book_at xs.items)) mid new (Ok rows)
    → HasRows v old new m rows.items
rows_read v known less old mid new m rows read reads = record {
  meta = record {
    has = made_still v old mid new rows read.has reads.still;
    is = λ clean. read.is (omega (arith, reads.still.survives.clean, clean));
  };
  books = λ clean n. reads.found clean n
      ∙ ap (λ f. f n) (books_at v known less old mid m read
      (omega (arith, reads.still.survives.clean, clean)));
}

module _ (v : ℕ) (known : IsVersion v) (less : v < latest) (old mid : State) (m : MetaColumns)
    (items : List BookColumns) (read : HasRows v old mid m items) (version : m.version ≡ v)
    (text : List ℕ) (text_is : text ≡ string_bytes m.book) where
  -- there is no shelf of them
  -- rule: database-migrated.ruled-version
  pub no_shelf : (e : OpenFault) → (e ≡ Rules → IsNoShelf text (map book_at items))
      → (¬ (e ≡ Rules) → e ≡ Memory) → BringsToLatest v old mid (Err e)
  no_shelf e rules either =
      ends_here v old mid e read.meta.has
      (λ clean is. absurd (let no : Version ≡ Memory =
      sym is ∙ either (λ rule. let no : Version ≡ Rules = sym is ∙ rule in cc) in cc))
      (λ clean is ruled.
      let has = shelf_before v known less old mid m read.meta clean version ruled in
      rules is (
        has.0,
        subst (λ f. IsShelfOf text f has.0) (λ i n. sym (read.books clean n) i)
            (subst (λ t. IsShelfOf t (content_at v old.now.trees).books has.0) (sym text_is) has.1),
      )) (
        (λ is. let no : Foreign ≡ Memory =
            sym is ∙ either (λ rule. let no : Foreign ≡ Rules = sym is ∙ rule in cc) in cc),
        (λ is. let no : Older ≡ Memory =
            sym is ∙ either (λ rule. let no : Older ≡ Rules = sym is ∙ rule in cc) in cc),
      )

  -- a shelf is that of the tables
  shelf_at : (own : Shelf) → IsShelfRead text (map book_at items) own → HasCleanDisk mid
      → IsShelfOf (string_bytes m.book) (content_at v old.now.trees).books own
  shelf_at own shelf clean =
      subst (λ t. IsShelfOf t (content_at v old.now.trees).books own) text_is
      (subst (λ f. IsShelfOf text f own) (λ i n. read.books clean n i) shelf)

  module _ (new : State) (b : ReadBooks) (shelf : IsShelfRead text (map book_at items) b.own)
      (given : b.given ≡ b.own) (told : string_bytes b.text ≡ text) (since : b.last ≡ m.last)
      (last : m.last ≤ 4_102_488_000) (utf8 : IsUtf8 (string_bytes m.book))
      (ruled : HasRuledRows v old) where
    -- each row is in the rules of the latest version, once its tables are made
    rows_before : HasCleanDisk mid → AreRuled b.own v old.now.trees
    rows_before before =
        ruled (omega (arith, read.meta.has.survives.clean, before))
        (read.meta.has.made before).shows.was_open (meta_of m) b.own (read.meta.is before)
        (shelf_at b.own shelf before)

    rows_made : HasCleanDisk mid
        → AreRightBy b.own (last_kept mid.now.trees) latest mid.now.trees
    rows_made before =
        let made = read.meta.has.made before in
        ruled_since b.own old.now.trees mid.now.trees v known less (made.rows, made.empty)
        (rows_before before)

    -- and each reservation has its book, where the version has the numbers of books
    books_made : HasCleanDisk mid → 2 ≤ v → HaveBooks b.own mid.now.trees
    books_made before =
        let made = read.meta.has.made before in
        books_since b.own old.now.trees mid.now.trees v known less (made.rows, made.empty)
        (rows_before before)

    meta_made : HasCleanDisk mid → (tables_content mid.now.trees).meta ≡ Some (meta_of m)
    meta_made before =
        ap (λ (c : TablesContent). c.meta) (made_content v old mid read.meta.has known less before)
        ∙ meta_at v known less old.now.trees ∙ read.meta.is before

    -- all is put
    pub brought : {A E : Type 0} (u : A)
        → Attempts {A = A} {E = E} (Makes (with_latest v (meta_of m))) mid new (Ok u)
        → BringsToLatest v old new (Ok b)
    brought u put = record {
      brings = record {
        done = λ clean.
            let before : HasCleanDisk mid = omega (arith, put.survives.clean, clean) in
            let p = put.done clean in
            let made = read.meta.has.made before in (
              becomes_latest v known less old.now.trees mid.now.trees new.now.trees (meta_of m)
                  (made_content v old mid read.meta.has known less before) (read.meta.is before)
                  made.sound.lists p.turns,
              p.book,
              record {
                was_open = made.shows.was_open;
                is_open = p.shows.is_open;
                now_is = refl;
                committed_is = p.shows.committed_is ∙ made.shows.committed_is;
                mode = p.shows.mode;
              },
            );
        kept = λ clean. tt;
        survives = survives_then old mid new (λ _. ⊥) (λ _. ⊥) (λ _. ⊥) (λ clean db no. no)
            (λ clean db no. no) read.meta.has.survives put.survives;
      };
      read = λ clean.
          let before : HasCleanDisk mid = omega (arith, put.survives.clean, clean) in
          let turns = (put.done clean).turns in
          let made = read.meta.has.made before in
          let kept = made_content v old mid read.meta.has known less before in
          let at = shelf_at b.own shelf before in
          let same : string_bytes m.book ≡ string_bytes b.text = sym text_is ∙ sym told in
          let books = shelf_latest v known less old.now.trees mid.now.trees new.now.trees
          (meta_of m) kept (read.meta.is before) made.sound.lists turns b.own at in
          let rules = latest_ruled b.own v mid.now.trees new.now.trees (meta_of m)
          (rows_made before) (meta_made before) turns made.sound.obeys
          (alone_before v known old.now.trees (string_bytes m.book) b.own at) (books_made before) in
          record {
            left = subst (λ t. IsLeftRuled t new.now.trees) same (record {
              left = left_latest v known less old.now.trees mid.now.trees new.now.trees (meta_of m)
                  kept (read.meta.is before) made.sound.lists turns b.own last utf8 at;
              rules = λ s is. subst (λ x. IsInRules x (tables_content new.now.trees))
                  (same_shelf (string_bytes m.book) (tables_content new.now.trees).books b.own s
                  books
                  is) rules;
              plain = latest_plain b.own v mid.now.trees new.now.trees (meta_of m)
                  (rows_made before) (meta_made before) turns;
            });
            books = subst (λ t. IsShelfOf t (tables_content new.now.trees).books b.own) same books;
            moment = since ∙ sym (moment_latest v known less old.now.trees mid.now.trees
                new.now.trees (meta_of m) kept (read.meta.is before) made.sound.lists turns);
          };
      given = given;
      first = subst (λ t. IsBookOf t b.own.first) (sym told) shelf.first;
      version = λ clean. tt;
      rules = λ clean. tt;
      other = tt;
    }

  -- it isn't put
  -- rule: database-migrated.ruled-version
  pub not_put : {A : Type 0} (does : State → State → Type 0) (new : State) (e : OpenFault)
      (f : ReadFault) → Attempts {A = A} {E = ReadFault} does mid new (Err f)
      → IsNoVersion e → ¬ (e ≡ Foreign) → (e ≡ Rules → f ≡ reading.Rules)
      → (HasCleanDisk new → AreUnruledReserved v mid.now.trees f)
      → BringsToLatest v old new (Err e)
  not_put does new e f failed of_rows ours rules refused =
      ends_after v old mid new e read.meta.has (λ clean is. absurd (of_rows.0 is))
      (λ clean is ruled.
      let before : HasCleanDisk mid = omega (arith, failed.survives.clean, clean) in
      let it = refused clean (rules is) in
      let row = same_row v known less old mid m read.meta before ruled in
      let own = ruled.of_version (ap (λ (x : Meta). x.version) row ∙ version) in
      it.1 (subst AreRuledReserved
      (sym (made_content v old mid read.meta.has known less before)) (own.reserved it.0)))
      (ours, of_rows.1) does f failed

-- ---- the version alone is asked

asks_err : {A : Type 0} (v : ℕ) (old new : State) (e : OpenFault)
    → BringsToLatest v old new (Err e)
    → (HasCleanDisk new → e ≡ Rules → IsUnruledMeta v old.now.trees)
    → AsksVersion {A = A} v old new (Err e)
asks_err v old new e b rules = record {
  keeps = λ clean. tt;
  kept = b.brings.kept;
  version = b.version;
  rules = rules;
  other = b.other;
  survives = b.brings.survives;
}

-- the error that is handed on
pub asked_err : {A : Type 0} (v : ℕ) (old new : State) (r : Result A OpenFault) (f e : OpenFault)
    → r ≡ Err f → f ≡ e → AsksVersion {A = A} v old new (Err e) → AsksVersion v old new r
asked_err {A} v old new r f e is same b =
    subst (λ x. AsksVersion {A = A} v old new x) (sym (is ∙ ap Err same)) b

-- the store failed as the tables were made
pub asks_not_made : {A B F : Type 0} (v : ℕ) (old new : State) (e : OpenFault) (f : F)
    → (e ≡ Store) ⊎ (e ≡ Memory) → Attempts {A = A} {E = F} (Migrates v) old new (Err f)
    → AsksVersion {A = B} v old new (Err e)
asks_not_made v old new e f store failed =
    asks_err v old new e (not_made v old new e f store failed)
    (λ clean k. absurd (elim store [
      | inl is ↦ (let no : Store ≡ Rules = sym is ∙ k in cc)
      | inr is ↦ (let no : Memory ≡ Rules = sym is ∙ k in cc)
    ]))

module _ (v : ℕ) (known : IsVersion v) (less : v < latest) (old mid : State) where
  -- what is kept once wasn't read
  -- rule: database-migrated.older
  pub asks_no_meta : {A : Type 0} → HasMade v old mid → (new : State) (e : OpenFault)
      → ReadsWithin {A = MetaColumns} {E = OpenFault}
      (λ trees m. (tables_content trees).meta ≡ Some (meta_of m)) mid new (Err e)
      → IsMetaFound v mid new (Err e) → AsksVersion {A = A} v old new (Err e)
  asks_no_meta has new e reads finds =
      asks_err v old new e (no_meta v known less old mid has new e reads finds)
      (λ clean is. kept_before v known less old mid has (IsRefusedMeta v)
      (omega (arith, reads.still.survives.clean, clean)) (finds.rules clean is))

  -- it was
  -- rule: database-migrated.older
  pub asks_meta : {A : Type 0} (m : MetaColumns) → HasMeta v old mid m → (u : A)
      → m.version ≡ v → m.last ≤ 4_102_488_000 → AsksVersion {A = A} v old mid (Ok u)
  asks_meta m read u version last = record {
    keeps = λ clean. record {
      row = meta_of m;
      is = read.is clean;
      ruled = ruled_row m number last;
      version = version;
    };
    kept = λ clean.
        let m = read.has.made clean in
        record { was_open = λ on. m.shows.was_open; committed = λ on. m.shows.committed_is };
    version = λ clean. tt;
    rules = λ clean. tt;
    other = tt;
    survives = read.has.survives;
  }
    where
      number : m.version < 2 ^ 32
      number = let is : m.version ≡ v = version in let low : v < 3 = less in
          omega (arith, is, low)

-- ---- the shelf alone is read

reads_err : (v : ℕ) (old new : State) (e : OpenFault) → BringsToLatest v old new (Err e)
    → ReadsShelf v old new (Err e)
reads_err v old new e b = record {
  shelf = λ clean. tt;
  kept = b.brings.kept;
  version = b.version;
  rules = b.rules;
  other = b.other;
  survives = b.brings.survives;
}

-- the error that is handed on
pub shelf_err : (v : ℕ) (old new : State) (r : Result ReadBooks OpenFault) (f e : OpenFault)
    → r ≡ Err f → f ≡ e → BringsToLatest v old new (Err e) → ReadsShelf v old new r
shelf_err v old new r f e is same b =
    subst (λ x. ReadsShelf v old new x) (sym (is ∙ ap Err same)) (reads_err v old new e b)

module _ (v : ℕ) (known : IsVersion v) (less : v < latest) (old mid : State) (m : MetaColumns)
    (items : List BookColumns) (read : HasRows v old mid m items) (version : m.version ≡ v)
    (text : List ℕ) (text_is : text ≡ string_bytes m.book) where
  pub shelf_read : (r : Result ReadBooks OpenFault)
      → IfOk r (λ b. IsShelfRead text (map book_at items) b.own) → IfOk r (λ b. b.last ≡ m.last)
      → IfErr r (λ e. e ≡ Rules → IsNoShelf text (map book_at items))
      → IfErr r (λ e. ¬ (e ≡ Rules) → e ≡ Memory) → ReadsShelf v old mid r
  shelf_read (Ok b) shelf since rules either = record {
    shelf = λ clean. record {
      row = meta_of m;
      is = read.meta.is clean;
      version = version;
      last = since;
      shelf = shelf_at v known less old mid m items read version text text_is b.own shelf clean;
    };
    kept = λ clean.
        let m = read.meta.has.made clean in
        record { was_open = λ on. m.shows.was_open; committed = λ on. m.shows.committed_is };
    version = λ clean. tt;
    rules = λ clean. tt;
    other = tt;
    survives = read.meta.has.survives;
  }
  shelf_read (Err e) shelf since rules either =
      reads_err v old mid e
      (no_shelf v known less old mid m items read version text text_is e rules either)
