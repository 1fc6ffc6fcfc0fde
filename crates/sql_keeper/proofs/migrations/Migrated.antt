-- What a migration leaves of what the tables held.
use Rattle.std.proofs.Common.{◌≡◌, ◌≤◌, ◌<◌, ◌∙◌, ℕ, zero, suc, Bool, true, false, List}
use Rattle.std.proofs.Common.{Option, Some, None, refl, sym, ap, subst, arith, length, nat_le}
use Rattle.std.proofs.lemmas.Option.{same_Some}
use Rattle.std.specs.Prelude.{if◌then◌else◌, is_some, option_map}
use Rattle.std.specs.Str.{IsUtf8}
use Rattle.sqlite_trees.specs.Objects.{catalog_tree}
use Rattle.sqlite_trees.specs.Tree.{Trees}
use Rattle.sqlite_trees.proofs.ListLemmas.{all-append}
use Rattle.sqlite_schema.specs.declared.schema.Table.{Table}
use Rattle.sqlite_catalog.specs.Change.{KeepsRows}
use Rattle.sqlite_catalog.specs.Listing.{Lists}
use Rattle.shelves.specs.Shelves.{Shelf}
use Rattle.reserving.specs.Left.{is_open_row}
use Rattle.commands.specs.declared.key.Key.{Key}
use Rattle.commands.specs.declared.key.Key.TheVariants.{Reference, Request}
use Rattle.sql_tables.specs.Schema.{our_schema, latest, pieces_to, schema_at}
use Rattle.sql_tables.specs.Schema as table
use Rattle.sql_tables.specs.Stages.{AreEmpty, tables_between}
use Rattle.sql_rows.specs.Content.{TablesContent, TableRows, tables_content, with_meta}
use Rattle.sql_rows.proofs.writes.Stays.{same_content}
use Rattle.sql_rows.specs.Makes.{Turns}
use Rattle.sql_rows.specs.Values as values
use Rattle.sql_rows.specs.Values.{Group, Meta, PeriodNames}
use Rattle.sql_tables.specs.Opens.{IsVersion}
use Rattle.sql_keeper.specs.Content.{Names, stored_group_in, is_reserved, last_in, told_rows}
use Rattle.sql_keeper.specs.Content.{answer_in, tables_of}
use Rattle.sql_keeper.specs.Migrates.{AreGranted, BecomesLatest, content_at, granted_in}
use Rattle.sql_keeper.specs.Migrates.{trees_at, with_granted}
use Rattle.sql_keeper.specs.Opened.{IsLeft}
use Rattle.sql_keeper.specs.Tidy.{AreTidyRows, IsTidy, are_terms, has_terms}
use Rattle.sql_keeper.specs.Shelves.{IsShelfOf}
use Rattle.sql_keeper.proofs.openings.Empty.{none_stored}
use Rattle.sql_keeper.proofs.rules.Tidy.{tidy_meta}

-- ---- the rows of the tables that stay, and no row of those that are new

-- the tables of a version after the tables that it hasn't were made, empty
abbrev pub AreKept : ℕ → Trees → Trees → Type 0
AreKept v old new = KeepsRows (schema_at v).tables old new
    × AreEmpty (tables_between (length (pieces_to v)) (length (pieces_to latest))) new

-- the tables that a version has keep their rows, and the others have none
rows_at : (v : ℕ) (old new : Trees) → IsVersion v → v < latest → AreKept v old new →
    KeepsRows our_schema.tables (trees_at v old) new
rows_at zero old new known less (k, e) = absurd (omega (arith, known.0))
rows_at (suc zero) old new known less (k, e) =
    all-append (λ (t : Table). new t.tree ≡ trees_at 1 old t.tree) (schema_at 1).tables
    (tables_between (length (pieces_to 1)) (length (pieces_to latest))) k e
rows_at (suc (suc zero)) old new known less (k, e) =
    all-append (λ (t : Table). new t.tree ≡ trees_at 2 old t.tree) (schema_at 2).tables
    (tables_between (length (pieces_to 2)) (length (pieces_to latest))) k e
rows_at (suc (suc (suc n))) old new known less (k, e) =
    let low : suc (suc (suc n)) < 3 = less in absurd (omega (arith, low))

-- what the tables hold once those that a version hasn't are made
pub kept_content : (v : ℕ) (old new : Trees) → IsVersion v → v < latest → AreKept v old new →
    tables_content new ≡ content_at v old
kept_content v old new known less kept =
    same_content (trees_at v old) new (rows_at v old new known less kept)

-- ---- the number of the first book, where no row said one

-- no reservation of version 1 has one
no_grant : (trees : Trees) (a s : List ℕ) (g : ℕ)
    → ((content_at 1 trees).rows a).grant_books s g ≡ None
no_grant trees a s g =
    ap (option_map values.grant_book_in)
    (none_stored table.grant_books (trees_at 1 trees) refl (values.group_key a s g))

granted_group : (names : Names) (is_open : Bool) (n : Option ℕ) (o : Option Group) → n ≡ None
    → option_map (stored_group_in names is_open (if is_reserved o then Some 1 else n)) o
    ≡ option_map (stored_group_in names is_open n) o
granted_group names is_open n None none = refl
granted_group names is_open n (Some x) none =
    subst (λ m. option_map (stored_group_in names is_open (if is_some x.periods then Some 1 else m))
    (Some x) ≡ option_map (stored_group_in names is_open m) (Some x)) (sym none) (at x.periods)
  where
    at : (p : Option PeriodNames)
        → Some (stored_group_in names is_open (if is_some p then Some 1 else None)
        (record { used = x.used; periods = p }))
        ≡ Some (stored_group_in names is_open None (record { used = x.used; periods = p }))
    at None = refl
    at (Some q) = refl

granted_answer : (a : List ℕ) (k : Key) (r : TableRows) →
    answer_in a k (granted_in r) ≡ answer_in a k r
granted_answer a (Request s n) r = refl
granted_answer a (Reference x) r = refl

-- the tables hold what they held
pub granted_1 : (names : Names) (trees : Trees)
    → tables_of names (with_granted 1 (content_at 1 trees)) ≡ tables_of names (content_at 1 trees)
granted_1 names trees = λ i. record (tables_of names (content_at 1 trees)) {
  rows = λ a. record (told_rows names ((content_at 1 trees).rows a)) {
    groups = λ s g. granted_group names (is_open_row (((content_at 1 trees).rows a).sessions s))
        (((content_at 1 trees).rows a).grant_books s g)
        (((content_at 1 trees).rows a).groups s g) (no_grant trees a s g) i;
  };
  answers = λ a k. granted_answer a k ((content_at 1 trees).rows a) i;
}

-- ---- what a migration makes of what the tables held

-- what is kept once is read as it is
pub meta_at : (v : ℕ) → IsVersion v → v < latest → (trees : Trees) →
    (content_at v trees).meta ≡ (tables_content trees).meta
meta_at zero known less trees = absurd (omega (arith, known.0))
meta_at (suc zero) known less trees = refl
meta_at (suc (suc zero)) known less trees = refl
meta_at (suc (suc (suc n))) known less trees =
    let low : suc (suc (suc n)) < 3 = less in absurd (omega (arith, low))

-- the tables without what is kept once but for the moment
same_last : (names : Names) (m : Meta) (c : TablesContent) → c.meta ≡ Some m
    → tables_of names (with_meta (record m { version = latest }) c) ≡ tables_of names c
same_last names m c is =
    λ i. record (tables_of names c) { last = last_in (sym is i) }

granted_tables : (v : ℕ) → IsVersion v → v < latest → (names : Names) (trees : Trees)
    → tables_of names (with_granted v (content_at v trees)) ≡ tables_of names (content_at v trees)
granted_tables zero known less names trees = absurd (omega (arith, known.0))
granted_tables (suc zero) known less names trees = granted_1 names trees
granted_tables (suc (suc zero)) known less names trees = refl
granted_tables (suc (suc (suc n))) known less names trees =
    let low : suc (suc (suc n)) < 3 = less in absurd (omega (arith, low))

granted_rows : (v : ℕ) → IsVersion v → v < latest → (trees : Trees)
    → AreGranted v (content_at v trees) (with_granted v (content_at v trees))
granted_rows zero known less trees a s g = absurd (omega (arith, known.0))
granted_rows (suc zero) known less trees a s g =
    ap (λ (n : Option ℕ). if is_reserved (((content_at 1 trees).rows a).groups s g) then Some 1
    else n) (no_grant trees a s g)
granted_rows (suc (suc zero)) known less trees a s g = refl
granted_rows (suc (suc (suc n))) known less trees a s g =
    let low : suc (suc (suc n)) < 3 = less in absurd (omega (arith, low))

granted_beside : (b : Bool) (c : TablesContent) → (if b then c else record c {
  rows = λ a. granted_in (c.rows a);
}).meta ≡ c.meta
granted_beside true c = refl
granted_beside false c = refl

granted_books : (b : Bool) (c : TablesContent) → (if b then c else record c {
  rows = λ a. granted_in (c.rows a);
}).books ≡ c.books
granted_books true c = refl
granted_books false c = refl

-- a reservation without a number is of the first book, and so it is with that number
granted_terms : (names : Names) (n : Option ℕ) (o : Option Group) → n ≡ None
    → has_terms names n o ≡ true → has_terms names (if is_reserved o then Some 1 else n) o ≡ true
granted_terms names n None none k = refl
granted_terms names n (Some x) none k =
    subst (λ m. has_terms names (if is_some x.periods then Some 1 else m) (Some x) ≡ true)
    (sym none) (at x.periods (subst (λ m. has_terms names m (Some x) ≡ true) none k))
  where
    at : (p : Option PeriodNames) → are_terms names None p ≡ true →
        are_terms names (if is_some p then Some 1 else None) p ≡ true
    at None k = refl
    at (Some q) k = k

granted_number : (n : Option ℕ) (o : Option Group) → n ≡ None
    → is_some (if is_reserved o then Some 1 else n) ≡ true → is_reserved o ≡ true
granted_number n o none k =
    at (is_reserved o)
    (subst (λ m. is_some (if is_reserved o then Some 1 else m) ≡ true) none k)
  where
    at : (b : Bool) → is_some {T = ℕ} (if b then Some 1 else None) ≡ true → b ≡ true
    at true k = refl
    at false k = k

tidy_first : (names : Names) (trees : Trees) → IsTidy names (content_at 1 trees)
    → IsTidy names (with_granted 1 (content_at 1 trees))
tidy_first names trees t = record {
  there = t.there;
  once = t.once;
  rows = λ a.
      let own : AreTidyRows names a ((content_at 1 trees).rows a) = t.rows a in
      record {
        beside = record {
          numbers = own.beside.numbers;
          buckets = own.beside.buckets;
          touched = own.beside.touched;
          live = own.beside.live;
        };
        terms = λ s g. granted_terms names (((content_at 1 trees).rows a).grant_books s g)
            (((content_at 1 trees).rows a).groups s g) (no_grant trees a s g) (own.terms s g);
        books = λ s g. granted_number (((content_at 1 trees).rows a).grant_books s g)
            (((content_at 1 trees).rows a).groups s g) (no_grant trees a s g);
        holds = own.holds;
        kinds = own.kinds;
        covered = own.covered;
        texts = own.texts;
      };
}

tidy_granted : (v : ℕ) → IsVersion v → v < latest → (names : Names) (trees : Trees)
    → IsTidy names (content_at v trees) → IsTidy names (with_granted v (content_at v trees))
tidy_granted zero known less names trees t = absurd (omega (arith, known.0))
tidy_granted (suc zero) known less names trees t = tidy_first names trees t
tidy_granted (suc (suc zero)) known less names trees t = t
tidy_granted (suc (suc (suc n))) known less names trees t =
    let low : suc (suc (suc n)) < 3 = less in absurd (omega (arith, low))

-- what is put last, over what the tables held
abbrev pub with_latest : ℕ → Meta → TablesContent → TablesContent
with_latest v m c = with_meta (record m { version = latest }) (with_granted v c)

module _ (v : ℕ) (known : IsVersion v) (less : v < latest) (old mid new : Trees) (m : Meta)
    (kept : tables_content mid ≡ content_at v old) (is : (tables_content old).meta ≡ Some m)
    (lists : Lists (mid catalog_tree) our_schema) (turns : Turns (with_latest v m) mid new) where
  after : tables_content new ≡ with_latest v m (content_at v old)
  after = turns.content ∙ ap (with_latest v m) kept

  catalogued : Lists (new catalog_tree) our_schema
  catalogued = subst (λ rows. Lists rows our_schema) (sym turns.catalog) lists

  books_stay : (tables_content new).books ≡ (content_at v old).books
  books_stay = ap (λ (c : TablesContent). c.books) after
      ∙ granted_books (nat_le 2 v) (content_at v old)

  meta_after : (tables_content new).meta ≡ Some (record m { version = latest })
  meta_after = ap (λ (c : TablesContent). c.meta) after

  -- rule: database-migrated
  pub becomes_latest : BecomesLatest v old new
  becomes_latest = record {
    tables = λ names. ap (tables_of names) after
        ∙ same_last names m (with_granted v (content_at v old))
        (granted_beside (nat_le 2 v) (content_at v old) ∙ meta_at v known less old ∙ is)
        ∙ granted_tables v known less names old;
    granted = λ a s g. ap (λ (c : TablesContent). (c.rows a).grant_books s g) after
        ∙ granted_rows v known less old a s g;
    tidy = λ names t. subst (IsTidy names) (sym after)
        (tidy_meta names (record m { version = latest }) (with_granted v (content_at v old))
        (tidy_granted v known less names old t));
    books = books_stay;
    left = λ text row there same.
        let one : Some m ≡ Some row = sym is ∙ there in
        let row_is : m ≡ row = same_Some m row one in
        meta_after ∙ (λ i. Some (record {
          version = latest;
          book = (ap (λ (x : Meta). x.book) row_is ∙ same) i;
          last = (row_is i).last;
        }));
    lists = catalogued;
    stored = turns.stored;
  }

  -- rule: database-migrated
  pub left_latest : (own : Shelf) → m.last ≤ 4_102_488_000 → IsUtf8 m.book
      → IsShelfOf m.book (content_at v old).books own → IsLeft m.book new
  left_latest own last utf8 shelf = record {
    lists = catalogued;
    stored = turns.stored;
    kept = record {
      row = record m { version = latest };
      is = meta_after;
      version = refl;
      book = refl;
      last = last;
    };
    utf8 = utf8;
    shelf = (own, subst (λ rows. IsShelfOf m.book rows own) (sym books_stay) shelf);
  }

  pub moment_latest : last_in (tables_content new).meta ≡ m.last
  moment_latest = ap last_in meta_after

  pub shelf_latest : (own : Shelf) → IsShelfOf m.book (content_at v old).books own
      → IsShelfOf m.book (tables_content new).books own
  shelf_latest own shelf = subst (λ rows. IsShelfOf m.book rows own) (sym books_stay) shelf
