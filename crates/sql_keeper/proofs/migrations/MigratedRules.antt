-- The rows of an older version are in the rules of the latest once the tables that it hasn't are
-- made.
use Rattle.std.proofs.Common.{◌≡◌, ◌<◌, ◌≤◌, ◌⊎◌, inl, inr, ℕ, zero, suc, List, [], ◌∷◌, ◌++◌, length}
use Rattle.std.proofs.Common.{Option, None, Some, Bool, true, false, refl, sym, ap, subst, arith, IsTrue}
use Rattle.std.proofs.Common.{◌∙◌}
use Rattle.std.specs.Prelude.{if◌then◌else◌, is_some, nat_le, option_map, slice_index_or}
use Rattle.std.proofs.lemmas.Bool.Decides.{nat_tests}
use Rattle.std.specs.List.{AllByRecursion}
use Rattle.shelves.specs.Shelves.{Shelf, count}
use Rattle.shelves.specs.declared.dated.DatedBook.{DatedBook}
use Rattle.sqlite_trees.specs.Tree.{Trees}
use Rattle.sqlite_rules.specs.Lists.{Has}
use Rattle.sqlite_schema.specs.Rules.{Fits, Obeys}
use Rattle.sqlite_schema.specs.declared.schema.Constraint.TheVariants.{ForeignKey}
use Rattle.sqlite_schema.specs.declared.schema.Table.{Table}
use Rattle.sqlite_catalog.specs.Change.{KeepsRows}
use Rattle.sql_tables.specs.Keyed.{IsStored, look}
use Rattle.sql_tables.specs.Opens.{IsVersion}
use Rattle.sql_tables.specs.Schema.{our_schema, latest, pieces_to, schema_at}
use Rattle.sql_tables.specs.Schema as table
use Rattle.sql_tables.specs.Stages.{AreEmpty, tables_between}
use Rattle.sql_rows.specs.Content.{TablesContent, TableRows, tables_content}
use Rattle.sql_rows.specs.Makes.{Turns}
use Rattle.sql_rows.specs.Plain.{ArePlain}
use Rattle.sql_rows.specs.Values.{BookRow, Meta, meta_in, meta_key}
use Rattle.sql_rows.specs.Values as values
use Rattle.sql_rules.specs.Columns.{is_in_bounds}
use Rattle.sql_rules.specs.Rules.{passes_at}
use Rattle.sql_rules.specs.Beside.{AreRightBeside}
use Rattle.sql_rules.specs.Ruled.{AreBeside, AreInRules, IsInRules, IsInRulesBy, last_in}
use Rattle.sql_rules.specs.GrantRows.{HaveBooks}
use Rattle.sql_rules.specs.Tables.{AreRightBy, AreRuled, AreRuledTo, IsRuledAt, last_kept, table_at}
use Rattle.sql_rules.proofs.BesideContents.{rows_beside}
use Rattle.sql_rules.proofs.Contents.{content_ruled}
use Rattle.sql_rules.proofs.GrantContents.{rows_of_books}
use Rattle.sql_rules.proofs.KeptRules.{meta_kept}
use Rattle.sql_keeper.specs.Content.{is_reserved}
use Rattle.sql_keeper.specs.Migrates.{content_at, granted_in, trees_at, with_granted}
use Rattle.sql_keeper.specs.Shelves.{AreLater, IsDatedAt, IsShelfOf}
use Rattle.sql_keeper.proofs.openings.Empty.{none_stored}
use Rattle.sql_keeper.proofs.migrations.Migrated.{AreKept, with_latest}
use Rattle.sql_keeper.proofs.rules.OwnBooks.{books_granted}
use Rattle.sql_keeper.proofs.rules.PlainRows.{rows_plain}

-- the table at a place of a list keeps its rows, or has none
abbrev KeepsAt : Trees → Trees → List Table → ℕ → Type 0
KeepsAt old mid tables at =
    mid (slice_index_or tables at table.meta).tree ≡ old (slice_index_or tables at table.meta).tree

abbrev IsEmptyAt : Trees → List Table → ℕ → Type 0
IsEmptyAt mid tables at = mid (slice_index_or tables at table.meta).tree ≡ []

-- one of those whose rows stay, or of those that are new
in_parts : (old mid : Trees) (first later : List Table) → KeepsRows first old mid
    → AreEmpty later mid → (at : ℕ) → at < length (first ++ later)
    → ((at < length first) × KeepsAt old mid (first ++ later) at)
    ⊎ IsEmptyAt mid (first ++ later) at
in_parts old mid [] [] kept none at low = absurd (omega (arith, low))
in_parts old mid [] (t ∷ later) kept none zero low = inr none.0
in_parts old mid [] (t ∷ later) kept none (suc at) low =
    elim (in_parts old mid [] later tt none.1 at (omega (arith, low))) [
      | inl stays ↦ absurd (omega (arith, stays.0))
      | inr empty ↦ inr empty
    ]
in_parts old mid (t ∷ first) later kept none zero low = inl (omega arith, kept.0)
in_parts old mid (t ∷ first) later kept none (suc at) low =
    elim (in_parts old mid first later kept.1 none at (omega (arith, low))) [
      | inl stays ↦ inl (omega (arith, stays.0), stays.1)
      | inr empty ↦ inr empty
    ]

module _ (shelf : Shelf) (last : ℕ) (old mid : Trees) where
  -- a table whose rows stay
  still_ruled : (at : ℕ) → mid (table_at at).tree ≡ old (table_at at).tree
      → IsRuledAt shelf last at old → IsRuledAt shelf last at mid
  still_ruled at same r = record {
    stored = subst IsStored (sym same) r.stored;
    rows = subst (AllByRecursion (λ row. IsTrue (passes_at shelf last at row))) (sym same) r.rows;
  }

  -- a table without rows
  none_ruled : (at : ℕ) → mid (table_at at).tree ≡ [] → IsRuledAt shelf last at mid
  none_ruled at none = record {
    stored = subst IsStored (sym none) (tt, tt);
    rows = subst (AllByRecursion (λ row. IsTrue (passes_at shelf last at row))) (sym none) tt;
  }

  -- the tables of a version whose rows stay, and no row of those that are new
  ruled_tables : (first later : List Table) → first ++ later ≡ our_schema.tables
      → KeepsRows first old mid → AreEmpty later mid → AreRuledTo shelf last (length first) old
      → AreRuledTo shelf last (length (first ++ later)) mid
  ruled_tables first later is kept none all at low =
      elim (in_parts old mid first later kept none at low) [
        | inl stays ↦
            still_ruled at (subst (λ ts. KeepsAt old mid ts at) is stays.1) (all at stays.0)
        | inr empty ↦ none_ruled at (subst (λ ts. IsEmptyAt mid ts at) is empty)
      ]

-- what is kept once keeps its moment
last_same : (old mid : Trees) → mid table.meta.tree ≡ old table.meta.tree
    → last_kept old ≡ last_kept mid
last_same old mid same =
    ap (λ rows. last_in (option_map meta_in (look table.meta (λ t. rows) meta_key))) (sym same)

module _ (shelf : Shelf) (old mid : Trees) where
  -- the tables of a version, by the moment that it keeps
  ruled_by_last : (first later : List Table) → first ++ later ≡ our_schema.tables
      → mid table.meta.tree ≡ old table.meta.tree
      → KeepsRows first old mid → AreEmpty later mid
      → AreRuledTo shelf (last_kept old) (length first) old
      → AreRuledTo shelf (last_kept mid) (length (first ++ later)) mid
  ruled_by_last first later is same kept none all =
      subst (λ n. AreRuledTo shelf n (length (first ++ later)) mid) (last_same old mid same)
      (ruled_tables shelf (last_kept old) old mid first later is kept none all)

  -- tables whose rows stay are right beside each other as they were
  still_beside : mid table.accounts.tree ≡ old table.accounts.tree
      → mid table.buckets.tree ≡ old table.buckets.tree
      → mid table.charges.tree ≡ old table.charges.tree
      → mid table.session_groups.tree ≡ old table.session_groups.tree
      → mid table.sessions.tree ≡ old table.sessions.tree → AreRightBeside old → AreRightBeside mid
  still_beside accounts buckets charges groups sessions right = record {
    numbers = λ r s h k. right.numbers r s (subst (λ rows. Has rows r) accounts h)
        (subst (λ rows. Has rows s) charges k);
    buckets = λ r s h k. right.buckets r s (subst (λ rows. Has rows r) accounts h)
        (subst (λ rows. Has rows s) buckets k);
    moments = λ r s h k. right.moments r s (subst (λ rows. Has rows r) accounts h)
        (subst (λ rows. Has rows s) sessions k);
    reservations = λ r s h k. right.reservations r s (subst (λ rows. Has rows r) groups h)
        (subst (λ rows. Has rows s) sessions k);
  }

  -- those of each older version
  -- rule: database-migrated.ruled-version
  pub ruled_since : (v : ℕ) → IsVersion v → v < latest → AreKept v old mid → AreRuled shelf v old →
      AreRightBy shelf (last_kept mid) latest mid
  ruled_since zero known less kept all = absurd (omega (arith, known.0))
  ruled_since (suc zero) known less kept all = record {
    each = ruled_by_last (schema_at 1).tables
        (tables_between (length (pieces_to 1)) (length (pieces_to latest))) refl kept.0.0 kept.0
        kept.1 all.right.each;
    beside = still_beside kept.0.1.0 kept.0.1.1.0 kept.0.1.1.1.1.1.1.1.1.1.0 kept.0.1.1.1.1.1.0
        kept.0.1.1.1.1.0 all.right.beside;
  }
  ruled_since (suc (suc zero)) known less kept all = record {
    each = ruled_by_last (schema_at 2).tables
        (tables_between (length (pieces_to 2)) (length (pieces_to latest))) refl kept.0.0 kept.0
        kept.1 all.right.each;
    beside = still_beside kept.0.1.0 kept.0.1.1.0 kept.0.1.1.1.1.1.1.1.1.1.0 kept.0.1.1.1.1.1.0
        kept.0.1.1.1.1.0 all.right.beside;
  }
  ruled_since (suc (suc (suc n))) known less kept all =
      let low : suc (suc (suc n)) < 3 = less in absurd (omega (arith, low))

-- ---- books of reservations

module _ (shelf : Shelf) (old mid : Trees) where
  still_books : mid table.session_groups.tree ≡ old table.session_groups.tree
      → mid table.grant_books.tree ≡ old table.grant_books.tree → HaveBooks shelf old
      → HaveBooks shelf mid
  still_books groups grants have = record {
    there = λ r h e.
        let it = have.there r (subst (λ rows. Has rows r) groups h) e in
        (it.0, subst (λ rows. Has rows it.0) (sym grants) it.1, it.2);
    periods = λ r s h e k o. have.periods r s (subst (λ rows. Has rows r) groups h) e
        (subst (λ rows. Has rows s) grants k) o;
  }

  -- where the version has the numbers of books
  -- rule: database-migrated.ruled-version
  pub books_since : (v : ℕ) → IsVersion v → v < latest → AreKept v old mid → AreRuled shelf v old
      → 2 ≤ v → HaveBooks shelf mid
  books_since zero known less kept all late = absurd (omega (arith, late))
  books_since (suc zero) known less kept all late = absurd (omega (arith, late))
  books_since (suc (suc zero)) known less kept all late =
      still_books kept.0.1.1.1.1.1.0 kept.0.1.1.1.1.1.1.1.1.1.1.1.0 (all.granted late)
  books_since (suc (suc (suc n))) known less kept all late =
      let low : suc (suc (suc n)) < 3 = less in absurd (omega (arith, low))

-- no later book is one of a row that isn't there
none_later : (rows : ℕ → Option BookRow) (n : ℕ) (ds : List DatedBook) → rows n ≡ None
    → AreLater rows n ds → ds ≡ []
none_later rows n [] none later = refl
none_later rows n (d ∷ ds) none later = absurd (subst (λ o. IsDatedAt o d) none later.0)

-- before version 2 the first book is alone
pub alone_before : (v : ℕ) → IsVersion v → (trees : Trees) (text : List ℕ) (s : Shelf)
    → IsShelfOf text (content_at v trees).books s → v < 2 → s.later ≡ []
alone_before zero known trees text s is early = absurd (omega (arith, known.0))
alone_before (suc zero) known trees text s is early =
    none_later (content_at 1 trees).books 2 s.later
    (ap (option_map values.book_in_row)
    (none_stored table.books (trees_at 1 trees) refl (values.book_key 2))) is.later
alone_before (suc (suc n)) known trees text s is early = absurd (omega (arith, early))

-- ---- the number of the first book for each reservation

first_within : (shelf : Shelf) (o : Option ℕ) (b : Bool) (n : ℕ)
    → ((m : ℕ) → o ≡ Some m → IsTrue (is_in_bounds 1 (count shelf) m))
    → (if b then Some 1 else o) ≡ Some n → IsTrue (is_in_bounds 1 (count shelf) n)
first_within shelf o true n some e =
    let is : 1 ≡ n = cc e in
    subst (λ m. is_in_bounds 1 (count shelf) m ≡ true) is (grind (arith, nat_tests))
first_within shelf o false n some e = some n e

granted_rows : {last : ℕ} (shelf : Shelf) (a : List ℕ) (r : TableRows)
    → AreInRules shelf last a r → AreInRules shelf last a (granted_in r)
granted_rows shelf a r in' = record {
  timely = record {
    head = in'.timely.head;
    sessions = in'.timely.sessions;
    charges = in'.timely.charges;
  };
  head = in'.head;
  buckets = in'.buckets;
  counters = in'.counters;
  sessions = in'.sessions;
  groups = in'.groups;
  holds = in'.holds;
  answers = in'.answers;
  charges = in'.charges;
  grant_books = λ s g n e. first_within shelf (r.grant_books s g) (is_reserved (r.groups s g)) n
      (in'.grant_books s g) e;
  allowances = in'.allowances;
  covered = in'.covered;
}

granted_by : {last : ℕ} (shelf : Shelf) (b : Bool) (c : TablesContent)
    → IsInRulesBy shelf last c → IsInRulesBy shelf last (if b then c else record c { rows = λ a. granted_in (c.rows a) })
granted_by shelf true c in' = in'
granted_by shelf false c in' = record {
  once = in'.once;
  meta = in'.meta;
  rows = λ a. granted_rows shelf a (c.rows a) (in'.rows a);
  vouchers = in'.vouchers;
  books = in'.books;
}

granted_beside : (b : Bool) (c : TablesContent) → ((a : List ℕ) → AreBeside (c.rows a)) →
    (a : List ℕ)
    → AreBeside ((if b then c else record c { rows = λ a. granted_in (c.rows a) }).rows a)
granted_beside true c beside a = beside a
granted_beside false c beside a =
    record {
      numbers = (beside a).numbers;
      buckets = (beside a).buckets;
      touched = (beside a).touched;
      live = (beside a).live;
    }

granted_meta : (b : Bool) (c : TablesContent)
    → (if b then c else record c { rows = λ a. granted_in (c.rows a) }).meta ≡ c.meta
granted_meta true c = refl
granted_meta false c = refl

-- ---- what a migration leaves

module _ (shelf : Shelf) (v : ℕ) (mid new : Trees) (m : Meta)
    (all : AreRightBy shelf (last_kept mid) latest mid)
    (is : (tables_content mid).meta ≡ Some m) (turns : Turns (with_latest v m) mid new) where
  -- rule: database-migrated.ruled-version
  pub latest_ruled : Obeys our_schema mid → (v < 2 → shelf.later ≡ [])
      → (2 ≤ v → HaveBooks shelf mid) → IsInRules shelf (tables_content new)
  latest_ruled obeys alone have =
      let fits : Fits our_schema mid =
      record { rules = λ rule other. obeys.rules rule; indexed = obeys.indexed } in
      let each = content_ruled shelf mid fits all in
      let beside = rows_beside shelf mid all (obeys.rules ForeignKey) fits in
      let given = with_granted v (tables_content mid) in
      let same = granted_meta (nat_le 2 v) (tables_content mid) ∙ is in
      let by_row : IsInRulesBy shelf m.last (tables_content mid) =
      subst (λ o. IsInRulesBy shelf (last_in o) (tables_content mid)) is each in
      subst (IsInRules shelf) (sym turns.content) (record {
        each = meta_kept shelf given (granted_by shelf (nat_le 2 v) (tables_content mid) by_row)
            (record m { version = latest }) (each.meta m is)
            (λ none. absurd (let some : is_some given.meta ≡ true = ap is_some same in
            let clash : true ≡ false = sym some ∙ none in cc));
        beside = granted_beside (nat_le 2 v) (tables_content mid) beside;
        granted = books_granted shelf v (tables_content mid) each.rows alone
            (λ late. rows_of_books shelf mid fits (λ at low. (all.each at low).stored) (have late));
      })

  pub latest_plain : ArePlain new
  latest_plain = turns.plain (rows_plain shelf mid all)
