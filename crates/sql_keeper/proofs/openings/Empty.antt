-- New tables hold nothing.
use Rattle.std.proofs.Common.{◌≡◌, ℕ, List, [], None, refl, ap, sym, ◌∙◌, subst, Ok, arith, false}
use Rattle.std.proofs.Common.{Bool, Some, true}
use Rattle.std.specs.Prelude.{is_some, option_map}
use Rattle.std.specs.FinMap.{get, get-empty}
use Rattle.sqlite_value.specs.Order.{Row, row_cmp}
use Rattle.sqlite_schema.specs.declared.schema.Table.{Table}
use Rattle.shelves.specs.Shelves.{Shelf}
use Rattle.commands.specs.declared.key.Key.{Key}
use Rattle.commands.specs.declared.key.Key.TheVariants.{Request, Reference}
use Rattle.sqlite.specs.State.{State}
use Rattle.sqlite.proofs.StateLemmas.{survives_then}
use Rattle.sqlite_trees.specs.Objects.{catalog_tree}
use Rattle.sqlite_trees.specs.Tree.{Trees}
use Rattle.sqlite_catalog.specs.Listing.{Lists}
use Rattle.sql_tables.specs.Keyed.{look, table_of}
use Rattle.sql_tables.specs.Schema.{our_schema, latest}
use Rattle.sql_tables.specs.Stages.{AreEmpty, BuildsAll}
use Rattle.sql_tables.specs.Statements.{Attempts}
use Rattle.sql_tables.specs.Schema as table
use Rattle.sql_rows.specs.Values as values
use Rattle.sql_rows.specs.Values.{Meta}
use Rattle.sql_rows.specs.Content.{TableRows, TablesContent, tables_content, with_meta}
use Rattle.sql_rows.specs.Makes.{Makes, Turns}
use Rattle.sql_rows.specs.Plain.{AreAll, ArePlain, is_plain_group, is_plain_head}
use Rattle.sql_rows.specs.Plain.{is_plain_session}
use Rattle.sql_rows.proofs.writes.Stays.{same_content}
use Rattle.sql_rules.specs.Columns.{is_moment}
use Rattle.sql_rules.specs.Ruled.{AreBeside, AreInRules, IsInRules}
use Rattle.sql_keeper.specs.Content.{Names, answer_in, tables_of}
use Rattle.sql_keeper.specs.Creates.{first_meta, BuildsBook, IsNewBook}
use Rattle.sql_keeper.specs.Laws.{AreNewTablesEmpty}
use Rattle.sql_keeper.specs.Tidy.{AreTidyRows, IsTidy}
use Rattle.sql_keeper.proofs.puts.Overlays.{not_both}

pub none_stored : (t : Table) (trees : Trees) → trees t.tree ≡ [] → (key : Row) →
    look t trees key ≡ None
none_stored t trees e key = ap (λ rows. get (table_of t.primary rows) key) e ∙ get-empty row_cmp key

abbrev nothing : TableRows
nothing = record {
  head = None;
  buckets = λ n. None;
  counters = λ g c. None;
  sessions = λ s. None;
  groups = λ s g. None;
  holds = λ s g n. None;
  answers = λ kind name number. None;
  charges = λ n. None;
  grant_books = λ s g. None;
  allowances = λ n. false;
  covered = λ n. None;
}

abbrev no_content : TablesContent
no_content = record {
  meta = None;
  kept = 0;
  rows = λ a. nothing;
  vouchers = λ code. None;
  books = λ n. None;
  count = 0;
}

-- nothing is looked up in a table without rows
none : (t : Table) (key : Row) → look t (λ x. []) key ≡ None
none t key = get-empty row_cmp key

nothing_stored : tables_content (λ t. []) ≡ no_content
nothing_stored = λ i. record {
  meta = option_map values.meta_in (none table.meta values.meta_key i);
  kept = 0;
  rows = λ a. record {
    head = option_map values.head_in (none table.accounts (values.head_key a) i);
    buckets = λ n. option_map values.bucket_in_row (none table.buckets (values.bucket_key a n) i);
    counters = λ g c.
        option_map values.counter_in_row (none table.counters (values.counter_key a g c) i);
    sessions = λ s.
        option_map values.session_in_row (none table.sessions (values.session_key a s) i);
    groups = λ s g.
        option_map values.group_in_row (none table.session_groups (values.group_key a s g) i);
    holds = λ s g n. option_map values.hold_in (none table.holds (values.hold_key a s g n) i);
    answers = λ l s n.
        option_map values.answer_in_row (none table.answers (values.answer_key a l s n) i);
    charges = λ n. option_map values.charge_in_row (none table.charges (values.charge_key a n) i);
    grant_books = λ s g.
        option_map values.grant_book_in (none table.grant_books (values.group_key a s g) i);
    allowances = λ n. is_some (option_map values.allowance_in
        (none table.allowance_buckets (values.bucket_key a n) i));
    covered = λ n. option_map values.covered_in_row (none table.covered (values.charge_key a n) i);
  };
  vouchers = λ code.
      option_map values.voucher_in_row (none table.vouchers (values.voucher_key code) i);
  books = λ n. option_map values.book_in_row (none table.books (values.book_key n) i);
  count = 0;
}

empty_content : (trees : Trees) → AreEmpty our_schema.tables trees →
    tables_content trees ≡ no_content
empty_content trees e = same_content (λ t. []) trees e ∙ nothing_stored

none_kept : (a : List ℕ) (k : Key) → answer_in a k nothing ≡ None
none_kept a (Request s n) = refl
none_kept a (Reference x) = refl

-- rule: database-made.new-tables-empty
pub new_empty : AreNewTablesEmpty
new_empty names =
    ap (tables_of names) nothing_stored
    ∙ (λ i. record (tables_of names no_content) { answers = λ a k. none_kept a k i })

beside_nothing : AreBeside nothing
beside_nothing = record {
  numbers = λ n k. not_both (sym k);
  buckets = λ n k. not_both (sym k);
  touched = λ s x e on. absurd (cc e);
  live = λ s g k. not_both (sym k);
}

tidy_nothing : (names : Names) (a : List ℕ) → AreTidyRows names a nothing
tidy_nothing names a = record {
  beside = beside_nothing;
  terms = λ s g. refl;
  books = λ s g k. not_both (sym k);
  holds = λ s g n k. not_both (sym k);
  kinds = λ n k. not_both (sym k);
  covered = λ n k. not_both (sym k);
  texts = λ kind name number k e. absurd (cc);
}

tidy_new : (names : Names) (m : Meta) → IsTidy names (with_meta m no_content)
tidy_new names m = record { there = refl; once = refl; rows = tidy_nothing names }

-- ---- what is there is in its rules

ruled_nothing : (shelf : Shelf) (a : List ℕ) → AreInRules shelf 0 a nothing
ruled_nothing shelf a = record {
  timely = record {
    head = λ h e. absurd (cc e);
    sessions = λ s x e. absurd (cc e);
    charges = λ n x e. absurd (cc e);
  };
  head = λ h e. absurd (cc e);
  buckets = λ n b e. absurd (cc e);
  counters = λ g k x e. absurd (cc e);
  sessions = λ s x e. absurd (cc e);
  groups = λ s g x e. absurd (cc e);
  holds = λ s g n amount e. absurd (cc e);
  answers = λ kind name number k e. absurd (cc e);
  charges = λ n x e. absurd (cc e);
  grant_books = λ s g n e. absurd (cc e);
  allowances = λ n e. absurd (cc e);
  covered = λ n blocks e. absurd (cc e);
}

-- rule: stop-ruled
ruled_new : (shelf : Shelf) (text : List ℕ)
    → IsInRules shelf (with_meta (first_meta text) no_content)
ruled_new shelf text = record {
  each = record {
    once = omega arith;
    meta = λ m e. first m (cc e);
    rows = ruled_nothing shelf;
    vouchers = λ code x e. absurd (cc e);
    books = λ n x e. absurd (cc e);
  };
  beside = λ a. beside_nothing;
  granted = λ a s g. refl;
}
  where
    first : (m : Meta) → first_meta text ≡ m → is_moment m.last ≡ true
    first m is = subst (λ (x : Meta). is_moment x.last ≡ true) is refl

-- a table without rows has what each test asks
all_of_none : (test : Row → Bool) (t : Table) (trees : Trees) → trees t.tree ≡ [] →
    AreAll test t trees
all_of_none test t trees none key cells e = absurd (let clash : None ≡ Some cells =
    sym (none_stored t trees none key) ∙ e in cc)

plain_empty : (trees : Trees) → AreEmpty our_schema.tables trees → ArePlain trees
plain_empty trees e = record {
  heads = all_of_none is_plain_head table.accounts trees e.1.0;
  of_sessions = all_of_none is_plain_session table.sessions trees e.1.1.1.1.0;
  of_groups = all_of_none is_plain_group table.session_groups trees e.1.1.1.1.1.0;
}

-- the row of meta in tables without rows
new_book : (text : List ℕ) (old new : Trees) → AreEmpty our_schema.tables old
    → Lists (old catalog_tree) our_schema → Turns (with_meta (first_meta text)) old new
    → IsNewBook text new
new_book text old new e lists turns = record {
  lists = subst (λ rows. Lists rows our_schema) (sym turns.catalog) lists;
  stored = turns.stored;
  meta = ap (λ (c : TablesContent). c.meta) turns.content;
  tables = λ names.
      ap (tables_of names) (turns.content ∙ ap (with_meta (first_meta text)) (empty_content old e))
      ∙ (λ i. record (tables_of names (with_meta (first_meta text) no_content)) {
        answers = λ a k. none_kept a k i;
      });
  books = λ n. ap (λ (c : TablesContent). c.books n)
      (turns.content ∙ ap (with_meta (first_meta text)) (empty_content old e));
  tidy = λ names. subst (IsTidy names)
      (sym (turns.content ∙ ap (with_meta (first_meta text)) (empty_content old e)))
      (tidy_new names (first_meta text));
  rules = λ shelf. subst (IsInRules shelf)
      (sym (turns.content ∙ ap (with_meta (first_meta text)) (empty_content old e)))
      (ruled_new shelf text);
  plain = turns.plain (plain_empty old e);
}

-- rule: database-made
pub builds_book : {A B D E : Type 0} (text : List ℕ) (first : ℕ) → first ≡ 0 →
    (a b c : State) (u : A) (v : B) (w : D)
    → Attempts {A = A} {E = E} BuildsAll a b (Ok u)
    → Attempts {A = B} {E = E}
    (Makes (with_meta (record { version = latest; book = text; last = first }))) b c (Ok v)
    → Attempts {A = D} {E = E} (BuildsBook text) a c (Ok w)
builds_book text first is a b c u v w one two = record {
  done = λ clean.
      let built : BuildsAll a b = one.done (omega (arith, two.survives.clean, clean)) in
      let put : Makes (with_meta (first_meta text)) b c =
      subst (λ n. Makes (with_meta (record { version = latest; book = text; last = n })) b c) is
      (two.done clean) in
      record {
        made = new_book text b.now.trees c.now.trees built.empty built.lists put.turns;
        book = put.book;
        shows = record {
          was_open = built.shows.was_open;
          is_open = put.shows.is_open;
          now_is = refl;
          committed_is = put.shows.committed_is ∙ built.shows.committed_is;
          mode = put.shows.mode;
        };
      };
  kept = λ clean. tt;
  survives = survives_then a b c (λ _. ⊥) (λ _. ⊥) (λ _. ⊥) (λ clean db no. no)
      (λ clean db no. no) one.survives two.survives;
}
