-- The first book's number for each reservation that is read is that for each reservation there is.
use Rattle.std.proofs.Common.{◌≡◌, ◌∙◌, ◌&&◌, ℕ, Bool, true, false, List, [], ◌∷◌, Option, Some}
use Rattle.std.proofs.Common.{None}
use Rattle.std.proofs.Common.{refl, sym, subst, ap, map, nat_eq, arith, ◌<◌, ◌≤◌}
use Rattle.std.proofs.Common.{Ok, Result}
use Rattle.std.specs.Prelude.{IfErr, Vec}
use Rattle.std.specs.Borrow.{MutBor}
use Rattle.std.specs.Global.{Global}
use Rattle.std.proofs.lemmas.Bool.{le-leb}
use Rattle.std.specs.Prelude.{cond, if◌then◌else◌, is_some}
use Rattle.std.specs.List.{find}
use Rattle.identifiers.specs.Texts.{same_name}
use Rattle.sqlite_trees.specs.Objects.{catalog_tree}
use Rattle.sqlite_trees.specs.Tree.{Trees}
use Rattle.sqlite_trees.specs.declared.store.Store.{Ghosts}
use Rattle.sqlite.specs.Effect.{Database}
use Rattle.sqlite.specs.Held.{Held}
use Rattle.sqlite.specs.State.{State, HasCleanDisk, IsUnchanged}
use Rattle.sqlite.proofs.StateLemmas.{survives_then}
use Rattle.sql_tables.specs.Schema.{latest}
use Rattle.sql_tables.specs.Statements.{AreStored, Attempts, AttemptsOver, HasTables, IsInside}
use Rattle.sql_tables.specs.Statements.{ReadsWithin}
use Rattle.sql_rows.specs.Makes.{Makes, MakesIfOpen}
use Rattle.sql_tables.specs.declared.reading.ReadFault.{ReadFault}
use Rattle.sql_rows.specs.Content.{TablesContent, TableRows, tables_content, with_grant_book}
use Rattle.sql_rows.specs.Content.{with_meta}
use Rattle.sql_rows.specs.Content.{with_rows}
use Rattle.sql_rows.specs.Plain.{ArePlain}
use Rattle.sql_rows.specs.Lists.{AreReserved, ReservedAt, has_reservation}
use Rattle.sql_rows.specs.Texts.{reserved_at}
use Rattle.sql_rows.specs.Values.{Group, Meta}
use Rattle.sql_rows.specs.declared.reserved_rows.ReservedColumns.{ReservedColumns}
use Rattle.sql_keeper.specs.Content.{is_reserved}
use Rattle.sql_keeper.specs.Migrates.{AreUnruledReserved, granted_in, with_first_books}
use Rattle.sql_keeper.specs.Migrates.{with_granted}
use Rattle.sql_keeper.proofs.commits.Whole.{survives_self}

-- whether a list has the reservation of this key
abbrev is_of : List ℕ → List ℕ → ℕ → ReservedAt → Bool
is_of a s g x = same_name x.account a && (same_name x.session s && nat_eq x.group g)

abbrev has_it : List ReservedColumns → List ℕ → List ℕ → ℕ → Bool
has_it xs a s g = is_some (find (is_of a s g) (map reserved_at xs))

-- the first book's number where the test passes
abbrev granted_by : (List ℕ → ℕ → Bool) → TableRows → TableRows
granted_by test r = record r { grant_books = λ s g. if test s g then Some 1 else r.grant_books s g }

abbrev granted_where : (List ℕ → List ℕ → ℕ → Bool) → TablesContent → TablesContent
granted_where test c = record c { rows = λ a. granted_by (test a) (c.rows a) }

-- one more row, under its key
one_more : (x : ReservedAt) (o : Option ReservedAt) (t : Bool) (before : Option ℕ)
    → (if is_some o then Some 1 else (if t then Some 1 else before))
    ≡ (if is_some (cond t (Some x) o) then Some 1 else before)
one_more x None true before = refl
one_more x (Some y) true before = refl
one_more x o false before = refl

row_more : (x : ReservedAt) (o : List ℕ → ℕ → Option ReservedAt) (of_account : Bool) (r : TableRows)
    → granted_by (λ s g. is_some (o s g))
    (if of_account then with_grant_book x.session x.group 1 r else r)
    ≡ granted_by (λ s g. is_some (cond (of_account && (same_name x.session s && nat_eq x.group g))
    (Some x) (o s g))) r
row_more x o true r = λ i. record r {
  grant_books = λ s g.
      one_more x (o s g) (same_name x.session s && nat_eq x.group g) (r.grant_books s g) i;
}
row_more x o false r = refl

put_first : (xs : List ReservedColumns) (c : TablesContent) →
    with_first_books xs c ≡ granted_where (has_it xs) c
put_first [] c = refl
put_first (x ∷ xs) c =
    put_first xs (with_rows x.account (with_grant_book x.session x.group 1) c)
    ∙ (λ i. record c {
      rows = λ a. row_more (reserved_at x) (λ s g. find (is_of a s g) (map reserved_at xs))
          (same_name x.account a) (c.rows a) i;
    })

same_test : (o : Option Group) → has_reservation o ≡ is_reserved o
same_test None = refl
same_test (Some x) = refl

pub first_granted : (xs : List ReservedColumns) (c : TablesContent)
    → AreReserved c (map reserved_at xs) → with_first_books xs c ≡ with_granted 1 c
first_granted xs c are =
    put_first xs c
    ∙ (λ i. granted_where (λ a s g. (are a s g ∙ same_test ((c.rows a).groups s g)) i) c)

-- ---- put within a transaction

-- nothing is to be put where the version has these numbers
granted_already : (v : ℕ) (c : TablesContent) → 2 ≤ v → c ≡ with_granted v c
granted_already v c low =
    subst (λ b. c ≡ (if b then c else record c { rows = λ a. granted_in (c.rows a) }))
    (sym (le-leb 2 v low)) refl

pub grants_none : {A E : Type 0} (v : ℕ) (s : State) (u : A) → 2 ≤ v → IsInside s → HasTables s
    → Attempts {A = A} {E = E} (MakesIfOpen (with_granted v)) s s (Ok u)
grants_none v s u low inside book = record {
  done = λ clean. record {
    was_open = λ on. on;
    made = λ on. record {
      turns = record {
        content = granted_already v (tables_content s.now.trees) low;
        catalog = refl;
        stored = (book clean on).stored;
        plain = λ p. p;
      };
      book = book clean on;
      shows = record {
        was_open = on;
        is_open = on;
        now_is = refl;
        committed_is = refl;
        mode = inside clean on;
      };
    };
  };
  kept = λ clean. tt;
  survives = survives_self s (λ _. ⊥);
}

-- a version that has none is the first
pub grants_at : {A E S : Type 0} {g : Ghosts S} (v : ℕ) → 1 ≤ v → v < 2
    → {old new : MutBor (Held S)} {r : Result A E}
    → AttemptsOver {A = A} {E = E} g (MakesIfOpen (with_granted 1)) old new r
    → AttemptsOver {A = A} {E = E} g (MakesIfOpen (with_granted v)) old new r
grants_at {A} {E} {g = g} v low high {old} {new} {r} =
    let is : 1 ≡ v = omega (arith, low, high) in
    subst (λ n. AttemptsOver {A = A} {E = E} g (MakesIfOpen (with_granted n)) old new r) is

pub unruled_at : {A : Type 0} (v : ℕ) → 1 ≤ v → v < 2 → (old new : State)
    (r : Result A ReadFault)
    → (HasCleanDisk new → IfErr r (AreUnruledReserved 1 old.now.trees))
    → HasCleanDisk new → IfErr r (AreUnruledReserved v old.now.trees)
unruled_at v low high old new r h =
    let is : 1 ≡ v = omega (arith, low, high) in
    subst (λ n. HasCleanDisk new → IfErr r (AreUnruledReserved n old.now.trees)) is h

module _ (xs : List ReservedColumns) (old mid new : State) where
  same_content : IsUnchanged old mid → tables_content mid.now.trees ≡ tables_content old.now.trees
  same_content same = ap (λ (d : Database). tables_content d.trees) same.0.now_is

  grants_made : AreReserved (tables_content old.now.trees) (map reserved_at xs) →
      IsUnchanged old mid
      → MakesIfOpen (with_first_books xs) mid new → MakesIfOpen (with_granted 1) old new
  grants_made are same puts = record {
    was_open = λ on. same.0.was_open;
    made = λ on.
        let m = puts.made same.0.is_open in
        record {
          turns = record {
            content = m.turns.content ∙ ap (with_first_books xs) (same_content same)
                ∙ first_granted xs (tables_content old.now.trees) are;
            catalog = m.turns.catalog
                ∙ ap (λ (d : Database). d.trees catalog_tree) same.0.now_is;
            stored = m.turns.stored;
            plain = λ p. m.turns.plain
                (subst (λ (d : Database). ArePlain d.trees) (sym same.0.now_is) p);
          };
          book = m.book;
          shows = record {
            was_open = same.0.was_open;
            is_open = m.shows.is_open;
            now_is = refl;
            committed_is = m.shows.committed_is ∙ same.0.committed_is;
            mode = m.shows.mode;
          };
        };
  }

  -- each reservation that was read has its number
  pub grants : {W A B E F G : Type 0} (told : Trees → W → Type 0) (w : W) (u : A) (v : B)
      → ReadsWithin {A = W} {E = E} told old mid (Ok w)
      → (told old.now.trees w → AreReserved (tables_content old.now.trees) (map reserved_at xs))
      → Attempts {A = A} {E = F} (MakesIfOpen (with_first_books xs)) mid new (Ok u)
      → Attempts {A = B} {E = G} (MakesIfOpen (with_granted 1)) old new (Ok v)
  grants told w u v reads are puts = record {
    done = λ clean.
        let was : HasCleanDisk mid = omega (arith, puts.survives.clean, clean) in
        grants_made (are (reads.found was)) (reads.still.done was) (puts.done clean);
    kept = λ clean. tt;
    survives = survives_then old mid new (λ _. ⊥) (λ _. ⊥) (λ _. ⊥) (λ clean db no. no)
        (λ clean db no. no) reads.still.survives puts.survives;
  }

-- of the rows as they were read
pub grants_rows : {A B E F G : Type 0} (xs : List ReservedColumns) (old mid new : State)
    (w : Vec ReservedColumns Global) (u : A) (v : B) → xs ≡ w.items
    → ReadsWithin {A = Vec ReservedColumns Global} {E = E}
    (λ trees ys. AreReserved (tables_content trees) (map reserved_at ys.items)) old mid (Ok w)
    → Attempts {A = A} {E = F} (MakesIfOpen (with_first_books xs)) mid new (Ok u)
    → Attempts {A = B} {E = G} (MakesIfOpen (with_granted 1)) old new (Ok v)
grants_rows xs old mid new w u v same reads puts =
    grants xs old mid new
    (λ trees (ys : Vec ReservedColumns Global). AreReserved (tables_content trees)
    (map reserved_at ys.items)) w u v reads
    (λ are. subst (λ l. AreReserved (tables_content old.now.trees) (map reserved_at l)) (sym same)
    are)
    puts

-- the tables after what was only read
pub still_book : {A E : Type 0} (old mid : State) (u : A) → HasTables old
    → Attempts {A = A} {E = E} IsUnchanged old mid (Ok u) → HasTables mid
still_book old mid u book still clean on =
    let same = still.done clean in
    let before = book (omega (arith, still.survives.clean, clean)) same.0.was_open in
    record {
      schema = ap (λ (d : Database). d.schema) same.0.now_is ∙ before.schema;
      stored = subst (λ (d : Database). AreStored d.trees) (sym same.0.now_is) before.stored;
    }

pub still_inside : {A E : Type 0} (old mid : State) (u : A) → IsInside old
    → Attempts {A = A} {E = E} IsUnchanged old mid (Ok u) → IsInside mid
still_inside old mid u inside still clean on =
    let same = still.done clean in
    same.0.mode ∙ inside (omega (arith, still.survives.clean, clean)) same.0.was_open

-- the text that is put is that of the row
pub puts_meta : {A E : Type 0} (m : Meta) (text : List ℕ) → text ≡ m.book → (old new : State)
    (r : Result A E)
    → Attempts {A = A} {E = E}
    (Makes (with_meta (record { version = latest; book = text; last = m.last }))) old new r
    → Attempts {A = A} {E = E} (Makes (with_meta (record m { version = latest }))) old new r
puts_meta {A} {E} m text is old new r =
    subst (λ t. Attempts {A = A} {E = E}
    (Makes (with_meta (record { version = latest; book = t; last = m.last }))) old new r) is
