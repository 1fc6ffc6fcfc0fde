-- A loop that puts each row of a list.
use Rattle.std.proofs.Common.{◌≡◌, ◌∙◌, ap, subst, sym, refl, arith, List, ◌∷◌, IsTrue, true, ℕ}
use Rattle.std.proofs.Common.{◌+◌, ◌<◌, ◌≤◌, Ok, drop, length, get_or}
use Rattle.std.proofs.lemmas.List.{drop_all, drop_more}
use Rattle.sqlite.specs.State.{State, HasCleanDisk, Survives, Shows}
use Rattle.sqlite.proofs.StateLemmas.{survives_then}
use Rattle.sqlite_trees.specs.Objects.{catalog_tree}
use Rattle.sql_tables.specs.Statements.{Attempts, IsTabled}
use Rattle.sql_rows.specs.Content.{TablesContent, tables_content}
use Rattle.sql_rows.specs.Each.{with_each}
use Rattle.sql_rows.specs.Makes.{Makes, MakesIfOpen}
use Rattle.sql_rows.specs.Plain.{ArePlain}

module _ {X : Type 0} (change : X → TablesContent → TablesContent) (all : List X) where
  pub record IsPut (rest : List X) (old now : State) : Type 0 where
    pub book : IsTabled now
    pub shows : Shows old now now.now old.committed true
    pub catalog : now.now.trees catalog_tree ≡ old.now.trees catalog_tree
    pub plain : ArePlain old.now.trees → ArePlain now.now.trees
    pub content : with_each change rest (tables_content now.now.trees)
        ≡ with_each change all (tables_content old.now.trees)

  -- what is done once all but the rest are put
  pub record HasPut (rest : List X) (old now : State) : Type 0 where
    pub survives : Survives old now (λ _. ⊥)
    pub opened : HasCleanDisk now → IsTrue now.is_open → IsTrue old.is_open
    pub sofar : HasCleanDisk now → IsTrue old.is_open → IsPut rest old now

  -- one more
  put_more : {A E : Type 0} (x : X) (rest : List X) (old mid now : State) (count : A)
      → HasPut (x ∷ rest) old mid → Attempts {A = A} {E = E} (Makes (change x)) mid now (Ok count)
      → HasPut rest old now
  put_more x rest old mid now count h a = record {
    survives = survives_then old mid now (λ _. ⊥) (λ _. ⊥) (λ _. ⊥) (λ clean db no. no)
        (λ clean db no. no) h.survives a.survives;
    opened = λ clean on.
        h.opened (omega (arith, a.survives.clean, clean)) (a.done clean).shows.was_open;
    sofar = λ clean on.
        let m = a.done clean in
        let s = h.sofar (omega (arith, a.survives.clean, clean)) on in
        record {
          book = m.book;
          shows = record {
            was_open = on;
            is_open = m.shows.is_open;
            now_is = refl;
            committed_is = m.shows.committed_is ∙ s.shows.committed_is;
            mode = m.shows.mode;
          };
          catalog = m.turns.catalog ∙ s.catalog;
          plain = λ p. m.turns.plain (s.plain p);
          content = ap (with_each change rest) m.turns.content ∙ s.content;
        };
  }

  -- the row of a loop's turn
  pub put_next : {A E : Type 0} (i : ℕ) (x : X) (old mid now : State) (count : A) → i < length all
      → x ≡ get_or all i x → HasPut (drop i all) old mid
      → Attempts {A = A} {E = E} (Makes (change x)) mid now (Ok count)
      → HasPut (drop (i + 1) all) old now
  put_next i x old mid now count less is h a =
      put_more x (drop (i + 1) all) old mid now count (subst (λ xs. HasPut xs old mid)
      (drop_more all i x less ∙ ap (λ y. y ∷ drop (i + 1) all) (sym is)) h) a

  -- the same of a row that is copied
  pub put_at : {A E : Type 0} (i : ℕ) (x : X) (old mid now : State) (count : A) → i < length all
      → HasPut (drop i all) old mid
      → Attempts {A = A} {E = E} (Makes (change (get_or all i x))) mid now (Ok count)
      → HasPut (drop (i + 1) all) old now
  put_at i x old mid now count less h a =
      put_more (get_or all i x) (drop (i + 1) all) old mid now count
      (subst (λ xs. HasPut xs old mid) (drop_more all i x less) h) a

  -- all of them
  pub put_all : {A E : Type 0} (i : ℕ) (old now : State) (v : A) → length all ≤ i
      → HasPut (drop i all) old now
      → Attempts {A = A} {E = E} (MakesIfOpen (with_each change all)) old now (Ok v)
  put_all i old now v end h = record {
    done = λ clean. record {
      was_open = h.opened clean;
      made = λ on.
          let s = h.sofar clean on in
          record {
            turns = record {
              content = ap (λ xs. with_each change xs (tables_content now.now.trees))
                  (sym (drop_all i all end)) ∙ s.content;
              catalog = s.catalog;
              stored = s.book.stored;
              plain = s.plain;
            };
            book = s.book;
            shows = s.shows;
          };
    };
    kept = λ clean. tt;
    survives = h.survives;
  }
