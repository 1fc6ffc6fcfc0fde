-- A keeper before its first call keeps what is asked of it.
use Rattle.std.proofs.Common.{◌≡◌, ◌∙◌, sym, subst, ap, arith, refl, false, IsTrue, List, ℕ}
use Rattle.std.specs.Prelude.{Ok}
use Rattle.std.specs.String.{string_bytes}
use Rattle.std.proofs.lemmas.Str.{IsUtf8-string_bytes}
use Rattle.sqlite_trees.specs.declared.store.Store.{Ghosts}
use Rattle.sqlite_trees.specs.Objects.{catalog_tree}
use Rattle.sqlite_trees.specs.Tree.{Trees}
use Rattle.sqlite_catalog.specs.Listing.{IsSound, Lists}
use Rattle.sqlite_schema.specs.declared.schema.Constraint.TheVariants.{ForeignKey}
use Rattle.sqlite.specs.Held.{Held, state}
use Rattle.sqlite.specs.State.{HasCleanDisk, IsLive, State}
use Rattle.sql_tables.specs.Statements.{HasIdleTables}
use Rattle.sql_rows.specs.Content.{tables_content}
use Rattle.sql_rules.specs.Ruled.{IsInRules}
use Rattle.sql_rules.specs.Tables.{AreRuled}
use Rattle.sql_rules.proofs.GrantContents.{content_in_rules}
use Rattle.sql_tables.specs.Schema.{latest}
use Rattle.sql_keeper.specs.Content.{last_in}
use Rattle.sql_keeper.specs.Creates.{CreatesBook, first_meta}
use Rattle.sql_keeper.specs.Finds.{IsReadOf, IsReadRuled}
use Rattle.sql_keeper.specs.Inside.{IsKeeper}
use Rattle.sql_keeper.specs.Left.{IsHeld, IsLeftRuled}
use Rattle.sql_keeper.specs.Shelves.{IsAlone, IsShelfOf}
use Rattle.sql_keeper.specs.declared.books.ReadBooks.{ReadBooks}
use Rattle.sql_keeper.proofs.shelf.Again.{alone_shelf}
use Rattle.sql_keeper.specs.Settled.{AreSettled}
use Rattle.sql_keeper.proofs.shelf.OneShelf.{same_shelf}
use Rattle.sql_keeper.proofs.rules.PlainRows.{rows_plain}
use Rattle.sql_keeper.proofs.commits.Whole.{settled_now}

module _ {S : Type 0} (g : Ghosts S) (law : AreSettled g) (h : Held S) (r : ReadBooks)
    (plain : h.in_transaction ≡ false) (idle : HasIdleTables (state g h))
    (on : HasCleanDisk (state g h) → IsTrue (state g h).is_open)
    (read : HasCleanDisk (state g h) → IsReadRuled r (state g h).now.trees)
    (live : IsLive (state g h)) where
  -- the tables would be found again with what was read
  held_now : HasCleanDisk (state g h)
      → IsHeld (string_bytes r.text) r.own r.last (state g h).now.trees
  held_now clean =
      let it = read clean in
      let book = (idle clean (on clean)).book in
      let trees = (state g h).now.trees in
      record {
        left = record {
          left = record {
            lists = subst (Lists (trees catalog_tree)) book.schema (live (on clean)).0.lists;
            stored = book.stored;
            kept = it.read.kept;
            utf8 = IsUtf8-string_bytes r.text;
            shelf = (r.own, it.read.books);
          };
          rules = λ s is. subst (λ x. IsInRules x (tables_content trees))
              (same_shelf (string_bytes r.text) (tables_content trees).books r.own s it.read.books
              is)
              (it.rules (subst (λ s. IsSound s trees) book.schema (live (on clean)).0).obeys);
          plain = it.plain;
        };
        books = it.read.books;
        moment = it.read.last;
      }

  -- rule: database-reads.held
  pub keeper_made : IsKeeper g (record {
    connection = h;
    shelf = r.own;
    text = string_bytes r.text;
    last = r.last;
    failures = 0;
  })
  keeper_made = record {
    bounded = omega arith;
    plain = plain;
    idle = idle;
    stays = λ clean none. on clean;
    held = λ clean still. held_now clean;
    found = λ clean db may. subst (IsLeftRuled (string_bytes r.text))
        (sym (settled_now (state g h) (law h.store) idle clean (on clean) db may))
        (held_now clean).left;
  }

-- what a new book was read from is what its tables keep
pub created_read : {A E : Type 0} (text : List ℕ) (old new : State) (u : A) (r : ReadBooks)
    → CreatesBook {A = A} {E = E} text old new (Ok u) → IsAlone text r.own
    → string_bytes r.text ≡ text → r.last ≡ 0 → HasCleanDisk new → IsReadRuled r new.now.trees
created_read text old new u r c alone same last clean =
    let made = (c.done clean).2 in
    record {
      read = record {
        kept = record {
          row = first_meta text;
          is = made.meta;
          version = refl;
          book = sym same;
          last = omega arith;
        };
        books = subst (λ t. IsShelfOf t (tables_content new.now.trees).books r.own) (sym same)
            (alone_shelf text (tables_content new.now.trees).books r.own alone.is alone.alone
            alone.first made.books);
        last = last ∙ sym (ap last_in made.meta);
      };
      rules = λ obeys. made.rules r.own;
      plain = made.plain;
    }

-- where each row is in its rules
pub ruled_read : (r : ReadBooks) (trees : Trees) → IsReadOf r trees → AreRuled r.own latest trees
    → IsReadRuled r trees
ruled_read r trees read ruled = record {
  read = read;
  rules = λ obeys. content_in_rules r.own trees ruled (obeys.rules ForeignKey)
      (record { rules = λ rule other. obeys.rules rule; indexed = obeys.indexed });
  plain = rows_plain r.own trees ruled.right;
}
