-- The tables of a book as they are found again.
-- Source: profile.
use Rattle.std.specs.Prelude.{◌≡◌, ◌≤◌, Some}
use Rattle.std.specs.Str.{IsUtf8}
use Rattle.units.specs.Words.{Moment, latest_moment}
use Rattle.shelves.specs.Words.{BookText}
use Rattle.sqlite_trees.specs.Tree.{Trees}
use Rattle.sqlite_trees.specs.Objects.{catalog_tree}
use Rattle.sqlite_catalog.specs.Listing.{Lists}
use Rattle.shelves.specs.Shelves.{Shelf}
use Rattle.sql_tables.specs.Schema.{our_schema, latest}
use Rattle.sql_tables.specs.Statements.{AreStored}
use Rattle.sql_rows.specs.Values.{Meta}
use Rattle.sql_rows.specs.Content.{tables_content}
use Rattle.sql_rows.specs.Plain.{ArePlain}
use Rattle.sql_rules.specs.Ruled.{IsInRules}
use Rattle.sql_keeper.specs.Content.{last_in}
use Rattle.sql_keeper.specs.Shelves.{HasShelf, IsShelfOf}

-- what is kept once: the version of the tables, the text of the book, and a moment
pub record IsKept (trees : Trees) (text : BookText) : Type 0 where
  pub row : Meta
  pub is : (tables_content trees).meta ≡ Some row
  pub version : row.version ≡ latest
  pub book : row.book ≡ text
  pub last : row.last ≤ latest_moment

-- the tables of a book as they are found again: the database lists ours, no rowid comes twice
-- there, and it keeps their version with the text, which is one of characters and a book's; the
-- other books that it keeps may follow it
-- rule: database-opened.left: what is made, committed or swept is left as it is found again
pub record IsLeft (text : BookText) (trees : Trees) : Type 0 where
  pub lists : Lists (trees catalog_tree) our_schema
  pub stored : AreStored trees
  pub kept : IsKept trees text
  pub utf8 : IsUtf8 text
  pub shelf : HasShelf text (tables_content trees).books

-- and as the commands of this system leave them: each row is in its rules, by the books of the
-- text, and as the statements write it
-- rule: stop-ruled: what a keeper holds and what a stop of it leaves is in its rules, and is
--   refused for no row; what the commands leave of rows in their rules is so again
pub record IsLeftRuled (text : BookText) (trees : Trees) : Type 0 where
  pub left : IsLeft text trees
  pub rules : (shelf : Shelf) → IsShelfOf text (tables_content trees).books shelf
      → IsInRules shelf (tables_content trees)
  pub plain : ArePlain trees

-- the tables would be found again with this text, with this shelf and with this last moment
-- rule: database-reads.held: a keeper over a database knows the text, the books and the last
--   moment that are kept there, from one command to the next
pub record IsHeld (text : BookText) (shelf : Shelf) (last : Moment) (trees : Trees) : Type 0 where
  pub left : IsLeftRuled text trees
  pub books : IsShelfOf text (tables_content trees).books shelf
  pub moment : last ≡ last_in (tables_content trees).meta
