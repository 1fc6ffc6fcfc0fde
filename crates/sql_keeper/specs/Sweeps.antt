-- A sweep: of each account's rows at a later moment those that differ, written one account after
-- another.
-- Source: profile.
use Rattle.std.specs.Prelude.{◌≡◌, true, List, Option, Some, None, Result, map, nat_le}
use Rattle.std.specs.Prelude.{if◌then◌else◌, IsTrue, OnErr, OnOk, is_some}
use Rattle.std.specs.List.{list_all}
use Rattle.units.specs.Words.{Moment}
use Rattle.identifiers.specs.Texts.{same_name}
use Rattle.identifiers.specs.Words.{AccountName}
use Rattle.shelves.specs.Words.{BookText}
use Rattle.sqlite_trees.specs.Tree.{Trees}
use Rattle.sqlite.specs.State.{State, HasCleanDisk, Shows, Survives}
use Rattle.sql_tables.specs.Statements.{HasIdleTables, IsTabled, IsIdle, IsStill}
use Rattle.shelves.specs.Shelves.{Shelf}
use Rattle.ledger.specs.Lists.{EachIn}
use Rattle.reserving.specs.Rows.{AreApart}
use Rattle.reserving.specs.Stored.{StoredRows, IsStored, advanced_stored}
use Rattle.keepers.specs.Change.{IsSwept}
use Rattle.keepers.specs.Differing.{named_rows}
use Rattle.sql_rows.specs.Content.{TableRows, TablesContent, tables_content, with_account}
use Rattle.sql_rows.specs.Content.{with_meta}
use Rattle.sql_rows.specs.Each.{with_counters, with_each, with_sessions}
use Rattle.sql_rows.specs.Lists.{AreAccounts}
use Rattle.sql_rows.specs.Makes.{Makes, Turns}
use Rattle.sql_rules.specs.Ruled.{IsInRules}
use Rattle.sql_keeper.specs.Commits.{StandsAt}
use Rattle.sql_keeper.specs.Content.{shelf_names, tables_of, Names}
use Rattle.sql_keeper.specs.LiveRows.{IsToldUncounted}
use Rattle.sql_keeper.specs.RuledRows.{is_ruled_swept}
use Rattle.sql_keeper.specs.Tests.{AreWritable}
use Rattle.sql_keeper.specs.Tidy.{IsTidy}
use Rattle.sql_keeper.specs.Writes.{head_columns_of, meta_at, with_all_counted, with_groups}
use Rattle.sql_keeper.specs.declared.swept_rows.SweptAccount.{SweptAccount}

-- ---- what is read

-- an account's rows at a moment; rows of a later one stay
abbrev pub rows_at : Shelf → Moment → StoredRows → StoredRows
rows_at shelf t w = if nat_le w.as_of t then advanced_stored shelf t w else w

-- those of an account's rows that differ at the moment
-- rule: database-sweep
abbrev pub differing_at : Shelf → Moment → StoredRows → StoredRows
differing_at shelf t before = named_rows before (rows_at shelf t before)

-- an account's rows may be kept as they are at the moment
pub record MayBeKept (names : Names) (shelf : Shelf) (t : Moment) (before : StoredRows) : Type 0
  where
    pub kept : IsStored before
    pub stored : IsStored (rows_at shelf t before)
    pub may : AreWritable names (rows_at shelf t before).sessions (rows_at shelf t before).groups

-- these are what differs at the moment of what may still change of an account, which may be kept;
-- a sweep reads and changes no counter
pub record AreSweptRows (names : Names) (shelf : Shelf) (t : Moment) (rows : TableRows)
    (w : StoredRows) : Type 0 where
  pub before : StoredRows
  pub live : IsToldUncounted names rows before
  pub kept : MayBeKept names shelf t before
  pub is : w ≡ differing_at shelf t before

abbrev pub IsSweptOf : Names → Shelf → Moment → TablesContent → SweptAccount → Type 0
IsSweptOf names shelf t c x = AreSweptRows names shelf t (c.rows x.number) x.rows

-- the account of this number
pub record IsSweptAs (names : Names) (shelf : Shelf) (t : Moment) (c : TablesContent)
    (number : AccountName) (x : SweptAccount) : Type 0 where
  pub number_is : x.number ≡ number
  pub swept : IsSweptOf names shelf t c x

-- what was read of it, where anything was
pub record IsSweptOfRows (names : Names) (shelf : Shelf) (t : Moment) (number : AccountName)
    (before : StoredRows) (x : SweptAccount) : Type 0 where
  pub number_is : x.number ≡ number
  pub kept : MayBeKept names shelf t before
  pub is : x.rows ≡ differing_at shelf t before

abbrev pub IsSweptFrom : Names → Shelf → Moment → AccountName → Option StoredRows → SweptAccount →
    Type 0
IsSweptFrom names shelf t number None x = ⊥
IsSweptFrom names shelf t number (Some before) x = IsSweptOfRows names shelf t number before x

-- the accounts of these numbers, in turn
pub record AreSweptOf (names : Names) (shelf : Shelf) (t : Moment) (c : TablesContent)
    (numbers : List AccountName) (xs : List SweptAccount) : Type 0 where
  pub numbers_are : map (λ (x : SweptAccount). x.number) xs ≡ numbers
  pub each : EachIn (IsSweptOf names shelf t c) xs

-- all accounts, each once
-- rule: database-sweep: a sweep of a database brings all accounts to the moment, and writes of
--   each the rows that differ alone
pub record AreAllSwept (names : Names) (shelf : Shelf) (t : Moment) (c : TablesContent)
    (xs : List SweptAccount) : Type 0 where
  pub all : AreAccounts c (map (λ (x : SweptAccount). x.number) xs)
  pub each : EachIn (IsSweptOf names shelf t c) xs

-- ---- what is written

-- what differs of an account, and at last what is kept of it once
abbrev pub with_swept : Names → SweptAccount → TablesContent → TablesContent
with_swept names x c =
    with_account x.number (head_columns_of x.rows) (with_groups x.number names x.rows.groups
    (with_sessions x.number x.rows.sessions (with_counters x.number x.rows.counters
    (with_all_counted x.number x.rows.buckets c))))

-- of each account
abbrev pub with_accounts : Names → List SweptAccount → TablesContent → TablesContent
with_accounts names = with_each (with_swept names)

-- and the moment
-- rule: database-sweep
abbrev pub with_sweep : Names → BookText → Moment → List SweptAccount → TablesContent →
    TablesContent
with_sweep names text t xs c = with_accounts names xs (with_meta (meta_at text t) c)

-- ---- one account after another, within a transaction

-- an account is brought to the moment
pub record SweepsOne (names : Names) (shelf : Shelf) (t : Moment) (number : AccountName)
    (old new : State) : Type 0 where
  pub account : SweptAccount
  pub swept : IsSweptAs names shelf t (tables_content old.now.trees) number account
  pub ruled : IsTrue (is_ruled_swept names t account)
  pub makes : Makes (with_swept names account) old new

-- each of these numbers is, if no two are the same
pub record SweepsEach (names : Names) (text : BookText) (shelf : Shelf) (t : Moment)
    (numbers : List AccountName) (old new : Trees) : Type 0 where
  pub accounts : List SweptAccount
  pub swept : AreApart (λ x y. same_name y x) numbers →
      AreSweptOf names shelf t (tables_content old) numbers accounts
  pub ruled : IsTrue (list_all (is_ruled_swept names t) accounts)
  pub turns : Turns (with_sweep names text t accounts) old new

-- each account is, and no other
-- rule: database-sweep.sweeps-accounts: a sweep of a database is made whole or not at all, also
--   over a stop
pub record SweepsAccounts (names : Names) (text : BookText) (shelf : Shelf) (t : Moment)
    (old new : Trees) : Type 0 where
  pub numbers : List AccountName
  pub all : AreAccounts (tables_content old) numbers
  pub each : SweepsEach names text shelf t numbers old new

pub record MakesSweep (names : Names) (text : BookText) (shelf : Shelf) (t : Moment)
    (old new : State) : Type 0 where
  pub sweeps : SweepsAccounts names text shelf t old.now.trees new.now.trees
  pub book : IsTabled new
  pub shows : Shows old new new.now old.committed true

pub record CommitsSweep (names : Names) (text : BookText) (shelf : Shelf) (t : Moment)
    (old new : State) : Type 0 where
  pub sweeps : SweepsAccounts names text shelf t old.now.trees new.now.trees
  pub idle : IsIdle new

-- outside a transaction: the sweep is committed, or nothing is changed, and a stop leaves what was
-- left before or the sweep
pub record TransactsSweep {A E : Type 0} (names : Names) (text : BookText) (shelf : Shelf)
    (t : Moment) (old new : State) (result : Result A E) : Type 0
  where
    pub done : HasCleanDisk new → OnOk result
        (IsTrue old.is_open × IsTrue new.is_open × CommitsSweep names text shelf t old new)
    pub kept : HasCleanDisk new → IsTrue new.is_open → OnErr result (IsStill old new)
    pub idle : HasIdleTables new
    pub survives : Survives old new
        (λ db. IsTrue old.is_open × SweepsAccounts names text shelf t old.now.trees db)

-- ---- what becomes of the tables

-- each account is brought to the moment; the tables would be found again: the catalog is the same,
-- and so are the version and the books, no rowid comes twice, and the moment is in the range of
-- moments
-- rule: database-sweep.sweeps-accounts
pub record BecomesSwept (names : Names) (text : BookText) (shelf : Shelf) (t : Moment)
    (old new : Trees) : Type 0 where
  pub tables : IsSwept shelf t (tables_of names (tables_content old))
      (tables_of names (tables_content new))
  -- where no row was without a meaning, none is
  pub tidy : IsTidy names (tables_content old) → IsTidy names (tables_content new)
  -- where all was in its rules, by the books of these names, all is
  pub rules : (own : Shelf) → names ≡ shelf_names own → IsTrue (is_some (tables_content old).meta)
      → IsInRules own (tables_content old) → IsInRules own (tables_content new)
  pub stands : StandsAt text t old new
