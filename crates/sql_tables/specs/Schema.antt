-- The tables of a database and its indexes, by the versions that added them.
-- Source: profile.
use Rattle.std.specs.Prelude.{suc, true, false, List, [], ◌∷◌, ◌++◌, None, codes, ℕ, pos}
use Rattle.std.specs.Prelude.{length, take}
use Rattle.sql_tables.specs.Words.{TablesVersion, TreeNumber, SqlName}
use Rattle.sqlite_value.specs.declared.keys.Collation.TheVariants.{Binary}
use Rattle.sqlite_value.specs.declared.value.Value.TheVariants.{Null, Int}
use Rattle.sqlite_value.specs.Keys.{plain}
use Rattle.sqlite_sql.specs.declared.ops.BinaryOp.TheVariants.{Compare, Arith}
use Rattle.sqlite_sql.specs.declared.ops.CompareOp.TheVariants.{Eq, Ge}
use Rattle.sqlite_sql.specs.declared.ops.ArithOp.TheVariants.{Add}
use Rattle.sqlite_sql.specs.Term.{Term, lit, col, op2}
use Rattle.sqlite_schema.specs.declared.schema.Column.{Column}
use Rattle.sqlite_schema.specs.declared.schema.Table.{Table}
use Rattle.sqlite_schema.specs.declared.schema.Index.{Index}
use Rattle.sqlite_schema.specs.declared.schema.Schema.{Schema}
use Rattle.sqlite_schema.specs.declared.schema.Reference.{Reference}
use Rattle.sqlite_schema.specs.declared.schema.Action.TheVariants.{NoAction}
use Rattle.sqlite_schema.specs.declared.schema.Kind.TheVariants.{Integer, Text}

-- ---- columns

abbrev pub number : List ℕ → Column
number name = record {
  name = name;
  kind = Integer;
  is_strict = true;
  not_null = true;
  default = Null;
  collation = Binary;
}

abbrev pub text : List ℕ → Column
text name = record {
  name = name;
  kind = Text;
  is_strict = true;
  not_null = true;
  default = Null;
  collation = Binary;
}

-- a number or NULL
abbrev pub optional_number : List ℕ → Column
optional_number name = record {
  name = name;
  kind = Integer;
  is_strict = true;
  not_null = false;
  default = Null;
  collation = Binary;
}

-- a text or NULL
abbrev pub optional_text : List ℕ → Column
optional_text name = record {
  name = name;
  kind = Text;
  is_strict = true;
  not_null = false;
  default = Null;
  collation = Binary;
}

-- ---- rules; the first column is at place 1

abbrev pub at_least_zero : ℕ → Term
at_least_zero at = op2 (Compare Ge Binary) (col 1 at) (lit (Int (pos 0)))

abbrev pub is_same : Term → Term → Term
is_same a b = op2 (Compare Eq Binary) a b

abbrev pub plus : Term → Term → Term
plus a b = op2 (Arith Add) a b

-- the columns are a key of the parent's table
abbrev pub belongs : List ℕ → List ℕ → List (List ℕ) → Reference
belongs columns parent parent_columns = record {
  columns = columns;
  parent = parent;
  parent_columns = parent_columns;
  on_delete = NoAction;
  on_update = NoAction;
  is_deferred = false;
}

abbrev pub table : SqlName → TreeNumber → List Column → List ℕ → List Term → List Reference → Table
table name tree columns key checks references = record {
  name = name;
  tree = tree;
  columns = columns;
  key = None;
  primary = key;
  uniques = key ∷ [];
  orders = plain ∷ [];
  checks = checks;
  references = references;
  computed = [];
  stamps = record { places = []; terms = []; formats = [] };
  is_counted = false;
}

-- ---- the tables of version 1

abbrev pub meta : Table
meta = table (codes "meta") 0
    (number (codes "id") ∷ number (codes "version") ∷ text (codes "book")
    ∷ number (codes "last_moment") ∷ []) (1 ∷ [])
    (at_least_zero 1 ∷ at_least_zero 2 ∷ at_least_zero 4 ∷ [])
    []

abbrev pub accounts : Table
accounts = table (codes "accounts") 2
    (text (codes "account") ∷ number (codes "barred") ∷ number (codes "as_of")
    ∷ number (codes "next_bucket") ∷
    number (codes "next_charge") ∷ [])
    (1 ∷ [])
    (at_least_zero 2 ∷ at_least_zero 3 ∷ at_least_zero 4 ∷ at_least_zero 5 ∷ [])
    []

abbrev pub buckets : Table
buckets = table (codes "buckets") 4
    (text (codes "account") ∷ number (codes "number") ∷ number (codes "starts")
    ∷ number (codes "ends") ∷
    optional_number (codes "scope") ∷ number (codes "credited") ∷ number (codes "available") ∷
    number (codes "reserved") ∷ number (codes "charged") ∷ number (codes "expired") ∷ [])
    (1 ∷ 2 ∷ [])
    (at_least_zero 2 ∷ at_least_zero 3 ∷ at_least_zero 4 ∷ at_least_zero 5 ∷ at_least_zero 6 ∷
    at_least_zero 7 ∷ at_least_zero 8 ∷ at_least_zero 9 ∷ at_least_zero 10 ∷
    is_same (col 1 6) (plus (plus (plus (col 1 7) (col 1 8)) (col 1 9)) (col 1 10)) ∷ [])
    (belongs (1 ∷ []) (codes "accounts") (codes "account" ∷ []) ∷ [])

abbrev pub counters : Table
counters = table (codes "counters") 6
    (text (codes "account") ∷ number (codes "rating_group") ∷ number (codes "cycle") ∷
    number (codes "blocks") ∷ [])
    (1 ∷ 2 ∷ 3 ∷ [])
    (at_least_zero 2 ∷ at_least_zero 3 ∷ at_least_zero 4 ∷ [])
    (belongs (1 ∷ []) (codes "accounts") (codes "account" ∷ []) ∷ [])

abbrev pub sessions : Table
sessions = table (codes "sessions") 8
    (text (codes "account") ∷ text (codes "session") ∷ number (codes "last_number") ∷
    number (codes "touched") ∷ number (codes "state") ∷ [])
    (1 ∷ 2 ∷ [])
    (at_least_zero 3 ∷ at_least_zero 4 ∷ at_least_zero 5 ∷ [])
    (belongs (1 ∷ []) (codes "accounts") (codes "account" ∷ []) ∷ [])

abbrev pub session_groups : Table
session_groups = table (codes "session_groups") 10
    (text (codes "account") ∷ text (codes "session") ∷ number (codes "rating_group")
    ∷ number (codes "used") ∷
    number (codes "reserved") ∷ optional_text (codes "period_before") ∷
    optional_text (codes "period_after") ∷ [])
    (1 ∷ 2 ∷ 3 ∷ [])
    (at_least_zero 3 ∷ at_least_zero 4 ∷ at_least_zero 5 ∷ [])
    (belongs (1 ∷ 2 ∷ []) (codes "sessions") (codes "account" ∷ codes "session" ∷ []) ∷ [])

abbrev pub holds : Table
holds = table (codes "holds") 12
    (text (codes "account") ∷ text (codes "session") ∷ number (codes "rating_group") ∷
    number (codes "bucket") ∷ number (codes "amount") ∷ [])
    (1 ∷ 2 ∷ 3 ∷ 4 ∷ [])
    (at_least_zero 3 ∷ at_least_zero 4 ∷ at_least_zero 5 ∷ [])
    (belongs (1 ∷ 2 ∷ 3 ∷ []) (codes "session_groups")
    (codes "account" ∷ codes "session" ∷ codes "rating_group" ∷ []) ∷
    belongs (1 ∷ 4 ∷ []) (codes "buckets") (codes "account" ∷ codes "number" ∷ []) ∷ [])

abbrev pub answers : Table
answers = table (codes "answers") 14
    (text (codes "account") ∷ number (codes "kind") ∷ text (codes "name")
    ∷ number (codes "number") ∷
    text (codes "content") ∷ text (codes "answer") ∷ [])
    (1 ∷ 2 ∷ 3 ∷ 4 ∷ [])
    (at_least_zero 2 ∷ at_least_zero 4 ∷ [])
    (belongs (1 ∷ []) (codes "accounts") (codes "account" ∷ []) ∷ [])

abbrev pub vouchers : Table
vouchers = table (codes "vouchers") 16
    (text (codes "code") ∷ number (codes "amount") ∷ optional_number (codes "days") ∷
    optional_number (codes "scope") ∷ optional_text (codes "account") ∷ [])
    (1 ∷ [])
    (at_least_zero 2 ∷ at_least_zero 3 ∷ at_least_zero 4 ∷ [])
    (belongs (5 ∷ []) (codes "accounts") (codes "account" ∷ []) ∷ [])

abbrev pub charges : Table
charges = table (codes "charges") 18
    (text (codes "account") ∷ number (codes "number") ∷ number (codes "moment")
    ∷ text (codes "session") ∷
    number (codes "rating_group") ∷ number (codes "blocks") ∷ number (codes "rated") ∷
    number (codes "collected") ∷ number (codes "uncollected") ∷ [])
    (1 ∷ 2 ∷ [])
    (at_least_zero 2 ∷ at_least_zero 3 ∷ at_least_zero 5 ∷ at_least_zero 6 ∷ at_least_zero 7 ∷
    at_least_zero 8 ∷ at_least_zero 9 ∷ is_same (col 1 7) (plus (col 1 8) (col 1 9)) ∷ [])
    (belongs (1 ∷ []) (codes "accounts") (codes "account" ∷ []) ∷ [])

-- ---- the indexes of version 1

-- the index that a primary key makes
abbrev pub index_on : SqlName → TreeNumber → TreeNumber → List ℕ → Index
index_on name tree table columns =
    record {
      name = name;
      tree = tree;
      table = table;
      columns = columns;
      order = plain;
      is_unique = true;
    }

abbrev pub key_index : Table → Index
key_index t =
    index_on (codes "sqlite_autoindex_" ++ t.name ++ codes "_1") (suc t.tree) t.tree t.primary

-- live sessions without their account's past ones
abbrev pub sessions_state : Index
sessions_state = record {
  name = codes "sessions_state";
  tree = 20;
  table = sessions.tree;
  columns = 1 ∷ 5 ∷ [];
  order = plain;
  is_unique = false;
}

-- the counters of a cycle without those of other cycles
abbrev pub counters_cycle : Index
counters_cycle = record {
  name = codes "counters_cycle";
  tree = 21;
  table = counters.tree;
  columns = 1 ∷ 3 ∷ [];
  order = plain;
  is_unique = false;
}

-- ---- the tables of version 2

-- the tariff books after the first, each from its moment on
abbrev pub books : Table
books = table (codes "books") 22
    (number (codes "number") ∷ number (codes "starts") ∷ text (codes "content") ∷ []) (1 ∷ [])
    (at_least_zero 1 ∷ at_least_zero 2 ∷ [])
    []

-- the book of each reservation
abbrev pub grant_books : Table
grant_books = table (codes "grant_books") 24
    (text (codes "account") ∷ text (codes "session") ∷ number (codes "rating_group") ∷
    number (codes "book") ∷ [])
    (1 ∷ 2 ∷ 3 ∷ [])
    (at_least_zero 3 ∷ at_least_zero 4 ∷ [])
    (belongs (1 ∷ 2 ∷ 3 ∷ []) (codes "session_groups")
    (codes "account" ∷ codes "session" ∷ codes "rating_group" ∷ []) ∷ [])

-- ---- the index of version 2

-- the buckets of which something is available, or nothing but something reserved, without those
-- that are spent
abbrev pub buckets_live : Index
buckets_live = record {
  name = codes "buckets_live";
  tree = 26;
  table = buckets.tree;
  columns = 1 ∷ 7 ∷ 8 ∷ [];
  order = plain;
  is_unique = false;
}

-- ---- the tables of version 3

-- the buckets that hold blocks
abbrev pub allowance_buckets : Table
allowance_buckets = table (codes "allowance_buckets") 27
    (text (codes "account") ∷ number (codes "number") ∷ [])
    (1 ∷ 2 ∷ [])
    (at_least_zero 2 ∷ [])
    (belongs (1 ∷ 2 ∷ []) (codes "buckets") (codes "account" ∷ codes "number" ∷ []) ∷ [])

-- the blocks of a charge that such buckets paid
abbrev pub covered : Table
covered = table (codes "covered") 29
    (text (codes "account") ∷ number (codes "number") ∷ number (codes "blocks") ∷ [])
    (1 ∷ 2 ∷ [])
    (at_least_zero 2 ∷ at_least_zero 3 ∷ [])
    (belongs (1 ∷ 2 ∷ []) (codes "charges") (codes "account" ∷ codes "number" ∷ []) ∷ [])

-- ---- versions

-- what one text makes
pub data Piece : Type 0 where
  ATable : Table → Piece
  AnIndex : Index → Piece

-- what each version adds to the one before it, in order
abbrev pub versions : List (List Piece)
versions = (ATable meta ∷ ATable accounts ∷ ATable buckets ∷ ATable counters ∷ ATable sessions
    ∷ ATable session_groups ∷ ATable holds ∷ ATable answers ∷ ATable vouchers ∷ ATable charges
    ∷ AnIndex sessions_state ∷ AnIndex counters_cycle ∷ [])
    ∷ (ATable books ∷ ATable grant_books ∷ AnIndex buckets_live ∷ [])
    ∷ (ATable allowance_buckets ∷ ATable covered ∷ []) ∷ []

-- the version that is made today
abbrev pub latest : TablesVersion
latest = length versions

abbrev pub in_turn : List (List Piece) → List Piece
in_turn [] = []
in_turn (pieces ∷ later) = pieces ++ in_turn later

-- what the versions up to this one added
abbrev pub pieces_to : TablesVersion → List Piece
pieces_to v = in_turn (take v versions)

-- ---- schemas

abbrev pub tables_of : List Piece → List Table
tables_of [] = []
tables_of (ATable t ∷ pieces) = t ∷ tables_of pieces
tables_of (AnIndex i ∷ pieces) = tables_of pieces

-- the index of a table's key is where the table does
abbrev pub indexes_of : List Piece → List Index
indexes_of [] = []
indexes_of (ATable t ∷ pieces) = key_index t ∷ indexes_of pieces
indexes_of (AnIndex i ∷ pieces) = i ∷ indexes_of pieces

abbrev pub schema_of : List Piece → Schema
schema_of pieces =
    record { tables = tables_of pieces; indexes = indexes_of pieces; views = [] }

-- the schema of a version
-- rule: tables: the tables of each version, and which of them a database has
abbrev pub schema_at : TablesVersion → Schema
schema_at v = schema_of (pieces_to v)

-- the schema that is made today
abbrev pub our_schema : Schema
our_schema = schema_at latest
