-- The texts that make the tables; they are in the database as they are written here.
-- Source: profile.
use Rattle.std.specs.Prelude.{ℕ, List, [], ◌∷◌, codes, ◌++◌, map, take}
use Rattle.sqlite_schema.specs.declared.schema.Column.{Column}
use Rattle.sqlite_schema.specs.declared.schema.Schema.{Schema}
use Rattle.sqlite_schema.specs.declared.schema.Table.{Table}
use Rattle.sql_tables.specs.Schema.{our_schema, latest, pieces_to, schema_of}

abbrev pub meta_text : List ℕ
meta_text =
    codes "CREATE TABLE meta (\n"
    ++ codes "  id INT NOT NULL PRIMARY KEY CHECK (id >= 0), -- always 1\n"
    ++ codes "  version INTEGER NOT NULL CHECK (version >= 0), -- of these tables\n"
    ++ codes "  book TEXT NOT NULL, -- the tariff book, as TOML\n"
    ++ codes
    "  last_moment INTEGER NOT NULL CHECK (last_moment >= 0) -- of the last accepted command, in seconds since 1970\n"
    ++ codes ") STRICT"

abbrev pub accounts_text : List ℕ
accounts_text =
    codes "CREATE TABLE accounts (\n"
    ++ codes "  account TEXT NOT NULL, -- E.164 number, digits alone\n"
    ++ codes "  barred INTEGER NOT NULL CHECK (barred >= 0), -- 0 or 1\n"
    ++ codes
    "  as_of INTEGER NOT NULL CHECK (as_of >= 0), -- moment that the rows of the account stand for\n"
    ++ codes
    "  next_bucket INTEGER NOT NULL CHECK (next_bucket >= 0), -- number of the next bucket\n"
    ++ codes
    "  next_charge INTEGER NOT NULL CHECK (next_charge >= 0), -- number of the next charge\n"
    ++ codes "  PRIMARY KEY (account)\n"
    ++ codes ") STRICT"

abbrev pub buckets_text : List ℕ
buckets_text =
    codes "CREATE TABLE buckets (\n"
    ++ codes "  account TEXT NOT NULL,\n"
    ++ codes "  number INTEGER NOT NULL CHECK (number >= 0), -- from 1 in each account\n"
    ++ codes "  starts INTEGER NOT NULL CHECK (starts >= 0), -- first moment of its use\n"
    ++ codes "  ends INTEGER NOT NULL CHECK (ends >= 0), -- first moment at which it is over\n"
    ++ codes
    "  scope INTEGER CHECK (scope >= 0), -- the one rating group that it pays for; NULL: all\n"
    ++ codes "  credited INTEGER NOT NULL CHECK (credited >= 0), -- micro-units, as each amount\n"
    ++ codes
    "  available INTEGER NOT NULL CHECK (available >= 0), -- neither reserved nor charged, before its end\n"
    ++ codes "  reserved INTEGER NOT NULL CHECK (reserved >= 0), -- held for live sessions\n"
    ++ codes "  charged INTEGER NOT NULL CHECK (charged >= 0),\n"
    ++ codes "  expired INTEGER NOT NULL CHECK (expired >= 0), -- left at its end\n"
    ++ codes "  PRIMARY KEY (account, number),\n"
    ++ codes "  CHECK (credited = available + reserved + charged + expired),\n"
    ++ codes "  FOREIGN KEY (account) REFERENCES accounts (account)\n"
    ++ codes ") STRICT"

abbrev pub counters_text : List ℕ
counters_text =
    codes "CREATE TABLE counters (\n"
    ++ codes "  account TEXT NOT NULL,\n"
    ++ codes "  rating_group INTEGER NOT NULL CHECK (rating_group >= 0),\n"
    ++ codes "  cycle INTEGER NOT NULL CHECK (cycle >= 0), -- number of the day, the month, or 0\n"
    ++ codes "  blocks INTEGER NOT NULL CHECK (blocks >= 0), -- started in the cycle\n"
    ++ codes "  PRIMARY KEY (account, rating_group, cycle),\n"
    ++ codes "  FOREIGN KEY (account) REFERENCES accounts (account)\n"
    ++ codes ") STRICT"

abbrev pub sessions_text : List ℕ
sessions_text =
    codes "CREATE TABLE sessions (\n"
    ++ codes "  account TEXT NOT NULL,\n"
    ++ codes "  session TEXT NOT NULL, -- Session-Id\n"
    ++ codes
    "  last_number INTEGER NOT NULL CHECK (last_number >= 0), -- CC-Request-Number of the last accepted request\n"
    ++ codes "  touched INTEGER NOT NULL CHECK (touched >= 0), -- moment of that request\n"
    ++ codes "  state INTEGER NOT NULL CHECK (state >= 0), -- 1 open, 2 ended, 3 never opened\n"
    ++ codes "  PRIMARY KEY (account, session),\n"
    ++ codes "  FOREIGN KEY (account) REFERENCES accounts (account)\n"
    ++ codes ") STRICT"

abbrev pub session_groups_text : List ℕ
session_groups_text =
    codes "CREATE TABLE session_groups (\n"
    ++ codes "  account TEXT NOT NULL,\n"
    ++ codes "  session TEXT NOT NULL,\n"
    ++ codes "  rating_group INTEGER NOT NULL CHECK (rating_group >= 0),\n"
    ++ codes "  used INTEGER NOT NULL CHECK (used >= 0), -- units\n"
    ++ codes
    "  reserved INTEGER NOT NULL CHECK (reserved >= 0), -- 1 with a reservation, 0 without\n"
    ++ codes "  period_before TEXT, -- tariff period at the grant\n"
    ++ codes "  period_after TEXT, -- tariff period at the switch\n"
    ++ codes "  PRIMARY KEY (account, session, rating_group),\n"
    ++ codes "  FOREIGN KEY (account, session) REFERENCES sessions (account, session)\n"
    ++ codes ") STRICT"

abbrev pub holds_text : List ℕ
holds_text =
    codes "CREATE TABLE holds (\n"
    ++ codes "  account TEXT NOT NULL,\n"
    ++ codes "  session TEXT NOT NULL,\n"
    ++ codes "  rating_group INTEGER NOT NULL CHECK (rating_group >= 0),\n"
    ++ codes "  bucket INTEGER NOT NULL CHECK (bucket >= 0), -- number of the bucket\n"
    ++ codes "  amount INTEGER NOT NULL CHECK (amount >= 0), -- micro-units\n"
    ++ codes "  PRIMARY KEY (account, session, rating_group, bucket),\n"
    ++ codes
    "  FOREIGN KEY (account, session, rating_group) REFERENCES session_groups (account, session, rating_group),\n"
    ++ codes "  FOREIGN KEY (account, bucket) REFERENCES buckets (account, number)\n"
    ++ codes ") STRICT"

abbrev pub answers_text : List ℕ
answers_text =
    codes "CREATE TABLE answers (\n"
    ++ codes "  account TEXT NOT NULL,\n"
    ++ codes
    "  kind INTEGER NOT NULL CHECK (kind >= 0), -- 1 request of a session, 2 reference of an operator\n"
    ++ codes "  name TEXT NOT NULL, -- Session-Id or reference\n"
    ++ codes
    "  number INTEGER NOT NULL CHECK (number >= 0), -- CC-Request-Number; 0 with a reference\n"
    ++ codes "  content TEXT NOT NULL, -- the command, as JSON\n"
    ++ codes "  answer TEXT NOT NULL, -- its first answer, as JSON\n"
    ++ codes "  PRIMARY KEY (account, kind, name, number),\n"
    ++ codes "  FOREIGN KEY (account) REFERENCES accounts (account)\n"
    ++ codes ") STRICT"

abbrev pub vouchers_text : List ℕ
vouchers_text =
    codes "CREATE TABLE vouchers (\n"
    ++ codes "  code TEXT NOT NULL, -- 12 digits\n"
    ++ codes "  amount INTEGER NOT NULL CHECK (amount >= 0), -- micro-units\n"
    ++ codes "  days INTEGER CHECK (days >= 0), -- that it lasts; NULL: no end\n"
    ++ codes "  scope INTEGER CHECK (scope >= 0), -- as of a bucket\n"
    ++ codes "  account TEXT, -- that redeemed it; NULL: not spent\n"
    ++ codes "  PRIMARY KEY (code),\n"
    ++ codes "  FOREIGN KEY (account) REFERENCES accounts (account)\n"
    ++ codes ") STRICT"

abbrev pub charges_text : List ℕ
charges_text =
    codes "CREATE TABLE charges (\n"
    ++ codes "  account TEXT NOT NULL,\n"
    ++ codes "  number INTEGER NOT NULL CHECK (number >= 0), -- from 1 in each account\n"
    ++ codes "  moment INTEGER NOT NULL CHECK (moment >= 0),\n"
    ++ codes "  session TEXT NOT NULL,\n"
    ++ codes "  rating_group INTEGER NOT NULL CHECK (rating_group >= 0),\n"
    ++ codes "  blocks INTEGER NOT NULL CHECK (blocks >= 0), -- started\n"
    ++ codes "  rated INTEGER NOT NULL CHECK (rated >= 0), -- micro-units that the blocks cost\n"
    ++ codes "  collected INTEGER NOT NULL CHECK (collected >= 0), -- paid\n"
    ++ codes "  uncollected INTEGER NOT NULL CHECK (uncollected >= 0), -- not paid\n"
    ++ codes "  PRIMARY KEY (account, number),\n"
    ++ codes "  CHECK (rated = collected + uncollected),\n"
    ++ codes "  FOREIGN KEY (account) REFERENCES accounts (account)\n"
    ++ codes ") STRICT"

abbrev pub sessions_state_text : List ℕ
sessions_state_text = codes "CREATE INDEX sessions_state ON sessions (account, state)"

abbrev pub counters_cycle_text : List ℕ
counters_cycle_text = codes "CREATE INDEX counters_cycle ON counters (account, cycle)"

abbrev pub books_text : List ℕ
books_text =
    codes "CREATE TABLE books (\n"
    ++ codes "  number INT NOT NULL CHECK (number >= 0), -- from 2; the first stands in meta\n"
    ++ codes "  starts INTEGER NOT NULL CHECK (starts >= 0), -- first moment at which it holds\n"
    ++ codes "  content TEXT NOT NULL, -- the tariff book, as TOML\n"
    ++ codes "  PRIMARY KEY (number)\n"
    ++ codes ") STRICT"

abbrev pub grant_books_text : List ℕ
grant_books_text =
    codes "CREATE TABLE grant_books (\n"
    ++ codes "  account TEXT NOT NULL,\n"
    ++ codes "  session TEXT NOT NULL,\n"
    ++ codes "  rating_group INTEGER NOT NULL CHECK (rating_group >= 0),\n"
    ++ codes
    "  book INTEGER NOT NULL CHECK (book >= 0), -- number of the book that the reservation goes by\n"
    ++ codes "  PRIMARY KEY (account, session, rating_group),\n"
    ++ codes
    "  FOREIGN KEY (account, session, rating_group) REFERENCES session_groups (account, session, rating_group)\n"
    ++ codes ") STRICT"

abbrev pub buckets_live_text : List ℕ
buckets_live_text = codes "CREATE INDEX buckets_live ON buckets (account, available, reserved)"

abbrev pub allowance_buckets_text : List ℕ
allowance_buckets_text =
    codes "CREATE TABLE allowance_buckets (\n"
    ++ codes "  account TEXT NOT NULL,\n"
    ++ codes
    "  number INTEGER NOT NULL CHECK (number >= 0), -- of the bucket, whose columns count blocks\n"
    ++ codes "  PRIMARY KEY (account, number),\n"
    ++ codes "  FOREIGN KEY (account, number) REFERENCES buckets (account, number)\n"
    ++ codes ") STRICT"

abbrev pub covered_text : List ℕ
covered_text =
    codes "CREATE TABLE covered (\n"
    ++ codes "  account TEXT NOT NULL,\n"
    ++ codes "  number INTEGER NOT NULL CHECK (number >= 0), -- of the charge\n"
    ++ codes "  blocks INTEGER NOT NULL CHECK (blocks >= 0), -- that allowances paid\n"
    ++ codes "  PRIMARY KEY (account, number),\n"
    ++ codes "  FOREIGN KEY (account, number) REFERENCES charges (account, number)\n"
    ++ codes ") STRICT"

-- the texts that each version adds, one for each of its pieces
abbrev pub texts : List (List (List ℕ))
texts = (meta_text ∷ accounts_text ∷ buckets_text ∷ counters_text ∷ sessions_text
    ∷ session_groups_text ∷ holds_text ∷ answers_text ∷ vouchers_text ∷ charges_text
    ∷ sessions_state_text ∷ counters_cycle_text ∷ [])
    ∷ (books_text ∷ grant_books_text ∷ buckets_live_text ∷ [])
    ∷ (allowance_buckets_text ∷ covered_text ∷ []) ∷ []

abbrev pub joined : List (List (List ℕ)) → List (List ℕ)
joined [] = []
joined (own ∷ later) = own ++ joined later

-- the texts of all versions, one for each piece
abbrev pub all_texts : List (List ℕ)
all_texts = joined texts

-- the schema after the first pieces
abbrev pub stage : ℕ → Schema
stage pieces = schema_of (take pieces (pieces_to latest))

-- ---- what selects rows

-- the text that selects the rowids of a table
abbrev pub rowids_text : Table → List ℕ
rowids_text t = codes "SELECT rowid FROM " ++ (t.name ++ codes " ORDER BY rowid")

-- the same, of the tables of all versions, in their order
abbrev pub rowids_texts : List (List ℕ)
rowids_texts = map rowids_text our_schema.tables

-- the names of columns, each behind a comma
abbrev pub names_text : List Column → List ℕ
names_text [] = []
names_text (c ∷ cs) = codes ", " ++ (c.name ++ names_text cs)

-- the text that selects the rowid and all columns of a table
abbrev pub rows_text : Table → List ℕ
rows_text t =
    codes "SELECT rowid" ++ (names_text t.columns
    ++ (codes " FROM " ++ (t.name ++ codes " ORDER BY rowid")))

-- the same, of the tables of all versions, in their order
abbrev pub rows_texts : List (List ℕ)
rows_texts = map rows_text our_schema.tables
