-- The rules of the rows, a test a table. That a column is of its kind and no number below 0, that
-- sums are right and that a row which another one names is there, the schema says already; so a
-- column that names another row isn't tested again.
-- Source: profile.
use Rattle.std.specs.Prelude.{ℕ, ◌&&◌, ◌||◌, Bool, true, false, List, [], ◌∷◌, is_some, nat_eq}
use Rattle.std.specs.Prelude.{if◌then◌else◌, nat_le, slice_index_or, Result, Ok, Err}
use Rattle.std.specs.List.{list_any}
use Rattle.std.specs.Cmp.Lexicographic.{pointwise}
use Rattle.units.specs.Words.{Moment, latest_command, greatest_number, most_used, most_counted}
use Rattle.units.specs.Words.{most_days}
use Rattle.identifiers.specs.Texts.{is_account_number, is_reference, is_session_id}
use Rattle.identifiers.specs.Texts.{is_voucher_code, same_name}
use Rattle.commands.specs.Codes.{kind_number, kind_of_ask}
use Rattle.commands.specs.Keys.{key_of}
use Rattle.commands.specs.declared.answer.Answer.{Answer}
use Rattle.commands.specs.declared.answer.Answer.TheVariants as answer
use Rattle.commands.specs.declared.command.Content.{Content}
use Rattle.commands.specs.declared.command.Content.TheVariants as content
use Rattle.commands.specs.declared.key.Key.{Key}
use Rattle.commands.specs.declared.key.Key.TheVariants.{Request, Reference}
use Rattle.commands.specs.declared.request.Request.{Request as CreditRequest}
use Rattle.json_fields.specs.declared.fault.WireFault.{WireFault}
use Rattle.tariffs.specs.Names.{period_named}
use Rattle.shelves.specs.Shelves.{Shelf, count, dated_books}
use Rattle.shelves.specs.declared.dated.DatedBook.{DatedBook}
use Rattle.sqlite_sql.specs.Ops.{is_null}
use Rattle.sqlite_value.specs.declared.value.Value.{Value}
use Rattle.sqlite_value.specs.Order.{Row, column}
use Rattle.wire.specs.Contents.{content_of, content_text}
use Rattle.wire.specs.ReadingAnswers.{answer_of}
use Rattle.wire.specs.Spelled.{answer_text}
use Rattle.sql_rows.specs.Words.{KeyKind, KeyName, KeyNumber}
use Rattle.sql_rows.specs.Values.{text_in}
use Rattle.sql_rules.specs.Columns.{number_at, text_at, is_in_bounds, is_optional_within, is_small}
use Rattle.sql_rules.specs.Columns.{is_numbering, is_next, is_moment, is_money, is_some_money}
use Rattle.sql_rules.specs.Columns.{is_end, are_blocks, are_some_blocks, is_rated}

-- one row alone, at 1; its version and its book are read by who opens the database
abbrev pub is_ruled_meta : Row → Bool
is_ruled_meta row = nat_eq 1 (number_at row 1) && is_moment (number_at row 4)

abbrev pub is_ruled_account : Row → Bool
is_ruled_account row =
    is_account_number (text_at row 1) && nat_le (number_at row 2) 1 && is_moment (number_at row 3)
    && is_next (number_at row 4) && is_next (number_at row 5)

abbrev pub is_ruled_bucket : Row → Bool
is_ruled_bucket row =
    is_numbering (number_at row 2) && is_moment (number_at row 3)
    && is_end (number_at row 3) (number_at row 4)
    && is_optional_within 0 greatest_number (column row 5) && is_money (number_at row 6)

abbrev pub is_ruled_counter : Row → Bool
is_ruled_counter row =
    is_small (number_at row 2) && is_small (number_at row 3)
    && nat_le (number_at row 4) most_counted

-- open, ended, or never opened
abbrev pub is_ruled_session : Row → Bool
is_ruled_session row =
    is_session_id (text_at row 2) && is_small (number_at row 3) && is_moment (number_at row 4)
    && is_in_bounds 1 3 (number_at row 5)

-- ---- reservations

abbrev pub has_period : List ℕ → DatedBook → Bool
has_period name d = is_some (period_named d.book.periods name)

-- a book on the shelf has a period of this name
abbrev pub is_period_name : Shelf → List ℕ → Bool
is_period_name shelf name = list_any (has_period name) (dated_books shelf)

abbrev pub is_period : Shelf → Value → Bool
is_period shelf v = is_period_name shelf (text_in v)

-- a reservation has two periods, and a group without one has none
abbrev pub are_periods : Shelf → ℕ → Value → Value → Bool
are_periods shelf reserved before after =
    (nat_eq 0 reserved && is_null before && is_null after)
    || (nat_eq 1 reserved && is_period shelf before && is_period shelf after)

-- a group's own columns, and the units that were used
abbrev pub is_ruled_use : Row → Bool
is_ruled_use row =
    is_small (number_at row 3) && nat_le (number_at row 4) most_used

abbrev pub is_ruled_group : Shelf → Row → Bool
is_ruled_group shelf row =
    is_ruled_use row && are_periods shelf (number_at row 5) (column row 6) (column row 7)

abbrev pub is_ruled_hold : Row → Bool
is_ruled_hold row = is_some_money (number_at row 5)

-- a reservation's book is one of so many
abbrev pub is_ruled_book_of : ℕ → Row → Bool
is_ruled_book_of books row = is_in_bounds 1 books (number_at row 4)

-- it is on the shelf
abbrev pub is_ruled_grant_book : Shelf → Row → Bool
is_ruled_grant_book shelf row = is_ruled_book_of (count shelf) row

-- ---- kept answers

-- a request under its session's name and its number, an operator's command under its reference
abbrev pub is_answer_key : KeyKind → KeyName → KeyNumber → Bool
is_answer_key kind name number =
    (nat_eq 1 kind && is_session_id name && is_small number)
    || (nat_eq 2 kind && is_reference name && nat_eq 0 number)

-- these columns are those of this key
-- rule: rows-ruled.under: what is kept of a command is under the command's own key
abbrev pub is_under : Key → KeyKind → KeyName → KeyNumber → Bool
is_under (Request session n) kind name number =
    nat_eq 1 kind && same_name session name && nat_eq n number
is_under (Reference reference) kind name number =
    nat_eq 2 kind && same_name reference name && nat_eq 0 number

-- an answer is one to this request: of its session, its type and its number
abbrev pub answers_request : CreditRequest → Answer → Bool
answers_request r (answer.Request x) =
    same_name x.session r.session && nat_eq (kind_number x.kind) (kind_number (kind_of_ask r.ask))
    && nat_eq x.number r.number
answers_request r x = false

-- an answer is the number of a bucket
abbrev pub has_bucket_number : Answer → Bool
has_bucket_number (answer.Bucket n) = true
has_bucket_number x = false

-- an answer is one to this command; to an operator's command that is kept it is a bucket's number
-- rule: rows-ruled.answered: what is kept of a command beside it is an answer to it: of the
--   session, the type and the number of a request, or the number of a bucket
abbrev pub is_answer_to : Content → Answer → Bool
is_answer_to (content.Request r) x = answers_request r x
is_answer_to (content.Credit c) x = has_bucket_number x
is_answer_to (content.Allow a) x = has_bucket_number x
is_answer_to (content.Redeem r) x = has_bucket_number x

-- bytes are the text of the answer that they say, which is one to this command
-- rule: rows-ruled.answered
abbrev pub is_kept_answer : Content → List ℕ → Result Answer WireFault → Bool
is_kept_answer c bytes (Ok x) = pointwise nat_eq (answer_text x) bytes && is_answer_to c x
is_kept_answer c bytes (Err e) = false

-- bytes are the text of the content that they say, whose key is that of the columns, and the others
-- that of an answer to it
-- rule: rows-ruled.under, rows-ruled.answered
abbrev pub are_texts_of : KeyKind → KeyName → KeyNumber → List ℕ → List ℕ
    → Result Content WireFault → Bool
are_texts_of kind name number bytes given (Ok c) =
    pointwise nat_eq (content_text c) bytes && is_under (key_of c) kind name number
    && is_kept_answer c given (answer_of given)
are_texts_of kind name number bytes given (Err e) = false

-- the texts of a command of the account, under the command's own key, and of an answer to it
-- rule: rows-ruled.under, rows-ruled.answered
abbrev pub are_kept_texts : KeyKind → KeyName → KeyNumber → List ℕ → List ℕ → List ℕ → Bool
are_kept_texts kind name number account bytes given =
    is_account_number account
    && are_texts_of kind name number bytes given (content_of account bytes)

abbrev pub is_ruled_answer : Row → Bool
is_ruled_answer row =
    is_answer_key (number_at row 2) (text_at row 3) (number_at row 4)
    && are_kept_texts (number_at row 2) (text_at row 3) (number_at row 4) (text_at row 1)
    (text_at row 5) (text_at row 6)

-- ---- vouchers, charges, books, blocks

abbrev pub is_ruled_voucher : Row → Bool
is_ruled_voucher row =
    is_voucher_code (text_at row 1) && is_some_money (number_at row 2)
    && is_optional_within 1 most_days (column row 3)
    && is_optional_within 0 greatest_number (column row 4)

abbrev pub is_ruled_charge : Row → Bool
is_ruled_charge row =
    is_numbering (number_at row 2) && is_moment (number_at row 3) && is_session_id (text_at row 4)
    && is_small (number_at row 5) && are_blocks (number_at row 6) && is_rated (number_at row 7)

-- a book after the first; its text is read by who opens the database
abbrev pub is_ruled_book : Row → Bool
is_ruled_book row =
    is_in_bounds 2 16 (number_at row 1) && is_in_bounds 1 latest_command (number_at row 2)

abbrev pub is_ruled_allowance : Row → Bool
is_ruled_allowance row = is_numbering (number_at row 2)

-- some block is covered, and no more than one use may start
abbrev pub is_ruled_covered : Row → Bool
is_ruled_covered row = are_some_blocks (number_at row 3)

-- ---- by the table's place

-- the tests, in the order of the tables of all versions
-- rule: rows-ruled: each row of a database is in the rules of its table, or a fault of the rules
--   says that one isn't
abbrev pub rules : Shelf → List (Row → Bool)
rules shelf =
    is_ruled_meta ∷ is_ruled_account ∷ is_ruled_bucket ∷ is_ruled_counter ∷ is_ruled_session
    ∷ is_ruled_group shelf ∷ is_ruled_hold ∷ is_ruled_answer ∷ is_ruled_voucher ∷ is_ruled_charge
    ∷ is_ruled_book ∷ is_ruled_grant_book shelf ∷ is_ruled_allowance ∷ is_ruled_covered ∷ []

-- rule: rows-ruled
abbrev pub rule_at : Shelf → ℕ → Row → Bool
rule_at shelf at = slice_index_or (rules shelf) at (λ row. true)

-- ---- moments

-- the moment in a column isn't after the last moment
abbrev pub is_by : ℕ → Moment → Row → Bool
is_by place last row = nat_le (number_at row place) last

-- so are those of accounts, of sessions and of charges, the tables at 1, 4 and 9
-- rule: rows-ruled.timely
abbrev pub is_timely_at : Moment → ℕ → Row → Bool
is_timely_at last at row =
    if nat_eq at 1 then is_by 3 last row
    else (if nat_eq at 4 then is_by 4 last row
    else (if nat_eq at 9 then is_by 3 last row else true))

-- the row is in the rules of its table, and timely
-- rule: rows-ruled.timely: no account, session or charge is of a moment after the last moment
abbrev pub passes_at : Shelf → Moment → ℕ → Row → Bool
passes_at shelf last at row = rule_at shelf at row && is_timely_at last at row
