-- What a change writes, one row after another.
-- Source: profile.
use Rattle.std.specs.Prelude.{◌≡◌, ◌==◌, ◌&&◌, ◌⊎◌, ℕ, Bool, true, false, List, [], Option, Some}
use Rattle.std.specs.Prelude.{None, unwrap_or, if◌then◌else◌, option_map, slice_get}
use Rattle.units.specs.Words.{Moment, BlockCount, GroupId}
use Rattle.identifiers.specs.Texts.{same_name}
use Rattle.identifiers.specs.Words.{SessionName, AccountName}
use Rattle.buckets.specs.Words.{BucketNumber}
use Rattle.shelves.specs.Words.{BookText}
use Rattle.ledger.specs.Words.{ChargeNumber}
use Rattle.calendar.specs.declared.week.Period.{Period}
use Rattle.buckets.specs.Row.{BucketRow}
use Rattle.buckets.specs.declared.kind.BucketKind.{BucketKind}
use Rattle.buckets.specs.declared.kind.BucketKind.TheVariants.{Money, Blocks}
use Rattle.rating.specs.declared.grant.Periods.{Periods}
use Rattle.ledger.specs.declared.charge.ChargeRow.{ChargeRow}
use Rattle.reserving.specs.declared.session.SessionGroup.{SessionGroup}
use Rattle.reserving.specs.declared.session.Reservation.{Reservation}
use Rattle.reserving.specs.Sessions.{holds_in}
use Rattle.reserving.specs.Stored.{StoredRows}
use Rattle.commands.specs.declared.key.Key.{Key}
use Rattle.commands.specs.Keys.{account_of, key_of}
use Rattle.commands.specs.declared.key.Key.TheVariants.{Request, Reference}
use Rattle.keepers.specs.declared.kept_answer.KeptAnswer.{KeptAnswer}
use Rattle.keepers.specs.declared.loaded.Change.{Change}
use Rattle.keepers.specs.declared.loaded.Redeemed.{Redeemed}
use Rattle.voucher_rules.specs.declared.voucher.Voucher.{Voucher}
use Rattle.sql_tables.specs.Schema.{latest}
use Rattle.sql_tables.specs.declared.reading.ReadFault.{ReadFault}
use Rattle.sql_tables.specs.declared.reading.ReadFault.TheVariants.{Memory, Rules}
use Rattle.sql_rows.specs.declared.head.HeadColumns.{HeadColumns}
use Rattle.sql_rows.specs.declared.voucher_rows.VoucherColumns.{VoucherColumns}
use Rattle.sql_rows.specs.Values.{Meta, Group, PeriodNames, Kept}
use Rattle.sql_rows.specs.Values.{request_kind, reference_kind, plain_bucket, plain_charge}
use Rattle.sql_rows.specs.Content.{TablesContent, TableRows, with_rows, with_meta, with_account}
use Rattle.sql_rows.specs.Content.{with_group_row, with_last_moment}
use Rattle.sql_rows.specs.Content.{without_holds, with_answer, with_voucher_row, with_bucket}
use Rattle.sql_rows.specs.Content.{has_charge, with_charge_row, with_grant_book, without_grant_book}
use Rattle.sql_rows.specs.Content.{with_allowance, without_allowance, with_covered, without_covered}
use Rattle.sql_rows.specs.Each.{with_each, with_counters, with_sessions, with_holds}
use Rattle.sql_rules.specs.Rules.{is_answer_to}
use Rattle.sql_keeper.specs.Content.{kept_in, Names, names_numbered}
use Rattle.sql_keeper.specs.Grants.{is_kept}
use Rattle.sql_keeper.specs.KeptKinds.{is_counted}
use Rattle.sql_keeper.specs.declared.kept_rows.KeptRows.{KeptRows}
use Rattle.sql_keeper.specs.declared.putting.Known.{Known}
use Rattle.sql_keeper.specs.declared.seen.SeenAccount.{SeenAccount}

-- ---- periods by their names

abbrev pub name_at : List (List ℕ) → Period → List ℕ
name_at names p = unwrap_or (slice_get names p.0) []

abbrev pub names_at : List (List ℕ) → Periods → PeriodNames
names_at names p = record { before = name_at names p.before; after = name_at names p.after }

-- the names of the periods of a reservation, in its book
abbrev pub names_held : Names → Reservation → PeriodNames
names_held names x = names_at (names_numbered names x.terms.book) x.terms.periods

abbrev pub columns_of : Names → SessionGroup → Group
columns_of names r =
    record { used = r.used; periods = option_map (names_held names) r.reservation }

-- the book of a reservation, where there is one
abbrev pub with_book_of : SessionName → GroupId → Option Reservation → TableRows → TableRows
with_book_of s g None = without_grant_book s g
with_book_of s g (Some x) = with_grant_book s g x.terms.book

abbrev pub head_columns_of : StoredRows → HeadColumns
head_columns_of w = record {
  barred = w.barred;
  as_of = w.as_of;
  next_bucket = w.next_bucket;
  next_charge = w.next_charge;
}

-- what a session has of a rating group, with the book of its reservation, and in place of what was
-- held there what its reservation holds
abbrev pub with_held_group : AccountName → Names → SessionGroup → TablesContent → TablesContent
with_held_group a names r c =
    with_holds a r.session r.group (holds_in r.reservation)
    (with_rows a (without_holds r.session r.group)
    (with_rows a (with_book_of r.session r.group r.reservation)
    (with_rows a (with_group_row r.session r.group (columns_of names r)) c)))

abbrev pub with_groups : AccountName → Names → List SessionGroup → TablesContent → TablesContent
with_groups a names = with_each (with_held_group a names)

-- the same of a group of which nothing was there
abbrev pub with_new_book : AccountName → SessionName → GroupId → Option Reservation →
    TablesContent →
    TablesContent
with_new_book a s g None c = c
with_new_book a s g (Some x) c = with_rows a (with_grant_book s g x.terms.book) c

abbrev pub with_new_group : AccountName → Names → SessionGroup → TablesContent → TablesContent
with_new_group a names r c =
    with_holds a r.session r.group (holds_in r.reservation)
    (with_new_book a r.session r.group r.reservation
    (with_rows a (with_group_row r.session r.group (columns_of names r)) c))

abbrev pub with_new_groups : AccountName → Names → List SessionGroup → TablesContent → TablesContent
with_new_groups a names = with_each (with_new_group a names)

-- the same of a group whose reservation was seen: the number of its book and what it holds of stay
abbrev pub with_kept_group : AccountName → Names → SessionGroup → TablesContent → TablesContent
with_kept_group a names r c =
    with_holds a r.session r.group (holds_in r.reservation)
    (with_rows a (with_group_row r.session r.group (columns_of names r)) c)

abbrev pub with_group_over : AccountName → Names → Option SeenAccount → SessionGroup →
    TablesContent →
    TablesContent
with_group_over a names seen r c =
    if is_kept seen a r then with_kept_group a names r c else with_held_group a names r c

abbrev pub with_groups_over : AccountName → Names → Option SeenAccount → List SessionGroup →
    TablesContent → TablesContent
with_groups_over a names seen = with_each (with_group_over a names seen)

-- groups of which nothing was there, or any
abbrev pub with_groups_put : AccountName → Names → Bool → Option SeenAccount → List SessionGroup →
    TablesContent → TablesContent
with_groups_put a names true seen gs c = with_new_groups a names gs c
with_groups_put a names false seen gs c = with_groups_over a names seen gs c

abbrev pub with_texts : AccountName → Key → Kept → TablesContent → TablesContent
with_texts a (Request s n) k c = with_rows a (with_answer request_kind s n k) c
with_texts a (Reference x) k c = with_rows a (with_answer reference_kind x 0 k) c

-- ---- buckets and charges, with what is beside them

-- what a bucket counts
abbrev pub with_kind : BucketKind → BucketNumber → TableRows → TableRows
with_kind Money n = without_allowance n
with_kind Blocks n = with_allowance n

-- it is beside a bucket of one rating group alone
abbrev pub with_scoped : AccountName → Option GroupId → BucketKind → BucketNumber → TablesContent →
    TablesContent
with_scoped a None k n c = c
with_scoped a (Some g) k n c = with_rows a (with_kind k n) c

abbrev pub with_counted : AccountName → BucketRow → TablesContent → TablesContent
with_counted a b c = with_scoped a b.scope b.kind b.number
    (with_rows a (with_bucket (plain_bucket b)) c)

abbrev pub with_all_counted : AccountName → List BucketRow → TablesContent → TablesContent
with_all_counted a = with_each (with_counted a)

-- the same of a bucket of which it may be kept what it counts: the row beside it stays then
-- rule: database-writes.counted
abbrev pub with_counted_over : AccountName → Option KeptRows → BucketRow → TablesContent →
    TablesContent
with_counted_over a kept b c =
    if is_counted kept a b then with_rows a (with_bucket (plain_bucket b)) c else with_counted a b c

abbrev pub with_all_counted_over : AccountName → Option KeptRows → List BucketRow →
    TablesContent → TablesContent
with_all_counted_over a kept = with_each (with_counted_over a kept)

-- the covered blocks of a charge, where there are any
abbrev pub with_blocks : ChargeNumber → BlockCount → TableRows → TableRows
with_blocks n m r =
    if m == 0 then without_covered n r else with_covered (record { number = n; blocks = m }) r

abbrev pub with_paid : AccountName → ChargeRow → TablesContent → TablesContent
with_paid a x c = with_rows a (with_blocks x.number x.covered.0)
    (with_rows a (with_charge_row (plain_charge x)) c)

abbrev pub with_all_paid : AccountName → List ChargeRow → TablesContent → TablesContent
with_all_paid a = with_each (with_paid a)

-- the same of a charge as it is put: where the account has none of its number, no covered blocks
-- are there either
abbrev pub some_blocks : BlockCount → Option BlockCount
some_blocks m = if m == 0 then None else Some m

abbrev pub with_new_blocks : AccountName → ChargeNumber → Option BlockCount → TablesContent →
    TablesContent
with_new_blocks a n None c = c
with_new_blocks a n (Some m) c = with_rows a (with_covered (record { number = n; blocks = m })) c

abbrev pub with_charged : AccountName → ChargeRow → TablesContent → TablesContent
with_charged a x c = if has_charge a x.number c then with_paid a x c
    else with_new_blocks a x.number (some_blocks x.covered.0)
    (with_rows a (with_charge_row (plain_charge x)) c)

abbrev pub with_all_charged : AccountName → List ChargeRow → TablesContent → TablesContent
with_all_charged a = with_each (with_charged a)

-- ---- vouchers

-- the row of a voucher
abbrev pub voucher_row : Voucher → VoucherColumns
voucher_row v = record {
  amount = v.terms.amount;
  days = v.terms.days;
  scope = v.terms.scope;
  account = v.redeemer;
}

-- the voucher that a change redeems, as it leaves it
abbrev pub with_redeemed : Option Redeemed → TablesContent → TablesContent
with_redeemed None c = c
with_redeemed (Some r) c = with_voucher_row r.code (voucher_row r.voucher) c

-- ---- all of a change

-- the rows of an account as they become
abbrev pub with_stored : AccountName → Names → StoredRows → TablesContent → TablesContent
with_stored a names w c =
    with_groups a names w.groups (with_sessions a w.sessions (with_counters a w.counters
    (with_all_counted a w.buckets (with_account a (head_columns_of w) c))))

-- what is kept of a command, as its texts
abbrev pub with_kept : AccountName → Option KeptAnswer → Option Kept → TablesContent → TablesContent
with_kept a None t c = c
with_kept a (Some k) None c = c
with_kept a (Some k) (Some t) c = with_texts a (key_of k.content) t c

abbrev pub AreTexts : AccountName → Option KeptAnswer → Option Kept → Type 0
AreTexts a None t = Unit {0}
AreTexts a (Some k) None = ⊥
AreTexts a (Some k) (Some t) = kept_in a t ≡ Some k

-- why there are none: it is of another account; or else memory was refused, or its answer isn't one
-- to it
pub record IsFaultOfTexts (a : AccountName) (k : KeptAnswer) (fault : ReadFault) : Type 0 where
  pub told : (fault ≡ Memory) ⊎ (fault ≡ Rules)
  pub other : same_name (account_of k.content) a ≡ false → fault ≡ Rules
  pub rules : fault ≡ Rules
      → (same_name (account_of k.content) a && is_answer_to k.content k.answer) ≡ false

-- rule: rows-ruled.ruled-change
abbrev pub IsTextsFault : AccountName → Option KeptAnswer → ReadFault → Type 0
IsTextsFault a None fault = ⊥
IsTextsFault a (Some k) fault = IsFaultOfTexts a k fault

-- what is kept once: the version of the tables, the text of the book, and the moment of the
-- last accepted command
abbrev pub meta_at : BookText → Moment → Meta
meta_at text t = record { version = latest; book = text; last = t }

abbrev pub meta_with : BookText → Change → Meta
meta_with text change = meta_at text change.moment

-- an account, its buckets and its counters as they are put
abbrev pub with_money : AccountName → Option KeptRows → StoredRows → TablesContent → TablesContent
with_money a kept w c = with_counters a w.counters
    (with_all_counted_over a kept w.buckets (with_account a (head_columns_of w) c))

-- the rows of an account as they are put, where nothing was there of its groups, or any
abbrev pub with_named : AccountName → Names → Known → StoredRows → TablesContent → TablesContent
with_named a names known w c =
    with_groups_put a names known.are_new known.seen.now w.groups
    (with_sessions a w.sessions (with_money a known.kept.now w c))

-- an account's rows that a change names, and its charges
abbrev pub with_changed_rows : Names → Known → Change → TablesContent → TablesContent
with_changed_rows names known change c = with_all_charged change.number change.charges.items
    (with_named change.number names known change.rows c)

-- the moment, as it is put: it isn't, where that is kept already
abbrev pub with_moment_put : Bool → Moment → TablesContent → TablesContent
with_moment_put true t c = c
with_moment_put false t c = with_last_moment t c

-- all of a change, as it is put
abbrev pub with_change_put : Names → Known → Change → Option Kept → TablesContent → TablesContent
with_change_put names known change texts c =
    with_redeemed change.redeemed (with_kept change.number change.kept texts
    (with_changed_rows names known change (with_moment_put known.is_there change.moment c)))

-- all of a change
-- rule: database-writes.tables-of
abbrev pub with_change : Names → Meta → Change → Option Kept → TablesContent → TablesContent
with_change names m change texts c =
    with_redeemed change.redeemed (with_kept change.number change.kept texts
    (with_all_paid change.number change.charges.items
    (with_stored change.number names change.rows (with_meta m c))))
