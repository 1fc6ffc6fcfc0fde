-- Rows of a change that are in the rules of their tables.
-- Source: profile.
use Rattle.std.specs.Prelude.{◌&&◌, Bool, true, List, Option, Some, None, length, nat_le}
use Rattle.std.specs.List.{list_all}
use Rattle.units.specs.Words.{Moment, most_blocks}
use Rattle.identifiers.specs.Words.{AccountName, VoucherCode}
use Rattle.buckets.specs.declared.holds.HeldAmount.{HeldAmount}
use Rattle.ledger.specs.declared.charge.ChargeRow.{ChargeRow}
use Rattle.reserving.specs.Stored.{StoredRows}
use Rattle.reserving.specs.declared.session.Reservation.{Reservation}
use Rattle.reserving.specs.declared.session.Session.{Session}
use Rattle.reserving.specs.declared.session.SessionGroup.{SessionGroup}
use Rattle.commands.specs.Keys.{key_of}
use Rattle.commands.specs.declared.key.Key.{Key}
use Rattle.commands.specs.declared.key.Key.TheVariants.{Request, Reference}
use Rattle.keepers.specs.declared.kept_answer.KeptAnswer.{KeptAnswer}
use Rattle.keepers.specs.declared.loaded.Change.{Change}
use Rattle.keepers.specs.declared.loaded.Redeemed.{Redeemed}
use Rattle.voucher_rules.specs.Standing.{unspent}
use Rattle.voucher_rules.specs.declared.terms.VoucherTerms.{VoucherTerms}
use Rattle.sql_rows.specs.Values.{Kept, reference_kind, request_kind}
use Rattle.sql_rules.specs.Columns.{is_moment}
use Rattle.sql_rules.specs.Rules.{are_kept_texts, is_answer_key}
use Rattle.sql_rules.specs.Ruled.{is_account, is_book_of, is_bucket, is_charge, is_counter, is_hold}
use Rattle.sql_rules.specs.Ruled.{is_session, is_use, is_voucher}
use Rattle.sql_keeper.specs.Content.{Names}
use Rattle.sql_keeper.specs.Writes.{head_columns_of, voucher_row}
use Rattle.sql_keeper.specs.declared.swept_rows.SweptAccount.{SweptAccount}

abbrev pub is_ruled_hold : HeldAmount → Bool
is_ruled_hold x = is_hold x.amount

-- a reservation goes by one of the books, and holds something of each of its buckets
abbrev pub is_ruled_reservation : Names → Option Reservation → Bool
is_ruled_reservation names None = true
is_ruled_reservation names (Some x) =
    is_book_of (length names) x.terms.book && list_all is_ruled_hold x.holds

abbrev pub is_ruled_group : Names → SessionGroup → Bool
is_ruled_group names x = is_use x.group x.used && is_ruled_reservation names x.reservation

-- the rows of an account
abbrev pub are_ruled_rows : Names → AccountName → StoredRows → Bool
are_ruled_rows names a w =
    is_account a (head_columns_of w) && list_all is_bucket w.buckets
    && list_all is_counter w.counters && list_all is_session w.sessions
    && list_all (is_ruled_group names) w.groups

-- a voucher as it is left
abbrev pub is_ruled_redeemed : Option Redeemed → Bool
is_ruled_redeemed None = true
is_ruled_redeemed (Some r) = is_voucher r.code (voucher_row r.voucher)

-- a key of what is kept
abbrev pub is_ruled_key : Key → Bool
is_ruled_key (Request s n) = is_answer_key request_kind s n
is_ruled_key (Reference x) = is_answer_key reference_kind x 0

abbrev pub is_ruled_kept : Option KeptAnswer → Bool
is_ruled_kept None = true
is_ruled_kept (Some k) = is_ruled_key (key_of k.content)

-- texts are those of a command of the account with this key, and of an answer
abbrev pub are_texts_under : Key → AccountName → Kept → Bool
are_texts_under (Request s n) a t = are_kept_texts request_kind s n a t.content t.answer
are_texts_under (Reference x) a t = are_kept_texts reference_kind x 0 a t.content t.answer

-- the texts that are kept, if any are, are those of a command of the account under its own key, and
-- of an answer
abbrev pub are_ruled_texts : AccountName → Option KeptAnswer → Option Kept → Bool
are_ruled_texts a kept None = true
are_ruled_texts a None (Some t) = true
are_ruled_texts a (Some k) (Some t) = are_texts_under (key_of k.content) a t

-- a charge, and which of its blocks are covered
abbrev pub is_ruled_charge : ChargeRow → Bool
is_ruled_charge x = is_charge x && nat_le x.covered.0 most_blocks

-- no session was touched after this moment
abbrev pub are_timely_sessions : Moment → List Session → Bool
are_timely_sessions t xs = list_all (λ (x : Session). nat_le x.touched t) xs

-- an account's moment isn't after this one, nor is a session's after the account's
-- rule: rows-ruled.timely, rows-ruled.beside
abbrev pub are_timely_rows : Moment → StoredRows → Bool
are_timely_rows t w = nat_le w.as_of t && are_timely_sessions w.as_of w.sessions

-- no charge is of a moment after this one
abbrev pub are_timely_charges : Moment → List ChargeRow → Bool
are_timely_charges t xs = list_all (λ (x : ChargeRow). nat_le x.moment t) xs

-- no row of a change is of a moment after its own
-- rule: rows-ruled.timely
abbrev pub is_timely_change : Change → Bool
is_timely_change change =
    are_timely_rows change.moment change.rows
    && are_timely_charges change.rows.as_of change.charges.items

-- all of a change but its texts
-- rule: rows-ruled.ruled-change: if each row was in its rules, each still is after a change, a
--   voucher, a sweep or a book more; what would be out of them isn't written
abbrev pub is_ruled_change : Names → Change → Bool
is_ruled_change names change =
    is_moment change.moment && are_ruled_rows names change.number change.rows
    && list_all is_ruled_charge change.charges.items && is_ruled_redeemed change.redeemed
    && is_ruled_kept change.kept && is_timely_change change

-- a voucher that is added, at a moment
-- rule: rows-ruled.ruled-change
abbrev pub is_ruled_addition : VoucherCode → VoucherTerms → Moment → Bool
is_ruled_addition code terms t = is_moment t && is_voucher code (voucher_row (unspent terms))

-- an account as a sweep leaves it, at a moment
-- rule: rows-ruled.ruled-change
abbrev pub is_ruled_swept : Names → Moment → SweptAccount → Bool
is_ruled_swept names t x = are_ruled_rows names x.number x.rows && are_timely_rows t x.rows

-- all accounts, at a moment
abbrev pub is_ruled_sweep : Names → Moment → List SweptAccount → Bool
is_ruled_sweep names t xs = is_moment t && list_all (is_ruled_swept names t) xs
