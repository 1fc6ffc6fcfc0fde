-- What is written of rows in their rules leaves content in its rules.
use Rattle.std.proofs.Common.{◌≡◌, ℕ, zero, suc, List, [], ◌∷◌, Bool, true, false, ◌&&◌, ◌||◌, Some}
use Rattle.std.proofs.Common.{None, Option, refl, subst, sym, ap, length, map, arith, ◌+◌, ◌++◌}
use Rattle.std.proofs.Common.{◌≤◌, ◌∙◌}
use Rattle.std.specs.Prelude.{is_some, option_map, slice_get, unwrap_or, nat_le, ◌==◌}
use Rattle.std.specs.Prelude.{if◌then◌else◌}
use Rattle.std.specs.List.{list_all, list_any}
use Rattle.std.proofs.lemmas.Bool.{and_from, and_parts}
use Rattle.std.proofs.lemmas.Bool.Decides.{nat_tests}
use Rattle.std.proofs.lemmas.List.{length-append, length-map}
use Rattle.tariffs.specs.Books.{Book}
use Rattle.voucher_rules.specs.declared.terms.VoucherTerms.{VoucherTerms}
use Rattle.voucher_rules.specs.Standing.{unspent}
use Rattle.shelves.specs.Shelves.{Shelf, count, dated_books, with_book}
use Rattle.shelves.specs.declared.dated.DatedBook.{DatedBook}
use Rattle.tariffs.specs.Names.{period_named}
use Rattle.calendar.specs.declared.week.Period.{Period}
use Rattle.buckets.specs.Row.{BucketRow}
use Rattle.buckets.specs.declared.holds.HeldAmount.{HeldAmount}
use Rattle.buckets.specs.declared.kind.BucketKind.{BucketKind}
use Rattle.buckets.specs.declared.kind.BucketKind.TheVariants.{Blocks, Money}
use Rattle.ledger.specs.Lists.{EachIn}
use Rattle.reserving.specs.Sessions.{holds_in}
use Rattle.reserving.specs.Stored.{StoredRows}
use Rattle.ledger.specs.declared.charge.ChargeRow.{ChargeRow}
use Rattle.reserving.specs.declared.session.Reservation.{Reservation}
use Rattle.reserving.specs.declared.session.Session.{Session}
use Rattle.reserving.specs.declared.session.SessionGroup.{SessionGroup}
use Rattle.commands.specs.Keys.{key_of}
use Rattle.commands.specs.declared.key.Key.{Key}
use Rattle.commands.specs.declared.key.Key.TheVariants.{Reference, Request}
use Rattle.keepers.specs.declared.kept_answer.KeptAnswer.{KeptAnswer}
use Rattle.keepers.specs.declared.loaded.Change.{Change}
use Rattle.keepers.specs.declared.loaded.Redeemed.{Redeemed}
use Rattle.sql_rows.specs.Content.{TablesContent, TableRows, with_account, with_bucket}
use Rattle.sql_rows.specs.Content.{with_charge_row}
use Rattle.sql_rows.specs.Content.{with_counter_row}
use Rattle.sql_rows.specs.Content.{with_group_row, with_hold_row, with_meta, with_rows}
use Rattle.sql_rows.specs.Content.{with_session_row}
use Rattle.sql_rows.specs.Content.{with_answer, with_covered, without_covered, without_holds}
use Rattle.sql_rows.specs.Each.{with_counters, with_each, with_sessions}
use Rattle.sql_rows.specs.Values.{Group, Kept, Meta, PeriodNames, plain_bucket, plain_charge}
use Rattle.sql_rows.specs.Values.{flag_number, reference_kind, request_kind}
use Rattle.sqlite.specs.Values.{or_null}
use Rattle.sqlite_value.specs.declared.value.Value.TheVariants.{Text}
use Rattle.sql_rules.specs.Columns.{are_some_blocks, is_moment, is_numbering, is_small}
use Rattle.sql_rules.specs.Columns.{is_in_bounds}
use Rattle.sql_rules.specs.Rules.{are_kept_texts, are_periods, has_period, is_answer_key}
use Rattle.sql_rules.specs.Rules.{is_period_name}
use Rattle.sql_rules.specs.Ruled.{AreInRules, IsInRules, IsInRulesBy, is_book, is_bucket, is_charge, is_counter}
use Rattle.sql_rules.specs.Ruled.{is_group, is_session, is_voucher}
use Rattle.sql_rules.proofs.Decoded.{are_named, periods_are}
use Rattle.sql_rules.proofs.KeptRules.{account_kept, allowance_gone, allowance_kept, answer_kept}
use Rattle.sql_rules.proofs.KeptRules.{book_kept, bucket_kept, charge_kept, counter_kept}
use Rattle.sql_rules.proofs.KeptRules.{covered_gone}
use Rattle.sql_rules.proofs.KeptRules.{covered_kept, grant_book_gone, grant_book_kept, group_kept}
use Rattle.sql_rules.proofs.KeptRules.{hold_kept, holds_gone, meta_kept, rows_kept, session_kept}
use Rattle.sql_rules.proofs.KeptRules.{later_kept, voucher_kept}
use Rattle.sql_keeper.specs.Content.{last_in, names_numbered, shelf_names}
use Rattle.sql_keeper.specs.RuledRows.{are_ruled_rows, are_ruled_texts, are_texts_under}
use Rattle.sql_keeper.specs.RuledRows.{are_timely_charges, are_timely_rows, are_timely_sessions}
use Rattle.sql_keeper.specs.RuledRows.{is_timely_change}
use Rattle.sql_keeper.specs.RuledRows.{is_ruled_addition, is_ruled_charge}
use Rattle.sql_keeper.specs.RuledRows.{is_ruled_change, is_ruled_sweep, is_ruled_swept}
use Rattle.sql_keeper.specs.RuledRows.{is_ruled_group, is_ruled_hold, is_ruled_key}
use Rattle.sql_keeper.specs.RuledRows.{is_ruled_kept, is_ruled_redeemed, is_ruled_reservation}
use Rattle.sql_keeper.specs.Tests.{AreWritable, MayStand}
use Rattle.sql_keeper.specs.AddsBook.{with_dated}
use Rattle.sql_keeper.specs.Additions.{with_addition}
use Rattle.sql_keeper.specs.Sweeps.{with_sweep, with_swept}
use Rattle.sql_keeper.specs.declared.swept_rows.SweptAccount.{SweptAccount}
use Rattle.sql_keeper.specs.Writes.{columns_of, head_columns_of, meta_at, names_held, voucher_row}
use Rattle.sql_keeper.specs.Writes.{with_all_counted, with_all_paid, with_blocks, with_book_of}
use Rattle.sql_keeper.specs.Writes.{with_change, with_counted, with_groups, with_held_group}
use Rattle.sql_keeper.specs.Writes.{with_kept, with_kind, with_paid, with_redeemed, with_scoped}
use Rattle.sql_keeper.specs.Writes.{with_stored, with_texts}
use Rattle.sql_keeper.proofs.rules.OwnBooks.{books_more}
use Rattle.sql_keeper.proofs.sweeps.Swept.{MayBePut}

-- ---- a list of rows

pub names_count : (shelf : Shelf) → length (shelf_names shelf) ≡ count shelf
names_count shelf =
    length-map (dated_books shelf) (λ (d : DatedBook). d.book.periods)

by_from : (n t : ℕ) → nat_le n t ≡ true → n ≤ t
by_from n t e = grind (arith, nat_tests, e)

at_most : (m n last : ℕ) → nat_le m n ≡ true → nat_le n last ≡ true → nat_le m last ≡ true
at_most m n last e f = grind (arith, nat_tests, e, f)

-- what is by one moment is by a later one
sooner : {A : Type 0} (of : A → ℕ) (n last : ℕ) (xs : List A) → nat_le n last ≡ true
    → list_all (λ x. nat_le (of x) n) xs ≡ true → list_all (λ x. nat_le (of x) last) xs ≡ true
sooner of n last [] by all = refl
sooner of n last (x ∷ xs) by all =
    let parts = and_parts (nat_le (of x) n) (list_all (λ y. nat_le (of y) n) xs) all in
    and_from (nat_le (of x) last) (list_all (λ y. nat_le (of y) last) xs)
    (at_most (of x) n last parts.0 by) (sooner of n last xs by parts.1)

each_of : {A : Type 0} (test : A → Bool) (xs : List A) → list_all test xs ≡ true
    → EachIn (λ x. test x ≡ true) xs
each_of test [] e = tt
each_of test (x ∷ xs) e =
    let parts = and_parts (test x) (list_all test xs) e in (parts.0, each_of test xs parts.1)

module _ (shelf : Shelf) (last : ℕ) where
  all_kept : {X : Type 0} (change : X → TablesContent → TablesContent) (test : X → Bool)
      → ((x : X) (c : TablesContent) → test x ≡ true → IsInRulesBy shelf last c →
      IsInRulesBy shelf last (change x c))
      → (xs : List X) (c : TablesContent) → list_all test xs ≡ true → IsInRulesBy shelf last c
      → IsInRulesBy shelf last (with_each change xs c)
  all_kept change test one [] c all in' = in'
  all_kept change test one (x ∷ xs) c all in' =
      let parts = and_parts (test x) (list_all test xs) all in
      all_kept change test one xs (change x c) parts.1 (one x c parts.0 in')

  each_kept : {X : Type 0} (change : X → TablesContent → TablesContent) (test : X → Bool)
      (P : X → Type 0)
      → ((x : X) (c : TablesContent) → test x ≡ true → P x → IsInRulesBy shelf last c
      → IsInRulesBy shelf last (change x c))
      → (xs : List X) (c : TablesContent) → list_all test xs ≡ true → EachIn P xs →
      IsInRulesBy shelf last c
      → IsInRulesBy shelf last (with_each change xs c)
  each_kept change test P one [] c all each in' = in'
  each_kept change test P one (x ∷ xs) c all each in' =
      let parts = and_parts (test x) (list_all test xs) all in
      each_kept change test P one xs (change x c) parts.1 each.1 (one x c parts.0 each.0 in')

  -- ---- moments

  abbrev IsTouchedBy : Session → Type 0
  IsTouchedBy x = nat_le x.touched last ≡ true

  abbrev IsChargedBy : ChargeRow → Type 0
  IsChargedBy x = nat_le x.moment last ≡ true

  -- ---- names of periods

  named_in : (ds : List DatedBook) (i : ℕ) (name : List ℕ) (p : Period)
      → period_named (unwrap_or (slice_get (map (λ (d : DatedBook). d.book.periods) ds) i) []) name
      ≡ Some p → list_any (has_period name) ds ≡ true
  named_in [] zero name p e = absurd (cc e)
  named_in [] (suc i) name p e = absurd (cc e)
  named_in (d ∷ ds) zero name p e =
      ap (λ o. is_some o || list_any (has_period name) ds) e
  named_in (d ∷ ds) (suc i) name p e = or_true (has_period name d) (named_in ds i name p e)
    where
      or_true : (a : Bool) {b : Bool} → b ≡ true → (a || b) ≡ true
      or_true true e = refl
      or_true false e = e

  name_known : (n : ℕ) (name : List ℕ) (p : Period)
      → period_named (names_numbered (shelf_names shelf) n) name ≡ Some p
      → is_period_name shelf name ≡ true
  name_known zero name p e = absurd (cc e)
  name_known (suc i) name p e = named_in (dated_books shelf) i name p e

  names_known : (sessions : List Session) (s : List ℕ) (o : Option Reservation)
      → MayStand (shelf_names shelf) sessions s o
      → are_named shelf (option_map (names_held (shelf_names shelf)) o) ≡ true
  names_known sessions s None may = refl
  names_known sessions s (Some x) may =
      and_from _ _ (name_known x.terms.book _ _ may.before) (name_known x.terms.book _ _ may.after)

  -- ---- the rows of an account

  module _ (a : List ℕ) where
    scoped_kept : (o : Option ℕ) (k : BucketKind) (n : ℕ) (c : TablesContent) →
        is_numbering n ≡ true
        → IsInRulesBy shelf last c → IsInRulesBy shelf last (with_scoped a o k n c)
    scoped_kept None k n c rule in' = in'
    scoped_kept (Some g) Money n c rule in' =
        rows_kept shelf c in' a (with_kind Money n)
        (allowance_gone shelf a (c.rows a) (in'.rows a) n)
    scoped_kept (Some g) Blocks n c rule in' =
        rows_kept shelf c in' a (with_kind Blocks n)
        (allowance_kept shelf a (c.rows a) (in'.rows a) n rule)

    first_of_five : (p q r s t : Bool) → (p && q && r && s && t) ≡ true → p ≡ true
    first_of_five true q r s t h = refl
    first_of_five false q r s t h = absurd (cc h)

    counted_kept : (b : BucketRow) (c : TablesContent) → is_bucket b ≡ true → IsInRulesBy shelf last c
        → IsInRulesBy shelf last (with_counted a b c)
    counted_kept b c rule in' =
        scoped_kept b.scope b.kind b.number (with_rows a (with_bucket (plain_bucket b)) c)
        (first_of_five (is_numbering b.number) _ _ _ _ rule)
        (rows_kept shelf c in' a (with_bucket (plain_bucket b))
        (bucket_kept shelf a (c.rows a) (in'.rows a) (plain_bucket b) rule))

    book_of_kept : (s : List ℕ) (g : ℕ) (o : Option Reservation) (c : TablesContent)
        → is_ruled_reservation (shelf_names shelf) o ≡ true → IsInRulesBy shelf last c
        → IsInRulesBy shelf last (with_rows a (with_book_of s g o) c)
    book_of_kept s g None c rule in' =
        rows_kept shelf c in' a (with_book_of s g None)
        (grant_book_gone shelf a (c.rows a) (in'.rows a) s g)
    book_of_kept s g (Some x) c rule in' =
        rows_kept shelf c in' a (with_book_of s g (Some x))
        (grant_book_kept shelf a (c.rows a) (in'.rows a) s g x.terms.book
        (subst (λ n. is_in_bounds 1 n x.terms.book ≡ true) (names_count shelf)
        (and_parts (is_in_bounds 1 (length (shelf_names shelf)) x.terms.book)
        (list_all is_ruled_hold x.holds) rule).0))

    holds_ruled : (o : Option Reservation) → is_ruled_reservation (shelf_names shelf) o ≡ true →
        list_all is_ruled_hold (holds_in o) ≡ true
    holds_ruled None rule = refl
    holds_ruled (Some x) rule =
        (and_parts (is_in_bounds 1 (length (shelf_names shelf)) x.terms.book)
        (list_all is_ruled_hold x.holds) rule).1

    held_kept : (sessions : List Session) (x : SessionGroup) (c : TablesContent)
        → is_ruled_group (shelf_names shelf) x ≡ true
        → MayStand (shelf_names shelf) sessions x.session x.reservation → IsInRulesBy shelf last c
        → IsInRulesBy shelf last (with_held_group a (shelf_names shelf) x c)
    held_kept sessions x c rule may in' =
        let s = x.session in
        let g = x.group in
        let parts = and_parts (is_small g && nat_le x.used 1_000_000_000_000_000_000)
        (is_ruled_reservation (shelf_names shelf) x.reservation) rule in
        let row = columns_of (shelf_names shelf) x in
        let grouped = with_rows a (with_group_row s g row) c in
        let one : IsInRulesBy shelf last grouped = rows_kept shelf c in' a (with_group_row s g row)
        (group_kept shelf a (c.rows a) (in'.rows a) s g row
        (and_from _ _ parts.0 (periods_are shelf row.periods
        ∙ names_known sessions s x.reservation may))) in
        let booked = with_rows a (with_book_of s g x.reservation) grouped in
        let two : IsInRulesBy shelf last booked = book_of_kept s g x.reservation grouped parts.1 one in
        let freed = with_rows a (without_holds s g) booked in
        let three : IsInRulesBy shelf last freed = rows_kept shelf booked two a (without_holds s g)
        (holds_gone shelf a (booked.rows a) (two.rows a) s g) in
        all_kept (λ (h : HeldAmount). with_rows a (with_hold_row s g h.bucket h.amount))
        is_ruled_hold
        (λ h d some so. rows_kept shelf d so a (with_hold_row s g h.bucket h.amount)
        (hold_kept shelf a (d.rows a) (so.rows a) s g h.bucket h.amount some))
        (holds_in x.reservation) freed (holds_ruled x.reservation parts.1) three

    stored_kept : (among : List Session) (w : StoredRows) (c : TablesContent)
        → are_ruled_rows (shelf_names shelf) a w ≡ true → are_timely_rows last w ≡ true
        → AreWritable (shelf_names shelf) among w.groups → IsInRulesBy shelf last c
        → IsInRulesBy shelf last (with_stored a (shelf_names shelf) w c)
    stored_kept among w c rule early may in' =
        let own = and_parts (nat_le w.as_of last) (are_timely_sessions w.as_of w.sessions) early in
        let touched : are_timely_sessions last w.sessions ≡ true =
        sooner (λ (x : Session). x.touched) w.as_of last w.sessions own.0 own.1 in
        let groups = and_parts _ (list_all (is_ruled_group (shelf_names shelf)) w.groups) rule in
        let sessions = and_parts _ (list_all is_session w.sessions) groups.0 in
        let counters = and_parts _ (list_all is_counter w.counters) sessions.0 in
        let buckets = and_parts _ (list_all is_bucket w.buckets) counters.0 in
        each_kept (with_held_group a (shelf_names shelf)) (is_ruled_group (shelf_names shelf))
        (λ (x : SessionGroup).
        MayStand (shelf_names shelf) among x.session x.reservation)
        (held_kept among) w.groups _ groups.1 may
        (each_kept (λ x. with_rows a (with_session_row x)) is_session IsTouchedBy
        (λ x d some early so. rows_kept shelf d so a (with_session_row x)
        (session_kept shelf a (d.rows a) (so.rows a) x some (by_from x.touched last early)))
        w.sessions _ sessions.1 (each_of (λ (x : Session). nat_le x.touched last) w.sessions touched)
        (all_kept (λ x. with_rows a (with_counter_row x)) is_counter
        (λ x d some so. rows_kept shelf d so a (with_counter_row x)
        (counter_kept shelf a (d.rows a) (so.rows a) x some)) w.counters _ counters.1
        (all_kept (with_counted a) is_bucket counted_kept w.buckets _ buckets.1
        (account_kept shelf c in' a (head_columns_of w) buckets.0 (by_from w.as_of last own.0)))))

    -- the same with the head put last
    swept_kept : (among : List Session) (w : StoredRows) (c : TablesContent)
        → are_ruled_rows (shelf_names shelf) a w ≡ true → are_timely_rows last w ≡ true
        → AreWritable (shelf_names shelf) among w.groups → IsInRulesBy shelf last c
        → IsInRulesBy shelf last (with_account a (head_columns_of w)
        (with_groups a (shelf_names shelf) w.groups
        (with_sessions a w.sessions (with_counters a w.counters
        (with_all_counted a w.buckets c)))))
    swept_kept among w c rule early may in' =
        let own = and_parts (nat_le w.as_of last) (are_timely_sessions w.as_of w.sessions) early in
        let touched : are_timely_sessions last w.sessions ≡ true =
        sooner (λ (x : Session). x.touched) w.as_of last w.sessions own.0 own.1 in
        let groups = and_parts _ (list_all (is_ruled_group (shelf_names shelf)) w.groups) rule in
        let sessions = and_parts _ (list_all is_session w.sessions) groups.0 in
        let counters = and_parts _ (list_all is_counter w.counters) sessions.0 in
        let buckets = and_parts _ (list_all is_bucket w.buckets) counters.0 in
        account_kept shelf _ (each_kept (with_held_group a (shelf_names shelf))
        (is_ruled_group (shelf_names shelf))
        (λ (x : SessionGroup).
        MayStand (shelf_names shelf) among x.session x.reservation)
        (held_kept among) w.groups _ groups.1 may
        (each_kept (λ x. with_rows a (with_session_row x)) is_session IsTouchedBy
        (λ x d some early so. rows_kept shelf d so a (with_session_row x)
        (session_kept shelf a (d.rows a) (so.rows a) x some (by_from x.touched last early)))
        w.sessions _ sessions.1 (each_of (λ (x : Session). nat_le x.touched last) w.sessions touched)
        (all_kept (λ x. with_rows a (with_counter_row x)) is_counter
        (λ x d some so. rows_kept shelf d so a (with_counter_row x)
        (counter_kept shelf a (d.rows a) (so.rows a) x some)) w.counters _ counters.1
        (all_kept (with_counted a) is_bucket counted_kept w.buckets c buckets.1 in'))))
        a (head_columns_of w) buckets.0 (by_from w.as_of last own.0)

    -- ---- charges, texts, vouchers

    some_blocks : (m : ℕ) → (m == 0) ≡ false → nat_le m 1_000_000_000 ≡ true →
        are_some_blocks m ≡ true
    some_blocks m e most = and_from (nat_le 1 m) (nat_le m 1_000_000_000) least most
      where
        least : nat_le 1 m ≡ true
        least = grind (arith, nat_tests, e)

    blocks_kept : (n m : ℕ) (c : TablesContent) → nat_le m 1_000_000_000 ≡ true
        → IsInRulesBy shelf last c → IsInRulesBy shelf last (with_rows a (with_blocks n m) c)
    blocks_kept n m c most in' = at (m == 0) refl
      where
        at : (t : Bool) → (m == 0) ≡ t → IsInRulesBy shelf last (with_rows a (λ r. if t
            then without_covered n r
            else with_covered (record { number = n; blocks = m }) r) c)
        at true e = rows_kept shelf c in' a (without_covered n)
            (covered_gone shelf a (c.rows a) (in'.rows a) n)
        at false e = rows_kept shelf c in' a (with_covered (record { number = n; blocks = m }))
            (covered_kept shelf a (c.rows a) (in'.rows a) (record { number = n; blocks = m })
            (some_blocks m e most))

    paid_kept : (x : ChargeRow) (c : TablesContent) → is_ruled_charge x ≡ true
        → nat_le x.moment last ≡ true → IsInRulesBy shelf last c → IsInRulesBy shelf last (with_paid a x c)
    paid_kept x c rule early in' =
        let parts = and_parts (is_charge x) (nat_le x.covered.0 1_000_000_000) rule in
        blocks_kept x.number x.covered.0 (with_rows a (with_charge_row (plain_charge x)) c) parts.1
        (rows_kept shelf c in' a (with_charge_row (plain_charge x))
        (charge_kept shelf a (c.rows a) (in'.rows a) (plain_charge x) parts.0
        (by_from x.moment last early)))

    all_paid_kept : (xs : List ChargeRow) (c : TablesContent) → list_all is_ruled_charge xs ≡ true
        → are_timely_charges last xs ≡ true → IsInRulesBy shelf last c
        → IsInRulesBy shelf last (with_all_paid a xs c)
    all_paid_kept xs c rule early =
        each_kept (with_paid a) is_ruled_charge IsChargedBy paid_kept xs c rule
        (each_of (λ (x : ChargeRow). nat_le x.moment last) xs early)

    texts_kept : (key : Key) (t : Kept) (c : TablesContent) → is_ruled_key key ≡ true
        → are_texts_under key a t ≡ true → IsInRulesBy shelf last c
        → IsInRulesBy shelf last (with_texts a key t c)
    texts_kept (Request s n) t c key texts in' =
        rows_kept shelf c in' a (with_answer request_kind s n t)
        (answer_kept shelf a (c.rows a) (in'.rows a) request_kind s n t
        (and_from (is_answer_key request_kind s n)
        (are_kept_texts request_kind s n a t.content t.answer) key texts))
    texts_kept (Reference x) t c key texts in' =
        rows_kept shelf c in' a (with_answer reference_kind x 0 t)
        (answer_kept shelf a (c.rows a) (in'.rows a) reference_kind x 0 t
        (and_from (is_answer_key reference_kind x 0)
        (are_kept_texts reference_kind x 0 a t.content t.answer) key texts))

    kept_kept : (kept : Option KeptAnswer) (texts : Option Kept) (c : TablesContent)
        → is_ruled_kept kept ≡ true → are_ruled_texts a kept texts ≡ true → IsInRulesBy shelf last c
        → IsInRulesBy shelf last (with_kept a kept texts c)
    kept_kept None texts c key rule in' = in'
    kept_kept (Some k) None c key rule in' = in'
    kept_kept (Some k) (Some t) c key rule in' =
        texts_kept (key_of k.content) t c key rule in'

  redeemed_kept : (o : Option Redeemed) (c : TablesContent) → is_ruled_redeemed o ≡ true
      → IsInRulesBy shelf last c → IsInRulesBy shelf last (with_redeemed o c)
  redeemed_kept None c rule in' = in'
  redeemed_kept (Some r) c rule in' = voucher_kept shelf c in' r.code (voucher_row r.voucher) rule

  -- ---- all of a change

  none_there : {A : Type 0} (t : Bool) → t ≡ true → t ≡ false → A
  none_there true e f = absurd (cc f)
  none_there false e f = absurd (cc e)

  change_kept : (m : Meta) (change : Change) (texts : Option Kept) (c : TablesContent)
      → change.moment ≡ last → m.last ≡ change.moment → is_ruled_change (shelf_names shelf) change ≡ true
      → are_ruled_texts change.number change.kept texts ≡ true
      → AreWritable (shelf_names shelf) change.rows.sessions change.rows.groups
      → is_some c.meta ≡ true → IsInRulesBy shelf last c
      → IsInRulesBy shelf last (with_change (shelf_names shelf) m change texts c)
  change_kept m change texts c now kept_last rule told may there in' =
      let all = and_parts _ (is_timely_change change) rule in
      let times = and_parts (are_timely_rows change.moment change.rows)
      (are_timely_charges change.rows.as_of change.charges.items) all.1 in
      let early = and_parts (nat_le change.rows.as_of change.moment)
      (are_timely_sessions change.rows.as_of change.rows.sessions) times.0 in
      let kept = and_parts _ (is_ruled_kept change.kept) all.0 in
      let redeemed = and_parts _ (is_ruled_redeemed change.redeemed) kept.0 in
      let charges = and_parts _ (list_all is_ruled_charge change.charges.items) redeemed.0 in
      let rows = and_parts (is_moment change.moment)
      (are_ruled_rows (shelf_names shelf) change.number change.rows) charges.0 in
      redeemed_kept change.redeemed _ redeemed.1
      (kept_kept change.number change.kept texts _ kept.1 told
      (all_paid_kept change.number change.charges.items _ charges.1
      (sooner (λ (x : ChargeRow). x.moment) change.rows.as_of last change.charges.items
      (subst (λ n. nat_le change.rows.as_of n ≡ true) now early.0) times.1)
      (stored_kept change.number change.rows.sessions change.rows (with_meta m c) rows.1
      (subst (λ n. are_timely_rows n change.rows ≡ true) now times.0) may
      (meta_kept shelf c in' m (subst (λ n. is_moment n ≡ true) (sym kept_last) rows.0)
      (λ none. none_there (is_some c.meta) there none)))))

  -- ---- a voucher, a sweep

  addition_kept : (text code : List ℕ) (terms : VoucherTerms) (c : TablesContent)
      → is_ruled_addition code terms last ≡ true → is_some c.meta ≡ true → IsInRulesBy shelf last c
      → IsInRulesBy shelf last (with_addition text code terms last c)
  addition_kept text code terms c rule there in' =
      let parts = and_parts (is_moment last) (is_voucher code (voucher_row (unspent terms))) rule in
      voucher_kept shelf (with_meta (meta_at text last) c)
      (meta_kept shelf c in' (meta_at text last) parts.0
      (λ none. none_there (is_some c.meta) there none)) code (voucher_row (unspent terms)) parts.1

  sweep_kept : (text : List ℕ) (xs : List SweptAccount) (c : TablesContent)
      → is_ruled_sweep (shelf_names shelf) last xs ≡ true
      → EachIn (MayBePut (shelf_names shelf)) xs → is_some c.meta ≡ true → IsInRulesBy shelf last c
      → IsInRulesBy shelf last (with_sweep (shelf_names shelf) text last xs c)
  sweep_kept text xs c rule may there in' =
      let parts = and_parts (is_moment last) (list_all (is_ruled_swept (shelf_names shelf) last) xs) rule in
      each_kept (with_swept (shelf_names shelf)) (is_ruled_swept (shelf_names shelf) last)
      (MayBePut (shelf_names shelf))
      (λ x d rule own so.
      let both = and_parts (are_ruled_rows (shelf_names shelf) x.number x.rows)
      (are_timely_rows last x.rows) rule in
      swept_kept x.number own.among x.rows d both.0 both.1 own.may so) xs
      (with_meta (meta_at text last) c) parts.1 may
      (meta_kept shelf c in' (meta_at text last) parts.0
      (λ none. none_there (is_some c.meta) there none))

-- ---- what the last moment of the content becomes

module _ (shelf : Shelf) (c : TablesContent) (there : is_some c.meta ≡ true)
    (in' : IsInRules shelf c) where
  -- rule: rows-ruled.ruled-change, rows-ruled.timely
  pub change_ruled : (m : Meta) (change : Change) (texts : Option Kept)
      → m.last ≡ change.moment → last_in c.meta ≤ change.moment
      → is_ruled_change (shelf_names shelf) change ≡ true
      → are_ruled_texts change.number change.kept texts ≡ true
      → AreWritable (shelf_names shelf) change.rows.sessions change.rows.groups
      → IsInRulesBy shelf change.moment (with_change (shelf_names shelf) m change texts c)
  change_ruled m change texts last later rule told may =
      change_kept shelf change.moment m change texts c refl last rule told may there
      (later_kept shelf (last_in c.meta) change.moment c later in'.each)

  -- rule: rows-ruled.ruled-change, rows-ruled.timely
  pub addition_ruled : (text code : List ℕ) (terms : VoucherTerms) (t : ℕ) → last_in c.meta ≤ t
      → is_ruled_addition code terms t ≡ true
      → IsInRulesBy shelf t (with_addition text code terms t c)
  addition_ruled text code terms t later rule =
      addition_kept shelf t text code terms c rule there
      (later_kept shelf (last_in c.meta) t c later in'.each)

  -- rule: rows-ruled.ruled-change, rows-ruled.timely
  pub sweep_ruled : (text : List ℕ) (t : ℕ) (xs : List SweptAccount) → last_in c.meta ≤ t
      → is_ruled_sweep (shelf_names shelf) t xs ≡ true
      → EachIn (MayBePut (shelf_names shelf)) xs
      → IsInRulesBy shelf t (with_sweep (shelf_names shelf) text t xs c)
  sweep_ruled text t xs later rule may =
      sweep_kept shelf t text xs c rule may there
      (later_kept shelf (last_in c.meta) t c later in'.each)

-- ---- a book more

any_more : {A : Type 0} (test : A → Bool) (xs ys : List A) → list_any test xs ≡ true
    → list_any test (xs ++ ys) ≡ true
any_more test [] ys e = absurd (cc e)
any_more test (x ∷ xs) ys e = at (test x) e (any_more test xs ys)
  where
    at : (b : Bool) → (b || list_any test xs) ≡ true
        → (list_any test xs ≡ true → list_any test (xs ++ ys) ≡ true)
        → (b || list_any test (xs ++ ys)) ≡ true
    at true h more = refl
    at false h more = more h

module _ (shelf : Shelf) (from : ℕ) (b : Book) where
  more_names : (name : List ℕ) → is_period_name shelf name ≡ true →
      is_period_name (with_book shelf from b) name ≡ true
  more_names name e =
      any_more (has_period name) (dated_books shelf) (record { from = from; book = b } ∷ []) e

  more_named : (o : Option PeriodNames) → are_named shelf o ≡ true →
      are_named (with_book shelf from b) o ≡ true
  more_named None e = refl
  more_named (Some p) e =
      let parts = and_parts (is_period_name shelf p.before) (is_period_name shelf p.after) e in
      and_from _ _ (more_names p.before parts.0) (more_names p.after parts.1)

  more_group : (g : ℕ) (x : Group) → is_group shelf g x ≡ true →
      is_group (with_book shelf from b) g x ≡ true
  more_group g x e =
      let parts = and_parts (is_small g && nat_le x.used 1_000_000_000_000_000_000)
      (are_periods shelf (flag_number (is_some x.periods))
      (or_null (λ (p : PeriodNames). Text p.before) x.periods)
      (or_null (λ (p : PeriodNames). Text p.after) x.periods)) e in
      and_from _ _ parts.0 (periods_are (with_book shelf from b) x.periods
      ∙ more_named x.periods (sym (periods_are shelf x.periods) ∙ parts.1))

  counts_more : count shelf ≤ count (with_book shelf from b)
  counts_more =
      let more : List DatedBook = record { from = from; book = b } ∷ [] in
      let is : length (shelf.later ++ more) ≡ length shelf.later + 1 =
      length-append shelf.later more in
      omega (arith, is)

  within_more : (low m n k : ℕ) → m ≤ n → is_in_bounds low m k ≡ true → is_in_bounds low n k ≡ true
  within_more low m n k less e = grind (arith, nat_tests, less, e)

  more_rows : {last : ℕ} (a : List ℕ) (r : TableRows) → AreInRules shelf last a r →
      AreInRules (with_book shelf from b) last a r
  more_rows a r in' = record {
    timely = in'.timely;
    head = in'.head;
    buckets = in'.buckets;
    counters = in'.counters;
    sessions = in'.sessions;
    groups = λ s g x e. more_group g x (in'.groups s g x e);
    holds = in'.holds;
    answers = in'.answers;
    charges = in'.charges;
    grant_books = λ s g n e.
        within_more 1 (count shelf) (count (with_book shelf from b)) n counts_more
        (in'.grant_books s g n e);
    allowances = in'.allowances;
    covered = in'.covered;
  }

  -- rule: rows-ruled.ruled-change
  pub dated_kept : (n : ℕ) (text : List ℕ) (c : TablesContent)
      → is_book n (record { starts = from; content = text }) ≡ true → IsInRules shelf c
      → IsInRules (with_book shelf from b) (with_dated n from text c)
  dated_kept n text c rule in' = record {
    each = book_kept (with_book shelf from b) c (record {
      once = in'.each.once;
      meta = in'.each.meta;
      rows = λ a. more_rows a (c.rows a) (in'.each.rows a);
      vouchers = in'.each.vouchers;
      books = in'.each.books;
    }) n (record { starts = from; content = text }) rule;
    beside = in'.beside;
    granted = λ a. books_more shelf from b (c.rows a) (in'.granted a);
  }
