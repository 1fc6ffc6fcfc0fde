-- What is printed of an account's month is its ledger's.
use Rattle.std.proofs.Common.{◌≡◌, ℕ, true, false, List, Option, None, Some, refl, sym, ap}
use Rattle.std.proofs.Common.{subst, ◌∙◌, ◌≤◌, Result, Ok, Err, arith, inl, inr}
use Rattle.std.specs.Prelude.{if◌then◌else◌, IfOk, OnErr, OnOk}
use Rattle.std.specs.Io.KnownBytes.{Appends}
use Rattle.buckets.specs.Row.{BucketRow}
use Rattle.tariffs.specs.Books.{Book}
use Rattle.shelves.specs.Shelves.{Shelf}
use Rattle.ledger.specs.ChargeColumns.{ChargeColumns}
use Rattle.ledger.specs.Charges.{charge_rows}
use Rattle.keepers.specs.Seen.{Seen}
use Rattle.keepers.specs.Tables.{Tables}
use Rattle.keepers.specs.declared.fault.StoreFault.TheVariants as store
use Rattle.charging.specs.Accepted.{Accepted}
use Rattle.charging.specs.Histories.{History}
use Rattle.charging.specs.Served.{AreTables, history, moment_of}
use Rattle.charging.specs.States.{IsState, IsStateAt, TellsState}
use Rattle.charging.specs.declared.balances.AccountState.{AccountState}
use Rattle.keepers.specs.Rows.{AreCharges}
use Rattle.keepers.proofs.Numbered.{charges_rise}
use Rattle.statements.specs.Charges.{AsksSource, WritesAll, WritesSome}
use Rattle.statements.specs.Texts.{WritesBeginning, export_text, statement_text}
use Rattle.statements.specs.declared.fault.StatementFault.{StatementFault}
use Rattle.statements.specs.declared.fault.StatementFault.TheVariants as statement
use Rattle.operations.specs.Months.{BeginsMonth, IsMonthTold, OnlyReadsMonth, PrintsMonth}
use Rattle.operations.specs.Months.{WritesAndEnds}
use Rattle.operations.specs.Months.{ledger_text, month_ended}
use Rattle.operations.specs.Months.{month_status, month_text, month_rows_text, unknown_line}
use Rattle.operations.specs.Printed.{IsEnded}
use Rattle.operations.specs.declared.fault.OfficeFault.{OfficeFault}
use Rattle.operations.specs.declared.fault.OfficeFault.TheVariants.{Store}
use Rattle.operations.specs.declared.stating.MonthQuery.{MonthQuery}
use Rattle.operations.specs.declared.status.Status.{Status}
use Rattle.operations.specs.declared.status.Status.TheVariants.{Done, Failed}

-- ---- charges and buckets

-- the charges of the tables are those of the ledger
are_charges : (b : Shelf) (a : List ℕ) (list : List Accepted) (tables : Tables) →
    AreTables b list tables →
    AreCharges (tables.charges a) (charge_rows (history b a list).ledger)
are_charges b a list tables h =
    record { rising = charges_rise (history b a list).ledger; listed = λ n. sym (h.charges a n) }

-- one form of the text or the other
pub as_csv : (b : Shelf) (first : Book) (q : MonthQuery) (t : ℕ) (buckets : List BucketRow)
    (charges : List ChargeColumns) → first ≡ b.first → q.csv ≡ true →
    export_text first q.month charges ≡ month_rows_text b q t charges buckets
as_csv b first q t buckets charges of_shelf is =
    ap (λ (x : Book). export_text x q.month charges) of_shelf
    ∙ sym (ap (λ v. if v then export_text b.first q.month charges
    else statement_text b.first q.account q.month t charges buckets) is)

pub as_lines : (b : Shelf) (first : Book) (q : MonthQuery) (t : ℕ) (shown buckets : List BucketRow)
    (charges : List ChargeColumns) → first ≡ b.first → q.csv ≡ false → shown ≡ buckets →
    statement_text first q.account q.month t charges shown ≡ month_rows_text b q t charges buckets
as_lines b first q t shown buckets charges of_shelf is same =
    (λ i. statement_text (of_shelf i) q.account q.month t charges (same i))
    ∙ sym (ap (λ v. if v then export_text b.first q.month charges
    else statement_text b.first q.account q.month t charges buckets) is)

-- another form of the text is written where it is the same
pub writes_as : {T : Type 0} (charges : ℕ → Option ChargeColumns) (old new : Option (List ℕ))
    (f g : List ChargeColumns → List ℕ) (r : Result T StatementFault) →
    ((rows : List ChargeColumns) → f rows ≡ g rows) → WritesAll charges old new f r →
    WritesAll charges old new g r
writes_as charges old new f g (Ok x) same w = record {
  whole = λ rows are. subst (Appends old new) (same rows) (w.whole rows are);
  beginning = λ rows are. tt;
}
writes_as charges old new f g (Err e) same w = record {
  whole = λ rows are. tt;
  beginning = λ rows are. subst (WritesBeginning old new) (same rows) (w.beginning rows are);
}

pub some_as : {T : Type 0} (old new : Option (List ℕ)) (f g : List ChargeColumns → List ℕ)
    (r : Result T StatementFault) → ((rows : List ChargeColumns) → f rows ≡ g rows) →
    WritesSome old new f r → WritesSome old new g r
some_as old new f g (Ok x) same w = record {
  rows = w.rows;
  whole = subst (Appends old new) (same w.rows) w.whole;
  beginning = tt;
}
some_as old new f g (Err e) same w = record {
  rows = w.rows;
  whole = tt;
  beginning = subst (WritesBeginning old new) (same w.rows) w.beginning;
}

-- ---- what is written

pub tells_ended : {T : Type 0} (charges : ℕ → Option ChargeColumns) (old new : Option (List ℕ))
    (text : List ChargeColumns → List ℕ) (r : Result T StatementFault) →
    WritesAll charges old new text r → (rows : List ChargeColumns) → AreCharges charges rows →
    WritesAndEnds Done old new (text rows) (month_ended r)
tells_ended charges old new text (Ok x) w rows are =
    record { whole = (refl, w.whole rows are); beginning = tt }
tells_ended charges old new text (Err e) w rows are =
    record { whole = tt; beginning = w.beginning rows are }

done : {T : Type 0} (r : Result T StatementFault) (Refused : Type 0) →
    IfOk (month_ended r) (IsEnded Refused)
done (Ok x) Refused = tt
done (Err e) Refused = tt

pub ended_done : {T : Type 0} (r : Result T StatementFault) (result : Result Status OfficeFault)
    (Refused : Type 0) → result ≡ month_ended r → IfOk result (IsEnded Refused)
ended_done r result Refused is =
    subst (λ (x : Result Status OfficeFault). IfOk x (IsEnded Refused)) (sym is) (done r Refused)

-- ---- what is written, whatever a keeper holds

module _ (b : Shelf) (q : MonthQuery) (t : ℕ) (buckets : List BucketRow)
    (old new : Option (List ℕ)) where
  abbrev Text : List ChargeColumns → List ℕ
  Text rows = month_rows_text b q t rows buckets

  prints : {T : Type 0} (r : Result T StatementFault) → WritesSome old new Text r →
      IfOk (month_ended r) (PrintsMonth b q old new)
  prints (Ok x) w =
      record { moment = t; charges = w.rows; buckets = buckets; written = w.whole }
  prints (Err e) w = tt

  begins : {T : Type 0} (r : Result T StatementFault) → WritesSome old new Text r →
      OnErr (month_ended r) (BeginsMonth b q old new)
  begins (Ok x) w = tt
  begins (Err e) w = inl (record {
    moment = t;
    charges = w.rows;
    buckets = buckets;
    written = w.beginning;
  })

  -- rule: statement.month-told
  pub some_printed : {T : Type 0} (r : Result T StatementFault)
      (result : Result Status OfficeFault) → result ≡ month_ended r → WritesSome old new Text r →
      IfOk result (PrintsMonth b q old new)
  some_printed r result is w =
      subst (λ (x : Result Status OfficeFault). IfOk x (PrintsMonth b q old new)) (sym is)
      (prints r w)

  pub some_begun : {T : Type 0} (r : Result T StatementFault)
      (result : Result Status OfficeFault) → result ≡ month_ended r → WritesSome old new Text r →
      OnErr result (BeginsMonth b q old new)
  some_begun r result is w =
      subst (λ (x : Result Status OfficeFault). OnErr x (BeginsMonth b q old new)) (sym is)
      (begins r w)

-- that there is no such account
pub unknown_printed : (b : Shelf) (q : MonthQuery) (old new : Option (List ℕ))
    (r : Result Status OfficeFault) → WritesAndEnds Failed old new unknown_line r →
    IfOk r (PrintsMonth b q old new)
unknown_printed b q old new (Ok status) h =
    subst (PrintsMonth b q old new) (sym h.whole.0) h.whole.1
unknown_printed b q old new (Err f) h = tt

pub unknown_begun : (b : Shelf) (q : MonthQuery) (old new : Option (List ℕ))
    (r : Result Status OfficeFault) → WritesAndEnds Failed old new unknown_line r →
    OnErr r (BeginsMonth b q old new)
unknown_begun b q old new (Ok status) h = tt
unknown_begun b q old new (Err f) h = inr h.beginning

-- nothing is a beginning
pub nothing_begun : (b : Shelf) (q : MonthQuery) (old : Option (List ℕ)) →
    ((text : List ℕ) → WritesBeginning old old text) → BeginsMonth b q old old
nothing_begun b q old none = inr (none unknown_line)

-- ---- what is read

store_failed : {T : Type 0} (r : Result T StatementFault) →
    month_ended r ≡ Err (Store store.Store) → r ≡ Err statement.Store
store_failed (Ok x) is = absurd (cc)
store_failed (Err statement.Memory) is = absurd (cc)
store_failed (Err statement.Store) is = refl
store_failed (Err statement.Write) is = absurd (cc)

-- asked after a read, the source is as it was
pub reads_asked : {T : Type 0} (old mid new : Seen) (r : Result T StatementFault) →
    (mid.clean → mid.tables ≡ old.tables) →
    (mid.honest → (tables : Tables) → mid.left tables → old.left tables) →
    (mid.clean → old.clean) → (mid.honest → old.honest) → old.failed ≤ mid.failed →
    AsksSource mid new r → OnlyReadsMonth old new (month_ended r)
reads_asked old mid new r same left cleanness honesty kept asks = record {
  same = λ whole. asks.same whole ∙ same (asks.cleanness whole);
  left = λ honest tables found.
      left (asks.honesty honest) tables (asks.left honest tables found);
  cleanness = λ whole. cleanness (asks.cleanness whole);
  honesty = λ honest. honesty (asks.honesty honest);
  kept = omega (arith, kept, asks.kept);
  cause = λ is.
      let raised = asks.cause (store_failed r is) in
      omega (arith, kept, raised);
}

-- a month that ends well was asked of a source that can still be asked
pub ended_stands : {T : Type 0} (r : Result T StatementFault) (Clean : Type 0) → OnOk r Clean →
    OnOk (month_ended r) Clean
ended_stands (Ok x) Clean clean = clean
ended_stands (Err fault) Clean clean = tt

-- ---- by the ledger

module _ (b : Shelf) (q : MonthQuery) (t : ℕ) (old : Tables) (before after : Option (List ℕ)) where
  -- of an account whose state was found
  text_is : (list : List Accepted) (s : AccountState) → (history b q.account list).opened ≡ true →
      IsStateAt b (moment_of list t) (history b q.account list).ledger s →
      month_rows_text b q s.moment (charge_rows (history b q.account list).ledger) s.buckets.items
      ≡ month_text b q (moment_of list t) (history b q.account list)
  text_is list s opened is =
      let h : History = history b q.account list in
      (λ i. month_rows_text b q (is.moment i) (charge_rows h.ledger) (is.buckets i))
      ∙ sym (ap (λ v. if v then ledger_text b q (moment_of list t) h.ledger
      else unknown_line) opened)

  -- rule: statement.month-told
  pub month_told : (found : Option AccountState) (s : AccountState) (mid : Tables)
      (r : Result Status OfficeFault) →
      TellsState b q.account t old found → found ≡ Some s → mid ≡ old →
      ((rows : List ChargeColumns) → AreCharges (mid.charges q.account) rows →
      WritesAndEnds Done before after (month_rows_text b q s.moment rows s.buckets.items) r) →
      IsMonthTold b q t old before after r
  month_told found s mid r states is same told = λ list time tables.
      let h : History = history b q.account list in
      let state : IsState b (moment_of list t) h (Some s) =
      subst (λ (o : Option AccountState). IsState b (moment_of list t) h o) is
      (states list time tables) in
      let ends : Done ≡ month_status h = sym (ap (λ v. if v then Done else Failed) state.0) in
      let written : WritesAndEnds Done before after
      (month_rows_text b q s.moment (charge_rows h.ledger) s.buckets.items) r =
      told (charge_rows h.ledger)
      (subst (λ (x : Tables). AreCharges (x.charges q.account) (charge_rows h.ledger)) (sym same)
      (are_charges b q.account list old tables)) in
      subst (λ (e : Status). WritesAndEnds e before after (month_text b q (moment_of list t) h) r)
      ends
      (subst (λ l. WritesAndEnds Done before after l r) (text_is list s state.0 state.1) written)

  -- of one that isn't there
  -- rule: statement.month-told
  pub unknown_told : (found : Option AccountState) (r : Result Status OfficeFault) →
      TellsState b q.account t old found → found ≡ None →
      WritesAndEnds Failed before after unknown_line r →
      IsMonthTold b q t old before after r
  unknown_told found r states is told = λ list time tables.
      let h : History = history b q.account list in
      let closed : h.opened ≡ false =
      subst (λ (o : Option AccountState). IsState b (moment_of list t) h o) is
      (states list time tables) in
      let ends : Failed ≡ month_status h = sym (ap (λ v. if v then Done else Failed) closed) in
      let text : unknown_line ≡ month_text b q (moment_of list t) h =
      sym (ap (λ v. if v then ledger_text b q (moment_of list t) h.ledger
      else unknown_line) closed) in
      subst (λ (e : Status). WritesAndEnds e before after (month_text b q (moment_of list t) h) r)
      ends
      (subst (λ l. WritesAndEnds Failed before after l r) text told)

-- nothing is written
pub nothing_told : (b : Shelf) (q : MonthQuery) (t : ℕ) (old : Tables) (before : Option (List ℕ))
    (f : OfficeFault) →
    ((text : List ℕ) → WritesBeginning before before text) →
    IsMonthTold b q t old before before (Err f)
nothing_told b q t old before f none = λ list time tables. record { whole = tt; beginning = none _ }
