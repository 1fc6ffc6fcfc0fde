-- What accepted commands have left that were all before books which are added later: over both
-- shelves the same histories, vouchers, reports, answers and tables.
use Rattle.std.proofs.Common.{◌≡◌, ℕ, ◌<◌, Bool, true, false, List, [], ◌∷◌, refl, sym, ap}
use Rattle.std.proofs.Common.{subst, ◌∙◌, arith, Option, Some, None}
use Rattle.std.specs.Prelude.{◌↔◌, if◌then◌else◌}
use Rattle.commands.specs.declared.command.Command.{Command}
use Rattle.commands.specs.declared.command.Command.TheVariants as command
use Rattle.commands.specs.declared.request.Ask.{Ask}
use Rattle.commands.specs.declared.request.Ask.TheVariants.{Initial, Update, Termination, Event}
use Rattle.commands.specs.declared.request.Ask.TheVariants.{Refund}
use Rattle.commands.specs.declared.service.Service.{Service}
use Rattle.voucher_rules.specs.declared.voucher.Voucher.{Voucher}
use Rattle.voucher_rules.specs.Redeeming.{after_redemption}
use Rattle.shelves.specs.Shelves.{Shelf, count}
use Rattle.shelves.specs.Laws.{GoesOnFrom}
use Rattle.shelves.proofs.Adding.{addable, nothing_before}
use Rattle.ledger.specs.Ledger.{Ledger}
use Rattle.ledger.specs.Charges.{charge_rows}
use Rattle.reserving.proofs.LaterBooks.{IsBefore}
use Rattle.decisions.specs.Services.{is_known, parts_of}
use Rattle.keepers.specs.Tables.{Head, Rows, Tables, charge_in}
use Rattle.keepers.specs.Change.{AreRowsAt}
use Rattle.charging.specs.Histories.{History, no_history, kept_under}
use Rattle.charging.specs.Accepted.{Accepted, Concerned, one, each, none, concerned_by, names}
use Rattle.charging.specs.Accepted.{last_moment, as_of, IsInTime, IsRowOf, IsRow}
use Rattle.charging.specs.Outcomes.{book_days, outcome}
use Rattle.charging.specs.Served.{AreTables, history, voucher, standing}
use Rattle.charging.specs.ServedParts.{names_code, voucher_after, answer_on, accepts_on}
use Rattle.charging.specs.Paid.{Report, with_services, with_reports, reports_of}
use Rattle.charging.specs.PaidParts.{with_report, with_ask}
use Rattle.charging.specs.LaterBooks.{GoesOnAfter, IsAddition, LeaveTheSame, ChangeNothingBefore}
use Rattle.charging.proofs.added_books.EarlyLedgers.{IsEarly}
use Rattle.charging.proofs.added_books.EarlyDecisions.{book_same}
use Rattle.charging.proofs.added_books.EarlyOutcomes.{redemption_same, outcome_same, outcome_early}
use Rattle.charging.proofs.added_books.EarlyRows.{rows_on, rows_back}

-- each accepted command was before a moment
abbrev pub AreAccepted : ℕ → List Accepted → Type 0
AreAccepted from [] = Unit {0}
AreAccepted from (d ∷ before) = (d.moment < from) × AreAccepted from before

pub accepted_before : (from : ℕ) (list : List Accepted) → IsInTime list → last_moment list < from →
    AreAccepted from list
accepted_before from [] time last = tt
accepted_before from (d ∷ before) time last =
    let earlier : last_moment before < from = omega (arith, time.0, last) in
    (last, accepted_before from before time.1 earlier)

either_early : (from n : ℕ) (c : Bool) (x y : History) → IsEarly from n x.ledger →
    IsEarly from n y.ledger → IsEarly from n (if c then x else y).ledger
either_early from n true x y p q = p
either_early from n false x y p q = q

-- a list that isn't in time has no moment of its own; so each lemma asks for each command
module _ (from : ℕ) (b u : Shelf) (on : GoesOnFrom from b u) where
  -- ---- vouchers

  after_same : (c : Command) (t : ℕ) → t < from → (found : Option Voucher) →
      voucher_after (book_days b) c t found ≡ voucher_after (book_days u) c t found
  after_same (command.Ccr r) t early found = refl
  after_same (command.OpenAccount n) t early found = refl
  after_same (command.Credit c) t early found = refl
  after_same (command.Allow a) t early found = refl
  after_same (command.Bar n) t early found = refl
  after_same (command.Unbar n) t early found = refl
  after_same (command.AddVoucher v) t early found = refl
  after_same (command.Redeem r) t early found =
      λ i. after_redemption (redemption_same from b u on t early found r.account i) found
  after_same command.Sweep t early found = refl
  after_same (command.Balance n) t early found = refl

  voucher_same : (code : List ℕ) (list : List Accepted) → AreAccepted from list →
      voucher b code list ≡ voucher u code list
  voucher_same code [] all = refl
  voucher_same code (d ∷ before) all =
      let rest : voucher b code before ≡ voucher u code before =
      voucher_same code before all.1 in
      let after : voucher_after (book_days b) d.command d.moment (voucher b code before) ≡
      voucher_after (book_days u) d.command d.moment (voucher u code before) =
      after_same d.command d.moment all.0 (voucher b code before)
      ∙ ap (voucher_after (book_days u) d.command d.moment) rest in
      λ i. if names_code code d.command then after i else rest i

  standing_same : (c : Command) (list : List Accepted) → AreAccepted from list →
      standing b c list ≡ standing u c list
  standing_same (command.Ccr r) list all = refl
  standing_same (command.OpenAccount n) list all = refl
  standing_same (command.Credit c) list all = refl
  standing_same (command.Allow a) list all = refl
  standing_same (command.Bar n) list all = refl
  standing_same (command.Unbar n) list all = refl
  standing_same (command.AddVoucher v) list all = voucher_same v.code list all
  standing_same (command.Redeem r) list all = voucher_same r.code list all
  standing_same command.Sweep list all = refl
  standing_same (command.Balance n) list all = refl

  -- ---- histories

  history_early : (a : List ℕ) (list : List Accepted) → AreAccepted from list →
      IsEarly from (count b) (history b a list).ledger
  history_early a [] all = record { before = tt; numbered = tt }
  history_early a (d ∷ before) all =
      let older : IsEarly from (count b) (history b a before).ledger =
      history_early a before all.1 in
      either_early from (count b) (names a (concerned_by d.command)) _ (history b a before)
      (outcome_early from b u on d.moment all.0 (standing b d.command before) (history b a before)
      d.command older) older

  -- what a command comes to on the history of an account
  on_same : (c : Command) (t : ℕ) (list : List Accepted) → t < from → AreAccepted from list →
      (x y : History) → IsEarly from (count b) x.ledger → x ≡ y →
      outcome b (standing b c list) x c t ≡ outcome u (standing u c list) y c t
  on_same c t list early all x y is same =
      outcome_same from b u on t early (standing b c list) x c is
      ∙ (λ i. outcome u (standing_same c list all i) (same i) c t)

  history_same : (a : List ℕ) (list : List Accepted) → AreAccepted from list →
      history b a list ≡ history u a list
  history_same a [] all = refl
  history_same a (d ∷ before) all =
      let rest : history b a before ≡ history u a before = history_same a before all.1 in
      let next : outcome b (standing b d.command before) (history b a before) d.command d.moment ≡
      outcome u (standing u d.command before) (history u a before) d.command d.moment =
      on_same d.command d.moment before all.0 all.1 (history b a before) (history u a before)
      (history_early a before all.1) rest in
      λ i. if names a (concerned_by d.command) then (next i).after else rest i

  -- ---- answers

  answer_same : (o : Concerned) (c : Command) (t : ℕ) (list : List Accepted) → t < from →
      AreAccepted from list → answer_on o b list c t ≡ answer_on o u list c t
  answer_same (one a) c t list early all =
      λ i. (on_same c t list early all (history b a list) (history u a list)
      (history_early a list all) (history_same a list all) i).answer
  answer_same each c t list early all = refl
  answer_same none c t list early all =
      λ i. (on_same c t list early all no_history no_history (record { before = tt; numbered = tt })
      refl i).answer

  accepts_same : (o : Concerned) (c : Command) (t : ℕ) (list : List Accepted) → t < from →
      AreAccepted from list → accepts_on o b list c t ≡ accepts_on o u list c t
  accepts_same (one a) c t list early all =
      λ i. (on_same c t list early all (history b a list) (history u a list)
      (history_early a list all) (history_same a list all) i).accepted
  accepts_same each c t list early all = refl
  accepts_same none c t list early all =
      λ i. (on_same c t list early all no_history no_history (record { before = tt; numbered = tt })
      refl i).accepted

  -- ---- reports

  services_same : (t : ℕ) → t < from → (s : List ℕ) (services : List Service)
      (reports : List Report) →
      with_services b t s services reports ≡ with_services u t s services reports
  services_same t early s [] reports = refl
  services_same t early s (x ∷ xs) reports =
      services_same t early s xs _
      ∙ (λ i. with_services u t s xs
      (if is_known (book_same from b u on t early i) x.group
      then with_report t s x.group (parts_of x.used) reports else reports))

  ask_same : (t : ℕ) → t < from → (s : List ℕ) (ask : Ask) (reports : List Report) →
      with_ask b t s ask reports ≡ with_ask u t s ask reports
  ask_same t early s (Initial services) reports = refl
  ask_same t early s (Update services) reports = services_same t early s services reports
  ask_same t early s (Termination services) reports = services_same t early s services reports
  ask_same t early s (Event event) reports = refl
  ask_same t early s (Refund refund) reports = refl

  reported_same : (t : ℕ) → t < from → (c : Command) (reports : List Report) →
      with_reports b t c reports ≡ with_reports u t c reports
  reported_same t early (command.Ccr r) reports = ask_same t early r.session r.ask reports
  reported_same t early (command.OpenAccount n) reports = refl
  reported_same t early (command.Credit c) reports = refl
  reported_same t early (command.Allow a) reports = refl
  reported_same t early (command.Bar n) reports = refl
  reported_same t early (command.Unbar n) reports = refl
  reported_same t early (command.AddVoucher v) reports = refl
  reported_same t early (command.Redeem r) reports = refl
  reported_same t early command.Sweep reports = refl
  reported_same t early (command.Balance n) reports = refl

  reports_same : (a : List ℕ) (list : List Accepted) → AreAccepted from list →
      reports_of b a list ≡ reports_of u a list
  reports_same a [] all = refl
  reports_same a (d ∷ before) all =
      let rest : reports_of b a before ≡ reports_of u a before = reports_same a before all.1 in
      let next : outcome b (standing b d.command before) (history b a before) d.command d.moment ≡
      outcome u (standing u d.command before) (history u a before) d.command d.moment =
      on_same d.command d.moment before all.0 all.1 (history b a before) (history u a before)
      (history_early a before all.1) (history_same a before all.1) in
      let more : with_reports b d.moment d.command (reports_of b a before) ≡
      with_reports u d.moment d.command (reports_of u a before) =
      reported_same d.moment all.0 d.command (reports_of b a before)
      ∙ ap (with_reports u d.moment d.command) rest in
      λ i. if names a (concerned_by d.command)
      then (if (next i).accepted then more i else rest i) else rest i

  -- ---- tables

  rows_same : (ledger : Ledger) (t : ℕ) (r : Rows) → IsBefore from ledger →
      AreRowsAt b ledger t r ↔ AreRowsAt u ledger t r
  rows_same ledger t r before = (
    λ x. record {
      listed = x.listed;
      are = x.are;
      kept = x.kept;
      moment = x.moment;
      rows = rows_on from b u on ledger before x.listed x.rows;
    },
    λ x. record {
      listed = x.listed;
      are = x.are;
      kept = x.kept;
      moment = x.moment;
      rows = rows_back from b u on ledger before x.listed x.rows;
    },
  )

  row_same : (o : Option Head) (t : ℕ) (h : History) (r : Rows) → IsBefore from h.ledger →
      IsRowOf o b t h r ↔ IsRowOf o u t h r
  row_same None t h r before = (λ x. x, λ x. x)
  row_same (Some head) t h r before = (
    λ x. (x.0, (rows_same h.ledger t r before).0 x.1),
    λ x. (x.0, (rows_same h.ledger t r before).1 x.1),
  )

  account_same : (a : List ℕ) (list : List Accepted) (r : Rows) → AreAccepted from list →
      IsRow b (as_of a list) (history b a list) r ↔ IsRow u (as_of a list) (history u a list) r
  account_same a list r all =
      subst (λ h. IsRow b (as_of a list) (history b a list) r ↔ IsRow u (as_of a list) h r)
      (history_same a list all)
      (row_same r.head (as_of a list) (history b a list) r (history_early a list all).before)

  tables_on : (list : List Accepted) (tables : Tables) → AreAccepted from list →
      AreTables b list tables → AreTables u list tables
  tables_on list tables all x = record {
    last = x.last;
    accounts = λ a. (account_same a list (tables.rows a) all).0 (x.accounts a);
    answers = λ a k. x.answers a k ∙ ap (kept_under k) (history_same a list all);
    charges = λ a n. x.charges a n
        ∙ (λ i. charge_in n (charge_rows (history_same a list all i).ledger));
    vouchers = λ code. x.vouchers code ∙ voucher_same code list all;
    count = x.count;
  }

  tables_back : (list : List Accepted) (tables : Tables) → AreAccepted from list →
      AreTables u list tables → AreTables b list tables
  tables_back list tables all x = record {
    last = x.last;
    accounts = λ a. (account_same a list (tables.rows a) all).1 (x.accounts a);
    answers = λ a k. x.answers a k ∙ ap (kept_under k) (sym (history_same a list all));
    charges = λ a n. x.charges a n
        ∙ (λ i. charge_in n (charge_rows (sym (history_same a list all) i).ledger));
    vouchers = λ code. x.vouchers code ∙ sym (voucher_same code list all);
    count = x.count;
  }

  -- ---- all of it

  -- rule: later-books.goes-on-after
  pub leave_the_same : (list : List Accepted) → AreAccepted from list → LeaveTheSame from b u list
  leave_the_same list all = record {
    histories = λ a. history_same a list all;
    reports = λ a. reports_same a list all;
    vouchers = λ code. voucher_same code list all;
    tables = λ tables. (tables_on list tables all, tables_back list tables all);
    answers = λ c t early. answer_same (concerned_by c) c t list early all;
    acceptance = λ c t early. accepts_same (concerned_by c) c t list early all;
  }

pub nothing_changes : (s u : Shelf) (list : List Accepted) → ChangeNothingBefore s u list
nothing_changes s u list time on =
    leave_the_same on.from s u on.goes_on list (accepted_before on.from list time on.later)

-- what an added book says
pub addition_goes_on : (last : ℕ) (s u : Shelf) → IsAddition last s u → GoesOnAfter last s u
addition_goes_on last s u x = record {
  from = x.from;
  later = (addable s x.from x.book last x.allowed).after;
  goes_on = subst (λ (v : Shelf). GoesOnFrom x.from s v) (sym x.added)
      (nothing_before s x.from x.book);
}
