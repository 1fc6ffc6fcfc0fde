-- What operators' commands come to.
use Rattle.std.proofs.Common.{◌≡◌, ℕ, ◌+◌, ◌≤◌, Bool, true, false, true≢false, List, [], ◌∷◌, ◌++◌}
use Rattle.std.proofs.Common.{refl, sym, ap, subst, ◌∙◌, Option, Some, None}
use Rattle.std.proofs.lemmas.List.{append-nil}
use Rattle.std.specs.Prelude.{max, is_some, option_map, ◌||◌, IfOk, IfSome, Result, Ok, Err}
use Rattle.std.specs.Prelude.{if◌then◌else◌, Vec}
use Rattle.std.specs.Global.{Global}
use Rattle.commands.specs.declared.answer.Answer.{Answer}
use Rattle.commands.specs.declared.answer.Answer.TheVariants as answer
use Rattle.commands.specs.declared.answer.Refusal.TheVariants.{AccountExists, AccountUnknown}
use Rattle.commands.specs.declared.answer.Refusal.TheVariants.{ContentDiffers, OutOfRange}
use Rattle.commands.specs.declared.command.Command.TheVariants as command
use Rattle.commands.specs.declared.command.Content.TheVariants as content
use Rattle.commands.specs.declared.command.Credit.{Credit}
use Rattle.commands.specs.declared.key.Key.{Key}
use Rattle.commands.specs.Keys.{key_of}
use Rattle.voucher_rules.specs.declared.voucher.Voucher.{Voucher}
use Rattle.shelves.specs.Shelves.{Shelf}
use Rattle.buckets.specs.declared.kind.BucketKind.TheVariants.{Money}
use Rattle.ledger.specs.declared.charge.ChargeRow.{ChargeRow}
use Rattle.reserving.specs.declared.session.SessionGroup.{SessionGroup}
use Rattle.ledger.specs.Ledger.{Ledger, next_bucket}
use Rattle.ledger.specs.Ledger.Fact.{Barred}
use Rattle.ledger.specs.Charges.{charge_rows}
use Rattle.ledger.specs.Requests.{credited, with_bar}
use Rattle.reserving.specs.Rows.{AccountRows, IsAccount, IsRowsOf}
use Rattle.reserving.specs.Stored.{StoredRows, stored, priced}
use Rattle.reserving.specs.Left.{LeftRows, IsWith, left_of, differing}
use Rattle.reserving.specs.Others.{OtherRows, other_rows, other_sessions, other_groups}
use Rattle.reserving.proofs.StoredRows.{IsStored-stored}
use Rattle.reserving.proofs.LeftTests.{first_alone}
use Rattle.keepers.specs.declared.kept_answer.KeptAnswer.{KeptAnswer}
use Rattle.keepers.specs.declared.loaded.Change.{Change}
use Rattle.keepers.specs.declared.loaded.Loaded.{Loaded}
use Rattle.keepers.specs.declared.loaded.Redeemed.{Redeemed}
use Rattle.keepers.specs.Tables.{Head, Rows, Tables, group_row, held_of, no_rows}
use Rattle.keepers.specs.Change.{AreRowsAt, held_over, over, changed, IsSwept}
use Rattle.keepers.specs.Differing.{equal_bucket, equal_counter, equal_session, equal_group}
use Rattle.keepers.specs.Differing.{named_rows, named_for}
use Rattle.keepers.proofs.NamedOwn.{named_own}
use Rattle.charging.specs.Histories.{History}
use Rattle.charging.specs.Accepted.{Accepted, one, concerned_by, last_moment, IsInTime}
use Rattle.charging.specs.Outcomes.{book_days, outcome, only_told, done, keeping, is_full}
use Rattle.charging.specs.OutcomeParts.{repeated, with_ledger, from_of, until_of, is_unusable}
use Rattle.charging.specs.OutcomeParts.{is_out_of_range, new_credit, opened_outcome}
use Rattle.charging.specs.OutcomeParts.{unopened_outcome}
use Rattle.charging.specs.Served.{history, standing, AreTables, IsServed}
use Rattle.charging.specs.ServedParts.{is_opening, names_code}
use Rattle.charging.specs.Stepping.{IsTaken, WritesAt, Credits, Makes, bar_command}
use Rattle.charging.proofs.runs.AcceptedTables.{tables_swept}
use Rattle.charging.proofs.accounts.NeverOpened.{unopened-ledger}
use Rattle.charging.proofs.outcomes.KeptKeys.{credit-repeated, credit-fresh}
use Rattle.charging.proofs.steps.Grows.{one_credit, one_more}
use Rattle.charging.proofs.outcomes.Serving.{IsOpened, is_opened, keeps-none, keeps-some}
use Rattle.charging.proofs.outcomes.Serving.{none-spent, served-told, served-done, served-loaded}
use Rattle.charging.proofs.outcomes.Serving.{is-there, not-opened, outcome-unopened, outcome-opened}
use Rattle.charging.proofs.outcomes.Serving.{outcome-kept}

-- ---- a sweep

-- rule: sweep
pub sweep-served : (b : Shelf) (list : List Accepted) (t n : ℕ) (old new : Tables) → IsInTime list →
    AreTables b list old → last_moment list ≤ t → n ≡ old.count → IsSwept b t old new →
    IsServed b list command.Sweep t old new (answer.Swept n)
sweep-served b list t n old new time tables le count swept = record {
  answer = ap answer.Swept (count ∙ tables.count);
  tables = tables_swept (book_days b) (outcome b) b
      (record { moment = t; command = command.Sweep }) list old new
      time le refl refl (λ code. refl) swept tables;
  time = (le, time);
  same = λ e. absurd (true≢false e);
}

pub sweep-writes : (b : Shelf) (t : ℕ) (old new : Tables) → IsSwept b t old new →
    WritesAt b command.Sweep t old new
sweep-writes b t old new swept = λ list time is le.
    (sweep-served b list t old.count old new time is le refl swept).tables

-- ---- an account is opened

no_head : (o : Option Head) → is_some o ≡ false → o ≡ None
no_head None e = refl
no_head (Some head) e = absurd (true≢false e)

pub not-there : (old : Tables) (n : List ℕ) → is_some (old.rows n).head ≡ false →
    (old.rows n).head ≡ None
not-there old n e = no_head (old.rows n).head e

pub open-again : (b : Shelf) (list : List Accepted) (n : List ℕ) (t : ℕ) (old new : Tables) →
    IsInTime list → last_moment list ≤ t → AreTables b list old → is_some (old.rows n).head ≡ true →
    new ≡ old →
    IsServed b list (command.OpenAccount n) t old new (answer.Refused AccountExists)
open-again b list n t old new time le tables there same =
    served-told b list (command.OpenAccount n) t n refl time le
    (only_told (answer.Refused AccountExists) (history b n list))
    (answer.Refused AccountExists) old new
    (outcome-opened b list (command.OpenAccount n) t n refl (is-there b list n old tables there))
    refl refl same tables

-- where nothing was loaded all rows are named
named_alone : {A : Type 0} (eq : A → A → Bool) (before after : List A) → before ≡ [] →
    differing eq before after ≡ after
named_alone {A} eq before after none = ap (λ xs. differing eq xs after) none ∙ each after
  where
    each : (xs : List A) → differing eq [] xs ≡ xs
    each [] = refl
    each (x ∷ xs) = ap (λ ys. x ∷ ys) (each xs)

all_named : (before after : StoredRows) → before.buckets ≡ [] → before.counters ≡ [] →
    before.sessions ≡ [] → before.groups ≡ [] → named_rows before after ≡ after
all_named before after bs cs ss gs = λ i. record after {
  buckets = named_alone equal_bucket before.buckets after.buckets bs i;
  counters = named_alone equal_counter before.counters after.counters cs i;
  sessions = named_alone equal_session before.sessions after.sessions ss i;
  groups = named_alone equal_group before.groups after.groups gs i;
}

held_alone : (n : ℕ) (o : Option SessionGroup) → held_over n o 0 ≡ held_of n o
held_alone n None = refl
held_alone n (Some x) = refl

-- the rows of a new account are its own
new_rows : (b : Shelf) (t : ℕ) (x : AccountRows) → IsAccount x → x.shelf ≡ b → x.as_of ≡ t →
    IsRowsOf [] x → AreRowsAt b [] t (over (stored x) no_rows)
new_rows b t x is shelf as_of rows = record {
  listed = stored x;
  are = record {
    head = refl;
    buckets = λ n. first_alone _;
    counters = λ g c. first_alone _;
    sessions = λ s. first_alone _;
    groups = λ s g. first_alone
        (option_map group_row (Rattle.reserving.specs.Sessions.group_in s g x.groups));
    holds = λ s g n. held_alone n (Rattle.reserving.specs.Sessions.group_in s g x.groups);
  };
  kept = IsStored-stored x is;
  moment = as_of;
  rows = subst (λ (y : Shelf). IsRowsOf [] (priced y (stored x))) shelf rows;
}

-- a new account, and its change
pub record IsNew (b : Shelf) (n : List ℕ) (t : ℕ) (x fresh : AccountRows) (change : Change) :
    Type 0 where
  pub account : IsAccount x
  pub priced_by : x.shelf ≡ b
  pub at_moment : x.as_of ≡ t
  pub rows : IsRowsOf [] x
  pub named : change.number ≡ n
  pub moment : change.moment ≡ x.as_of
  pub after : change.rows ≡ named_rows (stored fresh) (stored x)
  pub kept : change.kept ≡ None
  pub redeemed : change.redeemed ≡ None
  pub charges : change.charges.items ≡ []
  -- nothing was loaded
  pub buckets : fresh.buckets ≡ []
  pub counters : fresh.counters ≡ []
  pub sessions : fresh.sessions ≡ []
  pub groups : fresh.groups ≡ []

-- rule: open
pub open-done : (b : Shelf) (list : List Accepted) (n : List ℕ) (t : ℕ) (x fresh : AccountRows)
    (change : Change) (old new : Tables) → IsInTime list → last_moment list ≤ t →
    AreTables b list old → (old.rows n).head ≡ None →
    IsNew b n t x fresh change →
    new ≡ changed change old →
    IsServed b list (command.OpenAccount n) t old new answer.Done
open-done b list n t x fresh change old new time le tables none is grown =
    let h : History = history b n list in
    let closed : (h.opened ≡ false)
    × (old.rows n ≡ no_rows) =
    not-opened b list (command.OpenAccount n) t n refl old tables none in
    let empty : h.ledger ≡ [] = unopened-ledger b n list closed.0 in
    served-done b list (command.OpenAccount n) t n refl time le
    (unopened_outcome None h (command.OpenAccount n)) answer.Done change old new
    (outcome-unopened b list (command.OpenAccount n) t n refl old tables none)
    refl refl (sym is.named)
    (record {
      moment = is.moment ∙ is.at_moment;
      opened = refl;
      row = subst (λ (l : Ledger). AreRowsAt b l t (over change.rows (old.rows change.number)))
          (sym empty)
          (subst (λ (w : StoredRows). AreRowsAt b [] t (over w (old.rows change.number)))
          (sym (is.after ∙ all_named (stored fresh) (stored x) is.buckets is.counters is.sessions
          is.groups))
          (subst (λ (r : Rows). AreRowsAt b [] t (over (stored x) r))
          (sym closed.1 ∙ ap old.rows (sym is.named))
          (new_rows b t x is.account is.priced_by is.at_moment is.rows)));
      kept = keeps-none is.kept h.kept;
      charges = sym (ap (λ xs. charge_rows h.ledger ++ xs) is.charges
          ∙ append-nil (charge_rows h.ledger));
      vouchers = none-spent b list t (command.OpenAccount n) change (λ code. refl) is.redeemed;
      count = ap (λ o. if is_some o then old.count else old.count + 1)
          (ap (λ (m : List ℕ). (old.rows m).head) is.named ∙ none);
    })
    grown tables

-- ---- an account is barred

bar-named : (n : List ℕ) (barred : Bool) → concerned_by (bar_command n barred) ≡ one n
bar-named n true = refl
bar-named n false = refl

bar-codes : (n : List ℕ) (barred : Bool) (code : List ℕ) →
    names_code code (bar_command n barred) ≡ false
bar-codes n true code = refl
bar-codes n false code = refl

bar-unopened : (s : Option Voucher) (h : History) (n : List ℕ) (barred : Bool) →
    unopened_outcome s h (bar_command n barred) ≡ only_told (answer.Refused AccountUnknown) h
bar-unopened s h n true = refl
bar-unopened s h n false = refl

bar-opened : (b : Shelf) (s : Option Voucher) (h : History) (n : List ℕ) (barred : Bool) (t : ℕ) →
    opened_outcome b s h (bar_command n barred) t ≡
    done answer.Done (with_ledger (with_bar t barred h.ledger) h)
bar-opened b s h n true t = refl
bar-opened b s h n false t = refl

bar-opens : (n : List ℕ) (barred : Bool) → is_opening (bar_command n barred) ≡ false
bar-opens n true = refl
bar-opens n false = refl

pub bar-unknown : (b : Shelf) (list : List Accepted) (n : List ℕ) (barred : Bool) (t : ℕ)
    (old new : Tables) → IsInTime list → last_moment list ≤ t → AreTables b list old →
    (old.rows n).head ≡ None → new ≡ old →
    IsServed b list (bar_command n barred) t old new (answer.Refused AccountUnknown)
bar-unknown b list n barred t old new time le tables none same =
    served-told b list (bar_command n barred) t n (bar-named n barred) time le
    (only_told (answer.Refused AccountUnknown) (history b n list))
    (answer.Refused AccountUnknown) old new
    (outcome-unopened b list (bar_command n barred) t n (bar-named n barred) old tables none
    ∙ bar-unopened (standing b (bar_command n barred) list) (history b n list) n barred) refl
    refl same tables

-- the change has the account as it is after a command without charges
pub record Tells (change : Change) (found : Loaded) (x : AccountRows) (kept : Option KeptAnswer)
    (redeemed : Option Redeemed) : Type 0 where
  pub number : change.number ≡ found.number
  pub moment : change.moment ≡ x.as_of
  pub after : change.rows ≡ named_rows found.before (stored x)
  pub charges : change.charges.items ≡ []
  pub kept_is : change.kept ≡ kept
  pub redeemed_is : change.redeemed ≡ redeemed

-- what a commit makes of an account as it is
abbrev pub made_change : Loaded → AccountRows → Vec ChargeRow Global → Option KeptAnswer →
    Option Redeemed → Change
made_change found x charges kept redeemed = record {
  moment = x.as_of;
  number = found.number;
  rows = named_rows found.before (stored x);
  charges = charges;
  kept = kept;
  redeemed = redeemed;
}

-- the same, where no row of another session than this may have changed
abbrev pub made_for : Option (List ℕ) → Loaded → AccountRows → Vec ChargeRow Global →
    Option KeptAnswer → Option Redeemed → Change
made_for own found x charges kept redeemed = record (made_change found x charges kept redeemed) {
  rows = named_for own found.before (stored x);
}

pub named_so : (own : Option (List ℕ)) (session : List ℕ) (found : Loaded) (x : AccountRows) →
    found.before ≡ stored found.account →
    IfSome own (λ s. (s ≡ session) × (other_rows s x ≡ other_rows s found.account)) →
    named_for own found.before (stored x) ≡ named_rows found.before (stored x)
named_so None session found x is h = refl
named_so (Some s) session found x is h =
    named_own s found.before (stored x)
    (ap (λ (o : OtherRows). o.sessions) h.1
    ∙ ap (λ (w : StoredRows). other_sessions s w.sessions) (sym is))
    (ap (λ (o : OtherRows). o.groups) h.1
    ∙ ap (λ (w : StoredRows). other_groups s w.groups) (sym is))

pub made_tells : (found : Loaded) (x : AccountRows) (charges : Vec ChargeRow Global)
    (kept told : Option KeptAnswer) (redeemed spent : Option Redeemed) → charges.items ≡ [] →
    kept ≡ told → redeemed ≡ spent →
    Tells (made_change found x charges kept redeemed) found x told spent
made_tells found x charges kept told redeemed spent none kept_is redeemed_is = record {
  number = refl;
  moment = refl;
  after = refl;
  charges = none;
  kept_is = kept_is;
  redeemed_is = redeemed_is;
}

-- rule: open, bar
pub bar-done : (b : Shelf) (list : List Accepted) (n : List ℕ) (barred : Bool) (t m : ℕ)
    (found : Loaded) (x : AccountRows) (change : Change) (old new : Tables) → IsInTime list →
    last_moment list ≤ t → AreTables b list old → IsTaken b t n old found →
    m ≡ max t found.account.as_of → x.shelf ≡ found.account.shelf → x.as_of ≡ m →
    ((ledger : Ledger) (left : LeftRows) → IsWith ledger left m found.account →
    IsWith (with_bar m barred ledger) left m x) → Tells change found x None None →
    new ≡ changed change old →
    IsServed b list (bar_command n barred) t old new answer.Done
bar-done b list n barred t m found x change old new time le tables loads moment shelf as_of rows
    tells grown =
    let h : History = history b n list in
    let account : IsOpened b list t n old found.account =
    is_opened b list t n old found.account time le tables loads.load.1 loads.account in
    let now : m ≡ t = moment ∙ account.moment in
    let left : LeftRows = left_of t (priced b account.are.listed) in
    served-loaded b list (bar_command n barred) t n (bar-named n barred) time le old new tables
    found loads
    (done answer.Done (with_ledger (with_bar t barred h.ledger) h)) answer.Done x change
    (bar-opens n barred)
    (outcome-opened b list (bar_command n barred) t n (bar-named n barred) account.opened
    ∙ bar-opened b (standing b (bar_command n barred) list) h n barred t)
    refl refl
    (record {
      shelf = shelf;
      at_moment = as_of ∙ now;
      grows = one_more (record { at = t; fact = Barred barred }) h.ledger;
      rows = subst (λ (u : ℕ). IsWith (with_bar u barred h.ledger) left u x) now
          (rows h.ledger left (subst (λ (u : ℕ). IsWith h.ledger left u found.account)
          (sym now) account.with_left));
      opened = account.opened;
      kept = keeps-none tells.kept_is h.kept;
      charges = ap (λ xs. charge_rows h.ledger ++ xs) (sym tells.charges);
      vouchers = none-spent b list t (bar_command n barred) change (bar-codes n barred)
          tells.redeemed_is;
      number = tells.number;
      moment = tells.moment;
      after = tells.after;
    })
    grown

-- ---- a credit

pub credit-unknown : (b : Shelf) (list : List Accepted) (c : Credit) (t : ℕ) (old new : Tables) →
    IsInTime list → last_moment list ≤ t → AreTables b list old → (old.rows c.account).head ≡ None →
    new ≡ old →
    IsServed b list (command.Credit c) t old new (answer.Refused AccountUnknown)
credit-unknown b list c t old new time le tables none same =
    served-told b list (command.Credit c) t c.account refl time le
    (only_told (answer.Refused AccountUnknown) (history b c.account list))
    (answer.Refused AccountUnknown) old new
    (outcome-unopened b list (command.Credit c) t c.account refl old tables none) refl refl same
    tables

pub credit-again : (b : Shelf) (list : List Accepted) (c : Credit) (t : ℕ) (old new : Tables)
    (kept : KeptAnswer) (given : Answer) → IsInTime list → last_moment list ≤ t →
    AreTables b list old →
    old.answers c.account (key_of (content.Credit c)) ≡ Some kept →
    given ≡ repeated kept (content.Credit c) (answer.Refused ContentDiffers) → new ≡ old →
    IsServed b list (command.Credit c) t old new given
credit-again b list c t old new kept given time le tables is answers same =
    let h : History = history b c.account list in
    let k : Key = key_of (content.Credit c) in
    served-told b list (command.Credit c) t c.account refl time le
    (only_told (repeated kept (content.Credit c) (answer.Refused ContentDiffers)) h) given old new
    (outcome-kept b list (command.Credit c) t c.account refl old k kept tables is
    ∙ credit-repeated c t h kept (sym (tables.answers c.account k) ∙ is))
    refl answers same tables

-- a bucket that is made by what a credit says is the credit's, where the credit can be used
pub credits_made : {E : Type 0} (r : Result (Option ℕ) E) (c : Credit) (t from until : ℕ)
    (old new : AccountRows) → from ≡ from_of c t → until ≡ until_of c → is_unusable c t ≡ false →
    IfOk r (λ o. (ledger : Ledger) (left : LeftRows) → IsWith ledger left t old →
    Makes o Money from until c.scope c.amount t ledger left new) →
    IfOk r (λ o. (ledger : Ledger) (left : LeftRows) → IsWith ledger left t old →
    Credits o c t ledger left new)
credits_made (Ok None) c t from until old new p q usable makes = λ ledger left before.
    ap (λ v. v || is_full ledger) usable ∙ makes ledger left before
credits_made (Ok (Some n)) c t from until old new p q usable makes = λ ledger left before.
    let made = makes ledger left before in (
      ap (λ v. v || is_full ledger) usable ∙ made.0,
      made.1,
      subst (λ (u : ℕ). IsWith (credited t Money (from_of c t) u c.scope c.amount ledger) left t
          new) q
          (subst (λ (f : ℕ).
          IsWith (credited t Money f until c.scope c.amount ledger) left t new) p made.2),
    )
credits_made (Err e) c t from until old new p q usable makes = tt

module _ (b : Shelf) (list : List Accepted) (c : Credit) (t : ℕ) (old new : Tables) (found : Loaded)
    (time : IsInTime list) (le : last_moment list ≤ t) (tables : AreTables b list old)
    (loads : IsTaken b t c.account old found)
    (m : ℕ) (fresh : old.answers c.account (key_of (content.Credit c)) ≡ None)
    (moment : m ≡ max t found.account.as_of)
    (o : Option ℕ) (x : AccountRows) (credits : (ledger : Ledger) (left : LeftRows) →
    IsWith ledger left m found.account → Credits o c m ledger left x) where
  abbrev h : History
  h = history b c.account list

  abbrev account : IsOpened b list t c.account old found.account
  account = is_opened b list t c.account old found.account time le tables loads.load.1 loads.account

  now : m ≡ t
  now = moment ∙ account.moment

  abbrev left : LeftRows
  left = left_of t (priced b account.are.listed)

  credit : Credits o c m h.ledger left x
  credit = credits h.ledger left
      (subst (λ (u : ℕ). IsWith h.ledger left u found.account) (sym now) account.with_left)

  fresh-is : outcome b None h (command.Credit c) t ≡ new_credit c t h
  fresh-is = outcome-opened b list (command.Credit c) t c.account refl account.opened
      ∙ credit-fresh c t h (sym (tables.answers c.account (key_of (content.Credit c))) ∙ fresh)

  pub credit-told : o ≡ None → new ≡ old →
      IsServed b list (command.Credit c) t old new (answer.Refused OutOfRange)
  credit-told none same =
      let refused : is_out_of_range c t h.ledger ≡ true =
      ap (λ u. is_out_of_range c u h.ledger) (sym now)
      ∙ subst (λ (q : Option ℕ). Credits q c m h.ledger left x) none credit in
      served-told b list (command.Credit c) t c.account refl time le
      (only_told (answer.Refused OutOfRange) h) (answer.Refused OutOfRange) old new
      (fresh-is ∙ ap (λ v. if v then only_told (answer.Refused OutOfRange) h
      else keeping (content.Credit c) (answer.Bucket (next_bucket h.ledger))
      (credited t Money (from_of c t) (until_of c) c.scope c.amount h.ledger) h) refused)
      refl refl same tables

  pub credit-done : (number : ℕ) (change : Change) → o ≡ Some number →
      x.shelf ≡ found.account.shelf →
      IfSome o (λ n. x.as_of ≡ m) →
      Tells change found x (Some
      (record { content = content.Credit c; answer = answer.Bucket number })) None →
      new ≡ changed change old →
      IsServed b list (command.Credit c) t old new (answer.Bucket number)
  credit-done number change some shelf stands tells grown =
      let done = subst (λ (q : Option ℕ). Credits q c m h.ledger left x) some credit in
      let as_of : x.as_of ≡ m = subst (λ (q : Option ℕ). IfSome q (λ n. x.as_of ≡ m)) some stands in
      let after : Ledger = credited t Money (from_of c t) (until_of c) c.scope c.amount h.ledger in
      let allowed : is_out_of_range c t h.ledger ≡ false =
      ap (λ u. is_out_of_range c u h.ledger) (sym now) ∙ done.0 in
      served-loaded b list (command.Credit c) t c.account refl time le old new tables found loads
      (keeping (content.Credit c) (answer.Bucket (next_bucket h.ledger)) after h)
      (answer.Bucket number) x change refl
      (fresh-is ∙ ap (λ v. if v then only_told (answer.Refused OutOfRange) h
      else keeping (content.Credit c) (answer.Bucket (next_bucket h.ledger)) after h) allowed)
      refl (ap answer.Bucket done.1)
      (record {
        shelf = shelf;
        at_moment = as_of ∙ now;
        grows = one_credit t Money (from_of c t) (until_of c) c.scope c.amount h.ledger;
        rows = subst (λ (u : ℕ). IsWith
            (credited u Money (from_of c u) (until_of c) c.scope c.amount h.ledger) left u x) now
            done.2;
        opened = account.opened;
        kept = (λ i. record { content = content.Credit c; answer = answer.Bucket (sym done.1 i) }
            ∷ h.kept) ∙ keeps-some (sym tells.kept_is) h.kept;
        charges = ap (λ xs. charge_rows h.ledger ++ xs) (sym tells.charges);
        vouchers = none-spent b list t (command.Credit c) change (λ code. refl) tells.redeemed_is;
        number = tells.number;
        moment = tells.moment;
        after = tells.after;
      })
      grown
