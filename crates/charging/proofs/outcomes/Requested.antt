-- What a request comes to: of an unknown account, of a key that is kept, a read, of a session that
-- is known, and one that is decided.
use Rattle.std.proofs.Common.{◌≡◌, ℕ, ◌≤◌, Bool, true, false, true≢false, List, ◌∷◌, ◌++◌, refl}
use Rattle.std.proofs.Common.{sym, ap, subst, ◌∙◌, Option, Some, None}
use Rattle.std.specs.Prelude.{if◌then◌else◌, ◌&&◌, is_some, max}
use Rattle.std.proofs.lemmas.Bool.{and_parts}
use Rattle.commands.specs.declared.answer.Answer.{Answer}
use Rattle.commands.specs.declared.answer.Answer.TheVariants as answer
use Rattle.commands.specs.declared.answer.Failure.{Failure}
use Rattle.commands.specs.declared.answer.Failure.TheVariants.{UserUnknown, InvalidAvpValue}
use Rattle.commands.specs.declared.answer.Outcome.TheVariants.{Failed}
use Rattle.commands.specs.declared.answer.RequestAnswer.{RequestAnswer}
use Rattle.commands.specs.declared.avp.Avp.TheVariants.{RequestNumber, SessionId}
use Rattle.commands.specs.declared.command.Command.TheVariants.{Ccr}
use Rattle.commands.specs.declared.command.Content.TheVariants as content
use Rattle.commands.specs.declared.request.Ask.{Ask}
use Rattle.commands.specs.declared.request.Ask.TheVariants.{Initial, Update, Termination, Event}
use Rattle.commands.specs.declared.request.Ask.TheVariants.{Refund}
use Rattle.commands.specs.declared.request.Event.{Event as EventOf}
use Rattle.commands.specs.declared.request.EventAction.{EventAction}
use Rattle.commands.specs.declared.request.EventAction.TheVariants.{DirectDebiting, CheckBalance}
use Rattle.commands.specs.declared.request.EventAction.TheVariants.{PriceEnquiry}
use Rattle.commands.specs.declared.request.Request.{Request}
use Rattle.commands.specs.declared.key.Key.{Key}
use Rattle.commands.specs.Keys.{key_of}
use Rattle.shelves.specs.Shelves.{Shelf, IsShelf}
use Rattle.ledger.specs.Ledger.{Ledger, Recording, last_recording}
use Rattle.ledger.specs.Charges.{charge_rows}
use Rattle.reserving.specs.Rows.{AccountRows, IsAccount}
use Rattle.reserving.specs.Stored.{stored, priced}
use Rattle.reserving.specs.Left.{LeftRows, IsWith, left_of}
use Rattle.reserving.proofs.Lists.{no_some}
use Rattle.decisions.specs.Asked.{begins_session, IsAsked}
use Rattle.decisions.specs.Decisions.{has_record, Decision, refused_or, decision, answer_of}
use Rattle.decisions.specs.Decisions.{is_read}
use Rattle.decisions.specs.Decisions as decision_of
use Rattle.decisions.specs.Parts.{invalid, decided, decided_action}
use Rattle.keepers.specs.declared.kept_answer.KeptAnswer.{KeptAnswer}
use Rattle.keepers.specs.declared.loaded.Change.{Change}
use Rattle.keepers.specs.declared.loaded.Loaded.{Loaded}
use Rattle.keepers.specs.Tables.{Head, Rows, Tables}
use Rattle.keepers.specs.Change.{IsLoadedFrom, IsView, changed}
use Rattle.keepers.specs.Differing.{named_rows}
use Rattle.keepers.proofs.Asked.{known_is, new_unleft}
use Rattle.charging.specs.Histories.{History}
use Rattle.charging.specs.Accepted.{Accepted, last_moment, IsInTime}
use Rattle.charging.specs.Outcomes.{outcome, only_told, keeping}
use Rattle.charging.specs.OutcomeParts.{failed, repeated, decided_by, unopened_outcome}
use Rattle.charging.specs.Served.{history, AreTables, IsServed}
use Rattle.charging.specs.Stepping.{IsTaken, is_known, kept_of_request}
use Rattle.charging.proofs.runs.AcceptedTables.{row_none, row_some}
use Rattle.charging.proofs.steps.Grows.{grown}
use Rattle.charging.proofs.steps.Recorded.{new_has_no_groups}
use Rattle.charging.proofs.outcomes.KeptKeys.{reads-refused, request-repeated, request-fresh}
use Rattle.charging.proofs.outcomes.KeptKeys.{decided-told, decided-kept}
use Rattle.charging.proofs.outcomes.Serving.{IsOpened, is_opened, keeps-some, none-spent}
use Rattle.charging.proofs.outcomes.Serving.{served-told, served-loaded, outcome-unopened}
use Rattle.charging.proofs.outcomes.Serving.{outcome-opened, outcome-kept}

pub request-unknown : (b : Shelf) (list : List Accepted) (r : Request) (t : ℕ) (old new : Tables)
    (given : Answer) →
    IsInTime list → last_moment list ≤ t → AreTables b list old → (old.rows r.account).head ≡ None →
    given ≡ failed r UserUnknown → new ≡ old → IsServed b list (Ccr r) t old new given
request-unknown b list r t old new given time le tables none answers same =
    served-told b list (Ccr r) t r.account refl time le
    (unopened_outcome None (history b r.account list) (Ccr r)) given old new
    (outcome-unopened b list (Ccr r) t r.account refl old tables none) refl answers same tables

kept-answer : (v : Bool) (o : Option KeptAnswer) (kept : KeptAnswer) →
    (if v then None else o) ≡ Some kept → o ≡ Some kept
kept-answer true o kept e = absurd (no_some kept e)
kept-answer false o kept e = e

pub request-again : (b : Shelf) (list : List Accepted) (r : Request) (t : ℕ) (old new : Tables)
    (kept : KeptAnswer) (given : Answer) →
    IsInTime list → last_moment list ≤ t → AreTables b list old →
    kept_of_request r old ≡ Some kept →
    given ≡ repeated kept (content.Request r) (failed r (InvalidAvpValue RequestNumber)) →
    new ≡ old →
    IsServed b list (Ccr r) t old new given
request-again b list r t old new kept given time le tables is answers same =
    let h : History = history b r.account list in
    let k : Key = key_of (content.Request r) in
    served-told b list (Ccr r) t r.account refl time le
    (only_told (repeated kept (content.Request r) (failed r (InvalidAvpValue RequestNumber))) h)
    given old new
    (outcome-kept b list (Ccr r) t r.account refl old k kept tables
    (kept-answer (is_read r.ask) (old.answers r.account k) kept is)
    ∙ request-repeated b r t h kept (old.answers r.account k) (tables.answers r.account k) is)
    refl answers same tables

-- ---- a request without a kept answer, of an account that is there

module _ (b : Shelf) (list : List Accepted) (r : Request) (t : ℕ) (old : Tables)
    (time : IsInTime list) (le : last_moment list ≤ t) (tables : AreTables b list old)
    (opened : (history b r.account list).opened ≡ true) (fresh : kept_of_request r old ≡ None) where
  abbrev h : History
  h = history b r.account list

  fresh-is : outcome b None h (Ccr r) t ≡ decided_by r (decision b t r h.ledger) h
  fresh-is =
      outcome-opened b list (Ccr r) t r.account refl opened
      ∙ request-fresh b r t h (old.answers r.account (key_of (content.Request r)))
      (tables.answers r.account (key_of (content.Request r))) fresh

  pub told-fresh : (new : Tables) (given : RequestAnswer) →
      given ≡ answer_of r (decision b t r h.ledger).outcome →
      (decision b t r h.ledger).accepted ≡ false → new ≡ old →
      IsServed b list (Ccr r) t old new (answer.Request given)
  told-fresh new given answers refused same =
      served-told b list (Ccr r) t r.account refl time le
      (only_told (answer.Request (answer_of r (decision b t r h.ledger).outcome)) h)
      (answer.Request given) old new
      (fresh-is ∙ decided-told b r t h refused) refl (ap answer.Request answers) same tables

-- ---- a read

-- what a keeper found to be read
pub none_viewed : (b : Shelf) (t : ℕ) (r : Rows) (o : Option AccountRows) → IsView b t r o →
    o ≡ None → r.head ≡ None
none_viewed b t r o found none = subst (λ (q : Option AccountRows). IsView b t r q) none found

pub some_viewed : (b : Shelf) (t : ℕ) (r : Rows) (o : Option AccountRows) (x : AccountRows) →
    IsView b t r o → o ≡ Some x → IsLoadedFrom b t r x
some_viewed b t r o x found there = subst (λ (q : Option AccountRows). IsView b t r q) there found

-- reads have no kept answer
reads-fresh : (r : Request) (old : Tables) → is_read r.ask ≡ true → kept_of_request r old ≡ None
reads-fresh r old reads =
    ap (λ v. if v then None else old.answers r.account (key_of (content.Request r))) reads

pub read-told : (b : Shelf) (list : List Accepted) (r : Request) (t : ℕ) (old new : Tables)
    (x : AccountRows) (m : ℕ) (given : RequestAnswer) →
    IsInTime list → last_moment list ≤ t → AreTables b list old →
    IsLoadedFrom b t (old.rows r.account) x → IsAccount x → m ≡ max t x.as_of →
    is_read r.ask ≡ true →
    ((ledger : Ledger) (left : LeftRows) → IsWith ledger left m x →
    given ≡ answer_of r (decision x.shelf m r ledger).outcome) → new ≡ old →
    IsServed b list (Ccr r) t old new (answer.Request given)
read-told b list r t old new x m given time le tables loads is moment reads answers same =
    let account : IsOpened b list t r.account old x =
    is_opened b list t r.account old x time le tables loads is in
    let h : History = history b r.account list in
    let now : m ≡ t = moment ∙ account.moment in
    let left : LeftRows = left_of t (priced b account.are.listed) in
    told-fresh b list r t old time le tables account.opened (reads-fresh r old reads) new given
    (answers h.ledger left (subst (λ (u : ℕ). IsWith h.ledger left u x) (sym now) account.with_left)
    ∙ (λ i. answer_of r (decision (account.of_book i) (now i) r h.ledger).outcome))
    (reads-refused b t r h.ledger reads) same

-- ---- a request that would begin a session that is known

if_known : (v : Bool) (ledger : Ledger) (other : Option Failure) (d : Decision) → v ≡ true →
    refused_or (if v then Some (invalid SessionId) else other) ledger d ≡
    decision_of.told (Failed (invalid SessionId)) ledger
if_known v ledger other d e =
    ap (λ q. refused_or (if q then Some (invalid SessionId) else other) ledger d) e

known_event : (action : EventAction) (b : Shelf) (t : ℕ) (s : List ℕ) (n : ℕ) (e : EventOf)
    (ledger : Ledger) → begins_session (Event (record e { action = action })) ≡ true →
    has_record s ledger ≡ true →
    decided_action action b t s n e ledger ≡
    decision_of.told (Failed (invalid SessionId)) ledger
known_event DirectDebiting b t s n e ledger begins known =
    if_known (has_record s ledger) ledger _ _ known
known_event CheckBalance b t s n e ledger begins known = absurd (true≢false (sym begins))
known_event PriceEnquiry b t s n e ledger begins known = absurd (true≢false (sym begins))

refused_known : (ask : Ask) (b : Shelf) (t : ℕ) (s : List ℕ) (n : ℕ) (ledger : Ledger) →
    begins_session ask ≡ true → has_record s ledger ≡ true →
    decided b t s n ask ledger ≡ decision_of.told (Failed (invalid SessionId)) ledger
refused_known (Initial services) b t s n ledger begins known =
    if_known (has_record s ledger) ledger _ _ known
refused_known (Update services) b t s n ledger begins known = absurd (true≢false (sym begins))
refused_known (Termination services) b t s n ledger begins known = absurd (true≢false (sym begins))
refused_known (Event e) b t s n ledger begins known =
    known_event e.action b t s n e ledger begins known
refused_known (Refund refund) b t s n ledger begins known =
    if_known (has_record s ledger) ledger _ _ known

pub request-known : (b : Shelf) (list : List Accepted) (r : Request) (t : ℕ) (old new : Tables)
    (given : Answer) →
    IsInTime list → last_moment list ≤ t → AreTables b list old → kept_of_request r old ≡ None →
    is_known r old ≡ true → given ≡ failed r (InvalidAvpValue SessionId) → new ≡ old →
    IsServed b list (Ccr r) t old new given
request-known b list r t old new given time le tables fresh known answers same =
    at (old.rows r.account).head refl
  where
    h : History
    h = history b r.account list

    parts : (begins_session r.ask ≡ true)
        × (is_some ((old.rows r.account).sessions r.session) ≡ true)
    parts = and_parts (begins_session r.ask) (is_some ((old.rows r.account).sessions r.session))
        known

    at : (o : Option Head) → (old.rows r.account).head ≡ o → IsServed b list (Ccr r) t old new given
    at None e =
        let none = row_none b _ h (old.rows r.account) e (tables.accounts r.account) in
        absurd (true≢false (sym parts.1 ∙ (λ i. is_some ((none.1 i).sessions r.session))))
    at (Some head) e =
        let row = row_some b _ h (old.rows r.account) head e (tables.accounts r.account) in
        let has : has_record r.session h.ledger ≡ true =
        sym (known_is b h.ledger _ (old.rows r.account) r.session row.1) ∙ parts.1 in
        let refused : decision b t r h.ledger ≡
        decision_of.told (Failed (invalid SessionId)) h.ledger =
        refused_known r.ask b t r.session r.number h.ledger parts.0 has in
        subst (λ (x : Answer). IsServed b list (Ccr r) t old new x) (sym answers)
        (told-fresh b list r t old time le tables row.0 fresh new
        (answer_of r (Failed (invalid SessionId))) (λ i. answer_of r (sym refused i).outcome)
        (λ i. (refused i).accepted) same)

-- ---- a request that is decided

module _ (b : Shelf) (list : List Accepted) (r : Request) (t : ℕ) (old new : Tables)
    (found : Loaded)
    (time : IsInTime list) (le : last_moment list ≤ t) (tables : AreTables b list old)
    (loads : IsTaken b t r.account old found)
    (fresh : kept_of_request r old ≡ None) (new_name : is_known r old ≡ false) (m : ℕ)
    (moment : m ≡ max t found.account.as_of) where
  abbrev past : History
  past = history b r.account list

  abbrev account : IsOpened b list t r.account old found.account
  account = is_opened b list t r.account old found.account time le tables loads.load.1 loads.account

  abbrev left : LeftRows
  left = left_of t (priced b account.are.listed)

  now : m ≡ t
  now = moment ∙ account.moment

  ranges : IsShelf b
  ranges = subst IsShelf account.of_book loads.account.shelf

  -- of a session that begins there is no row
  unknown : begins_session r.ask ≡ true → false ≡ has_record r.session past.ledger
  unknown begins =
      sym new_name
      ∙ ap (λ v. v && is_some ((old.rows r.account).sessions r.session)) begins
      ∙ known_is b past.ledger _ (old.rows r.account) r.session account.are

  no_record : (ledger : Ledger) → has_record r.session ledger ≡ false →
      last_recording r.session ledger ≡ None
  no_record ledger e = at (last_recording r.session ledger) e
    where
      at : (o : Option Recording) → is_some o ≡ false → o ≡ None
      at None k = refl
      at (Some x) k = absurd (true≢false k)

  asked : IsAsked past.ledger left r false
  asked begins = record {
    told = unknown begins;
    new = λ e g. new_unleft b past.ledger _ t (old.rows r.account) r.session g account.are ranges
        (λ x. new_has_no_groups b r.account list r.session (no_record past.ledger e) x);
  }

  with-rows : IsWith past.ledger left m found.account
  with-rows = subst (λ (u : ℕ). IsWith past.ledger left u found.account) (sym now) account.with_left

  decision-is : decision found.account.shelf m r past.ledger ≡ decision b t r past.ledger
  decision-is = λ i. decision (account.of_book i) (now i) r past.ledger

  module _ (given : RequestAnswer) (accepted : Bool)
      (answers : (ledger : Ledger) (beside : LeftRows) → IsWith ledger beside m found.account →
      IsAsked ledger beside r false →
      given ≡ answer_of r (decision found.account.shelf m r ledger).outcome)
      (accepts : (ledger : Ledger) (beside : LeftRows) → IsWith ledger beside m found.account →
      IsAsked ledger beside r false →
      accepted ≡ (decision found.account.shelf m r ledger).accepted) where
    accepts-is : (decision b t r past.ledger).accepted ≡ accepted
    accepts-is = sym (accepts past.ledger left with-rows asked ∙ (λ i. (decision-is i).accepted))

    answer-is : given ≡ answer_of r (decision b t r past.ledger).outcome
    answer-is = answers past.ledger left with-rows asked
        ∙ (λ i. answer_of r (decision-is i).outcome)

    pub request-told : accepted ≡ false → new ≡ old →
        IsServed b list (Ccr r) t old new (answer.Request given)
    request-told refused same =
        told-fresh b list r t old time le tables account.opened fresh new given answer-is
        (accepts-is ∙ refused) same

    pub request-done : (x : AccountRows) (change : Change) (result : Answer) → accepted ≡ true →
        x.shelf ≡ found.account.shelf → x.as_of ≡ m →
        ((ledger : Ledger) (beside : LeftRows) → IsWith ledger beside m found.account →
        IsAsked ledger beside r false →
        IsWith (decision found.account.shelf m r ledger).after beside m x) →
        ((ledger : Ledger) (beside : LeftRows) → IsWith ledger beside m found.account →
        IsAsked ledger beside r false →
        charge_rows (decision found.account.shelf m r ledger).after ≡
        charge_rows ledger ++ change.charges.items) →
        change.number ≡ found.number → change.moment ≡ x.as_of →
        change.rows ≡ named_rows found.before (stored x) →
        change.kept ≡ Some (record {
          content = content.Request r;
          answer = answer.Request given;
        }) → change.redeemed ≡ None →
        result ≡ answer.Request given →
        new ≡ changed change old → IsServed b list (Ccr r) t old new result
    request-done x change result done shelf as_of rows charges number moments afters kept redeemed
        results makes =
        let after : Ledger = (decision b t r past.ledger).after in
        let same : (decision found.account.shelf m r past.ledger).after ≡ after = λ i.
        (decision-is i).after in
        served-loaded b list (Ccr r) t r.account refl time le old new tables found loads
        (keeping (content.Request r)
        (answer.Request (answer_of r (decision b t r past.ledger).outcome)) after past) result x
        change refl
        (fresh-is b list r t old time le tables account.opened fresh
        ∙ decided-kept b r t past (accepts-is ∙ done))
        refl
        (results ∙ ap answer.Request answer-is)
        (record {
          shelf = shelf;
          at_moment = as_of ∙ now;
          grows = grown b t r past.ledger;
          rows = subst (λ (u : ℕ). IsWith after left u x) now
              (subst (λ (l : Ledger). IsWith l left m x) same
              (rows past.ledger left with-rows asked));
          opened = account.opened;
          kept = (λ i. record {
            content = content.Request r;
            answer = answer.Request (sym answer-is i);
          } ∷ past.kept)
              ∙ keeps-some (sym kept) past.kept;
          charges = sym (ap charge_rows same) ∙ charges past.ledger left with-rows asked;
          vouchers = none-spent b list t (Ccr r) change (λ code. refl) redeemed;
          number = number;
          moment = moments;
          after = afters;
        })
        makes
