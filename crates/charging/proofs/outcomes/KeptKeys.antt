-- Commands with a key: what is kept under it, and what they come to where nothing is.
use Rattle.std.proofs.Common.{◌≡◌, ℕ, Bool, true, false, true≢false, List, refl, sym, ap, ◌∙◌}
use Rattle.std.proofs.Common.{arith, Option, Some, None}
use Rattle.std.specs.Prelude.{if◌then◌else◌, IsTrue, ◌↔◌}
use Rattle.std.specs.Bool.{Decides}
use Rattle.commands.proofs.Exact.{request_exact, credit_exact, allowance_exact}
use Rattle.commands.proofs.Exact.{redemption_exact}
use Rattle.commands.specs.declared.answer.Answer.{Answer}
use Rattle.commands.specs.declared.answer.Answer.TheVariants as answer
use Rattle.commands.specs.declared.answer.Failure.{Failure}
use Rattle.commands.specs.declared.answer.Failure.TheVariants.{InvalidAvpValue}
use Rattle.commands.specs.declared.answer.Outcome.{Outcome}
use Rattle.commands.specs.declared.answer.Refusal.TheVariants.{ContentDiffers}
use Rattle.commands.specs.declared.avp.Avp.TheVariants.{RequestNumber}
use Rattle.commands.specs.declared.allowance.Allowance.{Allowance}
use Rattle.commands.specs.declared.command.Content.{Content}
use Rattle.commands.specs.declared.command.Content.TheVariants as content
use Rattle.commands.specs.declared.command.Credit.{Credit}
use Rattle.commands.specs.declared.command.VoucherRedemption.{VoucherRedemption}
use Rattle.commands.specs.declared.request.Ask.{Ask}
use Rattle.commands.specs.declared.request.Ask.TheVariants as ask
use Rattle.commands.specs.declared.request.Event.{Event}
use Rattle.commands.specs.declared.request.EventAction.{EventAction}
use Rattle.commands.specs.declared.request.EventAction.TheVariants as action
use Rattle.commands.specs.declared.request.Request.{Request}
use Rattle.commands.specs.Keys.{key_of}
use Rattle.voucher_rules.specs.declared.voucher.Voucher.{Voucher}
use Rattle.shelves.specs.Shelves.{Shelf, book_at}
use Rattle.ledger.specs.Ledger.{Ledger}
use Rattle.reserving.proofs.Lists.{no_some}
use Rattle.decisions.specs.Decisions.{refused_or, told as told_of, read_refusal, decision}
use Rattle.decisions.specs.Decisions.{answer_of, is_read}
use Rattle.decisions.specs.Parts.{is_read_action, decided_action, checked_by, priced_by, decided}
use Rattle.ledger.specs.Pricing.{tariff_at}
use Rattle.keepers.specs.declared.kept_answer.KeptAnswer.{KeptAnswer}
use Rattle.charging.specs.Histories.{History, kept_under}
use Rattle.charging.specs.Accepted.{CommandOutcome}
use Rattle.charging.specs.Outcomes.{only_told, keeping, request_outcome, credit_outcome}
use Rattle.charging.specs.Outcomes.{allowance_outcome, redeem_outcome}
use Rattle.charging.specs.OutcomeParts.{same_content, repeated, unless_kept, failed, decided_by}
use Rattle.charging.specs.OutcomeParts.{new_credit, new_allowance, new_redemption}

-- ---- equal contents

-- which kind of command it is kept of
abbrev kind : Content → ℕ
kind (content.Request r) = 0
kind (content.Credit c) = 1
kind (content.Redeem r) = 2
kind (content.Allow a) = 3

-- contents of two kinds aren't equal
two_kinds : (x y : Content) → (kind x ≡ kind y → ⊥) → Decides false (x ≡ y)
two_kinds x y differ = (
  λ e. absurd (true≢false (sym e)),
  λ e. absurd (differ (ap kind e)),
)

content_exact : (x y : Content) → Decides (same_content x y) (x ≡ y)
content_exact (content.Request r) (content.Request q) =
    ((λ e. ap content.Request ((request_exact r q).0 e)), λ e. (request_exact r q).1 (request_of e))
  where
    request_in : Content → Request
    request_in (content.Request x) = x
    request_in (content.Credit x) = r
    request_in (content.Allow x) = r
    request_in (content.Redeem x) = r

    request_of : content.Request r ≡ content.Request q → r ≡ q
    request_of e = ap request_in e
content_exact (content.Request r) (content.Credit d) = two_kinds _ _ (λ e. omega (arith, e))
content_exact (content.Request r) (content.Allow d) = two_kinds _ _ (λ e. omega (arith, e))
content_exact (content.Request r) (content.Redeem d) = two_kinds _ _ (λ e. omega (arith, e))
content_exact (content.Credit c) (content.Request q) = two_kinds _ _ (λ e. omega (arith, e))
content_exact (content.Credit c) (content.Credit d) =
    ((λ e. ap content.Credit ((credit_exact c d).0 e)), λ e. (credit_exact c d).1 (credit_of e))
  where
    credit_in : Content → Credit
    credit_in (content.Request x) = c
    credit_in (content.Credit x) = x
    credit_in (content.Allow x) = c
    credit_in (content.Redeem x) = c

    credit_of : content.Credit c ≡ content.Credit d → c ≡ d
    credit_of e = ap credit_in e
content_exact (content.Credit c) (content.Allow d) = two_kinds _ _ (λ e. omega (arith, e))
content_exact (content.Credit c) (content.Redeem d) = two_kinds _ _ (λ e. omega (arith, e))
content_exact (content.Allow c) (content.Request q) = two_kinds _ _ (λ e. omega (arith, e))
content_exact (content.Allow c) (content.Credit q) = two_kinds _ _ (λ e. omega (arith, e))
content_exact (content.Allow c) (content.Allow d) = (
  λ e. ap content.Allow ((allowance_exact c d).0 e),
  λ e. (allowance_exact c d).1 (allowance_of e),
)
  where
    allowance_in : Content → Allowance
    allowance_in (content.Request x) = c
    allowance_in (content.Credit x) = c
    allowance_in (content.Allow x) = x
    allowance_in (content.Redeem x) = c

    allowance_of : content.Allow c ≡ content.Allow d → c ≡ d
    allowance_of e = ap allowance_in e
content_exact (content.Allow c) (content.Redeem q) = two_kinds _ _ (λ e. omega (arith, e))
content_exact (content.Redeem c) (content.Request q) = two_kinds _ _ (λ e. omega (arith, e))
content_exact (content.Redeem c) (content.Credit q) = two_kinds _ _ (λ e. omega (arith, e))
content_exact (content.Redeem c) (content.Allow q) = two_kinds _ _ (λ e. omega (arith, e))
content_exact (content.Redeem c) (content.Redeem d) = (
  λ e. ap content.Redeem ((redemption_exact c d).0 e),
  λ e. (redemption_exact c d).1 (redemption_of e),
)
  where
    redemption_in : Content → VoucherRedemption
    redemption_in (content.Request x) = c
    redemption_in (content.Credit x) = c
    redemption_in (content.Allow x) = c
    redemption_in (content.Redeem x) = x

    redemption_of : content.Redeem c ≡ content.Redeem d → c ≡ d
    redemption_of e = ap redemption_in e

-- a test that is true exactly of equal contents is the definition's
pub same-content : (test : Bool) (x y : Content) → (IsTrue test ↔ (x ≡ y)) → test ≡ same_content x y
same-content test x y h = at test (same_content x y) h (content_exact x y)
  where
    at : (p q : Bool) → (IsTrue p ↔ (x ≡ y)) → Decides q (x ≡ y) → p ≡ q
    at true true f g = refl
    at false false f g = refl
    at true false f g = sym (g.1 (f.0 refl))
    at false true f g = f.1 (g.0 refl)

-- ---- a request

told_or : (o : Option Failure) (ledger : Ledger) (outcome : Outcome) →
    (refused_or o ledger (told_of outcome ledger)).accepted ≡ false
told_or None ledger outcome = refl
told_or (Some failure) ledger outcome = refl

read_action : (x : EventAction) (b : Shelf) (t : ℕ) (s : List ℕ) (n : ℕ) (e : Event)
    (ledger : Ledger) → is_read_action x ≡ true →
    (decided_action x b t s n e ledger).accepted ≡ false
read_action action.DirectDebiting b t s n e ledger h = absurd (true≢false (sym h))
read_action action.CheckBalance b t s n e ledger h =
    told_or (read_refusal (book_at b t) e) ledger (checked_by (tariff_at b t e.group) b t e ledger)
read_action action.PriceEnquiry b t s n e ledger h =
    told_or (read_refusal (book_at b t) e) ledger (priced_by (tariff_at b t e.group) b t e ledger)

read_ask : (x : Ask) (b : Shelf) (t : ℕ) (s : List ℕ) (n : ℕ) (ledger : Ledger) → is_read x ≡ true →
    (decided b t s n x ledger).accepted ≡ false
read_ask (ask.Initial services) b t s n ledger h = absurd (true≢false (sym h))
read_ask (ask.Update services) b t s n ledger h = absurd (true≢false (sym h))
read_ask (ask.Termination services) b t s n ledger h = absurd (true≢false (sym h))
read_ask (ask.Event e) b t s n ledger h = read_action e.action b t s n e ledger h
read_ask (ask.Refund refund) b t s n ledger h = absurd (true≢false (sym h))

-- a read isn't accepted
pub reads-refused : (b : Shelf) (t : ℕ) (r : Request) (ledger : Ledger) → is_read r.ask ≡ true →
    (decision b t r ledger).accepted ≡ false
reads-refused b t r ledger h = read_ask r.ask b t r.session r.number ledger h

-- a decision that isn't an acceptance is answered, and one that is is kept
pub decided-told : (b : Shelf) (r : Request) (t : ℕ) (h : History) →
    (decision b t r h.ledger).accepted ≡ false →
    decided_by r (decision b t r h.ledger) h ≡
    only_told (answer.Request (answer_of r (decision b t r h.ledger).outcome)) h
decided-told b r t h e = ap
    (λ v. if v then keeping (content.Request r)
    (answer.Request (answer_of r (decision b t r h.ledger).outcome))
    (decision b t r h.ledger).after h
    else only_told (answer.Request (answer_of r (decision b t r h.ledger).outcome)) h) e

-- rule: repeat, changed-repeat
pub decided-kept : (b : Shelf) (r : Request) (t : ℕ) (h : History) →
    (decision b t r h.ledger).accepted ≡ true →
    decided_by r (decision b t r h.ledger) h ≡
    keeping (content.Request r) (answer.Request (answer_of r (decision b t r h.ledger).outcome))
    (decision b t r h.ledger).after h
decided-kept b r t h e = ap
    (λ v. if v then keeping (content.Request r)
    (answer.Request (answer_of r (decision b t r h.ledger).outcome))
    (decision b t r h.ledger).after h
    else only_told (answer.Request (answer_of r (decision b t r h.ledger).outcome)) h) e

module _ (b : Shelf) (r : Request) (t : ℕ) (h : History) where
  abbrev conflict : Answer
  conflict = failed r (InvalidAvpValue RequestNumber)

  abbrev of_kept : Option KeptAnswer → CommandOutcome
  of_kept o = unless_kept o (content.Request r) conflict h
      (decided_by r (decision b t r h.ledger) h)

  abbrev read_told : CommandOutcome
  read_told = only_told (answer.Request (answer_of r (decision b t r h.ledger).outcome)) h

  -- whose key is kept
  pub request-repeated : (kept : KeptAnswer) (o : Option KeptAnswer) →
      o ≡ kept_under (key_of (content.Request r)) h →
      (if is_read r.ask then None else o) ≡ Some kept →
      request_outcome b r t h ≡ only_told (repeated kept (content.Request r) conflict) h
  request-repeated kept o under found = at (is_read r.ask) found
    where
      at : (v : Bool) → (if v then None else o) ≡ Some kept →
          (if v then read_told else of_kept (kept_under (key_of (content.Request r)) h)) ≡
          only_told (repeated kept (content.Request r) conflict) h
      at true e = absurd (no_some kept e)
      at false e = ap of_kept (sym under ∙ e)

  -- whose key isn't, or that is a read
  pub request-fresh : (o : Option KeptAnswer) → o ≡ kept_under (key_of (content.Request r)) h →
      (if is_read r.ask then None else o) ≡ None →
      request_outcome b r t h ≡ decided_by r (decision b t r h.ledger) h
  request-fresh o under found = at (is_read r.ask) refl found
    where
      at : (v : Bool) → is_read r.ask ≡ v → (if v then None else o) ≡ None →
          (if v then read_told else of_kept (kept_under (key_of (content.Request r)) h)) ≡
          decided_by r (decision b t r h.ledger) h
      at true read e = sym (decided-told b r t h (reads-refused b t r h.ledger read))
      at false read e = ap of_kept (sym under ∙ e)

-- ---- a credit

pub credit-repeated : (c : Credit) (t : ℕ) (h : History) (kept : KeptAnswer) →
    kept_under (key_of (content.Credit c)) h ≡ Some kept →
    credit_outcome c t h ≡ only_told (repeated kept (content.Credit c)
    (answer.Refused ContentDiffers)) h
credit-repeated c t h kept e =
    ap (λ o. unless_kept o (content.Credit c) (answer.Refused ContentDiffers) h (new_credit c t h))
    e

-- rule: credit
pub credit-fresh : (c : Credit) (t : ℕ) (h : History) →
    kept_under (key_of (content.Credit c)) h ≡ None → credit_outcome c t h ≡ new_credit c t h
credit-fresh c t h e = ap
    (λ o. unless_kept o (content.Credit c) (answer.Refused ContentDiffers) h (new_credit c t h)) e

-- ---- an allowance

pub allowance-repeated : (b : Shelf) (a : Allowance) (t : ℕ) (h : History) (kept : KeptAnswer) →
    kept_under (key_of (content.Allow a)) h ≡ Some kept →
    allowance_outcome b a t h ≡
    only_told (repeated kept (content.Allow a) (answer.Refused ContentDiffers)) h
allowance-repeated b a t h kept e =
    ap (λ o. unless_kept o (content.Allow a) (answer.Refused ContentDiffers) h
    (new_allowance b a t h)) e

-- rule: allowance
pub allowance-fresh : (b : Shelf) (a : Allowance) (t : ℕ) (h : History) →
    kept_under (key_of (content.Allow a)) h ≡ None →
    allowance_outcome b a t h ≡ new_allowance b a t h
allowance-fresh b a t h e =
    ap (λ o. unless_kept o (content.Allow a) (answer.Refused ContentDiffers) h
    (new_allowance b a t h)) e

-- ---- a redemption

pub redemption-repeated : (b : Shelf) (standing : Option Voucher) (r : VoucherRedemption) (t : ℕ)
    (h : History) (kept : KeptAnswer) → kept_under (key_of (content.Redeem r)) h ≡ Some kept →
    redeem_outcome b standing r t h ≡
    only_told (repeated kept (content.Redeem r) (answer.Refused ContentDiffers)) h
redemption-repeated b standing r t h kept e =
    ap (λ o. unless_kept o (content.Redeem r) (answer.Refused ContentDiffers) h
    (new_redemption b standing r t h)) e

pub redemption-fresh : (b : Shelf) (standing : Option Voucher) (r : VoucherRedemption) (t : ℕ)
    (h : History) → kept_under (key_of (content.Redeem r)) h ≡ None →
    redeem_outcome b standing r t h ≡ new_redemption b standing r t h
redemption-fresh b standing r t h e =
    ap (λ o. unless_kept o (content.Redeem r) (answer.Refused ContentDiffers) h
    (new_redemption b standing r t h)) e
