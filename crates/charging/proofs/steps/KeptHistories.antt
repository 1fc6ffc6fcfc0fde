-- What each step of a ledger keeps, the reports and the ledger of each history keep.
use Rattle.std.proofs.Common.{ℕ, Bool, true, false, List, [], ◌∷◌, refl, Option, Some, None}
use Rattle.std.specs.Prelude.{if◌then◌else◌, Result, Ok, Err}
use Rattle.commands.specs.declared.answer.Answer.{Answer}
use Rattle.commands.specs.declared.answer.Answer.TheVariants as answer
use Rattle.commands.specs.declared.answer.Refusal.{Refusal}
use Rattle.commands.specs.declared.allowance.Allowance.{Allowance}
use Rattle.commands.specs.declared.command.Command.{Command}
use Rattle.commands.specs.declared.command.Command.TheVariants as command
use Rattle.commands.specs.declared.command.Content.{Content}
use Rattle.commands.specs.declared.command.Content.TheVariants as content
use Rattle.commands.specs.declared.command.Credit.{Credit}
use Rattle.commands.specs.declared.request.Request.{Request}
use Rattle.commands.specs.declared.command.VoucherRedemption.{VoucherRedemption}
use Rattle.commands.specs.Keys.{key_of}
use Rattle.voucher_rules.specs.declared.adding.Addition.{Addition}
use Rattle.voucher_rules.specs.declared.adding.Addition.TheVariants.{New, Present, Conflicting}
use Rattle.voucher_rules.specs.declared.redeeming.Redemption.{Redemption}
use Rattle.voucher_rules.specs.declared.redeeming.RedeemRefusal.{RedeemRefusal}
use Rattle.voucher_rules.specs.declared.voucher.Voucher.{Voucher}
use Rattle.voucher_rules.specs.Adding.{addition}
use Rattle.voucher_rules.specs.Redeeming.{redemption}
use Rattle.shelves.specs.Shelves.{Shelf}
use Rattle.buckets.specs.declared.kind.BucketKind.TheVariants.{Money, Blocks}
use Rattle.ledger.specs.Ledger.{Ledger}
use Rattle.ledger.specs.Ledger.Fact.{Barred}
use Rattle.decisions.specs.Decisions.{Decision, decision, answer_of, is_read}
use Rattle.keepers.specs.declared.kept_answer.KeptAnswer.{KeptAnswer}
use Rattle.charging.specs.Histories.{History, kept_under}
use Rattle.charging.specs.Accepted.{Accepted, CommandOutcome, concerned_by, names}
use Rattle.charging.specs.Outcomes.{only_told, keeping, request_outcome, is_full, credit_outcome}
use Rattle.charging.specs.Outcomes.{addition_outcome, book_days, redeem_outcome, allowance_outcome}
use Rattle.charging.specs.Outcomes.{outcome}
use Rattle.charging.specs.OutcomeParts.{unless_kept, decided_by, from_of, until_of, is_out_of_range}
use Rattle.charging.specs.OutcomeParts.{new_credit, redeemed_outcome, redemption_outcome}
use Rattle.charging.specs.OutcomeParts.{new_redemption, begin_of, end_of, allowance_refusal}
use Rattle.charging.specs.OutcomeParts.{allowed_unless, opened_outcome, unopened_outcome}
use Rattle.charging.specs.Served.{history, standing}
use Rattle.charging.specs.Paid.{Report, with_reports, reports_of}
use Rattle.charging.specs.PaidParts.{with_ask}
use Rattle.charging.proofs.steps.Steps.{Keeps}
use Rattle.charging.proofs.steps.KeptDecisions.{kept_decided}

module _ (b : Shelf) (P : List Report → Ledger → Type 0) (k : Keeps b P) where
  -- what a command comes to, with its reports where it is accepted
  abbrev IsKept : Command → ℕ → List Report → CommandOutcome → Type 0
  IsKept c t reports o = P (if o.accepted then with_reports b t c reports else reports)
      o.after.ledger

  either_outcome : (c : Command) (t : ℕ) (reports : List Report) (v : Bool) (x y : CommandOutcome) →
      IsKept c t reports x → IsKept c t reports y → IsKept c t reports (if v then x else y)
  either_outcome c t reports true x y p q = p
  either_outcome c t reports false x y p q = q

  kept_unless : (c : Command) (t : ℕ) (reports : List Report) (o : Option KeptAnswer)
      (new : Content) (conflict : Answer) (h : History) (fresh : CommandOutcome) →
      P reports h.ledger →
      IsKept c t reports fresh →
      IsKept c t reports (unless_kept o new conflict h fresh)
  kept_unless c t reports None new conflict h fresh p q = q
  kept_unless c t reports (Some kept) new conflict h fresh p q = p

  -- ---- a command

  kept_decision : (r : Request) (t : ℕ) (reports : List Report) (d : Decision) (h : History) →
      P reports h.ledger → P (if d.accepted then with_ask b t r.session r.ask reports else reports)
      d.after →
      IsKept (command.Ccr r) t reports (decided_by r d h)
  kept_decision r t reports d h p = at d.accepted
    where
      at : (v : Bool) → P (if v then with_ask b t r.session r.ask reports else reports) d.after →
          IsKept (command.Ccr r) t reports
          (if v then keeping (content.Request r)
          (answer.Request (answer_of r d.outcome)) d.after h
          else only_told (answer.Request (answer_of r d.outcome)) h)
      at true q = q
      at false q = p

  kept_request : (r : Request) (t : ℕ) (reports : List Report) (h : History) → P reports h.ledger →
      IsKept (command.Ccr r) t reports (request_outcome b r t h)
  kept_request r t reports h p =
      let d : Decision = decision b t r h.ledger in
      either_outcome (command.Ccr r) t reports (is_read r.ask) _ _ p
      (kept_unless (command.Ccr r) t reports (kept_under (key_of (content.Request r)) h)
      (content.Request r) _ h (decided_by r d h) p
      (kept_decision r t reports d h p
      (kept_decided b P k t r.session r.number r.ask reports h.ledger p)))

  kept_credit : (c : Credit) (t : ℕ) (reports : List Report) (h : History) → P reports h.ledger →
      IsKept (command.Credit c) t reports (credit_outcome c t h)
  kept_credit c t reports h p =
      kept_unless (command.Credit c) t reports (kept_under (key_of (content.Credit c)) h)
      (content.Credit c) _ h (new_credit c t h) p
      (either_outcome (command.Credit c) t reports (is_out_of_range c t h.ledger) _ _ p
      (k.credit t Money (from_of c t) (until_of c) c.scope c.amount reports h.ledger p))

  -- an allowance is a credit in blocks
  kept_allowed : (o : Option Refusal) (a : Allowance) (t : ℕ) (reports : List Report)
      (h : History) → P reports h.ledger →
      IsKept (command.Allow a) t reports (allowed_unless o a t h)
  kept_allowed (Some refusal) a t reports h p = p
  kept_allowed None a t reports h p =
      k.credit t Blocks (begin_of a t) (end_of a) (Some a.scope) a.blocks reports h.ledger p

  kept_allowance : (a : Allowance) (t : ℕ) (reports : List Report) (h : History) →
      P reports h.ledger → IsKept (command.Allow a) t reports (allowance_outcome b a t h)
  kept_allowance a t reports h p =
      kept_unless (command.Allow a) t reports (kept_under (key_of (content.Allow a)) h)
      (content.Allow a) _ h (allowed_unless (allowance_refusal b a t h.ledger) a t h) p
      (kept_allowed (allowance_refusal b a t h.ledger) a t reports h p)

  -- a redemption credits
  kept_redeemed : (x : Redemption) (r : VoucherRedemption) (t : ℕ) (reports : List Report)
      (h : History) → P reports h.ledger →
      IsKept (command.Redeem r) t reports (redeemed_outcome x r t h)
  kept_redeemed x r t reports h p =
      either_outcome (command.Redeem r) t reports (is_full h.ledger) _ _ p
      (k.credit t Money x.from x.until x.scope x.amount reports h.ledger p)

  kept_redemption : (o : Result Redemption RedeemRefusal) (r : VoucherRedemption) (t : ℕ)
      (reports : List Report) (h : History) → P reports h.ledger →
      IsKept (command.Redeem r) t reports (redemption_outcome o r t h)
  kept_redemption (Ok x) r t reports h p = kept_redeemed x r t reports h p
  kept_redemption (Err refusal) r t reports h p = p

  kept_redeem : (s : Option Voucher) (r : VoucherRedemption) (t : ℕ) (reports : List Report)
      (h : History) → P reports h.ledger →
      IsKept (command.Redeem r) t reports (redeem_outcome b s r t h)
  kept_redeem s r t reports h p =
      kept_unless (command.Redeem r) t reports (kept_under (key_of (content.Redeem r)) h)
      (content.Redeem r) _ h (new_redemption b s r t h) p
      (kept_redemption (redemption (book_days b) s r.account t) r t reports h p)

  -- a voucher that is added changes no ledger
  kept_addition : (x : Addition) (c : Command) (t : ℕ) (reports : List Report) (h : History) →
      P reports h.ledger → P (with_reports b t c reports) h.ledger →
      IsKept c t reports (addition_outcome x h)
  kept_addition (New voucher) c t reports h p q = q
  kept_addition Present c t reports h p q = p
  kept_addition Conflicting c t reports h p q = p

  kept_opened : (s : Option Voucher) (h : History) (c : Command) (t : ℕ) (reports : List Report) →
      P reports h.ledger → IsKept c t reports (opened_outcome b s h c t)
  kept_opened s h (command.Ccr r) t reports p = kept_request r t reports h p
  kept_opened s h (command.OpenAccount n) t reports p = p
  kept_opened s h (command.Credit c) t reports p = kept_credit c t reports h p
  kept_opened s h (command.Allow a) t reports p = kept_allowance a t reports h p
  kept_opened s h (command.Bar n) t reports p =
      k.quiet t (Barred true) reports h.ledger refl refl (record { close = tt; request = tt }) p
  kept_opened s h (command.Unbar n) t reports p =
      k.quiet t (Barred false) reports h.ledger refl refl (record { close = tt; request = tt }) p
  kept_opened s h (command.AddVoucher v) t reports p =
      kept_addition (addition s v.terms) (command.AddVoucher v) t reports h p p
  kept_opened s h (command.Redeem r) t reports p = kept_redeem s r t reports h p
  kept_opened s h command.Sweep t reports p = p
  kept_opened s h (command.Balance n) t reports p = p

  kept_unopened : (s : Option Voucher) (h : History) (c : Command) (t : ℕ)
      (reports : List Report) → P reports h.ledger → IsKept c t reports (unopened_outcome s h c)
  kept_unopened s h (command.Ccr r) t reports p = p
  kept_unopened s h (command.OpenAccount n) t reports p = p
  kept_unopened s h (command.Credit c) t reports p = p
  kept_unopened s h (command.Allow a) t reports p = p
  kept_unopened s h (command.Bar n) t reports p = p
  kept_unopened s h (command.Unbar n) t reports p = p
  kept_unopened s h (command.AddVoucher v) t reports p =
      kept_addition (addition s v.terms) (command.AddVoucher v) t reports h p p
  kept_unopened s h (command.Redeem r) t reports p = p
  kept_unopened s h command.Sweep t reports p = p
  kept_unopened s h (command.Balance n) t reports p = p

  kept_outcome : (s : Option Voucher) (h : History) (c : Command) (t : ℕ) (reports : List Report) →
      P reports h.ledger → IsKept c t reports (outcome b s h c t)
  kept_outcome s h c t reports p =
      either_outcome c t reports h.opened (opened_outcome b s h c t) (unopened_outcome s h c)
      (kept_opened s h c t reports p) (kept_unopened s h c t reports p)

  -- ---- a list of accepted commands

  either_history : (v : Bool) (more reports : List Report) (x y : History) → P more x.ledger →
      P reports y.ledger → P (if v then more else reports) (if v then x else y).ledger
  either_history true more reports x y p q = p
  either_history false more reports x y p q = q

  -- rule: ledger.sound-ledger, paid
  pub kept_history : P [] [] → (a : List ℕ) (list : List Accepted) →
      P (reports_of b a list) (history b a list).ledger
  kept_history none a [] = none
  kept_history none a (d ∷ before) =
      let older : P (reports_of b a before) (history b a before).ledger =
      kept_history none a before in
      either_history (names a (concerned_by d.command)) _ (reports_of b a before) _
      (history b a before) (kept_outcome (standing b d.command before) (history b a before)
      d.command d.moment
      (reports_of b a before) older) older
