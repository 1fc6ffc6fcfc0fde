-- A command of a moment before books that are added later comes to the same over both shelves, on a
-- history that is before them too, and leaves such a one.
use Rattle.std.proofs.Common.{◌≡◌, ℕ, ◌<◌, Bool, true, false, List, refl, ap, Option, Some}
use Rattle.std.proofs.Common.{None}
use Rattle.std.specs.Prelude.{if◌then◌else◌, ◌||◌, map, Result, Ok, Err}
use Rattle.calendar.specs.Timetable.{day_end}
use Rattle.commands.specs.declared.allowance.Allowance.{Allowance}
use Rattle.commands.specs.declared.answer.Answer.{Answer}
use Rattle.commands.specs.declared.answer.Answer.TheVariants as answer
use Rattle.commands.specs.declared.answer.Failure.TheVariants.{InvalidAvpValue}
use Rattle.commands.specs.declared.answer.Refusal.{Refusal}
use Rattle.commands.specs.declared.answer.Refusal.TheVariants.{ContentDiffers, OutOfRange}
use Rattle.commands.specs.declared.answer.Refusal.TheVariants.{ScopeUnknown}
use Rattle.commands.specs.declared.avp.Avp.TheVariants.{RequestNumber}
use Rattle.commands.specs.declared.command.Command.{Command}
use Rattle.commands.specs.declared.command.Command.TheVariants as command
use Rattle.commands.specs.declared.command.Content.{Content}
use Rattle.commands.specs.declared.command.Content.TheVariants as content
use Rattle.commands.specs.declared.command.Credit.{Credit}
use Rattle.commands.specs.declared.command.VoucherRedemption.{VoucherRedemption}
use Rattle.commands.specs.declared.request.Request.{Request}
use Rattle.commands.specs.Keys.{key_of}
use Rattle.voucher_rules.specs.declared.adding.Addition.{Addition}
use Rattle.voucher_rules.specs.declared.adding.Addition.TheVariants.{New, Present, Conflicting}
use Rattle.voucher_rules.specs.declared.redeeming.Redemption.{Redemption}
use Rattle.voucher_rules.specs.declared.redeeming.RedeemRefusal.{RedeemRefusal}
use Rattle.voucher_rules.specs.declared.redeeming.RedeemRefusal.TheVariants.{VoucherSpent}
use Rattle.voucher_rules.specs.declared.voucher.Voucher.{Voucher}
use Rattle.voucher_rules.specs.Adding.{addition}
use Rattle.voucher_rules.specs.Standing.{is_spent}
use Rattle.voucher_rules.specs.Redeeming.{moment_in_time, end_after, redemption_until, redemption}
use Rattle.buckets.specs.declared.kind.BucketKind.TheVariants.{Money, Blocks}
use Rattle.shelves.specs.Shelves.{Shelf, count}
use Rattle.shelves.specs.Laws.{GoesOnFrom}
use Rattle.ledger.specs.Ledger.{is_barred}
use Rattle.reserving.proofs.LaterCalls.{rows_same}
use Rattle.decisions.specs.Decisions.{Decision, decision, answer_of, is_read}
use Rattle.decisions.specs.Services.{is_known}
use Rattle.keepers.specs.declared.kept_answer.KeptAnswer.{KeptAnswer}
use Rattle.charging.specs.Balances.{by_number, bucket_balance}
use Rattle.charging.specs.Histories.{History, kept_under}
use Rattle.charging.specs.Accepted.{CommandOutcome}
use Rattle.charging.specs.Outcomes.{only_told, keeping, request_outcome, is_full, credit_outcome}
use Rattle.charging.specs.Outcomes.{addition_outcome, book_days, allowance_outcome, redeem_outcome}
use Rattle.charging.specs.Outcomes.{outcome}
use Rattle.charging.specs.OutcomeParts.{unless_kept, failed, decided_by, from_of, until_of}
use Rattle.charging.specs.OutcomeParts.{is_out_of_range, new_credit, begin_of, end_of, is_over}
use Rattle.charging.specs.OutcomeParts.{allowance_refusal, allowed_unless, new_allowance}
use Rattle.charging.specs.OutcomeParts.{redemption_outcome, new_redemption, opened_outcome}
use Rattle.charging.specs.OutcomeParts.{unopened_outcome}
use Rattle.charging.proofs.added_books.EarlyLedgers.{IsEarly, early_credited, early_barred}
use Rattle.charging.proofs.added_books.EarlyDecisions.{book_same, decision_same, decision_early}

-- ---- over either shelf alike

module _ (from : ℕ) (b u : Shelf) (on : GoesOnFrom from b u) (t : ℕ) (early : t < from) where
  ends_same : (days : Option ℕ) → end_after (book_days b) t days ≡ end_after (book_days u) t days
  ends_same None = refl
  ends_same (Some days) =
      λ i. moment_in_time (day_end (book_same from b u on t early i).calendar.zone t days)

  -- what a redemption comes to
  pub redemption_same : (found : Option Voucher) (account : List ℕ) →
      redemption (book_days b) found account t ≡ redemption (book_days u) found account t
  redemption_same None account = refl
  redemption_same (Some voucher) account = λ i. if is_spent (Some voucher) then Err VoucherSpent
      else redemption_until (ends_same voucher.terms.days i) voucher.terms account t

  request_same : (r : Request) (h : History) → IsEarly from (count b) h.ledger →
      request_outcome b r t h ≡ request_outcome u r t h
  request_same r h is =
      ap (λ (d : Decision). if is_read r.ask
      then only_told (answer.Request (answer_of r d.outcome)) h
      else unless_kept (kept_under (key_of (content.Request r)) h) (content.Request r)
      (failed r (InvalidAvpValue RequestNumber)) h (decided_by r d h))
      (decision_same from b u on t early r h.ledger is)

  -- whether the book at the moment has a group
  allowance_same : (a : Allowance) (h : History) →
      allowance_outcome b a t h ≡ allowance_outcome u a t h
  allowance_same a h =
      λ i. unless_kept (kept_under (key_of (content.Allow a)) h) (content.Allow a)
      (answer.Refused ContentDiffers) h (allowed_unless
      (if is_over a t || is_full h.ledger then Some OutOfRange
      else (if is_known (book_same from b u on t early i) a.scope then None
      else Some ScopeUnknown)) a t h)

  redeem_same : (found : Option Voucher) (r : VoucherRedemption) (h : History) →
      redeem_outcome b found r t h ≡ redeem_outcome u found r t h
  redeem_same found r h =
      ap (λ (x : Result Redemption RedeemRefusal). unless_kept
      (kept_under (key_of (content.Redeem r)) h) (content.Redeem r)
      (answer.Refused ContentDiffers) h (redemption_outcome x r t h))
      (redemption_same found r.account)

  opened_same : (found : Option Voucher) (h : History) (c : Command) →
      IsEarly from (count b) h.ledger →
      opened_outcome b found h c t ≡ opened_outcome u found h c t
  opened_same found h (command.Ccr r) is = request_same r h is
  opened_same found h (command.OpenAccount n) is = refl
  opened_same found h (command.Credit c) is = refl
  opened_same found h (command.Allow a) is = allowance_same a h
  opened_same found h (command.Bar n) is = refl
  opened_same found h (command.Unbar n) is = refl
  opened_same found h (command.AddVoucher v) is = refl
  opened_same found h (command.Redeem r) is = redeem_same found r h
  opened_same found h command.Sweep is = refl
  opened_same found h (command.Balance n) is = λ i. only_told (answer.Balance (record {
    account = n;
    barred = is_barred h.ledger;
    buckets = map bucket_balance
        (by_number (rows_same from b u on t early h.ledger is.before is.numbered i));
    moment = t;
  })) h

  pub outcome_same : (found : Option Voucher) (h : History) (c : Command) →
      IsEarly from (count b) h.ledger → outcome b found h c t ≡ outcome u found h c t
  outcome_same found h c is =
      ap (λ (x : CommandOutcome). if h.opened then x else unopened_outcome found h c)
      (opened_same found h c is)

-- ---- and before the same moment

abbrev IsEarlyOutcome : ℕ → ℕ → CommandOutcome → Type 0
IsEarlyOutcome from n o = IsEarly from n o.after.ledger

either_outcome : (from n : ℕ) (c : Bool) (x y : CommandOutcome) → IsEarlyOutcome from n x →
    IsEarlyOutcome from n y → IsEarlyOutcome from n (if c then x else y)
either_outcome from n true x y p q = p
either_outcome from n false x y p q = q

unless_early : (from n : ℕ) (o : Option KeptAnswer) (new : Content) (conflict : Answer)
    (h : History) (fresh : CommandOutcome) → IsEarly from n h.ledger → IsEarlyOutcome from n fresh →
    IsEarlyOutcome from n (unless_kept o new conflict h fresh)
unless_early from n None new conflict h fresh p q = q
unless_early from n (Some kept) new conflict h fresh p q = p

addition_early : (from n : ℕ) (x : Addition) (h : History) → IsEarly from n h.ledger →
    IsEarlyOutcome from n (addition_outcome x h)
addition_early from n (New voucher) h is = is
addition_early from n Present h is = is
addition_early from n Conflicting h is = is

unopened_early : (from n : ℕ) (found : Option Voucher) (h : History) (c : Command) →
    IsEarly from n h.ledger → IsEarlyOutcome from n (unopened_outcome found h c)
unopened_early from n found h (command.Ccr r) is = is
unopened_early from n found h (command.OpenAccount a) is = is
unopened_early from n found h (command.Credit c) is = is
unopened_early from n found h (command.Allow a) is = is
unopened_early from n found h (command.Bar a) is = is
unopened_early from n found h (command.Unbar a) is = is
unopened_early from n found h (command.AddVoucher v) is =
    addition_early from n (addition found v.terms) h is
unopened_early from n found h (command.Redeem r) is = is
unopened_early from n found h command.Sweep is = is
unopened_early from n found h (command.Balance a) is = is

module _ (from : ℕ) (b u : Shelf) (on : GoesOnFrom from b u) (t : ℕ) (early : t < from) where
  request_early : (r : Request) (h : History) → IsEarly from (count b) h.ledger →
      IsEarlyOutcome from (count b) (request_outcome b r t h)
  request_early r h is =
      let d : Decision = decision b t r h.ledger in
      either_outcome from (count b) (is_read r.ask) _ _ is
      (unless_early from (count b) (kept_under (key_of (content.Request r)) h) (content.Request r) _
      h (decided_by r d h) is
      (either_outcome from (count b) d.accepted
      (keeping (content.Request r) (answer.Request (answer_of r d.outcome)) d.after h) _
      (decision_early from b u on t early r h.ledger is) is))

  credit_early : (c : Credit) (h : History) → IsEarly from (count b) h.ledger →
      IsEarlyOutcome from (count b) (credit_outcome c t h)
  credit_early c h is =
      unless_early from (count b) (kept_under (key_of (content.Credit c)) h) (content.Credit c) _ h
      (new_credit c t h) is
      (either_outcome from (count b) (is_out_of_range c t h.ledger) _ _ is
      (early_credited from (count b) t early Money (from_of c t) (until_of c) c.scope c.amount
      h.ledger is))

  allowance_early : (a : Allowance) (h : History) → IsEarly from (count b) h.ledger →
      IsEarlyOutcome from (count b) (allowance_outcome b a t h)
  allowance_early a h is =
      unless_early from (count b) (kept_under (key_of (content.Allow a)) h) (content.Allow a) _ h
      (new_allowance b a t h) is (by_refusal (allowance_refusal b a t h.ledger))
    where
      by_refusal : (o : Option Refusal) → IsEarlyOutcome from (count b) (allowed_unless o a t h)
      by_refusal (Some refusal) = is
      by_refusal None =
          early_credited from (count b) t early Blocks (begin_of a t) (end_of a) (Some a.scope)
          a.blocks h.ledger is

  redemption_early : (o : Result Redemption RedeemRefusal) (r : VoucherRedemption) (h : History) →
      IsEarly from (count b) h.ledger →
      IsEarlyOutcome from (count b) (redemption_outcome o r t h)
  redemption_early (Ok x) r h is =
      either_outcome from (count b) (is_full h.ledger) _ _ is
      (early_credited from (count b) t early Money x.from x.until x.scope x.amount h.ledger is)
  redemption_early (Err refusal) r h is = is

  opened_early : (found : Option Voucher) (h : History) (c : Command) →
      IsEarly from (count b) h.ledger →
      IsEarlyOutcome from (count b) (opened_outcome b found h c t)
  opened_early found h (command.Ccr r) is = request_early r h is
  opened_early found h (command.OpenAccount a) is = is
  opened_early found h (command.Credit c) is = credit_early c h is
  opened_early found h (command.Allow a) is = allowance_early a h is
  opened_early found h (command.Bar a) is =
      early_barred from (count b) t early true h.ledger is
  opened_early found h (command.Unbar a) is =
      early_barred from (count b) t early false h.ledger is
  opened_early found h (command.AddVoucher v) is =
      addition_early from (count b) (addition found v.terms) h is
  opened_early found h (command.Redeem r) is =
      unless_early from (count b) (kept_under (key_of (content.Redeem r)) h) (content.Redeem r) _ h
      (new_redemption b found r t h) is
      (redemption_early (redemption (book_days b) found r.account t) r h is)
  opened_early found h command.Sweep is = is
  opened_early found h (command.Balance a) is = is

  pub outcome_early : (found : Option Voucher) (h : History) (c : Command) →
      IsEarly from (count b) h.ledger → IsEarly from (count b) (outcome b found h c t).after.ledger
  outcome_early found h c is =
      either_outcome from (count b) h.opened (opened_outcome b found h c t)
      (unopened_outcome found h c) (opened_early found h c is)
      (unopened_early from (count b) found h c is)
