-- The parts of what a command comes to, each by itself, as code and lemmas speak of them. The
-- definitions of `Outcomes` compute to these.
-- Source: profile.
use Rattle.std.specs.Prelude.{Bool, ◌==◌, ◌||◌, nat_le, true, false, if◌then◌else◌, Option, Some}
use Rattle.std.specs.Prelude.{None, Result, Ok, Err, unwrap_or}
use Rattle.buckets.specs.declared.kind.BucketKind.TheVariants.{Money, Blocks}
use Rattle.charging.specs.Accepted.{CommandOutcome}
use Rattle.charging.specs.Balances.{account_balance}
use Rattle.charging.specs.Histories.{History}
use Rattle.charging.specs.Outcomes.{only_told, done, keeping, request_outcome, is_full}
use Rattle.charging.specs.Outcomes.{credit_outcome, allowance_outcome, addition_outcome, book_days}
use Rattle.charging.specs.Outcomes.{redeem_outcome}
use Rattle.commands.specs.Alike.{same_request, same_credit, same_allowance, same_redemption}
use Rattle.commands.specs.declared.allowance.Allowance.{Allowance}
use Rattle.commands.specs.declared.answer.Answer.{Answer}
use Rattle.commands.specs.declared.answer.Answer.TheVariants as answer
use Rattle.commands.specs.declared.answer.Failure.{Failure}
use Rattle.commands.specs.declared.answer.Failure.TheVariants.{UserUnknown}
use Rattle.commands.specs.declared.answer.Outcome.TheVariants.{Failed}
use Rattle.commands.specs.declared.answer.Refusal.{Refusal}
use Rattle.commands.specs.declared.answer.Refusal.TheVariants.{AccountExists, AccountUnknown}
use Rattle.commands.specs.declared.answer.Refusal.TheVariants.{VoucherUnknown, VoucherSpent}
use Rattle.commands.specs.declared.answer.Refusal.TheVariants.{OutOfRange, ScopeUnknown}
use Rattle.commands.specs.declared.command.Command.{Command}
use Rattle.commands.specs.declared.command.Command.TheVariants as command
use Rattle.commands.specs.declared.command.Content.{Content}
use Rattle.commands.specs.declared.command.Content.TheVariants as content
use Rattle.commands.specs.declared.command.Credit.{Credit}
use Rattle.commands.specs.declared.command.VoucherRedemption.{VoucherRedemption}
use Rattle.commands.specs.declared.request.Request.{Request}
use Rattle.decisions.specs.Decisions.{Decision, answer_of}
use Rattle.decisions.specs.Services.{is_known}
use Rattle.keepers.specs.declared.kept_answer.KeptAnswer.{KeptAnswer}
use Rattle.ledger.specs.Ledger.{Ledger, next_bucket}
use Rattle.ledger.specs.Requests.{credited, with_bar}
use Rattle.shelves.specs.Shelves.{Shelf, book_at}
use Rattle.units.specs.Words.{Moment, no_end}
use Rattle.voucher_rules.specs.Adding.{addition}
use Rattle.voucher_rules.specs.Redeeming.{redemption}
use Rattle.voucher_rules.specs.declared.redeeming.RedeemRefusal.{RedeemRefusal}
use Rattle.voucher_rules.specs.declared.redeeming.RedeemRefusal.TheVariants as refusal
use Rattle.voucher_rules.specs.declared.redeeming.Redemption.{Redemption}
use Rattle.voucher_rules.specs.declared.voucher.Voucher.{Voucher}

-- ---- repeats

abbrev pub same_content : Content → Content → Bool
same_content (content.Request r) (content.Request q) = same_request r q
same_content (content.Credit c) (content.Credit d) = same_credit c d
same_content (content.Allow a) (content.Allow d) = same_allowance a d
same_content (content.Redeem r) (content.Redeem q) = same_redemption r q
same_content x y = false

-- a command whose key is kept: with the same content it gets its first answer, else it is at fault
abbrev pub repeated : KeptAnswer → Content → Answer → Answer
repeated kept new conflict = if same_content kept.content new then kept.answer else conflict

abbrev pub unless_kept : Option KeptAnswer → Content → Answer → History → CommandOutcome →
    CommandOutcome
unless_kept kept new conflict h fresh = by_kept kept
  where
    by_kept : Option KeptAnswer → CommandOutcome
    by_kept None = fresh
    by_kept (Some kept) = only_told (repeated kept new conflict) h

-- ---- requests

-- the answer of a request that isn't accepted for this reason
abbrev pub failed : Request → Failure → Answer
failed r failure = answer.Request (answer_of r (Failed failure))

abbrev pub decided_by : Request → Decision → History → CommandOutcome
decided_by r d h =
    if d.accepted
    then keeping (content.Request r) (answer.Request (answer_of r d.outcome)) d.after h
    else only_told (answer.Request (answer_of r d.outcome)) h

-- ---- credits

-- without a beginning a credit is usable from the moment on, without an end for good
abbrev pub from_of : Credit → Moment → Moment
from_of c t = unwrap_or c.from t

abbrev pub until_of : Credit → Moment
until_of c = unwrap_or c.until no_end

-- it is of nothing, or there is no moment left at which it could be used
abbrev pub is_unusable : Credit → Moment → Bool
is_unusable c t = c.amount == 0 || (nat_le (until_of c) (from_of c t) || nat_le (until_of c) t)

abbrev pub is_out_of_range : Credit → Moment → Ledger → Bool
is_out_of_range c t ledger = is_unusable c t || is_full ledger

abbrev pub new_credit : Credit → Moment → History → CommandOutcome
new_credit c t h =
    if is_out_of_range c t h.ledger
    then only_told (answer.Refused OutOfRange) h
    else keeping (content.Credit c) (answer.Bucket (next_bucket h.ledger))
    (credited t Money (from_of c t) (until_of c) c.scope c.amount h.ledger) h

-- ---- allowances

-- without a beginning an allowance is usable from the moment on, without an end for good
abbrev pub begin_of : Allowance → Moment → Moment
begin_of a t = unwrap_or a.from t

abbrev pub end_of : Allowance → Moment
end_of a = unwrap_or a.until no_end

-- there is no moment left at which it could be used
abbrev pub is_over : Allowance → Moment → Bool
is_over a t = nat_le (end_of a) (begin_of a t) || nat_le (end_of a) t

-- why it is refused
abbrev pub allowance_refusal : Shelf → Allowance → Moment → Ledger → Option Refusal
allowance_refusal b a t ledger =
    if is_over a t || is_full ledger then Some OutOfRange
    else (if is_known (book_at b t) a.scope then None else Some ScopeUnknown)

-- else it is a credit in blocks of the group
abbrev pub allowed_unless : Option Refusal → Allowance → Moment → History → CommandOutcome
allowed_unless refusal a t h = by_refusal refusal
  where
    by_refusal : Option Refusal → CommandOutcome
    by_refusal (Some refusal) = only_told (answer.Refused refusal) h
    by_refusal None = keeping (content.Allow a) (answer.Bucket (next_bucket h.ledger))
        (credited t Blocks (begin_of a t) (end_of a) (Some a.scope) a.blocks h.ledger) h

abbrev pub new_allowance : Shelf → Allowance → Moment → History → CommandOutcome
new_allowance b a t h = allowed_unless (allowance_refusal b a t h.ledger) a t h

-- ---- vouchers

abbrev pub refused_as : RedeemRefusal → Refusal
refused_as refusal.VoucherUnknown = VoucherUnknown
refused_as refusal.VoucherSpent = VoucherSpent
refused_as refusal.EndOutOfRange = OutOfRange

-- its bucket is a credit's
abbrev pub redeemed_outcome : Redemption → VoucherRedemption → Moment → History → CommandOutcome
redeemed_outcome x r t h =
    if is_full h.ledger
    then only_told (answer.Refused OutOfRange) h
    else keeping (content.Redeem r) (answer.Bucket (next_bucket h.ledger))
    (credited t Money x.from x.until x.scope x.amount h.ledger) h

abbrev pub redemption_outcome : Result Redemption RedeemRefusal → VoucherRedemption → Moment →
    History → CommandOutcome
redemption_outcome result r t h = by_result result
  where
    by_result : Result Redemption RedeemRefusal → CommandOutcome
    by_result (Err refusal) = only_told (answer.Refused (refused_as refusal)) h
    by_result (Ok x) = redeemed_outcome x r t h

abbrev pub new_redemption : Shelf → Option Voucher → VoucherRedemption → Moment → History →
    CommandOutcome
new_redemption b standing r t h =
    redemption_outcome (redemption (book_days b) standing r.account t) r t h

-- ---- a command

abbrev pub with_ledger : Ledger → History → History
with_ledger ledger h = record { opened = h.opened; ledger = ledger; kept = h.kept }

-- of an account that is there
abbrev pub opened_outcome : Shelf → Option Voucher → History → Command → Moment → CommandOutcome
opened_outcome b standing h c t = by_command c
  where
    by_command : Command → CommandOutcome
    by_command (command.Ccr r) = request_outcome b r t h
    by_command (command.OpenAccount n) = only_told (answer.Refused AccountExists) h
    by_command (command.Credit c) = credit_outcome c t h
    by_command (command.Allow a) = allowance_outcome b a t h
    by_command (command.Bar n) = done answer.Done (with_ledger (with_bar t true h.ledger) h)
    by_command (command.Unbar n) = done answer.Done (with_ledger (with_bar t false h.ledger) h)
    by_command (command.AddVoucher v) = addition_outcome (addition standing v.terms) h
    by_command (command.Redeem r) = redeem_outcome b standing r t h
    by_command command.Sweep = only_told answer.Done h
    by_command (command.Balance n) = only_told (answer.Balance (account_balance b n t h.ledger)) h

-- of an account that isn't: it can be opened
abbrev pub unopened_outcome : Option Voucher → History → Command → CommandOutcome
unopened_outcome standing h (command.Ccr r) = only_told (failed r UserUnknown) h
unopened_outcome standing h (command.OpenAccount n) = done answer.Done (record h { opened = true })
unopened_outcome standing h (command.AddVoucher v) =
    addition_outcome (addition standing v.terms) h
unopened_outcome standing h command.Sweep = only_told answer.Done h
unopened_outcome standing h _ = only_told (answer.Refused AccountUnknown) h
