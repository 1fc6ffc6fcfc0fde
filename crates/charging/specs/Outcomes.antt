-- What a command comes to over the voucher whose code it names and on the history of the account
-- that it names: its answer, whether it is accepted, and the history after it (requests: RFC 8506;
-- operators' commands, vouchers, keys and repeats: profile).
use Rattle.std.specs.Prelude.{◌==◌, ◌||◌, nat_le, nat_lt, Bool, true, false, if◌then◌else◌, ◌∷◌}
use Rattle.std.specs.Prelude.{Option, Some, None, Result, Ok, Err, unwrap_or}
use Rattle.units.specs.Words.{Moment, no_end, greatest_number}
use Rattle.commands.specs.Alike.{same_request, same_credit, same_allowance, same_redemption}
use Rattle.commands.specs.declared.allowance.Allowance.{Allowance}
use Rattle.commands.specs.declared.avp.Avp.TheVariants.{RequestNumber}
use Rattle.commands.specs.declared.answer.Answer.{Answer}
use Rattle.commands.specs.declared.answer.Answer.TheVariants as answer
use Rattle.commands.specs.declared.answer.Failure.TheVariants.{UserUnknown, InvalidAvpValue}
use Rattle.commands.specs.declared.answer.Outcome.TheVariants.{Failed}
use Rattle.commands.specs.declared.answer.Refusal.{Refusal}
use Rattle.commands.specs.declared.answer.Refusal.TheVariants.{AccountExists, AccountUnknown}
use Rattle.commands.specs.declared.answer.Refusal.TheVariants.{VoucherUnknown, VoucherSpent}
use Rattle.commands.specs.declared.answer.Refusal.TheVariants.{ContentDiffers, OutOfRange}
use Rattle.commands.specs.declared.answer.Refusal.TheVariants.{ScopeUnknown}
use Rattle.commands.specs.declared.command.Command.{Command}
use Rattle.commands.specs.declared.command.Command.TheVariants as command
use Rattle.commands.specs.declared.command.Content.{Content}
use Rattle.commands.specs.declared.command.Content.TheVariants as content
use Rattle.commands.specs.declared.command.Credit.{Credit}
use Rattle.commands.specs.declared.command.VoucherRedemption.{VoucherRedemption}
use Rattle.commands.specs.declared.request.Request.{Request}
use Rattle.commands.specs.Keys.{key_of}
use Rattle.calendar.specs.Timetable.{day_end}
use Rattle.voucher_rules.specs.declared.adding.Addition.{Addition}
use Rattle.voucher_rules.specs.declared.adding.Addition.TheVariants.{New, Present, Conflicting}
use Rattle.voucher_rules.specs.declared.redeeming.Redemption.{Redemption}
use Rattle.voucher_rules.specs.declared.redeeming.RedeemRefusal.{RedeemRefusal}
use Rattle.voucher_rules.specs.declared.redeeming.RedeemRefusal.TheVariants as refusal
use Rattle.voucher_rules.specs.declared.voucher.Voucher.{Voucher}
use Rattle.voucher_rules.specs.Adding.{addition}
use Rattle.voucher_rules.specs.Redeeming.{DayEnds, redemption}
use Rattle.shelves.specs.Shelves.{Shelf, book_at}
use Rattle.buckets.specs.declared.kind.BucketKind.TheVariants.{Money, Blocks}
use Rattle.ledger.specs.Ledger.{Ledger, next_bucket}
use Rattle.ledger.specs.Requests.{credited, with_bar}
use Rattle.decisions.specs.Decisions.{Decision, decision, answer_of, is_read}
use Rattle.decisions.specs.Services.{is_known}
use Rattle.keepers.specs.declared.kept_answer.KeptAnswer.{KeptAnswer}
use Rattle.charging.specs.Balances.{account_balance}
use Rattle.charging.specs.Histories.{History, kept_under}
use Rattle.charging.specs.Accepted.{CommandOutcome}

-- an answer that changes nothing
abbrev pub only_told : Answer → History → CommandOutcome
only_told given h = record { answer = given; accepted = false; after = h }

-- an accepted command without a key
abbrev pub done : Answer → History → CommandOutcome
done given after = record { answer = given; accepted = true; after = after }

-- an accepted command is kept with its answer
abbrev pub keeping : Content → Answer → Ledger → History → CommandOutcome
keeping kept given ledger h = done given (record h {
  ledger = ledger;
  kept = record { content = kept; answer = given } ∷ h.kept;
})

-- a command whose key is kept: with the same content it gets its first answer, else it is at fault
abbrev pub unless_repeated : Content → Answer → History → CommandOutcome → CommandOutcome
unless_repeated new conflict h fresh = unless_kept (kept_under (key_of new) h)
  where
    same_content : Content → Content → Bool
    same_content (content.Request r) (content.Request q) = same_request r q
    same_content (content.Credit c) (content.Credit d) = same_credit c d
    same_content (content.Allow a) (content.Allow d) = same_allowance a d
    same_content (content.Redeem r) (content.Redeem q) = same_redemption r q
    same_content x y = false

    -- rule: repeat: the first answer for a repeat
    -- rule: changed-repeat: a repeat with other content
    unless_kept : Option KeptAnswer → CommandOutcome
    unless_kept None = fresh
    unless_kept (Some kept) =
        only_told (if same_content kept.content new then kept.answer else conflict) h

-- a request
abbrev pub request_outcome : Shelf → Request → Moment → History → CommandOutcome
request_outcome b r t h =
    if is_read r.ask then only_told given h
    else unless_repeated (content.Request r)
    (answer.Request (answer_of r (Failed (InvalidAvpValue RequestNumber)))) h
    (if ruling.accepted then keeping (content.Request r) given ruling.after h
    else only_told given h)
  where
    ruling : Decision
    ruling = decision b t r h.ledger

    given : Answer
    given = answer.Request (answer_of r ruling.outcome)

-- ---- buckets

-- the next bucket would have no number
abbrev pub is_full : Ledger → Bool
is_full ledger = nat_lt greatest_number (next_bucket ledger)

-- there is no moment left at which it could be used: without a beginning it is usable from the
-- moment on, without an end for good
abbrev pub is_never_usable : Option Moment → Option Moment → Moment → Bool
is_never_usable from until t =
    nat_le (unwrap_or until no_end) (unwrap_or from t) || nat_le (unwrap_or until no_end) t

-- a credit of something
-- rule: credit: credit
abbrev pub credit_outcome : Credit → Moment → History → CommandOutcome
credit_outcome c t h =
    unless_repeated (content.Credit c) (answer.Refused ContentDiffers) h
    (if c.amount == 0 || is_never_usable c.from c.until t || is_full h.ledger
    then only_told (answer.Refused OutOfRange) h
    else keeping (content.Credit c) (answer.Bucket (next_bucket h.ledger))
    (credited t Money (unwrap_or c.from t) (unwrap_or c.until no_end) c.scope c.amount h.ledger) h)

-- an allowance is a credit in blocks of a rating group that the book at the moment has
-- rule: allowance: allowance
abbrev pub allowance_outcome : Shelf → Allowance → Moment → History → CommandOutcome
allowance_outcome b a t h =
    unless_repeated (content.Allow a) (answer.Refused ContentDiffers) h
    (unless_refused
    (if is_never_usable a.from a.until t || is_full h.ledger then Some OutOfRange
    else (if is_known (book_at b t) a.scope then None else Some ScopeUnknown)))
  where
    unless_refused : Option Refusal → CommandOutcome
    unless_refused (Some refusal) = only_told (answer.Refused refusal) h
    unless_refused None = keeping (content.Allow a) (answer.Bucket (next_bucket h.ledger))
        (credited t Blocks (unwrap_or a.from t) (unwrap_or a.until no_end) (Some a.scope) a.blocks
        h.ledger) h

-- ---- vouchers

-- a voucher that is new is accepted; one that is there with the same terms changes nothing
-- rule: voucher-add.addition-outcome: a voucher is added by a command, and moves no account
abbrev pub addition_outcome : Addition → History → CommandOutcome
addition_outcome (New voucher) h = done answer.Done h
addition_outcome Present h = only_told answer.Done h
addition_outcome Conflicting h = only_told (answer.Refused ContentDiffers) h

-- where days end by the calendar of the book at the moment
abbrev pub book_days : Shelf → DayEnds
book_days b t days = day_end (book_at b t).calendar.zone t days

-- the bucket of a voucher that is redeemed is a credit's
-- rule: redeem.redeem-outcome: a voucher is redeemed by a command, and is spent once the bucket is
--   there
abbrev pub redeem_outcome : Shelf → Option Voucher → VoucherRedemption → Moment → History →
    CommandOutcome
redeem_outcome b standing r t h =
    unless_repeated (content.Redeem r) (answer.Refused ContentDiffers) h
    (redeemed (redemption (book_days b) standing r.account t))
  where
    refused_as : RedeemRefusal → Refusal
    refused_as refusal.VoucherUnknown = VoucherUnknown
    refused_as refusal.VoucherSpent = VoucherSpent
    refused_as refusal.EndOutOfRange = OutOfRange

    redeemed : Result Redemption RedeemRefusal → CommandOutcome
    redeemed (Err refusal) = only_told (answer.Refused (refused_as refusal)) h
    redeemed (Ok x) =
        if is_full h.ledger
        then only_told (answer.Refused OutOfRange) h
        else keeping (content.Redeem r) (answer.Bucket (next_bucket h.ledger))
        (credited t Money x.from x.until x.scope x.amount h.ledger) h

-- ---- a command

-- on the history of an account that is there, and of one that isn't, which can be opened
-- rule: unknown-account: a request of an account that isn't there
-- rule: open: an account is opened
-- rule: bar: bar and unbar
abbrev pub outcome : Shelf → Option Voucher → History → Command → Moment → CommandOutcome
outcome b standing h c t = if h.opened then opened c else unopened c
  where
    opened : Command → CommandOutcome
    opened (command.Ccr r) = request_outcome b r t h
    opened (command.OpenAccount n) = only_told (answer.Refused AccountExists) h
    opened (command.Credit c) = credit_outcome c t h
    opened (command.Allow a) = allowance_outcome b a t h
    opened (command.Bar n) = done answer.Done (record h { ledger = with_bar t true h.ledger })
    opened (command.Unbar n) = done answer.Done (record h { ledger = with_bar t false h.ledger })
    opened (command.AddVoucher v) = addition_outcome (addition standing v.terms) h
    opened (command.Redeem r) = redeem_outcome b standing r t h
    opened command.Sweep = only_told answer.Done h
    opened (command.Balance n) = only_told (answer.Balance (account_balance b n t h.ledger)) h

    unopened : Command → CommandOutcome
    unopened (command.Ccr r) =
        only_told (answer.Request (answer_of r (Failed UserUnknown))) h
    unopened (command.OpenAccount n) = done answer.Done (record h { opened = true })
    unopened (command.AddVoucher v) = addition_outcome (addition standing v.terms) h
    unopened command.Sweep = only_told answer.Done h
    unopened _ = only_told (answer.Refused AccountUnknown) h
