-- An account that was never opened has an empty ledger, and nothing is kept of it.
use Rattle.std.proofs.Common.{◌≡◌, ℕ, Bool, true, false, true≢false, List, [], ◌∷◌, refl, sym, ap}
use Rattle.std.proofs.Common.{subst, ◌∙◌, Option, Some, None}
use Rattle.std.specs.Prelude.{if◌then◌else◌, Result, Ok, Err}
use Rattle.std.specs.List.{find}
use Rattle.commands.specs.declared.command.Command.{Command}
use Rattle.commands.specs.declared.command.Command.TheVariants as command
use Rattle.commands.specs.declared.answer.Answer.{Answer}
use Rattle.commands.specs.declared.answer.Answer.TheVariants as answer
use Rattle.commands.specs.declared.answer.Failure.TheVariants.{InvalidAvpValue}
use Rattle.commands.specs.declared.answer.Refusal.TheVariants.{ContentDiffers, OutOfRange}
use Rattle.commands.specs.declared.avp.Avp.TheVariants.{RequestNumber}
use Rattle.commands.specs.declared.allowance.Allowance.{Allowance}
use Rattle.commands.specs.declared.answer.Refusal.{Refusal}
use Rattle.commands.specs.declared.command.Content.{Content}
use Rattle.commands.specs.declared.command.Content.TheVariants as content
use Rattle.commands.specs.declared.command.Credit.{Credit}
use Rattle.commands.specs.declared.request.Request.{Request}
use Rattle.commands.specs.declared.command.VoucherRedemption.{VoucherRedemption}
use Rattle.commands.specs.declared.key.Key.{Key}
use Rattle.commands.specs.Keys.{key_of}
use Rattle.voucher_rules.specs.declared.adding.Addition.{Addition}
use Rattle.voucher_rules.specs.declared.adding.Addition.TheVariants.{New, Present, Conflicting}
use Rattle.voucher_rules.specs.declared.redeeming.Redemption.{Redemption}
use Rattle.voucher_rules.specs.declared.redeeming.RedeemRefusal.{RedeemRefusal}
use Rattle.voucher_rules.specs.declared.voucher.Voucher.{Voucher}
use Rattle.voucher_rules.specs.Adding.{addition}
use Rattle.voucher_rules.specs.Redeeming.{redemption}
use Rattle.shelves.specs.Shelves.{Shelf}
use Rattle.buckets.specs.declared.kind.BucketKind.TheVariants.{Money}
use Rattle.ledger.specs.Ledger.{next_bucket}
use Rattle.ledger.specs.Requests.{credited}
use Rattle.reserving.proofs.Lists.{no_some}
use Rattle.decisions.specs.Decisions.{Decision, decision, answer_of, is_read}
use Rattle.keepers.specs.declared.kept_answer.KeptAnswer.{KeptAnswer}
use Rattle.charging.specs.Histories.{History, is_kept_under, kept_under}
use Rattle.charging.specs.Accepted.{Accepted, CommandOutcome, concerned_by, names}
use Rattle.charging.specs.Outcomes.{outcome, only_told, keeping, request_outcome, is_full}
use Rattle.charging.specs.Outcomes.{addition_outcome, book_days}
use Rattle.charging.specs.OutcomeParts.{opened_outcome, unopened_outcome, unless_kept, failed}
use Rattle.charging.specs.OutcomeParts.{decided_by, from_of, until_of, is_out_of_range, new_credit}
use Rattle.charging.specs.OutcomeParts.{allowance_refusal, allowed_unless, new_allowance}
use Rattle.charging.specs.OutcomeParts.{redeemed_outcome, redemption_outcome, new_redemption}
use Rattle.charging.specs.Served.{history, standing}

-- ---- an account that is there stays

kept_stays : (o : Option KeptAnswer) (new : Content) (conflict : Answer) (h : History)
    (fresh : CommandOutcome) → fresh.after.opened ≡ h.opened →
    (unless_kept o new conflict h fresh).after.opened ≡ h.opened
kept_stays None new conflict h fresh e = e
kept_stays (Some kept) new conflict h fresh e = refl

decided_stays : (r : Request) (d : Decision) (h : History) →
    (decided_by r d h).after.opened ≡ h.opened
decided_stays r d h = at d.accepted
  where
    at : (v : Bool) →
        (if v then keeping (content.Request r) (answer.Request (answer_of r d.outcome)) d.after h
        else only_told (answer.Request (answer_of r d.outcome)) h).after.opened ≡ h.opened
    at true = refl
    at false = refl

request_stays : (b : Shelf) (r : Request) (t : ℕ) (h : History) →
    (request_outcome b r t h).after.opened ≡ h.opened
request_stays b r t h = at (is_read r.ask)
  where
    at : (v : Bool) →
        (if v then only_told (answer.Request (answer_of r (decision b t r h.ledger).outcome)) h
        else unless_kept (kept_under (key_of (content.Request r)) h) (content.Request r)
        (failed r (InvalidAvpValue RequestNumber)) h
        (decided_by r (decision b t r h.ledger) h)).after.opened ≡ h.opened
    at true = refl
    at false = kept_stays (kept_under (key_of (content.Request r)) h) (content.Request r)
        (failed r (InvalidAvpValue RequestNumber)) h (decided_by r (decision b t r h.ledger) h)
        (decided_stays r (decision b t r h.ledger) h)

credit_stays : (c : Credit) (t : ℕ) (h : History) → (new_credit c t h).after.opened ≡ h.opened
credit_stays c t h = at (is_out_of_range c t h.ledger)
  where
    at : (v : Bool) → (if v then only_told (answer.Refused OutOfRange) h
        else keeping (content.Credit c) (answer.Bucket (next_bucket h.ledger))
        (credited t Money (from_of c t) (until_of c) c.scope c.amount h.ledger) h).after.opened ≡
        h.opened
    at true = refl
    at false = refl

allowed_stays : (o : Option Refusal) (a : Allowance) (t : ℕ) (h : History) →
    (allowed_unless o a t h).after.opened ≡ h.opened
allowed_stays (Some refusal) a t h = refl
allowed_stays None a t h = refl

redeemed_stays : (x : Redemption) (r : VoucherRedemption) (t : ℕ) (h : History) →
    (redeemed_outcome x r t h).after.opened ≡ h.opened
redeemed_stays x r t h = at (is_full h.ledger)
  where
    at : (v : Bool) → (if v then only_told (answer.Refused OutOfRange) h
        else keeping (content.Redeem r) (answer.Bucket (next_bucket h.ledger))
        (credited t Money x.from x.until x.scope x.amount h.ledger) h).after.opened ≡ h.opened
    at true = refl
    at false = refl

redemption_stays : (o : Result Redemption RedeemRefusal) (r : VoucherRedemption) (t : ℕ)
    (h : History) → (redemption_outcome o r t h).after.opened ≡ h.opened
redemption_stays (Ok x) r t h = redeemed_stays x r t h
redemption_stays (Err refusal) r t h = refl

-- a voucher that is added changes no history
pub addition_same : (x : Addition) (h : History) → (addition_outcome x h).after ≡ h
addition_same (New voucher) h = refl
addition_same Present h = refl
addition_same Conflicting h = refl

opened_stays : (b : Shelf) (s : Option Voucher) (h : History) (c : Command) (t : ℕ) →
    (opened_outcome b s h c t).after.opened ≡ h.opened
opened_stays b s h (command.Ccr r) t = request_stays b r t h
opened_stays b s h (command.OpenAccount n) t = refl
opened_stays b s h (command.Credit c) t =
    kept_stays (kept_under (key_of (content.Credit c)) h) (content.Credit c)
    (answer.Refused ContentDiffers) h (new_credit c t h) (credit_stays c t h)
opened_stays b s h (command.Allow a) t =
    kept_stays (kept_under (key_of (content.Allow a)) h) (content.Allow a)
    (answer.Refused ContentDiffers) h (new_allowance b a t h)
    (allowed_stays (allowance_refusal b a t h.ledger) a t h)
opened_stays b s h (command.Bar n) t = refl
opened_stays b s h (command.Unbar n) t = refl
opened_stays b s h (command.AddVoucher v) t =
    λ i. (addition_same (addition s v.terms) h i).opened
opened_stays b s h (command.Redeem r) t =
    kept_stays (kept_under (key_of (content.Redeem r)) h) (content.Redeem r)
    (answer.Refused ContentDiffers) h (new_redemption b s r t h)
    (redemption_stays (redemption (book_days b) s r.account t) r t h)
opened_stays b s h command.Sweep t = refl
opened_stays b s h (command.Balance n) t = refl

-- ---- before it is opened nothing is written

abbrev IsEmpty : History → Type 0
IsEmpty h = (h.ledger ≡ []) × (h.kept ≡ [])

unopened_empty : (s : Option Voucher) (h : History) (c : Command) → IsEmpty h →
    IsEmpty (unopened_outcome s h c).after
unopened_empty s h (command.Ccr r) e = e
unopened_empty s h (command.OpenAccount n) e = e
unopened_empty s h (command.Credit c) e = e
unopened_empty s h (command.Allow a) e = e
unopened_empty s h (command.Bar n) e = e
unopened_empty s h (command.Unbar n) e = e
unopened_empty s h (command.AddVoucher v) e =
    subst IsEmpty (sym (addition_same (addition s v.terms) h)) e
unopened_empty s h (command.Redeem r) e = e
unopened_empty s h command.Sweep e = e
unopened_empty s h (command.Balance n) e = e

outcome_empty : (b : Shelf) (s : Option Voucher) (h : History) (c : Command) (t : ℕ) →
    (h.opened ≡ false → IsEmpty h) → (outcome b s h c t).after.opened ≡ false →
    IsEmpty (outcome b s h c t).after
outcome_empty b s h c t empty = at h.opened refl
  where
    at : (v : Bool) → h.opened ≡ v →
        (if v then opened_outcome b s h c t else unopened_outcome s h c).after.opened ≡ false →
        IsEmpty (if v then opened_outcome b s h c t else unopened_outcome s h c).after
    at true opened e = absurd (true≢false (sym opened ∙ sym (opened_stays b s h c t) ∙ e))
    at false opened e = unopened_empty s h c (empty opened)

unopened-empty : (b : Shelf) (a : List ℕ) (list : List Accepted) →
    (history b a list).opened ≡ false → IsEmpty (history b a list)
unopened-empty b a [] e = (refl, refl)
unopened-empty b a (d ∷ before) e =
    at (names a (concerned_by d.command)) (unopened-empty b a before) e
  where
    at : (v : Bool) → ((history b a before).opened ≡ false → IsEmpty (history b a before)) →
        (if v then (outcome b (standing b d.command before) (history b a before) d.command
        d.moment).after
        else history b a before).opened ≡ false →
        IsEmpty (if v then (outcome b (standing b d.command before) (history b a before) d.command
        d.moment).after
        else history b a before)
    at true empty closed = outcome_empty b (standing b d.command before) (history b a before)
        d.command d.moment empty closed
    at false empty closed = empty closed

pub unopened-ledger : (b : Shelf) (a : List ℕ) (list : List Accepted) →
    (history b a list).opened ≡ false → (history b a list).ledger ≡ []
unopened-ledger b a list e = (unopened-empty b a list e).0

-- an account of which something is kept was opened
pub kept-opened : (b : Shelf) (a : List ℕ) (list : List Accepted) (k : Key) (kept : KeptAnswer) →
    kept_under k (history b a list) ≡ Some kept → (history b a list).opened ≡ true
kept-opened b a list k kept is = at (history b a list).opened refl
  where
    at : (v : Bool) → (history b a list).opened ≡ v → (history b a list).opened ≡ true
    at true e = e
    at false e = absurd (no_some kept
        (sym (ap (find (is_kept_under k)) (unopened-empty b a list e).1) ∙ is))
