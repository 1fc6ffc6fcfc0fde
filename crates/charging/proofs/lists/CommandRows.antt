-- The rows of an account's history stay within their rules over each command.
use Rattle.std.proofs.Common.{◌≡◌, ℕ, ◌≤◌, Bool, true, false, refl, sym, Option, Some, None}
use Rattle.std.proofs.Common.{Ok, Err}
use Rattle.std.specs.Prelude.{if◌then◌else◌, ◌||◌, Result}
use Rattle.std.proofs.lemmas.Bool.{or_parts}
use Rattle.buckets.specs.declared.kind.BucketKind.TheVariants.{Money, Blocks}
use Rattle.commands.specs.declared.allowance.Allowance.{Allowance}
use Rattle.commands.specs.declared.answer.Answer.{Answer}
use Rattle.commands.specs.declared.answer.Refusal.{Refusal}
use Rattle.commands.specs.declared.answer.Refusal.TheVariants.{OutOfRange, ScopeUnknown}
use Rattle.commands.specs.declared.command.Command.{Command}
use Rattle.commands.specs.declared.command.Command.TheVariants as command
use Rattle.commands.specs.declared.command.Content.{Content}
use Rattle.commands.specs.declared.command.Content.TheVariants as content
use Rattle.commands.specs.declared.command.Credit.{Credit}
use Rattle.commands.specs.declared.command.VoucherRedemption.{VoucherRedemption}
use Rattle.commands.specs.declared.request.Request.{Request}
use Rattle.commands.specs.Keys.{key_of}
use Rattle.decisions.specs.Decisions.{Decision, decision, is_read}
use Rattle.decisions.specs.Services.{is_known}
use Rattle.keepers.specs.declared.kept_answer.KeptAnswer.{KeptAnswer}
use Rattle.ledger.specs.Ledger.{Ledger, next_bucket}
use Rattle.reserving.proofs.Lists.{no_some}
use Rattle.shelves.specs.Shelves.{Shelf, IsShelf, book_at}
use Rattle.voucher_rules.specs.Adding.{addition}
use Rattle.voucher_rules.specs.Redeeming.{redemption}
use Rattle.voucher_rules.specs.declared.adding.Addition.{Addition}
use Rattle.voucher_rules.specs.declared.adding.Addition.TheVariants.{New, Present, Conflicting}
use Rattle.voucher_rules.specs.declared.redeeming.RedeemRefusal.{RedeemRefusal}
use Rattle.voucher_rules.specs.declared.redeeming.Redemption.{Redemption}
use Rattle.voucher_rules.specs.declared.voucher.Voucher.{Voucher}
use Rattle.charging.specs.Accepted.{CommandOutcome}
use Rattle.charging.specs.Histories.{History, kept_under}
use Rattle.charging.specs.OutcomeParts.{allowance_refusal, allowed_unless, begin_of, decided_by}
use Rattle.charging.specs.OutcomeParts.{end_of, from_of, is_out_of_range, is_over, is_unusable}
use Rattle.charging.specs.OutcomeParts.{new_credit, new_redemption, opened_outcome}
use Rattle.charging.specs.OutcomeParts.{redemption_outcome, unless_kept, unopened_outcome, until_of}
use Rattle.charging.specs.Outcomes.{addition_outcome, allowance_outcome, book_days, credit_outcome}
use Rattle.charging.specs.Outcomes.{is_full, outcome, redeem_outcome, request_outcome}
use Rattle.charging.proofs.lists.RequestRows.{request_rows}
use Rattle.charging.proofs.lists.RowsKept.{AreRows, not_above, rows_barred, rows_credited}
use Rattle.ledger.specs.SoundLedger.{IsSoundLedger}

-- a bucket more has a number
has_room : (ledger : Ledger) → is_full ledger ≡ false → next_bucket ledger ≤ 4294967295
has_room ledger e = not_above 4294967295 (next_bucket ledger) e

-- an allowance that isn't refused
not_refused : (out known : Bool) →
    (if out then Some OutOfRange else (if known then None else Some ScopeUnknown)) ≡ None →
    out ≡ false
not_refused true known e = absurd (no_some OutOfRange (sym e))
not_refused false known e = refl

module _ (b : Shelf) (shelf : IsShelf b) (t : ℕ) where
  either_outcome : (c : Bool) (x y : CommandOutcome) → (c ≡ true → AreRows b t x.after.ledger) →
      (c ≡ false → AreRows b t y.after.ledger) → AreRows b t (if c then x else y).after.ledger
  either_outcome true x y p q = p refl
  either_outcome false x y p q = q refl

  unless_repeated : (o : Option KeptAnswer) (new : Content) (conflict : Answer) (h : History)
      (fresh : CommandOutcome) → AreRows b t h.ledger → AreRows b t fresh.after.ledger →
      AreRows b t (unless_kept o new conflict h fresh).after.ledger
  unless_repeated None new conflict h fresh p q = q
  unless_repeated (Some kept) new conflict h fresh p q = p

  request : (r : Request) (h : History) → IsSoundLedger h.ledger → AreRows b t h.ledger →
      AreRows b t (request_outcome b r t h).after.ledger
  request r h sound p =
      let d : Decision = decision b t r h.ledger in
      either_outcome (is_read r.ask) _ _ (λ e. p)
      (λ e. unless_repeated (kept_under (key_of (content.Request r)) h) (content.Request r) _ h
      (decided_by r d h) p
      (either_outcome d.accepted _ _
      (λ k. request_rows b shelf t r.session r.number r.ask h.ledger sound p) (λ k. p)))

  credit : (c : Credit) (h : History) → AreRows b t h.ledger →
      AreRows b t (credit_outcome c t h).after.ledger
  credit c h p =
      unless_repeated (kept_under (key_of (content.Credit c)) h) (content.Credit c) _ h
      (new_credit c t h) p
      (either_outcome (is_out_of_range c t h.ledger) _ _ (λ e. p)
      (λ e. rows_credited b t Money (from_of c t) (until_of c) c.scope c.amount h.ledger
      (has_room h.ledger (or_parts (is_unusable c t) (is_full h.ledger) e).1) tt p))

  allowed : (o : Option Refusal) (a : Allowance) (h : History) →
      (o ≡ None → next_bucket h.ledger ≤ 4294967295) → AreRows b t h.ledger →
      AreRows b t (allowed_unless o a t h).after.ledger
  allowed (Some refusal) a h room p = p
  allowed None a h room p =
      rows_credited b t Blocks (begin_of a t) (end_of a) (Some a.scope) a.blocks h.ledger
      (room refl) refl p

  allowance : (a : Allowance) (h : History) → AreRows b t h.ledger →
      AreRows b t (allowance_outcome b a t h).after.ledger
  allowance a h p =
      let refusal : Option Refusal = allowance_refusal b a t h.ledger in
      unless_repeated (kept_under (key_of (content.Allow a)) h) (content.Allow a) _ h
      (allowed_unless refusal a t h) p
      (allowed refusal a h
      (λ e. has_room h.ledger (or_parts (is_over a t) (is_full h.ledger)
      (not_refused (is_over a t || is_full h.ledger) (is_known (book_at b t) a.scope) e)).1) p)

  redeemed : (o : Result Redemption RedeemRefusal) (r : VoucherRedemption) (h : History) →
      AreRows b t h.ledger → AreRows b t (redemption_outcome o r t h).after.ledger
  redeemed (Err refusal) r h p = p
  redeemed (Ok x) r h p =
      either_outcome (is_full h.ledger) _ _ (λ e. p)
      (λ e. rows_credited b t Money x.from x.until x.scope x.amount h.ledger (has_room h.ledger e)
      tt p)

  redemptions : (s : Option Voucher) (r : VoucherRedemption) (h : History) → AreRows b t h.ledger →
      AreRows b t (redeem_outcome b s r t h).after.ledger
  redemptions s r h p =
      unless_repeated (kept_under (key_of (content.Redeem r)) h) (content.Redeem r) _ h
      (new_redemption b s r t h) p
      (redeemed (redemption (book_days b) s r.account t) r h p)

  added : (x : Addition) (h : History) → AreRows b t h.ledger →
      AreRows b t (addition_outcome x h).after.ledger
  added (New voucher) h p = p
  added Present h p = p
  added Conflicting h p = p

  opened : (s : Option Voucher) (h : History) (c : Command) → IsSoundLedger h.ledger →
      AreRows b t h.ledger → AreRows b t (opened_outcome b s h c t).after.ledger
  opened s h (command.Ccr r) sound p = request r h sound p
  opened s h (command.OpenAccount n) sound p = p
  opened s h (command.Credit c) sound p = credit c h p
  opened s h (command.Allow a) sound p = allowance a h p
  opened s h (command.Bar n) sound p = rows_barred b t true h.ledger p
  opened s h (command.Unbar n) sound p = rows_barred b t false h.ledger p
  opened s h (command.AddVoucher v) sound p = added (addition s v.terms) h p
  opened s h (command.Redeem r) sound p = redemptions s r h p
  opened s h command.Sweep sound p = p
  opened s h (command.Balance n) sound p = p

  unopened : (s : Option Voucher) (h : History) (c : Command) → AreRows b t h.ledger →
      AreRows b t (unopened_outcome s h c).after.ledger
  unopened s h (command.Ccr r) p = p
  unopened s h (command.OpenAccount n) p = p
  unopened s h (command.Credit c) p = p
  unopened s h (command.Allow a) p = p
  unopened s h (command.Bar n) p = p
  unopened s h (command.Unbar n) p = p
  unopened s h (command.AddVoucher v) p = added (addition s v.terms) h p
  unopened s h (command.Redeem r) p = p
  unopened s h command.Sweep p = p
  unopened s h (command.Balance n) p = p

  -- rule: runs.finite-rows
  pub outcome_rows : (s : Option Voucher) (h : History) (c : Command) → IsSoundLedger h.ledger →
      AreRows b t h.ledger → AreRows b t (outcome b s h c t).after.ledger
  outcome_rows s h c sound p =
      either_outcome h.opened (opened_outcome b s h c t) (unopened_outcome s h c)
      (λ e. opened s h c sound p) (λ e. unopened s h c p)
