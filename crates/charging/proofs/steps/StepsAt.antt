-- What each step of a ledger at a moment keeps, where the step's session is live or new, each
-- command at that moment keeps.
use Rattle.std.proofs.Common.{◌≡◌, ℕ, Bool, true, false, List, [], ◌∷◌, refl, sym, Option, Some}
use Rattle.std.proofs.Common.{None}
use Rattle.std.specs.Prelude.{if◌then◌else◌, not, is_some, nat_lt, option_map, Result, Ok, Err}
use Rattle.commands.specs.declared.answer.Answer.{Answer}
use Rattle.commands.specs.declared.answer.Failure.{Failure}
use Rattle.commands.specs.declared.answer.Failure.TheVariants.{UnknownSessionId}
use Rattle.commands.specs.declared.answer.Refusal.{Refusal}
use Rattle.commands.specs.declared.avp.Avp.TheVariants.{SessionId}
use Rattle.commands.specs.declared.allowance.Allowance.{Allowance}
use Rattle.commands.specs.declared.command.Command.{Command}
use Rattle.commands.specs.declared.command.Command.TheVariants as command
use Rattle.commands.specs.declared.command.Content.{Content}
use Rattle.commands.specs.declared.command.Content.TheVariants as content
use Rattle.commands.specs.declared.command.Credit.{Credit}
use Rattle.commands.specs.declared.command.VoucherRedemption.{VoucherRedemption}
use Rattle.commands.specs.declared.request.Ask.{Ask}
use Rattle.commands.specs.declared.request.Ask.TheVariants.{Initial, Update, Termination}
use Rattle.commands.specs.declared.request.Ask.TheVariants.{Event as Debit, Refund}
use Rattle.commands.specs.declared.request.Event.{Event}
use Rattle.commands.specs.declared.request.EventAction.{EventAction}
use Rattle.commands.specs.declared.request.EventAction.TheVariants.{DirectDebiting, CheckBalance}
use Rattle.commands.specs.declared.request.EventAction.TheVariants.{PriceEnquiry}
use Rattle.commands.specs.declared.request.Request.{Request}
use Rattle.commands.specs.declared.service.Service.{Service}
use Rattle.commands.specs.declared.service.Requested.{Requested}
use Rattle.commands.specs.Refunds.{Refunded}
use Rattle.commands.specs.Keys.{key_of}
use Rattle.voucher_rules.specs.declared.adding.Addition.{Addition}
use Rattle.voucher_rules.specs.declared.adding.Addition.TheVariants.{New, Present, Conflicting}
use Rattle.voucher_rules.specs.declared.redeeming.Redemption.{Redemption}
use Rattle.voucher_rules.specs.declared.redeeming.RedeemRefusal.{RedeemRefusal}
use Rattle.voucher_rules.specs.declared.voucher.Voucher.{Voucher}
use Rattle.voucher_rules.specs.Adding.{addition}
use Rattle.voucher_rules.specs.Redeeming.{redemption}
use Rattle.shelves.specs.Shelves.{Shelf, book_at}
use Rattle.tariffs.specs.Tariffs.{GroupTariff}
use Rattle.rating.specs.declared.grant.Grant.{Grant as RatedGrant}
use Rattle.units.specs.declared.blocks.UsedPart.{UsedPart}
use Rattle.buckets.specs.declared.kind.BucketKind.{BucketKind}
use Rattle.buckets.specs.declared.kind.BucketKind.TheVariants.{Money, Blocks}
use Rattle.buckets.specs.declared.kind.Due.{Due}
use Rattle.ledger.specs.Ledger.{Ledger, Recording, or_else, is_barred, is_live, last_recording}
use Rattle.ledger.specs.Ledger.{used, next_bucket}
use Rattle.ledger.specs.Pricing.{tariff_at, validity_of}
use Rattle.ledger.specs.Requests.{recorded, touched, closed, credited, with_bar}
use Rattle.ledger.specs.Settlement.{settled_by}
use Rattle.ledger.specs.Reservation.{reserved, grant_for, held_due}
use Rattle.ledger.specs.Debiting.{debited, is_covered, debit_passes}
use Rattle.reserving.proofs.Lists.{no_some}
use Rattle.decisions.specs.Services.{is_known, units_fault, units_of, parts_of, settled_service}
use Rattle.decisions.specs.Services.{settled_services, Answered, granted, after_grants, any_grants}
use Rattle.decisions.specs.Decisions.{Decision, refused_or, event_units, debit_decision}
use Rattle.decisions.specs.Decisions.{read_refusal, refund_decision, session_refusal}
use Rattle.decisions.specs.Decisions.{settled_touched, decision, is_read}
use Rattle.decisions.specs.Parts.{invalid, granted_units, granted_if, granted_by, event_fault}
use Rattle.decisions.specs.Parts.{debit_refusal, charged_at_once, charged_by, charged_unless_barred}
use Rattle.decisions.specs.Parts.{decided_action, refund_refusal, refunded, initial_refusal, opened}
use Rattle.decisions.specs.Parts.{opened_unless_barred, updated, ended, decided}
use Rattle.keepers.specs.declared.kept_answer.KeptAnswer.{KeptAnswer}
use Rattle.charging.specs.Histories.{History, kept_under}
use Rattle.charging.specs.Accepted.{CommandOutcome}
use Rattle.charging.specs.Outcomes.{request_outcome, is_full, credit_outcome, addition_outcome}
use Rattle.charging.specs.Outcomes.{book_days, redeem_outcome, allowance_outcome, outcome}
use Rattle.charging.specs.OutcomeParts.{unless_kept, decided_by, from_of, until_of, is_out_of_range}
use Rattle.charging.specs.OutcomeParts.{new_credit, redemption_outcome, new_redemption, begin_of}
use Rattle.charging.specs.OutcomeParts.{end_of, allowance_refusal, allowed_unless, opened_outcome}
use Rattle.charging.specs.OutcomeParts.{unopened_outcome}

-- a property of a ledger is kept by each step at a moment whose session may act; one that is live
-- then may, and one without a record
pub record KeepsAt (b : Shelf) (t : ℕ) (May : List ℕ → Type 0) (P : Ledger → Type 0) : Type 0 where
  pub live : (s : List ℕ) (ledger : Ledger) → P ledger →
      is_live (validity_of b) t ledger s ≡ true → May s
  pub fresh : (s : List ℕ) (ledger : Ledger) → P ledger → last_recording s ledger ≡ None → May s
  pub bar : (barred : Bool) (ledger : Ledger) → P ledger → P (with_bar t barred ledger)
  pub credit : (kind : BucketKind) (from until : ℕ) (scope : Option ℕ) (amount : ℕ)
      (ledger : Ledger) → P ledger → P (credited t kind from until scope amount ledger)
  pub note : (s : List ℕ) (n : ℕ) (ledger : Ledger) → May s → P ledger → P (recorded t s n ledger)
  pub touch : (s : List ℕ) (n : ℕ) (ledger : Ledger) → May s → P ledger → P (touched t s n ledger)
  pub close : (s : List ℕ) (ledger : Ledger) → May s → P ledger → P (closed t s ledger)
  pub settle : (s : List ℕ) (g : ℕ) (parts : List UsedPart) (ledger : Ledger) → May s → P ledger →
      P (settled_by b t s g parts ledger)
  pub grant : (s : List ℕ) (g units : ℕ) (due : Due) (ledger : Ledger) → May s → P ledger →
      P (reserved b t s g units due ledger)
  pub event : (s : List ℕ) (g units : ℕ) (ledger : Ledger) → May s → P ledger →
      P (debited b t s g units ledger)

-- a request that isn't refused for its session is of a live one
allowed_live : (live : Bool) (other limit : Option Failure) →
    or_else (if not live then Some UnknownSessionId else other) limit ≡ None → live ≡ true
allowed_live true other limit e = refl
allowed_live false other limit e = absurd (no_some UnknownSessionId (sym e))

-- a first request that isn't refused has a new name
new_name : (o : Option Recording) (other : Option Failure) →
    (if is_some o then Some (invalid SessionId) else other) ≡ None → o ≡ None
new_name None other e = refl
new_name (Some r) other e = absurd (no_some (invalid SessionId) (sym e))

module _ (b : Shelf) (t : ℕ) (May : List ℕ → Type 0) (P : Ledger → Type 0)
    (k : KeepsAt b t May P) where
  -- ---- by a test

  either : (c : Bool) (x y : Ledger) → P x → P y → P (if c then x else y)
  either true x y p q = p
  either false x y p q = q

  either_decision : (c : Bool) (x y : Decision) → P x.after → P y.after →
      P (if c then x else y).after
  either_decision true x y p q = p
  either_decision false x y p q = q

  unless_refused : (o : Option Failure) (ledger : Ledger) (d : Decision) → P ledger →
      (o ≡ None → P d.after) → P (refused_or o ledger d).after
  unless_refused None ledger d p q = q refl
  unless_refused (Some failure) ledger d p q = p

  either_answered : (c : Bool) (x y : Answered) → P x.after → P y.after →
      P (if c then x else y).after
  either_answered true x y p q = p
  either_answered false x y p q = q

  -- ---- grants

  kept_units : (tariff : GroupTariff) (s : List ℕ) (g : ℕ) (asked : Option ℕ) (ledger : Ledger) →
      May s → P ledger → P (granted_units b tariff t s g asked ledger).after
  kept_units tariff s g asked ledger may h =
      let grant : RatedGrant = grant_for b t g (used s g ledger) asked ledger in
      either_answered (nat_lt 0 grant.units.0) _ _
      (k.grant s g grant.units.0 (held_due grant) ledger may h) h

  kept_if : (tariff : GroupTariff) (s : List ℕ) (g : ℕ) (o : Option Requested) (ledger : Ledger) →
      May s → P ledger → P (granted_if b tariff t s g o ledger).after
  kept_if tariff s g None ledger may h = h
  kept_if tariff s g (Some requested) ledger may h =
      either_answered (is_barred ledger) _ _ h
      (kept_units tariff s g (units_of requested) ledger may h)

  kept_by : (o : Option GroupTariff) (s : List ℕ) (x : Service) (ledger : Ledger) → May s →
      P ledger → P (granted_by o b t s x ledger).after
  kept_by None s x ledger may h = h
  kept_by (Some tariff) s x ledger may h = kept_if tariff s x.group x.requested ledger may h

  kept_grants : (s : List ℕ) (services : List Service) (ledger : Ledger) → May s → P ledger →
      P (after_grants b t s services ledger)
  kept_grants s [] ledger may h = h
  kept_grants s (x ∷ xs) ledger may h =
      kept_grants s xs (granted b t s x ledger).after may
      (kept_by (tariff_at b t x.group) s x ledger may h)

  -- ---- sessions

  kept_initial : (s : List ℕ) (n : ℕ) (services : List Service) (ledger : Ledger) → P ledger →
      P (decided b t s n (Initial services) ledger).after
  kept_initial s n services ledger h =
      unless_refused (initial_refusal (book_at b t) s services ledger) ledger
      (opened_unless_barred b t s n services ledger) h
      (λ free.
      let may : May s = k.fresh s ledger h
      (new_name (last_recording s ledger)
      (option_map invalid (units_fault (book_at b t) s ledger services)) free) in
      either_decision (is_barred ledger) _ (opened b t s n services ledger)
      (k.note s n ledger may h)
      (either_decision (any_grants b t ledger services) _ _
      (kept_grants s services (touched t s n ledger) may (k.touch s n ledger may h))
      (k.note s n ledger may h)))

  kept_services : (s : List ℕ) (services : List Service) (ledger : Ledger) → May s → P ledger →
      P (settled_services b t s services ledger)
  kept_services s [] ledger may h = h
  kept_services s (x ∷ xs) ledger may h =
      kept_services s xs (settled_service b t s x ledger) may
      (either (is_known (book_at b t) x.group) (settled_by b t s x.group (parts_of x.used) ledger)
      ledger (k.settle s x.group (parts_of x.used) ledger may h) h)

  kept_touched : (s : List ℕ) (n : ℕ) (services : List Service) (ledger : Ledger) → May s →
      P ledger → P (settled_touched b t s n services ledger)
  kept_touched s n services ledger may h =
      k.touch s n (settled_services b t s services ledger) may
      (kept_services s services ledger may h)

  -- a request of a session that isn't refused
  kept_session : (s : List ℕ) (n : ℕ) (services : List Service) (ledger : Ledger) (d : Decision) →
      P ledger → (May s → P d.after) →
      P (refused_or (session_refusal b t s n services ledger) ledger d).after
  kept_session s n services ledger d h f =
      unless_refused (session_refusal b t s n services ledger) ledger d h
      (λ e. f (k.live s ledger h (allowed_live (is_live (validity_of b) t ledger s) _ _ e)))

  kept_update : (s : List ℕ) (n : ℕ) (services : List Service) (ledger : Ledger) → P ledger →
      P (decided b t s n (Update services) ledger).after
  kept_update s n services ledger h =
      kept_session s n services ledger (updated b t s n services ledger) h
      (λ may. kept_grants s services (settled_touched b t s n services ledger) may
      (kept_touched s n services ledger may h))

  kept_termination : (s : List ℕ) (n : ℕ) (services : List Service) (ledger : Ledger) →
      P ledger → P (decided b t s n (Termination services) ledger).after
  kept_termination s n services ledger h =
      kept_session s n services ledger (ended b t s n services ledger) h
      (λ may. k.close s (settled_touched b t s n services ledger) may
      (kept_touched s n services ledger may h))

  -- ---- events

  kept_charged : (o : Option GroupTariff) (s : List ℕ) (n : ℕ) (e : Event) (ledger : Ledger) →
      May s → P ledger → P (charged_by o b t s n e ledger).after
  kept_charged None s n e ledger may h = k.note s n ledger may h
  kept_charged (Some tariff) s n e ledger may h =
      let units : ℕ = event_units tariff e.requested in
      either_decision (is_covered b t e.group units ledger)
      (charged_at_once b tariff t s n e.group units ledger) _
      (either_decision (debit_passes b t s e.group units ledger) _ _ h
      (k.note s n (debited b t s e.group units ledger) may
      (k.event s e.group units ledger may h)))
      (k.note s n ledger may h)

  kept_debit : (s : List ℕ) (n : ℕ) (e : Event) (ledger : Ledger) → P ledger →
      P (debit_decision b t s n e ledger).after
  kept_debit s n e ledger h =
      unless_refused (debit_refusal (book_at b t) s e ledger) ledger
      (charged_unless_barred b t s n e ledger) h
      (λ free.
      let may : May s = k.fresh s ledger h
      (new_name (last_recording s ledger) (option_map invalid (event_fault (book_at b t) e))
      free) in
      either_decision (is_barred ledger) _
      (charged_by (tariff_at b t e.group) b t s n e ledger) (k.note s n ledger may h)
      (kept_charged (tariff_at b t e.group) s n e ledger may h))

  kept_event : (action : EventAction) (s : List ℕ) (n : ℕ) (e : Event) (ledger : Ledger) →
      P ledger → P (decided_action action b t s n e ledger).after
  kept_event DirectDebiting s n e ledger h = kept_debit s n e ledger h
  kept_event CheckBalance s n e ledger h =
      unless_refused (read_refusal (book_at b t) e) ledger _ h (λ p. h)
  kept_event PriceEnquiry s n e ledger h =
      unless_refused (read_refusal (book_at b t) e) ledger _ h (λ p. h)

  kept_refund : (s : List ℕ) (n : ℕ) (r : Refunded) (ledger : Ledger) → P ledger →
      P (refund_decision b t s n r ledger).after
  kept_refund s n r ledger h =
      unless_refused (refund_refusal (book_at b t) s r ledger) ledger (refunded t s n r ledger) h
      (λ free. either_decision (nat_lt 4294967295 (next_bucket ledger)) _ _ h
      (k.note s n (credited t Money t 4102444800 None r.micros ledger)
      (k.fresh s ledger h (new_name (last_recording s ledger) _ free))
      (k.credit Money t 4102444800 None r.micros ledger h)))

  kept_decided : (s : List ℕ) (n : ℕ) (ask : Ask) (ledger : Ledger) → P ledger →
      P (decided b t s n ask ledger).after
  kept_decided s n (Initial services) ledger h = kept_initial s n services ledger h
  kept_decided s n (Update services) ledger h = kept_update s n services ledger h
  kept_decided s n (Termination services) ledger h = kept_termination s n services ledger h
  kept_decided s n (Debit e) ledger h = kept_event e.action s n e ledger h
  kept_decided s n (Refund r) ledger h = kept_refund s n r ledger h

  -- ---- commands

  either_outcome : (v : Bool) (x y : CommandOutcome) → P x.after.ledger → P y.after.ledger →
      P (if v then x else y).after.ledger
  either_outcome true x y p q = p
  either_outcome false x y p q = q

  kept_unless : (o : Option KeptAnswer) (new : Content) (conflict : Answer) (h : History)
      (fresh : CommandOutcome) → P h.ledger → P fresh.after.ledger →
      P (unless_kept o new conflict h fresh).after.ledger
  kept_unless None new conflict h fresh p q = q
  kept_unless (Some kept) new conflict h fresh p q = p

  kept_request : (r : Request) (h : History) → P h.ledger →
      P (request_outcome b r t h).after.ledger
  kept_request r h p =
      let d : Decision = decision b t r h.ledger in
      either_outcome (is_read r.ask) _ _ p
      (kept_unless (kept_under (key_of (content.Request r)) h) (content.Request r) _ h
      (decided_by r d h) p
      (either_outcome d.accepted _ _ (kept_decided r.session r.number r.ask h.ledger p) p))

  kept_credit : (c : Credit) (h : History) → P h.ledger → P (credit_outcome c t h).after.ledger
  kept_credit c h p =
      kept_unless (kept_under (key_of (content.Credit c)) h) (content.Credit c) _ h
      (new_credit c t h) p
      (either_outcome (is_out_of_range c t h.ledger) _ _ p
      (k.credit Money (from_of c t) (until_of c) c.scope c.amount h.ledger p))

  kept_allowed : (o : Option Refusal) (a : Allowance) (h : History) → P h.ledger →
      P (allowed_unless o a t h).after.ledger
  kept_allowed (Some refusal) a h p = p
  kept_allowed None a h p =
      k.credit Blocks (begin_of a t) (end_of a) (Some a.scope) a.blocks h.ledger p

  kept_allowance : (a : Allowance) (h : History) → P h.ledger →
      P (allowance_outcome b a t h).after.ledger
  kept_allowance a h p =
      kept_unless (kept_under (key_of (content.Allow a)) h) (content.Allow a) _ h
      (allowed_unless (allowance_refusal b a t h.ledger) a t h) p
      (kept_allowed (allowance_refusal b a t h.ledger) a h p)

  kept_redemption : (o : Result Redemption RedeemRefusal) (r : VoucherRedemption) (h : History) →
      P h.ledger → P (redemption_outcome o r t h).after.ledger
  kept_redemption (Err refusal) r h p = p
  kept_redemption (Ok x) r h p =
      either_outcome (is_full h.ledger) _ _ p
      (k.credit Money x.from x.until x.scope x.amount h.ledger p)

  kept_redeem : (s : Option Voucher) (r : VoucherRedemption) (h : History) → P h.ledger →
      P (redeem_outcome b s r t h).after.ledger
  kept_redeem s r h p =
      kept_unless (kept_under (key_of (content.Redeem r)) h) (content.Redeem r) _ h
      (new_redemption b s r t h) p
      (kept_redemption (redemption (book_days b) s r.account t) r h p)

  kept_addition : (x : Addition) (h : History) → P h.ledger → P (addition_outcome x h).after.ledger
  kept_addition (New voucher) h p = p
  kept_addition Present h p = p
  kept_addition Conflicting h p = p

  kept_opened : (s : Option Voucher) (h : History) (c : Command) → P h.ledger →
      P (opened_outcome b s h c t).after.ledger
  kept_opened s h (command.Ccr r) p = kept_request r h p
  kept_opened s h (command.OpenAccount n) p = p
  kept_opened s h (command.Credit c) p = kept_credit c h p
  kept_opened s h (command.Allow a) p = kept_allowance a h p
  kept_opened s h (command.Bar n) p = k.bar true h.ledger p
  kept_opened s h (command.Unbar n) p = k.bar false h.ledger p
  kept_opened s h (command.AddVoucher v) p = kept_addition (addition s v.terms) h p
  kept_opened s h (command.Redeem r) p = kept_redeem s r h p
  kept_opened s h command.Sweep p = p
  kept_opened s h (command.Balance n) p = p

  kept_unopened : (s : Option Voucher) (h : History) (c : Command) → P h.ledger →
      P (unopened_outcome s h c).after.ledger
  kept_unopened s h (command.Ccr r) p = p
  kept_unopened s h (command.OpenAccount n) p = p
  kept_unopened s h (command.Credit c) p = p
  kept_unopened s h (command.Allow a) p = p
  kept_unopened s h (command.Bar n) p = p
  kept_unopened s h (command.Unbar n) p = p
  kept_unopened s h (command.AddVoucher v) p = kept_addition (addition s v.terms) h p
  kept_unopened s h (command.Redeem r) p = p
  kept_unopened s h command.Sweep p = p
  kept_unopened s h (command.Balance n) p = p

  pub kept_outcome : (s : Option Voucher) (h : History) (c : Command) → P h.ledger →
      P (outcome b s h c t).after.ledger
  kept_outcome s h c p =
      either_outcome h.opened (opened_outcome b s h c t) (unopened_outcome s h c)
      (kept_opened s h c p) (kept_unopened s h c p)
