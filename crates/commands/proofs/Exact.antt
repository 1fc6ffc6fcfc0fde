-- Each test of equality is true exactly where the values are the same.
use Rattle.std.proofs.Common.{rules, ◌≡◌, List, true, ap, subst}
use Rattle.std.proofs.lemmas.Bool.{and_parts}
use Rattle.std.specs.Cmp.Derive.{both_true}
use Rattle.std.specs.Prelude.{ℕ, Option, nat_eq}
use Rattle.std.specs.Option.{option_eq}
use Rattle.std.specs.Bool.{Decides}
use Rattle.std.specs.Cmp.{unsigned_Decides}
use Rattle.identifiers.specs.Texts.{same_name}
use Rattle.std.specs.Cmp.Lexicographic.{pointwise, pointwise_decides, bytes_decides}
use Rattle.commands.specs.Used.{Used}
use Rattle.commands.specs.declared.service.Service.{Service}
use Rattle.commands.specs.declared.request.Ask.{Ask}
use Rattle.commands.specs.declared.request.Event.{Event}
use Rattle.commands.specs.declared.request.Request.{Request}
use Rattle.commands.specs.declared.allowance.Allowance.{Allowance}
use Rattle.commands.specs.declared.command.Credit.{Credit}
use Rattle.commands.specs.declared.command.VoucherRedemption.{VoucherRedemption}
use Rattle.units.specs.declared.blocks.UnitKind.{UnitKind}
use Rattle.units.specs.declared.blocks.UsedPart.{UsedPart}
use Rattle.units.specs.contracts.blocks.UnitKindPartialEq.TheImpl.{ghosts as kind}
use Rattle.units.specs.contracts.blocks.UsedPartPartialEq.TheImpl.{ghosts as part}
use Rattle.commands.specs.contracts.used.UsedPartsPartialEq.TheImpl.{ghosts as report}
use Rattle.commands.specs.contracts.service.ServicePartialEq.TheImpl.{ghosts as service}
use Rattle.commands.specs.contracts.request.EventPartialEq.TheImpl.{ghosts as event}
use Rattle.commands.specs.contracts.request.AskPartialEq.TheImpl.{ghosts as ask}
use Rattle.commands.specs.Alike.{same_request, same_credit, same_allowance, same_redemption}

pub kind_exact : (a b : UnitKind) → Decides (kind.eq a b) (a ≡ b)
kind_exact a b = search rules

pub part_exact : (a b : UsedPart) → Decides (part.eq a b) (a ≡ b)
part_exact a b = search rules

parts_exact : (a b : List UsedPart) → Decides (pointwise part.eq a b) (a ≡ b)
parts_exact = pointwise_decides part_exact

report_path : (a b : Used) → a.kind ≡ b.kind → a.parts ≡ b.parts → a ≡ b
report_path a b k p i = record { kind = k i; parts = p i }

pub report_exact : (a b : Used) → Decides (report.eq a b) (a ≡ b)
report_exact a b = (
  λ e.
      let p = and_parts (kind.eq a.kind b.kind) (pointwise part.eq a.parts b.parts) e in
      report_path a b ((kind_exact a.kind b.kind).0 p.0) ((parts_exact a.parts b.parts).0 p.1),
  λ e. both_true ((kind_exact a.kind b.kind).1 (ap (λ (u : Used). u.kind) e))
      ((parts_exact a.parts b.parts).1 (ap (λ (u : Used). u.parts) e)),
)

pub service_exact : (a b : Service) → Decides (service.eq a b) (a ≡ b)
service_exact a b = search (report_exact, rules)

services_exact : (a b : List Service) → Decides (pointwise service.eq a b) (a ≡ b)
services_exact = pointwise_decides service_exact

event_exact : (a b : Event) → Decides (event.eq a b) (a ≡ b)
event_exact a b = search rules

ask_exact : (a b : Ask) → Decides (ask.eq a b) (a ≡ b)
ask_exact a b = search (services_exact, event_exact, rules)

-- rule: equal-content
pub request_exact : (a b : Request) → Decides (same_request a b) (a ≡ b)
request_exact a b = search (ask_exact, rules)

option_exact : (a b : Option ℕ) → Decides (option_eq nat_eq a b) (a ≡ b)
option_exact a b = search rules

credit_path : (a b : Credit) → a.account ≡ b.account → a.amount ≡ b.amount → a.from ≡ b.from →
    a.until ≡ b.until → a.scope ≡ b.scope → a.reference ≡ b.reference → a ≡ b
credit_path a b account amount from until scope reference i =
    record {
      account = account i;
      amount = amount i;
      from = from i;
      until = until i;
      scope = scope i;
      reference = reference i;
    }

credit_sound : (a b : Credit) → same_credit a b ≡ true → a ≡ b
credit_sound a b e =
    let account = and_parts (same_name a.account b.account) _ e in
    let amount = and_parts (nat_eq a.amount b.amount) _ account.1 in
    let from = and_parts (option_eq nat_eq a.from b.from) _ amount.1 in
    let until = and_parts (option_eq nat_eq a.until b.until) _ from.1 in
    let scope =
    and_parts (option_eq nat_eq a.scope b.scope) (same_name a.reference b.reference) until.1 in
    credit_path a b ((bytes_decides a.account b.account).0 account.0)
    ((unsigned_Decides a.amount b.amount).0 amount.0) ((option_exact a.from b.from).0 from.0)
    ((option_exact a.until b.until).0 until.0) ((option_exact a.scope b.scope).0 scope.0)
    ((bytes_decides a.reference b.reference).0 scope.1)

-- rule: equal-content
pub credit_exact : (a b : Credit) → Decides (same_credit a b) (a ≡ b)
credit_exact a b = (credit_sound a b, λ e. subst (λ c. same_credit a c ≡ true) e (search rules))

allowance_path : (a b : Allowance) → a.account ≡ b.account → a.blocks ≡ b.blocks →
    a.from ≡ b.from → a.until ≡ b.until → a.scope ≡ b.scope → a.reference ≡ b.reference → a ≡ b
allowance_path a b account blocks from until scope reference i =
    record {
      account = account i;
      blocks = blocks i;
      from = from i;
      until = until i;
      scope = scope i;
      reference = reference i;
    }

allowance_sound : (a b : Allowance) → same_allowance a b ≡ true → a ≡ b
allowance_sound a b e =
    let account = and_parts (same_name a.account b.account) _ e in
    let blocks = and_parts (nat_eq a.blocks b.blocks) _ account.1 in
    let from = and_parts (option_eq nat_eq a.from b.from) _ blocks.1 in
    let until = and_parts (option_eq nat_eq a.until b.until) _ from.1 in
    let scope = and_parts (nat_eq a.scope b.scope) (same_name a.reference b.reference) until.1 in
    allowance_path a b ((bytes_decides a.account b.account).0 account.0)
    ((unsigned_Decides a.blocks b.blocks).0 blocks.0) ((option_exact a.from b.from).0 from.0)
    ((option_exact a.until b.until).0 until.0) ((unsigned_Decides a.scope b.scope).0 scope.0)
    ((bytes_decides a.reference b.reference).0 scope.1)

-- rule: equal-content
pub allowance_exact : (a b : Allowance) → Decides (same_allowance a b) (a ≡ b)
allowance_exact a b =
    (allowance_sound a b, λ e. subst (λ c. same_allowance a c ≡ true) e (search rules))

pub redemption_exact : (a b : VoucherRedemption) → Decides (same_redemption a b) (a ≡ b)
redemption_exact a b = search rules
