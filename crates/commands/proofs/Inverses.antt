-- The tables of names and numbers go both ways.
use Rattle.std.proofs.Common.{◌≡◌, ℕ, List, [], ◌∷◌, Bool, true, false, Option, Some, refl}
use Rattle.std.proofs.Common.{nat_eq}
use Rattle.std.specs.Prelude.{◌==◌, cond}
use Rattle.std.specs.List.{find}
use Rattle.std.specs.Cmp.Lexicographic.{pointwise}
use Rattle.std.proofs.lemmas.Bool.{eqb-true as same_number}
use Rattle.commands.specs.declared.avp.Avp.{Avp}
use Rattle.commands.specs.declared.avp.Avp.TheVariants as avp
use Rattle.commands.specs.declared.request.RequestKind.{RequestKind}
use Rattle.commands.specs.declared.request.RequestKind.TheVariants as kind
use Rattle.commands.specs.declared.request.EventAction.{EventAction}
use Rattle.commands.specs.declared.request.EventAction.TheVariants as action
use Rattle.commands.specs.declared.answer.ServiceFailure.{ServiceFailure}
use Rattle.commands.specs.declared.answer.ServiceFailure.TheVariants as failure
use Rattle.commands.specs.declared.answer.Balance.{Balance}
use Rattle.commands.specs.declared.answer.Balance.TheVariants as balance
use Rattle.commands.specs.declared.answer.Refusal.{Refusal}
use Rattle.commands.specs.declared.answer.Refusal.TheVariants as refusal
use Rattle.units.specs.declared.blocks.TariffChangeUsage.{TariffChangeUsage}
use Rattle.units.specs.declared.blocks.TariffChangeUsage.TheVariants as usage
use Rattle.identifiers.proofs.Equality.{equal_names}
use Rattle.commands.specs.Names.{name_of, all_avps, avp_named}
use Rattle.commands.specs.Codes.{all_kinds, all_actions, all_service_failures, all_balances}
use Rattle.commands.specs.Codes.{all_refusals, kind_number, kind_numbered, action_number}
use Rattle.commands.specs.Codes.{action_numbered, service_failure_number, service_failure_numbered}
use Rattle.commands.specs.Codes.{balance_number, balance_numbered, refusal_name, refusal_named}
use Rattle.commands.specs.Reports.{all_usages, usage_number, usage_numbered}
use Rattle.commands.specs.Inverse.{IsTable, AreTables}

-- ---- what a search finds passes its test

passes_by : {X : Type 0} (p : X → Bool) (b : Bool) (y x : X) (rest : Option X) → p y ≡ b →
    (rest ≡ Some x → p x ≡ true) → cond b (Some y) rest ≡ Some x → p x ≡ true
passes_by p true y x rest e later h = cc
passes_by p false y x rest e later h = later h

passes : {X : Type 0} (p : X → Bool) (xs : List X) (x : X) → find p xs ≡ Some x → p x ≡ true
passes p [] x h = absurd (cc)
passes p (y ∷ ys) x h = passes_by p (p y) y x (find p ys) refl (passes p ys x) h

-- ---- there

avp_there : (x : Avp) → avp_named (name_of x) ≡ Some x
avp_there avp.SessionId = refl
avp_there avp.RequestType = refl
avp_there avp.RequestNumber = refl
avp_there avp.SubscriptionId = refl
avp_there avp.SubscriptionIdType = refl
avp_there avp.SubscriptionIdData = refl
avp_there avp.RequestedAction = refl
avp_there avp.Services = refl
avp_there avp.RatingGroup = refl
avp_there avp.RequestedUnit = refl
avp_there avp.UsedUnit = refl
avp_there avp.Money = refl
avp_there avp.UnitValue = refl
avp_there avp.ValueDigits = refl
avp_there avp.Exponent = refl
avp_there avp.CurrencyCode = refl
avp_there avp.Amount = refl
avp_there avp.Blocks = refl
avp_there avp.From = refl
avp_there avp.Until = refl
avp_there avp.Scope = refl
avp_there avp.Reference = refl
avp_there avp.VoucherCode = refl
avp_there avp.Month = refl

kind_there : (x : RequestKind) → kind_numbered (kind_number x) ≡ Some x
kind_there kind.Initial = refl
kind_there kind.Update = refl
kind_there kind.Termination = refl
kind_there kind.Event = refl

action_there : (x : EventAction) → action_numbered (action_number x) ≡ Some x
action_there action.DirectDebiting = refl
action_there action.CheckBalance = refl
action_there action.PriceEnquiry = refl

failure_there : (x : ServiceFailure) → service_failure_numbered (service_failure_number x) ≡ Some x
failure_there failure.EndUserServiceDenied = refl
failure_there failure.CreditLimitReached = refl
failure_there failure.RatingFailed = refl

balance_there : (x : Balance) → balance_numbered (balance_number x) ≡ Some x
balance_there balance.EnoughCredit = refl
balance_there balance.NoCredit = refl

refusal_there : (x : Refusal) → refusal_named (refusal_name x) ≡ Some x
refusal_there refusal.AccountExists = refl
refusal_there refusal.AccountUnknown = refl
refusal_there refusal.VoucherUnknown = refl
refusal_there refusal.VoucherSpent = refl
refusal_there refusal.ContentDiffers = refl
refusal_there refusal.OutOfRange = refl
refusal_there refusal.ScopeUnknown = refl

usage_there : (x : TariffChangeUsage) → usage_numbered (usage_number x) ≡ Some x
usage_there usage.UnitBeforeTariffChange = refl
usage_there usage.UnitAfterTariffChange = refl
usage_there usage.UnitIndeterminate = refl

-- ---- and back

numbers : {A : Type 0} (number : A → ℕ) (all : List A) →
    ((x : A) → find (λ y. number y == number x) all ≡ Some x) →
    IsTable number (λ n. find (λ y. number y == n) all)
numbers number all there = record {
  there = there;
  back = λ n x h. same_number (number x) n (passes (λ y. number y == n) all x h);
}

names : {A : Type 0} (name : A → List ℕ) (all : List A) →
    ((x : A) → find (λ y. pointwise nat_eq (name y) (name x)) all ≡ Some x) →
    IsTable name (λ s. find (λ y. pointwise nat_eq (name y) s) all)
names name all there = record {
  there = there;
  back = λ s x h. equal_names (name x) s (passes (λ y. pointwise nat_eq (name y) s) all x h);
}

-- rule: codes
pub are_tables : AreTables
are_tables = record {
  avps = names name_of all_avps avp_there;
  kinds = numbers kind_number all_kinds kind_there;
  actions = numbers action_number all_actions action_there;
  service_failures = numbers service_failure_number all_service_failures failure_there;
  balances = numbers balance_number all_balances balance_there;
  refusals = names refusal_name all_refusals refusal_there;
  usages = numbers usage_number all_usages usage_there;
}
