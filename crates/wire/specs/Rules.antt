-- What the types of an answer's parts keep: each value of the program keeps it.
use Rattle.std.specs.Prelude.{◌≡◌, ◌≤◌, true, IfSome, ⊤}
use Rattle.std.specs.List.{AllByRecursion}
use Rattle.units.specs.Words.{greatest_number, latest_moment, most_seconds}
use Rattle.units.specs.Words.{most_of_16_bits, most_of_64_bits}
use Rattle.identifiers.specs.Texts.{is_account_number, is_session_id, is_redirect_address}
use Rattle.commands.specs.Quantities.{is_quantity}
use Rattle.commands.specs.declared.answer.FinalUnit.{FinalUnit}
use Rattle.commands.specs.declared.answer.FinalUnit.TheVariants.{Terminate, Redirect}
use Rattle.commands.specs.declared.answer.GrantedServiceUnit.{GrantedServiceUnit}
use Rattle.commands.specs.declared.answer.ServiceOutcome.{ServiceOutcome}
use Rattle.commands.specs.declared.answer.ServiceOutcome.TheVariants as service
use Rattle.commands.specs.declared.answer.ServiceAnswer.{ServiceAnswer}
use Rattle.commands.specs.declared.answer.Cost.{Cost}
use Rattle.commands.specs.declared.answer.Outcome.{Outcome}
use Rattle.commands.specs.declared.answer.Outcome.TheVariants as outcome
use Rattle.commands.specs.declared.answer.RequestAnswer.{RequestAnswer}
use Rattle.commands.specs.declared.answer.Answer.{Answer}
use Rattle.commands.specs.declared.answer.Answer.TheVariants as answer
use Rattle.commands.specs.declared.balance.AccountBalance.{AccountBalance}
use Rattle.commands.specs.declared.balance.BucketBalance.{BucketBalance}
use Rattle.wire.specs.Spelled.{validity_of}

abbrev pub IsFinal : FinalUnit → Type 0
IsFinal Terminate = ⊤
IsFinal (Redirect address) = is_redirect_address address ≡ true

pub record IsGrant (g : GrantedServiceUnit) : Type 0 where
  pub quantity : is_quantity g.quantity.kind g.quantity.units ≡ true
  pub switch : IfSome g.switch (λ m. m ≤ latest_moment)
  pub last : IfSome g.last IsFinal

abbrev pub IsServiceOutcome : ServiceOutcome → Type 0
IsServiceOutcome service.Settled = ⊤
IsServiceOutcome (service.Granted g) = IsGrant g
IsServiceOutcome (service.Debited quantity) = is_quantity quantity.kind quantity.units ≡ true
IsServiceOutcome (service.Failed failure) = ⊤

pub record IsServiceAnswer (s : ServiceAnswer) : Type 0 where
  pub group : s.group ≤ greatest_number
  pub validity : IfSome (validity_of s.outcome) (λ n. n ≤ most_seconds)
  pub outcome : IsServiceOutcome s.outcome

pub record IsCost (c : Cost) : Type 0 where
  pub micros : c.micros ≤ most_of_64_bits
  pub currency : c.currency ≤ most_of_16_bits

abbrev pub IsOutcome : Outcome → Type 0
IsOutcome (outcome.Services ss) = AllByRecursion IsServiceAnswer ss
IsOutcome outcome.Refunded = ⊤
IsOutcome (outcome.Checked balance) = ⊤
IsOutcome (outcome.Priced cost) = IsCost cost
IsOutcome (outcome.Failed failure) = ⊤

pub record IsRequestAnswer (a : RequestAnswer) : Type 0 where
  pub session : is_session_id a.session ≡ true
  pub number : a.number ≤ greatest_number
  pub outcome : IsOutcome a.outcome

pub record IsBucketBalance (b : BucketBalance) : Type 0 where
  pub number : b.number ≤ greatest_number
  pub from : b.from ≤ latest_moment
  pub until : b.until ≤ latest_moment
  pub scope : IfSome b.scope (λ g. g ≤ greatest_number)
  pub credited : b.credited ≤ most_of_64_bits
  pub available : b.available ≤ most_of_64_bits
  pub reserved : b.reserved ≤ most_of_64_bits
  pub charged : b.charged ≤ most_of_64_bits
  pub expired : b.expired ≤ most_of_64_bits

pub record IsAccountBalance (a : AccountBalance) : Type 0 where
  pub account : is_account_number a.account ≡ true
  pub buckets : AllByRecursion IsBucketBalance a.buckets
  pub moment : a.moment ≤ latest_moment

abbrev pub IsAnswer : Answer → Type 0
IsAnswer (answer.Request a) = IsRequestAnswer a
IsAnswer answer.Done = ⊤
IsAnswer (answer.Bucket n) = n ≤ greatest_number
IsAnswer (answer.Swept accounts) = accounts ≤ most_of_64_bits
IsAnswer (answer.Balance balance) = IsAccountBalance balance
IsAnswer (answer.Refused refusal) = ⊤
