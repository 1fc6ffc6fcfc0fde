-- The bodies of operators' requests are read as their members say, and no otherwise.
use Rattle.std.proofs.Common.{◌≡◌, ℕ, ◌≤◌, List, ◌&&◌, Option, Some, None, IfSome, Ok, refl, ap}
use Rattle.std.proofs.Common.{◌∙◌, subst, arith, le-leb, nat_le}
use Rattle.std.specs.Prelude.{option_and_then}
use Rattle.serde_json.specs.Data.{Data}
use Rattle.serde_json.specs.Find.{get, as_number, as_u64}
use Rattle.identifiers.specs.Texts.{is_account_number, is_reference}
use Rattle.commands.specs.declared.avp.Avp.{Avp}
use Rattle.commands.specs.declared.avp.Avp.TheVariants as avp
use Rattle.commands.specs.declared.command.Credit.{Credit}
use Rattle.commands.specs.declared.command.VoucherRedemption.{VoucherRedemption}
use Rattle.commands.specs.declared.allowance.Allowance.{Allowance}
use Rattle.commands.specs.Names.{name_of}
use Rattle.json_fields.specs.declared.fault.WireFault.{WireFault}
use Rattle.json_fields.specs.declared.fault.WireFault.TheVariants.{Invalid}
use Rattle.json_fields.specs.Gives.{or_fault}
use Rattle.json_fields.specs.Fields.{whole_in, optional_when, optional_in, optional_at, number_at}
use Rattle.json_fields.specs.Fields.{text_at}
use Rattle.json_fields.proofs.Found.{from_zero}
use Rattle.json_fields.proofs.Kept.{same_value, bind_ok, where_ok}
use Rattle.wire_requests.specs.Said.{SaysText, SaysPerhaps}
use Rattle.wire_requests.proofs.Said.{or_found, text_said, number_said}
use Rattle.wire_requests.proofs.SaidIsRead.{text_read, number_read}
use Rattle.wire.specs.Credits.{reference_at, credit_at}
use Rattle.wire.specs.Allowances.{allowance_at}
use Rattle.wire.specs.Redeemed.{account_at, redemption_at}
use Rattle.wire.specs.SaidBodies.{IsNumber, SaysOptional, SaysCredit, SaysAllowance, SaysRedemption}
use Rattle.wire.specs.SaidBodies.{CreditsAreSaid, CreditsAreRead, AllowancesAreSaid}
use Rattle.wire.specs.SaidBodies.{AllowancesAreRead, RedemptionsAreSaid, RedemptionsAreRead}

-- ---- members

optional_said : (fault : WireFault) (low high : ℕ) (told : Option Data) (o : Option ℕ) →
    optional_when fault low high told ≡ Ok o → SaysPerhaps IsNumber o told
optional_said fault low high None o h =
    subst (λ (x : Option ℕ). SaysPerhaps IsNumber x None) (same_value None o h) refl
optional_said fault low high (Some v) o h =
    let n = bind_ok (whole_in fault low high v) _ o h in
    let m = bind_ok (or_fault fault (option_and_then as_u64 (as_number v))) _ n.0 n.1 in
    let is = where_ok (nat_le low m.0 && nat_le m.0 high) fault m.0 n.0 m.2 in
    subst (λ (x : Option ℕ). SaysPerhaps IsNumber x (Some v)) (same_value (Some n.0) o n.2)
    (record {
      value = v;
      stands = refl;
      says = or_found fault (option_and_then as_u64 (as_number v)) m.0 m.1 ∙ ap Some is.1;
    })

optional_at_said : (a : Avp) (low high : ℕ) (d : Data) (o : Option ℕ) →
    optional_at a low high d ≡ Ok o → SaysOptional a o d
unfolding optional_in
optional_at_said a low high d o h = optional_said (Invalid a) low high (get (name_of a) d) o h

optional_read : (a : Avp) (low high : ℕ) (d : Data) (o : Option ℕ) → SaysOptional a o d →
    IfSome o (λ n. (low ≤ n) × (n ≤ high)) → optional_at a low high d ≡ Ok o
unfolding optional_in
optional_read a low high d None says within = rw says refl
optional_read a low high d (Some n) says within =
    rw (says.stands, says.says, le-leb low n within.0, le-leb n high within.1) refl

reference_said : (d : Data) (s : List ℕ) → reference_at d ≡ Ok s → SaysText avp.Reference s d
unfolding reference_at
reference_said d s h =
    let t = bind_ok (text_at avp.Reference d) _ s h in
    text_said avp.Reference d s
    (t.1 ∙ ap Ok (where_ok (is_reference t.0) (Invalid avp.Reference) t.0 s t.2).1)

account_said : (d : Data) (n : List ℕ) → account_at d ≡ Ok n → SaysText avp.SubscriptionIdData n d
unfolding account_at
account_said d n h =
    let t = bind_ok (text_at avp.SubscriptionIdData d) _ n h in
    text_said avp.SubscriptionIdData d n
    (t.1 ∙ ap Ok (where_ok (is_account_number t.0) (Invalid avp.SubscriptionIdData) t.0 n t.2).1)

-- ---- what is read is said

-- rule: credit-body.says-credit
pub credits_said : CreditsAreSaid
unfolding credit_at
credits_said account d c h =
    let amount = bind_ok (number_at avp.Amount 1 1000000000000000 d) _ c h in
    let from = bind_ok (optional_at avp.From 0 4102444799 d) _ c amount.2 in
    let until = bind_ok (optional_at avp.Until 1 4102444800 d) _ c from.2 in
    let scope = bind_ok (optional_at avp.Scope 0 4294967295 d) _ c until.2 in
    let reference = bind_ok (reference_at d) _ c scope.2 in
    subst (λ (x : Credit). SaysCredit x d) (same_value _ c reference.2) (record {
      amount = number_said avp.Amount 1 1000000000000000 d amount.0 amount.1;
      from = optional_at_said avp.From 0 4102444799 d from.0 from.1;
      until = optional_at_said avp.Until 1 4102444800 d until.0 until.1;
      scope = optional_at_said avp.Scope 0 4294967295 d scope.0 scope.1;
      reference = reference_said d reference.0 reference.1;
    })

-- rule: credit-body.says-credit
pub allowances_said : AllowancesAreSaid
unfolding allowance_at
allowances_said account d a h =
    let blocks = bind_ok (number_at avp.Blocks 1 1000000000 d) _ a h in
    let from = bind_ok (optional_at avp.From 0 4102444799 d) _ a blocks.2 in
    let until = bind_ok (optional_at avp.Until 1 4102444800 d) _ a from.2 in
    let scope = bind_ok (number_at avp.Scope 0 4294967295 d) _ a until.2 in
    let reference = bind_ok (reference_at d) _ a scope.2 in
    subst (λ (x : Allowance). SaysAllowance x d) (same_value _ a reference.2) (record {
      blocks = number_said avp.Blocks 1 1000000000 d blocks.0 blocks.1;
      from = optional_at_said avp.From 0 4102444799 d from.0 from.1;
      until = optional_at_said avp.Until 1 4102444800 d until.0 until.1;
      scope = number_said avp.Scope 0 4294967295 d scope.0 scope.1;
      reference = reference_said d reference.0 reference.1;
    })

-- rule: credit-body.says-credit
pub redemptions_said : RedemptionsAreSaid
unfolding redemption_at
redemptions_said code d r h =
    let account = bind_ok (account_at d) _ r h in
    let reference = bind_ok (reference_at d) _ r account.2 in
    subst (λ (x : VoucherRedemption). SaysRedemption x d) (same_value _ r reference.2) (record {
      account = account_said d account.0 account.1;
      reference = reference_said d reference.0 reference.1;
    })

-- ---- what is said is read

-- rule: credit-body.says-credit
pub credits_read : CreditsAreRead
unfolding credit_at reference_at
credits_read c d is says = rw (
  number_read avp.Amount 1 1000000000000000 d c.amount says.amount is.some is.amount,
  optional_read avp.From 0 4102444799 d c.from says.from (from_zero 4102444799 c.from is.from),
  optional_read avp.Until 1 4102444800 d c.until says.until is.until,
  optional_read avp.Scope 0 4294967295 d c.scope says.scope (from_zero 4294967295 c.scope is.scope),
  text_read avp.Reference d c.reference says.reference,
  is.reference,
) refl

-- rule: credit-body.says-credit
pub allowances_read : AllowancesAreRead
unfolding allowance_at reference_at
allowances_read a d is says = rw (
  number_read avp.Blocks 1 1000000000 d a.blocks says.blocks is.some is.blocks,
  optional_read avp.From 0 4102444799 d a.from says.from (from_zero 4102444799 a.from is.from),
  optional_read avp.Until 1 4102444800 d a.until says.until is.until,
  number_read avp.Scope 0 4294967295 d a.scope says.scope (omega arith) is.scope,
  text_read avp.Reference d a.reference says.reference,
  is.reference,
) refl

-- rule: credit-body.says-credit, redemption-body
pub redemptions_read : RedemptionsAreRead
unfolding redemption_at account_at reference_at
redemptions_read r d is says = rw (
  text_read avp.SubscriptionIdData d r.account says.account,
  is.account,
  text_read avp.Reference d r.reference says.reference,
  is.reference,
) refl
