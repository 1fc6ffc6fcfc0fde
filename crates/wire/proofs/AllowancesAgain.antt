-- What is kept of an allowance is read as that allowance.
use Rattle.std.proofs.Common.{sym, subst, ◌≡◌, ℕ, ◌≤◌, lit≤, List, Option, Some, None}
use Rattle.std.proofs.Common.{option_map, IfSome, Ok, refl, ap, ◌∙◌, arith}
use Rattle.serde_json.specs.Data.{Data, string, object, Members, no_members, member}
use Rattle.serde_json.specs.Find.{get}
use Rattle.commands.specs.declared.avp.Avp.TheVariants as avp
use Rattle.commands.specs.Names.{name_of}
use Rattle.commands.specs.declared.allowance.Allowance.{Allowance}
use Rattle.commands.specs.declared.command.Content.{Content}
use Rattle.commands.specs.declared.command.Content.TheVariants as content
use Rattle.commands.specs.Keys.{account_of}
use Rattle.json_fields.specs.Fields.{number_at, optional_at}
use Rattle.json_fields.specs.Spelling.{whole, perhaps}
use Rattle.json_fields.proofs.Found.{get_skip, get_here, number_found, from_zero, optional_found}
use Rattle.json_fields.proofs.Found.{text_found}
use Rattle.json_fields.proofs.Fit.{Fit, FitMembers, fit_whole, fit_text, fit_object, fit_none}
use Rattle.json_fields.proofs.Fit.{fit_member, fit_perhaps, fit_optional, fit_deeper, above_perhaps}
use Rattle.json_fields.proofs.Fit.{document_again}
use Rattle.json_fields.proofs.Kept.{same_value, bind_ok}
use Rattle.json_fields.proofs.Order.{in_order}
use Rattle.wire.specs.Credits.{reference_at}
use Rattle.wire.specs.Allowances.{allowance_at, allowance_data, allowance_text, IsAllowance}
use Rattle.wire.specs.Contents.{content_of, allowance_content_in, AllowancesAreInOrder}
use Rattle.wire.proofs.RedeemedAgain.{reference_utf8}

abbrev allowance_members : ℕ → Option Data → List ℕ → ℕ → Option Data → Members
allowance_members blocks from reference scope until = member (name_of avp.Blocks) (whole blocks)
    (perhaps (name_of avp.From) from
    (member (name_of avp.Reference) (string reference)
    (member (name_of avp.Scope) (whole scope)
    (perhaps (name_of avp.Until) until no_members))))

module _ (blocks : ℕ) (from : Option Data) (reference : List ℕ) (scope : ℕ)
    (until : Option Data) where
  from_is : get (name_of avp.From)
      (object (allowance_members blocks from reference scope until)) ≡ from
  from_is = get_here (name_of avp.From) from _ refl
      (get_skip (name_of avp.From) (name_of avp.Until) until no_members refl)

  until_is : get (name_of avp.Until)
      (object (allowance_members blocks from reference scope until)) ≡ until
  until_is = get_skip (name_of avp.Until) (name_of avp.From) from _ refl
      ∙ get_here (name_of avp.Until) until no_members refl refl

  scope_is : get (name_of avp.Scope)
      (object (allowance_members blocks from reference scope until)) ≡ Some (whole scope)
  scope_is = get_skip (name_of avp.Scope) (name_of avp.From) from _ refl

  reference_is : get (name_of avp.Reference)
      (object (allowance_members blocks from reference scope until)) ≡ Some (string reference)
  reference_is = get_skip (name_of avp.Reference) (name_of avp.From) from _ refl

  no_session : get (name_of avp.SessionId)
      (object (allowance_members blocks from reference scope until)) ≡ None
  no_session = get_skip (name_of avp.SessionId) (name_of avp.From) from _ refl
      ∙ get_skip (name_of avp.SessionId) (name_of avp.Until) until no_members refl

  no_code : get (name_of avp.VoucherCode)
      (object (allowance_members blocks from reference scope until)) ≡ None
  no_code = get_skip (name_of avp.VoucherCode) (name_of avp.From) from _ refl
      ∙ get_skip (name_of avp.VoucherCode) (name_of avp.Until) until no_members refl

pub at_most : (low most : ℕ) (o : Option ℕ) → IfSome o (λ n. (low ≤ n) × (n ≤ most)) →
    IfSome o (λ n. n ≤ most)
at_most low most None h = tt
at_most low most (Some n) h = h.1

abbrev members_of : Allowance → Members
members_of a = allowance_members a.blocks (option_map whole a.from) a.reference a.scope
    (option_map whole a.until)

allowance_again : (a : Allowance) → IsAllowance a →
    allowance_at a.account (object (members_of a)) ≡ Ok a
unfolding allowance_at reference_at
allowance_again a is =
    let from = option_map whole a.from in
    let until = option_map whole a.until in
    let d = object (members_of a) in
    rw (
      number_found avp.Blocks 1 1_000_000_000 d a.blocks refl is.some is.blocks,
      optional_found avp.From 0 4_102_444_799 d a.from
          (from_is a.blocks from a.reference a.scope until)
          (from_zero 4_102_444_799 a.from is.from),
      optional_found avp.Until 1 4_102_444_800 d a.until
          (until_is a.blocks from a.reference a.scope until) is.until,
      number_found avp.Scope 0 4_294_967_295 d a.scope
          (scope_is a.blocks from a.reference a.scope until) (omega arith) is.scope,
      text_found avp.Reference d a.reference (reference_is a.blocks from a.reference a.scope until),
      is.reference,
    ) refl

allowance_fit : (a : Allowance) → IsAllowance a → Fit 127 (object (members_of a))
allowance_fit a is =
    let from = option_map whole a.from in
    let until = option_map whole a.until in
    let u : FitMembers 0 (perhaps (name_of avp.Until) until no_members) =
    fit_perhaps 0 _ until no_members refl (fit_optional 0 4_102_444_800 a.until (lit≤ tt)
    (at_most 1 4_102_444_800 a.until is.until)) tt (fit_none 0) in
    let s : FitMembers 0
    (member (name_of avp.Scope) (whole a.scope) (perhaps (name_of avp.Until) until no_members)) =
    fit_member 0 _ (whole a.scope) _ refl (fit_whole 0 a.scope (omega (arith, is.scope)))
    (above_perhaps _ _ until no_members refl tt) u in
    let r : FitMembers 0 (member (name_of avp.Reference) (string a.reference)
    (member (name_of avp.Scope) (whole a.scope) (perhaps (name_of avp.Until) until no_members))) =
    fit_member 0 _
    (string a.reference) _ refl (fit_text 0 a.reference (reference_utf8 a.reference is.reference))
    (refl, above_perhaps _ _ until no_members refl tt) s in
    let f = fit_perhaps 0
    (name_of avp.From) from _ refl (fit_optional 0 4_102_444_799 a.from (lit≤ tt) is.from)
    (refl, (refl, above_perhaps _ _ until no_members refl tt)) r in
    fit_deeper 1 127 _ (lit≤ tt) (fit_object 0 _ (fit_member 0 _ (whole a.blocks) _ refl
    (fit_whole 0 a.blocks (omega (arith, is.blocks))) (above_perhaps _ _ from _ refl
    (refl, (refl, above_perhaps _ _ until no_members refl tt))) f))

pub allowance_content_again : (a : Allowance) → IsAllowance a →
    content_of a.account (allowance_text a) ≡ Ok (content.Allow a)
unfolding content_of allowance_content_in allowance_text allowance_data
allowance_content_again a is =
    rw (
      document_again (members_of a) (allowance_fit a is),
      no_session a.blocks (option_map whole a.from) a.reference a.scope (option_map whole a.until),
      no_code a.blocks (option_map whole a.from) a.reference a.scope (option_map whole a.until),
      allowance_again a is,
    ) refl

-- rule: kept-content.in-byte-order
pub allowances_in_order : AllowancesAreInOrder allowance_data
unfolding allowance_data
allowances_in_order a is = in_order (object (members_of a)) (allowance_fit a is).tidy

-- ---- a kept allowance that is read is of the account

allowance_account : (account : List ℕ) (d : Data) (a : Allowance) → allowance_at account d ≡ Ok a →
    a.account ≡ account
unfolding allowance_at
allowance_account account d a h =
    let blocks = bind_ok (number_at avp.Blocks 1 1_000_000_000 d) _ a h in
    let from = bind_ok (optional_at avp.From 0 4_102_444_799 d) _ a blocks.2 in
    let until = bind_ok (optional_at avp.Until 1 4_102_444_800 d) _ a from.2 in
    let scope = bind_ok (number_at avp.Scope 0 4_294_967_295 d) _ a until.2 in
    let reference = bind_ok (reference_at d) _ a scope.2 in
    sym (ap (λ (x : Allowance). x.account) (same_value _ a reference.2))

pub allowance_content_account : (account : List ℕ) (d : Data) (c : Content) →
    allowance_content_in account d ≡ Ok c → account_of c ≡ account
unfolding allowance_content_in
allowance_content_account account d c h =
    let a = bind_ok (allowance_at account d) _ c h in
    subst (λ (x : Content). account_of x ≡ account) (same_value _ c a.2)
    (allowance_account account d a.0 a.1)
