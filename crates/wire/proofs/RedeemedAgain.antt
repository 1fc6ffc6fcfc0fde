-- What is kept of a redemption is read as that redemption.
use Rattle.std.proofs.Common.{nat_eq, subst, ◌≡◌, ℕ, lit≤, List, length, true, ◌==◌, Ok, refl, ◌∙◌}
use Rattle.std.proofs.Common.{nat_le}
use Rattle.std.specs.List.{list_all}
use Rattle.std.specs.Str.{IsUtf8}
use Rattle.std.specs.Cmp.Lexicographic.{pointwise, bytes_decides}
use Rattle.std.proofs.lemmas.Bool.{and_parts}
use Rattle.json.proofs.Printed.Utf8.{IsUtf8-are_ascii}
use Rattle.serde_json.specs.Data.{Data, string, object, Members, no_members, member}
use Rattle.identifiers.specs.Texts.{is_visible, is_digit, is_reference, is_voucher_code}
use Rattle.commands.specs.declared.avp.Avp.TheVariants as avp
use Rattle.commands.specs.Names.{name_of}
use Rattle.commands.specs.declared.command.Content.{Content}
use Rattle.commands.specs.declared.command.Content.TheVariants as content
use Rattle.commands.specs.declared.command.VoucherRedemption.{VoucherRedemption}
use Rattle.json_fields.specs.declared.fault.WireFault.TheVariants.{Invalid}
use Rattle.json_fields.proofs.Found.{text_found}
use Rattle.json_fields.proofs.Fit.{Fit, FitMembers, fit_text, fit_object, fit_none, fit_member}
use Rattle.json_fields.proofs.Fit.{fit_deeper, document_again, ascii_text}
use Rattle.json_fields.proofs.Kept.{bind_ok, where_ok}
use Rattle.json_fields.proofs.Order.{in_order}
use Rattle.wire_requests.proofs.RequestsAgain.{and_three, visible_small, account_utf8, digit_small}
use Rattle.wire.specs.Credits.{reference_at}
use Rattle.wire.specs.Redeemed.{account_at, code_at, redemption_at, kept_redemption_at}
use Rattle.wire.specs.Redeemed.{redemption_data, redemption_text, IsRedemption}
use Rattle.wire.specs.Contents.{content_of, redemption_content_in, RedemptionsAreInOrder}

abbrev members_of : VoucherRedemption → Members
members_of r = member (name_of avp.Reference) (string r.reference)
    (member (name_of avp.SubscriptionIdData) (string r.account)
    (member (name_of avp.VoucherCode) (string r.code) no_members))

redemption_again : (r : VoucherRedemption) → IsRedemption r →
    kept_redemption_at (object (members_of r)) ≡ Ok r
unfolding kept_redemption_at code_at redemption_at account_at reference_at
redemption_again r is =
    let d = object (members_of r) in
    rw (
      text_found avp.VoucherCode d r.code refl,
      is.code,
      text_found avp.SubscriptionIdData d r.account refl,
      is.account,
      text_found avp.Reference d r.reference refl,
      is.reference,
    ) refl

code_utf8 : (s : List ℕ) → is_voucher_code s ≡ true → IsUtf8 s
code_utf8 s h = IsUtf8-are_ascii s
    (ascii_text is_digit digit_small s (and_parts (length s == 12) (list_all is_digit s) h).1)

pub reference_utf8 : (s : List ℕ) → is_reference s ≡ true → IsUtf8 s
reference_utf8 s h = IsUtf8-are_ascii s (ascii_text is_visible visible_small s
    (and_three (nat_le 1 (length s)) (nat_le (length s) 64) (list_all is_visible s) h).2)

redemption_fit : (r : VoucherRedemption) → IsRedemption r → Fit 127 (object (members_of r))
redemption_fit r is =
    let code : FitMembers 0 (member (name_of avp.VoucherCode) (string r.code) no_members) =
    fit_member 0 _ (string r.code) no_members refl (fit_text 0 r.code (code_utf8 r.code is.code)) tt
    (fit_none 0) in
    let account : FitMembers 0 (member (name_of avp.SubscriptionIdData) (string r.account)
    (member (name_of avp.VoucherCode) (string r.code) no_members)) =
    fit_member 0 _ (string r.account) _ refl
    (fit_text 0 r.account (account_utf8 r.account is.account)) (refl, tt) code in
    let reference = fit_member 0 _ (string r.reference) _ refl
    (fit_text 0 r.reference (reference_utf8 r.reference is.reference)) (refl, (refl, tt)) account in
    fit_deeper 1 127 _ (lit≤ tt) (fit_object 0 _ reference)

pub redemption_content_again : (r : VoucherRedemption) → IsRedemption r →
    content_of r.account (redemption_text r) ≡ Ok (content.Redeem r)
unfolding content_of redemption_content_in redemption_text redemption_data
redemption_content_again r is =
    rw (
      document_again (members_of r) (redemption_fit r is),
      redemption_again r is,
      (bytes_decides r.account r.account).1 refl,
    ) refl

-- rule: kept-content.in-byte-order
pub redemptions_in_order : RedemptionsAreInOrder redemption_data
unfolding redemption_data
redemptions_in_order r is = in_order (object (members_of r)) (redemption_fit r is).tidy

-- a kept redemption that is read is of the account
pub redemption_account : (account : List ℕ) (d : Data) (c : Content)
    (account_of : Content → List ℕ) →
    ((r : VoucherRedemption) → account_of (content.Redeem r) ≡ r.account) →
    redemption_content_in account d ≡ Ok c → account_of c ≡ account
unfolding redemption_content_in
redemption_account account d c account_of is h =
    let r = bind_ok (kept_redemption_at d) _ c h in
    let test = where_ok (pointwise nat_eq r.0.account account) (Invalid avp.SubscriptionIdData)
    (content.Redeem r.0) c r.2 in
    subst (λ (x : Content). account_of x ≡ account) test.1
    (is r.0 ∙ (bytes_decides r.0.account account).0 test.0)
