-- What is under the code of a voucher: the voucher as it was added, or as an account redeemed
-- it; nothing where none was added.
-- Source: profile.
use Rattle.std.specs.Prelude.{Bool, false, Option, Some, None, is_some}
use Rattle.identifiers.specs.Words.{AccountName}
use Rattle.voucher_rules.specs.declared.terms.VoucherTerms.{VoucherTerms}
use Rattle.voucher_rules.specs.declared.voucher.Voucher.{Voucher}

-- a voucher that no account has redeemed
abbrev pub unspent : VoucherTerms → Voucher
unspent terms = record { terms = terms; redeemer = None }

-- a voucher that an account has redeemed
abbrev pub spent_by : AccountName → VoucherTerms → Voucher
spent_by account terms = record { terms = terms; redeemer = Some account }

-- a voucher stands there that an account has redeemed
abbrev pub is_spent : Option Voucher → Bool
is_spent None = false
is_spent (Some voucher) = is_some voucher.redeemer

-- the terms of the voucher that stands there
abbrev pub terms_under : Option Voucher → Option VoucherTerms
terms_under None = None
terms_under (Some voucher) = Some voucher.terms
