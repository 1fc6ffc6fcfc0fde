-- What adding a voucher comes to, over what is under its code.
-- Source: profile.
use Rattle.std.specs.Prelude.{Bool, Option, Some, None, if◌then◌else◌}
use Rattle.voucher_rules.specs.declared.terms.VoucherTerms.{VoucherTerms}
use Rattle.voucher_rules.specs.contracts.terms.VoucherTermsPartialEq.TheImpl.{
  ghosts as voucher_terms,
}
use Rattle.voucher_rules.specs.declared.voucher.Voucher.{Voucher}
use Rattle.voucher_rules.specs.declared.adding.Addition.{Addition}
use Rattle.voucher_rules.specs.declared.adding.Addition.TheVariants.{New, Present, Conflicting}
use Rattle.voucher_rules.specs.Standing.{unspent}

-- two vouchers say the same: the test of the code, which `add` says is true exactly of equal terms
abbrev pub same_terms : VoucherTerms → VoucherTerms → Bool
same_terms = voucher_terms.eq

-- it is new where nothing stands there; over a voucher, spent or not, its terms alone count
-- rule: voucher-add: what adding a voucher does
abbrev pub addition : Option Voucher → VoucherTerms → Addition
addition None terms = New (unspent terms)
addition (Some voucher) terms = if same_terms voucher.terms terms then Present else Conflicting

-- what is under the code afterwards
-- rule: voucher-add
abbrev pub after_addition : Addition → Option Voucher → Option Voucher
after_addition (New voucher) found = Some voucher
after_addition Present found = found
after_addition Conflicting found = found
