-- The test of equal terms is true exactly of equal terms.
use Rattle.std.proofs.Common.{◌≡◌, rules}
use Rattle.std.specs.Bool.{Decides}
use Rattle.voucher_rules.specs.Terms.{Terms}
use Rattle.voucher_rules.specs.Adding.{same_terms}

-- rule: voucher-add
pub terms_exact : (a b : Terms) → Decides (same_terms a b) (a ≡ b)
terms_exact a b = search rules
