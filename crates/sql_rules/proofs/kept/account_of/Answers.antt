use Rattle.std.proofs.Common.{◌≡◌, Bool, true, false, Some, None, refl}
use Rattle.std.specs.Prelude.{if◌then◌else◌}
use Rattle.identifiers.specs.Texts.{is_account_number}
use Rattle.wire_requests.proofs.RequestsAgain.{account_utf8}
use Rattle.sql_rules.proofs.kept.account_of.Goals as goal

none_if : {A : Type 0} (b : Bool) (x : A) → ¬ (b ≡ true) → None ≡ (if b then Some x else None)
none_if true x no' = absurd (no' refl)
none_if false x no' = refl

-- digits are UTF-8
pub returns-in-Err : goal.returns-in-Err
returns-in-Err c =
    none_if (is_account_number c.args.bytes.now) c.args.bytes.now
    (λ e. c.in-Err.ensures.cases.0 (account_utf8 c.args.bytes.now e))
