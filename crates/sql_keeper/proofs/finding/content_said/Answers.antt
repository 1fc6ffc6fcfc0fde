use Rattle.std.proofs.Common.{◌≡◌, rules, subst, IfOk, Ok}
use Rattle.wire.specs.Contents.{content_of}
use Rattle.sql_keeper.proofs.reads.HandedOn.{value_handed}
use Rattle.sql_keeper.proofs.finding.content_said.Goals as goal

pub returns : goal.returns
returns c =
    let name : c.in_ok-account.account ≡ c.args.account.now = search rules in
    value_handed _ _ c.read_content.result c.map_err.result c.map_err.ensures.cases
    (subst (λ a. IfOk c.read_content.result (λ v. content_of a c.args.text.now ≡ Ok v)) name
    (subst (λ t. IfOk c.read_content.result (λ v. content_of c.in_ok-account.account t ≡ Ok v))
    c.as_bytes-bytes.ensures.value c.read_content.ensures.said))
