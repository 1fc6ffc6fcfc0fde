use Rattle.std.proofs.Common.{rules}
use Rattle.std.proofs.lemmas.Fn.{filter_same}
use Rattle.reserving.specs.declared.session.SessionGroup.{SessionGroup}
use Rattle.sql_keeper.specs.KeptRows.{stays_session}
use Rattle.sql_keeper.proofs.replaced_rows.keep_groups.Goals as goal

pub returns : goal.returns
returns c = filter_same _ (λ (x : SessionGroup). stays_session c.args.named.now x.session) _
    (λ x b f' k. search rules) _ _ c.retain.ensures.filtered
