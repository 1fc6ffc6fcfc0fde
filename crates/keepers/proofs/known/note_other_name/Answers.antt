use Rattle.std.proofs.Common.{◌≡◌, ◌∙◌, sym, subst, true, rules}
use Rattle.std.specs.Prelude.{OnOk}
use Rattle.keepers.specs.Named.{is_named}
use Rattle.keepers.proofs.KnownNames.{named_among}
use Rattle.keepers.proofs.known.note_other_name.Goals as goal

pub returns-then-has_session_near-clause-noted : goal.returns-then-has_session_near-clause-noted
returns-then-has_session_near-clause-noted c =
    named_among c.args.names.now c.args.name.now c.args.sessions.now c.requires
    (sym c.has_session_near.ensures ∙ c.if-has_session_near.true)

pub returns-clause-noted : goal.returns-clause-noted
returns-clause-noted c =
    let same : c.in_ok-name.name ≡ c.args.name.now = search rules in
    subst (λ k. OnOk c.note_name.result (is_named c.note_name.new.names k ≡ true)) same
    c.note_name.ensures.noted
