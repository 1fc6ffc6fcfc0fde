use Rattle.std.proofs.Common.{◌≡◌, sym, ap, ◌∙◌, subst, List, false}
use Rattle.std.specs.List.{list_any}
use Rattle.reserving.specs.declared.session.Session.{Session}
use Rattle.reserving.specs.declared.session.SessionGroup.{SessionGroup}
use Rattle.keepers.specs.Named.{is_named}
use Rattle.keepers.proofs.Unchanged.{groups_stay}
use Rattle.keepers.proofs.left_rows.keep_groups.Goals as goal

pub any_group_named-requires : goal.any_group_named-requires
any_group_named-requires c =
    subst (λ (rows : List Session). list_any (λ r. is_named c.args.names.now r.id) rows ≡ false)
    (sym c.sessions.ensures) c.requires.unnamed

pub returns-then-not-any_group_named : goal.returns-then-not-any_group_named
returns-then-not-any_group_named c =
    let none = sym (c.any_group_named.ensures
    ∙ ap (list_any (λ (x : SessionGroup). is_named c.args.names.now x.session)) c.groups.ensures)
    ∙ c.if-not-any_group_named.true in
    groups_stay c.args.after.now c.args.names.now c.args.rows.now.items c.requires.left
    c.requires.unnamed none
