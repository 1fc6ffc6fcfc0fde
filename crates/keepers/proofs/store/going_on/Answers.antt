use Rattle.std.proofs.Common.{◌≡◌, ◌∙◌, Bool, true, false, List, [], refl, sym}
use Rattle.std.specs.Prelude.{if◌then◌else◌}
use Rattle.reserving.specs.declared.session.Counter.{Counter}
use Rattle.reserving.proofs.Lists.{is_nothing}
use Rattle.keepers.specs.Named.{may_go_on}
use Rattle.keepers.proofs.store.going_on.Goals as goal

-- none are all of none
none_of : (v : Bool) (rows : List Counter) → rows ≡ [] → rows ≡ if v then rows else []
none_of true rows e = refl
none_of false rows e = e

pub returns-then-is_empty : goal.returns-then-is_empty
returns-then-is_empty c =
    none_of (may_go_on c.args.shelf.now c.args.moment c.args.cycles.now) c.args.rows.now
    (is_nothing c.args.rows.now (sym c.is_empty.ensures ∙ c.if-is_empty.true))
