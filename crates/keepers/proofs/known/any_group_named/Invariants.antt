use Rattle.std.proofs.Common.{◌≡◌, drop}
use Rattle.std.specs.List.{list_any}
use Rattle.keepers.specs.Named.{is_named}
use Rattle.keepers.proofs.known.any_group_named.Given as goal

abbrev pub invariant-loop-row : goal.invariant-loop-row
invariant-loop-row l =
    list_any (λ r. is_named l.names r.session) (drop l.row-index l.rows)
    ≡ list_any (λ r. is_named l.names r.session) l.rows
