-- Which services a request can name.
use Rattle.std.specs.Prelude.{◌&&◌, ◌==◌, List, length, Bool, is_some, is_none, nat_le}
use Rattle.std.specs.List.{list_all}
use Rattle.commands.specs.Differ.{all_differ}
use Rattle.commands.specs.declared.service.Service.{Service}

-- no rating group comes twice
abbrev pub groups_differ : List Service → Bool
groups_differ = all_differ (λ (s t : Service). s.group == t.group)

-- an initial request asks for units and reports none, for 1 to 16 services
abbrev pub are_initial : List Service → Bool
are_initial ss =
    nat_le 1 (length ss) && nat_le (length ss) 16 && groups_differ ss
    && list_all (λ (s : Service). is_some s.requested && is_none s.used) ss

-- an update may ask and may report, for 1 to 16 services
abbrev pub are_update : List Service → Bool
are_update ss = nat_le 1 (length ss) && nat_le (length ss) 16 && groups_differ ss

-- a termination may report, for at most 16 services
abbrev pub are_termination : List Service → Bool
are_termination ss =
    nat_le (length ss) 16 && groups_differ ss && list_all (λ (s : Service). is_none s.requested) ss
