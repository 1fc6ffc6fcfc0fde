-- Which credits are kept.
use Rattle.std.specs.Prelude.{Bool, nat_le}
use Rattle.commands.specs.declared.command.Credit.{Credit}

-- a credit of nothing is refused (O6), so none is kept
abbrev pub is_kept : Credit → Bool
is_kept c = nat_le 1 c.amount
