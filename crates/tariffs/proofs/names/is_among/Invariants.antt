use Rattle.std.proofs.Common.{◌≡◌, drop}
use Rattle.std.specs.List.{list_any}
use Rattle.tariffs.specs.Names.{texts, same_text}
use Rattle.tariffs.proofs.names.is_among.Given as goal

abbrev pub invariant-loop-name : goal.invariant-loop-name
invariant-loop-name l =
    list_any (λ other. same_text other l.text) (texts (drop l.name-index l.before))
    ≡ list_any (λ other. same_text other l.text) (texts l.before)
