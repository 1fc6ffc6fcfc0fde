use Rattle.std.proofs.Common.{◌≡◌, ◌-◌, ◌++◌, string_bytes}
use Rattle.statements.specs.Columns.{blanks}
use Rattle.statements.proofs.columns.push_blanks.Given as goal

abbrev pub invariant-loop-blank : goal.invariant-loop-blank
invariant-loop-blank l =
    string_bytes l.text ++ blanks (l.width - l._blank)
    ≡ string_bytes l.fn.text ++ blanks (l.fn.width - l.fn.taken)
