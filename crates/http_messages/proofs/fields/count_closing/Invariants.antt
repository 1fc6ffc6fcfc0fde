use Rattle.std.proofs.Common.{◌≡◌, ◌≤◌, map, take}
use Rattle.std.specs.Prelude.{count_by}
use Rattle.httparse.specs.Spans.{header_bytes}
use Rattle.http_messages.specs.MessageParts.{says_close}
use Rattle.http_messages.proofs.fields.count_closing.Given as goal

abbrev pub invariant-loop-field : goal.invariant-loop-field
invariant-loop-field l = (l.count ≤ l.field-index)
    × (l.count ≡ count_by says_close (map (header_bytes l.part) (take l.field-index l.fields)))
