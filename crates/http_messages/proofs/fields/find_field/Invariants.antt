use Rattle.std.proofs.Common.{map, take, length}
use Rattle.httparse.specs.Spans.{header_bytes}
use Rattle.http_messages.specs.Fields.{values_of}
use Rattle.http_messages.specs.Found.{AreValuesFound, FoundWithin}
use Rattle.http_messages.proofs.fields.find_field.Given as goal

-- the fields of the name so far
abbrev pub invariant-loop-field : goal.invariant-loop-field
invariant-loop-field l = FoundWithin (length l.part) l.found × AreValuesFound l.part
    (values_of l.name (map (header_bytes l.part) (take l.field-index l.fields))) l.found
