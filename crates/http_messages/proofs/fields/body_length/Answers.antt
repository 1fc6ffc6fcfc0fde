use Rattle.std.proofs.Common.{codes, map}
use Rattle.httparse.specs.Spans.{header_bytes}
use Rattle.http_messages.specs.Fields.{values_of}
use Rattle.http_messages.specs.MessageParts.{length_by}
use Rattle.http_messages.proofs.Founds.{unless_none}
use Rattle.http_messages.proofs.fields.body_length.Goals as goal

pub returns-in-None : goal.returns-in-None
returns-in-None c =
    let fields = map (header_bytes c.args.part.now) c.args.fields.now in
    let lengths = values_of (codes "Content-Length") fields in
    unless_none (values_of (codes "Transfer-Encoding") fields)
    (length_by c.args.method.now lengths) c.length_by.result c.in-None.ensures.found
    (c.length_by.ensures lengths c.find_field-found.ensures.found)
