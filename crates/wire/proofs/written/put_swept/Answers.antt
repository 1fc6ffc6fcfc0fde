use Rattle.std.proofs.Common.{string_bytes}
use Rattle.wire.proofs.SweptText.{swept_parts}
use Rattle.wire.proofs.written.put_swept.Goals as goal

pub returns-clause-text : goal.returns-clause-text
returns-clause-text c = swept_parts c.args.accounts (string_bytes c.args.text.now)
    (string_bytes c.put.new.text)
    (string_bytes c.put-2.new.text) (string_bytes c.put-3.new.text) c.format.result.now
    c.requires.empty c.format.ensures.text c.put.ensures.bytes c.put-2.ensures.bytes
    c.put-3.ensures.bytes
