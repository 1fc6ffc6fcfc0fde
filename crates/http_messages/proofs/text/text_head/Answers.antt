use Rattle.std.proofs.Common.{string_bytes}
use Rattle.http_messages.proofs.Written.{head_written}
use Rattle.http_messages.proofs.text.text_head.Goals as goal

pub returns : goal.returns
returns c = head_written c.args.status c.as_u16-code.result c.phrase-phrase.result.now
    c.closing_line-closing.result.now c.args.closes c.args.length
    (string_bytes c.in_ok-text.text) (string_bytes c.write.new.self) c.as_u16-code.ensures.value
    c.phrase-phrase.ensures c.closing_line-closing.ensures c.in_ok-text.ensures.bytes
    c.in_ok-write.ensures.bytes
