use Rattle.http_messages.proofs.Nexts.{next_long, next_ended, next_whole}
use Rattle.http_messages.proofs.requests.after_part.Goals as goal

pub returns-in-TooLong-clause-next : goal.returns-in-TooLong-clause-next
returns-in-TooLong-clause-next g c = λ begun h. next_long c.args.part begun
    (g.R.Read.remaining c.args.reader.now) (g.R.Read.remaining c.args.reader.now) c.in-TooLong.is h

pub returns-in-Ended-clause-next : goal.returns-in-Ended-clause-next
returns-in-Ended-clause-next g c = λ begun h. next_ended c.args.part begun
    (g.R.Read.remaining c.args.reader.now) (g.R.Read.remaining c.args.reader.now) c.in-Ended.is h

pub returns-in-Whole-clause-next : goal.returns-in-Whole-clause-next
returns-in-Whole-clause-next g c =
    next_whole c.after_bytes-taken.result c.args.part c.in-Whole.part c.as_slice.result.now
    (g.R.Read.remaining c.args.reader.now) (g.R.Read.remaining c.after_bytes-taken.new.reader)
    c.in-Whole.is c.as_slice.ensures.value c.after_bytes-taken.ensures.next
