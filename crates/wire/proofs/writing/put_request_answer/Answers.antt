use Rattle.std.proofs.Common.{append_assoc}
use Rattle.wire.specs.Spelled.{request_answer_data}
use Rattle.json_fields.proofs.Tokens.{named_front}
use Rattle.wire.proofs.writing.put_request_answer.Goals as goal

pub returns-clause-adds : goal.returns-clause-adds
unfolding request_answer_data
returns-clause-adds c = (
  rw (
    c.in_ok-end_object.ensures.ok,
    c.in_ok-put_text.ensures.0,
    c.name-3.ensures,
    c.as_str.ensures.value,
    c.in_ok-put_number-3.ensures.0,
    c.outcome_code.ensures,
    c.in_ok-put_outcome.ensures.adds.0,
    c.in_ok-put_number-2.ensures.0,
    c.name-2.ensures,
    c.number.ensures,
    c.in_ok-put_number.ensures.0,
    c.name.ensures,
    c.in_ok-begin_object.ensures.ok,
  ) (simp (named_front, append_assoc)),
  rw (
    c.in_ok-end_object.ensures.room.0,
    c.in_ok-put_text.ensures.1,
    c.in_ok-put_number-3.ensures.1,
    c.in_ok-put_outcome.ensures.adds.1,
    c.in_ok-put_number-2.ensures.1,
    c.in_ok-put_number.ensures.1,
    c.in_ok-begin_object.ensures.room.0,
  ),
)
