use Rattle.std.proofs.Common.{append_assoc}
use Rattle.wire.specs.SpelledBalances.{bucket_items}
use Rattle.json_fields.proofs.Tokens.{items_front}
use Rattle.wire.proofs.balances.put_array.Goals as goal

pub returns-clause-adds : goal.returns-clause-adds
returns-clause-adds c = (
  rw (
    c.in_ok-end_array.ensures.ok,
    c.in_ok-put_buckets.ensures.adds.0,
    c.as_slice.ensures,
    c.in_ok-begin_array.ensures.ok,
    c.in_ok-key.ensures.ok,
  ) (simp (items_front (bucket_items c.args.list.now), append_assoc)),
  rw (
    c.in_ok-end_array.ensures.room.0,
    c.in_ok-put_buckets.ensures.adds.1,
    c.in_ok-begin_array.ensures.room.0,
    c.in_ok-key.ensures.room.0,
  ),
)
