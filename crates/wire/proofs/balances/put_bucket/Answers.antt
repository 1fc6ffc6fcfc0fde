use Rattle.std.proofs.Common.{rules, append_assoc, subst, ◌≤◌, ℕ, Option}
use Rattle.std.specs.Prelude.{IfSome}
use Rattle.wire.specs.SpelledBalances.{bucket_data}
use Rattle.json_fields.proofs.Tokens.{perhaps_front}
use Rattle.wire.proofs.balances.put_bucket.Goals as goal

pub returns-clause-adds : goal.returns-clause-adds
unfolding bucket_data
returns-clause-adds c = (
  rw (
    c.in_ok-end_object.ensures.ok,
    c.in_ok-put_number-3.ensures.0,
    c.name-3.ensures,
    c.seconds-2.ensures.value,
    c.in_ok-put_unit.ensures.0,
    c.in_ok-put_perhaps.ensures.0,
    c.name-2.ensures,
    c.scope_of.ensures.value,
    c.in_ok-put_amount-5.ensures.adds.0,
    c.in_ok-put_number-2.ensures.0,
    c.in_ok-put_number.ensures.0,
    c.name.ensures,
    c.seconds.ensures.value,
    c.in_ok-put_amount-4.ensures.adds.0,
    c.in_ok-put_amount-3.ensures.adds.0,
    c.in_ok-put_amount-2.ensures.adds.0,
    c.in_ok-put_amount.ensures.adds.0,
    c.in_ok-begin_object.ensures.ok,
  ) (simp (perhaps_front, append_assoc)),
  rw (
    c.in_ok-end_object.ensures.room.0,
    c.in_ok-put_number-3.ensures.1,
    c.in_ok-put_unit.ensures.1,
    c.in_ok-put_perhaps.ensures.1,
    c.in_ok-put_amount-5.ensures.adds.1,
    c.in_ok-put_number-2.ensures.1,
    c.in_ok-put_number.ensures.1,
    c.in_ok-put_amount-4.ensures.adds.1,
    c.in_ok-put_amount-3.ensures.adds.1,
    c.in_ok-put_amount-2.ensures.adds.1,
    c.in_ok-put_amount.ensures.adds.1,
    c.in_ok-begin_object.ensures.room.0,
  ),
)

pub returns-clause-rule : goal.returns-clause-rule
returns-clause-rule c = record {
  number = search rules;
  from = search rules;
  until = search rules;
  scope = subst (λ (o : Option ℕ). IfSome o (λ g. g ≤ 4294967295)) c.scope_of.ensures.value
      c.scope_of.ensures.within;
  credited = c.in_ok-put_amount-3.ensures.rule;
  available = c.in_ok-put_amount.ensures.rule;
  reserved = c.in_ok-put_amount-5.ensures.rule;
  charged = c.in_ok-put_amount-2.ensures.rule;
  expired = c.in_ok-put_amount-4.ensures.rule;
}
