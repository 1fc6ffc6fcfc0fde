use Rattle.wire.proofs.services.put_session_grant.Goals as goal

pub returns-clause-rule : goal.returns-clause-rule
returns-clause-rule c = record {
  quantity = c.in_ok-put_units.ensures.rule;
  switch = c.in_ok-put_units.ensures.switch;
  last = c.in_ok-put_last.ensures.rule;
}
