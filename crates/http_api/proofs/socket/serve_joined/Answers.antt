use Rattle.http_api.proofs.socket.serve_joined.Goals as goal

pub returns : goal.returns
returns g c = record {
  bounded = c.serve.ensures.bounded;
  continued = c.serve.ensures.goes_on.continued;
  cleanness = c.serve.ensures.goes_on.cleanness;
  honesty = c.serve.ensures.goes_on.honesty;
  left = c.serve.ensures.goes_on.left;
  failures = c.serve.ensures.goes_on.failures;
}
