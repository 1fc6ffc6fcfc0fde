use Rattle.std.proofs.Common.{◌≡◌, ◌++◌, drop, take}
use Rattle.std.specs.List.{AllByRecursion}
use Rattle.json_fields.specs.Tokens.{item_tokens}
use Rattle.wire.specs.Spelled.{service_items}
use Rattle.wire.specs.Rules.{IsServiceAnswer}
use Rattle.wire.proofs.services.put_services.Given as goal

-- what is written so far, with what is left, is what is written in the end
abbrev pub invariant-loop-service : goal.invariant-loop-service
invariant-loop-service l = record {
  tokens : l.out.tokens ++ item_tokens (service_items (drop l.service-index l.services))
      ≡ l.fn.out.tokens ++ item_tokens (service_items l.services);
  rules : AllByRecursion IsServiceAnswer (take l.service-index l.services);
  before : l.out.before ≡ l.fn.out.before;
}
