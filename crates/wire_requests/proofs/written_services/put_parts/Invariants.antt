use Rattle.std.proofs.Common.{◌≡◌, ◌++◌, drop}
use Rattle.json_fields.specs.Tokens.{item_tokens}
use Rattle.wire_requests.specs.Spelled.{part_items}
use Rattle.wire_requests.proofs.written_services.put_parts.Given as goal

-- what is written so far, with what is left, is what is written in the end
abbrev pub invariant-loop-part : goal.invariant-loop-part
invariant-loop-part l = record {
  tokens : l.out.tokens ++ item_tokens (part_items l.kind (drop l.part-index l.parts))
      ≡ l.fn.out.tokens ++ item_tokens (part_items l.kind l.parts);
  before : l.out.before ≡ l.fn.out.before;
}
