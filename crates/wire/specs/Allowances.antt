-- The body of an allowance, and an allowance as it is kept.
-- Source: profile.
use Rattle.std.specs.Prelude.{◌≡◌, ℕ, ◌≤◌, List, true, option_map, IfSome, Result, Ok}
use Rattle.units.specs.Words.{no_end, greatest_number, latest_command, most_blocks}
use Rattle.identifiers.specs.Words.{AccountName}
use Rattle.serde_json.specs.Data.{Data, string, object, no_members, member}
use Rattle.serde_json.specs.Written.{compact_text}
use Rattle.identifiers.specs.Texts.{is_reference}
use Rattle.commands.specs.Names.{name_of}
use Rattle.commands.specs.declared.avp.Avp.TheVariants as avp
use Rattle.commands.specs.declared.allowance.Allowance.{Allowance}
use Rattle.json_fields.specs.declared.fault.WireFault.{WireFault}
use Rattle.json_fields.specs.Gives.{◌>>=◌}
use Rattle.json_fields.specs.Fields.{document_at, number_at, optional_at}
use Rattle.json_fields.specs.Spelling.{whole, perhaps}
use Rattle.wire.specs.Credits.{reference_at}

-- Blocks, From, Until, Scope and Reference, in this order: 1 to 10^9 blocks, from a moment of a
-- command on, until one or "no end", of one rating group
unfoldable pub allowance_at : AccountName → Data → Result Allowance WireFault
allowance_at account d = do
  blocks ← number_at avp.Blocks 1 most_blocks d
  from ← optional_at avp.From 0 latest_command d
  until ← optional_at avp.Until 1 no_end d
  scope ← number_at avp.Scope 0 greatest_number d
  reference ← reference_at d
  Ok (record {
    account = account;
    blocks = blocks;
    from = from;
    until = until;
    scope = scope;
    reference = reference;
  })

-- the allowance that the body of an operator's request is, or the first fault
-- rule: allowance-body: an allowance's body
unfoldable pub allowance_of : AccountName → List ℕ → Result Allowance WireFault
allowance_of account bytes = do
  d ← document_at bytes
  allowance_at account d

-- ---- as it is kept

unfoldable pub allowance_data : Allowance → Data
allowance_data a = object
    (member (name_of avp.Blocks) (whole a.blocks)
    (perhaps (name_of avp.From) (option_map whole a.from)
    (member (name_of avp.Reference) (string a.reference)
    (member (name_of avp.Scope) (whole a.scope)
    (perhaps (name_of avp.Until) (option_map whole a.until) no_members)))))

unfoldable pub allowance_text : Allowance → List ℕ
allowance_text a = compact_text (allowance_data a)

-- the ranges of an allowance's body
pub record IsAllowance (a : Allowance) : Type 0 where
  pub some : 1 ≤ a.blocks
  pub blocks : a.blocks ≤ most_blocks
  pub from : IfSome a.from (λ m. m ≤ latest_command)
  pub until : IfSome a.until (λ m. (1 ≤ m) × (m ≤ no_end))
  pub scope : a.scope ≤ greatest_number
  pub reference : is_reference a.reference ≡ true
