-- The body of a credit, and a credit as it is kept.
use Rattle.std.specs.Prelude.{◌≡◌, ℕ, ◌≤◌, List, true, option_map, IfSome, Result, Ok}
use Rattle.units.specs.Words.{no_end, greatest_number, latest_command, most_money}
use Rattle.identifiers.specs.Words.{AccountName, ReferenceName}
use Rattle.serde_json.specs.Data.{Data, string, object, no_members, member}
use Rattle.serde_json.specs.Written.{compact_text}
use Rattle.identifiers.specs.Texts.{is_reference}
use Rattle.commands.specs.Names.{name_of}
use Rattle.commands.specs.declared.avp.Avp.TheVariants as avp
use Rattle.commands.specs.declared.command.Credit.{Credit}
use Rattle.json_fields.specs.declared.fault.WireFault.{WireFault}
use Rattle.json_fields.specs.declared.fault.WireFault.TheVariants.{Invalid}
use Rattle.json_fields.specs.Gives.{◌>>=◌, where_holds}
use Rattle.json_fields.specs.Fields.{document_at, number_at, optional_at, text_at}
use Rattle.json_fields.specs.Spelling.{whole, perhaps}

unfoldable pub reference_at : Data → Result ReferenceName WireFault
reference_at d = do
  s ← text_at avp.Reference d
  where_holds (is_reference s) (Invalid avp.Reference) s

-- Amount, From, Until, Scope and Reference, in this order: 1 to 10^15 micro-units, from a moment of
-- a command on, until one or "no end"
unfoldable pub credit_at : AccountName → Data → Result Credit WireFault
credit_at account d = do
  amount ← number_at avp.Amount 1 most_money d
  from ← optional_at avp.From 0 latest_command d
  until ← optional_at avp.Until 1 no_end d
  scope ← optional_at avp.Scope 0 greatest_number d
  reference ← reference_at d
  Ok (record {
    account = account;
    amount = amount;
    from = from;
    until = until;
    scope = scope;
    reference = reference;
  })

-- the credit that the body of an operator's request is, or the first fault
-- rule: credit-body: a credit's body
unfoldable pub credit_of : AccountName → List ℕ → Result Credit WireFault
credit_of account bytes = do
  d ← document_at bytes
  credit_at account d

-- ---- as it is kept

unfoldable pub credit_data : Credit → Data
credit_data c = object
    (member (name_of avp.Amount) (whole c.amount)
    (perhaps (name_of avp.From) (option_map whole c.from)
    (member (name_of avp.Reference) (string c.reference)
    (perhaps (name_of avp.Scope) (option_map whole c.scope)
    (perhaps (name_of avp.Until) (option_map whole c.until) no_members)))))

unfoldable pub credit_text : Credit → List ℕ
credit_text c = compact_text (credit_data c)

-- the ranges of a credit's body
pub record IsCredit (c : Credit) : Type 0 where
  pub some : 1 ≤ c.amount
  pub amount : c.amount ≤ most_money
  pub from : IfSome c.from (λ m. m ≤ latest_command)
  pub until : IfSome c.until (λ m. (1 ≤ m) × (m ≤ no_end))
  pub scope : IfSome c.scope (λ g. g ≤ greatest_number)
  pub reference : is_reference c.reference ≡ true
