-- The members of an object, as they are read: a member that isn't there is missing, one of the
-- wrong kind or value is invalid.
use Rattle.std.specs.Prelude.{ℕ, ◌&&◌, List, Option, Some, None, Result, Ok, nat_le}
use Rattle.std.specs.Prelude.{if◌then◌else◌, option_and_then}
use Rattle.std.specs.Str.{is_utf8}
use Rattle.serde_json.specs.Data.{Data, Items}
use Rattle.serde_json.specs.Read.{read}
use Rattle.serde_json.specs.Find.{get, as_number, as_u64, as_str, as_array, as_object}
use Rattle.commands.specs.declared.avp.Avp.{Avp}
use Rattle.commands.specs.Names.{name_of}
use Rattle.json_fields.specs.declared.fault.WireFault.{WireFault}
use Rattle.json_fields.specs.declared.fault.WireFault.TheVariants.{NotRequest, Missing, Invalid}
use Rattle.json_fields.specs.Gives.{◌>>=◌, or_fault, where_holds}

-- the JSON that the bytes are
-- rule: no-object
unfoldable pub json_of : List ℕ → Option Data
json_of bytes = if is_utf8 bytes then read bytes else None

-- what is read is an object
-- rule: no-object: a text that is no JSON object
unfoldable pub document_at : List ℕ → Result Data WireFault
document_at bytes = do
  d ← or_fault NotRequest (json_of bytes)
  m ← or_fault NotRequest (as_object d)
  Ok d

-- the member of this name, which has to be there
-- rule: json-members: members of a JSON object
unfoldable pub member_at : Avp → Data → Result Data WireFault
member_at a d = or_fault (Missing a) (get (name_of a) d)

-- the whole number of this range that a value is
abbrev pub whole_in : WireFault → ℕ → ℕ → Data → Result ℕ WireFault
whole_in fault low high v = do
  n ← or_fault fault (option_and_then as_u64 (as_number v))
  where_holds (nat_le low n && nat_le n high) fault n

-- a whole number of this range
-- rule: json-members
unfoldable pub number_at : Avp → ℕ → ℕ → Data → Result ℕ WireFault
number_at a low high d = do
  v ← member_at a d
  whole_in (Invalid a) low high v

abbrev pub optional_when : WireFault → ℕ → ℕ → Option Data → Result (Option ℕ) WireFault
optional_when fault low high None = Ok None
optional_when fault low high (Some v) = do
  n ← whole_in fault low high v
  Ok (Some n)

-- a whole number of this range, where it is there
unfoldable pub optional_in : List ℕ → WireFault → ℕ → ℕ → Data → Result (Option ℕ) WireFault
optional_in name fault low high d = optional_when fault low high (get name d)

abbrev pub optional_at : Avp → ℕ → ℕ → Data → Result (Option ℕ) WireFault
optional_at a low high d = optional_in (name_of a) (Invalid a) low high d

-- a text
-- rule: json-members
unfoldable pub text_at : Avp → Data → Result (List ℕ) WireFault
text_at a d = do
  v ← member_at a d
  or_fault (Invalid a) (as_str v)

-- an object
unfoldable pub object_at : Avp → Data → Result Data WireFault
object_at a d = do
  v ← member_at a d
  m ← or_fault (Invalid a) (as_object v)
  Ok v

-- an array
-- rule: json-members
unfoldable pub array_of : Avp → Data → Result Items WireFault
array_of a v = or_fault (Invalid a) (as_array v)
