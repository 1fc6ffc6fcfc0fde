-- The members that answers alone have. No fault names one: what isn't there as it is written makes
-- the bytes no answer's text.
use Rattle.std.specs.Prelude.{ℕ, List, Result, Ok}
use Rattle.serde_json.specs.Data.{Data}
use Rattle.serde_json.specs.Find.{get, as_str, as_object}
use Rattle.json_fields.specs.declared.fault.WireFault.{WireFault}
use Rattle.json_fields.specs.declared.fault.WireFault.TheVariants.{NotRequest}
use Rattle.json_fields.specs.Gives.{◌>>=◌, or_fault}
use Rattle.json_fields.specs.Fields.{whole_in}

abbrev pub member_in : List ℕ → Data → Result Data WireFault
member_in name d = or_fault NotRequest (get name d)

-- a whole number of this range
unfoldable pub number_in : List ℕ → ℕ → ℕ → Data → Result ℕ WireFault
number_in name low high d = do
  v ← member_in name d
  whole_in NotRequest low high v

-- a text
unfoldable pub text_in : List ℕ → Data → Result (List ℕ) WireFault
text_in name d = do
  v ← member_in name d
  or_fault NotRequest (as_str v)

-- an object
unfoldable pub object_in : List ℕ → Data → Result Data WireFault
object_in name d = do
  v ← member_in name d
  m ← or_fault NotRequest (as_object v)
  Ok v
