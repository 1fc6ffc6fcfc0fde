-- Reading a balance that was written.
use Rattle.std.specs.Prelude.{ℕ, List, [], Bool, Option, Some, None, Result, Ok}
use Rattle.units.specs.Words.{Moment, GroupId, greatest_number, latest_moment, most_of_64_bits}
use Rattle.identifiers.specs.Words.{AccountName}
use Rattle.serde_json.specs.Data.{Data, Items}
use Rattle.serde_json.specs.Find.{get, as_array, as_bool}
use Rattle.identifiers.specs.Texts.{is_account_number}
use Rattle.commands.specs.declared.avp.Avp.TheVariants as avp
use Rattle.commands.specs.Names.{name_of, account, available, barred, buckets, charged, credited}
use Rattle.commands.specs.Names.{expired, moment, reserved}
use Rattle.commands.specs.Names as names
use Rattle.commands.specs.declared.balance.AccountBalance.{AccountBalance}
use Rattle.commands.specs.declared.balance.BucketBalance.{BucketBalance}
use Rattle.commands.specs.declared.balance.BucketUnit.{BucketUnit}
use Rattle.commands.specs.declared.balance.BucketUnit.TheVariants.{MicroUnits, Blocks}
use Rattle.json_fields.specs.declared.fault.WireFault.{WireFault}
use Rattle.json_fields.specs.declared.fault.WireFault.TheVariants.{NotRequest}
use Rattle.json_fields.specs.Fields.{optional_in}
use Rattle.json_fields.specs.Gives.{◌>>=◌, or_fault, where_holds, read_each}
use Rattle.wire.specs.declared.reading_balances.Amounts.{Amounts}
use Rattle.wire.specs.Members.{member_in, number_in, text_in}

-- micro-units or blocks
abbrev pub amount_in : List ℕ → Data → Result ℕ WireFault
amount_in name d = number_in name 0 most_of_64_bits d

abbrev pub moment_in : List ℕ → Data → Result Moment WireFault
moment_in name d = number_in name 0 latest_moment d

abbrev pub scope_in : Data → Result (Option GroupId) WireFault
scope_in d = optional_in (name_of avp.Scope) NotRequest 0 greatest_number d

-- which unit a Unit names is seen where its text is compared
abbrev pub unit_when : Option Data → BucketUnit
unit_when None = MicroUnits
unit_when (Some v) = Blocks

unfoldable pub flag_in : List ℕ → Data → Result Bool WireFault
flag_in name d = do
  v ← member_in name d
  or_fault NotRequest (as_bool v)

-- what became of a bucket's amount
unfoldable pub amounts_in : Data → Result Amounts WireFault
amounts_in d = do
  a ← amount_in available d
  c ← amount_in charged d
  k ← amount_in credited d
  e ← amount_in expired d
  r ← amount_in reserved d
  Ok (record { credited = k; available = a; reserved = r; charged = c; expired = e })

unfoldable pub bucket_with : Amounts → Data → Result BucketBalance WireFault
bucket_with amounts d = do
  f ← moment_in (name_of avp.From) d
  n ← number_in names.number 0 greatest_number d
  s ← scope_in d
  u ← moment_in (name_of avp.Until) d
  Ok (record {
    number = n;
    from = f;
    until = u;
    scope = s;
    unit = unit_when (get names.unit d);
    credited = amounts.credited;
    available = amounts.available;
    reserved = amounts.reserved;
    charged = amounts.charged;
    expired = amounts.expired;
  })

unfoldable pub bucket_at : Data → Result BucketBalance WireFault
bucket_at d = do
  amounts ← amounts_in d
  bucket_with amounts d

abbrev pub buckets_from : Items → Result (List BucketBalance) WireFault
buckets_from ds = read_each (λ _ d. bucket_at d) [] ds

unfoldable pub buckets_in : Data → Result (List BucketBalance) WireFault
buckets_in d = do
  v ← member_in buckets d
  ds ← or_fault NotRequest (as_array v)
  buckets_from ds

unfoldable pub account_in : Data → Result AccountName WireFault
account_in d = do
  s ← text_in account d
  where_holds (is_account_number s) NotRequest s

unfoldable pub balance_at : Data → Result AccountBalance WireFault
balance_at d = do
  a ← account_in d
  b ← flag_in barred d
  bs ← buckets_in d
  m ← moment_in moment d
  Ok (record { account = a; barred = b; buckets = bs; moment = m })
