-- How a balance is spelled: compact JSON, with the members in the byte order of their names.
use Rattle.std.specs.Prelude.{List, [], ◌∷◌, Option, Some, None, option_map}
use Rattle.serde_json.specs.Data.{Data, boolean, string, array, object, Items, no_items, item}
use Rattle.serde_json.specs.Data.{Members, no_members, member}
use Rattle.commands.specs.declared.avp.Avp.TheVariants as avp
use Rattle.commands.specs.Names.{name_of, account, available, barred, buckets, charged, credited}
use Rattle.commands.specs.Names.{expired, moment, reserved, blocks_unit}
use Rattle.commands.specs.Names as names
use Rattle.commands.specs.declared.balance.AccountBalance.{AccountBalance}
use Rattle.commands.specs.declared.balance.BucketBalance.{BucketBalance}
use Rattle.commands.specs.declared.balance.BucketUnit.{BucketUnit}
use Rattle.commands.specs.declared.balance.BucketUnit.TheVariants.{MicroUnits, Blocks}
use Rattle.json_fields.specs.Spelling.{whole, perhaps}

-- a bucket of money has no Unit
abbrev pub unit_data : BucketUnit → Option Data
unit_data MicroUnits = None
unit_data Blocks = Some (string blocks_unit)

-- from the reserved amount on
abbrev pub last_members : BucketBalance → Members
last_members b =
    member reserved (whole b.reserved)
    (perhaps (name_of avp.Scope) (option_map whole b.scope)
    (perhaps names.unit (unit_data b.unit)
    (member (name_of avp.Until) (whole b.until) no_members)))

-- amounts are in the bucket's unit; a bucket that pays for all groups has no Scope
unfoldable pub bucket_data : BucketBalance → Data
bucket_data b = object
    (member available (whole b.available)
    (member charged (whole b.charged)
    (member credited (whole b.credited)
    (member expired (whole b.expired)
    (member (name_of avp.From) (whole b.from)
    (member names.number (whole b.number) (last_members b)))))))

abbrev pub bucket_items : List BucketBalance → Items
bucket_items [] = no_items
bucket_items (b ∷ bs) = item (bucket_data b) (bucket_items bs)

unfoldable pub balance_data : AccountBalance → Data
balance_data a = object
    (member account (string a.account)
    (member barred (boolean a.barred)
    (member buckets (array (bucket_items a.buckets))
    (member moment (whole a.moment) no_members))))
