-- How the members of requests, answers and operators' bodies are spelled.
use Rattle.std.specs.Prelude.{ℕ, List, [], ◌∷◌, Option, codes, nat_eq}
use Rattle.std.specs.List.{find}
use Rattle.std.specs.Cmp.Lexicographic.{pointwise}
use Rattle.commands.specs.declared.avp.Avp.{Avp}
use Rattle.commands.specs.declared.avp.Avp.TheVariants as avp

-- ---- what can be at fault

-- the AVPs' names (RFC 8506 section 8), and those of the profile
abbrev pub name_of : Avp → List ℕ
name_of avp.SessionId = codes "Session-Id"
name_of avp.RequestType = codes "CC-Request-Type"
name_of avp.RequestNumber = codes "CC-Request-Number"
name_of avp.SubscriptionId = codes "Subscription-Id"
name_of avp.SubscriptionIdType = codes "Subscription-Id-Type"
name_of avp.SubscriptionIdData = codes "Subscription-Id-Data"
name_of avp.RequestedAction = codes "Requested-Action"
name_of avp.Services = codes "Multiple-Services-Credit-Control"
name_of avp.RatingGroup = codes "Rating-Group"
name_of avp.RequestedUnit = codes "Requested-Service-Unit"
name_of avp.UsedUnit = codes "Used-Service-Unit"
name_of avp.Money = codes "CC-Money"
name_of avp.UnitValue = codes "Unit-Value"
name_of avp.ValueDigits = codes "Value-Digits"
name_of avp.Exponent = codes "Exponent"
name_of avp.CurrencyCode = codes "Currency-Code"
name_of avp.Amount = codes "Amount"
name_of avp.Blocks = codes "Blocks"
name_of avp.From = codes "From"
name_of avp.Until = codes "Until"
name_of avp.Scope = codes "Scope"
name_of avp.Reference = codes "Reference"
name_of avp.VoucherCode = codes "Voucher-Code"
name_of avp.Month = codes "Month"

-- every one of them
abbrev pub all_avps : List Avp
all_avps =
    avp.SessionId ∷ avp.RequestType ∷ avp.RequestNumber ∷ avp.SubscriptionId
    ∷ avp.SubscriptionIdType ∷ avp.SubscriptionIdData ∷ avp.RequestedAction ∷ avp.Services
    ∷ avp.RatingGroup ∷ avp.RequestedUnit ∷ avp.UsedUnit ∷ avp.Money ∷ avp.UnitValue
    ∷ avp.ValueDigits ∷ avp.Exponent ∷ avp.CurrencyCode ∷ avp.Amount ∷ avp.Blocks ∷ avp.From
    ∷ avp.Until ∷ avp.Scope ∷ avp.Reference ∷ avp.VoucherCode ∷ avp.Month ∷ []

-- the one of this name
abbrev pub avp_named : List ℕ → Option Avp
avp_named name = find (λ a. pointwise nat_eq (name_of a) name) all_avps

-- ---- what can't (RFC 8506 section 8; RFC 6733 section 7.5 for Failed-AVP; and the profile)

abbrev pub tariff_change_usage : List ℕ
tariff_change_usage = codes "Tariff-Change-Usage"

abbrev pub result_code : List ℕ
result_code = codes "Result-Code"

abbrev pub failed_avp : List ℕ
failed_avp = codes "Failed-AVP"

abbrev pub granted_unit : List ℕ
granted_unit = codes "Granted-Service-Unit"

abbrev pub tariff_time_change : List ℕ
tariff_time_change = codes "Tariff-Time-Change"

abbrev pub validity_time : List ℕ
validity_time = codes "Validity-Time"

abbrev pub final_unit : List ℕ
final_unit = codes "Final-Unit-Indication"

abbrev pub final_unit_action : List ℕ
final_unit_action = codes "Final-Unit-Action"

abbrev pub redirect_server : List ℕ
redirect_server = codes "Redirect-Server"

abbrev pub redirect_address_type : List ℕ
redirect_address_type = codes "Redirect-Address-Type"

abbrev pub redirect_server_address : List ℕ
redirect_server_address = codes "Redirect-Server-Address"

abbrev pub check_balance_result : List ℕ
check_balance_result = codes "Check-Balance-Result"

abbrev pub cost_information : List ℕ
cost_information = codes "Cost-Information"

abbrev pub bucket : List ℕ
bucket = codes "Bucket"

abbrev pub accounts : List ℕ
accounts = codes "Accounts"

abbrev pub refusal : List ℕ
refusal = codes "Refusal"

-- ---- a balance

abbrev pub account : List ℕ
account = codes "Account"

abbrev pub barred : List ℕ
barred = codes "Barred"

abbrev pub buckets : List ℕ
buckets = codes "Buckets"

abbrev pub moment : List ℕ
moment = codes "Moment"

abbrev pub number : List ℕ
number = codes "Number"

abbrev pub unit : List ℕ
unit = codes "Unit"

abbrev pub blocks_unit : List ℕ
blocks_unit = codes "blocks"

abbrev pub credited : List ℕ
credited = codes "Credited"

abbrev pub available : List ℕ
available = codes "Available"

abbrev pub reserved : List ℕ
reserved = codes "Reserved"

abbrev pub charged : List ℕ
charged = codes "Charged"

abbrev pub expired : List ℕ
expired = codes "Expired"
