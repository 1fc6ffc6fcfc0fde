-- What is written for a balance is read as that balance.
use Rattle.std.proofs.Common.{◌≡◌, ℕ, ◌≤◌, lit≤, List, [], ◌∷◌, ◌++◌, Bool, true}
use Rattle.std.proofs.Common.{Option, Some, option_map, IfSome, Ok, refl, sym}
use Rattle.std.proofs.Common.{ap, ◌∙◌, arith, append_assoc, append-nil, le-leb}
use Rattle.std.specs.List.{AllByRecursion}
use Rattle.std.specs.Ordering.{nat_cmp}
use Rattle.std.specs.declared.cmp.Ordering.TheVariants.{Greater}
use Rattle.std.specs.Cmp.Lexicographic.{slice_cmp}
use Rattle.json.proofs.Printed.Utf8.{IsUtf8-are_ascii}
use Rattle.serde_json.specs.Data.{Data, boolean, string, array, object, Members, no_members, member}
use Rattle.serde_json.specs.Find.{get}
use Rattle.identifiers.specs.Texts.{is_account_number}
use Rattle.commands.specs.declared.avp.Avp.TheVariants as avp
use Rattle.commands.specs.Names.{name_of, account, available, barred, buckets, charged, credited}
use Rattle.commands.specs.Names.{expired, moment, reserved, blocks_unit}
use Rattle.commands.specs.Names as names
use Rattle.commands.specs.declared.balance.AccountBalance.{AccountBalance}
use Rattle.commands.specs.declared.balance.BucketBalance.{BucketBalance}
use Rattle.commands.specs.declared.balance.BucketUnit.{BucketUnit}
use Rattle.commands.specs.declared.balance.BucketUnit.TheVariants.{MicroUnits, Blocks}
use Rattle.json_fields.specs.declared.fault.WireFault.TheVariants.{NotRequest}
use Rattle.texts.specs.Steps.{each}
use Rattle.json_fields.specs.Gives.{read_each}
use Rattle.json_fields.specs.Spelling.{whole, perhaps}
use Rattle.json_fields.proofs.Compact.{Above}
use Rattle.json_fields.proofs.Found.{get_skip, get_here, from_zero, optional_in_found}
use Rattle.json_fields.proofs.Fit.{Fit, FitItems, FitMembers, fit_whole, fit_text, fit_object}
use Rattle.json_fields.proofs.Fit.{fit_array, fit_no_items, fit_item, fit_none, fit_member}
use Rattle.json_fields.proofs.Fit.{fit_perhaps, fit_optional, fit_deeper, above_perhaps}
use Rattle.wire_requests.proofs.RequestsAgain.{account_utf8}
use Rattle.wire.specs.Members.{number_in, text_in}
use Rattle.wire.specs.SpelledBalances.{bucket_data, bucket_items, unit_data}
use Rattle.wire.specs.ReadingBalances.{flag_in, amounts_in, bucket_with, bucket_at, buckets_in}
use Rattle.wire.specs.ReadingBalances.{account_in, balance_at, unit_when}
use Rattle.wire.specs.Rules.{IsBucketBalance, IsAccountBalance}

pub number_in_found : (name : List ℕ) (low high : ℕ) (d : Data) (n : ℕ) →
    get name d ≡ Some (whole n) → low ≤ n → n ≤ high → number_in name low high d ≡ Ok n
unfolding number_in
number_in_found name low high d n e l h = rw (e, le-leb low n l, le-leb n high h) refl

from_nothing : (name : List ℕ) (high : ℕ) (d : Data) (n : ℕ) → get name d ≡ Some (whole n) →
    n ≤ high → number_in name 0 high d ≡ Ok n
from_nothing name high d n e h = number_in_found name 0 high d n e (omega arith) h

-- ---- a bucket

-- its members, by what they say
abbrev unit_members : Option Data → ℕ → Members
unit_members counted u =
    perhaps names.unit counted (member (name_of avp.Until) (whole u) no_members)

abbrev end_members : ℕ → Option Data → Option Data → ℕ → Members
end_members r scope counted u =
    member reserved (whole r) (perhaps (name_of avp.Scope) scope (unit_members counted u))

abbrev bucket_members : ℕ → ℕ → ℕ → ℕ → ℕ → ℕ → ℕ → Option Data → Option Data → ℕ → Members
bucket_members a c k e f n r scope counted u = member available (whole a)
    (member charged (whole c)
    (member credited (whole k)
    (member expired (whole e)
    (member (name_of avp.From) (whole f)
    (member names.number (whole n) (end_members r scope counted u))))))

module _ (a c k e f n r : ℕ) (scope counted : Option Data) (u : ℕ) where
  abbrev d : Data
  d = object (bucket_members a c k e f n r scope counted u)

  abbrev last : Members
  last = member (name_of avp.Until) (whole u) no_members

  scope_is : get (name_of avp.Scope) d ≡ scope
  scope_is = get_here (name_of avp.Scope) scope (unit_members counted u) refl
      (get_skip (name_of avp.Scope) names.unit counted last refl)

  unit_is : get names.unit d ≡ counted
  unit_is = get_skip names.unit (name_of avp.Scope) scope (unit_members counted u) refl
      ∙ get_here names.unit counted last refl refl

  until_is : get (name_of avp.Until) d ≡ Some (whole u)
  until_is = get_skip (name_of avp.Until) (name_of avp.Scope) scope (unit_members counted u) refl
      ∙ get_skip (name_of avp.Until) names.unit counted last refl

-- the unit that is written is read
unit_again : (u : BucketUnit) → unit_when (unit_data u) ≡ u
unit_again MicroUnits = refl
unit_again Blocks = refl

amounts_again : (b : BucketBalance) → IsBucketBalance b → amounts_in (bucket_data b) ≡ Ok (record {
  credited = b.credited;
  available = b.available;
  reserved = b.reserved;
  charged = b.charged;
  expired = b.expired;
})
unfolding amounts_in bucket_data
amounts_again b is =
    let d = object (bucket_members b.available b.charged b.credited b.expired b.from b.number
    b.reserved (option_map whole b.scope) (unit_data b.unit) b.until) in
    rw (
      from_nothing available 18446744073709551615 d b.available refl is.available,
      from_nothing charged 18446744073709551615 d b.charged refl is.charged,
      from_nothing credited 18446744073709551615 d b.credited refl is.credited,
      from_nothing expired 18446744073709551615 d b.expired refl is.expired,
      from_nothing reserved 18446744073709551615 d b.reserved refl is.reserved,
    ) refl

rest_again : (b : BucketBalance) → IsBucketBalance b → bucket_with (record {
  credited = b.credited;
  available = b.available;
  reserved = b.reserved;
  charged = b.charged;
  expired = b.expired;
}) (bucket_data b) ≡ Ok b
unfolding bucket_with bucket_data
rest_again b is =
    let scope = option_map whole b.scope in
    let counted = unit_data b.unit in
    let d = object (bucket_members b.available b.charged b.credited b.expired b.from b.number
    b.reserved scope counted b.until) in
    rw (
      from_nothing (name_of avp.From) 4102488000 d b.from refl is.from,
      from_nothing names.number 4294967295 d b.number refl is.number,
      optional_in_found (name_of avp.Scope) NotRequest 0 4294967295 d b.scope (scope_is b.available
          b.charged b.credited b.expired b.from b.number b.reserved scope counted b.until)
          (from_zero 4294967295 b.scope is.scope),
      from_nothing (name_of avp.Until) 4102488000 d b.until (until_is b.available b.charged
          b.credited b.expired b.from b.number b.reserved scope counted b.until) is.until,
      unit_is b.available b.charged b.credited b.expired b.from b.number b.reserved scope counted
          b.until,
      unit_again b.unit,
    ) refl

bucket_again : (b : BucketBalance) → IsBucketBalance b → bucket_at (bucket_data b) ≡ Ok b
unfolding bucket_at
bucket_again b is = rw (amounts_again b is, rest_again b is) refl

each_again : (done bs : List BucketBalance) → AllByRecursion IsBucketBalance bs →
    read_each (λ _ d. bucket_at d) done (bucket_items bs) ≡ Ok (done ++ bs)
unfolding each
each_again done [] is = ap Ok (sym (append-nil done))
each_again done (b ∷ bs) is = rw (bucket_again b is.0)
    (each_again (done ++ b ∷ []) bs is.1 ∙ ap Ok (append_assoc done (b ∷ []) bs))

-- ---- the balance

abbrev pub balance_members : AccountBalance → Members
balance_members a = member account (string a.account)
    (member barred (boolean a.barred)
    (member buckets (array (bucket_items a.buckets))
    (member moment (whole a.moment) no_members)))

account_again : (a : AccountBalance) → is_account_number a.account ≡ true →
    account_in (object (balance_members a)) ≡ Ok a.account
unfolding account_in text_in
account_again a h = rw h refl

buckets_again : (a : AccountBalance) → AllByRecursion IsBucketBalance a.buckets →
    buckets_in (object (balance_members a)) ≡ Ok a.buckets
unfolding buckets_in
buckets_again a is = rw (each_again [] a.buckets is) refl

pub account_balance_again : (a : AccountBalance) → IsAccountBalance a →
    balance_at (object (balance_members a)) ≡ Ok a
unfolding balance_at flag_in
account_balance_again a is =
    rw (
      account_again a is.account,
      buckets_again a is.buckets,
      from_nothing moment 4102488000 (object (balance_members a)) a.moment refl is.moment,
    ) refl

-- ---- how deep it is

-- the names of the last members are above
above_last : (q : List ℕ) (scope counted : Option Data) (u : ℕ) →
    slice_cmp nat_cmp (name_of avp.Scope) q ≡ Greater → slice_cmp nat_cmp names.unit q ≡ Greater →
    slice_cmp nat_cmp (name_of avp.Until) q ≡ Greater →
    Above q (perhaps (name_of avp.Scope) scope (unit_members counted u))
above_last q scope counted u s n g = above_perhaps q (name_of avp.Scope) scope _ s
    (above_perhaps q names.unit counted _ n (g, tt))

unit_fit : (u : BucketUnit) → IfSome (unit_data u) (Fit 0)
unit_fit MicroUnits = tt
unit_fit Blocks = fit_text 0 blocks_unit (IsUtf8-are_ascii blocks_unit refl)

end_fit : (b : BucketBalance) → IsBucketBalance b →
    FitMembers 0 (end_members b.reserved (option_map whole b.scope) (unit_data b.unit) b.until)
end_fit b is =
    let scope = option_map whole b.scope in
    let until : FitMembers 0 (member (name_of avp.Until) (whole b.until) no_members) =
    fit_member 0 _ (whole b.until) no_members refl
    (fit_whole 0 b.until (omega (arith, is.until))) tt (fit_none 0) in
    let counted = unit_data b.unit in
    let last : FitMembers 0 (unit_members counted b.until) =
    fit_perhaps 0 _ counted _ refl (unit_fit b.unit) (refl, tt) until in
    fit_member 0 _ (whole b.reserved) _ refl (fit_whole 0 b.reserved is.reserved)
    (above_last reserved scope counted b.until refl refl refl) (fit_perhaps 0 _ scope _ refl
    (fit_optional 0 4294967295 b.scope (lit≤ tt) is.scope)
    (above_perhaps (name_of avp.Scope) names.unit counted _ refl (refl, tt)) last)

bucket_fit : (b : BucketBalance) → IsBucketBalance b → Fit 1 (bucket_data b)
unfolding bucket_data
bucket_fit b is =
    let scope = option_map whole b.scope in
    let counted = unit_data b.unit in
    let u = b.until in
    let numbered = fit_member 0 _ (whole b.number)
    (end_members b.reserved scope counted u) refl (fit_whole 0 b.number (omega (arith, is.number)))
    (refl, above_last names.number scope counted u refl refl refl) (end_fit b is) in
    let begun = fit_member 0 _ (whole b.from) _ refl (fit_whole 0 b.from (omega (arith, is.from)))
    (refl, (refl, above_last (name_of avp.From) scope counted u refl refl refl)) numbered in
    fit_object 0 _
    (fit_member 0 _ (whole b.available) _ refl (fit_whole 0 b.available is.available) (
      refl,
      (refl, (refl, (refl, (refl, (refl, above_last available scope counted u refl refl refl))))),
    ) (fit_member 0 _ (whole b.charged) _ refl (fit_whole 0 b.charged is.charged) (
      refl,
      (refl, (refl, (refl, (refl, above_last charged scope counted u refl refl refl)))),
    ) (fit_member 0 _ (whole b.credited) _ refl (fit_whole 0 b.credited is.credited) (
      refl,
      (refl, (refl, (refl, above_last credited scope counted u refl refl refl))),
    ) (fit_member 0 _ (whole b.expired) _ refl (fit_whole 0 b.expired is.expired) (
      refl,
      (refl, (refl, above_last expired scope counted u refl refl refl)),
    ) begun))))

buckets_fit : (bs : List BucketBalance) → AllByRecursion IsBucketBalance bs →
    FitItems 1 (bucket_items bs)
buckets_fit [] is = fit_no_items 1
buckets_fit (b ∷ bs) is =
    fit_item 1 (bucket_data b) (bucket_items bs) (bucket_fit b is.0) (buckets_fit bs is.1)

flag_fit : (n : ℕ) (b : Bool) → Fit n (boolean b)
flag_fit n b = record { tidy = tt; deep = omega arith }

pub account_balance_fit : (a : AccountBalance) → IsAccountBalance a →
    Fit 127 (object (balance_members a))
account_balance_fit a is =
    fit_deeper 3 127 _ (lit≤ tt) (fit_object 2 _
    (fit_member 2 _ (string a.account) _ refl
    (fit_text 2 a.account (account_utf8 a.account is.account)) (refl, (refl, (refl, tt)))
    (fit_member 2 _ (boolean a.barred) _ refl (flag_fit 2 a.barred) (refl, (refl, tt))
    (fit_member 2 _ (array (bucket_items a.buckets)) _ refl
    (fit_array 1 (bucket_items a.buckets) (buckets_fit a.buckets is.buckets)) (refl, tt)
    (fit_member 2 _ (whole a.moment) no_members refl (fit_whole 2 a.moment (omega (
      arith,
      is.moment,
    ))) tt (fit_none 2))))))
