-- What is read of a value whose numbers are in range, and of one with a number that isn't.
use Rattle.std.proofs.Common.{◌≡◌, ℕ, List, [], ◌∷◌, Bool, true, false, cond, ◌&&◌, Option, Some, None}
use Rattle.std.proofs.Common.{Result, Ok, Err, option_map, option_and_then, refl, ap, ◌∙◌, sym}
use Rattle.std.specs.Prelude.{is_some, unwrap_or}
use Rattle.std.specs.Borrow.{Bor}
use Rattle.std.specs.List.{list_all}
use Rattle.json.specs.Json as json
use Rattle.json.specs.Value.{value_view, items_view, members_view}
use Rattle.json.specs.declared.value.Value.{Value}
use Rattle.serde_json.specs.Data.{Num, Data, number, array, object, Items, item, Members}
use Rattle.serde_json.specs.Data.{no_members, put}
use Rattle.serde_json.specs.Read.{number_of, of_json, of_items, of_members, read}
use Rattle.json_fields.specs.declared.fault.WireFault.{WireFault}
use Rattle.json_fields.specs.declared.fault.WireFault.TheVariants.{NotRequest}
use Rattle.json_fields.specs.Gives.{or_fault}
use Rattle.json_fields.specs.View.{number_seen, data_of, items_data, members_data, is_in_range}
use Rattle.json_fields.specs.View.{are_in_range, members_in_range, tree_of}

-- the value where the test holds
abbrev when : {A : Type 0} → Bool → A → Option A
when b x = cond b (Some x) None

number_read : (o : Option Num) (x : Num) →
    option_map number o ≡ when (is_some o) (number (unwrap_or o x))
number_read None x = refl
number_read (Some n) x = refl

mapped : {A B : Type 0} (f : A → B) (b : Bool) (x : A) → option_map f (when b x) ≡ when b (f x)
mapped f true x = refl
mapped f false x = refl

both : {A B : Type 0} (b c : Bool) (f : A → Option B) (x : A) (y : B) → f x ≡ when c y →
    option_and_then f (when b x) ≡ when (b && c) y
both true c f x y e = e
both false c f x y e = refl

mutual
  json_read : (j : json.Json) → of_json j ≡ when (is_in_range j) (data_of j)
  json_read json.null = refl
  json_read (json.boolean b) = refl
  json_read (json.number s) = number_read (number_of s) _
  json_read (json.string s) = refl
  json_read (json.array js) =
      ap (option_map array) (items_read js) ∙ mapped array (are_in_range js) (items_data js)
  json_read (json.object ms) = ap (option_map object) (members_read ms no_members)
      ∙ mapped object (members_in_range ms) (members_data ms no_members)

  items_read : (js : json.Items) → of_items js ≡ when (are_in_range js) (items_data js)
  items_read json.no_items = refl
  items_read (json.item j js) =
      ap (option_and_then (λ d. option_map (item d) (of_items js))) (json_read j)
      ∙ both (is_in_range j) (are_in_range js) (λ d. option_map (item d) (of_items js)) (data_of j)
      (item (data_of j) (items_data js)) (ap (option_map (item (data_of j))) (items_read js)
      ∙ mapped (item (data_of j)) (are_in_range js) (items_data js))

  members_read : (ms : json.Members) (found : Members) →
      of_members ms found ≡ when (members_in_range ms) (members_data ms found)
  members_read json.no_members found = refl
  members_read (json.member k j ms) found =
      ap (option_and_then (λ d. of_members ms (put k d found))) (json_read j)
      ∙ both (is_in_range j) (members_in_range ms) (λ d. of_members ms (put k d found)) (data_of j)
      (members_data ms (put k (data_of j) found)) (members_read ms (put k (data_of j) found))

abbrev told : Option json.Json → Result json.Json WireFault
told o = or_fault NotRequest o

read_of : (o : Option json.Json) (j : json.Json) → told o ≡ Ok j → option_and_then of_json o
    ≡ when (is_in_range j) (data_of j)
read_of None j e = absurd (cc)
read_of (Some i) j e = let same : i ≡ j = cc in ap of_json same ∙ json_read j

-- rule: no-object
pub in_range : (text : List ℕ) (j : json.Json) → told (tree_of text) ≡ Ok j →
    is_in_range j ≡ true → or_fault {F = WireFault} NotRequest (read text) ≡ Ok (data_of j)
in_range text j e h = ap (or_fault NotRequest)
    (read_of (tree_of text) j e ∙ ap (λ b. when b (data_of j)) h)

-- rule: no-object
pub out_of_range : (text : List ℕ) (j : json.Json) → told (tree_of text) ≡ Ok j →
    is_in_range j ≡ false → or_fault {A = Data} NotRequest (read text) ≡ Err NotRequest
out_of_range text j e h = ap (or_fault NotRequest)
    (read_of (tree_of text) j e ∙ ap (λ b. when b (data_of j)) h)

abbrev moved : Result json.Json WireFault → Result Data WireFault
moved (Ok j) = Ok (data_of j)
moved (Err f) = Err f

not_read : (o : Option json.Json) (fault : WireFault) → told o ≡ Err fault →
    or_fault {A = Data} NotRequest (option_and_then of_json o) ≡ Err fault
not_read None fault e = ap moved e
not_read (Some i) fault e = absurd (cc)

pub no_tree : (text : List ℕ) (fault : WireFault) → told (tree_of text) ≡ Err fault →
    or_fault {A = Data} NotRequest (read text) ≡ Err fault
no_tree text fault e = not_read (tree_of text) fault e

-- the tests of the items, and of the members, as those of a list
pub items_all : {A : Type 0} (vs : List (Value A)) →
    list_all (λ v. is_in_range (value_view v)) vs ≡ are_in_range (items_view vs)
items_all [] = refl
items_all (v ∷ vs) = ap (λ b. is_in_range (value_view v) && b) (items_all vs)

pub members_all : {A : Type 0} (ms : List (Bor (List ℕ) × Value A)) →
    list_all (λ m. is_in_range (value_view m.1)) ms ≡ members_in_range (members_view ms)
members_all [] = refl
members_all (m ∷ ms) = ap (λ b. is_in_range (value_view m.1) && b) (members_all ms)
