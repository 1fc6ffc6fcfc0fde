-- The data of a value with borrowed texts. Of two members of one name the later stays,
-- and a number that is out of range is a float that isn't finite: `document` refuses it.
use Rattle.std.specs.Prelude.{ℕ, ◌&&◌, List, Bool, true, false, is_some, unwrap_or}
use Rattle.std.specs.Prelude.{Option, option_and_then}
use Rattle.std.specs.Float.{binary64}
use Rattle.fast_float.specs.Text.{scan, nearest}
use Rattle.json.specs.Lex.{tokens}
use Rattle.json.specs.Json as json
use Rattle.json.specs.Value.{value_view}
use Rattle.json.specs.Value as borrowed
use Rattle.json.specs.declared.value.Value.{Value}
use Rattle.serde_json.specs.Data.{Num, float, Data, null, boolean, number, string, array, object}
use Rattle.serde_json.specs.Data.{Items, no_items, item, Members, no_members, put}
use Rattle.serde_json.specs.Read.{number_of, max_depth}

abbrev pub number_seen : List ℕ → Num
number_seen s = unwrap_or (number_of s) (float (nearest binary64 false (scan s)))

abbrev mutual
  pub data_of : json.Json → Data
  data_of json.null = null
  data_of (json.boolean b) = boolean b
  data_of (json.number s) = number (number_seen s)
  data_of (json.string s) = string s
  data_of (json.array js) = array (items_data js)
  data_of (json.object ms) = object (members_data ms no_members)

  pub items_data : json.Items → Items
  items_data json.no_items = no_items
  items_data (json.item j js) = item (data_of j) (items_data js)

  pub members_data : json.Members → Members → Members
  members_data json.no_members found = found
  members_data (json.member k j ms) found = members_data ms (put k (data_of j) found)

-- rule: json-members
abbrev pub view : {A : Type 0} → Value A → Data
view v = data_of (value_view v)

abbrev pub items_view : {A : Type 0} → List (Value A) → Items
items_view vs = items_data (borrowed.items_view vs)

-- each number is in the range of a float
abbrev mutual
  -- rule: no-object
  pub is_in_range : json.Json → Bool
  is_in_range json.null = true
  is_in_range (json.boolean b) = true
  is_in_range (json.number s) = is_some (number_of s)
  is_in_range (json.string s) = true
  is_in_range (json.array js) = are_in_range js
  is_in_range (json.object ms) = members_in_range ms

  pub are_in_range : json.Items → Bool
  are_in_range json.no_items = true
  are_in_range (json.item j js) = is_in_range j && are_in_range js

  pub members_in_range : json.Members → Bool
  members_in_range json.no_members = true
  members_in_range (json.member k j ms) = is_in_range j && members_in_range ms

-- the value that a text is, where it is one that nests at most 127 deep
abbrev pub tree_of : List ℕ → Option json.Json
tree_of text = option_and_then (λ p. json.if_last p.0 p.1) (json.value max_depth (tokens text))
