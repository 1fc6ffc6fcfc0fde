-- What is found in a value with borrowed texts is what is found in the data that it stands for.
use Rattle.std.proofs.Common.{◌≡◌, ℕ, List, Bool, true, false, cond, Option, Some, None, Bor}
use Rattle.std.proofs.Common.{option_map, bytes_eq, refl, sym, ap, ◌∙◌, true≢false}
use Rattle.std.proofs.lemmas.Slice.Eq.{bytes_eq-Decides}
use Rattle.json.specs.Json as json
use Rattle.json.specs.Find as reader
use Rattle.json.specs.Value.{value_view}
use Rattle.json.specs.declared.value.Value.{Value}
use Rattle.serde_json.specs.Data.{Data, Members, no_members, put}
use Rattle.serde_json.specs.Find.{get, get_member, as_str, as_bool}
use Rattle.serde_json.proofs.Views.{get_member-put, get_member-put_other}
use Rattle.json_fields.specs.View.{data_of, members_data, view}

-- rule: json-members
pub text_seen : (j : json.Json) → as_str (data_of j) ≡ reader.as_str j
text_seen json.null = refl
text_seen (json.boolean b) = refl
text_seen (json.number s) = refl
text_seen (json.string s) = refl
text_seen (json.array js) = refl
text_seen (json.object ms) = refl

pub bool_seen : (j : json.Json) → as_bool (data_of j) ≡ reader.as_bool j
bool_seen json.null = refl
bool_seen (json.boolean b) = refl
bool_seen (json.number s) = refl
bool_seen (json.string s) = refl
bool_seen (json.array js) = refl
bool_seen (json.object ms) = refl

put_found : (b : Bool) (name k : List ℕ) (d : Data) (ms : Members) → bytes_eq k name ≡ b →
    get_member name (put k d ms) ≡ cond b (Some d) (get_member name ms)
put_found true name k d ms e =
    let same : k ≡ name = (bytes_eq-Decides k name).0 e in
    ap (λ n. get_member n (put k d ms)) (sym same) ∙ get_member-put k d ms
put_found false name k d ms e = get_member-put_other name k d ms
    (λ same. true≢false (sym ((bytes_eq-Decides k name).1 (sym same)) ∙ e))

-- what is found last, and else what was there
abbrev later : Option json.Json → Option Data → Option Data
later None found = found
later (Some j) found = Some (data_of j)

later_put : (o : Option json.Json) (b : Bool) (j : json.Json) (found : Option Data) →
    later o (cond b (Some (data_of j)) found)
    ≡ later (reader.later_or o (cond b (Some j) None)) found
later_put None true j found = refl
later_put None false j found = refl
later_put (Some i) true j found = refl
later_put (Some i) false j found = refl

last_found : (name : List ℕ) (ms : json.Members) (found : Members) →
    get_member name (members_data ms found)
    ≡ later (reader.get_member name ms) (get_member name found)
last_found name json.no_members found = refl
last_found name (json.member k j ms) found =
    last_found name ms (put k (data_of j) found)
    ∙ ap (later (reader.get_member name ms)) (put_found (bytes_eq k name) name k (data_of j) found refl)
    ∙ later_put (reader.get_member name ms) (bytes_eq k name) j (get_member name found)

later_none : (o : Option json.Json) → later o None ≡ option_map data_of o
later_none None = refl
later_none (Some j) = refl

member_seen : (name : List ℕ) (j : json.Json) →
    get name (data_of j) ≡ option_map data_of (reader.get name j)
member_seen name json.null = refl
member_seen name (json.boolean b) = refl
member_seen name (json.number s) = refl
member_seen name (json.string s) = refl
member_seen name (json.array js) = refl
member_seen name (json.object ms) =
    last_found name ms no_members ∙ later_none (reader.get_member name ms)

seen_twice : {A : Type 0} (r : Option (Bor (Value A))) →
    option_map (λ v. view v.now) r ≡ option_map data_of (option_map (λ v. value_view v.now) r)
seen_twice None = refl
seen_twice (Some v) = refl

-- rule: json-members
pub member_found : {A : Type 0} (r : Option (Bor (Value A))) (name : List ℕ) (j : json.Json) →
    option_map (λ v. value_view v.now) r ≡ reader.get name j
    → option_map (λ v. view v.now) r ≡ get name (data_of j)
member_found r name j is = seen_twice r ∙ ap (option_map data_of) is ∙ sym (member_seen name j)
