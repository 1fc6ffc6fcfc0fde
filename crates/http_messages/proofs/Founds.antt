-- The fields of a name, one after another.
use Rattle.std.proofs.Common.{◌≡◌, ◌<◌, ◌+◌, ℕ, Bool, true, false, List, [], ◌∷◌, ◌++◌, length}
use Rattle.std.proofs.Common.{get_or, take, refl, sym, ap, subst, ◌∙◌, map}
use Rattle.std.proofs.lemmas.List.{map-append, take_more}
use Rattle.std.specs.Prelude.{if◌then◌else◌, Result}
use Rattle.httparse.specs.Spans.{header_bytes}
use Rattle.httparse.specs.declared.spans.HeaderSpan.{HeaderSpan}
use Rattle.http_messages.specs.declared.fields.Found.{Found}
use Rattle.http_messages.specs.Fields.{Fields, same_field_name, values_of}
use Rattle.http_messages.specs.MessageParts.{length_unless}
use Rattle.http_messages.specs.Found.{AreValuesFound}

values-first : (b : Bool) (value : List ℕ) (all values more : List (List ℕ)) →
    all ≡ values ++ more →
    (if b then value ∷ all else all) ≡ (if b then value ∷ values else values) ++ more
values-first true value all values more h = ap (λ l. value ∷ l) h
values-first false value all values more h = h

-- the values of one list of fields after another
pub values-append : (name : List ℕ) (fields more : Fields) →
    values_of name (fields ++ more) ≡ values_of name fields ++ values_of name more
values-append name [] more = refl
values-append name (f ∷ fields) more =
    values-first (same_field_name f.0 name) f.1 (values_of name (fields ++ more))
    (values_of name fields)
    (values_of name more) (values-append name fields more)

-- one field more
pub found_more : (part name : List ℕ) (fields : List HeaderSpan) (i : ℕ) (d : HeaderSpan)
    (found new : Found) → i < length fields →
    AreValuesFound part (values_of name (map (header_bytes part) (take i fields))) found →
    ((values : List (List ℕ)) → AreValuesFound part values found →
    AreValuesFound part (values ++ values_of name (header_bytes part (get_or fields i d) ∷ []))
    new) →
    AreValuesFound part (values_of name (map (header_bytes part) (take (i + 1) fields))) new
found_more part name fields i d found new within h goes =
    let one : List HeaderSpan = get_or fields i d ∷ [] in
    let all : values_of name (map (header_bytes part) (take (i + 1) fields))
    ≡ values_of name (map (header_bytes part) (take i fields)) ++ values_of name
    (header_bytes part (get_or fields i d) ∷ []) =
    ap (λ l. values_of name (map (header_bytes part) l)) (take_more fields i d within)
    ∙ ap (values_of name) (map-append (header_bytes part) (take i fields) one)
    ∙ values-append name (map (header_bytes part) (take i fields))
    (header_bytes part (get_or fields i d) ∷ []) in
    subst (λ values. AreValuesFound part values new) (sym all)
    (goes (values_of name (map (header_bytes part) (take i fields))) h)

-- no coding
-- rule: http-coding
pub unless_none : (values : List (List ℕ)) (length result : Result ℕ ℕ) → values ≡ [] →
    result ≡ length → result ≡ length_unless values length
unless_none values length result none h = h ∙ sym (ap (λ v. length_unless v length) none)
