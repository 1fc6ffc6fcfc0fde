-- What `json_of` is where a reader of bytes succeeded or failed.
use Rattle.std.proofs.Common.{◌≡◌, ℕ, List, Bool, true, false, Option, Some, None, cond, refl}
use Rattle.std.proofs.Common.{Result, Err, sym, ap, ◌∙◌, subst}
use Rattle.std.specs.Str.{IsUtf8, is_utf8}
use Rattle.std.proofs.lemmas.Str.{IsUtf8-from_is_utf8, is_utf8-from_IsUtf8}
use Rattle.json.specs.declared.value.Value.{Value}
use Rattle.serde_json.specs.Data.{Data}
use Rattle.serde_json.specs.Read.{read}
use Rattle.json_fields.specs.declared.fault.WireFault.{WireFault}
use Rattle.json_fields.specs.declared.fault.WireFault.TheVariants.{NotRequest}
use Rattle.json_fields.specs.Gives.{Gives, or_fault}
use Rattle.json_fields.specs.Fields.{json_of}
use Rattle.json_fields.specs.View.{view}

pub json_found : (bytes : List ℕ) (d : Data) → IsUtf8 bytes → read bytes ≡ Some d →
    json_of bytes ≡ Some d
unfolding json_of
json_found bytes d text is =
    ap (λ b. cond b (read bytes) None) (is_utf8-from_IsUtf8 bytes text) ∙ is

-- a text that was read
-- rule: request-fields, no-object
pub text_read : {M : Type 0} (r : Result (Value M) WireFault) (text bytes : List ℕ) → text ≡ bytes →
    IsUtf8 bytes → Gives view r (or_fault NotRequest (read text)) →
    Gives view r (or_fault NotRequest (json_of bytes))
unfolding json_of
text_read r text bytes same utf8 says =
    let is : read text ≡ json_of bytes =
    ap read same ∙ sym (ap (λ b. cond b (read bytes) None) (is_utf8-from_IsUtf8 bytes utf8)) in
    subst (λ (o : Option Data). Gives view r (or_fault NotRequest o)) is says

no_text_of : (bytes : List ℕ) (b : Bool) → is_utf8 bytes ≡ b → (IsUtf8 bytes → ⊥) →
    cond b (read bytes) None ≡ None
no_text_of bytes true e h = absurd (h (IsUtf8-from_is_utf8 bytes e))
no_text_of bytes false e h = refl

-- bytes that are no text
-- rule: request-fields, no-object
pub no_text : (bytes : List ℕ) → (IsUtf8 bytes → ⊥) →
    or_fault {F = WireFault} NotRequest (json_of bytes) ≡ Err NotRequest
unfolding json_of
no_text bytes h = ap (or_fault NotRequest) (no_text_of bytes (is_utf8 bytes) refl h)
