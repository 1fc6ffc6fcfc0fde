-- A head has at least three bytes a field.
use Rattle.std.proofs.Common.{◌≡◌, ◌≤◌, ◌*◌, ℕ, List, [], ◌∷◌, length, length-append, arith, All}
use Rattle.std.proofs.Common.{ap, subst, sym, ◌∙◌, append-nil}
use Rattle.std.specs.List.{flat_map}
use Rattle.std.proofs.lemmas.List.Elements.{All-head, All-tail}
use Rattle.httparse.specs.Grammar.{Field, IsField, LineEnd, crlf, lf, print_end, print_field}
use Rattle.httparse.specs.Grammar.{print_section, RequestHead, print_request}
use Rattle.http_messages.specs.MessageParts.{IsHead}

end_has_one : (e : LineEnd) → 1 ≤ length (print_end e)
end_has_one crlf = omega arith
end_has_one lf = omega arith

field_has_three : (f : Field) → IsField f → 3 ≤ length (print_field f)
field_has_three f is = grind (arith, length-append, end_has_one f.end, is.name.0)

fields_have_three : (fs : List Field) → All IsField fs →
    3 * length fs ≤ length (flat_map print_field fs)
fields_have_three [] all = omega arith
fields_have_three (f ∷ fs) all =
    grind (
      arith,
      length-append (print_field f) (flat_map print_field fs),
      field_has_three f (All-head IsField f fs all),
      fields_have_three fs (All-tail IsField f fs all),
    )

section_has_three : (fs : List Field) (last : LineEnd) → All IsField fs →
    3 * length fs ≤ length (print_section fs last)
section_has_three fs last all =
    grind (
      arith,
      length-append (flat_map print_field fs) (print_end last),
      fields_have_three fs all,
    )

-- the head's own bytes
request_has_three : (h : RequestHead) → All IsField h.fields →
    3 * length h.fields ≤ length (print_request h)
unfolding print_request
request_has_three h all = grind (arith, length-append, section_has_three h.fields h.last all)

-- a whole head is as long as its text
pub whole_len : (part : List ℕ) (h : RequestHead) → IsHead part h →
    length part ≡ length (print_request h)
whole_len part h is = ap length is.1 ∙ ap length (append-nil (print_request h))

pub whole_has_three : (part : List ℕ) (h : RequestHead) → IsHead part h →
    3 * length h.fields ≤ length part
whole_has_three part h is = subst (λ n. 3 * length h.fields ≤ n) (sym (whole_len part h is))
    (request_has_three h is.0.fields)
