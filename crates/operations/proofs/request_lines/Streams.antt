-- The lines of a stream, one after another, and what they hand in.
use Rattle.std.proofs.Common.{◌≡◌, ℕ, Bool, true, false, List, [], ◌∷◌, ◌++◌, map, refl}
use Rattle.std.proofs.Common.{sym, ap, subst, ◌∙◌, Option, Some, None, append_assoc, IfSome, Result}
use Rattle.std.proofs.Common.{Ok, Err, ◌+◌, ◌<◌, length, arith}
use Rattle.std.proofs.lemmas.List.{map-append, length-append, length-map}
use Rattle.std.specs.Prelude.{if◌then◌else◌, ◌==◌, Vec, OnOk}
use Rattle.std.specs.Global.{Global}
use Rattle.texts.specs.Lines.{line_of, after_line, IsLineOf, prepend, lines_of}
use Rattle.json_fields.specs.declared.fault.WireFault.{WireFault}
use Rattle.json_fields.specs.declared.fault.WireFault.TheVariants.{Memory}
use Rattle.json_fields.specs.Gives.{Fails}
use Rattle.charging.specs.declared.running.DatedCommand.{DatedCommand}
use Rattle.operations.specs.declared.line_input.Input.{Input}
use Rattle.operations.specs.declared.line_input.Line.{Line}
use Rattle.operations.specs.Lines.{line_request}
use Rattle.operations.specs.LinesServed.{requests_of, fault_of}
use Rattle.operations.specs.LineInput.{kept_fault, IsInput}

-- ---- a line more

abbrev Read : Type 0
Read = List (Result DatedCommand WireFault)

requests_more : (read : Read) (d : DatedCommand) →
    requests_of (read ++ Ok d ∷ []) ≡ requests_of read ++ d ∷ []
requests_more [] d = refl
requests_more (Ok x ∷ read) d = ap (λ l. x ∷ l) (requests_more read d)
requests_more (Err e ∷ read) d = requests_more read d

requests_same : (read : Read) (e : WireFault) → requests_of (read ++ Err e ∷ []) ≡ requests_of read
requests_same [] e = refl
requests_same (Ok x ∷ read) e = ap (λ l. x ∷ l) (requests_same read e)
requests_same (Err f ∷ read) e = requests_same read e

input_request : (read : Read) (d : DatedCommand) (old new : Input) → IsInput read old →
    new.requests.items ≡ old.requests.items ++ d ∷ [] →
    map kept_fault new.lines.items ≡ map kept_fault old.lines.items ++ None ∷ [] →
    IsInput (read ++ Ok d ∷ []) new
input_request read d old new h requests lines = record {
  requests = requests ∙ ap (λ l. l ++ d ∷ []) h.requests ∙ sym (requests_more read d);
  lines = lines ∙ ap (λ l. l ++ None ∷ []) h.lines ∙ sym (map-append fault_of read (Ok d ∷ []));
}

input_fault : (read : Read) (e : WireFault) (old new : Input) → IsInput read old →
    new.requests ≡ old.requests →
    map kept_fault new.lines.items ≡ map kept_fault old.lines.items ++ Some e ∷ [] →
    IsInput (read ++ Err e ∷ []) new
input_fault read e old new h requests lines = record {
  requests = ap (λ (v : Vec DatedCommand Global). v.items) requests
      ∙ h.requests
      ∙ sym (requests_same read e);
  lines = lines ∙ ap (λ l. l ++ Some e ∷ []) h.lines ∙ sym (map-append fault_of read (Err e ∷ []));
}

-- a fault that isn't lack of memory is the line's own
fails_with : (e : WireFault) (line : Result DatedCommand WireFault) → Fails e line →
    (e ≡ Memory → ⊥) → line ≡ Err e
fails_with e line h other = h other

-- a request that is added
pub request_added : {A E : Type 0} (result : Result A E) (line : Result DatedCommand WireFault)
    (d : DatedCommand) (old new : Input) → line ≡ Ok d →
    OnOk result (new.requests.items ≡ old.requests.items ++ d ∷ []) →
    OnOk result (map kept_fault new.lines.items ≡ map kept_fault old.lines.items ++ None ∷ []) →
    OnOk result ((read : Read) → IsInput read old → IsInput (read ++ line ∷ []) new)
request_added (Err x) line d old new is requests lines = tt
request_added (Ok x) line d old new is requests lines = λ read h.
    subst (λ (l : Result DatedCommand WireFault). IsInput (read ++ l ∷ []) new) (sym is)
    (input_request read d old new h requests lines)

-- a fault that is added
pub fault_added : {A E : Type 0} (result : Result A E) (line : Result DatedCommand WireFault)
    (e : WireFault) (old new : Input) → Fails e line → OnOk result (e ≡ Memory → ⊥) →
    OnOk result (new.requests ≡ old.requests) →
    OnOk result (map kept_fault new.lines.items ≡ map kept_fault old.lines.items ++ Some e ∷ []) →
    OnOk result ((read : Read) → IsInput read old → IsInput (read ++ line ∷ []) new)
fault_added (Err x) line e old new fails own requests lines = tt
fault_added (Ok x) line e old new fails own requests lines = λ read h.
    subst (λ (l : Result DatedCommand WireFault). IsInput (read ++ l ∷ []) new)
    (sym (fails_with e line fails own)) (input_fault read e old new h requests lines)

-- one line more is told
pub line_counted : {A E : Type 0} (result : Result A E) (told : Option WireFault)
    (old new : List Line) → OnOk result (map kept_fault new ≡ map kept_fault old ++ told ∷ []) →
    OnOk result (length new ≡ length old + 1)
line_counted (Err x) told old new lines = tt
line_counted (Ok x) told old new lines = omega (
  arith,
  ap length lines,
  length-map new kept_fault,
  length-map old kept_fault,
  length-append (map kept_fault old) (told ∷ []),
)

-- a vector of lines has fewer than all that are counted
pub few_lines : (input : Input) → length input.lines.items < 18446744073709551615
few_lines input =
    let small : input.lines.cap < 9223372036854775808 = input.lines.small in
    omega (arith, input.lines.ok.0, input.lines.ok.1, small)

-- ---- line after line

first_alone : (b : ℕ) (e : Bool) → (if e then [] ∷ lines_of [] else prepend b (lines_of []))
    ≡ (if e then [] else b ∷ line_of []) ∷ lines_of (if e then [] else after_line [])
first_alone b true = refl
first_alone b false = refl

first_before : (b : ℕ) (cs : List ℕ) (e : Bool) →
    lines_of cs ≡ line_of cs ∷ lines_of (after_line cs) →
    (if e then [] ∷ lines_of cs else prepend b (lines_of cs))
    ≡ (if e then [] else b ∷ line_of cs) ∷ lines_of (if e then cs else after_line cs)
first_before b cs true h = refl
first_before b cs false h = ap (prepend b) h

-- a stream's lines are its first one and those after it
-- rule: lines
pub lines_first : (b : ℕ) (bs : List ℕ) →
    lines_of (b ∷ bs) ≡ line_of (b ∷ bs) ∷ lines_of (after_line (b ∷ bs))
lines_first b [] = first_alone b (b == 10)
lines_first b (c ∷ cs) = first_before b (c ∷ cs) (b == 10) (lines_first c cs)

-- these lines are read, and this is left of the stream
pub record IsReadSoFar (stream : List ℕ) (left : Option (List ℕ)) (so_far : Input) : Type 0 where
  pub told : List (List ℕ)
  pub rest : List ℕ
  pub left_is : left ≡ Some rest
  pub lines : lines_of stream ≡ told ++ lines_of rest
  pub input : IsInput (map line_request told) so_far

-- none so far
pub read-none : (r : Option (List ℕ)) (input : Input) → IsInput [] input →
    IfSome r (λ stream. IsReadSoFar stream r input)
read-none None input h = tt
read-none (Some stream) input h =
    record { told = []; rest = stream; left_is = refl; lines = refl; input = h }

line_first : (rest : List ℕ) (line : Vec ℕ Global) (left : Option (List ℕ)) →
    IsLineOf rest (Some line) left →
    (left ≡ Some (after_line rest)) × (lines_of rest ≡ line.items ∷ lines_of (after_line rest))
line_first [] line left h = absurd h
line_first (b ∷ bs) line left h =
    (h.1, lines_first b bs ∙ ap (λ l. l ∷ lines_of (after_line (b ∷ bs))) (sym h.0))

-- a line more
-- rule: lines
pub read-line : (r0 r1 r2 : Option (List ℕ)) (line : Vec ℕ Global) (old new : Input) →
    IfSome r0 (λ stream. IsReadSoFar stream r1 old) →
    IfSome r1 (λ stream. IsLineOf stream (Some line) r2) →
    ((read : Read) → IsInput read old → IsInput (read ++ line_request line.items ∷ []) new) →
    IfSome r0 (λ stream. IsReadSoFar stream r2 new)
read-line None r1 r2 line old new h k more = tt
read-line (Some stream) r1 r2 line old new h k more =
    let first = line_first h.rest line r2 (subst (λ (r : Option (List ℕ)).
    IfSome r (λ left. IsLineOf left (Some line) r2)) h.left_is k) in
    record {
      told = h.told ++ line.items ∷ [];
      rest = after_line h.rest;
      left_is = first.0;
      lines = h.lines
          ∙ ap (λ l. h.told ++ l) first.1
          ∙ sym (append_assoc h.told (line.items ∷ []) (lines_of (after_line h.rest)));
      input = subst (λ l. IsInput l new) (sym (map-append line_request h.told (line.items ∷ [])))
          (more (map line_request h.told) h.input);
    }
