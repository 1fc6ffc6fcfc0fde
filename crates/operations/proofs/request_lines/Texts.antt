-- The texts of lines: with a line more, and with the answers to a beginning of the commands.
use Rattle.std.proofs.Common.{◌≡◌, ℕ, zero, suc, ◌+◌, ◌<◌, Bool, true, false, get_or, add-one}
use Rattle.std.proofs.Common.{drop-cons, List, [], ◌∷◌, ◌++◌, map, refl, sym, ap, arith, subst, ◌∙◌}
use Rattle.std.proofs.Common.{Option, Some, None, append_assoc, take, drop, take-append-drop}
use Rattle.std.specs.Prelude.{if◌then◌else◌, is_some, not, option_map, length}
use Rattle.std.specs.List.{slice_get}
use Rattle.std.specs.Slice.{IsItemAt}
use Rattle.std.specs.Borrow.{Bor}
use Rattle.std.proofs.lemmas.Option.{slice_get_past, slice_get_read, same_Some}
use Rattle.commands.specs.declared.answer.Answer.{Answer}
use Rattle.json_fields.specs.declared.fault.WireFault.{WireFault}
use Rattle.wire.specs.Spelled.{answer_text, fault_text}
use Rattle.operations.specs.LinesServed.{answer_texts}
use Rattle.operations.specs.declared.line_input.Line.{Line}
use Rattle.operations.specs.LineInput.{kept_fault}
use Rattle.operations.specs.LineOutput.{answered_line}

abbrev IsThere : Option (List ℕ) → Type 0
IsThere None = ⊥
IsThere (Some t) = Unit {0}

next_answer : (answers : List Answer) (n : ℕ) (faults : List (Option WireFault)) (text : List ℕ) →
    Some text ≡ answered_line None (slice_get answers n) →
    answer_texts (None ∷ faults) (drop n answers) ≡ text ++ 10 ∷ answer_texts faults
    (drop (suc n) answers)
next_answer [] zero faults text h = absurd (subst IsThere h tt)
next_answer [] (suc n) faults text h = absurd (subst IsThere h tt)
next_answer (a ∷ answers) zero faults text h =
    ap (λ t. t ++ 10 ∷ answer_texts faults answers) (sym (same_Some text (answer_text a) h))
next_answer (a ∷ answers) (suc n) faults text h = next_answer answers n faults text h

plus_one : (n : ℕ) → suc n ≡ n + 1
plus_one n = omega arith

-- a fault's text, where there is one, or the next answer's
pub next_text : (fault : Option WireFault)
    (faults : List (Option WireFault)) (answers : List Answer) (n : ℕ) (text : List ℕ) →
    Some text ≡ answered_line fault (slice_get answers n) →
    answer_texts (fault ∷ faults) (drop n answers)
    ≡ (text ++ 10 ∷ []) ++ answer_texts faults (drop (if is_some fault then n else n + 1) answers)
next_text (Some fault) faults answers n text h =
    ap (λ t. t ++ 10 ∷ answer_texts faults (drop n answers)) (sym
    (same_Some text (fault_text fault) h))
    ∙ sym (append_assoc text (10 ∷ []) (answer_texts faults (drop n answers)))
next_text None faults answers n text h =
    next_answer answers n faults text h
    ∙ ap (λ m. text ++ 10 ∷ answer_texts faults (drop m answers)) (plus_one n)
    ∙ sym (append_assoc text (10 ∷ []) (answer_texts faults (drop (n + 1) answers)))

-- what a look-up answers
pub answer_at : (answers : List Answer) (n : ℕ) (o : Option (Bor Answer)) → IsItemAt answers n o →
    option_map (λ a. a.now) o ≡ slice_get answers n
answer_at answers n None h = sym (slice_get_past answers n h.3)
answer_at answers n (Some a) h =
    sym (slice_get_read answers (length answers) n a.now refl h.3.0 h.1)

-- ---- a beginning of the answers

pub texts_begin : (faults : List (Option WireFault)) (xs ys : List Answer) →
    (rest : List ℕ) × (answer_texts faults (xs ++ ys) ≡ answer_texts faults xs ++ rest)
texts_begin [] xs ys = ([], refl)
texts_begin (Some fault ∷ faults) xs ys =
    let h = texts_begin faults xs ys in (
      h.0,
      ap (λ t. fault_text fault ++ 10 ∷ t) h.1
          ∙ sym (append_assoc (fault_text fault) (10 ∷ answer_texts faults xs) h.0),
    )
texts_begin (None ∷ faults) [] ys = (answer_texts (None ∷ faults) ys, refl)
texts_begin (None ∷ faults) (a ∷ xs) ys =
    let h = texts_begin faults xs ys in (
      h.0,
      ap (λ t. answer_text a ++ 10 ∷ t) h.1
          ∙ sym (append_assoc (answer_text a) (10 ∷ answer_texts faults xs) h.0),
    )

drop_begin : (k : ℕ) (xs ys : List Answer) →
    (zs : List Answer) × (drop k (xs ++ ys) ≡ drop k xs ++ zs)
drop_begin zero xs ys = (ys, refl)
drop_begin (suc k) [] ys = (drop (suc k) ys, refl)
drop_begin (suc k) (x ∷ xs) ys = drop_begin k xs ys

-- the texts with the answers to a beginning of the commands are a beginning of the texts
pub texts_taken : (faults : List (Option WireFault)) (k n : ℕ) (all : List Answer) →
    (rest : List ℕ) × (answer_texts faults (drop k all) ≡ answer_texts faults (drop k (take n all))
    ++ rest)
texts_taken faults k n all =
    let d = drop_begin k (take n all) (drop n all) in
    let t = texts_begin faults (drop k (take n all)) d.0 in (
      t.0,
      ap (λ l. answer_texts faults (drop k l)) (sym (take-append-drop n all))
          ∙ ap (answer_texts faults) d.1
          ∙ t.1,
    )

-- ---- line after line

-- a line of all, with the next answer
pub texts_first : (lines : List Line) (answers : List Answer) (d : Line) (i n : ℕ)
    (o : Option (Bor Answer)) (text : List ℕ) → i < length lines → IsItemAt answers n o →
    Some text ≡ answered_line (kept_fault (get_or lines i d)) (option_map (λ a. a.now) o) →
    answer_texts (map kept_fault (drop i lines)) (drop n answers)
    ≡ (text ++ 10 ∷ []) ++ answer_texts (map kept_fault (drop (i + 1) lines))
    (drop (if is_some (kept_fault (get_or lines i d)) then n else n + 1) answers)
texts_first lines answers d i n o text lt item told =
    let fault = kept_fault (get_or lines i d) in
    let here : drop i lines ≡ get_or lines i d ∷ drop (i + 1) lines =
    rw (add-one, drop-cons lines i d lt) refl in
    ap (λ l. answer_texts (map kept_fault l) (drop n answers)) here
    ∙ next_text fault (map kept_fault (drop (i + 1) lines)) answers n text
    (told ∙ ap (answered_line fault) (answer_at answers n o item))

-- and the place of the answer after it
-- rule: request-lines
pub texts_next : (lines : List Line) (answers : List Answer) (d : Line) (i n next : ℕ)
    (o : Option (Bor Answer)) (request : Bool) (text : List ℕ) → i < length lines →
    IsItemAt answers n o →
    Some text ≡ answered_line (kept_fault (get_or lines i d)) (option_map (λ a. a.now) o) →
    is_some (kept_fault (get_or lines i d)) ≡ not request → next ≡ (if request then n + 1 else n) →
    answer_texts (map kept_fault (drop i lines)) (drop n answers)
    ≡ (text ++ 10 ∷ []) ++ answer_texts (map kept_fault (drop (i + 1) lines)) (drop next answers)
texts_next lines answers d i n next o request text lt item told is moved =
    texts_first lines answers d i n o text lt item told
    ∙ ap (λ m. (text ++ 10 ∷ []) ++ answer_texts (map kept_fault (drop (i + 1) lines))
    (drop m answers))
    (ap (λ t. if t then n else n + 1) is ∙ turned request ∙ sym moved)
  where
    turned : (b : Bool) → (if not b then n else n + 1) ≡ (if b then n + 1 else n)
    turned true = refl
    turned false = refl
