-- Beginnings of a text that is written.
use Rattle.std.proofs.Common.{append-nil, ℕ, List, [], ◌++◌, sym, ap, ◌∙◌, Option, append_assoc}
use Rattle.std.proofs.Common.{take, drop, take-append-drop, Result, Ok, Err, refl, subst, ◌∷◌}
use Rattle.std.proofs.Common.{◌≡◌}
use Rattle.std.proofs.KnownBytes.{Appends-nil, Appends-trans}
use Rattle.std.specs.Prelude.{OnOk, OnErr}
use Rattle.std.specs.Io.KnownBytes.{Appends}
pub use Rattle.keepers.proofs.Placed.{on_err}
use Rattle.operations.specs.Written.{WritesBeginning}
use Rattle.operations.specs.Told.{FaultWords, number_told, place_told, told_line}

-- nothing is written
pub nothing_written : (a : Option (List ℕ)) (text : List ℕ) → WritesBeginning a a text
nothing_written a text = record { part = []; rest = text; written = Appends-nil a; whole = refl }

-- some of a text is written
pub some_written : (a b : Option (List ℕ)) (text : List ℕ) (n : ℕ) → Appends a b (take n text) →
    WritesBeginning a b text
some_written a b text n h = record {
  part = take n text;
  rest = drop n text;
  written = h;
  whole = sym (take-append-drop n text);
}

-- all of it is
pub all_written : (a b : Option (List ℕ)) (text : List ℕ) → Appends a b text →
    WritesBeginning a b text
all_written a b text h =
    record { part = text; rest = []; written = h; whole = sym (append-nil text) }

-- more follows
pub beginning_before : (a b : Option (List ℕ)) (text more : List ℕ) → WritesBeginning a b text →
    WritesBeginning a b (text ++ more)
beginning_before a b text more h =
    record {
      part = h.part;
      rest = h.rest ++ more;
      written = h.written;
      whole = ap (λ l. l ++ more) h.whole ∙ append_assoc h.part h.rest more;
    }

-- and what is before is written whole
pub beginning_after : (a b c : Option (List ℕ)) (first text : List ℕ) → Appends a b first →
    WritesBeginning b c text → WritesBeginning a c (first ++ text)
beginning_after a b c first text h k =
    record {
      part = first ++ k.part;
      rest = k.rest;
      written = Appends-trans a b c first k.part h k.written;
      whole = ap (λ l. first ++ l) k.whole ∙ sym (append_assoc first k.part k.rest);
    }

-- a beginning of a text is one of it with more
pub part_told : (a b : Option (List ℕ)) (text more : List ℕ) →
    (n : ℕ) × Appends a b (take n text) → WritesBeginning a b (text ++ more)
part_told a b text more h = beginning_before a b text more (some_written a b text h.0 h.1)

-- the parts of a fault's line, one after another
in_turn : (line number place : List ℕ) →
    ((line ++ number) ++ place) ++ 10 ∷ [] ≡ line ++ (number ++ (place ++ 10 ∷ []))
in_turn line number place =
    append_assoc (line ++ number) place (10 ∷ []) ∙ append_assoc line number (place ++ 10 ∷ [])

pub parts_told : (a b c : Option (List ℕ)) (line number place : List ℕ) → Appends a b line →
    WritesBeginning b c (number ++ (place ++ 10 ∷ [])) →
    WritesBeginning a c (((line ++ number) ++ place) ++ 10 ∷ [])
parts_told a b c line number place h k = subst (WritesBeginning a c)
    (sym (in_turn line number place)) (beginning_after a b c line (number ++ (place ++ 10 ∷ [])) h k)

pub first_told : (a b : Option (List ℕ)) (line number place : List ℕ) →
    (n : ℕ) × Appends a b (take n line) →
    WritesBeginning a b (((line ++ number) ++ place) ++ 10 ∷ [])
first_told a b line number place h = subst (WritesBeginning a b)
    (sym (in_turn line number place)) (part_told a b line (number ++ (place ++ 10 ∷ [])) h)

-- a fault is reported by its words
pub fault_told_by : (a b : Option (List ℕ)) (w : FaultWords) (p : Option ℕ) (line : List ℕ)
    (number place : Option ℕ) → line ≡ w.line → number ≡ w.number → place ≡ p →
    WritesBeginning a b (((line ++ number_told number) ++ place_told place) ++ 10 ∷ []) →
    WritesBeginning a b ((told_line w ++ place_told p) ++ 10 ∷ [])
fault_told_by a b w p line number place line_is number_is place_is h =
    subst (λ q. WritesBeginning a b (((w.line ++ number_told w.number) ++ place_told q) ++ 10 ∷ []))
    place_is
    (subst (λ n. WritesBeginning a b (((w.line ++ number_told n) ++ place_told place) ++ 10 ∷ []))
    number_is
    (subst (λ l. WritesBeginning a b (((l ++ number_told number) ++ place_told place) ++ 10 ∷ []))
    line_is h))

-- all of a text is written, or a beginning
pub whole_or_part : {A E : Type 0} (r : Result A E) (a b : Option (List ℕ)) (text : List ℕ) →
    OnOk r (Appends a b text) → OnErr r ((n : ℕ) × Appends a b (take n text)) →
    WritesBeginning a b text
whole_or_part (Ok x) a b text h k = all_written a b text h
whole_or_part (Err e) a b text h k = some_written a b text k.0 k.1

pub whole_or_begun : {A E : Type 0} (r : Result A E) (a b : Option (List ℕ)) (text : List ℕ) →
    OnOk r (Appends a b text) → OnErr r (WritesBeginning a b text) → WritesBeginning a b text
whole_or_begun (Ok x) a b text h k = all_written a b text h
whole_or_begun (Err e) a b text h k = k
