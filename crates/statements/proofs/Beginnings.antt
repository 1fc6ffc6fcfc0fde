-- Beginnings of texts that are written.
use Rattle.std.proofs.Common.{◌≡◌, ℕ, List, [], ◌++◌, take, drop, refl, sym, ap, ◌∙◌}
use Rattle.std.proofs.Common.{take-append-drop, append_assoc, subst}
use Rattle.std.specs.Prelude.{Option}
use Rattle.std.specs.Io.KnownBytes.{Appends}
use Rattle.std.proofs.KnownBytes.{Appends-nil, Appends-trans}
use Rattle.statements.specs.Texts.{WritesBeginning}

pub none_written : (a : Option (List ℕ)) (text : List ℕ) → WritesBeginning a a text
none_written a text = record { part = []; rest = text; written = Appends-nil a; whole = refl }

pub part_written : (a b : Option (List ℕ)) (text : List ℕ) →
    (n : ℕ) × Appends a b (take n text) → WritesBeginning a b text
part_written a b text h = record {
  part = take h.0 text;
  rest = drop h.0 text;
  written = h.1;
  whole = sym (take-append-drop h.0 text);
}

-- a beginning of the first text is one of both
pub begun_first : {a b : Option (List ℕ)} {first : List ℕ} (more : List ℕ) →
    WritesBeginning a b first → WritesBeginning a b (first ++ more)
begun_first more h = record {
  part = h.part;
  rest = h.rest ++ more;
  written = h.written;
  whole = ap (λ l. l ++ more) h.whole ∙ append_assoc h.part h.rest more;
}

-- so are the first text and a beginning of the second
pub begun_second : (a b c : Option (List ℕ)) (first second : List ℕ) → Appends a b first →
    WritesBeginning b c second → WritesBeginning a c (first ++ second)
begun_second a b c first second p h = record {
  part = first ++ h.part;
  rest = h.rest;
  written = Appends-trans a b c first h.part p h.written;
  whole = ap (λ l. first ++ l) h.whole ∙ sym (append_assoc first h.part h.rest);
}

-- two texts and a third, which is of a value, are written, or a beginning of the third
-- rule: statement-allowances
pub three_written : {A : Type 0} (a b c d : Option (List ℕ)) (first second : List ℕ)
    (third : A → List ℕ) (s t : A) → s ≡ t → Appends a b first → Appends b c second →
    Appends c d (third s) → Appends a d ((first ++ second) ++ third t)
three_written a b c d first second third s t is p q r =
    Appends-trans a c d (first ++ second) (third t) (Appends-trans a b c first second p q)
    (subst (λ x. Appends c d (third x)) is r)

pub three_begun : {A : Type 0} (a b c d : Option (List ℕ)) (first second : List ℕ)
    (third : A → List ℕ) (s t : A) → s ≡ t → Appends a b first → Appends b c second →
    WritesBeginning c d (third s) → WritesBeginning a d ((first ++ second) ++ third t)
three_begun a b c d first second third s t is p q r =
    begun_second a c d (first ++ second) (third t) (Appends-trans a b c first second p q)
    (subst (λ x. WritesBeginning c d (third x)) is r)

-- of a text that is written in parts, this is left
pub record Remains (old new : Option (List ℕ)) (text left : List ℕ) : Type 0 where
  pub part : List ℕ
  pub written : Appends old new part
  pub whole : text ≡ part ++ left
