-- A text after another, as far as they are written.
use Rattle.std.proofs.Common.{◌≡◌, List, ℕ, ◌++◌, sym, ap, subst, ◌∙◌, Option}
use Rattle.std.proofs.Common.{append_assoc}
use Rattle.std.proofs.KnownBytes.{Appends-trans}
use Rattle.std.specs.Io.KnownBytes.{Appends}
use Rattle.operations.specs.Written.{WritesBeginning}
use Rattle.operations.proofs.Beginnings.{beginning_after, beginning_before}

-- so much of a text is written, and this is left of it
pub record IsWrittenSoFar (all left : List ℕ) (old new : Option (List ℕ)) : Type 0 where
  pub told : List ℕ
  pub written : Appends old new told
  pub text : all ≡ told ++ left

pub so_far-more : (all left line after : List ℕ) (w0 w1 w2 : Option (List ℕ)) →
    IsWrittenSoFar all left w0 w1 → left ≡ line ++ after → Appends w1 w2 line →
    IsWrittenSoFar all after w0 w2
so_far-more all left line after w0 w1 w2 h e k = record {
  told = h.told ++ line;
  written = Appends-trans w0 w1 w2 h.told line h.written k;
  text = h.text ∙ ap (λ l. h.told ++ l) e ∙ sym (append_assoc h.told line after);
}

pub so_far-failed : (all left line after : List ℕ) (w0 w1 w2 : Option (List ℕ)) →
    IsWrittenSoFar all left w0 w1 → left ≡ line ++ after → WritesBeginning w1 w2 line →
    WritesBeginning w0 w2 all
so_far-failed all left line after w0 w1 w2 h e k =
    subst (WritesBeginning w0 w2) (ap (λ l. h.told ++ l) (sym e) ∙ sym h.text)
    (beginning_after w0 w1 w2 h.told (line ++ after) h.written
    (beginning_before w1 w2 line after k))
