-- An answer that is written, whether it leaves or waits: its bytes are the same.
use Rattle.std.proofs.Common.{◌≡◌, ℕ, Bool, List, length, sym, subst, inl, inr, Option, Result}
use Rattle.std.proofs.Common.{Err}
use Rattle.std.proofs.KnownBytes.{Appends-kept}
use Rattle.std.proofs.Math.Seq.{take-length}
use Rattle.std.specs.Prelude.{OnErr}
use Rattle.std.specs.Io.KnownBytes.{Appends, Keeps}
use Rattle.texts.specs.declared.streams.StreamFault.{StreamFault}
use Rattle.texts.specs.declared.streams.StreamFault.TheVariants.{Write}
use Rattle.json_fields.specs.declared.fault.WireFault.{WireFault}
use Rattle.keepers.proofs.Placed.{on_ok, on_err}
use Rattle.http_messages.specs.Words.{StatusCode}
use Rattle.http_messages.specs.Texts.{AppendsBeginning, AnswersFault, AnswersText, WritesText}
use Rattle.http_messages.specs.Texts.{WritesTold}

-- all of a text is a beginning of it
pub begins-all : (old new : Option (List ℕ)) (text : List ℕ) → Appends old new text →
    AppendsBeginning old new text
begins-all old new text h = (length text, subst (Appends old new) (sym (take-length text)) h)

module _ {A : Type 0} (old mid new : Option (List ℕ)) (result : Result A StreamFault) where
  -- rule: http-leave
  pub text_left : (text : List ℕ) → Appends old mid text → Keeps mid new →
      OnErr result (result ≡ Err Write) → WritesText text old new result
  text_left text appends keeps fault =
      let all : Appends old new text = Appends-kept old mid new text appends keeps in
      record {
        ok = on_ok result all;
        err = on_err result (begins-all old new text all);
        fault = fault;
      }

  -- rule: http-leave
  pub told_left : (tells : (List ℕ → Type 0) → Type 0) →
      ((X Y : List ℕ → Type 0) → ((text : List ℕ) → X text → Y text) → tells X → tells Y) →
      tells (Appends old mid) → Keeps mid new → OnErr result (result ≡ Err Write) →
      WritesTold tells old new result
  told_left tells turn told keeps fault = record {
    ok = on_ok result (turn (Appends old mid) (Appends old new)
        (λ text h. Appends-kept old mid new text h keeps) told);
    err = on_err result (turn (Appends old mid) (AppendsBeginning old new)
        (λ text h. begins-all old new text (Appends-kept old mid new text h keeps)) told);
    fault = fault;
  }

-- what is told, of a writer of which as much is known
pub fault_as : (closes : Bool) (fault : WireFault) (X Y : List ℕ → Type 0) →
    ((text : List ℕ) → X text → Y text) → AnswersFault closes fault X → AnswersFault closes fault Y
fault_as closes fault X Y turn (inl h) = inl (h.0, turn _ h.1)
fault_as closes fault X Y turn (inr h) = inr (h.0, turn _ h.1)

pub text_as : (closes : Bool) (status : StatusCode) (body : List ℕ) (X Y : List ℕ → Type 0) →
    ((text : List ℕ) → X text → Y text) → AnswersText closes status body X →
    AnswersText closes status body Y
text_as closes status body X Y turn (inl h) = inl (turn _ h)
text_as closes status body X Y turn (inr h) = inr (turn _ h)
