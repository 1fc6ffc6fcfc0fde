-- Faults of connections, reported one after another; a port that is printed.
use Rattle.std.proofs.Common.{ℕ, ◌+◌, List, [], ◌∷◌, ◌++◌, length, length-append, refl}
use Rattle.std.proofs.Common.{ap, subst, ◌∙◌, Option, Some, None}
use Rattle.std.specs.Io.KnownBytes.{Appends, Keeps}
use Rattle.operations.specs.Written.{WritesBeginning}
use Rattle.http_api.specs.declared.fault.ServeFault.{ServeFault}
use Rattle.service.specs.ServingTold.{TellsFaults, WritesFaults, connection_line}

-- none
pub faults_none : (a : Option (List ℕ)) → TellsFaults 0 a a
faults_none a = record { faults = []; count_is = refl; written = refl }

-- one
pub faults_one : (fault : ServeFault) (a b : Option (List ℕ)) →
    WritesBeginning a b (connection_line fault) → TellsFaults 1 a b
faults_one fault a b h = record { faults = fault ∷ []; count_is = refl; written = (b, h, refl) }

writes_more : (xs ys : List ServeFault) (a b c : Option (List ℕ)) → WritesFaults xs a b →
    WritesFaults ys b c → WritesFaults (xs ++ ys) a c
writes_more [] ys a b c h k = subst (λ (w : Option (List ℕ)). WritesFaults ys w c) h k
writes_more (x ∷ xs) ys a b c h k = (h.0, h.1, writes_more xs ys h.0 b c h.2 k)

-- and then more
-- rule: port
pub faults_more : (m n : ℕ) (a b c : Option (List ℕ)) → TellsFaults m a b → TellsFaults n b c →
    TellsFaults (m + n) a c
faults_more m n a b c h k = record {
  faults = h.faults ++ k.faults;
  count_is = length-append h.faults k.faults
      ∙ ap (λ x. x + length k.faults) h.count_is
      ∙ ap (λ x. m + x) k.count_is;
  written = writes_more h.faults k.faults a b c h.written k.written;
}

-- what is written stays over a flush
-- rule: port.listening-line
pub written_kept : (a b c : Option (List ℕ)) (text : List ℕ) → Appends a b text → Keeps b c →
    Appends a c text
written_kept None b c text h k = tt
written_kept (Some xs) None c text h k = absurd h
written_kept (Some xs) (Some ys) None text h k = absurd k
written_kept (Some xs) (Some ys) (Some zs) text h k = k ∙ h
