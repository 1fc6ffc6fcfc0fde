-- A connection that a fault ends: of some of the stream's first requests, at most 1,000, a beginning
-- of the answers is written. It follows from what each fault says.
use Rattle.std.proofs.Common.{◌≤◌, ◌+◌, ℕ, suc, List, ◌++◌, length, sym}
use Rattle.std.proofs.Common.{subst, arith, Option, Err}
use Rattle.std.specs.Io.KnownBytes.{Appends}
use Rattle.std.proofs.Math.Seq.{take-append-add}
use Rattle.shelves.specs.Shelves.{Shelf}
use Rattle.keepers.specs.Tables.{Tables}
use Rattle.charging.specs.Accepted.{Accepted}
use Rattle.http_messages.specs.Texts.{AppendsBeginning}
use Rattle.http_api.specs.declared.fault.ServeFault.{ServeFault}
use Rattle.http_api.specs.declared.fault.ServeFault.TheVariants as fault
use Rattle.http_api.specs.Connections.{IsConnectionPart, AreRequestsTaken, IsNextUnread, IsCutOff}
use Rattle.http_api.specs.Connections.{ComesTo}
use Rattle.http_api.proofs.Leaving.{begins-all}

pub record IsConnectionBegun {C : Type 0} (gives : C → Option ℕ → C → Type 0) (b : Shelf)
    (stream : List ℕ) (before after : C) (empty full : Option (List ℕ)) (old : Tables)
    (Is : List Accepted → Type 0) : Type 0 where
  pub count : ℕ
  pub bounded : count ≤ 1000
  pub taken : IsConnectionPart gives b before after old (AppendsBeginning empty full)
      (λ moments text. AreRequestsTaken b stream count moments text Is)

module _ {C : Type 0} (gives : C → Option ℕ → C → Type 0) (b : Shelf) (stream : List ℕ)
    (before after : C) (empty full : Option (List ℕ)) (old : Tables)
    (Is : List Accepted → Type 0) where
  unread_begun : IsNextUnread gives b stream before after empty full old Is →
      IsConnectionBegun gives b stream before after empty full old Is
  unread_begun u = record {
    count = u.count;
    bounded = omega (arith, u.bounded);
    taken = record {
      moments = u.taken.moments;
      given = u.taken.given;
      text = u.taken.text;
      written = begins-all empty full u.taken.text u.taken.written;
      is = λ list time are. (u.taken.is list time are).0;
    };
  }

  cut_off_begun : IsCutOff gives b stream before after empty full old Is →
      IsConnectionBegun gives b stream before after empty full old Is
  cut_off_begun u = record {
    count = suc u.count;
    bounded = omega (arith, u.bounded);
    taken = record {
      moments = u.taken.moments;
      given = u.taken.given;
      text = u.taken.text ++ u.more;
      written = (
        length u.taken.text + u.begun,
        subst (Appends empty full) (sym (take-append-add u.taken.text u.more u.begun))
            u.taken.written,
      );
      is = λ list time are. (u.taken.is list time are).0;
    };
  }

  pub begun : (e : ServeFault) → ComesTo gives b stream before after empty full old Is (Err e) →
      IsConnectionBegun gives b stream before after empty full old Is
  begun fault.Memory comes = unread_begun comes
  begun fault.Read comes = unread_begun comes
  begun fault.Write comes = cut_off_begun comes
