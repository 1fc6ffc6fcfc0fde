-- A ledger only grows, at its front.
use Rattle.std.proofs.Common.{ℕ, List, [], ◌∷◌, ◌++◌, Option, refl, ap}
use Rattle.commands.specs.declared.request.Request.{Request}
use Rattle.shelves.specs.Shelves.{Shelf}
use Rattle.units.specs.declared.blocks.UsedPart.{UsedPart}
use Rattle.buckets.specs.declared.kind.BucketKind.{BucketKind}
use Rattle.ledger.specs.Ledger.{Dated, Ledger}
use Rattle.ledger.specs.Requests.{credited}
use Rattle.ledger.specs.Settlement.{settled_by}
use Rattle.decisions.specs.Decisions.{decision}
use Rattle.keepers.specs.Steps.{Extends}
use Rattle.charging.proofs.steps.Steps.{Keeps}
use Rattle.charging.proofs.steps.KeptDecisions.{kept_decided}

more : (old new : Ledger) (d : Dated) → Extends old new → Extends old (d ∷ new)
more old new d h = record { front = d ∷ h.front; is = ap (λ l. d ∷ l) h.is }

many : (old new xs : Ledger) → Extends old new → Extends old (xs ++ new)
many old new [] h = h
many old new (x ∷ xs) h = more old (xs ++ new) x (many old new xs h)

settled_more : (b : Shelf) (t : ℕ) (s : List ℕ) (g : ℕ) (used_parts : List UsedPart)
    (old ledger : Ledger) → Extends old ledger → Extends old (settled_by b t s g used_parts ledger)
settled_more b t s g [] old ledger h = more old ledger _ h
settled_more b t s g (p ∷ ps) old ledger h = many old ledger (_ ∷ _ ∷ _) h

keeps_extends : (b : Shelf) (old : Ledger) → Keeps b (λ reports ledger. Extends old ledger)
keeps_extends b old = record {
  quiet = λ t f reports ledger q n fits h. more old ledger _ h;
  touch = λ t s n reports ledger h. more old _ _ (more old ledger _ h);
  credit = λ t kind from until scope amount reports ledger h. more old ledger _ h;
  settle = λ t s g used_parts reports ledger touches h.
      settled_more b t s g used_parts old ledger h;
  grant = λ t s g asked reports ledger has some h. many old _ _ (more old ledger _ h);
  event = λ t s g units n reports ledger new covered h. many old ledger (_ ∷ _ ∷ _) h;
}

same : (ledger : Ledger) → Extends ledger ledger
same ledger = record { front = []; is = refl }

-- one fact more
pub one_more : (d : Dated) (ledger : Ledger) → Extends ledger (d ∷ ledger)
one_more d ledger = more ledger ledger d (same ledger)

-- one credit more
pub one_credit : (t : ℕ) (kind : BucketKind) (from until : ℕ) (scope : Option ℕ) (amount : ℕ)
    (ledger : Ledger) → Extends ledger (credited t kind from until scope amount ledger)
one_credit t kind from until scope amount ledger = one_more _ ledger

-- by a request
-- rule: ledger.extends
pub grown : (b : Shelf) (t : ℕ) (r : Request) (ledger : Ledger) →
    Extends ledger (decision b t r ledger).after
grown b t r ledger = kept_decided b (λ reports after. Extends ledger after)
    (keeps_extends b ledger) t r.session r.number r.ask [] ledger (same ledger)
