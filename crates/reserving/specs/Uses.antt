-- The use that a report tells: as it is counted before anything of a request is settled, and as it
-- is rated then.
-- Source: profile.
use Rattle.std.specs.Prelude.{◌≡◌, ◌≢◌, ◌≤◌, ◌+◌, ◌==◌, ℕ, false, List, [], Option, Some, None}
use Rattle.std.specs.Prelude.{Result, Err, OnErr, IfOk, is_err, unwrap_or}
use Rattle.units.specs.Words.{Moment, GroupId}
use Rattle.identifiers.specs.Words.{SessionName}
use Rattle.units.specs.declared.blocks.UsedPart.{UsedPart}
use Rattle.reserving.specs.declared.fault.AccountFault.{AccountFault}
use Rattle.reserving.specs.declared.fault.AccountFault.TheVariants.{Limit}
use Rattle.reserving.specs.declared.settle.CountedUse.{CountedUse}
use Rattle.reserving.specs.declared.settle.RatedUse.{RatedUse}
use Rattle.ledger.specs.Ledger.{Ledger}
use Rattle.ledger.specs.Pricing.{cycle_at, terms_now}
use Rattle.ledger.specs.Settlement.{reported, passes_after}
use Rattle.reserving.specs.Rows.{AccountRows}
use Rattle.reserving.specs.Placed.{AreOfShelf}
use Rattle.reserving.specs.Changes.{used_in, count_in, terms_in, price_in, passes_in}
use Rattle.reserving.specs.Left.{LeftRows, IsWith}
use Rattle.reserving.specs.Calls.{IsLive}

-- what is counted of a report's use is what the account's rows say of it
pub record IsUse (s : SessionName) (g : GroupId) (used_parts : List UsedPart) (t : Moment)
    (a : AccountRows) (u : CountedUse) : Type 0 where
  pub units : u.units.0 ≡ reported used_parts
  pub used : u.used ≡ used_in s g a.groups
  pub cycle : u.cycle ≡ cycle_at a.shelf g t
  pub place : u.place ≡ count_in g (cycle_at a.shelf g t) a.counters
  pub terms : u.terms ≡ unwrap_or (terms_in s g a.groups) (terms_now a.shelf t)
  pub of_shelf : AreOfShelf a.shelf u.terms
  pub blocks : u.blocks.0 ≡ (price_in s g t used_parts a).blocks

-- an account after so many charges more
abbrev pub charged_more : ℕ → AccountRows → AccountRows
charged_more charges a = record a { next_charge = a.next_charge + charges }

-- and behind so many charges it passes no limit of a stored number
-- rule: stored-limits
pub record IsCountedUse (s : SessionName) (g : GroupId) (used_parts : List UsedPart) (charges : ℕ)
    (t : Moment) (a : AccountRows) (u : CountedUse) : Type 0 where
  pub some : used_parts ≢ []
  pub counted : IsUse s g used_parts t a u
  pub within : passes_in s g t used_parts (charged_more charges a) ≡ false

-- a report without parts has no use
abbrev pub IsUseOf : SessionName → GroupId → List UsedPart → ℕ → Moment → AccountRows →
    Option CountedUse → Type 0
IsUseOf s g used_parts charges t a None = used_parts ≡ []
IsUseOf s g used_parts charges t a (Some u) = IsCountedUse s g used_parts charges t a u

-- a report's use is counted where it would pass no limit, by the rows and of each ledger
-- rule: stored-limits
pub record CountsUse (s : SessionName) (g : GroupId) (used_parts : List UsedPart) (charges : ℕ)
    (t : Moment) (a : AccountRows) (result : Result (Option CountedUse) AccountFault) : Type 0 where
  pub counted : IfOk result (IsUseOf s g used_parts charges t a)
  pub limit : OnErr result (result ≡ Err Limit)
  pub rows : is_err result ≡ passes_in s g t used_parts (charged_more charges a)
  pub left : (ledger : Ledger) (left : LeftRows) → IsWith ledger left t a → a.as_of ≤ t →
      IsLive a t s → is_err result ≡ passes_after charges a.shelf t s g used_parts ledger

-- a use is what the report costs by the rows
pub record IsRated (s : SessionName) (g : GroupId) (used_parts : List UsedPart) (t : Moment)
    (a : AccountRows) (r : RatedUse) : Type 0 where
  pub units : r.units.0 ≡ reported used_parts
  pub blocks : r.blocks.0 ≡ (price_in s g t used_parts a).blocks
  pub covered : r.covered.0 ≡ (price_in s g t used_parts a).covered.0
  pub amount : r.amount.0 ≡ (price_in s g t used_parts a).amount.0

-- the settlement of another group of the session leaves what was counted, with its own charges
-- behind it
-- rule: stored-limits
abbrev pub LeavesUses : SessionName → GroupId → ℕ → Moment → AccountRows → AccountRows → Type 0
LeavesUses s group charges t before after =
    (g : GroupId) (used_parts : List UsedPart) (more : ℕ) (u : Option CountedUse) →
    (group == g) ≡ false → IsUseOf s g used_parts (charges + more) t before u →
    IsUseOf s g used_parts more t after u
