-- Calls on a session, one after another, leave the others' rows.
use Rattle.std.proofs.Common.{◌≡◌, ℕ, Bool, true, false, List, Option, Some, None, Result, Ok, Err}
use Rattle.std.proofs.Common.{refl, ap, sym, subst}
use Rattle.std.specs.Prelude.{OnOk, IfSome, if◌then◌else◌, Vec}
use Rattle.std.specs.Global.{Global}
use Rattle.commands.specs.declared.service.Service.{Service}
use Rattle.commands.specs.declared.answer.Failure.{Failure}
use Rattle.ledger.specs.declared.charge.ChargeRow.{ChargeRow}
use Rattle.decisions.specs.declared.deciding.Settling.{Settling}
use Rattle.decisions.specs.declared.deciding.Settling.TheVariants.{Settled, Refused}
use Rattle.decisions.specs.Follows.{HasRefused, HasSettled, SettlesOrRefuses}
use Rattle.reserving.specs.Calm.{IsCalm}
use Rattle.reserving.specs.Rows.{AccountRows}
use Rattle.reserving.specs.Others.{other_rows, OthersStay}
use Rattle.reserving.proofs.rows.Others.{stays_chain, still}

-- a call, and then one that may fail
pub stay_then : {A E : Type 0} (r : Result A E) (s : List ℕ) (t : ℕ) (x y z : AccountRows) →
    OthersStay s t x y → OnOk r (OthersStay s t y z) → OnOk r (OthersStay s t x z)
stay_then (Ok v) s t x y z first next = stays_chain s t x y z first next
stay_then (Err e) s t x y z first next = tt

-- the same names and moment otherwise written
pub stay_asked : {A E : Type 0} (r : Result A E) (s : List ℕ) {s' : List ℕ} (t : ℕ) {t' : ℕ}
    (x y : AccountRows) → s ≡ s' → t ≡ t' → OnOk r (OthersStay s t x y) →
    OnOk r (OthersStay s' t' x y)
stay_asked r s {s'} t {t'} x y e f h =
    subst (λ p. OnOk r (OthersStay p t' x y)) e (subst (λ u. OnOk r (OthersStay s u x y)) f h)

-- the session that is named, where nothing ends at the moment
pub stay_alone : (own : Option (List ℕ)) (s : List ℕ) (t : ℕ) (x y : AccountRows) (alone : Bool) →
    own ≡ (if alone then Some s else None) →
    (alone ≡ true → IsCalm (record x { as_of = t })) → OthersStay s t x y →
    IfSome own (λ name. (name ≡ s) × (other_rows name y ≡ other_rows name x))
stay_alone own s t x y alone told quiet stay =
    subst (λ o. IfSome o (λ name. (name ≡ s) × (other_rows name y ≡ other_rows name x))) (sym told)
    (at alone quiet)
  where
    at : (q : Bool) → (q ≡ true → IsCalm (record x { as_of = t })) →
        IfSome (if q then Some s else None)
        (λ name. (name ≡ s) × (other_rows name y ≡ other_rows name x))
    at true calm = (refl, stay (still s t x (calm refl)))
    at false calm = tt

-- a call that changes nothing
pub stay_same : (s : List ℕ) (t : ℕ) (x y : AccountRows) → y ≡ x → OthersStay s t x y
stay_same s t x y e = λ h. ap (other_rows s) e

-- ---- the settlement of a request's services, which settles or refuses

module _ (s : List ℕ) (t n : ℕ) (xs : List Service) (x y : AccountRows) (it : Settling)
    (says : SettlesOrRefuses x y t s n xs it) where
  -- what is settled
  pub settled_by : (charges : Vec ChargeRow Global) → it ≡ Settled charges →
      HasSettled charges.items x y t s n xs
  settled_by charges is = subst (SettlesOrRefuses x y t s n xs) is says

  -- it is refused
  pub stay_refused : (failure : Failure) → it ≡ Refused failure → OthersStay s t x y
  stay_refused failure is =
      let refused : HasRefused failure x y t s n xs =
      subst (SettlesOrRefuses x y t s n xs) is says in
      stay_same s t x y refused.same

  -- it is settled, and a call comes after it
  pub stay_settled : (z : AccountRows) (charges : Vec ChargeRow Global) → it ≡ Settled charges →
      OthersStay s t y z → OthersStay s t x z
  stay_settled z charges is next = stays_chain s t x y z (settled_by charges is).stay next
