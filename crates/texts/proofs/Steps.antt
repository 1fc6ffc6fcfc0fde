-- What steps that succeed tell of their parts.
use Rattle.std.proofs.Common.{◌≡◌, ◌+◌, List, [], ◌∷◌, ◌++◌, length, Bool, true, false, Result}
use Rattle.std.proofs.Common.{Ok, Err, refl, ap, subst, arith, length-append}
use Rattle.texts.specs.Steps.{◌>>=◌, where_holds, each, collected}

abbrev pub inside : {F A : Type 0} → A → Result A F → A
inside x (Ok y) = y
inside x (Err e) = x

abbrev pub gives : {F A : Type 0} → A → Result A F
gives x = Ok x

pub same_value : {F A : Type 0} (x y : A) → gives {F = F} {A = A} x ≡ Ok y → x ≡ y
same_value x y e = ap (inside x) e

-- a chain that succeeds has steps that do
-- rule: first-fault
pub bind_ok : {F A B : Type 0} (r : Result A F) (f : A → Result B F) (y : B) → (r >>= f) ≡ Ok y →
    (x : A) × (r ≡ Ok x) × (f x ≡ Ok y)
bind_ok (Ok x) f y h = (x, refl, h)
bind_ok (Err e) f y h = absurd (cc)

-- rule: first-fault
pub where_ok : {F A : Type 0} (b : Bool) (e : F) (x y : A) → where_holds b e x ≡ Ok y →
    (b ≡ true) × (x ≡ y)
where_ok true e x y h = (refl, same_value x y h)
where_ok false e x y h = absurd (cc)

module _ {F A D : Type 0} (read : List A → D → Result A F) where
  -- the list that the entries make, behind this one
  abbrev made : List A → List D → Result (List A) F
  made done ds = collected read done ds

  module _ (P : List A → Type 0) (step : (done : List A) (d : D) (x : A) → P done →
      read done d ≡ Ok x → P (done ++ x ∷ [])) where
    kept_by : (done : List A) (d : D) (ds : List D) (xs : List A) (r : Result A F)
        → ((next xs' : List A) → P next → made next ds ≡ Ok xs' → P xs') → P done → read done d ≡ r
        → ((r >>= λ x. Ok (done ++ x ∷ [])) >>= λ more. made more ds) ≡ Ok xs → P xs
    kept_by done d ds xs (Ok x) rest h is e = rest (done ++ x ∷ []) xs (step done d x h is) e
    kept_by done d ds xs (Err f) rest h is e = absurd (cc)

    -- what each step keeps, all of them keep
    pub kept : (ds : List D) (done xs : List A) → P done → made done ds ≡ Ok xs → P xs
    unfolding each
    kept [] done xs h e = subst P (same_value done xs e) h
    kept (d ∷ ds) done xs h e = kept_by done d ds xs (read done d) (kept ds) h refl e

  counted_by : (done : List A) (ds : List D) (xs : List A) (r : Result A F)
      → ((next xs' : List A) → made next ds ≡ Ok xs' → length xs' ≡ length next + length ds)
      → ((r >>= λ x. Ok (done ++ x ∷ [])) >>= λ more. made more ds) ≡ Ok xs
      → length xs ≡ length done + (length ds + 1)
  counted_by done ds xs (Ok x) rest e =
      omega (arith, rest (done ++ x ∷ []) xs e, length-append done (x ∷ []))
  counted_by done ds xs (Err f) rest e = absurd (cc)

  -- as many are read as there are
  pub counted : (ds : List D) (done xs : List A) → made done ds ≡ Ok xs →
      length xs ≡ length done + length ds
  unfolding each
  counted [] done xs e = omega (arith, ap length (same_value done xs e))
  counted (d ∷ ds) done xs e = omega (arith, counted_by done ds xs (read done d) (counted ds) e)
