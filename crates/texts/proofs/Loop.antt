-- Reading the entries of a list one after the other, as a loop does. An entry is known by what is
-- seen of it.
use Rattle.std.proofs.Common.{◌≡◌, ℕ, ◌+◌, ◌≤◌, ◌<◌, List, [], ◌∷◌, ◌++◌, length, get_or, drop, map}
use Rattle.std.proofs.Common.{add-one, Result, Ok, Err, refl, sym, ap, ◌∙◌}
use Rattle.std.proofs.Math.Seq.{drop-cons}
use Rattle.std.proofs.lemmas.List.{drop_all}
use Rattle.texts.specs.Steps.{◌>>=◌, each, collected}

module _ {F V D : Type 0} (view : V → D) where
  module _ {A : Type 0} (step : A → D → Result A F) where
    one_more : (a : A) (vs : List V) (i : ℕ) (v : V) → i < length vs → v ≡ get_or vs i v
        → each step a (map view (drop i vs))
        ≡ (step a (view v) >>= λ b. each step b (map view (drop (i + 1) vs)))
    unfolding each
    one_more a vs i v lt is =
        let e = drop-cons vs i v lt in
        rw (e, ← is, add-one) refl

    -- an entry that is read
    pub each_goes_on : (a b : A) (vs : List V) (i : ℕ) (v : V) (total : Result A F) → i < length vs
        → v ≡ get_or vs i v → step a (view v) ≡ Ok b → each step a (map view (drop i vs)) ≡ total
        → each step b (map view (drop (i + 1) vs)) ≡ total
    each_goes_on a b vs i v total lt is read so_far =
        sym (one_more a vs i v lt is
        ∙ ap (λ r. r >>= λ (c : A). each step c (map view (drop (i + 1) vs))) read) ∙ so_far

    -- an entry with a fault
    pub each_ends : (fault : F) (a : A) (vs : List V) (i : ℕ) (v : V) (total : Result A F)
        → i < length vs → v ≡ get_or vs i v → step a (view v) ≡ Err fault
        → each step a (map view (drop i vs)) ≡ total → total ≡ Err fault
    each_ends fault a vs i v total lt is read so_far =
        sym so_far
        ∙ one_more a vs i v lt is
        ∙ ap (λ r. r >>= λ (c : A). each step c (map view (drop (i + 1) vs))) read

    -- no entry is left
    pub each_done : (a : A) (vs : List V) (i : ℕ) (total : Result A F) → length vs ≤ i →
        each step a (map view (drop i vs)) ≡ total → total ≡ Ok a
    unfolding each
    each_done a vs i total le so_far = sym so_far ∙ rw (drop_all i vs le) refl

  -- the same for a list of what the entries say
  module _ {A : Type 0} (read : List A → D → Result A F) where
    pub collected_goes_on : (xs : List A) (x : A) (vs : List V) (i : ℕ) (v : V)
        (total : Result (List A) F) → i < length vs → v ≡ get_or vs i v → read xs (view v) ≡ Ok x
        → collected read xs (map view (drop i vs)) ≡ total
        → collected read (xs ++ x ∷ []) (map view (drop (i + 1) vs)) ≡ total
    collected_goes_on xs x vs i v total lt is here so_far =
        each_goes_on (λ xs d. read xs d >>= λ x. Ok (xs ++ x ∷ [])) xs
        (xs ++ x ∷ []) vs i v total lt is (rw here refl) so_far

    pub collected_ends : (fault : F) (xs : List A) (vs : List V)
        (i : ℕ) (v : V) (total : Result (List A) F) → i < length vs → v ≡ get_or vs i v
        → read xs (view v) ≡ Err fault
        → collected read xs (map view (drop i vs)) ≡ total → total ≡ Err fault
    collected_ends fault xs vs i v total lt is here so_far =
        each_ends (λ xs d. read xs d >>= λ x. Ok (xs ++ x ∷ [])) fault xs vs i v total lt is
        (rw here refl) so_far

    pub collected_done : (xs : List A) (vs : List V) (i : ℕ) (total : Result (List A) F) →
        length vs ≤ i → collected read xs (map view (drop i vs)) ≡ total → total ≡ Ok xs
    collected_done xs vs i total le so_far =
        each_done (λ xs d. read xs d >>= λ x. Ok (xs ++ x ∷ [])) xs vs i total le so_far
