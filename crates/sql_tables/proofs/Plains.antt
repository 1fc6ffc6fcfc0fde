-- Lists in which there is no number with a fraction.
use Rattle.std.proofs.Common.{◌≡◌, refl, ap, sym, ◌∙◌, ℕ, zero, suc, ◌+◌, ◌<◌, Bool, true}
use Rattle.std.proofs.Common.{IsTrue, ◌&&◌, List, [], ◌∷◌, map, take, length, slice_index_or, ◌≤◌}
use Rattle.std.proofs.Common.{subst, arith}
use Rattle.std.specs.List.{list_all}
use Rattle.std.proofs.lemmas.Bool.{and_parts}
use Rattle.sqlite_schema.specs.declared.schema.Schema.{Schema}
use Rattle.sqlite_sql.specs.Term.{Term}
use Rattle.sql_tables.specs.Plain.{is_plain, is_plain_term}
use Rattle.sql_tables.specs.Schema.{schema_at}
use Rattle.sql_tables.specs.Opens.{IsVersion}

-- of lists in which nothing of the kind can be
pub all_plain : {X : Type 0} (xs : List X) → IsTrue (list_all (λ _. true) xs)
all_plain [] = refl
all_plain (x ∷ xs) = all_plain xs

pub all_lists_plain : {X : Type 0} (xs : List (List X)) →
    IsTrue (list_all (list_all (λ _. true)) xs)
all_lists_plain [] = refl
all_lists_plain (x ∷ xs) = ap (λ b. b && list_all (list_all (λ _. true)) xs) (all_plain x)
    ∙ all_lists_plain xs

pub same_at : {X : Type 0} (f g : ℕ → X) (xs ys : List ℕ) (at : ℕ) → at < length xs
    → map f xs ≡ map g ys → f (slice_index_or xs at 0) ≡ g (slice_index_or ys at 0)
same_at f g [] ys at h e = absurd (omega (arith, h))
same_at f g (x ∷ xs) [] at h e = absurd (cc e)
same_at f g (x ∷ xs) (y ∷ ys) zero h e = cc e
same_at f g (x ∷ xs) (y ∷ ys) (suc n) h e = same_at f g xs ys n (omega (arith, h)) (cc e)

pub plain_at : {X : Type 0} (p : X → Bool) (f : ℕ → X) (xs : List ℕ) (at : ℕ) → at < length xs
    → IsTrue (list_all p (map f xs)) → IsTrue (p (f (slice_index_or xs at 0)))
plain_at p f [] at h all = absurd (omega (arith, h))
plain_at p f (x ∷ xs) zero h all = (and_parts (p (f x)) _ all).0
plain_at p f (x ∷ xs) (suc n) h all =
    plain_at p f xs n (omega (arith, h)) (and_parts (p (f x)) _ all).1

-- one more of two lists is the same
grown_by_one : {X : Type 0} (f g : ℕ → X) (xs ys : List ℕ) (at : ℕ) → at < length xs
    → at < length ys → take at (map f xs) ≡ take at (map g ys)
    → f (slice_index_or xs at 0) ≡ g (slice_index_or ys at 0)
    → take (suc at) (map f xs) ≡ take (suc at) (map g ys)
grown_by_one f g [] ys at h k e same = absurd (omega (arith, h))
grown_by_one f g (x ∷ xs) [] at h k e same = absurd (omega (arith, k))
grown_by_one f g (x ∷ xs) (y ∷ ys) zero h k e same = ap (λ z. z ∷ []) same
grown_by_one f g (x ∷ xs) (y ∷ ys) (suc n) h k e same =
    let rest : take n (map f xs) ≡ take n (map g ys) = cc e in
    let here : f x ≡ g y = cc e in
    let more = grown_by_one f g xs ys n (omega (arith, h)) (omega (arith, k)) rest same in
    ap (λ z. z ∷ take (suc n) (map f xs)) here ∙ ap (λ l. g y ∷ l) more

pub grown : {X : Type 0} (f g : ℕ → X) (xs ys : List ℕ) (at : ℕ) → at < length xs → at < length ys
    → take at (map f xs) ≡ take at (map g ys)
    → f (slice_index_or xs at 0) ≡ g (slice_index_or ys at 0)
    → take (at + 1) (map f xs) ≡ take (at + 1) (map g ys)
grown f g xs ys at h k e same =
    let next : suc at ≡ at + 1 = omega arith in
    subst (λ n. take n (map f xs) ≡ take n (map g ys)) next (grown_by_one f g xs ys at h k e same)

pub all_same : {X : Type 0} (f g : ℕ → X) (xs ys : List ℕ) (at : ℕ) → length xs ≡ length ys
    → length xs ≤ at → take at (map f xs) ≡ take at (map g ys) → map f xs ≡ map g ys
all_same f g [] [] at long h e = refl
all_same f g [] (y ∷ ys) at long h e = absurd (omega (arith, long))
all_same f g (x ∷ xs) [] at long h e = absurd (omega (arith, long))
all_same f g (x ∷ xs) (y ∷ ys) zero long h e = absurd (omega (arith, h))
all_same f g (x ∷ xs) (y ∷ ys) (suc n) long h e =
    let rest : take n (map f xs) ≡ take n (map g ys) = cc e in
    let here : f x ≡ g y = cc e in
    let more = all_same f g xs ys n (omega (arith, long)) (omega (arith, h)) rest in
    ap (λ z. z ∷ map f xs) here ∙ ap (λ l. g y ∷ l) more

-- what a test of some terms answers, of the lists that they are
pub told_of : (first second one two : List Term) (same : Bool) → first ≡ one → second ≡ two
    → (IsTrue (list_all is_plain_term one) → one ≡ two → IsTrue same)
    → IsTrue (list_all is_plain_term first) → first ≡ second → IsTrue same
told_of first second one two same e k told plain is =
    told (subst (λ t. IsTrue (list_all is_plain_term t)) e plain) (sym e ∙ is ∙ k)

-- ---- our schemas

pub version_plain : (v : ℕ) → IsVersion v → IsTrue (is_plain (schema_at v))
version_plain zero known = absurd (omega (arith, known.0))
version_plain (suc zero) known = refl
version_plain (suc (suc zero)) known = refl
version_plain (suc (suc (suc zero))) known = refl
version_plain (suc (suc (suc (suc n)))) known =
    let high : suc (suc (suc (suc n))) ≤ 3 = known.1 in absurd (omega (arith, high))

-- what a test of a schema answers, of the one that it is
pub same_as : (first second : Schema) (v : ℕ) (same : Bool) → IsVersion v → first ≡ schema_at v
    → (IsTrue same → first ≡ second) → (IsTrue (is_plain first) → first ≡ second → IsTrue same)
    → (IsTrue same → second ≡ schema_at v) × (second ≡ schema_at v → IsTrue same)
same_as first second v same known is equal all = (
  (λ yes'. sym (equal yes') ∙ is),
  (λ ours. all (subst (λ s. IsTrue (is_plain s)) (sym is) (version_plain v known)) (is ∙ sym ours)),
)
