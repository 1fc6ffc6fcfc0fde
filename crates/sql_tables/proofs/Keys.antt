-- When two keys of texts and numbers are one.
use Rattle.std.proofs.Common.{◌≡◌, ℕ, ℤ, pos, negsuc, List, [], ◌∷◌, Bool, true, ◌&&◌}
use Rattle.std.proofs.Common.{is_eq, refl, sym, ap, ap₂, ◌∙◌, nat_eq}
use Rattle.std.specs.Cmp.{unsigned_Decides}
use Rattle.std.specs.Cmp.Lexicographic.{bytes_decides}
use Rattle.std.specs.FinMap.{nat_cmp-IsAntisymmetric, int_cmp-IsAntisymmetric}
use Rattle.std.specs.FinMap.{slice_cmp-IsAntisymmetric}
use Rattle.std.specs.Ordering.{eq_by_cmp}
use Rattle.std.proofs.lemmas.Cmp.{tied_itself, tied_back}
use Rattle.sqlite_value.specs.declared.value.Value.{Value}
use Rattle.sqlite_value.specs.declared.value.Value.TheVariants.{Int, Text}
use Rattle.sqlite_value.specs.Order.{Row, row_cmp, value_cmp}
use Rattle.sqlite_value.proofs.OrderLemmas.{value_cmp_total, row_cmp_total, value_cmp-Int}
use Rattle.sqlite_value.proofs.OrderLemmas.{value_cmp-Text}
use Rattle.sql_tables.specs.Keyed.{same_name}
use Rattle.sql_tables.proofs.Steps.{same_test, and_true}
use Rattle.sql_tables.proofs.Ties.{equal_is, tie_parts}

pub int_tie : (m n : ℕ) → is_eq (value_cmp (Int (pos n)) (Int (pos m))) ≡ nat_eq m n
int_tie m n = same_test _ _
    (λ e. (unsigned_Decides m n).1
    (sym (pos_same (int_cmp-IsAntisymmetric (pos n) (pos m)
    (sym (value_cmp-Int (pos n) (pos m)) ∙ equal_is _ e)))))
    (λ e. ap (λ k. is_eq (value_cmp (Int (pos n)) (Int (pos k)))) ((unsigned_Decides m n).0 e)
    ∙ ap is_eq (tied_itself value_cmp_total (Int (pos n))))
  where
    magnitude : ℤ → ℕ
    magnitude (pos k) = k
    magnitude (negsuc k) = 0

    pos_same : pos n ≡ pos m → n ≡ m
    pos_same e = ap magnitude e

pub text_tie : (a b : List ℕ) → is_eq (value_cmp (Text b) (Text a)) ≡ same_name a b
text_tie a b = same_test _ _
    (λ e. (bytes_decides a b).1
    (sym (slice_cmp-IsAntisymmetric nat_cmp-IsAntisymmetric b a
    (sym (value_cmp-Text b a) ∙ equal_is _ e))))
    (λ e. ap (λ k. is_eq (value_cmp (Text b) (Text k))) ((bytes_decides a b).0 e)
    ∙ ap is_eq (tied_itself value_cmp_total (Text b)))

-- ---- keys, value by value

pub keys_split : (v w : Value) (vs ws : Row) → eq_by_cmp row_cmp (v ∷ vs) (w ∷ ws) ≡
    (is_eq (value_cmp v w) && eq_by_cmp row_cmp vs ws)
keys_split v w vs ws = sym (tie_parts (value_cmp v w) (row_cmp vs ws))

pub text_front : (a x : List ℕ) (vs ws : Row) (rest : Bool) → eq_by_cmp row_cmp vs ws ≡ rest
    → eq_by_cmp row_cmp (Text x ∷ vs) (Text a ∷ ws) ≡ (same_name a x && rest)
text_front a x vs ws rest e = keys_split (Text x) (Text a) vs ws ∙ ap₂ ◌&&◌ (text_tie a x) e

pub number_front : (m n : ℕ) (vs ws : Row) (rest : Bool) → eq_by_cmp row_cmp vs ws ≡ rest
    → eq_by_cmp row_cmp (Int (pos n) ∷ vs) (Int (pos m) ∷ ws) ≡ (nat_eq m n && rest)
number_front m n vs ws rest e = keys_split (Int (pos n)) (Int (pos m)) vs ws
    ∙ ap₂ ◌&&◌ (int_tie m n) e

pub text_last : (a x : List ℕ) → eq_by_cmp row_cmp (Text x ∷ []) (Text a ∷ []) ≡ same_name a x
text_last a x = text_front a x [] [] true refl ∙ and_true _

pub number_last : (m n : ℕ) → eq_by_cmp row_cmp (Int (pos n) ∷ []) (Int (pos m) ∷ []) ≡ nat_eq m n
number_last m n = number_front m n [] [] true refl ∙ and_true _

pub keys_back : (v w : Row) → eq_by_cmp row_cmp v w ≡ true → eq_by_cmp row_cmp w v ≡ true
keys_back v w e = ap is_eq (tied_back row_cmp_total v w (equal_is _ e))

-- ---- the keys of the tables

pub text_number : (a x : List ℕ) (m n : ℕ)
    → eq_by_cmp row_cmp (Text x ∷ Int (pos n) ∷ []) (Text a ∷ Int (pos m) ∷ [])
    ≡ (same_name a x && nat_eq m n)
text_number a x m n =
    text_front a x (Int (pos n) ∷ []) (Int (pos m) ∷ []) (nat_eq m n) (number_last m n)

pub text_text : (a x s t : List ℕ) →
    eq_by_cmp row_cmp (Text x ∷ Text t ∷ []) (Text a ∷ Text s ∷ []) ≡
    (same_name a x && same_name s t)
text_text a x s t = text_front a x (Text t ∷ []) (Text s ∷ []) (same_name s t) (text_last s t)

pub number_number : (m n g h : ℕ)
    → eq_by_cmp row_cmp (Int (pos n) ∷ Int (pos h) ∷ []) (Int (pos m) ∷ Int (pos g) ∷ [])
    ≡ (nat_eq m n && nat_eq g h)
number_number m n g h =
    number_front m n (Int (pos h) ∷ []) (Int (pos g) ∷ []) (nat_eq g h) (number_last g h)

pub text_number_number : (a x : List ℕ) (m n g h : ℕ)
    → eq_by_cmp row_cmp (Text x ∷ Int (pos n) ∷ Int (pos h) ∷ [])
    (Text a ∷ Int (pos m) ∷ Int (pos g) ∷ [])
    ≡ (same_name a x && (nat_eq m n && nat_eq g h))
text_number_number a x m n g h =
    text_front a x (Int (pos n) ∷ Int (pos h) ∷ []) (Int (pos m) ∷ Int (pos g) ∷ [])
    (nat_eq m n && nat_eq g h) (number_number m n g h)

pub text_text_number : (a x s t : List ℕ) (m n : ℕ)
    → eq_by_cmp row_cmp (Text x ∷ Text t ∷ Int (pos n) ∷ []) (Text a ∷ Text s ∷ Int (pos m) ∷ [])
    ≡ (same_name a x && (same_name s t && nat_eq m n))
text_text_number a x s t m n =
    text_front a x (Text t ∷ Int (pos n) ∷ []) (Text s ∷ Int (pos m) ∷ [])
    (same_name s t && nat_eq m n) (text_number s t m n)

pub text_text_number_number : (a x s t : List ℕ) (m n g h : ℕ)
    → eq_by_cmp row_cmp (Text x ∷ Text t ∷ Int (pos n) ∷ Int (pos h) ∷ [])
    (Text a ∷ Text s ∷ Int (pos m) ∷ Int (pos g) ∷ [])
    ≡ (same_name a x && (same_name s t && (nat_eq m n && nat_eq g h)))
text_text_number_number a x s t m n g h =
    text_front a x (Text t ∷ Int (pos n) ∷ Int (pos h) ∷ [])
    (Text s ∷ Int (pos m) ∷ Int (pos g) ∷ [])
    (same_name s t && (nat_eq m n && nat_eq g h)) (text_number_number s t m n g h)

pub text_number_text_number : (a x : List ℕ) (m n : ℕ) (s t : List ℕ) (g h : ℕ)
    → eq_by_cmp row_cmp (Text x ∷ Int (pos n) ∷ Text t ∷ Int (pos h) ∷ [])
    (Text a ∷ Int (pos m) ∷ Text s ∷ Int (pos g) ∷ [])
    ≡ (same_name a x && (nat_eq m n && (same_name s t && nat_eq g h)))
text_number_text_number a x m n s t g h =
    text_front a x (Int (pos n) ∷ Text t ∷ Int (pos h) ∷ [])
    (Int (pos m) ∷ Text s ∷ Int (pos g) ∷ []) (nat_eq m n && (same_name s t && nat_eq g h))
    (number_front m n (Text t ∷ Int (pos h) ∷ []) (Text s ∷ Int (pos g) ∷ [])
    (same_name s t && nat_eq g h) (text_number s t g h))
