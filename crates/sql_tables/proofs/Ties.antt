-- SQL's equality and the order of values.
use Rattle.std.proofs.Common.{◌≡◌, ℕ, List, [], ◌∷◌, true, false, ◌&&◌}
use Rattle.std.proofs.Common.{Ordering, Less, Equal, Greater, is_eq, IsTrue, refl, sym}
use Rattle.std.proofs.Common.{ap, ap₂, ◌∙◌}
use Rattle.std.proofs.lemmas.Cmp.{tied_itself}
use Rattle.std.specs.FinMap.{int_cmp-IsAntisymmetric}
use Rattle.std.specs.List.{AllByRecursion}
use Rattle.std.specs.Ordering.{eq_by_cmp}
pub use Rattle.std.specs.Cmp.{tied_then as tie_parts}
use Rattle.sqlite_value.specs.declared.value.Value.{Value}
use Rattle.sqlite_value.specs.declared.value.Value.TheVariants.{Null, Int, Real, Text, Blob}
use Rattle.sqlite_value.specs.declared.keys.Collation.TheVariants.{Binary}
use Rattle.sqlite_value.specs.Keys.{plain, first_key}
use Rattle.sqlite_value.specs.Order.{Row, column, row_cmp, value_cmp}
use Rattle.sqlite_value.proofs.OrderLemmas.{value_cmp_total, value_cmp-Null, value_cmp-Int}
use Rattle.sqlite_trees.specs.View.{is_int}
use Rattle.sqlite_sql.specs.Ops.{binary, is_null}
use Rattle.sqlite_schema.specs.Rules.{equal, agree}
use Rattle.sql_tables.specs.Keyed.{key_of}
use Rattle.sql_tables.proofs.Steps.{truth_told}

pub equal_is : (o : Ordering) → is_eq o ≡ true → o ≡ Equal
equal_is Less h = absurd (cc)
equal_is Equal h = refl
equal_is Greater h = absurd (cc)

pub equal_present : (a b : Value) → is_null b ≡ false → equal Binary a b ≡ is_eq (value_cmp a b)
unfolding binary
equal_present Null Null h = absurd (cc)
equal_present Null (Int n) h = sym (ap is_eq (value_cmp-Null (Int n)))
equal_present Null (Real x) h = sym (ap is_eq (value_cmp-Null (Real x)))
equal_present Null (Text t) h = sym (ap is_eq (value_cmp-Null (Text t)))
equal_present Null (Blob t) h = sym (ap is_eq (value_cmp-Null (Blob t)))
equal_present (Int n) b h = rw h (truth_told _)
equal_present (Real x) b h = rw h (truth_told _)
equal_present (Text t) b h = rw h (truth_told _)
equal_present (Blob t) b h = rw h (truth_told _)

pub same_ints : (a b : Value) → IsTrue (is_int a) → IsTrue (is_int b) →
    equal Binary a b ≡ true → a ≡ b
same_ints (Int m) (Int n) p q e = ap Int (int_cmp-IsAntisymmetric m n
    (sym (value_cmp-Int m n) ∙ equal_is _ (sym (equal_present (Int m) (Int n) refl) ∙ e)))
same_ints Null b p q e = absurd (cc)
same_ints (Real x) b p q e = absurd (cc)
same_ints (Text x) b p q e = absurd (cc)
same_ints (Blob x) b p q e = absurd (cc)
same_ints (Int m) Null p q e = absurd (cc)
same_ints (Int m) (Real x) p q e = absurd (cc)
same_ints (Int m) (Text x) p q e = absurd (cc)
same_ints (Int m) (Blob x) p q e = absurd (cc)

pub equals_itself : (a : Value) → IsTrue (is_int a) → equal Binary a a ≡ true
equals_itself (Int n) p = equal_present (Int n) (Int n) refl
    ∙ ap is_eq (tied_itself value_cmp_total (Int n))
equals_itself Null p = absurd (cc)
equals_itself (Real x) p = absurd (cc)
equals_itself (Text x) p = absurd (cc)
equals_itself (Blob x) p = absurd (cc)

-- SQL's equality of keys is that of the order, where the key has no NULL
pub agree_ties : (places : List ℕ) (row new : Row)
    → AllByRecursion (λ p. is_null (column new p) ≡ false) places
    → agree plain places row places new ≡ eq_by_cmp row_cmp (key_of places row) (key_of places new)
unfolding first_key
agree_ties [] row new all = refl
agree_ties (p ∷ places) row new all = ap₂ ◌&&◌ (equal_present (column row p) (column new p) all.0)
    (agree_ties places row new all.1) ∙ tie_parts (value_cmp (column row p) (column new p))
    (row_cmp (key_of places row) (key_of places new))

-- the same of two rows at places of their own
pub agree_ties_at : (places : List ℕ) (row : Row) (others : List ℕ) (new : Row) → AllByRecursion
    (λ p. is_null (column new p) ≡ false) others
    → agree plain places row others new ≡ eq_by_cmp row_cmp (key_of places row) (key_of others new)
unfolding first_key
agree_ties_at [] row [] new all = refl
agree_ties_at [] row (q ∷ qs) new all = refl
agree_ties_at (p ∷ ps) row [] new all = refl
agree_ties_at (p ∷ ps) row (q ∷ qs) new all =
    ap₂ ◌&&◌ (equal_present (column row p) (column new q) all.0)
    (agree_ties_at ps row qs new all.1) ∙ tie_parts (value_cmp (column row p) (column new q))
    (row_cmp (key_of ps row) (key_of qs new))
