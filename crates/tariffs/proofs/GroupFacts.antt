-- Groups of a book: none stands twice.
use Rattle.std.proofs.Common.{◌≡◌, ◌≢◌, ℕ, zero, suc, ◌<◌, ◌==◌, false, List, []}
use Rattle.std.proofs.Common.{◌∷◌, ◌++◌, length, get_or, arith, inl, inr, sym}
use Rattle.std.specs.List.{list_any}
use Rattle.std.proofs.lemmas.Bool.{cases_lt, or_parts}
use Rattle.std.proofs.lemmas.Bool.Decides.{nat_tests}
use Rattle.std.proofs.lemmas.List.{get_or_append_left, get_or_push, length_push}
use Rattle.tariffs.specs.Tariffs.{GroupTariff, AreOfOtherGroups}

-- a group that is found nowhere is another than each
other_than : (ts : List GroupTariff) (g i : ℕ) (d : GroupTariff) →
    list_any (λ other. other.group == g) ts ≡ false → i < length ts → (get_or ts i d).group ≢ g
other_than [] g i d none within = absurd (omega arith)
other_than (t ∷ ts) g zero d none within =
    let here = (or_parts (t.group == g) (list_any (λ other. other.group == g) ts) none).0 in
    grind (arith, nat_tests)
other_than (t ∷ ts) g (suc i) d none within =
    other_than ts g i d (or_parts (t.group == g) (list_any (λ other. other.group == g) ts) none).1
    (omega arith)

pub other_groups_push : (ts : List GroupTariff) (t : GroupTariff) → AreOfOtherGroups ts →
    list_any (λ other. other.group == t.group) ts ≡ false → AreOfOtherGroups (ts ++ t ∷ [])
other_groups_push ts t distinct new = λ i j d order within.
    let early : i < length ts = omega (arith, order, within, length_push ts t) in
    rw (get_or_append_left ts (t ∷ []) d i early)
    (elim (cases_lt j (length ts)) [
      | inl before ↦ rw (get_or_append_left ts (t ∷ []) d j before) (distinct i j d order before)
      | inr last ↦ (let is : j ≡ length ts = omega (arith, within, length_push ts t) in
          rw (get_or_push ts t d j (sym is)) (other_than ts t.group i d new early))
    ])
