-- The walk that takes a head part finds the shortest beginning with an empty line.
use Rattle.std.proofs.Common.{◌≡◌, ◌<◌, ◌≤◌, ◌+◌, ℕ, zero, suc, Bool, true, false, List, [], ◌∷◌}
use Rattle.std.proofs.Common.{◌++◌}
use Rattle.std.proofs.Common.{length, take, length-append, append_assoc, append-nil, refl, sym, ap}
use Rattle.std.proofs.Common.{subst, ◌∙◌, arith}
use Rattle.std.specs.Prelude.{if◌then◌else◌, nat_lt}
use Rattle.std.proofs.Math.Seq.{take-append_seam}
use Rattle.std.proofs.lemmas.List.{append_cancel_left}
use Rattle.std.proofs.lemmas.Bool.{ltb-true, ltb-false}
use Rattle.http_messages.specs.Parts.{Part, whole, cut, too_long, first_part, part_after}
use Rattle.http_messages.specs.Shortest.{ends_head}
use Rattle.http_messages.specs.Shortest.{HasNoEnd, IsShortest, IsFirstPart, AreShortest}

-- ---- the walk

-- one more byte that ends nothing
one_more : (stream taken bytes : List ℕ) (b : ℕ) → stream ≡ taken ++ b ∷ bytes →
    HasNoEnd (length taken) stream → ends_head (taken ++ b ∷ []) ≡ false →
    HasNoEnd (length (taken ++ b ∷ [])) stream
one_more stream taken bytes b e none ends n few = by (nat_lt (length taken) n) refl
  where
    longer : length (taken ++ b ∷ []) ≡ length taken + 1
    longer = length-append taken (b ∷ [])

    by : (t : Bool) → nat_lt (length taken) n ≡ t → ends_head (take n stream) ≡ false
    by false lt = none n (ltb-false (length taken) n lt)
    by true lt =
        let at : n ≡ length (taken ++ b ∷ []) =
        omega (arith, few, longer, ltb-true (length taken) n lt) in
        ap (λ k. ends_head (take k stream)) at
        ∙ ap (λ l. ends_head (take (length (taken ++ b ∷ [])) l))
        (e ∙ sym (append_assoc taken (b ∷ []) bytes))
        ∙ ap ends_head (take-append_seam (taken ++ b ∷ []) bytes)
        ∙ ends

-- the stream is longer than what was taken of it
no_shorter : (stream taken bytes : List ℕ) → stream ≡ taken ++ bytes →
    length taken + length bytes ≡ length stream
no_shorter stream taken bytes e = sym (ap length e ∙ length-append taken bytes)

-- 8,192 bytes were taken
all_taken : (stream taken bytes : List ℕ) → stream ≡ taken ++ bytes → length taken ≤ 8192 →
    HasNoEnd (length taken) stream → nat_lt (length taken) 8192 ≡ false →
    IsFirstPart stream too_long
all_taken stream taken bytes e few none full =
    let most : 8192 ≤ length taken = ltb-false (length taken) 8192 full in (
      omega (arith, most, no_shorter stream taken bytes e),
      λ n k. none n (omega (arith, k, most)),
    )

-- the walk from where it is, by its tests
-- rule: http-head.shortest
walked : (stream taken bytes : List ℕ) → stream ≡ taken ++ bytes → length taken ≤ 8192 →
    HasNoEnd (length taken) stream → IsFirstPart stream (part_after taken bytes)
walked stream taken [] e few none = by (nat_lt (length taken) 8192) refl
  where
    all : stream ≡ taken
    all = e ∙ append-nil taken

    by : (t : Bool) → nat_lt (length taken) 8192 ≡ t →
        IsFirstPart stream (if t then cut else too_long)
    by false lt = all_taken stream taken [] e few none lt
    by true lt = (
      subst (λ (l : List ℕ). length l < 8192) (sym all) (ltb-true (length taken) 8192 lt),
      subst (λ (l : List ℕ). HasNoEnd (length l) stream) (sym all) none,
    )
walked stream taken (b ∷ bytes) e few none =
    by (nat_lt (length taken) 8192) refl (ends_head (taken ++ b ∷ [])) refl
    (walked stream (taken ++ b ∷ []) bytes split)
  where
    split : stream ≡ (taken ++ b ∷ []) ++ bytes
    split = e ∙ sym (append_assoc taken (b ∷ []) bytes)

    longer : length (taken ++ b ∷ []) ≡ length taken + 1
    longer = length-append taken (b ∷ [])

    by : (t : Bool) → nat_lt (length taken) 8192 ≡ t → (r : Bool) →
        ends_head (taken ++ b ∷ []) ≡ r →
        (length (taken ++ b ∷ []) ≤ 8192 → HasNoEnd (length (taken ++ b ∷ [])) stream →
        IsFirstPart stream (part_after (taken ++ b ∷ []) bytes)) →
        IsFirstPart stream (if t then (if r then whole (taken ++ b ∷ []) bytes
        else part_after (taken ++ b ∷ []) bytes) else too_long)
    by false lt r ends on = all_taken stream taken (b ∷ bytes) e few none lt
    by true lt true ends on = record {
      split = split;
      few = omega (arith, longer, ltb-true (length taken) 8192 lt);
      ends = ends;
      shorter = λ n k. none n (omega (arith, longer, k));
    }
    by true lt false ends on =
        on (omega (arith, longer, ltb-true (length taken) 8192 lt))
        (one_more stream taken bytes b e none ends)

nothing_ends : (stream : List ℕ) → HasNoEnd 0 stream
nothing_ends stream zero few = refl
nothing_ends stream (suc n) few = absurd (omega (arith, few))

pub is_first_part : (stream : List ℕ) → IsFirstPart stream (first_part stream)
is_first_part stream = walked stream [] stream refl (omega (arith)) (nothing_ends stream)

-- ---- it is one

no_bool : {A : Type 0} (b : Bool) → b ≡ true → b ≡ false → A
no_bool b t f = absurd (let no : true ≡ false = sym t ∙ f in cc)

pub begins : (stream part rest : List ℕ) → stream ≡ part ++ rest → take (length part) stream ≡ part
begins stream part rest e = ap (take (length part)) e ∙ take-append_seam part rest

-- a beginning that ends with an empty line isn't longer than the shortest
no_longer : (stream p r : List ℕ) → IsShortest stream p r → (n : ℕ) →
    ends_head (take n stream) ≡ true → length p ≤ n
no_longer stream p r is n ends = by (nat_lt n (length p)) refl
  where
    by : (t : Bool) → nat_lt n (length p) ≡ t → length p ≤ n
    by false lt = ltb-false n (length p) lt
    by true lt = no_bool (ends_head (take n stream)) ends (is.shorter n (ltb-true n (length p) lt))

end_at : (stream p r : List ℕ) → IsShortest stream p r → ends_head (take (length p) stream) ≡ true
end_at stream p r is = ap ends_head (begins stream p r is.split) ∙ is.ends

-- where none ends there is no shortest
no_whole : {A : Type 0} (stream p r : List ℕ) (most : ℕ) → IsShortest stream p r →
    HasNoEnd most stream → length p ≤ most → A
no_whole stream p r most is none few = no_bool (ends_head (take (length p) stream))
    (end_at stream p r is) (none (length p) few)

one_whole : (stream p r q s : List ℕ) → IsShortest stream p r → IsShortest stream q s →
    whole p r ≡ whole q s
one_whole stream p r q s a b =
    let same_length : length p ≡ length q = omega (
      arith,
      no_longer stream p r a (length q) (end_at stream q s b),
      no_longer stream q s b (length p) (end_at stream p r a),
    ) in
    let same : p ≡ q = sym (begins stream p r a.split) ∙ ap (λ n. take n stream) same_length
    ∙ begins stream q s b.split in
    let left : r ≡ s = append_cancel_left p r s
    (sym a.split ∙ b.split ∙ ap (λ l. l ++ s) (sym same)) in
    λ i. whole (same i) (left i)

one_part : (stream : List ℕ) (x y : Part) → IsFirstPart stream x → IsFirstPart stream y → x ≡ y
one_part stream (whole p r) (whole q s) a b = one_whole stream p r q s a b
one_part stream (whole p r) too_long a b = no_whole stream p r 8192 a b.1 a.few
one_part stream (whole p r) cut a b = no_whole stream p r (length stream) a b.1
    (omega (arith, no_shorter stream p r a.split))
one_part stream too_long (whole q s) a b = no_whole stream q s 8192 b a.1 b.few
one_part stream too_long too_long a b = refl
one_part stream too_long cut a b = absurd (omega (arith, a.0, b.0))
one_part stream cut (whole q s) a b = no_whole stream q s (length stream) b a.1
    (omega (arith, no_shorter stream q s b.split))
one_part stream cut too_long a b = absurd (omega (arith, a.0, b.0))
one_part stream cut cut a b = refl

-- rule: http-head.shortest
pub are_shortest : AreShortest
are_shortest = record {
  is = is_first_part;
  alone = λ stream part is. one_part stream (first_part stream) part (is_first_part stream) is;
}
