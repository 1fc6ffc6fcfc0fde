-- A head part that a buffer shows whole: it ends where one search finds the empty line.
use Rattle.std.proofs.Common.{◌≡◌, ◌≢◌, ◌<◌, ◌≤◌, ◌+◌, ◌-◌, ℕ, Bool, true, false, List, [], ◌++◌}
use Rattle.std.proofs.Common.{length, take, drop, length-append, length-take-le, append_assoc}
use Rattle.std.proofs.Common.{append-nil, take-append-drop, refl, sym, ap, subst, ◌∙◌, arith}
use Rattle.std.proofs.Common.{Option, Some, None, IfSome, IfNone}
use Rattle.std.specs.Prelude.{Vec, min}
use Rattle.std.specs.Global.{Global}
use Rattle.std.specs.Io.KnownBytes.{IsAtEnd}
use Rattle.std.proofs.Math.Seq.{take-add, drop-append_seam}
use Rattle.std.proofs.lemmas.Bool.Decides.{Decides-eqb}
use Rattle.std.proofs.lemmas.List.{take-append-le}
use Rattle.std.proofs.lemmas.Slice.Eq.{ends_is}
use Rattle.memchr.specs.Find.{OccursAt, Nowhere}
use Rattle.memchr.proofs.lemmas.MatchLemmas.{OccursAt-part, OccursAt-from_part}
use Rattle.http_messages.specs.declared.head_part.HeadPart.TheVariants as head_part
use Rattle.http_messages.specs.Parts.{whole, first_part, IsHeadPart, TakesHead}
use Rattle.http_messages.specs.Shortest.{ends_head}
use Rattle.http_messages.specs.Shortest.{IsShortest, IsFirstPart}
use Rattle.http_messages.proofs.Pieces.{end_of_head}
use Rattle.http_messages.proofs.Shortest.{is_first_part, are_shortest, begins}

-- ---- where the empty line stands

ends_from : (bytes : List ℕ) (k : ℕ) → OccursAt bytes end_of_head k →
    ends_head (take (k + 4) bytes) ≡ true
ends_from bytes k h =
    (ends_is Decides-eqb (take (k + 4) bytes) end_of_head (ends_head (take (k + 4) bytes)) refl).1
    (take k bytes)
    (take-add k 4 bytes ∙ ap (λ l. take k bytes ++ l) (OccursAt-part bytes end_of_head k h))

occurs_from : (bytes : List ℕ) (n : ℕ) → n ≤ length bytes → ends_head (take n bytes) ≡ true →
    (k : ℕ) × (k + 4 ≡ n) × OccursAt bytes end_of_head k
occurs_from bytes n few ends =
    let front = take (length (take n bytes) - 4) (take n bytes) in
    let split : take n bytes ≡ front ++ end_of_head = (ends_is Decides-eqb (take n bytes)
    end_of_head (ends_head (take n bytes)) refl).0 ends in
    let counted : length front + 4 ≡ n = omega (
      arith,
      length-take-le n bytes few,
      ap length split,
      length-append front end_of_head,
    ) in
    let all : bytes ≡ front ++ (end_of_head ++ drop n bytes) = sym (take-append-drop n bytes)
    ∙ ap (λ l. l ++ drop n bytes) split
    ∙ append_assoc front end_of_head (drop n bytes) in
    let part : take 4 (drop (length front) bytes) ≡ end_of_head =
    ap (λ l. take 4 (drop (length front) l)) all
    ∙ ap (take 4) (drop-append_seam front (end_of_head ++ drop n bytes)) in (
      length front,
      counted,
      OccursAt-from_part bytes end_of_head (length front) (omega (arith, counted, few)) part,
    )

-- ---- the search, in as many bytes as a head part may have

-- a beginning of the bytes is one of those that are searched
same_begin : (shown : List ℕ) (most n : ℕ) → most ≤ length shown → n ≤ most →
    take n shown ≡ take n (take most shown)
same_begin shown most n within few = ap (take n) (sym (take-append-drop most shown))
    ∙ take-append-le n (take most shown) (drop most shown)
    (omega (arith, few, length-take-le most shown within))

-- no beginning that ends sooner
no_sooner : (shown : List ℕ) (most k n : ℕ) → most ≤ length shown → k + 4 ≤ most →
    Nowhere (OccursAt (take most shown) end_of_head) 0 k → n < k + 4 →
    ends_head (take n shown) ≡ false
no_sooner shown most k n within fits before less = by (ends_head (take n shown)) refl
  where
    by : (t : Bool) → ends_head (take n shown) ≡ t → t ≡ false
    by false e = refl
    by true e =
        let (j, at, stands) = occurs_from (take most shown) n
        (omega (arith, less, fits, length-take-le most shown within))
        (ap ends_head (sym (same_begin shown most n within (omega (arith, less, fits)))) ∙ e) in
        absurd (before j (omega (arith)) (omega (arith, at, less)) stands)

-- rule: http-head
pub is_found : (shown : List ℕ) (most k : ℕ) → most ≤ length shown → most ≤ 8192 →
    OccursAt (take most shown) end_of_head k →
    Nowhere (OccursAt (take most shown) end_of_head) 0 k →
    first_part shown ≡ whole (take (k + 4) shown) (drop (k + 4) shown)
is_found shown most k within few stands before =
    let long = length-take-le most shown within in
    let fits : k + 4 ≤ most = omega (arith, stands.fits, long) in
    let counted = length-take-le (k + 4) shown (omega (arith, fits, within)) in
    are_shortest.alone shown (whole (take (k + 4) shown) (drop (k + 4) shown)) (record {
      split = sym (take-append-drop (k + 4) shown);
      few = omega (arith, counted, fits, few);
      ends = ap ends_head (same_begin shown most (k + 4) within fits)
          ∙ ends_from (take most shown) k stands;
      shorter = λ n less. no_sooner shown most k n within fits before
          (omega (arith, less, counted));
    })

pub is_within : (shown : List ℕ) (most k : ℕ) → most ≤ length shown →
    OccursAt (take most shown) end_of_head k → k + 4 ≤ length shown
is_within shown most k within stands =
    omega (arith, stands.fits, length-take-le most shown within, within)

-- what a head part is, by what it is of its stream
is_shortest : (stream part rest : List ℕ) → first_part stream ≡ whole part rest →
    IsShortest stream part rest
is_shortest stream part rest e = subst (IsFirstPart stream) e (is_first_part stream)

pub none_found : {A P : Type 0} (r : Option A) → P → IfNone r P
none_found None h = h
none_found (Some x) h = tt

pub is_none : (shown : List ℕ) (most : ℕ) → most ≡ min (length shown) 8192 →
    Nowhere (OccursAt (take most shown) end_of_head) 0 (length (take most shown) + 1) →
    (part rest : List ℕ) → first_part shown ≢ whole part rest
is_none shown most least nowhere part rest e =
    let is = is_shortest shown part rest e in
    let within : most ≤ length shown = omega (arith, least) in
    let long = length-take-le most shown within in
    let all = ap length is.split ∙ length-append part rest in
    let fits : length part ≤ most = omega (arith, least, is.few, all) in
    let (j, at, stands) = occurs_from (take most shown) (length part)
    (omega (arith, fits, long))
    (ap ends_head (sym (same_begin shown most (length part) within fits)
    ∙ begins shown part rest is.split) ∙ is.ends) in
    nowhere j (omega (arith)) (omega (arith, at, fits, long)) stands

-- ---- what was taken

-- a head part is one, whatever follows it
pub is_before : (shown part rest left : List ℕ) → first_part shown ≡ whole part rest →
    first_part (part ++ left) ≡ whole part left
is_before shown part rest left e =
    let is = is_shortest shown part rest e in
    are_shortest.alone (part ++ left) (whole part left) (record {
      split = refl;
      few = is.few;
      ends = is.ends;
      shorter = λ n less. ap ends_head (take-append-le n part left (omega (arith, less))
          ∙ sym (take-append-le n part rest (omega (arith, less)))
          ∙ ap (take n) (sym is.split)) ∙ is.shorter n less;
    })

pub is_alone : (shown part rest : List ℕ) → first_part shown ≡ whole part rest →
    first_part part ≡ whole part []
is_alone shown part rest e = ap first_part (sym (append-nil part)) ∙ is_before shown part rest [] e

-- rule: http-head
pub whole_taken : (old new : Option (List ℕ)) (before : List ℕ) (part : Vec ℕ Global) →
    before ≡ [] → TakesHead before part.items old new →
    IfSome old (λ stream. IsHeadPart (first_part stream) (head_part.Whole part) new)
whole_taken None new before part none takes = tt
whole_taken (Some stream) None before part none takes = absurd takes.taken
whole_taken (Some stream) (Some rest) before part none takes =
    let same : part.items ≡ takes.part = takes.joined ∙ ap (λ l. l ++ takes.part) none in
    let told : first_part stream ≡ whole part.items rest = ap first_part takes.taken
    ∙ is_before takes.part takes.part [] rest takes.is_head
    ∙ ap (λ l. whole l rest) (sym same) in
    subst (λ p. IsHeadPart p (head_part.Whole part) (Some rest)) (sym told) (refl, refl)

pub short_taken : (old new : Option (List ℕ)) (before after : List ℕ) → before ≡ [] →
    TakesHead before after old new → length after ≤ 8192
short_taken old new before after none takes =
    let same : after ≡ takes.part = takes.joined ∙ ap (λ l. l ++ takes.part) none in
    subst (λ l. length l ≤ 8192) (sym same)
    (is_shortest takes.part takes.part [] takes.is_head).few

-- ---- where the stream ends

-- nothing is shown: the stream is at its end
pub none_shown : (old : Option (List ℕ)) (shown : List ℕ) →
    IfSome old (λ stream. length shown ≡ 0 → stream ≡ []) → length shown ≡ 0 → IsAtEnd old
none_shown None shown end none = tt
none_shown (Some stream) shown end none = end none

pub ended : (old new : Option (List ℕ)) → IsAtEnd old →
    IfSome old (λ stream. IsHeadPart (first_part stream) head_part.Ended new)
ended None new end = tt
ended (Some stream) new end =
    subst (λ s. IsHeadPart (first_part s) head_part.Ended new) (sym end) tt
