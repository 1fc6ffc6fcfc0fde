-- A head part, piece by piece: only a line feed ends one.
use Rattle.std.proofs.Common.{◌≡◌, ◌≢◌, ◌<◌, ◌≤◌, ◌+◌, ◌-◌, ℕ, suc, Bool, true, false, List, []}
use Rattle.std.proofs.Common.{◌∷◌, ◌++◌, All, length, take, get_or, length-append, append_assoc}
use Rattle.std.proofs.Common.{append-nil, take_all, refl, sym, ap, subst, ◌∙◌, arith, Option, Some}
use Rattle.std.proofs.Common.{None, IfSome}
use Rattle.std.specs.Prelude.{if◌then◌else◌, Vec}
use Rattle.std.specs.Global.{Global}
use Rattle.std.proofs.Math.Seq.{take-suc}
use Rattle.std.proofs.lemmas.Bool.{lt-ltb}
use Rattle.std.proofs.lemmas.Bool.Decides.{Decides-eqb}
use Rattle.std.proofs.lemmas.List.{get_or_push}
use Rattle.std.proofs.lemmas.List.Elements.{All-head, All-tail}
use Rattle.std.proofs.lemmas.Slice.Eq.{ends_is}
use Rattle.texts.specs.Parts.{TakesPiece}
use Rattle.http_messages.specs.declared.head_part.HeadPart.TheVariants as head_part
use Rattle.http_messages.specs.Parts.{whole, too_long, first_part, part_after}
use Rattle.http_messages.specs.Shortest.{ends_head}
use Rattle.http_messages.specs.Parts.{IsHeadPart}

abbrev pub end_of_head : List ℕ
end_of_head = 13 ∷ 10 ∷ 13 ∷ 10 ∷ []

last_is : (taken front : List ℕ) (b : ℕ) → taken ++ b ∷ [] ≡ front ++ end_of_head → b ≡ 10
last_is taken front b e =
    let split : taken ++ b ∷ [] ≡ (front ++ 13 ∷ 10 ∷ 13 ∷ []) ++ 10 ∷ [] = e
    ∙ sym (append_assoc front (13 ∷ 10 ∷ 13 ∷ []) (10 ∷ [])) in
    let long : length (front ++ 13 ∷ 10 ∷ 13 ∷ []) ≡ length taken =
    omega (
      arith,
      ap length split,
      length-append taken (b ∷ []),
      length-append (front ++ 13 ∷ 10 ∷ 13 ∷ []) (10 ∷ []),
    ) in
    sym (get_or_push taken b 0 (length taken) refl)
    ∙ ap (λ l. get_or l (length taken) 0) split
    ∙ get_or_push (front ++ 13 ∷ 10 ∷ 13 ∷ []) 10 0 (length taken) long

-- another byte doesn't end a head part
no_end : (taken : List ℕ) (b : ℕ) → b ≢ 10 → ends_head (taken ++ b ∷ []) ≡ false
no_end taken b other = at (ends_head (taken ++ b ∷ []))
    (ends_is Decides-eqb (taken ++ b ∷ []) end_of_head (ends_head (taken ++ b ∷ [])) refl).0
  where
    at : (r : Bool) → (r ≡ true → taken ++ b ∷ []
        ≡ take (length (taken ++ b ∷ []) - 4) (taken ++ b ∷ []) ++ end_of_head) → r ≡ false
    at false h = refl
    at true h = absurd (other (last_is taken _ b (h refl)))

-- one byte
one_byte : (taken rest : List ℕ) (b : ℕ) → length taken < 8192 →
    part_after taken (b ∷ rest) ≡ (if ends_head (taken ++ b ∷ []) then whole (taken ++ b ∷ []) rest
    else part_after (taken ++ b ∷ []) rest)
one_byte taken rest b short =
    ap (λ t. if t then (if ends_head (taken ++ b ∷ []) then whole (taken ++ b ∷ []) rest
    else part_after (taken ++ b ∷ []) rest) else too_long) (lt-ltb (length taken) 8192 short)

-- bytes that end no line go by
goes_by : (taken bytes rest : List ℕ) → All (λ b. b ≢ 10) bytes → length taken + length bytes
    ≤ 8192 → part_after taken (bytes ++ rest) ≡ part_after (taken ++ bytes) rest
goes_by taken [] rest all short = ap (λ t. part_after t rest) (sym (append-nil taken))
goes_by taken (b ∷ bytes) rest all short =
    let longer : length (taken ++ b ∷ []) ≡ length taken + 1 = length-append taken (b ∷ []) in
    one_byte taken (bytes ++ rest) b (omega (arith, short))
    ∙ ap (λ t. if t then whole (taken ++ b ∷ []) (bytes ++ rest) else part_after (taken ++ b ∷ [])
    (bytes ++ rest)) (no_end taken b (All-head (λ b. b ≢ 10) b bytes all))
    ∙ goes_by (taken ++ b ∷ []) bytes rest (All-tail (λ b. b ≢ 10) b bytes all)
    (omega (arith, short, longer))
    ∙ ap (λ t. part_after t rest) (append_assoc taken (b ∷ []) bytes)

-- a piece whose last byte alone may end a line
by_piece : (taken piece rest : List ℕ) (count : ℕ) → length piece ≡ suc count →
    All (λ b. b ≢ 10) (take count piece) → length taken + length piece ≤ 8192 →
    part_after taken (piece ++ rest) ≡ (if ends_head (taken ++ piece)
    then whole (taken ++ piece) rest else part_after (taken ++ piece) rest)
by_piece taken piece rest count long all short =
    let front = take count piece in
    let b = get_or piece count 0 in
    let split : piece ≡ front ++ b ∷ [] = sym (take_all (suc count) piece (omega (arith, long)))
    ∙ take-suc piece count 0 (omega (arith, long)) in
    let joined : (taken ++ front) ++ b ∷ [] ≡ taken ++ piece = append_assoc taken front (b ∷ [])
    ∙ ap (λ l. taken ++ l) (sym split) in
    let fits : length front + 1 ≡ length piece = sym (length-append front (b ∷ []))
    ∙ ap length (sym split) in
    let both : length (taken ++ front) ≡ length taken + length front = length-append taken front in
    ap (λ l. part_after taken (l ++ rest)) split
    ∙ ap (part_after taken) (append_assoc front (b ∷ []) rest)
    ∙ goes_by taken front (b ∷ rest) all (omega (arith, short, fits))
    ∙ one_byte (taken ++ front) rest b (omega (arith, short, fits, both))
    ∙ ap (λ l. if ends_head l then whole l rest else part_after l rest) joined

-- ---- over a reader

-- the stream begins with what the taken bytes and the rest begin with
abbrev pub IsKnown : List ℕ → Option (List ℕ) → Option (List ℕ) → Type 0
IsKnown taken old left = IfSome old
    (λ stream. (rest : List ℕ) × (left ≡ Some rest) × (first_part stream ≡ part_after taken rest))

-- a piece more, by what it ends
abbrev AfterPiece : List ℕ → List ℕ → List ℕ → Type 0
AfterPiece stream taken rest =
    first_part stream ≡ (if ends_head taken then whole taken rest else part_after taken rest)

after_piece : (old mid new : Option (List ℕ)) (before after : List ℕ) (most count : ℕ) →
    TakesPiece (Some 10) most before after mid new count →
    (count ≡ 0 → ⊥) → length before + most ≤ 8192 → IsKnown before old mid →
    IfSome old (λ stream. (rest : List ℕ) × (new ≡ Some rest) × AfterPiece stream after rest)
after_piece None mid new before after most count takes some short known = tt
after_piece (Some stream) None new before after most count takes some short known =
    absurd (let no : None ≡ Some known.0 = known.1 in cc)
after_piece (Some stream) (Some xs) None before after most count takes some short known =
    absurd takes.taken
after_piece (Some stream) (Some xs) (Some ys) before after most count takes some short known =
    let same : xs ≡ known.0 = (let k : Some xs ≡ Some known.0 = known.1 in cc) in
    let one : length takes.piece ≡ suc (count - 1) = omega (arith, takes.counted, some) in
    let fits : length before + length takes.piece ≤ 8192 =
    omega (arith, takes.counted, takes.within, short) in (
      ys,
      refl,
      known.2 ∙ ap (part_after before) (sym same ∙ takes.taken)
          ∙ by_piece before takes.piece ys (count - 1) one takes.stops fits
          ∙ ap (λ l. if ends_head l then whole l ys else part_after l ys) (sym takes.part),
    )

-- a piece that ends no head part
pub goes_on : (old mid new : Option (List ℕ)) (before after : List ℕ) (most count : ℕ) →
    TakesPiece (Some 10) most before after mid new count →
    (count ≡ 0 → ⊥) → length before + most ≤ 8192 → ends_head after ≡ false →
    IsKnown before old mid → IsKnown after old new
goes_on None mid new before after most count takes some short e known = tt
goes_on (Some stream) mid new before after most count takes some short e known =
    let (rest, left, is) =
    after_piece (Some stream) mid new before after most count takes some short known in
    (rest, left, is ∙ ap (λ t. if t then whole after rest else part_after after rest) e)

-- a piece that ends one
pub ends_whole : (old mid new : Option (List ℕ)) (before : List ℕ) (part : Vec ℕ Global)
    (most count : ℕ) → TakesPiece (Some 10) most before part.items mid new count →
    (count ≡ 0 → ⊥) → length before + most ≤ 8192 → ends_head part.items ≡ true →
    IsKnown before old mid →
    IfSome old (λ stream. IsHeadPart (first_part stream) (head_part.Whole part) new)
ends_whole None mid new before part most count takes some short e known = tt
ends_whole (Some stream) mid new before part most count takes some short e known =
    let (rest, left, is) =
    after_piece (Some stream) mid new before part.items most count takes some short known in
    let told : first_part stream ≡ whole part.items rest = is
    ∙ ap (λ t. if t then whole part.items rest else part_after part.items rest) e in
    subst (λ p. IsHeadPart p (head_part.Whole part) new) (sym told) (refl, left)
