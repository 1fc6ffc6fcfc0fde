-- The records of a text, as a reader takes them one by one.
use Rattle.std.proofs.Common.{◌≡◌, ◌==◌, ◌+◌, ◌-◌, ◌≤◌, ℕ, zero, suc, List, [], ◌∷◌, ◌++◌, length}
use Rattle.std.proofs.Common.{Bool, true, false, Option, Some, None, refl, ap, arith}
use Rattle.std.specs.Prelude.{⊤, if◌then◌else◌}
use Rattle.csv.specs.Machine.{Read, next_record, step, in_field, start_field, start_record}
use Rattle.csv.specs.Machine.{ends_with, is_end, ends_at_end, fields_after, field_after}
use Rattle.csv.specs.Reading.{Reached, records_from, default_config, strip_bom}
use Rattle.csv.specs.declared.parser.State.{State}
use Rattle.csv.specs.declared.parser.State.TheVariants as st
use Rattle.csv.specs.declared.parser.Action.{Action}
use Rattle.csv.specs.declared.parser.Terminator.TheVariants as term
use Rattle.vouchers.specs.Files.{records_in}

-- between two records
abbrev IsBetween : State → Type 0
IsBetween st.StartRecord = ⊤
IsBetween st.AfterCr = ⊤
IsBetween st.StartField = ⊥
IsBetween st.InField = ⊥
IsBetween st.InQuoted = ⊥
IsBetween st.AfterQuote = ⊥
IsBetween st.InEscape = ⊥
IsBetween st.InComment = ⊥

either : {A : Type 0} (P : A → Type 0) (b : Bool) (x y : A) → P x → P y → P (if b then x else y)
either P true x y p q = p
either P false x y p q = q

-- where the byte ends a record, the next one follows
abbrev EndsBetween : State × Action → Type 0
EndsBetween r = is_end r.1 ≡ true → IsBetween r.0

in_field_ends : (c : ℕ) → EndsBetween (in_field default_config c)
in_field_ends c = either EndsBetween (c == 44) _ _ (λ e. absurd (cc e))
    (either EndsBetween (ends_with term.CRLF c) _ _
    (λ e. either IsBetween (c == 13) st.AfterCr st.StartRecord tt tt) (λ e. absurd (cc e)))

start_field_ends : (c : ℕ) → EndsBetween (start_field default_config c)
start_field_ends c = either EndsBetween (c == 34) _ _ (λ e. absurd (cc e)) (in_field_ends c)

start_record_ends : (c : ℕ) → EndsBetween (start_record default_config c)
start_record_ends c =
    either EndsBetween (ends_with term.CRLF c) _ _ (λ e. absurd (cc e)) (start_field_ends c)

step_ends : (s : State) (c : ℕ) → EndsBetween (step default_config s c)
step_ends st.StartRecord c = start_record_ends c
step_ends st.StartField c = start_field_ends c
step_ends st.InField c = in_field_ends c
step_ends st.InQuoted c = either EndsBetween (c == 34) _ _ (λ e. absurd (cc e)) (λ e. absurd (cc e))
step_ends st.InEscape c = λ e. absurd (cc e)
step_ends st.AfterQuote c = either EndsBetween (c == 34) _ _ (λ e. absurd (cc e)) (in_field_ends c)
step_ends st.InComment c =
    either EndsBetween (c == 10) _ _ (λ e. absurd (cc e)) (λ e. absurd (cc e))
step_ends st.AfterCr c = either EndsBetween (c == 10) _ _ (λ e. absurd (cc e)) (start_record_ends c)

-- what a record that was read leaves: the reader is between two records, with no more bytes than
-- these
abbrev Leaves : ℕ → Option Read → Type 0
Leaves n None = ⊤
Leaves n (Some r) = IsBetween r.1 × (length r.2 ≤ n)

ends_here : (b : Bool) (n : ℕ) (f g : List (List ℕ)) (s : State) (rest : List ℕ)
    (more : Option Read) → (b ≡ true → IsBetween s) → length rest ≤ n → Leaves n more
    → Leaves n (if b then Some (f, s, rest) else more)
ends_here true n f g s rest more between few later = (between refl, few)
ends_here false n f g s rest more between few later = later

leaves_more : (n m : ℕ) (o : Option Read) → n ≤ m → Leaves n o → Leaves m o
leaves_more n m None more h = tt
leaves_more n m (Some r) more h = (h.0, omega (arith, h.1, more))

-- a record takes no bytes that aren't there
next_leaves : (s : State) (fields : List (List ℕ)) (f : List ℕ) (xs : List ℕ)
    → Leaves (length xs) (next_record default_config s fields f xs)
unfolding next_record
next_leaves s fields f [] = either (Leaves 0) (ends_at_end s) _ None (tt, omega arith) tt
next_leaves s fields f (c ∷ xs) =
    let here = step default_config s c in
    ends_here (is_end here.1) (length (c ∷ xs)) (fields_after here.1 fields f) [] here.0 xs _
    (step_ends s c) (omega arith) (leaves_more (length xs) (length (c ∷ xs)) _ (omega arith)
    (next_leaves here.0 (fields_after here.1 fields f) (field_after here.1 c f) xs))

starts_between : (s : State) → IsBetween s → ends_at_end s ≡ false
starts_between st.StartRecord h = refl
starts_between st.AfterCr h = refl
starts_between st.StartField h = absurd h
starts_between st.InField h = absurd h
starts_between st.InQuoted h = absurd h
starts_between st.AfterQuote h = absurd h
starts_between st.InEscape h = absurd h
starts_between st.InComment h = absurd h

-- one that is taken between two records takes a byte at least
next_takes : (s : State) (fields : List (List ℕ)) (f : List ℕ) (xs : List ℕ) (r : Read)
    → IsBetween s → next_record default_config s fields f xs ≡ Some r
    → IsBetween r.1 × (length r.2 + 1 ≤ length xs)
unfolding next_record
next_takes s fields f [] r h e = absurd (cc (rw (starts_between s h) at e))
next_takes s fields f (c ∷ xs) r h e =
    let here = step default_config s c in
    let left : Leaves (length xs) (next_record default_config s fields f (c ∷ xs)) =
    ends_here (is_end here.1) (length xs) (fields_after here.1 fields f) [] here.0 xs _
    (step_ends s c) (omega arith)
    (next_leaves here.0 (fields_after here.1 fields f) (field_after here.1 c f) xs) in
    let known = rw e at left in
    (known.0, omega (arith, known.1))

-- so there are no more records than bytes
reached_few : (s : State) (xs : List ℕ) (rows : List (List (List ℕ))) (s2 : State) (ys : List ℕ)
    → IsBetween s → Reached default_config s xs rows s2 ys
    → length rows + length ys ≤ length xs
unfolding Reached
reached_few s xs [] s2 ys h r = omega (arith, ap length r.1)
reached_few s xs (row ∷ rows) s2 ys h r =
    let (p, here, same, more) = r in
    let (between, taken) = next_takes s [] [] xs p h here in
    omega (arith, taken, reached_few p.1 p.2 rows s2 ys between more)

reached_records : (m n : ℕ) (s : State) (xs : List ℕ) (rows : List (List (List ℕ))) (s2 : State)
    (ys : List ℕ) → m ≡ length rows + n
    → Reached default_config s xs rows s2 ys
    → records_from default_config m s xs ≡ rows ++ records_from default_config n s2 ys
unfolding Reached records_from
reached_records m n s xs [] s2 ys count r = let all : m ≡ n = omega (arith, count) in
    rw (all, r.0, r.1) refl
reached_records zero n s xs (row ∷ rows) s2 ys count r = absurd (omega (arith, count))
reached_records (suc m) n s xs (row ∷ rows) s2 ys count r =
    let (p, here, same, more) = r in
    rw (here, same) (ap (λ (rs : List (List (List ℕ))). p.0 ∷ rs)
    (reached_records m n p.1 p.2 rows s2 ys (omega (arith, count)) more))

none_left : (n : ℕ) (s : State) (ys : List ℕ) → next_record default_config s [] [] ys ≡ None
    → records_from default_config n s ys ≡ []
unfolding records_from
none_left zero s ys e = refl
none_left (suc n) s ys e = rw e refl

-- the records that were reached are the first ones of the text; where none follows they are all
-- rule: voucher-file
pub reached_first : (text : List ℕ) (rows : List (List (List ℕ))) (s : State) (ys : List ℕ)
    → Reached default_config st.StartRecord (strip_bom text) rows s ys
    → (more : List (List (List ℕ))) × (records_in text ≡ rows ++ more)
    × (next_record default_config s [] [] ys ≡ None → more ≡ [])
reached_first text rows s ys r =
    let xs = strip_bom text in
    let n = length xs + 1 - length rows in
    let few = reached_few st.StartRecord xs rows s ys tt r in
    let all : length xs + 1 ≡ length rows + n = omega (arith, few) in (
      records_from default_config n s ys,
      reached_records (length xs + 1) n st.StartRecord xs rows s ys all r,
      none_left n s ys,
    )
