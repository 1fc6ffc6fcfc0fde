-- Reading the moments that words say one after the other, as a loop does.
use Rattle.std.proofs.Common.{◌≡◌, ℕ, ◌+◌, ◌≤◌, ◌<◌, List, [], ◌∷◌, ◌++◌, length, get_or, drop, map}
use Rattle.std.proofs.Common.{Result, Ok, Err, Bor}
use Rattle.std.proofs.lemmas.List.{get_or_default}
use Rattle.units.specs.Words.{Moment}
use Rattle.texts.specs.Steps.{collected}
use Rattle.texts.proofs.Loop as loop
use Rattle.clap.specs.Words.{Text}
use Rattle.operator.specs.Values.{moment_in_text}
use Rattle.operator.specs.declared.fault.ValueFault.{ValueFault}

-- what is read of these words, behind the moments that were read
abbrev pub read_of : List Moment → List (Bor Text) → Result (List Moment) ValueFault
read_of before words = collected (λ earlier. moment_in_text) before (map (λ w. w.now) words)

-- a word that says a moment
pub goes_on : (before : List Moment) (moment : Moment) (words : List (Bor Text)) (i : ℕ)
    (none : Bor Text) (total : Result (List Moment) ValueFault) → i < length words
    → moment_in_text (get_or words i none).now ≡ Ok moment → read_of before (drop i words) ≡ total
    → read_of (before ++ moment ∷ []) (drop (i + 1) words) ≡ total
goes_on before moment words i none total lt said so_far =
    let word = get_or words i none in
    loop.collected_goes_on (λ (w : Bor Text). w.now) (λ (earlier : List Moment). moment_in_text)
    before moment words i word total lt (get_or_default words i none word lt) said so_far

-- a word that says none
pub ends : (fault : ValueFault) (before : List Moment) (words : List (Bor Text)) (i : ℕ)
    (none : Bor Text) (total : Result (List Moment) ValueFault) → i < length words
    → moment_in_text (get_or words i none).now ≡ Err fault → read_of before (drop i words) ≡ total
    → total ≡ Err fault
ends fault before words i none total lt said so_far =
    let word = get_or words i none in
    loop.collected_ends (λ (w : Bor Text). w.now) (λ (earlier : List Moment). moment_in_text) fault
    before words i word total lt (get_or_default words i none word lt) said so_far

-- no word is left
pub done : (before : List Moment) (words : List (Bor Text)) (i : ℕ)
    (total : Result (List Moment) ValueFault) → length words ≤ i
    → read_of before (drop i words) ≡ total → total ≡ Ok before
done before words i total le so_far =
    loop.collected_done (λ (w : Bor Text). w.now) (λ (earlier : List Moment). moment_in_text) before
    words i total le so_far
