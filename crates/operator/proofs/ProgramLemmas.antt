-- What `clap` says of the program's words, and what they come to.
use Rattle.std.proofs.Common.{◌≡◌, Bool, ◌∙◌, sym, ap, ap₂, subst, refl, true, false, true≢false}
use Rattle.std.proofs.Common.{inl, inr, List, [], Option, Some, None, Result, Ok, Err, option_map}
use Rattle.std.proofs.Common.{unwrap_or}
use Rattle.std.specs.Option.{is_some}
use Rattle.clap.specs.Kinds.{FailsBy, HasKind}
use Rattle.clap.specs.Values.{kind_of}
use Rattle.clap.specs.Words.{IsAmong, Kinds, Row, Text, fault_of, is_simple, is_simple_and_free}
use Rattle.clap.specs.Words.{subcommand_of}
use Rattle.clap.specs.declared.error.Error.{Error}
use Rattle.clap.proofs.OnLiterals.{clap_on_literals}
use Rattle.texts.specs.Steps.{GivesUnless}
use Rattle.operator.specs.Program.{program_app}
use Rattle.operator.specs.Read.{IsInvalid, IsFaultOfError, IsRefused, IsSaid, IsUnread}
use Rattle.operator.specs.Said.{said_by}
use Rattle.operator.specs.declared.argument_names.Argument.{Argument}
use Rattle.operator.specs.declared.argument_names.Argument.TheVariants as argument
use Rattle.operator.specs.declared.fault.ValueFault.{ValueFault}
use Rattle.operator.specs.declared.fault.ValueFault.TheVariants as value
use Rattle.operator.specs.declared.fault.WordsFault.{WordsFault}
use Rattle.operator.specs.declared.fault.WordsFault.TheVariants.{Unread, Invalid, Memory}
use Rattle.operator.specs.declared.parsed.ProgramWords.{ProgramWords}

-- the program is one of which clap says all
-- rule: words
pub simple_program : is_simple program_app ≡ true
unfolding clap_on_literals
simple_program = refl

pub free_program : is_simple_and_free program_app ≡ true
unfolding clap_on_literals
free_program = refl

none_some : {A : Type 0} (x : A) → None ≡ Some x → ⊥
none_some x e = true≢false (sym (ap is_some e))

-- two views of an option, joined
pub joined : {A B X Y : Type 0} (n : X → A) (w : X → B) (o : Option X) (name : Y → A) (rows : Y → B)
    (r : Option Y)
    → option_map name r ≡ option_map n o → option_map rows r
    ≡ option_map (λ (p : A × B). p.1) (option_map {U = A × B} (λ x. (n x, w x)) o)
    → option_map {U = A × B} (λ y. (name y, rows y)) r ≡ option_map {U = A × B} (λ x. (n x, w x)) o
joined n w None name rows None e f = refl
joined {A} {B} n w (Some x) name rows (Some y) e f =
    ap₂ (λ (a : A) (b : B). Some (a, b)) (ap (λ (o : Option A). unwrap_or o (n x)) e)
    (ap (λ (o : Option B). unwrap_or o (w x)) f)
joined n w None name rows (Some y) e f = absurd (none_some (name y) (sym e))
joined n w (Some x) name rows None e f = absurd (none_some (n x) e)

-- an error of clap as a fault of the words
-- rule: words
pub refused_by : (kinds : Kinds) (error : Error) (fault : WordsFault) → HasKind kinds error →
    IsFaultOfError error fault → IsRefused kinds fault
refused_by kinds error (Unread same) has is = elim has [
  | inl memory ↦ absurd (is.1 memory)
  | inr among ↦ subst (λ (e : Error). IsAmong (kind_of e) kinds) (sym is.0) among
]
refused_by kinds error (Invalid argument) has is = is
refused_by kinds error Memory has is = tt

pub refused_unread : (words : List Text) (fault : WordsFault) →
    IsRefused (fault_of program_app words) fault → IsUnread words fault
refused_unread words (Unread error) is = is
refused_unread words (Invalid argument) is = absurd is
refused_unread words Memory is = tt

pub is_said : (words : List Text) (rows : Option (Text × List Row)) (said : ProgramWords)
    → fault_of program_app words ≡ [] → rows ≡ subcommand_of program_app words
    → said_by rows ≡ Ok said → IsSaid words said
is_said words rows said taken is means =
    record { taken = taken; means = ap said_by (sym is) ∙ means }

pub is_invalid : (words : List Text) (rows : Option (Text × List Row)) (argument : Argument)
    → fault_of program_app words ≡ [] → rows ≡ subcommand_of program_app words
    → said_by rows ≡ Err (value.Invalid argument) → IsInvalid words argument
is_invalid words rows argument taken is means =
    record { taken = taken; means = ap said_by (sym is) ∙ means }

-- ---- the same, by what the calls gave

pub refused_from : {T : Type 0} (kinds : Kinds) (r : Result T Error) (error : Error)
    (fault : WordsFault)
    → r ≡ Err error → FailsBy kinds r → IsFaultOfError error fault → IsRefused kinds fault
refused_from kinds r error fault e fails is =
    refused_by kinds error fault (subst (FailsBy kinds) e fails) is

pub is_said_from : (words : List Text) (rows : Option (Text × List Row))
    (r : Result ProgramWords ValueFault) (said : ProgramWords)
    → fault_of program_app words ≡ [] → rows ≡ subcommand_of program_app words → r ≡ Ok said
    → GivesUnless value.Memory (λ w. w) r (said_by rows) → IsSaid words said
is_said_from words rows r said taken is e gives =
    is_said words rows said taken is (subst (λ (x : Result ProgramWords ValueFault).
    GivesUnless value.Memory (λ w. w) x (said_by rows)) e gives)

abbrev is_memory : ValueFault → Bool
is_memory value.Memory = true
is_memory (value.Invalid argument) = false

pub is_invalid_from : (words : List Text) (rows : Option (Text × List Row))
    (r : Result ProgramWords ValueFault) (argument : Argument)
    → fault_of program_app words ≡ [] → rows ≡ subcommand_of program_app words
    → r ≡ Err (value.Invalid argument) → GivesUnless value.Memory (λ w. w) r (said_by rows)
    → IsInvalid words argument
is_invalid_from words rows r argument taken is e gives =
    let told = subst (λ (x : Result ProgramWords ValueFault).
    GivesUnless value.Memory (λ w. w) x (said_by rows)) e gives in
    is_invalid words rows argument taken is (told (λ same. true≢false (sym (ap is_memory same))))

-- ---- the first that isn't taken is one alone

abbrev argument_in : Result ProgramWords ValueFault → Argument
argument_in (Ok said) = argument.Command
argument_in (Err (value.Invalid argument)) = argument
argument_in (Err value.Memory) = argument.Command

pub one_invalid : (words : List Text) (one other : Argument) → IsInvalid words one →
    IsInvalid words other → one ≡ other
one_invalid words one other h k = ap argument_in (sym h.means ∙ k.means)
