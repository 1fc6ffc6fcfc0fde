-- A command that was served is carried out.
use Rattle.std.proofs.Common.{◌≡◌, ℕ, List, Option, subst, Result, Ok}
use Rattle.commands.specs.declared.answer.Answer.{Answer}
use Rattle.commands.specs.declared.command.Command.{Command}
use Rattle.shelves.specs.Shelves.{Shelf}
use Rattle.keepers.specs.Seen.{Seen}
use Rattle.keepers.specs.Tables.{Tables}
use Rattle.charging.specs.Parts.{Leaves}
use Rattle.charging.specs.Served.{IsServed, Serves, Writes, moment_of}
use Rattle.std.specs.Io.KnownBytes.{Appends}
use Rattle.keepers.specs.declared.fault.StoreFault.{StoreFault}
use Rattle.operations.specs.Carried.{IsCarriedOut}
use Rattle.operations.specs.Told.{answer_line, status_of}
use Rattle.operations.specs.Written.{WritesBeginning}
use Rattle.operations.specs.declared.status.Status.{Status}

-- rule: office-commands
pub carried_out : (b : Shelf) (c : Command) (t : ℕ) (old new : Tables) (tells : Answer → Type 0)
    (given : Answer)
    → Serves b c t old new (Ok given) → tells given → IsCarriedOut b c t old new tells
carried_out b c t old new tells given serves told = λ list time tables.
    let served = serves list time tables in
    record {
      served = subst (IsServed b list c (moment_of list t) old new) served.answer served;
      told = subst tells served.answer told;
    }

-- ---- by what a step and a writer gave

served_from : (b : Shelf) (c d : Command) (t : ℕ) (old new : Tables) (r : Result Answer StoreFault)
    (given : Answer)
    → Serves b d t old new r → r ≡ Ok given → d ≡ c → Serves b c t old new (Ok given)
served_from b c d t old new r given serves e same =
    subst (λ (x : Command). Serves b x t old new (Ok given)) same
    (subst (λ (x : Result Answer StoreFault). Serves b d t old new x) e serves)

pub left_from : (b : Shelf) (c d : Command) (t : ℕ) (old new : Seen)
    → Leaves old new (λ held. old.clean × Writes b d t old.tables held) → d ≡ c
    → Leaves old new (λ held. old.clean × Writes b c t old.tables held)
left_from b c d t old new left same =
    subst (λ (x : Command).
    Leaves old new (λ held. old.clean × Writes b x t old.tables held)) same left

pub done_from : (b : Shelf) (c d : Command) (t : ℕ) (old new : Tables)
    (before after : Option (List ℕ)) (status : Status)
    (r : Result Answer StoreFault) (given : Answer)
    → Serves b d t old new r → r ≡ Ok given → d ≡ c → status ≡ status_of given
    → Appends before after (answer_line given) → IsCarriedOut b c t old new
    (λ answer. (status ≡ status_of answer) × Appends before after (answer_line answer))
done_from b c d t old new before after status r given serves e same is written =
    carried_out b c t old new
    (λ answer. (status ≡ status_of answer) × Appends before after (answer_line answer)) given
    (served_from b c d t old new r given serves e same) (is, written)

pub untold_from : (b : Shelf) (c d : Command) (t : ℕ) (old new : Tables)
    (before after : Option (List ℕ)) (r : Result Answer StoreFault) (given : Answer)
    → Serves b d t old new r → r ≡ Ok given → d ≡ c
    → WritesBeginning before after (answer_line given)
    → IsCarriedOut b c t old new (λ answer. WritesBeginning before after (answer_line answer))
untold_from b c d t old new before after r given serves e same written =
    carried_out b c t old new (λ answer. WritesBeginning before after (answer_line answer)) given
    (served_from b c d t old new r given serves e same) written
