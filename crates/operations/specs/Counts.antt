-- What becomes of vouchers that are added, counted.
-- Source: profile.
use Rattle.std.specs.Prelude.{ℕ, ◌+◌, ◌++◌, Bool, true, false, [], ◌∷◌, Option, codes}
use Rattle.std.specs.Fmt.{decimal}
use Rattle.std.specs.Io.KnownBytes.{Appends}
use Rattle.texts.specs.StreamWords.{Bytes}
use Rattle.commands.specs.declared.answer.Answer.{Answer}
use Rattle.commands.specs.declared.answer.Answer.TheVariants as answer
use Rattle.voucher_rules.specs.declared.adding.Addition.{Addition}
use Rattle.voucher_rules.specs.declared.adding.Addition.TheVariants.{New, Present, Conflicting}
use Rattle.operations.specs.declared.counts.Counts.{Counts}

abbrev pub no_counts : Counts
no_counts = record { new = 0; present = 0; conflicting = 0 }

abbrev pub total_count : Counts → ℕ
total_count n = n.new + n.present + n.conflicting

-- with one voucher more
abbrev pub counted_as : Addition → Counts → Counts
counted_as (New voucher) n = record n { new = n.new + 1 }
counted_as Present n = record n { present = n.present + 1 }
counted_as Conflicting n = record n { conflicting = n.conflicting + 1 }

-- the same by what was decided of its command: accepted it is new; refused, one of other terms
-- is under its code; otherwise it was there
abbrev pub counted_unaccepted : Answer → Counts → Counts
counted_unaccepted (answer.Refused refusal) n = record n { conflicting = n.conflicting + 1 }
counted_unaccepted given n = record n { present = n.present + 1 }

abbrev pub counted : Bool → Answer → Counts → Counts
counted true given n = record n { new = n.new + 1 }
counted false given n = counted_unaccepted given n

-- what is printed of them
abbrev pub counts_text : Counts → Bytes
counts_text n = codes "new " ++ (decimal n.new ++ (codes " present " ++ (decimal n.present
    ++ (codes " conflicting " ++ decimal n.conflicting))))

-- and its line feed
-- rule: import
abbrev pub counts_line : Counts → Bytes
counts_line n = counts_text n ++ 10 ∷ []

-- the line of some counts is printed
-- rule: office-commands
pub record PrintsCounts (old new : Option Bytes) : Type 0 where
  pub counts : Counts
  pub printed : Appends old new (counts_line counts)
