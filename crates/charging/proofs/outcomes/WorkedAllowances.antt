-- Allowances as commands, computed from the definitions: what each comes to on the history of an
-- account with a credit of 1,000,000 micro-units under the reference "c1", over a book with the
-- rating group 10 and a later one, from a Tuesday 00:00 on, which brings the group 30.
use Rattle.std.proofs.Common.{◌≡◌, ℕ, true, List, [], ◌∷◌, refl, Option, None, Some}
use Rattle.calendar.specs.Clock.{always}
use Rattle.calendar.specs.declared.week.Entry.{Entry}
use Rattle.calendar.specs.declared.cycle.Cycle.TheVariants as cycle
use Rattle.units.specs.declared.blocks.UnitKind.TheVariants.{Time}
use Rattle.tariffs.specs.Books.{Book}
use Rattle.tariffs.specs.Tariffs.{GroupTariff}
use Rattle.tariffs.specs.declared.final_action.FinalAction.TheVariants.{Terminate}
use Rattle.shelves.specs.Shelves.{Shelf}
use Rattle.buckets.specs.declared.kind.BucketKind.TheVariants.{Money, Blocks}
use Rattle.commands.specs.declared.allowance.Allowance.{Allowance}
use Rattle.commands.specs.declared.answer.Answer.TheVariants as answer
use Rattle.commands.specs.declared.answer.Refusal.{Refusal}
use Rattle.commands.specs.declared.answer.Refusal.TheVariants.{AccountUnknown, ContentDiffers}
use Rattle.commands.specs.declared.answer.Refusal.TheVariants.{OutOfRange, ScopeUnknown}
use Rattle.commands.specs.declared.command.Command.{Command}
use Rattle.commands.specs.declared.command.Command.TheVariants as command
use Rattle.commands.specs.declared.command.Content.TheVariants as content
use Rattle.commands.specs.declared.command.Credit.{Credit}
use Rattle.ledger.specs.Ledger.{Ledger, Fact as fact, Fact}
use Rattle.charging.specs.Histories.{History, no_history}
use Rattle.charging.specs.Accepted.{CommandOutcome}
use Rattle.charging.specs.Outcomes.{only_told, done, outcome}
use Rattle.buckets.specs.declared.kind.BucketKind.{BucketKind}

abbrev tariff : ℕ → GroupTariff
tariff group = record {
  group = group;
  unit = Time;
  block = 60;
  slice = 600;
  max_grant = 3600;
  cycle = cycle.None;
  final_action = Terminate;
  prices = (record { upto = None; price = 50000 } ∷ []) ∷ [];
}

abbrev each_day : Entry
each_day = record {
  period = record { 0 = 0 };
  days = true ∷ true ∷ true ∷ true ∷ true ∷ true ∷ true ∷ [];
  from = 0;
  to = 1440;
}

abbrev book : List GroupTariff → Book
book tariffs = record {
  zone_text = 43 ∷ 48 ∷ 48 ∷ 58 ∷ 48 ∷ 48 ∷ [];
  calendar = record { zone = always 86400; entries = each_day ∷ [] };
  currency = 978;
  validity = 3600;
  periods = (111 ∷ 102 ∷ 102 ∷ []) ∷ [];
  tariffs = tariffs;
}

abbrev shelf : Shelf
shelf = record {
  first = book (tariff 10 ∷ []);
  later = record { from = 1767657600; book = book (tariff 10 ∷ tariff 30 ∷ []) } ∷ [];
}

-- "49151"
abbrev number : List ℕ
number = 52 ∷ 57 ∷ 49 ∷ 53 ∷ 49 ∷ []

-- "c1", "a1" and "a2"
abbrev c1 : List ℕ
c1 = 99 ∷ 49 ∷ []

abbrev a1 : List ℕ
a1 = 97 ∷ 49 ∷ []

abbrev a2 : List ℕ
a2 = 97 ∷ 50 ∷ []

abbrev credit : List ℕ → Credit
credit reference = record {
  account = number;
  amount = 1000000;
  from = None;
  until = None;
  scope = None;
  reference = reference;
}

abbrev allowance : (blocks : ℕ) (until : Option ℕ) (group : ℕ) (reference : List ℕ) → Allowance
allowance blocks until group reference = record {
  account = number;
  blocks = blocks;
  from = None;
  until = until;
  scope = group;
  reference = reference;
}

-- a bucket that is made at a moment, with no end
abbrev made : BucketKind → ℕ → ℕ → Option ℕ → ℕ → Fact
made kind number from scope amount = fact.Credit (record {
  kind = kind;
  number = number;
  from = from;
  until = 4102444800;
  scope = scope;
  amount = amount;
})

-- credited at 00:00 of a Monday
abbrev paid : Ledger
paid =
    record { at = 1767571200; fact = made Money 1 1767571200 None 1000000 } ∷ []

abbrev with_credit : History
with_credit = record {
  opened = true;
  ledger = paid;
  kept = record { content = content.Credit (credit c1); answer = answer.Bucket 1 } ∷ [];
}

-- and given three blocks of the group 10 a minute later
abbrev with_blocks : History
with_blocks = record {
  opened = true;
  ledger =
      record { at = 1767571260; fact = made Blocks 2 1767571260 (Some 10) 3 }
      ∷ paid;
  kept =
      record { content = content.Allow (allowance 3 None 10 a1); answer = answer.Bucket 2 }
      ∷ with_credit.kept;
}

abbrev comes_to : History → Command → ℕ → CommandOutcome
comes_to h c t = outcome shelf None h c t

abbrev refused : Refusal → History → CommandOutcome
refused refusal h = only_told (answer.Refused refusal) h

-- ---- given once

given : comes_to with_credit (command.Allow (allowance 3 None 10 a1)) 1767571260
    ≡ done (answer.Bucket 2) with_blocks
given = refl

given_again : comes_to with_blocks (command.Allow (allowance 3 None 10 a1)) 1767571320
    ≡ only_told (answer.Bucket 2) with_blocks
given_again = refl

-- ---- refused

no_account : comes_to no_history (command.Allow (allowance 3 None 99 a1)) 1767571260
    ≡ refused AccountUnknown no_history
no_account = refl

other_blocks : comes_to with_blocks (command.Allow (allowance 4 None 10 a1)) 1767571320
    ≡ refused ContentDiffers with_blocks
other_blocks = refl

-- a reference that is kept is reported before all else that is wrong
other_group : comes_to with_blocks (command.Allow (allowance 3 (Some 1) 99 a1)) 1767571320
    ≡ refused ContentDiffers with_blocks
other_group = refl

-- credits and allowances have their references among the same names
of_credit : comes_to with_blocks (command.Allow (allowance 3 None 10 c1)) 1767571320
    ≡ refused ContentDiffers with_blocks
of_credit = refl

of_allowance : comes_to with_blocks (command.Credit (credit a1)) 1767571320
    ≡ refused ContentDiffers with_blocks
of_allowance = refl

-- one that is over is reported before its group
over : comes_to with_blocks (command.Allow (allowance 3 (Some 1767571320) 99 a2)) 1767571320
    ≡ refused OutOfRange with_blocks
over = refl

no_group : comes_to with_blocks (command.Allow (allowance 3 None 99 a2)) 1767571320
    ≡ refused ScopeUnknown with_blocks
no_group = refl

-- ---- by the book at the moment

before_the_book : comes_to with_blocks (command.Allow (allowance 1 None 30 a2)) 1767657599
    ≡ refused ScopeUnknown with_blocks
before_the_book = refl

under_the_book : comes_to with_blocks (command.Allow (allowance 1 None 30 a2)) 1767657600
    ≡ done (answer.Bucket 3)
    (record {
      opened = true;
      ledger =
          record { at = 1767657600; fact = made Blocks 3 1767657600 (Some 30) 1 }
          ∷ with_blocks.ledger;
      kept =
          record { content = content.Allow (allowance 1 None 30 a2); answer = answer.Bucket 3 }
          ∷ with_blocks.kept;
    })
under_the_book = refl
