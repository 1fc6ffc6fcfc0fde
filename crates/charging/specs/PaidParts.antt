-- The parts of what pays for a use, each by itself, as lemmas speak of them. The definitions of
-- `Paid` compute to these.
-- Source: profile.
use Rattle.std.specs.Prelude.{Bool, List, None, Option, Some, [], false, if◌then◌else◌, ◌==◌, ◌∷◌}
use Rattle.buckets.specs.Words.{BucketAmount, BucketNumber}
use Rattle.buckets.specs.declared.kind.BucketKind.{BucketKind}
use Rattle.buckets.specs.Kinds.{is_alike}
use Rattle.buckets.specs.Row.{BucketRow}
use Rattle.ledger.specs.Ledger.{Fact, Ledger, UseOf, counts, number_of, GrantOf, tells, Dated}
use Rattle.ledger.specs.Ledger.{counter}
use Rattle.ledger.specs.Balance.{credits}
use Rattle.charging.specs.Paid.{Report, before_charges, is_touched, OpenGrant, with_services}
use Rattle.buckets.specs.declared.kind.BucketKind.TheVariants as kind
use Rattle.commands.specs.declared.request.Ask.{Ask}
use Rattle.commands.specs.declared.request.Ask.TheVariants as ask
use Rattle.identifiers.specs.Words.{SessionName}
use Rattle.shelves.specs.Shelves.{Shelf}
use Rattle.units.specs.Words.{Moment, GroupId}
use Rattle.units.specs.declared.blocks.UsedPart.{UsedPart}

-- what buckets count, by their numbers
abbrev pub kind_in : BucketNumber → List BucketRow → Option BucketKind
kind_in n [] = None
kind_in n (c ∷ cs) = if c.number == n then Some c.kind else kind_in n cs

abbrev pub is_of : BucketKind → Option BucketKind → Bool
is_of kind None = false
is_of kind (Some k) = is_alike k kind

-- what a charge takes of a bucket of a kind, in its unit
abbrev pub taken_by : BucketKind → Fact → Ledger → BucketAmount
taken_by kind f older =
    number_of (λ c. if is_of kind (kind_in c.bucket (credits older)) then c.amount else 0)
    (counts f).charge

abbrev pub without_last : List Report → List Report
without_last [] = []
without_last (r ∷ older) = older

-- the reports before a fact: without the last one where the fact is its use
abbrev pub reports_without : Option UseOf → Ledger → List Report → List Report
reports_without None older reports = reports
reports_without (Some u) older reports =
    if is_touched u.session (before_charges older) then without_last reports else reports

-- a group that is named without a part is not reported
abbrev pub with_report : Moment → SessionName → GroupId → List UsedPart → List Report → List Report
with_report t s g parts reports = by_parts parts
  where
    by_parts : List UsedPart → List Report
    by_parts [] = reports
    by_parts (p ∷ ps) = record { at = t; session = s; group = g; parts = p ∷ ps } ∷ reports

-- updates and terminations report
abbrev pub with_ask : Shelf → Moment → SessionName → Ask → List Report → List Report
with_ask b t s x reports = by_ask x
  where
    by_ask : Ask → List Report
    by_ask (ask.Update services) = with_services b t s services reports
    by_ask (ask.Termination services) = with_services b t s services reports
    by_ask _ = reports

abbrev pub quota_by : GrantOf → OpenGrant
quota_by x = record { units = x.units; counter = x.counter }

abbrev pub grant_told : SessionName → GroupId → Dated → Option (Option OpenGrant)
grant_told s g d = tells quota_by s g d
