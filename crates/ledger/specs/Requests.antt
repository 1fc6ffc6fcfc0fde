-- What accepted requests and credits add to the ledger, beside what their services add.
-- Source: RFC 8506 sections 5.2 to 5.4 and 8.2.
use Rattle.std.specs.Prelude.{Bool, ◌∷◌, Option}
use Rattle.units.specs.Words.{Moment, GroupId, CcRequestNumber}
use Rattle.identifiers.specs.Words.{SessionName}
use Rattle.buckets.specs.Words.{BucketAmount}
use Rattle.buckets.specs.declared.kind.BucketKind.{BucketKind}
use Rattle.ledger.specs.Ledger.{Ledger, next_bucket}
use Rattle.ledger.specs.Ledger.Fact.{Credit, Touch, Close, Recorded, Barred}

-- a session's request is recorded
-- rule: recorded
abbrev pub recorded : Moment → SessionName → CcRequestNumber → Ledger → Ledger
recorded t s number ledger = record { at = t; fact = Recorded s number } ∷ ledger

-- a session is touched: a request of it is accepted while it lives, or opens it
-- rule: recorded: a session touched, a request recorded, a session closed
abbrev pub touched : Moment → SessionName → CcRequestNumber → Ledger → Ledger
touched t s number ledger =
    record { at = t; fact = Recorded s number } ∷ record { at = t; fact = Touch s } ∷ ledger

-- a session ends: all its reservations are over
-- rule: recorded
abbrev pub closed : Moment → SessionName → Ledger → Ledger
closed t s ledger = record { at = t; fact = Close s } ∷ ledger

-- a bucket is made, under the next number
-- rule: credit, allowance
abbrev pub credited : Moment → BucketKind → Moment → Moment → Option GroupId → BucketAmount →
    Ledger → Ledger
credited t kind from until scope amount ledger =
    record {
      at = t;
      fact = Credit (record {
        kind = kind;
        number = next_bucket ledger;
        from = from;
        until = until;
        scope = scope;
        amount = amount;
      });
    } ∷ ledger

-- the account is barred, or no longer
abbrev pub with_bar : Moment → Bool → Ledger → Ledger
with_bar t barred ledger = record { at = t; fact = Barred barred } ∷ ledger
