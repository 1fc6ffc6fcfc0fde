-- Worked cases, computed from the definitions: a book with seconds at 50,000 micro-units a minute,
-- 100,000 on weekdays from 08:00 to 20:00, and octets in blocks of 1,048,576, of which the first
-- 100 of a month are free.
use Rattle.std.proofs.Common.{◌≡◌, ℕ, Bool, true, false, List, [], ◌∷◌, refl, Option, None, Some}
use Rattle.calendar.specs.Clock.{always}
use Rattle.calendar.specs.Timetable.{minutes_from, switch_within}
use Rattle.calendar.specs.declared.week.Entry.{Entry}
use Rattle.calendar.specs.declared.cycle.Cycle.TheVariants as cycle
use Rattle.units.specs.declared.blocks.UsedPart.{UsedPart}
use Rattle.units.specs.declared.blocks.UnitKind.TheVariants.{Time, TotalOctets}
use Rattle.units.specs.declared.blocks.TariffChangeUsage.{TariffChangeUsage}
use Rattle.units.specs.declared.blocks.TariffChangeUsage.TheVariants.{UnitBeforeTariffChange}
use Rattle.units.specs.declared.blocks.TariffChangeUsage.TheVariants.{UnitAfterTariffChange}
use Rattle.tariffs.specs.Books.{Book}
use Rattle.shelves.specs.Shelves.{Shelf}
use Rattle.tariffs.specs.Tariffs.{GroupTariff}
use Rattle.tariffs.specs.declared.final_action.FinalAction.TheVariants.{Terminate}
use Rattle.tariffs.specs.declared.tiers.Tier.{Tier}
use Rattle.rating.specs.Granted.{dearer, greatest_covered}
use Rattle.rating.specs.Rated.{rated_amount, report_blocks, report_amount}
use Rattle.buckets.specs.Row.{BucketRow}
use Rattle.buckets.specs.declared.kind.BucketKind.{BucketKind}
use Rattle.buckets.specs.declared.kind.BucketKind.TheVariants.{Money, Blocks}
use Rattle.ledger.specs.Ledger.{Fact, Ledger, used, is_live}
use Rattle.ledger.specs.Ledger.Fact.{Credit, Touch}
use Rattle.ledger.specs.Pricing.{switch_at, validity_at, validity_of}
use Rattle.ledger.specs.Balance.{buckets_at}
use Rattle.ledger.specs.Settlement.{settled_by, missing, report_price}
use Rattle.ledger.specs.Reservation.{reserved, grant_for, held_due}

abbrev week : List Bool
week = true ∷ true ∷ true ∷ true ∷ true ∷ false ∷ false ∷ []

abbrev weekend : List Bool
weekend = false ∷ false ∷ false ∷ false ∷ false ∷ true ∷ true ∷ []

abbrev entry : ℕ → List Bool → ℕ → ℕ → Entry
entry period days from to =
    record { period = record { 0 = period }; days = days; from = from; to = to }

abbrev flat : ℕ → List Tier
flat price = record { upto = None; price = price } ∷ []

abbrev octet_tiers : List Tier
octet_tiers = record { upto = Some 100; price = 0 } ∷ record { upto = None; price = 10000 } ∷ []

abbrev seconds : GroupTariff
seconds =
    record {
      group = 10;
      unit = Time;
      block = 60;
      slice = 600;
      max_grant = 3600;
      cycle = cycle.None;
      final_action = Terminate;
      prices = flat 50000 ∷ flat 100000 ∷ [];
    }

abbrev octets : GroupTariff
octets = record {
  group = 20;
  unit = TotalOctets;
  block = 1048576;
  slice = 10485760;
  max_grant = 1048576000;
  cycle = cycle.Month;
  final_action = Terminate;
  prices =
      octet_tiers ∷ octet_tiers ∷ [];
}

-- period 0 is "off", period 1 is "peak"
abbrev book : Book
book = record {
  zone_text = 43 ∷ 48 ∷ 48 ∷ 58 ∷ 48 ∷ 48 ∷ [];
  calendar =
      record {
        zone = always 86400;
        entries =
            entry 1 week 480 1200 ∷ entry 0 week 0 480 ∷ entry 0 week 1200 1440
            ∷ entry 0 weekend 0 1440
            ∷ [];
      };
  currency = 978;
  validity = 3600;
  periods = (111 ∷ 102 ∷ 102 ∷ []) ∷ (112 ∷ 101 ∷ 97 ∷ 107 ∷ []) ∷ [];
  tariffs = seconds ∷ octets ∷ [];
}

abbrev shelf : Shelf
shelf = record { first = book; later = [] }

-- "s3"
abbrev s : List ℕ
s = 115 ∷ 51 ∷ []

abbrev part : Option TariffChangeUsage → ℕ → UsedPart
part change n = record { units = record { 0 = n }; change = change }

abbrev report : ℕ → List UsedPart
report n = part None n ∷ []

-- a bucket that is made at 00:00 of a Monday
abbrev made : BucketKind → ℕ → ℕ → Option ℕ → ℕ → Fact
made kind number until scope amount = Credit (record {
  kind = kind;
  number = number;
  from = 1767571200;
  until = until;
  scope = scope;
  amount = amount;
})

-- an account with one of money, and opened
abbrev opened : ℕ → ℕ → Ledger
opened t credit =
    record { at = t; fact = Touch s }
    ∷ record { at = 1767571200; fact = made Money 1 4102444800 None credit } ∷ []

abbrev units_granted : ℕ → ℕ → ℕ → Ledger → ℕ
units_granted t g wanted ledger =
    (grant_for shelf t g (used s g ledger) (Some wanted) ledger).units.0

-- what is wanted is granted as far as the funds go
abbrev granted : ℕ → ℕ → ℕ → Ledger → Ledger
granted t g wanted ledger =
    reserved shelf t s g (units_granted t g wanted ledger)
    (held_due (grant_for shelf t g (used s g ledger) (Some wanted) ledger)) ledger

abbrev bucket : (number from until credited available reserved charged expired : ℕ) → BucketRow
bucket number from until credited available reserved charged expired =
    record {
      number = number;
      kind = Money;
      from = from;
      until = until;
      scope = None;
      credited = credited;
      available = available;
      reserved = reserved;
      charged = charged;
      expired = expired;
    }

-- ---- a switch within the validity

-- at 07:30 the dearer period begins in half an hour, and lasts
switched : switch_at shelf 1767598200 ≡ Some 1767600000
unfolding switch_within minutes_from
switched = refl

switched_validity : validity_at shelf 1767598200 ≡ 3600
unfolding switch_within minutes_from
switched_validity = refl

-- each of ten blocks is held at the dearer price
dearer_held : buckets_at (validity_of shelf) 1767598200
    (granted 1767598200 10 600 (opened 1767598200 1000000))
    ≡ bucket 1 1767571200 4102444800 1000000 0 1000000 0 0 ∷ []
unfolding switch_within minutes_from dearer greatest_covered
dearer_held = refl

-- five blocks before the switch, and two after it
switched_report : List UsedPart
switched_report = part (Some UnitBeforeTariffChange) 300 ∷ part (Some UnitAfterTariffChange) 90 ∷ []

switched_settled : buckets_at (validity_of shelf) 1767600300
    (settled_by shelf 1767600300 s 10 switched_report
    (record { at = 1767600300; fact = Touch s }
    ∷ granted 1767598200 10 600 (opened 1767598200 1000000)))
    ≡ bucket 1 1767571200 4102444800 1000000 550000 0 450000 0 ∷ []
unfolding switched_report switch_within minutes_from dearer greatest_covered rated_amount
    report_blocks report_amount
switched_settled = refl

-- ---- within the dearer period

-- 250,000 cover two of ten blocks
few_units : units_granted 1767607200 10 600 (opened 1767607200 250000) ≡ 120
unfolding switch_within minutes_from dearer greatest_covered
few_units = refl

few_held : buckets_at (validity_of shelf) 1767607200
    (granted 1767607200 10 600 (opened 1767607200 250000))
    ≡ bucket 1 1767571200 4102444800 250000 50000 200000 0 0 ∷ []
unfolding switch_within minutes_from dearer greatest_covered
few_held = refl

-- five blocks are used of them
few_missing : missing shelf 1767607500 s 10 (report 300)
    (granted 1767607200 10 600 (opened 1767607200 250000)) ≡ 250000
unfolding switch_within minutes_from dearer greatest_covered rated_amount report_blocks
    report_amount
few_missing = refl

few_settled : buckets_at (validity_of shelf) 1767607500
    (settled_by shelf 1767607500 s 10 (report 300)
    (granted 1767607200 10 600 (opened 1767607200 250000)))
    ≡ bucket 1 1767571200 4102444800 250000 0 0 250000 0 ∷ []
unfolding switch_within minutes_from dearer greatest_covered rated_amount report_blocks
    report_amount
few_settled = refl

-- 61 seconds of 600 start two blocks; of the 600 wanted then, the rest of the second is free
abbrev updated : Ledger
updated =
    settled_by shelf 1767607500 s 10 (report 61)
    (record { at = 1767607500; fact = Touch s }
    ∷ granted 1767607200 10 600 (opened 1767607200 1000000))

begun_units : units_granted 1767607500 10 600 updated ≡ 539
unfolding switch_within minutes_from dearer greatest_covered rated_amount report_blocks
    report_amount
begun_units = refl

begun_held : buckets_at (validity_of shelf) 1767607500 (granted 1767607500 10 600 updated)
    ≡ bucket 1 1767571200 4102444800 1000000 0 800000 200000 0 ∷ []
unfolding switch_within minutes_from dearer greatest_covered rated_amount report_blocks
    report_amount
begun_held = refl

begun_settled : buckets_at (validity_of shelf) 1767607560
    (settled_by shelf 1767607560 s 10 (report 59) (granted 1767607500 10 600 updated))
    ≡ bucket 1 1767571200 4102444800 1000000 800000 0 200000 0 ∷ []
unfolding switch_within minutes_from dearer greatest_covered rated_amount report_blocks
    report_amount
begun_settled = refl

-- two buckets are held in order; what is released after the first one's end is expired
abbrev two : Ledger
two = record { at = 1767571200; fact = made Money 2 4102444800 None 300000 }
    ∷ record { at = 1767571200; fact = made Money 1 1767607800 None 150000 } ∷ []

abbrev two_granted : Ledger
two_granted = granted 1767607200 10 180 (record { at = 1767607200; fact = Touch s } ∷ two)

two_held : buckets_at (validity_of shelf) 1767607200 two_granted
    ≡ bucket 1 1767571200 1767607800 150000 0 150000 0 0
    ∷ bucket 2 1767571200 4102444800 300000 150000 150000 0 0 ∷ []
unfolding switch_within minutes_from dearer greatest_covered
two_held = refl

two_settled : buckets_at (validity_of shelf) 1767608100
    (settled_by shelf 1767608100 s 10 (report 60) two_granted)
    ≡ bucket 1 1767571200 1767607800 150000 0 0 100000 50000
    ∷ bucket 2 1767571200 4102444800 300000 300000 0 0 0 ∷ []
unfolding switch_within minutes_from dearer greatest_covered rated_amount report_blocks
    report_amount
two_settled = refl

-- a session lives until two validity times after its last request, 1767614400; its reservation
-- lives as long
abbrev left_alone : Ledger
left_alone = granted 1767607200 10 600 (opened 1767607200 1000000)

left_alone_live : is_live (validity_of shelf) 1767614399 left_alone s ≡ true
unfolding switch_within minutes_from dearer greatest_covered
left_alone_live = refl

left_alone_held : buckets_at (validity_of shelf) 1767614399 left_alone
    ≡ bucket 1 1767571200 4102444800 1000000 0 1000000 0 0 ∷ []
unfolding switch_within minutes_from dearer greatest_covered
left_alone_held = refl

-- a request in its last second gets what its first one held
left_alone_again : units_granted 1767614399 10 600 (settled_by shelf 1767614399 s 10 [] left_alone)
    ≡ 600
unfolding switch_within minutes_from dearer greatest_covered
left_alone_again = refl

left_alone_over : is_live (validity_of shelf) 1767614400 left_alone s ≡ false
unfolding switch_within minutes_from dearer greatest_covered
left_alone_over = refl

left_alone_given_up : buckets_at (validity_of shelf) 1767614400 left_alone
    ≡ bucket 1 1767571200 4102444800 1000000 1000000 0 0 0 ∷ []
unfolding switch_within minutes_from dearer greatest_covered
left_alone_given_up = refl

-- ---- a second book, from Tuesday 00:00 on, in which a minute costs 60,000, and 120,000 by day

abbrev dearer_book : Book
dearer_book = record book {
  tariffs =
      record seconds { prices = flat 60000 ∷ flat 120000 ∷ [] } ∷ octets ∷ [];
}

abbrev two_books : Shelf
two_books = record {
  first = book;
  later = record { from = 1767657600; book = dearer_book } ∷ [];
}

abbrev granted_on : Shelf → ℕ → ℕ → Ledger → Ledger
granted_on shelf t wanted ledger =
    reserved shelf t s 10 (grant_for shelf t 10 (used s 10 ledger) (Some wanted) ledger).units.0
    (held_due (grant_for shelf t 10 (used s 10 ledger) (Some wanted) ledger)) ledger

-- five minutes before the second book begins, five minutes are held at the first one's price, and
-- its beginning is no switch
abbrev before_it : Ledger
before_it = granted_on two_books 1767657300 300 (opened 1767657300 1000000)

no_switch : switch_at two_books 1767657300 ≡ None
unfolding switch_within minutes_from
no_switch = refl

before_held : buckets_at (validity_of two_books) 1767657300 before_it
    ≡ bucket 1 1767571200 4102444800 1000000 750000 250000 0 0 ∷ []
unfolding switch_within minutes_from dearer greatest_covered
before_held = refl

-- a minute after it has begun they are settled at the first one's price, and five more held at the
-- second one's
abbrev after_it : Ledger
after_it = granted_on two_books 1767657660 300
    (record { at = 1767657660; fact = Touch s }
    ∷ settled_by two_books 1767657660 s 10 (report 300) before_it)

after_held : buckets_at (validity_of two_books) 1767657660 after_it
    ≡ bucket 1 1767571200 4102444800 1000000 450000 300000 250000 0 ∷ []
unfolding switch_within minutes_from dearer greatest_covered rated_amount report_blocks
    report_amount
after_held = refl

after_settled : buckets_at (validity_of two_books) 1767657700
    (settled_by two_books 1767657700 s 10 (report 300) after_it)
    ≡ bucket 1 1767571200 4102444800 1000000 450000 0 550000 0 ∷ []
unfolding switch_within minutes_from dearer greatest_covered rated_amount report_blocks
    report_amount
after_settled = refl

-- ---- allowances

abbrev allowance_row : (number until credited available reserved charged expired : ℕ) → BucketRow
allowance_row number until credited available reserved charged expired =
    record (bucket number 1767571200 until credited available reserved charged expired)
    { kind = Blocks; scope = Some 10 }

-- 1,000,000 and three blocks: of five blocks three are held of the allowance, two in money
abbrev allowed : Ledger
allowed =
    record { at = 1767607200; fact = Touch s }
    ∷ record { at = 1767571200; fact = made Blocks 2 4102444800 (Some 10) 3 }
    ∷ record { at = 1767571200; fact = made Money 1 4102444800 None 1000000 } ∷ []

allowed_units : units_granted 1767607200 10 300 allowed ≡ 300
unfolding switch_within minutes_from dearer greatest_covered
allowed_units = refl

allowed_held : buckets_at (validity_of shelf) 1767607200 (granted 1767607200 10 300 allowed)
    ≡ bucket 1 1767571200 4102444800 1000000 800000 200000 0 0
    ∷ allowance_row 2 4102444800 3 0 3 0 0 ∷ []
unfolding switch_within minutes_from dearer greatest_covered
allowed_held = refl

-- of four blocks used three are covered, and the fourth is paid
allowed_settled : buckets_at (validity_of shelf) 1767607500
    (settled_by shelf 1767607500 s 10 (report 240) (granted 1767607200 10 300 allowed))
    ≡ bucket 1 1767571200 4102444800 1000000 900000 0 100000 0
    ∷ allowance_row 2 4102444800 3 0 0 3 0 ∷ []
unfolding switch_within minutes_from dearer greatest_covered rated_amount report_blocks
    report_amount
allowed_settled = refl

-- no money, and two blocks until 10:10
abbrev two_blocks : Ledger
two_blocks =
    record { at = 1767607200; fact = Touch s }
    ∷ record { at = 1767571200; fact = made Blocks 1 1767607800 (Some 10) 2 } ∷ []

two_blocks_units : units_granted 1767607200 10 600 two_blocks ≡ 120
unfolding switch_within minutes_from dearer greatest_covered
two_blocks_units = refl

-- held blocks cover a report after their bucket's end; the third block is uncollected
two_blocks_missing : missing shelf 1767608100 s 10 (report 180)
    (granted 1767607200 10 600 two_blocks) ≡ 100000
unfolding switch_within minutes_from dearer greatest_covered rated_amount report_blocks
    report_amount
two_blocks_missing = refl

two_blocks_settled : buckets_at (validity_of shelf) 1767608100
    (settled_by shelf 1767608100 s 10 (report 180) (granted 1767607200 10 600 two_blocks))
    ≡ allowance_row 1 1767607800 2 0 0 2 0 ∷ []
unfolding switch_within minutes_from dearer greatest_covered rated_amount report_blocks
    report_amount
two_blocks_settled = refl

-- with one block used the other expires, and nothing is rated
one_block_price : (report_price shelf 1767608100 s 10 (report 60)
    (granted 1767607200 10 600 two_blocks)).amount.0 ≡ 0
unfolding switch_within minutes_from dearer greatest_covered rated_amount report_blocks
    report_amount
one_block_price = refl

one_block_settled : buckets_at (validity_of shelf) 1767608100
    (settled_by shelf 1767608100 s 10 (report 60) (granted 1767607200 10 600 two_blocks))
    ≡ allowance_row 1 1767607800 2 0 0 1 1 ∷ []
unfolding switch_within minutes_from dearer greatest_covered rated_amount report_blocks
    report_amount
one_block_settled = refl
