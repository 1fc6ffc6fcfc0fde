-- What the numbers of definitions are, and the greatest of them.
use Rattle.std.specs.Prelude.{ℕ}

-- ---- time

-- seconds since 1970-01-01 00:00 UTC
abbrev pub Moment : Type 0
Moment = ℕ

-- how long something lasts, in seconds
abbrev pub Seconds : Type 0
Seconds = ℕ

-- a number of civil days
abbrev pub DayCount : Type 0
DayCount = ℕ

-- a cycle of a counter, which may be a civil day or a civil month, in the order of time
abbrev pub CycleNumber : Type 0
CycleNumber = ℕ

-- ---- what is counted

-- units of a service: seconds, octets or those of the service (Granted-Service-Unit, RFC 8506
-- section 8.17)
abbrev pub UnitCount : Type 0
UnitCount = ℕ

-- blocks of a rating group's units
abbrev pub BlockCount : Type 0
BlockCount = ℕ

-- a place on a rating group's counter: so many blocks are counted up to it
abbrev pub Place : Type 0
Place = ℕ

-- money, in micro-units of a currency
abbrev pub Micros : Type 0
Micros = ℕ

-- ---- what is numbered

-- a rating group (Rating-Group, RFC 8506 section 8.29)
abbrev pub GroupId : Type 0
GroupId = ℕ

-- a tariff period, by its place among those of its book
abbrev pub PeriodNumber : Type 0
PeriodNumber = ℕ

-- a tariff book, by its place on the shelf, from 1 on
abbrev pub BookNumber : Type 0
BookNumber = ℕ

-- a request of a session (CC-Request-Number, RFC 8506 section 8.2)
abbrev pub CcRequestNumber : Type 0
CcRequestNumber = ℕ

-- a currency (ISO 4217)
abbrev pub CurrencyNumber : Type 0
CurrencyNumber = ℕ

-- ---- the greatest numbers (profile)

-- what ends here has no end: moments of commands are before it
abbrev pub no_end : Moment
no_end = 4_102_444_800

-- of a command, and of what begins
abbrev pub latest_command : Moment
latest_command = 4_102_444_799

-- of all: a civil day or a validity time may end so much after `no_end`
abbrev pub latest_moment : Moment
latest_moment = 4_102_488_000

-- of a rating group, a bucket, a charge or a request
abbrev pub greatest_number : ℕ
greatest_number = 4_294_967_295

-- the number after it: once it is the next, all are given
abbrev pub end_of_numbers : ℕ
end_of_numbers = 4_294_967_296

-- of CC-Time and Validity-Time: both are of 32 bits (RFC 8506 sections 8.21 and 8.33)
abbrev pub most_seconds : Seconds
most_seconds = 4_294_967_295

-- of the validity time of a tariff book: twelve hours
abbrev pub longest_validity : Seconds
longest_validity = 43_200

-- how far the civil time of a zone may be from UTC, in minutes: fourteen hours
abbrev pub widest_offset : ℕ
widest_offset = 840

-- of a voucher: how long what it gives can be used
abbrev pub most_days : DayCount
most_days = 3650

-- of a currency (ISO 4217)
abbrev pub greatest_currency : CurrencyNumber
greatest_currency = 999

-- of a credit, a voucher, a refund
abbrev pub most_money : Micros
most_money = 1_000_000_000_000_000

-- of a block
abbrev pub greatest_price : Micros
greatest_price = 1_000_000_000

-- what a session may use of a rating group
abbrev pub most_used : UnitCount
most_used = 1_000_000_000_000_000_000

-- of a block, a slice or a grant, as a tariff has them
abbrev pub most_granted : UnitCount
most_granted = 1_000_000_000_000_000

-- of an allowance, and what one use or one event may start
abbrev pub most_blocks : BlockCount
most_blocks = 1_000_000_000

-- what a counter may count
abbrev pub most_counted : BlockCount
most_counted = 4_000_000_000_000_000_000

-- ---- the greatest numbers of the machine

-- of 16 bits
abbrev pub most_of_16_bits : ℕ
most_of_16_bits = 65_535

-- of 64 bits
abbrev pub most_of_64_bits : ℕ
most_of_64_bits = 18_446_744_073_709_551_615
