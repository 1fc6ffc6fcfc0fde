-- Blocks of units.
-- Source: RFC 8506 section 8.17 (granted and used units); TS 32.296, rating function; that a
-- started block is priced once: profile.
use Rattle.std.specs.Prelude.{◌≡◌, ◌+◌, ◌%◌, ◌<◌, ◌==◌, if◌then◌else◌}
use Prim.Native.Nat.{zero, suc}
use Rattle.units.specs.Words.{UnitCount, BlockCount}

-- the blocks that a use starts: the multiples of the block's size that are at least the use before
-- and less than the use after, counted one by one
-- rule: blocks: blocks started
abbrev pub started : UnitCount → UnitCount → UnitCount → BlockCount
started before zero block = 0
started before (suc units) block =
    started before units block + (if (before + units) % block == 0 then 1 else 0)

-- the law of cutting: a use in two parts starts what it starts as one
-- rule: cutting: a report in two parts starts the same blocks
abbrev pub CutsAlike : Type 0
CutsAlike =
    (before one two block : UnitCount) → 0 < block →
    started before (one + two) block
    ≡ started before one block + started (before + one) two block
