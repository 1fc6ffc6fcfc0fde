use Rattle.std.proofs.Common.{take, drop, subst, length, ◌≡◌, rules}
use Rattle.std.specs.Io.BufRead.{FillKeeps}
use Rattle.std.proofs.BufReadLemmas.{Consumes_shown}
use Rattle.http_messages.proofs.Shown.{is_alone, none_shown}
use Rattle.http_messages.proofs.head_part.take_shown.Goals as goal

pub returns-clause-taken : goal.returns-clause-taken
returns-clause-taken g c =
    let shown = c.in-Ok.shown.now in
    let length = c.in-Some.length in
    let rested = c.fill_buf.follows.lender-at-none in
    let filled = subst
    (FillKeeps _ (g.R.Read.remaining rested) (g.R.BufRead.consumable_len rested))
    c.in-Ok.is c.fill_buf.follows.holds-at-none in
    let moved = Consumes_shown _ _ _ _ shown length c.in-Some.ensures.within
    c.in-Ok.ensures.front c.in-Ok.ensures.end filled.0 filled.1 c.consume.ensures.bytes in
    λ _. record {
      part = take length shown;
      is_head = is_alone shown (take length shown) (drop length shown) c.in-Some.ensures.some;
      joined = c.in_ok-extend_from_slice.ensures.items;
      taken = moved.0;
    }

pub returns-then-is_empty-clause-end : goal.returns-then-is_empty-clause-end
returns-then-is_empty-clause-end g c =
    let none : length c.in-Ok.shown.now ≡ 0 = search rules in
    λ _. none_shown (g.R.Read.remaining c.args.reader.now) c.in-Ok.shown.now c.in-Ok.ensures.end none
