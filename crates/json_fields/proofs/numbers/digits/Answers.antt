use Rattle.std.proofs.Common.{◌≡◌, ◌≤◌, ◌<◌, length, get_or, true, refl, arith}
use Rattle.std.specs.Char.{is_ascii_digit}
use Rattle.json_fields.proofs.Digits.{one_more, few_so_far, number_so_far, digit_within}
use Rattle.json_fields.proofs.numbers.digits.Goals as goal

pub loop-byte-init : goal.loop-byte-init
loop-byte-init c = (tt, refl)

pub overflow_mul-value : goal.overflow_mul-value
overflow_mul-value c =
    let bs = c.as_bytes-bytes.result.now in
    let i = c.loop-byte.byte-index in
    let few : i ≤ 17 = omega (arith, c.if-bytes-gt-MOST_DIGITS.false) in
    omega (arith, few_so_far bs i c.loop-byte.value few (omega arith) c.loop-byte.invariant)

pub overflow_add-value : goal.overflow_add-value
overflow_add-value c =
    let bs = c.as_bytes-bytes.result.now in
    let i = c.loop-byte.byte-index in
    let few : i ≤ 17 = omega (arith, c.if-bytes-gt-MOST_DIGITS.false) in
    let known : is_ascii_digit (get_or bs i 0) ≡ true = grind arith in
    let within = digit_within (get_or bs i 0) known in
    omega (
      arith,
      within.0,
      within.1,
      few_so_far bs i c.loop-byte.value few (omega arith) c.loop-byte.invariant,
    )

pub loop-byte-preserved : goal.loop-byte-preserved
loop-byte-preserved c =
    let bs = c.as_bytes-bytes.result.now in
    let i = c.loop-byte.byte-index in
    let b = get_or bs i 0 in
    let known : is_ascii_digit b ≡ true = grind arith in
    let within = digit_within b known in
    one_more bs i c.loop-byte.value b (omega arith) refl within.0 within.1 c.loop-byte.invariant

pub returns : goal.returns
returns c =
    let bs = c.as_bytes-bytes.result.now in
    let some : 0 < length bs = grind (arith, c.is_empty.ensures, c.if-is_empty.false) in
    let few : length bs ≤ 18 = omega (arith, c.if-bytes-gt-MOST_DIGITS.false) in
    search (
      number_so_far bs c.loop-byte.byte-index c.loop-byte.value some few (omega arith)
          c.loop-byte.invariant,
      c.as_bytes-bytes.ensures,
    )
