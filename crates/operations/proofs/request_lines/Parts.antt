-- A line and the moment before its first space.
use Rattle.std.proofs.Common.{◌≡◌, ℕ, ◌<◌, Bool, true, false, List, length, refl, sym, Option, Some}
use Rattle.std.proofs.Common.{None, option_map, arith}
use Rattle.std.specs.Prelude.{if◌then◌else◌, ◌&&◌, ◌==◌, nat_lt}
use Rattle.std.specs.List.{before_first, position_or_len}
use Rattle.std.specs.Str.{is_utf8, IsUtf8}
use Rattle.std.proofs.lemmas.Str.{IsUtf8-from_is_utf8, is_utf8-from_IsUtf8}
use Rattle.std.proofs.lemmas.Bool.Decides.{nat_tests}
use Rattle.operator.specs.declared.dated.DatedLine.{DatedLine}
use Rattle.operator.specs.Lines.{moment_said, IsDated}
use Rattle.operations.specs.Lines.{line_moment}

-- bytes that aren't UTF-8 have none
pub unread : (line : List ℕ) → (IsUtf8 line → ⊥) → None ≡ line_moment line
unread line not_utf8 = at (is_utf8 line) refl
  where
    at : (b : Bool) → is_utf8 line ≡ b →
        None ≡ (if b && nat_lt (position_or_len (λ c. c == 32) line) (length line)
        then moment_said (before_first (λ c. c == 32) line) else None)
    at true e = absurd (not_utf8 (IsUtf8-from_is_utf8 line e))
    at false e = refl

lt_true : (a b : ℕ) → a < b → nat_lt a b ≡ true
lt_true a b h = grind (arith, nat_tests)

lt_from : (a b : ℕ) → nat_lt a b ≡ true → a < b
lt_from a b h = grind (arith, nat_tests)

-- a dated line has its moment, another none
pub dated : (line : List ℕ) (o : Option DatedLine) → IsUtf8 line → IsDated line o →
    option_map (λ d. d.moment) o ≡ line_moment line
dated line (Some d) u h = sym (rw (
  is_utf8-from_IsUtf8 line u,
  lt_true (position_or_len (λ c. c == 32) line) (length line) h.0,
) h.1)
dated line None u h = rw (is_utf8-from_IsUtf8 line u)
    (at (nat_lt (position_or_len (λ c. c == 32) line) (length line)) refl)
  where
    at : (b : Bool) → nat_lt (position_or_len (λ c. c == 32) line) (length line) ≡ b →
        None ≡ (if b then moment_said (before_first (λ c. c == 32) line) else None)
    at true e = sym (h (lt_from (position_or_len (λ c. c == 32) line) (length line) e))
    at false e = refl
