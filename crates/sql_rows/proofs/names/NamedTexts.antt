-- Names are texts of characters, since their bytes are of ASCII.
use Rattle.std.proofs.Common.{◌≡◌, ◌<◌, ◌&&◌, ℕ, List, Bool, true, IsTrue, arith, length}
use Rattle.std.specs.Prelude.{nat_le, slice_index_or}
use Rattle.std.specs.List.{list_all}
use Rattle.std.specs.Str.{IsUtf8}
use Rattle.std.proofs.lemmas.Bool.{and_parts}
use Rattle.std.proofs.lemmas.Bool.Decides.{nat_tests}
use Rattle.std.proofs.lemmas.List.Sums.{AllPass-from_list_all}
use Rattle.std.proofs.lemmas.Str.{IsUtf8-from_ascii}
use Rattle.std.proofs.lemmas.Str.Ascii.{IsAscii-from_all}
use Rattle.identifiers.specs.Texts.{is_account_number, is_digit, is_session_id, is_visible}

low_bytes : (p : ℕ → Bool) → ((b : ℕ) → p b ≡ true → b < 128) → (s : List ℕ)
    → list_all p s ≡ true → IsUtf8 s
low_bytes p low s all =
    IsUtf8-from_ascii s (IsAscii-from_all s (λ k d less.
    low (slice_index_or s k d) (AllPass-from_list_all p s all k d less)))

digit_low : (b : ℕ) → is_digit b ≡ true → b < 128
digit_low b h =
    let high = (and_parts (nat_le 48 b) (nat_le b 57) h).1 in grind (arith, nat_tests, high)

visible_low : (b : ℕ) → is_visible b ≡ true → b < 128
visible_low b h =
    let high = (and_parts (nat_le 33 b) (nat_le b 126) h).1 in grind (arith, nat_tests, high)

pub account_utf8 : (s : List ℕ) → IsTrue (is_account_number s) → IsUtf8 s
account_utf8 s is =
    low_bytes is_digit digit_low s
    (and_parts (nat_le 1 (length s) && nat_le (length s) 15) (list_all is_digit s) is).1

pub session_utf8 : (s : List ℕ) → IsTrue (is_session_id s) → IsUtf8 s
session_utf8 s is =
    low_bytes is_visible visible_low s
    (and_parts (nat_le 1 (length s) && nat_le (length s) 128) (list_all is_visible s) is).1
