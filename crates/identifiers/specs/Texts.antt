-- Which texts are names.
use Rattle.std.specs.Prelude.{ℕ, ◌&&◌, ◌==◌, List, length, Bool, nat_eq, nat_le}
use Rattle.std.specs.List.{list_all}
use Rattle.std.specs.Cmp.Lexicographic.{pointwise}

-- a byte from 0x21 to 0x7E: a letter, a digit or a sign of ASCII, and no space
abbrev pub is_visible : ℕ → Bool
is_visible b = nat_le 33 b && nat_le b 126

-- a byte from '0' to '9'
abbrev pub is_digit : ℕ → Bool
is_digit b = nat_le 48 b && nat_le b 57

-- the name of a session (Session-Id, RFC 6733 section 8.8; 1 to 128 visible bytes: profile)
-- rule: names: which texts are names
abbrev pub is_session_id : List ℕ → Bool
is_session_id s = nat_le 1 (length s) && nat_le (length s) 128 && list_all is_visible s

-- the number of an account: 1 to 15 digits (E.164)
-- rule: names
abbrev pub is_account_number : List ℕ → Bool
is_account_number s = nat_le 1 (length s) && nat_le (length s) 15 && list_all is_digit s

-- the reference of a credit or a redemption: 1 to 64 visible bytes (profile)
-- rule: names
abbrev pub is_reference : List ℕ → Bool
is_reference s = nat_le 1 (length s) && nat_le (length s) 64 && list_all is_visible s

-- the code of a voucher: 12 digits (profile)
abbrev pub is_voucher_code : List ℕ → Bool
is_voucher_code s = (length s == 12) && list_all is_digit s

-- the URL of a redirection: 1 to 200 visible bytes (Redirect-Server-Address, RFC 8506 section 8.39;
-- profile)
abbrev pub is_redirect_address : List ℕ → Bool
is_redirect_address s = nat_le 1 (length s) && nat_le (length s) 200 && list_all is_visible s

-- two names are the same byte by byte
abbrev pub same_name : List ℕ → List ℕ → Bool
same_name = pointwise nat_eq
