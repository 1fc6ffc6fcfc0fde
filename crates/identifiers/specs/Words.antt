-- What the texts of definitions name, each byte by byte.
use Rattle.std.specs.Prelude.{ℕ, List}

-- a session (Session-Id, RFC 6733 section 8.8)
abbrev pub SessionName : Type 0
SessionName = List ℕ

-- an account, by its number (E.164)
abbrev pub AccountName : Type 0
AccountName = List ℕ

-- a credit, an allowance or a redemption, by its reference
abbrev pub ReferenceName : Type 0
ReferenceName = List ℕ

-- a voucher, by its code
abbrev pub VoucherCode : Type 0
VoucherCode = List ℕ
