-- Vouchers over a run: what is under a code, and how often it was redeemed.
-- Source: profile.
use Rattle.std.specs.Prelude.{◌≡◌, ℕ, ◌+◌, ◌≤◌, Bool, true, false, if◌then◌else◌, List, [], ◌∷◌}
use Rattle.std.specs.Prelude.{◌++◌, None}
use Rattle.units.specs.Words.{Moment}
use Rattle.identifiers.specs.Words.{VoucherCode}
use Rattle.identifiers.specs.Texts.{same_name}
use Rattle.commands.specs.declared.command.Command.{Command}
use Rattle.voucher_rules.specs.Standing.{is_spent}
use Rattle.voucher_rules.specs.Histories.{VoucherCommand, Adds, Redeems, with_commands}
use Rattle.shelves.specs.Shelves.{Shelf}
use Rattle.charging.specs.Accepted.{Accepted, CodeUse, about, adds_code, redeems_code, no_code}
use Rattle.charging.specs.declared.running.DatedCommand.{DatedCommand}
use Rattle.charging.specs.Outcomes.{book_days}
use Rattle.charging.specs.Served.{voucher}
use Rattle.charging.specs.Runs.{after_commands}

abbrev pub voucher_asked : CodeUse → Moment → List VoucherCommand
voucher_asked (adds_code code terms) t = Adds code terms ∷ []
voucher_asked (redeems_code code account) t = Redeems code account t ∷ []
voucher_asked no_code t = []

-- what a command asks of vouchers
abbrev pub voucher_command : Command → Moment → List VoucherCommand
voucher_command c t = voucher_asked (about c).code t

-- what accepted commands ask of them, the first of them first
-- rule: redeemed-once.voucher-commands: what a run leaves under a code is what its additions and
--   redemptions leave
abbrev pub voucher_commands : List Accepted → List VoucherCommand
voucher_commands [] = []
voucher_commands (d ∷ before) = voucher_commands before ++ voucher_command d.command d.moment

-- what is under a code is what these leave of it: what is redeemed over one account's history
-- and what is redeemed at all is known by the same list
-- rule: redeemed-once.voucher-commands
abbrev pub IsLeftByThese : Type 0
IsLeftByThese = (b : Shelf) (list : List Accepted) (code : VoucherCode) →
    voucher b code list ≡ with_commands (book_days b) (voucher_commands list) (λ k. None) code

abbrev pub is_redeemed : VoucherCode → CodeUse → Bool
is_redeemed code (adds_code added terms) = false
is_redeemed code (redeems_code redeemed account) = same_name redeemed code
is_redeemed code no_code = false

-- a command redeems this code, for whichever account
abbrev pub is_redemption : VoucherCode → Command → Bool
is_redemption code c = is_redeemed code (about c).code

-- how often accepted commands redeem it
-- rule: redeemed-once.redemption-count: a code is redeemed at most once in any run
abbrev pub redemption_count : VoucherCode → List Accepted → ℕ
redemption_count code [] = 0
redemption_count code (d ∷ before) =
    (if is_redemption code d.command then 1 else 0) + redemption_count code before

-- in a run, from whichever commands on, it is redeemed once more at most, and not at all where the
-- voucher that is under it is spent
-- rule: redeemed-once.redemption-count
pub record AreRedeemedOnce (b : Shelf) (code : VoucherCode) (list : List Accepted)
    (ds : List DatedCommand) : Type 0 where
  pub once : redemption_count code (after_commands b list ds) ≤ redemption_count code list + 1
  pub never : is_spent (voucher b code list) ≡ true →
      redemption_count code (after_commands b list ds) ≡ redemption_count code list

-- so from nothing on at most once
-- rule: redeemed-once.redemption-count
abbrev pub IsRedeemedAtMostOnce : Type 0
IsRedeemedAtMostOnce = (b : Shelf) (code : VoucherCode) (ds : List DatedCommand) →
    redemption_count code (after_commands b [] ds) ≤ 1
