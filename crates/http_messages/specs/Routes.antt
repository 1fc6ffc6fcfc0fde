-- The routes, one after another: the path of each and its methods, its paths in words, and what is
-- asked by it. A route more is a line of each definition below.
-- Source: profile.
use Rattle.std.specs.Prelude.{◌≡◌, ◌<◌, Bool, List, [], ◌∷◌, ◌++◌, ◌||◌, length, false, codes}
use Rattle.std.specs.Prelude.{Result, Ok, Err, if◌then◌else◌}
use Rattle.texts.specs.StreamWords.{Bytes}
use Rattle.matchit.specs.Seek.{has_slash}
use Rattle.commands.specs.declared.command.Command.TheVariants as command
use Rattle.json_fields.specs.declared.fault.WireFault.{WireFault}
use Rattle.json_fields.specs.declared.fault.WireFault.TheVariants.{Invalid}
use Rattle.json_fields.specs.Gives.{◌>>=◌, or_fault}
use Rattle.commands.specs.declared.avp.Avp.TheVariants as avp
use Rattle.texts.specs.Months.{month_of}
use Rattle.identifiers.specs.Texts.{is_voucher_code}
use Rattle.identifiers.specs.Words.{VoucherCode}
use Rattle.wire.specs.Requests.{command_of}
use Rattle.wire.specs.Allowances.{allowance_of}
use Rattle.wire.specs.Credits.{credit_of}
use Rattle.wire.specs.Redeemed.{redemption_of}
use Rattle.http_messages.specs.Methods.{is_get, is_post, is_put}
use Rattle.http_messages.specs.Asking.{Asking, reads, states, account_in_path, part_behind}
use Rattle.http_messages.specs.declared.asking.StatementAsked.{StatementAsked}
use Rattle.http_messages.specs.declared.routes.Route.{Route}
use Rattle.http_messages.specs.declared.routes.Route.TheVariants.{Ccr, Account, Statement, Credits}
use Rattle.http_messages.specs.declared.routes.Route.TheVariants.{Allowances, Redeem, Sweep}

-- each of them, in the order in which a router gets them
abbrev pub every_route : List Route
every_route = Ccr ∷ Account ∷ Statement ∷ Credits ∷ Allowances ∷ Redeem ∷ Sweep ∷ []

-- the text of a route's path, and which methods it has
pub record AboutRoute : Type 0 where
  pub pattern : Bytes
  pub has : Bytes → Bool

-- a part in braces is any that isn't empty
-- rule: http-path
abbrev pub about_route : Route → AboutRoute
about_route Ccr = record { pattern = codes "/ccr"; has = is_post }
about_route Account = record {
  pattern = codes "/accounts/{a}";
  has = λ method. is_get method || is_put method;
}
about_route Statement = record {
  pattern = codes "/accounts/{a}/statement/{yyyymm}";
  has = is_get;
}
about_route Credits = record { pattern = codes "/accounts/{a}/credits"; has = is_post }
about_route Allowances = record { pattern = codes "/accounts/{a}/allowances"; has = is_post }
about_route Redeem = record { pattern = codes "/vouchers/{code}/redeem"; has = is_post }
about_route Sweep = record { pattern = codes "/sweep"; has = is_post }

-- ---- paths in words

-- a part of a path: it isn't empty and has no slash
-- rule: http-path.part: a path has a row of the table exactly where it is one of that row's, in
--   words
pub record IsPathPart (part : Bytes) : Type 0 where
  pub some : 0 < length part
  pub slashless : has_slash part ≡ false

-- a path with one part between two texts
pub record HasPart (front back path : Bytes) : Type 0 where
  pub part : Bytes
  pub is_part : IsPathPart part
  pub is : path ≡ front ++ (part ++ back)

-- the path of a statement, with its account and its month
pub record IsStatementPath (path : Bytes) : Type 0 where
  pub account : Bytes
  pub is_account : IsPathPart account
  pub month : Bytes
  pub is_month : IsPathPart month
  pub is : path ≡ codes "/accounts/" ++ (account ++ (codes "/statement/" ++ month))

-- the paths of a route
-- rule: http-path.part
abbrev pub IsPathOf : Route → Bytes → Type 0
IsPathOf Ccr path = path ≡ codes "/ccr"
IsPathOf Account path = HasPart (codes "/accounts/") [] path
IsPathOf Statement path = IsStatementPath path
IsPathOf Credits path = HasPart (codes "/accounts/") (codes "/credits") path
IsPathOf Allowances path = HasPart (codes "/accounts/") (codes "/allowances") path
IsPathOf Redeem path = HasPart (codes "/vouchers/") (codes "/redeem") path
IsPathOf Sweep path = path ≡ codes "/sweep"

-- ---- what is asked, by the path and then by the body

-- Of a route that has the method. Of an account GET asks for the balance, PUT opens it; of a
-- statement the account is read, and then the month.
-- rule: http-paths: faults in the path before faults in the body
abbrev pub asking_by : Route → Bytes → Bytes → Bytes → Asking
asking_by Ccr method target body = reads (command_of body)
asking_by Account method target body = reads (account_in_path target >>= λ a.
    Ok (if is_get method then command.Balance a else command.OpenAccount a))
asking_by Statement method target body = stated (account_in_path target >>= λ a.
    or_fault (Invalid avp.Month) (month_of (part_behind 4 target)) >>= λ m.
    Ok (record { account = a; month = m }))
  where
    stated : Result StatementAsked WireFault → Asking
    stated (Ok q) = states q
    stated (Err fault) = reads (Err fault)
asking_by Credits method target body = reads (account_in_path target >>= λ a.
    credit_of a body >>= λ c. Ok (command.Credit c))
asking_by Allowances method target body = reads (account_in_path target >>= λ a.
    allowance_of a body >>= λ x. Ok (command.Allow x))
asking_by Redeem method target body = reads (code >>= λ c.
    redemption_of c body >>= λ r. Ok (command.Redeem r))
  where
    code : Result VoucherCode WireFault
    code = if is_voucher_code (part_behind 2 target) then Ok (part_behind 2 target)
        else Err (Invalid avp.VoucherCode)
asking_by Sweep method target body = reads (Ok command.Sweep)
