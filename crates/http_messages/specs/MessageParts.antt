-- The parts of what a request is and of what it is answered, each by itself, as code and lemmas
-- speak of them. The definitions of `Fields`, `Requests`, `Asking`, `Routes`, `Table` and `Texts`
-- compute to these.
-- Source: profile.
use Rattle.std.specs.Prelude.{◌≡◌, ◌⊎◌, ℕ, Bool, ◌&&◌, ◌||◌, ◌==◌, List, [], ◌∷◌, ◌++◌, length}
use Rattle.std.specs.Prelude.{map, take, drop, codes, nat_le, nat_lt, if◌then◌else◌, Option, Some, None}
use Rattle.std.specs.Prelude.{Result, Ok, Err}
use Rattle.std.specs.List.{list_all, list_any, before_first, after_first}
use Rattle.std.specs.Char.{is_ascii_digit}
use Rattle.std.specs.Fmt.{decimal}
use Rattle.std.specs.Str.Parse.{digits_value}
use Rattle.httparse.specs.Grammar.{RequestHead, ReadsRequest}
use Rattle.httparse.specs.Spans.{name_and_value}
use Rattle.identifiers.specs.Texts.{is_voucher_code}
use Rattle.identifiers.specs.Words.{AccountName, VoucherCode}
use Rattle.matchit.specs.Route.{parse_route, Scan}
use Rattle.matchit.specs.Router.{nearest}
use Rattle.matchit.specs.declared.InsertError.{InsertError}
use Rattle.texts.specs.StreamWords.{Bytes}
use Rattle.commands.specs.declared.command.Command.{Command}
use Rattle.commands.specs.declared.command.Command.TheVariants as command
use Rattle.json_fields.specs.declared.fault.WireFault.{WireFault}
use Rattle.json_fields.specs.declared.fault.WireFault.TheVariants.{Invalid}
use Rattle.commands.specs.declared.avp.Avp.TheVariants as avp
use Rattle.texts.specs.NumberWords.{MonthNumber}
use Rattle.texts.specs.Months.{month_of}
use Rattle.json_fields.specs.Gives.{◌>>=◌, or_fault}
use Rattle.wire.specs.Allowances.{allowance_of}
use Rattle.wire.specs.Credits.{credit_of}
use Rattle.wire.specs.Redeemed.{redemption_of}
use Rattle.http_messages.specs.Words.{StatusCode, most_body}
use Rattle.http_messages.specs.Methods.{is_get, is_post, is_put}
use Rattle.http_messages.specs.Statuses.{bad_request, length_required, payload_too_large}
use Rattle.http_messages.specs.Statuses.{fields_too_large}
use Rattle.http_messages.specs.Statuses.{not_implemented, not_found, method_not_allowed}
use Rattle.http_messages.specs.Fields.{Fields, body_length, closes, same_field_name}
use Rattle.http_messages.specs.Parts.{Part, whole, too_long, cut}
use Rattle.http_messages.specs.Requests.{Ask, Next, asks, refused, ended, after_head}
use Rattle.http_messages.specs.Asking.{Asking, refuses, reads, states, account_in_path}
use Rattle.http_messages.specs.Routes.{about_route, asking_by}
use Rattle.http_messages.specs.Table.{RouteRows, added}
use Rattle.http_messages.specs.Texts.{closing_line, phrase}
use Rattle.http_messages.specs.declared.asking.StatementAsked.{StatementAsked}
use Rattle.http_messages.specs.declared.routes.Route.{Route}

-- ---- fields (`Fields`)

-- 1 to 18 digits say a number
abbrev pub said_number : Bytes → Option ℕ
said_number value =
    if nat_le 1 (length value) && (nat_le (length value) 18 && list_all is_ascii_digit value)
    then Some (digits_value 10 value) else None

-- a length of at most 65,536 bytes is taken
abbrev pub taken_length : Option ℕ → Result ℕ ℕ
taken_length None = Err bad_request
taken_length (Some n) = if nat_le n most_body then Ok n else Err payload_too_large

abbrev pub said_length : Bytes → Result ℕ ℕ
said_length value = taken_length (said_number value)

-- a request without a length has no body, and a POST or a PUT must have one
abbrev pub length_without : Bytes → Result ℕ ℕ
length_without method = if is_post method || is_put method then Err length_required else Ok 0

-- by the values of Content-Length: not more than one
abbrev pub length_by : Bytes → List Bytes → Result ℕ ℕ
length_by method [] = length_without method
length_by method (value ∷ []) = said_length value
length_by method (value ∷ other ∷ more) = Err bad_request

-- by the values of Transfer-Encoding: none is taken
-- rule: http-coding
abbrev pub length_unless : List Bytes → Result ℕ ℕ → Result ℕ ℕ
length_unless [] length = length
length_unless (coding ∷ codings) length = Err not_implemented

-- Connection: close
abbrev pub says_close : Bytes × Bytes → Bool
says_close field =
    same_field_name field.0 (codes "Connection") && same_field_name field.1 (codes "close")

-- ---- heads and bodies (`Requests`)

-- the names and the values of a head's fields
abbrev pub fields_of : RequestHead → Fields
fields_of head = map name_and_value head.fields

abbrev pub length_of : RequestHead → Result ℕ ℕ
length_of head = body_length head.method (fields_of head)

abbrev pub ask_of : RequestHead → Bytes → Ask
ask_of head body = record {
  method = head.method;
  target = head.target;
  closes = closes head.minor (fields_of head);
  body = body;
}

-- the body is the next so many bytes
-- rule: http-body
abbrev pub after_length : RequestHead → Result ℕ ℕ → Bytes → Next
after_length head (Err status) rest = refused status
after_length head (Ok n) rest =
    if nat_lt (length rest) n then ended else asks (ask_of head (take n rest)) (drop n rest)

-- the head part as a whole is this head (RFC 9112 sections 3 and 5)
abbrev pub IsHead : Bytes → RequestHead → Type 0
IsHead part head = ReadsRequest part head []

-- a head part that is no head is refused
abbrev pub IsNextOf : Part → Next → Type 0
IsNextOf (whole part rest) next =
    ((head : RequestHead) × IsHead part head × (next ≡ after_head head rest))
    ⊎ (((head : RequestHead) → ¬ (IsHead part head)) × (next ≡ refused bad_request))
IsNextOf too_long next = next ≡ refused fields_too_large
IsNextOf cut next = next ≡ ended

-- ---- paths (`Asking`, `Routes`)

-- a statement that is asked for, or the fault of its path
abbrev pub stated : Result StatementAsked WireFault → Asking
stated (Ok q) = states q
stated (Err fault) = reads (Err fault)

abbrev pub is_slash : ℕ → Bool
is_slash b = b == 47

-- between the second slash of a path and the third, or the end
abbrev pub second_part : Bytes → Bytes
second_part target = before_first is_slash (after_first is_slash (after_first is_slash target))

-- between the fourth slash of a path and the fifth, or the end
abbrev pub fourth_part : Bytes → Bytes
fourth_part target = before_first is_slash
    (after_first is_slash
    (after_first is_slash (after_first is_slash (after_first is_slash target))))

-- the code of a voucher in a path
abbrev pub code_in : Bytes → Result VoucherCode WireFault
code_in target = if is_voucher_code (second_part target) then Ok (second_part target)
    else Err (Invalid avp.VoucherCode)

-- the month in a path
abbrev pub month_in : Bytes → Result MonthNumber WireFault
month_in target = or_fault (Invalid avp.Month) (month_of (fourth_part target))

abbrev pub account_command : Bytes → AccountName → Command
account_command method a = if is_get method then command.Balance a else command.OpenAccount a

abbrev pub account_asked : Bytes → Bytes → Result Command WireFault
account_asked method target = account_in_path target >>= λ a. Ok (account_command method a)

abbrev pub credit_asked : Bytes → Bytes → Result Command WireFault
credit_asked target body =
    account_in_path target >>= λ a. credit_of a body >>= λ c. Ok (command.Credit c)

abbrev pub allowance_asked : Bytes → Bytes → Result Command WireFault
allowance_asked target body =
    account_in_path target >>= λ a. allowance_of a body >>= λ x. Ok (command.Allow x)

-- rule: http-paths
abbrev pub redemption_asked : Bytes → Bytes → Result Command WireFault
redemption_asked target body =
    code_in target >>= λ c. redemption_of c body >>= λ r. Ok (command.Redeem r)

-- the account, and then the month
-- rule: http-paths
abbrev pub statement_in : Bytes → Result StatementAsked WireFault
statement_in target =
    account_in_path target >>= λ a. month_in target >>= λ m. Ok (record { account = a; month = m })

-- ---- the table (`Table`)

-- a pattern that reads well, and conflicts with none of the rows
abbrev pub fits_read : Result Scan InsertError → RouteRows → Type 0
fits_read (Ok scan) rows = nearest scan.pattern rows ≡ None
fits_read (Err e) rows = ⊥

abbrev pub Fits : Bytes → RouteRows → Type 0
Fits text rows = fits_read (parse_route text) rows

-- each of these routes fits among those before it
abbrev pub AreFitting : List Route → RouteRows → Type 0
AreFitting [] rows = Unit {0}
AreFitting (route ∷ rest) rows = Fits (about_route route).pattern rows
    × AreFitting rest (added (about_route route).pattern route rows)

-- a target has a query: a question mark
abbrev pub has_query : Bytes → Bool
has_query target = list_any (λ b. b == 63) target

-- whether a route has a method
abbrev pub serves : Route → Bytes → Bool
serves route method = (about_route route).has method

abbrev pub asked_by : Option Route → Ask → Asking
asked_by None ask = refuses not_found
asked_by (Some route) ask = if serves route ask.method
    then asking_by route ask.method ask.target ask.body else refuses method_not_allowed

-- ---- texts (`Texts`)

abbrev pub type_and_length : Bytes
type_and_length = codes "\r\nContent-Type: application/json\r\nContent-Length: "

-- the head of an answer whose body is so long and no JSON
abbrev pub text_head : StatusCode → Bool → ℕ → Bytes
text_head status closes n =
    codes "HTTP/1.1 " ++ (decimal status ++ (codes " " ++ (phrase status
    ++ (codes "\r\nContent-Type: text/plain\r\nContent-Length: "
    ++ (decimal n ++ (codes "\r\n" ++ (closing_line closes ++ codes "\r\n")))))))
