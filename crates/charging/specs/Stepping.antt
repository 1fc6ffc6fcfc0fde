-- What the parts of a step come to, for every list of accepted commands whose tables a keeper
-- holds.
-- Source: profile.
use Rattle.std.specs.Prelude.{◌≡◌, ◌≤◌, Bool, true, false, List, Option, Some, None, Result, Ok}
use Rattle.std.specs.Prelude.{Err, ◌&&◌, not, is_some, if◌then◌else◌, MatchResult, IfOk, Vec}
use Rattle.std.specs.Global.{Global}
use Rattle.units.specs.Words.{Moment, GroupId}
use Rattle.identifiers.specs.Words.{AccountName, SessionName, VoucherCode}
use Rattle.buckets.specs.Words.{BucketNumber, BucketAmount}
use Rattle.commands.specs.declared.answer.Answer.{Answer}
use Rattle.commands.specs.declared.answer.Answer.TheVariants as answer
use Rattle.commands.specs.declared.answer.Refusal.{Refusal}
use Rattle.commands.specs.declared.allowance.Allowance.{Allowance}
use Rattle.commands.specs.declared.command.Command.{Command}
use Rattle.commands.specs.declared.command.Command.TheVariants.{Bar, Unbar}
use Rattle.commands.specs.declared.command.Content.{Content}
use Rattle.commands.specs.declared.command.Content.TheVariants as content
use Rattle.commands.specs.declared.command.Credit.{Credit}
use Rattle.commands.specs.declared.command.VoucherRedemption.{VoucherRedemption}
use Rattle.commands.specs.declared.key.Key.{Key}
use Rattle.commands.specs.declared.request.Request.{Request}
use Rattle.commands.specs.Keys.{key_of}
use Rattle.voucher_rules.specs.declared.redeeming.Redemption.{Redemption}
use Rattle.voucher_rules.specs.Redeeming.{redemption}
use Rattle.shelves.specs.Shelves.{Shelf}
use Rattle.buckets.specs.declared.kind.BucketKind.{BucketKind}
use Rattle.buckets.specs.declared.kind.BucketKind.TheVariants.{Money, Blocks}
use Rattle.ledger.specs.declared.charge.ChargeRow.{ChargeRow}
use Rattle.ledger.specs.Ledger.{Ledger, next_bucket}
use Rattle.ledger.specs.Requests.{credited}
use Rattle.reserving.specs.Rows.{AccountRows, IsAccount}
use Rattle.reserving.specs.Left.{LeftRows, IsWith}
use Rattle.reserving.specs.Stored.{stored}
use Rattle.decisions.specs.Asked.{begins_session}
use Rattle.decisions.specs.Decisions.{may_be_accepted, is_read}
use Rattle.keepers.specs.declared.fault.StoreFault.{StoreFault}
use Rattle.keepers.specs.declared.kept_answer.KeptAnswer.{KeptAnswer}
use Rattle.keepers.specs.declared.loaded.Change.{Change}
use Rattle.keepers.specs.declared.loaded.Loaded.{Loaded}
use Rattle.keepers.specs.declared.loaded.Redeemed.{Redeemed}
use Rattle.keepers.specs.Tables.{Tables}
use Rattle.keepers.specs.Change.{IsLoad, IsLoadedFrom, changed}
use Rattle.keepers.specs.Differing.{named_rows, named_for}
use Rattle.keepers.specs.Seen.{Seen}
use Rattle.charging.specs.Accepted.{Accepted, last_moment, IsInTime}
use Rattle.charging.specs.Outcomes.{is_full, book_days}
use Rattle.charging.specs.OutcomeParts.{from_of, until_of, is_out_of_range, begin_of, end_of}
use Rattle.charging.specs.OutcomeParts.{allowance_refusal}
use Rattle.charging.specs.Parts.{Leaves, PartKeeps}
use Rattle.charging.specs.Served.{AreTables, IsServed, with_command}

-- a command is served at a moment that isn't before that of the last accepted command, or the
-- tables are as before
abbrev pub ServesAt : Shelf → Command → Moment → Tables → Tables → Result Answer StoreFault → Type 0
ServesAt b c t old new result =
    (list : List Accepted) → IsInTime list → AreTables b list old → last_moment list ≤ t →
    MatchResult result (λ given. IsServed b list c t old new given) (λ fault. new ≡ old)

-- so it is, with this answer
abbrev pub Answers : Shelf → Command → Moment → Tables → Tables → Answer → Type 0
Answers b c t old new given = (list : List Accepted) → IsInTime list → AreTables b list old →
    last_moment list ≤ t → IsServed b list c t old new given

-- ---- refusals

-- the answer shows by itself that nothing was accepted: it is a refusal, what was read, or a
-- failure of a request that isn't a denial
-- rule: refused
abbrev pub is_unaccepted : Answer → Bool
is_unaccepted (answer.Request r) = not (may_be_accepted r.outcome)
is_unaccepted (answer.Refused refusal) = true
is_unaccepted (answer.Balance balance) = true
is_unaccepted answer.Done = false
is_unaccepted (answer.Bucket number) = false
is_unaccepted (answer.Swept count) = false

-- such an answer leaves the tables as they were, of no list of commands too
-- rule: refused
abbrev pub LeavesRefused : Tables → Tables → Result Answer StoreFault → Type 0
LeavesRefused old new result = IfOk result (λ given. is_unaccepted given ≡ true → new ≡ old)

-- ---- what a commit comes to

-- tables are those of the list with the command where it is accepted
abbrev pub WritesAt : Shelf → Command → Moment → Tables → Tables → Type 0
WritesAt b c t old new = (list : List Accepted) → IsInTime list → AreTables b list old →
    last_moment list ≤ t → AreTables b (with_command b list c t) new

-- what is kept of a command with this content, where it has a key
abbrev pub kept_as : Option Content → Answer → Option KeptAnswer
kept_as None given = None
kept_as (Some c) given = Some (record { content = c; answer = given })

-- what a commit of an account makes, with the charges of a command, what is kept of it and the
-- voucher that it redeemed
abbrev pub change_of : Loaded → Vec ChargeRow Global → Option KeptAnswer → Option Redeemed → Change
change_of loaded charges kept redeemed = record {
  moment = loaded.account.as_of;
  number = loaded.number;
  rows = named_rows loaded.before (stored loaded.account);
  charges = charges;
  kept = kept;
  redeemed = redeemed;
}

-- the same, where no row of another session than this may have changed
abbrev pub change_for : Option SessionName → Loaded → Vec ChargeRow Global → Option KeptAnswer →
    Option Redeemed → Change
change_for own loaded charges kept redeemed = record (change_of loaded charges kept redeemed) {
  rows = named_for own loaded.before (stored loaded.account);
}

-- tables are those with the change
abbrev pub Commits : Change → Tables → Tables → Type 0
Commits change old new = new ≡ changed change old

-- the command that bars an account, or ends that
abbrev pub bar_command : AccountName → Bool → Command
bar_command n barred = if barred then Bar n else Unbar n

-- an account was loaded at a moment from the tables; it keeps what each account keeps
pub record IsTaken (b : Shelf) (t : Moment) (a : AccountName) (tables : Tables) (found : Loaded)
    : Type 0 where
  pub load : IsLoad b t a (tables.rows a) (Some found)
  pub account : IsAccount found.account

-- a bucket is made under this number, and the same rows are left; None: there is no number
abbrev pub Makes : Option BucketNumber → BucketKind → Moment → Moment → Option GroupId →
    BucketAmount → Moment → Ledger → LeftRows → AccountRows → Type 0
Makes None kind from until scope amount t ledger left new = is_full ledger ≡ true
Makes (Some n) kind from until scope amount t ledger left new =
    (is_full ledger ≡ false) × (n ≡ next_bucket ledger)
    × IsWith (credited t kind from until scope amount ledger) left t new

-- a credit's bucket is made under this number, and the same rows are left; None: it is out of range
abbrev pub Credits : Option BucketNumber → Credit → Moment → Ledger → LeftRows → AccountRows →
    Type 0
Credits None c t ledger left new = is_out_of_range c t ledger ≡ true
Credits (Some n) c t ledger left new =
    (is_out_of_range c t ledger ≡ false) × (n ≡ next_bucket ledger)
    × IsWith (credited t Money (from_of c t) (until_of c) c.scope c.amount ledger) left t new

-- an allowance's bucket is made under this number, and the same rows are left; or it is refused
abbrev pub Allows : Shelf → Result BucketNumber Refusal → Allowance → Moment → Ledger → LeftRows →
    AccountRows → Type 0
Allows b (Err refusal) a t ledger left new = allowance_refusal b a t ledger ≡ Some refusal
Allows b (Ok n) a t ledger left new =
    (allowance_refusal b a t ledger ≡ None) × (n ≡ next_bucket ledger)
    × IsWith (credited t Blocks (begin_of a t) (end_of a) (Some a.scope) a.blocks ledger) left t new

-- what is kept under a request's key; reads have none
abbrev pub kept_of_request : Request → Tables → Option KeptAnswer
kept_of_request r tables =
    if is_read r.ask then None else tables.answers r.account (key_of (content.Request r))

-- a request begins a session of which the tables have a row
-- rule: session-names.known: a session that begins is new
abbrev pub is_known : Request → Tables → Bool
is_known r tables = begins_session r.ask && is_some ((tables.rows r.account).sessions r.session)

-- ---- a part of a step

-- a part commits a change, with this answer, or a store fault changes nothing; a stop leaves what
-- was there, or that with the change
pub record CommitsOver (change : Change) (told : Answer) (old new : Seen)
    (result : Result Answer StoreFault) : Type 0 where
  pub done : new.clean → IfOk result (λ given. (given ≡ told)
      × Commits change old.tables new.tables)
  pub kept : PartKeeps old new result
  pub left : Leaves old new (Commits change old.tables)

-- a part serves a command at its moment, or a store fault changes nothing; a stop leaves what was
-- there, or that with the command
pub record ServesOver (b : Shelf) (c : Command) (t : Moment) (old new : Seen)
    (result : Result Answer StoreFault) : Type 0 where
  pub served : new.clean → ServesAt b c t old.tables new.tables result
  -- rule: refused
  pub refused : new.clean → LeavesRefused old.tables new.tables result
  pub kept : PartKeeps old new result
  pub left : Leaves old new (WritesAt b c t old.tables)

-- the same for each shelf that is as `Given` says beside the tables before
pub record ServesGiven (Given : Tables → Shelf → Type 0) (c : Command) (t : Moment)
    (old new : Seen) (result : Result Answer StoreFault) : Type 0 where
  pub served : new.clean → (b : Shelf) → Given old.tables b →
      ServesAt b c t old.tables new.tables result
  -- rule: refused
  pub refused : new.clean → LeavesRefused old.tables new.tables result
  pub kept : PartKeeps old new result
  pub left : Leaves old new (λ x. (b : Shelf) → Given old.tables b → WritesAt b c t old.tables x)

-- an account was loaded, and nothing is kept of it under a key
pub record IsFirstAsked (t : Moment) (a : AccountName) (k : Key) (found : Loaded)
    (tables : Tables) (b : Shelf) : Type 0 where
  pub load : IsLoad b t a (tables.rows a) (Some found)
  pub fresh : tables.answers a k ≡ None

-- so it is for a redemption, which comes to this by what is under its code
pub record IsRedeemable (t : Moment) (asked : VoucherRedemption) (code : VoucherCode)
    (redeemed : Redemption) (found : Loaded) (tables : Tables) (b : Shelf) : Type 0 where
  pub first : IsFirstAsked t asked.account (key_of (content.Redeem asked)) found tables b
  pub coded : code ≡ asked.code
  pub redeems : redemption (book_days b) (tables.vouchers asked.code) asked.account t ≡ Ok redeemed

-- an account was viewed for a request, of which nothing is kept; the session that it begins is new
pub record IsUndecided (t : Moment) (r : Request) (account : AccountRows) (tables : Tables)
    (b : Shelf) : Type 0 where
  pub loads : IsLoadedFrom b t (tables.rows r.account) account
  pub fresh : kept_of_request r tables ≡ None
  pub new : is_known r tables ≡ false
