-- Isolation: an account's answers and rows are those of its own commands and of the additions of
-- the vouchers that it redeems; others reach it through the moment alone.
-- Source: profile.
use Rattle.std.specs.Prelude.{◌≡◌, ◌≤◌, ◌&&◌, ◌||◌, Bool, true, false, List, [], ◌∷◌, is_some}
use Rattle.std.specs.Prelude.{filter, if◌then◌else◌}
use Rattle.units.specs.Words.{Moment, GroupId, CycleNumber}
use Rattle.identifiers.specs.Words.{SessionName, AccountName, VoucherCode}
use Rattle.buckets.specs.Words.{BucketNumber}
use Rattle.ledger.specs.Words.{ChargeNumber}
use Rattle.identifiers.specs.Texts.{same_name}
use Rattle.commands.specs.declared.answer.Answer.{Answer}
use Rattle.commands.specs.declared.command.Command.{Command}
use Rattle.commands.specs.declared.key.Key.{Key}
use Rattle.shelves.specs.Shelves.{Shelf}
use Rattle.reserving.specs.Stored.{StoredRows, IsStored, advanced_stored}
use Rattle.keepers.specs.Tables.{Rows, Tables, AreListed}
use Rattle.charging.specs.Accepted.{Accepted, concerned_by, names, last_moment, CodeUse, about}
use Rattle.charging.specs.Accepted.{adds_code, redeems_code, no_code}
use Rattle.charging.specs.declared.running.DatedCommand.{DatedCommand}
use Rattle.charging.specs.Served.{AreTables, moment_of}
use Rattle.charging.specs.Runs.{after_command, answers_to, after_commands}

-- ---- the commands that are an account's own

abbrev pub is_redeemed_for : AccountName → VoucherCode → CodeUse → Bool
is_redeemed_for a code (adds_code added terms) = false
is_redeemed_for a code (redeems_code redeemed account) =
    same_name account a && same_name redeemed code
is_redeemed_for a code no_code = false

-- a command redeems this code for the account
abbrev pub is_redemption_of : AccountName → VoucherCode → Command → Bool
is_redemption_of a code c = is_redeemed_for a code (about c).code

-- one of the commands names the code in a redemption for the account
abbrev pub redeems : AccountName → VoucherCode → List DatedCommand → Bool
redeems a code [] = false
redeems a code (d ∷ ds) = is_redemption_of a code d.command || redeems a code ds

abbrev pub is_added_for : AccountName → List DatedCommand → CodeUse → Bool
is_added_for a ds (adds_code code terms) = redeems a code ds
is_added_for a ds (redeems_code code account) = false
is_added_for a ds no_code = false

-- a command adds the voucher of such a code
abbrev pub adds_for : AccountName → List DatedCommand → Command → Bool
adds_for a ds c = is_added_for a ds (about c).code

-- of a run's commands those are an account's own that name it, and the additions of the codes that
-- redemptions for it name
abbrev pub is_own : AccountName → List DatedCommand → Command → Bool
is_own a ds c = names a (concerned_by c) || adds_for a ds c

-- no code that a redemption for the account names is named by one for another account
-- rule: isolation
pub record HasOwnCodes (a : AccountName) (ds : List DatedCommand) : Type 0 where
  pub codes : (code : VoucherCode) → redeems a code ds ≡ true → (other : AccountName) →
      same_name other a ≡ false → redeems other code ds ≡ false

-- the own commands of a run, each with its moment in the run
abbrev pub own_commands : Shelf → (Command → Bool) → List Accepted → List DatedCommand →
    List DatedCommand
own_commands b own list [] = []
own_commands b own list (d ∷ ds) =
    if own d.command
    then record { moment = moment_of list d.moment; command = d.command }
    ∷ own_commands b own (after_command b list d) ds
    else own_commands b own (after_command b list d) ds

-- and the answers to them
abbrev pub own_answers : (Command → Bool) → List DatedCommand → List Answer → List Answer
own_answers own [] given = []
own_answers own (d ∷ ds) [] = []
own_answers own (d ∷ ds) (x ∷ given) =
    if own d.command then x ∷ own_answers own ds given else own_answers own ds given

-- moments that don't fall, from one on
abbrev pub DontFall : Moment → List DatedCommand → Type 0
DontFall t [] = Unit {0}
DontFall t (d ∷ ds) = (t ≤ d.moment) × DontFall d.moment ds

-- rows that say the same: the same head, and the same bucket, counter, session, group and hold
-- under each key
-- rule: isolation
pub record TellTheSame (x y : Rows) : Type 0 where
  pub head : x.head ≡ y.head
  pub buckets : (n : BucketNumber) → x.buckets n ≡ y.buckets n
  pub counters : (g : GroupId) (c : CycleNumber) → x.counters g c ≡ y.counters g c
  pub sessions : (s : SessionName) → x.sessions s ≡ y.sessions s
  pub groups : (s : SessionName) (g : GroupId) → x.groups s g ≡ y.groups s g
  pub holds : (s : SessionName) (g : GroupId) (n : BucketNumber) → x.holds s g n ≡ y.holds s g n

-- an account's rows at a moment: those of a list of its rows that was brought there
pub record AreRowsBroughtTo (b : Shelf) (t : Moment) (rows brought : Rows) : Type 0 where
  pub listed : StoredRows
  pub are : AreListed listed rows
  pub kept : IsStored listed
  pub at : AreListed (advanced_stored b t listed) brought

-- the tables of two runs show an account alike, at a moment that isn't before the last accepted
-- command, and so the vouchers whose codes redemptions for it name among these commands
-- rule: isolation
pub record ShowAlike (b : Shelf) (t : Moment) (a : AccountName) (ds : List DatedCommand)
    (x y : Tables) : Type 0 where
  pub opened : is_some (x.rows a).head ≡ is_some (y.rows a).head
  pub rows : (v w : Rows) → AreRowsBroughtTo b t (x.rows a) v → AreRowsBroughtTo b t (y.rows a) w →
      TellTheSame v w
  pub answers : (k : Key) → x.answers a k ≡ y.answers a k
  pub charges : (n : ChargeNumber) → x.charges a n ≡ y.charges a n
  pub vouchers : (code : VoucherCode) → redeems a code ds ≡ true → x.vouchers code ≡ y.vouchers code

-- in a run from nothing an account's answers are those of its own commands alone, and so are its
-- rows
-- rule: isolation: no other account's commands change an account
pub record IsIsolated (b : Shelf) (a : AccountName) (ds : List DatedCommand) : Type 0 where
  pub answers : own_answers (is_own a ds) ds (answers_to b [] ds) ≡
      answers_to b [] (own_commands b (is_own a ds) [] ds)
  pub tables : (t : Moment) (x y : Tables) → AreTables b (after_commands b [] ds) x →
      AreTables b (after_commands b [] (own_commands b (is_own a ds) [] ds)) y →
      last_moment (after_commands b [] ds) ≤ t → ShowAlike b t a ds x y
  -- where moments never fall, its own commands are those of the run as they were handed in
  pub unmoved : DontFall 0 ds →
      own_commands b (is_own a ds) [] ds ≡ filter (λ d. is_own a ds d.command) ds
