-- An account is served by its own history, the vouchers of its codes and the moments of commands
-- alone: lists of accepted commands that differ in those of others and in sweeps leave it alike.
use Rattle.std.proofs.Common.{◌≡◌, ℕ, ◌≤◌, List, [], ◌∷◌, Option, Some, None, Bool, true, false}
use Rattle.std.proofs.Common.{true≢false, refl, sym, ap, subst, ◌∙◌, arith}
use Rattle.std.specs.Prelude.{if◌then◌else◌, ◌||◌, filter, is_some, option_map}
use Rattle.identifiers.specs.Texts.{same_name}
use Rattle.std.specs.Cmp.Lexicographic.{bytes_decides}
use Rattle.std.proofs.lemmas.Bool.{and_from, or_left, or_right, or_parts}
use Rattle.shelves.specs.Shelves.{Shelf, IsShelf}
use Rattle.commands.specs.declared.command.Command.{Command}
use Rattle.commands.specs.declared.command.Command.TheVariants as command
use Rattle.ledger.specs.Balance.{buckets_at}
use Rattle.reserving.specs.Sessions.{session_at, group_in, group_at}
use Rattle.ledger.specs.Charges.{charge_rows}
use Rattle.ledger.specs.Ledger.{Ledger}
use Rattle.reserving.specs.Rows.{IsRowsOf}
use Rattle.reserving.specs.Left.{bucket_in}
use Rattle.reserving.specs.Stored.{priced, advanced_stored}
use Rattle.reserving.proofs.Advancing.{IsRowsOf-advanced}
use Rattle.reserving.proofs.StoredRows.{IsAccount-priced, IsStored-advanced}
use Rattle.ledger.proofs.Names.{is_same-refl}
use Rattle.ledger.specs.Pricing.{validity_of}
use Rattle.charging.specs.Histories.{History, no_history, kept_under}
use Rattle.keepers.specs.Tables.{Head, Rows, Tables, head_of, group_row, held_of, charge_in}
use Rattle.keepers.specs.Change.{AreRowsAt}
use Rattle.keepers.proofs.Told.{rows_told}
use Rattle.charging.specs.Accepted.{Accepted, Concerned, one, each, none, concerned_by, names}
use Rattle.charging.specs.Accepted.{last_moment, as_of, IsInTime, IsRow}
use Rattle.charging.proofs.runs.AcceptedTables.{row_none, row_some, as_of-last}
use Rattle.charging.specs.declared.running.DatedCommand.{DatedCommand}
use Rattle.charging.specs.Outcomes.{book_days, outcome}
use Rattle.charging.specs.Served.{AreTables, history, voucher, standing, moment_of, answer_to}
use Rattle.charging.specs.Served.{accepts, with_command}
use Rattle.charging.specs.ServedParts.{names_code, voucher_after, answer_on, accepts_on}
use Rattle.charging.specs.Runs.{after_command, after_commands, answers_to}
use Rattle.charging.specs.Isolation.{is_redemption_of, redeems, adds_for, is_own, HasOwnCodes}
use Rattle.charging.specs.Isolation.{own_commands, own_answers, TellTheSame, AreRowsBroughtTo}
use Rattle.charging.specs.Isolation.{DontFall, ShowAlike, IsIsolated}

-- ---- rows

-- a list of an account's rows, brought to a later moment, is that of its history there
brought : (b : Shelf) (u t : ℕ) (ledger : Ledger) (r v : Rows) → IsShelf b → u ≤ t →
    AreRowsAt b ledger u r → AreRowsBroughtTo b t r v → AreRowsAt b ledger t v
brought b u t ledger r v shelf le h x =
    let told : IsRowsOf ledger (priced b x.listed)
    × (x.listed.as_of ≡ u) = rows_told b ledger u r x.listed h x.are x.kept in
    record {
      listed = advanced_stored b t x.listed;
      are = x.at;
      kept = IsStored-advanced b t x.listed shelf x.kept;
      moment = refl;
      rows = IsRowsOf-advanced ledger (priced b x.listed) t
          (IsAccount-priced b x.listed shelf x.kept) told.0 (subst (λ m. m ≤ t) (sym told.1) le);
    }

-- rows of one ledger at one moment say the same
tell_same : (b : Shelf) (t : ℕ) (ledger : Ledger) (v w : Rows) → AreRowsAt b ledger t v →
    AreRowsAt b ledger t w → TellTheSame v w
tell_same b t ledger v w p q =
    let moment : p.listed.as_of ≡ q.listed.as_of = p.moment ∙ sym q.moment in
    let barred : p.listed.barred ≡ q.listed.barred = p.rows.barred ∙ sym q.rows.barred in
    let next_bucket : p.listed.next_bucket ≡ q.listed.next_bucket = p.rows.next_bucket
    ∙ sym q.rows.next_bucket in
    let next_charge : p.listed.next_charge ≡ q.listed.next_charge = p.rows.next_charge
    ∙ sym q.rows.next_charge in
    let same_group : (s : List ℕ) (g : ℕ) →
    group_in s g p.listed.groups ≡ group_in s g q.listed.groups = λ s g. p.rows.groups s g
    ∙ ap (λ m. group_at (validity_of b) m ledger s g) moment ∙ sym (q.rows.groups s g) in
    record {
      head = p.are.head ∙ (λ i.
          Some (record {
            as_of = moment i;
            barred = barred i;
            next_bucket = next_bucket i;
            next_charge = next_charge i;
          })) ∙ sym q.are.head;
      buckets = λ n. p.are.buckets n
          ∙ ap (bucket_in n) (p.rows.buckets ∙ ap (λ m. buckets_at (validity_of b) m ledger) moment
          ∙ sym q.rows.buckets) ∙ sym (q.are.buckets n);
      counters = λ g c. p.are.counters g c ∙ p.rows.counters g c ∙ sym (q.rows.counters g c)
          ∙ sym (q.are.counters g c);
      sessions = λ s. p.are.sessions s ∙ p.rows.sessions s
          ∙ ap (λ m. session_at (validity_of b) m ledger s) moment ∙ sym (q.rows.sessions s)
          ∙ sym (q.are.sessions s);
      groups = λ s g. p.are.groups s g ∙ ap (option_map group_row) (same_group s g)
          ∙ sym (q.are.groups s g);
      holds = λ s g n. p.are.holds s g n ∙ ap (held_of n) (same_group s g)
          ∙ sym (q.are.holds s g n);
    }

-- an account's head is there where it was opened
opened_is : (b : Shelf) (t : ℕ) (h : History) (r : Rows) → IsRow b t h r → is_some r.head ≡ h.opened
opened_is b t h r is = at r.head refl
  where
    at : (o : Option Head) → r.head ≡ o → is_some r.head ≡ h.opened
    at None e = ap is_some e ∙ sym (row_none b t h r e is).0
    at (Some head) e = ap is_some e ∙ sym (row_some b t h r head e is).0

-- an account that has a list of rows is there
listed_row : (b : Shelf) (t : ℕ) (h : History) (r v : Rows) (u : ℕ) → IsRow b u h r →
    AreRowsBroughtTo b t r v → AreRowsAt b h.ledger u r
listed_row b t h r v u is x = (row_some b u h r (head_of x.listed) x.are.head is).1

-- ---- moments

fall_from : (t u : ℕ) (ds : List DatedCommand) → t ≤ u → DontFall u ds → DontFall t ds
fall_from t u [] le h = tt
fall_from t u (d ∷ ds) le h = (let after = h.0 in omega arith, h.1)

-- a command that isn't before the last accepted one keeps its moment
same_time : (list : List Accepted) (t : ℕ) → last_moment list ≤ t → moment_of list t ≡ t
same_time list t le = omega arith

last_after : (list : List Accepted) (d : Accepted) (taken : Bool) (t : ℕ) → last_moment list ≤ t →
    d.moment ≡ t → last_moment (if taken then d ∷ list else list) ≤ t
last_after list d true t le e = omega arith
last_after list d false t le e = le

own_unmoved : (b : Shelf) (own : Command → Bool) (list : List Accepted) (ds : List DatedCommand) →
    DontFall (last_moment list) ds →
    own_commands b own list ds ≡ filter (λ d. own d.command) ds
own_unmoved b own list [] h = refl
own_unmoved b own list (d ∷ ds) h =
    let time : moment_of list d.moment ≡ d.moment = same_time list d.moment h.0 in
    let last : last_moment (after_command b list d) ≤ d.moment =
    last_after list (record { moment = moment_of list d.moment; command = d.command })
    (accepts b list d.command (moment_of list d.moment)) d.moment h.0 time in
    let rest : own_commands b own (after_command b list d) ds ≡
    filter (λ d. own d.command) ds =
    own_unmoved b own (after_command b list d) ds
    (fall_from (last_moment (after_command b list d)) d.moment ds last h.1) in
    λ i. if own d.command then record { moment = time i; command = d.command } ∷ rest i
    else rest i

-- ---- codes

alone_true : (x : Bool) → (x || false) ≡ true → x ≡ true
alone_true true e = refl
alone_true false e = e

-- a command redeems for the account one of its codes, and for another account none of them
record IsFair (a : List ℕ) (mine : List ℕ → Bool) (c : Command) : Type 0 where
  own : (code : List ℕ) → is_redemption_of a code c ≡ true → mine code ≡ true
  others : (other code : List ℕ) → same_name other a ≡ false →
      is_redemption_of other code c ≡ true → mine code ≡ false

abbrev AreFair : List ℕ → (List ℕ → Bool) → List DatedCommand → Type 0
AreFair a mine [] = Unit {0}
AreFair a mine (d ∷ ds) = IsFair a mine d.command × AreFair a mine ds

fair_each : (a : List ℕ) (mine : List ℕ → Bool) (ds : List DatedCommand) →
    ((code : List ℕ) → redeems a code ds ≡ true → mine code ≡ true) →
    ((other code : List ℕ) → same_name other a ≡ false → redeems other code ds ≡ true →
    mine code ≡ false) → AreFair a mine ds
fair_each a mine [] own others = tt
fair_each a mine (d ∷ ds) own others = (
  record {
    own = λ code e. own code
        (or_left (is_redemption_of a code d.command) (redeems a code ds) e);
    others = λ other code apart e. others other code apart
        (or_left (is_redemption_of other code d.command) (redeems other code ds) e);
  },
  fair_each a mine ds
      (λ code e. own code (or_right (is_redemption_of a code d.command) (redeems a code ds) e))
      (λ other code apart e. others other code apart
      (or_right (is_redemption_of other code d.command) (redeems other code ds) e)),
)

-- so each command of a run in which no other account redeems the account's codes
fair_run : (a : List ℕ) (ds : List DatedCommand) → HasOwnCodes a ds →
    AreFair a (λ code. redeems a code ds) ds
fair_run a ds h = fair_each a (λ code. redeems a code ds) ds (λ code e. e)
    (λ other code apart e. at code (redeems a code ds) refl other apart e)
  where
    at : (code : List ℕ) (v : Bool) → redeems a code ds ≡ v → (other : List ℕ) →
        same_name other a ≡ false → redeems other code ds ≡ true → redeems a code ds ≡ false
    at code true e other apart k = absurd (true≢false (sym k ∙ h.codes code e other apart))
    at code false e other apart k = e

-- ---- an own command

-- it names the account, or none
abbrev IsOwnOf : List ℕ → Concerned → Type 0
IsOwnOf a (one x) = x ≡ a
IsOwnOf a none = Unit {0}
IsOwnOf a each = ⊥

own_named : (a name : List ℕ) → (same_name name a || false) ≡ true → name ≡ a
own_named a name e = (bytes_decides name a).0 (alone_true (same_name name a) e)

own_is : (a : List ℕ) (all : List DatedCommand) (c : Command) → is_own a all c ≡ true →
    IsOwnOf a (concerned_by c)
own_is a all (command.Ccr r) e = own_named a r.account e
own_is a all (command.OpenAccount n) e = own_named a n e
own_is a all (command.Credit c) e = own_named a c.account e
own_is a all (command.Allow x) e = own_named a x.account e
own_is a all (command.Bar n) e = own_named a n e
own_is a all (command.Unbar n) e = own_named a n e
own_is a all (command.AddVoucher v) e = tt
own_is a all (command.Redeem r) e = own_named a r.account e
own_is a all command.Sweep e = absurd (true≢false (sym e))
own_is a all (command.Balance n) e = own_named a n e

-- what is under the account's codes is the same after both lists
abbrev AreAlike : Shelf → (List ℕ → Bool) → List Accepted → List Accepted → Type 0
AreAlike b mine run alone =
    (code : List ℕ) → mine code ≡ true → voucher b code run ≡ voucher b code alone

-- so it is under the code of an own command
same_standing : (b : Shelf) (a : List ℕ) (all : List DatedCommand) (run alone : List Accepted)
    (c : Command) → is_own a all c ≡ true → IsFair a (λ code. redeems a code all) c →
    AreAlike b (λ code. redeems a code all) run alone → standing b c run ≡ standing b c alone
same_standing b a all run alone (command.Ccr r) e fair alike = refl
same_standing b a all run alone (command.OpenAccount n) e fair alike = refl
same_standing b a all run alone (command.Credit c) e fair alike = refl
same_standing b a all run alone (command.Allow x) e fair alike = refl
same_standing b a all run alone (command.Bar n) e fair alike = refl
same_standing b a all run alone (command.Unbar n) e fair alike = refl
same_standing b a all run alone (command.AddVoucher v) e fair alike = alike v.code e
same_standing b a all run alone (command.Redeem r) e fair alike =
    alike r.code (fair.own r.code
    (and_from (same_name r.account a) (same_name r.code r.code)
    (alone_true (same_name r.account a) e) (is_same-refl r.code)))
same_standing b a all run alone command.Sweep e fair alike = refl
same_standing b a all run alone (command.Balance n) e fair alike = refl

-- another command names none of the account's codes
other_code : (a : List ℕ) (all : List DatedCommand) (c : Command) → is_own a all c ≡ false →
    IsFair a (λ code. redeems a code all) c → (code : List ℕ) → redeems a code all ≡ true →
    names_code code c ≡ false
other_code a all (command.Ccr r) e fair code mine = refl
other_code a all (command.OpenAccount n) e fair code mine = refl
other_code a all (command.Credit c) e fair code mine = refl
other_code a all (command.Allow x) e fair code mine = refl
other_code a all (command.Bar n) e fair code mine = refl
other_code a all (command.Unbar n) e fair code mine = refl
other_code a all (command.AddVoucher v) e fair code mine = at (same_name v.code code) refl
  where
    at : (same : Bool) → same_name v.code code ≡ same → same_name v.code code ≡ false
    at true k = absurd (true≢false (sym mine
        ∙ ap (λ (x : List ℕ). redeems a x all) (sym ((bytes_decides v.code code).0 k)) ∙ e))
    at false k = k
other_code a all (command.Redeem r) e fair code mine = at (same_name r.code code) refl
  where
    apart : same_name r.account a ≡ false
    apart = (or_parts (same_name r.account a) false e).0

    at : (same : Bool) → same_name r.code code ≡ same → same_name r.code code ≡ false
    at true k = absurd (true≢false (sym mine ∙ fair.others r.account code apart
        (and_from (same_name r.account r.account) (same_name r.code code)
        (is_same-refl r.account) k)))
    at false k = k
other_code a all command.Sweep e fair code mine = refl
other_code a all (command.Balance n) e fair code mine = refl

-- ---- two lists

-- they leave an account the same history, and its codes the same vouchers, and the second ends no
-- later
record LeaveAlike (b : Shelf) (a : List ℕ) (mine : List ℕ → Bool) (run alone : List Accepted) :
    Type 0 where
  same : history b a run ≡ history b a alone
  vouchers : AreAlike b mine run alone
  later : last_moment alone ≤ last_moment run
  run_time : IsInTime run
  alone_time : IsInTime alone

-- an accepted command of others
alike_other : (b : Shelf) (a : List ℕ) (mine : List ℕ → Bool) (run alone : List Accepted)
    (d : Accepted) (taken : Bool) → names a (concerned_by d.command) ≡ false →
    ((code : List ℕ) → mine code ≡ true → names_code code d.command ≡ false) →
    last_moment run ≤ d.moment → LeaveAlike b a mine run alone →
    LeaveAlike b a mine (if taken then d ∷ run else run) alone
alike_other b a mine run alone d false other codes le alike = alike
alike_other b a mine run alone d true other codes le alike = record {
  same = ap (λ t. if t then (outcome b (standing b d.command run) (history b a run) d.command
      d.moment).after else history b a run) other ∙ alike.same;
  vouchers = λ code e. ap (λ t. if t
      then voucher_after (book_days b) d.command d.moment (voucher b code run)
      else voucher b code run) (codes code e) ∙ alike.vouchers code e;
  later = let was = alike.later in omega arith;
  run_time = (le, alike.run_time);
  alone_time = alike.alone_time;
}

-- one in both
alike_both : (b : Shelf) (a : List ℕ) (mine : List ℕ → Bool) (run alone : List Accepted)
    (d : Accepted) (taken : Bool) → last_moment run ≤ d.moment →
    standing b d.command run ≡ standing b d.command alone →
    LeaveAlike b a mine run alone →
    LeaveAlike b a mine (if taken then d ∷ run else run) (if taken then d ∷ alone else alone)
alike_both b a mine run alone d false le stands alike = alike
alike_both b a mine run alone d true le stands alike = record {
  same = λ i. if names a (concerned_by d.command)
      then (outcome b (stands i) (alike.same i) d.command d.moment).after else alike.same i;
  vouchers = λ code e i. if names_code code d.command
      then voucher_after (book_days b) d.command d.moment (alike.vouchers code e i)
      else alike.vouchers code e i;
  later = omega arith;
  run_time = (le, alike.run_time);
  alone_time = (let was = alike.later in omega arith, alike.alone_time);
}

-- ---- an own command after both lists

-- it is answered alike, and accepted after both or neither
same_answer : (b : Shelf) (a : List ℕ) (run alone : List Accepted) (c : Command) (t : ℕ)
    (who : Concerned) → IsOwnOf a who → history b a run ≡ history b a alone →
    standing b c run ≡ standing b c alone →
    answer_on who b run c t ≡ answer_on who b alone c t
same_answer b a run alone c t (one x) is same stands =
    subst (λ (n : List ℕ). answer_on (one n) b run c t ≡ answer_on (one n) b alone c t) (sym is)
    (λ i. (outcome b (stands i) (same i) c t).answer)
same_answer b a run alone c t none is same stands =
    λ i. (outcome b (stands i) no_history c t).answer
same_answer b a run alone c t each is same stands = absurd is

same_accepts : (b : Shelf) (a : List ℕ) (run alone : List Accepted) (c : Command) (t : ℕ)
    (who : Concerned) → IsOwnOf a who → history b a run ≡ history b a alone →
    standing b c run ≡ standing b c alone →
    accepts_on who b run c t ≡ accepts_on who b alone c t
same_accepts b a run alone c t (one x) is same stands =
    subst (λ (n : List ℕ). accepts_on (one n) b run c t ≡ accepts_on (one n) b alone c t) (sym is)
    (λ i. (outcome b (stands i) (same i) c t).accepted)
same_accepts b a run alone c t none is same stands =
    λ i. (outcome b (stands i) no_history c t).accepted
same_accepts b a run alone c t each is same stands = absurd is

-- with its moment in the run
abbrev in_run : List Accepted → DatedCommand → DatedCommand
in_run run d = record { moment = moment_of run d.moment; command = d.command }

-- it has that moment in the other list too
same_moment : (run alone : List Accepted) (t : ℕ) → last_moment alone ≤ last_moment run →
    moment_of alone (moment_of run t) ≡ moment_of run t
same_moment run alone t later = omega arith

moment-later : (list : List Accepted) (t : ℕ) → last_moment list ≤ moment_of list t
moment-later list t = omega arith

alike_own : (b : Shelf) (a : List ℕ) (mine : List ℕ → Bool) (run alone : List Accepted)
    (d : DatedCommand) → IsOwnOf a (concerned_by d.command) →
    standing b d.command run ≡ standing b d.command alone → LeaveAlike b a mine run alone →
    LeaveAlike b a mine (after_command b run d) (after_command b alone (in_run run d))
alike_own b a mine run alone d is stands alike =
    let t : ℕ = moment_of run d.moment in
    let next : Accepted = record { moment = t; command = d.command } in
    let both : LeaveAlike b a mine (with_command b run d.command t)
    (if accepts b run d.command t then next ∷ alone else alone) =
    alike_both b a mine run alone next (accepts b run d.command t) (moment-later run d.moment)
    stands alike in
    let there : LeaveAlike b a mine (with_command b run d.command t)
    (with_command b alone d.command t) =
    subst (λ taken. LeaveAlike b a mine (with_command b run d.command t)
    (if taken then next ∷ alone else alone))
    (same_accepts b a run alone d.command t (concerned_by d.command) is alike.same stands) both in
    subst (λ m. LeaveAlike b a mine (with_command b run d.command t)
    (with_command b alone d.command m)) (sym (same_moment run alone d.moment alike.later)) there

own_answer : (b : Shelf) (a : List ℕ) (mine : List ℕ → Bool) (run alone : List Accepted)
    (d : DatedCommand) → IsOwnOf a (concerned_by d.command) →
    standing b d.command run ≡ standing b d.command alone → LeaveAlike b a mine run alone →
    answer_to b run d.command (moment_of run d.moment) ≡
    answer_to b alone d.command (moment_of alone (moment_of run d.moment))
own_answer b a mine run alone d is stands alike =
    same_answer b a run alone d.command (moment_of run d.moment) (concerned_by d.command) is
    alike.same stands
    ∙ ap (answer_to b alone d.command) (sym (same_moment run alone d.moment alike.later))

-- ---- a run

-- after two lists that leave the account alike: the run's answers to its own commands are those to
-- them after the other list, and the lists after them leave it alike
record IsServedAlike (b : Shelf) (a : List ℕ) (all : List DatedCommand) (run alone : List Accepted)
    (ds own : List DatedCommand) : Type 0 where
  answers : own_answers (is_own a all) ds (answers_to b run ds) ≡ answers_to b alone own
  alike : LeaveAlike b a (λ code. redeems a code all) (after_commands b run ds)
      (after_commands b alone own)

served_more : (b : Shelf) (a : List ℕ) (all : List DatedCommand) (run alone : List Accepted)
    (d : DatedCommand) (ds own : List DatedCommand) (mine : Bool) →
    is_own a all d.command ≡ mine → IsFair a (λ code. redeems a code all) d.command →
    LeaveAlike b a (λ code. redeems a code all) run alone →
    ((next : List Accepted) →
    LeaveAlike b a (λ code. redeems a code all) (after_command b run d) next →
    IsServedAlike b a all (after_command b run d) next ds own) →
    IsServedAlike b a all run alone (d ∷ ds) (if mine then in_run run d ∷ own else own)
served_more b a all run alone d ds own true e fair alike rest =
    let is : IsOwnOf a (concerned_by d.command) = own_is a all d.command e in
    let stands : standing b d.command run ≡ standing b d.command alone =
    same_standing b a all run alone d.command e fair alike.vouchers in
    let next : IsServedAlike b a all (after_command b run d) (after_command b alone (in_run run d))
    ds own = rest (after_command b alone (in_run run d))
    (alike_own b a (λ code. redeems a code all) run alone d is stands alike) in
    record {
      answers =
          ap (λ t. if t then answer_to b run d.command (moment_of run d.moment)
          ∷ own_answers (is_own a all) ds (answers_to b (after_command b run d) ds)
          else own_answers (is_own a all) ds (answers_to b (after_command b run d) ds)) e
          ∙ (λ i. own_answer b a (λ code. redeems a code all) run alone d is stands alike i
          ∷ next.answers i);
      alike = next.alike;
    }
served_more b a all run alone d ds own false e fair alike rest =
    let t : ℕ = moment_of run d.moment in
    let there : LeaveAlike b a (λ code. redeems a code all) (after_command b run d) alone =
    alike_other b a (λ code. redeems a code all) run alone
    (record { moment = t; command = d.command }) (accepts b run d.command t)
    (or_parts (names a (concerned_by d.command)) (adds_for a all d.command) e).0
    (other_code a all d.command e fair) (moment-later run d.moment) alike in
    let next : IsServedAlike b a all (after_command b run d) alone ds own = rest alone there in
    record {
      answers =
          ap (λ t. if t then answer_to b run d.command (moment_of run d.moment)
          ∷ own_answers (is_own a all) ds (answers_to b (after_command b run d) ds)
          else own_answers (is_own a all) ds (answers_to b (after_command b run d) ds)) e
          ∙ next.answers;
      alike = next.alike;
    }

served : (b : Shelf) (a : List ℕ) (all : List DatedCommand) (run alone : List Accepted)
    (ds : List DatedCommand) → AreFair a (λ code. redeems a code all) ds →
    LeaveAlike b a (λ code. redeems a code all) run alone →
    IsServedAlike b a all run alone ds (own_commands b (is_own a all) run ds)
served b a all run alone [] fair alike = record { answers = refl; alike = alike }
served b a all run alone (d ∷ ds) fair alike =
    served_more b a all run alone d ds
    (own_commands b (is_own a all) (after_command b run d) ds)
    (is_own a all d.command) refl fair.0 alike
    (λ next there. served b a all (after_command b run d) next ds fair.1 there)

show_alike : (b : Shelf) (t : ℕ) (a : List ℕ) (all : List DatedCommand)
    (run alone : List Accepted) (x y : Tables) → IsShelf b →
    LeaveAlike b a (λ code. redeems a code all) run alone → AreTables b run x →
    AreTables b alone y → last_moment run ≤ t → ShowAlike b t a all x y
show_alike b t a all run alone x y shelf alike p q le =
    let early : as_of a run ≤ t = let last = as_of-last a run alike.run_time in omega arith in
    let early' : as_of a alone ≤ t = let last = as_of-last a alone alike.alone_time in let later =
    alike.later in omega arith in
    let h : History = history b a run in
    let h' : History = history b a alone in
    record {
      opened = opened_is b (as_of a run) h (x.rows a) (p.accounts a) ∙ (λ i. (alike.same i).opened)
          ∙ sym (opened_is b (as_of a alone) h' (y.rows a) (q.accounts a));
      rows = λ v w in_run in_alone.
          tell_same b t h.ledger v w
          (brought b (as_of a run) t h.ledger (x.rows a) v shelf early
          (listed_row b t h (x.rows a) v (as_of a run) (p.accounts a) in_run) in_run)
          (subst (λ l. AreRowsAt b l t w) (sym (λ i. (alike.same i).ledger))
          (brought b (as_of a alone) t h'.ledger (y.rows a) w shelf early'
          (listed_row b t h' (y.rows a) w (as_of a alone) (q.accounts a) in_alone) in_alone));
      answers = λ k. p.answers a k ∙ ap (kept_under k) alike.same ∙ sym (q.answers a k);
      charges = λ n. p.charges a n ∙ ap (λ h. charge_in n (charge_rows h.ledger)) alike.same
          ∙ sym (q.charges a n);
      vouchers = λ code e. p.vouchers code ∙ alike.vouchers code e ∙ sym (q.vouchers code);
    }

-- rule: isolation
pub isolated : (b : Shelf) → IsShelf b → (a : List ℕ) (ds : List DatedCommand) → HasOwnCodes a ds →
    IsIsolated b a ds
isolated b shelf a ds codes =
    let all : IsServedAlike b a ds [] [] ds (own_commands b (is_own a ds) [] ds) =
    served b a ds [] [] ds (fair_run a ds codes) (record {
      same = refl;
      vouchers = λ code e. refl;
      later = omega arith;
      run_time = tt;
      alone_time = tt;
    }) in
    record {
      answers = all.answers;
      tables = λ t x y p q le. show_alike b t a ds (after_commands b [] ds)
          (after_commands b [] (own_commands b (is_own a ds) [] ds)) x y shelf all.alike p q le;
      unmoved = own_unmoved b (is_own a ds) [] ds;
    }
