-- What a command comes to that names an account: its answer, the list after it, and the tables.
use Rattle.std.proofs.Common.{◌≡◌, ℕ, ◌+◌, Bool, true, false, true≢false, List, ◌∷◌, ◌++◌, ◌≤◌}
use Rattle.std.proofs.Common.{refl, sym, ap, subst, ◌∙◌, arith, Option, Some, None, ◌⊎◌, inl, inr}
use Rattle.std.proofs.Math.Nat.{le-max_right, max-eq_left}
use Rattle.std.specs.Prelude.{if◌then◌else◌, is_some, max, Result, Ok, Err, OnOk, OnErr, IfOk}
use Rattle.std.specs.Prelude.{MatchResult}
use Rattle.commands.specs.declared.answer.Answer.{Answer}
use Rattle.commands.specs.declared.command.Command.{Command}
use Rattle.commands.specs.declared.key.Key.{Key}
use Rattle.shelves.specs.Shelves.{Shelf}
use Rattle.ledger.specs.Charges.{charge_rows}
use Rattle.reserving.specs.Rows.{AccountRows, IsAccount}
use Rattle.reserving.specs.Stored.{StoredRows, stored, priced}
use Rattle.reserving.specs.Left.{left_of, IsWith}
use Rattle.reserving.proofs.Lists.{some_of}
use Rattle.ledger.proofs.Names.{is_same-refl}
use Rattle.keepers.specs.declared.fault.StoreFault.{StoreFault}
use Rattle.keepers.specs.declared.kept_answer.KeptAnswer.{KeptAnswer}
use Rattle.keepers.specs.declared.loaded.Change.{Change}
use Rattle.keepers.specs.declared.loaded.Loaded.{Loaded}
use Rattle.keepers.specs.Tables.{Head, Tables, no_rows, head_of}
use Rattle.keepers.specs.Change.{IsLoad, IsLoadedFrom, AreRowsAt, kept_after, over}
use Rattle.keepers.specs.Differing.{named_rows}
use Rattle.keepers.specs.Change.{redeemed_over, changed}
use Rattle.keepers.specs.Steps.{Extends}
use Rattle.keepers.proofs.Taking.{taken}
use Rattle.keepers.proofs.Leaving.{left_behind}
use Rattle.charging.specs.Histories.{History, kept_under}
use Rattle.charging.specs.Accepted.{Accepted, CommandOutcome, one, concerned_by, names, as_of}
use Rattle.charging.specs.Accepted.{last_moment, IsInTime}
use Rattle.charging.proofs.runs.AcceptedTables.{Adds, tables_changed, row_none, row_some}
use Rattle.charging.proofs.runs.AcceptedTables.{as_of-last}
use Rattle.charging.specs.Outcomes.{book_days, outcome}
use Rattle.charging.specs.OutcomeParts.{opened_outcome, unopened_outcome}
use Rattle.charging.proofs.accounts.NeverOpened.{kept-opened}
use Rattle.charging.specs.Served.{history, voucher, standing, AreTables, answer_to, accepts}
use Rattle.charging.specs.Served.{with_command, IsServed, Writes}
use Rattle.charging.specs.ServedParts.{is_opening, names_code, voucher_after, answer_on, accepts_on}
use Rattle.charging.specs.Stepping.{Commits, IsTaken, WritesAt}

-- what an account keeps once a command was accepted
abbrev pub keeps : Option KeptAnswer → List KeptAnswer → List KeptAnswer
keeps None before = before
keeps (Some kept) before = kept ∷ before

keeps-under : (kept : Option KeptAnswer) (k : Key) (before after : History) →
    after.kept ≡ keeps kept before.kept →
    kept_under k after ≡ kept_after kept k (kept_under k before)
keeps-under None k before after e =
    ap (λ (xs : List KeptAnswer). kept_under k
    (record { opened = after.opened; ledger = after.ledger; kept = xs })) e
keeps-under (Some kept) k before after e =
    ap (λ (xs : List KeptAnswer). kept_under k
    (record { opened = after.opened; ledger = after.ledger; kept = xs })) e

pub keeps-some : {o : Option KeptAnswer} {kept : KeptAnswer} → Some kept ≡ o →
    (xs : List KeptAnswer) → kept ∷ xs ≡ keeps o xs
keeps-some e xs = ap (λ o. keeps o xs) e

pub keeps-none : {o : Option KeptAnswer} → o ≡ None → (xs : List KeptAnswer) → xs ≡ keeps o xs
keeps-none e xs = sym (ap (λ o. keeps o xs) e)

-- the list stays in time
pub in-time : (b : Shelf) (list : List Accepted) (c : Command) (t : ℕ) → IsInTime list →
    last_moment list ≤ t → IsInTime (with_command b list c t)
in-time b list c t time le = at (accepts b list c t)
  where
    at : (v : Bool) → IsInTime (if v then record { moment = t; command = c } ∷ list else list)
    at true = (le, time)
    at false = time

-- ---- what a keeper loaded

-- what a call found is so of the tables before the calls before it
pub none_loaded : (b : Shelf) (t : ℕ) (a : List ℕ) (mid old : Tables) (o : Option Loaded) →
    mid ≡ old → IsLoad b t a (mid.rows a) o → o ≡ None → (old.rows a).head ≡ None
none_loaded b t a mid old o same found none =
    subst (λ (x : Tables). (x.rows a).head ≡ None) same
    (subst (λ (q : Option Loaded). IsLoad b t a (mid.rows a) q) none found)

pub some_loaded : (b : Shelf) (t : ℕ) (a : List ℕ) (mid old : Tables) (o : Option Loaded)
    (l : Loaded) → mid ≡ old → IsLoad b t a (mid.rows a) o → o ≡ Some l →
    IsLoad b t a (old.rows a) (Some l)
some_loaded b t a mid old o l same found there =
    subst (λ (x : Tables). IsLoad b t a (x.rows a) (Some l)) same
    (subst (λ (q : Option Loaded). IsLoad b t a (mid.rows a) q) there found)

-- an account that was loaded is there: the rows of its history are those that were loaded with
-- those that were left
pub record IsOpened (b : Shelf) (list : List Accepted) (t : ℕ) (a : List ℕ) (old : Tables)
    (x : AccountRows) : Type 0 where
  pub opened : (history b a list).opened ≡ true
  pub of_book : x.shelf ≡ b
  pub head : is_some (old.rows a).head ≡ true
  pub are : AreRowsAt b (history b a list).ledger (as_of a list) (old.rows a)
  pub with_left : IsWith (history b a list).ledger (left_of t (priced b are.listed)) t x
  -- and the moment isn't before its own
  pub moment : max t x.as_of ≡ t

-- rule: unknown-account, runs.serves
pub is_opened : (b : Shelf) (list : List Accepted) (t : ℕ) (a : List ℕ) (old : Tables)
    (x : AccountRows) →
    IsInTime list → last_moment list ≤ t → AreTables b list old → IsLoadedFrom b t (old.rows a) x →
    IsAccount x → IsOpened b list t a old x
is_opened b list t a old x time le tables loads is =
    let row : ((history b a list).opened ≡ true)
    × AreRowsAt b (history b a list).ledger (as_of a list) (old.rows a) =
    row_some b (as_of a list) (history b a list) (old.rows a) (head_of (stored x)) loads.head
    (tables.accounts a) in
    let same : head_of (stored x) ≡ head_of row.1.listed =
    some_of (head_of (stored x)) (head_of row.1.listed) (sym loads.head ∙ row.1.are.head) in
    let early : as_of a list ≤ last_moment list = as_of-last a list time in
    let now : x.as_of ≡ as_of a list = (λ i. (same i).as_of) ∙ row.1.moment in
    let before : x.as_of ≤ t = subst (λ (m : ℕ). m ≤ t) (sym now) (omega arith) in
    record {
      opened = row.0;
      of_book = loads.priced_by;
      head = ap is_some loads.head;
      are = row.1;
      with_left = taken b (history b a list).ledger (as_of a list) t (old.rows a) x row.1 is loads;
      moment = max-eq_left before;
    }

-- ---- what a command comes to

-- the voucher of a change is what an accepted command leaves under its code
abbrev pub AreSpent : Shelf → List Accepted → ℕ → Command → Change → Type 0
AreSpent b list t c change = (code : List ℕ) →
    redeemed_over change.redeemed code (voucher b code list) ≡
    (if names_code code c then voucher_after (book_days b) c t (voucher b code list)
    else voucher b code list)

-- a command that names no code leaves each as it is
pub none-spent : (b : Shelf) (list : List Accepted) (t : ℕ) (c : Command) (change : Change) →
    ((code : List ℕ) → names_code code c ≡ false) → change.redeemed ≡ None →
    AreSpent b list t c change
none-spent b list t c change codes is code =
    ap (λ o. redeemed_over o code (voucher b code list)) is
    ∙ sym (ap (λ v. if v then voucher_after (book_days b) c t (voucher b code list)
    else voucher b code list) (codes code))

-- a change is what an accepted command makes of the history of the account that it names
pub record IsChange (b : Shelf) (list : List Accepted) (t : ℕ) (c : Command)
    (before after : History) (change : Change) (tables : Tables) : Type 0 where
  pub moment : change.moment ≡ t
  pub opened : after.opened ≡ true
  pub row : AreRowsAt b after.ledger t (over change.rows (tables.rows change.number))
  pub kept : after.kept ≡ keeps change.kept before.kept
  pub charges : charge_rows after.ledger ≡ charge_rows before.ledger ++ change.charges.items
  pub vouchers : AreSpent b list t c change
  pub count : (if is_some (tables.rows change.number).head then tables.count
      else tables.count + 1) ≡ (if is_opening c then tables.count + 1 else tables.count)

-- an account whose head is there was opened
pub is-there : (b : Shelf) (list : List Accepted) (a : List ℕ) (old : Tables) →
    AreTables b list old → is_some (old.rows a).head ≡ true → (history b a list).opened ≡ true
is-there b list a old tables e = at (old.rows a).head refl e
  where
    at : (o : Option Head) → (old.rows a).head ≡ o → is_some o ≡ true →
        (history b a list).opened ≡ true
    at None is k = absurd (true≢false (sym k))
    at (Some head) is k = (row_some b (as_of a list) (history b a list) (old.rows a) head is
        (tables.accounts a)).0

module _ (b : Shelf) (list : List Accepted) (c : Command) (t : ℕ) (a : List ℕ)
    (named : concerned_by c ≡ one a) where
  -- what it comes to
  abbrev comes : CommandOutcome
  comes = outcome b (standing b c list) (history b a list) c t

  answer_named : answer_to b list c t ≡ comes.answer
  answer_named = ap (λ o. answer_on o b list c t) named

  accepts_named : accepts b list c t ≡ comes.accepted
  accepts_named = ap (λ o. accepts_on o b list c t) named

  history_named : history b a (record { moment = t; command = c } ∷ list) ≡
      comes.after
  history_named =
      ap (λ o. if names a o then comes.after else history b a list)
      named
      ∙ ap (λ v. if v then comes.after else history b a list)
      (is_same-refl a)

  with_accepted : comes.accepted ≡ true →
      with_command b list c t ≡ record { moment = t; command = c } ∷ list
  with_accepted e = ap (λ v. if v then record { moment = t; command = c } ∷ list else list)
      (accepts_named ∙ e)

  with_told : comes.accepted ≡ false → with_command b list c t ≡ list
  with_told e = ap (λ v. if v then record { moment = t; command = c } ∷ list else list)
      (accepts_named ∙ e)

  -- it isn't accepted
  pub served-told : IsInTime list → last_moment list ≤ t →
      (o : CommandOutcome) (given : Answer) (old new : Tables) → comes ≡ o →
      o.accepted ≡ false → given ≡ o.answer → new ≡ old → AreTables b list old →
      IsServed b list c t old new given
  served-told time le o given old new is refused answers same tables = record {
    answer = answers ∙ sym (answer_named ∙ (λ i. (is i).answer));
    tables = subst (λ (x : List Accepted). AreTables b x new)
        (sym (with_told ((λ i. (is i).accepted) ∙ refused)))
        (subst (λ (x : Tables). AreTables b list x) (sym same) tables);
    time = in-time b list c t time le;
    same = λ e. same;
  }

  -- it is accepted
  adds : (o : CommandOutcome) (change : Change) (old : Tables) → comes ≡ o →
      a ≡ change.number → IsChange b list t c (history b a list) o.after change old →
      Adds (book_days b) (outcome b) b (record { moment = t; command = c }) list change old
  adds o change old is number x =
      let after : history b a (record { moment = t; command = c } ∷ list) ≡ o.after = history_named
      ∙ (λ i. (is i).after) in
      record {
        named = named ∙ ap one number;
        moment = x.moment;
        opened = subst (λ (n : List ℕ).
            (history b n (record { moment = t; command = c } ∷ list)).opened ≡ true) number
            ((λ i. (after i).opened) ∙ x.opened);
        row = subst (λ (n : List ℕ). AreRowsAt b
            (history b n (record { moment = t; command = c } ∷ list)).ledger t
            (over change.rows (old.rows change.number))) number
            (subst (λ (h : History). AreRowsAt b h.ledger t
            (over change.rows (old.rows change.number))) (sym after) x.row);
        kept = λ k. subst (λ (n : List ℕ). kept_under k
            (history b n (record { moment = t; command = c } ∷ list)) ≡
            kept_after change.kept k (kept_under k (history b n list))) number
            (ap (kept_under k) after ∙ keeps-under change.kept k (history b a list) o.after x.kept);
        charges = subst (λ (n : List ℕ). charge_rows
            (history b n (record { moment = t; command = c } ∷ list)).ledger ≡
            charge_rows (history b n list).ledger ++ change.charges.items) number
            ((λ i. charge_rows (after i).ledger) ∙ x.charges);
        vouchers = x.vouchers;
        count = x.count;
      }

  pub served-done : IsInTime list → last_moment list ≤ t →
      (o : CommandOutcome) (given : Answer) (change : Change) (old new : Tables) →
      comes ≡ o → o.accepted ≡ true → given ≡ o.answer →
      a ≡ change.number →
      IsChange b list t c (history b a list) o.after change old → new ≡ changed change old →
      AreTables b list old → IsServed b list c t old new given
  served-done time le o given change old new is done answers number x grown tables = record {
    answer = answers ∙ sym (answer_named ∙ (λ i. (is i).answer));
    tables = subst (λ (x : List Accepted). AreTables b x new)
        (sym (with_accepted ((λ i. (is i).accepted) ∙ done)))
        (subst (λ (x : Tables). AreTables b (record { moment = t; command = c } ∷ list) x)
        (sym grown)
        (tables_changed (book_days b) (outcome b) b (record { moment = t; command = c }) list
        change old (adds o change old is number x) tables));
    time = in-time b list c t time le;
    same = λ e. absurd (true≢false (sym done ∙ sym (λ i. (is i).accepted) ∙ sym accepts_named ∙ e));
  }

  -- the account isn't there
  pub not-opened : (old : Tables) → AreTables b list old → (old.rows a).head ≡ None →
      ((history b a list).opened ≡ false) × (old.rows a ≡ no_rows)
  not-opened old tables none =
      row_none b (as_of a list) (history b a list) (old.rows a) none (tables.accounts a)

  pub outcome-unopened : (old : Tables) → AreTables b list old → (old.rows a).head ≡ None →
      comes ≡
      unopened_outcome (standing b c list) (history b a list) c
  outcome-unopened old tables none =
      ap (λ v. if v then opened_outcome b (standing b c list) (history b a list) c t
      else unopened_outcome (standing b c list) (history b a list) c) (not-opened old tables none).0

  -- it is
  pub outcome-opened : (history b a list).opened ≡ true →
      comes ≡
      opened_outcome b (standing b c list) (history b a list) c t
  outcome-opened opened = ap
      (λ v. if v then opened_outcome b (standing b c list) (history b a list) c t
      else unopened_outcome (standing b c list) (history b a list) c) opened

  -- something is kept of it: it is there
  pub outcome-kept : (old : Tables) (k : Key) (kept : KeptAnswer) → AreTables b list old →
      old.answers a k ≡ Some kept →
      comes ≡
      opened_outcome b (standing b c list) (history b a list) c t
  outcome-kept old k kept tables is =
      outcome-opened (kept-opened b a list k kept (sym (tables.answers a k) ∙ is))

  -- ---- on an account that was loaded

  module _ (time : IsInTime list) (le : last_moment list ≤ t) (old new : Tables)
      (tables : AreTables b list old) (found : Loaded) (loads : IsTaken b t a old found) where
    abbrev account : IsOpened b list t a old found.account
    account = is_opened b list t a old found.account time le tables loads.load.1 loads.account

    -- the call left the account with the rows that weren't loaded the ledger's after the command,
    -- and the change has it
    pub record IsCalled (o : CommandOutcome) (x : AccountRows) (change : Change) : Type 0 where
      pub shelf : x.shelf ≡ found.account.shelf
      pub at_moment : x.as_of ≡ t
      pub grows : Extends (history b a list).ledger o.after.ledger
      pub rows : IsWith o.after.ledger (left_of t (priced b account.are.listed)) t x
      pub opened : o.after.opened ≡ true
      pub kept : o.after.kept ≡ keeps change.kept (history b a list).kept
      pub charges : charge_rows o.after.ledger ≡ charge_rows (history b a list).ledger
          ++ change.charges.items
      pub vouchers : AreSpent b list t c change
      pub number : change.number ≡ found.number
      pub moment : change.moment ≡ x.as_of
      pub after : change.rows ≡ named_rows found.before (stored x)

    left : (o : CommandOutcome) (x : AccountRows) (change : Change) → IsCalled o x change →
        AreRowsAt b o.after.ledger x.as_of
        (over (named_rows (stored found.account) (stored x)) (old.rows a))
    left o x change is = left_behind b (history b a list).ledger o.after.ledger (as_of a list) t
        (old.rows a) found.account x account.are loads.account loads.load.1
        (is.shelf ∙ account.of_book) is.grows is.rows

    -- rule: runs.serves
    pub served-loaded : (o : CommandOutcome) (given : Answer) (x : AccountRows) (change : Change) →
        is_opening c ≡ false → comes ≡ o → o.accepted ≡ true →
        given ≡ o.answer → IsCalled o x change → new ≡ changed change old →
        IsServed b list c t old new given
    served-loaded o given x change opens is done answers called grown =
        let where_is : a ≡ change.number = sym loads.load.0 ∙ sym called.number in
        served-done time le o given change old new is done answers where_is
        (record {
          moment = called.moment ∙ called.at_moment;
          opened = called.opened;
          row = subst (λ (n : List ℕ). AreRowsAt b o.after.ledger t
              (over change.rows (old.rows n))) where_is
              (subst (λ (w : StoredRows). AreRowsAt b o.after.ledger t (over w (old.rows a)))
              (ap (λ (w : StoredRows). named_rows w (stored x)) (sym loads.load.2)
              ∙ sym called.after)
              (subst (λ (u : ℕ). AreRowsAt b o.after.ledger u
              (over (named_rows (stored found.account) (stored x)) (old.rows a)))
              called.at_moment (left o x change called)));
          kept = called.kept;
          charges = called.charges;
          vouchers = called.vouchers;
          count = ap (λ v. if v then old.count else old.count + 1)
              (ap (λ (n : List ℕ). is_some (old.rows n).head) (sym where_is) ∙ account.head)
              ∙ sym (ap (λ v. if v then old.count + 1 else old.count) opens);
        })
        grown tables

-- what a stop leaves, by what is left before a call and by what was written
-- rule: stop-run.writes
pub left_as : {A B P Q : Type 0} → A ⊎ B → (A → P) → (B → Q) → P ⊎ Q
left_as (inl a) f g = inl (f a)
left_as (inr b) f g = inr (g b)

-- what a commit makes by one change it makes by the same one
pub commits-same : (x y : Change) (old new : Tables) → x ≡ y → Commits x old new →
    Commits y old new
commits-same x y old new is made = subst (λ (c : Change). Commits c old new) is made

-- of tables that are the same
pub commits-from : (x : Change) (old mid new : Tables) → mid ≡ old → Commits x mid new →
    Commits x old new
commits-from x old mid new same made = subst (λ (t : Tables). Commits x t new) same made

-- tables that are written at the later of a command's moment and that of the last one
pub writes-at : (b : Shelf) (c : Command) (t last : ℕ) (old mid new : Tables) → last ≡ old.last →
    mid ≡ old → WritesAt b c (max t last) mid new → Writes b c t old new
writes-at b c t last old mid new is same writes = λ list time are.
    let now : last ≡ last_moment list = is ∙ are.last in
    subst (λ (u : ℕ). AreTables b (with_command b list c (max t u)) new) now
    (writes list time (subst (AreTables b list) (sym same) are)
    (subst (λ (u : ℕ). u ≤ max t last) now (le-max_right t last)))

-- a commit that answered, or left all as it was
-- rule: stop-run.writes
pub served-by : (b : Shelf) (list : List Accepted) (c : Command) (t : ℕ) (old mid new : Tables)
    (a : Answer) {P : Type 0} (r : Result Answer StoreFault) → mid ≡ old →
    IfOk r (λ given. (given ≡ a) × P) → OnErr r (new ≡ mid) → (P → IsServed b list c t old new a) →
    MatchResult r (λ given. IsServed b list c t old new given) (λ fault. new ≡ old)
served-by b list c t old mid new a (Ok given) before done same f =
    subst (IsServed b list c t old new) (sym done.0) (f done.1)
served-by b list c t old mid new a (Err fault) before done same f = same ∙ before

-- an answer that is the same as the one that is served
pub served-as : (b : Shelf) (list : List Accepted) (c : Command) (t : ℕ) (old new : Tables)
    (given a : Answer) → given ≡ a → IsServed b list c t old new a →
    IsServed b list c t old new given
served-as b list c t old new given a is served = subst (IsServed b list c t old new) (sym is) served

-- what a call gives, by what it is the same as
pub given-as : {A E : Type 0} (r : Result A E) (x y : A) → IfOk r (λ given. given ≡ x) → x ≡ y →
    IfOk r (λ given. given ≡ y)
given-as (Ok given) x y is same = is ∙ same
given-as (Err e) x y is same = tt

-- what a call says where it answers
pub on_ok : {X E P Q : Type 0} (r : Result X E) → OnOk r P → (P → Q) → OnOk r Q
on_ok (Ok x) p f = f p
on_ok (Err e) p f = tt
