-- The tables of accepted commands: before any, after a sweep, after a voucher that was added, and
-- after a command that names an account.
use Rattle.std.proofs.Common.{◌≡◌, ℕ, ◌+◌, ◌≤◌, Bool, true, false, List, [], ◌∷◌, ◌++◌, refl, sym}
use Rattle.std.proofs.Common.{ap, subst, ◌∙◌, arith, Option, Some, None}
use Rattle.std.specs.Prelude.{if◌then◌else◌, is_some, ◌==◌}
use Rattle.std.specs.Cmp.Lexicographic.{bytes_decides}
use Rattle.identifiers.specs.Texts.{same_name}
use Rattle.commands.specs.declared.command.Command.{Command}
use Rattle.commands.specs.declared.command.Command.TheVariants.{AddVoucher}
use Rattle.commands.specs.declared.command.VoucherAddition.{VoucherAddition}
use Rattle.commands.specs.declared.key.Key.{Key}
use Rattle.voucher_rules.specs.declared.voucher.Voucher.{Voucher}
use Rattle.voucher_rules.specs.Standing.{unspent}
use Rattle.voucher_rules.specs.Adding.{addition, after_addition}
use Rattle.voucher_rules.specs.Redeeming.{DayEnds}
use Rattle.shelves.specs.Shelves.{Shelf}
use Rattle.ledger.specs.Charges.{charge_rows}
use Rattle.reserving.specs.Left.{first_of}
use Rattle.reserving.proofs.LeftParted.{find_both}
use Rattle.charging.specs.Histories.{History, kept_under}
use Rattle.charging.specs.Accepted.{Accepted, CommandOutcome, one, each, concerned_by, names}
use Rattle.charging.specs.Accepted.{reaches, voucher_under, standing_for, last_moment, as_of}
use Rattle.charging.specs.Accepted.{account_count, IsInTime, IsRowOf, IsRow, history_of}
use Rattle.charging.specs.Accepted.{AreTablesOf}
use Rattle.charging.specs.ServedParts.{is_opening, names_code, voucher_after}
use Rattle.keepers.specs.declared.loaded.Change.{Change}
use Rattle.keepers.specs.Tables.{Head, Rows, Tables, no_rows, no_tables, charge_in}
use Rattle.keepers.specs.Change.{kept_after, over, redeemed_over, changed, with_voucher, AreRowsAt}
use Rattle.keepers.specs.Change.{IsSwept}

-- an account's rows, by what its head is
pub row_none : (shelf : Shelf) (t : ℕ) (history : History) (r : Rows) → r.head ≡ None →
    IsRow shelf t history r → (history.opened ≡ false) × (r ≡ no_rows)
row_none shelf t history r e h = subst (λ (o : Option Head). IsRowOf o shelf t history r) e h

pub row_some : (shelf : Shelf) (t : ℕ) (history : History) (r : Rows) (head : Head) →
    r.head ≡ Some head → IsRow shelf t history r →
    (history.opened ≡ true) × AreRowsAt shelf history.ledger t r
row_some shelf t history r head e h = subst (λ (o : Option Head). IsRowOf o shelf t history r) e h

pub row_of : (shelf : Shelf) (t : ℕ) (history : History) (r : Rows) → history.opened ≡ true →
    AreRowsAt shelf history.ledger t r → IsRow shelf t history r
row_of shelf t history r opened rows =
    subst (λ (o : Option Head). IsRowOf o shelf t history r) (sym rows.are.head) (opened, rows)

row_later : (shelf : Shelf) (t u : ℕ) (history : History) (old new : Rows) → u ≤ t →
    (old.head ≡ None → new ≡ old) →
    (AreRowsAt shelf history.ledger u old → AreRowsAt shelf history.ledger t new) →
    IsRow shelf u history old → IsRow shelf t history new
row_later shelf t u history old new le none some h = at old.head refl
  where
    at : (o : Option Head) → old.head ≡ o → IsRow shelf t history new
    at None e =
        let was = row_none shelf u history old e h in
        let same : new ≡ old = none e in
        subst (λ (o : Option Head). IsRowOf o shelf t history new) (sym ((λ i. (same i).head) ∙ e))
        (was.0, same ∙ was.1)
    at (Some head) e =
        let was = row_some shelf u history old head e h in
        row_of shelf t history new was.0 (some was.1)

-- an account isn't as of a later moment than the last
pub as_of-last : (a : List ℕ) (list : List Accepted) → IsInTime list →
    as_of a list ≤ last_moment list
as_of-last a [] h = omega arith
as_of-last a (d ∷ before) h = at (reaches a (concerned_by d.command)) (as_of-last a before h.1)
  where
    at : (t : Bool) → as_of a before ≤ last_moment before →
        (if t then d.moment else as_of a before) ≤ d.moment
    at true le = omega arith
    at false le = omega (arith, h.0, le)

module _ (ends : DayEnds) (outcome : Option Voucher → History → Command → ℕ → CommandOutcome) where
  -- a history after a command that names its account
  abbrev after : List Accepted → Accepted → History → History
  after list d h = (outcome (standing_for ends d.command list) h d.command d.moment).after

  -- rule: runs, runs.tables
  pub tables_none : (shelf : Shelf) → AreTablesOf ends outcome shelf [] no_tables
  tables_none shelf = record {
    last = refl;
    accounts = λ a. (refl, refl);
    answers = λ a k. refl;
    charges = λ a n. refl;
    vouchers = λ code. refl;
    count = refl;
  }

  -- a sweep
  -- rule: sweep
  pub tables_swept : (shelf : Shelf) (d : Accepted) (list : List Accepted) (old new : Tables) →
      IsInTime list → last_moment list ≤ d.moment → concerned_by d.command ≡ each →
      is_opening d.command ≡ false → ((code : List ℕ) → names_code code d.command ≡ false) →
      IsSwept shelf d.moment old new → AreTablesOf ends outcome shelf list old →
      AreTablesOf ends outcome shelf (d ∷ list) new
  tables_swept shelf d list old new time le swept opens codes x h = record {
    last = x.last;
    accounts = λ a.
        subst (λ o. IsRow shelf (if reaches a o then d.moment else as_of a list)
        (if names a o then after list d (history_of ends outcome a list)
        else history_of ends outcome a list) (new.rows a)) (sym swept)
        (let early : as_of a list ≤ d.moment =
        (let e : as_of a list ≤ last_moment list = as_of-last a list time in omega arith) in
        row_later shelf d.moment (as_of a list) (history_of ends outcome a list) (old.rows a)
        (new.rows a) early (x.none a)
        (x.rows a (history_of ends outcome a list).ledger (as_of a list) early) (h.accounts a));
    answers = λ a k.
        x.beside.answers a k ∙ h.answers a k
        ∙ (λ i. kept_under k (if names a (sym swept i)
        then after list d (history_of ends outcome a list)
        else history_of ends outcome a list));
    charges = λ a n.
        x.beside.charges a n ∙ h.charges a n
        ∙
        (λ i. charge_in n (charge_rows
        (if names a (sym swept i) then
        after list d (history_of ends outcome a list)
        else history_of ends outcome a list).ledger));
    vouchers = λ code.
        x.beside.vouchers code ∙ h.vouchers code
        ∙ (λ i. if sym (codes code) i
        then voucher_after ends d.command d.moment (voucher_under ends code list)
        else voucher_under ends code list);
    count = x.beside.count ∙ h.count
        ∙ (λ i. if sym opens i then account_count list + 1 else account_count list);
  }

  -- a voucher that is new under its code
  pub tables_added : (shelf : Shelf) (v : VoucherAddition) (t : ℕ) (list : List Accepted)
      (tables : Tables) → voucher_under ends v.code list ≡ None →
      AreTablesOf ends outcome shelf list tables →
      AreTablesOf ends outcome shelf (record { moment = t; command = AddVoucher v } ∷ list)
      (with_voucher v.code v.terms t tables)
  tables_added shelf v t list tables free h = record {
    last = refl;
    accounts = h.accounts;
    answers = h.answers;
    charges = h.charges;
    vouchers = λ code. at code (same_name v.code code) refl;
    count = h.count;
  }
    where
      put : Option Voucher → Option Voucher
      put o = after_addition (addition o v.terms) o

      at : (code : List ℕ) (same : Bool) → same_name v.code code ≡ same →
          (if same then Some (unspent v.terms) else tables.vouchers code) ≡
          (if same then put (voucher_under ends code list) else voucher_under ends code list)
      at code true e =
          let there : voucher_under ends code list ≡ None =
          subst (λ (c : List ℕ). voucher_under ends c list ≡ None)
          ((bytes_decides v.code code).0 e) free in
          sym (ap put there)
      at code false e = h.vouchers code

  -- a command that names an account: its rows are those of its history after the command
  pub record Adds (shelf : Shelf) (d : Accepted) (list : List Accepted) (change : Change)
      (tables : Tables) : Type 0 where
    pub named : concerned_by d.command ≡ one change.number
    pub moment : change.moment ≡ d.moment
    pub opened : (history_of ends outcome change.number (d ∷ list)).opened ≡ true
    pub row : AreRowsAt shelf (history_of ends outcome change.number (d ∷ list)).ledger d.moment
        (over change.rows (tables.rows change.number))
    pub kept : (k : Key) → kept_under k (history_of ends outcome change.number (d ∷ list)) ≡
        kept_after change.kept k (kept_under k (history_of ends outcome change.number list))
    pub charges : charge_rows (history_of ends outcome change.number (d ∷ list)).ledger ≡
        charge_rows (history_of ends outcome change.number list).ledger ++ change.charges.items
    pub vouchers : (code : List ℕ) →
        redeemed_over change.redeemed code (voucher_under ends code list) ≡
        voucher_under ends code (d ∷ list)
    pub count : (if is_some (tables.rows change.number).head then tables.count
        else tables.count + 1) ≡ (if is_opening d.command then tables.count + 1 else tables.count)

  -- rule: runs
  pub tables_changed : (shelf : Shelf) (d : Accepted) (list : List Accepted) (change : Change)
      (tables : Tables) → Adds shelf d list change tables →
      AreTablesOf ends outcome shelf list tables →
      AreTablesOf ends outcome shelf (d ∷ list) (changed change tables)
  tables_changed shelf d list change tables x h = record {
    last = x.moment;
    accounts = λ a. account a (same_name n a) refl;
    answers = λ a k. answer a k (same_name n a) refl;
    charges = λ a m. charged a m (same_name n a) refl;
    vouchers = λ code. ap (redeemed_over change.redeemed code) (h.vouchers code) ∙ x.vouchers code;
    count = x.count ∙ ap (λ m. if is_opening d.command then m + 1 else m) h.count;
  }
    where
      n : List ℕ
      n = change.number

      reached : (a : List ℕ) (t : Bool) → same_name n a ≡ t → reaches a (concerned_by d.command) ≡ t
      reached a t e = ap (reaches a) x.named ∙ e

      named : (a : List ℕ) (t : Bool) → same_name n a ≡ t → names a (concerned_by d.command) ≡ t
      named a t e = ap (names a) x.named ∙ e

      row : IsRow shelf d.moment (history_of ends outcome n (d ∷ list))
          (over change.rows (tables.rows n))
      row = row_of shelf d.moment (history_of ends outcome n (d ∷ list))
          (over change.rows (tables.rows n)) x.opened x.row

      account : (a : List ℕ) (t : Bool) → same_name n a ≡ t →
          IsRow shelf (as_of a (d ∷ list)) (history_of ends outcome a (d ∷ list))
          (if same_name n a then over change.rows (tables.rows a) else tables.rows a)
      account a true e =
          let same : n ≡ a = (bytes_decides n a).0 e in
          subst (λ (r : Rows).
          IsRow shelf (as_of a (d ∷ list)) (history_of ends outcome a (d ∷ list)) r)
          (sym (ap (λ t. if t then over change.rows (tables.rows a) else tables.rows a) e))
          (subst (λ m. IsRow shelf (as_of a (d ∷ list)) (history_of ends outcome m (d ∷ list))
          (over change.rows (tables.rows m))) same
          (rw (reached a true e) row))
      account a false e =
          let moment : as_of a (d ∷ list) ≡ as_of a list =
          ap (λ t. if t then d.moment else as_of a list) (reached a false e) in
          let same : history_of ends outcome a (d ∷ list) ≡ history_of ends outcome a list =
          ap (λ t. if t then after list d (history_of ends outcome a list)
          else history_of ends outcome a list) (named a false e) in
          let o : (if same_name n a then over change.rows (tables.rows a) else tables.rows a) ≡
          tables.rows a = ap (λ t. if t then over change.rows (tables.rows a)
          else tables.rows a) e in
          subst (λ (r : Rows).
          IsRow shelf (as_of a (d ∷ list)) (history_of ends outcome a (d ∷ list)) r)
          (sym o) (rw (moment, same) (h.accounts a))

      answer : (a : List ℕ) (k : Key) (t : Bool) → same_name n a ≡ t →
          (if same_name n a then kept_after change.kept k (tables.answers a k)
          else tables.answers a k) ≡ kept_under k (history_of ends outcome a (d ∷ list))
      answer a k true e =
          let same : n ≡ a = (bytes_decides n a).0 e in
          ap (λ t. if t then kept_after change.kept k (tables.answers a k) else tables.answers a k)
          e
          ∙ ap (kept_after change.kept k) (h.answers a k)
          ∙ subst (λ m. kept_after change.kept k (kept_under k (history_of ends outcome m list)) ≡
          kept_under k (history_of ends outcome m (d ∷ list))) same (sym (x.kept k))
      answer a k false e =
          let same : history_of ends outcome a (d ∷ list) ≡ history_of ends outcome a list =
          ap (λ t. if t then after list d (history_of ends outcome a list)
          else history_of ends outcome a list) (named a false e) in
          ap (λ t. if t then kept_after change.kept k (tables.answers a k) else tables.answers a k)
          e
          ∙ h.answers a k ∙ ap (kept_under k) (sym same)

      charged : (a : List ℕ) (m : ℕ) (t : Bool) → same_name n a ≡ t →
          (if same_name n a then first_of (tables.charges a m) (charge_in m change.charges.items)
          else tables.charges a m) ≡
          charge_in m (charge_rows (history_of ends outcome a (d ∷ list)).ledger)
      charged a m true e =
          let same : n ≡ a = (bytes_decides n a).0 e in
          ap (λ t. if t then first_of (tables.charges a m) (charge_in m change.charges.items)
          else tables.charges a m) e
          ∙ ap (λ o. first_of o (charge_in m change.charges.items)) (h.charges a m)
          ∙ sym (find_both (λ c. c.number == m)
          (charge_rows (history_of ends outcome a list).ledger) change.charges.items)
          ∙ subst (λ b. charge_in m
          (charge_rows (history_of ends outcome b list).ledger ++ change.charges.items) ≡
          charge_in m (charge_rows (history_of ends outcome b (d ∷ list)).ledger)) same
          (ap (charge_in m) (sym x.charges))
      charged a m false e =
          let same : history_of ends outcome a (d ∷ list) ≡ history_of ends outcome a list =
          ap (λ t. if t then after list d (history_of ends outcome a list)
          else history_of ends outcome a list) (named a false e) in
          ap (λ t. if t then first_of (tables.charges a m) (charge_in m change.charges.items)
          else tables.charges a m) e
          ∙ h.charges a m ∙ ap (λ h. charge_in m (charge_rows h.ledger)) (sym same)
