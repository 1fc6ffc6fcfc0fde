-- An account's charges, shown page by page.
use Rattle.std.proofs.Common.{◌≡◌, ℕ, ◌+◌, ◌≤◌, Bool, true, false, List, [], ◌∷◌, ◌++◌}
use Rattle.std.proofs.Common.{None, refl, sym, ap, ◌∙◌, subst, arith, take, length}
use Rattle.std.specs.Prelude.{◌&&◌, nat_le, Option, Result, Ok, Err}
use Rattle.std.specs.List.{filter}
use Rattle.std.proofs.Math.Seq.{take-append_seam}
use Rattle.std.proofs.lemmas.Bool.{and_from}
use Rattle.std.proofs.lemmas.Bool.Decides.{nat_tests}
use Rattle.std.proofs.lemmas.List.Elements.{filter-append}
use Rattle.std.proofs.lemmas.Option.{none-some}
use Rattle.ledger.specs.ChargeColumns.{ChargeColumns}
use Rattle.keepers.specs.Keeping.{KeeperReads}
use Rattle.keepers.specs.Seen.{Seen}
use Rattle.keepers.specs.Tables.{Tables, charge_in}
use Rattle.keepers.specs.declared.fault.StoreFault.{StoreFault}
use Rattle.keepers.specs.declared.fault.StoreFault.TheVariants.{Store}
use Rattle.keepers.specs.Rows.{is_between, are_rising, AreCharges}
use Rattle.keepers.specs.Visits.{Visits, Shows, SeesCharges, SeesBeginning}
use Rattle.keepers.specs.Pages.{is_number_within, IsPage}
use Rattle.keepers.specs.declared.pages.ChargePage.{ChargePage}
use Rattle.keepers.proofs.Unique.{rising_parts, first_is}
use Rattle.keepers.proofs.ShownRows.{shown_visits, shows_then, shows_stopped}
use Rattle.keepers.proofs.Parted.{up_to, beyond, none_up_to, parted, grown, all_up_to}

-- rows that rise, none of which has number 0, rise from 1 on
from_one : (rows : List ChargeColumns) → are_rising 0 rows ≡ true → charge_in 0 rows ≡ None →
    are_rising 1 rows ≡ true
from_one [] h none = refl
from_one (c ∷ rest) h none = at (nat_le 1 c.number) refl
  where
    at : (t : Bool) → nat_le 1 c.number ≡ t →
        (nat_le 1 c.number && are_rising (c.number + 1) rest) ≡ true
    at true e =
        and_from (nat_le 1 c.number) (are_rising (c.number + 1) rest) e (rising_parts 0 c rest h).1
    at false e =
        let first : c.number ≡ 0 = grind (arith, nat_tests, e) in
        absurd (none-some c
        (sym none ∙ ap (λ n. charge_in n (c ∷ rest)) (sym first) ∙ first_is c rest))

pub none_yet : {charges : ℕ → Option ChargeColumns} {rows : List ChargeColumns} → charges 0 ≡ None →
    AreCharges charges rows → up_to 0 rows ≡ []
none_yet {charges} {rows} none are =
    none_up_to 0 1 rows (from_one rows are.rising (are.listed 0 ∙ none)) (omega arith)

-- of the range, those up to a number are the first
pub first_of_range : (from until a : ℕ) (rows : List ChargeColumns) → are_rising 0 rows ≡ true →
    take (length (filter (is_between from until) (up_to a rows)))
    (filter (is_between from until) rows)
    ≡ filter (is_between from until) (up_to a rows)
first_of_range from until a rows rising =
    let p = is_between from until in
    ap (take (length (filter p (up_to a rows))))
    (sym (ap (filter p) (parted a 0 rows rising)) ∙ filter-append p (up_to a rows) (beyond a rows))
    ∙ take-append_seam (filter p (up_to a rows)) (filter p (beyond a rows))

-- one fault is reported of each value
same_fault : {A B : Type 0} (e f : StoreFault) → ◌≡◌ {A = Result B StoreFault} (Err e) (Err f) →
    ◌≡◌ {A = Result A StoreFault} (Err e) (Err f)
same_fault {A} {B} e f is = ap (λ x. Err x) (inner is)
  where
    inner : ◌≡◌ {A = Result B StoreFault} (Err e) (Err f) → e ≡ f
    inner h = cc

module _ {V : Type 0} (Sees : V → ChargeColumns → Bool → V → Type 0) (account : List ℕ)
    (from until : ℕ) where
  in_range : List ChargeColumns → List ChargeColumns
  in_range rows = filter (is_between from until) rows

  abbrev Pages : Seen → ℕ → ChargePage → Type 0
  Pages k after page = IsPage (k.tables.charges account) after page

  -- the charges up to a number were shown, and the visitor goes on
  pub record HasShown (after : ℕ) (old now : Seen) (before seen : V) : Type 0 where
    pub same : now.clean → now.tables ≡ old.tables
    pub cleanness : now.clean → old.clean
    pub honesty : now.honest → old.honest
    pub left : now.honest → (t : Tables) → now.left t → old.left t
    pub kept : old.failed ≤ now.failed
    pub shown : now.clean → (rows : List ChargeColumns) →
        AreCharges (old.tables.charges account) rows →
        Shows Sees (filter (is_between from until) (up_to after rows)) true before seen

  pub none_shown : (k : Seen) (v : V) → k.tables.charges account 0 ≡ None → HasShown 0 k k v v
  none_shown k v none = record {
    same = λ clean. refl;
    cleanness = λ clean. clean;
    honesty = λ honest. honest;
    left = λ honest t may. may;
    kept = omega arith;
    shown = λ clean rows are.
        subst (λ l. Shows Sees (filter (is_between from until) l) true v v)
        (sym (none_yet none are)) (refl, refl);
  }

  -- what a page's rows are shown for
  paged : (after : ℕ) (old mid now : Seen) (page : ChargePage) (before seen next : V) (all : Bool) →
      HasShown after old mid before seen →
      KeeperReads mid now (Pages mid after) (Ok page) →
      Shows Sees (filter (is_between from until) page.rows.items) all seen next → now.clean →
      (rows : List ChargeColumns) → AreCharges (old.tables.charges account) rows →
      Shows Sees (filter (is_between from until) (up_to page.last rows)) all before next
  paged after old mid now page before seen next all had read shows ok rows are =
      let p = is_between from until in
      let was = read.cleanness ok in
      let is = subst (λ (t : Tables). IsPage (t.charges account) after page) (had.same was)
      (read.found ok) in
      subst (λ l. Shows Sees l all before next)
      (sym (filter-append p (up_to after rows) (filter (is_number_within after page.last) rows))
      ∙ ap (filter p) (grown after page.last 0 rows are.rising is.from_there))
      (shows_then Sees (filter p (up_to after rows))
      (filter p (filter (is_number_within after page.last) rows)) all before seen next
      (had.shown was rows are)
      (subst (λ l. Shows Sees (filter p l) all seen next) (is.rows rows are) shows))

  -- one page more
  pub page_shown : (after : ℕ) (old mid now : Seen) (page : ChargePage) (before seen next : V) →
      HasShown after old mid before seen →
      KeeperReads mid now (Pages mid after) (Ok page) →
      Shows Sees (filter (is_between from until) page.rows.items) true seen next →
      HasShown page.last old now before next
  page_shown after old mid now page before seen next had read shows = record {
    same = λ ok. read.same ok ∙ had.same (read.cleanness ok);
    cleanness = λ ok. had.cleanness (read.cleanness ok);
    honesty = λ h. had.honesty (read.honesty h);
    left = λ h t may. had.left (read.honesty h) t (read.left h t may);
    kept = let one = had.kept in let two = read.cause.kept in omega (arith, one, two);
    shown = paged after old mid now page before seen next true had read shows;
  }

  -- an answer after a page
  answers : (after : ℕ) (old mid now : Seen) (page : ChargePage) (before seen next : V) →
      HasShown after old mid before seen →
      KeeperReads mid now (Pages mid after) (Ok page) →
      (now.clean → SeesCharges Sees from until (old.tables.charges account) before next) →
      KeeperReads {T = Unit {0}} old now
      (λ done. SeesCharges Sees from until (old.tables.charges account) before next) (Ok tt)
  answers after old mid now page before seen next had read sees = record {
    found = sees;
    same = λ ok. read.same ok ∙ had.same (read.cleanness ok);
    cleanness = λ ok. had.cleanness (read.cleanness ok);
    honesty = λ h. had.honesty (read.honesty h);
    left = λ h t may. had.left (read.honesty h) t (read.left h t may);
    stands = read.stands;
    cause = record {
      kept = let one = had.kept in let two = read.cause.kept in omega (arith, one, two);
      cause = λ is. absurd (let e = is in cc);
    };
  }

  -- the visitor stopped
  pub stopped : (after : ℕ) (old mid now : Seen) (page : ChargePage) (before seen next : V) →
      HasShown after old mid before seen →
      KeeperReads mid now (Pages mid after) (Ok page) →
      Shows Sees (filter (is_between from until) page.rows.items) false seen next →
      KeeperReads {T = Unit {0}} old now
      (λ done. SeesCharges Sees from until (old.tables.charges account) before next) (Ok tt)
  stopped after old mid now page before seen next had read shows =
      let p = is_between from until in
      answers after old mid now page before seen next had read
      (λ ok rows are.
      subst (λ l. Visits Sees l before next)
      (sym (filter-append p (up_to page.last rows) (beyond page.last rows))
      ∙ ap (filter p) (parted page.last 0 rows are.rising)) (shown_visits Sees
      (filter p (up_to page.last rows) ++ filter p (beyond page.last rows)) false before next
      (shows_stopped Sees (filter p (up_to page.last rows))
      (filter p (beyond page.last rows)) before next
      (paged after old mid now page before seen next false had read shows ok rows are))))

  -- no page is left
  pub ended : (after : ℕ) (old mid now : Seen) (page : ChargePage) (before seen next : V) →
      HasShown after old mid before seen →
      KeeperReads mid now (Pages mid after) (Ok page) →
      Shows Sees (filter (is_between from until) page.rows.items) true seen next →
      page.is_last ≡ true →
      KeeperReads {T = Unit {0}} old now
      (λ done. SeesCharges Sees from until (old.tables.charges account) before next) (Ok tt)
  ended after old mid now page before seen next had read shows last =
      let p = is_between from until in
      answers after old mid now page before seen next had read
      (λ ok rows are.
      let was = read.cleanness ok in
      let is = subst (λ (t : Tables). IsPage (t.charges account) after page) (had.same was)
      (read.found ok) in
      subst (λ l. Visits Sees (filter p l) before next)
      (all_up_to page.last 0 rows are.rising (λ n less. are.listed n ∙ is.end last n less))
      (shown_visits Sees (filter p (up_to page.last rows)) true before next
      (paged after old mid now page before seen next true had read shows ok rows are)))

  -- a page failed: its fault is reported
  pub failed_then : {A B : Type 0} (after : ℕ) (old mid now : Seen) (before seen : V)
      (Found : A → Type 0) (Told : B → Type 0) (e : StoreFault) →
      HasShown after old mid before seen →
      KeeperReads mid now Found (Err e) → KeeperReads old now Told (Err e)
  failed_then after old mid now before seen Found Told e had read = record {
    found = λ ok. tt;
    same = λ ok. read.same ok ∙ had.same (read.cleanness ok);
    cleanness = λ ok. had.cleanness (read.cleanness ok);
    honesty = λ h. had.honesty (read.honesty h);
    left = λ h t may. had.left (read.honesty h) t (read.left h t may);
    stands = λ h. tt;
    cause = record {
      kept = let one = had.kept in let two = read.cause.kept in omega (arith, one, two);
      cause = λ is.
          let one = had.kept in let two = read.cause.cause (same_fault e Store is) in
          omega (arith, one, two);
    };
  }

  -- what was shown until then is a beginning
  pub begun : {A : Type 0} (after : ℕ) (old mid now : Seen) (before seen : V) (Found : A → Type 0)
      (r : Result A StoreFault) →
      HasShown after old mid before seen →
      KeeperReads mid now Found r → now.clean →
      SeesBeginning Sees from until (old.tables.charges account) before seen
  begun after old mid now before seen Found r had read ok rows are =
      let p = is_between from until in (
        length (filter p (up_to after rows)),
        subst (λ l. Visits Sees l before seen)
            (sym (first_of_range from until after rows are.rising))
            (shown_visits Sees (filter p (up_to after rows)) true before seen
            (had.shown (read.cleanness ok) rows are)),
      )

  -- nothing is said of a store that isn't clean
  pub never : (after : ℕ) (old now : Seen) (before seen : V) → HasShown after old now before seen →
      (now.honest → now.clean) → (now.clean → ⊥) →
      KeeperReads {T = Unit {0}} old now
      (λ done. SeesCharges Sees from until (old.tables.charges account) before seen) (Ok tt)
  never after old now before seen had asked unclean = record {
    found = λ ok. absurd (unclean ok);
    same = had.same;
    cleanness = had.cleanness;
    honesty = had.honesty;
    stands = asked;
    left = had.left;
    cause = record { kept = had.kept; cause = λ is. absurd (let e = is in cc) };
  }
