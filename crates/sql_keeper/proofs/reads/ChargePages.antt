-- The charges that are read for a page are the account's.
use Rattle.std.proofs.Common.{◌≡◌, ℕ, ◌+◌, ◌-◌, ◌<◌, ◌≤◌, Bool, true, false, cond, List, [], ◌∷◌}
use Rattle.std.proofs.Common.{Some, None, Option, refl, sym, ap, ◌∙◌, subst, arith, nat_lt}
use Rattle.std.specs.Prelude.{◌==◌, ◌&&◌, if◌then◌else◌, map, min, nat_le, option_map}
use Rattle.std.specs.List.{filter}
use Rattle.std.proofs.lemmas.Bool.{and_parts, and_from, true≢false}
use Rattle.std.proofs.Math.Nat.{min-le_left, min-le_right, min-eq_left, min-eq_right, le-min}
use Rattle.std.proofs.lemmas.Bool.Decides.{nat_tests}
use Rattle.ledger.specs.declared.charge.ChargeRow.{ChargeRow}
use Rattle.reserving.specs.Left.{only}
use Rattle.keepers.specs.Tables.{charge_in}
use Rattle.keepers.specs.Rows.{are_rising, AreCharges}
use Rattle.keepers.specs.Pages.{IsPage, is_number_within}
use Rattle.keepers.specs.declared.pages.ChargePage.{ChargePage}
use Rattle.keepers.proofs.Parted.{page_is}
use Rattle.sql_tables.specs.Selects.{passing}
use Rattle.sql_rows.specs.declared.head.HeadColumns.{HeadColumns}
use Rattle.sql_rows.specs.Content.{TableRows}
use Rattle.sql_rows.specs.Lists.{AreChargeRows, AreCovered, NumbersRise, is_row_within}
use Rattle.sql_rows.specs.declared.covered_rows.CoveredColumns.{CoveredColumns}
use Rattle.sql_keeper.specs.ChargePages.{AreTold, IsPageRead, end_of_page, last_number}
use Rattle.sql_keeper.specs.Content.{charge_of, is_numbered, told_charge}
use Rattle.sql_keeper.specs.Content as content
use Rattle.sql_keeper.specs.Covered.{blocks_under, covered_charge}

-- numbers up to the last are those that are seen
numbered_is : (n : ℕ) (o : Option HeadColumns) → is_numbered n o ≡
    (nat_lt 0 n && nat_le n (last_number o))
numbered_is n None = at (nat_lt 0 n) (nat_le n 0) refl refl
  where
    at : (t u : Bool) → nat_lt 0 n ≡ t → nat_le n 0 ≡ u → false ≡ (t && u)
    at true true e f = absurd (grind (arith, nat_tests, e, f))
    at true false e f = refl
    at false u e f = refl
numbered_is n (Some h) =
    at (nat_lt 0 n) (nat_lt n h.next_charge) (nat_le n (h.next_charge - 1)) refl refl refl
  where
    at : (t u v : Bool) → nat_lt 0 n ≡ t → nat_lt n h.next_charge ≡ u →
        nat_le n (h.next_charge - 1) ≡ v →
        (t && u) ≡ (t && v)
    at true true true e f g = refl
    at true false false e f g = refl
    at true true false e f g = absurd (grind (arith, nat_tests, e, f, g))
    at true false true e f g = absurd (grind (arith, nat_tests, e, f, g))
    at false u v e f g = refl

-- a charge that is found has its number
found_number : (n : ℕ) (rows : List ChargeRow) (x : ChargeRow) →
    charge_in n rows ≡ Some x → x.number ≡ n
found_number n [] x e = absurd (cc)
found_number n (c ∷ rest) x e = at (c.number == n) refl e (found_number n rest x)
  where
    at : (t : Bool) → (c.number == n) ≡ t → cond t (Some c) (charge_in n rest) ≡ Some x →
        (charge_in n rest ≡ Some x → x.number ≡ n) → x.number ≡ n
    at true e same later =
        let is : c ≡ x = cc in
        sym (ap (λ (r : ChargeRow). r.number) is) ∙ grind (arith, nat_tests, e)
    at false e same later = later same

-- ---- charges with the blocks that were covered

covered_found : (cs : List CoveredColumns) (n : ℕ) (xs : List ChargeRow)
    → charge_in n (map (covered_charge cs) xs) ≡ option_map (covered_charge cs) (charge_in n xs)
covered_found cs n [] = refl
covered_found cs n (x ∷ xs) = go (covered_found cs n xs) (x.number == n)
  where
    go : charge_in n (map (covered_charge cs) xs) ≡ option_map (covered_charge cs) (charge_in n xs)
        → (t : Bool)
        → cond t (Some (covered_charge cs x)) (charge_in n (map (covered_charge cs) xs))
        ≡ option_map (covered_charge cs) (cond t (Some x) (charge_in n xs))
    go later true = refl
    go later false = later

module _ (r : TableRows) (after last : ℕ) (xs : List ChargeRow) (cs : List CoveredColumns)
    (charges : AreChargeRows (is_row_within after last) r xs)
    (covered : AreCovered after last r cs) where
  blocks_are : (n : ℕ) (x : ChargeRow) → is_row_within after last x ≡ true →
      charge_in n xs ≡ Some x →
      blocks_under x.number cs ≡ r.covered n
  blocks_are n x within found =
      let is = found_number n xs x found in
      ap (λ m. blocks_under m cs) is
      ∙ covered n
      ∙ ap (λ t. if t then r.covered n else None)
      (ap (λ m. nat_lt after m && nat_le m last) (sym is) ∙ within)

  told_under : (n : ℕ) (o : Option ChargeRow) → charge_in n xs ≡ passing (is_row_within after last)
      o
      → option_map (covered_charge cs) (charge_in n xs)
      ≡ passing (is_row_within after last) (option_map (content.charge_in (r.covered n)) o)
  told_under n None e = ap (option_map (covered_charge cs)) e
  told_under n (Some x) e = at (is_row_within after last x) refl e
    where
      at : (t : Bool) → is_row_within after last x ≡ t → charge_in n xs ≡
          (if t then Some x else None)
          → option_map (covered_charge cs) (charge_in n xs)
          ≡ (if t then Some (content.charge_in (r.covered n) x) else None)
      at true k f = ap (option_map (covered_charge cs)) f
          ∙ ap (λ b. Some (content.charge_in b x)) (blocks_are n x k f)
      at false k f = ap (option_map (covered_charge cs)) f

  -- the charges that were read, with their covered blocks, are those of the tables
  covered_told : AreTold (is_row_within after last) r (map (covered_charge cs) xs)
  covered_told n = covered_found cs n xs ∙ told_under n (r.charges n) (charges n)

  pub told_with : (ys : List ChargeRow) → ys ≡ map (covered_charge cs) xs →
      AreTold (is_row_within after last) r ys
  told_with ys is = subst (AreTold (is_row_within after last) r) (sym is) covered_told

-- the numbers stay
rise_covered : (cs : List CoveredColumns) (xs : List ChargeRow) → NumbersRise xs →
    NumbersRise (map (covered_charge cs) xs)
rise_covered cs [] rise = tt
rise_covered cs (x ∷ []) rise = tt
rise_covered cs (x ∷ y ∷ zs) rise = (rise.0, rise_covered cs (y ∷ zs) rise.1)

pub rise_with : (cs : List CoveredColumns) (xs ys : List ChargeRow) →
    ys ≡ map (covered_charge cs) xs → NumbersRise xs → NumbersRise ys
rise_with cs xs ys is rise = subst NumbersRise (sym is) (rise_covered cs xs rise)

abbrev BeginFrom : ℕ → List ChargeRow → Type 0
BeginFrom least [] = Unit {0}
BeginFrom least (c ∷ rest) = least ≤ c.number

rises_from : (least : ℕ) (xs : List ChargeRow) → NumbersRise xs → BeginFrom least xs →
    are_rising least xs ≡ true
rises_from least [] rise low = refl
rises_from least (c ∷ []) rise low =
    and_from (nat_le least c.number) true (grind (arith, nat_tests, low)) refl
rises_from least (c ∷ d ∷ zs) rise low =
    let less = rise.0 in
    and_from (nat_le least c.number) (are_rising (c.number + 1) (d ∷ zs))
    (grind (arith, nat_tests, low))
    (rises_from (c.number + 1) (d ∷ zs) rise.1 (omega (arith, less)))

begin_anywhere : (xs : List ChargeRow) → BeginFrom 0 xs
begin_anywhere [] = tt
begin_anywhere (c ∷ rest) = omega arith

-- up to the last number that is seen, a page's end and the lesser of both are one
narrowed : (n m last : ℕ) → n ≤ m → nat_le n (min last m) ≡ nat_le n last
narrowed n m last low = at (nat_le n (min last m)) (nat_le n last) refl refl
  where
    at : (t u : Bool) → nat_le n (min last m) ≡ t → nat_le n last ≡ u → t ≡ u
    at true true e f = refl
    at false false e f = refl
    at true false e f =
        let less : n ≤ min last m = grind (arith, nat_tests, e) in
        let is = min-le_left last m in
        absurd (grind (arith, nat_tests, less, is, f))
    at false true e f =
        let high : n ≤ last = grind (arith, nat_tests, f) in
        let both : n ≤ min last m = le-min high low in
        absurd (grind (arith, nat_tests, both, e))

module _ (r : TableRows) (after last : ℕ) (items all : List ChargeRow)
    (are : AreCharges (λ n. charge_of n r) all)
    (read : AreTold (is_row_within after (min last (last_number r.head))) r items) where
  numbered_below : (n : ℕ) → is_numbered n r.head ≡ true → n ≤ last_number r.head
  numbered_below n e =
      let both =
      and_parts (nat_lt 0 n) (nat_le n (last_number r.head)) (sym (numbered_is n r.head) ∙ e) in
      let low = both.1 in grind (arith, nat_tests, low)

  below_numbered : (n : ℕ) → 0 < n → n ≤ last_number r.head → is_numbered n r.head ≡ true
  below_numbered n some low =
      numbered_is n r.head
      ∙ and_from (nat_lt 0 n) (nat_le n (last_number r.head)) (grind (arith, nat_tests, some))
      (grind (arith, nat_tests, low))

  same_test : (n : ℕ) (x : ChargeRow) → x.number ≡ n → is_numbered n r.head ≡ true →
      is_row_within after (min last (last_number r.head)) x ≡ is_number_within after last x
  same_test n x is e =
      ap (λ t. nat_lt after x.number && t)
      (narrowed x.number (last_number r.head) last
      (subst (λ k. k ≤ last_number r.head) (sym is) (numbered_below n e)))

  none_other : (n : ℕ) (x : ChargeRow) → is_numbered n r.head ≡ false →
      charge_in n items ≡ passing (is_row_within after (min last (last_number r.head))) (Some x) →
      charge_in n items ≡ None
  none_other n x e found = at (is_row_within after (min last (last_number r.head)) x) refl found
    where
      at : (t : Bool) → is_row_within after (min last (last_number r.head)) x ≡ t →
          charge_in n items ≡ (if t then Some x else None) → charge_in n items ≡ None
      at false f g = g
      at true f g =
          let is = found_number n items x g in
          let both =
          and_parts (nat_lt after x.number) (nat_le x.number (min last (last_number r.head))) f in
          let beyond = both.0 in
          let up = both.1 in
          let least = min-le_right last (last_number r.head) in
          let some : 0 < n = grind (arith, nat_tests, is, beyond) in
          let low : n ≤ last_number r.head = grind (arith, nat_tests, is, up, least) in
          absurd (true≢false (sym (below_numbered n some low) ∙ e))

  tells : (n : ℕ) → charge_in n items ≡ only (is_number_within after last) (charge_in n all)
  tells n = at (is_numbered n r.head) refl (told_charge r n) (read n) (are.listed n)
    where
      at : (t : Bool) → is_numbered n r.head ≡ t → (o : Option ChargeRow) →
          charge_in n items ≡ passing (is_row_within after (min last (last_number r.head))) o →
          charge_in n all ≡ (if t then o else None) →
          charge_in n items ≡ only (is_number_within after last) (charge_in n all)
      at true e None f g = f ∙ sym (ap (only (is_number_within after last)) g)
      at true e (Some x) f g =
          f ∙ ap (λ b. if b then Some x else None) (same_test n x (found_number n all x g) e)
          ∙ sym (ap (only (is_number_within after last)) g)
      at false e None f g = f ∙ sym (ap (only (is_number_within after last)) g)
      at false e (Some x) f g = none_other n x e f ∙ sym (ap (only (is_number_within after last)) g)

  pub rows_are : NumbersRise items → items ≡ filter (is_number_within after last) all
  rows_are rise =
      page_is after last items are (rises_from 0 items rise (begin_anywhere items)) tells

-- ---- a page

pub page_made : (r : TableRows) (after : ℕ) (page : ChargePage) → after ≤ 4294967295 →
    IsPageRead r after page →
    IsPage (λ n. charge_of n r) after page
page_made r after page small read = record {
  rows = λ all are. rows_are r after page.last page.rows.items all are read.rows read.order;
  from_there = subst (λ l. after ≤ l) (sym read.last) (le-min (omega arith) small);
  goes_on = λ more. further more;
  end = λ last n less. none n (at_end last n less);
}
  where
    above : page.is_last ≡ false → page.last < last_number r.head
    above more = let e = sym read.is_last ∙ more in grind (arith, nat_tests, e)

    further : page.is_last ≡ false → after < page.last
    further more =
        let more_than = above more in
        let most = read.small in
        let below : page.last < 4294967295 = omega (arith, more_than, most) in
        let is : page.last ≡ min (after + 256) 4294967295 = read.last in
        subst (λ l. after < l) (sym is)
        (at (nat_le (after + 256) 4294967295) refl (subst (λ l. l < 4294967295) is below))
      where
        at : (t : Bool) → nat_le (after + 256) 4294967295 ≡ t →
            min (after + 256) 4294967295 < 4294967295 →
            after < min (after + 256) 4294967295
        at true e low =
            let le : after + 256 ≤ 4294967295 = grind (arith, nat_tests, e) in
            subst (λ l. after < l) (sym (min-eq_left le)) (omega arith)
        at false e low =
            let ge : 4294967295 ≤ after + 256 = grind (arith, nat_tests, e) in
            let is = min-eq_right ge in absurd (omega (arith, is, low))

    at_end : page.is_last ≡ true → (n : ℕ) → page.last < n → is_numbered n r.head ≡ false
    at_end last n less = go (is_numbered n r.head) refl
      where
        go : (t : Bool) → is_numbered n r.head ≡ t → t ≡ false
        go false e = refl
        go true e =
            let both = and_parts (nat_lt 0 n) (nat_le n (last_number r.head))
            (sym (numbered_is n r.head) ∙ e) in
            let low = both.1 in
            let most = sym read.is_last ∙ last in
            absurd (grind (arith, nat_tests, low, most, less))

    none : (n : ℕ) → is_numbered n r.head ≡ false → charge_of n r ≡ None
    none n e = ap (λ t. if t then told_charge r n else None) e

-- of what was read in turn
pub page_told : (r : TableRows) (after number up_to : ℕ) (page : ChargePage) → after ≤ 4294967295
    → number ≤ 4294967295 → page.last ≡ end_of_page after
    → page.is_last ≡ nat_le number page.last → up_to ≡ min page.last number
    → NumbersRise page.rows.items → number ≡ last_number r.head
    → AreTold (is_row_within after up_to) r page.rows.items
    → IsPage (λ n. charge_of n r) after page
page_told r after number up_to page small low last is_last least order is told =
    page_made r after page small (record {
      last = last;
      small = subst (λ m. m ≤ 4294967295) is low;
      is_last = is_last ∙ ap (λ m. nat_le m page.last) is;
      rows = subst (λ m. AreTold (is_row_within after m) r page.rows.items)
          (least ∙ ap (min page.last) is) told;
      order = order;
    })
