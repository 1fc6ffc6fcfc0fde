-- The content of tables whose rows are right beside each other.
use Rattle.std.proofs.Common.{◌≡◌, ℕ, pos, negsuc, List, Bool, true, false, ◌&&◌, Some, None}
use Rattle.std.proofs.Common.{Option, refl, sym, ap, subst, ◌∙◌, arith, eqb-true, IsTrue, nat_le, nat_lt}
use Rattle.std.proofs.Common.{◌<◌, inl, inr}
use Rattle.std.specs.Prelude.{is_some, option_map, ◌==◌, if◌then◌else◌}
use Rattle.std.proofs.lemmas.Bool.{and_from, and_parts}
use Rattle.std.proofs.lemmas.Bool.Decides.{nat_tests}
use Rattle.shelves.specs.Shelves.{Shelf}
use Rattle.sqlite_value.specs.declared.value.Value.{Value}
use Rattle.sqlite_value.specs.declared.value.Value.TheVariants.{Null, Int, Real, Text, Blob}
use Rattle.sqlite_value.specs.Order.{Row, column}
use Rattle.sqlite_trees.specs.Tree.{Trees}
use Rattle.sqlite_schema.specs.Rules.{Fits, Keeps}
use Rattle.sqlite_schema.specs.declared.schema.Constraint.TheVariants.{ForeignKey}
use Rattle.sqlite_rules.specs.Lists.{Has}
use Rattle.sqlite_rules.proofs.ListLemmas.{all_has}
use Rattle.reserving.specs.Sessions.{is_open}
use Rattle.reserving.specs.declared.session.Session.{Session}
use Rattle.reserving.specs.Left.{is_open_row}
use Rattle.sql_tables.specs.Keyed.{look}
use Rattle.sql_tables.specs.Schema.{accounts, buckets, charges, latest, our_schema, session_groups}
use Rattle.sql_tables.specs.Schema.{sessions}
use Rattle.sql_rows.specs.Content.{rows_in}
use Rattle.sql_rows.proofs.queries.Tests.{open_tested}
use Rattle.sql_rows.specs.Values.{PeriodNames, bucket_in_row, bucket_key, charge_in_row, charge_key}
use Rattle.sql_rows.specs.Values.{group_in_row, group_key, session_key}
use Rattle.sql_rows.specs.Values.{head_in, nat_in, session_in_row, state_in}
use Rattle.sql_rules.specs.Rules.{is_ruled_account, is_ruled_bucket, is_ruled_charge}
use Rattle.sql_rules.specs.Rules.{is_ruled_session}
use Rattle.sql_rules.specs.Ruled.{AreBeside, is_bucket_numbered, is_numbered, is_reached}
use Rattle.sql_rules.specs.Ruled.{is_reserved}
use Rattle.sql_rules.specs.Tables.{AreRightBy, last_kept}
use Rattle.sql_rules.proofs.BesideRows.{AreNumbers, moment_reached, numbered_below, reserved_open}
use Rattle.sql_rules.proofs.Lookups.{mapped}
use Rattle.sql_rules.proofs.MappedRows.{full_front, keyed}
use Rattle.sql_rules.proofs.Written.{checked, number_there}
use Rattle.sql_rules.proofs.Contents.{rows_in_rules}

-- ---- values

number_of : (v : Value) → nat_le 1 (nat_in v) ≡ true → (n : ℕ) × (v ≡ Int (pos n))
number_of Null e = absurd (cc e)
number_of (Int (pos n)) e = (n, refl)
number_of (Int (negsuc n)) e = absurd (cc e)
number_of (Real x) e = absurd (cc e)
number_of (Text t) e = absurd (cc e)
number_of (Blob b) e = absurd (cc e)

first_of_six : (p q r s t u : Bool) → (p && q && r && s && t && u) ≡ true → p ≡ true
first_of_six true q r s t u h = refl
first_of_six false q r s t u h = absurd (cc h)

first_of_five : (p q r s t : Bool) → (p && q && r && s && t) ≡ true → p ≡ true
first_of_five true q r s t h = refl
first_of_five false q r s t h = absurd (cc h)

-- the flag of a reservation
pub flagged : (v : Value) → (nat_in v == 1) ≡ true → v ≡ Int (pos 1)
flagged Null e = absurd (cc e)
flagged (Int (pos n)) e = ap (λ m. Int (pos m)) (eqb-true n 1 e)
flagged (Int (negsuc n)) e = absurd (cc e)
flagged (Real x) e = absurd (cc e)
flagged (Text t) e = absurd (cc e)
flagged (Blob b) e = absurd (cc e)

held : (b : Bool) (p : PeriodNames) → is_some (if b then Some p else None) ≡ true → b ≡ true
held true p e = refl
held false p e = absurd (cc e)

-- what is under a key, where it has a reservation
reserved_at : (o : Option Row) → is_reserved (option_map group_in_row o) ≡ true
    → (v : Row) × (o ≡ Some v) × (column v 4 ≡ Int (pos 1))
reserved_at None e = absurd (cc e)
reserved_at (Some v) e = (v, refl, flagged (column v 4) (held _ _ e))

there_of : {A B : Type 0} (f : A → B) (o : Option A) → is_some (option_map f o) ≡ true
    → (v : A) × (o ≡ Some v)
there_of f None e = absurd (cc e)
there_of f (Some v) e = (v, refl)

above : (n : ℕ) → nat_le 1 n ≡ true → nat_lt 0 n ≡ true
above n e = grind (arith, nat_tests, e)

-- ---- the rows of the tables

module _ (shelf : Shelf) (trees : Trees) (all : AreRightBy shelf (last_kept trees) latest trees)
  where
    charge_low : (r : Row) → Has (trees charges.tree) r → nat_le 1 (nat_in (column r 2)) ≡ true
    charge_low r has =
        (and_parts (nat_le 1 (nat_in (column r 2))) _ (first_of_six _ _ _ _ _ _
        (all_has (λ x. IsTrue (is_ruled_charge x)) (trees charges.tree) r
        (rows_in_rules shelf trees all 9 (omega arith)) has))).0

    charge_numbers : AreNumbers (trees charges.tree) 2
    charge_numbers r has = number_of (column r 2) (charge_low r has)

    bucket_numbers : AreNumbers (trees buckets.tree) 2
    bucket_numbers r has = number_of (column r 2)
        (and_parts (nat_le 1 (nat_in (column r 2))) _ (first_of_five _ _ _ _ _
        (all_has (λ x. IsTrue (is_ruled_bucket x)) (trees buckets.tree) r
        (rows_in_rules shelf trees all 2 (omega arith)) has))).0

    next_buckets : AreNumbers (trees accounts.tree) 4
    next_buckets r has = number_of (column r 4)
        (and_parts (nat_le 1 (nat_in (column r 4))) _ (and_parts _
        (nat_le 1 (nat_in (column r 4)) && nat_le (nat_in (column r 4)) 4_294_967_296)
        (and_parts _ (nat_le 1 (nat_in (column r 5)) && nat_le (nat_in (column r 5)) 4_294_967_296)
        (all_has (λ x. IsTrue (is_ruled_account x)) (trees accounts.tree) r
        (rows_in_rules shelf trees all 1 (omega arith)) has)).0).1).0

    next_numbers : AreNumbers (trees accounts.tree) 5
    next_numbers r has = number_of (column r 5)
        (and_parts (nat_le 1 (nat_in (column r 5))) _ (and_parts _
        (nat_le 1 (nat_in (column r 5)) && nat_le (nat_in (column r 5)) 4_294_967_296)
        (all_has (λ x. IsTrue (is_ruled_account x)) (trees accounts.tree) r
        (rows_in_rules shelf trees all 1 (omega arith)) has)).1).0

    states : AreNumbers (trees sessions.tree) 5
    states r has = number_of (column r 5)
        (and_parts (nat_le 1 (nat_in (column r 5))) _ (and_parts _
        (nat_le 1 (nat_in (column r 5)) && nat_le (nat_in (column r 5)) 3)
        (all_has (λ x. IsTrue (is_ruled_session x)) (trees sessions.tree) r
        (rows_in_rules shelf trees all 4 (omega arith)) has)).1).0

    module _ (keeps : Keeps ForeignKey our_schema trees) (fits : Fits our_schema trees) where
      moments : (r : Row) → Has (trees accounts.tree) r →
          column r 3 ≡ Int (pos (nat_in (column r 3)))
      moments r has =
          let low : 1 < 14 = omega arith in
          number_there shelf trees fits 1 low r has 2 (omega arith)
          (full_front shelf trees fits accounts (keyed 1 low) 3 (refl, (refl, (refl, tt)))
          (omega arith) r has).1.1.0 (λ v h. h) (checked accounts r 1 (omega arith))

      -- rule: rows-ruled.beside
      pub rows_beside : (a : List ℕ) → AreBeside (rows_in trees a)
      rows_beside a = record {
        numbers = λ n e.
            let v = there_of charge_in_row (look charges trees (charge_key a n)) e in
            let it = numbered_below trees keeps charges
            (inr (inr (inr (inr (inr (inr (inr (inr (inr (inl refl)))))))))) (inl refl) refl 4
            all.beside.numbers charge_numbers next_numbers a n v.0 v.1 in
            let low : nat_le 1 n ≡ true =
            subst (λ w. nat_le 1 (nat_in w) ≡ true) it.number (charge_low it.own it.has) in
            let below : nat_lt n (nat_in (column it.row 4)) ≡ true =
            subst (λ w. nat_lt n (nat_in w) ≡ true) (sym it.is) it.below in
            ap (λ o. is_numbered n (option_map head_in o)) it.found
            ∙ and_from (nat_lt 0 n) (nat_lt n (nat_in (column it.row 4))) (above n low) below;
        buckets = λ n e.
            let v = there_of bucket_in_row (look buckets trees (bucket_key a n)) e in
            let it = numbered_below trees keeps buckets (inr (inr (inl refl))) (inl refl) refl 3
            all.beside.buckets bucket_numbers next_buckets a n v.0 v.1 in
            let below : nat_lt n (nat_in (column it.row 3)) ≡ true =
            subst (λ w. nat_lt n (nat_in w) ≡ true) (sym it.is) it.below in
            ap (λ o. is_bucket_numbered n (option_map head_in o)) it.found ∙ below;
        touched = λ s x e on.
            let it = mapped session_in_row (look sessions trees (session_key a s)) x e in
            let by = moment_reached trees keeps sessions (inr (inr (inr (inr (inl refl))))) (inl refl)
            refl 3 4 all.beside.moments moments a (Text s) it.0 refl it.1
            (open_tested (column it.0 4)
            (subst (λ (y : Session). is_open y.state ≡ true) (sym it.2) on)) in
            ap (λ o. is_reached x.touched (option_map head_in o)) by.found
            ∙ subst (λ (y : Session). nat_le y.touched (nat_in (column by.row 2)) ≡ true) it.2 by.by;
        live = λ s g e.
            let v = reserved_at (look session_groups trees (group_key a s g)) e in
            let it = reserved_open trees keeps all.beside.reservations states a s g v.0 v.1 v.2 in
            ap (λ o. is_open_row (option_map session_in_row o)) it.1
            ∙ ap (λ w. is_open (state_in w)) it.2;
      }
