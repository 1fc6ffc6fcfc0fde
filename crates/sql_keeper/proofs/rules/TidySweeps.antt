-- What a sweep leaves of tables in which no row is without a meaning.
use Rattle.std.proofs.Common.{◌≡◌, ◌∙◌, ◌<◌, ℕ, Bool, true, false, cond, List, [], ◌∷◌, lt-ltb}
use Rattle.std.proofs.Common.{Option, Some, None, arith, refl, sym, ap, subst}
use Rattle.std.specs.Prelude.{filter, if◌then◌else◌, is_some, nat_eq, nat_le, nat_lt, not}
use Rattle.std.specs.List.{list_all, list_any}
use Rattle.std.proofs.lemmas.Bool.{and_parts}
use Rattle.std.proofs.lemmas.Bool.Decides.{nat_tests}
use Rattle.identifiers.specs.Texts.{same_name}
use Rattle.buckets.specs.Row.{BucketRow}
use Rattle.buckets.specs.Spend.{IsBelow}
use Rattle.shelves.specs.Shelves.{Shelf, IsShelf}
use Rattle.reserving.specs.declared.session.Reservation.{Reservation}
use Rattle.reserving.specs.declared.session.Session.{Session}
use Rattle.reserving.specs.declared.session.SessionGroup.{SessionGroup}
use Rattle.reserving.specs.Sessions.{group_in, is_session}
use Rattle.reserving.specs.Stored.{StoredRows, advanced_stored}
use Rattle.reserving.specs.Left.{bucket_in}
use Rattle.keepers.specs.Differing.{equal_bucket}
use Rattle.sql_rows.specs.Content.{TablesContent, TableRows}
use Rattle.sql_rules.specs.Columns.{is_moment}
use Rattle.sql_rules.specs.Ruled.{AreBeside, is_bucket_numbered, is_reached}
use Rattle.sql_keeper.specs.RuledRows.{are_ruled_rows, are_timely_rows, are_timely_sessions}
use Rattle.sql_keeper.specs.RuledRows.{is_ruled_sweep, is_ruled_swept}
use Rattle.sql_keeper.specs.Content.{Names, is_numbered}
use Rattle.sql_keeper.specs.Sweeps.{AreAllSwept, AreSweptRows, IsSweptOf, rows_at, with_sweep}
use Rattle.sql_keeper.specs.Tests.{IsWritable, MayStand}
use Rattle.sql_keeper.specs.Tidy.{AreTidyRows, EndsTidy, IsTidy}
use Rattle.sql_keeper.specs.Writes.{head_columns_of, meta_at}
use Rattle.sql_keeper.specs.declared.swept_rows.SweptAccount.{SweptAccount}
use Rattle.sql_keeper.proofs.commits.Changed.{may_at, over_stored}
use Rattle.sql_keeper.proofs.sweeps.Swept.{found_one, next_is, row_after, rows_are, swept_at}
use Rattle.sql_keeper.proofs.sweeps.Swept.{swept_kept, swept_meta}
use Rattle.sql_keeper.proofs.sweeps.SweptNamed.{after, may_swept, opens_swept, settled_swept}
use Rattle.sql_keeper.proofs.puts.Overlays.{number_from}
use Rattle.sql_keeper.proofs.rules.Tidy.{AreAllBeside, MayBeOver, all_found, beside_stored}
use Rattle.sql_keeper.proofs.rules.Tidy.{tidy_meta}
use Rattle.sql_keeper.proofs.rules.Tidy.{tidy_stored}
use Rattle.sql_keeper.proofs.rules.TidyChanges.{ends_settled}

-- ---- the numbers of buckets

next_bucket_is : (shelf : Shelf) (t : ℕ) (w : StoredRows) →
    (rows_at shelf t w).next_bucket ≡ w.next_bucket
next_bucket_is shelf t w = at (nat_le w.as_of t)
  where
    at : (b : Bool) → (if b then advanced_stored shelf t w else w).next_bucket ≡ w.next_bucket
    at true = refl
    at false = refl

below_filter : (next : ℕ) (p : BucketRow → Bool) (xs : List BucketRow) → IsBelow next xs →
    IsBelow next (filter p xs)
below_filter next p [] h = tt
below_filter next p (x ∷ xs) h =
    elim (p x) as (λ t. IsBelow next (cond t (x ∷ filter p xs) (filter p xs)))
    [ true ↦ (h.0, below_filter next p xs h.1) | false ↦ below_filter next p xs h.1 ]

number_below : (n next : ℕ) (xs : List BucketRow) (x : BucketRow) → IsBelow next xs
    → bucket_in n xs ≡ Some x → n < next
number_below n next [] x h e = absurd (cc e)
number_below n next (y ∷ ys) x h e =
    at (nat_eq y.number n) refl h.0 (number_below n next ys x h.1) e
  where
    at : (t : Bool) → nat_eq y.number n ≡ t → y.number < next
        → (bucket_in n ys ≡ Some x → n < next) → cond t (Some y) (bucket_in n ys) ≡ Some x
        → n < next
    at true f low rest e = subst (λ m. m < next) (number_from y.number n f) low
    at false f low rest e = rest e

-- ---- moments

later_still : (shelf : Shelf) (t u : ℕ) (w : StoredRows) → nat_le u w.as_of ≡ true →
    nat_le u (rows_at shelf t w).as_of ≡ true
later_still shelf t u w e = at (nat_le w.as_of t) refl
  where
    at : (b : Bool) → nat_le w.as_of t ≡ b →
        nat_le u (if b then advanced_stored shelf t w else w).as_of ≡ true
    at true f = grind (arith, nat_tests, e, f)
    at false f = e

-- what is tested of each account
swept_timely : (names : Names) (t : ℕ) (x : SweptAccount) → is_ruled_swept names t x ≡ true →
    are_timely_sessions x.rows.as_of x.rows.sessions ≡ true
swept_timely names t x rule =
    (and_parts (nat_le x.rows.as_of t) (are_timely_sessions x.rows.as_of x.rows.sessions)
    (and_parts (are_ruled_rows names x.number x.rows) (are_timely_rows t x.rows) rule).1).1

-- and so of one that is found among those that are swept
pub timely_found : (names : Names) (t : ℕ) (xs : List SweptAccount) (a : List ℕ) (x : SweptAccount)
    → is_ruled_sweep names t xs ≡ true → swept_at a xs ≡ Some x
    → are_timely_sessions x.rows.as_of x.rows.sessions ≡ true
timely_found names t xs a x ruled e =
    swept_timely names t x (all_found (is_ruled_swept names t) (λ y. same_name y.number a) xs x
    (and_parts (is_moment t) (list_all (is_ruled_swept names t) xs) ruled).1 e).0

-- ---- what is written of an account

module _ (names : Names) (shelf : Shelf) (t : ℕ) (r : TableRows) (w : StoredRows)
    (swept : AreSweptRows names shelf t r w)
    (timely : are_timely_sessions w.as_of w.sessions ≡ true) where
  abbrev among : List Session
  among = (after names shelf t r w swept).sessions

  pub over : MayBeOver names w r
  over = record {
    live = λ s g x y is has. opens_swept names shelf t r w swept s (stands s g x y is has).live;
    before = λ s g x y is has. (stands s g x y is has).before;
    after = λ s g x y is has. (stands s g x y is has).after;
    numbers = λ n is. sym (ap (is_numbered n) ((swept.live shelf t).0 ∙ ap (λ m. Some (record
        (head_columns_of swept.before) { next_charge = m })) next_same)) ∙ is;
    lower = λ n is. subst (λ m. nat_lt n m ≡ true) (sym bucket_same)
        (subst (λ o. is_bucket_numbered n o ≡ true) (swept.live shelf t).0 is);
    named = λ n x is. lt-ltb n w.next_bucket (below_each n x is);
    later = λ u is. subst (λ (y : StoredRows). nat_le u y.as_of ≡ true) (sym swept.is)
        (later_still shelf t u swept.before
        (subst (λ o. is_reached u o ≡ true) (swept.live shelf t).0 is));
    touched = λ s x is. (all_found (λ (y : Session). nat_le y.touched w.as_of) (is_session s)
        w.sessions x timely is).0;
  }
    where
      bucket_same : w.next_bucket ≡ swept.before.next_bucket
      bucket_same = ap (λ (x : StoredRows). x.next_bucket) swept.is
          ∙ next_bucket_is shelf t swept.before

      below_each : (n : ℕ) (x : BucketRow) → bucket_in n w.buckets ≡ Some x → n < w.next_bucket
      below_each n x is = number_below n w.next_bucket w.buckets x
          (subst (λ (y : StoredRows). IsBelow y.next_bucket y.buckets) (sym swept.is)
          (below_filter (rows_at shelf t swept.before).next_bucket
          (λ b. not (list_any (equal_bucket b) swept.before.buckets))
          (rows_at shelf t swept.before).buckets swept.kept.stored.below)) is

      next_same : swept.before.next_charge ≡ w.next_charge
      next_same = sym (ap (λ (x : StoredRows). x.next_charge) swept.is
          ∙ next_is shelf t swept.before)

      stands : (s : List ℕ) (g : ℕ) (x : SessionGroup) (y : Reservation)
          → group_in s g w.groups ≡ Some x → x.reservation ≡ Some y → IsWritable names among s y
      stands s g x y is has = subst (MayStand names among s) has
          (may_at names among w.groups (may_swept names shelf t r w swept) s g x is)

  ends : EndsTidy w r
  ends = ends_settled w r (settled_swept names shelf t r w swept)

  tidy_swept : (a : List ℕ) → AreTidyRows names a r → AreTidyRows names a (over_stored names w r)
  tidy_swept a tidy = tidy_stored names a w r tidy ends over

  beside_swept : AreBeside r → AreBeside (over_stored names w r)
  beside_swept own = beside_stored names w r own ends over

-- ---- all accounts

-- rule: tidy-rows
pub tidy_sweep : (names : Names) (text : List ℕ) (shelf : Shelf) (t : ℕ) (c : TablesContent)
    (xs : List SweptAccount) → IsShelf shelf → AreAllSwept names shelf t c xs
    → is_ruled_sweep names t xs ≡ true → IsTidy names c
    → IsTidy names (with_sweep names text t xs c)
tidy_sweep names text shelf t c xs ranges all ruled tidy =
    let m = tidy_meta names (meta_at text t) c tidy in
    record {
      there = ap is_some (swept_meta names text shelf t c xs ranges all);
      once = swept_kept names text shelf t c xs ranges all ∙ m.once;
      rows = λ a. subst (AreTidyRows names a)
          (sym (rows_are names text shelf t c xs ranges all a)) (at a (swept_at a xs) refl);
    }
  where
    at : (a : List ℕ) (o : Option SweptAccount) → swept_at a xs ≡ o →
        AreTidyRows names a (row_after names o (c.rows a))
    at a None e = tidy.rows a
    at a (Some x) e =
        let one = found_one (IsSweptOf names shelf t c) a xs x all.each e in
        tidy_swept names shelf t (c.rows a) x.rows
        (subst (λ n. AreSweptRows names shelf t (c.rows n) x.rows) one.1 one.0)
        (timely_found names t xs a x ruled e)
        a (tidy.rows a)

-- rule: rows-ruled.beside
pub beside_sweep : (names : Names) (text : List ℕ) (shelf : Shelf) (t : ℕ) (c : TablesContent)
    (xs : List SweptAccount) → IsShelf shelf → AreAllSwept names shelf t c xs
    → is_ruled_sweep names t xs ≡ true → AreAllBeside c
    → AreAllBeside (with_sweep names text t xs c)
beside_sweep names text shelf t c xs ranges all ruled beside a =
    subst AreBeside (sym (rows_are names text shelf t c xs ranges all a)) (at (swept_at a xs) refl)
  where
    at : (o : Option SweptAccount) → swept_at a xs ≡ o → AreBeside (row_after names o (c.rows a))
    at None e = beside a
    at (Some x) e =
        let one = found_one (IsSweptOf names shelf t c) a xs x all.each e in
        beside_swept names shelf t (c.rows a) x.rows
        (subst (λ n. AreSweptRows names shelf t (c.rows n) x.rows) one.1 one.0)
        (timely_found names t xs a x ruled e) (beside a)
