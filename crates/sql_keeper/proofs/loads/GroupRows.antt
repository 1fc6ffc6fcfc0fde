-- What open sessions have of rating groups, by the rows that were read.
use Rattle.std.proofs.Common.{◌≡◌, ◌<◌, ℕ, Bool, true, false, cond, List, [], ◌∷◌, ◌++◌, Option}
use Rattle.std.proofs.Common.{Some, None, length, map, take, get_or, refl, sym, ap, ap₂, subst, ◌∙◌}
use Rattle.std.proofs.Common.{true≢false}
use Rattle.std.specs.Prelude.{if◌then◌else◌, ◌&&◌, ◌==◌, ◌+◌, nat_eq, option_map, unwrap_or}
use Rattle.std.specs.Prelude.{filter, is_some, nat_lt, not, ◌||◌}
use Rattle.std.specs.List.{find, list_any, AllZip}
use Rattle.std.proofs.lemmas.Bool.{and_parts}
use Rattle.std.proofs.lemmas.List.{map_more}
use Rattle.std.proofs.lemmas.Slice.Zip.{all_zipped_more}
use Rattle.rating.specs.declared.grant.Periods.{Periods}
use Rattle.buckets.specs.Row.{BucketRow}
use Rattle.buckets.specs.Spend.{AreDistinct}
use Rattle.reserving.specs.declared.session.SessionGroup.{SessionGroup}
use Rattle.reserving.specs.declared.session.Reservation.{Reservation}
use Rattle.ledger.specs.declared.terms.Terms.{Terms}
use Rattle.reserving.specs.Sessions.{is_of, group_in, holds_in}
use Rattle.reserving.specs.Left.{is_open_row}
use Rattle.reserving.proofs.Lists.{no_some, some_of}
use Rattle.keepers.specs.Tables.{GroupRow, group_row, held_at, held_of}
use Rattle.sql_tables.specs.Keyed.{same_name}
use Rattle.sql_rows.specs.declared.hold_rows.HeldColumns.{HeldColumns}
use Rattle.sql_rows.specs.declared.open_group_rows.OpenGroup.{OpenGroup}
use Rattle.sql_rows.specs.declared.session_book_rows.SessionBook.{SessionBook}
use Rattle.sql_rows.specs.declared.session_hold_rows.SessionHold.{SessionHold}
use Rattle.sql_rows.specs.Content.{TableRows}
use Rattle.sql_rows.specs.Lists.{AreAllGrantBooks, AreAllHolds, AreOpenGroups, OpenGroupAt}
use Rattle.sql_rows.specs.Lists.{SessionBookAt, SessionHoldAt, is_book_of, is_group_of, is_hold_of}
use Rattle.sql_rows.specs.Texts.{open_group_at, session_book_at, session_hold_at}
use Rattle.sql_rows.specs.Values.{Group, PeriodNames}
use Rattle.sql_keeper.specs.Content.{stored_group_in, is_reserved, held_in, periods_in}
use Rattle.sql_keeper.specs.Content.{book_in, names_numbered, terms_in, Names}
use Rattle.sql_keeper.specs.GroupRows.{amount_of, book_of, held_for, ArePeriodsOf, AreTermsOf}
use Rattle.sql_keeper.specs.GroupRows.{AreHoldsOf, IsReservationOf, are_held_of, is_held_of}
use Rattle.sql_keeper.specs.GroupRows.{IsGroupOf, AreGroupsOf}
use Rattle.sql_keeper.specs.LiveGroups.{AreLiveGroups}
use Rattle.sql_keeper.proofs.loads.HeldAlong.{held_along}
use Rattle.sql_keeper.proofs.puts.Overlays.{name_from, number_from}

periods_are : (names : List (List ℕ)) (p : PeriodNames) (q : Periods) → ArePeriodsOf names p q
    → q ≡ periods_in names p
periods_are names p q h = λ i. record {
  before = unwrap_or (sym h.before i) (record { 0 = 0 });
  after = unwrap_or (sym h.after i) (record { 0 = 0 });
}

terms_are : (names : Names) (number : Option ℕ) (p : PeriodNames) (x : Terms)
    → AreTermsOf names number p x → x ≡ terms_in names (book_in number) p
terms_are names number p x h =
    (λ i. record {
      book = x.book;
      periods = periods_are (names_numbered names x.book) p x.periods h.periods i;
    })
    ∙ (λ i. terms_in names (book_in (sym h.book i)) p)

-- ---- what was read of all sessions, as of one

-- the book of a reservation, by the rows that were read
books_are : (s : List ℕ) (g : ℕ) (books : List SessionBook)
    → option_map (λ (x : SessionBookAt). x.book)
    (find (is_book_of s g) (map session_book_at books))
    ≡ book_of s g books
books_are s g [] = refl
books_are s g (x ∷ xs) = go (books_are s g xs) (same_name x.session s && x.columns.group == g)
  where
    go : option_map (λ (y : SessionBookAt). y.book)
        (find (is_book_of s g) (map session_book_at xs)) ≡ book_of s g xs → (t : Bool)
        → option_map (λ (y : SessionBookAt). y.book)
        (cond t (Some (session_book_at x)) (find (is_book_of s g) (map session_book_at xs)))
        ≡ option_map (λ (y : SessionBook). y.columns.book)
        (cond t (Some x) (find (λ y. same_name y.session s && y.columns.group == g) xs))
    go later true = refl
    go later false = later

-- what is held for it
abbrev AreHeldFor : List ℕ → ℕ → ℕ → List SessionHold → Type 0
AreHeldFor s g n held =
    option_map (λ (x : SessionHoldAt). x.amount)
    (find (is_hold_of s g n) (map session_hold_at held))
    ≡ option_map (λ (x : HeldColumns). x.amount)
    (find (λ x. x.group == g && x.bucket == n) (held_for s held))

are_held_for : (s : List ℕ) (g n : ℕ) (held : List SessionHold) → AreHeldFor s g n held
are_held_for s g n [] = refl
are_held_for s g n (x ∷ xs) = of_it (are_held_for s g n xs) (same_name x.session s)
  where
    here : AreHeldFor s g n xs → (t : Bool)
        → option_map (λ (y : SessionHoldAt). y.amount)
        (cond t (Some (session_hold_at x)) (find (is_hold_of s g n) (map session_hold_at xs)))
        ≡ option_map (λ (y : HeldColumns). y.amount)
        (cond t (Some x.columns) (find (λ y. y.group == g && y.bucket == n) (held_for s xs)))
    here later true = refl
    here later false = later

    of_it : AreHeldFor s g n xs → (t : Bool)
        → option_map (λ (y : SessionHoldAt). y.amount)
        (cond (t && (x.columns.group == g && x.columns.bucket == n)) (Some (session_hold_at x))
        (find (is_hold_of s g n) (map session_hold_at xs)))
        ≡ option_map (λ (y : HeldColumns). y.amount)
        (find (λ y. y.group == g && y.bucket == n)
        (map (λ (y : SessionHold). y.columns)
        (cond t (x ∷ filter (λ (y : SessionHold). same_name y.session s) xs)
        (filter (λ (y : SessionHold). same_name y.session s) xs))))
    of_it later true = here later (x.columns.group == g && x.columns.bucket == n)
    of_it later false = later

-- ---- one reservation

module _ (names : Names) (buckets : List BucketRow) (held : List HeldColumns)
    (number : Option ℕ) where
  reserved_is : (g : ℕ) (o : Option PeriodNames) (r : Option Reservation)
      → IsReservationOf names buckets held number g o r
      → option_map (λ (x : Reservation). x.terms) r
      ≡ option_map (terms_in names (book_in number)) o
  reserved_is g None None h = refl
  reserved_is g None (Some r) h = absurd h
  reserved_is g (Some p) None h = absurd h
  reserved_is g (Some p) (Some r) h = ap Some (terms_are names number p r.terms h.0)

  holds_are : AreDistinct buckets → (g n : ℕ) (o : Option PeriodNames) (r : Option Reservation)
      → IsReservationOf names buckets held number g o r
      → held_at n (holds_in r) ≡ (if is_some o then amount_of g held n else 0)
  holds_are distinct g n None None h = refl
  holds_are distinct g n None (Some r) h = absurd h
  holds_are distinct g n (Some p) None h = absurd h
  holds_are distinct g n (Some p) (Some r) h =
      ap (held_at n) h.1.order ∙ held_along buckets g n held distinct h.1.all

module _ (names : Names) (buckets : List BucketRow) (held : List SessionHold)
    (books : List SessionBook)
  where
    -- ---- one row

    row_is : (c : OpenGroupAt) (x : SessionGroup) → IsGroupOf names buckets held books c x
        → group_row x ≡ stored_group_in names true (book_of c.session c.group books) c.row
    row_is c x h = λ i. record {
      used = h.used i;
      terms = reserved_is names buckets (held_for c.session held)
          (book_of c.session c.group books) c.group c.row.periods x.reservation h.reservation i;
    }

    -- ---- the row of a key

    abbrev IsFound : List ℕ → ℕ → Option OpenGroupAt → Option SessionGroup → Type 0
    IsFound s g None None = Unit {0}
    IsFound s g None (Some x) = ⊥
    IsFound s g (Some c) None = ⊥
    IsFound s g (Some c) (Some x) =
        (c.session ≡ s) × (c.group ≡ g) × IsGroupOf names buckets held books c x

    found : (s : List ℕ) (g : ℕ) (cs : List OpenGroupAt) (xs : List SessionGroup)
        → AreGroupsOf names buckets held books cs xs
        → IsFound s g (find (is_group_of s g) cs) (group_in s g xs)
    found s g [] [] h = tt
    found s g [] (x ∷ xs) h = absurd h
    found s g (c ∷ cs) [] h = absurd h
    found s g (c ∷ cs) (x ∷ xs) h =
        go (found s g cs xs h.1) (is_group_of s g c) (is_of s g x) refl same
      where
        same : is_of s g x ≡ is_group_of s g c
        same = ap₂ (λ n m. same_name n s && nat_eq m g) h.0.session h.0.group

        go : IsFound s g (find (is_group_of s g) cs) (group_in s g xs) → (q k : Bool)
            → is_group_of s g c ≡ q → k ≡ q
            → IsFound s g (cond q (Some c) (find (is_group_of s g) cs))
            (cond k (Some x) (group_in s g xs))
        go later true true a b =
            let parts = and_parts (same_name c.session s) (nat_eq c.group g) a in
            (name_from c.session s parts.0, number_from c.group g parts.1, h.0)
        go later true false a b = absurd (true≢false (sym b))
        go later false true a b = absurd (true≢false b)
        go later false false a b = later

    row_told : (s : List ℕ) (g : ℕ) (c : Option OpenGroupAt) (x : Option SessionGroup)
        → IsFound s g c x
        → option_map group_row x
        ≡ option_map (stored_group_in names true (book_of s g books))
        (option_map (λ (y : OpenGroupAt). y.row) c)
    row_told s g None None h = refl
    row_told s g None (Some x) h = absurd h
    row_told s g (Some c) None h = absurd h
    row_told s g (Some c) (Some x) h = ap Some (row_is c x h.2)
        ∙ ap₂ (λ n k. Some (stored_group_in names true (book_of n k books) c.row)) h.0 h.1

    held_told : AreDistinct buckets
        → (s : List ℕ) (g n : ℕ) (c : Option OpenGroupAt) (x : Option SessionGroup)
        → IsFound s g c x
        → held_of n x
        ≡ (if is_reserved (option_map (λ (y : OpenGroupAt). y.row) c)
        then amount_of g (held_for s held) n else 0)
    held_told distinct s g n None None h = refl
    held_told distinct s g n None (Some x) h = absurd h
    held_told distinct s g n (Some c) None h = absurd h
    held_told distinct s g n (Some c) (Some x) h =
        holds_are names buckets (held_for c.session held) (book_of c.session c.group books) distinct
        c.group n c.row.periods x.reservation h.2.reservation
        ∙ ap₂ (λ m k. if is_some c.row.periods then amount_of k (held_for m held) n else 0) h.0 h.1

    -- the reservation of a key
    abbrev IsGranted : List ℕ → ℕ → Reservation → Type 0
    IsGranted s g v = (book_of s g books ≡ Some v.terms.book)
        × AreHoldsOf buckets (held_for s held) g v.holds

    granted_in : (s : List ℕ) (g : ℕ) (c : Option OpenGroupAt) (x : Option SessionGroup)
        → IsFound s g c x → (y : SessionGroup) (v : Reservation) → x ≡ Some y
        → y.reservation ≡ Some v → IsGranted s g v
    granted_in s g None None h y v e f = absurd (no_some y e)
    granted_in s g None (Some x) h y v e f = absurd h
    granted_in s g (Some c) None h y v e f = absurd (no_some y e)
    granted_in s g (Some c) (Some x) h y v e f =
        subst (λ n. IsGranted n g v) h.0 (subst (λ k. IsGranted c.session k v) h.1
        (reserved_at c.row.periods x.reservation h.2.reservation v
        (ap (λ (z : SessionGroup). z.reservation) (some_of x y e) ∙ f)))
      where
        reserved_at : (o : Option PeriodNames) (r : Option Reservation)
            → IsReservationOf names buckets (held_for c.session held)
            (book_of c.session c.group books) c.group o r → (w : Reservation) → r ≡ Some w
            → IsGranted c.session c.group w
        reserved_at None None k w i = absurd (no_some w i)
        reserved_at None (Some r) k w i = absurd k
        reserved_at (Some p) None k w i = absurd k
        reserved_at (Some p) (Some r) k w i =
            subst (IsGranted c.session c.group) (some_of r w i) (k.0.book, k.1)

-- no row of a rating group says that nothing is held
none_empty : (buckets : List BucketRow) (g n : ℕ) (held : List HeldColumns)
    → are_held_of buckets g held ≡ true
    → ¬ (option_map (λ (x : HeldColumns). x.amount)
    (find (λ x. x.group == g && x.bucket == n) held) ≡ Some 0)
none_empty buckets g n [] all = λ e. no_some 0 e
none_empty buckets g n (x ∷ xs) all =
    let parts = and_parts (not (x.group == g) || is_held_of buckets x)
    (are_held_of buckets g xs) all in
    at (x.group == g) (x.bucket == n) refl parts.0 (none_empty buckets g n xs parts.1)
  where
    none : (amount : ℕ) (there : Bool) → (nat_lt 0 amount && there) ≡ true → amount ≡ 0 → ⊥
    none amount there some e =
        absurd (let less : nat_lt 0 0 ≡ true = ap (λ m. nat_lt 0 m) (sym e)
        ∙ (and_parts (nat_lt 0 amount) there some).0 in cc)

    at : (t u : Bool) → (x.group == g) ≡ t → (not (x.group == g) || is_held_of buckets x) ≡ true
        → ¬ (option_map (λ (y : HeldColumns). y.amount)
        (find (λ y. y.group == g && y.bucket == n) xs) ≡ Some 0)
        → ¬ (option_map (λ (y : HeldColumns). y.amount)
        (cond (t && u) (Some x) (find (λ y. y.group == g && y.bucket == n) xs)) ≡ Some 0)
    at true true here passes later e =
        none x.amount (list_any (λ (b : BucketRow). b.number == x.bucket) buckets)
        (sym (ap (λ b. not b || is_held_of buckets x) here) ∙ passes) (some_of x.amount 0 e)
    at true false here passes later e = later e
    at false u here passes later e = later e

none_of : (o : Option ℕ) → unwrap_or o 0 ≡ 0 → ¬ (o ≡ Some 0) → o ≡ None
none_of None e none = refl
none_of (Some m) e none = absurd (none (ap Some e))

rows_if : (f : Group → GroupRow) (on : Bool) (o : Option Group)
    → option_map f (if on then o else None) ≡ (if on then option_map f o else None)
rows_if f true o = refl
rows_if f false o = refl

held_if : (on : Bool) (o : Option Group) (amount : Option ℕ)
    → (if is_reserved (if on then o else None) then unwrap_or amount 0 else 0)
    ≡ (if on then held_in (is_reserved o) amount else 0)
held_if true o amount = refl
held_if false o amount = refl

-- all that the open sessions have
-- rule: database-loads.live-groups, database-loads.group-of
pub live_groups : (names : Names) (rows : TableRows) (buckets : List BucketRow)
    (held : List SessionHold)
    (books : List SessionBook) (cs : List OpenGroupAt) (xs : List SessionGroup)
    → AreDistinct buckets → AreOpenGroups rows cs → AreAllHolds rows (map session_hold_at held)
    → AreAllGrantBooks rows (map session_book_at books)
    → AreGroupsOf names buckets held books cs xs → AreLiveGroups names rows xs
live_groups names rows buckets held books cs xs distinct groups holds numbers all = record {
  told = record {
    groups = λ s g.
        row_told names buckets held books s g (find (is_group_of s g) cs) (group_in s g xs)
        (found names buckets held books s g cs xs all)
        ∙ ap₂ (λ b o. option_map (stored_group_in names true b) o)
        (sym (books_are s g books) ∙ numbers s g) (groups s g)
        ∙ rows_if (stored_group_in names true (rows.grant_books s g))
        (is_open_row (rows.sessions s))
        (rows.groups s g);
    holds = λ s g n.
        held_told names buckets held books distinct s g n (find (is_group_of s g) cs)
        (group_in s g xs) (found names buckets held books s g cs xs all)
        ∙ ap₂ (λ o a. if is_reserved o then a else 0) (groups s g) (amount_is s g n)
        ∙ held_if (is_open_row (rows.sessions s)) (rows.groups s g) (rows.holds s g n);
  };
  grants = λ s g x v e f.
      let own = granted_in names buckets held books s g (find (is_group_of s g) cs)
      (group_in s g xs) (found names buckets held books s g cs xs all) x v e f in
      record {
        book = sym (sym (books_are s g books) ∙ numbers s g) ∙ own.0;
        held = λ n k. none_of (rows.holds s g n)
            (sym (amount_is s g n)
            ∙ sym (ap (held_at n) own.1.order
            ∙ held_along buckets g n (held_for s held) distinct own.1.all) ∙ k)
            (λ z. none_empty buckets g n (held_for s held) own.1.all
            (sym (are_held_for s g n held) ∙ holds s g n ∙ z));
      };
}
  where
    amount_is : (s : List ℕ) (g n : ℕ)
        → amount_of g (held_for s held) n ≡ unwrap_or (rows.holds s g n) 0
    amount_is s g n = ap (λ o. unwrap_or o 0) (sym (are_held_for s g n held) ∙ holds s g n)

-- a row more is made
pub row_made : (R : OpenGroupAt → SessionGroup → Type 0) (rows : List OpenGroup) (i : ℕ)
    (row : OpenGroup) (xs ys : List SessionGroup) (x : SessionGroup) → i < length rows
    → row ≡ get_or rows i row
    → ys ≡ xs ++ x ∷ [] → AllZip R (map open_group_at (take i rows)) xs → R (open_group_at row) x
    → AllZip R (map open_group_at (take (i + 1) rows)) ys
row_made R rows i row xs ys x less is more before here =
    subst (λ l. AllZip R (map open_group_at (take (i + 1) rows)) l) (sym more)
    (subst (λ l. AllZip R l (xs ++ x ∷ []))
    (ap (λ r. map open_group_at (take i rows) ++ open_group_at r ∷ []) is
    ∙ sym (map_more open_group_at rows i row less))
    (all_zipped_more R (map open_group_at (take i rows)) xs (open_group_at row) x before here))
