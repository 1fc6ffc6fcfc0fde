-- What sessions have of rating groups, and what is held there, put one after another.
use Rattle.std.proofs.Common.{◌≡◌, ◌≢◌, ℕ, Bool, true, false, cond, List, [], ◌∷◌, refl, ap, subst}
use Rattle.std.proofs.Common.{◌∙◌, arith, Option, Some, None}
use Rattle.std.specs.Prelude.{if◌then◌else◌, ◌==◌, ◌&&◌, ◌+◌, nat_eq, option_map, unwrap_or}
use Rattle.std.specs.List.{find, AllByRecursion}
use Rattle.std.proofs.lemmas.List.Sums.{sum_by-cons}
use Rattle.identifiers.specs.Texts.{same_name}
use Rattle.buckets.specs.declared.holds.HeldAmount.{HeldAmount}
use Rattle.buckets.specs.Holding.{AreHolds}
use Rattle.reserving.specs.declared.session.Session.{Session}
use Rattle.reserving.specs.declared.session.SessionGroup.{SessionGroup}
use Rattle.reserving.specs.declared.session.Reservation.{Reservation}
use Rattle.reserving.specs.Sessions.{is_of, group_in, holds_in}
use Rattle.ledger.specs.Lists.{EachIn}
use Rattle.reserving.specs.Rows.{AreApart}
use Rattle.reserving.specs.Left.{first_of}
use Rattle.reserving.proofs.LeftParted.{one_group}
use Rattle.reserving.proofs.LeftTests.{none_more, first_alone}
use Rattle.keepers.specs.Keyed.{same_group}
use Rattle.keepers.specs.Tables.{held_at}
use Rattle.sql_rows.specs.Values.{Group}
use Rattle.sql_rows.specs.Content.{TableRows, TablesContent, with_rows, with_group_row}
use Rattle.sql_rows.specs.Content.{with_hold_row, without_holds}
use Rattle.sql_rows.specs.Each.{with_holds}
use Rattle.sql_keeper.specs.Content.{Names}
use Rattle.sql_keeper.specs.Writes.{columns_of, with_book_of, with_held_group, with_groups}
use Rattle.sql_keeper.specs.Tests.{MayStand, AreWritable}
use Rattle.sql_keeper.proofs.puts.Overlays.{number_from, with_twice, each, each_over}

-- what the holds have of a bucket
abbrev pub amount_at : ℕ → List HeldAmount → Option ℕ
amount_at n hs = option_map (λ (h : HeldAmount). h.amount) (find (λ h. nat_eq h.bucket n) hs)

-- ---- holds, one after another

abbrev pub over_holds : List ℕ → ℕ → List HeldAmount → TableRows → TableRows
over_holds s g hs r = record r {
  holds = λ t h n. if same_name s t && nat_eq g h then first_of (amount_at n hs) (r.holds t h n)
      else r.holds t h n;
}

abbrev pub same_hold : HeldAmount → HeldAmount → Bool
same_hold x y = nat_eq y.bucket x.bucket

holds_apart_from : (n : ℕ) (hs : List HeldAmount) → AllByRecursion
    (λ (h : HeldAmount). h.bucket ≢ n) hs →
    EachIn (λ y. nat_eq y.bucket n ≡ false) hs
holds_apart_from n [] h = tt
holds_apart_from n (x ∷ xs) h = (go (nat_eq x.bucket n) refl, holds_apart_from n xs h.1)
  where
    go : (t : Bool) → nat_eq x.bucket n ≡ t → nat_eq x.bucket n ≡ false
    go true e = absurd (h.0 (number_from x.bucket n e))
    go false e = e

holds_apart : (hs : List HeldAmount) → AreHolds hs → AreApart same_hold hs
holds_apart [] h = tt
holds_apart (x ∷ xs) h = (holds_apart_from x.bucket xs h.1, holds_apart xs h.2)

one_hold : (n : ℕ) (x y : HeldAmount) → nat_eq x.bucket n ≡ true → nat_eq y.bucket n ≡ true →
    same_hold x y ≡ true
one_hold n x y p q = ap (nat_eq y.bucket) (number_from x.bucket n p) ∙ q

-- a hold over those after it
hold_over : (n : ℕ) (x : HeldAmount) (xs : List HeldAmount) (before : Option ℕ)
    → EachIn (λ y. same_hold x y ≡ false) xs
    → first_of (amount_at n xs) (if nat_eq x.bucket n then Some x.amount else before)
    ≡ first_of (amount_at n (x ∷ xs)) before
hold_over n x xs before h = at (nat_eq x.bucket n) refl
  where
    at : (t : Bool) → nat_eq x.bucket n ≡ t
        → first_of (amount_at n xs) (if t then Some x.amount else before)
        ≡ first_of (option_map (λ (h : HeldAmount). h.amount)
        (cond t (Some x) (find (λ h. nat_eq h.bucket n) xs))) before
    at true e = ap (λ o. first_of (option_map (λ (h : HeldAmount). h.amount) o) (Some x.amount))
        (none_more same_hold (λ h. nat_eq h.bucket n) (one_hold n) x xs e h)
    at false e = refl

hold_put : (p q t : Bool) (some first : Option ℕ) (amount : ℕ) (before : Option ℕ)
    → first_of some (if t then Some amount else before) ≡ first_of first before
    → (if p && q then first_of some (if p && (q && t) then Some amount else before)
    else (if p && (q && t) then Some amount else before))
    ≡ (if p && q then first_of first before else before)
hold_put true true t some first amount before e = e
hold_put true false t some first amount before e = refl
hold_put false q t some first amount before e = refl

none_held : (p : Bool) (before : Option ℕ) → (if p then before else before) ≡ before
none_held true before = refl
none_held false before = refl

holds_each : (a s : List ℕ) (g : ℕ) (hs : List HeldAmount) (c : TablesContent) →
    with_holds a s g hs c ≡ each a (λ h. with_hold_row s g h.bucket h.amount) hs c
unfolding each
holds_each a s g [] c = refl
holds_each a s g (h ∷ hs) c = holds_each a s g hs (with_rows a (with_hold_row s g h.bucket h.amount)
    c)

pub holds_over : (a s : List ℕ) (g : ℕ) (hs : List HeldAmount) (c : TablesContent) → AreHolds hs →
    with_holds a s g hs c ≡ with_rows a (over_holds s g hs) c
holds_over a s g hs c apart =
    holds_each a s g hs c
    ∙ each_over a same_hold (λ h. with_hold_row s g h.bucket h.amount) (over_holds s g)
    (λ r i. record r { holds = λ t h n. none_held (same_name s t && nat_eq g h) (r.holds t h n) i })
    (λ x xs r h i. record r {
      holds = λ t k n.
          hold_put (same_name s t) (nat_eq g k) (nat_eq x.bucket n) (amount_at n xs)
          (amount_at n (x ∷ xs)) x.amount (r.holds t k n) (hold_over n x xs (r.holds t k n) h) i;
    })
    hs c (holds_apart hs apart)

-- what is held is the sum, as no bucket comes twice
held_cons : (n : ℕ) (x : HeldAmount) (xs : List HeldAmount) →
    held_at n (x ∷ xs) ≡ (if nat_eq x.bucket n then x.amount else 0) + held_at n xs
held_cons n x xs = sum_by-cons (λ (h : HeldAmount). if h.bucket == n then h.amount else 0) x xs

zero_plus : (n : ℕ) → 0 + n ≡ n
zero_plus n = omega arith

pub none_at : (n : ℕ) (hs : List HeldAmount) → EachIn (λ y. nat_eq y.bucket n ≡ false) hs →
    held_at n hs ≡ 0
none_at n [] h = refl
none_at n (x ∷ xs) h = held_cons n x xs
    ∙ ap (λ t. (if t then x.amount else 0) + held_at n xs) h.0
    ∙ zero_plus (held_at n xs)
    ∙ none_at n xs h.1

plus_none : (n m : ℕ) → m ≡ 0 → n + m ≡ n
plus_none n m e = omega (arith, e)

pub held_is : (n : ℕ) (hs : List HeldAmount) → AreHolds hs → held_at n hs ≡ unwrap_or
    (amount_at n hs) 0
held_is n [] h = refl
held_is n (x ∷ xs) h = held_cons n x xs ∙ at (nat_eq x.bucket n) refl (held_is n xs h.2)
  where
    at : (t : Bool) → nat_eq x.bucket n ≡ t → held_at n xs ≡ unwrap_or (amount_at n xs) 0
        → (if t then x.amount else 0) + held_at n xs ≡ unwrap_or
        (option_map (λ (h : HeldAmount). h.amount) (cond t (Some x)
        (find (λ h. nat_eq h.bucket n) xs))) 0
    at true e rest = plus_none x.amount (held_at n xs)
        (none_at n xs (subst (λ m. EachIn (λ (y : HeldAmount). nat_eq y.bucket m ≡ false) xs)
        (number_from x.bucket n e) (holds_apart_from x.bucket xs h.1)))
    at false e rest = zero_plus (held_at n xs) ∙ rest

-- ---- a group with the book of its reservation, and with what is held there

abbrev pub book_put : Option Reservation → Option ℕ
book_put None = None
book_put (Some x) = Some x.terms.book

abbrev booked : List ℕ → ℕ → Option Reservation → TableRows → TableRows
booked s g o r = record r {
  grant_books = λ t h. if same_name s t && nat_eq g h then book_put o else r.grant_books t h;
}

book_is : (s : List ℕ) (g : ℕ) (o : Option Reservation) (r : TableRows) →
    with_book_of s g o r ≡ booked s g o r
book_is s g None r = refl
book_is s g (Some x) r = refl

abbrev pub put_group : Names → SessionGroup → TableRows → TableRows
put_group names r x = record x {
  groups = λ t h. if same_name r.session t && nat_eq r.group h then Some (columns_of names r)
      else x.groups t h;
  grant_books = λ t h. if same_name r.session t && nat_eq r.group h then book_put r.reservation
      else x.grant_books t h;
  holds = λ t h n. if same_name r.session t && nat_eq r.group h
      then amount_at n (holds_in r.reservation) else x.holds t h n;
}

held_put : (p : Bool) (o before : Option ℕ) →
    (if p then first_of o (if p then None else before) else (if p then None else before))
    ≡ (if p then o else before)
held_put true o before = first_alone o
held_put false o before = refl

pub group_put : (a : List ℕ) (names : Names) (r : SessionGroup) (c : TablesContent)
    → AreHolds (holds_in r.reservation)
    → with_held_group a names r c ≡ with_rows a (put_group names r) c
group_put a names r c h =
    let one = with_group_row r.session r.group (columns_of names r) in
    let book = with_book_of r.session r.group r.reservation in
    let two = without_holds r.session r.group in
    let three = over_holds r.session r.group (holds_in r.reservation) in
    let opening = with_rows a book (with_rows a one c) in
    holds_over a r.session r.group (holds_in r.reservation) (with_rows a two opening) h
    ∙ with_twice a three two opening
    ∙ with_twice a (λ x. three (two x)) book (with_rows a one c)
    ∙ with_twice a (λ x. three (two (book x))) one c
    ∙ (λ i. with_rows a (λ x. three (two (book_is r.session r.group r.reservation (one x) i))) c)
    ∙ (λ i. with_rows a (λ x. record (booked r.session r.group r.reservation (one x)) {
      holds = λ t h n. held_put (same_name r.session t && nat_eq r.group h)
          (amount_at n (holds_in r.reservation)) (x.holds t h n) i;
    }) c)

-- ---- all groups

-- what is found of a group
abbrev pub amount_in : ℕ → Option SessionGroup → Option ℕ → Option ℕ
amount_in n None before = before
amount_in n (Some r) before = amount_at n (holds_in r.reservation)

-- and of its book
abbrev pub book_over : Option SessionGroup → Option ℕ → Option ℕ
book_over None before = before
book_over (Some r) before = book_put r.reservation

abbrev pub over_groups : Names → List SessionGroup → TableRows → TableRows
over_groups names gs x = record x {
  groups = λ s g. first_of (option_map (columns_of names) (group_in s g gs)) (x.groups s g);
  grant_books = λ s g. book_over (group_in s g gs) (x.grant_books s g);
  holds = λ s g n. amount_in n (group_in s g gs) (x.holds s g n);
}

pub may_hold : (names : Names) (sessions : List Session) (s : List ℕ) (o : Option Reservation) →
    MayStand names sessions s o → AreHolds (holds_in o)
may_hold names sessions s None h = tt
may_hold names sessions s (Some r) h = h.holds

groups_each : (a : List ℕ) (names : Names) (sessions : List Session)
    (gs : List SessionGroup) (c : TablesContent) → AreWritable names sessions gs
    → with_groups a names gs c ≡ each a (put_group names) gs c
unfolding each
groups_each a names sessions [] c h = refl
groups_each a names sessions (r ∷ rs) c h =
    groups_each a names sessions rs (with_held_group a names r c) h.1
    ∙ ap (each a (put_group names) rs)
    (group_put a names r c (may_hold names sessions r.session r.reservation h.0))

pub column_over : (names : Names) (s : List ℕ) (g : ℕ) (x : SessionGroup)
    (xs : List SessionGroup) (before : Option Group) → EachIn (λ y. same_group x y ≡ false) xs
    → first_of (option_map (columns_of names) (group_in s g xs))
    (if is_of s g x then Some (columns_of names x) else before)
    ≡ first_of (option_map (columns_of names) (group_in s g (x ∷ xs))) before
column_over names s g x xs before h = at (is_of s g x) refl
  where
    at : (t : Bool) → is_of s g x ≡ t
        → first_of (option_map (columns_of names) (group_in s g xs))
        (if t then Some (columns_of names x) else before)
        ≡ first_of (option_map (columns_of names) (cond t (Some x) (group_in s g xs))) before
    at true e = ap (λ o. first_of (option_map (columns_of names) o) (Some (columns_of names x)))
        (none_more same_group (is_of s g) (one_group s g) x xs e h)
    at false e = refl

amount_over : (n : ℕ) (s : List ℕ) (g : ℕ) (x : SessionGroup) (xs : List SessionGroup)
    (before : Option ℕ) → EachIn (λ y. same_group x y ≡ false) xs
    → amount_in n (group_in s g xs) (if is_of s g x then amount_at n (holds_in x.reservation)
    else before) ≡ amount_in n (group_in s g (x ∷ xs)) before
amount_over n s g x xs before h = at (is_of s g x) refl
  where
    at : (t : Bool) → is_of s g x ≡ t
        → amount_in n (group_in s g xs) (if t then amount_at n (holds_in x.reservation) else before)
        ≡ amount_in n (cond t (Some x) (group_in s g xs)) before
    at true e = ap (λ o. amount_in n o (amount_at n (holds_in x.reservation)))
        (none_more same_group (is_of s g) (one_group s g) x xs e h)
    at false e = refl

books_over : (s : List ℕ) (g : ℕ) (x : SessionGroup) (xs : List SessionGroup)
    (before : Option ℕ) → EachIn (λ y. same_group x y ≡ false) xs
    → book_over (group_in s g xs) (if is_of s g x then book_put x.reservation else before)
    ≡ book_over (group_in s g (x ∷ xs)) before
books_over s g x xs before h = at (is_of s g x) refl
  where
    at : (t : Bool) → is_of s g x ≡ t
        → book_over (group_in s g xs) (if t then book_put x.reservation else before)
        ≡ book_over (cond t (Some x) (group_in s g xs)) before
    at true e = ap (λ o. book_over o (book_put x.reservation))
        (none_more same_group (is_of s g) (one_group s g) x xs e h)
    at false e = refl

pub groups_over : (a : List ℕ) (names : Names) (sessions : List Session)
    (gs : List SessionGroup) (c : TablesContent)
    → AreApart (λ x y. is_of x.session x.group y) gs → AreWritable names sessions gs
    → with_groups a names gs c ≡ with_rows a (over_groups names gs) c
groups_over a names sessions gs c apart h =
    groups_each a names sessions gs c h
    ∙ each_over a same_group (put_group names) (over_groups names) (λ r. refl)
    (λ x xs r k i. record r {
      groups = λ s g. column_over names s g x xs (r.groups s g) k i;
      grant_books = λ s g. books_over s g x xs (r.grant_books s g) k i;
      holds = λ s g n. amount_over n s g x xs (r.holds s g n) k i;
    }) gs c apart
