-- Groups of which nothing was there, put without a removal.
use Rattle.std.proofs.Common.{◌≡◌, ◌≤◌, ℕ, Bool, true, false, cond, List, [], ◌∷◌, refl, sym, ap, subst}
use Rattle.std.proofs.Common.{◌∙◌, Option, Some, None}
use Rattle.std.specs.Prelude.{if◌then◌else◌, ◌&&◌, ◌+◌, is_some, nat_eq, option_map}
use Rattle.identifiers.specs.Texts.{same_name}
use Rattle.buckets.specs.Holding.{AreHolds}
use Rattle.reserving.specs.declared.session.Session.{Session}
use Rattle.reserving.specs.declared.session.SessionGroup.{SessionGroup}
use Rattle.reserving.specs.declared.session.Reservation.{Reservation}
use Rattle.reserving.specs.Sessions.{is_of, group_in, holds_in}
use Rattle.reserving.specs.Stored.{StoredRows}
use Rattle.ledger.specs.Lists.{EachIn}
use Rattle.ledger.specs.declared.charge.ChargeRow.{ChargeRow}
use Rattle.reserving.specs.Rows.{AreApart}
use Rattle.reserving.specs.Left.{first_of}
use Rattle.reserving.proofs.KeysFound.{found_session}
use Rattle.reserving.proofs.LeftParted.{one_group}
use Rattle.reserving.proofs.LeftTests.{none_more, first_alone}
use Rattle.reserving.proofs.Lists.{EachIn-found, EachIn-weaker}
use Rattle.keepers.specs.Keyed.{same_group}
use Rattle.keepers.specs.declared.loaded.Change.{Change}
use Rattle.keepers.specs.Naming.{IsNamed}
use Rattle.buckets.specs.Row.{BucketRow}
use Rattle.sql_rows.specs.Each.{with_counters, with_sessions}
use Rattle.sql_rows.specs.Values.{Kept, Meta}
use Rattle.sql_rows.specs.Content.{TableRows, TablesContent, with_group_row, with_meta, with_rows}
use Rattle.sql_rows.specs.Lists.{AreCoveredBeside, HasNoGroups}
use Rattle.sql_keeper.specs.Content.{Names, last_in}
use Rattle.sql_keeper.specs.Numbers.{LacksCharge, LacksCharges, LacksThen}
use Rattle.sql_keeper.specs.Seen.{IsKeptOnce}
use Rattle.sql_keeper.specs.Tests.{AreNewGroups, AreWritable, IsTested}
use Rattle.sql_keeper.specs.Writes.{columns_of, with_all_charged, with_change, with_change_put}
use Rattle.sql_keeper.specs.Writes.{with_groups_put, with_kept, with_named, with_new_book}
use Rattle.sql_keeper.specs.Writes.{with_changed_rows, with_moment_put, with_new_group}
use Rattle.sql_keeper.specs.Writes.{head_columns_of, meta_with, with_new_groups, with_redeemed}
use Rattle.sql_keeper.specs.Writes.{with_stored}
use Rattle.sql_keeper.proofs.commits.Changed.{AreKeyed, keyed_named, keyed_without, over_stored}
use Rattle.sql_keeper.proofs.commits.Changed.{stored_over, without_groups}
use Rattle.sql_keeper.specs.Grants.{is_kept}
use Rattle.sql_keeper.specs.KeptKinds.{is_counted}
use Rattle.sql_keeper.specs.declared.putting.Known.{Known}
use Rattle.sql_keeper.specs.declared.seen.SeenAccount.{SeenAccount}
use Rattle.sql_keeper.proofs.puts.KeptGroups.{IsKeptIn, named_kept}
use Rattle.sql_keeper.proofs.puts.KeptKinds.{IsCountedIn, all_counted_are}
use Rattle.sql_keeper.proofs.puts.NewCharges.{all_charged_are}
use Rattle.sql_keeper.proofs.puts.Groups.{amount_at, amount_in, book_over, book_put, column_over}
use Rattle.sql_keeper.proofs.puts.Groups.{holds_over, may_hold, over_groups, over_holds}
use Rattle.sql_keeper.proofs.puts.Overlays.{each, each_over, opened, opened_same, with_none}
use Rattle.sql_keeper.proofs.puts.Overlays.{with_opened, with_twice}

-- ---- one group

abbrev new_booked : List ℕ → ℕ → Option Reservation → TableRows → TableRows
new_booked s g o r = record r {
  grant_books = λ t h. if same_name s t && nat_eq g h then first_of (book_put o) (r.grant_books t h)
      else r.grant_books t h;
}

either : {A : Type 0} (p : Bool) (o : Option A) → o ≡ (if p then o else o)
either true o = refl
either false o = refl

new_book_is : (a s : List ℕ) (g : ℕ) (o : Option Reservation) (c : TablesContent) →
    with_new_book a s g o c ≡ with_rows a (new_booked s g o) c
new_book_is a s g None c = with_none a c ∙ (λ i. with_rows a (λ r. record r {
  grant_books = λ t h. either (same_name s t && nat_eq g h) (r.grant_books t h) i;
}) c)
new_book_is a s g (Some x) c = refl

-- what is put of it, over what was there
abbrev put_new : Names → SessionGroup → TableRows → TableRows
put_new names r x = record x {
  groups = λ t h. if same_name r.session t && nat_eq r.group h then Some (columns_of names r)
      else x.groups t h;
  grant_books = λ t h. if same_name r.session t && nat_eq r.group h
      then first_of (book_put r.reservation) (x.grant_books t h) else x.grant_books t h;
  holds = λ t h n. if same_name r.session t && nat_eq r.group h
      then first_of (amount_at n (holds_in r.reservation)) (x.holds t h n) else x.holds t h n;
}

new_put : (a : List ℕ) (names : Names) (r : SessionGroup) (c : TablesContent) →
    AreHolds (holds_in r.reservation) →
    with_new_group a names r c ≡ with_rows a (put_new names r) c
new_put a names r c h =
    let one = with_group_row r.session r.group (columns_of names r) in
    let book = new_booked r.session r.group r.reservation in
    let three = over_holds r.session r.group (holds_in r.reservation) in
    holds_over a r.session r.group (holds_in r.reservation)
    (with_new_book a r.session r.group r.reservation (with_rows a one c)) h
    ∙ ap (with_rows a three)
    (new_book_is a r.session r.group r.reservation (with_rows a one c))
    ∙ with_twice a three book (with_rows a one c)
    ∙ with_twice a (λ x. three (book x)) one c

-- ---- all groups

abbrev new_amount : ℕ → Option SessionGroup → Option ℕ → Option ℕ
new_amount n None before = before
new_amount n (Some r) before = first_of (amount_at n (holds_in r.reservation)) before

abbrev new_book : Option SessionGroup → Option ℕ → Option ℕ
new_book None before = before
new_book (Some r) before = first_of (book_put r.reservation) before

abbrev over_new : Names → List SessionGroup → TableRows → TableRows
over_new names gs x = record x {
  groups = λ s g. first_of (option_map (columns_of names) (group_in s g gs)) (x.groups s g);
  grant_books = λ s g. new_book (group_in s g gs) (x.grant_books s g);
  holds = λ s g n. new_amount n (group_in s g gs) (x.holds s g n);
}

new_each : (a : List ℕ) (names : Names) (sessions : List Session) (gs : List SessionGroup)
    (c : TablesContent) → AreWritable names sessions gs →
    with_new_groups a names gs c ≡ each a (put_new names) gs c
unfolding each
new_each a names sessions [] c h = refl
new_each a names sessions (r ∷ rs) c h =
    new_each a names sessions rs (with_new_group a names r c) h.1
    ∙ ap (each a (put_new names) rs)
    (new_put a names r c (may_hold names sessions r.session r.reservation h.0))

new_amounts : (n : ℕ) (s : List ℕ) (g : ℕ) (x : SessionGroup) (xs : List SessionGroup)
    (before : Option ℕ) → EachIn (λ y. same_group x y ≡ false) xs →
    new_amount n (group_in s g xs)
    (if is_of s g x then first_of (amount_at n (holds_in x.reservation)) before else before)
    ≡ new_amount n (group_in s g (x ∷ xs)) before
new_amounts n s g x xs before h = at (is_of s g x) refl
  where
    at : (t : Bool) → is_of s g x ≡ t → new_amount n (group_in s g xs)
        (if t then first_of (amount_at n (holds_in x.reservation)) before else before)
        ≡ new_amount n (cond t (Some x) (group_in s g xs)) before
    at true e = ap (λ o. new_amount n o (first_of (amount_at n (holds_in x.reservation)) before))
        (none_more same_group (is_of s g) (one_group s g) x xs e h)
    at false e = refl

new_books : (s : List ℕ) (g : ℕ) (x : SessionGroup) (xs : List SessionGroup)
    (before : Option ℕ) → EachIn (λ y. same_group x y ≡ false) xs →
    new_book (group_in s g xs)
    (if is_of s g x then first_of (book_put x.reservation) before else before)
    ≡ new_book (group_in s g (x ∷ xs)) before
new_books s g x xs before h = at (is_of s g x) refl
  where
    at : (t : Bool) → is_of s g x ≡ t → new_book (group_in s g xs)
        (if t then first_of (book_put x.reservation) before else before)
        ≡ new_book (cond t (Some x) (group_in s g xs)) before
    at true e = ap (λ o. new_book o (first_of (book_put x.reservation) before))
        (none_more same_group (is_of s g) (one_group s g) x xs e h)
    at false e = refl

new_over : (a : List ℕ) (names : Names) (sessions : List Session) (gs : List SessionGroup)
    (c : TablesContent) → AreApart same_group gs → AreWritable names sessions gs →
    with_new_groups a names gs c ≡ with_rows a (over_new names gs) c
new_over a names sessions gs c apart h =
    new_each a names sessions gs c h
    ∙ each_over a same_group (put_new names) (over_new names) (λ r. refl)
    (λ x xs r k i. record r {
      groups = λ s g. column_over names s g x xs (r.groups s g) k i;
      grant_books = λ s g. new_books s g x xs (r.grant_books s g) k i;
      holds = λ s g n. new_amounts n s g x xs (r.holds s g n) k i;
    }) gs c apart

-- over rows in which nothing was there of them, it is as if what was there were replaced
module _ (names : Names) (gs : List SessionGroup) (r : TableRows) (new : AreNewGroups r gs) where
  nothing : (s : List ℕ) (g : ℕ) (x : SessionGroup) → group_in s g gs ≡ Some x → HasNoGroups r s
  nothing s g x e = subst (HasNoGroups r) (found_session s g gs x e)
      (EachIn-found (λ (y : SessionGroup). HasNoGroups r y.session) (is_of s g) gs x new e)

  book_same : (s : List ℕ) (g : ℕ) (o : Option SessionGroup) → group_in s g gs ≡ o →
      new_book o (r.grant_books s g) ≡ book_over o (r.grant_books s g)
  book_same s g None e = refl
  book_same s g (Some x) e =
      ap (first_of (book_put x.reservation)) ((nothing s g x e).books g)
      ∙ first_alone (book_put x.reservation)

  amount_same : (s : List ℕ) (g n : ℕ) (o : Option SessionGroup) → group_in s g gs ≡ o →
      new_amount n o (r.holds s g n) ≡ amount_in n o (r.holds s g n)
  amount_same s g n None e = refl
  amount_same s g n (Some x) e =
      ap (first_of (amount_at n (holds_in x.reservation))) ((nothing s g x e).holds g n)
      ∙ first_alone (amount_at n (holds_in x.reservation))

  new_is : over_new names gs r ≡ over_groups names gs r
  new_is = λ i. record (over_groups names gs r) {
    grant_books = λ s g. book_same s g (group_in s g gs) refl i;
    holds = λ s g n. amount_same s g n (group_in s g gs) refl i;
  }

-- ---- the rows of an account

module _ (a : List ℕ) (names : Names) (sessions : List Session) (w : StoredRows) (c : TablesContent)
    (keyed : AreKeyed w) (may : AreWritable names sessions w.groups)
    (new : AreNewGroups (c.rows a) w.groups) where
  abbrev others : StoredRows
  others = without_groups w

  still_new : AreNewGroups (over_stored names others (c.rows a)) w.groups
  still_new = EachIn-weaker (λ (x : SessionGroup). HasNoGroups (c.rows a) x.session)
      (λ x. HasNoGroups (over_stored names others (c.rows a)) x.session) w.groups
      (λ x h. record { groups = h.groups; books = h.books; holds = h.holds }) new

  named_new : with_new_groups a names w.groups (with_stored a names others c)
      ≡ with_stored a names w c
  named_new =
      new_over a names sessions w.groups (with_stored a names others c) keyed.groups may
      ∙ ap (with_rows a (over_new names w.groups))
      (stored_over a names sessions others c (keyed_without w keyed) tt)
      ∙ with_opened a (over_new names w.groups) (over_stored names others) c
      ∙ opened_same a (λ r. over_new names w.groups (over_stored names others r))
      (over_stored names w) c
      (new_is names w.groups (over_stored names others (c.rows a)) still_new)
      ∙ sym (stored_over a names sessions w c keyed may)

-- ---- a change

-- what is known of an account's rows is so
pub record IsKnownIn (a : List ℕ) (known : Known) (r : TableRows) : Type 0 where
  pub groups : (x : SessionGroup) → is_kept known.seen.now a x ≡ true → IsKeptIn r x
  pub buckets : (b : BucketRow) → is_counted known.kept.now a b ≡ true → IsCountedIn r b

-- its groups, put over what stays
groups_are : (names : Names) (new : Bool) (seen : Option SeenAccount) (m : Meta) (change : Change)
    (c : TablesContent) → IsNamed change.rows → IsTested names change (c.rows change.number) new →
    ((x : SessionGroup) → is_kept seen change.number x ≡ true → IsKeptIn (c.rows change.number) x)
    → with_groups_put change.number names new seen change.rows.groups
    (with_stored change.number names (without_groups change.rows) (with_meta m c))
    ≡ with_stored change.number names change.rows (with_meta m c)
groups_are names false seen m change c named t kept =
    named_kept change.number names change.rows.sessions change.rows (with_meta m c)
    (keyed_named change.rows named) t.made.reservations seen kept
groups_are names true seen m change c named t kept =
    named_new change.number names change.rows.sessions change.rows (with_meta m c)
    (keyed_named change.rows named) t.made.reservations (t.new refl)

-- its rows
named_is : (names : Names) (known : Known) (m : Meta) (change : Change) (c : TablesContent) →
    IsNamed change.rows → IsTested names change (c.rows change.number) known.are_new →
    IsKnownIn change.number known (c.rows change.number)
    → with_named change.number names known change.rows (with_meta m c)
    ≡ with_stored change.number names change.rows (with_meta m c)
named_is names known m change c named t stand =
    let a = change.number in
    let w = change.rows in
    ap (λ (d : TablesContent). with_groups_put a names known.are_new known.seen.now w.groups
    (with_sessions a w.sessions (with_counters a w.counters d)))
    (all_counted_are a known.kept.now (head_columns_of w) w.buckets (with_meta m c)
    (keyed_named w named).buckets stand.buckets)
    ∙ groups_are names known.are_new known.seen.now m change c named t stand.groups

-- rows that change beside the charges and their covered blocks
opened_beside : (a : List ℕ) (f : TableRows → TableRows) (c : TablesContent) →
    AreCoveredBeside (c.rows a)
    → ((r : TableRows) → AreCoveredBeside r → AreCoveredBeside (f r))
    → AreCoveredBeside ((opened a f c).rows a)
opened_beside a f c h to = at (same_name a a)
  where
    at : (t : Bool) → AreCoveredBeside (if t then f (c.rows a) else c.rows a)
    at true = to (c.rows a) h
    at false = h

-- the rows of an account are put beside its charges and their covered blocks
stored_beside : (names : Names) (m : Meta) (change : Change) (c : TablesContent) →
    IsNamed change.rows
    → AreWritable names change.rows.sessions change.rows.groups
    → AreCoveredBeside (c.rows change.number)
    → AreCoveredBeside ((with_stored change.number names change.rows (with_meta m c)).rows
    change.number)
stored_beside names m change c named may beside =
    subst (λ (d : TablesContent). AreCoveredBeside (d.rows change.number))
    (sym (stored_over change.number names change.rows.sessions change.rows (with_meta m c)
    (keyed_named change.rows named) may))
    (opened_beside change.number (over_stored names change.rows) (with_meta m c) beside
    (λ r h. h))

put_is : (names : Names) (known : Known) (m : Meta) (change : Change) (texts : Option Kept)
    (c : TablesContent) → IsNamed change.rows
    → IsTested names change (c.rows change.number) known.are_new →
    IsKnownIn change.number known (c.rows change.number)
    → with_redeemed change.redeemed (with_kept change.number change.kept texts
    (with_changed_rows names known change (with_meta m c))) ≡ with_change names m change texts c
put_is names known m change texts c named t stand =
    ap (λ (d : TablesContent). with_redeemed change.redeemed (with_kept change.number change.kept
    texts
    d)) (ap (with_all_charged change.number change.charges.items)
    (named_is names known m change c named t stand)
    ∙ all_charged_are change.number change.charges.items
    (with_stored change.number names change.rows (with_meta m c))
    (stored_beside names m change c named t.made.reservations t.covered))

-- what is kept once is the same at this moment, where its version and its text are there
moment_same : (m : Meta) (last : ℕ) (c : TablesContent) → c.meta ≡ Some (record m { last = last })
    → (o : Option Meta) → o ≡ Some m
    → record c { meta = o } ≡ with_meta m c
moment_same m last c stood o is = λ i. record c { meta = is i; kept = count i }
  where
    count : c.kept ≡ (if is_some c.meta then c.kept else c.kept + 1)
    count = ap (λ (x : Option Meta). if is_some x then c.kept else c.kept + 1) (sym stood)

-- the last moment isn't after that of what is put
-- rule: rows-ruled.timely
pub kept_up_to : (told : Bool) (m : Meta) (o : Option Meta) → IsKeptOnce told m o
    → last_in o ≤ m.last
kept_up_to told m o it = subst (λ x. last_in x ≤ m.last) (sym it.row) it.later

pub moment_put : (is_there : Bool) (m : Meta) (c : TablesContent) → IsKeptOnce is_there m c.meta
    → with_moment_put is_there m.last c ≡ with_meta m c
moment_put false m c it = moment_same m it.last c it.row
    (option_map (λ (x : Meta). record x { last = m.last }) c.meta)
    (ap (option_map (λ (x : Meta). record x { last = m.last })) it.row)
moment_put true m c it = moment_same m it.last c it.row c.meta
    (it.row ∙ ap (λ t. Some (record m { last = t })) (it.moment refl))

pub put_over : (names : Names) (known : Known) (text : List ℕ) (change : Change)
    (texts : Option Kept) (c : TablesContent) → IsNamed change.rows
    → IsTested names change (c.rows change.number) known.are_new →
    IsKnownIn change.number known (c.rows change.number)
    → IsKeptOnce known.is_there (meta_with text change) c.meta
    → with_change_put names known change texts c
    ≡ with_change names (meta_with text change) change texts c
put_over names known text change texts c named t stand is =
    ap (λ (d : TablesContent). with_redeemed change.redeemed (with_kept change.number change.kept
    texts (with_changed_rows names known change d)))
    (moment_put known.is_there (meta_with text change) c is)
    ∙ put_is names known (meta_with text change) change texts c named t stand

-- the charges that an account lacks once its rows are put, it lacked before
opened_lacks : (a : List ℕ) (f : TableRows → TableRows) (c : TablesContent) (xs : List ChargeRow)
    → ((r : TableRows) → (f r).charges ≡ r.charges) → LacksCharges a (opened a f c) xs
    → LacksCharges a c xs
opened_lacks a f c xs same =
    EachIn-weaker (LacksCharge a (opened a f c)) (LacksCharge a c) xs
    (λ x. at x (same_name a a))
  where
    at : (x : ChargeRow) (t : Bool)
        → (if t then f (c.rows a) else c.rows a).charges x.number ≡ None
        → (c.rows a).charges x.number ≡ None
    at x true e = sym (ap (λ (charges : ℕ → Option ChargeRow). charges x.number)
        (same (c.rows a))) ∙ e
    at x false e = e

pub lacked_before : (names : Names) (known : Known) (text : List ℕ) (change : Change)
    (c : TablesContent) → IsNamed change.rows
    → IsTested names change (c.rows change.number) known.are_new →
    IsKnownIn change.number known (c.rows change.number)
    → IsKeptOnce known.is_there (meta_with text change) c.meta
    → LacksThen names known change c
    → LacksCharges change.number c change.charges.items
lacked_before names known text change c named t stand is lacks =
    let a = change.number in
    let m = meta_with text change in
    opened_lacks a (over_stored names change.rows) (with_meta m c) change.charges.items
    (λ r. refl)
    (subst (λ (d : TablesContent). LacksCharges a d change.charges.items)
    (stored_over a names change.rows.sessions change.rows (with_meta m c)
    (keyed_named change.rows named) t.made.reservations)
    (subst (λ (d : TablesContent). LacksCharges a d change.charges.items)
    (named_is names known m change c named t stand)
    (subst (λ (d : TablesContent). LacksCharges a (with_named a names known change.rows d)
    change.charges.items) (moment_put known.is_there m c is) lacks)))
