-- Groups whose reservation was seen, put without the number of its book and without a removal.
use Rattle.std.proofs.Common.{◌≡◌, ℕ, Bool, true, false, cond, List, [], ◌∷◌, refl, sym, ap, subst}
use Rattle.std.proofs.Common.{◌∙◌, Option, Some, None, Result}
use Rattle.std.specs.Prelude.{if◌then◌else◌, ◌&&◌, ◌==◌, nat_eq, option_map}
use Rattle.std.specs.Borrow.{MutBor}
use Rattle.std.proofs.lemmas.Bool.{and_parts}
use Rattle.sqlite.specs.Held.{Held}
use Rattle.sqlite_trees.specs.Tree.{Trees}
use Rattle.sqlite_trees.specs.declared.store.Store.{Ghosts}
use Rattle.sql_tables.specs.Statements.{AttemptsOver}
use Rattle.identifiers.specs.Texts.{same_name}
use Rattle.buckets.specs.Holding.{AreHolds}
use Rattle.buckets.specs.declared.holds.HeldAmount.{HeldAmount}
use Rattle.reserving.specs.declared.session.Session.{Session}
use Rattle.reserving.specs.declared.session.SessionGroup.{SessionGroup}
use Rattle.reserving.specs.declared.session.Reservation.{Reservation}
use Rattle.reserving.specs.Sessions.{is_of, group_in, holds_in}
use Rattle.reserving.specs.Stored.{StoredRows}
use Rattle.ledger.specs.Lists.{EachIn}
use Rattle.reserving.specs.Rows.{AreApart}
use Rattle.reserving.specs.Left.{first_of}
use Rattle.reserving.proofs.LeftParted.{one_group}
use Rattle.reserving.proofs.LeftTests.{none_more}
use Rattle.reserving.proofs.Lists.{find-passes, no_some, not_both, some_of}
use Rattle.keepers.specs.Keyed.{same_group}
use Rattle.sql_rows.specs.Content.{TableRows, TablesContent, rows_in, with_group_row, with_rows}
use Rattle.sql_rows.specs.Makes.{Makes}
use Rattle.sql_keeper.specs.Content.{Names}
use Rattle.sql_keeper.specs.Grants.{is_grant, is_kept, is_name, only_bucket, same_grant, grant_with}
use Rattle.sql_keeper.specs.Seen.{Sees}
use Rattle.sql_keeper.specs.Tests.{AreWritable}
use Rattle.sql_keeper.specs.Writes.{columns_of, with_group_over, with_groups_over, with_held_group}
use Rattle.sql_keeper.specs.Writes.{with_kept_group, with_stored}
use Rattle.sql_keeper.specs.declared.seen.SeenAccount.{SeenAccount}
use Rattle.sql_keeper.specs.declared.seen.SeenGrant.{SeenGrant}
use Rattle.sql_keeper.proofs.commits.Changed.{AreKeyed, keyed_without, over_stored, stored_over}
use Rattle.sql_keeper.proofs.commits.Changed.{without_groups}
use Rattle.sql_keeper.proofs.puts.Groups.{amount_at, amount_in, book_over, book_put, column_over}
use Rattle.sql_keeper.proofs.puts.Groups.{group_put, holds_over, may_hold, over_groups, over_holds}
use Rattle.sql_keeper.proofs.puts.Overlays.{each, each_over, name_from, number_from, number_itself}
use Rattle.sql_keeper.proofs.puts.Overlays.{opened_same, with_opened, with_twice}
use Rattle.sql_keeper.proofs.puts.Puts.{made_as}
use Rattle.sql_keeper.proofs.kept.SeenRows.{name_is, told_grant}

-- ---- how one is put

module _ {B E S : Type 0} {g : Ghosts S} (a : List ℕ) (names : Names) (seen : Option SeenAccount)
    (r : SessionGroup) {old new : MutBor (Held S)} {z : Result B E} where
  pub over_kept : is_kept seen a r ≡ true
      → AttemptsOver {A = B} {E = E} g (Makes (with_kept_group a names r)) old new z
      → AttemptsOver {A = B} {E = E} g (Makes (with_group_over a names seen r)) old new z
  over_kept e = made_as
      (λ i c. if sym e i then with_kept_group a names r c else with_held_group a names r c)

  pub over_held : is_kept seen a r ≡ false
      → AttemptsOver {A = B} {E = E} g (Makes (with_held_group a names r)) old new z
      → AttemptsOver {A = B} {E = E} g (Makes (with_group_over a names seen r)) old new z
  over_held e = made_as
      (λ i c. if sym e i then with_kept_group a names r c else with_held_group a names r c)

-- ---- what is put, some of it over what stays

module _ (names : Names) (k : SessionGroup → Bool) where
  abbrev book_mixed : SessionGroup → Option ℕ → Option ℕ
  book_mixed r before = if k r then before else book_put r.reservation

  abbrev amount_mixed : ℕ → SessionGroup → Option ℕ → Option ℕ
  amount_mixed n r before = if k r then first_of (amount_at n (holds_in r.reservation)) before
      else amount_at n (holds_in r.reservation)

  abbrev put_mixed : SessionGroup → TableRows → TableRows
  put_mixed r x = record x {
    groups = λ t h. if same_name r.session t && nat_eq r.group h then Some (columns_of names r)
        else x.groups t h;
    grant_books = λ t h. if same_name r.session t && nat_eq r.group h
        then book_mixed r (x.grant_books t h) else x.grant_books t h;
    holds = λ t h n. if same_name r.session t && nat_eq r.group h
        then amount_mixed n r (x.holds t h n) else x.holds t h n;
  }

  abbrev book_in : Option SessionGroup → Option ℕ → Option ℕ
  book_in None before = before
  book_in (Some r) before = book_mixed r before

  abbrev held_in : ℕ → Option SessionGroup → Option ℕ → Option ℕ
  held_in n None before = before
  held_in n (Some r) before = amount_mixed n r before

  abbrev over_mixed : List SessionGroup → TableRows → TableRows
  over_mixed gs x = record x {
    groups = λ s g. first_of (option_map (columns_of names) (group_in s g gs)) (x.groups s g);
    grant_books = λ s g. book_in (group_in s g gs) (x.grant_books s g);
    holds = λ s g n. held_in n (group_in s g gs) (x.holds s g n);
  }

  books : (s : List ℕ) (g : ℕ) (x : SessionGroup) (xs : List SessionGroup)
      (before : Option ℕ) → EachIn (λ y. same_group x y ≡ false) xs →
      book_in (group_in s g xs) (if is_of s g x then book_mixed x before else before)
      ≡ book_in (group_in s g (x ∷ xs)) before
  books s g x xs before h = at (is_of s g x) refl
    where
      at : (t : Bool) → is_of s g x ≡ t → book_in (group_in s g xs)
          (if t then book_mixed x before else before)
          ≡ book_in (cond t (Some x) (group_in s g xs)) before
      at true e = ap (λ o. book_in o (book_mixed x before))
          (none_more same_group (is_of s g) (one_group s g) x xs e h)
      at false e = refl

  amounts : (n : ℕ) (s : List ℕ) (g : ℕ) (x : SessionGroup) (xs : List SessionGroup)
      (before : Option ℕ) → EachIn (λ y. same_group x y ≡ false) xs →
      held_in n (group_in s g xs) (if is_of s g x then amount_mixed n x before else before)
      ≡ held_in n (group_in s g (x ∷ xs)) before
  amounts n s g x xs before h = at (is_of s g x) refl
    where
      at : (t : Bool) → is_of s g x ≡ t → held_in n (group_in s g xs)
          (if t then amount_mixed n x before else before)
          ≡ held_in n (cond t (Some x) (group_in s g xs)) before
      at true e = ap (λ o. held_in n o (amount_mixed n x before))
          (none_more same_group (is_of s g) (one_group s g) x xs e h)
      at false e = refl

  -- where what stays is what would be put, all is put
  record Stays (r : TableRows) (s : List ℕ) (g : ℕ) (x : SessionGroup) : Type 0 where
    book : r.grant_books s g ≡ book_put x.reservation
    held : (n : ℕ) → amount_at n (holds_in x.reservation) ≡ None → r.holds s g n ≡ None

  module _ (gs : List SessionGroup) (r : TableRows)
      (stays : (s : List ℕ) (g : ℕ) (x : SessionGroup) → group_in s g gs ≡ Some x → k x ≡ true
      → Stays r s g x) where
    book_same : (s : List ℕ) (g : ℕ) (o : Option SessionGroup) → group_in s g gs ≡ o →
        book_in o (r.grant_books s g) ≡ book_over o (r.grant_books s g)
    book_same s g None e = refl
    book_same s g (Some x) e = at (k x) refl
      where
        at : (t : Bool) → k x ≡ t →
            (if t then r.grant_books s g else book_put x.reservation) ≡ book_put x.reservation
        at true f = (stays s g x e f).book
        at false f = refl

    amount_same : (s : List ℕ) (g n : ℕ) (o : Option SessionGroup) → group_in s g gs ≡ o →
        held_in n o (r.holds s g n) ≡ amount_in n o (r.holds s g n)
    amount_same s g n None e = refl
    amount_same s g n (Some x) e = at (k x) refl
      where
        first : (o : Option ℕ) → amount_at n (holds_in x.reservation) ≡ o → k x ≡ true
            → first_of o (r.holds s g n) ≡ o
        first None f kept = (stays s g x e kept).held n f
        first (Some m) f kept = refl

        at : (t : Bool) → k x ≡ t →
            (if t then first_of (amount_at n (holds_in x.reservation)) (r.holds s g n)
            else amount_at n (holds_in x.reservation)) ≡ amount_at n (holds_in x.reservation)
        at true f = first (amount_at n (holds_in x.reservation)) refl f
        at false f = refl

    mixed_is : over_mixed gs r ≡ over_groups names gs r
    mixed_is = λ i. record (over_groups names gs r) {
      grant_books = λ s g. book_same s g (group_in s g gs) refl i;
      holds = λ s g n. amount_same s g n (group_in s g gs) refl i;
    }

-- ---- all groups

module _ (a : List ℕ) (names : Names) (seen : Option SeenAccount) where
  abbrev kept : SessionGroup → Bool
  kept r = is_kept seen a r

  -- what stays, as if it were put
  same_book : (p : Bool) (o : Option ℕ) → o ≡ (if p then o else o)
  same_book true o = refl
  same_book false o = refl

  kept_put : (r : SessionGroup) (c : TablesContent) → AreHolds (holds_in r.reservation) →
      kept r ≡ true → with_kept_group a names r c ≡ with_rows a (put_mixed names kept r) c
  kept_put r c h e =
      let one = with_group_row r.session r.group (columns_of names r) in
      holds_over a r.session r.group (holds_in r.reservation) (with_rows a one c) h
      ∙ with_twice a (over_holds r.session r.group (holds_in r.reservation)) one c
      ∙ (λ i. with_rows a (λ x. record (over_holds r.session r.group (holds_in r.reservation)
      (one x)) {
        grant_books = λ t h. same_book (same_name r.session t && nat_eq r.group h)
            (x.grant_books t h) i;
      }) c)
      ∙ (λ i. with_rows a (λ x. record (put_mixed names kept r x) {
        grant_books = λ t h. if same_name r.session t && nat_eq r.group h
            then (if sym e i then x.grant_books t h else book_put r.reservation)
            else x.grant_books t h;
        holds = λ t h n. if same_name r.session t && nat_eq r.group h
            then (if sym e i then first_of (amount_at n (holds_in r.reservation)) (x.holds t h n)
            else amount_at n (holds_in r.reservation)) else x.holds t h n;
      }) c)

  held_put : (r : SessionGroup) (c : TablesContent) → AreHolds (holds_in r.reservation) →
      kept r ≡ false → with_held_group a names r c ≡ with_rows a (put_mixed names kept r) c
  held_put r c h e =
      group_put a names r c h
      ∙ (λ i. with_rows a (λ x. record (put_mixed names kept r x) {
        grant_books = λ t h. if same_name r.session t && nat_eq r.group h
            then (if sym e i then x.grant_books t h else book_put r.reservation)
            else x.grant_books t h;
        holds = λ t h n. if same_name r.session t && nat_eq r.group h
            then (if sym e i then first_of (amount_at n (holds_in r.reservation)) (x.holds t h n)
            else amount_at n (holds_in r.reservation)) else x.holds t h n;
      }) c)

  one_put : (r : SessionGroup) (c : TablesContent) → AreHolds (holds_in r.reservation) →
      with_group_over a names seen r c ≡ with_rows a (put_mixed names kept r) c
  one_put r c h = at (kept r) refl
    where
      at : (t : Bool) → kept r ≡ t →
          (if t then with_kept_group a names r c else with_held_group a names r c)
          ≡ with_rows a (put_mixed names kept r) c
      at true e = kept_put r c h e
      at false e = held_put r c h e

  mixed_each : (sessions : List Session) (gs : List SessionGroup)
      (c : TablesContent) → AreWritable names sessions gs →
      with_groups_over a names seen gs c ≡ each a (put_mixed names kept) gs c
  unfolding each
  mixed_each sessions [] c h = refl
  mixed_each sessions (r ∷ rs) c h =
      mixed_each sessions rs (with_group_over a names seen r c) h.1
      ∙ ap (each a (put_mixed names kept) rs)
      (one_put r c (may_hold names sessions r.session r.reservation h.0))

  mixed_over : (sessions : List Session) (gs : List SessionGroup)
      (c : TablesContent) → AreApart same_group gs → AreWritable names sessions gs →
      with_groups_over a names seen gs c ≡ with_rows a (over_mixed names kept gs) c
  mixed_over sessions gs c apart h =
      mixed_each sessions gs c h
      ∙ each_over a same_group (put_mixed names kept) (over_mixed names kept) (λ r. refl)
      (λ x xs r k i. record r {
        groups = λ s g. column_over names s g x xs (r.groups s g) k i;
        grant_books = λ s g. books names kept s g x xs (r.grant_books s g) k i;
        holds = λ s g n. amounts names kept n s g x xs (r.holds s g n) k i;
      }) gs c apart

-- ---- the rows of an account

-- a row whose reservation was seen is stored so
pub record IsKeptIn (r : TableRows) (x : SessionGroup) : Type 0 where
  pub book : r.grant_books x.session x.group ≡ book_put x.reservation
  pub held : (n : ℕ) → amount_at n (holds_in x.reservation) ≡ None
      → r.holds x.session x.group n ≡ None

module _ (a : List ℕ) (names : Names) (sessions : List Session) (w : StoredRows) (c : TablesContent)
    (keyed : AreKeyed w) (may : AreWritable names sessions w.groups) (seen : Option SeenAccount)
    (stand : (x : SessionGroup) → is_kept seen a x ≡ true → IsKeptIn (c.rows a) x) where
  abbrev others : StoredRows
  others = without_groups w

  found_is : (s : List ℕ) (g : ℕ) (x : SessionGroup) → group_in s g w.groups ≡ Some x
      → (x.session ≡ s) × (x.group ≡ g)
  found_is s g x e =
      let both = and_parts (same_name x.session s) (x.group == g)
      (find-passes (is_of s g) w.groups x e) in
      (name_from x.session s both.0, number_from x.group g both.1)

  still_there : (s : List ℕ) (g : ℕ) (x : SessionGroup) → group_in s g w.groups ≡ Some x
      → is_kept seen a x ≡ true
      → Stays names (λ r. is_kept seen a r) (over_stored names others (c.rows a)) s g x
  still_there s g x e k =
      let is = found_is s g x e in
      let there = stand x k in
      record {
        book = sym (λ i. (c.rows a).grant_books (is.0 i) (is.1 i)) ∙ there.book;
        held = λ n none.
            sym (λ i. (c.rows a).holds (is.0 i) (is.1 i) n) ∙ there.held n none;
      }

  pub named_kept : with_groups_over a names seen w.groups (with_stored a names (without_groups w) c)
      ≡ with_stored a names w c
  named_kept =
      mixed_over a names seen sessions w.groups (with_stored a names others c) keyed.groups may
      ∙ ap (with_rows a (over_mixed names (λ r. is_kept seen a r) w.groups))
      (stored_over a names sessions others c (keyed_without w keyed) tt)
      ∙ with_opened a (over_mixed names (λ r. is_kept seen a r) w.groups)
      (over_stored names others) c
      ∙ opened_same a
      (λ r. over_mixed names (λ x. is_kept seen a x) w.groups (over_stored names others r))
      (over_stored names w) c
      (mixed_is names (λ r. is_kept seen a r) w.groups (over_stored names others (c.rows a))
      still_there)
      ∙ sym (stored_over a names sessions w c keyed may)

-- ---- what was seen

-- the bucket is one of those of which something is held
bucket_there : (b : ℕ) (hs : List HeldAmount) → only_bucket hs ≡ Some b → ¬ (amount_at b hs ≡ None)
bucket_there b [] e none = no_some b e
bucket_there b (h ∷ l ∷ hs) e none = no_some b e
bucket_there b (h ∷ []) e none =
    no_some h.amount (sym none
    ∙ ap (λ t. option_map (λ (x : HeldAmount). x.amount) (cond t (Some h) None))
    (ap (nat_eq h.bucket) (sym (some_of h.bucket b e)) ∙ number_itself h.bucket))

-- the same reservation
same_is : (y : SeenGrant) (o : Option SeenGrant) → same_grant y o ≡ true → o ≡ Some y
same_is y None e = absurd (not_both e)
same_is y (Some z) e =
    let one = and_parts (z.group == y.group) (z.book == y.book && z.bucket == y.bucket) e in
    let two = and_parts (z.book == y.book) (z.bucket == y.bucket) one.1 in
    λ i. Some (record {
      group = number_from z.group y.group one.0 i;
      book = number_from z.book y.book two.0 i;
      bucket = number_from z.bucket y.bucket two.1 i;
    })

pub sees_kept : (seen : Option SeenAccount) (trees : Trees) (a : List ℕ) (x : SessionGroup)
    → Sees seen trees → is_kept seen a x ≡ true → IsKeptIn (rows_in trees a) x
sees_kept None trees a x sees e = absurd (not_both e)
sees_kept (Some y) trees a x sees e =
    let one = and_parts (same_name y.account a)
    (is_name x.session y.live && is_grant y.grant x) e in
    let two = and_parts (is_name x.session y.live) (is_grant y.grant x) one.1 in
    let here : y.account ≡ a = name_from y.account a one.0 in
    subst (λ b. IsKeptIn (rows_in trees b) x) here
    (at y.grant refl two.1 (name_is x.session y.live two.0))
  where
    at : (o : Option SeenGrant) → y.grant ≡ o → is_grant o x ≡ true
        → y.live ≡ Some x.session → IsKeptIn (rows_in trees y.account) x
    at None f g live = absurd (not_both g)
    at (Some z) f g live =
        let told = told_grant x.group x.reservation z
        (same_is z (grant_with x.group x.reservation) g) in
        let there = sees.grant x.session z live f in
        record {
          book = ap ((rows_in trees y.account).grant_books x.session) (sym told.group)
              ∙ there.book ∙ ap Some (sym told.book) ∙ ap book_put (sym told.is);
          held = λ n none.
              ap (λ g. (rows_in trees y.account).holds x.session g n) (sym told.group)
              ∙ there.held n (λ same. bucket_there z.bucket told.reservation.holds told.bucket
              (ap (λ m. amount_at m told.reservation.holds) (sym same)
              ∙ ap (λ (v : Option Reservation). amount_at n (holds_in v)) (sym told.is) ∙ none));
        }
