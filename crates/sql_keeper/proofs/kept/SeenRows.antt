-- What a keeper has seen of an account, and what reads of its tables leave of it.
use Rattle.std.proofs.Common.{◌≡◌, ◌≤◌, ℕ, Bool, true, false, List, Option, Some, None, Result, Ok}
use Rattle.std.proofs.Common.{[], ◌∷◌, cond, IfOk, refl, sym, ap, subst, ◌∙◌}
use Rattle.std.specs.Prelude.{if◌then◌else◌, ◌&&◌, nat_eq, option_map, is_some, slice_get, IfSome}
use Rattle.sqlite_trees.specs.Tree.{Trees}
use Rattle.sqlite.specs.Effect.{Database}
use Rattle.sqlite.specs.State.{State, HasCleanDisk}
use Rattle.shelves.specs.Shelves.{Shelf}
use Rattle.buckets.specs.declared.holds.HeldAmount.{HeldAmount}
use Rattle.reserving.specs.declared.session.Session.{Session}
use Rattle.reserving.specs.declared.session.SessionGroup.{SessionGroup}
use Rattle.reserving.specs.declared.session.Reservation.{Reservation}
use Rattle.reserving.specs.Left.{is_open_row, only}
use Rattle.reserving.specs.Sessions.{group_in, is_open, session_in}
use Rattle.reserving.specs.Stored.{StoredRows, stored as stored_rows}
use Rattle.ledger.specs.Ledger.{is_same}
use Rattle.ledger.proofs.Holds.{same_itself}
use Rattle.reserving.proofs.Lists.{no_some, not_both, some_of}
use Rattle.reserving.proofs.KeysFound.{is_none_is}
use Rattle.keepers.specs.declared.loaded.Loaded.{Loaded}
use Rattle.keepers.specs.Tables.{Head, head_of, held_at}
use Rattle.sql_tables.specs.Keyed.{same_name}
use Rattle.sql_tables.specs.Statements.{HasIdleTables, OnlyReads, Reads}
use Rattle.sql_tables.specs.declared.reading.ReadFault.{ReadFault}
use Rattle.sql_rows.specs.declared.head.HeadColumns.{HeadColumns}
use Rattle.sql_rows.specs.Content.{TableRows, rows_in, tables_content}
use Rattle.sql_rows.specs.Lists.{HasNoGroups}
use Rattle.sql_rows.specs.Values.{Meta}
use Rattle.sql_keeper.specs.Asks.{Asks}
use Rattle.sql_keeper.specs.Content.{Names, head_in, last_in}
use Rattle.sql_keeper.specs.Grants.{IsGrantIn, IsGrantSeen, grant_with, is_name, only_bucket}
use Rattle.sql_keeper.specs.LiveRows.{IsLoadStored}
use Rattle.sql_keeper.specs.LiveGroups.{AreGrantsStored, Gathers}
use Rattle.sql_keeper.specs.Seen.{AreSeen, IsJoined, IsKnown, IsSeen, IsSeenOf, IsSeenWith}
use Rattle.sql_keeper.specs.Seen.{IsKeptOnce, IsStanding, IsUnknown, IsUnknownAlone, IsUpTo, Sees}
use Rattle.sql_keeper.specs.Seen.{Stands}
use Rattle.sql_keeper.specs.Seen.{standing_in, standing_of}
use Rattle.sql_keeper.specs.SeenFirst.{IsFirstRead}
use Rattle.sql_keeper.specs.Writes.{head_columns_of}
use Rattle.sql_keeper.specs.declared.seen.SeenAccount.{SeenAccount}
use Rattle.sql_keeper.specs.declared.seen.SeenGrant.{SeenGrant}
use Rattle.sql_keeper.specs.declared.seen.Standing.{Standing}
use Rattle.sql_keeper.specs.declared.seen.Standing.TheVariants.{Unknown, Open, Over}
use Rattle.sql_keeper.specs.declared.seen_first.SeenFirst.{SeenFirst}
use Rattle.sql_keeper.proofs.reads.InTurn.{gathers_from, have_read, none_read}
use Rattle.sql_keeper.proofs.puts.Groups.{none_at}
use Rattle.sql_keeper.proofs.puts.Overlays.{name_from, number_from, number_itself}

-- ---- over a call

-- what was seen is seen still after a call that only reads
-- rule: database-writes.seen
pub seen_after : (o : Option SeenAccount) (old new : State) → AreSeen o old → OnlyReads old new
    → AreSeen o new
seen_after o old new seen only clean on =
    let still = only.still clean on in
    subst (λ (d : Database). Sees o d.trees) (sym still.now_is)
    (seen (only.cleanness clean) still.was_open)

-- so what is kept once stays after what was only read
pub stands_after : (told : Bool) (m : Meta) (old new : State) → Stands told m old
    → OnlyReads old new → Stands told m new
stands_after told m old new stands only clean on =
    let still = only.still clean on in
    subst (λ (d : Database). IsKeptOnce told m (tables_content d.trees).meta) (sym still.now_is)
    (stands (only.cleanness clean) still.was_open)

-- nor is the last moment a later one then
pub up_to_after : (t : ℕ) (old new : State) → IsUpTo t old → OnlyReads old new → IsUpTo t new
up_to_after t old new up only clean on =
    let still = only.still clean on in
    subst (λ (d : Database). last_in (tables_content d.trees).meta ≤ t) (sym still.now_is)
    (up (only.cleanness clean) still.was_open)

-- what is made of an answer
pub seen_asked : {A E : Type 0} (told : Trees → A → Type 0) (o p : Option SeenAccount)
    (old new : State) (r : Result A E) → AreSeen o old → Asks told old new r
    → ((trees : Trees) → Sees o trees → IfOk r (told trees) → Sees p trees) → AreSeen p new
seen_asked told o p old new r seen asks to clean on =
    let still = asks.only.still clean on in
    subst (λ (d : Database). Sees p d.trees) (sym still.now_is)
    (to old.now.trees (seen (asks.only.cleanness clean) still.was_open) (asks.found clean))

-- what is made of a read that was answered
pub seen_read : {A E : Type 0} (told : Trees → A → Type 0) (o p : Option SeenAccount)
    (old new : State) (x : A) → AreSeen o old → Gathers {A = A} {E = E} told old new (Ok x)
    → ((trees : Trees) → Sees o trees → told trees x → Sees p trees) → AreSeen p new
seen_read told o p old new x seen reads to clean on =
    let still = reads.only.still clean on in
    subst (λ (d : Database). Sees p d.trees) (sym still.now_is)
    (to old.now.trees (seen (reads.only.cleanness clean) still.was_open) (reads.found clean on))

-- what is made of an answer, and of what was seen when it was given
pub seen_newer : {A E : Type 0} (told : Trees → A → Type 0) (o p : Option SeenAccount)
    (old new : State) (r : Result A E) → AreSeen o new → Asks told old new r
    → ((trees : Trees) → Sees o trees → IfOk r (told trees) → Sees p trees) → AreSeen p new
seen_newer told o p old new r seen asks to clean on =
    let still = asks.only.still clean on in
    to new.now.trees (seen clean on)
    (subst (λ (d : Database). IfOk r (told d.trees)) (sym still.now_is) (asks.found clean))

-- what was seen says it without a read
pub told_seen : {A E : Type 0} (told : Trees → A → Type 0) (o : Option SeenAccount) (x : A)
    (s : State) → HasIdleTables s → AreSeen o s
    → ((trees : Trees) → Sees o trees → told trees x) → Gathers {A = A} {E = E} told s s (Ok x)
told_seen {A} {E} told o x s idle seen to =
    gathers_from {A = A} {E = E} told s s (Ok x) (none_read s idle)
    (λ clean on. to s.now.trees (seen clean on))

-- ---- what a load sees

pub head_back : (o : Option HeadColumns) (w : StoredRows) → option_map head_in o ≡ Some (head_of w)
    → o ≡ Some (head_columns_of w)
head_back None w e = absurd (no_some (head_of w) e)
head_back (Some h) w e =
    ap (λ (k : Head). Some (record {
      barred = k.barred;
      as_of = k.as_of;
      next_bucket = k.next_bucket;
      next_charge = k.next_charge;
    })) (some_of (head_in h) (head_of w) e)

only_open : (o : Option Session) → is_open_row (only (λ (x : Session). is_open x.state) o) ≡ true
    → is_open_row o ≡ true
only_open None e = e
only_open (Some x) e = go (is_open x.state) refl e
  where
    go : (t : Bool) → is_open x.state ≡ t → is_open_row (if t then Some x else None) ≡ true
        → is_open x.state ≡ true
    go true k f = k
    go false k f = absurd (not_both f)

pub name_open : (o : Option (List ℕ)) (x : Session) → IfSome o (λ s. s ≡ x.id)
    → true ≡ is_open x.state → IfSome o (λ s. (s ≡ x.id) × (is_open x.state ≡ true))
name_open None x h on = tt
name_open (Some s) x h on = (h, sym on)

pub first_named : (xs : List Session) (x : Session) (o : Option (List ℕ))
    → Some x ≡ slice_get xs 0 → IfSome o (λ s. (s ≡ x.id) × (is_open x.state ≡ true))
    → IfSome o (λ s. is_open_row (session_in s xs) ≡ true)
first_named xs x None first h = tt
first_named [] x (Some s) first h = absurd (no_some x (sym first))
first_named (y ∷ ys) x (Some s) first (named, on) =
    let here : y ≡ x = sym (some_of x y first) in
    ap (λ t. is_open_row (cond t (Some y) (session_in s ys)))
    (name_itself y.id s (ap (λ (z : Session). z.id) here ∙ sym named))
    ∙ ap (λ (z : Session). is_open z.state) here ∙ on
  where
    name_itself : (a b : List ℕ) → a ≡ b → is_same a b ≡ true
    name_itself a b e = ap (is_same a) (sym e) ∙ same_itself a

pub live_of : (o : Option (List ℕ)) (xs ys : List Session) → xs ≡ ys
    → IfSome o (λ s. is_open_row (session_in s xs) ≡ true)
    → (s : List ℕ) → o ≡ Some s → is_open_row (session_in s ys) ≡ true
live_of None xs ys same h s e = absurd (no_some s e)
live_of (Some z) xs ys same h s e =
    subst (λ l. is_open_row (session_in s l) ≡ true) same
    (subst (λ n. is_open_row (session_in n xs) ≡ true) (some_of z s e) h)

pub seen_of_copy : (a b : List ℕ) (w : StoredRows) (x : SeenAccount) → a ≡ b → IsSeenOf a w x
    → IsSeenOf b w x
seen_of_copy a b w x same h = subst (λ n. IsSeenOf n w x) same h

-- what a reservation that holds of one bucket alone says
pub record IsToldGrant (g : ℕ) (o : Option Reservation) (y : SeenGrant) : Type 0 where
  pub reservation : Reservation
  pub is : o ≡ Some reservation
  pub group : y.group ≡ g
  pub book : reservation.terms.book ≡ y.book
  pub bucket : only_bucket reservation.holds ≡ Some y.bucket

abbrev grant_as : ℕ → ℕ → ℕ → SeenGrant
grant_as g b n = record { group = g; book = b; bucket = n }

pub told_grant : (g : ℕ) (o : Option Reservation) (y : SeenGrant) → grant_with g o ≡ Some y
    → IsToldGrant g o y
told_grant g None y e = absurd (no_some y e)
told_grant g (Some v) y e = at (only_bucket v.holds) refl e
  where
    at : (p : Option ℕ) → only_bucket v.holds ≡ p
        → option_map (grant_as g v.terms.book) p ≡ Some y → IsToldGrant g (Some v) y
    at None k f = absurd (no_some y f)
    at (Some n) k f =
        let same : grant_as g v.terms.book n ≡ y = some_of (grant_as g v.terms.book n) y f in
        record {
          reservation = v;
          is = refl;
          group = sym (ap (λ (z : SeenGrant). z.group) same);
          book = ap (λ (z : SeenGrant). z.book) same;
          bucket = k ∙ ap (λ (z : SeenGrant). Some z.bucket) same;
        }

pub own_is : (x : SessionGroup) (s : List ℕ) (o : Option SeenGrant)
    → o ≡ grant_with x.group x.reservation → true ≡ same_name x.session s
    → IfSome o (λ y. (same_name x.session s ≡ true) × (grant_with x.group x.reservation ≡ Some y))
own_is x s None e on = tt
own_is x s (Some y) e on = (sym on, sym e)

pub grant_first : (xs : List SessionGroup) (x : SessionGroup) (s : List ℕ) (o : Option SeenGrant)
    → Some x ≡ slice_get xs 0
    → IfSome o (λ y. (same_name x.session s ≡ true) × (grant_with x.group x.reservation ≡ Some y))
    → IfSome o (IsGrantIn xs s)
grant_first xs x s None first h = tt
grant_first [] x s (Some y) first h = absurd (no_some x (sym first))
grant_first (z ∷ zs) x s (Some y) first (own, is) =
    let here : z ≡ x = sym (some_of x z first) in
    let told = told_grant x.group x.reservation y is in
    let both : (same_name z.session s && nat_eq z.group x.group) ≡ true =
    ap (λ (w : SessionGroup). same_name w.session s && nat_eq w.group x.group) here
    ∙ ap (λ t. t && nat_eq x.group x.group) own ∙ number_itself x.group in
    let found : group_in s x.group (z ∷ zs) ≡ Some x =
    ap (λ t. cond t (Some z) (group_in s x.group zs)) both ∙ ap Some here in
    record {
      row = x;
      found = subst (λ g. group_in s g (z ∷ zs) ≡ Some x) (sym told.group) found;
      grant = subst (λ g. grant_with g x.reservation ≡ Some y) (sym told.group) is;
    }

pub grant_of_live : (gs hs : List SessionGroup) (live : Option (List ℕ)) (o : Option SeenGrant)
    → gs ≡ hs → ((s : List ℕ) → live ≡ Some s → IfSome o (IsGrantIn gs s))
    → (s : List ℕ) (y : SeenGrant) → live ≡ Some s → o ≡ Some y → IsGrantIn hs s y
grant_of_live gs hs live o same h s y e f =
    subst (λ l. IsGrantIn l s y) same (subst (λ p. IfSome p (IsGrantIn gs s)) f (h s e))

one_held : (n b : ℕ) (hs : List HeldAmount) → only_bucket hs ≡ Some b → ¬ (n ≡ b) → held_at n hs ≡ 0
one_held n b [] e apart = absurd (no_some b e)
one_held n b (h ∷ k ∷ hs) e apart = absurd (no_some b e)
one_held n b (h ∷ []) e apart = none_at n (h ∷ []) (at (nat_eq h.bucket n) refl, tt)
  where
    at : (t : Bool) → nat_eq h.bucket n ≡ t → nat_eq h.bucket n ≡ false
    at true k = absurd (apart (sym (number_from h.bucket n k) ∙ some_of h.bucket b e))
    at false k = k

grant_stored : (r : TableRows) (l : Loaded) (s : List ℕ) (y : SeenGrant)
    → AreGrantsStored r l.before.groups → IsGrantIn l.before.groups s y → IsGrantSeen r s y
grant_stored r l s y grants there =
    let told = told_grant y.group there.row.reservation y there.grant in
    let is = grants s y.group there.row told.reservation there.found told.is in
    record {
      book = is.book ∙ ap Some told.book;
      held = λ n apart. is.held n
          (one_held n y.bucket told.reservation.holds told.bucket apart);
    }

-- the first selection wasn't seen
none_first : (r : TableRows) (x : SeenAccount) → x.first ≡ None
    → IfSome x.first (λ (y : SeenFirst). IsFirstRead y.asked r y.read)
none_first r x e =
    subst (λ o. IfSome o (λ (y : SeenFirst). IsFirstRead y.asked r y.read)) (sym e) tt

-- rule: database-writes.seen
pub load_seen : (names : Names) (shelf : Shelf) (t : ℕ) (a : List ℕ) (trees : Trees) (l : Loaded)
    (o : Option SeenAccount) → IfSome o (IsSeenOf l.number l.before)
    → IsLoadStored names shelf t a (rows_in trees a) (Some l) → Sees o trees
load_seen names shelf t a trees l None h stored = tt
load_seen names shelf t a trees l (Some x) h stored =
    let number : l.number ≡ a = stored.load.0 in
    let before = stored.load.2 in
    let from = stored.load.1 in
    subst (λ b. IsSeen (rows_in trees b) x) (sym (h.account ∙ number)) (record {
      head = λ k e. head_back (rows_in trees a).head (stored_rows l.account) from.head
          ∙ ap (λ w. Some (head_columns_of w)) (sym before) ∙ sym h.head ∙ e;
      live = λ s e. only_open ((rows_in trees a).sessions s)
          (ap is_open_row (sym (from.sessions s))
          ∙ ap (λ (w : StoredRows). is_open_row (session_in s w.sessions)) (sym before)
          ∙ h.live s e);
      grant = λ s y e f. grant_stored (rows_in trees a) l s y stored.rows.grants
          (h.grant s y e f);
      unknown = λ s e. absurd (no_some s (sym h.unknown ∙ e));
      first = none_first (rows_in trees a) x h.first;
    })

-- ---- what is seen of a session

-- it has no row
pub known_read : {E : Type 0} (a s : List ℕ) (o : Option Session) (known : Bool)
    (old new : State) → Reads {A = Option Session} {E = E}
    (λ trees p. p ≡ (rows_in trees a).sessions s) old new (Ok o)
    → (HasCleanDisk new → o ≡ None → HasNoGroups (rows_in old.now.trees a) s)
    → known ≡ is_some o → Reads {A = Bool} {E = E}
    (λ trees k. IsKnown (rows_in trees a) s k) old new (Ok known)
known_read {E} a s o known old new reads none is = record {
  found = λ clean. record {
    row = is ∙ ap is_some (reads.found clean);
    groups = λ e. none clean (is_none_is o (sym is ∙ e));
  };
  only = reads.only;
  stays = reads.stays;
  survives = reads.survives;
}

unknown_of : (r : TableRows) (s : List ℕ) (k : Bool) → k ≡ false → IsKnown r s k → IsUnknown r s
unknown_of r s k e h = record {
  row = is_none_is (r.sessions s) (sym h.row ∙ e);
  groups = h.groups e;
}

-- of an account of which nothing else is seen
pub alone_seen : (a s : List ℕ) (o : Option SeenAccount) → IfSome o (IsUnknownAlone a s)
    → (trees : Trees) → IsKnown (rows_in trees a) s false → Sees o trees
alone_seen a s None h trees known = tt
alone_seen a s (Some x) h trees known =
    subst (λ b. IsSeen (rows_in trees b) x) (sym h.account) (record {
      head = λ k e. absurd (no_some k (sym h.head ∙ e));
      live = λ z e. absurd (no_some z (sym h.live ∙ e));
      grant = λ z y e f. absurd (no_some y (sym h.grant ∙ f));
      unknown = λ z e. subst (IsUnknown (rows_in trees a)) (sym (h.unknown z e))
          (unknown_of (rows_in trees a) s false refl known);
      first = none_first (rows_in trees a) x h.first;
    })

-- what the first selection gave is as it was
same_first : (r : TableRows) (o p : Option SeenFirst) → p ≡ o
    → IfSome o (λ (y : SeenFirst). IsFirstRead y.asked r y.read)
    → IfSome p (λ (y : SeenFirst). IsFirstRead y.asked r y.read)
same_first r o p e =
    subst (λ q. IfSome q (λ (y : SeenFirst). IsFirstRead y.asked r y.read)) (sym e)

-- rule: database-writes.seen
pub noted : (x y : SeenAccount) (a s : List ℕ) → IsSeenWith s x y → true ≡ same_name x.account a
    → (trees : Trees) → IsSeen (rows_in trees x.account) x → IsKnown (rows_in trees a) s false
    → IsSeen (rows_in trees y.account) y
noted x y a s w same trees seen known =
    let here : x.account ≡ a = name_from x.account a (sym same) in
    let none : IsUnknown (rows_in trees x.account) s =
    subst (λ b. IsUnknown (rows_in trees b) s) (sym here)
    (unknown_of (rows_in trees a) s false refl known) in
    subst (λ b. IsSeen (rows_in trees b) y) (sym w.account) (record {
      head = λ k e. seen.head k (sym w.head ∙ e);
      live = λ z e. seen.live z (sym w.live ∙ e);
      grant = λ z y e f. seen.grant z y (sym w.live ∙ e) (sym w.grant ∙ f);
      unknown = λ z e. subst (IsUnknown (rows_in trees x.account)) (sym (w.unknown z e)) none;
      first = same_first (rows_in trees x.account) x.first y.first w.first seen.first;
    })

-- what was answered
pub not_known : (a s : List ℕ) (read : Result Bool ReadFault) → read ≡ Ok false → (trees : Trees)
    → IfOk read (IsKnown (rows_in trees a) s) → IsKnown (rows_in trees a) s false
not_known a s read answered trees told =
    subst (λ (r : Result Bool ReadFault). IfOk r (IsKnown (rows_in trees a) s)) answered told

-- ---- what is seen later

pub joined_seen : (x y z : SeenAccount) → IsJoined x y z → true ≡ same_name x.account y.account
    → (trees : Trees) → IsSeen (rows_in trees x.account) x → IsSeen (rows_in trees y.account) y
    → IsSeen (rows_in trees z.account) z
joined_seen x y z j same trees older newer =
    let here : x.account ≡ y.account = name_from x.account y.account (sym same) in
    subst (λ b. IsSeen (rows_in trees b) z) (sym j.account) (record {
      head = λ k e. newer.head k (sym j.head ∙ e);
      live = λ s e. newer.live s (sym j.live ∙ e);
      grant = λ s y e f. newer.grant s y (sym j.live ∙ e) (sym j.grant ∙ f);
      unknown = λ s e. subst (λ b. IsUnknown (rows_in trees b) s) here
          (older.unknown s (sym j.unknown ∙ e));
      first = subst (λ b. IfSome z.first (λ (w : SeenFirst).
          IsFirstRead w.asked (rows_in trees b) w.read)) here
          (same_first (rows_in trees x.account) x.first z.first j.first older.first);
    })

pub name_is : (s : List ℕ) (o : Option (List ℕ)) → is_name s o ≡ true → o ≡ Some s
name_is s None e = absurd (not_both e)
name_is s (Some z) e = ap Some (name_from z s e)

pub standing_told : (r : TableRows) (x : SeenAccount) (s : List ℕ) → IsSeen r x
    → IfSome (standing_in x s) (IsStanding r s)
standing_told r x s seen = go (is_name s x.unknown) (is_name s x.live) refl refl
  where
    go : (p q : Bool) → is_name s x.unknown ≡ p → is_name s x.live ≡ q
        → IfSome (if p then Some Unknown else (if q then Some Open else None)) (IsStanding r s)
    go true q e f = seen.unknown s (name_is s x.unknown e)
    go false true e f = seen.live s (name_is s x.live f)
    go false false e f = tt

pub head_told : (r : TableRows) (x : SeenAccount) → IsSeen r x
    → IfSome x.head (λ (h : HeadColumns). r.head ≡ Some h)
head_told r x seen = go x.head refl
  where
    go : (o : Option HeadColumns) → x.head ≡ o → IfSome o (λ (h : HeadColumns). r.head ≡ Some h)
    go None e = tt
    go (Some h) e = seen.head h e

-- of an account by its number
pub of_account : (a b : List ℕ) → true ≡ same_name a b → (P : List ℕ → Type 0) → P a → P b
of_account a b same P = subst P (name_from a b (sym same))

-- ---- what is read of a session

by_row : (r : TableRows) (s : List ℕ) (x : Session) → Some x ≡ r.sessions s → (t : Bool)
    → is_open x.state ≡ t → IsStanding r s (if t then Open else Over)
by_row r s x e true k = ap is_open_row (sym e) ∙ k
by_row r s x e false k = ap is_open_row (sym e) ∙ k

stands : (r : TableRows) (s : List ℕ) (p : Option Session) → p ≡ r.sessions s
    → (p ≡ None → HasNoGroups r s) → IsStanding r s (standing_of p)
stands r s None e gone = record { row = sym e; groups = gone refl }
stands r s (Some x) e gone = by_row r s x e (is_open x.state) refl

pub standing_read : {E : Type 0} (a s : List ℕ) (o : Option Session) (y : Standing)
    (old new : State) → Reads {A = Option Session} {E = E}
    (λ trees p. p ≡ (rows_in trees a).sessions s) old new (Ok o)
    → (HasCleanDisk new → o ≡ None → HasNoGroups (rows_in old.now.trees a) s)
    → y ≡ standing_of o → Gathers {A = Standing} {E = E}
    (λ trees z. IsStanding (rows_in trees a) s z) old new (Ok y)
standing_read {E} a s o y old new reads none is =
    gathers_from {A = Standing} {E = E} (λ trees z. IsStanding (rows_in trees a) s z) old new
    (Ok y)
    (have_read {A = Option Session} {E = E} (λ trees p. p ≡ (rows_in trees a).sessions s) old new
    o reads)
    (λ clean on. subst (IsStanding (rows_in old.now.trees a) s) (sym is)
    (stands (rows_in old.now.trees a) s o (reads.found clean) (none clean)))
