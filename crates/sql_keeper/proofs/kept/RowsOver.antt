-- The live rows of an account that a keeper keeps, with those of a change in their places: what may
-- still change once the change is written.
use Rattle.std.proofs.Common.{◌≡◌, ℕ, Bool, true, false, cond, List, [], ◌∷◌, Option, Some, None}
use Rattle.std.proofs.Common.{map, refl, sym, ap, subst, ◌∙◌, ◌⊎◌, inl, inr}
use Rattle.std.specs.Prelude.{if◌then◌else◌, ◌==◌, ◌&&◌, ◌||◌, filter, not, is_some, option_map}
use Rattle.std.specs.Prelude.{unwrap_or}
use Rattle.std.specs.List.{find, list_all}
use Rattle.buckets.specs.Row.{BucketRow}
use Rattle.ledger.specs.Ledger.{is_same}
use Rattle.ledger.proofs.Holds.{same_from}
use Rattle.reserving.specs.declared.session.Session.{Session}
use Rattle.reserving.specs.declared.session.SessionGroup.{SessionGroup}
use Rattle.reserving.specs.Left.{bucket_in, first_of, is_dead, is_open_row, only}
use Rattle.reserving.specs.Sessions.{group_in, is_of, is_open, is_session, session_in}
use Rattle.reserving.specs.Stored.{StoredRows}
use Rattle.reserving.proofs.Keys.{first_true, same_number, second_true}
use Rattle.reserving.proofs.LeftParted.{one_session}
use Rattle.reserving.proofs.LeftTests.{find_filter}
use Rattle.reserving.proofs.Lists.{find-map, find-passes, no_some, not_both, some_of}
use Rattle.keepers.specs.Change.{held_over, over}
use Rattle.keepers.specs.Tables.{GroupRow, Rows, group_row, held_of}
use Rattle.keepers.specs.Keyed.{same_bucket, same_session}
use Rattle.keepers.proofs.Found.{one_bucket}
use Rattle.keepers.proofs.GroupRows.{held_over_is, row_over}
use Rattle.sql_tables.specs.Selects.{passing}
use Rattle.sql_rows.specs.Content.{TableRows}
use Rattle.sql_keeper.specs.Content.{Names, held_in, is_reserved, stored_group_in, told_rows}
use Rattle.sql_keeper.specs.KeptRows.{AreGrantsOver, AreOf, AreOpenRows, AreReplaced, buckets_over}
use Rattle.sql_keeper.specs.KeptRows.{groups_over, is_known, sessions_over, stays, stays_bucket}
use Rattle.sql_keeper.specs.KeptRows.{stays_session}
use Rattle.sql_keeper.specs.LiveGroups.{AreGrantsStored, IsGrantStored}
use Rattle.sql_keeper.specs.LiveRows.{AreToldRows}
use Rattle.sql_keeper.specs.Seen.{IsUnknown}
use Rattle.sql_keeper.specs.declared.live_rows.LiveRows.{LiveRows}
use Rattle.sql_keeper.proofs.loads.DeadRows.{those_are}
use Rattle.sql_keeper.proofs.loads.LiveRows.{find_kept}

-- ---- rows of one kind

-- what is found once the rows that are named are in the places of those of their keys
over_found : {A : Type 0} (q : A → Bool) (named : A → Option A) (o : Option A) (xs : List A)
    → ((x y : A) → named x ≡ Some y → q y ≡ q x) → ((x : A) → q x ≡ true → named x ≡ o)
    → find q (map (λ x. unwrap_or (named x) x) xs) ≡ option_map (λ x. unwrap_or o x) (find q xs)
over_found {A} q named o xs keys own =
    find-map q (λ x. unwrap_or (named x) x) xs (λ x. same x (named x) refl) ∙ at (find q xs) refl
  where
    same : (x : A) (p : Option A) → named x ≡ p → q (unwrap_or p x) ≡ q x
    same x None e = refl
    same x (Some y) e = keys x y e

    at : (m : Option A) → find q xs ≡ m
        → option_map (λ x. unwrap_or (named x) x) m ≡ option_map (λ x. unwrap_or o x) m
    at None e = refl
    at (Some x) e = ap (λ p. Some (unwrap_or p x)) (own x (find-passes q xs x e))

-- a row that is found is one of all
all_found : {A : Type 0} (p q : A → Bool) (xs : List A) (x : A) → list_all p xs ≡ true
    → find q xs ≡ Some x → p x ≡ true
all_found p q [] x h e = absurd (no_some x e)
all_found p q (y ∷ ys) x h e =
    at (q y) e (all_found p q ys x (second_true (p y) (list_all p ys) h))
  where
    at : (t : Bool) → cond t (Some y) (find q ys) ≡ Some x → (find q ys ≡ Some x → p x ≡ true)
        → p x ≡ true
    at true f rest = ap p (sym (some_of y x f)) ∙ first_true (p y) (list_all p ys) h
    at false f rest = rest f

bucket_found : (n : ℕ) (ws bs : List BucketRow) → bucket_in n (buckets_over ws bs)
    ≡ option_map (λ x. unwrap_or (bucket_in n ws) x)
    (if stays (λ b. not (is_dead b)) (bucket_in n ws) then bucket_in n bs else None)
bucket_found n ws bs =
    over_found (λ (b : BucketRow). b.number == n) (λ x. bucket_in x.number ws) (bucket_in n ws)
    (filter (stays_bucket ws) bs)
    (λ x y e. ap (λ m. m == n) (same_number y.number x.number
    (find-passes (λ (b : BucketRow). b.number == x.number) ws y e)))
    (λ x e. ap (λ m. bucket_in m ws) (same_number x.number n e))
    ∙ ap (option_map (λ x. unwrap_or (bucket_in n ws) x))
    (find_kept (λ (b : BucketRow). b.number == n) (stays_bucket ws)
    (stays (λ b. not (is_dead b)) (bucket_in n ws))
    (λ x e. ap (λ m. stays (λ (b : BucketRow). not (is_dead b)) (bucket_in m ws))
    (same_number x.number n e)) bs)

session_found : (s : List ℕ) (ws ss : List Session) → session_in s (sessions_over ws ss)
    ≡ option_map (λ x. unwrap_or (session_in s ws) x)
    (if stays_session ws s then session_in s ss else None)
session_found s ws ss =
    over_found (is_session s) (λ x. session_in x.id ws) (session_in s ws)
    (filter (λ x. stays_session ws x.id) ss)
    (λ x y e. ap (λ m. is_same m s) (same_from y.id x.id (find-passes (is_session x.id) ws y e)))
    (λ x e. ap (λ m. session_in m ws) (same_from x.id s e))
    ∙ ap (option_map (λ x. unwrap_or (session_in s ws) x))
    (find_kept (is_session s) (λ x. stays_session ws x.id) (stays_session ws s)
    (λ x e. ap (stays_session ws) (same_from x.id s e)) ss)

-- the key of a rating group's row that is found
key_session : (s : List ℕ) (g : ℕ) (x : SessionGroup) → is_of s g x ≡ true → x.session ≡ s
key_session s g x e = same_from x.session s (first_true (is_same x.session s) (x.group == g) e)

key_group : (s : List ℕ) (g : ℕ) (x : SessionGroup) → is_of s g x ≡ true → x.group ≡ g
key_group s g x e = same_number x.group g (second_true (is_same x.session s) (x.group == g) e)

group_found : (s : List ℕ) (g : ℕ) (ts : List Session) (ws xs : List SessionGroup)
    → group_in s g (groups_over ts ws xs)
    ≡ option_map (λ x. unwrap_or (group_in s g ws) x)
    (if stays_session ts s then group_in s g xs else None)
group_found s g ts ws xs =
    over_found (is_of s g) (λ x. group_in x.session x.group ws) (group_in s g ws)
    (filter (λ x. stays_session ts x.session) xs)
    (λ x y e. let key = find-passes (is_of x.session x.group) ws y e in
    (λ i. is_same (key_session x.session x.group y key i) s
    && (key_group x.session x.group y key i == g)))
    (λ x e. (λ i. group_in (key_session s g x e i) (key_group s g x e i) ws))
    ∙ ap (option_map (λ x. unwrap_or (group_in s g ws) x))
    (find_kept (is_of s g) (λ x. stays_session ts x.session) (stays_session ts s)
    (λ x e. ap (stays_session ts) (key_session s g x e)) xs)

-- ---- with what is new

-- of rows that are in their places or new, those that may still change
last_over : {A : Type 0} (live : A → Bool) (o m t : Option A) → m ≡ only live t
    → first_of (option_map (λ x. unwrap_or o x) (if stays live o then m else None)) (only live o)
    ≡ only live (first_of o t)
last_over live None None t e = e
last_over live None (Some x) t e = e
last_over {A} live (Some y) m t e = at (live y) m
  where
    at : (l : Bool) (n : Option A)
        → first_of (option_map (λ x. unwrap_or (Some y) x) (if l then n else None))
        (if l then Some y else None) ≡ (if l then Some y else None)
    at true None = refl
    at true (Some x) = refl
    at false n = refl

-- what an open session has of a rating group, in its place or new
group_last : (t c : Bool) (o k : Option SessionGroup) → (t ≡ true → c ≡ true)
    → (t ≡ false → (if c then k else None) ≡ None)
    → first_of (option_map (λ x. unwrap_or o x) (if c then k else None)) (if t then o else None)
    ≡ (if t then first_of o k else None)
group_last true c o k stay none =
    ap (λ b. first_of (option_map (λ x. unwrap_or o x) (if b then k else None)) o) (stay refl)
    ∙ at o k
  where
    at : (p l : Option SessionGroup)
        → first_of (option_map (λ x. unwrap_or p x) l) p ≡ first_of p l
    at None None = refl
    at None (Some x) = refl
    at (Some y) None = refl
    at (Some y) (Some x) = refl
group_last false c o k stay none =
    ap (λ l. first_of (option_map (λ x. unwrap_or o x) l) None) (none refl)

-- ---- an account's rows, whatever the tables

-- of what is open a row is found
open_found : (o : Option Session) → is_some (only (λ (x : Session). is_open x.state) o)
    ≡ is_open_row o
open_found None = refl
open_found (Some x) = at (is_open x.state)
  where
    at : (t : Bool) → is_some (if t then Some x else None) ≡ t
    at true = refl
    at false = refl

row_none : (o : Option SessionGroup) → option_map group_row o ≡ None → o ≡ None
row_none None e = refl
row_none (Some x) e = absurd (no_some (group_row x) (sym e))

row_then : (t : Bool) (o k : Option SessionGroup) (now z : Option GroupRow) → (t ≡ true → now ≡ z)
    → option_map group_row k ≡ now
    → option_map group_row (if t then first_of o k else None)
    ≡ (if t then first_of (option_map group_row o) z else None)
row_then true o k now z as_now e =
    sym (row_over o k) ∙ ap (first_of (option_map group_row o)) (e ∙ as_now refl)
row_then false o k now z as_now e = refl

held_then : (n : ℕ) (t : Bool) (o k : Option SessionGroup) (now z : ℕ) → (t ≡ true → now ≡ z)
    → held_of n k ≡ now
    → held_of n (if t then first_of o k else None) ≡ (if t then held_over n o z else 0)
held_then n true o k now z as_now e =
    sym (held_over_is n o k) ∙ ap (held_over n o) (e ∙ as_now refl)
held_then n false o k now z as_now e = refl

-- what is there of an open session, or nothing where nothing is there
if_there : {A : Type 0} (t : Bool) (x none : A) → (t ≡ true) ⊎ (x ≡ none)
    → (if t then x else none) ≡ x
if_there true x none h = refl
if_there false x none (inl e) = absurd (not_both e)
if_there false x none (inr e) = sym e

-- of a session nothing is there
pub record IsNothing (r : Rows) (s : List ℕ) : Type 0 where
  pub groups : (g : ℕ) → r.groups s g ≡ None
  pub holds : (g n : ℕ) → r.holds s g n ≡ 0

module _ (fresh : List ℕ → Bool) (r : Rows) (w : StoredRows) (x y : LiveRows)
    (are : AreOpenRows r x.purse x.sessions.items x.groups.items) (put : AreReplaced fresh w x y)
    (nothing : (s : List ℕ) → fresh s ≡ true → IsNothing r s) where
  bucket_over_is : (n : ℕ) → bucket_in n y.purse
      ≡ only (λ b. not (is_dead b)) (first_of (bucket_in n w.buckets) (r.buckets n))
  bucket_over_is n =
      put.buckets n
      ∙ (λ i. first_of (bucket_found n w.buckets x.purse i)
      (find_filter same_bucket (λ (b : BucketRow). b.number == n) (one_bucket n)
      (λ (b : BucketRow). not (is_dead b)) w.buckets put.named.apart.buckets i))
      ∙ last_over (λ (b : BucketRow). not (is_dead b)) (bucket_in n w.buckets)
      (bucket_in n x.purse) (r.buckets n) (are.buckets n)

  session_over_is : (s : List ℕ) → session_in s y.sessions.items
      ≡ only (λ z. is_open z.state) (first_of (session_in s w.sessions) (r.sessions s))
  session_over_is s =
      put.sessions s
      ∙ (λ i. first_of (session_found s w.sessions x.sessions.items i)
      (find_filter same_session (is_session s) (one_session s)
      (λ (z : Session). is_open z.state) w.sessions put.named.apart.sessions i))
      ∙ last_over (λ (z : Session). is_open z.state) (session_in s w.sessions)
      (session_in s x.sessions.items) (r.sessions s) (are.sessions s)

  open_after : List ℕ → Bool
  open_after s = is_open_row (first_of (session_in s w.sessions) (r.sessions s))

  open_is : (s : List ℕ) → is_some (session_in s y.sessions.items) ≡ open_after s
  unfolding open_after
  open_is s = ap is_some (session_over_is s)
      ∙ open_found (first_of (session_in s w.sessions) (r.sessions s))

  was_open : (s : List ℕ) → is_some (session_in s x.sessions.items) ≡ is_open_row (r.sessions s)
  was_open s = ap is_some (are.sessions s) ∙ open_found (r.sessions s)

  -- a session that is open as it is named was open, or nothing was there of it
  was_known : (s : List ℕ) (z : Session) → session_in s w.sessions ≡ Some z
      → is_open z.state ≡ true → (is_some (session_in s x.sessions.items) || fresh s) ≡ true
  was_known s z e on =
      at (is_open z.state) (is_some (session_in s x.sessions.items) || fresh s)
      (ap (λ m. not (is_open z.state)
      || (is_some (session_in m x.sessions.items) || fresh m))
      (sym (same_from z.id s (find-passes (is_session s) w.sessions z e)))
      ∙ all_found (is_known fresh x.sessions.items) (is_session s) w.sessions z put.known e) on
    where
      at : (t u : Bool) → (not t || u) ≡ true → t ≡ true → u ≡ true
      at true u h k = h
      at false u h k = absurd (not_both k)

  still : (s : List ℕ) → open_after s ≡ true
      → (is_open_row (r.sessions s) ≡ true) ⊎ (fresh s ≡ true)
  unfolding open_after
  still s = at (session_in s w.sessions) (was_known s)
    where
      either : (t u : Bool) → (t || u) ≡ true → (t ≡ true) ⊎ (u ≡ true)
      either true u e = inl refl
      either false u e = inr e

      at : (o : Option Session) → ((z : Session) → o ≡ Some z → is_open z.state ≡ true
          → (is_some (session_in s x.sessions.items) || fresh s) ≡ true)
          → is_open_row (first_of o (r.sessions s)) ≡ true
          → (is_open_row (r.sessions s) ≡ true) ⊎ (fresh s ≡ true)
      at None known e = inl e
      at (Some z) known e = either (is_open_row (r.sessions s)) (fresh s)
          (ap (λ t. t || fresh s) (sym (was_open s)) ∙ known z refl e)

  rows_there : (s : List ℕ) (g : ℕ) → open_after s ≡ true
      → (if is_open_row (r.sessions s) then r.groups s g else None) ≡ r.groups s g
  rows_there s g e = if_there (is_open_row (r.sessions s)) (r.groups s g) None (by (still s e))
    where
      by : (is_open_row (r.sessions s) ≡ true) ⊎ (fresh s ≡ true)
          → (is_open_row (r.sessions s) ≡ true) ⊎ (r.groups s g ≡ None)
      by (inl k) = inl k
      by (inr k) = inr ((nothing s k).groups g)

  holds_there : (s : List ℕ) (g n : ℕ) → open_after s ≡ true
      → (if is_open_row (r.sessions s) then r.holds s g n else 0) ≡ r.holds s g n
  holds_there s g n e = if_there (is_open_row (r.sessions s)) (r.holds s g n) 0 (by (still s e))
    where
      by : (is_open_row (r.sessions s) ≡ true) ⊎ (fresh s ≡ true)
          → (is_open_row (r.sessions s) ≡ true) ⊎ (r.holds s g n ≡ 0)
      by (inl k) = inl k
      by (inr k) = inr ((nothing s k).holds g n)

  stays_on : (s : List ℕ) → open_after s ≡ true → stays_session w.sessions s ≡ true
  unfolding open_after
  stays_on s = at (session_in s w.sessions)
    where
      at : (o : Option Session) → is_open_row (first_of o (r.sessions s)) ≡ true
          → stays (λ (z : Session). is_open z.state) o ≡ true
      at None e = refl
      at (Some z) e = e

  none_on : (s : List ℕ) (g : ℕ) → open_after s ≡ false
      → (if stays_session w.sessions s then group_in s g x.groups.items else None) ≡ None
  unfolding open_after
  none_on s g = at (session_in s w.sessions)
    where
      at : (o : Option Session) → is_open_row (first_of o (r.sessions s)) ≡ false
          → (if stays (λ (z : Session). is_open z.state) o then group_in s g x.groups.items
          else None) ≡ None
      at None e = row_none (group_in s g x.groups.items)
          (are.groups s g ∙ ap (λ t. if t then r.groups s g else None) e)
      at (Some z) e = ap (λ t. if t then group_in s g x.groups.items else None) e

  -- what is named of a rating group is put in where its session is open
  named_of : (s : List ℕ) (g : ℕ) → group_in s g
      (filter (λ z. is_some (session_in z.session y.sessions.items)) w.groups)
      ≡ (if open_after s then group_in s g w.groups else None)
  named_of s g =
      find_kept (is_of s g) (λ z. is_some (session_in z.session y.sessions.items)) (open_after s)
      (λ z e. ap (λ m. is_some (session_in m y.sessions.items)) (key_session s g z e) ∙ open_is s)
      w.groups

  pub group_over_is : (s : List ℕ) (g : ℕ) → group_in s g y.groups.items
      ≡ (if is_open_row (first_of (session_in s w.sessions) (r.sessions s))
      then first_of (group_in s g w.groups) (group_in s g x.groups.items) else None)
  unfolding open_after
  group_over_is s g =
      put.groups s g
      ∙ (λ i. first_of (group_found s g w.sessions w.groups x.groups.items i) (named_of s g i))
      ∙ group_last (open_after s) (stays_session w.sessions s) (group_in s g w.groups)
      (group_in s g x.groups.items) (stays_on s) (none_on s g)

  pub open_over : AreOpenRows (over w r) y.purse y.sessions.items y.groups.items
  unfolding open_after
  open_over = record {
    buckets = bucket_over_is;
    sessions = session_over_is;
    groups = λ s g.
        ap (option_map group_row) (group_over_is s g)
        ∙ row_then (open_after s) (group_in s g w.groups) (group_in s g x.groups.items)
        (if is_open_row (r.sessions s) then r.groups s g else None) (r.groups s g)
        (rows_there s g) (are.groups s g);
    holds = λ s g n.
        ap (held_of n) (group_over_is s g)
        ∙ held_then n (open_after s) (group_in s g w.groups) (group_in s g x.groups.items)
        (if is_open_row (r.sessions s) then r.holds s g n else 0) (r.holds s g n)
        (holds_there s g n) (are.holds s g n);
  }

-- ---- by the tables

told_group : {A : Type 0} (f : Bool → Option A) (t : Bool)
    → (if t then f true else None) ≡ (if t then f t else None)
told_group f true = refl
told_group f false = refl

told_hold : (f : Bool → ℕ) (t : Bool) → (if t then f true else 0) ≡ (if t then f t else 0)
told_hold f true = refl
told_hold f false = refl

module _ (names : Names) (r : TableRows) (bs : List BucketRow) (ss : List Session)
    (xs : List SessionGroup) where
  group_told : (s : List ℕ) (g : ℕ) → (if is_open_row (r.sessions s)
      then option_map (stored_group_in names true (r.grant_books s g)) (r.groups s g) else None)
      ≡ (if is_open_row (r.sessions s) then (told_rows names r).groups s g else None)
  group_told s g =
      told_group (λ t. option_map (stored_group_in names t (r.grant_books s g)) (r.groups s g))
      (is_open_row (r.sessions s))

  hold_told : (s : List ℕ) (g n : ℕ) → (if is_open_row (r.sessions s)
      then held_in (is_reserved (r.groups s g)) (r.holds s g n) else 0)
      ≡ (if is_open_row (r.sessions s) then (told_rows names r).holds s g n else 0)
  hold_told s g n =
      told_hold (λ t. held_in (t && is_reserved (r.groups s g)) (r.holds s g n))
      (is_open_row (r.sessions s))

  session_told : (s : List ℕ) → passing (λ (x : Session). is_open x.state) (r.sessions s)
      ≡ only (λ (x : Session). is_open x.state) (r.sessions s)
  session_told s = those_are (λ (x : Session). is_open x.state) (λ (x : Session). is_open x.state)
      (λ x. refl) (r.sessions s)

  pub open_of_told : AreToldRows names r bs ss xs → AreOpenRows (told_rows names r) bs ss xs
  open_of_told told = record {
    buckets = told.buckets;
    sessions = λ s. told.sessions s ∙ session_told s;
    groups = λ s g. told.groups.groups s g ∙ group_told s g;
    holds = λ s g n. told.groups.holds s g n ∙ hold_told s g n;
  }

  pub told_of_open : AreOpenRows (told_rows names r) bs ss xs → AreToldRows names r bs ss xs
  told_of_open are = record {
    buckets = are.buckets;
    sessions = λ s. are.sessions s ∙ sym (session_told s);
    groups = record {
      groups = λ s g. are.groups s g ∙ sym (group_told s g);
      holds = λ s g n. are.holds s g n ∙ sym (hold_told s g n);
    };
  }

-- ---- how reservations are stored

grants_over : (old new : TableRows) (ws xs ys : List SessionGroup) (on : List ℕ → Bool)
    → AreGrantsStored old xs → AreGrantsOver ws old new
    → ((s : List ℕ) (g : ℕ) → group_in s g ys
    ≡ (if on s then first_of (group_in s g ws) (group_in s g xs) else None))
    → AreGrantsStored new ys
grants_over old new ws xs ys on stored are found s g x v e f =
    at (on s) (group_in s g ws) (group_in s g xs) refl refl (sym (found s g) ∙ e)
  where
    at : (t : Bool) (o k : Option SessionGroup) → group_in s g ws ≡ o → group_in s g xs ≡ k
        → (if t then first_of o k else None) ≡ Some x → IsGrantStored new s g v
    at false o k d h is = absurd (no_some x is)
    at true (Some y) k d h is = are.named s g x v (d ∙ is) f
    at true None k d h is =
        let was : IsGrantStored old s g v = stored s g x v (h ∙ is) f in
        record {
          book = are.books s g d ∙ was.book;
          held = λ n none. are.holds s g n d ∙ was.held n none;
        }

-- ---- all of it

-- of a session of which nothing is stored nothing is known
nothing_told : (names : Names) (r : TableRows) (s : List ℕ) → IsUnknown r s
    → IsNothing (told_rows names r) s
nothing_told names r s none = record {
  groups = λ g.
      ap (option_map (stored_group_in names (is_open_row (r.sessions s)) (r.grant_books s g)))
      (none.groups.groups g);
  holds = λ g n.
      ap (held_in (is_open_row (r.sessions s) && is_reserved (r.groups s g)))
      (none.groups.holds g n)
      ∙ not_held (is_open_row (r.sessions s) && is_reserved (r.groups s g));
}
  where
    not_held : (b : Bool) → held_in b None ≡ 0
    not_held true = refl
    not_held false = refl

-- rule: database-loads.keeps
pub live_over : (names : Names) (fresh : List ℕ → Bool) (old new : TableRows) (w : StoredRows)
    (x y : LiveRows) → AreOf names old x → AreReplaced fresh w x y
    → ((s : List ℕ) → fresh s ≡ true → IsUnknown old s)
    → told_rows names new ≡ over w (told_rows names old)
    → AreGrantsOver w.groups old new → AreOf names new y
live_over names fresh old new w x y live replaced unknown told grants =
    let open_old = open_of_told names old x.purse x.sessions.items x.groups.items live.told in
    let none : (s : List ℕ) → fresh s ≡ true → IsNothing (told_rows names old) s =
    λ s e. nothing_told names old s (unknown s e) in
    let open_new = open_over fresh (told_rows names old) w x y open_old replaced none in
    record {
      told = told_of_open names new y.purse y.sessions.items y.groups.items
          (subst (λ (r : Rows). AreOpenRows r y.purse y.sessions.items y.groups.items)
          (sym told) open_new);
      grants = grants_over old new w.groups x.groups.items y.groups.items
          (λ s. is_open_row (first_of (session_in s w.sessions) (old.sessions s)))
          live.grants grants
          (group_over_is fresh (told_rows names old) w x y open_old replaced none);
    }
