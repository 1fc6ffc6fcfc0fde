-- Whether a change may be made of what is stored, by what is read of it.
use Rattle.std.proofs.Common.{◌≡◌, ◌<◌, ◌≤◌, ◌+◌, take, get_or, length, ℕ, Bool, true, false}
use Rattle.std.proofs.Common.{List, [], ◌∷◌, ◌++◌, cond, Option, Some, None, Result, Ok, Err, IfOk}
use Rattle.std.proofs.Common.{IsTrue, ◌⊎◌, inl, inr, refl, sym, ap, subst, ◌∙◌, arith, ltb-true}
use Rattle.std.proofs.Common.{zero, suc}
use Rattle.std.specs.Prelude.{◌||◌, ◌&&◌, if◌then◌else◌, map, not, nat_eq, nat_le, is_some}
use Rattle.std.specs.Prelude.{option_map, ⊤}
use Rattle.std.specs.List.{find, list_all}
use Rattle.std.proofs.lemmas.Bool.{and_parts, not-true}
use Rattle.std.proofs.lemmas.List.{take_more, take_all}
use Rattle.sqlite.specs.State.{State, HasCleanDisk, IsLive}
use Rattle.sqlite_catalog.specs.Listing.{IsSound}
use Rattle.sqlite_schema.specs.declared.schema.Constraint.TheVariants.{ForeignKey}
use Rattle.buckets.specs.Row.{BucketRow}
use Rattle.reserving.specs.declared.session.Session.{Session}
use Rattle.reserving.specs.declared.session.SessionGroup.{SessionGroup}
use Rattle.ledger.specs.Lists.{EachIn}
use Rattle.reserving.specs.Sessions.{group_in, is_open, is_session, session_in}
use Rattle.reserving.specs.Left.{is_open_row}
use Rattle.reserving.proofs.Lists.{EachIn-found, EachIn-weaker, find-passes, not_both, no_some}
use Rattle.reserving.proofs.Lists.{some_of}
use Rattle.reserving.proofs.KeysFound.{is_none_is}
use Rattle.reserving.proofs.LeftTests.{each_append, each_with}
use Rattle.reserving.proofs.Restored.{all_pass}
use Rattle.keepers.specs.declared.loaded.Change.{Change}
use Rattle.sql_tables.specs.Statements.{HasIdleTables, Reads}
use Rattle.sql_rows.specs.declared.head.HeadColumns.{HeadColumns}
use Rattle.sql_rows.specs.Content.{TableRows, rows_in}
use Rattle.sql_rows.specs.Lists.{AreCoveredBeside, AreGroups, Ascends, GroupAt, HasNoGroups}
use Rattle.sql_rows.specs.Lists.{group_at_before}
use Rattle.sql_rows.specs.Values.{Group}
use Rattle.sql_rows.proofs.rules.ChargeBlocks.{covered_beside}
use Rattle.sql_keeper.specs.Numbers.{AreFree, first_bucket}
use Rattle.sql_keeper.specs.RuledRows.{is_ruled_change}
use Rattle.sql_keeper.specs.Content.{Names}
use Rattle.sql_keeper.specs.LiveGroups.{Gathers}
use Rattle.sql_keeper.specs.Seen.{IsStanding, IsUnknown, is_unknown, stands_open}
use Rattle.sql_keeper.specs.Tests.{is_as, is_beside, are_beside, IsSettled}
use Rattle.sql_keeper.specs.Tests.{AreFound, AreNewGroups, AreWritable, IsChangeFound, IsFound}
use Rattle.sql_keeper.specs.Tests.{AreNumbered, AreUnknown, IsTested, are_among}
use Rattle.sql_keeper.specs.Tests.{are_buckets_numbered, first_moment, first_number}
use Rattle.sql_keeper.specs.declared.seen.Standing.{Standing}
use Rattle.sql_keeper.specs.declared.seen.Standing.TheVariants.{Unknown, Open, Over}
use Rattle.sql_keeper.specs.declared.settling.NamedSessions.{NamedSessions}
use Rattle.sql_keeper.proofs.reads.InTurn.{HaveRead, none_read, have_read, have_gathered}
use Rattle.sql_keeper.proofs.reads.InTurn.{have_read_then, gathers_from}
use Rattle.sql_keeper.proofs.loads.LiveGroups.{told_before}
use Rattle.sql_keeper.proofs.puts.Overlays.{name_from, number_from, number_itself}

-- ---- the groups of a session

all_found : {A : Type 0} (p q : A → Bool) (xs : List A) (x : A) → list_all p xs ≡ true →
    find q xs ≡ Some x → p x ≡ true
all_found p q [] x all e = absurd (no_some x e)
all_found {A} p q (y ∷ ys) x all e =
    let parts = and_parts (p y) (list_all p ys) all in
    at (q y) e parts.0 (λ f. all_found p q ys x parts.1 f)
  where
    at : (t : Bool) → cond t (Some y) (find q ys) ≡ Some x → p y ≡ true →
        (find q ys ≡ Some x → p x ≡ true) → p x ≡ true
    at true f here rest = subst (λ z. p z ≡ true) (some_of y x f) here
    at false f here rest = rest f

not_reserved : (groups : List SessionGroup) (s : List ℕ) (g : ℕ) (x : GroupAt) (y : Group) →
    x.group ≡ g → x.row ≡ y → group_in s g groups ≡ None → is_beside groups s x ≡ true →
    y.periods ≡ None
not_reserved groups s g x y number row none passes =
    subst (λ (z : Group). z.periods ≡ None) row
    (is_none_is x.row.periods (not-true (is_some x.row.periods)
    (ap (λ b. b || not (is_some x.row.periods))
    (sym (ap (λ n. is_some (group_in s n groups)) number ∙ ap is_some none)) ∙ passes)))

pub free_beside : (groups : List SessionGroup) (s : List ℕ) (xs : List GroupAt) (r : TableRows) →
    AreGroups r s xs → are_beside groups s xs ≡ true → (g : ℕ) (y : Group) →
    r.groups s g ≡ Some y → group_in s g groups ≡ None → y.periods ≡ None
free_beside groups s xs r are all g y there none =
    at (find (λ x. nat_eq x.group g) xs) refl (are g ∙ there)
  where
    at : (o : Option GroupAt) → find (λ x. nat_eq x.group g) xs ≡ o →
        option_map (λ (x : GroupAt). x.row) o ≡ Some y → y.periods ≡ None
    at None e k = absurd (no_some y k)
    at (Some x) e k =
        not_reserved groups s g x y
        (number_from x.group g (find-passes (λ z. nat_eq z.group g) xs x e))
        (some_of x.row y k) none
        (all_found (is_beside groups s) (λ z. nat_eq z.group g) xs x all e)

-- rows in the order of their groups are each found under its own
other_group : (m n : ℕ) → m < n → nat_eq m n ≡ false
other_group m n less = at (nat_eq m n) refl
  where
    at : (t : Bool) → nat_eq m n ≡ t → t ≡ false
    at true e = absurd (let same = number_from m n e in omega (arith, same, less))
    at false e = refl

after_first : (x : GroupAt) (xs : List GroupAt) → Ascends group_at_before (x ∷ xs) →
    EachIn (λ (y : GroupAt). x.group < y.group) xs
after_first x [] order = tt
after_first x (y ∷ ys) order =
    let less : x.group < y.group = ltb-true x.group y.group order.0 in (
      less,
      EachIn-weaker (λ (z : GroupAt). y.group < z.group) (λ (z : GroupAt). x.group < z.group) ys
          (λ z more. omega (arith, less, more)) (after_first y ys order.1),
    )

ascends_later : (x : GroupAt) (xs : List GroupAt) → Ascends group_at_before (x ∷ xs) →
    Ascends group_at_before xs
ascends_later x [] order = tt
ascends_later x (y ∷ ys) order = order.1

own_rows : (xs : List GroupAt) → Ascends group_at_before xs →
    EachIn (λ (x : GroupAt). find (λ (z : GroupAt). nat_eq z.group x.group) xs ≡ Some x) xs
own_rows [] order = tt
own_rows (x ∷ xs) order = (
  ap (λ t. cond t (Some x) (find (λ (z : GroupAt). nat_eq z.group x.group) xs))
      (number_itself x.group),
  each_with (λ (y : GroupAt). x.group < y.group)
      (λ (y : GroupAt). find (λ (z : GroupAt). nat_eq z.group y.group) xs ≡ Some y)
      (λ (y : GroupAt). find (λ (z : GroupAt). nat_eq z.group y.group) (x ∷ xs) ≡ Some y) xs
      (λ y less there.
      ap (λ t. cond t (Some x) (find (λ (z : GroupAt). nat_eq z.group y.group) xs))
      (other_group x.group y.group less) ∙ there)
      (after_first x xs order) (own_rows xs (ascends_later x xs order)),
)

-- so where no group that isn't named has a reservation, each row is beside
pub beside_free : (groups : List SessionGroup) (s : List ℕ) (xs : List GroupAt) (r : TableRows) →
    Ascends group_at_before xs → AreGroups r s xs → ((g : ℕ) (y : Group) →
    r.groups s g ≡ Some y → group_in s g groups ≡ None → y.periods ≡ None) →
    are_beside groups s xs ≡ true
beside_free groups s xs r order are free =
    all_pass (is_beside groups s)
    (λ (x : GroupAt). find (λ (z : GroupAt). nat_eq z.group x.group) xs ≡ Some x)
    (λ x there. at x (group_in s x.group groups) refl
    (sym (are x.group) ∙ ap (option_map (λ (z : GroupAt). z.row)) there)) xs (own_rows xs order)
  where
    at : (x : GroupAt) (o : Option SessionGroup) → group_in s x.group groups ≡ o →
        r.groups s x.group ≡ Some x.row → is_beside groups s x ≡ true
    at x None e there =
        ap (λ p. is_some p || not (is_some x.row.periods)) e
        ∙ ap (λ p. not (is_some p)) (free x.group x.row there e)
    at x (Some y) e there = ap (λ p. is_some p || not (is_some x.row.periods)) e

pub all_map : {A B : Type 0} (p : B → Bool) (f : A → B) (xs : List A) →
    list_all (λ x. p (f x)) xs ≡ list_all p (map f xs)
all_map p f [] = refl
all_map p f (x ∷ xs) = ap (λ b. p (f x) && b) (all_map p f xs)

-- ---- one session

as_open : (a b : Bool) → (if a then b else not b) ≡ true → a ≡ b
as_open true b e = sym e
as_open false b e = sym (not-true b e)

-- one that wasn't there
pub found_new : {E : Type 0} (a : List ℕ) (groups : List SessionGroup) (x : Session)
    (y : Standing) (old new : State) → Gathers {A = Standing} {E = E}
    (λ trees z. IsStanding (rows_in trees a) x.id z) old new (Ok y) → true ≡ is_unknown y →
    Gathers {A = NamedSessions} {E = E} (λ trees z. IsFound groups (rows_in trees a) x z) old new
    (Ok (record { are_settled = true; are_new = true }))
found_new {E} a groups x y old new stands gone =
    gathers_from {A = NamedSessions} {E = E} (λ trees z. IsFound groups (rows_in trees a) x z)
    old new (Ok (record { are_settled = true; are_new = true }))
    (have_gathered {A = Standing} {E = E} (λ trees z. IsStanding (rows_in trees a) x.id z) old new
    y stands)
    (λ clean on.
    let nothing : IsUnknown (rows_in old.now.trees a) x.id =
    of_none (rows_in old.now.trees a) x.id y (stands.found clean on) gone in record {
      settled = λ t. inr (λ g z there free.
          absurd (no_some z (sym (nothing.groups.groups g) ∙ there)));
      back = λ h. refl;
      new = λ t. nothing;
    })
  where
    of_none : (r : TableRows) (s : List ℕ) (z : Standing) → IsStanding r s z → true ≡ is_unknown z →
        IsUnknown r s
    of_none r s Unknown h e = h
    of_none r s Open h e = absurd (not_both (sym e))
    of_none r s Over h e = absurd (not_both (sym e))

-- whether it is open by what is known of it
pub open_as : (r : TableRows) (s : List ℕ) (y : Standing) → IsStanding r s y →
    stands_open y ≡ is_open_row (r.sessions s)
open_as r s Unknown h = ap is_open_row (sym h.row)
open_as r s Open h = sym h
open_as r s Over h = sym h

-- one that stays as it was
pub found_stays : {E : Type 0} (a : List ℕ) (groups : List SessionGroup) (x : Session)
    (y : Standing) (old new : State) → Gathers {A = Standing} {E = E}
    (λ trees z. IsStanding (rows_in trees a) x.id z) old new (Ok y) →
    true ≡ is_as x (stands_open y) → Gathers {A = NamedSessions} {E = E}
    (λ trees z. IsFound groups (rows_in trees a) x z) old new
    (Ok (record { are_settled = true; are_new = false }))
found_stays {E} a groups x y old new stands same =
    gathers_from {A = NamedSessions} {E = E} (λ trees z. IsFound groups (rows_in trees a) x z)
    old new (Ok (record { are_settled = true; are_new = false }))
    (have_gathered {A = Standing} {E = E} (λ trees z. IsStanding (rows_in trees a) x.id z) old new
    y stands)
    (λ clean on. record {
      settled = λ t. inl (as_open (is_open x.state) (stands_open y) (sym same)
          ∙ open_as (rows_in old.now.trees a) x.id y (stands.found clean on));
      back = λ h. refl;
      new = λ t. absurd (not_both t);
    })

as_same : (a b : Bool) → a ≡ b → (if a then b else not b) ≡ true
as_same true b e = sym e
as_same false b e = ap not (sym e)

-- one that doesn't stay has groups that are free, if it is settled
turned_free : (groups : List SessionGroup) (r : TableRows) (x : Session) (y : Standing)
    (xs : List GroupAt) → IsStanding r x.id y → false ≡ is_as x (stands_open y) →
    Ascends group_at_before xs → AreGroups r x.id xs → IsSettled groups r x →
    are_beside groups x.id xs ≡ true
turned_free groups r x y xs stands turns order are settled = by settled
  where
    by : (is_open x.state ≡ is_open_row (r.sessions x.id)) ⊎ ((g : ℕ) (z : Group) →
        r.groups x.id g ≡ Some z → group_in x.id g groups ≡ None → z.periods ≡ None) →
        are_beside groups x.id xs ≡ true
    by (inl same) = absurd (not_both (turns
        ∙ as_same (is_open x.state) (stands_open y) (same ∙ sym (open_as r x.id y stands))))
    by (inr free) = beside_free groups x.id xs r order are free

-- and one by its groups
pub found_groups : {A E : Type 0} (a : List ℕ) (groups : List SessionGroup) (x : Session)
    (y : Standing) (v : A) (items : A → List GroupAt) (b : Bool) (old mid new : State) →
    Gathers {A = Standing} {E = E} (λ trees z. IsStanding (rows_in trees a) x.id z) old mid
    (Ok y) → false ≡ is_as x (stands_open y) →
    Reads {A = A} {E = E} (λ trees w. AreGroups (rows_in trees a) x.id (items w)) mid new (Ok v) →
    Ascends group_at_before (items v) →
    b ≡ are_beside groups x.id (items v) → Gathers {A = NamedSessions} {E = E}
    (λ trees z. IsFound groups (rows_in trees a) x z) old new
    (Ok (record { are_settled = b; are_new = false }))
found_groups {A} {E} a groups x y v items b old mid new one turns two order is =
    let first = have_gathered {A = Standing} {E = E}
    (λ trees z. IsStanding (rows_in trees a) x.id z) old mid y one in
    gathers_from {A = NamedSessions} {E = E} (λ trees z. IsFound groups (rows_in trees a) x z)
    old new (Ok (record { are_settled = b; are_new = false }))
    (have_read_then old mid new first
    (have_read {A = A} {E = E} (λ trees w. AreGroups (rows_in trees a) x.id (items w)) mid new v
    two))
    (λ clean on.
    let rows : TableRows = rows_in old.now.trees a in
    let are : AreGroups rows x.id (items v) =
    told_before (λ trees. AreGroups (rows_in trees a) x.id (items v)) old mid new one.only
    two.only clean on (two.found clean) in
    let stands : IsStanding rows x.id y =
    one.found (two.only.cleanness clean) (two.only.still clean on).was_open in record {
      settled = λ t. inr (λ g z there none.
          free_beside groups x.id (items v) rows are (sym is ∙ t) g z there none);
      back = λ h. is ∙ turned_free groups rows x y (items v) stands turns order are h;
      new = λ t. absurd (not_both t);
    })

-- ---- all sessions

-- the sessions so far
pub record HasFound (groups : List SessionGroup) (a : List ℕ) (xs : List Session)
    (are_new : Bool) (old new : State) : Type 0 where
  pub settled : HasCleanDisk new → IsTrue new.is_open →
      EachIn (IsSettled groups (rows_in old.now.trees a)) xs
  pub news : HasCleanDisk new → IsTrue new.is_open → IsTrue are_new →
      AreUnknown (rows_in old.now.trees a) xs
  pub reads : HaveRead old new

pub none_found : (groups : List SessionGroup) (a : List ℕ) (s : State) → HasIdleTables s →
    HasFound groups a [] true s s
none_found groups a s idle =
    record { settled = λ clean on. tt; news = λ clean on t. tt; reads = none_read s idle }

pub next_found : {E : Type 0} (groups : List SessionGroup) (a : List ℕ) (xs : List Session)
    (i : ℕ) (x : Session) (are next : Bool) (y : NamedSessions) (old mid new : State) →
    i < length xs → x ≡ get_or xs i x → true ≡ y.are_settled → next ≡ (are && y.are_new) →
    HasFound groups a (take i xs) are old mid → Gathers {A = NamedSessions} {E = E}
    (λ trees z. IsFound groups (rows_in trees a) x z) mid new (Ok y) →
    HasFound groups a (take (i + 1) xs) next old new
next_found {E} groups a xs i x are next y old mid new less is passes next_is before here =
    subst (λ l. HasFound groups a l next old new)
    (ap (λ z. take i xs ++ z ∷ []) is ∙ sym (take_more xs i x less))
    (record {
      settled = λ clean on.
          let after = here.only.still clean on in
          each_append (IsSettled groups (rows_in old.now.trees a)) (take i xs) (x ∷ [])
          (before.settled (here.only.cleanness clean) after.was_open) (
            told_before (λ trees. IsSettled groups (rows_in trees a) x) old mid new
                before.reads.only here.only clean on
                ((here.found clean on).settled (sym passes)),
            tt,
          );
      news = λ clean on t.
          let after = here.only.still clean on in
          let both = and_parts are y.are_new (sym next_is ∙ t) in
          each_append (λ (z : Session). IsUnknown (rows_in old.now.trees a) z.id) (take i xs)
          (x ∷ []) (before.news (here.only.cleanness clean) after.was_open both.0) (
            told_before (λ trees. IsUnknown (rows_in trees a) x.id) old mid new
                before.reads.only here.only clean on ((here.found clean on).new both.1),
            tt,
          );
      reads = have_read_then old mid new before.reads (have_gathered {A = NamedSessions} {E = E}
          (λ trees z. IsFound groups (rows_in trees a) x z) mid new y here);
    })

abbrev IsUnsettled : NamedSessions → Type 0
IsUnsettled y = y ≡ record { are_settled = false; are_new = false }

not_so : (y : NamedSessions) → IsUnsettled y → IsTrue y.are_settled → ⊥
not_so y is t = not_both (sym (ap (λ (z : NamedSessions). z.are_settled) is) ∙ t)

not_new : (y : NamedSessions) → IsUnsettled y → IsTrue y.are_new → ⊥
not_new y is t = not_both (sym (ap (λ (z : NamedSessions). z.are_new) is) ∙ t)

each_at : {A : Type 0} (P : A → Type 0) (xs : List A) (i : ℕ) (d : A) → i < length xs →
    EachIn P xs → P (get_or xs i d)
each_at P [] i d less each = absurd (omega (arith, less))
each_at P (x ∷ xs) zero d less each = each.0
each_at P (x ∷ xs) (suc i) d less each = each_at P xs i d (omega (arith, less)) each.1

-- one that isn't settled
pub one_unsettled : {E : Type 0} (groups : List SessionGroup) (a : List ℕ) (xs ys : List Session)
    (i : ℕ) (x : Session) (are : Bool) (y z : NamedSessions) (old mid new : State) →
    i < length ys → x ≡ get_or ys i x → false ≡ y.are_settled → IsUnsettled z →
    HasFound groups a xs are old mid → Gathers {A = NamedSessions} {E = E}
    (λ trees w. IsFound groups (rows_in trees a) x w) mid new (Ok y) →
    Gathers {A = NamedSessions} {E = E} (λ trees w. AreFound ys groups (rows_in trees a) w) old new
    (Ok z)
one_unsettled {E} groups a xs ys i x are y z old mid new less at fails is before here =
    gathers_from {A = NamedSessions} {E = E} (λ trees w. AreFound ys groups (rows_in trees a) w)
    old new (Ok z)
    (have_read_then old mid new before.reads (have_gathered {A = NamedSessions} {E = E}
    (λ trees w. IsFound groups (rows_in trees a) x w) mid new y here))
    (λ clean on.
    let rows : TableRows = rows_in old.now.trees a in
    let found : IsFound groups rows x y =
    told_before (λ trees. IsFound groups (rows_in trees a) x y) old mid new before.reads.only
    here.only clean on (here.found clean on) in record {
      settled = λ t. absurd (not_so z is t);
      back = λ each. absurd (not_both (fails
          ∙ found.back (subst (IsSettled groups rows) (sym at)
          (each_at (IsSettled groups rows) ys i x less each))));
      new = λ t. absurd (not_new z is t);
    })

pub sessions_found : {E : Type 0} (groups : List SessionGroup) (a : List ℕ) (xs : List Session)
    (i : ℕ) (are : Bool) (old new : State) → length xs ≤ i →
    HasFound groups a (take i xs) are old new → Gathers {A = NamedSessions} {E = E}
    (λ trees y. AreFound xs groups (rows_in trees a) y) old new
    (Ok (record { are_settled = true; are_new = are }))
sessions_found {E} groups a xs i are old new end h =
    gathers_from {A = NamedSessions} {E = E} (λ trees y. AreFound xs groups (rows_in trees a) y)
    old new (Ok (record { are_settled = true; are_new = are })) h.reads
    (λ clean on. record {
      settled = λ t. subst (EachIn (IsSettled groups (rows_in old.now.trees a)))
          (take_all i xs end) (h.settled clean on);
      back = λ each. refl;
      new = λ t. subst (AreUnknown (rows_in old.now.trees a)) (take_all i xs end)
          (h.news clean on t);
    })

-- ---- a change

-- groups of new sessions are new
new_groups : (r : TableRows) (sessions : List Session) (groups : List SessionGroup) →
    AreUnknown r sessions → are_among sessions groups ≡ true →
    AreNewGroups r groups
new_groups r sessions [] each among = tt
new_groups r sessions (g ∷ gs) each among =
    let both = and_parts (is_some (session_in g.session sessions)) (are_among sessions gs) among in
    (at (session_in g.session sessions) refl both.0, new_groups r sessions gs each both.1)
  where
    at : (o : Option Session) → session_in g.session sessions ≡ o → is_some o ≡ true →
        HasNoGroups r g.session
    at None e there = absurd (not_both there)
    at (Some x) e there =
        subst (HasNoGroups r)
        (name_from x.id g.session (find-passes (is_session g.session) sessions x e))
        (EachIn-found (λ (y : Session). IsUnknown r y.id) (is_session g.session) sessions x each
        e).groups

pub change_unsettled : {E : Type 0} (names : Names) (change : Change) (o : Option HeadColumns)
    (z : NamedSessions) (old new : State) → IsUnsettled z → Gathers {A = Option HeadColumns} {E = E}
    (λ trees p. p ≡ (rows_in trees change.number).head) old new (Ok o) →
    (AreWritable names change.rows.sessions change.rows.groups →
    AreNumbered (first_number o) change.rows.next_charge change.charges.items →
    IsTrue (are_buckets_numbered (first_bucket o) change.rows) →
    IsTrue (nat_le (first_moment o) change.rows.as_of) →
    IsTrue (is_ruled_change names change) → IsTrue false) →
    Gathers {A = NamedSessions} {E = E}
    (λ trees w. IsChangeFound names change (rows_in trees change.number) w) old new (Ok z)
change_unsettled {E} names change o z old new is reads fails =
    gathers_from {A = NamedSessions} {E = E}
    (λ trees w. IsChangeFound names change (rows_in trees change.number) w) old new (Ok z)
    (have_gathered {A = Option HeadColumns} {E = E} (λ trees p. p ≡
    (rows_in trees change.number).head)
    old new o reads)
    (λ clean on. record {
      made = λ t. absurd (not_so z is t);
      back = λ may. absurd (not_both (fails may.reservations
          (subst (λ h. AreNumbered (first_number h) change.rows.next_charge change.charges.items)
          (sym (reads.found clean on)) may.numbers)
          (subst (λ h. IsTrue (are_buckets_numbered (first_bucket h) change.rows))
          (sym (reads.found clean on)) may.buckets)
          (subst (λ h. IsTrue (nat_le (first_moment h) change.rows.as_of))
          (sym (reads.found clean on)) may.moment) may.ruled));
      new = λ t. absurd (not_new z is t);
      unknown = λ t. absurd (not_new z is t);
    })

-- the sessions and groups are those of the change
-- rule: database-writes.writable
pub change_found : {E : Type 0} (names : Names) (change : Change) (o : Option HeadColumns)
    (xs : List Session) (ys : List SessionGroup) (y z : NamedSessions) (old mid new : State) →
    xs ≡ change.rows.sessions → ys ≡ change.rows.groups →
    z ≡ record { are_settled = y.are_settled; are_new = are_among xs ys && y.are_new } →
    Gathers {A = Option HeadColumns} {E = E}
    (λ trees p. p ≡ (rows_in trees change.number).head) old mid (Ok o) →
    AreWritable names change.rows.sessions change.rows.groups →
    AreNumbered (first_number o) change.rows.next_charge change.charges.items →
    IsTrue (are_buckets_numbered (first_bucket o) change.rows) →
    IsTrue (nat_le (first_moment o) change.rows.as_of) →
    IsTrue (is_ruled_change names change) →
    Gathers {A = NamedSessions} {E = E}
    (λ trees w. AreFound xs ys (rows_in trees change.number) w) mid new (Ok y) →
    Gathers {A = NamedSessions} {E = E}
    (λ trees w. IsChangeFound names change (rows_in trees change.number) w) old new (Ok z)
change_found {E} names change o xs ys y z old mid new same_xs same_ys is one writable numbered
    below by ruled two =
    gathers_from {A = NamedSessions} {E = E}
    (λ trees w. IsChangeFound names change (rows_in trees change.number) w) old new (Ok z)
    (have_read_then old mid new
    (have_gathered {A = Option HeadColumns} {E = E} (λ trees p. p ≡
    (rows_in trees change.number).head)
    old mid o one)
    (have_gathered {A = NamedSessions} {E = E}
    (λ trees w. AreFound xs ys (rows_in trees change.number) w) mid new y two))
    (λ clean on.
    let rows : TableRows = rows_in old.now.trees change.number in
    let found : AreFound xs ys rows y =
    told_before (λ trees. AreFound xs ys (rows_in trees change.number) y) old mid new one.only
    two.only clean on (two.found clean on) in record {
      made = λ t. record {
        reservations = writable;
        ruled = ruled;
        numbers = subst (λ h. AreNumbered (first_number h) change.rows.next_charge
            change.charges.items)
            (one.found (two.only.cleanness clean) (two.only.still clean on).was_open) numbered;
        buckets = subst (λ h. IsTrue (are_buckets_numbered (first_bucket h) change.rows))
            (one.found (two.only.cleanness clean) (two.only.still clean on).was_open) below;
        moment = subst (λ h. IsTrue (nat_le (first_moment h) change.rows.as_of))
            (one.found (two.only.cleanness clean) (two.only.still clean on).was_open) by;
        settled = subst (EachIn (IsSettled change.rows.groups rows)) same_xs
            (subst (λ zs. EachIn (IsSettled zs rows) xs) same_ys
            (found.settled (sym (ap (λ (w : NamedSessions). w.are_settled) is) ∙ t)));
      };
      back = λ may. ap (λ (w : NamedSessions). w.are_settled) is
          ∙ found.back (subst (λ zs. EachIn (IsSettled zs rows) xs) (sym same_ys)
          (subst (EachIn (IsSettled change.rows.groups rows)) (sym same_xs) may.settled));
      new = λ t.
          let both = and_parts (are_among xs ys) y.are_new
          (sym (ap (λ (w : NamedSessions). w.are_new) is) ∙ t) in
          subst (AreNewGroups rows) same_ys (new_groups rows xs ys (found.new both.1) both.0);
      unknown = λ t.
          let both = and_parts (are_among xs ys) y.are_new
          (sym (ap (λ (w : NamedSessions). w.are_new) is) ∙ t) in
          subst (AreUnknown rows) same_xs (found.new both.1);
    })

-- covered blocks are beside a charge, since their key is one of charges
pub beside_at : (s : State) → HasIdleTables s → IsLive s → (a : List ℕ) → HasCleanDisk s
    → IsTrue s.is_open → AreCoveredBeside (rows_in s.now.trees a)
beside_at s idle live a clean on =
    covered_beside s.now.trees
    ((subst (λ c. IsSound c s.now.trees) (idle clean on).book.schema (live on).0).obeys.rules
    ForeignKey) a

-- of a change that passed, whose new buckets have free numbers
-- rule: database-writes.writable
pub tested : {E : Type 0} (names : Names) (change : Change) (xs : List BucketRow)
    (y : NamedSessions) (u : ⊤) (e : E) (r : Result Bool E) (old mid new : State)
    → xs ≡ change.rows.buckets → r ≡ (if y.are_settled then Ok y.are_new else Err e) →
    HasIdleTables old → IsLive old →
    Gathers {A = ⊤} {E = E} (λ trees done. AreFree
    (first_bucket (rows_in trees change.number).head) (rows_in trees change.number) xs) old mid
    (Ok u) →
    Gathers {A = NamedSessions} {E = E}
    (λ trees w. IsChangeFound names change (rows_in trees change.number) w) mid new (Ok y) →
    Gathers {A = Bool} {E = E}
    (λ trees b. IsTested names change (rows_in trees change.number) b) old new r
tested {E} names change xs y u e r old mid new same passes idle live one two =
    gathers_from {A = Bool} {E = E}
    (λ trees b. IsTested names change (rows_in trees change.number) b) old new r
    (have_read_then old mid new
    (have_gathered {A = ⊤} {E = E} (λ trees done. AreFree
    (first_bucket (rows_in trees change.number).head) (rows_in trees change.number) xs) old mid u
    one)
    (have_gathered {A = NamedSessions} {E = E}
    (λ trees w. IsChangeFound names change (rows_in trees change.number) w) mid new y two))
    (λ clean on.
    let after = two.only.still clean on in
    let was : HasCleanDisk mid = two.only.cleanness clean in
    subst (λ q. IfOk q (λ b. IsTested names change (rows_in old.now.trees change.number) b))
    (sym passes)
    (so y.are_settled refl (rows_in old.now.trees change.number)
    (told_before (λ trees. IsChangeFound names change (rows_in trees change.number) y) old mid new
    one.only two.only clean on (two.found clean on))
    (beside_at old idle live change.number (one.only.cleanness was)
    (one.only.still was after.was_open).was_open)
    (subst (AreFree (first_bucket (rows_in old.now.trees change.number).head)
    (rows_in old.now.trees change.number)) same (one.found was after.was_open))))
  where
    so : (t : Bool) → y.are_settled ≡ t → (s : TableRows) → IsChangeFound names change s y →
        AreCoveredBeside s → AreFree (first_bucket s.head) s change.rows.buckets →
        IfOk {E = E} (if t then Ok y.are_new else Err e) (λ b. IsTested names change s b)
    so true settles s found beside free = record {
      made = found.made settles;
      new = found.new;
      unknown = found.unknown;
      covered = beside;
      free = free;
    }
    so false settles s found beside free = tt
