-- What a change writes reads as the change.
use Rattle.std.proofs.Common.{◌≡◌, ℕ, Bool, true, false, cond, List, [], ◌∷◌, refl, sym, ap, ◌∙◌}
use Rattle.std.proofs.Common.{subst, ◌⊎◌, inl, inr, Option, Some, None}
use Rattle.std.specs.Prelude.{if◌then◌else◌, ◌&&◌, ◌+◌, nat_eq, nat_lt, option_map, option_and_then}
use Rattle.std.specs.Prelude.{unwrap_or, is_some}
use Rattle.std.proofs.lemmas.Bool.{and_parts}
use Rattle.std.proofs.lemmas.Option.{same_Some}
use Rattle.identifiers.specs.Texts.{same_name}
use Rattle.calendar.specs.declared.week.Period.{Period}
use Rattle.buckets.specs.Row.{IsBalanced}
use Rattle.buckets.specs.Kinds.{IsScopeOf}
use Rattle.rating.specs.declared.grant.Periods.{Periods}
use Rattle.ledger.specs.declared.charge.ChargeRow.{ChargeRow}
use Rattle.reserving.specs.declared.session.Session.{Session}
use Rattle.reserving.specs.declared.session.SessionGroup.{SessionGroup}
use Rattle.reserving.specs.declared.session.Reservation.{Reservation}
use Rattle.ledger.proofs.Holds.{same_itself}
use Rattle.ledger.proofs.Names.{is_same-sym}
use Rattle.ledger.specs.declared.terms.Terms.{Terms}
use Rattle.reserving.specs.Sessions.{session_in, is_session, is_of, is_open, group_in, holds_in}
use Rattle.ledger.specs.Lists.{EachIn}
use Rattle.reserving.specs.Rows.{AreApart}
use Rattle.reserving.specs.Stored.{StoredRows}
use Rattle.reserving.specs.Left.{is_open_row, first_of}
use Rattle.reserving.proofs.Lists.{find-passes, EachIn-found, EachIn-weaker}
use Rattle.reserving.proofs.LeftTests.{each_with}
use Rattle.commands.specs.declared.key.Key.{Key}
use Rattle.commands.specs.declared.key.Key.TheVariants.{Request, Reference}
use Rattle.commands.specs.Keys.{same_key, key_of}
use Rattle.keepers.specs.Keyed.{same_bucket, same_counter, same_session, same_group}
use Rattle.keepers.specs.declared.kept_answer.KeptAnswer.{KeptAnswer}
use Rattle.keepers.specs.declared.loaded.Change.{Change}
use Rattle.keepers.specs.declared.loaded.Redeemed.{Redeemed}
use Rattle.keepers.specs.Tables.{group_row, charge_in}
use Rattle.keepers.specs.Tables as tables
use Rattle.keepers.specs.Change.{over, held_over, kept_after, redeemed_over, changed}
use Rattle.keepers.specs.Naming.{IsNamed}
use Rattle.sql_tables.proofs.Found.{is_some_map}
use Rattle.sql_tables.proofs.Steps.{and_true}
use Rattle.sql_rows.specs.Values.{Meta, Group, Kept, request_kind, reference_kind}
use Rattle.sql_rows.specs.Content.{TableRows, TablesContent, with_rows, with_meta, with_account}
use Rattle.sql_rows.specs.Content.{with_head, with_answer}
use Rattle.sql_rows.specs.Each.{with_counters, with_sessions}
use Rattle.sql_keeper.specs.Content.{periods_in, terms_in, stored_group_in, is_reserved}
use Rattle.sql_keeper.specs.Content.{held_in, Names}
use Rattle.sql_keeper.specs.Content.{told_rows, is_numbered, charge_of, kept_in, answer_in}
use Rattle.sql_keeper.specs.Content.{voucher_in, tables_of, names_numbered, told_charge}
use Rattle.sql_keeper.specs.Content as content
use Rattle.sql_keeper.specs.Writes.{name_at, names_at, names_held, columns_of, head_columns_of}
use Rattle.sql_keeper.specs.Writes.{with_all_counted, with_stored, with_texts}
use Rattle.sql_keeper.specs.Writes.{with_kept, with_redeemed, AreTexts, with_change}
use Rattle.sql_keeper.specs.Tests.{IsPeriodNamed, MayStand, AreNumbered, AreWritable}
use Rattle.sql_keeper.specs.Tests.{first_number, is_open_over, IsSettled, AreSettled, MayBeMade}
use Rattle.sql_keeper.specs.Laws.{AreChangesRead, AreEachSettled}
use Rattle.sql_keeper.proofs.puts.CountedPuts.{AreScoped, over_counted, counted_over, counted_told}
use Rattle.sql_keeper.proofs.puts.CountedPuts.{over_paid, paid_over, paid_told}
use Rattle.sql_keeper.proofs.puts.Overlays.{name_from, not_both, with_opened, opened, over_counters}
use Rattle.sql_keeper.proofs.puts.Overlays.{over_sessions, counters_over, sessions_over}
use Rattle.sql_keeper.proofs.puts.Groups.{amount_at, amount_in, book_over, book_put, over_groups}
use Rattle.sql_keeper.proofs.puts.Groups.{groups_over, held_is}
use Rattle.sql_keeper.proofs.puts.Numbers.{numbered_apart, seen_after, begins}
use Rattle.sql_keeper.proofs.puts.Redeemed.{redeemed_read}

-- ---- the rows of an account

abbrev pub over_stored : Names → StoredRows → TableRows → TableRows
over_stored names w r = over_groups names w.groups (over_sessions w.sessions
    (over_counters w.counters (over_counted w.buckets (with_head (head_columns_of w) r))))

-- no two rows have one key, and each allowance is of one rating group
pub record AreKeyed (w : StoredRows) : Type 0 where
  pub buckets : AreApart same_bucket w.buckets
  pub scoped : AreScoped w.buckets
  pub counters : AreApart same_counter w.counters
  pub sessions : AreApart same_session w.sessions
  pub groups : AreApart same_group w.groups

-- all but the groups
abbrev pub without_groups : StoredRows → StoredRows
without_groups w = record w { groups = [] }

pub keyed_without : (w : StoredRows) → AreKeyed w → AreKeyed (without_groups w)
keyed_without w h = record {
  buckets = h.buckets;
  scoped = h.scoped;
  counters = h.counters;
  sessions = h.sessions;
  groups = tt;
}

pub stored_over : (a : List ℕ) (names : Names) (sessions : List Session) (w : StoredRows)
    (c : TablesContent) → AreKeyed w → AreWritable names sessions w.groups
    → with_stored a names w c ≡ opened a (over_stored names w) c
stored_over a names among w c h may =
    let head = with_head (head_columns_of w) in
    let first = λ (r : TableRows). over_counted w.buckets (head r) in
    let second = λ (r : TableRows). over_counters w.counters (first r) in
    let third = λ (r : TableRows). over_sessions w.sessions (second r) in
    let opening = with_account a (head_columns_of w) c in
    let buckets = with_all_counted a w.buckets opening in
    let counters = with_counters a w.counters buckets in
    let sessions = with_sessions a w.sessions counters in
    groups_over a names among w.groups sessions h.groups may
    ∙ ap (with_rows a (over_groups names w.groups)) (sessions_over a w.sessions counters h.sessions
    ∙ ap (with_rows a (over_sessions w.sessions)) (counters_over a w.counters buckets h.counters
    ∙ ap (with_rows a (over_counters w.counters)) (counted_over a w.buckets opening h.buckets
    ∙ with_opened a (over_counted w.buckets) head c)
    ∙ with_opened a (over_counters w.counters) first c)
    ∙ with_opened a (over_sessions w.sessions) second c)
    ∙ with_opened a (over_groups names w.groups) third c

-- ---- periods

period_back : (names : List (List ℕ)) (p : Period) → IsPeriodNamed names p →
    content.period_in names (name_at names p) ≡ p
period_back names p e = ap (λ o. unwrap_or o (record { 0 = 0 })) e

periods_back : (names : List (List ℕ)) (p : Periods) → IsPeriodNamed names p.before →
    IsPeriodNamed names p.after → periods_in names (names_at names p) ≡ p
periods_back names p e f =
    λ i. record { before = period_back names p.before e i; after = period_back names p.after f i }

terms_back : (names : Names) (x : Terms) → IsPeriodNamed (names_numbered names x.book)
    x.periods.before
    → IsPeriodNamed (names_numbered names x.book) x.periods.after
    → terms_in names x.book (names_at (names_numbered names x.book) x.periods) ≡ x
terms_back names x e f = λ i. record {
  book = x.book;
  periods = periods_back (names_numbered names x.book) x.periods e f i;
}

-- ---- groups

none_reserved : (names : Names) (b : Bool) (book : Option ℕ) →
    content.reserved_in names b book None ≡ None
none_reserved names true book = refl
none_reserved names false book = refl

-- one that isn't written is said as before, whether its session is open or not, where it has no
-- reservation
free_told : (names : Names) (b c : Bool) (book : Option ℕ) (y : Group) → y.periods ≡ None →
    stored_group_in names b book y ≡ stored_group_in names c book y
free_told names b c book y none = λ i. record {
  used = y.used;
  terms = (ap (content.reserved_in names b book) none ∙ none_reserved names b book
      ∙ sym (none_reserved names c book) ∙ ap (content.reserved_in names c book) (sym none)) i;
}

-- a session that is open among those that are named is open over those that are stored
pub open_named : (sessions : List Session) (r : TableRows) (s : List ℕ) →
    is_open_row (session_in s sessions) ≡ true → is_open_over sessions r s ≡ true
open_named sessions r s = at (session_in s sessions)
  where
    at : (o : Option Session) → is_open_row o ≡ true →
        is_open_row (first_of o (r.sessions s)) ≡ true
    at None e = not_both (sym e)
    at (Some x) e = e

-- a group that isn't written is in a session that is open as before, or has no reservation; one
-- that is written is in one of the sessions among which it was tested
module _ (names : Names) (among : List Session) (w : StoredRows) (r : TableRows)
    (settled : AreSettled w.sessions w.groups r)
    (opens : (s : List ℕ) → is_open_row (session_in s among) ≡ true →
    is_open_over w.sessions r s ≡ true)
    (may : (s : List ℕ) (g : ℕ) (x : SessionGroup) → group_in s g w.groups ≡ Some x →
    MayStand names among s x.reservation) where
  pub open_after : List ℕ → Bool
  open_after s = is_open_over w.sessions r s

  told_beside : (s : List ℕ) (g : ℕ) (y : Group) → r.groups s g ≡ Some y →
      group_in s g w.groups ≡ None →
      (open_after s ≡ is_open_row (r.sessions s)) ⊎ (y.periods ≡ None)
  unfolding open_after
  told_beside s g y there none = settled s g y there none

  still_open : (s : List ℕ) → is_open_row (session_in s among) ≡ true → open_after s ≡ true
  unfolding open_after
  still_open s e = opens s e

  pub groups_read : (s : List ℕ) (g : ℕ)
      → option_map
      (stored_group_in names (open_after s) (book_over (group_in s g w.groups) (r.grant_books s g)))
      (first_of (option_map (columns_of names) (group_in s g w.groups)) (r.groups s g))
      ≡ first_of (option_map group_row (group_in s g w.groups))
      (option_map (stored_group_in names (is_open_row (r.sessions s)) (r.grant_books s g))
      (r.groups s g))
  groups_read s g = at (group_in s g w.groups) (r.groups s g) refl refl
    where
      back : (o : Option Reservation) (used : ℕ) → MayStand names among s o
          → stored_group_in names (open_after s) (book_put o)
          (record { used = used; periods = option_map (names_held names) o })
          ≡ record { used = used; terms = option_map (λ (x : Reservation). x.terms) o }
      back None used m =
          λ i. record { used = used; terms = none_reserved names (open_after s) None i }
      back (Some x) used m = rw (still_open s m.live) (λ i. record {
        used = used;
        terms = Some (terms_back names x.terms m.before m.after i);
      })

      at : (o : Option SessionGroup) (p : Option Group) → group_in s g w.groups ≡ o
          → r.groups s g ≡ p
          → option_map (stored_group_in names (open_after s) (book_over o (r.grant_books s g)))
          (first_of (option_map (columns_of names) o) p)
          ≡ first_of (option_map group_row o)
          (option_map (stored_group_in names (is_open_row (r.sessions s)) (r.grant_books s g)) p)
      at (Some x) p e f = ap Some (back x.reservation x.used (may s g x e))
      at None None e f = refl
      at None (Some y) e f = ap Some (beside (told_beside s g y f e))
        where
          beside : (open_after s ≡ is_open_row (r.sessions s)) ⊎ (y.periods ≡ None) →
              stored_group_in names (open_after s) (r.grant_books s g) y ≡
              stored_group_in names (is_open_row (r.sessions s)) (r.grant_books s g) y
          beside (inl same) = λ i. stored_group_in names (same i) (r.grant_books s g) y
          beside (inr none) =
              free_told names (open_after s) (is_open_row (r.sessions s)) (r.grant_books s g) y none

  pub holds_read : (s : List ℕ) (g n : ℕ)
      → held_in (open_after s && is_reserved
      (first_of (option_map (columns_of names) (group_in s g w.groups)) (r.groups s g)))
      (amount_in n (group_in s g w.groups) (r.holds s g n))
      ≡ held_over n (group_in s g w.groups)
      (held_in (is_open_row (r.sessions s) && is_reserved (r.groups s g)) (r.holds s g n))
  holds_read s g n = at (group_in s g w.groups) (r.groups s g) refl refl
    where
      not_held : (b : Bool) (before : Option ℕ) → held_in (b && false) before ≡ 0
      not_held true before = refl
      not_held false before = refl

      back : (o : Option Reservation) → MayStand names among s o
          → held_in (open_after s
          && is_some (option_map (names_held names) o))
          (amount_at n (holds_in o)) ≡ tables.held_at n (holds_in o)
      back None m = not_held (open_after s) None
      back (Some x) m = rw (still_open s m.live) (sym (held_is n x.holds m.holds))

      at : (o : Option SessionGroup) (p : Option Group) → group_in s g w.groups ≡ o
          → r.groups s g ≡ p
          → held_in (open_after s && is_reserved (first_of (option_map (columns_of names) o) p))
          (amount_in n o (r.holds s g n))
          ≡ held_over n o (held_in (is_open_row (r.sessions s) && is_reserved p) (r.holds s g n))
      at (Some x) p e f = back x.reservation (may s g x e)
      at None None e f = not_held (open_after s) (r.holds s g n)
          ∙ sym (not_held (is_open_row (r.sessions s)) (r.holds s g n))
      at None (Some y) e f = beside (told_beside s g y f e)
        where
          beside : (open_after s ≡ is_open_row (r.sessions s)) ⊎ (y.periods ≡ None) →
              held_in (open_after s && is_some y.periods) (r.holds s g n) ≡
              held_in (is_open_row (r.sessions s) && is_some y.periods) (r.holds s g n)
          beside (inl same) = λ i. held_in (same i && is_some y.periods) (r.holds s g n)
          beside (inr none) =
              ap (λ o. held_in (open_after s && is_some o) (r.holds s g n)) none
              ∙ not_held (open_after s) (r.holds s g n)
              ∙ sym (not_held (is_open_row (r.sessions s)) (r.holds s g n))
              ∙ ap (λ o. held_in (is_open_row (r.sessions s) && is_some o) (r.holds s g n))
              (sym none)

  pub rows_read : AreScoped w.buckets →
      told_rows names (over_stored names w r) ≡ over w (told_rows names r)
  unfolding open_after
  rows_read each = λ i. record (over w (told_rows names r)) {
    buckets = λ n. counted_told n w.buckets r each i;
    groups = λ s g. groups_read s g i;
    holds = λ s g n. holds_read s g n i;
  }

-- so of each session that is named by itself
pub settled_each : (sessions : List Session) (groups : List SessionGroup) (r : TableRows) →
    EachIn (IsSettled groups r) sessions → AreSettled sessions groups r
settled_each sessions groups r each s g y there none = at (session_in s sessions) refl
  where
    at : (o : Option Session) → session_in s sessions ≡ o →
        (is_open_row (first_of o (r.sessions s)) ≡ is_open_row (r.sessions s))
        ⊎ (y.periods ≡ None)
    at None e = inl refl
    at (Some x) e =
        let name : x.id ≡ s = name_from x.id s (find-passes (is_session s) sessions x e) in
        by (subst (λ n. (is_open x.state ≡ is_open_row (r.sessions n))
        ⊎ ((h : ℕ) (z : Group) → r.groups n h ≡ Some z → group_in n h groups ≡ None →
        z.periods ≡ None)) name
        (EachIn-found (IsSettled groups r) (is_session s) sessions x each e))
      where
        by : (is_open x.state ≡ is_open_row (r.sessions s))
            ⊎ ((h : ℕ) (z : Group) → r.groups s h ≡ Some z → group_in s h groups ≡ None →
            z.periods ≡ None) →
            (is_open x.state ≡ is_open_row (r.sessions s)) ⊎ (y.periods ≡ None)
        by (inl same) = inl same
        by (inr free) = inr (free g y there none)

-- and only where each is, if each comes once
found_apart : (xs : List Session) → AreApart same_session xs →
    EachIn (λ (x : Session). session_in x.id xs ≡ Some x) xs
found_apart [] h = tt
found_apart (x ∷ xs) h = (
  ap (λ t. cond t (Some x) (session_in x.id xs)) (same_itself x.id),
  each_with (λ (y : Session). same_session x y ≡ false)
      (λ (y : Session). session_in y.id xs ≡ Some y)
      (λ (y : Session). session_in y.id (x ∷ xs) ≡ Some y) xs
      (λ y e k. ap (λ t. cond t (Some x) (session_in y.id xs)) (is_same-sym x.id y.id ∙ e) ∙ k)
      h.0 (found_apart xs h.1),
)

settled_alone : (sessions : List Session) (groups : List SessionGroup) (r : TableRows)
    (x : Session) → AreSettled sessions groups r → session_in x.id sessions ≡ Some x →
    IsSettled groups r x
settled_alone sessions groups r x all there =
    at (is_open x.state) (is_open_row (r.sessions x.id)) refl refl
  where
    so : (a b : Bool) → is_open x.state ≡ a → is_open_row (r.sessions x.id) ≡ b →
        (a ≡ b → ⊥) → IsSettled groups r x
    so a b e k apart = inr (λ g y is none.
        elim (all x.id g y is none) [
          | inl same ↦ absurd (apart (sym e ∙ ap is_open_row
              (sym (ap (λ o. first_of o (r.sessions x.id)) there)) ∙ same ∙ k))
          | inr free ↦ free
        ])

    at : (a b : Bool) → is_open x.state ≡ a → is_open_row (r.sessions x.id) ≡ b →
        IsSettled groups r x
    at true true e k = inl (e ∙ sym k)
    at false false e k = inl (e ∙ sym k)
    at true false e k = so true false e k (λ p. not_both p)
    at false true e k = so false true e k (λ p. not_both (sym p))

-- rule: database-writes.writable
pub each_settled : AreEachSettled
each_settled sessions groups r = (
  settled_each sessions groups r,
  λ apart all. EachIn-weaker (λ (x : Session). session_in x.id sessions ≡ Some x)
      (IsSettled groups r) sessions
      (λ x there. settled_alone sessions groups r x all there) (found_apart sessions apart),
)

-- the rows of a change have different keys
pub keyed_named : (w : StoredRows) → IsNamed w → AreKeyed w
keyed_named w h = record {
  buckets = h.apart.buckets;
  scoped = EachIn-weaker IsBalanced (λ b. IsScopeOf b.kind b.scope) w.buckets
      (λ b balanced. balanced.scope) h.balanced;
  counters = h.apart.counters;
  sessions = h.apart.sessions;
  groups = h.apart.groups;
}

-- the test of a group that is found
pub may_at : (names : Names) (sessions : List Session) (gs : List SessionGroup)
    → AreWritable names sessions gs → (s : List ℕ) (g : ℕ) (x : SessionGroup)
    → group_in s g gs ≡ Some x → MayStand names sessions s x.reservation
may_at names sessions [] h s g x e = absurd (cc)
may_at names sessions (y ∷ ys) h s g x e =
    at (is_of s g y) refl e (may_at names sessions ys h.1 s g x)
  where
    at : (t : Bool) → is_of s g y ≡ t → cond t (Some y) (group_in s g ys) ≡ Some x
        → (group_in s g ys ≡ Some x → MayStand names sessions s x.reservation)
        → MayStand names sessions s x.reservation
    at true k f rest =
        let is : y ≡ x = same_Some _ _ f in
        subst (λ z. MayStand names sessions s z.reservation) is
        (subst (λ n. MayStand names sessions n y.reservation)
        (name_from y.session s (and_parts (same_name y.session s) (nat_eq y.group g) k).0) h.0)
    at false k f rest = rest f

-- ---- what is kept of a command

put_texts : Key → Kept → TableRows → TableRows
put_texts (Request s n) t r = with_answer request_kind s n t r
put_texts (Reference x) t r = with_answer reference_kind x 0 t r

put_kept : Option KeptAnswer → Option Kept → TableRows → TableRows
put_kept None t r = r
put_kept (Some k) None r = r
put_kept (Some k) (Some t) r = put_texts (key_of k.content) t r

texts_over : (a : List ℕ) (key : Key) (t : Kept) (g : TableRows → TableRows) (c : TablesContent) →
    with_texts a key t (opened a g c) ≡ opened a (λ r. put_texts key t (g r)) c
unfolding put_texts
texts_over a (Request s n) t g c = with_opened a (with_answer request_kind s n t) g c
texts_over a (Reference x) t g c = with_opened a (with_answer reference_kind x 0 t) g c

kept_over : (a : List ℕ) (kept : Option KeptAnswer) (t : Option Kept) (g : TableRows → TableRows)
    (c : TablesContent) → with_kept a kept t (opened a g c) ≡ opened a (λ r. put_kept kept t (g r))
    c
unfolding put_kept
kept_over a None t g c = refl
kept_over a (Some k) None g c = refl
kept_over a (Some k) (Some t) g c = texts_over a (key_of k.content) t g c

texts_rows : (names : Names) (key : Key) (t : Kept) (r : TableRows) →
    told_rows names (put_texts key t r) ≡ told_rows names r
unfolding put_texts
texts_rows names (Request s n) t r = refl
texts_rows names (Reference x) t r = refl

kept_rows : (names : Names) (kept : Option KeptAnswer) (t : Option Kept) (r : TableRows) →
    told_rows names (put_kept kept t r) ≡ told_rows names r
unfolding put_kept
kept_rows names None t r = refl
kept_rows names (Some k) None r = refl
kept_rows names (Some k) (Some t) r = texts_rows names (key_of k.content) t r

-- how reservations are stored
pub record GrantRows : Type 0 where
  pub books : List ℕ → ℕ → Option ℕ
  pub holds : List ℕ → ℕ → ℕ → Option ℕ

abbrev pub grant_rows : TableRows → GrantRows
grant_rows r = record { books = r.grant_books; holds = r.holds }

texts_grants : (key : Key) (t : Kept) (r : TableRows) →
    grant_rows (put_texts key t r) ≡ grant_rows r
unfolding put_texts
texts_grants (Request s n) t r = refl
texts_grants (Reference x) t r = refl

kept_grants : (kept : Option KeptAnswer) (t : Option Kept) (r : TableRows) →
    grant_rows (put_kept kept t r) ≡ grant_rows r
unfolding put_kept
kept_grants None t r = refl
kept_grants (Some k) None r = refl
kept_grants (Some k) (Some t) r = texts_grants (key_of k.content) t r

redeemed_rows : (redeemed : Option Redeemed) (c : TablesContent) →
    (with_redeemed redeemed c).rows ≡ c.rows
redeemed_rows None c = refl
redeemed_rows (Some x) c = refl

texts_charges : (n : ℕ) (key : Key) (t : Kept) (r : TableRows) →
    charge_of n (put_texts key t r) ≡ charge_of n r
unfolding put_texts
texts_charges n (Request s m) t r = refl
texts_charges n (Reference x) t r = refl

kept_charges : (n : ℕ) (kept : Option KeptAnswer) (t : Option Kept) (r : TableRows) →
    charge_of n (put_kept kept t r) ≡ charge_of n r
unfolding put_kept
kept_charges n None t r = refl
kept_charges n (Some k) None r = refl
kept_charges n (Some k) (Some t) r = texts_charges n (key_of k.content) t r

told_if : {A B : Type 0} (f : A → Option B) (b : Bool) (x : A) (y : B) (o : Option A) →
    f x ≡ Some y →
    option_and_then f (if b then Some x else o) ≡ (if b then Some y else option_and_then f o)
told_if f true x y o e = e
told_if f false x y o e = refl

texts_answer : (a : List ℕ) (key k : Key) (t : Kept) (kept : KeptAnswer) (r : TableRows)
    → kept_in a t ≡ Some kept
    → answer_in a k (put_texts key t r) ≡ (if same_key key k then Some kept else answer_in a k r)
unfolding put_texts
texts_answer a (Request s n) (Request p m) t kept r e =
    told_if (kept_in a) (same_name s p && nat_eq n m) t kept (r.answers request_kind p m) e
texts_answer a (Request s n) (Reference q) t kept r e = refl
texts_answer a (Reference x) (Request p m) t kept r e = refl
texts_answer a (Reference x) (Reference q) t kept r e =
    ap (λ b. option_and_then (kept_in a) (if b then Some t else r.answers reference_kind q 0))
    (and_true (same_name x q))
    ∙ told_if (kept_in a) (same_name x q) t kept (r.answers reference_kind q 0) e

kept_answer : (a : List ℕ) (k : Key) (kept : Option KeptAnswer) (t : Option Kept) (r : TableRows)
    → AreTexts a kept t → answer_in a k (put_kept kept t r) ≡ kept_after kept k (answer_in a k r)
unfolding put_kept
kept_answer a k None t r h = refl
kept_answer a k (Some x) None r h = absurd h
kept_answer a k (Some x) (Some t) r h = texts_answer a (key_of x.content) k t x r h

pub same_texts : (a : List ℕ) (k : Key)
    (names : Names) (w : StoredRows) (cs : List ChargeRow) (r : TableRows) →
    answer_in a k (over_paid cs (over_stored names w r)) ≡ answer_in a k r
same_texts a (Request s n) names w cs r = refl
same_texts a (Reference x) names w cs r = refl

-- ---- all of it

module _ (names : Names) (m : Meta) (change : Change) (texts : Option Kept) (c : TablesContent)
    (named : IsNamed change.rows) (may : MayBeMade names change (c.rows change.number))
    (told : AreTexts change.number change.kept texts) where
  row_after : TableRows → TableRows
  row_after r = put_kept change.kept texts
      (over_paid change.charges.items (over_stored names change.rows r))

  content_after : with_change names m change texts c
      ≡ with_redeemed change.redeemed (opened change.number row_after (with_meta m c))
  unfolding row_after
  content_after =
      ap (with_redeemed change.redeemed) (ap (with_kept change.number change.kept texts)
      (paid_over change.number change.charges.items (with_stored change.number names change.rows
      (with_meta m c)) (numbered_apart (first_number (c.rows change.number).head)
      change.rows.next_charge change.charges.items may.numbers)
      ∙ ap (with_rows change.number (over_paid change.charges.items))
      (stored_over change.number names change.rows.sessions change.rows (with_meta m c)
      (keyed_named change.rows named) may.reservations)
      ∙ with_opened change.number (over_paid change.charges.items)
      (over_stored names change.rows) (with_meta m c))
      ∙ kept_over change.number change.kept texts
      (λ r. over_paid change.charges.items (over_stored names change.rows r)) (with_meta m c))

  -- how reservations of the account are stored: those that are named as they are, others as before
  pub grants_after : grant_rows ((with_change names m change texts c).rows change.number)
      ≡ grant_rows (over_groups names change.rows.groups (c.rows change.number))
  unfolding row_after
  grants_after =
      ap (λ (x : TablesContent). grant_rows (x.rows change.number)) content_after
      ∙ ap (λ (rows : List ℕ → TableRows). grant_rows (rows change.number))
      (redeemed_rows change.redeemed (opened change.number row_after (with_meta m c)))
      ∙ ap (λ t. grant_rows (if t then row_after (c.rows change.number)
      else c.rows change.number)) (same_itself change.number)
      ∙ kept_grants change.kept texts
      (over_paid change.charges.items (over_stored names change.rows (c.rows change.number)))

  module _ (last : m.last ≡ change.moment) where
    rows_at : (x : List ℕ) (t : Bool) → same_name change.number x ≡ t
        → told_rows names (if t then row_after (c.rows x) else c.rows x)
        ≡ (if t then over change.rows (told_rows names (c.rows x)) else told_rows names (c.rows x))
    unfolding row_after
    rows_at x true e =
        kept_rows names change.kept texts
        (over_paid change.charges.items (over_stored names change.rows (c.rows x)))
        ∙ rows_read names change.rows.sessions change.rows (c.rows x)
        (settled_each change.rows.sessions change.rows.groups (c.rows x)
        (subst (λ a. EachIn (IsSettled change.rows.groups (c.rows a)) change.rows.sessions)
        (name_from change.number x e) may.settled))
        (open_named change.rows.sessions (c.rows x))
        (may_at names change.rows.sessions change.rows.groups may.reservations)
        (keyed_named change.rows named).scoped
    rows_at x false e = refl

    answers_at : (x : List ℕ) (k : Key) (t : Bool) → same_name change.number x ≡ t
        → answer_in x k (if t then row_after (c.rows x) else c.rows x) ≡ (if t
        then kept_after change.kept k (answer_in x k (c.rows x)) else answer_in x k (c.rows x))
    unfolding row_after
    answers_at x k true e =
        kept_answer x k change.kept texts
        (over_paid change.charges.items (over_stored names change.rows (c.rows x)))
        (subst (λ a. AreTexts a change.kept texts) (name_from change.number x e) told)
        ∙ ap (kept_after change.kept k)
        (same_texts x k names change.rows change.charges.items (c.rows x))
    answers_at x k false e = refl

    charges_at : (x : List ℕ) (n : ℕ) (t : Bool) → same_name change.number x ≡ t
        → charge_of n (if t then row_after (c.rows x) else c.rows x)
        ≡ (if t then first_of (charge_of n (c.rows x)) (charge_in n change.charges.items)
        else charge_of n (c.rows x))
    unfolding row_after
    charges_at x n true e =
        kept_charges n change.kept texts
        (over_paid change.charges.items (over_stored names change.rows (c.rows x)))
        ∙ ap (λ o. if nat_lt 0 n && nat_lt n change.rows.next_charge then o else None)
        (paid_told n change.charges.items (over_stored names change.rows (c.rows x)))
        ∙ seen_after n (first_number (c.rows x).head) change.rows.next_charge change.charges.items
        (is_numbered n (c.rows x).head) (subst (λ a. AreNumbered (first_number (c.rows a).head)
        change.rows.next_charge change.charges.items) (name_from change.number x e) may.numbers)
        (begins n (c.rows x).head) (told_charge (c.rows x) n)
    charges_at x n false e = refl

    -- the tables with what is written are those with the change
    pub change_read : tables_of names (with_change names m change texts c)
        ≡ changed change (tables_of names c)
    change_read =
        ap (tables_of names) content_after
        ∙ redeemed_read names change.redeemed (opened change.number row_after (with_meta m c))
        ∙ (λ i. record {
          last = last i;
          rows = λ x. rows_at x (same_name change.number x) refl i;
          answers = λ x k. answers_at x k (same_name change.number x) refl i;
          charges = λ x n. charges_at x n (same_name change.number x) refl i;
          vouchers = λ code.
              redeemed_over change.redeemed code (option_map voucher_in (c.vouchers code));
          count = if sym (is_some_map content.head_in (c.rows change.number).head) i then c.count
              else c.count + 1;
        })

-- rule: database-writes.tables-of
pub changes_read : AreChangesRead
changes_read names m change texts c named may told last =
    change_read names m change texts c named may told last
