-- Rows of open sessions' groups, as `read_open_rows` selects them.
use Rattle.std.specs.Prelude.{option_map, if◌then◌else◌}
use Rattle.std.proofs.Common.{◌≡◌, inl, inr, ℕ, List, [], ◌∷◌, map, drop, Bool, true}
use Rattle.std.proofs.Common.{false, ◌&&◌, Some, None, Option, is_eq, refl, sym, ap, ap₂}
use Rattle.std.proofs.Common.{subst, ◌∙◌}
use Rattle.std.proofs.lemmas.Bool.{and_parts, and_from}
use Rattle.std.specs.Cmp.Lexicographic.{bytes_decides}
use Rattle.std.specs.List.{list_any}
use Rattle.sqlite_value.specs.declared.value.Value.{Value}
use Rattle.sqlite_value.specs.declared.value.Value.TheVariants.{Null, Int, Real, Text, Blob}
use Rattle.sqlite_value.specs.declared.keys.Collation.TheVariants.{Binary}
use Rattle.sqlite_value.specs.Order.{Row, column, value_cmp}
use Rattle.sqlite_trees.specs.Tree.{Trees}
use Rattle.sqlite_sql.specs.Ops.{binary, is_null}
use Rattle.sqlite_schema.specs.declared.schema.Constraint.TheVariants.{Datatype}
use Rattle.sqlite_schema.specs.declared.schema.Kind.TheVariants as kind
use Rattle.sqlite_schema.specs.Rules.{Fits, are_typed, equal, is_of}
use Rattle.sqlite_rules.specs.Lists.{Has}
use Rattle.sqlite_rules.proofs.ListLemmas.{all_has, some_from, some_has}
use Rattle.reserving.specs.Left.{is_open_row}
use Rattle.reserving.specs.Sessions.{is_open}
use Rattle.sql_tables.specs.Keyed.{IsStored, look}
use Rattle.sql_tables.specs.Schema.{our_schema, key_index, session_groups, sessions}
use Rattle.sql_tables.specs.Selects.{passing}
use Rattle.sql_tables.proofs.ByKey.{answered_told}
use Rattle.sql_tables.proofs.Columns.{equal_turned}
use Rattle.sql_tables.proofs.Keys.{int_tie, keys_split, text_tie}
use Rattle.sql_tables.proofs.Selected.{AreAnswered}
use Rattle.sql_tables.proofs.Selections.{full_key, meets, stands_under, under_stands}
use Rattle.sql_tables.proofs.Steps.{and_true}
use Rattle.sql_tables.proofs.Ties.{equal_present, same_ints}
use Rattle.sql_rows.specs.Values.{Group, group_in_row, group_key, nat, nat_in, session_in_row}
use Rattle.sql_rows.specs.Values.{session_key}
use Rattle.sql_rows.specs.Values.{state_in, text_in}
use Rattle.sql_rows.specs.Content.{rows_in}
use Rattle.sql_rows.specs.Lists.{AreOpenGroups, OpenGroupAt, is_group_of, open_group_cells}
use Rattle.sql_rows.proofs.puts.PutGroup.{group_told}
use Rattle.sql_rows.proofs.queries.Tests.{open_tested}

-- a stored row as one of the list
abbrev at_in : Row → OpenGroupAt
at_in v = record {
  session = text_in (column v 1);
  group = nat_in (column v 2);
  row = group_in_row v;
}

-- the columns that are read as one of the list
abbrev from_cells : Row → OpenGroupAt
from_cells w = record {
  session = text_in (column w 1);
  group = nat_in (column w 2);
  row = group_in_row (Null ∷ Null ∷ column w 2 ∷ column w 5 ∷ column w 6 ∷ column w 3
      ∷ column w 4 ∷ []);
}

cells_told : (x : OpenGroupAt) → from_cells (open_group_cells x) ≡ x
cells_told x = λ i. record {
  session = x.session;
  group = x.group;
  row = group_told Null Null x.group x.row i;
}

abbrev pub columns : Row → Row
columns r =
    nat 0 ∷ column r 2 ∷ column r 3 ∷ column r 6 ∷ column r 7 ∷ column r 4 ∷ column r 5 ∷ []

same_columns : (r : Row) → at_in (drop 1 r) ≡ from_cells (columns r)
same_columns [] = refl
same_columns (v ∷ vs) = refl

back : (x : OpenGroupAt) (r : Row) → open_group_cells x ≡ columns r → at_in (drop 1 r) ≡ x
back x r is = same_columns r ∙ ap from_cells (sym is) ∙ cells_told x

-- ---- values

-- a value that ties with a text is that text
text_only : (s : List ℕ) (v : Value) → is_eq (value_cmp (Text s) v) ≡ true → v ≡ Text s
unfolding value_cmp
text_only s (Text t) e = ap Text ((bytes_decides t s).0 (sym (text_tie t s) ∙ e))
text_only s Null e = absurd (cc)
text_only s (Int n) e = absurd (cc)
text_only s (Real x) e = absurd (cc)
text_only s (Blob b) e = absurd (cc)

-- so is one that SQL finds equal to it
equal_text : (s : List ℕ) (v : Value) → equal Binary (Text s) v ≡ true → v ≡ Text s
unfolding binary
equal_text s (Text t) e =
    text_only s (Text t) (sym (equal_present (Text s) (Text t) refl) ∙ e)
equal_text s Null e = absurd (cc)
equal_text s (Int n) e = text_only s (Int n) (sym (equal_present (Text s) (Int n) refl) ∙ e)
equal_text s (Real x) e = text_only s (Real x) (sym (equal_present (Text s) (Real x) refl) ∙ e)
equal_text s (Blob b) e = text_only s (Blob b) (sym (equal_present (Text s) (Blob b) refl) ∙ e)

text_ties : (s : List ℕ) → equal Binary (Text s) (Text s) ≡ true
text_ties s =
    equal_present (Text s) (Text s) refl ∙ text_tie s s ∙ (bytes_decides s s).1 refl

-- an integer that SQL finds equal to 1 is the state of an open session
state_told : (v : Value) → is_of kind.Integer v ≡ true → equal Binary v (nat 1) ≡ true
    → is_open (state_in v) ≡ true
unfolding binary
state_told (Int n) typed e =
    ap (λ w. is_open (state_in w)) (same_ints (Int n) (nat 1) refl refl e)
state_told Null typed e = absurd (cc)
state_told (Real x) typed e = absurd (cc)
state_told (Text t) typed e = absurd (cc)
state_told (Blob b) typed e = absurd (cc)

state_typed : (row : Row) → are_typed None 0 sessions.columns (drop 1 row) ≡ true
    → equal Binary (column row 5) (nat 1) ≡ true
    → is_open (session_in_row (drop 1 row)).state ≡ true
unfolding binary
state_typed [] typed e = absurd (cc)
state_typed (x ∷ []) typed e = absurd (cc)
state_typed (x ∷ a ∷ []) typed e = absurd (cc)
state_typed (x ∷ a ∷ b ∷ []) typed e = absurd (cc)
state_typed (x ∷ a ∷ b ∷ c ∷ []) typed e = absurd (cc)
state_typed (x ∷ a ∷ b ∷ c ∷ d ∷ []) typed e = absurd (cc)
state_typed (x ∷ a ∷ b ∷ c ∷ d ∷ v ∷ more) typed e =
    let rest = are_typed None 5 [] more in
    let first = and_parts (is_of kind.Text a) (is_of kind.Text b && (is_of kind.Integer c
    && (is_of kind.Integer d && (is_of kind.Integer v && rest)))) typed in
    let second = and_parts (is_of kind.Text b) (is_of kind.Integer c
    && (is_of kind.Integer d && (is_of kind.Integer v && rest))) first.1 in
    let third = and_parts (is_of kind.Integer c)
    (is_of kind.Integer d && (is_of kind.Integer v && rest)) second.1 in
    let fourth = and_parts (is_of kind.Integer d) (is_of kind.Integer v && rest) third.1 in
    let fifth = and_parts (is_of kind.Integer v) rest fourth.1 in
    state_told v fifth.0 e

-- ---- the rows

implied : (p q : Bool) → (p ≡ true → q ≡ true) → p ≡ (q && p)
implied true q h = sym (and_true q ∙ h refl)
implied false true h = refl
implied false false h = refl

opened : (o : Option Row) → is_open_row (option_map session_in_row o) ≡ true →
    (v : Row) × (o ≡ Some v) × (is_open (session_in_row v).state ≡ true)
opened None e = absurd (cc)
opened (Some v) e = (v, refl, e)

state_of : (row : Row) → is_open (session_in_row (drop 1 row)).state ≡ true →
    equal Binary (column row 5) (nat 1) ≡ true
state_of [] e = absurd (cc)
state_of (v ∷ vs) e = open_tested (column vs 4) e

session_of : (row : Row) → column (drop 1 row) 1 ≡ column row 2
session_of [] = refl
session_of (v ∷ vs) = refl

full_session : (a s : List ℕ) (r : Row) → meets (1 ∷ 2 ∷ []) (session_key a s) r ≡ true
    → (is_null (column r 1) ≡ false) × ((is_null (column r 2) ≡ false) × Unit {0})
full_session a s r e = full_key (1 ∷ 2 ∷ []) (session_key a s) r (refl, (refl, tt)) e

module _ (a : List ℕ) (trees : Trees) (fits : Fits our_schema trees)
    (stored : IsStored (trees 8)) where
  abbrev front : Row → Bool
  front r = equal Binary (column r 1) (Text a)

  abbrev pub both : Row → Row → Bool
  both t r = front t && (equal Binary (column t 5) (nat 1)
      && (equal Binary (column r 1) (column t 1)
      && (equal Binary (column r 2) (column t 2) && true)))

  abbrev pub extra : Row → Bool
  extra r = list_any (λ t. both t r) (trees 8)

  abbrev rest : List ℕ → ℕ → Row → Bool
  rest s g r = is_eq (value_cmp (Text s) (column r 2)) && is_eq (value_cmp (nat g) (column r 3))

  abbrev live : OpenGroupAt → Bool
  live x = is_open_row ((rows_in trees a).sessions x.session)

  splits : (s : List ℕ) (g : ℕ) (r : Row) →
      meets (1 ∷ 2 ∷ 3 ∷ []) (group_key a s g) r ≡ (front r && rest s g r)
  splits s g r =
      keys_split (Text a) (column r 1) (Text s ∷ nat g ∷ []) (column r 2 ∷ column r 3 ∷ [])
      ∙ ap₂ ◌&&◌ (sym (equal_turned (column r 1) (Text a) refl))
      (keys_split (Text s) (column r 2) (nat g ∷ []) (column r 3 ∷ [])
      ∙ ap (λ t. is_eq (value_cmp (Text s) (column r 2)) && t)
      (keys_split (nat g) (column r 3) [] [] ∙ and_true _))

  session_splits : (s : List ℕ) (t : Row) → meets (1 ∷ 2 ∷ []) (session_key a s) t
      ≡ (front t && is_eq (value_cmp (Text s) (column t 2)))
  session_splits s t =
      keys_split (Text a) (column t 1) (Text s ∷ []) (column t 2 ∷ [])
      ∙ ap₂ ◌&&◌ (sym (equal_turned (column t 1) (Text a) refl))
      (keys_split (Text s) (column t 2) [] [] ∙ and_true _)

  wanted : (s : List ℕ) (g : ℕ) (x : OpenGroupAt) (r : Row) → open_group_cells x ≡ columns r →
      rest s g r ≡ is_group_of s g x
  wanted s g x r is =
      ap (λ (w : Row). is_eq (value_cmp (Text s) (column w 1))
      && is_eq (value_cmp (nat g) (column w 2))) (sym is)
      ∙ ap₂ ◌&&◌ (text_tie x.session s) (int_tie x.group g)

  account_of : (t : Row) → front t ≡ true → column t 1 ≡ Text a
  account_of t e = text_only a (column t 1) (sym (equal_turned (column t 1) (Text a) refl) ∙ e)

  -- what passes with a row of `sessions`
  record IsPassed (t r : Row) : Type 0 where
    there : Has (trees 8) t
    account : front t ≡ true
    state : equal Binary (column t 5) (nat 1) ≡ true
    own : front r ≡ true
    session : equal Binary (column r 2) (column t 2) ≡ true

  passed : (r : Row) → extra r ≡ true → (t : Row) × IsPassed t r
  passed r e =
      let it = some_has (λ t. both t r) (trees 8) e in
      let t : Row = it.0 in
      let one = and_parts (front t) (equal Binary (column t 5) (nat 1)
      && (equal Binary (column r 1) (column t 1)
      && (equal Binary (column r 2) (column t 2) && true))) it.2 in
      let two = and_parts (equal Binary (column t 5) (nat 1))
      (equal Binary (column r 1) (column t 1)
      && (equal Binary (column r 2) (column t 2) && true)) one.1 in
      let three = and_parts (equal Binary (column r 1) (column t 1))
      (equal Binary (column r 2) (column t 2) && true) two.1 in
      let four = and_parts (equal Binary (column r 2) (column t 2)) true three.1 in (
        t,
        record {
          there = it.1;
          account = one.0;
          state = two.0;
          own = subst (λ w. equal Binary (column r 1) w ≡ true) (account_of t one.0) three.0;
          session = four.0;
        },
      )

  tests : (r : Row) → extra r ≡ (front r && extra r)
  tests r = implied (extra r) (front r) (λ e. (passed r e).1.own)

  -- the name in a row under a key of groups is that of the key
  named : (s : List ℕ) (g : ℕ) (r : Row) → meets (1 ∷ 2 ∷ 3 ∷ []) (group_key a s g) r ≡ true
      → column r 2 ≡ Text s
  named s g r m =
      let whole = and_parts (front r) (rest s g r) (sym (splits s g r) ∙ m) in
      let key = and_parts (is_eq (value_cmp (Text s) (column r 2)))
      (is_eq (value_cmp (nat g) (column r 3))) whole.1 in
      text_only s (column r 2) key.0

  lives : (s : List ℕ) (g : ℕ) (r : Row) → meets (1 ∷ 2 ∷ 3 ∷ []) (group_key a s g) r ≡ true
      → live (at_in (drop 1 r)) ≡ true → extra r ≡ true
  lives s g r m l =
      let name : column r 2 ≡ Text s = named s g r m in
      let on : is_open_row ((rows_in trees a).sessions s) ≡ true =
      subst (λ w. is_open_row ((rows_in trees a).sessions (text_in w)) ≡ true)
      (session_of r ∙ name) l in
      let it = opened (look sessions trees (session_key a s)) on in
      let stands = under_stands our_schema sessions (inr (inr (inr (inr (inl refl)))))
      (key_index sessions) (inr (inr (inr (inr (inl refl))))) refl refl refl trees fits stored
      (session_key a s) it.0 it.1 in
      let t : Row = stands.0 in
      let key = and_parts (front t) (is_eq (value_cmp (Text s) (column t 2)))
      (sym (session_splits s t) ∙ stands.2) in
      let state : equal Binary (column t 5) (nat 1) ≡ true =
      state_of t (subst (λ w. is_open (session_in_row w).state ≡ true) stands.3 it.2) in
      let own = and_parts (front r) (rest s g r) (sym (splits s g r) ∙ m) in
      let same : equal Binary (column r 2) (column t 2) ≡ true =
      ap₂ (equal Binary) name (text_only s (column t 2) key.1) ∙ text_ties s in
      let account : equal Binary (column r 1) (column t 1) ≡ true =
      subst (λ w. equal Binary (column r 1) w ≡ true) (sym (account_of t key.0)) own.0 in
      some_from (λ t. both t r) (trees 8) t stands.1
      (and_from (front t) _ key.0 (and_from (equal Binary (column t 5) (nat 1)) _ state
      (and_from (equal Binary (column r 1) (column t 1)) _ account
      (and_from (equal Binary (column r 2) (column t 2)) true same refl))))

  told : (x : OpenGroupAt) (r : Row) → extra r ≡ true → open_group_cells x ≡ columns r →
      live x ≡ true
  told x r e is =
      let it = passed r e in
      let t : Row = it.0 in
      let name : column r 2 ≡ Text x.session = ap (λ (w : Row). column w 1) (sym is) in
      let same : column t 2 ≡ Text x.session = equal_text x.session (column t 2)
      (subst (λ w. equal Binary w (column t 2) ≡ true) name it.1.session) in
      let tie : is_eq (value_cmp (Text x.session) (column t 2)) ≡ true =
      subst (λ w. is_eq (value_cmp (Text x.session) w) ≡ true) (sym same)
      (text_tie x.session x.session ∙ (bytes_decides x.session x.session).1 refl) in
      let key : meets (1 ∷ 2 ∷ []) (session_key a x.session) t ≡ true =
      session_splits x.session t
      ∙ and_from (front t) (is_eq (value_cmp (Text x.session) (column t 2))) it.1.account tie in
      let found : look sessions trees (session_key a x.session) ≡ Some (drop 1 t) =
      stands_under our_schema sessions (inr (inr (inr (inr (inl refl)))))
      (key_index sessions) (inr (inr (inr (inr (inl refl))))) refl refl refl trees fits stored
      (session_key a x.session) (full_session a x.session) t it.1.there key in
      ap (λ o. is_open_row (option_map session_in_row o)) found
      ∙ state_typed t (and_parts (are_typed None 0 sessions.columns (drop 1 t)) true
      (all_has _ (trees 8) t (fits.rules Datatype (λ e. cc)).1.1.1.1.0 it.1.there)).0 it.1.state

  -- the row under a key, if its session is open
  closing : (s : List ℕ) (g : ℕ) (o : Option Row)
      → ((v : Row) → o ≡ Some v → text_in (column v 1) ≡ s)
      → option_map (λ (x : OpenGroupAt). x.row) (passing live (option_map at_in o))
      ≡ (if is_open_row ((rows_in trees a).sessions s) then option_map group_in_row o else None)
  closing s g None name = none (is_open_row ((rows_in trees a).sessions s))
    where
      none : (b : Bool) → ◌≡◌ {A = Option Group} None (if b then None else None)
      none true = refl
      none false = refl
  closing s g (Some v) name =
      ap (λ n. option_map (λ (x : OpenGroupAt). x.row)
      (if is_open_row ((rows_in trees a).sessions n) then Some (at_in v) else None))
      (name v refl)
      ∙ at (is_open_row ((rows_in trees a).sessions s))
    where
      at : (b : Bool)
          → option_map (λ (x : OpenGroupAt). x.row) (if b then Some (at_in v) else None)
          ≡ (if b then Some (group_in_row v) else None)
      at true = refl
      at false = refl

-- a list of those rows
-- rule: statements-of-tables.open-rows
pub open_groups_answered : (a : List ℕ) (trees : Trees) (fits : Fits our_schema trees)
    (stored : IsStored (trees 8)) → IsStored (trees 10) → (xs : List OpenGroupAt)
    → AreAnswered (extra a trees fits stored) columns (trees 10) (map open_group_cells xs)
    → AreOpenGroups (rows_in trees a) xs
open_groups_answered a trees fits stored own xs answered s g =
    ap (option_map (λ (x : OpenGroupAt). x.row))
    (answered_told session_groups (inr (inr (inr (inr (inr (inl refl))))))
    (inr (inr (inr (inr (inr (inl refl)))))) refl trees fits own at_in open_group_cells columns
    (extra a trees fits stored) (group_key a s g) (refl, (refl, (refl, tt)))
    (λ x r m. back x r) (is_group_of s g) (live a trees fits stored) (front a trees fits stored)
    (rest a trees fits stored s g) (extra a trees fits stored) (tests a trees fits stored)
    (splits a trees fits stored s g) (wanted a trees fits stored s g)
    (lives a trees fits stored s g) (told a trees fits stored) xs answered)
    ∙ closing a trees fits stored s g (look session_groups trees (group_key a s g))
    (λ v e.
    let stands = under_stands our_schema session_groups
    (inr (inr (inr (inr (inr (inl refl)))))) (key_index session_groups)
    (inr (inr (inr (inr (inr (inl refl)))))) refl refl refl trees fits own (group_key a s g) v e in
    ap text_in (ap (λ w. column w 1) stands.3 ∙ session_of stands.0
    ∙ named a trees fits stored s g stands.0 stands.2))
