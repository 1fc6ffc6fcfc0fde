-- What rows say that are wrong beside no row of another table.
use Rattle.std.proofs.Common.{◌≡◌, ◌&&◌, ℕ, suc, pos, negsuc, List, [], ◌∷◌, Bool, true, false, not, drop}
use Rattle.std.proofs.Common.{Some, None, Option, cond, Less, Equal, Greater, is_eq, refl, sym, ap}
use Rattle.std.proofs.Common.{subst, ◌∙◌, arith, nat_eq, nat_le, nat_lt}
use Rattle.std.specs.Prelude.{codes, is_some, ◌||◌, if◌then◌else◌}
use Rattle.std.specs.Cmp.Lexicographic.{bytes_decides}
use Rattle.std.specs.FinMap.{get-from_entries}
use Rattle.std.specs.declared.cmp.Ordering.{Ordering}
use Rattle.std.specs.Ordering.{eq_by_cmp, is_ge, is_gt, is_ne}
use Rattle.std.proofs.lemmas.Bool.{and_from, and_parts}
use Rattle.std.proofs.lemmas.Bool.Decides.{nat_tests}
use Rattle.sqlite_value.specs.declared.value.Value.{Value}
use Rattle.sqlite_value.specs.declared.value.Value.TheVariants.{Null, Int, Real, Text, Blob}
use Rattle.sqlite_value.specs.Keys.{collated, plain, joined}
use Rattle.sqlite_value.specs.Order.{Row, column, row_cmp, value_cmp}
use Rattle.sqlite_value.proofs.OrderLemmas.{row_cmp_total, value_cmp-Int}
use Rattle.sqlite_trees.specs.Tree.{Trees}
use Rattle.sqlite_schema.specs.Names.{same_name as same_sql_name}
use Rattle.sqlite_schema.specs.Rules.{Keeps, parent_key}
use Rattle.sqlite_schema.specs.declared.schema.Constraint.TheVariants.{ForeignKey}
use Rattle.sqlite_schema.specs.declared.schema.Reference.{Reference}
use Rattle.sqlite_schema.specs.declared.schema.Table.{Table}
use Rattle.sqlite_rules.specs.Lists.{Has}
use Rattle.sqlite_value.specs.declared.keys.Collation.TheVariants.{Binary}
use Rattle.sqlite_sql.specs.declared.ops.BinaryOp.TheVariants.{Compare}
use Rattle.sqlite_sql.specs.declared.ops.CompareOp.{CompareOp}
use Rattle.sqlite_sql.specs.Ops.{binary, from_truth, is_null, is_true, test}
use Rattle.sql_rows.specs.Values.{nat_in}
use Rattle.sql_tables.specs.Keyed.{entries_of, look}
use Rattle.sql_tables.specs.Schema.{accounts, belongs, our_schema, session_groups, sessions}
use Rattle.sql_tables.proofs.Keys.{int_tie, keys_split, text_tie}
use Rattle.sql_tables.proofs.Parents.{parent_there, session_of_group}
use Rattle.sql_tables.proofs.Selections.{full_key, meets, met_some}
use Rattle.sql_tables.proofs.Steps.{truth_told}
use Rattle.sql_tables.proofs.Ties.{equal_present}
use Rattle.sql_rules.specs.Beside.{NoneWrong, differs, is_above, is_equal, is_from}
use Rattle.sql_rules.specs.Beside.{lacks_open_session}

-- ---- what SQL's tests say

-- a value that ties with a text is that text
pub text_only : (s : List ℕ) (v : Value) → is_eq (value_cmp (Text s) v) ≡ true → v ≡ Text s
unfolding value_cmp
text_only s (Text t) e = ap Text ((bytes_decides t s).0 (sym (text_tie t s) ∙ e))
text_only s Null e = absurd (cc)
text_only s (Int n) e = absurd (cc)
text_only s (Real x) e = absurd (cc)
text_only s (Blob b) e = absurd (cc)

pub text_equals : (s : List ℕ) → is_equal (Text s) (Text s) ≡ true
text_equals s =
    equal_present (Text s) (Text s) refl ∙ text_tie s s ∙ (bytes_decides s s).1 refl

pub equals_text : (s t : List ℕ) → is_equal (Text s) (Text t) ≡ true → t ≡ s
equals_text s t e =
    (bytes_decides t s).0 (sym (text_tie t s) ∙ sym (equal_present (Text s) (Text t) refl) ∙ e)

pub number_equals : (m : ℕ) → is_equal (Int (pos m)) (Int (pos m)) ≡ true
number_equals m =
    equal_present (Int (pos m)) (Int (pos m)) refl ∙ int_tie m m ∙ grind (arith, nat_tests)

no_less : (m k : ℕ) (p q r : Bool) → nat_lt m k ≡ p → nat_lt k m ≡ q → nat_le k m ≡ r →
    is_ge (cond p Less (cond q Greater Equal)) ≡ r
no_less m k true q true e f g = absurd (grind (arith, nat_tests, e, g))
no_less m k true q false e f g = refl
no_less m k false true true e f g = refl
no_less m k false true false e f g = absurd (grind (arith, nat_tests, f, g))
no_less m k false false true e f g = refl
no_less m k false false false e f g = absurd (grind (arith, nat_tests, e, g))

pub from_told : (m k : ℕ) → is_from (Int (pos m)) (Int (pos k)) ≡ nat_le k m
unfolding binary
from_told m k =
    ap (λ o. is_true (from_truth (Some (is_ge o)))) (value_cmp-Int (pos m) (pos k))
    ∙ ap (λ t. is_true (from_truth (Some t)))
    (no_less m k (nat_lt m k) (nat_lt k m) (nat_le k m) refl refl refl)
    ∙ truth_told (nat_le k m)

no_more : (m k : ℕ) (p q : Bool) → nat_lt m k ≡ p → nat_lt k m ≡ q →
    is_gt (cond p Less (cond q Greater Equal)) ≡ q
no_more m k true true e f = absurd (grind (arith, nat_tests, e, f))
no_more m k true false e f = refl
no_more m k false true e f = refl
no_more m k false false e f = refl

pub above_told : (m k : ℕ) → is_above (Int (pos m)) (Int (pos k)) ≡ nat_lt k m
unfolding binary
above_told m k =
    ap (λ o. is_true (from_truth (Some (is_gt o)))) (value_cmp-Int (pos m) (pos k))
    ∙ ap (λ t. is_true (from_truth (Some t))) (no_more m k (nat_lt m k) (nat_lt k m) refl refl)
    ∙ truth_told (nat_lt k m)

zero_by : (k : ℕ) → nat_le 0 k ≡ true
zero_by k = grind (arith, nat_tests)

-- what isn't above a number is at most it, as it is read
pub not_above : (v : Value) (k : ℕ) → is_above v (Int (pos k)) ≡ false → nat_le (nat_in v) k ≡ true
not_above (Int (pos n)) k e =
    let t : nat_lt k n ≡ false = sym (above_told n k) ∙ e in grind (arith, nat_tests, t)
not_above (Int (negsuc n)) k e = zero_by k
not_above Null k e = zero_by k
not_above (Real x) k e = zero_by k
not_above (Text t) k e = zero_by k
not_above (Blob b) k e = zero_by k

ne_is : (o : Ordering) → is_ne o ≡ not (is_eq o)
ne_is Less = refl
ne_is Equal = refl
ne_is Greater = refl

pub differs_told : (m k : ℕ) → differs (Int (pos m)) (Int (pos k)) ≡ not (nat_eq k m)
unfolding binary
differs_told m k =
    truth_told (is_ne (value_cmp (Int (pos m)) (Int (pos k))))
    ∙ ne_is (value_cmp (Int (pos m)) (Int (pos k))) ∙ ap not (int_tie k m)

-- what compares isn't NULL
pub compared : (op : CompareOp) (v w : Value) → is_true (binary (Compare op Binary) v w) ≡ true
    → (is_null v ≡ false) × (is_null w ≡ false)
unfolding binary
compared op v w = at (is_null v) (is_null w) refl refl
  where
    at : (p q : Bool) → is_null v ≡ p → is_null w ≡ q
        → is_true (if p || q then Null else from_truth (Some (test op (collated Binary v w)))) ≡ true
        → (is_null v ≡ false) × (is_null w ≡ false)
    at true q e f h = absurd (cc h)
    at false true e f h = absurd (cc h)
    at false false e f h = (e, f)

pub number_same : (m k : ℕ) → is_equal (Int (pos m)) (Int (pos k)) ≡ true → m ≡ k
number_same m k e =
    let t : nat_eq k m ≡ true =
    sym (int_tie k m) ∙ sym (equal_present (Int (pos m)) (Int (pos k)) refl) ∙ e in
    grind (arith, nat_tests, t)

-- a row without its rowid
pub behind : (r : Row) (k : ℕ) → column (drop 1 r) k ≡ column r (suc k)
behind [] k = refl
behind (v ∷ cells) k = refl

-- ---- rows beside their account

abbrev pub to_account : Reference
to_account = belongs (1 ∷ []) (codes "accounts") (codes "account" ∷ [])

points_to_account : parent_key our_schema.tables to_account ≡
    Some (accounts.tree, accounts.primary, plain)
unfolding joined same_sql_name
points_to_account = refl

first_of : (v w a b : Value) → eq_by_cmp row_cmp (v ∷ w ∷ []) (a ∷ b ∷ []) ≡ true →
    is_eq (value_cmp v a) ≡ true
first_of v w a b e =
    (and_parts (is_eq (value_cmp v a)) (eq_by_cmp row_cmp (w ∷ []) (b ∷ []))
    (sym (keys_split v a (w ∷ []) (b ∷ [])) ∙ e)).0

last_of : (v a : Value) → eq_by_cmp row_cmp (v ∷ []) (a ∷ []) ≡ true → is_eq (value_cmp v a) ≡ true
last_of v a e = (and_parts (is_eq (value_cmp v a)) true (sym (keys_split v a [] []) ∙ e)).0

second_of : (v w a b : Value) → eq_by_cmp row_cmp (v ∷ w ∷ []) (a ∷ b ∷ []) ≡ true →
    is_eq (value_cmp w b) ≡ true
second_of v w a b e = last_of w b
    (and_parts (is_eq (value_cmp v a)) (eq_by_cmp row_cmp (w ∷ []) (b ∷ []))
    (sym (keys_split v a (w ∷ []) (b ∷ [])) ∙ e)).1

as_key : (v a : Value) → is_eq (value_cmp v a) ≡ true → eq_by_cmp row_cmp (v ∷ []) (a ∷ []) ≡ true
as_key v a e = keys_split v a [] [] ∙ and_from (is_eq (value_cmp v a)) true e refl

some_of : {A : Type 0} (o : Option A) → is_some o ≡ true → (x : A) × (o ≡ Some x)
some_of None e = absurd (cc e)
some_of (Some x) e = (x, refl)

-- a number from 0 on in a column of each row
abbrev pub AreNumbers : List Row → ℕ → Type 0
AreNumbers rows k = (r : Row) → Has rows r → (n : ℕ) × (column r k ≡ Int (pos n))

-- a row of an account, and the account's own
pub record IsOfAccount (table : Table) (trees : Trees) (a : List ℕ) (w : Value) (v : Row) : Type 0
  where
    pub own : Row
    pub has : Has (trees table.tree) own
    pub met : meets (1 ∷ 2 ∷ []) (Text a ∷ w ∷ []) own ≡ true
    pub is : v ≡ drop 1 own
    pub up : Row
    pub there : Has (trees accounts.tree) up
    pub found : look accounts trees (Text a ∷ []) ≡ Some (drop 1 up)
    pub same : is_equal (column own 1) (column up 1) ≡ true

-- the number of a row is below the next one that its account has in this column
pub record IsBelow (table : Table) (next : ℕ) (trees : Trees) (a : List ℕ) (n : ℕ) : Type 0 where
  pub row : Row
  pub found : look accounts trees (Text a ∷ []) ≡ Some row
  pub bound : ℕ
  pub is : column row next ≡ Int (pos bound)
  pub below : nat_lt n bound ≡ true
  -- the row itself
  pub own : Row
  pub has : Has (trees table.tree) own
  pub number : column own 2 ≡ Int (pos n)

-- a moment isn't after that of this account
pub record IsReached (trees : Trees) (a : List ℕ) (n : ℕ) : Type 0 where
  pub row : Row
  pub found : look accounts trees (Text a ∷ []) ≡ Some row
  pub by : nat_le n (nat_in (column row 2)) ≡ true

-- a row of this account has the number in this column or a greater one
abbrev pub ahead_of : ℕ → Row → Row → Bool
ahead_of next account row =
    is_equal (column row 1) (column account 1) && is_from (column row 2) (column account next)

number_is : (n m : ℕ) → is_eq (value_cmp (Int (pos n)) (Int (pos m))) ≡ true → n ≡ m
number_is n m e = let t : nat_eq m n ≡ true = sym (int_tie m n) ∙ e in grind (arith, nat_tests, t)

not_from : (n k : ℕ) → nat_le k n ≡ false → nat_lt n k ≡ true
not_from n k e = grind (arith, nat_tests, e)

true_then : (p q : Bool) → p ≡ true → (p && q) ≡ false → q ≡ false
true_then true q e f = f
true_then false q e f = absurd (cc e)

module _ (trees : Trees) (keeps : Keeps ForeignKey our_schema trees) where
  found_row : (table : Table) (key v : Row) → look table trees key ≡ Some v
      → (r : Row) × Has (trees table.tree) r × (meets table.primary key r ≡ true) × (v ≡ drop 1 r)
  found_row table key v e =
      met_some table.primary key v (trees table.tree)
      (sym (get-from_entries row_cmp_total (entries_of table.primary (trees table.tree)) key) ∙ e)

  -- of a table whose rows are an account's, each under its account and one column more
  module _ (table : Table) (tabled : Has our_schema.tables table)
      (refers : Has table.references to_account) (keyed : table.primary ≡ 1 ∷ 2 ∷ []) where
    pub of_account : (a : List ℕ) (w : Value) (v : Row) → is_null w ≡ false
        → look table trees (Text a ∷ w ∷ []) ≡ Some v → IsOfAccount table trees a w v
    of_account a w v some e =
        let key : Row = Text a ∷ w ∷ [] in
        let by : (x : Row) → meets table.primary key x ≡ true → meets (1 ∷ 2 ∷ []) key x ≡ true =
        λ x m. subst (λ p. meets p key x ≡ true) keyed m in
        let it = found_row table key v e in
        let met = by it.0 it.2 in
        let there = some_of (look accounts trees (Text a ∷ []))
        (parent_there our_schema table tabled to_account refers accounts points_to_account trees
        keeps key v (Text a ∷ []) e
        (λ x m. (
          ((full_key (1 ∷ 2 ∷ []) key x (refl, (some, tt)) (by x m)).0, tt),
          as_key (Text a) (column x 1) (first_of (Text a) w (column x 1) (column x 2) (by x m)),
        ))) in
        let up = found_row accounts (Text a ∷ []) there.0 there.1 in
        let name : column it.0 1 ≡ Text a = text_only a (column it.0 1)
        (first_of (Text a) w (column it.0 1) (column it.0 2) met) in
        let named : column up.0 1 ≡ Text a =
        text_only a (column up.0 1) (last_of (Text a) (column up.0 1) up.2) in
        record {
          own = it.0;
          has = it.1;
          met = met;
          is = it.3;
          up = up.0;
          there = up.1;
          found = there.1 ∙ ap Some up.3;
          same = subst (λ x. is_equal x (column up.0 1) ≡ true) (sym name)
              (subst (λ x. is_equal (Text a) x ≡ true) (sym named) (text_equals a));
        }

    -- rule: rows-ruled.beside
    pub numbered_below : (next : ℕ) → NoneWrong (ahead_of (suc next)) accounts table trees
        → AreNumbers (trees table.tree) 2 → AreNumbers (trees accounts.tree) (suc next)
        → (a : List ℕ) (n : ℕ) (v : Row)
        → look table trees (Text a ∷ Int (pos n) ∷ []) ≡ Some v → IsBelow table next trees a n
    numbered_below next none own above a n v e =
        let it = of_account a (Int (pos n)) v refl e in
        let number = own it.own it.has in
        let bound = above it.up it.there in
        let is : n ≡ number.0 =
        number_is n number.0 (subst (λ w. is_eq (value_cmp (Int (pos n)) w) ≡ true) number.1
        (second_of (Text a) (Int (pos n)) (column it.own 1) (column it.own 2) it.met)) in
        let not : is_from (column it.own 2) (column it.up (suc next)) ≡ false =
        true_then _ _ it.same (none it.up it.own it.there it.has) in
        record {
          row = drop 1 it.up;
          found = it.found;
          bound = bound.0;
          is = behind it.up next ∙ bound.1;
          own = it.own;
          has = it.has;
          number = number.1 ∙ ap (λ m. Int (pos m)) (sym is);
          below = subst (λ m. nat_lt m bound.0 ≡ true) (sym is) (not_from number.0 bound.0
              (sym (from_told number.0 bound.0)
              ∙ subst (λ w. is_from (Int (pos number.0)) w ≡ false) bound.1
              (subst (λ w. is_from w (column it.up (suc next)) ≡ false) number.1 not)));
        }

    -- rule: rows-ruled.beside
    pub moment_reached : (at state : ℕ)
        → NoneWrong (λ up own. is_equal (column own 1) (column up 1)
        && is_equal (column own (suc state)) (Int (pos 1))
        && is_above (column own (suc at)) (column up 3)) accounts table trees
        → ((r : Row) → Has (trees accounts.tree) r →
        column r 3 ≡ Int (pos (nat_in (column r 3))))
        → (a : List ℕ) (w : Value) (v : Row) → is_null w ≡ false
        → look table trees (Text a ∷ w ∷ []) ≡ Some v
        → is_equal (column v state) (Int (pos 1)) ≡ true
        → IsReached trees a (nat_in (column v at))
    moment_reached at state none moments a w v some e on =
        let it = of_account a w v some e in
        let open' : is_equal (column it.own (suc state)) (Int (pos 1)) ≡ true =
        subst (λ x. is_equal x (Int (pos 1)) ≡ true)
        (ap (λ c. column c state) it.is ∙ behind it.own state) on in
        let not : is_above (column it.own (suc at)) (column it.up 3) ≡ false =
        true_then _ _ (and_from _ _ it.same open') (none it.up it.own it.there it.has) in
        record {
          row = drop 1 it.up;
          found = it.found;
          by = subst (λ x. nat_le x (nat_in (column (drop 1 it.up) 2)) ≡ true)
              (sym (ap nat_in (ap (λ c. column c at) it.is ∙ behind it.own at)))
              (subst (λ x. nat_le (nat_in (column it.own (suc at))) x ≡ true)
              (sym (ap nat_in (behind it.up 2)))
              (not_above (column it.own (suc at)) (nat_in (column it.up 3))
              (subst (λ x. is_above (column it.own (suc at)) x ≡ false)
              (moments it.up it.there) not)));
        }

  -- a reservation's session is there, and its state is that of an open one
  -- rule: rows-ruled.beside
  pub reserved_open : NoneWrong lacks_open_session session_groups sessions trees
      → AreNumbers (trees sessions.tree) 5
      → (a s : List ℕ) (g : ℕ) (v : Row)
      → look session_groups trees (Text a ∷ Text s ∷ Int (pos g) ∷ []) ≡ Some v
      → column v 4 ≡ Int (pos 1)
      → (w : Row) × (look sessions trees (Text a ∷ Text s ∷ []) ≡ Some w)
      × (column w 4 ≡ Int (pos 1))
  reserved_open none states a s g v e reserved =
      let key : Row = Text a ∷ Text s ∷ Int (pos g) ∷ [] in
      let it = found_row session_groups key v e in
      let r : Row = it.0 in
      let there = some_of (look sessions trees (Text a ∷ Text s ∷ []))
      (session_of_group trees keeps a s g v e) in
      let up = found_row sessions (Text a ∷ Text s ∷ []) there.0 there.1 in
      let t : Row = up.0 in
      let state = states t up.1 in
      let first = and_parts (is_eq (value_cmp (Text a) (column r 1)))
      (eq_by_cmp row_cmp (Text s ∷ Int (pos g) ∷ []) (column r 2 ∷ column r 3 ∷ []))
      (sym (keys_split (Text a) (column r 1) (Text s ∷ Int (pos g) ∷ [])
      (column r 2 ∷ column r 3 ∷ [])) ∙ it.2) in
      let account : column r 1 ≡ Text a = text_only a (column r 1) first.0 in
      let session : column r 2 ≡ Text s = text_only s (column r 2)
      (first_of (Text s) (Int (pos g)) (column r 2) (column r 3) first.1) in
      let account_up : column t 1 ≡ Text a = text_only a (column t 1)
      (first_of (Text a) (Text s) (column t 1) (column t 2) up.2) in
      let session_up : column t 2 ≡ Text s = text_only s (column t 2)
      (second_of (Text a) (Text s) (column t 1) (column t 2) up.2) in
      let held : column r 5 ≡ Int (pos 1) =
      sym (behind r 4) ∙ ap (λ w. column w 4) (sym it.3) ∙ reserved in
      let wrong = none r t it.1 up.1 in
      let not : differs (column t 5) (Int (pos 1)) ≡ false =
      true_then (is_equal (column r 5) (Int (pos 1)) && is_equal (column t 1) (column r 1)
      && is_equal (column t 2) (column r 2)) (differs (column t 5) (Int (pos 1)))
      (and_from _ _ (and_from _ _ (subst (λ w. is_equal w (Int (pos 1)) ≡ true) (sym held)
      (number_equals 1)) (equal_at (column t 1) (column r 1) a account_up account))
      (equal_at (column t 2) (column r 2) s session_up session)) wrong in
      let is : state.0 ≡ 1 = one state.0 (sym (differs_told state.0 1)
      ∙ subst (λ w. differs w (Int (pos 1)) ≡ false) state.1 not) in (
        there.0,
        there.1,
        ap (λ w. column w 4) up.3 ∙ behind t 4 ∙ state.1 ∙ ap (λ m. Int (pos m)) is,
      )
    where
      equal_at : (v w : Value) (x : List ℕ) → v ≡ Text x → w ≡ Text x → is_equal v w ≡ true
      equal_at v w x e f = subst (λ y. is_equal y w ≡ true) (sym e)
          (subst (λ y. is_equal (Text x) y ≡ true) (sym f) (text_equals x))

      one : (m : ℕ) → not (nat_eq 1 m) ≡ false → m ≡ 1
      one m e = at (nat_eq 1 m) refl e
        where
          at : (b : Bool) → nat_eq 1 m ≡ b → not b ≡ false → m ≡ 1
          at true f k = grind (arith, nat_tests, f)
          at false f k = absurd (cc k)
