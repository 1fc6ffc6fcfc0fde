-- What a UNION ALL of several selections answers: each is said of by a predicate of its rows.
use Rattle.std.proofs.Common.{◌≡◌, ◌⊎◌, ℕ, List, [], ◌∷◌, ◌++◌, Bool, true, false}
use Rattle.std.proofs.Common.{refl, sym, ap, subst, ◌∙◌, inl, inr}
use Rattle.std.specs.List.{list_all}
use Rattle.std.specs.Prelude.{nat_le, ◌^◌, ◌+◌}
use Rattle.sqlite_value.specs.declared.value.Value.TheVariants.{Null}
use Rattle.sqlite_value.specs.declared.keys.Collation.{Collation}
use Rattle.sqlite_value.specs.declared.keys.Collation.TheVariants.{Binary}
use Rattle.sqlite_value.specs.declared.keys.Key.{Key}
use Rattle.sqlite_value.specs.Order.{Row}
use Rattle.sqlite_trees.specs.Tree.{Trees}
use Rattle.sqlite_sql.specs.declared.query.SetOp.TheVariants.{UnionAll}
use Rattle.sqlite_sql.specs.Term.{Term, lit, holds, eval_all}
use Rattle.sqlite_sql.specs.Program.{AreLets, Computes, IsProgramAnswer, Let, overlay, selected}
use Rattle.sqlite_sql.specs.Program.{combined, recursive}
use Rattle.sqlite_sql.specs.Query.{Query, IsAnswer, IsSureAnswer}
use Rattle.sqlite_schema.specs.Program.{lets_of}
use Rattle.sqlite_schema.specs.declared.program.Program.{Program}
use Rattle.sqlite_schema.specs.declared.program.Table.TheVariants.{Selected, Combined}
use Rattle.sqlite_rules.specs.Lists.{Has}
use Rattle.sql_rows.proofs.queries.Coupled.{both_answered, part_both, passes}
use Rattle.sql_rows.proofs.queries.Unioned.{answered, part_from}
use Rattle.sqlite_rules.proofs.ListLemmas.{has_either, has_left, has_right}
use Rattle.sql_tables.specs.Selects.{Selects}
use Rattle.sql_tables.proofs.Selected.{AreAnswered, select_from, selected_from, selected_to}
use Rattle.sql_tables.proofs.Selected.{selected as selected_rows}

-- the rows are those of which something is said
pub record AreThose (P : Row → Type 0) (out : List Row) : Type 0 where
  pub from : (v : Row) → Has out v → P v
  pub to : (v : Row) → P v → Has out v

pub those_as : (P Q : Row → Type 0) → ((v : Row) → P v → Q v) → ((v : Row) → Q v → P v)
    → (out : List Row) → AreThose P out → AreThose Q out
those_as P Q one two out those = record {
  from = λ v h. one v (those.from v h);
  to = λ v said. those.to v (two v said);
}

turned : (A B C : Type 0) → (A ⊎ B) ⊎ C → A ⊎ (B ⊎ C)
turned A B C (inl (inl a)) = inl a
turned A B C (inl (inr b)) = inr (inl b)
turned A B C (inr c) = inr (inr c)

turned_back : (A B C : Type 0) → A ⊎ (B ⊎ C) → (A ⊎ B) ⊎ C
turned_back A B C (inl a) = inl (inl a)
turned_back A B C (inr (inl b)) = inl (inr b)
turned_back A B C (inr (inr c)) = inr c

-- of two lists one after another, if what is said of one is said of none of the other
pub apart : (P Q : Row → Type 0) (first second : List Row)
    → ((v : Row) → P v → Has second v → ⊥) → ((v : Row) → Q v → Has first v → ⊥)
    → AreThose (λ v. P v ⊎ Q v) (first ++ second) → AreThose P first × AreThose Q second
apart P Q first second no_second no_first those = (
  record {
    from = λ v h.
        elim (those.from v (has_left first second v h)) [
          | inl p ↦ p
          | inr q ↦ absurd (no_first v q h)
        ];
    to = λ v p.
        elim (has_either first second v (those.to v (inl p))) [
          | inl h ↦ h
          | inr h ↦ absurd (no_second v p h)
        ];
  },
  record {
    from = λ v h.
        elim (those.from v (has_right first second v h)) [
          | inl p ↦ absurd (no_second v p h)
          | inr q ↦ q
        ];
    to = λ v q.
        elim (has_either first second v (those.to v (inr q))) [
          | inl h ↦ absurd (no_first v q h)
          | inr h ↦ h
        ];
  },
)

-- rows of a part as they are shown
pub record AreShown (cut : Row → Row) (P : Row → Type 0) (rows : List Row) : Type 0 where
  pub from : (v : Row) → Has rows v → P (cut v)
  pub to : (w : Row) → P w → (v : Row) × Has rows v × (w ≡ cut v)

-- one part after another
pub shown_both : (cut : Row → Row) (P Q : Row → Type 0) (first second all : List Row)
    → AreShown cut P first → AreShown cut Q second → all ≡ first ++ second
    → AreShown cut (λ v. P v ⊎ Q v) all
shown_both cut P Q first second all one two both = record {
  from = λ v h.
      elim (has_either first second v (subst (λ l. Has l v) both h)) [
        | inl k ↦ inl (one.from v k)
        | inr k ↦ inr (two.from v k)
      ];
  to = λ w said.
      elim said [
        | inl p ↦ let it = one.to w p in (
          it.0,
          subst (λ l. Has l it.0) (sym both) (has_left first second it.0 it.1),
          it.2,
        )
        | inr q ↦ let it = two.to w q in (
          it.0,
          subst (λ l. Has l it.0) (sym both) (has_right first second it.0 it.1),
          it.2,
        )
      ];
}

-- all of them shown, in some order
pub shown_those : (cut : Row → Row) (P : Row → Type 0) (all out : List Row) → AreShown cut P all
    → Selects (λ r. true) cut all out → AreThose P out
shown_those cut P all out shown s = record {
  from = λ v h.
      let it = selected_from (λ r. true) cut all out s v h in
      subst P (sym it.3) (shown.from it.0 it.1);
  to = λ w said.
      let it = shown.to w said in
      subst (Has out) (sym it.2) (selected_to (λ r. true) cut all out s it.0 it.1 refl);
}

-- ---- a query, whatever tables were computed before it

abbrev pub IsPart : Trees → Row → List Term → Query → (Row → Type 0) → Type 0
IsPart db params shown q P =
    (tables : List (List Row)) (rows : List Row) → IsAnswer q (overlay db tables) params rows
    → AreShown (λ r. eval_all shown (params ∷ r ∷ [])) P rows

-- a row of columns of a stored row that passes
abbrev pub IsOf : (Row → Bool) → (Row → Row) → List Row → Row → Type 0
IsOf test columns stored w =
    (r : Row) × Has stored r × (test r ≡ true) × (w ≡ columns r)

pub those_answered : (test : Row → Bool) (columns : Row → Row) (stored out : List Row)
    → AreThose (IsOf test columns stored) out → AreAnswered test columns stored out
those_answered test columns stored out those = record {
  from = those.from;
  to = λ r h e. those.to (columns r) (r, h, e, refl);
}

-- rows behind a NULL, which isn't shown
shown_answered : (cut columns : Row → Row) (test : Row → Bool) (stored rows : List Row)
    → ((r : Row) → cut (Null ∷ columns r) ≡ columns r)
    → AreAnswered test (λ r. Null ∷ columns r) stored rows
    → AreShown cut (IsOf test columns stored) rows
shown_answered cut columns test stored rows cuts answered = record {
  from = λ v h.
      let it = answered.from v h in
      (it.0, it.1, it.2, ap cut it.3 ∙ cuts it.0);
  to = λ w said. (
    Null ∷ columns said.0,
    answered.to said.0 said.1 said.2,
    said.3 ∙ sym (cuts said.0),
  );
}

low : (t : ℕ) → nat_le (2 ^ 31) t ≡ false → (db : Trees) (tables : List (List Row))
    → overlay db tables t ≡ db t
low t e db tables = rw e refl

-- a part from one table
pub one_part : (tree : ℕ) → nat_le (2 ^ 31) tree ≡ false → (terms project : List Term) (db : Trees)
    (params : Row) (shown : List Term) (test : Row → Bool) (columns : Row → Row)
    → ((r : Row) → list_all (holds (params ∷ r ∷ [])) terms ≡ test r)
    → ((r : Row) → eval_all project (params ∷ r ∷ []) ≡ columns r)
    → ((r : Row) → eval_all shown (params ∷ (Null ∷ columns r) ∷ []) ≡ columns r)
    → IsPart db params shown (part_from tree terms project) (IsOf test columns (db tree))
one_part tree is_low terms project db params shown test columns tests shows cuts tables rows a =
    shown_answered (λ r. eval_all shown (params ∷ r ∷ [])) columns test (db tree) rows cuts
    (selected_rows test (λ r. Null ∷ columns r) (db tree) rows
    (subst (λ l. Selects test (λ r. Null ∷ columns r) l rows) (low tree is_low db tables)
    (answered tree terms (lit Null ∷ project) [] (Binary ∷ []) params test (λ r. Null ∷ columns r)
    tests (λ r. ap (λ v. Null ∷ v) (shows r)) (overlay db tables) rows a)))

-- a part from two tables
pub both_part : (first second : ℕ) → nat_le (2 ^ 31) first ≡ false → nat_le (2 ^ 31) second ≡ false
    → (terms project : List Term) (db : Trees) (params : Row) (shown : List Term)
    (test : Row → Row → Bool) (columns : Row → Row)
    → ((s r : Row) → list_all (holds (params ∷ s ∷ r ∷ [])) terms ≡ test s r)
    → ((s r : Row) → eval_all project (params ∷ s ∷ r ∷ []) ≡ columns r)
    → ((r : Row) → eval_all shown (params ∷ (Null ∷ columns r) ∷ []) ≡ columns r)
    → IsPart db params shown (part_both first second terms project)
    (IsOf (passes test (db first)) columns (db second))
both_part first second is_low also_low terms project db params shown test columns tests shows cuts
    tables rows a =
    shown_answered (λ r. eval_all shown (params ∷ r ∷ [])) columns (passes test (db first))
    (db second) rows cuts
    (subst (λ l. AreAnswered (passes test l) (λ r. Null ∷ columns r) (db second) rows)
    (low first is_low db tables)
    (subst (λ l. AreAnswered (passes test (overlay db tables first)) (λ r. Null ∷ columns r) l rows)
    (low second also_low db tables)
    (both_answered first second terms project params test (λ r. Null ∷ columns r) tests
    (λ s r. ap (λ v. Null ∷ v) (shows s r)) (overlay db tables) rows a)))

-- one that no recursion computes
abbrev is_plain : Let → Bool
is_plain (selected q) = true
is_plain (combined op left right width by) = true
is_plain (recursive first step once width by most) = false

-- the tables that were computed one after another
computed : (db : Trees) (params : Row) (done : List (List Row)) (lets : List Let)
    (P : List (List Row) → Type 0) → list_all is_plain lets ≡ true → Computes db params done lets P
    → (tables : List (List Row)) × AreLets db params done lets tables × P tables
computed db params done [] P e h = (done, refl, h)
computed db params done (selected q ∷ lets) P e (inl (rows, is, more)) =
    let it = computed db params (done ++ rows ∷ []) lets P e more in
    (it.0, (rows, is, it.1), it.2)
computed db params done (selected q ∷ lets) P e (inr (rows, none, more)) = absurd none
computed db params done (combined op left right width by ∷ lets) P e (inl (rows, is, more)) =
    let it = computed db params (done ++ rows ∷ []) lets P e more in
    (it.0, (rows, is, it.1), it.2)
computed db params done (combined op left right width by ∷ lets) P e (inr (rows, none, more)) =
    absurd none
computed db params done (recursive first step once width by most ∷ lets) P e h = absurd (cc)

-- ---- parts one after another, in an order

module _ (width : ℕ) (by : List Collation) (shown : List Term) (order : List (Term × Key)) where
  -- the table of this place
  abbrev in_order : ℕ → Query
  in_order at = select_from (2 ^ 31 + at) [] shown order

  abbrev pub two_parts : Query → Query → Program
  two_parts p q = record {
    lets = Selected p ∷ Selected q ∷ Combined UnionAll 0 1 width by ∷ [];
    body = in_order 2;
  }

  abbrev pub three_parts : Query → Query → Query → Program
  three_parts p q r = record {
    lets =
        Selected p ∷ Selected q ∷ Combined UnionAll 0 1 width by ∷ Selected r
        ∷ Combined UnionAll 2 3 width by ∷ [];
    body = in_order 4;
  }

  abbrev pub four_parts : Query → Query → Query → Query → Program
  four_parts p q r s = record {
    lets =
        Selected p ∷ Selected q ∷ Combined UnionAll 0 1 width by ∷ Selected r
        ∷ Combined UnionAll 2 3 width by ∷ Selected s ∷ Combined UnionAll 4 5 width by ∷ [];
    body = in_order 6;
  }

module _ (db : Trees) (params : Row) (width : ℕ) (by : List Collation) (shown : List Term)
    (order : List (Term × Key)) where
  abbrev cut : Row → Row
  cut r = eval_all shown (params ∷ r ∷ [])

  abbrev body_at : ℕ → Query
  body_at at = in_order width by shown order at

  abbrev of_two : Query → Query → Program
  of_two = two_parts width by shown order

  abbrev of_three : Query → Query → Query → Program
  of_three = three_parts width by shown order

  abbrev of_four : Query → Query → Query → Query → Program
  of_four = four_parts width by shown order

  -- what is shown of the last table
  last : (at : ℕ) (tables : List (List Row)) (all rows : List Row) (P : Row → Type 0)
      → overlay db tables (2 ^ 31 + at) ≡ all → AreShown cut P all
      → IsSureAnswer (body_at at) (overlay db tables) params rows → AreThose P rows
  last at tables all rows P is said sure =
      shown_those cut P all rows said
      (subst (λ l. Selects (λ r. true) cut l rows) is
      (answered (2 ^ 31 + at) [] shown order [] params (λ r. true) cut (λ r. refl) (λ r. refl)
      (overlay db tables) rows (sure Null)))

  pub two_said : (p q : Query) (P Q : Row → Type 0) → IsPart db params shown p P
      → IsPart db params shown q Q → (rows : List Row)
      → IsProgramAnswer (lets_of (of_two p q)) (of_two p q).body db params rows
      → AreThose (λ v. P v ⊎ Q v) rows
  two_said p q P Q is_p is_q rows h = go (computed db params [] (lets_of (of_two p q))
      (λ tables. IsSureAnswer (body_at 2) (overlay db tables) params rows) refl h)
    where
      go : (tables : List (List Row)) × AreLets db params [] (lets_of (of_two p q)) tables
          × IsSureAnswer (body_at 2) (overlay db tables) params rows
          → AreThose (λ v. P v ⊎ Q v) rows
      go (tables, (a, is_a, (b, is_b, (ab, both, is))), sure) =
          last 2 (a ∷ b ∷ ab ∷ []) ab rows (λ v. P v ⊎ Q v) refl
          (shown_both cut P Q a b ab (is_p [] a (is_a Null)) (is_q (a ∷ []) b (is_b Null)) both)
          (subst (λ l. IsSureAnswer (body_at 2) (overlay db l) params rows) is sure)

  -- rule: statements-of-tables.open-rows
  pub three_said : (p q r : Query) (P Q R : Row → Type 0) → IsPart db params shown p P
      → IsPart db params shown q Q → IsPart db params shown r R → (rows : List Row)
      → IsProgramAnswer (lets_of (of_three p q r)) (of_three p q r).body db params rows
      → AreThose (λ v. P v ⊎ (Q v ⊎ R v)) rows
  three_said p q r P Q R is_p is_q is_r rows h =
      those_as (λ v. (P v ⊎ Q v) ⊎ R v) (λ v. P v ⊎ (Q v ⊎ R v))
      (λ v. turned (P v) (Q v) (R v)) (λ v. turned_back (P v) (Q v) (R v)) rows
      (go (computed db params [] (lets_of (of_three p q r))
      (λ tables. IsSureAnswer (body_at 4) (overlay db tables) params rows) refl h))
    where
      go : (tables : List (List Row)) × AreLets db params [] (lets_of (of_three p q r)) tables
          × IsSureAnswer (body_at 4) (overlay db tables) params rows
          → AreThose (λ v. (P v ⊎ Q v) ⊎ R v) rows
      go (tables, (a, is_a, (b, is_b, (ab, first, (c, is_c, (abc, second, is))))), sure) =
          last 4 (a ∷ b ∷ ab ∷ c ∷ abc ∷ []) abc rows (λ v. (P v ⊎ Q v) ⊎ R v) refl
          (shown_both cut (λ v. P v ⊎ Q v) R ab c abc
          (shown_both cut P Q a b ab (is_p [] a (is_a Null)) (is_q (a ∷ []) b (is_b Null)) first)
          (is_r (a ∷ b ∷ ab ∷ []) c (is_c Null)) second)
          (subst (λ l. IsSureAnswer (body_at 4) (overlay db l) params rows) is sure)

  pub four_said : (p q r s : Query) (P Q R S : Row → Type 0) → IsPart db params shown p P
      → IsPart db params shown q Q → IsPart db params shown r R → IsPart db params shown s S
      → (rows : List Row)
      → IsProgramAnswer (lets_of (of_four p q r s)) (of_four p q r s).body db params rows
      → AreThose (λ v. P v ⊎ (Q v ⊎ (R v ⊎ S v))) rows
  four_said p q r s P Q R S is_p is_q is_r is_s rows h =
      those_as (λ v. ((P v ⊎ Q v) ⊎ R v) ⊎ S v) (λ v. P v ⊎ (Q v ⊎ (R v ⊎ S v)))
      (λ v one. turned (P v) (Q v) (R v ⊎ S v) (turned (P v ⊎ Q v) (R v) (S v) one))
      (λ v one. turned_back (P v ⊎ Q v) (R v) (S v)
      (turned_back (P v) (Q v) (R v ⊎ S v) one)) rows
      (go (computed db params [] (lets_of (of_four p q r s))
      (λ tables. IsSureAnswer (body_at 6) (overlay db tables) params rows) refl h))
    where
      go : (tables : List (List Row)) × AreLets db params [] (lets_of (of_four p q r s)) tables
          × IsSureAnswer (body_at 6) (overlay db tables) params rows
          → AreThose (λ v. ((P v ⊎ Q v) ⊎ R v) ⊎ S v) rows
      go (
        tables,
        (
          a,
          is_a,
          (
            b,
            is_b,
            (
              ab,
              first,
              (
                c,
                is_c,
                (
                  abc,
                  second,
                  (
                    d,
                    is_d,
                    (abcd, third, is),
                  ),
                ),
              ),
            ),
          ),
        ),
        sure,
      ) =
          last 6 (a ∷ b ∷ ab ∷ c ∷ abc ∷ d ∷ abcd ∷ []) abcd rows
          (λ v. ((P v ⊎ Q v) ⊎ R v) ⊎ S v) refl
          (shown_both cut (λ v. (P v ⊎ Q v) ⊎ R v) S abc d abcd
          (shown_both cut (λ v. P v ⊎ Q v) R ab c abc
          (shown_both cut P Q a b ab (is_p [] a (is_a Null)) (is_q (a ∷ []) b (is_b Null)) first)
          (is_r (a ∷ b ∷ ab ∷ []) c (is_c Null)) second)
          (is_s (a ∷ b ∷ ab ∷ c ∷ abc ∷ []) d (is_d Null)) third)
          (subst (λ l. IsSureAnswer (body_at 6) (overlay db l) params rows) is sure)
