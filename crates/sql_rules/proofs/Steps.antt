-- One more table whose rows are in their rules.
use Rattle.std.proofs.Common.{◌≡◌, ◌<◌, ℕ, zero, suc, ◌+◌, List, [], map, length, sym, ap, subst}
use Rattle.std.proofs.Common.{◌∙◌, ◌&&◌, true, refl, arith, Ok, Err, Result, inl}
use Rattle.shelves.specs.Shelves.{Shelf}
use Rattle.sqlite_value.specs.Order.{Row, column}
use Rattle.sqlite_trees.specs.Tree.{Trees}
use Rattle.sqlite_trees.specs.declared.store.Store.{Ghosts}
use Rattle.sqlite.specs.Effect.{Database}
use Rattle.sqlite.specs.Held.{Held, state}
use Rattle.sqlite.specs.State.{State, HasCleanDisk, IsUnchanged, Shown, Survives}
use Rattle.sqlite.proofs.Callers.{unchanged_then}
use Rattle.sqlite.proofs.StateLemmas.{survives_then}
use Rattle.sql_tables.specs.Schema.{schema_at}
use Rattle.sql_tables.proofs.Keeps.{spares_then}
use Rattle.sql_tables.specs.declared.fault.OpenFault.{OpenFault}
use Rattle.sql_rules.specs.Rules.{passes_at}
use Rattle.sql_rules.specs.Tables.{table_at, places_at, places_from, IsTable, IsRuledAt}
use Rattle.sql_rules.specs.Tables.{AreEachRuled, AreRuled, AreRuledBy, AreRuledTo, Tells, last_kept}
use Rattle.sql_rules.specs.Walks.{Pass}
use Rattle.sql_rules.proofs.Lookups.{untimed}
use Rattle.sql_rules.proofs.Standing.{rows_pass, rows_stand}

-- a test sees in a row as it is selected what it sees in the row that is stored
same_rule : (shelf : Shelf) (last : ℕ) (at : ℕ) (r : Row)
    → passes_at shelf last at (map (column r) (places_at at)) ≡ passes_at shelf last at r
same_rule shelf last zero r = refl
same_rule shelf last (suc zero) r = refl
same_rule shelf last (suc (suc zero)) r = refl
same_rule shelf last (suc (suc (suc zero))) r = refl
same_rule shelf last (suc (suc (suc (suc zero)))) r = refl
same_rule shelf last (suc (suc (suc (suc (suc zero))))) r = refl
same_rule shelf last (suc (suc (suc (suc (suc (suc zero)))))) r = refl
same_rule shelf last (suc (suc (suc (suc (suc (suc (suc zero))))))) r = refl
same_rule shelf last (suc (suc (suc (suc (suc (suc (suc (suc zero)))))))) r = refl
same_rule shelf last (suc (suc (suc (suc (suc (suc (suc (suc (suc zero))))))))) r = refl
same_rule shelf last (suc (suc (suc (suc (suc (suc (suc (suc (suc (suc zero)))))))))) r = refl
same_rule shelf last (suc (suc (suc (suc (suc (suc (suc (suc (suc (suc (suc zero))))))))))) r = refl
same_rule shelf last (suc (suc (suc (suc (suc (suc (suc (suc (suc (suc (suc (suc zero)))))))))))) r =
    refl
same_rule shelf last (suc (suc (suc (suc (suc (suc (suc (suc (suc (suc (suc (suc (suc zero))))))))))))) r
    = refl
same_rule shelf last
    (suc (suc (suc (suc (suc (suc (suc (suc (suc (suc (suc (suc (suc (suc n)))))))))))))) r =
    let high : 9 < (suc (suc (suc (suc (suc (suc (suc (suc (suc (suc (suc (suc (suc (suc n)))))))))))))) = omega arith in
    ap (λ b. true && b)
    (untimed last (suc (suc (suc (suc (suc (suc (suc (suc (suc (suc (suc (suc (suc (suc n))))))))))))))
    (map (column r) (places_at (suc (suc (suc (suc (suc (suc (suc (suc (suc (suc (suc (suc (suc (suc n)))))))))))))))) high
    ∙ sym (untimed last _ r high))

-- ---- one table

module _ {S : Type 0} (g : Ghosts S) (shelf : Shelf) (last : ℕ) (v at : ℕ) (text : List ℕ)
    (is : IsTable v text at) (old was : Held S) (new : State) (rows : List Row)
    (then' : IsUnchanged (state g old) (state g was))
    (shown : Shown text [] (state g was) new rows)
    (so : (state g old).now.schema ≡ schema_at v) where
  stays : (state g was).now ≡ (state g old).now
  stays = then'.0.now_is

  has : (state g was).now.schema ≡ schema_at v
  has = ap (λ (d : Database). d.schema) stays ∙ so

  pub table_stands : Pass (passes_at shelf last at) rows → IsRuledAt shelf last at (state g old).now.trees
  table_stands pass =
      let all = rows_stand (table_at at).tree (places_from 1 (length (table_at at).columns)) v text
      is (passes_at shelf last at) (same_rule shelf last at) (state g was) new rows has shown pass in
      subst (λ (d : Database). IsRuledAt shelf last at d.trees) stays
      (record { stored = all.0; rows = all.1 })

  pub table_passes : IsRuledAt shelf last at (state g old).now.trees → Pass (passes_at shelf last at) rows
  table_passes so' =
      let here = subst (λ (d : Database). IsRuledAt shelf last at d.trees) (sym stays) so' in
      rows_pass (table_at at).tree (places_from 1 (length (table_at at).columns)) v text is
      (passes_at shelf last at) (same_rule shelf last at) (state g was) new rows has shown here.stored here.rows

-- ---- several tables in turn

to_next : (P : ℕ → Type 0) (k : ℕ) → ((i : ℕ) → i < k → P i) → P k → (i : ℕ) → i < k + 1 → P i
to_next P zero so one zero low = one
to_next P zero so one (suc i) low = absurd (omega (arith, low))
to_next P (suc k) so one zero low = so 0 (omega arith)
to_next P (suc k) so one (suc i) low =
    to_next (λ j. P (suc j)) k (λ j l. so (suc j) (omega (arith, l))) one i (omega (arith, low))

-- so far
abbrev pub FoundTo : Shelf → ℕ → ℕ → State → State → Type 0
FoundTo shelf last k old now = Survives old now (λ _. ⊥)
    × (HasCleanDisk now → IsUnchanged old now × AreRuledTo shelf last k now.now.trees)

pub found_first : {A : Type 0} (shelf : Shelf) (last : ℕ) (a b : State) (u : A)
    → Tells (IsRuledAt shelf last 0) a b (Ok u) → FoundTo shelf last 1 a b
found_first shelf last a b u f = (
  f.survives,
  λ clean.
      let here = f.found clean in (
        here.0,
        to_next (λ i. IsRuledAt shelf last i b.now.trees) 0 (λ i low. absurd (omega (arith, low)))
            here.1,
      ),
)

pub found_next : {A : Type 0} (shelf : Shelf) (last : ℕ) (k : ℕ) (a b c : State) (u : A)
    → FoundTo shelf last k a b → Tells (IsRuledAt shelf last k) b c (Ok u) → FoundTo shelf last (k + 1) a c
found_next shelf last k a b c u so f = (
  survives_then a b c (λ _. ⊥) (λ _. ⊥) (λ _. ⊥) (λ clean db none. none) (λ clean db none. none)
      so.0 f.survives,
  λ clean.
      let here = so.1 (omega (arith, f.survives.clean, clean)) in
      let more = f.found clean in
      let before : AreRuledTo shelf last k c.now.trees =
      subst (λ (d : Database). AreRuledTo shelf last k d.trees) (sym more.0.0.now_is) here.1 in (
        unchanged_then a b c here.0 more.0,
        to_next (λ i. IsRuledAt shelf last i c.now.trees) k before more.1,
      ),
)

pub found_not : {A B : Type 0} (shelf : Shelf) (last : ℕ) (v k : ℕ) (a b c : State) (e : OpenFault)
    (r : Result B OpenFault) → r ≡ Err e → (HasCleanDisk a → k < length (schema_at v).tables)
    → FoundTo shelf last k a b → Tells {A = A} (IsRuledAt shelf last k) b c (Err e)
    → Tells (AreEachRuled shelf last v) a c r
found_not shelf last v k a b c e r is low so f = subst (Tells (AreEachRuled shelf last v) a c) (sym is) (record {
  found = λ clean. tt;
  means = λ clean rules all.
      let here = so.1 (omega (arith, f.survives.clean, clean)) in
      let under = low (omega (arith, so.0.clean, f.survives.clean, clean)) in
      f.means clean rules
      (subst (λ (d : Database). IsRuledAt shelf last k d.trees) (sym here.0.0.now_is) (all k under));
  told = f.told;
  spares = λ clean. spares_then a b c (so.1 (omega (arith, f.survives.clean, clean))).0
      (f.spares clean);
  survives = survives_then a b c (λ _. ⊥) (λ _. ⊥) (λ _. ⊥) (λ clean db none. none)
      (λ clean db none. none) so.0 f.survives;
})

pub none_found_not : {A B : Type 0} (shelf : Shelf) (last : ℕ) (v : ℕ) (a c : State) (e : OpenFault)
    (r : Result B OpenFault) → r ≡ Err e → 0 < length (schema_at v).tables
    → Tells {A = A} (IsRuledAt shelf last 0) a c (Err e) → Tells (AreEachRuled shelf last v) a c r
none_found_not shelf last v a c e r is low f = subst (Tells (AreEachRuled shelf last v) a c) (sym is) (record {
  found = λ clean. tt;
  means = λ clean rules all. f.means clean rules (all 0 low);
  told = f.told;
  spares = f.spares;
  survives = f.survives;
})

pub found_all : {A : Type 0} (shelf : Shelf) (last : ℕ) (v k : ℕ) (a b : State) (u : A)
    → (HasCleanDisk a → k ≡ length (schema_at v).tables) → FoundTo shelf last k a b
    → Tells (AreEachRuled shelf last v) a b (Ok u)
found_all shelf last v k a b u end so = record {
  found = λ clean.
      let here = so.1 clean in
      let all = end (omega (arith, so.0.clean, clean)) in
      (here.0, subst (λ n. AreRuledTo shelf last n b.now.trees) all here.1);
  means = λ clean. tt;
  told = tt;
  spares = λ clean. inl (so.1 clean).0;
  survives = so.0;
}

-- the schema stays that of the version
pub still_ours : (shelf : Shelf) (last : ℕ) (v k : ℕ) (a b : State) → FoundTo shelf last k a b
    → (HasCleanDisk a → a.now.schema ≡ schema_at v) → HasCleanDisk b → b.now.schema ≡ schema_at v
still_ours shelf last v k a b so ours clean =
    ap (λ (d : Database). d.schema) (so.1 clean).0.0.now_is
    ∙ ours (omega (arith, so.0.clean, clean))

-- ---- one test after another

-- after one that answered
pub tells_then : {A B : Type 0} (P Q W : Trees → Type 0) → ((t : Trees) → P t → Q t → W t)
    → ((t : Trees) → W t → Q t) → (a b c : State) (u : A) (r : Result B OpenFault)
    → Tells P a b (Ok u) → Tells Q b c r → Tells W a c r
tells_then P Q W make part a b c u (Ok w) f h = record {
  found = λ clean.
      let one = f.found (omega (arith, h.survives.clean, clean)) in
      let two = h.found clean in (
        unchanged_then a b c one.0 two.0,
        make c.now.trees (subst (λ (d : Database). P d.trees) (sym two.0.0.now_is) one.1) two.1,
      );
  means = λ clean. tt;
  told = tt;
  spares = λ clean. spares_then a b c (f.found (omega (arith, h.survives.clean, clean))).0
      (h.spares clean);
  survives = survives_then a b c (λ _. ⊥) (λ _. ⊥) (λ _. ⊥) (λ clean db none. none)
      (λ clean db none. none) f.survives h.survives;
}
tells_then P Q W make part a b c u (Err e) f h = record {
  found = λ clean. tt;
  means = λ clean rules all.
      let one = f.found (omega (arith, h.survives.clean, clean)) in
      h.means clean rules
      (part b.now.trees (subst (λ (d : Database). W d.trees) (sym one.0.0.now_is) all));
  told = h.told;
  spares = λ clean. spares_then a b c (f.found (omega (arith, h.survives.clean, clean))).0
      (h.spares clean);
  survives = survives_then a b c (λ _. ⊥) (λ _. ⊥) (λ _. ⊥) (λ clean db none. none)
      (λ clean db none. none) f.survives h.survives;
}

-- and where the first reports a fault
pub tells_not : {A B : Type 0} (P W : Trees → Type 0) → ((t : Trees) → W t → P t)
    → (a b : State) (e : OpenFault) (r : Result B OpenFault) → r ≡ Err e
    → Tells {A = A} P a b (Err e) → Tells W a b r
tells_not P W part a b e r is f = subst (Tells W a b) (sym is) (record {
  found = λ clean. tt;
  means = λ clean rules all. f.means clean rules (part a.now.trees all);
  told = f.told;
  spares = f.spares;
  survives = f.survives;
})

-- what was found says more
pub tells_more : {A : Type 0} (P W : Trees → Type 0) → ((t : Trees) → P t → W t)
    → (a b : State) (u : A) → Tells P a b (Ok u) → Tells W a b (Ok u)
tells_more P W more a b u f = record {
  found = λ clean. let it = f.found clean in (it.0, more b.now.trees it.1);
  means = λ clean. tt;
  told = tt;
  spares = f.spares;
  survives = f.survives;
}

-- the schema stays after one that answered
pub ours_then : {A : Type 0} (P : Trees → Type 0) (v : ℕ) (a b : State) (u : A)
    → Tells P a b (Ok u) → (HasCleanDisk a → a.now.schema ≡ schema_at v) → HasCleanDisk b
    → b.now.schema ≡ schema_at v
ours_then P v a b u f ours clean =
    ap (λ (d : Database). d.schema) (f.found clean).0.0.now_is
    ∙ ours (omega (arith, f.survives.clean, clean))

-- where that is the last moment that is kept
-- rule: rows-ruled.timely
pub by_kept : {A : Type 0} (shelf : Shelf) (last v : ℕ) (a b : State) (r : Result A OpenFault)
    → (HasCleanDisk a → last ≡ last_kept a.now.trees) → Tells (AreRuledBy shelf last v) a b r
    → Tells (AreRuled shelf v) a b r
by_kept shelf last v a b (Ok u) is t = record {
  found = λ clean.
      let it = t.found clean in
      let was : HasCleanDisk a = omega (arith, t.survives.clean, clean) in
      let at : last ≡ last_kept b.now.trees =
      is was ∙ ap (λ (d : Database). last_kept d.trees) (sym it.0.0.now_is) in
      (it.0, subst (λ n. AreRuledBy shelf n v b.now.trees) at it.1);
  means = λ clean. tt;
  told = tt;
  spares = t.spares;
  survives = t.survives;
}
by_kept shelf last v a b (Err e) is t = record {
  found = λ clean. tt;
  means = λ clean rules all.
      let was : HasCleanDisk a = omega (arith, t.survives.clean, clean) in
      t.means clean rules (subst (λ n. AreRuledBy shelf n v a.now.trees) (sym (is was)) all);
  told = t.told;
  spares = t.spares;
  survives = t.survives;
}
