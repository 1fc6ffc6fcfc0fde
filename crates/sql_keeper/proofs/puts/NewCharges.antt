-- Charges of which nothing was there, put without a removal.
use Rattle.std.proofs.Common.{◌≡◌, ◌<◌, ◌≤◌, ◌+◌, ℕ, Bool, true, false, List, [], ◌∷◌, ◌++◌}
use Rattle.std.proofs.Common.{refl, sym, ap, ◌∙◌, arith, Option, Some, None, Ok, Err, Result, subst}
use Rattle.std.proofs.Common.{nat_eq, take, get_or, length}
use Rattle.std.specs.Prelude.{if◌then◌else◌, ◌==◌, is_some}
use Rattle.std.specs.Borrow.{MutBor}
use Rattle.std.proofs.lemmas.Bool.{not-true}
use Rattle.std.proofs.lemmas.List.{take_more, take_all}
use Rattle.std.proofs.lemmas.Result.{on_ok_weaker}
use Rattle.sqlite.specs.Held.{Held, state}
use Rattle.sqlite.specs.State.{State, HasCleanDisk, Survives}
use Rattle.sqlite_trees.specs.declared.store.Store.{Ghosts}
use Rattle.sql_tables.specs.Statements.{Attempts, AttemptsOver}
use Rattle.sql_tables.proofs.Keeps.{on_ok}
use Rattle.identifiers.specs.Texts.{same_name}
use Rattle.ledger.specs.declared.charge.ChargeRow.{ChargeRow}
use Rattle.reserving.proofs.KeysFound.{is_none_is}
use Rattle.reserving.proofs.LeftTests.{each_append}
use Rattle.reserving.proofs.Lists.{no_some}
use Rattle.sql_rows.specs.Content.{TablesContent, TableRows, tables_content, has_charge}
use Rattle.sql_rows.specs.Content.{with_charge_row, with_covered}
use Rattle.sql_rows.specs.Content.{with_rows, without_covered}
use Rattle.sql_rows.specs.Lists.{AreCoveredBeside}
use Rattle.sql_rows.specs.Makes.{AddsIfNone, Makes, MakesIfOpen}
use Rattle.sql_rows.specs.Values.{plain_charge}
use Rattle.sql_keeper.specs.Numbers.{LacksCharge, LacksCharges, WasSo}
use Rattle.sql_keeper.specs.Writes.{some_blocks, with_all_charged, with_all_paid, with_blocks}
use Rattle.sql_keeper.specs.Writes.{with_charged, with_new_blocks, with_paid}
use Rattle.sql_keeper.proofs.puts.Overlays.{name_from, number_from}
use Rattle.sql_keeper.proofs.puts.Puts.{makes_all_then}

-- ---- how one is put

made_same : (f g : TablesContent → TablesContent) (old new : State)
    → f (tables_content old.now.trees) ≡ g (tables_content old.now.trees) → Makes f old new
    → Makes g old new
made_same f g old new same m = record {
  turns = record {
    content = m.turns.content ∙ same;
    catalog = m.turns.catalog;
    stored = m.turns.stored;
    plain = m.turns.plain;
  };
  book = m.book;
  shows = m.shows;
}

module _ (a : List ℕ) (x : ChargeRow) where
  abbrev stands : TablesContent → Bool
  stands c = has_charge a x.number c

  abbrev charge : TablesContent → TablesContent
  charge c = with_rows a (with_charge_row (plain_charge x)) c

  abbrev blocks : TablesContent → TablesContent
  blocks c = with_new_blocks a x.number (some_blocks x.covered.0) c

  new_is : (c : TablesContent) → stands c ≡ false
      → blocks (if stands c then c else charge c) ≡ with_charged a x c
  new_is c e =
      ap (λ t. blocks (if t then c else charge c)) e
      ∙ sym (ap (λ t. if t then with_paid a x c else blocks (charge c)) e)

  module _ {B E S : Type 0} {g : Ghosts S} {p q r : MutBor (Held S)} {added : Bool}
      {z : Result B E} (adds : AddsIfNone {E = E} stands charge (state g p.now) (state g q.now)
      (Ok added)) where
    charged_blocks : q.ghost_name ≡ p.ghost_name → added ≡ true
        → AttemptsOver {A = B} {E = E} g (MakesIfOpen blocks) q r z
        → AttemptsOver {A = B} {E = E} g (Makes (with_charged a x)) p r z
    charged_blocks same new two =
        let one : AttemptsOver {A = Bool} {E = E} g (Makes (λ c. if stands c then c else charge c))
        p q (Ok added) = record { same_reference = same; makes = adds.makes } in
        let both = makes_all_then one two in
        record {
          same_reference = both.same_reference;
          makes = record {
            done = λ clean. on_ok_weaker z
                (made_same (λ c. blocks (if stands c then c else charge c)) (with_charged a x)
                (state g p.now) (state g r.now)
                (new_is (tables_content (state g p.now).now.trees) (not-true _
                (sym (adds.told (omega (arith, two.makes.survives.clean, clean))) ∙ new))))
                (both.makes.done clean);
            kept = both.makes.kept;
            survives = both.makes.survives;
          };
        }

    pub charged_new : q.ghost_name ≡ p.ghost_name → (n : ℕ) (o : Option ℕ) → n ≡ x.number
        → o ≡ some_blocks x.covered.0 → added ≡ true
        → AttemptsOver {A = B} {E = E} g (MakesIfOpen (with_new_blocks a n o)) q r z
        → AttemptsOver {A = B} {E = E} g (Makes (with_charged a x)) p r z
    charged_new same n o number some new two =
        charged_blocks same new (subst (λ (f : TablesContent → TablesContent).
        AttemptsOver {A = B} {E = E} g (MakesIfOpen f) q r z)
        (λ i. with_new_blocks a (number i) (some i)) two)

  -- there was no charge of its number
  -- rule: database-writes.numbers-free
  pub charged_free : {B E : Type 0} (p q r : State) (added : Bool) (z : Result B E)
      → AddsIfNone {E = E} stands charge p q (Ok added) → added ≡ true → Survives q r (λ _. ⊥)
      → WasSo {A = B} {E = E} (λ trees. LacksCharge a (tables_content trees) x) p r z
  charged_free p q r added z adds new stops = λ clean. on_ok z (is_none_is _ (not-true _
      (sym (adds.told (omega (arith, stops.clean, clean))) ∙ new)))

-- where there is one, nothing more is put
pub not_charged : {A B E : Type 0} (f g : TablesContent → TablesContent) (p q : State) (u : A)
    (e : E) → Attempts {A = A} {E = E} (Makes f) p q (Ok u)
    → Attempts {A = B} {E = E} (Makes g) p q (Err e)
not_charged f g p q u e one = record {
  done = λ clean. tt;
  kept = λ clean.
      let m = one.done clean in
      record { was_open = λ on. m.shows.was_open; committed = λ on. m.shows.committed_is };
  survives = one.survives;
}

-- ---- all of them, over rows where covered blocks are beside a charge

-- of an account
abbrev AreBeside : List ℕ → TablesContent → Type 0
AreBeside a c = AreCoveredBeside (c.rows a)

module _ (a : List ℕ) (x : ChargeRow) (c : TablesContent) (beside : AreBeside a c) where
  -- nothing is removed where nothing was
  none_covered : (c.rows a).charges x.number ≡ None → (m : ℕ)
      → (c.rows a).covered m ≡ (if nat_eq x.number m then None else (c.rows a).covered m)
  none_covered none m = go (nat_eq x.number m) refl
    where
      go : (t : Bool) → nat_eq x.number m ≡ t
          → (c.rows a).covered m ≡ (if t then None else (c.rows a).covered m)
      go true e = beside m (ap (λ n. (c.rows a).charges n) (sym (number_from x.number m e)) ∙ none)
      go false e = refl

  uncovered_same : (c.rows a).charges x.number ≡ None → charge a x c
      ≡ with_rows a (without_covered x.number) (charge a x c)
  uncovered_same none = λ i. record (charge a x c) {
    rows = λ y. at y (same_name a y) refl i;
  }
    where
      at : (y : List ℕ) (t : Bool) → same_name a y ≡ t
          → (if t then with_charge_row (plain_charge x) (c.rows y) else c.rows y)
          ≡ (if t then without_covered x.number
          (if t then with_charge_row (plain_charge x) (c.rows y) else c.rows y)
          else (if t then with_charge_row (plain_charge x) (c.rows y) else c.rows y))
      at y true e =
          subst (λ z. with_charge_row (plain_charge x) (c.rows z)
          ≡ without_covered x.number (with_charge_row (plain_charge x) (c.rows z)))
          (name_from a y e)
          (λ i. record (with_charge_row (plain_charge x) (c.rows a)) {
            covered = λ m. none_covered none m i;
          })
      at y false e = refl

  blocks_same : (c.rows a).charges x.number ≡ None → (t : Bool) → (x.covered.0 == 0) ≡ t
      → with_new_blocks a x.number (if t then None else Some x.covered.0) (charge a x c)
      ≡ with_rows a (λ r. if t then without_covered x.number r
      else with_covered (record { number = x.number; blocks = x.covered.0 }) r) (charge a x c)
  blocks_same none true e = uncovered_same none
  blocks_same none false e = refl

  pub charged_is : with_charged a x c ≡ with_paid a x c
  charged_is = go ((c.rows a).charges x.number) refl
    where
      go : (o : Option ChargeRow) → (c.rows a).charges x.number ≡ o
          → (if is_some o then with_paid a x c else blocks a x (charge a x c)) ≡ with_paid a x c
      go None e = blocks_same e (x.covered.0 == 0) refl
      go (Some y) e = refl

  -- and so it is after it
  still_beside : AreBeside a (with_paid a x c)
  still_beside = at (same_name a a) refl
    where
      row : TableRows → TableRows
      row r = with_blocks x.number x.covered.0 (with_charge_row (plain_charge x) r)

      in_row : AreCoveredBeside (row (c.rows a))
      in_row m none = go (x.covered.0 == 0) none
        where
          old : TableRows
          old = with_charge_row (plain_charge x) (c.rows a)

          left : (t : Bool) → nat_eq x.number m ≡ t → old.charges m ≡ None
              → (nat_eq x.number m ≡ false) × ((c.rows a).charges m ≡ None)
          left true e gone = absurd (no_some (plain_charge x) (sym gone
              ∙ ap (λ t. if t then Some (plain_charge x) else (c.rows a).charges m) e))
          left false e gone = (
            e,
            sym (ap (λ t. if t then Some (plain_charge x) else (c.rows a).charges m) e)
                ∙ gone,
          )

          go : (u : Bool) → (if u then without_covered x.number old
              else with_covered (record { number = x.number; blocks = x.covered.0 }) old).charges m
              ≡ None → (if u then without_covered x.number old
              else with_covered (record { number = x.number; blocks = x.covered.0 }) old).covered m
              ≡ None
          go true gone =
              let l = left (nat_eq x.number m) refl gone in
              ap (λ t. if t then None else (c.rows a).covered m) l.0 ∙ beside m l.1
          go false gone =
              let l = left (nat_eq x.number m) refl gone in
              ap (λ t. if t then Some x.covered.0 else (c.rows a).covered m) l.0 ∙ beside m l.1

      at : (t : Bool) → same_name a a ≡ t
          → AreCoveredBeside (if t then with_blocks x.number x.covered.0
          (if t then with_charge_row (plain_charge x) (c.rows a) else c.rows a)
          else (if t then with_charge_row (plain_charge x) (c.rows a) else c.rows a))
      at true e = in_row
      at false e = beside

pub all_charged_are : (a : List ℕ) (xs : List ChargeRow) (c : TablesContent) → AreBeside a c
    → with_all_charged a xs c ≡ with_all_paid a xs c
all_charged_are a [] c beside = refl
all_charged_are a (x ∷ xs) c beside =
    ap (λ (d : TablesContent). with_all_charged a xs d) (charged_is a x c beside)
    ∙ all_charged_are a xs (with_paid a x c) (still_beside a x c beside)

-- ---- none of their numbers was taken

module _ (a : List ℕ) (x : ChargeRow) (c : TablesContent) (n : ℕ) where
  abbrev Lacks : TablesContent → Type 0
  Lacks d = (d.rows a).charges n ≡ None

  -- a number that none has once a charge is put, none had before
  under : (t : Bool) → (if t then Some (plain_charge x) else (c.rows a).charges n) ≡ None
      → (c.rows a).charges n ≡ None
  under true e = absurd (no_some (plain_charge x) (sym e))
  under false e = e

  with_charge : (t : Bool) → (if t then with_charge_row (plain_charge x) (c.rows a)
      else c.rows a).charges n ≡ None → (c.rows a).charges n ≡ None
  with_charge true e = under (nat_eq x.number n) e
  with_charge false e = e

  paid : (t u : Bool) → (if t then (if u then without_covered x.number
      (if t then with_charge_row (plain_charge x) (c.rows a) else c.rows a)
      else with_covered (record { number = x.number; blocks = x.covered.0 })
      (if t then with_charge_row (plain_charge x) (c.rows a) else c.rows a))
      else (if t then with_charge_row (plain_charge x) (c.rows a) else c.rows a)).charges n ≡ None
      → (c.rows a).charges n ≡ None
  paid true true e = with_charge true e
  paid true false e = with_charge true e
  paid false u e = e

  added : (u : Bool) → Lacks (with_new_blocks a x.number (if u then None else Some x.covered.0)
      (charge a x c)) → Lacks c
  added true e = with_charge (same_name a a) e
  added false e = at (same_name a a) e
    where
      at : (t : Bool) → (if t then with_covered (record { number = x.number; blocks = x.covered.0 })
          (if t then with_charge_row (plain_charge x) (c.rows a) else c.rows a)
          else (if t then with_charge_row (plain_charge x) (c.rows a) else c.rows a)).charges n
          ≡ None → (c.rows a).charges n ≡ None
      at true e = with_charge true e
      at false e = e

  lacked : Lacks (with_charged a x c) → Lacks c
  lacked = go (has_charge a x.number c)
    where
      go : (t : Bool) → Lacks (if t then with_paid a x c else blocks a x (charge a x c)) → Lacks c
      go true = paid (same_name a a) (x.covered.0 == 0)
      go false = added (x.covered.0 == 0)

-- what is known once some of them are put
pub record HaveLacked (a : List ℕ) (xs : List ChargeRow) (old now : State) : Type 0 where
  pub lacks : HasCleanDisk now → LacksCharges a (tables_content old.now.trees) xs
  pub back : HasCleanDisk now → (n : ℕ) → ((tables_content now.now.trees).rows a).charges n ≡ None
      → ((tables_content old.now.trees).rows a).charges n ≡ None

pub none_lacked : (a : List ℕ) (s : State) → HaveLacked a [] s s
none_lacked a s = record { lacks = λ clean. tt; back = λ clean n e. e }

-- rule: database-writes.numbers-free
pub next_lacked : {A E : Type 0} (a : List ℕ) (xs : List ChargeRow) (i : ℕ) (x : ChargeRow)
    (old mid now : State) (u : A) → i < length xs → x ≡ get_or xs i x
    → HaveLacked a (take i xs) old mid
    → Attempts {A = A} {E = E} (Makes (with_charged a x)) mid now (Ok u)
    → WasSo {A = A} {E = E} (λ trees. LacksCharge a (tables_content trees) x) mid now (Ok u)
    → HaveLacked a (take (i + 1) xs) old now
next_lacked {A} {E} a xs i x old mid now u less is before put free =
    subst (λ l. HaveLacked a l old now)
    (ap (λ z. take i xs ++ z ∷ []) is ∙ sym (take_more xs i x less))
    (record {
      lacks = λ clean.
          each_append (LacksCharge a (tables_content old.now.trees)) (take i xs) (x ∷ [])
          (before.lacks (was clean)) (before.back (was clean) x.number (free clean), tt);
      back = λ clean n e. before.back (was clean) n
          (lacked a x (tables_content mid.now.trees) n
          (subst (λ (d : TablesContent). (d.rows a).charges n ≡ None)
          (put.done clean).turns.content e));
    })
  where
    was : HasCleanDisk now → HasCleanDisk mid
    was clean = omega (arith, put.survives.clean, clean)

pub all_lacked : (a : List ℕ) (xs : List ChargeRow) (i : ℕ) (old now : State) → length xs ≤ i
    → HaveLacked a (take i xs) old now → HasCleanDisk now
    → LacksCharges a (tables_content old.now.trees) xs
all_lacked a xs i old now end h clean =
    subst (LacksCharges a (tables_content old.now.trees)) (take_all i xs end) (h.lacks clean)

-- ---- and so before what was put before them

-- rows that are made
pub lacked_then : {A B E : Type 0} (f : TablesContent → TablesContent) (a : List ℕ)
    (xs ys : List ChargeRow) (p q r : State) (u : A) (z : Result B E) → xs ≡ ys
    → Attempts {A = A} {E = E} (Makes f) p q (Ok u) → Survives q r (λ _. ⊥)
    → WasSo {A = B} {E = E} (λ trees. LacksCharges a (tables_content trees) xs) q r z
    → WasSo {A = B} {E = E} (λ trees. LacksCharges a (f (tables_content trees)) ys) p r z
lacked_then f a xs ys p q r u z same one stops free = λ clean.
    on_ok_weaker z (λ l. subst (LacksCharges a (f (tables_content p.now.trees))) same
    (subst (λ d. LacksCharges a d xs)
    (one.done (omega (arith, stops.clean, clean))).turns.content l)) (free clean)

-- what is made of a connection that was open
pub so_before : {A B E : Type 0} (f g : TablesContent → TablesContent) (P : TablesContent → Type 0)
    (p q r : State) (u : A) (v : B) → Attempts {A = A} {E = E} (MakesIfOpen f) p q (Ok u)
    → Attempts {A = B} {E = E} (Makes g) q r (Ok v)
    → WasSo {A = B} {E = E} (λ trees. P (tables_content trees)) q r (Ok v)
    → HasCleanDisk r → P (f (tables_content p.now.trees))
so_before f g P p q r u v one two so clean =
    let m = one.done (omega (arith, two.survives.clean, clean)) in
    subst P (m.made (m.was_open (two.done clean).shows.was_open)).turns.content (so clean)
