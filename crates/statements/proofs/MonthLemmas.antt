-- What is written by rows that are shown one after another is the text of the month's rows.
use Rattle.std.proofs.Common.{◌≡◌, ℕ, ◌+◌, ◌++◌, Bool, true, false, cond, List, [], ◌∷◌, take, drop}
use Rattle.std.proofs.Common.{Some, None, refl, sym, ap, ◌∙◌, subst, append-nil, append_assoc}
use Rattle.std.proofs.Common.{take-append-drop}
use Rattle.std.specs.Prelude.{Option, is_some, Result, Ok, Err, IsErr}
use Rattle.statements.specs.Charges.{SumsSome, WritesAll, WritesSome}
use Rattle.statements.specs.declared.fault.StatementFault.{StatementFault}
use Rattle.std.specs.List.{filter, fold}
use Rattle.std.specs.Io.KnownBytes.{Appends}
use Rattle.std.proofs.KnownBytes.{Appends-nil, Appends-trans}
use Rattle.std.proofs.lemmas.Bool.{false≢true}
use Rattle.tariffs.specs.Books.{Book}
use Rattle.ledger.specs.ChargeColumns.{ChargeColumns}
use Rattle.keepers.specs.Rows.{is_between, AreCharges}
use Rattle.keepers.specs.Visits.{Visits, GoesOn, IsShown, SeesCharges, SeesBeginning}
use Rattle.texts.specs.declared.streams.StreamFault.{StreamFault}
use Rattle.statements.specs.Months.{is_of_cycle, cycle_of_month}
use Rattle.statements.specs.Rows.{TakesRow, text_if, plus_if}
use Rattle.statements.specs.Texts.{charge_texts, plus_charge, sums_of, of_month, WritesBeginning}
use Rattle.statements.specs.declared.rows.Form.{Form}
use Rattle.statements.specs.declared.rows.Sums.{Sums}
use Rattle.statements.specs.declared.rows.MonthRows.{MonthRows}
use Rattle.statements.proofs.Beginnings.{begun_first, begun_second}

-- the sums with the rows, one after another
abbrev pub sums_from : Sums → List ChargeColumns → Sums
sums_from s [] = s
sums_from s (c ∷ rest) = sums_from (plus_charge s c) rest

-- what is written by the rows
pub record Wrote {W : Type 0} (contents : W → Option (List ℕ)) (book : Book) (cycle : ℕ)
    (form : Form) (rows : List ChargeColumns) (old new : MonthRows W) : Type 0 where
  pub writer : new.writer.ghost_name ≡ old.writer.ghost_name
  pub text : new.fault ≡ None → Appends (contents old.writer.now) (contents new.writer.now)
      (charge_texts form (filter (is_of_cycle book cycle) rows))
  pub sums : new.fault ≡ None →
      new.sums ≡ sums_from old.sums (filter (is_of_cycle book cycle) rows)
  pub begun : is_some new.fault ≡ true →
      WritesBeginning (contents old.writer.now) (contents new.writer.now)
      (charge_texts form (filter (is_of_cycle book cycle) rows))

-- a visitor that has met no fault, and writes these
pub record Begins {W : Type 0} (b : Book) (n : ℕ) (f : Form) (old : MonthRows W) : Type 0 where
  pub fault : old.fault ≡ None
  pub book : old.book.now ≡ b
  pub cycle : old.cycle ≡ n
  pub form : old.form ≡ f

text_split : (t : Bool) (form : Form) (c : ChargeColumns) (rest : List ChargeColumns) →
    charge_texts form (cond t (c ∷ rest) rest) ≡ text_if t form c ++ charge_texts form rest
text_split true form c rest = refl
text_split false form c rest = refl

sums_split : (t : Bool) (s : Sums) (c : ChargeColumns) (rest : List ChargeColumns) →
    sums_from s (cond t (c ∷ rest) rest) ≡ sums_from (plus_if t s c) rest
sums_split true s c rest = refl
sums_split false s c rest = refl

no_fault : {A : Type 0} (o : Option A) → o ≡ None → is_some o ≡ true → ⊥
no_fault o e k = false≢true (sym (ap is_some e) ∙ k)

-- sums are taken from the first row on
sums_folded : (s : Sums) (rows : List ChargeColumns) → sums_from s rows ≡ record {
  blocks = fold (λ a c. a + c.blocks.0) s.blocks rows;
  rated = fold (λ a c. a + c.rated.0) s.rated rows;
  collected = fold (λ a c. a + c.collected.0) s.collected rows;
  uncollected = fold (λ a c. a + c.uncollected.0) s.uncollected rows;
}
sums_folded s [] = refl
sums_folded s (c ∷ rest) = sums_folded (plus_charge s c) rest

pub sums_are : (rows : List ChargeColumns) → sums_from (sums_of []) rows ≡ sums_of rows
sums_are rows = sums_folded (sums_of []) rows

module _ {W : Type 0} (contents : W → Option (List ℕ)) (book : Book) (cycle : ℕ) (form : Form) where
  month_rows : List ChargeColumns → List ChargeColumns
  month_rows rows = filter (is_of_cycle book cycle) rows

  row_text : (old : MonthRows W) (c : ChargeColumns) → Begins book cycle form old →
      text_if (is_of_cycle old.book.now old.cycle c) old.form c
      ≡ text_if (is_of_cycle book cycle c) form c
  row_text old c h = λ i. text_if (is_of_cycle (h.book i) (h.cycle i) c) (h.form i) c

  row_sums : (old : MonthRows W) (c : ChargeColumns) → Begins book cycle form old →
      plus_if (is_of_cycle old.book.now old.cycle c) old.sums c
      ≡ plus_if (is_of_cycle book cycle c) old.sums c
  row_sums old c h = λ i. plus_if (is_of_cycle (h.book i) (h.cycle i) c) old.sums c

  begins_next : (old next : MonthRows W) (c : ChargeColumns) → TakesRow contents old c true next →
      Begins book cycle form old → Begins book cycle form next
  begins_next old next c t h = record {
    fault = t.fault refl ∙ h.fault;
    book = t.book ∙ h.book;
    cycle = t.cycle ∙ h.cycle;
    form = t.form ∙ h.form;
  }

  wrote_none : (old new : MonthRows W) → Begins book cycle form old → new ≡ old →
      Wrote contents book cycle form [] old new
  wrote_none old new h e = record {
    writer = ap (λ v. v.writer.ghost_name) e;
    text = λ n. subst
        (λ (v : MonthRows W). Appends (contents old.writer.now) (contents v.writer.now) [])
        (sym e) (Appends-nil (contents old.writer.now));
    sums = λ n. ap (λ v. v.sums) e;
    begun = λ k. absurd (no_fault new.fault (ap (λ v. v.fault) e ∙ h.fault) k);
  }

  wrote_more : (old next new : MonthRows W) (c : ChargeColumns) (rest : List ChargeColumns) →
      Begins book cycle form old → TakesRow contents old c true next →
      Wrote contents book cycle form rest next new →
      Wrote contents book cycle form (c ∷ rest) old new
  wrote_more old next new c rest h t w =
      let p = is_of_cycle book cycle c in
      let others = filter (is_of_cycle book cycle) rest in
      let first = subst (Appends (contents old.writer.now) (contents next.writer.now))
      (row_text old c h) (t.text refl) in
      let whole = text_split p form c others in
      record {
        writer = w.writer ∙ t.writer;
        text = λ n. subst (Appends (contents old.writer.now) (contents new.writer.now)) (sym whole)
            (Appends-trans (contents old.writer.now) (contents next.writer.now)
            (contents new.writer.now) (text_if p form c) (charge_texts form others) first
            (w.text n));
        sums = λ n. w.sums n
            ∙ ap (λ s. sums_from s others) (t.sums refl ∙ row_sums old c h)
            ∙ sym (sums_split p old.sums c others);
        begun = λ k. subst (WritesBeginning (contents old.writer.now) (contents new.writer.now))
            (sym whole) (begun_second (contents old.writer.now) (contents next.writer.now) (contents
            new.writer.now) (text_if p form c) (charge_texts form others) first (w.begun k));
      }

  wrote_stopped : (old next new : MonthRows W) (c : ChargeColumns) (rest : List ChargeColumns) →
      Begins book cycle form old → TakesRow contents old c false next → new ≡ next →
      Wrote contents book cycle form (c ∷ rest) old new
  wrote_stopped old next new c rest h t e =
      let p = is_of_cycle book cycle c in
      let others = filter (is_of_cycle book cycle) rest in
      let told : is_some new.fault ≡ true = ap (λ v. is_some v.fault) e ∙ t.told refl in
      let first = subst (WritesBeginning (contents old.writer.now) (contents next.writer.now))
      (row_text old c h) (t.begun refl) in
      let whole = text_split p form c others in
      record {
        writer = ap (λ v. v.writer.ghost_name) e ∙ t.writer;
        text = λ n. absurd (no_fault new.fault n told);
        sums = λ n. absurd (no_fault new.fault n told);
        begun = λ k. subst
            (λ (v : MonthRows W). WritesBeginning (contents old.writer.now) (contents v.writer.now)
            (charge_texts form (filter (is_of_cycle book cycle) (c ∷ rest))))
            (sym e)
            (subst (WritesBeginning (contents old.writer.now) (contents next.writer.now))
            (sym whole) (begun_first (charge_texts form others) first));
      }

  -- a visitor that is shown rows writes those of the month
  -- rule: statement, export, statement-month, statement-lines
  pub wrote : (rows : List ChargeColumns) (old new : MonthRows W) → Begins book cycle form old →
      Visits (TakesRow contents) rows old new → Wrote contents book cycle form rows old new
  wrote [] old new h v = wrote_none old new h v
  wrote (c ∷ rest) old new h v =
      at v.1 v.0 v.2 v.3 (λ next b w. wrote rest next new b w)
    where
      at : (goes : Bool) (next : MonthRows W) → TakesRow contents old c goes next →
          GoesOn goes (Visits (TakesRow contents) rest next new) (new ≡ next) →
          ((next : MonthRows W) → Begins book cycle form next →
          Visits (TakesRow contents) rest next new →
          Wrote contents book cycle form rest next new) →
          Wrote contents book cycle form (c ∷ rest) old new
      at true next t w later =
          wrote_more old next new c rest h t (later next (begins_next old next c t h) w)
      at false next t e later = wrote_stopped old next new c rest h t e

  text_append : (xs ys : List ChargeColumns) →
      charge_texts form (filter (is_of_cycle book cycle) (xs ++ ys))
      ≡ charge_texts form (filter (is_of_cycle book cycle) xs)
      ++ charge_texts form (filter (is_of_cycle book cycle) ys)
  text_append [] ys = refl
  text_append (c ∷ xs) ys =
      let p = is_of_cycle book cycle c in
      let all = filter (is_of_cycle book cycle) (xs ++ ys) in
      let left = filter (is_of_cycle book cycle) xs in
      let right = charge_texts form (filter (is_of_cycle book cycle) ys) in
      text_split p form c all
      ∙ ap (λ l. text_if p form c ++ l) (text_append xs ys)
      ∙ sym (append_assoc (text_if p form c) (charge_texts form left) right)
      ∙ ap (λ l. l ++ right) (sym (text_split p form c left))

  text_taken : (n : ℕ) (rows : List ChargeColumns) →
      charge_texts form (filter (is_of_cycle book cycle) rows)
      ≡ charge_texts form (filter (is_of_cycle book cycle) (take n rows))
      ++ charge_texts form (filter (is_of_cycle book cycle) (drop n rows))
  text_taken n rows =
      ap (λ l. charge_texts form (filter (is_of_cycle book cycle) l))
      (sym (take-append-drop n rows))
      ∙ text_append (take n rows) (drop n rows)

  -- what is written of rows is a beginning of their text
  pub wrote_begun : (rows : List ChargeColumns) (old new : MonthRows W) →
      Wrote contents book cycle form rows old new →
      WritesBeginning (contents old.writer.now) (contents new.writer.now)
      (charge_texts form (filter (is_of_cycle book cycle) rows))
  wrote_begun rows old new w = at new.fault refl
    where
      all : List ℕ
      all = charge_texts form (filter (is_of_cycle book cycle) rows)

      at : (o : Option StreamFault) → new.fault ≡ o →
          WritesBeginning (contents old.writer.now) (contents new.writer.now) all
      at None e = record {
        part = all;
        rest = [];
        written = w.text e;
        whole = sym (append-nil all);
      }
      at (Some f) e = w.begun (ap is_some e)

  -- the first of the rows are a beginning
  pub wrote_part : (n : ℕ) (rows : List ChargeColumns) (old new : MonthRows W) →
      Wrote contents book cycle form (take n rows) old new →
      WritesBeginning (contents old.writer.now) (contents new.writer.now)
      (charge_texts form (filter (is_of_cycle book cycle) rows))
  wrote_part n rows old new w =
      let more = charge_texts form (filter (is_of_cycle book cycle) (drop n rows)) in
      subst (WritesBeginning (contents old.writer.now) (contents new.writer.now))
      (sym (text_taken n rows)) (begun_first more (wrote_begun (take n rows) old new w))

-- what the charges of a month that a source shows come to
module _ {W : Type 0} (contents : W → Option (List ℕ)) (book : Book) (month : ℕ) (form : Form)
    (charges : ℕ → Option ChargeColumns) (from until : ℕ) (first : from ≡ 0)
    (last : until ≡ 4102444800) (old new : MonthRows W)
    (h : Begins book (cycle_of_month month) form old) where
  ranged : (rows : List ChargeColumns) →
      filter (is_between from until) rows ≡ filter (is_between 0 4102444800) rows
  ranged rows = λ i. filter (is_between (first i) (last i)) rows

  pub wrote_all : SeesCharges (TakesRow contents) from until charges old new →
      (rows : List ChargeColumns) → AreCharges charges rows →
      Wrote contents book (cycle_of_month month) form
      (filter (is_between 0 4102444800) rows) old new
  wrote_all sees rows are =
      wrote contents book (cycle_of_month month) form
      (filter (is_between 0 4102444800) rows) old new h
      (subst (λ l. Visits (TakesRow contents) l old new) (ranged rows) (sees rows are))

  wrote_first : SeesBeginning (TakesRow contents) from until charges old new →
      (rows : List ChargeColumns) → AreCharges charges rows →
      (n : ℕ) × Wrote contents book (cycle_of_month month) form
      (take n (filter (is_between 0 4102444800) rows)) old new
  wrote_first sees rows are =
      let shown = sees rows are in (
        shown.0,
        wrote contents book (cycle_of_month month) form
            (take shown.0 (filter (is_between 0 4102444800) rows)) old new h
            (subst (λ l. Visits (TakesRow contents) (take shown.0 l) old new)
            (ranged rows) shown.1),
      )

  pub begun_name : SeesBeginning (TakesRow contents) from until charges old new →
      (rows : List ChargeColumns) → AreCharges charges rows →
      new.writer.ghost_name ≡ old.writer.ghost_name
  begun_name sees rows are = (wrote_first sees rows are).1.writer

  pub begun_text : SeesBeginning (TakesRow contents) from until charges old new →
      (rows : List ChargeColumns) → AreCharges charges rows →
      WritesBeginning (contents old.writer.now) (contents new.writer.now)
      (charge_texts form (of_month book month rows))
  begun_text sees rows are =
      let w = wrote_first sees rows are in
      wrote_part contents book (cycle_of_month month) form w.0
      (filter (is_between 0 4102444800) rows) old new w.1

-- what some charges that a source shows come to
module _ {W : Type 0} (contents : W → Option (List ℕ)) (book : Book) (month : ℕ) (form : Form)
    (from until : ℕ) (first : from ≡ 0) (last : until ≡ 4102444800) (old new : MonthRows W)
    (h : Begins book (cycle_of_month month) form old) where
  pub wrote_some : (s : IsShown (TakesRow contents) from until old new) →
      Wrote contents book (cycle_of_month month) form
      (filter (is_between 0 4102444800) s.rows) old new
  wrote_some s =
      wrote contents book (cycle_of_month month) form
      (filter (is_between 0 4102444800) s.rows) old new h
      (subst (λ l. Visits (TakesRow contents) l old new)
      (λ i. filter (is_between (first i) (last i)) s.rows) s.visits)

  pub begun_some : (s : IsShown (TakesRow contents) from until old new) →
      WritesBeginning (contents old.writer.now) (contents new.writer.now)
      (charge_texts form (of_month book month s.rows))
  begun_some s =
      wrote_begun contents book (cycle_of_month month) form
      (filter (is_between 0 4102444800) s.rows) old new (wrote_some s)

-- a call that ends with a fault has written a beginning
pub err_some : {T : Type 0} (old new : Option (List ℕ)) (text : List ChargeColumns → List ℕ)
    (r : Result T StatementFault) → IsErr r → (rows : List ChargeColumns) →
    WritesBeginning old new (text rows) → WritesSome old new text r
err_some old new text (Ok x) e rows h = absurd (false≢true e)
err_some old new text (Err f) e rows h = record { rows = rows; whole = tt; beginning = h }

pub err_summed : (old new : Option (List ℕ)) (form : Form)
    (month : List ChargeColumns → List ChargeColumns) (r : Result Sums StatementFault) → IsErr r →
    (rows : List ChargeColumns) → WritesBeginning old new (charge_texts form (month rows)) →
    SumsSome old new form month r
err_summed old new form month (Ok x) e rows h = absurd (false≢true e)
err_summed old new form month (Err f) e rows h =
    record { rows = rows; whole = tt; beginning = h }

pub err_writes : {T : Type 0} (charges : ℕ → Option ChargeColumns) (old new : Option (List ℕ))
    (text : List ChargeColumns → List ℕ) (r : Result T StatementFault) → IsErr r →
    ((rows : List ChargeColumns) → AreCharges charges rows →
    WritesBeginning old new (text rows)) → WritesAll charges old new text r
err_writes charges old new text (Ok x) e h = absurd (false≢true e)
err_writes charges old new text (Err f) e h =
    record { whole = λ rows are. tt; beginning = h }
