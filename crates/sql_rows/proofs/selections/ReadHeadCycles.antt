-- What the text of `read_head_cycles` answers.
use Rattle.std.specs.Prelude.{codes}
use Rattle.std.proofs.Common.{◌≡◌, ◌⊎◌, inl, inr, ℕ, List, [], ◌∷◌, ◌++◌, true, false, ◌&&◌, Bool}
use Rattle.std.proofs.Common.{refl, sym, ap, ◌∙◌, nat_eq}
use Rattle.std.specs.List.{list_all}
use Rattle.sqlite_value.specs.declared.value.Value.TheVariants.{Text}
use Rattle.sqlite_value.specs.Order.{Row}
use Rattle.sqlite_trees.specs.Tree.{Trees}
use Rattle.sqlite_sql.specs.Term.{holds}
use Rattle.sqlite_sql.specs.Program.{IsProgramAnswer}
use Rattle.sqlite_sql.specs.Query.{Query}
use Rattle.sqlite_schema.specs.Program.{lets_of}
use Rattle.sqlite_schema.specs.Rules.{Fits}
use Rattle.sqlite_schema.specs.declared.program.Program.{Program}
use Rattle.sqlite_schema.specs.declared.command.Command.TheVariants.{Select}
use Rattle.sqlite_tied.specs.Compute.{everything}
use Rattle.sqlite.specs.Given.{IsPlain}
use Rattle.sqlite.specs.Listing.{understood, reads_listing}
use Rattle.sqlite.specs.State.{State}
use Rattle.sqlite.proofs.Callers.{command_of, reads_as}
use Rattle.sql_tables.specs.Keyed.{IsStored}
use Rattle.sql_tables.specs.Schema.{our_schema}
use Rattle.sql_tables.specs.Statements.{Answers}
use Rattle.sql_tables.proofs.Steps.{and_last, and_true}
use Rattle.sql_rows.specs.declared.head_counter_rows.CycleNumbers.{CycleNumbers}
use Rattle.sql_rows.specs.declared.head_counter_rows.HeadCycles.{HeadCycles}
use Rattle.sql_rows.specs.Values.{nat}
use Rattle.sql_rows.specs.Content.{rows_in}
use Rattle.sql_rows.specs.Lists.{AreCountersAmong, AreCountersIn, IsHeadAmong, of_part}
use Rattle.sql_rows.proofs.queries.OfParts.{AreNumbered}
use Rattle.sql_rows.proofs.selections.ReadCounters.{extra, front}
use Rattle.sql_rows.proofs.selections.ReadHeadCounters.{by, counter_columns, counter_project}
use Rattle.sql_rows.proofs.selections.ReadHeadCounters.{counter_terms, counters_in_part}
use Rattle.sql_rows.proofs.selections.ReadHeadCounters.{head_columns, head_of, head_project}
use Rattle.sql_rows.proofs.selections.ReadHeadCounters.{head_terms, names, order, shown}
use Rattle.sql_rows.proofs.queries.Unioned.{part_from}
use Rattle.sql_rows.proofs.queries.Unions.{AreThose, IsOf, IsPart, four_parts, four_said, one_part}

abbrev pub read_head_cycles_text : List ℕ
read_head_cycles_text =
    codes "SELECT 0, barred, as_of, next_bucket, next_charge FROM accounts WHERE account = ?1 "
    ++ codes "UNION ALL SELECT 1, rating_group, cycle, blocks, 0 FROM counters "
    ++ codes "WHERE account = ?1 AND cycle = ?2 "
    ++ codes "UNION ALL SELECT 2, rating_group, cycle, blocks, 0 FROM counters "
    ++ codes "WHERE account = ?1 AND cycle = ?3 "
    ++ codes "UNION ALL SELECT 3, rating_group, cycle, blocks, 0 FROM counters "
    ++ codes "WHERE account = ?1 AND cycle = ?4 ORDER BY 1, 2"

abbrev part : ℕ → Query
part n = part_from 6 (counter_terms n) (counter_project n)

abbrev heads : Query
heads = part_from 2 head_terms head_project

abbrev all : Program
all = four_parts 6 by shown order heads (part 1) (part 2) (part 3)

text_is : (command_of (understood our_schema read_head_cycles_text) ≡ Select all names) ×
    (reads_listing our_schema read_head_cycles_text ≡ false)
unfolding understood everything
text_is = (refl, refl)

pub read_head_cycles_plain : IsPlain (understood our_schema read_head_cycles_text)
unfolding understood everything
read_head_cycles_plain = (refl, refl)

-- ---- the parts apart

-- of a predicate of all rows
numbered : (part : ℕ) (test : Row → Bool) (columns : Row → Row) (stored out : List Row)
    (P : Row → Type 0) → AreThose P out
    → ((v : Row) → P v → of_part part v ≡ true → IsOf test columns stored v)
    → ((v : Row) → IsOf test columns stored v → P v) → AreNumbered part test columns stored out
numbered part test columns stored out P those only every = record {
  from = λ v h e. only v (those.from v h) e;
  to = λ r h e. those.to (columns r) (every (columns r) (r, h, e, refl));
}

-- the number of one part is not that of another
of_other : (part other : ℕ) → nat_eq other part ≡ false → (test : Row → Bool) (stored : List Row)
    (v : Row) → IsOf test (counter_columns other) stored v → of_part part v ≡ true → ⊥
of_other part other apart test stored v x e =
    let no : false ≡ true = sym apart ∙ sym (ap (of_part part) x.3) ∙ e in cc

not_head : (part : ℕ) → nat_eq 0 part ≡ false → (test : Row → Bool) (stored : List Row) (v : Row)
    → IsOf test head_columns stored v → of_part part v ≡ true → ⊥
not_head part apart test stored v x e =
    let no : false ≡ true = sym apart ∙ sym (ap (of_part part) x.3) ∙ e in cc

module _ (a : List ℕ) (cycles : CycleNumbers) (db : Trees) (rows : List Row) where
  abbrev params : Row
  params = Text a ∷ nat cycles.never ∷ nat cycles.day ∷ nat cycles.month ∷ []

  abbrev IsHead : Row → Type 0
  IsHead = IsOf (front a) head_columns (db 2)

  abbrev counts : ℕ → Row → Bool
  counts cycle r = front a r && extra a cycle r

  abbrev IsCounter : ℕ → ℕ → Row → Type 0
  IsCounter part cycle = IsOf (counts cycle) (counter_columns part) (db 6)

  abbrev IsShown : Row → Type 0
  IsShown v = IsHead v ⊎ (IsCounter 1 cycles.never v
      ⊎ (IsCounter 2 cycles.day v ⊎ IsCounter 3 cycles.month v))

  -- a part of counters, of which the place of the parameter is the part's number
  counted : (at cycle : ℕ)
      → ((r : Row) → list_all (holds (params ∷ r ∷ [])) (counter_terms at) ≡ counts cycle r)
      → IsPart db params shown (part at) (IsCounter at cycle)
  counted at cycle tests =
      one_part 6 refl (counter_terms at) (counter_project at) db params shown (counts cycle)
      (counter_columns at) tests (λ r. refl) (λ r. refl)

  those : IsProgramAnswer (lets_of all) all.body db params rows → AreThose IsShown rows
  those h =
      four_said db params 6 by shown order heads (part 1) (part 2) (part 3) IsHead
      (IsCounter 1 cycles.never) (IsCounter 2 cycles.day) (IsCounter 3 cycles.month)
      (one_part 2 refl head_terms head_project db params shown (front a) head_columns
      (λ r. and_true (front a r)) (λ r. refl) (λ r. refl))
      (counted 1 cycles.never (λ r. and_last (front a r) (extra a cycles.never r)))
      (counted 2 cycles.day (λ r. and_last (front a r) (extra a cycles.day r)))
      (counted 3 cycles.month (λ r. and_last (front a r) (extra a cycles.month r))) rows h

  only_head : (v : Row) → IsShown v → of_part 0 v ≡ true → IsHead v
  only_head v (inl x) e = x
  only_head v (inr (inl x)) e = absurd (of_other 0 1 refl (counts cycles.never) (db 6) v x e)
  only_head v (inr (inr (inl x))) e = absurd (of_other 0 2 refl (counts cycles.day) (db 6) v x e)
  only_head v (inr (inr (inr x))) e = absurd (of_other 0 3 refl (counts cycles.month) (db 6) v x e)

  only_never : (v : Row) → IsShown v → of_part 1 v ≡ true → IsCounter 1 cycles.never v
  only_never v (inl x) e = absurd (not_head 1 refl (front a) (db 2) v x e)
  only_never v (inr (inl x)) e = x
  only_never v (inr (inr (inl x))) e = absurd (of_other 1 2 refl (counts cycles.day) (db 6) v x e)
  only_never v (inr (inr (inr x))) e =
      absurd (of_other 1 3 refl (counts cycles.month) (db 6) v x e)

  only_day : (v : Row) → IsShown v → of_part 2 v ≡ true → IsCounter 2 cycles.day v
  only_day v (inl x) e = absurd (not_head 2 refl (front a) (db 2) v x e)
  only_day v (inr (inl x)) e = absurd (of_other 2 1 refl (counts cycles.never) (db 6) v x e)
  only_day v (inr (inr (inl x))) e = x
  only_day v (inr (inr (inr x))) e = absurd (of_other 2 3 refl (counts cycles.month) (db 6) v x e)

  only_month : (v : Row) → IsShown v → of_part 3 v ≡ true → IsCounter 3 cycles.month v
  only_month v (inl x) e = absurd (not_head 3 refl (front a) (db 2) v x e)
  only_month v (inr (inl x)) e = absurd (of_other 3 1 refl (counts cycles.never) (db 6) v x e)
  only_month v (inr (inr (inl x))) e = absurd (of_other 3 2 refl (counts cycles.day) (db 6) v x e)
  only_month v (inr (inr (inr x))) e = x

  -- each list of what is read
  cycles_told : Fits our_schema db → IsStored (db 2) → IsStored (db 6) → AreThose IsShown rows
      → (x : HeadCycles) → IsHeadAmong rows x.head × AreCountersAmong 1 rows x.never.items
      × AreCountersAmong 2 rows x.daily.items × AreCountersAmong 3 rows x.monthly.items
      → (x.head ≡ (rows_in db a).head) × AreCountersIn cycles.never (rows_in db a) x.never.items
      × AreCountersIn cycles.day (rows_in db a) x.daily.items
      × AreCountersIn cycles.month (rows_in db a) x.monthly.items
  cycles_told fits heads_stored stored all_those x is = (
    head_of a db fits heads_stored rows x.head
        (numbered 0 (front a) head_columns (db 2) rows IsShown all_those only_head (λ v k. inl k))
        is.0,
    counters_in_part a 1 cycles.never refl db fits stored rows x.never.items
        (numbered 1 (counts cycles.never) (counter_columns 1) (db 6) rows IsShown all_those
        only_never (λ v k. inr (inl k))) is.1,
    counters_in_part a 2 cycles.day refl db fits stored rows x.daily.items
        (numbered 2 (counts cycles.day) (counter_columns 2) (db 6) rows IsShown all_those
        only_day (λ v k. inr (inr (inl k)))) is.2,
    counters_in_part a 3 cycles.month refl db fits stored rows x.monthly.items
        (numbered 3 (counts cycles.month) (counter_columns 3) (db 6) rows IsShown all_those
        only_month (λ v k. inr (inr (inr k)))) is.3,
  )

-- rule: statements-of-tables.tables-content
pub head_cycles_read : (a : List ℕ) (cycles : CycleNumbers) (old new : State) (rows : List Row)
    (x : HeadCycles) → Answers read_head_cycles_text
    (Text a ∷ nat cycles.never ∷ nat cycles.day ∷ nat cycles.month ∷ []) old new rows
    → IsHeadAmong rows x.head × AreCountersAmong 1 rows x.never.items
    × AreCountersAmong 2 rows x.daily.items × AreCountersAmong 3 rows x.monthly.items
    → (x.head ≡ (rows_in old.now.trees a).head)
    × AreCountersIn cycles.never (rows_in old.now.trees a) x.never.items
    × AreCountersIn cycles.day (rows_in old.now.trees a) x.daily.items
    × AreCountersIn cycles.month (rows_in old.now.trees a) x.monthly.items
head_cycles_read a cycles old new rows x got is =
    let db : Trees = old.now.trees in
    cycles_told a cycles db rows got.fits got.book.stored.1.0 got.book.stored.1.1.1.0
    (those a cycles db rows (reads_as read_head_cycles_text (params a cycles db rows) old new
    our_schema got.book.schema (Select all names) text_is.0 read_head_cycles_plain text_is.1 rows
    got.shown).answer) x is
