-- What is read of the numbers of new buckets.
use Rattle.std.proofs.Common.{◌≡◌, ◌<◌, ◌≤◌, ◌+◌, ℕ, List, [], ◌∷◌, ◌++◌, Option, None, Result}
use Rattle.std.proofs.Common.{Ok, Err, IsTrue, sym, ap, subst, ◌∙◌, arith, take, get_or}
use Rattle.std.proofs.Common.{length}
use Rattle.std.specs.Prelude.{option_map, ⊤}
use Rattle.std.proofs.lemmas.List.{take_more, take_all}
use Rattle.buckets.specs.Row.{BucketRow}
use Rattle.buckets.specs.declared.bucket.columns.Columns.{Columns as BucketColumns}
use Rattle.reserving.proofs.LeftTests.{each_append}
use Rattle.sqlite_trees.specs.Tree.{Trees}
use Rattle.sqlite.specs.State.{State, HasCleanDisk}
use Rattle.sql_tables.specs.Statements.{HasIdleTables, Reads}
use Rattle.sql_rows.specs.declared.head.HeadColumns.{HeadColumns}
use Rattle.sql_rows.specs.Content.{rows_in}
use Rattle.sql_rows.specs.Texts.{bucket_row}
use Rattle.sql_keeper.specs.LiveGroups.{Gathers}
use Rattle.sql_keeper.specs.Numbers.{AreFree, IsFree, first_bucket}
use Rattle.sql_keeper.proofs.reads.InTurn.{HaveRead, none_read, have_read, have_gathered}
use Rattle.sql_keeper.proofs.reads.InTurn.{have_read_then, gathers_from, gives_up}
use Rattle.sql_keeper.proofs.loads.LiveGroups.{told_before}

-- ---- one bucket

module _ (a : List ℕ) (first : ℕ) (b : BucketRow) (n : ℕ) (is : n ≡ b.number) where
  abbrev told : Trees → ⊤ → Type 0
  told trees done = IsFree first (rows_in trees a) b

  -- one that isn't new
  pub not_new : {E : Type 0} (s : State) → HasIdleTables s → n < first
      → Gathers {A = ⊤} {E = E} told s s (Ok tt)
  not_new {E} s idle below =
      gathers_from {A = ⊤} {E = E} told s s (Ok tt) (none_read s idle)
      (λ clean on least. absurd (omega (arith, is, below, least)))

  abbrev row_read : Trees → Option BucketColumns → Type 0
  row_read trees o = option_map bucket_row o ≡ (rows_in trees a).buckets n

  -- one of whose number none is there
  pub none_there : {E : Type 0} (old new : State) (o : Option BucketColumns) → o ≡ None
      → Reads {A = Option BucketColumns} {E = E} row_read old new (Ok o)
      → Gathers {A = ⊤} {E = E} told old new (Ok tt)
  none_there {E} old new o none reads =
      gathers_from {A = ⊤} {E = E} told old new (Ok tt)
      (have_read {A = Option BucketColumns} {E = E} row_read old new o reads)
      (λ clean on least. subst (λ m. (rows_in old.now.trees a).buckets m ≡ None) is
      (sym (reads.found clean) ∙ ap (option_map bucket_row) none))

  -- and one of whose number there is one
  pub one_there : {E : Type 0} (old new : State) (o : Option BucketColumns) (e : E)
      → Reads {A = Option BucketColumns} {E = E} row_read old new (Ok o)
      → Gathers {A = ⊤} {E = E} told old new (Err e)
  one_there {E} old new o e reads =
      gathers_from {A = ⊤} {E = E} told old new (Err e)
      (have_read {A = Option BucketColumns} {E = E} row_read old new o reads) (λ clean on. tt)

-- ---- each in turn

-- those so far
pub record HaveTested (a : List ℕ) (first : ℕ) (xs : List BucketRow) (old new : State) : Type 0
  where
    pub free : HasCleanDisk new → IsTrue new.is_open → AreFree first (rows_in old.now.trees a) xs
    pub reads : HaveRead old new

pub none_tested : (a : List ℕ) (first : ℕ) (s : State) → HasIdleTables s
    → HaveTested a first [] s s
none_tested a first s idle = record { free = λ clean on. tt; reads = none_read s idle }

module _ {E : Type 0} (a : List ℕ) (first : ℕ) where
  pub next_tested : (xs : List BucketRow) (i : ℕ) (x : BucketRow) (old mid new : State)
      → i < length xs → x ≡ get_or xs i x → HaveTested a first (take i xs) old mid
      → Gathers {A = ⊤} {E = E} (λ trees done. IsFree first (rows_in trees a) x) mid new (Ok tt)
      → HaveTested a first (take (i + 1) xs) old new
  next_tested xs i x old mid new less is before here =
      subst (λ l. HaveTested a first l old new)
      (ap (λ z. take i xs ++ z ∷ []) is ∙ sym (take_more xs i x less))
      (record {
        free = λ clean on.
            let after = here.only.still clean on in
            each_append (IsFree first (rows_in old.now.trees a)) (take i xs) (x ∷ [])
            (before.free (here.only.cleanness clean) after.was_open) (
              told_before (λ trees. IsFree first (rows_in trees a) x) old mid new
                  before.reads.only here.only clean on (here.found clean on),
              tt,
            );
        reads = have_read_then old mid new before.reads (have_gathered {A = ⊤} {E = E}
            (λ trees done. IsFree first (rows_in trees a) x) mid new tt here);
      })

  pub all_tested : (xs : List BucketRow) (i : ℕ) (old new : State) → length xs ≤ i
      → HaveTested a first (take i xs) old new
      → Gathers {A = ⊤} {E = E} (λ trees done. AreFree first (rows_in trees a) xs) old new (Ok tt)
  all_tested xs i old new end h =
      gathers_from {A = ⊤} {E = E} (λ trees done. AreFree first (rows_in trees a) xs) old new
      (Ok tt) h.reads
      (λ clean on. subst (AreFree first (rows_in old.now.trees a)) (take_all i xs end)
      (h.free clean on))

-- ---- from the number that the head has

-- rule: database-writes.numbers-free
pub from_head : {E : Type 0} (a : List ℕ) (xs : List BucketRow) (o : Option HeadColumns)
    (first : ℕ) (old mid new : State) (r : Result ⊤ E) → first ≡ first_bucket o
    → Gathers {A = Option HeadColumns} {E = E} (λ trees p. p ≡ (rows_in trees a).head) old mid
    (Ok o)
    → Gathers {A = ⊤} {E = E} (λ trees done. AreFree first (rows_in trees a) xs) mid new r
    → Gathers {A = ⊤} {E = E}
    (λ trees done. AreFree (first_bucket (rows_in trees a).head) (rows_in trees a) xs) old new r
from_head {E} a xs o first old mid new (Ok u) is one two =
    gathers_from {A = ⊤} {E = E}
    (λ trees done. AreFree (first_bucket (rows_in trees a).head) (rows_in trees a) xs) old new
    (Ok u)
    (have_read_then old mid new
    (have_gathered {A = Option HeadColumns} {E = E} (λ trees p. p ≡ (rows_in trees a).head) old
    mid o one)
    (have_gathered {A = ⊤} {E = E} (λ trees done. AreFree first (rows_in trees a) xs) mid new u
    two))
    (λ clean on.
    let after = two.only.still clean on in
    subst (λ n. AreFree n (rows_in old.now.trees a) xs)
    (is ∙ ap first_bucket (one.found (two.only.cleanness clean) after.was_open))
    (told_before (λ trees. AreFree first (rows_in trees a) xs) old mid new one.only two.only clean
    on (two.found clean on)))
from_head {E} a xs o first old mid new (Err e) is one two =
    gives_up {A = ⊤} {E = E}
    (λ trees done. AreFree (first_bucket (rows_in trees a).head) (rows_in trees a) xs) old mid new
    e
    (have_gathered {A = Option HeadColumns} {E = E} (λ trees p. p ≡ (rows_in trees a).head) old
    mid o one) two.only two.survives
