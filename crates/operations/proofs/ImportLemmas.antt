-- Vouchers that were added so far, one more, and all.
use Rattle.std.proofs.Common.{Option, Result, Ok, Err, ◌≡◌, ◌+◌, ◌<◌, ℕ, suc, List, [], ◌∷◌, ◌++◌}
use Rattle.std.proofs.Common.{append-nil, length, take, refl, sym, ap, subst, ◌∙◌, arith}
use Rattle.std.proofs.lemmas.Bool.{false≢true}
use Rattle.std.proofs.lemmas.List.{length-append}
use Rattle.std.specs.Prelude.{is_err, false, true}
use Rattle.std.specs.Io.KnownBytes.{Appends}
use Rattle.keepers.specs.declared.fault.StoreFault.{StoreFault}
use Rattle.std.proofs.Math.Seq.{take-append_seam}
use Rattle.commands.specs.declared.answer.Answer.{Answer}
use Rattle.commands.specs.declared.command.Command.TheVariants.{AddVoucher}
use Rattle.commands.specs.declared.command.VoucherAddition.{VoucherAddition}
use Rattle.shelves.specs.Shelves.{Shelf}
use Rattle.keepers.specs.Tables.{Tables}
use Rattle.charging.specs.Accepted.{Accepted, IsInTime}
use Rattle.charging.specs.Runs.{after_command, after_commands}
use Rattle.charging.specs.Histories.{no_history}
use Rattle.charging.specs.Outcomes.{addition_outcome}
use Rattle.charging.specs.Served.{AreTables, IsServed, moment_of, voucher}
use Rattle.charging.specs.declared.running.DatedCommand.{DatedCommand}
use Rattle.charging.proofs.runs.RunLemmas.{commands-more}
use Rattle.voucher_rules.specs.Adding.{addition}
use Rattle.voucher_rules.specs.declared.adding.Addition.{Addition}
use Rattle.voucher_rules.specs.declared.adding.Addition.TheVariants.{New, Present, Conflicting}
use Rattle.voucher_rules.specs.declared.voucher.Voucher.{Voucher}
use Rattle.operations.specs.Counts.{counted, counted_as, counts_line, no_counts, total_count}
use Rattle.operations.specs.Imports.{Imports, TellsImport, IsVoucherAdded, IsImportBegun}
use Rattle.operations.specs.Imports.{IsImported, addition_at, additions, counted_after}
use Rattle.operations.specs.Imports.{counts_after}
use Rattle.operations.specs.Written.{WritesBeginning}
use Rattle.operations.specs.declared.counts.Counts.{Counts}

-- ---- one command more

counts-more : (b : Shelf) (list : List Accepted) (ds : List DatedCommand) (d : DatedCommand)
    (n : Counts) → counts_after b list (ds ++ d ∷ []) n ≡
    counted_after b (after_commands b list ds) d (counts_after b list ds n)
counts-more b list [] d n = refl
counts-more b list (e ∷ ds) d n =
    counts-more b (after_command b list e) ds d (counted_after b list e n)

pub additions-more : (t : ℕ) (rows more : List VoucherAddition) →
    additions t (rows ++ more) ≡ additions t rows ++ additions t more
additions-more t [] more = refl
additions-more t (row ∷ rows) more =
    ap (λ (ds : List DatedCommand). addition_at t row ∷ ds) (additions-more t rows more)

additions-count : (t : ℕ) (rows : List VoucherAddition) → length (additions t rows) ≡ length rows
additions-count t [] = refl
additions-count t (row ∷ rows) = ap suc (additions-count t rows)

-- ---- so far

-- these commands were counted as they were decided, and the tables are those of the list after them
pub record IsSoFar (b : Shelf) (list : List Accepted) (ds : List DatedCommand) (old new : Tables)
    (counts : Counts) : Type 0 where
  pub counted : counts ≡ counts_after b list ds no_counts
  pub tables : AreTables b (after_commands b list ds) new
  pub time : IsInTime (after_commands b list ds)
  pub same : counts.new ≡ 0 → new ≡ old

abbrev pub ImportsSoFar : Shelf → List DatedCommand → Tables → Tables → Counts → Type 0
ImportsSoFar b ds old new counts = (list : List Accepted) → IsInTime list → AreTables b list old →
    IsSoFar b list ds old new counts

so-far-more : (b : Shelf) (list : List Accepted) (ds : List DatedCommand) (d : DatedCommand)
    (old mid new : Tables) (n : Counts) (x : Addition) → IsSoFar b list ds old mid n →
    IsVoucherAdded b (after_commands b list ds) d mid new x →
    IsSoFar b list (ds ++ d ∷ []) old new (counted_as x n)
so-far-more b list ds d old mid new n x so added = record {
  counted = added.counts n
      ∙ ap (counted_after b (after_commands b list ds) d) so.counted
      ∙ sym (counts-more b list ds d no_counts);
  tables = subst (λ (l : List Accepted). AreTables b l new)
      (sym (commands-more b list ds d)) added.tables;
  time = subst IsInTime (sym (commands-more b list ds d)) added.time;
  same = λ none. let (before, kept) = added.same n none in kept ∙ so.same before;
}

-- with one voucher more
-- rule: import
pub one-more : (b : Shelf) (t : ℕ) (list : List Accepted) (rows : List VoucherAddition)
    (row : VoucherAddition) (old mid new : Tables) (n m : Counts) (x : Addition) →
    IsSoFar b list (additions t rows) old mid n →
    IsVoucherAdded b (after_commands b list (additions t rows)) (addition_at t row) mid new x →
    m ≡ counted_as x n → IsSoFar b list (additions t (rows ++ row ∷ [])) old new m
one-more b t list rows row old mid new n m x so added e =
    subst (λ (k : Counts). IsSoFar b list (additions t (rows ++ row ∷ [])) old new k) (sym e)
    (subst (λ (ds : List DatedCommand). IsSoFar b list ds old new (counted_as x n))
    (sym (additions-more t rows (row ∷ [])))
    (so-far-more b list (additions t rows) (addition_at t row) old mid new n x so added))

-- ---- at the end

-- with none left, those so far are all
-- rule: import
pub whole_of : (rows rest all : List VoucherAddition) → rows ++ rest ≡ all → length rest ≡ 0 →
    rows ≡ all
whole_of rows [] all e none = sym (append-nil rows) ∙ e
whole_of rows (row ∷ rest) all e none = absurd (omega (arith, none))

pub all-imported : (b : Shelf) (t : ℕ) (rows : List VoucherAddition) (old new : Tables)
    (n : Counts) →
    ImportsSoFar b (additions t rows) old new n → (list : List Accepted) → IsInTime list →
    AreTables b list old → IsImported b list (additions t rows) old new n
all-imported b t rows old new n so = λ list time tables.
    let at : IsSoFar b list (additions t rows) old new n = so list time tables in
    record { counted = at.counted; tables = at.tables; time = at.time; same = at.same }

-- a beginning of the commands
taken : (t : ℕ) (rows rest all : List VoucherAddition) → rows ++ rest ≡ all →
    take (length rows) (additions t all) ≡ additions t rows
taken t rows rest all e =
    (λ i. take (sym (additions-count t rows) i) (additions t (sym e i)))
    ∙ ap (take (length (additions t rows))) (additions-more t rows rest)
    ∙ take-append_seam (additions t rows) (additions t rest)

fewer : (t : ℕ) (rows rest all : List VoucherAddition) (row : VoucherAddition) →
    rows ++ row ∷ rest ≡ all → length rows < length (additions t all)
fewer t rows rest all row e =
    let count : length (additions t all) ≡ length rows + length (row ∷ rest) =
    additions-count t all ∙ ap length (sym e) ∙ length-append rows (row ∷ rest) in
    omega (arith, count)

pub begun : (b : Shelf) (t : ℕ) (rows rest all : List VoucherAddition) (row : VoucherAddition)
    (old mid new : Tables) (n : Counts) → rows ++ row ∷ rest ≡ all →
    ImportsSoFar b (additions t rows) old mid n →
    ((list : List Accepted) → IsInTime list → AreTables b list mid → new ≡ mid) →
    (list : List Accepted) → IsInTime list → AreTables b list old →
    IsImportBegun b list (additions t all) new
begun b t rows rest all row old mid new n e so kept = λ list time tables.
    let at : IsSoFar b list (additions t rows) old mid n = so list time tables in
    let same : new ≡ mid =
    kept (after_commands b list (additions t rows)) at.time at.tables in
    let part : take (length rows) (additions t all) ≡ additions t rows =
    taken t rows (row ∷ rest) all e in
    record {
      count = length rows;
      few = fewer t rows rest all row e;
      tables = subst (λ (ds : List DatedCommand). AreTables b (after_commands b list ds) new)
          (sym part)
          (subst (λ (x : Tables). AreTables b (after_commands b list (additions t rows)) x)
          (sym same) at.tables);
      time = subst (λ (ds : List DatedCommand). IsInTime (after_commands b list ds))
          (sym part) at.time;
    }

-- the same of an answer that is a fault
-- rule: import
pub begun_at : (b : Shelf) (t : ℕ) (rows rest all : List VoucherAddition) (row : VoucherAddition)
    (old mid new : Tables) (n : Counts) (r : Result Counts StoreFault) → is_err r ≡ true →
    rows ++ row ∷ rest ≡ all → ImportsSoFar b (additions t rows) old mid n →
    ((list : List Accepted) → IsInTime list → AreTables b list mid → new ≡ mid) →
    Imports b (additions t all) old new r
begun_at b t rows rest all row old mid new n (Err f) is e so kept =
    begun b t rows rest all row old mid new n e so kept
begun_at b t rows rest all row old mid new n (Ok counts) is e so kept = absurd (false≢true is)

-- ---- what is reported

pub told_from : (b : Shelf) (commands : List DatedCommand) (old new : Tables)
    (before after : Option (List ℕ)) (r : Result Counts StoreFault) (n : Counts) →
    Imports b commands old new r → r ≡ Ok n → Appends before after (counts_line n) →
    TellsImport b commands old new (λ counts. Appends before after (counts_line counts))
told_from b commands old new before after r n imports is written = λ list time tables.
    let all : IsImported b list commands old new n =
    subst (λ (x : Result Counts StoreFault). Imports b commands old new x) is imports
    list time tables in
    record {
      imported = subst (IsImported b list commands old new) all.counted all;
      told = subst (λ counts. Appends before after (counts_line counts)) all.counted written;
    }

pub untold_from : (b : Shelf) (commands : List DatedCommand) (old new : Tables)
    (before after : Option (List ℕ)) (r : Result Counts StoreFault) (n : Counts) →
    Imports b commands old new r → r ≡ Ok n → WritesBeginning before after (counts_line n) →
    TellsImport b commands old new (λ counts. WritesBeginning before after (counts_line counts))
untold_from b commands old new before after r n imports is written = λ list time tables.
    let all : IsImported b list commands old new n =
    subst (λ (x : Result Counts StoreFault). Imports b commands old new x) is imports
    list time tables in
    record {
      imported = subst (IsImported b list commands old new) all.counted all;
      told = subst (λ counts. WritesBeginning before after (counts_line counts)) all.counted
          written;
    }

-- ---- one voucher

-- what an addition comes to is what is counted
counted-as : (x : Addition) (n : Counts) → counted_as x n ≡
    counted (addition_outcome x no_history).accepted (addition_outcome x no_history).answer n
counted-as (New made) n = refl
counted-as Present n = refl
counted-as Conflicting n = refl

-- what isn't new isn't accepted
not-new : (x : Addition) (n : Counts) → (counted_as x n).new ≡ 0 →
    (n.new ≡ 0) × ((addition_outcome x no_history).accepted ≡ false)
not-new (New made) n none = let no : ⊥ = omega (arith, none) in absurd no
not-new Present n none = (none, refl)
not-new Conflicting n none = (none, refl)

pub added : (b : Shelf) (t : ℕ) (row : VoucherAddition) (old mid new : Tables)
    (found : Option Voucher) (x : Addition) → found ≡ old.vouchers row.code →
    x ≡ addition found row.terms → mid ≡ old →
    ((list : List Accepted) → IsInTime list → AreTables b list mid →
    (given : Answer) × IsServed b list (AddVoucher row) (moment_of list t) mid new given) →
    (list : List Accepted) → IsInTime list → AreTables b list old →
    IsVoucherAdded b list (addition_at t row) old new x
added b t row old mid new found x stands is same serves = λ list time tables.
    let there : AreTables b list mid = subst (AreTables b list) (sym same) tables in
    let (given, served) = serves list time there in
    let outcome : x ≡ addition (voucher b row.code list) row.terms =
    is ∙ ap (λ (o : Option Voucher). addition o row.terms) (stands ∙ tables.vouchers row.code) in
    record {
      counts = λ n. counted-as x n ∙ ap (λ (y : Addition).
          counted (addition_outcome y no_history).accepted
          (addition_outcome y no_history).answer n) outcome;
      tables = served.tables;
      time = served.time;
      same = λ n none.
          let (before, refused) = not-new x n none in (
            before,
            served.same (ap (λ (y : Addition). (addition_outcome y no_history).accepted)
                (sym outcome) ∙ refused) ∙ same,
          );
    }

-- ---- counts

pub one-counted : (x : Addition) (n : Counts) → total_count (counted_as x n) ≡ total_count n + 1
one-counted x n = grind arith
