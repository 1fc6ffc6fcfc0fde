-- What has been read of a file, and what follows from it for the whole file.
use Rattle.std.proofs.Common.{◌≡◌, ◌≢◌, ◌+◌, ◌≤◌, ℕ, List, [], ◌∷◌, ◌++◌, length, Bool, true, false}
use Rattle.std.proofs.Common.{Option, Some, None, IfSome, IfErr, Result, Ok, Err, IsTrue, refl, sym}
use Rattle.std.proofs.Common.{ap, subst, ◌∙◌, arith, append_assoc, option_map, length-append, ◌&&◌}
use Rattle.std.proofs.Common.{if◌then◌else◌, ◌<◌}
use Rattle.std.specs.Prelude.{Vec}
use Rattle.std.specs.Global.{Global}
use Rattle.std.proofs.lemmas.List.{append-nil}
use Rattle.std.proofs.lemmas.Bool.{and_parts}
use Rattle.csv.specs.Reading.{Reached, ReadRecord, default_config, strip_bom, source_of}
use Rattle.csv.specs.Reading.{reader_state, reader_config, reader_trim}
use Rattle.csv.specs.declared.reader.Reader.{Reader}
use Rattle.csv.specs.declared.parser.State.{State}
use Rattle.csv.specs.declared.parser.State.TheVariants as st
use Rattle.csv.proofs.ReadFacts.{rows-more, rows-end}
use Rattle.texts.specs.Steps.{◌>>=◌}
use Rattle.vouchers.specs.declared.fault.FaultKind.{FaultKind}
use Rattle.vouchers.specs.declared.fault.FaultKind.TheVariants.{Header, Memory}
use Rattle.vouchers.specs.declared.fault.VoucherFault.{VoucherFault}
use Rattle.commands.specs.declared.command.VoucherAddition.{VoucherAddition}
use Rattle.vouchers.specs.Faults.{is_in_file}
use Rattle.vouchers.specs.Files.{records_in, fault_at, at_record, vouchers_from, vouchers_of}
use Rattle.vouchers.specs.Files.{vouchers_in, MayStopAt, ReadsFirst}
use Rattle.vouchers.specs.Rows.{voucher_of, is_header}
use Rattle.vouchers.proofs.RecordLemmas.{reached_first}

-- ---- vouchers one after the other

same_reading : (r : Result (List VoucherAddition) VoucherFault) →
    r ≡ (r >>= λ rest. Ok ([] ++ rest))
same_reading (Ok rows) = refl
same_reading (Err f) = refl

two_readings : (rows : List VoucherAddition) (row : VoucherAddition)
    (r : Result (List VoucherAddition) VoucherFault)
    → ((r >>= λ rest. Ok (row ∷ rest)) >>= λ rest. Ok (rows ++ rest))
    ≡ (r >>= λ rest. Ok ((rows ++ row ∷ []) ++ rest))
two_readings rows row (Ok rest) = ap Ok (sym (append_assoc rows (row ∷ []) rest))
two_readings rows row (Err f) = refl

-- no fault is told before this record
abbrev NotBefore : ℕ → Result (List VoucherAddition) VoucherFault → Type 0
NotBefore n r = IfErr r (λ f. n ≤ f.record_number)

not_before_bind : (n : ℕ) (rows : List VoucherAddition)
    (r : Result (List VoucherAddition) VoucherFault)
    → NotBefore n r → NotBefore n (r >>= λ rest. Ok (rows ++ rest))
not_before_bind n rows (Ok rest) h = tt
not_before_bind n rows (Err f) h = h

not_before_more : (n : ℕ) (r : Result VoucherAddition FaultKind)
    (more : Result (List VoucherAddition) VoucherFault) → NotBefore (n + 1) more
    → NotBefore n (at_record n r >>= λ row. more >>= λ rest. Ok (row ∷ rest))
not_before_more n (Ok row) (Ok rest) h = tt
not_before_more n (Ok row) (Err f) h = omega (arith, h)
not_before_more n (Err kind) more h = omega arith

not_before : (n : ℕ) (records : List (List (List ℕ))) → NotBefore n (vouchers_from n records)
unfolding vouchers_from
not_before n [] = tt
not_before n (fields ∷ more) =
    not_before_more n (voucher_of fields) (vouchers_from (n + 1) more) (not_before (n + 1) more)

-- ---- a file that was read in part

-- of a text the header and these records were read, up to the one before this number; they say
-- these vouchers
pub record HasRead (text : List ℕ) (source : Option (List ℕ)) (state : State)
    (rows : List VoucherAddition) (number : ℕ) : Type 0 where
  pub header : List (List ℕ)
  pub others : List (List (List ℕ))
  pub left : List ℕ
  pub left_is : source ≡ Some left
  pub reached : Reached default_config st.StartRecord (strip_bom text) (header ∷ others) state left
  pub first : is_header header ≡ true
  pub count : 2 + length others ≡ number
  pub so_far : (more : List (List (List ℕ))) →
      vouchers_from 2 (others ++ more) ≡ (vouchers_from number more >>= λ rest. Ok (rows ++ rest))

-- the same of a reader, where the bytes that it began with are known
abbrev pub Knows : {R : Type 0} → (R → Option (List ℕ)) → Option (List ℕ) → Reader R
    → List VoucherAddition → ℕ → Type 0
Knows rem start reader rows number =
    IfSome start (λ text. HasRead text (source_of rem reader) (reader_state reader) rows number)

-- the whole file, by the records that follow
whole : (text : List ℕ) (header : List (List ℕ)) (others more : List (List (List ℕ)))
    → is_header header ≡ true → records_in text ≡ (header ∷ others) ++ more
    → vouchers_in text ≡ vouchers_from 2 (others ++ more)
whole text header others more first e = rw (e, first) refl

-- the header was read
header_read : {R : Type 0} (rem : R → Option (List ℕ)) (start : Option (List ℕ)) (a b : Reader R)
    (fields : List (List ℕ)) → reader_config a ≡ default_config
    → source_of rem a ≡ option_map strip_bom start → reader_state a ≡ st.StartRecord
    → ReadRecord rem a b true fields → is_header fields ≡ true → Knows rem start b [] 2
unfolding Reached
header_read rem None a b fields config source state read first = tt
header_read rem (Some text) a b fields config source state read first =
    let (left, at, reached) = rows-more rem a b fields default_config st.StartRecord
    (strip_bom text) (strip_bom text) [] config source (sym state, refl) read in
    record {
      header = fields;
      others = [];
      left = left;
      left_is = at;
      reached = reached;
      first = first;
      count = refl;
      so_far = λ more. same_reading (vouchers_from 2 more);
    }

pub starts : {R : Type 0} (rem : R → Option (List ℕ)) (start : Option (List ℕ)) (a b : Reader R)
    → reader_config a ≡ default_config
    → source_of rem a ≡ option_map strip_bom start → reader_state a ≡ st.StartRecord
    → ReadsFirst rem a b true → Knows rem start b [] 2
starts rem start a b config source state reads =
    let (found, fields, read, is) = reads in
    let (there, first) = and_parts found (is_header fields) (sym is) in
    header_read rem start a b fields config source state (rw there at read) first

-- how the reader is set up stays
pub first_keeps : {R : Type 0} (rem : R → Option (List ℕ)) (a b : Reader R) (has : Bool)
    → ReadsFirst rem a b has
    → (reader_config b ≡ reader_config a) × (reader_trim b ≡ reader_trim a)
first_keeps rem a b has reads = let (found, fields, read, is) = reads in (read.2, read.3)

header_fault : (records : List (List (List ℕ))) (fields : List (List ℕ))
    (more : List (List (List ℕ))) → is_header fields ≡ false → records ≡ fields ∷ more
    → vouchers_of records ≡ Err (fault_at 1 Header)
header_fault records fields more other e = rw (e, other) refl

no_header_read : {R : Type 0} (rem : R → Option (List ℕ)) (start : Option (List ℕ)) (a b : Reader R)
    (found : Bool) (fields : List (List ℕ)) → reader_config a ≡ default_config
    → source_of rem a ≡ option_map strip_bom start → reader_state a ≡ st.StartRecord
    → ReadRecord rem a b found fields → (found && is_header fields) ≡ false
    → IfSome start (λ text. vouchers_in text ≡ Err (fault_at 1 Header))
unfolding Reached
no_header_read rem None a b found fields config source state read other = tt
no_header_read rem (Some text) a b true fields config source state read other =
    let (left, at, reached) = rows-more rem a b fields default_config st.StartRecord
    (strip_bom text) (strip_bom text) [] config source (sym state, refl) read in
    let (more, records, last) = reached_first text (fields ∷ []) (reader_state b) left reached in
    header_fault (records_in text) fields more other records
no_header_read rem (Some text) a b false fields config source state read other =
    let over = rows-end rem a b fields default_config (strip_bom text) config source read in
    let (more, records, last) =
    reached_first text [] (reader_state a) (strip_bom text) (sym state, refl) in
    ap vouchers_of (records ∙ last over)

-- the first record is none, or no header
pub no_header : {R : Type 0} (rem : R → Option (List ℕ)) (start : Option (List ℕ)) (a b : Reader R)
    → reader_config a ≡ default_config
    → source_of rem a ≡ option_map strip_bom start → reader_state a ≡ st.StartRecord
    → ReadsFirst rem a b false
    → IfSome start (λ text. vouchers_in text ≡ Err (fault_at 1 Header))
no_header rem start a b config source state reads =
    let (found, fields, read, is) = reads in
    no_header_read rem start a b found fields config source state read (sym is)

-- one more voucher was read
pub goes_on : {R : Type 0} (rem : R → Option (List ℕ)) (start : Option (List ℕ)) (a b : Reader R)
    (fields : List (List ℕ)) (rows : List VoucherAddition) (row : VoucherAddition) (number : ℕ)
    → reader_config a ≡ default_config → Knows rem start a rows number
    → ReadRecord rem a b true fields → voucher_of fields ≡ Ok row
    → Knows rem start b (rows ++ row ∷ []) (number + 1)
unfolding vouchers_from
goes_on rem None a b fields rows row number config had read is = tt
goes_on rem (Some text) a b fields rows row number config had read is =
    let (left, at, reached) = rows-more rem a b fields default_config st.StartRecord
    (strip_bom text) had.left (had.header ∷ had.others) config had.left_is had.reached read in
    record {
      header = had.header;
      others = had.others ++ fields ∷ [];
      left = left;
      left_is = at;
      reached = reached;
      first = had.first;
      count = omega (arith, had.count, length-append had.others (fields ∷ []));
      so_far = λ more.
          ap (vouchers_from 2) (append_assoc had.others (fields ∷ []) more)
          ∙ had.so_far (fields ∷ more)
          ∙ ap (λ (r : Result VoucherAddition FaultKind). (at_record number r >>= λ row.
          vouchers_from (number + 1) more >>= λ rest. Ok (row ∷ rest)) >>= λ rest.
          Ok (rows ++ rest)) is
          ∙ two_readings rows row (vouchers_from (number + 1) more);
    }

fault_is : (f : VoucherFault) (number : ℕ) → f.record_number ≡ number → fault_at number f.kind ≡ f
fault_is f number e = rw (← e) refl

not_memory : (kind : FaultKind) → IsTrue (is_in_file kind) → kind ≢ Memory
not_memory kind h e = absurd (cc (rw e at h))

-- the record has a fault
pub fails : {R : Type 0} (rem : R → Option (List ℕ)) (start : Option (List ℕ)) (a b : Reader R)
    (fields : List (List ℕ)) (rows : List VoucherAddition) (number : ℕ) (f : VoucherFault)
    → reader_config a ≡ default_config → Knows rem start a rows number
    → ReadRecord rem a b true fields → f.record_number ≡ number → IsTrue (is_in_file f.kind)
    → (f.kind ≢ Memory → voucher_of fields ≡ Err f.kind)
    → IfSome start (λ text. vouchers_in text ≡ Err f)
unfolding vouchers_from
fails rem None a b fields rows number f config had read at_number in_file is = tt
fails rem (Some text) a b fields rows number f config had read at_number in_file is =
    let (left, at, reached) = rows-more rem a b fields default_config st.StartRecord
    (strip_bom text) had.left (had.header ∷ had.others) config had.left_is had.reached read in
    let (more, records, last) =
    reached_first text (had.header ∷ had.others ++ fields ∷ []) (reader_state b) left reached in
    whole text had.header (had.others ++ fields ∷ []) more had.first records
    ∙ ap (vouchers_from 2) (append_assoc had.others (fields ∷ []) more) ∙ had.so_far (fields ∷ more)
    ∙ ap (λ (r : Result VoucherAddition FaultKind).
    (at_record number r >>= λ row. vouchers_from (number + 1) more >>= λ rest. Ok (row ∷ rest))
    >>= λ rest. Ok (rows ++ rest)) (is (not_memory f.kind in_file))
    ∙ ap Err (fault_is f number at_number)

-- no record follows
pub ends : {R : Type 0} (rem : R → Option (List ℕ)) (start : Option (List ℕ)) (a b : Reader R)
    (fields : List (List ℕ)) (rows : List VoucherAddition) (number : ℕ)
    → reader_config a ≡ default_config → Knows rem start a rows number
    → ReadRecord rem a b false fields → IfSome start (λ text. vouchers_in text ≡ Ok rows)
unfolding vouchers_from
ends rem None a b fields rows number config had read = tt
ends rem (Some text) a b fields rows number config had read =
    let over = rows-end rem a b fields default_config had.left config had.left_is read in
    let (more, records, last) =
    reached_first text (had.header ∷ had.others) (reader_state a) had.left had.reached in
    whole text had.header had.others more had.first records ∙ had.so_far more
    ∙ ap (λ (rs : List (List (List ℕ))). vouchers_from number rs >>= λ rest. Ok (rows ++ rest))
    (last over) ∙ ap Ok (append-nil rows)

-- reading stopped at this record
pub stops : {R : Type 0} (rem : R → Option (List ℕ)) (start : Option (List ℕ)) (a : Reader R)
    (rows : List VoucherAddition) (number : ℕ) → Knows rem start a rows number
    → IfSome start (MayStopAt number)
stops rem None a rows number had = tt
stops rem (Some text) a rows number had =
    let (more, records, last) =
    reached_first text (had.header ∷ had.others) (reader_state a) had.left had.reached in
    let total = whole text had.header had.others more had.first records ∙ had.so_far more in
    record {
      numbered = omega (arith, had.count);
      within =
          omega (arith, had.count, ap length records, length-append (had.header ∷ had.others) more);
      no_earlier = subst (NotBefore number) (sym total)
          (not_before_bind number rows (vouchers_from number more) (not_before number more));
    }

from_first : (records : List (List (List ℕ))) → NotBefore 1 (vouchers_of records)
from_first [] = omega arith
from_first (fields ∷ more) = first_of (is_header fields) (vouchers_from 2 more) (not_before 2 more)
  where
    first_of : (b : Bool) (r : Result (List VoucherAddition) VoucherFault) → NotBefore 2 r →
        NotBefore 1 (if b then r else Err (fault_at 1 Header))
    first_of true (Ok rows) h = tt
    first_of true (Err f) h = omega (arith, h)
    first_of false r h = omega arith

-- it stopped at the first
pub stops_first : (start : Option (List ℕ)) → IfSome start (MayStopAt 1)
stops_first None = tt
stops_first (Some text) = record {
  numbered = omega arith;
  within = omega arith;
  no_earlier = from_first (records_in text);
}

-- ---- how many rows there are

-- a vector has fewer than all that are counted
pub few_rows : {A : Type 0} (rows : Vec A Global) → length rows.items < 18446744073709551615
few_rows rows =
    let small : rows.cap < 9223372036854775808 = rows.small in
    omega (arith, rows.ok.0, rows.ok.1, small)
