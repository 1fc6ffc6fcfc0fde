use Rattle.std.proofs.Common.{◌≡◌, ◌∙◌, ◌∷◌, [], arith, refl, true}
use Rattle.std.specs.Result.{is_ok}
use Rattle.std.proofs.lemmas.Result.{err_from_is_err_and}
use Rattle.std.proofs.lemmas.List.{length-append}
use Rattle.std.proofs.lemmas.List.Elements.{All-nil, All-cons, All-append}
use Rattle.csv.specs.Records.{fields_of}
use Rattle.vouchers.specs.Rows.{IsVoucher}
use Rattle.vouchers.proofs.FileLemmas.{starts, first_keeps, no_header, goes_on, fails, ends, stops}
use Rattle.vouchers.proofs.FileLemmas.{stops_first, few_rows}
use Rattle.vouchers.proofs.reading.read_vouchers.Goals as goal

pub returns-in_err-has_header-clause-stopped : goal.returns-in_err-has_header-clause-stopped
returns-in_err-has_header-clause-stopped g c =
    let p = err_from_is_err_and c.from_residual.result c.from_residual.ensures.1 in
    rw (p.1, p.2) (λ other.
    rw c.in_err-has_header.ensures.number (stops_first (g.R.Read.remaining c.args.reader)))

pub returns-then-not-branch-clause-fault : goal.returns-then-not-branch-clause-fault
returns-then-not-branch-clause-fault g c = λ in_file.
    let fr = c.from_reader-records.ensures in
    let config = rw (c.flexible.ensures, c.has_headers.ensures) at fr.config
    ∙ c.new.ensures.config in
    no_header g.R.Read.remaining (g.R.Read.remaining c.args.reader) c.from_reader-records.result
    c.has_header.new.records config fr.source fr.state
    (rw c.if-not-branch.true at c.in_ok-has_header.ensures.reads)

pub loop-number-init : goal.loop-number-init
loop-number-init g c =
    let fr = c.from_reader-records.ensures in
    let config = rw (c.flexible.ensures, c.has_headers.ensures) at fr.config
    ∙ c.new.ensures.config in
    let trim = rw (c.flexible.ensures, c.has_headers.ensures) at fr.trim ∙ c.new.ensures.trim in
    let reads = rw c.if-not-branch.false at c.in_ok-has_header.ensures.reads in
    let kept = first_keeps g.R.Read.remaining c.from_reader-records.result
    c.has_header.new.records true reads in
    rw c.new-rows.ensures.items (
      kept.1 ∙ trim,
      c.in_ok-has_header.ensures.ready,
      kept.0 ∙ config,
      All-nil IsVoucher,
      starts g.R.Read.remaining (g.R.Read.remaining c.args.reader) c.from_reader-records.result
          c.has_header.new.records config fr.source fr.state reads,
      refl,
    )

pub returns-in_err-next_record-clause-stopped : goal.returns-in_err-next_record-clause-stopped
returns-in_err-next_record-clause-stopped g c =
    let p = err_from_is_err_and c.from_residual-in_err-next_record.result
    c.from_residual-in_err-next_record.ensures.1 in
    rw (p.1, p.2) (λ other. rw c.in_err-next_record.ensures.number
    (stops g.R.Read.remaining (g.R.Read.remaining c.args.reader) c.loop-number.records
    c.loop-number.rows.items c.loop-number.number c.loop-number.invariant.4))

pub returns-then-not-branch-2-clause-rows : goal.returns-then-not-branch-2-clause-rows
returns-then-not-branch-2-clause-rows g c =
    let inv = c.loop-number.invariant in
    ends g.R.Read.remaining
    (g.R.Read.remaining c.args.reader) c.loop-number.records c.next_record.new.records
    (fields_of c.next_record.new.fields) c.loop-number.rows.items c.loop-number.number
    inv.2 inv.4 (rw c.if-not-branch-2.true at c.in_ok-next_record.ensures.reads)

pub returns-in_err-row-clause-fault : goal.returns-in_err-row-clause-fault
returns-in_err-row-clause-fault g c =
    let inv = c.loop-number.invariant in
    let p =
    err_from_is_err_and c.from_residual-in_err-row.result c.from_residual-in_err-row.ensures.1 in
    rw (p.1, p.2) (λ in_file.
    fails g.R.Read.remaining
    (g.R.Read.remaining c.args.reader) c.loop-number.records c.next_record.new.records
    (fields_of c.next_record.new.fields) c.loop-number.rows.items c.loop-number.number
    c.in_err-row.field-0.0 inv.2 inv.4
    (rw c.if-not-branch-2.false at c.in_ok-next_record.ensures.reads) c.in_err-row.ensures.number
    in_file c.in_err-row.ensures.fault)

pub returns-in_err-row-clause-stopped : goal.returns-in_err-row-clause-stopped
returns-in_err-row-clause-stopped g c =
    let p =
    err_from_is_err_and c.from_residual-in_err-row.result c.from_residual-in_err-row.ensures.1 in
    rw (p.1, p.2) (λ other. rw c.in_err-row.ensures.number
    (stops g.R.Read.remaining (g.R.Read.remaining c.args.reader) c.loop-number.records
    c.loop-number.rows.items c.loop-number.number c.loop-number.invariant.4))

pub returns-then-is_err-clause-stopped : goal.returns-then-is_err-clause-stopped
returns-then-is_err-clause-stopped g c = λ other.
    stops g.R.Read.remaining (g.R.Read.remaining c.args.reader) c.loop-number.records
    c.loop-number.rows.items c.loop-number.number c.loop-number.invariant.4

pub loop-number-preserved : goal.loop-number-preserved
loop-number-preserved g c =
    let inv = c.loop-number.invariant in
    let read = rw c.if-not-branch-2.false at c.in_ok-next_record.ensures.reads in
    let good : is_ok c.push.result ≡ true = rw c.if-is_err.false at c.is_err.ensures.negation in
    let items = rw good at c.push.ensures.items in
    rw items (
      read.3 ∙ inv.0,
      c.in_ok-next_record.ensures.ready,
      read.2 ∙ inv.2,
      All-append IsVoucher c.loop-number.rows.items (c.in_ok-row.row ∷ []) inv.3
          (All-cons IsVoucher c.in_ok-row.row [] c.in_ok-row.ensures.in_range (All-nil IsVoucher)),
      goes_on g.R.Read.remaining
          (g.R.Read.remaining c.args.reader) c.loop-number.records c.next_record.new.records
          (fields_of c.next_record.new.fields) c.loop-number.rows.items c.in_ok-row.row
          c.loop-number.number inv.2 inv.4 read c.in_ok-row.ensures.value,
      omega (arith, inv.5, length-append c.loop-number.rows.items (c.in_ok-row.row ∷ [])),
    )

pub unreachable-requires : goal.unreachable-requires
unreachable-requires g c = omega (
  arith,
  few_rows c.loop-number.rows,
  c.loop-number.invariant.5,
  c.loop-number-test.false,
)
