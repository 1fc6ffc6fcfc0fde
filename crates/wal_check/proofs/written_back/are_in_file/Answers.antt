use Rattle.std.proofs.Common.{rules, arith, length}
use Rattle.std.proofs.lemmas.Bool.{and_from}
use Rattle.std.proofs.lemmas.Result.{err_from_is_err_and}
use Rattle.sqlite_wal.proofs.CleanLemmas.{halves}
use Rattle.sqlite_wal.proofs.PartLemmas.{frames_len-zero}
use Rattle.wal_check.proofs.Pages.{place_within, end_within, place_after, kept_more}
use Rattle.wal_check.proofs.written_back.are_in_file.Goals as goal

pub loop-i-init : goal.loop-i-init
loop-i-init g c = (
  λ clean i low. absurd (omega arith),
  search rules,
  search rules,
  search rules,
  omega (arith, frames_len-zero (length c.args.page.now)),
  omega (arith, c.in_ok-len.ensures.faults),
)

pub is_kept-requires-clause-at : goal.is_kept-requires-clause-at
is_kept-requires-clause-at g c = (
  c.loop-i.invariant.4,
  omega (arith, place_within _ _ _ _ _ _ c.loop-i.auto.page c.loop-i-test.true c.loop-i.invariant.4 c.requires.fits),
)

pub overflow_add-at-in-loop-i : goal.overflow_add-at-in-loop-i
overflow_add-at-in-loop-i g c =
    omega (arith, place_within _ _ _ _ _ _ c.loop-i.auto.page c.loop-i-test.true c.loop-i.invariant.4 c.requires.fits, c.is_kept.auto.page)

pub loop-i-preserved : goal.loop-i-preserved
loop-i-preserved g c = (
  λ clean.
      let inv = c.loop-i.invariant in
      let now = halves g.D.Disk _ _ clean in
      let before = and_from _ _ (c.is_kept.ensures.log.clean now.0) (c.is_kept.ensures.db.clean now.1) in
      let here = rw (inv.1.seen, inv.2.seen) at ((c.in_ok-is_kept.ensures.kept clean).0 c.if-not-branch.false) in
      kept_more _ _ _ _ _ _ c.is_kept.auto.page (inv.0 before) here,
  search rules,
  search rules,
  search rules,
  place_after _ _ _ _ c.is_kept.auto.page c.loop-i.invariant.4,
  omega (arith, c.in_ok-is_kept.ensures.faults, c.loop-i.invariant.5),
)

pub returns-in_err-is_kept-clause-faults : goal.returns-in_err-is_kept-clause-faults
returns-in_err-is_kept-clause-faults g c =
    let inv = c.loop-i.invariant in
    let p = err_from_is_err_and c.from_residual-in_err-is_kept.result c.from_residual-in_err-is_kept.ensures.1 in
    let counted = c.in_err-is_kept.ensures.faults in
    rw p.1 (
      λ known.
          let whole = known.1 c.loop-i.i c.loop-i-test.true in
          let within = end_within _ _ _ _ _ c.loop-i.auto.page inv.4 whole in
          omega (arith, inv.5, counted.0 (known.0, rw inv.1.seen within)),
      omega (arith, inv.5, counted.1),
    )
