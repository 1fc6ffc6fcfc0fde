use Rattle.std.proofs.Common.{[], ◌++◌, ◌∷◌, refl, rules, arith}
use Rattle.sqlite.specs.Given.{HasGiven}
use Rattle.sqlite.specs.State.{HasCleanDisk, Survives, CommitsShowing}
use Rattle.sqlite.specs.Held.{state}
use Rattle.sqlite.proofs.StateLemmas.{survives_then}
use Rattle.sqlite.proofs.Callers.{begun_plain, unchanged_then}
use Rattle.sql_tables.proofs.Keeps.{fails_spares}
use Rattle.sql_tables.proofs.Steps.{commits_nothing}
use Rattle.sql_rules.proofs.reservations.are_granted.Goals as goal

pub returns-in_err-rows-clause-crash : goal.returns-in_err-rows-clause-crash
returns-in_err-rows-clause-crash g c =
    let old = state g.S.Store c.args.conn.now in
    let new = state g.S.Store c.query.follows.lender-at-none in
    let held = c.query.follows.holds-at-none in
    let kept : Survives old new (CommitsShowing c.args.sql.now [] old) = search rules in
    commits_nothing c.args.sql.now [] old new c.requires.plain kept

pub returns-in_err-rows-clause-spares : goal.returns-in_err-rows-clause-spares
returns-in_err-rows-clause-spares g c clean =
    let held = (rw (c.in_err-rows.was) at c.query.follows.holds-at-none) in
    fails_spares c.args.sql.now [] (state g.S.Store c.args.conn.now)
    (state g.S.Store c.query.follows.lender-at-none) c.in_err-rows.field-0.0 (held.err clean)

pub rows-init : goal.rows-init
rows-init g c =
    let made = c.in_ok-rows.ensures in (
      refl,
      commits_nothing _ _ _ _ c.requires.plain made.survives,
      λ clean. let begun = begun_plain g.S.Store _ _ c.args.conn.now _
          (c.requires.plain (omega (arith, made.survives.clean, clean))) (made.begun clean) in
          ([], begun.0, begun.1, refl),
    )

pub returns-in_default-clause-walk : goal.returns-in_default-clause-walk
returns-in_default-clause-walk g c clean =
    let moved = c.next.follows.holds-at-none in
    let now = c.next.follows.lender-at-none.conn.now in
    let late : HasCleanDisk (state g.S.Store now) = search rules in
    let was = c.rows.invariant.2 (omega (arith, moved.survives.clean)) in
    let shown =
    (rw (c.in_ok-row.was, c.in_default.is) at (moved.ok late)) c.args.sql.now [] was.0 was.1 in
    (c.rows.rows.conn.now, was.0, was.2, search (rules, shown), was.3)

pub rows-preserved : goal.rows-preserved
rows-preserved g c =
    let old = state g.S.Store c.args.conn.now in
    let mid = state g.S.Store c.rows.rows.conn.now in
    let moved = c.next.follows.holds-at-none in
    let now = c.next.follows.lender-at-none.conn.now in (
      search rules,
      survives_then old mid (state g.S.Store now) _ _ (λ _. ⊥) (λ _ db none. none)
          (λ _ db none. none) c.rows.invariant.1 moved.survives,
      λ clean.
          let was = c.rows.invariant.2 (omega (arith, moved.survives.clean)) in
          let on : HasGiven g.S.Store c.args.sql.now [] now (was.0 ++ c.in-Some.row.now ∷ []) =
          (rw (c.in_ok-row.was, c.in-Some.is) at (moved.ok clean)) c.args.sql.now []
          was.0 was.1 in (
            was.0 ++ c.in-Some.row.now ∷ [],
            on,
            unchanged_then old mid (state g.S.Store now) was.2 (search (rules, moved.same)),
            c.still_granted-granted.ensures was.0 was.3,
          ),
    )
