use Rattle.std.proofs.Common.{◌<◌, ◌≤◌, ◌+◌, arith}
use Rattle.sql_tables.proofs.Versions.{of_none_more}
use Rattle.sql_tables.proofs.finding.version_of.Goals as goal

pub versions-init : goal.versions-init
versions-init g c v known high = absurd (let low : v ≤ 3 = known.1 in omega (arith, low, high))

pub versions-preserved : goal.versions-preserved
versions-preserved g c =
    of_none_more c.args.conn.now.schema c.versions.later _ c.in_ok-same.same
    c.in_ok-same.ensures.all (omega (arith, c.versions-test.true)) c.if-same.false
    c.versions.invariant

pub returns-clause-means : goal.returns-clause-means
returns-clause-means g c v known =
    let far : 3 < v + c.versions.later = omega (arith, known.0, c.versions-test.false) in
    c.versions.invariant v known far
