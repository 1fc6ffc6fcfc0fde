use Rattle.std.proofs.Common.{arith, refl}
use Rattle.sqlite_schema.specs.Code.{term_in}
use Rattle.sql_tables.specs.Plain.{is_plain_term}
use Rattle.sql_tables.proofs.Plains.{all_same, grown, plain_at, same_at}
use Rattle.sql_tables.proofs.same.same_terms.Goals as goal

pub returns-then-not-same_term-clause-all : goal.returns-then-not-same_term-clause-all
returns-then-not-same_term-clause-all c plain same =
    c.if-not-same_term.ensures.all
    (plain_at is_plain_term
    (term_in c.args.first.now) c.args.roots.now c.roots.at c.roots-test.true plain)
    (same_at (term_in c.args.first.now) (term_in c.args.second.now) c.args.roots.now
    c.args.others.now c.roots.at c.roots-test.true same)

pub roots-preserved : goal.roots-preserved
roots-preserved c =
    grown (term_in c.args.first.now)
    (term_in c.args.second.now) c.args.roots.now c.args.others.now c.roots.at
    c.roots-test.true (omega (arith, c.roots-test.true, c.if-roots-others.false)) c.roots.invariant
    (c.if-not-same_term.ensures.equal refl)

pub returns-clause-equal : goal.returns-clause-equal
returns-clause-equal c yes' =
    all_same (term_in c.args.first.now)
    (term_in c.args.second.now) c.args.roots.now c.args.others.now c.roots.at
    c.if-roots-others.false c.roots-test.false c.roots.invariant
