use Rattle.std.proofs.Common.{refl, sym, ◌∙◌}
use Rattle.sqlite.specs.Held.{state}
use Rattle.sqlite_trees.specs.View.{doubt}
use Rattle.sql_tables.proofs.Plains.{same_as}
use Rattle.sql_tables.proofs.finding.has_version.Goals as goal

pub returns-in-Err-clause-means : goal.returns-in-Err-clause-means
returns-in-Err-clause-means g c = c.fault_of.ensures.means (state g.S.Store c.args.conn.now).now

pub returns-clause-has : goal.returns-clause-has
unfolding doubt
returns-clause-has g c =
    (same_as c.schema.result.now c.args.conn.now.schema c.args.version c.same_schema.result
    c.requires.known (c.schema.ensures.value ∙ (c.in-Ok.ensures.made refl).schema)
    (λ same. c.same_schema.ensures.equal same ∙ c.schema-2.ensures.value)
    (λ plain same. c.same_schema.ensures.all plain (same ∙ sym c.schema-2.ensures.value))).0

pub returns-clause-all : goal.returns-clause-all
unfolding doubt
returns-clause-all g c =
    (same_as c.schema.result.now c.args.conn.now.schema c.args.version c.same_schema.result
    c.requires.known (c.schema.ensures.value ∙ (c.in-Ok.ensures.made refl).schema)
    (λ same. c.same_schema.ensures.equal same ∙ c.schema-2.ensures.value)
    (λ plain same. c.same_schema.ensures.all plain (same ∙ sym c.schema-2.ensures.value))).1
