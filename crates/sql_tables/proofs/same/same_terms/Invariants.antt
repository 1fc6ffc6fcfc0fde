use Rattle.std.proofs.Common.{◌≡◌, take}
use Rattle.sqlite_schema.specs.Code.{terms_in}
use Rattle.sql_tables.proofs.same.same_terms.Given as goal

abbrev pub invariant-roots : goal.invariant-roots
invariant-roots l = take l.at (terms_in l.first l.roots) ≡ take l.at (terms_in l.second l.others)
