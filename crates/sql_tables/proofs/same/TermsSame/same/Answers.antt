use Rattle.std.proofs.Common.{◌≡◌, rules}
use Rattle.sqlite_schema.specs.Code.{terms_in}
use Rattle.sql_tables.proofs.Plains.{told_of}
use Rattle.sql_tables.proofs.same.TermsSame.same.Goals as goal

pub returns-clause-all : goal.returns-clause-all
returns-clause-all c =
    let one : c.args.self.now ≡ terms_in c.as_slice.result.now c.as_slice-2.result.now =
    search rules in
    let two : c.args.other.now ≡ terms_in c.as_slice-3.result.now c.as_slice-4.result.now =
    search rules in
    told_of _ _ _ _ c.same_terms.result one two c.same_terms.ensures.all
