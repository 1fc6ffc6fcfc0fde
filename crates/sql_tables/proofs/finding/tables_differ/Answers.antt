use Rattle.std.proofs.Common.{rules, subst, ap, arith, ◌≡◌, ◌<◌, ◌∙◌, ℕ, List, length}
use Rattle.sqlite.specs.Held.{state}
use Rattle.sql_tables.specs.Schema.{schema_at}
use Rattle.sqlite_schema.specs.declared.schema.Schema.{Schema}
use Rattle.sqlite_schema.specs.declared.schema.Table.{Table}
use Rattle.sql_tables.proofs.OpeningSteps.{found_all, found_first, found_next, found_not}
use Rattle.sql_tables.proofs.OpeningSteps.{none_found, none_found_not}
use Rattle.sql_tables.proofs.OpeningTexts.{at_least, at_most, text_at}
use Rattle.sql_tables.proofs.finding.tables_differ.Goals as goal

pub rowids_differ-requires-clause-plain : goal.rowids_differ-requires-clause-plain
rowids_differ-requires-clause-plain g c =
    (text_at c.args.version 0 c.rowids_text.result.now c.requires.known
    (at_least c.args.version c.requires.known) c.rowids_text.ensures).rowids.plain

pub returns-in_err-rowids_differ : goal.returns-in_err-rowids_differ
returns-in_err-rowids_differ g c =
    let v = c.args.version in
    let next = text_at v 0 c.rowids_text.result.now c.requires.known
    (at_least v c.requires.known) c.rowids_text.ensures in
    let old = state g.S.Store c.args.conn.now in
    none_found_not v 1 old (state g.S.Store c.rowids_differ.new.conn)
    c.in_err-rowids_differ.field-0.0 c.from_residual.result (search rules)
    (c.in_err-rowids_differ.ensures 0 next (none_found v old c.requires.has))

pub tables-init : goal.tables-init
tables-init g c =
    let v = c.args.version in
    let next = text_at v 0 c.rowids_text.result.now c.requires.known
    (at_least v c.requires.known) c.rowids_text.ensures in
    let old = state g.S.Store c.args.conn.now in
    found_first v old (state g.S.Store c.rowids_differ.new.conn) c.in_ok-rowids_differ.field-0
    (c.in_ok-rowids_differ.ensures 0 next (none_found v old c.requires.has))

-- the tables of a schema are those of the version that it is
counted : (schema : Schema) (v count : ℕ) (tables : List Table) → count ≡ length tables
    → tables ≡ schema.tables → schema ≡ schema_at v → count ≡ length (schema_at v).tables
counted schema v count tables is same has =
    is ∙ ap length same ∙ ap (λ (s : Schema). length s.tables) has

pub rowids_text-requires-in-tables : goal.rowids_text-requires-in-tables
rowids_text-requires-in-tables g c =
    let v = c.args.version in
    let count : c.len-count.result ≡ length (schema_at v).tables =
    counted c.args.conn.now.schema v c.len-count.result c.schema.result.now.tables
    c.len-count.ensures (ap (λ (s : Schema). s.tables) c.schema.ensures.value) c.requires.has in
    let most = at_most v c.requires.known in
    omega (arith, most, count, c.tables-test.true)

pub rowids_differ-requires-in-tables-clause-plain :
    goal.rowids_differ-requires-in-tables-clause-plain
rowids_differ-requires-in-tables-clause-plain g c =
    let v = c.args.version in
    let count : c.len-count.result ≡ length (schema_at v).tables =
    counted c.args.conn.now.schema v c.len-count.result c.schema.result.now.tables
    c.len-count.ensures (ap (λ (s : Schema). s.tables) c.schema.ensures.value) c.requires.has in
    (text_at v c.tables.at c.rowids_text-in-tables.result.now c.requires.known
    (subst (λ n. c.tables.at < n) count c.tables-test.true)
    c.rowids_text-in-tables.ensures).rowids.plain

pub returns-in_err-rowids_differ-2 : goal.returns-in_err-rowids_differ-2
returns-in_err-rowids_differ-2 g c =
    let v = c.args.version in
    let count : c.len-count.result ≡ length (schema_at v).tables =
    counted c.args.conn.now.schema v c.len-count.result c.schema.result.now.tables
    c.len-count.ensures (ap (λ (s : Schema). s.tables) c.schema.ensures.value) c.requires.has in
    let next = text_at v c.tables.at c.rowids_text-in-tables.result.now c.requires.known
    (subst (λ n. c.tables.at < n) count c.tables-test.true) c.rowids_text-in-tables.ensures in
    found_not v c.tables.at (state g.S.Store c.args.conn.now) (state g.S.Store c.tables.conn)
    (state g.S.Store c.rowids_differ-in-tables.new.conn) c.in_err-rowids_differ-2.field-0.0
    c.from_residual-in_err-rowids_differ-2.result (search rules) c.tables.invariant
    (c.in_err-rowids_differ-2.ensures c.tables.at next (λ clean. (c.tables.invariant.1 clean).1))

pub tables-preserved : goal.tables-preserved
tables-preserved g c =
    let v = c.args.version in
    let count : c.len-count.result ≡ length (schema_at v).tables =
    counted c.args.conn.now.schema v c.len-count.result c.schema.result.now.tables
    c.len-count.ensures (ap (λ (s : Schema). s.tables) c.schema.ensures.value) c.requires.has in
    let next = text_at v c.tables.at c.rowids_text-in-tables.result.now c.requires.known
    (subst (λ n. c.tables.at < n) count c.tables-test.true) c.rowids_text-in-tables.ensures in
    found_next v c.tables.at (state g.S.Store c.args.conn.now) (state g.S.Store c.tables.conn)
    (state g.S.Store c.rowids_differ-in-tables.new.conn) c.in_ok-rowids_differ-2.field-0
    c.tables.invariant
    (c.in_ok-rowids_differ-2.ensures c.tables.at next (λ clean. (c.tables.invariant.1 clean).1))

pub returns : goal.returns
returns g c =
    let v = c.args.version in
    let count : c.len-count.result ≡ length (schema_at v).tables =
    counted c.args.conn.now.schema v c.len-count.result c.schema.result.now.tables
    c.len-count.ensures (ap (λ (s : Schema). s.tables) c.schema.ensures.value) c.requires.has in
    let least = at_least v c.requires.known in
    let end : c.tables.at ≡ length (schema_at v).tables = omega (arith, count, least) in
    found_all v c.tables.at (state g.S.Store c.args.conn.now) (state g.S.Store c.tables.conn) _ end
    c.tables.invariant
