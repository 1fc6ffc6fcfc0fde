use Rattle.std.proofs.Common.{◌≡◌, ◌≤◌, ◌<◌, ◌∙◌, ℕ, List, length, arith, rules, subst, sym, ap}
use Rattle.std.specs.Prelude.{min}
use Rattle.std.proofs.Math.Nat.{min-eq_left, min-le_right}
use Rattle.sqlite.specs.Held.{state}
use Rattle.sqlite.specs.State.{HasCleanDisk}
use Rattle.sqlite_schema.specs.declared.schema.Schema.{Schema}
use Rattle.sqlite_schema.specs.declared.schema.Table.{Table}
use Rattle.sql_tables.specs.Opens.{IsVersion}
use Rattle.sql_tables.specs.Schema.{schema_at}
use Rattle.sql_rules.proofs.Steps.{found_all, found_first, found_next, found_not, none_found_not}
use Rattle.sql_rules.proofs.Steps.{still_ours}
use Rattle.sql_tables.proofs.OpeningTexts.{at_least, at_most}
use Rattle.sql_rules.proofs.ruling.tables_pass.Goals as goal

-- the tables of a schema are those of the version that it is, and no version has more than all
counted : (schema : Schema) (v many count : ℕ) (tables : List Table) → IsVersion v
    → many ≡ length tables → tables ≡ schema.tables → count ≡ min many 14 → schema ≡ schema_at v
    → count ≡ length (schema_at v).tables
counted schema v many count tables known is same least has =
    let all : many ≡ length (schema_at v).tables =
    is ∙ ap length same ∙ ap (λ (s : Schema). length s.tables) has in
    let low : many ≤ 14 = subst (λ n. n ≤ 14) (sym all) (at_most v known) in
    least ∙ min-eq_left low ∙ all

pub table_passes-requires-clause-most : goal.table_passes-requires-clause-most
table_passes-requires-clause-most g c clean = at_least c.args.version c.requires.known

pub returns-in_err-table_passes : goal.returns-in_err-table_passes
returns-in_err-table_passes g c =
    let v = c.args.version in
    none_found_not c.args.shelf.now c.args.last v (state g.S.Store c.args.conn.now)
    (state g.S.Store c.table_passes.new.conn) c.in_err-table_passes.field-0.0
    c.from_residual.result (search rules) (at_least v c.requires.known)
    c.in_err-table_passes.ensures

pub tables-init : goal.tables-init
tables-init g c =
    found_first c.args.shelf.now c.args.last (state g.S.Store c.args.conn.now)
    (state g.S.Store c.table_passes.new.conn) c.in_ok-table_passes.field-0
    c.in_ok-table_passes.ensures

pub table_passes-requires-in-tables-clause-place : goal.table_passes-requires-in-tables-clause-place
table_passes-requires-in-tables-clause-place g c =
    let most : c.min-count.result ≤ 14 =
    subst (λ n. n ≤ 14) (sym c.min-count.ensures) (min-le_right c.len.result 14) in
    let low : c.tables.at < 14 = omega (arith, most, c.tables-test.true) in
    low

pub table_passes-requires-in-tables-clause-most : goal.table_passes-requires-in-tables-clause-most
table_passes-requires-in-tables-clause-most g c clean =
    let was : HasCleanDisk (state g.S.Store c.args.conn.now) =
    omega (arith, c.tables.invariant.0.clean, clean) in
    let count = counted c.args.conn.now.schema c.args.version c.len.result c.min-count.result
    c.schema.result.now.tables c.requires.known c.len.ensures
    (ap (λ (s : Schema). s.tables) c.schema.ensures.value) c.min-count.ensures
    (c.requires.ours was) in
    subst (λ n. c.tables.at < n) count c.tables-test.true

pub table_passes-requires-in-tables-clause-ours : goal.table_passes-requires-in-tables-clause-ours
table_passes-requires-in-tables-clause-ours g c =
    still_ours c.args.shelf.now c.args.last c.args.version c.tables.at
    (state g.S.Store c.args.conn.now)
    (state g.S.Store c.tables.conn) c.tables.invariant c.requires.ours

pub returns-in_err-table_passes-2 : goal.returns-in_err-table_passes-2
returns-in_err-table_passes-2 g c =
    found_not c.args.shelf.now c.args.last c.args.version c.tables.at
    (state g.S.Store c.args.conn.now)
    (state g.S.Store c.tables.conn) (state g.S.Store c.table_passes-in-tables.new.conn)
    c.in_err-table_passes-2.field-0.0 c.from_residual-in_err-table_passes-2.result (search rules)
    (λ was.
    let count = counted c.args.conn.now.schema c.args.version c.len.result c.min-count.result
    c.schema.result.now.tables c.requires.known c.len.ensures
    (ap (λ (s : Schema). s.tables) c.schema.ensures.value) c.min-count.ensures
    (c.requires.ours was) in
    subst (λ n. c.tables.at < n) count c.tables-test.true)
    c.tables.invariant c.in_err-table_passes-2.ensures

pub tables-preserved : goal.tables-preserved
tables-preserved g c =
    found_next c.args.shelf.now c.args.last c.tables.at (state g.S.Store c.args.conn.now)
    (state g.S.Store c.tables.conn) (state g.S.Store c.table_passes-in-tables.new.conn)
    c.in_ok-table_passes-2.field-0 c.tables.invariant c.in_ok-table_passes-2.ensures

pub returns : goal.returns
returns g c =
    let least = at_least c.args.version c.requires.known in
    let end : HasCleanDisk (state g.S.Store c.args.conn.now)
    → c.tables.at ≡ length (schema_at c.args.version).tables =
    λ was.
    let count = counted c.args.conn.now.schema c.args.version c.len.result c.min-count.result
    c.schema.result.now.tables c.requires.known c.len.ensures
    (ap (λ (s : Schema). s.tables) c.schema.ensures.value) c.min-count.ensures
    (c.requires.ours was) in
    omega (arith, count, least) in
    found_all c.args.shelf.now c.args.last c.args.version c.tables.at
    (state g.S.Store c.args.conn.now) (state g.S.Store c.tables.conn) _ end c.tables.invariant
