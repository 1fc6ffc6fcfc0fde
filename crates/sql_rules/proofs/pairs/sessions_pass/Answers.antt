use Rattle.std.proofs.Common.{sym, subst}
use Rattle.sqlite.specs.Given.{IsPlain}
use Rattle.sqlite.specs.Held.{state}
use Rattle.sqlite.specs.Listing.{understood}
use Rattle.sqlite_schema.specs.declared.schema.Schema.{Schema}
use Rattle.sql_tables.specs.Schema.{accounts, sessions}
use Rattle.sql_rules.specs.Beside.{NoneWrong, is_touched_after}
use Rattle.sql_rules.proofs.Beside.{touched_tests}
use Rattle.sql_rules.proofs.BesideTexts.{touched_at, touched_terms, touched_text}
use Rattle.sql_rules.proofs.BesideTold.{none_told, not_told, some_told}
use Rattle.sql_rules.proofs.pairs.sessions_pass.Goals as goal

pub finds_none-requires : goal.finds_none-requires
finds_none-requires g c = record {
  plain = λ clean. subst (λ (s : Schema). IsPlain (understood s touched_text))
      (sym (c.requires.ours clean)) (touched_at c.args.version c.requires.known).plain;
}

pub returns-in-Ok-true : goal.returns-in-Ok-true
returns-in-Ok-true g c =
    none_told c.args.version touched_text accounts sessions touched_terms
    is_touched_after touched_tests
    (touched_at c.args.version c.requires.known) (state g.S.Store c.args.conn.now)
    (state g.S.Store c.finds_none.new.conn) c.requires.ours _ c.in-Ok-true.field-0
    c.in-Ok-true.field-0-test c.in-Ok-true.ensures

pub returns-in-Ok-false : goal.returns-in-Ok-false
returns-in-Ok-false g c =
    some_told c.args.version touched_text accounts sessions touched_terms
    is_touched_after touched_tests
    (touched_at c.args.version c.requires.known) (state g.S.Store c.args.conn.now)
    (state g.S.Store c.finds_none.new.conn) c.requires.ours c.in-Ok-false.field-0
    c.in-Ok-false.field-0-test c.in-Ok-false.ensures

pub returns-in-Err : goal.returns-in-Err
returns-in-Err g c =
    not_told (NoneWrong is_touched_after accounts sessions) touched_text (state g.S.Store c.args.conn.now)
    (state g.S.Store c.finds_none.new.conn) c.in-Err.error c.fault_of.result
    c.fault_of.ensures.told c.fault_of.ensures.none c.in-Err.ensures
