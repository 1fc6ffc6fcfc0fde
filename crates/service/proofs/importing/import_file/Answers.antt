use Rattle.std.proofs.Common.{rules, Err, refl}
use Rattle.std.proofs.lemmas.Result.{err_from_is_err_and}
use Rattle.service.proofs.ImportingLemmas.{carried_on, carried_unread, not_told}
use Rattle.service.proofs.importing.import_file.Goals as goal

pub returns-in_err-rows : goal.returns-in_err-rows
returns-in_err-rows g c =
    let p = err_from_is_err_and c.from_residual.result c.from_residual.ensures.1 in
    record {
      done = search rules;
      printed = search rules;
      fault = search rules;
      unwritten = search rules;
      told = search rules;
      keeper = carried_unread (g.K.Keeper.seen c.args.keeper.now) c.from_residual.result p.0 _ p.1
          p.2;
    }

pub returns-in_err-serve_import : goal.returns-in_err-serve_import
returns-in_err-serve_import g c =
    let p = err_from_is_err_and c.from_residual-in_err-serve_import.result
    c.from_residual-in_err-serve_import.ensures.1 in
    record {
      done = search rules;
      printed = search rules;
      fault = λ clean. rw (p.1, p.2)
          (not_told c.args.shelf.now c.args.moment (g.K.Keeper.seen c.args.keeper.now).tables
          (g.K.Keeper.seen c.serve_import.new.keeper).tables
          (g.O.Write.contents c.args.output.now) (g.O.Write.contents c.serve_import.new.writer)
          c.in_ok-rows.rows.items (g.R.Read.remaining c.args.reader) (Err _) _ refl
          c.in_ok-rows.ensures.rows
          (λ fault e. c.in_err-serve_import.ensures.untold fault e clean)
          (λ fault e. c.in_err-serve_import.ensures.unserved fault e clean));
      unwritten = search rules;
      told = search rules;
      keeper = carried_on (g.K.Keeper.seen c.args.keeper.now)
          (g.K.Keeper.seen c.serve_import.new.keeper) c.from_residual-in_err-serve_import.result
          p.0 _ p.1 p.2 c.in_err-serve_import.ensures.keeper;
    }
