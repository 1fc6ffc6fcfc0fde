use Rattle.matchit.specs.Route.{parse_route}
use Rattle.http_messages.proofs.Inserts.{inserts_read, one_error}
use Rattle.http_messages.proofs.routes.add.Goals as goal

pub returns-in-Ok-clause-added : goal.returns-in-Ok-clause-added
returns-in-Ok-clause-added c = inserts_read (parse_route c.args.text.now) c.args.value
    c.args.router.now c.insert.new.self c.insert.result c.in-Ok.field-0 c.insert.ensures c.in-Ok.is

pub refused-requires : goal.refused-requires
refused-requires c = one_error (parse_route c.args.text.now) c.args.value c.args.router.now
    c.insert.new.self c.insert.result c.in-Err.error c.requires c.insert.ensures c.in-Err.is
