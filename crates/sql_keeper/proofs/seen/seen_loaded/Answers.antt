use Rattle.sql_keeper.proofs.kept.SeenRows.{load_seen}
use Rattle.sql_keeper.proofs.seen.seen_loaded.Goals as goal

pub returns : goal.returns
returns c = λ names shelf t a trees load.
    load_seen names shelf t a trees c.args.loaded.now c.seen_of.result c.seen_of.ensures load
