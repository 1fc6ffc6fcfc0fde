use Rattle.std.proofs.Common.{Option}
use Rattle.sql_keeper.specs.KeptRows.{Keeps}
use Rattle.sql_keeper.specs.declared.kept_rows.KeptRows.{KeptRows}
use Rattle.sql_keeper.proofs.reads.HandedOn.{value_taken}
use Rattle.sql_keeper.proofs.kept.KeptRows.{kept_loaded}
use Rattle.sql_keeper.proofs.kept_rows.kept_of.Goals as goal

pub returns : goal.returns
returns c = λ names shelf t a trees load.
    value_taken (λ (o : Option KeptRows). Keeps names o trees) c.rows_loaded.result c.ok.result
    c.ok.ensures.value c.rows_loaded.ensures tt
    (λ x is. kept_loaded names shelf t a trees c.args.loaded.now x is load)
