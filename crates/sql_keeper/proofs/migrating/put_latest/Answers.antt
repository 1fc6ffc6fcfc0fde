use Rattle.sql_rows.specs.Texts.{meta_of}
use Rattle.sql_keeper.proofs.migrations.Granted.{puts_meta}
use Rattle.sql_keeper.proofs.puts.Puts.{answered, list_makes}
use Rattle.sql_keeper.proofs.migrating.put_latest.Goals as goal

pub returns-clause-over : goal.returns-clause-over
returns-clause-over g c =
    answered (list_makes c.in_ok-put_all_numbers.ensures.over (record {
      same_reference = c.in_ok-put_meta.ensures.same_reference;
      makes = puts_meta (meta_of c.args.meta.now) _ c.as_str.ensures.value _ _ _
          c.in_ok-put_meta.ensures.makes;
    }))
