use Rattle.sql_keeper.proofs.replaced_rows.insert_at.Goals as goal

pub returns : goal.returns
returns g c = record { place = c.min-place.result; is = c.in_ok-insert.ensures.items }
