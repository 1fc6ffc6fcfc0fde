use Rattle.sql_keeper.proofs.kept_rows.kept_or_loaded.Goals as goal

pub returns-else-is_kept_of : goal.returns-else-is_kept_of
returns-else-is_kept_of c = λ names shelf t a trees keeps load.
    c.kept_of.ensures names shelf t a trees load
