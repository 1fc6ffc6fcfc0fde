-- A keeper as a contract sees it.
-- Source: profile.
use Rattle.std.specs.Prelude.{ℕ}
use Rattle.keepers.specs.Tables.{Tables}

-- what is said of a keeper is said of this
-- rule: honest-store: an answer comes only from a store that can be asked; a stop between two
--   calls leaves the tables as they are
pub record Seen : Type 1 where
  -- the tables
  pub tables : Tables
  -- how many calls met a failure of the store
  pub failed : ℕ
  -- the store returned what was written, and nobody else writes it: a premise
  pub honest : Type 0
  -- the store is honest, and it can still be asked
  pub clean : Type 0
  -- these tables are found when the store is opened again after a stop at this moment
  pub left : Tables → Type 0
