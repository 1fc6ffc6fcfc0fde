-- That a table goes both ways: from a value to its number or name and back.
use Rattle.std.specs.Prelude.{◌≡◌, Option, Some}
use Rattle.commands.specs.Names.{name_of, avp_named}
use Rattle.commands.specs.Codes.{kind_number, kind_numbered, action_number, action_numbered}
use Rattle.commands.specs.Codes.{service_failure_number, service_failure_numbered, balance_number}
use Rattle.commands.specs.Codes.{balance_numbered, refusal_name, refusal_named}
use Rattle.commands.specs.Reports.{usage_number, usage_numbered}

-- a value is found by what it is written as, and what is found is written so
-- rule: codes
pub record IsTable {A W : Type 0} (written : A → W) (found : W → Option A) : Type 0 where
  pub there : (x : A) → found (written x) ≡ Some x
  pub back : (w : W) (x : A) → found w ≡ Some x → written x ≡ w

-- rule: codes: each table of names and numbers is read as it is written
pub record AreTables : Type 0 where
  pub avps : IsTable name_of avp_named
  pub kinds : IsTable kind_number kind_numbered
  pub actions : IsTable action_number action_numbered
  pub service_failures : IsTable service_failure_number service_failure_numbered
  pub balances : IsTable balance_number balance_numbered
  pub refusals : IsTable refusal_name refusal_named
  pub usages : IsTable usage_number usage_numbered
