-- An account's history: what its accepted commands left. It only grows.
-- Source: profile; the ledger's facts of money and sessions are those of the account.
use Rattle.std.specs.Prelude.{Bool, false, List, [], Option}
use Rattle.std.specs.List.{find}
use Rattle.ledger.specs.Ledger.{Ledger}
use Rattle.commands.specs.declared.key.Key.{Key}
use Rattle.commands.specs.Keys.{same_key, key_of}
use Rattle.keepers.specs.declared.kept_answer.KeptAnswer.{KeptAnswer}

-- whether the account was opened; its ledger; and the accepted commands that have a key with their
-- answers, the newest first
pub record History : Type 0 where
  pub opened : Bool
  pub ledger : Ledger
  pub kept : List KeptAnswer

-- before any command
abbrev pub no_history : History
no_history = record { opened = false; ledger = []; kept = [] }

abbrev pub is_kept_under : Key → KeptAnswer → Bool
is_kept_under k kept = same_key (key_of kept.content) k

-- what is kept under a key
-- rule: repeat
abbrev pub kept_under : Key → History → Option KeptAnswer
kept_under k h = find (is_kept_under k) h.kept
