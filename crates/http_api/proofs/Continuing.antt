-- Dated commands come to a list, one after another.
use Rattle.std.proofs.Common.{ℕ, List, [], ◌∷◌, ◌++◌, refl, sym, subst, Result, Ok, Err}
use Rattle.std.proofs.Common.{◌⊎◌, inl, inr, Some}
use Rattle.commands.specs.declared.answer.Answer.{Answer}
use Rattle.commands.specs.declared.command.Command.{Command}
use Rattle.shelves.specs.Shelves.{Shelf}
use Rattle.keepers.specs.declared.fault.StoreFault.{StoreFault}
use Rattle.keepers.specs.Seen.{Seen}
use Rattle.keepers.specs.Tables.{Tables}
use Rattle.charging.specs.Accepted.{Accepted, IsInTime}
use Rattle.charging.specs.Parts.{Leaves}
use Rattle.charging.specs.Served.{AreTables, Serves, Writes}
use Rattle.charging.specs.Continued.{ForEachList, IsContinued, LeavesOn}
use Rattle.charging.specs.Runs.{after_commands}
use Rattle.charging.proofs.runs.RunLemmas.{commands_after, time-more}
use Rattle.charging.proofs.outcomes.Serving.{left_as}
use Rattle.http_messages.specs.Asking.{Asking, refuses, reads, states, IsAskingGiven}
use Rattle.http_messages.specs.declared.asking.HttpAsked.TheVariants as told
use Rattle.http_api.specs.Replies.{LeavesReply}
use Rattle.http_api.specs.ReplyParts.{reply_at}

-- none
pub continued_none : (b : Shelf) (tables : Tables) → ForEachList b tables (IsContinued b tables)
continued_none b tables = λ list time are. record { commands = []; tables = are; time = time }

-- and then more
pub continued_more : (b : Shelf) (old mid new : Tables) → ForEachList b old (IsContinued b mid) →
    ForEachList b mid (IsContinued b new) → ForEachList b old (IsContinued b new)
continued_more b old mid new f g = λ list time are.
    let first : IsContinued b mid list = f list time are in
    let more : IsContinued b new (after_commands b list first.commands) =
    g (after_commands b list first.commands) first.time first.tables in
    let same = commands_after b list first.commands more.commands in
    record {
      commands = first.commands ++ more.commands;
      tables = subst (λ (l : List Accepted). AreTables b l new) (sym same) more.tables;
      time = subst IsInTime (sym same) more.time;
    }

-- a command that is written
pub continued_writes : (b : Shelf) (c : Command) (t : ℕ) (old new : Tables) →
    Writes b c t old new → ForEachList b old (IsContinued b new)
continued_writes b c t old new writes = λ list time are. record {
  commands = record { moment = t; command = c } ∷ [];
  tables = writes list time are;
  time = time-more b list (record { moment = t; command = c }) time;
}

module _ (b : Shelf) where
  -- what a stop leaves of a command
  pub leaves_step : (c : Command) (t : ℕ) (old new : Seen) →
      Leaves old new (λ held. old.clean × Writes b c t old.tables held) → LeavesOn b old new
  leaves_step c t old new left = λ h held l. left_as (left h held l) (λ before. before)
      (λ w. (w.0, continued_writes b c t old.tables held w.1))

  -- and of one call after another
  pub leaves_more : (old mid new : Seen) → (mid.clean → old.clean) →
      (mid.clean → ForEachList b old.tables (IsContinued b mid.tables)) →
      (new.honest → mid.honest) → LeavesOn b old mid → LeavesOn b mid new → LeavesOn b old new
  leaves_more old mid new cleanness continued honesty first second = λ h held l.
      at held h (second h held l)
    where
      at : (held : Tables) → new.honest →
          mid.left held ⊎ (mid.clean × ForEachList b mid.tables (IsContinued b held)) →
          old.left held ⊎ (old.clean × ForEachList b old.tables (IsContinued b held))
      at held h (inl l) = first (honesty h) held l
      at held h (inr w) = inr (
        cleanness w.0,
        continued_more b old.tables mid.tables held (continued w.0) w.1,
      )

-- a step
pub continued_step : (b : Shelf) (c : Command) (t : ℕ)
    (old new : Tables) (result : Result Answer StoreFault) → Serves b c t old new result →
    ForEachList b old (IsContinued b new)
continued_step b c t old new (Ok given) serves = λ list time are.
    let served = serves list time are in
    record {
      commands = record { moment = t; command = c } ∷ [];
      tables = served.tables;
      time = served.time;
    }
continued_step b c t old new (Err fault) serves = λ list time are.
    record {
      commands = [];
      tables = subst (AreTables b list) (sym (serves list time are)) are;
      time = time;
    }

-- ---- what a stop leaves of a request

module _ (b : Shelf) where
  -- of a command at the clock's moment: it is due
  pub held_step : (c : Command) (t : ℕ) (old new : Seen) →
      Leaves old new (λ held. old.clean × Writes b c t old.tables held) →
      LeavesReply b (reads (Ok c)) old new
  held_step c t old new left = λ h held l. left_as (left h held l) (λ before. before)
      (λ w. (
        w.0,
        λ list time are. record {
          moments = Some t ∷ [];
          reply = reply_at b list c (Some t);
          is_reply = inl (Some t, refl, refl);
          tables = w.1 list time are;
          time = time-more b list (record { moment = t; command = c }) time;
        },
      ))

  -- of a command, whatever it is read from
  pub held_asked : (c : Command) (old new : Seen) →
      LeavesReply b (reads (Ok c)) old new → (asking : Asking) →
      IsAskingGiven asking (told.Does c) → LeavesReply b asking old new
  held_asked c old new left (refuses s) asked = absurd asked
  held_asked c old new left (reads read) asked =
      subst (λ r. LeavesReply b (reads r) old new) (sym asked) left
  held_asked c old new left (states q) asked = absurd asked
