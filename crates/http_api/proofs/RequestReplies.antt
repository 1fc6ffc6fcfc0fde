-- The reply to one request.
use Rattle.std.proofs.Common.{◌≡◌, ℕ, Bool, List, [], ◌∷◌, refl, sym, ap, subst}
use Rattle.std.proofs.Common.{◌∙◌, inl, inr, arith, Option, Some, None, Result, Ok, Err}
use Rattle.std.specs.Prelude.{IsErrAnd, OnErr}
pub use Rattle.std.proofs.lemmas.Result.{on_ok_weaker as ok_gives, on_err_weaker as err_gives}
use Rattle.texts.specs.declared.streams.StreamFault.{StreamFault}
use Rattle.texts.specs.declared.streams.StreamFault.TheVariants as stream
use Rattle.commands.specs.declared.answer.Answer.{Answer}
use Rattle.commands.specs.declared.command.Command.{Command}
use Rattle.json_fields.specs.declared.fault.WireFault.{WireFault}
use Rattle.json_fields.specs.declared.fault.WireFault.TheVariants.{Memory}
use Rattle.wire.specs.Spelled.{answer_text, fault_text}
use Rattle.shelves.specs.Shelves.{Shelf}
use Rattle.keepers.specs.declared.fault.StoreFault.{StoreFault}
use Rattle.keepers.specs.Tables.{Tables}
use Rattle.charging.specs.Accepted.{Accepted}
use Rattle.charging.specs.Continued.{ForEachList}
use Rattle.charging.specs.Served.{AreTables, Serves}
use Rattle.http_messages.specs.Statuses as status
use Rattle.http_messages.specs.Asking.{Asking, refuses, reads, states, IsAskingGiven}
use Rattle.http_messages.specs.declared.asking.StatementAsked.{StatementAsked}
use Rattle.http_messages.specs.declared.asking.HttpAsked.TheVariants as told
use Rattle.http_messages.specs.Refusals.{refusal_status}
use Rattle.http_messages.specs.Texts.{response, no_members, unable, AnswersFault}
use Rattle.http_messages.specs.declared.refusal.HttpRefusal.{HttpRefusal}
use Rattle.http_api.specs.Clocks.{GivesInTurn}
use Rattle.http_api.specs.Faults.{serve_fault}
use Rattle.http_api.specs.Replies.{refusal_reply, unserved, IsDue, IsReply, Replies}
use Rattle.http_api.specs.ReplyParts.{reply_at, MayAsk}
use Rattle.http_api.specs.declared.fault.ServeFault.{ServeFault}
use Rattle.http_api.specs.declared.fault.ServeFault.TheVariants as serve

-- a fault is known
pub fault_is : {B : Type 0} (q : Result B ServeFault) (why : ServeFault) →
    IsErrAnd q (λ e. e ≡ why) → q ≡ Err why
fault_is (Ok x) why gives = absurd gives
fault_is (Err e) why gives = ap (λ f. Err f) gives

abbrev fault_of : {A : Type 0} → Result A StreamFault → StreamFault
fault_of (Ok x) = stream.Memory
fault_of (Err e) = e

pub memory_told : {A B : Type 0} (r : Result A StreamFault) (q : Result B ServeFault) →
    r ≡ Err stream.Memory → IsErrAnd q (λ e. e ≡ serve_fault (fault_of r)) →
    q ≡ Err serve.Memory
memory_told r q is gives =
    fault_is q serve.Memory (subst (λ x. IsErrAnd q (λ e. e ≡ serve_fault (fault_of x))) is gives)

-- a fault of the writer is no other
pub not_memory : {A X : Type 0} (r : Result A StreamFault) → OnErr r (r ≡ Err stream.Write) →
    r ≡ Err stream.Memory → X
not_memory (Ok x) only e = absurd (cc)
not_memory (Err fault) only e = let both = sym e ∙ only in absurd (cc)

-- nor of a reader
pub not_read : {A : Type 0} (r : Result A StreamFault) → OnErr r (r ≡ Err stream.Write) →
    r ≡ Err stream.Read → ⊥
not_read (Ok x) only e = absurd (cc)
not_read (Err fault) only e = let both = sym e ∙ only in absurd (cc)

may_not : (read : Result Command WireFault) → MayAsk (reads read) []
may_not (Err fault) = refl
may_not (Ok c) = omega arith

-- a request that isn't read, without the clock
unread_unserved : (b : Shelf) (list : List Accepted) (read : Result Command WireFault) →
    IsReply b list (reads read) [] (unserved list)
unread_unserved b list read = inr (may_not read, refl)

-- a command at the clock's moment
once_unserved : (b : Shelf) (list : List Accepted) (c : Command) (m : Option ℕ) →
    IsReply b list (reads (Ok c)) (m ∷ []) (unserved list)
once_unserved b list c m = inr (omega arith, refl)

module _ {C : Type 0} (gives : C → Option ℕ → C → Type 0) (b : Shelf) (closes : Bool)
    (Writes : List ℕ → Type 0) where
  -- no memory or no store
  pub unserved_reply : (asking : Asking) (moments : List (Option ℕ)) (c0 c1 : C)
      (old new : Tables) →
      ((list : List Accepted) → IsReply b list asking moments (unserved list)) →
      GivesInTurn gives c0 moments c1 →
      ForEachList b old (λ list. AreTables b list new) →
      Writes (response status.service_unavailable closes unable) →
      Replies gives b asking closes c0 c1 Writes old new
  unserved_reply asking moments c0 c1 old new is given same w = record {
    moments = moments;
    given = given;
    text = response status.service_unavailable closes unable;
    written = w;
    replied = λ list time are. record {
      reply = unserved list;
      is_reply = is list;
      written = refl;
      tables = same list time are;
      time = time;
    };
  }

  -- a request that changes nothing, without the clock
  due_reply : (asking : Asking) (code : ℕ) (body : List ℕ) (c : C) (tables : Tables) →
      ((list : List Accepted) → IsReply b list asking [] (refusal_reply list code body)) →
      Writes (response code closes body) → Replies gives b asking closes c c Writes tables tables
  due_reply asking code body c tables due w = record {
    moments = [];
    given = refl;
    text = response code closes body;
    written = w;
    replied = λ list time are. record {
      reply = refusal_reply list code body;
      is_reply = due list;
      written = refl;
      tables = are;
      time = time;
    };
  }

  refused_by : (code : ℕ) (c : C) (tables : Tables) → Writes (response code closes no_members) →
      Replies gives b (refuses code) closes c c Writes tables tables
  refused_by code c tables w =
      due_reply (refuses code) code no_members c tables (λ list. (refl, refl)) w

  -- a refusal
  pub refused_reply : (why : HttpRefusal) (c : C) (tables : Tables) →
      Writes (response (refusal_status why) closes no_members) → (asking : Asking) →
      IsAskingGiven asking (told.Refused why) →
      Replies gives b asking closes c c Writes tables tables
  refused_reply why c tables w (refuses s) asked =
      subst (λ x. Replies gives b (refuses x) closes c c Writes tables tables) asked
      (refused_by (refusal_status why) c tables w)
  refused_reply why c tables w (reads read) asked = absurd asked
  refused_reply why c tables w (states q) asked = absurd asked

  unread_by : (fault : WireFault) (c : C) (tables : Tables) (read : Result Command WireFault) →
      AnswersFault closes fault Writes → (¬ (fault ≡ Memory) → read ≡ Err fault) →
      Replies gives b (reads read) closes c c Writes tables tables
  unread_by fault c tables read (inl w) fails =
      due_reply (reads read) status.bad_request (fault_text fault) c tables
      (λ list. inl (subst (λ r. IsDue b list (reads r) []
      (refusal_reply list status.bad_request (fault_text fault))) (sym (fails w.0))
      (refl, refl))) w.1
  unread_by fault c tables read (inr w) fails = unserved_reply (reads read) [] c c tables tables
      (λ list. unread_unserved b list read) refl (λ list time are. are) w.1

  -- memory ran out for a statement that is asked for
  unstated_by : (fault : WireFault) (c : C) (tables : Tables) (q : StatementAsked) →
      AnswersFault closes fault Writes → (¬ (fault ≡ Memory) → Ok q ≡ Err fault) →
      Replies gives b (states q) closes c c Writes tables tables
  unstated_by fault c tables q (inl w) fails = let same = fails w.0 in absurd (cc)
  unstated_by fault c tables q (inr w) fails = unserved_reply (states q) [] c c tables tables
      (λ list. inr (omega arith, refl)) refl (λ list time are. are) w.1

  -- a request that isn't read
  pub unread_reply : (fault : WireFault) (c : C) (tables : Tables) →
      AnswersFault closes fault Writes → (asking : Asking) →
      IsAskingGiven asking (told.Unread fault) →
      Replies gives b asking closes c c Writes tables tables
  unread_reply fault c tables tells (refuses s) asked = absurd asked
  unread_reply fault c tables tells (reads read) asked = unread_by fault c tables read tells asked
  unread_reply fault c tables tells (states q) asked = unstated_by fault c tables q tells asked

  -- a command, whatever it is read from
  pub command_reply : (c : Command) (c0 c1 : C) (old new : Tables) →
      Replies gives b (reads (Ok c)) closes c0 c1 Writes old new → (asking : Asking) →
      IsAskingGiven asking (told.Does c) → Replies gives b asking closes c0 c1 Writes old new
  command_reply c c0 c1 old new replies (refuses s) asked = absurd asked
  command_reply c c0 c1 old new replies (reads read) asked =
      subst (λ r. Replies gives b (reads r) closes c0 c1 Writes old new) (sym asked) replies
  command_reply c c0 c1 old new replies (states q) asked = absurd asked

  -- a statement, whatever it is read from
  pub statement_reply : (q : StatementAsked) (c0 c1 : C) (old new : Tables) →
      Replies gives b (states q) closes c0 c1 Writes old new → (asking : Asking) →
      IsAskingGiven asking (told.States q) → Replies gives b asking closes c0 c1 Writes old new
  statement_reply q c0 c1 old new replies (refuses s) asked = absurd asked
  statement_reply q c0 c1 old new replies (reads read) asked = absurd asked
  statement_reply q c0 c1 old new replies (states a) asked =
      subst (λ x. Replies gives b (states x) closes c0 c1 Writes old new) (sym asked) replies

  -- a clock that doesn't answer
  pub unclocked_reply : (c : Command) (c0 c1 : C) (tables : Tables) →
      gives c0 None c1 → Writes (response status.service_unavailable closes unable) →
      Replies gives b (reads (Ok c)) closes c0 c1 Writes tables tables
  unclocked_reply c c0 c1 tables given w = unserved_reply (reads (Ok c))
      (None ∷ []) c0 c1 tables tables (λ list. once_unserved b list c None) (c1, given, refl)
      (λ list time are. are) w

  -- a store fault
  -- rule: http-read, http-503
  pub failed_reply : (c : Command) (t : ℕ) (c0 c1 : C) (old new : Tables) (fault : StoreFault) →
      gives c0 (Some t) c1 → Serves b c t old new (Err fault) →
      Writes (response status.service_unavailable closes unable) →
      Replies gives b (reads (Ok c)) closes c0 c1 Writes old new
  failed_reply c t c0 c1 old new fault given serves w =
      unserved_reply (reads (Ok c)) (Some t ∷ []) c0 c1 old new
      (λ list. once_unserved b list c (Some t)) (c1, given, refl)
      (λ list time are. subst (AreTables b list) (sym (serves list time are)) are) w

  -- a command that is served, and its answer given
  -- rule: http-read
  pub served_reply : (c : Command) (t : ℕ) (c0 c1 : C) (old new : Tables) (answer : Answer) →
      gives c0 (Some t) c1 → Serves b c t old new (Ok answer) →
      Writes (response status.ok closes (answer_text answer)) →
      Replies gives b (reads (Ok c)) closes c0 c1 Writes old new
  served_reply c t c0 c1 old new answer given serves w = record {
    moments = Some t ∷ [];
    given = (c1, given, refl);
    text = response status.ok closes (answer_text answer);
    written = w;
    replied = λ list time are.
        let served = serves list time are in
        record {
          reply = reply_at b list c (Some t);
          is_reply = inl (Some t, refl, refl);
          written = ap (λ a. response status.ok closes (answer_text a)) served.answer;
          tables = served.tables;
          time = served.time;
        };
  }
