-- The reply to a request for a statement.
use Rattle.std.proofs.Common.{◌≡◌, ◌∙◌, ℕ, Bool, true, false, List, [], ◌∷◌, refl, sym, ap, subst}
use Rattle.std.proofs.Common.{inl, inr, arith, Option, Some, None, Result, Err, ◌≤◌}
use Rattle.std.specs.Prelude.{if◌then◌else◌, OnErr}
use Rattle.texts.specs.declared.streams.StreamFault.{StreamFault}
use Rattle.texts.specs.declared.streams.StreamFault.TheVariants as stream
use Rattle.commands.specs.declared.answer.Answer.TheVariants.{Refused}
use Rattle.commands.specs.declared.answer.Refusal.TheVariants.{AccountUnknown}
use Rattle.wire.specs.Spelled.{answer_text}
use Rattle.shelves.specs.Shelves.{Shelf}
use Rattle.ledger.specs.ChargeColumns.{ChargeColumns}
use Rattle.ledger.specs.Charges.{charge_rows}
use Rattle.keepers.specs.Seen.{Seen}
use Rattle.keepers.specs.Tables.{Tables}
use Rattle.keepers.specs.Rows.{AreCharges}
use Rattle.keepers.proofs.Numbered.{charges_rise}
use Rattle.charging.specs.Accepted.{Accepted, IsInTime}
use Rattle.charging.specs.Continued.{ForEachList, IsContinued}
use Rattle.charging.specs.Histories.{History}
use Rattle.charging.specs.Served.{AreTables, history, moment_of}
use Rattle.charging.specs.States.{IsState, IsStateAt, TellsState}
use Rattle.charging.specs.declared.balances.AccountState.{AccountState}
use Rattle.statements.specs.Texts.{statement_text}
use Rattle.http_messages.specs.Statuses as status
use Rattle.http_messages.specs.Asking.{states}
use Rattle.http_messages.specs.declared.asking.StatementAsked.{StatementAsked}
use Rattle.http_messages.specs.declared.text.Media.TheVariants.{Text}
use Rattle.http_messages.specs.Texts.{response, response_of, unable, AnswersText}
use Rattle.charging.specs.Balances.{by_number}
use Rattle.ledger.specs.Balance.{buckets_at}
use Rattle.ledger.specs.Pricing.{validity_of}
use Rattle.http_api.specs.Replies.{unserved, GoesOnAfterReply}
use Rattle.http_api.specs.ReplyParts.{MayAsk, statement_media, statement_reply}
use Rattle.http_api.specs.Replies.{reply_text, IsReplied, Replies}
use Rattle.http_api.specs.Told.{IsBodyTold, TellsAnswer, TellsCharges}
use Rattle.http_api.proofs.RequestReplies.{unserved_reply}

-- the charges of the tables are those of the ledger
are_charges : (b : Shelf) (a : List ℕ) (list : List Accepted) (tables : Tables) →
    AreTables b list tables →
    AreCharges (tables.charges a) (charge_rows (history b a list).ledger)
are_charges b a list tables h =
    record { rising = charges_rise (history b a list).ledger; listed = λ n. sym (h.charges a n) }

-- a read leaves the list as it is
pub continued_same : (b : Shelf) (old new : Tables) → new ≡ old →
    ForEachList b old (IsContinued b new)
continued_same b old new same = λ list time are.
    record { commands = []; tables = subst (AreTables b list) (sym same) are; time = time }

-- where the tables stay, and the writer alone fails
pub goes_on_same : {A : Type 0} (b : Shelf) (old new : Seen) (result : Result A StreamFault) →
    OnErr result (result ≡ Err stream.Write) → (new.clean → new.tables ≡ old.tables) →
    (new.clean → old.clean) → (new.honest → old.honest) →
    (new.honest → (t : Tables) → new.left t → old.left t) → old.failed ≤ new.failed →
    GoesOnAfterReply b old new result
goes_on_same b old new result only same cleanness honesty left failures =
    record {
      fault = only;
      continued = λ whole. continued_same b old.tables new.tables (same whole);
      cleanness = cleanness;
      honesty = honesty;
      left = λ h t l. inl (left h t l);
      failures = failures;
    }

once : (m : Option ℕ) (q : StatementAsked) → MayAsk (states q) (m ∷ [])
once m q = omega arith

module _ {C : Type 0} (gives : C → Option ℕ → C → Type 0) (b : Shelf) (closes : Bool)
    (Writes : List ℕ → Type 0) (q : StatementAsked) where
  -- a clock that doesn't answer, no memory or no store
  pub unstated_reply : (m : Option ℕ) (c0 c1 : C) (old new : Tables) →
      gives c0 m c1 → new ≡ old → Writes (response status.service_unavailable closes unable) →
      Replies gives b (states q) closes c0 c1 Writes old new
  unstated_reply m c0 c1 old new given same w =
      unserved_reply gives b closes Writes (states q) (m ∷ []) c0 c1 old new
      (λ list. inr (once m q, refl)) (c1, given, refl)
      (λ list time are. subst (AreTables b list) (sym same) are) w

  -- the text of an account that isn't there
  unknown_text : (t : ℕ) (list : List Accepted) (h : History) → h.opened ≡ false →
      response status.ok closes (answer_text (Refused AccountUnknown))
      ≡ reply_text closes (statement_reply b list q t h)
  unknown_text t list h closed =
      sym (ap (λ v. response_of (statement_media v) status.ok closes
      (if v then statement_text b.first
      q.account q.month t (charge_rows h.ledger) (by_number (buckets_at (validity_of b) t h.ledger))
      else answer_text (Refused AccountUnknown))) closed)

  unknown_told : (t : ℕ) (c0 c1 : C) (old new : Tables) (found : Option AccountState) →
      gives c0 (Some t) c1 → TellsState b q.account t old found → found ≡ None → new ≡ old →
      Writes (response status.ok closes (answer_text (Refused AccountUnknown))) →
      Replies gives b (states q) closes c0 c1 Writes old new
  unknown_told t c0 c1 old new found given tells is same w = record {
    moments = Some t ∷ [];
    given = (c1, given, refl);
    text = response status.ok closes (answer_text (Refused AccountUnknown));
    written = w;
    replied = λ list time are.
        let h : History = history b q.account list in
        let closed : h.opened ≡ false = subst (λ (o : Option AccountState).
        IsState b (moment_of list t) h o) is (tells list time are) in
        record {
          reply = statement_reply b list q (moment_of list t) h;
          is_reply = inl (Some t, refl, refl);
          written = unknown_text (moment_of list t) list h closed;
          tables = subst (AreTables b list) (sym same) are;
          time = time;
        };
  }

  pub unknown_reply : (t : ℕ) (c0 c1 : C) (old new : Tables) (found : Option AccountState) →
      gives c0 (Some t) c1 → TellsState b q.account t old found → found ≡ None → new ≡ old →
      TellsAnswer (Refused AccountUnknown) closes Writes →
      Replies gives b (states q) closes c0 c1 Writes old new
  unknown_reply t c0 c1 old new found given tells is same (inl w) =
      unknown_told t c0 c1 old new found given tells is same w
  unknown_reply t c0 c1 old new found given tells is same (inr w) =
      unstated_reply (Some t) c0 c1 old new given same w

  -- the text of one whose state was found
  stated_text : (t : ℕ) (list : List Accepted) (h : History) (s : AccountState) → h.opened ≡ true →
      IsStateAt b t h.ledger s →
      response_of Text status.ok closes
      (statement_text b.first q.account q.month s.moment (charge_rows h.ledger) s.buckets.items)
      ≡ reply_text closes (statement_reply b list q t h)
  stated_text t list h s opened is =
      (λ i. response_of Text status.ok closes
      (statement_text b.first q.account q.month (is.moment i) (charge_rows h.ledger)
      (is.buckets i)))
      ∙ sym (ap (λ v. response_of (statement_media v) status.ok closes
      (if v then statement_text b.first
      q.account q.month t (charge_rows h.ledger) (by_number (buckets_at (validity_of b) t h.ledger))
      else answer_text (Refused AccountUnknown))) opened)

  -- what is said of charges, of one list
  told_reply : (t : ℕ) (list : List Accepted) (new : Tables) (h : History) (s : AccountState)
      (text : List ℕ) → h ≡ history b q.account list → AreTables b list new → IsInTime list →
      h.opened ≡ true → IsStateAt b (moment_of list t) h.ledger s →
      IsBodyTold closes
      (statement_text b.first q.account q.month s.moment (charge_rows h.ledger) s.buckets.items)
      text →
      IsReplied b (states q) closes (Some t ∷ []) text new list
  told_reply t list new h s text same are time opened is (inl e) = record {
    reply = statement_reply b list q (moment_of list t) h;
    is_reply = inl (Some t, refl, ap (statement_reply b list q (moment_of list t)) same);
    written = e ∙ stated_text (moment_of list t) list h s opened is;
    tables = are;
    time = time;
  }
  told_reply t list new h s text same are time opened is (inr e) = record {
    reply = unserved list;
    is_reply = inr (once (Some t) q, refl);
    written = e;
    tables = are;
    time = time;
  }

  pub stated_reply : (t : ℕ) (c0 c1 : C) (old mid new : Tables) (found : Option AccountState)
      (s : AccountState) → gives c0 (Some t) c1 → TellsState b q.account t old found →
      found ≡ Some s → mid ≡ old → new ≡ mid →
      TellsCharges (mid.charges q.account)
      (λ rows. statement_text b.first q.account q.month s.moment rows s.buckets.items)
      closes Writes →
      Replies gives b (states q) closes c0 c1 Writes old new
  stated_reply t c0 c1 old mid new found s given states_ is first second tells = record {
    moments = Some t ∷ [];
    given = (c1, given, refl);
    text = tells.text;
    written = tells.written;
    replied = λ list time are.
        let h : History = history b q.account list in
        let state : IsState b (moment_of list t) h (Some s) = subst (λ (o : Option AccountState).
        IsState b (moment_of list t) h o) is (states_ list time are) in
        let charges : AreCharges (mid.charges q.account) (charge_rows h.ledger) =
        subst (λ (x : Tables). AreCharges (x.charges q.account) (charge_rows h.ledger)) (sym first)
        (are_charges b q.account list old are) in
        told_reply t list new h s tells.text refl (subst (AreTables b list) (sym (second ∙ first))
        are) time state.0 state.1 (tells.told (charge_rows h.ledger) charges);
  }

-- ---- what is written of charges

module _ (charges : ℕ → Option ChargeColumns) (body : List ChargeColumns → List ℕ) (closes : Bool)
    (Writes : List ℕ → Type 0) where
  pub tells_nothing : Writes (response status.service_unavailable closes unable) →
      TellsCharges charges body closes Writes
  tells_nothing w = record {
    text = response status.service_unavailable closes unable;
    written = w;
    told = λ rows are. inr refl;
  }

  pub tells_body : (text : List ℕ) →
      ((rows : List ChargeColumns) → AreCharges charges rows → text ≡ body rows) →
      AnswersText closes status.ok text Writes → TellsCharges charges body closes Writes
  tells_body text is (inl w) = record {
    text = response_of Text status.ok closes text;
    written = w;
    told = λ rows are. inl (ap (response_of Text status.ok closes) (is rows are));
  }
  tells_body text is (inr w) = tells_nothing w
