-- A connection as it goes on: so many requests were taken, and one more, up to its end or to a
-- fault.
use Rattle.std.proofs.Common.{◌≡◌, ◌≢◌, ◌≤◌, ◌<◌, ◌+◌, ◌-◌, ◌==◌, ℕ, zero, suc, Bool, true, false}
use Rattle.std.proofs.Common.{true≢false, List, [], ◌∷◌, ◌++◌, take, refl, sym, ap, subst}
use Rattle.std.proofs.Common.{◌∙◌, inl, inr, arith, le_refl, Option, Some, None, IfSome, Err}
use Rattle.std.specs.Prelude.{IsErrAnd, OnErr, Result, Ok, IfOk}
use Rattle.std.specs.Io.KnownBytes.{Appends}
use Rattle.std.proofs.KnownBytes.{Appends-nil, Appends-trans}
use Rattle.texts.specs.declared.streams.StreamFault.{StreamFault}
use Rattle.texts.specs.declared.streams.StreamFault.TheVariants as broken
use Rattle.shelves.specs.Shelves.{Shelf}
use Rattle.keepers.specs.Seen.{Seen}
use Rattle.keepers.specs.Tables.{Tables}
use Rattle.charging.specs.Accepted.{Accepted, IsInTime}
use Rattle.charging.specs.Continued.{ForEachList, GoesOn}
use Rattle.charging.specs.Parts.{Leaves}
use Rattle.charging.specs.Served.{AreTables}
use Rattle.charging.proofs.outcomes.Serving.{left_as}
use Rattle.http_messages.specs.Parts.{first_part}
use Rattle.http_messages.proofs.Refusals.{refused_says}
use Rattle.http_messages.specs.Requests.{Next, asks, refused, ended, IsNextRequest}
use Rattle.http_messages.specs.Asking.{Asking, refuses, IsAskingGiven}
use Rattle.http_messages.specs.Table.{asked_of}
use Rattle.http_messages.specs.Texts.{AppendsBeginning}
use Rattle.http_api.specs.declared.fault.ServeFault.{ServeFault}
use Rattle.http_api.specs.declared.fault.ServeFault.TheVariants as fault
use Rattle.http_api.specs.declared.hearing.Heard.{Heard}
use Rattle.http_api.specs.declared.serving.Served.{Served}
use Rattle.http_api.specs.Clocks.{GivesInTurn}
use Rattle.http_api.specs.Faults.{serve_fault}
use Rattle.http_api.specs.Hearing.{Hears, HearsNext}
use Rattle.http_api.specs.Replies.{reply_text, IsReplied, Replies, IsReplyHeld, LeavesReply}
use Rattle.http_api.specs.Replies.{AreLeftAfter, HoldsNext}
use Rattle.http_api.specs.Connections.{Connection, new_connection, after_reply}
use Rattle.http_api.specs.ReplyParts.{requests_left_after}
use Rattle.http_api.specs.Connections.{IsRequestAnswered, Takes, AreTurns, AreRequestsTaken, IsOver}
use Rattle.http_api.specs.Connections.{IsConnectionPart, IsNextUnread, IsCutOff}
use Rattle.http_api.specs.Connections.{ComesTo}
use Rattle.http_api.specs.Connections.{ServesConnection, IsLeftByRequests}
use Rattle.http_api.proofs.Continuing.{continued_none}
use Rattle.http_api.proofs.RequestReplies.{fault_is, not_memory, not_read}
use Rattle.http_api.proofs.ShownReplies.{holds_none, left_same}
use Rattle.http_api.proofs.Statuses.{SaysStatus, asked_says, reply_says}

-- where the reader shows its bytes, a stop leaves what it left before, or, of a keeper that was
-- clean before, tables to which at most so many of its requests come
abbrev pub LeavesTurns : Shelf → Option (List ℕ) → ℕ → Seen → Seen → Type 0
LeavesTurns b bytes most old new = IfSome bytes (λ stream.
    Leaves old new (λ t. old.clean × ForEachList b old.tables (IsLeftByRequests b stream most t)))

plus_one : (n : ℕ) → suc n ≡ n + 1
plus_one n = omega arith

-- ---- moments

gives-more : {C : Type 0} (gives : C → Option ℕ → C → Type 0) (a b c : C)
    (ms ns : List (Option ℕ)) → GivesInTurn gives a ms b → GivesInTurn gives b ns c →
    GivesInTurn gives a (ms ++ ns) c
gives-more gives a b c [] ns f g = subst (λ x. GivesInTurn gives x ns c) f g
gives-more gives a b c (m ∷ ms) ns f g = (f.0, f.1, gives-more gives f.0 b c ms ns f.2 g)

-- ---- what is heard

-- a request that was heard, as it is taken
record IsHeard (b : Shelf) (next : Next) (heard : Heard) (left : Option (List ℕ)) : Type 0 where
  asking : Asking
  rest : List ℕ
  asked : IsAskingGiven asking heard.asked
  says : SaysStatus asking
  takes : (old new : Connection) → IsRequestAnswered b asking heard.closes rest old new →
      Takes b next old new
  goes_on : heard.closes ≡ false → left ≡ Some rest

heard_case : (b : Shelf) (stream : List ℕ) (next : Next) (heard : Heard)
    (left : Option (List ℕ)) → IsNextRequest stream next → HearsNext next (Some heard) left →
    IsHeard b next heard left
heard_case b stream (asks ask rest) heard left is_next h = record {
  asking = asked_of ask;
  rest = rest;
  asked = h.0;
  says = asked_says ask;
  takes = λ old new answered.
      subst (λ closes. IsRequestAnswered b (asked_of ask) closes rest old new) h.1 answered;
  goes_on = λ e. h.2;
}
heard_case b stream (refused status) heard left is_next h = record {
  asking = refuses status;
  rest = [];
  asked = h.0;
  says = refused_says (first_part stream) status is_next;
  takes = λ old new answered.
      subst (λ closes. IsRequestAnswered b (refuses status) closes [] old new) h.1 answered;
  goes_on = λ e. absurd (true≢false (sym h.1 ∙ e));
}
heard_case b stream ended heard left is_next h = absurd h

ended_case : (next : Next) (left : Option (List ℕ)) → HearsNext next None left → next ≡ ended
ended_case (asks ask rest) left h = absurd h
ended_case (refused status) left h = absurd h
ended_case ended left h = refl

-- a connection that takes more requests wasn't ended
not_closed : (closes : Bool) (left : ℕ) → requests_left_after closes left ≢ 0 → closes ≡ false
not_closed true left h = absurd (h refl)
not_closed false left h = refl

-- ---- one more request

-- of lists whose tables these are
abbrev AreOf : Shelf → Tables → List Accepted → Type 0
AreOf b tables = λ list. AreTables b list tables

-- so many requests were taken, and this is left
record IsAt (b : Shelf) (stream : List ℕ)
    (count left : ℕ) (rest : List ℕ) (moments : List (Option ℕ)) (text : List ℕ) (content : Tables)
    (list : List Accepted) : Type 0 where
  taken : AreRequestsTaken b stream count moments text (AreOf b content) list
  left_is : taken.last.left ≡ left
  rest_is : taken.last.rest ≡ rest

at-none : (b : Shelf) (stream : List ℕ) (tables : Tables) →
    ForEachList b tables (IsAt b stream 0 1000 stream [] [] tables)
at-none b stream tables = λ list time are. record {
  taken = record {
    last = new_connection stream list;
    turns = refl;
    given = refl;
    written = refl;
    is = are;
    time = time;
  };
  left_is = refl;
  rest_is = refl;
}

-- so many of its requests were answered with a text, and one more with another
abbrev IsTakenWith : Shelf → List ℕ → ℕ → List (Option ℕ) → List ℕ → List ℕ →
    (List Accepted → Type 0) → List Accepted → Type 0
IsTakenWith b stream count moments text more Is list =
    (taken : AreRequestsTaken b stream (suc count) moments (text ++ more) Is list)
    × (taken.turns.0.written ≡ text)

-- one more is answered, and this is left
record IsMoreAt (b : Shelf) (stream : List ℕ) (count left : ℕ) (closes : Bool) (after : List ℕ)
    (moments : List (Option ℕ)) (text more : List ℕ) (content : Tables) (list : List Accepted) :
    Type 0 where
  turned : IsTakenWith b stream count moments text more (AreOf b content) list
  left_is : turned.0.last.left ≡ requests_left_after closes left
  rest_is : turned.0.last.rest ≡ after

more-at : (b : Shelf) (stream : List ℕ) (count left : ℕ) (rest after : List ℕ)
    (moments ms : List (Option ℕ)) (text more : List ℕ) (mid new : Tables) (list : List Accepted)
    (asking : Asking) (closes : Bool) (next : Next) →
    0 < left → IsNextRequest rest next → SaysStatus asking →
    ((old last : Connection) → IsRequestAnswered b asking closes after old last →
    Takes b next old last) →
    (at : IsAt b stream count left rest moments text mid list) →
    IsReplied b asking (requests_left_after closes left == 0) ms more new at.taken.last.list →
    IsMoreAt b stream count left closes after (moments ++ ms) text more new list
more-at b stream count left rest after moments ms text more mid new list asking closes next some
    is_next says takes at replied =
    let old : Connection = at.taken.last in
    let last : Connection = after_reply old closes after ms replied.reply in
    record {
      turned = (
        record {
          last = last;
          turns = (
            old,
            at.taken.turns,
            record {
              taken = subst (λ n. 0 < n) (sym at.left_is) some;
              next = next;
              is_next = subst (λ r. IsNextRequest r next) (sym at.rest_is) is_next;
              takes = takes old last (record {
                moments = ms;
                reply = replied.reply;
                is_reply = replied.is_reply;
                status = reply_says b old.list asking ms replied.reply says replied.is_reply;
                after = refl;
              });
            },
          );
          given = ap (λ l. l ++ ms) at.taken.given;
          written = (λ i. at.taken.written i
              ++ reply_text (requests_left_after closes (at.left_is i) == 0) replied.reply)
              ∙ ap (λ l. text ++ l) (sym replied.written);
          is = replied.tables;
          time = replied.time;
        },
        at.taken.written,
      );
      left_is = ap (requests_left_after closes) at.left_is;
      rest_is = refl;
    }

-- rule: http-end
at-more : (b : Shelf) (stream : List ℕ) (count left : ℕ) (closes : Bool) (after : List ℕ)
    (moments : List (Option ℕ)) (text more : List ℕ) (new : Tables) (list : List Accepted) →
    IsMoreAt b stream count left closes after moments text more new list →
    IsAt b stream (count + 1) (requests_left_after closes left) after moments (text ++ more) new
    list
at-more b stream count left closes after moments text more new list m = record {
  taken = record {
    last = m.turned.0.last;
    turns = subst (λ n. AreTurns b n (new_connection stream list) m.turned.0.last) (plus_one count)
        m.turned.0.turns;
    given = m.turned.0.given;
    written = m.turned.0.written;
    is = m.turned.0.is;
    time = m.turned.0.time;
  };
  left_is = m.left_is;
  rest_is = m.rest_is;
}

module _ {C : Type 0} (gives : C → Option ℕ → C → Type 0) (b : Shelf) where
  -- so many requests of a stream were taken, and it goes on
  pub record IsSoFar (stream : List ℕ) (count left : ℕ) (r : Option (List ℕ)) (c0 c1 : C)
      (w0 w1 : Option (List ℕ)) (old new : Tables) : Type 0 where
    rest : List ℕ
    rest_is : r ≡ Some rest
    moments : List (Option ℕ)
    given : GivesInTurn gives c0 moments c1
    text : List ℕ
    written : Appends w0 w1 text
    at : ForEachList b old (IsAt b stream count left rest moments text new)

  -- the same, of the tables at the last moment at which a store could be asked
  pub record IsHeldSoFar (count left : ℕ) (r0 r1 : Option (List ℕ)) (c0 c1 : C)
      (w0 w1 : Option (List ℕ)) (old now : Seen) : Type 0 where
    pub held : Tables
    pub holds : HoldsNext b old now old.tables held
    pub so_far : IfSome r0 (λ stream. IsSoFar stream count left r1 c0 c1 w0 w1 old.tables held)

  pub so_far-none : (r : Option (List ℕ)) (c : C) (w : Option (List ℕ)) (tables : Tables) →
      IfSome r (λ stream. IsSoFar stream 0 1000 r c c w w tables tables)
  so_far-none None c w tables = tt
  so_far-none (Some stream) c w tables = record {
    rest = stream;
    rest_is = refl;
    moments = [];
    given = refl;
    text = [];
    written = Appends-nil w;
    at = at-none b stream tables;
  }

  -- one request more, with its answer written whole or in part
  pub record IsOneMore (stream : List ℕ) (count left : ℕ) (closes : Bool)
      (r : Option (List ℕ)) (c0 c1 : C) (w0 w1 : Option (List ℕ)) (Writes : List ℕ → Type 0)
      (old new : Tables) : Type 0 where
    rest : List ℕ
    rest_is : closes ≡ false → r ≡ Some rest
    moments : List (Option ℕ)
    given : GivesInTurn gives c0 moments c1
    text : List ℕ
    written : Appends w0 w1 text
    more : List ℕ
    wrote : Writes more
    turned : ForEachList b old (IsTakenWith b stream count moments text more (AreOf b new))
    at : ForEachList b old
        (IsAt b stream (count + 1) (requests_left_after closes left) rest moments (text ++ more)
        new)

  one_more : (stream : List ℕ) (count left : ℕ) (r1 r2 : Option (List ℕ))
      (c0 c1 c2 : C) (w0 w1 : Option (List ℕ)) (Writes : List ℕ → Type 0) (old mid new : Tables)
      (heard : Heard) → 0 < left →
      IsSoFar stream count left r1 c0 c1 w0 w1 old mid → IfSome r1 (λ s. Hears s (Some heard) r2) →
      ((asking : Asking) → IsAskingGiven asking heard.asked →
      Replies gives b asking (requests_left_after heard.closes left == 0) c1 c2 Writes mid new) →
      IsOneMore stream count left heard.closes r2 c0 c2 w0 w1 Writes old new
  one_more stream count left r1 r2 c0 c1 c2 w0 w1 Writes old mid new heard some so hears replies =
      let here : Hears so.rest (Some heard) r2 =
      subst (λ (r : Option (List ℕ)). IfSome r (λ s. Hears s (Some heard) r2)) so.rest_is hears in
      let case : IsHeard b here.next heard r2 = heard_case b so.rest here.next heard r2 here.is_next
      here.hears in
      let reply : Replies gives b case.asking
      (requests_left_after heard.closes left == 0) c1 c2 Writes mid new =
      replies case.asking case.asked in
      let moments : List (Option ℕ) = so.moments ++ reply.moments in
      let more_at : ForEachList b old (IsMoreAt b stream count left heard.closes case.rest moments
      so.text reply.text new) = λ list time are.
      let at : IsAt b stream count left so.rest so.moments so.text mid list =
      so.at list time are in
      more-at b stream count left so.rest case.rest so.moments reply.moments so.text
      reply.text mid new list case.asking heard.closes here.next some here.is_next case.says
      case.takes at (reply.replied at.taken.last.list at.taken.time at.taken.is) in
      record {
        rest = case.rest;
        rest_is = case.goes_on;
        moments = moments;
        given = gives-more gives c0 c1 c2 so.moments reply.moments so.given reply.given;
        text = so.text;
        written = so.written;
        more = reply.text;
        wrote = reply.written;
        turned = λ list time are. (more_at list time are).turned;
        at = λ list time are. at-more b stream count left heard.closes case.rest moments so.text
            reply.text new list (more_at list time are);
      }

  -- the same, of what is known of a call
  pub taken_one : (count left next : ℕ) (flag : Bool) (r0 r1 r2 : Option (List ℕ))
      (c0 c1 c2 : C) (w0 w1 : Option (List ℕ)) (Writes : List ℕ → Type 0) (old mid new : Tables)
      (o : Option Heard) (heard : Heard) →
      0 < left → o ≡ Some heard → next ≡ requests_left_after heard.closes left →
      flag ≡ (next == 0) →
      IfSome r0 (λ stream. IsSoFar stream count left r1 c0 c1 w0 w1 old mid) →
      IfSome r1 (λ s. Hears s o r2) →
      ((asking : Asking) →
      IsAskingGiven asking heard.asked → Replies gives b asking flag c1 c2 Writes mid new) →
      IfSome r0 (λ stream. IsOneMore stream count left heard.closes r2 c0 c2 w0 w1 Writes old new)
  taken_one count left next flag None r1 r2 c0 c1 c2 w0 w1 Writes old mid new o heard some is
      next_is flag_is so hears replies = tt
  taken_one count left next flag (Some stream) r1 r2 c0 c1 c2 w0 w1 Writes old mid new o heard some
      is next_is flag_is so hears replies =
      one_more stream count left r1 r2 c0 c1 c2 w0 w1 Writes old mid new heard some so
      (subst (λ (x : Option Heard). IfSome r1 (λ s. Hears s x r2)) is hears)
      (λ asking asked. subst (λ f. Replies gives b asking f c1 c2 Writes mid new)
      (flag_is ∙ ap (λ n. n == 0) next_is) (replies asking asked))

  -- and the connection goes on
  -- rule: http-end
  pub so_far-more : (count left next : ℕ) (closes : Bool) (r0 r2 : Option (List ℕ)) (c0 c2 : C)
      (w0 w1 w2 : Option (List ℕ)) (old new : Tables) →
      next ≡ requests_left_after closes left → next ≢ 0 →
      IfSome r0
      (λ stream. IsOneMore stream count left closes r2 c0 c2 w0 w1 (Appends w1 w2) old new) →
      IfSome r0 (λ stream. IsSoFar stream (count + 1) next r2 c0 c2 w0 w2 old new)
  so_far-more count left next closes None r2 c0 c2 w0 w1 w2 old new next_is goes one = tt
  so_far-more count left next closes (Some stream) r2 c0 c2 w0 w1 w2 old new next_is goes one =
      record {
        rest = one.rest;
        rest_is = one.rest_is (not_closed closes left (subst (λ n. n ≢ 0) next_is goes));
        moments = one.moments;
        given = one.given;
        text = one.text ++ one.more;
        written = Appends-trans w0 w1 w2 one.text one.more one.written one.wrote;
        at = subst (λ n. ForEachList b old (IsAt b stream (count + 1) n one.rest one.moments
            (one.text ++ one.more) new)) (sym next_is) one.at;
      }

  -- a stream is served to the end of the connection
  abbrev IsServed : List ℕ → ℕ → C → C → Option (List ℕ) → Option (List ℕ) → Tables →
      (List Accepted → Type 0) → Type 0
  IsServed stream count c0 c1 w0 w1 old Is = IsConnectionPart gives b c0 c1 old (Appends w0 w1)
      (λ moments text list.
      (taken : AreRequestsTaken b stream count moments text Is list) × IsOver taken.last)

  -- or it ends
  -- rule: http-end
  pub so_far-closed : (count total left next : ℕ) (closes : Bool) (r0 r2 : Option (List ℕ))
      (c0 c2 : C) (w0 w1 w2 : Option (List ℕ)) (old new : Tables) →
      total ≡ count + 1 → next ≡ requests_left_after closes left → next ≡ 0 →
      IfSome r0
      (λ stream. IsOneMore stream count left closes r2 c0 c2 w0 w1 (Appends w1 w2) old new) →
      IfSome r0 (λ stream. IsServed stream total c0 c2 w0 w2 old (AreOf b new))
  so_far-closed count total left next closes None r2 c0 c2 w0 w1 w2 old new count_is next_is over
      one = tt
  so_far-closed count total left next closes (Some stream) r2 c0 c2 w0 w1 w2 old new count_is
      next_is over one =
      let whole : IsServed stream (count + 1) c0 c2 w0 w2 old (AreOf b new) =
      record {
        moments = one.moments;
        given = one.given;
        text = one.text ++ one.more;
        written = Appends-trans w0 w1 w2 one.text one.more one.written one.wrote;
        is = λ list time are.
            let at : IsAt b stream (count + 1) (requests_left_after closes left) one.rest
            one.moments
            (one.text ++ one.more) new list = one.at list time are in
            (at.taken, inl (at.left_is ∙ sym next_is ∙ over));
      } in
      subst (λ n. IsServed stream n c0 c2 w0 w2 old (AreOf b new)) (sym count_is)
      whole

  -- of its answer a beginning is written
  pub so_far-cut : (count left : ℕ) (closes : Bool) (r0 r2 : Option (List ℕ)) (c0 c2 : C)
      (w0 w1 w2 : Option (List ℕ)) (old new : Tables) → count < 1000 →
      IfSome r0
      (λ stream. IsOneMore stream count left closes r2 c0 c2 w0 w1 (AppendsBeginning w1 w2) old
      new) →
      IfSome r0 (λ stream. IsCutOff gives b stream c0 c2 w0 w2 old (AreOf b new))
  so_far-cut count left closes None r2 c0 c2 w0 w1 w2 old new few one = tt
  so_far-cut count left closes (Some stream) r2 c0 c2 w0 w1 w2 old new few one = record {
    count = count;
    bounded = few;
    more = one.more;
    begun = one.wrote.0;
    taken = record {
      moments = one.moments;
      given = one.given;
      text = one.text;
      written =
          Appends-trans w0 w1 w2 one.text (take one.wrote.0 one.more) one.written one.wrote.1;
      is = one.turned;
    };
  }

  -- what was taken so far is all, where the connection is over
  served_over : (stream : List ℕ) (count left : ℕ) (r1 : Option (List ℕ)) (c0 c1 : C)
      (w0 w1 : Option (List ℕ)) (old new : Tables) →
      (so : IsSoFar stream count left r1 c0 c1 w0 w1 old new) →
      ((list : List Accepted) →
      (at : IsAt b stream count left so.rest so.moments so.text new list) → IsOver at.taken.last) →
      IsServed stream count c0 c1 w0 w1 old (AreOf b new)
  served_over stream count left r1 c0 c1 w0 w1 old new so over = record {
    moments = so.moments;
    given = so.given;
    text = so.text;
    written = so.written;
    is = λ list time are.
        let at : IsAt b stream count left so.rest so.moments so.text new list =
        so.at list time are in
        (at.taken, over list at);
  }

  -- the stream ends before the next request does
  pub so_far-ended : (count left : ℕ) (r0 r1 r2 : Option (List ℕ)) (c0 c1 : C)
      (w0 w1 : Option (List ℕ)) (old new : Tables) (o : Option Heard) →
      o ≡ None → IfSome r0 (λ stream. IsSoFar stream count left r1 c0 c1 w0 w1 old new) →
      IfSome r1 (λ s. Hears s o r2) →
      IfSome r0 (λ stream. IsServed stream count c0 c1 w0 w1 old (AreOf b new))
  so_far-ended count left None r1 r2 c0 c1 w0 w1 old new o is so hears = tt
  so_far-ended count left (Some stream) r1 r2 c0 c1 w0 w1 old new o is so hears =
      let here : Hears so.rest None r2 =
      subst (λ (r : Option (List ℕ)). IfSome r (λ s. Hears s None r2)) so.rest_is
      (subst (λ (x : Option Heard). IfSome r1 (λ s. Hears s x r2)) is hears) in
      let nothing : IsNextRequest so.rest ended =
      subst (IsNextRequest so.rest) (ended_case here.next r2 here.hears) here.is_next in
      served_over stream count left r1 c0 c1 w0 w1 old new so
      (λ list at. inr (subst (λ r. IsNextRequest r ended) (sym at.rest_is) nothing))

  -- no more requests are taken
  pub so_far-full : (count total left : ℕ) (r0 r1 : Option (List ℕ)) (c0 c1 : C)
      (w0 w1 : Option (List ℕ)) (old new : Tables) →
      total ≡ count →
      left ≡ 0 → IfSome r0 (λ stream. IsSoFar stream count left r1 c0 c1 w0 w1 old new) →
      IfSome r0 (λ stream. IsServed stream total c0 c1 w0 w1 old (AreOf b new))
  so_far-full count total left None r1 c0 c1 w0 w1 old new count_is none so = tt
  so_far-full count total left (Some stream) r1 c0 c1 w0 w1 old new count_is none so =
      let whole : IsServed stream count c0 c1 w0 w1 old (AreOf b new) =
      served_over stream count left r1 c0 c1 w0 w1 old new so
      (λ list at. inl (at.left_is ∙ none)) in
      subst (λ n. IsServed stream n c0 c1 w0 w1 old (AreOf b new)) (sym count_is)
      whole

  -- the next request isn't read, since the reader fails or memory is refused
  -- rule: http-unanswered
  pub so_far-unread : (count left : ℕ) (r0 r1 : Option (List ℕ)) (c0 c1 : C)
      (w0 w1 : Option (List ℕ)) (old new : Tables) → count < 1000 → 0 < left →
      IfSome r0 (λ stream. IsSoFar stream count left r1 c0 c1 w0 w1 old new) →
      IfSome r0 (λ stream. IsNextUnread gives b stream c0 c1 w0 w1 old (AreOf b new))
  so_far-unread count left None r1 c0 c1 w0 w1 old new few some so = tt
  so_far-unread count left (Some stream) r1 c0 c1 w0 w1 old new few some so = record {
    count = count;
    bounded = few;
    taken = record {
      moments = so.moments;
      given = so.given;
      text = so.text;
      written = so.written;
      is = λ list time are.
          let at : IsAt b stream count left so.rest so.moments so.text new list =
          so.at list time are in
          (at.taken, subst (λ n. 0 < n) (sym at.left_is) some);
    };
  }

  -- ---- what a stop leaves

  pub left_within : (stream : List ℕ) (few most : ℕ) (held : Tables) (list : List Accepted) →
      few ≤ most → IsLeftByRequests b stream few held list →
      IsLeftByRequests b stream most held list
  left_within stream few most held list le x = record {
    count = x.count;
    bounded = omega (arith, x.bounded, le);
    last = x.last;
    turns = x.turns;
    tables = x.tables;
    time = x.time;
  }

  -- one request more was answered so
  left_one : (stream : List ℕ) (count left : ℕ) (rest after : List ℕ)
      (moments : List (Option ℕ)) (text : List ℕ) (mid new : Tables) (list : List Accepted)
      (asking : Asking) (closes : Bool) (next : Next) →
      0 < left → IsNextRequest rest next → SaysStatus asking →
      ((old last : Connection) → IsRequestAnswered b asking closes after old last →
      Takes b next old last) → (at : IsAt b stream count left rest moments text mid list) →
      IsReplyHeld b asking new at.taken.last.list → IsLeftByRequests b stream (count + 1) new list
  left_one stream count left rest after moments text mid new list asking closes next some is_next
      says takes at held =
      let more : IsMoreAt b stream count left closes after (moments ++ held.moments) text
      (reply_text (requests_left_after closes left == 0) held.reply) new list =
      more-at b stream count left rest after moments held.moments text
      (reply_text (requests_left_after closes left == 0) held.reply) mid new list asking closes next
      some
      is_next says takes at (record {
        reply = held.reply;
        is_reply = held.is_reply;
        written = refl;
        tables = held.tables;
        time = held.time;
      }) in
      let here : IsAt b stream (count + 1) (requests_left_after closes left) after
      (moments ++ held.moments)
      (text ++ reply_text (requests_left_after closes left == 0) held.reply) new list =
      at-more b stream count left closes after (moments ++ held.moments) text
      (reply_text (requests_left_after closes left == 0) held.reply) new list more in
      record {
        count = count + 1;
        bounded = le_refl (count + 1);
        last = here.taken.last;
        turns = here.taken.turns;
        tables = here.taken.is;
        time = here.taken.time;
      }

  pub turns_none : (r : Option (List ℕ)) (most : ℕ) (k : Seen) → LeavesTurns b r most k k
  turns_none None most k = tt
  turns_none (Some stream) most k = λ h t l. inl l

  pub turns_most : (r : Option (List ℕ)) (few most : ℕ) (old new : Seen) → few ≤ most →
      LeavesTurns b r few old new → LeavesTurns b r most old new
  turns_most None few most old new le left = tt
  turns_most (Some stream) few most old new le left = λ h t l. left_as (left h t l)
      (λ before. before) (λ w. (
        w.0,
        λ list time are. left_within stream few most t list le (w.1 list time are),
      ))

  -- one request more
  -- rule: http-end
  pub turns_more : (count left : ℕ) (r0 r1 r2 : Option (List ℕ)) (c0 c1 : C)
      (w0 w1 : Option (List ℕ)) (old mid new : Seen) (o : Option Heard) (heard : Heard) →
      0 < left → o ≡ Some heard → (mid.clean → old.clean) → (new.honest → mid.honest) →
      (mid.honest → IsHeldSoFar count left r0 r1 c0 c1 w0 w1 old mid) →
      IfSome r1 (λ s. Hears s o r2) →
      ((asking : Asking) → IsAskingGiven asking heard.asked → LeavesReply b asking mid new) →
      LeavesTurns b r0 count old mid → LeavesTurns b r0 (count + 1) old new
  turns_more count left None r1 r2 c0 c1 w0 w1 old mid new o heard some is cleanness honesty had
      hears replies first = tt
  turns_more count left (Some stream) r1 r2 c0 c1 w0 w1 old mid new o heard some is cleanness
      honesty had hears replies first = λ h t l.
      let so : IsSoFar stream count left r1 c0 c1 w0 w1 old.tables (had (honesty h)).held =
      (had (honesty h)).so_far in
      let here : Hears so.rest (Some heard) r2 =
      subst (λ (r : Option (List ℕ)). IfSome r (λ s. Hears s (Some heard) r2)) so.rest_is
      (subst (λ (x : Option Heard). IfSome r1 (λ s. Hears s x r2)) is hears) in
      let case : IsHeard b here.next heard r2 =
      heard_case b so.rest here.next heard r2 here.is_next here.hears in
      elim (replies case.asking case.asked h t l) [
        | inl before ↦ left_as (first (honesty h) t before) (λ x. x) (λ w. (
          w.0,
          λ list time are. left_within stream count (count + 1) t list (omega arith)
              (w.1 list time are),
        ))
        | inr w ↦ inr (
          cleanness w.0,
          λ list time are.
              let at : IsAt b stream count left so.rest so.moments so.text (had (honesty h)).held
              list = so.at list time are in
              left_one stream count left so.rest case.rest so.moments so.text
              (had (honesty h)).held t list case.asking heard.closes here.next some here.is_next
              case.says case.takes at
              (w.1 at.taken.last.list at.taken.time (subst (AreTables b at.taken.last.list)
              ((had (honesty h)).holds.now w.0) at.taken.is)),
        )
      ]

  -- ---- what comes of a connection

  -- the tables at the last moment at which a store could be asked, and what comes of them
  pub record HasCome (r0 : Option (List ℕ)) (c0 c1 : C) (w0 w1 : Option (List ℕ)) (old new : Seen)
      (result : Result Served ServeFault) : Type 0 where
    pub held : Tables
    pub holds : HoldsNext b old new old.tables held
    pub comes : IfSome r0 (λ stream.
        ComesTo gives b stream c0 c1 w0 w1 old.tables (AreOf b held) result)

  module _ (c0 c1 : C) (w0 w1 : Option (List ℕ)) (old : Tables) (Is Are : List Accepted → Type 0)
      (weaker : (list : List Accepted) → IsInTime list → Is list → Are list) where
    abbrev taken_as : (stream : List ℕ) (count : ℕ) (moments : List (Option ℕ)) (text : List ℕ)
        (list : List Accepted) → AreRequestsTaken b stream count moments text Is list →
        AreRequestsTaken b stream count moments text Are list
    taken_as stream count moments text list x = record {
      last = x.last;
      turns = x.turns;
      given = x.given;
      written = x.written;
      is = weaker x.last.list x.time x.is;
      time = x.time;
    }

    unread_as : (stream : List ℕ) → IsNextUnread gives b stream c0 c1 w0 w1 old Is →
        IsNextUnread gives b stream c0 c1 w0 w1 old Are
    unread_as stream x = record {
      count = x.count;
      bounded = x.bounded;
      taken = record {
        moments = x.taken.moments;
        given = x.taken.given;
        text = x.taken.text;
        written = x.taken.written;
        is = λ list time are. (
          taken_as stream x.count x.taken.moments x.taken.text list (x.taken.is list time are).0,
          (x.taken.is list time are).1,
        );
      };
    }

    -- what is so of the accepted commands may be said otherwise
    comes_as : (stream : List ℕ) (result : Result Served ServeFault) →
        ComesTo gives b stream c0 c1 w0 w1 old Is result →
        ComesTo gives b stream c0 c1 w0 w1 old Are result
    comes_as stream (Ok done) x = record {
      moments = x.moments;
      given = x.given;
      text = x.text;
      written = x.written;
      is = λ list time are. (
        taken_as stream done.requests x.moments x.text list (x.is list time are).0,
        (x.is list time are).1,
      );
    }
    comes_as stream (Err fault.Memory) x = unread_as stream x
    comes_as stream (Err fault.Read) x = unread_as stream x
    comes_as stream (Err fault.Write) x = record {
      count = x.count;
      bounded = x.bounded;
      more = x.more;
      begun = x.begun;
      taken = record {
        moments = x.taken.moments;
        given = x.taken.given;
        text = x.taken.text;
        written = x.taken.written;
        is = λ list time are. (
          taken_as stream (suc x.count) x.taken.moments (x.taken.text ++ x.more) list
              (x.taken.is list time are).0,
          (x.taken.is list time are).1,
        );
      };
    }

    comes_shown : (r0 : Option (List ℕ)) (result : Result Served ServeFault) →
        IfSome r0 (λ stream. ComesTo gives b stream c0 c1 w0 w1 old Is result) →
        IfSome r0 (λ stream. ComesTo gives b stream c0 c1 w0 w1 old Are result)
    comes_shown None result x = tt
    comes_shown (Some stream) result x = comes_as stream result x

  -- so it comes of a keeper's tables, and of what a stop leaves
  -- rule: http-end
  pub serves : (r0 : Option (List ℕ)) (c0 c1 : C) (w0 w1 : Option (List ℕ)) (old new : Seen)
      (result : Result Served ServeFault) → (new.clean → new.honest) →
      ((t : Tables) → old.clean → old.left t → t ≡ old.tables) →
      (new.honest → HasCome r0 c0 c1 w0 w1 old new result) →
      IfOk result (λ done. done.requests ≤ 1000) → GoesOn b old new →
      LeavesTurns b r0 1000 old new →
      ServesConnection gives b r0 c0 c1 w0 w1 old new result
  serves r0 c0 c1 w0 w1 old new result honesty settled come bounded goes_on held = record {
    comes = λ clean.
        let had : HasCome r0 c0 c1 w0 w1 old new result = come (honesty clean) in
        comes_shown c0 c1 w0 w1 old.tables (AreOf b had.held) (AreOf b new.tables)
        (λ list time are. subst (AreTables b list) (had.holds.now clean) are) r0 result had.comes;
    shown = λ h.
        let had : HasCome r0 c0 c1 w0 w1 old new result = come h in
        (had.held, had.comes);
    found = λ h clean t l.
        let had : HasCome r0 c0 c1 w0 w1 old new result = come h in
        comes_shown c0 c1 w0 w1 old.tables (AreOf b had.held) (AreLeftAfter b t)
        (had.holds.left (λ x was. left_same b old.tables x (settled x clean was)) t l) r0 result
        had.comes;
    bounded = bounded;
    goes_on = goes_on;
    held = held;
  }

  -- nothing is read, since memory is refused
  pub none_served : (r : Option (List ℕ)) (c : C) (w : Option (List ℕ)) (k : Seen) →
      (k.clean → k.honest) → ((t : Tables) → k.clean → k.left t → t ≡ k.tables) →
      ServesConnection gives b r c c w w k k (Err fault.Memory)
  none_served r c w k honesty settled = serves r c c w w k k (Err fault.Memory) honesty settled
      (λ h. record {
        held = k.tables;
        holds = holds_none b k;
        comes = so_far-unread 0 1000 r r c c w w k.tables k.tables (omega arith) (omega arith)
            (so_far-none r c w k.tables);
      }) tt (record {
        continued = λ clean. continued_none b k.tables;
        cleanness = λ clean. clean;
        honesty = λ honest. honest;
        left = λ h t l. inl l;
        failures = le_refl k.failed;
      }) (turns_none r 1000 k)

  -- ---- faults

  -- a fault of hearing is none of the writer
  pub unread_comes : {A : Type 0} (r : Result A StreamFault) (why : StreamFault)
      (q : Result Served ServeFault) (r0 : Option (List ℕ)) (c0 c1 : C) (w0 w1 : Option (List ℕ))
      (old : Tables) (Is : List Accepted → Type 0) → r ≡ Err why → (r ≡ Err broken.Write → ⊥) →
      IsErrAnd q (λ e. e ≡ serve_fault why) →
      IfSome r0 (λ stream. IsNextUnread gives b stream c0 c1 w0 w1 old Is) →
      IfSome r0 (λ stream. ComesTo gives b stream c0 c1 w0 w1 old Is q)
  unread_comes r why q r0 c0 c1 w0 w1 old Is was other is unread =
      subst (λ (x : Result Served ServeFault).
      IfSome r0 (λ stream. ComesTo gives b stream c0 c1 w0 w1 old Is x)) (sym (fault_is q _ is))
      (at why was)
    where
      at : (f : StreamFault) → r ≡ Err f →
          IfSome r0 (λ stream. ComesTo gives b stream c0 c1 w0 w1 old Is (Err (serve_fault f)))
      at broken.Memory e = unread
      at broken.Read e = unread
      at broken.Write e = absurd (other e)

  -- a fault of an answer is one of the writer
  pub cut_comes : {A : Type 0} (r : Result A StreamFault) (why : StreamFault)
      (q : Result Served ServeFault) (r0 : Option (List ℕ)) (c0 c1 : C) (w0 w1 : Option (List ℕ))
      (old : Tables) (Is : List Accepted → Type 0) → r ≡ Err why →
      OnErr r (r ≡ Err broken.Write) → IsErrAnd q (λ e. e ≡ serve_fault why) →
      IfSome r0 (λ stream. IsCutOff gives b stream c0 c1 w0 w1 old Is) →
      IfSome r0 (λ stream. ComesTo gives b stream c0 c1 w0 w1 old Is q)
  cut_comes r why q r0 c0 c1 w0 w1 old Is was only is cut =
      subst (λ (x : Result Served ServeFault).
      IfSome r0 (λ stream. ComesTo gives b stream c0 c1 w0 w1 old Is x)) (sym (fault_is q _ is))
      (at why was)
    where
      at : (f : StreamFault) → r ≡ Err f →
          IfSome r0 (λ stream. ComesTo gives b stream c0 c1 w0 w1 old Is (Err (serve_fault f)))
      at broken.Memory e = not_memory r only e
      at broken.Read e = absurd (not_read r only e)
      at broken.Write e = cut

-- ---- how many requests are left

pub some_left : (left served : ℕ) → left + served ≡ 1000 → served < 1000 → 0 < left
some_left left served e h = omega (arith, e, h)

less_one : (left next served : ℕ) → next ≡ left - 1 → next ≢ 0 → left + served ≡ 1000 →
    next + (served + 1) ≡ 1000
less_one zero next served e h t = absurd (h (e ∙ none))
  where
    none : zero - 1 ≡ 0
    none = omega arith
less_one (suc n) next served e h t =
    let same : suc n - 1 ≡ n = omega arith in
    let next_is : next ≡ n = e ∙ same in
    omega (arith, next_is, t)

pub turns-more : (closes : Bool) (left next served : ℕ) → next ≡ requests_left_after closes left →
    next ≢ 0 →
    left + served ≡ 1000 → next + (served + 1) ≡ 1000
turns-more true left next served e h t = absurd (h e)
turns-more false left next served e h t = less_one left next served e h t
