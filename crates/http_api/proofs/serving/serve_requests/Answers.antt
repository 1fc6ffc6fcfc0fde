use Rattle.std.proofs.Common.{◌==◌, ◌+◌, ℕ, List, refl, le_refl, arith, Result, Ok, Err, IfOk}
use Rattle.std.proofs.Common.{IfSome, inl}
use Rattle.std.specs.Prelude.{IsErrAnd}
use Rattle.std.specs.Io.Buffered.{reader_remaining}
use Rattle.charging.specs.Continued.{GoesOn}
use Rattle.http_messages.specs.Asking.{Asking, IsAskingGiven}
use Rattle.keepers.specs.Tables.{Tables}
use Rattle.http_api.specs.Replies.{Replies}
use Rattle.http_api.proofs.Continuing.{continued_none, continued_more, leaves_more}
use Rattle.http_api.proofs.ShownReplies.{holds_none, holds_more}
use Rattle.http_api.proofs.Taking.{IsOneMore, IsSoFar, taken_one, some_left, turns-more}
use Rattle.http_api.proofs.Taking.{so_far-none, so_far-more, so_far-closed, so_far-ended}
use Rattle.http_api.proofs.Taking.{so_far-full, so_far-unread, so_far-cut}
use Rattle.http_api.proofs.Taking.{LeavesTurns, turns_none, turns_most, turns_more}
use Rattle.http_api.proofs.Taking.{serves, unread_comes, cut_comes}
use Rattle.http_api.proofs.serving.serve_requests.Goals as goal
use Rattle.http_api.proofs.serving.serve_requests.Goals.{After-answer_request}

pub loop-served-init : goal.loop-served-init
loop-served-init g c = record {
  turns = refl;
  shown = λ honest. record {
    held = (g.K.Keeper.seen c.args.keeper.now).tables;
    holds = holds_none c.args.shelf.now (g.K.Keeper.seen c.args.keeper.now);
    so_far = so_far-none g.C.Clock.gives c.args.shelf.now
        (reader_remaining g.R.Read.remaining c.args.reader.now)
        c.args.clock.now (g.W.Write.contents c.args.writer.now)
        (g.K.Keeper.seen c.args.keeper.now).tables;
  };
  goes_on = record {
    continued = λ clean.
        continued_none c.args.shelf.now (g.K.Keeper.seen c.args.keeper.now).tables;
    cleanness = λ clean. clean;
    honesty = λ honest. honest;
    left = λ honest t l. inl l;
    failures = le_refl (g.K.Keeper.seen c.args.keeper.now).failed;
  };
  held = turns_none g.C.Clock.gives c.args.shelf.now
      (reader_remaining g.R.Read.remaining c.args.reader.now) 0
      (g.K.Keeper.seen c.args.keeper.now);
}

-- one request more was heard, and its answer is written so
one_more : (g : _) (c : After-answer_request g) (Writes : List ℕ → Type 0) (mid new : Tables) →
    IfSome (reader_remaining g.R.Read.remaining c.args.reader.now) (λ stream.
    IsSoFar g.C.Clock.gives c.args.shelf.now stream c.loop-served.served c.loop-served.left
    (reader_remaining g.R.Read.remaining c.loop-served.reader) c.args.clock.now c.loop-served.clock
    (g.W.Write.contents c.args.writer.now) (g.W.Write.contents c.loop-served.writer)
    (g.K.Keeper.seen c.args.keeper.now).tables mid) →
    ((asking : Asking) → IsAskingGiven asking c.in-Some.heard.asked →
    Replies g.C.Clock.gives c.args.shelf.now asking (c.left_after-left.result == 0)
    c.loop-served.clock c.answer_request.new.clock Writes mid new) →
    IfSome (reader_remaining g.R.Read.remaining c.args.reader.now) (λ stream.
    IsOneMore g.C.Clock.gives c.args.shelf.now stream c.loop-served.served c.loop-served.left
    c.in-Some.heard.closes (reader_remaining g.R.Read.remaining c.hear.new.reader) c.args.clock.now
    c.answer_request.new.clock (g.W.Write.contents c.args.writer.now)
    (g.W.Write.contents c.loop-served.writer) Writes (g.K.Keeper.seen c.args.keeper.now).tables new)
one_more g c Writes mid new so replies = taken_one g.C.Clock.gives c.args.shelf.now
    c.loop-served.served
    c.loop-served.left c.left_after-left.result (c.left_after-left.result == 0)
    (reader_remaining g.R.Read.remaining c.args.reader.now)
    (reader_remaining g.R.Read.remaining c.loop-served.reader)
    (reader_remaining g.R.Read.remaining c.hear.new.reader) c.args.clock.now c.loop-served.clock
    c.answer_request.new.clock (g.W.Write.contents c.args.writer.now)
    (g.W.Write.contents c.loop-served.writer) Writes (g.K.Keeper.seen c.args.keeper.now).tables mid
    new c.in_ok-heard.field-0 c.in-Some.heard
    (some_left c.loop-served.left c.loop-served.served c.loop-served.invariant.turns
    c.loop-served-test.true) c.in-Some.is c.left_after-left.ensures refl so
    c.in_ok-heard.ensures.heard replies

-- and the accepted commands went on, also those that a stop leaves
goes_on : (g : _) (c : After-answer_request g) →
    GoesOn c.args.shelf.now (g.K.Keeper.seen c.args.keeper.now)
    (g.K.Keeper.seen c.answer_request.new.keeper)
goes_on g c = record {
  continued = λ clean.
      continued_more c.args.shelf.now (g.K.Keeper.seen c.args.keeper.now).tables
      (g.K.Keeper.seen c.loop-served.keeper).tables
      (g.K.Keeper.seen c.answer_request.new.keeper).tables
      (c.loop-served.invariant.goes_on.continued
      (c.answer_request.ensures.goes_on.cleanness clean))
      (c.answer_request.ensures.goes_on.continued clean);
  cleanness = λ clean.
      c.loop-served.invariant.goes_on.cleanness (c.answer_request.ensures.goes_on.cleanness clean);
  honesty = λ honest.
      c.loop-served.invariant.goes_on.honesty (c.answer_request.ensures.goes_on.honesty honest);
  left = leaves_more c.args.shelf.now (g.K.Keeper.seen c.args.keeper.now)
      (g.K.Keeper.seen c.loop-served.keeper) (g.K.Keeper.seen c.answer_request.new.keeper)
      c.loop-served.invariant.goes_on.cleanness c.loop-served.invariant.goes_on.continued
      c.answer_request.ensures.goes_on.honesty c.loop-served.invariant.goes_on.left
      c.answer_request.ensures.goes_on.left;
  failures = omega (
    arith,
    c.loop-served.invariant.goes_on.failures,
    c.answer_request.ensures.goes_on.failures,
  );
}

-- of the requests that were taken, and this one
held : (g : _) (c : After-answer_request g) →
    LeavesTurns c.args.shelf.now (reader_remaining g.R.Read.remaining c.args.reader.now)
    (c.loop-served.served + 1)
    (g.K.Keeper.seen c.args.keeper.now) (g.K.Keeper.seen c.answer_request.new.keeper)
held g c = turns_more g.C.Clock.gives c.args.shelf.now c.loop-served.served c.loop-served.left
    (reader_remaining g.R.Read.remaining c.args.reader.now)
    (reader_remaining g.R.Read.remaining c.loop-served.reader)
    (reader_remaining g.R.Read.remaining c.hear.new.reader) c.args.clock.now c.loop-served.clock
    (g.W.Write.contents c.args.writer.now) (g.W.Write.contents c.loop-served.writer)
    (g.K.Keeper.seen c.args.keeper.now) (g.K.Keeper.seen c.loop-served.keeper)
    (g.K.Keeper.seen c.answer_request.new.keeper) c.in_ok-heard.field-0
    c.in-Some.heard (some_left c.loop-served.left c.loop-served.served
    c.loop-served.invariant.turns c.loop-served-test.true) c.in-Some.is
    c.loop-served.invariant.goes_on.cleanness c.answer_request.ensures.goes_on.honesty
    c.loop-served.invariant.shown c.in_ok-heard.ensures.heard c.answer_request.ensures.held
    c.loop-served.invariant.held

-- of no more than a connection takes
held_most : (g : _) (c : After-answer_request g) →
    LeavesTurns
    c.args.shelf.now (reader_remaining g.R.Read.remaining c.args.reader.now) 1000
    (g.K.Keeper.seen c.args.keeper.now)
    (g.K.Keeper.seen c.answer_request.new.keeper)
held_most g c = turns_most g.C.Clock.gives c.args.shelf.now
    (reader_remaining g.R.Read.remaining c.args.reader.now)
    (c.loop-served.served + 1) 1000 (g.K.Keeper.seen c.args.keeper.now)
    (g.K.Keeper.seen c.answer_request.new.keeper)
    (omega (arith, c.loop-served-test.true)) (held g c)

-- what failed gives no value
no_value : {A E : Type 0} (r : Result A E) (Fault : E → Type 0) (Value : A → Type 0) →
    IsErrAnd r Fault → IfOk r Value
no_value (Ok x) Fault Value fails = absurd fails
no_value (Err fault) Fault Value fails = tt

pub returns-in_err-heard : goal.returns-in_err-heard
returns-in_err-heard g c = serves g.C.Clock.gives c.args.shelf.now
    (reader_remaining g.R.Read.remaining c.args.reader.now) c.args.clock.now c.loop-served.clock
    (g.W.Write.contents c.args.writer.now) (g.W.Write.contents c.loop-served.writer)
    (g.K.Keeper.seen c.args.keeper.now) (g.K.Keeper.seen c.loop-served.keeper)
    c.from_residual.result (g.met.K.Keeper.honesty c.loop-served.keeper)
    (λ t clean l. g.met.K.Keeper.settled c.args.keeper.now t clean l)
    (λ honest.
    let had = c.loop-served.invariant.shown honest in
    record {
      held = had.held;
      holds = had.holds;
      comes = unread_comes g.C.Clock.gives c.args.shelf.now c.hear.result _
          c.from_residual.result (reader_remaining g.R.Read.remaining c.args.reader.now)
          c.args.clock.now c.loop-served.clock (g.W.Write.contents c.args.writer.now)
          (g.W.Write.contents c.loop-served.writer) (g.K.Keeper.seen c.args.keeper.now).tables _
          c.in_err-heard.was c.hear.ensures.fault c.from_residual.ensures.1
          (so_far-unread g.C.Clock.gives c.args.shelf.now c.loop-served.served c.loop-served.left
          (reader_remaining g.R.Read.remaining c.args.reader.now)
          (reader_remaining g.R.Read.remaining c.loop-served.reader)
          c.args.clock.now c.loop-served.clock (g.W.Write.contents c.args.writer.now)
          (g.W.Write.contents c.loop-served.writer) (g.K.Keeper.seen c.args.keeper.now).tables
          had.held c.loop-served-test.true
          (some_left c.loop-served.left c.loop-served.served c.loop-served.invariant.turns
          c.loop-served-test.true) had.so_far);
    }) (no_value c.from_residual.result _ _ c.from_residual.ensures.1)
    c.loop-served.invariant.goes_on (turns_most g.C.Clock.gives c.args.shelf.now
    (reader_remaining g.R.Read.remaining c.args.reader.now)
    c.loop-served.served 1000 (g.K.Keeper.seen c.args.keeper.now)
    (g.K.Keeper.seen c.loop-served.keeper)
    (omega (arith, c.loop-served.invariant.turns)) c.loop-served.invariant.held)

pub returns-in_default : goal.returns-in_default
returns-in_default g c = serves g.C.Clock.gives c.args.shelf.now
    (reader_remaining g.R.Read.remaining c.args.reader.now) c.args.clock.now c.loop-served.clock
    (g.W.Write.contents c.args.writer.now) (g.W.Write.contents c.loop-served.writer)
    (g.K.Keeper.seen c.args.keeper.now) (g.K.Keeper.seen c.loop-served.keeper)
    (Ok (record { requests = c.loop-served.served }))
    (g.met.K.Keeper.honesty c.loop-served.keeper)
    (λ t clean l. g.met.K.Keeper.settled c.args.keeper.now t clean l)
    (λ honest.
    let had = c.loop-served.invariant.shown honest in
    record {
      held = had.held;
      holds = had.holds;
      comes = so_far-ended g.C.Clock.gives c.args.shelf.now c.loop-served.served
          c.loop-served.left (reader_remaining g.R.Read.remaining c.args.reader.now)
          (reader_remaining g.R.Read.remaining c.loop-served.reader)
          (reader_remaining g.R.Read.remaining c.hear.new.reader)
          c.args.clock.now c.loop-served.clock (g.W.Write.contents c.args.writer.now)
          (g.W.Write.contents c.loop-served.writer) (g.K.Keeper.seen c.args.keeper.now).tables
          had.held c.in_ok-heard.field-0 c.in_default.is had.so_far c.in_ok-heard.ensures.heard;
    }) (omega (arith, c.loop-served.invariant.turns))
    c.loop-served.invariant.goes_on (turns_most g.C.Clock.gives c.args.shelf.now
    (reader_remaining g.R.Read.remaining c.args.reader.now)
    c.loop-served.served 1000 (g.K.Keeper.seen c.args.keeper.now)
    (g.K.Keeper.seen c.loop-served.keeper)
    (omega (arith, c.loop-served.invariant.turns)) c.loop-served.invariant.held)

pub returns-in_err-answer_request : goal.returns-in_err-answer_request
returns-in_err-answer_request g c =
    let at = (goal.at.returns-in_err-answer_request g c).After-answer_request in
    serves g.C.Clock.gives c.args.shelf.now
    (reader_remaining g.R.Read.remaining c.args.reader.now) c.args.clock.now
    c.answer_request.new.clock
    (g.W.Write.contents c.args.writer.now) (g.W.Write.contents c.answer_request.new.writer)
    (g.K.Keeper.seen c.args.keeper.now) (g.K.Keeper.seen c.answer_request.new.keeper)
    c.from_residual-in_err-answer_request.result
    (g.met.K.Keeper.honesty c.answer_request.new.keeper)
    (λ t clean l. g.met.K.Keeper.settled c.args.keeper.now t clean l)
    (λ honest.
    let had = c.loop-served.invariant.shown (c.answer_request.ensures.goes_on.honesty honest) in
    let told = c.in_err-answer_request.ensures.shown honest had.held had.holds.now in
    record {
      held = told.next;
      holds = holds_more c.args.shelf.now (g.K.Keeper.seen c.args.keeper.now)
          (g.K.Keeper.seen c.loop-served.keeper) (g.K.Keeper.seen c.answer_request.new.keeper)
          (g.K.Keeper.seen c.args.keeper.now).tables had.held told.next had.holds told.holds;
      comes = cut_comes g.C.Clock.gives c.args.shelf.now c.answer_request.result
          _ c.from_residual-in_err-answer_request.result
          (reader_remaining g.R.Read.remaining c.args.reader.now) c.args.clock.now
          c.answer_request.new.clock (g.W.Write.contents c.args.writer.now)
          (g.W.Write.contents c.answer_request.new.writer)
          (g.K.Keeper.seen c.args.keeper.now).tables _
          c.in_err-answer_request.was c.answer_request.ensures.goes_on.fault
          c.from_residual-in_err-answer_request.ensures.1
          (so_far-cut g.C.Clock.gives c.args.shelf.now c.loop-served.served c.loop-served.left
          c.in-Some.heard.closes (reader_remaining g.R.Read.remaining c.args.reader.now) _ _ _ _
          (g.W.Write.contents c.loop-served.writer) _ _ told.next c.loop-served-test.true
          (one_more g at _ had.held told.next had.so_far told.err));
    }) (no_value c.from_residual-in_err-answer_request.result _ _
    c.from_residual-in_err-answer_request.ensures.1) (goes_on g at) (held_most g at)

pub returns-then-left-eq0 : goal.returns-then-left-eq0
returns-then-left-eq0 g c =
    let at = (goal.at.returns-then-left-eq0 g c).After-answer_request in
    serves g.C.Clock.gives c.args.shelf.now
    (reader_remaining g.R.Read.remaining c.args.reader.now) c.args.clock.now
    c.answer_request.new.clock
    (g.W.Write.contents c.args.writer.now) (g.W.Write.contents c.answer_request.new.writer)
    (g.K.Keeper.seen c.args.keeper.now) (g.K.Keeper.seen c.answer_request.new.keeper)
    (Ok c.one_more.result) (g.met.K.Keeper.honesty c.answer_request.new.keeper)
    (λ t clean l. g.met.K.Keeper.settled c.args.keeper.now t clean l)
    (λ honest.
    let had = c.loop-served.invariant.shown (c.answer_request.ensures.goes_on.honesty honest) in
    let told = c.in_ok-answer_request.ensures.shown honest had.held had.holds.now in
    record {
      held = told.next;
      holds = holds_more c.args.shelf.now (g.K.Keeper.seen c.args.keeper.now)
          (g.K.Keeper.seen c.loop-served.keeper) (g.K.Keeper.seen c.answer_request.new.keeper)
          (g.K.Keeper.seen c.args.keeper.now).tables had.held told.next had.holds told.holds;
      comes = so_far-closed g.C.Clock.gives c.args.shelf.now c.loop-served.served
          c.one_more.result.requests c.loop-served.left c.left_after-left.result
          c.in-Some.heard.closes (reader_remaining g.R.Read.remaining c.args.reader.now)
          (reader_remaining g.R.Read.remaining c.hear.new.reader) _ _ _
          (g.W.Write.contents c.loop-served.writer)
          _ _ told.next c.one_more.ensures c.left_after-left.ensures c.if-left-eq0.true
          (one_more g at _ had.held told.next had.so_far told.ok);
    }) (omega (arith, c.one_more.ensures, c.loop-served-test.true)) (goes_on g at)
    (held_most g at)

pub loop-served-preserved : goal.loop-served-preserved
loop-served-preserved g c =
    let at = (goal.at.loop-served-preserved g c).After-answer_request in
    record {
      turns = turns-more c.in-Some.heard.closes c.loop-served.left c.left_after-left.result
          c.loop-served.served c.left_after-left.ensures c.if-left-eq0.false
          c.loop-served.invariant.turns;
      shown = λ honest.
          let had = c.loop-served.invariant.shown
          (c.answer_request.ensures.goes_on.honesty honest) in
          let told = c.in_ok-answer_request.ensures.shown honest had.held had.holds.now in
          record {
            held = told.next;
            holds = holds_more c.args.shelf.now (g.K.Keeper.seen c.args.keeper.now)
                (g.K.Keeper.seen c.loop-served.keeper)
                (g.K.Keeper.seen c.answer_request.new.keeper)
                (g.K.Keeper.seen c.args.keeper.now).tables had.held told.next had.holds
                told.holds;
            so_far = so_far-more g.C.Clock.gives c.args.shelf.now c.loop-served.served
                c.loop-served.left c.left_after-left.result c.in-Some.heard.closes
                (reader_remaining g.R.Read.remaining c.args.reader.now) _ _ _ _
                (g.W.Write.contents c.loop-served.writer) _ _ told.next
                c.left_after-left.ensures c.if-left-eq0.false
                (one_more g at _ had.held told.next had.so_far told.ok);
          };
      goes_on = goes_on g at;
      held = held g at;
    }

pub returns : goal.returns
returns g c = serves g.C.Clock.gives c.args.shelf.now
    (reader_remaining g.R.Read.remaining c.args.reader.now) c.args.clock.now c.loop-served.clock
    (g.W.Write.contents c.args.writer.now) (g.W.Write.contents c.loop-served.writer)
    (g.K.Keeper.seen c.args.keeper.now) (g.K.Keeper.seen c.loop-served.keeper)
    (Ok (record { requests = 1000 }))
    (g.met.K.Keeper.honesty c.loop-served.keeper)
    (λ t clean l. g.met.K.Keeper.settled c.args.keeper.now t clean l)
    (λ honest.
    let had = c.loop-served.invariant.shown honest in
    record {
      held = had.held;
      holds = had.holds;
      comes = so_far-full g.C.Clock.gives c.args.shelf.now c.loop-served.served 1000
          c.loop-served.left (reader_remaining g.R.Read.remaining c.args.reader.now)
          (reader_remaining g.R.Read.remaining c.loop-served.reader) c.args.clock.now
          c.loop-served.clock
          (g.W.Write.contents c.args.writer.now) (g.W.Write.contents c.loop-served.writer)
          (g.K.Keeper.seen c.args.keeper.now).tables had.held
          (omega (arith, c.loop-served.invariant.turns, c.loop-served-test.false)) (omega (
            arith,
            c.loop-served.invariant.turns,
            c.loop-served-test.false,
          )) had.so_far;
    }) (omega arith)
    c.loop-served.invariant.goes_on (turns_most g.C.Clock.gives c.args.shelf.now
    (reader_remaining g.R.Read.remaining c.args.reader.now)
    c.loop-served.served 1000 (g.K.Keeper.seen c.args.keeper.now)
    (g.K.Keeper.seen c.loop-served.keeper)
    (omega (arith, c.loop-served.invariant.turns)) c.loop-served.invariant.held)
