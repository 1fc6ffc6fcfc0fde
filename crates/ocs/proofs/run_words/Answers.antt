use Rattle.std.proofs.Common.{ap, refl}
use Rattle.operator.specs.Read.{texts_of}
use Rattle.ocs.specs.Ends.{IsMemory}
use Rattle.ocs.proofs.EndLemmas.{end_said, end_unread, ends_read, memory_alone, nothing_prints}
use Rattle.ocs.proofs.EndLemmas.{not_done, not_once, prints_said, told_said, told_unread}
use Rattle.ocs.proofs.run_words.Goals as goal

pub returns-in-Ok : goal.returns-in-Ok
returns-in-Ok g c = record {
  end = end_said (texts_of c.args.words.now) c.in-Ok.said c.run_said.result c.in-Ok.ensures.read
      c.run_said.ensures.end;
  told = told_said (texts_of c.args.words.now) c.in-Ok.said (g.O.Write.contents c.args.output.now)
      (g.O.Write.contents c.run_said.new.output) c.run_said.result
      (g.E.Write.contents c.args.errors.now)
      (g.E.Write.contents c.run_said.new.errors) c.in-Ok.ensures.read
      c.run_said.ensures.told;
  unread = λ other. c.run_said.ensures.unread
      (not_once (texts_of c.args.words.now) c.in-Ok.said c.in-Ok.ensures.read other);
  unwritten = λ unread. absurd (ends_read c.run_said.result c.run_said.ensures.end unread);
  prints = λ other says.
      prints_said _ (texts_of c.args.words.now) c.in-Ok.said other
      (g.I.Read.remaining c.args.input.now) (g.O.Write.contents c.args.output.now)
      (g.O.Write.contents c.run_said.new.output) c.run_said.result c.in-Ok.ensures.read says
      c.run_said.ensures.prints;
}

pub returns-in-Err : goal.returns-in-Err
returns-in-Err g c = record {
  end = end_unread (texts_of c.args.words.now) c.in-Err.fault c.tell_unread.result
      c.in-Err.ensures.unread c.tell_unread.ensures.end;
  told = told_unread (texts_of c.args.words.now) (g.O.Write.contents c.args.output.now)
      (g.O.Write.contents c.tell_unread.new.output) c.in-Err.fault c.tell_unread.result
      (g.E.Write.contents c.args.errors.now) (g.E.Write.contents c.tell_unread.new.errors)
      c.in-Err.ensures.unread c.tell_unread.ensures.end
      (λ memory. ap (g.O.Write.contents) (c.tell_unread.ensures.memory memory))
      c.tell_unread.ensures.told;
  unread = λ other. refl;
  unwritten = c.tell_unread.ensures.unwritten;
  prints = λ said says.
      let memory : IsMemory c.in-Err.fault = memory_alone (texts_of c.args.words.now)
      c.in-Err.fault said c.in-Err.ensures.unread says in
      let same = ap (g.O.Write.contents) (c.tell_unread.ensures.memory memory) in
      nothing_prints _ said (g.I.Read.remaining c.args.input.now)
      (g.O.Write.contents c.args.output.now) (g.O.Write.contents c.tell_unread.new.output)
      c.tell_unread.result same
      (not_done c.in-Err.fault c.tell_unread.result memory c.tell_unread.ensures.end);
}
