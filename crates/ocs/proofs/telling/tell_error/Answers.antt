use Rattle.std.proofs.Common.{inl, inr, refl}
use Rattle.texts.specs.declared.streams.StreamFault.TheVariants as stream
use Rattle.ocs.proofs.EndLemmas.{told_stream, writer_failed}
use Rattle.ocs.proofs.telling.tell_error.Goals as goal

pub returns-in_default-clause-told : goal.returns-in_default-clause-told
returns-in_default-clause-told g c =
    told_stream stream.Memory c.tell_stream.result (g.E.Write.contents c.args.errors.now)
    (g.E.Write.contents c.tell_stream.new.errors) (inl refl) c.tell_stream.ensures.status
    c.tell_stream.ensures.told

pub returns-clause-told : goal.returns-clause-told
returns-clause-told g c =
    told_stream c.in-Err.fault c.tell_stream-in-Err.result (g.E.Write.contents c.args.errors.now)
    (g.E.Write.contents c.tell_stream-in-Err.new.errors)
    (inr (writer_failed c.write_whole-written.result c.in-Err.fault c.in-Err.is
    c.write_whole-written.ensures.fault)) c.tell_stream-in-Err.ensures.status
    c.tell_stream-in-Err.ensures.told
