use Rattle.std.proofs.Common.{◌≡◌, ◌==◌, ℕ, List, [], ap, subst, sym, ◌∙◌, if◌then◌else◌}
use Rattle.std.proofs.Common.{Option, None, Result}
use Rattle.std.specs.declared.io.buffered.BufReader.{BufReader}
use Rattle.std.specs.Io.Buffered.{reader_remaining, reader_capacity, reader_buffer, reader_inner}
use Rattle.std.specs.Io.KnownBytes.{prepend_known}
use Rattle.std.proofs.KnownBytes.{prepend_known-nil}
use Rattle.http_api.specs.Connections.{ServesConnection}
use Rattle.http_api.specs.declared.fault.ServeFault.{ServeFault}
use Rattle.http_api.specs.declared.serving.Served.{Served}
use Rattle.http_api.proofs.RequestReplies.{memory_told}
use Rattle.http_api.proofs.Taking.{none_served}
use Rattle.http_api.proofs.serving.serve.Goals as goal

-- a new buffer has what its reader has
unread : {T A : Type 0} (r : BufReader T A) (inner : T) (remaining : T → Option (List ℕ)) →
    reader_capacity r ≡ 8192 → reader_buffer r ≡ [] → reader_inner r ≡ inner →
    reader_remaining remaining r ≡ remaining inner
unread r inner remaining capacity empty is =
    ap (λ (n : ℕ). if n == 0 then None else prepend_known (reader_buffer r) (remaining r.inner))
    capacity
    ∙ ap (λ (b : List ℕ). prepend_known b (remaining r.inner)) empty
    ∙ prepend_known-nil (remaining r.inner)
    ∙ ap remaining is

pub returns-in_err-parser : goal.returns-in_err-parser
returns-in_err-parser g c =
    subst (λ (r : Result Served ServeFault). ServesConnection g.C.Clock.gives c.args.shelf.now
    (g.R.Read.remaining c.args.reader.now) c.args.clock.now c.args.clock.now
    (g.W.Write.contents c.args.writer.now) (g.W.Write.contents c.args.writer.now)
    (g.K.Keeper.seen c.args.keeper.now) (g.K.Keeper.seen c.args.keeper.now) r)
    (sym (memory_told _ c.from_residual.result c.in_err-parser.ensures
    c.from_residual.ensures.1))
    (none_served g.C.Clock.gives c.args.shelf.now (g.R.Read.remaining c.args.reader.now)
    c.args.clock.now (g.W.Write.contents c.args.writer.now) (g.K.Keeper.seen c.args.keeper.now)
    (g.met.K.Keeper.honesty c.args.keeper.now)
    (λ t clean l. g.met.K.Keeper.settled c.args.keeper.now t clean l))

pub returns-in_default : goal.returns-in_default
returns-in_default g c =
    none_served g.C.Clock.gives c.args.shelf.now (g.R.Read.remaining c.args.reader.now)
    c.args.clock.now (g.W.Write.contents c.args.writer.now) (g.K.Keeper.seen c.args.keeper.now)
    (g.met.K.Keeper.honesty c.args.keeper.now)
    (λ t clean l. g.met.K.Keeper.settled c.args.keeper.now t clean l)

pub returns : goal.returns
returns g c =
    subst (λ (bytes : Option (List ℕ)). ServesConnection g.C.Clock.gives c.args.shelf.now bytes
    c.args.clock.now c.serve_requests.new.clock (g.W.Write.contents c.args.writer.now)
    (g.W.Write.contents c.serve_requests.new.writer) (g.K.Keeper.seen c.args.keeper.now)
    (g.K.Keeper.seen c.serve_requests.new.keeper) c.serve_requests.result)
    (unread c.in-Ok.buffered _ (λ m. g.R.Read.remaining m.now) c.in-Ok.ensures.capacity
    c.in-Ok.ensures.empty c.in-Ok.ensures.inner) c.serve_requests.ensures
