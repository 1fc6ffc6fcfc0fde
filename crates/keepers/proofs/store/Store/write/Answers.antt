use Rattle.std.proofs.Common.{◌∙◌, ap, refl, sym, subst}
use Rattle.reserving.specs.Stored.{StoredRows}
use Rattle.keepers.specs.Change.{over}
use Rattle.keepers.specs.Inside.{parts_of}
use Rattle.keepers.specs.Overlaying.{IsGivenOver}
use Rattle.keepers.specs.Parts.{Parts, rows_of_parts}
use Rattle.keepers.proofs.WrittenParts.{put_rows, put_kept}
use Rattle.keepers.proofs.store.Store.write.Goals as goal

pub invariant_of-self-then-is_writable : goal.invariant_of-self-then-is_writable
invariant_of-self-then-is_writable c =
    let p : Parts = parts_of c.self.inside in
    put_kept c.self.inside.known.names c.self.inside.known.cycles c.requires.named c.args.rows p
    c.self.invariant.parts c.as_of-kept.ensures.kept c.requires.is
    (subst (λ (q : Parts). IsGivenOver c.requires.named q.live.buckets c.args.rows)
    (sym c.self.view_is) c.requires.of)
    (sym c.is_writable.ensures.value ∙ c.if-is_writable.true)
    (c.is_writable.ensures.kept c.if-is_writable.true)
    (sym c.is_fresh.ensures ∙ c.if-is_fresh.true) c.self.invariant.sessions
    c.self.invariant.groups c.self.invariant.counters c.self.inside.left c.self.inside.known
    c.write.new.self refl c.self.invariant c.in_ok-write.ensures.ok

pub returns-then-is_writable-clause-over : goal.returns-then-is_writable-clause-over
returns-then-is_writable-clause-over c = λ named is of.
    let p : Parts = parts_of c.self.inside in
    ap (λ (live : StoredRows). rows_of_parts (record { live = live; left = p.left }))
    c.in_ok-write.ensures.ok
    ∙ put_rows c.self.inside.known.names c.self.inside.known.cycles named c.args.rows p
    c.self.invariant.parts c.as_of-kept.ensures.kept is
    (subst (λ (q : Parts). IsGivenOver named q.live.buckets c.args.rows) (sym c.self.view_is) of)
    (sym c.is_writable.ensures.value ∙ c.if-is_writable.true)
    (c.is_writable.ensures.kept c.if-is_writable.true)
    (sym c.is_fresh.ensures ∙ c.if-is_fresh.true) c.self.invariant.sessions
    c.self.invariant.groups c.self.invariant.counters
    ∙ ap (λ (q : Parts). over named (rows_of_parts q)) c.self.view_is
