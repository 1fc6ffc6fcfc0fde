use Rattle.std.proofs.Common.{◌≡◌, ◌∙◌, true, ap, sym, subst}
use Rattle.reserving.specs.Restored.{given}
use Rattle.keepers.specs.Change.{over}
use Rattle.keepers.specs.Inside.{parts_of}
use Rattle.keepers.specs.Overlaying.{IsGivenOver}
use Rattle.keepers.specs.Parts.{Parts, AreParts, rows_of_parts}
use Rattle.keepers.specs.Recorded.{are_past, recorded}
use Rattle.keepers.proofs.Recorded.{recorded_parts, recorded_rows}
use Rattle.keepers.proofs.PartsKept.{ok_then}
use Rattle.keepers.proofs.store.Store.record.Goals as goal

pub leave-requires-clause-parts : goal.leave-requires-clause-parts
leave-requires-clause-parts c =
    let p : Parts = parts_of c.self.inside in
    let taken = c.take_past-past in
    subst (λ (q : Parts). AreParts (recorded (given taken.new.rows) taken.result q)) c.self.view_is
    (recorded_parts c.self.inside.known.names c.self.inside.known.cycles c.args.rows
    taken.new.rows taken.result p c.self.invariant.parts c.as_of-kept.ensures.kept
    (subst (λ (q : Parts). are_past (given c.args.rows) q.live ≡ true) (sym c.self.view_is)
    c.requires.past)
    taken.ensures.rest taken.ensures.buckets taken.ensures.counters taken.ensures.sessions
    taken.ensures.groups (sym c.is_writable.ensures.value ∙ c.if-is_writable.true)
    (c.is_writable.ensures.kept c.if-is_writable.true)
    (sym c.is_fresh.ensures ∙ c.if-not-is_fresh.false) c.self.invariant.sessions
    c.self.invariant.groups c.self.invariant.counters c.requires.change.named c.requires.change.is
    (subst (λ (q : Parts). IsGivenOver c.requires.change.named q.live.buckets c.args.rows)
    (sym c.self.view_is) c.requires.change.of))

pub returns-then-is_writable-clause-over : goal.returns-then-is_writable-clause-over
returns-then-is_writable-clause-over c =
    ok_then c.leave.result c.leave.ensures.done (λ made named is of.
    let p : Parts = parts_of c.self.inside in
    let taken = c.take_past-past in
    ap rows_of_parts made
    ∙ subst (λ (q : Parts). rows_of_parts (recorded (given taken.new.rows) taken.result q)
    ≡ over named (rows_of_parts q)) c.self.view_is
    (recorded_rows c.self.inside.known.names c.self.inside.known.cycles c.args.rows
    taken.new.rows taken.result p c.self.invariant.parts c.as_of-kept.ensures.kept
    (subst (λ (q : Parts). are_past (given c.args.rows) q.live ≡ true) (sym c.self.view_is)
    c.requires.past)
    taken.ensures.rest taken.ensures.buckets taken.ensures.counters taken.ensures.sessions
    taken.ensures.groups (sym c.is_writable.ensures.value ∙ c.if-is_writable.true)
    (c.is_writable.ensures.kept c.if-is_writable.true)
    (sym c.is_fresh.ensures ∙ c.if-not-is_fresh.false) c.self.invariant.sessions
    c.self.invariant.groups c.self.invariant.counters named is
    (subst (λ (q : Parts). IsGivenOver named q.live.buckets c.args.rows) (sym c.self.view_is) of)))
