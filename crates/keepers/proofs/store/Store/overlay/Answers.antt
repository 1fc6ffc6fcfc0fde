use Rattle.std.proofs.Common.{◌≡◌, ◌∙◌, sym, subst, List}
use Rattle.reserving.specs.declared.session.SessionGroup.{SessionGroup}
use Rattle.reserving.specs.Restored.{given}
use Rattle.reserving.specs.Stored.{StoredRows}
use Rattle.keepers.specs.Change.{over}
use Rattle.keepers.specs.Inside.{parts_of}
use Rattle.keepers.specs.Overlaying.{back_from, rows_over, IsAccountOf, IsRestDead, IsGivenOver}
use Rattle.keepers.specs.Parts.{Parts, rows_of_parts}
use Rattle.keepers.proofs.Overlaid.{rest_dead, overlaid}
use Rattle.keepers.proofs.PartsKept.{ok_then}
use Rattle.keepers.proofs.store.Store.overlay.Goals as goal

pub returns-clause-over : goal.returns-clause-over
returns-clause-over c = ok_then c.replace.result c.replace.ensures.over (λ made named is of.
    let p : Parts = parts_of c.self.inside in
    let names = c.self.inside.known.names in
    let own : IsGivenOver named p.live.buckets c.args.rows =
    subst (λ (q : Parts). IsGivenOver named q.live.buckets c.args.rows) (sym c.self.view_is) of in
    let back : c.back_from-back.result.now
    ≡ back_from names c.args.rows.sessions.items c.self.inside.left.groups.items =
    c.back_from-back.ensures
    ∙ (λ i. back_from names (c.deref.ensures.value i) (c.deref-2.ensures.value i)) in
    let account : IsAccountOf (rows_over named
    (back_from names named.sessions c.self.inside.left.groups.items) c.self.inside.live)
    c.in_ok-live.live =
    subst (λ (w : StoredRows). IsAccountOf (rows_over w
    (back_from names w.sessions c.self.inside.left.groups.items) c.self.inside.live)
    c.in_ok-live.live) own.same
    (subst (λ (bs : List SessionGroup). IsAccountOf (rows_over
    (record (given c.args.rows) { buckets = named.buckets }) bs c.self.inside.live)
    c.in_ok-live.live) back (c.in_ok-live.ensures named.buckets own.buckets)) in
    let rest = rest_dead named names p c.in_ok-live.live c.self.invariant.parts is
    c.self.invariant.groups account in
    made (subst (λ (q : Parts). IsRestDead c.in_ok-live.live (rows_of_parts q)) c.self.view_is rest)
    ∙ subst (λ (q : Parts).
    over c.in_ok-live.live (rows_of_parts q) ≡ over named (rows_of_parts q)) c.self.view_is
    (overlaid named names p c.in_ok-live.live c.self.invariant.parts is c.self.invariant.groups
    account))
