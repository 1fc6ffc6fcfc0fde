use Rattle.std.proofs.Common.{sym, subst}
use Rattle.reserving.specs.Restored.{given}
use Rattle.reserving.specs.Stored.{StoredRows}
use Rattle.keepers.specs.Inside.{AreKeptBy}
use Rattle.keepers.specs.Parts.{Parts, AreParts}
use Rattle.keepers.specs.Recorded.{recorded}
use Rattle.keepers.proofs.Kept.{kept_known, kept_roomy}
use Rattle.keepers.proofs.Recorded.{kept_behind}
use Rattle.keepers.proofs.store.Store.leave.Goals as goal

pub invariant_of-self : goal.invariant_of-self
invariant_of-self c = kept_known c.self.inside.live c.self.inside.left c.self.inside.known
    c.note.new.known c.self.invariant c.note.ensures.more

pub invariant_of-self-in_err-make_room : goal.invariant_of-self-in_err-make_room
invariant_of-self-in_err-make_room c =
    kept_roomy c.self.inside.live c.self.inside.left c.make_room.new.left c.note.new.known
    (kept_known c.self.inside.live c.self.inside.left c.self.inside.known c.note.new.known
    c.self.invariant c.note.ensures.more) c.make_room.ensures.same

pub invariant_of-self-in_err-write : goal.invariant_of-self-in_err-write
invariant_of-self-in_err-write c =
    subst (λ (live : StoredRows). AreKeptBy live c.make_room.new.left c.note.new.known)
    (sym c.in_err-write.ensures.err)
    (kept_roomy c.self.inside.live c.self.inside.left c.make_room.new.left c.note.new.known
    (kept_known c.self.inside.live c.self.inside.left c.self.inside.known c.note.new.known
    c.self.invariant c.note.ensures.more) c.make_room.ensures.same)

pub invariant_of-self-2 : goal.invariant_of-self-2
invariant_of-self-2 c =
    kept_behind (given c.args.rows) c.self.inside.live c.write.new.self c.self.inside.left
    c.make_room.new.left c.append.new.left c.args.past c.self.inside.known c.note.new.known
    c.self.invariant c.note.ensures.more c.in_ok-note.ensures.noted c.make_room.ensures.same
    c.append.ensures.appended c.in_ok-write.ensures.ok
    (subst (λ (q : Parts). AreParts (recorded (given c.args.rows) c.args.past q))
    (sym c.self.view_is) c.requires.parts)
