use Rattle.std.proofs.Common.{◌∙◌, sym, ap, subst}
use Rattle.keepers.specs.Change.{over}
use Rattle.keepers.specs.Overlaying.{IsRestDead}
use Rattle.keepers.specs.Parts.{Parts, rows_of_parts, with_live}
use Rattle.keepers.specs.Inside.{parts_of}
use Rattle.keepers.proofs.PartsWritten.{parts_written}
use Rattle.keepers.proofs.Kept.{kept_known, kept_roomy, known_behind, replaced_parts, kept_replaced}
use Rattle.keepers.proofs.store.Store.replace.Goals as goal

pub invariant_of-self : goal.invariant_of-self
invariant_of-self c = kept_known c.self.inside.live c.self.inside.left c.self.inside.known
    c.note.new.known c.self.invariant c.note.ensures.more

pub invariant_of-self-in_err-make_room : goal.invariant_of-self-in_err-make_room
invariant_of-self-in_err-make_room c =
    kept_roomy c.self.inside.live c.self.inside.left c.make_room.new.left c.note.new.known
    (kept_known c.self.inside.live c.self.inside.left c.self.inside.known c.note.new.known
    c.self.invariant c.note.ensures.more) c.make_room.ensures.same

pub keep-requires : goal.keep-requires
keep-requires c =
    known_behind c.args.after c.self.inside.live c.self.inside.left c.make_room.new.left
    c.append.new.left c.append.new.left c.in_ok-leaving.leaving c.self.inside.known c.note.new.known
    c.self.invariant c.note.ensures.more c.in_ok-leaving.ensures c.in_ok-note.ensures.noted
    c.make_room.ensures.same c.append.ensures.appended

pub invariant_of-self-2 : goal.invariant_of-self-2
invariant_of-self-2 c =
    kept_replaced c.args.after c.self.inside.live c.self.inside.left c.make_room.new.left
    c.append.new.left c.keep.new.left c.in_ok-leaving.leaving c.self.inside.known c.note.new.known
    c.self.invariant c.note.ensures.more c.in_ok-leaving.ensures c.in_ok-note.ensures.noted
    c.make_room.ensures.same c.append.ensures.appended
    c.as_of-kept.ensures.kept c.as_of-live.ensures.kept c.keep.ensures

pub returns-clause-parts : goal.returns-clause-parts
returns-clause-parts c =
    replaced_parts c.args.after c.self.inside.live c.self.inside.left c.make_room.new.left
    c.append.new.left c.keep.new.left c.in_ok-leaving.leaving c.self.inside.known c.note.new.known
    c.self.invariant c.note.ensures.more c.in_ok-leaving.ensures c.in_ok-note.ensures.noted
    c.make_room.ensures.same c.append.ensures.appended c.keep.ensures
    ∙ ap (with_live c.args.after) c.self.view_is

pub returns-clause-over : goal.returns-clause-over
returns-clause-over c = λ rest.
    let p : Parts = parts_of c.self.inside in
    ap rows_of_parts (replaced_parts c.args.after c.self.inside.live c.self.inside.left
    c.make_room.new.left c.append.new.left c.keep.new.left c.in_ok-leaving.leaving
    c.self.inside.known c.note.new.known c.self.invariant c.note.ensures.more
    c.in_ok-leaving.ensures c.in_ok-note.ensures.noted c.make_room.ensures.same
    c.append.ensures.appended c.keep.ensures)
    ∙ parts_written c.args.after p c.self.invariant.parts c.as_of-live.ensures.kept
    c.as_of-kept.ensures.kept
    (subst (λ (q : Parts). IsRestDead c.args.after (rows_of_parts q)) (sym c.self.view_is) rest)
    ∙ ap (λ (q : Parts). over c.args.after (rows_of_parts q)) c.self.view_is
