use Rattle.operations.proofs.Beginnings.{fault_told_by}
use Rattle.ocs.specs.Told.{about_fault, fault_place}
use Rattle.ocs.proofs.telling.tell_fault.Goals as goal

pub returns-clause-told : goal.returns-clause-told
returns-clause-told g c =
    fault_told_by (g.E.Write.contents c.args.errors.now)
    (g.E.Write.contents c.tell_fault.new.errors) (about_fault c.args.fault) (fault_place c.args.fault)
    c.line.result.now c.number.result c.place.result c.line.ensures c.number.ensures
    c.place.ensures c.tell_fault.ensures
