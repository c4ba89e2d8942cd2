use Rattle.std.proofs.Common.{rules, ◌<◌, length}
use Rattle.case_system.proofs.Marking.{marks_length, marked_at}
use Rattle.case_system.proofs.conditions.Conditions.is_in_form.Goals as goal

pub index-requires : goal.index-requires
index-requires c =
    let within : c.args.i < length c.self.inside.polys.items = rw c.self.view_is c.requires in
    let long = marks_length c.self.inside.polys.items c.self.inside.in_form.items c.self.invariant in
    let same = c.self.inside.in_form.len in
    search rules

pub returns : goal.returns
returns c =
    let within : c.args.i < length c.self.inside.polys.items = rw c.self.view_is c.requires in
    rw (← c.self.view_is) (marked_at c.self.inside.polys.items c.self.inside.in_form.items c.args.i c.index.result.now c.self.invariant within c.index.ensures)
