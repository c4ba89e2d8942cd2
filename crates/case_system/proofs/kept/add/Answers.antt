use Rattle.std.proofs.Common.{sym, subst}
use Rattle.case_rules.proofs.AddedEquations.{ascend_added}
use Rattle.case_system.specs.Places.{Ascend}
use Rattle.case_system.proofs.kept.add.Goals as goal

pub returns-clause-ascending : goal.returns-clause-ascending
returns-clause-ascending c = subst Ascend (sym c.add_in_room-place.ensures.added) (ascend_added c.args.kept.equation c.reserve.new.self.items (subst Ascend (sym c.in_ok-reserve.ensures.items) c.requires.ascending))
