use Rattle.case_system.proofs.Turning.{exchanged}
use Rattle.case_system.proofs.exchanging.exchange.Goals as goal

pub returns-then-to-out-clause-exchanged : goal.returns-then-to-out-clause-exchanged
returns-then-to-out-clause-exchanged g c = exchanged c.args.items.now c.args.out c.replace-gone.new.dest c.args.item c.args.to c.bring_back.new.items c.requires.out c.replace-gone.ensures.after c.bring_back.ensures

pub returns-else-to-out-clause-exchanged : goal.returns-else-to-out-clause-exchanged
returns-else-to-out-clause-exchanged g c = exchanged c.args.items.now c.args.out c.replace-gone.new.dest c.args.item c.args.to c.bring_on.new.items c.requires.out c.replace-gone.ensures.after c.bring_on.ensures
