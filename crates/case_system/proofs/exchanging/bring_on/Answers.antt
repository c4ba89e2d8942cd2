use Rattle.case_system.proofs.Turning.{turned_on}
use Rattle.case_system.proofs.exchanging.bring_on.Goals as goal

pub returns : goal.returns
returns g c = λ x e. turned_on c.args.items.now c.args.from c.args.to x c.rotate_left.new.self c.requires.order c.requires.place e c.rotate_left.ensures.after
