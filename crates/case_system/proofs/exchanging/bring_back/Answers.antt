use Rattle.case_system.proofs.Turning.{turned_back}
use Rattle.case_system.proofs.exchanging.bring_back.Goals as goal

pub returns : goal.returns
returns g c = λ x e. turned_back c.args.items.now c.args.to c.args.from x c.rotate_right.new.self c.requires.order c.requires.place e c.rotate_right.ensures.after
