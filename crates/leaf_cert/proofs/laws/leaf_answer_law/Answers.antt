use Rattle.derive_lines.specs.declared.parts.LineStop.TheVariants.{Lost}
use Rattle.leaf_cert.proofs.OneStop.{no_leaf_stop, one_leaf_stop, lost_is_apart}
use Rattle.leaf_cert.proofs.laws.leaf_answer_law.Goals as goal

pub returns-clause-good : goal.returns-clause-good
returns-clause-good c root leaf stop g h = no_leaf_stop root leaf.decisions leaf.lines leaf.equations leaf.end (λ i j a b. c.answer_law.ensures.one_lost root leaf.decisions leaf.lines leaf.equations i j a b) (λ i a b. lost_is_apart i (c.answer_law.ensures.recovered root leaf.decisions leaf.lines leaf.equations (Lost i) a b)) stop g.lines g.equations g.recovered g.end h

pub returns-clause-one_stop : goal.returns-clause-one_stop
returns-clause-one_stop c root ds ls eqs end stop other h k n m = one_leaf_stop root ds ls eqs end (λ i j a b. c.answer_law.ensures.one_lost root ds ls eqs i j a b) (λ i a b. lost_is_apart i (c.answer_law.ensures.recovered root ds ls eqs (Lost i) a b)) stop other h k n m
