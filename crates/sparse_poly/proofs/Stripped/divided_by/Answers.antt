use Rattle.sparse_poly.proofs.Stripped.divided_by.Goals as goal

pub returns-then-not-may_divide : goal.returns-then-not-may_divide
returns-then-not-may_divide c = c.may_divide.ensures.none c.if-not-may_divide.true c.args.units.now c.args.self.now.factor
