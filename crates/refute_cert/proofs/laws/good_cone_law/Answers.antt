use Rattle.refute_cert.proofs.GoodCones.{cone_refutes, cone_polys, cone_within}
use Rattle.refute_cert.proofs.laws.good_cone_law.Goals as goal

pub returns-clause-good : goal.returns-clause-good
returns-clause-good c root ds ls end cone polys good h = cone_refutes root ds ls end good cone h (cone_polys root ds ls end cone h polys)

pub returns-clause-within : goal.returns-clause-within
returns-clause-within c root ds ls end cone h = cone_within root ds ls end cone h
