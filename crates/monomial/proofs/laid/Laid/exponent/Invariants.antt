use Rattle.std.proofs.Common.{◌≡◌, ◌-◌}
use Rattle.monomial.specs.Monomials.{exponent}
use Rattle.monomial.specs.Layouts.{lanes, monomial_of, AreFalling}
use Rattle.monomial.proofs.laid.Laid.exponent.Given as goal

abbrev pub invariant-loop-i : goal.invariant-loop-i
invariant-loop-i l = record {
  falling : AreFalling (lanes (8 - l.i) l.variables);
  same : exponent (monomial_of (lanes (8 - l.i) l.variables) l.word) l.fn.var ≡ exponent l.fn.self l.fn.var;
}
