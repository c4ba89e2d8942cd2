use Rattle.std.proofs.Common.{arith, sym, subst, drop, ◌+◌, ◌≡◌, [], ◌∷◌}
use Rattle.std.proofs.lemmas.List.{drop_all}
use Rattle.sparse_poly.specs.Clearing.{IsDividedOut, finished}
use Rattle.refute_cert.proofs.RestSets.{drop_here}
use Rattle.refute_cert.proofs.Divisors.{divides_then, divides_all}
use Rattle.refute_cert.proofs.resting.add_divisors.Goals as goal

pub units-preserved : goal.units-preserved
units-preserved c =
    let here : drop c.units.i c.args.units.now ≡ c.index-units-i.result ∷ drop (c.units.i + 1) c.args.units.now = drop_here c.args.units.now c.units.i c.index-units-i.result (omega arith) c.index-units-i.is in
    record {
      within = omega arith;
      cleared = λ e h r. c.units.invariant.cleared e h (subst (λ ns. IsDividedOut c.args.units.now ns c.units.cleared.factor c.units.cleared.rest e h) (sym here) (c.in_ok-cleared.ensures.cleared (drop (c.units.i + 1) c.args.units.now) e h r));
      known = λ n. divides_then c.args.units.now c.units.known c.add_divisor.new.known n (drop c.units.i c.args.units.now) (c.index-units-i.result ∷ drop (c.units.i + 1) c.args.units.now) (drop (c.units.i + 1) c.args.units.now) c.units.cleared.factor c.units.cleared.rest c.in_ok-cleared.cleared.factor c.in_ok-cleared.cleared.rest _ here (c.in_ok-cleared.ensures.known (drop (c.units.i + 1) c.args.units.now) n) (c.units.invariant.known n);
    }

pub returns-clause-cleared : goal.returns-clause-cleared
returns-clause-cleared c =
    let past : drop c.units.i c.args.units.now ≡ [] = drop_all c.units.i c.args.units.now (omega arith) in
    c.units.invariant.cleared c.units.cleared.factor c.units.cleared.rest (subst (λ ns. IsDividedOut c.args.units.now ns c.units.cleared.factor c.units.cleared.rest c.units.cleared.factor c.units.cleared.rest) (sym past) finished)

pub returns-clause-known : goal.returns-clause-known
returns-clause-known c = λ n. divides_all c.args.units.now c.units.known (drop c.units.i c.args.units.now) c.units.cleared.factor c.units.cleared.rest n _ (drop_all c.units.i c.args.units.now (omega arith)) (c.units.invariant.known n)
