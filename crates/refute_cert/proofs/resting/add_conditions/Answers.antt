use Rattle.refute_cert.proofs.RestTests.{none_rests, all_rests}
use Rattle.refute_cert.proofs.resting.add_conditions.Goals as goal

pub returns-then-is_one : goal.returns-then-is_one
returns-then-is_one c = λ n u. none_rests c.args.units.now c.args.m.now c.args.known.now (c.is_one.ensures.0 c.if-is_one.true) n

pub returns : goal.returns
returns c = λ n u. all_rests c.args.units.now c.args.m.now c.in_ok-stripped.stripped.factor c.in_ok-stripped.stripped.rest c.in_ok-cleared.cleared.factor c.in_ok-cleared.cleared.rest c.terms-terms.ensures.poly c.in_ok-stripped.ensures c.in_ok-cleared.ensures.cleared n c.args.known.now c.add_variables.new.known c.add_rest.new.known c.add_divisors.new.known c.add_rest-2.new.known (c.in_ok-add_variables.ensures n u) (c.in_ok-add_rest.ensures n u) (c.in_ok-cleared.ensures.known n) (c.in_ok-add_rest-2.ensures n u)
