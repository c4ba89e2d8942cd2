use Rattle.std.proofs.Common.{rules, ◌≡◌, ◌-◌, length}
use Rattle.std.specs.declared.option.Option.TheVariants.{Some}
use Rattle.std.specs.Prelude.{slice_get}
use Rattle.sparse_poly.proofs.Trailing.{no_last, last_apart, last_small}
use Rattle.sparse_poly.proofs.dividing.last_divides.Goals as goal

pub divides_term-requires : goal.divides_term-requires
divides_term-requires c =
    let last : Some c.in-Some.last.now ≡ slice_get c.args.terms.now (length c.args.terms.now - 1) = search rules in
    let lowest : Some c.in-Some-last.lowest.now ≡ slice_get c.args.divisor.now (length c.args.divisor.now - 1) = search rules in
    record {
      nonzero = last_apart c.args.divisor.now c.in-Some-last.lowest.now lowest c.requires.divisor;
      small = last_small c.args.terms.now c.in-Some.last.now last c.requires.poly;
    }

pub returns : goal.returns
returns c =
    let last : Some c.in-Some.last.now ≡ slice_get c.args.terms.now (length c.args.terms.now - 1) = search rules in
    let lowest : Some c.in-Some-last.lowest.now ≡ slice_get c.args.divisor.now (length c.args.divisor.now - 1) = search rules in
    λ e. no_last c.args.divisor.now c.args.terms.now c.in-Some-last.lowest.now c.in-Some.last.now lowest last c.requires.divisor c.requires.poly (c.divides_term.ensures e)
