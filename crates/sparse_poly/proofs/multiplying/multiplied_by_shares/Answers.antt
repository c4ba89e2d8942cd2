use Rattle.std.proofs.Common.{◌≡◌, ◌++◌, ◌/◌, length, sym, ◌∙◌, false}
use Rattle.std.specs.declared.option.Option.TheVariants.{None}
use Rattle.sparse_poly.specs.Contributions.{degree_of}
use Rattle.sparse_poly.specs.Polynomials.{products}
use Rattle.sparse_poly.specs.Standing.{Stands}
use Rattle.sparse_poly.proofs.Standings.{halves, halves_high, halves_sums, StandsForBoth-append, IsResult-from_shares, IsFault-from_shares}
use Rattle.sparse_poly.proofs.multiplying.multiplied_by_shares.Goals as goal

pub returns-in-Some : goal.returns-in-Some
returns-in-Some c =
    sym (halves_high false c.args.first.now c.args.second.now _ _ None c.part.new.high c.part-2.new.high (halves c.args.first.now (length c.args.first.now / 2)) c.in_ok-front.ensures.high c.in_ok-back.ensures.high) ∙ c.in-Some.is

pub returns-in-Ok : goal.returns-in-Ok
returns-in-Ok c =
    let split = halves c.args.first.now (length c.args.first.now / 2) in
    let degree : degree_of (products c.args.first.now c.args.second.now) ≡ None = sym (halves_high false c.args.first.now c.args.second.now _ _ None c.part.new.high c.part-2.new.high split c.in_ok-front.ensures.high c.in_ok-back.ensures.high) ∙ c.in-None.is in
    let stands : Stands (c.in_ok-front.front.items ++ c.in_ok-back.back.items) (products c.args.first.now c.args.second.now) = halves_sums false c.args.first.now c.args.second.now _ _ c.part.new.high c.part-2.new.high _ _ _ split c.in_ok-back.ensures.high c.in_ok-front.ensures.sums c.in_ok-back.ensures.sums (StandsForBoth-append _ _) c.in-None.is in
    IsResult-from_shares _ _ _ stands degree c.in-Ok.ensures

pub returns-in-Err : goal.returns-in-Err
returns-in-Err c =
    let split = halves c.args.first.now (length c.args.first.now / 2) in
    let degree : degree_of (products c.args.first.now c.args.second.now) ≡ None = sym (halves_high false c.args.first.now c.args.second.now _ _ None c.part.new.high c.part-2.new.high split c.in_ok-front.ensures.high c.in_ok-back.ensures.high) ∙ c.in-None.is in
    let stands : Stands (c.in_ok-front.front.items ++ c.in_ok-back.back.items) (products c.args.first.now c.args.second.now) = halves_sums false c.args.first.now c.args.second.now _ _ c.part.new.high c.part-2.new.high _ _ _ split c.in_ok-back.ensures.high c.in_ok-front.ensures.sums c.in_ok-back.ensures.sums (StandsForBoth-append _ _) c.in-None.is in
    IsFault-from_shares _ _ c.in-Err.fault stands degree c.in-Err.ensures
