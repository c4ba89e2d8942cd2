use Rattle.std.proofs.Common.{arith, refl, subst, ◌≡◌, ◌<◌, ◌-◌}
use Rattle.monomial.specs.Layouts.{lane, lanes, AreFalling}
use Rattle.monomial.proofs.Lanes.{falling_one, falling_more, lanes_fall}
use Rattle.monomial.proofs.layout.are_falling.Goals as goal

pub loop-place-init : goal.loop-place-init
loop-place-init c = falling_one c.args.variables

pub loop-place-preserved : goal.loop-place-preserved
loop-place-preserved c =
    let low : lane c.args.variables (c.loop-place.place - 1) < lane c.args.variables c.loop-place.place = omega (arith, c.if-lane.false, c.lane.ensures, c.lane-in-loop-place.ensures) in
    falling_more c.args.variables c.loop-place.place (omega (arith, c.loop-place.auto.place)) low c.loop-place.invariant

pub returns-then-lane : goal.returns-then-lane
returns-then-lane c =
    (λ t. absurd (cc t), λ f. let low = lanes_fall c.args.variables 8 c.loop-place.place (omega (arith, c.loop-place.auto.place)) c.loop-place-test.true f in absurd (omega (arith, low, c.if-lane.true, c.lane.ensures, c.lane-in-loop-place.ensures)))

pub returns : goal.returns
returns c =
    let ended : c.loop-place.place ≡ 8 = omega (arith, c.loop-place-test.false, c.loop-place.auto.place-end (omega arith)) in
    (λ _. subst (λ n. AreFalling (lanes n c.args.variables)) ended c.loop-place.invariant, λ _. refl)
