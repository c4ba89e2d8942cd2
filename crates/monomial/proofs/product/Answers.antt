use Rattle.std.proofs.Common.{rules, arith, ◌≡◌, ◌<◌, ◌≤◌, length, ◌++◌, slice_index_or, [], ◌∷◌}
use Rattle.monomial.proofs.Steps.{Met-left}
use Rattle.monomial.proofs.product.Goals as goal

pub left-preserved : goal.left-preserved
left-preserved c =
    let inside : c.left.i < length c.args.first.now = search rules in
    let ended : c.both.j ≡ length c.args.second.now = c.left.invariant.one_ended (λ h. omega (arith, h, inside)) in
    let items : c.push-in-left.new.self.items ≡ c.left.powers.items ++ slice_index_or c.args.first.now c.left.i (0, 0) ∷ [] = search rules in
    let value = c.power_at.ensures.value in
    let small : (slice_index_or c.args.first.now c.left.i (0, 0)).1 ≤ 65535 = rw value at c.power_at.ensures.bound in
    record {
      one_ended = λ _. ended;
      met = rw items (Met-left _ _ _ _ _ inside ended small c.left.invariant.met);
    }
