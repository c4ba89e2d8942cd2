use Rattle.std.proofs.Common.{rules, ◌≡◌, ◌-◌, ◌++◌, ◌≤◌, length, take, drop}
use mathlib.Core.Logic.{◌⊎◌, inl, inr}
use Rattle.poly_text.proofs.Products.{left_over}
use Rattle.poly_text.proofs.factors.times.Goals as goal
use Rattle.poly_text.proofs.factors.times.Goals.{then-both-test+else-j-second, else-both-test}

pub returns : goal.returns
returns c =
    let xs = c.args.first.now in
    let ys = c.args.second.now in
    let ended : (length xs ≤ c.both.i) ⊎ (length ys ≤ c.both.j) = elim c.both-test.branch [ then-both-test+else-j-second w ↦ inr w.if-j-second.false | else-both-test w ↦ inl w.both-test.false ] in
    let first : c.extend_from_slice.new.self.items ≡ c.both.merged.items ++ take (length xs - c.both.i) (drop c.both.i xs) = search rules in
    let second : c.extend_from_slice-2.new.self.items ≡ c.extend_from_slice.new.self.items ++ take (length ys - c.both.j) (drop c.both.j ys) = search rules in
    left_over xs ys c.both.merged.items _ _ c.both.i c.both.j ended c.both.invariant.same first second
