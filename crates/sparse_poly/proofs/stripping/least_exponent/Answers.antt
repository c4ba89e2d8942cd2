use Rattle.std.proofs.Common.{sym, ◌∙◌, ap, drop}
use Rattle.sparse_poly.specs.Factors.{least_exponent}
use Rattle.sparse_poly.proofs.Contents.{least_exponent-zero}
use Rattle.sparse_poly.proofs.stripping.least_exponent.Goals as goal

pub returns-then-least-eq0 : goal.returns-then-least-eq0
returns-then-least-eq0 c =
    sym (least_exponent-zero c.args.power.0 (drop c.loop-term.term-index c.args.terms.now))
    ∙ ap (λ n. least_exponent c.args.power.0 n (drop c.loop-term.term-index c.args.terms.now)) (sym c.if-least-eq0.true)
    ∙ c.loop-term.invariant
