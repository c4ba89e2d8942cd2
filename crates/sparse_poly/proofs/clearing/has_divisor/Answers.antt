use Rattle.std.proofs.Common.{sym, subst, arith, ◌∙◌, ℕ, below_more}
use Rattle.std.proofs.lemmas.Bool.{true≢false}
use Rattle.sparse_poly.specs.Clearing.{IsDividedBy}
use Rattle.sparse_poly.proofs.InForm.{no_power}
use Rattle.sparse_poly.proofs.clearing.has_divisor.Goals as goal

pub returns-then-divides_each-clause-found : goal.returns-then-divides_each-clause-found
returns-then-divides_each-clause-found c = λ t. record { variable = c.power_at.result.0; divides = c.divides_each.ensures.0 c.if-divides_each.true }

pub powers-preserved : goal.powers-preserved
powers-preserved c = below_more _ _ c.powers.invariant (λ d. true≢false (sym (c.divides_each.ensures.1 (subst (λ (p : ℕ × ℕ). IsDividedBy p.0 c.args.terms.now) (sym c.power_at.ensures.value) d)) ∙ c.if-divides_each.false))

pub returns-clause-none : goal.returns-clause-none
returns-clause-none c = λ e v s d. no_power c.args.monomial.now v (λ w. IsDividedBy w c.args.terms.now) (λ k l. c.powers.invariant k (omega (arith, l, c.len.ensures.value, c.powers-test.false))) s d
