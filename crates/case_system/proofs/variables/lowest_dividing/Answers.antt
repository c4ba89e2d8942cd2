use Rattle.std.proofs.Common.{rules, arith, ◌≡◌, ◌<◌, ◌+◌, ◌-◌, ◌∙◌, ℕ, length, sym, subst}
use Rattle.std.proofs.lemmas.Bool.{true≢false}
use Rattle.std.specs.Prelude.{slice_get, slice_index_or}
use Rattle.std.specs.declared.option.Option.TheVariants.{Some}
use Rattle.sparse_poly.specs.Clearing.{IsDividedBy}
use Rattle.case_rules.specs.Rules.{None_has, IsLowestDividing}
use Rattle.case_system.proofs.Dividing.{None_divides_from, no_variable_divides, lowest_at, none_more_divides}
use Rattle.case_system.proofs.variables.lowest_dividing.Goals as goal

pub returns-then-is_divided_by : goal.returns-then-is_divided_by
returns-then-is_divided_by c =
    let first : Some c.in-Some.last.now ≡ slice_get c.terms-terms.result.now (length c.terms-terms.result.now - 1) = search rules in
    let within : c.powers.i - 1 < length c.in-Some.last.now.monomial = omega (arith, c.powers.invariant.within, c.powers-test.true) in
    let none : None_divides_from c.terms-terms.result.now c.in-Some.last.now.monomial (c.powers.i - 1 + 1) = subst (None_divides_from c.terms-terms.result.now c.in-Some.last.now.monomial) (omega (arith, c.powers-test.true)) c.powers.invariant.none in
    let divides : IsDividedBy (slice_index_or c.in-Some.last.now.monomial (c.powers.i - 1) (0, 0)).0 c.terms-terms.result.now = subst (λ (x : ℕ × ℕ). IsDividedBy x.0 c.terms-terms.result.now) c.power_at-var.ensures.value (c.is_divided_by.ensures.0 (search rules)) in
    let lowest : IsLowestDividing c.terms-terms.result.now (slice_index_or c.in-Some.last.now.monomial (c.powers.i - 1) (0, 0)).0 = lowest_at c.terms-terms.result.now (length c.terms-terms.result.now - 1) c.in-Some.last.now (c.powers.i - 1) first c.len-i.ensures.monomial.powers within none divides in
    subst (λ p. IsLowestDividing p c.power_at-var.result.0) c.terms-terms.ensures.value (subst (λ (x : ℕ × ℕ). IsLowestDividing c.terms-terms.result.now x.0) (sym c.power_at-var.ensures.value) lowest)

pub powers-preserved : goal.powers-preserved
powers-preserved c =
    let none : None_divides_from c.terms-terms.result.now c.in-Some.last.now.monomial (c.powers.i - 1 + 1) = subst (None_divides_from c.terms-terms.result.now c.in-Some.last.now.monomial) (omega (arith, c.powers-test.true)) c.powers.invariant.none in
    record {
      within = omega (arith, c.powers.invariant.within);
      none = none_more_divides c.terms-terms.result.now c.in-Some.last.now.monomial (c.powers.i - 1) none
          (λ d. true≢false (sym (c.is_divided_by.ensures.1 (subst (λ (x : ℕ × ℕ). IsDividedBy x.0 c.terms-terms.result.now) (sym c.power_at-var.ensures.value) d)) ∙ c.if-is_divided_by.false));
    }

pub returns : goal.returns
returns c =
    let first : Some c.in-Some.last.now ≡ slice_get c.terms-terms.result.now (length c.terms-terms.result.now - 1) = search rules in
    let none : None_divides_from c.terms-terms.result.now c.in-Some.last.now.monomial 0 = subst (None_divides_from c.terms-terms.result.now c.in-Some.last.now.monomial) (omega (arith, c.powers-test.false)) c.powers.invariant.none in
    subst (λ p. None_has (λ v. IsDividedBy v p)) c.terms-terms.ensures.value (no_variable_divides c.terms-terms.result.now (length c.terms-terms.result.now - 1) c.in-Some.last.now first none)
