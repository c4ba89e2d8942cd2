-- Cases whose equations are polynomials and not zero.
use Rattle.std.specs.Prelude.{◌≡◌, ◌≢◌, ℕ, zero, suc, ◌+◌, ◌<◌, List, [], ◌∷◌, length, remove, slice_index_or, refl}
use mathlib.Core.Logic.{inl}
use Rattle.std.proofs.Common.{arith, subst, sym, ◌∙◌, ap}
use Rattle.std.specs.List.{AllByRecursion}
use Rattle.std.specs.declared.option.Option.{Option}
use Rattle.std.specs.declared.option.Option.TheVariants.{None, Some}
use Rattle.sparse_poly.specs.declared.Term.{Term}
use Rattle.sparse_poly.specs.Contributions.{IsPoly}
use Rattle.sparse_poly.specs.Reads.{main_variable, HaveMainVariables}
use Rattle.sparse_poly.proofs.Descending.{all_map}
use Rattle.sparse_poly.proofs.Ordered.{main_variable-leading, constant_of_first}
use Rattle.derive_lines.specs.declared.parts.Line.{Line}
use Rattle.derive_lines.specs.Refuting.{IsNonzeroConstant}
use Rattle.case_rules.specs.declared.equation.Equation.{Equation}
use Rattle.case_rules.specs.Cases.{CaseState, equation_at, poly, polys, polys_of, count, no_equation}
use Rattle.case_rules.specs.Clearings as clearings
use Rattle.case_rules.specs.Clearings.{IsClearing}
use Rattle.case_rules.specs.Branches.{IsReduced}
use Rattle.case_rules.specs.Rules.{IsAlive, IsSettled}
use Rattle.case_rules.proofs.AddedEquations.{every_added, every_removed}
use Rattle.case_rules.proofs.OneMove.{ArePolys}
use Rattle.case_rules.proofs.OneBranch.{EachPoly}

pub record IsSound (e : Equation) : Type 0 where
  pub poly : IsPoly e.poly
  pub nonzero : e.poly ≢ []

abbrev pub IsRegular : CaseState → Type 0
IsRegular c = AllByRecursion IsSound c.equations

-- what holds of all equations and of none holds at each place
pub every_at : (P : Equation → Type 0) (es : List Equation) (i : ℕ) → P no_equation → AllByRecursion P es → P (equation_at es i)
every_at P [] i z h = z
every_at P (e ∷ es) zero z h = h.0
every_at P (e ∷ es) (suc i) z h = every_at P es i z h.1

pub within_at : (P : Equation → Type 0) (es : List Equation) (i : ℕ) → i < length es → AllByRecursion P es → P (equation_at es i)
within_at P [] i l h = absurd (omega (arith, l))
within_at P (e ∷ es) zero l h = h.0
within_at P (e ∷ es) (suc i) l h = within_at P es i (omega (arith, l)) h.1

pub no_terms : IsPoly []
no_terms = record { falling = tt; monomials = tt; apart = tt; in_range = tt }

pub regular_each : (c : CaseState) → IsRegular c → EachPoly c
regular_each c h = all_map IsSound (λ (e : Equation). IsPoly e.poly) c.equations (λ e s. s.poly) h

pub regular_polys : (c : CaseState) → IsRegular c → ArePolys c
regular_polys c h i = every_at (λ (e : Equation). IsPoly e.poly) c.equations i no_terms (regular_each c h)

-- a polynomial that is cleared stays one
pub cleared_poly : (ns : List (List Term)) (k : ℕ) (e : Equation) (ls : List Line) (f : Equation) → IsPoly e.poly → IsClearing ns k e ls f → IsPoly f.poly
cleared_poly ns k e ls f p (clearings.IsClearing.end i j) = p
cleared_poly ns k e ls f p (clearings.IsClearing.next n ns' i j ls' f' none rest) = cleared_poly ns' k e ls f p rest
cleared_poly ns k e ls f p (clearings.IsClearing.once n ns' i j h ls' f' d rest) = cleared_poly (n ∷ ns') (k + 1) (clearings.made h k) ls' f d.quotient.poly rest

pub regular_reduced : (c : CaseState) (q p v : ℕ) (d : CaseState) → IsRegular c → IsReduced c q p v d → IsRegular d
regular_reduced c q p v d h r =
    let made : IsPoly r.rest.poly = cleared_poly _ _ (clearings.made r.step.r (length c.lines)) r.lines r.rest r.reduction.is_step.stripped.rest_poly r.clearing in
    subst IsRegular (sym r.is) (every_added IsSound r.rest (remove c.equations q) (λ z. record { poly = made; nonzero = z }) (every_removed IsSound c.equations q h))

-- the polynomials by place
pub polys_at : (es : List Equation) (i : ℕ) (d : List Term) → i < length es → slice_index_or (polys_of es) i d ≡ (equation_at es i).poly
polys_at [] i d l = absurd (omega (arith, l))
polys_at (e ∷ es) zero d l = refl
polys_at (e ∷ es) (suc i) d l = polys_at es i d (omega (arith, l))

pub polys_length : (es : List Equation) → length (polys_of es) ≡ length es
polys_length [] = refl
polys_length (e ∷ es) = ap suc (polys_length es)

-- a polynomial without a variable is a constant
pub constant_of : (p : List Term) → IsPoly p → p ≢ [] → main_variable p ≡ None → IsNonzeroConstant p
constant_of [] h z e = absurd (z refl)
constant_of (t ∷ ts) h z e = record { number = t.coeff; nonzero = h.apart.0; is = constant_of_first (t ∷ ts) t refl h (sym (main_variable-leading t ts h.falling) ∙ e) }

some_or_none : (o : Option ℕ) → (o ≡ None → ⊥) → (v : ℕ) × (o ≡ Some v)
some_or_none None n = absurd (n refl)
some_or_none (Some v) n = (v, refl)

-- where no equation is dead and no variable is main in two, the equations have main variables that differ
pub settled_variables : (c : CaseState) → IsRegular c → IsAlive c → IsSettled c → HaveMainVariables (polys c)
settled_variables c h alive settled = record {
  varied = λ i d l. subst (λ p. main_variable p ≢ None) (sym (polys_at c.equations i d (within i l))) (varied i (within i l));
  apart = λ i j d a l e.
      let m = within j l in
      let k : i < count c = omega (arith, a, m) in
      let main = some_or_none (main_variable (poly c i)) (varied i k) in
      settled.pair main.0 (record {
        first = i;
        second = j;
        apart = a;
        first_has = record { place = k; main = main.1 };
        second_has = record { place = m; main = ap main_variable (sym (polys_at c.equations j d m)) ∙ sym e ∙ ap main_variable (polys_at c.equations i d k) ∙ main.1 };
      });
}
  where
    within : (i : ℕ) → i < length (polys c) → i < count c
    within i l = omega (arith, l, polys_length c.equations)

    varied : (i : ℕ) → i < count c → main_variable (poly c i) ≢ None
    varied i l e =
        let s = within_at IsSound c.equations i l h in
        alive i (record { place = l; contradiction = inl (constant_of (poly c i) s.poly s.nonzero e) })
