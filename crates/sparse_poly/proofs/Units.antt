-- The value of a unit: where no unit vanishes, it does not.
use Rattle.std.specs.Prelude.{◌≡◌, refl, ◌≢◌, ℕ, zero, suc, pos, List, [], ◌∷◌, slice_index_or}
use mathlib.Core.Logic.{inl, inr}
use Rattle.std.proofs.Common.{arith, sym, ◌∙◌, ap, subst}
use Rattle.std.specs.List.{AllByRecursion, Contains}
use Rattle.field_laws.specs.Field.{Field, IsField, IsElement, power, whole, AllElements}
use Rattle.field_laws.proofs.FieldSteps.{power_is, whole_is, whole_apart, whole-one, zero-times, times-zero, other_zero}
use Rattle.sparse_poly.specs.declared.Term.{Term}
use Rattle.sparse_poly.specs.Polynomials.{eval, monomial_value, term_value, variable}
use Rattle.sparse_poly.specs.Units.{IsUnitTerm, IsOneOrMember, AllNonzero}
use Rattle.sparse_poly.specs.Clearing.{IsDividedOut, finished, passed, divided, IsCleared, IsStripUnit, IsClearUnit, IsUnit}
use Rattle.sparse_poly.proofs.Evaluation.{variable_is, monomial_is, term_is, eval_is, product_value}

all_contains : {X : Type 0} (P : X → Type 0) (xs : List X) (x : X) → AllByRecursion P xs → Contains xs x → P x
all_contains P [] x h (k, l, e) = absurd (omega arith)
all_contains P (y ∷ ys) x h (zero, l, e) = subst P e h.0
all_contains P (y ∷ ys) x h (suc k, l, e) = all_contains P ys x h.1 (k, omega arith, e)

module _ {E : Type 0} (f : Field E) (l : IsField f) (s : List E) (p : AllElements f s) where
  open f use {plus, times}

  nonzero_times : (a b : E) → IsElement f a → IsElement f b → a ≢ f.zero → b ≢ f.zero → times a b ≢ f.zero
  nonzero_times a b h i n m e = m (other_zero f l a b h i n e)

  one_nonzero : f.one ≢ f.zero
  one_nonzero e = whole_apart f l (pos 1) (λ z. absurd (cc z)) (whole-one f l ∙ e)

  power_nonzero : (a : E) (n : ℕ) → IsElement f a → a ≢ f.zero → power f a n ≢ f.zero
  power_nonzero a zero h m = one_nonzero
  power_nonzero a (suc n) h m = nonzero_times a (power f a n) h (power_is f l a n h) m (power_nonzero a n h m)

  -- a unit variable does not vanish
  variable_nonzero : (v : ℕ) → eval f s (variable v) ≢ f.zero → slice_index_or s v f.zero ≢ f.zero
  variable_nonzero v n e = n (
      ap (λ y. plus (times (whole f (pos 1)) (times (times y f.one) f.one)) f.zero) e
      ∙ ap (λ y. plus (times (whole f (pos 1)) (times y f.one)) f.zero) (zero-times f l f.one l.one_is)
      ∙ ap (λ y. plus (times (whole f (pos 1)) y) f.zero) (zero-times f l f.one l.one_is)
      ∙ ap (λ y. plus y f.zero) (times-zero f l (whole f (pos 1)) (whole_is f l (pos 1)))
      ∙ l.plus-zero f.zero l.zero_is)

  monomial_nonzero : (units : List (List Term)) (m : List (ℕ × ℕ)) → AllNonzero f s units → AllByRecursion (λ (q : ℕ × ℕ). Contains units (variable q.0)) m → monomial_value f s m ≢ f.zero
  monomial_nonzero units [] h a = one_nonzero
  monomial_nonzero units (q ∷ qs) h a =
      nonzero_times _ _ (power_is f l _ q.1 (variable_is f l s p q.0)) (monomial_is f l s p qs)
      (power_nonzero _ q.1 (variable_is f l s p q.0) (variable_nonzero q.0 (all_contains (λ (u : List Term). eval f s u ≢ f.zero) units (variable q.0) h a.0)))
      (monomial_nonzero units qs h a.1)

  factor_nonzero : (units : List (List Term)) (factor : List Term) → AllNonzero f s units → IsUnitTerm units factor → AllByRecursion (λ (t : Term). t.coeff ≢ pos 0) factor → eval f s factor ≢ f.zero
  factor_nonzero units [] h o n e = absurd o
  factor_nonzero units (t ∷ u ∷ us) h o n e = absurd o
  factor_nonzero units (t ∷ []) h o n e =
      nonzero_times (whole f t.coeff) (monomial_value f s t.monomial) (whole_is f l t.coeff) (monomial_is f l s p t.monomial) (whole_apart f l t.coeff n.0) (monomial_nonzero units t.monomial h o)
      (sym (l.plus-zero (term_value f s t.monomial t.coeff) (term_is f l s p t.monomial t.coeff)) ∙ e)

  rest_nonzero : (units : List (List Term)) (rest : List Term) → AllNonzero f s units → IsOneOrMember units rest → eval f s rest ≢ f.zero
  rest_nonzero units rest h (inl o) e =
      whole_apart f l (pos 1) (λ z. absurd (cc z)) (sym (l.plus-zero (times (whole f (pos 1)) f.one) (l.times_is _ _ (whole_is f l (pos 1)) l.one_is) ∙ l.times-one (whole f (pos 1)) (whole_is f l (pos 1))) ∙ ap (eval f s) (sym o) ∙ e)
  rest_nonzero units rest h (inr m) e = all_contains (λ (u : List Term). eval f s u ≢ f.zero) units rest h m e

  -- what was divided out, and what is left, have the same product
  divided_value : {units ns : List (List Term)} {a b e h : List Term} → IsDividedOut units ns a b e h → times (eval f s e) (eval f s h) ≡ times (eval f s a) (eval f s b)
  divided_value finished = refl
  divided_value (passed n r) = divided_value r
  divided_value (divided {n = n} {f = a} {g = b} {d = d} {k = k} v r) =
      divided_value r ∙ ap (λ x. times x (eval f s k)) (product_value f l s p a n d v.factor.sums)
      ∙ l.times_assoc _ _ _ (eval_is f l s p a) (eval_is f l s p n) (eval_is f l s p k)
      ∙ ap (times (eval f s a)) (l.times_comm _ _ (eval_is f l s p n) (eval_is f l s p k) ∙ sym (product_value f l s p k n b v.quotient.product.sums))

  divided_nonzero : {units ns : List (List Term)} {a b e h : List Term} → AllNonzero f s ns → eval f s a ≢ f.zero → IsDividedOut units ns a b e h → eval f s e ≢ f.zero
  divided_nonzero h m finished = m
  divided_nonzero h m (passed n r) = divided_nonzero h.1 m r
  divided_nonzero h m (divided {n = n} {f = a} {g = b} {d = d} {k = k} v r) =
      divided_nonzero h (λ z. nonzero_times (eval f s a) (eval f s n) (eval_is f l s p a) (eval_is f l s p n) m h.0 (sym (product_value f l s p a n d v.factor.sums) ∙ z)) r

  -- the value of a cleared polynomial
  pub cleared_value : (units : List (List Term)) (q factor rest : List Term) → IsCleared units q factor rest → eval f s q ≡ times (eval f s factor) (eval f s rest)
  cleared_value units q factor rest c = product_value f l s p c.strip_factor c.strip_rest q c.stripped.product ∙ sym (divided_value c.divided_out)

  strip_unit_value : (units : List (List Term)) (q : List Term) → AllNonzero f s units → IsStripUnit units q → eval f s q ≢ f.zero
  strip_unit_value units q h u e =
      nonzero_times (eval f s u.factor) (eval f s u.rest) (eval_is f l s p u.factor) (eval_is f l s p u.rest)
      (factor_nonzero units u.factor h u.stripped.out u.stripped.factor_poly.apart) (rest_nonzero units u.rest h u.member)
      (sym (product_value f l s p u.factor u.rest q u.stripped.product) ∙ e)

  clear_unit_value : (units : List (List Term)) (q : List Term) → AllNonzero f s units → IsClearUnit units q → eval f s q ≢ f.zero
  clear_unit_value units q h u e =
      nonzero_times (eval f s u.factor) (eval f s u.rest) (eval_is f l s p u.factor) (eval_is f l s p u.rest)
      (divided_nonzero h (factor_nonzero units u.cleared.strip_factor h u.cleared.stripped.out u.cleared.stripped.factor_poly.apart) u.cleared.divided_out) (rest_nonzero units u.rest h u.member)
      (sym (cleared_value units q u.factor u.rest u.cleared) ∙ e)

  -- where no member of the units vanishes, a unit does not vanish
  pub unit_value : (units : List (List Term)) (q : List Term) → AllNonzero f s units → IsUnit units q → eval f s q ≢ f.zero
  unit_value units q h (inl u) = strip_unit_value units q h u
  unit_value units q h (inr u) = clear_unit_value units q h u
