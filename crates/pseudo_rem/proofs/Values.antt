-- The value of a step.
use Rattle.std.specs.Prelude.{◌≡◌, List, refl}
use Rattle.std.proofs.Common.{sym, ◌∙◌, ap}
use Rattle.field_laws.specs.Field.{Field, IsField, IsElement, AllElements}
use Rattle.field_laws.proofs.FieldSteps.{sum_of_difference}
use Rattle.sparse_poly.specs.declared.Term.{Term}
use Rattle.sparse_poly.specs.Polynomials.{eval, products, IsSum}
use Rattle.sparse_poly.specs.Contributions.{contributions}
use Rattle.sparse_poly.proofs.Evaluation.{eval_is, eval-same, combined_value, product_value}

module _ {E : Type 0} (f : Field E) (h : IsField f) (s : List E) (is : AllElements f s) where
  open f use {plus, minus, times}

  -- l*q = a*p + m*r as values, where l*q - a*p and m*r have the same coefficients
  pub values_of : (l q a p m r : List Term) → IsSum (contributions l q a p) (products m r) → times (eval f s l) (eval f s q) ≡ plus (times (eval f s a) (eval f s p)) (times (eval f s m) (eval f s r))
  values_of l q a p m r e =
      sum_of_difference f h (times (eval f s l) (eval f s q)) (times (eval f s a) (eval f s p)) (times (eval f s m) (eval f s r))
      (h.times_is (eval f s l) (eval f s q) (eval_is f h s is l) (eval_is f h s is q)) (h.times_is (eval f s a) (eval f s p) (eval_is f h s is a) (eval_is f h s is p))
      (sym (combined_value f h s is l q a p (contributions l q a p) (λ k. refl)) ∙ eval-same f h s is (contributions l q a p) (products m r) e ∙ product_value f h s is m r (products m r) (λ k. refl))
