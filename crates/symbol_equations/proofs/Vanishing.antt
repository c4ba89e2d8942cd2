-- In every field the difference of an equation vanishes exactly where both sides have one value.
use Rattle.std.specs.Prelude.{◌≡◌, ◌↔◌, List, [], ◌∷◌, map, refl}
use Rattle.std.proofs.Common.{sym as back, ◌∙◌, ap}
use Rattle.field_laws.specs.Field.{Field, IsField, IsElement, AllElements}
use Rattle.field_laws.proofs.FieldSteps.{total_is, whole-one, same_of_difference, difference_of_same}
use Rattle.sparse_poly.specs.declared.Term.{Term}
use Rattle.sparse_poly.specs.Polynomials.{eval, negated}
use Rattle.sparse_poly.proofs.Evaluation.{listed_is, eval-append, eval-same, eval-products, eval-negated}
use Rattle.fusion_ring.specs.Fusion.{Fusion}
use Rattle.symbol_index.specs.declared.Symbol.{Symbol}
use Rattle.symbol_index.specs.declared.Standing.{Standing}
use Rattle.symbol_index.specs.declared.Standing.TheVariants.{Unit as unit_symbol, Unknown, NotAdmissible}
use Rattle.symbol_index.specs.Symbols.{standing}
use Rattle.symbol_equations.specs.Values.{standing_value, symbol_value, product_value, side_value}
use Rattle.symbol_equations.specs.Differences.{one_terms, standing_terms, product_terms, side_terms, IsDifference}

module _ {E : Type 0} (f : Field E) (l : IsField f) (x : List E) (elements : AllElements f x) (r : Fusion) where
  open f use {plus, minus, times}

  abbrev value : Symbol → E
  value s = symbol_value f r x s

  standing_is : (s : Standing) → IsElement f (standing_value f x s)
  standing_is unit_symbol = l.one_is
  standing_is (Unknown i) = listed_is f l x elements i
  standing_is NotAdmissible = l.zero_is

  pub value_is : (s : Symbol) → IsElement f (value s)
  value_is s = standing_is (standing r s)

  pub product_is : (ss : List Symbol) → IsElement f (product_value f value ss)
  product_is [] = l.one_is
  product_is (s ∷ ss) = l.times_is _ _ (value_is s) (product_is ss)

  all_products : (side : List (List Symbol)) → AllElements f (map (product_value f value) side)
  all_products [] = tt
  all_products (ss ∷ side) = (product_is ss, all_products side)

  pub side_is : (side : List (List Symbol)) → IsElement f (side_value f value side)
  side_is side = total_is f l _ (all_products side)

  eval-one : eval f x one_terms ≡ f.one
  eval-one = l.plus-zero _ (l.times_is _ _ (back_one) l.one_is) ∙ l.times-one _ back_one ∙ whole-one f l
    where
      back_one : IsElement f (f.plus f.zero f.one)
      back_one = l.plus_is _ _ l.zero_is l.one_is

  pub eval-standing : (s : Standing) → eval f x (standing_terms s) ≡ standing_value f x s
  eval-standing unit_symbol = eval-one
  eval-standing (Unknown i) = unknown_value (listed_is f l x elements i)
    where
      unknown_value : {a : E} → IsElement f a → plus (times (plus f.zero f.one) (times (times a f.one) f.one)) f.zero ≡ a
      unknown_value {a} h =
          ap (λ y. plus (times y (times (times a f.one) f.one)) f.zero) (whole-one f l)
          ∙ ap (λ y. plus (times f.one (times y f.one)) f.zero) (l.times-one a h)
          ∙ ap (λ y. plus (times f.one y) f.zero) (l.times-one a h)
          ∙ ap (λ y. plus y f.zero) (l.times_comm f.one a l.one_is h ∙ l.times-one a h)
          ∙ l.plus-zero a h
  eval-standing NotAdmissible = refl

  pub eval-product : (ss : List Symbol) → eval f x (product_terms r ss) ≡ product_value f value ss
  eval-product [] = eval-one
  eval-product (s ∷ ss) =
      eval-products f l x elements (standing_terms (standing r s)) (product_terms r ss)
      ∙ ap (λ y. times y (eval f x (product_terms r ss))) (eval-standing (standing r s))
      ∙ ap (λ y. times (value s) y) (eval-product ss)

  pub eval-side : (side : List (List Symbol)) → eval f x (side_terms r side) ≡ side_value f value side
  eval-side [] = refl
  eval-side (ss ∷ side) =
      eval-append f l x elements (product_terms r ss) (side_terms r side)
      ∙ ap (λ y. plus y (eval f x (side_terms r side))) (eval-product ss)
      ∙ ap (λ y. plus (product_value f value ss) y) (eval-side side)

  pub eval-difference : (left right : List (List Symbol)) (p : List Term) → IsDifference r left right p → eval f x p ≡ plus (side_value f value left) (minus (side_value f value right))
  eval-difference left right p d =
      eval-same f l x elements p _ d.1
      ∙ eval-append f l x elements (side_terms r left) (negated (side_terms r right))
      ∙ ap (λ y. plus y (eval f x (negated (side_terms r right)))) (eval-side left)
      ∙ ap (λ y. plus (side_value f value left) y) (eval-negated f l x elements (side_terms r right) ∙ ap minus (eval-side right))

  pub vanishes : (left right : List (List Symbol)) (p : List Term) → IsDifference r left right p → (eval f x p ≡ f.zero) ↔ (side_value f value left ≡ side_value f value right)
  vanishes left right p d = (
    λ h. same_of_difference f l _ _ (side_is left) (side_is right) (back (eval-difference left right p d) ∙ h),
    λ h. eval-difference left right p d ∙ difference_of_same f l _ _ (side_is left) h,
  )
