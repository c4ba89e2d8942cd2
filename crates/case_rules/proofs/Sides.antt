-- Both sides of the lines that steps, strips and divisions make.
use Rattle.std.specs.Prelude.{◌≡◌, ℕ, ◌+◌, pos, if◌then◌else◌, unsigned_abs, ℤ, ◌*ℤ◌, List, [], ◌∷◌, refl}
use Rattle.std.proofs.Common.{arith, subst, sym, ◌∙◌, ap, append-nil}
use Rattle.std.proofs.lemmas.Int.{ints}
use Rattle.std.proofs.Math.IntN.{*ℤ_comm}
use Rattle.std.specs.List.{AllByRecursion}
use Rattle.std.specs.declared.option.Option.{Option}
use Rattle.std.specs.declared.option.Option.TheVariants.{None, Some}
use Rattle.monomial.specs.Monomials.{too_high, IsPowers, IsMonomial}
use Rattle.sparse_poly.specs.declared.Term.{Term}
use Rattle.sparse_poly.specs.Polynomials.{is_of, coefficient, weight, term_times, row, products, constant}
use Rattle.sparse_poly.specs.Contributions.{contributions, degree_of, higher, IsPoly, IsResult}
use Rattle.sparse_poly.specs.Units.{IsStripped}
use Rattle.sparse_poly.specs.Clearing.{IsLight, DividesOpenly}
use Rattle.sparse_poly.specs.OrderLaws.{same_term}
use Rattle.sparse_poly.proofs.Adding.{none_before}
use Rattle.sparse_poly.proofs.Descending.{all_front, all_back, all_both, all_map}
use Rattle.sparse_poly.proofs.Evaluation.{weight-append}
use Rattle.sparse_poly.proofs.InOrder.{IsResult-own}
use Rattle.sparse_poly.proofs.OneQuotient.{times_comm}
use Rattle.sparse_poly.proofs.ProductSums.{products_comm}
use Rattle.sparse_poly.proofs.Strips.{products-one, row_of_stripped}
use Rattle.derive_lines.specs.Lines.{SidesAgree}

pub light_of : (cs p : List Term) → IsResult cs p → IsLight cs
light_of cs p r = record { degree = r.degree; light = r.light }

own_light : (p : List Term) → IsPoly p → IsLight p
own_light p h = light_of p p (IsResult-own p h)

-- one times a polynomial, and that less nothing
row_one : (ps : List Term) → row (record { monomial = []; coeff = pos 1 }) ps ≡ ps
row_one [] = refl
row_one (p ∷ ps) = ap (λ c. (let t : Term = record { monomial = p.monomial; coeff = c } in t) ∷ row (record { monomial = []; coeff = pos 1 }) ps) (once p.coeff) ∙ ap (λ ts. p ∷ ts) (row_one ps)
  where
    once : (z : ℤ) → pos 1 *ℤ z ≡ z
    once z = omega (arith, ints)

pub one_product : (p : List Term) → products (constant (pos 1)) p ≡ p
one_product p = products-one (record { monomial = []; coeff = pos 1 }) p ∙ row_one p

one_times : (p : List Term) → contributions (constant (pos 1)) p [] [] ≡ p
one_times p = append-nil (products (constant (pos 1)) p) ∙ one_product p

-- the factor of a strip is one term, so its product with the rest has one contribution to each monomial
pub stripped_product : (units : List (List Term)) (p m r : List Term) → IsPoly p → IsStripped units p m r → products m r ≡ p
stripped_product units p [] r h s = absurd s.out
stripped_product units p (t ∷ []) r h s = products-one t r ∙ row_of_stripped units p t r h s
stripped_product units p (t ∷ u ∷ us) r h s = absurd s.out

-- a step
pub step_sides : (units : List (List Term)) (cs p m r : List Term) → IsResult cs p → IsStripped units p m r → SidesAgree cs (products m r)
step_sides units cs p m r h s =
    let same : products m r ≡ p = stripped_product units p m r h.poly s in
    record {
      left_light = light_of cs p h;
      right_light = subst IsLight (sym same) (own_light p h.poly);
      identity = λ k. sym (h.sums k) ∙ ap (λ x. coefficient x k) (sym same);
    }

-- a strip
pub strip_sides : (units : List (List Term)) (p m r : List Term) → IsPoly p → IsStripped units p m r → SidesAgree (contributions (constant (pos 1)) p [] []) (products m r)
strip_sides units p m r h s = subst (λ cs. SidesAgree cs (products m r)) (sym (one_times p)) (step_sides units p p m r (IsResult-own p h) s)

-- contributions to a product weigh the same in both orders of its factors
abbrev pub ArePowers : List Term → Type 0
ArePowers ts = AllByRecursion (λ (t : Term). IsPowers t.monomial) ts

pub powers_of : (p : List Term) → IsPoly p → ArePowers p
powers_of p h = all_map (λ (t : Term). IsMonomial t.monomial) (λ (t : Term). IsPowers t.monomial) p (λ t m. m.powers) h.monomials

times_other : (t u : Term) → IsPowers t.monomial → IsPowers u.monomial → term_times t u ≡ term_times u t
times_other t u h i = same_term (term_times t u) (term_times u t) (times_comm t.monomial u.monomial h i) (*ℤ_comm t.coeff u.coeff)

weight_first : (ts us : List Term) (u : Term) → ArePowers ts → IsPowers u.monomial → (m : List (ℕ × ℕ)) → weight (products ts (u ∷ us)) m ≡ weight (row u ts) m + weight (products ts us) m
weight_first [] us u h i m = refl
weight_first (t ∷ ts) us u h i m =
    let own = ap (λ (x : Term). if is_of m x then unsigned_abs x.coeff else 0) (times_other t u h.0 i) in
    omega (arith, own, weight-append m (row t us) (products ts (u ∷ us)), weight_first ts us u h.1 i m, weight-append m (row t us) (products ts us))

weight_comm : (ts us : List Term) → ArePowers ts → ArePowers us → (m : List (ℕ × ℕ)) → weight (products ts us) m ≡ weight (products us ts) m
weight_comm ts [] h i m = none ts
  where
    none : (ts : List Term) → weight (products ts []) m ≡ 0
    none [] = refl
    none (x ∷ xs) = none xs
weight_comm ts (u ∷ us) h i m = omega (arith, weight_first ts us u h i.0 m, weight_comm ts us h i.1 m, weight-append m (row u ts) (products us ts))

abbrev AreLow : List Term → Type 0
AreLow cs = AllByRecursion (λ (t : Term). too_high t.monomial ≡ None) cs

none_after : (a b : Option ℕ) → higher a b ≡ None → b ≡ None
none_after None b e = e
none_after (Some u) None e = refl
none_after (Some u) (Some v) e = absurd (cc e)

low_from : (cs : List Term) → degree_of cs ≡ None → AreLow cs
low_from [] e = tt
low_from (t ∷ ts) e = (none_before (too_high t.monomial) (degree_of ts) e, low_from ts (none_after (too_high t.monomial) (degree_of ts) e))

low_to : (cs : List Term) → AreLow cs → degree_of cs ≡ None
low_to [] h = refl
low_to (t ∷ ts) h = ap (λ a. higher a (degree_of ts)) h.0 ∙ low_to ts h.1

low_first : (ts us : List Term) (u : Term) → ArePowers ts → IsPowers u.monomial → AreLow (products ts (u ∷ us)) → AreLow (row u ts) × AreLow (products ts us)
low_first [] us u h i l = (tt, tt)
low_first (t ∷ ts) us u h i l =
    let Low : Term → Type 0 = λ (x : Term). too_high x.monomial ≡ None in
    let rest = low_first ts us u h.1 i (all_back Low (row t us) (products ts (u ∷ us)) l.1) in
    ((subst Low (times_other t u h.0 i) l.0, rest.0), all_both Low (row t us) (products ts us) (all_front Low (row t us) (products ts (u ∷ us)) l.1) rest.1)

low_comm : (ts us : List Term) → ArePowers ts → ArePowers us → AreLow (products ts us) → AreLow (products us ts)
low_comm ts [] h i l = tt
low_comm ts (u ∷ us) h i l =
    let Low : Term → Type 0 = λ (x : Term). too_high x.monomial ≡ None in
    let both = low_first ts us u h i.0 l in
    all_both Low (row u ts) (products us ts) both.0 (low_comm ts us h i.1 both.1)

light_comm : (ts us : List Term) → ArePowers ts → ArePowers us → IsLight (products ts us) → IsLight (products us ts)
light_comm ts us h i l = record {
  degree = low_to (products us ts) (low_comm ts us h i (low_from (products ts us) l.degree));
  light = λ m. let w = l.light m in omega (arith, w, weight_comm ts us h i m);
}

-- a division
pub division_sides : (n p g : List Term) → IsPoly n → DividesOpenly n p g → SidesAgree (contributions (constant (pos 1)) p [] []) (products n g)
division_sides n p g h d =
    let a = powers_of n h in
    let b = powers_of g d.poly in
    record {
      left_light = subst IsLight (sym (one_times p)) (own_light p d.product.poly);
      right_light = light_comm g n b a (light_of (products g n) p d.product);
      identity = λ k. ap (λ x. coefficient x k) (one_times p) ∙ d.product.sums k ∙ products_comm g n b a k;
    }
