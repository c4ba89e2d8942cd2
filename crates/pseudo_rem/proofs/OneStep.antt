-- A step has one result, or one fault.
use Rattle.std.specs.Prelude.{◌≡◌, ◌≢◌, ℕ, List, refl}
use Rattle.std.proofs.Common.{arith, sym, ◌∙◌, ap, subst}
use Rattle.std.proofs.lemmas.Option.{none-some, same_Some}
use Rattle.std.specs.Ordering.{ordering_reverse}
use Rattle.std.specs.declared.cmp.Ordering.{Ordering}
use Rattle.std.specs.declared.cmp.Ordering.TheVariants.{Less, Equal, Greater}
use Rattle.monomial.specs.Monomials.{monomial_cmp}
use Rattle.monomial.proofs.Total.{monomial_cmp-IsAntisymmetric, monomial_cmp-IsTotalOrder}
use Rattle.sparse_poly.specs.declared.Term.{Term}
use Rattle.sparse_poly.specs.declared.PolyFault.{PolyFault}
use Rattle.sparse_poly.specs.declared.PolyFault.TheVariants.{Degree, Heavy, OutOfMemory}
use Rattle.sparse_poly.specs.Polynomials.{coefficient}
use Rattle.sparse_poly.specs.Contributions.{contributions, IsPoly, IsResult, IsFault, IsHeaviest}
use Rattle.sparse_poly.specs.Units.{IsStripped}
use Rattle.sparse_poly.proofs.Same.{same_polynomial}
use Rattle.pseudo_rem.specs.Steps.{IsStep}
use Rattle.pseudo_rem.specs.declared.steps.Reduction.{Reduction}

-- there is one strip of a polynomial
abbrev pub OneStrip : Type 0
OneStrip = (units : List (List Term)) (p f r f' r' : List Term) → IsPoly p → IsStripped units p f r → IsStripped units p f' r' → (f ≡ f') × (r ≡ r')

same_reduction : (s t : Reduction) → s.l ≡ t.l → s.a ≡ t.a → s.m ≡ t.m → s.r ≡ t.r → s ≡ t
same_reduction s t e f g h =
    ap (λ x. let y : Reduction = record { l = x; a = s.a; m = s.m; r = s.r } in y) e
    ∙ ap (λ x. let y : Reduction = record { l = t.l; a = x; m = s.m; r = s.r } in y) f
    ∙ ap (λ x. let y : Reduction = record { l = t.l; a = t.a; m = x; r = s.r } in y) g
    ∙ ap (λ x. let y : Reduction = record { l = t.l; a = t.a; m = t.m; r = x } in y) h

pub one_step : OneStrip → (units : List (List Term)) (q p : List Term) (s t : Reduction) → s.l ≡ t.l → s.a ≡ t.a → IsStep units q p s → IsStep units q p t → s ≡ t
one_step one units q p s t e f h k =
    let combined : h.combined ≡ k.combined = same_polynomial h.combined k.combined h.result.poly k.result.poly (λ m. h.result.sums m ∙ ap (λ x. coefficient (contributions x q s.a p) m) e ∙ ap (λ x. coefficient (contributions t.l q x p) m) f ∙ sym (k.result.sums m)) in
    let strip = one units k.combined s.m s.r t.m t.r k.result.poly (subst (λ x. IsStripped units x s.m s.r) combined h.stripped) k.stripped in
    same_reduction s t e f strip.0 strip.1

-- contributions are added up or refused, and not both
pub no_fault : (cs p : List Term) (fault : PolyFault) → IsResult cs p → IsFault cs fault → fault ≡ OutOfMemory
no_fault cs p (Degree v) r h = absurd (none-some v (sym r.degree ∙ h))
no_fault cs p (Heavy m) r h = let l = r.light m in let k = h.1.heavy in absurd (omega (arith, l, k))
no_fault cs p OutOfMemory r h = refl

one_heaviest : (cs : List Term) (m n : List (ℕ × ℕ)) → IsHeaviest cs m → IsHeaviest cs n → m ≡ n
one_heaviest cs m n h k = each (monomial_cmp m n) refl
  where
    each : (o : Ordering) → monomial_cmp m n ≡ o → m ≡ n
    each Less e = let l = h.greatest n e in let g = k.heavy in absurd (omega (arith, l, g))
    each Equal e = monomial_cmp-IsAntisymmetric m n e
    each Greater e = let l = k.greatest m (monomial_cmp-IsTotalOrder.antisymm n m ∙ ap ordering_reverse e) in let g = h.heavy in absurd (omega (arith, l, g))

-- contributions are refused for one reason
pub one_fault : (cs : List Term) (f g : PolyFault) → IsFault cs f → IsFault cs g → f ≢ OutOfMemory → g ≢ OutOfMemory → f ≡ g
one_fault cs OutOfMemory g h k n m = absurd (n refl)
one_fault cs (Degree v) OutOfMemory h k n m = absurd (m refl)
one_fault cs (Heavy v) OutOfMemory h k n m = absurd (m refl)
one_fault cs (Degree v) (Degree w) h k n m = ap (λ x. let f : PolyFault = Degree x in f) (same_Some v w (sym h ∙ k))
one_fault cs (Degree v) (Heavy w) h k n m = absurd (none-some v (sym k.0 ∙ h))
one_fault cs (Heavy v) (Degree w) h k n m = absurd (none-some w (sym h.0 ∙ k))
one_fault cs (Heavy v) (Heavy w) h k n m = ap (λ x. let f : PolyFault = Heavy x in f) (one_heaviest cs v w h.1 k.1)
