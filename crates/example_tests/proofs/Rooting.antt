-- Lists of polynomials that are checked to be roots.
use Rattle.std.specs.Prelude.{◌≡◌, ◌≢◌, ◌<◌, ◌≤◌, ℕ, zero, suc, ◌+◌, List, [], ◌∷◌, length, drop, slice_index_or, All, refl}
use Rattle.std.proofs.Common.{arith, subst, sym, ◌∙◌, ap}
use Rattle.std.proofs.lemmas.List.{drop_more}
use Rattle.std.specs.List.{AllByRecursion}
use Rattle.std.specs.List.Sorted.{IsStrictlySortedBy}
use Rattle.sparse_poly.specs.declared.Term.{Term}
use Rattle.std.specs.declared.cmp.Ordering.TheVariants.{Equal}
use Rattle.sparse_poly.specs.Order.{poly_cmp}
use Rattle.sparse_poly.specs.OrderLaws.{poly_cmp-IsAntisymmetric}
use Rattle.sparse_poly.specs.Contributions.{IsPoly}
use Rattle.sparse_poly.specs.Primitive.{IsPrimitive, IsPrimitivePart}
use Rattle.case_rules.specs.Cases.{CaseState, root_case, numbered, polys_of}
use Rattle.case_rules.specs.EndLaws.{AreBranches, AreEndLaws}
use Rattle.case_rules.specs.Ends.{IsEnd}
use Rattle.case_rules.specs.declared.outcome.Outcome.TheVariants.{Split}
use Rattle.case_rules.specs.Belonging.{Belongs, IsRootList}
use Rattle.example_tests.specs.Roots.{IsRootPoly, IsBelowAll}

-- root equations by recursion
abbrev pub AreRootPolys : List (List Term) → Type 0
AreRootPolys [] = Unit {0}
AreRootPolys (p ∷ ps) = IsRootPoly p × IsBelowAll p ps × AreRootPolys ps

pub one_before : (ps : List (List Term)) (i : ℕ) (p : List Term) → i < length ps → p ≡ slice_index_or ps i p → IsRootPoly p → IsBelowAll p (drop (i + 1) ps) → (AreRootPolys (drop i ps) → AreRootPolys ps) → AreRootPolys (drop (i + 1) ps) → AreRootPolys ps
one_before ps i p l e h b f r = f (subst AreRootPolys (sym (drop_more ps i p l ∙ ap (λ q. q ∷ drop (i + 1) ps) (sym e))) (h, b, r))

nothing_left : (ps : List (List Term)) (i : ℕ) → length ps ≤ i → drop i ps ≡ []
nothing_left [] zero h = refl
nothing_left [] (suc i) h = refl
nothing_left (p ∷ ps) zero h = absurd (omega arith)
nothing_left (p ∷ ps) (suc i) h = nothing_left ps i (omega arith)

all_of : (P : List Term → Type 0) → ((p : List Term) → IsRootPoly p → P p) → (ps : List (List Term)) → AreRootPolys ps → All P ps
all_of P f [] h i d l = absurd (omega (arith, l))
all_of P f (p ∷ ps) h zero d l = f p h.0
all_of P f (p ∷ ps) h (suc i) d l = all_of P f ps h.2 i d (omega (arith, l))

polys_numbered : (k : ℕ) (ps : List (List Term)) → polys_of (numbered k ps) ≡ ps
polys_numbered k [] = refl
polys_numbered k (p ∷ ps) = ap (λ xs. p ∷ xs) (polys_numbered (k + 1) ps)

sorted_of : (ps : List (List Term)) → AreRootPolys ps → IsStrictlySortedBy poly_cmp ps
unfolding IsStrictlySortedBy
sorted_of [] h = tt
sorted_of (p ∷ ps) h = (h.1, sorted_of ps h.2)

root_list : (ps : List (List Term)) → AreRootPolys ps → IsRootList ps
root_list ps h = record {
  primitive = record { polys = all_of IsPoly (λ p r. r.poly) ps h; primitive = all_of IsPrimitive (λ p r. r.primitive) ps h };
  ascending = record {
    nonzero = subst (All (λ p. p ≢ [])) (sym (polys_numbered 0 ps)) (all_of (λ p. p ≢ []) (λ p r. r.nonzero) ps h);
    ascending = subst (IsStrictlySortedBy poly_cmp) (sym (polys_numbered 0 ps)) (sorted_of ps h);
  };
}

pub whole_list : (ps : List (List Term)) (i : ℕ) → length ps ≤ i → (AreRootPolys (drop i ps) → AreRootPolys ps) → IsRootList ps
whole_list ps i l f = root_list ps (f (subst AreRootPolys (sym (nothing_left ps i l)) tt))

-- a polynomial that is its own primitive part
pub own_part : (p q : List Term) → IsPoly p → IsPrimitivePart p q → q ≢ [] → poly_cmp p q ≡ Equal → IsRootPoly p
own_part p q h k z e = let same : p ≡ q = poly_cmp-IsAntisymmetric p q e in record { poly = h; primitive = subst IsPrimitive (sym same) k.primitive; nonzero = λ n. z (sym same ∙ n) }

-- the root case, and the branches of a case
pub started : (root : List (List Term)) (budget : ℕ) (c : CaseState) → c ≡ root_case root → Belongs root (root_case root) → Belongs root c × (c.moves ≤ budget)
started root budget c e b = (subst (Belongs root) (sym e) b, subst (λ (c : CaseState). c.moves ≤ budget) (sym e) (omega arith))

pub branches : (root : List (List Term)) (budget : ℕ) (c : CaseState) (by : List Term) (d e : CaseState) → AreEndLaws root budget → Belongs root c → c.moves ≤ budget → IsEnd root budget c (Split by d e) → AreBranches root budget c by d e
branches root budget c by d e laws b w h = laws.split c by d e b w h
