-- Root equations as a list.
use Rattle.std.specs.Prelude.{◌≡◌, ◌≢◌, ◌+◌, ℕ, List, [], ◌∷◌, All}
use Rattle.std.specs.List.Sorted.{IsStrictlySortedBy}
use Rattle.std.proofs.Common.{refl, sym, ap, subst}
use Rattle.sparse_poly.specs.declared.Term.{Term}
use Rattle.sparse_poly.specs.Order.{poly_cmp}
use Rattle.sparse_poly.specs.Contributions.{IsPoly}
use Rattle.root_system.specs.Forms.{RootEquations, IsRootForm}
use Rattle.case_rules.specs.Cases.{numbered, polys_of}
use Rattle.case_rules.specs.Belonging.{IsRootList}

numbered_polys : (k : ℕ) (ps : List (List Term)) → polys_of (numbered k ps) ≡ ps
numbered_polys k [] = refl
numbered_polys k (p ∷ ps) = ap (λ (l : List (List Term)). p ∷ l) (numbered_polys (k + 1) ps)

-- a root form whose equations are polynomials is a root list
pub form_listed : (root : RootEquations) → IsRootForm root → All IsPoly root.equations → IsRootList root.equations
form_listed root form polys = record {
  primitive = record { polys = polys; primitive = λ k d lt. (form.each k d lt).primitive };
  ascending = record {
    nonzero = subst (All (λ (p : List Term). p ≢ [])) (sym (numbered_polys 0 root.equations)) (λ k d lt. (form.each k d lt).nonzero);
    ascending = subst (IsStrictlySortedBy poly_cmp) (sym (numbered_polys 0 root.equations)) form.ascending;
  };
}
