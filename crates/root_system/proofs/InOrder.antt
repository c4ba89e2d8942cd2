-- Sorting and dropping repeats keeps the members of a list of polynomials, and orders them strictly.
use Rattle.std.specs.Prelude.{◌≡◌, ◌↔◌, true, List, Contains, refl}
use Rattle.std.specs.Ordering.{is_eq}
use Rattle.std.specs.declared.cmp.Ordering.{Ordering}
use Rattle.std.specs.declared.cmp.Ordering.TheVariants.{Less, Equal, Greater}
use Rattle.std.proofs.lemmas.Cmp.{eq_by_cmp_equiv}
use Rattle.std.specs.Cmp.{IsEquivalence}
use Rattle.std.specs.List.{dedup}
use Rattle.std.specs.List.Sorted.{IsPermutation, IsSorted, IsStrictlySortedBy}
use Rattle.std.proofs.lemmas.List.Sorted.{Contains-permutation, IsPermutation-sym}
use Rattle.std.proofs.lemmas.List.Kept.{IsStrictlySortedBy-dedup, Contains-dedup, Contains-from_dedup}
use Rattle.sparse_poly.specs.declared.Term.{Term}
use Rattle.sparse_poly.specs.Order.{poly_cmp}
use Rattle.sparse_poly.specs.OrderLaws.{poly_cmp-IsTotalOrder, poly_cmp-IsAntisymmetric}
use Rattle.root_system.specs.Ascending.{same_poly}
use Rattle.sparse_poly.proofs.Evaluation.{tied}

same_poly-IsEquivalence : IsEquivalence same_poly
same_poly-IsEquivalence = eq_by_cmp_equiv poly_cmp-IsTotalOrder

pub strictly_sorted : (sorted ps : List (List Term)) → IsSorted poly_cmp sorted → ps ≡ dedup same_poly sorted → IsStrictlySortedBy poly_cmp ps
strictly_sorted sorted ps s e = rw e (IsStrictlySortedBy-dedup poly_cmp-IsTotalOrder (λ x y. refl) sorted s)

pub same_members : (all sorted ps : List (List Term)) → IsPermutation all sorted → ps ≡ dedup same_poly sorted → (p : List Term) → Contains ps p ↔ Contains all p
same_members all sorted ps m e p = (
  λ h. Contains-permutation sorted all p (IsPermutation-sym all sorted m) (Contains-from_dedup same_poly sorted p (rw e at h)),
  λ h. rw e (Contains-dedup same_poly-IsEquivalence (λ x y t. poly_cmp-IsAntisymmetric x y (tied (poly_cmp x y) t)) sorted p (Contains-permutation all sorted p m h)),
)
