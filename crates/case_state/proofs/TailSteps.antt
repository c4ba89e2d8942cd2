-- The tail step of a branch.
use Rattle.std.specs.Prelude.{◌≡◌, ℕ, true, List, MatchResult}
use Rattle.std.proofs.Common.{sym, ◌∙◌, ap, subst}
use mathlib.Core.Logic.{inr}
use Rattle.std.specs.declared.option.Option.TheVariants.{Some}
use Rattle.std.specs.declared.result.Result.{Result}
use Rattle.std.specs.declared.result.Result.TheVariants.{Ok, Err}
use Rattle.sparse_poly.specs.declared.PolyFault.{PolyFault}
use Rattle.sparse_poly.specs.declared.PolyFault.TheVariants.{Degree, Heavy, OutOfMemory}
use Rattle.sparse_poly.specs.declared.Term.{Term}
use Rattle.sparse_poly.specs.Contributions.{IsPoly}
use Rattle.sparse_poly.specs.Reads.{degree_in, main_variable, leading_in}
use Rattle.sparse_poly.specs.Clearing.{IsCleared}
use Rattle.sparse_poly.proofs.OneQuotient.{one_clearing}
use Rattle.sparse_poly.proofs.Powers.{IsPoly-coefficient_of_power}
use Rattle.pseudo_rem.specs.declared.steps.Reduction.{Reduction}
use Rattle.pseudo_rem.specs.Steps as steps
use Rattle.case_rules.specs.Cases.{CaseState, known, poly}
use Rattle.case_rules.specs.Branches.{IsClearedInitial, IsTail, IsTailOf, IsBranchFault}
use Rattle.case_rules.proofs.OneMove.{Some_injective}

-- what an initial is cleared into is what it was split on
pub own_initial : (c : CaseState) (s : List Term) (i v : ℕ) (p f r : List Term) → IsPoly p → p ≡ poly c i → main_variable p ≡ Some v → IsTail c s i → IsCleared (known c) (leading_in v p) f r → IsClearedInitial c i v f s
own_initial c s i v p f r h e m t k =
    let var : t.v ≡ v = Some_injective t.v v (sym t.initial.main ∙ ap main_variable (sym e) ∙ m) in
    let given : IsCleared (known c) (leading_in v p) t.u s = subst (λ q. IsCleared (known c) (leading_in v q) t.u s) (sym e) (subst (λ w. IsCleared (known c) (leading_in w (poly c i)) t.u s) var t.initial.cleared) in
    let same = one_clearing (known c) (leading_in v p) f r t.u s (IsPoly-coefficient_of_power v (degree_in v p) p h) k given in
    record {
      main = ap main_variable (sym e) ∙ m;
      cleared = subst (λ q. IsCleared (known c) (leading_in v q) f s) e (subst (IsCleared (known c) (leading_in v p) f) same.1 k);
    }

pub tail_is : (c : CaseState) (s : List Term) (i v : ℕ) (p f : List Term) → p ≡ poly c i → IsClearedInitial c i v f s → steps.IsTail (known c) v p f s
tail_is c s i v p f e h = subst (λ q. steps.IsTail (known c) v q f s) (sym e) (record { main = h.main; divided = inr h.cleared })

pub tail_requires : (c : CaseState) (s : List Term) (i v : ℕ) (p q f r : List Term) (units others : List (List Term)) → IsPoly p → p ≡ poly c i → main_variable p ≡ Some v → IsTail c s i → q ≡ leading_in v p → units ≡ known c → IsCleared units q f r → others ≡ known c → steps.IsTail others v p f s
tail_requires c s i v p q f r units others h e m t a u k o =
    let cleared : IsCleared (known c) (leading_in v p) f r = subst (λ x. IsCleared (known c) x f r) a (subst (λ ns. IsCleared ns q f r) u k) in
    subst (λ ns. steps.IsTail ns v p f s) (sym o) (tail_is c s i v p f e (own_initial c s i v p f r h e m t cleared))

-- what a tail step answers
pub tail_answer : (c : CaseState) (s : List Term) (i v : ℕ) (p q f r : List Term) (units others : List (List Term)) (answer : Result Reduction PolyFault) → IsPoly p → p ≡ poly c i → main_variable p ≡ Some v → IsTail c s i → q ≡ leading_in v p → units ≡ known c → IsCleared units q f r → others ≡ known c → MatchResult answer (steps.IsTailStep others v p f s) (steps.IsTailFault v p f s) → MatchResult answer (IsTailOf c s i) (IsBranchFault c s true (Some i))
tail_answer c s i v p q f r units others answer h e m t a u k o x = each answer x
  where
    initial : IsClearedInitial c i v f s
    initial = own_initial c s i v p f r h e m t (subst (λ x. IsCleared (known c) x f r) a (subst (λ ns. IsCleared ns q f r) u k))

    fault : (g : PolyFault) → steps.IsTailFault v p f s g → IsBranchFault c s true (Some i) g
    fault (Degree w) y = record { v = v; u = f; initial = initial; fault = subst (λ q. steps.IsTailFault v q f s (Degree w)) e y }
    fault (Heavy w) y = record { v = v; u = f; initial = initial; fault = subst (λ q. steps.IsTailFault v q f s (Heavy w)) e y }
    fault OutOfMemory y = tt

    each : (answer : Result Reduction PolyFault) → MatchResult answer (steps.IsTailStep others v p f s) (steps.IsTailFault v p f s) → MatchResult answer (IsTailOf c s i) (IsBranchFault c s true (Some i))
    each (Ok step) y = record { v = v; u = f; initial = initial; tail = subst (λ ns. steps.IsTailStep ns v (poly c i) f s step) o (subst (λ q. steps.IsTailStep others v q f s step) e y) }
    each (Err g) y = fault g y
