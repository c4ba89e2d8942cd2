-- What is found of the members that are due, as far as the list has been read; and how far a remainder is from its end.
use Rattle.std.specs.Prelude.{◌≡◌, ◌<◌, ◌≤◌, ℕ, zero, suc, ◌+◌, ◌-◌, ◌*◌, ◌⊎◌, List, [], ◌∷◌, ◌++◌, slice_get, length, max, MatchOption, refl}
use mathlib.Core.Logic.{inl, inr}
use Rattle.std.proofs.Common.{arith, sym, ◌∙◌, ap, subst}
use Rattle.std.proofs.Math.Nat.{mul-le-mul_right}
use Rattle.std.proofs.lemmas.Option.{none-some, same_Some, slice_get_within}
use Rattle.std.specs.declared.option.Option.{Option}
use Rattle.std.specs.declared.option.Option.TheVariants.{None, Some}
use Rattle.sparse_poly.specs.declared.Term.{Term}
use Rattle.sparse_poly.specs.Reads.{degree_in, main_variable}
use Rattle.sparse_poly.specs.Contributions.{IsPoly}
use Rattle.pseudo_rem.specs.Steps.{IsReduction}
use Rattle.pseudo_rem.specs.Remainders.{IsDue, IsNextDue, IsNextStep, NoneIsDue, AreNextSteps, rest_of}
use Rattle.pseudo_rem.specs.declared.remainders.Due.{Due}
use Rattle.pseudo_rem.specs.declared.remainders.Step.{Step}
use Rattle.pseudo_rem.specs.Scan.{IsUpTo}
use Rattle.pseudo_rem.proofs.DegreeLaw.{lower, greater}
use Rattle.pseudo_rem.proofs.Raised.{degree_in-small}

-- one member more
pub no_member : (list : List (List Term)) (n : List Term) (i : ℕ) (next : Option Due) → ((v : ℕ) (p : List Term) → slice_get list i ≡ Some p → IsDue n p v → IsUpTo next v) → ((j : ℕ) (q : List Term) (w : ℕ) → j < i → slice_get list j ≡ Some q → IsDue n q w → IsUpTo next w) → (j : ℕ) (q : List Term) (w : ℕ) → j < i + 1 → slice_get list j ≡ Some q → IsDue n q w → IsUpTo next w
no_member list n i next here before j q w l m d = each (cases j i l)
  where
    cases : (j i : ℕ) → j < i + 1 → (j < i) ⊎ (j ≡ i)
    cases j i l = grind arith

    each : (j < i) ⊎ (j ≡ i) → IsUpTo next w
    each (inl l) = before j q w l m d
    each (inr e) = here w q (subst (λ k. slice_get list k ≡ Some q) e m) d

-- the end of the list
pub found_next : (list : List (List Term)) (n : List Term) (i : ℕ) (next : Option Due) → length list ≤ i → MatchOption next (Unit {0}) (λ due. (slice_get list due.at ≡ Some due.member.now) × IsDue n due.member.now due.var) → ((j : ℕ) (q : List Term) (w : ℕ) → j < i → slice_get list j ≡ Some q → IsDue n q w → IsUpTo next w) → MatchOption next (NoneIsDue list n) (λ due. IsNextDue list n due.at due.member.now due.var)
found_next list n i None l f h = λ j p v m d. h j p v (let k = slice_get_within list j p m in omega (arith, l, k)) m d
found_next list n i (Some due) l f h = record { member = f.0; due = f.1; greatest = λ j q w m d. h j q w (let k = slice_get_within list j q m in omega (arith, l, k)) m d }

-- a member has one main variable
pub same_variable : (n p q : List Term) (v w : ℕ) → p ≡ q → IsDue n p v → IsDue n q w → v ≤ w
same_variable n p q v w e h k = let same : v ≡ w = same_Some v w (sym h.main ∙ ap main_variable e ∙ k.main) in omega (arith, same)

-- what the last step leaves
pub rest_of-last : (n : List Term) (steps : List Step) (s : Step) → Some s ≡ slice_get steps (length steps - 1) → s.reduction.r ≡ rest_of n steps
rest_of-last n [] s e = absurd (cc e)
rest_of-last n (t ∷ []) s e = let same : s ≡ t = cc e in ap (λ (x : Step). x.reduction.r) same
rest_of-last n (t ∷ u ∷ us) s e =
    let shorter : length (t ∷ u ∷ us) - 1 ≡ suc (length (u ∷ us) - 1) = omega arith in
    rest_of-last t.reduction.r (u ∷ us) s (e ∙ ap (slice_get (t ∷ u ∷ us)) shorter)

-- one step more
pub rest_of-more : (n : List Term) (steps : List Step) (s : Step) → rest_of n (steps ++ s ∷ []) ≡ s.reduction.r
rest_of-more n [] s = refl
rest_of-more n (t ∷ ts) s = rest_of-more t.reduction.r ts s

pub AreNextSteps-more : (units list : List (List Term)) (n : List Term) (steps : List Step) (s : Step) → AreNextSteps units list n steps → IsNextStep units list (rest_of n steps) s → AreNextSteps units list n (steps ++ s ∷ [])
AreNextSteps-more units list n [] s a h = (h, tt)
AreNextSteps-more units list n (t ∷ ts) s a h = (a.0, AreNextSteps-more units list t.reduction.r ts s a.1 h)

-- the degrees in the variables below k, as digits of one number
abbrev pub room : ℕ → ℕ
room zero = 1
room (suc k) = 65536 * room k

abbrev pub digits : ℕ → List Term → ℕ
digits zero p = 0
digits (suc k) p = degree_in k p * room k + digits k p

digits_below : (k : ℕ) (p : List Term) → ((w : ℕ) → degree_in w p ≤ 65535) → digits k p < room k
digits_below zero p s = omega arith
digits_below (suc k) p s =
    let rest = digits_below k p s in
    let most = mul-le-mul_right (room k) (s k) in
    omega (arith, rest, most)

-- the number falls where a degree falls and none in a greater variable rises
pub digits_fall : (k v : ℕ) (p q : List Term) → ((w : ℕ) → degree_in w p ≤ 65535) → v < k → degree_in v p < degree_in v q → ((w : ℕ) → v < w → degree_in w p ≤ degree_in w q) → digits k p < digits k q
digits_fall zero v p q s l f g = absurd (omega arith)
digits_fall (suc k) v p q s l f g = each (λ m. digits_fall k v p q s m f g) (cases v k l)
  where
    cases : (v k : ℕ) → v < suc k → (v < k) ⊎ (v ≡ k)
    cases v k l = grind arith

    each : (v < k → digits k p < digits k q) → (v < k) ⊎ (v ≡ k) → digits (suc k) p < digits (suc k) q
    each down (inl m) =
        let rest = down m in
        let here = mul-le-mul_right (room k) (g k m) in
        omega (arith, rest, here)
    each down (inr e) =
        let rest = digits_below k p s in
        let lower : suc (degree_in k p) ≤ degree_in k q = subst (λ x. degree_in x p < degree_in x q) e f in
        let here = mul-le-mul_right (room k) lower in
        omega (arith, rest, here)

-- a number above all main variables
abbrev pub past : Option ℕ → ℕ
past None = 0
past (Some v) = suc v

abbrev pub bound : List (List Term) → ℕ
bound [] = 0
bound (p ∷ ps) = max (past (main_variable p)) (bound ps)

pub below_bound : (list : List (List Term)) (i : ℕ) (p : List Term) (v : ℕ) → slice_get list i ≡ Some p → main_variable p ≡ Some v → v < bound list
below_bound [] i p v e m = absurd (none-some p e)
below_bound (q ∷ qs) zero p v e m = let here : past (main_variable q) ≡ suc v = ap (λ x. past (main_variable x)) (same_Some q p e) ∙ ap past m in omega (arith, here)
below_bound (q ∷ qs) (suc i) p v e m = let rest = below_bound qs i p v e m in omega (arith, rest)

-- a step that is next due is one more, and what it leaves is nearer to the end
module _ (units list : List (List Term)) (n : List Term) (steps zs : List Step) (s : Step) (rest p : List Term) (v : ℕ) (hr : IsPoly rest) (hp : IsPoly p) (is : rest ≡ rest_of n steps) (more : zs ≡ steps ++ s ∷ []) (next : IsNextDue list rest s.by p v) (made : IsReduction units rest p v s.reduction) where
  pub one_more : AreNextSteps units list n steps → AreNextSteps units list n zs
  one_more a = subst (AreNextSteps units list n) (sym more) (AreNextSteps-more units list n steps s a (subst (λ x. IsNextStep units list x s) is (record { poly = p; var = v; next = next; reduction = made })))

  pub nearer : digits (bound list) (rest_of n zs) < digits (bound list) (rest_of n steps)
  nearer =
      let falls = digits_fall (bound list) v s.reduction.r rest (λ w. degree_in-small w s.reduction.r made.is_step.stripped.rest_poly.monomials) (below_bound list s.by p v next.member next.due.main) (lower units rest p v s.reduction hr hp next.due.can made) (λ w l. greater units rest p v s.reduction hr hp next.due.can made v w next.due.main l) in
      let left : rest_of n zs ≡ s.reduction.r = ap (rest_of n) more ∙ rest_of-more n steps s in
      subst (λ x. digits (bound list) x < digits (bound list) (rest_of n steps)) (sym left) (subst (λ x. digits (bound list) s.reduction.r < digits (bound list) x) is falls)
