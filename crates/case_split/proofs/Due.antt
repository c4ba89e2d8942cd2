-- The rules that give the move that is due.
use Rattle.std.specs.Prelude.{◌≡◌, ◌≢◌, ◌<◌, ◌≤◌, ℕ, ◌+◌, List, [], MatchOption}
use mathlib.Core.Logic.{inl}
use Rattle.std.proofs.Common.{arith, subst, sym, ◌∙◌, below_more}
use Rattle.std.specs.declared.option.Option.{Option}
use Rattle.std.specs.declared.option.Option.TheVariants.{None, Some}
use Rattle.sparse_poly.specs.declared.Term.{Term}
use Rattle.sparse_poly.specs.Polynomials.{variable}
use Rattle.sparse_poly.specs.Contributions.{IsPoly}
use Rattle.sparse_poly.specs.Clearing.{IsDividedBy}
use Rattle.char_set.specs.Triangular.{IsDecided}
use Rattle.case_rules.specs.declared.moves.Move.{Move}
use Rattle.case_rules.specs.declared.moves.Move.TheVariants.{Reduce, Split}
use Rattle.case_rules.specs.Cases.{CaseState, known, poly, count}
use Rattle.case_rules.specs.Belonging.{Belongs}
use Rattle.case_rules.specs.Rules.{None_has, IsLeast, IsAlive, IsLinearIn, IsOtherWith, IsLinearAt, IsLinearMove, IsFactorAt, IsFactorMove, IsPaired, IsUndecidedAt, IsMove, factor, pair_reduction, pair_split, initial_split}
use Rattle.case_rules.proofs.Regular.{polys_at, polys_length, constant_of}
use Rattle.case_split.specs.Found.{IsVariable, AreInOrder, HaveMain, IsPair, IsSplitFor}

-- nothing below n + 1 has a property that nothing below n and not n has
pub none_more : (P : ℕ → Type 0) (n : ℕ) → ((j : ℕ) → j < n → ¬ P j) → ¬ P n → (j : ℕ) → j < n + 1 → ¬ P j
none_more P n f g = below_more _ _ f g

pub belongs_in_order : (root : List (List Term)) (c : CaseState) → Belongs root c → AreInOrder c
belongs_in_order root c b = record { polys = b.primitive.polys; ascending = b.ascending }

pub poly_of : (c : CaseState) → AreInOrder c → (i : ℕ) → i < count c → IsPoly (poly c i)
poly_of c s i l = subst IsPoly (polys_at c.equations i [] l) (s.polys i [] (omega (arith, l, polys_length c.equations)))

pub nonzero_at : (c : CaseState) → AreInOrder c → (i : ℕ) → i < count c → poly c i ≢ []
nonzero_at c s i l = subst (λ p. p ≢ []) (polys_at c.equations i [] l) (s.ascending.nonzero i [] (omega (arith, l, polys_length c.equations)))

-- an equation of a case that is not dead is not constant
pub have_main : (c : CaseState) → AreInOrder c → IsAlive c → HaveMain c
have_main c s a i l e = a i (record { place = l; contradiction = inl (constant_of (poly c i) (poly_of c s i l) (nonzero_at c s i l) e) })

-- an equation that is not linear in its main variable
pub not_linear : (c : CaseState) (i : ℕ) (p : List Term) → p ≡ poly c i → ((v : ℕ) → IsLinearIn p v → ⊥) → ¬ IsLinearAt c i
not_linear c i p e n h = n h.v (subst (λ p. IsLinearIn p h.v) (sym e) h.linear)

pub linear_at : (c : CaseState) (q p v : ℕ) (x : List Term) → p < count c → x ≡ poly c p → IsLinearIn x v → ((j : ℕ) → j < p → ¬ IsLinearAt c j) → IsLeast (IsOtherWith c p v) q → IsLinearMove c q p v
linear_at c q p v x l e m n o =
    let own : IsLinearIn (poly c p) v = subst (λ x. IsLinearIn x v) e m in
    record { least = record { has = record { place = l; v = v; linear = own; q = q; other = o.has }; none_below = n }; linear = own; least_other = o }

-- of some equations only the one at a place may be due by Linear, and it is not linear
pub none_new : (c : CaseState) (n i : ℕ) (at : Option ℕ) (p : List Term) → at ≡ Some i → p ≡ poly c i → ((v : ℕ) → IsLinearIn p v → ⊥) → ((j : ℕ) → j < n → IsLinearAt c j → at ≡ Some j) → (j : ℕ) → j < n → ¬ IsLinearAt c j
none_new c n i at p e f none only j l h = let same : Some i ≡ Some j = sym e ∙ only j l h in let k : i ≡ j = cc same in not_linear c i p f none (subst (IsLinearAt c) (sym k) h)

-- of the first n only one may have a property, and it stands after these
pub none_beyond : (P : ℕ → Type 0) (n i : ℕ) (at : Option ℕ) → at ≡ Some i → n ≤ i → ((j : ℕ) → j < n → P j → at ≡ Some j) → (j : ℕ) → j < n → ¬ P j
none_beyond P n i at e b only j l h = let same : Some i ≡ Some j = sym e ∙ only j l h in let k : i ≡ j = cc same in absurd (omega (arith, l, b, k))

-- an equation that no variable divides, and one that is a variable
pub not_divided : (c : CaseState) (i : ℕ) (p : List Term) → p ≡ poly c i → None_has (λ v. IsDividedBy v p) → ¬ IsFactorAt c i
not_divided c i p e n h = n h.v (subst (IsDividedBy h.v) (sym e) h.divided)

pub no_more : (c : CaseState) (i : ℕ) (p : List Term) → p ≡ poly c i → IsVariable p → ¬ IsFactorAt c i
no_more c i p e v h = h.more v.0 (sym e ∙ v.1)

-- the move by each rule
pub factor_due : (c : CaseState) (v : ℕ) (by : List Term) → by ≡ variable v → None_has (IsLinearAt c) → IsFactorMove c (variable v) None → IsMove c (Split by None)
factor_due c v by e l m = factor by None l (subst (λ b. IsFactorMove c b None) (sym e) m)

pub pair_due : (c : CaseState) (q p v : ℕ) → None_has (IsLinearAt c) → None_has (IsFactorAt c) → IsPair c q p v → IsDecided (known c) (poly c p) → IsMove c (Reduce q p v)
pair_due c q p v l f m d = pair_reduction q p v l f (record { highest = m.highest; pivot = m.pivot; decided = d; least_other = m.least_other })

pub pair_split_due : (c : CaseState) (q p v : ℕ) (m : Move) → None_has (IsLinearAt c) → None_has (IsFactorAt c) → IsPair c q p v → ¬ IsDecided (known c) (poly c p) → IsSplitFor c p m → IsMove c m
pair_split_due c q p v (Reduce q' p' v') l f h d s = absurd s
pair_split_due c q p v (Split by tail) l f h d s = pair_split by tail l f (record { v = v; highest = h.highest; p = p; pivot = h.pivot; undecided = d; split = s })

pub initial_due : (c : CaseState) (i : ℕ) (m : Move) → None_has (IsLinearAt c) → None_has (IsFactorAt c) → None_has (IsPaired c) → IsLeast (IsUndecidedAt c) i → IsSplitFor c i m → IsMove c m
initial_due c i (Reduce q' p' v') l f h u s = absurd s
initial_due c i (Split by tail) l f h u s = initial_split by tail l f h (record { at = i; least = u; split = s })

-- whether an equation is decided, by the answer of the test
pub decided_by : (u u' : List (List Term)) (p p' : List Term) (T : Type 0) → u ≡ u' → p ≡ p' → (T → IsDecided u p) × (IsDecided u p → T) → T → IsDecided u' p'
decided_by u u' p p' T e f h t = subst (λ u. IsDecided u p') e (subst (IsDecided u) f (h.0 t))

pub undecided_by : (u u' : List (List Term)) (p p' : List Term) (T : Type 0) → u ≡ u' → p ≡ p' → (T → IsDecided u p) × (IsDecided u p → T) → (T → ⊥) → ¬ IsDecided u' p'
undecided_by u u' p p' T e f h n d = n (h.1 (subst (IsDecided u) (sym f) (subst (λ u. IsDecided u p') (sym e) d)))

-- the answer of a test, where it is none, and where it is some
pub none_case : {X : Type 0} → (o : Option X) (P : Type 0) (Q : X → Type 0) → MatchOption o P Q → o ≡ None → P
none_case None P Q h e = h
none_case (Some v) P Q h e = absurd (cc e)

pub some_case : {X : Type 0} → (o : Option X) (P : Type 0) (Q : X → Type 0) (v : X) → MatchOption o P Q → o ≡ Some v → Q v
some_case None P Q v h e = absurd (cc e)
some_case {X} (Some w) P Q v h e = let same : w ≡ v = cc e in subst Q same h
