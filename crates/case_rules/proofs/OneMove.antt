-- A case has one move.
use Rattle.std.specs.Prelude.{◌≡◌, ◌≢◌, ℕ, ◌<◌, ◌⊎◌, List}
use mathlib.Core.Logic.{inl, inr}
use Rattle.std.proofs.Common.{arith, subst, sym, ◌∙◌, ap}
use Rattle.std.proofs.lemmas.Bool.{cases_order}
use Rattle.std.specs.declared.option.Option.{Option}
use Rattle.std.specs.declared.option.Option.TheVariants.{Some}
use Rattle.sparse_poly.specs.declared.Term.{Term}
use Rattle.sparse_poly.specs.Polynomials.{variable}
use Rattle.sparse_poly.specs.Reads.{degree_in, leading_in, main_variable}
use Rattle.sparse_poly.specs.Contributions.{IsPoly}
use Rattle.sparse_poly.specs.Clearing.{IsCleared}
use Rattle.sparse_poly.proofs.OneQuotient.{one_clearing}
use Rattle.sparse_poly.proofs.Powers.{IsPoly-coefficient_of_power}
use Rattle.char_set.specs.Triangular.{IsDecided}
use Rattle.case_rules.specs.declared.moves.Move.{Move}
use Rattle.case_rules.specs.declared.moves.Move.TheVariants.{Reduce, Split}
use Rattle.case_rules.specs.Cases.{CaseState, known, poly}
use Rattle.case_rules.specs.Branches.{IsClearedInitial}
use Rattle.case_rules.specs.Rules.{IsLeast, IsGreatest, IsOtherWith, IsLinearAt, IsLinearMove, IsFactorAt, IsFactorMove, IsLowestDividing, IsPaired, IsPivot, IsOtherMain, IsPairReduction, IsPairSplit, IsInitialSplit, IsSplitOn, IsUndecidedAt, IsUndecidedSplit, IsMove, linear, factor, pair_reduction, pair_split, initial_split}

pub one_least : (P : ℕ → Type 0) (i j : ℕ) → IsLeast P i → IsLeast P j → i ≡ j
one_least P i j l m = either (cases_order i j)
  where
    either : (i ≡ j) ⊎ ((i < j) ⊎ (j < i)) → i ≡ j
    either (inl e) = e
    either (inr (inl a)) = absurd (m.none_below i a l.has)
    either (inr (inr b)) = absurd (l.none_below j b m.has)

pub one_greatest : (P : ℕ → Type 0) (i j : ℕ) → IsGreatest P i → IsGreatest P j → i ≡ j
one_greatest P i j l m = either (cases_order i j)
  where
    either : (i ≡ j) ⊎ ((i < j) ⊎ (j < i)) → i ≡ j
    either (inl e) = e
    either (inr (inl a)) = absurd (l.none_above j a m.has)
    either (inr (inr b)) = absurd (m.none_above i b l.has)

pub Some_injective : (v w : ℕ) → Some v ≡ Some w → v ≡ w
Some_injective v w e = cc e

reduce_same : (q p v q' p' v' : ℕ) → q ≡ q' → p ≡ p' → v ≡ v' → Reduce q p v ≡ Reduce q' p' v'
reduce_same q p v q' p' v' e f g = cc (e, f, g)

split_same : (s s' : List Term) (t t' : Option ℕ) → s ≡ s' → t ≡ t' → Split s t ≡ Split s' t'
split_same s s' t t' e f = cc (e, f)

pub one_linear : (c : CaseState) (q p v q' p' v' : ℕ) → IsLinearMove c q p v → IsLinearMove c q' p' v' → Reduce q p v ≡ Reduce q' p' v'
one_linear c q p v q' p' v' m n = reduce_same q p v q' p' v' same_q same_p same_v
  where
    same_p : p ≡ p'
    same_p = one_least (IsLinearAt c) p p' m.least n.least

    same_v : v ≡ v'
    same_v = Some_injective v v' (sym m.linear.main ∙ ap (λ i. main_variable (poly c i)) same_p ∙ n.linear.main)

    same_q : q ≡ q'
    same_q = one_least (IsOtherWith c p v) q q' m.least_other (subst (λ w. IsLeast (IsOtherWith c p w) q') (sym same_v) (subst (λ i. IsLeast (IsOtherWith c i v') q') (sym same_p) n.least_other))

pub one_factor : (c : CaseState) (s s' : List Term) (t t' : Option ℕ) → IsFactorMove c s t → IsFactorMove c s' t' → Split s t ≡ Split s' t'
one_factor c s s' t t' m n = split_same s s' t t' (m.is_variable ∙ ap variable same_v ∙ sym n.is_variable) (m.no_tail ∙ sym n.no_tail)
  where
    same_at : m.at ≡ n.at
    same_at = one_least (IsFactorAt c) m.at n.at m.least n.least

    same_v : m.v ≡ n.v
    same_v = one_least _ m.v n.v m.lowest (subst (λ i. IsLowestDividing (poly c i) n.v) (sym same_at) n.lowest)

-- of two pivots each has the least degree, and then the least place
one_pivot : (c : CaseState) (v p p' : ℕ) → IsPivot c v p → IsPivot c v p' → p ≡ p'
one_pivot c v p p' m n = either (cases_order p p')
  where
    clash : p ≢ p' → ⊥
    clash d = both (m.least p' n.has (λ e. d (sym e))) (n.least p m.has d)
      where
        both : (degree_in v (poly c p) < degree_in v (poly c p')) ⊎ ((degree_in v (poly c p) ≡ degree_in v (poly c p')) × (p < p')) → (degree_in v (poly c p') < degree_in v (poly c p)) ⊎ ((degree_in v (poly c p') ≡ degree_in v (poly c p)) × (p' < p)) → ⊥
        both (inl a) (inl b) = omega (arith, a, b)
        both (inl a) (inr b) = omega (arith, a, b.0)
        both (inr a) (inl b) = omega (arith, a.0, b)
        both (inr a) (inr b) = omega (arith, a.1, b.1)

    either : (p ≡ p') ⊎ ((p < p') ⊎ (p' < p)) → p ≡ p'
    either (inl e) = e
    either (inr (inl a)) = absurd (clash (λ e. omega (arith, a, e)))
    either (inr (inr b)) = absurd (clash (λ e. omega (arith, b, e)))

pub one_pair : (c : CaseState) (q p v q' p' v' : ℕ) → IsPairReduction c q p v → IsPairReduction c q' p' v' → Reduce q p v ≡ Reduce q' p' v'
one_pair c q p v q' p' v' m n = reduce_same q p v q' p' v' same_q same_p same_v
  where
    same_v : v ≡ v'
    same_v = one_greatest (IsPaired c) v v' m.highest n.highest

    same_p : p ≡ p'
    same_p = one_pivot c v p p' m.pivot (subst (λ w. IsPivot c w p') (sym same_v) n.pivot)

    same_q : q ≡ q'
    same_q = one_least (IsOtherMain c p v) q q' m.least_other (subst (λ w. IsLeast (IsOtherMain c p w) q') (sym same_v) (subst (λ i. IsLeast (IsOtherMain c i v') q') (sym same_p) n.least_other))

-- the equations are polynomials
abbrev pub ArePolys : CaseState → Type 0
ArePolys c = (i : ℕ) → IsPoly (poly c i)

-- an initial is cleared in one way
pub record IsSameInitial (u s u' s' : List Term) (v v' : ℕ) : Type 0 where
  pub var : v ≡ v'
  pub factor : u ≡ u'
  pub rest : s ≡ s'

pub one_initial : (c : CaseState) → ArePolys c → (i v v' : ℕ) (u s u' s' : List Term) → IsClearedInitial c i v u s → IsClearedInitial c i v' u' s' → IsSameInitial u s u' s' v v'
one_initial c ps i v v' u s u' s' a b =
    let var : v ≡ v' = Some_injective v v' (sym a.main ∙ b.main) in
    let both = one_clearing (known c) (leading_in v (poly c i)) u s u' s' (IsPoly-coefficient_of_power v (degree_in v (poly c i)) (poly c i) (ps i)) a.cleared (subst (λ w. IsCleared (known c) (leading_in w (poly c i)) u' s') (sym var) b.cleared) in
    record { var = var; factor = both.0; rest = both.1 }

module _ (c : CaseState) (ps : ArePolys c) where
  one_split : (i : ℕ) (s s' : List Term) (t t' : Option ℕ) → IsInitialSplit c i s t → IsInitialSplit c i s' t' → Split s t ≡ Split s' t'
  one_split i s s' t t' m n = both m.on (subst (λ r. IsSplitOn r i s' t') (sym same) n.on)
    where
      same : m.rest ≡ n.rest
      same = (one_initial c ps i m.v n.v m.factor m.rest n.factor n.rest m.initial n.initial).rest

      both : IsSplitOn m.rest i s t → IsSplitOn m.rest i s' t' → Split s t ≡ Split s' t'
      both (inl a) (inl b) = split_same s s' t t' (a.2 ∙ ap variable (one_least _ a.0 b.0 a.1 b.1) ∙ sym b.2) (a.3 ∙ sym b.3)
      both (inl a) (inr b) = absurd (b.0 a.0 a.1.has)
      both (inr a) (inl b) = absurd (a.0 b.0 b.1.has)
      both (inr a) (inr b) = split_same s s' t t' (a.1 ∙ sym b.1) (a.2 ∙ sym b.2)

  one_pair_split : (s s' : List Term) (t t' : Option ℕ) → IsPairSplit c s t → IsPairSplit c s' t' → Split s t ≡ Split s' t'
  one_pair_split s s' t t' m n = one_split m.p s s' t t' m.split (subst (λ i. IsInitialSplit c i s' t') (sym same_p) n.split)
    where
      same_v : m.v ≡ n.v
      same_v = one_greatest (IsPaired c) m.v n.v m.highest n.highest

      same_p : m.p ≡ n.p
      same_p = one_pivot c m.v m.p n.p m.pivot (subst (λ w. IsPivot c w n.p) (sym same_v) n.pivot)

  one_undecided : (s s' : List Term) (t t' : Option ℕ) → IsUndecidedSplit c s t → IsUndecidedSplit c s' t' → Split s t ≡ Split s' t'
  one_undecided s s' t t' m n = one_split m.at s s' t t' m.split (subst (λ i. IsInitialSplit c i s' t') (sym (one_least (IsUndecidedAt c) m.at n.at m.least n.least)) n.split)

  -- a pair is decided or not, by its one pivot
  pair_clash : (q p v : ℕ) (s : List Term) (t : Option ℕ) → IsPairReduction c q p v → IsPairSplit c s t → ⊥
  pair_clash q p v s t m n = n.undecided (subst (λ i. IsDecided (known c) (poly c i)) same_p m.decided)
    where
      same_v : v ≡ n.v
      same_v = one_greatest (IsPaired c) v n.v m.highest n.highest

      same_p : p ≡ n.p
      same_p = one_pivot c v p n.p m.pivot (subst (λ w. IsPivot c w n.p) (sym same_v) n.pivot)

  -- the rules exclude each other, and each gives one move
  pub one_move : (m n : Move) → IsMove c m → IsMove c n → m ≡ n
  one_move m n (linear q p v a) (linear q' p' v' b) = one_linear c q p v q' p' v' a b
  one_move m n (linear q p v a) (factor s t l b) = absurd (l p a.least.has)
  one_move m n (linear q p v a) (pair_reduction q' p' v' l f b) = absurd (l p a.least.has)
  one_move m n (linear q p v a) (pair_split s t l f b) = absurd (l p a.least.has)
  one_move m n (linear q p v a) (initial_split s t l f h b) = absurd (l p a.least.has)
  one_move m n (factor s t l a) (linear q p v b) = absurd (l p b.least.has)
  one_move m n (factor s t l a) (factor s' t' l' b) = one_factor c s s' t t' a b
  one_move m n (factor s t l a) (pair_reduction q p v l' f b) = absurd (f a.at a.least.has)
  one_move m n (factor s t l a) (pair_split s' t' l' f b) = absurd (f a.at a.least.has)
  one_move m n (factor s t l a) (initial_split s' t' l' f h b) = absurd (f a.at a.least.has)
  one_move m n (pair_reduction q p v l f a) (linear q' p' v' b) = absurd (l p' b.least.has)
  one_move m n (pair_reduction q p v l f a) (factor s t l' b) = absurd (f b.at b.least.has)
  one_move m n (pair_reduction q p v l f a) (pair_reduction q' p' v' l' f' b) = one_pair c q p v q' p' v' a b
  one_move m n (pair_reduction q p v l f a) (pair_split s t l' f' b) = absurd (pair_clash q p v s t a b)
  one_move m n (pair_reduction q p v l f a) (initial_split s t l' f' h b) = absurd (h v a.highest.has)
  one_move m n (pair_split s t l f a) (linear q p v b) = absurd (l p b.least.has)
  one_move m n (pair_split s t l f a) (factor s' t' l' b) = absurd (f b.at b.least.has)
  one_move m n (pair_split s t l f a) (pair_reduction q p v l' f' b) = absurd (pair_clash q p v s t b a)
  one_move m n (pair_split s t l f a) (pair_split s' t' l' f' b) = one_pair_split s s' t t' a b
  one_move m n (pair_split s t l f a) (initial_split s' t' l' f' h b) = absurd (h a.v a.highest.has)
  one_move m n (initial_split s t l f h a) (linear q p v b) = absurd (l p b.least.has)
  one_move m n (initial_split s t l f h a) (factor s' t' l' b) = absurd (f b.at b.least.has)
  one_move m n (initial_split s t l f h a) (pair_reduction q p v l' f' b) = absurd (h v b.highest.has)
  one_move m n (initial_split s t l f h a) (pair_split s' t' l' f' b) = absurd (h b.v b.highest.has)
  one_move m n (initial_split s t l f h a) (initial_split s' t' l' f' h' b) = one_undecided s s' t t' a b
