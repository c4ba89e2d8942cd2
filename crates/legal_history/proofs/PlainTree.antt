-- The leaves of the plain tree.
use Rattle.std.specs.Prelude.{◌≡◌, ◌+◌, ◌⊎◌, ℕ, zero, suc, Bool, true, false, List, [], ◌∷◌, ◌++◌, length, slice_get}
use Rattle.std.specs.declared.option.Option.{Option}
use Rattle.std.specs.declared.option.Option.TheVariants.{None, Some}
use Rattle.std.proofs.Common.{arith, refl, sym, ◌∙◌, ap, inl, inr, subst}
use Rattle.std.proofs.lemmas.Option.{none-some, same_Some, slice_get_within}
use Rattle.sparse_poly.specs.declared.Term.{Term}
use Rattle.leaf_cert.specs.Parts.{LeafParts}
use Rattle.leaf_cert.specs.declared.certificate.RawEntry.{RawEntry}
use Rattle.leaf_cert.specs.declared.certificate.RawEntry.TheVariants.{Split as split, Post as posted, Close as close, Publish as published}
use Rattle.case_rules.specs.Cases.{CaseState, root_case}
use Rattle.case_rules.specs.Ends.{End, IsEnd}
use Rattle.case_rules.specs.declared.outcome.Outcome.TheVariants.{Split, Leaf as leaf_end}
use Rattle.case_history.specs.History.{Placed, publish, settles, fate, cases_made, patterns, IsPending}
use Rattle.case_history.proofs.Numbers.{numbers_are}
use Rattle.case_history.proofs.Fates.{fate-other, fate-same}
use Rattle.case_rules.specs.EndLaws.{AreEndLaws}
use Rattle.legal_history.specs.Legal.{post, AreCases, IsCase, IsEndOf, closes, refutes, splits, publishes, stays, goes, IsLegal}
use Rattle.legal_history.proofs.Pairs.{get-first, get-seam, get-next, IsOneOf, old, first, second, get-two}
use Rattle.legal_history.proofs.Cases.{length-cases, cases_fit, one_cases, cases_stay}
use Rattle.legal_history.proofs.Grown.{legal_cases}
use Rattle.legal_history.specs.Tree.{IsUnder, here, zero_of, nonzero_of, IsInTree, IsClosed, IsUnderOpen, IsPublished, AreTreeLeaves}

leaf_end_is : (a b : LeafParts) → ◌≡◌ {A = End} (leaf_end a) (leaf_end b) → a ≡ b
leaf_end_is a b e = cc

module _ (root : List (List Term)) (budget : ℕ) (laws : AreEndLaws root budget) where
  pub one_case : (h : List RawEntry) (n : ℕ) (c d : CaseState) → IsCase root budget h n c → IsCase root budget h n d → c ≡ d
  one_case h n c d a b = same_Some c d (sym a.is ∙ (ap (λ (l : List CaseState). slice_get l n) (one_cases root budget laws h a.cases b.cases a.are b.are) ∙ b.is))

  -- a case stays the same while the history grows
  pub case_stays : (more h : List RawEntry) (n : ℕ) (c : CaseState) (ds : List CaseState) → IsCase root budget h n c → AreCases root budget (more ++ h) ds → IsCase root budget (more ++ h) n c
  case_stays more h n c ds a b = record { cases = ds; are = b; is = cases_stay root budget laws more h a.cases ds n c a.are b a.is }

  pub end_stays : (more h : List RawEntry) (n : ℕ) (o : End) (ds : List CaseState) → IsEndOf root budget h n o → AreCases root budget (more ++ h) ds → IsEndOf root budget (more ++ h) n o
  end_stays more h n o ds e b = record { c = e.c; is_case = case_stays more h n e.c ds e.is_case b; is_end = e.is_end }

  -- two branches of case n are cases i and i + 1
  pub record IsSplitIn (h : List RawEntry) (n : ℕ) (by : List Term) : Type 0 where
    pub left : CaseState
    pub right : CaseState
    pub i : ℕ
    pub ends : IsEndOf root budget h n (Split by left right)
    pub is_left : IsCase root budget h i left
    pub is_right : IsCase root budget h (i + 1) right

  -- what the fate of case n says of its end
  pub Tells : List RawEntry → ℕ → RawEntry → Type 0
  Tells h n (split m by) = (m ≡ n) × IsSplitIn h n by
  Tells h n (posted ps ls end) = ⊥
  Tells h n (close m k) = m ≡ n
  Tells h n (published m ps ls es end) = (m ≡ n) × IsEndOf root budget h n (leaf_end (record { decisions = ps; lines = ls; equations = es; end = end }))

  tells_stays : (more h : List RawEntry) (n : ℕ) (e : RawEntry) (ds : List CaseState) → Tells h n e → AreCases root budget (more ++ h) ds → Tells (more ++ h) n e
  unfolding Tells
  tells_stays more h n (split m by) ds t b = (t.0, record { left = t.1.left; right = t.1.right; i = t.1.i; ends = end_stays more h n _ ds t.1.ends b; is_left = case_stays more h t.1.i t.1.left ds t.1.is_left b; is_right = case_stays more h (t.1.i + 1) t.1.right ds t.1.is_right b })
  tells_stays more h n (posted ps ls end) ds t b = t
  tells_stays more h n (close m k) ds t b = t
  tells_stays more h n (published m ps ls es end) ds t b = (t.0, end_stays more h n _ ds t.1 b)

  step : (e : RawEntry) (h : List RawEntry) (n : ℕ) (p : Placed) (ds : List CaseState) → fate (e ∷ h) n ≡ Some p → AreCases root budget (e ∷ h) ds → (settles e n ≡ true → Tells (e ∷ h) n e) → (fate h n ≡ Some p → Tells h n p.entry) → Tells (e ∷ h) n p.entry
  step e h n p ds is are now before = go (settles e n) refl
    where
      go : (b : Bool) → settles e n ≡ b → Tells (e ∷ h) n p.entry
      go true t = let same : record { place = length h; entry = e } ≡ p = same_Some _ _ (sym (fate-same e h n t) ∙ is) in subst (λ (q : Placed). Tells (e ∷ h) n q.entry) same (now t)
      go false t = tells_stays (e ∷ []) h n p.entry ds (before (sym (fate-other e h n t) ∙ is)) are

  -- the root case is case 0
  pub root_is_first : (h : List RawEntry) (cs : List CaseState) → AreCases root budget h cs → slice_get cs 0 ≡ Some (root_case root)
  root_is_first [] cs are = ap (λ (l : List CaseState). slice_get l 0) are
  root_is_first (split n by ∷ h) cs are =
      let ih : slice_get are.0 0 ≡ Some (root_case root) = root_is_first h are.0 are.1 in
      ap (λ (l : List CaseState). slice_get l 0) are.2.all ∙ (get-first are.0 (are.2.zero ∷ are.2.nonzero ∷ []) 0 (slice_get_within are.0 0 (root_case root) ih) ∙ ih)
  root_is_first (posted ps ls end ∷ h) cs are = root_is_first h cs are
  root_is_first (close n k ∷ h) cs are = root_is_first h cs are
  root_is_first (published n ps ls es end ∷ h) cs are = root_is_first h cs are

  pub fate_tells : (h : List RawEntry) (n : ℕ) (p : Placed) → IsLegal root budget h → fate h n ≡ Some p → Tells h n p.entry
  unfolding Tells
  fate_tells h n p stays is = absurd (none-some p is)
  fate_tells h n p (goes before after g (closes c k q least)) is =
      let cs = legal_cases root budget laws before g in
      step (close c k) before n p cs.0 is cs.1 (λ t. numbers_are c n t) (fate_tells before n p g)
  fate_tells h n p (goes before after g (refutes c r q e)) is =
      let cs = legal_cases root budget laws before g in
      step (close c (length (patterns before))) (post r ∷ before) n p cs.0 is cs.1 (λ t. numbers_are c n t)
      (λ f. tells_stays (post r ∷ []) before n p.entry cs.0 (fate_tells before n p g f) cs.1)
  fate_tells h n p (goes before after g (splits c by z x q e)) is =
      let cs = legal_cases root budget laws h (goes before after g (splits c by z x q e)) in
      step (split c by) before n p cs.0 is cs.1 (λ t. branched cs.0 cs.1 (numbers_are c n t)) (fate_tells before n p g)
    where
      bs : List CaseState
      bs = e.is_end.is_case.cases

      long : length bs ≡ cases_made before
      long = length-cases root budget before bs e.is_end.is_case.are

      now_cases : AreCases root budget (split c by ∷ before) (bs ++ z ∷ x ∷ [])
      now_cases = (bs, e.is_end.is_case.are, record { parent = e.is_end.c; zero = z; nonzero = x; is_parent = e.is_end.is_case.is; is_end = e.is_end.is_end; all = refl })

      branched : (ds : List CaseState) → AreCases root budget (split c by ∷ before) ds → c ≡ n → (c ≡ n) × IsSplitIn (split c by ∷ before) n by
      branched ds are same = (
        same,
        subst (λ (i : ℕ). IsSplitIn (split c by ∷ before) i by) same (record {
          left = z;
          right = x;
          i = length bs;
          ends = end_stays (split c by ∷ []) before c _ ds e.is_end are;
          is_left = record { cases = bs ++ z ∷ x ∷ []; are = now_cases; is = get-seam bs z (x ∷ []) (length bs) refl };
          is_right = record { cases = bs ++ z ∷ x ∷ []; are = now_cases; is = get-next bs z x [] (length bs + 1) refl };
        }),
      )
  fate_tells h n p (goes before after g (publishes c l q e)) is =
      let cs = legal_cases root budget laws before g in
      step (publish c l) before n p cs.0 is cs.1
      (λ t. (numbers_are c n t, end_stays (publish c l ∷ []) before n (leaf_end l) cs.0 (subst (λ (i : ℕ). IsEndOf root budget before i (leaf_end l)) (numbers_are c n t) e.is_end) cs.1)) (fate_tells before n p g)

  -- a case of the tree is a case of the history, or lies under one that is pending or closed
  pub data IsPlaced (h : List RawEntry) (c : CaseState) : Type 0 where
    made : (n : ℕ) → IsCase root budget h n c → IsPlaced h c
    below : IsUnderOpen root budget h c → IsPlaced h c

  abbrev IsBranch : CaseState → CaseState → Type 0
  IsBranch c d = (by : List Term) × (z : CaseState) × (x : CaseState) × IsEnd root budget c (Split by z x) × ((d ≡ z) ⊎ (d ≡ x))

  under_branch : (top c d : CaseState) → IsUnder root budget top c → IsBranch c d → IsUnder root budget top d
  under_branch top c d u b = elim b.4 [ inl e ↦ subst (IsUnder root budget top) (sym e) (zero_of c b.1 b.2 b.0 u b.3) | inr e ↦ subst (IsUnder root budget top) (sym e) (nonzero_of c b.1 b.2 b.0 u b.3) ]

  branch_placed : (h : List RawEntry) (c d : CaseState) → IsLegal root budget h → IsPlaced h c → IsBranch c d → IsPlaced h d
  unfolding Tells
  branch_placed h c d g (below o) b = below (record { n = o.n; top = o.top; is_case = o.is_case; is_open = o.is_open; under = under_branch o.top c d o.under b })
  branch_placed h c d g (made n is) b = go (fate h n) refl
    where
      under_it : IsPending h n ⊎ IsClosed h n → IsPlaced h d
      under_it open_ = below (record { n = n; top = c; is_case = is; is_open = open_; under = under_branch c c d here b })

      same_end : (o : End) → IsEndOf root budget h n o → ◌≡◌ {A = End} o (Split b.0 b.1 b.2)
      same_end o e = laws.one c o (Split b.0 b.1 b.2) (cases_fit root budget laws h is.cases n c is.are is.is).belongs (subst (λ (x : CaseState). IsEnd root budget x o) (one_case h n e.c c e.is_case is) e.is_end) b.3

      told : (e : RawEntry) (place : ℕ) → fate h n ≡ Some (record { place = place; entry = e }) → Tells h n e → IsPlaced h d
      told (split m by) place f t =
          let o = same_end (Split by t.1.left t.1.right) t.1.ends in
          let l : t.1.left ≡ b.1 = cc in
          let r : t.1.right ≡ b.2 = cc in
          elim b.4 [
            | inl e ↦ made t.1.i (subst (IsCase root budget h t.1.i) (l ∙ sym e) t.1.is_left)
            | inr e ↦ made (t.1.i + 1) (subst (IsCase root budget h (t.1.i + 1)) (r ∙ sym e) t.1.is_right)
          ]
      told (posted ps ls end) place f t = absurd t
      told (close m k) place f t = under_it (inr (record { k = k; place = place; is = f ∙ ap (λ (i : ℕ). Some (record { place = place; entry = close i k })) t }))
      told (published m ps ls es end) place f t = let o = same_end (leaf_end (record { decisions = ps; lines = ls; equations = es; end = end })) t.1 in cc

      go : (o : Option Placed) → fate h n ≡ o → IsPlaced h d
      go None f = under_it (inl (record { made = omega (arith, slice_get_within is.cases n c is.is, length-cases root budget h is.cases is.are); unsettled = f }))
      go (Some p) f = told p.entry p.place f (fate_tells h n p g f)

  tree_placed : (h : List RawEntry) (c : CaseState) → IsLegal root budget h → IsInTree root budget c → IsPlaced h c
  tree_placed h c g here = let cs = legal_cases root budget laws h g in made 0 (record { cases = cs.0; are = cs.1; is = root_is_first h cs.0 cs.1 })
  tree_placed h c g (zero_of d z x by u e) = branch_placed h d z g (tree_placed h d g u) (by, z, x, e, inl refl)
  tree_placed h c g (nonzero_of d z x by u e) = branch_placed h d x g (tree_placed h d g u) (by, z, x, e, inr refl)

  leaf_placed : (h : List RawEntry) (c : CaseState) (l : LeafParts) → IsLegal root budget h → IsPlaced h c → IsEnd root budget c (leaf_end l) → IsPublished h l ⊎ IsUnderOpen root budget h c
  unfolding Tells
  leaf_placed h c l g (below o) e = inr o
  leaf_placed h c l g (made n is) e = go (fate h n) refl
    where
      under_it : IsPending h n ⊎ IsClosed h n → IsPublished h l ⊎ IsUnderOpen root budget h c
      under_it open_ = inr (record { n = n; top = c; is_case = is; is_open = open_; under = here })

      same_end : (o : End) → IsEndOf root budget h n o → ◌≡◌ {A = End} o (leaf_end l)
      same_end o f = laws.one c o (leaf_end l) (cases_fit root budget laws h is.cases n c is.are is.is).belongs (subst (λ (x : CaseState). IsEnd root budget x o) (one_case h n f.c c f.is_case is) f.is_end) e

      told : (d : RawEntry) (place : ℕ) → fate h n ≡ Some (record { place = place; entry = d }) → Tells h n d → IsPublished h l ⊎ IsUnderOpen root budget h c
      told (split m by) place f t = let o = same_end (Split by t.1.left t.1.right) t.1.ends in cc
      told (posted ps ls end) place f t = absurd t
      told (close m k) place f t = under_it (inr (record { k = k; place = place; is = f ∙ ap (λ (i : ℕ). Some (record { place = place; entry = close i k })) t }))
      told (published m ps ls es end) place f t =
          let o = same_end (leaf_end (record { decisions = ps; lines = ls; equations = es; end = end })) t.1 in
          let x : record { decisions = ps; lines = ls; equations = es; end = end } ≡ l = leaf_end_is _ l o in
          inl (record { n = n; place = place; is = f ∙ (ap (λ (i : ℕ). Some (record { place = place; entry = published i ps ls es end })) t.0 ∙ ap (λ (y : LeafParts). Some (record { place = place; entry = publish n y })) x) })

      go : (o : Option Placed) → fate h n ≡ o → IsPublished h l ⊎ IsUnderOpen root budget h c
      go None f = under_it (inl (record { made = omega (arith, slice_get_within is.cases n c is.is, length-cases root budget h is.cases is.are); unsettled = f }))
      go (Some p) f = told p.entry p.place f (fate_tells h n p g f)

  pub cases_in_tree : (h : List RawEntry) (cs : List CaseState) (k : ℕ) (c : CaseState) → AreCases root budget h cs → slice_get cs k ≡ Some c → IsInTree root budget c
  cases_in_tree [] cs zero c are is = let e : Some (root_case root) ≡ Some c = sym (ap (λ (l : List CaseState). slice_get l 0) are) ∙ is in subst (IsInTree root budget) (same_Some (root_case root) c e) here
  cases_in_tree [] cs (suc k) c are is = absurd (none-some c (sym (ap (λ (l : List CaseState). slice_get l (suc k)) are) ∙ is))
  cases_in_tree (split n by ∷ h) cs k c are is = go (get-two are.0 are.2.zero are.2.nonzero c k (rw are.2.all at is)) (λ (j : ℕ) (d : CaseState). cases_in_tree h are.0 j d are.1)
    where
      go : IsOneOf are.0 are.2.zero are.2.nonzero c k → ((j : ℕ) (d : CaseState) → slice_get are.0 j ≡ Some d → IsInTree root budget d) → IsInTree root budget c
      go (old e) ih = ih k c e
      go (first e same) ih = subst (IsInTree root budget) (sym same) (zero_of are.2.parent are.2.zero are.2.nonzero by (ih n are.2.parent are.2.is_parent) are.2.is_end)
      go (second e same) ih = subst (IsInTree root budget) (sym same) (nonzero_of are.2.parent are.2.zero are.2.nonzero by (ih n are.2.parent are.2.is_parent) are.2.is_end)
  cases_in_tree (posted ps ls end ∷ h) cs k c are is = cases_in_tree h cs k c are is
  cases_in_tree (close n j ∷ h) cs k c are is = cases_in_tree h cs k c are is
  cases_in_tree (published n ps ls es end ∷ h) cs k c are is = cases_in_tree h cs k c are is

  -- the published leaves are those of the plain tree, but for those under open cases
  pub tree_leaves : (h : List RawEntry) → IsLegal root budget h → AreTreeLeaves root budget h
  unfolding Tells
  tree_leaves h g = record {
    published = λ l p. (let t = fate_tells h p.n _ g p.is in record { c = t.1.c; in_tree = cases_in_tree h t.1.is_case.cases p.n t.1.c t.1.is_case.are t.1.is_case.is; is_end = t.1.is_end });
    all = λ c l u e. leaf_placed h c l g (tree_placed h c g u) e;
  }
