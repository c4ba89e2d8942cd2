-- A problem has one list of root equations: the differences are determined, and so are their primitive parts and their order.
use Rattle.std.specs.Prelude.{◌≡◌, ◌≢◌, ℕ, List, [], ◌∷◌, ◌++◌, length, Contains, refl}
use Rattle.std.proofs.Common.{arith, sym, ◌∙◌, ap, subst, ◌⊎◌, inl, inr}
use Rattle.std.specs.List.Sorted.{IsStrictlySortedBy}
use Rattle.std.specs.Cmp.{IsTotalOrder}
use Rattle.std.specs.FinMap.{IsAntisymmetric}
use Rattle.std.specs.Ordering.{ordering_reverse}
use Rattle.std.specs.declared.cmp.Ordering.{Ordering}
use Rattle.std.specs.declared.cmp.Ordering.TheVariants.{Less, Equal, Greater}
use Rattle.std.proofs.lemmas.List.Elements.{All-contains, Contains-append_left, Contains-append_right, Contains-append_cases, Contains-push, Contains-push_cases}
use Rattle.std.proofs.lemmas.Map.Views.{All-after_first}
use Rattle.std.proofs.lemmas.Map.Keys.{sorted_tail}
use Rattle.sparse_poly.specs.declared.Term.{Term}
use Rattle.sparse_poly.specs.Order.{poly_cmp}
use Rattle.sparse_poly.specs.OrderLaws.{poly_cmp-IsTotalOrder, poly_cmp-IsAntisymmetric}
use Rattle.sparse_poly.proofs.Same.{same_polynomial}
use Rattle.sparse_poly.proofs.PrimitiveParts.{one_primitive_part}
use Rattle.fusion_ring.specs.Fusion.{Fusion}
use Rattle.symbol_index.specs.declared.Symbol.{Symbol}
use Rattle.symbol_index.specs.declared.GaugeEntry.{GaugeEntry}
use Rattle.symbol_equations.specs.Differences.{AreDifferences}
use Rattle.symbol_equations.proofs.Listed.{differences_contained}
use Rattle.pentagon_gen.specs.Differences.{IsPentagonEquation}
use Rattle.hexagon_gen.specs.Differences.{IsHexagonEquation}
use Rattle.gauge_fix.specs.Inverses.{IsInverseEquation}
use Rattle.gauge_fix.specs.Gauge.{AreGaugeDifferences}
use Rattle.ring_file.specs.Problems.{Stated}
use Rattle.root_system.specs.Forms.{RootEquations}
use Rattle.root_system.specs.PrimitiveParts.{ArePrimitiveParts}
use Rattle.root_system.specs.Root.{AreDifferencesOf, AreRootEquations, IsRootOf, IsRootFault}
use Rattle.root_system.specs.declared.root.RootFault.{RootFault}
use Rattle.root_system.specs.declared.root.RootFault.TheVariants.{TooManyUnknowns, TooManyEquations, OutOfMemory}

-- each member of the one list is a member of the other
abbrev Within : {X : Type 0} → List X → List X → Type 0
Within {X} xs ys = (x : X) → Contains xs x → Contains ys x

module _ {X : Type 0} where
  none_contained : (x : X) → Contains [] x → ⊥
  none_contained x h = omega (arith, h.1)

  contained_cases : (x : X) (xs : List X) (z : X) → Contains (x ∷ xs) z → (x ≡ z) ⊎ Contains xs z
  contained_cases x xs z h = elim (Contains-append_cases (x ∷ []) xs z h) [
    | inl i ↦ elim (Contains-push_cases [] x z i) [ inl n ↦ absurd (none_contained z n) | inr e ↦ inl e ]
    | inr t ↦ inr t
  ]

  contained_first : (x : X) (xs : List X) → Contains (x ∷ xs) x
  contained_first x xs = Contains-append_left (x ∷ []) xs x (Contains-push [] x)

  contained_rest : (x : X) (xs : List X) (z : X) → Contains xs z → Contains (x ∷ xs) z
  contained_rest x xs z h = Contains-append_right (x ∷ []) xs z h

  append_within : (xs ys us vs : List X) → Within xs us → Within ys vs → Within (xs ++ ys) (us ++ vs)
  append_within xs ys us vs h k x c = elim (Contains-append_cases xs ys x c) [
    | inl i ↦ Contains-append_left us vs x (h x i)
    | inr j ↦ Contains-append_right us vs x (k x j)
  ]

module _ {X : Type 0} (R : X → X → Ordering) (o : IsTotalOrder R) (tied : IsAntisymmetric R) where
  not_below_itself : (x : X) → R x x ≡ Less → ⊥
  not_below_itself x e = let both : Less ≡ Greater = sym e ∙ o.antisymm x x ∙ ap ordering_reverse e in cc both

  not_both_below : (x y : X) → R x y ≡ Less → R y x ≡ Less → ⊥
  not_both_below x y e f = not_below_itself x (o.trans x y x e f)

  -- the first of one list is in the other only if it is not below the first of that
  not_below_first : (x y : X) (ys : List X) → IsStrictlySortedBy R (y ∷ ys) → R x y ≡ Less → Contains (y ∷ ys) x → ⊥
  not_below_first x y ys s l h = elim (contained_cases y ys x h) [
    | inl e ↦ not_below_itself x (subst (λ z. R x z ≡ Less) e l)
    | inr i ↦ not_both_below x y l (All-contains (λ z. R y z ≡ Less) ys x (All-after_first R y ys s) i)
  ]

  -- where two strictly sorted lists begin alike, so do the members of the rest
  rest_within : (x y : X) (xs ys : List X) → x ≡ y → IsStrictlySortedBy R (x ∷ xs) → Within (x ∷ xs) (y ∷ ys) → Within xs ys
  rest_within x y xs ys e s h z c = elim (contained_cases y ys z (h z (contained_rest x xs z c))) [
    | inl f ↦ absurd (not_below_itself x (subst (λ u. R x u ≡ Less) (sym (e ∙ f)) (All-contains (λ u. R x u ≡ Less) xs z (All-after_first R x xs s) c)))
    | inr i ↦ i
  ]

  same_sorted : (xs ys : List X) → IsStrictlySortedBy R xs → IsStrictlySortedBy R ys → Within xs ys → Within ys xs → xs ≡ ys
  same_sorted [] [] s t h k = refl
  same_sorted [] (y ∷ ys) s t h k = absurd (none_contained y (k y (contained_first y ys)))
  same_sorted (x ∷ xs) [] s t h k = absurd (none_contained x (h x (contained_first x xs)))
  same_sorted (x ∷ xs) (y ∷ ys) s t h k = each (R x y) refl (same_sorted xs ys (sorted_tail R x xs s) (sorted_tail R y ys t))
    where
      each : (u : Ordering) → R x y ≡ u → (Within xs ys → Within ys xs → xs ≡ ys) → x ∷ xs ≡ y ∷ ys
      each Less e rest = absurd (not_below_first x y ys t e (h x (contained_first x xs)))
      each Greater e rest = absurd (not_below_first y x xs s (o.antisymm y x ∙ ap ordering_reverse e) (k y (contained_first y ys)))
      each Equal e rest =
          let one : x ≡ y = tied x y e in
          ap (λ z. z ∷ xs) one ∙ ap (λ zs. y ∷ zs) (rest (rest_within x y xs ys one s h) (rest_within y x ys xs (sym one) t k))

differences_within : (r : Fusion) (IsEquation : List (List Symbol) → List (List Symbol) → Type 0) (ps qs : List (List Term)) → AreDifferences r IsEquation ps → AreDifferences r IsEquation qs → Within ps qs
differences_within r IsEquation ps qs a b p c = (differences_contained r IsEquation qs b p).1 ((differences_contained r IsEquation ps a p).0 c)

gauges_within : (r : Fusion) (gauge : List GaugeEntry) (ps qs : List (List Term)) → AreGaugeDifferences r gauge ps → AreGaugeDifferences r gauge qs → Within ps qs
gauges_within r gauge ps qs a b p c =
    let one = a.each p c in
    let other = b.all one.0 one.1 in
    subst (λ q. Contains qs q) (same_polynomial other.0 p other.2.0 one.2.0 (λ m. other.2.1 m ∙ sym (one.2.1 m))) other.1

all_within : (p : Stated) (ds es : List (List Term)) → AreDifferencesOf p ds → AreDifferencesOf p es → Within ds es
all_within p ds es a b q c =
    subst (λ l. Contains l q) (sym b.all)
    (append_within (a.pentagons ++ a.hexagons ++ a.inverses) a.gauges (b.pentagons ++ b.hexagons ++ b.inverses) b.gauges
    (append_within (a.pentagons ++ a.hexagons) a.inverses (b.pentagons ++ b.hexagons) b.inverses
    (append_within a.pentagons a.hexagons b.pentagons b.hexagons
    (differences_within p.ring (IsPentagonEquation p.ring) a.pentagons b.pentagons a.are_pentagons b.are_pentagons)
    (differences_within p.ring (IsHexagonEquation p.ring) a.hexagons b.hexagons a.are_hexagons b.are_hexagons))
    (differences_within p.ring (IsInverseEquation p.ring) a.inverses b.inverses a.are_inverses b.are_inverses))
    (gauges_within p.ring p.gauge a.gauges b.gauges a.are_gauges b.are_gauges) q (subst (λ l. Contains l q) a.all c))

parts_within : (ds es qs rs : List (List Term)) → Within ds es → ArePrimitiveParts ds qs → ArePrimitiveParts es rs → Within qs rs
parts_within ds es qs rs w a b q c =
    let i = a.each q c in
    let h = b.all i.poly (w i.poly i.is) in
    let one : h.part ≡ q = one_primitive_part i.poly h.part q h.is i.part in
    elim h.listed [ inl e ↦ absurd (i.nonzero (sym one ∙ e)) | inr d ↦ subst (λ r. Contains rs r) one d ]

pub one_root : (p : Stated) (qs rs : List (List Term)) → AreRootEquations p qs → AreRootEquations p rs → qs ≡ rs
one_root p qs rs a b =
    same_sorted poly_cmp poly_cmp-IsTotalOrder poly_cmp-IsAntisymmetric qs rs a.ascending b.ascending
    (parts_within a.differences b.differences qs rs (all_within p a.differences b.differences a.are_differences b.are_differences) a.are_parts b.are_parts)
    (parts_within b.differences a.differences rs qs (all_within p b.differences a.differences b.are_differences a.are_differences) b.are_parts a.are_parts)

pub one_answer : (p : Stated) (limit : ℕ) (root other : RootEquations) → IsRootOf p limit root → IsRootOf p limit other → root ≡ other
one_answer p limit root other a b =
    let n : root.unknowns ≡ other.unknowns = a.unknowns_are ∙ sym b.unknowns_are in
    let e : root.equations ≡ other.equations = one_root p root.equations other.equations a.are_equations b.are_equations in
    ap (λ k. let r : RootEquations = record { unknowns = k; equations = root.equations } in r) n ∙ ap (λ l. let r : RootEquations = record { unknowns = other.unknowns; equations = l } in r) e

pub no_fault : (p : Stated) (limit : ℕ) (root : RootEquations) (fault : RootFault) → IsRootOf p limit root → IsRootFault p limit fault → fault ≡ OutOfMemory
no_fault p limit root (TooManyUnknowns count) a h = absurd (omega (arith, a.unknowns_are, a.few_unknowns, h.0, h.1))
no_fault p limit root (TooManyEquations count) a h =
    let e : length h.2.0 ≡ length root.equations = ap length (one_root p h.2.0 root.equations h.2.1 a.are_equations) in
    absurd (omega (arith, a.few_equations, h.1, h.2.2))
no_fault p limit root OutOfMemory a h = refl

pub one_fault : (p : Stated) (limit : ℕ) (fault other : RootFault) → IsRootFault p limit fault → IsRootFault p limit other → fault ≢ OutOfMemory → other ≢ OutOfMemory → fault ≡ other
one_fault p limit OutOfMemory other h k n m = absurd (n refl)
one_fault p limit (TooManyUnknowns c) OutOfMemory h k n m = absurd (m refl)
one_fault p limit (TooManyUnknowns c) (TooManyUnknowns d) h k n m = ap TooManyUnknowns (h.0 ∙ sym k.0)
one_fault p limit (TooManyUnknowns c) (TooManyEquations d) h k n m = absurd (omega (arith, h.0, h.1, k.0))
one_fault p limit (TooManyEquations c) OutOfMemory h k n m = absurd (m refl)
one_fault p limit (TooManyEquations c) (TooManyUnknowns d) h k n m = absurd (omega (arith, k.0, k.1, h.0))
one_fault p limit (TooManyEquations c) (TooManyEquations d) h k n m = ap TooManyEquations (h.2.2 ∙ ap length (one_root p h.2.0 k.2.0 h.2.1 k.2.1) ∙ sym k.2.2)
