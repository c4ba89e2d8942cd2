-- Facts of equations that are added, removed, stripped and cleared.
use Rattle.std.specs.Prelude.{◌≡◌, ◌≢◌, ◌⊎◌, ◌<◌, ◌≤◌, ℕ, zero, suc, ◌+◌, pos, List, [], ◌∷◌, ◌++◌, length, take, drop, insert, remove, slice_index_or, refl}
use mathlib.Core.Logic.{inl, inr}
use Rattle.std.proofs.Common.{arith, sym, ◌∙◌, subst, ap, length-append}
use Rattle.std.proofs.Math.Seq.{take-length}
use Rattle.std.proofs.lemmas.Int.{ints}
use Rattle.std.proofs.lemmas.List.{take-append-drop, take-append-le, map-append}
use Rattle.std.specs.List.{AllByRecursion, Contains}
use Rattle.std.specs.declared.option.Option.{Option}
use Rattle.std.specs.declared.option.Option.TheVariants.{None, Some}
use Rattle.sparse_poly.specs.declared.Term.{Term}
use Rattle.sparse_poly.specs.Polynomials.{coefficient, constant, variable}
use Rattle.sparse_poly.specs.Contributions.{IsPoly}
use Rattle.sparse_poly.specs.Clearing.{IsDividedBy}
use Rattle.sparse_poly.specs.Units.{IsStripped}
use Rattle.sparse_poly.proofs.Descending.{all_both}
use Rattle.derive_lines.specs.declared.parts.Line.{Line}
use Rattle.case_rules.specs.declared.equation.Equation.{Equation}
use Rattle.case_rules.specs.Cases.{equation_at, polys_of}
use Rattle.case_rules.specs.Kept.{added}
use Rattle.case_rules.specs.Clearings as clearings
use Rattle.case_rules.specs.Clearings.{Divides, IsClearing}
use Rattle.case_rules.proofs.Sides.{one_product}
use Rattle.case_system.specs.Appending as appending
use Rattle.case_system.specs.Appending.{IsClearedBy, IsStrippedBy}
use Rattle.case_system.specs.Places.{HasPlace}
use Rattle.case_system.specs.declared.kept.Kept.{Kept}
use Rattle.case_system.specs.Kept.{equations_of}
use Rattle.case_system.proofs.BeingCleared.{AreBeingStripped, stripped_next}
use Rattle.case_system.proofs.Placing.{take_this}
use Rattle.case_system.specs.Clean.{IsBare, IsUndivided, IsClean, IsCleanTo, IsBareTo}
use Rattle.case_system.specs.Facts.{HasFacts, HasBareFacts, HaveFacts, with_facts, IsFactsPlace}
use Rattle.case_system.specs.Outlines.{IsOutlineOf}
use Rattle.case_system.specs.declared.kept.Facts.{Facts}

module _ (units : List (List Term)) where
  pub facts_length : (es : List Equation) (ks : List Facts) → HaveFacts units es ks → length ks ≡ length es
  facts_length [] [] h = refl
  facts_length [] (k ∷ ks) h = absurd h
  facts_length (e ∷ es) [] h = absurd h
  facts_length (e ∷ es) (k ∷ ks) h = let rest = facts_length es ks h.1 in omega (arith, rest)

  pub facts_both : (es fs : List Equation) (ks ls : List Facts) → es ≡ fs → ks ≡ ls → HaveFacts units fs ls → HaveFacts units es ks
  facts_both es fs ks ls e f h = subst (λ es. HaveFacts units es ks) (sym e) (subst (HaveFacts units fs) (sym f) h)

  pub facts_removed : (es : List Equation) (ks : List Facts) (i : ℕ) → HaveFacts units es ks → HaveFacts units (remove es i) (remove ks i)
  facts_removed [] [] zero h = h
  facts_removed [] [] (suc i) h = h
  facts_removed [] (k ∷ ks) i h = absurd h
  facts_removed (e ∷ es) [] i h = absurd h
  facts_removed (e ∷ es) (k ∷ ks) zero h = h.1
  facts_removed (e ∷ es) (k ∷ ks) (suc i) h = (h.0, facts_removed es ks i h.1)

  pub facts_inserted : (es : List Equation) (ks : List Facts) (i : ℕ) (e : Equation) (k : Facts) → HaveFacts units es ks → HasFacts units e.poly k → HaveFacts units (insert es i e) (insert ks i k)
  facts_inserted es ks zero e k h p = (p, h)
  facts_inserted [] [] (suc i) e k h p = (p, h)
  facts_inserted [] (c ∷ ks) (suc i) e k h p = absurd h
  facts_inserted (f ∷ es) [] (suc i) e k h p = absurd h
  facts_inserted (f ∷ es) (c ∷ ks) (suc i) e k h p = (h.0, facts_inserted es ks i e k h.1 p)

  facts_same : (es fs : List Equation) (ks : List Facts) → polys_of es ≡ polys_of fs → HaveFacts units es ks → HaveFacts units fs ks
  facts_same [] [] ks e h = h
  facts_same [] (f ∷ fs) ks e h = absurd (cc e)
  facts_same (x ∷ es) [] ks e h = absurd (cc e)
  facts_same (x ∷ es) (f ∷ fs) [] e h = absurd h
  facts_same (x ∷ es) (f ∷ fs) (k ∷ ks) e h =
      let same : x.poly ≡ f.poly = cc e in
      let rest : polys_of es ≡ polys_of fs = cc e in
      (subst (λ p. HasFacts units p k) same h.0, facts_same es fs ks rest h.1)

  pub facts_added : (es : List Equation) (ks : List Facts) (e : Equation) (k : Facts) (place : Option ℕ) → HasPlace e.poly es place → HaveFacts units es ks → HasFacts units e.poly k → HaveFacts units (added e es) (with_facts place k ks)
  facts_added es ks e k None h a p = facts_same es (added e es) ks (sym (h e refl)) a
  facts_added es ks e k (Some i) h a p = subst (λ fs. HaveFacts units fs (insert ks i k)) (sym (h.1 e refl)) (facts_inserted es ks i e k a p)

  pub facts_at : (es : List Equation) (ks : List Facts) (i : ℕ) (e : Equation) (k : Facts) → HaveFacts units es ks → i < length es → e ≡ slice_index_or es i e → k ≡ slice_index_or ks i k → HasFacts units e.poly k
  facts_at [] ks i e k h l a b = absurd (omega (arith, l))
  facts_at (f ∷ es) [] i e k h l a b = absurd h
  facts_at (f ∷ es) (c ∷ ks) zero e k h l a b = subst (λ (x : Equation). HasFacts units x.poly k) (sym a) (subst (λ c. HasFacts units f.poly c) (sym b) h.0)
  facts_at (f ∷ es) (c ∷ ks) (suc i) e k h l a b = facts_at es ks i e k h.1 (omega (arith, l)) a b

  pub facts_of : (es : List Equation) (ks : List Facts) (i : ℕ) (k : Facts) → HaveFacts units es ks → i < length es → k ≡ slice_index_or ks i k → HasFacts units (equation_at es i).poly k
  facts_of [] ks i k h l b = absurd (omega (arith, l))
  facts_of (f ∷ es) [] i k h l b = absurd h
  facts_of (f ∷ es) (c ∷ ks) zero k h l b = subst (λ c. HasFacts units f.poly c) (sym b) h.0
  facts_of (f ∷ es) (c ∷ ks) (suc i) k h l b = facts_of es ks i k h.1 (omega (arith, l)) b

pub facts_place : (es : List Equation) (fs : List Facts) (p : List Term) (place : Option ℕ) → HasPlace p es place → length fs ≡ length es → IsFactsPlace place fs
facts_place es fs p None h e = tt
facts_place es fs p (Some i) h e = let l = h.0 in omega (arith, l, e)

-- a count of 0 says nothing
pub clean_to_none : (units : List (List Term)) (p : List Term) (k : ℕ) → k ≡ 0 → IsCleanTo units p k
clean_to_none units p k e = record { within = omega (arith, e); clean = λ n. absurd (n e) }

pub new_facts : (units : List (List Term)) (p : List Term) (f : Facts) → f.clean ≡ 0 → IsOutlineOf p f.outline → HasFacts units p f
new_facts units p f e o = record { clean = clean_to_none units p f.clean e; outline = o }

-- a new equation has its facts
pub new_known : (units : List (List Term)) (e : Equation) (k : Kept) → k.equation ≡ e → k.facts.clean ≡ 0 → IsOutlineOf e.poly k.facts.outline → HasFacts units k.equation.poly k.facts
new_known units e k s z o = subst (λ (x : Equation). HasFacts units x.poly k.facts) (sym s) (new_facts units e.poly k.facts z o)

-- the facts of one more equation
pub one_more_known : (units : List (List Term)) (es : List Equation) (fs : List Facts) (e : Equation) (f : Facts) → HaveFacts units es fs → HasFacts units e.poly f → HaveFacts units (es ++ e ∷ []) (fs ++ f ∷ [])
one_more_known units [] [] e f h k = (k, tt)
one_more_known units [] (g ∷ fs) e f h k = absurd h
one_more_known units (d ∷ es) [] e f h k = absurd h
one_more_known units (d ∷ es) (g ∷ fs) e f h k = (h.0, one_more_known units es fs e f h.1 k)

-- what is clean under the first conditions is so where there are more
pub clean_more : (units more : List (List Term)) (es : List Equation) (fs : List Facts) → HaveFacts units es fs → HaveFacts (units ++ more) es fs
clean_more units more [] [] h = h
clean_more units more [] (f ∷ fs) h = absurd h
clean_more units more (e ∷ es) [] h = absurd h
clean_more units more (e ∷ es) (f ∷ fs) h =
    let within = h.0.clean.within in (
      record {
        clean = record { within = omega (arith, within, length-append units more); clean = λ n. subst (λ us. IsClean us e.poly) (sym (take-append-le f.clean units more within)) (h.0.clean.clean n) };
        outline = h.0.outline;
      },
      clean_more units more es fs h.1,
    )

-- what a strip leaves is bare, and what is bare is left by it
pub stripped_bare : (units : List (List Term)) (p m r : List Term) → IsStripped units p m r → IsBare units r
stripped_bare units p m r s = record { primitive = s.primitive; bare = s.divided }

bare_stripped : (units : List (List Term)) (p : List Term) → IsPoly p → IsBare units p → IsStripped units p (constant (pos 1)) p
bare_stripped units p h b = record {
  factor_poly = record { falling = (tt, tt); monomials = (record { powers = tt; in_range = tt }, tt); apart = ((λ e. omega (arith, ints, e)), tt); in_range = (omega arith, tt) };
  rest_poly = h;
  product = λ k. sym (ap (λ x. coefficient x k) (one_product p));
  primitive = b.primitive;
  divided = b.bare;
  out = tt;
  zero_factor = λ e. refl;
}

-- conditions are the first ones and the others
first_or_later : (k : ℕ) (units : List (List Term)) (n : List Term) → Contains units n → Contains (take k units) n ⊎ Contains (drop k units) n
first_or_later zero units n c = inr c
first_or_later (suc k) [] n c = let l = c.1 in absurd (omega (arith, l))
first_or_later (suc k) (u ∷ us) n (zero, l, e) = inl (0, omega arith, e)
first_or_later (suc k) (u ∷ us) n (suc j, l, e) = each (first_or_later k us n (j, omega (arith, l), e))
  where
    each : Contains (take k us) n ⊎ Contains (drop k us) n → Contains (take (suc k) (u ∷ us)) n ⊎ Contains (drop (suc k) (u ∷ us)) n
    each (inl (i, m, f)) = inl (suc i, omega (arith, m), f)
    each (inr c) = inr c

bare_more : (k : ℕ) (units : List (List Term)) (p : List Term) → IsBare (take k units) p → ((v : ℕ) → Contains (drop k units) (variable v) → IsDividedBy v p → ⊥) → IsBare units p
bare_more k units p b none = record { primitive = b.primitive; bare = λ v c d. each v (first_or_later k units (variable v) c) d }
  where
    each : (v : ℕ) → Contains (take k units) (variable v) ⊎ Contains (drop k units) (variable v) → IsDividedBy v p → p ≡ []
    each v (inl c) d = b.bare v c d
    each v (inr c) d = absurd (none v c d)

-- no variable among the first conditions divides, nor does the next one
contains_last : (ns : List (List Term)) (n m : List Term) → Contains (ns ++ n ∷ []) m → Contains ns m ⊎ (n ≡ m)
contains_last [] n m (zero, l, e) = inr e
contains_last [] n m (suc j, l, e) = absurd (omega (arith, l))
contains_last (u ∷ ns) n m (zero, l, e) = inl (0, omega arith, e)
contains_last (u ∷ ns) n m (suc j, l, e) = each (contains_last ns n m (j, omega (arith, l), e))
  where
    each : Contains ns m ⊎ (n ≡ m) → Contains (u ∷ ns) m ⊎ (n ≡ m)
    each (inl (i, k, f)) = inl (suc i, omega (arith, k), f)
    each (inr f) = inr f

pub none_so_far : (ns : List (List Term)) (k : ℕ) (n p : List Term) → k < length ns → n ≡ slice_index_or ns k n → ((v : ℕ) → Contains (take k ns) (variable v) → IsDividedBy v p → ⊥) → ((v : ℕ) → n ≡ variable v → IsDividedBy v p → ⊥) → (v : ℕ) → Contains (take (k + 1) ns) (variable v) → IsDividedBy v p → ⊥
none_so_far ns k n p l e before here v c d = each (contains_last (take k ns) n (variable v) (subst (λ ms. Contains ms (variable v)) (take_this ns k n l e) c))
  where
    each : Contains (take k ns) (variable v) ⊎ (n ≡ variable v) → ⊥
    each (inl i) = before v i d
    each (inr f) = here v f d

-- an equation that is clean under the first conditions, and of which no later one may be stripped, stays
pub passed_strip : (units : List (List Term)) (before : List Line) (e f : Equation) (k : ℕ) → IsPoly e.poly → IsCleanTo units e.poly k → k ≢ 0 → ((v : ℕ) → Contains (drop k units) (variable v) → IsDividedBy v e.poly → ⊥) → f ≡ e → IsStrippedBy units before e before f
passed_strip units before e f k h c n none s =
    subst (λ x. IsStrippedBy units before e before x) (sym s) (appending.IsStrippedBy.same (constant (pos 1)) (bare_stripped units e.poly h (bare_more k units e.poly (c.clean n).bare none)))

pub passed_bare : (units : List (List Term)) (p : List Term) (k : ℕ) → IsCleanTo units p k → k ≢ 0 → ((v : ℕ) → Contains (drop k units) (variable v) → IsDividedBy v p → ⊥) → IsBareTo units p k
passed_bare units p k c n none = record { within = c.within; bare = bare_more k units p (c.clean n).bare none; undivided = (c.clean n).undivided }

-- no condition of none divides
none_divides : (p : List Term) → IsUndivided [] p
none_divides p n h c d = let l = c.1 in absurd (omega (arith, l))

first_undivided : (units : List (List Term)) (p : List Term) (k : ℕ) → IsCleanTo units p k → IsUndivided (take k units) p
first_undivided units p zero c = none_divides p
first_undivided units p (suc k) c = (c.clean (λ e. absurd (omega (arith, e)))).undivided

-- what a strip leaves as it is keeps its count, and what it changes has the count 0
pub same_bare : (units : List (List Term)) (p m r : List Term) (k : ℕ) → IsStripped units p m r → r ≡ p → IsCleanTo units p k → IsBareTo units r k
same_bare units p m r k s e c = record { within = c.within; bare = stripped_bare units p m r s; undivided = subst (λ q. IsUndivided (take k units) q) (sym e) (first_undivided units p k c) }

fresh_bare : (units : List (List Term)) (p : List Term) (k : ℕ) → k ≡ 0 → IsBare units p → IsBareTo units p k
fresh_bare units p k e b = subst (IsBareTo units p) (sym e) (record { within = omega arith; bare = b; undivided = none_divides p })

pub new_bare : (units : List (List Term)) (e : Equation) (k : Kept) → k.equation ≡ e → k.facts.clean ≡ 0 → IsOutlineOf e.poly k.facts.outline → IsBare units e.poly → HasBareFacts units k.equation.poly k.facts
new_bare units e k s z o b = subst (λ (x : Equation). HasBareFacts units x.poly k.facts) (sym s) (record { bare = fresh_bare units e.poly k.facts.clean z b; outline = o })

-- conditions that do not divide are passed by
passed_by : (older ns : List (List Term)) (k : ℕ) (e : Equation) (ls : List Line) (f : Equation) → IsUndivided older e.poly → IsClearing ns k e ls f → IsClearing (older ++ ns) k e ls f
passed_by [] ns k e ls f h c = c
passed_by (n ∷ older) ns k e ls f h c = clearings.IsClearing.next n (older ++ ns) k e ls f (λ g d. h n g (0, omega arith, refl) d) (passed_by older ns k e ls f (λ m g i d. h m g (suc i.0, (let l = i.1 in omega (arith, l)), i.2) d) c)

pub cleared_by_later : (units : List (List Term)) (k : ℕ) (before : List Line) (e : Equation) (now : List Line) (f : Equation) → IsBareTo units e.poly k → IsClearedBy (drop k units) before e now f → IsClearedBy units before e now f
cleared_by_later units k before e now f h c = record { more = c.more; is = c.is; clearing = subst (λ ns. IsClearing ns (length before) e c.more f) (take-append-drop k units) (passed_by (take k units) (drop k units) (length before) e c.more f h.undivided c.clearing) }

-- a clearing with no line divides by nothing
record IsLeft (ns : List (List Term)) (e f : Equation) : Type 0 where
  same : f ≡ e
  undivided : IsUndivided ns e.poly

no_line : (ns : List (List Term)) (k : ℕ) (e : Equation) (ls : List Line) (f : Equation) → ls ≡ [] → IsClearing ns k e ls f → IsLeft ns e f
no_line ns k e ls f z (clearings.IsClearing.end i j) = record { same = refl; undivided = none_divides e.poly }
no_line ns k e ls f z (clearings.IsClearing.next n ns' i j ls' f' none rest) =
    let more = no_line ns' k e ls f z rest in
    record { same = more.same; undivided = λ m h c d. each m h c d more }
  where
    each : (m h : List Term) → Contains (n ∷ ns') m → Divides m e.poly h → IsLeft ns' e f → ⊥
    each m h (zero, l, g) d more = none h (subst (λ x. Divides x e.poly h) (sym g) d)
    each m h (suc j, l, g) d more = more.undivided m h (j, omega (arith, l), g) d
no_line ns k e ls f z (clearings.IsClearing.once n ns' i j h ls' f' d rest) = absurd (cc z)

-- where as many lines are there as before, none was appended
none_more : (before now more : List Line) → now ≡ before ++ more → length now ≤ length before → more ≡ []
none_more before now [] e l = refl
none_more before now (x ∷ xs) e l = absurd (omega (arith, l, ap length e, length-append before (x ∷ xs)))

pub same_equation : (ns : List (List Term)) (before : List Line) (e : Equation) (now : List Line) (f : Equation) → IsClearedBy ns before e now f → length now ≤ length before → f ≡ e
same_equation ns before e now f c l = (no_line ns (length before) e c.more f (none_more before now c.more c.is l) c.clearing).same

-- what was bare and is not divided is clean under all conditions
pub clean_to_all : (units : List (List Term)) (before : List Line) (e : Equation) (k : ℕ) (now : List Line) (f : Equation) (n : ℕ) → IsBareTo units e.poly k → IsClearedBy (drop k units) before e now f → length now ≤ length before → n ≡ length units → IsCleanTo units f.poly n
clean_to_all units before e k now f n b c l z = subst (IsCleanTo units f.poly) (sym z) (record {
  within = omega arith;
  clean = λ _. subst (λ us. IsClean us f.poly) (sym (take-length units)) (subst (λ (x : Equation). IsClean units x.poly) (sym left.same) (record { bare = b.bare; undivided = λ m x i d. each m x d (first_or_later k units m i) }));
})
  where
    left : IsLeft (drop k units) e f
    left = no_line (drop k units) (length before) e c.more f (none_more before now c.more c.is l) c.clearing

    each : (m x : List Term) → Divides m e.poly x → Contains (take k units) m ⊎ Contains (drop k units) m → ⊥
    each m x d (inl i) = b.undivided m x i d
    each m x d (inr i) = left.undivided m x i d

-- one more equation is stripped
pub stripped_kept : (units : List (List Term)) (before : List Line) (es left rest : List Equation) (e : Equation) (now next : List Line) (done : List Kept) (k : Kept) (all : List Kept) → left ≡ e ∷ rest → AreBeingStripped units before es left now (equations_of done) → IsStrippedBy units now e next k.equation → all ≡ done ++ k ∷ [] → AreBeingStripped units before es rest next (equations_of all)
stripped_kept units before es left rest e now next done k all s b c d =
    subst (AreBeingStripped units before es rest next) (sym (ap equations_of d ∙ map-append (λ (x : Kept). x.equation) done (k ∷ []))) (stripped_next units before es left rest e now next (equations_of done) k.equation s b c)

pub bare_kept : (units : List (List Term)) (done : List Kept) (k : Kept) (all : List Kept) → AllByRecursion (λ (x : Kept). HasBareFacts units x.equation.poly x.facts) done → HasBareFacts units k.equation.poly k.facts → all ≡ done ++ k ∷ [] → AllByRecursion (λ (x : Kept). HasBareFacts units x.equation.poly x.facts) all
bare_kept units done k all h b d = subst (AllByRecursion (λ (x : Kept). HasBareFacts units x.equation.poly x.facts)) (sym d) (all_both (λ (x : Kept). HasBareFacts units x.equation.poly x.facts) done (k ∷ []) h (b, tt))
