-- A reduction and a branch come to one case.
use Rattle.std.specs.Prelude.{◌≡◌, ◌≢◌, ℕ, ◌+◌, Bool, true, false, List, [], ◌∷◌, ◌++◌, length, remove, refl}
use Rattle.std.proofs.Common.{subst, sym, ◌∙◌, ap}
use Rattle.std.specs.List.{AllByRecursion}
use Rattle.std.specs.declared.option.Option.{Option}
use Rattle.std.specs.declared.option.Option.TheVariants.{None, Some}
use Rattle.sparse_poly.specs.declared.Term.{Term}
use Rattle.sparse_poly.specs.Contributions.{IsPoly}
use Rattle.sparse_poly.specs.Reads.{main_variable}
use Rattle.sparse_poly.proofs.OneQuotient.{one_quotient, one_strip}
use Rattle.pseudo_rem.specs.declared.steps.Reduction.{Reduction}
use Rattle.pseudo_rem.specs.Steps.{IsTailStep}
use Rattle.pseudo_rem.proofs.OneStep.{one_step}
use Rattle.pseudo_rem.proofs.OneRemainder.{one_reduction}
use Rattle.derive_lines.specs.declared.parts.Line.{Line}
use Rattle.derive_lines.specs.Lines.{conditions}
use Rattle.derive_lines.specs.Refuting.{decided}
use Rattle.case_rules.specs.declared.equation.Equation.{Equation}
use Rattle.case_rules.specs.Cases.{CaseState, known, equation, poly}
use Rattle.case_rules.specs.Kept.{added, all_added}
use Rattle.case_rules.specs.Clearings as clearings
use Rattle.case_rules.specs.Clearings.{made, quotient_line, Divides, IsClearing, AreCleared, AreStripped}
use Rattle.case_rules.specs.Branches.{step_line, stepped, zero_equation, IsReduced, IsNonzeroBranch, IsTailBranch, IsBranch}
use Rattle.case_rules.proofs.OneMove.{ArePolys, one_initial}

varied : (n : List Term) → main_variable n ≢ None → n ≢ []
varied n h e = h (ap main_variable e)

same_quotient : (n p g h : List Term) → Divides n p g → Divides n p h → g ≡ h
same_quotient n p g h d e = one_quotient n p g h d.in_form.poly (varied n d.in_form.varied) d.quotient e.quotient

pub one_clearing : (ns : List (List Term)) (k : ℕ) (e : Equation) (ls ms : List Line) (f g : Equation) → IsClearing ns k e ls f → IsClearing ns k e ms g → (ls ≡ ms) × (f ≡ g)
one_clearing ns k e ls ms f g (clearings.IsClearing.end i j) (clearings.IsClearing.end i' j') = (refl, refl)
one_clearing ns k e ls ms f g (clearings.IsClearing.next n ns' i j ls' f' none a) (clearings.IsClearing.next n' ns'' i' j' ms' g' none' b) = one_clearing ns' k e ls ms f g a b
one_clearing ns k e ls ms f g (clearings.IsClearing.next n ns' i j ls' f' none a) (clearings.IsClearing.once n' ns'' i' j' h ms' g' d b) = absurd (none h d)
one_clearing ns k e ls ms f g (clearings.IsClearing.once n ns' i j h ls' f' d a) (clearings.IsClearing.next n' ns'' i' j' ms' g' none b) = absurd (none h d)
one_clearing ns k e ls ms f g (clearings.IsClearing.once n ns' i j h ls' f' d a) (clearings.IsClearing.once n' ns'' i' j' h' ms' g' d' b) =
    let same : h ≡ h' = same_quotient n e.poly h h' d d' in
    let rest : (ls' ≡ ms') × (f ≡ g) = one_clearing (n ∷ ns') (k + 1) (made h k) ls' ms' f g a (subst (λ p. IsClearing (n ∷ ns') (k + 1) (made p k) ms' g) (sym same) b) in
    (ap (λ p. quotient_line e.item n p ∷ ls') same ∙ ap (λ l. quotient_line e.item n h' ∷ l) rest.0, rest.1)

pub one_clearing_all : (units : List (List Term)) (k : ℕ) (es : List Equation) (ls ms : List Line) (fs gs : List Equation) → AreCleared units k es ls fs → AreCleared units k es ms gs → (ls ≡ ms) × (fs ≡ gs)
one_clearing_all units k es ls ms fs gs (clearings.AreCleared.end i) (clearings.AreCleared.end i') = (refl, refl)
one_clearing_all units k es ls ms fs gs (clearings.AreCleared.next i e rest first f more others a b) (clearings.AreCleared.next i' e' rest' first' f' more' others' a' b') =
    let head : (first ≡ first') × (f ≡ f') = one_clearing units k e first first' f f' a a' in
    let tail : (more ≡ more') × (others ≡ others') = one_clearing_all units (k + length first) rest more more' others others' b (subst (λ l. AreCleared units (k + length l) rest more' others') (sym head.0) b') in
    (ap (λ l. l ++ more) head.0 ∙ ap (λ l. first' ++ l) tail.0, ap (λ y. y ∷ others) head.1 ∙ ap (λ ys. f' ∷ ys) tail.1)

pub one_stripping_all : (units : List (List Term)) (k : ℕ) (es : List Equation) (ls ms : List Line) (fs gs : List Equation) → AllByRecursion (λ (e : Equation). IsPoly e.poly) es → AreStripped units k es ls fs → AreStripped units k es ms gs → (ls ≡ ms) × (fs ≡ gs)
one_stripping_all units k es ls ms fs gs ps (clearings.AreStripped.end i) (clearings.AreStripped.end i') = (refl, refl)
one_stripping_all units k es ls ms fs gs ps (clearings.AreStripped.same i e rest m more others s b) (clearings.AreStripped.same i' e' rest' m' more' others' s' b') =
    let tail : (more ≡ more') × (others ≡ others') = one_stripping_all units k rest more more' others others' ps.1 b b' in
    (tail.0, ap (λ ys. e ∷ ys) tail.1)
one_stripping_all units k es ls ms fs gs ps (clearings.AreStripped.same i e rest m more others s b) (clearings.AreStripped.changed i' e' rest' m' r' more' others' s' n' b') = absurd (n' ((one_strip units e.poly m' r' m e.poly ps.0 s' s).1))
one_stripping_all units k es ls ms fs gs ps (clearings.AreStripped.changed i e rest m r more others s n b) (clearings.AreStripped.same i' e' rest' m' more' others' s' b') = absurd (n ((one_strip units e.poly m r m' e.poly ps.0 s s').1))
one_stripping_all units k es ls ms fs gs ps (clearings.AreStripped.changed i e rest m r more others s n b) (clearings.AreStripped.changed i' e' rest' m' r' more' others' s' n' b') =
    let same : (m ≡ m') × (r ≡ r') = one_strip units e.poly m r m' r' ps.0 s s' in
    let tail : (more ≡ more') × (others ≡ others') = one_stripping_all units (k + 1) rest more more' others others' ps.1 b b' in (
      ap (λ p. quotient_line e.item p r ∷ more) same.0 ∙ ap (λ p. quotient_line e.item m' p ∷ more) same.1 ∙ ap (λ l. quotient_line e.item m' r' ∷ l) tail.0,
      ap (λ p. made p k ∷ others) same.1 ∙ ap (λ ys. made r' k ∷ ys) tail.1,
    )

one_tail : (units : List (List Term)) (v : ℕ) (q u s : List Term) (a b : Reduction) → IsTailStep units v q u s a → IsTailStep units v q u s b → a ≡ b
one_tail units v q u s a b f g = one_step one_strip units q s a b (f.l_is ∙ sym g.l_is) (f.a_is ∙ sym g.a_is) f.is_step g.is_step

-- a reduction comes to one case
pub one_reduced : (c : CaseState) (q p v : ℕ) (d e : CaseState) → IsReduced c q p v d → IsReduced c q p v e → d ≡ e
one_reduced c q p v d e a b =
    let same : a.step ≡ b.step = one_reduction one_strip (known c) (poly c q) (poly c p) v a.step b.step a.reduction b.reduction in
    let cleared : (a.lines ≡ b.lines) × (a.rest ≡ b.rest) = one_clearing (known c) _ _ a.lines b.lines a.rest b.rest a.clearing (subst (λ (s : Reduction). IsClearing (known c) (length c.lines + 1) (made s.r (length c.lines)) b.lines b.rest) (sym same) b.clearing) in
    let result : Reduction → List Line → Equation → CaseState = λ s ls f. stepped c c.decisions (remove c.equations q) (step_line (equation c q).item (equation c p).item s ∷ ls) f in
    a.is ∙ ap (λ s. result s a.lines a.rest) same ∙ ap (λ ls. result b.step ls a.rest) cleared.0 ∙ ap (λ f. result b.step b.lines f) cleared.1 ∙ sym b.is

-- the equations are polynomials
abbrev pub EachPoly : CaseState → Type 0
EachPoly c = AllByRecursion (λ (e : Equation). IsPoly e.poly) c.equations

one_nonzero : (c : CaseState) (s : List Term) (d e : CaseState) → EachPoly c → IsNonzeroBranch c s d → IsNonzeroBranch c s e → d ≡ e
one_nonzero c s d e ps a b =
    let us : List (List Term) = conditions (decided c.decisions s false) in
    let strip : (a.strips ≡ b.strips) × (a.stripped ≡ b.stripped) = one_stripping_all us (length c.lines) c.equations a.strips b.strips a.stripped b.stripped ps a.are_stripped b.are_stripped in
    let other : AreCleared us (length c.lines + length a.strips) a.stripped b.clears b.cleared = subst (λ es. AreCleared us (length c.lines + length a.strips) es b.clears b.cleared) (sym strip.1) (subst (λ (ls : List Line). AreCleared us (length c.lines + length ls) b.stripped b.clears b.cleared) (sym strip.0) b.are_cleared) in
    let clear : (a.clears ≡ b.clears) × (a.cleared ≡ b.cleared) = one_clearing_all us _ _ a.clears b.clears a.cleared b.cleared a.are_cleared other in
    a.is ∙ ap (λ ls. after ls a.clears a.cleared) strip.0 ∙ ap (λ ls. after b.strips ls a.cleared) clear.0 ∙ ap (λ es. after b.strips b.clears es) clear.1 ∙ sym b.is
  where
    after : List Line → List Line → List Equation → CaseState
    after strips clears es = record { decisions = decided c.decisions s false; equations = all_added es []; lines = c.lines ++ (strips ++ clears); moves = c.moves + 1 }

one_tail_branch : (c : CaseState) (s : List Term) (i : ℕ) (d e : CaseState) → ArePolys c → IsTailBranch c s i d → IsTailBranch c s i e → d ≡ e
one_tail_branch c s i d e ps a b =
    let parts = one_initial c ps i a.tail.v b.tail.v a.tail.u s b.tail.u s a.tail.initial b.tail.initial in
    let same : a.step ≡ b.step = one_tail (known c) a.tail.v (poly c i) a.tail.u s a.step b.step a.tail.tail (subst (λ v. IsTailStep (known c) v (poly c i) a.tail.u s b.step) (sym parts.var) (subst (λ u. IsTailStep (known c) b.tail.v (poly c i) u s b.step) (sym parts.factor) b.tail.tail)) in
    let cleared : (a.lines ≡ b.lines) × (a.rest ≡ b.rest) = one_clearing (known c) _ _ a.lines b.lines a.rest b.rest a.clearing (subst (λ (t : Reduction). IsClearing (known c) (length c.lines + 1) (made t.r (length c.lines)) b.lines b.rest) (sym same) b.clearing) in
    a.is ∙ ap (λ t. after t a.lines a.rest) same ∙ ap (λ ls. after b.step ls a.rest) cleared.0 ∙ ap (λ f. after b.step b.lines f) cleared.1 ∙ sym b.is
  where
    after : Reduction → List Line → Equation → CaseState
    after t ls f = stepped c (decided c.decisions s true) (added (zero_equation c s) (remove c.equations i)) (step_line (equation c i).item (zero_equation c s).item t ∷ ls) f

-- a branch is one case
pub one_branch : (c : CaseState) (s : List Term) (zero : Bool) (tail : Option ℕ) (d e : CaseState) → ArePolys c → EachPoly c → IsBranch c s zero tail d → IsBranch c s zero tail e → d ≡ e
one_branch c s true None d e ps es a b = a ∙ sym b
one_branch c s true (Some i) d e ps es a b = one_tail_branch c s i d e ps a b
one_branch c s false tail d e ps es a b = one_nonzero c s d e es a b
