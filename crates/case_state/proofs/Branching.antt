-- The branches of a case, by their parts.
use Rattle.std.specs.Prelude.{◌≡◌, ℕ, ◌+◌, true, false, List, [], ◌∷◌, ◌++◌, length, remove}
use Rattle.std.proofs.Common.{sym, ◌∙◌, ap, subst, append_assoc, length-append}
use Rattle.std.specs.declared.option.Option.{Option}
use Rattle.sparse_poly.specs.declared.Term.{Term}
use Rattle.pseudo_rem.specs.declared.steps.Reduction.{Reduction}
use Rattle.pseudo_rem.specs.Steps.{IsReduction}
use Rattle.derive_lines.specs.declared.parts.Decision.{Decision}
use Rattle.derive_lines.specs.declared.parts.Line.{Line}
use Rattle.derive_lines.specs.Lines.{conditions}
use Rattle.derive_lines.specs.Refuting.{decided}
use Rattle.case_rules.specs.declared.equation.Equation.{Equation}
use Rattle.case_rules.specs.Cases.{CaseState, known, equation, equation_at}
use Rattle.case_rules.specs.Kept.{added, all_added}
use Rattle.case_rules.specs.Clearings.{made, IsClearing, AreCleared, AreStripped}
use Rattle.case_rules.specs.Branches.{step_line, zero_equation, IsNonzeroBranch, IsTailOf, IsTailBranch}
use Rattle.case_rules.proofs.Items.{conditions_zero, conditions_nonzero}
use Rattle.case_system.specs.Systems.{SystemState, with_equations, IsAddedCleared, IsReplaced, HasCondition}
use Rattle.case_state.specs.Places.{IsReducedAt}
use Rattle.case_state.specs.Reducing.{IsReducedBy}

-- the known conditions of a branch
pub known_zero : (ds : List Decision) (s : List Term) → conditions (decided ds s true) ≡ conditions ds
known_zero = conditions_zero

pub known_nonzero : (ds : List Decision) (s : List Term) → conditions (decided ds s false) ≡ conditions ds ++ s ∷ []
known_nonzero = conditions_nonzero

abbrev case_of : List Decision → List Equation → List Line → ℕ → CaseState
case_of ds es ls m = record { decisions = ds; equations = es; lines = ls; moves = m }

same_case : (ds ds' : List Decision) (es es' : List Equation) (ls ls' : List Line) (m m' : ℕ) → ds ≡ ds' → es ≡ es' → ls ≡ ls' → m ≡ m' → case_of ds es ls m ≡ case_of ds' es' ls' m'
same_case ds ds' es es' ls ls' m m' a b c d =
    ap (λ x. case_of x es ls m) a ∙ ap (λ x. case_of ds' x ls m) b ∙ ap (λ x. case_of ds' es' x m) c ∙ ap (λ x. case_of ds' es' ls' x) d

-- the equations of a case and its known conditions
abbrev pub system_of : CaseState → SystemState
system_of c = record { conditions = known c; equations = c.equations }

pub system_is : (c : CaseState) (ds : List Decision) (s : SystemState) (ls : List Line) (m : ℕ) → case_of ds s.equations ls m ≡ c → s.conditions ≡ conditions ds → s ≡ system_of c
system_is c ds s ls m v u = subst (λ x. s ≡ system_of x) v (ap (λ ns. let x : SystemState = record { conditions = ns; equations = s.equations } in x) u)

pub nonzero_made : (c : CaseState) (by : List Term) (ds : List Decision) (s s' : SystemState) (before now : List Line) (m : ℕ) → s ≡ system_of c → ds ≡ decided c.decisions by false → before ≡ c.lines → HasCondition s by before now s' → m ≡ c.moves + 1 → IsNonzeroBranch c by (case_of ds s'.equations now m)
nonzero_made c by ds s s' before now m e d b g n = record {
  strips = h.are_stripped.more;
  stripped = h.stripped;
  are_stripped = subst (λ ns. AreStripped ns (length c.lines) c.equations h.are_stripped.more h.stripped) all h.are_stripped.stripping;
  clears = h.are_cleared.more;
  cleared = h.cleared;
  are_cleared = subst (λ ns. AreCleared ns (length c.lines + length h.are_stripped.more) h.stripped h.are_cleared.more h.cleared) all
      (subst (λ k. AreCleared (known c ++ by ∷ []) k h.stripped h.are_cleared.more h.cleared) long h.are_cleared.clearing);
  is = same_case ds (decided c.decisions by false) s'.equations (all_added h.cleared []) now (c.lines ++ (h.are_stripped.more ++ h.are_cleared.more)) m (c.moves + 1) d (ap (λ (x : SystemState). x.equations) h.is) lines n;
}
  where
    h : HasCondition (system_of c) by c.lines now s'
    h = subst (λ ls. HasCondition (system_of c) by ls now s') b (subst (λ x. HasCondition x by before now s') e g)

    all : known c ++ by ∷ [] ≡ conditions (decided c.decisions by false)
    all = sym (conditions_nonzero c.decisions by)

    long : length h.middle ≡ length c.lines + length h.are_stripped.more
    long = ap length h.are_stripped.is ∙ length-append c.lines h.are_stripped.more

    lines : now ≡ c.lines ++ (h.are_stripped.more ++ h.are_cleared.more)
    lines = h.are_cleared.is ∙ ap (λ ls. ls ++ h.are_cleared.more) h.are_stripped.is ∙ append_assoc c.lines h.are_stripped.more h.are_cleared.more

pub same_conditions : (c : CaseState) (es2 es3 : List Equation) (s s1 s2 s3 : SystemState) → s ≡ system_of c → s1 ≡ s → s2 ≡ with_equations s1 es2 → s3 ≡ with_equations s2 es3 → s3.conditions ≡ known c
same_conditions c es2 es3 s s1 s2 s3 e e1 e2 e3 = ap (λ (y : SystemState). y.conditions) (e3 ∙ ap (λ (y : SystemState). with_equations y es3) (e2 ∙ ap (λ (y : SystemState). with_equations y es2) (e1 ∙ e)))

pub tail_made : (c : CaseState) (by : List Term) (i : ℕ) (step : Reduction) (zero : Equation) (before : List Line) (r : List Term) (k : ℕ) (line : Line) (next now : List Line) (s s1 s2 s3 s4 : SystemState) (ds : List Decision) (m : ℕ) → s ≡ system_of c → IsTailOf c by i step → zero ≡ zero_equation c by → before ≡ c.lines → r ≡ step.r → k ≡ length before → line ≡ step_line (equation c i).item zero.item step → next ≡ before ++ line ∷ [] → s1 ≡ s → s2 ≡ with_equations s1 (remove s1.equations i) → s3 ≡ with_equations s2 (added zero s2.equations) → IsAddedCleared s3 next (made r k) now s4 → ds ≡ decided c.decisions by true → m ≡ c.moves + 1 → IsTailBranch c by i (case_of ds s4.equations now m)
tail_made c by i step zero before r k line next now s s1 s2 s3 s4 ds m e t z b p n l x e1 e2 e3 h d w = record {
  step = step;
  tail = t;
  lines = h.cleared.more;
  rest = h.rest;
  clearing = subst (λ ns. IsClearing ns (length c.lines + 1) (made step.r (length c.lines)) h.cleared.more h.rest) units
      (subst (λ j. IsClearing s3.conditions (length c.lines + 1) (made step.r j) h.cleared.more h.rest) (n ∙ ap length b)
      (subst (λ q. IsClearing s3.conditions (length c.lines + 1) (made q k) h.cleared.more h.rest) p (subst (λ j. IsClearing s3.conditions j (made r k) h.cleared.more h.rest) long h.cleared.clearing)));
  is = same_case ds (decided c.decisions by true) s4.equations (added h.rest (added (zero_equation c by) (remove c.equations i))) now (c.lines ++ own ∷ h.cleared.more) m (c.moves + 1) d equations lines w;
}
  where
    own : Line
    own = step_line (equation c i).item (zero_equation c by).item step

    same : line ≡ own
    same = l ∙ ap (λ (y : Equation). step_line (equation c i).item y.item step) z

    after : next ≡ c.lines ++ own ∷ []
    after = x ∙ ap (λ ls. ls ++ line ∷ []) b ∙ ap (λ y. c.lines ++ y ∷ []) same

    long : length next ≡ length c.lines + 1
    long = ap length after ∙ length-append c.lines (own ∷ [])

    lines : now ≡ c.lines ++ own ∷ h.cleared.more
    lines = h.cleared.is ∙ ap (λ ls. ls ++ h.cleared.more) after ∙ append_assoc c.lines (own ∷ []) h.cleared.more

    units : s3.conditions ≡ known c
    units = same_conditions c (remove s1.equations i) (added zero s2.equations) s s1 s2 s3 e e1 e2 e3

    equations : s4.equations ≡ added h.rest (added (zero_equation c by) (remove c.equations i))
    equations =
        ap (λ (y : SystemState). y.equations) h.is
        ∙ ap (λ (y : SystemState). added h.rest y.equations) e3
        ∙ ap (λ y. added h.rest (added y s2.equations)) z
        ∙ ap (λ (y : SystemState). added h.rest (added (zero_equation c by) y.equations)) e2
        ∙ ap (λ (y : SystemState). added h.rest (added (zero_equation c by) (remove y.equations i))) (e1 ∙ e)

pub reduced_by : (s s' : SystemState) (q p v : ℕ) (at : Option ℕ) (before next now : List Line) (step : Reduction) (r : List Term) (k : ℕ) (line : Line) → IsReduction s.conditions (equation_at s.equations q).poly (equation_at s.equations p).poly v step → r ≡ step.r → k ≡ length before → line ≡ step_line (equation_at s.equations q).item (equation_at s.equations p).item step → next ≡ before ++ line ∷ [] → IsReplaced s q next (made r k) now at s' → IsReducedBy s q p v before now at s'
reduced_by s s' q p v at before next now step r k line d e n l x h = record {
  step = step;
  reduction = d;
  lines = h.cleared.more;
  rest = h.rest;
  clearing = subst (λ j. IsClearing s.conditions (length before + 1) (made step.r j) h.cleared.more h.rest) n
      (subst (λ q. IsClearing s.conditions (length before + 1) (made q k) h.cleared.more h.rest) e
      (subst (λ j. IsClearing s.conditions j (made r k) h.cleared.more h.rest) (ap length x ∙ length-append before (line ∷ [])) h.cleared.clearing));
  place = h.place;
  appended = h.cleared.is ∙ ap (λ ls. ls ++ h.cleared.more) x ∙ append_assoc before (line ∷ []) h.cleared.more ∙ ap (λ y. before ++ y ∷ h.cleared.more) l;
  is = h.is;
}

pub reduced_made : (c : CaseState) (q p v : ℕ) (at : Option ℕ) (ds : List Decision) (s s' : SystemState) (before now : List Line) (m : ℕ) → s ≡ system_of c → ds ≡ c.decisions → before ≡ c.lines → IsReducedBy s q p v before now at s' → m ≡ c.moves + 1 → IsReducedAt c q p v at (case_of ds s'.equations now m)
reduced_made c q p v at ds s s' before now m e d b g n = record {
  reduced = record {
    step = h.step;
    reduction = h.reduction;
    lines = h.lines;
    rest = h.rest;
    clearing = h.clearing;
    is = same_case ds c.decisions s'.equations (added h.rest (remove c.equations q)) now (c.lines ++ step_line (equation c q).item (equation c p).item h.step ∷ h.lines) m (c.moves + 1) d (ap (λ (x : SystemState). x.equations) h.is) h.appended n;
  };
  place = h.place;
}
  where
    h : IsReducedBy (system_of c) q p v c.lines now at s'
    h = subst (λ ls. IsReducedBy (system_of c) q p v ls now at s') b (subst (λ x. IsReducedBy x q p v before now at s') e g)
