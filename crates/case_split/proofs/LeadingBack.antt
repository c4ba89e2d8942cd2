-- Known conditions whose full remainder is zero, and the lines that lead back.
use Rattle.std.specs.Prelude.{◌≡◌, ◌<◌, ℕ, zero, suc, ◌+◌, List, [], ◌∷◌, ◌++◌, length, slice_index_or, refl}
use Rattle.std.proofs.Common.{arith, subst, ◌∙◌, ap, append_assoc, length-append}
use Rattle.std.proofs.lemmas.Option.{slice_get_within}
use Rattle.std.specs.declared.option.Option.{Option}
use Rattle.std.specs.declared.option.Option.TheVariants.{Some}
use Rattle.sparse_poly.specs.declared.Term.{Term}
use Rattle.pseudo_rem.specs.declared.remainders.Step.{Step}
use Rattle.pseudo_rem.specs.Remainders.{rest_of, AreNextSteps, IsNextStep}
use Rattle.derive_lines.specs.declared.parts.Item.{Item}
use Rattle.derive_lines.specs.declared.parts.Item.TheVariants as item
use Rattle.derive_lines.specs.declared.parts.Line.{Line}
use Rattle.case_rules.specs.Cases.{CaseState, known, equation, polys, count}
use Rattle.case_rules.specs.Rules.{HasZeroRemainder, condition}
use Rattle.case_rules.specs.Ends.{last_line, back_lines}
use Rattle.case_rules.proofs.Regular.{polys_length}
use Rattle.case_split.specs.Found.{back_line}

-- what a step leaves, and that it was by an equation
pub rest_last : (n : List Term) (ss : List Step) (s : Step) → rest_of n (ss ++ s ∷ []) ≡ s.reduction.r
rest_last n [] s = refl
rest_last n (x ∷ xs) s = rest_last x.reduction.r xs s

last_step : (units list : List (List Term)) (n : List Term) (ss : List Step) (s : Step) (more : List Step) → AreNextSteps units list n (ss ++ s ∷ more) → IsNextStep units list (rest_of n ss) s
last_step units list n [] s more h = h.0
last_step units list n (x ∷ xs) s more h = last_step units list x.reduction.r xs s more h.1

-- of all steps some are left, and the lines that lead back over the others are appended
pub record AreLedBack (c : CaseState) (n : List Term) (all : List Step) (before : List Line) (left : List Step) (from : Option Item) (lines : List Line) : Type 0 where
  pub taken : List Step
  pub is_all : all ≡ left ++ taken
  pub from_is : from ≡ last_line (length before) (length taken)
  pub lines_are : lines ≡ before ++ back_lines c (length before) (rest_of n left) taken

pub back_length : (c : CaseState) (k : ℕ) (n : List Term) (ss : List Step) → length (back_lines c k n ss) ≡ length ss
back_length c k n [] = refl
back_length c k n (s ∷ ss) = length-append (back_lines c k s.reduction.r ss) _ ∙ omega (arith, back_length c k s.reduction.r ss)

pub led_back_more : (c : CaseState) (n : List Term) (all : List Step) (before : List Line) (left now : List Step) (s : Step) (from next : Option Item) (lines new : List Line) → left ≡ now ++ s ∷ [] → next ≡ Some (item.Line (length lines)) → new ≡ lines ++ back_line from (equation c s.by).item s.reduction (rest_of n now) ∷ [] → AreLedBack c n all before left from lines → AreLedBack c n all before now next new
led_back_more c n all before left now s from next lines new e f g h = record {
  taken = s ∷ h.taken;
  is_all = h.is_all ∙ ap (λ ss. ss ++ h.taken) e ∙ append_assoc now (s ∷ []) h.taken;
  from_is = f ∙ ap (λ k. Some (item.Line k)) long;
  lines_are = g ∙ ap (λ ls. ls ++ line from ∷ []) whole ∙ ap (λ o. (before ++ made) ++ line o ∷ []) h.from_is ∙ append_assoc before made (line (last_line (length before) (length h.taken)) ∷ []);
}
  where
    made : List Line
    made = back_lines c (length before) s.reduction.r h.taken

    line : Option Item → Line
    line o = back_line o (equation c s.by).item s.reduction (rest_of n now)

    whole : lines ≡ before ++ made
    whole = h.lines_are ∙ ap (λ r. before ++ back_lines c (length before) r h.taken) (ap (rest_of n) e ∙ rest_last n now s)

    long : length lines ≡ length before + length h.taken
    long = ap length whole ∙ length-append before made ∙ ap (λ k. length before + k) (back_length c (length before) s.reduction.r h.taken)

-- the next step that is taken was by an equation
pub taken_place : (c : CaseState) (n : List Term) (all : List Step) (before : List Line) (left now : List Step) (s : Step) (from : Option Item) (lines : List Line) → left ≡ now ++ s ∷ [] → HasZeroRemainder c n all → AreLedBack c n all before left from lines → s.by < count c
taken_place c n all before left now s from lines e z h =
    let whole : all ≡ now ++ s ∷ h.taken = h.is_all ∙ ap (λ ss. ss ++ h.taken) e ∙ append_assoc now (s ∷ []) h.taken in
    let step = last_step (known c) (polys c) n now s h.taken (subst (AreNextSteps (known c) (polys c) n) whole z.each) in
    omega (arith, slice_get_within (polys c) s.by step.poly step.next.member, polys_length c.equations)

-- a known condition by its place
place_is : (ns : List (List Term)) (k : ℕ) (n : List Term) → k < length ns → n ≡ slice_index_or ns k n → n ≡ slice_index_or ns k []
place_is [] k n l e = absurd (omega (arith, l))
place_is (x ∷ xs) zero n l e = e
place_is (x ∷ xs) (suc k) n l e = place_is xs k n (omega (arith, l)) e

pub condition_is : (c : CaseState) (ns : List (List Term)) (k : ℕ) (n : List Term) → ns ≡ known c → k < length (known c) → n ≡ slice_index_or ns k n → n ≡ condition c k
condition_is c ns k n e l h = place_is (known c) k n l (h ∙ ap (λ ns. slice_index_or ns k n) e)
