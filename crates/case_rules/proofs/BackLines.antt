-- The lines that lead back from a full remainder zero are good, and the last of them makes the condition.
use Rattle.std.specs.Prelude.{◌≡◌, ◌≢◌, ◌+◌, ◌<◌, List, [], ◌∷◌, ◌++◌, length, slice_get, refl}
use Rattle.std.proofs.Common.{arith, subst, sym, ◌∙◌, ap, append_assoc, append-nil, length-append}
use Rattle.std.proofs.lemmas.Option.{slice_get_within, get_or_from_slice_get}
use Rattle.std.specs.declared.option.Option.TheVariants.{Some}
use Rattle.sparse_poly.specs.declared.Term.{Term}
use Rattle.sparse_poly.specs.Contributions.{IsPoly, IsResult, contributions}
use Rattle.sparse_poly.specs.Reads.{degree_in, main_variable, leading_in}
use Rattle.sparse_poly.specs.Clearing.{IsUnit}
use Rattle.pseudo_rem.specs.declared.remainders.Step.{Step}
use Rattle.pseudo_rem.specs.Remainders.{AreNextSteps, IsNextStep, rest_of}
use Rattle.char_set.specs.Triangular.{initial_in}
use Rattle.derive_lines.specs.declared.parts.Line.{Line}
use Rattle.derive_lines.specs.declared.parts.Way.TheVariants.{Back}
use Rattle.derive_lines.specs.Lines.{made_poly, operand}
use Rattle.case_rules.specs.Cases.{CaseState, known, equation, poly, polys, count}
use Rattle.case_rules.specs.Rules.{IsSettled}
use Rattle.case_rules.specs.Ends.{last_line, back_lines}
use Rattle.case_rules.specs.Belonging.{Belongs}
use Rattle.case_rules.proofs.Belonging.{regular, fine}
use Rattle.case_rules.proofs.CanMoves.{leading_poly}
use Rattle.case_rules.proofs.Items.{AreFine, IsFineLine, item_lines, fine_more, at_seam}
use Rattle.case_rules.proofs.Nonzero.{leading_nonzero, power_nonzero}
use Rattle.case_rules.proofs.Regular.{IsSound, within_at, polys_at, polys_length}
use Rattle.case_rules.proofs.Sides.{step_sides}

module _ (root : List (List Term)) (c : CaseState) (b : Belongs root c) (settled : IsSettled c) where
  abbrev pub ls : List Line
  ls = c.lines

  -- a line that leads back
  abbrev pub back_line : List Term → Step → List Step → Line
  back_line n s ss = record { way = Back; from = last_line (length ls) (length ss); by = Some (equation c s.by).item; l = s.reduction.l; a = s.reduction.a; m = s.reduction.m; made = n }

  pub back_length : (n : List Term) (ss : List Step) → length (back_lines c (length ls) n ss) ≡ length ss
  back_length n [] = refl
  back_length n (s ∷ ss) = length-append (back_lines c (length ls) s.reduction.r ss) (back_line n s ss ∷ []) ∙ omega (arith, back_length s.reduction.r ss)

  pub record LeadBack (n : List Term) (ss : List Step) : Type 0 where
    pub fine : AreFine root c.decisions (ls ++ back_lines c (length ls) n ss)
    pub made : operand root c.decisions (ls ++ back_lines c (length ls) n ss) (last_line (length ls) (length ss)) ≡ Some n

  back_fine : (n : List Term) (s : Step) (ss : List Step) → IsNextStep (known c) (polys c) n s → LeadBack s.reduction.r ss → IsFineLine root c.decisions (ls ++ back_lines c (length ls) s.reduction.r ss) (back_line n s ss)
  back_fine n s ss h r = record {
    good = record {
      from = s.reduction.r;
      by = poly c s.by;
      refers = record {
        from_is = r.made;
        by_is = item_lines root c.decisions ls (back_lines c (length ls) s.reduction.r ss) (equation c s.by).item (poly c s.by) (b.items s.by place);
        by_fits = subst (λ a. a ≢ []) (sym h.reduction.a_is) (power_nonzero h.var _ (leading_in h.var n) (leading_nonzero h.var n some));
        from_fits = tt;
      };
      unit = subst (IsUnit (known c)) (sym l_is) decided;
      sides = step_sides (known c) (contributions s.reduction.l n s.reduction.a (poly c s.by)) h.reduction.is_step.combined s.reduction.m s.reduction.r
          (subst (λ p. IsResult (contributions s.reduction.l n s.reduction.a p) h.reduction.is_step.combined) (sym same) h.reduction.is_step.result) h.reduction.is_step.stripped;
    };
    multiplier = subst IsPoly (sym l_is) (leading_poly h.var (poly c s.by) (within_at IsSound c.equations s.by place (regular root c b)).poly);
  }
    where
      place : s.by < count c
      place = let l = slice_get_within (polys c) s.by h.poly h.next.member in omega (arith, l, polys_length c.equations)

      same : poly c s.by ≡ h.poly
      same = sym (polys_at c.equations s.by [] place) ∙ get_or_from_slice_get (polys c) s.by h.poly [] h.next.member

      some : n ≢ []
      some z = let low = h.next.due.can.occurs in let high = h.next.due.can.below in absurd (omega (arith, low, high, ap (degree_in h.var) z))

      l_is : s.reduction.l ≡ leading_in h.var (poly c s.by)
      l_is = h.reduction.l_is ∙ ap (leading_in h.var) (sym same)

      decided : IsUnit (known c) (leading_in h.var (poly c s.by))
      decided = subst (IsUnit (known c)) (ap (λ o. initial_in o (poly c s.by)) (ap main_variable same ∙ h.next.due.main)) (settled.decided s.by place)

  pub lead_back : (n : List Term) (ss : List Step) → AreNextSteps (known c) (polys c) n ss → rest_of n ss ≡ [] → LeadBack n ss
  lead_back n [] h z = record {
    fine = subst (AreFine root c.decisions) (sym (append-nil ls)) (fine root c b);
    made = ap Some (sym z);
  }
  lead_back n (s ∷ ss) h z =
      let r : LeadBack s.reduction.r ss = lead_back s.reduction.r ss h.1 z in
      let before : List Line = back_lines c (length ls) s.reduction.r ss in
      let whole : (ls ++ before) ++ back_line n s ss ∷ [] ≡ ls ++ (before ++ back_line n s ss ∷ []) = append_assoc ls before (back_line n s ss ∷ []) in
      let long : length (ls ++ before) ≡ length ls + length ss = length-append ls before ∙ ap (λ k. length ls + k) (back_length s.reduction.r ss) in
      record {
        fine = subst (AreFine root c.decisions) whole (fine_more root c.decisions (ls ++ before) (back_line n s ss) r.fine (back_fine n s ss h.0 r));
        made = ap made_poly (ap (λ xs. slice_get xs (length ls + length ss)) (sym whole) ∙ ap (slice_get ((ls ++ before) ++ back_line n s ss ∷ [])) (sym long) ∙ at_seam (ls ++ before) (back_line n s ss) []);
      }
