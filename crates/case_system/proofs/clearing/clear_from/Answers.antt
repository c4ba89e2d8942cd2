use Rattle.std.proofs.Common.{◌≡◌, ◌<◌, ◌≤◌, ◌+◌, ◌∷◌, [], length, sym, ◌∙◌, subst, drop, arith}
use Rattle.std.proofs.lemmas.Bool.{true≢false}
use Rattle.std.specs.Prelude.{slice_index_or}
use Rattle.case_system.proofs.Placing.{drop_one, drop_this, drop_end}
use Rattle.case_system.proofs.BeingCleared.{begun, passed_at, divided_out_at, cleared_at_last, out_of_form}
use Rattle.case_system.specs.CaseLines.{all_lines}
use Rattle.case_system.proofs.Joining.{grows_on, grows_none}
use Rattle.case_system.proofs.clearing.clear_from.Goals as goal

pub conditions-init : goal.conditions-init
conditions-init c = record { cleared = begun (drop c.args.from c.args.conditions.now) (all_lines c.args.lines.now) c.args.equation; grows = grows_none _ }

pub conditions-preserved-then-not-is_in_form : goal.conditions-preserved-then-not-is_in_form
conditions-preserved-then-not-is_in_form c =
    let within : c.conditions.i < length c.args.conditions.now = subst (λ ps. c.conditions.i < length ps) c.polys-polys.ensures c.conditions-test.true in
    record {
      cleared = passed_at _ _ _ _ _ (slice_index_or c.args.conditions.now c.conditions.i []) _ _ (drop_one c.args.conditions.now c.conditions.i [] within) c.conditions.invariant.cleared
          (out_of_form _ _ (λ i. true≢false (sym (c.is_in_form.ensures.1 i) ∙ c.if-not-is_in_form.true)));
      grows = c.conditions.invariant.grows;
    }

pub conditions-preserved : goal.conditions-preserved
conditions-preserved c =
    let here : drop c.conditions.i c.args.conditions.now ≡ c.index-polys-i.result ∷ drop (c.conditions.i + 1) c.args.conditions.now =
    subst (λ ps. drop c.conditions.i ps ≡ c.index-polys-i.result ∷ drop (c.conditions.i + 1) ps) c.polys-polys.ensures (drop_this _ _ _ c.conditions-test.true c.index-polys-i.is) in
    record {
      cleared = divided_out_at _ _ _ _ _ _ _ _ _ _ here c.conditions.invariant.cleared c.in_ok-now.ensures.cleared;
      grows = grows_on _ _ _ c.conditions.invariant.grows c.divide_out.ensures.grows;
    }

pub returns-clause-cleared : goal.returns-clause-cleared
returns-clause-cleared c =
    let all : length c.args.conditions.now ≤ c.conditions.i = subst (λ ps. length ps ≤ c.conditions.i) c.polys-polys.ensures (omega (arith, c.conditions-test.false)) in
    cleared_at_last _ _ _ _ _ _ (drop_end c.args.conditions.now c.conditions.i all) c.conditions.invariant.cleared
