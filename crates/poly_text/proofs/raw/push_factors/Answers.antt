use Rattle.std.proofs.Common.{rules, ◌≡◌, ◌∙◌, ◌++◌, ◌∷◌, arith, sym, ap, subst, refl, drop, length, true}
use Rattle.poly_text.specs.Text.{more_factors}
use Rattle.poly_text.specs.State.{Times, FactorEnd}
use Rattle.poly_text.specs.Scan.{scan}
use Rattle.poly_text.specs.Fronts.{begins_with, IsFactorFront}
use Rattle.poly_text.proofs.Fronts.{FactorsMore, drop_two, length_behind, star_read, factors_more, factors_end}
use Rattle.poly_text.proofs.Scans.{byte_scan}
use Rattle.poly_text.proofs.Places.{factor_place_more}
use Rattle.poly_text.proofs.raw.push_factors.Goals as goal

pub factors-preserved : goal.factors-preserved
factors-preserved c =
    let u = c.args.unknowns in
    let text = c.args.text.now in
    let rest = c.factors.rest.now in
    let further = c.in_ok-power.further.now in
    let p = c.in_ok-power.power in
    let f = c.factors.fault in
    let start = more_factors c.args.powers.now.items ++ text in
    let b : begins_with rest 42 ≡ true = search rules in
    let one = length_behind 42 rest b in
    let two : drop 1 c.behind-factor.result.now ≡ drop 2 rest = ap (drop 1) c.behind-factor.ensures ∙ drop_two rest in
    let z = c.in_ok-power.ensures.shorter in
    let e = ap length c.behind-factor.ensures in
    let s = c.factors.invariant.shorter in
    let front : FactorsMore u start text c.factors.powers.items rest → IsFactorFront u (drop 2 rest) p further = λ m. subst (λ t. IsFactorFront u t p further) two (c.in_ok-power.ensures.front (rw two (star_read u rest m.live b).live)) in
    record {
      same = c.factors.invariant.same ∙ byte_scan u f FactorEnd Times 42 rest b refl refl refl ∙ ap (scan u f Times) (sym c.behind-factor.ensures) ∙ c.in_ok-power.ensures.scan;
      front = λ live all. (let m = c.factors.invariant.front live all in factors_more u start text rest further c.factors.powers.items c.push_factor.new.powers.items p m.spelled m.in_range m.live m.shorter b (front m) c.in_ok-push_factor.ensures.powers);
      order = λ live all place. (
          let m = c.factors.invariant.front live all in
          let spelled = (star_read u rest m.live b).spelled ∙ ap (λ l. 42 ∷ l) (front m).spelled in
          factor_place_more c.factors.powers.items c.push_factor.new.powers.items p rest further c.factors.disorder c.push_factor.new.disorder (length c.behind-factor.result.now) (c.factors.invariant.order live all place) spelled c.in_ok-push_factor.ensures.powers (omega (arith, one, e)) c.in_ok-push_factor.ensures.place);
      shorter = omega (arith, one, e, z, s);
    }

pub returns-clause-front : goal.returns-clause-front
returns-clause-front c = λ live all.
    let m = c.factors.invariant.front live all in
    record {
      spelled = m.spelled;
      in_range = m.in_range;
      follows = factors_end c.args.unknowns c.factors.rest.now m.live (search rules);
      shorter = m.shorter;
    }
