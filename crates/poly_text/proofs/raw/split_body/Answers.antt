use Rattle.std.proofs.Common.{rules, ◌≡◌, ◌∙◌, ◌++◌, ◌∷◌, [], ℕ, List, Option, None, sym, ap, subst, arith, refl, length, true, false, if◌then◌else◌}
use Rattle.std.proofs.lemmas.Result.{err_from_is_err_and}
use Rattle.std.specs.List.{AllByRecursion}
use Rattle.poly_text.specs.State.{Signed, FactorEnd}
use Rattle.poly_text.specs.Numbers.{IsFactorInRange}
use Rattle.poly_text.specs.Scan.{first_of}
use Rattle.poly_text.specs.Fronts.{begins_with, IsLive, IsFactorFront, IsBodyFront, IsCoefficientRead}
use Rattle.poly_text.specs.Places.{is_falling, IsFactorPlace}
use Rattle.poly_text.proofs.Fronts.{live_behind, coefficient_read, bare_body, written_body}
use Rattle.poly_text.proofs.raw.split_body.Goals as goal

-- the first factor
one_factor : (u left : ℕ) (text further : List ℕ) (p : ℕ × ℕ) (old new : List (ℕ × ℕ)) (place o : Option ℕ) → IsFactorFront u text p further → old ≡ [] → place ≡ None → new ≡ old ++ p ∷ [] → o ≡ (if is_falling old p.0 then place else first_of place left) → (new ≡ p ∷ []) × AllByRecursion (IsFactorInRange u) new × IsFactorPlace new further o
one_factor u left text further p old new place o f e n q d =
    let a : new ≡ p ∷ [] = q ∙ ap (λ l. l ++ p ∷ []) e in
    let b : o ≡ None = d ∙ ap (λ l. if is_falling l p.0 then place else first_of place left) e ∙ n in
    (a, rw a (f.in_range, tt), rw (a, b) refl)

-- a coefficient 1
one_alone : (u n : ℕ) (text further : List ℕ) (powers : List (ℕ × ℕ)) (old new : Option ℕ) → begins_with text 120 ≡ false → IsCoefficientRead u old new text n further → n ≡ 1 → powers ≡ [] → IsLive u Signed text → IsBodyFront u text 1 powers further
one_alone u n text further powers old new b k e q live =
    let r = coefficient_read u text live b in
    let same = sym e ∙ k.value live in
    subst (λ ps. IsBodyFront u text 1 ps further) (sym q) (written_body u 1 text further further [] live b same k.behind (record {
      spelled = refl;
      in_range = tt;
      follows = rw k.behind (r.one (sym same));
      shorter = omega arith;
    }))

behind_coefficient : (u n : ℕ) (text further : List ℕ) (old new : Option ℕ) → begins_with text 120 ≡ false → IsCoefficientRead u old new text n further → IsLive u Signed text → IsLive u FactorEnd further
behind_coefficient u n text further old new b k live = rw k.behind (coefficient_read u text live b).live

pub returns-then-begins_with-clause-front : goal.returns-then-begins_with-clause-front
returns-then-begins_with-clause-front c = λ live.
    let u = c.args.unknowns in
    let text = c.args.text.now in
    let p = c.in_ok-power.power in
    let further = c.in_ok-power.further.now in
    let b : begins_with text 120 ≡ true = search rules in
    let f = c.in_ok-power.ensures.front (rw c.behind.ensures (live_behind u Signed 120 text b live)) in
    let one = one_factor u (length text) c.behind.result.now further p c.args.powers.now.items c.push_factor.new.powers.items c.args.disorder.now c.push_factor.new.disorder f c.requires.empty c.requires.none c.in_ok-push_factor.ensures.powers c.in_ok-push_factor.ensures.place in
    let g = c.in_ok-rest.ensures.front f.live one.1 in
    bare_body u text further c.in_ok-rest.rest.now p c.push_factors.new.powers.items b (rw c.behind.ensures at f) (rw one.0 at g)

pub returns-then-begins_with-clause-order : goal.returns-then-begins_with-clause-order
returns-then-begins_with-clause-order c = λ live.
    let u = c.args.unknowns in
    let text = c.args.text.now in
    let p = c.in_ok-power.power in
    let further = c.in_ok-power.further.now in
    let b : begins_with text 120 ≡ true = search rules in
    let f = c.in_ok-power.ensures.front (rw c.behind.ensures (live_behind u Signed 120 text b live)) in
    let one = one_factor u (length text) c.behind.result.now further p c.args.powers.now.items c.push_factor.new.powers.items c.args.disorder.now c.push_factor.new.disorder f c.requires.empty c.requires.none c.in_ok-push_factor.ensures.powers c.in_ok-push_factor.ensures.place in
    c.in_ok-rest.ensures.order f.live one.1 one.2

pub returns-in_err-size-clause-scan : goal.returns-in_err-size-clause-scan
returns-in_err-size-clause-scan c =
    let p = err_from_is_err_and c.from_residual-in_err-size.result c.from_residual-in_err-size.ensures.1 in
    rw (p.1, p.2) (c.in_err-size.ensures c.args.unknowns)

pub returns-then-size-eq1-clause-front : goal.returns-then-size-eq1-clause-front
returns-then-size-eq1-clause-front c = λ live.
    let u = c.args.unknowns in
    one_alone u c.in_ok-size.size c.args.text.now c.in_ok-size.further.now c.args.powers.now.items c.args.fault.now c.split_coefficient.new.fault (search rules) (c.in_ok-size.ensures u) c.if-size-eq1.true c.requires.empty live

pub returns-then-size-eq1-clause-shorter : goal.returns-then-size-eq1-clause-shorter
returns-then-size-eq1-clause-shorter c = (c.in_ok-size.ensures c.args.unknowns).shorter

pub returns-clause-front : goal.returns-clause-front
returns-clause-front c = λ live.
    let u = c.args.unknowns in
    let text = c.args.text.now in
    let further = c.in_ok-size.further.now in
    let k = c.in_ok-size.ensures u in
    let b : begins_with text 120 ≡ false = search rules in
    let all : AllByRecursion (IsFactorInRange u) c.args.powers.now.items = rw c.requires.empty tt in
    let g = c.in_ok-rest-2.ensures.front (behind_coefficient u c.in_ok-size.size text further c.args.fault.now c.split_coefficient.new.fault b k live) all in
    written_body u c.in_ok-size.size text further c.in_ok-rest-2.rest.now c.push_factors-2.new.powers.items live b (k.value live) k.behind (rw c.requires.empty at g)

pub returns-clause-order : goal.returns-clause-order
returns-clause-order c = λ live.
    let u = c.args.unknowns in
    let text = c.args.text.now in
    let further = c.in_ok-size.further.now in
    let k = c.in_ok-size.ensures u in
    let b : begins_with text 120 ≡ false = search rules in
    let all : AllByRecursion (IsFactorInRange u) c.args.powers.now.items = rw c.requires.empty tt in
    let place : IsFactorPlace c.args.powers.now.items further c.args.disorder.now = rw (c.requires.empty, c.requires.none) refl in
    c.in_ok-rest-2.ensures.order (behind_coefficient u c.in_ok-size.size text further c.args.fault.now c.split_coefficient.new.fault b k live) all place
