use Rattle.std.proofs.lemmas.Result.{err_from_is_err_and}
use Rattle.std.proofs.Common.{rules, ◌≡◌, ◌<◌, ◌^◌, ◌∙◌, Err, sym, ap, arith, refl, drop, length, true}
use Rattle.poly_text.specs.State.{Letter, VariableZero, Caret}
use Rattle.poly_text.specs.Numbers.{number_from, after_digits}
use Rattle.poly_text.specs.Scan.{scan}
use Rattle.poly_text.specs.Fronts.{begins_with, IsLive}
use Rattle.poly_text.proofs.Fronts.{after_digits-le, length_behind, caret_live, bare_factor, power_factor}
use Rattle.poly_text.proofs.Scans.{byte_scan}
use Rattle.poly_text.proofs.raw.split_factor.Goals as goal

pub returns-in_err-exponent-clause-scan : goal.returns-in_err-exponent-clause-scan
returns-in_err-exponent-clause-scan c =
    let u = c.args.unknowns in
    let f = c.split_variable.new.fault in
    let old = scan u c.args.fault.now Letter c.args.text.now in
    let b : begins_with c.in_ok-variable.rest.now 94 ≡ true = search rules in
    let e : old ≡ scan u f Caret c.behind.result.now = c.in_ok-variable.ensures.same ∙ byte_scan u f VariableZero Caret 94 c.in_ok-variable.rest.now b refl refl refl ∙ ap (scan u f Caret) (sym c.behind.ensures) in
    let h : old ≡ Err c.in_err-exponent.field-0.0.left = rw e (c.in_err-exponent.ensures u) in
    let p = err_from_is_err_and c.from_residual-in_err-exponent.result c.from_residual-in_err-exponent.ensures.1 in
    rw (p.1, p.2) h

pub returns-in_ok-exponent-clause-front : goal.returns-in_ok-exponent-clause-front
returns-in_ok-exponent-clause-front c = λ live.
    let u = c.args.unknowns in
    let fits : u < 2 ^ 32 = search rules in
    let text = c.args.text.now in
    let rest = c.in_ok-variable.rest.now in
    let b : begins_with rest 94 ≡ true = search rules in
    let l : IsLive u Caret (drop 1 rest) = caret_live u text rest fits live c.in_ok-variable.ensures.behind b in
    let k = c.in_ok-exponent.ensures u in
    power_factor u text c.in_ok-variable.variable c.in_ok-exponent.exponent rest c.in_ok-exponent.further.now fits live (c.in_ok-variable.ensures.value live) c.in_ok-variable.ensures.behind b ((k.value (rw c.behind.ensures l)) ∙ ap (number_from 0) c.behind.ensures) (k.behind ∙ ap after_digits c.behind.ensures)

pub returns-in_ok-exponent-clause-shorter : goal.returns-in_ok-exponent-clause-shorter
returns-in_ok-exponent-clause-shorter c =
    let text = c.args.text.now in
    let rest = c.in_ok-variable.rest.now in
    let b : begins_with rest 94 ≡ true = search rules in
    let one = length_behind 94 rest b in
    let first = ap length c.in_ok-variable.ensures.behind in
    let second = ap length (c.in_ok-exponent.ensures c.args.unknowns).behind in
    let behind = ap (λ l. length (after_digits l)) c.behind.ensures in
    let le = after_digits-le text in
    let less = after_digits-le (drop 1 rest) in
    omega (arith, one, first, second, behind, le, less)

pub returns-else-begins_with-clause-front : goal.returns-else-begins_with-clause-front
returns-else-begins_with-clause-front c = λ live.
    let fits : c.args.unknowns < 2 ^ 32 = search rules in
    bare_factor c.args.unknowns c.args.text.now c.in_ok-variable.variable c.in_ok-variable.rest.now fits live (c.in_ok-variable.ensures.value live) c.in_ok-variable.ensures.behind (search rules)

pub returns-else-begins_with-clause-shorter : goal.returns-else-begins_with-clause-shorter
returns-else-begins_with-clause-shorter c =
    let e = ap length c.in_ok-variable.ensures.behind in
    let le = after_digits-le c.args.text.now in
    omega (arith, e, le)
