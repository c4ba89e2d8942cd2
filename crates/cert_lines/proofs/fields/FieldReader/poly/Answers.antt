use Rattle.std.proofs.Common.{◌≤◌, ◌^◌, subst, arith, refl}
use Rattle.poly_text.specs.Reading.{IsTextFault}
use Rattle.cert_lines.proofs.Shaped.{poly_right, has_only}
use Rattle.cert_lines.proofs.PolyCases.{disordered_poly}
use Rattle.cert_lines.proofs.FieldCases.{good}
use Rattle.cert_lines.proofs.fields.FieldReader.poly.Goals as goal

pub returns-in-Ok : goal.returns-in-Ok
returns-in-Ok c =
    let q = c.in-Ok.ensures in
    let u = c.args.unknowns in
    let p = c.in-Ok.poly in
    let low : u ≤ 2 ^ 32 = omega arith in
    let only = has_only u p q.below in
    good (poly_right u p low q.poly only) c.in-Some.ensures.field q.spelled c.in-Some.ensures.notes (q.poly, only)

pub returns-in-Err-Order : goal.returns-in-Err-Order
returns-in-Err-Order c =
    let u = c.args.unknowns in
    let low : u ≤ 2 ^ 32 = omega arith in
    let h = subst (IsTextFault u c.in-Some.field.now) c.in-Err-Order.field-0-is c.in-Err-Order.ensures in
    disordered_poly _ low h c.in-Some.ensures.field refl c.in-Some.ensures.notes
